-- What is told of the names of a statement of a CommonJS module, one by one.
use Rattle.std.specs.Prelude.{◌≡◌, ℕ, false, List, [], ◌∷◌, Contains, ⊤}
use Rattle.bundle_rules.specs.Places.{Occurrence, is_binding}
use Rattle.bundle_rules.specs.Scopes.{Cjs}
use Rattle.bundle_rules.specs.Declarations.{BySymbol, Declared}
use Rattle.bundle_rules.specs.Denotes.{Denoted, denoted_of}
use Rattle.bundle_rules.specs.Idents.{Ident, ident_of}
use Rattle.bundle_rules.specs.Meaning.{Label, Meant, Known, is_inside}
use Rattle.bundle_scope_names.proofs.Numbering.{Numbering}
use Rattle.bundle_merge_theory.specs.loaded.Kept.{KeepsName}
use Rattle.bundle_merge_theory.specs.loaded.Names.{LabelTable, NamedAs}

-- a name of the module, which becomes that name of the body: it is kept, and means this in the
-- module; or it is the callee of a literal call of `require`, and becomes the name of a load
-- function
pub data ToldInFunction (table : LabelTable) (L : Ident → Type 0) (c : ℕ) (g : Numbering)
    (ds : List Declared)
    (inner : List Denoted) (o u : Occurrence) : Meant → Type 0 where
  told_kept : {meant : Meant} → KeepsName g ds o u →
      NamedAs c inner (denoted_of BySymbol Cjs ds o) meant →
      ToldInFunction table L c g ds inner o u meant
  told_load : {l : Label} → L (ident_of u) → is_binding u.role ≡ false →
      is_inside 0 (denoted_of BySymbol Cjs ds o) ≡ false → Contains table (ident_of u, l) →
      ToldInFunction table L c g ds inner o u (Known l)

-- each in turn
abbrev pub AreToldInTurn : (table : LabelTable) (L : Ident → Type 0) (c : ℕ) (g : Numbering)
    (ds : List Declared) (inner : List Denoted) →
    List Occurrence → List Occurrence → List Meant → Type 0
AreToldInTurn table L c g ds inner [] [] [] = ⊤
AreToldInTurn table L c g ds inner (o ∷ os) (u ∷ us) (meant ∷ meants) =
    ToldInFunction table L c g ds inner o u meant × AreToldInTurn table L c g ds inner os us meants
AreToldInTurn table L c g ds inner _ _ _ = ⊥
