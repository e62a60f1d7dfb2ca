-- Aliases: what is one, and what is none.
use Rattle.std.proofs.Common.{◌≡◌, ℕ, zero, suc, ◌<◌, true, List, [], ◌∷◌, ◌++◌, length, None, refl, sym, ap, ◌∙◌, arith, lit<, true≢false}
use Rattle.std.specs.Prelude.{codes, slice_index_or}
use Rattle.bundle_syntax.specs.declared.kind.ExportMetadata.{ExportMetadata}
use Rattle.bundle_syntax.specs.declared.kind.VarDeclKind.TheVariants.{Const}
use Rattle.bundle_syntax.specs.Item as h
use Rattle.bundle_syntax.specs.Item.{Item}
use Rattle.bundle_rules.specs.Nodes.{Text}
use Rattle.bundle_rules.specs.Statements.{no_notes}
use Rattle.bundle_rules.specs.Sorting.{is_injected}
use Rattle.bundle_rules.specs.Idents.{Ident}
use Rattle.bundle_rules.specs.Aliases.{alias_item, MakesAlias, IsAlias, ChainEnd, here, further, Inlines, over, goes, stays}
use Rattle.bundle_rules.specs.Parts.{Owned, Parts, parts_of, in_order}
use Rattle.bundle_rules.proofs.Trees.{node, binds, uses, number, calls}

abbrev noted : ExportMetadata
noted = record { injected = true; export_ctxt = None }

-- `const a = b;`, with this noted
abbrev constant : ExportMetadata → List Item → List Item
constant meta value = node 0 (h.VarDecl Const meta) (node 1 h.VarDeclarator (node 0 h.BindingIdent (binds 0 (codes "a")) ++ value))

-- the linker's `const a = b;` makes a an alias of b
is_alias : MakesAlias (constant noted (uses 1 (codes "b"))) (codes "a", 0) (codes "b", 0)
is_alias = record { meta = noted; is = refl; noted = refl }

-- the source's own `const a = b;` makes none, and neither does `const a = 1;`
own_is_none : (a b : Text × ℕ) → MakesAlias (constant no_notes (uses 1 (codes "b"))) a b → ⊥
own_is_none a b makes = true≢false (sym (ap is_injected makes.is ∙ makes.noted))

number_is_none : (a b : Text × ℕ) → MakesAlias (constant noted (number 1 (codes "1"))) a b → ⊥
number_is_none a b makes = let e : ◌≡◌ {A = ℕ} 9 8 = ap length makes.is in grind arith

-- `const a = b; use(a);` of module 0 becomes `use(b);`
abbrev before : Parts
before = parts_of 0 (constant noted (uses 1 (codes "b")) ∷ calls (codes "use") (uses 1 (codes "a")) ∷ [])

abbrev after : Parts
after = parts_of 0 (calls (codes "use") (uses 1 (codes "b")) ∷ [])

-- the call makes no alias, and a is the only one
call_is_none : (a b : Ident) → MakesAlias (calls (codes "use") (uses 1 (codes "a"))) a b → ⊥
call_is_none a b makes = cc makes.is

only_a : (from to : Ident) → IsAlias before from to → from.0 ≡ codes "a"
only_a from to is = at is.there.0 is.there.1 is.there.2
  where
    at : (i : ℕ) → i < 2 → slice_index_or (in_order before) i is.one ≡ is.one → from.0 ≡ codes "a"
    at zero b q = name_of_first (ap (λ (pair : Owned). pair.1) q ∙ is.makes.is)
      where
        name_of_first : constant noted (uses 1 (codes "b")) ≡ alias_item is.makes.meta from to → from.0 ≡ codes "a"
        name_of_first e = cc
    at (suc zero) b q = absurd (call_is_none from to (record { meta = is.makes.meta; is = ap (λ (pair : Owned). pair.1) q ∙ is.makes.is; noted = is.makes.noted }))
    at (suc (suc i)) b q = grind arith

a_is_b : IsAlias before (codes "a", 0) (codes "b", 0)
a_is_b = record { one = (0, constant noted (uses 1 (codes "b"))); there = (0, lit< tt, refl); makes = is_alias }

abbrev first_byte : Text → ℕ
first_byte [] = 0
first_byte (byte ∷ rest) = byte

b_is_not_a : codes "b" ≡ codes "a" → ⊥
b_is_not_a e = let bytes : ◌≡◌ {A = ℕ} 98 97 = ap first_byte e in grind arith

ends_there : (x : Text) → (x ≡ codes "a" → ⊥) → ChainEnd (IsAlias before) (x, 0) (x, 0)
ends_there x other = here (λ b is. other (only_a (x, 0) b is))

inlined : Inlines before after
inlined = record {
  prepended = over;
  bodies = goes is_alias (stays call_is_none (record {
    same = refl;
    names = (ends_there (codes "use") (λ e. cc), (further a_is_b (ends_there (codes "b") b_is_not_a), tt));
  }) over);
  appended = over;
}
