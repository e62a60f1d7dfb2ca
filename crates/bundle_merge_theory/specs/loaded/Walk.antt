-- What a walk over a statement of a CommonJS module does that gives each name its symbol with a
-- context, and each literal call of `require` a load function.
use Rattle.std.specs.Prelude.{◌≡◌, ℕ, false, List, [], ◌∷◌, Option, ⊤}
use Rattle.bundle_syntax.specs.declared.piece.Role.TheVariants as r
use Rattle.bundle_syntax.specs.Item as h
use Rattle.bundle_syntax.specs.Item.{Item}
use Rattle.bundle_rules.specs.Nodes.{Text}
use Rattle.bundle_rules.specs.Idents.{Ident}
use Rattle.bundle_tree_places.specs.Edits.{Around}
use Rattle.bundle_merge_theory.specs.walked.Work.{Step, Work, is_spelled_out_by}
use Rattle.bundle_merge_theory.specs.walked.Rewrites.{Rewrites, Nothing, Joined, Hole, Word, Name, Inside, Declaration, Kept, Shorthand, OfReads, OfCall, OfMeta}
use Rattle.bundle_rules.specs.Callable.{is_module_head}

-- a name that refers, and one string as an argument, not spread
pub record IsLiteral (inside : List Item) : Type 0 where
  pub callee : ℕ
  pub x : Text
  pub ctxt : ℕ
  pub outer : ℕ
  pub inner : ℕ
  pub value : Text
  pub raw : Option Text
  pub is : inside ≡ h.Ident callee x ctxt r.Reference ∷ h.Open outer (h.ExprOrSpread false)
      ∷ h.Open inner (h.Str value raw) ∷ h.Close ∷ h.Close ∷ []

-- a step that keeps the symbol of its occurrence, so that nothing is spelled out
pub record KeepsIt (step : Step) (x : Text) : Type 0 where
  pub symbol : step.ident.0 ≡ x
  pub short : is_spelled_out_by step.spelling step.ident.0 x ≡ false

-- the walk does so
abbrev pub IsFine : (L : Ident → Type 0) {around : Around} {work rest : Work}
    {before made : List Item} →
    Rewrites around work before made rest → Type 0
IsFine L Nothing = ⊤
IsFine L (Joined first second) = IsFine L first × IsFine L second
IsFine L (Hole field) = ⊤
IsFine L (Word field x ctxt role is) = ⊤
IsFine L (Name around field x ctxt role step is free takes) = KeepsIt step x
IsFine L (Inside field head stays one) = (is_module_head head ≡ false) × IsFine L one
IsFine L (Declaration field kind notes one) = IsFine L one
IsFine L (Kept field head first keeps one more) =
    (is_module_head head ≡ false) × IsFine L one × IsFine L more
IsFine L (Shorthand field x ctxt role step is takes one) = KeepsIt step x × IsFine L one
IsFine L (OfReads field name inside is) = ⊥
IsFine L (OfCall field name inside is) = IsLiteral inside × L name
IsFine L (OfMeta field kind name is) = ⊥
