-- Steps for the names of a statement of a CommonJS module: each name keeps its symbol, but for
-- those of literal calls, which become names of load functions.
use Rattle.std.specs.Prelude.{◌≡◌, ℕ, true, false, List, [], ◌∷◌, Option}
use Rattle.bundle_syntax.specs.declared.piece.Role.{Role}
use Rattle.bundle_syntax.specs.declared.piece.Role.TheVariants as r
use Rattle.bundle_syntax.specs.Item as h
use Rattle.bundle_syntax.specs.Item.{Item, Head}
use Rattle.bundle_tree_places.specs.Edits.{is_occurrence}
use Rattle.bundle_tree_rebuild.specs.declared.rewrite.Whole.TheVariants as w
use Rattle.bundle_tree_rebuild.specs.Work.{Step}
use Rattle.bundle_rules.specs.Nodes.{Text}
use Rattle.bundle_rules.specs.Idents.{Ident}
use Rattle.bundle_rules.specs.Callable.{is_module_head}
use Rattle.bundle_merge_theory.specs.loaded.Walk.{KeepsIt}

-- these steps belong to the occurrences of these elements in turn, where `L` tells the names of
-- load functions
pub data Suits (L : Ident → Type 0) : List Item → List Step → Type 0 where
  nothing : Suits L [] []
  begun : {field : ℕ} {head : Head} {rest : List Item} {steps : List Step} →
      is_module_head head ≡ false →
      Suits L rest steps →
      Suits L (h.Open field head ∷ rest) steps
  ended : {rest : List Item} {steps : List Step} →
      Suits L rest steps →
      Suits L (h.Close ∷ rest) steps
  empty : {field : ℕ} {rest : List Item} {steps : List Step} →
      Suits L rest steps →
      Suits L (h.Hole field ∷ rest) steps
  word : {field ctxt : ℕ} {x : Text} {role : Role} {rest : List Item} {steps : List Step} →
      is_occurrence role ≡ false →
      Suits L rest steps →
      Suits L (h.Ident field x ctxt role ∷ rest) steps
  -- a name keeps its symbol
  named : {field ctxt : ℕ} {x : Text} {role : Role} {rest : List Item} {step : Step}
      {steps : List Step} →
      is_occurrence role ≡ true →
      KeepsIt step x →
      step.whole ≡ w.Alone →
      Suits L rest steps →
      Suits L (h.Ident field x ctxt role ∷ rest) (step ∷ steps)
  -- a literal call
  called : {field callee ctxt outer inner : ℕ} {x value : Text} {raw : Option Text}
      {rest : List Item} {step : Step} {steps : List Step} →
      L step.ident →
      step.whole ≡ w.Call →
      Suits L rest steps →
      Suits L
      (h.Open field h.CallExpr ∷ h.Ident callee x ctxt r.Reference ∷ h.Open outer
      (h.ExprOrSpread false) ∷ h.Open inner (h.Str value raw) ∷ h.Close ∷ h.Close ∷ h.Close ∷
      rest)
      (step ∷ steps)
