-- The function of a CommonJS module in a bundle: what stands before its statements, and behind
-- them.
use Rattle.std.specs.Prelude.{◌≡◌, ℕ, zero, suc, false, List, [], ◌∷◌, ◌++◌, None}
use Rattle.bundle_syntax.specs.declared.kind.VarDeclKind.TheVariants.{Var}
use Rattle.bundle_syntax.specs.declared.piece.Role.TheVariants.{Binding, Reference}
use Rattle.bundle_syntax.specs.Item as h
use Rattle.bundle_syntax.specs.Item.{Item, Head}
use Rattle.bundle_rules.specs.Idents.{Ident}
use Rattle.bundle_rules.specs.Shorthands.{is_object, is_shorthand_in_pattern}
use Rattle.bundle_rules.specs.Cleared.{cleared_head}
use Rattle.bundle_rules.specs.Statements.{no_notes}
use Rattle.bundle_rules.specs.Marks as m
use Rattle.bundle_rules.specs.Meaning.{Mark}
use Rattle.bundle_tree_places.specs.Edits.{Anywhere}
use Rattle.bundle_merge_theory.specs.noted.Marked.{Note, Marked}
use Rattle.bundle_merge_injected.specs.Listed.{named, pattern_of, parameter}

-- nodes that begin, with whole nodes between: which marks they have
pub data MarkedFront : List Note → List Item → List Mark → List Note → Type 0 where
  Done : {notes : List Note} → MarkedFront notes [] [] notes
  Opens : {notes rest : List Note} {items : List Item} {marks : List Mark} (field : ℕ)
      (head : Head) → is_object head ≡ false → is_shorthand_in_pattern head ≡ false →
      MarkedFront notes items marks rest →
      MarkedFront notes (h.Open field head ∷ items) (m.Begins field (cleared_head head) ∷ marks)
      rest
  Nodes : {notes between rest : List Note} {first items : List Item} {marks more : List Mark} →
      Marked None Anywhere notes first marks between → MarkedFront between items more rest →
      MarkedFront notes (first ++ items) (marks ++ more) rest

-- so many ends
abbrev pub closes : ℕ → List Item
closes zero = []
closes (suc n) = h.Close ∷ closes n

abbrev pub closing_marks : ℕ → List Mark
closing_marks zero = []
closing_marks (suc n) = m.Ends ∷ closing_marks n

-- `var load = helper(function (m, e) {`
abbrev pub load_front_items : (load helper m e : Ident) → List Item
load_front_items load helper m e =
    h.Open 0 (h.VarDecl Var no_notes) ∷ h.Open 1 h.VarDeclarator
    ∷ (pattern_of 0 Binding load
    ++ h.Open 1 h.CallExpr
    ∷ (named 0 Reference helper
    ++ h.Open 1 (h.ExprOrSpread false) ∷ h.Open 1 h.FnExpr ∷ h.Open 1 (h.Function false false)
    ∷ (parameter m ++ (parameter e ++ h.Open 1 h.BlockStmt ∷ []))))
