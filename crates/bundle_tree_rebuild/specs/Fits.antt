-- Which lists a walk makes anew as `Becomes` says: those of nodes one after the other, where a few
-- nodes stand just where the grammar has them.
use Rattle.std.specs.Prelude.{◌≡◌, ℕ, ◌==◌, ◌&&◌, Bool, true, false, not, List, [], ◌∷◌, ◌++◌, None}
use Rattle.bundle_syntax.specs.declared.piece.Role.{Role}
use Rattle.bundle_syntax.specs.Item as h
use Rattle.bundle_syntax.specs.Item.{Item, Head}
use Rattle.bundle_rules.specs.Nodes.{Text}
use Rattle.bundle_tree_places.specs.Edits.{Around, Anywhere, InObject, InSpecifier, is_occurrence, around_in, binding, is_second_plain}
use Rattle.bundle_tree_rebuild.specs.declared.kind.NodeKind.{NodeKind}
use Rattle.bundle_tree_rebuild.specs.declared.kind.NodeKind.TheVariants as k
use Rattle.bundle_tree_rebuild.specs.Walked.{kind_of}

abbrev pub is_anywhere : Around → Bool
is_anywhere Anywhere = true
is_anywhere InObject = false
is_anywhere InSpecifier = false

abbrev pub is_empty : List Item → Bool
is_empty [] = true
is_empty (x ∷ rest) = false

abbrev pub begins_with_hole : List Item → Bool
begins_with_hole (h.Hole field ∷ rest) = true
begins_with_hole _ = false

-- whether a member expression that stands first is in field 1, as what is assigned to is, and what
-- an optional chain begins with
abbrev pub has_member_in_1 : List Item → Bool
has_member_in_1 (h.Open field h.MemberExpr ∷ rest) = field == 1
has_member_in_1 _ = true

-- whether a node stands where it may: in an object literal and in a specifier no name stands for
-- it; shorthand properties of patterns stand for themselves
abbrev pub is_fit : NodeKind → Around → (inside : List Item) → Bool
is_fit k.Ordinary around inside = true
is_fit k.Object around inside = true
is_fit k.Specifier around inside = is_second_plain inside && not (begins_with_hole inside)
is_fit k.Assignment around inside = has_member_in_1 inside
is_fit k.Member around inside = is_anywhere around
is_fit k.Call around inside = true
is_fit k.ImportMeta around inside = is_anywhere around && is_empty inside
is_fit k.Shorthand around inside = false

-- nodes, names and empty places one after the other, each where it may stand
pub data Fits : Around → List Item → Type 0 where
  Nothing : {around : Around} → Fits around []
  Hole : {around : Around} {rest : List Item} (field : ℕ) → Fits around rest →
      Fits around (h.Hole field ∷ rest)
  Name :
      {around : Around} {rest : List Item} (field : ℕ) (x : Text) (ctxt : ℕ) (role : Role) →
      Fits around rest →
      Fits around (h.Ident field x ctxt role ∷ rest)
  Node :
      {around : Around} {inside rest : List Item} (field : ℕ) (head : Head) →
      is_fit (kind_of head) around inside ≡ true →
      Fits (around_in head inside) inside →
      Fits around rest →
      Fits around (h.Open field head ∷ (inside ++ h.Close ∷ rest))
  Shorthand :
      {around : Around} {default rest : List Item} (field : ℕ) (x : Text) (ctxt : ℕ)
      (role : Role) →
      is_occurrence role ≡ true →
      Fits Anywhere default →
      Fits around rest →
      Fits around
      (h.Open field h.AssignPatProp ∷ ((binding None 0 x ctxt role ++ default) ++ h.Close ∷ rest))
