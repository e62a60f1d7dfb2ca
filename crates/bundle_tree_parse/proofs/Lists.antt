-- A list that is not taken, or of which something is left, is of nothing that may stand there, and so of no tree.
use Rattle.std.proofs.Common.{◌≡◌, ℕ, ◌≤◌, true, false, List, [], length, map, append-nil, arith, Option, Some, None, sym, ap, subst, ◌∙◌}
use Rattle.std.proofs.lemmas.Bool.{false≢true}
use Rattle.std.proofs.lemmas.Grind.{common_steps}
use Rattle.std.proofs.lemmas.List.{length-map}
use Rattle.std.specs.List.{flat_map}
use Rattle.bundle_syntax.specs.declared.piece.Piece.{Piece}
use Rattle.bundle_syntax.specs.Item.{Item, item_of}
use Rattle.bundle_tree_listed.specs.Tree.{key_value_prop_items, module_items}
use Rattle.bundle_tree_parse.specs.Sorts.{Sort, AModule, AKeyValue}
use Rattle.bundle_tree_parse.specs.Parse.{after_each, taken}
use Rattle.bundle_tree_parse.specs.Refused.{IsListOfNoModule, IsListOfNoProperties}
use Rattle.bundle_tree_parse.specs.Standing.{IsIn, AreEach}
use Rattle.bundle_tree_parse.proofs.Trees.{module_in, properties_in}
use Rattle.bundle_tree_parse.proofs.Whole.{whole_node, whole_row}

none_is : {A : Type 0} {it : A} → None ≡ Some it → ⊥
none_is {A} e = false≢true (ap (λ (o : Option A). elim o [ None ↦ false | Some _ ↦ true ]) e)

left_in : Option (List Item) → List Item
left_in None = []
left_in (Some list) = list

same_left : (list other : List Item) → Some list ≡ Some other → list ≡ other
unfolding left_in
same_left list other e = ap left_in e

-- all of the pieces of what may stand there is taken
node_taken : (sort : Sort) (pieces : List Piece) → IsIn sort 0 (map item_of pieces) → taken (length pieces) sort 0 (map item_of pieces) ≡ Some []
node_taken sort pieces is = subst (λ list. taken (length pieces) sort 0 list ≡ Some []) (append-nil (map item_of pieces)) (whole_node is (length pieces) [] (rw length-map (omega arith)))

row_taken : (sort : Sort) (pieces : List Piece) → AreEach sort 0 (map item_of pieces) → after_each (taken (length pieces) sort 0) 0 (length (map item_of pieces)) (map item_of pieces) ≡ Some []
row_taken sort pieces are = whole_row are (length pieces) (length (map item_of pieces)) (rw length-map (omega arith)) (omega arith)

pub no_node : (sort : Sort) (pieces : List Piece) → taken (length pieces) sort 0 (map item_of pieces) ≡ None → IsIn sort 0 (map item_of pieces) → ⊥
no_node sort pieces e is = none_is (sym e ∙ node_taken sort pieces is)

pub no_whole_node : (sort : Sort) (pieces : List Piece) (left : List Item) → taken (length pieces) sort 0 (map item_of pieces) ≡ Some left → (left ≡ [] → ⊥) → IsIn sort 0 (map item_of pieces) → ⊥
no_whole_node sort pieces left e more is = more (same_left left [] (sym e ∙ node_taken sort pieces is))

pub no_row : (sort : Sort) (pieces : List Piece) → after_each (taken (length pieces) sort 0) 0 (length (map item_of pieces)) (map item_of pieces) ≡ None → AreEach sort 0 (map item_of pieces) → ⊥
no_row sort pieces e are = none_is (sym e ∙ row_taken sort pieces are)

pub no_whole_row : (sort : Sort) (pieces : List Piece) (left : List Item) → after_each (taken (length pieces) sort 0) 0 (length (map item_of pieces)) (map item_of pieces) ≡ Some left → (left ≡ [] → ⊥) → AreEach sort 0 (map item_of pieces) → ⊥
no_whole_row sort pieces left e more are = more (same_left left [] (sym e ∙ row_taken sort pieces are))

-- what is not of the sort is of no tree of it
pub no_module : (items : List Item) → (IsIn AModule 0 items → ⊥) → IsListOfNoModule items
no_module items not_in it is = not_in (subst (IsIn AModule 0) is (module_in 0 it))

pub no_properties : (items : List Item) → (AreEach AKeyValue 0 items → ⊥) → IsListOfNoProperties items
no_properties items not_in list is = not_in (subst (AreEach AKeyValue 0) is (properties_in 0 list))

-- all of them, as the proofs use them
pub ruleset lists = (
  common_steps,
  no_node,
  no_whole_node,
  no_row,
  no_whole_row,
)
