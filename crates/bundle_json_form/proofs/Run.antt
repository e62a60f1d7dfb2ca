-- The list of a tree, run through element by element, gives the form of the tree.
use Rattle.std.proofs.Common.{◌≡◌, ℕ, List, [], ◌∷◌, ◌++◌, true, false, refl, sym, ap, ◌∙◌, append_assoc, arith}
use Rattle.std.specs.Prelude.{◌==◌}
use Rattle.serde_json.specs.Data.{Data, null, array, object, item, Members, put}
use Rattle.serde_json.specs.View.{items_of}
use Rattle.bundle_syntax.specs.declared.piece.Role.TheVariants.{Reference}
use Rattle.bundle_syntax.specs.Item as h
use Rattle.bundle_syntax.specs.Item.{Item, Head}
use Rattle.bundle_json_form.specs.declared.layout.Shape.{Shape}
use Rattle.bundle_json_form.specs.declared.layout.Shape.TheVariants as s
use Rattle.bundle_json_form.specs.Form.{Field, node_fields, Tree, ident, hole, node, Fields, no_fields, in_field, Trees, no_trees, tree, tree_items, trees_items, fields_items, in_shape, written, with_fields, each_written, Fits, IsLaidOut, AreLaidOut, EachLaidOut, IsFormWritten}
use Rattle.bundle_json_form.specs.Writing.{ValueChild, Frame, with_child, all_in, after_all_in, value_in, rest_in, with_children, node_form}
use Rattle.bundle_json_form.proofs.Growth.{append_nil}

-- The children of a node.

abbrev pub each_child : ℕ → Trees → List ValueChild
each_child field no_trees = []
each_child field (tree it rest) = (field, written it) ∷ each_child field rest

abbrev pub all_children : Fields → List ValueChild
all_children no_fields = []
all_children (in_field field them rest) = each_child field them ++ all_children rest

-- the values do not begin with one of that field
abbrev Avoids : ℕ → List ValueChild → Type 0
Avoids field [] = Unit {0}
Avoids field (it ∷ more) = (it.0 == field) ≡ false

abbrev pub OtherThan : ℕ → List Field → Type 0
OtherThan field [] = Unit {0}
OtherThan field (it ∷ more) = ((it.number == field) ≡ false) × OtherThan field more

abbrev pub Distinct : List Field → Type 0
Distinct [] = Unit {0}
Distinct (it ∷ more) = OtherThan it.number more × Distinct more

pub distinct : (head : Head) → Distinct (node_fields head)
distinct (h.NewExpr true) = search
distinct (h.NewExpr false) = search
distinct _ = search

pub same_number : (n : ℕ) → (n == n) ≡ true
same_number n = grind arith

avoids_each : (field n : ℕ) (them : Trees) (more : List ValueChild) → (n == field) ≡ false → Avoids field more → Avoids field (each_child n them ++ more)
avoids_each field n no_trees more other h = h
avoids_each field n (tree it rest) more other h = other

avoids_all : (field : ℕ) (fs : List Field) (inside : Fields) → OtherThan field fs → AreLaidOut fs inside → Avoids field (all_children inside)
avoids_all field [] no_fields other laid = tt
avoids_all field [] (in_field n them rest) other laid = absurd laid
avoids_all field (f ∷ fs) no_fields other laid = absurd laid
avoids_all field (f ∷ fs) (in_field n them rest) other laid =
    avoids_each field n them (all_children rest) (ap (λ x. x == field) laid.0 ∙ other.0) (avoids_all field fs rest other.1 laid.3)

all_in-each : (n : ℕ) (them : Trees) (more : List ValueChild) → Avoids n more → items_of (all_in n (each_child n them ++ more)) ≡ each_written them
all_in-each n no_trees [] avoids = refl
all_in-each n no_trees (c ∷ cs) avoids = rw avoids refl
all_in-each n (tree it rest) more avoids = rw (same_number n) (ap (item (written it)) (all_in-each n rest more avoids))

after_all_in-each : (n : ℕ) (them : Trees) (more : List ValueChild) → Avoids n more → after_all_in n (each_child n them ++ more) ≡ more
after_all_in-each n no_trees [] avoids = refl
after_all_in-each n no_trees (c ∷ cs) avoids = rw avoids refl
after_all_in-each n (tree it rest) more avoids = rw (same_number n) (after_all_in-each n rest more avoids)

value_in-each : (shape : Shape) (n : ℕ) (them : Trees) (more : List ValueChild) → Avoids n more → value_in shape n (each_child n them ++ more) ≡ in_shape shape (each_written them)
value_in-each s.One n no_trees [] avoids = refl
value_in-each s.One n no_trees (c ∷ cs) avoids = rw avoids refl
value_in-each s.One n (tree it rest) more avoids = rw (same_number n) refl
value_in-each s.Optional n no_trees [] avoids = refl
value_in-each s.Optional n no_trees (c ∷ cs) avoids = rw avoids refl
value_in-each s.Optional n (tree it rest) more avoids = rw (same_number n) refl
value_in-each s.List n them more avoids = ap array (all_in-each n them more avoids)
value_in-each s.Places n them more avoids = ap array (all_in-each n them more avoids)

rest_in-each : (shape : Shape) (n : ℕ) (them : Trees) (more : List ValueChild) → Avoids n more → Fits shape them → rest_in shape n (each_child n them ++ more) ≡ more
rest_in-each s.One n no_trees [] avoids fits = refl
rest_in-each s.One n no_trees (c ∷ cs) avoids fits = rw avoids refl
rest_in-each s.One n (tree it no_trees) more avoids fits = rw (same_number n) refl
rest_in-each s.One n (tree it (tree other rest)) more avoids fits = absurd fits
rest_in-each s.Optional n no_trees [] avoids fits = refl
rest_in-each s.Optional n no_trees (c ∷ cs) avoids fits = rw avoids refl
rest_in-each s.Optional n (tree it no_trees) more avoids fits = rw (same_number n) refl
rest_in-each s.Optional n (tree it (tree other rest)) more avoids fits = absurd fits
rest_in-each s.List n them more avoids fits = after_all_in-each n them more avoids
rest_in-each s.Places n them more avoids fits = after_all_in-each n them more avoids

-- the values of a node's children, field by field
with_children-all : (fs : List Field) (inside : Fields) (held : Members) → Distinct fs → AreLaidOut fs inside → with_children fs (all_children inside) held ≡ with_fields fs inside held
with_children-all [] no_fields held distinct laid = refl
with_children-all [] (in_field n them rest) held distinct laid = absurd laid
with_children-all (f ∷ fs) no_fields held distinct laid = absurd laid
with_children-all (f ∷ fs) (in_field n them rest) held distinct laid =
    let same = laid.0 in
    let avoids : Avoids f.number (all_children rest) = avoids_all f.number fs rest distinct.0 laid.3 in
    let value : value_in f.shape f.number (each_child n them ++ all_children rest) ≡ in_shape f.shape (each_written them)
    = ap (λ x. value_in f.shape f.number (each_child x them ++ all_children rest)) same ∙ value_in-each f.shape f.number them (all_children rest) avoids in
    let left : rest_in f.shape f.number (each_child n them ++ all_children rest) ≡ all_children rest
    = ap (λ x. rest_in f.shape f.number (each_child x them ++ all_children rest)) same ∙ rest_in-each f.shape f.number them (all_children rest) avoids laid.1 in
    ap (λ cs. with_children fs cs (put f.key (value_in f.shape f.number (each_child n them ++ all_children rest)) held)) left
    ∙ ap (λ v. with_children fs (all_children rest) (put f.key v held)) value
    ∙ with_children-all fs rest (put f.key (in_shape f.shape (each_written them)) held) distinct.1 laid.3

node_form-written : (head : Head) (inside : Fields) → IsLaidOut (node head inside) → node_form head (all_children inside) ≡ written (node head inside)
node_form-written head inside laid = ap object (with_children-all (node_fields head) inside _ (distinct head) laid)

-- The list, element by element.

-- what is given for the rest of a list, where these nodes are open
abbrev pub run : List Frame → List Item → Data
run open_nodes [] = null
run open_nodes (h.Open field head ∷ more) = run (record { field = field; head = head; children = [] } ∷ open_nodes) more
run open_nodes (h.Ident field sym ctxt role ∷ more) = run (with_child (field, written (ident sym ctxt Reference)) open_nodes) more
run open_nodes (h.Hole field ∷ more) = run (with_child (field, null) open_nodes) more
run [] (h.Close ∷ more) = null
run (top ∷ []) (h.Close ∷ more) = node_form top.head top.children
run (top ∷ next ∷ below) (h.Close ∷ more) = run (with_child (top.field, node_form top.head top.children) (next ∷ below)) more

abbrev with_more : List ValueChild → Frame → Frame
with_more them top = record { field = top.field; head = top.head; children = top.children ++ them }

-- a tree gives one more value to the node around it
mutual
  run-tree : (it : Tree) → IsLaidOut it → (field : ℕ) (top : Frame) (below : List Frame) (more : List Item)
      → run (top ∷ below) (tree_items field it ++ more) ≡ run (with_more ((field, written it) ∷ []) top ∷ below) more
  run-tree (ident sym ctxt role) laid field top below more = refl
  run-tree hole laid field top below more = refl
  run-tree (node head inside) laid field top below more =
      ap (run (record { field = field; head = head; children = [] } ∷ top ∷ below)) (append_assoc (fields_items inside) (h.Close ∷ []) more)
      ∙ run-fields inside (node_fields head) laid (record { field = field; head = head; children = [] }) (top ∷ below) (h.Close ∷ more)
      ∙ ap (λ value. run (with_more ((field, value) ∷ []) top ∷ below) more) (node_form-written head inside laid)

  run-fields : (inside : Fields) (fs : List Field) → AreLaidOut fs inside → (top : Frame) (below : List Frame) (more : List Item)
      → run (top ∷ below) (fields_items inside ++ more) ≡ run (with_more (all_children inside) top ∷ below) more
  run-fields no_fields fs laid top below more = ap (λ cs. run (record { field = top.field; head = top.head; children = cs } ∷ below) more) (sym (append_nil top.children))
  run-fields (in_field n them rest) [] laid top below more = absurd laid
  run-fields (in_field n them rest) (f ∷ fs) laid top below more =
      ap (run (top ∷ below)) (append_assoc (trees_items n them) (fields_items rest) more)
      ∙ run-trees them laid.2 n top below (fields_items rest ++ more)
      ∙ run-fields rest fs laid.3 (with_more (each_child n them) top) below more
      ∙ ap (λ cs. run (record { field = top.field; head = top.head; children = cs } ∷ below) more) (append_assoc top.children (each_child n them) (all_children rest))

  run-trees : (them : Trees) → EachLaidOut them → (field : ℕ) (top : Frame) (below : List Frame) (more : List Item)
      → run (top ∷ below) (trees_items field them ++ more) ≡ run (with_more (each_child field them) top ∷ below) more
  run-trees no_trees laid field top below more = ap (λ cs. run (record { field = top.field; head = top.head; children = cs } ∷ below) more) (sym (append_nil top.children))
  run-trees (tree it rest) laid field top below more =
      ap (run (top ∷ below)) (append_assoc (tree_items field it) (trees_items field rest) more)
      ∙ run-tree it laid.0 field top below (trees_items field rest ++ more)
      ∙ run-trees rest laid.1 field (with_more ((field, written it) ∷ []) top) below more
      ∙ ap (λ cs. run (record { field = top.field; head = top.head; children = cs } ∷ below) more) (append_assoc top.children ((field, written it) ∷ []) (each_child field rest))

-- the list of a node alone gives its form
pub run-node : (field : ℕ) (head : Head) (inside : Fields) → IsLaidOut (node head inside) → run [] (tree_items field (node head inside)) ≡ written (node head inside)
run-node field head inside laid =
    run-fields inside (node_fields head) laid (record { field = field; head = head; children = [] }) [] (h.Close ∷ [])
    ∙ node_form-written head inside laid

pub is_form_written : (value : Data) (items : List Item) → value ≡ run [] items → IsFormWritten value items
is_form_written value items given field head inside is laid = given ∙ ap (run []) is ∙ run-node field head inside laid
