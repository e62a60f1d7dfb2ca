-- What the functions of the writer say of nodes that are open.
use Rattle.std.specs.Prelude.{ℕ, ◌==◌, if◌then◌else◌, List, [], ◌∷◌, ◌++◌, map, Option, Some, None, unwrap_or, codes}
use Rattle.serde_json.specs.Data.{Data, null, string, array, object, Members, no_members, put}
use Rattle.serde_json.specs.View.{items_of, members_view, view}
use Rattle.serde_json.specs.declared.value.Value.{Value}
use Rattle.bundle_syntax.specs.Item.{Head, head_of}
use Rattle.bundle_json_form.specs.declared.layout.Shape.{Shape}
use Rattle.bundle_json_form.specs.declared.layout.Shape.TheVariants as s
use Rattle.bundle_json_form.specs.declared.write.OpenNode.{OpenNode}
use Rattle.bundle_json_form.specs.declared.scalar.Object.{Object}
use Rattle.bundle_json_form.specs.Form.{Field, node_fields, name, scalars, with_scalars}

-- the members of an object under construction
abbrev pub members_in : Object → Members
members_in it = members_view it.members.entries

-- a value, with the number of the field that it lies in
abbrev pub ValueChild : Type 0
ValueChild = ℕ × Data

abbrev pub child_of : ℕ × Value → ValueChild
child_of it = (it.0, view it.1)

-- a node that is open: the number of its field, and the values in it so far
pub record Frame : Type 0 where
  pub field : ℕ
  pub head : Head
  pub children : List ValueChild

abbrev pub frame_of : OpenNode → Frame
frame_of it =
    record { field = it.field; head = head_of it.node; children = map child_of it.children.items }

-- the open nodes, the innermost first
abbrev pub frames : List OpenNode → List Frame
frames [] = []
frames (it ∷ more) = frames more ++ frame_of it ∷ []

-- one more value in the innermost node
abbrev pub with_child : ValueChild → List Frame → List Frame
with_child it [] = []
with_child it (top ∷ below) =
    record { field = top.field; head = top.head; children = top.children ++ it ∷ [] } ∷ below

-- the first value, if it lies in the field
abbrev pub first_child_in : ℕ → List ValueChild → Option Data
first_child_in field [] = None
first_child_in field (it ∷ more) = if it.0 == field then Some it.1 else None

abbrev pub after_first_in : ℕ → List ValueChild → List ValueChild
after_first_in field [] = []
after_first_in field (it ∷ more) = if it.0 == field then more else it ∷ more

-- the first values, as far as they lie in the field
abbrev pub all_in : ℕ → List ValueChild → List Data
all_in field [] = []
all_in field (it ∷ more) = if it.0 == field then it.1 ∷ all_in field more else []

abbrev pub after_all_in : ℕ → List ValueChild → List ValueChild
after_all_in field [] = []
after_all_in field (it ∷ more) = if it.0 == field then after_all_in field more else it ∷ more

-- what stands under the key of a field with this shape
abbrev pub value_in : Shape → ℕ → List ValueChild → Data
value_in s.One field children = unwrap_or (first_child_in field children) null
value_in s.Optional field children = unwrap_or (first_child_in field children) null
value_in s.List field children = array (items_of (all_in field children))
value_in s.Places field children = array (items_of (all_in field children))

-- the values that are left then
abbrev pub rest_in : Shape → ℕ → List ValueChild → List ValueChild
rest_in s.One field children = after_first_in field children
rest_in s.Optional field children = after_first_in field children
rest_in s.List field children = after_all_in field children
rest_in s.Places field children = after_all_in field children

abbrev pub with_children : List Field → List ValueChild → Members → Members
with_children [] children members = members
with_children (it ∷ more) children members =
    with_children more (rest_in it.shape it.number children)
    (put it.key (value_in it.shape it.number children) members)

-- a node that is complete
abbrev pub node_form : Head → List ValueChild → Data
node_form head children =
    object
    (with_children (node_fields head) children
    (with_scalars (scalars head) (put (codes "type") (string (name head)) no_members)))
