-- What the functions that write a tree's text say.
use Rattle.std.specs.Prelude.{◌≡◌, ℕ, ◌+◌, ◌-◌, ◌==◌, if◌then◌else◌, List, [], ◌∷◌, ◌++◌, map, drop, Option, Some, None, codes, decimal}
use Rattle.std.specs.List.{AllByRecursion}
use Rattle.serde_json.specs.Data.{Data, null, boolean, string, object, Items, no_items, item, Members, no_members, member}
use Rattle.serde_json.specs.Written.{compact_text}
use Rattle.bundle_syntax.specs.declared.piece.Piece.{Piece}
use Rattle.bundle_syntax.specs.Item as h
use Rattle.bundle_syntax.specs.Item.{Item, item_of}
use Rattle.bundle_json_form.specs.declared.layout.Shape.{Shape}
use Rattle.bundle_json_form.specs.Form.{Tree, tree_items, in_shape, written, IsLaidOut}
use Rattle.bundle_json_form.specs.Plan as plan
use Rattle.bundle_json_form.specs.Plan.{Content, nothing, a_truth, a_text, nodes}

-- the list from a place on
abbrev pub from : ℕ → List Piece → List Item
from at pieces = map item_of (drop at pieces)

-- behind the old text stands that of the form of the tree whose list is `items`, if it is one's
abbrev pub AppendsForm : List Item → List ℕ → List ℕ → Type 0
AppendsForm items old new =
    (field : ℕ) (it : Tree) → items ≡ tree_items field it → IsLaidOut it →
    new ≡ old ++ compact_text (written it)

-- the same of the tree that the list begins with
abbrev pub AppendsFirst : List Item → List ℕ → List ℕ → Type 0
AppendsFirst items old new =
    (field : ℕ) (it : Tree) (rest : List Item) →
    items ≡ tree_items field it ++ rest → IsLaidOut it →
    new ≡ old ++ compact_text (written it)

-- a node in another, with the number of its field
abbrev pub NodeChild : Type 0
NodeChild = ℕ × Tree

abbrev pub children_items : List NodeChild → List Item
children_items [] = []
children_items (it ∷ more) = tree_items it.0 it.1 ++ children_items more

abbrev pub AreLaidOut : List NodeChild → Type 0
AreLaidOut = AllByRecursion (λ it. IsLaidOut it.1)

-- the list begins with these children of a node, and then the node ends
pub record HasInside (items : List Item) (children : List NodeChild)
    (rest : List Item) : Type 0 where
  pub listed : items ≡ children_items children ++ h.Close ∷ rest
  pub laid : AreLaidOut children

-- the forms of those in the field of a number
abbrev pub written_in : ℕ → List NodeChild → Items
written_in number [] = no_items
written_in number (it ∷ more) =
    if it.0 == number then item (written it.1) (written_in number more) else written_in number more

-- what stands under a key, in a node with these children
abbrev pub datum : List NodeChild → Content → Data
datum children nothing = null
datum children (a_truth it) = boolean it
datum children (a_text it) = string it
datum children (nodes shape number) = in_shape shape (written_in number children)

abbrev pub filled : List NodeChild → List plan.Member → Members
filled children [] = no_members
filled children (it ∷ more) = member it.0 (datum children it.1) (filled children more)

-- behind the old text stands what stands under a key, in the node that `items` are inside of
abbrev pub AppendsContent : Content → List Item → List ℕ → List ℕ → Type 0
AppendsContent it items old new =
    (children : List NodeChild) (rest : List Item) → HasInside items children rest →
    new ≡ old ++ compact_text (datum children it)

abbrev pub AppendsField : Shape → ℕ → List Item → List ℕ → List ℕ → Type 0
AppendsField shape number = AppendsContent (nodes shape number)

abbrev pub AppendsObject : List plan.Member → List Item → List ℕ → List ℕ → Type 0
AppendsObject members items old new =
    (children : List NodeChild) (rest : List Item) → HasInside items children rest →
    new ≡ old ++ compact_text (object (filled children members))

-- the field that the list begins in, or none where a node ends
abbrev pub field_of_first : List Item → Option ℕ
field_of_first [] = None
field_of_first (h.Open field head ∷ more) = Some field
field_of_first (h.Ident field sym ctxt role ∷ more) = Some field
field_of_first (h.Hole field ∷ more) = Some field
field_of_first (h.Close ∷ more) = None

-- `rest` follows the tree that the list begins with
abbrev pub IsAfterFirst : List Item → List Item → Type 0
IsAfterFirst items rest =
    (field : ℕ) (it : Tree) (more : List Item) → items ≡ tree_items field it ++ more → rest ≡ more

-- the list begins with a tree in the field, whose form is the first of these
pub record BeginsWith (number : ℕ) (forms : Items) (items : List Item) : Type 0 where
  pub it : Tree
  pub more : List Item
  pub listed : items ≡ tree_items number it ++ more
  pub laid : IsLaidOut it
  pub others : Items
  pub first : forms ≡ item (written it) others

-- with `found` begins the first of the nodes in the field, and what follows it
abbrev pub IsFirstNode : ℕ → List Item → List Item → Type 0
IsFirstNode number items found =
    (children : List NodeChild) (rest : List Item) → HasInside items children rest →
    BeginsWith number (written_in number children) found

-- no node is in the field
abbrev pub HasNoneIn : ℕ → List Item → Type 0
HasNoneIn number items =
    (children : List NodeChild) (rest : List Item) → HasInside items children rest →
    written_in number children ≡ no_items

-- how many nodes are open behind an element, where so many are before it
abbrev pub depth_after : Item → ℕ → ℕ
depth_after (h.Open field head) opened = opened + 1
depth_after (h.Ident field sym ctxt role) opened = opened
depth_after (h.Hole field) opened = opened
depth_after h.Close opened = opened - 1

-- the member with a context, and the comma behind it
abbrev pub context_text : ℕ → List ℕ
context_text ctxt = if ctxt == 0 then [] else codes "\"ctxt\":" ++ (decimal ctxt ++ codes ",")
