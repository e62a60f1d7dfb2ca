-- Static reads of a cleared tree, and its uses of `import.meta`: those of the tree, at the same places.
use Rattle.std.proofs.Common.{◌≡◌, ℕ, zero, suc, ◌&&◌, ◌||◌, List, [], ◌∷◌, Option, Some, None, drop, slice_get, option_map, refl, ap, ◌∙◌}
use Rattle.std.specs.Prelude.{if◌then◌else◌}
use Rattle.bundle_syntax.specs.Item as h
use Rattle.bundle_syntax.specs.Item.{Item, Head}
use Rattle.bundle_rules.specs.Places.{Around, path_at}
use Rattle.bundle_rules.specs.Nodes.{side_by_side, first_or_nothing, child, node_at}
use Rattle.bundle_rules.specs.Entries.{is_import_meta}
use Rattle.bundle_rules.specs.Reads.{is_member, head_plain_word, plain_word, property_of, writes, passes_writes, is_written_to, is_optional_chain, is_optional_base, read_word}
use Rattle.bundle_rules.specs.Meaning.{is_meta_at}
use Rattle.bundle_rules.specs.Cleared.{cleared_head, cleared_item, cleared}
use Rattle.bundle_rules.proofs.HeadLemmas.{of_head}
use Rattle.bundle_rules.proofs.PathLemmas.{cleared_path, path_at-cleared, slice_get-cleared}
use Rattle.bundle_rules.proofs.NodeLemmas.{side_by_side-cleared, first-cleared, child-cleared, begins_with-cleared}

drop-cleared : (n : ℕ) (items : List Item) → drop n (cleared items) ≡ cleared (drop n items)
drop-cleared zero items = refl
drop-cleared (suc n) [] = refl
drop-cleared (suc n) (x ∷ items) = drop-cleared n items

-- the node at a place
pub node_at-cleared : (tree : List Item) (place : ℕ) → node_at (cleared tree) place ≡ cleared (node_at tree place)
node_at-cleared tree place =
    (λ i. first_or_nothing (side_by_side zero (drop-cleared place tree i)))
    ∙ ap first_or_nothing (side_by_side-cleared zero (drop place tree))
    ∙ first-cleared (side_by_side zero (drop place tree))

plain_word-cleared : (node : List Item) → plain_word (cleared node) ≡ plain_word node
plain_word-cleared (h.Open field head ∷ rest) = of_head head_plain_word (λ meta. (refl, refl, refl, λ kind. refl)) head
plain_word-cleared (h.Ident field sym ctxt role ∷ rest) = refl
plain_word-cleared (h.Hole field ∷ rest) = refl
plain_word-cleared (h.Close ∷ rest) = refl
plain_word-cleared [] = refl

plain_word_of_child : (n : ℕ) (node : List Item) → plain_word (child n (cleared node)) ≡ plain_word (child n node)
plain_word_of_child n node = ap plain_word (child-cleared n node) ∙ plain_word-cleared (child n node)

is_member-cleared : (head : Head) → is_member (cleared_head head) ≡ is_member head
is_member-cleared head = of_head is_member (λ meta. (refl, refl, refl, λ kind. refl)) head

property_of-cleared : (node : List Item) → property_of (cleared node) ≡ property_of node
property_of-cleared node = λ i. if begins_with-cleared is_member is_member-cleared node i then plain_word_of_child 1 node i else None

writes-cleared : (head : Head) (field : ℕ) → writes (cleared_head head) field ≡ writes head field
writes-cleared head field = of_head (λ it. writes it field) (λ meta. (refl, refl, refl, λ kind. refl)) head

passes_writes-cleared : (head : Head) (field : ℕ) → passes_writes (cleared_head head) field ≡ passes_writes head field
passes_writes-cleared head field = of_head (λ it. passes_writes it field) (λ meta. (refl, refl, refl, λ kind. refl)) head

is_written_to-cleared : (path : List Around) → is_written_to (cleared_path path) ≡ is_written_to path
is_written_to-cleared [] = refl
is_written_to-cleared (node ∷ outer) = λ i. writes-cleared node.head node.field i || (passes_writes-cleared node.head node.field i && is_written_to-cleared outer i)

is_optional_base-cleared : (path : List Around) → is_optional_base (cleared_path path) ≡ is_optional_base path
is_optional_base-cleared [] = refl
is_optional_base-cleared (node ∷ outer) = of_head is_optional_chain (λ meta. (refl, refl, refl, λ kind. refl)) node.head

-- the word of a read that begins at a place
pub read_word-cleared : (tree : List Item) (place : ℕ) → read_word (cleared tree) place ≡ read_word tree place
read_word-cleared tree place =
    (λ i. if is_written_to (path_at-cleared tree place i) || is_optional_base (path_at-cleared tree place i) then None else property_of (node_at-cleared tree place i))
    ∙ (λ i. if is_written_to-cleared (path_at tree place) i || is_optional_base-cleared (path_at tree place) i then None else property_of-cleared (node_at tree place) i)

is_meta_at-item : (item : Option Item) → is_meta_at (option_map cleared_item item) ≡ is_meta_at item
is_meta_at-item None = refl
is_meta_at-item (Some (h.Open field head)) = of_head is_import_meta (λ meta. (refl, refl, refl, λ kind. refl)) head
is_meta_at-item (Some (h.Ident field sym ctxt role)) = refl
is_meta_at-item (Some (h.Hole field)) = refl
is_meta_at-item (Some h.Close) = refl

-- whether `import.meta` begins at a place
pub is_meta_at-cleared : (tree : List Item) (place : ℕ) → is_meta_at (slice_get (cleared tree) place) ≡ is_meta_at (slice_get tree place)
is_meta_at-cleared tree place = ap is_meta_at (slice_get-cleared tree place) ∙ is_meta_at-item (slice_get tree place)
