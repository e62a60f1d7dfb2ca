-- Reads of members: where `p.x` is read, and neither written to nor optional (ECMA-262, 13.3.2,
-- 13.3.9, 13.5.1, 13.15.2).
use Rattle.std.specs.Prelude.{ℕ, ◌==◌, ◌&&◌, ◌||◌, Bool, true, false, List, [], ◌∷◌, Option, Some, None, if◌then◌else◌}
use Rattle.bundle_syntax.specs.declared.operator.UnaryOp.TheVariants.{Delete}
use Rattle.bundle_syntax.specs.Item as h
use Rattle.bundle_syntax.specs.Item.{Item, Head}
use Rattle.bundle_rules.specs.Places.{Around, path_at}
use Rattle.bundle_rules.specs.Nodes.{Text, child, begins_with, node_at}

-- whether such a node reads a member
abbrev pub is_member : Head → Bool
is_member h.MemberExpr = true
is_member _ = false

-- the text of a plain word
abbrev pub head_plain_word : Head → Option Text
head_plain_word (h.IdentName x) = Some x
head_plain_word _ = None

-- the text of the plain word that the list begins with
abbrev pub plain_word : List Item → Option Text
plain_word (h.Open field head ∷ rest) = head_plain_word head
plain_word _ = None

-- the word x of a node `p.x`
abbrev pub property_of : List Item → Option Text
property_of node = if begins_with is_member node then plain_word (child 1 node) else None

-- whether such a node, in this field, writes to what stands there
abbrev pub writes : Head → ℕ → Bool
writes (h.AssignExpr op) field = field == 1
writes (h.UpdateExpr op prefix) field = true
writes (h.UnaryExpr Delete) field = true
writes h.ForInStmt field = field == 0
writes (h.ForOfStmt is_await) field = field == 1
writes _ field = false

-- whether what stands in this field of such a node is written to where the node is: parentheses and
-- patterns
abbrev pub passes_writes : Head → ℕ → Bool
passes_writes h.ParenExpr field = true
passes_writes h.ArrayPat field = true
passes_writes h.ObjectPat field = true
passes_writes h.RestPat field = true
passes_writes h.AssignPat field = field == 0
passes_writes h.KeyValuePatProp field = field == 1
passes_writes _ field = false

-- whether what stands in these nodes is a target of an assignment, an update, a `delete` or a loop
-- head
abbrev pub is_written_to : List Around → Bool
is_written_to [] = false
is_written_to (node ∷ outer) =
    writes node.head node.field || (passes_writes node.head node.field && is_written_to outer)

-- whether such a node is an optional chain
abbrev pub is_optional_chain : Head → Bool
is_optional_chain (h.OptChainExpr optional) = true
is_optional_chain _ = false

-- whether what stands in these nodes is the base of an optional chain
abbrev pub is_optional_base : List Around → Bool
is_optional_base [] = false
is_optional_base (node ∷ outer) = is_optional_chain node.head

-- the word x, where a read `p.x` begins at this place that is neither written to nor optional
abbrev pub read_word : List Item → ℕ → Option Text
read_word tree place =
    if is_written_to (path_at tree place) || is_optional_base (path_at tree place)
    then None
    else property_of (node_at tree place)
