-- How long the node is with which a list begins.
use Rattle.std.specs.Prelude.{ℕ, zero, suc, Bool, true, false, List, [], ◌∷◌, Option, Some, None, if◌then◌else◌}
use Rattle.bundle_rules.specs.Nodes.{begins_in}
use Rattle.bundle_syntax.specs.Item as h
use Rattle.bundle_syntax.specs.Item.{Item, Head}

-- how many nodes are open after an element, where so many are before it; none where it ends the
-- first node
abbrev pub depth_past : ℕ → Item → Option ℕ
depth_past depth (h.Open field head) = Some (suc depth)
depth_past zero (h.Ident field sym ctxt role) = None
depth_past (suc depth) (h.Ident field sym ctxt role) = Some (suc depth)
depth_past zero (h.Hole field) = None
depth_past (suc depth) (h.Hole field) = Some (suc depth)
depth_past zero h.Close = None
depth_past (suc zero) h.Close = None
depth_past (suc (suc depth)) h.Close = Some (suc depth)

-- the length of the first node, or of what is left of it where so many nodes are open
abbrev pub length_of_first : ℕ → List Item → ℕ
length_of_first depth [] = zero
length_of_first depth (x ∷ rest) =
    elim (depth_past depth x) [ None ↦ suc zero | Some inner ↦ suc (length_of_first inner rest) ]

-- whether a node begins the list
abbrev pub begins_node : List Item → Bool
begins_node [] = false
begins_node (h.Open field head ∷ rest) = true
begins_node (h.Ident field sym ctxt role ∷ rest) = true
begins_node (h.Hole field ∷ rest) = true
begins_node (h.Close ∷ rest) = false

-- the head of the node that the list begins with
abbrev pub head_at : List Item → Option Head
head_at (h.Open field head ∷ rest) = Some head
head_at _ = None

-- the node by itself, if it lies in the field
abbrev pub kept_in : ℕ → List Item → List (List Item)
kept_in field node = if begins_in field node then node ∷ [] else []
