-- What stands at a place of a list.
use Rattle.std.specs.Prelude.{◌+◌, ◌-◌, ◌^◌, ◌==◌, ◌&&◌, ℕ, suc, min, Bool, true, false, List, [], ◌∷◌, Option, Some, None, if◌then◌else◌, slice_get, drop, length, codes}
use Rattle.std.specs.Str.{bytes_eq}
use Rattle.std.specs.List.{list_any}
use Rattle.bundle_syntax.specs.declared.kind.MetaPropKind.TheVariants.{ImportMeta}
use Rattle.bundle_syntax.specs.declared.piece.Node as r
use Rattle.bundle_syntax.specs.declared.piece.Node.TheVariants as n
use Rattle.bundle_syntax.specs.declared.piece.Piece as d
use Rattle.bundle_syntax.specs.declared.piece.Piece.TheVariants as p

-- so many places behind one; no place is behind the last that a number can have
abbrev pub behind : ℕ → ℕ → ℕ
behind at count = min (at + count) (2 ^ 64 - 1)

-- the node that begins with a piece
unfoldable pub node_in : Option d.Piece → Option r.Node
node_in (Some (p.Open field node)) = Some node
node_in _ = None

-- the field of a piece; 0 of an end
unfoldable pub own_field : d.Piece → ℕ
own_field (p.Open field node) = field
own_field (p.Ident field sym ctxt role) = field
own_field (p.Hole field) = field
own_field p.Close = 0

abbrev pub field_in : Option d.Piece → ℕ
field_in (Some piece) = own_field piece
field_in None = 0

-- how many nodes are open behind a piece, where so many are before it; an end in front of all
-- begins ends none
unfoldable pub depth_behind : ℕ → d.Piece → ℕ
depth_behind depth (p.Open field node) = suc depth
depth_behind depth p.Close = depth - 1
depth_behind depth (p.Ident field sym ctxt role) = depth
depth_behind depth (p.Hole field) = depth

-- how many pieces it takes until all nodes are ended, where so many are open; all, where some never
-- end
abbrev pub span : ℕ → List d.Piece → ℕ
span depth [] = 0
span depth (piece ∷ pieces) =
    if depth_behind depth piece == 0 then 1 else suc (span (depth_behind depth piece) pieces)

-- the place behind the node that begins at a place, or behind the identifier there
abbrev pub end_of : List d.Piece → ℕ → ℕ
end_of pieces at = min at (length pieces) + span 0 (drop at pieces)

-- whether `import.meta` begins with a node
unfoldable pub is_meta_node : Option r.Node → Bool
is_meta_node (Some (n.MetaPropExpr ImportMeta)) = true
is_meta_node _ = false

-- whether a node is a property that is read
unfoldable pub is_member : Option r.Node → Bool
is_member (Some n.MemberExpr) = true
is_member _ = false

-- whether a node is a key with its value
unfoldable pub is_key_value : Option r.Node → Bool
is_key_value (Some n.KeyValueProp) = true
is_key_value _ = false

-- the word that a node is
unfoldable pub word_in : Option r.Node → List ℕ
word_in (Some (n.IdentName sym)) = sym.now
word_in _ = []

-- the value of the string that a node is
unfoldable pub string_in : Option r.Node → List ℕ
string_in (Some (n.Str value raw)) = value.now
string_in _ = []

-- the text of the string that a node is
unfoldable pub text_in : Option r.Node → Option (List ℕ)
text_in (Some (n.Str value raw)) = Some value.now
text_in _ = None

-- the node that begins at a place
abbrev pub node_at : List d.Piece → ℕ → Option r.Node
node_at pieces at = node_in (slice_get pieces at)

-- the node that begins right before a place
abbrev pub node_before : List d.Piece → ℕ → Option r.Node
node_before pieces at = if at == 0 then None else node_at pieces (at - 1)

-- whether an `import.meta` begins at a place
abbrev pub is_meta : List d.Piece → ℕ → Bool
is_meta pieces at = is_meta_node (node_at pieces at)

-- whether an `import.meta.url` begins at a place
abbrev pub is_meta_url : List d.Piece → ℕ → Bool
is_meta_url pieces at =
    is_member (node_at pieces at)
    && bytes_eq (word_in (node_at pieces (behind at 3))) (codes "url")
    && is_meta pieces (behind at 1)

-- whether a key that sets the prototype of an object begins at a place (ECMA-262, B.3.1)
abbrev pub is_prototype_key : List d.Piece → ℕ → Bool
is_prototype_key pieces at =
    is_key_value (node_before pieces at)
    && bytes_eq (string_in (node_at pieces at)) (codes "__proto__")

-- whether a place is among these
abbrev pub is_among : List ℕ → ℕ → Bool
is_among places at = list_any (λ place. place == at) places
