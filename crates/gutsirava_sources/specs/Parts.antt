-- Which parts of a module a declaration asks for.
use Rattle.std.specs.Prelude.{◌+◌, ◌-◌, ◌&&◌, ◌||◌, not, ℕ, zero, suc, Bool, true, false, List, Option, Some, None, if◌then◌else◌, slice_get, length, codes}
use Rattle.std.specs.Str.{bytes_eq}
use Rattle.bundle_syntax.specs.declared.piece.Node as r
use Rattle.bundle_syntax.specs.declared.piece.Node.TheVariants as n
use Rattle.bundle_syntax.specs.declared.piece.Piece as d
use Rattle.bundle_syntax.specs.declared.piece.Piece.TheVariants as p
use Rattle.bundle_syntax.specs.declared.piece.Role.{Role}
use Rattle.bundle_syntax.specs.declared.piece.Role.TheVariants.{Binding, Reference, Word}
use Rattle.gutsirava_sources.specs.declared.parts.RequestPart.{RequestPart}
use Rattle.gutsirava_sources.specs.declared.parts.RequestPart.TheVariants.{Names, Default, Properties, Namespace}
use Rattle.gutsirava_sources.specs.Places.{behind, is_member, node_at, node_before, node_in, text_in}

-- the name, an identifier or a text, that a piece is
unfoldable pub name_in : Option d.Piece → Option (List ℕ)
name_in (Some (p.Ident field sym ctxt role)) = Some sym.now
name_in piece = text_in (node_in piece)

abbrev pub name_at : List d.Piece → ℕ → Option (List ℕ)
name_at pieces at = name_in (slice_get pieces at)

-- whether an identifier refers to something
abbrev pub refers : Role → Bool
refers Reference = true
refers Binding = false
refers Word = false

-- whether a piece is a name of this text that refers to something
unfoldable pub is_reference_in : List ℕ → Option d.Piece → Bool
is_reference_in local (Some (p.Ident field sym ctxt role)) = refers role && bytes_eq sym.now local
is_reference_in local _ = false

-- whether a node is the word of a property that is not `default`
unfoldable pub is_other_word : Option r.Node → Bool
is_other_word (Some (n.IdentName sym)) = not (bytes_eq sym.now (codes "default"))
is_other_word _ = false

-- whether a property that is not `default` is read of the name at a place
abbrev pub is_read : List d.Piece → ℕ → Bool
is_read pieces at =
    is_member (node_before pieces at) && is_other_word (node_at pieces (behind at 1))

-- whether a name of this text stands at a place, and refers to something of which no property is
-- read, or `default`
abbrev pub is_value : List d.Piece → List ℕ → ℕ → Bool
is_value pieces local at = is_reference_in local (slice_get pieces at) && not (is_read pieces at)

-- whether, at so many places from one on, no name of this text stands as a value
abbrev pub reads_from : List d.Piece → List ℕ → ℕ → ℕ → Bool
reads_from pieces local zero at = true
reads_from pieces local (suc n) at =
    if is_value pieces local at then false else reads_from pieces local n (at + 1)

-- whether of each name of this text that refers to something a property is read that is not
-- `default`
abbrev pub reads_properties : List d.Piece → List ℕ → Bool
reads_properties pieces local = reads_from pieces local (length pieces) 0

-- whether a name is `default`
abbrev pub is_default : Option (List ℕ) → Bool
is_default (Some name) = bytes_eq name (codes "default")
is_default None = false

-- the part that a name of a module is
abbrev pub named_part : Option (List ℕ) → RequestPart
named_part name = if is_default name then Default else Names

-- the part that a namespace is, which has this name where it is a variable
abbrev pub star_part : List d.Piece → Option (List ℕ) → RequestPart
star_part pieces (Some local) = if reads_properties pieces local then Properties else Namespace
star_part pieces None = Namespace

-- the part that the specifier at a place asks for, if one begins there
unfoldable pub part_by : Option r.Node → List d.Piece → ℕ → Option RequestPart
part_by (Some n.ImportDefaultSpecifier) pieces at = Some Default
part_by (Some n.ExportNamespaceSpecifier) pieces at = Some Namespace
part_by (Some n.ImportStarAsSpecifier) pieces at =
    Some (star_part pieces (name_at pieces (behind at 1)))
part_by (Some n.ImportNamedSpecifier) pieces at = Some (named_part (name_at pieces (behind at 2)))
part_by (Some n.ExportNamedSpecifier) pieces at = Some (named_part (name_at pieces (behind at 1)))
part_by _ pieces at = None

abbrev pub part_of : List d.Piece → ℕ → Option RequestPart
part_of pieces at = part_by (node_at pieces at) pieces at

abbrev pub is_same : RequestPart → RequestPart → Bool
is_same Names Names = true
is_same Default Default = true
is_same Properties Properties = true
is_same Namespace Namespace = true
is_same _ _ = false

abbrev pub is_part : Option RequestPart → RequestPart → Bool
is_part (Some found) part = is_same found part
is_part None part = false

-- whether a specifier of this part begins at a place
abbrev pub asks_at : List d.Piece → RequestPart → ℕ → Bool
asks_at pieces part at = is_part (part_of pieces at) part

-- whether one of so many places from one on begins a specifier of this part
abbrev pub asks_from : List d.Piece → RequestPart → ℕ → ℕ → Bool
asks_from pieces part zero at = false
asks_from pieces part (suc n) at = asks_at pieces part at || asks_from pieces part n (at + 1)

-- whether a declaration asks for this part: from its begin up to its specifier
abbrev pub asks_for : List d.Piece → RequestPart → ℕ → ℕ → Bool
asks_for pieces part begin place = asks_from pieces part (place - begin) begin

-- whether a node is `export * from`
unfoldable pub is_star_node : Option r.Node → Bool
is_star_node (Some (n.ExportAll meta)) = true
is_star_node _ = false
