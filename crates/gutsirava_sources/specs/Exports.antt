-- What the names that a module exports and takes are, by the pieces that say so.
use Rattle.std.specs.Prelude.{◌≡◌, ◌≤◌, ◌<◌, ℕ, Bool, true, false, List, Option, Some, None, IfSome, IsSomeAnd, if◌then◌else◌, slice_get, codes}
use Rattle.bundle_syntax.specs.declared.piece.Node as r
use Rattle.bundle_syntax.specs.declared.piece.Node.TheVariants as n
use Rattle.bundle_syntax.specs.declared.piece.Piece as d
use Rattle.bundle_syntax.specs.declared.piece.Piece.TheVariants as p
use Rattle.bundle_syntax.specs.declared.piece.Role.{Role}
use Rattle.bundle_syntax.specs.declared.piece.Role.TheVariants.{Binding, Reference, Word}
use Rattle.gutsirava_sources.specs.declared.exports.Exported.{Exported}
use Rattle.gutsirava_sources.specs.declared.exports.TakenName.{TakenName}
use Rattle.gutsirava_sources.specs.declared.outline.SourceRequest.{SourceRequest}
use Rattle.gutsirava_sources.specs.Parts.{name_at}
use Rattle.gutsirava_sources.specs.Places.{behind, end_of, node_at, node_in}

-- the first of two names that is there
abbrev pub name_or : Option (List ℕ) → Option (List ℕ) → Option (List ℕ)
name_or (Some name) other = Some name
name_or None other = other

-- the name under which a specifier exports whose first name stands at a place: the second, if any
abbrev pub listed_name : List d.Piece → ℕ → Option (List ℕ)
listed_name pieces first = name_or (name_at pieces (end_of pieces first)) (name_at pieces first)

-- the name that the node at a place exports
unfoldable pub name_of_node : Option r.Node → List d.Piece → ℕ → Option (List ℕ)
name_of_node (Some n.ExportDefaultDecl) pieces at = Some (codes "default")
name_of_node (Some n.ExportDefaultExpr) pieces at = Some (codes "default")
name_of_node (Some n.ExportNamespaceSpecifier) pieces at = name_at pieces (behind at 1)
name_of_node (Some n.ExportNamedSpecifier) pieces at = listed_name pieces (behind at 1)
name_of_node _ pieces at = None

-- whether an identifier is bound where it stands
abbrev pub is_binding : Role → Bool
is_binding Binding = true
is_binding Reference = false
is_binding Word = false

-- the name that the piece at a place exports: an identifier that is bound, itself
unfoldable pub name_of_piece : Option d.Piece → List d.Piece → ℕ → Option (List ℕ)
name_of_piece (Some (p.Ident field sym ctxt role)) pieces at =
    if is_binding role then Some sym.now else None
name_of_piece piece pieces at = name_of_node (node_in piece) pieces at

-- a name is the one that its piece exports, and what the module declares the first one there
pub record IsExported (pieces : List d.Piece) (it : Exported) : Type 0 where
  pub name_is : name_of_piece (slice_get pieces it.piece) pieces it.piece ≡ Some it.name.now
  pub declared_is : IfSome it.declared (λ name. name_at pieces (behind it.piece 1) ≡ Some name.now)

-- the name that the specifier at a place takes: the imported one stands behind the local one
unfoldable pub taken_by : Option r.Node → List d.Piece → ℕ → Option (List ℕ)
taken_by (Some n.ImportDefaultSpecifier) pieces at = Some (codes "default")
taken_by (Some n.ExportNamedSpecifier) pieces at = name_at pieces (behind at 1)
taken_by (Some n.ImportNamedSpecifier) pieces at =
    name_or (name_at pieces (behind at 2)) (name_at pieces (behind at 1))
taken_by _ pieces at = None

-- a name is the one that the specifier at its piece takes, which stands in the declaration of its
-- request
pub record IsTakenName (pieces : List d.Piece) (requests : List SourceRequest) (it : TakenName)
    : Type 0 where
  pub name_is : taken_by (node_at pieces it.piece) pieces it.piece ≡ Some it.name.now
  pub asked : IsSomeAnd (slice_get requests it.request)
      (λ request. (request.begin ≤ it.piece) × (it.piece < request.place))
