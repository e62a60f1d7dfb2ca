-- What a module asks for.
use Rattle.std.specs.Prelude.{◌≡◌, ◌<◌, ℕ, List, Option, Some, None}
use Rattle.bundle_syntax.specs.declared.piece.Node as r
use Rattle.bundle_syntax.specs.declared.piece.Node.TheVariants as n
use Rattle.bundle_syntax.specs.declared.piece.Piece as d
use Rattle.gutsirava_sources.specs.declared.outline.SourceRequest.{SourceRequest}
use Rattle.gutsirava_sources.specs.Places.{behind, node_at}

-- the source text that a part of a template is
unfoldable pub part_text : Option r.Node → Option (List ℕ)
part_text (Some (n.TplElement raw)) = Some raw.now
part_text _ = None

-- the text of a literal: a string, or a template, of which it is the first part
unfoldable pub literal_by : Option r.Node → List d.Piece → ℕ → Option (List ℕ)
literal_by (Some (n.Str value raw)) pieces at = Some value.now
literal_by (Some n.Tpl) pieces at = part_text (node_at pieces (behind at 1))
literal_by _ pieces at = None

-- the text of the literal at a place
abbrev pub literal_at : List d.Piece → ℕ → Option (List ℕ)
literal_at pieces at = literal_by (node_at pieces at) pieces at

-- a literal stands behind the begin of a declaration or a call, and its text is the specifier
pub record IsRequest (pieces : List d.Piece) (request : SourceRequest) : Type 0 where
  pub begins : request.begin < request.place
  pub literal : literal_at pieces request.place ≡ Some request.specifier.now
