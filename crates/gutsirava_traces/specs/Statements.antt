-- The statements that a module states.
use Rattle.std.specs.Prelude.{◌+◌, ◌-◌, ◌^◌, ◌==◌, ◌&&◌, ◌++◌, ℕ, min, Bool, true, false, List, [], ◌∷◌, Option, Some, None, if◌then◌else◌, slice_get}
use Rattle.bundle_syntax.specs.declared.piece.Node as r
use Rattle.bundle_syntax.specs.declared.piece.Node.TheVariants as n
use Rattle.bundle_syntax.specs.declared.piece.Piece as d
use Rattle.bundle_syntax.specs.declared.piece.Piece.TheVariants as p
use Rattle.gutsirava_traces.specs.Ends.{depth_behind}
use Rattle.gutsirava_traces.specs.Traces.{place_of}
use Rattle.gutsirava_traces.specs.declared.trace.OwnBegin.{OwnBegin}
use Rattle.gutsirava_traces.specs.declared.trace.OwnForm.{OwnForm}
use Rattle.gutsirava_traces.specs.declared.trace.OwnForm.TheVariants.{Same, Constant, Declaration, Gone}
use Rattle.gutsirava_traces.specs.declared.trace.TheConstants.{NOWHERE}

-- the next place; no place is behind the last that a number can have
abbrev pub next : ℕ → ℕ
next at = min (at + 1) (2 ^ 64 - 1)

-- what begins behind the begin of the node at a place
abbrev pub within : ℕ → OwnForm → OwnBegin
within at form = record { at = next at; form = form }

-- the statement that a node states: what is exported is in it; imports, lists of exports and empty
-- statements state none
unfoldable pub begin_by : r.Node → ℕ → Option OwnBegin
begin_by (n.ImportDecl meta) at = None
begin_by (n.NamedExport meta) at = None
begin_by (n.ExportAll meta) at = None
begin_by n.EmptyStmt at = None
begin_by n.ExportDecl at = Some (within at Same)
begin_by n.ExportDefaultExpr at = Some (within at Constant)
begin_by n.ExportDefaultDecl at = Some (within at Declaration)
begin_by node at = Some (record { at = at; form = Same })

-- the statement that a piece begins
abbrev pub own_begin : d.Piece → ℕ → Option OwnBegin
own_begin (p.Open field node) at = begin_by node at
own_begin _ at = None

-- whether a node is a string
unfoldable pub is_text_node : r.Node → Bool
is_text_node (n.Str value raw) = true
is_text_node _ = false

-- whether a string begins with a piece
abbrev pub is_text : Option d.Piece → Bool
is_text (Some (p.Open field node)) = is_text_node node
is_text _ = false

-- a string that stands nowhere is a comment, and does not stand in a bundle
abbrev pub form_of : List ℕ → List d.Piece → ℕ → OwnForm → OwnForm
form_of places pieces at form =
    if (place_of places at == NOWHERE) && is_text (slice_get pieces (next at)) then Gone else form

abbrev pub listed : List ℕ → List d.Piece → ℕ → Option OwnBegin → List OwnBegin
listed places pieces at None = []
listed places pieces at (Some begin) =
    record begin { form = form_of places pieces at begin.form } ∷ []

-- the statement of the item that begins with a piece, if one does: where one node is open
abbrev pub stated : List ℕ → List d.Piece → ℕ → ℕ → d.Piece → List OwnBegin
stated places pieces at depth piece =
    if depth == 1 then listed places pieces at (own_begin piece at) else []

-- the statements of the pieces from a place on, where so many nodes are open
abbrev pub statements_on : List ℕ → List d.Piece → ℕ → ℕ → List d.Piece → List OwnBegin
statements_on places pieces at depth [] = []
statements_on places pieces at depth (piece ∷ rest) =
    stated places pieces at depth piece
    ++ statements_on places pieces (at + 1) (depth_behind depth piece) rest
