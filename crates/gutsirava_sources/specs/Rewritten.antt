-- The list of a module as the linker is handed it.
use Rattle.std.specs.Prelude.{◌≡◌, ◌+◌, ◌-◌, ◌≤◌, ◌&&◌, ℕ, zero, suc, nat_le, nat_lt, Bool, true, false, List, [], ◌∷◌, Option, Some, None, All, if◌then◌else◌, fold, map, drop, length, slice_get, codes}
use Rattle.std.specs.Borrow.{Bor}
use Rattle.bundle_syntax.specs.declared.kind.ExportMetadata.{ExportMetadata}
use Rattle.bundle_syntax.specs.declared.piece.Piece as d
use Rattle.bundle_syntax.specs.declared.piece.Piece.TheVariants as p
use Rattle.bundle_syntax.specs.declared.piece.Role.{Role}
use Rattle.bundle_syntax.specs.declared.piece.Role.TheVariants.{Binding, Reference, Word}
use Rattle.bundle_syntax.specs.Item as i
use Rattle.gutsirava_sources.specs.declared.kind.SourceKind.{SourceKind}
use Rattle.gutsirava_sources.specs.declared.kind.SourceKind.TheVariants.{EcmaScript, CommonJs}
use Rattle.gutsirava_sources.specs.declared.made.TheConstants.{NO_ORIGIN}
use Rattle.gutsirava_sources.specs.declared.outline.RequestForm.{RequestForm}
use Rattle.gutsirava_sources.specs.declared.outline.RequestForm.TheVariants.{Import, Require, Dynamic}
use Rattle.gutsirava_sources.specs.declared.outline.SourceOutline.{SourceOutline}
use Rattle.gutsirava_sources.specs.declared.outline.SourceRequest.{SourceRequest}
use Rattle.gutsirava_sources.specs.declared.parts.RequestPart.{RequestPart}
use Rattle.gutsirava_sources.specs.declared.parts.RequestPart.TheVariants.{Names, Default, Properties, Namespace}
use Rattle.gutsirava_sources.specs.declared.rewriter.PlacedComment.{PlacedComment}
use Rattle.gutsirava_sources.specs.declared.rewriter.Substitute.{Substitute}
use Rattle.gutsirava_sources.specs.declared.rewriter.Substitute.TheVariants.{Url, Meta, Main, Prototype}
use Rattle.gutsirava_sources.specs.declared.rewriter.Rewriter.{Rewriter}
use Rattle.gutsirava_sources.specs.declared.stand.PartKeys.{PartKeys}
use Rattle.gutsirava_sources.specs.declared.stand.Seat.{Seat}
use Rattle.gutsirava_sources.specs.declared.stand.Stand.{Stand}
use Rattle.gutsirava_sources.specs.declared.stand.Stand.TheVariants as s
use Rattle.gutsirava_sources.specs.Parts.{asks_at, asks_for, is_same, is_star_node}
use Rattle.gutsirava_sources.specs.Places.{behind, end_of, field_in, is_among, is_meta, is_meta_url, is_prototype_key, node_at, text_in}
use Rattle.gutsirava_sources.specs.Written.{Written, added_all, call_items, comment_items, loader_items, name_item, source_items, text_items, from_nowhere, from_place}

-- what the list is made of: the list of the text, the places of `require.main`, the comments, and
-- what the module is
pub record Source : Type 0 where
  pub pieces : List d.Piece
  pub mains : List ℕ
  pub comments : List PlacedComment
  pub seat : Seat

abbrev pub source_of : Rewriter → List d.Piece → Source
source_of it pieces = record {
  pieces = pieces;
  mains = it.mains.now;
  comments = it.comments.now;
  seat = it.seat;
}

-- a comment more
abbrev pub commented : Written → List ℕ → Written
commented done text =
    record (added_all (from_nowhere done) (comment_items text)) { told = done.told + 1 }

-- with those of these comments, from the first on, that stand before the statement at a place
abbrev pub commented_all : ℕ → List PlacedComment → Written → Written
commented_all at [] done = done
commented_all at (comment ∷ comments) done =
    if nat_le comment.place at then commented_all at comments (commented done comment.text.now)
    else done

-- with the comments that are due before the statement at a place
abbrev pub told_to : List PlacedComment → ℕ → Written → Written
told_to comments at done = commented_all at (drop done.told comments) done

-- what stands in the place of a node, by what is known of it
abbrev pub replacement_by : Option (Bor (List ℕ)) → Bool → Bool → Bool → Option Substitute
replacement_by (Some url) is_meta_here is_main_here is_key_here = Some (Url url)
replacement_by None true is_main_here is_key_here = Some Meta
replacement_by None false true is_key_here = Some Main
replacement_by None false false true = Some Prototype
replacement_by None false false false = None

-- what stands in the place of the node at a place, if that is not the node itself
unfoldable pub replacement_at : Source → ℕ → Option Substitute
replacement_at it at =
    replacement_by
    (if is_meta_url it.pieces at then it.seat.meta_url else None)
    (it.seat.keeps_meta && is_meta it.pieces at)
    (it.seat.is_main && is_among it.mains at)
    (it.seat.is_data && is_prototype_key it.pieces at)

-- the items that stand for a node in this field
abbrev pub replacement_items : Substitute → ℕ → List i.Item
replacement_items (Url url) field = text_items field url.now
replacement_items Meta field = name_item field (codes "import.meta") Reference ∷ []
replacement_items Main field = name_item field (codes "module") Reference ∷ []
replacement_items Prototype field =
    i.Open 0 i.ComputedPropName ∷ i.Open 0 (i.Str (codes "__proto__") None) ∷ i.Close ∷ i.Close ∷ []

-- the place behind the node
abbrev pub replacement_end : Substitute → List d.Piece → ℕ → ℕ
replacement_end (Url url) pieces at = behind at 6
replacement_end Meta pieces at = behind at 2
replacement_end Main pieces at = end_of pieces at
replacement_end Prototype pieces at = behind at 2

-- a piece as it is
abbrev pub piece_items : Option d.Piece → List i.Item
piece_items (Some piece) = i.item_of piece ∷ []
piece_items None = []

-- the items that stand for what begins at a place, and the place behind it
abbrev pub items_by : Option Substitute → Option d.Piece → List i.Item
items_by (Some replacement) piece = replacement_items replacement (field_in piece)
items_by None piece = piece_items piece

abbrev pub end_by : Option Substitute → List d.Piece → ℕ → ℕ
end_by (Some replacement) pieces at = replacement_end replacement pieces at
end_by None pieces at = behind at 1

-- with what stands for the node at a place
abbrev pub put : Source → ℕ → Written → Written
put it at done =
    added_all (from_place at done) (items_by (replacement_at it at) (slice_get it.pieces at))

abbrev pub put_end : Source → ℕ → ℕ
put_end it at = end_by (replacement_at it at) it.pieces at

-- with what stands for the node at a place behind the last, and the comments that are due before it
abbrev pub put_if : Source → ℕ → ℕ → Written → Written
put_if it at next done = if nat_lt at next then done else put it at (told_to it.comments at done)

-- the place behind what stands there then
abbrev pub next_if : Source → ℕ → ℕ → ℕ
next_if it at next = if nat_lt at next then next else put_end it at

-- with what stands for so many pieces from a place on; those before `next` are passed over
abbrev pub copied_on : Source → ℕ → ℕ → ℕ → Written → Written
copied_on it zero at next done = done
copied_on it (suc n) at next done =
    copied_on it n (at + 1) (next_if it at next) (put_if it at next done)

-- with what stands for the pieces from one place up to another
abbrev pub copied : Source → ℕ → ℕ → Written → Written
copied it begin end done = copied_on it (end - begin) begin begin done

-- how many pieces of a request stand behind its specifier: of a declaration its end, of a call
-- those of its argument too
abbrev pub rest_of : RequestForm → ℕ
rest_of Import = 1
rest_of Require = 2
rest_of Dynamic = 2

-- the place behind a request
abbrev pub request_end : SourceRequest → ℕ
request_end request = behind request.behind (rest_of request.asking)

-- with a request whose specifier is this text
abbrev pub respecified : Source → SourceRequest → List ℕ → Written → Written
respecified it request text done =
    copied it request.behind (request_end request)
    (added_all (copied it request.begin request.place done)
    (text_items (field_in (slice_get it.pieces request.place)) text))

-- `namespace as sym` of an import
abbrev pub imported_items : List ℕ → List i.Item
imported_items sym =
    i.Open 0 i.ImportNamedSpecifier ∷ name_item 0 sym Binding ∷ name_item 1 (codes "namespace") Word
    ∷ i.Close ∷ []

-- `namespace as sym` of an export
abbrev pub exported_items : List ℕ → List i.Item
exported_items sym =
    i.Open 0 i.ExportNamedSpecifier ∷ name_item 0 (codes "namespace") Word ∷ name_item 1 sym Word
    ∷ i.Close ∷ []

-- the specifier of a namespace with this local name, as that of the name `namespace`: of an import
-- where it binds a name, else of an export
abbrev pub local_items : List ℕ → Role → List i.Item
local_items sym Binding = imported_items sym
local_items sym Reference = exported_items sym
local_items sym Word = exported_items sym

-- the same of an export whose name is a string, or lacks
abbrev pub quoted_items : Option (List ℕ) → List i.Item
quoted_items (Some name) =
    i.Open 0 i.ExportNamedSpecifier ∷ name_item 0 (codes "namespace") Word
    ∷ i.Open 1 (i.Str name None)
    ∷ i.Close ∷ i.Close ∷ []
quoted_items None =
    i.Open 0 i.ExportNamedSpecifier ∷ name_item 0 (codes "namespace") Word ∷ i.Close ∷ []

-- the same with this piece as the local name, and this text where it is a string
unfoldable pub namespace_items : Option d.Piece → Option (List ℕ) → List i.Item
namespace_items (Some (p.Ident field sym ctxt role)) text = local_items sym.now role
namespace_items _ text = quoted_items text

-- with the specifier at a place
abbrev pub specified : Source → RequestPart → ℕ → Written → Written
specified it part at done =
    if is_same part Namespace
    then added_all done (namespace_items (slice_get it.pieces (behind at 1))
    (text_in (node_at it.pieces (behind at 1))))
    else copied it at (end_of it.pieces at) done

-- with the specifier at a place, where it asks for this part
abbrev pub specified_if : Source → RequestPart → ℕ → Written → Written
specified_if it part at done = if asks_at it.pieces part at then specified it part at done else done

-- with the specifiers of one part at so many places from one on
abbrev pub specified_on : Source → RequestPart → ℕ → ℕ → Written → Written
specified_on it part zero at done = done
specified_on it part (suc n) at done =
    specified_on it part n (at + 1) (specified_if it part at done)

-- with what a declaration asks for of one part, from the module of this key
abbrev pub grouped : Source → SourceRequest → RequestPart → List ℕ → Written → Written
grouped it request part key done =
    if asks_for it.pieces part request.begin request.place
    then added_all
    (specified_on it part (request.place - request.begin) request.begin
    (copied it request.begin (behind request.begin 1) done))
    (source_items 1 key)
    else done

-- `import 'key'`
abbrev pub run_items : ExportMetadata → List ℕ → List i.Item
run_items meta key =
    i.Open 0 (i.ImportDecl meta) ∷ i.Open 1 (i.Str key None) ∷ i.Close ∷ i.Close ∷ []

-- with a declaration `export * from`, where the request is one
abbrev pub starred : Source → SourceRequest → PartKeys → Written → Written
starred it request keys done =
    if is_star_node (node_at it.pieces request.begin)
    then added_all (copied it request.begin request.place done) (source_items 0 keys.star.now)
    else done

-- with the default that a declaration asks for, or else a run
abbrev pub begun : Source → SourceRequest → PartKeys → Written → Written
begun it request keys done =
    if asks_for it.pieces Default request.begin request.place
    then grouped it request Default keys.default.now done
    else added_all done (run_items it.seat.notes.now keys.run.now)

-- with what a declaration asks for, part by part
abbrev pub parted : Source → SourceRequest → PartKeys → Written → Written
parted it request keys done =
    starred it request keys
    (grouped it request Names keys.names.now
    (grouped it request Properties keys.names.now
    (grouped it request Namespace keys.namespace.now (begun it request keys done))))

-- with what stands in the place of a request
abbrev pub stood : Source → SourceRequest → Stand → Written → Written
stood it request (s.Left text) done = respecified it request text.now done
stood it request (s.Module text) done = respecified it request text.now done
stood it request (s.Parts keys) done = parted it request keys done
stood it request (s.Load key name) done =
    added_all done (call_items (field_in (slice_get it.pieces request.begin)) name.now)
stood it request (s.Loader key) done =
    added_all done (loader_items (field_in (slice_get it.pieces request.begin)) key.now)

-- with a request in whose place this stands
abbrev pub requested : Source → SourceRequest → Stand → Written → Written
requested it request stand done = stood it request stand (from_place request.begin done)

-- what is put down up to a place
pub record Reached : Type 0 where
  pub place : ℕ
  pub done : Written

-- with a request in whose place this stands, and what lies before it
abbrev pub requested_next : Source → SourceRequest → Stand → Reached → Reached
requested_next it request stand reached =
    record {
      place = request_end request;
      done = requested it request stand
          (told_to it.comments request.begin (copied it reached.place request.begin reached.done));
    }

-- with these requests and what lies before each, from a place on
abbrev pub requested_all : Source → List SourceRequest → List Stand → Reached → Reached
requested_all it [] stands reached = reached
requested_all it (request ∷ requests) [] reached = reached
requested_all it (request ∷ requests) (stand ∷ stands) reached =
    requested_all it requests stands (requested_next it request stand reached)

-- `import { load as name } from 'key'`
abbrev pub load_items : ExportMetadata → List ℕ → List ℕ → List i.Item
load_items meta key name =
    i.Open 0 (i.ImportDecl meta) ∷ i.Open 0 i.ImportNamedSpecifier ∷ name_item 0 name Binding
    ∷ name_item 1 (codes "load") Word ∷ i.Close ∷ i.Open 1 (i.Str key None) ∷ i.Close ∷ i.Close ∷ []

-- with the declaration of the function that stands in the place of an `import()`
abbrev pub loaded : ExportMetadata → Written → Stand → Written
loaded meta done (s.Load key name) = added_all done (load_items meta key.now name.now)
loaded meta done _ = done

-- a last statement that makes the module one of its kind, where nothing in it tells
abbrev pub kind_items : ExportMetadata → SourceKind → Bool → Bool → List i.Item
kind_items meta EcmaScript false names_common_js = i.Open 0 (i.NamedExport meta) ∷ i.Close ∷ []
kind_items meta EcmaScript true names_common_js = []
kind_items meta CommonJs has_declarations false =
    i.Open 0 i.ExprStmt ∷ name_item 0 (codes "exports") Reference ∷ i.Close ∷ []
kind_items meta CommonJs has_declarations true = []

-- with a whole module: the requests and what lies around them, the functions that stand in the
-- place of `import()`, what makes the module one of its kind, and the module's end
abbrev pub rewritten_on : Source → SourceOutline → List Stand → Written → Written
rewritten_on it outline stands done =
    let reached = requested_all it outline.requests.items stands
    (record { place = 0; done = done }) in
    let end = length it.pieces - 1 in
    let body = copied it reached.place end reached.done in
    let loads = fold (loaded it.seat.notes.now) (from_nowhere body) stands in
    let whole = added_all loads
    (kind_items it.seat.notes.now it.seat.kind outline.has_declarations
    outline.names_common_js) in
    copied it end (length it.pieces) whole

-- nothing, where origins are asked for or not
abbrev pub blank : Bool → Written
blank keeps_origins = record {
  list = [];
  told = 0;
  origins = if keeps_origins then Some [] else None;
  origin = NO_ORIGIN;
}

-- the list of a module with these comments in which each request stands as it is told
abbrev pub written_whole
    : List d.Piece → SourceOutline → List Stand → List PlacedComment → Seat → Written
written_whole pieces outline stands comments seat =
    rewritten_on (record {
      pieces = pieces;
      mains = outline.mains.items;
      comments = comments;
      seat = seat;
    }) outline stands (blank seat.keeps_origins)

-- a list is that of a module in which each request stands as it is told, and these are the origins
-- of its pieces, where they are asked for. The comments stand each before a statement of the
-- module's top, or its end
pub record IsRewritten
    (pieces : List d.Piece) (outline : SourceOutline) (stands : List Stand)
    (texts : List (List ℕ)) (seat : Seat) (list : List d.Piece) (origins : Option (List ℕ)) : Type 0
  where
    pub comments : List PlacedComment
    pub same_texts : map (λ comment. comment.text.now) comments ≡ texts
    pub within : All (λ comment. comment.place ≤ length pieces - 1) comments
    pub is_list : map i.item_of list ≡ (written_whole pieces outline stands comments seat).list
    pub is_origins : origins ≡ (written_whole pieces outline stands comments seat).origins
