-- What a top item exports under a name, by its head.
-- The names that a module asks of others.
use Rattle.std.proofs.Common.{◌≡◌, ℕ, zero, suc, ◌+◌, Bool, true, false, List, [], ◌∷◌, ◌++◌, Option, Some, None, length, refl, ap, sym, ◌∙◌, append_assoc, map, ◌||◌, append-nil}
use Rattle.std.specs.Prelude.{if◌then◌else◌, filter, not}
use Rattle.std.specs.List.{flat_map, list_any}
use Rattle.std.proofs.lemmas.List.{map-append}
use Rattle.std.specs.Borrow.{Bor}
use Rattle.std.proofs.lemmas.Grind.{flat_map-append}
use Rattle.indexmap.specs.IndexSet.{IndexSet}
use Rattle.bundle_syntax.specs.Item as h
use Rattle.bundle_syntax.specs.Item.{Item, Head}
use Rattle.bundle_rules.specs.Nodes.{Text, begins_with, child, in_field, parts, string_of, each_once}
use Rattle.bundle_rules.specs.Entries as e
use Rattle.bundle_rules.specs.Entries.{Named, Whole}
use Rattle.bundle_rules.specs.Faults.{is_named_specifier, AskedName, asked_by_export, asked_by_import, asked_by_item, asked_names}
use Rattle.bundle_rules.specs.Statements.{placed}
use Rattle.bundle_rules.specs.Tables.{is_star, star_of}
use Rattle.bundle_tree_places.specs.Heads.{is_namespace_specifier, is_variables}
use Rattle.bundle_tree_places.specs.Lengths.{head_at}
use Rattle.bundle_link_tables.specs.Exported.{bound_at, depth_in, export_by, locals_named, exports_named, named_by_head, named_declared, named_here, named_in_list}
use Rattle.bundle_link_tables.specs.Sources.{has_external, star_by, star_in, told_external, HasTexts}
use Rattle.bundle_link_tables.proofs.ImportLemmas.{same_head, each_placed}
use Rattle.bundle_link_tables.specs.Asked.{asked_in, is_given_on}
use Rattle.bundle_link_tables.specs.declared.table.Export.{Export}
use Rattle.bundle_link_tables.specs.TablesOf.{export_entry_of}

-- ---- export

-- an item with a head exports by it
pub named_some : (look : Text → Option e.ImportEntry) (items : List Item) (head : Head) → head_at items ≡ Some head → exports_named look items ≡ named_by_head look head items
named_some look [] head is = cc
named_some look (h.Open field its ∷ rest) head is = ap (λ one. named_by_head look one (h.Open field its ∷ rest)) (same_head its head is)
named_some look (h.Ident field sym ctxt role ∷ rest) head is = cc
named_some look (h.Hole field ∷ rest) head is = cc
named_some look (h.Close ∷ rest) head is = cc

-- what is no node exports nothing
pub named_none : (look : Text → Option e.ImportEntry) (items : List Item) → head_at items ≡ None → exports_named look items ≡ []
named_none look [] is = refl
named_none look (h.Open field its ∷ rest) is = cc
named_none look (h.Ident field sym ctxt role ∷ rest) is = refl
named_none look (h.Hole field ∷ rest) is = refl
named_none look (h.Close ∷ rest) is = refl

-- a declaration of variables, and any other
by_variables : (head : Head) (items : List Item) → is_variables head ≡ true → e.declared_by head items ≡ flat_map (e.names_bound zero) (in_field 1 items)
by_variables (h.VarDecl kind meta) items is = refl
by_variables _ items is = cc

by_other : (head : Head) (items : List Item) → is_variables head ≡ false → e.declared_by head items ≡ e.text_in 0 items ∷ []
by_other (h.VarDecl kind meta) items is = cc
by_other _ items is = refl

pub declared_variables : (items : List Item) → begins_with is_variables items ≡ true → named_declared items ≡ locals_named (flat_map (e.names_bound zero) (in_field 1 items))
declared_variables [] is = cc
declared_variables (h.Open field its ∷ rest) is = ap locals_named (by_variables its (h.Open field its ∷ rest) is)
declared_variables (h.Ident field sym ctxt role ∷ rest) is = cc
declared_variables (h.Hole field ∷ rest) is = cc
declared_variables (h.Close ∷ rest) is = cc

pub declared_other : (items : List Item) (head : Head) → head_at items ≡ Some head → begins_with is_variables items ≡ false → named_declared items ≡ e.Local (e.text_in 0 items) (e.text_in 0 items) ∷ []
declared_other [] head there is = cc
declared_other (h.Open field its ∷ rest) head there is = ap locals_named (by_other its (h.Open field its ∷ rest) is)
declared_other (h.Ident field sym ctxt role ∷ rest) head there is = cc
declared_other (h.Hole field ∷ rest) head there is = cc
declared_other (h.Close ∷ rest) head there is = cc

pub declared_none : (items : List Item) → head_at items ≡ None → named_declared items ≡ []
declared_none [] is = refl
declared_none (h.Open field its ∷ rest) is = cc
declared_none (h.Ident field sym ctxt role ∷ rest) is = refl
declared_none (h.Hole field ∷ rest) is = refl
declared_none (h.Close ∷ rest) is = refl

-- the names that patterns bind, element by element
pub bound_step : (depth : ℕ) (x : Item) (rest : List Item) → e.names_bound depth (x ∷ rest) ≡ bound_at depth x ++ e.names_bound (depth_in depth x) rest
bound_step zero (h.Open field head) rest = opened (e.is_in_pattern head)
  where
    opened : (b : Bool) → ◌≡◌ {A = List Text} (elim b [ true ↦ e.names_bound zero rest | false ↦ e.names_bound 1 rest ]) (e.names_bound (if b then zero else 1) rest)
    opened true = refl
    opened false = refl
bound_step (suc depth) (h.Open field head) rest = refl
bound_step zero (h.Ident field sym ctxt role) rest = named (e.is_binding role)
  where
    named : (b : Bool) → ◌≡◌ {A = List Text} (elim b [ true ↦ sym ∷ e.names_bound zero rest | false ↦ e.names_bound zero rest ]) ((if b then sym ∷ [] else []) ++ e.names_bound zero rest)
    named true = refl
    named false = refl
bound_step (suc depth) (h.Ident field sym ctxt role) rest = refl
bound_step zero (h.Hole field) rest = refl
bound_step (suc depth) (h.Hole field) rest = refl
bound_step zero h.Close rest = refl
bound_step (suc depth) h.Close rest = refl

-- the names bound at one element go behind those of the elements before it
pub bound_moved : (before all : List e.ExportEntry) (found : List Text) (depth next : ℕ) (x : Item) (rest : List Item) (items : List Item) → items ≡ x ∷ rest → found ≡ bound_at depth x → next ≡ depth_in depth x → before ++ locals_named (e.names_bound depth items) ≡ all → (before ++ locals_named found) ++ locals_named (e.names_bound next rest) ≡ all
bound_moved before all found depth next x rest items is here behind known =
    append_assoc before (locals_named found) (locals_named (e.names_bound next rest))
    ∙ ap (λ l. before ++ l) (sym (map-append (λ x. e.Local x x) found (e.names_bound next rest)))
    ∙ ap (λ (l : List Text). before ++ locals_named (l ++ e.names_bound next rest)) here
    ∙ ap (λ n. before ++ locals_named (bound_at depth x ++ e.names_bound n rest)) behind
    ∙ ap (λ (l : List Text). before ++ locals_named l) (sym (bound_step depth x rest))
    ∙ ap (λ (l : List Item). before ++ locals_named (e.names_bound depth l)) (sym is)
    ∙ known

-- a specifier of an export list with `from`, by its head
from_head : (source : Text) (field : ℕ) (head : Head) (rest : List Item) → e.entry_from source (h.Open field head ∷ rest) ≡ (if is_namespace_specifier head then e.Indirect (e.text_in 0 (h.Open field head ∷ rest)) source e.Whole else e.Indirect (e.renamed_text (h.Open field head ∷ rest)) source (e.Named (e.text_in 0 (h.Open field head ∷ rest))))
from_head source field h.ExportNamespaceSpecifier rest = refl
from_head source field _ rest = refl

pub from_specifier : (source : Text) (items : List Item) → e.entry_from source items ≡ (if begins_with is_namespace_specifier items then e.Indirect (e.text_in 0 items) source e.Whole else e.Indirect (e.renamed_text items) source (e.Named (e.text_in 0 items)))
from_specifier source [] = refl
from_specifier source (h.Open field head ∷ rest) = from_head source field head rest
from_specifier source (h.Ident field sym ctxt role ∷ rest) = refl
from_specifier source (h.Hole field ∷ rest) = refl
from_specifier source (h.Close ∷ rest) = refl

-- a specifier of an export list without `from`, by its head
here_head : (imports : List e.ImportEntry) (field : ℕ) (head : Head) (rest : List Item) → e.entry_here imports (h.Open field head ∷ rest) ≡ named_here (e.import_of imports) (h.Open field head ∷ rest)
here_head imports field h.ExportNamedSpecifier rest = refl
here_head imports field _ rest = refl

here_specifier : (imports : List e.ImportEntry) (items : List Item) → e.entry_here imports items ≡ named_here (e.import_of imports) items
here_specifier imports [] = refl
here_specifier imports (h.Open field head ∷ rest) = here_head imports field head rest
here_specifier imports (h.Ident field sym ctxt role ∷ rest) = refl
here_specifier imports (h.Hole field ∷ rest) = refl
here_specifier imports (h.Close ∷ rest) = refl

-- The entries that have a name, of those of the definition.

-- an entry that has a name, by itself; a star has none
abbrev pub named_entry : e.ExportEntry → List e.ExportEntry
named_entry (e.Local name of) = e.Local name of ∷ []
named_entry (e.Indirect name specifier taken) = e.Indirect name specifier taken ∷ []
named_entry (e.Star specifier) = []

named_append : (a b : List e.ExportEntry) → flat_map named_entry (a ++ b) ≡ flat_map named_entry a ++ flat_map named_entry b
named_append [] b = refl
named_append (x ∷ a) b = ap (λ l. named_entry x ++ l) (named_append a b) ∙ sym (append_assoc (named_entry x) (flat_map named_entry a) (flat_map named_entry b))

named_locals : (names : List Text) → flat_map named_entry (map (λ x. e.Local x x) names) ≡ locals_named names
named_locals [] = refl
named_locals (x ∷ names) = ap (λ l. e.Local x x ∷ l) (named_locals names)

named_indirect : (b : Bool) (x y z : Text) (rest : List e.ExportEntry) → named_entry (if b then e.Indirect x z e.Whole else e.Indirect y z (e.Named x)) ++ rest ≡ (if b then e.Indirect x z e.Whole else e.Indirect y z (e.Named x)) ∷ rest
named_indirect true x y z rest = refl
named_indirect false x y z rest = refl

named_from : (source : Text) (nodes : List (List Item)) → flat_map named_entry (map (e.entry_from source) nodes) ≡ map (e.entry_from source) nodes
named_from source [] = refl
named_from source (node ∷ more) =
    ap (λ it. named_entry it ++ flat_map named_entry (map (e.entry_from source) more)) (from_specifier source node)
    ∙ named_indirect (begins_with is_namespace_specifier node) (e.text_in 0 node) (e.renamed_text node) source (flat_map named_entry (map (e.entry_from source) more))
    ∙ ap (λ it. it ∷ flat_map named_entry (map (e.entry_from source) more)) (sym (from_specifier source node))
    ∙ ap (λ l. e.entry_from source node ∷ l) (named_from source more)

named_given : (name of : Text) (found : Option e.ImportEntry) → flat_map named_entry (e.given_on name of found ∷ []) ≡ e.given_on name of found ∷ []
named_given name of None = refl
named_given name of (Some entry) = by_taken (entry.taken)
  where
    by_taken : (taken : e.Taken) → flat_map named_entry ((elim taken [ Named x ↦ e.Indirect name entry.specifier (e.Named x) | Whole ↦ e.Local name of ]) ∷ []) ≡ (elim taken [ Named x ↦ e.Indirect name entry.specifier (e.Named x) | Whole ↦ e.Local name of ]) ∷ []
    by_taken (e.Named x) = refl
    by_taken e.Whole = refl

named_one : (look : Text → Option e.ImportEntry) (node : List Item) → flat_map named_entry (named_here look node) ≡ named_here look node
named_one look node = one (begins_with is_named_specifier node)
  where
    one : (b : Bool) → flat_map named_entry (if b then export_by look node ∷ [] else []) ≡ (if b then export_by look node ∷ [] else [])
    one true = named_given (e.renamed_text node) (e.text_in 0 node) (look (e.text_in 0 node))
    one false = refl

same_here : (look other : Text → Option e.ImportEntry) → ((x : Text) → look x ≡ other x) → (node : List Item) → named_here look node ≡ named_here other node
same_here look other same node = ap (λ found. if begins_with is_named_specifier node then e.given_on (e.renamed_text node) (e.text_in 0 node) found ∷ [] else []) (same (e.text_in 0 node))

named_list : (look : Text → Option e.ImportEntry) (imports : List e.ImportEntry) → ((x : Text) → look x ≡ e.import_of imports x) → (nodes : List (List Item)) → flat_map named_entry (flat_map (e.entry_here imports) nodes) ≡ flat_map (named_here look) nodes
named_list look imports same [] = refl
named_list look imports same (node ∷ more) =
    named_append (e.entry_here imports node) (flat_map (e.entry_here imports) more)
    ∙ ap (λ l. flat_map named_entry (e.entry_here imports node) ++ l) (named_list look imports same more)
    ∙ ap (λ l. l ++ flat_map (named_here look) more)
    (ap (flat_map named_entry) (here_specifier imports node) ∙ named_one (e.import_of imports) node ∙ sym (same_here look (e.import_of imports) same node))

named_lists : (look : Text → Option e.ImportEntry) (imports : List e.ImportEntry) → ((x : Text) → look x ≡ e.import_of imports x) → (source : Option Text) (item : List Item) → flat_map named_entry (e.entries_of_list imports source item) ≡ named_in_list look source item
named_lists look imports same None item = named_list look imports same (in_field 0 item)
named_lists look imports same (Some source) item = named_from source (in_field 0 item)

named_heads : (look : Text → Option e.ImportEntry) (imports : List e.ImportEntry) → ((x : Text) → look x ≡ e.import_of imports x) → (head : Head) (item : List Item) → flat_map named_entry (e.exports_by imports head item) ≡ named_by_head look head item
named_heads look imports same h.ExportDecl item = named_locals (e.names_declared (child 0 item))
named_heads look imports same (h.NamedExport meta) item = named_lists look imports same (string_of (child 1 item)) item
named_heads look imports same h.ExportDefaultDecl item = refl
named_heads look imports same h.ExportDefaultExpr item = refl
named_heads look imports same (h.ExportAll meta) item = refl
named_heads look imports same _ item = refl

pub named_items : (look : Text → Option e.ImportEntry) (imports : List e.ImportEntry) → ((x : Text) → look x ≡ e.import_of imports x) → (items : List Item) → flat_map named_entry (e.exports_of_item imports items) ≡ exports_named look items
named_items look imports same [] = refl
named_items look imports same (h.Open field head ∷ rest) = named_heads look imports same head (h.Open field head ∷ rest)
named_items look imports same (h.Ident field sym ctxt role ∷ rest) = refl
named_items look imports same (h.Hole field ∷ rest) = refl
named_items look imports same (h.Close ∷ rest) = refl

named_placed : (look : Text → Option e.ImportEntry) (imports : List e.ImportEntry) → ((x : Text) → look x ≡ e.import_of imports x) → (start : ℕ) (nodes : List (List Item)) → flat_map named_entry (flat_map (λ top. e.exports_of_item imports top.items) (placed start nodes)) ≡ flat_map (exports_named look) nodes
named_placed look imports same start [] = refl
named_placed look imports same start (node ∷ more) =
    let behind = placed (start + length node) more in
    named_append (e.exports_of_item imports node) (flat_map (λ top. e.exports_of_item imports top.items) behind)
    ∙ ap (λ l. flat_map named_entry (e.exports_of_item imports node) ++ l) (named_placed look imports same (start + length node) more)
    ∙ ap (λ l. l ++ flat_map (exports_named look) more) (named_items look imports same node)

-- they are the entries that are no stars
named_filter : (es : List e.ExportEntry) → flat_map named_entry es ≡ filter (λ entry. not (is_star entry)) es
named_filter [] = refl
named_filter (e.Local name of ∷ es) = ap (λ l. e.Local name of ∷ l) (named_filter es)
named_filter (e.Indirect name specifier taken ∷ es) = ap (λ l. e.Indirect name specifier taken ∷ l) (named_filter es)
named_filter (e.Star specifier ∷ es) = named_filter es

-- the exports of a module that have a name, where these are its top items and `look` finds its imports
pub exports_placed : (look : Text → Option e.ImportEntry) (tree : List Item) (tops : List (List Item)) → ((x : Text) → look x ≡ e.import_of (e.imports_of tree) x) → tops ≡ parts tree → flat_map (exports_named look) tops ≡ filter (λ entry. not (is_star entry)) (e.exports_of tree)
exports_placed look tree tops same are = ap (flat_map (exports_named look)) are ∙ sym (named_placed look (e.imports_of tree) same 1 (parts tree)) ∙ named_filter (e.exports_of tree)

-- `look` finds the imports of a module, where it finds these
pub imports_found : (look : Text → Option e.ImportEntry) (imports : List e.ImportEntry) (tree : List Item) → imports ≡ e.imports_of tree → ((x : Text) → look x ≡ e.import_of imports x) → (x : Text) → look x ≡ e.import_of (e.imports_of tree) x
imports_found look imports tree are known x = known x ∙ ap (λ l. e.import_of l x) are

-- what a module asks for, where these are its top items
asked_placed_export : (start : ℕ) (nodes : List (List Item)) → flat_map (λ top. e.requests_of_item top.items) (placed start nodes) ≡ flat_map e.requests_of_item nodes
asked_placed_export start [] = refl
asked_placed_export start (node ∷ more) = ap (λ l. e.requests_of_item node ++ l) (asked_placed_export (start + length node) more)

pub requests_placed : (tree : List Item) (tops : List (List Item)) → tops ≡ parts tree → flat_map e.requests_of_item tops ≡ e.declared_requests tree
requests_placed tree tops are = ap (flat_map e.requests_of_item) are ∙ sym (asked_placed_export 1 (parts tree))

-- The stars.

stars_append : (a b : List e.ExportEntry) → flat_map star_of (a ++ b) ≡ flat_map star_of a ++ flat_map star_of b
stars_append [] b = refl
stars_append (x ∷ a) b = ap (λ l. star_of x ++ l) (stars_append a b) ∙ sym (append_assoc (star_of x) (flat_map star_of a) (flat_map star_of b))

stars_locals : (names : List Text) → flat_map star_of (map (λ x. e.Local x x) names) ≡ []
stars_locals [] = refl
stars_locals (x ∷ names) = stars_locals names

stars_indirect : (b : Bool) (x y z : Text) → star_of (if b then e.Indirect x z e.Whole else e.Indirect y z (e.Named x)) ≡ []
stars_indirect true x y z = refl
stars_indirect false x y z = refl

stars_from : (source : Text) (nodes : List (List Item)) → flat_map star_of (map (e.entry_from source) nodes) ≡ []
stars_from source [] = refl
stars_from source (node ∷ more) =
    ap (λ it. star_of it ++ flat_map star_of (map (e.entry_from source) more)) (from_specifier source node)
    ∙ ap (λ l. l ++ flat_map star_of (map (e.entry_from source) more)) (stars_indirect (begins_with is_namespace_specifier node) (e.text_in 0 node) (e.renamed_text node) source)
    ∙ stars_from source more

stars_given : (name of : Text) (found : Option e.ImportEntry) → flat_map star_of (e.given_on name of found ∷ []) ≡ []
stars_given name of None = refl
stars_given name of (Some entry) = by_taken (entry.taken)
  where
    by_taken : (taken : e.Taken) → flat_map star_of ((elim taken [ Named x ↦ e.Indirect name entry.specifier (e.Named x) | Whole ↦ e.Local name of ]) ∷ []) ≡ []
    by_taken (e.Named x) = refl
    by_taken e.Whole = refl

stars_one : (look : Text → Option e.ImportEntry) (node : List Item) → flat_map star_of (named_here look node) ≡ []
stars_one look node = one (begins_with is_named_specifier node)
  where
    one : (b : Bool) → flat_map star_of (if b then export_by look node ∷ [] else []) ≡ []
    one true = stars_given (e.renamed_text node) (e.text_in 0 node) (look (e.text_in 0 node))
    one false = refl

stars_here : (imports : List e.ImportEntry) (nodes : List (List Item)) → flat_map star_of (flat_map (e.entry_here imports) nodes) ≡ []
stars_here imports [] = refl
stars_here imports (node ∷ more) =
    stars_append (e.entry_here imports node) (flat_map (e.entry_here imports) more)
    ∙ ap (λ l. flat_map star_of (e.entry_here imports node) ++ l) (stars_here imports more)
    ∙ ap (λ l. l ++ []) (ap (flat_map star_of) (here_specifier imports node) ∙ stars_one (e.import_of imports) node)

stars_lists : (imports : List e.ImportEntry) (source : Option Text) (item : List Item) → flat_map star_of (e.entries_of_list imports source item) ≡ []
stars_lists imports None item = stars_here imports (in_field 0 item)
stars_lists imports (Some source) item = stars_from source (in_field 0 item)

stars_heads : (imports : List e.ImportEntry) (head : Head) (item : List Item) → flat_map star_of (e.exports_by imports head item) ≡ star_by head item
stars_heads imports h.ExportDecl item = stars_locals (e.names_declared (child 0 item))
stars_heads imports (h.NamedExport meta) item = stars_lists imports (string_of (child 1 item)) item
stars_heads imports h.ExportDefaultDecl item = refl
stars_heads imports h.ExportDefaultExpr item = refl
stars_heads imports (h.ExportAll meta) item = refl
stars_heads imports _ item = refl

stars_items : (imports : List e.ImportEntry) (items : List Item) → flat_map star_of (e.exports_of_item imports items) ≡ star_in items
stars_items imports [] = refl
stars_items imports (h.Open field head ∷ rest) = stars_heads imports head (h.Open field head ∷ rest)
stars_items imports (h.Ident field sym ctxt role ∷ rest) = refl
stars_items imports (h.Hole field ∷ rest) = refl
stars_items imports (h.Close ∷ rest) = refl

stars_all : (imports : List e.ImportEntry) (start : ℕ) (nodes : List (List Item)) → flat_map star_of (flat_map (λ top. e.exports_of_item imports top.items) (placed start nodes)) ≡ flat_map star_in nodes
stars_all imports start [] = refl
stars_all imports start (node ∷ more) =
    let behind = placed (start + length node) more in
    stars_append (e.exports_of_item imports node) (flat_map (λ top. e.exports_of_item imports top.items) behind)
    ∙ ap (λ l. flat_map star_of (e.exports_of_item imports node) ++ l) (stars_all imports (start + length node) more)
    ∙ ap (λ l. l ++ flat_map star_in more) (stars_items imports node)

-- what stars ask for, where these are the top items
pub stars_placed : (tree : List Item) (tops : List (List Item)) → tops ≡ parts tree → each_once (flat_map star_in tops) ≡ each_once (flat_map star_of (e.exports_of tree))
stars_placed tree tops are = ap each_once (ap (flat_map star_in) are ∙ sym (stars_all (e.imports_of tree) 1 (parts tree)))

-- texts and whether they are external, by a set that holds just these
pub told_all : {S : Type 0} (set : IndexSet (Bor Text) S) (texts xs : List Text) → HasTexts set texts → map (has_external set) xs ≡ map (told_external texts) xs
told_all set texts [] holds = refl
told_all set texts (x ∷ xs) holds = ap (λ b. (x, b) ∷ map (has_external set) xs) (holds x) ∙ ap (λ l. told_external texts x ∷ l) (told_all set texts xs holds)

-- ---- asked

-- a star asks for nothing, so the exports that have a name are enough
asked_named : (es : List e.ExportEntry) → flat_map asked_by_export (flat_map named_entry es) ≡ flat_map asked_by_export es
asked_named [] = refl
asked_named (e.Local name of ∷ es) = asked_named es
asked_named (e.Indirect name specifier taken ∷ es) = ap (λ l. asked_by_export (e.Indirect name specifier taken) ++ l) (asked_named es)
asked_named (e.Star specifier ∷ es) = asked_named es

-- what a top item asks for, where `look` finds the imports of its module
asked_item : (look : Text → Option e.ImportEntry) (imports : List e.ImportEntry) → ((x : Text) → look x ≡ e.import_of imports x) → (item : List Item) → asked_in look item ≡ asked_by_item imports item
asked_item look imports same item =
    ap (λ l. flat_map asked_by_import (e.imports_of_item item) ++ flat_map asked_by_export l) (sym (named_items look imports same item))
    ∙ ap (λ l. flat_map asked_by_import (e.imports_of_item item) ++ l) (asked_named (e.exports_of_item imports item))

asked_items : (look : Text → Option e.ImportEntry) (imports : List e.ImportEntry) → ((x : Text) → look x ≡ e.import_of imports x) → (items : List (List Item)) → flat_map (asked_in look) items ≡ flat_map (asked_by_item imports) items
asked_items look imports same [] = refl
asked_items look imports same (item ∷ more) =
    ap (λ l. asked_in look item ++ l) (asked_items look imports same more)
    ∙ ap (λ l. l ++ flat_map (asked_by_item imports) more) (asked_item look imports same item)

-- the names that a module asks for, where these are its top items and `look` finds its imports
pub asked_placed : (look : Text → Option e.ImportEntry) (tree : List Item) (tops : List (List Item)) → ((x : Text) → look x ≡ e.import_of (e.imports_of tree) x) → tops ≡ parts tree → flat_map (asked_in look) tops ≡ asked_names tree
asked_placed look tree tops same are =
    ap (flat_map (asked_in look)) are
    ∙ asked_items look (e.imports_of tree) same (parts tree)
    ∙ sym (each_placed (asked_by_item (e.imports_of tree)) 1 (parts tree))

-- exports of which none is given on ask for nothing
none_asked : (exports : List Export) → list_any (λ export. is_given_on (export_entry_of export)) exports ≡ false → flat_map asked_by_export (map export_entry_of exports) ≡ []
none_asked [] none = refl
none_asked (export ∷ more) none = by (export_entry_of export) (none_asked more) none
  where
    others : Bool
    others = list_any (λ (other : Export). is_given_on (export_entry_of other)) more

    by : (entry : e.ExportEntry) → (others ≡ false → flat_map asked_by_export (map export_entry_of more) ≡ []) → (is_given_on entry || others) ≡ false → asked_by_export entry ++ flat_map asked_by_export (map export_entry_of more) ≡ []
    by (e.Local name of) rest none = rest none
    by (e.Indirect name specifier taken) rest none = cc
    by (e.Star specifier) rest none = rest none

both_empty : (first second : List AskedName) → first ++ second ≡ [] → (first ≡ []) × (second ≡ [])
both_empty [] second none = (refl, none)
both_empty (x ∷ first) second none = cc

-- where the exports ask for nothing, the top items ask for what their imports do
asked_alone : (look : Text → Option e.ImportEntry) (tops : List (List Item)) → flat_map asked_by_export (flat_map (exports_named look) tops) ≡ [] → flat_map asked_by_import (flat_map e.imports_of_item tops) ≡ flat_map (asked_in look) tops
asked_alone look [] none = refl
asked_alone look (item ∷ more) none =
    let imports : List AskedName = flat_map asked_by_import (e.imports_of_item item) in
    let both = both_empty (flat_map asked_by_export (exports_named look item)) (flat_map asked_by_export (flat_map (exports_named look) more)) (sym (flat_map-append asked_by_export (exports_named look item) (flat_map (exports_named look) more)) ∙ none) in
    flat_map-append asked_by_import (e.imports_of_item item) (flat_map e.imports_of_item more)
    ∙ ap (λ l. imports ++ l) (asked_alone look more both.1)
    ∙ ap (λ l. l ++ flat_map (asked_in look) more) (sym (append-nil imports) ∙ ap (λ l. imports ++ l) (sym both.0))

-- where these are the imports of the top items and these their exports, of which none is given on, the imports alone ask
pub imports_alone : (look : Text → Option e.ImportEntry) (tops : List (List Item)) (imports : List e.ImportEntry) (exports : List Export) → imports ≡ flat_map e.imports_of_item tops → map export_entry_of exports ≡ flat_map (exports_named look) tops → list_any (λ export. is_given_on (export_entry_of export)) exports ≡ false → flat_map asked_by_import imports ≡ flat_map (asked_in look) tops
imports_alone look tops imports exports are given none =
    ap (flat_map asked_by_import) are ∙ asked_alone look tops (ap (flat_map asked_by_export) (sym given) ∙ none_asked exports none)
