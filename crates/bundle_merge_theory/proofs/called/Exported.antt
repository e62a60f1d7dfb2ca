-- The list of exports, and the object that is returned in its place.
-- An item of statements stands for its cause in the function too.
use Rattle.std.proofs.Common.{◌≡◌, ℕ, zero, suc, ◌+◌, ◌<◌, ◌≤◌, Bool, true, false, cond, ◌&&◌, List, [], ◌∷◌, ◌++◌, append_assoc, Option, Some, None, option_map, map, filter, find, bytes_eq, refl, ap, ap₂, sym, ◌∙◌, subst, arith, codes, length}
use Rattle.std.specs.Prelude.{if◌then◌else◌, flat_map, filter_map, Contains}
use Rattle.std.specs.List.{AllZip}
use Rattle.std.specs.Ordering.{nat_cmp}
use Rattle.std.specs.Cmp.Lexicographic.{slice_cmp}
use Rattle.std.specs.declared.cmp.Ordering.TheVariants.{Less}
use Rattle.std.proofs.lemmas.Cmp.{nat_list_cmp_total}
use Rattle.std.proofs.lemmas.Bool.{leb-true, false≢true}
use Rattle.std.proofs.lemmas.Option.{none-some, same_Some}
use Rattle.std.proofs.lemmas.List.{length-map, map-append}
use Rattle.bundle_tree_names.specs.FileName.{real}
use Rattle.bundle_syntax.specs.declared.kind.ExportMetadata.{ExportMetadata}
use Rattle.bundle_syntax.specs.Item as h
use Rattle.bundle_syntax.specs.Item.{Item}
use Rattle.bundle_syntax.specs.declared.piece.Role.TheVariants
use Rattle.bundle_rules.specs.Places.{Around, start}
use Rattle.bundle_rules.specs.Scopes.{Es, Scope, Top, Inner, FunctionBody, ModuleKind}
use Rattle.bundle_rules.specs.Declarations.{Reading, BySymbol, ByContext, Name as Known_as, name_of, Declared, declared}
use Rattle.bundle_rules.specs.Homes.{binds}
use Rattle.bundle_rules.specs.Denotes.{Denoted, Bound, Global, bound_in, without_context, is_unresolved, is_written_in, is_implied_in, written_or_implied, denoted_in, denoted_of, denoted_at}
use Rattle.bundle_rules.specs.Nodes.{Text, side_by_side, begins_in}
use Rattle.bundle_rules.specs.Statements.{Element, taken, taken_from, TopItem, placed, own_statements}
use Rattle.bundle_rules.specs.Mentions.{same_context, same_denoted}
use Rattle.bundle_rules.specs.Meaning
use Rattle.bundle_rules.specs.Meaning.{Label, Of, Meant, Mark, View, is_inside, inner_bindings, denoted, NameMeans, Means, StatementMeans, Labelling, bundle_sense, OwnMeaning, HasKind, is_es, is_common_js}
use Rattle.bundle_rules.specs.Marks.{Begins, Ends, Name, Word, word_key, computed_key}
use Rattle.bundle_rules.specs.Linking.{Target, IsCommonJs}
use Rattle.bundle_rules.specs.Idents.{Ident}
use Rattle.bundle_rules.specs.Injected.{NamedTarget, is_ascii_identifier, string_marks, key_marks, export_specifier, export_list, property, return_object}
use Rattle.bundle_rules.specs.Rebuilds.{plain_key}
use Rattle.bundle_rules.specs.Forms.{exported_pair, is_less, put_by_name, by_names, exported_pairs, returned_key, returned_property, returned_object}
use Rattle.bundle_rules.specs.Bundle
use Rattle.bundle_rules.specs.Bundle.{IsAscending, Form, AsModule, AsCall, form_of, Cause, IsDue, Hooks, Labelled, elements_of, ItemMeans, SameMeaning, IsLoadFunction, Realises, properties_tree}
use Rattle.bundle_rules.specs.Callable.{Every, none, more, module_with, ExportedName, word, text, Specifier, name_items, specifier_items, export_items, StatesNoExports}
use Rattle.bundle_rules.specs.Bound.{has_free}
use Rattle.bundle_rules.specs.Entries.{Settings}
use Rattle.bundle_rules.specs.Program.{Program, tree_of, IsReached}
use Rattle.bundle_rules.specs.Faults.{IsFaultlessProgram, arguments_under_iife}
use Rattle.bundle_merge_theory.specs.called.Moved.{moved_scopes, called_denoted, top}
use Rattle.bundle_merge_theory.specs.called.Called.{around_place, called_path, call_with, AreTwins}
use Rattle.bundle_merge_theory.proofs.called.Homes.{differs, denoted_in-moved}
use Rattle.bundle_merge_theory.proofs.called.Lists.{declared-twins, seats-twins}
use Rattle.bundle_merge_theory.proofs.called.Means.{moved_labels, labels-moved, position-none, every-once, every-map, IsPlaced, moved_element, IsPlainMark, plain-elements, means-moved, statement-moved, every-both, every-rest}
use Rattle.bundle_merge_theory.proofs.called.Spots.{IsAt, at-next, at-path, at-occurrence, at-list, mean-open, mean-close, mean-name, un-open, un-close, un-name, un-word, meant-next, list-meant, begins-item}
use Rattle.bundle_merge_theory.proofs.called.Sides.{IsNoList, moved_item, taken-moved, placed-moved, placed-items, placed-positive, every-front, sides-front}
use Rattle.bundle_merge_theory.proofs.called.Plain
use Rattle.bundle_merge_theory.proofs.called.Plain.{marks-plain, free-nowhere, arguments-bound}

-- ---- exported

-- What a specifier says.

-- the name under which a specifier exports
abbrev pub exported : Specifier → Text
exported it =
    elim (it.name) [ None ↦ it.sym | Some n ↦ elim n [ word x ctxt ↦ x | text x raw ↦ x ] ]

-- the binding of the top that has this name, and its label
pub record StandsFor (reading : Reading) (all : List Declared) (labels : Labelling) (x : Text) (ctxt : ℕ) (t : Target) : Type 0 where
  pub name : Known_as
  pub denotes : denoted_in reading all (Top ∷ []) (name_of reading x ctxt) ≡ Bound Top name
  pub labelled : Contains labels (Bound Top name, Of t)

-- a specifier is that of a name and its target
pub record Fits (reading : Reading) (all : List Declared) (labels : Labelling) (it : Specifier) (pair : NamedTarget) : Type 0 where
  pub named : exported it ≡ pair.0
  pub stands : StandsFor reading all labels it.sym it.ctxt pair.1

top-found : (q : Scope → Bool) (s : Scope) → find q (Top ∷ []) ≡ Some s → s ≡ Top
top-found q s e = by (q Top) e
  where
    by : (t : Bool) → ◌≡◌ {A = Option Scope} (cond t (Some Top) None) (Some s) → s ≡ Top
    by true is = sym (same_Some Top s is)
    by false is = absurd (none-some s is)

-- at the top a name denotes a binding of the top
abbrev IsOfTop : Denoted → Type 0
IsOfTop (Bound scope name) = scope ≡ Top
IsOfTop (Global x) = Unit {0}

found-top : (name : Known_as) (o : Option Scope) → ((s : Scope) → o ≡ Some s → s ≡ Top) →
    IsOfTop (bound_in name o)
found-top name None at = tt
found-top name (Some s) at = at s refl

of-top : (reading : Reading) (all : List Declared) (name : Known_as) →
    IsOfTop (denoted_in reading all (Top ∷ []) name)
of-top BySymbol all name =
    found-top name (find (λ scope. binds all scope name) (Top ∷ []))
    (top-found (λ scope. binds all scope name))
of-top ByContext all name =
    by (find (λ scope. is_written_in all scope name) (Top ∷ []))
    (top-found (λ scope. is_written_in all scope name))
  where
    unresolved : (t : Bool) →
        IsOfTop
        (cond t (Global name.sym) (bound_in (without_context name) (find (λ scope. is_implied_in all scope name) (Top ∷ []))))
    unresolved true = tt
    unresolved false =
        found-top (without_context name) (find (λ scope. is_implied_in all scope name) (Top ∷ []))
        (top-found (λ scope. is_implied_in all scope name))

    by : (o : Option Scope) → ((s : Scope) → o ≡ Some s → s ≡ Top) →
        IsOfTop (written_or_implied all (Top ∷ []) name o)
    by None at = unresolved (is_unresolved name.ctxt)
    by (Some s) at = at s refl

-- a name that means a label
known : {tree : List Item} {reading : Reading} (labels : Labelling) {inner : List Denoted}
    {d : Denoted} {meant : Meant} (l : Label) →
    NameMeans (bundle_sense tree reading labels) inner d meant → meant ≡ Meaning.Known l →
    (scope : Scope) × (name : Known_as) × (d ≡ Bound scope name) ×
    Contains labels (Bound scope name, l)
known labels l (Meaning.inside e) is = absurd cc
known labels l (Meaning.outside {scope} {name} {l = its} e stands) is = let same : its ≡ l = cc in (scope, name, refl, subst (λ k. Contains labels (Bound scope name, k)) same stands)
known labels l Meaning.unbound is = absurd cc

-- The list, read.

-- what the exported name of a specifier says
record NameRead (tree : List Item) (reading : Reading) (labels : Labelling) (inner : List Denoted) (meta : ExportMetadata) (b g : ℕ) (it : Specifier) (x : Text) (behind_it : List Item) (es : List Item) (marks : List Mark) : Type 0 where
  named : exported it ≡ x
  j : ℕ
  n : ℕ
  at : IsAt tree j
      (record { place = n; path = around_place (h.NamedExport meta) b 0 ∷ around_place h.Module 0 g ∷ [] })
      behind_it
  means : Means (bundle_sense tree reading labels) inner (taken_from j es) marks

name-read : (tree : List Item) (reading : Reading) (labels : Labelling) {inner : List Denoted}
    (meta : ExportMetadata) (b g c f : ℕ) (y : Text) (ctxt : ℕ) (name : Option ExportedName)
    (x : Text) (t : Bool) (behind_it es : List Item) (some others : List Mark) (j n : ℕ) →
    IsAt tree j
    (record { place = n; path = around_place h.ExportNamedSpecifier c f ∷ around_place (h.NamedExport meta) b 0 ∷ around_place h.Module 0 g ∷ [] })
    ((name_items name ++ h.Close ∷ []) ++ behind_it) →
    Means (bundle_sense tree reading labels) inner
    (taken_from j ((name_items name ++ h.Close ∷ []) ++ es))
    ((((if t then Word 1 x ∷ [] else string_marks 1 x) ++ Ends ∷ []) ++ some) ++ others) →
    NameRead tree reading labels inner meta b g (record { sym = y; ctxt = ctxt; name = name }) x
    behind_it es (some ++ others)
name-read tree reading labels meta b g c f y ctxt None x true behind_it es some others j n at means =
    let e = (meant-next (un-close tree reading labels j (around_place h.ExportNamedSpecifier c f) (around_place (h.NamedExport meta) b 0 ∷ around_place h.Module 0 g ∷ []) (at-path at) refl means)).0 in absurd cc
name-read tree reading labels meta b g c f y ctxt None x false behind_it es some others j n at means =
    let e = (meant-next (un-close tree reading labels j (around_place h.ExportNamedSpecifier c f) (around_place (h.NamedExport meta) b 0 ∷ around_place h.Module 0 g ∷ []) (at-path at) refl means)).0 in absurd cc
name-read tree reading labels meta b g c f y ctxt (Some (word z its)) x false behind_it es some others j n at means =
    let e = (meant-next (un-word tree reading labels j 1 z its (at-occurrence at) means)).0 in absurd cc
name-read tree reading labels meta b g c f y ctxt (Some (text z raw)) x true behind_it es some others j n at means =
    let e = (meant-next (un-open tree reading labels j 1 (h.Str z raw) (around_place h.ExportNamedSpecifier c 1) (around_place (h.NamedExport meta) b 0 ∷ around_place h.Module 0 g ∷ []) (at-path at) refl refl means)).0 in absurd cc
name-read tree reading labels meta b g c f y ctxt (Some (word z its)) x true behind_it es some others j n at means =
    let first = meant-next (un-word tree reading labels j 1 z its (at-occurrence at) means) in
    let second = meant-next (un-close tree reading labels (suc j) (around_place h.ExportNamedSpecifier c f) (around_place (h.NamedExport meta) b 0 ∷ around_place h.Module 0 g ∷ []) (at-path (at-next at)) refl first.1) in
    let e : ◌≡◌ {A = Mark} (Word 1 x) (Word 1 z) = first.0 in
    let same : z ≡ x = cc in
    record { named = same; j = suc (suc j); n = n + 1 + 1; at = at-next (at-next at); means = second.1 }
name-read tree reading labels meta b g c f y ctxt (Some (text z raw)) x false behind_it es some others j n at means =
    let first = meant-next (un-open tree reading labels j 1 (h.Str z raw) (around_place h.ExportNamedSpecifier c 1) (around_place (h.NamedExport meta) b 0 ∷ around_place h.Module 0 g ∷ []) (at-path at) refl refl means) in
    let second = meant-next (un-close tree reading labels (suc j) (around_place (h.Str z raw) n 0) (around_place h.ExportNamedSpecifier c 1 ∷ around_place (h.NamedExport meta) b 0 ∷ around_place h.Module 0 g ∷ []) (at-path (at-next at)) refl first.1) in
    let third = meant-next (un-close tree reading labels (suc (suc j)) (around_place h.ExportNamedSpecifier c 1) (around_place (h.NamedExport meta) b 0 ∷ around_place h.Module 0 g ∷ []) (at-path (at-next (at-next at))) refl second.1) in
    let e : ◌≡◌ {A = Mark} (Begins 1 (h.Str x None)) (Begins 1 (h.Str z raw)) = first.0 in
    let same : z ≡ x = cc in
    record { named = same; j = suc (suc (suc j)); n = n + 1 + 1 + 1; at = at-next (at-next (at-next at)); means = third.1 }

-- what one specifier says
record SpecifierRead (tree : List Item) (reading : Reading) (labels : Labelling) (inner : List Denoted) (meta : ExportMetadata) (b g : ℕ) (it : Specifier) (pair : NamedTarget) (behind_it : List Item) (es : List Item) (marks : List Mark) : Type 0 where
  fits : Fits reading (declared reading Es tree) labels it pair
  read : NameRead tree reading labels inner meta b g it pair.0 behind_it es marks

specifier-read : (tree : List Item) (reading : Reading) (labels : Labelling) {inner : List Denoted}
    (meta : ExportMetadata) (b g : ℕ) (y : Text) (ctxt : ℕ) (name : Option ExportedName)
    (pair : NamedTarget) (behind_it es : List Item) (some others : List Mark) (j n f : ℕ) →
    IsAt tree j
    (record { place = n; path = around_place (h.NamedExport meta) b f ∷ around_place h.Module 0 g ∷ [] })
    (specifier_items (record { sym = y; ctxt = ctxt; name = name }) ++ behind_it) →
    Means (bundle_sense tree reading labels) inner
    (taken_from j (specifier_items (record { sym = y; ctxt = ctxt; name = name }) ++ es))
    ((export_specifier pair ++ some) ++ others) →
    SpecifierRead tree reading labels inner meta b g (record { sym = y; ctxt = ctxt; name = name })
    pair behind_it es (some ++ others)
specifier-read tree reading labels {inner} meta b g y ctxt name pair behind_it es some others j n f at means =
    let first = meant-next (un-open tree reading labels j 0 h.ExportNamedSpecifier (around_place (h.NamedExport meta) b 0) (around_place h.Module 0 g ∷ []) (at-path at) refl refl means) in
    let local = un-name tree reading labels (suc j) 0 y ctxt (around_place h.ExportNamedSpecifier n 0) (around_place (h.NamedExport meta) b 0 ∷ around_place h.Module 0 g ∷ []) (at-path (at-next at)) refl first.1 in
    let second = meant-next local.taken in
    let e : ◌≡◌ {A = Mark} (Name 0 (Meaning.Known (Of pair.1))) (Name 0 local.meant) = second.0 in
    let is : local.meant ≡ Meaning.Known (Of pair.1) = cc in
    let k = known labels (Of pair.1) local.means_it is in
    let there : Some (denoted_in reading (declared reading Es tree) (Top ∷ []) (name_of reading y ctxt)) ≡ Some local.d = sym (ap (option_map (denoted_of reading Es (declared reading Es tree))) (at-occurrence (at-next at))) ∙ local.denoted in
    let found : denoted_in reading (declared reading Es tree) (Top ∷ []) (name_of reading y ctxt) ≡ Bound k.0 k.1 = same_Some _ _ there ∙ k.2 in
    let topmost : k.0 ≡ Top = subst IsOfTop found (of-top reading (declared reading Es tree) (name_of reading y ctxt)) in
    let read = name-read tree reading labels meta b g n 0 y ctxt name pair.0 (is_ascii_identifier pair.0) behind_it es some others (suc (suc j)) (n + 1 + 1) (at-next (at-next at)) second.1 in
    record {
      fits = record {
        named = read.named;
        stands = record { name = k.1; denotes = found ∙ ap (λ s. Bound s k.1) topmost; labelled = subst (λ s. Contains labels (Bound s k.1, Of pair.1)) topmost k.3 };
      };
      read = read;
    }

-- what a list of specifiers says
specifiers-read : (tree : List Item) (reading : Reading) (labels : Labelling) {inner : List Denoted}
    (meta : ExportMetadata) (b : ℕ) (g : ℕ) (specifiers : List Specifier) (pairs : List NamedTarget)
    (post : List Item) (j n f : ℕ) →
    IsAt tree j
    (record { place = n; path = around_place (h.NamedExport meta) b f ∷ around_place h.Module 0 g ∷ [] })
    (flat_map specifier_items specifiers ++ h.Close ∷ post) →
    Means (bundle_sense tree reading labels) inner
    (taken_from j (flat_map specifier_items specifiers ++ h.Close ∷ []))
    (flat_map export_specifier pairs ++ Ends ∷ []) →
    AllZip (Fits reading (declared reading Es tree) labels) specifiers pairs
specifiers-read tree reading labels meta b g [] [] post j n f at means = tt
specifiers-read tree reading labels meta b g [] (pair ∷ pairs) post j n f at means =
    let e = (meant-next (un-close tree reading labels j (around_place (h.NamedExport meta) b f) (around_place h.Module 0 g ∷ []) (at-path at) refl means)).0 in absurd cc
specifiers-read tree reading labels meta b g (it ∷ specifiers) [] post j n f at means =
    let e = (meant-next (un-open tree reading labels j 0 h.ExportNamedSpecifier (around_place (h.NamedExport meta) b 0) (around_place h.Module 0 g ∷ []) (at-path (at-list (append_assoc (specifier_items it) (flat_map specifier_items specifiers) (h.Close ∷ post)) at)) refl refl means)).0 in absurd cc
specifiers-read tree reading labels {inner} meta b g (it ∷ specifiers) (pair ∷ pairs) post j n f at means =
    let one = specifier-read tree reading labels meta b g it.sym it.ctxt it.name pair (flat_map specifier_items specifiers ++ h.Close ∷ post) (flat_map specifier_items specifiers ++ h.Close ∷ []) (flat_map export_specifier pairs) (Ends ∷ []) j n f
    (at-list (append_assoc (specifier_items it) (flat_map specifier_items specifiers) (h.Close ∷ post)) at)
    (subst (λ l. Means (bundle_sense tree reading labels) inner (taken_from j l) (flat_map export_specifier (pair ∷ pairs) ++ Ends ∷ [])) (append_assoc (specifier_items it) (flat_map specifier_items specifiers) (h.Close ∷ [])) means) in
    (one.fits, specifiers-read tree reading labels meta b g specifiers pairs post one.read.j one.read.n 0 one.read.at one.read.means)

-- the list of exports
pub exports-read : (tree : List Item) (reading : Reading) (labels : Labelling)
    {inner : List Denoted} (meta : ExportMetadata) (g : ℕ) (specifiers : List Specifier)
    (pairs : List NamedTarget) (post : List Item) (j n : ℕ) →
    IsAt tree j (record { place = n; path = around_place h.Module 0 g ∷ [] })
    (export_items meta specifiers ++ post) →
    Means (bundle_sense tree reading labels) inner (taken_from j (export_items meta specifiers))
    (export_list pairs) →
    AllZip (Fits reading (declared reading Es tree) labels) specifiers pairs
exports-read tree reading labels meta g specifiers pairs post j n at means =
    let first = meant-next (un-open tree reading labels j 0 (h.NamedExport meta) (around_place h.Module 0 0) [] (at-path at) refl refl means) in
    specifiers-read tree reading labels meta n 0 specifiers pairs post (suc j) (n + 1) 0 (at-list (append_assoc (flat_map specifier_items specifiers) (h.Close ∷ []) post) (at-next at)) first.1

-- The object, written.

-- a pair that is returned is that of a name and its target
pub record Returns (reading : Reading) (all : List Declared) (labels : Labelling) (it : Text × Ident) (pair : NamedTarget) : Type 0 where
  pub named : it.0 ≡ pair.0
  pub stands : StandsFor reading all labels it.1.0 it.1.1 pair.1

passing : {A : Type 0} (q : A → Bool) (xs : List A) → Every (λ x. q x ≡ true) (filter q xs)
passing q [] = none
passing q (x ∷ xs) = by (q x) refl (passing q xs)
  where
    by : (t : Bool) → q x ≡ t → Every (λ x. q x ≡ true) (filter q xs) →
        Every (λ x. q x ≡ true) (cond t (x ∷ filter q xs) (filter q xs))
    by true e rest = more e rest
    by false e rest = rest

-- no binding inside is one of the body
abbrev IsInsideOf : ℕ → Denoted → Type 0
IsInsideOf start d = is_inside start d ≡ true

body-outside : (start : ℕ) → 6 < start → (name : Known_as) (d : Denoted) → IsInsideOf start d →
    same_denoted (Bound (Inner FunctionBody 6) name) d ≡ false
body-outside start l name (Global x) inside = refl
body-outside start l name (Bound Rattle.bundle_rules.specs.Scopes.Wrapper its) inside = refl
body-outside start l name (Bound Top its) inside = refl
body-outside start l name (Bound (Inner kind begins) its) inside =
    let within : start ≤ begins = leb-true start begins inside in
    ap (λ t. t && bytes_eq name.sym its.sym && same_context name.ctxt its.ctxt) (differs 8 (begins + 2) (λ e. omega (arith, within)))

insides : (view : View) (start : ℕ) (es : List Element) →
    Every (IsInsideOf start) (inner_bindings view start es)
insides view start es = every-once (filtered (filter_map (denoted view) es))
  where
    filtered : (ds : List Denoted) → Every (IsInsideOf start) (filter (is_inside start) ds)
    filtered ds = passing (is_inside start) ds

-- the object's spots
abbrev object_path : Bool → ℕ → ℕ → ℕ → ℕ → ℕ → List Around
object_path is_async b f c e g =
    around_place h.ObjectLit b f ∷ around_place h.ReturnStmt c e ∷ called_path is_async g

-- a name of the object
returned-denotes : {reading : Reading} {is_async : Bool} {stmts after its : List Item} →
    AreTwins reading is_async stmts after its →
    {labels : Labelling} {x : Text} {ctxt : ℕ} {t : Target} →
    (s : StandsFor reading (declared reading Es (module_with stmts after)) labels x ctxt t) →
    denoted_in reading (declared reading Es (call_with is_async stmts its))
    (moved_scopes (Top ∷ [])) (name_of reading x ctxt) ≡
    Bound (Inner FunctionBody 6) s.name
returned-denotes {reading} {is_async} {stmts} {after} {its} twins {x} {ctxt} s =
    ap (λ all. denoted_in reading all (moved_scopes (Top ∷ [])) (name_of reading x ctxt)) (declared-twins twins)
    ∙ denoted_in-moved reading (seats-twins twins) top (name_of reading x ctxt) (λ strays. let e = sym s.denotes ∙ strays in absurd cc)
    ∙ ap called_denoted s.denotes

-- a key
key-mean : (tree : List Item) (reading : Reading) (labels : Labelling) {inner : List Denoted}
    (k f : ℕ) (outer : List Around) (x : Text) (t u : Bool) (behind_it es : List Item)
    (marks : List Mark) (j n : ℕ) →
    IsAt tree j (record { place = n; path = around_place h.KeyValueProp k f ∷ outer })
    ((if t then h.Open 0 h.ComputedPropName ∷ h.Open 0 (h.Str x None) ∷ h.Close ∷ h.Close ∷ [] else (if u then plain_key x else h.Open 0 (h.Str x None) ∷ h.Close ∷ [])) ++ behind_it)
    →
    ((its at_it : ℕ) → IsAt tree its (record { place = at_it; path = around_place h.KeyValueProp k 0 ∷ outer }) behind_it → Means (bundle_sense tree reading labels) inner (taken_from its es) marks)
    →
    Means (bundle_sense tree reading labels) inner
    (taken_from j ((if t then h.Open 0 h.ComputedPropName ∷ h.Open 0 (h.Str x None) ∷ h.Close ∷ h.Close ∷ [] else (if u then plain_key x else h.Open 0 (h.Str x None) ∷ h.Close ∷ [])) ++ es))
    ((if t then computed_key x else (if u then word_key x else string_marks 0 x)) ++ marks)
key-mean tree reading labels k f outer x true u behind_it es marks j n at rest =
    mean-open tree reading labels j 0 h.ComputedPropName (around_place h.KeyValueProp k 0) outer (at-path at) refl refl
    (mean-open tree reading labels (suc j) 0 (h.Str x None) (around_place h.ComputedPropName n 0) (around_place h.KeyValueProp k 0 ∷ outer) (at-path (at-next at)) refl refl
    (mean-close tree reading labels (suc (suc j)) (around_place (h.Str x None) (n + 1) 0) (around_place h.ComputedPropName n 0 ∷ around_place h.KeyValueProp k 0 ∷ outer) (at-path (at-next (at-next at))) refl
    (mean-close tree reading labels (suc (suc (suc j))) (around_place h.ComputedPropName n 0) (around_place h.KeyValueProp k 0 ∷ outer) (at-path (at-next (at-next (at-next at)))) refl
    (rest (suc (suc (suc (suc j)))) (n + 1 + 1 + 1 + 1) (at-next (at-next (at-next (at-next at))))))))
key-mean tree reading labels k f outer x false true behind_it es marks j n at rest =
    mean-open tree reading labels j 0 (h.IdentName x) (around_place h.KeyValueProp k 0) outer (at-path at) refl refl
    (mean-close tree reading labels (suc j) (around_place (h.IdentName x) n 0) (around_place h.KeyValueProp k 0 ∷ outer) (at-path (at-next at)) refl
    (rest (suc (suc j)) (n + 1 + 1) (at-next (at-next at))))
key-mean tree reading labels k f outer x false false behind_it es marks j n at rest =
    mean-open tree reading labels j 0 (h.Str x None) (around_place h.KeyValueProp k 0) outer (at-path at) refl refl
    (mean-close tree reading labels (suc j) (around_place (h.Str x None) n 0) (around_place h.KeyValueProp k 0 ∷ outer) (at-path (at-next at)) refl
    (rest (suc (suc j)) (n + 1 + 1) (at-next (at-next at))))

name-means : (tree : List Item) (reading : Reading) (labels : Labelling) {inner : List Denoted}
    (start : ℕ) →
    6 < start → Every (IsInsideOf start) inner → (name : Known_as) (l : Label) →
    Contains labels (Bound Top name, l) →
    NameMeans (bundle_sense tree reading (moved_labels labels)) inner
    (Bound (Inner FunctionBody 6) name) (Meaning.Known l)
name-means tree reading labels start past_body inside name l there =
    Meaning.outside
    (position-none (same_denoted (Bound (Inner FunctionBody 6) name)) (every-map (body-outside start past_body name) inside))
    (labels-moved labels Top name l tt there)

property-mean : {reading : Reading} {is_async : Bool} {stmts after its : List Item} →
    AreTwins reading is_async stmts after its →
    (labels : Labelling) {inner : List Denoted} (start : ℕ) → 6 < start →
    Every (IsInsideOf start) inner → (b c g f : ℕ) (x y : Text) (ctxt : ℕ) (t : Target) →
    StandsFor reading (declared reading Es (module_with stmts after)) labels y ctxt t →
    (behind_it es : List Item) (marks : List Mark) (j n : ℕ) →
    IsAt (call_with is_async stmts its) j
    (record { place = n; path = object_path is_async b f c 0 g })
    (h.Open 0 h.KeyValueProp ∷ (returned_key x ++ h.Ident 1 y ctxt TheVariants.Reference ∷ h.Close ∷ behind_it))
    →
    ((new at_new : ℕ) → IsAt (call_with is_async stmts its) new (record { place = at_new; path = object_path is_async b 0 c 0 g }) behind_it → Means (bundle_sense (call_with is_async stmts its) reading (moved_labels labels)) inner (taken_from new es) marks)
    →
    Means (bundle_sense (call_with is_async stmts its) reading (moved_labels labels)) inner
    (taken j (h.Open 0 h.KeyValueProp) ∷ taken_from (suc j) (returned_key x ++ h.Ident 1 y ctxt TheVariants.Reference ∷ h.Close ∷ es))
    (Begins 0 h.KeyValueProp ∷ (key_marks x ++ Name 1 (Meaning.Known (Of t)) ∷ Ends ∷ marks))
property-mean {reading} {is_async} {stmts} {after} {its} twins labels {inner} start past_body inside b c g f x y ctxt t stands behind_it es marks j n at rest =
    mean-open call reading (moved_labels labels) j 0 h.KeyValueProp (around_place h.ObjectLit b 0) (around_place h.ReturnStmt c 0 ∷ called_path is_async g) (at-path at) refl refl
    (key-mean call reading (moved_labels labels) n 0 (object_path is_async b 0 c 0 g) x (bytes_eq x (codes "__proto__")) (is_ascii_identifier x) (h.Ident 1 y ctxt TheVariants.Reference ∷ h.Close ∷ behind_it) (h.Ident 1 y ctxt TheVariants.Reference ∷ h.Close ∷ es) (Name 1 (Meaning.Known (Of t)) ∷ Ends ∷ marks) (suc j) (n + 1) (at-next at) value)
  where
    call : List Item
    call = call_with is_async stmts its

    value : (k at_it : ℕ) →
        IsAt (call_with is_async stmts its) k
        (record { place = at_it; path = around_place h.KeyValueProp n 0 ∷ object_path is_async b 0 c 0 g })
        (h.Ident 1 y ctxt TheVariants.Reference ∷ h.Close ∷ behind_it) →
        Means (bundle_sense (call_with is_async stmts its) reading (moved_labels labels)) inner
        (taken k (h.Ident 1 y ctxt TheVariants.Reference) ∷ taken (suc k) h.Close ∷ taken_from (suc (suc k)) es)
        (Name 1 (Meaning.Known (Of t)) ∷ Ends ∷ marks)
    value k at_it there =
        mean-name (call_with is_async stmts its) reading (moved_labels labels) k 1 y ctxt TheVariants.Reference (around_place h.KeyValueProp n 1) (object_path is_async b 0 c 0 g) (at-path there) refl (Bound (Inner FunctionBody 6) stands.name) (Meaning.Known (Of t))
        (ap (option_map (denoted_of reading Es (declared reading Es (call_with is_async stmts its)))) (at-occurrence there) ∙ ap Some (returned-denotes twins stands))
        (name-means (call_with is_async stmts its) reading labels start past_body inside stands.name (Of t) stands.labelled)
        (mean-close (call_with is_async stmts its) reading (moved_labels labels) (suc k) (around_place h.KeyValueProp n 0) (object_path is_async b 0 c 0 g) (at-path (at-next there)) refl
        (rest (suc (suc k)) (at_it + 1 + 1) (at-next (at-next there))))

-- the properties
properties-mean : {reading : Reading} {is_async : Bool} {stmts after its : List Item} →
    AreTwins reading is_async stmts after its →
    (labels : Labelling) {inner : List Denoted} (start : ℕ) → 6 < start →
    Every (IsInsideOf start) inner →
    (b c g f : ℕ) (rs : List (Text × Ident)) (pairs : List NamedTarget) →
    AllZip (Returns reading (declared reading Es (module_with stmts after)) labels) rs pairs →
    (post : List Item) (j n : ℕ) →
    IsAt (call_with is_async stmts its) j
    (record { place = n; path = object_path is_async b f c 0 g })
    (flat_map returned_property rs ++ h.Close ∷ h.Close ∷ post) →
    Means (bundle_sense (call_with is_async stmts its) reading (moved_labels labels)) inner
    (taken_from j (flat_map returned_property rs ++ h.Close ∷ h.Close ∷ []))
    (flat_map property pairs ++ Ends ∷ Ends ∷ [])
properties-mean {reading} {is_async} {stmts} {after} {its} twins labels start past_body inside b c g f [] [] zip post j n at =
    mean-close (call_with is_async stmts its) reading (moved_labels labels) j (around_place h.ObjectLit b f) (around_place h.ReturnStmt c 0 ∷ called_path is_async g) (at-path at) refl
    (mean-close (call_with is_async stmts its) reading (moved_labels labels) (suc j) (around_place h.ReturnStmt c 0) (called_path is_async g) (at-path (at-next at)) refl Meaning.finished)
properties-mean twins labels start past_body inside b c g f [] (pair ∷ pairs) zip post j n at =
    absurd zip
properties-mean twins labels start past_body inside b c g f (it ∷ rs) [] zip post j n at =
    absurd zip
properties-mean {reading} {is_async} {stmts} {after} {its} twins labels {inner} start past_body inside b c g f (it ∷ rs) (pair ∷ pairs) zip post j n at =
    subst (λ x. x) (λ i. Means (bundle_sense (call_with is_async stmts its) reading (moved_labels labels)) inner (taken j (h.Open 0 h.KeyValueProp) ∷ taken_from (suc j) (sym (elements (h.Close ∷ h.Close ∷ [])) i)) (Begins 0 h.KeyValueProp ∷ marks i))
    (property-mean twins labels start past_body inside b c g f it.0 it.1.0 it.1.1 pair.1 zip.0.stands (flat_map returned_property rs ++ h.Close ∷ h.Close ∷ post) (flat_map returned_property rs ++ h.Close ∷ h.Close ∷ []) (flat_map property pairs ++ Ends ∷ Ends ∷ []) j n
    (at-list (ap (λ l. h.Open 0 h.KeyValueProp ∷ l) (elements (h.Close ∷ h.Close ∷ post))) at)
    (λ new at_new there. properties-mean twins labels start past_body inside b c g 0 rs pairs zip.1 post new at_new there))
  where
    elements : (tail : List Item) →
        ((returned_key it.0 ++ h.Ident 1 it.1.0 it.1.1 TheVariants.Reference ∷ h.Close ∷ []) ++ flat_map returned_property rs)
        ++ tail ≡
        returned_key it.0 ++ h.Ident 1 it.1.0 it.1.1 TheVariants.Reference ∷ h.Close ∷
        (flat_map returned_property rs ++ tail)
    elements tail =
        append_assoc (returned_key it.0 ++ h.Ident 1 it.1.0 it.1.1 TheVariants.Reference ∷ h.Close ∷ [])
        (flat_map returned_property rs) tail
        ∙ append_assoc (returned_key it.0) (h.Ident 1 it.1.0 it.1.1 TheVariants.Reference ∷ h.Close ∷ [])
        (flat_map returned_property rs ++ tail)

    marks : ◌≡◌ {A = List Mark}
        (key_marks it.0 ++ Name 1 (Meaning.Known (Of pair.1)) ∷ Ends ∷ (flat_map property pairs ++ Ends ∷ Ends ∷ []))
        ((((key_marks pair.0 ++ Name 1 (Meaning.Known (Of pair.1)) ∷ []) ++ Ends ∷ []) ++ flat_map property pairs) ++ Ends ∷ Ends ∷ [])
    marks =
        ap (λ x. key_marks x ++ Name 1 (Meaning.Known (Of pair.1)) ∷ Ends ∷ (flat_map property pairs ++ Ends ∷ Ends ∷ [])) zip.0.named
        ∙ sym (append_assoc ((key_marks pair.0 ++ Name 1 (Meaning.Known (Of pair.1)) ∷ []) ++ Ends ∷ []) (flat_map property pairs) (Ends ∷ Ends ∷ []) ∙ append_assoc (key_marks pair.0 ++ Name 1 (Meaning.Known (Of pair.1)) ∷ []) (Ends ∷ []) (flat_map property pairs ++ Ends ∷ Ends ∷ []) ∙ append_assoc (key_marks pair.0) (Name 1 (Meaning.Known (Of pair.1)) ∷ []) (Ends ∷ (flat_map property pairs ++ Ends ∷ Ends ∷ [])))

-- the object that is returned
pub object-means : {reading : Reading} {is_async : Bool} {stmts after its : List Item} →
    AreTwins reading is_async stmts after its → (labels : Labelling) (start : ℕ) → 6 < start →
    (g : ℕ) (rs : List (Text × Ident)) (pairs : List NamedTarget) →
    AllZip (Returns reading (declared reading Es (module_with stmts after)) labels) rs pairs →
    (post : List Item) (n : ℕ) →
    IsAt (call_with is_async stmts its) start (record { place = n; path = called_path is_async g })
    (returned_object rs ++ post) →
    StatementMeans (bundle_sense (call_with is_async stmts its) reading (moved_labels labels)) start
    (taken_from start (returned_object rs)) (return_object pairs)
object-means {reading} {is_async} {stmts} {after} {its} twins labels start past_body g rs pairs zip post n at =
    subst (λ l. Means (bundle_sense (call_with is_async stmts its) reading (moved_labels labels)) inner (taken_from start (returned_object rs)) (Begins 0 h.ReturnStmt ∷ Begins 0 h.ObjectLit ∷ l)) (sym (append_assoc (flat_map property pairs) (Ends ∷ []) (Ends ∷ [])))
    (mean-open (call_with is_async stmts its) reading (moved_labels labels) start 0 h.ReturnStmt (around_place h.BlockStmt 6 0) (Rattle.bundle_rules.specs.Places.outer_path (called_path is_async 0)) (at-path at) refl refl
    (mean-open (call_with is_async stmts its) reading (moved_labels labels) (suc start) 0 h.ObjectLit (around_place h.ReturnStmt n 0) (called_path is_async 0) (at-path (at-next at)) refl refl
    (properties-mean twins labels start past_body (insides (record { tree = call_with is_async stmts its; kind = Es; reading = reading }) start (taken_from start (returned_object rs))) (n + 1) n 0 0 rs pairs zip post (suc (suc start)) (n + 1 + 1) (at-list (append_assoc (flat_map returned_property rs) (h.Close ∷ h.Close ∷ []) post) (at-next (at-next at))))))
  where
    inner : List Denoted
    inner =
        inner_bindings
        (record { tree = call_with is_async stmts its; kind = Es; reading = reading }) start
        (taken_from start (returned_object rs))

-- What a list of exports lists.

-- a specifier as a pair
abbrev pub pair_of : Specifier → Text × Ident
pair_of it = (exported it, (it.sym, it.ctxt))

specifier-alone : (y : Text) (ctxt : ℕ) (name : Option ExportedName) (rest : List Item) →
    side_by_side zero (specifier_items (record { sym = y; ctxt = ctxt; name = name }) ++ rest) ≡
    specifier_items (record { sym = y; ctxt = ctxt; name = name }) ∷ side_by_side zero rest
specifier-alone y ctxt None rest = refl
specifier-alone y ctxt (Some (word x its)) rest = refl
specifier-alone y ctxt (Some (text x raw)) rest = refl

specifier-pair : (y : Text) (ctxt : ℕ) (name : Option ExportedName) →
    exported_pair (specifier_items (record { sym = y; ctxt = ctxt; name = name })) ≡
    pair_of (record { sym = y; ctxt = ctxt; name = name })
specifier-pair y ctxt None = refl
specifier-pair y ctxt (Some (word x its)) = refl
specifier-pair y ctxt (Some (text x raw)) = refl

specifiers-sides : (specifiers : List Specifier) (post : List Item) →
    side_by_side zero (flat_map specifier_items specifiers ++ h.Close ∷ post) ≡
    map specifier_items specifiers
specifiers-sides [] post = refl
specifiers-sides (it ∷ specifiers) post =
    ap (side_by_side zero)
    (append_assoc (specifier_items it) (flat_map specifier_items specifiers) (h.Close ∷ post))
    ∙ specifier-alone it.sym it.ctxt it.name (flat_map specifier_items specifiers ++ h.Close ∷ post)
    ∙ ap (λ l. specifier_items it ∷ l) (specifiers-sides specifiers post)

listed-pairs : (specifiers : List Specifier) →
    map exported_pair (filter (begins_in 0) (map specifier_items specifiers)) ≡
    map pair_of specifiers
listed-pairs [] = refl
listed-pairs (it ∷ specifiers) =
    ap₂ (λ (pair : Text × Ident) (l : List (Text × Ident)). pair ∷ l)
    (specifier-pair it.sym it.ctxt it.name) (listed-pairs specifiers)

less-greater : (x y : Text) → slice_cmp nat_cmp x y ≡ Less → is_less (slice_cmp nat_cmp y x) ≡ false
less-greater x y e =
    ap is_less (nat_list_cmp_total.antisymm y x ∙ ap Rattle.std.specs.Ordering.ordering_reverse e)

ascending-kept : (pairs : List (Text × Ident)) → IsAscending (map (λ pair. pair.0) pairs) →
    by_names pairs ≡ pairs
ascending-kept [] e = refl
ascending-kept (x ∷ []) e = refl
ascending-kept (x ∷ y ∷ rest) e =
    ap (put_by_name x) (ascending-kept (y ∷ rest) e.1)
    ∙ ap (λ t. if t then y ∷ put_by_name x rest else x ∷ y ∷ rest) (less-greater x.0 y.0 e.0)

names-fit : (reading : Reading) (all : List Declared) (labels : Labelling)
    (specifiers : List Specifier) (pairs : List NamedTarget) →
    AllZip (Fits reading all labels) specifiers pairs →
    map (λ (pair : NamedTarget). pair.0) pairs ≡
    map (λ (pair : Text × Ident). pair.0) (map pair_of specifiers)
names-fit reading all labels [] [] zip = refl
names-fit reading all labels [] (pair ∷ pairs) zip = absurd zip
names-fit reading all labels (it ∷ specifiers) [] zip = absurd zip
names-fit reading all labels (it ∷ specifiers) (pair ∷ pairs) zip =
    ap₂ (λ (x : Text) (l : List Text). x ∷ l) (sym zip.0.named)
    (names-fit reading all labels specifiers pairs zip.1)

-- the pairs of the list
pub pairs-of : (meta : ExportMetadata) (specifiers : List Specifier) →
    exported_pairs (export_items meta specifiers) ≡ by_names (map pair_of specifiers)
pairs-of meta specifiers =
    ap (λ l. by_names (map exported_pair (filter (begins_in 0) l))) (specifiers-sides specifiers [])
    ∙ ap by_names (listed-pairs specifiers)

-- the pairs of the list, where their names ascend
pub pairs-listed : (reading : Reading) (all : List Declared) (labels : Labelling)
    (meta : ExportMetadata) (specifiers : List Specifier) (pairs : List NamedTarget) →
    AllZip (Fits reading all labels) specifiers pairs →
    IsAscending (map (λ (pair : NamedTarget). pair.0) pairs) →
    exported_pairs (export_items meta specifiers) ≡ map pair_of specifiers
pairs-listed reading all labels meta specifiers pairs zip ascending =
    ap (λ l. by_names (map exported_pair (filter (begins_in 0) l))) (specifiers-sides specifiers []) ∙ ap by_names (listed-pairs specifiers)
    ∙ ascending-kept (map pair_of specifiers) (subst IsAscending (names-fit reading all labels specifiers pairs zip) ascending)

pub fits-returns : (reading : Reading) (all : List Declared) (labels : Labelling)
    (specifiers : List Specifier) (pairs : List NamedTarget) →
    AllZip (Fits reading all labels) specifiers pairs →
    AllZip (Returns reading all labels) (map pair_of specifiers) pairs
fits-returns reading all labels [] [] zip = tt
fits-returns reading all labels [] (pair ∷ pairs) zip = absurd zip
fits-returns reading all labels (it ∷ specifiers) [] zip = absurd zip
fits-returns reading all labels (it ∷ specifiers) (pair ∷ pairs) zip =
    (record { named = zip.0.named; stands = zip.0.stands }, fits-returns reading all labels specifiers pairs zip.1)

-- ---- realised

-- a program that is to be one call, and a module and a call with the same statements
pub record IsScene (p : Program) (reading : Reading) (is_async : Bool) (stmts after its : List Item) : Type 0 where
  pub twins : AreTwins reading is_async stmts after its
  pub form : form_of p.settings ≡ AsCall
  pub faultless : IsFaultlessProgram p
  pub filed : StatesNoExports p

pub is_call : (settings : Settings) → form_of settings ≡ AsCall → settings.iife ≡ true
is_call settings e = by settings.iife e
  where
    by : (t : Bool) → (if t then AsCall else AsModule) ≡ AsCall → t ≡ true
    by true is = refl
    by false is = absurd cc

-- no `arguments` of a reached ES module is free
no-arguments : {p : Program} {reading : Reading} {is_async : Bool} {stmts after its : List Item} →
    IsScene p reading is_async stmts after its → (n : ℕ) → IsReached p n → (IsCommonJs p n → ⊥) →
    has_free (tree_of p n) (codes "arguments") ≡ false
no-arguments {p} scene n reached es = by (has_free (tree_of p n) (codes "arguments")) refl
  where
    by : (t : Bool) → has_free (tree_of p n) (codes "arguments") ≡ t → t ≡ false
    by true e =
        absurd
        (scene.faultless n 8 0 (real []) _ reached (arguments_under_iife (is_call p.settings scene.form) es e))
    by false e = refl

-- what an own statement means has no free `arguments`
own-plain : {p : Program} {reading : Reading} {is_async : Bool} {stmts after its : List Item} →
    IsScene p reading is_async stmts after its → (n : ℕ) → IsReached p n →
    {statement : List Element} {marks : List Mark} → OwnMeaning p n statement marks →
    Every IsPlainMark marks
own-plain {p} scene n reached own = by own.kind own.has_kind (λ apart. marks-plain apart own.means)
  where
    by : {marks : List Mark} (kind : ModuleKind) → HasKind p n kind →
        (((place : ℕ) → denoted_at BySymbol kind (tree_of p n) place ≡ Some (Global (codes "arguments")) → ⊥) → Every IsPlainMark marks)
        →
        Every IsPlainMark marks
    by kind (is_es es) all =
        all (free-nowhere (tree_of p n) (codes "arguments") (no-arguments scene n reached es))
    by kind (is_common_js cjs) all = all (arguments-bound (tree_of p n))

-- the module and the call, labelled
abbrev pub old_bundle : Reading → List Item → List Item → Labelling → Labelled
old_bundle reading stmts after labels = record { tree = module_with stmts after; reading = reading; labels = labels }

abbrev pub new_bundle : Reading → Bool → List Item → List Item → Labelling → Labelled
new_bundle reading is_async stmts its labels = record { tree = call_with is_async stmts its; reading = reading; labels = moved_labels labels }

-- an item whose elements are statements
pub record IsInPlace (stmts : List Item) (item : TopItem) : Type 0 where
  pub positive : 0 < item.start
  pub elements : Every (IsPlaced stmts) (elements_of item)

item-moved : {p : Program} {reading : Reading} {is_async : Bool} {stmts after its : List Item} →
    IsScene p reading is_async stmts after its → (labels : Labelling) {item : TopItem} →
    IsInPlace stmts item → {marks : List Mark} → Every IsPlainMark marks →
    ItemMeans (old_bundle reading stmts after labels) item marks →
    ItemMeans (new_bundle reading is_async stmts its labels) (moved_item item) marks
item-moved {reading} {is_async} {stmts} {after} {its} scene labels {item} place {marks} plain means =
    subst (λ es. StatementMeans (bundle_sense (call_with is_async stmts its) reading (moved_labels labels)) (item.start + 6) es marks) (sym (taken-moved item.start item.items)) (statement-moved scene.twins labels item.start place.positive means place.elements plain)

same-moved : {p : Program} {reading : Reading} {is_async : Bool} {stmts after its : List Item} →
    IsScene p reading is_async stmts after its → (labels : Labelling) (n : ℕ) → IsReached p n →
    {item : TopItem} → IsInPlace stmts item → (statement : List Element) →
    SameMeaning p (old_bundle reading stmts after labels) n item statement →
    SameMeaning p (new_bundle reading is_async stmts its labels) n (moved_item item) statement
same-moved scene labels n reached place statement same =
    (same.0, same.1, item-moved scene labels place (own-plain scene n reached same.1) same.2)

pub zip-map : {A B : Type 0} (R S : A → B → Type 0) {Q : A → Type 0} (f : A → A) →
    ((x : A) (y : B) → Q x → R x y → S (f x) y) → {xs : List A} → Every Q xs → (ys : List B) →
    AllZip R xs ys → AllZip S (map f xs) ys
zip-map R S f on none [] zip = tt
zip-map R S f on none (y ∷ ys) zip = absurd zip
zip-map R S f on (more here later) [] zip = absurd zip
zip-map R S f on (more {x} here later) (y ∷ ys) zip =
    (on x y here zip.0, zip-map R S f on later ys zip.1)

load-moved : {p : Program} {reading : Reading} {is_async : Bool} {stmts after its : List Item} →
    IsScene p reading is_async stmts after its → (labels : Labelling) (c : ℕ) → IsReached p c →
    {item : TopItem} → IsInPlace stmts item →
    IsLoadFunction p (old_bundle reading stmts after labels) c item →
    IsLoadFunction p (new_bundle reading is_async stmts its labels) c (moved_item item)
load-moved {p} {reading} {is_async} {stmts} {after} {its} scene labels c reached {item} place load = record {
  front = map moved_element load.front;
  inside = load.inside;
  back = map moved_element load.back;
  is = taken-moved item.start item.items ∙ ap (map moved_element) load.is ∙ map-append moved_element load.front (taken_from at load.inside ++ load.back) ∙ ap (λ l. map moved_element load.front ++ l) (map-append moved_element (taken_from at load.inside) load.back ∙ ap (λ l. l ++ map moved_element load.back) (sym (taken-moved at load.inside) ∙ ap (λ k. taken_from k load.inside) new_at));
  front_means = means-moved scene.twins labels none load.front_means front_placed (plain-elements reading stmts after labels none load.front_means front_placed (Plain.front-plain c));
  front_length = length-map load.front moved_element ∙ load.front_length;
  back_means = means-moved scene.twins labels none load.back_means back_placed (plain-elements reading stmts after labels none load.back_means back_placed Plain.back-plain);
  back_length = length-map load.back moved_element ∙ load.back_length;
  whole = load.whole;
  statements = subst (λ items. AllZip (SameMeaning p (new_bundle reading is_async stmts its labels) c) items (own_statements (tree_of p c))) (sym (placed-moved at (side_by_side zero load.inside)) ∙ ap (λ k. placed k (side_by_side zero load.inside)) new_at) (zip-map (SameMeaning p (old_bundle reading stmts after labels) c) (SameMeaning p (new_bundle reading is_async stmts its labels) c) moved_item (λ it statement inside same. same-moved scene labels c reached inside statement same) items_placed (own_statements (tree_of p c)) load.statements);
}
  where
    at : ℕ
    at = item.start + length load.front

    new_at : item.start + length load.front + 6 ≡
        item.start + 6 + length (map moved_element load.front)
    new_at = omega (arith, length-map load.front moved_element)

    whole : Every (IsPlaced stmts)
        (load.front ++ (taken_from (item.start + length load.front) load.inside ++ load.back))
    whole = subst (Every (IsPlaced stmts)) load.is place.elements

    front_placed : Every (IsPlaced stmts) load.front
    front_placed =
        every-front load.front
        (taken_from (item.start + length load.front) load.inside ++ load.back) whole

    later : Every (IsPlaced stmts)
        (taken_from (item.start + length load.front) load.inside ++ load.back)
    later =
        every-rest load.front (taken_from (item.start + length load.front) load.inside ++ load.back)
        whole

    back_placed : Every (IsPlaced stmts) load.back
    back_placed =
        every-rest (taken_from (item.start + length load.front) load.inside) load.back later

    inside_placed : Every (IsPlaced stmts) (taken_from (item.start + length load.front) load.inside)
    inside_placed =
        every-front (taken_from (item.start + length load.front) load.inside) load.back later

    positive : 0 < item.start + length load.front
    positive = let l : 0 < item.start = place.positive in omega arith

    items_placed : Every (IsInPlace stmts)
        (placed (item.start + length load.front) (side_by_side zero load.inside))
    items_placed =
        let r = sides-front zero load.inside in
        every-both (λ it elements begins. record { positive = begins; elements = elements })
        (placed-items (item.start + length load.front) (side_by_side zero load.inside) r.0 (subst (λ l. Every (IsPlaced stmts) (taken_from (item.start + length load.front) l)) r.1 inside_placed))
        (placed-positive (item.start + length load.front) positive (side_by_side zero load.inside))

pub due-own : {p : Program} {form : Form} {n k : ℕ} → IsDue p form (Bundle.Own n k) → IsReached p n
due-own (Bundle.own reached es l) = reached

due-defines : {p : Program} {form : Form} {c : ℕ} → IsDue p form (Bundle.Defines c) → IsReached p c
due-defines (Bundle.defines reached cjs) = reached

-- an item that is no list of exports
pub realised-moved : {p : Program} {reading : Reading} {is_async : Bool}
    {stmts after its : List Item} →
    IsScene p reading is_async stmts after its →
    (hooks : Hooks) (labels : Labelling) {item : TopItem} {cause : Cause} → IsInPlace stmts item →
    IsNoList item.items → IsDue p AsModule cause →
    Realises p hooks AsModule (old_bundle reading stmts after labels) item cause →
    Realises p hooks AsCall (new_bundle reading is_async stmts its labels) (moved_item item) cause
realised-moved scene hooks labels place no_list due (Bundle.own {m = n} statement there same) =
    Bundle.own statement there (same-moved scene labels n (due-own due) place statement same)
realised-moved scene hooks labels place no_list due (Bundle.imports_names {s} names are means) =
    Bundle.imports_names names are
    (item-moved scene labels place (Plain.import_names-plain s names) means)
realised-moved scene hooks labels place no_list due (Bundle.imports_whole {s} means) =
    Bundle.imports_whole (item-moved scene labels place (Plain.import_whole-plain s) means)
realised-moved scene hooks labels place no_list due (Bundle.imports_nothing {s} means) =
    Bundle.imports_nothing (item-moved scene labels place (Plain.import_bare-plain s) means)
realised-moved scene hooks labels place no_list due (Bundle.helps means) =
    Bundle.helps (item-moved scene labels place Plain.helper-plain means)
realised-moved scene hooks labels place no_list due (Bundle.defines {c} load) =
    Bundle.defines (load-moved scene labels c (due-defines due) place load)
realised-moved scene hooks labels place no_list due (Bundle.loads {m = n} {c} whole names are wholly means) = Bundle.loads whole names are wholly (item-moved scene labels place (Plain.load-plain n c whole names) means)
realised-moved {p} scene hooks labels place no_list due (Bundle.holds_meta {m = n} properties marks held fair properties_mean means) = Bundle.holds_meta properties marks held fair properties_mean (item-moved scene labels place (Plain.meta-plain n (marks-plain (free-nowhere (properties_tree properties) (codes "arguments") (fair.no_arguments (is_call p.settings scene.form))) properties_mean)) means)
realised-moved scene hooks labels place no_list due (Bundle.holds_namespace {d} pairs are means) =
    Bundle.holds_namespace pairs are
    (item-moved scene labels place (Plain.namespace-plain d pairs) means)
realised-moved scene hooks labels place no_list due (Bundle.stars {s} means) =
    Bundle.stars (item-moved scene labels place (Plain.export_star-plain s) means)
realised-moved scene hooks labels {item} place no_list due (Bundle.exports pairs form are means) =
    absurd
    (false≢true (sym no_list ∙ sym (begins-item item.start item.items) ∙ list-meant means refl))
realised-moved scene hooks labels place no_list due (Bundle.returns pairs form are means) = absurd cc
