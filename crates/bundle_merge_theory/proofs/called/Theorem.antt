-- Theorem of this folder (`wrapping-keeps`): one function's call of a bundle is a bundle. What
-- follows the statements in it declares nothing.
-- Used by folder `finished` and by the crate `bundler_entry`.
use Rattle.std.proofs.Common.{◌≡◌, ℕ, Bool, true, false, cond, List, [], ◌∷◌, ◌++◌, Option, Some, None, bytes_eq, refl, ap, ap₂, codes, ◌⊎◌, inl, inr, zero, suc, ◌+◌, ◌<◌, append_assoc, append-nil, length, map, filter, drop, sym, ◌∙◌, subst, arith}
use Rattle.std.specs.Prelude.{if◌then◌else◌, slice_get, fold, Contains}
use Rattle.std.specs.List.{cons_option, AllZip}
use Rattle.std.proofs.lemmas.Bool.{false≢true}
use Rattle.std.proofs.lemmas.Bool.Decides.{Decides-ltb}
use Rattle.std.proofs.lemmas.Option.{none-some, same_Some}
use Rattle.std.proofs.lemmas.List.Elements.{Contains-append_left, Contains-append_right, Contains-append_cases}
use Rattle.bundle_syntax.specs.declared.kind.ExportMetadata.{ExportMetadata}
use Rattle.bundle_syntax.specs.Item as h
use Rattle.bundle_syntax.specs.Item.{Item, Head}
use Rattle.bundle_syntax.specs.declared.piece.Role.TheVariants
use Rattle.bundle_rules.specs.Places.{Spot, past}
use Rattle.bundle_rules.specs.Scopes.{Es, Scope, Wrapper, Top, Inner, FunctionBody}
use Rattle.bundle_rules.specs.Declarations.{Reading, Declared, declared_at, declared_from, nameless_default, is_nameless_default, declared}
use Rattle.bundle_rules.specs.Nodes.{Text, side_by_side, flat, parts}
use Rattle.bundle_rules.specs.Idents.{Ident}
use Rattle.bundle_rules.specs.Injected.{is_ascii_identifier, NamedTarget, export_list, load_statement, load_front}
use Rattle.bundle_rules.specs.Rebuilds.{plain_key}
use Rattle.bundle_rules.specs.Forms.{returned_key, returned_property, returned_object, exported_pairs, function_body, wrapped}
use Rattle.bundle_rules.specs.Bundle as b
use Rattle.bundle_rules.specs.Bundle.{function_back, AsModule, AsCall, form_of, Cause, Exports, IsDue, Hooks, Labelled, ItemMeans, elements_of, AreLinked, Realises, Stars, Chosen, externals, function_front, HasBody, of_module, of_function, Pairing, IsPaired, IsLaidOut, IsBundle}
use Rattle.bundle_rules.specs.Callable.{Every, none, more, ExportedName, word, text, Specifier, name_items, specifier_items, export_items, IsBack, nothing, exports, IsTaken, AreStatements, module_with, CanBeCalled, begins_list, StatesNoExports}
use Rattle.bundle_rules.specs.Denotes.{Denoted, Bound, Global}
use Rattle.bundle_rules.specs.Statements.{TopItem, top_items, placed, taken_from}
use Rattle.bundle_rules.specs.Awaits.{awaits_outside}
use Rattle.bundle_rules.specs.Program.{Program}
use Rattle.bundle_rules.specs.Meaning.{Label, Labelling, IsOneToOne}
use Rattle.bundle_rules.specs.Faults.{IsFaultlessProgram}
use Rattle.bundle_scope_names.proofs.Told.{zip-length}
use Rattle.bundle_link_index.proofs.ProgramLemmas.{map_back as contains-mapped, filter_back as contains-filtered}
use Rattle.bundle_link_targets.proofs.ListLemmas.{first-there}
use Rattle.bundle_link.proofs.NodePaths.{drop-past}
use Rattle.bundle_merge_theory.proofs.noted.ListFacts.{later-there}
use Rattle.bundle_merge_theory.proofs.grouped.EditLemmas.{zip-append}
use Rattle.bundle_merge_theory.proofs.called.Plain.{every-join, every-each}
use Rattle.bundle_merge_theory.specs.called.Moved.{called_denoted}
use Rattle.bundle_merge_theory.specs.called.Called.{around_place, called_path, IsPathMoved, outside, call_with, statements_start, call_start, AreTwins}
use Rattle.bundle_merge_theory.proofs.called.Lists.{behind, start-moved}
use Rattle.bundle_merge_theory.proofs.called.Means.{IsPlaced, is_fair, moved_label, moved_labels, every-map, every-both}
use Rattle.bundle_merge_theory.proofs.called.Sides.{sides-flat, sides-append, no-lists, IsNoList, placed-elements, placed-append, placed-moved, moved_item, IsSegment, body-whole, list-alone, body-plain, body-exports, body-sides}
use Rattle.bundle_merge_theory.proofs.called.Spots.{first_is_list, list-meant, list-means, begins-item, nothing-meant, front-begins, IsAt, module-behind, call-behind}
use Rattle.bundle_merge_theory.proofs.called.Exported.{IsScene, old_bundle, new_bundle, IsInPlace, zip-map, realised-moved, due-own, Fits, Returns, pair_of, exports-read, object-means, pairs-listed, fits-returns}
use Rattle.bundle_merge_theory.proofs.called.LaidOut.{IsOther, due-on, due-back, behind-due, behind-new, AreLike, blocks-moved, front-moved, get-every}

-- ---- bindless

-- an element that declares nothing
abbrev pub IsBindless : Item → Type 0
IsBindless (h.Open field h.ExportDefaultExpr) = ⊥
IsBindless (h.Open field h.ExportDefaultDecl) = ⊥
IsBindless (h.Ident field x ctxt TheVariants.Binding) = ⊥
IsBindless _ = Unit {0}

head-nameless : (field : ℕ) (head : Head) → IsBindless (h.Open field head) → (rest : List Item) →
    is_nameless_default (h.Open field head) rest ≡ false
head-nameless field h.ExportDefaultExpr is rest = absurd is
head-nameless field h.ExportDefaultDecl is rest = absurd is
head-nameless field _ is rest = refl

bindless-declares : (reading : Reading) (s : Spot) (x : Item) → IsBindless x → (rest : List Item) →
    declared_at reading Es s x rest ≡ None
bindless-declares reading s (h.Open field head) is rest =
    ap (λ t. cond t (Some (nameless_default Es s.place)) None) (head-nameless field head is rest)
bindless-declares reading s (h.Ident field x ctxt TheVariants.Binding) is rest = absurd is
bindless-declares reading s (h.Ident field x ctxt TheVariants.Reference) is rest = refl
bindless-declares reading s (h.Ident field x ctxt TheVariants.Word) is rest = refl
bindless-declares reading s (h.Hole field) is rest = refl
bindless-declares reading s h.Close is rest = refl

pub nothing-declared : (reading : Reading) (s : Spot) {xs : List Item} → Every IsBindless xs →
    declared_from reading Es s xs ≡ []
nothing-declared reading s none = refl
nothing-declared reading s (more {x} {xs} here later) =
    ap₂ (λ (o : Option Declared) (l : List Declared). cons_option o l)
    (bindless-declares reading s x here xs) (nothing-declared reading (past s x) later)

closes : Every IsBindless function_back
closes = more tt (more tt (more tt (more tt (more tt (more tt (more tt none))))))

key-bindless : (x : Text) → Every IsBindless (returned_key x)
key-bindless x = by (bytes_eq x (codes "__proto__")) (is_ascii_identifier x)
  where
    by : (t u : Bool) →
        Every IsBindless
        (if t then h.Open 0 h.ComputedPropName ∷ h.Open 0 (h.Str x None) ∷ h.Close ∷ h.Close ∷ [] else (if u then plain_key x else h.Open 0 (h.Str x None) ∷ h.Close ∷ []))
    by true u = more tt (more tt (more tt (more tt none)))
    by false true = more tt (more tt none)
    by false false = more tt (more tt none)

pub object-bindless : (pairs : List (Text × Ident)) →
    Every IsBindless (returned_object pairs ++ function_back)
object-bindless pairs =
    more tt
    (more tt (every-join (every-join (every-each returned_property (λ pair. more tt (every-join (key-bindless pair.0) (more tt (more tt none)))) pairs) (more tt (more tt none))) closes))

name-bindless : (name : Option ExportedName) → Every IsBindless (name_items name)
name-bindless None = none
name-bindless (Some (word x ctxt)) = more tt none
name-bindless (Some (text x raw)) = more tt (more tt none)

list-bindless : (meta : ExportMetadata) (specifiers : List Specifier) →
    Every IsBindless (export_items meta specifiers)
list-bindless meta specifiers =
    more tt
    (every-join (every-each specifier_items (λ it. more tt (more tt (every-join (name-bindless it.name) (more tt none)))) specifiers) (more tt none))

pub back-bindless : {back : List Item} → IsBack back → Every IsBindless (back ++ h.Close ∷ [])
back-bindless nothing = more tt none
back-bindless (exports meta specifiers) = every-join (list-bindless meta specifiers) (more tt none)

-- ---- whole

-- Labels.

moved-injective : (d other : Denoted) → is_fair d ≡ true → is_fair other ≡ true →
    called_denoted d ≡ called_denoted other → d ≡ other
moved-injective (Global x) other fair its e = absurd (false≢true fair)
moved-injective (Bound s name) (Global x) fair its e = absurd (false≢true its)
moved-injective (Bound Wrapper name) (Bound t other) fair its e = absurd (false≢true fair)
moved-injective (Bound Top name) (Bound Wrapper other) fair its e = absurd (false≢true its)
moved-injective (Bound (Inner kind begins) name) (Bound Wrapper other) fair its e =
    absurd (false≢true its)
moved-injective (Bound Top name) (Bound Top other) fair its e = cc
moved-injective (Bound Top name) (Bound (Inner k at) other) fair its e =
    let l : 0 < at = (Decides-ltb 0 at).0 its in
    let n : 6 ≡ at + 6 = cc in
    absurd (omega (arith, n, l))
moved-injective (Bound (Inner kind begins) name) (Bound Top other) fair its e =
    let l : 0 < begins = (Decides-ltb 0 begins).0 fair in
    let n : begins + 6 ≡ 6 = cc in
    absurd (omega (arith, n, l))
moved-injective (Bound (Inner kind begins) name) (Bound (Inner k at) other) fair its e =
    let n : begins + 6 ≡ at + 6 = cc in
    let m : begins ≡ at = omega (arith, n) in
    let same_kind : kind ≡ k = cc in
    let same_name : name ≡ other = cc in
    cc

-- the label of a binding of the function is one of the module
record Origin (labels : Labelling) (d : Denoted) (l : Label) : Type 0 where
  old : Denoted
  there : Contains labels (old, l)
  fair : is_fair old ≡ true
  is : called_denoted old ≡ d

origin : (labels : Labelling) (d : Denoted) (l : Label) → Contains (moved_labels labels) (d, l) →
    Origin labels d l
origin labels d l there =
    let mapped = contains-mapped moved_label (filter (λ (pair : Denoted × Label). is_fair pair.0) labels) (d, l) there in
    let filtered = contains-filtered (λ (pair : Denoted × Label). is_fair pair.0) labels mapped.0 mapped.1 in
    let same : mapped.0.1 ≡ l = ap (λ (pair : Denoted × Label). pair.1) mapped.2 in
    record {
      old = mapped.0.0;
      there = subst (λ k. Contains labels (mapped.0.0, k)) same filtered.0;
      fair = filtered.1;
      is = ap (λ (pair : Denoted × Label). pair.0) mapped.2;
    }

labels-one : (labels : Labelling) → IsOneToOne labels → IsOneToOne (moved_labels labels)
labels-one labels one = record {
  one_label = λ d l other first second.
      let a = origin labels d l first in
      let c = origin labels d other second in
      let same : a.old ≡ c.old = moved-injective a.old c.old a.fair c.fair (a.is ∙ sym c.is) in
      one.one_label a.old l other a.there (subst (λ k. Contains labels (k, other)) (sym same) c.there);
  one_binding = λ d other l first second.
      let a = origin labels d l first in
      let c = origin labels other l second in
      sym a.is ∙ ap called_denoted (one.one_binding a.old c.old l a.there c.there) ∙ c.is;
}

-- Items in their places.

placed-segments : (stmts : List Item) (j : ℕ) (lists : List (List Item)) (rest : List Item) →
    drop j stmts ≡ flat lists ++ rest → Every (IsSegment stmts) (placed (suc j) lists)
placed-segments stmts j [] rest e = none
placed-segments stmts j (xs ∷ lists) rest e =
    let n : suc (j + length xs) ≡ suc j + length xs = omega arith in
    let whole : drop j stmts ≡ xs ++ (flat lists ++ rest) = e ∙ append_assoc xs (flat lists) rest in
    more (record { at = j; start = refl; rest = flat lists ++ rest; is = whole })
    (subst (λ k. Every (IsSegment stmts) (placed k lists)) n (placed-segments stmts (j + length xs) lists rest (drop-past stmts j xs (flat lists ++ rest) whole)))

segment-place : {stmts : List Item} (item : TopItem) → IsSegment stmts item → IsInPlace stmts item
segment-place {stmts} item s = record {
  positive = let e : item.start ≡ suc s.at = s.start in omega arith;
  elements = subst (λ k. Every (IsPlaced stmts) (taken_from k item.items)) (sym s.start) (placed-elements stmts s.at item.items s.rest s.is);
}

placed-lists : (start : ℕ) (lists : List (List Item)) → Every IsNoList lists →
    Every (λ (item : TopItem). IsNoList item.items) (placed start lists)
placed-lists start [] none = none
placed-lists start (xs ∷ lists) (more here later) =
    more here (placed-lists (start + length xs) lists later)

-- an item of the statements
record IsStatement (stmts : List Item) (item : TopItem) : Type 0 where
  segment : IsSegment stmts item
  no_list : IsNoList item.items

statement-items : {stmts : List Item} → AreStatements zero stmts →
    Every (IsStatement stmts) (placed 1 (side_by_side zero stmts))
statement-items {stmts} statements =
    every-both (λ item segment no_list. record { segment = segment; no_list = no_list })
    (placed-segments stmts 0 (side_by_side zero stmts) [] (sym (append-nil (flat (side_by_side zero stmts)) ∙ sides-flat statements)))
    (placed-lists 1 (side_by_side zero stmts) (no-lists statements))

-- Lists zipped.

-- the part of the second list that stands beside the first
pub record Split {A B : Type 0} (R : A → B → Type 0) (xs ys : List A) (all : List B) :
    Type 0 where
  pub first : List B
  pub second : List B
  pub is : all ≡ first ++ second
  pub zip : AllZip R xs first
  pub rest : AllZip R ys second

pub zip-split : {A B : Type 0} (R : A → B → Type 0) (xs ys : List A) (all : List B) →
    AllZip R (xs ++ ys) all → Split R xs ys all
zip-split R [] ys all zip = record { first = []; second = all; is = refl; zip = tt; rest = zip }
zip-split R (x ∷ xs) ys [] zip = absurd zip
zip-split R (x ∷ xs) ys (z ∷ all) zip =
    let r = zip-split R xs ys all zip.1 in
    record { first = z ∷ r.first; second = r.second; is = ap (λ l. z ∷ l) r.is; zip = (zip.0, r.zip); rest = r.rest }

contains-one : {A : Type 0} (y x : A) → Contains (y ∷ []) x → x ≡ y
contains-one y x (zero, l, e) = sym e
contains-one y x (suc i, l, e) = absurd (omega arith)

zip-with : {A B : Type 0} (R : A → B → Type 0) (P : B → Type 0) (xs : List A) (ys : List B) →
    ((y : B) → Contains ys y → P y) → AllZip R xs ys → AllZip (λ x y. R x y × P y) xs ys
zip-with R P [] [] each zip = tt
zip-with R P [] (y ∷ ys) each zip = absurd zip
zip-with R P (x ∷ xs) [] each zip = absurd zip
zip-with R P (x ∷ xs) (y ∷ ys) each zip =
    ((zip.0, each y (first-there y ys)), zip-with R P xs ys (λ z there. each z (later-there y ys z there)) zip.1)

-- what stands beside what
zip-every : {A B : Type 0} (R : A → B → Type 0) {Q : A → Type 0} (P : B → Type 0) →
    ((x : A) (y : B) → Q x → R x y → P y) → {xs : List A} → Every Q xs → (ys : List B) →
    AllZip R xs ys → Every P ys
zip-every R P on none [] zip = none
zip-every R P on none (y ∷ ys) zip = absurd zip
zip-every R P on (more here later) [] zip = absurd zip
zip-every R P on (more {x} here later) (y ∷ ys) zip =
    more (on x y here zip.0) (zip-every R P on later ys zip.1)

every-there : {A : Type 0} {P : A → Type 0} {xs : List A} → Every P xs → (x : A) → Contains xs x →
    P x
every-there none x (i, l, e) = absurd (omega arith)
every-there {P = P} (more {x = y} here later) x (zero, l, e) = subst P e here
every-there (more here later) x (suc i, l, e) = every-there later x (i, omega arith, e)

-- Causes.

cause-cases : (cause : Cause) → (cause ≡ Exports) ⊎ IsOther cause
cause-cases Exports = inl refl
cause-cases (b.Own m k) = inr (λ e. absurd cc)
cause-cases (b.ImportsNames s) = inr (λ e. absurd cc)
cause-cases (b.ImportsWhole s) = inr (λ e. absurd cc)
cause-cases (b.ImportsNothing s) = inr (λ e. absurd cc)
cause-cases b.Helps = inr (λ e. absurd cc)
cause-cases (b.Defines c) = inr (λ e. absurd cc)
cause-cases (b.Loads m c) = inr (λ e. absurd cc)
cause-cases (b.HoldsMeta m) = inr (λ e. absurd cc)
cause-cases (b.HoldsNamespace d) = inr (λ e. absurd cc)
cause-cases (b.Stars s) = inr (λ e. absurd cc)

-- an item that is no list of exports stands for something else
realised-other : {p : Program} {hooks : Hooks} {b0 : Labelled} {item : TopItem} {cause : Cause} →
    IsNoList item.items → Realises p hooks AsModule b0 item cause → IsOther cause
realised-other no_list (b.own statement there same) = λ e. absurd cc
realised-other no_list (b.imports_names names are means) = λ e. absurd cc
realised-other no_list (b.imports_whole means) = λ e. absurd cc
realised-other no_list (b.imports_nothing means) = λ e. absurd cc
realised-other no_list (b.helps means) = λ e. absurd cc
realised-other no_list (b.defines load) = λ e. absurd cc
realised-other no_list (b.loads whole names are wholly means) = λ e. absurd cc
realised-other no_list (b.holds_meta properties marks held fair properties_mean means) =
    λ e. absurd cc
realised-other no_list (b.holds_namespace pairs are means) = λ e. absurd cc
realised-other no_list (b.stars means) = λ e. absurd cc
realised-other {item} no_list (b.exports pairs form are means) =
    absurd
    (false≢true (sym no_list ∙ sym (begins-item item.start item.items) ∙ list-meant means refl))
realised-other no_list (b.returns pairs form are means) = absurd cc

-- what an item that is a list of exports stands for
record ListRead (p : Program) (bundle : Labelled) (item : TopItem) (cause : Cause) : Type 0 where
  is : cause ≡ Exports
  pairs : List NamedTarget
  linked : AreLinked p p.entry pairs
  means : ItemMeans bundle item (export_list pairs)

load-no-list : (taker c : ℕ) (whole : Bool) (names : List Text) →
    first_is_list (load_statement taker c whole names) ≡ false
load-no-list taker c false [] = refl
load-no-list taker c false (x ∷ names) = refl
load-no-list taker c true [] = refl
load-no-list taker c true (x ∷ names) = refl

list-read : {p : Program} {hooks : Hooks} (reading : Reading) (stmts after : List Item)
    (labels : Labelling) →
    StatesNoExports p → {item : TopItem} {cause : Cause} → IsDue p AsModule cause →
    begins_list (elements_of item) ≡ true →
    Realises p hooks AsModule (old_bundle reading stmts after labels) item cause →
    ListRead p (old_bundle reading stmts after labels) item cause
list-read reading stmts after labels filed due is (b.own {m = n} {k} statement there same) =
    absurd (false≢true (sym (get-every (filed n (due-own due)) k statement there) ∙ list-meant same.1.means (list-means (module_with stmts after) reading labels same.2 is)))
list-read reading stmts after labels filed due is (b.imports_names names are means) =
    absurd (false≢true (list-means (module_with stmts after) reading labels means is))
list-read reading stmts after labels filed due is (b.imports_whole means) =
    absurd (false≢true (list-means (module_with stmts after) reading labels means is))
list-read reading stmts after labels filed due is (b.imports_nothing means) =
    absurd (false≢true (list-means (module_with stmts after) reading labels means is))
list-read reading stmts after labels filed due is (b.helps means) =
    absurd (false≢true (list-means (module_with stmts after) reading labels means is))
list-read reading stmts after labels filed {item} due is (b.defines {c} load) =
    let first : begins_list load.front ≡ true = front-begins load.front (taken_from (item.start + length load.front) load.inside ++ load.back) (λ e. let none_there : load_front c ≡ [] = nothing-meant load.front_means e in absurd cc) (sym (ap begins_list load.is) ∙ is) in
    absurd (false≢true (list-means (module_with stmts after) reading labels load.front_means first))
list-read reading stmts after labels filed due is (b.loads {m = n} {c} whole names are wholly means) = absurd (false≢true (sym (load-no-list n c whole names) ∙ list-means (module_with stmts after) reading labels means is))
list-read reading stmts after labels filed due is (b.holds_meta properties marks held fair properties_mean means) = absurd (false≢true (list-means (module_with stmts after) reading labels means is))
list-read reading stmts after labels filed due is (b.holds_namespace pairs are means) =
    absurd (false≢true (list-means (module_with stmts after) reading labels means is))
list-read reading stmts after labels filed due is (b.stars means) =
    absurd (false≢true (list-means (module_with stmts after) reading labels means is))
list-read reading stmts after labels filed due is (b.exports pairs form are means) = record { is = refl; pairs = pairs; linked = are; means = means }
list-read reading stmts after labels filed due is (b.returns pairs form are means) = absurd cc

-- The pairing of the call.

-- the last item: the object that is returned
abbrev last_item : List Item → List (Text × Ident) → TopItem
last_item stmts rs = record { start = suc (length stmts) + 6; items = returned_object rs }

abbrev new_items : List Item → List (Text × Ident) → List TopItem
new_items stmts rs = map moved_item (placed 1 (side_by_side zero stmts)) ++ last_item stmts rs ∷ []

abbrev pub its_of : List (Text × Ident) → List Item
its_of rs = returned_object rs ++ function_back

abbrev pub is_async_of : List Item → List (Text × Ident) → Bool
is_async_of stmts rs = awaits_outside (stmts ++ returned_object rs)

call-is : (stmts : List Item) (rs : List (Text × Ident)) →
    function_front (is_async_of stmts rs) ++ ((stmts ++ returned_object rs) ++ function_back) ≡
    call_with (is_async_of stmts rs) stmts (its_of rs)
call-is stmts rs =
    ap (λ l. function_front (is_async_of stmts rs) ++ l)
    (append_assoc stmts (returned_object rs) function_back)

new-body : {stmts : List Item} → AreStatements zero stmts → (rs : List (Text × Ident)) →
    placed 7 (side_by_side zero (stmts ++ returned_object rs)) ≡ new_items stmts rs
new-body {stmts} statements rs =
    let n : 7 + length (flat (side_by_side zero stmts)) ≡ suc (length stmts) + 6 = omega (arith, ap length (sides-flat statements)) in
    ap (placed 7) (body-sides statements rs)
    ∙ placed-append 7 (side_by_side zero stmts) (returned_object rs ∷ [])
    ∙ ap₂ (λ (l : List TopItem) (k : ℕ). l ++ record { start = k; items = returned_object rs } ∷ []) (placed-moved 1 (side_by_side zero stmts)) n

has-body : {stmts : List Item} → AreStatements zero stmts → (rs : List (Text × Ident)) →
    HasBody AsCall (call_with (is_async_of stmts rs) stmts (its_of rs)) (Inner FunctionBody 6)
    (new_items stmts rs)
has-body {stmts} statements rs =
    subst (λ x. x)
    (λ i. HasBody AsCall (call-is stmts rs i) (Inner FunctionBody 6) (new-body statements rs i))
    (of_function (stmts ++ returned_object rs) (body-whole statements rs))

-- what there is of the bundle as a module, and of the object that is returned
record Given (p : Program) (hooks : Hooks) (reading : Reading) (stmts after : List Item) (pairing : Pairing) (rs : List (Text × Ident)) : Type 0 where
  scene : IsScene p reading (is_async_of stmts rs) stmts after (its_of rs)
  paired : IsPaired p hooks AsModule reading (module_with stmts after) pairing
  laid_out : IsLaidOut p AsModule reading (module_with stmts after) pairing
  top : pairing.top ≡ Top
  old_items : List TopItem
  body_is : pairing.body ≡ placed 1 (side_by_side zero stmts) ++ old_items
  plan : List Cause
  old_plan : List Cause
  plan_is : pairing.plan ≡ plan ++ old_plan
  zip : AllZip (Realises p hooks AsModule (old_bundle reading stmts after pairing.labels))
      (placed 1 (side_by_side zero stmts)) plan
  only_exports : Every (λ cause. cause ≡ Exports) old_plan
  last : Realises p hooks AsCall
      (new_bundle reading (is_async_of stmts rs) stmts (its_of rs) pairing.labels)
      (last_item stmts rs) Exports
  back : List Cause
  back_is : plan ++ Exports ∷ [] ≡ laid_out.front ++ (laid_out.middle ++ back)
  behind_it : Chosen (IsDue p AsCall) (map Stars (externals p laid_out.list) ++ Exports ∷ []) back

given-other : {p : Program} {hooks : Hooks} {reading : Reading} {stmts after : List Item}
    {pairing : Pairing} {rs : List (Text × Ident)}
    (g : Given p hooks reading stmts after pairing rs) →
    Every IsOther g.plan
given-other {p} {hooks} {reading} {stmts} {after} {pairing} g =
    zip-every (Realises p hooks AsModule (old_bundle reading stmts after pairing.labels)) IsOther
    (λ item cause is realised. realised-other is.no_list realised)
    (statement-items g.scene.twins.statements) g.plan g.zip

-- the last cause is at the end
last-at : (plan : List Cause) → Every IsOther plan → (i : ℕ) →
    slice_get (plan ++ Exports ∷ []) i ≡ Some Exports → i ≡ length plan
last-at [] none zero e = refl
last-at [] none (suc i) e = absurd (none-some Exports e)
last-at (cause ∷ plan) (more here others) zero e = absurd (here (same_Some cause Exports e))
last-at (cause ∷ plan) (more here others) (suc i) e = ap suc (last-at plan others i e)

other-at : (plan : List Cause) (i : ℕ) (cause : Cause) → IsOther cause →
    slice_get (plan ++ Exports ∷ []) i ≡ Some cause → slice_get plan i ≡ Some cause
other-at [] zero cause other e = absurd (other (sym (same_Some Exports cause e)))
other-at [] (suc i) cause other e = absurd (none-some cause e)
other-at (x ∷ plan) zero cause other e = e
other-at (x ∷ plan) (suc i) cause other e = other-at plan i cause other e

get-left : (xs ys : List Cause) (i : ℕ) (cause : Cause) → slice_get xs i ≡ Some cause →
    slice_get (xs ++ ys) i ≡ Some cause
get-left [] ys i cause e = absurd (none-some cause e)
get-left (x ∷ xs) ys zero cause e = e
get-left (x ∷ xs) ys (suc i) cause e = get-left xs ys i cause e

finish-paired : {p : Program} {hooks : Hooks} {reading : Reading} {stmts after : List Item}
    {pairing : Pairing} {rs : List (Text × Ident)}
    (g : Given p hooks reading stmts after pairing rs) →
    IsPaired p hooks AsCall reading (call_with (is_async_of stmts rs) stmts (its_of rs))
    (record { labels = moved_labels pairing.labels; top = Inner FunctionBody 6; body = new_items stmts rs; plan = g.plan ++ Exports ∷ [] })
finish-paired {p} {hooks} {reading} {stmts} {after} {pairing} {rs} g = record {
  labels = labels-one pairing.labels g.paired.labels;
  body = has-body g.scene.twins.statements rs;
  realised = zip-append new (map moved_item (placed 1 (side_by_side zero stmts))) (last_item stmts rs ∷ []) g.plan (Exports ∷ []) realised (g.last, tt);
  due = λ cause. (on cause, back cause);
  once = once;
}
  where
    old : TopItem → Cause → Type 0
    old = Realises p hooks AsModule (old_bundle reading stmts after pairing.labels)

    new : TopItem → Cause → Type 0
    new =
        Realises p hooks AsCall
        (new_bundle reading (is_async_of stmts rs) stmts (its_of rs) pairing.labels)

    in_old : (cause : Cause) → Contains g.plan cause → Contains pairing.plan cause
    in_old cause there =
        subst (λ l. Contains l cause) (sym g.plan_is)
        (Contains-append_left g.plan g.old_plan cause there)

    realised : AllZip
        (Realises p hooks AsCall (new_bundle reading (is_async_of stmts rs) stmts (its_of rs) pairing.labels))
        (map moved_item (placed 1 (side_by_side zero stmts))) g.plan
    realised =
        zip-map (λ item cause. Realises p hooks AsModule (old_bundle reading stmts after pairing.labels) item cause × IsDue p AsModule cause) (Realises p hooks AsCall (new_bundle reading (is_async_of stmts rs) stmts (its_of rs) pairing.labels)) moved_item
        (λ item cause is both. realised-moved g.scene hooks pairing.labels (segment-place item is.segment) is.no_list both.1 both.0)
        (statement-items g.scene.twins.statements) g.plan
        (zip-with (Realises p hooks AsModule (old_bundle reading stmts after pairing.labels)) (IsDue p AsModule) (placed 1 (side_by_side zero stmts)) g.plan (λ cause there. (g.paired.due cause).0 (in_old cause there)) g.zip)

    on : (cause : Cause) → Contains (g.plan ++ Exports ∷ []) cause → IsDue p AsCall cause
    on cause there = elim (Contains-append_cases g.plan (Exports ∷ []) cause there) [
      | inl front ↦ due-on ((g.paired.due cause).0 (in_old cause front))
      | inr end ↦ subst (IsDue p AsCall) (sym (contains-one Exports cause end)) (b.returns refl)
    ]

    back : (cause : Cause) → IsDue p AsCall cause → Contains (g.plan ++ Exports ∷ []) cause
    back cause due = elim (cause-cases cause) [
      | inl is ↦ subst (Contains (g.plan ++ Exports ∷ [])) (sym is) (Contains-append_right g.plan (Exports ∷ []) Exports (first-there Exports []))
      | inr other ↦ elim (Contains-append_cases g.plan g.old_plan cause (subst (λ l. Contains l cause) g.plan_is ((g.paired.due cause).1 (due-back due other)))) [
        | inl front ↦ Contains-append_left g.plan (Exports ∷ []) cause front
        | inr end ↦ absurd (other (every-there g.only_exports cause end))
      ]
    ]

    in_plan : (i : ℕ) (cause : Cause) → IsOther cause →
        slice_get (g.plan ++ Exports ∷ []) i ≡ Some cause → slice_get pairing.plan i ≡ Some cause
    in_plan i cause other e =
        ap (λ l. slice_get l i) g.plan_is
        ∙ get-left g.plan g.old_plan i cause (other-at g.plan i cause other e)

    once : (i j : ℕ) (cause : Cause) → slice_get (g.plan ++ Exports ∷ []) i ≡ Some cause →
        slice_get (g.plan ++ Exports ∷ []) j ≡ Some cause → i ≡ j
    once i j cause first second = elim (cause-cases cause) [
      | inl is ↦ last-at g.plan (given-other g) i (first ∙ ap Some is) ∙ sym (last-at g.plan (given-other g) j (second ∙ ap Some is))
      | inr other ↦ g.paired.once i j cause (in_plan i cause other first) (in_plan j cause other second)
    ]

every-segment : {stmts : List Item} → AreStatements zero stmts →
    Every (IsSegment stmts) (placed 1 (side_by_side zero stmts))
every-segment statements = every-map (λ item is. is.segment) (statement-items statements)

finish : {p : Program} {hooks : Hooks} {reading : Reading} {stmts after : List Item}
    {pairing : Pairing} {rs : List (Text × Ident)}
    (g : Given p hooks reading stmts after pairing rs) →
    IsBundle p hooks AsCall reading (call_with (is_async_of stmts rs) stmts (its_of rs))
finish {p} {hooks} {reading} {stmts} {after} {pairing} {rs} g = record {
  pairing = record { labels = moved_labels pairing.labels; top = Inner FunctionBody 6; body = new_items stmts rs; plan = g.plan ++ Exports ∷ [] };
  paired = finish-paired g;
  laid_out = record {
    list = g.laid_out.list;
    is_list = g.laid_out.is_list;
    blocks = g.laid_out.blocks;
    are_blocks = g.laid_out.are_blocks;
    follows = g.laid_out.follows;
    front = g.laid_out.front;
    middle = g.laid_out.middle;
    back = g.back;
    plan = g.back_is;
    in_front = front-moved (externals p g.laid_out.list) g.laid_out.in_front;
    in_blocks = blocks-moved g.scene.twins like g.laid_out.in_blocks;
    behind = g.behind_it;
  };
}
  where
    like : AreLike stmts pairing
        (record { labels = moved_labels pairing.labels; top = Inner FunctionBody 6; body = new_items stmts rs; plan = g.plan ++ Exports ∷ [] })
    like = record {
      top = g.top;
      new_top = refl;
      items = placed 1 (side_by_side zero stmts);
      plan = g.plan;
      old_items = g.old_items;
      old_plan = g.old_plan;
      new_items = last_item stmts rs ∷ [];
      new_plan = Exports ∷ [];
      body_is = g.body_is;
      plan_is = g.plan_is;
      new_body_is = refl;
      new_plan_is = refl;
      same_length = zip-length (Realises p hooks AsModule (old_bundle reading stmts after pairing.labels)) (placed 1 (side_by_side zero stmts)) g.plan g.zip;
      only_exports = g.only_exports;
      segments = every-segment g.scene.twins.statements;
    }

-- Behind the statements.

-- the nodes around the top, and around the body
record Behind (is_async : Bool) (s t : Spot) : Type 0 where
  field : ℕ
  old : s.path ≡ around_place h.Module 0 field ∷ []
  new : t.path ≡ called_path is_async field

spots-behind : {is_async : Bool} {stmts : List Item} → AreStatements zero stmts →
    Behind is_async (fold past statements_start stmts) (fold past (call_start is_async) stmts)
spots-behind {is_async} {stmts} statements = by (behind statements (start-moved is_async)).path
  where
    paths : {old new : List _} → IsPathMoved is_async zero old new →
        (field : ℕ) × (old ≡ around_place h.Module 0 field ∷ []) × (new ≡ called_path is_async field)
    paths (outside field) = (field, refl, refl)

    by : IsPathMoved is_async zero (fold past statements_start stmts).path
        (fold past (call_start is_async) stmts).path →
        Behind is_async (fold past statements_start stmts) (fold past (call_start is_async) stmts)
    by moved = let r = paths moved in record { field = r.0; old = r.1; new = r.2 }

at-spot : {list : List Item} {j : ℕ} {s : Spot} {items : List Item} (path : List _) →
    s.path ≡ path → IsAt list j s items →
    IsAt list j (record { place = s.place; path = path }) items
at-spot {s} path e at = record { left = at.left; spot = at.spot ∙ ap (λ p. record { place = s.place; path = p }) e }

-- a statement list's own twins
pub twins-of : {reading : Reading} {stmts back : List Item} → AreStatements zero stmts →
    IsBack back → Every IsTaken (declared reading Es (module_with stmts (back ++ h.Close ∷ []))) →
    (rs : List (Text × Ident)) →
    AreTwins reading (is_async_of stmts rs) stmts (back ++ h.Close ∷ []) (its_of rs)
twins-of {reading} {stmts} statements ends taken rs = record {
  statements = statements;
  taken = taken;
  none_after = nothing-declared reading (fold past statements_start stmts) (back-bindless ends);
  none_its = nothing-declared reading (fold past (call_start (is_async_of stmts rs)) stmts) (object-bindless rs);
}

returned : {p : Program} {hooks : Hooks} {reading : Reading} {stmts after : List Item}
    (rs : List (Text × Ident)) →
    AreTwins reading (is_async_of stmts rs) stmts after (its_of rs) →
    (labels : Labelling) (pairs : List NamedTarget) → AreLinked p p.entry pairs →
    AllZip (Returns reading (declared reading Es (module_with stmts after)) labels) rs pairs →
    Realises p hooks AsCall (new_bundle reading (is_async_of stmts rs) stmts (its_of rs) labels)
    (last_item stmts rs) Exports
returned {p} {hooks} {reading} {stmts} {after} rs twins labels pairs linked zip =
    let spots = spots-behind {is_async = is_async_of stmts rs} twins.statements in
    let past_body : 6 < suc (length stmts) + 6 = omega arith in
    b.returns pairs refl linked (object-means twins labels (suc (length stmts) + 6) past_body spots.field rs pairs zip function_back (fold past (call_start (is_async_of stmts rs)) stmts).place (at-spot (called_path (is_async_of stmts rs) spots.field) spots.new (call-behind (is_async_of stmts rs) stmts (its_of rs))))

-- A module without a list of exports.

no-exports-bundle : {p : Program} {hooks : Hooks} (reading : Reading) (stmts : List Item) →
    form_of p.settings ≡ AsCall → IsFaultlessProgram p → StatesNoExports p →
    AreStatements zero stmts →
    Every IsTaken (declared reading Es (module_with stmts (h.Close ∷ []))) → (pairing : Pairing) →
    pairing.top ≡ Top → pairing.body ≡ top_items (module_with stmts (h.Close ∷ [])) →
    IsPaired p hooks AsModule reading (module_with stmts (h.Close ∷ [])) pairing →
    IsLaidOut p AsModule reading (module_with stmts (h.Close ∷ [])) pairing →
    IsBundle p hooks AsCall reading (call_with (is_async_of stmts []) stmts (its_of []))
no-exports-bundle {p} {hooks} reading stmts form faultless filed statements taken pairing top body paired laid_out = finish {rs = []} (record {
  scene = record { twins = twins; form = form; faultless = faultless; filed = filed };
  paired = paired;
  laid_out = laid_out;
  top = top;
  old_items = [];
  body_is = body_is;
  plan = pairing.plan;
  old_plan = [];
  plan_is = sym (append-nil pairing.plan);
  zip = zip;
  only_exports = none;
  last = returned [] twins pairing.labels [] (record { ascending = tt; all = λ x t. (λ there. absurd (not-there there), λ linked. absurd (no_exports (b.exports refl (t, linked)))) }) tt;
  back = laid_out.back ++ Exports ∷ [];
  back_is = ap (λ l. l ++ Exports ∷ []) laid_out.plan ∙ append_assoc laid_out.front (laid_out.middle ++ laid_out.back) (Exports ∷ []) ∙ ap (λ l. laid_out.front ++ l) (append_assoc laid_out.middle laid_out.back (Exports ∷ []));
  behind_it = behind-new (externals p laid_out.list) no_exports laid_out.behind;
})
  where
    not-there : {A : Type 0} {x : A} → Contains [] x → ⊥
    not-there (i, l, e) = omega arith

    twins : AreTwins reading (is_async_of stmts []) stmts (h.Close ∷ []) (its_of [])
    twins = twins-of statements nothing taken []

    items_are : top_items (module_with stmts (h.Close ∷ [])) ≡ placed 1 (side_by_side zero stmts)
    items_are =
        ap (placed 1)
        (sides-append statements (h.Close ∷ []) ∙ append-nil (side_by_side zero stmts))

    body_is : pairing.body ≡ placed 1 (side_by_side zero stmts) ++ []
    body_is = body ∙ items_are ∙ sym (append-nil (placed 1 (side_by_side zero stmts)))

    zip : AllZip
        (Realises p hooks AsModule (old_bundle reading stmts (h.Close ∷ []) pairing.labels))
        (placed 1 (side_by_side zero stmts)) pairing.plan
    zip =
        subst
        (λ l. AllZip (Realises p hooks AsModule (old_bundle reading stmts (h.Close ∷ []) pairing.labels)) l pairing.plan)
        (body ∙ items_are) paired.realised

    no_exports : IsDue p AsModule Exports → ⊥
    no_exports due =
        every-there
        (zip-every (Realises p hooks AsModule (old_bundle reading stmts (h.Close ∷ []) pairing.labels)) IsOther (λ item cause is realised. realised-other is.no_list realised) (statement-items statements) pairing.plan zip)
        Exports ((paired.due Exports).1 due) refl

-- A module with a list of exports.

-- what a bundle with a list of exports exports
record Exported (p : Program) (hooks : Hooks) (reading : Reading) (stmts : List Item) (meta : ExportMetadata) (specifiers : List Specifier) : Type 0 where
  pairs : List NamedTarget
  listed : exported_pairs (export_items meta specifiers) ≡ map pair_of specifiers
  is_bundle : IsBundle p hooks AsCall reading
      (call_with (is_async_of stmts (map pair_of specifiers)) stmts (its_of (map pair_of specifiers)))

one-more : {A B : Type 0} (R : A → B → Type 0) (x : A) (ys : List B) → AllZip R (x ∷ []) ys →
    (y : B) × (ys ≡ y ∷ []) × R x y
one-more R x [] zip = absurd zip
one-more R x (y ∷ []) zip = (y, refl, zip.0)
one-more R x (y ∷ z ∷ ys) zip = absurd zip.1

exports-bundle : {p : Program} {hooks : Hooks} (reading : Reading) (stmts : List Item)
    (meta : ExportMetadata) (specifiers : List Specifier) →
    form_of p.settings ≡ AsCall → IsFaultlessProgram p → StatesNoExports p →
    AreStatements zero stmts →
    Every IsTaken
    (declared reading Es (module_with stmts (export_items meta specifiers ++ h.Close ∷ []))) →
    (pairing : Pairing) → pairing.top ≡ Top →
    pairing.body ≡ top_items (module_with stmts (export_items meta specifiers ++ h.Close ∷ [])) →
    IsPaired p hooks AsModule reading
    (module_with stmts (export_items meta specifiers ++ h.Close ∷ [])) pairing →
    IsLaidOut p AsModule reading (module_with stmts (export_items meta specifiers ++ h.Close ∷ []))
    pairing →
    Exported p hooks reading stmts meta specifiers
exports-bundle {p} {hooks} reading stmts meta specifiers form faultless filed statements taken pairing top body paired laid_out = record {
  pairs = read.pairs;
  listed = pairs-listed reading (declared reading Es tree) pairing.labels meta specifiers read.pairs fits read.linked.ascending;
  is_bundle = finish {rs = map pair_of specifiers} (record {
    scene = record { twins = twins; form = form; faultless = faultless; filed = filed };
    paired = paired;
    laid_out = laid_out;
    top = top;
    old_items = list_item ∷ [];
    body_is = body_is;
    plan = split.first;
    old_plan = split.second;
    plan_is = split.is;
    zip = split.zip;
    only_exports = subst (Every (λ cause. cause ≡ Exports)) (sym end.1) (more read.is none);
    last = returned (map pair_of specifiers) twins pairing.labels read.pairs read.linked (fits-returns reading (declared reading Es tree) pairing.labels specifiers read.pairs fits);
    back = laid_out.back;
    back_is = ap (λ l. split.first ++ l) (sym (end.1 ∙ ap (λ c. c ∷ []) read.is)) ∙ sym split.is ∙ laid_out.plan;
    behind_it = behind-due (externals p laid_out.list) exports_due laid_out.behind;
  });
}
  where
    after : List Item
    after = export_items meta specifiers ++ h.Close ∷ []

    tree : List Item
    tree = module_with stmts (export_items meta specifiers ++ h.Close ∷ [])

    list_item : TopItem
    list_item = record { start = suc (length stmts); items = export_items meta specifiers }

    old : TopItem → Cause → Type 0
    old =
        Realises p hooks AsModule
        (old_bundle reading stmts (export_items meta specifiers ++ h.Close ∷ []) pairing.labels)

    twins : AreTwins reading (is_async_of stmts (map pair_of specifiers)) stmts
        (export_items meta specifiers ++ h.Close ∷ []) (its_of (map pair_of specifiers))
    twins = twins-of statements (exports meta specifiers) taken (map pair_of specifiers)

    items_are : top_items (module_with stmts (export_items meta specifiers ++ h.Close ∷ [])) ≡
        placed 1 (side_by_side zero stmts) ++ record
        { start = suc (length stmts); items = export_items meta specifiers } ∷ []
    items_are =
        let n : 1 + length (flat (side_by_side zero stmts)) ≡ suc (length stmts) = omega (arith, ap length (sides-flat statements)) in
        ap (placed 1) (sides-append statements (export_items meta specifiers ++ h.Close ∷ []) ∙ ap (λ l. side_by_side zero stmts ++ l) (list-alone meta specifiers (h.Close ∷ [])))
        ∙ placed-append 1 (side_by_side zero stmts) (export_items meta specifiers ∷ [])
        ∙ ap (λ k. placed 1 (side_by_side zero stmts) ++ record { start = k; items = export_items meta specifiers } ∷ []) n

    body_is : pairing.body ≡ placed 1 (side_by_side zero stmts) ++ record
        { start = suc (length stmts); items = export_items meta specifiers } ∷ []
    body_is = body ∙ items_are

    split : Split
        (Realises p hooks AsModule (old_bundle reading stmts (export_items meta specifiers ++ h.Close ∷ []) pairing.labels))
        (placed 1 (side_by_side zero stmts))
        (record { start = suc (length stmts); items = export_items meta specifiers } ∷ [])
        pairing.plan
    split =
        zip-split
        (Realises p hooks AsModule (old_bundle reading stmts (export_items meta specifiers ++ h.Close ∷ []) pairing.labels))
        (placed 1 (side_by_side zero stmts))
        (record { start = suc (length stmts); items = export_items meta specifiers } ∷ [])
        pairing.plan
        (subst (λ l. AllZip (Realises p hooks AsModule (old_bundle reading stmts (export_items meta specifiers ++ h.Close ∷ []) pairing.labels)) l pairing.plan) body_is paired.realised)

    end : (cause : Cause) × (split.second ≡ cause ∷ []) × Realises p hooks AsModule
        (old_bundle reading stmts (export_items meta specifiers ++ h.Close ∷ []) pairing.labels)
        (record { start = suc (length stmts); items = export_items meta specifiers }) cause
    end =
        one-more
        (Realises p hooks AsModule (old_bundle reading stmts (export_items meta specifiers ++ h.Close ∷ []) pairing.labels))
        (record { start = suc (length stmts); items = export_items meta specifiers }) split.second
        split.rest

    in_plan : Contains pairing.plan end.0
    in_plan =
        subst (λ l. Contains l end.0) (sym split.is)
        (Contains-append_right split.first split.second end.0 (subst (λ l. Contains l end.0) (sym end.1) (first-there end.0 [])))

    read : ListRead p
        (old_bundle reading stmts (export_items meta specifiers ++ h.Close ∷ []) pairing.labels)
        (record { start = suc (length stmts); items = export_items meta specifiers }) end.0
    read =
        list-read reading stmts (export_items meta specifiers ++ h.Close ∷ []) pairing.labels filed
        ((paired.due end.0).0 in_plan) refl end.2

    exports_due : IsDue p AsModule Exports
    exports_due = subst (IsDue p AsModule) read.is ((paired.due end.0).0 in_plan)

    spots : Behind (is_async_of stmts (map pair_of specifiers)) (fold past statements_start stmts)
        (fold past (call_start (is_async_of stmts (map pair_of specifiers))) stmts)
    spots = spots-behind statements

    fits : AllZip
        (Fits reading (declared reading Es (module_with stmts (export_items meta specifiers ++ h.Close ∷ []))) pairing.labels)
        specifiers read.pairs
    fits =
        exports-read (module_with stmts (export_items meta specifiers ++ h.Close ∷ [])) reading
        pairing.labels meta spots.field specifiers read.pairs (h.Close ∷ []) (suc (length stmts))
        (fold past statements_start stmts).place
        (at-spot (around_place h.Module 0 spots.field ∷ []) spots.old (module-behind stmts (export_items meta specifiers ++ h.Close ∷ [])))
        read.means

-- The whole.

module-body : {tree : List Item} {top : Scope} {body : List TopItem} →
    HasBody AsModule tree top body → (top ≡ Top) × (body ≡ top_items tree)
module-body of_module = (refl, refl)

pub wrapped-is : (tree : List Item) (stmts : List Item) (rs : List (Text × Ident)) →
    function_body (parts tree) ≡ stmts ++ returned_object rs →
    wrapped tree ≡ call_with (is_async_of stmts rs) stmts (its_of rs)
wrapped-is tree stmts rs e =
    ap (λ l. function_front (awaits_outside l) ++ (l ++ function_back)) e ∙ call-is stmts rs

wrapping : {p : Program} {hooks : Hooks} (reading : Reading) (stmts : List Item) {back : List Item}
    →
    IsBack back → form_of p.settings ≡ AsCall → IsFaultlessProgram p → StatesNoExports p →
    AreStatements zero stmts →
    Every IsTaken (declared reading Es (module_with stmts (back ++ h.Close ∷ []))) →
    IsBundle p hooks AsModule reading (module_with stmts (back ++ h.Close ∷ [])) →
    IsBundle p hooks AsCall reading (wrapped (module_with stmts (back ++ h.Close ∷ [])))
wrapping {p} {hooks} reading stmts nothing form faultless filed statements taken bundle =
    let body = module-body bundle.paired.body in
    subst (IsBundle p hooks AsCall reading) (sym (wrapped-is (module_with stmts (h.Close ∷ [])) stmts [] (body-plain statements)))
    (no-exports-bundle reading stmts form faultless filed statements taken bundle.pairing body.0 body.1 bundle.paired bundle.laid_out)
wrapping {p} {hooks} reading stmts (exports meta specifiers) form faultless filed statements taken bundle =
    let body = module-body bundle.paired.body in
    let r = exports-bundle reading stmts meta specifiers form faultless filed statements taken bundle.pairing body.0 body.1 bundle.paired bundle.laid_out in
    subst (IsBundle p hooks AsCall reading) (sym (wrapped-is (module_with stmts (export_items meta specifiers ++ h.Close ∷ [])) stmts (map pair_of specifiers) (body-exports statements meta specifiers ∙ ap (λ l. stmts ++ returned_object l) r.listed)))
    r.is_bundle

-- one function's call of a bundle is a bundle, where that form is asked for and the
-- program has no fault; each reached module has a file, and the bundle is a module that can be
-- called
pub wrapping-keeps : (p : Program) (hooks : Hooks) (reading : Reading) (tree : List Item) →
    form_of p.settings ≡ AsCall → IsFaultlessProgram p → StatesNoExports p →
    CanBeCalled reading tree → IsBundle p hooks AsModule reading tree →
    IsBundle p hooks AsCall reading (wrapped tree)
wrapping-keeps p hooks reading tree form faultless filed can bundle =
    subst (λ t. IsBundle p hooks AsCall reading (wrapped t)) (sym can.is)
    (wrapping reading can.stmts can.ends form faultless filed can.statements (subst (λ t. Every IsTaken (declared reading Es t)) can.is can.taken) (subst (IsBundle p hooks AsModule reading) can.is bundle))
