-- What imports and exports ask for stands among the requests of the declarations.
use Rattle.std.proofs.Common.{◌≡◌, ◌⊎◌, inl, inr, zero, suc, Bool, true, false, List, [], ◌∷◌, Option, Some, None, Contains, map, refl, sym, ap, subst, if◌then◌else◌, cond, arith}
use Rattle.std.specs.Prelude.{bytes_eq, find, flat_map}
use Rattle.std.proofs.lemmas.List.Elements.{Contains-append_left, Contains-append_right, Contains-append_cases}
use Rattle.std.proofs.lemmas.Option.{none-some, same_Some}
use Rattle.bundle_syntax.specs.Item as h
use Rattle.bundle_syntax.specs.Item.{Item, Head}
use Rattle.bundle_rules.specs.Nodes.{Text, child, in_field, string_of}
use Rattle.bundle_rules.specs.Statements.{top_items}
use Rattle.bundle_rules.specs.Entries.{Taken, Named, Whole, ImportEntry, Local, Indirect, Star, import_entry, imports_by, imports_of_item, imports_of, import_of, export_of, entry_from, entry_here, entries_of_list, exports_by, exports_of_item, exports_of, given_on, names_declared, text_in, requests_by, requests_of_item, declared_requests}

-- ---- elements of lists
pub flat_back : {A B : Type 0} (f : A → List B) (xs : List A) (y : B) → Contains (flat_map f xs) y → (x : A) × Contains xs x × Contains (f x) y
flat_back f [] y (i, l, e) = absurd (omega arith)
flat_back f (x ∷ xs) y there = elim (Contains-append_cases (f x) (flat_map f xs) y there) [
  | inl here ↦ (x, (0, omega arith, refl), here)
  | inr more ↦ let r = flat_back f xs y more in (r.0, (suc r.1.0, omega (arith, r.1.1), r.1.2), r.2)
]

pub flat_on : {A B : Type 0} (f : A → List B) (xs : List A) (x : A) (y : B) → Contains xs x → Contains (f x) y → Contains (flat_map f xs) y
flat_on f [] x y (i, l, e) there = absurd (omega arith)
flat_on f (a ∷ xs) x y (zero, l, e) there = Contains-append_left (f a) (flat_map f xs) y (subst (λ z. Contains (f z) y) (sym e) there)
flat_on f (a ∷ xs) x y (suc i, l, e) there = Contains-append_right (f a) (flat_map f xs) y (flat_on f xs x y (i, omega arith, e) there)

map_back : {A B : Type 0} (f : A → B) (xs : List A) (y : B) → Contains (map f xs) y → (x : A) × (f x ≡ y)
map_back f [] y (i, l, e) = absurd (omega arith)
map_back f (x ∷ xs) y (zero, l, e) = (x, e)
map_back f (x ∷ xs) y (suc i, l, e) = map_back f xs y (i, omega arith, e)

pub only_one : {A : Type 0} (a x : A) → Contains (a ∷ []) x → a ≡ x
only_one a x (zero, l, e) = e
only_one a x (suc i, l, e) = absurd (omega arith)

pub none_there : {A B : Type 0} (x : A) → Contains [] x → B
none_there x (i, l, e) = absurd (omega arith)

pub found : {A : Type 0} (test : A → Bool) (xs : List A) (a : A) → find test xs ≡ Some a → Contains xs a
found test [] a e = absurd (none-some a e)
found {A = A} test (x ∷ xs) a e = by (test x) e (found test xs a)
  where
    by : (b : Bool) → cond b (Some x) (find test xs) ≡ Some a → (find test xs ≡ Some a → Contains xs a) → Contains (x ∷ xs) a
    by true e ih = (0, omega arith, same_Some x a e)
    by false e ih = let r = ih e in (suc r.0, omega (arith, r.1), r.2)

-- ---- imports
specifier_is : (source : Text) (specifier : List Item) (entry : ImportEntry) → Contains (import_entry source specifier) entry → source ≡ entry.specifier
specifier_is source (h.Open field head ∷ rest) entry there = ap (λ (e : ImportEntry). e.specifier) (only_one _ entry there)
specifier_is source _ entry there = none_there entry there

import_by_head : (head : Head) (item : List Item) (entry : ImportEntry) → Contains (imports_by head item) entry → Contains (requests_by head item) entry.specifier
import_by_head (h.ImportDecl meta) item entry there =
    let r = flat_back (import_entry (text_in 1 item)) (in_field 0 item) entry there in
    (0, omega arith, specifier_is (text_in 1 item) r.0 entry r.2)
import_by_head _ item entry there = none_there entry there

import_in_item : (item : List Item) (entry : ImportEntry) → Contains (imports_of_item item) entry → Contains (requests_of_item item) entry.specifier
import_in_item (h.Open field head ∷ rest) entry there = import_by_head head (h.Open field head ∷ rest) entry there
import_in_item _ entry there = none_there entry there

pub import_asks : (tree : List Item) (entry : ImportEntry) → Contains (imports_of tree) entry → Contains (declared_requests tree) entry.specifier
import_asks tree entry there =
    let r = flat_back (λ top. imports_of_item top.items) (top_items tree) entry there in
    flat_on (λ top. requests_of_item top.items) (top_items tree) r.0 entry.specifier r.1 (import_in_item r.0.items entry r.2)

-- ---- exports of what another module gives
from_is : (b : Bool) (first name last source x s : Text) (taken : Taken) → (if b then Indirect first source Whole else Indirect name source (Named last)) ≡ Indirect x s taken → source ≡ s
from_is true first name last source x s taken e = cc
from_is false first name last source x s taken e = cc

given_is : (imports : List ImportEntry) (name of x s : Text) (taken : Taken) → export_of imports name of ≡ Indirect x s taken → (entry : ImportEntry) × Contains imports entry × (entry.specifier ≡ s)
given_is imports name of x s taken e = by (import_of imports of) refl e
  where
    kind : (entry : ImportEntry) (what : Taken) → (elim what [ Named y ↦ Indirect name entry.specifier (Named y) | Whole ↦ Local name of ]) ≡ Indirect x s taken → entry.specifier ≡ s
    kind entry (Named y) e = cc
    kind entry Whole e = cc

    by : (o : Option ImportEntry) → import_of imports of ≡ o → given_on name of o ≡ Indirect x s taken → (entry : ImportEntry) × Contains imports entry × (entry.specifier ≡ s)
    by None is e = cc
    by (Some entry) is e = (entry, found (λ it. bytes_eq it.local of) imports entry is, kind entry entry.taken e)

here_is : (b : Bool) (imports : List ImportEntry) (name of x s : Text) (taken : Taken) → Contains (if b then export_of imports name of ∷ [] else []) (Indirect x s taken) → (entry : ImportEntry) × Contains imports entry × (entry.specifier ≡ s)
here_is true imports name of x s taken there = given_is imports name of x s taken (only_one (export_of imports name of) (Indirect x s taken) there)
here_is false imports name of x s taken there = none_there (Indirect x s taken) there

listed : (imports : List ImportEntry) (source : Option Text) (list : List Item) (x s : Text) (taken : Taken) → Contains (entries_of_list imports source list) (Indirect x s taken) → (source ≡ Some s) ⊎ ((entry : ImportEntry) × Contains imports entry × (entry.specifier ≡ s))
listed imports (Some source) list x s taken there =
    let r = map_back (entry_from source) (in_field 0 list) (Indirect x s taken) there in
    inl (ap (λ y. Some y) (from_is _ _ _ _ source x s taken r.1))
listed imports None list x s taken there =
    let r = flat_back (entry_here imports) (in_field 0 list) (Indirect x s taken) there in
    inr (here_is _ imports _ _ x s taken r.2)

asked_of : (source : Option Text) (s : Text) → source ≡ Some s → Contains (elim source [ None ↦ [] | Some text ↦ text ∷ [] ]) s
asked_of None s e = absurd (none-some s e)
asked_of (Some text) s e = (0, omega arith, same_Some text s e)

entry_by_head : (imports : List ImportEntry) (head : Head) (item : List Item) (x s : Text) (taken : Taken) → Contains (exports_by imports head item) (Indirect x s taken) → Contains (requests_by head item) s ⊎ ((entry : ImportEntry) × Contains imports entry × (entry.specifier ≡ s))
entry_by_head imports h.ExportDecl item x s taken there = let r = map_back (λ y. Local y y) (names_declared (child 0 item)) (Indirect x s taken) there in let e = r.1 in cc
entry_by_head imports (h.NamedExport meta) item x s taken there = elim (listed imports (string_of (child 1 item)) item x s taken there) [
  | inl e ↦ inl (asked_of (string_of (child 1 item)) s e)
  | inr r ↦ inr r
]
entry_by_head imports h.ExportDefaultDecl item x s taken there = let e = only_one _ (Indirect x s taken) there in cc
entry_by_head imports h.ExportDefaultExpr item x s taken there = let e = only_one _ (Indirect x s taken) there in cc
entry_by_head imports (h.ExportAll meta) item x s taken there = let e = only_one _ (Indirect x s taken) there in cc
entry_by_head imports _ item x s taken there = none_there (Indirect x s taken) there

entry_in_item : (imports : List ImportEntry) (item : List Item) (x s : Text) (taken : Taken) → Contains (exports_of_item imports item) (Indirect x s taken) → Contains (requests_of_item item) s ⊎ ((entry : ImportEntry) × Contains imports entry × (entry.specifier ≡ s))
entry_in_item imports (h.Open field head ∷ rest) x s taken there = entry_by_head imports head (h.Open field head ∷ rest) x s taken there
entry_in_item imports _ x s taken there = none_there (Indirect x s taken) there

pub entry_asks : (tree : List Item) (x s : Text) (taken : Taken) → Contains (exports_of tree) (Indirect x s taken) → Contains (declared_requests tree) s
entry_asks tree x s taken there =
    let r = flat_back (λ top. exports_of_item (imports_of tree) top.items) (top_items tree) (Indirect x s taken) there in
    elim (entry_in_item (imports_of tree) r.0.items x s taken r.2) [
      | inl own ↦ flat_on (λ top. requests_of_item top.items) (top_items tree) r.0 s r.1 own
      | inr k ↦ subst (Contains (declared_requests tree)) k.2 (import_asks tree k.0 k.1)
    ]

-- ---- stars
given_no_star : (name of : Text) (o : Option ImportEntry) (s : Text) → given_on name of o ≡ Star s → ⊥
given_no_star name of None s e = cc
given_no_star name of (Some entry) s e = kind entry.taken e
  where
    kind : (what : Taken) → (elim what [ Named y ↦ Indirect name entry.specifier (Named y) | Whole ↦ Local name of ]) ≡ Star s → ⊥
    kind (Named y) e = cc
    kind Whole e = cc

here_no_star : (b : Bool) (imports : List ImportEntry) (name of s : Text) → Contains (if b then export_of imports name of ∷ [] else []) (Star s) → ⊥
here_no_star true imports name of s there = given_no_star name of (import_of imports of) s (only_one (export_of imports name of) (Star s) there)
here_no_star false imports name of s there = none_there (Star s) there

from_no_star : (b : Bool) (first name last source s : Text) → (if b then Indirect first source Whole else Indirect name source (Named last)) ≡ Star s → ⊥
from_no_star true first name last source s e = cc
from_no_star false first name last source s e = cc

no_star_listed : (imports : List ImportEntry) (source : Option Text) (list : List Item) (s : Text) → Contains (entries_of_list imports source list) (Star s) → ⊥
no_star_listed imports (Some source) list s there = let r = map_back (entry_from source) (in_field 0 list) (Star s) there in from_no_star _ _ _ _ source s r.1
no_star_listed imports None list s there = let r = flat_back (entry_here imports) (in_field 0 list) (Star s) there in here_no_star _ imports _ _ s r.2

star_by_head : (imports : List ImportEntry) (head : Head) (item : List Item) (s : Text) → Contains (exports_by imports head item) (Star s) → Contains (requests_by head item) s
star_by_head imports h.ExportDecl item s there = let r = map_back (λ y. Local y y) (names_declared (child 0 item)) (Star s) there in let e = r.1 in cc
star_by_head imports (h.NamedExport meta) item s there = absurd (no_star_listed imports (string_of (child 1 item)) item s there)
star_by_head imports h.ExportDefaultDecl item s there = let e = only_one _ (Star s) there in cc
star_by_head imports h.ExportDefaultExpr item s there = let e = only_one _ (Star s) there in cc
star_by_head imports (h.ExportAll meta) item s there = let e = only_one _ (Star s) there in let same : text_in 0 item ≡ s = cc in (0, omega arith, same)
star_by_head imports _ item s there = none_there (Star s) there

star_in_item : (imports : List ImportEntry) (item : List Item) (s : Text) → Contains (exports_of_item imports item) (Star s) → Contains (requests_of_item item) s
star_in_item imports (h.Open field head ∷ rest) s there = star_by_head imports head (h.Open field head ∷ rest) s there
star_in_item imports _ s there = none_there (Star s) there

pub star_asks : (tree : List Item) (s : Text) → Contains (exports_of tree) (Star s) → Contains (declared_requests tree) s
star_asks tree s there =
    let r = flat_back (λ top. exports_of_item (imports_of tree) top.items) (top_items tree) (Star s) there in
    flat_on (λ top. requests_of_item top.items) (top_items tree) r.0 s r.1 (star_in_item (imports_of tree) r.0.items s r.2)
