-- The module of a file that is handed over, and what is left in a document then.
-- Two lists that grow by one place each.
-- Members of an object beside the entries of a map: those that are put in as they are read, and those that are put
-- in the order of their names.
use Rattle.std.proofs.Common.{◌≡◌, ◌≢◌, ℕ, Bool, true, false, List, None, Some, String, Global, Equal, bytes_eq, nat_cmp, string_bytes, string_cmp, refl, sym, ap, subst, ◌∙◌, ◌+◌, ◌<◌, [], ◌∷◌, ◌++◌, length, take, get_or, map, Vec, Bor, Ordering, Less, Greater, append_assoc}
use Rattle.std.specs.BTreeMap.{get_by_text, BTreeMap, UpdatesBy, insert_entry}
use Rattle.std.specs.Cmp.Lexicographic.{slice_cmp}
use Rattle.std.specs.Prelude.{IsSomeAnd}
use Rattle.std.proofs.lemmas.Bool.{cond-false}
use Rattle.std.proofs.lemmas.Map.Lookups.{exact_bytes}
use Rattle.std.proofs.lemmas.Map.Text.{btree_map_updates_text}
use Rattle.std.proofs.lemmas.Slice.Eq.{bytes_eq-Decides}
use Rattle.std.proofs.lemmas.List.{take_more, map-append}
use Rattle.std.specs.List.{AllZip, AllByRecursion}
use Rattle.std.proofs.lemmas.Cmp.{nat_list_cmp_total}
use Rattle.std.specs.List.Sorted.{IsStrictlySortedBy}
use Rattle.std.specs.Map.{keys_of}
use Rattle.std.specs.Ordering.{match_ordering, ordering_reverse}
use Rattle.bundle_tree_names.specs.FileName.{Name, real, custom, name_of}
use Rattle.json.specs.Value.{items_view, members_view}
use Rattle.serde_json.specs.Data.{Data, null, boolean, number, string, item, array, object, no_members, Members, member, put}
use Rattle.serde_json.specs.Find.{as_array}
use Rattle.serde_json.specs.View.{items_of, members_of}
use Rattle.json.specs.declared.value.Value.{Value, Object}
use Rattle.json.proofs.Trees.{view-Object}
use Rattle.bundle_tree_ast.specs.declared.module.Module.{Module}
use Rattle.bundle_json_form.specs.Plain.{items_seen, plain, plain_items, plain_members, seen}
use Rattle.bundle_json_form.proofs.Growth.{append_nil}
use Rattle.bundle_tree_listed.specs.Tree.{module_items}
use Rattle.bundle_tree.specs.declared.load.ModuleData.{ModuleData}
use Rattle.bundle_json_document.specs.Parties.{file_module, GivesModule, LacksModule}
use Rattle.bundle_json_document.specs.Document.{IsMap}
use Rattle.bundle_json_document.specs.Seen.{last_members}

-- ---- handed

-- what is found at a path, under the name that it has there, is the module of the file
pub handed : (files : BTreeMap (String Global) Module) (file : Name) (path : List ℕ) (given : ModuleData)
    → file ≡ real path
    → (name : List ℕ) → name_of given.file_name ≡ real name → slice_cmp nat_cmp path name ≡ Equal
    → Some given.module ≡ get_by_text files path
    → GivesModule files file given
handed files file path given is name called same found = record {
  name = called ∙ ap real (sym (exact_bytes path name same)) ∙ sym is;
  tree = subst (λ f. IsSomeAnd (file_module files f) (λ its. module_items 0 given.module ≡ module_items 0 its)) (sym is)
      (subst (λ o. IsSomeAnd o (λ its. module_items 0 given.module ≡ module_items 0 its)) found refl);
}

-- texts that differ
differ : (path other : List ℕ) → (path ≡ other → ⊥) → bytes_eq path other ≡ false
differ path other apart = by (bytes_eq path other) refl
  where
    by : (b : Bool) → bytes_eq path other ≡ b → bytes_eq path other ≡ false
    by true is = absurd (apart ((bytes_eq-Decides path other).0 is))
    by false is = is

module _ (old new : BTreeMap (String Global) Module) (path : List ℕ) (updates : UpdatesBy string_cmp (λ k. slice_cmp nat_cmp path (string_bytes k)) old new None)
    (file : Name) (is : file ≡ real path) where
  -- each other file has the module that it had
  left : (other : Name) → other ≢ file → file_module new other ≡ file_module old other
  left (custom text) apart = refl
  left (real text) apart =
      btree_map_updates_text path old new None updates text
      ∙ cond-false (bytes_eq path text) None (get_by_text old text) (differ path text (λ same. apart (ap real (sym same) ∙ sym is)))

  pub still_gives : (other : Name) (given : ModuleData) → other ≢ file → GivesModule new other given → GivesModule old other given
  still_gives other given apart its = record {
    name = its.name;
    tree = subst (λ o. IsSomeAnd o (λ its_tree. module_items 0 given.module ≡ module_items 0 its_tree)) (left other apart) its.tree;
  }

  pub still_lacks : (other : Name) → other ≢ file → LacksModule new other → LacksModule old other
  still_lacks other apart its = record { none = sym (left other apart) ∙ its.none }

-- ---- lists

-- one place more
pub zip_more : {A B : Type 0} (R : A → B → Type 0) (xs : List A) (ys : List B) (x : A) (y : B) → AllZip R xs ys → R x y → AllZip R (xs ++ x ∷ []) (ys ++ y ∷ [])
zip_more R [] [] x y all here = (here, tt)
zip_more R [] (b ∷ ys) x y all here = absurd all
zip_more R (a ∷ xs) [] x y all here = absurd all
zip_more R (a ∷ xs) (b ∷ ys) x y all here = (all.0, zip_more R xs ys x y all.1 here)

-- one value more, seen as data
pub values_more : {Y : Type 0} (R : Data → Y → Type 0) (values : List (Value Global)) (ys : List Y) (i : ℕ) (value : Value Global) (y : Y) → i < length values → value ≡ get_or values i value → AllZip R (map seen (take i values)) ys → R (seen value) y
    → AllZip R (map seen (take (i + 1) values)) (ys ++ y ∷ [])
values_more R values ys i value y inside is all here =
    let front : take (i + 1) values ≡ take i values ++ value ∷ [] = take_more values i value inside ∙ ap (λ it. take i values ++ it ∷ []) (sym is) in
    rw (front, map-append seen (take i values) (value ∷ [])) (zip_more R _ ys (seen value) y all here)

-- the items of an array, seen one by one
pub each_seen : (values : List (Value Global)) → plain_items (items_view values) ≡ items_of (map seen values)
each_seen [] = refl
each_seen (value ∷ values) = ap (item (seen value)) (each_seen values)

-- the items that were found are those of the array
pub array_found : (d : Data) (list : List (Value Global)) → Some (items_seen list) ≡ as_array d → d ≡ array (items_of (map seen list))
array_found null list e = absurd (cc)
array_found (boolean b) list e = absurd (cc)
array_found (number n) list e = absurd (cc)
array_found (string s) list e = absurd (cc)
array_found (array ds) list e = let same : items_seen list ≡ ds = (cc) in ap array (sym same ∙ each_seen list)
array_found (object ms) list e = absurd (cc)

pub seen_object : (list : Vec (Bor (List ℕ) × Value Global) Global) → seen (Object list) ≡ object (plain_members (members_view list.items) no_members)
seen_object list = ap plain (view-Object list)

-- ---- maps

-- the same name, and what is asked of the value
abbrev pub Named : {X : Type 0} → (Data → X → Type 0) → String Global × Data → String Global × X → Type 0
Named R m x = (string_bytes m.0 ≡ string_bytes x.0) × R m.1 x.1

-- the members stand one by one for the entries of a map
abbrev pub AreEntries : {X : Type 0} → (Data → X → Type 0) → List (String Global × X) → Members → Type 0
AreEntries R xs ms = (them : List (String Global × Data)) × (ms ≡ members_of them) × AllZip (Named R) them xs

pub no_entry : {X : Type 0} (R : Data → X → Type 0) → AreEntries R [] no_members
no_entry R = ([], refl, tt)

pub is_map : {X : Type 0} (R : Data → X → Type 0) (xs : List (String Global × X)) (ms : Members) → AreEntries R xs ms → IsMap R xs (object ms)
is_map R xs ms are = (are.0, ap object are.1, are.2)

put_at : (o : Ordering) (a b c : List (String Global × Data)) → members_of (match_ordering o a b c) ≡ match_ordering o (members_of a) (members_of b) (members_of c)
put_at Less a b c = refl
put_at Equal a b c = refl
put_at Greater a b c = refl

put_entry : (them : List (String Global × Data)) (k : String Global) (d : Data) → members_of (insert_entry string_cmp them k d) ≡ put (string_bytes k) d (members_of them)
put_entry [] k d = refl
put_entry (m ∷ them) k d = put_at (string_cmp k m.0) _ _ _ ∙ rw (put_entry them k d)

zip_at : {A B : Type 0} (R : A → B → Type 0) (o : Ordering) (a b c : List A) (x y z : List B) → AllZip R a x → AllZip R b y → AllZip R c z → AllZip R (match_ordering o a b c) (match_ordering o x y z)
zip_at R Less a b c x y z less equal greater = less
zip_at R Equal a b c x y z less equal greater = equal
zip_at R Greater a b c x y z less equal greater = greater

zip_put : {X : Type 0} (R : Data → X → Type 0) (them : List (String Global × Data)) (xs : List (String Global × X)) (k : String Global) (d : Data) (x : X) → AllZip (Named R) them xs → R d x
    → AllZip (Named R) (insert_entry string_cmp them k d) (insert_entry string_cmp xs k x)
zip_put R [] [] k d x all here = ((refl, here), tt)
zip_put R [] (y ∷ xs) k d x all here = absurd all
zip_put R (m ∷ them) [] k d x all here = absurd all
zip_put R (m ∷ them) (y ∷ xs) k d x all here =
    let same : string_cmp k m.0 ≡ string_cmp k y.0 = ap (slice_cmp nat_cmp (string_bytes k)) all.0.0 in
    rw same (zip_at (Named R) (string_cmp k y.0) _ _ _ _ _ _ ((refl, here), all) ((all.0.0, here), all.1) (all.0, zip_put R them xs k d x all.1 here))

-- one member is put in
pub entry_put : {X : Type 0} (R : Data → X → Type 0) (xs new : List (String Global × X)) (ms : Members) (key : List ℕ) (k : String Global) (d : Data) (x : X) → AreEntries R xs ms → string_bytes k ≡ key → R d x
    → new ≡ insert_entry string_cmp xs k x → AreEntries R new (put key d ms)
entry_put R xs new ms key k d x are named here is =
    (insert_entry string_cmp are.0 k d, ap (put key d) are.1 ∙ ap (λ it. put it d (members_of are.0)) (sym named) ∙ sym (put_entry are.0 k d), subst (AllZip (Named R) (insert_entry string_cmp are.0 k d)) (sym is) (zip_put R are.0 xs k d x are.2 here))

-- The last member of each key.

abbrev pub Entry : Type 0
Entry = Bor (List ℕ) × Bor (Value Global)

abbrev text_cmp : Bor (List ℕ) → Bor (List ℕ) → Ordering
text_cmp a b = slice_cmp nat_cmp a.now b.now

last_at : (o : Ordering) (a b c : List Entry) → last_members (match_ordering o a b c) ≡ match_ordering o (last_members a) (last_members b) (last_members c)
last_at Less a b c = refl
last_at Equal a b c = refl
last_at Greater a b c = refl

pub last_put : (es : List Entry) (k : Bor (List ℕ)) (v : Bor (Value Global)) → last_members (insert_entry text_cmp es k v) ≡ put k.now (seen v.now) (last_members es)
last_put [] k v = refl
last_put (e ∷ es) k v = last_at (text_cmp k e.0) _ _ _ ∙ rw (last_put es k v)

pub plain-then : (ms : List (Bor (List ℕ) × Value Global)) (m : Bor (List ℕ) × Value Global) (old : Members) → plain_members (members_view (ms ++ m ∷ [])) old ≡ put m.0.now (seen m.1) (plain_members (members_view ms) old)
plain-then [] m old = refl
plain-then (n ∷ ms) m old = plain-then ms m (put n.0.now (seen n.1) old)

-- one member more, the last of its key
pub last_turn : (all : List (Bor (List ℕ) × Value Global)) (i : ℕ) (m : Bor (List ℕ) × Value Global) (es new : List Entry) (v : Bor (Value Global)) → i < length all → m ≡ get_or all i m
    → last_members es ≡ plain_members (members_view (take i all)) no_members → v.now ≡ m.1 → new ≡ insert_entry text_cmp es m.0 v → last_members new ≡ plain_members (members_view (take (i + 1) all)) no_members
last_turn all i m es new v inside is so_far shown is_new =
    let front : take (i + 1) all ≡ take i all ++ m ∷ [] = take_more all i m inside ∙ ap (λ it. take i all ++ it ∷ []) (sym is) in
    ap last_members is_new ∙ last_put es m.0 v ∙ ap (put m.0.now (seen v.now)) so_far ∙ ap (λ x. put m.0.now (seen x) (plain_members (members_view (take i all)) no_members)) shown ∙ sym (plain-then (take i all) m no_members)
    ∙ ap (λ it. plain_members (members_view it) no_members) (sym front)

-- the same name, and what is asked of the value
abbrev pub Under : {X : Type 0} → (Data → X → Type 0) → Entry → String Global × X → Type 0
Under R m x = (m.0.now ≡ string_bytes x.0) × R (seen m.1.now) x.1

-- a key above all others goes last
insert_last : {X : Type 0} (es : List (String Global × X)) (k : String Global) (x : X) → AllByRecursion (λ e. string_cmp k e.0 ≡ Greater) es → insert_entry string_cmp es k x ≡ es ++ (k, x) ∷ []
insert_last [] k x above = refl
insert_last (e ∷ es) k x above = rw above.0 (ap (λ them. e ∷ them) (insert_last es k x above.1))

below_middle : (first : Entry) (done : List Entry) (e : Entry) (more : List Entry) → AllByRecursion (λ y. text_cmp first.0 y ≡ Less) (keys_of (done ++ e ∷ more)) → text_cmp first.0 e.0 ≡ Less
below_middle first [] e more below = below.0
below_middle first (m ∷ done) e more below = below_middle first done e more below.1

above_all : {X : Type 0} (R : Data → X → Type 0) (done : List Entry) (es : List (String Global × X)) (e : Entry) (more : List Entry) (k : String Global) → AllZip (Under R) done es
    → IsStrictlySortedBy text_cmp (keys_of (done ++ e ∷ more)) → e.0.now ≡ string_bytes k → AllByRecursion (λ it. string_cmp k it.0 ≡ Greater) es
unfolding IsStrictlySortedBy
above_all R [] [] e more k all sorted same = tt
above_all R [] (f ∷ es) e more k all sorted same = absurd all
above_all R (m ∷ done) [] e more k all sorted same = absurd all
above_all R (m ∷ done) (f ∷ es) e more k all sorted same =
    let above : slice_cmp nat_cmp e.0.now m.0.now ≡ Greater =
    nat_list_cmp_total.antisymm e.0.now m.0.now ∙ ap ordering_reverse (below_middle m done e more sorted.0) in
    let here : slice_cmp nat_cmp (string_bytes k) (string_bytes f.0) ≡ Greater = rw (sym same, sym all.0.0) above in
    (here, above_all R done es e more k all.1 sorted.1 same)

-- one member more
members_more : {X : Type 0} (R : Data → X → Type 0) (done : List Entry) (es new : List (String Global × X)) (e : Entry) (more : List Entry) (k : String Global) (x : X) → AllZip (Under R) done es
    → IsStrictlySortedBy text_cmp (keys_of (done ++ e ∷ more)) → e.0.now ≡ string_bytes k → R (seen e.1.now) x → new ≡ insert_entry string_cmp es k x → AllZip (Under R) (done ++ e ∷ []) new
members_more R done es new e more k x all sorted same here put =
    let last : new ≡ es ++ (k, x) ∷ [] = put ∙ insert_last es k x (above_all R done es e more k all sorted same) in
    rw last (zip_more (Under R) done es e (k, x) all (same, here))

-- one turn of a loop over members: those that are done, and those that are left
pub turn : {X : Type 0} (R : Data → X → Type 0) (all left more : List Entry) (es new : List (String Global × X)) (e : Entry) (k : String Global) (x : X)
    → (done : List Entry) × (all ≡ done ++ left) × AllZip (Under R) done es
    → left ≡ e ∷ more → IsStrictlySortedBy text_cmp (keys_of all) → e.0.now ≡ string_bytes k → R (seen e.1.now) x → new ≡ insert_entry string_cmp es k x
    → (done : List Entry) × (all ≡ done ++ more) × AllZip (Under R) done new
turn R all left more es new e k x before first sorted same here put =
    let done = before.0 in
    let split : all ≡ done ++ e ∷ more = before.1 ∙ ap (λ it. done ++ it) first in
    (done ++ e ∷ [], split ∙ sym (append_assoc done (e ∷ []) more), members_more R done es new e more k x before.2 (subst (λ it. IsStrictlySortedBy text_cmp (keys_of it)) split sorted) same here put)

-- the members one by one
pub each_named : {X : Type 0} (R : Data → X → Type 0) (es : List Entry) (xs : List (String Global × X)) → AllZip (Under R) es xs → AreEntries R xs (last_members es)
each_named R [] [] all = ([], refl, tt)
each_named R [] (x ∷ xs) all = absurd all
each_named R (e ∷ es) [] all = absurd all
each_named R (e ∷ es) (x ∷ xs) all =
    let rest = each_named R es xs all.1 in
    ((x.0, seen e.1.now) ∷ rest.0, ap (member e.0.now (seen e.1.now)) rest.1 ∙ ap (λ k. member k (seen e.1.now) (members_of rest.0)) all.0.0, ((refl, all.0.1), rest.2))

-- the map of the last member of each key
pub last_map : {X : Type 0} (R : Data → X → Type 0) (all left : List Entry) (xs : List (String Global × X)) → (done : List Entry) × (all ≡ done ++ left) × AllZip (Under R) done xs → left ≡ []
    → IsMap R xs (object (last_members all))
last_map R all left xs before none =
    let done = before.0 in
    let split : all ≡ done = before.1 ∙ ap (λ it. done ++ it) none ∙ append_nil done in
    is_map R xs (last_members all) (subst (λ it. AreEntries R xs (last_members it)) (sym split) (each_named R done xs before.2))
