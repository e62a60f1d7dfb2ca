-- The first of a list of entries that has the name or the file of one before it.
-- The files of the entries get their numbers, one after the other, and go on the load list.
-- How a call ends.
-- What stands on a load list was met and is kept, and stays so.
-- The numbers of the files on a load list, and where the requests of each lead, stay right as the list and what is kept grow.
-- Numbers of the entries' files stay as what is kept grows.
-- One more entry among those so far, by the sets of their names and files.
use Rattle.std.proofs.Common.{◌≡◌, ℕ, suc, zero, ◌+◌, ◌<◌, ◌≤◌, ◌⊎◌, Bool, true, false, not, ◌||◌, List, [], ◌∷◌, ◌++◌, length, slice_get, take, Some, Contains, map, refl, sym, ap, ◌∙◌, inl, inr, true≢false, arith, if◌then◌else◌, get_or, drop, subst, eqb, Result, Ok, Err, ◌^◌, None, append_assoc, nat_eq, Option, Bor, bytes_eq}
use Rattle.std.specs.List.{list_any, AllZip}
use Rattle.std.specs.Bool.{Decides}
use Rattle.std.proofs.lemmas.List.{map-append, drop_more, take_all, take_more, append-nil, length_push, map_push}
use Rattle.std.proofs.lemmas.Option.{slice_get_within, same_Some, slice_get-get_or, slice_get-map, get_or_from_slice_get}
use Rattle.std.specs.Option.{option_map}
use Rattle.std.proofs.Math.ListN.{drop_of_length-le}
use Rattle.std.specs.declared.alloc.Global.{Global}
use Rattle.std.specs.declared.string.String.{String}
use Rattle.std.specs.Prelude.{IfErr, IfSome}
use Rattle.std.specs.Result.{IsErrAnd}
use Rattle.std.specs.declared.vec.Vec.{Vec}
use Rattle.std.specs.Cmp.{nat_eq_equiv}
use Rattle.std.specs.String.{string_bytes}
use Rattle.std.proofs.lemmas.Bool.{eqb-true}
use Rattle.std.proofs.lemmas.List.Elements.{Contains-append_left, Contains-get_or, Contains-push, Contains-push_cases}
use Rattle.std.proofs.lemmas.List.Quantifiers.{position-Some}
use Rattle.std.proofs.lemmas.Map.Views.{Contains-from_any, list_any-from_Contains}
use Rattle.std.proofs.lemmas.Slice.Zip.{all_zipped_more}
use Rattle.std.proofs.lemmas.Slice.Eq.{bytes_eq-Decides}
use Rattle.indexmap.specs.IndexSet.{insert_key}
use Rattle.bundle_tree_names.specs.FileName.{Name, name_of, name_eq}
use Rattle.bundle_tree_names.proofs.Names.{place-Contains, slice_get-push_cases}
use Rattle.bundle_tree_names.specs.declared.file_name.FileName.{FileName}
use Rattle.bundle_tree_names.specs.declared.error.Error.{Error}
use Rattle.bundle_tree_names.specs.FileNameLaws.{name_eq-Decides}
use Rattle.bundle_tree_names.specs.ModuleIdGenerator.{IsDistinct}
use Rattle.bundle_order_graph.proofs.LeadLemmas.{before_or_at as below_more}
use Rattle.bundle_rules.specs.Judging
use Rattle.bundle_rules.specs.Judging.{Entry, IsDoubledEntry, AreDistinct, Outcome, GoesOn, Refused, Stopped, Numbers, NumbersEach, Grows, LoadsAll, Refuses, RefusesEntries, Stops, Completes, requests_in}
use Rattle.bundle_rules.specs.Kept.{Kept, Stays, kept_file, kept_module, number_in}
use Rattle.bundle_rules.specs.Faults.{Fault, Parties, fault_of, IsFaultless, DoubledEntry}
use Rattle.bundle_tree_ast.specs.declared.expr.Expr.{Expr}
use Rattle.bundle_tree_ast.specs.declared.prop.KeyValueProp.{KeyValueProp}
use Rattle.bundle_rules.specs.Entries.{Settings}
use Rattle.bundle_rules.specs.Headline.{Answer, Bundles, AnswersNothing, IsBundleOf, IsHeadline, IsRight}
use Rattle.bundle_rules.proofs.KeptLemmas.{stays}
use Rattle.bundle_rules.specs.Nodes.{Text}
use Rattle.bundle_rules.specs.Program.{Loaded}
use Rattle.bundle_tree.specs.declared.load.ModuleData.{ModuleData}
use Rattle.bundler_call.specs.Held.{file_named}
use Rattle.bundler_call.specs.KeptFiles.{asked_of}
use Rattle.bundler_call.specs.declared.kept.Request.{Request}
use Rattle.bundler_call.proofs.Holding.{push_cases as one_more_at}
use Rattle.bundle_link_index.specs.Numbered.{HasNoDoubles}
use Rattle.bundler_entry.specs.Unlinked.{error_of}
use Rattle.bundler_entry.specs.declared.unlinked.EntryError.{EntryError}
use Rattle.bundler_call.specs.Judged.{AreEntriesApart, parties_asked, refused_by, IsBundledFor, IsFaultOfList, IsFirstFaultTold, IsRefusalTold}
use Rattle.bundler_call.specs.Bundler.{entry_files, HasFileNumber}
use Rattle.bundler_call.specs.Kept.{entry_of, parties_of, IsFileMet, IsKept}
use Rattle.bundler_call.specs.Loading.{GoesLast, AreMet, AreFilesSound, BeginsList, IsFileSound, AllLead, IsAsked, RequestLeads}
use Rattle.bundler_call.specs.Answer.{answer_told, bundled_of, refusal_of}
use Rattle.bundler_call.specs.Linking.{IsRefusalOfEntries, LacksEntryContexts}
use Rattle.bundler_call.specs.declared.bundle.Bundle.{Bundle}
use Rattle.bundler_call.proofs.Growing.{handed_on, asked_same, as_before, loads_all_as, told_by, told_or, still_met, still_sound, found, still_file, still_module, still_numbered}

-- ---- doubling

-- Places among the first elements of a list.

module _ {E : Type 0} where
  pub take_at : (i : ℕ) (es : List E) (k : ℕ) (e : E) → slice_get (take i es) k ≡ Some e → (k < i) × (slice_get es k ≡ Some e)
  take_at zero es k e at = cc
  take_at (suc i) [] k e at = cc
  take_at (suc i) (x ∷ es) zero e at = let less : zero < suc i = omega arith in (less, at)
  take_at (suc i) (x ∷ es) (suc k) e at = let rest = take_at i es k e at in let less : suc k < suc i = omega (arith, rest.0) in (less, rest.1)

  pub at_take : (i : ℕ) (es : List E) (k : ℕ) (e : E) → k < i → slice_get es k ≡ Some e → slice_get (take i es) k ≡ Some e
  at_take zero es k e less at = let no : ⊥ = omega (arith, less) in absurd no
  at_take (suc i) [] k e less at = at
  at_take (suc i) (x ∷ es) zero e less at = at
  at_take (suc i) (x ∷ es) (suc k) e less at = let fewer : k < i = omega (arith, less) in at_take i es k e fewer at

-- Sets of what is read of the elements so far.

module _ {E K X : Type 0} (eq : K → K → Bool) (decides : (a b : K) → Decides (eq a b) (a ≡ b)) (f : E → K) (read : X → K) where
  -- a key that is found is that of an element
  found_at : (x : K) (es : List E) → list_any (eq x) (map f es) ≡ true → (i : ℕ) × (e : E) × (slice_get es i ≡ Some e) × (f e ≡ x)
  found_at x [] is = absurd (true≢false (sym is))
  found_at x (e ∷ es) is = by (eq x (f e)) refl is (found_at x es)
    where
      by : (b : Bool) → eq x (f e) ≡ b → (b || list_any (eq x) (map f es)) ≡ true → (list_any (eq x) (map f es) ≡ true → (i : ℕ) × (d : E) × (slice_get es i ≡ Some d) × (f d ≡ x)) → (i : ℕ) × (d : E) × (slice_get (e ∷ es) i ≡ Some d) × (f d ≡ x)
      by true test h further = (zero, e, refl, sym ((decides x (f e)).0 test))
      by false test h further = let rest = further h in (suc rest.0, rest.1, rest.2, rest.3)

  -- a key that is not found is that of none
  none_at : (x : K) (es : List E) → list_any (eq x) (map f es) ≡ false → (i : ℕ) (e : E) → slice_get es i ≡ Some e → f e ≡ x → ⊥
  none_at x [] is i e at same = cc
  none_at x (d ∷ es) is i e at same = by (eq x (f d)) refl is i at (none_at x es)
    where
      by : (b : Bool) → eq x (f d) ≡ b → (b || list_any (eq x) (map f es)) ≡ false → (i : ℕ) → slice_get (d ∷ es) i ≡ Some e → (list_any (eq x) (map f es) ≡ false → (j : ℕ) (g : E) → slice_get es j ≡ Some g → f g ≡ x → ⊥) → ⊥
      by true test h j there further = true≢false h
      by false test h zero there further = true≢false (sym ((decides x (f d)).1 (sym (ap f (same_Some d e there) ∙ same))) ∙ test)
      by false test h (suc j) there further = further h j e there same

  any_read : (x : K) (keys : List X) → list_any (λ (y : X). eq x (read y)) keys ≡ list_any (eq x) (map read keys)
  any_read x [] = refl
  any_read x (y ∷ keys) = ap (λ b. eq x (read y) || b) (any_read x keys)

  module _ (keys : List X) (x : K) (r : Bool) (es : List E) (is : r ≡ not (list_any (λ (y : X). eq x (read y)) keys)) (so_far : map read keys ≡ map f es) where
    any_is : list_any (λ (y : X). eq x (read y)) keys ≡ list_any (eq x) (map f es)
    any_is = any_read x keys ∙ ap (list_any (eq x)) so_far

    -- what was there before is that of an element
    pub known_at : r ≡ false → (i : ℕ) × (e : E) × (slice_get es i ≡ Some e) × (f e ≡ x)
    known_at known = found_at x es (sym any_is ∙ not_false _ (sym is ∙ known))
      where
        not_false : (b : Bool) → not b ≡ false → b ≡ true
        not_false true h = refl
        not_false false h = absurd (true≢false h)

    not_true : (b : Bool) → not b ≡ true → b ≡ false
    not_true true h = absurd (true≢false (sym h))
    not_true false h = refl

    -- what is new is that of none
    pub new_at : r ≡ true → (i : ℕ) (e : E) → slice_get es i ≡ Some e → f e ≡ x → ⊥
    new_at fresh = none_at x es (sym any_is ∙ not_true _ (sym is ∙ fresh))

    -- and goes last
    pub keys_more : (new : List X) (k : X) → read k ≡ x → r ≡ true → new ≡ insert_key (λ (a b : X). eq (read a) (read b)) keys k → map read new ≡ map f es ++ x ∷ []
    keys_more new k same fresh put =
        let absent : list_any (λ (y : X). eq (read k) (read y)) keys ≡ false = ap (λ z. list_any (λ (y : X). eq z (read y)) keys) same ∙ not_true _ (sym is ∙ fresh) in
        ap (map read) (put ∙ ap (λ b. if b then keys else keys ++ k ∷ []) absent) ∙ map-append read keys (k ∷ []) ∙ ap (λ l. l ++ read k ∷ []) so_far ∙ ap (λ z. map f es ++ z ∷ []) same

-- Entries.

-- no two of the entries before this place have one name or one file
abbrev pub AreApartBefore : List Entry → ℕ → Type 0
AreApartBefore es n = (i j : ℕ) (a b : Entry) → i < j → j < n → slice_get es i ≡ Some a → slice_get es j ≡ Some b → (a.name ≡ b.name) ⊎ (a.file ≡ b.file) → ⊥

module _ (es : List Entry) where
  pub apart_all : (n : ℕ) → length es ≤ n → AreApartBefore es n → AreEntriesApart es
  apart_all n all apart i j a b before at there same =
      let inside : j < length es = slice_get_within es j b there in
      let within : j < n = omega (arith, inside, all) in
      apart i j a b before within at there same

  pub apart_distinct : AreEntriesApart es → AreDistinct es
  apart_distinct apart later d = apart d.i d.j d.earlier later d.before d.first_there d.later_there d.same

  module _ (n : ℕ) (it : Entry) (here : slice_get es n ≡ Some it) where
    -- one more
    pub apart_more : ((i : ℕ) (e : Entry) → slice_get (take n es) i ≡ Some e → (e.name ≡ it.name) → ⊥) → ((i : ℕ) (e : Entry) → slice_get (take n es) i ≡ Some e → (e.file ≡ it.file) → ⊥) → AreApartBefore es n → AreApartBefore es (n + 1)
    apart_more names files apart i j a b before within at there same = by (below j n within)
      where
        below : (k m : ℕ) → k < m + 1 → (k < m) ⊎ (k ≡ m)
        below zero zero less = inr refl
        below zero (suc m) less = let more : zero < suc m = omega arith in inl more
        below (suc k) zero less = let no : ⊥ = omega (arith, less) in absurd no
        below (suc k) (suc m) less =
            let fewer : k < m + 1 = omega (arith, less) in
            elim (below k m fewer) [ inl x ↦ (let more : suc k < suc m = omega (arith, x) in inl more) | inr e ↦ inr (ap suc e) ]

        by : (j < n) ⊎ (j ≡ n) → ⊥
        by (inl less) = apart i j a b before less at there same
        by (inr is) =
            let last : b ≡ it = same_Some b it (sym there ∙ ap (slice_get es) is ∙ here) in
            let less : i < n = omega (arith, before, is) in
            let front : slice_get (take n es) i ≡ Some a = at_take n es i a less at in
            elim same [ inl name ↦ names i a front (name ∙ ap (λ (e : Entry). e.name) last) | inr file ↦ files i a front (file ∙ ap (λ (e : Entry). e.file) last) ]

    -- this one is the first
    pub first_doubled : (k : ℕ) (e : Entry) → slice_get (take n es) k ≡ Some e → (e.name ≡ it.name) ⊎ (e.file ≡ it.file) → AreApartBefore es n → IsDoubledEntry es it
    first_doubled k e at same apart =
        let front = take_at n es k e at in
        record { i = k; j = n; earlier = e; before = front.0; first_there = front.1; later_there = here; same = same; none_before = λ i j a b before within first second alike. apart i j a b before within first second alike }

  -- a file that is put on a list of the files of the entries before it goes last
  pub fresh_file : (n : ℕ) (it : Entry) → slice_get es n ≡ Some it → AreEntriesApart es → Contains (map (λ (e : Entry). e.file) (take n es)) it.file → ⊥
  fresh_file n it here apart there =
      let place = place-Contains (map (λ (e : Entry). e.file) (take n es)) it.file there in
      let found = read_at (take n es) place.0 it.file place.1 in
      let front = take_at n es place.0 found.0 found.1 in
      apart place.0 n found.0 it front.0 front.1 here (inr found.2)
    where
      read_at : (xs : List Entry) (i : ℕ) (file : Name) → slice_get (map (λ (e : Entry). e.file) xs) i ≡ Some file → (e : Entry) × (slice_get xs i ≡ Some e) × (e.file ≡ file)
      read_at [] i file at = cc
      read_at (x ∷ xs) zero file at = (x, refl, same_Some x.file file at)
      read_at (x ∷ xs) (suc i) file at = read_at xs i file at

-- ---- counting

-- what is numbered from here on, is numbered of the whole
abbrev pub NumbersOn : (files rest : List Name) → (old now : Kept) → Type 0
NumbersOn files rest old now = (outcome : Outcome) (last : Kept) → NumbersEach now rest outcome last → NumbersEach old files outcome last

-- one more
pub numbers_next : (files rest left : List Name) (file : Name) (old now new : Kept) → rest ≡ file ∷ left → NumbersOn files rest old now → Numbers now file GoesOn new → NumbersOn files left old new
numbers_next files rest left file old now new is on its = λ outcome last more.
    on outcome last (subst (λ x. NumbersEach now x outcome last) (sym is) (Judging.next its more))

-- a refusal
pub numbers_stop : (files rest left : List Name) (file : Name) (old now new : Kept) (f : Fault) → rest ≡ file ∷ left → NumbersOn files rest old now → Numbers now file (Refused f) new → NumbersEach old files (Refused f) new
numbers_stop files rest left file old now new f is on its =
    on (Refused f) new (subst (λ x. NumbersEach now x (Refused f) new) (sym is) (Judging.refused its))

-- a growth is refused, and nothing is another
pub numbers_stopped : (files rest : List Name) (old now new : Kept) → NumbersOn files rest old now → new ≡ now → NumbersEach old files Stopped new
numbers_stopped files rest old now new on same =
    on Stopped new (subst (λ x. NumbersEach now rest Stopped x) (sym same) Judging.NumbersEach.stopped)

-- the end
pub numbers_end : (files : List Name) (i : ℕ) (old now : Kept) → length files ≤ i → NumbersOn files (drop i files) old now → NumbersEach old files GoesOn now
numbers_end files i old now past on = on GoesOn now (subst (λ x. NumbersEach now x GoesOn now) (sym (drop_of_length-le files past)) Judging.over)

-- The entries.

pub long : {X Y : Type 0} (f : X → Y) (xs : List X) → length (map f xs) ≡ length xs
long f [] = refl
long f (x ∷ xs) = let rest : length (map f xs) ≡ length xs = long f xs in omega (arith, rest)

read_front : (i : ℕ) (xs : List (String Global × FileName)) → take i (map (λ (e : String Global × FileName). name_of e.1) xs) ≡ map (λ (e : Entry). e.file) (take i (map entry_of xs))
read_front zero xs = refl
read_front (suc i) [] = refl
read_front (suc i) (x ∷ xs) = ap (λ l. name_of x.1 ∷ l) (read_front i xs)

module _ (entries : List (String Global × FileName)) where
  pub as_many_files : (i : ℕ) → length entries ≤ i → length (entry_files entries) ≤ i
  as_many_files i past = let same : length (entry_files entries) ≡ length entries = long (λ e. name_of e.1) entries in omega (arith, same, past)

  pub as_many_entries : (i : ℕ) → length entries ≤ i → length (map entry_of entries) ≤ i
  as_many_entries i past = let same : length (map entry_of entries) ≡ length entries = long entry_of entries in omega (arith, same, past)

  module _ (i : ℕ) (entry : String Global × FileName) (within : i < length entries) (at : get_or entries i entry ≡ entry) where
    -- the entry at a place
    pub entry_at : slice_get (map entry_of entries) i ≡ Some (entry_of entry)
    entry_at = slice_get-map entry_of entries i ∙ ap (option_map entry_of) (slice_get-get_or entries i entry within ∙ ap Some at)

    file_at : get_or (entry_files entries) i (name_of entry.1) ≡ name_of entry.1
    file_at = read_at entries i ∙ ap (λ (e : String Global × FileName). name_of e.1) at
      where
        read_at : (xs : List (String Global × FileName)) (n : ℕ) → get_or (map (λ (e : String Global × FileName). name_of e.1) xs) n (name_of entry.1) ≡ name_of (get_or xs n entry).1
        read_at [] n = refl
        read_at (x ∷ xs) zero = refl
        read_at (x ∷ xs) (suc n) = read_at xs n

    -- the files from there on
    pub files_from : drop i (entry_files entries) ≡ name_of entry.1 ∷ drop (i + 1) (entry_files entries)
    files_from =
        let same : length (entry_files entries) ≡ length entries = long (λ e. name_of e.1) entries in
        let inside : i < length (entry_files entries) = omega (arith, same, within) in
        drop_more (entry_files entries) i (name_of entry.1) inside ∙ ap (λ x. x ∷ drop (i + 1) (entry_files entries)) file_at

    -- the list begins with the files of the entries before it
    pub listed_more : (old new : List Name) → GoesLast old (name_of entry.1) new → (AreEntriesApart (map entry_of entries) → old ≡ take i (entry_files entries)) → AreEntriesApart (map entry_of entries) → new ≡ take (i + 1) (entry_files entries)
    listed_more old new (inl (there, same)) so_far apart =
        absurd (fresh_file (map entry_of entries) i (entry_of entry) entry_at apart (subst (λ files. Contains files (name_of entry.1)) (so_far apart ∙ read_front i entries) there))
    listed_more old new (inr (fresh, more)) so_far apart =
        let same : length (entry_files entries) ≡ length entries = long (λ e. name_of e.1) entries in
        let inside : i < length (entry_files entries) = omega (arith, same, within) in
        more ∙ ap (λ l. l ++ name_of entry.1 ∷ []) (so_far apart) ∙ ap (λ x. take i (entry_files entries) ++ x ∷ []) (sym file_at) ∙ sym (take_more (entry_files entries) i (name_of entry.1) inside)

  -- at the end it is that of all
  pub listed_all : (i : ℕ) (list : List Name) → length entries ≤ i → (AreEntriesApart (map entry_of entries) → list ≡ take i (entry_files entries)) → AreEntriesApart (map entry_of entries) → list ≡ entry_files entries
  listed_all i list past so_far apart = so_far apart ∙ take_all i (entry_files entries) (as_many_files i past)

-- the files are those of the definitions
pub same_files : (entries : List (String Global × FileName)) → Judging.files_of (map entry_of entries) ≡ entry_files entries
same_files [] = refl
same_files (x ∷ xs) = ap (λ l. name_of x.1 ∷ l) (same_files xs)

-- ---- ending

-- why there is no bundle: the first fault in the order of judging, or that contexts do not suffice; or want of memory, where so much is kept as was kept on the way
abbrev pub IsRefusedBy : Parties → Settings → List Entry → (old new : Kept) → Error → Type 0
IsRefusedBy parties settings entries old new refusal =
    IsRight parties settings entries old (refusal_of (fault_of refusal)) new

-- what is loaded without regard to a hook, by a loader and a resolver as they were
module _ {L R : Type 0} (may_load : L → Name → ModuleData → Type 0) (may_fail_load : L → Name → Type 0) (may_resolve : R → Name → List ℕ → Name → Type 0) (may_fail_resolve : R → Name → List ℕ → Type 0) (may_give : Name → Bool → List (KeyValueProp Expr) → Type 0) (may_fail_hook : Name → Bool → Type 0) (settings : Settings) where
  pub with_hook : (l l1 : L) (r r1 : R) (list : List Name) (i : ℕ) (old new : Kept) (o : Outcome) → l1 ≡ l → r1 ≡ r → LoadsAll (parties_asked may_load may_fail_load may_resolve may_fail_resolve l1 r1) settings list i old o new
      → LoadsAll (parties_of (may_load l) (may_fail_load l) (may_resolve r) (may_fail_resolve r) may_give may_fail_hook) settings list i old o new
  with_hook l l1 r r1 list i old new o loader resolver loads =
      loads_all_as (parties_asked may_load may_fail_load may_resolve may_fail_resolve l r) (parties_of (may_load l) (may_fail_load l) (may_resolve r) (may_fail_resolve r) may_give may_fail_hook) settings (λ file answer may. may) (λ file may. may) (λ asked file may. may) (λ asked may. may) list i old new o
      (as_before (λ x y. LoadsAll (parties_asked may_load may_fail_load may_resolve may_fail_resolve x y) settings list i old o new) l l1 r r1 loader resolver loads)

module _ (parties : Parties) (settings : Settings) where
  -- where all is loaded, a growth may be refused yet
  loads_stopped : (list : List Name) (i : ℕ) (old new : Kept) (o : Outcome) → LoadsAll parties settings list i old o new → o ≡ GoesOn → LoadsAll parties settings list i old Stopped new
  loads_stopped list i old new o Judging.LoadsAll.over is = Judging.LoadsAll.stopped
  loads_stopped list i old new o (Judging.not_loaded there its) is = cc
  loads_stopped list i old new o (Judging.faulty there its kept first) is = cc
  loads_stopped list i old new o (Judging.not_resolved there its kept none asks) is = cc
  loads_stopped list i old new o (Judging.goes_on there its kept none asks more) is = Judging.goes_on there its kept none asks (loads_stopped _ _ _ new o more is)
  loads_stopped list i old new o Judging.LoadsAll.stopped is = cc
  loads_stopped list i old new o (Judging.stopped_loaded there its) is = cc
  loads_stopped list i old new o (Judging.stopped_asking there its kept none asks) is = cc

  pub completed_stops : (entries : List Entry) (old new : Kept) → Completes parties settings entries old new → Stops parties settings entries old new
  completed_stops entries old new done =
      Judging.Stops.by_loading done.distinct done.numbered (loads_stopped (Judging.files_of entries) 0 done.next new GoesOn done.loaded refl)

  -- no entry
  pub completes_none : (kept : Kept) (entries : List (String Global × FileName)) → entries ≡ [] → Completes parties settings (map entry_of entries) kept kept
  completes_none kept entries none =
      let nothing : Completes parties settings [] kept kept = record { distinct = λ later doubled. never later doubled; next = kept; numbered = Judging.over; loaded = Judging.over } in
      subst (λ (x : List (String Global × FileName)). Completes parties settings (map entry_of x) kept kept) (sym none) nothing
    where
      never : (later : Entry) → IsDoubledEntry [] later → ⊥
      never later doubled = let at = doubled.first_there in cc

  module _ (entries : List (String Global × FileName)) (apart : AreEntriesApart (map entry_of entries)) (old next new : Kept) where
    -- all is loaded
    pub completes : (list : List Name) → NumbersEach old (entry_files entries) GoesOn next → list ≡ entry_files entries → LoadsAll parties settings list 0 next GoesOn new → Completes parties settings (map entry_of entries) old new
    completes list numbered is loads = record {
      distinct = apart_distinct (map entry_of entries) apart;
      next = next;
      numbered = subst (λ files. NumbersEach old files GoesOn next) (sym (same_files entries)) numbered;
      loaded = subst (λ files. LoadsAll parties settings files 0 next GoesOn new) (is ∙ sym (same_files entries)) loads;
    }

    module _ {T : Type 0} (result : Result T Error) (e : Error) (is : IsErrAnd result (λ x. x ≡ e)) where
      -- a file gets no number
      pub refused_number : NumbersEach old (entry_files entries) (refused_by (fault_of e)) new → IfErr result (IsRefusalTold parties settings (map entry_of entries) old new)
      refused_number told =
          handed_on result e (IsRefusalTold parties settings (map entry_of entries) old new) is
          (told_by (fault_of e) (λ o. NumbersEach old (Judging.files_of (map entry_of entries)) o new) (IsFirstFaultTold parties settings (map entry_of entries) old new)
          (λ f numbers. Judging.Refuses.by_number (apart_distinct (map entry_of entries) apart) numbers)
          (λ numbers. Judging.Stops.by_number (apart_distinct (map entry_of entries) apart) numbers)
          (subst (λ files. NumbersEach old files (refused_by (fault_of e)) new) (sym (same_files entries)) told))

      -- a file is not loaded, is at fault by itself, or one of its requests is refused
      pub refused_loading : (list : List Name) → NumbersEach old (entry_files entries) GoesOn next → list ≡ entry_files entries → LoadsAll parties settings list 0 next (refused_by (fault_of e)) new → IfErr result (IsRefusalTold parties settings (map entry_of entries) old new)
      refused_loading list numbers same told =
          let numbered : NumbersEach old (Judging.files_of (map entry_of entries)) GoesOn next = subst (λ files. NumbersEach old files GoesOn next) (sym (same_files entries)) numbers in
          handed_on result e (IsRefusalTold parties settings (map entry_of entries) old new) is
          (told_by (fault_of e) (λ o. LoadsAll parties settings (Judging.files_of (map entry_of entries)) 0 next o new) (IsFirstFaultTold parties settings (map entry_of entries) old new)
          (λ f loads. Judging.Refuses.by_loading (apart_distinct (map entry_of entries) apart) numbered loads)
          (λ loads. Judging.Stops.by_loading (apart_distinct (map entry_of entries) apart) numbered loads)
          (subst (λ files. LoadsAll parties settings files 0 next (refused_by (fault_of e)) new) (same ∙ sym (same_files entries)) told))

  -- an entry doubles another
  pub refused_list : {T : Type 0} (result : Result T Error) (e : Error) (entries : List (String Global × FileName)) (old : Kept) → IsErrAnd result (λ x. x ≡ e) → IfSome (fault_of e) (IsFaultOfList (map entry_of entries)) → IfErr result (IsRefusalTold parties settings (map entry_of entries) old old)
  refused_list result e entries old is told =
      handed_on result e (IsRefusalTold parties settings (map entry_of entries) old old) is
      (told_or (fault_of e) (IsFaultOfList (map entry_of entries)) (IsFirstFaultTold parties settings (map entry_of entries) old old) (λ f (later, doubled, same). subst (λ x. Refuses parties settings (map entry_of entries) old x old) (sym same) (Judging.by_list later doubled)) Judging.at_once told)

  -- an entry is refused, or contexts do not suffice
  linking : (entries : List Entry) (old new : Kept) → Completes parties settings entries old new → (unlinked : EntryError) → IsRefusalOfEntries parties settings new entries unlinked → IsRefusedBy parties settings entries old new (error_of unlinked)
  linking entries old new done unlinked told =
      told_or (fault_of (error_of unlinked)) (λ fault. RefusesEntries new settings parties entries fault ⊎ LacksEntryContexts new settings parties entries fault) (λ told. IsRight parties settings entries old (refusal_of told) new) (λ fault why. elim why [
        | inl refuses ↦ inl (Judging.by_entry done.distinct done.numbered done.loaded refuses)
        | inr lacks ↦ inr (record {
          completes = done;
          i = lacks.i;
          entry = lacks.entry;
          there = lacks.there;
          accepted_before = lacks.accepted_before;
          p = lacks.p;
          its_program = lacks.its_program;
          accepted = lacks.accepted;
          m = lacks.contexts.m;
          named = lacks.contexts.named;
          file = lacks.contexts.file;
          its_file = lacks.contexts.its_file;
          is = lacks.contexts.is;
          too_many = lacks.contexts.too_many;
        })
      ]) (completed_stops entries old new done) told

  pub refused_linking : {T : Type 0} (result : Result T Error) (entries : List Entry) (old new : Kept) (unlinked : EntryError) → IsErrAnd result (λ x. x ≡ error_of unlinked) → Completes parties settings entries old new → IsRefusalOfEntries parties settings new entries unlinked → IfErr result (IsRefusedBy parties settings entries old new)
  refused_linking result entries old new unlinked is done told =
      handed_on result (error_of unlinked) (IsRefusedBy parties settings entries old new) is (linking entries old new done unlinked told)

-- some entry is there where the list is not empty
pub some_entry : (xs ys : List (String Global × FileName)) (n : ℕ) (test : Bool) → n ≡ length xs → test ≡ eqb n 0 → test ≡ false → ys ≡ xs → 0 < length ys
some_entry [] ys n test counted is off same = absurd (true≢false (sym (is ∙ ap (λ k. eqb k 0) counted) ∙ off))
some_entry (x ∷ xs) ys n test counted is off same = let long : length ys ≡ suc (length xs) = ap length same in omega (arith, long)

-- The headline.

module _ (parties : Parties) (settings : Settings) where
  -- bundles one by one, in the words of the definitions
  all_bundled : (kept : Kept) (entries : List (String Global × FileName)) (bundles : List Bundle) → AllZip (IsBundledFor parties settings kept) entries bundles → AllZip (IsBundleOf parties settings kept) (map bundled_of bundles) (map entry_of entries)
  all_bundled kept [] [] all = tt
  all_bundled kept [] (bundle ∷ bundles) all = absurd all
  all_bundled kept (entry ∷ entries) [] all = absurd all
  all_bundled kept (entry ∷ entries) (bundle ∷ bundles) all = (all.0, all_bundled kept entries bundles all.1)

  module _ (entries : List (String Global × FileName)) (old new : Kept) where
    right_headline : (answer : Answer) → Grows parties.answers settings (entry_files entries) old new → IsRight parties settings (map entry_of entries) old answer new → IsHeadline parties settings (map entry_of entries) old answer new
    right_headline answer grows right = record {
      right = right;
      grows = subst (λ files. Grows parties.answers settings files old new) (sym (same_files entries)) grows;
      stays = stays parties.answers settings (entry_files entries) old new grows;
    }

    -- bundles
    pub bundled_headline : (bundles : List Bundle) → Grows parties.answers settings (entry_files entries) old new → Completes parties settings (map entry_of entries) old new → AllZip (IsBundledFor parties settings new) entries bundles → IsHeadline parties settings (map entry_of entries) old (Bundles (map bundled_of bundles)) new
    bundled_headline bundles grows done all = right_headline (Bundles (map bundled_of bundles)) grows (done, all_bundled new entries bundles all)

    -- a refusal
    pub refused_headline : (result : Result (Vec Bundle Global) Error) (e : Error) → IsErrAnd result (λ x. x ≡ e) → Grows parties.answers settings (entry_files entries) old new → IfErr result (IsRefusedBy parties settings (map entry_of entries) old new) → IsHeadline parties settings (map entry_of entries) old (answer_told result) new
    refused_headline (Ok bundles) e is grows why = absurd is
    refused_headline (Err refusal) e is grows why = right_headline (refusal_of (fault_of refusal)) grows why

  -- no entry
  pub empty_headline : (entries : List (String Global × FileName)) (bundles : List Bundle) (kept : Kept) → entries ≡ [] → bundles ≡ [] → IsHeadline parties settings (map entry_of entries) kept (Bundles (map bundled_of bundles)) kept
  empty_headline entries bundles kept none nothing =
      bundled_headline entries kept kept bundles Judging.same (completes_none parties settings kept entries none)
      (subst (λ xs. AllZip (IsBundledFor parties settings kept) xs bundles) (sym none) (subst (λ xs. AllZip (IsBundledFor parties settings kept) [] xs) (sym nothing) tt))

-- no entry is answered by no bundle
pub answers_none : (bundles : List Bundle) (kept : Kept) → bundles ≡ [] → AnswersNothing kept (Bundles (map bundled_of bundles)) kept
answers_none bundles kept nothing = record { none = ap (λ xs. Bundles (map bundled_of xs)) nothing; same = refl }

-- ---- loading

-- Lists.

pub begins_refl : (xs : List Name) → BeginsList xs xs
begins_refl xs = ([], sym (append-nil xs))

pub begins_trans : (xs ys zs : List Name) → BeginsList xs ys → BeginsList ys zs → BeginsList xs zs
begins_trans xs ys zs a b = (a.0 ++ b.0, b.1 ∙ ap (λ l. l ++ b.0) a.1 ∙ append_assoc xs a.0 b.0)

-- a list that is the same begins with what it began with
pub begins_along : (old mid new : List Name) → BeginsList old mid → new ≡ mid → BeginsList old new
begins_along old mid new begins same = (begins.0, same ∙ begins.1)

-- so does one with a file behind it
pub begins_placed : (old new : List Name) (file : Name) → GoesLast old file new → BeginsList old new
begins_placed old new file (inl same) = begins_along old old new (begins_refl old) same.1
begins_placed old new file (inr more) = (file ∷ [], more.1)

-- the files of entries of a map
abbrev pub names_of_entries : List (FileName × ℕ) → List Name
names_of_entries entries = map (λ (e : FileName × ℕ). name_of e.0) entries

-- a longer list has the same at the places of the shorter
pub front_at : {X : Type 0} (xs more : List X) (i : ℕ) → i < length xs → slice_get (xs ++ more) i ≡ slice_get xs i
front_at [] more i within = let no : ⊥ = omega arith in absurd no
front_at (x ∷ xs) more zero within = refl
front_at (x ∷ xs) more (suc i) within = let less : i < length xs = omega arith in front_at xs more i less

-- where a place is empty, all that are filled stand before it
filled_before : {X : Type 0} (xs : List X) (n i : ℕ) (x : X) → slice_get xs n ≡ None → slice_get xs i ≡ Some x → i < n
filled_before [] n i x none at = cc
filled_before (y ∷ ys) zero i x none at = cc
filled_before (y ∷ ys) (suc n) zero x none at = omega arith
filled_before (y ∷ ys) (suc n) (suc i) x none at = let less : i < n = filled_before ys n i x none at in omega arith

-- Files.

pub none_met : (c : Kept) → AreMet c []
none_met c = λ place file at. cc

pub none_met_of : (c : Kept) (files : List Name) → files ≡ [] → AreMet c files
none_met_of c files none = subst (AreMet c) (sym none) (none_met c)

-- what was met stays met, and so does a list with one more file that was met
pub still_all_met : (c d : Kept) → Stays c d → (files : List Name) → AreMet c files → AreMet d files
still_all_met c d stays files met = λ place file at. still_met c d stays file (met place file at)

pub all_met_placed : (c : Kept) (old new : List Name) (file : Name) → GoesLast old file new → AreMet c old → IsFileMet c file → AreMet c new
all_met_placed c old new file (inl same) met its = subst (AreMet c) (sym same.1) met
all_met_placed c old new file (inr more) met its =
    subst (AreMet c) (sym more.1) (λ place f at. elim (slice_get-push_cases old file place f at) [ inl before ↦ met place f before | inr last ↦ subst (IsFileMet c) (sym last.1) its ])

-- each of the files that stand before a place is kept, and not at fault by itself
abbrev pub AreSoundBefore : Kept → List Name → ℕ → Type 0
AreSoundBefore kept files n = (place : ℕ) (file : Name) → place < n → slice_get files place ≡ Some file → IsFileSound kept file

-- no file stands before the first place
pub none_before : (c : Kept) (files : List Name) → AreSoundBefore c files 0
none_before c files = λ place file below at. (let no : ⊥ = omega (arith, below) in absurd no)

-- one more
pub kept_before_more : (c d : Kept) → Stays c d → (xs ys : List Name) → BeginsList xs ys → (n : ℕ) (file : Name) → slice_get xs n ≡ Some file → IsFileSound d file → AreSoundBefore c xs n → AreSoundBefore d ys (n + 1)
kept_before_more c d stays xs ys begins n file here kept before = λ place it below there.
    let within : n < length xs = slice_get_within xs n file here in
    let along : slice_get (xs ++ begins.0) place ≡ Some it = subst (λ (zs : List Name). slice_get zs place ≡ Some it) begins.1 there in
    elim (below_more place n below) [
      | inl less ↦ (let inside : place < length xs = omega (arith, less, within) in still_sound c d stays it (before place it less (sym (front_at xs begins.0 place inside) ∙ along)))
      | inr e ↦ (let inside : place < length xs = omega (arith, e, within) in
          let that : Some file ≡ Some it = sym here ∙ sym (ap (slice_get xs) e) ∙ sym (front_at xs begins.0 place inside) ∙ along in
          subst (IsFileSound d) (same_Some file it that) kept)
    ]

-- where no file stands at the place, all are
pub all_kept : (c : Kept) (xs : List Name) (n : ℕ) → slice_get xs n ≡ None → AreSoundBefore c xs n → AreFilesSound c xs
all_kept c xs n none before = λ place file at. before place file (filled_before xs n place file none at) at

-- and where the list is no longer than that
pub all_kept_within : (c : Kept) (xs : List Name) (n : ℕ) → length xs ≤ n → AreSoundBefore c xs n → AreFilesSound c xs
all_kept_within c xs n within before = λ place file at. (let inside : place < length xs = slice_get_within xs place file at in let less : place < n = omega (arith, inside, within) in before place file less at)

as_long : (entries : List (FileName × ℕ)) → length (names_of_entries entries) ≡ length entries
as_long [] = refl
as_long (e ∷ es) = ap suc (as_long es)

-- a map has fewer entries than that
pub short_enough : (entries : List (FileName × ℕ)) (count n : ℕ) → count ≡ length entries → count < 2 ^ 63 → 18446744073709551615 ≤ n → length (names_of_entries entries) ≤ n
short_enough entries count n is small far = let same : length (names_of_entries entries) ≡ length entries = as_long entries in omega (arith, is, small, far, same)

-- Entries that are left to go over.
module _ (c : Kept) where
  -- the first is kept
  pub first_kept : (es rest : List (FileName × ℕ)) (e : FileName × ℕ) → AreFilesSound c (names_of_entries es) → es ≡ e ∷ rest → IsFileSound c (name_of e.0)
  first_kept es rest e kept is = subst (λ (xs : List (FileName × ℕ)). AreFilesSound c (names_of_entries xs)) is kept 0 (name_of e.0) refl

  -- and so are the others
  pub rest_kept : (es rest : List (FileName × ℕ)) (e : FileName × ℕ) → AreFilesSound c (names_of_entries es) → es ≡ e ∷ rest → AreFilesSound c (names_of_entries rest)
  rest_kept es rest e kept is = λ place file at. subst (λ (xs : List (FileName × ℕ)). AreFilesSound c (names_of_entries xs)) is kept (suc place) file at

-- ---- leading

-- Lists.

-- what a place has is in the list
held_at : {X : Type 0} (xs : List X) (i : ℕ) (x : X) → slice_get xs i ≡ Some x → Contains xs x
held_at xs i x at = subst (Contains xs) (get_or_from_slice_get xs i x x at) (Contains-get_or xs i x (slice_get_within xs i x at))

-- what is read of the item at a place
pub read_at : {X Y : Type 0} (f : X → Y) (xs : List X) (i : ℕ) (x : X) → slice_get xs i ≡ Some x → slice_get (map f xs) i ≡ Some (f x)
read_at f xs i x at = slice_get-map f xs i ∙ ap (option_map f) at

-- the item at a place of which this is read
pub item_at : {X Y : Type 0} (f : X → Y) (xs : List X) (i : ℕ) (y : Y) → slice_get (map f xs) i ≡ Some y → (x : X) × (slice_get xs i ≡ Some x) × (f x ≡ y)
item_at {X = X} f xs i y at = by (slice_get xs i) (sym (slice_get-map f xs i) ∙ at)
  where
    by : (o : Option X) → option_map f o ≡ Some y → (x : X) × (o ≡ Some x) × (f x ≡ y)
    by None is = cc
    by (Some x) is = (x, refl, same_Some (f x) y is)

-- some item of which this is read
pub item_of : {X Y : Type 0} (f : X → Y) (xs : List X) (y : Y) → Contains (map f xs) y → (i : ℕ) × (x : X) × (slice_get xs i ≡ Some x) × (f x ≡ y)
item_of f xs y there =
    let its = item_at f xs there.0 y (slice_get-get_or (map f xs) there.0 y there.1 ∙ ap Some there.2) in (there.0, its.0, its.1, its.2)

-- Numbers.

-- the numbers of the files of entries are those that are noted
abbrev pub AreNumberedIn : Kept → List (FileName × ℕ) → Type 0
AreNumberedIn kept es = (place : ℕ) (e : FileName × ℕ) → slice_get es place ≡ Some e → number_in kept (name_of e.0) ≡ Some e.1

-- the numbers of entries
abbrev pub ids_of_entries : List (FileName × ℕ) → List ℕ
ids_of_entries entries = map (λ (e : FileName × ℕ). e.1) entries

pub none_numbered : (kept : Kept) (es : List (FileName × ℕ)) → names_of_entries es ≡ [] → AreNumberedIn kept es
none_numbered kept [] none = λ place e at. cc
none_numbered kept (e ∷ es) none = cc

pub still_all_numbered : (c d : Kept) → Stays c d → (es : List (FileName × ℕ)) → AreNumberedIn c es → AreNumberedIn d es
still_all_numbered c d stays es numbered = λ place e at. still_numbered c d stays (name_of e.0) e.1 (numbered place e at)

-- one more file with its number
pub placed_numbered : (kept : Kept) (es new : List (FileName × ℕ)) (k : FileName) (v : ℕ) (file : Name) → new ≡ es ++ (k, v) ∷ [] → name_of k ≡ file → number_in kept file ≡ Some v → AreNumberedIn kept es → AreNumberedIn kept new
placed_numbered kept es new k v file is named its numbered =
    subst (AreNumberedIn kept) (sym is) (λ place e at. elim (one_more_at es (k, v) place e at) [
      | inl old ↦ numbered place e old
      | inr last ↦ subst (λ (x : FileName × ℕ). number_in kept (name_of x.0) ≡ Some x.1) last.1 (ap (number_in kept) named ∙ its)
    ])

-- a file on the list has its number there
pub number_listed : (kept : Kept) (es : List (FileName × ℕ)) (file : Name) (n : ℕ) → AreNumberedIn kept es → Contains (names_of_entries es) file → number_in kept file ≡ Some n → Contains (ids_of_entries es) n
number_listed kept es file n numbered there is =
    let its = item_of (λ (e : FileName × ℕ). name_of e.0) es file there in
    subst (Contains (ids_of_entries es)) (same_Some its.1.1 n (sym (numbered its.0 its.1 its.2) ∙ ap (number_in kept) its.3 ∙ is))
    (held_at (ids_of_entries es) its.0 its.1.1 (read_at (λ (e : FileName × ℕ). e.1) es its.0 its.1 its.2))

-- files of one number are one
same_file : (kept : Kept) (a b : Name) (n : ℕ) → number_in kept a ≡ Some n → number_in kept b ≡ Some n → a ≡ b
same_file kept a b n at_a at_b =
    let is_a = position-Some (name_eq a) kept.names n a at_a in
    let is_b = position-Some (name_eq b) kept.names n a at_b in
    (name_eq-Decides a (get_or kept.names n a)).0 is_a.1 ∙ sym ((name_eq-Decides b (get_or kept.names n a)).0 is_b.1)

-- a file whose number stands on the list stands there itself
pub listed : (kept : Kept) (es : List (FileName × ℕ)) (file : Name) (n : ℕ) → AreNumberedIn kept es → number_in kept file ≡ Some n → list_any (nat_eq n) (ids_of_entries es) ≡ true → Contains (names_of_entries es) file
listed kept es file n numbered is any =
    let its = item_of (λ (e : FileName × ℕ). e.1) es n (Contains-from_any eqb-true n (ids_of_entries es) any) in
    let same : name_of its.1.0 ≡ file = same_file kept (name_of its.1.0) file n (numbered its.0 its.1 its.2 ∙ ap Some its.3) is in
    subst (Contains (names_of_entries es)) same (held_at (names_of_entries es) its.0 (name_of its.1.0) (read_at (λ (e : FileName × ℕ). name_of e.0) es its.0 its.1 its.2))

-- one whose number does not stand on the list does not
pub not_listed : (kept : Kept) (es : List (FileName × ℕ)) (file : Name) (n : ℕ) → AreNumberedIn kept es → number_in kept file ≡ Some n → list_any (nat_eq n) (ids_of_entries es) ≡ false → Contains (names_of_entries es) file → ⊥
not_listed kept es file n numbered is none there =
    true≢false (sym (list_any-from_Contains nat_eq_equiv n (ids_of_entries es) (number_listed kept es file n numbered there is)) ∙ none)

-- and goes last
pub placed_last : (kept : Kept) (es new : List (FileName × ℕ)) (k : FileName) (n : ℕ) (file : Name) → AreNumberedIn kept es → number_in kept file ≡ Some n → list_any (nat_eq n) (ids_of_entries es) ≡ false → name_of k ≡ file
    → new ≡ es ++ (k, n) ∷ [] → GoesLast (names_of_entries es) file (names_of_entries new)
placed_last kept es new k n file numbered is none named more =
    inr (
      not_listed kept es file n numbered is none,
      ap names_of_entries more ∙ map_push (λ (e : FileName × ℕ). name_of e.0) es (k, n) ∙ ap (λ f. names_of_entries es ++ f ∷ []) named,
    )

-- what grows: what is kept, and a list, and both before and after its files have their numbers
pub record Goes (c d : Kept) (es fs : List (FileName × ℕ)) : Type 0 where
  pub stays : Stays c d
  pub begins : BeginsList (names_of_entries es) (names_of_entries fs)
  pub before : AreNumberedIn c es
  pub after : AreNumberedIn d fs

-- the numbers on a list stay on it
pub numbers_stay : (c d : Kept) (es fs : List (FileName × ℕ)) → Goes c d es fs → (n : ℕ) → Contains (ids_of_entries es) n → Contains (ids_of_entries fs) n
numbers_stay c d es fs grows n there =
    let its = item_of (λ (e : FileName × ℕ). e.1) es n there in
    let listed : Contains (names_of_entries fs) (name_of its.1.0) =
    subst (λ (names : List Name). Contains names (name_of its.1.0)) (sym grows.begins.1) (Contains-append_left (names_of_entries es) grows.begins.0 (name_of its.1.0) (held_at (names_of_entries es) its.0 (name_of its.1.0) (read_at (λ (e : FileName × ℕ). name_of e.0) es its.0 its.1 its.2))) in
    number_listed d fs (name_of its.1.0) n grows.after listed (still_numbered c d grows.stays (name_of its.1.0) n (grows.before its.0 its.1 its.2 ∙ ap Some its.3))

-- files whose numbers differ stand on a list once
pub once_listed : (kept : Kept) (es : List (FileName × ℕ)) → HasNoDoubles (ids_of_entries es) → AreNumberedIn kept es → IsDistinct (names_of_entries es)
once_listed kept es once numbered = record {
  one_place = λ i j name at_i at_j.
      let a = item_at (λ (e : FileName × ℕ). name_of e.0) es i name at_i in
      let b = item_at (λ (e : FileName × ℕ). name_of e.0) es j name at_j in
      let same : b.0.1 ≡ a.0.1 = same_Some b.0.1 a.0.1 (sym (numbered j b.0 b.1) ∙ ap (number_in kept) (b.2 ∙ sym a.2) ∙ numbered i a.0 a.1) in
      once i j a.0.1 (read_at (λ (e : FileName × ℕ). e.1) es i a.0 a.1) (read_at (λ (e : FileName × ℕ). e.1) es j b.0 b.1 ∙ ap Some same);
}

-- Requests.

module _ (c d : Kept) (es fs : List (FileName × ℕ)) (grows : Goes c d es fs) (file : Name) where
  -- a request leads where it led
  pub still_leads : (dep : String Global × ℕ) → RequestLeads c (ids_of_entries es) file dep → RequestLeads d (ids_of_entries fs) file dep
  still_leads dep to = (to.0, still_file c d grows.stays _ to.0 to.1, still_numbered c d grows.stays to.0 dep.1 to.2, numbers_stay c d es fs grows dep.1 to.3)

  pub still_asked : (settings : Settings) (deps : List (String Global × ℕ)) → IsAsked settings c (ids_of_entries es) file deps → IsAsked settings d (ids_of_entries fs) file deps
  still_asked settings deps its = record { asked = (its.asked.0, still_module c d grows.stays file its.asked.0 its.asked.1, its.asked.2); leads = λ dep there. still_leads dep (its.leads dep there) }

  -- one more request
  pub all_lead_more : (deps more : List (String Global × ℕ)) (dep : String Global × ℕ) → more ≡ deps ++ dep ∷ [] → AllLead c (ids_of_entries es) file deps → RequestLeads d (ids_of_entries fs) file dep → AllLead d (ids_of_entries fs) file more
  all_lead_more deps more dep is all its = λ other there.
      elim (Contains-push_cases deps dep other (subst (λ (l : List (String Global × ℕ)). Contains l other) is there)) [ inl before ↦ still_leads other (all other before) | inr last ↦ subst (RequestLeads d (ids_of_entries fs) file) last its ]

-- no request
pub all_lead_none : (kept : Kept) (numbers : List ℕ) (file : Name) (deps : List (String Global × ℕ)) → deps ≡ [] → AllLead kept numbers file deps
all_lead_none kept numbers file deps none = λ dep there. absurd (in_none dep (subst (λ (l : List (String Global × ℕ)). Contains l dep) none there))
  where
    in_none : (y : String Global × ℕ) → Contains [] y → ⊥
    in_none y (k, less, is) = omega (arith, less)

-- a file that was put on a list stands there
there_placed : (old new : List Name) (file : Name) → GoesLast old file new → Contains new file
there_placed old new file (inl same) = subst (λ (l : List Name). Contains l file) (sym same.1) same.0
there_placed old new file (inr more) = subst (λ (l : List Name). Contains l file) (sym more.1) (Contains-push old file)

-- a request leads to the file that was put on the list for it
pub leads_placed : (mid new : Kept) → Stays mid new → (es fs : List (FileName × ℕ)) (file to : Name) (specifier : String Global) (n : ℕ) (request : Request)
    → name_of request.file ≡ file → string_bytes request.specifier ≡ string_bytes specifier → kept_file mid (asked_of request) ≡ Some to → number_in new to ≡ Some n
    → GoesLast (names_of_entries es) to (names_of_entries fs) → AreNumberedIn new fs → RequestLeads new (ids_of_entries fs) file (specifier, n)
leads_placed mid new stays es fs file to specifier n request of_file of_text is number placed numbered = (
  to,
  ap (kept_file new) (sym (asked_same _ _ _ _ of_file of_text)) ∙ still_file mid new stays (asked_of request) to is,
  number,
  number_listed new fs to n numbered (there_placed (names_of_entries es) (names_of_entries fs) to placed) number,
)

-- the texts of requests
abbrev pub texts_of : List (String Global × ℕ) → List Text
texts_of deps = map (λ (dep : String Global × ℕ). string_bytes dep.0) deps

-- those so far, and those that are left
pub texts_more : (all : List Text) (deps more : List (String Global × ℕ)) (dep : String Global × ℕ) (rest left : List Text) → more ≡ deps ++ dep ∷ [] → rest ≡ string_bytes dep.0 ∷ left → all ≡ texts_of deps ++ rest → all ≡ texts_of more ++ left
texts_more all deps more dep rest left is_more is_rest is =
    is ∙ ap (λ l. texts_of deps ++ l) is_rest ∙ sym (append_assoc (texts_of deps) (string_bytes dep.0 ∷ []) left)
    ∙ ap (λ l. l ++ left) (sym (map_push (λ (d : String Global × ℕ). string_bytes d.0) deps dep)) ∙ ap (λ l. texts_of l ++ left) (sym is_more)

pub texts_all : (all : List Text) (deps : List (String Global × ℕ)) (rest : List Text) → rest ≡ [] → all ≡ texts_of deps ++ rest → texts_of deps ≡ all
texts_all all deps rest none is = sym (append-nil (texts_of deps)) ∙ ap (λ l. texts_of deps ++ l) (sym none) ∙ sym is

-- these are the requests of a file that was loaded
pub all_asked : (settings : Settings) (mid new : Kept) → Stays mid new → (numbers : List ℕ) (file : Name) (texts : List Text) (deps : List (String Global × ℕ)) → IsKept mid file
    → ((x : Loaded) → kept_module mid file ≡ Some x → IsFaultless file x.items × (texts ≡ requests_in settings x.items)) → texts_of deps ≡ texts → AllLead new numbers file deps → IsAsked settings new numbers file deps
all_asked settings mid new stays numbers file texts deps kept faultless said leads =
    let its = found (kept_module mid file) kept in
    record { asked = (its.0, still_module mid new stays file its.0 its.1, said ∙ (faultless its.0 its.1).1); leads = leads }

-- they were noted last, on a list that has the same files
pub noted_last : (settings : Settings) (kept : Kept) (es fs : List (FileName × ℕ)) → fs ≡ es → (file : Name) (old mid more : List (Vec (String Global × ℕ) Global)) (its : Vec (String Global × ℕ) Global) → mid ≡ old → more ≡ mid ++ its ∷ [] → IsAsked settings kept (ids_of_entries es) file its.items
    → (last : Vec (String Global × ℕ) Global) × (more ≡ old ++ last ∷ []) × IsAsked settings kept (ids_of_entries fs) file last.items
noted_last settings kept es fs same file old mid more its is_mid is_more asked =
    (its, is_more ∙ ap (λ l. l ++ its ∷ []) is_mid, subst (λ (l : List (FileName × ℕ)). IsAsked settings kept (ids_of_entries l) file its.items) (sym same) asked)

-- The files that were worked on.

-- these are the requests of these files, in turn
abbrev pub AreAskedIn : Settings → Kept → List (FileName × ℕ) → List (Vec (String Global × ℕ) Global) → Type 0
AreAskedIn settings kept es deps = (place : ℕ) (file : Name) (its : Vec (String Global × ℕ) Global) → slice_get (names_of_entries es) place ≡ Some file → slice_get deps place ≡ Some its → IsAsked settings kept (ids_of_entries es) file its.items

pub none_asked : (settings : Settings) (kept : Kept) (es : List (FileName × ℕ)) (deps : List (Vec (String Global × ℕ) Global)) → deps ≡ [] → AreAskedIn settings kept es deps
none_asked settings kept es deps none = λ place file its at there. (let at_none : slice_get [] place ≡ Some its = subst (λ (l : List (Vec (String Global × ℕ) Global)). slice_get l place ≡ Some its) none there in cc)

-- one more
pub asked_more : (settings : Settings) (c d : Kept) (es fs : List (FileName × ℕ)) → Goes c d es fs → (deps more : List (Vec (String Global × ℕ) Global)) (last : Vec (String Global × ℕ) Global) → more ≡ deps ++ last ∷ [] → (file : Name) → slice_get (names_of_entries es) (length deps) ≡ Some file → IsAsked settings d (ids_of_entries fs) file last.items → AreAskedIn settings c es deps → AreAskedIn settings d fs more
asked_more settings c d es fs grows deps more last is file here its before = λ place other one at there.
    let inside : length deps < length (names_of_entries es) = slice_get_within (names_of_entries es) (length deps) file here in
    let along : slice_get (names_of_entries es ++ grows.begins.0) place ≡ Some other = subst (λ (l : List Name). slice_get l place ≡ Some other) grows.begins.1 at in
    elim (one_more_at deps last place one (subst (λ (l : List (Vec (String Global × ℕ) Global)). slice_get l place ≡ Some one) is there)) [
      | inl earlier ↦ (let below : place < length deps = slice_get_within deps place one earlier in
          let within : place < length (names_of_entries es) = omega (arith, below, inside) in
          still_asked c d es fs grows other settings one.items (before place other one (sym (front_at (names_of_entries es) grows.begins.0 place within) ∙ along) earlier))
      | inr now ↦ (let within : place < length (names_of_entries es) = subst (λ n. n < length (names_of_entries es)) (sym now.0) inside in
          let same : file ≡ other = same_Some file other (sym here ∙ ap (slice_get (names_of_entries es)) (sym now.0) ∙ sym (front_at (names_of_entries es) grows.begins.0 place within) ∙ along) in
          subst (λ (f : Name). IsAsked settings d (ids_of_entries fs) f one.items) same (subst (λ (v : Vec (String Global × ℕ) Global). IsAsked settings d (ids_of_entries fs) file v.items) now.1 its))
    ]

-- the requests of the files before a place are noted, and of no others
abbrev pub AreAskedTo : Settings → Kept → List (FileName × ℕ) → List (Vec (String Global × ℕ) Global) → ℕ → Type 0
AreAskedTo settings kept es deps place = AreAskedIn settings kept es deps × (length deps ≡ place)

pub asked_first : (settings : Settings) (kept : Kept) (es : List (FileName × ℕ)) (deps : List (Vec (String Global × ℕ) Global)) → deps ≡ [] → AreAskedTo settings kept es deps 0
asked_first settings kept es deps none = (none_asked settings kept es deps none, ap length none)

pub asked_next : (settings : Settings) (c d : Kept) (es fs : List (FileName × ℕ)) → Goes c d es fs → (deps more : List (Vec (String Global × ℕ) Global)) (place : ℕ) (file : Name) → slice_get (names_of_entries es) place ≡ Some file
    → (its : Vec (String Global × ℕ) Global) × (more ≡ deps ++ its ∷ []) × IsAsked settings d (ids_of_entries fs) file its.items → AreAskedTo settings c es deps place → AreAskedTo settings d fs more (place + 1)
asked_next settings c d es fs grows deps more place file here (last, is, its) so_far = (
  asked_more settings c d es fs grows deps more last is file (ap (slice_get (names_of_entries es)) so_far.1 ∙ here) its so_far.0,
  ap length is ∙ length_push deps last ∙ ap (λ n. n + 1) so_far.1,
)

-- where no file is left, all are
pub asked_all : (settings : Settings) (kept : Kept) (es : List (FileName × ℕ)) (deps : List (Vec (String Global × ℕ) Global)) (place : ℕ) → length (names_of_entries es) ≤ place → place ≤ length (names_of_entries es) → AreAskedTo settings kept es deps place
    → AreAskedIn settings kept es deps × (length deps ≡ length (names_of_entries es))
asked_all settings kept es deps place past within so_far = let is : place ≡ length (names_of_entries es) = omega (arith, past, within) in (so_far.0, so_far.1 ∙ is)

-- ---- numbered
pub all_still_numbered : (old new : Kept) → Stays old new → (entries : List (String Global × FileName)) (ids : List ℕ) → AllZip (HasFileNumber old) entries ids → AllZip (HasFileNumber new) entries ids
all_still_numbered old new stays [] [] is = tt
all_still_numbered old new stays [] (id ∷ ids) is = absurd is
all_still_numbered old new stays (entry ∷ entries) [] is = absurd is
all_still_numbered old new stays (entry ∷ entries) (id ∷ ids) is =
    (still_numbered old new stays (name_of entry.1) id is.0, all_still_numbered old new stays entries ids is.1)

-- one more file has a number
pub numbered_more : (old new : Kept) → Stays old new → (entries : List (String Global × FileName)) (ids more : List ℕ) (i id : ℕ) (entry : String Global × FileName) → i < length entries → get_or entries i entry ≡ entry → more ≡ ids ++ id ∷ [] → AllZip (HasFileNumber old) (take i entries) ids → HasFileNumber new entry id → AllZip (HasFileNumber new) (take (i + 1) entries) more
numbered_more old new stays entries ids more i id entry within at is before numbered =
    let all : AllZip (HasFileNumber new) (take i entries ++ entry ∷ []) (ids ++ id ∷ []) = all_zipped_more (HasFileNumber new) (take i entries) ids entry id (all_still_numbered old new stays (take i entries) ids before) numbered in
    let front : take (i + 1) entries ≡ take i entries ++ entry ∷ [] = take_more entries i entry within ∙ ap (λ x. take i entries ++ x ∷ []) at in
    subst (λ xs. AllZip (HasFileNumber new) xs more) (sym front) (subst (λ ys. AllZip (HasFileNumber new) (take i entries ++ entry ∷ []) ys) (sym is) all)

-- the file of an entry is one of the entries' files
read_at_numbered : {X Y : Type 0} (f : X → Y) (xs : List X) (i : ℕ) (x : X) → get_or (map f xs) i (f x) ≡ f (get_or xs i x)
read_at_numbered f [] i x = refl
read_at_numbered f (y ∷ ys) zero x = refl
read_at_numbered f (y ∷ ys) (suc i) x = read_at_numbered f ys i x

pub entry_listed : (entries : List (String Global × FileName)) (i : ℕ) (entry : String Global × FileName) → i < length entries → get_or entries i entry ≡ entry → Contains (entry_files entries) (name_of entry.1)
entry_listed entries i entry within at =
    let file : String Global × FileName → Name = λ e. name_of e.1 in
    let count : length (entry_files entries) ≡ length entries = long file entries in
    let inside : i < length (entry_files entries) = omega (arith, within, count) in
    subst (Contains (entry_files entries)) (read_at_numbered file entries i entry ∙ ap file at) (Contains-get_or (entry_files entries) i (file entry) inside)

-- Lists that are counted.

-- one less
pub counted_less : {X : Type 0} (old new : List X) (x : X) (n m : ℕ) → old ≡ x ∷ new → m + 1 ≡ n → length old ≡ n → length new ≡ m
counted_less old new x n m is less counted =
    let longer : length old ≡ suc (length new) = ap length is in omega arith

-- none
pub none_left : {X : Type 0} (xs : List X) (n : ℕ) → length xs ≡ n → n ≡ 0 → xs ≡ []
none_left [] n counted none = refl
none_left (x ∷ xs) n counted none = let no : ⊥ = omega arith in absurd no

-- ---- stepping

-- what is told of the first entry that doubles another
pub list_told : (es : List Entry) (it : Entry) (told : Option Fault) → told ≡ Some (DoubledEntry it.file it.name) → IsDoubledEntry es it → IfSome told (IsFaultOfList es)
list_told es it told is doubled = subst (λ o. IfSome o (IsFaultOfList es)) (sym is) (it, doubled, refl)

module _ (entries : List (String Global × FileName)) (i : ℕ) (entry : String Global × FileName) (within : i < length entries) (at : get_or entries i entry ≡ entry)
    (names : List (Bor (List ℕ))) (text : List ℕ) (is_new_name : Bool) (of_name : text ≡ string_bytes entry.0)
    (added_name : is_new_name ≡ not (list_any (λ (y : Bor (List ℕ)). bytes_eq text y.now) names)) (names_so_far : map (λ (key : Bor (List ℕ)). key.now) names ≡ map (λ (e : Entry). e.name) (take i (map entry_of entries)))
    (files : List (Bool × List ℕ)) (is_new_file : Bool)
    (added_file : is_new_file ≡ not (list_any (λ (y : Bool × List ℕ). name_eq (name_of entry.1) (file_named y)) files)) (files_so_far : map file_named files ≡ map (λ (e : Entry). e.file) (take i (map entry_of entries)))
    (apart : AreApartBefore (map entry_of entries) i) where
  here : slice_get (map entry_of entries) i ≡ Some (entry_of entry)
  here = entry_at entries i entry within at

  -- both are new
  pub one_more : (more_names : List (Bor (List ℕ))) (name : Bor (List ℕ)) (more_files : List (Bool × List ℕ)) → name.now ≡ text → (is_new_name ≡ true) × (is_new_file ≡ true)
      → more_names ≡ insert_key (λ (x y : Bor (List ℕ)). bytes_eq x.now y.now) names name → map file_named more_files ≡ map file_named files ++ name_of entry.1 ∷ []
      → (map (λ (key : Bor (List ℕ)). key.now) more_names ≡ map (λ (e : Entry). e.name) (take (i + 1) (map entry_of entries))) × (map file_named more_files ≡ map (λ (e : Entry). e.file) (take (i + 1) (map entry_of entries))) × AreApartBefore (map entry_of entries) (i + 1)
  one_more more_names name more_files same_name news put_name put_file =
      let front : take (i + 1) (map entry_of entries) ≡ take i (map entry_of entries) ++ entry_of entry ∷ [] =
      take_more (map entry_of entries) i (entry_of entry) (slice_get_within (map entry_of entries) i (entry_of entry) here) ∙ ap (λ x. take i (map entry_of entries) ++ x ∷ []) (get_or_from_slice_get (map entry_of entries) i (entry_of entry) (entry_of entry) here) in
      let named : map (λ (key : Bor (List ℕ)). key.now) more_names ≡ map (λ (e : Entry). e.name) (take i (map entry_of entries)) ++ text ∷ [] =
      keys_more bytes_eq bytes_eq-Decides (λ (e : Entry). e.name) (λ (key : Bor (List ℕ)). key.now) names text is_new_name (take i (map entry_of entries)) added_name names_so_far more_names name same_name news.0 put_name in
      let filed : map file_named more_files ≡ map (λ (e : Entry). e.file) (take i (map entry_of entries)) ++ name_of entry.1 ∷ [] =
      put_file ∙ ap (λ l. l ++ name_of entry.1 ∷ []) files_so_far in (
        named ∙ ap (λ x. map (λ (e : Entry). e.name) (take i (map entry_of entries)) ++ x ∷ []) of_name ∙ sym (map-append (λ (e : Entry). e.name) (take i (map entry_of entries)) (entry_of entry ∷ [])) ∙ sym (ap (map (λ (e : Entry). e.name)) front),
        filed ∙ sym (map-append (λ (e : Entry). e.file) (take i (map entry_of entries)) (entry_of entry ∷ [])) ∙ sym (ap (map (λ (e : Entry). e.file)) front),
        apart_more (map entry_of entries) i (entry_of entry) here
            (λ k e there same. new_at bytes_eq bytes_eq-Decides (λ (x : Entry). x.name) (λ (key : Bor (List ℕ)). key.now) names text is_new_name (take i (map entry_of entries)) added_name names_so_far news.0 k e there (same ∙ sym of_name))
            (new_at name_eq name_eq-Decides (λ (x : Entry). x.file) file_named files (name_of entry.1) is_new_file (take i (map entry_of entries)) added_file files_so_far news.1)
            apart,
      )

  -- one of them is not
  pub not_both : (is_new_name ≡ false) ⊎ (is_new_file ≡ false) → IsDoubledEntry (map entry_of entries) (entry_of entry)
  not_both either = elim either [
    | inl known ↦ (let found = known_at bytes_eq bytes_eq-Decides (λ (x : Entry). x.name) (λ (key : Bor (List ℕ)). key.now) names text is_new_name (take i (map entry_of entries)) added_name names_so_far known in
        first_doubled (map entry_of entries) i (entry_of entry) here found.0 found.1 found.2 (inl (found.3 ∙ of_name)) apart)
    | inr known ↦ (let found = known_at name_eq name_eq-Decides (λ (x : Entry). x.file) file_named files (name_of entry.1) is_new_file (take i (map entry_of entries)) added_file files_so_far known in
        first_doubled (map entry_of entries) i (entry_of entry) here found.0 found.1 found.2 (inr found.3) apart)
  ]
