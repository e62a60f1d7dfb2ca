-- What is found by numbers is what the program gives.
-- Numbers go on standing for what is noted, as more is.
use Rattle.std.proofs.Common.{◌≡◌, ◌≢◌, ℕ, Bool, true, false, zero, suc, ◌⊎◌, inl, inr, List, [], ◌∷◌, Option, Some, Contains, map, refl, sym, ap, ap₂, ◌∙◌, subst, ◌+◌, ◌<◌, ◌++◌, None, length, take, get_or, option_map, subst₂, append_assoc, unwrap_or, if◌then◌else◌, arith}
use Rattle.std.specs.Prelude.{slice_get}
use Rattle.std.specs.Bool.{Decides}
use Rattle.std.proofs.lemmas.Bool.{false≢true}
use Rattle.std.proofs.lemmas.Option.{none-some, same_Some, slice_get-map}
use Rattle.std.proofs.lemmas.Slice.Eq.{bytes_eq-Decides}
use Rattle.std.specs.List.{cons_option, list_any}
use Rattle.std.proofs.lemmas.List.{append-nil, take_more, length-take-le}
use Rattle.std.proofs.lemmas.List.Elements.{filter_map-append, Contains-push, Contains-push_cases, Contains-append_left}
use Rattle.std.specs.Borrow.{Bor}
use Rattle.indexmap.specs.IndexSet.{insert_key}
use Rattle.bundle_rules.specs.Nodes.{Text}
use Rattle.bundle_rules.specs.Entries.{ExportEntry, Local, Indirect, Named, is_named, has_own_entry}
use Rattle.bundle_rules.specs.Program.{Program, tree_of}
use Rattle.bundle_rules.specs.Linking.{exports, Target, Origin, IsMissing}
use Rattle.bundle_link_index.specs.declared.answer.Candidates.{Candidates as Found}
use Rattle.bundle_link_index.specs.declared.answer.Candidates.TheVariants.{Missing, One, Two}
use Rattle.bundle_link_index.specs.Graph.{Graph, NameSpot, own_of, same_spot, PutsOwn}
use Rattle.bundle_link_index.specs.Given.{IsCandidates}
use Rattle.bundle_rules.specs.Statements.{default_name}
use Rattle.bundle_link_index.specs.declared.links.OwnLink.{OwnLink}
use Rattle.bundle_link_index.specs.declared.links.OwnLink.TheVariants.{Gives, Leads, Nothing}
use Rattle.bundle_link_index.proofs.SearchLemmas.{same_spot-true, same_spot-same, get_still}
use Rattle.bundle_link_index.specs.declared.own.GivenTarget.{GivenTarget}
use Rattle.bundle_link_index.specs.Linked.{Value, OwnGives, own_declaration, own_namespace, own_taken, OwnLeads, IsLinkGraph}
use Rattle.bundle_link_index.specs.Says.{TellsAnswer, single, double, target_of, answer_of_values, value_of}
use Rattle.bundle_link_index.proofs.LinkedLemmas.{given_as, own_has, is_missing, is_linked, are_two}
use Rattle.bundle_link_index.proofs.ProgramLemmas.{any_there}
use Rattle.bundle_link_index.specs.declared.target.LinkModule.{LinkModule}
use Rattle.bundle_link_index.specs.Said.{Lead, Said, It, On, Naught, IsSaidNumber}
use Rattle.bundle_link_index.specs.Numbered.{module_in, HasNoDoubles, IsMore, Inserts, NotedEntry, HoldsEntries, notes_of, all_notes, starred, all_starred}
use Rattle.bundle_link_index.specs.contracts.target.TargetRefPartialEq.TheImpl as target_impl
use Rattle.bundle_link_index.proofs.EqualLemmas as equal

-- ---- found

-- the key of a value
key_of : (keys : List GivenTarget) (v : ℕ) (value : Value) → slice_get (map value_of keys) v ≡ Some value → (key : GivenTarget) × (slice_get keys v ≡ Some key) × (value_of key ≡ value)
key_of [] v value e = absurd (none-some value e)
key_of (key ∷ keys) zero value e = (key, refl, same_Some (value_of key) value e)
key_of (key ∷ keys) (suc v) value e = key_of keys v value e

-- two values that differ do so in the target or in the origin
apart : (keys : List GivenTarget) (a b : ℕ) (first second : Value) → slice_get (map value_of keys) a ≡ Some first → slice_get (map value_of keys) b ≡ Some second → (first ≢ second) → (first.0 ≢ second.0) ⊎ (first.1 ≢ second.1)
apart keys a b first second at_a at_b differ = by (target_impl.ghosts.eq one.0.target two.0.target) (equal.target one.0.target two.0.target)
  where
    one : (key : GivenTarget) × (slice_get keys a ≡ Some key) × (value_of key ≡ first)
    one = key_of keys a first at_a

    two : (key : GivenTarget) × (slice_get keys b ≡ Some key) × (value_of key ≡ second)
    two = key_of keys b second at_b

    first_is : target_of one.0.target ≡ first.0
    first_is = ap (λ (value : Value). value.0) one.2

    second_is : target_of two.0.target ≡ second.0
    second_is = ap (λ (value : Value). value.0) two.2

    by : (test : Bool) → Decides test (target_of one.0.target ≡ target_of two.0.target) → (first.0 ≢ second.0) ⊎ (first.1 ≢ second.1)
    by true decides = inr (λ same. differ (ap₂ (λ (x : Target) (y : Option Origin). let value : Value = (x, y) in value) (sym first_is ∙ decides.0 refl ∙ second_is) same))
    by false decides = inl (λ same. false≢true (decides.1 (first_is ∙ same ∙ sym second_is)))

module _ (p : Program) (names : List Text) (keys : List GivenTarget) (g : Graph) (w : IsLinkGraph p names (map value_of keys) g) where
  abbrev values : List Value
  values = map value_of keys

  -- what is found for a name is right
  pub found_tells : (m n : ℕ) (x : Text) → slice_get names n ≡ Some x → (found : Found) → IsCandidates g (m, n) found → TellsAnswer p m x (answer_of_values values found)
  found_tells m n x named Missing right = is_missing p names values g w m n x named right
  found_tells m n x named (One v) right =
      let r = given_as p names values g w right.kept x named in
      subst (λ o. TellsAnswer p m x (single o)) (sym r.is) (is_linked p names values g w m n x named v r.t r.origin r.is right)
  found_tells m n x named (Two a b) right =
      let r = given_as p names values g w right.kept.0 x named in
      let s = given_as p names values g w right.kept.1 x named in
      let first : Value = (r.t, r.origin) in
      let second : Value = (s.t, s.origin) in
      let differ : first ≢ second = λ same. right.kept.2 (w.one_value a b second (r.is ∙ ap (λ v. Some v) same) s.is) in
      subst (λ o. TellsAnswer p m x (double o (slice_get values b))) (sym r.is)
      (subst (λ o. TellsAnswer p m x (double (Some first) o)) (sym s.is)
      (are_two p names values g w m n x named a b first second r.is s.is (apart keys a b first second r.is s.is differ) right))

  -- a name without a number is given nowhere
  pub none_tells : (m : ℕ) (x : Text) → ((n : ℕ) → slice_get names n ≡ Some x → ⊥) → IsMissing p m x
  none_tells m x none t origin given = own_has p names values g w given entries leads gives
    where
      entries : (k : ℕ) → has_own_entry (tree_of p k) x ≡ true → ⊥
      entries k has = let r = w.all_names k x has in none r.0 r.1

      has_one : (k : ℕ) (entry : ExportEntry) → Contains (exports p k) entry → is_named x entry ≡ true → ⊥
      has_one k entry there named = entries k (any_there (is_named x) (exports p k) entry there named)

      leads : (k : ℕ) (y : Text) (d : ℕ) → OwnLeads p k x d y → ⊥
      leads k y d own = has_one k (Indirect x own.specifier (Named y)) own.stands ((bytes_eq-Decides x x).1 refl)

      gives : (k : ℕ) (y : Target) (its : Option Origin) → OwnGives p k x y its → ⊥
      gives k y its (own_declaration {y = z} stands free) = has_one k (Local x z) stands ((bytes_eq-Decides x x).1 refl)
      gives k y its (own_namespace {y = z} entry stands bound takes) = has_one k (Local x z) stands ((bytes_eq-Decides x x).1 refl)
      gives k y its (own_taken {s = s} {what = what} stands takes) = has_one k (Indirect x s what) stands ((bytes_eq-Decides x x).1 refl)

-- ---- one more at the end of a list
get_push : {A : Type 0} (ks : List A) (k : A) (i : ℕ) (at : A) → slice_get (ks ++ k ∷ []) i ≡ Some at → (slice_get ks i ≡ Some at) ⊎ ((at ≡ k) × (i ≡ length ks))
get_push [] k zero at e = inr (sym (same_Some k at e), refl)
get_push [] k (suc i) at e = absurd (none-some at e)
get_push (x ∷ xs) k zero at e = inl e
get_push (x ∷ xs) k (suc i) at e = elim (get_push xs k i at e) [ inl o ↦ inl o | inr r ↦ inr (r.0, ap suc r.1) ]

pub more_itself : {V : Type 0} (list : List V) → IsMore list list
more_itself list = record { stays = λ i x e. e; once = λ o. o }

pub more_same : {V : Type 0} (old new : List V) → new ≡ old → IsMore old new
more_same old new e = subst (IsMore old) (sym e) (more_itself old)

-- ---- a set of keys, seen by what they stand for
module _ {K V : Type 0} (eq : K → K → Bool) (view : K → V) (decides : (a b : K) → Decides (eq a b) (view a ≡ view b)) where
  pub none_same : (k : K) (ks : List K) (i : ℕ) (x : V) → list_any (eq k) ks ≡ false → slice_get (map view ks) i ≡ Some x → x ≡ view k → ⊥
  none_same k [] i x none e is = none-some x e
  none_same k (other ∷ ks) i x none e is = by (eq k other) refl none i e (none_same k ks)
    where
      by : (b : Bool) → eq k other ≡ b → list_any (eq k) (other ∷ ks) ≡ false → (i : ℕ) → slice_get (map view (other ∷ ks)) i ≡ Some x → ((i : ℕ) (x : V) → list_any (eq k) ks ≡ false → slice_get (map view ks) i ≡ Some x → x ≡ view k → ⊥) → ⊥
      by true here none i e ih = let some : list_any (eq k) (other ∷ ks) ≡ true = cc in false≢true (sym none ∙ some)
      by false here none zero e ih = let same : eq k other ≡ true = (decides k other).1 (sym is ∙ sym (same_Some (view other) x e)) in false≢true (sym here ∙ same)
      by false here none (suc i) e ih = let rest : list_any (eq k) ks ≡ false = cc in ih i x rest e is

  more_keys : (ks : List K) (k : K) → IsMore (map view ks) (map view (insert_key eq ks k))
  more_keys ks k = by (list_any (eq k) ks) refl
    where
      pushed : map view (ks ++ k ∷ []) ≡ map view ks ++ view k ∷ []
      pushed = over ks
        where
          over : (ks : List K) → map view (ks ++ k ∷ []) ≡ map view ks ++ view k ∷ []
          over [] = refl
          over (x ∷ xs) = ap (λ l. view x ∷ l) (over xs)

      apart : list_any (eq k) ks ≡ false → HasNoDoubles (map view ks) → HasNoDoubles (map view ks ++ view k ∷ [])
      apart none once i j x at_i at_j = both (get_push (map view ks) (view k) i x at_i) (get_push (map view ks) (view k) j x at_j)
        where
          both : (slice_get (map view ks) i ≡ Some x) ⊎ ((x ≡ view k) × (i ≡ length (map view ks))) → (slice_get (map view ks) j ≡ Some x) ⊎ ((x ≡ view k) × (j ≡ length (map view ks))) → i ≡ j
          both (inl a) (inl b) = once i j x a b
          both (inl a) (inr b) = absurd (none_same k ks i x none a b.0)
          both (inr a) (inl b) = absurd (none_same k ks j x none b a.0)
          both (inr a) (inr b) = a.1 ∙ sym b.1

      by : (b : Bool) → list_any (eq k) ks ≡ b → IsMore (map view ks) (map view (if b then ks else ks ++ k ∷ []))
      by true is = more_itself (map view ks)
      by false is = record {
        stays = λ i x e. subst (λ l. slice_get l i ≡ Some x) (sym pushed) (get_still (map view ks) (view k) i x e);
        once = λ once. subst HasNoDoubles (sym pushed) (apart is once);
      }

  -- what is put into a set has its number there
  pub Inserts-key : (ks new : List K) (k : K) (n : ℕ) → new ≡ insert_key eq ks k → (stored : K) × (slice_get new n ≡ Some stored) × (eq k stored ≡ true) → Inserts (map view ks) (map view new) (view k) n
  Inserts-key ks new k n is stored = record {
    more = subst (λ l. IsMore (map view ks) (map view l)) (sym is) (more_keys ks k);
    at = slice_get-map view new n ∙ ap (option_map view) stored.1 ∙ ap (λ x. Some x) (sym ((decides k stored.0).0 stored.2));
  }

-- ---- what is noted goes on standing
IsNumber-more : (names new_names : List Text) (values new_values : List Value) → IsMore names new_names → IsMore values new_values → (said : Said) (own : OwnLink) → IsSaidNumber names values said own → IsSaidNumber new_names new_values said own
IsNumber-more names new_names _ new_values more_names more_values (It t origin) (Gives v) is = more_values.stays v (t, origin) is
IsNumber-more names new_names _ new_values more_names more_values (It t origin) (Leads next) is = absurd is
IsNumber-more names new_names _ new_values more_names more_values (It t origin) Nothing is = absurd is
IsNumber-more names new_names _ new_values more_names more_values (On d y) (Gives v) is = absurd is
IsNumber-more names new_names _ new_values more_names more_values (On d y) (Leads next) is = (is.0, more_names.stays next.1 y is.1)
IsNumber-more names new_names _ new_values more_names more_values (On d y) Nothing is = absurd is
IsNumber-more names new_names _ new_values more_names more_values Naught (Gives v) is = absurd is
IsNumber-more names new_names _ new_values more_names more_values Naught (Leads next) is = absurd is
IsNumber-more names new_names _ new_values more_names more_values Naught Nothing is = is

pub Holds-more : (noted : List NotedEntry) (stars : List (List ℕ)) (names new_names : List Text) (values new_values : List Value) (g : Graph) → IsMore names new_names → IsMore values new_values → HoldsEntries noted stars names values g → HoldsEntries noted stars new_names new_values g
Holds-more noted stars names new_names values new_values g more_names more_values w = record {
  own = λ m n own e. let r = w.own m n own e in (r.0, r.1, r.2, more_names.stays n r.0.name r.3, IsNumber-more names new_names values new_values more_names more_values r.0.said own r.4);
  all = λ entry there. let r = w.all entry there in (r.0, more_names.stays r.0 entry.name r.1, r.2);
  stars = w.stars;
  default = more_names.stays g.default default_name w.default;
  one_name = more_names.once w.one_name;
  one_value = more_values.once w.one_value;
}

-- ---- one entry more
module _ (noted : List NotedEntry) (stars : List (List ℕ)) (names : List Text) (values : List Value) (old new : Graph) (m n : ℕ) (x : Text) (said : Said) (its : OwnLink)
    (at : slice_get names n ≡ Some x) (number : IsSaidNumber names values said its) (puts : PutsOwn old (m, n) its new) (w : HoldsEntries noted stars names values old) where
  abbrev last : NotedEntry
  last = record { which = m; name = x; said = said }

  own_then : (k i : ℕ) (own : OwnLink) → own_of new (k, i) ≡ Some own → (entry : NotedEntry) × Contains (noted ++ last ∷ []) entry × (entry.which ≡ k) × (slice_get names i ≡ Some entry.name) × IsSaidNumber names values entry.said own
  own_then k i own e = by (same_spot (m, n) (k, i)) refl
    where
      kept : (k i : ℕ) → own_of old (k, i) ≡ Some own → (entry : NotedEntry) × Contains (noted ++ last ∷ []) entry × (entry.which ≡ k) × (slice_get names i ≡ Some entry.name) × IsSaidNumber names values entry.said own
      kept k i before = let r = w.own k i own before in (r.0, Contains-append_left noted (last ∷ []) r.0 r.1, r.2, r.3, r.4)

      first : (o : Option OwnLink) → own_of old (m, n) ≡ o → Some (unwrap_or o its) ≡ Some own → (entry : NotedEntry) × Contains (noted ++ last ∷ []) entry × (entry.which ≡ m) × (slice_get names n ≡ Some entry.name) × IsSaidNumber names values entry.said own
      first None before is = (last, Contains-push noted last, refl, at, subst (IsSaidNumber names values said) (same_Some its own is) number)
      first (Some o) before is = kept m n (before ∙ is)

      by : (b : Bool) → same_spot (m, n) (k, i) ≡ b → (entry : NotedEntry) × Contains (noted ++ last ∷ []) entry × (entry.which ≡ k) × (slice_get names i ≡ Some entry.name) × IsSaidNumber names values entry.said own
      by true same =
          let spot : NameSpot = (m, n) in
          let one : spot ≡ (k, i) = same_spot-true (m, n) (k, i) same in
          let is : Some (unwrap_or (own_of old (m, n)) its) ≡ Some own = sym (puts (k, i) ∙ ap (λ b. if b then Some (unwrap_or (own_of old (m, n)) its) else own_of old (k, i)) same) ∙ e in
          subst (λ (s : NameSpot). (entry : NotedEntry) × Contains (noted ++ last ∷ []) entry × (entry.which ≡ s.0) × (slice_get names s.1 ≡ Some entry.name) × IsSaidNumber names values entry.said own) one (first (own_of old (m, n)) refl is)
      by false same = kept k i (sym (puts (k, i) ∙ ap (λ b. if b then Some (unwrap_or (own_of old (m, n)) its) else own_of old (k, i)) same) ∙ e)

  there_still : (k i : ℕ) → own_of old (k, i) ≢ None → own_of new (k, i) ≢ None
  there_still k i there none = by (same_spot (m, n) (k, i)) refl
    where
      by : (b : Bool) → same_spot (m, n) (k, i) ≡ b → ⊥
      by true same = none-some (unwrap_or (own_of old (m, n)) its) (sym none ∙ puts (k, i) ∙ ap (λ b. if b then Some (unwrap_or (own_of old (m, n)) its) else own_of old (k, i)) same)
      by false same = there (sym (puts (k, i) ∙ ap (λ b. if b then Some (unwrap_or (own_of old (m, n)) its) else own_of old (k, i)) same) ∙ none)

  there_now : own_of new (m, n) ≢ None
  there_now none = none-some (unwrap_or (own_of old (m, n)) its) (sym none ∙ puts (m, n) ∙ ap (λ b. if b then Some (unwrap_or (own_of old (m, n)) its) else own_of old (m, n)) (same_spot-same (m, n)))

  pub Holds-entry : new.lists ≡ old.lists → new.default ≡ old.default → HoldsEntries (noted ++ last ∷ []) stars names values new
  Holds-entry same_lists same_default = record {
    own = own_then;
    all = λ entry there. elim (Contains-push_cases noted last entry there) [
      | inl o ↦ let r = w.all entry o in (r.0, r.1, there_still entry.which r.0 r.2)
      | inr is ↦ subst (λ (one : NotedEntry). (i : ℕ) × (slice_get names i ≡ Some one.name) × (own_of new (one.which, i) ≢ None)) is (n, at, there_now)
    ];
    stars = same_lists ∙ w.stars;
    default = ap (slice_get names) same_default ∙ w.default;
    one_name = w.one_name;
    one_value = w.one_value;
  }

-- ---- the stars of one module more
pub Holds-stars : (noted : List NotedEntry) (stars : List (List ℕ)) (names : List Text) (values : List Value) (old new : Graph) (its : List ℕ) → new.lists ≡ old.lists ++ its ∷ [] → new.entries ≡ old.entries → new.default ≡ old.default → HoldsEntries noted stars names values old → HoldsEntries noted (stars ++ its ∷ []) names values new
Holds-stars noted stars names _ old new its lists entries default w = record {
  own = λ m n own e. w.own m n own (sym (same (m, n)) ∙ e);
  all = λ entry there. let r = w.all entry there in (r.0, r.1, λ none. r.2 (sym (same (entry.which, r.0)) ∙ none));
  stars = lists ∙ ap (λ l. l ++ its ∷ []) w.stars;
  default = ap (slice_get names) default ∙ w.default;
  one_name = w.one_name;
  one_value = w.one_value;
}
  where
    same : (at : NameSpot) → own_of new at ≡ own_of old at
    same at = ap (λ l. own_of (record old { entries = l }) at) entries

-- ---- nothing but the name that no star gives
pub Holds-nothing : (names : List Text) (values : List Value) (g : Graph) → g.entries ≡ [] → g.lists ≡ [] → slice_get names g.default ≡ Some default_name → HasNoDoubles names → HasNoDoubles values → HoldsEntries [] [] names values g
Holds-nothing names values g entries lists default one_name one_value = record {
  own = λ m n own e. absurd (none-some own (sym (ap (λ l. own_of (record g { entries = l }) (m, n)) entries) ∙ e));
  all = λ entry there. absurd (omega (arith, there.1));
  stars = lists;
  default = default;
  one_name = one_name;
  one_value = one_value;
}

-- ---- modules in turn
more_notes : (lead : ℕ → Text → Lead) (m n : ℕ) (modules : List LinkModule) (its : LinkModule) → n ≡ m + length modules → all_notes lead m (modules ++ its ∷ []) ≡ all_notes lead m modules ++ notes_of (lead n) n its.tables.now
more_notes lead m n [] its is =
    let here : m ≡ n = omega arith in
    append-nil (notes_of (lead m) m its.tables.now) ∙ ap (λ k. notes_of (lead k) k its.tables.now) here
more_notes lead m n (first ∷ rest) its is =
    ap (λ l. notes_of (lead m) m first.tables.now ++ l) (more_notes lead (suc m) n rest its (omega arith))
    ∙ sym (append_assoc (notes_of (lead m) m first.tables.now) (all_notes lead (suc m) rest) (notes_of (lead n) n its.tables.now))

more_starred : (lead : ℕ → Text → Lead) (m n : ℕ) (modules : List LinkModule) (its : LinkModule) → n ≡ m + length modules → all_starred lead m (modules ++ its ∷ []) ≡ all_starred lead m modules ++ starred (lead n) its.tables.now.stars.items ∷ []
more_starred lead m n [] its is =
    let here : m ≡ n = omega arith in
    ap (λ k. starred (lead k) its.tables.now.stars.items ∷ []) here
more_starred lead m n (first ∷ rest) its is = ap (λ l. starred (lead m) first.tables.now.stars.items ∷ l) (more_starred lead (suc m) n rest its (omega arith))

pub starred_more : (lead : ℕ → Text → Lead) (modules : List LinkModule) (n : ℕ) (its : LinkModule) → its ≡ get_or modules n its → n < length modules → all_starred lead 0 (take n modules) ++ starred (lead n) its.tables.now.stars.items ∷ [] ≡ all_starred lead 0 (take (n + 1) modules)
starred_more lead modules n its is inside =
    let long : length (take n modules) ≡ n = length-take-le n modules (omega arith) in
    let next : take (n + 1) modules ≡ take n modules ++ its ∷ [] = take_more modules n its inside ∙ ap (λ one. take n modules ++ one ∷ []) (sym is) in
    sym (ap (all_starred lead 0) next ∙ more_starred lead 0 n (take n modules) its (omega arith))

-- one module more is noted
pub Holds-module : (lead : ℕ → Text → Lead) (modules : List LinkModule) (n : ℕ) (its : LinkModule) (names : List Text) (values : List Value) (g : Graph) → its ≡ get_or modules n its → n < length modules
    → HoldsEntries (all_notes lead 0 (take n modules) ++ notes_of (lead n) n its.tables.now) (all_starred lead 0 (take n modules) ++ starred (lead n) its.tables.now.stars.items ∷ []) names values g
    → HoldsEntries (all_notes lead 0 (take (n + 1) modules)) (all_starred lead 0 (take (n + 1) modules)) names values g
Holds-module lead modules n its names values g is inside w =
    let long : length (take n modules) ≡ n = length-take-le n modules (omega arith) in
    let next : take (n + 1) modules ≡ take n modules ++ its ∷ [] = take_more modules n its inside ∙ ap (λ one. take n modules ++ one ∷ []) (sym is) in
    let here : n ≡ 0 + length (take n modules) = omega arith in
    subst (λ l. HoldsEntries (all_notes lead 0 l) (all_starred lead 0 l) names values g) (sym next)
    (subst₂ (λ noted stars. HoldsEntries noted stars names values g) (sym (more_notes lead 0 n (take n modules) its here)) (sym (more_starred lead 0 n (take n modules) its here)) w)

-- ---- as they are called for
pub Holds-next : (noted : List NotedEntry) (stars : List (List ℕ)) (n0 n1 n2 : List Text) (v0 v1 v2 : List Value) (old new : Graph) (m n : ℕ) (x : Text) (said : Said) (its : OwnLink) → Inserts n0 n1 x n → v1 ≡ v0 → IsMore n1 n2 → IsMore v1 v2 → IsSaidNumber n2 v2 said its → PutsOwn old (m, n) its new → new.lists ≡ old.lists → new.default ≡ old.default → HoldsEntries noted stars n0 v0 old → HoldsEntries (noted ++ record { which = m; name = x; said = said } ∷ []) stars n2 v2 new
Holds-next noted stars n0 n1 n2 v0 v1 v2 old new m n x said its named same more_names more_values number puts lists default w =
    let first = Holds-more noted stars n0 n1 v0 v1 old named.more (more_same v0 v1 same) w in
    let second = Holds-more noted stars n1 n2 v1 v2 old more_names more_values first in
    Holds-entry noted stars n2 v2 old new m n x said its (more_names.stays n x named.at) number puts second lists default

pub Holds-begins : (n0 names : List Text) (v0 values : List Value) (n : ℕ) (g : Graph) → n0 ≡ [] → v0 ≡ [] → Inserts n0 names default_name n → values ≡ v0 → g ≡ record { entries = []; lists = []; default = n } → HoldsEntries [] [] names values g
Holds-begins n0 names v0 values n g no_names no_values named same is =
    Holds-nothing names values g (ap (λ (g : Graph). g.entries) is) (ap (λ (g : Graph). g.lists) is)
    (ap (λ (g : Graph). slice_get names g.default) is ∙ named.at)
    (named.more.once (subst HasNoDoubles (sym no_names) (λ i j x e f. absurd (none-some x e))))
    (subst HasNoDoubles (sym (same ∙ no_values)) (λ i j x e f. absurd (none-some x e)))

pub starred_then : (lead : Text → Lead) (stars : List (Bor Text)) (i : ℕ) (d : Bor Text) (old new : List ℕ) → i < length stars → old ≡ starred lead (take i stars) → new ≡ old ++ cons_option (module_in (lead (get_or stars i d).now)) [] → new ≡ starred lead (take (i + 1) stars)
starred_then lead stars i d old new inside before now =
    now ∙ ap (λ l. l ++ cons_option (module_in (lead (get_or stars i d).now)) []) before
    ∙ sym (ap (starred lead) (take_more stars i d inside) ∙ filter_map-append (λ (star : Bor Text). module_in (lead star.now)) (take i stars) (get_or stars i d ∷ []))
