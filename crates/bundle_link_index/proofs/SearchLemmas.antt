-- What an answer keeps as more is found.
-- The search for what is given for a name is exact.
use Rattle.std.proofs.Common.{◌≡◌, ◌≢◌, ℕ, ◌==◌, Bool, true, false, refl, sym, ◌∙◌, subst, eqb-true, eq-eqb, if◌then◌else◌, zero, suc, ◌+◌, ◌<◌, ◌≤◌, ◌⊎◌, inl, inr, List, Option, [], ◌∷◌, ◌++◌, Some, None, Contains, length, take, get_or, ap, ap₂, is_some, unwrap_or, arith}
use Rattle.std.proofs.lemmas.Bool.{false≢true, cases_lt, and_from, and_parts, or_cases, or_left, or_right}
use Rattle.std.specs.Prelude.{slice_get}
use Rattle.std.specs.List.{list_any}
use Rattle.std.proofs.lemmas.List.{take_more, take_all}
use Rattle.std.proofs.lemmas.List.Elements.{Contains-push, Contains-push_cases, Contains-append_left}
use Rattle.std.proofs.lemmas.Option.{none-some, same_Some}
use Rattle.bundle_link_index.specs.declared.answer.Candidates.{Candidates}
use Rattle.bundle_link_index.specs.declared.answer.Candidates.TheVariants.{Missing, One, Two}
use Rattle.bundle_link_index.specs.Graph.{NameSpot, Graph, own_of, stars_of, same_spot, PutsOwn}
use Rattle.bundle_link_index.specs.Answers.{with_more, with_all, Has, is_two}
use Rattle.bundle_link_index.specs.Given.{Given, AreCandidatesKept, GivesAtMost, itself, led, starred, IsCandidates, IsIn, AddsMissing, IsPast, SearchSteps, Searching}
use Rattle.bundle_link_index.specs.declared.links.OwnLink.TheVariants.{Gives, Leads}
use Rattle.bundle_link_index.specs.declared.links.OwnLink.{OwnLink}

-- ---- answer

-- the second value, where the two are one or not
module _ (w v : ℕ) where
  pub one_or_two : (P : Candidates → Type 0) → (w ≡ v → P (One w)) → (w ≢ v → P (Two w v)) → P (if w == v then One w else Two w v)
  one_or_two P same other = by (w == v) refl
    where
      by : (b : Bool) → (w == v) ≡ b → P (if b then One w else Two w v)
      by true e = same (eqb-true w v e)
      by false e = other (λ is. false≢true (sym e ∙ eq-eqb w v is))

pub Has-more : (answer : Candidates) (v : ℕ) → Has (with_more answer v) v
Has-more Missing v = refl
Has-more (One w) v = one_or_two w v (λ a. Has a v) (λ e. sym e) (λ ne. tt)
Has-more (Two a b) v = tt

pub Has-kept : (answer : Candidates) (v w : ℕ) → Has answer w → Has (with_more answer v) w
Has-kept Missing v w h = absurd h
Has-kept (One x) v w h = one_or_two x v (λ a. Has a w) (λ e. h) (λ ne. tt)
Has-kept (Two a b) v w h = tt

pub IsKept-more : (g : Graph) (at : NameSpot) (answer : Candidates) (v : ℕ) → AreCandidatesKept g at answer → Given g at v → AreCandidatesKept g at (with_more answer v)
IsKept-more g at Missing v kept given = given
IsKept-more g at (One w) v kept given = one_or_two w v (λ a. AreCandidatesKept g at a) (λ e. kept) (λ ne. (kept, given, ne))
IsKept-more g at (Two a b) v kept given = kept

pub Has-all_kept : (answer other : Candidates) (w : ℕ) → Has answer w → Has (with_all answer other) w
Has-all_kept answer Missing w h = h
Has-all_kept answer (One v) w h = Has-kept answer v w h
Has-all_kept answer (Two a b) w h = Has-kept (with_more answer a) b w (Has-kept answer a w h)

-- two that differ make two, whatever was kept
two_makes : (answer : Candidates) (a b : ℕ) → a ≢ b → (w : ℕ) → Has (with_more (with_more answer a) b) w
two_makes Missing a b ne w = one_or_two a b (λ x. Has x w) (λ e. absurd (ne e)) (λ n. tt)
two_makes (One x) a b ne w = one_or_two x a (λ y. Has (with_more y b) w) (λ e. one_or_two x b (λ y. Has y w) (λ f. absurd (ne (sym e ∙ f))) (λ n. tt)) (λ n. tt)
two_makes (Two x y) a b ne w = tt

-- all of another is there
pub Has-all : (g : Graph) (at : NameSpot) (answer other : Candidates) → AreCandidatesKept g at other → (w : ℕ) → Has other w → Has (with_all answer other) w
Has-all g at answer Missing kept w h = absurd h
Has-all g at answer (One v) kept w h = subst (λ x. Has (with_more answer v) x) (sym h) (Has-more answer v)
Has-all g at answer (Two a b) kept w h = two_makes answer a b kept.2 w

pub IsKept-all : (g : Graph) (start at : NameSpot) (answer other : Candidates) → GivesAtMost g start at → AreCandidatesKept g start answer → AreCandidatesKept g at other → AreCandidatesKept g start (with_all answer other)
IsKept-all g start at answer Missing within kept its = kept
IsKept-all g start at answer (One v) within kept its = IsKept-more g start answer v kept (within v its)
IsKept-all g start at answer (Two a b) within kept its = IsKept-more g start (with_more answer a) b (IsKept-more g start answer a kept (within a its.0)) (within b its.1)

-- ---- search
module _ (g : Graph) where
  -- ---- the end: where all that is met is done, the answer has all that is given
  module _ (met : List NameSpot) (answer : Candidates) (past : (at : NameSpot) → IsIn met at → IsPast g met answer at) where
    pub Has-given : {at : NameSpot} {v : ℕ} → Given g at v → IsIn met at → Has answer v
    Has-given {at = at} {v = v} (itself e) there = elim (past at there) [ inl all ↦ all v (itself e) | inr on ↦ on.gives v e ]
    Has-given {at = at} {v = v} (led {next = next} e more) there = elim (past at there) [ inl all ↦ all v (led e more) | inr on ↦ Has-given more (on.leads next e) ]
    Has-given {at = at} {v = v} (starred {d = d} none named star more) there = elim (past at there) [ inl all ↦ all v (starred none named star more) | inr on ↦ Has-given more (on.stars none named d star) ]

  pub Searching-ends : (start : NameSpot) (met : List NameSpot) (done : ℕ) (answer : Candidates) → Searching g start met done answer → ((i : ℕ) (at : NameSpot) → slice_get met i ≡ Some at → i < done) → IsCandidates g start answer
  Searching-ends start met done answer w over = record {
    kept = w.kept;
    all = λ v given. Has-given met answer (λ at there. w.past there.0 at (over there.0 at there.1) there.1) given w.begun;
  }

  pub Searching-two : (start : NameSpot) (met : List NameSpot) (done : ℕ) (answer : Candidates) → Searching g start met done answer → is_two answer ≡ true → IsCandidates g start answer
  Searching-two start met done Missing w e = absurd (false≢true e)
  Searching-two start met done (One v) w e = absurd (false≢true e)
  Searching-two start met done (Two a b) w e = record { kept = w.kept; all = λ v given. tt }

  -- ---- the beginning
  pub Searching-begins : (start : NameSpot) (met : List NameSpot) → AddsMissing [] (λ other. other ≡ start) met → Searching g start met 0 Missing
  Searching-begins start met adds = record {
    begun = adds.there start refl;
    within = λ at there v given. elim (adds.no_more at there) [
      | inl none ↦ absurd (none-some at none.1)
      | inr e ↦ subst (λ x. Given g x v) e given
    ];
    kept = tt;
    past = λ i at h e. absurd (omega arith);
  }

  -- ---- a step
  IsPast-grows : (old new : List NameSpot) (before after : Candidates) → ((at : NameSpot) → IsIn old at → IsIn new at) → ((v : ℕ) → Has before v → Has after v) → (at : NameSpot) → IsPast g old before at → IsPast g new after at
  IsPast-grows old new before after grows has at (inl all) = inl (λ v given. has v (all v given))
  IsPast-grows old new before after grows has at (inr on) = inr (record {
    gives = λ v e. has v (on.gives v e);
    leads = λ next e. grows next (on.leads next e);
    stars = λ none named d star. grows (d, at.1) (on.stars none named d star);
  })

  pub Searching-steps : (start at : NameSpot) (old new : List NameSpot) (done : ℕ) (before after : Candidates) → Searching g start old done before → slice_get old done ≡ Some at → done < length old → ((i : ℕ) → i < length old → (other : NameSpot) × (slice_get old i ≡ Some other)) → SearchSteps g at old before new after → Searching g start new (done + 1) after
  Searching-steps start at old new done before after w here inside each step = record {
    begun = grows start w.begun;
    within = λ other there. elim (step.news other there) [
      | inl o ↦ w.within other o
      | inr within ↦ λ v given. w.within at (done, here) v (within v given)
    ];
    kept = step.kept start (w.within at (done, here)) w.kept;
    past = λ i other h e. elim (cases_lt i done) [
      | inl l ↦ earlier i other l e
      | inr ge ↦ let is : i ≡ done = omega arith in
          subst (λ x. IsPast g new after x) (same_Some at other (sym (step.stays done at here) ∙ ap (slice_get new) (sym is) ∙ e)) step.past
    ];
  }
    where
      grows : (other : NameSpot) → IsIn old other → IsIn new other
      grows other there = (there.0, step.stays there.0 other there.1)

      earlier : (i : ℕ) (other : NameSpot) → i < done → slice_get new i ≡ Some other → IsPast g new after other
      earlier i other l e =
          let its = each i (omega arith) in
          let same : its.0 ≡ other = same_Some its.0 other (sym (step.stays i its.0 its.1) ∙ e) in
          IsPast-grows old new before after grows step.has other (w.past i other l (its.1 ∙ ap (λ x. Some x) same))

  -- the kinds of steps
  module _ (at : NameSpot) (met : List NameSpot) (answer : Candidates) where
    stays_met : (i : ℕ) (other : NameSpot) → slice_get met i ≡ Some other → slice_get met i ≡ Some other
    stays_met i other e = e

    pub Steps-known : (known : Candidates) → IsCandidates g at known → SearchSteps g at met answer met (with_all answer known)
    Steps-known known right = record {
      stays = stays_met;
      news = λ other there. inl there;
      kept = λ start within kept. IsKept-all g start at answer known within kept right.kept;
      has = λ v h. Has-all_kept answer known v h;
      past = inl (λ v given. Has-all g at answer known right.kept v (right.all v given));
    }

    gives_one : (v : ℕ) → own_of g at ≡ Some (Gives v) → (w : ℕ) → own_of g at ≡ Some (Gives w) → v ≡ w
    gives_one v e w f = cc

    pub Steps-gives : (v : ℕ) → own_of g at ≡ Some (Gives v) → SearchSteps g at met answer met (with_more answer v)
    Steps-gives v e = record {
      stays = stays_met;
      news = λ other there. inl there;
      kept = λ start within kept. IsKept-more g start answer v kept (within v (itself e));
      has = λ w h. Has-kept answer v w h;
      past = inr (record {
        gives = λ w f. subst (λ x. Has (with_more answer v) x) (gives_one v e w f) (Has-more answer v);
        leads = λ next f. cc;
        stars = λ none. absurd (none-some (Gives v) (sym none ∙ e));
      });
    }

    pub Steps-leads : (next : NameSpot) → own_of g at ≡ Some (Leads next) → (new : List NameSpot) → AddsMissing met (λ other. other ≡ next) new → SearchSteps g at met answer new answer
    Steps-leads next e new adds = record {
      stays = adds.stays;
      news = λ other there. elim (adds.no_more other there) [
        | inl o ↦ inl o
        | inr is ↦ inr (λ v given. led e (subst (λ x. Given g x v) is given))
      ];
      kept = λ start within kept. kept;
      has = λ w h. h;
      past = inr (record {
        gives = λ w f. cc;
        leads = λ other f. adds.there other (other_is other f);
        stars = λ none. absurd (none-some (Leads next) (sym none ∙ e));
      });
    }
      where
        other_is : (other : NameSpot) → own_of g at ≡ Some (Leads other) → other ≡ next
        other_is other f = cc

    pub Steps-stars : own_of g at ≡ None → at.1 ≢ g.default → (new : List NameSpot) → AddsMissing met (λ other. Contains (stars_of g at.0) other.0 × (other.1 ≡ at.1)) new → SearchSteps g at met answer new answer
    Steps-stars e named new adds = record {
      stays = adds.stays;
      news = λ other there. elim (adds.no_more other there) [
        | inl o ↦ inl o
        | inr star ↦ inr (λ v given. starred e named star.0 (subst (λ x. Given g (other.0, x) v) star.1 given))
      ];
      kept = λ start within kept. kept;
      has = λ w h. h;
      past = inr (record {
        gives = λ w f. absurd (none-some (Gives w) (sym e ∙ f));
        leads = λ next f. absurd (none-some (Leads next) (sym e ∙ f));
        stars = λ none other_named d star. adds.there (d, at.1) (star, refl);
      });
    }

-- ---- names that are put at the end of a list
pub Adds-nothing : {A : Type 0} (list : List A) (Those : A → Type 0) → ((at : A) → Those at → IsIn list at) → AddsMissing list Those list
Adds-nothing list Those there = record { stays = λ i at e. e; there = there; no_more = λ at h. inl h }

-- after some, more
pub Adds-more : {A : Type 0} (old next new : List A) (Some_of Those All : A → Type 0) → AddsMissing old Some_of next → AddsMissing next Those new → ((at : A) → All at → Some_of at ⊎ Those at) → ((at : A) → Some_of at → All at) → ((at : A) → Those at → All at) → AddsMissing old All new
Adds-more old next new Some_of Those All first second splits from_first from_second = record {
  stays = λ i at e. second.stays i at (first.stays i at e);
  there = λ at h. elim (splits at h) [ inl a ↦ let p = first.there at a in (p.0, second.stays p.0 at p.1) | inr b ↦ second.there at b ];
  no_more = λ at h. elim (second.no_more at h) [
    | inl o ↦ elim (first.no_more at o) [ inl n ↦ inl n | inr a ↦ inr (from_first at a) ]
    | inr b ↦ inr (from_second at b)
  ];
}

pub get_push : {A : Type 0} (ks : List A) (k : A) (i : ℕ) (at : A) → slice_get (ks ++ k ∷ []) i ≡ Some at → IsIn ks at ⊎ (at ≡ k)
get_push [] k zero at e = inr (sym (same_Some k at e))
get_push [] k (suc i) at e = absurd (none-some at e)
get_push (x ∷ xs) k zero at e = inl (0, e)
get_push (x ∷ xs) k (suc i) at e = elim (get_push xs k i at e) [ inl o ↦ inl (suc o.0, o.1) | inr r ↦ inr r ]

pub get_still : {A : Type 0} (ks : List A) (k : A) (i : ℕ) (at : A) → slice_get ks i ≡ Some at → slice_get (ks ++ k ∷ []) i ≡ Some at
get_still [] k i at e = absurd (none-some at e)
get_still (x ∷ xs) k zero at e = e
get_still (x ∷ xs) k (suc i) at e = get_still xs k i at e

pub get_last : {A : Type 0} (ks : List A) (k : A) → IsIn (ks ++ k ∷ []) k
get_last [] k = (0, refl)
get_last (x ∷ xs) k = let r = get_last xs k in (suc r.0, r.1)

pub same_spot-true : (a b : NameSpot) → same_spot a b ≡ true → a ≡ b
same_spot-true a b e = both (and_parts (a.0 == b.0) (a.1 == b.1) e)
  where
    both : ((a.0 == b.0) ≡ true) × ((a.1 == b.1) ≡ true) → a ≡ b
    both is = ap₂ (λ (x : ℕ) (y : ℕ). let at : NameSpot = (x, y) in at) (eqb-true a.0 b.0 is.0) (eqb-true a.1 b.1 is.1)

pub same_spot-same : (a : NameSpot) → same_spot a a ≡ true
same_spot-same a = and_from (a.0 == a.0) (a.1 == a.1) (eq-eqb a.0 a.0 refl) (eq-eqb a.1 a.1 refl)

-- what a set tells is there
module _ {A : Type 0} (same : A → A → Bool) (is_same : (a b : A) → same a b ≡ true → a ≡ b) (itself_same : (a : A) → same a a ≡ true) where
  pub there_from_any : (at : A) (keys : List A) → list_any (same at) keys ≡ true → IsIn keys at
  there_from_any at [] e = absurd (false≢true e)
  there_from_any at (x ∷ xs) e = by (or_cases (same at x) (list_any (same at) xs) e) (there_from_any at xs)
    where
      by : (same at x ≡ true) ⊎ (list_any (same at) xs ≡ true) → (list_any (same at) xs ≡ true → IsIn xs at) → IsIn (x ∷ xs) at
      by (inl here) ih = (0, ap (λ y. Some y) (sym (is_same at x here)))
      by (inr later) ih = let r = ih later in (suc r.0, r.1)

  -- and what is there it tells
  pub any_from_there : (at : A) (keys : List A) (i : ℕ) → slice_get keys i ≡ Some at → list_any (same at) keys ≡ true
  any_from_there at [] i e = absurd (none-some at e)
  any_from_there at (x ∷ xs) zero e = or_left (same at x) (list_any (same at) xs) (subst (λ y. same at y ≡ true) (sym (same_Some x at e)) (itself_same at))
  any_from_there at (x ∷ xs) (suc i) e = or_right (same at x) (list_any (same at) xs) (any_from_there at xs i e)

  -- what is put
  pub Adds-one : (keys : List A) (at : A) (new : List A) → new ≡ (if list_any (same at) keys then keys else keys ++ at ∷ []) → AddsMissing keys (λ other. other ≡ at) new
  Adds-one keys at new e = subst (AddsMissing keys (λ other. other ≡ at)) (sym e) (by (list_any (same at) keys) refl)
    where
      by : (b : Bool) → list_any (same at) keys ≡ b → AddsMissing keys (λ other. other ≡ at) (if b then keys else keys ++ at ∷ [])
      by true is = Adds-nothing keys (λ other. other ≡ at) (λ other e. subst (IsIn keys) (sym e) (there_from_any at keys is))
      by false is = record {
        stays = λ i other h. get_still keys at i other h;
        there = λ other e. subst (IsIn (keys ++ at ∷ [])) (sym e) (get_last keys at);
        no_more = λ other h. get_push keys at h.0 other h.1;
      }

pub Adds-put : (keys : List NameSpot) (at : NameSpot) (new : List NameSpot) → new ≡ (if list_any (same_spot at) keys then keys else keys ++ at ∷ []) → AddsMissing keys (λ other. other ≡ at) new
Adds-put keys at new e = Adds-one same_spot same_spot-true same_spot-same keys at new e

-- each place of a list has a name
pub each_place : {A : Type 0} (list : List A) (i : ℕ) → i < length list → (at : A) × (slice_get list i ≡ Some at)
each_place [] i h = absurd (omega arith)
each_place (x ∷ xs) zero h = (x, refl)
each_place (x ∷ xs) (suc i) h = each_place xs i (omega arith)

-- one more star is put
pub Adds-star : (old met new : List NameSpot) (stars : List ℕ) (i name : ℕ) → i < length stars → AddsMissing old (λ at. Contains (take i stars) at.0 × (at.1 ≡ name)) met → AddsMissing met (λ other. other ≡ (get_or stars i 0, name)) new → AddsMissing old (λ at. Contains (take (i + 1) stars) at.0 × (at.1 ≡ name)) new
Adds-star old met new stars i name h first second = Adds-more old met new (λ at. Contains (take i stars) at.0 × (at.1 ≡ name)) (λ other. other ≡ (get_or stars i 0, name)) (λ at. Contains (take (i + 1) stars) at.0 × (at.1 ≡ name)) first second splits (λ at a. (grown at.0 (Contains-append_left (take i stars) (get_or stars i 0 ∷ []) at.0 a.0), a.1)) (λ at b. (subst (λ (x : NameSpot). Contains (take (i + 1) stars) x.0) (sym b) (grown (get_or stars i 0) (Contains-push (take i stars) (get_or stars i 0))), ap (λ (x : NameSpot). x.1) b))
  where
    more : take (i + 1) stars ≡ take i stars ++ get_or stars i 0 ∷ []
    more = take_more stars i 0 h

    grown : (x : ℕ) → Contains (take i stars ++ get_or stars i 0 ∷ []) x → Contains (take (i + 1) stars) x
    grown x there = subst (λ l. Contains l x) (sym more) there

    splits : (at : NameSpot) → Contains (take (i + 1) stars) at.0 × (at.1 ≡ name) → (Contains (take i stars) at.0 × (at.1 ≡ name)) ⊎ (at ≡ (get_or stars i 0, name))
    splits at all = elim (Contains-push_cases (take i stars) (get_or stars i 0) at.0 (subst (λ l. Contains l at.0) more all.0)) [
      | inl o ↦ inl (o, all.1)
      | inr e ↦ inr (ap₂ (λ (x : ℕ) (y : ℕ). let spot : NameSpot = (x, y) in spot) (sym e) all.1)
    ]

pub Adds-stars : (old met : List NameSpot) (stars : List ℕ) (i name : ℕ) → length stars ≤ i → AddsMissing old (λ at. Contains (take i stars) at.0 × (at.1 ≡ name)) met → AddsMissing old (λ at. Contains stars at.0 × (at.1 ≡ name)) met
Adds-stars old met stars i name h adds = subst (λ l. AddsMissing old (λ (at : NameSpot). Contains l at.0 × (at.1 ≡ name)) met) (take_all i stars h) adds

-- ---- entries that are noted
pub PutsOwn-there : (old : Graph) (at : NameSpot) (own : OwnLink) → is_some (own_of old at) ≡ true → PutsOwn old at own old
PutsOwn-there old at own there other = by (same_spot at other) refl
  where
    filled : (o : Option OwnLink) → is_some o ≡ true → o ≡ Some (unwrap_or o own)
    filled None e = absurd (false≢true e)
    filled (Some x) e = refl

    by : (b : Bool) → same_spot at other ≡ b → own_of old other ≡ (if b then Some (unwrap_or (own_of old at) own) else own_of old other)
    by true is = ap (own_of old) (sym (same_spot-true at other is)) ∙ filled (own_of old at) there
    by false is = refl

pub PutsOwn-new : (old new : Graph) (at : NameSpot) (own : OwnLink) → is_some (own_of old at) ≡ false → ((q : NameSpot) → own_of new q ≡ (if same_spot at q then Some own else own_of old q)) → PutsOwn old at own new
PutsOwn-new old new at own none reads other = reads other ∙ ap (λ (x : OwnLink). if same_spot at other then Some x else own_of old other) (empty (own_of old at) none)
  where
    empty : (o : Option OwnLink) → is_some o ≡ false → own ≡ unwrap_or o own
    empty None e = refl
    empty (Some x) e = absurd (false≢true (sym e))
