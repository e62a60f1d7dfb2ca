-- Where stars lead from a module to one module at most that has an own entry of a name, what is given for the name is what that one gives: so a search need not walk along the stars.
-- Names that lead to one other alone give the same.
-- The modules to which stars lead are found, and so are those that have an entry of a name.
use Rattle.std.proofs.Common.{◌≡◌, ◌≢◌, ℕ, Option, Some, None, refl, sym, ◌∙◌, subst, zero, suc, ◌<◌, ◌⊎◌, inl, inr, Bool, true, false, List, [], ◌∷◌, Contains, length, get_or, ap, if◌then◌else◌, arith, ◌+◌, ◌≤◌, nat_eq, cond, ◌++◌, take, unwrap_or, eqb-true, eq-eqb}
use Rattle.std.proofs.lemmas.Option.{none-some, same_Some, slice_get_within}
use Rattle.std.specs.Prelude.{slice_get, map}
use Rattle.std.specs.Map.{lookup, set_value, keys_of}
use Rattle.std.proofs.lemmas.List.Elements.{Contains-push, Contains-push_cases, Contains-append_left, Contains-append_right}
use Rattle.std.specs.List.{list_any}
use Rattle.std.specs.declared.vec.Vec.{Vec}
use Rattle.std.specs.declared.alloc.Global.{Global}
use Rattle.std.proofs.lemmas.List.{take_more, take_all}
use Rattle.std.proofs.lemmas.Bool.{false≢true, cases_lt}
use Rattle.indexmap.specs.IndexMap.{insert_entry}
use Rattle.bundle_order_graph.specs.Walks.{Reaches, itself as here, along}
use Rattle.bundle_link_index.specs.declared.links.OwnLink.{OwnLink}
use Rattle.bundle_link_index.specs.declared.links.OwnLink.TheVariants.{Gives, Leads}
use Rattle.bundle_link_index.specs.Graph.{NameSpot, Graph, own_of, stars_of, same_spot}
use Rattle.bundle_link_index.specs.Given.{Given, itself, led, starred, GivesAtMost, AreCandidatesKept, IsCandidates, AreAnswersRight, IsIn, AddsMissing, NotesAnswer}
use Rattle.bundle_link_index.specs.Reached.{Starring, HasOwn, IsReach, HasReach, AreStarsWithin, ExtendsReach, TellsHolder, SameGiven, InLine, AnswersAll, Reaching, HeldNames, AreHeld, held_entry, holders_of, put_name, AreAllHeld, TellsAmong}
use Rattle.bundle_link_index.specs.declared.answer.Candidates.{Candidates}
use Rattle.bundle_link_index.specs.declared.answer.Candidates.TheVariants.{Missing, One, Two}
use Rattle.bundle_link_index.proofs.SearchLemmas.{same_spot-true, Adds-one, Adds-more, there_from_any, any_from_there, each_place, one_or_two}
use Rattle.bundle_link_index.specs.Answers.{with_more}

-- ---- far
module _ (g : Graph) where
  own_is : (at : NameSpot) (own : OwnLink) → own_of g at ≡ Some own → HasOwn g at.1 at.0
  own_is at own e none = none-some own (sym none ∙ e)

  -- what the only one gives is given
  pub onto_only : (n h : ℕ) → n ≢ g.default → {m : ℕ} → Reaches (Starring g) m h → ((k : ℕ) → Reaches (Starring g) m k → HasOwn g n k → k ≡ h) → GivesAtMost g (m, n) (h, n)
  onto_only n h named here only v given = given
  onto_only n h named {m = m} (along {b = b} star path) only v given = by (own_of g (m, n)) refl (onto_only n h named path (λ k p held. only k (along star p) held) v given)
    where
      by : (o : Option OwnLink) → own_of g (m, n) ≡ o → Given g (b, n) v → Given g (m, n) v
      by None e more = starred e named star more
      by (Some own) e more = subst (λ k. Given g (k, n) v) (sym (only m here (own_is (m, n) own e))) given

  -- and what is given is given by it
  pub from_only : (h : ℕ) {at : NameSpot} {v : ℕ} → Given g at v → ((k : ℕ) → Reaches (Starring g) at.0 k → HasOwn g at.1 k → k ≡ h) → Given g (h, at.1) v
  from_only h {at = at} {v = v} (itself e) only = subst (λ k. Given g (k, at.1) v) (only at.0 here (own_is at (Gives v) e)) (itself e)
  from_only h {at = at} {v = v} (led {next = next} e more) only = subst (λ k. Given g (k, at.1) v) (only at.0 here (own_is at (Leads next) e)) (led e more)
  from_only h (starred none other star more) only = from_only h more (λ k p held. only k (along star p) held)

  -- where there is none, nothing is given
  pub none_reached : {at : NameSpot} {v : ℕ} → Given g at v → ((k : ℕ) → Reaches (Starring g) at.0 k → HasOwn g at.1 k → ⊥) → ⊥
  none_reached {at = at} {v = v} (itself e) none = none at.0 here (own_is at (Gives v) e)
  none_reached {at = at} (led {next = next} e more) none = none at.0 here (own_is at (Leads next) e)
  none_reached (starred none_own other star more) none = none_reached more (λ k p held. none k (along star p) held)

-- ---- line
the_one : (d star : ℕ) → Contains (star ∷ []) d → d ≡ star
the_one d star there = elim (Contains-push_cases [] star d there) [ inl o ↦ absurd (omega (arith, o.1)) | inr e ↦ sym e ]

module _ (g : Graph) where
  -- ---- where a name leads
  pub alone_by_entry : (at next : NameSpot) → own_of g at ≡ Some (Leads next) → SameGiven g at next
  alone_by_entry at next e = record { from = λ v given. led e given; onto = λ v given. by given e }
    where
      by : {at : NameSpot} {v : ℕ} → Given g at v → own_of g at ≡ Some (Leads next) → Given g next v
      by (itself f) e = cc
      by {v = v} (led {next = other} f more) e = let same : other ≡ next = cc in subst (λ x. Given g x v) same more
      by (starred none other star more) e = absurd (none-some (Leads next) (sym none ∙ e))

  -- the value that its own entry gives is the answer for a name
  pub own-answer : (at : NameSpot) (v : ℕ) → own_of g at ≡ Some (Gives v) → IsCandidates g at (One v)
  own-answer at v e = record { kept = itself e; all = λ w given. by given e }
    where
      by : {at : NameSpot} {w : ℕ} → Given g at w → own_of g at ≡ Some (Gives v) → w ≡ v
      by (itself f) e = cc
      by (led f more) e = cc
      by (starred none other star more) e = absurd (none-some (Gives v) (sym none ∙ e))

  pub alone_by_star : (m n star : ℕ) → own_of g (m, n) ≡ None → n ≢ g.default → stars_of g m ≡ star ∷ [] → SameGiven g (m, n) (star, n)
  alone_by_star m n star e named only = record {
    from = λ v given. starred e named (subst (λ l. Contains l star) (sym only) (Contains-push [] star)) given;
    onto = λ v given. by given e only;
  }
    where
      by : {at : NameSpot} {v : ℕ} → Given g at v → own_of g at ≡ None → stars_of g at.0 ≡ star ∷ [] → Given g (star, at.1) v
      by {v = v} (itself f) e only = absurd (none-some (Gives v) (sym e ∙ f))
      by (led {next = next} f more) e only = absurd (none-some (Leads next) (sym e ∙ f))
      by {at = at} {v = v} (starred {d = d} none other there more) e only = subst (λ x. Given g (x, at.1) v) (the_one d star (subst (λ l. Contains l d) only there)) more

  pub alone_by_holder : (m n : ℕ) (list : List ℕ) → own_of g (m, n) ≡ None → n ≢ g.default → HasReach g m list → (h : ℕ) → TellsHolder g list n (One h) → SameGiven g (m, n) (h, n)
  alone_by_holder m n list e named reach h tells = record {
    from = onto_only g n h named (reach.reached h tells.0) only;
    onto = λ v given. from_only g h given only;
  }
    where
      only : (k : ℕ) → Reaches (Starring g) m k → HasOwn g n k → k ≡ h
      only k path own = tells.1 k (reach.all k path) own

  pub none_by_holder : (m n : ℕ) (list : List ℕ) → HasReach g m list → TellsHolder g list n Missing → (v : ℕ) → Given g (m, n) v → ⊥
  none_by_holder m n list reach tells v given = none_reached g given (λ k path own. tells k (reach.all k path) own)

  -- ---- answers
  kept_of_same : (a b : NameSpot) (answer : Candidates) → SameGiven g a b → AreCandidatesKept g b answer → AreCandidatesKept g a answer
  kept_of_same a b Missing same kept = tt
  kept_of_same a b (One v) same kept = same.from v kept
  kept_of_same a b (Two v w) same kept = (same.from v kept.0, same.from w kept.1, kept.2)

  pub answer_of_same : (a b : NameSpot) (answer : Candidates) → SameGiven g a b → IsCandidates g b answer → IsCandidates g a answer
  answer_of_same a b answer same right = record { kept = kept_of_same a b answer same right.kept; all = λ v given. right.all v (same.onto v given) }

  pub missing_answer : (at : NameSpot) → ((v : ℕ) → Given g at v → ⊥) → IsCandidates g at Missing
  missing_answer at none = record { kept = tt; all = none }

  -- ---- the line
  pub SameGiven-itself : (at : NameSpot) → SameGiven g at at
  SameGiven-itself at = record { from = λ v given. given; onto = λ v given. given }

  SameGiven-along : (a b c : NameSpot) → SameGiven g a b → SameGiven g b c → SameGiven g a c
  SameGiven-along a b c one other = record { from = λ v given. one.from v (other.from v given); onto = λ v given. other.onto v (one.onto v given) }

  pub InLine-puts : (at end : NameSpot) (old new : List NameSpot) → InLine g at old end → AddsMissing old (λ other. other ≡ end) new → InLine g at new end
  InLine-puts at end old new w adds = record {
    start = w.start;
    each = λ other there. elim (adds.no_more other there) [
      | inl o ↦ w.each other o
      | inr e ↦ subst (λ x. SameGiven g x end) (sym e) (SameGiven-itself end)
    ];
  }

  pub InLine-steps : (at end next : NameSpot) (line : List NameSpot) → InLine g at line end → SameGiven g end next → InLine g at line next
  InLine-steps at end next line w same = record {
    start = SameGiven-along at end next w.start same;
    each = λ other there. SameGiven-along other end next (w.each other there) same;
  }

  pub InLine-ends : (at end : NameSpot) (line : List NameSpot) (answer : Candidates) → InLine g at line end → IsCandidates g end answer → AnswersAll g at line answer
  InLine-ends at end line answer w right = record {
    start = answer_of_same at end answer w.start right;
    each = λ other there. answer_of_same other end answer (w.each other there) right;
  }

  -- ---- what is noted
  pub AreAnswers-notes : (at : NameSpot) (line : List NameSpot) (answer : Candidates) (old new : List (NameSpot × Candidates)) → AreAnswersRight g old → AnswersAll g at line answer → NotesAnswer old line answer new → AreAnswersRight g new
  AreAnswers-notes at line answer old new right all notes q its e = elim (notes q its e) [
    | inl o ↦ right q its o
    | inr n ↦ subst (λ a. IsCandidates g q a) (sym n.1) (all.each q n.0)
  ]

-- each place of a list has its name
place_of : (line : List NameSpot) (i : ℕ) (d : NameSpot) → i < length line → slice_get line i ≡ Some (get_or line i d)
place_of [] i d h = absurd (omega arith)
place_of (x ∷ xs) zero d h = refl
place_of (x ∷ xs) (suc i) d h = place_of xs i d (omega arith)

-- one more is noted
pub Notes-more : (old mid new : List (NameSpot × Candidates)) (line : List NameSpot) (answer : Candidates) (i : ℕ) (d : NameSpot) → i < length line → NotesAnswer old line answer mid → ((q : NameSpot) → lookup (same_spot q) new ≡ (if same_spot (get_or line i d) q then Some answer else lookup (same_spot q) mid)) → NotesAnswer old line answer new
Notes-more old mid new line answer i d h notes reads q its e = by (same_spot (get_or line i d) q) refl
  where
    by : (b : Bool) → same_spot (get_or line i d) q ≡ b → (lookup (same_spot q) old ≡ Some its) ⊎ (IsIn line q × (its ≡ answer))
    by true is = inr (
      (i, place_of line i d h ∙ ap (λ x. Some x) (same_spot-true (get_or line i d) q is)),
      sym (same_Some answer its (sym (reads q ∙ ap (λ t. if t then Some answer else lookup (same_spot q) mid) is) ∙ e)),
    )
    by false is = notes q its (sym (reads q ∙ ap (λ t. if t then Some answer else lookup (same_spot q) mid) is) ∙ e)

-- ---- sets of modules
nat_same : (a b : ℕ) → nat_eq a b ≡ true → a ≡ b
nat_same a b e = eqb-true a b e

nat_itself : (a : ℕ) → nat_eq a a ≡ true
nat_itself a = eq-eqb a a refl

pub Adds-module : (keys : List ℕ) (at : ℕ) (new : List ℕ) → new ≡ (if list_any (nat_eq at) keys then keys else keys ++ at ∷ []) → AddsMissing keys (λ other. other ≡ at) new
Adds-module keys at new e = Adds-one nat_eq nat_same nat_itself keys at new e

pub told_there : (at : ℕ) (keys : List ℕ) → list_any (nat_eq at) keys ≡ true → IsIn keys at
told_there at keys e = there_from_any nat_eq nat_same nat_itself at keys e

pub told_absent : (at : ℕ) (keys : List ℕ) → list_any (nat_eq at) keys ≡ false → IsIn keys at → ⊥
told_absent at keys e there = false≢true (sym e ∙ any_from_there nat_eq nat_same nat_itself at keys there.0 there.1)

-- one more module is put
pub Adds-next : (old met new these : List ℕ) (i : ℕ) → i < length these → AddsMissing old (λ at. Contains (take i these) at) met → AddsMissing met (λ other. other ≡ get_or these i 0) new → AddsMissing old (λ at. Contains (take (i + 1) these) at) new
Adds-next old met new these i h first second = Adds-more old met new (λ at. Contains (take i these) at) (λ other. other ≡ get_or these i 0) (λ at. Contains (take (i + 1) these) at) first second splits (λ at a. grown at (Contains-append_left (take i these) (get_or these i 0 ∷ []) at a)) (λ at b. subst (Contains (take (i + 1) these)) (sym b) (grown (get_or these i 0) (Contains-push (take i these) (get_or these i 0))))
  where
    more : take (i + 1) these ≡ take i these ++ get_or these i 0 ∷ []
    more = take_more these i 0 h

    grown : (x : ℕ) → Contains (take i these ++ get_or these i 0 ∷ []) x → Contains (take (i + 1) these) x
    grown x there = subst (λ l. Contains l x) (sym more) there

    splits : (at : ℕ) → Contains (take (i + 1) these) at → Contains (take i these) at ⊎ (at ≡ get_or these i 0)
    splits at all = elim (Contains-push_cases (take i these) (get_or these i 0) at (subst (λ l. Contains l at) more all)) [
      | inl o ↦ inl o
      | inr e ↦ inr (sym e)
    ]

pub Adds-every : (old met these : List ℕ) (i : ℕ) → length these ≤ i → AddsMissing old (λ at. Contains (take i these) at) met → AddsMissing old (Contains these) met
Adds-every old met these i h adds = subst (λ l. AddsMissing old (λ (at : ℕ). Contains l at) met) (take_all i these h) adds

-- ---- where stars lead
module _ (g : Graph) (start : ℕ) where
  onward : {a b : ℕ} → Reaches (Starring g) a b → (c : ℕ) → Starring g b c → Reaches (Starring g) a c
  onward here c star = along star here
  onward (along first path) c star = along first (onward path c star)

  -- of what was reached before, where nothing was
  pub Reach-of : (list : List ℕ) → ExtendsReach g start [] list → IsReach g start list
  Reach-of list e = record {
    first = e.first refl;
    reached = λ k there. elim (e.no_more k there) [
      | inl none ↦ absurd (none-some k none.1)
      | inr path ↦ path
    ];
    all = e.all;
  }

  pub none-within : (old : List ℕ) → old ≡ [] → AreStarsWithin g old
  none-within old none k d there star = absurd (none-some k (subst (λ l. slice_get l there.0 ≡ Some k) none there.1))

  -- what one reaches is with the stars
  pub reach-within : (known : ℕ) (list : List ℕ) → HasReach g known list → AreStarsWithin g list
  reach-within known list its k d there star = its.all d (onward (its.reached k there) d star)

  -- what a module reaches that stars another is what that one reaches, and what stars lead to from it
  pub Reach-extended : (known : ℕ) (old new : List ℕ) → Starring g start known → HasReach g known old → ExtendsReach g start old new → HasReach g start new
  Reach-extended known old new star its e = record {
    reached = λ k there. elim (e.no_more k there) [
      | inl early ↦ along star (its.reached k early)
      | inr path ↦ path
    ];
    all = e.all;
  }

  first_is : (list : List ℕ) → AddsMissing [] (λ other. other ≡ start) list → slice_get list 0 ≡ Some start
  first_is list adds =
      let there = adds.there start refl in
      let place = each_place list 0 (omega (arith, slice_get_within list there.0 start there.1)) in
      elim (adds.no_more place.0 (0, place.1)) [
        | inl none ↦ absurd (none-some place.0 none.1)
        | inr e ↦ place.1 ∙ ap (λ x. Some x) e
      ]

  pub Reaching-begins : (old list : List ℕ) → AreStarsWithin g old → AddsMissing old (λ other. other ≡ start) list → Reaching g start old list (length old)
  Reaching-begins old list within adds = record {
    first = λ none. first_is list (subst (λ l. AddsMissing l (λ other. other ≡ start) list) none adds);
    begun = adds.there start refl;
    no_more = λ k there. elim (adds.no_more k there) [
      | inl o ↦ inl o
      | inr e ↦ inr (subst (Reaches (Starring g) start) (sym e) here)
    ];
    past = λ i k h e d star.
        let its = each_place old i h in
        let same : its.0 ≡ k = same_Some its.0 k (sym (adds.stays i its.0 its.1) ∙ e) in
        let there = within k d (i, its.1 ∙ ap (λ x. Some x) same) star in
        (there.0, adds.stays there.0 d there.1);
  }

  pub Reaching-steps : (first old new : List ℕ) (done next : ℕ) → AreStarsWithin g first → Reaching g start first old done → slice_get old done ≡ Some next → ((i : ℕ) → i < done → (k : ℕ) × (slice_get old i ≡ Some k)) → AddsMissing old (Contains (stars_of g next)) new → Reaching g start first new (done + 1)
  Reaching-steps first old new done next within w at each adds = record {
    first = λ none. adds.stays 0 start (w.first none);
    begun = (w.begun.0, adds.stays w.begun.0 start w.begun.1);
    no_more = λ k there. elim (adds.no_more k there) [
      | inl o ↦ w.no_more k o
      | inr star ↦ elim (w.no_more next (done, at)) [
        | inl early ↦ inl (within next k early star)
        | inr path ↦ inr (onward path k star)
      ]
    ];
    past = λ i k h e d star. elim (cases_lt i done) [
      | inl l ↦ let its = each i l in
          let same : its.0 ≡ k = same_Some its.0 k (sym (adds.stays i its.0 its.1) ∙ e) in
          let there = w.past i k l (its.1 ∙ ap (λ x. Some x) same) d star in
          (there.0, adds.stays there.0 d there.1)
      | inr ge ↦ let is : i ≡ done = omega arith in
          adds.there d (subst (λ x. Starring g x d) (same_Some k next (sym e ∙ ap (slice_get new) is ∙ adds.stays done next at)) star)
    ];
  }

  pub Reaching-ends : (old list : List ℕ) (done : ℕ) → Reaching g start old list done → ((i k : ℕ) → slice_get list i ≡ Some k → i < done) → ExtendsReach g start old list
  Reaching-ends old list done w over = record { first = w.first; no_more = w.no_more; all = λ k path. from path w.begun }
    where
      from : {a k : ℕ} → Reaches (Starring g) a k → IsIn list a → IsIn list k
      from here there = there
      from {a = a} (along {b = b} star path) there = from path (w.past there.0 a (over there.0 a there.1) there.1 b star)

-- ---- the modules of a name
pub put_there : (held : HeldNames) (n m : ℕ) → Contains (holders_of (put_name held n m) n) m
put_there [] n m = by (nat_eq n n) (nat_itself n)
  where
    by : (b : Bool) → b ≡ true → Contains (unwrap_or (cond b (Some (m ∷ [])) None) []) m
    by true e = Contains-push [] m
    by false e = absurd (false≢true e)
put_there ((k, its) ∷ rest) n m = by (nat_eq n k) refl (put_there rest n m)
  where
    by : (b : Bool) → nat_eq n k ≡ b → Contains (holders_of (put_name rest n m) n) m → Contains (holders_of (if b then (k, its ++ m ∷ []) ∷ rest else (k, its) ∷ put_name rest n m) n) m
    by true e ih = subst (λ (b : Bool). Contains (unwrap_or (cond b (Some (its ++ m ∷ [])) (lookup (nat_eq n) rest)) []) m) (sym e) (Contains-push its m)
    by false e ih = subst (λ (b : Bool). Contains (unwrap_or (cond b (Some its) (lookup (nat_eq n) (put_name rest n m))) []) m) (sym e) ih

pub put_stays : (held : HeldNames) (n m other k : ℕ) → Contains (holders_of held other) k → Contains (holders_of (put_name held n m) other) k
put_stays [] n m other k there = absurd (omega (arith, there.1))
put_stays ((x, its) ∷ rest) n m other k there = by (nat_eq n x) (nat_eq other x) refl (λ t. put_stays rest n m other k t) there
  where
    by : (b c : Bool) → nat_eq other x ≡ c → (Contains (holders_of rest other) k → Contains (holders_of (put_name rest n m) other) k)
        → Contains (unwrap_or (cond c (Some its) (lookup (nat_eq other) rest)) []) k
        → Contains (holders_of (if b then (x, its ++ m ∷ []) ∷ rest else (x, its) ∷ put_name rest n m) other) k
    by true true e ih t = subst (λ (c : Bool). Contains (unwrap_or (cond c (Some (its ++ m ∷ [])) (lookup (nat_eq other) rest)) []) k) (sym e) (Contains-append_left its (m ∷ []) k t)
    by true false e ih t = subst (λ (c : Bool). Contains (unwrap_or (cond c (Some (its ++ m ∷ [])) (lookup (nat_eq other) rest)) []) k) (sym e) t
    by false true e ih t = subst (λ (c : Bool). Contains (unwrap_or (cond c (Some its) (lookup (nat_eq other) (put_name rest n m))) []) k) (sym e) t
    by false false e ih t = subst (λ (c : Bool). Contains (unwrap_or (cond c (Some its) (lookup (nat_eq other) (put_name rest n m))) []) k) (sym e) (ih t)

-- as a program keeps them
pub held_some : (es : List (ℕ × Vec ℕ Global)) (n : ℕ) (v : Vec ℕ Global) → lookup (nat_eq n) es ≡ Some v → holders_of (map held_entry es) n ≡ v.items
held_some [] n v e = absurd (none-some v e)
held_some (x ∷ es) n v e = by (nat_eq n x.0) (λ t. held_some es n v t) e
  where
    by : (b : Bool) → (lookup (nat_eq n) es ≡ Some v → holders_of (map held_entry es) n ≡ v.items) → cond b (Some x.1) (lookup (nat_eq n) es) ≡ Some v → unwrap_or (cond b (Some x.1.items) (lookup (nat_eq n) (map held_entry es))) [] ≡ v.items
    by true ih t = ap (λ (w : Vec ℕ Global). w.items) (same_Some x.1 v t)
    by false ih t = ih t

pub held_none : (es : List (ℕ × Vec ℕ Global)) (n : ℕ) → lookup (nat_eq n) es ≡ None → holders_of (map held_entry es) n ≡ []
held_none [] n e = refl
held_none (x ∷ es) n e = by (nat_eq n x.0) (λ t. held_none es n t) e
  where
    by : (b : Bool) → (lookup (nat_eq n) es ≡ None → holders_of (map held_entry es) n ≡ []) → cond b (Some x.1) (lookup (nat_eq n) es) ≡ None → unwrap_or (cond b (Some x.1.items) (lookup (nat_eq n) (map held_entry es))) [] ≡ []
    by true ih t = absurd (none-some x.1 (sym t))
    by false ih t = ih t

pub put_written : (es : List (ℕ × Vec ℕ Global)) (n m : ℕ) (v w : Vec ℕ Global) → lookup (nat_eq n) es ≡ Some v → w.items ≡ v.items ++ m ∷ [] → map held_entry (set_value (nat_eq n) es w) ≡ put_name (map held_entry es) n m
put_written [] n m v w there is = absurd (none-some v there)
put_written (e ∷ es) n m v w there is = by (nat_eq n e.0) (λ t. put_written es n m v w t is) there
  where
    by : (b : Bool) → (lookup (nat_eq n) es ≡ Some v → map held_entry (set_value (nat_eq n) es w) ≡ put_name (map held_entry es) n m) → cond b (Some e.1) (lookup (nat_eq n) es) ≡ Some v
        → map held_entry (cond b ((e.0, w) ∷ es) (e ∷ set_value (nat_eq n) es w)) ≡ (if b then (e.0, e.1.items ++ m ∷ []) ∷ map held_entry es else (e.0, e.1.items) ∷ put_name (map held_entry es) n m)
    by true ih t = ap (λ its. (e.0, its) ∷ map held_entry es) (is ∙ ap (λ (u : Vec ℕ Global). u.items ++ m ∷ []) (sym (same_Some e.1 v t)))
    by false ih t = ap (λ l. (e.0, e.1.items) ∷ l) (ih t)

pub put_inserted : (es : List (ℕ × Vec ℕ Global)) (n m : ℕ) (w : Vec ℕ Global) → lookup (nat_eq n) es ≡ None → w.items ≡ m ∷ [] → map held_entry (insert_entry nat_eq es n w) ≡ put_name (map held_entry es) n m
put_inserted [] n m w none is = ap (λ its. (n, its) ∷ []) is
put_inserted (e ∷ es) n m w none is = by (nat_eq n e.0) (λ t. put_inserted es n m w t is) none
  where
    by : (b : Bool) → (lookup (nat_eq n) es ≡ None → map held_entry (insert_entry nat_eq es n w) ≡ put_name (map held_entry es) n m) → cond b (Some e.1) (lookup (nat_eq n) es) ≡ None
        → map held_entry (if b then (e.0, w) ∷ es else e ∷ insert_entry nat_eq es n w) ≡ (if b then (e.0, e.1.items ++ m ∷ []) ∷ map held_entry es else (e.0, e.1.items) ∷ put_name (map held_entry es) n m)
    by true ih t = absurd (none-some e.1 (sym t))
    by false ih t = ap (λ l. (e.0, e.1.items) ∷ l) (ih t)

-- each name with an entry is among the keys
pub key_of : (es : List (NameSpot × OwnLink)) (at : NameSpot) → lookup (same_spot at) es ≢ None → Contains (keys_of es) at
key_of [] at there = absurd (there refl)
key_of (e ∷ es) at there = by (same_spot at e.0) refl there (λ t. key_of es at t)
  where
    by : (b : Bool) → same_spot at e.0 ≡ b → (cond b (Some e.1) (lookup (same_spot at) es) ≡ None → ⊥) → (lookup (same_spot at) es ≢ None → Contains (keys_of es) at) → Contains (e.0 ∷ keys_of es) at
    by true is t ih = subst (Contains (e.0 ∷ keys_of es)) (sym (same_spot-true at e.0 is)) (Contains-append_left (e.0 ∷ []) (keys_of es) e.0 (Contains-push [] e.0))
    by false is t ih = Contains-append_right (e.0 ∷ []) (keys_of es) at (ih t)

pub AreHeld-more : (spots : List NameSpot) (held : HeldNames) (at : NameSpot) → AreHeld spots held → AreHeld (spots ++ at ∷ []) (put_name held at.1 at.0)
AreHeld-more spots held at all n m there = elim (Contains-push_cases spots at (m, n) there) [
  | inl o ↦ put_stays held at.1 at.0 n m (all n m o)
  | inr e ↦ subst (λ (x : NameSpot). Contains (holders_of (put_name held at.1 at.0) x.1) x.0) e (put_there held at.1 at.0)
]

pub AreHeld-all : (g : Graph) (held : HeldNames) → AreHeld (keys_of g.entries) held → AreAllHeld g held
AreHeld-all g held all n m own = all n m (key_of g.entries (m, n) own)

-- one more of the names that have an entry
pub AreHeld-next : (spots all : List NameSpot) (i : ℕ) (d : NameSpot) (old new : HeldNames) → spots ≡ all → i < length spots → AreHeld (take i all) old → new ≡ put_name old (get_or spots i d).1 (get_or spots i d).0 → AreHeld (take (i + 1) all) new
AreHeld-next spots all i d old new same h held is =
    subst (λ l. AreHeld (take (i + 1) l) new) same
    (subst (λ l. AreHeld l new) (sym (take_more spots i d h))
    (subst (AreHeld (take i spots ++ get_or spots i d ∷ [])) (sym is)
    (AreHeld-more (take i spots) old (get_or spots i d) (subst (λ l. AreHeld (take i l) old) (sym same) held))))

pub AreHeld-ends : (g : Graph) (held : HeldNames) (spots : List NameSpot) (i : ℕ) → length spots ≤ i → spots ≡ keys_of g.entries → AreHeld (take i (keys_of g.entries)) held → AreAllHeld g held
AreHeld-ends g held spots i h same all = AreHeld-all g held (subst (λ l. AreHeld l held) (take_all i (keys_of g.entries) (subst (λ l. length l ≤ i) same h)) all)

-- ---- which of them are reached
pub Among-none : (list : List ℕ) → TellsAmong [] list Missing
Among-none list k there isin = absurd (omega (arith, there.1))

module _ (these list : List ℕ) (x : ℕ) where
  pub Among-absent : (IsIn list x → ⊥) → (answer : Candidates) → TellsAmong these list answer → TellsAmong (these ++ x ∷ []) list answer
  Among-absent absent Missing tells = λ k there isin. elim (Contains-push_cases these x k there) [
    | inl o ↦ tells k o isin
    | inr e ↦ absent (subst (IsIn list) (sym e) isin)
  ]
  Among-absent absent (One h) tells = (
    tells.0,
    λ k there isin. elim (Contains-push_cases these x k there) [
      | inl o ↦ tells.1 k o isin
      | inr e ↦ absurd (absent (subst (IsIn list) (sym e) isin))
    ],
  )
  Among-absent absent (Two a b) tells = tt

  pub Among-present : IsIn list x → (answer : Candidates) → TellsAmong these list answer → TellsAmong (these ++ x ∷ []) list (with_more answer x)
  Among-present isin Missing tells = (
    isin,
    λ k there its. elim (Contains-push_cases these x k there) [
      | inl o ↦ absurd (tells k o its)
      | inr e ↦ sym e
    ],
  )
  Among-present isin (One h) tells = one_or_two h x (TellsAmong (these ++ x ∷ []) list)
      (λ e. (tells.0, λ k there its. elim (Contains-push_cases these x k there) [ inl o ↦ tells.1 k o its | inr f ↦ sym f ∙ sym e ]))
      (λ ne. tt)
  Among-present isin (Two a b) tells = tt

-- so the ones with an entry are told
pub Holder-tells : (g : Graph) (held : HeldNames) (list : List ℕ) (n : ℕ) (answer : Candidates) → AreAllHeld g held → TellsAmong (holders_of held n) list answer → TellsHolder g list n answer
Holder-tells g held list n Missing all tells = λ k isin own. tells k (all n k own) isin
Holder-tells g held list n (One h) all tells = (tells.0, λ k isin own. tells.1 k (all n k own) isin)
Holder-tells g held list n (Two a b) all tells = tt
