-- Lists of modules that grow, and what is met over `export *`.
use Rattle.std.proofs.Common.{◌≡◌, ℕ, zero, suc, None, slice_get, ◌+◌, ◌<◌, ◌≤◌, Bool, true, false, cond, List, [], ◌∷◌, ◌++◌, Option, Some, drop, length, refl, sym, subst, get_or, arith, ap, ◌∙◌, nat_eq, below_more}
use Rattle.std.specs.List.{All, Contains, IsDistinct, filter, list_any}
use Rattle.std.proofs.Math.ListN.{get_or-append}
use Rattle.std.proofs.lemmas.List.Elements.{All-nil, All-cons, All-head, All-tail, All-push, All-weaker, Contains-append_left, Contains-push, Contains-get_or}
use Rattle.std.proofs.lemmas.List.{at_drop_all, at_drop_more, length-append}
use Rattle.std.proofs.lemmas.Map.Views.{Contains-from_any, exact_unsigned_eq}
use Rattle.gutsirava_graph.specs.declared.unit.BundleUnit.{BundleUnit}
use Rattle.std.specs.BTreeSet.{BTreeSet}
use Rattle.gutsirava_graph.specs.Met.{IsSetOf}
use Rattle.gutsirava_graph.specs.Stars.{AreGivers, gives, AreMet, IsMetUpTo, Seeks, here, over, followed, with_unit, with_units}

-- ---- one more, or none
keeps_one : (known : Bool) (met : List ℕ) (unit x : ℕ) → Contains met x → Contains (cond known met (met ++ unit ∷ [])) x
keeps_one true met unit x has = has
keeps_one false met unit x has = Contains-append_left met (unit ∷ []) x has

has_one : (known : Bool) (met : List ℕ) (unit : ℕ) → list_any (nat_eq unit) met ≡ known → Contains (cond known met (met ++ unit ∷ [])) unit
has_one true met unit is = Contains-from_any exact_unsigned_eq unit met is
has_one false met unit is = Contains-push met unit

all_one : (P : ℕ → Type 0) (known : Bool) (met : List ℕ) (unit : ℕ) → All P met → P unit → All P (cond known met (met ++ unit ∷ []))
all_one P true met unit all one = all
all_one P false met unit all one = All-push P met unit all one

longer_one : (known : Bool) (met : List ℕ) (unit k : ℕ) → k < length met → k < length (cond known met (met ++ unit ∷ []))
longer_one true met unit k within = within
longer_one false met unit k within = omega (arith, length-append met (unit ∷ []))

same_one : (known : Bool) (met : List ℕ) (unit k : ℕ) → k < length met → get_or (cond known met (met ++ unit ∷ [])) k 0 ≡ get_or met k 0
same_one true met unit k within = refl
same_one false met unit k within = get_or-append met (unit ∷ []) 0 k within

-- ---- some more
keeps_all : (units met : List ℕ) (x : ℕ) → Contains met x → Contains (with_units met units) x
keeps_all [] met x has = has
keeps_all (unit ∷ units) met x has =
    keeps_all units (with_unit met unit) x (keeps_one (list_any (nat_eq unit) met) met unit x has)

has_all : (units met : List ℕ) → All (Contains (with_units met units)) units
has_all [] met = All-nil _
has_all (unit ∷ units) met =
    All-cons (Contains (with_units (with_unit met unit) units)) unit units
    (keeps_all units (with_unit met unit) unit (has_one (list_any (nat_eq unit) met) met unit refl))
    (has_all units (with_unit met unit))

all_all : (P : ℕ → Type 0) (units met : List ℕ) → All P met → All P units → All P (with_units met units)
all_all P [] met all more = all
all_all P (unit ∷ units) met all more =
    all_all P units (with_unit met unit)
    (all_one P (list_any (nat_eq unit) met) met unit all (All-head P unit units more)) (All-tail P unit units more)

same_all : (units met : List ℕ) (k : ℕ) → k < length met → get_or (with_units met units) k 0 ≡ get_or met k 0
same_all [] met k within = refl
same_all (unit ∷ units) met k within =
    same_all units (with_unit met unit) k (longer_one (list_any (nat_eq unit) met) met unit k within)
    ∙ same_one (list_any (nat_eq unit) met) met unit k within

-- ---- a step of the way over `export *`
module _ (sought : Option (List ℕ)) (units : List BundleUnit) (start : ℕ) where
  abbrev Leads : List ℕ → ℕ → Type 0
  Leads met unit = All (Contains met) (followed sought units unit)

  met_step : (met : List ℕ) (at next : ℕ) → IsMetUpTo sought units start met at → at < length met → get_or met at 0 ≡ next
      → IsDistinct nat_eq (with_units met (followed sought units next))
      → IsMetUpTo sought units start (with_units met (followed sought units next)) (at + 1)
  met_step met at next before within is once =
      let behind = followed sought units next in
      let now = with_units met behind in
      let reached : Seeks sought units start next = subst (Seeks sought units start) is (before.sought_there at 0 within) in
      record {
        begins = keeps_all behind met start before.begins;
        once = once;
        sought_there = all_all (Seeks sought units start) behind met before.sought_there
            (λ k d below. over next (get_or behind k d) reached (Contains-get_or behind k d below));
        closed = below_more (λ k. Leads now (get_or now k 0)) at
            (λ k below. let short : k < length met = omega arith in
            subst (Leads now) (sym (same_all behind met k short))
            (All-weaker (Contains met) (Contains now) (keeps_all behind met) _ (before.closed k below)))
            (subst (Leads now) (sym (same_all behind met at within ∙ is)) (has_all behind met));
      }

  pub met_more : (met new stars : List ℕ) (all : BTreeSet ℕ) (at next : ℕ) → IsMetUpTo sought units start met at → at < length met → get_or met at 0 ≡ next
      → stars ≡ followed sought units next → new ≡ with_units met stars → IsSetOf new all → IsMetUpTo sought units start new (at + 1)
  met_more met new stars all at next before within is followed_there grown set =
      let same : new ≡ with_units met (followed sought units next) = grown ∙ ap (with_units met) followed_there in
      subst (λ (list : List ℕ). IsMetUpTo sought units start list (at + 1)) (sym same)
      (met_step met at next before within is (subst (IsDistinct nat_eq) same set.once))

  pub met_begin : (met : List ℕ) (all : BTreeSet ℕ) → met ≡ start ∷ [] → IsSetOf met all → IsMetUpTo sought units start met 0
  met_begin met all is set =
      subst (λ (list : List ℕ). IsMetUpTo sought units start list 0) (sym is) (record {
        begins = Contains-push [] start;
        once = subst (IsDistinct nat_eq) is set.once;
        sought_there = All-cons (Seeks sought units start) start [] here (All-nil _);
        closed = λ k below. absurd (omega arith);
      })

  pub met_end : (met : List ℕ) (at : ℕ) → IsMetUpTo sought units start met at → length met ≤ at → AreMet sought units start met
  met_end met at before past = record {
    begins = before.begins;
    once = before.once;
    sought_there = before.sought_there;
    closed = λ k below. before.closed k (omega arith);
  }

-- nothing is at a place behind a list
past_list : (list : List ℕ) (at : ℕ) → slice_get list at ≡ None → length list ≤ at
past_list [] at none = omega arith
past_list (x ∷ list) zero none = cc
past_list (x ∷ list) (suc at) none = omega (arith, past_list list at none)

pub met_stop : (sought : Option (List ℕ)) (units : List BundleUnit) (start : ℕ) (met : List ℕ) (at : ℕ) → IsMetUpTo sought units start met at
    → slice_get met at ≡ None → AreMet sought units start met
met_stop sought units start met at before none = met_end sought units start met at before (past_list met at none)

-- the givers are those met that give
pub givers_of : (name : List ℕ) (units : List BundleUnit) (start : ℕ) (met found : List ℕ) → AreMet (Some name) units start met
    → found ≡ filter (gives units name) met → AreGivers name units start found
givers_of name units start met found are give = record {
  met = met;
  are_met = are;
  give = give;
}

-- ---- a loop that adds each of a list
pub with_turn : (all met new units : List ℕ) (i d : ℕ) → with_units all units ≡ with_units met (drop i units) → i < length units
    → new ≡ with_unit met (get_or units i d) → with_units all units ≡ with_units new (drop (i + 1) units)
with_turn all met new units i d before within grown =
    before ∙ (at_drop_more (with_units met) units i d within ∙ ap (λ (list : List ℕ). with_units list (drop (i + 1) units)) (sym grown))

pub with_done : (all met units : List ℕ) (i : ℕ) → with_units all units ≡ with_units met (drop i units) → length units ≤ i → met ≡ with_units all units
with_done all met units i before past = sym (before ∙ at_drop_all (with_units met) units i past)
