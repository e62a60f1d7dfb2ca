-- How often each name was declared, by the declarations gone over.
use Rattle.std.proofs.Common.{◌≡◌, ◌<◌, ◌≤◌, ◌+◌, ⊎_elim, ℕ, ◌==◌, Bool, true, false, List, Option, Some, None, option_map, length, refl, ap, sym, ◌∙◌, arith, eq-eqb}
use Rattle.std.specs.Prelude.{slice_get}
use Rattle.std.proofs.lemmas.Bool.{false≢true, cases_order}
use Rattle.std.proofs.lemmas.Option.{same_Some, slice_get_within}
use Rattle.bundle_scope_denote.specs.declared.doubled.Times.{Times}
use Rattle.bundle_scope_denote.specs.declared.doubled.Times.TheVariants.{Never, Once, Often}
use Rattle.bundle_scope_denote.specs.declared.walk.Declaration.{Declaration}
use Rattle.bundle_scope_denote.specs.Barred.{times_counted, is_often_by, is_often, AreCounted}

-- whether a name was declared, or it is not known
abbrev pub is_met_by : Option Times → Bool
is_met_by None = true
is_met_by (Some Never) = false
is_met_by (Some Once) = true
is_met_by (Some Often) = true

abbrev pub is_met : List Times → ℕ → Bool
is_met times name = is_met_by (slice_get times name)

-- the first declarations were counted
pub record CountedTo (declarations : List Declaration) (k : ℕ) (times : List Times) : Type 0 where
  pub met : (i : ℕ) (a : Declaration) → i < k → slice_get declarations i ≡ Some a → is_met times a.name ≡ true
  pub twice : (i j : ℕ) (a b : Declaration) → i < j → j < k → slice_get declarations i ≡ Some a → slice_get declarations j ≡ Some b → a.name ≡ b.name → is_often times b.name ≡ true

-- how a name's count changes as one declaration more is counted
abbrev pub Counts : (name : ℕ) → (old new : List Times) → Type 0
Counts name old new = (number : ℕ) → slice_get new number ≡ option_map (times_counted (name == number)) (slice_get old number)

met-stays : (c : Bool) (o : Option Times) → is_met_by o ≡ true → is_met_by (option_map (times_counted c) o) ≡ true
met-stays c None is = refl
met-stays c (Some Never) is = absurd (false≢true is)
met-stays true (Some Once) is = refl
met-stays false (Some Once) is = refl
met-stays true (Some Often) is = refl
met-stays false (Some Often) is = refl

met-now : (o : Option Times) → is_met_by (option_map (times_counted true) o) ≡ true
met-now None = refl
met-now (Some Never) = refl
met-now (Some Once) = refl
met-now (Some Often) = refl

often-stays : (c : Bool) (o : Option Times) → is_often_by o ≡ true → is_often_by (option_map (times_counted c) o) ≡ true
often-stays c None is = refl
often-stays c (Some Never) is = absurd (false≢true is)
often-stays c (Some Once) is = absurd (false≢true is)
often-stays true (Some Often) is = refl
often-stays false (Some Often) is = refl

often-now : (o : Option Times) → is_met_by o ≡ true → is_often_by (option_map (times_counted true) o) ≡ true
often-now None is = refl
often-now (Some Never) is = absurd (false≢true is)
often-now (Some Once) is = refl
often-now (Some Often) is = refl

pub counted-first : (declarations : List Declaration) (times : List Times) → CountedTo declarations 0 times
counted-first declarations times = record {
  met = λ i a less at. absurd (omega arith);
  twice = λ i j a b before less at_i at_j same. absurd (omega arith);
}

pub counted-next : (declarations : List Declaration) (k : ℕ) (d : Declaration) (old new : List Times) → slice_get declarations k ≡ Some d → Counts d.name old new → CountedTo declarations k old → CountedTo declarations (k + 1) new
counted-next declarations k d old new at_k counts known = record {
  met = λ i a less at. ⊎_elim (λ here. ap is_met_by (now a (same_Some d a (sym at_k ∙ ap (slice_get declarations) (sym here) ∙ at))) ∙ met-now (slice_get old a.name)) (λ apart. ⊎_elim (λ below. ap is_met_by (counts a.name) ∙ met-stays (d.name == a.name) (slice_get old a.name) (known.met i a below at)) (λ above. absurd (omega arith)) apart) (cases_order i k);
  twice = λ i j a b before less at_i at_j same. ⊎_elim (λ here. let first : i < k = omega (arith, here) in ap is_often_by (now b (same_Some d b (sym at_k ∙ ap (slice_get declarations) (sym here) ∙ at_j))) ∙ often-now (slice_get old b.name) (ap (is_met old) (sym same) ∙ known.met i a first at_i)) (λ apart. ⊎_elim (λ below. ap is_often_by (counts b.name) ∙ often-stays (d.name == b.name) (slice_get old b.name) (known.twice i j a b before below at_i at_j same)) (λ above. absurd (omega arith)) apart) (cases_order j k);
}
  where
    -- its own name is counted
    now : (a : Declaration) → d ≡ a → slice_get new a.name ≡ option_map (times_counted true) (slice_get old a.name)
    now a same = counts a.name ∙ ap (λ c. option_map (times_counted c) (slice_get old a.name)) (eq-eqb d.name a.name (ap (λ (x : Declaration). x.name) same))

pub counted-whole : (declarations : List Declaration) (k : ℕ) (times : List Times) → length declarations ≤ k → CountedTo declarations k times → AreCounted declarations times
counted-whole declarations k times past known i j a b before at_i at_j same = let within : j < length declarations = slice_get_within declarations j b at_j in
    let less : j < k = omega arith in known.twice i j a b before less at_i at_j same
