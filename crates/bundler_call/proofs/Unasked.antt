-- Numbers of which no two are equal stand once.
-- What is judged before a hook is asked is judged alike beside any hook.
use Rattle.std.proofs.Common.{◌≡◌, ℕ, ◌<◌, inl, inr, List, Some, false, get_or, nat_eq, slice_get, refl, sym, ◌∙◌, true≢false, Bool, Option, None, Result}
use Rattle.std.specs.List.{IsDistinct}
use Rattle.std.proofs.lemmas.Bool.{cases_order, eq-eqb}
use Rattle.std.proofs.lemmas.Map.Keys.{apart_from_distinct}
use Rattle.std.proofs.lemmas.Option.{get_or_from_slice_get, slice_get_within}
use Rattle.std.specs.Prelude.{IfErr}
use Rattle.std.specs.Result.{IsErrAnd}
use Rattle.bundle_tree_names.specs.FileName.{Name}
use Rattle.bundle_tree_names.specs.declared.error.Error.{Error}
use Rattle.bundle_tree_ast.specs.declared.expr.Expr.{Expr}
use Rattle.bundle_tree_ast.specs.declared.prop.KeyValueProp.{KeyValueProp}
use Rattle.bundle_rules.specs.Entries.{Settings}
use Rattle.bundle_rules.specs.Faults as f
use Rattle.bundle_rules.specs.Faults.{Fault, HookFault, Parties, fault_of}
use Rattle.bundle_rules.specs.Headline.{IsRight}
use Rattle.bundle_rules.specs.Judging
use Rattle.bundle_rules.specs.Judging.{Completes, Entry, Refuses, Stops}
use Rattle.bundle_rules.specs.Kept.{Kept}
use Rattle.bundle_rules.specs.Program.{Program}
use Rattle.bundle_tree.specs.declared.load.ModuleData.{ModuleData}
use Rattle.bundle_link_index.specs.Numbered.{HasNoDoubles}
use Rattle.bundler_call.specs.Answer.{refusal_of}
use Rattle.bundler_call.specs.Judged.{parties_asked, IsFirstFaultTold, IsRefusalTold}
use Rattle.bundler_call.specs.Kept.{parties_of}
use Rattle.bundler_call.proofs.Leading.{with_hook, IsRefusedBy}
use Rattle.bundler_call.proofs.Growing.{handed_on}
use Rattle.bundler_call.proofs.Sources.{entries_as, AsMuch}

-- ---- listing
not_before : (ids : List ℕ) → IsDistinct nat_eq ids → (i j n : ℕ) → slice_get ids i ≡ Some n → slice_get ids j ≡ Some n → i < j → ⊥
not_before ids apart i j n at_i at_j before =
    let here : get_or ids i n ≡ n = get_or_from_slice_get ids i n n at_i in
    let there : get_or ids j n ≡ n = get_or_from_slice_get ids j n n at_j in
    let differ : nat_eq n n ≡ false
    = (λ k. nat_eq (sym here k) (sym there k)) ∙ apart_from_distinct nat_eq ids i j n apart before (slice_get_within ids j n at_j) in
    true≢false (sym (eq-eqb n n refl) ∙ differ)

pub once_apart : (ids : List ℕ) → IsDistinct nat_eq ids → HasNoDoubles ids
once_apart ids apart = λ i j n at_i at_j. elim (cases_order i j) [
  | inl is ↦ is
  | inr (inl before) ↦ absurd (not_before ids apart i j n at_i at_j before)
  | inr (inr after) ↦ absurd (not_before ids apart j i n at_j at_i after)
]

-- ---- unasked
module _ {L R : Type 0} (may_load : L → Name → ModuleData → Type 0) (may_fail_load : L → Name → Type 0)
    (may_resolve : R → Name → List ℕ → Name → Type 0) (may_fail_resolve : R → Name → List ℕ → Type 0)
    (may_give : Name → Bool → List (KeyValueProp Expr) → Type 0) (may_fail_hook : Name → Bool → Type 0)
    (settings : Settings) (l : L) (r : R) where
  -- this loader and this resolver, and no hook
  abbrev alone : Parties
  alone = parties_asked may_load may_fail_load may_resolve may_fail_resolve l r

  -- the same beside this hook
  abbrev beside : Parties
  beside =
      parties_of (may_load l) (may_fail_load l) (may_resolve r) (may_fail_resolve r) may_give
      may_fail_hook

  hook_fault : (p : Program) (m : ℕ) (file : Name) (fault : Fault) →
      HookFault p alone m file fault → HookFault p beside m file fault
  hook_fault p m file fault (f.fails loaded there may) = absurd may
  hook_fault p m file fault (f.answers properties held wrong) = absurd held.answered.may

  as_much : AsMuch alone beside
  as_much = λ p m. (λ its. absurd its.held.answered.may, hook_fault p m)

  -- all is loaded
  pub completes_beside : (entries : List Entry) (old new : Kept) →
      Completes alone settings entries old new → Completes beside settings entries old new
  completes_beside entries old new its = record {
    distinct = its.distinct;
    next = its.next;
    numbered = its.numbered;
    loaded = with_hook may_load may_fail_load may_resolve may_fail_resolve may_give may_fail_hook settings l l r r (Judging.files_of entries) 0 its.next new Judging.GoesOn refl refl its.loaded;
  }

  refuses_beside : (entries : List Entry) (old new : Kept) (fault : Fault) →
      Refuses alone settings entries old fault new → Refuses beside settings entries old fault new
  refuses_beside entries old new fault (Judging.by_list later doubled) = Judging.by_list later doubled
  refuses_beside entries old new fault (Judging.Refuses.by_number distinct numbers) = Judging.Refuses.by_number distinct numbers
  refuses_beside entries old new fault (Judging.Refuses.by_loading {next = next} distinct numbered loads) =
      Judging.Refuses.by_loading distinct numbered
      (with_hook may_load may_fail_load may_resolve may_fail_resolve may_give may_fail_hook settings l l r r (Judging.files_of entries) 0 next new (Judging.Refused fault) refl refl loads)
  refuses_beside entries old new fault (Judging.by_entry {next = next} distinct numbered loads refused) =
      Judging.by_entry distinct numbered
      (with_hook may_load may_fail_load may_resolve may_fail_resolve may_give may_fail_hook settings l l r r (Judging.files_of entries) 0 next new Judging.GoesOn refl refl loads)
      (entries_as alone beside as_much new settings entries fault refused)

  stops_beside : (entries : List Entry) (old new : Kept) →
      Stops alone settings entries old new → Stops beside settings entries old new
  stops_beside entries old new Judging.at_once = Judging.at_once
  stops_beside entries old new (Judging.Stops.by_number distinct numbers) =
      Judging.Stops.by_number distinct numbers
  stops_beside entries old new (Judging.Stops.by_loading {next = next} distinct numbered loads) =
      Judging.Stops.by_loading distinct numbered
      (with_hook may_load may_fail_load may_resolve may_fail_resolve may_give may_fail_hook settings l l r r (Judging.files_of entries) 0 next new Judging.Stopped refl refl loads)

  told_beside : (entries : List Entry) (old new : Kept) (told : Option Fault) →
      IsFirstFaultTold alone settings entries old new told →
      IsRight beside settings entries old (refusal_of told) new
  told_beside entries old new None stops = stops_beside entries old new stops
  told_beside entries old new (Some fault) refuses =
      inl (refuses_beside entries old new fault refuses)

  -- something is not loaded
  pub refused_beside : {T : Type 0} (result : Result T Error) (e : Error) →
      IsErrAnd result (λ x. x ≡ e) → (entries : List Entry) (old new : Kept) →
      IsRefusalTold alone settings entries old new e →
      IfErr result (IsRefusedBy beside settings entries old new)
  refused_beside result e is entries old new told =
      handed_on result e (IsRefusedBy beside settings entries old new) is
      (told_beside entries old new (fault_of e) told)
