-- Each binding that is declared has its place.
use Rattle.std.proofs.Common.{◌≡◌, ◌<◌, ◌+◌, ℕ, Option, Some, List, length, ap, sym, ◌∙◌, subst, arith}
use Rattle.std.specs.Prelude.{slice_get, option_and_then, Vec}
use Rattle.std.specs.Option.{option_map}
use Rattle.std.specs.declared.alloc.Global.{Global}
use Rattle.std.proofs.lemmas.List.{length-map}
use Rattle.std.proofs.lemmas.Option.{slice_get-get_or, slice_get-map}
use Rattle.bundle_scope_denote.specs.declared.table.Binding.{Binding}
use Rattle.bundle_scope_names.specs.Called.{at}
use Rattle.bundle_scope_names.specs.Turns.{Place, homes_of, first_of}
use Rattle.bundle_scope_names.proofs.SymbolLemmas.{ArePlaced, placed-next, placed-over, placed-sorted}
use Rattle.bundle_scope_names.proofs.hygiene.places_of.Goals as goal
use Rattle.bundle_scope_names.proofs.hygiene.places_of.Goals.{in-Some+in_ok-push, in_default}

read : (firsts : List (Option ℕ)) (number : ℕ) (first : Option ℕ) → slice_get firsts number ≡ Some first → at firsts number ≡ first
read firsts number first is = ap (option_and_then (λ value. value)) is

pub loop-number-preserved : goal.loop-number-preserved
loop-number-preserved c =
    let lt : c.loop-number.number < length c.args.bindings.now = c.loop-number-test.true in
    let first : c.number_at.result ≡ first_of c.args.occurrences.now c.loop-number.number = c.number_at.ensures ∙ ap (λ l. at l c.loop-number.number) c.deref.ensures.value ∙ read c.in_ok-firsts.firsts.items c.loop-number.number _ (c.in_ok-firsts.ensures c.loop-number.number lt) in
    elim c.match-number_at.branch [
      | in-Some+in_ok-push w ↦ placed-next (homes_of c.args.bindings.now) c.args.occurrences.now c.loop-number.number _ w.in-Some.first c.loop-number.places.items c.match-number_at.places.items (ap (λ (v : Vec Place Global). v.items) w.places-is ∙ w.in_ok-push.ensures.items) (slice_get-map (λ (b : Binding). b.scope) c.args.bindings.now c.loop-number.number ∙ ap (option_map (λ (b : Binding). b.scope)) (slice_get-get_or c.args.bindings.now c.loop-number.number _ lt)) (sym first ∙ w.in-Some.is) c.loop-number.invariant
      | in_default w ↦ subst (λ (v : Vec Place Global). ArePlaced (homes_of c.args.bindings.now) c.args.occurrences.now (c.loop-number.number + 1) v.items) (sym w.places-is) (placed-over (homes_of c.args.bindings.now) c.args.occurrences.now c.loop-number.number c.loop-number.places.items (sym first ∙ w.in_default.is) c.loop-number.invariant)
    ]

pub returns : goal.returns
returns c = placed-sorted (homes_of c.args.bindings.now) c.args.occurrences.now c.loop-number.number c.loop-number.places.items c.sort_unstable.new.self.items (let same = length-map c.args.bindings.now (λ (b : Binding). b.scope) in omega arith) c.sort_unstable.ensures.permutation c.sort_unstable.ensures.sorted c.loop-number.invariant
