-- Each occurrence passed has its entry.
use Rattle.std.proofs.Common.{◌≡◌, ◌≤◌, ◌∙◌, ℕ, Bool, List, None, length, get_or, refl, ap, sym, subst, arith}
use Rattle.std.specs.Prelude.{slice_get}
use Rattle.std.proofs.lemmas.Option.{slice_get-get_or}
use Rattle.bundle_scope_denote.specs.declared.table.Denoted.{Denoted}
use Rattle.bundle_scope_denote.specs.declared.walk.NameOccurrence.{NameOccurrence}
use Rattle.bundle_scope_denote.specs.Kinds.{reading_as}
use Rattle.bundle_scope_denote.specs.Searched.{Searches}
use Rattle.bundle_scope_denote.proofs.LoopLemmas.{take-whole}
use Rattle.bundle_scope_denote.proofs.ListedLemmas.{searches-first, searches-next}
use Rattle.bundle_scope_denote.proofs.denote.BindingSearch.entries.Goals as goal

pub binding_of-requires : goal.binding_of-requires
binding_of-requires c =
    let same : c.deref-occurrence-items.result.now ≡ c.args.walk.now.occurrences.items = c.deref-occurrence-items.ensures.value in
    c.requires c.loop-occurrence.occurrence-index _ (ap (λ l. slice_get l c.loop-occurrence.occurrence-index) (sym same) ∙ slice_get-get_or _ _ _ c.loop-occurrence-test.true)

pub loop-occurrence-init : goal.loop-occurrence-init
loop-occurrence-init c = searches-first (reading_as c.args.reading) c.args.walk.now c.args.of.now c.args.self.now _ c.in_ok-occurrences.ensures.items

pub loop-occurrence-preserved : goal.loop-occurrence-preserved
loop-occurrence-preserved c =
    let same : c.deref-occurrence-items.result.now ≡ c.args.walk.now.occurrences.items = c.deref-occurrence-items.ensures.value in
    let seen : NameOccurrence = get_or c.deref-occurrence-items.result.now c.loop-occurrence.occurrence-index (record { place = 0; name = 0; scope = 0; declaration = None }) in
    let entry : Denoted = record { place = seen.place; scope = seen.scope; binding = c.in_ok-binding.binding; declares = c.is_some.result } in
    searches-next (reading_as c.args.reading) c.args.walk.now c.args.of.now c.args.self.now c.loop-occurrence.self c.binding_of.new.self c.loop-occurrence.occurrences.items c.push.new.self.items c.loop-occurrence.occurrence-index seen c.in_ok-binding.binding entry (ap (λ l. slice_get l c.loop-occurrence.occurrence-index) (sym same) ∙ slice_get-get_or _ _ _ c.loop-occurrence-test.true) c.in_ok-binding.ensures (ap (λ (b : Bool). let copy : ℕ × ℕ × Bool = (seen.place, seen.scope, b) in copy) c.is_some.ensures) refl c.in_ok-push.ensures.items c.loop-occurrence.invariant

pub returns : goal.returns
returns c =
    let same : c.deref-occurrence-items.result.now ≡ c.args.walk.now.occurrences.items = c.deref-occurrence-items.ensures.value in
    let past : length c.args.walk.now.occurrences.items ≤ c.loop-occurrence.occurrence-index = omega (arith, ap length same, c.loop-occurrence-test.false) in
    subst (λ (l : List NameOccurrence). Searches (reading_as c.args.reading) c.args.walk.now c.args.of.now c.args.self.now c.loop-occurrence.self c.loop-occurrence.occurrences.items l) (take-whole c.args.walk.now.occurrences.items c.loop-occurrence.occurrence-index past) c.loop-occurrence.invariant
