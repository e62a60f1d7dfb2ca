-- One more occurrence is linked.
use Rattle.std.proofs.Common.{◌≡◌, ◌+◌, suc, None, Some, false, length, get_or, subst, arith}
use Rattle.std.specs.Prelude.{slice_get}
use Rattle.std.proofs.lemmas.Option.{slice_get-get_or}
use Rattle.bundle_scope_denote.specs.declared.table.Denoted.{Denoted}
use Rattle.bundle_scope_names.proofs.KnowsLemmas.{AreLinked, linked-first, linked-next, linked-last}
use Rattle.bundle_scope_names.proofs.uses.Uses.of.Goals as goal

pub loop-number-init : goal.loop-number-init
loop-number-init c =
    linked-first c.args.occurrences.now c.args.count c.in_ok-last.last.items c.in_ok-before.before.items c.in_ok-last.ensures.none c.in_ok-last.ensures.len c.in_ok-before.ensures.items

pub loop-number-preserved : goal.loop-number-preserved
loop-number-preserved c =
    let one : suc c.loop-number.number ≡ c.loop-number.number + 1 = omega arith in
    let o : Denoted = get_or c.args.occurrences.now c.loop-number.number (record { place = 0; scope = 0; binding = None; declares = false }) in
    let is_at : slice_get c.args.occurrences.now c.loop-number.number ≡ Some o = slice_get-get_or c.args.occurrences.now c.loop-number.number _ c.loop-number-test.true in
    let longer : length c.push.new.self.items ≡ suc (length c.loop-number.before.items) = omega (arith, c.in_ok-push.ensures.len, c.push.new.self.ok.0, c.loop-number.before.ok.0) in
    subst (λ n. AreLinked c.args.occurrences.now c.args.count n c.linked.new.last.items c.push.new.self.items) one (linked-next c.args.occurrences.now c.args.count c.loop-number.number o c.linked.result c.loop-number.last.items c.loop-number.before.items c.linked.new.last.items c.push.new.self.items is_at c.linked.ensures.before c.linked.ensures.last c.linked.ensures.count c.in_ok-push.ensures.items longer c.loop-number.invariant)

pub returns-clause-uses : goal.returns-clause-uses
returns-clause-uses c = linked-last c.args.occurrences.now c.args.count c.loop-number.number (record { last = c.loop-number.last; before = c.loop-number.before }) (omega (arith, c.loop-number-test.false, c.loop-number.auto.number-end)) c.loop-number.invariant
