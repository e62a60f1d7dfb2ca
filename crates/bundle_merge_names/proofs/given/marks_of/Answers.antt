-- Each entry marks the scope of what it denotes.
use Rattle.std.proofs.Common.{rules, ◌≡◌, ◌<◌, ◌+◌, ℕ, List, Some, length, get_or, sym, ap, subst, ◌∙◌, arith}
use Rattle.std.specs.Prelude.{slice_get}
use Rattle.std.proofs.lemmas.Option.{slice_get-get_or}
use Rattle.bundle_scope_denote.specs.declared.table.Denoted.{Denoted}
use Rattle.bundle_scope_denote.proofs.LoopLemmas.{take-whole}
use Rattle.bundle_merge_names.specs.Scoped.{AreMarks}
use Rattle.bundle_merge_names.proofs.ScopeLemmas.{marks-first, marks-next, unmarked}
use Rattle.bundle_merge_names.proofs.given.marks_of.Goals as goal

-- the entry that is gone over stands in the table
at-index : (entries lent : List Denoted) (i : ℕ) (other : Denoted) → lent ≡ entries → i < length lent → slice_get entries i ≡ Some (get_or lent i other)
at-index entries lent i other same within = ap (λ l. slice_get l i) (sym same) ∙ slice_get-get_or lent i other within

pub loop-occurrence-init : goal.loop-occurrence-init
loop-occurrence-init c = marks-first c.args.denotations.now.bindings.items (length c.args.denotations.now.scopes.items) c.in_ok-marks.marks.items (search rules) (unmarked c.in_ok-marks.marks.items _ (c.in_ok-marks.ensures.items_if_clones_equal (λ y e. e)))

pub loop-occurrence-preserved : goal.loop-occurrence-preserved
loop-occurrence-preserved c = marks-next c.args.denotations.now.bindings.items c.args.denotations.now.occurrences.items c.loop-occurrence.occurrence-index (c.loop-occurrence.occurrence-index + 1) (get_or c.deref-occurrence-items.result.now c.loop-occurrence.occurrence-index _) (length c.args.denotations.now.scopes.items) c.loop-occurrence.marks.items c.mark.new.marks.items c.scope_of-scope.result (at-index c.args.denotations.now.occurrences.items c.deref-occurrence-items.result.now c.loop-occurrence.occurrence-index _ c.deref-occurrence-items.ensures.value c.loop-occurrence-test.true) c.scope_of-scope.ensures c.mark.ensures.long c.mark.ensures.there c.mark.ensures.kept c.mark.ensures.only (omega arith) c.loop-occurrence.invariant

pub returns : goal.returns
returns c = subst (λ (l : List Denoted). AreMarks c.args.denotations.now.bindings.items l (length c.args.denotations.now.scopes.items) c.loop-occurrence.marks.items) (take-whole c.args.denotations.now.occurrences.items c.loop-occurrence.occurrence-index (let same = ap length c.deref-occurrence-items.ensures.value in omega (arith, same, c.loop-occurrence-test.false))) c.loop-occurrence.invariant
