-- Each occurrence has its context, or no number is left.
use Rattle.std.proofs.Common.{◌≡◌, ◌≤◌, ◌<◌, ◌+◌, ◌∙◌, ℕ, Some, List, length, take, get_or, refl, ap, sym, subst, arith}
use Rattle.std.specs.Prelude.{slice_get}
use Rattle.std.specs.List.{AllZip}
use Rattle.std.proofs.lemmas.Option.{slice_get-get_or}
use Rattle.bundle_scope_denote.specs.declared.table.Denoted.{Denoted}
use Rattle.bundle_scope_denote.specs.declared.table.Denotations.{Denotations}
use Rattle.bundle_scope_denote.proofs.LoopLemmas.{take-whole}
use Rattle.bundle_scope_names.specs.Numbering.{HasContext, GivesContext, IsNumberedTo}
use Rattle.bundle_scope_names.proofs.PassingLemmas.{passed-one, lacks, is-within}
use Rattle.bundle_scope_names.proofs.contexts.numbered.Goals as goal

-- the occurrence that is passed stands in the table
at-index : (table : Denotations) (lent : List Denoted) (i : ℕ) (other : Denoted) → lent ≡ table.occurrences.items → i < length lent → slice_get table.occurrences.items i ≡ Some (get_or lent i other)
at-index table lent i other same within = ap (λ l. slice_get l i) (sym same) ∙ slice_get-get_or lent i other within

pub context_of-requires : goal.context_of-requires
context_of-requires c = is-within c.args.table.now c.loop-occurrence.numbers c.loop-occurrence.occurrence-index _ c.requires c.loop-occurrence.invariant.len (at-index c.args.table.now c.deref-occurrence-items.result.now c.loop-occurrence.occurrence-index _ c.deref-occurrence-items.ensures.value c.loop-occurrence-test.true) _ refl

pub returns-in_default : goal.returns-in_default
returns-in_default c = lacks c.args.table.now c.args.local c.args.next c.loop-occurrence.numbers c.context_of.new.self c.loop-occurrence.contexts.items c.loop-occurrence.occurrence-index _ (at-index c.args.table.now c.deref-occurrence-items.result.now c.loop-occurrence.occurrence-index _ c.deref-occurrence-items.ensures.value c.loop-occurrence-test.true) _ refl c.loop-occurrence.invariant (subst (GivesContext c.args.table.now c.args.local _ c.loop-occurrence.numbers c.context_of.new.self) c.in_default.is c.context_of.ensures)

pub loop-occurrence-preserved : goal.loop-occurrence-preserved
loop-occurrence-preserved c = subst (λ (l : List ℕ). IsNumberedTo c.args.table.now c.args.local c.args.next c.context_of.new.self l (take (c.loop-occurrence.occurrence-index + 1) c.args.table.now.occurrences.items)) (sym c.in_ok-push.ensures.items) (passed-one c.args.table.now c.args.local c.args.next c.loop-occurrence.numbers c.context_of.new.self c.loop-occurrence.contexts.items c.loop-occurrence.occurrence-index _ (at-index c.args.table.now c.deref-occurrence-items.result.now c.loop-occurrence.occurrence-index _ c.deref-occurrence-items.ensures.value c.loop-occurrence-test.true) _ c.in-Some.context refl c.loop-occurrence.invariant (subst (GivesContext c.args.table.now c.args.local _ c.loop-occurrence.numbers c.context_of.new.self) c.in-Some.is c.context_of.ensures))

pub returns : goal.returns
returns c =
    let past : length c.args.table.now.occurrences.items ≤ c.loop-occurrence.occurrence-index = omega (arith, ap length c.deref-occurrence-items.ensures.value, c.loop-occurrence-test.false) in
    record {
      given = c.loop-occurrence.invariant.given;
      denoted = c.loop-occurrence.invariant.denoted;
      later = c.loop-occurrence.invariant.holds.next_is;
      contexts = subst (λ (l : List Denoted). AllZip (λ (entry : Denoted) (context : ℕ). HasContext c.args.table.now c.args.local c.args.next c.loop-occurrence.invariant.given entry.binding context) l c.loop-occurrence.contexts.items) (take-whole c.args.table.now.occurrences.items c.loop-occurrence.occurrence-index past) c.loop-occurrence.invariant.contexts_are;
    }
