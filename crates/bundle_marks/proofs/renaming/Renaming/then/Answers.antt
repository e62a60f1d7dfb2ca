-- What is put in says what both say, one after the other.
use Rattle.std.proofs.Common.{◌≡◌, ◌++◌, ◌∷◌, [], map, refl, ◌∙◌, rules}
use Rattle.bundle_rules.specs.Rebuilds.{followed_by}
use Rattle.bundle_marks.specs.Renamings.{renaming_pair}
use Rattle.bundle_marks.proofs.RenamingLemmas.{clone-says, composes, followed-end, followed-start, followed-step, followed_by-keeps, same-keeps, view-keeps}
use Rattle.bundle_marks.proofs.renaming.Renaming.then.Goals as goal

pub loop-from-init : goal.loop-from-init
loop-from-init c =
    followed-start c.self.inside.steps.entries c.into_iter-from-iterator.result.iter c.args.next.now c.in_ok-steps.steps
    ((λ i. (c.into_iter-from-iterator.ensures.into_iter_gives i).iter) ∙ c.rev-from-items.ensures.source ∙ c.iter.ensures.rest)
    (clone-says c.next.inside.steps c.in_ok-steps.steps c.in_ok-steps.ensures.cases ∙ c.next.view_is)

pub loop-from-preserved : goal.loop-from-preserved
loop-from-preserved c =
    let last : c.loop-from.from-iterator.iter ≡ c.next-in-loop-from.new.self.iter ++ (c.in-Some.from.now, c.in-Some.step.now) ∷ [] = search rules in
    followed-step c.self.inside.steps.entries c.loop-from.from-iterator.iter c.next-in-loop-from.new.self.iter c.args.next.now c.loop-from.steps c.insert.new.self
    c.in-Some.from.now c.in_ok-clone.field-0 c.in-Some.step.now c.in_ok-then.field-0
    c.loop-from.invariant last c.in_ok-clone.ensures.cases c.in_ok-then.ensures c.in_ok-insert.ensures.updates

pub loop-from-preserved-in_ok-insert : goal.loop-from-preserved-in_ok-insert
loop-from-preserved-in_ok-insert c =
    let last : c.loop-from.from-iterator.iter ≡ c.next-in-loop-from.new.self.iter ++ (c.in-Some.from.now, c.in-Some.step.now) ∷ [] = search rules in
    followed-step c.self.inside.steps.entries c.loop-from.from-iterator.iter c.next-in-loop-from.new.self.iter c.args.next.now c.loop-from.steps c.insert.new.self
    c.in-Some.from.now c.in_ok-clone.field-0 c.in-Some.step.now c.in_ok-then.field-0
    c.loop-from.invariant last c.in_ok-clone.ensures.cases c.in_ok-then.ensures c.in_ok-insert.ensures.updates

pub invariant_of-result : goal.invariant_of-result
invariant_of-result c =
    let first = map renaming_pair c.self.inside.steps.entries in
    same-keeps (map renaming_pair c.loop-from.steps.entries) (followed_by first c.args.next.now)
    (followed-end c.self.inside.steps.entries c.loop-from.from-iterator.iter first c.args.next.now c.loop-from.steps refl c.loop-from.invariant c.in-None.ensures.steps.0)
    (followed_by-keeps first c.args.next.now c.self.invariant (view-keeps c.next.inside.steps.entries c.args.next.now c.next.view_is c.next.invariant))

pub returns-clause-says : goal.returns-clause-says
returns-clause-says c = followed-end c.self.inside.steps.entries c.loop-from.from-iterator.iter c.args.self.now c.args.next.now c.loop-from.steps c.self.view_is c.loop-from.invariant c.in-None.ensures.steps.0

pub returns-clause-law : goal.returns-clause-law
returns-clause-law c =
    composes c.args.self.now c.args.next.now (map renaming_pair c.loop-from.steps.entries)
    (view-keeps c.self.inside.steps.entries c.args.self.now c.self.view_is c.self.invariant)
    (followed-end c.self.inside.steps.entries c.loop-from.from-iterator.iter c.args.self.now c.args.next.now c.loop-from.steps c.self.view_is c.loop-from.invariant c.in-None.ensures.steps.0)
