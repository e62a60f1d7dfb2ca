-- What was found is held, and so are the kinds; and what is judged is told.
use Rattle.std.proofs.Common.{◌∙◌, sym, subst}
use Rattle.bundle_link_index.specs.Outside.{IsIndexOf}
use Rattle.bundle_link_index.specs.Leads.{flagged}
use Rattle.bundle_rules.specs.Tables.{TellsCommonJs}
use Rattle.bundle_link_targets.specs.Linked.{HandsOut}
use Rattle.bundle_link_targets.specs.Judged.{IsStageJudged}
use Rattle.bundle_link_targets.specs.Stages.{AreKindsOf}
use Rattle.bundle_link_targets.specs.Found.{HoldsMeant, targets_in}
use Rattle.bundle_link_targets.specs.Handed.{HoldsLinked, HoldsMeanings}
use Rattle.bundle_link_targets.proofs.linking.Linking.new.Goals as goal

pub returns-clause-linked : goal.returns-clause-linked
returns-clause-linked c = λ p w.
    let kinds = c.in_ok-kinds.ensures.right p w in
    record {
      index = subst (IsIndexOf p) (sym c.joined.ensures.index) (c.in_ok-indexed.ensures.index p kinds);
      common_js = λ m. subst (λ flags. TellsCommonJs p m (flagged flags m)) (sym c.joined.ensures.common_js) (kinds.common_js m);
      meant = λ are. subst (λ meant. HoldsMeant p (targets_in meant.targets)) (sym c.joined.ensures.meant) (c.in_ok-indexed.ensures.meant p kinds are);
      meanings = subst (λ meant. HoldsMeanings p meant.meanings.items) (sym c.joined.ensures.meant) (c.in_ok-indexed.ensures.meanings p kinds);
      linked = λ are. subst (λ meant. HoldsLinked p meant.linked.items) (sym c.joined.ensures.meant) (c.in_ok-indexed.ensures.linked p kinds are);
    }

pub returns-clause-judged : goal.returns-clause-judged
returns-clause-judged c = λ p w iife.
    let held = c.in_ok-kinds.ensures.held in
    let kinds : AreKindsOf p c.in_ok-kinds.kinds = record { modules = c.in_ok-kinds.ensures.right p w; iife = iife ∙ sym held.1 } in
    record {
      calls = subst (λ l. IsStageJudged p l 0 2 c.joined.result.call_fault) held.0 (c.joined.ensures.calls p kinds);
      links = λ are.
          subst (λ fault. IsStageJudged p c.args.list.now 3 9 fault) (sym c.joined.ensures.links)
          (subst (λ l. IsStageJudged p l 3 9 c.in_ok-indexed.indexed.found.link_fault) held.0 (c.in_ok-indexed.ensures.judged p kinds are));
    }

pub returns-clause-handed : goal.returns-clause-handed
returns-clause-handed c = λ p w.
    subst (HandsOut p c.args.list.now) (sym c.joined.ensures.outside)
    (subst (λ l. HandsOut p l c.in_ok-indexed.indexed.found.outside) c.in_ok-kinds.ensures.held.0 (c.in_ok-indexed.ensures.outside p (c.in_ok-kinds.ensures.right p w)))
