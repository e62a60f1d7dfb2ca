use Rattle.std.proofs.Common.{◌≡◌, List, [], ap, map, option_map, refl, sym, ◌∙◌, subst}
use Rattle.std.proofs.lemmas.List.{take_all}
use Rattle.bundle_rules.specs.Bundle.{IsAscending}
use Rattle.bundle_link_index.specs.Outside.{IsIndexOf}
use Rattle.bundle_link_index.specs.Says.{target_of}
use Rattle.bundle_link_targets.specs.Names.{LinksAmong, TargetPair, target_pair}
use Rattle.bundle_link_targets.proofs.AscendingLemmas.{Among, among-nothing, ascending-among}
use Rattle.bundle_link_targets.proofs.CallPlaceLemmas.{among-none, among-order, among-step}
use Rattle.bundle_link_targets.proofs.names.linked_among.Goals as goal

pub loop-name-init : goal.loop-name-init
loop-name-init c =
    let none : map target_pair c.new-linked.result.items ≡ [] = ap (map target_pair) c.new-linked.ensures.items in
    record {
      index = refl;
      among = λ p is. subst (LinksAmong p c.args.which []) (sym none) (among-none p c.args.which);
      order = subst (λ (l : List TargetPair). Among (map (λ (pair : TargetPair). pair.0) l) []) (sym none) (among-nothing []);
    }

pub loop-name-preserved : goal.loop-name-preserved
loop-name-preserved c =
    let inv = c.loop-name.invariant in
    record {
      index = c.in_ok-target.ensures.same ∙ inv.index;
      among = λ p is. among-step p c.args.which c.args.names.now c.loop-name.name-index _ (map target_pair c.loop-name.linked.items) (map target_pair c.add_linked.new.linked.items) (option_map target_of c.in_ok-target.target) c.loop-name-test.true
          (c.in_ok-target.ensures.right p (subst (IsIndexOf p) (sym inv.index) is)) c.in_ok-add_linked.ensures (inv.among p is);
      order = among-order c.args.names.now c.loop-name.name-index _ (map target_pair c.loop-name.linked.items) (map target_pair c.add_linked.new.linked.items) (option_map target_of c.in_ok-target.target) c.loop-name-test.true c.in_ok-add_linked.ensures inv.order;
    }

pub returns-clause-right : goal.returns-clause-right
returns-clause-right c = λ p is.
    subst (λ l. LinksAmong p c.args.which (map (λ name. name.now) l) (map target_pair c.loop-name.linked.items)) (take_all c.loop-name.name-index c.args.names.now c.loop-name-test.false) (c.loop-name.invariant.among p is)

pub returns-clause-ascending : goal.returns-clause-ascending
returns-clause-ascending c = λ up.
    ascending-among c.loop-name.invariant.order (subst (λ l. IsAscending (map (λ name. name.now) l)) (sym (take_all c.loop-name.name-index c.args.names.now c.loop-name-test.false)) up)
