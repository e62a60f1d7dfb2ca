use Rattle.std.proofs.Common.{◌≡◌, inl, inr, ap, length, sym, ◌∙◌, subst}
use Rattle.bundle_link_index.specs.Given.{AddsMissing}
use Rattle.bundle_link_index.specs.Outside.{IsIndexOf}
use Rattle.bundle_link_targets.specs.Found.{UsedIn, targets_in}
use Rattle.bundle_link_targets.specs.Handed.{AreMeaningsOf}
use Rattle.bundle_link_targets.specs.Lists.{list_in}
use Rattle.bundle_link_targets.proofs.HandedLemmas.{holds-taken}
use Rattle.bundle_link_targets.proofs.meant.Meant.find.Goals as goal

pub returns-clause-right : goal.returns-clause-right
returns-clause-right c = λ p is ready empty.
    let used = targets_in c.add_all_uses.new.self.targets in
    let first = subst (λ l. AddsMissing l (UsedIn p c.args.kinds.now.list.now) used) empty (c.in_ok-add_all_uses.ensures.right p is ready) in
    let second = c.in_ok-link.ensures.right p (subst (IsIndexOf p) (sym c.in_ok-add_all_uses.ensures.same) is) ready in
    let third = c.in_ok-link_met.ensures.right p (subst (IsIndexOf p) (sym (c.in_ok-link.ensures.same ∙ c.in_ok-add_all_uses.ensures.same)) is) ready in
    holds-taken p c.args.kinds.now ready ready.begins used (targets_in c.link.new.self.targets) (targets_in c.link_met.new.self.targets) first second third

pub returns-clause-meanings : goal.returns-clause-meanings
returns-clause-meanings c = λ p is ready long m reached.
    let fills = c.in_ok-add_all_uses.ensures.meanings p is ready long in
    subst (λ l. AreMeaningsOf p m (list_in l.items m)) (sym (c.in_ok-link_met.ensures.meanings ∙ c.in_ok-link.ensures.meanings)) (fills.there m ((ready.reached m).1 reached))

pub returns-clause-linked : goal.returns-clause-linked
returns-clause-linked c = λ p is ready long d its.
    let begun : length c.add_all_uses.new.self.linked.items ≡ length c.args.kinds.now.modules.now = ap (λ l. length l.items) c.in_ok-add_all_uses.ensures.linked ∙ long in
    let first = c.in_ok-link.ensures.linked p (subst (IsIndexOf p) (sym c.in_ok-add_all_uses.ensures.same) is) ready begun in
    let second = c.in_ok-link_met.ensures.linked p (subst (IsIndexOf p) (sym (c.in_ok-link.ensures.same ∙ c.in_ok-add_all_uses.ensures.same)) is) ready (first.long ∙ begun) in
    elim its [
      | inl entry ↦ second.kept d (first.there d (entry ∙ ready.begins))
      | inr there ↦ second.there d there
    ]
