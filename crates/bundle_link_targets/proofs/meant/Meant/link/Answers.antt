use Rattle.std.proofs.Common.{Contains, map, subst, arith}
use Rattle.std.proofs.lemmas.Option.{slice_get_past}
use Rattle.bundle_link_targets.specs.Handed.{AreLinkedIn}
use Rattle.bundle_link_targets.proofs.CallPlaceLemmas.{fills-put, target-links, links-target}
use Rattle.bundle_link_targets.proofs.UseLemmas.{linked-none}
use Rattle.bundle_link_index.specs.Given.{AddsMissing}
use Rattle.bundle_link_targets.specs.Meant.{LinksTo}
use Rattle.bundle_link_targets.specs.Found.{target_in, targets_in}
use Rattle.bundle_link_targets.proofs.TakenLemmas.{Adds-same}
use Rattle.bundle_link_targets.proofs.meant.Meant.link.Goals as goal

pub returns-clause-right : goal.returns-clause-right
returns-clause-right c = λ p is are.
    let linked = c.in_ok-linked.linked.items in
    let m = c.args.which in
    let old = targets_in c.args.self.now.targets in
    let new = targets_in c.add_targets.new.targets in
    let all = c.in_ok-linked.ensures.right p is are in
    Adds-same old new (Contains (map target_in linked)) (LinksTo p m) (target-links p m linked all) (links-target p m linked all)
    (subst (λ l. AddsMissing old (Contains (map target_in l)) new) c.deref.ensures.value c.in_ok-add_targets.ensures)

pub returns-clause-linked : goal.returns-clause-linked
returns-clause-linked c = λ p is are long.
    let old = c.args.self.now.linked.items in
    let m = c.args.which in
    let all = c.in_ok-linked.ensures.right p is are in
    let ordered = c.in_ok-linked.ensures.ascending in
    fills-put (AreLinkedIn p) m old c.put_at.new.lists.items c.in_ok-linked.linked c.put_at.ensures
    (λ h. record { ascending = ordered; all = all })
    (λ past. linked-none p c.args.kinds.now are m (slice_get_past c.args.kinds.now.modules.now m (omega (arith, long, past))))
