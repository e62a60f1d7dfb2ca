use Rattle.std.proofs.Common.{◌≡◌, ℕ, ◌+◌, ap, length, map, option_map, refl, sym, ◌∙◌, subst, arith}
use Rattle.std.proofs.lemmas.List.{length-map}
use Rattle.std.proofs.lemmas.Option.{slice_get-map}
use Rattle.bundle_rules.specs.Linking.{Namespace}
use Rattle.bundle_link_index.specs.Given.{IsIn}
use Rattle.bundle_link_index.specs.Outside.{IsIndexOf}
use Rattle.bundle_link_index.specs.Says.{target_of}
use Rattle.bundle_link_targets.specs.Found.{targets_in}
use Rattle.bundle_link_targets.specs.Handed.{AreLinkedIn}
use Rattle.bundle_link_targets.proofs.CallPlaceLemmas.{fills-none, fills-same, fills-then}
use Rattle.bundle_link_targets.proofs.UseLemmas.{MetBefore, met-end, met-step}
use Rattle.bundle_link_targets.proofs.HandedLemmas.{Meets-begins, Meets-steps, Meets-ends}
use Rattle.bundle_link_targets.proofs.meant.Meant.link_met.Goals as goal

pub loop-done-init : goal.loop-done-init
loop-done-init c = record {
  index = refl;
  meets = λ p is are. Meets-begins p (targets_in c.args.self.now.targets);
  fills = λ p is are long. fills-none (AreLinkedIn p) (MetBefore (targets_in c.args.self.now.targets) 0) c.args.self.now.linked.items c.args.self.now.linked.items refl (λ (d : ℕ) its. absurd (omega (arith, its.1)));
  meanings = refl;
}

pub loop-done-preserved : goal.loop-done-preserved
loop-done-preserved c =
    let inv = c.loop-done.invariant in
    let keys = c.loop-done.self.targets.keys in
    let done = c.loop-done.done in
    let target = c.target_at-target.result in
    let new = targets_in c.link_target.new.self.targets in
    let here = slice_get-map target_of keys done ∙ ap (option_map target_of) c.target_at-target.ensures in
    record {
      index = c.in_ok-link_target.ensures.same ∙ inv.index;
      meets = λ p is are. Meets-steps p (targets_in c.args.self.now.targets) (map target_of keys) new done (target_of target)
          here (inv.meets p is are) (c.in_ok-link_target.ensures.right p (subst (IsIndexOf p) (sym inv.index) is) are);
      fills = λ p is are long.
          let same = subst (IsIndexOf p) (sym inv.index) is in
          let before = inv.fills p is are long in
          let stays = (c.in_ok-link_target.ensures.right p same are).stays in
          fills-then (AreLinkedIn p) (MetBefore (map target_of keys) done) (λ (d : ℕ). target_of target ≡ Namespace d) (MetBefore new (done + 1))
          c.args.self.now.linked.items c.loop-done.self.linked.items c.link_target.new.self.linked.items before (c.in_ok-link_target.ensures.linked p same are (before.long ∙ long))
          (met-step (map target_of keys) new done (target_of target) here stays);
      meanings = c.in_ok-link_target.ensures.meanings ∙ inv.meanings;
    }

pub returns-clause-right : goal.returns-clause-right
returns-clause-right c = λ p is are.
    let keys = c.loop-done.self.targets.keys in
    let long : length (map target_of keys) ≡ length keys = length-map keys target_of in
    Meets-ends p (targets_in c.args.self.now.targets) (map target_of keys) c.loop-done.done (omega (arith, long, c.loop-done-test.false, c.len.ensures.len)) (c.loop-done.invariant.meets p is are)

pub returns-clause-linked : goal.returns-clause-linked
returns-clause-linked c = λ p is are all.
    let keys = c.loop-done.self.targets.keys in
    let long : length (map target_of keys) ≡ length keys = length-map keys target_of in
    fills-same (AreLinkedIn p) (MetBefore (map target_of keys) c.loop-done.done) (λ d. IsIn (map target_of keys) (Namespace d)) c.args.self.now.linked.items c.loop-done.self.linked.items
    (met-end (map target_of keys) c.loop-done.done (omega (arith, long, c.loop-done-test.false, c.len.ensures.len))) (c.loop-done.invariant.fills p is are all)
