use Rattle.std.proofs.Common.{ℕ, ap, map, ◌∙◌}
use Rattle.std.proofs.lemmas.List.{take_all}
use Rattle.bundle_link_targets.specs.declared.target.Loaded.{Loaded}
use Rattle.bundle_link_targets.specs.Found.{targets_in}
use Rattle.bundle_link_targets.specs.Taken.{IsLoad}
use Rattle.bundle_link_targets.proofs.TakenLemmas.{all-none, all-push, map-itself, seen-push}
use Rattle.bundle_link_targets.proofs.taken.loads_by.Goals as goal

pub loop-which-init : goal.loop-which-init
loop-which-init c = record {
  modules = ap (map (λ (loaded : Loaded). loaded.which)) c.new-loads.ensures.items;
  taken = λ holds. all-none (IsLoad (targets_in c.args.meant.now) c.args.taker) c.new-loads.result.items c.new-loads.ensures.items;
}

pub loop-which-preserved : goal.loop-which-preserved
loop-which-preserved c =
    let inv = c.loop-which.invariant in
    let old = c.loop-which.loads.items in
    let new = c.push.new.self.items in
    let put = c.in_ok-push.ensures.items in
    record {
      modules = seen-push (λ (loaded : Loaded). loaded.which) (λ (n : ℕ). n) old new c.in_ok-loaded_of.field-0 c.as_slice-all.result.now c.loop-which.which-index _ put inv.modules c.in_ok-loaded_of.ensures.number c.loop-which-test.true;
      taken = λ holds. all-push (IsLoad (targets_in c.args.meant.now) c.args.taker) old new c.in_ok-loaded_of.field-0 put (inv.taken holds) (c.in_ok-loaded_of.ensures.taken holds);
    }

pub returns : goal.returns
returns c = λ holds. record {
  modules =
      c.loop-which.invariant.modules
      ∙ ap (map (λ (n : ℕ). n)) (take_all c.loop-which.which-index c.as_slice-all.result.now c.loop-which-test.false ∙ c.as_slice-all.ensures.keys)
      ∙ map-itself c.in_ok-modules.modules.keys ∙ c.in_ok-modules.ensures;
  taken = c.loop-which.invariant.taken holds;
}
