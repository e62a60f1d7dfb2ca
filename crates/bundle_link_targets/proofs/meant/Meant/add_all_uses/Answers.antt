use Rattle.std.proofs.Common.{◌≡◌, ◌+◌, ℕ, [], get_or, refl, sym, ◌∙◌, subst, take, Contains}
use Rattle.std.proofs.lemmas.List.{take_all, take_more}
use Rattle.bundle_rules.specs.Program.{tree_of}
use Rattle.bundle_link_index.specs.Given.{AddsMissing}
use Rattle.bundle_link_index.specs.Outside.{IsIndexOf}
use Rattle.bundle_link_tables.specs.Used.{uses_of}
use Rattle.bundle_link_targets.specs.Meant.{AnyMeans}
use Rattle.bundle_link_targets.specs.Found.{UsedIn, targets_in}
use Rattle.bundle_link_targets.specs.Handed.{AreMeaningsOf, HoldsOfLists}
use Rattle.bundle_link_targets.proofs.TakenLemmas.{Adds-step, Adds-none}
use Rattle.bundle_link_targets.proofs.CallPlaceLemmas.{fills-none, fills-then, one-more}
use Rattle.bundle_link_index.proofs.AskedLemmas.{none_there as none-there}
use Rattle.bundle_link_targets.proofs.meant.Meant.add_all_uses.Goals as goal

pub loop-which-init : goal.loop-which-init
loop-which-init c = record {
  index = refl;
  adds = λ p is ready. Adds-none (λ m. AnyMeans p m (uses_of (tree_of p m))) (targets_in c.args.self.now.targets);
  found = λ p is ready long. fills-none (AreMeaningsOf p) (Contains []) c.args.self.now.meanings.items c.args.self.now.meanings.items refl (λ n there. none-there n there);
  linked = refl;
}

pub loop-which-preserved : goal.loop-which-preserved
loop-which-preserved c =
    let inv = c.loop-which.invariant in
    let list = c.args.kinds.now.list.now in
    let i = c.loop-which.which-index in
    record {
      index = c.in_ok-add_uses_in.ensures.same ∙ inv.index;
      adds = λ p is ready. Adds-step (λ m. AnyMeans p m (uses_of (tree_of p m))) (take i list) (take (i + 1) list) (get_or list i 0) (targets_in c.args.self.now.targets) (targets_in c.loop-which.self.targets) (targets_in c.add_uses_in.new.self.targets)
          (take_more list i 0 c.loop-which-test.true) (inv.adds p is ready) (c.in_ok-add_uses_in.ensures.right p (subst (IsIndexOf p) (sym inv.index) is) ready);
      found = λ p is ready long.
          let before = inv.found p is ready long in
          let all = before.long ∙ long in
          fills-then (AreMeaningsOf p) (Contains (take i list)) (λ (n : ℕ). n ≡ get_or list i 0) (Contains (take (i + 1) list)) c.args.self.now.meanings.items c.loop-which.self.meanings.items c.add_uses_in.new.self.meanings.items
          before (c.in_ok-add_uses_in.ensures.meanings p (subst (IsIndexOf p) (sym inv.index) is) ready all)
          (one-more (take i list) (take (i + 1) list) (get_or list i 0) (take_more list i 0 c.loop-which-test.true));
      linked = c.in_ok-add_uses_in.ensures.linked ∙ inv.linked;
    }

pub returns-clause-right : goal.returns-clause-right
returns-clause-right c = λ p is ready.
    subst (λ l. AddsMissing (targets_in c.args.self.now.targets) (UsedIn p l) (targets_in c.loop-which.self.targets)) (take_all c.loop-which.which-index c.args.kinds.now.list.now c.loop-which-test.false) (c.loop-which.invariant.adds p is ready)

pub returns-clause-meanings : goal.returns-clause-meanings
returns-clause-meanings c = λ p is ready long.
    subst (λ l. HoldsOfLists (AreMeaningsOf p) (Contains l) c.args.self.now.meanings.items c.loop-which.self.meanings.items) (take_all c.loop-which.which-index c.args.kinds.now.list.now c.loop-which-test.false) (c.loop-which.invariant.found p is ready long)
