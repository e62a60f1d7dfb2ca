-- One module more, which was not met.
use Rattle.std.proofs.Common.{◌≡◌, ◌∙◌, ℕ, List, false, subst, sym}
use Rattle.std.specs.Ordering.{nat_cmp}
use Rattle.std.specs.BTreeSet.{contains}
use Rattle.std.proofs.lemmas.Bool.{not-true}
use Rattle.gutsirava_graph.specs.Met.{IsSetOf}
use Rattle.gutsirava_graph.proofs.MetLemmas.{set_more}
use Rattle.gutsirava_graph.proofs.tables.MetUnits.add.Goals as goal

pub returns-in_ok-push-clause-met : goal.returns-in_ok-push-clause-met
returns-in_ok-push-clause-met c =
    let old = c.args.self.now in
    let absent : contains nat_cmp old.all c.args.unit ≡ false =
    not-true _ (sym c.in_ok-insert.ensures.added ∙ c.if-branch.true) in
    subst (λ (list : List ℕ). IsSetOf list c.insert.new.self) (sym c.in_ok-push.ensures.items)
    (set_more old.list.items old.all c.insert.new.self c.args.unit c.requires absent c.in_ok-insert.ensures.updates)
