use Rattle.std.proofs.Common.{◌≤◌, ◌+◌, length, sym, ◌∙◌, subst, rules}
use Rattle.std.proofs.lemmas.Bool.{false≢true}
use Rattle.bundle_order_graph.proofs.RowLemmas.{Connected, Connected-gains, Connected-stays, Connected-all}
use Rattle.bundle_order_graph.proofs.rows.Rows.connect.Goals as goal
use Rattle.bundle_order_graph.proofs.rows.Rows.connect.Goals.{then-gains, else-gains}

pub loop-at-preserved : goal.loop-at-preserved
loop-at-preserved c =
    let old = c.args.self.now in
    let wide = c.widen.new.self in
    let from = c.args.from in
    let to = c.args.to in
    let k = c.loop-at.at in
    elim c.if-gains.branch [
      | then-gains w ↦ subst (λ x. Connected old wide from to (k + 1) x) (sym w.self-is) (Connected-gains old wide from to c.requires.closed k c.loop-at.self c.loop-at.invariant w.absorb.new.self (c.gains.ensures.0 w.if-gains.true) w.absorb.ensures.absorbed)
      | else-gains w ↦ subst (λ x. Connected old wide from to (k + 1) x) (sym w.self-is) (Connected-stays old wide from to c.requires.closed k c.loop-at.self c.loop-at.invariant (λ g. false≢true (sym w.if-gains.false ∙ c.gains.ensures.1 g)))
    ]

pub returns-clause-ok : goal.returns-clause-ok
returns-clause-ok c =
    let all : length c.args.self.now ≤ c.loop-at.at = search rules in
    Connected-all c.args.self.now c.widen.new.self c.args.from c.args.to c.loop-at.at c.loop-at.self c.loop-at.invariant c.requires.from_in all
