-- A name more was passed.
use Rattle.std.proofs.Common.{sym, ◌∙◌, arith}
use Rattle.bundle_link_tables.proofs.ToldLemmas.{undeclared_here, undeclared_past, undeclared_end}
use Rattle.bundle_link_tables.proofs.faults.undeclared_name.Goals as goal

pub returns-then-is_undeclared : goal.returns-then-is_undeclared
returns-then-is_undeclared c = undeclared_here _ c.args.listed.now c.loop-name.name-index _ _ c.loop-name-test.true (sym c.is_undeclared.ensures ∙ c.if-is_undeclared.true) c.loop-name.invariant

pub loop-name-preserved : goal.loop-name-preserved
loop-name-preserved c = undeclared_past _ c.args.listed.now c.loop-name.name-index _ _ c.loop-name-test.true (sym c.is_undeclared.ensures ∙ c.if-is_undeclared.false) c.loop-name.invariant

pub returns : goal.returns
returns c = undeclared_end _ c.args.listed.now c.loop-name.name-index _ (omega arith) c.loop-name.invariant
