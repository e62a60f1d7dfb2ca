-- Name by name.
use Rattle.std.proofs.Common.{◌≡◌, ◌∙◌, ap, arith, map, subst, sym}
use Rattle.bundle_rules.specs.Program.{tree_of}
use Rattle.bundle_rules.specs.Faults.{asked_names}
use Rattle.bundle_link_tables.specs.TablesOf.{asked_name_of}
use Rattle.bundle_link_index.specs.Outside.{IsIndexOf}
use Rattle.bundle_link_targets.proofs.StageLemmas.{is_none, table_of}
use Rattle.bundle_link_targets.proofs.JudgedLemmas.{name_asks, name_more, name_none, name_some}
use Rattle.bundle_link_targets.proofs.faults.name_fault.Goals as goal

pub loop-asked-preserved : goal.loop-asked-preserved
loop-asked-preserved c = record {
  same = c.in_ok-found.ensures.same ∙ c.loop-asked.invariant.same;
  none = λ p w v.
      let xs = c.deref-asked-items.result.now in
      let are : map asked_name_of xs ≡ asked_names (tree_of p c.args.which) = ap (map asked_name_of) c.deref-asked-items.ensures.value ∙ (table_of p c.args.kinds.now w.modules c.args.which c.in-Some.tables c.tables.result c.tables.ensures c.in-Some.is).names in
      name_more p c.args.which xs are c.loop-asked.asked-index _ c.in_ok-found.found (c.loop-asked.invariant.none p w v) (is_none c.in_ok-found.found c.in_default-found.not-Some)
      (c.in_ok-found.ensures.right p w.modules (subst (IsIndexOf p) (sym c.loop-asked.invariant.same) v) (name_asks p c.args.which xs are c.loop-asked.asked-index _ c.loop-asked-test.true));
}

pub returns-in-Some-found-clause-right : goal.returns-in-Some-found-clause-right
returns-in-Some-found-clause-right c = λ p w v.
    let xs = c.deref-asked-items.result.now in
    let are : map asked_name_of xs ≡ asked_names (tree_of p c.args.which) = ap (map asked_name_of) c.deref-asked-items.ensures.value ∙ (table_of p c.args.kinds.now w.modules c.args.which c.in-Some.tables c.tables.result c.tables.ensures c.in-Some.is).names in
    name_some p c.args.which xs are c.loop-asked.asked-index _ c.in_ok-found.found c.in-Some-found.fault (c.loop-asked.invariant.none p w v) c.loop-asked-test.true c.in-Some-found.is
    (c.in_ok-found.ensures.right p w.modules (subst (IsIndexOf p) (sym c.loop-asked.invariant.same) v) (name_asks p c.args.which xs are c.loop-asked.asked-index _ c.loop-asked-test.true))

pub returns-clause-right : goal.returns-clause-right
returns-clause-right c = λ p w v.
    let xs = c.deref-asked-items.result.now in
    let are : map asked_name_of xs ≡ asked_names (tree_of p c.args.which) = ap (map asked_name_of) c.deref-asked-items.ensures.value ∙ (table_of p c.args.kinds.now w.modules c.args.which c.in-Some.tables c.tables.result c.tables.ensures c.in-Some.is).names in
    name_none p c.args.which xs are c.loop-asked.asked-index (c.loop-asked.invariant.none p w v) (λ less. let end = c.loop-asked-test.false in omega arith)
