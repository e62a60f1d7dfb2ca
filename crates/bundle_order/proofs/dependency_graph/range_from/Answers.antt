use Rattle.std.proofs.Common.{◌≡◌, ℕ, map, slice_get, sym, ap, ◌∙◌, inl, inr, arith}
use Rattle.std.specs.declared.ops.Range.{Range}
use Rattle.std.proofs.lemmas.Bool.{cases_lt}
use Rattle.std.proofs.lemmas.List.{length-map}
use Rattle.std.proofs.lemmas.Option.{slice_get_within}
use Rattle.bundle_order.specs.Grouped.{ends_of}
use Rattle.bundle_order.proofs.NumberingLemmas.{ends-at}
use Rattle.bundle_order.proofs.dependency_graph.range_from.Goals as goal

-- no range
abbrev none : Range ℕ
none = record { start = 0; end = 0 }

pub loop-at-preserved : goal.loop-at-preserved
loop-at-preserved c = record {
  within = omega (arith, c.loop-at-test.true);
  past = λ p i a l e. elim (cases_lt i c.loop-at.at) [
    | inl lt ↦ c.loop-at.invariant.past p i a lt e
    | inr ge ↦
        let same : i ≡ c.loop-at.at = omega (arith, l, ge) in
        let is = ends-at c.args.modules.now c.loop-at.at none a (ap (λ k. slice_get (map ends_of c.args.modules.now) k) (sym same) ∙ e) in
        omega (arith, ap (λ (r : ℕ × ℕ). r.1) is, c.if-modules-at.true)
  ];
}

pub returns-else-modules-at-clause-at : goal.returns-else-modules-at-clause-at
returns-else-modules-at-clause-at c = λ range e. omega (arith, ap (λ (r : ℕ × ℕ). r.1) (ends-at c.args.modules.now c.loop-at.at none range e), c.if-modules-at.false)

pub returns-after-loop-at-clause-at : goal.returns-after-loop-at-clause-at
returns-after-loop-at-clause-at c = λ range e. absurd (omega (arith, slice_get_within (map ends_of c.args.modules.now) c.loop-at.at range e, length-map c.args.modules.now ends_of, c.loop-at-test.false))
