use Rattle.std.proofs.Common.{sym, ◌∙◌, arith}
use Rattle.bundle_json_form.proofs.Pieces.{found_none, found_one, passed_one}
use Rattle.bundle_json_form.proofs.text.first_in.Goals as goal

pub returns-then-field-number-clause-found : goal.returns-then-field-number-clause-found
returns-then-field-number-clause-found c =
    found_one _ c.in-Some.field _ _ c.if-field-number.true c.in-Some.ensures.field c.children.invariant.finds

pub children-preserved : goal.children-preserved
children-preserved c = record {
  finds = passed_one _ c.in-Some.field _ _ _ c.if-field-number.false c.in-Some.ensures.field c.after_first-child.ensures.rest c.children.invariant.finds;
  later = omega arith;
}

pub returns-clause-none : goal.returns-clause-none
returns-clause-none c = found_none _ _ _ (sym c.in_default.is ∙ c.field_at.ensures.field) c.children.invariant.finds
