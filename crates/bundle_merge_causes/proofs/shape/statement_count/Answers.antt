-- As many items state something as the module has statements of its own.
use Rattle.std.proofs.Common.{ap, sym, ◌∙◌}
use Rattle.std.specs.Prelude.{count_by}
use Rattle.bundle_merge_causes.specs.Shape.{states}
use Rattle.bundle_merge_causes.proofs.Counted.{statements-counted}
use Rattle.bundle_merge_causes.proofs.shape.statement_count.Goals as goal

pub returns : goal.returns
returns c =
    c.stated_count.ensures
    ∙ (ap (count_by states) c.deref.ensures.value ∙ sym (statements-counted c.args.tree.now))
