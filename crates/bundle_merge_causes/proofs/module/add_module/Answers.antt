-- What a module makes, and its object, are what is decided.
use Rattle.std.proofs.lemmas.Result.{on_ok_weaker}
use Rattle.bundle_merge_causes.specs.Told.{causes_told}
use Rattle.bundle_merge_causes.proofs.Plans.{module-told}
use Rattle.bundle_merge_causes.proofs.module.add_module.Goals as goal

pub returns : goal.returns
returns c =
    on_ok_weaker c.add_if.result
    (λ added. module-told c.args.linking.now c.args.shapes.now c.args.which c.shape_in-shape.result
    c.is_common_js-is_common_js.result c.is_object_meant.result c.loads.result.now
    (causes_told c.args.causes.now.items) (causes_told c.add_own.new.causes.items)
    (causes_told c.add_if.new.causes.items) c.requires c.shape_in-shape.ensures
    c.is_common_js-is_common_js.ensures c.loads.ensures c.is_object_meant.ensures
    c.in_ok-add_own.ensures added) c.add_if.ensures
