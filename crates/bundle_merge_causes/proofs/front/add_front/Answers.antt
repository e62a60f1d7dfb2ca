-- What is imported, and the helper, are what is decided.
use Rattle.std.proofs.lemmas.Result.{on_ok_weaker}
use Rattle.bundle_merge_causes.specs.Told.{causes_told}
use Rattle.bundle_merge_causes.proofs.Plans.{front-told}
use Rattle.bundle_merge_causes.proofs.front.add_front.Goals as goal

pub returns : goal.returns
returns c =
    on_ok_weaker c.add_if.result
    (λ added. front-told c.args.linking.now c.args.shapes.now c.externals.result.now
    c.has_common_js.result (causes_told c.args.causes.now.items)
    (causes_told c.add_externals.new.causes.items) (causes_told c.add_if.new.causes.items)
    c.externals.ensures c.has_common_js.ensures c.in_ok-add_externals.ensures added)
    c.add_if.ensures
