-- The stars, and what is handed out, are what is decided.
use Rattle.std.proofs.Common.{◌||◌, ◌∙◌, ap}
use Rattle.std.proofs.lemmas.Result.{on_ok_weaker}
use Rattle.bundle_merge_causes.specs.Told.{causes_told}
use Rattle.bundle_merge_causes.proofs.Plans.{back-told}
use Rattle.bundle_merge_causes.proofs.causes.add_back.Goals as goal

pub returns : goal.returns
returns c =
    on_ok_weaker c.add_if.result
    (λ added. back-told c.args.linking.now c.args.shapes.now c.args.is_call
    c.external_stars.result.now c.linked_names.result.now c.saturating_sub.result
    c.is_handed_out.result (causes_told c.args.causes.now.items)
    (causes_told c.add_stars.new.causes.items) (causes_told c.add_if.new.causes.items)
    c.saturating_sub.ensures
    (c.is_handed_out.ensures ∙ ap (λ b. c.args.is_call || b) c.links_some-links.ensures)
    c.external_stars.ensures c.linked_names.ensures c.in_ok-add_stars.ensures added)
    c.add_if.ensures
