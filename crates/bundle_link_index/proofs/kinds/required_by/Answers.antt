use Rattle.std.proofs.Common.{◌++◌, ap, ◌∙◌, nat_eq, take}
use Rattle.std.specs.Prelude.{slice_get}
use Rattle.std.specs.List.{list_any}
use Rattle.bundle_link_index.specs.Handed.{required_by, required_from}
use Rattle.bundle_link_tables.proofs.MarkLemmas.{flat_next as flat_more}
use Rattle.bundle_link_index.proofs.kinds.required_by.Goals as goal

pub loop-number-preserved : goal.loop-number-preserved
loop-number-preserved c = λ n.
    let modules = c.args.modules.now in
    let list = c.args.list.now in
    let done = required_by modules (take c.loop-number.number-index list) in
    c.in_ok-add_required.ensures done c.loop-number.invariant n
    ∙ ap (λ o. list_any (nat_eq n) (done ++ required_from o)) c.module_at.ensures
    ∙ ap (list_any (nat_eq n)) (flat_more (λ m. required_from (slice_get modules m)) list c.loop-number.number-index _ c.loop-number-test.true)
