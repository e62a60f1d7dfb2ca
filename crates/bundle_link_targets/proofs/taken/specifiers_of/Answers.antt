use Rattle.std.proofs.Common.{ap, ◌∙◌, take, map}
use Rattle.std.proofs.lemmas.List.{take_all}
use Rattle.std.specs.Prelude.{slice_get}
use Rattle.std.specs.Borrow.{Bor}
use Rattle.bundle_rules.specs.Nodes.{Text, each_once}
use Rattle.bundle_link_tables.proofs.MarkLemmas.{flat_next as flat_more}
use Rattle.bundle_link_targets.specs.Taken.{outside_in, outside_of}
use Rattle.bundle_link_targets.proofs.taken.specifiers_of.Goals as goal

pub loop-which-init : goal.loop-which-init
loop-which-init c = ap (map (λ (k : Bor Text). k.now)) c.new-specifiers.ensures.empty

pub loop-which-preserved : goal.loop-which-preserved
loop-which-preserved c =
    let modules = c.args.kinds.now.modules.now in
    let list = c.args.kinds.now.list.now in
    c.in_ok-add_specifiers_of.ensures (outside_of modules (take c.loop-which.which-index list)) c.loop-which.invariant
    ∙ ap each_once (flat_more (λ m. outside_in (slice_get modules m)) list c.loop-which.which-index _ c.loop-which-test.true)

pub returns : goal.returns
returns c =
    let modules = c.args.kinds.now.modules.now in
    c.loop-which.invariant ∙ ap (λ l. each_once (outside_of modules l)) (take_all c.loop-which.which-index c.args.kinds.now.list.now c.loop-which-test.false)
