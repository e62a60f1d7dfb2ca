use Rattle.std.proofs.Common.{ap, ◌∙◌, take}
use Rattle.std.proofs.lemmas.List.{take_all}
use Rattle.std.specs.List.{flat_map}
use Rattle.bundle_rules.specs.Nodes.{has_text}
use Rattle.bundle_link_tables.proofs.MarkLemmas.{flat_next as flat_more}
use Rattle.bundle_link_targets.specs.Taken.{starred_in}
use Rattle.bundle_link_targets.proofs.taken.starred_by.Goals as goal

pub loop-which-preserved : goal.loop-which-preserved
loop-which-preserved c = λ x.
    let f = starred_in c.args.kinds.now in
    let all = c.as_slice-all.result.now in
    c.in_ok-add_starred_of.ensures (flat_map f (take c.loop-which.which-index all)) c.loop-which.invariant x
    ∙ ap (has_text x) (flat_more f all c.loop-which.which-index _ c.loop-which-test.true)

pub returns : goal.returns
returns c = λ x.
    c.loop-which.invariant x ∙ ap (λ l. has_text x (flat_map (starred_in c.args.kinds.now) l)) (take_all c.loop-which.which-index c.as_slice-all.result.now c.loop-which-test.false ∙ c.as_slice-all.ensures.keys)
