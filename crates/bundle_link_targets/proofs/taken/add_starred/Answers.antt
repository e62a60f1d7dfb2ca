use Rattle.std.specs.Borrow.{Bor}
use Rattle.std.proofs.Common.{[], ◌++◌, ap, sym, ◌∙◌, append-nil, append_assoc, take, get_or}
use Rattle.std.proofs.lemmas.List.{take_all}
use Rattle.std.specs.List.{flat_map}
use Rattle.bundle_rules.specs.Nodes.{Text, has_text}
use Rattle.bundle_link_index.specs.Leads.{lead_of}
use Rattle.bundle_link_tables.proofs.MarkLemmas.{flat_next as flat_more}
use Rattle.bundle_link_targets.specs.Taken.{starred_as, starred_one}
use Rattle.bundle_link_targets.proofs.taken.add_starred.Goals as goal

pub loop-star-init : goal.loop-star-init
loop-star-init c = λ before known x. known x ∙ ap (has_text x) (sym (append-nil before))

pub loop-star-preserved : goal.loop-star-preserved
loop-star-preserved c = λ before known x.
    let f = starred_one (lead_of c.args.kinds.now c.args.which) in
    let stars = c.args.stars.now in
    let done = flat_map f (take c.loop-star.star-index stars) in
    let star : Bor Text = get_or stars c.loop-star.star-index (record { ref_ptr = (0, 0); now = [] }) in
    c.in_ok-add_star.ensures (before ++ done) (c.loop-star.invariant before known) x
    ∙ ap (λ lead. has_text x ((before ++ done) ++ starred_as lead star.now)) c.lead.ensures
    ∙ ap (has_text x) (append_assoc before done _ ∙ ap (λ l. before ++ l) (flat_more f stars c.loop-star.star-index _ c.loop-star-test.true))

pub returns : goal.returns
returns c = λ before known x.
    c.loop-star.invariant before known x
    ∙ ap (λ l. has_text x (before ++ flat_map (starred_one (lead_of c.args.kinds.now c.args.which)) l)) (take_all c.loop-star.star-index c.args.stars.now c.loop-star-test.false)
