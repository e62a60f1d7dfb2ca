use Rattle.std.proofs.Common.{◌++◌, ap, sym, ◌∙◌, subst, append_assoc, map, take}
use Rattle.std.proofs.lemmas.List.{append-nil, take_all}
use Rattle.bundle_link_tables.proofs.MarkLemmas.{one_more}
use Rattle.bundle_link_index.specs.Leads.{lead_of}
use Rattle.bundle_link_index.specs.Numbered.{HoldsAt, note}
use Rattle.bundle_link_index.proofs.index.add_entries.Goals as goal

pub loop-export-init : goal.loop-export-init
loop-export-init c = λ imports finds noted stars w. subst (λ l. HoldsAt l stars c.args.numbers.now c.args.links.now) (sym (append-nil noted)) w

pub loop-export-preserved : goal.loop-export-preserved
loop-export-preserved c = λ imports finds noted stars w.
    let says = note (lead_of c.args.kinds.now c.args.number) c.args.number imports in
    let before = map says (take c.loop-export.export-index c.args.exports.now) in
    subst (λ l. HoldsAt l stars c.add_entry.new.numbers c.add_entry.new.links)
    (append_assoc noted before _ ∙ ap (λ l. noted ++ l) (one_more says c.args.exports.now c.loop-export.export-index _ c.loop-export-test.true))
    (c.in_ok-add_entry.ensures imports finds (noted ++ before) stars (c.loop-export.invariant imports finds noted stars w))

pub returns : goal.returns
returns c = λ imports finds noted stars w.
    subst (λ l. HoldsAt (noted ++ map (note (lead_of c.args.kinds.now c.args.number) c.args.number imports) l) stars c.loop-export.numbers c.loop-export.links)
    (take_all c.loop-export.export-index c.args.exports.now c.loop-export-test.false) (c.loop-export.invariant imports finds noted stars w)
