use Rattle.std.proofs.Common.{length, slice_index, ◌∙◌, arith, ap}
use Rattle.std.proofs.lemmas.Result.{on_ok_weaker}
use Rattle.gutsirava_views.specs.Shares.{share_of}
use Rattle.gutsirava_views.proofs.MetafileLemmas.{same_shares}
use Rattle.gutsirava_views.proofs.WritingLemmas.{nest_item}
use Rattle.gutsirava_views.proofs.metafile.put_shares.Goals as goal

pub returns : goal.returns
returns c =
    let opens = c.in_ok-open_member.ensures (omega (arith, c.requires)) in
    let overview = c.args.overview.now in
    let output = c.args.output.now in
    let all = same_shares overview (slice_index c.as_slice.result.now) (share_of output.parts.items output.bytes)
    (length c.as_slice.result.now) (length overview.inputs.items) _ _ (grind arith)
    (λ k less. ap (λ l. slice_index l k) c.as_slice.ensures.value
    ∙ c.in_ok-shares.ensures.exact k (grind (arith, less))
    ∙ ap (λ l. share_of l output.bytes k) c.as_slice-parts.ensures.value)
    c.in_ok-put_each.ensures in
    on_ok_weaker c.close.result (nest_item _ _ _ 3 _ _ _ _ _ c.requires opens all) c.close.ensures
