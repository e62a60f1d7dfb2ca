use Rattle.std.proofs.Common.{arith}
use Rattle.std.proofs.lemmas.Result.{on_ok_weaker}
use Rattle.gutsirava_views.proofs.MetafileLemmas.{told_share}
use Rattle.gutsirava_views.proofs.WritingLemmas.{nest_item, one_deeper, told_key}
use Rattle.gutsirava_views.proofs.metafile.put_share.Goals as goal

pub returns : goal.returns
returns c =
    let opens = c.in_ok-open_member.ensures (omega (arith, c.requires)) in
    let deep = one_deeper _ _ 4 _ _ c.requires opens in
    let keyed = told_key _ _ _ _ _ c.path_of.ensures opens in
    on_ok_weaker c.close.result
    (λ closes. told_share c.args.overview.now c.args.input c.args.bytes _ _ (omega (arith, c.if-bytes-eq0.false))
    (nest_item _ _ _ 4 _ _ _ _ _ c.requires keyed (c.in_ok-put_number.ensures 5 deep) closes)) c.close.ensures
