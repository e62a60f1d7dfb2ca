use Rattle.std.proofs.Common.{[], arith, codes}
use Rattle.std.proofs.lemmas.Result.{on_ok_weaker}
use Rattle.gutsirava_views.proofs.WritingLemmas.{adds_more, nest_item, one_deeper, told_text}
use Rattle.gutsirava_views.proofs.metafile.put_import.Goals as goal

pub put_origin-requires : goal.put_origin-requires
put_origin-requires c =
    let opens = c.in_ok-open_element.ensures (omega (arith, c.requires)) in
    let path = c.in_ok-put_text.ensures 5 (one_deeper _ _ 4 _ _ c.requires opens) in
    let kind = c.in_ok-put_text-2.ensures 5 path.at_depth in
    kind.at_depth

pub returns : goal.returns
returns c =
    let opens = c.in_ok-open_element.ensures (omega (arith, c.requires)) in
    let path = told_text _ _ _ 5 _ _ c.target_of.ensures (c.in_ok-put_text.ensures 5 (one_deeper _ _ 4 _ _ c.requires opens)) in
    let kind = told_text _ _ _ 5 _ _ c.kind_word.ensures (c.in_ok-put_text-2.ensures 5 path.at_depth) in
    let all = adds_more 5 _ _ _ _ _ path (adds_more 5 _ _ _ _ _ kind c.in_ok-put_origin.ensures) in
    on_ok_weaker c.close.result (nest_item [] (codes "{") (codes "}") 4 _ _ _ _ _ c.requires opens all) c.close.ensures
