use Rattle.std.proofs.Common.{true, arith}
use Rattle.std.proofs.lemmas.Result.{on_ok_weaker}
use Rattle.gutsirava_views.proofs.MetafileLemmas.{told_imports}
use Rattle.gutsirava_views.proofs.WritingLemmas.{adds_more, nest_item, one_deeper, told_key}
use Rattle.gutsirava_views.proofs.metafile.put_input.Goals as goal

pub put_imports-requires : goal.put_imports-requires
put_imports-requires c =
    let opens = c.in_ok-open_member.ensures (omega (arith, c.requires)) in
    let bytes = c.in_ok-put_number.ensures 3 (one_deeper _ _ 2 _ _ c.requires opens) in
    bytes.at_depth

pub returns : goal.returns
returns c =
    let opens = c.in_ok-open_member.ensures (omega (arith, c.requires)) in
    let bytes = c.in_ok-put_number.ensures 3 (one_deeper _ _ 2 _ _ c.requires opens) in
    let imports = told_imports c.args.overview.now true _ _ _ _ c.as_slice.ensures.value c.in_ok-put_imports.ensures in
    let all = adds_more 3 _ _ _ _ _ bytes (adds_more 3 _ _ _ _ _ imports c.in_ok-put_format.ensures) in
    on_ok_weaker c.close.result (nest_item _ _ _ 2 _ _ _ _ _ c.requires (told_key _ _ _ _ _ c.as_str.ensures.value opens) all)
    c.close.ensures
