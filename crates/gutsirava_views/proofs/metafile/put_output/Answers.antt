use Rattle.std.proofs.Common.{false, arith}
use Rattle.std.proofs.lemmas.Result.{on_ok_weaker}
use Rattle.gutsirava_views.proofs.MetafileLemmas.{told_imports, told_exports}
use Rattle.gutsirava_views.proofs.WritingLemmas.{adds_more, nest_item, told_key, told_text}
use Rattle.gutsirava_views.proofs.metafile.put_output.Goals as goal

pub put_shares-requires : goal.put_shares-requires
put_shares-requires c =
    let entry = c.in_ok-put_text.ensures 3 c.in_ok-put_exports.ensures.at_depth in
    entry.at_depth

pub returns : goal.returns
returns c =
    let opens = c.in_ok-open_member.ensures (omega (arith, c.requires)) in
    let imports = told_imports c.args.overview.now false _ _ _ _ c.as_slice.ensures.value c.in_ok-put_imports.ensures in
    let exports = told_exports _ _ _ _ c.as_slice-2.ensures.value c.in_ok-put_exports.ensures in
    let entry = told_text _ _ _ 3 _ _ c.path_of.ensures (c.in_ok-put_text.ensures 3 c.in_ok-put_exports.ensures.at_depth) in
    let bytes = c.in_ok-put_number.ensures 3 c.in_ok-put_shares.ensures.at_depth in
    let all = adds_more 3 _ _ _ _ _ imports (adds_more 3 _ _ _ _ _ exports (adds_more 3 _ _ _ _ _ entry
    (adds_more 3 _ _ _ _ _ c.in_ok-put_shares.ensures bytes))) in
    on_ok_weaker c.close.result (nest_item _ _ _ 2 _ _ _ _ _ c.requires (told_key _ _ _ _ _ c.as_str.ensures.value opens) all)
    c.close.ensures
