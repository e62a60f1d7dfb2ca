use Rattle.std.proofs.Common.{refl, arith}
use Rattle.std.proofs.lemmas.Result.{on_ok_weaker}
use Rattle.gutsirava_views.proofs.WritingLemmas.{adds_nothing, adds_next, nest_list, one_deeper, told_element}
use Rattle.gutsirava_views.proofs.metafile.put_exports.Goals as goal

pub loop-name-init : goal.loop-name-init
loop-name-init c =
    adds_nothing 4 c.open_member.new.self
    (one_deeper _ _ 3 _ _ c.requires (c.in_ok-open_member.ensures (omega (arith, c.requires))))

pub loop-name-preserved : goal.loop-name-preserved
loop-name-preserved c =
    adds_next _ c.args.exports.now _ _ c.name-item.result 4 _ _ _ (omega arith) c.name-item.is c.loop-name.invariant
    (told_element _ _ 4 _ _ c.as_str.ensures.value (c.in_ok-put_element.ensures 4 c.loop-name.invariant.at_depth))

pub returns : goal.returns
returns c =
    on_ok_weaker c.close.result (nest_list _ c.args.exports.now _ _ _ _ _ 3 _ _ _ _ refl (omega (arith, c.loop-name-test.false))
    c.requires (c.in_ok-open_member.ensures (omega (arith, c.requires))) c.loop-name.invariant) c.close.ensures
