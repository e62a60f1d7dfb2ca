use Rattle.std.proofs.Common.{arith}
use Rattle.std.proofs.lemmas.Result.{on_ok_weaker}
use Rattle.gutsirava_views.proofs.WritingLemmas.{adds_nothing, adds_next, nest_list, one_deeper}
use Rattle.gutsirava_views.proofs.metafile.put_outputs.Goals as goal

pub loop-output-init : goal.loop-output-init
loop-output-init c =
    adds_nothing 2 c.open_member.new.self
    (one_deeper _ _ 1 _ _ c.requires (c.in_ok-open_member.ensures (omega (arith, c.requires))))

pub loop-output-preserved : goal.loop-output-preserved
loop-output-preserved c =
    adds_next _ c.deref-output-items.result.now _ _ c.output-item.result 2 _ _ _ (omega arith) c.output-item.is
    c.loop-output.invariant c.in_ok-put_output.ensures

pub returns : goal.returns
returns c =
    on_ok_weaker c.close.result (nest_list _ c.deref-output-items.result.now _ _ _ _ _ 1 _ _ _ _ c.deref-output-items.ensures.value
    (omega (arith, c.loop-output-test.false)) c.requires (c.in_ok-open_member.ensures (omega (arith, c.requires)))
    c.loop-output.invariant) c.close.ensures
