use Rattle.std.proofs.Common.{arith}
use Rattle.std.proofs.lemmas.Result.{on_ok_weaker}
use Rattle.gutsirava_views.proofs.WritingLemmas.{adds_nothing, adds_next, nest_list, one_deeper}
use Rattle.gutsirava_views.proofs.metafile.put_inputs.Goals as goal

pub loop-input-init : goal.loop-input-init
loop-input-init c =
    adds_nothing 2 c.open_member.new.self
    (one_deeper _ _ 1 _ _ c.requires (c.in_ok-open_member.ensures (omega (arith, c.requires))))

pub loop-input-preserved : goal.loop-input-preserved
loop-input-preserved c =
    adds_next _ c.deref-input-items.result.now _ _ c.input-item.result 2 _ _ _ (omega arith) c.input-item.is
    c.loop-input.invariant c.in_ok-put_input.ensures

pub returns : goal.returns
returns c =
    on_ok_weaker c.close.result (nest_list _ c.deref-input-items.result.now _ _ _ _ _ 1 _ _ _ _ c.deref-input-items.ensures.value
    (omega (arith, c.loop-input-test.false)) c.requires (c.in_ok-open_member.ensures (omega (arith, c.requires)))
    c.loop-input.invariant) c.close.ensures
