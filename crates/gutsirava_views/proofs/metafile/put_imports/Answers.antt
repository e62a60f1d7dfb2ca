use Rattle.std.proofs.Common.{refl, arith}
use Rattle.std.proofs.lemmas.Result.{on_ok_weaker}
use Rattle.gutsirava_views.proofs.WritingLemmas.{adds_nothing, adds_next, nest_list, one_deeper}
use Rattle.gutsirava_views.proofs.metafile.put_imports.Goals as goal

pub loop-import-init : goal.loop-import-init
loop-import-init c =
    adds_nothing 4 c.open_member.new.self
    (one_deeper _ _ 3 _ _ c.requires (c.in_ok-open_member.ensures (omega (arith, c.requires))))

pub loop-import-preserved : goal.loop-import-preserved
loop-import-preserved c =
    adds_next _ c.args.imports.now _ _ c.import-item.result 4 _ _ _ (omega arith) c.import-item.is
    c.loop-import.invariant c.in_ok-put_import.ensures

pub returns : goal.returns
returns c =
    on_ok_weaker c.close.result (nest_list _ c.args.imports.now _ _ _ _ _ 3 _ _ _ _ refl (omega (arith, c.loop-import-test.false))
    c.requires (c.in_ok-open_member.ensures (omega (arith, c.requires))) c.loop-import.invariant) c.close.ensures
