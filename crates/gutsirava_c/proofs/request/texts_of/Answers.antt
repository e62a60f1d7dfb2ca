use Rattle.std.proofs.Common.{arith}
use Rattle.std.proofs.lemmas.List.{take_all}
use Rattle.gutsirava_c.proofs.Refused.{files_all, files_more, no_files, passed_on}
use Rattle.gutsirava_c.proofs.request.texts_of.Goals as goal

pub loop-name-preserved : goal.loop-name-preserved
loop-name-preserved c =
    let l = c.loop-name in
    files_more c.args.members.now l.name-index c.loop-name-item.result (omega arith) c.loop-name-item.is l.invariant c.in_ok-add_text.ensures.is

pub returns-clause-are : goal.returns-clause-are
returns-clause-are c =
    let l = c.loop-name in
    files_all c.args.members.now l.name-index (take_all l.name-index c.args.members.now (omega arith)) l.invariant

pub returns-in_err-add_text-clause-refused : goal.returns-in_err-add_text-clause-refused
returns-in_err-add_text-clause-refused c =
    passed_on _ _ c.from_residual.ensures.1
    (no_files c.args.members.now c.loop-name.name-index c.loop-name-item.result (omega arith) c.loop-name-item.is)
    c.in_err-add_text.ensures.refused
