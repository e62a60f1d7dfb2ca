use Rattle.std.proofs.Common.{◌≡◌, map, take, subst, arith}
use Rattle.std.proofs.lemmas.List.{take_all}
use Rattle.std.specs.List.{AllZip}
use Rattle.json.specs.Value.{value_view}
use Rattle.gutsirava_c.specs.Request.{IsEntryPair}
use Rattle.gutsirava_c.proofs.Asked.{values_more}
use Rattle.gutsirava_c.proofs.Refused.{none_zipped, passed_on}
use Rattle.gutsirava_c.proofs.request.entries_of.Goals as goal

pub loop-pair-preserved : goal.loop-pair-preserved
loop-pair-preserved c =
    let l = c.loop-pair in
    rw c.in_ok-push.ensures.items (values_more IsEntryPair c.args.pairs.now l.entries.items l.pair-index c.pair-item.result c.in_ok-entry.entry (omega arith) c.pair-item.is l.invariant c.in_ok-entry.ensures.is)

pub returns-clause-are : goal.returns-clause-are
returns-clause-are c =
    let l = c.loop-pair in
    let all : take l.pair-index c.args.pairs.now ≡ c.args.pairs.now = take_all l.pair-index c.args.pairs.now (omega arith) in
    subst (λ values. AllZip IsEntryPair (map value_view values) l.entries.items) all l.invariant

pub returns-in_err-entry-clause-refused : goal.returns-in_err-entry-clause-refused
returns-in_err-entry-clause-refused c =
    passed_on _ _ c.from_residual.ensures.1
    (none_zipped c.args.pairs.now c.loop-pair.pair-index c.pair-item.result (omega arith) c.pair-item.is)
    c.in_err-entry.ensures.refused
