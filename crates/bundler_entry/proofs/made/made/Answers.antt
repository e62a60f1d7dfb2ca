-- The modules of an entry are merged.
use Rattle.std.proofs.Common.{length, sym, subst}
use Rattle.std.proofs.lemmas.Result.{err_from_is_err_and}
use Rattle.bundler_entry.specs.Made.{for_memory}
use Rattle.bundler_entry.specs.Parts.{AreBodies}
use Rattle.bundler_entry.proofs.made.made.Goals as goal

pub returns-in_err-bodies-clause-refused : goal.returns-in_err-bodies-clause-refused
returns-in_err-bodies-clause-refused c =
    let q = err_from_is_err_and c.from_residual.result c.from_residual.ensures.1 in
    rw (q.1, q.2) (λ p entry w l read answered. for_memory)

pub returns-clause-made : goal.returns-clause-made
returns-clause-made c = λ p entry w l read answered.
    let call = c.args.call.now in
    let reached = c.args.linked.now.reached in
    c.in_ok-merged.ensures.merged p entry w l
    (subst (AreBodies l.links.places call reached (length reached.places.items))
    (sym c.as_slice.ensures.value) (c.in_ok-bodies.ensures l.links.places l.links.linked))
    read answered
