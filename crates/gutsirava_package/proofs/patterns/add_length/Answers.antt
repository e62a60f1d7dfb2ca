-- The others stay where a length is put in.
use Rattle.std.proofs.Common.{◌≤◌, Contains, length, subst, sym}
use Rattle.gutsirava_package.proofs.PatternLemmas.{contains_insert}
use Rattle.gutsirava_package.proofs.patterns.add_length.Goals as goal

pub returns-in_ok-insert-in-Err-clause-stay : goal.returns-in_ok-insert-in-Err-clause-stay
returns-in_ok-insert-in-Err-clause-stay c = λ own has.
    let within = subst (λ l. c.in-Err.place ≤ length l) c.deref.ensures.value c.in-Err.ensures.bound in
    subst (λ l. Contains l own) (sym c.in_ok-insert-in-Err.ensures.items)
    (contains_insert c.args.lengths.now.items c.in-Err.place c.args.length own within has)
