-- A key that is put has a number, and the bindings stay beside their keys.
use Rattle.std.proofs.Common.{Some, ap, sym, ◌∙◌}
use Rattle.bundle_scope_denote.proofs.InsertLemmas.{same_key-true}
use Rattle.bundle_scope_denote.proofs.LoopLemmas.{matches-there, matches-added}
use Rattle.bundle_scope_denote.proofs.homes.Bindings.number_of.Goals as goal

pub returns-then-not-is_new-clause-number : goal.returns-then-not-is_new-clause-number
returns-then-not-is_new-clause-number c = let h = c.in_ok-number.ensures.stored in h.1 ∙ ap (λ k. Some k) (sym (same_key-true c.args.key h.0 h.2))

pub returns-then-not-is_new-clause-items : goal.returns-then-not-is_new-clause-items
returns-then-not-is_new-clause-items c = λ names named scope matches. matches-there names _ _ _ c.args.key c.in_ok-number.is_new c.in_ok-number.ensures.keys c.in_ok-number.ensures.added (cc) matches

pub returns-clause-number : goal.returns-clause-number
returns-clause-number c = let h = c.in_ok-number.ensures.stored in h.1 ∙ ap (λ k. Some k) (sym (same_key-true c.args.key h.0 h.2))

pub returns-clause-items : goal.returns-clause-items
returns-clause-items c = λ names named scope matches. matches-added names _ _ _ _ c.args.key c.args.binding c.in_ok-number.is_new c.in_ok-number.ensures.keys c.in_ok-number.ensures.added (cc) c.in_ok-push.ensures.items named scope matches
