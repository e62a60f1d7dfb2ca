-- The modules before this one were asked for, and these are the answers.
use Rattle.std.specs.Prelude.{ℕ}
use Rattle.bundle_rules.specs.Program.{Program}
use Rattle.bundler_entry.specs.Asked.{AreAnswersBefore}
use Rattle.bundler_entry.specs.Linked.{IsCallOf, IsLinkedEntry}
use Rattle.bundler_entry.proofs.entry.ask_all.Given as goal

abbrev pub invariant-loop-which : goal.invariant-loop-which
invariant-loop-which g l =
    (p : Program) (entry : ℕ) → IsCallOf p entry l.call → IsLinkedEntry p l.call l.linked →
    AreAnswersBefore ((goal.Hook-dyn g l.hook.now).may_give l.hook.now.1) p
    l.linked.reached.list.items l.which l.answers.items
