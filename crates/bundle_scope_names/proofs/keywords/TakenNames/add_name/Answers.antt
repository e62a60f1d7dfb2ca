-- The context is there.
use Rattle.std.proofs.Common.{◌||◌, ◌==◌, ℕ, List, true, cond, ap, ◌∙◌}
use Rattle.std.specs.List.{list_any}
use Rattle.bundle_scope_names.proofs.HomesLemmas.{eq_comm, given-or}
use Rattle.bundle_scope_names.proofs.keywords.TakenNames.add_name.Goals as goal

pub returns-clause-contexts : goal.returns-clause-contexts
returns-clause-contexts c = λ other. c.in_ok-insert.ensures.updates.0 other ∙ ap (λ (keys : List ℕ). cond (c.args.ctxt == other) true (list_any (λ its. other == its) keys)) (ap (λ set. set.keys) c.in_ok-add_symbol.ensures.contexts) ∙ given-or (c.args.ctxt == other) (list_any (λ its. other == its) c.args.self.now.contexts.keys) ∙ ap (λ b. list_any (λ its. other == its) c.args.self.now.contexts.keys || b) (eq_comm c.args.ctxt other)
