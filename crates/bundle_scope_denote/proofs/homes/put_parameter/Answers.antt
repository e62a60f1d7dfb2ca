-- A name is put where the scope is that of parameters.
use Rattle.std.proofs.Common.{sym, ◌∙◌}
use Rattle.bundle_scope_denote.specs.Bound.{same_key}
use Rattle.bundle_scope_denote.proofs.LoopLemmas.{put-passing, put-or}
use Rattle.bundle_scope_denote.proofs.homes.put_parameter.Goals as goal

pub returns-then-not-holds_parameters_at : goal.returns-then-not-holds_parameters_at
returns-then-not-holds_parameters_at c = λ other. put-or _ _ (same_key other c.args.key) (sym c.holds_parameters_at.ensures ∙ c.if-not-holds_parameters_at.true)

pub returns : goal.returns
returns c = λ other. put-passing c.args.parameters.now.keys _ c.args.key other _ c.in_ok-insert_full.ensures.keys (sym c.holds_parameters_at.ensures ∙ c.if-not-holds_parameters_at.false)
