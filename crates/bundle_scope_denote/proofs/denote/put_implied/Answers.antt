-- A key is put where nothing declares its name by an identifier.
use Rattle.std.proofs.Common.{sym, ◌∙◌}
use Rattle.bundle_scope_denote.specs.Bound.{same_key}
use Rattle.bundle_scope_denote.proofs.LoopLemmas.{put-passing, put-or}
use Rattle.bundle_scope_denote.proofs.denote.put_implied.Goals as goal

pub returns-then-not-is_implied : goal.returns-then-not-is_implied
returns-then-not-is_implied c = λ other. put-or _ _ (same_key other c.args.key) (sym c.is_implied.ensures ∙ c.if-not-is_implied.true)

pub returns : goal.returns
returns c = λ other. put-passing c.args.implied.now.keys _ c.args.key other _ c.in_ok-insert_full.ensures.keys (sym c.is_implied.ensures ∙ c.if-not-is_implied.false)
