-- All keys were gone over.
use Rattle.std.proofs.Common.{◌≡◌, ◌≤◌, ◌∙◌, map, length, ap, sym, arith}
use Rattle.std.specs.Prelude.{slice_get}
use Rattle.std.proofs.lemmas.Option.{slice_get-get_or}
use Rattle.bundle_scope_denote.specs.Numbers.{name_as}
use Rattle.bundle_scope_denote.specs.Ready.{is_implied_key}
use Rattle.bundle_scope_denote.proofs.LoopLemmas.{implied-next, implied-whole}
use Rattle.bundle_scope_denote.proofs.denote.implied_by_context.Goals as goal

pub loop-key-preserved : goal.loop-key-preserved
loop-key-preserved c =
    let same : c.as_slice-key-items.result.now ≡ c.args.keys.now.keys = c.as_slice-key-items.ensures.keys in
    implied-next (is_implied_key (map name_as c.args.names.now.keys) c.args.keys.now.keys) c.args.keys.now.keys c.loop-key.implied.keys c.put_implied.new.implied.keys c.loop-key.key-index _ (ap (λ l. slice_get l c.loop-key.key-index) (sym same) ∙ slice_get-get_or _ _ _ c.loop-key-test.true) c.in_ok-put_implied.ensures c.loop-key.invariant

pub returns : goal.returns
returns c =
    let same : c.as_slice-key-items.result.now ≡ c.args.keys.now.keys = c.as_slice-key-items.ensures.keys in
    let past : length c.args.keys.now.keys ≤ c.loop-key.key-index = omega (arith, ap length same, c.loop-key-test.false) in
    implied-whole (is_implied_key (map name_as c.args.names.now.keys) c.args.keys.now.keys) c.args.keys.now.keys c.loop-key.implied.keys c.loop-key.key-index past c.loop-key.invariant
