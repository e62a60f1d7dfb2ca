-- Where nothing is given, an external that is starred may hold the name, or not.
use Rattle.std.proofs.Common.{inr, sym, ◌∙◌, true≢false}
use Rattle.std.specs.Prelude.{codes}
use Rattle.std.proofs.lemmas.Slice.Eq.{bytes_eq-Decides}
use Rattle.bundle_link_targets.proofs.linking.Linking.missing.Goals as goal

pub returns-then-is_starred : goal.returns-then-is_starred
returns-then-is_starred c = λ p w none. (
  none,
  (λ same. true≢false (sym ((bytes_eq-Decides c.args.name.now (codes "default")).1 same) ∙ sym c.if-eq.ensures)),
  (c.in_ok-is_starred.ensures p w.index).0 c.if-is_starred.true,
)

pub returns-else-is_starred : goal.returns-else-is_starred
returns-else-is_starred c = λ p w none. (
  none,
  inr (λ starred. true≢false (sym ((c.in_ok-is_starred.ensures p w.index).1 starred) ∙ c.if-is_starred.false)),
)
