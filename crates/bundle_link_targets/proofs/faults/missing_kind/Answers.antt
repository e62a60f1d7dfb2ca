-- An external that is starred may hold the name, or not.
use Rattle.std.proofs.Common.{inl, inr, sym, ◌∙◌, true≢false}
use Rattle.std.specs.Prelude.{codes}
use Rattle.std.proofs.lemmas.Slice.Eq.{bytes_eq-Decides}
use Rattle.bundle_rules.specs.Faults.{external_only, missing}
use Rattle.bundle_link_targets.proofs.faults.missing_kind.Goals as goal

pub returns-then-eq-clause-right : goal.returns-then-eq-clause-right
returns-then-eq-clause-right c = λ p w none file. missing none (inl ((bytes_eq-Decides c.args.asked.name.now (codes "default")).0 (sym c.if-eq.ensures)))

pub returns-then-is_starred-clause-right : goal.returns-then-is_starred-clause-right
returns-then-is_starred-clause-right c = λ p w none file.
    external_only none (λ same. true≢false (sym ((bytes_eq-Decides c.args.asked.name.now (codes "default")).1 same) ∙ sym c.if-eq.ensures)) ((c.in_ok-is_starred.ensures.right p w).0 c.if-is_starred.true)

pub returns-clause-right : goal.returns-clause-right
returns-clause-right c = λ p w none file. missing none (inr (λ starred. true≢false (sym ((c.in_ok-is_starred.ensures.right p w).1 starred) ∙ c.if-is_starred.false)))
