-- A module that is found among those that one stars is starred.
use Rattle.std.proofs.Common.{◌∙◌, Contains, ℕ, eqb-true, nat_eq, subst, sym}
use Rattle.std.proofs.lemmas.Bool.{false≢true}
use Rattle.std.proofs.lemmas.Map.Views.{Contains-from_any}
use Rattle.bundle_link_index.proofs.line.stars_known.Goals as goal

pub returns-in-Some : goal.returns-in-Some
returns-in-Some c = λ is.
    let other = c.in-Some.known in (
      other,
      c.in-Some.is,
      subst (λ l. Contains l other) c.stars.ensures (Contains-from_any {eq = λ (x y : ℕ). nat_eq y x} (λ x y e. sym (eqb-true y x e)) other c.stars.result.now (sym c.contains.ensures.value ∙ is)),
    )

pub returns-in-None : goal.returns-in-None
returns-in-None c = λ is. absurd (false≢true is)
