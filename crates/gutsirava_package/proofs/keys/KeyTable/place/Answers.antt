-- The place noted of a key is where it stands.
use Rattle.std.proofs.Common.{◌∙◌, sym, subst}
use Rattle.gutsirava_package.specs.Keys.{IsPlaceOf}
use Rattle.gutsirava_package.proofs.keys.KeyTable.place.Goals as goal

pub returns : goal.returns
returns c =
    subst (λ keys. IsPlaceOf keys c.args.key.now c.copied.result) c.self.view_is
    (subst (IsPlaceOf _ c.args.key.now) (sym (c.copied.ensures ∙ c.get.ensures.value)) (c.self.invariant c.args.key.now))
