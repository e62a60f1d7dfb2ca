-- The parameters are declared before the first place.
use Rattle.std.proofs.Common.{◌∷◌, ◌++◌, [], refl, ap, ◌∙◌, Some}
use Rattle.bundle_rules.specs.Scopes as s
use Rattle.bundle_scope_denote.specs.Kinds.{kind_as}
use Rattle.bundle_scope_denote.proofs.BeginLemmas.{starts_wrapped}
use Rattle.bundle_scope_denote.proofs.walk.ScopeWalk.start_wrapped.Goals as goal

pub returns : goal.returns
returns c = starts_wrapped c.args.self.now _ _ c.in_ok-module.module c.in_ok-exports.exports c.in_ok-wrapper.wrapper c.requires.blank (ap kind_as c.requires.kind) (c.in_ok-add_scope.ensures.items ∙ ap (λ l. l ++ record { scope = s.Top; outer = Some c.in_ok-wrapper.wrapper } ∷ []) c.in_ok-wrapper.ensures.items) c.in_ok-wrapper.ensures.number c.in_ok-module.ensures.declaration c.in_ok-module.ensures.once c.in_ok-exports.ensures.keeps c.in_ok-exports.ensures.once c.in_ok-exports.ensures.declaration (c.in_ok-push-2.ensures.items ∙ ap (λ l. l ++ c.in_ok-exports.exports ∷ []) c.in_ok-push.ensures.items) refl refl refl refl (record { top = refl; reading = refl; kind = refl })
