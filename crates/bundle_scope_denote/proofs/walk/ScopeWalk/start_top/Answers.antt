-- The top is the only scope before the first place.
use Rattle.std.proofs.Common.{refl, ap}
use Rattle.bundle_scope_denote.specs.Kinds.{kind_as}
use Rattle.bundle_scope_denote.proofs.BeginLemmas.{starts_top}
use Rattle.bundle_scope_denote.proofs.walk.ScopeWalk.start_top.Goals as goal

pub returns : goal.returns
returns c = starts_top c.args.self.now _ c.requires.blank (ap kind_as c.requires.kind) c.in_ok-add_scope.ensures.items refl refl refl refl refl refl (record { top = refl; reading = refl; kind = refl })
