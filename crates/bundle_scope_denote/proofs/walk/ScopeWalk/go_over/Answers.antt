-- The walk begins before the first place.
use Rattle.std.proofs.Common.{◌≡◌, ◌∙◌, map, length, subst, arith}
use Rattle.bundle_syntax.specs.Item.{item_of}
use Rattle.bundle_scope_denote.specs.Steps.{IsWalkAt, IsTidyAt}
use Rattle.bundle_scope_denote.proofs.EndLemmas.{whole_at_end}
use Rattle.bundle_scope_denote.proofs.walk.ScopeWalk.go_over.Goals as goal

pub loop-place-init : goal.loop-place-init
loop-place-init c =
    let room = c.make_room.ensures.stays in
    let start = c.in_ok-start.ensures.stays in
    record {
      is_at = c.in_ok-start.ensures.is_at (map item_of c.args.pieces.now);
      tidy = c.in_ok-start.ensures.tidy;
      stays = record { top = start.top ∙ room.top; reading = start.reading ∙ room.reading; kind = start.kind ∙ room.kind };
    }

pub returns-clause-whole : goal.returns-clause-whole
returns-clause-whole c = let e : c.loop-place.place ≡ length c.args.pieces.now = omega arith in whole_at_end c.loop-place.self c.args.pieces.now c.args.self.now.kind c.args.self.now.reading (subst (λ n. IsWalkAt c.loop-place.self (map item_of c.args.pieces.now) n) e c.loop-place.invariant.is_at) (subst (λ n. IsTidyAt c.loop-place.self n) e c.loop-place.invariant.tidy) c.loop-place.invariant.stays.kind c.loop-place.invariant.stays.reading (c.loop-place.invariant.stays.top ∙ c.requires.top)
