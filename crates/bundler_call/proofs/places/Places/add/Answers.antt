-- A key that goes last has the place behind the others.
use Rattle.std.proofs.Common.{◌≡◌, ◌∙◌, ◌++◌, ◌∷◌, [], None, Some, ap, cond, position, subst, sym}
use Rattle.std.specs.BTreeMap.{get, is_at}
use Rattle.bundler_call.specs.Placed.{HavePlaces}
use Rattle.bundler_call.proofs.Holding.{placed-more}
use Rattle.bundler_call.proofs.places.Places.add.Goals as goal

pub invariant_of-self-2 : goal.invariant_of-self-2
invariant_of-self-2 g c =
    let eq = g.K.PartialEq.eq in
    let cmp = g.K.Ord.cmp in
    let keys = c.self.inside.keys.items in
    let key = c.args.key in
    let none : position (eq key) keys ≡ None = ap (position (eq key)) c.self.view_is ∙ c.requires in
    let more =
    placed-more cmp eq g.met.K.Eq.laws g.met.K.Ord.matches_eq keys key c.self.inside.places c.insert.new.self c.self.invariant none
    (λ q. c.in_ok-insert.ensures.updates.0 q ∙ ap (λ n. cond (is_at (cmp key) q) (Some n) (get cmp c.self.inside.places q)) (c.len-place.ensures ∙ c.self.inside.keys.ok.0)) in
    subst (λ l. HavePlaces cmp eq l c.insert.new.self) (sym (c.in_ok-push.ensures.items ∙ ap (λ l. l ++ key ∷ []) c.reserve.ensures.items)) more
