-- A key that has no place goes last, and then has the place behind the others.
use Rattle.std.proofs.Common.{◌≡◌, true, false, cond, not, [], ◌∷◌, ◌++◌, length, Some, None, is_some, position, slice_get, sym, ap, subst, ◌∙◌, if◌then◌else◌}
use Rattle.std.specs.List.{list_any}
use Rattle.std.specs.BTreeMap.{get, is_at}
use Rattle.std.proofs.lemmas.Map.Keys.{IsDistinct-push}
use Rattle.bundle_scope_denote.specs.texts.Placed.{ArePlaced, IsKeyPut}
use Rattle.bundle_scope_denote.specs.texts.Seen.{set_of}
use Rattle.bundle_scope_denote.proofs.TextInsertLemmas.{set-updates}
use Rattle.bundle_scope_denote.proofs.TextPlaceLemmas.{is_some-position, or_len-none, or_len-there, placed-more, stored-at, stored-last}
use Rattle.bundle_scope_denote.proofs.TextSeenLemmas.{keys-set_of, distinct-set_of}
use Rattle.bundle_scope_denote.proofs.texts.set.TextSet.insert_full.Goals as goal

pub returns-in_err-reserve-clause-unique : goal.returns-in_err-reserve-clause-unique
returns-in_err-reserve-clause-unique g c = distinct-set_of g.K.PartialEq.eq _ _ c.reserve.ensures.items c.self.invariant.distinct

pub returns-in_err-own-clause-unique : goal.returns-in_err-own-clause-unique
returns-in_err-own-clause-unique g c = distinct-set_of g.K.PartialEq.eq _ _ c.reserve.ensures.items c.self.invariant.distinct

pub returns-in-Some-clause-added : goal.returns-in-Some-clause-added
returns-in-Some-clause-added g c =
    let eq = g.K.PartialEq.eq in
    let keys = c.self.inside.keys.items in
    let seen : c.args.self.now.keys ≡ keys = sym (ap (λ s. s.keys) c.self.view_is) ∙ keys-set_of keys in
    let at : position (eq c.args.key) keys ≡ Some c.in-Some.own = sym (c.self.invariant.found c.args.key) ∙ sym c.in_ok-own.ensures.own ∙ c.in-Some.is in
    let there : list_any (eq c.args.key) keys ≡ true = sym (is_some-position (eq c.args.key) keys) ∙ ap is_some at in
    ap not (sym (ap (list_any (eq c.args.key)) seen ∙ there))

pub returns-in-Some-clause-updates : goal.returns-in-Some-clause-updates
returns-in-Some-clause-updates g c =
    let eq = g.K.PartialEq.eq in
    let key = c.args.key in
    let all = c.args.self.now.keys in
    let keys = c.self.inside.keys.items in
    let seen : all ≡ keys = sym (ap (λ s. s.keys) c.self.view_is) ∙ keys-set_of keys in
    let at : position (eq key) keys ≡ Some c.in-Some.own = sym (c.self.invariant.found key) ∙ sym c.in_ok-own.ensures.own ∙ c.in-Some.is in
    let there : list_any (eq key) all ≡ true = ap (list_any (eq key)) seen ∙ sym (is_some-position (eq key) keys) ∙ ap is_some at in
    set-updates eq g.met.K.Eq.laws c.args.self.now (set_of c.reserve.new.self.items) key
    (keys-set_of c.reserve.new.self.items ∙ c.reserve.ensures.items ∙ sym seen ∙ sym (ap (λ b. if b then all else all ++ key ∷ []) there))

pub returns-in-Some-clause-keys : goal.returns-in-Some-clause-keys
returns-in-Some-clause-keys g c =
    let eq = g.K.PartialEq.eq in
    let key = c.args.key in
    let all = c.args.self.now.keys in
    let keys = c.self.inside.keys.items in
    let seen : all ≡ keys = sym (ap (λ s. s.keys) c.self.view_is) ∙ keys-set_of keys in
    let at : position (eq key) keys ≡ Some c.in-Some.own = sym (c.self.invariant.found key) ∙ sym c.in_ok-own.ensures.own ∙ c.in-Some.is in
    let there : list_any (eq key) all ≡ true = ap (list_any (eq key)) seen ∙ sym (is_some-position (eq key) keys) ∙ ap is_some at in
    keys-set_of c.reserve.new.self.items ∙ c.reserve.ensures.items ∙ sym seen ∙ sym (ap (λ b. if b then all else all ++ key ∷ []) there)

pub returns-in-Some-clause-index : goal.returns-in-Some-clause-index
returns-in-Some-clause-index g c =
    let eq = g.K.PartialEq.eq in
    let key = c.args.key in
    let keys = c.self.inside.keys.items in
    let seen : c.args.self.now.keys ≡ keys = sym (ap (λ s. s.keys) c.self.view_is) ∙ keys-set_of keys in
    or_len-there (eq key) c.args.self.now.keys c.in-Some.own
    (ap (position (eq key)) seen ∙ sym (c.self.invariant.found key) ∙ sym c.in_ok-own.ensures.own ∙ c.in-Some.is)

pub returns-in-Some-clause-stored : goal.returns-in-Some-clause-stored
returns-in-Some-clause-stored g c =
    let eq = g.K.PartialEq.eq in
    let key = c.args.key in
    stored-at (eq key) (set_of c.reserve.new.self.items).keys c.in-Some.own key
    (ap (position (eq key)) (keys-set_of c.reserve.new.self.items ∙ c.reserve.ensures.items) ∙ sym (c.self.invariant.found key) ∙ sym c.in_ok-own.ensures.own ∙ c.in-Some.is)

pub returns-in-Some-clause-unique : goal.returns-in-Some-clause-unique
returns-in-Some-clause-unique g c = distinct-set_of g.K.PartialEq.eq _ _ c.reserve.ensures.items c.self.invariant.distinct

pub invariant_of-self-in-None : goal.invariant_of-self-in-None
invariant_of-self-in-None g c =
    let eq = g.K.PartialEq.eq in
    let cmp = g.K.Ord.cmp in
    let key = c.args.key in
    let keys = c.self.inside.keys.items in
    let old = c.self.inside.places in
    let new = c.put.new.places in
    let at : position (eq key) keys ≡ None = sym (c.self.invariant.found key) ∙ sym c.in_ok-own.ensures.own ∙ c.in-None.is in
    let none : list_any (eq key) keys ≡ false = sym (is_some-position (eq key) keys) ∙ ap is_some at in
    let place : c.len-place.result ≡ length keys = c.len-place.ensures ∙ c.reserve.new.self.ok.0 ∙ ap length c.reserve.ensures.items in
    let put : IsKeyPut cmp old new key c.len-place.result None = subst (λ o. IsKeyPut cmp old new key c.len-place.result o) c.in-None.is c.in_ok-own.ensures.places in
    let more : ArePlaced cmp eq (keys ++ key ∷ []) new =
    placed-more cmp eq g.met.K.Eq.laws g.met.K.Ord.matches_eq keys key old new c.self.invariant none
    (λ q. put q ∙ ap (λ n. cond (is_at (cmp key) q) (Some n) (get cmp old q)) place) in
    subst (λ l. ArePlaced cmp eq l new) (sym (c.in_ok-push-in-None.ensures.items ∙ ap (λ l. l ++ key ∷ []) c.reserve.ensures.items)) more

pub returns-in_ok-push-in-None-clause-added : goal.returns-in_ok-push-in-None-clause-added
returns-in_ok-push-in-None-clause-added g c =
    let eq = g.K.PartialEq.eq in
    let key = c.args.key in
    let keys = c.self.inside.keys.items in
    let seen : c.args.self.now.keys ≡ keys = sym (ap (λ s. s.keys) c.self.view_is) ∙ keys-set_of keys in
    let at : position (eq key) keys ≡ None = sym (c.self.invariant.found key) ∙ sym c.in_ok-own.ensures.own ∙ c.in-None.is in
    ap not (sym (ap (list_any (eq key)) seen ∙ sym (is_some-position (eq key) keys) ∙ ap is_some at))

pub returns-in_ok-push-in-None-clause-updates : goal.returns-in_ok-push-in-None-clause-updates
returns-in_ok-push-in-None-clause-updates g c =
    let eq = g.K.PartialEq.eq in
    let key = c.args.key in
    let all = c.args.self.now.keys in
    let keys = c.self.inside.keys.items in
    let seen : all ≡ keys = sym (ap (λ s. s.keys) c.self.view_is) ∙ keys-set_of keys in
    let at : position (eq key) keys ≡ None = sym (c.self.invariant.found key) ∙ sym c.in_ok-own.ensures.own ∙ c.in-None.is in
    let none : list_any (eq key) all ≡ false = ap (list_any (eq key)) seen ∙ sym (is_some-position (eq key) keys) ∙ ap is_some at in
    set-updates eq g.met.K.Eq.laws c.args.self.now (set_of c.push.new.self.items) key
    (keys-set_of c.push.new.self.items ∙ c.in_ok-push-in-None.ensures.items ∙ ap (λ l. l ++ key ∷ []) (c.reserve.ensures.items ∙ sym seen)
    ∙ sym (ap (λ b. if b then all else all ++ key ∷ []) none))

pub returns-in_ok-push-in-None-clause-keys : goal.returns-in_ok-push-in-None-clause-keys
returns-in_ok-push-in-None-clause-keys g c =
    let eq = g.K.PartialEq.eq in
    let key = c.args.key in
    let all = c.args.self.now.keys in
    let keys = c.self.inside.keys.items in
    let seen : all ≡ keys = sym (ap (λ s. s.keys) c.self.view_is) ∙ keys-set_of keys in
    let at : position (eq key) keys ≡ None = sym (c.self.invariant.found key) ∙ sym c.in_ok-own.ensures.own ∙ c.in-None.is in
    let none : list_any (eq key) all ≡ false = ap (list_any (eq key)) seen ∙ sym (is_some-position (eq key) keys) ∙ ap is_some at in
    keys-set_of c.push.new.self.items ∙ c.in_ok-push-in-None.ensures.items ∙ ap (λ l. l ++ key ∷ []) (c.reserve.ensures.items ∙ sym seen)
    ∙ sym (ap (λ b. if b then all else all ++ key ∷ []) none)

pub returns-in_ok-push-in-None-clause-index : goal.returns-in_ok-push-in-None-clause-index
returns-in_ok-push-in-None-clause-index g c =
    let eq = g.K.PartialEq.eq in
    let key = c.args.key in
    let keys = c.self.inside.keys.items in
    let seen : c.args.self.now.keys ≡ keys = sym (ap (λ s. s.keys) c.self.view_is) ∙ keys-set_of keys in
    let at : position (eq key) keys ≡ None = sym (c.self.invariant.found key) ∙ sym c.in_ok-own.ensures.own ∙ c.in-None.is in
    let none : list_any (eq key) c.args.self.now.keys ≡ false = ap (list_any (eq key)) seen ∙ sym (is_some-position (eq key) keys) ∙ ap is_some at in
    c.len-place.ensures ∙ c.reserve.new.self.ok.0 ∙ ap length (c.reserve.ensures.items ∙ sym seen) ∙ sym (or_len-none (eq key) c.args.self.now.keys none)

pub returns-in_ok-push-in-None-clause-stored : goal.returns-in_ok-push-in-None-clause-stored
returns-in_ok-push-in-None-clause-stored g c =
    let key = c.args.key in
    let keys = c.self.inside.keys.items in
    let place : c.len-place.result ≡ length keys = c.len-place.ensures ∙ c.reserve.new.self.ok.0 ∙ ap length c.reserve.ensures.items in
    let longer : (set_of c.push.new.self.items).keys ≡ keys ++ key ∷ [] =
    keys-set_of c.push.new.self.items ∙ c.in_ok-push-in-None.ensures.items ∙ ap (λ l. l ++ key ∷ []) c.reserve.ensures.items in
    (key, (λ j. slice_get (longer j) (place j)) ∙ stored-last keys key, g.met.K.Eq.laws.refl key)

pub returns-in_ok-push-in-None-clause-unique : goal.returns-in_ok-push-in-None-clause-unique
returns-in_ok-push-in-None-clause-unique g c =
    let eq = g.K.PartialEq.eq in
    let key = c.args.key in
    let keys = c.self.inside.keys.items in
    let at : position (eq key) keys ≡ None = sym (c.self.invariant.found key) ∙ sym c.in_ok-own.ensures.own ∙ c.in-None.is in
    let none : list_any (eq key) keys ≡ false = sym (is_some-position (eq key) keys) ∙ ap is_some at in
    distinct-set_of eq (keys ++ key ∷ []) _ (c.in_ok-push-in-None.ensures.items ∙ ap (λ l. l ++ key ∷ []) c.reserve.ensures.items)
    (IsDistinct-push g.met.K.Eq.laws keys key c.self.invariant.distinct none)
