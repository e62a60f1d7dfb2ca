-- The list at the key has the item last, and lists at other keys stay.
use Rattle.std.proofs.Common.{◌≡◌, [], ◌∷◌, ◌++◌, length, slice_get, slice_set, Some, None, refl, sym, ap, ◌∙◌, arith}
use Rattle.std.specs.Map.{lookup}
use Rattle.std.proofs.lemmas.Option.{slice_get_read}
use Rattle.std.proofs.lemmas.Result.{on_ok_weaker}
use Rattle.indexmap.specs.IndexMap.{get, insert_entry}
use Rattle.bundle_scope_denote.specs.texts.Seen.{list_of, map_of}
use Rattle.bundle_scope_denote.proofs.TextInsertLemmas.{list-pushed, map-updates}
use Rattle.bundle_scope_denote.proofs.TextSeenLemmas.{inserted-again, lookup-place, lookup-nowhere}
use Rattle.bundle_scope_denote.proofs.texts.map.TextMap+K+Vec+T.push.Goals as goal

pub returns-in_ok-push-in-Some : goal.returns-in_ok-push-in-Some
returns-in_ok-push-in-Some g c =
    let eq = g.K.PartialEq.eq in
    let key = c.args.key in
    let keys = c.self.inside.keys.keys in
    let own = c.self.inside.values.items in
    let place = c.in-Some.place in
    let list = c.push.new.self in
    let entries : (map_of keys (slice_set own place list)).entries ≡ insert_entry eq c.args.self.now.entries key list
    = inserted-again eq key list keys own place c.self.invariant (sym c.in-Some.ensures.index) ∙ ap (λ m. insert_entry eq m.entries key list) c.self.view_is in
    let at : slice_get own place ≡ Some c.index_mut.result.now
    = slice_get_read own (length own) place c.index_mut.result.now refl (omega (arith, c.self.invariant, c.in-Some.ensures.within)) c.index_mut.ensures.value in
    let before : get eq c.args.self.now key ≡ Some c.index_mut.result.now
    = sym (ap (λ m. lookup (eq key) m.entries) c.self.view_is) ∙ lookup-place (eq key) keys own place c.self.invariant (sym c.in-Some.ensures.index) ∙ at in
    list-pushed eq g.met.K.Eq.laws c.args.self.now (map_of keys (slice_set own place list)) key list c.args.item
    (map-updates eq g.met.K.Eq.laws c.args.self.now (map_of keys (slice_set own place list)) key list entries)
    (c.in_ok-push-in-Some.ensures.items ∙ ap (λ o. list_of o ++ c.args.item ∷ []) (sym before))

pub returns-in_ok-push-in-None : goal.returns-in_ok-push-in-None
returns-in_ok-push-in-None g c =
    let eq = g.K.PartialEq.eq in
    let key = c.args.key in
    let list = c.push-in-None.new.self in
    let before : get eq c.args.self.now key ≡ None
    = sym (ap (λ m. lookup (eq key) m.entries) c.self.view_is)
    ∙ lookup-nowhere (eq key) c.self.inside.keys.keys c.self.inside.values.items c.self.invariant (sym c.in-None.ensures.index) in
    on_ok_weaker c.insert.result
    (λ updates.
    list-pushed eq g.met.K.Eq.laws c.args.self.now c.insert.new.self key list c.args.item updates
    (c.in_ok-push-in-None.ensures.items ∙ ap (λ l. l ++ c.args.item ∷ []) (c.new-list.ensures.items ∙ sym (ap list_of before))))
    c.insert.ensures.updates
