-- A value takes the place of the key's, or goes last with the key.
use Rattle.std.proofs.Common.{◌≡◌, false, [], ◌∷◌, ◌++◌, length, slice_set, sym, ap, ◌∙◌, if◌then◌else◌}
use Rattle.std.specs.List.{list_any}
use Rattle.std.proofs.lemmas.List.{length-set}
use Rattle.indexmap.specs.IndexMap.{insert_entry}
use Rattle.bundle_scope_denote.specs.texts.Seen.{map_of, pairs}
use Rattle.bundle_scope_denote.proofs.TextInsertLemmas.{map-updates}
use Rattle.bundle_scope_denote.proofs.TextSeenLemmas.{inserted-again, inserted-last, distinct-map_of, length-both}
use Rattle.bundle_scope_denote.proofs.texts.map.TextMap.insert.Goals as goal

pub returns-in-Some-clause-entries : goal.returns-in-Some-clause-entries
returns-in-Some-clause-entries g c =
    let eq = g.K.PartialEq.eq in
    let key = c.args.key in
    let value = c.args.value in
    inserted-again eq key value c.self.inside.keys.keys c.self.inside.values.items c.in-Some.place c.self.invariant (sym c.in-Some.ensures.index)
    ∙ ap (λ m. insert_entry eq m.entries key value) c.self.view_is

pub returns-in-Some-clause-updates : goal.returns-in-Some-clause-updates
returns-in-Some-clause-updates g c =
    let eq = g.K.PartialEq.eq in
    let key = c.args.key in
    let value = c.args.value in
    map-updates eq g.met.K.Eq.laws c.args.self.now (map_of c.self.inside.keys.keys (slice_set c.self.inside.values.items c.in-Some.place value)) key value
    (inserted-again eq key value c.self.inside.keys.keys c.self.inside.values.items c.in-Some.place c.self.invariant (sym c.in-Some.ensures.index)
    ∙ ap (λ m. insert_entry eq m.entries key value) c.self.view_is)

pub returns-in-Some-clause-unique : goal.returns-in-Some-clause-unique
returns-in-Some-clause-unique g c =
    let own = c.self.inside.values.items in
    distinct-map_of g.K.PartialEq.eq c.self.inside.keys.keys (slice_set own c.in-Some.place c.args.value) (length-set own c.in-Some.place c.args.value ∙ c.self.invariant) c.in-Some.ensures.unique

pub returns-in_err-reserve-in-None-clause-unique : goal.returns-in_err-reserve-in-None-clause-unique
returns-in_err-reserve-in-None-clause-unique g c =
    distinct-map_of g.K.PartialEq.eq c.self.inside.keys.keys c.reserve.new.self.items (ap length c.reserve.ensures.items ∙ c.self.invariant) c.in-None.ensures.unique

pub returns-in_err-insert-in-None-clause-unique : goal.returns-in_err-insert-in-None-clause-unique
returns-in_err-insert-in-None-clause-unique g c =
    distinct-map_of g.K.PartialEq.eq c.insert.new.self.keys c.reserve.new.self.items
    (ap length c.reserve.ensures.items ∙ c.self.invariant ∙ ap length (sym c.in_err-insert-in-None.ensures.err)) c.insert.ensures.unique

pub returns-in_ok-push-in-None-clause-entries : goal.returns-in_ok-push-in-None-clause-entries
returns-in_ok-push-in-None-clause-entries g c =
    let eq = g.K.PartialEq.eq in
    let keys = c.self.inside.keys.keys in
    let own = c.self.inside.values.items in
    let key = c.args.key in
    let value = c.args.value in
    let none : list_any (eq key) keys ≡ false = sym c.in-None.ensures.found in
    let longer : c.insert.new.self.keys ≡ keys ++ key ∷ [] = c.in_ok-insert-in-None.ensures.keys ∙ ap (λ b. if b then keys else keys ++ key ∷ []) none in
    let more : c.push.new.self.items ≡ own ++ value ∷ [] = c.in_ok-push-in-None.ensures.items ∙ ap (λ l. l ++ value ∷ []) c.reserve.ensures.items in
    (λ j. pairs (longer j) (more j)) ∙ inserted-last eq key value keys own c.self.invariant none ∙ ap (λ m. insert_entry eq m.entries key value) c.self.view_is

pub returns-in_ok-push-in-None-clause-updates : goal.returns-in_ok-push-in-None-clause-updates
returns-in_ok-push-in-None-clause-updates g c =
    let eq = g.K.PartialEq.eq in
    let keys = c.self.inside.keys.keys in
    let own = c.self.inside.values.items in
    let key = c.args.key in
    let value = c.args.value in
    let none : list_any (eq key) keys ≡ false = sym c.in-None.ensures.found in
    let longer : c.insert.new.self.keys ≡ keys ++ key ∷ [] = c.in_ok-insert-in-None.ensures.keys ∙ ap (λ b. if b then keys else keys ++ key ∷ []) none in
    let more : c.push.new.self.items ≡ own ++ value ∷ [] = c.in_ok-push-in-None.ensures.items ∙ ap (λ l. l ++ value ∷ []) c.reserve.ensures.items in
    map-updates eq g.met.K.Eq.laws c.args.self.now (map_of c.insert.new.self.keys c.push.new.self.items) key value
    ((λ j. pairs (longer j) (more j)) ∙ inserted-last eq key value keys own c.self.invariant none ∙ ap (λ m. insert_entry eq m.entries key value) c.self.view_is)

pub returns-in_ok-push-in-None-clause-unique : goal.returns-in_ok-push-in-None-clause-unique
returns-in_ok-push-in-None-clause-unique g c =
    let eq = g.K.PartialEq.eq in
    let keys = c.self.inside.keys.keys in
    let own = c.self.inside.values.items in
    let key = c.args.key in
    let value = c.args.value in
    let none : list_any (eq key) keys ≡ false = sym c.in-None.ensures.found in
    let longer : c.insert.new.self.keys ≡ keys ++ key ∷ [] = c.in_ok-insert-in-None.ensures.keys ∙ ap (λ b. if b then keys else keys ++ key ∷ []) none in
    let more : c.push.new.self.items ≡ own ++ value ∷ [] = c.in_ok-push-in-None.ensures.items ∙ ap (λ l. l ++ value ∷ []) c.reserve.ensures.items in
    distinct-map_of eq c.insert.new.self.keys c.push.new.self.items (ap length more ∙ length-both keys own key value c.self.invariant ∙ ap length (sym longer)) c.insert.ensures.unique
