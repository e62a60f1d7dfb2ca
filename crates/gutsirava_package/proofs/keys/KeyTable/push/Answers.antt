-- A key that goes last has the place behind the others.
use Rattle.std.proofs.Common.{◌≡◌, ◌≢◌, ◌++◌, ◌∷◌, [], ◌∙◌, ℕ, Some, length, map, nat_cmp, string_bytes, ap, slice_get, subst, sym}
use Rattle.std.specs.BTreeMap.{UpdatesBy}
use Rattle.std.specs.Cmp.Lexicographic.{slice_cmp}
use Rattle.std.proofs.lemmas.List.{length-map, map_push}
use Rattle.gutsirava_package.specs.Keys.{ArePlaces, IsPlaceOf}
use Rattle.gutsirava_package.proofs.KeyLemmas.{places-more, pushed-place}
use Rattle.gutsirava_package.proofs.keys.KeyTable.push.Goals as goal

pub invariant_of-self-2 : goal.invariant_of-self-2
invariant_of-self-2 c =
    let keys = map string_bytes c.self.inside.keys.items in
    let key = c.args.key.now in
    let old = c.self.inside.places in
    let new = c.insert.new.self in
    let apart : (at : ℕ) → slice_get keys at ≢ Some key = subst (λ ks. (at : ℕ) → slice_get ks at ≢ Some key) (sym c.self.view_is) c.requires in
    let place : c.len-place.result ≡ length keys = c.len-place.ensures ∙ c.self.inside.keys.ok.0 ∙ sym (length-map c.self.inside.keys.items string_bytes) in
    let bytes : c.in_ok-bytes.bytes.items ≡ key = c.in_ok-bytes.ensures.items ∙ c.as_bytes.ensures.value in
    let updates : UpdatesBy (λ x y. slice_cmp nat_cmp x.items y.items) (λ its. slice_cmp nat_cmp key its.items) old new (Some (length keys)) =
    subst (λ n. UpdatesBy (λ x y. slice_cmp nat_cmp x.items y.items) (λ its. slice_cmp nat_cmp key its.items) old new (Some n)) place
    (subst (λ own. UpdatesBy (λ x y. slice_cmp nat_cmp x.items y.items) (λ its. slice_cmp nat_cmp own its.items) old new (Some c.len-place.result)) bytes c.in_ok-insert.ensures.updates) in
    let text : string_bytes c.in_ok-text.text ≡ key = c.in_ok-text.ensures.ok in
    let longer : map string_bytes c.push.new.self.items ≡ keys ++ key ∷ [] =
    ap (map string_bytes) (c.in_ok-push.ensures.items ∙ ap (λ l. l ++ c.in_ok-text.text ∷ []) c.reserve.ensures.items)
    ∙ map_push string_bytes c.self.inside.keys.items c.in_ok-text.text ∙ ap (λ k. keys ++ k ∷ []) text in
    subst (λ l. ArePlaces l new) (sym longer) (places-more keys key old new c.self.invariant apart updates)

pub returns-clause-place : goal.returns-clause-place
returns-clause-place c =
    let keys = map string_bytes c.self.inside.keys.items in
    let key = c.args.key.now in
    let place : c.len-place.result ≡ length keys = c.len-place.ensures ∙ c.self.inside.keys.ok.0 ∙ sym (length-map c.self.inside.keys.items string_bytes) in
    let text : string_bytes c.in_ok-text.text ≡ key = c.in_ok-text.ensures.ok in
    let longer : map string_bytes c.push.new.self.items ≡ keys ++ key ∷ [] =
    ap (map string_bytes) (c.in_ok-push.ensures.items ∙ ap (λ l. l ++ c.in_ok-text.text ∷ []) c.reserve.ensures.items)
    ∙ map_push string_bytes c.self.inside.keys.items c.in_ok-text.text ∙ ap (λ k. keys ++ k ∷ []) text in
    let apart : (at : ℕ) → slice_get keys at ≢ Some key = subst (λ ks. (at : ℕ) → slice_get ks at ≢ Some key) (sym c.self.view_is) c.requires in
    subst (λ ks. IsPlaceOf ks key (Some c.len-place.result)) (sym longer) (pushed-place keys key c.len-place.result place apart)
