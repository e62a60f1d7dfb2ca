-- A step of a loop over the characters of a text, each of which appends something.
use Rattle.std.proofs.Common.{◌≡◌, ◌+◌, ◌<◌, ℕ, List, [], ◌∷◌, ◌++◌, length, take, get_or, flat_map, sym, ◌∙◌, ap}
use Rattle.std.proofs.lemmas.List.{take_more, flat_map_more, length_push}

pub char_step : (f : ℕ → List ℕ) (cs start now next yielded : List ℕ) (c : ℕ)
    → (length yielded < length cs) × (c ≡ get_or cs (length yielded) c)
    → now ≡ start ++ flat_map f (take (length yielded) cs) → next ≡ now ++ f c
    → next ≡ start ++ flat_map f (take (length (yielded ++ c ∷ [])) cs)
char_step f cs start now next yielded c turn was more =
    let last : take (length yielded + 1) cs ≡ take (length yielded) cs ++ c ∷ [] =
    take_more cs (length yielded) c turn.0
    ∙ ap (λ x. take (length yielded) cs ++ x ∷ []) (sym turn.1) in
    more ∙ ap (λ l. l ++ f c) was
    ∙ flat_map_more f start (take (length yielded) cs) c
    ∙ ap (λ l. start ++ flat_map f l) (sym last)
    ∙ ap (λ n. start ++ flat_map f (take n cs)) (sym (length_push yielded c))
