-- Lists that loops fill.
use Rattle.std.proofs.Common.{◌≡◌, ℕ, suc, Bool, true, false, cond, List, [], ◌∷◌, ◌++◌, Option, Some, None, map, take, refl, ap, ◌∙◌}
use Rattle.std.specs.Prelude.{slice_get, filter, find}
use Rattle.std.specs.Option.{option_map, option_or}
use Rattle.std.proofs.lemmas.List.Folds.{find-append}
use Rattle.std.proofs.lemmas.List.Elements.{filter-append}
use Rattle.std.proofs.lemmas.List.{map-append}
use Rattle.bundle_scope_denote.specs.declared.table.Denoted.{Denoted}
use Rattle.bundle_tree_places.proofs.ListLemmas.{take_at}
use Rattle.bundle_scope_names.specs.Turns.{declares_number, denotes, is_this_number, first_of, first_after}
use Rattle.bundle_scope_names.specs.Marks.{binding_scopes}

-- the scopes of a binding's occurrences once one more was gone over
pub uses-more : (occurrences : List Denoted) (i number : ℕ) (o : Denoted) → slice_get occurrences i ≡ Some o → binding_scopes (take (suc i) occurrences) number ≡ binding_scopes (take i occurrences) number ++ cond (is_this_number number o.binding) (o.scope ∷ []) []
uses-more occurrences i number o at = ap (λ xs. binding_scopes xs number) (take_at occurrences i o at) ∙ ap (map (λ (x : Denoted). x.scope)) (filter-append (denotes number) (take i occurrences) (o ∷ [])) ∙ map-append (λ (x : Denoted). x.scope) (filter (denotes number) (take i occurrences)) (filter (denotes number) (o ∷ [])) ∙ ap (λ xs. binding_scopes (take i occurrences) number ++ xs) (one (is_this_number number o.binding))
  where
    one : (b : Bool) → map (λ (x : Denoted). x.scope) (cond b (o ∷ []) []) ≡ cond b (o.scope ∷ []) []
    one true = refl
    one false = refl

-- the first place once one more was gone over
pub first-more : (occurrences : List Denoted) (i number : ℕ) (o : Denoted) → slice_get occurrences i ≡ Some o → first_of (take (suc i) occurrences) number ≡ first_after o number (first_of (take i occurrences) number)
first-more occurrences i number o at = ap (λ xs. first_of xs number) (take_at occurrences i o at) ∙ ap (option_map (λ (x : Denoted). x.place)) (find-append (declares_number number) (take i occurrences) (o ∷ [])) ∙ join (find (declares_number number) (take i occurrences)) (declares_number number o)
  where
    join : (f : Option Denoted) (b : Bool) → option_map (λ (x : Denoted). x.place) (option_or f (cond b (Some o) None)) ≡ option_or (option_map (λ (x : Denoted). x.place) f) (cond b (Some o.place) None)
    join None true = refl
    join None false = refl
    join (Some x) b = refl
