-- Going over entries.
use Rattle.std.proofs.Common.{◌≡◌, ◌∙◌, sym, subst, ap, List, [], ◌∷◌, ◌++◌, append_assoc}
use Rattle.std.specs.List.{All, Contains}
use Rattle.std.proofs.lemmas.List.Elements.{All-push, Contains-append_left, Contains-push}

-- of all elements these are left, and of the others a fact holds
pub record IsPassed {X : Type 0} (P : X → Type 0) (all left : List X) : Type 0 where
  pub front : List X
  pub whole : all ≡ front ++ left
  pub kept : All P front

pub passed_more : {X : Type 0} (P : X → Type 0) (all left rest : List X) (x : X)
    → IsPassed P all left → left ≡ x ∷ rest → P x → IsPassed P all rest
passed_more P all left rest x passed is holds = record {
  front = passed.front ++ x ∷ [];
  whole = passed.whole ∙ ap (λ l. passed.front ++ l) is ∙ sym (append_assoc passed.front (x ∷ []) rest);
  kept = All-push P passed.front x passed.kept holds;
}

pub passed_one : {X : Type 0} (P : X → Type 0) (all left rest : List X) (x : X)
    → IsPassed P all left → left ≡ x ∷ rest → Contains all x
passed_one P all left rest x passed is =
    let whole : all ≡ (passed.front ++ x ∷ []) ++ rest =
    passed.whole ∙ ap (λ l. passed.front ++ l) is ∙ sym (append_assoc passed.front (x ∷ []) rest) in
    subst (λ xs. Contains xs x) (sym whole)
    (Contains-append_left (passed.front ++ x ∷ []) rest x (Contains-push passed.front x))
