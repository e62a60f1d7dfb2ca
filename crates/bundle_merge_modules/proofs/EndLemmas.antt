-- No ring where each chain ends.
use Rattle.std.proofs.Common.{◌≡◌, ℕ, List, Option, Some, None, sym, ap, subst, ◌∙◌}
use Rattle.bundle_merge_modules.specs.Chains.{EndsIn, LeadsNowhere, NumberLeads, ChainLeads}
use Rattle.bundle_merge_modules.specs.Chains.EndsIn.{here, further}
use Rattle.bundle_merge_modules.specs.Chains.ChainLeads.{one, more}

snoc : {next : List (Option ℕ)} {i j k : ℕ} → ChainLeads next i j → NumberLeads next j k → ChainLeads next i k
snoc (one lead) last = more lead (one last)
snoc (more lead rest) last = more lead (snoc rest last)

same_next : (next : List (Option ℕ)) (i j k : ℕ) → NumberLeads next i j → NumberLeads next i k → j ≡ k
same_next next i j k a b = by (sym a ∙ b)
  where
    inner : Option (Option ℕ) → ℕ
    inner (Some (Some n)) = n
    inner (Some None) = 0
    inner None = 0

    by : Some (Some j) ≡ Some (Some k) → j ≡ k
    by e = ap inner e

not_last : (next : List (Option ℕ)) (i j : ℕ) → NumberLeads next i j → LeadsNowhere next i → ⊥
not_last next i j leads last = by (sym leads ∙ last)
  where
    test : Option (Option ℕ) → Type 0
    test (Some (Some n)) = Unit {0}
    test (Some None) = ⊥
    test None = ⊥

    by : Some (Some j) ≡ Some None → ⊥
    by e = subst test e tt

pub no_ring : (next : List (Option ℕ)) {i e : ℕ} → EndsIn next i e → ChainLeads next i i → ⊥
no_ring next (here {i = i} last) (one lead) = not_last next i i lead last
no_ring next (here {i = i} last) (more {j = k} lead rest) = not_last next i k lead last
no_ring next (further {i = i} {j = j} lead ends) (one other) = no_ring next ends (subst (λ n. ChainLeads next n n) (same_next next i i j other lead) (one other))
no_ring next (further {i = i} {j = j} lead ends) (more {j = k} other rest) =
    no_ring next ends (subst (λ n. ChainLeads next n n) (same_next next i k j other lead) (snoc rest other))
