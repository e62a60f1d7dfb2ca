-- How much work a depth-first walk still has: it falls with each step.
use Rattle.std.proofs.Common.{◌≡◌, Bool, true, false, cond, ◌||◌, nat_eq, eq-eqb, ℕ, zero, suc, ◌+◌, ◌-◌, ◌*◌, ◌<◌, ◌≤◌, ◌⊎◌, max, List, [], ◌∷◌, ◌++◌, length, get_or, sum_by, Contains, refl, sym, ap, ◌∙◌, subst, inl, inr, arith}
use Rattle.std.specs.List.{list_any}
use Rattle.std.proofs.lemmas.List.Folds.{list_any-append}
use Rattle.std.proofs.lemmas.List.Sums.{sum_by_push}
use Rattle.std.proofs.Math.Nat.{mul-le-mul_left}
use Rattle.bundle_order_graph.specs.Nodes.{place}
use Rattle.bundle_order_graph.specs.Modules.{Modules, deps}
use Rattle.bundle_order_graph.specs.declared.graph.Visit.{Visit}
use Rattle.bundle_order_graph.proofs.OrderLemmas.{Contains-cons_cases}

-- the length of the longest list
abbrev pub longest : List (List ℕ) → ℕ
longest [] = 0
longest (x ∷ xs) = max (length x) (longest xs)

length-le-longest : (lists : List (List ℕ)) (i : ℕ) → length (get_or lists i []) ≤ longest lists
length-le-longest [] i = omega arith
length-le-longest (x ∷ xs) zero = omega arith
length-le-longest (x ∷ xs) (suc i) = omega (arith, length-le-longest xs i)

-- how many of the nodes are not seen
abbrev pub unseen : List ℕ → List ℕ → ℕ
unseen [] seen = 0
unseen (n ∷ ns) seen = cond (list_any (nat_eq n) seen) 0 1 + unseen ns seen

one-le : (a b : Bool) → cond (a || b) 0 1 ≤ cond a 0 1
one-le true b = omega arith
one-le false true = omega arith
one-le false false = omega arith

first-le : (n c : ℕ) (seen : List ℕ) → cond (list_any (nat_eq n) (seen ++ c ∷ [])) 0 1 ≤ cond (list_any (nat_eq n) seen) 0 1
first-le n c seen = subst (λ b. cond b 0 1 ≤ cond (list_any (nat_eq n) seen) 0 1) (sym (list_any-append (nat_eq n) seen (c ∷ []))) (one-le (list_any (nat_eq n) seen) (list_any (nat_eq n) (c ∷ [])))

unseen-le : (ns seen : List ℕ) (c : ℕ) → unseen ns (seen ++ c ∷ []) ≤ unseen ns seen
unseen-le [] seen c = omega arith
unseen-le (n ∷ ns) seen c = omega (arith, first-le n c seen, unseen-le ns seen c)

first-lt : (c : ℕ) (seen : List ℕ) → list_any (nat_eq c) seen ≡ false → cond (list_any (nat_eq c) (seen ++ c ∷ [])) 0 1 < cond (list_any (nat_eq c) seen) 0 1
first-lt c seen new =
    let found : list_any (nat_eq c) (seen ++ c ∷ []) ≡ true = list_any-append (nat_eq c) seen (c ∷ []) ∙ (ap (λ b. b || (nat_eq c c || false)) new ∙ ap (λ b. b || false) (eq-eqb c c refl)) in
    subst (λ b. cond b 0 1 < cond (list_any (nat_eq c) seen) 0 1) (sym found) (subst (λ b. 0 < cond b 0 1) (sym new) (omega arith))

unseen-lt : (ns seen : List ℕ) (c : ℕ) → Contains ns c → list_any (nat_eq c) seen ≡ false → unseen ns (seen ++ c ∷ []) < unseen ns seen
unseen-lt [] seen c h new = absurd (omega (arith, h.1))
unseen-lt (n ∷ ns) seen c h new = by (λ t. unseen-lt ns seen c t new) (Contains-cons_cases ns n c h)
  where
    by : (Contains ns c → unseen ns (seen ++ c ∷ []) < unseen ns seen) → (n ≡ c) ⊎ Contains ns c → unseen (n ∷ ns) (seen ++ c ∷ []) < unseen (n ∷ ns) seen
    by rest (inl e) = subst (λ m. unseen (m ∷ ns) (seen ++ c ∷ []) < unseen (m ∷ ns) seen) (sym e) (omega (arith, first-lt c seen new, unseen-le ns seen c))
    by rest (inr t) = omega (arith, first-le n c seen, rest t)

-- the work that is left: each node that is not seen may come with its requests, and each that is begun has some left
abbrev pub left_of : Modules → Visit → ℕ
left_of g v = length (deps g v.id) - v.next + 1

abbrev pub work : Modules → List ℕ → List Visit → ℕ
work g seen stack = (longest g.requests + 2) * unseen g.nodes seen + sum_by (left_of g) stack

module _ (g : Modules) (seen : List ℕ) (stack rest : List Visit) (v : Visit) (top : stack ≡ rest ++ v ∷ []) where
  sums : sum_by (left_of g) stack ≡ sum_by (left_of g) rest + left_of g v
  sums = ap (sum_by (left_of g)) top ∙ sum_by_push (left_of g) rest v

  pub work-lists : work g seen rest < work g seen stack
  work-lists = omega (arith, sums)

  module _ (within : v.next < length (deps g v.id)) (later : Visit) (same : later ≡ record { id = v.id; next = v.next + 1 }) where
    less : left_of g later + 1 ≡ left_of g v
    less = subst (λ u. left_of g u + 1 ≡ left_of g v) (sym same) (omega (arith, within))

    pub work-passes : work g seen (rest ++ later ∷ []) < work g seen stack
    work-passes = omega (arith, sums, sum_by_push (left_of g) rest later, less)

    pub work-begins : (c : ℕ) → Contains g.nodes c → list_any (nat_eq c) seen ≡ false → (first : Visit) → first ≡ record { id = c; next = 0 } → work g (seen ++ c ∷ []) ((rest ++ later ∷ []) ++ first ∷ []) < work g seen stack
    work-begins c node new first is = omega (arith, sums, less, sum_by_push (left_of g) (rest ++ later ∷ []) first, sum_by_push (left_of g) rest later, fresh, mul-le-mul_left (longest g.requests + 2) fewer)
      where
        fewer : unseen g.nodes (seen ++ c ∷ []) + 1 ≤ unseen g.nodes seen
        fewer = omega (arith, unseen-lt g.nodes seen c node new)

        fresh : left_of g first ≤ longest g.requests + 1
        fresh = subst (λ u. left_of g u ≤ longest g.requests + 1) (sym is) (omega (arith, length-le-longest g.requests (place g.nodes c)))
