-- How much work the sort still has: it falls with each step.
use Rattle.std.proofs.Common.{◌≡◌, Bool, true, false, cond, ℕ, ◌+◌, ◌-◌, ◌*◌, ◌<◌, ◌≤◌, ◌⊎◌, List, [], ◌∷◌, ◌++◌, length, get_or, set, sum, sum_by, refl, ap, ◌∙◌, inl, inr, arith}
use Rattle.std.proofs.lemmas.Bool.{cases_lt}
use Rattle.std.proofs.lemmas.List.{length-append, length_push, get_or_push, get_or_past, get_or-append-add}
use Rattle.std.proofs.lemmas.List.Sums.{sum_by-set, get_or-le-sum_by}
use Rattle.std.proofs.Math.Nat.{mul-le-mul_left}
use Rattle.bundle_order_sort.specs.declared.stack.Progress.{Progress}
use Rattle.bundle_order_sort.specs.Numbers.{progress_of, unknown, IsOut}
use Rattle.bundle_order_sort.specs.Topmost.{IsTopmost}

-- what is still to be done once: to begin an item, to put it out, and to put an earlier one above it
abbrev pub one_unless : Bool → ℕ
one_unless b = cond b 0 1

abbrev pub chances : ℕ → Progress → ℕ
chances n p = one_unless p.out + one_unless p.begun + (n - p.next)

module _ (count : ℕ) (ranks : List ℕ) where
  -- more than an item ranks
  abbrev pub highest : ℕ
  highest = sum ranks + 1

  -- more than are put on the stack in one step
  abbrev pub most : ℕ
  most = count + highest + 3

  -- how high the top of the stack stands; highest, if it is out
  abbrev pub height : List Progress → List ℕ → ℕ
  height ps stack = cond (progress_of ps (get_or stack (length stack - 1) 0)).out highest (get_or ranks (get_or stack (length stack - 1) 0) 0)

  abbrev pub work : List Progress → List ℕ → ℕ
  work ps stack = (most * (highest + 1)) * sum_by (chances (count)) ps + (length stack + most * height ps stack)

  pub rank-le : (x : ℕ) → get_or ranks x 0 < highest
  rank-le x = elim (cases_lt x (length ranks)) [ inl l ↦ omega (arith, get_or-le-sum_by (λ y. y) ranks x 0 l) | inr g ↦ omega (arith, get_or_past ranks x 0 g) ]

  height-by : (b : Bool) (x : ℕ) → cond b highest (get_or ranks x 0) ≤ highest
  height-by true x = omega arith
  height-by false x = omega (arith, rank-le x)

  height-le : (ps : List Progress) (stack : List ℕ) → height ps stack ≤ highest
  height-le ps stack = height-by (progress_of ps (get_or stack (length stack - 1) 0)).out (get_or stack (length stack - 1) 0)

  top : (rest : List ℕ) (x : ℕ) → get_or (rest ++ x ∷ []) (length (rest ++ x ∷ []) - 1) 0 ≡ x
  top rest x = get_or_push rest x 0 (length (rest ++ x ∷ []) - 1) (omega (arith, length_push rest x))

  height-out : (ps : List Progress) (rest : List ℕ) (x : ℕ) → IsOut ps x → height ps (rest ++ x ∷ []) ≡ highest
  height-out ps rest x o = ap (λ y. cond (progress_of ps y).out highest (get_or ranks y 0)) (top rest x) ∙ ap (λ b. cond b highest (get_or ranks x 0)) o

  height-in : (ps : List Progress) (rest : List ℕ) (x : ℕ) → (progress_of ps x).out ≡ false → height ps (rest ++ x ∷ []) ≡ get_or ranks x 0
  height-in ps rest x o = ap (λ y. cond (progress_of ps y).out highest (get_or ranks y 0)) (top rest x) ∙ ap (λ b. cond b highest (get_or ranks x 0)) o

  -- an item that is out is dropped
  pub work-drops : (ps : List Progress) (rest : List ℕ) (x : ℕ) → IsOut ps x → work ps rest < work ps (rest ++ x ∷ [])
  work-drops ps rest x o = omega (arith, length_push rest x, mul-le-mul_left most (height-le ps rest), ap (λ h. most * h) (height-out ps rest x o))

  -- a chance is used, and few are put on the stack
  pub work-uses : (ps ps' : List Progress) (stack stack' : List ℕ) → sum_by (chances (count)) ps' < sum_by (chances (count)) ps → length stack' + 2 ≤ length stack + most → work ps' stack' < work ps stack
  work-uses ps ps' stack stack' h l = omega (arith, l, fewer, mul-le-mul_left most (height-le ps' stack'), split)
    where
      fewer : (most * (highest + 1)) * (sum_by (chances (count)) ps' + 1) ≤ (most * (highest + 1)) * sum_by (chances (count)) ps
      fewer = mul-le-mul_left (most * (highest + 1)) (omega (arith, h))

      split : most * (highest + 1) ≡ most * highest + most
      split = omega arith

  -- the top stands lower than before, and few are put on the stack
  pub work-sinks : (ps ps' : List Progress) (stack stack' : List ℕ) → sum_by (chances (count)) ps' ≡ sum_by (chances (count)) ps → height ps' stack' < height ps stack → length stack' + 2 ≤ length stack + most → work ps' stack' < work ps stack
  work-sinks ps ps' stack stack' same h l = omega (arith, l, ap (λ a. (most * (highest + 1)) * a) same, lower, split)
    where
      lower : most * (height ps' stack' + 1) ≤ most * height ps stack
      lower = mul-le-mul_left most (omega (arith, h))

      split : most * (height ps' stack' + 1) ≡ most * height ps' stack' + most
      split = omega arith

  module _ (rest : List ℕ) (s : ℕ) (ps : List Progress) (known : s < length ps) (p : Progress) where
    -- the chances of one item are fewer
    chance : chances (count) p < chances (count) (progress_of ps s) → sum_by (chances (count)) (set ps s p) < sum_by (chances (count)) ps
    chance h = omega (arith, h, sum_by-set (chances (count)) ps s p unknown known)

    module _ (left : (progress_of ps s).out ≡ false) where
      -- the item is out
      pub work-outs : p.out ≡ true → p.begun ≡ (progress_of ps s).begun → p.next ≡ (progress_of ps s).next → work (set ps s p) rest < work ps (rest ++ s ∷ [])
      work-outs a b c = work-uses ps (set ps s p) (rest ++ s ∷ []) rest (chance (omega (arith, ap one_unless a, ap one_unless b, c, ap one_unless left))) (omega (arith, length_push rest s))

      -- an earlier item is put above it
      pub work-pulls : (e : ℕ) → (progress_of ps s).next ≤ e → e < count → p.out ≡ (progress_of ps s).out → p.begun ≡ (progress_of ps s).begun → p.next ≡ e + 1 → work (set ps s p) ((rest ++ s ∷ []) ++ e ∷ []) < work ps (rest ++ s ∷ [])
      work-pulls e high within a b c = work-uses ps (set ps s p) (rest ++ s ∷ []) ((rest ++ s ∷ []) ++ e ∷ []) (chance (omega (arith, ap one_unless a, ap one_unless b, c, high, within))) (omega (arith, length_push (rest ++ s ∷ []) e))

      -- the item is begun, and what it needs is put above it
      pub work-begins : (ys : List ℕ) → length ys ≤ count → (progress_of ps s).begun ≡ false → p.out ≡ (progress_of ps s).out → p.begun ≡ true → p.next ≡ (progress_of ps s).next → work (set ps s p) ((rest ++ s ∷ []) ++ ys) < work ps (rest ++ s ∷ [])
      work-begins ys short new a b c = work-uses ps (set ps s p) (rest ++ s ∷ []) ((rest ++ s ∷ []) ++ ys) (chance (omega (arith, ap one_unless a, ap one_unless b, c, ap one_unless new))) (omega (arith, length-append (rest ++ s ∷ []) ys, short))

  -- a chain is put above the top: it falls in rank
  pub work-chains : (ps : List Progress) (rest : List ℕ) (s : ℕ) (ys : List ℕ) → (progress_of ps s).out ≡ false → 0 < length ys → length ys ≤ highest → (progress_of ps (get_or ys (length ys - 1) 0)).out ≡ false → get_or ranks (get_or ys (length ys - 1) 0) 0 < get_or ranks s 0 → work ps ((rest ++ s ∷ []) ++ ys) < work ps (rest ++ s ∷ [])
  work-chains ps rest s ys left any short last_left low = work-sinks ps ps (rest ++ s ∷ []) ((rest ++ s ∷ []) ++ ys) refl (omega (arith, now, height-in ps rest s left, low)) room
    where
      room : length ((rest ++ s ∷ []) ++ ys) + 2 ≤ length (rest ++ s ∷ []) + most
      room = omega (arith, length-append (rest ++ s ∷ []) ys, short)

      place : length ((rest ++ s ∷ []) ++ ys) - 1 ≡ length (rest ++ s ∷ []) + (length ys - 1)
      place = omega (arith, length-append (rest ++ s ∷ []) ys, any)

      top-last : get_or ((rest ++ s ∷ []) ++ ys) (length ((rest ++ s ∷ []) ++ ys) - 1) 0 ≡ get_or ys (length ys - 1) 0
      top-last = ap (λ k. get_or ((rest ++ s ∷ []) ++ ys) k 0) place ∙ get_or-append-add (rest ++ s ∷ []) ys (length ys - 1) 0

      now : height ps ((rest ++ s ∷ []) ++ ys) ≡ get_or ranks (get_or ys (length ys - 1) 0) 0
      now = ap (λ y. cond (progress_of ps y).out highest (get_or ranks y 0)) top-last ∙ ap (λ b. cond b highest (get_or ranks (get_or ys (length ys - 1) 0) 0)) last_left

  -- entries are taken out below a top that is not out
  module _ (ps : List Progress) (stack kept : List ℕ) (top : IsTopmost (λ t. IsOut ps t → ⊥) stack kept) (some : 0 < length stack) (left : IsOut ps (get_or stack (length stack - 1) 0) → ⊥) where
    kept-top : get_or kept (length kept - 1) 0 ≡ get_or stack (length stack - 1) 0
    kept-top = let at = top.all (length stack - 1) (omega (arith, some)) left in by at (cases_lt at.0 (length kept - 1))
      where
        by : (at : (k : ℕ) × (k < length kept) × (length stack - 1 ≤ top.place k) × (get_or kept k 0 ≡ get_or stack (length stack - 1) 0)) → (at.0 < length kept - 1) ⊎ (length kept - 1 ≤ at.0) → get_or kept (length kept - 1) 0 ≡ get_or stack (length stack - 1) 0
        by at (inl l) = absurd (omega (arith, at.2, at.1, l, top.rises at.0 (length kept - 1) l (omega (arith, at.1)), top.within (length kept - 1) (omega (arith, at.1))))
        by at (inr g) = let e : length kept - 1 ≡ at.0 = omega (arith, g, at.1) in ap (λ k. get_or kept k 0) e ∙ at.3

    pub work-topmost : length kept < length stack → work ps kept < work ps stack
    work-topmost h = omega (arith, h, ap (λ x. most * x) same)
      where
        same : height ps kept ≡ height ps stack
        same = ap (λ y. cond (progress_of ps y).out highest (get_or ranks y 0)) kept-top
