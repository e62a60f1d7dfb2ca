-- Places that go to places in order.
use Rattle.std.proofs.Common.{◌≡◌, ◌≤◌, ◌<◌, inl, inr, ℕ, suc, cond, [], ◌∷◌, ◌++◌, ap, sym, ◌∙◌, arith, eq-eqb, ne_eqb}
use Rattle.bundle_merge_theory.specs.joined.Alike.{ArePlacesOneToOne}
use Rattle.bundle_merge_theory.specs.own.Beside.{Pairs, Paired, Rise, Below, origin}

-- from where on
pub rises-from : (low other : ℕ) (pairs : Pairs) → Rise low other pairs → (a b : ℕ) →
    Paired pairs a b → (low ≤ a) × (other ≤ b)
rises-from low other [] rise a b there = absurd there
rises-from low other (pair ∷ rest) rise a b (inl same) =
    let e = same.0 in let d = same.1 in let from = rise.0 in let to = rise.1 in
    (omega (arith, e, from), omega (arith, d, to))
rises-from low other (pair ∷ rest) rise a b (inr later) =
    let ih = rises-from (suc pair.0) (suc pair.1) rest rise.2 a b later in
    let one = ih.0 in let two = ih.1 in let from = rise.0 in let to = rise.1 in
    (omega (arith, one, from), omega (arith, two, to))

pub below-all : (high other : ℕ) (pairs : Pairs) → Below high other pairs → (a b : ℕ) →
    Paired pairs a b → (a < high) × (b < other)
below-all high other [] below a b there = absurd there
below-all high other (pair ∷ rest) below a b (inl same) =
    let e = same.0 in let d = same.1 in let from = below.0 in let to = below.1 in
    (omega (arith, e, from), omega (arith, d, to))
below-all high other (pair ∷ rest) below a b (inr later) =
    below-all high other rest below.2 a b later

-- from earlier places on, and up to later ones
pub rise-earlier : (low other less its : ℕ) (pairs : Pairs) → less ≤ low → its ≤ other →
    Rise low other pairs → Rise less its pairs
rise-earlier low other less its [] down also rise = tt
rise-earlier low other less its (pair ∷ rest) down also rise =
    let from = rise.0 in let to = rise.1 in
    (omega (arith, from, down), omega (arith, to, also), rise.2)

pub below-later : (high other more its : ℕ) (pairs : Pairs) → high ≤ more → other ≤ its →
    Below high other pairs → Below more its pairs
below-later high other more its [] up also below = tt
below-later high other more its (pair ∷ rest) up also below =
    let from = below.0 in let to = below.1 in (
      omega (arith, from, up),
      omega (arith, to, also),
      below-later high other more its rest up also
          below.2,
    )

-- one behind the other
pub rise-append : (low other middle its : ℕ) (xs ys : Pairs) → low ≤ middle → other ≤ its →
    Rise low other xs → Below middle its xs → Rise middle its ys → Rise low other (xs ++ ys)
rise-append low other middle its [] ys down also one below two =
    rise-earlier middle its low other ys down also two
rise-append low other middle its (pair ∷ xs) ys down also one below two =
    let from = below.0 in let to = below.1 in (
      one.0,
      one.1,
      rise-append (suc pair.0) (suc pair.1) middle its xs ys (omega (arith, from))
          (omega (arith, to)) one.2 below.2 two,
    )

pub below-append : (high other : ℕ) (xs ys : Pairs) → Below high other xs → Below high other ys →
    Below high other (xs ++ ys)
below-append high other [] ys one two = two
below-append high other (pair ∷ xs) ys one two =
    (one.0, one.1, below-append high other xs ys one.2 two)

pub paired-left : (xs ys : Pairs) (a b : ℕ) → Paired xs a b → Paired (xs ++ ys) a b
paired-left [] ys a b there = absurd there
paired-left (pair ∷ xs) ys a b (inl same) = inl same
paired-left (pair ∷ xs) ys a b (inr later) = inr (paired-left xs ys a b later)

pub paired-right : (xs ys : Pairs) (a b : ℕ) → Paired ys a b → Paired (xs ++ ys) a b
paired-right [] ys a b there = there
paired-right (pair ∷ xs) ys a b there = inr (paired-right xs ys a b there)

-- one to one
pub one-there : (low other : ℕ) (pairs : Pairs) → Rise low other pairs → (a b c : ℕ) →
    Paired pairs a b → Paired pairs a c → b ≡ c
one-there low other [] rise a b c x y = absurd x
one-there low other (pair ∷ rest) rise a b c (inl x) (inl y) = x.1 ∙ sym y.1
one-there low other (pair ∷ rest) rise a b c (inl x) (inr y) =
    let later = (rises-from (suc pair.0) (suc pair.1) rest rise.2 a c y).0 in let e = x.0 in
    absurd (omega (arith, later, e))
one-there low other (pair ∷ rest) rise a b c (inr x) (inl y) =
    let later = (rises-from (suc pair.0) (suc pair.1) rest rise.2 a b x).0 in let e = y.0 in
    absurd (omega (arith, later, e))
one-there low other (pair ∷ rest) rise a b c (inr x) (inr y) =
    one-there (suc pair.0) (suc pair.1) rest rise.2 a b c x y

pub one-back : (low other : ℕ) (pairs : Pairs) → Rise low other pairs → (a b c : ℕ) →
    Paired pairs a c → Paired pairs b c → a ≡ b
one-back low other [] rise a b c x y = absurd x
one-back low other (pair ∷ rest) rise a b c (inl x) (inl y) = x.0 ∙ sym y.0
one-back low other (pair ∷ rest) rise a b c (inl x) (inr y) =
    let later = (rises-from (suc pair.0) (suc pair.1) rest rise.2 b c y).1 in let e = x.1 in
    absurd (omega (arith, later, e))
one-back low other (pair ∷ rest) rise a b c (inr x) (inl y) =
    let later = (rises-from (suc pair.0) (suc pair.1) rest rise.2 a c x).1 in let e = y.1 in
    absurd (omega (arith, later, e))
one-back low other (pair ∷ rest) rise a b c (inr x) (inr y) =
    one-back (suc pair.0) (suc pair.1) rest rise.2 a b c x y

pub one-to-one : (low other : ℕ) (pairs : Pairs) → Rise low other pairs →
    ArePlacesOneToOne (Paired pairs)
one-to-one low other pairs rise =
    record { one = one-there low other pairs rise; other = one-back low other pairs rise }

-- where it comes from
pub origin-is : (low other : ℕ) (pairs : Pairs) → Rise low other pairs → (a b : ℕ) →
    Paired pairs a b → origin pairs b ≡ a
origin-is low other [] rise a b there = absurd there
origin-is low other (pair ∷ rest) rise a b (inl same) =
    ap (λ t. cond t pair.0 (origin rest b)) (eq-eqb b pair.1 same.1) ∙ sym same.0
origin-is low other (pair ∷ rest) rise a b (inr later) =
    let above = (rises-from (suc pair.0) (suc pair.1) rest rise.2 a b later).1 in
    ap (λ t. cond t pair.0 (origin rest b)) (ne_eqb b pair.1 (λ e. omega (arith, above, e)))
    ∙ origin-is (suc pair.0) (suc pair.1) rest rise.2 a b later
