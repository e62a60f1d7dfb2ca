-- Bits of a row, after a word is written.
use Rattle.std.proofs.Common.{◌≡◌, ◌≢◌, Bool, true, false, not, nat_eq, IsTrue, MatchBool, eqb-true, eq-eqb, ℕ, ◌+◌, ◌-◌, ◌*◌, ◌/◌, ◌%◌, ◌^◌, ◌<◌, ◌≤◌, ◌⊎◌, ◌↔◌, max, List, [], ◌++◌, length, get_or, set, replicate, refl, sym, ap, ◌∙◌, subst, inl, inr, arith}
use Rattle.std.specs.Int.{bit_at, w64}
use lib.Bits.{or_zero_r}
use Rattle.std.specs.Int.RustNames.{bit_and, bit_or}
use Rattle.std.proofs.lemmas.Bool.{cases_eq, cases_lt, false≢true}
use Rattle.std.proofs.lemmas.List.Sums.{sum_by-set}
use Rattle.std.proofs.lemmas.Nat.{le_or_l, or_lt}
use Rattle.std.proofs.lemmas.Nat.Bits.{bit_at_or, bit_at-zero, bit_at-lt, shr_and_one, bit_at_set_same, bit_at_set_other}
use Rattle.std.proofs.lemmas.List.{length-set, get_or-set_same, get_or-set_other, get_or_past, get_or_read, get_or_append_left, get_or-append_right, get_or-replicate, length-replicate, set-get_or}
use Rattle.bundle_order_graph.specs.Bits.{Has, SameRow, row_room}

-- an empty row has nothing
pub Has-nil : (p : ℕ) → Has [] p → ⊥
unfolding Has
Has-nil p h = omega (arith, bit_at-zero (p % 64), h)

-- a position is in a row or is not
pub Has-cases : (ws : List ℕ) (p : ℕ) → Has ws p ⊎ (Has ws p → ⊥)
unfolding Has
Has-cases ws p = cases_eq (bit_at (get_or ws (p / 64) 0) (p % 64)) 1

-- rows with the same words have the same positions
pub Has-same_words : (ws ns : List ℕ) → ((i : ℕ) → get_or ns i 0 ≡ get_or ws i 0) → SameRow ws ns
unfolding Has
Has-same_words ws ns same p = (λ h. ap (λ w. bit_at w (p % 64)) (sym (same (p / 64))) ∙ h, λ h. ap (λ w. bit_at w (p % 64)) (same (p / 64)) ∙ h)

max-one : (a b : ℕ) → a < 2 → b < 2 → max a b ≡ 1 → (a ≡ 1) ⊎ (b ≡ 1)
max-one a b _ _ e = elim (cases_eq a 1) [ inl h ↦ inl h | inr h ↦ inr (omega arith) ]

-- the words of two rows, joined bit by bit
pub Has-or : (ws os ns : List ℕ) → ((i : ℕ) → get_or ns i 0 ≡ bit_or (get_or ws i 0) (get_or os i 0)) → (p : ℕ) → Has ns p ↔ (Has ws p ⊎ Has os p)
unfolding Has
Has-or ws os ns joined p =
    let w = get_or ws (p / 64) 0 in
    let o = get_or os (p / 64) 0 in
    let k = p % 64 in
    let e : bit_at (get_or ns (p / 64) 0) k ≡ max (bit_at w k) (bit_at o k) = ap (λ x. bit_at x k) (joined (p / 64)) ∙ bit_at_or w o k in
    let lw = bit_at-lt w k in
    let lo = bit_at-lt o k in
    (λ h. max-one (bit_at w k) (bit_at o k) lw lo (sym e ∙ h), λ c. elim c [ inl h ↦ omega (arith, e, lw, lo, h) | inr h ↦ omega (arith, e, lw, lo, h) ])

-- the bit of one position is set
pub Has-set : (ws : List ℕ) (q : ℕ) → q / 64 < length ws → (p : ℕ) → Has (set ws (q / 64) (bit_or (get_or ws (q / 64) 0) (1 * 2 ^ (q % 64) % 2 ^ 64))) p ↔ (Has ws p ⊎ (p ≡ q))
unfolding Has
Has-set ws q within p =
    let v = bit_or (get_or ws (q / 64) 0) (1 * 2 ^ (q % 64) % 2 ^ 64) in
    elim (cases_eq (p / 64) (q / 64)) [
      | inl same ↦
          let word : get_or (set ws (q / 64) v) (p / 64) 0 ≡ v = ap (λ i. get_or (set ws (q / 64) v) i 0) same ∙ get_or-set_same ws (q / 64) v 0 within in
          let old : get_or ws (p / 64) 0 ≡ get_or ws (q / 64) 0 = ap (λ i. get_or ws i 0) same in
          elim (cases_eq (p % 64) (q % 64)) [
            | inl at ↦ (λ _. inr (omega arith), λ _. ap (λ x. bit_at x (p % 64)) word ∙ (ap (λ k. bit_at v k) at ∙ bit_at_set_same w64 (get_or ws (q / 64) 0) (q % 64) (omega arith)))
            | inr off ↦
                let keep = bit_at_set_other w64 (get_or ws (q / 64) 0) (q % 64) (omega arith) (p % 64) off in
                let e : bit_at (get_or (set ws (q / 64) v) (p / 64) 0) (p % 64) ≡ bit_at (get_or ws (p / 64) 0) (p % 64) = ap (λ x. bit_at x (p % 64)) word ∙ (keep ∙ ap (λ x. bit_at x (p % 64)) (sym old)) in
                (λ h. inl (sym e ∙ h), λ c. elim c [ inl h ↦ e ∙ h | inr h ↦ absurd (off (ap (λ x. x % 64) h)) ])
          ]
      | inr off ↦
          let e : bit_at (get_or (set ws (q / 64) v) (p / 64) 0) (p % 64) ≡ bit_at (get_or ws (p / 64) 0) (p % 64) = ap (λ x. bit_at x (p % 64)) (get_or-set_other ws (q / 64) (p / 64) v 0 off) in
          (λ h. inl (sym e ∙ h), λ c. elim c [ inl h ↦ e ∙ h | inr h ↦ absurd (off (ap (λ x. x / 64) h)) ])
    ]

-- what `has` computes of a word
pub Has-test : (ws : List ℕ) (p w : ℕ) → w ≡ get_or ws (p / 64) 0 → IsTrue (nat_eq (bit_and (w / 2 ^ (p % 64)) 1) 1) ↔ Has ws p
unfolding Has
Has-test ws p w read =
    let e : bit_and (w / 2 ^ (p % 64)) 1 ≡ bit_at (get_or ws (p / 64) 0) (p % 64) = shr_and_one w (p % 64) ∙ ap (λ x. bit_at x (p % 64)) read in
    (λ t. sym e ∙ eqb-true (bit_and (w / 2 ^ (p % 64)) 1) 1 t, λ h. eq-eqb (bit_and (w / 2 ^ (p % 64)) 1) 1 (e ∙ h))

-- past its words a row has nothing
pub Has-past : (ws : List ℕ) (p : ℕ) → length ws ≤ p / 64 → Has ws p → ⊥
unfolding Has
Has-past ws p past h =
    let e : bit_at (get_or ws (p / 64) 0) (p % 64) ≡ 0 = ap (λ w. bit_at w (p % 64)) (get_or_past ws (p / 64) 0 past) ∙ bit_at-zero (p % 64) in
    omega (arith, e, h)

-- `Has-set`, where the word was read before
pub Has-set_read : (ws old : List ℕ) (q w : ℕ) → ws ≡ old → q / 64 < length old → w ≡ get_or ws (q / 64) w → (p : ℕ) → Has (set ws (q / 64) (bit_or w (1 * 2 ^ (q % 64) % 2 ^ 64))) p ↔ (Has old p ⊎ (p ≡ q))
Has-set_read ws old q w same within read p =
    let e : w ≡ get_or old (q / 64) 0 = get_or_read ws (q / 64) w (subst (λ l. q / 64 < length l) (sym same) within) read 0 ∙ ap (λ l. get_or l (q / 64) 0) same in
    subst (λ x. Has (set x (q / 64) (bit_or w (1 * 2 ^ (q % 64) % 2 ^ 64))) p ↔ (Has old p ⊎ (p ≡ q))) (sym same)
    (subst (λ x. Has (set old (q / 64) (bit_or x (1 * 2 ^ (q % 64) % 2 ^ 64))) p ↔ (Has old p ⊎ (p ≡ q))) (sym e) (Has-set old q within p))

zeros : (n k : ℕ) → (k < n) ⊎ (n ≤ k) → ◌≡◌ {A = ℕ} (get_or (replicate n 0) k 0) 0
zeros n k (inl h) = get_or-replicate n k 0 0 h
zeros n k (inr h) = get_or_past (replicate n 0) k 0 (subst (λ m. m ≤ k) (sym (length-replicate n 0)) h)

-- zeros at the end add nothing
pub Has-widened : (ws : List ℕ) (n : ℕ) → SameRow ws (ws ++ replicate n 0)
Has-widened ws n = Has-same_words ws (ws ++ replicate n 0) (λ i. by i (cases_lt i (length ws)))
  where
    by : (i : ℕ) → (i < length ws) ⊎ (length ws ≤ i) → get_or (ws ++ replicate n 0) i 0 ≡ get_or ws i 0
    by i (inl h) = get_or_append_left ws (replicate n 0) 0 i h
    by i (inr h) = get_or-append_right ws (replicate n 0) (length ws) i 0 refl h ∙ (zeros n (i - length ws) (cases_lt (i - length ws) n) ∙ sym (get_or_past ws i 0 h))

-- a word that gains bits takes room
pub row_room-set : (ws : List ℕ) (i w m : ℕ) → i < length ws → w ≡ get_or ws i 0 → w ≤ m → m < 2 ^ 64 → (row_room (set ws i m) ≤ row_room ws) × (m ≢ w → row_room (set ws i m) < row_room ws)
row_room-set ws i w m within read up fits =
    let e = sum_by-set (λ x. 2 ^ 64 - 1 - x) ws i m 0 within in
    (omega (arith, e, read, up, fits), λ ne. omega (arith, e, read, up, fits, ne))

-- what `insert` tells: the row took room, or it stays
pub row_room-told : (ws old : List ℕ) (i w m : ℕ) → ws ≡ old → i < length old → w ≡ get_or ws i w → w ≤ m → m < 2 ^ 64 → MatchBool (not (nat_eq m w)) (row_room (set ws i m) < row_room old) (set ws i m ≡ old)
row_room-told ws old i w m same within read up fits = subst (λ o. MatchBool (not (nat_eq m w)) (row_room (set ws i m) < row_room o) (set ws i m ≡ o)) same (by (nat_eq m w) refl)
  where
    inside : i < length ws
    inside = subst (λ l. i < length l) (sym same) within

    at_zero : w ≡ get_or ws i 0
    at_zero = get_or_read ws i w inside read 0

    by : (b : Bool) → nat_eq m w ≡ b → MatchBool (not b) (row_room (set ws i m) < row_room ws) (set ws i m ≡ ws)
    by true e = ap (λ x. set ws i x) (eqb-true m w e ∙ at_zero) ∙ set-get_or ws i 0
    by false e = (row_room-set ws i w m inside at_zero up fits).1 (λ same. false≢true (sym e ∙ eq-eqb m w same))

-- the first k words of a row are joined with those of another; `grown` tells whether one changed
pub record JoinedTo (old others : List ℕ) (k : ℕ) (grown : Bool) (now : List ℕ) : Type 0 where
  pub len : length now ≡ length old
  pub done : (i : ℕ) → i < k → get_or now i 0 ≡ bit_or (get_or old i 0) (get_or others i 0)
  pub todo : (i : ℕ) → k ≤ i → get_or now i 0 ≡ get_or old i 0
  pub told : MatchBool grown (row_room now < row_room old) (now ≡ old)

room-le : (grown : Bool) (old now : List ℕ) → MatchBool grown (row_room now < row_room old) (now ≡ old) → row_room now ≤ row_room old
room-le true old now h = omega (arith, h)
room-le false old now h = omega (arith, ap row_room h)

pub JoinedTo-start : (old others : List ℕ) → JoinedTo old others 0 false old
JoinedTo-start old others = record { len = refl; done = λ i h. absurd (omega (arith, h)); todo = λ i h. refl; told = refl }

module _ (old others : List ℕ) (k : ℕ) (was : Bool) (now : List ℕ) (w : ℕ) (j : JoinedTo old others k was now) (inside : k < length old) (read : w ≡ get_or now k w) (fits : w < 2 ^ 64) (fit : get_or others k 0 < 2 ^ 64) where
  -- one more word is joined
  pub JoinedTo-more : (grown : Bool) → (w ≡ bit_or w (get_or others k 0) → grown ≡ was) → (bit_or w (get_or others k 0) ≢ w → grown ≡ true) → JoinedTo old others (k + 1) grown (set now k (bit_or w (get_or others k 0)))
  JoinedTo-more grown stays grows = record {
    len = length-set now k m ∙ j.len;
    done = λ i h. elim (cases_eq i k) [ inl e ↦ at_k i e | inr ne ↦ get_or-set_other now k i m 0 ne ∙ j.done i (omega (arith, h, ne)) ];
    todo = λ i h. get_or-set_other now k i m 0 (λ e. omega (arith, h, e)) ∙ j.todo i (omega (arith, h));
    told = elim (cases_eq m w) [ inl e ↦ same e | inr ne ↦ subst (λ b. MatchBool b (row_room (set now k m) < row_room old) (set now k m ≡ old)) (sym (grows ne)) (omega (arith, smaller.1 ne, room-le was old now j.told)) ];
  }
    where
      m : ℕ
      m = bit_or w (get_or others k 0)

      within : k < length now
      within = omega (arith, j.len, inside)

      at_zero : w ≡ get_or now k 0
      at_zero = get_or_read now k w within read 0

      smaller : (row_room (set now k m) ≤ row_room now) × (m ≢ w → row_room (set now k m) < row_room now)
      smaller = row_room-set now k w m within at_zero (le_or_l w (get_or others k 0)) (or_lt 64 w (get_or others k 0) fits fit)

      at_k : (i : ℕ) → i ≡ k → get_or (set now k m) i 0 ≡ bit_or (get_or old i 0) (get_or others i 0)
      at_k i e = ap (λ x. get_or (set now k m) x 0) e ∙ (get_or-set_same now k m 0 within ∙ (ap (λ x. bit_or x (get_or others k 0)) (at_zero ∙ j.todo k (omega arith)) ∙ ap (λ x. bit_or (get_or old x 0) (get_or others x 0)) (sym e)))

      same : m ≡ w → MatchBool grown (row_room (set now k m) < row_room old) (set now k m ≡ old)
      same e = subst (λ b. MatchBool b (row_room (set now k m) < row_room old) (set now k m ≡ old)) (sym (stays (sym e)))
          (subst (λ x. MatchBool was (row_room x < row_room old) (x ≡ old)) (sym (ap (λ x. set now k x) (e ∙ at_zero) ∙ set-get_or now k 0)) j.told)

-- all words are joined
pub Has-joined : (old others : List ℕ) (k : ℕ) (grown : Bool) (now : List ℕ) → JoinedTo old others k grown now → length others ≤ k → (p : ℕ) → Has now p ↔ (Has old p ⊎ Has others p)
Has-joined old others k grown now j past = Has-or old others now (λ i. by i (cases_lt i k))
  where
    by : (i : ℕ) → (i < k) ⊎ (k ≤ i) → get_or now i 0 ≡ bit_or (get_or old i 0) (get_or others i 0)
    by i (inl h) = j.done i h
    by i (inr h) = j.todo i h ∙ (sym (or_zero_r (get_or old i 0)) ∙ ap (λ x. bit_or (get_or old i 0) x) (sym (get_or_past others i 0 (omega (arith, past, h)))))
