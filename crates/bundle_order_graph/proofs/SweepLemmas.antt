-- What a row that grows takes of the room that is left.
use Rattle.std.proofs.Common.{◌≡◌, Bool, true, false, MatchBool, ℕ, ◌+◌, ◌<◌, List, length, get_or, [], set, refl, sym, ap, ◌∙◌, subst, arith}
use Rattle.std.proofs.lemmas.List.{set_comm, set-set, set-get_or, get_or_default, get_or-set_other}
use Rattle.std.proofs.lemmas.List.Sums.{sum_by-set}
use Rattle.bundle_order_graph.specs.Bits.{row_room, room}

-- a row is taken out, another is changed, and the first is put back
set_apart : (rows : List (List ℕ)) (at to : ℕ) (e r x : List ℕ) → (at ≡ to → ⊥) → x ≡ get_or rows to x → set (set (set rows to e) at r) to x ≡ set rows at r
set_apart rows at to e r x ne read =
    set_comm (set rows to e) at to r x ne ∙ (ap (λ l. set l at r) (set-set rows to e x) ∙ ap (λ l. set l at r) (ap (λ y. set rows to y) read ∙ set-get_or rows to x))

joined_told : (g h r : Bool) (r0 r1 r2 : List ℕ) → (g ≡ true → r ≡ true) → (g ≡ false → r ≡ h) → MatchBool g (row_room r1 < row_room r0) (r1 ≡ r0) → MatchBool h (row_room r2 < row_room r1) (r2 ≡ r1) → MatchBool r (row_room r2 < row_room r0) (r2 ≡ r0)
joined_told true true r r0 r1 r2 grows keeps m n = subst (λ b. MatchBool b (row_room r2 < row_room r0) (r2 ≡ r0)) (sym (grows refl)) (omega (arith, m, n))
joined_told true false r r0 r1 r2 grows keeps m n = subst (λ b. MatchBool b (row_room r2 < row_room r0) (r2 ≡ r0)) (sym (grows refl)) (omega (arith, m, ap row_room n))
joined_told false true r r0 r1 r2 grows keeps m n = subst (λ b. MatchBool b (row_room r2 < row_room r0) (r2 ≡ r0)) (sym (keeps refl)) (omega (arith, ap row_room m, n))
joined_told false false r r0 r1 r2 grows keeps m n = subst (λ b. MatchBool b (row_room r2 < row_room r0) (r2 ≡ r0)) (sym (keeps refl)) (n ∙ m)

module _ (rows : List (List ℕ)) (at to : ℕ) (e r0 r2 x : List ℕ) (ne : at ≡ to → ⊥) (within : at < length rows) (taken : x ≡ get_or rows to x) (read : r0 ≡ get_or (set rows to e) at r0) where
  room_told_rows : (r : Bool) → MatchBool r (row_room r2 < row_room r0) (r2 ≡ r0) → MatchBool r (room (set rows at r2) < room rows) (set rows at r2 ≡ rows)
  room_told_rows r m = by r m
    where
      was : r0 ≡ get_or rows at []
      was = read ∙ (get_or-set_other rows to at e r0 ne ∙ get_or_default rows at r0 [] within)

      sums : room (set rows at r2) + row_room (get_or rows at []) ≡ room rows + row_room r2
      sums = sum_by-set row_room rows at r2 [] within

      by : (b : Bool) → MatchBool b (row_room r2 < row_room r0) (r2 ≡ r0) → MatchBool b (room (set rows at r2) < room rows) (set rows at r2 ≡ rows)
      by true h = omega (arith, sums, ap row_room was, h)
      by false h = ap (λ y. set rows at y) (h ∙ was) ∙ set-get_or rows at []

  -- the rows took room, or they stay
  pub room_told : (old : List (List ℕ)) (g h r : Bool) (r1 : List ℕ) → rows ≡ old → (g ≡ true → r ≡ true) → (g ≡ false → r ≡ h) → MatchBool g (row_room r1 < row_room r0) (r1 ≡ r0) → MatchBool h (row_room r2 < row_room r1) (r2 ≡ r1) → MatchBool r (room (set (set (set rows to e) at r2) to x) < room old) (set (set (set rows to e) at r2) to x ≡ old)
  room_told old g h r r1 same grows keeps m n =
      subst (λ o. MatchBool r (room (set (set (set rows to e) at r2) to x) < room o) (set (set (set rows to e) at r2) to x ≡ o)) same
      (subst (λ y. MatchBool r (room y < room rows) (y ≡ rows)) (sym (set_apart rows at to e r2 x ne taken)) (room_told_rows r (joined_told g h r r0 r1 r2 grows keeps m n)))
