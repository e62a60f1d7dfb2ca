-- In the numbering of items those of each module stand together.
use Rattle.std.proofs.Common.{◌≡◌, ℕ, zero, suc, ◌+◌, ◌≤◌, List, [], ◌∷◌, ◌++◌, Option, Some, None, map, not, slice_get, sym, ap, subst, append_assoc, arith}
use Rattle.std.specs.List.{filter}
use Rattle.std.proofs.lemmas.Option.{none-some, same_Some}
use Rattle.bundle_syntax.specs.Item.{Item}
use Rattle.bundle_rules.specs.Sorting.{Numbered, free_items, is_injected, numbered_items, owned_items}
use Rattle.bundle_order.specs.Owned.{AreTogether}

-- all are free
abbrev AreNone : List (Option ℕ) → Type 0
AreNone [] = Unit {0}
AreNone (None ∷ rest) = AreNone rest
AreNone (Some m ∷ rest) = ⊥

-- the modules rise from k on, and then all are free
abbrev AreRising : ℕ → List (Option ℕ) → Type 0
AreRising k [] = Unit {0}
AreRising k (None ∷ rest) = AreNone rest
AreRising k (Some m ∷ rest) = (k ≤ m) × AreRising m rest

some-none : (m : ℕ) → Some None ≡ Some (Some m) → ⊥
some-none m e = none-some m (same_Some None (Some m) e)

of-none : (owners : List (Option ℕ)) (s m : ℕ) → AreNone owners → slice_get owners s ≡ Some (Some m) → ⊥
of-none [] s m none e = none-some (Some m) e
of-none (None ∷ rest) zero m none e = some-none m e
of-none (None ∷ rest) (suc s) m none e = of-none rest s m none e
of-none (Some n ∷ rest) s m none e = none

at-least : (owners : List (Option ℕ)) (k s m : ℕ) → AreRising k owners → slice_get owners s ≡ Some (Some m) → k ≤ m
at-least [] k s m up e = absurd (none-some (Some m) e)
at-least (None ∷ rest) k zero m up e = absurd (some-none m e)
at-least (None ∷ rest) k (suc s) m up e = absurd (of-none rest s m up e)
at-least (Some n ∷ rest) k zero m up e = let same : n ≡ m = same_Some n m (same_Some (Some n) (Some m) e) in omega (arith, up.0, same)
at-least (Some n ∷ rest) k (suc s) m up e = let more = at-least rest n s m up.1 e in omega (arith, up.0, more)

-- what stands up to one of module m is of it
level : (owners : List (Option ℕ)) (m s k : ℕ) → AreRising m owners → slice_get owners s ≡ Some (Some m) → k ≤ s → slice_get owners k ≡ Some (Some m)
level [] m s k up e l = absurd (none-some (Some m) e)
level (None ∷ rest) m zero k up e l = absurd (some-none m e)
level (None ∷ rest) m (suc s) k up e l = absurd (of-none rest s m up e)
level (Some n ∷ rest) m zero zero up e l = e
level (Some n ∷ rest) m zero (suc k) up e l = absurd (omega (arith, l))
level (Some n ∷ rest) m (suc s) k up e l = by (λ j h. level rest m s j (subst (λ i. AreRising i rest) same up.1) e h) k l
  where
    same : n ≡ m
    same = let more = at-least rest n s m up.1 e in omega (arith, up.0, more)

    by : ((j : ℕ) → j ≤ s → slice_get rest j ≡ Some (Some m)) → (k : ℕ) → k ≤ suc s → slice_get (Some n ∷ rest) k ≡ Some (Some m)
    by deeper zero l = ap (λ (j : ℕ). Some (Some j)) same
    by deeper (suc k) l = deeper k (omega (arith, l))

together : (owners : List (Option ℕ)) (low : ℕ) → AreRising low owners → AreTogether owners
together [] low up s t m a b k l u = absurd (none-some (Some m) a)
together (None ∷ rest) low up zero t m a b k l u = absurd (some-none m a)
together (None ∷ rest) low up (suc s) t m a b k l u = absurd (of-none rest s m up a)
together (Some n ∷ rest) low up s (suc t) m a b zero l u = absurd (omega (arith, l))
together (Some n ∷ rest) low up zero (suc t) m a b (suc k) l u = absurd (omega (arith, u))
together (Some n ∷ rest) low up (suc s) (suc t) m a b (suc k) l u = together rest n up.1 s t m a b k (omega (arith, l)) (omega (arith, u))
together (Some n ∷ rest) low up s zero m a b k l u =
    let same : n ≡ m = same_Some n m (same_Some (Some n) (Some m) b) in
    level (Some n ∷ rest) m s k (let low_in : m ≤ n = omega (arith, same) in (low_in, up.1)) a u

-- ---- the numbering rises
abbrev of_module : ℕ → List Item → Numbered
of_module k item = (item, Some k)

abbrev of_none : List Item → Numbered
of_none item = (item, None)

abbrev modules_in : List Numbered → List (Option ℕ)
modules_in items = map (λ one. one.1) items

rising-none : (k : ℕ) (rest : List (Option ℕ)) → AreNone rest → AreRising k rest
rising-none k [] none = tt
rising-none k (None ∷ rest) none = none
rising-none k (Some m ∷ rest) none = absurd none

rising-less : (k : ℕ) (rest : List (Option ℕ)) → AreRising (k + 1) rest → AreRising k rest
rising-less k [] up = tt
rising-less k (None ∷ rest) up = up
rising-less k (Some m ∷ rest) up = (omega (arith, up.0), up.1)

rising-same : (k : ℕ) (items : List (List Item)) (rest : List Numbered) → AreRising k (modules_in rest) → AreRising k (modules_in (map (of_module k) items ++ rest))
rising-same k [] rest up = up
rising-same k (item ∷ items) rest up = (omega arith, rising-same k items rest up)

rising : (k : ℕ) (modules : List (List (List Item))) (free : List Numbered) → AreNone (modules_in free) → AreRising k (modules_in (owned_items k modules ++ free))
rising k [] free none = rising-none k (modules_in free) none
rising k (items ∷ rest) free none =
    subst (λ (l : List Numbered). AreRising k (modules_in l)) (sym (append_assoc (map (of_module k) (filter (λ item. not (is_injected item)) items)) (owned_items (k + 1) rest) free))
    (rising-same k (filter (λ item. not (is_injected item)) items) (owned_items (k + 1) rest ++ free) (rising-less k (modules_in (owned_items (k + 1) rest ++ free)) (rising (k + 1) rest free none)))

none-more : (items : List (List Item)) (rest : List Numbered) → AreNone (modules_in rest) → AreNone (modules_in (map of_none items ++ rest))
none-more [] rest none = none
none-more (item ∷ items) rest none = none-more items rest none

none-free : (modules : List (List (List Item))) → AreNone (modules_in (free_items modules))
none-free [] = tt
none-free (items ∷ rest) = none-more (filter is_injected items) (free_items rest) (none-free rest)

pub AreTogether-numbered : (modules : List (List (List Item))) → AreTogether (map (λ one. one.1) (numbered_items modules))
AreTogether-numbered modules = together (modules_in (numbered_items modules)) 0 (rising 0 modules (free_items modules) (none-free modules))
