-- Items that are put one by one, and those that are first put together.
-- The items of a part one by one, by modules: what is held is just that.
-- What closures answered for the items of modules, as it stands one by one.
-- What a write to the items of a module, and a new module, are among the items by module.
-- What is kept of the items of modules.
-- Calls for items in turn, of which one is refused: what stands in front and behind.
-- What was added is taken back.
use Rattle.std.proofs.Common.{◌≡◌, ℕ, nat_eq, Bool, true, false, List, [], ◌∷◌, ◌++◌, refl, sym, ap, ◌∙◌, append_assoc, eqb-true, eq-eqb, if◌then◌else◌, cond, subst, Option, Some, None, arith, take}
use Rattle.std.proofs.lemmas.Bool.{false≢true}
use Rattle.std.specs.Prelude.{map, filter, ◌==◌, not, ◌+◌, length, vec_len, Result, Ok, Err, IfErr, IsErrAnd}
use Rattle.std.proofs.lemmas.List.{append-nil, map-append, length-append, length-map}
use Rattle.std.proofs.lemmas.List.Elements.{filter-append}
use Rattle.std.specs.List.{AllZip, items_where_true}
use Rattle.std.specs.Map.{lookup, set_value, remove_entry}
use Rattle.std.specs.declared.vec.Vec.{Vec}
use Rattle.std.specs.declared.alloc.Global.{Global}
use Rattle.std.proofs.lemmas.Option.{same_Some}
use Rattle.std.specs.List.Retain.{IsFiltered, ReturnsInTurn}
use Rattle.std.specs.Map.Calls.{RetainsPairs}
use Rattle.std.proofs.Math.Seq.{take-append_seam, take-length}
use Rattle.indexmap.specs.IndexMap.{insert_entry}
use Rattle.bundle_merge_modules.specs.Groups.{Groups, AreGroupsTidy, has_group, put_items, put_all, put_each, owned, put_any, ItemsPicked, PickedOf, IsMapped, IsSifted, AreItemsKept, is_any, ItemsAnswered, count_of, cut, cut_one, undone}
use Rattle.bundle_merge_modules.specs.Parts.{OwnedOf, HeldOf, others, by_modules_of, owned_by_module, put_last, put_in_turn, held_joined, items_of_owner, once, modules_of_part, ListsAnsweredOf, ItemAnsweredOf, RetainedOf, Answered, lists_by_module}
use Rattle.bundle_merge_modules.specs.Parts.ListsAnsweredOf.{over, next}
use Rattle.bundle_merge_modules.specs.Parts.RetainedOf.{over as none_left, stays, goes}
use Rattle.bundle_merge_modules.specs.Parts.Answered.{over as some_over, goes as some_goes, stays as some_stays}
use Rattle.bundle_merge_modules.specs.Groups.PickedOf.{over as pick_over, goes as pick_goes, stays as pick_stays}
use Rattle.bundle_merge_modules.specs.Calls.{group_items}
use Rattle.bundle_merge_modules.specs.Refused.{StopsAt}
use Rattle.bundle_merge_modules.specs.Refused.StopsAt.{here, further}

-- ---- put

-- two numbers that differ do so in either order
pub turned : (m n : ℕ) → nat_eq m n ≡ false → nat_eq n m ≡ false
turned m n apart = step (nat_eq n m) refl
  where
    step : (b : Bool) → nat_eq n m ≡ b → b ≡ false
    step true is = absurd (false≢true (sym apart ∙ eq-eqb m n (sym (eqb-true n m is))))
    step false is = refl

module _ {A : Type 0} where
  -- what is put for one module, then more for it
  pub put-put : (groups : Groups A) (m : ℕ) (xs ys : List A) → put_items (put_items groups m xs) m ys ≡ put_items groups m (xs ++ ys)
  put-put [] m xs ys = step (nat_eq m m) (eq-eqb m m refl)
    where
      step : (b : Bool) → b ≡ true → (if b then (m, xs ++ ys) ∷ [] else (m, xs) ∷ put_items [] m ys) ≡ (m, xs ++ ys) ∷ []
      step true is = refl
      step false is = absurd (false≢true is)
  put-put ((n, its) ∷ rest) m xs ys = step (nat_eq m n) refl (put-put rest m xs ys)
    where
      step : (b : Bool) → nat_eq m n ≡ b → put_items (put_items rest m xs) m ys ≡ put_items rest m (xs ++ ys)
          → put_items (if b then (n, its ++ xs) ∷ rest else (n, its) ∷ put_items rest m xs) m ys ≡ (if b then (n, its ++ (xs ++ ys)) ∷ rest else (n, its) ∷ put_items rest m (xs ++ ys))
      step true is ih = ap (λ b. if b then (n, (its ++ xs) ++ ys) ∷ rest else (n, its ++ xs) ∷ put_items rest m ys) is ∙ ap (λ l. (n, l) ∷ rest) (append_assoc its xs ys)
      step false is ih = ap (λ b. if b then (n, its ++ ys) ∷ put_items rest m xs else (n, its) ∷ put_items (put_items rest m xs) m ys) is ∙ ap (λ l. (n, its) ∷ l) ih

  -- what is put for a module that has a place, and for another one, in either order
  pub put-apart : (groups : Groups A) (m n : ℕ) (xs ys : List A) → nat_eq m n ≡ false → nat_eq n m ≡ false → has_group groups m ≡ true → put_items (put_items groups n ys) m xs ≡ put_items (put_items groups m xs) n ys
  put-apart [] m n xs ys apart other there = absurd (false≢true there)
  put-apart ((k, its) ∷ rest) m n xs ys apart other there = step (nat_eq m k) (nat_eq n k) refl refl there (put-apart rest m n xs ys apart other)
    where
      step : (b d : Bool) → nat_eq m k ≡ b → nat_eq n k ≡ d → (if b then true else has_group rest m) ≡ true → (has_group rest m ≡ true → put_items (put_items rest n ys) m xs ≡ put_items (put_items rest m xs) n ys)
          → put_items (if d then (k, its ++ ys) ∷ rest else (k, its) ∷ put_items rest n ys) m xs ≡ put_items (if b then (k, its ++ xs) ∷ rest else (k, its) ∷ put_items rest m xs) n ys
      step true true is at t ih = absurd (false≢true (sym apart ∙ eq-eqb m n (eqb-true m k is ∙ sym (eqb-true n k at))))
      step true false is at t ih =
          ap (λ b. if b then (k, its ++ xs) ∷ put_items rest n ys else (k, its) ∷ put_items (put_items rest n ys) m xs) is
          ∙ sym (ap (λ b. if b then (k, (its ++ xs) ++ ys) ∷ rest else (k, its ++ xs) ∷ put_items rest n ys) at)
      step false true is at t ih =
          ap (λ b. if b then (k, (its ++ ys) ++ xs) ∷ rest else (k, its ++ ys) ∷ put_items rest m xs) is
          ∙ sym (ap (λ b. if b then (k, its ++ ys) ∷ put_items rest m xs else (k, its) ∷ put_items (put_items rest m xs) n ys) at)
      step false false is at t ih =
          ap (λ b. if b then (k, its ++ xs) ∷ put_items rest n ys else (k, its) ∷ put_items (put_items rest n ys) m xs) is
          ∙ ap (λ l. (k, its) ∷ l) (ih t)
          ∙ sym (ap (λ b. if b then (k, its ++ ys) ∷ put_items rest m xs else (k, its) ∷ put_items (put_items rest m xs) n ys) at)

  -- a module that is put has a place
  pub has-put : (groups : Groups A) (m : ℕ) (xs : List A) → has_group (put_items groups m xs) m ≡ true
  has-put [] m xs = ap (λ b. if b then true else false) (eq-eqb m m refl)
  has-put ((n, its) ∷ rest) m xs = step (nat_eq m n) refl (has-put rest m xs)
    where
      step : (b : Bool) → nat_eq m n ≡ b → has_group (put_items rest m xs) m ≡ true → has_group (if b then (n, its ++ xs) ∷ rest else (n, its) ∷ put_items rest m xs) m ≡ true
      step true is ih = ap (λ b. if b then true else has_group rest m) is
      step false is ih = ap (λ b. if b then true else has_group (put_items rest m xs) m) is ∙ ih

  -- another module has a place as before
  pub has-put_other : (groups : Groups A) (m n : ℕ) (xs : List A) → nat_eq m n ≡ false → has_group (put_items groups n xs) m ≡ has_group groups m
  has-put_other [] m n xs apart = ap (λ b. if b then true else false) apart
  has-put_other ((k, its) ∷ rest) m n xs apart = step (nat_eq n k) refl (has-put_other rest m n xs apart)
    where
      step : (b : Bool) → nat_eq n k ≡ b → has_group (put_items rest n xs) m ≡ has_group rest m → has_group (if b then (k, its ++ xs) ∷ rest else (k, its) ∷ put_items rest n xs) m ≡ (if nat_eq m k then true else has_group rest m)
      step true is ih = refl
      step false is ih = ap (λ h. if nat_eq m k then true else h) ih

  -- items that are put last for a module which has a place before, and none among those that are put between
  pub put_all-passed : (more groups : Groups A) (m : ℕ) (xs : List A) → AreGroupsTidy more → has_group more m ≡ false → has_group groups m ≡ true → put_items (put_all groups more) m xs ≡ put_all (put_items groups m xs) more
  put_all-passed [] groups m xs tidy apart there = refl
  put_all-passed ((n, []) ∷ rest) groups m xs tidy apart there = absurd (tidy.1 refl)
  put_all-passed ((n, y ∷ ys) ∷ rest) groups m xs tidy apart there = step (nat_eq m n) refl apart (λ none h there. put_all-passed rest h m xs tidy.2 none there)
    where
      step : (b : Bool) → nat_eq m n ≡ b → (if b then true else has_group rest m) ≡ false → (has_group rest m ≡ false → (h : Groups A) → has_group h m ≡ true → put_items (put_all h rest) m xs ≡ put_all (put_items h m xs) rest) → put_items (put_all (put_items groups n (y ∷ ys)) rest) m xs ≡ put_all (put_items (put_items groups m xs) n (y ∷ ys)) rest
      step true is none ih = absurd (false≢true (sym none))
      step false is none ih =
          ih none (put_items groups n (y ∷ ys)) (has-put_other groups m n (y ∷ ys) is ∙ there)
          ∙ ap (λ g. put_all g rest) (put-apart groups m n xs (y ∷ ys) is (turned m n is) there)

  -- what is put behind more is put behind all
  pub put_all-put : (more groups : Groups A) (m : ℕ) (x : A) → AreGroupsTidy more → put_all groups (put_items more m (x ∷ [])) ≡ put_items (put_all groups more) m (x ∷ [])
  put_all-put [] groups m x tidy = refl
  put_all-put ((n, []) ∷ rest) groups m x tidy = absurd (tidy.1 refl)
  put_all-put ((n, y ∷ ys) ∷ rest) groups m x tidy = step (nat_eq m n) refl (put_all-put rest (put_items groups n (y ∷ ys)) m x tidy.2)
    where
      step : (b : Bool) → nat_eq m n ≡ b → put_all (put_items groups n (y ∷ ys)) (put_items rest m (x ∷ [])) ≡ put_items (put_all (put_items groups n (y ∷ ys)) rest) m (x ∷ []) → put_all groups (if b then (n, (y ∷ ys) ++ x ∷ []) ∷ rest else (n, y ∷ ys) ∷ put_items rest m (x ∷ [])) ≡ put_items (put_all (put_items groups n (y ∷ ys)) rest) m (x ∷ [])
      step true is ih =
          let same = eqb-true m n is in
          ap (λ g. put_all g rest) (sym (put-put groups n (y ∷ ys) (x ∷ [])))
          ∙ sym (put_all-passed rest (put_items groups n (y ∷ ys)) n (x ∷ []) tidy.2 tidy.0 (has-put groups n (y ∷ ys)))
          ∙ ap (λ k. put_items (put_all (put_items groups n (y ∷ ys)) rest) k (x ∷ [])) (sym same)
      step false is ih = ih

  pub some-none : (x : A) (xs : List A) → x ∷ xs ≡ [] → ⊥
  some-none x xs e = cc

  pub pushed-none : (xs : List A) (x : A) → xs ++ x ∷ [] ≡ [] → ⊥
  pushed-none [] x e = some-none x [] e
  pushed-none (y ∷ ys) x e = some-none y (ys ++ x ∷ []) e

  -- tidy groups stay so
  pub IsTidy-put : (groups : Groups A) (m : ℕ) (x : A) → AreGroupsTidy groups → AreGroupsTidy (put_items groups m (x ∷ []))
  IsTidy-put [] m x tidy = (refl, λ e. some-none x [] e, tt)
  IsTidy-put ((n, its) ∷ rest) m x tidy = step (nat_eq m n) refl (IsTidy-put rest m x tidy.2)
    where
      step : (b : Bool) → nat_eq m n ≡ b → AreGroupsTidy (put_items rest m (x ∷ [])) → AreGroupsTidy (if b then (n, its ++ x ∷ []) ∷ rest else (n, its) ∷ put_items rest m (x ∷ []))
      step true is ih = (tidy.0, λ e. pushed-none its x e, tidy.2)
      step false is ih = (has-put_other rest n m (x ∷ []) (turned m n is) ∙ tidy.0, tidy.1, ih)

  -- items put one by one are items put together first
  pub put_each-all : (groups more : Groups A) (items : List (OwnedOf A)) → AreGroupsTidy more → put_all groups (put_each more items) ≡ put_each (put_all groups more) items
  put_each-all groups more [] tidy = refl
  put_each-all groups more ((m, x) ∷ rest) tidy = put_each-all groups (put_items more m (x ∷ [])) rest (IsTidy-put more m x tidy) ∙ ap (λ g. put_each g rest) (put_all-put more groups m x tidy)

-- ---- owned
module _ {A : Type 0} where
  -- the items by module, without those of one
  abbrev pub without : ℕ → Groups A → Groups A
  without m [] = []
  without m ((n, items) ∷ rest) = if nat_eq n m then without m rest else (n, items) ∷ without m rest

  -- those of a module
  abbrev pub ours : ℕ → List (OwnedOf A) → List (OwnedOf A)
  ours m pairs = filter (λ pair. nat_eq pair.0 m) pairs

  -- a module that is left out, and more that is put
  pub without-put : (m : ℕ) (g : Groups A) (n : ℕ) (xs : List A) → without m (put_items g n xs) ≡ (if nat_eq n m then without m g else put_items (without m g) n xs)
  without-put m [] n xs = refl
  without-put m ((k, its) ∷ rest) n xs = step (nat_eq n k) (nat_eq k m) (nat_eq n m) refl refl refl (without-put m rest n xs)
    where
      step : (b d e : Bool) → nat_eq n k ≡ b → nat_eq k m ≡ d → nat_eq n m ≡ e
          → without m (put_items rest n xs) ≡ (if nat_eq n m then without m rest else put_items (without m rest) n xs)
          → without m (if b then (k, its ++ xs) ∷ rest else (k, its) ∷ put_items rest n xs) ≡ (if e then (if d then without m rest else (k, its) ∷ without m rest) else put_items (if d then without m rest else (k, its) ∷ without m rest) n xs)
      step true true true p q r ih = rw q refl
      step true true false p q r ih = absurd (false≢true (sym r ∙ eq-eqb n m (eqb-true n k p ∙ eqb-true k m q)))
      step true false true p q r ih = absurd (false≢true (sym q ∙ eq-eqb k m (sym (eqb-true n k p) ∙ eqb-true n m r)))
      step true false false p q r ih = rw (q, p) refl
      step false true e p q r ih = rw q (ih ∙ ap (λ b. if b then without m rest else put_items (without m rest) n xs) r)
      step false false true p q r ih = rw q (ap (λ l. (k, its) ∷ l) (ih ∙ ap (λ b. if b then without m rest else put_items (without m rest) n xs) r))
      step false false false p q r ih = rw (q, p) (ap (λ l. (k, its) ∷ l) (ih ∙ ap (λ b. if b then without m rest else put_items (without m rest) n xs) r))

  -- the same of what is put one by one
  pub without-each : (m : ℕ) (g : Groups A) (ps : List (OwnedOf A)) → without m (put_each g ps) ≡ put_each (without m g) (others m ps)
  without-each m g [] = refl
  without-each m g ((n, x) ∷ ps) = without-each m (put_items g n (x ∷ [])) ps ∙ ap (λ h. put_each h (others m ps)) (without-put m g n (x ∷ [])) ∙ step (nat_eq n m)
    where
      step : (b : Bool) → put_each (if b then without m g else put_items (without m g) n (x ∷ [])) (others m ps) ≡ put_each (without m g) (cond (if b then false else true) ((n, x) ∷ others m ps) (others m ps))
      step true = refl
      step false = refl

  -- the items of a module among its own, and among those of another
  pub others-same : (m n : ℕ) (xs : List A) → nat_eq n m ≡ true → others m (owned_by_module n xs) ≡ []
  others-same m n [] is = refl
  others-same m n (x ∷ xs) is = rw is (others-same m n xs is)

  pub others-apart : (m n : ℕ) (xs : List A) → nat_eq n m ≡ false → others m (owned_by_module n xs) ≡ owned_by_module n xs
  others-apart m n [] is = refl
  others-apart m n (x ∷ xs) is = rw is (ap (λ l. (n, x) ∷ l) (others-apart m n xs is))

  pub ours-same : (m n : ℕ) (xs : List A) → nat_eq n m ≡ true → ours m (owned_by_module n xs) ≡ owned_by_module n xs
  ours-same m n [] is = refl
  ours-same m n (x ∷ xs) is = rw is (ap (λ l. (n, x) ∷ l) (ours-same m n xs is))

  pub ours-apart : (m n : ℕ) (xs : List A) → nat_eq n m ≡ false → ours m (owned_by_module n xs) ≡ []
  ours-apart m n [] is = refl
  ours-apart m n (x ∷ xs) is = rw is (ours-apart m n xs is)

  -- the items of the other modules
  pub others-owned : (m : ℕ) (g : Groups A) → others m (owned g) ≡ owned (without m g)
  others-owned m [] = refl
  others-owned m ((n, its) ∷ rest) = filter-append (λ (pair : OwnedOf A). if nat_eq pair.0 m then false else true) (owned_by_module n its) (owned rest) ∙ step (nat_eq n m) refl (others-owned m rest)
    where
      step : (b : Bool) → nat_eq n m ≡ b → others m (owned rest) ≡ owned (without m rest) → others m (owned_by_module n its) ++ others m (owned rest) ≡ owned (if b then without m rest else (n, its) ∷ without m rest)
      step true is ih = rw (others-same m n its is) ih
      step false is ih = rw (others-apart m n its is) (ap (λ l. owned_by_module n its ++ l) ih)

  -- one module and the others, when more is put
  pub each-first : (n : ℕ) (its : List A) (g : Groups A) (ps : List (OwnedOf A)) → put_each ((n, its) ∷ g) ps ≡ (n, its ++ map (λ (p : OwnedOf A). p.1) (ours n ps)) ∷ put_each g (others n ps)
  each-first n its g [] = ap (λ l. (n, l) ∷ g) (sym (append-nil its))
  each-first n its g ((m, x) ∷ ps) = step (nat_eq m n) (each-first n (its ++ x ∷ []) g ps) (each-first n its (put_items g m (x ∷ [])) ps)
    where
      step : (b : Bool) → put_each ((n, its ++ x ∷ []) ∷ g) ps ≡ (n, (its ++ x ∷ []) ++ map (λ (p : OwnedOf A). p.1) (ours n ps)) ∷ put_each g (others n ps)
          → put_each ((n, its) ∷ put_items g m (x ∷ [])) ps ≡ (n, its ++ map (λ (p : OwnedOf A). p.1) (ours n ps)) ∷ put_each (put_items g m (x ∷ [])) (others n ps)
          → put_each (if b then (n, its ++ x ∷ []) ∷ g else (n, its) ∷ put_items g m (x ∷ [])) ps
          ≡ (n, its ++ map (λ (p : OwnedOf A). p.1) (cond b ((m, x) ∷ ours n ps) (ours n ps))) ∷ put_each g (cond (if b then false else true) ((m, x) ∷ others n ps) (others n ps))
      step true same apart = same ∙ ap (λ l. (n, l) ∷ put_each g (others n ps)) (append_assoc its (x ∷ []) (map (λ (p : OwnedOf A). p.1) (ours n ps)))
      step false same apart = apart

  -- a module's items are its own
  pub ours-own : (m : ℕ) (ps : List (OwnedOf A)) → owned_by_module m (map (λ (p : OwnedOf A). p.1) (ours m ps)) ≡ ours m ps
  ours-own m [] = refl
  ours-own m ((n, x) ∷ ps) = step (nat_eq n m) refl (ours-own m ps)
    where
      step : (b : Bool) → nat_eq n m ≡ b → owned_by_module m (map (λ (p : OwnedOf A). p.1) (ours m ps)) ≡ ours m ps → owned_by_module m (map (λ (p : OwnedOf A). p.1) (cond b ((n, x) ∷ ours m ps) (ours m ps))) ≡ cond b ((n, x) ∷ ours m ps) (ours m ps)
      step true is ih = ap (λ k. (k, x) ∷ owned_by_module m (map (λ (p : OwnedOf A). p.1) (ours m ps))) (sym (eqb-true n m is)) ∙ ap (λ l. (n, x) ∷ l) ih
      step false is ih = ih

  -- by modules, as they first come: what is put one by one
  pub by_modules-each : (ps : List (OwnedOf A)) → by_modules_of ps ≡ owned (put_each [] ps)
  by_modules-each [] = refl
  by_modules-each ((m, x) ∷ ps) =
      let rest = ap (others m) (by_modules-each ps) ∙ others-owned m (put_each [] ps) ∙ ap owned (without-each m [] ps) in
      ap (λ l. (m, x) ∷ (l ++ others m (by_modules_of ps))) (sym (ours-own m ps))
      ∙ ap (λ l. (m, x) ∷ (owned_by_module m (map (λ (p : OwnedOf A). p.1) (ours m ps)) ++ l)) rest
      ∙ ap owned (sym (each-first m (x ∷ []) [] ps))

  -- first some, then more
  pub each-append : (g : Groups A) (ps qs : List (OwnedOf A)) → put_each g (ps ++ qs) ≡ put_each (put_each g ps) qs
  each-append g [] qs = refl
  each-append g ((m, x) ∷ ps) qs = each-append (put_items g m (x ∷ [])) ps qs

  -- items of one module that has a place, or none yet
  pub each-more : (g : Groups A) (m : ℕ) (xs ys : List A) → put_each (put_items g m xs) (owned_by_module m ys) ≡ put_items g m (xs ++ ys)
  each-more g m xs [] = ap (put_items g m) (sym (append-nil xs))
  each-more g m xs (y ∷ ys) = ap (λ h. put_each h (owned_by_module m ys)) (put-put g m xs (y ∷ [])) ∙ each-more g m (xs ++ y ∷ []) ys ∙ ap (put_items g m) (append_assoc xs (y ∷ []) ys)

  pub each-own : (g : Groups A) (m : ℕ) (xs : List A) → put_each g (owned_by_module m xs) ≡ put_any g m xs
  each-own g m [] = refl
  each-own g m (x ∷ xs) = each-more g m (x ∷ []) xs

  -- all of more is put one by one
  pub all-each : (g more : Groups A) → put_all g more ≡ put_each g (owned more)
  all-each g [] = refl
  all-each g ((m, xs) ∷ rest) = all-each (put_any g m xs) rest ∙ ap (λ h. put_each h (owned rest)) (sym (each-own g m xs)) ∙ sym (each-append g (owned_by_module m xs) (owned rest))

  -- a module that has no place has no items, and need not be left out
  pub ours-none : (m : ℕ) (g : Groups A) → has_group g m ≡ false → ours m (owned g) ≡ []
  ours-none m [] none = refl
  ours-none m ((n, its) ∷ rest) none = step (nat_eq m n) refl none (ours-none m rest)
    where
      step : (b : Bool) → nat_eq m n ≡ b → (if b then true else has_group rest m) ≡ false → (has_group rest m ≡ false → ours m (owned rest) ≡ []) → ours m (owned_by_module n its ++ owned rest) ≡ []
      step true is t ih = absurd (false≢true (sym t))
      step false is t ih = filter-append (λ (pair : OwnedOf A). nat_eq pair.0 m) (owned_by_module n its) (owned rest) ∙ ap (λ l. l ++ ours m (owned rest)) (ours-apart m n its (turned m n is)) ∙ ih t

  pub without-none : (m : ℕ) (g : Groups A) → has_group g m ≡ false → without m g ≡ g
  without-none m [] none = refl
  without-none m ((n, its) ∷ rest) none = step (nat_eq m n) refl none (without-none m rest)
    where
      step : (b : Bool) → nat_eq m n ≡ b → (if b then true else has_group rest m) ≡ false → (has_group rest m ≡ false → without m rest ≡ rest) → (if nat_eq n m then without m rest else (n, its) ∷ without m rest) ≡ (n, its) ∷ rest
      step true is t ih = absurd (false≢true (sym t))
      step false is t ih = ap (λ b. if b then without m rest else (n, its) ∷ without m rest) (turned m n is) ∙ ap (λ l. (n, its) ∷ l) (ih t)

  -- the items of a list with its module, without it
  pub items-own : (m : ℕ) (xs : List A) → map (λ (p : OwnedOf A). p.1) (owned_by_module m xs) ≡ xs
  items-own m [] = refl
  items-own m (x ∷ xs) = ap (λ l. x ∷ l) (items-own m xs)

  -- a module's own items in front of those of others
  pub ours-front : (m : ℕ) (xs : List A) (g : Groups A) → has_group g m ≡ false → ours m (owned_by_module m xs ++ owned g) ≡ owned_by_module m xs
  ours-front m xs g none =
      filter-append (λ (pair : OwnedOf A). nat_eq pair.0 m) (owned_by_module m xs) (owned g)
      ∙ ap (λ l. l ++ ours m (owned g)) (ours-same m m xs (eq-eqb m m refl))
      ∙ ap (λ l. owned_by_module m xs ++ l) (ours-none m g none)
      ∙ append-nil (owned_by_module m xs)

  pub others-front : (m : ℕ) (xs : List A) (g : Groups A) → has_group g m ≡ false → others m (owned_by_module m xs ++ owned g) ≡ owned g
  others-front m xs g none =
      filter-append (λ (pair : OwnedOf A). if nat_eq pair.0 m then false else true) (owned_by_module m xs) (owned g)
      ∙ ap (λ l. l ++ others m (owned g)) (others-same m m xs (eq-eqb m m refl))
      ∙ others-owned m g
      ∙ ap owned (without-none m g none)

  -- the items of a part, put one by one, are that part
  pub each-self : (g : Groups A) → AreGroupsTidy g → put_each [] (owned g) ≡ g
  each-self [] tidy = refl
  each-self ((m, []) ∷ rest) tidy = absurd (tidy.1 refl)
  each-self ((m, x ∷ xs) ∷ rest) tidy =
      let behind = owned_by_module m xs ++ owned rest in
      each-first m (x ∷ []) [] behind
      ∙ ap (λ (l : List (OwnedOf A)). (m, x ∷ map (λ (p : OwnedOf A). p.1) l) ∷ put_each [] (others m behind)) (ours-front m xs rest tidy.0)
      ∙ ap (λ (l : List A). (m, x ∷ l) ∷ put_each [] (others m behind)) (items-own m xs)
      ∙ ap (λ (l : List (OwnedOf A)). (m, x ∷ xs) ∷ put_each [] l) (others-front m xs rest tidy.0)
      ∙ ap (λ l. (m, x ∷ xs) ∷ l) (each-self rest tidy.2)

  -- more behind a part, by modules
  pub by_modules-more : (g : Groups A) (ps : List (OwnedOf A)) → AreGroupsTidy g → by_modules_of (owned g ++ ps) ≡ owned (put_each g ps)
  by_modules-more g ps tidy = by_modules-each (owned g ++ ps) ∙ ap owned (each-append [] (owned g) ps ∙ ap (λ h. put_each h ps) (each-self g tidy))

  pub by_modules-all : (a b : Groups A) → AreGroupsTidy a → by_modules_of (owned a ++ owned b) ≡ owned (put_all a b)
  by_modules-all a b tidy = by_modules-more a (owned b) tidy ∙ ap owned (sym (all-each a b))

  pub last-put : (g : Groups A) (m : ℕ) (x : A) → AreGroupsTidy g → put_last (owned g) (m, x) ≡ owned (put_items g m (x ∷ []))
  last-put g m x tidy = by_modules-more g ((m, x) ∷ []) tidy

  pub turn-each : (g : Groups A) (ps : List (OwnedOf A)) → AreGroupsTidy g → put_in_turn (owned g) ps ≡ owned (put_each g ps)
  turn-each g [] tidy = refl
  turn-each g ((m, x) ∷ ps) tidy = ap (λ l. put_in_turn l ps) (last-put g m x tidy) ∙ turn-each (put_items g m (x ∷ [])) ps (IsTidy-put g m x tidy)

  -- tidy parts stay so
  pub IsTidy-each : (g : Groups A) (ps : List (OwnedOf A)) → AreGroupsTidy g → AreGroupsTidy (put_each g ps)
  IsTidy-each g [] tidy = tidy
  IsTidy-each g ((m, x) ∷ ps) tidy = IsTidy-each (put_items g m (x ∷ [])) ps (IsTidy-put g m x tidy)

  pub IsTidy-any : (g : Groups A) (m : ℕ) (xs : List A) → AreGroupsTidy g → AreGroupsTidy (put_any g m xs)
  IsTidy-any g m xs tidy = subst (λ (h : Groups A). AreGroupsTidy h) (each-own g m xs) (IsTidy-each g (owned_by_module m xs) tidy)

  pub IsTidy-all : (a b : Groups A) → AreGroupsTidy a → AreGroupsTidy (put_all a b)
  IsTidy-all a b tidy = subst (λ (h : Groups A). AreGroupsTidy h) (sym (all-each a b)) (IsTidy-each a (owned b) tidy)

  -- the items of one module alone
  pub owned-one : (m : ℕ) (xs : List A) → owned (put_any [] m xs) ≡ owned_by_module m xs
  owned-one m [] = refl
  owned-one m (x ∷ xs) = append-nil (owned_by_module m (x ∷ xs))

  -- a part without items has no modules
  pub owned-none : (g : Groups A) → AreGroupsTidy g → owned g ≡ [] → g ≡ []
  owned-none [] tidy none = refl
  owned-none ((m, []) ∷ rest) tidy none = absurd (tidy.1 refl)
  owned-none ((m, x ∷ xs) ∷ rest) tidy none = absurd (some-none (m, x) (owned_by_module m xs ++ owned rest) none)

  -- three parts
  abbrev pub held3 : List (OwnedOf A) → List (OwnedOf A) → List (OwnedOf A) → HeldOf A
  held3 a b c = record { prepended = a; bodies = b; appended = c }

  abbrev pub held_of : Groups A → Groups A → Groups A → HeldOf A
  held_of a b c = held3 (owned a) (owned b) (owned c)

  -- each part behind the same part
  pub joined-all : (a b c d e f x y z : Groups A) → AreGroupsTidy a → AreGroupsTidy b → AreGroupsTidy c → x ≡ put_all a d → y ≡ put_all b e → z ≡ put_all c f → held_of x y z ≡ held_joined (held_of a b c) (held_of d e f)
  joined-all a b c d e f x y z first second third is also too =
      ap (λ l. held3 l (owned y) (owned z)) (ap owned is ∙ sym (by_modules-all a d first))
      ∙ ap (λ l. held3 (by_modules_of (owned a ++ owned d)) l (owned z)) (ap owned also ∙ sym (by_modules-all b e second))
      ∙ ap (λ l. held3 (by_modules_of (owned a ++ owned d)) (by_modules_of (owned b ++ owned e)) l) (ap owned too ∙ sym (by_modules-all c f third))

-- ---- answer

-- numbers that pass a test twice
pub filter-twice : (p : ℕ → Bool) (ns : List ℕ) → filter p (filter p ns) ≡ filter p ns
filter-twice p [] = refl
filter-twice p (n ∷ ns) = step (p n) refl (filter-twice p ns)
  where
    step : (b : Bool) → p n ≡ b → filter p (filter p ns) ≡ filter p ns → filter p (if b then n ∷ filter p ns else filter p ns) ≡ (if b then n ∷ filter p ns else filter p ns)
    step true is ih = ap (λ b. if b then n ∷ filter p (filter p ns) else filter p (filter p ns)) is ∙ ap (λ l. n ∷ l) ih
    step false is ih = ih

module _ {A : Type 0} where
  -- what is answered for each module in turn
  abbrev pub EachAnswered : (ℕ → List A → List A → Type 0) → Groups A → List (OwnedOf A) → Type 0
  EachAnswered answers [] new = new ≡ []
  EachAnswered answers ((m, items) ∷ rest) new = (answer : List A) × (behind : List (OwnedOf A)) × answers m items answer × EachAnswered answers rest behind × (new ≡ owned_by_module m answer ++ behind)

  -- none of these modules is among those
  abbrev pub Apart : Groups A → Groups A → Type 0
  Apart done [] = Unit {0}
  Apart done ((m, items) ∷ rest) = (has_group done m ≡ false) × Apart done rest

  pub Apart-none : (g : Groups A) → Apart [] g
  Apart-none [] = tt
  Apart-none ((m, items) ∷ rest) = (refl, Apart-none rest)

  -- a new module stands last
  pub owned-put_new : (g : Groups A) (m : ℕ) (xs : List A) → has_group g m ≡ false → owned (put_items g m xs) ≡ owned g ++ owned_by_module m xs
  owned-put_new [] m xs none = append-nil (owned_by_module m xs)
  owned-put_new ((n, its) ∷ rest) m xs none = step (nat_eq m n) none (owned-put_new rest m xs)
    where
      step : (b : Bool) → (if b then true else has_group rest m) ≡ false → (has_group rest m ≡ false → owned (put_items rest m xs) ≡ owned rest ++ owned_by_module m xs)
          → owned (if b then (n, its ++ xs) ∷ rest else (n, its) ∷ put_items rest m xs) ≡ (owned_by_module n its ++ owned rest) ++ owned_by_module m xs
      step true t ih = absurd (false≢true (sym t))
      step false t ih = ap (λ l. owned_by_module n its ++ l) (ih t) ∙ sym (append_assoc (owned_by_module n its) (owned rest) (owned_by_module m xs))

  pub owned-any_new : (g : Groups A) (m : ℕ) (xs : List A) → has_group g m ≡ false → owned (put_any g m xs) ≡ owned g ++ owned_by_module m xs
  owned-any_new g m [] none = sym (append-nil (owned g))
  owned-any_new g m (x ∷ xs) none = owned-put_new g m (x ∷ xs) none

  -- other modules stay apart
  pub has-any_other : (g : Groups A) (m n : ℕ) (xs : List A) → nat_eq m n ≡ false → has_group (put_any g n xs) m ≡ has_group g m
  has-any_other g m n [] apart = refl
  has-any_other g m n (x ∷ xs) apart = has-put_other g m n (x ∷ xs) apart

  pub Apart-any : (done : Groups A) (m : ℕ) (xs : List A) (g : Groups A) → has_group g m ≡ false → Apart done g → Apart (put_any done m xs) g
  Apart-any done m xs [] none apart = tt
  Apart-any done m xs ((n, its) ∷ rest) none apart = step (nat_eq m n) refl none (Apart-any done m xs rest)
    where
      step : (b : Bool) → nat_eq m n ≡ b → (if b then true else has_group rest m) ≡ false → (has_group rest m ≡ false → Apart done rest → Apart (put_any done m xs) rest) → (has_group (put_any done m xs) n ≡ false) × Apart (put_any done m xs) rest
      step true is t ih = absurd (false≢true (sym t))
      step false is t ih = (has-any_other done n m xs (turned m n is) ∙ apart.0, ih t apart.1)

  -- what was put together of the answers, one by one
  pub mapped : (answers : ℕ → List A → List A → Type 0) (g done to : Groups A) → AreGroupsTidy g → Apart done g → IsMapped answers done g to → (new : List (OwnedOf A)) × (owned to ≡ owned done ++ new) × EachAnswered answers g new
  mapped answers [] done to tidy apart is = ([], ap owned is ∙ sym (append-nil (owned done)), refl)
  mapped answers ((m, items) ∷ rest) done to tidy apart is =
      let answer = is.0 in
      let more = mapped answers rest (put_any done m answer) to tidy.2 (Apart-any done m answer rest tidy.0 apart.1) is.2 in (
        owned_by_module m answer ++ more.0,
        more.1 ∙ ap (λ l. l ++ more.0) (owned-any_new done m answer apart.0) ∙ append_assoc (owned done) (owned_by_module m answer) more.0,
        (answer, more.0, is.1, more.2, refl),
      )

  pub IsTidy-mapped : (answers : ℕ → List A → List A → Type 0) (g done to : Groups A) → AreGroupsTidy done → IsMapped answers done g to → AreGroupsTidy to
  IsTidy-mapped answers [] done to tidy is = subst (λ (h : Groups A). AreGroupsTidy h) (sym is) tidy
  IsTidy-mapped answers ((m, items) ∷ rest) done to tidy is = IsTidy-mapped answers rest (put_any done m is.0) to (IsTidy-any done m is.0 tidy) is.2

  -- the items of a module among all
  abbrev pub AreAmong : List (OwnedOf A) → Groups A → Type 0
  AreAmong all [] = Unit {0}
  AreAmong all ((m, items) ∷ rest) = (items_of_owner all m ≡ items) × AreAmong all rest

  pub AreAmong-front : (m : ℕ) (xs : List A) (all : List (OwnedOf A)) (g : Groups A) → has_group g m ≡ false → AreAmong all g → AreAmong (owned_by_module m xs ++ all) g
  AreAmong-front m xs all [] none are = tt
  AreAmong-front m xs all ((n, its) ∷ rest) none are = step (nat_eq m n) refl none (AreAmong-front m xs all rest)
    where
      step : (b : Bool) → nat_eq m n ≡ b → (if b then true else has_group rest m) ≡ false → (has_group rest m ≡ false → AreAmong all rest → AreAmong (owned_by_module m xs ++ all) rest) → (items_of_owner (owned_by_module m xs ++ all) n ≡ its) × AreAmong (owned_by_module m xs ++ all) rest
      step true is t ih = absurd (false≢true (sym t))
      step false is t ih =
          (ap (map (λ (p : OwnedOf A). p.1)) (filter-append (λ (pair : OwnedOf A). nat_eq pair.0 n) (owned_by_module m xs) all ∙ ap (λ l. l ++ ours n all) (ours-apart n m xs is)) ∙ are.0, ih t are.1)

  pub AreAmong-own : (g : Groups A) → AreGroupsTidy g → AreAmong (owned g) g
  AreAmong-own [] tidy = tt
  AreAmong-own ((m, xs) ∷ rest) tidy =
      (ap (map (λ (p : OwnedOf A). p.1)) (ours-front m xs rest tidy.0) ∙ items-own m xs, AreAmong-front m xs (owned rest) rest tidy.0 (AreAmong-own rest tidy.2))

  -- a module that comes several times
  pub once-again : (m : ℕ) (xs : List A) (ns : List ℕ) → filter (λ k. not (m == k)) (once (map (λ (p : OwnedOf A). p.0) (owned_by_module m xs) ++ ns)) ≡ filter (λ k. not (m == k)) (once ns)
  once-again m [] ns = refl
  once-again m (x ∷ xs) ns =
      let more = once (map (λ (p : OwnedOf A). p.0) (owned_by_module m xs) ++ ns) in
      let others = filter (λ k. not (m == k)) more in
      ap (λ b. if not b then m ∷ filter (λ k. not (m == k)) others else filter (λ k. not (m == k)) others) (eq-eqb m m refl)
      ∙ filter-twice (λ k. not (m == k)) more
      ∙ once-again m xs ns

  -- the other modules
  pub keys-none : (m : ℕ) (g : Groups A) → has_group g m ≡ false → filter (λ k. not (m == k)) (map (λ e. e.0) g) ≡ map (λ e. e.0) g
  keys-none m [] none = refl
  keys-none m ((n, its) ∷ rest) none = step (nat_eq m n) none (keys-none m rest)
    where
      step : (b : Bool) → (if b then true else has_group rest m) ≡ false → (has_group rest m ≡ false → filter (λ k. not (m == k)) (map (λ e. e.0) rest) ≡ map (λ e. e.0) rest)
          → (if not b then n ∷ filter (λ k. not (m == k)) (map (λ e. e.0) rest) else filter (λ k. not (m == k)) (map (λ e. e.0) rest)) ≡ n ∷ map (λ e. e.0) rest
      step true t ih = absurd (false≢true (sym t))
      step false t ih = ap (λ l. n ∷ l) (ih t)

  -- the modules of a part
  pub modules-owned : (g : Groups A) → AreGroupsTidy g → modules_of_part (owned g) ≡ map (λ e. e.0) g
  modules-owned [] tidy = refl
  modules-owned ((m, []) ∷ rest) tidy = absurd (tidy.1 refl)
  modules-owned ((m, x ∷ xs) ∷ rest) tidy =
      let key : OwnedOf A → ℕ = λ p. p.0 in
      ap (λ l. m ∷ filter (λ k. not (m == k)) (once l)) (map-append key (owned_by_module m xs) (owned rest))
      ∙ ap (λ l. m ∷ l) (once-again m xs (map key (owned rest)))
      ∙ ap (λ l. m ∷ filter (λ k. not (m == k)) l) (modules-owned rest tidy.2)
      ∙ ap (λ l. m ∷ l) (keys-none m rest tidy.0)

  -- lists of items
  pub listed : (answers : ℕ → List A → List A → Type 0) (all : List (OwnedOf A)) (g : Groups A) (new : List (OwnedOf A)) → AreAmong all g → EachAnswered answers g new → ListsAnsweredOf answers all (map (λ e. e.0) g) new
  listed answers all [] new are each = subst (λ (l : List (OwnedOf A)). ListsAnsweredOf answers all [] l) (sym each) over
  listed answers all ((m, items) ∷ rest) new are each =
      subst (λ (l : List (OwnedOf A)). ListsAnsweredOf answers all (m ∷ map (λ e. e.0) rest) l) (sym each.4)
      (next each.0 (subst (λ (l : List A). answers m l each.0) (sym are.0) each.2) (listed answers all rest each.1 are.1 each.3))

  pub lists_answered : (answers : ℕ → List A → List A → Type 0) (g to : Groups A) → AreGroupsTidy g → IsMapped answers [] g to → ListsAnsweredOf answers (owned g) (modules_of_part (owned g)) (owned to)
  lists_answered answers g to tidy is =
      let all = mapped answers g [] to tidy (Apart-none g) is in
      subst (λ (ms : List ℕ). ListsAnsweredOf answers (owned g) ms (owned to)) (sym (modules-owned g tidy))
      (subst (λ (l : List (OwnedOf A)). ListsAnsweredOf answers (owned g) (map (λ e. e.0) g) l) (sym all.1) (listed answers (owned g) g all.0 (AreAmong-own g tidy) all.2))

  -- items one by one
  pub zipped : (may : ℕ → A → A → Type 0) (m : ℕ) (xs ys : List A) (ps qs : List (OwnedOf A)) → AllZip (may m) xs ys → AllZip (ItemAnsweredOf may) ps qs → AllZip (ItemAnsweredOf may) (owned_by_module m xs ++ ps) (owned_by_module m ys ++ qs)
  zipped may m [] [] ps qs zip behind = behind
  zipped may m [] (y ∷ ys) ps qs zip behind = absurd zip
  zipped may m (x ∷ xs) [] ps qs zip behind = absurd zip
  zipped may m (x ∷ xs) (y ∷ ys) ps qs zip behind = (record { same = refl; answered = zip.0 }, zipped may m xs ys ps qs zip.1 behind)

  pub each_item : (may : ℕ → A → A → Type 0) (g : Groups A) (new : List (OwnedOf A)) → EachAnswered (ItemsAnswered may) g new → AllZip (ItemAnsweredOf may) (owned g) new
  each_item may [] new each = subst (λ (l : List (OwnedOf A)). AllZip (ItemAnsweredOf may) [] l) (sym each) tt
  each_item may ((m, items) ∷ rest) new each =
      subst (λ (l : List (OwnedOf A)). AllZip (ItemAnsweredOf may) (owned_by_module m items ++ owned rest) l) (sym each.4) (zipped may m items each.0 (owned rest) each.1 each.2 (each_item may rest each.1 each.3))

  pub items_answered : (may : ℕ → A → A → Type 0) (g to : Groups A) → AreGroupsTidy g → IsMapped (ItemsAnswered may) [] g to → AllZip (ItemAnsweredOf may) (owned g) (owned to)
  items_answered may g to tidy is =
      let all = mapped (ItemsAnswered may) g [] to tidy (Apart-none g) is in
      subst (λ (l : List (OwnedOf A)). AllZip (ItemAnsweredOf may) (owned g) l) (sym all.1) (each_item may g all.0 all.2)

  -- items one by one, where some go
  pub picked-front : (may : ℕ → A → Option A → Type 0) (m : ℕ) {xs ys : List A} (ps qs : List (OwnedOf A)) → PickedOf (may m) xs ys → Answered may ps qs → Answered may (owned_by_module m xs ++ ps) (owned_by_module m ys ++ qs)
  picked-front may m ps qs pick_over behind = behind
  picked-front may m ps qs (pick_goes said rest) behind = some_goes said (picked-front may m ps qs rest behind)
  picked-front may m ps qs (pick_stays said rest) behind = some_stays said (picked-front may m ps qs rest behind)

  pub each_pick : (may : ℕ → A → Option A → Type 0) (g : Groups A) (new : List (OwnedOf A)) → EachAnswered (ItemsPicked may) g new → Answered may (owned g) new
  each_pick may [] new each = subst (λ (l : List (OwnedOf A)). Answered may [] l) (sym each) some_over
  each_pick may ((m, items) ∷ rest) new each =
      subst (λ (l : List (OwnedOf A)). Answered may (owned_by_module m items ++ owned rest) l) (sym each.4) (picked-front may m (owned rest) each.1 each.2 (each_pick may rest each.1 each.3))

  pub items_picked : (may : ℕ → A → Option A → Type 0) (g to : Groups A) → AreGroupsTidy g → IsMapped (ItemsPicked may) [] g to → Answered may (owned g) (owned to)
  items_picked may g to tidy is =
      let all = mapped (ItemsPicked may) g [] to tidy (Apart-none g) is in
      subst (λ (l : List (OwnedOf A)). Answered may (owned g) l) (sym all.1) (each_pick may g all.0 all.2)

  -- one more item
  pub pick-goes : (may : A → Option A → Type 0) {xs ys : List A} {x : A} → PickedOf may xs ys → may x None → PickedOf may (xs ++ x ∷ []) ys
  pick-goes may pick_over said = pick_goes said pick_over
  pick-goes may (pick_goes one rest) said = pick_goes one (pick-goes may rest said)
  pick-goes may (pick_stays one rest) said = pick_stays one (pick-goes may rest said)

  pub pick-stays : (may : A → Option A → Type 0) {xs ys : List A} {x y : A} → PickedOf may xs ys → may x (Some y) → PickedOf may (xs ++ x ∷ []) (ys ++ y ∷ [])
  pick-stays may pick_over said = pick_stays said pick_over
  pick-stays may (pick_goes one rest) said = pick_goes one (pick-stays may rest said)
  pick-stays may (pick_stays one rest) said = pick_stays one (pick-stays may rest said)

  -- what is kept of one module, in front of what is kept of others
  pub kept-front : (asks : ℕ → A → Bool → Type 0) (m : ℕ) (xs ys : List A) (ps qs : List (OwnedOf A)) → IsSifted (asks m) xs ys → RetainedOf asks ps qs → RetainedOf asks (owned_by_module m xs ++ ps) (owned_by_module m ys ++ qs)
  kept-front asks m [] ys ps qs sifts behind = subst (λ (l : List A). RetainedOf asks ps (owned_by_module m l ++ qs)) (sym sifts) behind
  kept-front asks m (x ∷ xs) ys ps qs sifts behind =
      subst (λ (l : List A). RetainedOf asks ((m, x) ∷ (owned_by_module m xs ++ ps)) (owned_by_module m l ++ qs)) (sym sifts.4) (step sifts.0 sifts.2 (kept-front asks m xs sifts.1 ps qs sifts.3 behind))
    where
      step : (b : Bool) → asks m x b → RetainedOf asks (owned_by_module m xs ++ ps) (owned_by_module m sifts.1 ++ qs) → RetainedOf asks ((m, x) ∷ (owned_by_module m xs ++ ps)) (owned_by_module m (if b then x ∷ sifts.1 else sifts.1) ++ qs)
      step true said rest = stays said rest
      step false said rest = goes said rest

  pub owned-kept : (m : ℕ) (kept : List A) (rest : Groups A) → owned (if is_any kept then (m, kept) ∷ rest else rest) ≡ owned_by_module m kept ++ owned rest
  owned-kept m [] rest = refl
  owned-kept m (x ∷ xs) rest = refl

  pub retained : (asks : ℕ → A → Bool → Type 0) (g to : Groups A) → AreItemsKept asks g to → RetainedOf asks (owned g) (owned to)
  retained asks [] to is = subst (λ (h : Groups A). RetainedOf asks [] (owned h)) (sym is) none_left
  retained asks ((m, items) ∷ rest) to is =
      subst (λ (l : List (OwnedOf A)). RetainedOf asks (owned_by_module m items ++ owned rest) l) (sym (ap owned is.4 ∙ owned-kept m is.0 is.1))
      (kept-front asks m items is.0 (owned rest) (owned is.1) is.2 (retained asks rest is.1 is.3))

  -- tidy parts stay so
  pub has-kept : (asks : ℕ → A → Bool → Type 0) (k : ℕ) (g to : Groups A) → has_group g k ≡ false → AreItemsKept asks g to → has_group to k ≡ false
  has-kept asks k [] to none is = ap (λ (h : Groups A). has_group h k) is
  has-kept asks k ((m, items) ∷ rest) to none is = step (nat_eq k m) refl none (has-kept asks k rest is.1)
    where
      cases : (kept : List A) → nat_eq k m ≡ false → has_group is.1 k ≡ false → has_group (if is_any kept then (m, kept) ∷ is.1 else is.1) k ≡ false
      cases [] apart gone = gone
      cases (x ∷ xs) apart gone = ap (λ b. if b then true else has_group is.1 k) apart ∙ gone

      step : (b : Bool) → nat_eq k m ≡ b → (if b then true else has_group rest k) ≡ false → (has_group rest k ≡ false → AreItemsKept asks rest is.1 → has_group is.1 k ≡ false) → has_group to k ≡ false
      step true at t ih = absurd (false≢true (sym t))
      step false at t ih = ap (λ (h : Groups A). has_group h k) is.4 ∙ cases is.0 at (ih t is.3)

  pub IsTidy-kept : (asks : ℕ → A → Bool → Type 0) (g to : Groups A) → AreGroupsTidy g → AreItemsKept asks g to → AreGroupsTidy to
  IsTidy-kept asks [] to tidy is = subst (λ (h : Groups A). AreGroupsTidy h) (sym is) tt
  IsTidy-kept asks ((m, items) ∷ rest) to tidy is =
      subst (λ (h : Groups A). AreGroupsTidy h) (sym is.4) (cases is.0 (has-kept asks m rest is.1 tidy.0 is.3) (IsTidy-kept asks rest is.1 tidy.2 is.3))
    where
      cases : (kept : List A) → has_group is.1 m ≡ false → AreGroupsTidy is.1 → AreGroupsTidy (if is_any kept then (m, kept) ∷ is.1 else is.1)
      cases [] none rest = rest
      cases (x ∷ xs) none rest = (none, λ e. some-none x xs e, rest)

-- ---- group
module _ {A : Type 0} where
  -- items of which there is not none
  pub nonempty : (v : Vec A Global) → (vec_len v == 0) ≡ false → v.items ≡ [] → ⊥
  nonempty v some none = false≢true (sym some ∙ eq-eqb (vec_len v) 0 (v.ok.0 ∙ ap length none))

  -- items that are there have a place
  pub put_any-some : (groups : Groups A) (m : ℕ) (items : List A) → (items ≡ [] → ⊥) → put_any groups m items ≡ put_items groups m items
  put_any-some groups m [] some = absurd (some refl)
  put_any-some groups m (x ∷ xs) some = refl

  -- items are written behind those of a module that is there
  pub written : (es : List (ℕ × Vec A Global)) (m : ℕ) (v w : Vec A Global) (items : List A) → lookup (nat_eq m) es ≡ Some v → w.items ≡ v.items ++ items
      → map group_items (set_value (nat_eq m) es w) ≡ put_items (map group_items es) m items
  written [] m v w items there is = cc
  written (e ∷ es) m v w items there is = step (nat_eq m e.0) (λ t. written es m v w items t is) there
    where
      step : (b : Bool) → (lookup (nat_eq m) es ≡ Some v → map group_items (set_value (nat_eq m) es w) ≡ put_items (map group_items es) m items) → cond b (Some e.1) (lookup (nat_eq m) es) ≡ Some v
          → map group_items (cond b ((e.0, w) ∷ es) (e ∷ set_value (nat_eq m) es w)) ≡ (if b then (e.0, e.1.items ++ items) ∷ map group_items es else (e.0, e.1.items) ∷ put_items (map group_items es) m items)
      step true ih t = ap (λ its. (e.0, its) ∷ map group_items es) (is ∙ ap (λ (u : Vec A Global). u.items ++ items) (sym (same_Some e.1 v t)))
      step false ih t = ap (λ l. (e.0, e.1.items) ∷ l) (ih t)

  -- the same items are written
  pub unwritten : (es : List (ℕ × Vec A Global)) (m : ℕ) (v w : Vec A Global) → lookup (nat_eq m) es ≡ Some v → w.items ≡ v.items → map group_items (set_value (nat_eq m) es w) ≡ map group_items es
  unwritten [] m v w there is = cc
  unwritten (e ∷ es) m v w there is = step (nat_eq m e.0) (λ t. unwritten es m v w t is) there
    where
      step : (b : Bool) → (lookup (nat_eq m) es ≡ Some v → map group_items (set_value (nat_eq m) es w) ≡ map group_items es) → cond b (Some e.1) (lookup (nat_eq m) es) ≡ Some v
          → map group_items (cond b ((e.0, w) ∷ es) (e ∷ set_value (nat_eq m) es w)) ≡ (e.0, e.1.items) ∷ map group_items es
      step true ih t = ap (λ its. (e.0, its) ∷ map group_items es) (is ∙ ap (λ (u : Vec A Global). u.items) (sym (same_Some e.1 v t)))
      step false ih t = ap (λ l. (e.0, e.1.items) ∷ l) (ih t)

  -- a module that is not there comes with its items
  pub inserted : (es : List (ℕ × Vec A Global)) (m : ℕ) (w : Vec A Global) (items : List A) → lookup (nat_eq m) es ≡ None → w.items ≡ items
      → map group_items (insert_entry nat_eq es m w) ≡ put_items (map group_items es) m items
  inserted [] m w items none is = ap (λ its. (m, its) ∷ []) is
  inserted (e ∷ es) m w items none is = step (nat_eq m e.0) (λ t. inserted es m w items t is) none
    where
      step : (b : Bool) → (lookup (nat_eq m) es ≡ None → map group_items (insert_entry nat_eq es m w) ≡ put_items (map group_items es) m items) → cond b (Some e.1) (lookup (nat_eq m) es) ≡ None
          → map group_items (if b then (e.0, w) ∷ es else e ∷ insert_entry nat_eq es m w) ≡ (if b then (e.0, e.1.items ++ items) ∷ map group_items es else (e.0, e.1.items) ∷ put_items (map group_items es) m items)
      step true ih t = cc
      step false ih t = ap (λ l. (e.0, e.1.items) ∷ l) (ih t)

  -- the items of a module stand before those of the modules behind it
  pub owned-cons : (m : ℕ) (items : List A) (rest : Groups A) → map (λ (o : OwnedOf A). o.1) (owned ((m, items) ∷ rest)) ≡ items ++ map (λ (o : OwnedOf A). o.1) (owned rest)
  owned-cons m [] rest = refl
  owned-cons m (x ∷ xs) rest = ap (λ l. x ∷ l) (owned-cons m xs rest)

  -- how many items there are
  pub length-owned : (m : ℕ) (items : List A) (rest : Groups A) → length (owned ((m, items) ∷ rest)) ≡ length items + length (owned rest)
  length-owned m items rest = length-append (map (λ (x : A). (m, x)) items) (owned rest) ∙ ap (λ n. n + length (owned rest)) (length-map items (λ (x : A). (m, x)))

-- ---- kept

-- whether there is an item, by their number
pub any_from : {A : Type 0} (xs : List A) (n : ℕ) → n ≡ length xs → not (n == 0) ≡ is_any xs
any_from [] n e = ap (λ k. not (k == 0)) e
any_from (x ∷ xs) n e = step (n == 0) refl
  where
    step : (b : Bool) → (n == 0) ≡ b → not b ≡ true
    step true is = absurd (omega (arith, eqb-true n 0 is))
    step false is = refl

module _ {P A : Type 0} (R : P → A → Bool → P → Type 0) (asks : A → Bool → Type 0) (f : P)
    (says : (x : A) (b : Bool) (f' : P) → R f x b f' → asks x b × (f' ≡ f)) where
  turns : (bs : List Bool) (xs kept : List A) (q : P) → length bs ≡ length xs → ReturnsInTurn R f bs xs q → kept ≡ items_where_true bs xs → IsSifted asks xs kept
  turns [] [] kept q len run is = is
  turns [] (x ∷ xs) kept q len run is = absurd (omega (arith, len))
  turns (b ∷ bs) [] kept q len run is = absurd run
  turns (b ∷ bs) (x ∷ xs) kept q len run is =
      let s = says x b run.0 run.1 in
      let rest = turns bs xs (items_where_true bs xs) q (omega (arith, len)) (subst (λ p. ReturnsInTurn R p bs xs q) s.1 run.2) refl in
      (b, items_where_true bs xs, s.0, rest, is ∙ step b)
    where
      step : (c : Bool) → items_where_true (c ∷ bs) (x ∷ xs) ≡ (if c then x ∷ items_where_true bs xs else items_where_true bs xs)
      step true = refl
      step false = refl

  -- what a closure that stays as it is left of a list
  pub sifted : (xs kept : List A) → IsFiltered R f xs kept → IsSifted asks xs kept
  sifted xs kept h = turns h.0 xs kept h.1 h.2 h.3 h.4

module _ {P A : Type 0} (R : P → ℕ → Vec A Global → Bool → Vec A Global → P → Type 0) (asks : ℕ → A → Bool → Type 0) (f : P)
    (says : (m : ℕ) (v : Vec A Global) (b : Bool) (w : Vec A Global) (f' : P) → R f m v b w f' → IsSifted (asks m) v.items w.items × (b ≡ is_any w.items) × (f' ≡ f)) where
  -- what such a closure left of the items by module
  pub kept_of : (es new : List (ℕ × Vec A Global)) → RetainsPairs R f es new → AreItemsKept asks (map group_items es) (map group_items new)
  kept_of [] new h = ap (map group_items) h
  kept_of (e ∷ es) new h =
      let s = says e.0 e.1 h.0 h.1 h.2 h.4 in
      let rest = kept_of es h.3 (subst (λ p. RetainsPairs R p es h.3) s.2 h.5) in
      (h.1.items, map group_items h.3, s.0, rest, ap (map group_items) h.6 ∙ ap (λ c. map group_items (cond c ((e.0, h.1) ∷ h.3) h.3)) s.1 ∙ step (is_any h.1.items) h.1 h.3)
    where
      step : (c : Bool) (w : Vec A Global) (others : List (ℕ × Vec A Global)) → map group_items (cond c ((e.0, w) ∷ others) others) ≡ (if c then (e.0, w.items) ∷ map group_items others else map group_items others)
      step true w others = refl
      step false w others = refl

-- what is said of equal values
pub said : {A : Type 0} (asks : ℕ → A → Bool → Type 0) (k m : ℕ) (u v t w : Vec A Global) (b : Bool) → k ≡ m → u ≡ v → t ≡ w
    → IsSifted (asks k) u.items t.items → b ≡ is_any t.items → IsSifted (asks m) v.items w.items × (b ≡ is_any w.items)
said asks k m u v t w b same from to sifts any =
    subst (λ x. IsSifted (asks m) v.items x.items × (b ≡ is_any x.items)) to
    (subst (λ x. IsSifted (asks m) x.items t.items × (b ≡ is_any t.items)) from
    (subst (λ x. IsSifted (asks x) u.items t.items × (b ≡ is_any t.items)) same (sifts, any)))

-- ---- refused

-- what holds of each error holds of that of a result
pub of-error : {T E : Type 0} {P Q : E → Type 0} (r : Result T E) → IsErrAnd r P → ((e : E) → P e → Q e) → IfErr r Q
of-error (Ok x) is more = tt
of-error (Err e) is more = more e is

-- something holds of each
abbrev pub Each : {X : Type 0} → (X → Type 0) → List X → Type 0
Each holds [] = Unit {0}
Each holds (x ∷ xs) = holds x × Each holds xs

pub Each-append : {X : Type 0} (holds : X → Type 0) (xs ys : List X) → Each holds xs → Each holds ys → Each holds (xs ++ ys)
Each-append holds [] ys front behind = behind
Each-append holds (x ∷ xs) ys front behind = (front.0, Each-append holds xs ys front.1 behind)

-- the refused one stands in front
pub stop-front : {X : Type 0} (answered refused : X → Type 0) {xs : List X} (ys : List X) → StopsAt answered refused xs → StopsAt answered refused (xs ++ ys)
stop-front answered refused ys (here said) = here said
stop-front answered refused ys (further said rest) = further said (stop-front answered refused ys rest)

-- it stands behind others that are answered
pub stop-behind : {X : Type 0} (answered refused : X → Type 0) (xs ys : List X) → Each answered xs → StopsAt answered refused ys → StopsAt answered refused (xs ++ ys)
stop-behind answered refused [] ys each stops = stops
stop-behind answered refused (x ∷ xs) ys each stops = further each.0 (stop-behind answered refused xs ys each.1 stops)

module _ {A : Type 0} where
  -- lists that are answered
  pub each-list : (answers : ℕ → List A → List A → Type 0) (done g to : Groups A) → IsMapped answers done g to → Each (λ (one : ℕ × List A). (answer : List A) × answers one.0 one.1 answer) g
  each-list answers done [] to is = tt
  each-list answers done ((m, items) ∷ rest) to is = ((is.0, is.1), each-list answers (put_any done m is.0) rest to is.2)

  -- items that are answered
  pub each-item : (may : ℕ → A → A → Type 0) (m : ℕ) (xs ys : List A) → AllZip (may m) xs ys → Each (λ (one : OwnedOf A). (answer : A) × may one.0 one.1 answer) (owned_by_module m xs)
  each-item may m [] ys zip = tt
  each-item may m (x ∷ xs) [] zip = absurd zip
  each-item may m (x ∷ xs) (y ∷ ys) zip = ((y, zip.0), each-item may m xs ys zip.1)

  pub each-items : (may : ℕ → A → A → Type 0) (done g to : Groups A) → IsMapped (ItemsAnswered may) done g to → Each (λ (one : OwnedOf A). (answer : A) × may one.0 one.1 answer) (owned g)
  each-items may done [] to is = tt
  each-items may done ((m, items) ∷ rest) to is = Each-append (λ (one : OwnedOf A). (answer : A) × may one.0 one.1 answer) (owned_by_module m items) (owned rest) (each-item may m items is.0 is.1) (each-items may (put_any done m is.0) rest to is.2)

  -- items that are answered, perhaps by none
  pub each-pick : (may : ℕ → A → Option A → Type 0) (m : ℕ) {xs ys : List A} → PickedOf (may m) xs ys → Each (λ (one : OwnedOf A). (answer : Option A) × may one.0 one.1 answer) (owned_by_module m xs)
  each-pick may m pick_over = tt
  each-pick may m (pick_goes said rest) = ((None, said), each-pick may m rest)
  each-pick may m (pick_stays {answer = answer} said rest) = ((Some answer, said), each-pick may m rest)

  pub each-picks : (may : ℕ → A → Option A → Type 0) (done g to : Groups A) → IsMapped (ItemsPicked may) done g to → Each (λ (one : OwnedOf A). (answer : Option A) × may one.0 one.1 answer) (owned g)
  each-picks may done [] to is = tt
  each-picks may done ((m, items) ∷ rest) to is = Each-append (λ (one : OwnedOf A). (answer : Option A) × may one.0 one.1 answer) (owned_by_module m items) (owned rest) (each-pick may m is.1) (each-picks may (put_any done m is.0) rest to is.2)

  -- the lists of a part are its groups
  lists-among : (all : List (OwnedOf A)) (g : Groups A) → AreAmong all g → map (λ m. (m, items_of_owner all m)) (map (λ (e : ℕ × List A). e.0) g) ≡ g
  lists-among all [] are = refl
  lists-among all ((m, items) ∷ rest) are = ap (λ (l : List A). (m, l) ∷ map (λ n. (n, items_of_owner all n)) (map (λ (e : ℕ × List A). e.0) rest)) are.0 ∙ ap (λ (l : Groups A). (m, items) ∷ l) (lists-among all rest are.1)

  pub lists-owned : (g : Groups A) → AreGroupsTidy g → lists_by_module (owned g) ≡ g
  lists-owned g tidy = ap (map (λ m. (m, items_of_owner (owned g) m))) (modules-owned g tidy) ∙ lists-among (owned g) g (AreAmong-own g tidy)

-- one item, where those in front of it are answered
pub stop-at : {A : Type 0} (answered refused : OwnedOf A → Type 0) (m : ℕ) (front : List A) (one : A) (rest : List A) → Each answered (owned_by_module m front) → refused (m, one) → StopsAt answered refused (owned_by_module m (front ++ one ∷ rest))
stop-at {A = A} answered refused m front one rest each said =
    subst (λ (l : List (OwnedOf A)). StopsAt answered refused l) (sym (map-append (λ (item : A). (m, item)) front (one ∷ rest)))
    (stop-behind answered refused (owned_by_module m front) ((m, one) ∷ owned_by_module m rest) each (here said))

-- ---- undo
module _ {A : Type 0} where
  -- one more is taken back first
  pub undone-push : (log : List (ℕ × Option ℕ)) (m : ℕ) (count : Option ℕ) (g : Groups A) → undone (log ++ (m, count) ∷ []) g ≡ undone log (cut g m count)
  undone-push [] m count g = refl
  undone-push ((n, c) ∷ log) m count g = ap (λ h. cut h n c) (undone-push log m count g)

  -- nothing was added
  pub cut-same : (g : Groups A) (m : ℕ) → cut g m (count_of g m) ≡ g
  cut-same [] m = refl
  cut-same ((n, its) ∷ rest) m = step (nat_eq m n) (cut-same rest m)
    where
      step : (b : Bool) → cut rest m (count_of rest m) ≡ rest
          → (if b then cut_one n its rest (if b then Some (length its) else count_of rest m) else (n, its) ∷ cut rest m (if b then Some (length its) else count_of rest m)) ≡ (n, its) ∷ rest
      step true ih = ap (λ l. (n, l) ∷ rest) (take-length its)
      step false ih = ap (λ l. (n, its) ∷ l) ih

  -- items were added
  pub cut-put : (g : Groups A) (m : ℕ) (xs : List A) → cut (put_items g m xs) m (count_of g m) ≡ g
  cut-put [] m xs = ap (λ b. if b then cut_one m xs [] None else (m, xs) ∷ []) (eq-eqb m m refl)
  cut-put ((n, its) ∷ rest) m xs = step (nat_eq m n) refl (cut-put rest m xs)
    where
      step : (b : Bool) → nat_eq m n ≡ b → cut (put_items rest m xs) m (count_of rest m) ≡ rest
          → cut (if b then (n, its ++ xs) ∷ rest else (n, its) ∷ put_items rest m xs) m (if b then Some (length its) else count_of rest m) ≡ (n, its) ∷ rest
      step true is ih = ap (λ b. if b then cut_one n (its ++ xs) rest (Some (length its)) else (n, its ++ xs) ∷ cut rest m (Some (length its))) is ∙ ap (λ l. (n, l) ∷ rest) (take-append_seam its xs)
      step false is ih = ap (λ b. if b then cut_one n its (put_items rest m xs) (count_of rest m) else (n, its) ∷ cut (put_items rest m xs) m (count_of rest m)) is ∙ ap (λ l. (n, its) ∷ l) ih

  pub cut-any : (g : Groups A) (m : ℕ) (xs : List A) → cut (put_any g m xs) m (count_of g m) ≡ g
  cut-any g m [] = cut-same g m
  cut-any g m (x ∷ xs) = cut-put g m (x ∷ xs)

  -- the number of items, as it is looked up
  pub counted : (es : List (ℕ × Vec A Global)) (m : ℕ) (v : Vec A Global) → lookup (nat_eq m) es ≡ Some v → count_of (map group_items es) m ≡ Some (length v.items)
  counted [] m v there = cc
  counted (e ∷ es) m v there = step (nat_eq m e.0) there (counted es m v)
    where
      step : (b : Bool) → cond b (Some e.1) (lookup (nat_eq m) es) ≡ Some v → (lookup (nat_eq m) es ≡ Some v → count_of (map group_items es) m ≡ Some (length v.items)) → (if b then Some (length e.1.items) else count_of (map group_items es) m) ≡ Some (length v.items)
      step true t ih = ap (λ (u : Vec A Global). Some (length u.items)) (same_Some e.1 v t)
      step false t ih = ih t

  pub uncounted : (es : List (ℕ × Vec A Global)) (m : ℕ) → lookup (nat_eq m) es ≡ None → count_of (map group_items es) m ≡ None
  uncounted [] m none = refl
  uncounted (e ∷ es) m none = step (nat_eq m e.0) none (uncounted es m)
    where
      step : (b : Bool) → cond b (Some e.1) (lookup (nat_eq m) es) ≡ None → (lookup (nat_eq m) es ≡ None → count_of (map group_items es) m ≡ None) → (if b then Some (length e.1.items) else count_of (map group_items es) m) ≡ None
      step true t ih = cc
      step false t ih = ih t

  -- fewer items are left of a module that is there
  pub shortened : (es : List (ℕ × Vec A Global)) (m count : ℕ) (v w : Vec A Global) → lookup (nat_eq m) es ≡ Some v → w.items ≡ take count v.items → map group_items (set_value (nat_eq m) es w) ≡ cut (map group_items es) m (Some count)
  shortened [] m count v w there is = cc
  shortened (e ∷ es) m count v w there is = step (nat_eq m e.0) there (λ t. shortened es m count v w t is)
    where
      step : (b : Bool) → cond b (Some e.1) (lookup (nat_eq m) es) ≡ Some v → (lookup (nat_eq m) es ≡ Some v → map group_items (set_value (nat_eq m) es w) ≡ cut (map group_items es) m (Some count))
          → map group_items (cond b ((e.0, w) ∷ es) (e ∷ set_value (nat_eq m) es w)) ≡ (if b then (e.0, take count e.1.items) ∷ map group_items es else (e.0, e.1.items) ∷ cut (map group_items es) m (Some count))
      step true t ih = ap (λ its. (e.0, its) ∷ map group_items es) (is ∙ ap (λ (u : Vec A Global). take count u.items) (sym (same_Some e.1 v t)))
      step false t ih = ap (λ l. (e.0, e.1.items) ∷ l) (ih t)

  -- of a module that is not there nothing can be taken
  pub unshortened : (es : List (ℕ × Vec A Global)) (m : ℕ) (count : Option ℕ) → lookup (nat_eq m) es ≡ None → cut (map group_items es) m count ≡ map group_items es
  unshortened [] m count none = refl
  unshortened (e ∷ es) m count none = step (nat_eq m e.0) none (unshortened es m count)
    where
      step : (b : Bool) → cond b (Some e.1) (lookup (nat_eq m) es) ≡ None → (lookup (nat_eq m) es ≡ None → cut (map group_items es) m count ≡ map group_items es)
          → (if b then cut_one e.0 e.1.items (map group_items es) count else (e.0, e.1.items) ∷ cut (map group_items es) m count) ≡ (e.0, e.1.items) ∷ map group_items es
      step true t ih = cc
      step false t ih = ap (λ l. (e.0, e.1.items) ∷ l) (ih t)

  -- a module that is there goes
  pub removed : (es : List (ℕ × Vec A Global)) (m : ℕ) → map group_items (remove_entry (nat_eq m) es) ≡ cut (map group_items es) m None
  removed [] m = refl
  removed (e ∷ es) m = step (nat_eq m e.0) (removed es m)
    where
      step : (b : Bool) → map group_items (remove_entry (nat_eq m) es) ≡ cut (map group_items es) m None → map group_items (cond b es (e ∷ remove_entry (nat_eq m) es)) ≡ (if b then map group_items es else (e.0, e.1.items) ∷ cut (map group_items es) m None)
      step true ih = refl
      step false ih = ap (λ l. (e.0, e.1.items) ∷ l) ih
