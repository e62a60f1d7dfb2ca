-- Where nodes stand, and the lists beside them.
use Rattle.std.proofs.Common.{◌≡◌, ◌≢◌, Bool, true, false, not, cond, ◌||◌, nat_eq, nat_lt, position, eqb-true, eq-eqb, ℕ, ◌+◌, ◌<◌, ◌≤◌, ◌⊎◌, List, [], ◌∷◌, ◌++◌, length, get_or, set, map, Contains, Some, None, Result, Ok, Err, IfOk, OnErr, refl, sym, ap, ◌∙◌, subst, inl, inr, arith}
use Rattle.std.specs.List.{list_any}
use Rattle.std.proofs.lemmas.Bool.{cases_lt, false≢true}
use Rattle.std.proofs.lemmas.List.{get_or_past, get_or_push, get_or_append_left, get_or-set_same, get_or-set_other, length_push, map-set, get_or-map, set-get_or, map_push}
use Rattle.std.proofs.lemmas.List.Sums.{passes_at_first, prefix_len-le-length}
use Rattle.std.proofs.lemmas.List.Folds.{position_or_len_push, list_any_at}
use Rattle.std.proofs.lemmas.List.Elements.{Contains-append_left, Contains-push, Contains-push_cases}
use borrow.Author.Tests.{ltb-true, ltb-false}
use Rattle.bundle_order_graph.specs.Nodes.{added, place, beside}

pub place-le : (nodes : List ℕ) (n : ℕ) → place nodes n ≤ length nodes
place-le nodes n = prefix_len-le-length (λ x. not (nat_eq n x)) nodes

-- what stands at the place of a node is the node
pub place-read : (nodes : List ℕ) (n d : ℕ) → place nodes n < length nodes → get_or nodes (place nodes n) d ≡ n
place-read nodes n d h = sym (eqb-true n (get_or nodes (place nodes n) d) (passes_at_first (nat_eq n) nodes d h))

pub Contains-place : (nodes : List ℕ) (n : ℕ) → place nodes n < length nodes → Contains nodes n
Contains-place nodes n h = (place nodes n, h, place-read nodes n n h)

-- a node that the test finds has its place
pub place-in : (nodes : List ℕ) (n : ℕ) → list_any (nat_eq n) nodes ≡ true → place nodes n < length nodes
place-in [] n h = absurd (false≢true h)
place-in (x ∷ xs) n h = by (λ t. place-in xs n t) (nat_eq n x) refl
  where
    by : (list_any (nat_eq n) xs ≡ true → place xs n < length xs) → (b : Bool) → nat_eq n x ≡ b → place (x ∷ xs) n < length (x ∷ xs)
    by rest true e = rw e (omega arith)
    by rest false e = let r = rest (sym (ap (λ b. b || list_any (nat_eq n) xs) e) ∙ h) in rw e (omega (arith, r))

-- one that it does not find has none
pub place-out : (nodes : List ℕ) (n : ℕ) → list_any (nat_eq n) nodes ≡ false → place nodes n ≡ length nodes
place-out nodes n h = by (cases_lt (place nodes n) (length nodes))
  where
    by : (place nodes n < length nodes) ⊎ (length nodes ≤ place nodes n) → place nodes n ≡ length nodes
    by (inl l) = absurd (false≢true (sym h ∙ list_any_at (nat_eq n) nodes (place nodes n) 0 l (passes_at_first (nat_eq n) nodes 0 l)))
    by (inr g) = omega (arith, g, place-le nodes n)

-- a node of the list has its place
pub place-contains : (nodes : List ℕ) (n : ℕ) → Contains nodes n → place nodes n < length nodes
place-contains nodes n c = place-in nodes n (list_any_at (nat_eq n) nodes c.0 n c.1 (eq-eqb n (get_or nodes c.0 n) (sym c.2)))

-- two nodes with one place are one
pub same_place : (nodes : List ℕ) (n m : ℕ) → place nodes n < length nodes → place nodes n ≡ place nodes m → n ≡ m
same_place nodes n m h e = sym (place-read nodes n 0 h) ∙ (ap (λ i. get_or nodes i 0) e ∙ place-read nodes m 0 (subst (λ i. i < length nodes) e h))

-- a node keeps its place when another is added
pub place-push_in : (nodes : List ℕ) (n m : ℕ) → place nodes m < length nodes → place (nodes ++ n ∷ []) m ≡ place nodes m
place-push_in nodes n m h = position_or_len_push (nat_eq m) nodes n ∙ by (nat_eq (place nodes m) (length nodes)) refl
  where
    by : (b : Bool) → nat_eq (place nodes m) (length nodes) ≡ b → cond b (length nodes + cond (nat_eq m n) 0 1) (place nodes m) ≡ place nodes m
    by true e = absurd (omega (arith, h, eqb-true _ _ e))
    by false e = refl

-- a node that is not there stands past the others
pub place-push_out : (nodes : List ℕ) (n m : ℕ) → place nodes m ≡ length nodes → place (nodes ++ n ∷ []) m ≡ length nodes + cond (nat_eq m n) 0 1
place-push_out nodes n m h = position_or_len_push (nat_eq m) nodes n ∙ ap (λ b. cond b (length nodes + cond (nat_eq m n) 0 1) (place nodes m)) (eq-eqb (place nodes m) (length nodes) h)

module _ {X : Type 0} (nodes : List ℕ) (lists : List (List X)) (n : ℕ) (xs : List X) where
  -- the list of a node that is added
  pub beside-push_same : length lists ≡ length nodes → place nodes n ≡ length nodes → beside (nodes ++ n ∷ []) (lists ++ xs ∷ []) n ≡ xs
  beside-push_same len out = ap (λ i. get_or (lists ++ xs ∷ []) i []) (place-push_out nodes n n out ∙ at) ∙ get_or_push lists xs [] (length nodes) len
    where
      at : length nodes + cond (nat_eq n n) 0 1 ≡ length nodes
      at = rw (eq-eqb n n refl) (omega arith)

  -- those of the others
  pub beside-push_other : length lists ≡ length nodes → (m : ℕ) → m ≢ n → beside (nodes ++ n ∷ []) (lists ++ xs ∷ []) m ≡ beside nodes lists m
  beside-push_other len m ne = by (cases_lt (place nodes m) (length nodes))
    where
      differ : (b : Bool) → nat_eq m n ≡ b → length lists + 1 ≤ length nodes + cond b 0 1
      differ true e = absurd (ne (eqb-true m n e))
      differ false e = omega (arith, len)

      by : (place nodes m < length nodes) ⊎ (length nodes ≤ place nodes m) → beside (nodes ++ n ∷ []) (lists ++ xs ∷ []) m ≡ beside nodes lists m
      by (inl h) = ap (λ i. get_or (lists ++ xs ∷ []) i []) (place-push_in nodes n m h) ∙ get_or_append_left lists (xs ∷ []) [] (place nodes m) (omega (arith, h, len))
      by (inr g) =
          let out : place nodes m ≡ length nodes = omega (arith, g, place-le nodes m) in
          get_or_past (lists ++ xs ∷ []) (place (nodes ++ n ∷ []) m) [] (omega (arith, length_push lists xs, place-push_out nodes n m out, differ (nat_eq m n) refl)) ∙ sym (get_or_past lists (place nodes m) [] (omega (arith, out, len)))

  -- the list of one node is written
  pub beside-set_same : place nodes n < length lists → beside nodes (set lists (place nodes n) xs) n ≡ xs
  beside-set_same h = get_or-set_same lists (place nodes n) xs [] h

  pub beside-set_other : place nodes n < length nodes → (m : ℕ) → m ≢ n → beside nodes (set lists (place nodes n) xs) m ≡ beside nodes lists m
  beside-set_other h m ne = get_or-set_other lists (place nodes n) (place nodes m) xs [] (λ e. ne (sym (same_place nodes n m h (sym e))))

-- `added`, by cases
pub added-in : (nodes : List ℕ) (n : ℕ) → list_any (nat_eq n) nodes ≡ true → added nodes n ≡ nodes
added-in nodes n h = ap (λ b. cond b nodes (nodes ++ n ∷ [])) h

pub added-out : (nodes : List ℕ) (n : ℕ) → list_any (nat_eq n) nodes ≡ false → added nodes n ≡ nodes ++ n ∷ []
added-out nodes n h = ap (λ b. cond b nodes (nodes ++ n ∷ [])) h

-- a node that has its place is found
pub found : (nodes : List ℕ) (n : ℕ) → place nodes n < length nodes → list_any (nat_eq n) nodes ≡ true
found nodes n h = list_any_at (nat_eq n) nodes (place nodes n) 0 h (passes_at_first (nat_eq n) nodes 0 h)

pub missing : (nodes : List ℕ) (n : ℕ) → place nodes n ≡ length nodes → list_any (nat_eq n) nodes ≡ false
missing nodes n h = by (list_any (nat_eq n) nodes) refl
  where
    by : (b : Bool) → list_any (nat_eq n) nodes ≡ b → list_any (nat_eq n) nodes ≡ false
    by true e = absurd (omega (arith, h, place-in nodes n e))
    by false e = e

-- what `added` has
pub Contains-added_old : (xs : List ℕ) (n m : ℕ) → Contains xs m → Contains (added xs n) m
Contains-added_old xs n m c = by (list_any (nat_eq n) xs) refl
  where
    by : (b : Bool) → list_any (nat_eq n) xs ≡ b → Contains (added xs n) m
    by true e = subst (λ l. Contains l m) (sym (added-in xs n e)) c
    by false e = subst (λ l. Contains l m) (sym (added-out xs n e)) (Contains-append_left xs (n ∷ []) m c)

pub Contains-added_new : (xs : List ℕ) (n : ℕ) → Contains (added xs n) n
Contains-added_new xs n = by (list_any (nat_eq n) xs) refl
  where
    by : (b : Bool) → list_any (nat_eq n) xs ≡ b → Contains (added xs n) n
    by true e = subst (λ l. Contains l n) (sym (added-in xs n e)) (Contains-place xs n (place-in xs n e))
    by false e = subst (λ l. Contains l n) (sym (added-out xs n e)) (Contains-push xs n)

pub Contains-added_cases : (xs : List ℕ) (n m : ℕ) → Contains (added xs n) m → Contains xs m ⊎ (n ≡ m)
Contains-added_cases xs n m c = by (list_any (nat_eq n) xs) refl
  where
    by : (b : Bool) → list_any (nat_eq n) xs ≡ b → Contains xs m ⊎ (n ≡ m)
    by true e = inl (subst (λ l. Contains l m) (added-in xs n e) c)
    by false e = Contains-push_cases xs n m (subst (λ l. Contains l m) (added-out xs n e) c)

-- what a look-up tells of a place
pub position-Some_place : (nodes : List ℕ) (n i : ℕ) → position (nat_eq n) nodes ≡ Some i → (place nodes n ≡ i) × (place nodes n < length nodes)
position-Some_place nodes n i e = by (nat_lt (place nodes n) (length nodes)) refl
  where
    by : (b : Bool) → nat_lt (place nodes n) (length nodes) ≡ b → (place nodes n ≡ i) × (place nodes n < length nodes)
    by true t = (cc (sym (ap (λ b. cond b (Some (place nodes n)) None) t) ∙ e), ltb-true (place nodes n) (length nodes) t)
    by false t = cc (sym (ap (λ b. cond b (Some (place nodes n)) None) t) ∙ e)

pub position-None_place : (nodes : List ℕ) (n : ℕ) → position (nat_eq n) nodes ≡ None → place nodes n ≡ length nodes
position-None_place nodes n e = by (nat_lt (place nodes n) (length nodes)) refl
  where
    by : (b : Bool) → nat_lt (place nodes n) (length nodes) ≡ b → place nodes n ≡ length nodes
    by true t = cc (sym (ap (λ b. cond b (Some (place nodes n)) None) t) ∙ e)
    by false t = omega (arith, place-le nodes n, ltb-false (place nodes n) (length nodes) t)

-- collections in a vector, seen as the lists of what they contain
module _ {D X : Type 0} (f : D → List X) where
  pub seen-set : (ds items : List D) (i : ℕ) (new : D) → items ≡ ds → map f (set items i new) ≡ set (map f ds) i (f new)
  seen-set ds items i new same = map-set f items i new ∙ ap (λ l. set (map f l) i (f new)) same

  pub seen-read : (ds items : List D) (i : ℕ) (d : D) → items ≡ ds → i < length ds → d ≡ get_or items i d → f d ≡ get_or (map f ds) i []
  seen-read ds items i d same within read = ap f (read ∙ ap (λ l. get_or l i d) same) ∙ sym (get_or-map f ds i d [] within)

  pub seen-unchanged : (ds items : List D) (i : ℕ) (d new : D) → items ≡ ds → i < length ds → d ≡ get_or items i d → f new ≡ f d → map f (set items i new) ≡ map f ds
  seen-unchanged ds items i d new same within read e = seen-set ds items i new same ∙ (ap (λ x. set (map f ds) i x) (e ∙ seen-read ds items i d same within read) ∙ set-get_or (map f ds) i [])

  pub seen-push : (ds items now : List D) (d : D) (xs : List X) → now ≡ items ++ d ∷ [] → items ≡ ds → f d ≡ xs → map f now ≡ map f ds ++ xs ∷ []
  seen-push ds items now d xs new same e = ap (map f) new ∙ (map_push f items d ∙ (ap (λ l. map f l ++ f d ∷ []) same ∙ ap (λ x. map f ds ++ x ∷ []) e))

-- the keys of a set after an insert that succeeded
pub keys_added : {B E : Type 0} (r : Result B E) (x : B) (old now new : List ℕ) (n : ℕ) → r ≡ Ok x → IfOk r (λ _. new ≡ added now n) → now ≡ old → new ≡ added old n
keys_added r x old now new n ok h same = subst (λ q. IfOk q (λ _. new ≡ added now n)) ok h ∙ ap (λ l. added l n) same

pub keys_pushed : {B E : Type 0} (r : Result B E) (x : B) (old now new : List ℕ) (n : ℕ) → r ≡ Ok x → IfOk r (λ _. new ≡ added now n) → now ≡ old → list_any (nat_eq n) old ≡ false → new ≡ old ++ n ∷ []
keys_pushed r x old now new n ok h same absent = keys_added r x old now new n ok h same ∙ added-out old n absent

-- what holds anyway holds after an error
pub on_err : {T E : Type 0} (r : Result T E) (P : Type 0) → P → OnErr r P
on_err (Ok x) P p = tt
on_err (Err e) P p = p

-- what follows from a fact about the value follows after an `Ok`
pub if_ok : {T E : Type 0} (r : Result T E) (P Q : T → Type 0) → ((x : T) → P x → Q x) → IfOk r P → IfOk r Q
if_ok (Ok x) P Q f h = f x h
if_ok (Err e) P Q f h = tt
