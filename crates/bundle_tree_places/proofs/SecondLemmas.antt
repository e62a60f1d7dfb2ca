-- The second field of a node, from its beginning on.
use Rattle.std.proofs.Common.{◌≡◌, ℕ, zero, suc, ◌+◌, ◌<◌, ◌≤◌, Bool, true, false, cond, Option, Some, None, List, [], ◌∷◌, ◌++◌, length, get_or, set, drop, slice_get, reverse, refl, sym, ap, ◌∙◌, subst, inl, inr, eqb, arith}
use Rattle.std.specs.List.{filter}
use Rattle.std.specs.Option.{option_to_list}
use Rattle.std.proofs.lemmas.Bool.{cases_eq}
use Rattle.std.proofs.lemmas.Option.{none-some, same_Some}
use Rattle.std.proofs.lemmas.List.{get_or-set_same, get_or-set_other, nil_from_length, reverse-append}
use Rattle.bundle_syntax.specs.Item as h
use Rattle.bundle_syntax.specs.Item.{Item, Head}
use Rattle.bundle_rules.specs.Nodes.{Text, put_first, side_by_side, begins_in, in_field, first_or_nothing, child, begins_with, node_at}
use Rattle.bundle_rules.specs.Reads.{is_member, plain_word, property_of}
use Rattle.bundle_tree_places.specs.Seconds.{AreTops, second_from, second_of, word_of, word_at, is_member_item}

-- ---- a stack
pub reverse_push : (stack : List (Option ℕ)) (x : Option ℕ) → reverse (stack ++ x ∷ []) ≡ x ∷ reverse stack
reverse_push stack x = reverse-append stack (x ∷ [])

pub popped : (old new : List (Option ℕ)) (r : Option (Option ℕ)) → old ≡ new ++ option_to_list r → (r ≡ None → length new ≡ 0) → (depth : ℕ) → get_or (reverse new) depth None ≡ get_or (reverse old) (suc depth) None
popped old new None e n depth =
    let empty : new ≡ [] = nil_from_length new (n refl) in
    ap (λ (l : List (Option ℕ)). get_or (reverse l) depth None) empty ∙ sym (ap (λ (l : List (Option ℕ)). get_or (reverse l) (suc depth) None) (e ∙ ap (λ (l : List (Option ℕ)). l ++ []) empty))
popped old new (Some x) e n depth = sym (ap (λ (l : List (Option ℕ)). get_or l (suc depth) None) (ap (λ (l : List (Option ℕ)). reverse l) e ∙ reverse_push new x))

-- ---- the nodes side by side
-- without the first of them
abbrev pub behind_first : List (List Item) → List (List Item)
behind_first [] = []
behind_first (node ∷ more) = more

first_put : (x : Item) (nodes : List (List Item)) → first_or_nothing (put_first x nodes) ≡ x ∷ first_or_nothing nodes
first_put x [] = refl
first_put x (node ∷ more) = refl

behind_put : (x : Item) (nodes : List (List Item)) → behind_first (put_first x nodes) ≡ behind_first nodes
behind_put x [] = refl
behind_put x (node ∷ more) = refl

put_is : (x : Item) (nodes : List (List Item)) → put_first x nodes ≡ (x ∷ first_or_nothing nodes) ∷ behind_first nodes
put_is x [] = refl
put_is x (node ∷ more) = refl

-- what lies in a node lies in it without what follows its end
inside_node : (depth : ℕ) (rest : List Item) → side_by_side depth (first_or_nothing (side_by_side (suc depth) rest)) ≡ side_by_side depth rest
inside_node depth [] = refl
inside_node depth (h.Open field head ∷ rest) = ap (λ (l : List Item). side_by_side depth l) (first_put (h.Open field head) (side_by_side (suc (suc depth)) rest)) ∙ ap (λ (l : List (List Item)). put_first (h.Open field head) l) (inside_node (suc depth) rest)
inside_node zero (h.Ident field symbol ctxt role ∷ rest) = ap (λ (l : List Item). side_by_side zero l) (first_put (h.Ident field symbol ctxt role) (side_by_side (suc zero) rest)) ∙ ap (λ (l : List (List Item)). (h.Ident field symbol ctxt role ∷ []) ∷ l) (inside_node zero rest)
inside_node (suc depth) (h.Ident field symbol ctxt role ∷ rest) = ap (λ (l : List Item). side_by_side (suc depth) l) (first_put (h.Ident field symbol ctxt role) (side_by_side (suc (suc depth)) rest)) ∙ ap (λ (l : List (List Item)). put_first (h.Ident field symbol ctxt role) l) (inside_node (suc depth) rest)
inside_node zero (h.Hole field ∷ rest) = ap (λ (l : List Item). side_by_side zero l) (first_put (h.Hole field) (side_by_side (suc zero) rest)) ∙ ap (λ (l : List (List Item)). (h.Hole field ∷ []) ∷ l) (inside_node zero rest)
inside_node (suc depth) (h.Hole field ∷ rest) = ap (λ (l : List Item). side_by_side (suc depth) l) (first_put (h.Hole field) (side_by_side (suc (suc depth)) rest)) ∙ ap (λ (l : List (List Item)). put_first (h.Hole field) l) (inside_node (suc depth) rest)
inside_node zero (h.Close ∷ rest) = refl
inside_node (suc zero) (h.Close ∷ rest) = ap (λ (l : List Item). side_by_side (suc zero) l) (first_put h.Close (side_by_side (suc zero) rest)) ∙ ap (λ (l : List (List Item)). (h.Close ∷ []) ∷ l) (inside_node zero rest)
inside_node (suc (suc depth)) (h.Close ∷ rest) = ap (λ (l : List Item). side_by_side (suc (suc depth)) l) (first_put h.Close (side_by_side (suc (suc depth)) rest)) ∙ ap (λ (l : List (List Item)). put_first h.Close l) (inside_node (suc depth) rest)

-- ---- what stands first in the second field
-- the nodes that lie in a node, of what follows where so many are still open in it
abbrev pub nodes_from : ℕ → List Item → List (List Item)
nodes_from zero rest = side_by_side zero rest
nodes_from (suc depth) rest = behind_first (side_by_side (suc depth) rest)

module _ (items : List Item) where
  -- the first of these nodes begins at a place, where there is one
  abbrev pub FirstIs : Option ℕ → List (List Item) → Type 0
  FirstIs None nodes = nodes ≡ []
  FirstIs (Some q) nodes = (x : Item) × (node : List Item) × (more : List (List Item)) × (slice_get items q ≡ Some x) × (nodes ≡ (x ∷ node) ∷ more)

  taken : (field p : ℕ) (x : Item) (node : List Item) (more : List (List Item)) (o : Option ℕ) → slice_get items p ≡ Some x → (b : Bool) → eqb field 1 ≡ b → FirstIs o (filter (begins_in 1) more) → FirstIs (cond b (Some p) o) (cond b ((x ∷ node) ∷ filter (begins_in 1) more) (filter (begins_in 1) more))
  taken field p x node more o at true e f = (x, node, filter (begins_in 1) more, at, refl)
  taken field p x node more o at false e f = f

  pub second_is : (depth p : ℕ) (rest : List Item) → ((k : ℕ) → slice_get rest k ≡ slice_get items (p + k)) → FirstIs (second_from depth p rest) (filter (begins_in 1) (nodes_from depth rest))
  second_is zero p [] at = refl
  second_is (suc depth) p [] at = refl
  second_is zero p (h.Open field head ∷ rest) at =
      subst (λ (l : List (List Item)). FirstIs (cond (eqb field 1) (Some p) (second_from (suc zero) (p + 1) rest)) (filter (begins_in 1) l)) (sym (put_is (h.Open field head) (side_by_side (suc zero) rest))) (
      taken field p (h.Open field head) (first_or_nothing (side_by_side (suc zero) rest)) (behind_first (side_by_side (suc zero) rest)) (second_from (suc zero) (p + 1) rest) (ap (λ k. slice_get items k) (let same : p ≡ p + 0 = omega arith in same) ∙ sym (at zero)) (eqb field 1) refl (second_is (suc zero) (p + 1) rest (λ k. at (suc k) ∙ ap (λ n. slice_get items n) (let same : p + suc k ≡ p + 1 + k = omega arith in same))))
  second_is zero p (h.Ident field symbol ctxt role ∷ rest) at =
      taken field p (h.Ident field symbol ctxt role) [] (side_by_side zero rest) (second_from zero (p + 1) rest) (ap (λ k. slice_get items k) (let same : p ≡ p + 0 = omega arith in same) ∙ sym (at zero)) (eqb field 1) refl (second_is zero (p + 1) rest (λ k. at (suc k) ∙ ap (λ n. slice_get items n) (let same : p + suc k ≡ p + 1 + k = omega arith in same)))
  second_is zero p (h.Hole field ∷ rest) at =
      taken field p (h.Hole field) [] (side_by_side zero rest) (second_from zero (p + 1) rest) (ap (λ k. slice_get items k) (let same : p ≡ p + 0 = omega arith in same) ∙ sym (at zero)) (eqb field 1) refl (second_is zero (p + 1) rest (λ k. at (suc k) ∙ ap (λ n. slice_get items n) (let same : p + suc k ≡ p + 1 + k = omega arith in same)))
  second_is zero p (h.Close ∷ rest) at = refl
  second_is (suc depth) p (h.Open field head ∷ rest) at = subst (λ (l : List (List Item)). FirstIs (second_from (suc (suc depth)) (p + 1) rest) (filter (begins_in 1) l)) (sym (behind_put (h.Open field head) (side_by_side (suc (suc depth)) rest))) (second_is (suc (suc depth)) (p + 1) rest (λ k. at (suc k) ∙ ap (λ n. slice_get items n) (let same : p + suc k ≡ p + 1 + k = omega arith in same)))
  second_is (suc depth) p (h.Ident field symbol ctxt role ∷ rest) at = subst (λ (l : List (List Item)). FirstIs (second_from (suc depth) (p + 1) rest) (filter (begins_in 1) l)) (sym (behind_put (h.Ident field symbol ctxt role) (side_by_side (suc depth) rest))) (second_is (suc depth) (p + 1) rest (λ k. at (suc k) ∙ ap (λ n. slice_get items n) (let same : p + suc k ≡ p + 1 + k = omega arith in same)))
  second_is (suc depth) p (h.Hole field ∷ rest) at = subst (λ (l : List (List Item)). FirstIs (second_from (suc depth) (p + 1) rest) (filter (begins_in 1) l)) (sym (behind_put (h.Hole field) (side_by_side (suc depth) rest))) (second_is (suc depth) (p + 1) rest (λ k. at (suc k) ∙ ap (λ n. slice_get items n) (let same : p + suc k ≡ p + 1 + k = omega arith in same)))
  second_is (suc zero) p (h.Close ∷ rest) at = second_is zero (p + 1) rest (λ k. at (suc k) ∙ ap (λ n. slice_get items n) (let same : p + suc k ≡ p + 1 + k = omega arith in same))
  second_is (suc (suc depth)) p (h.Close ∷ rest) at = subst (λ (l : List (List Item)). FirstIs (second_from (suc depth) (p + 1) rest) (filter (begins_in 1) l)) (sym (behind_put h.Close (side_by_side (suc depth) rest))) (second_is (suc depth) (p + 1) rest (λ k. at (suc k) ∙ ap (λ n. slice_get items n) (let same : p + suc k ≡ p + 1 + k = omega arith in same)))

  -- ---- what is read of a node
  drop_at : (p : ℕ) (rest : List Item) → drop p items ≡ rest → (k : ℕ) → slice_get rest k ≡ slice_get items (p + k)
  drop_at p rest e k = ap (λ (l : List Item). slice_get l k) (sym e) ∙ by p items
    where
      by : (n : ℕ) (xs : List Item) → slice_get (drop n xs) k ≡ slice_get xs (n + k)
      by zero xs = ap (λ m. slice_get xs m) (let same : k ≡ 0 + k = omega arith in same)
      by (suc n) [] = refl
      by (suc n) (x ∷ xs) = by n xs ∙ ap (λ m. slice_get (x ∷ xs) m) (let same : suc (n + k) ≡ suc n + k = omega arith in same)

  drop_next : (p : ℕ) (xs : List Item) (x : Item) → slice_get xs p ≡ Some x → drop p xs ≡ x ∷ drop (p + 1) xs
  drop_next p [] x e = absurd (none-some x e)
  drop_next zero (y ∷ xs) x e = ap (λ (z : Item). z ∷ xs) (same_Some y x e)
  drop_next (suc p) (y ∷ xs) x e = drop_next p xs x e ∙ ap (λ n. x ∷ drop n (y ∷ xs)) (let same : suc (p + 1) ≡ suc p + 1 = omega arith in same)

  -- the parts of a node in its second field
  pub second_field : (p field : ℕ) (head : Head) → slice_get items p ≡ Some (h.Open field head) → FirstIs (second_of items p) (in_field 1 (node_at items p))
  second_field p field head at = subst (λ (l : List Item). FirstIs (second_of items p) (in_field 1 (first_or_nothing (side_by_side zero l)))) (sym (drop_next p items (h.Open field head) at))
      (subst (λ (l : List Item). FirstIs (second_of items p) (in_field 1 l)) (sym (first_put (h.Open field head) (side_by_side (suc zero) (drop (p + 1) items))))
      (subst (λ (l : List (List Item)). FirstIs (second_of items p) (filter (begins_in 1) l)) (sym (inside_node zero (drop (p + 1) items)))
      (second_is zero (p + 1) (drop (p + 1) items) (drop_at (p + 1) (drop (p + 1) items) refl))))

  word-first : (x : Item) (node : List Item) → plain_word (x ∷ node) ≡ plain_word (x ∷ [])
  word-first (h.Open field head) node = refl
  word-first (h.Ident field symbol ctxt role) node = refl
  word-first (h.Hole field) node = refl
  word-first h.Close node = refl

  word-is : (o : Option ℕ) (nodes : List (List Item)) → FirstIs o nodes → plain_word (first_or_nothing nodes) ≡ word_at items o
  word-is None nodes e = ap (λ (l : List (List Item)). plain_word (first_or_nothing l)) e
  word-is (Some q) nodes (x, node, more, at, e) = ap (λ (l : List (List Item)). plain_word (first_or_nothing l)) e ∙ (word-first x node ∙ ap word_of (sym at))

  -- the word of the member that a node reads, by its first element
  abbrev pub property_by : Option Item → ℕ → Option Text
  property_by None p = None
  property_by (Some x) p = cond (is_member_item x) (word_at items (second_of items p)) None

  first_none : (p : ℕ) → slice_get items p ≡ None → property_of (node_at items p) ≡ None
  first_none p e = ap (λ (l : List Item). property_of (first_or_nothing (side_by_side zero l))) (past p items e)
    where
      past : (n : ℕ) (xs : List Item) → slice_get xs n ≡ None → drop n xs ≡ []
      past zero [] f = refl
      past zero (x ∷ xs) f = absurd (none-some x (sym f))
      past (suc n) [] f = refl
      past (suc n) (x ∷ xs) f = past n xs f

  pub property_is : (p : ℕ) (o : Option Item) → slice_get items p ≡ o → property_of (node_at items p) ≡ property_by o p
  property_is p None e = first_none p e
  property_is p (Some (h.Open field head)) e =
      begins head
    where
      node : node_at items p ≡ h.Open field head ∷ first_or_nothing (side_by_side (suc zero) (drop (p + 1) items))
      node = ap (λ (l : List Item). first_or_nothing (side_by_side zero l)) (drop_next p items (h.Open field head) e) ∙ first_put (h.Open field head) (side_by_side (suc zero) (drop (p + 1) items))

      word : plain_word (child 1 (node_at items p)) ≡ word_at items (second_of items p)
      word = word-is (second_of items p) (in_field 1 (node_at items p)) (second_field p field head e)

      begins : (its : Head) → property_of (node_at items p) ≡ cond (is_member head) (word_at items (second_of items p)) None
      begins its = ap (λ b. cond b (plain_word (child 1 (node_at items p))) None) (ap (λ (l : List Item). begins_with is_member l) node) ∙ ap (λ (t : Option Text). cond (is_member head) t None) word
  property_is p (Some (h.Ident field symbol ctxt role)) e = ap (λ (l : List Item). property_of (first_or_nothing (side_by_side zero l))) (drop_next p items (h.Ident field symbol ctxt role) e)
  property_is p (Some (h.Hole field)) e = ap (λ (l : List Item). property_of (first_or_nothing (side_by_side zero l))) (drop_next p items (h.Hole field) e)
  property_is p (Some h.Close) e = ap (λ (l : List Item). property_of (first_or_nothing (side_by_side zero l))) (drop_next p items h.Close e)

-- ---- one place back
pub second_end : (depth p : ℕ) → second_from depth p [] ≡ None
second_end zero p = refl
second_end (suc depth) p = refl

module _ (items : List Item) (n q : ℕ) (next : q + 1 ≡ n) (x : Item) (at : slice_get items q ≡ Some x) (seconds : List (Option ℕ)) (len : length seconds ≡ length items) (old new : List (Option ℕ)) (second : Option ℕ) (tops : AreTops old (λ depth. second_from depth n (drop n items))) (each : (p : ℕ) → n ≤ p → p < length items → get_or seconds p None ≡ second_of items p) (step_tops : (rest : List Item) → AreTops old (λ depth. second_from depth (q + 1) rest) → AreTops new (λ depth. second_from depth q (x ∷ rest))) (step_top : (rest : List Item) → AreTops old (λ depth. second_from depth (q + 1) rest) → second ≡ second_from zero (q + 1) rest) where
  at_next : AreTops old (λ depth. second_from depth (q + 1) (drop (q + 1) items))
  at_next = subst (λ k. AreTops old (λ depth. second_from depth k (drop k items))) (sym next) tops

  pub back_tops : AreTops new (λ depth. second_from depth q (drop q items))
  back_tops depth = step_tops (drop (q + 1) items) at_next depth ∙ ap (λ (l : List Item). second_from depth q l) (sym (drop_next items q items x at))

  pub back_each : (p : ℕ) → q ≤ p → p < length items → get_or (set seconds q second) p None ≡ second_of items p
  back_each p low l = elim (cases_eq p q) [
    | inl e ↦ ap (λ k. get_or (set seconds q second) k None) e ∙ (get_or-set_same seconds q second None (omega (arith, e, l, len)) ∙ (step_top (drop (q + 1) items) at_next ∙ ap (λ k. second_of items k) (sym e)))
    | inr ne ↦ get_or-set_other seconds q p second None ne ∙ each p (omega (arith, low, next, ne)) l
  ]
