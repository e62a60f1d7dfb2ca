-- A name in the whole nodes of a module lies in one top item, and sees that item's head.
-- Reads of members: a name in a member whose property is a word stands in what the member reads of.
-- Lists of numbers in which each stands once, and places in them.
use Rattle.std.proofs.Common.{◌≡◌, ◌⊎◌, inl, inr, ℕ, zero, suc, ◌+◌, ◌<◌, ◌≤◌, true, not, List, [], ◌∷◌, ◌++◌, append_assoc, length-append, length, drop, refl, sym, ap, ◌∙◌, subst, arith, ◌==◌, Bool, false, Option, Some, None, cond, eqb-true, if◌then◌else◌, ◌||◌, nat_eq, ltb, eq-eqb}
use Rattle.std.specs.Prelude.{Contains, filter, position, slice_get}
use Rattle.std.proofs.lemmas.Option.{none-some, same_Some, slice_get-get_or}
use Rattle.std.proofs.lemmas.Bool.{false≢true, ltb-false}
use Rattle.std.specs.List.{list_any, position_or_len}
use Rattle.std.proofs.lemmas.List.Sums.{fails_before_first}
use Rattle.std.proofs.lemmas.List.Quantifiers.{position-Some}
use Rattle.bundle_syntax.specs.Item as item
use Rattle.bundle_syntax.specs.Item.{Item, Head}
use Rattle.bundle_order_graph.specs.Nodes.{added}
use Rattle.bundle_rules.specs.Places.{Around, Spot, in_field, past}
use Rattle.bundle_rules.specs.Nodes.{side_by_side, Text, first_or_nothing, field_of, is_some_number, begins_in, child, begins_with, node_at, numbers_once}
use Rattle.bundle_rules.specs.Statements.{TopItem, placed}
use Rattle.bundle_rules.specs.Reads.{is_member, head_plain_word, plain_word, property_of, read_word}
use Rattle.bundle_tree_places.specs.Stated.{states_nothing, is_in_statement}
use Rattle.bundle_link_index.proofs.ProgramLemmas.{later as later-there}
use Rattle.bundle_link_index.proofs.AskedLemmas.{only_one as only-one}
use Rattle.bundle_link_index.specs.Numbered.{HasNoDoubles}
pub use Rattle.bundle_link_index.proofs.ProgramLemmas.{got}
use Rattle.bundle_link_targets.proofs.ListLemmas.{first-there, around, if-some}
use Rattle.bundle_link.proofs.NodePaths.{seen, seen-front, seen-behind, spot-in, spot-behind, path-behind, place-behind, NameAt, here, past_name, past_hole, within, behind, name-within, Was, one-more, behind-node, around-name}
use Rattle.bundle_link.proofs.StatedElements.{node-first, sides-end, is_stating, IsPart, one_name, one_node}
use Rattle.bundle_link.specs.Nested.{AreNodes, HasParts, AreTwoNodes}

-- ---- the nodes that are open lie in a top item with this head
pub data Deep (head : Head) : List Around → Type 0 where
  top : (t whole : Around) → t.head ≡ head → Deep head (t ∷ whole ∷ [])
  more : (n : Around) {path : List Around} → Deep head path → Deep head (n ∷ path)

deep-two : {head : Head} {path : List Around} → Deep head path → (x : Around) × (y : Around) × (rest : List Around) × (path ≡ x ∷ y ∷ rest)
deep-two (top t whole e) = (t, whole, [], refl)
deep-two (more n d) = let r = deep-two d in (n, r.0, r.1 ∷ r.2, ap (λ l. n ∷ l) r.3)

deep-stated : {head : Head} {path : List Around} → Deep head path → is_in_statement path ≡ not (states_nothing head)
deep-stated (top t whole e) = ap (λ k. not (states_nothing k)) e
deep-stated (more n d) = let r = deep-two d in ap (λ l. is_in_statement (n ∷ l)) r.3 ∙ sym (ap is_in_statement r.3) ∙ deep-stated d

deep-field : (f : ℕ) {head : Head} {path : List Around} → Deep head path → Deep head (in_field f path)
deep-field f (top t whole e) = top (record t { field = f }) whole e
deep-field f (more n d) = more (record n { field = f }) d

deep-name : {xs : List Item} {k : ℕ} → NameAt xs k → (s : Spot) (head : Head) → Deep head s.path → Deep head (seen s xs k)
deep-name (here {field = f}) s head d = deep-field f d
deep-name (past_name {field = f} {ctxt = t} {sym = y} {role = r} at) s head d = deep-name at (past s (item.Ident f y t r)) head d
deep-name (past_hole {field = f} at) s head d = deep-name at (past s (item.Hole f)) head d
deep-name (within {field = f} {head = hd} {inside = ins} rest {k = k} are parts at) s head d = subst (Deep head) (sym (seen-front (spot-in s f hd) ins (item.Close ∷ rest) k (name-within at))) (deep-name at (spot-in s f hd) head (more (around hd s.place 0) (deep-field f d)))
deep-name (behind {field = f} {head = hd} {inside = ins} {rest = rest} {j = j} {k = k} are ej at) s head d = subst (Deep head) (sym (seen-behind (spot-in s f hd) ins (item.Close ∷ rest) j (suc k) ej)) (deep-name at (spot-behind s f hd ins) head (subst (Deep head) (sym (path-behind are s f hd)) (deep-field f d)))

-- ---- a node that begins there is among these
abbrev pub Begun : List Around → ℕ → Type 0
Begun path b = (n : Around) × Contains path n × (n.begins ≡ b)

begun-field : (f : ℕ) (path : List Around) (b : ℕ) → Begun path b → Begun (in_field f path) b
begun-field f [] b begun = begun
begun-field f (t ∷ outer) b (n, (zero, l, e), eb) = (record t { field = f }, first-there (record t { field = f }) outer, ap (λ (x : Around). x.begins) e ∙ eb)
begun-field f (t ∷ outer) b (n, (suc i, l, e), eb) = (n, (suc i, l, e), eb)

begun-more : (t : Around) (path : List Around) (b : ℕ) → Begun path b → Begun (t ∷ path) b
begun-more t path b (n, there, eb) = (n, later-there t path n there, eb)

pub begun-name : {xs : List Item} {k : ℕ} → NameAt xs k → (s : Spot) (b : ℕ) → Begun s.path b → Begun (seen s xs k) b
begun-name (here {field = f}) s b begun = begun-field f s.path b begun
begun-name (past_name {field = f} {ctxt = t} {sym = y} {role = r} at) s b begun = begun-name at (past s (item.Ident f y t r)) b begun
begun-name (past_hole {field = f} at) s b begun = begun-name at (past s (item.Hole f)) b begun
begun-name (within {field = f} {head = hd} {inside = ins} rest {k = k} are parts at) s b begun = subst (λ l. Begun l b) (sym (seen-front (spot-in s f hd) ins (item.Close ∷ rest) k (name-within at))) (begun-name at (spot-in s f hd) b (begun-more (around hd s.place 0) (in_field f s.path) b (begun-field f s.path b begun)))
begun-name (behind {field = f} {head = hd} {inside = ins} {rest = rest} {j = j} {k = k} are ej at) s b begun = subst (λ l. Begun l b) (sym (seen-behind (spot-in s f hd) ins (item.Close ∷ rest) j (suc k) ej)) (begun-name at (spot-behind s f hd ins) b (subst (λ l. Begun l b) (sym (path-behind are s f hd)) (begun-field f s.path b begun)))

-- ---- the top item of a name
-- one node is open, which begins there
pub record IsRoot (z : ℕ) (path : List Around) : Type 0 where
  pub whole : Around
  pub only : path ≡ whole ∷ []
  pub begins : whole.begins ≡ z

root-field : (f z : ℕ) (path : List Around) → IsRoot z path → IsRoot z (in_field f path)
root-field f z path root = record { whole = record root.whole { field = f }; only = ap (in_field f) root.only; begins = root.begins }

root-stated : (z : ℕ) (path : List Around) → IsRoot z path → is_in_statement path ≡ true
root-stated z path root = ap is_in_statement root.only

root-was : (z : ℕ) (path : List Around) (n : Around) → IsRoot z path → Was path n → n.begins ≡ z
root-was z path n root (m, there, eh, eb) = sym eb ∙ sym (ap (λ (x : Around). x.begins) (only-one root.whole m (subst (λ l. Contains l m) root.only there))) ∙ root.begins

module _ (tree : List Item) (z : ℕ) where
  pub record TopOf (b : ℕ) (items : List Item) (place : ℕ) (path : List Around) : Type 0 where
    pub top : TopItem
    pub there : Contains (placed b (side_by_side zero items)) top
    pub above : top.start ≤ place
    pub below : place < top.start + length top.items
    pub states : is_in_statement path ≡ is_stating top.items
    pub opened : (n : Around) → Contains path n → (n.begins ≡ z) ⊎ ((top.start ≤ n.begins) × (n.begins ≤ place))
    pub rest : List Item
    pub at : drop top.start tree ≡ top.items ++ rest
    pub shape : IsPart top.items

  later-top : (b c : ℕ) (first items others : List Item) (place there_place : ℕ) (path there_path : List Around) → side_by_side zero items ≡ first ∷ side_by_side zero others → c ≡ b + length first → there_place ≡ place → path ≡ there_path → TopOf c others there_place there_path → TopOf b items place path
  later-top b c first items others place there_place path there_path es ec ep el t = record {
    top = t.top;
    there = subst (λ l. Contains (placed b l) t.top) (sym es) (later-there _ (placed (b + length first) (side_by_side zero others)) t.top (subst (λ n. Contains (placed n (side_by_side zero others)) t.top) ec t.there));
    above = let l = t.above in omega (arith, l, ep);
    below = let l = t.below in omega (arith, l, ep);
    states = ap is_in_statement el ∙ t.states;
    opened = λ n c. elim (t.opened n (subst (λ l. Contains l n) el c)) [ inl e ↦ inl e | inr both ↦ inr (both.0, omega (arith, both.1, ep)) ];
    rest = t.rest;
    at = t.at;
    shape = t.shape;
  }

  pub top-of : {xs : List Item} {k : ℕ} → NameAt xs k → (s : Spot) (ys : List Item) → drop s.place tree ≡ xs ++ ys → IsRoot z s.path → TopOf s.place (xs ++ ys) (s.place + k) (seen s xs k)
  top-of (here {field = f} {ctxt = t} {sym = y} {role = r} {rest = rest}) s ys e root =
      let x : Item = item.Ident f y t r in
      let inner : IsRoot z (in_field f s.path) = root-field f z s.path root in
      record {
        top = record { start = s.place; items = x ∷ [] };
        there = first-there _ _;
        above = omega arith;
        below = omega arith;
        states = root-stated z (in_field f s.path) inner;
        opened = λ n c. inl (root-was z (in_field f s.path) n inner (n, c, refl, refl));
        rest = rest ++ ys;
        at = e;
        shape = one_name;
      }
  top-of (past_name {field = f} {ctxt = t} {sym = y} {role = r} {rest = rest} {k = k} at) s ys e root =
      let x : Item = item.Ident f y t r in
      later-top s.place (s.place + 1) (x ∷ []) (x ∷ (rest ++ ys)) (rest ++ ys) (s.place + suc k) (s.place + 1 + k) (seen s (x ∷ rest) (suc k)) (seen s (x ∷ rest) (suc k)) refl (omega arith) (omega arith) refl (top-of at (past s x) ys (one-more tree s x (rest ++ ys) e) root)
  top-of (past_hole {field = f} {rest = rest} {k = k} at) s ys e root =
      let x : Item = item.Hole f in
      later-top s.place (s.place + 1) (x ∷ []) (x ∷ (rest ++ ys)) (rest ++ ys) (s.place + suc k) (s.place + 1 + k) (seen s (x ∷ rest) (suc k)) (seen s (x ∷ rest) (suc k)) refl (omega arith) (omega arith) refl (top-of at (past s x) ys (one-more tree s x (rest ++ ys) e) root)
  top-of (within {field = f} {head = hd} {inside = ins} rest {k = k} are parts at) s ys e root =
      record {
        top = record { start = s.place; items = items };
        there = subst (λ l. Contains (placed s.place l) (record { start = s.place; items = items })) (sym sides) (first-there _ _);
        above = omega arith;
        below = let l = name-within at in let n = length-append ins (item.Close ∷ []) in omega (arith, l, n);
        states = deep-stated (subst (Deep hd) (sym (seen-front (spot-in s f hd) ins (item.Close ∷ rest) k (name-within at))) (deep-name at (spot-in s f hd) hd deep));
        opened = λ n c. elim (around-name tree (within rest are parts at) s ys e n c) [
          | inl was ↦ inl (root-was z s.path n root was)
          | inr held ↦ inr (held.0, (let far = held.1.far in omega (arith, far)))
        ];
        rest = rest ++ ys;
        at = e ∙ ap (λ l. item.Open f hd ∷ l) (append_assoc ins (item.Close ∷ rest) ys ∙ sym (append_assoc ins (item.Close ∷ []) (rest ++ ys)));
        shape = one_node f hd ins;
      }
    where
      items : List Item
      items = item.Open f hd ∷ (ins ++ item.Close ∷ [])

      sides : side_by_side zero (item.Open f hd ∷ ((ins ++ item.Close ∷ rest) ++ ys)) ≡ (item.Open f hd ∷ (ins ++ item.Close ∷ [])) ∷ side_by_side zero (rest ++ ys)
      sides = ap (λ l. side_by_side zero (item.Open f hd ∷ l)) (append_assoc ins (item.Close ∷ rest) ys) ∙ node-first are f hd (rest ++ ys)

      deep : Deep hd (around hd s.place 0 ∷ in_field f s.path)
      deep = let inner = root-field f z s.path root in subst (λ l. Deep hd (around hd s.place 0 ∷ l)) (sym inner.only) (top (around hd s.place 0) inner.whole refl)
  top-of (behind {field = f} {head = hd} {inside = ins} {rest = rest} {j = j} {k = k} are ej at) s ys e root =
      later-top s.place (spot-behind s f hd ins).place (item.Open f hd ∷ (ins ++ item.Close ∷ [])) (item.Open f hd ∷ ((ins ++ item.Close ∷ rest) ++ ys)) (rest ++ ys) (s.place + suc j) ((spot-behind s f hd ins).place + k) (seen s (item.Open f hd ∷ (ins ++ item.Close ∷ rest)) (suc j)) (seen (spot-behind s f hd ins) rest k) sides (let n = length-append ins (item.Close ∷ []) in omega (arith, place, n)) (omega (arith, place, ej)) (seen-behind (spot-in s f hd) ins (item.Close ∷ rest) j (suc k) ej) (top-of at (spot-behind s f hd ins) ys (behind-node tree s f hd ins (rest ++ ys) whole) (subst (IsRoot z) (sym (path-behind are s f hd)) (root-field f z s.path root)))
    where
      place : (spot-behind s f hd ins).place ≡ s.place + length ins + 2
      place = place-behind ins s f hd

      whole : drop s.place tree ≡ item.Open f hd ∷ (ins ++ item.Close ∷ (rest ++ ys))
      whole = e ∙ ap (λ l. item.Open f hd ∷ l) (append_assoc ins (item.Close ∷ rest) ys)

      sides : side_by_side zero (item.Open f hd ∷ ((ins ++ item.Close ∷ rest) ++ ys)) ≡ (item.Open f hd ∷ (ins ++ item.Close ∷ [])) ∷ side_by_side zero (rest ++ ys)
      sides = ap (λ l. side_by_side zero (item.Open f hd ∷ l)) (append_assoc ins (item.Close ∷ rest) ys) ∙ node-first are f hd (rest ++ ys)

-- ---- a read begins a member

if-that : {A : Type 0} (b : Bool) (o : Option A) (x : A) → (if b then o else None) ≡ Some x → o ≡ Some x
if-that true o x e = e
if-that false o x e = absurd (none-some x e)

pub read-second : (tree : List Item) (q : ℕ) (x : Text) → read_word tree q ≡ Some x → plain_word (child 1 (node_at tree q)) ≡ Some x
read-second tree q x e = if-that (begins_with is_member (node_at tree q)) (plain_word (child 1 (node_at tree q))) x (if-some _ (property_of (node_at tree q)) x e)

-- ---- the second of two nodes
number-one : (o : Option ℕ) → is_some_number o 0 ≡ true → is_some_number o 1 ≡ false
number-one None e = absurd (false≢true e)
number-one (Some m) e = let z : m ≡ 0 = eqb-true m 0 e in ap (λ n. n == 1) z

pub not-one : (xs : List Item) → begins_in 0 xs ≡ true → begins_in 1 xs ≡ false
not-one [] e = absurd (false≢true e)
not-one (x ∷ xs) e = number-one (field_of x) e

second-of : (first second : List Item) → begins_in 0 first ≡ true → begins_in 1 second ≡ true → first_or_nothing (filter (begins_in 1) (first ∷ second ∷ [])) ≡ second
second-of first second e f =
    ap (λ b. first_or_nothing (cond b (first ∷ cond (begins_in 1 second) (second ∷ []) []) (cond (begins_in 1 second) (second ∷ []) []))) (not-one first e)
    ∙ ap (λ b. first_or_nothing (cond b (second ∷ []) [])) f

child-second : {inside : List Item} → AreNodes inside → (field : ℕ) (head : Head) (two : AreTwoNodes inside) → child 1 (item.Open field head ∷ (inside ++ item.Close ∷ [])) ≡ two.second
child-second are field head two = ap (λ l. first_or_nothing (filter (begins_in 1) l)) (sides-end are [] ∙ two.them) ∙ second-of two.first two.second two.in_first two.in_second

pub node-at : (tree : List Item) (q field : ℕ) (head : Head) (inside rest : List Item) → AreNodes inside → drop q tree ≡ item.Open field head ∷ (inside ++ item.Close ∷ rest) → node_at tree q ≡ item.Open field head ∷ (inside ++ item.Close ∷ [])
node-at tree q field head inside rest are e = ap (λ l. first_or_nothing (side_by_side zero l)) e ∙ ap first_or_nothing (node-first are field head rest)

-- ---- where a name stands in two nodes of which the second is a word
pub no-name : {xs : List Item} {k : ℕ} → NameAt xs k → xs ≡ [] → ⊥
no-name at e = let l = name-within at in let n = ap (length {A = Item}) e in absurd (omega (arith, l, n))

in-none : {xs : List Item} {k : ℕ} → NameAt xs k → side_by_side zero xs ≡ [] → ⊥
in-none here e = cc
in-none (past_name at) e = cc
in-none (past_hole at) e = cc
in-none (within {field = f} {head = hd} rest are parts at) e = let n = sym (node-first are f hd rest) ∙ e in cc
in-none (behind {field = f} {head = hd} {rest = rest} are ej at) e = let n = sym (node-first are f hd rest) ∙ e in cc

word-head : (head : Head) (inside : List Item) (x : Text) → head_plain_word head ≡ Some x → HasParts head inside → inside ≡ []
word-head (item.IdentName y) inside x e parts = parts
word-head _ inside x e parts = absurd (none-some x e)

in-word : {xs : List Item} {k : ℕ} → NameAt xs k → (second : List Item) (x : Text) → side_by_side zero xs ≡ second ∷ [] → plain_word second ≡ Some x → ⊥
in-word (here {field = f} {ctxt = t} {sym = y} {role = r}) second x e is = let s : item.Ident f y t r ∷ [] ≡ second = cc in none-some x (ap plain_word s ∙ is)
in-word (past_name {field = f} {ctxt = t} {sym = y} {role = r} at) second x e is = let s : item.Ident f y t r ∷ [] ≡ second = cc in none-some x (ap plain_word s ∙ is)
in-word (past_hole {field = f} at) second x e is = let s : item.Hole f ∷ [] ≡ second = cc in none-some x (ap plain_word s ∙ is)
in-word (within {field = f} {head = hd} {inside = ins} rest are parts at) second x e is =
    let n = sym (node-first are f hd rest) ∙ e in
    let s : item.Open f hd ∷ (ins ++ item.Close ∷ []) ≡ second = cc in
    no-name at (word-head hd ins x (ap plain_word s ∙ is) parts)
in-word (behind {field = f} {head = hd} {rest = rest} are ej at) second x e is =
    let n = sym (node-first are f hd rest) ∙ e in
    let s : side_by_side zero rest ≡ [] = cc in
    in-none at s

-- the name is the first node, or the first node is around it
abbrev pub InFirst : List Item → ℕ → Type 0
InFirst inside k = (k ≡ zero) ⊎ ((s : Spot) → Begun (seen s inside k) s.place)

in-two : {inside : List Item} {k : ℕ} → NameAt inside k → (first second : List Item) (x : Text) → side_by_side zero inside ≡ first ∷ second ∷ [] → plain_word second ≡ Some x → InFirst inside k
in-two here first second x e is = inl refl
in-two (past_name {rest = rest} at) first second x e is = let s : side_by_side zero rest ≡ second ∷ [] = cc in absurd (in-word at second x s is)
in-two (past_hole {rest = rest} at) first second x e is = let s : side_by_side zero rest ≡ second ∷ [] = cc in absurd (in-word at second x s is)
in-two (within {field = f} {head = hd} {inside = ins} rest {k = k} are parts at) first second x e is = inr (λ s.
    subst (λ l. Begun l s.place) (sym (seen-front (spot-in s f hd) ins (item.Close ∷ rest) k (name-within at))) (begun-name at (spot-in s f hd) s.place (around hd s.place 0, first-there (around hd s.place 0) (in_field f s.path), refl)))
in-two (behind {field = f} {head = hd} {rest = rest} are ej at) first second x e is =
    let n = sym (node-first are f hd rest) ∙ e in
    let s : side_by_side zero rest ≡ second ∷ [] = cc in
    absurd (in-word at second x s is)

pub in-first : {inside : List Item} {k : ℕ} → NameAt inside k → AreNodes inside → (field : ℕ) (head : Head) → AreTwoNodes inside → (x : Text) → plain_word (child 1 (item.Open field head ∷ (inside ++ item.Close ∷ []))) ≡ Some x → InFirst inside k
in-first at are field head two x is = in-two at two.first two.second x two.them (sym (ap plain_word (child-second are field head two)) ∙ is)

-- ---- an element of a list

pub held : {A : Type 0} (xs : List A) (x : A) (i : ℕ) → slice_get xs i ≡ Some x → Contains xs x
held [] x i at = absurd (none-some x at)
held (a ∷ xs) x zero at = (0, omega arith, same_Some a x at)
held (a ∷ xs) x (suc i) at = let r = held xs x i at in (suc r.0, omega (arith, r.1), r.2)

-- ---- each number once
same-other : (n x : ℕ) → nat_eq x n ≡ false → not (nat_eq n x) ≡ true
same-other n x is = by (nat_eq n x) refl
  where
    by : (b : Bool) → nat_eq n x ≡ b → not b ≡ true
    by false at = refl
    by true at = absurd (false≢true (sym is ∙ eq-eqb x n (sym (eqb-true n x at))))

filter-push : (test : ℕ → Bool) (xs : List ℕ) (x : ℕ) → filter test (xs ++ x ∷ []) ≡ cond (test x) (filter test xs ++ x ∷ []) (filter test xs)
filter-push test [] x = by (test x)
  where
    by : (b : Bool) → cond b (x ∷ []) [] ≡ cond b (x ∷ []) []
    by b = refl
filter-push test (a ∷ xs) x = by (test a) (test x) (filter-push test xs x)
  where
    by : (b c : Bool) → filter test (xs ++ x ∷ []) ≡ cond c (filter test xs ++ x ∷ []) (filter test xs) → cond b (a ∷ filter test (xs ++ x ∷ [])) (filter test (xs ++ x ∷ [])) ≡ cond c (cond b (a ∷ filter test xs) (filter test xs) ++ x ∷ []) (cond b (a ∷ filter test xs) (filter test xs))
    by true true e = ap (λ l. a ∷ l) e
    by true false e = ap (λ l. a ∷ l) e
    by false true e = e
    by false false e = e

any-without : (n x : ℕ) (xs : List ℕ) → nat_eq x n ≡ false → list_any (nat_eq x) (filter (λ m. not (nat_eq n m)) xs) ≡ list_any (nat_eq x) xs
any-without n x [] is = refl
any-without n x (m ∷ xs) is = by (nat_eq n m) refl (any-without n x xs is)
  where
    by : (b : Bool) → nat_eq n m ≡ b → list_any (nat_eq x) (filter (λ m. not (nat_eq n m)) xs) ≡ list_any (nat_eq x) xs → list_any (nat_eq x) (cond (not b) (m ∷ filter (λ m. not (nat_eq n m)) xs) (filter (λ m. not (nat_eq n m)) xs)) ≡ (nat_eq x m || list_any (nat_eq x) xs)
    by true at ih = ih ∙ ap (λ t. t || list_any (nat_eq x) xs) (sym (ap (nat_eq x) (sym (eqb-true n m at)) ∙ is))
    by false at ih = ap (λ t. nat_eq x m || t) ih

pub once-push : (xs : List ℕ) (x : ℕ) → numbers_once (xs ++ x ∷ []) ≡ added (numbers_once xs) x
once-push [] x = refl
once-push (n ∷ xs) x = ap (λ l. n ∷ filter (λ m. not (nat_eq n m)) l) (once-push xs x) ∙ by (nat_eq x n) (list_any (nat_eq x) (numbers_once xs)) refl refl
  where
    by : (b c : Bool) → nat_eq x n ≡ b → list_any (nat_eq x) (numbers_once xs) ≡ c → n ∷ filter (λ m. not (nat_eq n m)) (cond c (numbers_once xs) (numbers_once xs ++ x ∷ []))
        ≡ cond (b || list_any (nat_eq x) (filter (λ m. not (nat_eq n m)) (numbers_once xs))) (n ∷ filter (λ m. not (nat_eq n m)) (numbers_once xs)) (n ∷ filter (λ m. not (nat_eq n m)) (numbers_once xs) ++ x ∷ [])
    by true true is there = refl
    by true false is there = ap (λ l. n ∷ l) (filter-push (λ m. not (nat_eq n m)) (numbers_once xs) x ∙ ap (λ t. cond (not t) (filter (λ m. not (nat_eq n m)) (numbers_once xs) ++ x ∷ []) (filter (λ m. not (nat_eq n m)) (numbers_once xs))) (eq-eqb n x (sym (eqb-true x n is))))
    by false true is there = ap (λ t. cond t (n ∷ filter (λ m. not (nat_eq n m)) (numbers_once xs)) (n ∷ filter (λ m. not (nat_eq n m)) (numbers_once xs) ++ x ∷ [])) (sym (any-without n x (numbers_once xs) is ∙ there))
    by false false is there =
        ap (λ l. n ∷ l) (filter-push (λ m. not (nat_eq n m)) (numbers_once xs) x ∙ ap (λ t. cond t (filter (λ m. not (nat_eq n m)) (numbers_once xs) ++ x ∷ []) (filter (λ m. not (nat_eq n m)) (numbers_once xs))) (same-other n x is))
        ∙ ap (λ t. cond t (n ∷ filter (λ m. not (nat_eq n m)) (numbers_once xs)) (n ∷ filter (λ m. not (nat_eq n m)) (numbers_once xs) ++ x ∷ [])) (sym (any-without n x (numbers_once xs) is ∙ there))

filter-all : (n : ℕ) (xs : List ℕ) → ((i : ℕ) → slice_get xs i ≡ Some n → ⊥) → filter (λ m. not (nat_eq n m)) xs ≡ xs
filter-all n [] none = refl
filter-all n (m ∷ xs) none = by (nat_eq n m) refl (filter-all n xs (λ i at. none (suc i) at))
  where
    by : (b : Bool) → nat_eq n m ≡ b → filter (λ m. not (nat_eq n m)) xs ≡ xs → cond (not b) (m ∷ filter (λ m. not (nat_eq n m)) xs) (filter (λ m. not (nat_eq n m)) xs) ≡ m ∷ xs
    by true at ih = absurd (none 0 (ap (λ y. Some y) (sym (eqb-true n m at))))
    by false at ih = ap (λ l. m ∷ l) ih

pub once-same : (xs : List ℕ) → HasNoDoubles xs → numbers_once xs ≡ xs
once-same [] once = refl
once-same (n ∷ xs) once = ap (λ l. n ∷ filter (λ m. not (nat_eq n m)) l) (once-same xs (λ i j x a b. omega (arith, once (suc i) (suc j) x a b))) ∙ ap (λ l. n ∷ l) (filter-all n xs (λ i at. absurd (omega (arith, once 0 (suc i) n refl at))))

-- ---- the place of a number
pub at-place : (ids : List ℕ) (m k : ℕ) → position (nat_eq m) ids ≡ Some k → slice_get ids k ≡ Some m
at-place ids m k is = let r = position-Some (nat_eq m) ids k m is in slice_get-get_or ids k m r.0 ∙ ap (λ y. Some y) (sym (eqb-true m _ r.1))

pub place-there : (ids : List ℕ) (m : ℕ) → Contains ids m → (k : ℕ) × (position (nat_eq m) ids ≡ Some k)
place-there ids m there = by (ltb at (length ids)) refl
  where
    at : ℕ
    at = position_or_len (nat_eq m) ids

    by : (b : Bool) → ltb at (length ids) ≡ b → (k : ℕ) × (cond b (Some at) None ≡ Some k)
    by true is = (at, refl)
    by false is =
        let h : length ids ≤ at = ltb-false at (length ids) is in
        absurd (false≢true (sym (fails_before_first (nat_eq m) ids there.0 m (omega (arith, h, there.1))) ∙ eq-eqb m _ (sym there.2)))

pub place-of : (ids : List ℕ) (m k : ℕ) → HasNoDoubles ids → slice_get ids k ≡ Some m → position (nat_eq m) ids ≡ Some k
place-of ids m k once at =
    let r = place-there ids m (held ids m k at) in
    r.1 ∙ ap (λ n. Some n) (once r.0 k m (at-place ids m r.0 r.1) at)
