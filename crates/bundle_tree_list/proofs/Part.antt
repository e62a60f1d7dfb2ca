-- Two parts of trees in one place, a test of them, and that it is true exactly where their lists are equal.
use Rattle.std.proofs.Common.{◌≡◌, ◌↔◌, IsTrue, ℕ, Bool, true, false, ◌&&◌, eqb, refl, sym, ap, ap₂, ◌∙◌, subst, List, [], ◌∷◌, ◌++◌, append-nil, Option, Some, None, true≢false}
use Rattle.std.proofs.lemmas.List.{append_cancel_right}
use Rattle.std.specs.Bool.{Decides}
use Rattle.std.specs.Option.{option_eq}
use Rattle.bundle_syntax.specs.Item as h
use Rattle.bundle_syntax.specs.Item.{Item, Head}
use Rattle.bundle_tree_listed.specs.Tree.{node, option_items}
use Rattle.bundle_tree_list.proofs.Cut.{cut, Row, Whole, Ends, split, ends, node_row, whole_and, nothing}

-- two parts in this field, and a test of them
pub record Part (field : ℕ) (test : Bool) (xs ys : List Item) : Type 0 where
  pub left : Row field xs
  pub right : Row field ys
  pub same : Decides test (xs ≡ ys)

-- one test for another that is as true
pub retested : {field : ℕ} {a b : Bool} {xs ys : List Item} → b ≡ a → Part field a xs ys → Part field b xs ys
retested {field} {xs = xs} {ys = ys} is part = subst (λ test. Part field test xs ys) (sym is) part

pub with_test : {a b : Bool} {P : Type 0} → b ≡ a → Decides a P → Decides b P
with_test {P = P} is one = subst (λ test. Decides test P) (sym is) one

pub both : {a b : Bool} {P Q : Type 0} → Decides a P → Decides b Q → Decides (a && b) (P × Q)
both {a = true} one two = (λ so. (one.0 refl, two.0 so), λ p. two.1 p.1)
both {a = false} one two = (λ so. absurd (true≢false (sym so)), λ p. one.1 p.0)

pub instead : {a : Bool} {P Q : Type 0} → (P → Q) → (Q → P) → Decides a P → Decides a Q
instead to back one = (λ so. to (one.0 so), λ q. one.1 (back q))

-- what stands behind the last field
pub behind : (field : ℕ) {other : ℕ} {ys : List Item} → Row other ys → eqb other field ≡ false → Ends field ys
behind field {ys = ys} row apart = subst (λ list. cut field 0 list ≡ ([], list)) (append-nil ys) (row.left field apart [] (ends field))

-- the beginnings of two nodes, and what stands in them
first_head : Head → List Item → Head
first_head other (h.Open field head ∷ rest) = head
first_head other list = other

rest_of : List Item → List Item
rest_of [] = []
rest_of (x ∷ rest) = rest

pub opened : {field : ℕ} {head head' : Head} {xs ys : List Item} → node field head xs ≡ node field head' ys → (head ≡ head') × (xs ≡ ys)
unfolding first_head rest_of
opened {head = head} {xs = xs} {ys = ys} is = (ap (first_head head) is, append_cancel_right xs ys (h.Close ∷ []) (ap rest_of is))

pub closed : {field : ℕ} {head head' : Head} {xs ys : List Item} → (head ≡ head') × (xs ≡ ys) → node field head xs ≡ node field head' ys
closed {field = field} p = ap₂ (λ head xs. node field head xs) p.0 p.1

-- two nodes, by their beginnings and what stands in them
pub nodes : (field : ℕ) {a b : Bool} {head head' : Head} {xs ys : List Item} → Decides a (head ≡ head') → Whole xs → Whole ys → Decides b (xs ≡ ys) → Part field (a && b) (node field head xs) (node field head' ys)
nodes field {head = head} {head' = head'} heads x y same = record { left = node_row field head x; right = node_row field head' y; same = instead closed opened (both heads same) }

-- the same of one kind, with no values of their own
pub alike : (field : ℕ) (head : Head) {b : Bool} {xs ys : List Item} → Whole xs → Whole ys → Decides b (xs ≡ ys) → Part field b (node field head xs) (node field head ys)
alike field head x y same = record { left = node_row field head x; right = node_row field head y; same = instead (λ is. ap (λ list. node field head list) is) (λ is. (opened is).1) same }

-- what stands in two nodes, and a test of it
pub record Inside (test : Bool) (xs ys : List Item) : Type 0 where
  pub left : Whole xs
  pub right : Whole ys
  pub same : Decides test (xs ≡ ys)

pub just : {field : ℕ} {a : Bool} {xs ys : List Item} → Part field a xs ys → Inside a xs ys
just part = record { left = part.left.whole; right = part.right.whole; same = part.same }

pub no_more : Inside true [] []
no_more = record { left = (nothing 0).whole; right = (nothing 0).whole; same = (λ so. refl, λ is. refl) }

-- two fields, three and four
pub two : {f g : ℕ} {a b : Bool} {xs xs' ys ys' : List Item} → eqb g f ≡ false → Part f a xs xs' → Part g b ys ys' → Inside (a && b) (xs ++ ys) (xs' ++ ys')
two {f = f} apart x y = record {
  left = whole_and x.left.whole y.left.whole;
  right = whole_and x.right.whole y.right.whole;
  same = instead (λ p. ap₂ (λ xs ys. xs ++ ys) p.0 p.1) (λ is. split x.left x.right (behind f y.left apart) (behind f y.right apart) is) (both x.same y.same);
}

behind_two : (f : ℕ) {g i : ℕ} {ys zs : List Item} → Row g ys → Row i zs → eqb g f ≡ false → eqb i f ≡ false → Ends f (ys ++ zs)
behind_two f y z apart far = y.left f apart _ (behind f z far)

pub three : {f g i : ℕ} {a b c : Bool} {xs xs' ys ys' zs zs' : List Item} → eqb g f ≡ false → eqb i f ≡ false → eqb i g ≡ false → Part f a xs xs' → Part g b ys ys' → Part i c zs zs' → Inside (a && (b && c)) (xs ++ (ys ++ zs)) (xs' ++ (ys' ++ zs'))
three {f = f} apart far further x y z =
    let more = two further y z in
    record {
      left = whole_and x.left.whole more.left;
      right = whole_and x.right.whole more.right;
      same = instead (λ p. ap₂ (λ xs ys. xs ++ ys) p.0 p.1) (λ is. split x.left x.right (behind_two f y.left z.left apart far) (behind_two f y.right z.right apart far) is) (both x.same more.same);
    }

behind_three : (f : ℕ) {g i j : ℕ} {ys zs ws : List Item} → Row g ys → Row i zs → Row j ws → eqb g f ≡ false → eqb i f ≡ false → eqb j f ≡ false → Ends f (ys ++ (zs ++ ws))
behind_three f y z w apart far further = y.left f apart _ (behind_two f z w far further)

pub four : {f g i j : ℕ} {a b c d : Bool} {xs xs' ys ys' zs zs' ws ws' : List Item} → eqb g f ≡ false → eqb i f ≡ false → eqb j f ≡ false → eqb i g ≡ false → eqb j g ≡ false → eqb j i ≡ false → Part f a xs xs' → Part g b ys ys' → Part i c zs zs' → Part j d ws ws' → Inside (a && (b && (c && d))) (xs ++ (ys ++ (zs ++ ws))) (xs' ++ (ys' ++ (zs' ++ ws')))
four {f = f} p q s t u v x y z w =
    let more = three t u v y z w in
    record {
      left = whole_and x.left.whole more.left;
      right = whole_and x.right.whole more.right;
      same = instead (λ p. ap₂ (λ xs ys. xs ++ ys) p.0 p.1) (λ is. split x.left x.right (behind_three f y.left z.left w.left p q s) (behind_three f y.right z.right w.right p q s) is) (both x.same more.same);
    }

-- a node with these in it
pub in_node : (field : ℕ) (head : Head) {b : Bool} {xs ys : List Item} → Inside b xs ys → Part field b (node field head xs) (node field head ys)
in_node field head inside = alike field head inside.left inside.right inside.same

pub in_nodes : (field : ℕ) {a b : Bool} {head head' : Head} {xs ys : List Item} → Decides a (head ≡ head') → Inside b xs ys → Part field (a && b) (node field head xs) (node field head' ys)
in_nodes field heads inside = nodes field heads inside.left inside.right inside.same

-- ways to write one test
and-true : (a : Bool) → (a && true) ≡ a
and-true true = refl
and-true false = refl

pub bare : (field : ℕ) {a : Bool} {head head' : Head} → Decides a (head ≡ head') → Part field a (node field head []) (node field head' [])
bare field {a = a} heads = retested (sym (and-true a)) (in_nodes field heads no_more)

-- one test written in another order
pub turned : (h a b : Bool) → (a && (b && h)) ≡ (h && (a && b))
turned true true b = and-true b
turned true false b = refl
turned false true true = refl
turned false true false = refl
turned false false b = refl

pub swapped : (h a : Bool) → (a && h) ≡ (h && a)
swapped true a = and-true a
swapped false true = refl
swapped false false = refl

pub gathered : (a b c : Bool) → (a && (b && c)) ≡ ((a && b) && c)
gathered true b c = refl
gathered false b c = refl

pub parted : (k m d : Bool) → (k && (d && m)) ≡ ((k && m) && d)
parted true m d = swapped m d
parted false m d = refl

-- nodes whose own values are compared last
pub values_last : (field : ℕ) {f g : ℕ} {h a b : Bool} {head head' : Head} {xs xs' ys ys' : List Item} → Decides h (head ≡ head') → eqb g f ≡ false → Part f a xs xs' → Part g b ys ys' → Part field (a && (b && h)) (node field head (xs ++ ys)) (node field head' (xs' ++ ys'))
values_last field {h = h} {a = a} {b = b} heads apart x y = retested (turned h a b) (in_nodes field heads (two apart x y))

pub value_last : (field : ℕ) {f : ℕ} {h a : Bool} {head head' : Head} {xs xs' : List Item} → Decides h (head ≡ head') → Part f a xs xs' → Part field (a && h) (node field head xs) (node field head' xs')
value_last field {h = h} {a = a} heads x = retested (swapped h a) (in_nodes field heads (just x))

pub inside_then_values : (field : ℕ) (a b : Bool) {h : Bool} {head head' : Head} {xs xs' : List Item} → Decides h (head ≡ head') → Inside (a && b) xs xs' → Part field (a && (b && h)) (node field head xs) (node field head' xs')
inside_then_values field a b {h = h} heads inside = retested (turned h a b) (in_nodes field heads inside)

-- two parts that differ, whatever stands in them
pub apart : {field : ℕ} {xs ys : List Item} → Row field xs → Row field ys → (xs ≡ ys → ⊥) → Part field false xs ys
apart x y differ = record { left = x; right = y; same = (λ wrong. absurd (true≢false (sym wrong)), λ is. absurd (differ is)) }

pub none_there : {field : ℕ} → Part field true [] []
none_there {field = field} = record { left = nothing field; right = nothing field; same = (λ so. refl, λ is. refl) }

-- what stands in two options, where what is there is never an empty list
unfoldable pub begins : List Item → Bool
begins [] = false
begins (x ∷ xs) = true

pub differs_from_nothing : {xs : List Item} → begins xs ≡ true → ([] ≡ xs) → ⊥
unfolding begins
differs_from_nothing some is = true≢false (sym some ∙ sym (ap begins is))

pub option_part : {A : Type 0} {field : ℕ} (E : A → A → Bool) (items : A → List Item) → ((it : A) → Row field (items it)) → ((it : A) → begins (items it) ≡ true) → ((x y : A) → Part field (E x y) (items x) (items y)) → (a b : Option A) → Part field (option_eq E a b) (option_items items a) (option_items items b)
option_part E items row some each None None = none_there
option_part {field = field} E items row some each None (Some y) = apart (nothing field) (row y) (differs_from_nothing (some y))
option_part {field = field} E items row some each (Some x) None = apart (row x) (nothing field) (λ is. differs_from_nothing (some x) (sym is))
option_part E items row some each (Some x) (Some y) = each x y

-- what a call of the test tells
pub told : {a b : Bool} {P : Type 0} → b ≡ a → Decides a P → (IsTrue b ↔ P)
told is one = with_test is one
