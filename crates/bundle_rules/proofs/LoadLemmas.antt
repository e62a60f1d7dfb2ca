-- A load function is parted in one way: into its front, the statements of the module, and its back.
use Rattle.std.proofs.Common.{◌≡◌, ℕ, suc, ◌+◌, List, [], ◌∷◌, ◌++◌, length, refl, ap, ap₂, sym, ◌∙◌, arith, length-append}
use Rattle.std.proofs.lemmas.List.{append_cancel_left, append_cancel_right}
use Rattle.std.specs.Prelude.{map}
use Rattle.bundle_syntax.specs.Item.{Item}
use Rattle.bundle_rules.specs.Statements.{TopItem, Element, taken_from}
use Rattle.bundle_rules.specs.Program.{Program}
use Rattle.bundle_rules.specs.Meaning.{item_of}
use Rattle.bundle_rules.specs.Injected.{load_front, load_back}
use Rattle.bundle_rules.specs.Bundle.{Labelled, IsLoadFunction}

first_is : {A : Type 0} (x y : A) (xs ys : List A) → x ∷ xs ≡ y ∷ ys → x ≡ y
first_is x y xs ys e = cc

rest_is : {A : Type 0} (x y : A) (xs ys : List A) → x ∷ xs ≡ y ∷ ys → xs ≡ ys
rest_is x y xs ys e = cc

-- lists that begin with as much have the same beginning
first_part : {A : Type 0} (xs ys xs' ys' : List A) → length xs ≡ length ys → xs ++ xs' ≡ ys ++ ys' → xs ≡ ys
first_part [] [] xs' ys' same e = refl
first_part [] (y ∷ ys) xs' ys' same e = grind arith
first_part (x ∷ xs) [] xs' ys' same e = grind arith
first_part (x ∷ xs) (y ∷ ys) xs' ys' same e = ap₂ (λ a b. a ∷ b) (first_is x y (xs ++ xs') (ys ++ ys') e) (first_part xs ys xs' ys' (omega (arith, same)) (rest_is x y (xs ++ xs') (ys ++ ys') e))

-- and the same end
second_part : {A : Type 0} (xs ys xs' ys' : List A) → length xs ≡ length ys → xs ++ xs' ≡ ys ++ ys' → xs' ≡ ys'
second_part xs ys xs' ys' same e = append_cancel_left ys xs' ys' (sym (ap (λ l. l ++ xs') (first_part xs ys xs' ys' same e)) ∙ e)

-- elements as they stand in the list
items_taken : (place : ℕ) (xs : List Item) → map item_of (taken_from place xs) ≡ xs
items_taken place [] = refl
items_taken place (x ∷ xs) = ap (λ l. x ∷ l) (items_taken (suc place) xs)

map_append : (xs ys : List Element) → map item_of (xs ++ ys) ≡ map item_of xs ++ map item_of ys
map_append [] ys = refl
map_append (x ∷ xs) ys = ap (λ l. item_of x ∷ l) (map_append xs ys)

map_length : (xs : List Element) → length (map item_of xs) ≡ length xs
map_length [] = refl
map_length (x ∷ xs) = ap suc (map_length xs)

-- the item as its parts
its_parts : {p : Program} {b : Labelled} {c : ℕ} {item : TopItem} (f : IsLoadFunction p b c item) → item.items ≡ map item_of f.front ++ (f.inside ++ map item_of f.back)
its_parts {item = item} f =
    let place : ℕ = item.start + length f.front in
    sym (items_taken item.start item.items)
    ∙ ap (map item_of) f.is
    ∙ map_append f.front (taken_from place f.inside ++ f.back)
    ∙ ap (λ l. map item_of f.front ++ l) (map_append (taken_from place f.inside) f.back)
    ∙ ap (λ l. map item_of f.front ++ (l ++ map item_of f.back)) (items_taken place f.inside)

-- what stands between a front and a back of these lengths are the statements
pub inside_is : {p : Program} {b : Labelled} {c : ℕ} {item : TopItem} (f : IsLoadFunction p b c item) (front stmts back : List Item) → item.items ≡ front ++ (stmts ++ back) → length front ≡ length (load_front c) → length back ≡ length load_back → f.inside ≡ stmts
inside_is {c = c} {item = item} f front stmts back is front_length back_length =
    append_cancel_right f.inside stmts back (ap (λ l. f.inside ++ l) (sym same_back) ∙ behind)
  where
    behind : f.inside ++ map item_of f.back ≡ stmts ++ back
    behind = second_part (map item_of f.front) front _ _ (map_length f.front ∙ f.front_length ∙ sym front_length) (sym (its_parts f) ∙ is)

    as_long : length f.inside ≡ length stmts
    as_long = omega (arith, sym (length-append f.inside (map item_of f.back)) ∙ ap length behind ∙ length-append stmts back, map_length f.back ∙ f.back_length ∙ sym back_length)

    same_back : map item_of f.back ≡ back
    same_back = second_part f.inside stmts _ _ as_long behind

-- two of an item have the same statements
pub one_inside : {p : Program} {b : Labelled} {c : ℕ} {item : TopItem} (f g : IsLoadFunction p b c item) → f.inside ≡ g.inside
one_inside f g = inside_is f (map item_of g.front) g.inside (map item_of g.back) (its_parts g) (map_length g.front ∙ g.front_length) (map_length g.back ∙ g.back_length)
