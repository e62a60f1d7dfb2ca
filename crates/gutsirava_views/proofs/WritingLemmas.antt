-- Items that are written one behind the other, and in brackets.
use Rattle.std.proofs.Common.{◌≡◌, ◌<◌, ◌+◌, ◌-◌, ℕ, List, [], ◌∷◌, ◌++◌, ◌&&◌, Bool, true, false, map, take, get_or, length, refl, sym, ◌∙◌, ap, subst, append_assoc, append-nil, arith, string_bytes}
use Rattle.std.proofs.lemmas.List.{map_more, take_all}
use Rattle.gutsirava_views.specs.Json.{comma, is_none, items_text, key_of, last_line, line, member, nest, string_of}
use Rattle.gutsirava_views.specs.Writing.{AddsItems, Closes, OpensItem}
use Rattle.gutsirava_views.specs.declared.json.JsonWriter.{JsonWriter}

behind_item : (a b c t r : List ℕ) → a ++ (b ++ (c ++ (t ++ r))) ≡ (a ++ (b ++ (c ++ t))) ++ r
behind_item a b c t r =
    sym (append_assoc a (b ++ (c ++ t)) r ∙ ap (λ l. a ++ l) (append_assoc b (c ++ t) r
    ∙ ap (λ l. b ++ l) (append_assoc c t r)))

items_more : (first : Bool) (depth : ℕ) (xs ys : List (List ℕ))
    → items_text first depth (xs ++ ys)
    ≡ items_text first depth xs ++ items_text (first && is_none xs) depth ys
items_more true depth [] ys = refl
items_more false depth [] ys = refl
items_more true depth (x ∷ xs) ys =
    ap (λ l. comma true ++ (line depth ++ (x ++ l))) (items_more false depth xs ys)
    ∙ behind_item (comma true) (line depth) x (items_text false depth xs) (items_text false depth ys)
items_more false depth (x ∷ xs) ys =
    ap (λ l. comma false ++ (line depth ++ (x ++ l))) (items_more false depth xs ys)
    ∙ behind_item (comma false) (line depth) x (items_text false depth xs) (items_text false depth ys)

none_more : (first : Bool) (xs ys : List (List ℕ))
    → (first && is_none xs) && is_none ys ≡ first && is_none (xs ++ ys)
none_more true [] ys = refl
none_more true (x ∷ xs) ys = refl
none_more false xs ys = refl

none_of_one : (first : Bool) (item : List ℕ) → false ≡ first && is_none (item ∷ [])
none_of_one true item = refl
none_of_one false item = refl

all_first : (first : Bool) → first ≡ first && true
all_first true = refl
all_first false = refl

pub adds_nothing : (depth : ℕ) (writer : JsonWriter) → writer.depth ≡ depth → AddsItems depth [] writer writer
adds_nothing depth writer deep = record {
  whole = sym (append-nil (string_bytes writer.text));
  at_depth = deep;
  first = all_first writer.is_first;
}

-- items behind others
pub adds_more : (depth : ℕ) (xs ys : List (List ℕ)) (old between new : JsonWriter)
    → AddsItems depth xs old between → AddsItems depth ys between new → AddsItems depth (xs ++ ys) old new
adds_more depth xs ys old between new before behind = record {
  whole = behind.whole
      ∙ ap (λ l. l ++ items_text between.is_first depth ys) before.whole
      ∙ ap (λ f. (string_bytes old.text ++ items_text old.is_first depth xs) ++ items_text f depth ys) before.first
      ∙ append_assoc (string_bytes old.text) (items_text old.is_first depth xs) (items_text (old.is_first && is_none xs) depth ys)
      ∙ ap (λ l. string_bytes old.text ++ l) (sym (items_more old.is_first depth xs ys));
  at_depth = behind.at_depth;
  first = behind.first ∙ ap (λ f. f && is_none ys) before.first ∙ none_more old.is_first xs ys;
}

-- one more of the items that are made of a list
pub adds_next : {X : Type 0} (f : X → List ℕ) (xs : List X) (i : ℕ) (d x : X) (depth : ℕ) (old between new : JsonWriter)
    → i < length xs → x ≡ get_or xs i d → AddsItems depth (map f (take i xs)) old between
    → AddsItems depth (f x ∷ []) between new → AddsItems depth (map f (take (i + 1) xs)) old new
adds_next f xs i d x depth old between new within is before added =
    let P : List (List ℕ) → Type 0 = λ l. AddsItems depth l old new in
    subst P (ap (λ it. map f (take i xs) ++ (f it ∷ [])) is ∙ sym (map_more f xs i d within))
    (adds_more depth (map f (take i xs)) (f x ∷ []) old between new before added)

-- all of them
pub adds_all : {X : Type 0} (f : X → List ℕ) (xs : List X) (i depth : ℕ) (old new : JsonWriter)
    → length xs ≡ i → AddsItems depth (map f (take i xs)) old new → AddsItems depth (map f xs) old new
adds_all f xs i depth old new end adds =
    let P : List _ → Type 0 = λ l. AddsItems depth (map f l) old new in
    subst P (take_all i xs (omega (arith, end))) adds

nest_text : (a comes at lead opening items last closing b c d : List ℕ)
    → b ≡ a ++ (comes ++ (at ++ (lead ++ opening))) → c ≡ b ++ items → d ≡ c ++ (last ++ closing)
    → d ≡ a ++ (comes ++ (at ++ ((lead ++ (opening ++ (items ++ (last ++ closing)))) ++ [])))
nest_text a comes at lead opening items last closing b c d opens fills closes =
    rw (closes, fills, opens) (simp (append_assoc, append-nil) refl)

-- items in brackets are an item
pub nest_item : (lead opening closing : List ℕ) (depth : ℕ) (items : List (List ℕ)) (old begun filled new : JsonWriter)
    → old.depth ≡ depth → OpensItem lead opening old begun → AddsItems (depth + 1) items begun filled
    → Closes closing filled new → AddsItems depth ((lead ++ nest opening closing depth items) ∷ []) old new
nest_item lead opening closing depth items old begun filled new deep opens adds closes =
    let none : filled.is_first ≡ is_none items = adds.first ∙ ap (λ f. f && is_none items) opens.first in
    let level : filled.depth - 1 ≡ depth = omega (arith, adds.at_depth) in
    record {
      whole = nest_text (string_bytes old.text) (comma old.is_first) (line depth) lead opening
          (items_text true (depth + 1) items) (last_line (is_none items) depth) closing _ _ _
          (opens.whole ∙ ap (λ n. string_bytes old.text ++ (comma old.is_first ++ (line n ++ (lead ++ opening)))) deep)
          (adds.whole ∙ ap (λ f. string_bytes begun.text ++ items_text f (depth + 1) items) opens.first)
          (closes.whole ∙ ap (λ f. string_bytes filled.text ++ (last_line f (filled.depth - 1) ++ closing)) none
          ∙ ap (λ n. string_bytes filled.text ++ (last_line (is_none items) n ++ closing)) level);
      at_depth = closes.shallower ∙ level;
      first = closes.later ∙ none_of_one old.is_first (lead ++ nest opening closing depth items);
    }

-- how deep the items in a bracket are
pub one_deeper : (lead opening : List ℕ) (depth : ℕ) (old begun : JsonWriter)
    → old.depth ≡ depth → OpensItem lead opening old begun → begun.depth ≡ depth + 1
one_deeper lead opening depth old begun deep opens = omega (arith, deep, opens.deeper)

-- a string that is told is the one that was to be
pub told_text : (key value told : List ℕ) (depth : ℕ) (old new : JsonWriter) → value ≡ told
    → AddsItems depth (member key (string_of value) ∷ []) old new → AddsItems depth (member key (string_of told) ∷ []) old new
told_text key value told depth old new is adds =
    let P : List ℕ → Type 0 = λ l. AddsItems depth (member key (string_of l) ∷ []) old new in
    subst P is adds

-- and the key of a member
pub told_key : (value told bracket : List ℕ) (old new : JsonWriter) → value ≡ told
    → OpensItem (key_of value) bracket old new → OpensItem (key_of told) bracket old new
told_key value told bracket old new is opens =
    let P : List ℕ → Type 0 = λ l. OpensItem (key_of l) bracket old new in
    subst P is opens

-- and an element
pub told_element : (value told : List ℕ) (depth : ℕ) (old new : JsonWriter) → value ≡ told
    → AddsItems depth (string_of value ∷ []) old new → AddsItems depth (string_of told ∷ []) old new
told_element value told depth old new is adds =
    let P : List ℕ → Type 0 = λ l. AddsItems depth (string_of l ∷ []) old new in
    subst P is adds

-- what is made of each of a list in brackets
pub nest_list : {X : Type 0} (f : X → List ℕ) (xs ys : List X) (i : ℕ) (lead opening closing : List ℕ) (depth : ℕ) (old begun filled new : JsonWriter)
    → xs ≡ ys → length xs ≡ i → old.depth ≡ depth → OpensItem lead opening old begun
    → AddsItems (depth + 1) (map f (take i xs)) begun filled → Closes closing filled new
    → AddsItems depth ((lead ++ nest opening closing depth (map f ys)) ∷ []) old new
nest_list f xs ys i lead opening closing depth old begun filled new are end deep opens adds closes =
    let P : List _ → Type 0 = λ l. AddsItems (depth + 1) (map f l) begun filled in
    nest_item lead opening closing depth (map f ys) old begun filled new deep opens
    (subst P are (adds_all f xs i (depth + 1) begun filled end adds)) closes
