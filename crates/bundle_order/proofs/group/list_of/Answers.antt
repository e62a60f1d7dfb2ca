use Rattle.std.proofs.Common.{◌≡◌, ℕ, ◌+◌, ◌-◌, ◌<◌, List, [], ◌∷◌, length, map, drop, min, ap, ◌∙◌, append-nil, arith}
use Rattle.std.specs.List.{flat_map, slice_range}
use Rattle.std.proofs.lemmas.List.{length-take, length-drop}
use Rattle.bundle_syntax.specs.Item.{Item}
use Rattle.bundle_tree_listed.specs.Tree.{module_item_items}
use Rattle.bundle_order.proofs.group.list_of.Goals as goal

single : {X Y : Type 0} (f : X → List Y) (xs : List X) → length xs ≡ 1 → flat_map f xs ∷ [] ≡ map f xs
single f [] e = absurd (omega (arith, e))
single f (x ∷ []) e = ap (λ l. l ∷ []) (append-nil (f x))
single f (x ∷ y ∷ xs) e = absurd (omega (arith, e))

one-long : {X : Type 0} (xs : List X) (n : ℕ) → n < length xs → length (slice_range xs n (n + 1)) ≡ 1
one-long xs n l = length-take (n + 1 - n) (drop n xs) ∙ (let d = length-drop n xs in let same : min (n + 1 - n) (length (drop n xs)) ≡ 1 = omega (arith, d, l) in same)

pub returns : goal.returns
returns c = ap (λ (l : List Item). l ∷ []) c.in_ok-list.ensures ∙ single (module_item_items 0) (slice_range c.args.items.now c.args.place (c.args.place + 1)) (one-long c.args.items.now c.args.place c.requires)
