-- Where nothing is in the second field of a node.
-- The open nodes, as they are around a field of the innermost one.
use Rattle.std.proofs.Common.{◌≡◌, ℕ, zero, suc, ◌+◌, not, Option, Some, None, List, [], ◌∷◌, drop, slice_get, ap, ◌∙◌, arith}
use Rattle.std.specs.Option.{is_some}
use Rattle.std.proofs.lemmas.Option.{none-some, same_Some}
use Rattle.bundle_syntax.specs.Item as h
use Rattle.bundle_syntax.specs.Item.{Item}
use Rattle.bundle_rules.specs.Nodes.{in_field, node_at, side_by_side, first_or_nothing}
use Rattle.bundle_rules.specs.Order.{is_nothing}
use Rattle.bundle_rules.specs.Places.{Around, in_field as in_field_walk}
use Rattle.bundle_tree_places.specs.Seconds.{second_of}
use Rattle.bundle_tree_places.proofs.SecondLemmas.{FirstIs, second_field}
use Rattle.bundle_order.specs.Seconds.{nothing_by}
use Rattle.bundle_order.specs.declared.spot.ItemFrame.{ItemFrame}
use Rattle.bundle_order.specs.declared.told.TopBinding.{TopBinding}
use Rattle.bundle_order.specs.Open.{AreItemFrames}

-- ---- second
drop_next : (p : ℕ) (xs : List Item) (x : Item) → slice_get xs p ≡ Some x → drop p xs ≡ x ∷ drop (p + 1) xs
drop_next p [] x e = absurd (none-some x e)
drop_next zero (y ∷ xs) x e = ap (λ (z : Item). z ∷ xs) (same_Some y x e)
drop_next (suc p) (y ∷ xs) x e = drop_next p xs x e ∙ ap (λ n. x ∷ drop n (y ∷ xs)) (let same : suc (p + 1) ≡ suc p + 1 = omega arith in same)

module _ (items : List Item) where
  nothing-is : (o : Option ℕ) (nodes : List (List Item)) → FirstIs items o nodes → is_nothing nodes ≡ not (is_some o)
  nothing-is None nodes e = ap is_nothing e
  nothing-is (Some q) nodes (x, node, more, at, e) = ap is_nothing e

  -- of an element that opens no node
  alone : (p : ℕ) (x : Item) → slice_get items p ≡ Some x → is_nothing (in_field 1 (node_at items p)) ≡ is_nothing (in_field 1 (first_or_nothing (side_by_side zero (x ∷ drop (p + 1) items))))
  alone p x e = ap (λ (l : List Item). is_nothing (in_field 1 (first_or_nothing (side_by_side zero l)))) (drop_next p items x e)

  -- whether nothing is there, by the first element
  pub nothing_is : (p : ℕ) (x : Item) → slice_get items p ≡ Some x → is_nothing (in_field 1 (node_at items p)) ≡ nothing_by x (second_of items p)
  nothing_is p (h.Open field head) e = nothing-is (second_of items p) (in_field 1 (node_at items p)) (second_field items p field head e)
  nothing_is p (h.Ident field symbol ctxt role) e = alone p (h.Ident field symbol ctxt role) e
  nothing_is p (h.Hole field) e = alone p (h.Hole field) e
  nothing_is p h.Close e = alone p h.Close e

-- ---- walk
pub in_any_field : (item : List Item) (told : ℕ → TopBinding) (field : ℕ) (frames : List ItemFrame) (path : List Around) → AreItemFrames item told frames path → AreItemFrames item told frames (in_field_walk field path)
in_any_field item told field [] [] a = a
in_any_field item told field [] (node ∷ outer) a = absurd a
in_any_field item told field (frame ∷ frames) [] a = absurd a
in_any_field item told field (frame ∷ frames) (node ∷ outer) a = (record { head = a.0.head; begins = a.0.begins; spot = a.0.spot; calls = a.0.calls }, a.1)
