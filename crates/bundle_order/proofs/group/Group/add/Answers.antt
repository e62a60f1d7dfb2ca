-- One item more in a group.
use Rattle.std.proofs.Common.{◌≡◌, ℕ, ◌+◌, Bool, true, false, not, cond, Option, None, Some, is_some, unwrap_or, List, [], ◌∷◌, ◌++◌, length, map, refl, sym, ap, ◌∙◌, arith}
use Rattle.std.proofs.lemmas.Bool.{false≢true}
use Rattle.std.proofs.lemmas.List.{length-append, length-map, map-append}
use Rattle.bundle_syntax.specs.declared.piece.Piece.{Piece}
use Rattle.bundle_syntax.specs.Item.{Item, item_of}
use Rattle.bundle_order.specs.declared.needs.ItemRange.{ItemRange}
use Rattle.bundle_order.specs.Cut.{cut_items}
use Rattle.bundle_order.specs.Owners.{range_module}
use Rattle.bundle_order.specs.Grouped.{begun}
use Rattle.bundle_order.proofs.NumberingLemmas.{begun-push, cut-more}
use Rattle.bundle_order.proofs.group.Group.add.Goals as goal

owner-is : (owner : Option ℕ) (b : Bool) (m : ℕ) → is_some owner ≡ not b → m ≡ unwrap_or owner 0 → cond b None (Some m) ≡ owner
owner-is None true m e f = refl
owner-is None false m e f = absurd (false≢true e)
owner-is (Some n) true m e f = absurd (false≢true (sym e))
owner-is (Some n) false m e f = ap (λ x. Some x) f

pub returns-clause-group : goal.returns-clause-group
returns-clause-group c = λ lists owners g.
    let item = c.args.item.now in
    let x = map item_of item in
    let old = c.args.self.now in
    let pushed = c.in_ok-extend_from_slice.ensures.items in
    let range : ItemRange = record { from = c.len-from.result; to = c.len.result; which = c.unwrap_or.result; is_free = c.is_none.result } in
    let count : length old.list.items ≡ length (begun lists) = sym (length-map old.list.items item_of) ∙ ap length g.list in
    let from : range.from ≡ length (begun lists) = omega (arith, c.len-from.ensures, old.list.ok.0, count) in
    let to : range.to ≡ length (begun lists) + length x = omega (arith, c.len.ensures, c.extend_from_slice.new.self.ok.0, ap length pushed, length-append old.list.items item, length-map item item_of, count) in
    record {
      list = ap (λ (l : List Piece). map item_of l) pushed ∙ (map-append item_of old.list.items item ∙ (ap (λ (l : List Item). l ++ x) g.list ∙ begun-push lists x));
      cut = λ rest. ap (λ (l : List ItemRange). cut_items (begun (lists ++ x ∷ []) ++ rest) l) c.in_ok-push.ensures.items ∙ cut-more lists x range from to old.ranges.items g.cut rest;
      owned = ap (λ (l : List ItemRange). map range_module l) c.in_ok-push.ensures.items ∙ (map-append range_module old.ranges.items (range ∷ []) ∙ (ap (λ (l : List (Option ℕ)). l ++ range_module range ∷ []) g.owned ∙ ap (λ (o : Option ℕ). owners ++ o ∷ []) (owner-is c.args.owner c.is_none.result c.unwrap_or.result c.is_none.ensures c.unwrap_or.ensures)));
    }
