use Rattle.std.proofs.Common.{refl, length, eq-eqb, sym, ap, ◌∙◌, arith}
use Rattle.std.proofs.lemmas.Bool.{eqb-true}
use Rattle.std.proofs.lemmas.Option.{same_Some, slice_get_read}
use Rattle.bundle_order_sort.proofs.needs.is_of.Goals as goal

pub returns : goal.returns
returns c =
    let items = c.args.items.now in
    let one = c.index-items-item.result in
    let at = slice_get_read items (length items) c.args.item one refl (omega (arith, c.if-item-items.false)) c.index-items-item.is in (
      λ h. record { item = one; at = at; bound = c.if-one.false; own = eqb-true one.which c.args.which h },
      λ o. eq-eqb one.which c.args.which (ap (λ i. i.which) (same_Some one o.item (sym at ∙ o.at)) ∙ o.own),
    )
