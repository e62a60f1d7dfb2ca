use Rattle.std.proofs.Common.{refl, length, eq-eqb}
use Rattle.std.proofs.lemmas.Bool.{eqb-true}
use Rattle.std.proofs.lemmas.Option.{slice_get_read}
use Rattle.bundle_order_sort.proofs.ItemLemmas.{ShareModule-made, ShareModule-same}
use Rattle.bundle_order_sort.proofs.needs.share_module.Goals as goal

pub returns : goal.returns
returns c =
    let items = c.args.items.now in
    let first = c.index-items-one.result in
    let second = c.index-items-other.result in
    let at_one = slice_get_read items (length items) c.args.one first refl c.requires.one_in c.index-items-one.is in
    let at_other = slice_get_read items (length items) c.args.other second refl c.requires.other_in c.index-items-other.is in (
      λ h. ShareModule-made items c.args.one c.args.other first second at_one at_other c.if-first.false c.if-second.false (eqb-true first.which second.which h),
      λ s. eq-eqb first.which second.which (ShareModule-same items c.args.one c.args.other first second at_one at_other s),
    )
