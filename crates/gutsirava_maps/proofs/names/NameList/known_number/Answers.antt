-- Of each name that is there the number is known.
use Rattle.std.proofs.Common.{◌∙◌, refl, sym}
use Rattle.gutsirava_maps.proofs.NameLemmas.{new_other, new_unknown}
use Rattle.gutsirava_maps.proofs.names.NameList.known_number.Goals as goal

pub returns-in_err-number-clause-new : goal.returns-in_err-number-clause-new
returns-in_err-number-clause-new c = rw c.from_residual.ensures
    (new_unknown c.args.self.now.numbers c.args.self.now.names.items c.args.name.now
    (sym c.get.ensures.value ∙ rw c.in_err-number.was refl) c.args.self.now.numbered)

pub returns-else-is_called-clause-new : goal.returns-else-is_called-clause-new
returns-else-is_called-clause-new c =
    new_other c.args.self.now.numbers c.args.self.now.names.items c.args.name.now c.in_ok-number.field-0.now
    (sym c.get.ensures.value ∙ rw c.in_ok-number.was refl)
    (rw c.as_slice.ensures.value at (c.is_called.ensures.other c.if-is_called.false)) c.args.self.now.numbered
