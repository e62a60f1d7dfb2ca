use Rattle.std.proofs.Common.{ℕ, map, get_or, sym, ap, ◌∙◌}
use Rattle.bundle_syntax.specs.declared.piece.Piece.{Piece}
use Rattle.bundle_syntax.specs.Item.{item_of}
use Rattle.bundle_rules.specs.Places.{occurrence_of}
use Rattle.bundle_order.specs.Told.{no_binding_told}
use Rattle.bundle_order.specs.Cut.{seen_by}
use Rattle.bundle_order.proofs.LaterLemmas.{seen_once}
use Rattle.bundle_order.proofs.seeing.seen_here.Goals as goal

pub returns-in-Some : goal.returns-in-Some
returns-in-Some c = λ at place seconds all.
    let items = map item_of c.args.item.now in
    seen_once c.args.number (λ (p : ℕ). get_or c.args.told.now p no_binding_told) items at c.args.place c.in-Ident.field c.in-Ident.sym.now c.in-Ident.ctxt c.in-Ident.role c.in-Some.binding c.seen_at.result place (sym c.in-Some.is ∙ c.binding_at.ensures) (λ o role path. c.seen_at.ensures (λ (p : ℕ). get_or c.args.told.now p no_binding_told) at.path o seconds all role path)
    ∙ ap (λ (x : Piece). seen_by c.args.number (λ (p : ℕ). get_or c.args.told.now p no_binding_told) items (occurrence_of at (item_of x))) (sym c.in-Ident.is)
