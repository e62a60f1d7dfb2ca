use Rattle.std.proofs.Common.{ℕ, List, map, get_or, reverse, sym, subst}
use Rattle.bundle_syntax.specs.declared.piece.Piece.{Piece}
use Rattle.bundle_syntax.specs.Item as h
use Rattle.bundle_syntax.specs.Item.{head_of, item_of}
use Rattle.bundle_rules.specs.Places.{path_past}
use Rattle.bundle_order.specs.declared.spot.ItemFrame.{ItemFrame}
use Rattle.bundle_order.specs.Told.{no_binding_told}
use Rattle.bundle_order.specs.Open.{AreItemFrames}
use Rattle.bundle_order.proofs.SecondLemmas.{in_any_field}
use Rattle.bundle_order.proofs.walk.step_past.Goals as goal

pub returns-in_ok-push_frame-in-Open : goal.returns-in_ok-push_frame-in-Open
returns-in_ok-push_frame-in-Open c = λ path seconds all.
    let items = map item_of c.args.item.now in
    let lent = subst (λ (l : List ItemFrame). AreItemFrames items (λ (p : ℕ). get_or c.args.told.now p no_binding_told) (reverse l) path) (sym c.deref.ensures.value) all in
    subst (λ (x : Piece). AreItemFrames items (λ (p : ℕ). get_or c.args.told.now p no_binding_told) (reverse c.push_frame.new.frames.items) (path_past c.args.place path (item_of x))) (sym c.in-Open.is)
    (subst (λ (l : List ItemFrame). AreItemFrames items (λ (p : ℕ). get_or c.args.told.now p no_binding_told) l (path_past c.args.place path (h.Open c.in-Open.field (head_of c.in-Open.node)))) (sym c.in_ok-push_frame-in-Open.ensures)
    (c.frame_at-frame.ensures path seconds lent, in_any_field items (λ (p : ℕ). get_or c.args.told.now p no_binding_told) c.in-Open.field (reverse c.args.frames.now.items) path all))
