-- A node that begins is the innermost one.
use Rattle.std.proofs.Common.{List, reverse, sym, subst}
use Rattle.bundle_syntax.specs.declared.piece.Piece.{Piece}
use Rattle.bundle_syntax.specs.Item as h
use Rattle.bundle_syntax.specs.Item.{head_of, item_of}
use Rattle.bundle_rules.specs.Places.{path_past}
use Rattle.bundle_tree_places.specs.Placed.{AreOpen}
use Rattle.bundle_tree_places.specs.declared.places.Frame.{Frame}
use Rattle.bundle_tree_places.proofs.PlaceLemmas.{in_any_field}
use Rattle.bundle_tree_places.proofs.places.step_past.Goals as goal

pub returns-in_ok-push_frame-in-Open : goal.returns-in_ok-push_frame-in-Open
returns-in_ok-push_frame-in-Open c = λ place path all.
    let lent = subst (λ (l : List Frame). AreOpen (reverse l) path) (sym c.deref.ensures.value) all in
    subst (λ (x : Piece). AreOpen (reverse c.push_frame.new.frames.items) (path_past place path (item_of x))) (sym c.in-Open.is)
    (subst (λ (l : List Frame). AreOpen l (path_past place path (h.Open c.in-Open.field (head_of c.in-Open.node)))) (sym c.in_ok-push_frame-in-Open.ensures)
    (c.frame_at-frame.ensures place path lent, in_any_field c.in-Open.field (reverse c.args.frames.now.items) path all))
