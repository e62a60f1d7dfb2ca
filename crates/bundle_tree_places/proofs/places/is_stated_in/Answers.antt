-- By the innermost open node, unless that is the module.
use Rattle.std.proofs.Common.{not, sym, ap, ◌∙◌}
use Rattle.bundle_syntax.specs.Item.{head_of}
use Rattle.bundle_tree_places.specs.declared.places.Frame.{Frame}
use Rattle.bundle_tree_places.proofs.PlaceLemmas.{stated_deep, stated_item, stated_tree}
use Rattle.bundle_tree_places.proofs.places.is_stated_in.Goals as goal

pub returns-then-frames-gt1 : goal.returns-then-frames-gt1
returns-then-frames-gt1 c = λ path all. ap (λ (frame : Frame). frame.is_stated) (sym c.index-frames-frames.is) ∙ stated_deep c.args.frames.now c.index-frames-frames.result (head_of c.args.node) path c.if-frames-gt1.true c.index-frames-frames.is all

pub returns-then-frames-gt0 : goal.returns-then-frames-gt0
returns-then-frames-gt0 c = λ path all. ap not c.states_nothing.ensures ∙ stated_item c.args.frames.now (head_of c.args.node) path c.if-frames-gt1.false c.if-frames-gt0.true all

pub returns-else-frames-gt0 : goal.returns-else-frames-gt0
returns-else-frames-gt0 c = λ path all. stated_tree c.args.frames.now (head_of c.args.node) path c.if-frames-gt0.false all
