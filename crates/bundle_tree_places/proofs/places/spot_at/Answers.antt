-- By the innermost open node, if there is one.
use Rattle.std.proofs.Common.{refl}
use Rattle.bundle_tree_places.proofs.PlaceLemmas.{spot_inside, spot_outside}
use Rattle.bundle_tree_places.proofs.places.spot_at.Goals as goal

pub returns-then-frames-gt0 : goal.returns-then-frames-gt0
returns-then-frames-gt0 c = λ path all.
    spot_inside c.args.frames.now c.index-frames-frames.result path c.if-frames-gt0.true c.index-frames-frames.is c.args.field c.inside.result c.inside.ensures.written c.inside.ensures.base c.inside.ensures.stated all

pub returns-else-frames-gt0 : goal.returns-else-frames-gt0
returns-else-frames-gt0 c = λ path all. spot_outside c.args.frames.now path c.if-frames-gt0.false c.args.field _ refl refl refl all
