-- Four pieces are put down.
use Rattle.std.proofs.Common.{refl}
use Rattle.gutsirava_bundle.proofs.CommentLemmas.{directive_of}
use Rattle.gutsirava_bundle.proofs.output.push_directive.Goals as goal

pub returns : goal.returns
returns c =
    directive_of c.extend_from_slice.result c.args.pieces.now.items _ c.extend_from_slice.new.self.items
    c.extend_from_slice.ensures.items refl
