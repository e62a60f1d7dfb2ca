use Rattle.std.proofs.Common.{take, map}
use Rattle.json.specs.Token.{string}
use Rattle.gutsirava_maps.specs.Text.{Tells}
use Rattle.gutsirava_maps.proofs.text.push_contents.Given as goal

abbrev pub invariant-loop-source : goal.invariant-loop-source
invariant-loop-source l =
    Tells l.initial.writer l.writer (map string (map (λ source. source.content.now) (take l.source-index l.sources)))
