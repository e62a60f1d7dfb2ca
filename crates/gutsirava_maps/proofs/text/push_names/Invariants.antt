use Rattle.std.proofs.Common.{take, map, string_bytes}
use Rattle.json.specs.Token.{string}
use Rattle.gutsirava_maps.specs.Text.{Tells}
use Rattle.gutsirava_maps.proofs.text.push_names.Given as goal

abbrev pub invariant-loop-name : goal.invariant-loop-name
invariant-loop-name l = Tells l.initial.writer l.writer (map string (map string_bytes (take l.name-index l.names)))
