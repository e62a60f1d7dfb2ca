use Rattle.std.proofs.Common.{◌≡◌, length, take, flat_map, string_bytes}
use Rattle.std.specs.Str.{chars}
use Rattle.gutsirava_views.specs.Xml.{xml_char}
use Rattle.gutsirava_views.proofs.picture.marking.xml_text.Given as goal

abbrev pub invariant-loop-c : goal.invariant-loop-c
invariant-loop-c l =
    string_bytes l.marked ≡ flat_map xml_char (take (length l.yielded) (chars l.text))
