use Rattle.std.proofs.Common.{string_bytes, is_ok, rules}
use Rattle.std.specs.Char.{IsScalar}
use Rattle.std.proofs.lemmas.Str.{IsUtf8-string_bytes, IsUtf8-encode}
use Rattle.gutsirava_report.proofs.QuietLemmas.{quiet_pushed, chars_when_pushed}
use Rattle.gutsirava_report.proofs.shown.Shown.put.Goals as goal

pub invariant_of-self : goal.invariant_of-self
invariant_of-self c =
    let scalar : IsScalar c.quieted-c.result = search rules in
    record {
      quiet = quiet_pushed (string_bytes c.args.self.now.text) (string_bytes c.push.new.self) c.quieted-c.result (is_ok c.push.result)
          (IsUtf8-string_bytes c.args.self.now.text) (IsUtf8-encode c.quieted-c.result scalar) c.args.self.now.quiet
          c.quieted-c.ensures.quiet c.push.ensures.bytes;
    }

pub returns : goal.returns
returns c =
    let scalar : IsScalar c.quieted-c.result = search rules in
    λ quiet. chars_when_pushed c.push.result (string_bytes c.args.self.now.text) (string_bytes c.push.new.self) c.quieted-c.result c.args.c
    (IsUtf8-string_bytes c.args.self.now.text) (IsUtf8-encode c.quieted-c.result scalar)
    (c.quieted-c.ensures.same quiet) c.push.ensures.bytes
