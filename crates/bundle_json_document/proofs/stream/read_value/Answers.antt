use Rattle.std.proofs.Common.{sym, ap, ◌∙◌, option_map}
use Rattle.json.specs.Value.{value_view}
use Rattle.serde_json.specs.Read.{converted, of_json}
use Rattle.bundle_json_document.specs.Numbers.{holds_of_read, is_whole}
use Rattle.bundle_json_document.proofs.Turns.{not_whole}
use Rattle.bundle_json_document.proofs.Whole.{whole_read}
use Rattle.bundle_json_document.proofs.stream.read_value.Goals as goal

pub returns-then-is_whole-clause-ok : goal.returns-then-is_whole-clause-ok
returns-then-is_whole-clause-ok c =
    let whole = sym c.is_whole.ensures ∙ c.if-is_whole.true in
    record {
      read =
          ap (converted of_json) c.in-Ok.ensures.ok
          ∙ ap (λ o. option_map (λ b. (b, c.read.new.reader)) o) (whole_read (value_view c.in-Ok.value) whole);
      whole = ap (holds_of_read is_whole) c.in-Ok.ensures.ok ∙ whole;
    }

pub returns-clause-refused : goal.returns-clause-refused
returns-clause-refused c = λ is_form rest d next.
    not_whole c.args.depth c.args.reader.now c.read.new.reader rest (value_view c.in-Ok.value) d
    c.in-Ok.ensures.ok (sym c.is_whole.ensures ∙ c.if-is_whole.false) next
