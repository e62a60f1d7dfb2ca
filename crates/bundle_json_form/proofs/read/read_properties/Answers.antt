-- What is refused is no list of forms; a value is that of one list at most.
use Rattle.std.proofs.Common.{ap, map, sym}
use Rattle.bundle_syntax.specs.Item.{item_of}
use Rattle.bundle_json_form.proofs.Growth.{handed, no_forms}
use Rattle.bundle_json_form.proofs.Unique.{only_read_each}
use Rattle.bundle_json_form.proofs.read.read_properties.Goals as goal

pub returns-in_err-read_list-clause-refused : goal.returns-in_err-read_list-clause-refused
returns-in_err-read_list-clause-refused c =
    handed _ _ c.from_residual.ensures.1 (no_forms _ _ _ _ c.top.ensures (sym c.in-Some.ensures)) c.in_err-read_list.ensures.refused

pub returns-clause-only : goal.returns-clause-only
returns-clause-only c =
    only_read_each _ _ _ _ _ _ c.top.ensures (ap (map item_of) c.new-pieces.ensures.items) (sym c.in-Some.ensures) c.in_ok-read_list.ensures.read
