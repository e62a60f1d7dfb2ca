-- What follows a call, the name and an argument, one after the other.
use Rattle.std.proofs.Common.{ap, ◌∙◌, map}
use Rattle.bundle_syntax.specs.Item.{item_of}
use Rattle.bundle_rules.specs.Entries.{after, is_call, is_plain_argument, is_require_name, only_argument}
use Rattle.bundle_link_tables.proofs.CallLemmas.{after_told}
use Rattle.bundle_link_tables.proofs.calls.required_text.Goals as goal

pub returns : goal.returns
returns c =
    let name = after_told is_call _ (map item_of c.args.pieces.now) _ c.begins_call.ensures c.after_if-name.ensures in
    let argument = after_told is_require_name _ (map item_of c.after_if-name.result.now) _ c.begins_require.ensures c.after_if-argument.ensures in
    let string = after_told is_plain_argument _ (map item_of c.after_if-argument.result.now) _ c.begins_argument.ensures c.after_if-string.ensures in
    c.only_argument.ensures
    ∙ ap only_argument (string ∙ ap (after is_plain_argument) (argument ∙ ap (after is_require_name) name))
