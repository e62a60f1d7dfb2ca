-- A shorthand is spelled out where its symbol changes.
use Rattle.std.proofs.Common.{ap, sym, ◌∙◌}
use Rattle.bundle_rules.specs.Rebuilds.{key_in_object}
use Rattle.bundle_tree_rename.proofs.Spelling.{prop-spelled_out, prop-stays}
use Rattle.bundle_tree_rename.proofs.rename.Rename.shorthand.Goals as goal

pub returns-in_ok-key : goal.returns-in_ok-key
returns-in_ok-key c = prop-spelled_out c.in_ok-key.key c.in_ok-name.ensures (sym c.spells_out-is_spelled_out.ensures ∙ c.if-is_spelled_out.true) (c.in_ok-key.ensures ∙ ap key_in_object c.as_str.ensures.value)

pub returns-in_ok-ident : goal.returns-in_ok-ident
returns-in_ok-ident c = prop-stays c.in_ok-ident.ensures (sym c.spells_out-is_spelled_out.ensures ∙ c.if-is_spelled_out.false)
