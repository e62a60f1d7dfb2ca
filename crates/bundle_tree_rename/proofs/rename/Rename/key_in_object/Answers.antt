-- A key `__proto__` is computed.
use Rattle.std.proofs.Common.{None, refl, sym}
use Rattle.bundle_tree_rename.proofs.Spelling.{computed_key_so}
use Rattle.bundle_tree_rename.proofs.rename.Rename.key_in_object.Goals as goal

pub returns-in_ok-expr : goal.returns-in_ok-expr
returns-in_ok-expr c = computed_key_so (record { expr = c.in_ok-expr.expr }) (record { value = c.in_ok-value.value; raw = None }) c.in_ok-expr.ensures.ok c.in_ok-value.ensures.ok refl (sym c.if-eq.ensures)
