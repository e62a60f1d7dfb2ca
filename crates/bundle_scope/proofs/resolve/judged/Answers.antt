-- The name is that of the first declaration that is doubled.
use Rattle.std.proofs.Common.{map, subst}
use Rattle.bundle_syntax.specs.Item.{item_of}
use Rattle.bundle_rules.specs.Doubled.{first_doubled}
use Rattle.bundle_scope_denote.specs.Kinds.{kind_as}
use Rattle.bundle_scope.specs.Refusals.{IsDoubled, doubled}
use Rattle.bundle_scope.proofs.RefusalLemmas.{told-is}
use Rattle.bundle_scope.proofs.resolve.judged.Goals as goal

pub returns-in-Some-clause-refused : goal.returns-in-Some-clause-refused
returns-in-Some-clause-refused c =
    doubled c.in-Some.doubled.name.now
    (told-is (first_doubled (kind_as c.args.kind) (map item_of c.args.list.now)) c.in-Some.doubled c.in_ok-doubled.field-0 c.in-Some.is c.in_ok-doubled.ensures)
    (subst (λ file. IsDoubled file c.in-Some.doubled.name.now c.in_ok-doubled_fault.field-0) c.file.ensures c.in_ok-doubled_fault.ensures)
