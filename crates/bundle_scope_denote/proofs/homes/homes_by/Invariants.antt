-- The homes of the declarations gone over.
use Rattle.std.proofs.Common.{take}
use Rattle.bundle_scope_denote.specs.Ready.{AreHomesOf}
use Rattle.bundle_scope_denote.proofs.homes.homes_by.Given as goal

abbrev pub invariant-loop-declaration : goal.invariant-loop-declaration
invariant-loop-declaration l = AreHomesOf l.walk l.parameters.keys (take l.declaration-index l.walk.declarations.items) l.homes
