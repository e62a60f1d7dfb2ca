-- The declarations gone over were met, and none of them is doubled.
use Rattle.std.proofs.Common.{List}
use Rattle.bundle_syntax.specs.Item.{Item}
use Rattle.bundle_rules.specs.Scopes.{ModuleKind}
use Rattle.bundle_rules.specs.Declarations.{BySymbol, declared}
use Rattle.bundle_scope_denote.specs.Steps.{IsWholeWalk}
use Rattle.bundle_scope_denote.specs.Barred.{is_often, HasMetFirst}
use Rattle.bundle_scope_denote.proofs.doubled.Met.first_excluded.Given as goal

abbrev pub invariant-loop-declaration : goal.invariant-loop-declaration
invariant-loop-declaration l = (kind : ModuleKind) (items : List Item) → IsWholeWalk l.fn.walk BySymbol kind items → HasMetFirst l.fn.walk (is_often l.fn.times) (declared BySymbol kind items) l.declaration-index l.self
