-- Trees in which no name is declared beside another that excludes it, by symbol and context.
use Rattle.std.specs.Prelude.{◌≡◌, List, None, find}
use Rattle.bundle_syntax.specs.Item.{Item}
use Rattle.bundle_rules.specs.Scopes.{Es}
use Rattle.bundle_rules.specs.Declarations.{ByContext, declared}
use Rattle.bundle_rules.specs.Doubled.{is_doubled}

-- no declaration of a tree clashes with one before it, by symbol and context
abbrev pub IsUndoubled : List Item → Type 0
IsUndoubled items =
    find (is_doubled (declared ByContext Es items)) (declared ByContext Es items) ≡ None
