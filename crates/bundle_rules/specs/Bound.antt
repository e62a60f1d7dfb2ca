-- Which names of a module its top binds, and which nothing binds (ECMA-262, 16.2.1.6 on the
-- environment of a module). The module is read as ES code here: its kind in a bundle does not
-- matter to what it asks for.
use Rattle.std.specs.Prelude.{ℕ, Bool, true, false, ◌&&◌, List, Option, Some, bytes_eq, map}
use Rattle.std.specs.List.{list_any}
use Rattle.bundle_syntax.specs.Item.{Item}
use Rattle.bundle_rules.specs.Places.{occurrences}
use Rattle.bundle_rules.specs.Scopes.{Es}
use Rattle.bundle_rules.specs.Declarations.{BySymbol}
use Rattle.bundle_rules.specs.Homes.{top_declared}
use Rattle.bundle_rules.specs.Denotes.{Denoted, Global, denoted_at}
use Rattle.bundle_rules.specs.Nodes.{Text}

-- the names that the top of a module binds
abbrev pub top_names : List Item → List Text
top_names tree = map (λ d. d.name.sym) (top_declared BySymbol Es tree)

-- whether this is a global
abbrev pub is_global : Option Denoted → Bool
is_global (Some (Global x)) = true
is_global _ = false

-- whether nothing in the module binds the name at a place
abbrev pub is_free : List Item → ℕ → Bool
is_free tree place = is_global (denoted_at BySymbol Es tree place)

-- whether the name x stands somewhere in the module where nothing binds it
abbrev pub has_free : List Item → Text → Bool
has_free tree x = list_any (λ o. bytes_eq x o.sym && is_free tree o.place) (occurrences tree)
