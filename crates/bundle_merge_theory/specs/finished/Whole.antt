-- The names that a merged tree gets in one go, and what has to be known of their numbers.
use Rattle.std.specs.Prelude.{◌≡◌, true, List, map}
use Rattle.bundle_syntax.specs.Item.{Item}
use Rattle.bundle_rules.specs.Places.{Occurrence, occurrences}
use Rattle.bundle_rules.specs.Scopes.{Es}
use Rattle.bundle_rules.specs.Declarations.{ByContext, Declared, declared}
use Rattle.bundle_rules.specs.Renaming.{Numbering}
use Rattle.bundle_rules.specs.Cleared.{cleared}
use Rattle.bundle_rules.specs.Idents.{Ident}
use Rattle.bundle_rules.specs.Rebuilds.{with_idents}
use Rattle.bundle_scope_names.proofs.naming_rule.Tables.{IsIn}
use Rattle.bundle_scope_names.proofs.naming_rule.Transfer.{Calling, named_right_by}
use Rattle.bundle_merge_theory.specs.finished.Numbers.{named_symbol}

-- the identifiers of the named tree, by the numbers of the merged one
abbrev pub renamed_idents : Calling → List Item → Numbering → List Ident
renamed_idents call tree numbers =
    map (λ (o : Occurrence). (named_symbol call tree numbers o, 0)) (occurrences tree)

-- the named tree, made in one go
abbrev pub named_at_once : Calling → List Item → Numbering → List Item
named_at_once call tree numbers = cleared (with_idents tree (renamed_idents call tree numbers))

-- the numbers are right by the symbols that bindings have without keywords
abbrev pub AreRightNumbers : Calling → List Item → Numbering → Type 0
AreRightNumbers call tree numbers =
    (d : Declared) →
    IsIn (declared ByContext Es tree) d →
    named_right_by numbers call (declared ByContext Es tree) (occurrences tree) d ≡ true
