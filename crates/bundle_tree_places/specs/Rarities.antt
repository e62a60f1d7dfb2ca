-- The nodes that few modules have.
use Rattle.std.specs.Prelude.{Bool, ◌||◌}
use Rattle.bundle_syntax.specs.Item.{Head}
use Rattle.bundle_rules.specs.Awaits.{awaits}
use Rattle.bundle_rules.specs.Bundle.{is_with}
use Rattle.bundle_rules.specs.Entries.{is_import_meta}

-- whether a node is a `with` statement, `import.meta`, an `await` or a `for await`
abbrev pub is_rare : Head → Bool
is_rare head = is_with head || (is_import_meta head || awaits head)
