-- How often a tree declares `default`.
use Rattle.std.specs.Prelude.{◌≡◌, List, None, Contains}
use Rattle.bundle_syntax.specs.Item.{Item}
use Rattle.bundle_rules.specs.Scopes.{Es}
use Rattle.bundle_rules.specs.Doubled.{first_doubled}
use Rattle.bundle_rules.specs.Statements.{Element, written, own_statements, default_name}
use Rattle.bundle_rules.specs.Entries.{imports_of, import_of}

-- a tree that declares `default` without a name, and declares no name twice, binds it by no import
abbrev pub DeclaresDefaultAlone : List Item → Type 0
DeclaresDefaultAlone tree =
    first_doubled Es tree ≡ None →
    (statement : List Element) (e : Item) →
    Contains (own_statements tree) statement →
    Contains statement (written e) →
    import_of (imports_of tree) default_name ≡ None
