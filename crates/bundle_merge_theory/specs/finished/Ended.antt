-- How what was merged gets the names that its bindings have in the end: all in one go.
use Rattle.std.specs.Prelude.{◌≡◌, Bool, true, false, List, map, string_bytes, if◌then◌else◌}
use Rattle.std.specs.Option.{option_map}
use Rattle.bundle_syntax.specs.Item.{Item}
use Rattle.bundle_rules.specs.Scopes.{Es}
use Rattle.bundle_rules.specs.Declarations.{ByContext}
use Rattle.bundle_rules.specs.Idents.{Ident, idents}
use Rattle.bundle_rules.specs.Rebuilds.{with_idents}
use Rattle.bundle_rules.specs.Renamed.{IsNamed, IsRidOfKeywords}
use Rattle.bundle_scope_denote.specs.declared.table.Denotations.{Denotations}
use Rattle.bundle_scope_denote.specs.Listed.{IsDenotationTable}
use Rattle.bundle_scope_names.specs.declared.names.Names.{Names}
use Rattle.bundle_scope_names.specs.declared.names.ContextRule.{ContextRule}
use Rattle.bundle_scope_names.specs.declared.names.ContextRule.TheVariants.{Keep, Clear}
use Rattle.bundle_scope_names.specs.Called.{called_in, in_context, keyword_text}
use Rattle.bundle_scope_names.specs.Fresh.{AreContexts}
use Rattle.bundle_scope_names.specs.Turns.{AreBindingsNamed}

-- what the identifiers of a tree become, by this table of what they denote and these names of
-- bindings, where contexts stay or are 0
abbrev pub idents_called : Denotations → Names → ContextRule → List Item → List Ident
idents_called table names contexts tree =
    map (in_context contexts)
    (called_in names (idents tree) (map (λ denoted. denoted.binding) table.occurrences.items))

-- names of the bindings of a tree that has this table: those of keywords, and where bindings are
-- renamed, those that the naming rule gives in turn over these
pub record AreEndNames (renames : Bool) (tree : List Item) (table : Denotations) (names : Names) :
    Type 0 where
  pub keywords : Names
  pub texts : map (option_map string_bytes) keywords.texts.items ≡ map
      (λ binding. keyword_text binding.sym.now) table.bindings.items
  pub contexts : AreContexts tree table.bindings.items
      (map (option_map string_bytes) keywords.texts.items) keywords.contexts.items
  pub kept : renames ≡ false → names ≡ keywords
  pub named : renames ≡ true → AreBindingsNamed table tree keywords names

-- the same tree, in which each binding is called so; where bindings are renamed, contexts are 0
pub record IsNamedAtOnce (renames : Bool) (before after : List Item) : Type 0 where
  pub table : Denotations
  pub denotes : IsDenotationTable ByContext Es before table
  pub names : Names
  pub right : AreEndNames renames before table names
  pub is : after ≡ with_idents before
      (idents_called table names (if renames then Clear else Keep) before)

-- it comes of two renamings, one after the other: first keywords go, and then bindings are renamed
-- by the naming rule
pub record IsNamedInTurn (renames : Bool) (before after : List Item) : Type 0 where
  pub free : List Item
  pub rid : IsRidOfKeywords before free
  pub named : renames ≡ true → IsNamed free after
  pub kept : renames ≡ false → after ≡ free
