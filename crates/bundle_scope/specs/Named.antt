-- What is said of a tree whose bindings are called otherwise: how it is made, and what it then
-- promises.
use Rattle.std.specs.Prelude.{◌≡◌, ℕ, List, None, map, string_bytes}
use Rattle.std.specs.Option.{option_map}
use Rattle.bundle_syntax.specs.declared.piece.Role.TheVariants.{Word as IsWord}
use Rattle.bundle_syntax.specs.Item as h
use Rattle.bundle_syntax.specs.Item.{Item}
use Rattle.bundle_rules.specs.Scopes.{Es}
use Rattle.bundle_rules.specs.Declarations.{ByContext}
use Rattle.bundle_rules.specs.Denotes.{IsResolved}
use Rattle.bundle_rules.specs.Doubled.{first_doubled}
use Rattle.bundle_rules.specs.Idents.{Ident, idents}
use Rattle.bundle_rules.specs.Rebuilds.{with_idents}
use Rattle.bundle_rules.specs.Renamed.{HasNamesOnly, IsNamed, IsRidOfKeywords}
use Rattle.bundle_scope_denote.specs.declared.table.Denotations.{Denotations}
use Rattle.bundle_scope_denote.specs.Listed.{IsDenotationTable}
use Rattle.bundle_scope_names.specs.declared.names.Names.{Names}
use Rattle.bundle_scope_names.specs.declared.names.ContextRule.{ContextRule}
use Rattle.bundle_scope_names.specs.declared.names.ContextRule.TheVariants.{Keep, Clear}
use Rattle.bundle_scope_names.specs.Called.{called_in, in_context, keyword_text, binding_text, context_of}
use Rattle.bundle_scope_names.specs.Fresh.{AreContexts}
use Rattle.bundle_scope_names.specs.Turns.{AreBindingsNamed}
use Rattle.bundle_scope_names.specs.Undoubled.{IsUndoubled}

-- what the identifiers of a tree become, by this table of what they denote and these names of
-- bindings, where contexts stay or are 0
abbrev pub called_by : Denotations → Names → ContextRule → List Item → List Ident
called_by table names contexts tree =
    map (in_context contexts)
    (called_in names (idents tree) (map (λ denoted. denoted.binding) table.occurrences.items))

-- the same tree, in which each binding with a keyword's symbol has `__` before it, and every other
-- keeps its symbol; a context changes only where another would be told by the same
pub record RenamesKeywords (before after : List Item) : Type 0 where
  pub table : Denotations
  pub denotes : IsDenotationTable ByContext Es before table
  pub names : Names
  pub texts :
      map (option_map string_bytes) names.texts.items
      ≡ map (λ binding. keyword_text binding.sym.now) table.bindings.items
  pub contexts :
      AreContexts before table.bindings.items (map (option_map string_bytes) names.texts.items)
      names.contexts.items
  pub is : after ≡ with_idents before (called_by table names Keep before)

-- an element, the context of a plain word aside, which denotes nothing
abbrev pub word_aside : Item → Item
word_aside (h.Ident field sym ctxt IsWord) = h.Ident field sym 0 IsWord
word_aside x = x

-- a tree, the contexts of plain words aside
abbrev pub words_aside : List Item → List Item
words_aside tree = map word_aside tree

-- each plain word has the context 0
abbrev pub AreWordsClear : List Item → Type 0
AreWordsClear tree = words_aside tree ≡ tree

-- the same tree, in which each binding is called by the name that the naming rule gives it in turn,
-- wherever it occurs, and a global keeps its symbol; each context is 0
pub record RenamesBindings (before after : List Item) : Type 0 where
  pub table : Denotations
  pub denotes : IsDenotationTable ByContext Es before table
  pub kept : Names
  pub texts_kept : (number : ℕ) → binding_text kept number ≡ None
  pub contexts_kept : (number : ℕ) → context_of kept number ≡ None
  pub names : Names
  pub named : AreBindingsNamed table before kept names
  pub is : after ≡ words_aside (with_idents before (called_by table names Clear before))

-- What is promised of a tree that is resolved, and in which each declaration has an identifier.

-- it is rid of keywords
abbrev pub FreesOfKeywords : List Item → List Item → Type 0
FreesOfKeywords before after =
    IsResolved Es before → HasNamesOnly before → IsRidOfKeywords before after

-- and is again one whose names can be told apart by symbols alone: each declaration has an
-- identifier, and none is doubled that was not
abbrev pub StaysNamed : List Item → List Item → Type 0
StaysNamed before after =
    IsResolved Es before →
    HasNamesOnly before →
    HasNamesOnly after × (IsUndoubled before → IsUndoubled after)

-- names alone give the same bindings, and none is changed without need
abbrev pub TellsByNames : List Item → List Item → Type 0
TellsByNames before after = IsResolved Es before → HasNamesOnly before → IsNamed before after

-- no name is declared where another of its name excludes it, if none was
abbrev pub StaysUndoubled : List Item → List Item → Type 0
StaysUndoubled before after =
    IsResolved Es before → HasNamesOnly before → IsUndoubled before → first_doubled Es after ≡ None
