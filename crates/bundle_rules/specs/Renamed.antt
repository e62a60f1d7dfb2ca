-- What is owed for the contexts and names of one tree: by the resolver, by the renaming of
-- keywords, and by the naming that makes each name denote by its symbol alone (ECMA-262, 9.1 and
-- 9.4.2). Each gives the same tree with other identifiers: what is spelled out is so where a symbol
-- changes, and nowhere else.
use Rattle.std.specs.Prelude.{◌≡◌, ℕ, ◌+◌, ◌<◌, IsTrue, is_some, List, None, Contains}
use Rattle.std.specs.List.{AllZip}
use Rattle.bundle_syntax.specs.Item.{Item}
use Rattle.bundle_rules.specs.Scopes.{ModuleKind, Es}
use Rattle.bundle_rules.specs.Declarations.{BySymbol, ByContext, Declared, declared}
use Rattle.bundle_rules.specs.Denotes.{DenoteAlike, IsResolutionOf}
use Rattle.bundle_rules.specs.Contexts.{GivesContexts}
use Rattle.bundle_rules.specs.Counts.{scope_count, binding_count}
use Rattle.bundle_rules.specs.Doubled.{first_doubled}
use Rattle.bundle_rules.specs.Keywords.{IsKeywordFree}
use Rattle.bundle_rules.specs.Renaming.{IsRenamed}
use Rattle.bundle_rules.specs.Cleared.{cleared, without_notes}
use Rattle.bundle_rules.specs.Idents.{Ident, idents}
use Rattle.bundle_rules.specs.Rebuilds.{with_idents}

-- the same tree with the identifiers that it has: nothing else changes but what is spelled out
-- where a symbol changes; plain words keep their contexts, and notes stay
abbrev pub IsRebuilt : List Item → List Item → Type 0
IsRebuilt before after = after ≡ with_idents before (idents after)

-- The resolver.

-- the same tree but for contexts, which tell its bindings apart: the local one at the top, 1 for
-- globals, and for all else numbers from `next` on, of which `later` is the next one that is free
pub record IsResolvedFrom
    (kind : ModuleKind) (local next later : ℕ) (before after : List Item) : Type 0 where
  pub same : IsRebuilt before after
  pub resolution : IsResolutionOf kind before after
  pub contexts : GivesContexts kind local next later before after

-- it may refuse for want of contexts only where no name is declared twice, and numbers from the
-- next one on do not suffice for all scopes and bindings
pub record MayLackContexts (kind : ModuleKind) (tree : List Item) (next : ℕ) : Type 0 where
  pub undoubled : first_doubled kind tree ≡ None
  pub too_many : 4294967295 < next + scope_count kind tree + binding_count kind tree

-- Keywords and names. Both take a tree that is resolved and in which each declaration has an
-- identifier.

-- each declaration has an identifier: there is no default export without a name
abbrev pub HasNamesOnly : List Item → Type 0
HasNamesOnly tree =
    (d : Declared) → Contains (declared ByContext Es tree) d → IsTrue (is_some d.name.ctxt)

-- renaming of keywords: the same tree but for identifiers, no binding has a keyword's symbol, and
-- each name denotes what it did
pub record IsRidOfKeywords (before after : List Item) : Type 0 where
  pub same : IsRebuilt before after
  pub free : IsKeywordFree before after

-- names keep their meaning: but for notes, the tree is the one before with other symbols and each
-- context 0; each name denotes by its symbol what it denoted by symbol and context, and globals
-- keep their symbols
pub record KeepsNames (before after : List Item) : Type 0 where
  pub same : without_notes after ≡ cleared (with_idents before (idents after))
  pub alike : DenoteAlike ByContext before BySymbol after

-- the names promise: names keep their meaning, and none is changed without need
pub record IsNamed (before after : List Item) : Type 0 where
  pub keeps : KeepsNames before after
  pub renamed : IsRenamed before after

-- Maps of identifiers.

-- the same tree, but each identifier is one that `Becomes` says
pub record IsRenamedBy (Becomes : Ident → Ident → Type 0) (before after : List Item) : Type 0 where
  pub same : IsRebuilt before after
  pub names : AllZip Becomes (idents before) (idents after)
