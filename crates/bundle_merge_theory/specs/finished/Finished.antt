-- What is asked of the names of a merged tree that is named and rid of keywords at once, over the
-- one tree.
use Rattle.std.specs.Prelude.{◌≡◌, ℕ, ◌==◌, ◌&&◌, not, cond, List, bytes_eq, map, IsTrue}
use Rattle.bundle_syntax.specs.Item.{Item}
use Rattle.bundle_rules.specs.Places.{Occurrence, occurrences}
use Rattle.bundle_rules.specs.Scopes.{Es}
use Rattle.bundle_rules.specs.Declarations.{ByContext, declared}
use Rattle.bundle_rules.specs.Denotes.{Denoted, denoted_of}
use Rattle.bundle_rules.specs.Keywords.{keyword_free_of, has_ident, is_unused_context}
use Rattle.bundle_rules.specs.Renaming.{Numbering, symbol_after}
use Rattle.bundle_rules.specs.Cleared.{cleared}
use Rattle.bundle_rules.specs.Idents.{Ident, idents}
use Rattle.bundle_rules.specs.Rebuilds.{changes_to, with_idents}
use Rattle.bundle_scope_names.proofs.naming_rule.Tables.{IsIn}
use Rattle.bundle_scope_names.proofs.naming_rule.Rebuilt.{place_in}
use Rattle.bundle_scope_names.proofs.naming_rule.Transfer.{Calling, recalled_denoted}

-- what an occurrence denotes in a tree, by symbol and context
abbrev pub denoted_by_table : List Item → Occurrence → Denoted
denoted_by_table tree o = denoted_of ByContext Es (declared ByContext Es tree) o

-- what the identifiers of a tree are called, in turn
abbrev pub called_idents : Calling → List Item → List Ident
called_idents call tree = map (λ (o : Occurrence). call o.sym o.ctxt) (occurrences tree)

-- the tree with these
abbrev pub recall : Calling → List Item → List Item
recall call tree = with_idents tree (called_idents call tree)

-- whether an identifier with this symbol and context may stand for another: `has_right_context`,
-- with what is new by its parts
abbrev pub IsRightContext : List Occurrence → Occurrence → List ℕ → ℕ → Type 0
IsRightContext all old sym ctxt =
    IsTrue
    (cond (not (bytes_eq old.sym sym) && has_ident all sym old.ctxt) (is_unused_context all ctxt)
    (ctxt == old.ctxt))

-- bindings with a keyword's symbol get `__` before it, and contexts change only where they must;
-- contexts that are taken anew tell apart what they are taken for
pub record IsKeywordCalling (call : Calling) (tree : List Item) : Type 0 where
  pub symbol : (o : Occurrence) → IsIn (occurrences tree) o →
      (call o.sym o.ctxt).0 ≡ keyword_free_of o.sym (denoted_by_table tree o)
  pub context : (o : Occurrence) → IsIn (occurrences tree) o →
      IsRightContext (occurrences tree) o (call o.sym o.ctxt).0 (call o.sym o.ctxt).1

-- the place of an element of the tree, once identifiers are called so
abbrev pub called_place : Calling → List Item → ℕ → ℕ
called_place call tree = place_in tree (changes_to (idents tree) (idents (recall call tree)))

-- the symbol of an occurrence by the numbers of the tree without keywords
abbrev pub final_symbol : Calling → List Item → Numbering → Occurrence → List ℕ
final_symbol call tree later o =
    symbol_after later (recalled_denoted call (called_place call tree) (denoted_by_table tree o))

-- the identifiers of the named tree, in turn
abbrev pub final_idents : Calling → List Item → Numbering → List Ident
final_idents call tree later =
    map (λ (o : Occurrence). (final_symbol call tree later o, 0)) (occurrences tree)

-- the named tree, made in one go
abbrev pub finished : Calling → List Item → Numbering → List Item
finished call tree later = cleared (with_idents tree (final_idents call tree later))
