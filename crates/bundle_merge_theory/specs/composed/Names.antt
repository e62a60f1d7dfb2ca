-- What the names of a bundle's items are told to mean, by their identifiers: by a table from
-- identifiers to labels, and
-- by each item by itself.
use Rattle.std.specs.Prelude.{◌≡◌, ℕ, List, [], ◌∷◌, Option, Some, Contains, find, fold, map, option_map}
use Rattle.std.specs.List.{AllZip, cons_option}
use Rattle.bundle_syntax.specs.Item.{Item}
use Rattle.bundle_rules.specs.Places.{Spot, Occurrence, past, occurrences, occurrences_from}
use Rattle.bundle_rules.specs.Scopes.{Es}
use Rattle.bundle_rules.specs.Declarations.{ByContext, Declared, declared, declaration_of}
use Rattle.bundle_rules.specs.Denotes.{Denoted, denoted_of}
use Rattle.bundle_rules.specs.Nodes.{Text}
use Rattle.bundle_rules.specs.Idents.{Ident, ident_of}
use Rattle.bundle_rules.specs.Rebuilds.{ident_eq}
use Rattle.bundle_rules.specs.Program.{Program}
use Rattle.bundle_rules.specs.Linking.{Declared as IsDeclared}
use Rattle.bundle_rules.specs.Meaning.{Of, Label, Labelling}
use Rattle.bundle_rules.specs.Symbols.{symbol_of_label}
pub use Rattle.bundle_merge_theory.specs.loaded.Names.{LabelTable, IsLabelled, labelled_top, labelled_inner, NameNoted, is_one_inside, is_known, is_known_top, is_free}
use Rattle.bundle_merge_theory.specs.loaded.Pieces as pieces
pub use Rattle.bundle_merge_theory.specs.loaded.Pieces.{own_from, is_told_inside, told_inside}
use Rattle.bundle_merge_theory.specs.walked.Renaming.{ItemMeaning}
use Rattle.bundle_merge_theory.specs.composed.Noted.{NotedItem, AsWhole, AsFunction, first_spot}

-- no identifier has two labels, and no label two identifiers
pub record IsLabelTable (table : LabelTable) : Type 0 where
  pub one_label : (i : Ident) (l other : Label) →
      Contains table (i, l) →
      Contains table (i, other) →
      l ≡ other
  pub one_ident : (i other : Ident) (l : Label) →
      Contains table (i, l) →
      Contains table (other, l) →
      i ≡ other

-- what an occurrence denotes in a module, by symbol and context
abbrev pub denoted_in_tree : List Item → Occurrence → Denoted
denoted_in_tree tree o = denoted_of ByContext Es (declared ByContext Es tree) o

-- what an identifier denotes in a module: what its first occurrence does
abbrev pub denoted_ident : List Item → Ident → Option Denoted
denoted_ident tree i =
    option_map (denoted_in_tree tree) (find (λ o. ident_eq (ident_of o) i) (occurrences tree))

-- the labelling of a module by such a table, of the identifiers that stand in it
abbrev pub labels_in : List Item → LabelTable → Labelling
labels_in tree [] = []
labels_in tree (entry ∷ rest) =
    cons_option (option_map (λ d. (d, entry.1)) (denoted_ident tree entry.0)) (labels_in tree rest)

-- a statement in an item, at this spot of the item by itself, is noted by its identifiers
abbrev pub StatementNamed : List (List Item) → LabelTable → List Item → Spot → List Item →
    ItemMeaning → Type 0
StatementNamed items table item s part told = pieces.StatementNoted items table item s part told.0

-- statements in an item, one after another
abbrev pub StatementsNamed : List (List Item) → LabelTable → List Item → Spot → List (List Item) →
    List ItemMeaning → Type 0
StatementsNamed items table item s parts tolds =
    pieces.StatementsNoted items table item s parts (map (λ (told : ItemMeaning). told.0) tolds)

-- an item is noted by its identifiers
abbrev pub ItemNoted : List (List Item) → LabelTable → List Item → NotedItem → Type 0
ItemNoted items table item (AsWhole told) = StatementNamed items table item first_spot item told
ItemNoted items table item (AsFunction front names insides tolds) =
    AllZip (IsLabelled items table item) (occurrences_from first_spot front) names × StatementsNamed
    items table item (fold past first_spot front) insides tolds

-- the labels of declared names have the contexts of their modules, and stand for identifiers that
-- declare them
pub record HasModuleContexts (local : ℕ → ℕ) (tree : List Item) (table : LabelTable) : Type 0 where
  pub contexts : (i : Ident) (m : ℕ) (x : Text) →
      Contains table (i, Of (IsDeclared m x)) →
      i.1 ≡ local m
  pub declared : (i : Ident) (m : ℕ) (x : Text) →
      Contains table (i, Of (IsDeclared m x)) →
      (o : Occurrence)
      × (d : Declared)
      × Contains (occurrences tree) o
      × (ident_of o ≡ i)
      × (declaration_of ByContext Es o ≡ Some d)

-- each identifier is called as its label, spelled so
abbrev pub IsCalledAsLabels : (Text → Text) → Program → List ℕ → LabelTable → Type 0
IsCalledAsLabels spelled p list table =
    (i : Ident) (l : Label) → Contains table (i, l) → i.0 ≡ spelled (symbol_of_label p list l)
