-- The table of a bundle: the identifiers of its items, each with the label that is told of it.
use Rattle.std.specs.Prelude.{◌≡◌, ℕ, List, [], ◌∷◌, ◌++◌, Option, fold}
use Rattle.bundle_syntax.specs.Item.{Item}
use Rattle.bundle_rules.specs.Places.{Spot, Occurrence, past, occurrences_from}
use Rattle.bundle_rules.specs.Idents.{Ident, ident_of}
use Rattle.bundle_rules.specs.Program.{Program, tree_of, IsReached}
use Rattle.bundle_rules.specs.Linking.{IsCommonJs}
use Rattle.bundle_rules.specs.Meaning.{Label, Meant, Inside, Known, Unbound}
use Rattle.bundle_rules.specs.Bundle.{Cause, Hooks}
use Rattle.bundle_merge_theory.specs.loaded.Contexts.{OwnEntry}
use Rattle.bundle_merge_theory.specs.walked.Renaming.{ItemMeaning}
use Rattle.bundle_merge_theory.specs.composed.Noted.{NotedItem, AsWhole, AsFunction, first_spot}
use Rattle.bundle_merge_theory.specs.composed.Names.{LabelTable}
use Rattle.bundle_merge_theory.specs.made.Given.{HookAnswer, BundleContexts, numbers_in}
use Rattle.bundle_merge_theory.specs.made.Alone.{IsItemAlone}

-- the identifiers of occurrences that mean labels
abbrev pub known_entries : List Occurrence → List Meant → LabelTable
known_entries (o ∷ os) (Known l ∷ meants) = (ident_of o, l) ∷ known_entries os meants
known_entries (o ∷ os) (Inside k ∷ meants) = known_entries os meants
known_entries (o ∷ os) (Unbound x ∷ meants) = known_entries os meants
known_entries _ _ = []

-- the identifiers of occurrences that stand for these labels in turn
abbrev pub front_entries : List Occurrence → List Label → LabelTable
front_entries (o ∷ os) (l ∷ names) = (ident_of o, l) ∷ front_entries os names
front_entries _ _ = []

-- those of statements, one after another
abbrev pub statements_entries : Spot → List (List Item) → List ItemMeaning → LabelTable
statements_entries s (part ∷ parts) (told ∷ tolds) =
    known_entries (occurrences_from s part) told.0
    ++ statements_entries (fold past s part) parts tolds
statements_entries s _ _ = []

-- those of an item, by what is told of it
abbrev pub item_entries : List Item → NotedItem → LabelTable
item_entries item (AsWhole told) = known_entries (occurrences_from first_spot item) told.0
item_entries item (AsFunction front names insides tolds) =
    front_entries (occurrences_from first_spot front) names
    ++ statements_entries (fold past first_spot front) insides tolds

-- those of all items
abbrev pub table_of : List (List Item) → List NotedItem → LabelTable
table_of (item ∷ items) (noted ∷ all) = item_entries item noted ++ table_of items all
table_of _ _ = []

-- what is told of an item that is right by itself
pub record IsAloneAs (p : Program) (hooks : Hooks) (list : List ℕ) (context : BundleContexts)
    (answers : ℕ → Option HookAnswer) (cause : Cause) (item : List Item) (noted : NotedItem) : Type
    0
  where
    pub alone : IsItemAlone p hooks list context answers cause item
    pub its : alone.noted ≡ noted

-- of each item in turn
abbrev pub AllAloneAs : Program → Hooks → List ℕ → BundleContexts → (ℕ → Option HookAnswer) →
    List Cause → List (List Item) → List NotedItem → Type 0
AllAloneAs p hooks list context answers [] [] [] = Unit {0}
AllAloneAs p hooks list context answers (cause ∷ plan) (item ∷ items) (noted ∷ all) =
    IsAloneAs p hooks list context answers cause item noted
    × AllAloneAs p hooks list context answers plan items all
AllAloneAs p hooks list context answers _ _ _ = ⊥

-- what is told of all items
pub record HasItemNotes (p : Program) (hooks : Hooks) (list : List ℕ) (context : BundleContexts)
    (answers : ℕ → Option HookAnswer) (plan : List Cause) (items : List (List Item)) : Type 0 where
  pub noted : List NotedItem
  pub each : AllAloneAs p hooks list context answers plan items noted

-- in a CommonJS module no identifier has two labels, and no label two identifiers
pub record HasOneEntries (p : Program) (context : BundleContexts) : Type 0 where
  pub one_label : (c : ℕ) (i : Ident) (l other : Label) →
      IsReached p c →
      IsCommonJs p c →
      OwnEntry c (numbers_in context c) (tree_of p c) i l →
      OwnEntry c (numbers_in context c) (tree_of p c) i other →
      l ≡ other
  pub one_ident : (c : ℕ) (i other : Ident) (l : Label) →
      IsReached p c →
      IsCommonJs p c →
      OwnEntry c (numbers_in context c) (tree_of p c) i l →
      OwnEntry c (numbers_in context c) (tree_of p c) other l →
      i ≡ other
