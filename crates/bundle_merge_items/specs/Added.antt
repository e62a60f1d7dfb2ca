-- The items that a bundle gets, by their lists, over the identifiers that its names hold.
use Rattle.std.specs.Prelude.{◌≡◌, ◌⊎◌, ℕ, zero, suc, Bool, true, false, List, [], ◌∷◌, ◌++◌, Option, Some, None, codes, map, unwrap_or}
use Rattle.std.specs.Borrow.{Bor}
use Rattle.bundle_syntax.specs.Item.{Item}
use Rattle.bundle_tree_ast.specs.declared.module.Module.{Module}
use Rattle.bundle_tree_ast.specs.declared.module.ModuleItem.{ModuleItem}
use Rattle.bundle_tree_listed.specs.Tree.{module_item_items}
use Rattle.bundle_rules.specs.Nodes.{Text, flat}
use Rattle.bundle_rules.specs.Idents.{Ident}
use Rattle.bundle_rules.specs.Statements.{no_notes}
use Rattle.bundle_rules.specs.Program.{Program}
use Rattle.bundle_rules.specs.Linking.{Namespace}
use Rattle.bundle_rules.specs.Meaning.{Of, IsMeant}
use Rattle.bundle_rules.specs.Bundle.{AreLinked}
use Rattle.bundle_link_tables.specs.declared.table.Taken.TheVariants.{Named, Whole}
use Rattle.bundle_link_index.specs.declared.target.TargetRef.{TargetRef}
use Rattle.bundle_link_index.specs.declared.target.TargetRef.TheVariants as t
use Rattle.bundle_link_targets.specs.Linked.{IsLinkingOf}
use Rattle.bundle_link_targets.specs.Meant.{AreModules}
use Rattle.bundle_link_targets.specs.Names.{target_pair}
use Rattle.bundle_link_targets.specs.declared.linking.Linking.{Linking}
use Rattle.bundle_link_targets.specs.declared.target.External.{External}
use Rattle.bundle_link_targets.specs.declared.target.Loaded.{Loaded}
use Rattle.bundle_merge_injected.specs.Listed as l
use Rattle.bundle_merge_names.specs.Idents.{label_ident, target_ident}
use Rattle.bundle_merge_names.specs.Named.{local_in}
use Rattle.bundle_merge_names.specs.declared.names.Label.TheVariants as n
use Rattle.bundle_merge_names.specs.declared.names.BundleNames.{BundleNames}

-- the lists of a module's items
abbrev pub module_item_lists : Module → List (List Item)
module_item_lists items = map (module_item_items 0) items.body.items

-- a copy of an item
abbrev pub copied_item : ModuleItem → List (List Item)
copied_item item = module_item_items 0 item ∷ []

-- names, each with the identifier of the target that it is
abbrev pub named_pairs : BundleNames → (Bor Text → TargetRef) → List (Bor Text) →
    List (Text × Ident)
named_pairs names of list = map (λ name. (name.now, target_ident names (of name))) list

-- linked names, each with the identifier of its target
abbrev pub linked_pairs : BundleNames → List (Bor Text × TargetRef) → List (Text × Ident)
linked_pairs names list = map (λ pair. (pair.0.now, target_ident names pair.1)) list

-- Externals.

-- the names of an external, each with what stands for it
abbrev pub external_pairs : BundleNames → Bor Text → List (Bor Text) → List (Text × Ident)
external_pairs names s list = named_pairs names (λ name. t.External s (Named name)) list

-- the import of the names of an external, where there are some
abbrev pub name_imports : BundleNames → Bor Text → List (Bor Text) → List (List Item)
name_imports names s [] = []
name_imports names s (x ∷ more) =
    l.import_names s.now (external_pairs names s (x ∷ more)) ∷ []

-- the import of the whole of an external, or of nothing where no name of it is taken
abbrev pub other_imports : BundleNames → Bor Text → Bool → List (Bor Text) → List (List Item)
other_imports names s true list =
    l.import_whole s.now (target_ident names (t.External s Whole)) ∷ []
other_imports names s false [] = l.import_bare s.now ∷ []
other_imports names s false (x ∷ more) = []

-- the import declarations of an external
abbrev pub import_declarations_of : BundleNames → External → List (List Item)
import_declarations_of names external =
    name_imports names external.specifier external.names.items
    ++ other_imports names external.specifier external.whole external.names.items

-- The helper.

abbrev pub helper_of : BundleNames → List Item
helper_of names =
    l.helper_function (label_ident names n.Helper) (label_ident names n.HelperParameter)
    (label_ident names n.HelperVariable)

-- CommonJS modules.

-- the names that are taken of a CommonJS module, each with what stands for it
abbrev pub loaded_pairs : BundleNames → ℕ → Loaded → List (Text × Ident)
loaded_pairs names taker loaded =
    named_pairs names (λ name. t.CommonJs taker loaded.which (Named name)) loaded.names.items

-- what stands for the whole of one, where it is taken
abbrev pub loaded_whole : BundleNames → ℕ → ℕ → Bool → Option Ident
loaded_whole names taker c true = Some (target_ident names (t.CommonJs taker c Whole))
loaded_whole names taker c false = None

-- the statement by which a module loads one
abbrev pub load_item_of : BundleNames → ℕ → Loaded → List Item
load_item_of names taker loaded =
    l.load_statement (label_ident names (n.Load loaded.which))
    (loaded_whole names taker loaded.which loaded.whole) (loaded_pairs names taker loaded)

-- a name at the top of a module
abbrev pub local_ident : BundleNames → ℕ → Text → Ident
local_ident names m x = (x, unwrap_or (local_in names m) 1)

-- the load function of one, with these statements
abbrev pub definition_of : BundleNames → ℕ → List (List Item) → List Item
definition_of names c bodies =
    l.load_function (label_ident names (n.Load c)) (label_ident names n.Helper)
    (local_ident names c (codes "module")) (local_ident names c (codes "exports")) (flat bodies)

-- Linked names.

-- these are what linking says of the names of module m, where it is the entry or its namespace is
-- meant
abbrev pub AreLinkedBy : Linking → ℕ → List (Bor Text × TargetRef) → Type 0
AreLinkedBy linking m linked =
    (p : Program) →
    IsLinkingOf p linking →
    AreModules p →
    (m ≡ p.entry) ⊎ IsMeant p (Of (Namespace m)) →
    AreLinked p m (map target_pair linked)

-- the linked names of module m, each with what stands for it
pub record AreLinkedPairs (linking : Linking) (names : BundleNames) (m : ℕ)
    (pairs : List (Text × Ident)) :
    Type 0 where
  pub linked : List (Bor Text × TargetRef)
  pub by : AreLinkedBy linking m linked
  pub is : pairs ≡ linked_pairs names linked

-- the object of the namespace of module m
pub record IsObject (linking : Linking) (names : BundleNames) (m : ℕ)
    (made : List Item) : Type 0 where
  pub pairs : List (Text × Ident)
  pub linked : AreLinkedPairs linking names m pairs
  pub is : made ≡ l.namespace_object no_notes (target_ident names (t.Namespace m)) pairs

-- the export list of these pairs, where there are some
abbrev pub export_list_of : List (Text × Ident) → List (List Item)
export_list_of [] = []
export_list_of (pair ∷ more) = l.export_list (pair ∷ more) ∷ []

-- what a bundle of so many modules exports, the last of which is the entry
pub data AreExports (linking : Linking) (names : BundleNames) : ℕ → List (List Item) → Type 0 where
  none_there : AreExports linking names zero []
  of_entry : {entry : ℕ} (pairs : List (Text × Ident)) →
      AreLinkedPairs linking names entry pairs →
      AreExports linking names (suc entry) (export_list_of pairs)
