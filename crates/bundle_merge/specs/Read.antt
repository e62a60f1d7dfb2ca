-- What is read of the prepared items of a module: its own items, and the name of the statement in
-- front of them that holds its `import.meta`.
use Rattle.std.specs.Prelude.{◌≡◌, ℕ, List, [], ◌∷◌, Option, Some, None, Contains, drop, nat_eq, option_map, slice_get, take, if◌then◌else◌}
use Rattle.std.specs.List.{flat_map}
use Rattle.std.specs.BTreeMap.{get_by_text}
use Rattle.bundle_tree_ast.specs.declared.module.Module.{Module}
use Rattle.bundle_tree_ast.specs.declared.module.ModuleItem.{ModuleItem}
use Rattle.bundle_tree_names.specs.FileName.{name_of}
use Rattle.bundle_syntax.specs.declared.piece.Role.TheVariants.{Binding}
use Rattle.bundle_syntax.specs.Item as h
use Rattle.bundle_syntax.specs.Item.{Item}
use Rattle.bundle_tree_listed.specs.Tree.{module_item_items, node}
use Rattle.bundle_tree_places.specs.Marks.{ident_of}
use Rattle.bundle_rules.specs.Declarations.{BySymbol}
use Rattle.bundle_rules.specs.Entries.{has_import_meta}
use Rattle.bundle_rules.specs.Idents.{Ident}
use Rattle.bundle_rules.specs.Meaning.{HasKind}
use Rattle.bundle_rules.specs.Nodes.{Text}
use Rattle.bundle_rules.specs.Program.{Program}
use Rattle.bundle_rules.specs.Scopes.{ModuleKind}
use Rattle.bundle_scope_denote.specs.Listed.{IsDenotationTable}
use Rattle.bundle_link.specs.Leads.{module_place, last_told}
use Rattle.bundle_link.specs.Programs.{IsLinkerOf}
use Rattle.bundle_link.specs.Read.{AreTablesOf}
use Rattle.bundle_link.specs.Held.{config_of, modules_of, place_of}
use Rattle.bundle_link.specs.declared.link.Linker.{Linker}
use Rattle.bundle_link.specs.declared.transformed.TransformedModule.{TransformedModule}
use Rattle.bundle_merge_names.specs.declared.part.BundleModule.{BundleModule}

-- the list of items
abbrev pub item_list : List ModuleItem → List Item
item_list items = flat_map (module_item_items 0) items

-- the identifier that a list declares first
abbrev pub first_declared : List Item → Option Ident
first_declared [] = None
first_declared (h.Ident field sym ctxt Binding ∷ rest) = Some (sym, ctxt)
first_declared (x ∷ rest) = first_declared rest

-- where `import.meta` stands in items, the first of them
abbrev pub front_of : List ModuleItem → List ModuleItem
front_of items = if has_import_meta (item_list items) then take 1 items else []

-- what that declares
abbrev pub name_held : List ModuleItem → Option Ident
name_held items = first_declared (item_list (front_of items))

-- items without the first of them, where that declares a name
abbrev pub without_front : Option Ident → List ModuleItem → List ModuleItem
without_front None items = items
without_front (Some name) items = drop 1 items

-- the items that are a module's own
abbrev pub own_part : List ModuleItem → List ModuleItem
own_part items = without_front (name_held items) items

-- the list of a module of these
abbrev pub own_list : List ModuleItem → List Item
own_list items = node 0 h.Module (item_list (own_part items))

-- a part is what was read of the prepared items of a module of a linker, where the modules on its
-- list have these places: the items, the name of the statement in front, and of the module's own
-- items what the names in their list denote, its tables, and where its requests lead
pub record IsReadModuleOf (linker : Linker) (known : TransformedModule) (ids : List ℕ)
    (items : List ModuleItem) (part : BundleModule) : Type 0 where
  pub its_items : part.items.now ≡ items
  pub written : option_map ident_of part.written ≡ name_held items
  pub names : (p : Program) (kind : ModuleKind) →
      IsLinkerOf p linker →
      HasKind p known.id kind →
      IsDenotationTable BySymbol kind (own_list items) part.denotations.now
  pub tables :
      AreTablesOf (config_of linker) (name_of known.file_name) (own_list items) part.tables.now
  pub meta : part.tables.now.has_import_meta ≡ has_import_meta (own_list items)
  pub leads : (s : Text) →
      get_by_text part.leads.now s ≡ last_told (module_place ids) known.deps.items s
  pub local : part.local ≡ known.local_ctxt

-- a linker has the module under this number
pub record IsModuleKnown (linker : Linker) (m : ℕ) (known : TransformedModule) : Type 0 where
  pub place : ℕ
  pub numbered : place_of linker m ≡ Some place
  pub there : slice_get (modules_of linker) place ≡ Some known

-- all modules of a list are there
abbrev pub AreAllKnown : Linker → List ℕ → Type 0
AreAllKnown linker list = (m : ℕ) → Contains list m →
    (known : TransformedModule) × IsModuleKnown linker m known

-- what was read of the module with this number
pub record IsReadAt (linker : Linker) (ids : List ℕ) (m : ℕ) (its : Module)
    (part : BundleModule) : Type 0 where
  pub known : TransformedModule
  pub is_known : IsModuleKnown linker m known
  pub is : IsReadModuleOf linker known ids its.body.items part
