-- One more module as it is linked.
-- What was read of a module as it was handed in is that of the module as it is kept.
use Rattle.std.proofs.Common.{◌≡◌, ℕ, ◌+◌, inl, inr, List, [], ◌∷◌, ◌++◌, Some, length, sym, ◌∙◌, subst, arith, ◌&&◌, Bool, true, Contains, Option, ap}
use Rattle.std.specs.Prelude.{slice_get, IsTrue, option_map, unwrap_or}
use Rattle.bundle_tree_names.specs.FileName.{Name, name_of}
use Rattle.bundle_tree_names.specs.declared.config.Config.{Config}
use Rattle.bundle_syntax.specs.Item.{Item}
use Rattle.bundle_tree_ast.specs.declared.module.Module.{Module}
use Rattle.bundle_rules.specs.Nodes.{Text}
use Rattle.bundle_rules.specs.Cleared.{cleared}
use Rattle.bundle_rules.specs.Declarations.{BySymbol}
use Rattle.bundle_rules.specs.Doubled.{first_doubled}
use Rattle.bundle_rules.specs.Entries.{ExportEntry, Settings, exports_of, has_import_meta, is_named, is_script}
use Rattle.bundle_rules.specs.Faults.{IsFaultless}
use Rattle.bundle_rules.specs.Program.{Loaded, Program, module_of, tree_of}
use Rattle.bundle_rules.specs.Meaning.{is_common_js}
use Rattle.bundle_rules.specs.Scopes.{Cjs, Es, ModuleKind}
use Rattle.bundle_rules.proofs.CallLemmas.{has_import_meta-cleared, is_script-cleared}
use Rattle.bundle_rules.proofs.DenotesLemmas.{first_doubled-cleared}
use Rattle.bundle_rules.proofs.FaultLemmas as faults
use Rattle.bundle_tree_listed.specs.Tree.{module_items}
use Rattle.bundle_tree.specs.declared.load.ModuleData.{ModuleData}
use Rattle.bundle_scope_denote.specs.Listed.{IsDenotationTable, place_and_symbol, doubled_told}
use Rattle.bundle_scope_names.proofs.Kept.{length-snoc as long_push}
use Rattle.bundle_link_index.specs.declared.target.LinkModule.{LinkModule}
use Rattle.bundle_scope_names.specs.fit.Fits.{IsFit}
use Rattle.bundle_scope_names.specs.fit.Sorts.{AModule}
use Rattle.bundle_link_targets.specs.Meant.{IsModuleTree}
use Rattle.bundle_link.specs.declared.judging.DoubledNames.{DoubledNames}
use Rattle.bundle_link.specs.declared.reached.Reached.{Reached}
use Rattle.bundle_link.proofs.ClearedNodes.{cleared-module-tree}
use Rattle.bundle_link.proofs.DefaultLemmas.{default-once-cleared}
use Rattle.bundle_link.proofs.NumberedModuleLemmas.{table_at}
use Rattle.bundle_link.specs.Default.{DeclaresDefaultAlone}
use Rattle.bundle_link.specs.Judged.{IsNotedOf}
use Rattle.bundle_link.specs.Read.{AreTablesOf}
use Rattle.bundle_link.specs.Refusals.{Links}
use Rattle.bundle_link.proofs.ClearedTables.{cleared-once, cleared-table}
use Rattle.bundle_merge_theory.proofs.grown.Trees.{kept_fit}
use Rattle.bundle_merge_names.proofs.ScopeLemmas.{push-cases as at_push}
use Rattle.bundler_entry.specs.Linked.{AreNotes, AreLinkModules, IsNotedAt, IsPartAt}
use Rattle.bundler_entry.specs.declared.source.ReadFile.{ReadFile}
use Rattle.bundler_entry.specs.Source.{IsSourceOf, kept_as, list_of_source}

-- ---- part

-- what is so of each element at its place stays so with one more
pub each_push : {A : Type 0} (P : ℕ → A → Type 0) (xs : List A) (x : A) (n : ℕ) → length xs ≡ n → ((k : ℕ) (y : A) → slice_get xs k ≡ Some y → P k y) → P n x → (k : ℕ) (y : A) → slice_get (xs ++ x ∷ []) k ≡ Some y → P k y
each_push P xs x n long each last k y at = elim (at_push xs x k y at) [
  | inl there ↦ each k y there
  | inr end ↦ subst (λ (z : _). P k z) end.1 (subst (λ (j : ℕ). P j x) (sym (end.0 ∙ long)) last)
]

pub parts_more : (sources : List ReadFile) (reached : Reached) (n : ℕ) (parts more : List LinkModule) (part : LinkModule) → more ≡ parts ++ part ∷ [] → IsPartAt sources reached n part → AreLinkModules sources reached n parts → AreLinkModules sources reached (n + 1) more
parts_more sources reached n parts more part is its are = subst (AreLinkModules sources reached (n + 1)) (sym is) (record {
  long = let long = long_push parts part in omega (arith, long, are.long);
  each = each_push (IsPartAt sources reached) parts part n are.long are.each its;
})

pub notes_more : (sources : List ReadFile) (reached : Reached) (n : ℕ) (notes more : List DoubledNames) (noted : DoubledNames) → more ≡ notes ++ noted ∷ [] → IsNotedAt sources reached n noted → AreNotes sources reached n notes → AreNotes sources reached (n + 1) more
notes_more sources reached n notes more noted is its are = subst (AreNotes sources reached (n + 1)) (sym is) (record {
  long = let long = long_push notes noted in omega (arith, long, are.long);
  each = each_push (IsNotedAt sources reached) notes noted n are.long are.each its;
})

-- ---- source

-- two flags that are set are both set
both : (a b : Bool) → IsTrue a → IsTrue b → IsTrue (a && b)
both a b left right = ap (λ x. x && b) left ∙ right

pub read_as : (p : Program) (m : ℕ) (config : Config) (file : Name) (given : ModuleData) (source : ReadFile) → Links config p.settings → module_of p m ≡ Some (kept_as given) → name_of source.given.now ≡ name_of given.file_name
    → source.tree.now ≡ given.module → IsDenotationTable BySymbol Es (list_of_source source) source.names
    → option_map doubled_told source.noted.es ≡ option_map place_and_symbol (first_doubled Es (list_of_source source))
    → (IsTrue (config.require && source.tables.is_script) → option_map doubled_told source.noted.common_js ≡ option_map place_and_symbol (first_doubled Cjs (list_of_source source)))
    → AreTablesOf config file (module_items 0 given.module) source.tables → source.tables.has_import_meta ≡ has_import_meta (module_items 0 given.module) → IsSourceOf p m source
read_as p m config file given source links there named same names doubled doubled_common_js tables meta =
    let tree : List Item = module_items 0 given.module in
    let is : tree_of p m ≡ cleared tree = ap (λ (o : Option Loaded). unwrap_or (option_map (λ (loaded : Loaded). loaded.items) o) []) there in
    record {
      loaded = kept_as given;
      there = there;
      given = named;
      list = is ∙ ap (λ (its : Module). cleared (module_items 0 its)) (sym same);
      names = names;
      doubled = doubled;
      doubled_common_js = λ require script.
          doubled_common_js (both config.require source.tables.is_script (sym links.0 ∙ require)
          (tables.script ∙ sym (is_script-cleared tree) ∙ ap is_script (sym is) ∙ script));
      table = cleared-table p m config file tree source.tables links is tables;
      meta = meta ∙ sym (has_import_meta-cleared tree) ∙ ap has_import_meta (sym is);
      tree = subst IsModuleTree (sym is) (cleared-module-tree given.module);
      fit = subst (IsFit AModule 0) (sym is) (kept_fit given.module);
      faultless = (file, subst (IsFaultless file) (sym is) (faults.faultless file tree tables.faultless));
      default = subst DeclaresDefaultAlone (sym is) (default-once-cleared given.module);
      once = λ x a b in_a in_b named_a named_b.
          cleared-once file tree tables.faultless x a b (subst (λ (t : List Item). Contains (exports_of t) a) is in_a) (subst (λ (t : List Item). Contains (exports_of t) b) is in_b) named_a named_b;
    }

-- in the list that was read just the names are declared twice that are so in the tree
tree-doubled : (p : Program) (m : ℕ) (source : ReadFile) → IsSourceOf p m source → (kind : ModuleKind) →
    first_doubled kind (list_of_source source) ≡ first_doubled kind (tree_of p m)
tree-doubled p m source its kind =
    sym (first_doubled-cleared kind (list_of_source source)) ∙ ap (first_doubled kind) (sym its.list)

-- what is noted of a module is so as what it is in the program
pub noted_there : (p : Program) (m : ℕ) (source : ReadFile) → IsSourceOf p m source →
    IsNotedOf p m source.noted
noted_there p m source its Es has =
    its.doubled ∙ ap (option_map place_and_symbol) (tree-doubled p m source its Es)
noted_there p m source its Cjs (is_common_js common) =
    its.doubled_common_js common.linked common.script
    ∙ ap (option_map place_and_symbol) (tree-doubled p m source its Cjs)

-- what was read of a module is that of the same module under another number
pub read_at : (p q : Program) (m k : ℕ) (source : ReadFile) → p.settings ≡ q.settings →
    module_of p m ≡ module_of q k → IsSourceOf p m source → IsSourceOf q k source
read_at p q m k source settings same its =
    let is : tree_of p m ≡ tree_of q k =
    ap (λ (o : Option Loaded). unwrap_or (option_map (λ (loaded : Loaded). loaded.items) o) []) same in
    record {
      loaded = its.loaded;
      there = sym same ∙ its.there;
      given = its.given;
      list = sym is ∙ its.list;
      names = its.names;
      doubled = its.doubled;
      doubled_common_js = λ require script.
          its.doubled_common_js (ap (λ (s : Settings). s.require) settings ∙ require) (ap is_script is ∙ script);
      table = table_at p q m k source.tables settings is its.table;
      meta = its.meta ∙ ap has_import_meta is;
      tree = subst IsModuleTree is its.tree;
      fit = subst (IsFit AModule 0) is its.fit;
      faultless = (its.faultless.0, subst (IsFaultless its.faultless.0) is its.faultless.1);
      default = subst DeclaresDefaultAlone is its.default;
      once =
          subst
          (λ (t : List Item).
          (x : Text) (a b : ExportEntry) → Contains (exports_of t) a → Contains (exports_of t) b → is_named x a ≡ true → is_named x b ≡ true → a ≡ b)
          is its.once;
    }
