-- What a check tells of the files of modules.
-- An export with a new name goes last.
-- A tree without a fault has no two exports of one name.
-- Modules whose tables are read are those of a program whose trees are theirs.
use Rattle.std.proofs.Common.{◌≡◌, ℕ, List, Option, Some, None, refl, sym, ap, ◌∙◌, subst, ◌+◌, ◌<◌, Bool, false, [], ◌∷◌, ◌++◌, length, map, take, drop, get_or, bytes_eq, ◌⊎◌, inl, inr, zero, suc, true, Contains, arith}
use Rattle.std.specs.Prelude.{slice_get, String, string_bytes, filter, not, if◌then◌else◌, codes}
use Rattle.std.proofs.lemmas.Option.{none-some, same_Some}
use Rattle.std.specs.List.{flat_map, AllZip}
use Rattle.std.specs.declared.alloc.Global.{Global}
use Rattle.std.proofs.lemmas.Bool.{or_parts, false≢true}
use Rattle.std.proofs.lemmas.List.{map-append}
use Rattle.std.proofs.lemmas.Slice.Eq.{bytes_eq-Decides}
use Rattle.bundle_tree_names.specs.FileName.{name_of as name_of_check, Name}
use Rattle.bundle_tree_names.specs.declared.config.Config.{Config}
use Rattle.indexmap.specs.IndexMap.{insert_entry}
use Rattle.bundle_syntax.specs.Item.{Item}
use Rattle.bundle_rules.specs.Nodes.{numbers_once, Text, each_once, has_text}
use Rattle.bundle_rules.specs.Program.{Program, file_of, tree_of}
use Rattle.bundle_rules.specs.Tables.{IsChecked, IsFirstLinkFault, is_star, star_of}
use Rattle.bundle_rules.specs.Faults.{IsFaultless, doubled_export, DoubledExport, entry_name, asked_names}
use Rattle.bundle_rules.specs.Entries
use Rattle.bundle_rules.specs.Entries.{ExportEntry as ExportEntry_once, Local, Indirect, Star, exports_of, is_named, declared_requests, imports_of, is_script, linked_calls, requests_of}
use Rattle.bundle_rules.specs.Awaits.{awaits_outside}
use Rattle.bundle_rules.specs.Bound.{has_free, is_free}
use Rattle.bundle_tree_listed.specs.Tree.{module_items}
use Rattle.bundle_link_tables.specs.declared.table.Export.{Export}
use Rattle.bundle_link_tables.specs.declared.table.Tables.{Tables}
use Rattle.bundle_link_tables.specs.Judged.{doubled_entry_name}
use Rattle.bundle_link_tables.specs.TablesOf.{export_entry_of, uses_common_js}
use Rattle.bundle_link_tables.proofs.DoubledLemmas.{undoubled_next}
use Rattle.bundle_link_tables.proofs.FaultLemmas.{doubled_filter, faultless_once}
use Rattle.bundle_link_tables.proofs.MarkLemmas.{one_more}
use Rattle.bundle_link_tables.specs.Sources.{told_external}
use Rattle.bundle_link_tables.specs.Used.{uses_of}
use Rattle.bundle_link_index.proofs.ProgramLemmas.{got}
use Rattle.bundle_link_index.specs.Numbered.{HasNoDoubles}
use Rattle.bundle_link_index.specs.Programs.{IsTableOf}
use Rattle.bundle_link_index.specs.Said.{HasEachOnce}
use Rattle.bundle_link_targets.specs.Meant.{AreModules, IsModuleTree}
use Rattle.bundle_link_targets.specs.Judged.{fault_says}
use Rattle.bundle_link_targets.specs.declared.target.LinkFault.{LinkFault}
use Rattle.bundle_link_targets.proofs.StageLemmas.{map_at as mapped}
use Rattle.bundle_link_targets.proofs.CallPlaceLemmas.{zip-at}
use Rattle.bundle_link.proofs.FaultLemmas.{is-module-tree}
use Rattle.bundle_link.proofs.PlaceLemmas.{no-tree}
use Rattle.bundle_link.specs.Alike.{IsModuleAt}
use Rattle.bundle_link.specs.Told.{IsFirstTold, IsFaultTold}
use Rattle.bundle_link.specs.Leads.{module_place, led}
use Rattle.bundle_link.proofs.NumberLemmas.{at-place, once-same, place-there}
use Rattle.bundle_link.specs.declared.module.NumberedModule.{NumberedModule}
use Rattle.bundle_link.proofs.NumberedModuleLemmas.{beside, led_beside, no_export, zip_left}
use Rattle.bundle_link.specs.Numbered
use Rattle.bundle_link.specs.Programs.{AreTransformedOf, IsLinkerOf, IsSoundLinkerOf, module_numbers, AreModulesFaultless, HasTables}
use Rattle.bundle_link.specs.declared.link.Linker.{Linker}
use Rattle.bundle_link.specs.declared.transformed.TransformedModule.{TransformedModule}
use Rattle.bundle_link.specs.declared.tables.ExportEntry.{ExportEntry}
use Rattle.bundle_link.specs.declared.tables.Exports.{Exports}
use Rattle.bundle_link.specs.Owned.{entry_key, entry_says, export_says, exports_say}
use Rattle.bundle_link.specs.Read.{AreTablesOf}
use Rattle.bundle_link.specs.Refusals.{Links}

-- ---- check

-- the files of modules are those of the program, by the places of their numbers
pub files_at : (p : Program) (modules : List TransformedModule) (config : Config) (entry : ℕ) (ids : List ℕ) → AreTransformedOf p modules config entry → ids ≡ numbers_once (module_numbers modules)
    → (place m : ℕ) → IsModuleAt ids m place → (its : TransformedModule) × (slice_get modules place ≡ Some its) × (file_of p m ≡ Some (name_of_check its.file_name))
files_at p modules config entry ids w are place m at =
    let r = mapped (λ (its : TransformedModule). its.id) modules place m (ap (λ (l : List ℕ). slice_get l place) (sym (are ∙ once-same (module_numbers modules) w.apart)) ∙ at) in
    (r.0, r.1, ap (file_of p) (sym r.2) ∙ (w.each place r.0 r.1).file)

-- the trees of the program are those of modules
pub trees_of : (p : Program) (modules : List TransformedModule) (config : Config) (entry : ℕ) → AreTransformedOf p modules config entry → (m : ℕ) → IsModuleTree (tree_of p m)
trees_of p modules config entry w m = by (module_place (module_numbers modules) m) refl
  where
    by : (o : Option ℕ) → module_place (module_numbers modules) m ≡ o → IsModuleTree (tree_of p m)
    by None none = subst IsModuleTree (sym (w.others m (λ there. let k = place-there (module_numbers modules) m there in none-some k.0 (sym none ∙ k.1)))) no-tree
    by (Some i) is =
        let its = mapped (λ (its : TransformedModule). its.id) modules i m (at-place (module_numbers modules) m i is) in
        subst IsModuleTree (sym (ap (tree_of p) (sym its.2) ∙ (w.each i its.0 its.1).tree)) (is-module-tree its.0.tree.now)

-- and the program is one of modules, where none declares `default` twice
pub are_modules : (p : Program) (linker : Linker) → IsSoundLinkerOf p linker → AreModules p
are_modules p linker w = record { trees = w.of.trees; once = w.once }

module _ (p : Program) (linker : Linker) (w : IsLinkerOf p linker) where
  -- no fault is told: none is there
  pub none_checked : (told : Option LinkFault) → told ≡ None → IsFaultTold p linker.linked.ids.keys linker.linked.list.items told → IsChecked p None
  none_checked told none is = λ m stage place file f two reached there.
      subst (IsFaultTold p linker.linked.ids.keys linker.linked.list.items) none is m stage place file f two ((w.linked.reached m).1 reached) there

  module _ (told : Option LinkFault) (fault : LinkFault) (some : told ≡ Some fault) (is : IsFaultTold p linker.linked.ids.keys linker.linked.list.items told) where
    first : IsFirstTold p linker.linked.ids.keys linker.linked.list.items fault
    first = subst (IsFaultTold p linker.linked.ids.keys linker.linked.list.items) some is

    -- the fault is one of the file of the module
    pub fault_checked : (its : TransformedModule) → slice_get linker.modules.items fault.which ≡ Some its → IsFirstLinkFault p (fault_says (name_of_check its.file_name) fault)
    fault_checked its at =
        let r = w.files fault.which first.m first.at in
        let file = ap (λ (m : TransformedModule). Some (name_of_check m.file_name)) (same_Some r.0 its (sym r.1 ∙ at)) in
        record {
          list = linker.linked.list.items;
          is_list = w.linked.list;
          i = first.i;
          m = first.m;
          file = name_of_check its.file_name;
          stands = record { listed = first.listed; its_file = r.2 ∙ file };
          stage = first.stage;
          checked = first.checked;
          place = first.place;
          there = first.there (name_of_check its.file_name);
          first = λ j n other its at f two stands fault. first.first j n other its at f two stands.listed fault;
        }

-- ---- item
abbrev same_text : String Global → String Global → Bool
same_text x y = bytes_eq (string_bytes x) (string_bytes y)

put_new : (entries : List (String Global × ExportEntry)) (k : String Global) (v : ExportEntry) → has_text (string_bytes k) (map entry_key entries) ≡ false → insert_entry same_text entries k v ≡ entries ++ (k, v) ∷ []
put_new [] k v new = refl
put_new (first ∷ rest) k v new =
    let parts = or_parts (bytes_eq (string_bytes k) (entry_key first)) (has_text (string_bytes k) (map entry_key rest)) new in
    ap (λ b. if b then (first.0, v) ∷ rest else first ∷ insert_entry same_text rest k v) parts.0 ∙ ap (λ l. first ∷ l) (put_new rest k v parts.1)

pub added : (old new : List (String Global × ExportEntry)) (k : String Global) (v : ExportEntry) (name : Text) (entry : Entries.ExportEntry) → new ≡ insert_entry same_text old k v → string_bytes k ≡ name → export_says name v ≡ entry → has_text name (map entry_key old) ≡ false → (map entry_key new ≡ map entry_key old ++ name ∷ []) × (map entry_says new ≡ map entry_says old ++ entry ∷ [])
added old new k v name entry put named says free =
    let last : new ≡ old ++ (k, v) ∷ [] = put ∙ put_new old k v (ap (λ x. has_text x (map entry_key old)) named ∙ free) in (
      ap (map entry_key) last ∙ map-append entry_key old ((k, v) ∷ []) ∙ ap (λ x. map entry_key old ++ x ∷ []) named,
      ap (map entry_says) last ∙ map-append entry_says old ((k, v) ∷ []) ∙ ap (λ x. map entry_says old ++ x ∷ []) (ap (λ x. export_says x v) named ∙ says),
    )

-- an export more is there, where no name is doubled
pub next_item : (exports : List Export) (i : ℕ) (d : Export) (old new : List (String Global × ExportEntry)) → i < length exports → doubled_entry_name (map entry_key old) (map export_entry_of (drop i exports)) ≡ None → map entry_says old ≡ map export_entry_of (take i exports) → (has_text (get_or exports i d).name.now (map entry_key old) ≡ false → (map entry_key new ≡ map entry_key old ++ (get_or exports i d).name.now ∷ []) × (map entry_says new ≡ map entry_says old ++ export_entry_of (get_or exports i d) ∷ [])) → (doubled_entry_name (map entry_key new) (map export_entry_of (drop (i + 1) exports)) ≡ None) × (map entry_says new ≡ map export_entry_of (take (i + 1) exports))
next_item exports i d old new inside once known put =
    let next = undoubled_next (map entry_key old) exports i d inside once in
    let last = put next.0 in (
      ap (λ keys. doubled_entry_name keys (map export_entry_of (drop (i + 1) exports))) last.0 ∙ next.1,
      last.1 ∙ ap (λ l. l ++ export_entry_of (get_or exports i d) ∷ []) known ∙ one_more export_entry_of exports i d inside,
    )

-- what is handed out of a faultless tree is all that it exports
pub exported : (file : Name) (tree : List Item) (tables : Tables) (owned : Exports) → IsFaultless file tree → map export_entry_of tables.exports.items ≡ filter (λ entry. not (is_star entry)) (Entries.exports_of tree) → map (λ star. star.now) tables.stars.items ≡ each_once (flat_map star_of (Entries.exports_of tree)) → (doubled_entry_name [] (map export_entry_of tables.exports.items) ≡ None → map entry_says owned.items.entries ≡ map export_entry_of tables.exports.items) → map (λ text. string_bytes text) owned.stars.items ≡ map (λ text. text.now) tables.stars.items → exports_say owned ≡ (filter (λ entry. not (is_star entry)) (Entries.exports_of tree), each_once (flat_map star_of (Entries.exports_of tree)))
exported file tree tables owned faultless exports stars items texts =
    let once = ap (doubled_entry_name []) exports ∙ doubled_filter [] (Entries.exports_of tree) ∙ faultless_once file tree faultless in
    let first : map entry_says owned.items.entries ≡ filter (λ entry. not (is_star entry)) (Entries.exports_of tree) = items once ∙ exports in
    let second : map (λ text. string_bytes text) owned.stars.items ≡ each_once (flat_map star_of (Entries.exports_of tree)) = texts ∙ stars in
    ap (λ l. (l, map (λ text. string_bytes text) owned.stars.items)) first ∙ ap (λ l. (filter (λ entry. not (is_star entry)) (Entries.exports_of tree), l)) second

-- ---- once
name_of : (x : Text) (entry : ExportEntry_once) → is_named x entry ≡ true → entry_name entry ≡ Some x
name_of x (Local name of) is = ap (λ y. Some y) (sym ((bytes_eq-Decides x name).0 is))
name_of x (Indirect name specifier taken) is = ap (λ y. Some y) (sym ((bytes_eq-Decides x name).0 is))
name_of x (Star specifier) is = absurd (false≢true is)

order : (i j : ℕ) → (i < j) ⊎ ((j < i) ⊎ (i ≡ j))
order zero zero = inr (inr refl)
order zero (suc j) = inl (omega arith)
order (suc i) zero = inr (inl (omega arith))
order (suc i) (suc j) = elim (order i j) [ inl a ↦ inl (omega arith) | inr b ↦ elim b [ inl c ↦ inr (inl (omega arith)) | inr e ↦ inr (inr (ap suc e)) ] ]

pub each_once_of : (file : Name) (tree : List Item) → IsFaultless file tree → (x : Text) (a b : ExportEntry_once) → Contains (exports_of tree) a → Contains (exports_of tree) b → is_named x a ≡ true → is_named x b ≡ true → a ≡ b
each_once_of file tree faultless x a b in_a in_b named_a named_b =
    let i = got (exports_of tree) a in_a in
    let j = got (exports_of tree) b in_b in
    elim (order i.0 j.0) [
      | inl before ↦ absurd (faultless 0 j.0 (DoubledExport file x) (doubled_export a b before i.1 j.1 (name_of x a named_a) (name_of x b named_b)))
      | inr other ↦ elim other [
        | inl after ↦ absurd (faultless 0 i.0 (DoubledExport file x) (doubled_export b a after j.1 i.1 (name_of x b named_b) (name_of x a named_a)))
        | inr same ↦ same_Some a b (sym i.1 ∙ ap (slice_get (exports_of tree)) same ∙ j.1)
      ]
    ]

-- ---- program

-- what is read of the tree of a module is its table in the program
pub table_of : (p : Program) (m : ℕ) (config : Config) (file : Name) (tree : List Item) (tables : Tables) → Links config p.settings → tree ≡ tree_of p m → AreTablesOf config file tree tables → IsTableOf p m tables
table_of p m config file tree tables links is read = record {
  named = read.exports ∙ ap (λ (t : List Item). filter (λ entry. not (is_star entry)) (exports_of t)) is;
  stars = read.stars ∙ ap (λ (t : List Item). each_once (flat_map star_of (exports_of t))) is;
  imports = read.imports ∙ ap imports_of is;
  sources = read.sources p.settings links ∙ ap (λ (t : List Item). map (told_external p.settings.external) (declared_requests t)) is;
  calls = read.calls p.settings links ∙ ap (λ (t : List Item). linked_calls p.settings (is_free t) t) is;
  script = read.script ∙ ap is_script is;
  common_js = read.common_js ∙ ap uses_common_js is;
  awaits = read.awaits ∙ ap awaits_outside is;
  arguments = read.arguments ∙ ap (λ (t : List Item). has_free t (codes "arguments")) is;
  names = read.names ∙ ap asked_names is;
  uses = read.uses ∙ ap uses_of is;
}

-- modules whose tables were read have no fault by themselves
pub are-faultless : (config : Config) (modules : List TransformedModule) (tables : List Tables) →
    AllZip (HasTables config) modules tables → AreModulesFaultless modules
are-faultless config modules tables read its there =
    let k = got modules its there in
    let t = zip-at (HasTables config) modules tables read k.0 its k.1 in t.2.faultless

module _ (p : Program) (modules : List TransformedModule) (config : Config) (entry : ℕ) (w : AreTransformedOf p modules config entry) (tables : List Tables) (read : AllZip (HasTables config) modules tables) where
  -- no module has two exports of one name, since its tree has no fault
  has_each_once : ((i : ℕ) (its : TransformedModule) → slice_get modules i ≡ Some its → (t : Tables) × HasTables config its t) → HasEachOnce p
  has_each_once read_at m x a b in_a in_b named_a named_b = by (module_place (module_numbers modules) m) refl
    where
      by : (o : Option ℕ) → module_place (module_numbers modules) m ≡ o → a ≡ b
      by None none = absurd (no_export (tree_of p m) a (w.others m (λ there. let k = place-there (module_numbers modules) m there in none-some k.0 (sym none ∙ k.1))) in_a)
      by (Some i) is =
          let its = mapped (λ (its : TransformedModule). its.id) modules i m (at-place (module_numbers modules) m i is) in
          let t = read_at i its.0 its.1 in
          let tree : tree_of p m ≡ module_items 0 its.0.tree.now = ap (tree_of p) (sym its.2) ∙ (w.each i its.0 its.1).tree in
          each_once_of (name_of_check its.0.file_name) (module_items 0 its.0.tree.now) t.1.faultless x a b (subst (λ (l : List Item). Contains (exports_of l) a) tree in_a) (subst (λ (l : List Item). Contains (exports_of l) b) tree in_b) named_a named_b

  pub are_numbered : (numbered : List NumberedModule) (require : Bool) → map (λ (its : NumberedModule). its.id) numbered ≡ module_numbers modules
      → map (λ (its : NumberedModule). its.deps.now) numbered ≡ map (λ (its : TransformedModule). its.deps.items) modules → map (λ (its : NumberedModule). its.tables.now) numbered ≡ tables
      → require ≡ config.require → Numbered.AreNumberedOf p numbered entry require
  are_numbered numbered require ids deps same_tables same = record {
    each = λ i its at.
        let m = beside (λ (m : TransformedModule). m.id) (λ (its : NumberedModule). its.id) modules numbered (sym ids) i its at in
        let d = beside (λ (m : TransformedModule). m.deps.items) (λ (its : NumberedModule). its.deps.now) modules numbered (sym deps) i its at in
        let each = w.each i m.0 m.1 in
        let its_tables = led_beside (HasTables config) (λ (its : NumberedModule). its.tables.now) modules tables numbered read same_tables i m.0 its m.1 at in
        let tree : module_items 0 m.0.tree.now ≡ tree_of p its.id = sym each.tree ∙ ap (tree_of p) m.2 in
        let leads_as : m.0.deps.items ≡ its.deps.now = ap (λ (m : TransformedModule). m.deps.items) (same_Some m.0 d.0 (sym m.1 ∙ d.1)) ∙ d.2 in
        record {
          table = table_of p its.id config (name_of_check m.0.file_name) (module_items 0 m.0.tree.now) its.tables.now w.links tree its_tables;
          requests = its_tables.requests p.settings w.links ∙ ap (λ (t : List Item). requests_of p.settings (is_free t) t) tree;
          leads = λ s. ap (λ k. p.leads k s) (sym m.2) ∙ each.leads s ∙ ap (λ ds. led ds s) leads_as;
        };
    apart = subst (λ (l : List ℕ). HasNoDoubles l) (sym ids) w.apart;
    others = λ m no. w.others m (λ there. no (subst (λ (l : List ℕ). Contains l m) (sym ids) there));
    there = λ m d s e. subst (λ (l : List ℕ). Contains l d) (sym ids) (w.there m d s e);
    begins = w.begins;
    entry_there = subst (λ (l : List ℕ). Contains l entry) (sym ids) w.entry_there;
    requires = w.links.0 ∙ sym same;
    once = has_each_once (λ i its at. all_read i its at);
  }
    where
      all_read : (i : ℕ) (its : TransformedModule) → slice_get modules i ≡ Some its → (t : Tables) × HasTables config its t
      all_read i its at = zip_left (HasTables config) modules tables read i its at
