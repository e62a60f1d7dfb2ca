-- Prepared items of modules are read as the trees of their modules without contexts and notes, behind the object of an
-- `import.meta`, if there is one.
use Rattle.std.proofs.Common.{◌≡◌, ◌≢◌, ℕ, ◌<◌, ◌==◌, Bool, true, false, List, [], ◌∷◌, ◌++◌, Option, Some, None, Contains, codes, drop, map, refl, sym, ap, ◌∙◌, subst, eq-eqb, eqb-true, arith}
use Rattle.std.specs.Prelude.{bytes_eq, is_some, option_map, slice_get, string_bytes, take, if◌then◌else◌}
use Rattle.std.specs.Option.{option_and_then, option_or}
use Rattle.std.proofs.lemmas.Bool.{false≢true}
use Rattle.std.proofs.lemmas.Option.{none-some, same_Some, slice_get_within}
use Rattle.bundle_syntax.specs.declared.kind.ExportMetadata.{ExportMetadata}
use Rattle.bundle_tree_ast.specs.declared.module.Module.{Module}
use Rattle.bundle_tree_ast.specs.declared.module.ModuleItem.{ModuleItem}
use Rattle.bundle_tree_names.specs.FileName.{name_of, Name as FileName}
use Rattle.bundle_syntax.specs.declared.piece.Role.{Role}
use Rattle.bundle_syntax.specs.declared.piece.Role.TheVariants as r
use Rattle.bundle_syntax.specs.Item as h
use Rattle.bundle_syntax.specs.Item.{Head, Item}
use Rattle.bundle_tree_listed.specs.Tree.{module_item_items, module_items, node}
use Rattle.bundle_tree_places.specs.Marks.{ident_of}
use Rattle.bundle_tree_places.specs.declared.mark.Name.{Name}
use Rattle.bundle_order_graph.specs.Walks.{along, itself}
use Rattle.bundle_order_graph.proofs.WalkLemmas.{Reaches-trans}
use Rattle.bundle_rules.specs.Bundle.{Hooks, properties_tree}
use Rattle.bundle_rules.specs.Cleared.{cleared}
use Rattle.bundle_rules.specs.Declarations.{BySymbol, ByContext, Name as ItsName}
use Rattle.bundle_rules.specs.Denotes.{Bound, denoted_as}
use Rattle.bundle_rules.specs.Entries.{has_import_meta, is_import_meta}
use Rattle.bundle_rules.specs.Faults.{IsFaultless}
use Rattle.bundle_rules.specs.Judging.{requests_in}
use Rattle.bundle_rules.specs.Meaning.{HasKind, is_es, is_common_js}
use Rattle.bundle_rules.specs.Merged.{AreItemsOf, Contexts, IsMetaItem, IsPrepared, MetaItems, StandsIn, meta_item, none, one}
use Rattle.bundle_rules.specs.Nodes.{Text, flat, has_head, parts}
use Rattle.bundle_rules.specs.Parts.{Parts, in_order, items_in, tree_of_items}
use Rattle.bundle_rules.specs.Places.{Occurrence, occurrences}
use Rattle.bundle_rules.specs.Program.{Program, tree_of, IsReached}
use Rattle.bundle_rules.specs.Scopes.{ModuleKind, Es, Cjs, Inner, ScopeKind}
use Rattle.bundle_rules.proofs.CallLemmas.{has_import_meta-cleared}
use Rattle.bundle_rules.proofs.FaultLemmas as faults
use Rattle.bundle_rules.proofs.FaultLemmas.{faultless_of_cleared}
use Rattle.bundle_scope_denote.specs.Listed.{IsDenotationTable}
use Rattle.bundle_scope_names.specs.fit.Fits as f
use Rattle.bundle_scope_names.specs.fit.Fits.{AreFit, IsFit, a_name, a_node, name, no_more}
use Rattle.bundle_scope_names.specs.fit.Sorts.{AModule, AProperty, Many, One, NodeSort, slot, takes_head, takes_name}
use Rattle.bundle_link_index.specs.Leads.{flagged}
use Rattle.bundle_link_targets.specs.Meant.{IsModuleTree}
use Rattle.bundle_link.specs.Alike.{IsModuleAt}
use Rattle.bundle_link.specs.Default.{DeclaresDefaultAlone}
use Rattle.bundle_link.specs.Leads.{Deps, led, module_place, last_told, told_of_text}
use Rattle.bundle_link.specs.Linked.{IsLinkedOf}
use Rattle.bundle_link.proofs.AlikeLemmas.{common_js_on, flip}
use Rattle.bundle_link.proofs.ClearedNodes.{cleared-module-tree}
use Rattle.bundle_link.proofs.DefaultLemmas.{default-once-cleared}
use Rattle.bundle_link.proofs.LeadLemmas.{told-led}
use Rattle.bundle_link.proofs.NumberLemmas.{at-place, held, place-there}
use Rattle.bundle_link.proofs.RequestLemmas.{requests_to}
use Rattle.bundle_link.proofs.ToldLemmas.{kind_told}
use Rattle.bundle_link.specs.Programs.{IsTransformedOf}
use Rattle.bundle_link.specs.declared.link.Linker.{Linker}
use Rattle.bundle_link.specs.declared.transformed.TransformedModule.{TransformedModule}
use Rattle.bundle_link.proofs.ClearedTables.{cleared-table}
use Rattle.bundle_merge_theory.proofs.function.Given.{fit_given, one_alone}
use Rattle.bundle_merge_theory.proofs.fit.Facts.{fit_nodes}
use Rattle.bundle_merge_theory.proofs.walked.Loading.{nodes_whole}
use Rattle.bundle_merge_theory.specs.cleared.Programs.{cleared_program}
use Rattle.bundle_merge_theory.specs.made.Given.{HookAnswer, Fresh, Written}
use Rattle.bundle_merge_theory.proofs.answered.Resolving.{resolved-cleared}
use Rattle.bundle_merge_theory.proofs.cleared.Cleared.{checked-cleared, leads-cleared, list-cleared, meta-cleared, meta-item-cleared, of-cleared-kind, of-cleared-reached, to-cleared-reached, tree-of-cleared, undoubled-cleared}
use Rattle.bundle_merge_theory.proofs.grown.Trees.{kept_fit}
use Rattle.bundle_merge_theory.proofs.planned.RequestLemmas.{list-once}
use Rattle.bundle_merge_names.specs.Bundle.{list_of_part}
use Rattle.bundle_merge_names.specs.declared.part.BundleModule.{BundleModule}
use Rattle.bundle_merge.specs.Handed.{AreObjectsApart, StandsInObject, its_inside, its_name}
use Rattle.bundle_merge.specs.Placed.{AreModulesRight, HasFront, IsModuleRead, nothing, object}
use Rattle.bundle_merge.specs.Read.{AreAllKnown, IsModuleKnown, IsReadAt, IsReadModuleOf, first_declared, name_held, item_list, own_list, without_front}
use Rattle.bundle_merge.specs.Ready.{IsMergeable}
use Rattle.bundle_merge.proofs.Known.{all-there, at-number as numbered-there}
use Rattle.bundle_merge.proofs.Objects as o
use Rattle.bundle_merge.proofs.Objects.{AnswersFit}
use Rattle.bundle_merge.proofs.Places.{one-place}

-- ---- lists
-- a list behind more of which one is so
some-behind : (test : Head → Bool) (xs ys : List Item) → has_head test ys ≡ true →
    has_head test (xs ++ ys) ≡ true
some-behind test [] ys is = is
some-behind test (h.Open field head ∷ xs) ys is = by (test head) (some-behind test xs ys is)
  where
    by : (b : Bool) → has_head test (xs ++ ys) ≡ true →
        (elim b [ true ↦ true | false ↦ has_head test (xs ++ ys) ]) ≡ true
    by true later = refl
    by false later = later
some-behind test (h.Ident field sym ctxt role ∷ xs) ys is = some-behind test xs ys is
some-behind test (h.Hole field ∷ xs) ys is = some-behind test xs ys is
some-behind test (h.Close ∷ xs) ys is = some-behind test xs ys is

-- an end behind is none
before-end : (test : Head → Bool) (xs : List Item) →
    has_head test (xs ++ h.Close ∷ []) ≡ has_head test xs
before-end test [] = refl
before-end test (h.Open field head ∷ xs) =
    λ i. elim (test head) [ true ↦ true | false ↦ before-end test xs i ]
before-end test (h.Ident field sym ctxt role ∷ xs) = before-end test xs
before-end test (h.Hole field ∷ xs) = before-end test xs
before-end test (h.Close ∷ xs) = before-end test xs

-- the list of items is that of their trees
list-flat : (items : List ModuleItem) → item_list items ≡ flat (map (module_item_items 0) items)
list-flat [] = refl
list-flat (item ∷ items) = ap (λ l. module_item_items 0 item ++ l) (list-flat items)

-- where something is told of a text, a number was told so
told-some : (tell : ℕ → Option ℕ) (deps : Deps) (s : Text) (d : ℕ) → last_told tell deps s ≡ Some d →
    (c : ℕ) × (tell c ≡ Some d)
told-some tell [] s d is = absurd (none-some d is)
told-some tell (dep ∷ rest) s d is =
    by (last_told tell rest s) refl (λ later. told-some tell rest s d later) is
  where
    here : (b : Bool) → (if b then tell dep.1 else None) ≡ Some d → (c : ℕ) × (tell c ≡ Some d)
    here true e = (dep.1, e)
    here false e = absurd (none-some d e)

    by : (o : Option ℕ) → last_told tell rest s ≡ o →
        (last_told tell rest s ≡ Some d → (c : ℕ) × (tell c ≡ Some d)) →
        option_or o (told_of_text tell s dep) ≡ Some d → (c : ℕ) × (tell c ≡ Some d)
    by None at later e = here (bytes_eq (string_bytes dep.0) s) e
    by (Some x) at later e = later (at ∙ e)

no-name : (found : Option Name) → option_map ident_of found ≡ None → found ≡ None
no-name None is = refl
no-name (Some its) is = absurd (none-some (ident_of its) (sym is))

-- what is behind the front of a part is its own, by the name of what stands there
own-behind : (found : Option Name) (items : List ModuleItem) →
    drop (if is_some found then 1 else 0) items ≡ without_front (option_map ident_of found) items
own-behind None items = refl
own-behind (Some its) items = refl

-- the first of some items, and the others
pub record SplitItems (items : List ModuleItem) (x : List Item) (xs : List (List Item)) : Type 0 where
  pub first : ModuleItem
  pub rest : List ModuleItem
  pub is : items ≡ first ∷ rest
  pub its : module_item_items 0 first ≡ x
  pub behind : map (module_item_items 0) rest ≡ xs

split-items : (items : List ModuleItem) (x : List Item) (xs : List (List Item)) →
    map (module_item_items 0) items ≡ x ∷ xs → SplitItems items x xs
split-items [] x xs is = absurd cc
split-items (first ∷ rest) x xs is =
    let one : module_item_items 0 first ≡ x = cc in
    let more : map (module_item_items 0) rest ≡ xs = cc in
    record { first = first; rest = rest; is = refl; its = one; behind = more }

-- ---- trees
-- one node or name fits where one is asked for
fit-alone : {sort : NodeSort} {field : ℕ} {items : List Item} → IsFit sort field items →
    AreFit (slot field One sort ∷ []) items
fit-alone (name it) = a_name it no_more
fit-alone (f.node it in_it) = a_node it in_it no_more

-- the list of a module is that of its items
module-is : {tree : List Item} → IsFit AModule 0 tree → tree ≡ tree_of_items (flat (parts tree))
module-is (name {role = role} it) = absurd (no_module_name role it)
  where
    no_module_name : (role : Role) → takes_name role AModule ≡ true → ⊥
    no_module_name r.Binding is = false≢true is
    no_module_name r.Reference is = false≢true is
    no_module_name r.Word is = false≢true is
module-is (f.node {head = head} {inside = inside} it in_it) =
    (λ k. h.Open 0 (same head it k) ∷ (inside ++ h.Close ∷ []))
    ∙ ap (λ l. h.Open 0 h.Module ∷ (l ++ h.Close ∷ [])) (sym (nodes_whole (fit_nodes in_it)))
  where
    same : (head : Head) → takes_head head AModule ≡ true → head ≡ h.Module
    same h.Module is = refl
    same _ is = absurd (false≢true is)

-- items of a tree that was resolved
module _ (tree : List Item) (fits : IsFit AModule 0 tree) (items : List ModuleItem) where
  whole : tree ≡ node 0 h.Module (flat (parts tree))
  whole = module-is fits

  inside-meta : has_import_meta (flat (parts tree)) ≡ has_import_meta tree
  inside-meta =
      sym (before-end is_import_meta (flat (parts tree))) ∙ ap has_import_meta (sym whole)

  -- where no `import.meta` stands in it all are the module's own
  module _ (none_there : has_import_meta tree ≡ false) (are : map (module_item_items 0) items ≡ parts tree) where
    all-listed : item_list items ≡ flat (parts tree)
    all-listed = list-flat items ∙ ap flat are

    pub none-held : name_held items ≡ None
    none-held =
        ap (λ b. first_declared (item_list (if b then take 1 items else [])))
        (ap has_import_meta all-listed ∙ inside-meta ∙ none_there)

    pub all-own : own_list items ≡ tree
    all-own =
        ap (λ name. node 0 h.Module (item_list (without_front name items))) none-held
        ∙ ap (node 0 h.Module) all-listed ∙ sym whole

  -- else those behind the object that holds it are
  module _ (some_there : has_import_meta tree ≡ true) (notes : ExportMetadata) (ctxt : ℕ) (properties : List Item) (its : SplitItems items (meta_item notes ctxt properties) (parts tree)) where
    behind-listed : item_list its.rest ≡ flat (parts tree)
    behind-listed = list-flat its.rest ∙ ap flat its.behind

    meta-listed : has_import_meta (item_list items) ≡ true
    meta-listed =
        ap (λ l. has_import_meta (item_list l)) its.is
        ∙ some-behind is_import_meta (module_item_items 0 its.first) (item_list its.rest)
        (ap has_import_meta behind-listed ∙ inside-meta ∙ some_there)

    pub its-held : name_held items ≡ Some (codes "importMeta", ctxt)
    its-held =
        ap (λ b. first_declared (item_list (if b then take 1 items else []))) meta-listed
        ∙ ap (λ l. first_declared (item_list (take 1 l))) its.is
        ∙ ap (λ l. first_declared (l ++ [])) its.its

    pub others-own : own_list items ≡ tree
    others-own =
        ap (λ name. node 0 h.Module (item_list (without_front name items))) its-held
        ∙ ap (λ l. node 0 h.Module (item_list (drop 1 l))) its.is
        ∙ ap (node 0 h.Module) behind-listed ∙ sym whole

-- one context of a name that is written
same-ctxt : {a b : ℕ} {notes other : ExportMetadata} {xs ys : List Item} →
    Some (Written a notes xs) ≡ Some (Written b other ys) → a ≡ b
same-ctxt {a = a} {b = b} {notes = notes} {other = other} {xs = xs} {ys = ys} same =
    let one : Written a notes xs ≡ Written b other ys =
    same_Some (Written a notes xs) (Written b other ys) same in cc

module _ (p : Program) (hooks : Hooks) (contexts : ℕ → Contexts) (next : ℕ) (prepared : Parts) (linker : Linker) (w : IsMergeable p contexts linker) (ready : IsPrepared p hooks contexts next prepared) (fits : AnswersFit hooks) where
  abbrev list : List ℕ
  list = linker.linked.list.items

  abbrev ids : List ℕ
  ids = linker.linked.ids.keys

  abbrev l : IsLinkedOf p linker.linked
  l = w.of.linked

  -- the module of the linker under a number that has a place
  at-number : (m k : ℕ) → slice_get ids k ≡ Some m →
      (its : TransformedModule) × (slice_get linker.modules.items k ≡ Some its) × (its.id ≡ m)
  at-number = numbered-there p contexts linker w

  its-place : (m : ℕ) → IsReached p m → (k : ℕ) × (module_place ids m ≡ Some k)
  its-place m reached = place-there ids m (l.listed m ((l.reached m).1 reached))

  -- all modules of the list are there
  pub all-known : AreAllKnown linker list
  all-known = all-there p contexts linker w

  -- what is known under a number is its module
  known-number : (m : ℕ) (known : TransformedModule) → IsModuleKnown linker m known → known.id ≡ m
  known-number m known its =
      let it = at-number m its.place (at-place ids m its.place its.numbered) in
      ap (λ (x : TransformedModule). x.id) (same_Some known it.0 (sym its.there ∙ it.1)) ∙ it.2

  known-module : (m : ℕ) (known : TransformedModule) → IsModuleKnown linker m known → IsTransformedOf p known
  known-module m known its = w.of.modules.each its.place known its.there

  -- which has no fault by itself
  pub known-faultless : (m : ℕ) (known : TransformedModule) → IsModuleKnown linker m known →
      IsFaultless (name_of known.file_name) (tree_of p m)
  known-faultless m known its =
      subst (IsFaultless (name_of known.file_name))
      (sym (known-module m known its).tree ∙ ap (tree_of p) (known-number m known its))
      (w.of.faultless known (held linker.modules.items known its.place its.there))

  -- ---- what is read is read of the program with cleared trees
  abbrev q : Program
  q = cleared_program p

  -- the tree of a reached module is that of a module
  its-tree : (m : ℕ) → IsReached p m →
      (its : TransformedModule) × (tree_of p m ≡ module_items 0 its.tree.now)
  its-tree m reached =
      let known = all-known m ((l.reached m).1 reached) in (
        known.0,
        ap (tree_of p) (sym (known-number m known.0 known.1)) ∙ (known-module m known.0 known.1).tree,
      )

  its-cleared : (m : ℕ) → IsReached p m →
      (its : TransformedModule) × (tree_of q m ≡ cleared (module_items 0 its.tree.now))
  its-cleared m reached =
      let its = its-tree m reached in (its.0, tree-of-cleared p m ∙ ap cleared its.1)

  its-fit : (m : ℕ) → IsReached p m → IsFit AModule 0 (tree_of q m)
  its-fit m reached =
      let its = its-cleared m reached in
      subst (IsFit AModule 0) (sym its.1) (kept_fit its.0.tree.now)

  pub are-right : AreModulesRight q list
  are-right = record {
    is_list = list-cleared p list l.list;
    checked = checked-cleared p ready.checked;
    undoubled = undoubled-cleared p ready.undoubled;
    trees = λ m reached.
        (let its = its-cleared m (of-cleared-reached p m reached) in
        subst IsModuleTree (sym its.1) (cleared-module-tree its.0.tree.now));
    default = λ m reached.
        (let its = its-cleared m (of-cleared-reached p m reached) in
        subst DeclaresDefaultAlone (sym its.1) (default-once-cleared its.0.tree.now));
    fit = λ m reached. its-fit m (of-cleared-reached p m reached);
    leads = leads-cleared p w.leads;
  }

  -- a reached module has a kind
  its-kind : (m : ℕ) → IsReached p m → (kind : ModuleKind) × HasKind p m kind
  its-kind m reached =
      let k = its-place m reached in
      by k.0 (at-place ids m k.0 k.1)
      (kind_told l.places k.0 (flagged linker.linked.linking.common_js.items k.0) (l.linking.common_js k.0))
    where
      by : (k : ℕ) → slice_get ids k ≡ Some m → (kind : ModuleKind) × HasKind l.places k kind →
          (kind : ModuleKind) × HasKind p m kind
      by k at (_, is_es not) =
          (Es, is_es (λ common. not (common_js_on p l.places (IsModuleAt ids) l.alike m k at common)))
      by k at (_, is_common_js common) = (
        Cjs,
        is_common_js (common_js_on l.places p (λ a b. IsModuleAt ids b a) (flip l.alike) k m at common),
      )

  -- ---- what stands in front of the prepared items of a module
  module _ (m : ℕ) (reached : IsReached p m) where
    abbrev given : AreItemsOf p hooks (contexts m).local m (items_in (in_order prepared) m)
    given = ready.items m reached

    -- an item that holds its `import.meta`
    record AFront : Type 0 where
      pub item : List Item
      pub has : has_import_meta (tree_of p m) ≡ true
      pub own : IsMetaItem p hooks m item
      pub are : items_in (in_order prepared) m ≡ item ∷ parts given.tree
      pub outside : (o : Occurrence) → Contains (occurrences item) o → o.ctxt ≢ (contexts m).local

    data Fronts : Type 0 where
      no_front : has_import_meta (tree_of p m) ≡ false →
          items_in (in_order prepared) m ≡ parts given.tree →
          Fronts
      a_front : AFront → Fronts

    fronts : Fronts
    fronts = by given.is_front given.is given.outside
      where
        by : {front : List (List Item)} → MetaItems p hooks m front →
            items_in (in_order prepared) m ≡ front ++ parts given.tree →
            ((item : List Item) (o : Occurrence) → Contains front item →
            Contains (occurrences item) o → o.ctxt ≢ (contexts m).local) →
            Fronts
        by (none not) are outside = no_front not are
        by (one {item = item} has is) are outside = a_front (record {
          item = item;
          has = has;
          own = is;
          are = are;
          outside = λ o there. outside item o (held (item ∷ []) item 0 refl) there;
        })

  -- what is so of an object that is written already for module m
  pub record IsObjectOf (m ctxt : ℕ) (notes : ExportMetadata) (properties : List Item) : Type 0 where
    pub item : List Item
    pub is : item ≡ meta_item notes ctxt properties
    pub has : has_import_meta (tree_of p m) ≡ true
    pub meta : IsMetaItem p hooks m item
    pub fit : AreFit (slot 0 Many AProperty ∷ []) properties
    pub behind : List (List Item)
    pub are : items_in (in_order prepared) m ≡ item ∷ behind
    pub outside : (o : Occurrence) → Contains (occurrences item) o → o.ctxt ≢ (contexts m).local
    pub name_above : 1 < ctxt
    pub name_stands : (o : Occurrence) × Contains (occurrences item) o × (o.ctxt ≡ ctxt)
    pub inside_above : (i : ℕ) (o : Occurrence) (kind : ScopeKind) (begins : ℕ) (name : ItsName) →
        slice_get (occurrences (properties_tree properties)) i ≡ Some o →
        denoted_as ByContext Es (properties_tree properties) i
        ≡ Some (Bound (Inner kind begins) name) →
        1 < o.ctxt
    pub inside_stands : (i : ℕ) (o : Occurrence) →
        slice_get (occurrences (properties_tree properties)) i ≡ Some o →
        (u : Occurrence) × Contains (occurrences item) u × (u.ctxt ≡ o.ctxt)
    pub inside_other : (i : ℕ) (o : Occurrence) →
        slice_get (occurrences (properties_tree properties)) i ≡ Some o →
        o.ctxt ≢ ctxt

  object-of-front : (m : ℕ) (reached : IsReached p m) (front : AFront m reached) →
      IsObjectOf m front.own.ctxt front.own.meta front.own.properties
  object-of-front m reached front =
      let its = front.own in
      record {
        item = front.item;
        is = its.is;
        has = front.has;
        meta = its;
        fit = o.object-fit its fits;
        behind = parts (given m reached).tree;
        are = front.are;
        outside = front.outside;
        name_above = front.own.above;
        name_stands = o.name-stands its;
        inside_above = λ i u kind begins name at denoted.
            o.inside-above its i u at front.own.inside kind begins name denoted;
        inside_stands = λ i u at. o.inside-stands its i u at;
        inside_other = λ i u at. o.inside-other its i u at;
      }

  -- what is told of a module: nothing, or that
  abbrev pub ObjectIs : ℕ → Option HookAnswer → Type 0
  ObjectIs m None = ⊥
  ObjectIs m (Some (Fresh properties)) = ⊥
  ObjectIs m (Some (Written ctxt notes properties)) = IsObjectOf m ctxt notes properties

  pub data Told (m : ℕ) : Option HookAnswer → Type 0 where
    plain : has_import_meta (tree_of p m) ≡ false → Told m None
    written : {answer : Option HookAnswer} → ObjectIs m answer → Told m answer

  told-of : (m : ℕ) → IsReached p m → (answer : Option HookAnswer) × Told m answer
  told-of m reached = by (fronts m reached)
    where
      by : Fronts m reached → (answer : Option HookAnswer) × Told m answer
      by (no_front none_there are) = (None, plain none_there)
      by (a_front front) =
          let its = front.own in (
            Some (Written its.ctxt its.meta its.properties),
            written (object-of-front m reached front),
          )

  list-has : (k m : ℕ) → slice_get list k ≡ Some m → IsReached p m
  list-has k m at = (l.reached m).0 (held list m k at)

  -- the same of the module at a place of the list
  pub data ToldAt (k : ℕ) : Option HookAnswer → Type 0 where
    past : slice_get list k ≡ None → ToldAt k None
    there_is : {answer : Option HookAnswer} (m : ℕ) → slice_get list k ≡ Some m → Told m answer → ToldAt k answer

  pub told-at : (k : ℕ) → (answer : Option HookAnswer) × ToldAt k answer
  told-at k = by (slice_get list k) refl
    where
      by : (found : Option ℕ) → slice_get list k ≡ found → (answer : Option HookAnswer) × ToldAt k answer
      by None at = (None, past at)
      by (Some m) at = let its = told-of m (list-has k m at) in (its.0, there_is m at its.1)

  -- ---- what is read of the prepared items of a module
  module _ (m : ℕ) (reached : IsReached p m) (items : List ModuleItem) (prepared_are : map (module_item_items 0) items ≡ items_in (in_order prepared) m) where
    abbrev its : AreItemsOf p hooks (contexts m).local m (items_in (in_order prepared) m)
    its = ready.items m reached

    -- the tree that was resolved is the module's but for contexts
    is-cleared : cleared its.tree ≡ tree_of q m
    is-cleared =
        let kind = its-kind m reached in
        resolved-cleared kind.0 (contexts m).local its.next its.later (tree_of p m) its.tree
        (its.resolved kind.0 kind.1)
        ∙ sym (tree-of-cleared p m)

    is-fit : IsFit AModule 0 its.tree
    is-fit = one_alone (fit_given (fit-alone (its-fit m reached)) its.tree is-cleared)

    tree-meta : has_import_meta its.tree ≡ has_import_meta (tree_of p m)
    tree-meta =
        sym (has_import_meta-cleared its.tree) ∙ ap has_import_meta is-cleared ∙ meta-cleared p m

    own-tree : own_list items ≡ its.tree
    own-tree = by (fronts m reached)
      where
        by : Fronts m reached → own_list items ≡ its.tree
        by (no_front none_there are) =
            all-own its.tree is-fit items (tree-meta ∙ none_there) (prepared_are ∙ are)
        by (a_front front) =
            others-own its.tree is-fit items (tree-meta ∙ front.has) front.own.meta
            front.own.ctxt front.own.properties
            (split-items items _ (parts its.tree) (prepared_are ∙ front.are ∙ ap (λ x. x ∷ parts its.tree) front.own.is))

    own-cleared : tree_of q m ≡ cleared (own_list items)
    own-cleared = sym is-cleared ∙ ap cleared (sym own-tree)

    -- so what is the module's own has no fault by itself
    pub own-faultless : (file : FileName) → IsFaultless file (tree_of p m) →
        IsFaultless file (own_list items)
    own-faultless file alone =
        faultless_of_cleared file (own_list items)
        (subst (IsFaultless file) (sym (tree-of-cleared p m) ∙ own-cleared)
        (faults.faultless file (tree_of p m) alone))

    module _ (k : ℕ) (at : slice_get list k ≡ Some m) (given : Module) (body : given.body.items ≡ items) (part : BundleModule) (read : IsReadAt linker list m given part) where
      known : TransformedModule
      known = read.known

      number : read.known.id ≡ m
      number = known-number m read.known read.is_known

      was : IsReadModuleOf linker read.known list items part
      was = subst (λ its. IsReadModuleOf linker read.known list its part) body read.is

      list-is : list_of_part part ≡ own_list items
      list-is =
          ap (λ l. node 0 h.Module (item_list l))
          (ap (drop (if is_some part.written then 1 else 0)) was.its_items
          ∙ own-behind part.written items)
          ∙ ap (λ name. node 0 h.Module (item_list (without_front name items))) was.written

      -- its requests lead to listed modules
      leads-listed : (s : Text) → Contains (requests_in q.settings (tree_of q m)) s → (c : ℕ) →
          led read.known.deps.items s ≡ Some c → (j : ℕ) × (module_place list c ≡ Some j)
      leads-listed s asked c leads =
          let to : p.leads m s ≡ Some c =
          ap (λ n. p.leads n s) (sym number)
          ∙ (known-module m read.known read.is_known).leads s ∙ leads in
          place-there list c
          ((l.reached c).1
          (of-cleared-reached p c
          (Reaches-trans (to-cleared-reached p m reached)
          (along (requests_to q m c s asked to) itself))))

      pub is-read : IsModuleRead q list m part
      is-read = record {
        tree = own-cleared ∙ ap cleared (sym list-is);
        names = λ kind has.
            subst (λ l. IsDenotationTable BySymbol kind l part.denotations.now) (sym list-is)
            (was.names p kind w.of
            (subst (λ n. HasKind p n kind) (sym number) (of-cleared-kind p m kind has)));
        table =
            cleared-table q m linker.config (name_of read.known.file_name) (own_list items)
            part.tables.now w.of.modules.links own-cleared was.tables;
        meta = was.meta ∙ sym (has_import_meta-cleared (own_list items)) ∙ ap has_import_meta (sym own-cleared);
        leads = λ s asked.
            was.leads s
            ∙ told-led (module_place list) read.known.deps.items s (leads-listed s asked)
            ∙ ap (option_and_then (module_place list))
            (sym ((known-module m read.known read.is_known).leads s) ∙ ap (λ n. p.leads n s) number);
        within = λ d s leads.
            (let c = told-some (module_place list) read.known.deps.items s d (sym (was.leads s) ∙ leads) in
            slice_get_within list d c.0 (at-place list c.0 d c.1));
        faultless = (
          name_of read.known.file_name,
          subst (IsFaultless (name_of read.known.file_name)) (sym list-is) was.tables.faultless,
        );
      }

      -- and its names at the top have the context of the module
      pub has-local : part.local ≡ (contexts m).local
      has-local =
          was.local
          ∙ sym (w.locals read.known (held linker.modules.items read.known read.is_known.place read.is_known.there))
          ∙ ap (λ n. (contexts n).local) number

      -- what stands in front of its own items is what is told
      pub has-front : {answer : Option HookAnswer} → Told m answer → HasFront q hooks m part answer
      has-front (plain none_there) = nothing (meta-cleared p m ∙ none_there) (no-name part.written (was.written ∙ by (fronts m reached)))
        where
          by : Fronts m reached → name_held items ≡ None
          by (no_front not are) =
              none-held its.tree is-fit items (tree-meta ∙ not) (prepared_are ∙ are)
          by (a_front front) = absurd (false≢true (sym none_there ∙ front.has))
      has-front {answer = Some (Written ctxt notes properties)} (written object_is) =
          object ctxt notes properties (meta-cleared p m ∙ object_is.has)
          (meta-item-cleared p hooks m (meta_item notes ctxt properties)
          (subst (IsMetaItem p hooks m) object_is.is object_is.meta))
          object_is.fit
          (record {
            name = was.written ∙ held-so;
            first = split.first;
            rest = split.rest;
            items = was.its_items ∙ split.is;
            is = split.its;
          })
        where
          behind-is : object_is.behind ≡ parts its.tree
          behind-is = by (fronts m reached)
            where
              by : Fronts m reached → object_is.behind ≡ parts its.tree
              by (no_front not are) = absurd (false≢true (sym not ∙ object_is.has))
              by (a_front front) = ap (drop 1) (sym object_is.are ∙ front.are)

          split : SplitItems items (meta_item notes ctxt properties) (parts its.tree)
          split =
              split-items items (meta_item notes ctxt properties) (parts its.tree)
              (prepared_are ∙ object_is.are
              ∙ (λ i. object_is.is i ∷ behind-is i))

          held-so : name_held items ≡ Some (codes "importMeta", ctxt)
          held-so =
              its-held its.tree is-fit items (tree-meta ∙ object_is.has) notes ctxt properties split
      has-front {answer = None} (written object_is) = absurd object_is
      has-front {answer = Some (Fresh properties)} (written object_is) = absurd object_is

  -- ---- contexts that stand in objects
  module _ (answers : ℕ → Option HookAnswer) (tells : (k : ℕ) → ToldAt k (answers k)) where
    -- where nothing is told of a place past the list
    pub past-none : (k : ℕ) → slice_get list k ≡ None → answers k ≡ None
    past-none k none_at = by (tells k)
      where
        by : {answer : Option HookAnswer} → ToldAt k answer → answer ≡ None
        by (past at) = refl
        by (there_is m at its) = absurd (none-some m (sym none_at ∙ at))

    -- what is told of a module of the list
    pub told-there : (k m : ℕ) → slice_get list k ≡ Some m → Told m (answers k)
    told-there k m at = by (tells k)
      where
        by : {answer : Option HookAnswer} → ToldAt k answer → Told m answer
        by (past none_at) = absurd (none-some m (sym none_at ∙ at))
        by {answer = answer} (there_is other its_at its) =
            subst (λ n. Told n answer) (same_Some other m (sym its_at ∙ at)) its

    record AnObject (k : ℕ) (answer : Option HookAnswer) : Type 0 where
      m : ℕ
      at : slice_get list k ≡ Some m
      its : ObjectIs m answer

    object-at : (k ctxt : ℕ) (notes : ExportMetadata) (properties : List Item) →
        answers k ≡ Some (Written ctxt notes properties) →
        AnObject k (Some (Written ctxt notes properties))
    object-at k ctxt notes properties same = by (tells k) same
      where
        by_told : {answer : Option HookAnswer} (m : ℕ) → slice_get list k ≡ Some m → Told m answer →
            answer ≡ Some (Written ctxt notes properties) →
            AnObject k (Some (Written ctxt notes properties))
        by_told m at (plain none_there) e =
            absurd (none-some (Written ctxt notes properties) e)
        by_told m at (written its) e = record { m = m; at = at; its = subst (ObjectIs m) e its }

        by : {answer : Option HookAnswer} → ToldAt k answer →
            answer ≡ Some (Written ctxt notes properties) →
            AnObject k (Some (Written ctxt notes properties))
        by (past none_at) e = absurd (none-some (Written ctxt notes properties) e)
        by (there_is m at its) e = by_told m at its e

    -- a context that stands in one is that of an occurrence in the module's items
    record Stand (k ctxt : ℕ) : Type 0 where
      m : ℕ
      at : slice_get list k ≡ Some m
      o : Occurrence
      stands : StandsIn prepared m o
      is : o.ctxt ≡ ctxt
      above : 1 < ctxt
      outside : ctxt ≢ (contexts m).local

    stand : (k ctxt : ℕ) → StandsInObject answers k ctxt → Stand k ctxt
    stand k ctxt (its_name notes properties same) =
        let it = object-at k ctxt notes properties same in
        let its = it.its in
        let there = its.name_stands in
        record {
          m = it.m;
          at = it.at;
          o = there.0;
          stands = record {
            item = its.item;
            its =
                subst (λ items. Contains items its.item) (sym its.are)
                (held (its.item ∷ its.behind) its.item 0 refl);
            there = there.1;
          };
          is = there.2;
          above = its.name_above;
          outside = λ e. its.outside there.0 there.1 (there.2 ∙ e);
        }
    stand k ctxt (its_inside inside) =
        let it = object-at k inside.own inside.notes inside.properties inside.told in
        let its = it.its in
        let there = its.inside_stands inside.i inside.o inside.there in
        let is : there.0.ctxt ≡ ctxt = there.2 ∙ inside.is in
        record {
          m = it.m;
          at = it.at;
          o = there.0;
          stands = record {
            item = its.item;
            its =
                subst (λ items. Contains items its.item) (sym its.are)
                (held (its.item ∷ its.behind) its.item 0 refl);
            there = there.1;
          };
          is = is;
          above =
              subst (λ c. 1 < c) inside.is
              (its.inside_above inside.i inside.o inside.kind inside.begins inside.name
              inside.there inside.denoted);
          outside = λ e. its.outside there.0 there.1 (is ∙ e);
        }

    one-module : (m n : ℕ) (a b : Occurrence) → StandsIn prepared m a → StandsIn prepared n b →
        a.ctxt ≡ b.ctxt → 1 < a.ctxt → m ≡ n
    one-module m n a b first second same above = by (m == n) refl
      where
        by : (t : Bool) → (m == n) ≡ t → m ≡ n
        by true e = eqb-true m n e
        by false e =
            let is =
            ready.apart m n a b (λ one. false≢true (sym e ∙ eq-eqb m n one)) first second same in
            absurd (omega (arith, above, is))

    pub objects-apart : AreObjectsApart list (λ m. (contexts m).local) next answers
    objects-apart = record {
      own = λ k ctxt stands. (stand k ctxt stands).above;
      free = λ k ctxt stands.
          (let it = stand k ctxt stands in
          subst (λ c. c < next) it.is (ready.free it.m it.o it.stands));
      tops = λ k n m ctxt stands at e.
          (let it = stand k ctxt stands in
          by_number it.m m (it.m == m) refl (λ one. it.outside (e ∙ ap (λ i. (contexts i).local) (sym one)))
          (λ other. ready.strange it.m m it.o other it.stands (list-has n m at) (it.is ∙ e)));
      apart = λ k n ctxt one two.
          (let a = stand k ctxt one in
          let b = stand n ctxt two in
          let same =
          one-module a.m b.m a.o b.o a.stands b.stands (a.is ∙ sym b.is)
          (subst (λ c. 1 < c) (sym a.is) a.above) in
          one-place list (list-once p list l.list) k n b.m
          (a.at ∙ ap (λ i. Some i) same) b.at);
      names = λ k ctxt its notes properties same inside e.
          (let it = object-at k inside.own inside.notes inside.properties inside.told in
          it.its.inside_other inside.i inside.o inside.there
          (inside.is ∙ e ∙ same-ctxt (sym same ∙ inside.told)));
    }
      where
        by_number : (m n : ℕ) (t : Bool) → (m == n) ≡ t → (m ≡ n → ⊥) → ((m ≡ n → ⊥) → ⊥) → ⊥
        by_number m n true e its others = its (eqb-true m n e)
        by_number m n false e its others = others (λ same. false≢true (sym e ∙ eq-eqb m n same))
