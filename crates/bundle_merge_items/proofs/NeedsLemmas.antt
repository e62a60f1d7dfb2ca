-- What needs too many contexts does so whatever numbers its modules have.
-- The own statements of a module become what its items state in turn.
use Rattle.std.proofs.Common.{◌≡◌, ◌↔◌, ℕ, ◌+◌, ◌<◌, ◌≤◌, true, List, ◌∷◌, Contains, map, refl, sym, ap, ap₂, ◌∙◌, subst, if◌then◌else◌, arith, [], ◌++◌, Option, None, append_assoc, length, drop, take}
use Rattle.std.specs.Prelude.{Some, slice_get, fold}
use Rattle.std.specs.List.{AllZip, flat_map}
use Rattle.std.proofs.lemmas.List.{map-append, take-append-drop}
use Rattle.bundle_syntax.specs.Item as h
use Rattle.bundle_syntax.specs.Item.{Item}
use Rattle.bundle_rules.specs.Bundle as d
use Rattle.bundle_rules.specs.Bundle.{AsCall, AsModule, Cause, Defines, Exports, Form, Helps, HoldsMeta, HoldsNamespace, Hooks, ImportsNames, ImportsNothing, ImportsWhole, IsDue, IsUsed, Loads, Own, Stars, form_of}
use Rattle.bundle_rules.specs.Entries.{Named, Taken, Whole, has_import_meta}
use Rattle.bundle_rules.specs.Faults
use Rattle.bundle_rules.specs.Faults.{CountsTo, GetsContexts, InjectedCount, IsNamedForContexts, NeedsTooManyContexts, TreesCountTo, has_own_name, properties_count, tree_count}
use Rattle.bundle_rules.specs.Counts.{scope_count_from}
use Rattle.bundle_rules.specs.Linking.{CommonJs, External}
use Rattle.bundle_rules.specs.Meaning.{Of, IsMeant}
use Rattle.bundle_rules.specs.Nodes.{Text, parts as parts_of}
use Rattle.bundle_rules.specs.Places.{start, Spot, Occurrence, past, occurrences, occurrences_from}
use Rattle.bundle_rules.specs.Program.{Program, IsList, IsReached, tree_of}
use Rattle.bundle_rules.specs.Scopes.{Es, ModuleKind}
use Rattle.bundle_tree_ast.specs.declared.module.ModuleItem.{ModuleItem}
use Rattle.bundle_tree_ast.specs.declared.stmt.Stmt.{Stmt}
use Rattle.bundle_rules.specs.Cleared.{cleared}
use Rattle.bundle_rules.specs.Idents.{Ident}
use Rattle.bundle_rules.specs.Statements.{TopItem, Element, placed, top_items, stated}
use Rattle.bundle_tree_listed.specs.Tree.{module_item_items, node, option_items, stmt_items}
use Rattle.bundle_tree_rebuild.specs.Work.{rewrite_step}
use Rattle.bundle_tree_rebuild.specs.declared.rewrite.Rewrite.{Rewrite}
use Rattle.bundle_scope_names.proofs.Kept.{occurrences-append as occurrences_append}
use Rattle.bundle_link_index.proofs.ProgramLemmas.{map_back, later}
use Rattle.bundle_tree_rewrite.specs.Stated.{States}
use Rattle.bundle_scope_names.specs.fit.Sorts.{NodeSort}
use Rattle.bundle_scope_names.specs.fit.Fits
use Rattle.bundle_scope_names.specs.fit.Fits.{IsFit}
use Rattle.bundle_scope_names.proofs.grown.Grown.{module_item_fit, stmt_fit}
use Rattle.bundle_link_targets.proofs.StageLemmas.{map_at as mapped-at}
use Rattle.bundle_link_targets.proofs.ListLemmas.{first-there as here}
use Rattle.bundle_link.specs.Alike.{IsAlike}
use Rattle.bundle_link.proofs.NodePaths.{fold-place}
use Rattle.bundle_link.proofs.ClearedNodes.{cleared-append}
use Rattle.bundle_merge_theory.specs.noted.Agrees.{IsSpotAt}
use Rattle.bundle_merge_theory.specs.walked.Stated.{StatesList}
use Rattle.bundle_merge_theory.proofs.noted.Spots.{at-as, at-behind, at-first, at-past}
use Rattle.bundle_merge_theory.specs.made.Given.{Holder, BundleContexts, default_ident}
use Rattle.bundle_merge_theory.specs.moved.Renumbered.{cause_by}
use Rattle.bundle_merge_theory.proofs.moved.Due.{cause-back, common-by, due-by, due-named, reach-by, reach-named, turned-round, kind-by}
use Rattle.bundle_merge_theory.proofs.moved.Owed.{AreRenamed, EachModule, asked-reached}
use Rattle.bundle_merge_theory.proofs.moved.Requested.{list-by, list-named}
use Rattle.bundle_merge_theory.proofs.moved.Stand.{may-hold-by, meant-both}
use Rattle.bundle_merge_theory.proofs.planned.OrderLemmas.{contains-get}
use Rattle.bundle_merge_theory.proofs.planned.RequestLemmas.{listed-used}
use Rattle.bundle_merge_theory.proofs.cleared.Bundle.{names-on as names-as}
use Rattle.bundle_merge_theory.specs.made.Made.{IsStatedAs}
use Rattle.bundle_merge_theory.specs.made.Steps.{IsStep, meta_ident}
use Rattle.bundle_merge_theory.proofs.function.Given.{occurrences-here}
use Rattle.bundle_merge_theory.proofs.laid.Ready.{zip-join}
use Rattle.bundle_merge_theory.proofs.own.Fit.{states_fit}
use Rattle.bundle_merge_names.specs.Added as n
use Rattle.bundle_merge_names.specs.Added.{IsOfLabels, IsOfModule}
use Rattle.bundle_merge_names.specs.Body.{AreModuleRewrites}
use Rattle.bundle_merge_items.specs.Stated.{AreStatedAs, StateInTurn, no_item, no_part, one_more, as_list, occurrence_count, work_by}
use Rattle.bundle_merge_items.proofs.Parting.{names-counted, parts-cleared, parts-listed, zip-back, zip-front, zip-made}
use Rattle.bundle_merge_items.proofs.Copies.{StatesOne, states_nothing, states_this, states-one}

-- ---- needs
module _ (p q : Program) (R : ℕ → ℕ → Type 0) (name back : ℕ → ℕ)
    (its : AreRenamed p q R name back) where
  abbrev w : IsAlike p q R
  w = its.alike

  abbrev Has : ℕ → Type 0
  Has m = R m (name m)

  abbrev to : Cause → Cause
  to = cause_by name

  -- what is meant of an external, and of a CommonJS module
  external-both : (s : Text) (what : Taken) →
      IsMeant p (Of (External s what)) ↔ IsMeant q (Of (External s what))
  external-both s what = meant-both p q R name back its (Of (External s what)) refl

  loaded-both : (m c : ℕ) → Has m → Has c → (what : Taken) →
      IsMeant p (Of (CommonJs m c what)) ↔ IsMeant q (Of (CommonJs (name m) (name c) what))
  loaded-both m c r s what =
      meant-both p q R name back its (Of (CommonJs m c what))
      (ap₂ (λ a b. Of (CommonJs a b what)) (its.backs m (name m) r) (its.backs c (name c) s))

  -- an injected item has as many scopes and bindings
  injected-by : {cause : Cause} {n : ℕ} → InjectedCount p cause n → EachModule Has cause →
      InjectedCount q (to cause) n
  injected-by (Faults.names {s = s} names are) r =
      Faults.names names (names-as (λ x. external-both s (Named x)) are)
  injected-by Faults.whole r = Faults.whole
  injected-by Faults.helper r = Faults.helper
  injected-by Faults.load_function r = Faults.load_function
  injected-by (Faults.loads {m = m} {c = c} names are none) r =
      Faults.loads names (names-as (λ x. loaded-both m c r.0 r.1 (Named x)) are)
      (λ means. none ((loaded-both m c r.0 r.1 Whole).1 means))
  injected-by (Faults.loads_whole {m = m} {c = c} names are means) r =
      Faults.loads_whole names (names-as (λ x. loaded-both m c r.0 r.1 (Named x)) are)
      ((loaded-both m c r.0 r.1 Whole).0 means)
  injected-by Faults.meta r = Faults.meta
  injected-by Faults.namespace r = Faults.namespace

  -- the trees of modules too
  trees-by : (hooks : Hooks) {list : List ℕ} {n : ℕ} → TreesCountTo p hooks list n →
      ((m : ℕ) → Contains list m → Has m) → TreesCountTo q hooks (map name list) n
  trees-by hooks Faults.nothing all = Faults.nothing
  trees-by hooks (Faults.plain {m = m} {more = more} {rest = rest} {kind = kind} has none trees) all =
      let r = all m (here m rest) in
      let same = w.tree m (name m) r in
      subst
      (λ (tree : List Item). TreesCountTo q hooks (map name (m ∷ rest))
      (tree_count kind tree + more))
      (sym same)
      (Faults.plain (kind-by R name its.names p q w has (name m) r)
      (sym (ap has_import_meta same) ∙ none)
      (trees-by hooks trees (λ k there. all k (later m rest k there))))
  trees-by hooks (Faults.with_meta {m = m} {more = more} {rest = rest} properties asked held trees) all =
      let r = all m (here m rest) in
      let same = w.tree m (name m) r in
      subst
      (λ (tree : List Item). TreesCountTo q hooks (map name (m ∷ rest))
      (tree_count Es tree + (properties_count properties + more)))
      (sym same)
      (Faults.with_meta properties (sym (ap has_import_meta same) ∙ asked)
      (may-hold-by p q R name back its hooks m (name m) properties r held)
      (trees-by hooks trees (λ k there. all k (later m rest k there))))
  trees-by hooks (Faults.unanswered {m = m} {more = more} {rest = rest} asked trees) all =
      let r = all m (here m rest) in
      let same = w.tree m (name m) r in
      subst
      (λ (tree : List Item). TreesCountTo q hooks (map name (m ∷ rest)) (tree_count Es tree + more))
      (sym same)
      (Faults.unanswered (sym (ap has_import_meta same) ∙ asked)
      (trees-by hooks trees (λ k there. all k (later m rest k there))))

  -- one that is named for contexts is
  gets-by : (hooks : Hooks) {m : ℕ} → Has m → GetsContexts p hooks m → GetsContexts q hooks (name m)
  gets-by hooks {m = m} r (Faults.by_tree some) =
      Faults.by_tree (subst (λ tree. 0 < scope_count_from start tree) (w.tree m (name m) r) some)
  gets-by hooks {m = m} r (Faults.by_function common) =
      Faults.by_function (common-by p q R name back its m r common)
  gets-by hooks {m = m} r (Faults.by_answer properties asked held some) =
      Faults.by_answer properties (sym (ap has_import_meta (w.tree m (name m) r)) ∙ asked)
      (may-hold-by p q R name back its hooks m (name m) properties r held) some

module _ (p q : Program) (R : ℕ → ℕ → Type 0) (name back : ℕ → ℕ)
    (its : AreRenamed p q R name back) (form : Form) where
  abbrev round : AreRenamed q p (λ a b. R b a) back name
  round = turned-round its

  there-and-back : (cause : Cause) → IsDue p form cause →
      cause_by back (cause_by name cause) ≡ cause
  there-and-back cause due =
      cause-back p q R name back its cause (due-named p q R name back its due)

  -- the counts of causes that are due, added
  counts-by : {causes : List Cause} {n : ℕ} → CountsTo p causes n →
      ((cause : Cause) → Contains causes cause → IsDue p form cause) →
      CountsTo q (map (cause_by name) causes) n
  counts-by Faults.nothing due = Faults.nothing
  counts-by (Faults.counted {cause = cause} {rest = rest} one more) due =
      Faults.counted
      (injected-by p q R name back its one
      (due-named p q R name back its (due cause (here cause rest))))
      (counts-by more (λ other there. due other (later cause rest other there)))
  counts-by (Faults.other {cause = cause} {rest = rest} none more) due =
      let is = due cause (here cause rest) in
      Faults.other
      (λ n one. none n
      (subst (λ c. InjectedCount p c n) (there-and-back cause is)
      (injected-by q p (λ a b. R b a) back name round one
      (due-named q p (λ a b. R b a) back name round (due-by p q R name back its is)))))
      (counts-by more (λ other there. due other (later cause rest other there)))

  -- each stands once
  once-by : (causes : List Cause) →
      ((cause : Cause) → Contains causes cause → IsDue p form cause) →
      ((i j : ℕ) (cause : Cause) → slice_get causes i ≡ Some cause →
      slice_get causes j ≡ Some cause → i ≡ j) → (i j : ℕ) (cause : Cause) →
      slice_get (map (cause_by name) causes) i ≡ Some cause →
      slice_get (map (cause_by name) causes) j ≡ Some cause → i ≡ j
  once-by causes due once i j cause at to =
      let one = mapped-at (cause_by name) causes i cause at in
      let two = mapped-at (cause_by name) causes j cause to in
      let same : one.0 ≡ two.0 =
      sym (there-and-back one.0 (due one.0 (contains-get causes i one.0 one.1)))
      ∙ ap (cause_by back) (one.2 ∙ sym two.2)
      ∙ there-and-back two.0 (due two.0 (contains-get causes j two.0 two.1)) in
      once i j two.0 (one.1 ∙ ap (λ c. Some c) same) two.1

-- NEEDED: contexts, as many, for the same modules under other numbers
pub needs-by : (p q : Program) (R : ℕ → ℕ → Type 0) (name back : ℕ → ℕ) →
    AreRenamed p q R name back → (hooks : Hooks) (next : ℕ) → NeedsTooManyContexts p hooks next →
    NeedsTooManyContexts q hooks next
needs-by p q R name back its hooks next needs = record {
  list = map name needs.list;
  is_list = list-by p q R name back its needs.list needs.is_list;
  causes = map (cause_by name) needs.causes;
  due = λ cause there.
      let was = map_back (cause_by name) needs.causes cause there in
      subst (λ form. IsDue q form cause) same
      (subst (IsDue q (form_of p.settings)) was.2
      (due-by p q R name back its (needs.due was.0 was.1)));
  once = once-by p q R name back its (form_of p.settings) needs.causes needs.due needs.once;
  of_trees = needs.of_trees;
  trees =
      trees-by p q R name back its hooks needs.trees
      (list-named p q R name back its needs.list needs.is_list);
  of_causes = needs.of_causes;
  injected = counts-by p q R name back its (form_of p.settings) needs.injected needs.due;
  above = needs.above;
}
  where
    same : form_of p.settings ≡ form_of q.settings
    same = ap (λ b. if b then AsCall else AsModule) its.alike.iife

-- from an earlier context on too
pub needs-earlier : (p : Program) (hooks : Hooks) (next first : ℕ) → next ≤ first →
    NeedsTooManyContexts p hooks next → NeedsTooManyContexts p hooks first
needs-earlier p hooks next first before needs = record {
  list = needs.list;
  is_list = needs.is_list;
  causes = needs.causes;
  due = needs.due;
  once = needs.once;
  of_trees = needs.of_trees;
  trees = needs.trees;
  of_causes = needs.of_causes;
  injected = needs.injected;
  above = let above = needs.above in omega (arith, before, above);
}

-- and the module is named that gets them
pub named-by : (p q : Program) (R : ℕ → ℕ → Type 0) (name back : ℕ → ℕ) →
    AreRenamed p q R name back → (hooks : Hooks) (m : ℕ) → IsReached p m →
    GetsContexts p hooks m → IsNamedForContexts q hooks (name m)
named-by p q R name back its hooks m reached gets =
    Faults.gets (reach-by p q R name back its m reached)
    (gets-by p q R name back its hooks (reach-named p q R name back its m reached) gets)

-- a label of the linker's own stands in an item that is due
label-due : (p : Program) (form : Form) (list : List ℕ) → IsList p list → (holder : Holder) →
    IsOfLabels p list holder →
    (cause : Cause) × IsDue p form cause × (has_own_name cause ≡ true)
label-due p form list is holder (n.of_externals its) =
    by_taken its.its its.meant
  where
    used : IsUsed p its.specifier
    used = listed-used p list is its.specifier its.asked

    by_taken : (taken : Taken) → IsMeant p (Of (External its.specifier taken)) →
        (cause : Cause) × IsDue p form cause × (has_own_name cause ≡ true)
    by_taken (Named x) meant = (ImportsNames its.specifier, d.imports_names used meant, refl)
    by_taken Whole meant = (ImportsWhole its.specifier, d.imports_whole used meant, refl)
label-due p form list is holder (n.of_helpers its) =
    (Helps, d.helps its.reached its.common_js, refl)
label-due p form list is holder (n.of_modules its) = by_module its.its
  where
    by_module : IsOfModule p its.k holder →
        (cause : Cause) × IsDue p form cause × (has_own_name cause ≡ true)
    by_module (n.its_load its_load) = (Defines its.k, d.defines its.reached its_load.so, refl)
    by_module (n.its_meta its_meta) =
        (HoldsMeta its.k, d.holds_meta its.reached its_meta.so, refl)
    by_module (n.its_loads loads) = (
      Defines loads.c,
      d.defines (asked-reached p its.k loads.c its.reached loads.asked) loads.asked.common_js,
      refl,
    )
    by_module (n.its_namespace space) =
        (HoldsNamespace its.k, d.holds_namespace space.so, refl)

-- other numbers change nothing in that
own-name : (name : ℕ → ℕ) (cause : Cause) →
    has_own_name (cause_by name cause) ≡ has_own_name cause
own-name name (Own m k) = refl
own-name name (ImportsNames s) = refl
own-name name (ImportsWhole s) = refl
own-name name (ImportsNothing s) = refl
own-name name Helps = refl
own-name name (Defines c) = refl
own-name name (Loads m c) = refl
own-name name (HoldsMeta m) = refl
own-name name (HoldsNamespace m) = refl
own-name name (Stars s) = refl
own-name name Exports = refl

-- or the entry, where a label of the linker's own gets none
pub named-own : (p q : Program) (R : ℕ → ℕ → Type 0) (name back : ℕ → ℕ) →
    AreRenamed p q R name back → (hooks : Hooks) (list : List ℕ) → IsList p list →
    (holder : Holder) → IsOfLabels p list holder → IsNamedForContexts q hooks q.entry
named-own p q R name back its hooks list is holder label =
    let there = label-due p (form_of q.settings) list is holder label in
    Faults.own (cause_by name there.0) (due-by p q R name back its there.1)
    (own-name name there.0 ∙ there.2)

-- ---- owning

-- the lists of items, one behind another
abbrev listed : List ModuleItem → List Item
listed items = flat_map (module_item_items 0) items

-- what is fit is something
fit-filled : {sort : NodeSort} {field : ℕ} {items : List Item} → IsFit sort field items →
    items ≡ [] → ⊥
fit-filled (Fits.name takes) none = cc
fit-filled (Fits.node takes inside) none = cc

-- a module, in whose list these become the occurrences
module _ (q : Program) (list : List ℕ) (context : BundleContexts) (m : ℕ) (kind : ModuleKind) where
  abbrev tree : List Item
  tree = tree_of q m

  -- these become them in turn
  abbrev Turns : List Occurrence → List Rewrite → Type 0
  Turns os rewrites =
      AllZip (λ o rewrite. IsStep q list context m kind o (rewrite_step rewrite)) os rewrites

  abbrev Stated : List Element → List Item → Type 0
  Stated statement made = IsStatedAs q list context m kind statement made

  -- the item that stands here
  abbrev top_at : Spot → List Item → TopItem
  top_at s items = record { start = s.place; items = cleared items }

  -- what it states
  this-stated : (s : Spot) (items rest : List Item) →
      IsSpotAt tree s (cleared items ++ rest) →
      Contains (top_items tree) (top_at s items) →
      (rewrites : List Rewrite) →
      Turns (occurrences_from s (cleared items ++ rest)) rewrites →
      (statement : List Element) → stated s.place (cleared items) ≡ statement ∷ [] →
      (made : List Item) →
      StatesList (work_by rewrites (meta_ident q list context m)) (default_ident context m) items made →
      Stated statement made
  this-stated s items rest at there rewrites turns statement states made by = record {
    top = top_at s items;
    there = there;
    states = states;
    given = items;
    is_given = refl;
    steps = map rewrite_step front;
    each = subst (λ (os : List Occurrence). AllZip (IsStep q list context m kind) os
        (map rewrite_step front))
        (sym (occurrences-here (cleared items) rest at (top_at s items) refl refl))
        (zip-made (IsStep q list context m kind) rewrite_step (occurrences_from s (cleared items))
        front
        (zip-front (λ o rewrite. IsStep q list context m kind o (rewrite_step rewrite))
        (occurrences_from s (cleared items)) (occurrences_from (fold past s (cleared items)) rest)
        rewrites
        (subst (λ os. Turns os rewrites) (occurrences_append s (cleared items) rest) turns)));
    behind = map rewrite_step back;
    by = subst
        (λ steps. StatesList
        (record { steps = steps; meta = meta_ident q list context m; clears_notes = true })
        (default_ident context m) items made)
        (ap (map rewrite_step) (sym (take-append-drop many rewrites))
        ∙ map-append rewrite_step front back) by;
  }
    where
      many : ℕ
      many = length (occurrences_from s (cleared items))

      front : List Rewrite
      front = take many rewrites

      back : List Rewrite
      back = drop many rewrites

  abbrev meta : Option Ident
  meta = meta_ident q list context m

  abbrev default : Ident
  default = default_ident context m

  -- what an item states, if it states something
  one-stated : (s : Spot) (item : ModuleItem) (rest : List Item) →
      IsSpotAt tree s (cleared (module_item_items 0 item) ++ rest) →
      Contains (top_items tree) (top_at s (module_item_items 0 item)) →
      (rewrites : List Rewrite) →
      Turns (occurrences_from s (cleared (module_item_items 0 item) ++ rest)) rewrites →
      (made : Option Stmt) →
      States (work_by rewrites meta) default item (option_items (stmt_items 0) made) →
      AllZip Stated (stated s.place (cleared (module_item_items 0 item))) (as_list made)
  one-stated s item rest at there rewrites turns made states =
      by made (states-one (work_by rewrites meta) default item (option_items (stmt_items 0) made) states)
    where
      by : (made : Option Stmt) →
          StatesOne (work_by rewrites meta) default (module_item_items 0 item)
          (option_items (stmt_items 0) made) →
          AllZip Stated (stated s.place (cleared (module_item_items 0 item))) (as_list made)
      by None (states_nothing none is) =
          subst (λ statements. AllZip Stated statements []) (sym (none s.place)) tt
      by (Some stmt) (states_nothing none is) = absurd (fit-filled (stmt_fit 0 stmt) is)
      by None (states_this one its) =
          absurd (fit-filled (states_fit its (module_item_fit 0 item)) refl)
      by (Some stmt) (states_this one its) =
          let statement = one s.place in
          subst (λ statements. AllZip Stated statements (stmt_items 0 stmt ∷ [])) (sym statement.1) (
            this-stated s (module_item_items 0 item) rest at there rewrites turns statement.0
                statement.1 (stmt_items 0 stmt) its,
            tt,
          )

  -- the items that stand from here on
  abbrev tops_at : ℕ → List ModuleItem → List TopItem
  tops_at place items = placed place (map cleared (map (module_item_items 0) items))

  abbrev statements_at : ℕ → List ModuleItem → List (List Element)
  statements_at place items = flat_map (λ top. stated top.start top.items) (tops_at place items)

  none-left : (items : List ModuleItem) → [] ≡ map (module_item_items 0) items → (place : ℕ) →
      AllZip Stated (statements_at place items) []
  none-left [] same place = tt
  none-left (item ∷ items) same place = cc

  all-stated : {items : List ModuleItem} {parts : List (List Item)} {rewrites : List Rewrite}
      {made : List (List Item)} →
      StateInTurn meta default items parts rewrites made →
      parts ≡ map (module_item_items 0) items →
      (s : Spot) (behind : List Item) →
      IsSpotAt tree s (cleared (listed items) ++ behind) →
      ((top : TopItem) → Contains (tops_at s.place items) top → Contains (top_items tree) top) →
      Turns (occurrences_from s (cleared (listed items) ++ behind)) rewrites →
      AllZip Stated (statements_at s.place items) made
  all-stated no_item same s behind at there turns = tt
  all-stated (no_part {items = items}) same s behind at there turns = none-left items same s.place
  all-stated (one_more {item = item} {items = items} {part = part} {parts = parts} {rewrites = rewrites} {more = more} made states its) same s behind at there turns =
      zip-join Stated (stated s.place (cleared x))
      (statements_at (s.place + length (cleared x)) items) (as_list made) more
      (one-stated s item rest at-x (there (top_at s x) (here (top_at s x) (tops_at (s.place + length (cleared x)) items))) rewrites turns-x made states)
      (subst (λ place. AllZip Stated (statements_at place items) more) place
      (all-stated its others next behind (at-behind (cleared x) rest at-x)
      (λ top c. there top
      (later (top_at s x) (tops_at (s.place + length (cleared x)) items) top
      (subst (λ place. Contains (tops_at place items) top) place c)))
      (subst (λ many. Turns (occurrences_from next rest) (drop many rewrites))
      (names-counted s x ∙ ap occurrence_count (sym first))
      (zip-back (λ o rewrite. IsStep q list context m kind o (rewrite_step rewrite))
      (occurrences_from s (cleared x)) (occurrences_from next rest) rewrites
      (subst (λ os. Turns os rewrites) (occurrences_append s (cleared x) rest) turns-x)))))
    where
      x : List Item
      x = module_item_items 0 item

      rest : List Item
      rest = cleared (listed items) ++ behind

      next : Spot
      next = fold past s (cleared x)

      place : next.place ≡ s.place + length (cleared x)
      place = fold-place s (cleared x)

      first : part ≡ x
      first = cc

      others : parts ≡ map (module_item_items 0) items
      others = cc

      split : cleared (x ++ listed items) ++ behind ≡ cleared x ++ rest
      split =
          ap (λ l. l ++ behind) (cleared-append x (listed items))
          ∙ append_assoc (cleared x) (cleared (listed items)) behind

      at-x : IsSpotAt tree s (cleared x ++ rest)
      at-x = at-as refl split at

      turns-x : Turns (occurrences_from s (cleared x ++ rest)) rewrites
      turns-x = subst (λ l. Turns (occurrences_from s l) rewrites) split turns

  -- all of them, where its list is that of these items
  pub own-stated : (items : List ModuleItem) (pieces : List Item) (parts : List (List Item))
      (rewrites : List Rewrite) (made : List (List Item)) →
      tree ≡ cleared pieces →
      pieces ≡ node 0 h.Module (listed items) →
      parts ≡ parts_of pieces →
      AreModuleRewrites q list context m kind rewrites →
      StateInTurn meta default items parts rewrites made →
      AreStatedAs q list context m kind made
  own-stated items pieces parts rewrites made is of_items parted steps its =
      subst (λ tops. AllZip Stated (flat_map (λ top. stated top.start top.items) tops) made) (sym tops)
      (all-stated its (parted ∙ ap parts_of of_items ∙ parts-listed items) inside (h.Close ∷ []) at
      (λ top c. subst (λ l. Contains l top) (sym tops) c)
      (subst (λ l. Turns (occurrences_from inside l) rewrites) closed
      (subst (λ l. Turns (occurrences l) rewrites) whole steps)))
    where
      inside : Spot
      inside = past start (h.Open 0 h.Module)

      whole : tree ≡ h.Open 0 h.Module ∷ cleared (listed items ++ h.Close ∷ [])
      whole = is ∙ ap cleared of_items

      closed : cleared (listed items ++ h.Close ∷ []) ≡ cleared (listed items) ++ h.Close ∷ []
      closed = cleared-append (listed items) (h.Close ∷ [])

      tops : top_items tree ≡ tops_at 1 items
      tops = ap top_items (is ∙ ap cleared of_items) ∙ ap (placed 1) (parts-cleared items)

      at : IsSpotAt tree inside (cleared (listed items) ++ h.Close ∷ [])
      at =
          at-as refl closed
          (at-past (h.Open 0 h.Module) (cleared (listed items ++ h.Close ∷ []))
          (at-as refl whole (at-first tree)))
