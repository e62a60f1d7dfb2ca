-- What was read of the modules of a program by their places on its list is that of a program of which these are the
-- numbers, and is linked and merged as that.
use Rattle.std.proofs.Common.{◌≡◌, ◌↔◌, ℕ, zero, suc, ◌-◌, ◌<◌, Bool, true, List, [], ◌∷◌, ◌++◌, Option, Some, None, Contains, length, refl, sym, ap, ◌∙◌, subst, arith}
use Rattle.std.specs.Prelude.{option_map, slice_get, unwrap_or}
use Rattle.std.specs.Option.{option_and_then}
use Rattle.std.proofs.lemmas.Option.{none-some, same_Some, slice_get_within}
use Rattle.std.specs.BTreeMap.{get_by_text}
use Rattle.bundle_tree_names.specs.FileName.{Name as FileName}
use Rattle.bundle_syntax.specs.Item.{Item}
use Rattle.bundle_order_sort.proofs.OnceLemmas.{IsOnce as IsOnceBehind}
use Rattle.bundle_order_graph.specs.Modules.{Modules, deps}
use Rattle.bundle_order_graph.specs.Walks.{along, itself}
use Rattle.bundle_order_graph.proofs.WalkLemmas.{Reaches-trans}
use Rattle.bundle_rules.specs.Declarations.{Declared as Declaration}
use Rattle.bundle_rules.specs.Doubled.{first_doubled}
use Rattle.bundle_rules.specs.Entries.{ExportEntry, exports_of, is_named}
use Rattle.bundle_rules.specs.Faults.{Fault, IsFaultless, IsFaultlessProgram, ProgramFault, doubled_declaration}
use Rattle.bundle_rules.specs.Judging.{requests_in}
use Rattle.bundle_rules.specs.Nodes.{Text}
use Rattle.bundle_rules.specs.Program.{Loaded, Program, requested, tree_of, IsReached}
use Rattle.bundle_rules.specs.Tables.{TellsCommonJs}
use Rattle.bundle_rules.proofs.FaultLemmas as faults
use Rattle.bundle_link_index.specs.Leads.{leads_from as by_lead, required_of}
use Rattle.bundle_link_index.specs.Numbered.{HasNoDoubles}
use Rattle.bundle_link_index.specs.Programs as i
use Rattle.bundle_link_index.specs.Said.{HasEachOnce}
use Rattle.bundle_link_index.specs.declared.target.LinkModule.{LinkModule}
use Rattle.bundle_link_targets.specs.Meant.{AreModules, IsModuleTree}
use Rattle.bundle_link.specs.Alike.{IsAlike, IsModuleAt}
use Rattle.bundle_link.specs.Default.{DeclaresDefaultAlone}
use Rattle.bundle_link.specs.Judged.{HasNoDoubled, AreTreesReadable, numbers_below}
use Rattle.bundle_link.specs.Leads.{module_place}
use Rattle.bundle_link.proofs.AlikeLemmas.{flip, reached_on}
use Rattle.bundle_link.proofs.FaultLemmas.{fault_on}
use Rattle.bundle_link.proofs.MeantLemmas.{namespace_meant}
use Rattle.bundle_link.proofs.NumberLemmas.{got, held}
use Rattle.bundle_link.proofs.NumbersLemmas.{there_is}
use Rattle.bundle_link.proofs.OrderLemmas.{entry_last}
use Rattle.bundle_link.proofs.PlaceLemmas.{no-tree}
use Rattle.bundle_link.proofs.PlacedLemmas.{IsPlaced, is_alike, placed, same_tree}
use Rattle.bundle_link.proofs.NumberedModuleLemmas.{table_at}
use Rattle.bundle_link.proofs.RequestLemmas.{requests_to}
use Rattle.bundle_link.proofs.ToldLemmas.{all_below, are_modules, only_below}
use Rattle.bundle_link.proofs.ClearedTables.{cleared-once}
use Rattle.bundle_merge_theory.specs.sound.Known.{AreKnown, IsByPlaces}
use Rattle.bundle_merge_theory.proofs.moved.Owed.{AreMoved}
use Rattle.bundle_merge_theory.proofs.moved.Places.{placed-moved}
use Rattle.bundle_merge_theory.proofs.planned.RequestLemmas.{list-once, list-reached}
use Rattle.bundle_merge_names.specs.Bundle.{list_of_part}
use Rattle.bundle_merge_names.specs.declared.part.BundleModule.{BundleModule}
use Rattle.bundle_merge.specs.Placed.{AreModulesRight, AreReadAndLinked}
use Rattle.bundle_merge.proofs.Faultless.{faultless-program}

last-there : (before : List ℕ) (x : ℕ) → slice_get (before ++ x ∷ []) (length before) ≡ Some x
last-there [] x = refl
last-there (y ∷ before) x = last-there before x

last-length : (before : List ℕ) (x : ℕ) → length (before ++ x ∷ []) ≡ suc (length before)
last-length [] x = refl
last-length (y ∷ before) x = ap suc (last-length before x)

-- a list in which none stands again behind it has each at one place
pub one-place : (xs : List ℕ) → IsOnceBehind xs → HasNoDoubles xs
one-place [] once i j x e f = absurd (none-some x e)
one-place (a ∷ xs) once zero zero x e f = refl
one-place (a ∷ xs) once zero (suc j) x e f =
    absurd (once.0 (subst (Contains xs) (sym (same_Some a x e)) (held xs x j f)))
one-place (a ∷ xs) once (suc i) zero x e f =
    absurd (once.0 (subst (Contains xs) (sym (same_Some a x f)) (held xs x i e)))
one-place (a ∷ xs) once (suc i) (suc j) x e f = ap suc (one-place xs once.1 i j x e f)

module _ (p : Program) (list : List ℕ) (right : AreModulesRight p list) (links : List LinkModule) (parts : List BundleModule) (are : AreReadAndLinked p list links parts) where
  abbrev end : ℕ
  end = length links - 1

  -- the program by the places on the list
  abbrev pub by_place : Program
  by_place = placed p list (required_of links) end

  abbrev q : Program
  q = placed p list (required_of links) end

  reached : (m : ℕ) → Contains list m ↔ IsReached p m
  reached m = list-reached p list right.is_list m

  pub once : HasNoDoubles list
  once = one-place list (list-once p list right.is_list)

  -- no fault is there
  pub faultless : IsFaultlessProgram p
  faultless = faultless-program p right.checked right.undoubled

  -- ---- the modules by their places
  link-at : (k m : ℕ) → slice_get list k ≡ Some m →
      (link : LinkModule) × (slice_get links k ≡ Some link)
  link-at k m at =
      there_is links k (let within = slice_get_within list k m at in omega (arith, within, are.long_links))

  pub part-at : (k m : ℕ) → slice_get list k ≡ Some m →
      (part : BundleModule) × (slice_get parts k ≡ Some part)
  part-at k m at =
      there_is parts k (let within = slice_get_within list k m at in omega (arith, within, are.long))

  leads-from : (k m : ℕ) (s : Text) → slice_get list k ≡ Some m →
      Contains (requests_in p.settings (tree_of p m)) s →
      required_of links k s ≡ option_and_then (module_place list) (p.leads m s)
  leads-from k m s at asked =
      let link = link-at k m at in
      let part = part-at k m at in
      ap (λ o. by_lead o s) link.1
      ∙ ap (λ its. get_by_text its s) (are.leads k link.0 part.0 link.1 part.1)
      ∙ (are.each k m part.0 at part.1).leads s asked

  -- what a listed module requests is listed
  asked-listed : (m d : ℕ) (s : Text) → Contains list m →
      Contains (requests_in p.settings (tree_of p m)) s → p.leads m s ≡ Some d → Contains list d
  asked-listed m d s there asked leads =
      (reached d).1
      (Reaches-trans ((reached m).0 there) (along (requests_to p m d s asked leads) itself))

  at-end : slice_get list end ≡ Some p.entry
  at-end =
      let last = entry_last (requested p) p.entry list (p.entry ∷ []) refl right.is_list in
      let long : length list ≡ suc (length last.0) =
      ap length last.1 ∙ last-length last.0 p.entry in
      let same : end ≡ length last.0 = omega (arith, long, are.long_links) in
      ap (slice_get list) same ∙ ap (λ l. slice_get l (length last.0)) last.1
      ∙ last-there last.0 p.entry

  is-placed : IsPlaced p list (required_of links) end
  is-placed = record { once = once; begins = at-end; there = asked-listed; leads_on = leads-from }

  pub alike : IsAlike p q (IsModuleAt list)
  alike = is_alike p list (required_of links) end is-placed

  pub are-moved : AreMoved p q list
  are-moved = placed-moved p list (required_of links) end is-placed

  -- a place of the list has the tree of its module, and no other place has one
  pub tree-at : (k m : ℕ) → slice_get list k ≡ Some m → tree_of p m ≡ tree_of q k
  tree-at k m at = same_tree p list (required_of links) end is-placed m k at

  no-tree-at : (k : ℕ) → slice_get list k ≡ None → tree_of q k ≡ []
  no-tree-at k none =
      ap (λ o. unwrap_or (option_map (λ (loaded : Loaded). loaded.items)
      (option_and_then p.modules o)) []) none

  -- what is so of the tree of each listed module, and of none, is so of each tree
  of-each : (P : List Item → Type 0) → P [] →
      ((k m : ℕ) → slice_get list k ≡ Some m → P (tree_of p m)) → (k : ℕ) → P (tree_of q k)
  of-each P none each k = by (slice_get list k) refl
    where
      by : (o : Option ℕ) → slice_get list k ≡ o → P (tree_of q k)
      by None at = subst P (sym (no-tree-at k at)) none
      by (Some m) at = subst P (tree-at k m at) (each k m at)

  -- a listed module is reached
  is-reached : (k m : ℕ) → slice_get list k ≡ Some m → IsReached p m
  is-reached k m at = (reached m).0 (held list m k at)

  past-list : (k : ℕ) → (k < length list → ⊥) → slice_get list k ≡ None
  past-list k past = by (slice_get list k) refl
    where
      by : (o : Option ℕ) → slice_get list k ≡ o → slice_get list k ≡ None
      by None at = at
      by (Some m) at = absurd (past (slice_get_within list k m at))

  -- ---- as they are linked
  pub table-at-place : (k : ℕ) (part : BundleModule) → slice_get parts k ≡ Some part →
      i.IsTableOf q k part.tables.now
  table-at-place k part at =
      let m = there_is list k (let within = slice_get_within parts k part at in omega (arith, within, are.long)) in
      table_at p q m.0 k part.tables.now refl (tree-at k m.0 m.1) (are.each k m.0 part m.1 at).table

  link-table : (k : ℕ) (link : LinkModule) → slice_get links k ≡ Some link →
      i.IsTableOf q k link.tables.now
  link-table k link at =
      let part = there_is parts k (let within = slice_get_within links k link at in omega (arith, within, are.long, are.long_links)) in
      subst (i.IsTableOf q k) (sym (are.tables k link part.0 at part.1))
      (table-at-place k part.0 part.1)

  -- its texts lead as is noted
  pub lead-at : (k : ℕ) (part : BundleModule) → slice_get parts k ≡ Some part → (s : Text) →
      q.leads k s ≡ get_by_text part.leads.now s
  lead-at k part at s =
      let link = there_is links k (let within = slice_get_within parts k part at in omega (arith, within, are.long, are.long_links)) in
      ap (λ o. by_lead o s) link.1
      ∙ ap (λ its. get_by_text its s) (are.leads k link.0 part link.1 at)

  within-list : (k d : ℕ) (s : Text) → required_of links k s ≡ Some d → d < length links
  within-list k d s is = by (slice_get links k) refl
    where
      by : (o : Option LinkModule) → slice_get links k ≡ o → d < length links
      by None at = absurd (none-some d (sym (ap (λ o. by_lead o s) at) ∙ is))
      by (Some link) at =
          let below = slice_get_within links k link at in
          let m = there_is list k (omega (arith, below, are.long_links)) in
          let part = part-at k m.0 m.1 in
          let less =
          (are.each k m.0 part.0 m.1 part.1).within d s
          (sym (ap (λ its. get_by_text its s) (are.leads k link part.0 at part.1))
          ∙ sym (ap (λ o. by_lead o s) at) ∙ is) in
          omega (arith, less, are.long_links)

  pub below-reached : (k : ℕ) → Contains (numbers_below (length links)) k ↔ IsReached q k
  below-reached k = (forth, back)
    where
      forth : Contains (numbers_below (length links)) k → IsReached q k
      forth there =
          let j = got (numbers_below (length links)) k there in
          let low = only_below (length links) j.0 k j.1 in
          let m = there_is list k (omega (arith, low.0, low.1, are.long_links)) in
          let l = reached_on p q (IsModuleAt list) alike m.0 (is-reached k m.0 m.1) in
          subst (IsReached q) (once l.0 k m.0 l.1 m.1) l.2

      back : IsReached q k → Contains (numbers_below (length links)) k
      back is =
          let l = reached_on q p (λ a b. IsModuleAt list b a) (flip alike) k is in
          let within = slice_get_within list k l.0 l.1 in
          held (numbers_below (length links)) k k (all_below (length links) k (omega (arith, within, are.long_links)))

  has-each-once : HasEachOnce q
  has-each-once k =
      of-each
      (λ tree. (x : Text) (a b : ExportEntry) → Contains (exports_of tree) a →
      Contains (exports_of tree) b → is_named x a ≡ true → is_named x b ≡ true → a ≡ b)
      (λ x a b in_a in_b named_a named_b. absurd (omega (arith, in_a.1)))
      (λ j m at x a b in_a in_b.
      (let part = part-at j m at in
      let its = are.each j m part.0 at part.1 in
      cleared-once its.faultless.0 (list_of_part part.0) its.faultless.1 x a b
      (subst (λ (t : List Item). Contains (exports_of t) a) its.tree in_a)
      (subst (λ (t : List Item). Contains (exports_of t) b) its.tree in_b)))
      k

  pub is-program : (require : Bool) → p.settings.require ≡ require →
      i.IsLinkProgram q links (numbers_below (length links)) end require
  is-program require same = record {
    tables = link-table;
    others = λ m none. no-tree-at m (past-list m (λ below. (let there = there_is links m (omega (arith, below, are.long_links)) in absurd (none-some there.0 (sym none ∙ there.1)))));
    leads = λ m s. refl;
    within = λ m d s is. within-list m d s is;
    begins = refl;
    requires = same;
    reached = below-reached;
    once = has-each-once;
  }

  -- ---- what is known of them
  -- the module of a place that is reached
  number-of : (k : ℕ) → IsReached q k → (m : ℕ) × IsModuleAt list m k × IsReached p m
  number-of k is = reached_on q p (λ a b. IsModuleAt list b a) (flip alike) k is

  no-fault : (k stage place : ℕ) (file : FileName) (f : Fault) → IsReached q k →
      ProgramFault q file k stage place f → ⊥
  no-fault k stage place file f is fault =
      let its = number-of k is in
      faultless its.0 stage place file f its.2
      (fault_on q p (λ a b. IsModuleAt list b a) (flip alike)
      (namespace_meant q p (λ a b. IsModuleAt list b a) (flip alike)) fault its.0 its.1)

  place-reached : (k : ℕ) → k < length list → IsReached q k
  place-reached k below =
      (below-reached k).0
      (held (numbers_below (length links)) k k
      (all_below (length links) k (omega (arith, below, are.long_links))))

  none-doubled : HasNoDoubled q (length list)
  none-doubled k kind below is = by (first_doubled kind (tree_of q k)) refl
    where
      by : (o : Option Declaration) → first_doubled kind (tree_of q k) ≡ o →
          first_doubled kind (tree_of q k) ≡ None
      by None e = e
      by (Some d) e =
          let m = there_is list k below in
          let part = part-at k m.0 m.1 in
          let file = (are.each k m.0 part.0 m.1 part.1).faultless in
          absurd (no-fault k 2 d.place file.0 _ (place-reached k below) (doubled_declaration d is e))

  readable : AreTreesReadable q (length list)
  readable = record {
    trees = of-each IsModuleTree no-tree (λ k m at. right.trees m (is-reached k m at));
    default =
        of-each DeclaresDefaultAlone
        (λ none statement e own there. absurd (omega (arith, own.1)))
        (λ k m at. right.default m (is-reached k m at));
    others = λ k past. no-tree-at k (past-list k past);
  }

  pub modules-are : (flags : ℕ → Bool) → ((c : ℕ) → TellsCommonJs q c (flags c)) → AreModules q
  modules-are flags tells = are_modules q (length list) flags tells readable none-doubled

  tree-faultless : (m : ℕ) → IsReached p m → (file : FileName) × IsFaultless file (tree_of p m)
  tree-faultless m is =
      let k = got list m ((reached m).1 is) in
      let part = part-at k.0 m k.1 in
      let its = are.each k.0 m part.0 k.1 part.1 in (
        its.faultless.0,
        subst (IsFaultless its.faultless.0) (sym its.tree)
            (faults.faultless its.faultless.0 (list_of_part part.0) its.faultless.1),
      )

  pub are-known : AreModules q → AreKnown p q list
  are-known modules = record {
    is_list = right.is_list;
    faultless = faultless;
    trees = tree-faultless;
    leads = right.leads;
    fit = record { each = right.fit };
    alike = alike;
    modules = modules;
  }

  pub are-places : (g : Modules) → ((m : ℕ) → deps g m ≡ requested p m) → IsByPlaces p q list g
  are-places g graph = record {
    is_list = right.is_list;
    alike = alike;
    graph = λ m is. graph m;
  }
