-- What a bundle adds is made for the causes that are decided of its modules.
use Rattle.std.proofs.Common.{◌≡◌, ◌↔◌, ◌<◌, inl, inr, ℕ, zero, suc, ◌+◌, Bool, true, false, List, [], ◌∷◌, Option, Some, None, Contains, length, map, unwrap_or, refl, ap, sym, subst, ◌∙◌, arith}
use Rattle.std.specs.Prelude.{IsTrue, ◌&&◌, not, filter, filter_map, flat_map, is_some, slice_get, if◌then◌else◌}
use Rattle.std.specs.Borrow.{Bor}
use Rattle.std.specs.List.{AllZip, list_any}
use Rattle.std.proofs.lemmas.Bool.{false≢true}
use Rattle.std.proofs.lemmas.Option.{none-some}
use Rattle.bundle_syntax.specs.Item.{Item}
use Rattle.bundle_order_graph.specs.Walks.{itself, along}
use Rattle.bundle_order_graph.proofs.WalkLemmas.{Reaches-trans}
use Rattle.bundle_rules.specs.Bundle.{Helps, Loads, HoldsNamespace, Stars, Exports, AreLinked, externals}
use Rattle.bundle_rules.specs.Entries.{declared_requests, has_import_meta}
use Rattle.bundle_rules.specs.Linking as l
use Rattle.bundle_rules.specs.Linking.{IsCommonJs, HasExternalStar}
use Rattle.bundle_rules.specs.Meaning.{Of, IsMeant}
use Rattle.bundle_rules.specs.Nodes.{Text}
use Rattle.bundle_rules.specs.Program.{Program, tree_of, resolves, IsReached, IsList}
use Rattle.bundle_rules.specs.Statements.{no_notes, own_statements}
use Rattle.bundle_rules.specs.Tables.{TellsCommonJs, TellsMeant}
use Rattle.bundle_link_index.specs.Leads.{flagged}
use Rattle.bundle_link_index.specs.declared.target.TargetRef.{TargetRef}
use Rattle.bundle_link_index.specs.declared.target.TargetRef.TheVariants as t
use Rattle.bundle_link_index.proofs.ProgramLemmas.{any_there, there_of_any, filter_back as filter-back, map_on as map-on, later}
use Rattle.bundle_link_targets.specs.Handed.{AreExternalsOf, AreLoadsIn, IsExternalOf, IsLoadOf}
use Rattle.bundle_link_targets.specs.Names.{target_pair}
use Rattle.bundle_link_targets.specs.Taken.{PicksThose}
use Rattle.bundle_link_targets.specs.declared.target.External.{External}
use Rattle.bundle_link_targets.specs.declared.target.Loaded.{Loaded}
use Rattle.bundle_link_targets.specs.Linked.{HandsOver}
use Rattle.bundle_link_targets.proofs.HandedLemmas.{object-told as object-held}
use Rattle.bundle_link.proofs.AlikeLemmas.{some_back}
use Rattle.bundle_link_targets.proofs.CalledLemmas.{numbers-back as once_back}
use Rattle.bundle_merge_injected.specs.Listed as f
use Rattle.bundle_merge_theory.specs.made.Given.{HookAnswer, Fresh, Written, stands_written, BundleContexts}
use Rattle.bundle_merge_theory.specs.made.Made.{IsMade, stars}
use Rattle.bundle_merge_theory.specs.planned.Blocks.{block_of}
use Rattle.bundle_merge_theory.specs.planned.Decided.{DecidedExternal, DecidedLoad, external_plan, numbers_from, one_if}
use Rattle.bundle_merge_theory.specs.sound.Decided.{AreTablesLinked, exports_some, external_of, has_some, load_of}
use Rattle.bundle_merge_theory.proofs.laid.Ready.{zip-join}
use Rattle.bundle_link_targets.proofs.ListLemmas.{first-there as here}
use Rattle.bundle_merge_theory.proofs.planned.RequestLemmas.{declared_leads}
use Rattle.bundle_merge_theory.proofs.sound.Found.{all-there, from-there, there-from, common-js-same, object-same, externals-same, loads-same, stars-same, exports-same, one-answer}
use Rattle.bundle_merge_names.specs.Bundle.{AreMetaAnswers}
use Rattle.bundle_merge_names.specs.Idents.{target_ident}
use Rattle.bundle_merge_names.specs.declared.names.BundleNames.{BundleNames}
use Rattle.bundle_merge_names.specs.declared.part.Answered.{Answered}
use Rattle.bundle_merge_names.specs.declared.part.BundleInput.{BundleInput}
use Rattle.bundle_merge_names.specs.declared.part.BundleModule.{BundleModule}
use Rattle.bundle_merge_names.proofs.ScopeLemmas.{there-below}
use Rattle.bundle_merge_items.specs.Added as a
use Rattle.bundle_merge_items.specs.Adds.{IsNamedBundle, any_hooks, decided_of}
use Rattle.bundle_merge_names.specs.Naming.{AreBundleNamesOf}
use Rattle.bundle_merge_items.proofs.Made as made
use Rattle.bundle_merge_names.proofs.Naming.{are-named}

-- ---- lists
-- one thing that is made for one cause
pub zip-one : {A B : Type 0} (R : A → B → Type 0) (x : A) (y : B) → R x y → AllZip R (x ∷ []) (y ∷ [])
zip-one R x y is = (is, tt)

module _ (q : Program) (list : List ℕ) (answers : ℕ → Option HookAnswer) (context : BundleContexts) (bundle : BundleInput) (names : BundleNames) (its : IsNamedBundle q list answers context bundle names) where
  abbrev count : ℕ
  count = length bundle.parts.now

  named : AreBundleNamesOf q list context names
  named = are-named q list answers context bundle names its.parts its.named its.sound

  -- ---- what is decided
  abbrev is_common_js : ℕ → Bool
  is_common_js m = flagged bundle.linking.now.common_js.items m

  abbrev meta_of : ℕ → Bool
  meta_of m = has_import_meta (tree_of q m)

  abbrev count_of : ℕ → ℕ
  count_of m = length (own_statements (tree_of q m))

  -- the modules are linked so, whatever their tables tell
  pub linked-by : AreTablesLinked q count bundle.linking.now meta_of count_of
  linked-by = record {
    list = subst (IsList q) its.parts.places its.sound.is_list;
    linked = its.parts.linking;
    handed = subst (λ (ms : List ℕ). HandsOver q ms bundle.linking.now) its.parts.places
        its.parts.handed;
    modules = its.parts.modules;
    told = record { meta_told = λ k below. refl; counted = λ k below. refl };
  }

  -- what linking tells of a module is what is decided
  pub common-js-told : (m : ℕ) (answer : Bool) → TellsCommonJs q m answer →
      (meta : ℕ → Bool) (statements : ℕ → ℕ) →
      answer ≡ (decided_of bundle meta statements).is_common_js m
  common-js-told m answer tells meta statements =
      common-js-same q count bundle.linking.now meta_of count_of linked-by (map block_of bundle.blocks.now) m answer tells

  pub object-told : (m : ℕ) (answer : Bool) → TellsMeant q m answer →
      (meta : ℕ → Bool) (statements : ℕ → ℕ) →
      answer ≡ (decided_of bundle meta statements).is_object_meant m
  object-told m answer tells meta statements =
      object-same q count bundle.linking.now meta_of count_of linked-by (map block_of bundle.blocks.now) m answer tells

  -- the object of a module is meant where that is decided
  pub object-meant : (m : ℕ) (meta : ℕ → Bool) (statements : ℕ → ℕ) →
      (decided_of bundle meta statements).is_object_meant m ≡ true → IsMeant q (Of (l.Namespace m))
  object-meant m meta statements is =
      (object-held q bundle.linking.now.meant.targets (its.parts.linking.meant its.parts.modules) m
      ((decided_of bundle meta statements).is_object_meant m) refl).0 is

  -- something was answered for just the modules that have an `import.meta` of which no object is
  -- written already
  pub meta-told : (m : ℕ) → IsReached q m →
      (has_import_meta (tree_of q m) && not (stands_written (answers m)))
      ≡ is_some (unwrap_or (slice_get bundle.answers.now m) None)
  meta-told m reached =
      let part = there-below bundle.parts.now m ((its.parts.reached m).0 reached) in
      by part.0 (has_import_meta (tree_of q m)) (answers m)
      (unwrap_or (slice_get bundle.answers.now m) None) refl refl
      (its.parts.answered m part.0 part.1)
    where
      by : (part : BundleModule) (has : Bool) (told : Option HookAnswer) (found : Option Answered) →
          has_import_meta (tree_of q m) ≡ has → answers m ≡ told → AreMetaAnswers told part found →
          (has && not (stands_written told)) ≡ is_some found
      by part true (Some (Fresh properties)) (Some answer) is told are = refl
      by part false (Some (Fresh properties)) (Some answer) is told are =
          absurd (false≢true (sym is ∙ its.answered.asked m (Fresh properties) told))
      by part true None None is told are =
          let there = its.answered.there m reached is in
          absurd (none-some there.0 (sym told ∙ there.1))
      by part false None None is told are = refl
      by part true (Some (Written ctxt notes properties)) None is told are = refl
      by part false (Some (Written ctxt notes properties)) None is told are = refl
      by part has None (Some answer) is told are = absurd are
      by part has (Some (Fresh properties)) None is told are = absurd are
      by part has (Some (Written ctxt notes properties)) (Some answer) is told are = absurd are

  -- ---- externals
  pub external-adds : (external : External) → IsExternalOf q external →
      AllZip (IsMade q any_hooks list context answers) (external_plan (external_of external))
      (a.import_declarations_of names external)
  external-adds external is =
      made.external-made q any_hooks list context answers names named external is

  externals-made : (found : List External) →
      ((external : External) → Contains found external → IsExternalOf q external) →
      AllZip (IsMade q any_hooks list context answers)
      (flat_map external_plan (map external_of found)) (flat_map (a.import_declarations_of names) found)
  externals-made [] are = tt
  externals-made (external ∷ found) are =
      zip-join (IsMade q any_hooks list context answers) (external_plan (external_of external))
      (flat_map external_plan (map external_of found)) (a.import_declarations_of names external)
      (flat_map (a.import_declarations_of names) found)
      (external-adds external (are external (here external found)))
      (externals-made found (λ other there. are other (later external found other there)))

  -- the imports of the externals that linking hands out
  pub externals-adds : (found : List External) → AreExternalsOf q list found →
      (meta : ℕ → Bool) (statements : ℕ → ℕ) →
      AllZip (IsMade q any_hooks list context answers)
      (flat_map external_plan (decided_of bundle meta statements).externals)
      (flat_map (a.import_declarations_of names) found)
  externals-adds found are meta statements =
      subst
      (λ (es : List DecidedExternal). AllZip (IsMade q any_hooks list context answers)
      (flat_map external_plan es) (flat_map (a.import_declarations_of names) found))
      (externals-same q count bundle.linking.now meta_of count_of linked-by
      (map block_of bundle.blocks.now) found
      (subst (λ (ms : List ℕ). AreExternalsOf q ms found) its.parts.places are))
      (externals-made found (all-there (IsExternalOf q) found (are.meant its.parts.modules)))

  -- ---- the helper
  pub helper-adds : (c : ℕ) → IsReached q c → IsCommonJs q c →
      IsMade q any_hooks list context answers Helps (a.helper_of names)
  helper-adds c reached cjs =
      made.helper-made q any_hooks list context answers names named c reached cjs

  -- whether some module is CommonJS is what is decided
  pub helps-told : (has : Bool) →
      IsTrue has ↔ ((c : ℕ) × (c < count) × IsCommonJs q c) →
      (meta : ℕ → Bool) (statements : ℕ → ℕ) →
      has
      ≡ list_any (decided_of bundle meta statements).is_common_js
      (decided_of bundle meta statements).list
  helps-told has tells meta statements =
      one-answer has (list_any is_common_js (numbers_from zero count)) tells (forth, back)
    where
      forth : list_any is_common_js (numbers_from zero count) ≡ true →
          (c : ℕ) × (c < count) × IsCommonJs q c
      forth is =
          let some = there_of_any is_common_js (numbers_from zero count) is in
          let below : some.0 < count = omega (arith, from-there zero count some.0 some.1) in
          (some.0, below, (its.parts.linking.common_js some.0).0 some.2)

      back : (c : ℕ) × (c < count) × IsCommonJs q c → list_any is_common_js (numbers_from zero count) ≡ true
      back (c, below, cjs) =
          let same : 0 + c ≡ c = omega arith in
          any_there is_common_js (numbers_from zero count) c
          (subst (Contains (numbers_from zero count)) same (there-from zero count c below))
          ((its.parts.linking.common_js c).1 cjs)

  -- it is there where some module is CommonJS
  pub helps-adds : (meta : ℕ → Bool) (statements : ℕ → ℕ) (has : Bool) →
      has
      ≡ list_any (decided_of bundle meta statements).is_common_js
      (decided_of bundle meta statements).list →
      AllZip (IsMade q any_hooks list context answers)
      (one_if
      (list_any (decided_of bundle meta statements).is_common_js
      (decided_of bundle meta statements).list) Helps)
      (if has then a.helper_of names ∷ [] else [])
  helps-adds meta statements has is =
      subst
      (λ (t : Bool). AllZip (IsMade q any_hooks list context answers) (one_if t Helps)
      (if has then a.helper_of names ∷ [] else [])) is (by has refl)
    where
      by : (t : Bool) → has ≡ t →
          AllZip (IsMade q any_hooks list context answers) (one_if t Helps)
          (if t then a.helper_of names ∷ [] else [])
      by true told =
          let some = there_of_any is_common_js (numbers_from zero count) (sym is ∙ told) in
          let below : some.0 < count = omega (arith, from-there zero count some.0 some.1) in
          zip-one (IsMade q any_hooks list context answers) Helps (a.helper_of names)
          (helper-adds some.0 ((its.parts.reached some.0).1 below)
          ((its.parts.linking.common_js some.0).0 some.2))
      by false told = tt

  -- ---- CommonJS modules that a module loads
  loaded-told : (m : ℕ) → IsReached q m → (found : List Loaded) → AreLoadsIn q m found →
      (loaded : Loaded) → Contains found loaded → IsReached q loaded.which × IsCommonJs q loaded.which
  loaded-told m reached found are loaded there =
      let led = filter_map (resolves q m) (declared_requests (tree_of q m)) in
      let listed = map-on (λ (its : Loaded). its.which) found loaded there in
      let once = subst (λ (ms : List ℕ). Contains ms loaded.which) are.modules listed in
      let passed = filter-back are.test led loaded.which
      (once_back (filter are.test led) loaded.which once) in
      let asked = some_back (resolves q m) (declared_requests (tree_of q m)) loaded.which passed.0 in (
        Reaches-trans reached (along (declared_leads q m loaded.which asked.0 asked.1 asked.2) itself),
        (are.tells loaded.which).0 passed.1,
      )

  -- the statement by which a module loads one of those that linking hands out
  pub load-adds : (m : ℕ) → IsReached q m → (found : List Loaded) → AreLoadsIn q m found →
      (loaded : Loaded) → Contains found loaded →
      IsMade q any_hooks list context answers (Loads m loaded.which) (a.load_item_of names m loaded)
  load-adds m reached found are loaded there =
      let told = loaded-told m reached found are loaded there in
      made.load-made q any_hooks list context answers names named m loaded told.0 told.1
      (all-there (IsLoadOf q m) found (are.meant its.parts.modules) loaded there)

  loads-made : (m : ℕ) (found : List Loaded) →
      ((loaded : Loaded) → Contains found loaded →
      IsMade q any_hooks list context answers (Loads m loaded.which) (a.load_item_of names m loaded)) →
      AllZip (IsMade q any_hooks list context answers)
      (map (λ load. Loads m load.which) (map load_of found)) (map (a.load_item_of names m) found)
  loads-made m [] each = tt
  loads-made m (loaded ∷ found) each = (
    each loaded (here loaded found),
    loads-made m found (λ other there. each other (later loaded found other there)),
  )

  pub loads-adds : (m : ℕ) → IsReached q m → (found : List Loaded) → AreLoadsIn q m found →
      (meta : ℕ → Bool) (statements : ℕ → ℕ) →
      AllZip (IsMade q any_hooks list context answers)
      (map (λ load. Loads m load.which) ((decided_of bundle meta statements).loads m))
      (map (a.load_item_of names m) found)
  loads-adds m reached found are meta statements =
      subst
      (λ (loads : List DecidedLoad). AllZip (IsMade q any_hooks list context answers)
      (map (λ load. Loads m load.which) loads) (map (a.load_item_of names m) found))
      (loads-same q count bundle.linking.now meta_of count_of linked-by
      (map block_of bundle.blocks.now) m reached found are)
      (loads-made m found (load-adds m reached found are))

  -- ---- namespaces
  pub object-adds : (m : ℕ) → IsMeant q (Of (l.Namespace m)) → (item : List Item) →
      a.IsObject bundle.linking.now names m item →
      IsMade q any_hooks list context answers (HoldsNamespace m) item
  object-adds m meant item is =
      subst (IsMade q any_hooks list context answers (HoldsNamespace m))
      (sym
      (is.is
      ∙ ap (f.namespace_object no_notes (target_ident names (t.Namespace m))) is.linked.is))
      (made.object-made q any_hooks list context answers names named m is.linked.linked meant
      (is.linked.by q its.parts.linking its.parts.modules (inr meant)))

  -- ---- what is exported
  exported : (linked : List (Bor Text × TargetRef)) → AreLinked q q.entry (map target_pair linked) →
      AllZip (IsMade q any_hooks list context answers) (one_if (has_some linked) Exports)
      (a.export_list_of (a.linked_pairs names linked))
  exported [] are = tt
  exported (pair ∷ more) are =
      zip-one (IsMade q any_hooks list context answers) Exports
      (f.export_list (a.linked_pairs names (pair ∷ more)))
      (made.exports-made q any_hooks list context answers names named (pair ∷ more) are)

  exports-by : (n : ℕ) (items : List (List Item)) → n ≡ count →
      a.AreExports bundle.linking.now names n items →
      AllZip (IsMade q any_hooks list context answers)
      (one_if (exports_some bundle.linking.now n) Exports) items
  exports-by _ _ same a.none_there = tt
  exports-by _ _ same (a.of_entry {entry} pairs are) =
      let is_entry : entry ≡ q.entry = omega (arith, same, its.parts.entry) in
      let linked = are.by q its.parts.linking its.parts.modules (inl is_entry) in
      let by_entry : AreLinked q q.entry (map target_pair are.linked) =
      subst (λ m. AreLinked q m (map target_pair are.linked)) is_entry linked in
      subst
      (λ (them : List (List Item)). AllZip (IsMade q any_hooks list context answers)
      (one_if (exports_some bundle.linking.now (suc entry)) Exports) them)
      (ap a.export_list_of (sym are.is))
      (subst
      (λ (t : Bool). AllZip (IsMade q any_hooks list context answers) (one_if t Exports)
      (a.export_list_of (a.linked_pairs names are.linked)))
      (exports-same q count bundle.linking.now meta_of count_of linked-by
      (map block_of bundle.blocks.now) are.linked by_entry
      ∙ ap (exports_some bundle.linking.now) (sym same))
      (exported are.linked by_entry))

  pub exports-adds : (items : List (List Item)) →
      a.AreExports bundle.linking.now names count items →
      (meta : ℕ → Bool) (statements : ℕ → ℕ) →
      AllZip (IsMade q any_hooks list context answers)
      (one_if (decided_of bundle meta statements).exports Exports) items
  exports-adds items are meta statements = exports-by count items refl are

  -- ---- stars of externals
  stars-made : (found : List Text) →
      AllZip (IsMade q any_hooks list context answers) (map Stars found) (map f.export_star found)
  stars-made [] = tt
  stars-made (s ∷ found) = (stars refl, stars-made found)

  pub stars-adds : (found : List (Bor Text)) →
      PicksThose (HasExternalStar q q.entry) (externals q list) (map (λ star. star.now) found) →
      (meta : ℕ → Bool) (statements : ℕ → ℕ) →
      AllZip (IsMade q any_hooks list context answers)
      (map Stars (decided_of bundle meta statements).stars)
      (map f.export_star (map (λ star. star.now) found))
  stars-adds found are meta statements =
      subst
      (λ (stars : List Text). AllZip (IsMade q any_hooks list context answers) (map Stars stars)
      (map f.export_star (map (λ star. star.now) found)))
      (stars-same q count bundle.linking.now meta_of count_of linked-by
      (map block_of bundle.blocks.now) (map (λ star. star.now) found)
      (subst
      (λ (ms : List ℕ). PicksThose (HasExternalStar q q.entry) (externals q ms)
      (map (λ star. star.now) found)) its.parts.places are))
      (stars-made (map (λ star. star.now) found))
