-- What is merged of modules that were read by their places on the list of a program is merged right for it, with
-- contexts below the next one, and it is refused for contexts only where they may be too few.
use Rattle.std.proofs.Common.{◌≡◌, ◌↔◌, ℕ, zero, ◌+◌, ◌<◌, Bool, true, false, List, [], ◌∷◌, Option, Some, None, Contains, length, map, refl, sym, ap, ◌∙◌, subst, arith}
use Rattle.std.specs.Prelude.{slice_get, unwrap_or, if◌then◌else◌}
use Rattle.std.proofs.lemmas.Bool.{false≢true}
use Rattle.std.proofs.lemmas.Option.{none-some, same_Some, slice_get_within}
use Rattle.bundle_syntax.specs.declared.kind.ExportMetadata.{ExportMetadata}
use Rattle.bundle_syntax.specs.Item.{Item}
use Rattle.bundle_order_graph.specs.Modules.{Modules, deps}
use Rattle.bundle_order_graph.specs.Walks.{itself}
use Rattle.bundle_order_sort.specs.declared.plan.Block.{Block}
use Rattle.bundle_order_sort.specs.Plan.{IsPlanAsked}
use Rattle.bundle_order_sort.specs.declared.plan.Plan.{Plan}
use Rattle.bundle_rules.specs.Bundle.{AsCall, AsModule, Hooks, form_of}
use Rattle.bundle_rules.specs.Entries.{has_import_meta}
use Rattle.bundle_rules.specs.Faults.{NeedsTooManyContexts}
use Rattle.bundle_rules.specs.Meaning.{HasKind, is_es, is_common_js}
use Rattle.bundle_rules.specs.Merged.{IsMerged, IsMetaItem, meta_item}
use Rattle.bundle_rules.specs.Program.{Program, requested, tree_of, AreBlocks, IsList, IsReached}
use Rattle.bundle_rules.specs.Scopes.{ModuleKind}
use Rattle.bundle_rules.specs.Statements.{own_statements}
use Rattle.bundle_link_index.specs.Leads.{flagged}
use Rattle.bundle_link_index.specs.declared.target.LinkModule.{LinkModule}
use Rattle.bundle_link_targets.specs.Linked.{HandsOver, IsLinkingOf}
use Rattle.bundle_link_targets.specs.Meant.{AreModules}
use Rattle.bundle_link_targets.specs.declared.linking.Linking.{Linking}
use Rattle.bundle_link_targets.proofs.ListLemmas.{map-on}
use Rattle.bundle_link.specs.Alike.{IsModuleAt}
use Rattle.bundle_link.specs.Judged.{numbers_below}
use Rattle.bundle_link.proofs.AlikeLemmas.{common_js_on, flip}
use Rattle.bundle_link.proofs.NumberLemmas.{held}
use Rattle.bundle_link.proofs.NumbersLemmas.{there_is}
use Rattle.bundle_merge_theory.specs.joined.Joined.{joined_items}
use Rattle.bundle_scope_names.specs.fit.Fits.{AreFit}
use Rattle.bundle_scope_names.specs.fit.Sorts.{AProperty, Many, slot}
use Rattle.bundle_merge_theory.specs.made.Given.{HookAnswer, Fresh, TopOf, Written, WrittenIn}
use Rattle.bundle_merge_theory.specs.made.Made.{AreMade}
use Rattle.bundle_merge_theory.proofs.answered.Hooks.{all-held}
use Rattle.bundle_merge_theory.specs.made.Alone.{AreTreesSound, IsHolder, top_of, written_in}
use Rattle.bundle_merge_theory.specs.planned.Blocks.{block_of}
use Rattle.bundle_merge_theory.specs.planned.Decided.{AreDecided, Decided, DecidedBlock, index_of, numbers_from}
use Rattle.bundle_merge_theory.specs.planned.Placed.{id_at}
use Rattle.bundle_merge_theory.specs.sound.Known.{AreKnown, IsByPlaces}
use Rattle.bundle_merge_theory.specs.sound.Decided.{AreTablesLinked, AreTablesTold, decided_by}
use Rattle.bundle_merge_theory.proofs.moved.Due.{turned-round}
use Rattle.bundle_merge_theory.proofs.moved.Moved.{places-renamed}
use Rattle.bundle_merge_theory.proofs.moved.Owed.{AreRenamed}
use Rattle.bundle_merge_theory.proofs.moved.Requested.{blocks-in}
use Rattle.bundle_merge_theory.proofs.moved.Stand.{may-hold-by}
use Rattle.bundle_merge_theory.proofs.planned.BundleLemmas.{for-call}
use Rattle.bundle_merge_theory.proofs.planned.RequestLemmas.{list-reached}
use Rattle.bundle_merge_theory.proofs.planned.TreeCountLemmas as counted
use Rattle.bundle_merge_theory.proofs.sound.Blocks.{planned-blocks}
use Rattle.bundle_merge_theory.proofs.sound.Decided.{decided, linked-by}
use Rattle.bundle_merge_theory.proofs.sound.Found.{below-from, entry-at, from-there, there-from}
use Rattle.bundle_merge_theory.proofs.sound.Sound.{places-list, sound}
use Rattle.bundle_merge_names.specs.Bundle as written
use Rattle.bundle_merge_names.specs.Bundle.{AreMetaAnswers, AreBundleParts, AreWrittenApart, IsPartOf, StandsWritten}
use Rattle.bundle_merge_names.specs.Refused.{LacksForLabels, RefusesNames, TakesFew}
use Rattle.bundle_merge_names.specs.declared.error.MergeError.TheVariants as e
use Rattle.bundle_merge_names.specs.declared.part.Answered.{Answered}
use Rattle.bundle_merge_names.specs.Numbers.{position}
use Rattle.bundle_merge_names.specs.declared.part.BundleInput.{BundleInput}
use Rattle.bundle_merge_names.specs.declared.part.BundleModule.{BundleModule}
use Rattle.bundle_merge_items.specs.Added.{module_item_lists}
use Rattle.bundle_merge_items.specs.Adds.{AreAnswered, any_hooks, decided_of}
use Rattle.bundle_merge_items.specs.Merged.{AreBlocksOnce, IsMergedOf}
use Rattle.bundle_merge_items.specs.declared.merge.MergedModule.{MergedModule}
use Rattle.bundle_merge_items.proofs.LackLemmas.{labels-lack, refused-lacks}
use Rattle.bundle_merge_items.proofs.NeedsLemmas.{needs-by}
use Rattle.bundle_merge_items.proofs.Once.{blocks-once}
use Rattle.bundle_merge.specs.Handed.{AreObjectsApart, StandsInObject, StandsInside, its_inside, its_name}
use Rattle.bundle_merge.specs.Placed.{AreModulesRight, AreReadAndLinked, HasFront, nothing, object}
use Rattle.bundle_merge.specs.Ready.{IsMergedAs}
use Rattle.bundle_merge.specs.Standing.{HasContextsBelow}
use Rattle.bundle_merge.proofs.Places as places
use Rattle.bundle_merge.proofs.Merging.{made-below, made-merged}

-- a bundle of parts that were read so
pub record IsReadBundle (p : Program) (hooks : Hooks) (list : List ℕ) (links : List LinkModule) (parts : List BundleModule) (linking : Linking) (plan : Plan) (local : ℕ → ℕ) (answers : ℕ → Option HookAnswer) (bundle : BundleInput) : Type 0 where
  pub handed : bundle.parts.now ≡ parts
  pub unasked : bundle.answers.now ≡ []
  pub linked : bundle.linking.now ≡ linking
  pub blocks : bundle.blocks.now ≡ plan.blocks.items
  pub locals : (k m : ℕ) (part : BundleModule) → slice_get list k ≡ Some m → slice_get parts k ≡ Some part → part.local ≡ local m
  pub fronts : (k m : ℕ) (part : BundleModule) → slice_get list k ≡ Some m → slice_get parts k ≡ Some part → HasFront p hooks m part (answers k)
  pub past : (k : ℕ) → slice_get list k ≡ None → answers k ≡ None
  pub objects : AreObjectsApart list local (position bundle.contexts) answers
  pub own : (m : ℕ) → IsReached p m → 1 < local m
  pub free : (m : ℕ) → IsReached p m → local m < position bundle.contexts
  pub apart : (m n : ℕ) → IsReached p m → IsReached p n → local m ≡ local n → m ≡ n

-- ---- what stands in front of a part
-- an object that holds the `import.meta` of a module, and in which properties stand
abbrev FitsObject : Program → Hooks → ℕ → Option HookAnswer → Type 0
FitsObject p hooks m None = ⊥
FitsObject p hooks m (Some (Fresh properties)) = ⊥
FitsObject p hooks m (Some (Written ctxt notes properties)) =
    IsMetaItem p hooks m (meta_item notes ctxt properties)
    × AreFit (slot 0 Many AProperty ∷ []) properties

module _ {p : Program} {hooks : Hooks} {m : ℕ} {part : BundleModule} where
  -- it is what is told of its `import.meta`, for which the hook is not asked
  front-answers : {answer : Option HookAnswer} → HasFront p hooks m part answer →
      AreMetaAnswers answer part None
  front-answers (nothing not none) = none
  front-answers (object ctxt notes properties has its fits is) = is

  -- it is there for just a module that has one
  front-there : {answer : Option HookAnswer} → HasFront p hooks m part answer →
      has_import_meta (tree_of p m) ≡ true → (its : HookAnswer) × (answer ≡ Some its)
  front-there (nothing not none) has = absurd (false≢true (sym not ∙ has))
  front-there (object ctxt notes properties has its fits is) also =
      (Written ctxt notes properties, refl)

  front-has : {answer : Option HookAnswer} → HasFront p hooks m part answer → (its : HookAnswer) →
      answer ≡ Some its → has_import_meta (tree_of p m) ≡ true
  front-has (nothing not none) its same = absurd (none-some its same)
  front-has (object ctxt notes properties has meta fits is) its same = has

  -- and no answer that is fresh
  front-written : {answer : Option HookAnswer} → HasFront p hooks m part answer →
      (properties : List Item) → answer ≡ Some (Fresh properties) → ⊥
  front-written (nothing not none) properties same = none-some (Fresh properties) same
  front-written (object ctxt notes inside has meta fits is) properties same =
      let one : Written ctxt notes inside ≡ Fresh properties =
      same_Some (Written ctxt notes inside) (Fresh properties) same in cc

  -- but the object that holds it
  front-object : {answer : Option HookAnswer} → HasFront p hooks m part answer →
      (its : HookAnswer) → answer ≡ Some its → FitsObject p hooks m (Some its)
  front-object (nothing not none) its same = absurd (none-some its same)
  front-object (object ctxt notes properties has meta fits is) its same =
      subst (FitsObject p hooks m) same (meta, fits)

-- what stands in an object does so whatever the program
module _ {q : Program} {answers : ℕ → Option HookAnswer} {k ctxt : ℕ} where
  holder-inside : IsHolder q answers (WrittenIn k ctxt) → StandsInside answers k ctxt
  holder-inside (written_in own notes properties kind begins name i o reached told there denoted is) =
      record {
        own = own;
        notes = notes;
        properties = properties;
        told = told;
        kind = kind;
        begins = begins;
        name = name;
        i = i;
        o = o;
        there = there;
        denoted = denoted;
        is = is;
      }

  stands-in : StandsWritten q answers k ctxt → StandsInObject answers k ctxt
  stands-in (written.its_name notes properties reached told) = its_name notes properties told
  stands-in (written.its_inside holder) = its_inside (holder-inside holder)

module _ (p : Program) (list : List ℕ) (right : AreModulesRight p list) (links : List LinkModule) (parts : List BundleModule) (are : AreReadAndLinked p list links parts) (linking : Linking) where
  abbrev q : Program
  q = places.by_place p list right links parts are

  abbrev n : ℕ
  n = length list

  -- a module by its place is of the kind that it is
  kind-back : (k m : ℕ) (kind : ModuleKind) → slice_get list k ≡ Some m → HasKind q k kind →
      HasKind p m kind
  kind-back k m _ at (is_es not) =
      is_es (λ common. not (common_js_on p q (IsModuleAt list) (places.alike p list right links parts are) m k at common))
  kind-back k m _ at (is_common_js is) =
      is_common_js
      (common_js_on q p (λ a b. IsModuleAt list b a) (flip (places.alike p list right links parts are)) k
      m at is)

  module _ (linked : IsLinkingOf q linking) (handed : HandsOver q (numbers_below (length links)) linking) (g : Modules) (graph : (m : ℕ) → deps g m ≡ requested p m) (plan : Plan) (planned : IsPlanAsked p.settings.in_standard_order g p.entry list plan) (hooks : Hooks) (local : ℕ → ℕ) (answers : ℕ → Option HookAnswer) (bundle : BundleInput) (b : IsReadBundle p hooks list links parts linking plan local answers bundle) where
    modules : AreModules q
    modules =
        places.modules-are p list right links parts are
        (λ c. flagged linking.common_js.items c) linked.common_js

    known : AreKnown p q list
    known = places.are-known p list right links parts are modules

    by-places : IsByPlaces p q list g
    by-places = places.are-places p list right links parts are g graph

    is-list : IsList q (numbers_from zero n)
    is-list = places-list p q list right.is_list (places.alike p list right links parts are)

    long : length bundle.parts.now ≡ n
    long = ap length b.handed ∙ are.long

    -- just the places of the list are reached
    below-reached : (k : ℕ) → IsReached q k ↔ (k < n)
    below-reached k = (
      λ reached. (let below = from-there zero n k
          ((list-reached q (numbers_from zero n) is-list k).1 reached) in omega (arith, below)),
      λ below. (let same : 0 + k ≡ k = omega arith in
          (list-reached q (numbers_from zero n) is-list k).0
          (subst (Contains (numbers_from zero n)) same (there-from zero n k below))),
    )

    handed-on : HandsOver q (numbers_below n) linking
    handed-on = subst (λ k. HandsOver q (numbers_below k) linking) are.long_links handed

    -- ---- the blocks
    are-blocks : AreBlocks q (numbers_from zero n)
        (map (λ (block : DecidedBlock). block.modules) (map block_of plan.blocks.items))
    are-blocks = (planned-blocks p q list g by-places plan planned).0

    block-below : (block : Block) → Contains plan.blocks.items block → (k : ℕ) →
        Contains block.places.items k → k < n
    block-below block there k inside =
        let decided = map block_of plan.blocks.items in
        let its = blocks-in are-blocks block.places.items
        (map-on (λ (it : DecidedBlock). it.modules) decided (block_of block)
        (map-on block_of plan.blocks.items block there)) k inside in
        let below = from-there zero n k its in
        omega (arith, below)

    -- ---- the parts
    its-part : (k : ℕ) (part : BundleModule) → slice_get bundle.parts.now k ≡ Some part →
        slice_get parts k ≡ Some part
    its-part k part at = ap (λ (l : List BundleModule). slice_get l k) (sym b.handed) ∙ at

    module-at : (k : ℕ) (part : BundleModule) → slice_get bundle.parts.now k ≡ Some part →
        (m : ℕ) × (slice_get list k ≡ Some m)
    module-at k part at =
        let within = slice_get_within bundle.parts.now k part at in
        there_is list k (omega (arith, within, long))

    part-is : (k : ℕ) (part : BundleModule) → slice_get bundle.parts.now k ≡ Some part →
        IsPartOf q k part
    part-is k part at =
        let m = module-at k part at in
        let there = its-part k part at in
        let its = are.each k m.0 part m.1 there in
        let tree = places.tree-at p list right links parts are k m.0 m.1 in
        record {
          tree = sym tree ∙ its.tree;
          table = λ kind has. its.names kind (kind-back k m.0 kind m.1 has);
          tables = places.table-at-place p list right links parts are k part there;
          meta = its.meta ∙ ap has_import_meta tree;
          leads = λ s. places.lead-at p list right links parts are k part there s;
        }

    local-at : (k m : ℕ) (part : BundleModule) → slice_get bundle.parts.now k ≡ Some part →
        slice_get list k ≡ Some m → part.local ≡ local m
    local-at k m part at there = b.locals k m part there (its-part k part at)

    is-reached : (k m : ℕ) → slice_get list k ≡ Some m → IsReached p m
    is-reached k m at = (list-reached p list right.is_list m).0 (held list m k at)

    front-at : (k m : ℕ) (part : BundleModule) → slice_get bundle.parts.now k ≡ Some part →
        slice_get list k ≡ Some m → HasFront p hooks m part (answers k)
    front-at k m part at there = b.fronts k m part there (its-part k part at)

    objects-apart : AreWrittenApart q answers bundle
    objects-apart = record {
      own = λ k ctxt stands. b.objects.own k ctxt (stands-in stands);
      free = λ k ctxt stands. b.objects.free k ctxt (stands-in stands);
      tops = λ k i ctxt part stands at same.
          (let m = module-at i part at in
          b.objects.tops k i m.0 ctxt (stands-in stands) m.1
          (same ∙ local-at i m.0 part at m.1));
      apart = λ k i ctxt one other.
          b.objects.apart k i ctxt (stands-in one) (stands-in other);
      names = λ k ctxt its notes properties told holder.
          b.objects.names k ctxt its notes properties told (holder-inside holder);
    }

    -- what is merged is of the program by places
    pub are-parts : AreBundleParts q (numbers_from zero n) answers bundle
    are-parts = record {
      reached = λ k. (
        λ reached. (let below = (below-reached k).0 reached in omega (arith, below, long)),
        λ within. (below-reached k).1 (omega (arith, within, long)),
      );
      entry = entry-at q n is-list ∙ sym long;
      places = ap (numbers_from zero) (sym long);
      linking = subst (IsLinkingOf q) (sym b.linked) linked;
      handed =
          subst (HandsOver q (numbers_from zero n)) (sym b.linked)
          (subst (λ (list : List ℕ). HandsOver q list linking) (below-from n) handed-on);
      modules = modules;
      parts = part-is;
      answered = λ k part at.
          let m = module-at k part at in
          subst
          (λ (l : List (Option Answered)). AreMetaAnswers (answers k) part (unwrap_or (slice_get l k) None))
          (sym b.unasked) (front-answers (front-at k m.0 part at m.1));
      written = objects-apart;
      own = λ k part at.
          (let m = module-at k part at in
          let same = local-at k m.0 part at m.1 in
          let own = b.own m.0 (is-reached k m.0 m.1) in
          omega (arith, same, own));
      free = λ k part at.
          (let m = module-at k part at in
          let same = local-at k m.0 part at m.1 in
          let free = b.free m.0 (is-reached k m.0 m.1) in
          omega (arith, same, free));
      apart = λ k j part other at there same.
          (let m = module-at k part at in
          let i = module-at j other there in
          let locals : local m.0 ≡ local i.0 =
          sym (local-at k m.0 part at m.1) ∙ same ∙ local-at j i.0 other there i.1 in
          let numbers : m.0 ≡ i.0 =
          b.apart m.0 i.0 (is-reached k m.0 m.1) (is-reached j i.0 i.1) locals in
          places.once p list right links parts are k j m.0 m.1
          (i.1 ∙ ap (λ (number : ℕ). Some number) (sym numbers)));
      blocks = λ block there k inside.
          (let below = block-below block
          (subst (λ (list : List Block). Contains list block) b.blocks there) k inside in
          omega (arith, below, long));
    }

    -- no module stands twice in a block of it
    pub are-once : AreBlocksOnce bundle
    are-once =
        blocks-once q (numbers_from zero n) n bundle refl
        (subst (λ (list : List Block). AreBlocks q (numbers_from zero n)
        (map (λ (block : DecidedBlock). block.modules) (map block_of list))) (sym b.blocks)
        are-blocks)

    -- ---- what is told of the hook's answers
    -- the part at a place that is told something of
    record PartAt (k : ℕ) : Type 0 where
      m : ℕ
      part : BundleModule
      at : slice_get list k ≡ Some m
      front : HasFront p hooks m part (answers k)

    place-part : (k m : ℕ) → slice_get list k ≡ Some m → PartAt k
    place-part k m at =
        let part = places.part-at p list right links parts are k m at in
        record { m = m; part = part.0; at = at; front = b.fronts k m part.0 at part.1 }

    told-part : (k : ℕ) (answer : HookAnswer) → answers k ≡ Some answer → PartAt k
    told-part k answer told = by (slice_get list k) refl
      where
        by : (o : Option ℕ) → slice_get list k ≡ o → PartAt k
        by None at = absurd (none-some answer (sym (b.past k at) ∙ told))
        by (Some m) at = place-part k m at

    tree-back : (k m : ℕ) → slice_get list k ≡ Some m →
        has_import_meta (tree_of q k) ≡ has_import_meta (tree_of p m)
    tree-back k m at =
        ap has_import_meta (sym (places.tree-at p list right links parts are k m at))

    none-fresh : (k : ℕ) (properties : List Item) → answers k ≡ Some (Fresh properties) → ⊥
    none-fresh k properties told =
        front-written (told-part k (Fresh properties) told).front properties told

    has-meta : (k : ℕ) (answer : HookAnswer) → answers k ≡ Some answer →
        has_import_meta (tree_of q k) ≡ true
    has-meta k answer told =
        let it = told-part k answer told in
        tree-back k it.m it.at ∙ front-has it.front answer told

    -- modules under other numbers
    to-places : AreRenamed q p (λ k m. IsModuleAt list m k) (id_at list) (λ m. index_of m list)
    to-places =
        places-renamed p q list (places.are-moved p list right links parts are)

    meta-by : (k m : ℕ) (item : List Item) → slice_get list k ≡ Some m →
        IsMetaItem p hooks m item → IsMetaItem q hooks k item
    meta-by k m item at its = record {
      answered = its.answered;
      held =
          may-hold-by p q (λ m k. IsModuleAt list m k) (λ m. index_of m list) (id_at list)
          (turned-round to-places) hooks m k its.answered at its.held;
      faultless = record {
        undoubled = its.faultless.undoubled;
        no_with = its.faultless.no_with;
        no_arguments = its.faultless.no_arguments;
      };
      properties = its.properties;
      local = its.local;
      next = its.next;
      later = its.later;
      inside = its.inside;
      resolved = its.resolved;
      meta = its.meta;
      ctxt = its.ctxt;
      above = its.above;
      own = its.own;
      is = its.is;
    }

    -- whatever hook was asked
    meta-any : (k : ℕ) (item : List Item) → IsMetaItem q hooks k item →
        IsMetaItem q any_hooks k item
    meta-any k item its = record {
      answered = its.answered;
      held = record {
        loaded = its.held.loaded;
        kept = its.held.kept;
        answer = its.held.answer;
        answered = tt;
        cleared = its.held.cleared;
      };
      faultless = its.faultless;
      properties = its.properties;
      local = its.local;
      next = its.next;
      later = its.later;
      inside = its.inside;
      resolved = its.resolved;
      meta = its.meta;
      ctxt = its.ctxt;
      above = its.above;
      own = its.own;
      is = its.is;
    }

    object-by : (k ctxt : ℕ) (notes : ExportMetadata) (properties : List Item) →
        answers k ≡ Some (Written ctxt notes properties) →
        IsMetaItem q hooks k (meta_item notes ctxt properties)
        × AreFit (slot 0 Many AProperty ∷ []) properties
    object-by k ctxt notes properties told =
        let it = told-part k (Written ctxt notes properties) told in
        let its = front-object it.front (Written ctxt notes properties) told in
        (meta-by k it.m (meta_item notes ctxt properties) it.at its.0, its.1)

    pub are-answered : AreAnswered q answers
    are-answered = record {
      there = λ k reached has.
          let m = there_is list k ((below-reached k).0 reached) in
          let it = place-part k m.0 m.1 in
          front-there it.front (sym (tree-back k it.m it.at) ∙ has);
      asked = has-meta;
      held = λ k properties told. absurd (none-fresh k properties told);
      faultless = λ k properties told. absurd (none-fresh k properties told);
      fit = λ k properties told. absurd (none-fresh k properties told);
      written = λ k ctxt notes properties told.
          meta-any k (meta_item notes ctxt properties)
          (object-by k ctxt notes properties told).0;
      written_fit = λ k ctxt notes properties told. (object-by k ctxt notes properties told).1;
    }

    pub is-sound : AreTreesSound q (numbers_from zero n)
    is-sound = sound p q list known

    pub are-told : AreTablesTold q (length bundle.parts.now) (λ k. has_import_meta (tree_of q k))
        (λ k. length (own_statements (tree_of q k)))
    are-told = record { meta_told = λ k below. refl; counted = λ k below. refl }

    told-there : AreTablesTold q n (λ k. has_import_meta (tree_of q k))
        (λ k. length (own_statements (tree_of q k)))
    told-there = record { meta_told = λ k below. refl; counted = λ k below. refl }

    decided-same : decided_of bundle (λ k. has_import_meta (tree_of q k))
        (λ k. length (own_statements (tree_of q k)))
        ≡ decided_by linking (λ k. has_import_meta (tree_of q k))
        (λ k. length (own_statements (tree_of q k))) n (map block_of plan.blocks.items)
    decided-same =
        ap (λ (l : Linking). decided_by l (λ k. has_import_meta (tree_of q k))
        (λ k. length (own_statements (tree_of q k))) (length bundle.parts.now)
        (map block_of bundle.blocks.now)) b.linked
        ∙ ap (λ (size : ℕ). decided_by linking (λ k. has_import_meta (tree_of q k))
        (λ k. length (own_statements (tree_of q k))) size (map block_of bundle.blocks.now)) long
        ∙ ap (λ (blocks : List Block). decided_by linking (λ k. has_import_meta (tree_of q k))
        (λ k. length (own_statements (tree_of q k))) n (map block_of blocks)) b.blocks

    are-linked : AreTablesLinked q n linking (λ k. has_import_meta (tree_of q k))
        (λ k. length (own_statements (tree_of q k)))
    are-linked =
        linked-by p q list g by-places linking (λ k. has_import_meta (tree_of q k))
        (λ k. length (own_statements (tree_of q k))) linked handed-on modules told-there

    -- what is decided of them
    abbrev d : Decided
    d = decided_by linking (λ k. has_import_meta (tree_of q k))
        (λ k. length (own_statements (tree_of q k))) n (map block_of plan.blocks.items)

    -- what is merged of them
    abbrev IsMergedOfThem : MergedModule → Type 0
    IsMergedOfThem merged =
        IsMergedOf q (numbers_from zero n) answers bundle (λ k. has_import_meta (tree_of q k))
        (λ k. length (own_statements (tree_of q k))) merged

    merged-of-them : (merged : MergedModule) → IsMergedAs bundle merged → IsMergedOfThem merged
    merged-of-them merged made =
        made q (numbers_from zero n) answers (λ k. has_import_meta (tree_of q k))
        (λ k. length (own_statements (tree_of q k))) is-sound are-parts are-once are-answered
        are-told

    items-made : (merged : MergedModule) (its : IsMergedOfThem merged) →
        AreMade q hooks (numbers_from zero n) its.context answers d its.orders its.items
    items-made merged its =
        subst (λ plan_d. AreMade q hooks (numbers_from zero n) its.context answers plan_d its.orders its.items)
        decided-same
        (all-held q any_hooks hooks (numbers_from zero n) its.context answers
        (λ k properties told. absurd (none-fresh k properties told))
        (λ k ctxt notes properties told. (object-by k ctxt notes properties told).0)
        _ its.orders its.items its.made)

    -- what is merged of them is merged right
    pub is-merged : (merged : MergedModule) → IsMergedAs bundle merged →
        IsMerged (λ x. x) local p hooks (joined_items (module_item_lists merged.tree))
    is-merged merged made =
        let its = merged-of-them merged made in
        subst (λ l. IsMerged (λ x. x) local p hooks (joined_items l)) (sym its.is)
        (made-merged p q list g by-places known (places.are-moved p list right links parts are)
        linking (λ k. has_import_meta (tree_of q k)) (λ k. length (own_statements (tree_of q k)))
        are-linked plan planned hooks its.context answers its.orders its.items
        (items-made merged its) its.apart local
        (λ k reached.
        (let below = (below-reached k).0 reached in
        let m = there_is list k below in
        let part = places.part-at p list right links parts are k m.0 m.1 in
        let there = ap (λ (l : List BundleModule). slice_get l k) b.handed ∙ part.1 in
        its.tops k part.0 there ∙ b.locals k m.0 part.0 m.1 part.1
        ∙ ap (λ o. local (unwrap_or o zero)) (sym m.1))))

    -- and what stands in it has contexts below those that are left
    pub is-below : (merged : MergedModule) → IsMergedAs bundle merged →
        HasContextsBelow (position merged.contexts) (joined_items (module_item_lists merged.tree))
    is-below merged made =
        let its = merged-of-them merged made in
        let above = its.apart.own (TopOf q.entry) (top_of itself) in
        let below = its.below (TopOf q.entry) (top_of itself) in
        subst (λ l. HasContextsBelow (position merged.contexts) (joined_items l)) (sym its.is)
        (made-below p q list g by-places known (places.are-moved p list right links parts are)
        linking (λ k. has_import_meta (tree_of q k)) (λ k. length (own_statements (tree_of q k)))
        are-linked plan planned hooks its.context answers its.orders its.items
        (items-made merged its) its.apart (position merged.contexts) (omega (arith, above, below))
        its.below)

    -- ---- what needs too many contexts
    are-decided : AreDecided q AsModule d
    are-decided =
        decided p q list g by-places linking (λ k. has_import_meta (tree_of q k))
        (λ k. length (own_statements (tree_of q k))) are-linked plan planned

    are-counted : counted.AreAnswers q hooks answers
    are-counted = record {
      asked = λ k properties told. absurd (none-fresh k properties told);
      written = λ k ctxt notes properties told. has-meta k (Written ctxt notes properties) told;
    }

    -- the modules by their places do, where what is decided of them says so
    places-need : (next : ℕ) →
        ((its : Decided) → its.list ≡ numbers_from zero n →
        AreDecided q (form_of q.settings) its → NeedsTooManyContexts q hooks next) →
        NeedsTooManyContexts q hooks next
    places-need next lacks = by q.settings.iife refl
      where
        by : (t : Bool) → q.settings.iife ≡ t → NeedsTooManyContexts q hooks next
        by false so =
            lacks d refl
            (subst (λ t. AreDecided q (if t then AsCall else AsModule) d) (sym so) are-decided)
        by true so =
            lacks (record d { exports = true }) refl
            (subst (λ t. AreDecided q (if t then AsCall else AsModule) (record d { exports = true }))
            (sym so) (for-call q AsModule d are-decided))

    -- and so do those of the program
    program-lacks : ((its : Decided) → its.list ≡ numbers_from zero n →
        AreDecided q (form_of q.settings) its →
        NeedsTooManyContexts q hooks (position bundle.contexts)) →
        NeedsTooManyContexts p hooks (position bundle.contexts)
    program-lacks lacks =
        needs-by q p (λ k m. IsModuleAt list m k) (id_at list) (λ m. index_of m list) to-places hooks
        (position bundle.contexts) (places-need (position bundle.contexts) lacks)

    -- where they get no names
    pub program-needs : (its : Option ℕ) →
        RefusesNames q (numbers_from zero n) answers (position bundle.contexts)
        (e.ContextsUsedUp its) →
        NeedsTooManyContexts p hooks (position bundle.contexts)
    program-needs its refuses =
        program-lacks
        (λ its-decided same are. refused-lacks q hooks its-decided are answers are-counted
        (position bundle.contexts) its
        (subst
        (λ places. RefusesNames q places answers (position bundle.contexts) (e.ContextsUsedUp its))
        (sym same) refuses))

    -- also where they get names, and all contexts are taken for them
    pub all-taken : (merged : MergedModule) →
        TakesFew q (numbers_from zero n) answers (position bundle.contexts)
        (position merged.contexts) →
        position merged.contexts ≡ 4294967296 →
        NeedsTooManyContexts p hooks (position bundle.contexts)
    all-taken merged few full =
        program-lacks
        (λ its same are. labels-lack q hooks its are answers are-counted (position bundle.contexts)
        (subst (λ places. LacksForLabels q places answers (position bundle.contexts)) (sym same)
        (record {
          holders = few.holders;
          are = few.are;
          above = λ most has. (let its = few.few most has in omega (arith, its, full));
        })))
