-- What was read of the modules of a linker is merged right, where it is handed on as it was read.
use Rattle.std.proofs.Common.{◌≡◌, ℕ, zero, suc, ◌-◌, ◌<◌, List, [], ◌∷◌, ◌++◌, Option, Some, None, length, map, refl, sym, ap, ◌∙◌, subst, inl, inr}
use Rattle.std.specs.Prelude.{IfSome, flat_map, option_map, slice_get}
use Rattle.std.specs.List.{AllZip}
use Rattle.std.proofs.lemmas.Bool.{false≢true}
use Rattle.std.proofs.lemmas.List.{length-map}
use Rattle.std.proofs.lemmas.Option.{none-some, same_Some, slice_get-map}
use Rattle.std.proofs.lemmas.Slice.Zip.{AllZip-long}
use Rattle.bundle_tree_ast.specs.declared.module.Module.{Module}
use Rattle.bundle_tree_names.specs.FileName.{name_of, Name as FileName}
use Rattle.bundle_tree_names.specs.declared.error.Error.{Error}
use Rattle.bundle_tree_names.specs.declared.error.Error.TheVariants.{OutOfMemory}
use Rattle.bundle_syntax.specs.Item.{Item}
use Rattle.bundle_order_sort.specs.Plan.{IsPlanAsked, IsPlanOf}
use Rattle.bundle_order_sort.specs.declared.plan.Plan.{Plan}
use Rattle.bundle_rules.specs.Bundle.{Hooks}
use Rattle.bundle_rules.specs.Faults.{Fault, IsFaultless, IsFirstTreeFault, NeedsTooManyContexts, fault_of}
use Rattle.bundle_rules.specs.Merged.{Contexts, IsMerged, IsPrepared}
use Rattle.bundle_rules.specs.Nodes.{flat}
use Rattle.bundle_rules.specs.Parts.{Owned, Parts, body_of, in_order, items_in, owned_by, parts_of, tree_of_items}
use Rattle.bundle_rules.specs.Program.{Program, IsReached}
use Rattle.bundle_link.specs.Refusals.{IsTreeRefusal}
use Rattle.bundle_link.specs.declared.link.Linker.{Linker}
use Rattle.bundle_link_index.specs.Programs.{IsLinkProgram}
use Rattle.bundle_link_index.specs.declared.target.LinkModule.{LinkModule}
use Rattle.bundle_link.specs.Judged.{numbers_below}
use Rattle.bundle_link.proofs.NumberLemmas.{held}
use Rattle.bundle_link_targets.specs.declared.linking.Linking.{Linking}
use Rattle.bundle_merge_theory.specs.joined.Joined.{joined_items}
use Rattle.bundle_merge_theory.specs.cleared.Programs.{cleared_program}
use Rattle.bundle_merge_theory.specs.made.Given.{HookAnswer}
use Rattle.bundle_merge_theory.proofs.cleared.Cleared.{of-cleared-reached, requested-cleared}
use Rattle.bundle_merge_theory.specs.planned.Decided.{numbers_from}
use Rattle.bundle_merge_names.specs.Bundle.{AreBundleParts}
use Rattle.bundle_merge_names.specs.Numbers.{position}
use Rattle.bundle_merge_names.specs.declared.error.MergeError.{MergeError}
use Rattle.bundle_merge_names.specs.declared.error.MergeError.TheVariants as e
use Rattle.bundle_merge_names.specs.declared.part.BundleInput.{BundleInput}
use Rattle.bundle_merge_names.specs.declared.part.BundleModule.{BundleModule}
use Rattle.bundle_merge_items.specs.Added.{module_item_lists}
use Rattle.bundle_merge_items.specs.declared.merge.MergedModule.{MergedModule}
use Rattle.bundle_merge.specs.Handed.{AreObjectsApart, AreReadFrom, AreReadIn, IsBundleRead, IsLinkRead, IsLinkedRead, IsMadeOfRead, IsPartRead, MayRefuseRead}
use Rattle.bundle_merge.specs.Placed.{AreReadAndLinked}
use Rattle.bundle_merge.specs.Prepared.{items_of_each}
use Rattle.bundle_merge.specs.Read.{own_list}
use Rattle.bundle_merge.specs.Ready.{IsMergeable, IsMergedAs, IsRefusedAs, TakesAs}
use Rattle.bundle_merge.specs.Refusals.{IsRefusalOfRead, MayLackNames}
use Rattle.bundle_merge.specs.Standing.{HasContextsBelow}
use Rattle.bundle_merge.specs.declared.read.ReadModule.{ReadModule}
use Rattle.bundle_merge.proofs.Bundle as bundles
use Rattle.bundle_merge.proofs.Bundle.{IsReadBundle}
use Rattle.bundle_merge.proofs.Objects.{AnswersFit}
use Rattle.bundle_merge.proofs.Places as places
use Rattle.bundle_merge.proofs.Ready as ready

-- what stands beside an element of the second list
zip-back : {A B : Type 0} (R : A → B → Type 0) (xs : List A) (ys : List B) → AllZip R xs ys →
    (k : ℕ) (y : B) → slice_get ys k ≡ Some y → (x : A) × (slice_get xs k ≡ Some x) × R x y
zip-back R [] [] zip k y at = absurd (none-some y at)
zip-back R [] (z ∷ ys) zip k y at = absurd zip
zip-back R (x ∷ xs) [] zip k y at = absurd zip
zip-back R (x ∷ xs) (z ∷ ys) zip zero y at = (x, refl, subst (R x) (same_Some z y at) zip.0)
zip-back R (x ∷ xs) (z ∷ ys) zip (suc k) y at = zip-back R xs ys zip.1 k y at

module _ (p : Program) (hooks : Hooks) (local : ℕ → ℕ) (linker : Linker) (next : ℕ) (reads : List ReadModule) (its : AreReadIn p hooks linker local next reads) (linking : Linking) (links : IsLinkedRead linker reads linking) (plan : Plan) (planned : IsPlanOf linker.linked.graph linker.entry linker.linked.list.items plan) (bundle : BundleInput) (b : IsBundleRead reads linking plan.blocks.items next bundle) where
  abbrev list : List ℕ
  list = linker.linked.list.items

  part-read : (k : ℕ) (part : BundleModule) → slice_get bundle.parts.now k ≡ Some part →
      (read : ReadModule) × (slice_get reads k ≡ Some read) × IsPartRead read part
  part-read k part at = zip-back IsPartRead reads bundle.parts.now b.parts k part at

  link-read : (k : ℕ) (link : LinkModule) → slice_get links.links k ≡ Some link →
      (read : ReadModule) × (slice_get reads k ≡ Some read) × IsLinkRead read link
  link-read k link at = zip-back IsLinkRead reads links.links links.each k link at

  same-read : (k : ℕ) (link : LinkModule) (part : BundleModule) → slice_get links.links k ≡ Some link →
      slice_get bundle.parts.now k ≡ Some part →
      (link.tables.now ≡ part.tables.now) × (link.leads.now ≡ part.leads.now)
  same-read k link part at there =
      let one = link-read k link at in
      let two = part-read k part there in
      let same : one.0 ≡ two.0 = same_Some one.0 two.0 (sym one.1 ∙ two.1) in (
        one.2.tables ∙ ap (λ (read : ReadModule). read.tables) same ∙ sym two.2.tables,
        one.2.leads ∙ ap (λ (read : ReadModule). read.leads) same ∙ sym two.2.leads,
      )

  are : AreReadAndLinked p list links.links bundle.parts.now
  are = record {
    long_links = AllZip-long IsLinkRead reads links.links links.each ∙ its.long;
    long = AllZip-long IsPartRead reads bundle.parts.now b.parts ∙ its.long;
    each = λ k m part at there.
        (let read = part-read k part there in its.each k m read.0 part at read.1 read.2);
    tables = λ k link part at there. (same-read k link part at there).0;
    leads = λ k link part at there. (same-read k link part at there).1;
  }

  is-bundle : IsReadBundle p hooks list links.links bundle.parts.now linking plan local its.answers bundle
  is-bundle = record {
    handed = refl;
    unasked = b.answers;
    linked = b.linked;
    blocks = b.its_blocks;
    locals = λ k m part at there.
        (let read = part-read k part there in its.locals k m read.0 part at read.1 read.2);
    fronts = λ k m part at there.
        (let read = part-read k part there in its.fronts k m read.0 part at read.1 read.2);
    past = its.past;
    objects = subst (λ n. AreObjectsApart list local n its.answers) (sym b.contexts) its.objects;
    own = its.own;
    free = λ m reached. subst (λ n. local m < n) (sym b.contexts) (its.free m reached);
    apart = its.apart;
  }

  program : IsLinkProgram (places.by_place p list its.right links.links bundle.parts.now are)
      links.links (numbers_below (length links.links)) (length links.links - 1)
      linker.config.require
  program =
      places.is-program p list its.right links.links bundle.parts.now are linker.config.require
      its.links.0

  abbrev q : Program
  q = places.by_place p list its.right links.links bundle.parts.now are

  begun : IsPlanAsked p.settings.in_standard_order linker.linked.graph p.entry list plan
  begun = record {
    by_requests = λ e.
        subst (λ entry. IsPlanOf linker.linked.graph entry list plan) (sym its.begins) planned;
    of_each = λ asked. absurd (false≢true (sym its.by_needs ∙ asked));
  }

  -- what is merged of it
  pub merged-read : (merged : MergedModule) → IsMergedAs bundle merged →
      IsMerged (λ x. x) local p hooks (joined_items (module_item_lists merged.tree))
  merged-read merged made =
      bundles.is-merged p list its.right links.links bundle.parts.now are linking
      (links.linked q program) (links.handed q program) linker.linked.graph its.graph plan begun
      hooks local its.answers bundle is-bundle merged made

  -- and what stands in it has contexts below those that are left
  pub below-read : (merged : MergedModule) → IsMergedAs bundle merged →
      HasContextsBelow (position merged.contexts) (joined_items (module_item_lists merged.tree))
  below-read merged made =
      bundles.is-below p list its.right links.links bundle.parts.now are linking
      (links.linked q program) (links.handed q program) linker.linked.graph its.graph plan begun
      hooks local its.answers bundle is-bundle merged made

  are-parts : AreBundleParts q (numbers_from zero (length list)) its.answers bundle
  are-parts =
      bundles.are-parts p list its.right links.links bundle.parts.now are linking
      (links.linked q program) (links.handed q program) linker.linked.graph its.graph plan begun
      hooks local its.answers bundle is-bundle

  -- where it is refused, contexts may be too few
  pub refused-read : (refusal : MergeError) → IsRefusedAs bundle refusal →
      MayLackNames p hooks next refusal
  refused-read e.OutOfMemory refused = tt
  refused-read (e.ContextsUsedUp number) refused =
      subst (NeedsTooManyContexts p hooks) b.contexts
      (bundles.program-needs p list its.right links.links bundle.parts.now are linking
      (links.linked q program) (links.handed q program) linker.linked.graph its.graph plan begun
      hooks local its.answers bundle is-bundle number
      (refused q (numbers_from zero (length list)) its.answers are-parts))

  -- also where all are taken
  pub all-read : (merged : MergedModule) → TakesAs bundle merged →
      position merged.contexts ≡ 4294967296 → NeedsTooManyContexts p hooks next
  all-read merged takes full =
      subst (NeedsTooManyContexts p hooks) b.contexts
      (bundles.all-taken p list its.right links.links bundle.parts.now are linking
      (links.linked q program) (links.handed q program) linker.linked.graph its.graph plan begun
      hooks local its.answers bundle is-bundle merged
      (takes q (numbers_from zero (length list)) its.answers are-parts) full)

-- the same of what was made of it, or why nothing was
module _ (p : Program) (hooks : Hooks) (local : ℕ → ℕ) (linker : Linker) (next : ℕ) (reads : List ReadModule) (its : AreReadIn p hooks linker local next reads) (linking : Linking) (links : IsLinkedRead linker reads linking) (plan : Plan) (planned : IsPlanOf linker.linked.graph linker.entry linker.linked.list.items plan) where
  pub made-read : (merged : MergedModule) → IsMadeOfRead reads linking plan.blocks.items next merged →
      IsMerged (λ x. x) local p hooks (joined_items (module_item_lists merged.tree))
  made-read merged made =
      merged-read p hooks local linker next reads its linking links plan planned made.bundle
      made.read merged made.made

  pub standing-read : (merged : MergedModule) → IsMadeOfRead reads linking plan.blocks.items next merged →
      HasContextsBelow (position merged.contexts) (joined_items (module_item_lists merged.tree))
  standing-read merged made =
      below-read p hooks local linker next reads its linking links plan planned made.bundle
      made.read merged made.made

  pub taken-read : (merged : MergedModule) → IsMadeOfRead reads linking plan.blocks.items next merged →
      position merged.contexts ≡ 4294967296 → NeedsTooManyContexts p hooks next
  taken-read merged made full =
      all-read p hooks local linker next reads its linking links plan planned made.bundle made.read
      merged made.few full

  pub lacks-read : (refusal : MergeError) →
      MayRefuseRead reads linking plan.blocks.items next refusal →
      MayLackNames p hooks next refusal
  lacks-read refusal (inl memory) = subst (MayLackNames p hooks next) (sym memory) tt
  lacks-read refusal (inr refused) =
      refused-read p hooks local linker next reads its linking links plan planned refused.bundle
      refused.read refusal refused.refused

-- ---- what was read of prepared items
-- an error that tells no fault is want of memory
no-fault : (error : Error) → fault_of error ≡ None → error ≡ OutOfMemory
no-fault OutOfMemory is = refl
no-fault _ is = cc

-- of a tree without a fault none is told
none-told : (file : FileName) (tree : List Item) (error : Error) → IsFaultless file tree →
    IsTreeRefusal file tree error → error ≡ OutOfMemory
none-told file tree error none told = by (fault_of error) refl told
  where
    by : (o : Option Fault) → fault_of error ≡ o → IfSome o (IsFirstTreeFault file tree) →
        error ≡ OutOfMemory
    by None is tells = no-fault error is
    by (Some fault) is tells = absurd (none tells.stage tells.place fault tells.there)

module _ (p : Program) (hooks : Hooks) (contexts : ℕ → Contexts) (next : ℕ) (prepared : Parts) (linker : Linker) (w : IsMergeable p contexts linker) (prepares : IsPrepared p hooks contexts next prepared) (fits : AnswersFit hooks) where
  abbrev all : List ℕ
  all = linker.linked.list.items

  is-reached : (k m : ℕ) → slice_get all k ≡ Some m → IsReached p m
  is-reached k m at = (w.of.linked.reached m).0 (held all m k at)

  module _ (copies : List Module) (copied : map module_item_lists copies ≡ items_of_each (in_order prepared) all) where
    -- there are as many copies as modules
    pub long-copies : length copies ≡ length all
    long-copies =
        sym (length-map copies module_item_lists) ∙ ap length copied
        ∙ length-map all (items_in (in_order prepared))

    -- the copies at a place are of its module
    copy-at : (k m : ℕ) → slice_get all k ≡ Some m →
        (its : Module) × (slice_get copies k ≡ Some its)
        × (module_item_lists its ≡ items_in (in_order prepared) m)
    copy-at k m at =
        let here : option_map module_item_lists (slice_get copies k)
        ≡ Some (items_in (in_order prepared) m) =
        sym (slice_get-map module_item_lists copies k) ∙ ap (λ l. slice_get l k) copied
        ∙ slice_get-map (items_in (in_order prepared)) all k
        ∙ ap (option_map (items_in (in_order prepared))) at in
        by (slice_get copies k) refl here
      where
        by : (o : Option Module) → slice_get copies k ≡ o →
            option_map module_item_lists o ≡ Some (items_in (in_order prepared) m) →
            (its : Module) × (slice_get copies k ≡ Some its)
            × (module_item_lists its ≡ items_in (in_order prepared) m)
        by None there e = absurd (none-some (items_in (in_order prepared) m) e)
        by (Some its) there e =
            (its, there, same_Some (module_item_lists its) (items_in (in_order prepared) m) e)

    -- no fault of theirs is told
    pub memory-alone : (error : Error) → IsRefusalOfRead linker all copies error →
        error ≡ OutOfMemory
    memory-alone error (inl memory) = memory
    memory-alone error (inr its) =
        let copy = copy-at its.place its.number its.at in
        let same : copy.0 ≡ its.items =
        same_Some copy.0 its.items (sym copy.1 ∙ its.there) in
        let file = name_of its.known.file_name in
        none-told file (own_list its.items.body.items) error
        (ready.own-faultless p hooks contexts next prepared linker w prepares fits its.number
        (is-reached its.place its.number its.at) its.items.body.items
        (sym (ap module_item_lists same) ∙ copy.2) file
        (ready.known-faultless p hooks contexts next prepared linker w prepares fits its.number its.known
        its.is_known))
        its.told

    module _ (reads : List ReadModule) (from : AreReadFrom linker all all copies (length all) reads) where
      -- what is told of what stands in front of them
      abbrev answers : ℕ → Option HookAnswer
      answers k = (ready.told-at p hooks contexts next prepared linker w prepares fits k).0

      abbrev tells : (k : ℕ) →
          ready.ToldAt p hooks contexts next prepared linker w prepares fits k (answers k)
      tells k = (ready.told-at p hooks contexts next prepared linker w prepares fits k).1

      pub read-in : AreReadIn (cleared_program p) hooks linker (λ m. (contexts m).local) next reads
      read-in = record {
        links = w.of.modules.links;
        by_needs = w.by_needs;
        begins = w.of.modules.begins;
        graph = λ m. w.of.linked.graph m ∙ ap (λ r. r m) (sym (requested-cleared p));
        right = ready.are-right p hooks contexts next prepared linker w prepares fits;
        answers = answers;
        fronts = λ k m read part at there handed.
            (let copy = copy-at k m at in
            ready.has-front p hooks contexts next prepared linker w prepares fits m
            (is-reached k m at) copy.0.body.items copy.2 k at copy.0 refl part
            (from.each k m copy.0 read part at copy.1 there handed)
            (ready.told-there p hooks contexts next prepared linker w prepares fits answers
            tells k m at));
        past =
            ready.past-none p hooks contexts next prepared linker w prepares fits answers
            tells;
        objects =
            ready.objects-apart p hooks contexts next prepared linker w prepares fits answers
            tells;
        long = from.long;
        each = λ k m read part at there handed.
            (let copy = copy-at k m at in
            ready.is-read p hooks contexts next prepared linker w prepares fits m (is-reached k m at)
            copy.0.body.items copy.2 k at copy.0 refl part
            (from.each k m copy.0 read part at copy.1 there handed));
        locals = λ k m read part at there handed.
            (let copy = copy-at k m at in
            ready.has-local p hooks contexts next prepared linker w prepares fits m (is-reached k m at)
            copy.0.body.items copy.2 k at copy.0 refl part
            (from.each k m copy.0 read part at copy.1 there handed));
        own = λ m reached. (prepares.above_one m (of-cleared-reached p m reached)).0;
        free = λ m reached. (prepares.below_next m (of-cleared-reached p m reached)).0;
        apart = λ m n one two.
            prepares.locals m n (of-cleared-reached p m one) (of-cleared-reached p n two);
      }

-- ---- the items of one module, as a module
flat-owned : (m : ℕ) (items : List (List Item)) →
    flat_map (λ (pair : Owned). pair.1) (owned_by m items ++ []) ≡ flat items
flat-owned m [] = refl
flat-owned m (item ∷ items) = ap (λ l. item ++ l) (flat-owned m items)

pub body-joined : (m : ℕ) (items : List (List Item)) →
    body_of (parts_of m items) ≡ joined_items items
body-joined m items = ap tree_of_items (flat-owned m items)
