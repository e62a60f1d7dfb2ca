-- Of which module each item of a block is, before it is sorted: those of a module stand together.
-- Items are added one behind another, for one plan behind another.
-- What is added outside the blocks of a bundle, and objects, are made for what is decided of it.
-- Items that are put into a good order are picked by it.
use Rattle.std.proofs.Common.{◌≡◌, ℕ, zero, suc, ◌≤◌, Bool, true, false, List, [], ◌∷◌, ◌++◌, Option, Some, None, length, map, refl, sym, ap, ◌∙◌, subst, append_assoc, arith, ◌+◌, ◌-◌, ◌<◌, get_or, take, append-nil, length-append, ◌↔◌, eq-eqb}
use Rattle.std.specs.Prelude.{flat_map, nat_eq, slice_get, if◌then◌else◌, Contains, IsTrue, filter_map}
use Rattle.std.specs.List.{AllByRecursion, IsDistinct, AllZip, list_any, cons_option}
use Rattle.std.proofs.Math.ListN.{replicate}
use Rattle.std.proofs.lemmas.List.{map-append, length-map, take_all}
use Rattle.std.proofs.lemmas.Option.{none-some, same_Some, slice_get-map}
use Rattle.std.proofs.lemmas.Bool.{false≢true, true≢false}
use Rattle.std.proofs.lemmas.Map.Keys.{IsDistinct-head, IsDistinct-tail, apart_from_distinct}
use Rattle.std.proofs.Math.Seq.{take-suc}
use Rattle.std.proofs.lemmas.Grind.{flat_map-append}
use Rattle.std.proofs.lemmas.Slice.Zip.{AllZip-long}
use Rattle.std.specs.Borrow.{Bor}
use Rattle.std.specs.Option.{option_map}
use Rattle.std.proofs.lemmas.List.Elements.{Contains-get_or}
use Rattle.bundle_syntax.specs.Item.{Item}
use Rattle.bundle_rules.specs.Bundle.{Cause, Own, Defines, Loads, HoldsMeta, owner_of, Exports, Helps, HoldsNamespace, Stars, externals}
use Rattle.bundle_rules.specs.Order.{IsGoodOrder}
use Rattle.bundle_rules.specs.Program.{Program}
use Rattle.bundle_rules.specs.Sorting.{flat, group_of_items}
use Rattle.bundle_order_sort.specs.declared.plan.Block.{Block}
use Rattle.bundle_tree_ast.specs.declared.module.Module.{Module}
use Rattle.bundle_rules.specs.Linking.{IsCommonJs, HasExternalStar}
use Rattle.bundle_rules.specs.Nodes.{Text, parts}
use Rattle.bundle_rules.specs.Tables.{TellsMeant}
use Rattle.bundle_rules.specs.Parts.{tree_of_items}
use Rattle.bundle_rules.specs.Statements.{top_items}
use Rattle.bundle_order_sort.specs.Arranged.{IsArrangement, AreArranged}
use Rattle.bundle_tree_ast.specs.declared.module.ModuleItem.{ModuleItem}
use Rattle.bundle_tree_listed.specs.Tree.{module_item_items}
use Rattle.bundle_merge_injected.specs.Listed.{export_star}
use Rattle.bundle_order.specs.Owned.{AreTogether}
use Rattle.bundle_order.proofs.ReferenceLemmas.{whole}
use Rattle.bundle_link_targets.specs.Handed.{AreExternalsOf}
use Rattle.bundle_link_targets.specs.Linked.{HandsOver, IsLinkingOf}
use Rattle.bundle_link_targets.specs.Meant.{AreModules}
use Rattle.bundle_link_targets.specs.Taken.{PicksThose}
use Rattle.bundle_link_targets.specs.declared.target.External.{External}
use Rattle.bundle_merge_theory.specs.planned.Decided.{Decided, one_if, numbers_from, es_plan, module_plan, object_plan, block_plan, DecidedBlock, front_plan, back_plan, external_plan}
use Rattle.bundle_merge_theory.specs.made.Given.{HookAnswer, BundleContexts}
use Rattle.bundle_merge_theory.specs.made.Made as put
use Rattle.bundle_merge_theory.specs.made.Made.{IsMade, IsBlockMade, AreBlocksMade}
use Rattle.bundle_merge_theory.specs.planned.Blocks.{block_of}
use Rattle.bundle_merge_theory.proofs.laid.Ready.{zip-join}
use Rattle.bundle_merge_theory.proofs.sorted.Theorem.{length-placed}
use Rattle.bundle_merge_names.specs.declared.names.BundleNames.{BundleNames}
use Rattle.bundle_merge_names.specs.declared.part.BundleInput.{BundleInput}
use Rattle.bundle_merge_items.specs.Added.{module_item_lists, AreExports, IsObject, helper_of, import_declarations_of}
use Rattle.bundle_merge_items.specs.Adds.{AddsItems, AddsFor, ArePlannedCauses, any_hooks, decided_of}
use Rattle.bundle_merge_items.specs.Blocks.{AddsOwned, AddsBlocks, AddsPlan, AreItemsMade, AreOwned, AreBundleModules, InBundle, IsBlockPut, IsBlockPlaced}
use Rattle.bundle_merge_items.specs.Merged.{AddsBlock, AreBlocksOnce}
use Rattle.bundle_merge_items.proofs.Adding.{adds-none, adds-on}
use Rattle.bundle_merge_items.proofs.Lifting as lifting

-- ---- together

-- causes whose items are all of this module, or all free
abbrev pub AreOf : Option ℕ → List Cause → Type 0
AreOf owner [] = Unit {0}
AreOf owner (cause ∷ rest) = (owner_of cause ≡ owner) × AreOf owner rest

of-join : (owner : Option ℕ) (xs ys : List Cause) → AreOf owner xs → AreOf owner ys →
    AreOf owner (xs ++ ys)
of-join owner [] ys one two = two
of-join owner (x ∷ xs) ys one two = (one.0, of-join owner xs ys one.1 two)

of-map : {A : Type 0} (owner : Option ℕ) (make : A → Cause) → ((x : A) → owner_of (make x) ≡ owner) →
    (xs : List A) → AreOf owner (map make xs)
of-map owner make same [] = tt
of-map owner make same (x ∷ xs) = (same x, of-map owner make same xs)

of-one : (owner : Option ℕ) (b : Bool) (cause : Cause) → owner_of cause ≡ owner →
    AreOf owner (one_if b cause)
of-one owner true cause same = (same, tt)
of-one owner false cause same = tt

of-es : (d : Decided) (m : ℕ) → AreOf (Some m) (es_plan d m)
of-es d m =
    of-join (Some m) (one_if (d.has_meta m) (HoldsMeta m)) _
    (of-one (Some m) (d.has_meta m) (HoldsMeta m) refl)
    (of-join (Some m) (map (λ load. Loads m load.which) (d.loads m)) _
    (of-map (Some m) (λ load. Loads m load.which) (λ load. refl) (d.loads m))
    (of-map (Some m) (Own m) (λ k. refl) (numbers_from zero (d.statements m))))

-- what a module makes is of it
pub of-module : (d : Decided) (m : ℕ) → AreOf (Some m) (module_plan d m)
of-module d m = by (d.is_common_js m)
  where
    by : (b : Bool) → AreOf (Some m) (if b then Defines m ∷ [] else es_plan d m)
    by true = (refl, tt)
    by false = of-es d m

-- objects are free
pub of-object : (d : Decided) (m : ℕ) → AreOf None (object_plan d m)
of-object d m = of-one None (d.is_object_meant m) _ refl

-- the owners of such causes
pub owners-of : (owner : Option ℕ) (causes : List Cause) → AreOf owner causes →
    map owner_of causes ≡ replicate (length causes) owner
owners-of owner [] of = refl
owners-of owner (cause ∷ rest) of =
    ap (λ o. o ∷ map owner_of rest) of.0 ∙ ap (λ l. owner ∷ l) (owners-of owner rest of.1)

-- ---- those of a module stand together
-- no item is of this module
abbrev IsAbsent : ℕ → List (Option ℕ) → Type 0
IsAbsent m owners = (i : ℕ) → slice_get owners i ≡ Some (Some m) → ⊥

-- those of this module stand in front
abbrev IsInFront : ℕ → List (Option ℕ) → Type 0
IsInFront m owners =
    (s k : ℕ) → slice_get owners s ≡ Some (Some m) → k ≤ s → slice_get owners k ≡ Some (Some m)

same-number : (m n : ℕ) → Some (Some m) ≡ Some (Some n) → m ≡ n
same-number m n e = same_Some m n (same_Some (Some m) (Some n) e)

front-more : (m : ℕ) (owners : List (Option ℕ)) → IsInFront m owners →
    IsInFront m (Some m ∷ owners)
front-more m owners front s zero e l = refl
front-more m owners front zero (suc k) e l = absurd (omega (arith, l))
front-more m owners front (suc s) (suc k) e l = front s k e (omega (arith, l))

together-more : (m : ℕ) (owners : List (Option ℕ)) → IsInFront m owners → AreTogether owners →
    AreTogether (Some m ∷ owners)
together-more m owners front all s zero n a b k l u =
    let same : m ≡ n = same-number m n b in
    subst (λ j. slice_get (Some m ∷ owners) k ≡ Some (Some j)) same
    (front-more m owners front s k (a ∙ ap (λ j. Some (Some j)) (sym same)) u)
together-more m owners front all s (suc t) n a b zero l u = absurd (omega (arith, l))
together-more m owners front all zero (suc t) n a b (suc k) l u = absurd (omega (arith, u))
together-more m owners front all (suc s) (suc t) n a b (suc k) l u =
    all s t n a b k (omega (arith, l)) (omega (arith, u))

absent-front : (m : ℕ) (owners : List (Option ℕ)) → IsAbsent m owners → IsInFront m owners
absent-front m owners none s k e l = absurd (none s e)

-- so many of a module before others
before-others : (m count : ℕ) (owners : List (Option ℕ)) → IsAbsent m owners → AreTogether owners →
    AreTogether (replicate count (Some m) ++ owners)
    × IsInFront m (replicate count (Some m) ++ owners)
before-others m zero owners none all = (all, absent-front m owners none)
before-others m (suc count) owners none all =
    let rest = before-others m count owners none all in (
      together-more m (replicate count (Some m) ++ owners) rest.1 rest.0,
      front-more m (replicate count (Some m) ++ owners) rest.1,
    )

absent-behind : (m n count : ℕ) (owners : List (Option ℕ)) → nat_eq m n ≡ false →
    IsAbsent m owners → IsAbsent m (replicate count (Some n) ++ owners)
absent-behind m n zero owners other none i e = none i e
absent-behind m n (suc count) owners other none zero e =
    false≢true (sym other ∙ (ap (nat_eq m) (same-number n m e) ∙ itself m))
  where
    itself : (k : ℕ) → nat_eq k k ≡ true
    itself k = grind arith
absent-behind m n (suc count) owners other none (suc i) e =
    absent-behind m n count owners other none i e

-- the owners of items of modules, of each so many, and then of free ones
abbrev owners_by : (ℕ → ℕ) → List ℕ → ℕ → List (Option ℕ)
owners_by count places free =
    flat_map (λ m. replicate (count m) (Some m)) places ++ replicate free None

absent-free : (m free : ℕ) → IsAbsent m (replicate free None)
absent-free m zero i e = none-some (Some m) e
absent-free m (suc free) zero e = none-some m (same_Some None (Some m) e)
absent-free m (suc free) (suc i) e = absent-free m free i e

absent-all : (count : ℕ → ℕ) (m : ℕ) (places : List ℕ) (free : ℕ) →
    AllByRecursion (λ n. nat_eq m n ≡ false) places → IsAbsent m (owners_by count places free)
absent-all count m [] free others = absent-free m free
absent-all count m (n ∷ places) free others =
    subst (IsAbsent m)
    (sym (append_assoc (replicate (count n) (Some n)) (flat_map (λ k. replicate (count k) (Some k)) places) (replicate free None)))
    (absent-behind m n (count n) (owners_by count places free) others.0
    (absent-all count m places free others.1))

together-free : (free : ℕ) → AreTogether (replicate free None)
together-free free s t m a b k l u = absurd (absent-free m free s a)

together-by : (count : ℕ → ℕ) (places : List ℕ) (free : ℕ) → IsDistinct nat_eq places →
    AreTogether (owners_by count places free)
together-by count [] free once = together-free free
together-by count (m ∷ places) free once =
    subst AreTogether
    (sym (append_assoc (replicate (count m) (Some m)) (flat_map (λ k. replicate (count k) (Some k)) places) (replicate free None)))
    (before-others m (count m) (owners_by count places free)
    (absent-all count m places free (IsDistinct-head nat_eq m places once))
    (together-by count places free (IsDistinct-tail nat_eq m places once))).0

-- ---- those of a block
owners-modules : (d : Decided) (places : List ℕ) →
    map owner_of (flat_map (module_plan d) places)
    ≡ flat_map (λ m. replicate (length (module_plan d m)) (Some m)) places
owners-modules d [] = refl
owners-modules d (m ∷ places) =
    map-append owner_of (module_plan d m) (flat_map (module_plan d) places)
    ∙ (ap (λ l. l ++ map owner_of (flat_map (module_plan d) places))
    (owners-of (Some m) (module_plan d m) (of-module d m))
    ∙ ap (λ l. replicate (length (module_plan d m)) (Some m) ++ l) (owners-modules d places))

of-objects : (d : Decided) (places : List ℕ) → AreOf None (flat_map (object_plan d) places)
of-objects d [] = tt
of-objects d (m ∷ places) =
    of-join None (object_plan d m) (flat_map (object_plan d) places) (of-object d m)
    (of-objects d places)

owners-block : (d : Decided) (places : List ℕ) →
    map owner_of (block_plan d places)
    ≡ owners_by (λ m. length (module_plan d m)) places (length (flat_map (object_plan d) places))
owners-block d places =
    map-append owner_of (flat_map (module_plan d) places) (flat_map (object_plan d) places)
    ∙ (ap (λ l. l ++ map owner_of (flat_map (object_plan d) places)) (owners-modules d places)
    ∙ ap (λ l. flat_map (λ m. replicate (length (module_plan d m)) (Some m)) places ++ l)
    (owners-of None (flat_map (object_plan d) places) (of-objects d places)))

-- where no module stands twice in a block, the items of each stand together
pub together-block : (d : Decided) (places : List ℕ) → IsDistinct nat_eq places →
    AreTogether (map owner_of (block_plan d places))
together-block d places once =
    subst AreTogether (sym (owners-block d places))
    (together-by (λ m. length (module_plan d m)) places (length (flat_map (object_plan d) places)) once)

-- ---- behind

-- what is made of one element more
pub flat-next : {A B : Type 0} (f : A → List B) (xs : List A) (i : ℕ) (x : A) → i < length xs →
    flat_map f (take (i + 1) xs) ≡ flat_map f (take i xs) ++ f (get_or xs i x)
flat-next {B = B} f xs i x within =
    ap (λ n. flat_map f (take n xs)) (let same : i + 1 ≡ suc i = omega arith in same)
    ∙ (ap (flat_map f) (take-suc xs i x within)
    ∙ (flat_map-append f (take i xs) (get_or xs i x ∷ [])
    ∙ ap (λ (l : List B). flat_map f (take i xs) ++ l) (append-nil (f (get_or xs i x)))))

-- items that are made of one element more
pub behind-next : {A : Type 0} (f : A → List (List Item)) (xs : List A) (i : ℕ) (x : A)
    (a b c : Module) → i < length xs → x ≡ get_or xs i x →
    module_item_lists b ≡ module_item_lists a ++ flat_map f (take i xs) →
    module_item_lists c ≡ module_item_lists b ++ f x →
    module_item_lists c ≡ module_item_lists a ++ flat_map f (take (i + 1) xs)
behind-next f xs i x a b c within is one two =
    two
    ∙ (ap (λ l. l ++ f x) one
    ∙ (append_assoc (module_item_lists a) (flat_map f (take i xs)) (f x)
    ∙ ap (λ l. module_item_lists a ++ l)
    (ap (λ y. flat_map f (take i xs) ++ f y) is ∙ sym (flat-next f xs i x within))))

-- of all elements
pub behind-all : {A : Type 0} (f : A → List (List Item)) (xs : List A) (i : ℕ) (a b : Module) →
    length xs ≤ i → module_item_lists b ≡ module_item_lists a ++ flat_map f (take i xs) →
    module_item_lists b ≡ module_item_lists a ++ flat_map f xs
behind-all f xs i a b past is = is ∙ ap (λ l. module_item_lists a ++ flat_map f l) (take_all i xs past)

module _ (q : Program) (list : List ℕ) (answers : ℕ → Option HookAnswer) (context : BundleContexts) where
  abbrev Made : Cause → List Item → Type 0
  Made = IsMade q any_hooks list context answers

  -- items of one module, or free ones, are added behind others, and the owner is noted up to the last
  pub owned-on : (causes more : List Cause) (owner : Option ℕ) (old new : Module)
      (before after : List (Option ℕ)) →
      AreOf owner more →
      AddsItems q list answers context more old new →
      after ≡ before ++ replicate (length new.body.items - length before) owner →
      AreOwned q list answers context causes old before →
      AreOwned q list answers context (causes ++ more) new after
  owned-on causes more owner old new before after of adds noted are = record {
    each = subst (AllZip Made (causes ++ more)) (sym adds.is)
        (zip-join Made causes more (module_item_lists old) adds.made are.each adds.each);
    owned = noted
        ∙ (ap (λ n. before ++ replicate n owner) as-many
        ∙ (ap (λ l. l ++ replicate (length more) owner) are.owned
        ∙ (ap (λ l. map owner_of causes ++ l) (sym (owners-of owner more of))
        ∙ sym (map-append owner_of causes more))));
  }
    where
      as-many : length new.body.items - length before ≡ length more
      as-many =
          let a = length-map new.body.items (module_item_items 0) in
          let b = ap length adds.is in
          let c = length-append (module_item_lists old) adds.made in
          let e = AllZip-long Made causes (module_item_lists old) are.each in
          let f = AllZip-long Made more adds.made adds.each in
          let g = ap length are.owned in
          let h = length-map causes owner_of in
          omega (arith, a, b, c, e, f, g, h)

-- ---- blocks
-- one block behind others
pub blocks-more : (q : Program) (list : List ℕ) (answers : ℕ → Option HookAnswer)
    (context : BundleContexts) (d : Decided) {blocks : List DecidedBlock} {orders : List (List ℕ)}
    {placed : List (List Item)} {block : DecidedBlock} {order : List ℕ} {its : List (List Item)} →
    AreBlocksMade q any_hooks list context answers d blocks orders placed →
    IsBlockMade q any_hooks list context answers d block order its →
    AreBlocksMade q any_hooks list context answers d (blocks ++ block ∷ []) (orders ++ order ∷ [])
    (placed ++ its)
blocks-more q list answers context d {block = block} {order = order} {its = its} put.none last =
    subst (AreBlocksMade q any_hooks list context answers d (block ∷ []) (order ∷ []))
    (append-nil its) (put.more last put.none)
blocks-more q list answers context d {block = block} {order = order} {its = its} (put.more {block = one} {blocks = blocks} {order = first} {orders = orders} {placed = placed} {rest = rest} made others) last =
    subst (AreBlocksMade q any_hooks list context answers d (one ∷ blocks ++ block ∷ []) (first ∷ orders ++ order ∷ []))
    (sym (append_assoc placed rest its)) (put.more made (blocks-more q list answers context d others last))

-- ---- loops
module _ (bundle : BundleInput) (names : BundleNames) where
  -- one number more
  pub owned-next : (plan : Decided → ℕ → List Cause) (numbers : List ℕ) (i x : ℕ) (a b c : Module)
      (before between after : List (Option ℕ)) → i < length numbers →
      AddsOwned bundle names (λ d. flat_map (plan d) (take i numbers)) a b before between →
      AddsOwned bundle names (λ d. plan d (get_or numbers i x)) b c between after →
      AddsOwned bundle names (λ d. flat_map (plan d) (take (i + 1) numbers)) a c before after
  owned-next plan numbers i x a b c before between after within one two =
      λ q list answers context meta count named told causes are.
      let d = decided_of bundle meta count in
      subst (λ l. AreOwned q list answers context l c after)
      (append_assoc causes (flat_map (plan d) (take i numbers)) (plan d (get_or numbers i x))
      ∙ ap (λ (l : List Cause). causes ++ l) (sym (flat-next (plan d) numbers i x within)))
      (two q list answers context meta count named told
      (causes ++ flat_map (plan d) (take i numbers))
      (one q list answers context meta count named told causes are))

  -- none so far
  pub owned-none : (items : Module) (owners : List (Option ℕ)) →
      AddsOwned bundle names (λ d. []) items items owners owners
  owned-none items owners = λ q list answers context meta count named told causes are.
      subst (λ l. AreOwned q list answers context l items owners) (sym (append-nil causes)) are

  -- all of them
  pub owned-all : (plan : Decided → ℕ → List Cause) (numbers places : List ℕ) (i : ℕ)
      (a b : Module) (before after : List (Option ℕ)) → length numbers ≤ i → numbers ≡ places →
      AddsOwned bundle names (λ d. flat_map (plan d) (take i numbers)) a b before after →
      AddsOwned bundle names (λ d. flat_map (plan d) places) a b before after
  owned-all plan numbers places i a b before after past same =
      subst (λ l. AddsOwned bundle names (λ d. flat_map (plan d) l) a b before after)
      (take_all i numbers past ∙ same)

  -- what a module adds, and that it is of it
  pub put-module : (m : ℕ) (a b : Module) (before after : List (Option ℕ)) →
      (count : ℕ) → AddsFor bundle names (ArePlannedCauses bundle (λ d. module_plan d m)) a b →
      after ≡ before ++ replicate (count - length before) (Some m) → count ≡ length b.body.items →
      AddsOwned bundle names (λ d. module_plan d m) a b before after
  put-module m a b before after total adds noted all =
      λ q list answers context meta count named told causes are.
      let d = decided_of bundle meta count in
      owned-on q list answers context causes (module_plan d m) (Some m) a b before after
      (of-module d m)
      (adds q list answers context (module_plan d m) named (meta, count, told, refl))
      (noted ∙ ap (λ n. before ++ replicate (n - length before) (Some m)) all) are

  -- what an object adds, and that it is free
  pub put-object : (m : ℕ) (made : List Item) (a b : Module) (before after : List (Option ℕ)) →
      InBundle bundle names (λ q list answers context d.
      AllZip (IsMade q any_hooks list context answers) (object_plan d m) (made ∷ [])) →
      (count : ℕ) → module_item_lists b ≡ module_item_lists a ++ made ∷ [] →
      after ≡ before ++ replicate (count - length before) None → count ≡ length b.body.items →
      AddsOwned bundle names (λ d. object_plan d m) a b before after
  put-object m made a b before after each total is noted all =
      λ q list answers context meta count named told causes are.
      let d = decided_of bundle meta count in
      owned-on q list answers context causes (object_plan d m) None a b before after (of-object d m)
      (record {
        made = made ∷ [];
        each = each q list answers context meta count named told;
        is = is;
      }) (noted ∙ ap (λ n. before ++ replicate (n - length before) None) all) are

  -- no object
  pub no-object : (m : ℕ) (items : Module) (owners : List (Option ℕ)) →
      InBundle bundle names (λ q list answers context d. object_plan d m ≡ []) →
      AddsOwned bundle names (λ d. object_plan d m) items items owners owners
  no-object m items owners none = λ q list answers context meta count named told causes are.
      subst (λ l. AreOwned q list answers context l items owners)
      (sym (append-nil causes)
      ∙ ap (λ (l : List Cause). causes ++ l) (sym (none q list answers context meta count named told)))
      are

  -- the items of a block that is put
  pub block-put : (block : Block) (start its mid new : Module) (owners last : List (Option ℕ)) →
      AreBlocksOnce bundle → Contains bundle.blocks.now block → module_item_lists start ≡ [] →
      (AreBundleModules bundle block.places.items →
      AddsOwned bundle names (λ d. flat_map (module_plan d) block.places.items) start its [] owners) →
      AddsOwned bundle names (λ d. flat_map (object_plan d) block.places.items) its mid owners last →
      (length last ≡ length mid.body.items → AreTogether last →
      IsBlockPlaced block.is_cycle (module_item_lists mid) last (module_item_lists new)) →
      InBundle bundle names (λ q list answers context d. IsBlockPut q list answers context d block new)
  block-put block start its mid new owners last once there empty first second placed =
      λ q list answers context meta count named told.
      let d = decided_of bundle meta count in
      let plan = block_plan d block.places.items in
      let none : AreOwned q list answers context [] start [] =
      record { each = subst (AllZip (Made q list answers context) []) (sym empty) tt; owned = refl } in
      let all = second q list answers context meta count named told
      (flat_map (module_plan d) block.places.items)
      (first (named.parts.blocks block there) q list answers context meta count named told [] none) in
      let long : length last ≡ length mid.body.items =
      (let a = AllZip-long (Made q list answers context) plan (module_item_lists mid) all.each in
      let b = length-map mid.body.items (module_item_items 0) in
      let e = ap length all.owned in
      let f = length-map plan owner_of in
      omega (arith, a, b, e, f)) in
      let its = placed long
      (subst AreTogether (sym all.owned)
      (together-block d block.places.items (once block there))) in
      record {
        order = its.order;
        made = record {
          before = module_item_lists mid;
          each = all.each;
          good = λ sorted. subst (λ l. IsGoodOrder (group_of_items (flat (module_item_lists mid)) l) its.order)
              all.owned (its.good sorted);
          sorted = its.sorted;
          unsorted = its.unsorted;
        };
      }

  -- the items of a block behind others
  pub block-added : (block : Block) (its old new : Module) →
      InBundle bundle names (λ q list answers context d. IsBlockPut q list answers context d block its) →
      new.body.items ≡ old.body.items ++ its.body.items →
      InBundle bundle names (λ q list answers context d. AddsBlock q list answers context d block old new)
  block-added block its old new there appended = λ q list answers context meta count named told.
      let made = there q list answers context meta count named told in
      record {
        order = made.order;
        placed = module_item_lists its;
        made = made.made;
        is = ap (map (module_item_items 0)) appended
            ∙ map-append (module_item_items 0) old.body.items its.body.items;
      }

  -- no block so far
  pub blocks-none : (items : Module) →
      InBundle bundle names (λ q list answers context d. AddsBlocks q list answers context d [] items items)
  blocks-none items = λ q list answers context meta count named told.
      record { orders = []; placed = []; made = put.none; is = sym (append-nil (module_item_lists items)) }

  -- one block more
  pub blocks-next : (blocks : List Block) (i : ℕ) (x : Block) (a b c : Module) → i < length blocks →
      x ≡ get_or blocks i x →
      InBundle bundle names (λ q list answers context d.
      AddsBlocks q list answers context d (take i blocks) a b) →
      InBundle bundle names (λ q list answers context d.
      AddsBlock q list answers context d x b c) →
      InBundle bundle names (λ q list answers context d.
      AddsBlocks q list answers context d (take (i + 1) blocks) a c)
  blocks-next blocks i x a b c within is one two = λ q list answers context meta count named told.
      let d = decided_of bundle meta count in
      let first = one q list answers context meta count named told in
      let last = two q list answers context meta count named told in
      let same : take (i + 1) blocks ≡ take i blocks ++ x ∷ [] =
      ap (λ n. take n blocks) (let e : i + 1 ≡ suc i = omega arith in e)
      ∙ (take-suc blocks i x within ∙ ap (λ y. take i blocks ++ y ∷ []) (sym is)) in
      record {
        orders = first.orders ++ last.order ∷ [];
        placed = first.placed ++ last.placed;
        made = subst (λ l. AreBlocksMade q any_hooks list context answers d l (first.orders ++ last.order ∷ []) (first.placed ++ last.placed))
            (sym (ap (map block_of) same ∙ map-append block_of (take i blocks) (x ∷ [])))
            (blocks-more q list answers context d first.made last.made);
        is = last.is
            ∙ (ap (λ l. l ++ last.placed) first.is
            ∙ append_assoc (module_item_lists a) first.placed last.placed);
      }

  -- all blocks
  pub blocks-all : (blocks : List Block) (i : ℕ) (a b : Module) → length blocks ≤ i →
      InBundle bundle names (λ q list answers context d.
      AddsBlocks q list answers context d (take i blocks) a b) →
      InBundle bundle names (λ q list answers context d.
      AddsBlocks q list answers context d blocks a b)
  blocks-all blocks i a b past =
      subst (λ l. InBundle bundle names (λ q list answers context d.
      AddsBlocks q list answers context d l a b)) (take_all i blocks past)

  -- ---- plans
  pub plan-on : (first second : Decided → List Cause) (a b c : Module) →
      AddsPlan bundle names first a b → AddsPlan bundle names second b c →
      AddsPlan bundle names (λ d. first d ++ second d) a c
  plan-on first second a b c one two = λ q list answers context meta count named told.
      let d = decided_of bundle meta count in
      adds-on q list answers context (first d) (second d) a b c
      (one q list answers context meta count named told)
      (two q list answers context meta count named told)

  -- nothing is added for an empty plan
  pub plan-none : (plan : Decided → List Cause) (items : Module) →
      InBundle bundle names (λ q list answers context d. plan d ≡ []) →
      AddsPlan bundle names plan items items
  plan-none plan items none = λ q list answers context meta count named told.
      subst (λ l. AddsItems q list answers context l items items)
      (sym (none q list answers context meta count named told))
      (adds-none q list answers context items)

  -- what is made for a plan
  pub plan-made : (plan : Decided → List Cause) (made : List (List Item)) (a b : Module) →
      InBundle bundle names (λ q list answers context d.
      AllZip (IsMade q any_hooks list context answers) (plan d) made) →
      module_item_lists b ≡ module_item_lists a ++ made →
      AddsPlan bundle names plan a b
  plan-made plan made a b each is = λ q list answers context meta count named told.
      record { made = made; each = each q list answers context meta count named told; is = is }

  -- the items of a bundle: what stands in front, the blocks, and what stands behind
  pub all-made : (start a b c : Module) → module_item_lists start ≡ [] →
      AddsPlan bundle names (λ d. front_plan d) start a →
      InBundle bundle names (λ q list answers context d.
      AddsBlocks q list answers context d bundle.blocks.now a b) →
      AddsPlan bundle names (λ d. back_plan d) b c →
      InBundle bundle names (λ q list answers context d. AreItemsMade q list answers context d c)
  all-made start a b c empty front blocks back = λ q list answers context meta count named told.
      let one = front q list answers context meta count named told in
      let two = blocks q list answers context meta count named told in
      let three = back q list answers context meta count named told in
      record {
        orders = two.orders;
        made = record {
          front = one.made;
          middle = two.placed;
          back = three.made;
          is = three.is
              ∙ (ap (λ l. l ++ three.made) two.is
              ∙ (ap (λ l. l ++ two.placed ++ three.made) (one.is ∙ ap (λ l. l ++ one.made) empty)
              ∙ append_assoc one.made two.placed three.made));
          in_front = one.each;
          in_blocks = two.made;
          behind = three.each;
        };
      }

-- ---- planned

-- what is made of one element each
pub single-mapped : {A B C : Type 0} (f : B → C) (g : A → B) (xs : List A) →
    flat_map (λ x. f (g x) ∷ []) xs ≡ map f (map g xs)
single-mapped f g [] = refl
single-mapped f g (x ∷ xs) = ap (λ l. f (g x) ∷ l) (single-mapped f g xs)

module _ (bundle : BundleInput) (names : BundleNames) where
  -- whether an object is meant is decided so
  pub object-decided : (m : ℕ) (answer : Bool) →
      ((p : Program) → IsLinkingOf p bundle.linking.now → AreModules p → TellsMeant p m answer) →
      InBundle bundle names (λ q list answers context d. answer ≡ d.is_object_meant m)
  object-decided m answer tells = λ q list answers context meta count named told.
      lifting.object-told q list answers context bundle names named m answer
      (tells q named.parts.linking named.parts.modules) meta count

  -- the object of a module, if it is meant
  pub object-made : (m : ℕ) (made : List Item) → IsObject bundle.linking.now names m made →
      InBundle bundle names (λ q list answers context d. d.is_object_meant m ≡ true →
      AllZip (IsMade q any_hooks list context answers) (object_plan d m) (made ∷ []))
  object-made m made its = λ q list answers context meta count named told meant.
      subst (λ b. AllZip (IsMade q any_hooks list context answers) (one_if b (HoldsNamespace m)) (made ∷ []))
      (sym meant) (
        lifting.object-adds q list answers context bundle names named m
            (lifting.object-meant q list answers context bundle names named m meta count meant) made its,
        tt,
      )

  -- the imports of the externals that linking hands out
  pub externals-made : (found : List External) →
      ((p : Program) (list : List ℕ) → HandsOver p list bundle.linking.now →
      AreExternalsOf p list found) →
      InBundle bundle names (λ q list answers context d.
      AllZip (IsMade q any_hooks list context answers) (flat_map external_plan d.externals)
      (flat_map (import_declarations_of names) found))
  externals-made found tells = λ q list answers context meta count named told.
      lifting.externals-adds q list answers context bundle names named found
      (tells q list named.parts.handed) meta count

  -- whether some module is CommonJS is decided so
  pub helper-decided : (answer : Bool) →
      ((p : Program) → IsLinkingOf p bundle.linking.now →
      (IsTrue answer ↔ ((m : ℕ) × (m < length bundle.parts.now) × IsCommonJs p m))) →
      InBundle bundle names (λ q list answers context d. answer ≡ list_any d.is_common_js d.list)
  helper-decided answer tells = λ q list answers context meta count named told.
      lifting.helps-told q list answers context bundle names named answer
      (tells q named.parts.linking) meta count

  -- the helper, if one is
  pub helper-made : (answer : Bool) →
      ((p : Program) → IsLinkingOf p bundle.linking.now →
      (IsTrue answer ↔ ((m : ℕ) × (m < length bundle.parts.now) × IsCommonJs p m))) →
      answer ≡ true →
      InBundle bundle names (λ q list answers context d.
      AllZip (IsMade q any_hooks list context answers)
      (one_if (list_any d.is_common_js d.list) Helps) (helper_of names ∷ []))
  helper-made answer tells is = λ q list answers context meta count named told.
      let d = decided_of bundle meta count in
      subst (λ (b : Bool). AllZip (IsMade q any_hooks list context answers)
      (one_if (list_any d.is_common_js d.list) Helps) (if b then helper_of names ∷ [] else []))
      is
      (lifting.helps-adds q list answers context bundle names named meta count answer
      (helper-decided answer tells q list answers context meta count named told))

  -- the stars of the externals that linking hands out
  pub stars-made : (found : List (Bor Text)) →
      ((p : Program) (list : List ℕ) → HandsOver p list bundle.linking.now →
      PicksThose (HasExternalStar p p.entry) (externals p list) (map (λ star. star.now) found)) →
      InBundle bundle names (λ q list answers context d.
      AllZip (IsMade q any_hooks list context answers) (map Stars d.stars)
      (flat_map (λ star. export_star star.now ∷ []) found))
  stars-made found tells = λ q list answers context meta count named told.
      let d = decided_of bundle meta count in
      subst (λ l. AllZip (IsMade q any_hooks list context answers) (map Stars d.stars) l)
      (sym (single-mapped export_star (λ star. star.now) found))
      (lifting.stars-adds q list answers context bundle names named found
      (tells q list named.parts.handed) meta count)

  -- what the entry exports
  pub exports-made : (made : List (List Item)) →
      AreExports bundle.linking.now names (length bundle.parts.now) made →
      InBundle bundle names (λ q list answers context d.
      AllZip (IsMade q any_hooks list context answers) (one_if d.exports Exports) made)
  exports-made made are = λ q list answers context meta count named told.
      lifting.exports-adds q list answers context bundle names named made are meta count

-- ---- sorting

-- an order in which each of so many numbers stands once
pub arrangement : (order : List ℕ) (count : ℕ) → ((n : ℕ) → (n < count) ↔ Contains order n) →
    IsDistinct nat_eq order → IsArrangement order count
arrangement order count all once = record {
  within = λ k l. (all (get_or order k 0)).1 (Contains-get_or order k 0 l);
  all = λ n l. (all n).0 l;
  once = λ i j l k e.
      false≢true (sym (apart_from_distinct nat_eq order i j 0 once l k) ∙ eq-eqb (get_or order i 0) (get_or order j 0) e);
}

-- what is arranged is picked by the order
pub arranged-picked : {A B : Type 0} (f : A → B) (order : List ℕ) (old new : List A) →
    AreArranged order old new → map f new ≡ filter_map (slice_get (map f old)) order
arranged-picked f [] old [] each = refl
arranged-picked f [] old (x ∷ new) each = absurd each
arranged-picked f (n ∷ order) old [] each = absurd each
arranged-picked {B = B} f (n ∷ order) old (x ∷ new) each =
    ap (λ (l : List B). f x ∷ l) (arranged-picked f order old new each.1)
    ∙ ap (λ (o : Option B). cons_option o (filter_map (slice_get (map f old)) order))
    (sym (slice_get-map f old n ∙ ap (λ (o : Option _). option_map f o) each.0))

group-length : (items : List ModuleItem) (owners : List (Option ℕ)) →
    length (group_of_items (flat (map (module_item_items 0) items)) owners).items ≡ length items
group-length items owners =
    length-map (top_items (tree_of_items (flat (map (module_item_items 0) items)))) _
    ∙ (length-placed 1 (parts (tree_of_items (flat (map (module_item_items 0) items))))
    ∙ (ap length (whole items) ∙ length-map items (module_item_items 0)))

-- items that are put into a good order
pub sorted-placed : (items lent new : List ModuleItem) (owners : List (Option ℕ))
    (order found : List ℕ) → lent ≡ items → found ≡ order →
    (length owners ≡ length lent → AreTogether owners →
    IsGoodOrder (group_of_items (flat (map (module_item_items 0) lent)) owners) order) →
    (IsArrangement found (length items) → AreArranged found items new) →
    length owners ≡ length items → AreTogether owners →
    IsBlockPlaced true (map (module_item_items 0) items) owners (map (module_item_items 0) new)
sorted-placed items lent new owners order found same so good arranged long together =
    record {
      order = order;
      good = λ is. by;
      sorted = λ is.
          arranged-picked (module_item_items 0) order items new
          (subst (λ l. AreArranged l items new) so
          (arranged (subst (λ l. IsArrangement l (length items)) (sym so)
          (arrangement order (length items) all by.order_of.once))));
      unsorted = λ is. absurd (true≢false is);
    }
  where
    by : IsGoodOrder (group_of_items (flat (map (module_item_items 0) items)) owners) order
    by = subst (λ l. IsGoodOrder (group_of_items (flat (map (module_item_items 0) l)) owners) order)
        same (good (long ∙ ap length (sym same)) together)

    all : (n : ℕ) → (n < length items) ↔ Contains order n
    all n = subst (λ k. (n < k) ↔ Contains order n) (group-length items owners) (by.order_of.all n)
