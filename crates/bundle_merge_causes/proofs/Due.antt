-- What linking decides of modules by their places is due in post-order of requests, and nothing else is; and so it is by
-- the modules' own numbers, where each has a block of its own.
use Rattle.std.proofs.Common.{◌≡◌, ◌⊎◌, inl, inr, ℕ, zero, suc, ◌+◌, Bool, true, false, List, [], ◌∷◌, ◌++◌, Contains, length, map, refl, sym, ap, ◌∙◌, subst, append_assoc}
use Rattle.std.specs.Prelude.{flat_map}
use Rattle.std.proofs.lemmas.Bool.{false≢true}
use Rattle.bundle_syntax.specs.Item as h
use Rattle.bundle_syntax.specs.Item.{Item}
use Rattle.bundle_rules.specs.Bundle.{AsCall, AsModule, Cause, Chosen, Exports, Form, Helps, HoldsNamespace, IsDue, IsLaidOut, Pairing, Stars, externals, import_causes, module_causes, nothing}
use Rattle.bundle_rules.specs.Declarations.{ByContext}
use Rattle.bundle_rules.specs.Headline.{IsAcyclic, causes_in_order}
use Rattle.bundle_rules.specs.Program.{Program, IsList, IsReached, Requests}
use Rattle.bundle_rules.proofs.PostOrder.{stands_in_post_order}
use Rattle.bundle_rules.proofs.StandardExamples.{chosen_one}
use Rattle.bundle_order_graph.specs.Modules.{Modules}
use Rattle.bundle_order_graph.specs.Walks.{Reaches, along, itself}
use Rattle.bundle_order_graph.proofs.WalkLemmas.{Reaches-trans}
use Rattle.bundle_order_sort.specs.Plan.{IsPlanAsked}
use Rattle.bundle_order_sort.specs.declared.plan.Block.{Block}
use Rattle.bundle_order_sort.specs.declared.plan.Plan.{Plan}
use Rattle.bundle_link.specs.Alike.{IsModuleAt}
use Rattle.bundle_link_index.proofs.ProgramLemmas.{later, map_on}
use Rattle.bundle_link_targets.proofs.ListLemmas.{first-there as here}
use Rattle.bundle_link_targets.specs.declared.linking.Linking.{Linking}
use Rattle.bundle_merge_theory.specs.composed.Noted.{pairing_of}
use Rattle.bundle_merge_theory.specs.joined.Joined.{AllOf, joined_items}
use Rattle.bundle_merge_theory.specs.joined.Picked.{IsSingle}
use Rattle.bundle_merge_theory.specs.moved.Renumbered.{cause_at}
use Rattle.bundle_merge_theory.specs.planned.Blocks.{block_of}
use Rattle.bundle_merge_theory.specs.planned.Decided.{AreDecided, AreOrdered, Decided, DecidedBlock, back_plan, front_plan, index_of, numbers_from, placed_plan, plan_of}
use Rattle.bundle_merge_theory.specs.planned.Placed.{id_at}
use Rattle.bundle_merge_theory.specs.sound.Decided.{AreTablesLinked, decided_by}
use Rattle.bundle_merge_theory.specs.sound.Known.{IsByPlaces}
use Rattle.bundle_merge_theory.proofs.joined.Theorem.{top_items-joined}
use Rattle.bundle_merge_theory.proofs.moved.Due.{reach-by, reach-named}
use Rattle.bundle_merge_theory.proofs.moved.Layout.{laid-by}
use Rattle.bundle_merge_theory.proofs.moved.Moved.{places-renamed}
use Rattle.bundle_merge_theory.proofs.moved.Owed.{AreMoved, AreRenamed}
use Rattle.bundle_merge_theory.proofs.moved.Requested.{blocks-by, list-by, requests-back, requests-by}
use Rattle.bundle_merge_theory.proofs.planned.BundleLemmas.{for-call, laid-out}
use Rattle.bundle_merge_theory.proofs.planned.CauseLemmas.{Chosen-join, back_causes, front_causes}
use Rattle.bundle_merge_theory.proofs.planned.CountLemmas.{back-chosen, block-listed, front-chosen, module-chosen, object-chosen}
use Rattle.bundle_merge_theory.proofs.planned.OrderLemmas.{map_back}
use Rattle.bundle_merge_theory.proofs.planned.RequestLemmas.{list-reached}
use Rattle.bundle_merge_theory.proofs.sorted.Theorem.{length-placed}
use Rattle.bundle_merge_theory.proofs.sound.Decided.{decided}
use Rattle.bundle_merge_causes.specs.Planned.{Adds, decided_in, form_called, handed_plan, whole_plan}
use Rattle.bundle_merge_causes.specs.Shape.{count_in, meta_in}
use Rattle.bundle_merge_causes.specs.declared.shape.ModuleShape.{ModuleShape}
use Rattle.bundle_merge_causes.proofs.Alone.{acyclic-alone, alone-acyclic}

-- ---- by places

-- the modules in the order of their list
abbrev pub standard_plan : Decided → List Cause
standard_plan d = front_plan d ++ (flat_map (whole_plan d) d.list ++ back_plan d)

module _ (q : Program) (form : Form) (d : Decided) (its : AreDecided q form d) where
  wholes-chosen : (list : List ℕ) → ((m : ℕ) → Contains list m → Contains d.list m) →
      Chosen (IsDue q form) (flat_map (λ m. module_causes q m ++ HoldsNamespace m ∷ []) list)
      (flat_map (whole_plan d) list)
  wholes-chosen [] all = nothing
  wholes-chosen (m ∷ list) all =
      let there = all m (here m list) in
      let reached = (list-reached q d.list its.list m).0 there in
      Chosen-join
      (Chosen-join (module-chosen q form d m (its.modules m there) reached)
      (object-chosen q form d m (its.modules m there) reached))
      (wholes-chosen list (λ k c. all k (later m list k c)))

  -- just what is due is planned
  pub standard-chosen : Chosen (IsDue q form) (causes_in_order q d.list) (standard_plan d)
  standard-chosen =
      let imports : List Cause = flat_map import_causes (externals q d.list) in
      let bodies : List Cause =
      flat_map (λ m. module_causes q m ++ HoldsNamespace m ∷ []) d.list in
      let stars : List Cause = map Stars (externals q d.list) in
      let last : List Cause = Exports ∷ [] in
      let same : (imports ++ Helps ∷ []) ++ (bodies ++ (stars ++ last))
      ≡ imports ++ (Helps ∷ ((bodies ++ stars) ++ last)) =
      append_assoc imports (Helps ∷ []) (bodies ++ (stars ++ last))
      ∙ ap (λ (causes : List Cause). imports ++ (Helps ∷ causes))
      (sym (append_assoc bodies stars last)) in
      subst (λ causes. Chosen (IsDue q form) causes (standard_plan d)) same
      (Chosen-join (front-chosen q form d its)
      (Chosen-join (wholes-chosen d.list (λ m c. c)) (back-chosen q form d its)))

-- as a module, or as one function's call
pub called-chosen : (q : Program) (d : Decided) → AreDecided q AsModule d → (is_call : Bool) →
    Chosen (IsDue q (form_called is_call)) (causes_in_order q d.list)
    (front_plan d ++ (flat_map (whole_plan d) d.list ++ handed_plan is_call d))
called-chosen q d its true =
    standard-chosen q AsCall (record d { exports = true }) (for-call q AsModule d its)
called-chosen q d its false = standard-chosen q AsModule d its

-- what is added in turn is due
pub added-due : (linking : Linking) (shapes : List ModuleShape) (is_call : Bool) (q : Program)
    (blocks : List DecidedBlock) (one two three : List Cause) →
    AreTablesLinked q (length shapes) linking (meta_in shapes) (count_in shapes) →
    AreDecided q AsModule (decided_in linking shapes blocks) →
    Adds linking shapes (λ d. front_plan d) [] one →
    Adds linking shapes (λ d. flat_map (whole_plan d) (numbers_from zero (length shapes))) one two →
    Adds linking shapes (λ d. handed_plan is_call d) two three →
    Chosen (IsDue q (form_called is_call)) (causes_in_order q (numbers_from zero (length shapes)))
    three
added-due linking shapes is_call q blocks one two three w decided front modules back =
    let d = decided_in linking shapes [] in
    let bodies = flat_map (whole_plan d) (numbers_from zero (length shapes)) in
    let is : front_plan d ++ (bodies ++ handed_plan is_call d) ≡ three =
    sym
    (back q w
    ∙ ap (λ xs. xs ++ handed_plan is_call d)
    (modules q w ∙ ap (λ xs. xs ++ bodies) (front q w))
    ∙ append_assoc (front_plan d) bodies (handed_plan is_call d)) in
    subst
    (Chosen (IsDue q (form_called is_call)) (causes_in_order q (numbers_from zero (length shapes))))
    is (called-chosen q (decided_in linking shapes blocks) decided is_call)

-- ---- by numbers

-- no block is sorted
abbrev pub AreUnsorted : List DecidedBlock → Type 0
AreUnsorted blocks =
    (block : DecidedBlock) → Contains blocks block → block.is_sorted ≡ false

-- some statement
abbrev some_item : List Item
some_item = h.Open 0 h.EmptyStmt ∷ h.Close ∷ []

some-single : (causes : List Cause) → AllOf IsSingle (map (λ cause. some_item) causes)
some-single [] = tt
some-single (cause ∷ causes) = (λ rest. refl, some-single causes)

length-some : (causes : List Cause) → length (map (λ cause. some_item) causes) ≡ length causes
length-some [] = refl
length-some (cause ∷ causes) = ap suc (length-some causes)

module _ (q : Program) (form : Form) (d : Decided) (its : AreDecided q form d) (unsorted : AreUnsorted d.blocks) where
  abbrev orders : List (List ℕ)
  orders = map (λ (block : DecidedBlock). []) d.blocks

  abbrev plan : List Cause
  plan = plan_of d (map (λ (block : DecidedBlock). []) d.blocks)

  abbrev items : List (List Item)
  items = map (λ (cause : Cause). some_item) plan

  abbrev pairing : Pairing
  pairing = pairing_of [] items plan

  -- each block is of a module that does not request itself
  apart : q.settings.in_standard_order ≡ false → (block : List ℕ) →
      Contains (map (λ (block : DecidedBlock). block.modules) d.blocks) block →
      (m : ℕ) × (block ≡ m ∷ []) × (Requests q m m → ⊥)
  apart by_needs block there =
      let was = map_back (λ (block : DecidedBlock). block.modules) d.blocks block there in
      let alone = (its.kinds was.0 was.1).lone (unsorted was.0 was.1) in
      (alone.0, sym was.2 ∙ alone.1, alone.2 by_needs)

  pub either-way : IsAcyclic q ⊎ (q.settings.in_standard_order ≡ true)
  either-way = by q.settings.in_standard_order refl
    where
      by : (asked : Bool) → q.settings.in_standard_order ≡ asked →
          IsAcyclic q ⊎ (q.settings.in_standard_order ≡ true)
      by true e = inr e
      by false e =
          inl
          (alone-acyclic q d.list (λ m reached. (list-reached q d.list its.list m).1 reached)
          (map (λ (block : DecidedBlock). block.modules) d.blocks) its.blocks e (apart e))

  ordered : (blocks : List DecidedBlock) (first : ℕ) → AreUnsorted blocks →
      AreOrdered ByContext (joined_items items) pairing d first blocks
      (map (λ (block : DecidedBlock). []) blocks)
  ordered [] first all = tt
  ordered (block ∷ blocks) first all = (
    λ e. absurd (false≢true (sym (all block (here block blocks)) ∙ e)),
    ordered blocks (first + length (placed_plan d block []))
        (λ one c. all one (later block blocks one c)),
  )

  -- so some bundle would be laid out
  pub laid : IsLaidOut q form ByContext (joined_items items) pairing
  laid =
      laid-out q form ByContext (joined_items items) pairing d orders its
      (ap length (top_items-joined items (some-single plan))
      ∙ (length-placed 1 items ∙ length-some plan)) refl
      (ordered d.blocks (length (front_plan d)) unsorted)

module _ (p q : Program) (ids : List ℕ) (moved : AreMoved p q ids) where
  abbrev back : ℕ → ℕ
  back m = index_of m ids

  abbrev R : ℕ → ℕ → Type 0
  R k m = IsModuleAt ids m k

  renamed : AreRenamed q p (λ k m. IsModuleAt ids m k) (id_at ids) (λ m. index_of m ids)
  renamed = places-renamed p q ids moved

  module _ (form : Form) (d : Decided) (its : AreDecided q form d) where
    -- a module of a block has a number
    named : (block : DecidedBlock) → Contains d.blocks block → (m : ℕ) → Contains block.modules m →
        IsModuleAt ids (id_at ids m) m
    named block there m inside =
        reach-named q p R (id_at ids) back renamed m
        ((list-reached q d.list its.list m).0 (block-listed q form d its block there m inside))

    module _ (unsorted : AreUnsorted d.blocks) where
      -- each block is of a module that does not request itself
      apart-moved : p.settings.in_standard_order ≡ false → (block : List ℕ) →
          Contains (map (map (id_at ids)) (map (λ (block : DecidedBlock). block.modules) d.blocks)) block →
          (m : ℕ) × (block ≡ m ∷ []) × (Requests p m m → ⊥)
      apart-moved by_needs block there =
          let was =
          map_back (map (id_at ids)) (map (λ (block : DecidedBlock). block.modules) d.blocks) block
          there in
          let of =
          map_back (λ (block : DecidedBlock). block.modules) d.blocks was.0 was.1 in
          let alone = (its.kinds of.0 of.1).lone (unsorted of.0 of.1) in
          let has =
          named of.0 of.1 alone.0
          (subst (λ l. Contains l alone.0) (sym alone.1) (here alone.0 [])) in (
            id_at ids alone.0,
            sym was.2 ∙ ap (map (id_at ids)) (sym of.2 ∙ alone.1),
            λ asks. alone.2 (renamed.alike.in_standard_order ∙ by_needs)
                (requests-back q p R (id_at ids) back renamed alone.0 alone.0 has has asks),
          )

      pub either-moved : IsAcyclic p ⊎ (p.settings.in_standard_order ≡ true)
      either-moved = by p.settings.in_standard_order refl
        where
          by : (asked : Bool) → p.settings.in_standard_order ≡ asked →
              IsAcyclic p ⊎ (p.settings.in_standard_order ≡ true)
          by true e = inr e
          by false e =
              let listed = list-by q p R (id_at ids) back renamed d.list its.list in
              inl
              (alone-acyclic p (map (id_at ids) d.list)
              (λ m reached. (list-reached p (map (id_at ids) d.list) listed m).1 reached)
              (map (map (id_at ids)) (map (λ (block : DecidedBlock). block.modules) d.blocks))
              (blocks-by q p R (id_at ids) back renamed d.list
              (map (λ (block : DecidedBlock). block.modules) d.blocks) its.list its.blocks) e
              (apart-moved e))

      -- what is due by places is due by numbers
      pub chosen-moved : (list : List ℕ) → IsList p list → (causes : List Cause) →
          Chosen (IsDue q form) (causes_in_order q d.list) causes →
          Chosen (IsDue p form) (causes_in_order p list) (map (cause_at ids) causes)
      chosen-moved list is_list causes due =
          let plan_q = plan_of d (map (λ (block : DecidedBlock). []) d.blocks) in
          let made = map (λ (cause : Cause). some_item) plan_q in
          let laid_q = laid q form d its unsorted in
          let same : plan_q ≡ causes =
          chosen_one (IsDue q form)
          (stands_in_post_order q form ByContext (joined_items made) (pairing_of [] made plan_q)
          d.list (either-way q form d its unsorted) its.list laid_q) due in
          let laid_p =
          laid-by q p R (id_at ids) back renamed form ByContext (joined_items made) plan_q [] [] made
          laid_q in
          subst (λ l. Chosen (IsDue p form) (causes_in_order p list) (map (cause_at ids) l)) same
          (stands_in_post_order p form ByContext (joined_items made)
          (pairing_of [] made (map (cause_at ids) plan_q)) list either-moved is_list laid_p)

  -- ---- a cycle
  path-moved : {a b : ℕ} → Reaches (Requests q) a b → IsReached q a →
      Reaches (Requests p) (id_at ids a) (id_at ids b)
  path-moved itself r = itself
  path-moved (along {a = a} {b = next} edge rest) r =
      along
      (requests-by q p R (id_at ids) back renamed a next
      (reach-named q p R (id_at ids) back renamed a r) edge)
      (path-moved rest (Reaches-trans r (along edge itself)))

  acyclic-moved : IsAcyclic p → IsAcyclic q
  acyclic-moved acyclic m n reached edge again =
      acyclic (id_at ids m) (id_at ids n) (reach-by q p R (id_at ids) back renamed m reached)
      (requests-by q p R (id_at ids) back renamed m n
      (reach-named q p R (id_at ids) back renamed m reached) edge)
      (path-moved again (Reaches-trans reached (along edge itself)))

  -- where a block is sorted, modules are in a cycle, and the standard's order is not asked for
  pub sorted-cyclic : (form : Form) (d : Decided) → AreDecided q form d → (block : DecidedBlock) →
      Contains d.blocks block → block.is_sorted ≡ true →
      (p.settings.in_standard_order ≡ false) × (IsAcyclic p → ⊥)
  sorted-cyclic form d its block there sorted =
      let kind = (its.kinds block there).sorted sorted in (
        sym renamed.alike.in_standard_order ∙ kind.0,
        λ acyclic.
            let alone =
            acyclic-alone q (acyclic-moved acyclic) d.list its.list
            (map (λ (block : DecidedBlock). block.modules) d.blocks) its.blocks block.modules
            (map_on (λ (block : DecidedBlock). block.modules) d.blocks block there) in
            acyclic-moved acyclic alone.0 alone.0 alone.2 (kind.1 alone.0 alone.1) itself,
      )

-- what a plan that was asked for decides
module _ (p q : Program) (ids : List ℕ) (g : Modules) (places : IsByPlaces p q ids g) (moved : AreMoved p q ids) (linking : Linking) (meta : ℕ → Bool) (count : ℕ → ℕ) (w : AreTablesLinked q (length ids) linking meta count) (plan : Plan) (planned : IsPlanAsked p.settings.in_standard_order g p.entry ids plan) where
  abbrev d : Decided
  d = decided_by linking meta count (length ids) (map block_of plan.blocks.items)

  its : AreDecided q AsModule
      (decided_by linking meta count (length ids) (map block_of plan.blocks.items))
  its = decided p q ids g places linking meta count w plan planned

  -- no block is sorted: so what is due by places is due by numbers
  module _ (unsorted : (block : Block) → Contains plan.blocks.items block → block.is_cycle ≡ false) where
    none-sorted : AreUnsorted (map block_of plan.blocks.items)
    none-sorted block there =
        let was = map_back block_of plan.blocks.items block there in
        ap (λ (block : DecidedBlock). block.is_sorted) (sym was.2) ∙ unsorted was.0 was.1

    pub planned-either : IsAcyclic p ⊎ (p.settings.in_standard_order ≡ true)
    planned-either = either-moved p q ids moved AsModule d its none-sorted

    pub planned-chosen : (is_call : Bool) (causes : List Cause) →
        Chosen (IsDue q (form_called is_call))
        (causes_in_order q (numbers_from zero (length ids))) causes →
        Chosen (IsDue p (form_called is_call)) (causes_in_order p ids) (map (cause_at ids) causes)
    planned-chosen true causes due =
        chosen-moved p q ids moved AsCall (record d { exports = true }) (for-call q AsModule d its)
        none-sorted ids places.is_list causes due
    planned-chosen false causes due =
        chosen-moved p q ids moved AsModule d its none-sorted ids places.is_list causes due

  -- a block is sorted
  pub planned-cyclic : (block : Block) → Contains plan.blocks.items block → block.is_cycle ≡ true →
      (p.settings.in_standard_order ≡ false) × (IsAcyclic p → ⊥)
  planned-cyclic block there sorted =
      sorted-cyclic p q ids moved AsModule d its (block_of block)
      (map_on block_of plan.blocks.items block there) sorted
