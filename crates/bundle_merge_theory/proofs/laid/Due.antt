-- Each cause of the plan is due, and the items of a bundle are made for the causes of the plan.
-- The items of blocks stand in the orders that were found, which are good for them where they stand.
use Rattle.std.proofs.Common.{◌≡◌, inl, inr, ℕ, Bool, true, false, List, [], ◌∷◌, ◌++◌, Option, Contains, map, refl, sym, subst, if◌then◌else◌, ◌↔◌, zero, ◌+◌, ◌<◌, append_assoc, append-nil, length-append, Some, length, ap, ◌∙◌, arith}
use Rattle.std.specs.Prelude.{slice_get, filter_map}
use Rattle.std.specs.List.{AllZip}
use Rattle.std.proofs.lemmas.List.Elements.{Contains-append_cases}
use Rattle.bundle_syntax.specs.Item.{Item}
use Rattle.bundle_order_sort.proofs.OnceLemmas.{InSome}
use Rattle.bundle_order_sort.proofs.BlockLemmas.{blocks-in}
use Rattle.bundle_rules.specs.Program.{Program, IsReached, SharesBlock}
use Rattle.bundle_rules.specs.Bundle.{Cause, Form, Hooks, IsDue, AsModule, IsLaidOut, owner_of}
use Rattle.bundle_rules.specs.Scopes.{Top}
use Rattle.bundle_rules.specs.Declarations.{ByContext}
use Rattle.bundle_rules.specs.Statements.{top_items, placed as tops_placed}
use Rattle.bundle_rules.specs.Sorting.{flat, group_of_items}
use Rattle.bundle_rules.specs.Meaning.{Labelling}
use Rattle.bundle_link_index.proofs.SearchLemmas.{each_place as got}
use Rattle.bundle_scope_names.proofs.Told.{zip-length}
use Rattle.bundle_link_index.proofs.ProgramLemmas.{later, first_or_later, filter_map_back as some_back}
use Rattle.bundle_link_targets.proofs.ListLemmas.{first-there as here}
use Rattle.bundle_merge_theory.specs.joined.Joined.{AllOf, IsWholeItem, joined_items}
use Rattle.bundle_merge_theory.specs.joined.Picked.{BindsOwnNames, IsSingle}
use Rattle.bundle_merge_theory.proofs.joined.Declarations.{IsNamed}
use Rattle.bundle_merge_theory.proofs.joined.Theorem.{top_items-joined}
use Rattle.bundle_merge_theory.specs.planned.Decided.{Decided, DecidedBlock, IsModuleDecided, AreDecided, block_plan, front_plan, back_plan, arranged, placed_plan, blocks_plan, plan_of, merged_blocks, numbers_from, block_order, blocks_order, whole_order}
use Rattle.bundle_merge_theory.proofs.planned.OrderLemmas.{contains-get, no_element, ReadBy, length-mapped, shares-flip, shares-join, read-join, read-part, read-moved}
use Rattle.bundle_merge_theory.proofs.planned.RequestLemmas.{list-reached}
use Rattle.bundle_merge_theory.proofs.planned.CauseLemmas.{Chosen-in, laid-due, laid-once}
use Rattle.bundle_merge_theory.proofs.planned.CountLemmas.{back-chosen, block-chosen, front-chosen}
use Rattle.bundle_merge_theory.specs.made.Given.{HookAnswer, BundleContexts}
use Rattle.bundle_merge_theory.specs.made.Made.{IsMade, IsBlockMade, AreBlocksMade, none, more, AreMade}
use Rattle.bundle_merge_theory.proofs.laid.Ready.{zip-join, zip-picked, all-second, all-to, picked-reads, part-at, IsReadyItem, binds-ready, no-object}
use Rattle.bundle_merge_theory.specs.composed.Noted.{pairing_of}
use Rattle.bundle_merge_theory.specs.planned.Sorted.{AreBlocksGood, IsBlockGood, IsItem}
use Rattle.bundle_merge_theory.proofs.planned.Theorem.{ordered-from}
use Rattle.bundle_merge_theory.proofs.planned.BundleLemmas.{laid-out}
use Rattle.bundle_merge_theory.proofs.sorted.Theorem.{block-good, length-placed as length-tops}

-- ---- what is due
module _ (p : Program) (form : Form) (d : Decided) (its : AreDecided p form d) where
  abbrev members : DecidedBlock → List ℕ
  members block = block.modules

  block-has : (blocks : List DecidedBlock) (block : DecidedBlock) → Contains blocks block →
      (m : ℕ) →
      Contains block.modules m → InSome (map members blocks) m
  block-has [] block c m e = absurd (no_element c)
  block-has (first ∷ blocks) block c m e = elim (first_or_later first blocks block c) [
    | inl k ↦ inl (subst (λ (b : DecidedBlock). Contains b.modules m) (sym k) e)
    | inr k ↦ inr (block-has blocks block k m e)
  ]

  block-decides : (block : DecidedBlock) → Contains d.blocks block → (m : ℕ) →
      Contains block.modules m →
      IsModuleDecided p d m × IsReached p m
  block-decides block c m e =
      let listed =
      (blocks-in (SharesBlock p) (shares-flip p) (shares-join p) d.list d.list
      (map members d.blocks) its.blocks m (block-has d.blocks block c m e)).2 in
      (its.modules m listed, (list-reached p d.list its.list m).0 listed)

  -- the causes of a block
  pub block-due : (block : DecidedBlock) → Contains d.blocks block → (c : Cause) →
      Contains (block_plan d block.modules) c → IsDue p form c
  block-due block there c in_it =
      (Chosen-in (block-chosen p form d block.modules (block-decides block there)) c in_it).1

  placed-in : (block : DecidedBlock) (order : List ℕ) (c : Cause) →
      Contains (placed_plan d block order) c → Contains (block_plan d block.modules) c
  placed-in block order c in_it = by block.is_sorted in_it
    where
      by : (t : Bool) →
          Contains
          (if t then arranged (block_plan d block.modules) order else block_plan d
          block.modules) c →
          Contains (block_plan d block.modules) c
      by true k =
          let back = some_back (slice_get (block_plan d block.modules)) order c k in
          contains-get (block_plan d block.modules) back.0 c back.2
      by false k = k

  blocks-due : (blocks : List DecidedBlock) (orders : List (List ℕ)) →
      ((block : DecidedBlock) → Contains blocks block → Contains d.blocks block) → (c : Cause) →
      Contains (blocks_plan d blocks orders) c → IsDue p form c
  blocks-due [] orders all c k = absurd (no_element k)
  blocks-due (block ∷ blocks) [] all c k = absurd (no_element k)
  blocks-due (block ∷ blocks) (order ∷ orders) all c k =
      elim (Contains-append_cases (placed_plan d block order) (blocks_plan d blocks orders) c k) [
        | inl one ↦ block-due block (all block (here block blocks)) c (placed-in block order c one)
        | inr rest ↦ blocks-due blocks orders (λ b there. all b (later block blocks b there)) c rest
      ]

  -- each cause of the plan is due
  pub plan-due : (orders : List (List ℕ)) (c : Cause) → Contains (plan_of d orders) c →
      IsDue p form c
  plan-due orders c k =
      elim (Contains-append_cases (front_plan d) (blocks_plan d d.blocks orders ++ back_plan d) c k) [
        | inl one ↦ (Chosen-in (front-chosen p form d its) c one).1
        | inr rest ↦ elim (Contains-append_cases (blocks_plan d d.blocks orders) (back_plan d) c rest) [
          | inl one ↦ blocks-due d.blocks orders (λ b there. there) c one
          | inr last ↦ (Chosen-in (back-chosen p form d its) c last).1
        ]
      ]

-- ---- what is made
module _ (p : Program) (hooks : Hooks) (list : List ℕ) (context : BundleContexts)
    (answers : ℕ → Option HookAnswer) (d : Decided) where
  pub block-made : (block : DecidedBlock) (order : List ℕ) (placed : List (List Item)) →
      IsBlockMade p hooks list context answers d block order placed →
      AllZip (IsMade p hooks list context answers) (placed_plan d block order) placed
  block-made block order placed its = by block.is_sorted refl
    where
      by : (t : Bool) → block.is_sorted ≡ t →
          AllZip (IsMade p hooks list context answers)
          (if t then arranged (block_plan d block.modules) order else block_plan d block.modules)
          placed
      by true e =
          subst
          (AllZip (IsMade p hooks list context answers)
          (arranged (block_plan d block.modules) order)) (sym (its.sorted e))
          (zip-picked (IsMade p hooks list context answers) (block_plan d block.modules) its.before
          its.each order)
      by false e =
          subst (AllZip (IsMade p hooks list context answers) (block_plan d block.modules))
          (sym (its.unsorted e)) its.each

  pub blocks-made : {blocks : List DecidedBlock} {orders : List (List ℕ)}
      {middle : List (List Item)} →
      AreBlocksMade p hooks list context answers d blocks orders middle →
      AllZip (IsMade p hooks list context answers) (blocks_plan d blocks orders) middle
  blocks-made none = tt
  blocks-made (more {block} {blocks} {order} {orders} {placed} {rest} its others) =
      zip-join (IsMade p hooks list context answers) (placed_plan d block order)
      (blocks_plan d blocks orders) placed rest
      (block-made block order placed its) (blocks-made others)

  -- the items are made for the causes of the plan, in turn
  pub items-made : (orders : List (List ℕ)) (items : List (List Item)) →
      AreMade p hooks list context answers d orders items →
      AllZip (IsMade p hooks list context answers) (plan_of d orders) items
  items-made orders items made =
      subst (AllZip (IsMade p hooks list context answers) (plan_of d orders)) (sym made.is)
      (zip-join (IsMade p hooks list context answers) (front_plan d)
      (blocks_plan d d.blocks orders ++ back_plan d) made.front (made.middle ++ made.back)
      made.in_front
      (zip-join (IsMade p hooks list context answers) (blocks_plan d d.blocks orders) (back_plan d)
      made.middle made.back (blocks-made made.in_blocks) made.behind))

-- ---- placed

-- a group of these items has as many
group-length : (items : List (List Item)) → AllOf IsSingle items → (owners : List (Option ℕ)) →
    length (group_of_items (flat items) owners).items ≡ length items
group-length items single owners =
    length-mapped _ (top_items (joined_items items))
    ∙ (ap length (top_items-joined items single) ∙ length-tops 1 items)

-- the items of a whole are its top items
tops-read : (merged : List (List Item)) (order : List ℕ) (items : List (List Item)) (n : ℕ) →
    AllZip (ReadBy merged) order items → AllZip (IsItem merged) order (tops_placed n items)
tops-read merged [] [] n all = tt
tops-read merged [] (item ∷ items) n all = absurd all
tops-read merged (k ∷ order) [] n all = absurd all
tops-read merged (k ∷ order) (item ∷ items) n all =
    (all.0, tops-read merged order items (n + length item) all.1)

-- ---- blocks
module _ (p : Program) (hooks : Hooks) (list : List ℕ) (context : BundleContexts)
    (answers : ℕ → Option HookAnswer) (d : Decided) where
  -- the items of blocks before any is sorted
  pub befores : {blocks : List DecidedBlock} {orders : List (List ℕ)} {middle : List (List Item)} →
      AreBlocksMade p hooks list context answers d blocks orders middle → List (List Item)
  befores none = []
  befores (more its others) = its.before ++ befores others

  befores-long : {blocks : List DecidedBlock} {orders : List (List ℕ)} {middle : List (List Item)} →
      (made : AreBlocksMade p hooks list context answers d blocks orders middle) →
      length (befores made) ≡ length (merged_blocks d blocks)
  unfolding befores
  befores-long none = refl
  befores-long (more {block} {blocks} {order} {orders} {placed} {rest} its others) =
      let own =
      zip-length (IsMade p hooks list context answers) (block_plan d block.modules) its.before
      its.each in
      let ih = befores-long others in
      let one = length-append its.before (befores others) in
      let two = length-append (block_plan d block.modules) (merged_blocks d blocks) in
      omega (arith, own, ih, one, two)

  -- the items of each block are ready
  abbrev pub AreReady : List DecidedBlock → Type 0
  AreReady blocks =
      (block : DecidedBlock) → Contains blocks block → (before : List (List Item)) →
      AllZip (IsMade p hooks list context answers) (block_plan d block.modules) before →
      AllOf IsReadyItem before

  module _ (merged : List (List Item)) where
    -- the numbers of a block's items lead to them, in their order
    block-read : (before after : List (List Item)) (block : DecidedBlock) (order : List ℕ)
        (placed : List (List Item))
        (its : IsBlockMade p hooks list context answers d block order placed) →
        AllOf IsReadyItem its.before → merged ≡ before ++ (its.before ++ after) →
        AllZip (ReadBy merged) (block_order d (length before) block order) placed
    block-read before after block order placed its ready is = by block.is_sorted refl
      where
        own : length (block_plan d block.modules) ≡ length its.before
        own =
            zip-length (IsMade p hooks list context answers) (block_plan d block.modules) its.before
            its.each

        within : block.is_sorted ≡ true → (n : ℕ) → Contains order n → n < length its.before
        within e n c =
            let counts =
            group-length its.before
            (all-to IsReadyItem IsSingle its.before ready (λ item one. one.single))
            (map owner_of (block_plan d block.modules)) in
            subst (λ k. n < k) counts (((its.good e).order_of.all n).1 c)

        by : (t : Bool) → block.is_sorted ≡ t →
            AllZip (ReadBy merged)
            (if t then map (λ n. length before + n) order else numbers_from (length before)
            (length (block_plan d block.modules))) placed
        by true e =
            subst (AllZip (ReadBy merged) (map (λ n. length before + n) order)) (sym (its.sorted e))
            (read-moved merged (length before) its.before order
            (filter_map (slice_get its.before) order)
            (part-at merged before its.before after is) (picked-reads its.before order (within e)))
        by false e =
            subst (λ k. AllZip (ReadBy merged) (numbers_from (length before) k) placed) (sym own)
            (subst (AllZip (ReadBy merged) (numbers_from (length before) (length its.before)))
            (sym (its.unsorted e))
            (read-part merged (length before) its.before
            (part-at merged before its.before after is)))

    blocks-read : {blocks : List DecidedBlock} {orders : List (List ℕ)} {middle : List (List Item)}
        (made : AreBlocksMade p hooks list context answers d blocks orders middle) →
        AreReady blocks →
        (before after : List (List Item)) → merged ≡ before ++ (befores made ++ after) →
        AllZip (ReadBy merged) (blocks_order d (length before) blocks orders) middle
    unfolding befores
    blocks-read none ready before after is = tt
    blocks-read (more {block} {blocks} {order} {orders} {placed} {rest} its others) ready before
        after is =
        let mine = ready block (here block blocks) its.before its.each in
        let apart =
        is
        ∙ ap (λ (l : List (List Item)). before ++ l)
        (append_assoc its.before (befores others) after) in
        let own =
        zip-length (IsMade p hooks list context answers) (block_plan d block.modules) its.before
        its.each in
        let further : length (before ++ its.before) ≡ length before + length
        (block_plan d block.modules) =
        (let both = length-append before its.before in omega (arith, both, own)) in
        read-join merged (block_order d (length before) block order)
        (blocks_order d (length before + length (block_plan d block.modules)) blocks orders) placed
        rest
        (block-read before (befores others ++ after) block order placed its mine apart)
        (subst (λ n. AllZip (ReadBy merged) (blocks_order d n blocks orders) rest) further
        (blocks-read others (λ b c. ready b (later block blocks b c)) (before ++ its.before) after
        (apart ∙ sym (append_assoc before its.before (befores others ++ after)))))

    -- the orders are good for the items wherever they stand
    module _ (items : List (List Item)) (all_ready : AllOf IsReadyItem items) where
      block-sorted : (before after : List (List Item)) (block : DecidedBlock) (order : List ℕ)
          (placed : List (List Item))
          (its : IsBlockMade p hooks list context answers d block order placed) →
          AllOf IsReadyItem its.before → merged ≡ before ++ (its.before ++ after) →
          block.is_sorted ≡ true →
          IsBlockGood ByContext (joined_items items) Top (top_items (joined_items items)) merged (length before)
          (block_plan d block.modules) order
      block-sorted before after block order placed its ready is e =
          block-good merged items its.before (length before) (block_plan d block.modules) order
          (record {
            long = sym own;
            same = λ n item l at.
                let mine = got its.before n (omega (arith, l, own)) in
                mine.1 ∙ (sym (part-at merged before its.before after is n mine.0 mine.1) ∙ at);
          })
          (all-to IsReadyItem IsSingle its.before ready (λ item one. one.single))
          (all-to IsReadyItem IsWholeItem its.before ready (λ item one. one.whole))
          (all-to IsReadyItem IsNamed its.before ready (λ item one. one.named))
          (all-to IsReadyItem (BindsOwnNames its.before items) its.before ready
          (λ item one. binds-ready its.before items item one))
          (all-to IsReadyItem IsSingle items all_ready (λ item one. one.single))
          (all-to IsReadyItem IsWholeItem items all_ready (λ item one. one.whole))
          (all-to IsReadyItem IsNamed items all_ready (λ item one. one.named))
          (no-object items all_ready ∙ sym (no-object its.before ready))
          (its.good e)
        where
          own : length (block_plan d block.modules) ≡ length its.before
          own =
              zip-length (IsMade p hooks list context answers) (block_plan d block.modules)
              its.before its.each

      blocks-sorted : {blocks : List DecidedBlock} {orders : List (List ℕ)}
          {middle : List (List Item)}
          (made : AreBlocksMade p hooks list context answers d blocks orders middle) →
          AreReady blocks →
          (before after : List (List Item)) → merged ≡ before ++ (befores made ++ after) →
          AreBlocksGood ByContext (joined_items items) Top (top_items (joined_items items)) merged d
          (length before) blocks orders
      unfolding befores
      blocks-sorted none ready before after is = tt
      blocks-sorted (more {block} {blocks} {order} {orders} {placed} {rest} its others) ready before
          after is =
          let mine = ready block (here block blocks) its.before its.each in
          let apart =
          is
          ∙ ap (λ (l : List (List Item)). before ++ l)
          (append_assoc its.before (befores others) after) in
          let own =
          zip-length (IsMade p hooks list context answers) (block_plan d block.modules)
          its.before its.each in
          let further : length (before ++ its.before) ≡ length before + length
          (block_plan d block.modules) =
          (let both = length-append before its.before in omega (arith, both, own)) in (
            block-sorted before (befores others ++ after) block order placed its mine apart,
            subst
                (λ n. AreBlocksGood ByContext (joined_items items) Top (top_items (joined_items items)) merged d
                n blocks orders) further
                (blocks-sorted others (λ b c. ready b (later block blocks b c))
                (before ++ its.before) after
                (apart ∙ sym (append_assoc before its.before (befores others ++ after)))),
          )

-- ---- the whole
-- of each cause that is due, what is made for it is ready
abbrev pub MakesReady : Program → Hooks → List ℕ → BundleContexts → (ℕ → Option HookAnswer) → Type 0
MakesReady p hooks list context answers =
    (cause : Cause) (item : List Item) → IsDue p AsModule cause →
    IsMade p hooks list context answers cause item → IsReadyItem item

module _ (p : Program) (hooks : Hooks) (list : List ℕ) (context : BundleContexts)
    (answers : ℕ → Option HookAnswer) (d : Decided) (orders : List (List ℕ))
    (items : List (List Item)) (made : AreMade p hooks list context answers d orders items)
    (decided : AreDecided p AsModule d) (makes : MakesReady p hooks list context answers) where
  blocks-ready : AreReady p hooks list context answers d d.blocks
  blocks-ready block there before each =
      all-second (IsMade p hooks list context answers) IsReadyItem (block_plan d block.modules)
      before each
      (λ cause item c m. makes cause item (block-due p AsModule d decided block there cause c) m)

  pub items-ready : AllOf IsReadyItem items
  items-ready =
      all-second (IsMade p hooks list context answers) IsReadyItem (plan_of d orders) items
      (items-made p hooks list context answers d orders items made)
      (λ cause item c m. makes cause item (plan-due p AsModule d decided orders cause c) m)

  -- all items before any is sorted
  merged_items : List (List Item)
  merged_items = made.front ++ (befores p hooks list context answers d made.in_blocks ++ made.back)

  front-long : length (front_plan d) ≡ length made.front
  front-long =
      zip-length (IsMade p hooks list context answers) (front_plan d) made.front made.in_front

  back-long : length (back_plan d) ≡ length made.back
  back-long = zip-length (IsMade p hooks list context answers) (back_plan d) made.back made.behind

  items-read : AllZip (ReadBy merged_items) (whole_order d orders) items
  unfolding merged_items
  items-read =
      let middle = befores p hooks list context answers d made.in_blocks in
      let whole = made.front ++ (middle ++ made.back) in
      let long = befores-long p hooks list context answers d made.in_blocks in
      let split : whole ≡ (made.front ++ middle) ++ (made.back ++ []) =
      sym (append_assoc made.front middle made.back)
      ∙ ap (λ (l : List (List Item)). (made.front ++ middle) ++ l) (sym (append-nil made.back)) in
      let last : length (made.front ++ middle) ≡ length (front_plan d) + length
      (merged_blocks d d.blocks) =
      (let both = length-append made.front middle in let fl =
      front-long in omega (arith, both, long, fl)) in
      subst (AllZip (ReadBy whole) (whole_order d orders)) (sym made.is)
      (read-join whole (numbers_from zero (length (front_plan d)))
      (blocks_order d (length (front_plan d)) d.blocks orders ++ numbers_from
      (length (front_plan d) + length (merged_blocks d d.blocks)) (length (back_plan d)))
      made.front (made.middle ++ made.back)
      (subst (λ k. AllZip (ReadBy whole) (numbers_from zero k) made.front) (sym front-long)
      (read-part whole zero made.front (part-at whole [] made.front (middle ++ made.back) refl)))
      (read-join whole (blocks_order d (length (front_plan d)) d.blocks orders)
      (numbers_from (length (front_plan d) + length (merged_blocks d d.blocks))
      (length (back_plan d))) made.middle made.back
      (subst (λ k. AllZip (ReadBy whole) (blocks_order d k d.blocks orders) made.middle)
      (sym front-long)
      (blocks-read p hooks list context answers d whole made.in_blocks blocks-ready made.front
      made.back refl))
      (subst (λ k. AllZip (ReadBy whole) (numbers_from k (length (back_plan d))) made.back) last
      (subst (λ k. AllZip (ReadBy whole) (numbers_from (length (made.front ++ middle)) k) made.back)
      (sym back-long)
      (read-part whole (length (made.front ++ middle)) made.back
      (part-at whole (made.front ++ middle) made.back [] split))))))

  -- the items are laid out, whatever their bindings stand for
  pub items-laid : (labels : Labelling) →
      IsLaidOut p AsModule ByContext (joined_items items) (pairing_of labels items (plan_of d orders))
  unfolding merged_items
  items-laid labels =
      let pairing = pairing_of labels items (plan_of d orders) in
      let single = all-to IsReadyItem IsSingle items items-ready (λ item one. one.single) in
      let tops = top_items-joined items single in
      let same : length (top_items (joined_items items)) ≡ length (plan_of d orders) =
      ap length tops
      ∙ (length-tops 1 items
      ∙ sym
      (zip-length (IsMade p hooks list context answers) (plan_of d orders) items
      (items-made p hooks list context answers d orders items made))) in
      laid-out p AsModule ByContext (joined_items items) pairing d orders decided same refl
      (ordered-from ByContext (joined_items items) pairing merged_items d orders
      (subst (AllZip (IsItem merged_items) (whole_order d orders)) (sym tops)
      (tops-read merged_items (whole_order d orders) items 1 items-read))
      (subst
      (λ k. AreBlocksGood ByContext (joined_items items) Top (top_items (joined_items items)) merged_items d
      k d.blocks orders) (sym front-long)
      (blocks-sorted p hooks list context answers d merged_items items items-ready made.in_blocks
      blocks-ready made.front made.back refl)))

  -- the plan has what is due, and nothing else, each once
  pub items-due : (cause : Cause) → Contains (plan_of d orders) cause ↔ IsDue p AsModule cause
  items-due =
      laid-due p AsModule ByContext (joined_items items) (pairing_of [] items (plan_of d orders))
      (items-laid [])

  pub items-once : (i j : ℕ) (cause : Cause) → slice_get (plan_of d orders) i ≡ Some cause →
      slice_get (plan_of d orders) j ≡ Some cause → i ≡ j
  items-once =
      laid-once p AsModule ByContext (joined_items items) (pairing_of [] items (plan_of d orders))
      (items-laid [])
