-- A tree with items that stand for the plan of what is decided is a bundle.
-- A bundle that has the plan of what is decided is laid out.
use Rattle.std.proofs.Common.{refl, ◌≡◌, ◌⊎◌, inl, inr, ◌↔◌, ℕ, zero, suc, ◌+◌, ◌<◌, Bool, false, nat_eq, get_or, List, [], ◌∷◌, ◌++◌, Option, Some, None, Contains, length, map, sym, ap, ◌∙◌, subst, if◌then◌else◌, eqb-true, eq-eqb, length-append, arith}
use Rattle.std.specs.Prelude.{true, slice_get, unwrap_or}
use Rattle.std.specs.List.{AllZip, cons_option}
use Rattle.std.proofs.lemmas.Bool.{false≢true}
use Rattle.std.proofs.lemmas.List.{append-nil, append_assoc}
use Rattle.std.proofs.lemmas.Option.{none-some, same_Some, slice_get_within, slice_get-get_or}
use Rattle.bundle_syntax.specs.Item.{Item}
use Rattle.bundle_rules.specs.Program.{Program, IsReached, SharesBlock}
use Rattle.bundle_rules.specs.Bundle.{Form, AsCall, Cause, HoldsNamespace, IsDue, Chosen, owner_of, module_causes, StandsFor, Pairing, IsBlockLaidOut, lone, cycle, AreBlocksLaidOut, over, next, IsLaidOut}
use Rattle.bundle_rules.specs.Declarations.{Reading}
use Rattle.bundle_rules.specs.Statements.{TopItem}
use Rattle.bundle_rules.specs.Order.{group_of}
use Rattle.bundle_order_sort.proofs.OnceLemmas.{InSome}
use Rattle.bundle_order_sort.proofs.BlockLemmas.{blocks-in}
use Rattle.bundle_link_index.proofs.ProgramLemmas.{later, first_or_later}
use Rattle.bundle_link_targets.proofs.ListLemmas.{first-there as here}
use Rattle.bundle_link_targets.proofs.CallPlaceLemmas.{zip-at as zip-get}
use Rattle.bundle_merge_theory.proofs.joined.Paths.{get-left as get-front, get-behind}
use Rattle.bundle_merge_theory.specs.planned.Decided.{Decided, AreDecided, returned, DecidedBlock, IsBlockDecided, IsModuleDecided, numbers_from, block_plan, front_plan, back_plan, arranged, placed_plan, blocks_plan, plan_of, index_of, item_at, no_item, block_items, IsBlockOrdered, AreOrdered}
use Rattle.bundle_merge_theory.proofs.planned.OrderLemmas.{ReadBy, length-mapped, no_element, blocks-follow, shares-flip, shares-join}
use Rattle.bundle_merge_theory.proofs.planned.RequestLemmas.{list-once, list-reached}
use Rattle.bundle_merge_theory.proofs.planned.CauseLemmas.{block_causes}
use Rattle.bundle_merge_theory.proofs.planned.CountLemmas.{back-chosen, block-chosen, front-chosen}

-- ---- from merged items

-- what is decided of a bundle as a module is decided of the same as one function's call, which
-- hands out an object
pub for-call : (p : Program) (form : Form) (d : Decided) → AreDecided p form d →
    AreDecided p AsCall (record d { exports = true })
for-call p form d its = record {
  list = its.list;
  modules =
      λ m c.
      (let i = its.modules m c in
      record {
        common_js = i.common_js;
        loads = i.loads;
        taken = i.taken;
        meta = i.meta;
        statements = i.statements;
        object = i.object;
      });
  outside = its.outside;
  starred = its.starred;
  exports = (λ t. returned, λ h. refl);
  blocks = its.blocks;
  kinds = its.kinds;
}

-- ---- places

pub index-there : (n : ℕ) (order : List ℕ) → Contains order n →
    slice_get order (index_of n order) ≡ Some n
index-there n [] c = absurd (no_element c)
index-there n (m ∷ order) c =
    by (nat_eq m n) refl (first_or_later m order n c) (index-there n order)
  where
    by : (t : Bool) → nat_eq m n ≡ t → (m ≡ n) ⊎ Contains order n →
        (Contains order n → slice_get order (index_of n order) ≡ Some n) →
        slice_get (m ∷ order) (if t then zero else suc (index_of n order)) ≡ Some n
    by true is c ih = ap (λ k. Some k) (eqb-true m n is)
    by false is (inl same) ih = absurd (false≢true (sym is ∙ eq-eqb m n same))
    by false is (inr rest) ih = ih rest

-- ---- a block that is sorted
pub arranged-reads : (numbered : List Cause) (order : List ℕ) →
    ((n : ℕ) → Contains order n → n < length numbered) →
    AllZip (ReadBy numbered) order (arranged numbered order)
arranged-reads numbered [] within = tt
arranged-reads numbered (n ∷ order) within =
    by (slice_get numbered n) refl
    (arranged-reads numbered order (λ k c. within k (later n order k c)))
  where
    by : (o : Option Cause) → slice_get numbered n ≡ o →
        AllZip (ReadBy numbered) order (arranged numbered order) →
        AllZip (ReadBy numbered) (n ∷ order) (cons_option o (arranged numbered order))
    by None e ih =
        absurd
        (none-some (get_or numbered n (HoldsNamespace n))
        (sym e ∙ slice_get-get_or numbered n (HoldsNamespace n) (within n (here n order))))
    by (Some c) e ih = (e, ih)

all-stand : (pairing : Pairing) (f : ℕ → TopItem) (xs : List Cause) (i : ℕ) →
    ((n : ℕ) (c : Cause) → slice_get xs n ≡ Some c → StandsFor pairing c (f (i + n))) →
    AllZip (StandsFor pairing) xs (map f (numbers_from i (length xs)))
all-stand pairing f [] i each = tt
all-stand pairing f (x ∷ xs) i each = (
  let same : i + 0 ≡ i = omega arith in
      subst (λ k. StandsFor pairing x (f k)) same (each zero x refl),
  all-stand pairing f xs (suc i)
      (λ n c e. let same : i + suc n ≡ suc i + n = omega arith in subst
      (λ k. StandsFor pairing c (f k)) same (each (suc n) c e)),
)

module _ (pairing : Pairing) (same : length pairing.body ≡ length pairing.plan) where
  stands-at : (place : ℕ) (c : Cause) → slice_get pairing.plan place ≡ Some c →
      StandsFor pairing c (item_at pairing.body place)
  stands-at place c e =
      let within : place < length pairing.body =
      (let l = slice_get_within pairing.plan place c e in omega (arith, l, same)) in
      let read = slice_get-get_or pairing.body place no_item within in
      record {
        at = place;
        cause_there = e;
        item_there = read ∙ ap (λ x. Some x) (sym (ap (λ o. unwrap_or o no_item) read));
      }

  block-stands : (before after numbered : List Cause) (order : List ℕ) →
      pairing.plan ≡ before ++ (arranged numbered order ++ after) →
      ((n : ℕ) → (n < length numbered) ↔ Contains order n) →
      AllZip (StandsFor pairing) numbered
      (block_items pairing.body (length before) order (length numbered))
  block-stands before after numbered order is all =
      all-stand pairing (λ n. item_at pairing.body (length before + index_of n order)) numbered zero
      each
    where
      each : (n : ℕ) (c : Cause) → slice_get numbered n ≡ Some c →
          StandsFor pairing c (item_at pairing.body (length before + index_of (0 + n) order))
      each n c e =
          let zero_n : 0 + n ≡ n = omega arith in
          let k = index_of n order in
          let there = index-there n order ((all n).0 (slice_get_within numbered n c e)) in
          let read =
          zip-get (ReadBy numbered) order (arranged numbered order)
          (arranged-reads numbered order (λ m d. (all m).1 d)) k n there in
          let mine = same_Some read.0 c (sym read.2 ∙ e) in
          let at : slice_get pairing.plan (length before + k) ≡ Some c =
          ap (λ (l : List Cause). slice_get l (length before + k)) is
          ∙ (get-behind before (arranged numbered order ++ after) k
          ∙ (get-front (arranged numbered order) after k read.0 read.1 ∙ ap (λ x. Some x) mine)) in
          subst (λ m. StandsFor pairing c (item_at pairing.body (length before + index_of m order)))
          (sym zero_n) (stands-at (length before + k) c at)

-- ---- blocks
module _ (p : Program) (form : Form) (reading : Reading) (tree : List Item) (pairing : Pairing)
    (same : length pairing.body ≡ length pairing.plan) (d : Decided) where
  abbrev Decides : List ℕ → Type 0
  Decides members = (m : ℕ) → Contains members m → IsModuleDecided p d m × IsReached p m

  length-numbers : (i n : ℕ) → length (numbers_from i n) ≡ n
  length-numbers i zero = refl
  length-numbers i (suc n) = ap suc (length-numbers (suc i) n)

  block-laid : (before after : List Cause) (block : DecidedBlock) (order : List ℕ) →
      Decides block.modules → IsBlockDecided p block →
      pairing.plan ≡ before ++ (placed_plan d block order ++ after) →
      IsBlockOrdered reading tree pairing d (length before) block order →
      IsBlockLaidOut p form tree reading pairing block.modules (placed_plan d block order)
  block-laid before after block order all kind is ordered = by block.is_sorted refl is
    where
      causes : List Cause
      causes = block_plan d block.modules

      items : List TopItem
      items = block_items pairing.body (length before) order (length (block_plan d block.modules))

      picked : Chosen (IsDue p form) (block_causes p block.modules) (block_plan d block.modules)
      picked = block-chosen p form d block.modules all

      has : (e : block.is_sorted ≡ true) (n : ℕ) →
          (n < length (block_plan d block.modules)) ↔ Contains order n
      has e n =
          let counts : length
          (group_of reading pairing.top tree items (map owner_of (block_plan d block.modules))).items
          ≡ length (block_plan d block.modules) =
          length-mapped _ items
          ∙ (length-mapped (λ k. item_at pairing.body (length before + index_of k order))
          (numbers_from zero (length (block_plan d block.modules)))
          ∙ length-numbers zero (length (block_plan d block.modules))) in
          subst (λ m. (n < m) ↔ Contains order n) counts ((ordered e).order_of.all n)

      by : (t : Bool) → block.is_sorted ≡ t →
          pairing.plan ≡ before ++
          ((if t then arranged (block_plan d block.modules) order else block_plan d
          block.modules) ++ after) →
          IsBlockLaidOut p form tree reading pairing block.modules
          (if t then arranged (block_plan d block.modules) order else block_plan d
          block.modules)
      by true e is =
          let asked = kind.sorted e in
          cycle (block_plan d block.modules) items order asked.0 asked.1 picked
          (block-stands pairing same before after (block_plan d block.modules) order is (has e))
          (ordered e)
          (arranged-reads (block_plan d block.modules) order (λ n c. (has e n).1 c))
      by false e is =
          let r = kind.lone e in
          subst
          (λ (l : List ℕ). IsBlockLaidOut p form tree reading pairing l
          (block_plan d block.modules)) (sym r.1)
          (lone r.2
          (subst (λ (l : List Cause). Chosen (IsDue p form) (l ++ HoldsNamespace r.0 ∷ []) (block_plan d block.modules)) (append-nil (module_causes p r.0))
          (subst (λ (l : List ℕ). Chosen (IsDue p form) (block_causes p l) (block_plan d block.modules)) r.1 picked)))

  blocks-laid : (before after : List Cause) (blocks : List DecidedBlock) (orders : List (List ℕ)) →
      ((block : DecidedBlock) → Contains blocks block → Decides block.modules × IsBlockDecided p
      block) → pairing.plan ≡ before ++ (blocks_plan d blocks orders ++ after) →
      AreOrdered reading tree pairing d (length before) blocks orders →
      AreBlocksLaidOut p form tree reading pairing
      (map (λ (block : DecidedBlock). block.modules) blocks) (blocks_plan d blocks orders)
  blocks-laid before after [] [] all is ordered = over
  blocks-laid before after [] (order ∷ orders) all is ordered = absurd ordered
  blocks-laid before after (block ∷ blocks) [] all is ordered = absurd ordered
  blocks-laid before after (block ∷ blocks) (order ∷ orders) all is ordered =
      let placed = placed_plan d block order in
      let rest = blocks_plan d blocks orders in
      let apart = is ∙ ap (λ (l : List Cause). before ++ l) (append_assoc placed rest after) in
      let mine = all block (here block blocks) in
      let further : length before + length placed ≡ length (before ++ placed) =
      sym (length-append before placed) in
      next placed (block-laid before (rest ++ after) block order mine.0 mine.1 apart ordered.0)
      (blocks-laid (before ++ placed) after blocks orders (λ b c. all b (later block blocks b c)) (apart ∙ sym (append_assoc before placed (rest ++ after)))
      (subst (λ n. AreOrdered reading tree pairing d n blocks orders) further ordered.1))

-- ---- the whole
-- the order of each block is good for its items, and the bundle has the plan: so it is laid out
pub laid-out : (p : Program) (form : Form) (reading : Reading) (tree : List Item)
    (pairing : Pairing) (d : Decided) (orders : List (List ℕ)) → AreDecided p form d →
    length pairing.body ≡ length pairing.plan → pairing.plan ≡ plan_of d orders →
    AreOrdered reading tree pairing d (length (front_plan d)) d.blocks orders →
    IsLaidOut p form reading tree pairing
laid-out p form reading tree pairing d orders its same is ordered = record {
  list = d.list;
  is_list = its.list;
  blocks = map (λ (block : DecidedBlock). block.modules) d.blocks;
  are_blocks = its.blocks;
  follows =
      blocks-follow p d.list its.list (list-once p d.list its.list)
      (map (λ (block : DecidedBlock). block.modules) d.blocks) its.blocks;
  front = front_plan d;
  middle = blocks_plan d d.blocks orders;
  back = back_plan d;
  plan = is;
  in_front = front-chosen p form d its;
  in_blocks =
      blocks-laid p form reading tree pairing same d (front_plan d) (back_plan d) d.blocks orders
      all is ordered;
  behind = back-chosen p form d its;
}
  where
    modules_of : (blocks : List DecidedBlock) (block : DecidedBlock) → Contains blocks block →
        (m : ℕ) → Contains block.modules m →
        InSome (map (λ (block : DecidedBlock). block.modules) blocks) m
    modules_of [] block c m e = absurd (no_element c)
    modules_of (first ∷ blocks) block c m e = elim (first_or_later first blocks block c) [
      | inl k ↦ inl (subst (λ (b : DecidedBlock). Contains b.modules m) (sym k) e)
      | inr k ↦ inr (modules_of blocks block k m e)
    ]

    listed : (block : DecidedBlock) → Contains d.blocks block → (m : ℕ) → Contains block.modules m →
        Contains d.list m
    listed block c m e =
        (blocks-in (SharesBlock p) (shares-flip p) (shares-join p) d.list d.list (map (λ (block : DecidedBlock). block.modules) d.blocks) its.blocks m (modules_of d.blocks block c m e)).2

    all : (block : DecidedBlock) → Contains d.blocks block →
        ((m : ℕ) → Contains block.modules m → IsModuleDecided p d m × IsReached p m)
        × IsBlockDecided p block
    all block c = (
      (λ m e. let l = listed block c m e in
          (its.modules m l, (list-reached p d.list its.list m).0 l)),
      its.kinds block c,
    )
