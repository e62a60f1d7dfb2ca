-- No module stands twice in a block of a program.
use Rattle.std.proofs.Common.{◌≡◌, ℕ, zero, suc, ◌<◌, false, List, [], ◌∷◌, Contains, map, sym, subst, arith}
use Rattle.std.specs.Prelude.{nat_eq}
use Rattle.std.specs.List.{AllByRecursion, IsDistinct}
use Rattle.std.proofs.lemmas.Map.Keys.{IsDistinct-cons, IsDistinct-head, IsDistinct-tail}
use Rattle.bundle_order_graph.specs.Blocks.{Members, nothing, kept, left, BlocksOf, over, ends, goes_on}
use Rattle.bundle_rules.specs.Program.{Program, AreBlocks}
use Rattle.bundle_link_index.proofs.ProgramLemmas.{map_on as map-on}
use Rattle.bundle_merge_theory.specs.planned.Blocks.{block_of}
use Rattle.bundle_merge_theory.specs.planned.Decided.{numbers_from}
use Rattle.bundle_merge_names.specs.declared.part.BundleInput.{BundleInput}
use Rattle.bundle_merge_items.specs.Merged.{AreBlocksOnce}

-- what is picked of numbers that differ from one does so too
apart-picked : {Has : ℕ → Type 0} (n : ℕ) {list members : List ℕ} → Members Has list members →
    AllByRecursion (λ m. nat_eq n m ≡ false) list → AllByRecursion (λ m. nat_eq n m ≡ false) members
apart-picked n nothing all = all
apart-picked n (kept has more) all = (all.0, apart-picked n more all.1)
apart-picked n (left not more) all = apart-picked n more all.1

once-picked : {Has : ℕ → Type 0} {list members : List ℕ} → Members Has list members →
    IsDistinct nat_eq list → IsDistinct nat_eq members
once-picked nothing once = once
once-picked (kept {x = x} {xs = xs} {ys = ys} has more) once =
    IsDistinct-cons nat_eq x ys (apart-picked x more (IsDistinct-head nat_eq x xs once))
    (once-picked more (IsDistinct-tail nat_eq x xs once))
once-picked (left {x = x} {xs = xs} not more) once =
    once-picked more (IsDistinct-tail nat_eq x xs once)

-- each of these lists has no number twice
abbrev AreOnce : List (List ℕ) → Type 0
AreOnce [] = Unit {0}
AreOnce (block ∷ blocks) = IsDistinct nat_eq block × AreOnce blocks

once-blocks : {Shares : ℕ → ℕ → Type 0} {list rest : List ℕ} {blocks : List (List ℕ)} →
    BlocksOf Shares list rest blocks → IsDistinct nat_eq list → AreOnce blocks
once-blocks over once = tt
once-blocks (ends has last members more) once = (once-picked members once, once-blocks more once)
once-blocks (goes_on why more) once = once-blocks more once

-- ascending numbers differ
above : (n from count : ℕ) → n < from → AllByRecursion (λ m. nat_eq n m ≡ false) (numbers_from from count)
above n from zero below = tt
above n from (suc count) below =
    (differ n from below, above n (suc from) count (omega (arith, below)))
  where
    differ : (a b : ℕ) → a < b → nat_eq a b ≡ false
    differ a b l = grind arith

once-numbers : (from count : ℕ) → IsDistinct nat_eq (numbers_from from count)
unfolding IsDistinct
once-numbers from zero = tt
once-numbers from (suc count) = (above from (suc from) count (omega arith), once-numbers (suc from) count)

one-once : (blocks : List (List ℕ)) → AreOnce blocks → (block : List ℕ) → Contains blocks block →
    IsDistinct nat_eq block
one-once [] all block (k, within, is) = absurd (omega (arith, within))
one-once (first ∷ blocks) all block (zero, within, is) = subst (IsDistinct nat_eq) is all.0
one-once (first ∷ blocks) all block (suc k, within, is) =
    one-once blocks all.1 block (k, omega (arith, within), is)

-- where modules are numbered by their places, and the blocks are those of the program
pub blocks-once : (q : Program) (list : List ℕ) (n : ℕ) (bundle : BundleInput) →
    list ≡ numbers_from zero n →
    AreBlocks q list (map (λ block. block.modules) (map block_of bundle.blocks.now)) →
    AreBlocksOnce bundle
blocks-once q list n bundle places are = λ block there.
    let decided = map block_of bundle.blocks.now in
    one-once (map (λ its. its.modules) decided)
    (once-blocks are (subst (IsDistinct nat_eq) (sym places) (once-numbers zero n)))
    block.places.items
    (map-on (λ its. its.modules) decided (block_of block)
    (map-on block_of bundle.blocks.now block there))
