-- Blocks: classes of modules that reach each other.
use Rattle.std.specs.Prelude.{ℕ, ◌⊎◌, List, [], ◌∷◌, Contains}
use Rattle.bundle_order_graph.specs.Modules.{Modules, Requests}
use Rattle.bundle_order_graph.specs.Order.{IsOrder}
use Rattle.bundle_order_graph.specs.Walks.{Path}

-- a and b are in one block: a walk of at least one edge leads from each to the other. A module
-- shares a block with itself where it is one of several, or requests itself
abbrev pub SharesBlock : Modules → ℕ → ℕ → Type 0
SharesBlock g a b = Path (Requests g) a b × Path (Requests g) b a

-- `Members Has list members`: of the list, the members are those that `Has` holds of, in its order
pub data Members (Has : ℕ → Type 0) : List ℕ → List ℕ → Type 0 where
  nothing : Members Has [] []
  kept : {x : ℕ} {xs ys : List ℕ} → Has x → Members Has xs ys → Members Has (x ∷ xs) (x ∷ ys)
  left : {x : ℕ} {xs ys : List ℕ} → (Has x → ⊥) → Members Has xs ys → Members Has (x ∷ xs) ys

-- `BlocksOf Shares list rest blocks`: the blocks of the list whose last members stand in `rest`,
-- which is the end of the list
pub data BlocksOf (Shares : ℕ → ℕ → Type 0) (list : List ℕ) : List ℕ → List (List ℕ) → Type 0 where
  over : BlocksOf Shares list [] []
  -- x is in a block, and none that stands later shares it
  ends : {x : ℕ} {rest block : List ℕ} {blocks : List (List ℕ)} →
      Shares x x →
      ((y : ℕ) → Contains rest y → Shares x y → ⊥) →
      Members (Shares x) list block →
      BlocksOf Shares list rest blocks →
      BlocksOf Shares list (x ∷ rest) (block ∷ blocks)
  -- x is in no block, or one that stands later shares it
  goes_on : {x : ℕ} {rest : List ℕ} {blocks : List (List ℕ)} →
      (Shares x x → ⊥) ⊎ ((y : ℕ) × Contains rest y × Shares x y) →
      BlocksOf Shares list rest blocks →
      BlocksOf Shares list (x ∷ rest) blocks

-- the blocks of several modules, or of one that requests itself, in the list of the entry: in the
-- order of their last members, with the members in the order of the list
abbrev pub AreBlocks : Modules → ℕ → List (List ℕ) → Type 0
AreBlocks g entry blocks =
    (list : List ℕ) → IsOrder g entry list → BlocksOf (SharesBlock g) list list blocks
