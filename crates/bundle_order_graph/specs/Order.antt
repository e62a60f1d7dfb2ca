-- The list: modules in depth-first post-order.
use Rattle.std.specs.Prelude.{◌≡◌, ℕ, ◌↔◌, List, [], ◌∷◌, ◌++◌, Contains, nat_eq}
use Rattle.std.specs.List.{IsDistinct}
use Rattle.bundle_order_graph.specs.Modules.{Modules, deps, Requests}
use Rattle.bundle_order_graph.specs.Walks.{Reaches}

-- `Lists requested begun done todo all`: where the nodes `done` are listed and those of `begun`
-- have been begun, to list each of `todo` in turn makes the list `all`
pub data Lists (requested : ℕ → List ℕ) : List ℕ → List ℕ → List ℕ → List ℕ → Type 0 where
  -- nothing is left to list
  finished : {begun done : List ℕ} → Lists requested begun done [] done
  -- a node that is begun or listed is passed over
  passed : {begun done todo all : List ℕ} {n : ℕ} →
      Contains (begun ++ done) n →
      Lists requested begun done todo all →
      Lists requested begun done (n ∷ todo) all
  -- any other node is begun, what it requests is listed, and then the node itself
  listed : {begun done before todo all : List ℕ} {n : ℕ} →
      (Contains (begun ++ done) n → ⊥) →
      Lists requested (n ∷ begun) done (requested n) before →
      Lists requested begun (before ++ n ∷ []) todo all →
      Lists requested begun done (n ∷ todo) all

-- the list is the depth-first post-order from the entry: the one list that listing the entry makes,
-- which has each module that the entry reaches, once
pub record IsOrder (g : Modules) (entry : ℕ) (list : List ℕ) : Type 0 where
  pub made : Lists (deps g) [] [] (entry ∷ []) list
  pub only : (other : List ℕ) → Lists (deps g) [] [] (entry ∷ []) other → other ≡ list
  pub reached : (n : ℕ) → Contains list n ↔ Reaches (Requests g) entry n
  pub once : IsDistinct nat_eq list
