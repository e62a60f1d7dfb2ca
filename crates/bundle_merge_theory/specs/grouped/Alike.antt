-- Groups that differ in nothing that their order depends on: in how the bindings of the top are
-- numbered, and in what stands as a number for a binding that no item declares.
use Rattle.std.specs.Prelude.{◌≡◌, ◌↔◌, ℕ, true, List, Option, Some, None, slice_get}
use Rattle.std.specs.List.{AllZip}
use Rattle.bundle_rules.specs.Order.{Group, Mention, mention_at}
use Rattle.bundle_order.specs.Renumbered.{IsSameButTop}

-- two identifiers denote one binding of the top
abbrev pub DenoteOne : Mention → Mention → Type 0
DenoteOne a b = (n : ℕ) × (a.top ≡ Some n) × (b.top ≡ Some n)

-- two items are of one module
abbrev pub Share : List (Option ℕ) → ℕ → ℕ → Type 0
Share owners s t =
    (m : ℕ) × (slice_get owners s ≡ Some (Some m)) × (slice_get owners t ≡ Some (Some m))

-- the same items are free, and the same items are of one module, however modules are numbered
pub record OwnersAlike (one two : List (Option ℕ)) : Type 0 where
  pub free : (s : ℕ) → (slice_get one s ≡ Some None) ↔ (slice_get two s ≡ Some None)
  pub share : (s t : ℕ) → Share one s t ↔ Share two s t

-- the same items, of one module where they were, and the same identifiers; and one that declares
-- and any other denote one binding of the top in the one group exactly if they do in the other.
-- What nobody declares counts for nothing
pub record GroupsAlike (g h : Group) : Type 0 where
  pub owners : OwnersAlike g.owners h.owners
  pub items : AllZip (AllZip IsSameButTop) g.items h.items
  pub same : (s i t j : ℕ) (a b c d : Mention) → mention_at g s i ≡ Some a →
      mention_at g t j ≡ Some b → mention_at h s i ≡ Some c → mention_at h t j ≡ Some d →
      b.declares ≡ true → DenoteOne a b ↔ DenoteOne c d
