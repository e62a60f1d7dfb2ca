-- What is left of lists of items when those that are out are taken off.
use Rattle.std.specs.Prelude.{ℕ, Bool, not, List}
use Rattle.bundle_order_sort.specs.declared.Reference.{Reference}
use Rattle.bundle_order_sort.specs.declared.SharedItem.{SharedItem}
use Rattle.bundle_order_sort.specs.declared.stack.Progress.{Progress}
use Rattle.bundle_order_graph.specs.Classes.{Leads}
use Rattle.bundle_order_sort.specs.Items.{IsNeeded}
use Rattle.bundle_order_sort.specs.Numbers.{IsOut, progress_of}

-- whether an item is not out
abbrev pub is_left : List Progress → ℕ → Bool
is_left progress t = not (progress_of progress t).out

-- item t is not out, and item s needs it, by the ranks, by this reference
pub record IsNeedLeft
    (items : List SharedItem) (lists : List (List ℕ)) (ranks : List ℕ) (progress : List Progress)
    (s : ℕ) (reference : Reference) (t : ℕ) : Type 0 where
  pub left : IsOut progress t → ⊥
  pub listed : Leads lists reference.list t
  pub needed : IsNeeded items ranks s t reference.is_weak

-- no item is added to a list, and none is taken off that is not out
pub record KeepsLeft (progress : List Progress) (old new : List (List ℕ)) : Type 0 where
  pub from : (l t : ℕ) → Leads new l t → Leads old l t
  pub kept : (l t : ℕ) → Leads old l t → (IsOut progress t → ⊥) → Leads new l t
