-- The blocks of the modules that were passed, and of the cycles that end among them.
use Rattle.std.proofs.Common.{ℕ, ◌≤◌, ◌++◌, List, length, map, drop}
use Rattle.std.specs.List.{AllZip}
use Rattle.bundle_order_sort.specs.declared.plan.Block.{Block}
use Rattle.bundle_order_sort.specs.Places.{is_in_some}
use Rattle.bundle_order_sort.specs.Merged.{merged}
use Rattle.bundle_order_sort.specs.Plan.{IsBlock}
use Rattle.bundle_order_sort.specs.Rows.{AreRows}
use Rattle.bundle_order_sort.proofs.plan.blocks_of.Given as goal

abbrev pub invariant-loop-at : goal.invariant-loop-at
invariant-loop-at l =
    let cycles = map (λ v. v.items) l.cycles in
    record {
      within : l.next ≤ length l.cycles;
      so_far : (owners : List ℕ) → AreRows l.table owners → (rest : List Block) → AllZip (IsBlock owners) (merged (λ m. is_in_some m cycles) (drop l.at l.list) (drop l.next cycles)) rest → AllZip (IsBlock owners) (merged (λ m. is_in_some m cycles) l.list cycles) (l.blocks.items ++ rest);
    }
