-- The call of a bundle, as it is handed out.
use Rattle.std.proofs.Common.{ℕ}
use Rattle.bundle_rules.specs.Statements.{TopItem, top_items}
use Rattle.bundle_rules.specs.Program.{Program, tree_of, IsReached}
use Rattle.bundle_rules.specs.Callable.{Every}
use Rattle.bundle_merge_theory.proofs.called.LaidOut.{IsListless}

-- in no reached module an exported declaration is a list of exports
abbrev pub AreListless : Program → Type 0
AreListless p =
    (m : ℕ) → IsReached p m → Every (λ (top : TopItem). IsListless top.items) (top_items (tree_of p m))
