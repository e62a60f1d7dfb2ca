-- One push.
use Rattle.std.proofs.Common.{refl}
use Rattle.bundle_tree_listed.specs.Tree.{stmt_items}
use Rattle.bundle_merge_injected.proofs.Parts.{stmt_behind}
use Rattle.bundle_merge_injected.proofs.row.with_stmt.Goals as goal

pub returns : goal.returns
returns c =
    stmt_behind c.args.stmts c.push.new.self c.args.stmt (stmt_items 0 c.args.stmt) c.in_ok-push.ensures.items refl
