-- The object that is made is added.
use Rattle.std.proofs.lemmas.Result.{on_ok_weaker}
use Rattle.bundle_tree_listed.specs.Tree.{stmt_items}
use Rattle.bundle_merge_items.proofs.merge.add_object.Goals as goal

pub returns : goal.returns
returns c =
    on_ok_weaker c.add_stmt.result
    (λ is. (stmt_items 0 c.in_ok-object.object, c.in_ok-object.ensures, is)) c.add_stmt.ensures
