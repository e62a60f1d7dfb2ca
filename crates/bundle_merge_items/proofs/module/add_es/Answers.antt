-- An ES module has the object for its `import.meta`, what loads CommonJS modules, and its statements.
use Rattle.std.proofs.Common.{map}
use Rattle.std.proofs.lemmas.Result.{on_ok_weaker}
use Rattle.bundle_tree_listed.specs.Tree.{stmt_items}
use Rattle.bundle_merge_items.proofs.LackLemmas.{es-adds}
use Rattle.bundle_merge_items.proofs.module.add_es.Goals as goal

pub returns : goal.returns
returns c =
    on_ok_weaker c.add_stmts.result
    (λ adds q list answers context meta count named told reached stated.
    es-adds q list answers context c.args.bundle.now c.args.names.now named meta count told
    c.args.which reached (map (stmt_items 0) c.args.own.items) stated
    c.loads.result.now (c.loads.ensures q list named.parts.handed reached)
    c.args.items.now c.add_meta.new.items c.add_loads.new.items c.add_stmts.new.items
    (c.in_ok-add_meta.ensures q list answers context named reached)
    c.in_ok-add_loads.ensures adds)
    c.add_stmts.ensures
