-- A module adds its load function, or the items of an ES module.
use Rattle.std.proofs.Common.{map}
use Rattle.std.proofs.lemmas.Result.{on_ok_weaker}
use Rattle.bundle_tree_listed.specs.Tree.{stmt_items}
use Rattle.bundle_merge_items.proofs.LackLemmas.{module-adds, script-adds}
use Rattle.bundle_merge_items.proofs.module.add_module.Goals as goal

pub returns-then-is_common_js : goal.returns-then-is_common_js
returns-then-is_common_js c =
    on_ok_weaker c.add_load_function.result
    (λ adds at q list answers context causes named planned.
    script-adds q list answers context c.args.bundle.now c.args.names.now named causes
    c.args.which c.args.part.now at planned
    c.is_common_js.result (c.is_common_js.ensures q named.parts.linking) c.if-is_common_js.true
    (map (stmt_items 0) c.in_ok-own.own.items)
    (λ kind has. c.in_ok-own.ensures q list answers context kind named at has)
    c.args.items.now c.add_written.new.items c.add_load_function.new.items
    c.in_ok-add_written.ensures adds)
    c.add_load_function.ensures

pub returns-else-is_common_js : goal.returns-else-is_common_js
returns-else-is_common_js c =
    on_ok_weaker c.add_es.result
    (λ adds at q list answers context causes named planned.
    module-adds q list answers context c.args.bundle.now c.args.names.now named causes
    c.args.which c.args.part.now at planned
    c.is_common_js.result (c.is_common_js.ensures q named.parts.linking) c.if-is_common_js.false
    (map (stmt_items 0) c.in_ok-own.own.items)
    (λ kind has. c.in_ok-own.ensures q list answers context kind named at has)
    c.args.items.now c.add_written.new.items c.add_es.new.items
    c.in_ok-add_written.ensures
    (λ meta count told reached stated.
    adds q list answers context meta count named told reached stated))
    c.add_es.ensures
