use Rattle.std.proofs.Common.{Option, [], ◌++◌, ap, sym, ◌∙◌, append-nil, append_assoc, take}
use Rattle.std.specs.Prelude.{filter_map}
use Rattle.std.specs.List.{cons_option}
use Rattle.std.proofs.lemmas.List.{take_all}
use Rattle.bundle_link_index.specs.Says.{target_of}
use Rattle.bundle_link_targets.specs.Symbols.{Called, called_first, exported_by}
use Rattle.bundle_link_targets.proofs.SymbolLemmas.{pair-called}
use Rattle.bundle_link_targets.proofs.TakenLemmas.{filter-more}
use Rattle.bundle_link_targets.proofs.symbols.add_exports.Goals as goal

pub loop-export-init : goal.loop-export-init
loop-export-init c = λ before known t. known t ∙ ap (called_first (target_of t)) (sym (append-nil before))

pub loop-export-preserved : goal.loop-export-preserved
loop-export-preserved c = λ before known t.
    let f = exported_by c.args.kinds.now c.args.which in
    let exports = c.args.exports.now in
    let done = filter_map f (take c.loop-export.export-index exports) in
    c.in_ok-add_symbol.ensures (before ++ done) (c.loop-export.invariant before known) t
    ∙ ap (λ (o : Option Called). called_first (target_of t) ((before ++ done) ++ cons_option o [])) (pair-called c.whole_of-target.result _ _ _ c.whole_of-target.ensures c.identifier_of.ensures)
    ∙ ap (called_first (target_of t)) (append_assoc before done _ ∙ ap (λ l. before ++ l) (filter-more f exports c.loop-export.export-index _ c.loop-export-test.true))

pub returns : goal.returns
returns c = λ before known t.
    c.loop-export.invariant before known t
    ∙ ap (λ l. called_first (target_of t) (before ++ filter_map (exported_by c.args.kinds.now c.args.which) l)) (take_all c.loop-export.export-index c.args.exports.now c.loop-export-test.false)
