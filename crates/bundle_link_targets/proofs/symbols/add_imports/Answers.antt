use Rattle.std.proofs.Common.{Option, [], ◌++◌, ap, sym, ◌∙◌, append-nil, append_assoc, take}
use Rattle.std.specs.Prelude.{filter_map}
use Rattle.std.specs.List.{cons_option}
use Rattle.std.proofs.lemmas.List.{take_all}
use Rattle.bundle_link_index.specs.Says.{target_of}
use Rattle.bundle_link_targets.specs.Symbols.{Called, called_first, imported_by}
use Rattle.bundle_link_targets.proofs.SymbolLemmas.{pair-is}
use Rattle.bundle_link_targets.proofs.TakenLemmas.{filter-more}
use Rattle.bundle_link_targets.proofs.symbols.add_imports.Goals as goal

pub loop-import-init : goal.loop-import-init
loop-import-init c = λ before known t. known t ∙ ap (called_first (target_of t)) (sym (append-nil before))

pub loop-import-preserved : goal.loop-import-preserved
loop-import-preserved c = λ before known t.
    let f = imported_by c.args.kinds.now c.args.which in
    let imports = c.args.imports.now in
    let done = filter_map f (take c.loop-import.import-index imports) in
    c.in_ok-add_symbol.ensures (before ++ done) (c.loop-import.invariant before known) t
    ∙ ap (λ (o : Option Called). called_first (target_of t) ((before ++ done) ++ cons_option o [])) (pair-is c.target_taken-target.result _ _ c.target_taken-target.ensures)
    ∙ ap (called_first (target_of t)) (append_assoc before done _ ∙ ap (λ l. before ++ l) (filter-more f imports c.loop-import.import-index _ c.loop-import-test.true))

pub returns : goal.returns
returns c = λ before known t.
    c.loop-import.invariant before known t
    ∙ ap (λ l. called_first (target_of t) (before ++ filter_map (imported_by c.args.kinds.now c.args.which) l)) (take_all c.loop-import.import-index c.args.imports.now c.loop-import-test.false)
