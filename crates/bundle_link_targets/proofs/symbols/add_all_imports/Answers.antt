use Rattle.std.proofs.Common.{◌++◌, ap, sym, ◌∙◌, append-nil, append_assoc, take}
use Rattle.std.proofs.lemmas.List.{take_all}
use Rattle.std.specs.List.{flat_map}
use Rattle.bundle_link_index.specs.Says.{target_of}
use Rattle.bundle_link_tables.proofs.MarkLemmas.{flat_next as flat_more}
use Rattle.bundle_link_targets.specs.Symbols.{called_first, imports_called}
use Rattle.bundle_link_targets.proofs.symbols.add_all_imports.Goals as goal

pub loop-which-init : goal.loop-which-init
loop-which-init c = λ before known t. known t ∙ ap (called_first (target_of t)) (sym (append-nil before))

pub loop-which-preserved : goal.loop-which-preserved
loop-which-preserved c = λ before known t.
    let f = imports_called c.args.kinds.now in
    let list = c.args.kinds.now.list.now in
    let done = flat_map f (take c.loop-which.which-index list) in
    c.in_ok-add_imports_of.ensures (before ++ done) (c.loop-which.invariant before known) t
    ∙ ap (called_first (target_of t)) (append_assoc before done _ ∙ ap (λ l. before ++ l) (flat_more f list c.loop-which.which-index _ c.loop-which-test.true))

pub returns : goal.returns
returns c = λ before known t.
    c.loop-which.invariant before known t
    ∙ ap (λ l. called_first (target_of t) (before ++ flat_map (imports_called c.args.kinds.now) l)) (take_all c.loop-which.which-index c.args.kinds.now.list.now c.loop-which-test.false)
