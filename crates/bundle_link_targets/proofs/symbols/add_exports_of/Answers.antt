use Rattle.std.proofs.Common.{◌++◌, append-nil, ap, sym, ◌∙◌, subst}
use Rattle.std.specs.Prelude.{OnOk, filter_map, slice_get}
use Rattle.bundle_link_index.specs.declared.target.LinkModule.{LinkModule}
use Rattle.bundle_link_index.specs.Says.{target_of}
use Rattle.bundle_link_targets.specs.Symbols.{Calls, called_first, exported_by, exports_at}
use Rattle.bundle_link_targets.proofs.ListLemmas.{map-some}
use Rattle.bundle_link_targets.proofs.SymbolLemmas.{map-none-back as map-none}
use Rattle.bundle_link_targets.proofs.symbols.add_exports_of.Goals as goal

pub returns-in-Some : goal.returns-in-Some
returns-in-Some c = λ before known.
    let kinds = c.args.kinds.now in
    let m = c.args.which in
    let at = map-some (λ (its : LinkModule). its.tables) (slice_get kinds.modules.now m) c.in-Some.tables (sym c.tables.ensures ∙ c.in-Some.is) in
    let all = c.deref.ensures.value ∙ ap (λ t. t.now.exports.items) (sym at.2) in
    subst (λ o. OnOk c.add_exports.result (Calls c.add_exports.new.symbols (before ++ exports_at kinds m o))) (sym at.1)
    (subst (λ l. OnOk c.add_exports.result (Calls c.add_exports.new.symbols (before ++ filter_map (exported_by kinds m) l))) all (c.add_exports.ensures before known))

pub returns-in-None : goal.returns-in-None
returns-in-None c = λ before known t.
    let kinds = c.args.kinds.now in
    let m = c.args.which in
    let none = map-none (λ (its : LinkModule). its.tables) (slice_get kinds.modules.now m) (sym c.tables.ensures ∙ c.in-None.is) in
    known t ∙ ap (called_first (target_of t)) (sym (append-nil before) ∙ ap (λ o. before ++ exports_at kinds m o) (sym none))
