use Rattle.std.proofs.Common.{◌≡◌, ◌++◌, append-nil, ap, sym, ◌∙◌, subst}
use Rattle.std.specs.Prelude.{OnOk, slice_get}
use Rattle.std.specs.List.{flat_map}
use Rattle.bundle_rules.specs.Nodes.{each_once}
use Rattle.bundle_link_index.specs.Handed.{external_one}
use Rattle.bundle_link_index.specs.declared.target.LinkModule.{LinkModule}
use Rattle.bundle_link_targets.specs.Names.{texts_in}
use Rattle.bundle_link_targets.specs.Taken.{outside_in}
use Rattle.bundle_link_targets.proofs.ListLemmas.{map-some}
use Rattle.bundle_link_targets.proofs.SymbolLemmas.{map-none-back as map-none}
use Rattle.bundle_link_targets.proofs.taken.add_specifiers_of.Goals as goal

pub returns-in-Some : goal.returns-in-Some
returns-in-Some c = λ before known.
    let module_at = slice_get c.args.kinds.now.modules.now c.args.which in
    let at = map-some (λ its. its.tables) module_at c.in-Some.tables (sym c.tables.ensures ∙ c.in-Some.is) in
    let sources = c.deref.ensures.value ∙ ap (λ t. t.now.sources.items) (sym at.2) in
    subst (λ o. OnOk c.add_specifiers.result (texts_in c.add_specifiers.new.specifiers ≡ each_once (before ++ outside_in o))) (sym at.1)
    (subst (λ l. OnOk c.add_specifiers.result (texts_in c.add_specifiers.new.specifiers ≡ each_once (before ++ flat_map external_one l))) sources (c.add_specifiers.ensures before known))

pub returns-in-None : goal.returns-in-None
returns-in-None c = λ before known.
    let module_at = slice_get c.args.kinds.now.modules.now c.args.which in
    let none = map-none (λ (its : LinkModule). its.tables) module_at (sym c.tables.ensures ∙ c.in-None.is) in
    known ∙ ap each_once (sym (append-nil before) ∙ ap (λ o. before ++ outside_in o) (sym none))
