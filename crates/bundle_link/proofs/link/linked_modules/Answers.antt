-- The modules are linked as those of the program are.
use Rattle.std.proofs.Common.{◌≡◌, List, length, ap, sym, ◌∙◌, subst}
use Rattle.std.proofs.lemmas.Slice.Zip.{AllZip-long}
use Rattle.bundle_rules.specs.Nodes.{numbers_once}
use Rattle.bundle_link.specs.Numbered as n
use Rattle.bundle_link.specs.declared.module.NumberedModule.{NumberedModule}
use Rattle.bundle_link.specs.Programs.{HasTables}
use Rattle.bundle_link.proofs.ProgramLemmas.{are-faultless, are_numbered}
use Rattle.bundle_link.proofs.link.linked_modules.Goals as goal

pub returns-clause-linked : goal.returns-clause-linked
returns-clause-linked c = λ p w.
    let modules = c.args.modules.now in
    let config = c.args.config.now in
    let entry = c.args.entry in
    let tables = c.in_ok-tables.tables.items in
    let read = c.in_ok-tables.ensures.given in
    let numbered = c.in_ok-numbered.numbered.items in
    let require = c.setting_of.result.require in
    let long : length c.deref.result.now ≡ length modules = ap length c.deref.ensures.value ∙ AllZip-long (HasTables config) modules tables read in
    let known = are_numbered p modules config entry w tables read numbered require (c.in_ok-numbered.ensures.ids long) (c.in_ok-numbered.ensures.deps long) (c.in_ok-numbered.ensures.tables long ∙ c.deref.ensures.value) c.setting_of.ensures.require in
    c.in_ok-new.ensures.linked p (subst (λ (ms : List NumberedModule). n.AreNumberedOf p ms entry require) (sym c.deref-2.ensures.value) known) (w.iife ∙ sym c.setting_of.ensures.iife)

pub returns-clause-ids : goal.returns-clause-ids
returns-clause-ids c =
    let modules = c.args.modules.now in
    let long : length c.deref.result.now ≡ length modules = ap length c.deref.ensures.value ∙ AllZip-long (HasTables c.args.config.now) modules c.in_ok-tables.tables.items c.in_ok-tables.ensures.given in
    c.in_ok-new.ensures.ids
    ∙ ap (λ (ms : List NumberedModule). numbers_once (n.numbers ms)) c.deref-2.ensures.value
    ∙ ap numbers_once (c.in_ok-numbered.ensures.ids long)

pub returns-clause-faultless : goal.returns-clause-faultless
returns-clause-faultless c =
    are-faultless c.args.config.now c.args.modules.now c.in_ok-tables.tables.items
    c.in_ok-tables.ensures.given
