use Rattle.std.proofs.Common.{◌++◌, append-nil, ap, sym, ◌∙◌, subst}
use Rattle.std.specs.Prelude.{OnOk, slice_get}
use Rattle.std.specs.List.{flat_map}
use Rattle.bundle_rules.specs.Nodes.{has_text}
use Rattle.bundle_link_tables.specs.Sources.{HasTexts}
use Rattle.bundle_link_index.specs.Leads.{lead_of}
use Rattle.bundle_link_index.specs.declared.target.LinkModule.{LinkModule}
use Rattle.bundle_link_targets.specs.Taken.{starred_at, starred_one}
use Rattle.bundle_link_targets.proofs.ListLemmas.{map-some}
use Rattle.bundle_link_targets.proofs.SymbolLemmas.{map-none-back as map-none}
use Rattle.bundle_link_targets.proofs.taken.add_starred_of.Goals as goal

pub returns-in-Some : goal.returns-in-Some
returns-in-Some c = λ before known.
    let lead = lead_of c.args.kinds.now c.args.which in
    let module_at = slice_get c.args.kinds.now.modules.now c.args.which in
    let at = map-some (λ (its : LinkModule). its.tables) module_at c.in-Some.tables (sym c.tables.ensures ∙ c.in-Some.is) in
    let stars = c.deref.ensures.value ∙ ap (λ t. t.now.stars.items) (sym at.2) in
    subst (λ o. OnOk c.add_starred.result (HasTexts c.add_starred.new.starred (before ++ starred_at lead o))) (sym at.1)
    (subst (λ l. OnOk c.add_starred.result (HasTexts c.add_starred.new.starred (before ++ flat_map (starred_one lead) l))) stars (c.add_starred.ensures before known))

pub returns-in-None : goal.returns-in-None
returns-in-None c = λ before known x.
    let module_at = slice_get c.args.kinds.now.modules.now c.args.which in
    let none = map-none (λ (its : LinkModule). its.tables) module_at (sym c.tables.ensures ∙ c.in-None.is) in
    known x ∙ ap (has_text x) (sym (append-nil before) ∙ ap (λ o. before ++ starred_at (lead_of c.args.kinds.now c.args.which) o) (sym none))
