use Rattle.std.proofs.Common.{Some, ap, sym, ◌∙◌, cond}
use Rattle.std.specs.Prelude.{bytes_eq, string_bytes}
use Rattle.std.proofs.lemmas.Map.Text.{btree_map_updates_text}
use Rattle.std.specs.BTreeMap.{get_by_text}
use Rattle.bundle_link.specs.Leads.{module_place}
use Rattle.bundle_link.proofs.LeadLemmas.{told-none, told-here}
use Rattle.bundle_link.proofs.module.leads_of.Goals as goal
use Rattle.bundle_link.proofs.module.leads_of.Goals.{in-Some+in_ok-clone+in_ok-insert, in_default}

pub loop-specifier-preserved : goal.loop-specifier-preserved
loop-specifier-preserved c = λ s.
    let deps = c.args.deps.now in
    let i = c.loop-specifier.specifier-index in
    let dep = c.loop-specifier-item.result in
    let found = get_by_text c.loop-specifier.leads s in
    elim c.match-get_index_of.branch [
      | in-Some+in_ok-clone+in_ok-insert w ↦
          ap (λ leads. get_by_text leads s) w.leads-is
          ∙ btree_map_updates_text (string_bytes w.in_ok-clone.field-0) c.loop-specifier.leads w.insert.new.self (Some w.in-Some.place) w.in_ok-insert.ensures.updates s
          ∙ ap (λ bs. cond (bytes_eq bs s) (Some w.in-Some.place) found) w.in_ok-clone.ensures.cases
          ∙ told-here (module_place c.args.ids.now.keys) deps i dep s found c.loop-specifier-test.true c.loop-specifier-item.is (c.loop-specifier.invariant s) w.in-Some.place (sym c.get_index_of.ensures.index ∙ w.in-Some.is)
      | in_default w ↦
          ap (λ leads. get_by_text leads s) w.leads-is
          ∙ told-none (module_place c.args.ids.now.keys) deps i dep s found c.loop-specifier-test.true c.loop-specifier-item.is (c.loop-specifier.invariant s) (sym c.get_index_of.ensures.index ∙ w.in_default.is)
    ]
