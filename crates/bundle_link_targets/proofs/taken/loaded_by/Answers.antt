use Rattle.std.proofs.Common.{[], ap, sym, ◌∙◌}
use Rattle.std.specs.Prelude.{filter_map, slice_get}
use Rattle.bundle_rules.specs.Nodes.{numbers_once}
use Rattle.bundle_link_index.specs.declared.target.LinkModule.{LinkModule}
use Rattle.bundle_link_targets.specs.Taken.{module_loaded_by, loads_by}
use Rattle.bundle_link_targets.proofs.ListLemmas.{map-some}
use Rattle.bundle_link_targets.proofs.SymbolLemmas.{map-none-back as map-none}
use Rattle.bundle_link_targets.proofs.taken.loaded_by.Goals as goal
use Rattle.bundle_link_targets.proofs.taken.loaded_by.Goals.{in-Some+in_ok-add_loads-in-Some, in-None}

pub returns : goal.returns
returns c =
    let kinds = c.args.kinds.now in
    let m = c.args.taker in
    elim c.match-tables.branch [
      | in-Some+in_ok-add_loads-in-Some w ↦
          let at = map-some (λ (its : LinkModule). its.tables) (slice_get kinds.modules.now m) w.in-Some.tables (sym c.tables.ensures ∙ w.in-Some.is) in
          ap (λ set. set.keys) w.modules-is
          ∙ w.in_ok-add_loads-in-Some.ensures [] c.new-modules.ensures.empty
          ∙ ap (λ l. numbers_once (filter_map (module_loaded_by kinds m) l)) (w.deref.ensures.value ∙ ap (λ t. t.now.sources.items) (sym at.2))
          ∙ ap (λ o. numbers_once (loads_by kinds m o)) (sym at.1)
      | in-None w ↦
          let none = map-none (λ (its : LinkModule). its.tables) (slice_get kinds.modules.now m) (sym c.tables.ensures ∙ w.in-None.is) in
          ap (λ set. set.keys) w.modules-is ∙ c.new-modules.ensures.empty ∙ ap (λ o. numbers_once (loads_by kinds m o)) (sym none)
    ]
