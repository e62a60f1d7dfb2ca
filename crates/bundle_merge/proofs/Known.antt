-- The modules on the list of a linker are there, and what is told of copies of their items is told of what is prepared.
use Rattle.std.proofs.Common.{◌≡◌, ℕ, List, Some, ap, map, sym, ◌∙◌}
use Rattle.std.specs.Prelude.{option_map, slice_get}
use Rattle.std.proofs.lemmas.Option.{same_Some, slice_get-map}
use Rattle.bundle_tree_ast.specs.declared.module.Module.{Module}
use Rattle.bundle_tree_names.specs.declared.error.Error.{Error}
use Rattle.bundle_rules.specs.Merged.{Contexts}
use Rattle.bundle_rules.specs.Parts.{Owned, items_in}
use Rattle.bundle_rules.specs.Program.{Program}
use Rattle.bundle_link.specs.declared.link.Linker.{Linker}
use Rattle.bundle_link.specs.declared.transformed.TransformedModule.{TransformedModule}
use Rattle.bundle_link.proofs.NumberLemmas.{at-place, place-there}
use Rattle.bundle_link.proofs.NumberedModuleLemmas.{mapped}
use Rattle.bundle_merge_items.specs.Added.{module_item_lists}
use Rattle.bundle_merge.specs.Prepared.{items_of_each}
use Rattle.bundle_merge.specs.Read.{AreAllKnown}
use Rattle.bundle_merge.specs.Ready.{IsMergeable}
use Rattle.bundle_merge.specs.Refusals.{HasOwnFault, HasPreparedFault}

module _ (p : Program) (contexts : ℕ → Contexts) (linker : Linker) (w : IsMergeable p contexts linker) where
  abbrev ids : List ℕ
  ids = linker.linked.ids.keys

  -- the module of the linker under a number that has a place
  pub at-number : (m k : ℕ) → slice_get ids k ≡ Some m →
      (its : TransformedModule) × (slice_get linker.modules.items k ≡ Some its) × (its.id ≡ m)
  at-number m k at =
      mapped (λ (its : TransformedModule). its.id) linker.modules.items k m
      (ap (λ (l : List ℕ). slice_get l k) (sym w.of.numbered) ∙ at)

  -- all modules of the list are there
  pub all-there : AreAllKnown linker linker.linked.list.items
  all-there m there =
      let k = place-there ids m (w.of.linked.listed m there) in
      let its = at-number m k.0 (at-place ids m k.0 k.1) in
      (its.0, record { place = k.0; numbered = k.1; there = its.1 })

-- the copies at a place are those of the module there
module _ (linker : Linker) (prepared : List Owned) (copies : List Module) (copied : map module_item_lists copies ≡ items_of_each prepared linker.linked.list.items) where
  copied-at : (k m : ℕ) (its : Module) → slice_get linker.linked.list.items k ≡ Some m →
      slice_get copies k ≡ Some its → module_item_lists its ≡ items_in prepared m
  copied-at k m its at there =
      same_Some (module_item_lists its) (items_in prepared m)
      (sym (ap (option_map module_item_lists) there)
      ∙ sym (slice_get-map module_item_lists copies k)
      ∙ ap (λ l. slice_get l k) copied
      ∙ slice_get-map (items_in prepared) linker.linked.list.items k
      ∙ ap (option_map (items_in prepared)) at)

  -- so what is told of them is told of the items that are prepared
  pub prepared-fault : (error : Error) → HasOwnFault linker linker.linked.list.items copies error →
      HasPreparedFault linker prepared error
  prepared-fault error its = record {
    number = its.number;
    known = its.known;
    is_known = its.is_known;
    items = its.items;
    are = copied-at its.place its.number its.items its.at its.there;
    told = its.told;
  }
