-- The stars that were passed are added.
use Rattle.std.proofs.Common.{◌≡◌, ◌++◌, ◌∷◌, [], take}
use Rattle.std.specs.Prelude.{flat_map}
use Rattle.bundle_merge_injected.specs.Listed.{export_star}
use Rattle.bundle_merge_items.specs.Added.{module_item_lists}
use Rattle.bundle_merge_items.proofs.merge.add_stars.Given as goal

abbrev pub invariant-loop-specifier : goal.invariant-loop-specifier
invariant-loop-specifier l =
    module_item_lists l.items
    ≡ module_item_lists l.initial.items
    ++ flat_map (λ star. export_star star.now ∷ []) (take l.specifier-index l.specifier-items)
