-- The pairs so far are those of the names passed.
use Rattle.std.proofs.Common.{◌≡◌, map, take}
use Rattle.bundle_link_tables.specs.declared.table.Taken.TheVariants.{Named}
use Rattle.bundle_link_index.specs.declared.target.TargetRef.TheVariants.{CommonJs}
use Rattle.bundle_merge_injected.specs.Listed.{pair_of}
use Rattle.bundle_merge_items.specs.Added as added
use Rattle.bundle_merge_items.proofs.outside.loaded_pairs.Given as goal

abbrev pub invariant-loop-name : goal.invariant-loop-name
invariant-loop-name l =
    map pair_of l.pairs.items
    ≡ added.named_pairs l.names (λ name. CommonJs l.taker l.which (Named name)) (take l.name-index l.name-items)
