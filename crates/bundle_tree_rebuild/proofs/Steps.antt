-- What the values of the code stand for.
use Rattle.std.proofs.Common.{◌≡◌, List, [], ◌∷◌, map, refl, ap}
use Rattle.bundle_tree_places.specs.declared.change.Change as r_change
use Rattle.bundle_tree_places.specs.Changes.{change_of}
use Rattle.bundle_tree_rebuild.specs.Work.{change_step, plain_step}

-- changes as plain steps
pub changes_plain : (changes : List r_change.Change) → map change_step changes ≡ map plain_step (map change_of changes)
changes_plain [] = refl
changes_plain (change ∷ changes) = ap (λ rest. change_step change ∷ rest) (changes_plain changes)
