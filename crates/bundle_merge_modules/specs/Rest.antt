-- What an iterator over the items of a part has left.
use Rattle.std.specs.Prelude.{ℕ, List, [], ◌++◌, Option, Some, None, map}
use Rattle.std.specs.Borrow.{Bor}
use Rattle.bundle_merge_modules.specs.Calls.{group_items, groups_of}
use Rattle.bundle_merge_modules.specs.Groups.{owned}
use Rattle.bundle_merge_modules.specs.Parts.{OwnedOf}
use Rattle.bundle_merge_modules.specs.declared.iter.PartIter.{PartIter}
use Rattle.bundle_merge_modules.specs.declared.part.ModuleItems.{ModuleItems}

-- the items that are left of the module at hand, and then those of the modules behind it
abbrev pub rest_of_part : {A : Type 0} → PartIter A → List (OwnedOf A)
rest_of_part i = map (λ item. (i.id, item)) i.items.now ++ owned (map group_items i.groups)

-- the items of a part that is still to come, if there is one
abbrev pub rest_behind : {A : Type 0} → Option (Bor (ModuleItems A)) → List (OwnedOf A)
rest_behind None = []
rest_behind (Some part) = owned (groups_of part.now)

-- a module with one of its items, as an iterator lends it
abbrev pub deref_owned : {A : Type 0} → ℕ × Bor A → OwnedOf A
deref_owned p = (p.0, p.1.now)
