-- To which module items belong.
use Rattle.std.specs.Prelude.{ℕ, Bool, Option, Some, None, cond}
use Rattle.bundle_order.specs.declared.needs.ItemRange.{ItemRange}
use Rattle.bundle_order_sort.specs.declared.SharedItem.{SharedItem}
use Rattle.bundle_order_sort.specs.declared.SortItem.{SortItem}

-- the module of an item, and whether the item is free
abbrev pub range_owner : ItemRange → ℕ × Bool
range_owner item = (item.which, item.is_free)

-- the same of an item to sort
abbrev pub sorted_owner_of : SortItem → ℕ × Bool
sorted_owner_of item = (item.which, item.is_free)

-- the same of an item that shares the lists of what it depends on
abbrev pub shared_owner_of : SharedItem → ℕ × Bool
shared_owner_of item = (item.which, item.is_free)

-- the module of an item, or none where it is free
abbrev pub range_module : ItemRange → Option ℕ
range_module item = cond item.is_free None (Some item.which)
