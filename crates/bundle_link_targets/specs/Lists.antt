-- Lists by the numbers of modules.
use Rattle.std.specs.Prelude.{ℕ, List, [], Option, Some, None, slice_get}
use Rattle.std.specs.Borrow.{Bor}
use Rattle.std.specs.Global.{Global}
use Rattle.std.specs.declared.vec.Vec.{Vec}

-- the items of a list, if it is there
abbrev pub list_items : {T : Type 0} → Option (Vec T Global) → List T
list_items None = []
list_items (Some list) = list.items

-- the same of one that is lent
abbrev pub items_lent : {T : Type 0} → Option (Bor (Vec T Global)) → List T
items_lent None = []
items_lent (Some list) = list.now.items

-- the list of a number; the empty one where there is none
abbrev pub list_in : {T : Type 0} → List (Vec T Global) → ℕ → List T
list_in lists n = list_items (slice_get lists n)
