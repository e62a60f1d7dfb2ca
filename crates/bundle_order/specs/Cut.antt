-- The items that are cut off a list, and the identifiers that are seen in them.
use Rattle.std.specs.Prelude.{ℕ, List, Option, None, map, filter_map, option_and_then, slice_range}
use Rattle.bundle_syntax.specs.declared.piece.Role.{Role}
use Rattle.bundle_syntax.specs.declared.piece.Role.TheVariants as r
use Rattle.bundle_syntax.specs.Item.{Item}
use Rattle.bundle_rules.specs.Places.{Occurrence, occurrences}
use Rattle.bundle_rules.specs.Statements.{TopItem}
use Rattle.bundle_order.specs.declared.seen.Seen.{Seen}
use Rattle.bundle_order.specs.Seen.{seen_as}
use Rattle.bundle_order_sort.specs.declared.Dependency.{Dependency}
use Rattle.bundle_order_sort.specs.declared.Reference.{Reference}
use Rattle.bundle_order_sort.specs.declared.SharedItem.{SharedItem}
use Rattle.bundle_order_sort.specs.declared.SortItem.{SortItem}
use Rattle.bundle_order.specs.declared.needs.ItemRange.{ItemRange}
use Rattle.bundle_order.specs.declared.told.TopBinding.{TopBinding}
use Rattle.bundle_order.specs.Numbered.{numbered_mention}

-- the item that lies in a range of a list, where it begins at the range's first place
abbrev pub cut_item : List Item → ItemRange → TopItem
cut_item tree range = record { start = range.from; items = slice_range tree range.from range.to }

-- the items that lie in these ranges
abbrev pub cut_items : List Item → List ItemRange → List TopItem
cut_items tree ranges = map (cut_item tree) ranges

-- what an item to sort depends on
abbrev pub dependencies_of : SortItem → List Dependency
dependencies_of item = item.dependencies.items

-- the lists on which an item to sort depends
abbrev pub references_of : SharedItem → List Reference
references_of item = item.references.items

-- the binding of the top that an identifier denotes, where this is told of its place; a plain word
-- denotes none
abbrev pub top_in : Role → TopBinding → Option ℕ
top_in r.Binding told = told.top
top_in r.Reference told = told.top
top_in r.Word told = None

-- an occurrence in item s, if it denotes a binding of the top
abbrev pub seen_occurrence : ℕ → (ℕ → TopBinding) → List Item → Occurrence → Option Seen
seen_occurrence s told item o = seen_as s (numbered_mention told item o)

-- the same, if there is an occurrence
abbrev pub seen_by : ℕ → (ℕ → TopBinding) → List Item → Option Occurrence → Option Seen
seen_by s told item o = option_and_then (seen_occurrence s told item) o

-- those of the occurrences that are listed
abbrev pub seen_among : ℕ → (ℕ → TopBinding) → List Item → List Occurrence → List Seen
seen_among s told item list = filter_map (seen_as s) (map (numbered_mention told item) list)

-- those of a whole item
abbrev pub seen_of_item : ℕ → (ℕ → TopBinding) → List Item → List Seen
seen_of_item s told item = seen_among s told item (occurrences item)
