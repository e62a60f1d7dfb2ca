-- What stands in a value is smaller than it.
use Rattle.std.proofs.Common.{◌≡◌, ℕ, zero, suc, ◌+◌, ◌<◌, List, [], ◌∷◌, length, get_or, Some, Global, Ordering, Less, Equal, Greater, arith}
use Rattle.std.specs.Ordering.{nat_cmp, match_ordering}
use Rattle.std.specs.Cmp.Lexicographic.{slice_cmp}
use Rattle.json.specs.declared.value.Value.{Value}
use Rattle.serde_json.specs.Data.{Data, null, boolean, number, string, array, object, Items, no_items, item, Members, no_members, member}
use Rattle.serde_json.specs.Find.{as_array, get, get_member}
use Rattle.bundle_json_form.specs.Plain.{items_seen, seen}

-- how many values stand in a value, and in lists and members
abbrev mutual
  pub size : Data → ℕ
  size null = 0
  size (boolean b) = 0
  size (number n) = 0
  size (string s) = 0
  size (array ds) = 1 + items_size ds
  size (object ms) = 1 + members_size ms

  pub items_size : Items → ℕ
  items_size no_items = 0
  items_size (item d ds) = 1 + size d + items_size ds

  pub members_size : Members → ℕ
  members_size no_members = 0
  members_size (member k d ms) = 1 + size d + members_size ms

at_order : (o : Ordering) (key : List ℕ) (e : Data) (ms : Members) (d : Data)
    → (get_member key ms ≡ Some d → size d < members_size ms)
    → match_ordering o (get_member key ms) (Some e) (get_member key ms) ≡ Some d
    → size d < 1 + size e + members_size ms
at_order Less key e ms d more is = let h = more is in omega arith
at_order Equal key e ms d more is = let same : e ≡ d = cc in rw same (omega arith)
at_order Greater key e ms d more is = let h = more is in omega arith

member_smaller : (key : List ℕ) (ms : Members) (d : Data) → get_member key ms ≡ Some d → size d < members_size ms
member_smaller key no_members d is = cc
member_smaller key (member k e ms) d is =
    at_order (slice_cmp nat_cmp key k) key e ms d (member_smaller key ms d) is

-- what stands under a key is smaller
pub get_smaller : (key : List ℕ) (d e : Data) → get key d ≡ Some e → size e < size d
get_smaller key null e is = cc
get_smaller key (boolean b) e is = cc
get_smaller key (number n) e is = cc
get_smaller key (string s) e is = cc
get_smaller key (array ds) e is = cc
get_smaller key (object ms) e is = let h = member_smaller key ms e is in omega arith

-- the items of an array are smaller than it
pub items_smaller : (d : Data) (ds : Items) → as_array d ≡ Some ds → items_size ds < size d
items_smaller null ds is = cc
items_smaller (boolean b) ds is = cc
items_smaller (number n) ds is = cc
items_smaller (string s) ds is = cc
items_smaller (array es) ds is = let same : es ≡ ds = cc in rw same (omega arith)
items_smaller (object ms) ds is = cc

-- an item is smaller than the items
pub item_smaller : (vs : List (Value Global)) (i : ℕ) (v : Value Global) → i < length vs → v ≡ get_or vs i v
    → size (seen v) < items_size (items_seen vs)
item_smaller [] i v within is = absurd (omega arith)
item_smaller (x ∷ xs) zero v within is = rw is (omega arith)
item_smaller (x ∷ xs) (suc i) v within is = let h = item_smaller xs i v (omega arith) is in omega arith
