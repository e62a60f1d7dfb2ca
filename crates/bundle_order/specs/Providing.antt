-- Which identifiers say that their item declares a binding or sets it up, by what is known of the
-- binding.
use Rattle.std.specs.Prelude.{ℕ, ◌&&◌, ◌||◌, nat_lt, nat_eq, Bool, true, false, not, List, Option, Some, None, slice_index_or}
use Rattle.bundle_order.specs.declared.seen.Seen.{Seen}

-- whether two items are of one module
abbrev pub is_same_module : Option ℕ → Option ℕ → Bool
is_same_module (Some m) (Some n) = nat_eq m n
is_same_module _ _ = false

-- whether item t is a later one of the module of item d
abbrev pub is_later_beside : List (Option ℕ) → ℕ → ℕ → Bool
is_later_beside owners d t =
    nat_lt d t && is_same_module (slice_index_or owners d None) (slice_index_or owners t None)

-- whether an identifier gives its binding a value after the first declaration, which has none
abbrev pub fills_after : List (Option ℕ) → Option Seen → Seen → Bool
fills_after owners None one = false
fills_after owners (Some first) one =
    not one.declares
    && (one.fills && (first.is_empty && is_later_beside owners first.item one.item))

-- whether at once an identifier sets up a member or the prototype of its binding after the first
-- declaration
abbrev pub sets_up_after : List (Option ℕ) → Option Seen → Seen → Bool
sets_up_after owners None one = false
sets_up_after owners (Some first) one =
    not one.declares
    && (not one.is_later && (one.sets_up && is_later_beside owners first.item one.item))

-- whether an identifier stands in the item of this one
abbrev pub is_beside : Option Seen → Seen → Bool
is_beside None one = false
is_beside (Some filler) one = nat_eq filler.item one.item

-- whether by an identifier its item declares the binding or sets it up, where these are the first
-- declaration of the binding and what first gives it a value
abbrev pub provides : List (Option ℕ) → Option Seen → Option Seen → Seen → Bool
provides owners first filler one =
    one.declares || (sets_up_after owners first one || is_beside filler one)

-- what is known of the binding of an identifier
abbrev pub known_of : List (Option Seen) → Seen → Option Seen
known_of known one = slice_index_or known one.binding None

-- the binding and the item
abbrev pub binding_and_item : Seen → ℕ × ℕ
binding_and_item one = (one.binding, one.item)

-- the item and the binding
abbrev pub item_and_binding : Seen → ℕ × ℕ
item_and_binding one = (one.item, one.binding)

-- whether an identifier refers to its binding
abbrev pub refers : Seen → Bool
refers one = not one.declares

-- whether an item belongs to no module
abbrev pub is_free_item : Option ℕ → Bool
is_free_item None = true
is_free_item (Some m) = false

-- whether an identifier refers to its binding at once, or in a free item
abbrev pub refers_strongly : List (Option ℕ) → Seen → Bool
refers_strongly owners one =
    not one.declares && (not one.is_later || is_free_item (slice_index_or owners one.item None))

-- whether this is the binding of an identifier
abbrev pub is_of : ℕ → Seen → Bool
is_of b one = nat_eq one.binding b

-- whether it declares its binding
abbrev pub declares_binding : Seen → Bool
declares_binding one = one.declares
