-- A module that is put together of items, each of which is whole nodes: where its names stand, and
-- what they denote.
use Rattle.std.specs.Prelude.{◌≡◌, ℕ, zero, suc, ◌+◌, Bool as Truth, false, cond, not, ◌&&◌, List, [], ◌∷◌, ◌++◌, Option, Some, None, is_some, map, take, length}
use Rattle.std.specs.List.{list_any}
use Rattle.bundle_syntax.specs.Item as h
use Rattle.bundle_syntax.specs.Item.{Item}
use Rattle.bundle_rules.specs.Places.{Around, Occurrence}
use Rattle.bundle_rules.specs.Scopes.{Es, Scope, Wrapper, Top, Inner}
use Rattle.bundle_rules.specs.Declarations.{ByContext, Name, Declared, declared, is_nameless_default}
use Rattle.bundle_rules.specs.Denotes.{Denoted, Bound, Global, is_written_in}
use Rattle.bundle_rules.specs.Parts.{tree_of_items}
use Rattle.bundle_rules.specs.Sorting.{flat}

-- the module that is put together of items
abbrev pub joined_items : List (List Item) → List Item
joined_items items = tree_of_items (flat items)

-- how many nodes are open behind these elements, of which so many were before; nothing where more
-- end than were open
abbrev pub open_behind : ℕ → List Item → Option ℕ
open_behind depth [] = Some depth
open_behind depth (h.Open field head ∷ rest) = open_behind (suc depth) rest
open_behind depth (h.Ident field sym ctxt role ∷ rest) = open_behind depth rest
open_behind depth (h.Hole field ∷ rest) = open_behind depth rest
open_behind zero (h.Close ∷ rest) = None
open_behind (suc depth) (h.Close ∷ rest) = open_behind depth rest

-- none of these is a default export without a name
abbrev pub AreNamed : List Item → Type 0
AreNamed [] = Unit {0}
AreNamed (x ∷ xs) = (is_nameless_default x xs ≡ false) × AreNamed xs

-- the item alone is named
abbrev pub IsNamed : List Item → Type 0
IsNamed item = AreNamed (item ++ h.Close ∷ [])

-- each of the elements has this
abbrev pub AllOf : {A : Type 0} → (A → Type 0) → List A → Type 0
AllOf P [] = Unit {0}
AllOf P (x ∷ xs) = P x × AllOf P xs

-- an item is whole nodes, one after another
abbrev pub IsWholeItem : List Item → Type 0
IsWholeItem item = open_behind 0 item ≡ Some 0

-- a position so many places further on; the module's own node stays
abbrev pub moved : ℕ → ℕ → ℕ
moved k zero = zero
moved k (suc begins) = suc begins + k

-- what stands so many places further on
abbrev pub moved_node : ℕ → Around → Around
moved_node k node = record { head = node.head; begins = moved k node.begins; field = node.field }

abbrev pub moved_path : ℕ → List Around → List Around
moved_path k path = map (moved_node k) path

abbrev pub moved_occurrence : ℕ → Occurrence → Occurrence
moved_occurrence k o =
    record {
      place = o.place + k;
      sym = o.sym;
      ctxt = o.ctxt;
      role = o.role;
      path = moved_path k o.path;
    }

-- a scope whose node begins elsewhere
abbrev pub relocated : (ℕ → ℕ) → Scope → Scope
relocated f Wrapper = Wrapper
relocated f Top = Top
relocated f (Inner kind begins) = Inner kind (f begins)

abbrev pub moved_scope : ℕ → Scope → Scope
moved_scope k scope = relocated (moved k) scope

abbrev pub moved_declared : ℕ → Declared → Declared
moved_declared k d =
    record { place = d.place + k; name = d.name; by = d.by; scopes = map (moved_scope k) d.scopes }

abbrev pub moved_denoted : ℕ → Denoted → Denoted
moved_denoted k (Bound scope name) = Bound (moved_scope k scope) name
moved_denoted k (Global sym) = Global sym

-- how many elements stand before the item of this number
abbrev pub offset : List (List Item) → ℕ → ℕ
offset items m = length (flat (take m items))

-- what is told of each item, so many places further on as elements stand before it
abbrev pub each_moved : {A : Type 0} → (ℕ → A → A) → (List Item → List A) → ℕ → List (List Item) →
    List A
each_moved move tell k [] = []
each_moved move tell k (item ∷ more) =
    map (move k) (tell item) ++ each_moved move tell (k + length item) more

-- what an item declares, by itself
abbrev pub own_declared : List Item → List Declared
own_declared item = declared ByContext Es (tree_of_items item)

-- whether some item declares the name at its top, by itself
abbrev pub is_item_top_name : List (List Item) → Name → Truth
is_item_top_name items name = list_any (λ item. is_written_in (own_declared item) Top name) items

-- whether an identifier declares what is denoted: an implicit `arguments` has none, and neither
-- has a global
abbrev pub is_global_written : Denoted → Truth
is_global_written (Bound scope name) = is_some name.ctxt
is_global_written (Global sym) = false

-- what a name denotes in the whole that denotes this in its item by itself: the binding of the
-- top, if some item declares one and it was written nowhere around; else the same
abbrev pub denoted_in_whole : (is_top : Truth) → ℕ → Name → Denoted → Denoted
denoted_in_whole is_top k name d =
    cond (not (is_global_written d) && is_top) (Bound Top name) (moved_denoted k d)
