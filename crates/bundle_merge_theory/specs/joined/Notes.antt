-- What a linker notes of the names of items that are put together: an inner binding, a name of the
-- top of the whole, or a global.
use Rattle.std.specs.Prelude.{◌≡◌, ◌≢◌, ◌↔◌, ℕ, Bool as Truth, true, false, not, ◌&&◌, List, Some, None, codes, find, slice_get}
use Rattle.std.specs.List.{list_any}
use Rattle.bundle_syntax.specs.Item.{Item}
use Rattle.bundle_rules.specs.Places.{Occurrence, occurrences}
use Rattle.bundle_rules.specs.Scopes.{Es, Wrapper, Top, Inner, scopes_around}
use Rattle.bundle_rules.specs.Declarations.{ByContext, Name, name_of, names_agree, Declared}
use Rattle.bundle_rules.specs.Homes.{home_of, is_top, is_function}
use Rattle.bundle_rules.specs.Denotes.{Denoted, Bound, Global, denoted_of, SameIdent}
use Rattle.bundle_rules.specs.Parts.{tree_of_items}
use Rattle.bundle_merge_theory.specs.joined.Joined.{moved_denoted, own_declared, is_item_top_name, is_global_written}

-- the name that an occurrence has, by symbol and context
abbrev pub its_name : Occurrence → Name
its_name o = name_of ByContext o.sym o.ctxt

-- what an occurrence denotes in an item by itself
abbrev pub own_denoted : List Item → Occurrence → Denoted
own_denoted item o = denoted_of ByContext Es (own_declared item) o

-- whether a binding of an inner scope is denoted
abbrev pub is_inner_denoted : Denoted → Truth
is_inner_denoted (Bound (Inner kind begins) name) = true
is_inner_denoted (Bound Top name) = false
is_inner_denoted (Bound Wrapper name) = false
is_inner_denoted (Global sym) = false

-- whether an inner scope declares the name
abbrev pub is_inner_name : List Declared → Name → Truth
is_inner_name all name =
    list_any (λ d. not (is_top (home_of all d)) && names_agree d.name name) all

-- an occurrence of an item that is one of these
pub data IsOccurrenceNoted
    (items : List (List Item)) (item : List Item) (o : Occurrence) : Type 0 where
  -- by itself it denotes a binding of an inner scope; if it is an `arguments` that nothing
  -- declares there, no item declares it at its top either
  inner : is_inner_denoted (own_denoted item o) ≡ true →
      (is_global_written (own_denoted item o) ≡ false → is_item_top_name items (its_name o) ≡ false)
      →
      IsOccurrenceNoted items item o
  -- its name is declared at the top of some item, and by no inner scope of its own
  top_name : is_item_top_name items (its_name o) ≡ true →
      is_inner_name (own_declared item) (its_name o) ≡ false → IsOccurrenceNoted items item o
  -- it has the context of what nothing binds, and its name is declared nowhere
  free : o.ctxt ≡ 1 → is_item_top_name items (its_name o) ≡ false →
      is_inner_name (own_declared item) (its_name o) ≡ false → IsOccurrenceNoted items item o

-- what is noted is denoted in the whole, where so many elements stand before the item
abbrev pub noted_denoted : {items : List (List Item)} {item : List Item} {o : Occurrence} → ℕ →
    IsOccurrenceNoted items item o → Denoted
noted_denoted {item = item} {o = o} k (inner is unless) = moved_denoted k (own_denoted item o)
noted_denoted {o = o} k (top_name is not_inner) = Bound Top (its_name o)
noted_denoted {o = o} k (free is not_top not_inner) = Global o.sym

-- an occurrence that is listed in an item
abbrev pub IsListedIn : List Item → Occurrence → Type 0
IsListedIn item o = (i : ℕ) × (slice_get (occurrences (tree_of_items item)) i ≡ Some o)

-- inner bindings of an item are told apart from each other and from all else in it
pub record IsResolvedInside (item : List Item) : Type 0 where
  pub same : (a b : Occurrence) → IsListedIn item a → IsListedIn item b →
      is_inner_denoted (own_denoted item a) ≡ true →
      SameIdent a b ↔ (own_denoted item a ≡ own_denoted item b)

-- by itself it denotes a binding of an inner scope, and does so among these items too: an
-- `arguments` that nothing declares there is declared at the top of no item
pub record IsInnerAmong (items : List (List Item)) (item : List Item) (o : Occurrence) :
    Type 0 where
  pub is : is_inner_denoted (own_denoted item o) ≡ true
  pub unless : is_global_written (own_denoted item o) ≡ false →
      is_item_top_name items (its_name o) ≡ false

-- items whose names can be told apart when they are put together
pub record AreItemsApart (items : List (List Item)) : Type 0 where
  pub noted : (m : ℕ) (item : List Item) (o : Occurrence) → slice_get items m ≡ Some item →
      IsListedIn item o → IsOccurrenceNoted items item o
  -- inner bindings of an item are told apart from each other
  pub inside : (m : ℕ) (item : List Item) (a b : Occurrence) → slice_get items m ≡ Some item →
      IsListedIn item a → IsListedIn item b → IsInnerAmong items item a →
      IsInnerAmong items item b → SameIdent a b ↔ (own_denoted item a ≡ own_denoted item b)
  -- what denotes an inner binding of an item shares its symbol and context with nothing of another
  -- item
  pub others : (m n : ℕ) (item other : List Item) (a b : Occurrence) → m ≢ n →
      slice_get items m ≡ Some item → slice_get items n ≡ Some other → IsListedIn item a →
      IsListedIn other b → IsInnerAmong items item a → SameIdent a b → ⊥
  -- no free `arguments` is in a function
  pub own_arguments : (m : ℕ) (item : List Item) (o : Occurrence) → slice_get items m ≡ Some item →
      IsListedIn item o → is_item_top_name items (its_name o) ≡ false →
      own_denoted item o ≡ Global (codes "arguments") →
      find is_function (scopes_around Es o.path) ≡ None

-- the same without notes: they follow where undeclared names have the context of what nothing
-- binds
pub record AreToldApart (items : List (List Item)) : Type 0 where
  pub inside : (m : ℕ) (item : List Item) → slice_get items m ≡ Some item → IsResolvedInside item
  -- a name that its own item does not bind is one of the top of some item, or has the context 1
  pub known : (m : ℕ) (item : List Item) (o : Occurrence) → slice_get items m ≡ Some item →
      IsListedIn item o → own_denoted item o ≡ Global o.sym →
      is_item_top_name items (its_name o) ≡ false → o.ctxt ≡ 1
  pub others : (m n : ℕ) (item other : List Item) (a b : Occurrence) → m ≢ n →
      slice_get items m ≡ Some item → slice_get items n ≡ Some other → IsListedIn item a →
      IsListedIn other b → is_inner_denoted (own_denoted item a) ≡ true → SameIdent a b → ⊥
  pub own_arguments : (m : ℕ) (item : List Item) (o : Occurrence) → slice_get items m ≡ Some item →
      IsListedIn item o → is_item_top_name items (its_name o) ≡ false →
      own_denoted item o ≡ Global (codes "arguments") →
      find is_function (scopes_around Es o.path) ≡ None
