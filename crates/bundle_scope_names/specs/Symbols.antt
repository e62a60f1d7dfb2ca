-- The symbols before any binding is named, and their numbers.
use Rattle.std.specs.Prelude.{◌≡◌, ◌<◌, ℕ, ◌||◌, true, false, List, [], Option, Some, length, slice_get, unwrap_or}
use Rattle.std.specs.List.{list_any}
use Rattle.bundle_syntax.specs.Item.{Item}
use Rattle.bundle_rules.specs.Nodes.{Text}
use Rattle.bundle_scope_denote.specs.declared.table.Denoted.{Denoted}
use Rattle.bundle_scope_names.specs.declared.hygiene.Before.{Before}
use Rattle.bundle_scope_names.specs.Called.{at}
use Rattle.bundle_scope_names.specs.Turns.{declares_number}
use Rattle.bundle_scope_names.specs.Marks.{Symbol, is_among, is_called_in, symbol_number}

-- a binding's symbol has a number
pub record HasSymbolNumber
    (texts : List Text) (keys : List Symbol) (numbers : List (Option ℕ))
    (binding : ℕ) : Type 0 where
  pub number : ℕ
  pub is : at numbers binding ≡ Some number
  pub own : symbol_number keys (unwrap_or (slice_get texts binding) []) ≡ Some number

-- the symbol of each binding that these occurrences declare has one
abbrev pub HaveSymbolNumbers : List Text → List Denoted → List Symbol → List (Option ℕ) → Type 0
HaveSymbolNumbers texts occurrences keys numbers = (binding : ℕ) →
    binding < length texts →
    list_any (declares_number binding) occurrences ≡ true →
    HasSymbolNumber texts keys numbers binding

-- the symbol of an occurrence is added, if it is a global or declares a binding, and numbers stay
pub record AddsSymbol
    (items : List Item) (texts : List Text) (occurrence : Denoted) (old new : Before) : Type 0 where
  pub symbols : (text : Text) →
      is_among text new.symbols.keys
      ≡ (is_among text old.symbols.keys || is_called_in items texts text occurrence)
  pub stay : (text : Text) (number : ℕ) →
      symbol_number old.symbols.keys text ≡ Some number →
      symbol_number new.symbols.keys text ≡ Some number
  pub count : length new.numbers.items ≡ length old.numbers.items
  pub others : (binding : ℕ) →
      binding < length old.numbers.items →
      declares_number binding occurrence ≡ false →
      at new.numbers.items binding ≡ at old.numbers.items binding
  pub own : (binding : ℕ) →
      binding < length old.numbers.items →
      declares_number binding occurrence ≡ true →
      HasSymbolNumber texts new.symbols.keys new.numbers.items binding
