-- Symbols that are marked in scopes, and what is known of the bindings that had their turn.
use Rattle.std.specs.Prelude.{◌≡◌, ◌<◌, ◌≤◌, ℕ, ◌==◌, ◌&&◌, ◌||◌, not, cond, Bool, true, false, Option, Some, None, List, position, bytes_eq, string_bytes, unwrap_or, map, filter, slice_get}
use Rattle.std.specs.List.{list_any}
use Rattle.bundle_syntax.specs.Item.{Item}
use Rattle.bundle_rules.specs.Renaming.{numbered}
use Rattle.bundle_rules.specs.Homes.{is_arguments}
use Rattle.bundle_rules.specs.Nodes.{Text}
use Rattle.bundle_scope_denote.specs.declared.table.Denoted.{Denoted}
use Rattle.bundle_scope_denote.specs.Numbers.{NumberedScope}
use Rattle.bundle_scope_names.specs.declared.hygiene.Hygiene.{Hygiene}
use Rattle.bundle_scope_names.specs.Turns.{Facts, Turn, is_symbol, denotes, is_around, is_kept, is_symbol_needed, is_before, gets, is_least, is_called_by, is_global_by, symbol_by}
use Rattle.std.specs.Borrow.{Bor}

-- a symbol as it stands in a table
abbrev pub Symbol : Type 0
Symbol = Bor Text

-- whether a text is among symbols, and the number of the first that it is
abbrev pub is_among : Text → List Symbol → Bool
is_among text symbols = list_any (λ key. bytes_eq text key.now) symbols

abbrev pub symbol_number : List Symbol → Text → Option ℕ
symbol_number symbols text = position (λ key. bytes_eq text key.now) symbols

-- a scope or a group with a symbol, each by its number
abbrev pub SymbolKey : Type 0
SymbolKey = ℕ × ℕ

-- what is marked, where symbols have these numbers
pub record HygieneMarks : Type 0 where
  pub symbols : List Symbol
  pub keys : List SymbolKey

abbrev pub marked : List Symbol → List SymbolKey → HygieneMarks
marked symbols keys = record { symbols = symbols; keys = keys }

-- whether the key of the scope or group with this number and of the symbol with that one is there
abbrev pub has_key : ℕ → Option ℕ → List SymbolKey → Bool
has_key number None keys = false
has_key number (Some symbol) keys = list_any (λ key. number == key.0 && symbol == key.1) keys

-- whether the symbol is marked in the scope or group with this number
abbrev pub is_marked_in : ℕ → Text → HygieneMarks → Bool
is_marked_in number text marks = has_key number (symbol_number marks.symbols text) marks.keys

-- what is needed, and what is kept
abbrev pub needed_by : Hygiene → HygieneMarks
needed_by hygiene = marked hygiene.symbols.keys hygiene.needed.keys

abbrev pub marks_kept : Hygiene → HygieneMarks
marks_kept hygiene = marked hygiene.symbols.keys hygiene.kept.keys

-- what is marked in a scope is marked in those around it
abbrev pub IsClosed : List NumberedScope → HygieneMarks → Type 0
IsClosed scopes marks =
    (scope around : ℕ) (text : Text) →
    is_marked_in scope text marks ≡ true →
    is_around scopes scope around ≡ true →
    is_marked_in around text marks ≡ true

-- the symbol was marked in these scopes and in those around them
pub record Marks
    (scopes : List NumberedScope) (uses : List ℕ) (text : Text)
    (old new : HygieneMarks) : Type 0 where
  pub closed : IsClosed scopes new
  pub marks : (scope : ℕ) (other : Text) →
      is_marked_in scope other new
      ≡ (is_marked_in scope other old
      || (bytes_eq other text && list_any (λ from. is_around scopes from scope) uses))

-- whether a text is a symbol, and whether it was given
abbrev pub has_symbol : Hygiene → Text → Bool
has_symbol hygiene text = is_among text hygiene.symbols.keys

abbrev pub has_given : Hygiene → Text → Bool
has_given hygiene text = list_any (λ key. bytes_eq text (string_bytes key)) hygiene.given.keys

-- whether a text is taken
abbrev pub has_taken : Hygiene → Text → Bool
has_taken hygiene text = has_symbol hygiene text || has_given hygiene text

-- what stands at the number of a symbol, or zero
abbrev pub last_by : List ℕ → Option ℕ → ℕ
last_by last None = 0
last_by last (Some symbol) = unwrap_or (slice_get last symbol) 0

-- the last number that was tried for a symbol, or zero
abbrev pub last_of : Hygiene → Text → ℕ
last_of hygiene text = last_by hygiene.last.items (symbol_number hygiene.symbols.keys text)

-- whether a binding may keep its symbol, by what is marked
abbrev pub may_keep_by : Hygiene → (home group : ℕ) → Text → Bool
may_keep_by hygiene home group text =
    not (is_arguments text) && not (is_marked_in group text (marks_kept hygiene))
    && not (is_marked_in home text (needed_by hygiene))

-- a binding keeps its symbol
pub record KeepsItsSymbol
    (scopes : List NumberedScope) (group : ℕ) (text : Text) (uses : List ℕ)
    (old new : Hygiene) : Type 0 where
  pub kept : (number : ℕ) (other : Text) →
      is_marked_in number other (marks_kept new)
      ≡ (is_marked_in number other (marks_kept old) || (number == group && bytes_eq other text))
  pub needed : IsClosed scopes (needed_by old) →
      Marks scopes uses text (needed_by old) (needed_by new)
  pub symbols : new.symbols.keys ≡ old.symbols.keys
  pub given : new.given.keys ≡ old.given.keys
  pub last : (other : Text) → last_of new other ≡ last_of old other

-- each number from one up to the last one makes a text that is taken
abbrev pub AreTried : Hygiene → Text → Type 0
AreTried hygiene text =
    (number : ℕ) →
    0 < number →
    number ≤ last_of hygiene text →
    has_taken hygiene (numbered text number) ≡ true

-- a binding gets a text
pub record GivesText (text : Text) (number : ℕ) (old new : Hygiene) : Type 0 where
  pub is_least : AreTried old text →
      is_least (λ other. has_taken old (numbered text other)) number ≡ true
  pub kept : marks_kept new ≡ marks_kept old
  pub needed : needed_by new ≡ needed_by old
  pub symbols : new.symbols.keys ≡ old.symbols.keys
  pub given : (other : Text) →
      has_given new other ≡ (has_given old other || bytes_eq other (numbered text number))
  pub last : (other : Text) →
      last_of new other ≤ cond (bytes_eq text other) number (last_of old other)

-- what is known once these bindings had their turn
pub record Knows (facts : Facts) (done : List Turn) (hygiene : Hygiene) : Type 0 where
  pub symbols : (text : Text) → has_symbol hygiene text ≡ is_before facts text
  pub needed : (scope : ℕ) (text : Text) →
      is_marked_in scope text (needed_by hygiene) ≡ is_symbol_needed facts done scope text
  pub closed : IsClosed facts.scopes (needed_by hygiene)
  pub kept : (group : ℕ) (text : Text) →
      is_marked_in group text (marks_kept hygiene) ≡ is_kept facts done group text
  pub given : (text : Text) → has_given hygiene text ≡ list_any (gets facts text) done
  pub tried : (text : Text) → AreTried hygiene text

-- whether an occurrence is a global of this symbol, or declares a binding of it
abbrev pub is_called_in : List Item → List Text → Text → Denoted → Bool
is_called_in items texts text occurrence =
    is_called_by texts text (symbol_by (slice_get items occurrence.place)) occurrence.declares
    occurrence.binding

-- the symbol of an occurrence that is a global or declares a binding
abbrev pub symbol_called : List Text → Option Text → (declares : Bool) → Option ℕ → Option Text
symbol_called texts sym declares None = sym
symbol_called texts sym declares (Some binding) = cond declares (slice_get texts binding) None

-- a symbol that has a number is needed in a scope, if there is one
pub record AddsGlobal
    (scopes : List NumberedScope) (from : ℕ) (symbol : Option Text)
    (old new : Hygiene) : Type 0 where
  pub symbols : new.symbols.keys ≡ old.symbols.keys
  pub needed : ((text : Text) → is_symbol text symbol ≡ true → has_symbol old text ≡ true) →
      IsClosed scopes (needed_by old) →
      (scope : ℕ) (text : Text) →
      is_marked_in scope text (needed_by new)
      ≡ (is_marked_in scope text (needed_by old)
      || (is_around scopes from scope && is_symbol text symbol))
  pub closed : ((text : Text) → is_symbol text symbol ≡ true → has_symbol old text ≡ true) →
      IsClosed scopes (needed_by old) → IsClosed scopes (needed_by new)
  pub kept : new.kept.keys ≡ old.kept.keys
  pub given : new.given.keys ≡ old.given.keys
  pub last : new.last.items ≡ old.last.items

-- the symbol of an occurrence is needed, if it is a global, whose symbol has a number
pub record AddsNeed
    (scopes : List NumberedScope) (items : List Item) (occurrence : Denoted)
    (old new : Hygiene) : Type 0 where
  pub symbols : new.symbols.keys ≡ old.symbols.keys
  pub needed :
      ((text : Text) →
      is_global_by text (symbol_by (slice_get items occurrence.place)) occurrence.binding ≡ true →
      has_symbol old text ≡ true) →
      IsClosed scopes (needed_by old) →
      (scope : ℕ) (text : Text) →
      is_marked_in scope text (needed_by new)
      ≡ (is_marked_in scope text (needed_by old)
      || (is_around scopes occurrence.scope scope
      && is_global_by text (symbol_by (slice_get items occurrence.place))
      occurrence.binding))
  pub closed :
      ((text : Text) →
      is_global_by text (symbol_by (slice_get items occurrence.place)) occurrence.binding ≡ true →
      has_symbol old text ≡ true) →
      IsClosed scopes (needed_by old) → IsClosed scopes (needed_by new)
  pub kept : new.kept.keys ≡ old.kept.keys
  pub given : new.given.keys ≡ old.given.keys
  pub last : new.last.items ≡ old.last.items

-- the scopes of the occurrences that denote a binding
abbrev pub binding_scopes : List Denoted → ℕ → List ℕ
binding_scopes occurrences number =
    map (λ occurrence. occurrence.scope) (filter (denotes number) occurrences)
