-- Which number each binding of a table gets, by the bindings that had their turn before it.
use Rattle.std.specs.Prelude.{◌≡◌, ◌<◌, ◌≤◌, ◌+◌, ◌⊎◌, ℕ, zero, suc, ◌==◌, ◌&&◌, ◌||◌, Bool, true, false, cond, not, List, [], ◌∷◌, Option, Some, None, bytes_eq, length, map, find, take, slice_get, unwrap_or}
use Rattle.std.specs.Option.{option_map, option_or}
use Rattle.std.specs.List.{list_any}
use Rattle.bundle_syntax.specs.Item as h
use Rattle.bundle_syntax.specs.Item.{Item}
use Rattle.bundle_rules.specs.Homes.{is_arguments}
use Rattle.bundle_rules.specs.Renaming.{numbered}
use Rattle.bundle_rules.specs.Nodes.{Text}
use Rattle.bundle_scope_denote.specs.declared.table.Binding.{Binding}
use Rattle.bundle_scope_denote.specs.declared.table.Denoted.{Denoted}
use Rattle.bundle_scope_denote.specs.declared.table.Denotations.{Denotations}
use Rattle.bundle_scope_denote.specs.Numbers as n
use Rattle.bundle_scope_denote.specs.Numbers.{NumberedScope}
use Rattle.bundle_scope_denote.specs.Chains.{outer_at, scopes_outwards, passes}
use Rattle.bundle_scope_denote.specs.Bound.{joins_outer}
use Rattle.bundle_scope_names.specs.declared.names.Names.{Names}
use Rattle.bundle_scope_names.specs.Called.{binding_text, context_of}

-- what the rule reads: the scopes, the scope and the symbol of each binding, the occurrences with
-- what they denote, and the list
pub record Facts : Type 0 where
  pub scopes : List NumberedScope
  pub homes : List ℕ
  pub symbols : List Text
  pub occurrences : List Denoted
  pub items : List Item

-- the symbols by which names call bindings, from the one with this number on
abbrev pub symbols_from : Names → ℕ → List Binding → List Text
symbols_from names number [] = []
symbols_from names number (x ∷ rest) =
    unwrap_or (binding_text names number) x.sym.now ∷ symbols_from names (number + 1) rest

abbrev pub homes_of : List Binding → List ℕ
homes_of bindings = map (λ binding. binding.scope) bindings

-- what the rule reads of a table, where names call its bindings so
abbrev pub facts_of : Denotations → List Item → Names → Facts
facts_of table items names =
    record {
      scopes = map n.numbered_scope table.scopes.items;
      homes = homes_of table.bindings.items;
      symbols = symbols_from names 0 table.bindings.items;
      occurrences = table.occurrences.items;
      items = items;
    }

-- the symbol of a binding, and the number of its scope
abbrev pub binding_symbol : Facts → ℕ → Text
binding_symbol facts binding = unwrap_or (slice_get facts.symbols binding) []

abbrev pub home_number : Facts → ℕ → ℕ
home_number facts binding = unwrap_or (slice_get facts.homes binding) 0

-- the symbol of an identifier
abbrev pub symbol_by : Option Item → Option Text
symbol_by (Some (h.Ident field sym ctxt role)) = Some sym
symbol_by _ = None

-- whether there is this symbol
abbrev pub is_symbol : Text → Option Text → Bool
is_symbol text None = false
is_symbol text (Some sym) = bytes_eq sym text

-- the number of the scope whose names keep apart with those of a scope
abbrev pub group_number : List NumberedScope → ℕ → ℕ
group_number scopes number =
    cond (passes joins_outer scopes number) (unwrap_or (outer_at scopes number) number) number

-- whether a scope is one or stands around one
abbrev pub is_around : List NumberedScope → (from : ℕ) → ℕ → Bool
is_around scopes from scope =
    list_any (λ number. number == scope) (scopes_outwards scopes (length scopes) (Some from))

-- a binding that had its turn, and the number that it got: zero where it keeps its symbol
pub record Turn : Type 0 where
  pub binding : ℕ
  pub number : ℕ

abbrev pub keeps_symbol : Turn → Bool
keeps_symbol turn = turn.number == 0

-- whether a binding keeps this symbol in a group
abbrev pub keeps_in : Facts → (group : ℕ) → Text → Turn → Bool
keeps_in facts group text turn =
    keeps_symbol turn
    && (group_number facts.scopes (home_number facts turn.binding) == group
    && bytes_eq (binding_symbol facts turn.binding) text)

abbrev pub is_kept : Facts → List Turn → (group : ℕ) → Text → Bool
is_kept facts done group text = list_any (keeps_in facts group text) done

-- whether a binding had its turn and keeps its symbol
abbrev pub keeps_own : ℕ → Turn → Bool
keeps_own binding turn = keeps_symbol turn && turn.binding == binding

-- whether what has this number is a global of this symbol, or a binding that keeps it
abbrev pub needs_by : Facts → List Turn → Text → Option Text → Option ℕ → Bool
needs_by facts done text sym None = is_symbol text sym
needs_by facts done text sym (Some binding) =
    bytes_eq (binding_symbol facts binding) text && list_any (keeps_own binding) done

-- whether an occurrence needs the symbol
abbrev pub needs : Facts → List Turn → Text → Denoted → Bool
needs facts done text occurrence =
    needs_by facts done text (symbol_by (slice_get facts.items occurrence.place)) occurrence.binding

-- whether an occurrence in the scope needs the symbol
abbrev pub needs_in : Facts → List Turn → (scope : ℕ) → Text → Denoted → Bool
needs_in facts done scope text occurrence =
    is_around facts.scopes occurrence.scope scope && needs facts done text occurrence

abbrev pub is_symbol_needed : Facts → List Turn → (scope : ℕ) → Text → Bool
is_symbol_needed facts done scope text = list_any (needs_in facts done scope text) facts.occurrences

-- whether a binding may keep its symbol: no declared `arguments` does, nor one whose symbol is kept
-- in its group or needed in its scope
abbrev pub may_keep_symbol : Facts → List Turn → ℕ → Bool
may_keep_symbol facts done binding =
    not (is_arguments (binding_symbol facts binding))
    && not
    (is_kept facts done (group_number facts.scopes (home_number facts binding))
    (binding_symbol facts binding))
    && not
    (is_symbol_needed facts done (home_number facts binding) (binding_symbol facts binding))

-- whether an occurrence is a global of this symbol, or declares a binding of it
abbrev pub is_global_by : Text → Option Text → Option ℕ → Bool
is_global_by text sym None = is_symbol text sym
is_global_by text sym (Some binding) = false

abbrev pub is_called_by : List Text → Text → Option Text → (declares_number : Bool) → Option ℕ →
    Bool
is_called_by symbols text sym declares_number None = is_symbol text sym
is_called_by symbols text sym declares_number (Some binding) =
    declares_number && is_symbol text (slice_get symbols binding)

abbrev pub is_binding_called : Facts → Text → Denoted → Bool
is_binding_called facts text occurrence =
    is_called_by facts.symbols text (symbol_by (slice_get facts.items occurrence.place))
    occurrence.declares occurrence.binding

-- whether a text is that of a global or of a declared binding beforehand
abbrev pub is_before : Facts → Text → Bool
is_before facts text = list_any (is_binding_called facts text) facts.occurrences

-- whether a binding got this text
abbrev pub gets : Facts → Text → Turn → Bool
gets facts text turn =
    not (keeps_symbol turn)
    && bytes_eq (numbered (binding_symbol facts turn.binding) turn.number) text

abbrev pub is_text_taken : Facts → List Turn → Text → Bool
is_text_taken facts done text = is_before facts text || list_any (gets facts text) done

-- whether each number from one up to this one passes
abbrev pub all_to : (ℕ → Bool) → ℕ → Bool
all_to test zero = true
all_to test (suc k) = test (suc k) && all_to test k

-- whether a number is the least from one on that fails
abbrev pub is_least : (ℕ → Bool) → ℕ → Bool
is_least test zero = false
is_least test (suc k) = not (test (suc k)) && all_to test k

-- whether the next binding has the number that it is to have
abbrev pub is_right : Facts → List Turn → Turn → Bool
is_right facts done turn =
    cond (may_keep_symbol facts done turn.binding) (keeps_symbol turn)
    (is_least
    (λ number. is_text_taken facts done (numbered (binding_symbol facts turn.binding) number))
    turn.number)

-- each has, after those before it
abbrev pub AreTurnsRight : Facts → List Turn → Type 0
AreTurnsRight facts turns =
    (i : ℕ) (turn : Turn) →
    slice_get turns i ≡ Some turn →
    is_right facts (take i turns) turn ≡ true

-- whether there is this number
abbrev pub is_this_number : ℕ → Option ℕ → Bool
is_this_number number None = false
is_this_number number (Some other) = other == number

-- whether an occurrence denotes a binding, and whether it declares one
abbrev pub denotes : ℕ → Denoted → Bool
denotes number occurrence = is_this_number number occurrence.binding

abbrev pub declares_number : ℕ → Denoted → Bool
declares_number number occurrence = occurrence.declares && denotes number occurrence

-- the place of the first occurrence that declares a binding
abbrev pub first_of : List Denoted → ℕ → Option ℕ
first_of occurrences number =
    option_map (λ occurrence. occurrence.place) (find (declares_number number) occurrences)

-- the first place once one more occurrence was met
abbrev pub first_after : Denoted → ℕ → Option ℕ → Option ℕ
first_after occurrence number first =
    option_or first (cond (declares_number number occurrence) (Some occurrence.place) None)

-- a binding by its scope, its first place and its number
abbrev pub Place : Type 0
Place = ℕ × ℕ × ℕ

-- whether one binding comes before another, or has its turn with it
abbrev pub ComesBefore : Place → Place → Type 0
ComesBefore a b = (a.0 < b.0) ⊎ ((a.0 ≡ b.0) × (a.1 ≤ b.1))

-- the bindings that occurrences declare, each once, in the order of their scopes, and in a scope by
-- their first place
pub record AreInTurn
    (homes : List ℕ) (occurrences : List Denoted) (places : List Place) : Type 0 where
  pub home : (i : ℕ) (a : Place) → slice_get places i ≡ Some a → slice_get homes a.2 ≡ Some a.0
  pub first : (i : ℕ) (a : Place) →
      slice_get places i ≡ Some a →
      first_of occurrences a.2 ≡ Some a.1
  pub all : (number first : ℕ) →
      number < length homes →
      first_of occurrences number ≡ Some first →
      (i : ℕ) × (a : Place) × (slice_get places i ≡ Some a) × (a.2 ≡ number)
  pub once : (i j : ℕ) (a b : Place) →
      slice_get places i ≡ Some a →
      slice_get places j ≡ Some b →
      a.2 ≡ b.2 →
      i ≡ j
  pub order : (i j : ℕ) (a b : Place) →
      i < j →
      slice_get places i ≡ Some a →
      slice_get places j ≡ Some b →
      ComesBefore a b

-- the text that a binding gets at its turn, where it does not keep its symbol
abbrev pub text_given : Facts → Turn → Option Text
text_given facts turn =
    cond (keeps_symbol turn) None (Some (numbered (binding_symbol facts turn.binding) turn.number))

-- the new text of a binding that had its turn
abbrev pub text_by : Facts → Names → Turn → Option Text
text_by facts keywords turn =
    cond (keeps_symbol turn) (binding_text keywords turn.binding)
    (Some (numbered (binding_symbol facts turn.binding) turn.number))

-- these are what bindings are called that had their turn; all others are called as before
pub record AreCalledAfter
    (facts : Facts) (keywords : Names) (turns : List Turn) (names : Names) : Type 0 where
  pub right : AreTurnsRight facts turns
  pub texts : (i : ℕ) (turn : Turn) →
      slice_get turns i ≡ Some turn →
      binding_text names turn.binding ≡ text_by facts keywords turn
  pub others : (number : ℕ) →
      number < length facts.homes →
      list_any (λ turn. turn.binding == number) turns ≡ false →
      binding_text names number ≡ binding_text keywords number
  pub contexts : (number : ℕ) →
      number < length facts.homes →
      context_of names number ≡ context_of keywords number

-- the names of a table's bindings, where keywords' names call them so before
pub record AreBindingsNamed
    (table : Denotations) (items : List Item) (keywords names : Names) : Type 0 where
  pub places : List Place
  pub in_turn : AreInTurn (homes_of table.bindings.items) table.occurrences.items places
  pub turns : List Turn
  pub same : map (λ (turn : Turn). turn.binding) turns ≡ map (λ (place : Place). place.2) places
  pub called : AreCalledAfter (facts_of table items keywords) keywords turns names
