-- What the table says of a list.
use Rattle.std.specs.Prelude.{◌≡◌, ℕ, Bool, List, Option, Some, None, is_some, map, slice_get}
use Rattle.std.specs.List.{AllZip}
use Rattle.bundle_syntax.specs.Item.{Item}
use Rattle.bundle_rules.specs.Places.{Occurrence, occurrences}
use Rattle.bundle_rules.specs.Scopes.{ModuleKind, Scope, scopes_around}
use Rattle.bundle_rules.specs.Declarations.{Reading, Name, Declared, declared, declaration_of}
use Rattle.bundle_rules.specs.Homes.{home_of}
use Rattle.bundle_rules.specs.Denotes as e
use Rattle.bundle_scope_denote.specs.declared.table.Binding.{Binding}
use Rattle.bundle_scope_denote.specs.declared.table.Denoted.{Denoted}
use Rattle.bundle_scope_denote.specs.declared.table.Denotations.{Denotations}
use Rattle.bundle_scope_denote.specs.declared.table.Doubled.{Doubled}
use Rattle.bundle_scope_denote.specs.declared.walk.NameOccurrence.{NameOccurrence as Seen}
use Rattle.bundle_scope_denote.specs.Numbers.{NumberedScope, numbered_scope, AreAround}
use Rattle.bundle_scope_denote.specs.Chains.{numbered_scope_at, top_number, AreInOrder, IsOnlyTopOf}
use Rattle.bundle_scope_denote.specs.Ready.{binding_name}

-- the binding with this number is that of the name in the scope
pub record IsBinding
    (scopes : List NumberedScope) (bindings : List Binding) (number : ℕ) (scope : Scope)
    (name : Name) : Type 0 where
  pub binding : Binding
  pub at : slice_get bindings number ≡ Some binding
  pub in_scope : numbered_scope_at scopes binding.scope ≡ Some scope
  pub named : binding_name binding ≡ name

-- the number of a binding, or none for a global, says what is denoted
abbrev pub IsDenoted : List NumberedScope → List Binding → Option ℕ → e.Denoted → Type 0
IsDenoted scopes bindings None (e.Global symbol) = Unit {0}
IsDenoted scopes bindings None (e.Bound scope name) = ⊥
IsDenoted scopes bindings (Some number) (e.Global symbol) = ⊥
IsDenoted scopes bindings (Some number) (e.Bound scope name) =
    IsBinding scopes bindings number scope name

-- an entry of the table is that of an occurrence: it says where it stands, which scopes are around
-- it, and whether it declares
pub record IsTableEntry
    (scopes : List NumberedScope) (reading : Reading) (kind : ModuleKind) (entry : Denoted)
    (occurrence : Occurrence) : Type 0 where
  pub place : entry.place ≡ occurrence.place
  pub around : AreAround scopes (Some entry.scope) (scopes_around kind occurrence.path)
  pub declares : entry.declares ≡ is_some (declaration_of reading kind occurrence)

-- what an entry denotes
abbrev pub TellsDenoted : List NumberedScope → List Binding → Denoted → e.Denoted → Type 0
TellsDenoted scopes bindings entry denoted = IsDenoted scopes bindings entry.binding denoted

-- the scope with this number is the only one of the table that is the top
abbrev pub IsOnlyTop : Denotations → ℕ → Type 0
IsOnlyTop table top = IsOnlyTopOf (map numbered_scope table.scopes.items) top

-- the table has an entry for each occurrence of a list, in their order, and says what each denotes;
-- each declared name has a binding, and no two bindings are one; the top has its number, and scopes
-- stand in the order of their nodes
pub record IsDenotationTable
    (reading : Reading) (kind : ModuleKind) (items : List Item) (table : Denotations) : Type 0 where
  pub occurrences :
      AllZip (IsTableEntry (map numbered_scope table.scopes.items) reading kind)
      table.occurrences.items (occurrences items)
  pub denotes :
      AllZip (TellsDenoted (map numbered_scope table.scopes.items) table.bindings.items)
      table.occurrences.items (e.denotations reading kind items)
  pub declared : (i : ℕ) (x : Declared) →
      slice_get (declared reading kind items) i ≡ Some x →
      (number : ℕ)
      × IsBinding (map numbered_scope table.scopes.items) table.bindings.items number
      (home_of (declared reading kind items) x) x.name
  pub one : (i j : ℕ) (scope : Scope) (name : Name) →
      IsBinding (map numbered_scope table.scopes.items) table.bindings.items i scope name →
      IsBinding (map numbered_scope table.scopes.items) table.bindings.items j scope name →
      i ≡ j
  pub top : IsOnlyTop table (top_number kind)
  pub order : AreInOrder (map numbered_scope table.scopes.items)

-- the place of a declaration and the symbol of its name
abbrev pub place_and_symbol : Declared → ℕ × List ℕ
place_and_symbol declared = (declared.place, declared.name.sym)

-- the same as the code tells them
abbrev pub doubled_told : Doubled → ℕ × List ℕ
doubled_told doubled = (doubled.place, doubled.name.now)

-- what an entry takes from an occurrence that was met: the place, the scope, and whether it
-- declares
abbrev pub copy_of : Denoted → ℕ × ℕ × Bool
copy_of denoted = (denoted.place, denoted.scope, denoted.declares)

abbrev pub copied_from : Seen → ℕ × ℕ × Bool
copied_from seen = (seen.place, seen.scope, is_some seen.declaration)
