-- What the search for the binding of a name does.
use Rattle.std.specs.Prelude.{◌≡◌, ℕ, true, false, List, Option, Some, None, slice_get}
use Rattle.std.specs.List.{AllZip}
use Rattle.bundle_syntax.specs.Item.{Item}
use Rattle.bundle_rules.specs.Places as p
use Rattle.bundle_rules.specs.Scopes as s
use Rattle.bundle_rules.specs.Declarations as d
use Rattle.bundle_rules.specs.Homes as o
use Rattle.bundle_rules.specs.Denotes as e
use Rattle.bundle_scope_denote.specs.declared.table.Denotations.{Denotations}
use Rattle.bundle_scope_denote.specs.declared.table.Denoted.{Denoted}
use Rattle.bundle_scope_denote.specs.declared.walk.NameOccurrence.{NameOccurrence}
use Rattle.bundle_scope_denote.specs.declared.walk.ScopeWalk.{ScopeWalk}
use Rattle.bundle_scope_denote.specs.declared.denote.BindingsFound.{BindingsFound}
use Rattle.bundle_scope_denote.specs.declared.denote.BindingSearch.{BindingSearch}
use Rattle.bundle_scope_denote.specs.Numbers.{AreAround, KeepsNumbers}
use Rattle.bundle_scope_denote.specs.Chains.{AreInOrder, IsOnce}
use Rattle.bundle_scope_denote.specs.Bound.{ScopeKey, put_key, reads, TellsBound, TellsImplied, SaysDenoted, NumberOf}
use Rattle.bundle_scope_denote.specs.Walked.{IsSeen}
use Rattle.bundle_scope_denote.specs.Steps.{scopes_of, walk_names}
use Rattle.bundle_scope_denote.specs.Ready.{Matches, FindsAlone}
use Rattle.bundle_scope_denote.specs.Listed.{IsDenotationTable, copied_from, copy_of}

-- the keys of the bindings
abbrev pub keys_of : BindingSearch → List ScopeKey
keys_of search = search.bindings.keys.keys

-- the keys once that of a scope that was found is put
abbrev pub put_found : List ScopeKey → (found : Option ℕ) → (name : ℕ) → List ScopeKey
put_found keys None name = keys
put_found keys (Some scope) name = put_key keys (scope, name)

-- the binding of a name in the scope that was found has a number
pub record Puts
    (old new : BindingSearch) (found : Option ℕ) (name : d.Name) (number : ℕ)
    (result : Option ℕ) : Type 0 where
  pub keys : keys_of new ≡ put_found (keys_of old) found number
  pub result_number : NumberOf (keys_of new) number found result
  pub matches : (names : List d.Name) →
      slice_get names number ≡ Some name →
      Matches names old.bindings.items.items (keys_of old) →
      Matches names new.bindings.items.items (keys_of new)
  pub implied : new.implied.keys ≡ old.implied.keys

-- the tables tell what each scope binds; by symbol and context, also what is implied there
pub record IsSearchReady
    (reading : d.Reading) (walk : ScopeWalk) (all : List d.Declared)
    (search : BindingSearch) : Type 0 where
  pub order : AreInOrder (scopes_of walk)
  pub tells : TellsBound reading (scopes_of walk) (walk_names walk) all (keys_of search)
  pub implied : reading ≡ d.ByContext →
      TellsImplied (scopes_of walk) (walk_names walk) all search.implied.keys
  pub nowhere : reading ≡ d.ByContext →
      (name : d.Name) →
      FindsAlone (walk_names walk) name.sym None →
      (scope : s.Scope) →
      e.is_implied_in all scope name ≡ false
  pub once : IsOnce (keys_of search)
  pub matches : Matches (walk_names walk) search.bindings.items.items (keys_of search)

-- the number that was found says what a name denotes, as seen from a scope
pub record Denotes
    (reading : d.Reading) (walk : ScopeWalk) (old new : BindingSearch) (name : d.Name)
    (number from : ℕ) (result : Option ℕ) : Type 0 where
  pub ready : (all : List d.Declared) → IsSearchReady reading walk all old →
      IsSearchReady reading walk all new
  pub keeps : KeepsNumbers (keys_of old) (keys_of new)
  pub says : (all : List d.Declared) (around : List s.Scope) →
      IsSearchReady reading walk all old →
      AreAround (scopes_of walk) (Some from) around →
      reads reading name ≡ true →
      SaysDenoted (scopes_of walk) (walk_names walk) (keys_of new) result
      (e.denoted_in reading all around name)

-- each declaration has the number of its binding
abbrev pub HaveOwnNumbers : ScopeWalk → List d.Declared → List ℕ → List ScopeKey → Type 0
HaveOwnNumbers walk all of keys =
    (i : ℕ) (x : d.Declared) →
    slice_get all i ≡ Some x →
    (number : ℕ) × (slice_get of i ≡ Some number)
    × SaysDenoted (scopes_of walk) (walk_names walk) keys (Some number)
    (e.Bound (o.home_of all x) x.name)

-- the number that was found says what an occurrence denotes
pub record DenotesSeen
    (reading : d.Reading) (walk : ScopeWalk) (of : List ℕ) (old new : BindingSearch)
    (seen : NameOccurrence) (result : Option ℕ) : Type 0 where
  pub ready : (all : List d.Declared) → IsSearchReady reading walk all old →
      IsSearchReady reading walk all new
  pub keeps : KeepsNumbers (keys_of old) (keys_of new)
  pub says : (kind : s.ModuleKind) (all : List d.Declared) (occurrence : p.Occurrence) →
      IsSearchReady reading walk all old →
      HaveOwnNumbers walk all of (keys_of old) →
      IsSeen (scopes_of walk) (walk_names walk) reading kind all seen occurrence →
      SaysDenoted (scopes_of walk) (walk_names walk) (keys_of new) result
      (e.denoted_of reading kind all occurrence)

-- an entry that was made of an occurrence that was met
pub record IsEntryMade
    (reading : d.Reading) (walk : ScopeWalk) (all : List d.Declared) (keys : List ScopeKey)
    (entry : Denoted) (seen : NameOccurrence) : Type 0 where
  pub copied : copy_of entry ≡ copied_from seen
  pub says : (kind : s.ModuleKind) (occurrence : p.Occurrence) →
      IsSeen (scopes_of walk) (walk_names walk) reading kind all seen occurrence →
      SaysDenoted (scopes_of walk) (walk_names walk) keys entry.binding
      (e.denoted_of reading kind all occurrence)

-- how far the occurrences were gone over
pub record IsSearchedTo
    (reading : d.Reading) (walk : ScopeWalk) (of : List ℕ) (all : List d.Declared)
    (search : BindingSearch) (table : List Denoted) (seen : List NameOccurrence) : Type 0 where
  pub ready : IsSearchReady reading walk all search
  pub own : HaveOwnNumbers walk all of (keys_of search)
  pub made : AllZip (IsEntryMade reading walk all (keys_of search)) table seen

-- these occurrences were gone over
abbrev pub Searches : d.Reading → ScopeWalk → List ℕ → (old new : BindingSearch) → List Denoted →
    List NameOccurrence → Type 0
Searches reading walk of old new table seen =
    (all : List d.Declared) →
    IsSearchReady reading walk all old →
    HaveOwnNumbers walk all of (keys_of old) →
    IsSearchedTo reading walk of all new table seen

-- with the scopes of a walk, what was found along it makes the table of a list
abbrev pub MakesTable : d.Reading → s.ModuleKind → List Item → ScopeWalk → BindingsFound → Type 0
MakesTable reading kind items walk found =
    (table : Denotations) →
    table.scopes.items ≡ walk.scopes.items →
    table.bindings.items ≡ found.bindings.items →
    table.occurrences.items ≡ found.occurrences.items →
    IsDenotationTable reading kind items table
