-- What an entry of the table of denotations uses, by what is told of places.
use Rattle.std.specs.Prelude.{◌≡◌, ℕ, zero, suc, ◌<◌, Bool, true, false, is_some, List, [], ◌∷◌, ◌++◌, Option, Some, None, bytes_eq, length, map, slice_get, if◌then◌else◌}
use Rattle.std.specs.Borrow.{Bor}
use Rattle.bundle_syntax.specs.Item as h
use Rattle.bundle_syntax.specs.Item.{Item}
use Rattle.bundle_scope_denote.specs.declared.table.Binding.{Binding}
use Rattle.bundle_scope_denote.specs.declared.table.Denoted.{Denoted}
use Rattle.bundle_scope_denote.specs.declared.table.Denotations.{Denotations}
use Rattle.bundle_scope_denote.specs.declared.table.Scope.{Scope}
use Rattle.bundle_scope_denote.specs.declared.table.ScopeKind.{ScopeKind}
use Rattle.bundle_scope_denote.specs.declared.table.ScopeKind.TheVariants as k
use Rattle.bundle_rules.specs.Nodes.{Text}
use Rattle.bundle_tree_places.specs.declared.places.ReadAt.{ReadAt}
use Rattle.bundle_link_tables.specs.declared.table.ImportRef.{ImportRef}
use Rattle.bundle_link_tables.specs.declared.table.Use.{Use}
use Rattle.bundle_link_tables.specs.declared.walk.ImportedName.{ImportedName}
use Rattle.bundle_tree_places.specs.Placed.{word_told}
use Rattle.bundle_tree_places.specs.Seconds.{is_member_item}
use Rattle.bundle_rules.specs.Reads.{read_word}
use Rattle.bundle_link_tables.specs.Free.{is_place_marked}
use Rattle.bundle_link_tables.specs.Used.{UseEntry, begin_in_turn, places_by, use_by}
use Rattle.indexmap.specs.IndexMap.{IndexMap, get_by}

-- the words that are told of the places right before a place, from the nearest on
abbrev pub words_before : (ℕ → Option Text) → ℕ → List Text
words_before word zero = []
words_before word (suc place) =
    elim (word place) [ None ↦ [] | Some x ↦ x ∷ words_before word place ]

-- the word that is told of the place right before a place
abbrev pub word_before : (ℕ → Option Text) → ℕ → Option Text
word_before word zero = None
word_before word (suc place) = word place

-- whether a scope is the top
abbrev pub is_own_kind : ScopeKind → Bool
is_own_kind k.Top = true
is_own_kind _ = false

abbrev pub is_own_scope : Option Scope → Bool
is_own_scope None = false
is_own_scope (Some scope) = is_own_kind scope.kind

-- whether a binding is one of the top
abbrev pub is_own_binding : List Scope → Option Binding → Bool
is_own_binding scopes None = false
is_own_binding scopes (Some binding) = is_own_scope (slice_get scopes binding.scope)

-- the same of the binding with a number
abbrev pub is_own_number : Denotations → Option ℕ → Bool
is_own_number table None = false
is_own_number table (Some number) =
    is_own_binding table.scopes.items (slice_get table.bindings.items number)

-- whether a table has an import of a name
abbrev pub has_import : {S : Type 0} → IndexMap (Bor Text) ImportRef S → Text → Bool
has_import imports x = is_some (get_by (λ k. bytes_eq x k.now) imports)

-- the symbol of an identifier, if it passes the test
abbrev pub symbol_if : (Text → Bool) → Option Item → List Text
symbol_if test (Some (h.Ident field sym ctxt role)) = if test sym then sym ∷ [] else []
symbol_if test _ = []

-- the imported name that an entry is of, if it is of one
abbrev pub imported_name : Denotations → (Text → Bool) → List Item → Denoted → List Text
imported_name table is_import tree entry =
    if is_own_number table entry.binding
    then symbol_if is_import (slice_get tree entry.place)
    else []

-- texts with a place
abbrev pub pairs_at : ℕ → List Text → List (ℕ × Text)
pairs_at place texts = map (λ (x : Text). (place, x)) texts

-- the same, with its place
abbrev pub placed_names : Denotations → (Text → Bool) → List Item → Denoted → List (ℕ × Text)
placed_names table is_import tree entry =
    pairs_at entry.place (imported_name table is_import tree entry)

-- a name as its place and its text
abbrev pub named_at : ImportedName → ℕ × Text
named_at name = (name.place, name.local.now)

-- whether a member begins with an element, if there is one
abbrev pub begins_member : Option Item → Bool
begins_member None = false
begins_member (Some x) = is_member_item x

-- whether a member begins right before a place
abbrev pub is_behind_member : List Item → ℕ → Bool
is_behind_member tree zero = false
is_behind_member tree (suc place) = begins_member (slice_get tree place)

-- the words that are told around a place are those of the reads there
abbrev pub AreWordsRead : List Item → List ReadAt → ℕ → Type 0
AreWordsRead tree told place =
    place < length tree → words_before (word_told told) place ≡ words_before (read_word tree) place

-- the use of a name at a place
abbrev pub named_use : List ReadAt → ℕ → Text → UseEntry
named_use told place x =
    record { place = place; local = x; words = words_before (word_told told) place }

-- the use that a name is, if it is one
abbrev pub uses_of_name : List Bool → List ReadAt → ImportedName → List UseEntry
uses_of_name stated told name =
    if is_place_marked stated name.place then named_use told name.place name.local.now ∷ [] else []

-- uses, with the names of all reads, stand for these, whatever reads follow
abbrev pub SaysUses : List Text → List Use → List UseEntry → Type 0
SaysUses names uses entries = (more : List Text) → map (use_by (names ++ more)) uses ≡ entries

-- the reads of these uses, with the places of all reads, begin in turn, whatever reads follow
abbrev pub Begin : List ℕ → List Use → Type 0
Begin places uses = (more : List ℕ) → map (places_by (places ++ more)) uses ≡ map begin_in_turn uses
