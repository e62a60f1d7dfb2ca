-- Uses of imported names in the own statements of a module, with the reads around each.
use Rattle.std.specs.Prelude.{ℕ, zero, suc, ◌+◌, ◌-◌, ◌==◌, ◌&&◌, Bool, false, is_some, List, [], ◌∷◌, Option, Some, None, drop, filter, map, take, if◌then◌else◌}
use Rattle.bundle_syntax.specs.Item.{Item}
use Rattle.bundle_rules.specs.Places.{Around, Occurrence, occurrences, path_at}
use Rattle.bundle_rules.specs.Scopes.{Es}
use Rattle.bundle_rules.specs.Declarations.{BySymbol}
use Rattle.bundle_rules.specs.Homes.{is_top}
use Rattle.bundle_rules.specs.Denotes as e
use Rattle.bundle_rules.specs.Nodes.{Text}
use Rattle.bundle_rules.specs.Entries.{import_of, imports_of}
use Rattle.bundle_rules.specs.Reads.{read_word}
use Rattle.bundle_tree_places.specs.Stated.{is_in_statement}
use Rattle.bundle_link_tables.specs.declared.table.MemberRead.{MemberRead}
use Rattle.bundle_link_tables.specs.declared.table.Use.{Use}

-- the words of the reads around a place, innermost first: each begins right before what it reads of
abbrev pub words_around : List Item → ℕ → List Around → List Text
words_around tree place [] = []
words_around tree place (node ∷ outer) =
    if node.begins + 1 == place
    then
    (elim (read_word tree node.begins)
    [ None ↦ [] | Some x ↦ x ∷ words_around tree node.begins outer ])
    else []

-- a use of an imported name: where it stands, the name, and the words of the reads around it
pub record UseEntry : Type 0 where
  pub place : ℕ
  pub local : Text
  pub words : List Text

-- whether this is a binding of the top of a module
abbrev pub is_bound_at_top : Option e.Denoted → Bool
is_bound_at_top (Some (e.Bound scope name)) = is_top scope
is_bound_at_top _ = false

-- whether an occurrence is a use of an imported name
abbrev pub is_use : List Item → Occurrence → Bool
is_use tree o =
    is_bound_at_top (e.denoted_at BySymbol Es tree o.place)
    && (is_some (import_of (imports_of tree) o.sym) && is_in_statement (path_at tree o.place))

-- the use that an occurrence is
abbrev pub use_of : List Item → Occurrence → UseEntry
use_of tree o =
    record
    { place = o.place; local = o.sym; words = words_around tree o.place (path_at tree o.place) }

-- the uses, in the order of the source
abbrev pub uses_of : List Item → List UseEntry
uses_of tree = map (use_of tree) (filter (is_use tree) (occurrences tree))

-- the name of a read
abbrev pub name_read : MemberRead → Text
name_read read = read.name.now

-- the use that a `Use` stands for, by the names of all reads
abbrev pub use_by : List Text → Use → UseEntry
use_by names one =
    record {
      place = one.place;
      local = one.local.now;
      words = take one.count (drop one.first_read names);
    }

-- the use that a `Use` stands for
abbrev pub use_entry_of : List MemberRead → Use → UseEntry
use_entry_of reads one = use_by (map name_read reads) one

-- the place of a read
abbrev pub place_read : MemberRead → ℕ
place_read read = read.place

-- the places of the reads of a use, by those of all reads
abbrev pub places_by : List ℕ → Use → List ℕ
places_by places one = take one.count (drop one.first_read places)

-- so many places right before a place, from the nearest on
abbrev pub places_before : ℕ → ℕ → List ℕ
places_before place zero = []
places_before place (suc count) = (place - 1) ∷ places_before (place - 1) count

-- where the reads of a use begin, if each begins right before what it reads of
abbrev pub begin_in_turn : Use → List ℕ
begin_in_turn one = places_before one.place one.count

-- the places of the reads of a use
abbrev pub read_places : List MemberRead → Use → List ℕ
read_places reads one = places_by (map place_read reads) one
