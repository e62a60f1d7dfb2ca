-- Segments, as they stand in a map (ECMA-426, 9.3 on the grammar of mappings).
use Rattle.std.specs.Prelude.{◌≡◌, ℕ, ◌-◌, ◌&&◌, ◌||◌, ◌==◌, nat_lt, Bool, true, false, List, [], ◌∷◌, ◌++◌, Option, Some, None, if◌then◌else◌, replicate, string_bytes}
use Rattle.gutsirava_maps.specs.declared.place.LineColumn.{LineColumn}
use Rattle.gutsirava_maps.specs.declared.mappings.LastSegment.{LastSegment}
use Rattle.gutsirava_maps.specs.declared.mappings.MapOrigin.{MapOrigin}
use Rattle.gutsirava_maps.specs.declared.mappings.Mappings.{Mappings}
use Rattle.gutsirava_maps.specs.Vlq.{difference, Writes}

-- whether a place is before another
abbrev pub is_before : LineColumn → LineColumn → Bool
is_before one other =
    nat_lt one.line other.line || ((one.line == other.line) && nat_lt one.column other.column)

abbrev pub first_place : LineColumn
first_place = record { line = 0; column = 0 }

-- what the first segment is counted from
abbrev pub first_segment : LastSegment
first_segment =
    record { place = first_place; has_segment = false; source = 0; from = first_place; name = 0 }

-- what stands before a segment of a line: the ends of those before it, or a comma behind another
-- segment
abbrev pub separators : LastSegment → ℕ → List ℕ
separators last line =
    if nat_lt last.place.line line then replicate (line - last.place.line) 59
    else (if last.has_segment then 44 ∷ [] else [])

-- the column that the next segment of a line is counted from
abbrev pub base_column : LastSegment → ℕ → ℕ
base_column last line = if nat_lt last.place.line line then 0 else last.place.column

-- the number for a name
abbrev pub name_fields : ℕ → Option ℕ → List ℕ
name_fields last None = []
name_fields last (Some name) = difference last name ∷ []

-- the numbers for a line and a column
abbrev pub place_fields : LineColumn → LineColumn → List ℕ
place_fields from to = difference from.line to.line ∷ difference from.column to.column ∷ []

-- the numbers for a place of a source
abbrev pub origin_fields : LastSegment → Option MapOrigin → List ℕ
origin_fields last None = []
origin_fields last (Some origin) =
    difference last.source origin.source
    ∷ (place_fields last.from origin.place ++ name_fields last.name origin.name)

-- the numbers of a segment
abbrev pub fields : LastSegment → LineColumn → Option MapOrigin → List ℕ
fields last place origin =
    difference (base_column last place.line) place.column ∷ origin_fields last origin

-- the name that the next one is counted from
abbrev pub name_behind : ℕ → Option ℕ → ℕ
name_behind last None = last
name_behind last (Some name) = name

-- what the segments end with behind one more
abbrev pub last_behind : LastSegment → LineColumn → Option MapOrigin → LastSegment
last_behind last place None = record last { place = place; has_segment = true }
last_behind last place (Some origin) = record {
  place = place;
  has_segment = true;
  source = origin.source;
  from = origin.place;
  name = name_behind last.name origin.name;
}

-- a segment more: what separates it, and characters in which its numbers stand
pub record IsAdded (old new : Mappings) (place : LineColumn) (origin : Option MapOrigin)
    : Type 0 where
  pub numbers : Writes (string_bytes old.text ++ separators old.last place.line)
      (string_bytes new.text) (fields old.last place origin)
  pub last : new.last ≡ last_behind old.last place origin
