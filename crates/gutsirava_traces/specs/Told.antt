-- What a map is told of the pieces of a bundle's list.
use Rattle.std.specs.Prelude.{◌≡◌, ◌≢◌, ◌≤◌, ◌+◌, ◌^◌, ◌-◌, ◌++◌, ◌==◌, ℕ, Bool, true, false, min, List, String, Option, Some, None, IfSome, IsSome, IsSomeAnd, MatchOption, get_or, length, slice_get, slice_range, string_bytes}
use Rattle.std.specs.declared.alloc.Global.{Global}
use Rattle.gutsirava_maps.specs.Mapping.{is_before, IsAdded}
use Rattle.gutsirava_maps.specs.Places.{place_in}
use Rattle.gutsirava_maps.specs.declared.mappings.MapOrigin.{MapOrigin}
use Rattle.gutsirava_maps.specs.declared.mappings.Mappings.{Mappings}
use Rattle.gutsirava_maps.specs.declared.place.LineColumn.{LineColumn}
use Rattle.gutsirava_traces.specs.Traces.{place_of}
use Rattle.gutsirava_traces.specs.declared.maker.MapMaker.{MapMaker}
use Rattle.gutsirava_traces.specs.declared.maker.PrintedList.{PrintedList}
use Rattle.gutsirava_traces.specs.declared.mark.MapMark.{MapMark}
use Rattle.gutsirava_traces.specs.declared.source.SourceFile.{SourceFile}
use Rattle.gutsirava_traces.specs.declared.trace.OwnBegin.{OwnBegin}
use Rattle.gutsirava_traces.specs.declared.trace.OwnForm.{OwnForm}
use Rattle.gutsirava_traces.specs.declared.trace.OwnForm.TheVariants.{Same, Constant, Declaration, Gone}
use Rattle.gutsirava_traces.specs.declared.trace.TheConstants.{NOWHERE}

-- the place of a byte, or of the end
abbrev pub place_within : List ℕ → ℕ → LineColumn
place_within text at = place_in text (min at (length text))

-- a name stands at a place of a text
abbrev pub StandsAt : List ℕ → ℕ → List ℕ → Type 0
StandsAt text at name = slice_range text at (at + length name) ≡ name

-- where the print of a piece begins
abbrev pub offset_of : PrintedList → ℕ → ℕ
offset_of list at = get_or list.offsets.now at 0

-- what stays of a source while a map is made
pub record Known : Type 0 where
  pub number : ℕ
  pub text : List ℕ
  pub places : List ℕ
  pub statements : List OwnBegin

abbrev pub known : SourceFile → Known
known source = record {
  number = source.number;
  text = source.text.now;
  places = source.trace.now.places.items;
  statements = source.trace.now.statements.items;
}

-- the piece of the module's list with which a statement begins, or the one before, which may begin
-- its item
abbrev pub begin_in : Option OwnBegin → ℕ
begin_in (Some statement) = statement.at - 1
begin_in None = 0

abbrev pub begin_of : Known → ℕ → ℕ
begin_of source statement = begin_in (slice_get source.statements statement)

-- the name of this number, if any, stands at a place of a text
abbrev pub IsNameAt : List ℕ → ℕ → List (String Global) → Option ℕ → Type 0
IsNameAt text at names it = IfSome it
    (λ name. IsSomeAnd (slice_get names name) (λ text_of. StandsAt text at (string_bytes text_of)))

-- an origin is where a piece of the module's list stands in the source; the name that is told of it
-- stands there
pub record IsOriginAt (source : Known) (names : List (String Global)) (own : ℕ) (it : MapOrigin)
    : Type 0 where
  pub somewhere : place_of source.places own ≢ NOWHERE
  pub number : it.source ≡ source.number
  pub place : it.place ≡ place_within source.text (place_of source.places own)
  pub name : IsNameAt source.text (place_of source.places own) names it.name

-- a mark is of this piece of the bundle's list, and its origin, if any, of that of the module's
pub record IsMarkOf
    (list : PrintedList) (source : Known) (names : List (String Global)) (at own : ℕ)
    (mark : MapMark) : Type 0 where
  pub offset : mark.offset ≡ offset_of list at
  pub origin : IfSome mark.origin (IsOriginAt source names own)

-- a segment is put down, or passed over where it is before the last one
pub record IsSegment (old new : Mappings) (place : LineColumn) (origin : Option MapOrigin)
    : Type 0 where
  pub passed : is_before place old.last.place ≡ true → new ≡ old
  pub added : is_before place old.last.place ≡ false → IsAdded old new place origin

-- the byte of a bundle's text at which a print begins that begins there in that of its list
abbrev pub byte_of : MapMaker → ℕ → ℕ
byte_of maker offset = min (maker.base + offset) (2 ^ 64 - 1)

-- what waits is put down
abbrev pub IsWritten : Option MapMark → MapMaker → MapMaker → Type 0
IsWritten waiting old new = MatchOption waiting (new.mappings ≡ old.mappings)
    (λ mark. IsSegment old.mappings new.mappings
    (place_within old.text.text.now (byte_of old mark.offset)) mark.origin)

-- whether what waits is of this byte
abbrev pub waits_at : Option MapMark → ℕ → Bool
waits_at None offset = false
waits_at (Some mark) offset = mark.offset == offset

-- the text of a bundle stays, and names keep their numbers
pub record IsSameBundle (old new : MapMaker) : Type 0 where
  pub base : new.base ≡ old.base
  pub text : new.text.text.now ≡ old.text.text.now
  pub more : List (String Global)
  pub names : new.names.names.items ≡ old.names.names.items ++ more

-- a mark is told: it waits, and what waited is put down, unless it is of the same byte
pub record IsTold (old new : MapMaker) (mark : MapMark) : Type 0 where
  pub bundle : IsSameBundle old new
  pub waits : new.mark ≡ Some mark
  pub instead : waits_at old.mark mark.offset ≡ true → new.mappings ≡ old.mappings
  pub behind : waits_at old.mark mark.offset ≡ false → IsWritten old.mark old new

-- what waited is put down, and nothing waits
pub record IsFinished (old new : MapMaker) : Type 0 where
  pub bundle : IsSameBundle old new
  pub waits : new.mark ≡ None
  pub written : IsWritten old.mark old new

-- marks are told one after the other, each of a piece of the bundle's list and one of the module's;
-- from these on, up to those, neither goes back
pub data Told (list : PrintedList) (source : Known) (old : MapMaker) (first own : ℕ)
    : ℕ → ℕ → MapMaker → Type 0 where
  Nothing : Told list source old first own first own old
  More : (mid new : MapMaker) (mark : MapMark) (to from at its : ℕ)
      → Told list source old first own to from mid → to ≤ at → from ≤ its → IsTold mid new mark
      → IsMarkOf list source new.names.names.items at its mark
      → Told list source old first own at its new

-- one mark is told: of this piece of the bundle's list, and of this one of the module's
pub record IsOneTold
    (list : PrintedList) (at own : ℕ) (source new_source : SourceFile) (old new : MapMaker)
    : Type 0 where
  pub same : known new_source ≡ known source
  pub mark : MapMark
  pub step : IsTold old new mark
  pub is : IsMarkOf list (known source) new.names.names.items at own mark
  pub origin : IsSome mark.origin

-- pieces of the bundle's list and of the module's, from one place of each up to another
pub record Stretch : Type 0 where
  pub first : ℕ
  pub last : ℕ
  pub own : ℕ
  pub own_last : ℕ

-- marks of a stretch are told, in their order, and the source stays
pub record Tells
    (list : PrintedList) (within : Stretch) (source new_source : SourceFile) (old new : MapMaker)
    : Type 0 where
  pub same : known new_source ≡ known source
  pub to : ℕ
  pub from : ℕ
  pub ends : to ≤ within.last
  pub own_ends : from ≤ within.own_last
  pub told : Told list (known source) old within.first within.own to from new

-- the same, wherever the last piece of the module's list stands
pub record TellsFrom
    (list : PrintedList) (first last own : ℕ) (source new_source : SourceFile)
    (old new : MapMaker) : Type 0 where
  pub own_last : ℕ
  pub tells : Tells list (record { first = first; last = last; own = own; own_last = own_last })
      source new_source old new

-- the piece of the module's list that is told of first, of a statement whose node begins there:
-- that of an `export default` before its expression
abbrev pub first_of : OwnForm → ℕ → ℕ
first_of Constant at = at - 1
first_of Same at = at
first_of Declaration at = at
first_of Gone at = at

-- whether a statement stands in a bundle
abbrev pub has_print : OwnForm → Bool
has_print Gone = false
has_print Same = true
has_print Constant = true
has_print Declaration = true

-- a statement is told from its first piece on, and what is told behind that is told in order
pub record IsBegun
    (list : PrintedList) (first last own : ℕ) (source new_source : SourceFile)
    (old new : MapMaker) : Type 0 where
  pub mid_source : SourceFile
  pub mid : MapMaker
  pub begins : IsOneTold list first own source mid_source old mid
  pub more : TellsFrom list first last own mid_source new_source mid new

-- so it is where the statement stands in a bundle, and its first piece in the source
abbrev pub BeginsTold : OwnForm → ℕ → PrintedList → ℕ → ℕ → SourceFile → SourceFile → MapMaker
    → MapMaker → Type 0
BeginsTold form own list first last source new_source old new =
    has_print form ≡ true → place_of (known source).places (first_of form own) ≢ NOWHERE
    → IsBegun list first last (first_of form own) source new_source old new

-- the same of a statement of this number, if there is one
abbrev pub StatementBegins : Option OwnBegin → PrintedList → ℕ → ℕ → SourceFile → SourceFile
    → MapMaker → MapMaker → Type 0
StatementBegins None list first last source new_source old new = Unit {0}
StatementBegins (Some own) list first last source new_source old new =
    BeginsTold own.form own.at list first last source new_source old new

-- marks are told in parts, each of a stretch of the bundle's list behind those before
pub data TellsParts (list : PrintedList) (first : ℕ) (source : SourceFile) (old : MapMaker)
    : ℕ → SourceFile → MapMaker → Type 0 where
  NoPart : TellsParts list first source old first source old
  Part : (begin last own : ℕ) (mid_source new_source : SourceFile) (mid new : MapMaker)
      → TellsParts list first source old begin mid_source mid
      → TellsFrom list begin last own mid_source new_source mid new
      → TellsParts list first source old last new_source new
