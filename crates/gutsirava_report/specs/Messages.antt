-- What a sheet gains by a message.
use Rattle.std.specs.Prelude.{◌≡◌, ◌≤◌, ◌⊎◌, ℕ, Bool, List, [], ◌∷◌, ◌++◌, Option, MatchOption, codes, length, string_bytes}
use Rattle.std.specs.List.{flat_map}
use Rattle.gutsirava_report.specs.Excerpt.{AddsPlace}
use Rattle.gutsirava_report.specs.Gains.{head_of, Gains}
use Rattle.gutsirava_report.specs.Gains.Gain.{Ended}
use Rattle.gutsirava_report.specs.Sheet.{painted}
use Rattle.gutsirava_report.specs.Severity.{style_of, word_of}
use Rattle.gutsirava_report.specs.declared.message.Message.{Message}
use Rattle.gutsirava_report.specs.declared.message.Note.{Note}
use Rattle.gutsirava_report.specs.declared.place.FilePlace.{FilePlace}
use Rattle.gutsirava_report.specs.declared.sheet.Sheet.{Sheet}
use Rattle.gutsirava_report.specs.declared.sheet.SheetPiece.{SheetPiece}
use Rattle.gutsirava_report.specs.declared.style.Style.{Style}
use Rattle.gutsirava_report.specs.declared.style.Style.TheVariants as styles

-- a line with a word and a text, and under it the place, if there is one
pub record AddsHeaded
    (style : Style) (word text : List ℕ) (place : Option FilePlace) (old new : Sheet)
    : Type 0 where
  pub headed : Sheet
  pub head : Gains old headed (head_of style word text)
  pub place_is : MatchOption place (new ≡ headed) (λ it. AddsPlace it style headed new)

-- each note, in their order
pub data AddsNotes (old : Sheet) : List Note → Sheet → Type 0 where
  NoNote : AddsNotes old [] old
  OneMore : (notes : List Note) (note : Note) (mid new : Sheet) → AddsNotes old notes mid
      → AddsHeaded styles.Note (codes "note") (string_bytes note.text) note.place mid new
      → AddsNotes old (notes ++ note ∷ []) new

-- a message with its place and its notes
pub record AddsMessage (message : Message) (old new : Sheet) : Type 0 where
  pub mid : Sheet
  pub main : AddsHeaded (style_of message.severity) (word_of message.severity)
      (string_bytes message.text) message.place old mid
  pub notes : AddsNotes mid message.notes.items new

-- pieces more
abbrev pub IsLonger : Sheet → Sheet → Type 0
IsLonger old new =
    (more : List SheetPiece) × (new.pieces.items ≡ old.pieces.items ++ more)

-- a message is told with an empty line behind it, or left out where ten of its kind were told
abbrev pub AddsOrLeaves : Message → ℕ → Sheet → Sheet → Type 0
AddsOrLeaves message count old new =
    ((told : Sheet) × AddsMessage message old told × Gains told new (Ended ∷ []))
    ⊎ ((10 ≤ count) × (new ≡ old))

-- messages in their order, of which the first ten are told
pub data AddsMessages (old : Sheet) : List Message → Sheet → Type 0 where
  NoMessage : AddsMessages old [] old
  OneTold : (messages : List Message) (message : Message) (mid told new : Sheet)
      → AddsMessages old messages mid → AddsMessage message mid told → Gains told new (Ended ∷ [])
      → AddsMessages old (messages ++ message ∷ []) new
  OneLeft : (messages : List Message) (message : Message) (mid : Sheet)
      → AddsMessages old messages mid → 10 ≤ length messages
      → AddsMessages old (messages ++ message ∷ []) mid

-- a text is that of a sheet with these messages, and what is told behind them
pub record Tells (messages : List Message) (colors : Bool) (bytes : List ℕ) : Type 0 where
  pub empty : Sheet
  pub told : Sheet
  pub all : Sheet
  pub nothing : empty.pieces.items ≡ []
  pub first : AddsMessages empty messages told
  pub more : IsLonger told all
  pub written : bytes ≡ flat_map (painted colors) all.pieces.items
