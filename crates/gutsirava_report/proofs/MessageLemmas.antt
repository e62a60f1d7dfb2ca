-- Messages and their notes.
use Rattle.std.proofs.Common.{◌≡◌, ◌<◌, ◌≤◌, ◌+◌, ◌∙◌, ℕ, Bool, List, String, [], ◌∷◌, ◌++◌, Option, Result, Ok, Err, IfOk, inl, inr, arith, ap, codes, get_or, length, string_bytes, subst, sym, take}
use Rattle.std.proofs.lemmas.List.{length-take, take_more}
use Rattle.std.specs.List.{flat_map}
use Rattle.std.specs.declared.alloc.Global.{Global}
use Rattle.gutsirava_report.specs.Messages.{AddsHeaded, AddsMessages, AddsNotes, AddsOrLeaves, IsLonger, Tells}
use Rattle.gutsirava_report.specs.Messages.AddsMessages.{OneLeft, OneTold}
use Rattle.gutsirava_report.specs.Sheet.{painted}
use Rattle.gutsirava_report.specs.declared.message.Message.{Message}
use Rattle.gutsirava_report.specs.Messages.AddsNotes.{OneMore}
use Rattle.gutsirava_report.specs.declared.message.Note.{Note}
use Rattle.gutsirava_report.specs.declared.place.FilePlace.{FilePlace}
use Rattle.gutsirava_report.specs.declared.sheet.Sheet.{Sheet}
use Rattle.gutsirava_report.specs.declared.style.Style.{Style}
use Rattle.gutsirava_report.specs.declared.style.Style.TheVariants as styles

-- what is added by equal words, texts and places is the same
pub headed_as : (style style' : Style) (word word' text text' : List ℕ) (place place' : Option FilePlace) (old new : Sheet)
    → style ≡ style' → word ≡ word' → text ≡ text' → place ≡ place' → AddsHeaded style word text place old new
    → AddsHeaded style' word' text' place' old new
headed_as style style' word word' text text' place place' old new same_style same_word same_text same_place added =
    subst (λ (s : Style). AddsHeaded s word' text' place' old new) same_style
    (subst (λ (w : List ℕ). AddsHeaded style w text' place' old new) same_word
    (subst (λ (t : List ℕ). AddsHeaded style word t place' old new) same_text
    (subst (λ (p : Option FilePlace). AddsHeaded style word text p old new) same_place added)))

-- one note more
pub notes_more : (old mid new : Sheet) (all : List Note) (at : ℕ) (note : Note) (text : List ℕ) (place : Option FilePlace)
    → at < length all → note ≡ get_or all at note → text ≡ string_bytes note.text → place ≡ note.place
    → AddsNotes old (take at all) mid → AddsHeaded styles.Note (codes "note") text place mid new
    → AddsNotes old (take (at + 1) all) new
notes_more old mid new all at note text place lt is same_text same_place notes headed =
    subst (λ (some : List Note). AddsNotes old some new)
    (sym (take_more all at note lt ∙ ap (λ it. take at all ++ it ∷ []) (sym is)))
    (OneMore (take at all) note mid new notes
    (subst (λ (t : List ℕ). AddsHeaded styles.Note (codes "note") t note.place mid new) same_text
    (subst (λ (p : Option FilePlace). AddsHeaded styles.Note (codes "note") text p mid new) same_place headed)))

-- one message more, told or left out
pub messages_more : (old mid new : Sheet) (all : List Message) (at : ℕ) (message : Message) (count : ℕ)
    → at < length all → message ≡ get_or all at message → count ≤ at → AddsMessages old (take at all) mid
    → AddsOrLeaves message count mid new → AddsMessages old (take (at + 1) all) new
messages_more old mid new all at message count lt is few messages more =
    subst (λ (some : List Message). AddsMessages old some new)
    (sym (take_more all at message lt ∙ ap (λ it. take at all ++ it ∷ []) (sym is)))
    (elim more [
      | inl told ↦ OneTold (take at all) message mid told.0 new messages told.1 told.2
      | inr left ↦ subst (λ (sheet : Sheet). AddsMessages old (take at all ++ message ∷ []) sheet) (sym left.1)
          (OneLeft (take at all) message mid messages (omega (arith, left.0, few, lt, length-take at all)))
    ])

-- a text of what a sheet has by messages
pub tells_text : {E : Type 0} (messages : List Message) (colors : Bool) (empty told all : Sheet) (r : Result (String Global) E)
    → empty.pieces.items ≡ [] → AddsMessages empty messages told → IsLonger told all
    → IfOk r (λ t. string_bytes t ≡ flat_map (painted colors) all.pieces.items)
    → IfOk r (λ t. Tells messages colors (string_bytes t))
tells_text messages colors empty told all (Ok t) nothing first more written =
    record { empty = empty; told = told; all = all; nothing = nothing; first = first; more = more; written = written }
tells_text messages colors empty told all (Err e) nothing first more written = tt
