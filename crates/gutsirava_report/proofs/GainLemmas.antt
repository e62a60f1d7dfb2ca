-- What a sheet gains, piece by piece.
use Rattle.std.proofs.Common.{◌≡◌, ℕ, List, [], ◌∷◌, ◌++◌, refl, ap, sym, ◌∙◌, append_assoc, append-nil}
use Rattle.gutsirava_report.specs.Gains.{AreGains, Gain, Gains, IsGain}
use Rattle.gutsirava_report.specs.Gains.Gain.{Words, Ended}
use Rattle.gutsirava_report.specs.Messages.{IsLonger}
use Rattle.gutsirava_report.specs.Shown.{bytes_of}
use Rattle.gutsirava_report.specs.Text.{AddsText}
use Rattle.gutsirava_report.specs.declared.sheet.Sheet.{Sheet}
use Rattle.gutsirava_report.specs.declared.sheet.SheetPiece.{SheetPiece}
use Rattle.gutsirava_report.specs.declared.sheet.SheetPiece.TheVariants.{Text, LineEnd}
use Rattle.gutsirava_report.specs.declared.shown.Shown.{Shown}
use Rattle.gutsirava_report.specs.declared.style.Style.{Style}

are_then : (some more : List Gain) (ps qs : List SheetPiece) → AreGains some ps → AreGains more qs
    → AreGains (some ++ more) (ps ++ qs)
are_then [] more [] qs first second = second
are_then [] more (p ∷ ps) qs first second = absurd first
are_then (g ∷ some) more [] qs first second = absurd first
are_then (g ∷ some) more (p ∷ ps) qs first second = (first.0, are_then some more ps qs first.1 second)

-- what is gained behind what was gained
pub gains_then : (old mid new : Sheet) (some more : List Gain) → Gains old mid some → Gains mid new more
    → Gains old new (some ++ more)
gains_then old mid new some more first second = record {
  more = first.more ++ second.more;
  pieces = second.pieces ∙ ap (λ ps. ps ++ second.more) first.pieces ∙ append_assoc old.pieces.items first.more second.more;
  are = are_then some more first.more second.more first.are second.are;
}

-- a shown text, and what is gained behind it
pub gains_shown : (old new : Sheet) (style : Style) (shown : Shown)
    → new.pieces.items ≡ old.pieces.items ++ Text style shown ∷ [] → Gains old new (Words style (bytes_of shown) ∷ [])
gains_shown old new style shown put = record { more = Text style shown ∷ []; pieces = put; are = ((refl, λ _. refl), tt) }

-- a text, and what is gained behind it
pub gains_text : (old mid new : Sheet) (style : Style) (text : List ℕ) (more : List Gain) → AddsText old mid style text
    → Gains mid new more → Gains old new (Words style text ∷ more)
gains_text old mid new style text more added rest =
    gains_then old mid new (Words style text ∷ []) more
    (record { more = Text style added.shown ∷ []; pieces = added.pieces; are = ((refl, added.same), tt) }) rest

-- the end of a line
pub gains_end : (old new : Sheet) → new.pieces.items ≡ old.pieces.items ++ LineEnd ∷ [] → Gains old new (Ended ∷ [])
gains_end old new put = record { more = LineEnd ∷ []; pieces = put; are = (tt, tt) }

-- pieces more, behind pieces more
pub longer_then : (old mid new : Sheet) → IsLonger old mid → IsLonger mid new → IsLonger old new
longer_then old mid new first second =
    (first.0 ++ second.0, second.1 ∙ ap (λ ps. ps ++ second.0) first.1 ∙ append_assoc old.pieces.items first.0 second.0)

-- no piece
pub longer_none : (sheet : Sheet) → IsLonger sheet sheet
longer_none sheet = ([], sym (append-nil sheet.pieces.items))

-- a text
pub longer_text : (old new : Sheet) (style : Style) (text : List ℕ) → AddsText old new style text → IsLonger old new
longer_text old new style text added = (Text style added.shown ∷ [], added.pieces)

-- the end of a line
pub longer_end : (old new : Sheet) → new.pieces.items ≡ old.pieces.items ++ LineEnd ∷ [] → IsLonger old new
longer_end old new put = (LineEnd ∷ [], put)
