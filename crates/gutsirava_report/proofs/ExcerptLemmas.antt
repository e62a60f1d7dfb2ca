-- What a line with a mark adds to a report.
use Rattle.std.proofs.Common.{◌≡◌, ◌++◌, true, chars, codes, string_bytes, List, [], ◌∷◌, Result, Ok, Err, OnOk, max, replicate, append_assoc}
use Rattle.gutsirava_report.specs.Shown.{chars_of, columns_of}
use Rattle.gutsirava_report.specs.Excerpt.{dots, is_quiet, AddsExcerpt, margin_under}
use Rattle.std.specs.Fmt.{decimal}
use Rattle.gutsirava_report.specs.Gains.{Shows}
use Rattle.gutsirava_report.specs.declared.place.Stretch.{Stretch}
use Rattle.gutsirava_report.specs.declared.shown.Shown.{Shown}
use Rattle.gutsirava_report.specs.declared.sheet.Sheet.{Sheet}
use Rattle.gutsirava_report.specs.declared.sheet.SheetPiece.TheVariants.{Text, LineEnd}
use Rattle.gutsirava_report.specs.declared.style.Style.{Style}
use Rattle.gutsirava_report.specs.declared.style.Style.TheVariants.{Plain, Margin}

eight_more : {X : Type 0} (l0 l1 l2 l3 l4 l5 l6 l7 l8 : List X) (a b c d e f g h : X)
    → l1 ≡ l0 ++ a ∷ [] → l2 ≡ l1 ++ b ∷ [] → l3 ≡ l2 ++ c ∷ [] → l4 ≡ l3 ++ d ∷ [] → l5 ≡ l4 ++ e ∷ [] → l6 ≡ l5 ++ f ∷ []
    → l7 ≡ l6 ++ g ∷ [] → l8 ≡ l7 ++ h ∷ []
    → l8 ≡ l0 ++ (a ∷ b ∷ c ∷ d ∷ e ∷ f ∷ g ∷ h ∷ [])
eight_more l0 l1 l2 l3 l4 l5 l6 l7 l8 a b c d e f g h e1 e2 e3 e4 e5 e6 e7 e8 =
    rw (e8, e7, e6, e5, e4, e3, e2, e1) (simp append_assoc)

pub excerpt_added : {T E : Type 0} (r : Result T E) (old s1 s2 s3 s4 s5 s6 s7 new : Sheet) (style : Style)
    (margin before marked after bar marks : Shown)
    → s1.pieces.items ≡ old.pieces.items ++ Text Margin margin ∷ []
    → s2.pieces.items ≡ s1.pieces.items ++ Text Plain before ∷ []
    → s3.pieces.items ≡ s2.pieces.items ++ Text Plain marked ∷ []
    → s4.pieces.items ≡ s3.pieces.items ++ Text Plain after ∷ []
    → s5.pieces.items ≡ s4.pieces.items ++ LineEnd ∷ []
    → s6.pieces.items ≡ s5.pieces.items ++ Text Margin bar ∷ []
    → s7.pieces.items ≡ s6.pieces.items ++ Text style marks ∷ []
    → OnOk r (new.pieces.items ≡ s7.pieces.items ++ LineEnd ∷ [])
    → chars_of bar ≡ margin_under margin
    → chars_of marks ≡ replicate (columns_of before) 32 ++ replicate (max 1 (columns_of marked)) 94
    → (stretch : Stretch) → Shows (decimal stretch.line ++ codes " | ") margin
    → (is_quiet stretch.before ≡ true → chars_of before ≡ dots stretch.has_more_before ++ chars (string_bytes stretch.before))
    → Shows (string_bytes stretch.marked) marked
    → (is_quiet stretch.after ≡ true → chars_of after ≡ chars (string_bytes stretch.after) ++ dots stretch.has_more_after)
    → OnOk r (AddsExcerpt old new style stretch)
excerpt_added (Ok x) old s1 s2 s3 s4 s5 s6 s7 new style margin before marked after bar marks e1 e2 e3 e4 e5 e6 e7 e8 aligned under stretch numbered behind there ahead =
    record {
      margin = margin;
      before = before;
      marked = marked;
      after = after;
      bar = bar;
      marks = marks;
      pieces = eight_more _ _ _ _ _ _ _ _ _ _ _ _ _ _ _ _ _ e1 e2 e3 e4 e5 e6 e7 e8;
      numbered = numbered;
      behind = behind;
      there = there;
      ahead = ahead;
      aligned = aligned;
      under = under;
    }
excerpt_added (Err e) old s1 s2 s3 s4 s5 s6 s7 new style margin before marked after bar marks e1 e2 e3 e4 e5 e6 e7 e8 aligned under stretch numbered behind there ahead = tt
