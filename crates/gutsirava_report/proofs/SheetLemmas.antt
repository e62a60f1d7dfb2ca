-- What is written of a report.
use Rattle.std.proofs.Common.{◌≡◌, ℕ, ◌+◌, ◌<◌, length, take, get_or, List, [], ◌∷◌, ◌++◌, Bool, true, false, ◌&&◌, Result, Ok, Err, IfOk, String, string_bytes, refl, sym, ◌∙◌, ap, IsUtf8, flat_map, lit<}
use Rattle.std.specs.Str.{chars}
use Rattle.std.specs.List.{list_all}
use Rattle.std.specs.declared.alloc.AllocError.{AllocError}
use Rattle.std.specs.declared.alloc.Global.{Global}
use Rattle.std.proofs.lemmas.List.{take_more, flat_map_more}
use Rattle.std.proofs.lemmas.List.Folds.{list_all-append}
use Rattle.std.proofs.lemmas.Str.{chars-nil, chars-append, IsUtf8-string_bytes, encode_ascii}
use Rattle.gutsirava_report.specs.Quiet.{is_sent_char}
use Rattle.gutsirava_report.specs.Sheet.{painted, IsReport}
use Rattle.gutsirava_report.specs.declared.sheet.SheetPiece.{SheetPiece}
use Rattle.gutsirava_report.specs.declared.sheet.SheetPiece.TheVariants.{Text, LineEnd}
use Rattle.gutsirava_report.proofs.QuietLemmas.{sent-quiet}

-- what is made of one more of them
pub flat_map_taken : {X : Type 0} (f : X → List ℕ) (xs : List X) (i : ℕ) (d : X) → i < length xs
    → flat_map f (take (i + 1) xs) ≡ flat_map f (take i xs) ++ f (get_or xs i d)
flat_map_taken f xs i d within =
    ap (flat_map f) (take_more xs i d within) ∙ sym (flat_map_more f [] (take i xs) (get_or xs i d))

line_end-text : IsUtf8 (10 ∷ [])
line_end-text = (10 ∷ [], (refl, ap (λ bs. bs ++ []) (encode_ascii 10 (lit< tt))))

-- a piece without colours is a text
painted-text : (piece : SheetPiece) → IsUtf8 (painted false piece)
painted-text (Text style shown) = IsUtf8-string_bytes shown.text
painted-text LineEnd = line_end-text

-- whose characters may be sent
painted-sent : (piece : SheetPiece) → list_all is_sent_char (chars (painted false piece)) ≡ true
unfolding chars
painted-sent (Text style shown) = sent-quiet (chars (string_bytes shown.text)) shown.quiet
painted-sent LineEnd = refl

-- and so is a report
pub whole-sent : (pieces : List SheetPiece) → list_all is_sent_char (chars (flat_map (painted false) pieces)) ≡ true
whole-sent [] = ap (list_all is_sent_char) chars-nil
whole-sent (piece ∷ pieces) =
    ap (list_all is_sent_char) (chars-append (painted false piece) (flat_map (painted false) pieces) (painted-text piece))
    ∙ list_all-append is_sent_char (chars (painted false piece)) (chars (flat_map (painted false) pieces))
    ∙ ap (λ b. b && list_all is_sent_char (chars (flat_map (painted false) pieces))) (painted-sent piece)
    ∙ whole-sent pieces

pub bare_sent : (colors : Bool) (pieces : List SheetPiece) (bytes : List ℕ) → bytes ≡ flat_map (painted colors) pieces
    → colors ≡ false → list_all is_sent_char (chars bytes) ≡ true
bare_sent colors pieces bytes whole bare =
    ap (λ bs. list_all is_sent_char (chars bs)) (whole ∙ ap (λ b. flat_map (painted b) pieces) bare) ∙ whole-sent pieces

-- what is written of some pieces is a report
pub some_pieces : (r : Result (String Global) AllocError) (colors : Bool) (pieces : List SheetPiece)
    → IfOk r (λ t. string_bytes t ≡ flat_map (painted colors) pieces) → IfOk r (λ t. IsReport colors (string_bytes t))
some_pieces (Ok t) colors pieces whole = (pieces, whole)
some_pieces (Err e) colors pieces whole = tt
