-- The boxes of a picture.
use Rattle.std.specs.Prelude.{◌≡◌, ℕ, List, [], ◌∷◌, ◌++◌, chars, codes, decimal, string_bytes}
use Rattle.std.specs.Borrow.{Bor}
use Rattle.std.specs.List.{flat_map}
use Rattle.gutsirava_views.specs.Xml.{xml_char}
use Rattle.gutsirava_views.specs.declared.picture.nodes.DrawnBox.{DrawnBox}
use Rattle.gutsirava_views.specs.declared.picture.sheet.BoxFrame.{BoxFrame}
use Rattle.gutsirava_views.specs.declared.picture.sheet.SheetSpot.{SheetSpot}

-- a text has grown
pub record Grows (old new : List ℕ) : Type 0 where
  pub added : List ℕ
  pub whole : new ≡ old ++ added

-- a number behind a text
abbrev pub number_behind : Bor (List ℕ) × ℕ → List ℕ
number_behind piece = piece.0.now ++ decimal piece.1

-- a path of a class: numbers, each behind a text, and an end
abbrev pub path_text : List ℕ → List (Bor (List ℕ) × ℕ) → List ℕ → List ℕ
path_text class way end =
    codes "<path class=\"" ++ (class ++ (codes "\" d=\"" ++ (flat_map number_behind way
    ++ (end ++ codes "\"/>"))))

-- a number behind the name of its attribute
abbrev pub attribute : List ℕ × ℕ → List ℕ
attribute named = codes "\" " ++ (named.0 ++ (codes "=\"" ++ decimal named.1))

-- a rectangle of a class, with round corners
abbrev pub rect_text : List ℕ → BoxFrame → ℕ → List ℕ
rect_text class frame round =
    codes "<rect class=\"" ++ (class ++ (flat_map attribute ((codes "x", frame.left)
    ∷ ((codes "y", frame.top) ∷ ((codes "width", frame.width)
    ∷ ((codes "height", frame.height) ∷ ((codes "rx", round) ∷ []))))) ++ codes "\"/>"))

-- a text of a class, whose base line begins there
abbrev pub label_text : List ℕ → SheetSpot → List ℕ → List ℕ
label_text class at text =
    codes "<text class=\"" ++ (class ++ (flat_map attribute ((codes "x", at.left)
    ∷ ((codes "y", at.top) ∷ [])) ++ (codes "\">"
    ++ (flat_map xml_char (chars text) ++ codes "</text>"))))

-- the element that is shown where a pointer rests
abbrev pub title_text : List ℕ → List ℕ
title_text text = codes "<title>" ++ (flat_map xml_char (chars text) ++ codes "</title>")

-- what is shown of a box there: where it lies, its name, and what stands below that
abbrev pub tip_of : DrawnBox → List ℕ
tip_of node = string_bytes node.folder ++ (string_bytes node.name ++ (32 ∷ string_bytes node.note))

-- how a box begins: its group, and what is shown of it
abbrev pub head_of : DrawnBox → List ℕ
head_of node = codes "<g>" ++ title_text (tip_of node)

-- a box more
abbrev pub AddsBox : DrawnBox → List ℕ → List ℕ → Type 0
AddsBox node old new = Grows (old ++ head_of node) new

-- a box more for each of these, in their order, and nothing between them
pub data AddsBoxes : List DrawnBox → List ℕ → List ℕ → Type 0 where
  nothing : (text : List ℕ) → AddsBoxes [] text text
  another : (nodes : List DrawnBox) (node : DrawnBox) (old between new : List ℕ) →
      AddsBoxes nodes old between → AddsBox node between new →
      AddsBoxes (nodes ++ node ∷ []) old new
