-- Texts that grow by boxes.
use Rattle.std.proofs.Common.{◌≡◌, ◌<◌, ◌+◌, ℕ, List, [], ◌++◌, take, get_or, length, refl, sym, ◌∙◌, ap, subst, append_assoc, append-nil, arith, codes}
use Rattle.std.proofs.lemmas.List.{take_more, take_all}
use Rattle.gutsirava_views.specs.Boxes.{AddsBox, AddsBoxes, Grows, tip_of, title_text, another}
use Rattle.gutsirava_views.specs.Lines.{AddsLine, AddsLines, none_yet, one_more}
use Rattle.gutsirava_views.specs.declared.picture.drawing.Columns.{Columns}
use Rattle.gutsirava_views.specs.declared.picture.nodes.DrawnBox.{DrawnBox}
use Rattle.gutsirava_views.specs.declared.picture.points.ColumnPlan.{ColumnPlan}
use Rattle.gutsirava_views.specs.declared.picture.points.PointLink.{PointLink}

pub four_parts : (a b c d e w x y z : List ℕ) → b ≡ a ++ w → c ≡ b ++ x → d ≡ c ++ y → e ≡ d ++ z
    → e ≡ a ++ (w ++ (x ++ (y ++ z)))
four_parts a b c d e w x y z first second third fourth =
    rw (fourth, third, second, first) (simp append_assoc refl)

pub grows_by : (old new added : List ℕ) → new ≡ old ++ added → Grows old new
grows_by old new added is = record { added = added; whole = is }

pub grows_same : (text : List ℕ) → Grows text text
grows_same text = grows_by text text [] (sym (append-nil text))

pub grows_again : (old between new : List ℕ) → Grows old between → Grows between new → Grows old new
grows_again old between new first second = record {
  added = first.added ++ second.added;
  whole = second.whole ∙ ap (λ l. l ++ second.added) first.whole ∙ append_assoc old first.added second.added;
}

-- a box: its group, its title, and what is drawn behind that
pub box_of : (node : DrawnBox) (old group title new : List ℕ)
    → group ≡ old ++ codes "<g>" → title ≡ group ++ title_text (tip_of node) → Grows title new
    → AddsBox node old new
box_of node old group title new begins tells grows = record {
  added = grows.added;
  whole = grows.whole
      ∙ ap (λ l. l ++ grows.added) (tells ∙ ap (λ l. l ++ title_text (tip_of node)) begins
      ∙ append_assoc old (codes "<g>") (title_text (tip_of node)));
}

-- one more of the boxes
pub boxes_step : (nodes : List DrawnBox) (i : ℕ) (d node : DrawnBox) (old between new : List ℕ) → i < length nodes
    → node ≡ get_or nodes i d → AddsBoxes (take i nodes) old between → AddsBox node between new
    → AddsBoxes (take (i + 1) nodes) old new
boxes_step nodes i d node old between new within is before added =
    let P : List DrawnBox → Type 0 = λ l. AddsBoxes l old new in
    let Q : DrawnBox → Type 0 = λ it. AddsBox it between new in
    subst P (sym (take_more nodes i d within)) (another (take i nodes) (get_or nodes i d) old between new before (subst Q is added))

pub no_lines : (plan : ColumnPlan) (columns : Columns) (text : List ℕ) → AddsLines plan columns [] text text
no_lines plan columns text = none_yet text text (grows_same text)

lines_grow : (plan : ColumnPlan) (columns : Columns) (links : List PointLink) (old between new : List ℕ)
    → AddsLines plan columns links old between → Grows between new → AddsLines plan columns links old new
lines_grow plan columns links old between new (none_yet before after grown) grows =
    none_yet old new (grows_again old between new grown grows)
lines_grow plan columns links old between new (one_more before link start mid drawn after lines line grown) grows =
    one_more before link old mid drawn new lines line (grows_again drawn between new grown grows)

-- one more of the lines, behind what stands before it
pub lines_step : (plan : ColumnPlan) (columns : Columns) (links : List PointLink) (i : ℕ) (d link : PointLink) (old between turned new : List ℕ)
    → i < length links → link ≡ get_or links i d → AddsLines plan columns (take i links) old between → Grows between turned
    → AddsLine plan columns link turned new → AddsLines plan columns (take (i + 1) links) old new
lines_step plan columns links i d link old between turned new within is before turns added =
    let P : List PointLink → Type 0 = λ l. AddsLines plan columns l old new in
    let Q : PointLink → Type 0 = λ it. AddsLine plan columns it turned new in
    subst P (sym (take_more links i d within))
    (one_more (take i links) (get_or links i d) old turned new new
    (lines_grow plan columns (take i links) old between turned before turns) (subst Q is added) (grows_same new))

-- all of them, and what stands behind them
pub lines_all : (plan : ColumnPlan) (columns : Columns) (links all : List PointLink) (i : ℕ) (old between new : List ℕ)
    → links ≡ all → length links ≡ i → AddsLines plan columns (take i links) old between → Grows between new
    → AddsLines plan columns all old new
lines_all plan columns links all i old between new are end lines grows =
    let P : List PointLink → Type 0 = λ l. AddsLines plan columns l old new in
    subst P (take_all i links (omega (arith, end)) ∙ are) (lines_grow plan columns (take i links) old between new lines grows)
