-- The lines of a picture.
use Rattle.std.specs.Prelude.{◌≡◌, ℕ, ◌+◌, ◌-◌, ◌^◌, List, [], ◌∷◌, ◌++◌, IfSome, codes, decimal, min, slice_get, slice_index_or}
use Rattle.std.specs.List.{flat_map}
use Rattle.gutsirava_views.specs.Boxes.{AddsBoxes, Grows}
use Rattle.gutsirava_views.specs.declared.picture.drawing.Columns.{Columns}
use Rattle.gutsirava_views.specs.declared.picture.drawing.LineTip.{LineTip}
use Rattle.gutsirava_views.specs.declared.picture.nodes.DrawnGraph.{DrawnGraph}
use Rattle.gutsirava_views.specs.declared.picture.points.ColumnPlan.{ColumnPlan}
use Rattle.gutsirava_views.specs.declared.picture.points.PointLink.{PointLink}

-- a sum, as far as numbers reach
abbrev pub up : ℕ → ℕ → ℕ
up a b = min (a + b) (2 ^ 64 - 1)

-- where a column begins, and where it ends
abbrev pub left_of : Columns → ℕ → ℕ
left_of columns layer = slice_index_or columns.lefts.items layer 28

abbrev pub width_of : Columns → ℕ → ℕ
width_of columns layer = slice_index_or columns.widths.items layer 0

abbrev pub right_of : Columns → ℕ → ℕ
right_of columns layer = up (left_of columns layer) (width_of columns layer)

-- how far from above something is that stands below the top of a point
abbrev pub height_of : ℕ → ℕ → ℕ
height_of top below = up (up top below) 84

-- a line leaves the column of its first point at the right, at its height
abbrev pub Leaves : ColumnPlan → Columns → PointLink → LineTip → Type 0
Leaves plan columns link tip =
    IfSome (slice_get plan.points.items link.from) (λ point.
    (tip.outer ≡ right_of columns point.layer) × (tip.top ≡ height_of point.top link.from_below))

-- it meets the column of its last point at the left, at its height
abbrev pub Meets : ColumnPlan → Columns → PointLink → LineTip → Type 0
Meets plan columns link tip =
    IfSome (slice_get plan.points.items link.to) (λ point.
    (tip.outer ≡ left_of columns point.layer) × (tip.top ≡ height_of point.top link.to_below))

-- a number behind a text
abbrev pub number_at : List ℕ × ℕ → List ℕ
number_at piece = piece.0 ++ decimal piece.1

-- a line from one place to another, by a bend, and on to the left or the right
abbrev pub line_text : List ℕ → LineTip → LineTip → ℕ → ℕ → List ℕ
line_text class begin end bend far =
    codes "<path class=\"" ++ (class ++ (codes "\" d=\"" ++ (flat_map number_at
    ((codes "M", begin.inner) ∷ ((codes " ", begin.top) ∷ ((codes "H", begin.outer)
    ∷ ((codes "C", bend) ∷ ((codes " ", begin.top) ∷ ((codes " ", bend)
    ∷ ((codes " ", end.top) ∷ ((codes " ", end.outer) ∷ ((codes " ", end.top)
    ∷ ((codes "H", far) ∷ [])))))))))) ++ ([] ++ codes "\"/>"))))

-- a line more, between the points that it joins
pub record AddsLine (plan : ColumnPlan) (columns : Columns) (link : PointLink)
    (old new : List ℕ) : Type 0 where
  pub class : List ℕ
  pub begin : LineTip
  pub end : LineTip
  pub bend : ℕ
  pub far : ℕ
  pub leaves : Leaves plan columns link begin
  pub meets : Meets plan columns link end
  pub whole : new ≡ old ++ line_text class begin end bend far

-- a line more for each of these, in their order
pub data AddsLines (plan : ColumnPlan) (columns : Columns)
    : List PointLink → List ℕ → List ℕ → Type 0 where
  none_yet : (old new : List ℕ) → Grows old new → AddsLines plan columns [] old new
  one_more : (links : List PointLink) (link : PointLink) (old between drawn new : List ℕ) →
      AddsLines plan columns links old between → AddsLine plan columns link between drawn →
      Grows drawn new → AddsLines plan columns (links ++ link ∷ []) old new

-- a picture of these: a line for each link of the plan, and a box for each node of the graph
pub record IsDrawn (graph : DrawnGraph) (plan : ColumnPlan) (text : List ℕ) : Type 0 where
  pub columns : Columns
  pub ground : List ℕ
  pub lined : List ℕ
  pub boxed : List ℕ
  pub lines : AddsLines plan columns plan.links.items ground lined
  pub boxes : AddsBoxes graph.nodes.items lined boxed
  pub rest : Grows boxed text
