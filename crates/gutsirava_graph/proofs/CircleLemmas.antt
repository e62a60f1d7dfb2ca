-- Walks along imports.
use Rattle.std.proofs.Common.{◌≡◌, ◌⊎◌, IfSome, Option, Some, ℕ, ◌<◌, zero, suc, List, [], ◌∷◌, ◌++◌, drop, length, refl, sym, subst, get_or, ap, ◌∙◌}
use Rattle.std.specs.List.{All}
use Rattle.std.specs.Option.{option_to_list}
use Rattle.std.specs.declared.alloc.Global.{Global}
use Rattle.std.specs.declared.vec.Vec.{Vec}
use Rattle.std.proofs.Math.Logic.{⊎_elim}
use Rattle.std.proofs.Math.Seq.{drop-cons}
use Rattle.std.proofs.lemmas.List.Elements.{All-push}
use Rattle.gutsirava_graph.specs.declared.unit.BundleUnit.{BundleUnit}
use Rattle.gutsirava_graph.specs.Circle.{ClosesPath, IsCircle, IsCircleOf, IsImportAt, IsWalk}

-- without the first module
walk_tail : (units : List BundleUnit) (first : ℕ) (rest : List ℕ) → IsWalk units (first ∷ rest) → IsWalk units rest
walk_tail units first [] walk = tt
walk_tail units first (second ∷ rest) walk = walk.1

-- without the last module
walk_before : (units : List BundleUnit) (path : List ℕ) (last : ℕ) → IsWalk units (path ++ last ∷ []) → IsWalk units path
walk_before units [] last walk = tt
walk_before units (first ∷ []) last walk = tt
walk_before units (first ∷ second ∷ rest) last walk = (walk.0, walk_before units (second ∷ rest) last walk.1)

-- with one more that the last one imports
walk_behind : (units : List BundleUnit) (path : List ℕ) (last number next : ℕ) → IsWalk units (path ++ last ∷ []) → IsImportAt units last number next
    → IsWalk units ((path ++ last ∷ []) ++ next ∷ [])
walk_behind units [] last number next walk import = ((number, import), tt)
walk_behind units (first ∷ []) last number next walk import = (walk.0, ((number, import), tt))
walk_behind units (first ∷ second ∷ rest) last number next walk import =
    (walk.0, walk_behind units (second ∷ rest) last number next walk.1 import)

-- without the first ones of a front
walk_drop : (units : List BundleUnit) (count : ℕ) (path more : List ℕ) → IsWalk units (path ++ more) → IsWalk units (drop count path ++ more)
walk_drop units zero path more walk = walk
walk_drop units (suc count) [] more walk = walk
walk_drop units (suc count) (first ∷ rest) more walk =
    walk_drop units count rest more (walk_tail units first (rest ++ more) walk)

-- a path that leads back to a module of it holds a circle
circle_of_path : (units : List BundleUnit) (path : List ℕ) (target : ℕ) (circle : List ℕ) → IsWalk units (path ++ target ∷ [])
    → ClosesPath path target circle → IsCircle units circle
circle_of_path units path target circle walk closes = record {
  first = target;
  between = drop (suc closes.at) path;
  closed =
      let within : closes.at < length path = closes.within in
      let begins : get_or path closes.at 0 ≡ target = closes.begins in
      let cut : drop closes.at path ≡ get_or path closes.at 0 ∷ drop (suc closes.at) path = drop-cons path closes.at 0 within in
      closes.whole ∙ ap (λ (part : List ℕ). part ++ target ∷ []) (cut ∙ ap (λ (first : ℕ). first ∷ drop (suc closes.at) path) begins);
  walk = subst (IsWalk units) (sym closes.whole) (walk_drop units closes.at path (target ∷ []) walk);
}

-- ---- a step of the search: the path is what it was before a module and the module, of which a link is followed

pub walk_left : (units : List BundleUnit) (before path : List ℕ) (last : ℕ) → IsWalk units (before ++ last ∷ []) → path ≡ before → IsWalk units path
walk_left units before path last walk is = subst (IsWalk units) (sym is) (walk_before units before last walk)

pub walk_kept : (units : List BundleUnit) (before path : List ℕ) (last : ℕ) → IsWalk units (before ++ last ∷ []) → path ≡ before ++ last ∷ [] → IsWalk units path
walk_kept units before path last walk is = subst (IsWalk units) (sym is) walk

pub walk_on : (units : List BundleUnit) (before path longer : List ℕ) (last number next : ℕ) → IsWalk units (before ++ last ∷ []) → path ≡ before ++ last ∷ []
    → IsImportAt units last number next → longer ≡ path ++ next ∷ [] → IsWalk units longer
walk_on units before path longer last number next walk is import grown =
    subst (IsWalk units) (sym (grown ∙ ap (λ (part : List ℕ). part ++ next ∷ []) is)) (walk_behind units before last number next walk import)

pub walk_begun : (units : List BundleUnit) (path : List ℕ) (entry : ℕ) → (path ≡ []) ⊎ (path ≡ entry ∷ []) → IsWalk units path
walk_begun units path entry is =
    ⊎_elim (λ (none : path ≡ []). subst (IsWalk units) (sym none) tt) (λ (one : path ≡ entry ∷ []). subst (IsWalk units) (sym one) tt) is

circles_more : (units : List BundleUnit) (before path : List ℕ) (last number next : ℕ) (old new : List (Vec ℕ Global)) (circle : Vec ℕ Global)
    → IsWalk units (before ++ last ∷ []) → path ≡ before ++ last ∷ [] → IsImportAt units last number next → ClosesPath path next circle.items
    → All (IsCircleOf units) old → new ≡ old ++ circle ∷ [] → All (IsCircleOf units) new
circles_more units before path last number next old new circle walk is import closes all grown =
    let led : IsWalk units (path ++ next ∷ []) = walk_on units before path (path ++ next ∷ []) last number next walk is import refl in
    let one : IsCircleOf units circle = circle_of_path units path next circle.items led closes in
    subst (All (IsCircleOf units)) (sym grown) (All-push (IsCircleOf units) old circle all one)

pub circles_found : (units : List BundleUnit) (before path shown : List ℕ) (last number next : ℕ) (import : Option ℕ) (old new : List (Vec ℕ Global))
    (found : Option (Vec ℕ Global)) (circle : Vec ℕ Global) → IsWalk units (before ++ last ∷ []) → path ≡ before ++ last ∷ [] → import ≡ Some next
    → IfSome import (IsImportAt units last number) → shown ≡ path → found ≡ Some circle → IfSome found (λ it. ClosesPath shown next it.items)
    → All (IsCircleOf units) old → new ≡ old ++ circle ∷ [] → All (IsCircleOf units) new
circles_found units before path shown last number next import old new found circle walk is leads import_there same there closes all grown =
    let at_next : IsImportAt units last number next =
    subst (λ (o : Option ℕ). IfSome o (IsImportAt units last number)) leads import_there in
    let at_circle : ClosesPath shown next circle.items =
    subst (λ (o : Option (Vec ℕ Global)). IfSome o (λ it. ClosesPath shown next it.items)) there closes in
    circles_more units before path last number next old new circle walk is at_next
    (subst (λ (list : List ℕ). ClosesPath list next circle.items) same at_circle) all grown

pub circles_kept : (units : List BundleUnit) (old new : List (Vec ℕ Global)) → All (IsCircleOf units) old → new ≡ old → All (IsCircleOf units) new
circles_kept units old new all is = subst (All (IsCircleOf units)) (sym is) all

-- a path of which the last module was taken
pub walk_popped : (units : List BundleUnit) (path before : List ℕ) (last : Option ℕ) (unit : ℕ) → path ≡ before ++ option_to_list last → last ≡ Some unit
    → IsWalk units path → IsWalk units (before ++ unit ∷ [])
walk_popped units path before last unit whole is walk =
    subst (IsWalk units) (whole ∙ ap (λ (o : Option ℕ). before ++ option_to_list o) is) walk
