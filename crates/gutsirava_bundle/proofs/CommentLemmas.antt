-- A list without some of the statements that stand for comments, as it grows.
use Rattle.std.proofs.Common.{◌≡◌, if◌then◌else◌, Err, Ok, OnOk, Result, ◌+◌, ◌<◌, ◌≤◌, ◌++◌, ◌∙◌, ℕ, suc, get_or, List, [], ◌∷◌, append_assoc, arith, drop, length, map, set, subst, sym, take, ap}
use Rattle.std.specs.Result.{is_ok}
use Rattle.std.proofs.Math.Seq.{drop-cons}
use Rattle.std.proofs.lemmas.List.{append-nil, at_drop_all, drop-set-lt, map-append, take-append-drop, take_more, take_more_set}
use Rattle.bundle_syntax.specs.Item.{Item, item_of}
use Rattle.bundle_syntax.specs.declared.piece.Piece.{Piece as Node}
use Rattle.bundle_syntax.specs.declared.piece.Piece.TheVariants as p
use Rattle.gutsirava_bundle.specs.BundleText.{AddsDirective, BeginsWithComment, IsComment, IsStatement, directive, LeavesComments, nothing, same, comment}

-- what is left of a list, if this is left so far and these items stand behind
pub record LeavesSoFar (all left behind : List Item) : Type 0 where
  pub on : (more : List Item) → LeavesComments behind more → LeavesComments all (left ++ more)

pub left_first : (all : List Item) → LeavesSoFar all [] all
left_first all = record { on = λ more leaves. leaves }

left_same : (all left behind : List Item) (item : Item) → LeavesSoFar all left (item ∷ behind) → LeavesSoFar all (left ++ item ∷ []) behind
left_same all left behind item before = record {
  on = λ more leaves. rw append_assoc (before.on (item ∷ more) (same item behind more leaves));
}

pub left_moved : (all : List Item) (old new : List Node) (at kept : ℕ) → at < length old → take (kept + 1) new ≡ take kept old ++ take 1 (drop at old) → drop (at + 1) new ≡ drop (at + 1) old
    → LeavesSoFar all (map item_of (take kept old)) (map item_of (drop at old)) → LeavesSoFar all (map item_of (take (kept + 1) new)) (map item_of (drop (at + 1) new))
left_moved all old new at kept within moved behind before =
    let piece : Node = get_or old at p.Close in
    let cut : drop at old ≡ piece ∷ drop (suc at) old = drop-cons old at p.Close within in
    let one : suc at ≡ at + 1 = omega arith in
    let next : drop (suc at) old ≡ drop (at + 1) new = ap (λ (n : ℕ). drop n old) one ∙ sym behind in
    let turned : drop at old ≡ piece ∷ drop (at + 1) new = cut ∙ ap (λ (those : List Node). piece ∷ those) next in
    let grown : map item_of (take (kept + 1) new) ≡ map item_of (take kept old) ++ item_of piece ∷ [] =
    ap (map item_of) (moved ∙ ap (λ (those : List Node). take kept old ++ take 1 those) cut) ∙ map-append item_of (take kept old) (piece ∷ []) in
    subst (λ (left : List Item). LeavesSoFar all left (map item_of (drop (at + 1) new))) (sym grown)
    (left_same all (map item_of (take kept old)) (map item_of (drop (at + 1) new)) (item_of piece)
    (subst (λ (those : List Node). LeavesSoFar all (map item_of (take kept old)) (map item_of those)) turned before))

pub left_comment : (all left items behind : List Item) → BeginsWithComment items behind → LeavesSoFar all left items → LeavesSoFar all left behind
left_comment all left items behind begins before = record {
  on = λ more leaves. before.on more
      (subst (λ (those : List Item). LeavesComments those more) (sym begins.whole)
      (comment begins.one begins.two begins.three begins.four behind more begins.statement begins.string leaves));
}

pub left_end : (all left : List Item) (listed : List Node) (at : ℕ) → length listed ≤ at → LeavesSoFar all left (map item_of (drop at listed)) → LeavesComments all left
left_end all left listed at past before =
    let none : map item_of (drop at listed) ≡ [] = at_drop_all (λ (those : List Node). map item_of those) listed at past in
    let last : LeavesSoFar all left [] = subst (LeavesSoFar all left) none before in
    subst (LeavesComments all) (append-nil left) (last.on [] nothing)

-- ---- a piece moves up

one_at : (pieces : List Node) (at : ℕ) (d : Node) → at < length pieces → take 1 (drop at pieces) ≡ get_or pieces at d ∷ []
one_at pieces at d within = ap (take 1) (drop-cons pieces at d within)

pub moved_up : (old new : List Node) (from to : ℕ) (piece : Node) → to < from → from < length old → piece ≡ get_or old from piece → new ≡ set old to piece → take (to + 1) new ≡ take to old ++ take 1 (drop from old)
moved_up old new from to piece up within is moves =
    ap (take (to + 1)) moves
    ∙ (take_more_set old to piece (omega arith)
    ∙ ap (λ (those : List Node). take to old ++ those) (ap (λ (one : Node). one ∷ []) is ∙ sym (one_at old from piece within)))

pub moved_behind : (old new : List Node) (from to : ℕ) (piece : Node) → to < from → new ≡ set old to piece → drop (from + 1) new ≡ drop (from + 1) old
moved_behind old new from to piece up moves = ap (drop (from + 1)) moves ∙ drop-set-lt (from + 1) old to piece (omega arith)

pub stays_there : (old : List Node) (from to : ℕ) → to ≡ from → from < length old → take (to + 1) old ≡ take to old ++ take 1 (drop from old)
stays_there old from to is within =
    let inside : to < length old = omega arith in
    take_more old to p.Close inside
    ∙ ap (λ (those : List Node). take to old ++ those) (sym (ap (λ (n : ℕ). take 1 (drop n old)) (sym is) ∙ one_at old to p.Close inside))

-- the four pieces of a comment
pub comment_of_pieces : (listed : List Node) (at : ℕ) (a b : Node) → at + 4 ≤ length listed → a ≡ get_or listed at a → b ≡ get_or listed (at + 1) b
    → IsStatement (item_of a) → IsComment (item_of b) → BeginsWithComment (map item_of (drop at listed)) (map item_of (drop (at + 4) listed))
comment_of_pieces listed at a b within is_a is_b statement string =
    let n1 : suc at ≡ at + 1 = omega arith in
    let n2 : suc (at + 1) ≡ at + 2 = omega arith in
    let n3 : suc (at + 2) ≡ at + 3 = omega arith in
    let n4 : suc (at + 3) ≡ at + 4 = omega arith in
    let s1 : drop at listed ≡ get_or listed at a ∷ drop (suc at) listed = drop-cons listed at a (omega arith) in
    let s2 : drop (at + 1) listed ≡ get_or listed (at + 1) b ∷ drop (suc (at + 1)) listed = drop-cons listed (at + 1) b (omega arith) in
    let s3 : drop (at + 2) listed ≡ get_or listed (at + 2) a ∷ drop (suc (at + 2)) listed = drop-cons listed (at + 2) a (omega arith) in
    let s4 : drop (at + 3) listed ≡ get_or listed (at + 3) a ∷ drop (suc (at + 3)) listed = drop-cons listed (at + 3) a (omega arith) in
    let from : (m n : ℕ) → m ≡ n → drop m listed ≡ drop n listed = λ m n e. ap (λ (k : ℕ). drop k listed) e in
    let all : drop at listed ≡ get_or listed at a ∷ get_or listed (at + 1) b ∷ get_or listed (at + 2) a ∷ get_or listed (at + 3) a ∷ drop (at + 4) listed =
    s1 ∙ ap (λ (those : List Node). get_or listed at a ∷ those) (from _ _ n1
    ∙ (s2 ∙ ap (λ (those : List Node). get_or listed (at + 1) b ∷ those) (from _ _ n2
    ∙ (s3 ∙ ap (λ (those : List Node). get_or listed (at + 2) a ∷ those) (from _ _ n3
    ∙ (s4 ∙ ap (λ (those : List Node). get_or listed (at + 3) a ∷ those) (from _ _ n4))))))) in
    record {
      one = item_of (get_or listed at a);
      two = item_of (get_or listed (at + 1) b);
      three = item_of (get_or listed (at + 2) a);
      four = item_of (get_or listed (at + 3) a);
      whole = ap (map item_of) all;
      statement = subst (λ (p : Node). IsStatement (item_of p)) is_a statement;
      string = subst (λ (p : Node). IsComment (item_of p)) is_b string;
    }

-- ---- the statement `"use strict"`

pub directive_of : {E : Type 0} (r : Result (Unit {0}) E) (old added new : List Node) → new ≡ (if is_ok r then old ++ added else old) → map item_of added ≡ directive
    → OnOk r (map item_of new ≡ map item_of old ++ directive)
directive_of (Ok x) old added new grown is =
    ap (map item_of) grown ∙ (map-append item_of old added ∙ ap (λ (end : List Item). map item_of old ++ end) is)
directive_of (Err e) old added new grown is = tt

pub strict_of : (place : ℕ) (pieces front back start one two three : List Node) → front ≡ take place pieces → back ≡ drop place pieces → start ≡ [] → one ≡ start ++ front
    → map item_of two ≡ map item_of one ++ directive → three ≡ two ++ back → AddsDirective (map item_of pieces) (map item_of three)
strict_of place pieces front back start one two three is_front is_back none first second third =
    let cut : pieces ≡ front ++ back =
    sym (take-append-drop place pieces)
    ∙ (ap (λ (part : List Node). part ++ drop place pieces) (sym is_front) ∙ ap (λ (part : List Node). front ++ part) (sym is_back)) in
    let is_one : one ≡ front = first ∙ ap (λ (part : List Node). part ++ front) none in
    record {
      front = map item_of front;
      back = map item_of back;
      whole = ap (map item_of) cut ∙ map-append item_of front back;
      added = ap (map item_of) third
          ∙ (map-append item_of two back
          ∙ ap (λ (part : List Item). part ++ map item_of back) (second ∙ ap (λ (part : List Node). map item_of part ++ directive) is_one));
    }
