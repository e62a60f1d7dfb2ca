-- Whole nodes, one after the other: how they are cut apart, and what lies around what follows
-- them.
use Rattle.std.proofs.Common.{◌≡◌, ℕ, zero, suc, ◌+◌, List, [], ◌∷◌, ◌++◌, drop, refl, sym, ap, ◌∙◌, append_assoc, append-nil, arith}
use Rattle.std.specs.Prelude.{fold}
use Rattle.std.proofs.lemmas.List.Sums.{fold-append}
use Rattle.bundle_syntax.specs.declared.piece.Role.{Role}
use Rattle.bundle_syntax.specs.Item as h
use Rattle.bundle_syntax.specs.Item.{Item, Head}
use Rattle.bundle_rules.specs.Places.{Spot, past, in_field, outer_path}
use Rattle.bundle_rules.specs.Nodes.{put_first, side_by_side, parts, first_or_nothing, node_at}
use Rattle.bundle_tree_places.specs.Edits.{node}
use Rattle.bundle_link.proofs.NodePaths.{field-twice, drop-next as drop-after}
use Rattle.bundle_merge_theory.proofs.joined.Paths.{outer-in_field}

-- nodes, one after the other
pub data Whole : List Item → Type 0 where
  nothing : Whole []
  hole : (field : ℕ) → Whole (h.Hole field ∷ [])
  name : (field : ℕ) (x : List ℕ) (ctxt : ℕ) (role : Role) → Whole (h.Ident field x ctxt role ∷ [])
  inner : (field : ℕ) (head : Head) {inside : List Item} → Whole inside →
      Whole (node field head inside)
  joined : {xs ys : List Item} → Whole xs → Whole ys → Whole (xs ++ ys)

-- ---- side by side
-- elements before the first of some lists
abbrev pub put_all : List Item → List (List Item) → List (List Item)
put_all [] lists = lists
put_all (x ∷ xs) lists = put_first x (put_all xs lists)

pub put_all-append : (xs ys : List Item) (lists : List (List Item)) →
    put_all (xs ++ ys) lists ≡ put_all xs (put_all ys lists)
put_all-append [] ys lists = refl
put_all-append (x ∷ xs) ys lists = ap (put_first x) (put_all-append xs ys lists)

pub put_all-cons : (xs list : List Item) (lists : List (List Item)) →
    put_all xs (list ∷ lists) ≡ (xs ++ list) ∷ lists
put_all-cons [] list lists = refl
put_all-cons (x ∷ xs) list lists = ap (put_first x) (put_all-cons xs list lists)

pub deeper : {xs : List Item} → Whole xs → (depth : ℕ) (rest : List Item) →
    side_by_side (suc depth) (xs ++ rest) ≡ put_all xs (side_by_side (suc depth) rest)
deeper nothing depth rest = refl
deeper (hole field) depth rest = refl
deeper (name field x ctxt role) depth rest = refl
deeper (inner field head {inside = inside} whole) depth rest =
    ap (λ (l : List Item). put_first (h.Open field head) (side_by_side (suc (suc depth)) l))
    (append_assoc inside (h.Close ∷ []) rest)
    ∙ (ap (put_first (h.Open field head)) (deeper whole (suc depth) (h.Close ∷ rest))
    ∙ ap (put_first (h.Open field head))
    (sym (put_all-append inside (h.Close ∷ []) (side_by_side (suc depth) rest))))
deeper (joined {xs = xs} {ys = ys} one two) depth rest =
    ap (side_by_side (suc depth)) (append_assoc xs ys rest)
    ∙ (deeper one depth (ys ++ rest)
    ∙ (ap (put_all xs) (deeper two depth rest)
    ∙ sym (put_all-append xs ys (side_by_side (suc depth) rest))))

-- one node before others
pub beside-node : (field : ℕ) (head : Head) {inside : List Item} → Whole inside →
    (rest : List Item) →
    side_by_side zero (h.Open field head ∷ (inside ++ h.Close ∷ rest)) ≡ node field head inside
    ∷ side_by_side zero rest
beside-node field head {inside = inside} whole rest =
    ap (put_first (h.Open field head)) (deeper whole zero (h.Close ∷ rest))
    ∙ ap (put_first (h.Open field head))
    (put_all-cons inside (h.Close ∷ []) (side_by_side zero rest))

pub beside : {xs : List Item} → Whole xs → (rest : List Item) →
    side_by_side zero (xs ++ rest) ≡ side_by_side zero xs ++ side_by_side zero rest
beside nothing rest = refl
beside (hole field) rest = refl
beside (name field x ctxt role) rest = refl
beside (inner field head {inside = inside} whole) rest =
    ap (λ (l : List Item). side_by_side zero (h.Open field head ∷ l))
    (append_assoc inside (h.Close ∷ []) rest)
    ∙ (beside-node field head whole rest
    ∙ ap (λ (l : List (List Item)). l ++ side_by_side zero rest)
    (sym (beside-node field head whole [])))
beside (joined {xs = xs} {ys = ys} one two) rest =
    ap (side_by_side zero) (append_assoc xs ys rest)
    ∙ (beside one (ys ++ rest)
    ∙ (ap (λ (l : List (List Item)). side_by_side zero xs ++ l) (beside two rest)
    ∙ (sym (append_assoc (side_by_side zero xs) (side_by_side zero ys) (side_by_side zero rest))
    ∙ ap (λ (l : List (List Item)). l ++ side_by_side zero rest) (sym (beside one ys)))))

-- what lies directly in a node
pub parts-node : (field : ℕ) (head : Head) {inside : List Item} → Whole inside →
    parts (node field head inside) ≡ side_by_side zero inside
parts-node field head {inside = inside} whole =
    beside whole (h.Close ∷ []) ∙ append-nil (side_by_side zero inside)

-- the node that begins at a place
pub node_at-is : (w : List Item) (place field : ℕ) (head : Head) {inside : List Item} →
    Whole inside → (rest : List Item) →
    drop place w ≡ h.Open field head ∷ (inside ++ h.Close ∷ rest) →
    node_at w place ≡ node field head inside
node_at-is w place field head whole rest e =
    ap (λ (l : List Item). first_or_nothing (side_by_side zero l)) e
    ∙ ap first_or_nothing (beside-node field head whole rest)

-- ---- places
pub drop-next : {X : Type 0} (n : ℕ) (w : List X) (x : X) (rest : List X) → drop n w ≡ x ∷ rest →
    drop (n + 1) w ≡ rest
drop-next n w x rest e =
    ap (λ k. drop k w) (let more : n + 1 ≡ suc n = omega arith in more) ∙ drop-after w n x rest e

-- ---- paths
pub keeps : {xs : List Item} → Whole xs → (spot : Spot) (n : ℕ) →
    in_field n (fold past spot xs).path ≡ in_field n spot.path
keeps nothing spot n = refl
keeps (hole field) spot n = refl
keeps (name field x ctxt role) spot n = refl
keeps (inner field head {inside = inside} whole) spot n =
    ap (λ (s : Spot). in_field n s.path)
    (fold-append past (past spot (h.Open field head)) inside (h.Close ∷ []))
    ∙ (ap (in_field n)
    (sym (outer-in_field 0 (fold past (past spot (h.Open field head)) inside).path)
    ∙ ap outer_path (keeps whole (past spot (h.Open field head)) 0))
    ∙ field-twice n field spot.path)
keeps (joined {xs = xs} {ys = ys} one two) spot n =
    ap (λ (s : Spot). in_field n s.path) (fold-append past spot xs ys)
    ∙ (keeps two (fold past spot xs) n ∙ keeps one spot n)
