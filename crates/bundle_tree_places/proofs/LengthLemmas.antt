-- A list is the first node and those behind it.
use Rattle.std.proofs.Common.{◌≡◌, ℕ, zero, suc, ◌+◌, ◌≤◌, ◌<◌, true, false, List, [], ◌∷◌, ◌++◌, Option, Some, None, take, drop, length, get_or, append_assoc, Bor, refl, ap, sym, ◌∙◌, arith, map}
use Rattle.std.proofs.lemmas.List.{drop-map, map-append, take-map}
use Rattle.std.proofs.Math.Seq.{drop-cons}
use Rattle.bundle_syntax.specs.declared.piece.Piece.{Piece}
use Rattle.bundle_syntax.specs.Item as h
use Rattle.bundle_syntax.specs.Item.{Item, item_of}
use Rattle.bundle_rules.specs.Nodes.{put_first, side_by_side}
use Rattle.bundle_tree_places.specs.Lengths.{depth_past, length_of_first, begins_node}

-- what is open is ended first, and then come the nodes behind
ended-first : (x : Item) (depth : ℕ) (rest : List Item) → put_first x (side_by_side (suc depth) rest) ≡ (x ∷ take (length_of_first (suc depth) rest) rest) ∷ side_by_side zero (drop (length_of_first (suc depth) rest) rest)
ended-first x depth [] = refl
ended-first x depth (h.Open field head ∷ rest) = ap (put_first x) (ended-first (h.Open field head) (suc depth) rest)
ended-first x depth (h.Ident field symbol ctxt role ∷ rest) = ap (put_first x) (ended-first (h.Ident field symbol ctxt role) depth rest)
ended-first x depth (h.Hole field ∷ rest) = ap (put_first x) (ended-first (h.Hole field) depth rest)
ended-first x zero (h.Close ∷ rest) = refl
ended-first x (suc depth) (h.Close ∷ rest) = ap (put_first x) (ended-first h.Close depth rest)

-- the nodes of a list that begins with one are that one and those behind it
pub nodes-first : (items : List Item) → begins_node items ≡ true → side_by_side zero items ≡ take (length_of_first zero items) items ∷ side_by_side zero (drop (length_of_first zero items) items)
nodes-first [] begins = cc
nodes-first (h.Open field head ∷ rest) begins = ended-first (h.Open field head) zero rest
nodes-first (h.Ident field symbol ctxt role ∷ rest) begins = refl
nodes-first (h.Hole field ∷ rest) begins = refl
nodes-first (h.Close ∷ rest) begins = cc

-- a list that begins with no node has none
pub nodes-none : (items : List Item) → begins_node items ≡ false → side_by_side zero items ≡ []
nodes-none [] begins = refl
nodes-none (h.Open field head ∷ rest) begins = cc
nodes-none (h.Ident field symbol ctxt role ∷ rest) begins = cc
nodes-none (h.Hole field ∷ rest) begins = cc
nodes-none (h.Close ∷ rest) begins = refl

-- one element more was passed, and the first node goes on
pub length-passed : (items : List Item) (place depth inner all : ℕ) (x : Item) → drop place items ≡ x ∷ drop (place + 1) items → depth_past depth x ≡ Some inner → all ≡ place + length_of_first depth (drop place items) → all ≡ place + 1 + length_of_first inner (drop (place + 1) items)
length-passed items place depth inner all x at goes before =
    let rest : List Item = drop (place + 1) items in
    let chosen : Option ℕ → ℕ = λ option. elim option [ None ↦ suc zero | Some more ↦ suc (length_of_first more rest) ] in
    let there : length_of_first depth (drop place items) ≡ suc (length_of_first inner rest) = ap (length_of_first depth) at ∙ ap chosen goes in
    omega (arith, there, before)

-- one element more was passed, and it ends the first node
pub length-ended : (items : List Item) (place depth all : ℕ) (x : Item) → drop place items ≡ x ∷ drop (place + 1) items → depth_past depth x ≡ None → all ≡ place + length_of_first depth (drop place items) → all ≡ place + 1
length-ended items place depth all x at ends before =
    let rest : List Item = drop (place + 1) items in
    let chosen : Option ℕ → ℕ = λ option. elim option [ None ↦ suc zero | Some more ↦ suc (length_of_first more rest) ] in
    let there : length_of_first depth (drop place items) ≡ suc zero = ap (length_of_first depth) at ∙ ap chosen ends in
    omega (arith, there, before)

-- the element at a place, and those behind it
pub read-at : (pieces : List Piece) (place : ℕ) (x : Piece) → place < length pieces → x ≡ get_or pieces place x → drop place (map item_of pieces) ≡ item_of x ∷ drop (place + 1) (map item_of pieces)
read-at pieces place x inside is =
    let next : suc place ≡ place + 1 = omega arith in
    drop-map item_of place pieces
    ∙ ap (map item_of) (drop-cons pieces place x inside ∙ ap (λ (y : Piece). y ∷ drop (suc place) pieces) (sym is))
    ∙ ap (λ n. item_of x ∷ map item_of (drop n pieces)) next
    ∙ ap (λ (rest : List Item). item_of x ∷ rest) (sym (drop-map item_of (place + 1) pieces))

-- one element more is no longer either
bound_by : (rest : List Item) (option : Option ℕ) → ((depth : ℕ) → length_of_first depth rest ≤ length rest) → elim option [ None ↦ suc zero | Some more ↦ suc (length_of_first more rest) ] ≤ suc (length rest)
bound_by rest None below = omega arith
bound_by rest (Some more) below = let its : length_of_first more rest ≤ length rest = below more in omega (arith, its)

-- the first node is no longer than the list
pub length-bound : (depth : ℕ) (items : List Item) → length_of_first depth items ≤ length items
length-bound depth [] = omega arith
length-bound depth (x ∷ rest) = bound_by rest (depth_past depth x) (λ more. length-bound more rest)

-- and has an element where one begins
pub length-some : (items : List Item) → begins_node items ≡ true → 0 < length_of_first zero items
length-some [] begins = cc
length-some (h.Open field head ∷ rest) begins = omega arith
length-some (h.Ident field symbol ctxt role ∷ rest) begins = omega arith
length-some (h.Hole field ∷ rest) begins = omega arith
length-some (h.Close ∷ rest) begins = cc

-- the first node was found, and those behind it are left
pub nodes-found : (all : List (List Item)) (found : List (Bor (List Piece))) (part : Bor (List Piece)) (rest more : List Piece) (n : ℕ) → begins_node (map item_of rest) ≡ true → n ≡ length_of_first zero (map item_of rest) → part.now ≡ take n rest → more ≡ drop n rest → all ≡ map (λ one. map item_of one.now) found ++ side_by_side zero (map item_of rest) → all ≡ map (λ one. map item_of one.now) (found ++ part ∷ []) ++ side_by_side zero (map item_of more)
nodes-found all found part rest more n begins long there behind before =
    let items : List Item = map item_of rest in
    let done : List (List Item) = map (λ (one : Bor (List Piece)). map item_of one.now) found in
    let first : take (length_of_first zero items) items ≡ map item_of part.now =
    ap (λ k. take k items) (sym long) ∙ take-map item_of n rest ∙ ap (map item_of) (sym there) in
    let left : drop (length_of_first zero items) items ≡ map item_of more =
    ap (λ k. drop k items) (sym long) ∙ drop-map item_of n rest ∙ ap (map item_of) (sym behind) in
    before
    ∙ ap (λ (nodes : List (List Item)). done ++ nodes) (nodes-first items begins ∙ ap (λ (node : List Item). node ∷ side_by_side zero (drop (length_of_first zero items) items)) first ∙ ap (λ (l : List Item). map item_of part.now ∷ side_by_side zero l) left)
    ∙ sym (append_assoc done (map item_of part.now ∷ []) (side_by_side zero (map item_of more)))
    ∙ ap (λ (nodes : List (List Item)). nodes ++ side_by_side zero (map item_of more)) (sym (map-append (λ (one : Bor (List Piece)). map item_of one.now) found (part ∷ [])))

-- behind an end that closes one of the nodes inside, one less is open
pub close-passed : (depth next : ℕ) → suc next ≡ depth → depth_past (suc depth) h.Close ≡ Some (suc next)
close-passed zero next e = cc
close-passed (suc depth) next e = ap (λ k. Some k) (sym e)

-- the end of the node itself
pub close-ended : (depth : ℕ) → depth ≡ zero → depth_past (suc depth) h.Close ≡ None
close-ended depth e = ap (λ k. depth_past (suc k) h.Close) e
