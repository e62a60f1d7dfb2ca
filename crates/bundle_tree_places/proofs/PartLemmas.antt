-- What is found among the parts of a list, the first one and those behind it.
use Rattle.std.proofs.Common.{◌≡◌, ℕ, zero, suc, ◌+◌, ◌<◌, Bool, true, false, List, [], ◌∷◌, ◌++◌, take, drop, append_assoc, append-nil, refl, ap, sym, ◌∙◌, arith, map}
use Rattle.std.specs.Prelude.{filter, if◌then◌else◌}
use Rattle.std.proofs.lemmas.List.{drop-drop, drop-map, map-append, take-map}
use Rattle.bundle_syntax.specs.declared.piece.Piece.{Piece}
use Rattle.bundle_syntax.specs.Item.{Item, item_of}
use Rattle.bundle_rules.specs.Nodes.{side_by_side, begins_in, first_or_nothing}
use Rattle.bundle_tree_places.specs.Lengths.{length_of_first, begins_node, kept_in}
use Rattle.bundle_tree_places.specs.Parted.{part_items}
use Rattle.bundle_tree_places.specs.declared.parts.NodeAt.{NodeAt}
use Rattle.bundle_tree_places.proofs.LengthLemmas.{nodes-first, nodes-none}

-- the nodes of a list that begins with one, where it is cut
pub nodes-cut : (rest : List Piece) (n : ℕ) → begins_node (map item_of rest) ≡ true → n ≡ length_of_first zero (map item_of rest) → side_by_side zero (map item_of rest) ≡ map item_of (take n rest) ∷ side_by_side zero (map item_of (drop n rest))
nodes-cut rest n begins long =
    let items : List Item = map item_of rest in
    nodes-first items begins
    ∙ ap (λ k. take k items ∷ side_by_side zero (drop k items)) (sym long)
    ∙ ap (λ node. node ∷ side_by_side zero (drop n items)) (take-map item_of n rest)
    ∙ ap (λ l. map item_of (take n rest) ∷ side_by_side zero l) (drop-map item_of n rest)

-- the first node was found, and those behind it are left
pub parts-found : (all : List (List Item)) (found more : List NodeAt) (part : NodeAt) (pieces rest : List Piece) (at n : ℕ) → rest ≡ drop at pieces → begins_node (map item_of rest) ≡ true → n ≡ length_of_first zero (map item_of rest) → part.pieces.now ≡ take n rest → more ≡ found ++ part ∷ [] → all ≡ map part_items found ++ side_by_side zero (map item_of (drop at pieces)) → all ≡ map part_items more ++ side_by_side zero (map item_of (drop (at + n) pieces))
parts-found all found more part pieces rest at n is begins long there pushed before =
    before
    ∙ ap (λ (l : List Piece). map part_items found ++ side_by_side zero (map item_of l)) (sym is)
    ∙ ap (λ (nodes : List (List Item)). map part_items found ++ nodes) (nodes-cut rest n begins long ∙ ap (λ (node : List Piece). map item_of node ∷ side_by_side zero (map item_of (drop n rest))) (sym there))
    ∙ sym (append_assoc (map part_items found) (part_items part ∷ []) (side_by_side zero (map item_of (drop n rest))))
    ∙ ap (λ (nodes : List (List Item)). nodes ++ side_by_side zero (map item_of (drop n rest))) (sym (map-append part_items found (part ∷ [])))
    ∙ ap (λ (l : List NodeAt). map part_items l ++ side_by_side zero (map item_of (drop n rest))) (sym pushed)
    ∙ ap (λ (l : List Piece). map part_items more ++ side_by_side zero (map item_of l)) (ap (drop n) is ∙ drop-drop n at pieces)

-- all were found
pub parts-all : (all : List (List Item)) (found : List NodeAt) (pieces : List Piece) (at : ℕ) → begins_node (map item_of (drop at pieces)) ≡ false → all ≡ map part_items found ++ side_by_side zero (map item_of (drop at pieces)) → map part_items found ≡ all
parts-all all found pieces at none before =
    sym (before ∙ ap (λ (nodes : List (List Item)). map part_items found ++ nodes) (nodes-none (map item_of (drop at pieces)) none) ∙ append-nil (map part_items found))

-- the first node in a field
abbrev pub first_from : ℕ → List Piece → List Item
first_from field rest = first_or_nothing (filter (begins_in field) (side_by_side zero (map item_of rest)))

-- a part of one element at least begins as the list
begins_in-take : (field n : ℕ) (items : List Item) → 0 < n → begins_in field (take n items) ≡ begins_in field items
begins_in-take field zero items some = absurd (omega (arith, some))
begins_in-take field (suc n) [] some = refl
begins_in-take field (suc n) (x ∷ rest) some = refl

found-by : (b : Bool) (node : List Item) (more : List (List Item)) (others : List (List Item)) → b ≡ true → first_or_nothing (if b then node ∷ others else more) ≡ node
found-by b node more others e = rw e refl

passed-by : (b : Bool) (node : List Item) (more : List (List Item)) (others : List (List Item)) → b ≡ false → (if b then node ∷ others else more) ≡ more
passed-by b node more others e = rw e refl

-- the list begins with a node in the field
pub first-here : (field n : ℕ) (rest : List Piece) → begins_node (map item_of rest) ≡ true → n ≡ length_of_first zero (map item_of rest) → 0 < n → begins_in field (map item_of rest) ≡ true → first_from field rest ≡ map item_of (take n rest)
first-here field n rest begins long some here =
    ap (λ nodes. first_or_nothing (filter (begins_in field) nodes)) (nodes-cut rest n begins long)
    ∙ found-by _ (map item_of (take n rest)) _ _ (ap (begins_in field) (sym (take-map item_of n rest)) ∙ begins_in-take field n (map item_of rest) some ∙ here)

-- its first node lies in another field
pub first-passed : (field n : ℕ) (rest : List Piece) → begins_node (map item_of rest) ≡ true → n ≡ length_of_first zero (map item_of rest) → 0 < n → begins_in field (map item_of rest) ≡ false → first_from field rest ≡ first_from field (drop n rest)
first-passed field n rest begins long some here =
    ap (λ nodes. first_or_nothing (filter (begins_in field) nodes)) (nodes-cut rest n begins long)
    ∙ ap first_or_nothing (passed-by _ (map item_of (take n rest)) _ _ (ap (begins_in field) (sym (take-map item_of n rest)) ∙ begins_in-take field n (map item_of rest) some ∙ here))

-- a list without nodes has none in the field
pub first-none : (field : ℕ) (rest : List Piece) → begins_node (map item_of rest) ≡ false → first_from field rest ≡ []
first-none field rest none = ap (λ nodes. first_or_nothing (filter (begins_in field) nodes)) (nodes-none (map item_of rest) none)

-- the same behind a place
pub first-moved : (field : ℕ) (all rest : List Piece) (at n : ℕ) → rest ≡ drop at all → begins_node (map item_of rest) ≡ true → n ≡ length_of_first zero (map item_of rest) → 0 < n → begins_in field (map item_of rest) ≡ false → first_from field all ≡ first_from field (drop at all) → first_from field all ≡ first_from field (drop (at + n) all)
first-moved field all rest at n is begins long some here before =
    before ∙ ap (first_from field) (sym is) ∙ first-passed field n rest begins long some here ∙ ap (first_from field) (ap (drop n) is ∙ drop-drop n at all)

-- the nodes of a list that lie in a field
abbrev pub all_from : ℕ → List Piece → List (List Item)
all_from field rest = filter (begins_in field) (side_by_side zero (map item_of rest))

-- a node more, if it lies in the field
filter-kept : (field : ℕ) (node : List Item) (more : List (List Item)) → filter (begins_in field) (node ∷ more) ≡ kept_in field node ++ filter (begins_in field) more
filter-kept field node more = by (begins_in field node)
  where
    by : (b : Bool) → (if b then node ∷ filter (begins_in field) more else filter (begins_in field) more) ≡ (if b then node ∷ [] else []) ++ filter (begins_in field) more
    by true = refl
    by false = refl

-- the first node was found and kept if it lies in the field, and those behind it are left
pub kept-found : (field : ℕ) (all : List (List Item)) (found more : List NodeAt) (node pieces rest : List Piece) (at n : ℕ) → rest ≡ drop at pieces → begins_node (map item_of rest) ≡ true → n ≡ length_of_first zero (map item_of rest) → node ≡ take n rest → map part_items more ≡ map part_items found ++ kept_in field (map item_of node) → all ≡ map part_items found ++ all_from field (drop at pieces) → all ≡ map part_items more ++ all_from field (drop (at + n) pieces)
kept-found field all found more node pieces rest at n is begins long there pushed before =
    before
    ∙ ap (λ (l : List Piece). map part_items found ++ all_from field l) (sym is)
    ∙ ap (λ (nodes : List (List Item)). map part_items found ++ filter (begins_in field) nodes) (nodes-cut rest n begins long ∙ ap (λ (first : List Piece). map item_of first ∷ side_by_side zero (map item_of (drop n rest))) (sym there))
    ∙ ap (λ (nodes : List (List Item)). map part_items found ++ nodes) (filter-kept field (map item_of node) (side_by_side zero (map item_of (drop n rest))))
    ∙ sym (append_assoc (map part_items found) (kept_in field (map item_of node)) (all_from field (drop n rest)))
    ∙ ap (λ (nodes : List (List Item)). nodes ++ all_from field (drop n rest)) (sym pushed)
    ∙ ap (λ (l : List Piece). map part_items more ++ all_from field l) (ap (drop n) is ∙ drop-drop n at pieces)
