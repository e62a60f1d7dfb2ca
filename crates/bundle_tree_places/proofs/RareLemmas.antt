-- A list without any of what few modules have has none of each kind.
use Rattle.std.proofs.Common.{◌≡◌, ◌&&◌, ◌||◌, Bool, true, false, not, List, [], ◌∷◌, refl, ap, sym, ◌∙◌}
use Rattle.bundle_syntax.specs.Item as h
use Rattle.bundle_syntax.specs.Item.{Item, Head}
use Rattle.bundle_rules.specs.Awaits.{awaits, awaits_outside}
use Rattle.bundle_rules.specs.Bundle.{is_with}
use Rattle.bundle_rules.specs.Entries.{has_import_meta, is_import_meta}
use Rattle.bundle_rules.specs.Nodes.{has_head}
use Rattle.bundle_tree_places.specs.declared.awaits.Standing.{Standing}
use Rattle.bundle_tree_places.specs.Nested.{awaits_in, is_first_inside, nested_past, without_first}
use Rattle.bundle_tree_places.specs.Rarities.{is_rare}
use Rattle.bundle_tree_places.proofs.AwaitsLemmas.{awaits_in-tree}

first-no : (a b : Bool) → (a || b) ≡ false → a ≡ false
first-no true b e = cc
first-no false b e = refl

second-no : (a b : Bool) → (a || b) ≡ false → b ≡ false
second-no true b e = cc
second-no false b e = e

-- neither the first nor one behind it
neither : (b more : Bool) → elim b [ true ↦ true | false ↦ more ] ≡ false → (b ≡ false) × (more ≡ false)
neither true more e = cc
neither false more e = (refl, e)

-- a list without nodes of the wider kind has none of the narrower
narrower : (wide narrow : Head → Bool) → ((head : Head) → wide head ≡ false → narrow head ≡ false) → (items : List Item) → has_head wide items ≡ false → has_head narrow items ≡ false
narrower wide narrow is [] none = refl
narrower wide narrow is (h.Open field head ∷ rest) none =
    let both = neither (wide head) (has_head wide rest) none in
    ap (λ b. elim b [ true ↦ true | false ↦ has_head narrow rest ]) (is head both.0) ∙ narrower wide narrow is rest both.1
narrower wide narrow is (h.Ident field symbol ctxt role ∷ rest) none = narrower wide narrow is rest none
narrower wide narrow is (h.Hole field ∷ rest) none = narrower wide narrow is rest none
narrower wide narrow is (h.Close ∷ rest) none = narrower wide narrow is rest none

-- where none awaits, none does outside functions
unawaited : (items : List Item) → has_head awaits items ≡ false → (nested : List Standing) → awaits_in nested items ≡ false
unawaited [] none nested = refl
unawaited (h.Open field head ∷ rest) none nested =
    let both = neither (awaits head) (has_head awaits rest) none in
    let more : List Standing = nested_past nested (h.Open field head) in
    ap (λ b. (b && not (is_first_inside nested field)) || awaits_in more rest) both.0 ∙ unawaited rest both.1 more
unawaited (h.Ident field symbol ctxt role ∷ rest) none nested = unawaited rest none nested
unawaited (h.Hole field ∷ rest) none nested = unawaited rest none nested
unawaited (h.Close ∷ rest) none nested = unawaited rest none (without_first nested)

pub no_with : (items : List Item) → has_head is_rare items ≡ false → false ≡ has_head is_with items
no_with items none = sym (narrower is_rare is_with (λ head e. first-no (is_with head) (is_import_meta head || awaits head) e) items none)

pub no_meta : (items : List Item) → has_head is_rare items ≡ false → false ≡ has_import_meta items
no_meta items none =
    sym (narrower is_rare is_import_meta (λ head e. first-no (is_import_meta head) (awaits head) (second-no (is_with head) (is_import_meta head || awaits head) e)) items none)

pub no_await : (items : List Item) → has_head is_rare items ≡ false → false ≡ awaits_outside items
no_await items none =
    let one : has_head awaits items ≡ false = narrower is_rare awaits (λ head e. second-no (is_import_meta head) (awaits head) (second-no (is_with head) (is_import_meta head || awaits head) e)) items none in
    sym (unawaited items one _) ∙ awaits_in-tree items
