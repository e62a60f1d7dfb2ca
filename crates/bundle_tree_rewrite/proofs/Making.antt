-- Items that are made anew are items again.
use Rattle.std.proofs.Common.{◌≡◌, ◌∙◌, List, [], ◌∷◌, append-nil, refl, sym, ap, subst}
use Rattle.std.specs.List.{flat_map}
use Rattle.bundle_syntax.specs.Item.{Item}
use Rattle.bundle_rules.specs.Rebuilds.{Change, rebuilt}
use Rattle.bundle_tree_ast.specs.declared.module.ModuleItem.{ModuleItem}
use Rattle.bundle_tree_listed.specs.Tree.{module_item_items}
use Rattle.bundle_tree_parse.specs.Sorts.{AnItem}
use Rattle.bundle_tree_parse.specs.Standing.{AreEach, IsIn}
use Rattle.bundle_tree_parse.proofs.Trees.{module_item_in, items_in}
use Rattle.bundle_tree_places.specs.Edits.{Anywhere}
use Rattle.bundle_tree_places.proofs.EditsLemmas.{rebuilt_so}
use Rattle.bundle_tree_rebuild.specs.Becomes.{Reworked}
use Rattle.bundle_tree_rebuild.specs.Fits.{Fits}
use Rattle.bundle_tree_rebuild.specs.Work.{plain}
use Rattle.bundle_tree_rebuild.proofs.Plain.{plain_edited}
use Rattle.bundle_tree_rewrite.proofs.grammar.Fitting.{fits_each, fits_place}
use Rattle.bundle_tree_rewrite.proofs.grammar.Keeping.{kept_each, kept_place}

-- a row of items
pub items_made : (items : List ModuleItem) (changes : List Change) {before made : List Item} → before ≡ flat_map (module_item_items 0) items → (Fits Anywhere before → Reworked (plain changes) before made) → AreEach AnItem 0 made
items_made items changes is made_by =
    let them : AreEach AnItem 0 _ = subst (AreEach AnItem 0) (sym is) (items_in 0 items) in
    kept_each refl (made_by (fits_each refl them)).by them

pub items_rebuilt : (items : List ModuleItem) (changes : List Change) {before made : List Item} → before ≡ flat_map (module_item_items 0) items → (Fits Anywhere before → Reworked (plain changes) before made) → made ≡ rebuilt (flat_map (module_item_items 0) items) changes
items_rebuilt items changes {before = before} is made_by =
    let them : AreEach AnItem 0 before = subst (AreEach AnItem 0) (sym is) (items_in 0 items) in
    rebuilt_so (plain_edited refl (made_by (fits_each refl them)).by) ∙ ap (λ list. rebuilt list changes) is

-- one item
pub one_listed : (item : ModuleItem) {before : List Item} → before ≡ flat_map (module_item_items 0) (item ∷ []) → before ≡ module_item_items 0 item
one_listed item is = is ∙ append-nil (module_item_items 0 item)

pub item_made : (item : ModuleItem) (changes : List Change) {before made : List Item} → before ≡ flat_map (module_item_items 0) (item ∷ []) → (Fits Anywhere before → Reworked (plain changes) before made) → IsIn AnItem 0 made
item_made item changes {before = before} is made_by =
    let it : IsIn AnItem 0 before = subst (IsIn AnItem 0) (sym (one_listed item is)) (module_item_in 0 item) in
    kept_place refl (made_by (fits_place refl it)).by it

pub item_rebuilt : (item : ModuleItem) (changes : List Change) {before made : List Item} → before ≡ flat_map (module_item_items 0) (item ∷ []) → (Fits Anywhere before → Reworked (plain changes) before made) → made ≡ rebuilt (module_item_items 0 item) changes
item_rebuilt item changes {before = before} is made_by =
    let it : IsIn AnItem 0 before = subst (IsIn AnItem 0) (sym (one_listed item is)) (module_item_in 0 item) in
    rebuilt_so (plain_edited refl (made_by (fits_place refl it)).by) ∙ ap (λ list. rebuilt list changes) (one_listed item is)

pub ruleset making = (
  items_made,
  items_rebuilt,
  item_made,
  item_rebuilt,
)
