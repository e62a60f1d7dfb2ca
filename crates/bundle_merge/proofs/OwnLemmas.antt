-- What stands behind the first of a module's items, where that holds the `import.meta`, is the list of the others.
use Rattle.std.proofs.Common.{◌≡◌, ℕ, Bool, true, false, List, [], ◌∷◌, ◌++◌, Option, Some, None, drop, length, map, take, refl, ap, sym, ◌∙◌, append-nil}
use Rattle.std.specs.Prelude.{is_some, option_map, if◌then◌else◌}
use Rattle.std.proofs.lemmas.Bool.{false≢true}
use Rattle.std.proofs.lemmas.Option.{none-some}
use Rattle.bundle_tree_ast.specs.declared.module.ModuleItem.{ModuleItem}
use Rattle.bundle_syntax.specs.declared.piece.Piece.{Piece}
use Rattle.bundle_syntax.specs.Item as h
use Rattle.bundle_syntax.specs.Item.{Item, item_of}
use Rattle.bundle_tree_listed.specs.Tree.{module_item_items, node}
use Rattle.bundle_tree_places.specs.Marks.{ident_of}
use Rattle.bundle_tree_places.specs.declared.mark.Name.{Name}
use Rattle.bundle_rules.specs.Entries.{has_import_meta}
use Rattle.bundle_rules.specs.Idents.{Ident}
use Rattle.bundle_merge.specs.Read.{first_declared, name_held, item_list, own_list, without_front}

-- what follows as many elements as a list has that stands in front
drop-front : (front all : List Piece) (xs ys : List Item) → map item_of front ≡ xs →
    map item_of all ≡ xs ++ ys → map item_of (drop (length front) all) ≡ ys
drop-front [] all [] ys is whole = whole
drop-front [] all (x ∷ xs) ys is whole = absurd cc
drop-front (p ∷ front) [] [] ys is whole = absurd cc
drop-front (p ∷ front) (q ∷ all) [] ys is whole = absurd cc
drop-front (p ∷ front) [] (x ∷ xs) ys is whole = absurd cc
drop-front (p ∷ front) (q ∷ all) (x ∷ xs) ys is whole =
    let one : map item_of front ≡ xs = cc in
    let two : map item_of all ≡ xs ++ ys = cc in
    drop-front front all xs ys one two

-- the list of a module's own items, where this is the list of all, and this that of the first
module _ (all front : List Piece) where
  behind-first : (items : List ModuleItem) → map item_of all ≡ item_list items →
      (b : Bool) → map item_of front ≡ item_list (if b then take 1 items else []) →
      (held : Option Ident) → first_declared (item_list (if b then take 1 items else [])) ≡ held →
      (own : ℕ) → (held ≡ None → own ≡ 0) → ((name : Ident) → held ≡ Some name → own ≡ length front) →
      map item_of (drop own all) ≡ item_list (without_front held items)
  behind-first items is b its None held own none some =
      ap (λ n. map item_of (drop n all)) (none refl) ∙ is
  behind-first items is false its (Some name) held own none some = absurd (none-some name held)
  behind-first [] is true its (Some name) held own none some = absurd (none-some name held)
  behind-first (item ∷ items) is true its (Some name) held own none some =
      ap (λ n. map item_of (drop n all)) (some name refl)
      ∙ drop-front front all (module_item_items 0 item) (item_list items)
      (its ∙ append-nil (module_item_items 0 item)) is

  pub own-behind : (items : List ModuleItem) → map item_of all ≡ item_list items →
      map item_of front ≡ item_list (if has_import_meta (item_list items) then take 1 items else []) →
      (own : ℕ) → (name_held items ≡ None → own ≡ 0) →
      ((name : Ident) → name_held items ≡ Some name → own ≡ length front) →
      node 0 h.Module (map item_of (drop own all)) ≡ own_list items
  own-behind items is its own none some =
      ap (node 0 h.Module)
      (behind-first items is (has_import_meta (item_list items)) its (name_held items) refl own none some)

-- a name that is there has an identifier
pub no-name : (name : Option Name) → option_map ident_of name ≡ None → is_some name ≡ true → ⊥
no-name None none some = false≢true some
no-name (Some name) none some = none-some (ident_of name) (sym none)

pub a-name : (name : Option Name) (ident : Ident) → option_map ident_of name ≡ Some ident →
    is_some name ≡ false → ⊥
a-name None ident is none = none-some ident is
a-name (Some name) ident is none = false≢true (sym none)
