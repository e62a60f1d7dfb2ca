-- What a top item imports, by its head.
use Rattle.std.proofs.Common.{◌≡◌, ℕ, ◌+◌, Bool, true, false, List, [], ◌∷◌, ◌++◌, Some, None, length, refl, ap, sym, ◌∙◌, map}
use Rattle.std.specs.Prelude.{◌||◌}
use Rattle.std.specs.List.{flat_map, list_any}
use Rattle.bundle_syntax.specs.Item as h
use Rattle.bundle_syntax.specs.Item.{Item, Head}
use Rattle.bundle_rules.specs.Nodes.{Text, in_field, parts, begins_with}
use Rattle.bundle_rules.specs.Statements.{placed}
use Rattle.bundle_rules.specs.Entries.{import_entry, imports_by, imports_of, imports_of_item, text_in, is_module_declaration}
use Rattle.bundle_tree_places.specs.declared.parts.NodeAt.{NodeAt}
use Rattle.bundle_tree_places.specs.Heads.{is_import}
use Rattle.bundle_tree_places.specs.Lengths.{head_at}
use Rattle.bundle_tree_places.specs.Parted.{part_items}
use Rattle.bundle_link_tables.specs.TablesOf.{entry_as, has_declaration}

by_import : (head : Head) (items : List Item) → is_import head ≡ true → imports_by head items ≡ flat_map (import_entry (text_in 1 items)) (in_field 0 items)
by_import (h.ImportDecl meta) items is = refl
by_import _ items is = cc

by_other : (head : Head) (items : List Item) → is_import head ≡ false → imports_by head items ≡ []
by_other (h.ImportDecl meta) items is = cc
by_other _ items is = refl

from_import : (items : List Item) → begins_with is_import items ≡ true → imports_of_item items ≡ flat_map (import_entry (text_in 1 items)) (in_field 0 items)
from_import [] is = cc
from_import (h.Open field head ∷ rest) is = by_import head (h.Open field head ∷ rest) is
from_import (h.Ident field sym ctxt role ∷ rest) is = cc
from_import (h.Hole field ∷ rest) is = cc
from_import (h.Close ∷ rest) is = cc

-- an import declaration imports what its specifiers do
pub imports_here : (items : List Item) (source : Text) (nodes : List (List Item)) → begins_with is_import items ≡ true → source ≡ text_in 1 items → nodes ≡ in_field 0 items → flat_map (import_entry source) nodes ≡ imports_of_item items
imports_here items source nodes is its all =
    ap (λ s. flat_map (import_entry s) nodes) its ∙ ap (flat_map (import_entry (text_in 1 items))) all ∙ sym (from_import items is)

-- any other item imports nothing
pub imports_none : (items : List Item) → begins_with is_import items ≡ false → imports_of_item items ≡ []
imports_none [] is = refl
imports_none (h.Open field head ∷ rest) is = by_other head (h.Open field head ∷ rest) is
imports_none (h.Ident field sym ctxt role ∷ rest) is = refl
imports_none (h.Hole field ∷ rest) is = refl
imports_none (h.Close ∷ rest) is = refl

pub same_head : (a b : Head) → Some a ≡ Some b → a ≡ b
same_head a b e = cc

-- a specifier imports one entry, by its head
pub entry_some : (source : Text) (items : List Item) (head : Head) → head_at items ≡ Some head → import_entry source items ≡ entry_as head source items ∷ []
entry_some source [] head is = cc
entry_some source (h.Open field its ∷ rest) head is = ap (λ one. entry_as one source (h.Open field its ∷ rest) ∷ []) (same_head its head is)
entry_some source (h.Ident field sym ctxt role ∷ rest) head is = cc
entry_some source (h.Hole field ∷ rest) head is = cc
entry_some source (h.Close ∷ rest) head is = cc

-- what is no node imports none
pub entry_none : (source : Text) (items : List Item) → head_at items ≡ None → import_entry source items ≡ []
entry_none source [] is = refl
entry_none source (h.Open field its ∷ rest) is = cc
entry_none source (h.Ident field sym ctxt role ∷ rest) is = refl
entry_none source (h.Hole field ∷ rest) is = refl
entry_none source (h.Close ∷ rest) is = refl

-- the places of the nodes do not matter to what is asked of each
pub each_placed : {B : Type 0} (f : List Item → List B) (start : ℕ) (nodes : List (List Item)) → flat_map (λ top. f top.items) (placed start nodes) ≡ flat_map f nodes
each_placed f start [] = refl
each_placed f start (node ∷ more) = ap (λ l. f node ++ l) (each_placed f (start + length node) more)

any_placed : (test : List Item → Bool) (start : ℕ) (nodes : List (List Item)) → list_any (λ top. test top.items) (placed start nodes) ≡ list_any test nodes
any_placed test start [] = refl
any_placed test start (node ∷ more) = ap (λ b. test node || b) (any_placed test (start + length node) more)

any_parts : (test : List Item → Bool) (tops : List NodeAt) → list_any (λ top. test (part_items top)) tops ≡ list_any test (map part_items tops)
any_parts test [] = refl
any_parts test (top ∷ more) = ap (λ b. test (part_items top) || b) (any_parts test more)

-- the imports of a module, where these are its top items
pub imports_placed : (tree : List Item) (tops : List (List Item)) → tops ≡ parts tree → flat_map imports_of_item tops ≡ imports_of tree
imports_placed tree tops are = ap (flat_map imports_of_item) are ∙ sym (each_placed imports_of_item 1 (parts tree))

-- whether it has an import or export declaration
pub declared_placed : (tree : List Item) (tops : List NodeAt) → map part_items tops ≡ parts tree → list_any (λ top. begins_with is_module_declaration (part_items top)) tops ≡ has_declaration tree
declared_placed tree tops are = any_parts (begins_with is_module_declaration) tops ∙ ap (list_any (begins_with is_module_declaration)) are ∙ sym (any_placed (begins_with is_module_declaration) 1 (parts tree))
