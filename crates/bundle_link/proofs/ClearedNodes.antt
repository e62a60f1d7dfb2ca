-- Whole nodes stay whole nodes when they are cleared: so each module's tree is still one when it is cleared.
use Rattle.std.proofs.Common.{◌≡◌, ℕ, true, List, [], ◌∷◌, ◌++◌, map, Contains, inl, inr, refl, sym, ap, ◌∙◌, subst}
use Rattle.bundle_tree_ast.specs.declared.module.Module.{Module}
use Rattle.bundle_syntax.specs.Item as h
use Rattle.bundle_syntax.specs.Item.{Item, Head}
use Rattle.bundle_tree_listed.specs.Tree.{module_items}
use Rattle.bundle_rules.specs.Nodes.{begins_in, begins_with, side_by_side}
use Rattle.bundle_rules.specs.Cleared.{cleared_head, cleared_item, cleared}
use Rattle.bundle_rules.proofs.HeadLemmas.{of_head}
use Rattle.bundle_rules.proofs.NodeLemmas.{side_by_side-cleared, begins_with-cleared}
use Rattle.bundle_link.specs.Nested.{AreTwoNodes, BeginsBound, is_import_specifier, HasSpecifiers, HasParts, AreNodes, nothing, name, hole, node}
use Rattle.bundle_link_index.proofs.AskedLemmas.{none_there as none-there}
use Rattle.bundle_link_targets.proofs.ListLemmas.{first-there}
use Rattle.bundle_link_index.proofs.ProgramLemmas.{later as later-there, first_or_later as there-cases}
use Rattle.bundle_link.proofs.PlaceLemmas.{module-tree}
use Rattle.bundle_link.proofs.NumbersLemmas.{module-nodes}
use Rattle.bundle_link_targets.specs.Meant.{IsModuleTree}

-- cleared lists one after another
pub cleared-append : (xs ys : List Item) → cleared (xs ++ ys) ≡ cleared xs ++ cleared ys
cleared-append [] ys = refl
cleared-append (x ∷ xs) ys = ap (λ list. cleared_item x ∷ list) (cleared-append xs ys)

begins_in-cleared : (n : ℕ) (list : List Item) → begins_in n (cleared list) ≡ begins_in n list
begins_in-cleared n [] = refl
begins_in-cleared n (h.Open field head ∷ rest) = refl
begins_in-cleared n (h.Ident field sym ctxt role ∷ rest) = refl
begins_in-cleared n (h.Hole field ∷ rest) = refl
begins_in-cleared n (h.Close ∷ rest) = refl

AreTwo-cleared : (inside : List Item) → AreTwoNodes inside → AreTwoNodes (cleared inside)
AreTwo-cleared inside two = record {
  first = cleared two.first;
  second = cleared two.second;
  them = side_by_side-cleared 0 inside ∙ ap (map cleared) two.them;
  in_first = begins_in-cleared 0 two.first ∙ two.in_first;
  in_second = begins_in-cleared 1 two.second ∙ two.in_second;
}

BeginsBound-cleared : (inside : List Item) → BeginsBound inside → BeginsBound (cleared inside)
BeginsBound-cleared inside bound = record { sym = bound.sym; ctxt = 0; rest = cleared bound.rest; is = ap cleared bound.is }

-- an element of a list that is cleared is one of the list, cleared
map-back : (lists : List (List Item)) (part : List Item) → Contains (map cleared lists) part → (own : List Item) × Contains lists own × (cleared own ≡ part)
map-back [] part there = none-there part there
map-back (own ∷ lists) part there = elim (there-cases (cleared own) (map cleared lists) part there) [
  | inl same ↦ (own, first-there own lists, same)
  | inr more ↦ let back = map-back lists part more in (back.0, later-there own lists back.0 back.1, back.2)
]

HasSpecifiers-cleared : (inside : List Item) → HasSpecifiers inside → HasSpecifiers (cleared inside)
HasSpecifiers-cleared inside are part there begins =
    let back = map-back (side_by_side 0 inside) part (subst (λ lists. Contains lists part) (side_by_side-cleared 0 inside) there) in
    let own : begins_in 0 back.0 ≡ true = sym (begins_in-cleared 0 back.0) ∙ ap (begins_in 0) back.2 ∙ begins in
    sym (ap (begins_with is_import_specifier) back.2) ∙ begins_with-cleared is_import_specifier (of_head is_import_specifier (λ meta. (refl, refl, refl, λ kind. refl))) back.0 ∙ are back.0 back.1 own

-- what others rely on in a node: a case for each head where `HasParts` asks for something
HasParts-cleared : (head : Head) (inside : List Item) → HasParts head inside → HasParts (cleared_head head) (cleared inside)
HasParts-cleared (h.IdentName x) inside empty = ap cleared empty
HasParts-cleared (h.MetaPropExpr kind) inside empty = ap cleared empty
HasParts-cleared h.MemberExpr inside two = AreTwo-cleared inside two
HasParts-cleared h.ImportNamedSpecifier inside bound = BeginsBound-cleared inside bound
HasParts-cleared h.ImportDefaultSpecifier inside bound = BeginsBound-cleared inside bound
HasParts-cleared h.ImportStarAsSpecifier inside bound = BeginsBound-cleared inside bound
HasParts-cleared (h.ImportDecl meta) inside are = HasSpecifiers-cleared inside are
HasParts-cleared _ inside parts = tt

-- whole nodes
pub AreNodes-cleared : {xs : List Item} → AreNodes xs → AreNodes (cleared xs)
AreNodes-cleared nothing = nothing
AreNodes-cleared (name are) = name (AreNodes-cleared are)
AreNodes-cleared (hole are) = hole (AreNodes-cleared are)
AreNodes-cleared (node {field} {head} {inside} {rest} are parts more) =
    subst (λ list. AreNodes (h.Open field (cleared_head head) ∷ list)) (sym (cleared-append inside (h.Close ∷ rest))) (node (AreNodes-cleared are) (HasParts-cleared head inside parts) (AreNodes-cleared more))

-- so the tree of every module, cleared, is one in which names stand as in those of modules
pub cleared-module-tree : (it : Module) → IsModuleTree (cleared (module_items 0 it))
cleared-module-tree it =
    let its = module-nodes it in
    subst IsModuleTree (sym (ap cleared its.1 ∙ cleared-append (h.Open 0 h.Module ∷ its.0) (h.Close ∷ []))) (module-tree (cleared its.0) (AreNodes-cleared its.2))
