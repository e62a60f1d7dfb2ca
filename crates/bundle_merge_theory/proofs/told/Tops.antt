-- What is fit is whole nodes with their parts, as `AreNodes` of bundle_link says.
-- The top items of a module that is fit: where they stand, what is own in them, and which elements
-- of what they state
-- stand at their places.
-- The occurrences of a module that stand in a top item are those of its list.
use Rattle.std.proofs.Common.{◌≡◌, inl, inr, ℕ, zero, true, List, [], ◌∷◌, ◌++◌, append_assoc, refl, sym, ap, ◌∙◌, subst, Contains, eqb-true, arith, suc, ◌+◌, Bool, false, not, length, Some, ap₂, ◌<◌, ◌≤◌, cond, ◌&&◌, Option, None, nat_le, nat_lt, append-nil}
use Rattle.std.proofs.lemmas.Bool.{false≢true, true≢false, and_from, le-leb, lt-ltb, leb-true, ltb-true}
use Rattle.std.specs.Prelude.{slice_get, filter, fold}
use Rattle.std.specs.List.{AllByRecursion, list_all, cons_option}
use Rattle.std.proofs.lemmas.Option.{none-some, same_Some}
use Rattle.std.proofs.lemmas.List.Folds.{list_all-append}
use Rattle.std.proofs.lemmas.List.Elements.{Contains-append_left, filter-append}
use Rattle.bundle_syntax.specs.declared.piece.Role.{Role}
use Rattle.bundle_syntax.specs.Item as h
use Rattle.bundle_syntax.specs.Item.{Item, Head}
use Rattle.bundle_syntax.specs.declared.piece.Role.TheVariants as r
use Rattle.bundle_rules.specs.Nodes.{begins_in, begins_with, side_by_side, parts, without_last}
use Rattle.bundle_rules.specs.Places.{start, Around, Spot, Occurrence, past, occurrence_of, occurrences_from}
use Rattle.bundle_rules.specs.Shape.{is_specifier}
use Rattle.bundle_rules.specs.Statements.{TopItem, placed as placed_tops, top_items, Element, taken, written, taken_from, moved_to, taken_in_field, default_binding, with_name, default_declaration, default_constant, declaration_head, stated}
use Rattle.bundle_link_index.proofs.AskedLemmas.{only_one as only-one, none_there as none-there}
use Rattle.bundle_link_index.proofs.ProgramLemmas.{first_or_later as there-cases, later as later-there}
use Rattle.bundle_scope_names.specs.fit.Sorts.{AnExpr, AMemberKey, ALocal, AnImport, ASource, One, Many, NodeSlot, slot, takes_head, names_of_sort, slots, AModule, AnItem, AStmt}
use Rattle.bundle_scope_names.specs.fit.Fits.{AreFit, no_more, over, a_name, a_hole, a_node, IsFit, name, node}
use Rattle.bundle_scope_names.proofs.naming_rule.Called.{occurrence-place as place_of}
use Rattle.bundle_link_targets.proofs.ListLemmas.{first-there}
use Rattle.bundle_link.specs.Nested as nested
use Rattle.bundle_link.specs.Nested.{AreNodes, AreTwoNodes, BeginsBound, HasParts, HasSpecifiers, is_import_specifier}
use Rattle.bundle_link.proofs.StatedElements.{last-off as last_off}
use Rattle.bundle_link.proofs.NodePaths.{fold-place}
use Rattle.bundle_merge_theory.specs.walked.Rewrites.{is_own_item, AreOwn}
use Rattle.bundle_merge_theory.proofs.noted.Spots.{around_spot}
use Rattle.bundle_merge_theory.proofs.noted.StaticReads.{plain_nodes}
use Rattle.bundle_merge_theory.proofs.noted.Statements.{one_statement}
use Rattle.bundle_merge_theory.proofs.noted.Names.{StandsThere, top_there}
use Rattle.bundle_merge_theory.proofs.noted.Theorem.{section}
use Rattle.bundle_merge_theory.proofs.fit.Clearing.{beside, begins, starts, ends, items_of_module, no_name}
use Rattle.bundle_merge_theory.proofs.labels.Silent.{local-role as bound_role, local-head as no_local, no-import as no_import_name}
use Rattle.bundle_merge_theory.proofs.fit.Facts.{are_own, one_own}
use Rattle.bundle_merge_theory.proofs.labels.Modules.{module-head as module_head}
use Rattle.bundle_merge_theory.specs.made.Steps.{is_in, occurrences_in}

-- ---- nested
two : {items : List Item} → AreFit (slot 0 One AnExpr ∷ slot 1 One AMemberKey ∷ []) items →
    AreTwoNodes items
two fit =
    let a = starts fit in
    let b = starts a.fits in
    record {
      first = a.front;
      second = b.front;
      them = ap (side_by_side zero) a.is ∙ beside a.it a.rest
          ∙ ap (λ l. a.front ∷ side_by_side zero l) b.is
          ∙ ap (λ l. a.front ∷ l) (beside b.it b.rest)
          ∙ ap (λ l. a.front ∷ b.front ∷ side_by_side zero l) (ends b.fits);
      in_first = begins a.it;
      in_second = begins b.it;
    }

-- a name that is bound
pub record IsBound (items : List Item) : Type 0 where
  pub sym : List ℕ
  pub ctxt : ℕ
  pub is : items ≡ h.Ident 0 sym ctxt r.Binding ∷ []

is_bound : {items : List Item} → IsFit ALocal 0 items → IsBound items
is_bound (name {x = x} {ctxt = t} {role = role} it) =
    record { sym = x; ctxt = t; is = ap (λ role. h.Ident 0 x t role ∷ []) (bound_role role it) }
is_bound (node {head = hd} it in_it) = absurd (no_local hd it)

begins_bound : {more : List NodeSlot} {items : List Item} → AreFit (slot 0 One ALocal ∷ more) items →
    BeginsBound items
begins_bound fit =
    let a = starts fit in
    let n = is_bound a.it in
    record { sym = n.sym; ctxt = n.ctxt; rest = a.rest; is = a.is ∙ ap (λ l. l ++ a.rest) n.is }

import_head : (head : Head) → takes_head head AnImport ≡ true → is_import_specifier head ≡ true
import_head h.ImportNamedSpecifier is = refl
import_head h.ImportDefaultSpecifier is = refl
import_head h.ImportStarAsSpecifier is = refl
import_head _ is = absurd (false≢true is)

source_alone : {items : List Item} → AreFit (slot 1 One ASource ∷ []) items → HasSpecifiers items
source_alone fit part there in_first =
    let a = starts fit in
    let sides = ap (side_by_side zero) a.is ∙ beside a.it a.rest
    ∙ ap (λ l. a.front ∷ side_by_side zero l) (ends a.fits) in
    let same : a.front ≡ part = only-one a.front part (subst (λ l. Contains l part) sides there) in
    absurd (clash a.front (begins a.it) (ap (begins_in 0) same ∙ in_first))
  where
    apart : (f : ℕ) → f ≡ 1 → f ≡ 0 → ⊥
    apart f one other = let e : 1 ≡ 0 = sym one ∙ other in omega (arith, e)

    clash : (items : List Item) → begins_in 1 items ≡ true → begins_in 0 items ≡ true → ⊥
    clash [] one other = false≢true one
    clash (h.Open f hd ∷ rest) one other = apart f (eqb-true f 1 one) (eqb-true f 0 other)
    clash (h.Ident f x t role ∷ rest) one other = apart f (eqb-true f 1 one) (eqb-true f 0 other)
    clash (h.Hole f ∷ rest) one other = apart f (eqb-true f 1 one) (eqb-true f 0 other)
    clash (h.Close ∷ rest) one other = false≢true one

specifiers : {items : List Item} → AreFit (slot 0 Many AnImport ∷ slot 1 One ASource ∷ []) items →
    HasSpecifiers items
specifiers (over e fit) part there in_first = source_alone fit part there in_first
specifiers (a_name {role = role} it fit) part there in_first = absurd (no_import_name role it)
specifiers (a_node {head = hd} {inside = ins} {rest = rest} it in_it fit) part there in_first =
    elim (there-cases (h.Open 0 hd ∷ (ins ++ h.Close ∷ [])) (side_by_side zero rest) part
    (subst (λ l. Contains l part) (ap (λ l. side_by_side zero (h.Open 0 hd ∷ l))
    (sym (append_assoc ins (h.Close ∷ []) rest)) ∙ beside here rest) there)) [
      | inl same ↦ ap (begins_with is_import_specifier) (sym same) ∙ import_head hd it
      | inr more ↦ specifiers fit part more in_first
    ]
  where
    here : IsFit AnImport 0 (h.Open 0 hd ∷ (ins ++ h.Close ∷ []))
    here = node it in_it

has_parts : (head : Head) (names : Role) {items : List Item} → AreFit (slots head names) items →
    HasParts head items
has_parts (h.IdentName x) names fit = ends fit
has_parts (h.MetaPropExpr kind) names fit = ends fit
has_parts h.MemberExpr names fit = two fit
has_parts h.ImportNamedSpecifier names fit = begins_bound fit
has_parts h.ImportDefaultSpecifier names fit = begins_bound fit
has_parts h.ImportStarAsSpecifier names fit = begins_bound fit
has_parts (h.ImportDecl meta) names fit = specifiers fit
has_parts _ names fit = tt

-- what is fit is whole nodes with their parts
pub nodes : {list : List NodeSlot} {items : List Item} → AreFit list items → AreNodes items
nodes no_more = nested.nothing
nodes (over e fit) = nodes fit
nodes (a_name it fit) = nested.name (nodes fit)
nodes (a_hole fit) = nested.hole (nodes fit)
nodes (a_node {sort = k} {head = hd} it in_it fit) =
    nested.node (nodes in_it) (has_parts hd (names_of_sort k) in_it) (nodes fit)

-- ---- the form of a module
pub record HasForm (tree : List Item) : Type 0 where
  pub xs : List Item
  pub is : tree ≡ h.Open 0 h.Module ∷ (xs ++ h.Close ∷ [])
  pub are : nested.AreNodes xs

pub form_of : {tree : List Item} → IsFit AModule 0 tree → HasForm tree
form_of (name {role = role} it) = absurd (no_name role it)
form_of (node {head = head} {inside = inside} it in_it) = record {
  xs = inside;
  is = ap (λ k. h.Open 0 k ∷ (inside ++ h.Close ∷ [])) (module_head head it);
  are = nodes in_it;
}

placed_fit : (P : List Item → Type 0) (b : ℕ) (lists : List (List Item)) → AllByRecursion P lists →
    (top : TopItem) →
    Contains (placed_tops b lists) top → P top.items
placed_fit P b [] all top c = none-there top c
placed_fit P b (items ∷ more) all top c = elim (there-cases (record { start = b; items = items })
    (placed_tops (b + length items) more) top c) [
      | inl same ↦ subst (λ (t : TopItem). P t.items) same all.0
      | inr later ↦ placed_fit P (b + length items) more all.1 top later
    ]

pub top_fit : {tree : List Item} → IsFit AModule 0 tree → (top : TopItem) →
    Contains (top_items tree) top →
    IsFit AnItem 0 top.items
top_fit {tree = tree} fit top c = placed_fit (IsFit AnItem 0) 1 (parts tree) (items_of_module fit)
    top c

-- a top item stands in the module
pub top_stands : {tree : List Item} → HasForm tree → (top : TopItem) →
    Contains (top_items tree) top →
    StandsThere tree (around_spot h.Module 0 0 ∷ []) top
top_stands {tree = tree} form top c =
    subst (λ l. StandsThere l (around_spot h.Module 0 0 ∷ []) top) (sym form.is)
    (top_there 0 h.Module (plain_nodes form.are) [] top
    (subst (λ l. Contains (top_items l) top) form.is c))

-- ---- what it states is own
own_node : (field : ℕ) (head : Head) (inside : List Item) → not (is_specifier head) ≡ true →
    AreOwn inside →
    AreOwn (h.Open field head ∷ (inside ++ h.Close ∷ []))
own_node field head inside plain own =
    and_from (not (is_specifier head)) (list_all is_own_item (inside ++ h.Close ∷ [])) plain
    (list_all-append is_own_item inside (h.Close ∷ [])
    ∙ and_from (list_all is_own_item inside) true own refl)

pub stated_fit-own : {items : List Item} → IsFit AnItem 0 items →
    (start : ℕ) (statement : List Element) →
    stated start items ≡ statement ∷ [] → AreOwn items
stated_fit-own (name {role = r.Binding} it) start statement e = absurd (false≢true it)
stated_fit-own (name {role = r.Reference} it) start statement e = absurd (false≢true it)
stated_fit-own (name {role = r.Word} it) start statement e = absurd (false≢true it)
stated_fit-own (node {head = head} {inside = inside} it in_it) start statement e =
    by head it in_it e
  where
    by : (head : Head) → takes_head head AnItem ≡ true → AreFit (slots head (names_of_sort AnItem)) inside →
        stated start (h.Open 0 head ∷ (inside ++ h.Close ∷ [])) ≡ statement ∷ [] →
        AreOwn (h.Open 0 head ∷ (inside ++ h.Close ∷ []))
    by (h.ImportDecl meta) it in_it e = cc
    by (h.NamedExport meta) it in_it e = cc
    by (h.ExportAll meta) it in_it e = cc
    by h.ExportDecl it in_it e = own_node 0 h.ExportDecl inside refl (are_own in_it refl)
    by h.ExportDefaultDecl it in_it e = own_node 0 h.ExportDefaultDecl inside refl
        (are_own in_it refl)
    by h.ExportDefaultExpr it in_it e = own_node 0 h.ExportDefaultExpr inside refl
        (are_own in_it refl)
    by head it in_it e = one_own (node {sort = AStmt} {field = 0} {head = head} {inside = inside} it
        in_it) refl

-- ---- the elements of a statement
-- a name, or a call begins
abbrev pub is_plain_item : Item → Bool
is_plain_item (h.Ident field sym ctxt role) = true
is_plain_item (h.Open field h.CallExpr) = true
is_plain_item _ = false

-- an element of the statement stands at the place, and begins a node where the tree does
pub record IsElement (statement : List Element) (place : ℕ) (x : Item) : Type 0 where
  pub item : Item
  pub there : Contains statement (taken place item)
  pub opens : (field : ℕ) (head : Head) → x ≡ h.Open field head →
      (f : ℕ) × (other : Head) × (item ≡ h.Open f other)

taken_there : (b : ℕ) (xs : List Item) (k : ℕ) (x : Item) → slice_get xs k ≡ Some x →
    Contains (taken_from b xs) (taken (b + k) x)
taken_there b [] k x at = absurd (none-some x at)
taken_there b (y ∷ xs) zero x at =
    let place : b ≡ b + 0 = omega arith in
    subst (Contains (taken_from b (y ∷ xs))) (ap₂ (λ p i. taken p i) place (same_Some y x at))
    (first-there (taken b y) (taken_from (suc b) xs))
taken_there b (y ∷ xs) (suc k) x at =
    let place : suc b + k ≡ b + suc k = omega arith in
    subst (λ p. Contains (taken_from b (y ∷ xs)) (taken p x)) place
    (later-there (taken b y) (taken_from (suc b) xs) (taken (suc b + k) x)
    (taken_there (suc b) xs k x at))

element : (statement : List Element) (place : ℕ) (x : Item) → Contains statement (taken place x) →
    IsElement statement place x
element statement place x there = record {
  item = x;
  there = there;
  opens =
      λ field head is. (field, head, is);
}

taken_element : (b : ℕ) (xs : List Item) (k : ℕ) (x : Item) → slice_get xs k ≡ Some x →
    IsElement (taken_from b xs) (b + k) x
taken_element b xs k x at = element (taken_from b xs) (b + k) x (taken_there b xs k x at)

later_element : (first : Element) (statement : List Element) (place : ℕ) (x : Item) →
    IsElement statement place x →
    IsElement (first ∷ statement) place x
later_element first statement place x its =
    record {
      item = its.item;
      there = later-there first statement (taken place its.item) its.there;
      opens = its.opens;
    }

-- the first in another field, or with another head
moved_element : (b field : ℕ) (xs : List Item) (k : ℕ) (x : Item) → slice_get xs k ≡ Some x →
    IsElement (taken_in_field field b xs) (b + k) x
moved_element b field [] k x at = absurd (none-some x at)
moved_element b field (y ∷ xs) zero x at = record {
  item = moved_to field y;
  there =
      let place : b ≡ b + 0 = omega arith in
      subst (λ p. Contains (taken_in_field field b (y ∷ xs)) (taken p (moved_to field y))) place
      (first-there (taken b (moved_to field y)) (taken_from (suc b) xs));
  opens = λ f head is. (field, head, ap (moved_to field) (same_Some y x at ∙ is));
}
moved_element b field (y ∷ xs) (suc k) x at =
    let place : suc b + k ≡ b + suc k = omega arith in
    subst (λ p. IsElement (taken_in_field field b (y ∷ xs)) p x) place
    (later_element (taken b (moved_to field y)) (taken_from (suc b) xs) (suc b + k) x
    (taken_element (suc b) xs k x at))

named_element : (b : ℕ) (xs : List Item) (k : ℕ) (x : Item) → slice_get xs k ≡ Some x →
    IsElement (with_name b xs) (b + k) x
named_element b (h.Ident field sym ctxt role ∷ rest) k x at =
    taken_element b (h.Ident field sym ctxt role ∷ rest) k x at
named_element b (h.Open field head ∷ rest) k x at =
    later_element default_binding (taken_from b (h.Open field head ∷ rest)) (b + k) x
    (taken_element b (h.Open field head ∷ rest) k x at)
named_element b [] k x at = taken_element b [] k x at
named_element b (h.Hole field ∷ rest) k x at = taken_element b (h.Hole field ∷ rest) k x at
named_element b (h.Close ∷ rest) k x at = taken_element b (h.Close ∷ rest) k x at

declared_element : (b : ℕ) (xs : List Item) (k : ℕ) (x : Item) → slice_get xs k ≡ Some x →
    IsElement (default_declaration b xs) (b + k) x
declared_element b (h.Open field head ∷ rest) zero x at = record {
  item = h.Open 0 (declaration_head head);
  there =
      let place : b ≡ b + 0 = omega arith in
      subst (λ p. Contains (default_declaration b (h.Open field head ∷ rest))
      (taken p (h.Open 0 (declaration_head head)))) place
      (first-there (taken b (h.Open 0 (declaration_head head))) (with_name (suc b) rest));
  opens = λ f other is. (0, declaration_head head, refl);
}
declared_element b (h.Open field head ∷ rest) (suc k) x at =
    let place : suc b + k ≡ b + suc k = omega arith in
    subst (λ p. IsElement (default_declaration b (h.Open field head ∷ rest)) p x) place
    (later_element (taken b (h.Open 0 (declaration_head head))) (with_name (suc b) rest) (suc b + k)
    x (named_element (suc b) rest k x at))
declared_element b [] k x at = taken_element b [] k x at
declared_element b (h.Ident field sym ctxt role ∷ rest) k x at =
    taken_element b (h.Ident field sym ctxt role ∷ rest) k x at
declared_element b (h.Hole field ∷ rest) k x at = taken_element b (h.Hole field ∷ rest) k x at
declared_element b (h.Close ∷ rest) k x at = taken_element b (h.Close ∷ rest) k x at

front_element : (xs ys : List Element) (place : ℕ) (x : Item) → IsElement xs place x →
    IsElement (xs ++ ys) place x
front_element xs ys place x its =
    record {
      item = its.item;
      there = Contains-append_left xs ys (taken place its.item) its.there;
      opens = its.opens;
    }

constant_element : (b : ℕ) (xs : List Item) (k : ℕ) (x : Item) → slice_get xs k ≡ Some x →
    IsElement (default_constant b xs) (b + k) x
constant_element b xs k x at =
    later_element _ _ (b + k) x (later_element _ _ (b + k) x
    (later_element _ _ (b + k) x (later_element _ _ (b + k) x
    (later_element (written h.Close) (taken_in_field 1 b xs ++
    (written h.Close ∷ written h.Close ∷ [])) (b + k) x
    (front_element (taken_in_field 1 b xs) (written h.Close ∷ written h.Close ∷ []) (b + k) x
    (moved_element b 1 xs k x at))))))

-- what is plain is not the last of a node
in_front : (xs : List Item) (k : ℕ) (x : Item) → is_plain_item x ≡ true →
    slice_get (xs ++ h.Close ∷ []) k ≡ Some x →
    slice_get xs k ≡ Some x
in_front [] zero x plain at = absurd (false≢true
    (ap is_plain_item (same_Some h.Close x at) ∙ plain))
in_front [] (suc k) x plain at = absurd (none-some x at)
in_front (y ∷ xs) zero x plain at = at
in_front (y ∷ xs) (suc k) x plain at = in_front xs k x plain at

pub stated_element : (start field : ℕ) (head : Head) (inside : List Item) (statement : List Element)
    →
    stated start (h.Open field head ∷ (inside ++ h.Close ∷ [])) ≡ statement ∷ [] →
    (k : ℕ) (x : Item) →
    slice_get (h.Open field head ∷ (inside ++ h.Close ∷ [])) k ≡ Some x → is_plain_item x ≡ true →
    IsElement statement (start + k) x
stated_element start field head inside statement e k x at plain = by head e at
  where
    first : {head : Head} → is_plain_item (h.Open field head) ≡ false →
        Some (h.Open field head) ≡ Some x → ⊥
    first {head = head} is e = true≢false (sym plain
        ∙ ap is_plain_item (sym (same_Some (h.Open field head) x e)) ∙ is)

    -- in what stands behind the beginning
    behind : (made : ℕ → List Item → List Element) →
        ((b : ℕ) (xs : List Item) (j : ℕ) → slice_get xs j ≡ Some x →
        IsElement (made b xs) (b + j) x) →
        made (suc start) (without_last (inside ++ h.Close ∷ [])) ≡ statement → (j : ℕ) →
        slice_get (inside ++ h.Close ∷ []) j ≡ Some x → IsElement statement (start + suc j) x
    behind made makes same j at =
        let place : suc start + j ≡ start + suc j = omega arith in
        subst (λ p. IsElement statement p x) place
        (subst (λ s. IsElement s (suc start + j) x)
        (ap (made (suc start)) (sym (last_off inside h.Close)) ∙ same)
        (makes (suc start) inside j (in_front inside j x plain at)))

    exported : (head : Head) (made : ℕ → List Item → List Element) →
        ((b : ℕ) (xs : List Item) (j : ℕ) → slice_get xs j ≡ Some x →
        IsElement (made b xs) (b + j) x) →
        is_plain_item (h.Open field head) ≡ false →
        made (suc start) (without_last (inside ++ h.Close ∷ [])) ≡ statement → (j : ℕ) →
        slice_get (h.Open field head ∷ (inside ++ h.Close ∷ [])) j ≡ Some x →
        IsElement statement (start + j) x
    exported head made makes unplain same zero at = absurd (first unplain at)
    exported head made makes unplain same (suc j) at = behind made makes same j at

    by : (head : Head) → stated start (h.Open field head ∷ (inside ++ h.Close ∷ []))
        ≡ statement ∷ [] →
        slice_get (h.Open field head ∷ (inside ++ h.Close ∷ [])) k ≡ Some x →
        IsElement statement (start + k) x
    by (h.ImportDecl meta) e at = cc
    by (h.NamedExport meta) e at = cc
    by (h.ExportAll meta) e at = cc
    by h.EmptyStmt e at = cc
    by h.ExportDecl e at =
        exported h.ExportDecl (λ b xs. taken_from b xs) (λ b xs j i. taken_element b xs j x i) refl
        (one_statement _ statement e) k at
    by h.ExportDefaultDecl e at =
        exported h.ExportDefaultDecl (λ b xs. default_declaration b xs)
        (λ b xs j i. declared_element b xs j x i) refl (one_statement _ statement e) k at
    by h.ExportDefaultExpr e at =
        exported h.ExportDefaultExpr (λ b xs. default_constant b xs)
        (λ b xs j i. constant_element b xs j x i) refl (one_statement _ statement e) k at
    by head e at =
        subst (λ s. IsElement s (start + k) x)
        (one_statement (taken_from start (h.Open field head ∷ (inside ++ h.Close ∷ []))) statement
        e)
        (taken_element start (h.Open field head ∷ (inside ++ h.Close ∷ [])) k x at)

-- ---- occurring

-- where an occurrence of a list stands
pub record IsPlaced (s : Spot) (items : List Item) (o : Occurrence) : Type 0 where
  pub k : ℕ
  pub x : Item
  pub at : slice_get items k ≡ Some x
  pub place : o.place ≡ s.place + k
  pub within : k < length items
  pub plain : is_plain_item x ≡ true

plain_of : (s : Spot) (x : Item) (o : Occurrence) → occurrence_of s x ≡ Some o →
    is_plain_item x ≡ true
plain_of s (h.Open field head) o is = absurd (none-some o is)
plain_of s (h.Ident field y ctxt role) o is = refl
plain_of s (h.Hole field) o is = absurd (none-some o is)
plain_of s h.Close o is = absurd (none-some o is)

pub placed : (s : Spot) (items : List Item) (i : ℕ) (o : Occurrence) →
    slice_get (occurrences_from s items) i ≡ Some o → IsPlaced s items o
placed s [] i o e = absurd (none-some o e)
placed s (x ∷ items) i o e = by (occurrence_of s x) refl i e (placed (past s x) items)
  where
    later : IsPlaced (past s x) items o → IsPlaced s (x ∷ items) o
    later its = record {
      k = suc its.k;
      x = its.x;
      at = its.at;
      place = let p = its.place in omega (arith, p);
      within = let w = its.within in omega (arith, w);
      plain = its.plain;
    }

    by : (one : Option Occurrence) → occurrence_of s x ≡ one → (i : ℕ) →
        slice_get (cons_option one (occurrences_from (past s x) items)) i ≡ Some o →
        ((i : ℕ) (p : Occurrence) → slice_get (occurrences_from (past s x) items) i ≡ Some p →
        IsPlaced (past s x) items p) →
        IsPlaced s (x ∷ items) o
    by None is i e more = later (more i o e)
    by (Some p) is zero e more =
        let here : occurrence_of s x ≡ Some o = is ∙ e in
        record {
          k = 0;
          x = x;
          at = refl;
          place = let q = place_of s x o here in omega (arith, q);
          within = omega arith;
          plain = plain_of s x o here;
        }
    by (Some p) is (suc i) e more = later (more i o e)

-- ---- those that a test keeps
filter_all : (test : Occurrence → Bool) (os : List Occurrence) →
    ((i : ℕ) (o : Occurrence) → slice_get os i ≡ Some o → test o ≡ true) → filter test os ≡ os
filter_all test [] each = refl
filter_all test (o ∷ os) each =
    ap (λ b. cond b (o ∷ filter test os) (filter test os)) (each 0 o refl)
    ∙ ap (λ l. o ∷ l) (filter_all test os (λ i p e. each (suc i) p e))

filter_none : (test : Occurrence → Bool) (os : List Occurrence) →
    ((i : ℕ) (o : Occurrence) → slice_get os i ≡ Some o → test o ≡ false) → filter test os ≡ []
filter_none test [] each = refl
filter_none test (o ∷ os) each =
    ap (λ b. cond b (o ∷ filter test os) (filter test os)) (each 0 o refl)
    ∙ filter_none test os (λ i p e. each (suc i) p e)

not_le : (a b : ℕ) → b < a → nat_le a b ≡ false
not_le a b l = by (nat_le a b) refl
  where
    by : (c : Bool) → nat_le a b ≡ c → c ≡ false
    by false is = refl
    by true is = absurd (let e = leb-true a b is in omega (arith, e, l))

not_lt : (a b : ℕ) → b ≤ a → nat_lt a b ≡ false
not_lt a b l = by (nat_lt a b) refl
  where
    by : (c : Bool) → nat_lt a b ≡ c → c ≡ false
    by false is = refl
    by true is = absurd (let e = ltb-true a b is in omega (arith, e, l))

pub occurrences_there : {tree : List Item} {path : List Around} {top : TopItem}
    (here : StandsThere tree path top) →
    occurrences_in tree top ≡ occurrences_from here.s top.items
occurrences_there {tree = tree} {top = top} here =
    ap (filter (is_in top)) (section top.items here.tail here.s here.at)
    ∙ filter-append (is_in top) before (inside ++ behind)
    ∙ ap₂ (λ a b. a ++ b) (filter_none (is_in top) before out_before) (
    filter-append (is_in top) inside behind
    ∙ ap₂ (λ a b. a ++ b) (filter_all (is_in top) inside all_in)
    (filter_none (is_in top) behind out_behind))
    ∙ append-nil inside
  where
    before : List Occurrence
    before = occurrences_from start here.at.front

    inside : List Occurrence
    inside = occurrences_from here.s top.items

    behind : List Occurrence
    behind = occurrences_from (fold past here.s top.items) here.tail

    start_is : here.s.place ≡ top.start
    start_is = here.place

    out_before : (i : ℕ) (o : Occurrence) → slice_get (occurrences_from start here.at.front) i
        ≡ Some o → is_in top o ≡ false
    out_before i o e =
        let its = placed start here.at.front i o e in
        let p = its.place in
        let w = its.within in
        let s = start_is in
        let far : here.s.place ≡ 0 + length here.at.front =
        ap (λ (t : Spot). t.place) here.at.spot_is ∙ fold-place start here.at.front in
        ap (λ b. b && nat_lt o.place (top.start + length top.items))
        (not_le top.start o.place (omega (arith, p, w, s, far)))

    all_in : (i : ℕ) (o : Occurrence) → slice_get (occurrences_from here.s top.items) i ≡ Some o →
        is_in top o ≡ true
    all_in i o e =
        let its = placed here.s top.items i o e in
        let p = its.place in
        let w = its.within in
        let s = start_is in
        and_from (nat_le top.start o.place) (nat_lt o.place (top.start + length top.items))
        (le-leb top.start o.place (omega (arith, p, s)))
        (lt-ltb o.place (top.start + length top.items) (omega (arith, p, w, s)))

    out_behind : (i : ℕ) (o : Occurrence) → slice_get
        (occurrences_from (fold past here.s top.items) here.tail) i ≡ Some o → is_in top o ≡ false
    out_behind i o e =
        let its = placed (fold past here.s top.items) here.tail i o e in
        let p = its.place in
        let s = start_is in
        let far = fold-place here.s top.items in
        ap₂ (λ a b. a && b) (le-leb top.start o.place (omega (arith, p, s, far)))
        (not_lt o.place (top.start + length top.items) (omega (arith, p, s, far)))
