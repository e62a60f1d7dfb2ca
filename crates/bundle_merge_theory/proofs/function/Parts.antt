-- The parts of a CommonJS module, one by one: each is a statement, which states itself, or is empty
-- and states nothing.
use Rattle.std.proofs.Common.{◌≡◌, ℕ, zero, suc, ◌+◌, ◌⊎◌, inl, inr, Bool, not, ◌||◌, true, false, List, [], ◌∷◌, ◌++◌, length, refl, ap, sym, ◌∙◌, subst, arith}
use Rattle.std.specs.Prelude.{Contains}
use Rattle.std.specs.List.{AllByRecursion, list_any}
use Rattle.std.proofs.lemmas.Bool.{false≢true, and_parts, not-true}
use Rattle.bundle_syntax.specs.declared.piece.Role.{Role}
use Rattle.bundle_syntax.specs.declared.piece.Role.TheVariants as r
use Rattle.bundle_syntax.specs.Item as h
use Rattle.bundle_syntax.specs.Item.{Item, Head}
use Rattle.bundle_tree_places.specs.Edits.{node}
use Rattle.bundle_rules.specs.Places.{Spot, past, start}
use Rattle.bundle_rules.specs.Nodes.{flat, parts, begins_with}
use Rattle.bundle_rules.specs.Statements.{TopItem, Element, placed, top_items, taken_from, stated}
use Rattle.bundle_rules.specs.Entries.{is_module_declaration, is_script}
use Rattle.bundle_rules.specs.Callable.{is_module_head}
use Rattle.bundle_rules.specs.Parts.{tree_of_items}
use Rattle.bundle_scope_names.specs.fit.Sorts.{AModule, AnItem, AStmt, takes_head, takes_name, slots}
use Rattle.bundle_scope_names.specs.fit.Fits.{AreFit, no_more, IsFit, name}
use Rattle.bundle_scope_names.specs.fit.Fits as f
use Rattle.bundle_scope_names.specs.fit.Seen.{AreSeen}
use Rattle.bundle_scope_names.proofs.fit.Rows.{last, own_at, own_head, steps}
use Rattle.bundle_scope_names.proofs.fit.Keys.{seen}
use Rattle.bundle_merge_theory.proofs.fit.Clearing.{items_of_module}
use Rattle.bundle_merge_theory.proofs.fit.Facts.{fit_nodes}
use Rattle.bundle_merge_theory.proofs.walked.Loading.{nodes_whole}
use Rattle.bundle_merge_theory.specs.noted.Stated.{states_itself}
use Rattle.bundle_merge_theory.specs.function.Calls.{HasNoModules}
use Rattle.bundle_merge_theory.proofs.labels.Modules.{no-item as no_name}

-- An empty statement.
abbrev pub empty_statement : List Item
empty_statement = h.Open 0 h.EmptyStmt ∷ h.Close ∷ []

-- a part of a CommonJS module
pub record IsOwnPart (x : List Item) : Type 0 where
  pub head : Head
  pub inside : List Item
  pub is : x ≡ node 0 head inside
  pub own : is_module_head head ≡ false
  pub fit : IsFit AStmt 0 x

-- The parts of a module.

own_item : (head : Head) → takes_head head AnItem ≡ true → is_module_declaration head ≡ false →
    is_module_head head ≡ false
own_item h.Module is own = absurd (false≢true is)
own_item (h.ImportDecl meta) is own = absurd (false≢true (sym own))
own_item h.ImportNamedSpecifier is own = absurd (false≢true is)
own_item h.ImportDefaultSpecifier is own = absurd (false≢true is)
own_item h.ImportStarAsSpecifier is own = absurd (false≢true is)
own_item h.ExportDecl is own = absurd (false≢true (sym own))
own_item (h.NamedExport meta) is own = absurd (false≢true (sym own))
own_item h.ExportNamespaceSpecifier is own = absurd (false≢true is)
own_item h.ExportNamedSpecifier is own = absurd (false≢true is)
own_item h.ExportDefaultDecl is own = absurd (false≢true (sym own))
own_item h.ExportDefaultExpr is own = absurd (false≢true (sym own))
own_item (h.ExportAll meta) is own = absurd (false≢true (sym own))
own_item _ is own = refl

as_stmt : (head : Head) → takes_head head AnItem ≡ true → is_module_head head ≡ false →
    takes_head head AStmt ≡ true
as_stmt (h.ImportDecl meta) is own = absurd (false≢true (sym own))
as_stmt h.ExportDecl is own = absurd (false≢true (sym own))
as_stmt (h.NamedExport meta) is own = absurd (false≢true (sym own))
as_stmt h.ExportDefaultDecl is own = absurd (false≢true (sym own))
as_stmt h.ExportDefaultExpr is own = absurd (false≢true (sym own))
as_stmt (h.ExportAll meta) is own = absurd (false≢true (sym own))
as_stmt h.Module is own = is
as_stmt _ is own = is

own_part : {x : List Item} → IsFit AnItem 0 x → begins_with is_module_declaration x ≡ false →
    IsOwnPart x
own_part (name {role = role} it) own = absurd (no_name role it)
own_part (f.node {head = head} {inside = inside} it in_it) own =
    let apart = own_item head it own in
    record {
      head = head;
      inside = inside;
      is = refl;
      own = apart;
      fit = f.node (as_stmt head it apart) in_it;
    }

own_parts : (n : ℕ) (xs : List (List Item)) → AllByRecursion (IsFit AnItem 0) xs →
    list_any (λ (top : TopItem). begins_with is_module_declaration top.items)
    (placed n xs) ≡ false →
    AllByRecursion IsOwnPart xs
own_parts n [] fits none = tt
own_parts n (x ∷ xs) fits none =
    by (begins_with is_module_declaration x) refl none
    (λ more. own_parts (n + length x) xs fits.1 more)
  where
    by : (b : Bool) → begins_with is_module_declaration x ≡ b →
        (b || list_any (λ (top : TopItem). begins_with is_module_declaration top.items)
        (placed (n + length x) xs)) ≡ false →
        (list_any (λ (top : TopItem). begins_with is_module_declaration top.items)
        (placed (n + length x) xs) ≡ false → AllByRecursion IsOwnPart xs) →
        AllByRecursion IsOwnPart (x ∷ xs)
    by true is none rest = absurd (false≢true (sym none))
    by false is none rest = (own_part fits.0 is, rest none)

-- the whole of it
pub record IsOwnModule (tree : List Item) : Type 0 where
  pub is : tree ≡ tree_of_items (flat (parts tree))
  pub each : AllByRecursion IsOwnPart (parts tree)

module_is : {tree : List Item} → IsFit AModule 0 tree → tree ≡ tree_of_items (flat (parts tree))
module_is (name {role = role} it) = absurd (no_module_name role it)
  where
    no_module_name : (role : Role) → takes_name role AModule ≡ true → ⊥
    no_module_name r.Binding is = false≢true is
    no_module_name r.Reference is = false≢true is
    no_module_name r.Word is = false≢true is
module_is (f.node {head = head} {inside = inside} it in_it) =
    (λ k. h.Open 0 (same head it k) ∷ (inside ++ h.Close ∷ []))
    ∙ ap (λ l. h.Open 0 h.Module ∷ (l ++ h.Close ∷ [])) (sym (nodes_whole (fit_nodes in_it)))
  where
    same : (head : Head) → takes_head head AModule ≡ true → head ≡ h.Module
    same h.Module is = refl
    same _ is = absurd (false≢true is)

pub own_module : (tree : List Item) → IsFit AModule 0 tree → is_script tree ≡ true →
    IsOwnModule tree
own_module tree fit script = record {
  is = module_is fit;
  each =
      own_parts 1 (parts tree) (items_of_module fit)
      (not-true
      (list_any (λ (top : TopItem). begins_with is_module_declaration top.items) (top_items tree))
      (and_parts
      (not
      (list_any (λ (top : TopItem). begins_with is_module_declaration top.items)
      (top_items tree))) _ script).0);
}

-- A part.

no_modules : (s : Spot) (items : List Item) → AreSeen own_at s items → HasNoModules items
no_modules s [] them = tt
no_modules s (h.Open field head ∷ rest) them =
    (own_head head them.0.0 them.0.1 them.0.2, no_modules (past s (h.Open field head)) rest them.1)
no_modules s (h.Ident field x ctxt role ∷ rest) them =
    no_modules (past s (h.Ident field x ctxt role)) rest them.1
no_modules s (h.Hole field ∷ rest) them = no_modules (past s (h.Hole field)) rest them.1
no_modules s (h.Close ∷ rest) them = no_modules (past s h.Close) rest them.1

pub part_modules : {x : List Item} → IsFit AStmt 0 x → HasNoModules x
part_modules {x = x} fit = no_modules start x (seen own_at steps (last fit) start refl)

-- it states itself, or is empty
pub part_states : (head : Head) (inside : List Item) → is_module_head head ≡ false →
    (head ≡ h.EmptyStmt)
    ⊎ ((states_itself head ≡ true) × ((place : ℕ) → stated place (node 0 head inside)
    ≡ taken_from place (node 0 head inside) ∷ []))
part_states (h.ImportDecl meta) inside own = absurd (false≢true (sym own))
part_states (h.NamedExport meta) inside own = absurd (false≢true (sym own))
part_states (h.ExportAll meta) inside own = absurd (false≢true (sym own))
part_states h.ExportDecl inside own = absurd (false≢true (sym own))
part_states h.ExportDefaultExpr inside own = absurd (false≢true (sym own))
part_states h.ExportDefaultDecl inside own = absurd (false≢true (sym own))
part_states h.EmptyStmt inside own = inl refl
part_states _ inside own = inr (refl, λ place. refl)

empty_fit : (head : Head) (names : Role) (inside : List Item) → head ≡ h.EmptyStmt →
    AreFit (slots head names) inside → inside ≡ []
empty_fit head names inside same fit =
    nothing (subst (λ hd. AreFit (slots hd names) inside) same fit)
  where
    nothing : {items : List Item} → AreFit [] items → items ≡ []
    nothing no_more = refl

-- what is empty is just that
pub part_empty : {x : List Item} → IsFit AStmt 0 x → (head : Head) (inside : List Item) →
    x ≡ node 0 head inside → head ≡ h.EmptyStmt → x ≡ empty_statement
part_empty (name {role = role} it) head inside is same = cc
part_empty (f.node {head = hd} {inside = within} it in_it) head inside is same =
    let heads : hd ≡ head = cc in
    (λ k. h.Open 0 ((heads ∙ same) k)
    ∷ (empty_fit hd r.Reference within (heads ∙ same) in_it k ++ h.Close ∷ []))

-- What is stated tells where.

taken_items : (m n : ℕ) (xs ys : List Item) → taken_from m xs ≡ taken_from n ys → xs ≡ ys
taken_items m n [] [] is = refl
taken_items m n [] (y ∷ ys) is = cc
taken_items m n (x ∷ xs) [] is = cc
taken_items m n (x ∷ xs) (y ∷ ys) is =
    let first : x ≡ y = cc in
    let rest : taken_from (suc m) xs ≡ taken_from (suc n) ys = cc in
    (λ k. first k ∷ taken_items (suc m) (suc n) xs ys rest k)

taken_place : (m n : ℕ) (x : Item) (xs ys : List Item) →
    taken_from m (x ∷ xs) ≡ taken_from n ys → m ≡ n
taken_place m n x xs [] is = cc
taken_place m n x xs (y ∷ ys) is = cc

-- a part that states what another states is that, at its place
pub one_part : (top : TopItem) (place : ℕ) (x : List Item) (statement : List Element) →
    IsOwnPart top.items → IsOwnPart x → stated top.start top.items ≡ statement ∷ [] →
    statement ≡ taken_from place x →
    (top.start ≡ place) × (top.items ≡ x)
one_part top place x statement its own states is =
    by (part_states its.head its.inside its.own)
  where
    by : (its.head ≡ h.EmptyStmt)
        ⊎ ((states_itself its.head ≡ true)
        × ((place : ℕ) → stated place (node 0 its.head its.inside)
        ≡ taken_from place (node 0 its.head its.inside) ∷ [])) →
        (top.start ≡ place) × (top.items ≡ x)
    by (inl same) =
        let none : stated top.start top.items ≡ [] =
        ap (stated top.start) (part_empty its.fit its.head its.inside its.is same) in cc
    by (inr (itself, so)) =
        let states_it : stated top.start top.items ≡ taken_from top.start top.items ∷ [] =
        ap (stated top.start) its.is
        ∙ (so top.start ∙ ap (λ l. taken_from top.start l ∷ []) (sym its.is)) in
        let same : taken_from top.start top.items ≡ taken_from place x =
        one_of (sym states_it ∙ states) ∙ is in
        let items = taken_items top.start place top.items x same in (
          taken_place top.start place (h.Open 0 its.head) (its.inside ++ h.Close ∷ []) x
              (ap (taken_from top.start) (sym its.is) ∙ same),
          items,
        )
      where
        one_of : {a b : List Element} → a ∷ [] ≡ b ∷ [] → a ≡ b
        one_of e = cc

-- each part that stands in the module is own
pub top_part : (n : ℕ) (xs : List (List Item)) → AllByRecursion IsOwnPart xs → (top : TopItem) →
    Contains (placed n xs) top → IsOwnPart top.items
top_part n [] each top (i, l, e) = absurd (omega (arith, l))
top_part n (x ∷ xs) each top (zero, l, e) =
    subst (λ (it : TopItem). IsOwnPart it.items) e each.0
top_part n (x ∷ xs) each top (suc i, l, e) =
    top_part (n + length x) xs each.1 top (i, omega (arith, l), e)
