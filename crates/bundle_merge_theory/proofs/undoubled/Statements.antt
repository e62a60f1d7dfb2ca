-- Statements of a module stand in top items of their own.
use Rattle.std.proofs.Common.{◌≡◌, ◌≤◌, ◌<◌, ◌⊎◌, inl, inr, ℕ, suc, ◌+◌, List, [], ◌∷◌, ◌++◌, Some, length, refl, ap, sym, ◌∙◌, subst, arith}
use Rattle.std.specs.Prelude.{Contains, slice_get}
use Rattle.std.proofs.lemmas.Bool.{false≢true, true≢false}
use Rattle.bundle_syntax.specs.declared.piece.Role.TheVariants as r
use Rattle.bundle_syntax.specs.Item as h
use Rattle.bundle_syntax.specs.Item.{Item, Head}
use Rattle.bundle_rules.specs.Nodes.{without_last}
use Rattle.bundle_rules.specs.Statements.{Element, taken, taken_from, moved_to, default_constant, default_declaration, TopItem, placed, top_items, stated, own_statements}
use Rattle.bundle_link_targets.proofs.ListLemmas.{first-there}
use Rattle.bundle_link_index.proofs.AskedLemmas.{none_there as none-there}
use Rattle.bundle_link_index.proofs.ProgramLemmas.{first_or_later as there-cases}
use Rattle.bundle_scope_names.specs.fit.Sorts.{NodeSort, AnItem, One, NodeSlot, slot, names_of_sort, slots}
use Rattle.bundle_scope_names.specs.fit.Fits.{IsFit, AreFit, name, node, over, a_name, a_node}
use Rattle.bundle_merge_theory.proofs.noted.Statements.{one_statement}
use Rattle.bundle_link.proofs.StatedElements.{last-off as last_off, placed-from as placed_from}
use Rattle.bundle_merge_theory.proofs.together.Statements.{same-statement}

-- a place lies in one top item
placed_one : (b : ℕ) (lists : List (List Item)) (t u : TopItem) → Contains (placed b lists) t →
    Contains (placed b lists) u → (n : ℕ) → t.start ≤ n → n < t.start + length t.items →
    u.start ≤ n → n < u.start + length u.items → t ≡ u
placed_one b [] t u one two n low high its_low its_high = none-there t one
placed_one b (items ∷ more) t u one two n low high its_low its_high =
    by (there-cases first rest t one) (there-cases first rest u two)
    (λ x y. placed_one (b + length items) more t u x y n low high its_low its_high)
  where
    first : TopItem
    first = record { start = b; items = items }

    rest : List TopItem
    rest = placed (b + length items) more

    within : (v : TopItem) → first ≡ v → n < v.start + length v.items → n < b + length items
    within v same less = subst (λ (w : TopItem). n < w.start + length w.items) (sym same) less

    apart : (v : TopItem) → Contains rest v → v.start ≤ n → n < b + length items → ⊥
    apart v there from less =
        let later = placed_from (b + length items) more v there in omega (arith, later, from, less)

    by : (first ≡ t) ⊎ Contains rest t → (first ≡ u) ⊎ Contains rest u →
        (Contains rest t → Contains rest u → t ≡ u) → t ≡ u
    by (inl x) (inl y) further = sym x ∙ y
    by (inl x) (inr y) further = absurd (apart u y its_low (within t x high))
    by (inr x) (inl y) further = absurd (apart t x low (within u y its_high))
    by (inr x) (inr y) further = further x y

-- Each statement has an element that stands in the module.

abbrev HasTaken : List Element → Type 0
HasTaken statement = (place : ℕ) × (x : Item) × Contains statement (taken place x)

-- something stands in a field that is needed
first_of : {number : ℕ} {sort : NodeSort} {more : List NodeSlot} {items : List Item} →
    AreFit (slot number One sort ∷ more) items →
    (x : Item) × (rest : List Item) × (items ≡ x ∷ rest)
first_of (over e fit) = absurd (true≢false e)
first_of (a_name it fit) = (_, _, refl)
first_of (a_node it in_it fit) = (_, _, refl)

declared_first : (b : ℕ) (x : Item) (rest : List Item) →
    HasTaken (default_declaration b (x ∷ rest))
declared_first b (h.Open field head) rest = (b, _, first-there _ _)
declared_first b (h.Ident field sym ctxt role) rest = (b, _, first-there _ _)
declared_first b (h.Hole field) rest = (b, _, first-there _ _)
declared_first b h.Close rest = (b, _, first-there _ _)

constant_first : (b : ℕ) (x : Item) (rest : List Item) → HasTaken (default_constant b (x ∷ rest))
constant_first b x rest = (b, moved_to 1 x, (5, omega arith, refl))

stated_taken : {items : List Item} → IsFit AnItem 0 items → (start : ℕ)
    (statement : List Element) → stated start items ≡ statement ∷ [] → HasTaken statement
stated_taken (name {role = r.Binding} it) start statement e = absurd (false≢true it)
stated_taken (name {role = r.Reference} it) start statement e = absurd (false≢true it)
stated_taken (name {role = r.Word} it) start statement e = absurd (false≢true it)
stated_taken (node {head = head} {inside = inside} it in_it) start statement e =
    by head in_it e
  where
    within : (made : ℕ → List Item → List Element) →
        ((x : Item) (rest : List Item) → HasTaken (made (suc start) (x ∷ rest))) →
        (x : Item) × (rest : List Item) × (inside ≡ x ∷ rest) →
        made (suc start) (without_last (inside ++ h.Close ∷ [])) ≡ statement → HasTaken statement
    within made makes first same =
        subst HasTaken
        (ap (made (suc start)) (sym (last_off inside h.Close ∙ first.2)) ∙ same)
        (makes first.0 first.1)

    by : (head : Head) → AreFit (slots head (names_of_sort AnItem)) inside →
        stated start (h.Open 0 head ∷ (inside ++ h.Close ∷ [])) ≡ statement ∷ [] →
        HasTaken statement
    by (h.ImportDecl meta) in_it e = cc
    by (h.NamedExport meta) in_it e = cc
    by (h.ExportAll meta) in_it e = cc
    by h.EmptyStmt in_it e = cc
    by h.ExportDecl in_it e =
        within (λ b xs. taken_from b xs) (λ x rest. (suc start, x, (0, omega arith, refl)))
        (first_of in_it) (one_statement _ statement e)
    by h.ExportDefaultDecl in_it e =
        within (λ b xs. default_declaration b xs) (λ x rest. declared_first (suc start) x rest)
        (first_of in_it) (one_statement _ statement e)
    by h.ExportDefaultExpr in_it e =
        within (λ b xs. default_constant b xs)
        (λ x rest. constant_first (suc start) x rest)
        (first_of in_it) (one_statement _ statement e)
    by head in_it e =
        subst HasTaken
        (one_statement (taken_from start (h.Open 0 head ∷ (inside ++ h.Close ∷ []))) statement e)
        (start, h.Open 0 head, (0, omega arith, refl))

-- ONE STATEMENT: two of which a place lies in the top items are one
pub one_stated : (tree : List Item) (k j : ℕ) (s t : List Element) (top other : TopItem) →
    slice_get (own_statements tree) k ≡ Some s → slice_get (own_statements tree) j ≡ Some t →
    Contains (top_items tree) top → Contains (top_items tree) other →
    IsFit AnItem 0 top.items → stated top.start top.items ≡ s ∷ [] →
    stated other.start other.items ≡ t ∷ [] → (n : ℕ) →
    top.start ≤ n → n < top.start + length top.items → other.start ≤ n →
    n < other.start + length other.items → k ≡ j
one_stated tree k j s t top other at there has also fit states its_states n low high its_low
    its_high =
    let same = placed_one 1 _ top other has also n low high its_low its_high in
    let statements : s ≡ t =
    one_statement s t
    (sym states ∙ ap (λ (u : TopItem). stated u.start u.items) same ∙ its_states) in
    let first = stated_taken fit top.start s states in
    same-statement tree k j first.0 s t first.1 first.1 at there first.2
    (subst (λ l. Contains l (taken first.0 first.1)) statements first.2)
