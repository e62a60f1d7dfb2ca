-- What stands in the way of simpler statements.
use Rattle.std.specs.Prelude.{◌≡◌, ℕ, zero, suc, slice_get, Bool, true, false, map, List, [], ◌∷◌, ◌++◌, Option, Some, None, codes}
use Rattle.std.proofs.lemmas.Bool.{true≢false}
use Rattle.std.proofs.lemmas.Option.{none-some, same_Some}
use Rattle.std.proofs.Common.{refl, sym, ◌∙◌, subst, arith}
use Rattle.bundle_syntax.specs.declared.kind.VarDeclKind.{VarDeclKind}
use Rattle.bundle_syntax.specs.declared.kind.VarDeclKind.TheVariants as v
use Rattle.bundle_syntax.specs.declared.piece.Role.TheVariants as r
use Rattle.bundle_syntax.specs.Item as h
use Rattle.bundle_syntax.specs.Item.{Item}
use Rattle.bundle_rules.specs.Places.{Occurrence}
use Rattle.bundle_rules.specs.Scopes.{Es, Parameters, Top, Inner}
use Rattle.bundle_rules.specs.Declarations.{ByContext}
use Rattle.bundle_rules.specs.Denotes.{Bound, denotations, IsResolved}
use Rattle.bundle_rules.specs.Order.{Mention, Group, group_of}
use Rattle.bundle_rules.specs.Parts.{tree_of_items}
use Rattle.bundle_rules.specs.Statements.{placed, no_notes}
use Rattle.bundle_tree_places.specs.Edits.{node}
use Rattle.bundle_scope_names.proofs.FoundLemmas.{plain, with}
use Rattle.bundle_merge_theory.specs.joined.Joined.{joined_items, is_item_top_name}
use Rattle.bundle_merge_theory.specs.joined.Notes.{its_name, own_denoted, is_inner_denoted, IsListedIn, AreToldApart}
use Rattle.bundle_merge_theory.proofs.joined.Theorem.{resolved-by_contexts}

-- small trees

abbrev reference : ℕ → List ℕ → ℕ → List Item
reference field sym ctxt = h.Ident field sym ctxt r.Reference ∷ []

abbrev binding : ℕ → List ℕ → ℕ → List Item
binding field sym ctxt = h.Ident field sym ctxt r.Binding ∷ []

abbrev pattern_of : ℕ → List ℕ → ℕ → List Item
pattern_of field sym ctxt = node field h.BindingIdent (binding 0 sym ctxt)

-- `sym;`
abbrev reads : List ℕ → ℕ → List Item
reads sym ctxt = node 0 h.ExprStmt (reference 0 sym ctxt)

-- `var sym`, `let sym` or `const sym` in a field
abbrev declares_in : ℕ → VarDeclKind → List ℕ → ℕ → List Item
declares_in field kind sym ctxt =
    node field (h.VarDecl kind no_notes) (node 1 h.VarDeclarator (pattern_of 0 sym ctxt))

-- `{ .. }` in a field
abbrev block_of : ℕ → List Item → List Item
block_of field inside = node field h.BlockStmt inside

-- `(..) { .. }` in the second field
abbrev function_of : List Item → List Item → List Item
function_of params inside = node 1 (h.Function false false) (params ++ block_of 1 inside)

-- `function sym (..) { .. }`
abbrev declares_function : List ℕ → ℕ → List Item → List Item → List Item
declares_function sym ctxt params inside =
    node 0 h.FnDecl (binding 0 sym ctxt ++ function_of params inside)

-- `function f() { arguments#5; }`, and `var arguments#5;` in another item
abbrev calls : List Item
calls = declares_function (codes "f") 2 [] (reads (codes "arguments") 5)

abbrev named_arguments : List Item
named_arguments = declares_in 0 v.Var (codes "arguments") 5

-- by itself the name denotes the function's own `arguments`
inner_by_itself : denotations ByContext Es (tree_of_items calls) ≡ Bound Top (with (codes "f") 2)
    ∷ Bound (Inner Parameters 3) (plain (codes "arguments")) ∷ []
inner_by_itself = refl

-- and in the whole the other item's: so a note that it is an inner one needs that no item declares
-- it at its top
top_in_the_whole : denotations ByContext Es (joined_items (calls ∷ named_arguments ∷ []))
    ≡ Bound Top (with (codes "f") 2) ∷ Bound Top (with (codes "arguments") 5)
    ∷ Bound Top (with (codes "arguments") 5) ∷ []
top_in_the_whole = refl

-- `x#2; x#3;`, whose names other items declare
abbrev two_names : List Item
two_names = reads (codes "x") 2 ++ reads (codes "x") 3

-- by itself it is not resolved: both are the global x, with two contexts
not_by_itself : IsResolved Es (tree_of_items two_names) → ⊥
not_by_itself resolved =
    let it : 2 ≡ 3 = ((resolved.same 2 5 _ _ refl refl).1 refl).1 in omega (arith, it)

-- though in the whole they are told apart
apart_in_the_whole : denotations ByContext Es
    (joined_items (two_names ∷ declares_in 0 v.Let (codes "x") 2 ∷ declares_in 0 v.Let (codes "x") 3
    ∷ [])) ≡ Bound Top (with (codes "x") 2) ∷ Bound Top (with (codes "x") 3)
    ∷ Bound Top (with (codes "x") 2) ∷ Bound Top (with (codes "x") 3) ∷ []
apart_in_the_whole = refl

-- An identifier that binds where nothing declares it, with a name that another block declares: it
-- counts as declaring the other's binding, and so
-- the last item depends on it in the whole and not in the block alone. No tree that is read from a
-- source has one.
abbrev stray : List Item
stray = node 0 h.ExprStmt (binding 0 (codes "x") 5)

abbrev top_and_declares : Group → List (List (Option ℕ × Bool))
top_and_declares g = map (map (λ (m : Mention). (m.top, m.declares))) g.items

stray_alone : top_and_declares (group_of ByContext Top (joined_items (stray ∷ reads (codes "x") 5 ∷ []))
    (placed 1 (stray ∷ reads (codes "x") 5 ∷ [])) []) ≡ ((None, true) ∷ [])
    ∷ ((None, false) ∷ []) ∷ []
stray_alone = refl

stray_in_the_whole : top_and_declares
    (group_of ByContext Top
    (joined_items (stray ∷ reads (codes "x") 5 ∷ declares_in 0 v.Let (codes "x") 5 ∷ []))
    (placed 1 (stray ∷ reads (codes "x") 5 ∷ [])) []) ≡ ((Some 0, true) ∷ [])
    ∷ ((Some 0, false) ∷ []) ∷ []
stray_in_the_whole = refl

-- What is asked of items is no contradiction: `x#2;` and `let x#2;` are told apart, so the whole
-- of them is resolved.
abbrev two_items : List (List Item)
two_items = reads (codes "x") 2 ∷ declares_in 0 v.Let (codes "x") 2 ∷ []

-- each occurrence of them is no inner one, and has a name of the top
abbrev IsOuter : List Item → Occurrence → Type 0
IsOuter item o =
    (is_inner_denoted (own_denoted item o) ≡ false) × (is_item_top_name two_items (its_name o) ≡ true)

outer_at : (m : ℕ) (item : List Item) (o : Occurrence) → slice_get two_items m ≡ Some item →
    IsListedIn item o → IsOuter item o
outer_at zero item o at listed =
    subst (λ item. IsListedIn item o → IsOuter item o) (same_Some (reads (codes "x") 2) item at)
    first listed
  where
    first : IsListedIn (reads (codes "x") 2) o → IsOuter (reads (codes "x") 2) o
    first (zero, there) = subst (IsOuter (reads (codes "x") 2)) (same_Some _ o there) (refl, refl)
    first (suc i, there) = absurd (none-some o there)
outer_at (suc zero) item o at listed =
    subst (λ item. IsListedIn item o → IsOuter item o)
    (same_Some (declares_in 0 v.Let (codes "x") 2) item at) second listed
  where
    second : IsListedIn (declares_in 0 v.Let (codes "x") 2) o →
        IsOuter (declares_in 0 v.Let (codes "x") 2) o
    second (zero, there) =
        subst (IsOuter (declares_in 0 v.Let (codes "x") 2)) (same_Some _ o there) (refl, refl)
    second (suc i, there) = absurd (none-some o there)
outer_at (suc (suc m)) item o at listed = absurd (none-some item at)

told_apart : AreToldApart two_items
told_apart = record {
  inside =
      λ m item at. record {
        same = λ a b listed its_listed is.
            absurd (true≢false (sym is ∙ (outer_at m item a at listed).0));
      };
  known =
      λ m item o at listed denotes not_top.
      absurd (true≢false (sym (outer_at m item o at listed).1 ∙ not_top));
  others =
      λ m n item other a b ne at there listed its_listed is same. true≢false (sym is
      ∙ (outer_at m item a at listed).0);
  own_arguments =
      λ m item o at listed not_top denotes.
      absurd (true≢false (sym (outer_at m item o at listed).1 ∙ not_top));
}

two_are_resolved : IsResolved Es (joined_items two_items)
two_are_resolved =
    resolved-by_contexts two_items (refl, (refl, tt)) (
      (refl, (refl, (refl, (refl, tt)))),
      ((refl, (refl, (refl, (refl, (refl, (refl, (refl, (refl, tt)))))))), tt),
    ) told_apart
