-- Theorem of this folder: what is asked of the item of a load function that stands beside others.
-- It is whole nodes and has no free `arguments`, the bindings inside it stay apart from those of
-- the other items, and the names of its CommonJS module mean what they mean there.
-- Used by folders `added`, `answered`, `function` of `bundle_merge_theory`.
use Rattle.std.proofs.Common.{◌≡◌, Bool, true, false, cond, not, ◌||◌, List, Option, Some, None, find, refl, ap, sym, ◌∙◌, codes, [], ◌∷◌, filter, ℕ, ◌++◌, flat_map}
use Rattle.std.proofs.lemmas.Bool.{false≢true, and_parts, not-true}
use Rattle.std.proofs.lemmas.Option.{none-some}
use Rattle.std.specs.List.{AllZip, list_any}
use Rattle.bundle_syntax.specs.Item as h
use Rattle.bundle_syntax.specs.Item.{Item, Head}
use Rattle.bundle_rules.specs.Places.{Occurrence}
use Rattle.bundle_rules.specs.Scopes.{Cjs, Scope, Wrapper, Top, Inner, scopes_around}
use Rattle.bundle_rules.specs.Declarations.{BySymbol, Declared}
use Rattle.bundle_rules.specs.Homes as k
use Rattle.bundle_rules.specs.Homes.{binds}
use Rattle.bundle_rules.specs.Denotes.{Global, bound_in, denoted_in, own_or_found, denoted_of, Denoted}
use Rattle.bundle_rules.specs.Symbols.{denoted_symbol}
use Rattle.bundle_rules.specs.Meaning.{Meant}
use Rattle.bundle_rules.specs.Nodes.{Text, begins_with}
use Rattle.bundle_rules.specs.Statements.{TopItem, top_items}
use Rattle.bundle_rules.specs.Entries.{is_module_declaration, imports_of_item, imports_of, import_of, is_script}
use Rattle.bundle_rules.specs.Program.{Program}
use Rattle.bundle_rules.specs.Linking as l
use Rattle.bundle_rules.specs.Linking.{Target, Declared as Declared_own, imports, StandsFor}
use Rattle.bundle_scope_names.proofs.FoundLemmas.{plain}
use Rattle.bundle_scope_names.proofs.TreeLemmas.{DeclaresOrNot, DoesNot, Does, declares_or_not}
use Rattle.bundle_merge_theory.specs.loaded.Turned.{declares}
use Rattle.bundle_merge_theory.proofs.loaded.Parameters.{Chain, last, further, chain-around}
use Rattle.bundle_merge_theory.proofs.joined.Bindings.{bound-global}
use Rattle.bundle_merge_theory.specs.loaded.Pieces.{is_told_inside, told_inside}

-- ---- apart

-- No free `arguments`.

found-last : (p : Scope → Bool) {ss : List Scope} → Chain ss → p Wrapper ≡ true →
    find p ss ≡ None → ⊥
found-last p last there is = by (p Top) (p Wrapper) there is
  where
    by : (a b : Bool) → b ≡ true → cond a (Some Top) (cond b (Some Wrapper) None) ≡ None → ⊥
    by true b holds is = none-some Top (sym is)
    by false true holds is = none-some Wrapper (sym is)
    by false false holds is = false≢true holds
found-last p (further {kind = kind} {a = a} {ss = ss} rest) there is =
    by (p (Inner kind a)) is (λ more. found-last p rest there more)
  where
    by : (b : Bool) → cond b (Some (Inner kind a)) (find p ss) ≡ None → (find p ss ≡ None → ⊥) → ⊥
    by true is ih = none-some (Inner kind a) (sym is)
    by false is ih = ih is

wrapper-arguments : (ds : List Declared) → binds ds Wrapper (plain (codes "arguments")) ≡ true
wrapper-arguments ds = by (k.declares ds Wrapper (plain (codes "arguments")))
  where
    by : (b : Bool) → (b || not b) ≡ true
    by true = refl
    by false = refl

-- in a CommonJS module each `arguments` is bound, at the latest by the wrapper
pub arguments-bound : (ds : List Declared) (o : Occurrence) →
    denoted_of BySymbol Cjs ds o ≡ Global (codes "arguments") → ⊥
arguments-bound ds o is = by (declares_or_not Cjs o)
  where
    found : (p : Option Scope) →
        find (λ s. binds ds s (plain o.sym)) (scopes_around Cjs o.path) ≡ p →
        bound_in (plain o.sym) p ≡ Global (codes "arguments") → ⊥
    found (Some s) at same = bound-global same
    found None at same =
        found-last (λ s. binds ds s (plain o.sym)) (chain-around o.path)
        (ap (λ x. binds ds Wrapper (plain x)) (ap denoted_symbol same) ∙ wrapper-arguments ds)
        at

    by : DeclaresOrNot Cjs o → ⊥
    by (DoesNot never) =
        found (find (λ s. binds ds s (plain o.sym)) (scopes_around Cjs o.path)) refl
        (sym (ap (own_or_found ds
        (denoted_in BySymbol ds (scopes_around Cjs o.path) (plain o.sym)))
        (never BySymbol o.ctxt)) ∙ is)
    by (Does way known own later) =
        bound-global (sym (ap
        (own_or_found ds (denoted_in BySymbol ds (scopes_around Cjs o.path) (plain o.sym)))
        own) ∙ is)

-- ---- numbers

-- what is told to be inside
pub told-filtered : (p : Denoted → Bool) (ds : List Denoted) (meants : List Meant) →
    AllZip (λ d meant. p d ≡ is_told_inside meant) ds meants → filter p ds ≡ told_inside ds meants
told-filtered p [] [] all = refl
told-filtered p [] (meant ∷ meants) all = absurd all
told-filtered p (d ∷ ds) [] all = absurd all
told-filtered p (d ∷ ds) (meant ∷ meants) all =
    ap (λ b. cond b (d ∷ filter p ds) (filter p ds)) all.0
    ∙ ap (λ rest. cond (is_told_inside meant) (d ∷ rest) rest) (told-filtered p ds meants all.1)

-- what is inside
pub inside_zip : (R : Denoted → Denoted → Type 0) (p q : Denoted → Bool) (ds es : List Denoted) →
    AllZip (λ d e. (p d ≡ q e) × (p d ≡ true → R d e)) ds es → AllZip R (filter p ds) (filter q es)
inside_zip R p q [] [] all = tt
inside_zip R p q [] (e ∷ es) all = absurd all
inside_zip R p q (d ∷ ds) [] all = absurd all
inside_zip R p q (d ∷ ds) (e ∷ es) all =
    pick (p d) (q e) all.0.0 all.0.1 (inside_zip R p q ds es all.1)
  where
    pick : (b c : Bool) → b ≡ c → (b ≡ true → R d e) → AllZip R (filter p ds) (filter q es) →
        AllZip R (cond b (d ∷ filter p ds) (filter p ds)) (cond c (e ∷ filter q es) (filter q es))
    pick true true same its all = (its refl, all)
    pick false false same its all = all
    pick true false same its all = cc
    pick false true same its all = cc

-- ---- own

-- A script imports nothing.

no-import : (items : List Item) → begins_with is_module_declaration items ≡ false →
    imports_of_item items ≡ []
no-import [] is = refl
no-import (h.Ident field x ctxt role ∷ rest) is = refl
no-import (h.Hole field ∷ rest) is = refl
no-import (h.Close ∷ rest) is = refl
no-import (h.Open field head ∷ rest) is = by head is
  where
    by : (head : Head) → is_module_declaration head ≡ false →
        imports_of_item (h.Open field head ∷ rest) ≡ []
    by (h.ImportDecl meta) is = absurd (false≢true (sym is))
    by _ is = refl

no-imports : (tops : List TopItem) →
    list_any (λ (top : TopItem). begins_with is_module_declaration top.items) tops ≡ false →
    flat_map (λ (top : TopItem). imports_of_item top.items) tops ≡ []
no-imports [] is = refl
no-imports (top ∷ tops) is =
    by (begins_with is_module_declaration top.items) refl is (λ none. no-imports tops none)
  where
    by : (b : Bool) → begins_with is_module_declaration top.items ≡ b →
        (b || list_any (λ (top : TopItem). begins_with is_module_declaration top.items) tops)
        ≡ false →
        (list_any (λ (top : TopItem). begins_with is_module_declaration top.items) tops ≡ false →
        flat_map (λ (top : TopItem). imports_of_item top.items) tops ≡ []) →
        imports_of_item top.items ++ flat_map (λ (top : TopItem). imports_of_item top.items) tops
        ≡ []
    by true e none rest = absurd (false≢true (sym none))
    by false e none rest =
        ap (λ its. its ++ flat_map (λ (top : TopItem). imports_of_item top.items) tops)
        (no-import top.items e)
        ∙ rest none

pub script-imports : (tree : List Item) → is_script tree ≡ true → imports_of tree ≡ []
script-imports tree is =
    no-imports (top_items tree)
    (not-true (list_any (λ (top : TopItem). begins_with is_module_declaration top.items)
    (top_items tree)) (and_parts
    (not (list_any (λ (top : TopItem). begins_with is_module_declaration top.items)
    (top_items tree))) _ is).0)

-- so a name of its top stands for what it declares
pub stands-declared : (p : Program) (c : ℕ) (x : Text) (t : Target) → imports p c ≡ [] →
    StandsFor p c x t → t ≡ Declared_own c x
stands-declared p c x t none (l.declared there own) = refl
stands-declared p c x t none (l.imported entry found is of_module linked) =
    absurd (none-some entry (ap (λ list. import_of list x) (sym none) ∙ found))
stands-declared p c x t none (l.taken_whole entry found takes) =
    absurd (none-some entry (ap (λ list. import_of list x) (sym none) ∙ found))
