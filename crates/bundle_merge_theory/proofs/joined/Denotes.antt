-- Scopes whose nodes begin elsewhere: what is told of them, and which of them takes a name.
-- To which scope a declared name belongs, in its item by itself and in the whole.
-- What names denote in the whole, by what they denote in their item by itself.
use Rattle.std.proofs.Common.{◌≡◌, ℕ, Bool, true, false, cond, List, [], ◌∷◌, Option, Some, None, option_map, map, unwrap_or, refl, ap, ◌∙◌, ◌≤◌, ◌⊎◌, inl, inr, ◌+◌, ◌&&◌, ◌||◌, ◌++◌, sym, arith, not, find, length, subst, append_assoc}
use Rattle.std.specs.List.{list_any, cons_option}
use Rattle.std.proofs.lemmas.Bool.{false≢true}
use Rattle.std.proofs.lemmas.List.{length-append}
use Rattle.bundle_syntax.specs.Item.{Item}
use Rattle.bundle_rules.specs.Scopes.{Scope, Wrapper, Top, Inner, Parameters, ArrowParameters, FunctionBody, StaticBody, Block, CatchBlock, Loop, Catch, FunctionName, ClassName, scope_order, same_scope, Es, ScopeKind, kind_of_scope, scope_at, scopes_around}
use Rattle.bundle_rules.specs.Declarations.{Way, ByImport, ByVar, ByLet, ByConst, ByFunction, ByClass, ByDefault, ByLoop, ByParameter, ByCatch, ByFunctionName, ByClassName, ByWrapper, Name, names_agree, Declared, ByContext, name_of, declared_by, declaration_of, way_of}
use Rattle.bundle_rules.specs.Homes.{is_body, is_block, is_parameters, is_top, is_wrapper, is_loop, is_catch, is_function_name, is_class_name, is_function, takes, from_taker, nearest, parameters_of, taker, joins_parameter, is_parameter, home_beside, home_of, is_declared_in, declares, is_arguments}
use Rattle.bundle_rules.specs.Denotes.{has_identifier, is_written_in, Bound, Global, without_context, bound_in, is_unresolved, is_implied_in, implied, written_or_implied, denoted_by_context, own_or_found, denoted_of}
use Rattle.bundle_rules.specs.Places.{Around, Occurrence, occurrences, is_binding}
use Rattle.bundle_rules.specs.Parts.{tree_of_items}
use Rattle.bundle_rules.specs.Sorting.{flat}
use Rattle.bundle_merge_theory.specs.joined.Joined.{relocated, AllOf, moved, moved_scope, moved_declared, IsWholeItem, moved_occurrence, moved_denoted, each_moved, own_declared, is_item_top_name, is_global_written, denoted_in_whole}
use Rattle.bundle_merge_theory.proofs.joined.Paths.{any-append, any-none, any-map, all-back, any-same, find-map, each-append, IsIn, IsDeclaredIn, in-moved, apart, same-moved, both-alike, IsOccurrenceIn, declared-in, each-in, flat-append}
use Rattle.bundle_merge_theory.proofs.joined.Declarations.{IsNamed, named-flat, declared-item, declared-joined, scopes_around-moved, declaration-moved, declared_by_names}

-- ---- relocating

-- What is told of scopes.

pub is_body-relocated : (f : ℕ → ℕ) (scope : Scope) → is_body (relocated f scope) ≡ is_body scope
is_body-relocated f Wrapper = refl
is_body-relocated f Top = refl
is_body-relocated f (Inner FunctionBody begins) = refl
is_body-relocated f (Inner StaticBody begins) = refl
is_body-relocated f (Inner _ begins) = refl

pub is_block-relocated : (f : ℕ → ℕ) (scope : Scope) →
    is_block (relocated f scope) ≡ is_block scope
is_block-relocated f Wrapper = refl
is_block-relocated f Top = refl
is_block-relocated f (Inner FunctionBody begins) = refl
is_block-relocated f (Inner StaticBody begins) = refl
is_block-relocated f (Inner Block begins) = refl
is_block-relocated f (Inner CatchBlock begins) = refl
is_block-relocated f (Inner _ begins) = refl

pub is_parameters-relocated : (f : ℕ → ℕ) (scope : Scope) →
    is_parameters (relocated f scope) ≡ is_parameters scope
is_parameters-relocated f Wrapper = refl
is_parameters-relocated f Top = refl
is_parameters-relocated f (Inner Parameters begins) = refl
is_parameters-relocated f (Inner ArrowParameters begins) = refl
is_parameters-relocated f (Inner _ begins) = refl

pub is_loop-relocated : (f : ℕ → ℕ) (scope : Scope) → is_loop (relocated f scope) ≡ is_loop scope
is_loop-relocated f Wrapper = refl
is_loop-relocated f Top = refl
is_loop-relocated f (Inner Loop begins) = refl
is_loop-relocated f (Inner _ begins) = refl

pub is_catch-relocated : (f : ℕ → ℕ) (scope : Scope) →
    is_catch (relocated f scope) ≡ is_catch scope
is_catch-relocated f Wrapper = refl
is_catch-relocated f Top = refl
is_catch-relocated f (Inner Catch begins) = refl
is_catch-relocated f (Inner _ begins) = refl

pub is_function_name-relocated : (f : ℕ → ℕ) (scope : Scope) →
    is_function_name (relocated f scope) ≡ is_function_name scope
is_function_name-relocated f Wrapper = refl
is_function_name-relocated f Top = refl
is_function_name-relocated f (Inner FunctionName begins) = refl
is_function_name-relocated f (Inner _ begins) = refl

pub is_class_name-relocated : (f : ℕ → ℕ) (scope : Scope) →
    is_class_name (relocated f scope) ≡ is_class_name scope
is_class_name-relocated f Wrapper = refl
is_class_name-relocated f Top = refl
is_class_name-relocated f (Inner ClassName begins) = refl
is_class_name-relocated f (Inner _ begins) = refl

pub is_function-relocated : (f : ℕ → ℕ) (scope : Scope) →
    is_function (relocated f scope) ≡ is_function scope
is_function-relocated f Wrapper = refl
is_function-relocated f Top = refl
is_function-relocated f (Inner Parameters begins) = refl
is_function-relocated f (Inner _ begins) = refl

pub is_top-relocated : (f : ℕ → ℕ) (scope : Scope) → is_top (relocated f scope) ≡ is_top scope
is_top-relocated f Wrapper = refl
is_top-relocated f Top = refl
is_top-relocated f (Inner kind begins) = refl

pub is_wrapper-relocated : (f : ℕ → ℕ) (scope : Scope) →
    is_wrapper (relocated f scope) ≡ is_wrapper scope
is_wrapper-relocated f Wrapper = refl
is_wrapper-relocated f Top = refl
is_wrapper-relocated f (Inner kind begins) = refl

pub takes-relocated : (f : ℕ → ℕ) (way : Way) (scope : Scope) →
    takes way (relocated f scope) ≡ takes way scope
takes-relocated f ByImport scope = is_top-relocated f scope
takes-relocated f ByVar scope = is_body-relocated f scope
takes-relocated f ByLet scope = is_block-relocated f scope
takes-relocated f ByConst scope = is_block-relocated f scope
takes-relocated f ByFunction scope = is_block-relocated f scope
takes-relocated f ByClass scope = is_block-relocated f scope
takes-relocated f ByDefault scope = is_top-relocated f scope
takes-relocated f ByParameter scope = is_parameters-relocated f scope
takes-relocated f ByCatch scope = is_catch-relocated f scope
takes-relocated f ByLoop scope = is_loop-relocated f scope
takes-relocated f ByFunctionName scope = is_function_name-relocated f scope
takes-relocated f ByClassName scope = is_class_name-relocated f scope
takes-relocated f ByWrapper scope = is_wrapper-relocated f scope

-- Takers.

pub from_taker-relocated : (f : ℕ → ℕ) (way : Way) (scopes : List Scope) →
    from_taker way (map (relocated f) scopes) ≡ map (relocated f) (from_taker way scopes)
from_taker-relocated f way [] = refl
from_taker-relocated f way (scope ∷ outer) =
    ap (λ b. cond b (relocated f scope ∷ map (relocated f) outer)
    (from_taker way (map (relocated f) outer))) (takes-relocated f way scope)
    ∙ by_first (takes way scope) (from_taker-relocated f way outer)
  where
    by_first : (b : Bool) →
        from_taker way (map (relocated f) outer) ≡ map (relocated f) (from_taker way outer) →
        cond b (relocated f scope ∷ map (relocated f) outer)
        (from_taker way (map (relocated f) outer))
        ≡ map (relocated f) (cond b (scope ∷ outer) (from_taker way outer))
    by_first true ih = refl
    by_first false ih = ih

pub nearest-relocated : (f : ℕ → ℕ) (scopes : List Scope) →
    nearest (map (relocated f) scopes) ≡ option_map (relocated f) (nearest scopes)
nearest-relocated f [] = refl
nearest-relocated f (scope ∷ outer) = refl

pub parameters_of-relocated : (f : ℕ → ℕ) (scopes : List Scope) →
    parameters_of (map (relocated f) scopes) ≡ option_map (relocated f) (parameters_of scopes)
parameters_of-relocated f [] = refl
parameters_of-relocated f (Wrapper ∷ outer) = refl
parameters_of-relocated f (Top ∷ outer) = nearest-relocated f outer
parameters_of-relocated f (Inner FunctionBody begins ∷ outer) = nearest-relocated f outer
parameters_of-relocated f (Inner _ begins ∷ outer) = refl

pub or_top-relocated : (f : ℕ → ℕ) (scope : Option Scope) →
    unwrap_or (option_map (relocated f) scope) Top ≡ relocated f (unwrap_or scope Top)
or_top-relocated f None = refl
or_top-relocated f (Some scope) = refl

-- ---- homes
pub taker-moved : (k : ℕ) (d : Declared) → taker (moved_declared k d) ≡ moved_scope k (taker d)
taker-moved k d =
    ap (λ scopes. unwrap_or (nearest scopes) Top) (from_taker-relocated (moved k) d.by d.scopes)
    ∙ ap (λ scope. unwrap_or scope Top) (nearest-relocated (moved k) (from_taker d.by d.scopes))
    ∙ or_top-relocated (moved k) (nearest (from_taker d.by d.scopes))

-- Where a name belongs is the top or one of the scopes around it: what these have in common, it
-- has too.

pub from_taker-in : (P : Scope → Type 0) (way : Way) (scopes : List Scope) → AllOf P scopes →
    AllOf P (from_taker way scopes)
from_taker-in P way [] all = tt
from_taker-in P way (scope ∷ outer) all =
    by_first (takes way scope) (from_taker-in P way outer all.1)
  where
    by_first : (b : Bool) → AllOf P (from_taker way outer) →
        AllOf P (cond b (scope ∷ outer) (from_taker way outer))
    by_first true ih = all
    by_first false ih = ih

-- what an option has
abbrev pub HasIn : (Scope → Type 0) → Option Scope → Type 0
HasIn P None = Unit {0}
HasIn P (Some scope) = P scope

pub nearest-in : (P : Scope → Type 0) (scopes : List Scope) → AllOf P scopes → HasIn P (nearest scopes)
nearest-in P [] all = tt
nearest-in P (scope ∷ outer) all = all.0

pub parameters-in : (P : Scope → Type 0) (scopes : List Scope) → AllOf P scopes →
    HasIn P (parameters_of scopes)
parameters-in P [] all = tt
parameters-in P (Wrapper ∷ outer) all = tt
parameters-in P (Top ∷ outer) all = nearest-in P outer all.1
parameters-in P (Inner FunctionBody begins ∷ outer) all = nearest-in P outer all.1
parameters-in P (Inner _ begins ∷ outer) all = tt

or_top-in : (P : Scope → Type 0) → P Top → (scope : Option Scope) → HasIn P scope →
    P (unwrap_or scope Top)
or_top-in P at_top None has = at_top
or_top-in P at_top (Some scope) has = has

pub taker-in : (P : Scope → Type 0) → P Top → (d : Declared) → AllOf P d.scopes → P (taker d)
taker-in P at_top d all =
    or_top-in P at_top (nearest (from_taker d.by d.scopes))
    (nearest-in P (from_taker d.by d.scopes) (from_taker-in P d.by d.scopes all))

pub home-in : (P : Scope → Type 0) → P Top → (all : List Declared) (d : Declared) →
    AllOf P d.scopes → P (home_of all d)
home-in P at_top all d has = by_joins (joins_parameter d.by)
  where
    by_parameter : (beside : Option Scope) → HasIn P beside → P (home_beside all d beside)
    by_parameter None none = taker-in P at_top d has
    by_parameter (Some scope) its = by_found (list_any (is_parameter scope d.name) all)
      where
        by_found : (b : Bool) → P (cond b scope (taker d))
        by_found true = its
        by_found false = taker-in P at_top d has

    by_joins : (b : Bool) →
        P (cond b (home_beside all d (parameters_of (from_taker d.by d.scopes))) (taker d))
    by_joins true =
        by_parameter (parameters_of (from_taker d.by d.scopes))
        (parameters-in P (from_taker d.by d.scopes) (from_taker-in P d.by d.scopes has))
    by_joins false = taker-in P at_top d has

-- Parameters.

-- a parameter belongs to a scope of parameters, which is not the top
no_parameters : (scope : Scope) → is_top scope ≡ true →
    (is_parameters scope || is_wrapper scope) ≡ false
no_parameters Top e = refl
no_parameters Wrapper e = absurd (false≢true e)
no_parameters (Inner kind begins) e = absurd (false≢true e)

no_parameter : (s t : Scope) (b : Bool) → ((is_top s ≡ false) → same_scope s t ≡ false) →
    ((is_parameters s || is_wrapper s) && same_scope s t && b) ≡ false
no_parameter s t b other = by_top (is_top s) refl
  where
    fails : (x y : Bool) → (x && false && y) ≡ false
    fails true y = refl
    fails false y = refl

    by_top : (x : Bool) → is_top s ≡ x →
        ((is_parameters s || is_wrapper s) && same_scope s t && b) ≡ false
    by_top true is = ap (λ x. x && same_scope s t && b) (no_parameters s is)
    by_top false is =
        ap (λ x. (is_parameters s || is_wrapper s) && x && b) (other is)
        ∙ fails (is_parameters s || is_wrapper s) b

-- what is declared in other ranges is no parameter of a scope
pub other-parameter : (low high other last : ℕ) → (high ≤ other) ⊎ (last ≤ low) → (scope : Scope) →
    IsIn low high scope → (name : Name) (d : Declared) → IsDeclaredIn other last d →
    is_parameter scope name d ≡ false
other-parameter low high other last sides scope at name d is =
    no_parameter (taker d) scope (names_agree d.name name) (λ inner. same-sym (taker d) scope
    ∙ apart low high other last sides scope (taker d) at (taker-in (IsIn other last) tt d is)
    inner)
  where
    same-sym : (s t : Scope) → same_scope s t ≡ same_scope t s
    same-sym s t =
        both-alike (scope_order s) (scope_order t) (scope_order t) (scope_order s) (λ e. sym e)
        (λ e. sym e)

parameter-moved : (k : ℕ) (scope : Scope) (name : Name) (d : Declared) →
    is_parameter (moved_scope k scope) name (moved_declared k d) ≡ is_parameter scope name d
parameter-moved k scope name d =
    ap (λ t. (is_parameters t || is_wrapper t) && same_scope t (moved_scope k scope)
    && names_agree d.name name) (taker-moved k d)
    ∙ ap (λ b. (b || is_wrapper (moved_scope k (taker d)))
    && same_scope (moved_scope k (taker d)) (moved_scope k scope) && names_agree d.name name)
    (is_parameters-relocated (moved k) (taker d))
    ∙ ap (λ b. (is_parameters (taker d) || b)
    && same_scope (moved_scope k (taker d)) (moved_scope k scope) && names_agree d.name name)
    (is_wrapper-relocated (moved k) (taker d))
    ∙ ap (λ b. (is_parameters (taker d) || is_wrapper (taker d)) && b && names_agree d.name name)
    (same-moved k (taker d) scope)

-- An item that stands between others.
module _ (before own after : List Declared) (k n last : ℕ)
    (in_before : AllOf (IsDeclaredIn 1 (1 + k)) before)
    (in_own : AllOf (IsDeclaredIn 1 (1 + n)) own)
    (in_after : AllOf (IsDeclaredIn (1 + n + k) last) after) where
  -- what all declare
  abbrev pub all_of : List Declared
  all_of = before ++ (map (moved_declared k) own ++ after)

  -- a test that nothing of the others passes
  pub any-own : (p q : Declared → Bool) →
      ((d : Declared) → IsDeclaredIn 1 (1 + k) d → q d ≡ false) →
      ((d : Declared) → IsDeclaredIn (1 + n + k) last d → q d ≡ false) →
      ((d : Declared) → IsDeclaredIn 1 (1 + n) d → q (moved_declared k d) ≡ p d) →
      list_any q all_of ≡ list_any p own
  any-own p q fails_before fails_after same =
      any-append q before (map (moved_declared k) own ++ after)
      ∙ ap (λ b. b || list_any q (map (moved_declared k) own ++ after))
      (any-none (IsDeclaredIn 1 (1 + k)) q fails_before before in_before)
      ∙ any-append q (map (moved_declared k) own) after
      ∙ ap (λ b. list_any q (map (moved_declared k) own) || b)
      (any-none (IsDeclaredIn (1 + n + k) last) q fails_after after in_after)
      ∙ or_false (list_any q (map (moved_declared k) own))
      ∙ any-map (IsDeclaredIn 1 (1 + n)) p q (moved_declared k) same own in_own
    where
      or_false : (b : Bool) → (b || false) ≡ b
      or_false true = refl
      or_false false = refl

  any-parameter : (scope : Scope) (name : Name) → IsIn 1 (1 + n) scope →
      list_any (is_parameter (moved_scope k scope) name) all_of
      ≡ list_any (is_parameter scope name) own
  any-parameter scope name at =
      any-own (is_parameter scope name) (is_parameter (moved_scope k scope) name)
      (λ d is. other-parameter (1 + k) (1 + n + k) 1 (1 + k) (inr (omega arith))
      (moved_scope k scope) (in-moved k (1 + n) scope at) name d is)
      (λ d is. other-parameter (1 + k) (1 + n + k) (1 + n + k) last (inl (omega arith))
      (moved_scope k scope) (in-moved k (1 + n) scope at) name d is)
      (λ d is. parameter-moved k scope name d)

  -- HOMES: the scope to which a name belongs is that in the item by itself, moved
  pub home-moved : (d : Declared) → IsDeclaredIn 1 (1 + n) d →
      home_of all_of (moved_declared k d) ≡ moved_scope k (home_of own d)
  home-moved d is =
      ap (λ scopes. cond (joins_parameter d.by)
      (home_beside all_of (moved_declared k d) (parameters_of scopes))
      (taker (moved_declared k d))) (from_taker-relocated (moved k) d.by d.scopes)
      ∙ ap (λ beside. cond (joins_parameter d.by) (home_beside all_of (moved_declared k d) beside)
      (taker (moved_declared k d)))
      (parameters_of-relocated (moved k) (from_taker d.by d.scopes))
      ∙ by_joins (joins_parameter d.by)
    where
      by_beside : (beside : Option Scope) → HasIn (IsIn 1 (1 + n)) beside →
          home_beside all_of (moved_declared k d) (option_map (moved_scope k) beside)
          ≡ moved_scope k (home_beside own d beside)
      by_beside None has = taker-moved k d
      by_beside (Some scope) has =
          ap (λ b. cond b (moved_scope k scope) (taker (moved_declared k d)))
          (any-parameter scope d.name has)
          ∙ by_found (list_any (is_parameter scope d.name) own)
        where
          by_found : (b : Bool) →
              cond b (moved_scope k scope) (taker (moved_declared k d))
              ≡ moved_scope k (cond b scope (taker d))
          by_found true = refl
          by_found false = taker-moved k d

      by_joins : (b : Bool) →
          cond b (home_beside all_of (moved_declared k d)
          (option_map (moved_scope k) (parameters_of (from_taker d.by d.scopes))))
          (taker (moved_declared k d))
          ≡ moved_scope k (cond b
          (home_beside own d (parameters_of (from_taker d.by d.scopes))) (taker d))
      by_joins true =
          by_beside (parameters_of (from_taker d.by d.scopes))
          (parameters-in (IsIn 1 (1 + n)) (from_taker d.by d.scopes)
          (from_taker-in (IsIn 1 (1 + n)) d.by d.scopes is))
      by_joins false = taker-moved k d

  -- whether an identifier declares a name in a scope of the item
  pub written-own : (scope : Scope) (name : Name) → IsIn 1 (1 + n) scope → is_top scope ≡ false →
      is_written_in all_of (moved_scope k scope) name ≡ is_written_in own scope name
  written-own scope name at inner =
      any-own (λ d. has_identifier d && is_declared_in own scope name d)
      (λ d. has_identifier d && is_declared_in all_of (moved_scope k scope) name d)
      (λ d is. outside d
      (apart 1 (1 + k) (1 + k) (1 + n + k) (inl (omega arith)) (home_of all_of d)
      (moved_scope k scope) (home-in (IsIn 1 (1 + k)) tt all_of d is)
      (in-moved k (1 + n) scope at) (is_top-relocated (moved k) scope ∙ inner)))
      (λ d is. outside d (apart (1 + n + k) last (1 + k) (1 + n + k) (inr (omega arith))
      (home_of all_of d) (moved_scope k scope) (home-in (IsIn (1 + n + k) last) tt all_of d is)
      (in-moved k (1 + n) scope at) (is_top-relocated (moved k) scope ∙ inner)))
      (λ d is. ap (λ home. has_identifier d
      && (same_scope home (moved_scope k scope) && names_agree d.name name)) (home-moved d is)
      ∙ ap (λ b. has_identifier d && (b && names_agree d.name name))
      (same-moved k (home_of own d) scope))
    where
      fails : (x y : Bool) → (x && (false && y)) ≡ false
      fails true y = refl
      fails false y = refl

      outside : (d : Declared) → same_scope (home_of all_of d) (moved_scope k scope) ≡ false →
          (has_identifier d && (same_scope (home_of all_of d) (moved_scope k scope)
          && names_agree d.name name)) ≡ false
      outside d e =
          ap (λ b. has_identifier d && (b && names_agree d.name name)) e
          ∙ fails (has_identifier d) (names_agree d.name name)

  -- whether an identifier of the item declares a name at the top
  pub written-top : (name : Name) →
      list_any (λ d. has_identifier d && is_declared_in all_of Top name d)
      (map (moved_declared k) own) ≡ is_written_in own Top name
  written-top name =
      any-map (IsDeclaredIn 1 (1 + n)) (λ d. has_identifier d && is_declared_in own Top name d)
      (λ d. has_identifier d && is_declared_in all_of Top name d) (moved_declared k)
      (λ d is. ap (λ home. has_identifier d && (same_scope home Top && names_agree d.name name))
      (home-moved d is) ∙ ap (λ b. has_identifier d && (b && names_agree d.name name))
      (same-moved k (home_of own d) Top)) own in_own

-- ---- denotes

-- Where each declaration has an identifier.
abbrev pub HasIdentifier : Declared → Type 0
HasIdentifier d = has_identifier d ≡ true

pub names-identified : (os : List Occurrence) → AllOf HasIdentifier (declared_by_names os)
names-identified [] = tt
names-identified (o ∷ os) = by_role (is_binding o.role) (way_of o.path) (names-identified os)
  where
    by_role : (b : Bool) (way : Option Way) → AllOf HasIdentifier (declared_by_names os) →
        AllOf HasIdentifier
        (cons_option (cond b
        (declared_by o.place (name_of ByContext o.sym o.ctxt) (scopes_around Es o.path) way)
        None) (declared_by_names os))
    by_role true None rest = rest
    by_role true (Some way) rest = (refl, rest)
    by_role false way rest = rest

-- what the name may imply is `arguments` alone: no declaration without an identifier has its
-- symbol
abbrev pub IsPlain : List Declared → Name → Type 0
IsPlain all name =
    (scope : Scope) → is_implied_in all scope name ≡ (is_arguments name.sym && is_function scope)

-- nothing but `arguments` is implied
pub nothing-implied : (all : List Declared) → AllOf HasIdentifier all →
    (scope : Scope) (name : Name) →
    is_implied_in all scope name ≡ (is_arguments name.sym && is_function scope)
nothing-implied all each scope name =
    ap (λ b. (declares all scope (without_context name) && not b)
    || (is_arguments name.sym && is_function scope)) same
    ∙ never (declares all scope (without_context name))
    (is_arguments name.sym && is_function scope)
  where
    same : is_written_in all scope (without_context name)
        ≡ declares all scope (without_context name)
    same =
        any-same HasIdentifier (is_declared_in all scope (without_context name))
        (λ d. has_identifier d && is_declared_in all scope (without_context name) d)
        (λ d is. ap (λ b. b && is_declared_in all scope (without_context name) d) is) all each

    never : (a b : Bool) → ((a && not a) || b) ≡ b
    never true b = refl
    never false b = refl

-- the scopes around a place: the top is the last of them, and the others are inner ones
abbrev pub IsChain : ℕ → List Scope → Type 0
IsChain high [] = ⊥
IsChain high (Wrapper ∷ outer) = ⊥
IsChain high (Top ∷ []) = Unit {0}
IsChain high (Top ∷ next ∷ outer) = ⊥
IsChain high (Inner kind begins ∷ outer) = IsIn 1 high (Inner kind begins) × IsChain high outer

chain-of : (high : ℕ) (path : List Around) → AllOf (IsIn 1 high) (scopes_around Es path) →
    IsChain high (scopes_around Es path)
chain-of high [] all = tt
chain-of high (node ∷ outer) all =
    by_kind (kind_of_scope node.head node.field outer) all (chain-of high outer)
  where
    by_kind : (kind : Option ScopeKind) →
        AllOf (IsIn 1 high) (scope_at node.begins kind ++ scopes_around Es outer) →
        (AllOf (IsIn 1 high) (scopes_around Es outer) → IsChain high (scopes_around Es outer)) →
        IsChain high (scope_at node.begins kind ++ scopes_around Es outer)
    by_kind None all ih = ih all
    by_kind (Some kind) all ih = (all.0, ih all.1)

-- One item among others.
module _ (before after : List (List Item)) (item : List Item)
    (whole : AllOf IsWholeItem (before ++ item ∷ after)) where
  abbrev pub further : ℕ
  further = length (flat before)

  abbrev pub items : List (List Item)
  items = before ++ item ∷ after

  abbrev pub all : List Declared
  all = own_declared (flat items)

  abbrev pub own : List Declared
  own = own_declared item

  abbrev pub declared_before : List Declared
  declared_before = each_moved moved_declared own_declared 0 before

  abbrev pub declared_after : List Declared
  declared_after = each_moved moved_declared own_declared (further + length item) after

  abbrev pub last : ℕ
  last = 1 + (further + length item) + length (flat after)

  pub in_before : AllOf (IsDeclaredIn 1 (1 + further)) declared_before
  in_before =
      subst (λ n. AllOf (IsDeclaredIn n (1 + further)) declared_before)
      (let n : 1 + 0 ≡ 1 = omega arith in n) (each-in 0 (1 + further) before (omega arith))

  pub in_own : AllOf (IsDeclaredIn 1 (1 + length item)) own
  in_own = declared-in item

  pub in_after : AllOf (IsDeclaredIn (1 + length item + further) last) declared_after
  in_after =
      subst (λ n. AllOf (IsDeclaredIn n last) declared_after) (let n : 1 + (further + length item)
      ≡ 1 + length item + further = omega arith in
      n) (each-in (further + length item) last after (omega arith))

  -- what all declare
  pub all-is : all ≡ all_of declared_before own declared_after further (length item) last in_before
      in_own in_after
  all-is =
      declared-joined items whole
      ∙ each-append moved_declared own_declared before (item ∷ after) 0
      ∙ ap (λ k. declared_before
      ++ (map (moved_declared k) own
      ++ each_moved moved_declared own_declared (k + length item) after))
      (let n : 0 + further ≡ further = omega arith in n)

  -- HOMES: the scope to which a name of the item belongs
  pub home-joined : (d : Declared) → IsDeclaredIn 1 (1 + length item) d →
      home_of all (moved_declared further d) ≡ moved_scope further (home_of own d)
  home-joined d is =
      ap (λ ds. home_of ds (moved_declared further d)) all-is
      ∙ home-moved declared_before own declared_after further (length item) last in_before in_own
      in_after d is

  pub written-joined : (scope : Scope) (name : Name) → IsIn 1 (1 + length item) scope →
      is_top scope ≡ false →
      is_written_in all (moved_scope further scope) name ≡ is_written_in own scope name
  written-joined scope name at inner =
      ap (λ ds. is_written_in ds (moved_scope further scope) name) all-is
      ∙ written-own declared_before own declared_after further (length item) last in_before in_own
      in_after scope name at inner

  pub top-joined : (name : Name) →
      list_any (λ d. has_identifier d && is_declared_in all Top name d)
      (map (moved_declared further) own) ≡ is_written_in own Top name
  top-joined name =
      ap (λ ds. list_any (λ d. has_identifier d && is_declared_in ds Top name d)
      (map (moved_declared further) own)) all-is
      ∙ written-top declared_before own declared_after further (length item) last in_before in_own
      in_after name

-- The top of the whole.
abbrev at_top : List (List Item) → Name → Declared → Bool
at_top items name d = has_identifier d && is_declared_in (own_declared (flat items)) Top name d

tops : (items before after : List (List Item)) → before ++ after ≡ items → AllOf IsWholeItem items →
    (name : Name) →
    list_any (λ d. has_identifier d && is_declared_in (own_declared (flat items)) Top name d)
    (each_moved moved_declared own_declared (length (flat before)) after)
    ≡ list_any (λ item. is_written_in (own_declared item) Top name) after
tops items before [] e whole name = refl
tops items before (item ∷ more) e whole name =
    any-append (at_top items name)
    (map (moved_declared (length (flat before))) (own_declared item))
    (each_moved moved_declared own_declared (length (flat before) + length item) more)
    ∙ ap (λ b. b || list_any (at_top items name) (each_moved moved_declared own_declared
    (length (flat before) + length item) more)) first
    ∙ ap (λ k. is_written_in (own_declared item) Top name
    || list_any (at_top items name) (each_moved moved_declared own_declared k more))
    further_more
    ∙ ap (λ b. is_written_in (own_declared item) Top name || b)
    (tops items (before ++ item ∷ []) more (append_assoc before (item ∷ []) more ∙ e) whole
    name)
  where
    first : list_any (at_top items name)
        (map (moved_declared (length (flat before))) (own_declared item))
        ≡ is_written_in (own_declared item) Top name
    first =
        subst (λ its. list_any
        (λ d. has_identifier d && is_declared_in (own_declared (flat its)) Top name d)
        (map (moved_declared (length (flat before))) (own_declared item))
        ≡ is_written_in (own_declared item) Top name) e
        (top-joined before more item (subst (AllOf IsWholeItem) (sym e) whole) name)

    further_more : length (flat before) + length item ≡ length (flat (before ++ item ∷ []))
    further_more =
        let one = ap length (flat-append before (item ∷ [])) in
        let both = length-append (flat before) (item ++ []) in
        let own = length-append item [] in omega (arith, one, both, own)

-- an identifier declares a name at the top of the whole exactly if one does so at the top of an
-- item
pub top-written : (items : List (List Item)) → AllOf IsWholeItem items → (name : Name) →
    is_written_in (own_declared (flat items)) Top name ≡ is_item_top_name items name
top-written items whole name =
    ap (λ ds. list_any
    (λ d. has_identifier d && is_declared_in (own_declared (flat items)) Top name d) ds)
    (declared-joined items whole)
    ∙ tops items [] items refl whole name

-- Scopes that are found.

-- what is found in the whole, by what is found in the item by itself
abbrev found_in_whole : Bool → ℕ → Option Scope → Option Scope
found_in_whole is_item_top_name k None = cond is_item_top_name (Some Top) None
found_in_whole is_item_top_name k (Some scope) = Some (moved_scope k scope)

found-chain : (k high : ℕ) (p q : Scope → Bool) →
    ((scope : Scope) → IsIn 1 high scope → is_top scope ≡ false →
    q (moved_scope k scope) ≡ p scope) →
    (p Top ≡ true → q Top ≡ true) → (scopes : List Scope) → IsChain high scopes →
    find q (map (moved_scope k) scopes) ≡ found_in_whole (q Top) k (find p scopes)
found-chain k high p q same top [] chain = absurd chain
found-chain k high p q same top (Wrapper ∷ outer) chain = absurd chain
found-chain k high p q same top (Top ∷ next ∷ outer) chain = absurd chain
found-chain k high p q same top (Top ∷ []) chain = by_first (p Top) refl
  where
    by_first : (b : Bool) → p Top ≡ b →
        cond (q Top) (Some Top) None ≡ found_in_whole (q Top) k (cond b (Some Top) None)
    by_first true is = ap (λ b. cond b (Some Top) None) (top is)
    by_first false is = refl
found-chain k high p q same top (Inner kind begins ∷ outer) chain =
    ap (λ b. cond b (Some (moved_scope k (Inner kind begins)))
    (find q (map (moved_scope k) outer))) (same (Inner kind begins) chain.0 refl)
    ∙ by_first (p (Inner kind begins)) (found-chain k high p q same top outer chain.1)
  where
    by_first : (b : Bool) →
        find q (map (moved_scope k) outer) ≡ found_in_whole (q Top) k (find p outer) →
        cond b (Some (moved_scope k (Inner kind begins))) (find q (map (moved_scope k) outer))
        ≡ found_in_whole (q Top) k (cond b (Some (Inner kind begins)) (find p outer))
    by_first true ih = refl
    by_first false ih = ih

-- what is implied
implied-whole : (k : ℕ) (all own : List Declared) (scopes : List Scope) (text : List ℕ) (ctxt : ℕ) →
    IsPlain all (name_of ByContext text ctxt) → IsPlain own (name_of ByContext text ctxt) →
    implied all (map (moved_scope k) scopes) (name_of ByContext text ctxt)
    ≡ moved_denoted k (implied own scopes (name_of ByContext text ctxt))
implied-whole k all own scopes text ctxt safe own_safe =
    ap (λ found. cond (is_unresolved (Some ctxt)) (Global text)
    (bound_in (without_context (name_of ByContext text ctxt)) found)) found
    ∙ by_cases (is_unresolved (Some ctxt))
    (find (λ scope. is_implied_in own scope (name_of ByContext text ctxt)) scopes)
  where
    found : find (λ scope. is_implied_in all scope (name_of ByContext text ctxt))
        (map (moved_scope k) scopes)
        ≡ option_map (moved_scope k)
        (find (λ scope. is_implied_in own scope (name_of ByContext text ctxt)) scopes)
    found =
        find-map (λ scope. is_implied_in own scope (name_of ByContext text ctxt))
        (λ scope. is_implied_in all scope (name_of ByContext text ctxt)) (moved_scope k)
        (λ scope. safe (moved_scope k scope)
        ∙ ap (λ b. is_arguments text && b) (is_function-relocated (moved k) scope)
        ∙ sym (own_safe scope)) scopes

    by_cases : (b : Bool) (o : Option Scope) →
        cond b (Global text)
        (bound_in (without_context (name_of ByContext text ctxt))
        (option_map (moved_scope k) o))
        ≡ moved_denoted k (cond b (Global text)
        (bound_in (without_context (name_of ByContext text ctxt)) o))
    by_cases true o = refl
    by_cases false None = refl
    by_cases false (Some scope) = refl

pub identified : (item : List Item) → IsNamed item → AllOf HasIdentifier (own_declared item)
identified item named =
    subst (AllOf HasIdentifier) (sym (declared-item item named))
    (names-identified (occurrences (tree_of_items item)))

implied-unwritten : (own : List Declared) (scopes : List Scope) (name : Name) →
    is_global_written (implied own scopes name) ≡ false
implied-unwritten own scopes name =
    by_cases (is_unresolved name.ctxt) (find (λ scope. is_implied_in own scope name) scopes)
  where
    by_cases : (b : Bool) (o : Option Scope) →
        is_global_written (cond b (Global name.sym) (bound_in (without_context name) o)) ≡ false
    by_cases true o = refl
    by_cases false None = refl
    by_cases false (Some scope) = refl

module _ (before after : List (List Item)) (item : List Item)
    (whole : AllOf IsWholeItem (before ++ item ∷ after)) (o : Occurrence)
    (within : IsOccurrenceIn 1 (1 + length item) o)
    (safe : IsPlain (own_declared (flat (before ++ item ∷ after)))
    (name_of ByContext o.sym o.ctxt))
    (own_safe : IsPlain (own_declared item) (name_of ByContext o.sym o.ctxt)) where
  abbrev pub k : ℕ
  k = length (flat before)

  abbrev pub name : Name
  name = name_of ByContext o.sym o.ctxt

  abbrev pub whole_declared : List Declared
  whole_declared = own_declared (flat (before ++ item ∷ after))

  abbrev pub item_declared : List Declared
  item_declared = own_declared item

  abbrev pub around : List Scope
  around = scopes_around Es o.path

  abbrev pub on_top : Bool
  on_top = is_item_top_name (before ++ item ∷ after) name

  on-top : is_written_in whole_declared Top name ≡ on_top
  on-top = top-written (before ++ item ∷ after) whole name

  -- what the top of the item declares, that of the whole does
  top-more : is_written_in item_declared Top name ≡ true →
      is_written_in whole_declared Top name ≡ true
  top-more e =
      on-top
      ∙ any-append (λ one. is_written_in (own_declared one) Top name) before (item ∷ after)
      ∙ ap (λ b. list_any (λ one. is_written_in (own_declared one) Top name) before
      || (b || list_any (λ one. is_written_in (own_declared one) Top name) after)) e
      ∙ or_true (list_any (λ one. is_written_in (own_declared one) Top name) before)
    where
      or_true : (b : Bool) → (b || true) ≡ true
      or_true true = refl
      or_true false = refl

  found-whole : find (λ scope. is_written_in whole_declared scope name)
      (map (moved_scope k) around)
      ≡ found_in_whole (is_written_in whole_declared Top name) k
      (find (λ scope. is_written_in item_declared scope name) around)
  found-whole =
      found-chain k (1 + length item) (λ scope. is_written_in item_declared scope name)
      (λ scope. is_written_in whole_declared scope name)
      (λ scope at inner. written-joined before after item whole scope name at inner) top-more
      around (chain-of (1 + length item) o.path within)

  reference-joined : denoted_by_context whole_declared (map (moved_scope k) around) name
      ≡ denoted_in_whole on_top k name (denoted_by_context item_declared around name)
  reference-joined =
      ap (written_or_implied whole_declared (map (moved_scope k) around) name) (found-whole
      ∙ ap (λ b. found_in_whole b k
      (find (λ scope. is_written_in item_declared scope name) around)) on-top)
      ∙ by_found (find (λ scope. is_written_in item_declared scope name) around)
    where
      by_top : (b : Bool) →
          written_or_implied whole_declared (map (moved_scope k) around) name
          (cond b (Some Top) None)
          ≡ cond (not false && b) (Bound Top name)
          (moved_denoted k (implied item_declared around name))
      by_top true = refl
      by_top false = implied-whole k whole_declared item_declared around o.sym o.ctxt safe own_safe

      by_found : (found : Option Scope) →
          written_or_implied whole_declared (map (moved_scope k) around) name
          (found_in_whole on_top k found)
          ≡ denoted_in_whole on_top k name (written_or_implied item_declared around name found)
      by_found None =
          by_top on_top
          ∙ ap (λ b. cond (not b && on_top) (Bound Top name)
          (moved_denoted k (implied item_declared around name)))
          (sym (implied-unwritten item_declared around name))
      by_found (Some scope) = refl

  -- DENOTES: what an occurrence of an item denotes in the whole.
  pub denotes-plain : denoted_of ByContext Es whole_declared (moved_occurrence k o)
      ≡ denoted_in_whole on_top k name (denoted_of ByContext Es item_declared o)
  denotes-plain =
      ap (λ scopes. own_or_found whole_declared (denoted_by_context whole_declared scopes name)
      (declaration_of ByContext Es (moved_occurrence k o))) (scopes_around-moved k Es o.path)
      ∙ ap (own_or_found whole_declared
      (denoted_by_context whole_declared (map (moved_scope k) around) name))
      (declaration-moved k o)
      ∙ by_role (is_binding o.role) (way_of o.path)
    where
      by_role : (b : Bool) (way : Option Way) →
          own_or_found whole_declared
          (denoted_by_context whole_declared (map (moved_scope k) around) name)
          (option_map (moved_declared k) (cond b (declared_by o.place name around way) None))
          ≡ denoted_in_whole on_top k name
          (own_or_found item_declared (denoted_by_context item_declared around name)
          (cond b (declared_by o.place name around way) None))
      by_role false way = reference-joined
      by_role true None = reference-joined
      by_role true (Some way) =
          ap (λ home. Bound home name)
          (home-joined before after item whole
          (record { place = o.place; name = name; by = way; scopes = around }) within)

-- where each declaration has an identifier
pub denotes-joined : (before after : List (List Item)) (item : List Item) →
    AllOf IsWholeItem (before ++ item ∷ after) → AllOf IsNamed (before ++ item ∷ after) →
    (o : Occurrence) → IsOccurrenceIn 1 (1 + length item) o →
    denoted_of ByContext Es (own_declared (flat (before ++ item ∷ after)))
    (moved_occurrence (length (flat before)) o)
    ≡ denoted_in_whole (is_item_top_name (before ++ item ∷ after) (name_of ByContext o.sym o.ctxt))
    (length (flat before)) (name_of ByContext o.sym o.ctxt)
    (denoted_of ByContext Es (own_declared item) o)
denotes-joined before after item whole named o within =
    denotes-plain before after item whole o within
    (λ scope. nothing-implied (own_declared (flat (before ++ item ∷ after)))
    (identified (flat (before ++ item ∷ after)) (named-flat (before ++ item ∷ after) named))
    scope (name_of ByContext o.sym o.ctxt))
    (λ scope. nothing-implied (own_declared item)
    (identified item (all-back IsNamed before (item ∷ after) named).0) scope
    (name_of ByContext o.sym o.ctxt))
