-- The scopes of a table by their numbers, and those around one of them.
use Rattle.std.specs.Prelude.{◌≡◌, ◌<◌, ◌↔◌, ℕ, zero, suc, Bool as Truth, false, List, [], ◌∷◌, Option, Some, None, option_map, option_and_then, unwrap_or, slice_get, find, length}
use Rattle.std.specs.List.{AllZip}
use Rattle.bundle_rules.specs.Scopes as s
use Rattle.bundle_scope_denote.specs.Numbers.{NumberedScope}

-- the scope with a number
abbrev pub numbered_scope_at : List NumberedScope → ℕ → Option s.Scope
numbered_scope_at scopes number =
    option_map (λ (x : NumberedScope). x.scope) (slice_get scopes number)

-- the number of the scope around it
abbrev pub outer_at : List NumberedScope → ℕ → Option ℕ
outer_at scopes number = option_and_then (λ (x : NumberedScope). x.outer) (slice_get scopes number)

-- the number of the scope of a module's top
abbrev pub top_number : s.ModuleKind → ℕ
top_number s.Es = 0
top_number s.Cjs = 1

-- the scope with this number is the only one that is the top
abbrev pub IsOnlyTopOf : List NumberedScope → ℕ → Type 0
IsOnlyTopOf scopes top =
    (number : ℕ) (scope : s.Scope) →
    numbered_scope_at scopes number ≡ Some scope →
    (scope ≡ s.Top) ↔ (number ≡ top)

-- whether the scope with a number passes a test
abbrev pub passes : (s.Scope → Truth) → List NumberedScope → ℕ → Truth
passes test scopes number = unwrap_or (option_map test (numbered_scope_at scopes number)) false

-- the numbers of the scopes from one on outwards, at most so many
abbrev pub scopes_outwards : List NumberedScope → ℕ → Option ℕ → List ℕ
scopes_outwards scopes zero at = []
scopes_outwards scopes (suc more) None = []
scopes_outwards scopes (suc more) (Some number) =
    number ∷ scopes_outwards scopes more (outer_at scopes number)

-- the numbers are those of the scopes
abbrev pub AreScopesAt : List NumberedScope → List ℕ → List s.Scope → Type 0
AreScopesAt scopes = AllZip (λ number scope. numbered_scope_at scopes number ≡ Some scope)

-- the scopes of a table stand in the order of their nodes, each behind the one around it
pub record AreInOrder (scopes : List NumberedScope) : Type 0 where
  pub rising : (i j : ℕ) (x y : NumberedScope) →
      i < j →
      slice_get scopes i ≡ Some x →
      slice_get scopes j ≡ Some y →
      s.scope_order x.scope < s.scope_order y.scope
  pub behind : (i o : ℕ) (x : NumberedScope) → slice_get scopes i ≡ Some x → x.outer ≡ Some o →
      o < i

-- nothing stands twice in a list
abbrev pub IsOnce : {X : Type 0} → List X → Type 0
IsOnce {X} xs = (i j : ℕ) (x : X) → slice_get xs i ≡ Some x → slice_get xs j ≡ Some x → i ≡ j

-- the nearest scope from one on outwards that passes a test
abbrev pub nearest_at : List NumberedScope → (ℕ → Truth) → ℕ → Option ℕ
nearest_at scopes test from = find test (scopes_outwards scopes (length scopes) (Some from))
