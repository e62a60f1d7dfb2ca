-- What the numbers of scopes and names stand for.
use Rattle.std.specs.Prelude.{◌≡◌, ℕ, List, [], ◌∷◌, Option, Some, None, slice_get}
use Rattle.bundle_rules.specs.Scopes as s
use Rattle.bundle_rules.specs.Declarations as d
use Rattle.bundle_scope_denote.specs.declared.table.Scope.{Scope}
use Rattle.bundle_scope_denote.specs.declared.table.ScopeKind.{ScopeKind}
use Rattle.bundle_scope_denote.specs.declared.walk.NameKey.{NameKey}
use Rattle.bundle_scope_denote.specs.Kinds.{scope_as}

-- a scope, and the number of the one around it
pub record NumberedScope : Type 0 where
  pub scope : s.Scope
  pub outer : Option ℕ

-- what a scope of the table is
abbrev pub numbered_scope : Scope → NumberedScope
numbered_scope scope = record { scope = scope_as scope.kind scope.begins; outer = scope.outer }

-- a scope of this kind, whose node begins at a place, in the scope with a number
abbrev pub in_scope : (place around : ℕ) → ScopeKind → NumberedScope
in_scope place around kind = record { scope = scope_as kind place; outer = Some around }

-- from the scope with this number on outwards, the scopes of a table are these
abbrev pub AreAround : List NumberedScope → Option ℕ → List s.Scope → Type 0
AreAround scopes None [] = Unit {0}
AreAround scopes None (scope ∷ outer) = ⊥
AreAround scopes (Some number) [] = ⊥
AreAround scopes (Some number) (scope ∷ outer) =
    (x : NumberedScope) × (slice_get scopes number ≡ Some x) × (x.scope ≡ scope)
    × AreAround scopes x.outer outer

-- a name
abbrev pub name_as : NameKey → d.Name
name_as name = record { sym = name.sym.now; ctxt = name.ctxt }

-- what has a number in the one list has it in the other
abbrev pub KeepsNumbers : {X : Type 0} → List X → List X → Type 0
KeepsNumbers {X} old new =
    (number : ℕ) (x : X) → slice_get old number ≡ Some x → slice_get new number ≡ Some x
