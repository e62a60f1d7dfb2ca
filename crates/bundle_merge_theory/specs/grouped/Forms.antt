-- The nodes around an identifier before and after, by their forms alone.
use Rattle.std.specs.Prelude.{ℕ, Bool, true, false, List, [], ◌∷◌}
use Rattle.bundle_syntax.specs.Item as h
use Rattle.bundle_syntax.specs.Item.{Head}
use Rattle.bundle_rules.specs.Places.{Around}
use Rattle.bundle_rules.specs.Scopes.{Scope, Wrapper, Top, Inner}
use Rattle.bundle_merge_theory.specs.noted.Spots.{around_spot}

-- one is the path in an item that stands alone, the other that of the same item in a module; or
-- the two are the same but for what is spelled out
pub data FormAlike : List Around → List Around → Type 0 where
  outside : FormAlike [] []
  in_module : (b field : ℕ) → FormAlike [] (around_spot h.Module b field ∷ [])
  same : (head : Head) (b a field : ℕ) {p q : List Around} → FormAlike p q →
      FormAlike (around_spot head b field ∷ p) (around_spot head a field ∷ q)
  pair : (b a field : ℕ) {p q : List Around} → FormAlike (around_spot h.ObjectLit b field ∷ p) q →
      FormAlike (around_spot h.ObjectLit b field ∷ p) (around_spot h.KeyValueProp a 1 ∷ q)
  key : (b a : ℕ) {p q : List Around} → FormAlike p q →
      FormAlike (around_spot h.AssignPatProp b 0 ∷ p) (around_spot h.KeyValuePatProp a 1 ∷ q)
  defaulted : (b a outer field : ℕ) {p q : List Around} → FormAlike p q →
      FormAlike (around_spot h.AssignPatProp b field ∷ p) (around_spot h.AssignPat a field
      ∷ around_spot h.KeyValuePatProp outer 1 ∷ q)

-- the path in an item that stands alone, and that of the same item in a module
pub data Under : List Around → List Around → Type 0 where
  out : Under [] []
  below : (b field : ℕ) → Under [] (around_spot h.Module b field ∷ [])
  deeper : (head : Head) (b a field : ℕ) {p q : List Around} → Under p q →
      Under (around_spot head b field ∷ p) (around_spot head a field ∷ q)

-- whether the first of these scopes is the top of a module, or there is none
abbrev pub is_top_first : List Scope → Bool
is_top_first [] = true
is_top_first (Top ∷ outer) = true
is_top_first (Wrapper ∷ outer) = false
is_top_first (Inner kind begins ∷ outer) = false
