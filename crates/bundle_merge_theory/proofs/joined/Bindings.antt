-- The scope and the context of what is denoted; and a binding is no global.
-- What a list of two parts or of none holds, handed on from the crate that finds the needs of
-- items.
use Rattle.std.proofs.Common.{◌≡◌, ℕ, List}
use Rattle.bundle_rules.specs.Scopes.{Scope, Top}
use Rattle.bundle_rules.specs.Declarations.{Name}
use Rattle.bundle_rules.specs.Denotes.{Denoted, Bound, Global}
pub use Rattle.bundle_order.proofs.ProvideLemmas.{Contains-cons, Contains-none}

-- ---- bindings

-- the scope of a binding; that of a global does not matter
abbrev pub scope_in : Denoted → Scope
scope_in (Bound scope name) = scope
scope_in (Global x) = Top

pub bound-global : {scope : Scope} {name : Name} {x : List ℕ} → Bound scope name ≡ Global x → ⊥
bound-global same = cc

-- ---- tops
