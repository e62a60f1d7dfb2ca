-- The contexts that the linker gives to the names of a CommonJS module: the local one to those of
-- the top and of the wrapper, one for each inner scope, and 1 to globals.
use Rattle.std.specs.Prelude.{◌≡◌, ◌≢◌, ℕ, ◌+◌, ◌⊎◌, false, List, Some, slice_get, codes}
use Rattle.bundle_syntax.specs.Item.{Item}
use Rattle.bundle_rules.specs.Scopes.{Cjs, Scope, ScopeKind, Wrapper, Top, Inner, scope_order}
use Rattle.bundle_rules.specs.Declarations.{BySymbol, Name, names_agree}
use Rattle.bundle_rules.specs.Denotes.{Bound, denotations}
use Rattle.bundle_rules.specs.Idents.{Ident}
use Rattle.bundle_rules.specs.Linking.{Declared as IsDeclared}
use Rattle.bundle_rules.specs.Meaning.{Label, Of, Parameter}
use Rattle.bundle_scope_names.proofs.Numbering.{Numbering}
use Rattle.bundle_scope_names.proofs.FoundLemmas.{with}

pub record GivesLocal (local : ℕ) (g : Numbering) (tree : List Item) (load : Name) : Type 0 where
  pub top : (x : List ℕ) → g 1 x ≡ local
  pub wrapper : (x : List ℕ) → g 0 x ≡ local
  pub local_own : local ≢ 1
  pub inner_own : (i : ℕ) (kind : ScopeKind) (a : ℕ) (m : Name) →
      slice_get (denotations BySymbol Cjs tree) i ≡ Some (Bound (Inner kind a) m) →
      (g (a + 2) m.sym ≢ 1) × (g (a + 2) m.sym ≢ local)
  pub inner_one : (i j : ℕ) (kind other : ScopeKind) (a b : ℕ) (m n : Name) →
      slice_get (denotations BySymbol Cjs tree) i ≡ Some (Bound (Inner kind a) m) →
      slice_get (denotations BySymbol Cjs tree) j ≡ Some (Bound (Inner other b) n) →
      g (a + 2) m.sym ≡ g (b + 2) n.sym → a ≡ b
  pub not_load : (i : ℕ) (s : Scope) (m : Name) →
      slice_get (denotations BySymbol Cjs tree) i ≡ Some (Bound s m) →
      names_agree load (with m.sym (g (scope_order s) m.sym)) ≡ false
  pub load_other : (x : List ℕ) → names_agree load (with x 1) ≡ false

-- which identifiers stand for what in the load function of module c: names of the top for what the
-- module declares, and the names of the wrapper, and the parameters, for its parameters
pub data OwnEntry (c : ℕ) (g : Numbering) (tree : List Item) : Ident → Label → Type 0 where
  top_entry : (i : ℕ) (m : Name) →
      slice_get (denotations BySymbol Cjs tree) i ≡ Some (Bound Top m) →
      OwnEntry c g tree (m.sym, g 1 m.sym) (Of (IsDeclared c m.sym))
  wrapper_entry : (i : ℕ) (m : Name) →
      slice_get (denotations BySymbol Cjs tree) i ≡ Some (Bound Wrapper m) →
      OwnEntry c g tree (m.sym, g 0 m.sym) (Parameter c m.sym)
  parameter_entry : (x : List ℕ) → (x ≡ codes "module") ⊎ (x ≡ codes "exports") →
      OwnEntry c g tree (x, g 0 x) (Parameter c x)
