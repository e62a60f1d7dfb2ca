-- What a name that a module exports stands for (ECMA-262, 16.2.1.6.3 ResolveExport, and 16.2.1.10
-- for namespaces).
use Rattle.std.specs.Prelude.{◌≡◌, ◌≢◌, ℕ, ◌⊎◌, IsTrue, false, List, Option, Some, None, Contains, codes}
use Rattle.bundle_rules.specs.Nodes.{Text}
use Rattle.bundle_rules.specs.Statements.{default_name}
use Rattle.bundle_rules.specs.Entries.{Taken, Named, Whole, ImportEntry, ExportEntry, Local, Indirect, Star, RequireCall, imports_of, import_of, exports_of, has_own_entry, is_script}
use Rattle.bundle_rules.specs.Bound.{has_free, top_names}
use Rattle.bundle_rules.specs.Program.{Program, tree_of, resolves, is_external, calls_of, IsReached}

-- Kinds of modules.

-- a module requires another by a literal call
pub record Requires (p : Program) (m c : ℕ) : Type 0 where
  pub call : RequireCall
  pub stands : Contains (calls_of p m) call
  pub resolved : resolves p m call.specifier ≡ Some c

-- the module uses a name that CommonJS gives it
abbrev pub UsesCommonJs : Program → ℕ → Type 0
UsesCommonJs p m =
    IsTrue (has_free (tree_of p m) (codes "require"))
    ⊎ (IsTrue (has_free (tree_of p m) (codes "module"))
    ⊎ IsTrue (has_free (tree_of p m) (codes "exports")))

-- some reached module requires it
abbrev pub IsRequired : Program → ℕ → Type 0
IsRequired p m = (n : ℕ) × IsReached p n × Requires p n m

-- in this bundle the module is CommonJS: it is not the entry, it is a script, and it uses a name of
-- CommonJS or is required
pub record IsCommonJs (p : Program) (m : ℕ) : Type 0 where
  pub linked : IsTrue p.settings.require
  pub other : m ≢ p.entry
  pub script : IsTrue (is_script (tree_of p m))
  pub used : UsesCommonJs p m ⊎ IsRequired p m

-- Targets.

-- what a name can stand for: a declaration of a module; the namespace of a module; what is taken of
-- an external; what a module takes of a CommonJS module
pub data Target : Type 0 where
  Declared : (m : ℕ) (x : Text) → Target
  Namespace : (m : ℕ) → Target
  External : (specifier : Text) → Taken → Target
  CommonJs : (taker c : ℕ) → Taken → Target

-- in a module, the specifier is an ES module
pub record IsModule (p : Program) (m : ℕ) (s : Text) (d : ℕ) : Type 0 where
  pub resolved : resolves p m s ≡ Some d
  pub es : IsCommonJs p d → ⊥

-- `Takes p m s taken t`: what m takes by the specifier s is t, without a look at the exports of
-- another module
pub data Takes (p : Program) (m : ℕ) : Text → Taken → Target → Type 0 where
  -- of an external, any name or the whole
  of_external : {s : Text} {taken : Taken} →
      IsTrue (is_external p s) →
      Takes p m s taken (External s taken)
  -- of a CommonJS module, any property or the whole
  of_common_js : {s : Text} {taken : Taken} {c : ℕ} →
      resolves p m s ≡ Some c →
      IsCommonJs p c →
      Takes p m s taken (CommonJs m c taken)
  -- of an ES module, its namespace
  of_module : {s : Text} {d : ℕ} → IsModule p m s d → Takes p m s Whole (Namespace d)

-- the entries of a module
abbrev pub exports : Program → ℕ → List ExportEntry
exports p m = exports_of (tree_of p m)

-- the imports of a module
abbrev pub imports : Program → ℕ → List ImportEntry
imports p m = imports_of (tree_of p m)

-- a name bound by `import * as`, with the module that exports it as a local name
pub record Origin : Type 0 where
  pub which : ℕ
  pub local : Text

-- `Gives p m x t origin`: by its exports m gives the target t for the name x. The least such
-- relation: a cycle of entries gives nothing by itself
pub data Gives (p : Program) : ℕ → Text → Target → Option Origin → Type 0 where
  -- an entry of a name that m declares gives that declaration
  declaration : {m : ℕ} {x y : Text} →
      Contains (exports p m) (Local x y) →
      import_of (imports p m) y ≡ None →
      Gives p m x (Declared m y) None
  -- an entry of a name bound by `import * as` gives what that import takes, and goes with m and the
  -- name
  namespace_import : {m : ℕ} {x y : Text} {t : Target} (entry : ImportEntry) →
      Contains (exports p m) (Local x y) →
      import_of (imports p m) y ≡ Some entry →
      Takes p m entry.specifier entry.taken t →
      Gives p m x t (Some (record { which = m; local = y }))
  -- an indirect entry of an external, a CommonJS module or a whole namespace gives just that
  taken : {m : ℕ} {x s : Text} {what : Taken} {t : Target} →
      Contains (exports p m) (Indirect x s what) →
      Takes p m s what t →
      Gives p m x t None
  -- an indirect entry of a name of an ES module gives what that module gives
  given_on : {m d : ℕ} {x s y : Text} {t : Target} {origin : Option Origin} →
      Contains (exports p m) (Indirect x s (Named y)) →
      IsModule p m s d →
      Gives p d y t origin →
      Gives p m x t origin
  -- a star gives what the other module gives, but for `default` and for names of which m has an
  -- entry
  starred : {m d : ℕ} {x s : Text} {t : Target} {origin : Option Origin} →
      has_own_entry (tree_of p m) x ≡ false →
      x ≢ default_name →
      Contains (exports p m) (Star s) →
      IsModule p m s d →
      Gives p d x t origin →
      Gives p m x t origin

-- the name x of m is linked to t: one target with one origin is given, and it is t
pub record Linked (p : Program) (m : ℕ) (x : Text) (t : Target) : Type 0 where
  pub origin : Option Origin
  pub given : Gives p m x t origin
  pub only : (other : Target) (its : Option Origin) →
      Gives p m x other its →
      (other ≡ t) × (its ≡ origin)

-- the name x is linked in m
abbrev pub IsLinked : Program → ℕ → Text → Type 0
IsLinked p m x = (t : Target) × Linked p m x t

-- two that count as two are given: they differ in the target or in the origin
pub record IsAmbiguous (p : Program) (m : ℕ) (x : Text) : Type 0 where
  pub first : Target
  pub second : Target
  pub first_origin : Option Origin
  pub second_origin : Option Origin
  pub gives_first : Gives p m x first first_origin
  pub gives_second : Gives p m x second second_origin
  pub differ : (first ≢ second) ⊎ (first_origin ≢ second_origin)

-- no target is given
abbrev pub IsMissing : Program → ℕ → Text → Type 0
IsMissing p m x = (t : Target) (origin : Option Origin) → Gives p m x t origin → ⊥

-- `HasExternalStar p m s`: the external s is starred by m, or at the end of a finite chain of stars
-- from m
pub data HasExternalStar (p : Program) : ℕ → Text → Type 0 where
  own : {m : ℕ} {s : Text} →
      Contains (exports p m) (Star s) →
      IsTrue (is_external p s) →
      HasExternalStar p m s
  through : {m d : ℕ} {r s : Text} →
      Contains (exports p m) (Star r) →
      resolves p m r ≡ Some d →
      HasExternalStar p d s →
      HasExternalStar p m s

-- What a name at the top of a module stands for in the module.
pub data StandsFor (p : Program) (m : ℕ) : Text → Target → Type 0 where
  -- a name that is declared there
  declared : {x : Text} →
      Contains (top_names (tree_of p m)) x →
      import_of (imports p m) x ≡ None →
      StandsFor p m x (Declared m x)
  -- an imported name of an ES module: what it is linked to there
  imported : {x y : Text} {d : ℕ} {t : Target} (entry : ImportEntry) →
      import_of (imports p m) x ≡ Some entry →
      entry.taken ≡ Named y →
      IsModule p m entry.specifier d →
      Linked p d y t →
      StandsFor p m x t
  -- any other imported name: just what the import takes
  taken_whole : {x : Text} {t : Target} (entry : ImportEntry) →
      import_of (imports p m) x ≡ Some entry →
      Takes p m entry.specifier entry.taken t →
      StandsFor p m x t
