-- How own entries and stars by numbers stand for those of a program.
use Rattle.std.specs.Prelude.{◌≡◌, ◌↔◌, ℕ, true, false, List, Option, Some, None, Contains, slice_get}
use Rattle.bundle_rules.specs.Nodes.{Text}
use Rattle.bundle_rules.specs.Statements.{default_name}
use Rattle.bundle_rules.specs.Entries.{Taken, Named, ImportEntry, Local, Indirect, Star, import_of, has_own_entry}
use Rattle.bundle_rules.specs.Program.{Program, tree_of}
use Rattle.bundle_rules.specs.Linking.{exports, imports, Target, Declared, Takes, IsModule, Origin}
use Rattle.bundle_order_graph.specs.Walks.{Reaches}
use Rattle.bundle_link_index.specs.declared.links.OwnLink.TheVariants.{Gives, Leads}
use Rattle.bundle_link_index.specs.Graph.{Graph, own_of, stars_of}

-- a target with its origin
abbrev pub Value : Type 0
Value = Target × Option Origin

-- `OwnGives p m x t origin`: an own entry of m gives the target for the name x, without a look at
-- other modules
pub data OwnGives (p : Program) (m : ℕ) (x : Text) : Target → Option Origin → Type 0 where
  own_declaration : {y : Text} →
      Contains (exports p m) (Local x y) →
      import_of (imports p m) y ≡ None →
      OwnGives p m x (Declared m y) None
  own_namespace : {y : Text} {t : Target} (entry : ImportEntry) →
      Contains (exports p m) (Local x y) →
      import_of (imports p m) y ≡ Some entry →
      Takes p m entry.specifier entry.taken t →
      OwnGives p m x t (Some (record { which = m; local = y }))
  own_taken : {s : Text} {what : Taken} {t : Target} →
      Contains (exports p m) (Indirect x s what) →
      Takes p m s what t →
      OwnGives p m x t None

-- an own entry of m for the name x gives on what the module d gives for the name y
pub record OwnLeads (p : Program) (m : ℕ) (x : Text) (d : ℕ) (y : Text) : Type 0 where
  pub specifier : Text
  pub stands : Contains (exports p m) (Indirect x specifier (Named y))
  pub leads : IsModule p m specifier d

-- m stars the module d
pub record Stars (p : Program) (m d : ℕ) : Type 0 where
  pub specifier : Text
  pub stands : Contains (exports p m) (Star specifier)
  pub leads : IsModule p m specifier d

-- a chain of stars leads from one module to another
abbrev pub StarReaches : Program → ℕ → ℕ → Type 0
StarReaches p m d = Reaches (Stars p) m d

-- the graph stands for the program, where these are its names and values, each at its number
pub record IsLinkGraph
    (p : Program) (names : List Text) (values : List Value) (g : Graph) : Type 0 where
  pub gives : (m n v : ℕ) (x : Text) →
      slice_get names n ≡ Some x →
      own_of g (m, n) ≡ Some (Gives v) →
      (t : Target) × (origin : Option Origin) × (slice_get values v ≡ Some (t, origin))
      × OwnGives p m x t origin
  pub gave : (m n : ℕ) (x : Text) (t : Target) (origin : Option Origin) →
      slice_get names n ≡ Some x →
      OwnGives p m x t origin →
      (v : ℕ) × (slice_get values v ≡ Some (t, origin)) × (own_of g (m, n) ≡ Some (Gives v))
  pub leads : (m n d k : ℕ) (x : Text) →
      slice_get names n ≡ Some x →
      own_of g (m, n) ≡ Some (Leads (d, k)) →
      (y : Text) × (slice_get names k ≡ Some y) × OwnLeads p m x d y
  pub led_on : (m n d : ℕ) (x y : Text) →
      slice_get names n ≡ Some x →
      OwnLeads p m x d y →
      (k : ℕ) × (slice_get names k ≡ Some y) × (own_of g (m, n) ≡ Some (Leads (d, k)))
  pub none : (m n : ℕ) (x : Text) →
      slice_get names n ≡ Some x →
      (own_of g (m, n) ≡ None) ↔ (has_own_entry (tree_of p m) x ≡ false)
  pub stars : (m d : ℕ) → Contains (stars_of g m) d ↔ Stars p m d
  pub default : slice_get names g.default ≡ Some default_name
  -- each name and each value has one number, and each name of an entry has one
  pub one_name : (a b : ℕ) (x : Text) →
      slice_get names a ≡ Some x →
      slice_get names b ≡ Some x →
      a ≡ b
  pub one_value : (a b : ℕ) (value : Value) →
      slice_get values a ≡ Some value →
      slice_get values b ≡ Some value →
      a ≡ b
  pub all_names : (m : ℕ) (x : Text) →
      has_own_entry (tree_of p m) x ≡ true →
      (n : ℕ) × (slice_get names n ≡ Some x)
