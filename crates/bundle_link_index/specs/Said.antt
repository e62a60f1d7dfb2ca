-- What the entries of a module say, where its specifiers lead somewhere, and numbers that stand for
-- it.
use Rattle.std.specs.Prelude.{◌≡◌, ◌⊎◌, ◌↔◌, ℕ, true, false, IsTrue, List, Option, Some, None, Contains, slice_get}
use Rattle.bundle_rules.specs.Nodes.{Text}
use Rattle.bundle_rules.specs.Statements.{default_name}
use Rattle.bundle_rules.specs.Entries.{Taken, Named, Whole, ImportEntry, ExportEntry, Local, Indirect, Star, import_of, is_named}
use Rattle.bundle_rules.specs.Program.{Program, resolves, is_external}
use Rattle.bundle_rules.specs.Linking.{exports, imports, Target, Declared, Namespace, External, CommonJs, IsModule, IsCommonJs, Origin}
use Rattle.bundle_link_index.specs.declared.links.OwnLink.{OwnLink}
use Rattle.bundle_link_index.specs.declared.links.OwnLink.TheVariants.{Gives, Leads, Nothing}
use Rattle.bundle_link_index.specs.Graph.{Graph, own_of, stars_of}
use Rattle.bundle_link_index.specs.Linked.{Value}

-- where a specifier of a module leads: to an external, to an ES module, to a CommonJS module, or to
-- nothing
pub data Lead : Type 0 where
  Outside : Lead
  ToModule : (d : ℕ) → Lead
  ToCommonJs : (c : ℕ) → Lead
  Nowhere : Lead

-- it leads there in the program
abbrev pub LeadsIn : Program → ℕ → Text → Lead → Type 0
LeadsIn p m s Outside = IsTrue (is_external p s)
LeadsIn p m s (ToModule d) = IsModule p m s d
LeadsIn p m s (ToCommonJs c) = (resolves p m s ≡ Some c) × IsCommonJs p c
LeadsIn p m s Nowhere = (is_external p s ≡ false) × (resolves p m s ≡ None)

-- what an entry says: it gives a target, it gives what another module gives for a name, or it gives
-- nothing
pub data Said : Type 0 where
  It : Target → Option Origin → Said
  On : (d : ℕ) → Text → Said
  Naught : Said

-- what m takes by a specifier that leads there
abbrev pub said_by : ℕ → Text → Option Origin → Taken → Lead → Said
said_by m s origin taken Outside = It (External s taken) origin
said_by m s origin taken (ToCommonJs c) = It (CommonJs m c taken) origin
said_by m s origin taken Nowhere = Naught
said_by m s origin Whole (ToModule d) = It (Namespace d) origin
said_by m s origin (Named y) (ToModule d) = On d y

-- only a target
abbrev pub target_only : Said → Said
target_only (It t origin) = It t origin
target_only (On d y) = Naught
target_only Naught = Naught

-- what a name of the module's own gives, where this import binds it, or none
abbrev pub said_local : (Text → Lead) → ℕ → Text → Option ImportEntry → Said
said_local lead m y None = It (Declared m y) None
said_local lead m y (Some entry) =
    target_only
    (said_by m entry.specifier (Some (record { which = m; local = y })) entry.taken
    (lead entry.specifier))

-- what an entry of m says, where these are its imports
abbrev pub said_of : (Text → Lead) → ℕ → List ImportEntry → ExportEntry → Said
said_of lead m imports (Local x y) = said_local lead m y (import_of imports y)
said_of lead m imports (Indirect x s taken) = said_by m s None taken (lead s)
said_of lead m imports (Star s) = Naught

-- the number stands for it
abbrev pub IsSaidNumber : List Text → List Value → Said → OwnLink → Type 0
IsSaidNumber names values (It t origin) (Gives v) = slice_get values v ≡ Some (t, origin)
IsSaidNumber names values (On d y) (Leads next) = (next.0 ≡ d) × (slice_get names next.1 ≡ Some y)
IsSaidNumber names values Naught Nothing = Unit {0}
IsSaidNumber names values _ _ = ⊥

-- what stands by numbers for the entry of a name
pub record EntryAt
    (p : Program) (lead : ℕ → Text → Lead) (names : List Text) (values : List Value) (g : Graph)
    (m n : ℕ) (x : Text) : Type 0 where
  pub entry : ExportEntry
  pub stands : Contains (exports p m) entry
  pub named : is_named x entry ≡ true
  pub own : OwnLink
  pub noted : own_of g (m, n) ≡ Some own
  pub number : IsSaidNumber names values (said_of (lead m) m (imports p m) entry) own

-- what is made of the tables of a program, where its specifiers lead so
pub record AreNumbers
    (p : Program) (lead : ℕ → Text → Lead) (names : List Text) (values : List Value)
    (g : Graph) : Type 0 where
  pub entries : (m n : ℕ) (x : Text) → slice_get names n ≡ Some x
      → EntryAt p lead names values g m n x
      ⊎ ((own_of g (m, n) ≡ None)
      × ((entry : ExportEntry) → Contains (exports p m) entry → is_named x entry ≡ true → ⊥))
  pub stars : (m d : ℕ) →
      Contains (stars_of g m) d
      ↔ ((s : Text) × Contains (exports p m) (Star s) × (lead m s ≡ ToModule d))
  pub default : slice_get names g.default ≡ Some default_name
  pub one_name : (a b : ℕ) (x : Text) →
      slice_get names a ≡ Some x →
      slice_get names b ≡ Some x →
      a ≡ b
  pub one_value : (a b : ℕ) (value : Value) →
      slice_get values a ≡ Some value →
      slice_get values b ≡ Some value →
      a ≡ b
  pub all_names : (m : ℕ) (entry : ExportEntry) (x : Text) →
      Contains (exports p m) entry →
      is_named x entry ≡ true →
      (n : ℕ) × (slice_get names n ≡ Some x)

-- its specifiers lead so
abbrev pub AreLeads : Program → (ℕ → Text → Lead) → Type 0
AreLeads p lead = (m : ℕ) (s : Text) → LeadsIn p m s (lead m s)

-- no module has two entries of a name
abbrev pub HasEachOnce : Program → Type 0
HasEachOnce p =
    (m : ℕ) (x : Text) (a b : ExportEntry) →
    Contains (exports p m) a →
    Contains (exports p m) b →
    is_named x a ≡ true →
    is_named x b ≡ true →
    a ≡ b
