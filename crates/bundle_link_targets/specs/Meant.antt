-- What the uses of imported names mean, and what is meant by them.
use Rattle.std.specs.Prelude.{◌≡◌, ◌⊎◌, ℕ, zero, suc, true, false, List, ◌∷◌, Some, None, Contains, slice_get}
use Rattle.bundle_syntax.specs.Item as h
use Rattle.bundle_syntax.specs.Item.{Item, Head}
use Rattle.bundle_rules.specs.Places.{Around, path_at, Occurrence, occurrence_at}
use Rattle.bundle_rules.specs.Nodes.{Text}
use Rattle.bundle_rules.specs.Statements.{Element, taken, written, own_statements, default_name}
use Rattle.bundle_rules.specs.Entries.{imports_of, import_of}
use Rattle.bundle_rules.specs.Program.{Program, tree_of, IsReached}
use Rattle.bundle_rules.specs.Linking.{Target, Declared, Namespace, External, CommonJs, Linked, StandsFor}
use Rattle.bundle_rules.specs.Reads.{read_word}
use Rattle.bundle_rules.specs.Meaning.{is_meta_at}
use Rattle.bundle_tree_places.specs.Stated.{is_in_statement}
use Rattle.bundle_link_tables.specs.Used.{UseEntry, uses_of}

-- no more of these words is a linked name of a namespace
abbrev pub EndsReads : Program → Target → List Text → Type 0
EndsReads p t words =
    (d : ℕ) (x : Text) (rest : List Text) (u : Target) →
    t ≡ Namespace d →
    words ≡ x ∷ rest →
    Linked p d x u →
    ⊥

-- `ReadsOn p t words n u`: reads of these words from t on, as many as are linked names of a
-- namespace in turn, mean u; they are n
pub data ReadsOn (p : Program) : Target → List Text → ℕ → Target → Type 0 where
  done : {t : Target} {words : List Text} → EndsReads p t words → ReadsOn p t words zero t
  on : {d n : ℕ} {x : Text} {words : List Text} {t u : Target} →
      Linked p d x t →
      ReadsOn p t words n u →
      ReadsOn p (Namespace d) (x ∷ words) (suc n) u

-- a name in m with reads of these words around it means the target, with so many of the reads
pub record WordsMean
    (p : Program) (m : ℕ) (x : Text) (words : List Text) (n : ℕ) (t : Target) : Type 0 where
  pub named : Target
  pub stands : StandsFor p m x named
  pub reads : ReadsOn p named words n t

-- the same of a use
abbrev pub UseMeans : Program → ℕ → UseEntry → ℕ → Target → Type 0
UseMeans p m its n t = WordsMean p m its.local its.words n t

-- one of these uses means the target
abbrev pub AnyMeans : Program → ℕ → List UseEntry → Target → Type 0
AnyMeans p m uses t = (its : UseEntry) × Contains uses its × ((n : ℕ) × UseMeans p m its n t)

-- a name of m is linked to the target
pub record LinksTo (p : Program) (m : ℕ) (t : Target) : Type 0 where
  pub name : Text
  pub linked : Linked p m name t

-- the least set of targets that has what uses in reached modules mean, what the entry's names are
-- linked to, and what the names of each namespace in it are linked to
pub data IsTargetTaken (p : Program) : Target → Type 0 where
  by_use : {m n : ℕ} {its : UseEntry} {t : Target} →
      IsReached p m →
      Contains (uses_of (tree_of p m)) its →
      UseMeans p m its n t →
      IsTargetTaken p t
  by_entry : {x : Text} {t : Target} → Linked p p.entry x t → IsTargetTaken p t
  by_names : {d : ℕ} {x : Text} {t : Target} →
      IsTargetTaken p (Namespace d) →
      Linked p d x t →
      IsTargetTaken p t

-- a target that is no declaration
abbrev pub IsShared : Target → Type 0
IsShared (Declared m x) = ⊥
IsShared (Namespace m) = Unit {0}
IsShared (External s its) = Unit {0}
IsShared (CommonJs m c its) = Unit {0}

-- a node that begins at a place is around another
pub record Encloses (tree : List Item) (begins place : ℕ) : Type 0 where
  pub node : Around
  pub around : Contains (path_at tree place) node
  pub here : node.begins ≡ begins

-- a place is that of the name, or begins a node around it
abbrev pub IsAtOrAround : List Item → ℕ → ℕ → Type 0
IsAtOrAround tree begins place = (begins ≡ place) ⊎ Encloses tree begins place

-- an element of an own statement stands at the place; at one where a node begins it begins a node
-- too
pub record StandsAt (tree : List Item) (place : ℕ) : Type 0 where
  pub statement : List Element
  pub element : Item
  pub own : Contains (own_statements tree) statement
  pub stands : Contains statement (taken place element)
  pub opens : (field : ℕ) (head : Head) →
      slice_get tree place ≡ Some (h.Open field head) →
      (f : ℕ) × (other : Head) × (element ≡ h.Open f other)

-- names stand in a tree as in that of each module
pub record IsModuleTree (tree : List Item) : Type 0 where
  -- in an own statement exactly where a top item around them states something
  pub stated : (place begins : ℕ) (o : Occurrence) (statement : List Element) (e : Item) →
      occurrence_at tree place ≡ Some o →
      IsAtOrAround tree begins place →
      Contains (own_statements tree) statement →
      Contains statement (taken begins e) →
      is_in_statement (path_at tree place) ≡ true
  pub stands : (place begins : ℕ) (o : Occurrence) →
      occurrence_at tree place ≡ Some o →
      is_in_statement (path_at tree place) ≡ true →
      (begins ≡ place)
      ⊎ (Encloses tree begins place × ((x : Text) × (read_word tree begins ≡ Some x))) →
      StandsAt tree begins
  -- in no `import.meta`
  pub meta : (place begins : ℕ) (o : Occurrence) →
      occurrence_at tree place ≡ Some o →
      Encloses tree begins place →
      is_meta_at (slice_get tree begins) ≡ false
  -- of a read, only in what it reads of
  pub read : (place begins : ℕ) (o : Occurrence) (x : Text) →
      occurrence_at tree place ≡ Some o →
      read_word tree begins ≡ Some x →
      Encloses tree begins place →
      IsAtOrAround tree (suc begins) place

-- a module that declares `default` without a name binds it by no import too
pub record DeclaresDefaultOnce (p : Program) : Type 0 where
  pub unbound : (m : ℕ) (statement : List Element) (e : Item) →
      Contains (own_statements (tree_of p m)) statement →
      Contains statement (written e) →
      import_of (imports_of (tree_of p m)) default_name ≡ None

-- the trees of a program are those of modules, none of which declares `default` twice
pub record AreModules (p : Program) : Type 0 where
  pub trees : (m : ℕ) → IsModuleTree (tree_of p m)
  pub once : DeclaresDefaultOnce p
