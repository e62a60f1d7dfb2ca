-- A statement of a module and what a walk makes of it: which nodes go where, and which names are
-- made of which.
use Rattle.std.specs.Prelude.{◌≡◌, ℕ, suc, ◌+◌, ◌≤◌, ◌<◌, ◌⊎◌, ◌==◌, false, true, cond, List, [], ◌∷◌, ◌++◌, Option, Some, ⊤, length}
use Rattle.std.specs.List.{AllZip}
use Rattle.bundle_syntax.specs.declared.piece.Role.TheVariants.{Binding}
use Rattle.bundle_syntax.specs.Item as h
use Rattle.bundle_syntax.specs.Item.{Item}
use Rattle.bundle_rules.specs.Places.{Around, Spot, in_field, Occurrence, occurrences_from, is_binding}
use Rattle.bundle_rules.specs.Scopes.{Es, Top, block_kind, is_default, scopes_around}
use Rattle.bundle_rules.specs.Declarations.{Way, Name, Declared, heads_loop, way_of_declarator, way_of}
use Rattle.bundle_rules.specs.Homes.{home_of}
use Rattle.bundle_rules.specs.Idents.{Ident, ident_of}
use Rattle.bundle_tree_rebuild.specs.Work.{Step}
use Rattle.bundle_scope_names.proofs.Numbering.{is_identified}
use Rattle.bundle_merge_theory.specs.noted.Stated.{declares_default}
use Rattle.bundle_rules.specs.Meaning.{Meant}
use Rattle.bundle_merge_theory.specs.noted.Marked.{Note}
use Rattle.bundle_merge_theory.specs.walked.Keeps.{MeantIdent, ByStep, ByMeta}
use Rattle.bundle_merge_theory.specs.joined.Alike.{ScopesAlike}
use Rattle.bundle_merge_theory.specs.composed.Noted.{first_spot}

-- Places.

-- the place of a node, and that of the node that is made of it
abbrev pub Pairs : Type 0
Pairs = List (ℕ × ℕ)

-- one of these
abbrev pub Paired : Pairs → ℕ → ℕ → Type 0
Paired [] a b = ⊥
Paired (pair ∷ rest) a b = ((a ≡ pair.0) × (b ≡ pair.1)) ⊎ Paired rest a b

-- they come in order on both sides, from these places on
abbrev pub Rise : ℕ → ℕ → Pairs → Type 0
Rise low other [] = ⊤
Rise low other (pair ∷ rest) =
    (low ≤ pair.0) × (other ≤ pair.1) × Rise (suc pair.0) (suc pair.1) rest

-- and end before these places
abbrev pub Below : ℕ → ℕ → Pairs → Type 0
Below high other [] = ⊤
Below high other (pair ∷ rest) = (pair.0 < high) × (pair.1 < other) × Below high other rest

-- where a node comes from
abbrev pub origin : Pairs → ℕ → ℕ
origin [] b = 0
origin (pair ∷ rest) b = cond (b == pair.1) pair.0 (origin rest b)

-- Nodes around.

-- the nodes around a place and those around another make the same of what stands there
pub record PathsBeside (R : ℕ → ℕ → Type 0) (ps qs : List Around) : Type 0 where
  pub block : block_kind qs ≡ block_kind ps
  pub default : is_default qs ≡ is_default ps
  pub loop : heads_loop qs ≡ heads_loop ps
  pub declarator : way_of_declarator qs ≡ way_of_declarator ps
  pub way : (w : Way) → way_of ps ≡ Some w → way_of qs ≡ Some w
  pub scopes : AllZip (ScopesAlike R) (scopes_around Es ps) (scopes_around Es qs)

abbrev pub SpotsBeside : (ℕ → ℕ → Type 0) → Spot → Spot → Type 0
SpotsBeside R s t = (field : ℕ) → PathsBeside R (in_field field s.path) (in_field field t.path)

-- Names.

-- a name that is made of another by its step
pub record MadeOf (R : ℕ → ℕ → Type 0) (o u : Occurrence) (step : Step) : Type 0 where
  pub ident : ident_of u ≡ step.ident
  pub role : u.role ≡ o.role
  pub way : (w : Way) → is_binding o.role ≡ true → way_of o.path ≡ Some w → way_of u.path ≡ Some w
  pub scopes : AllZip (ScopesAlike R) (scopes_around Es o.path) (scopes_around Es u.path)

-- names with their steps, and what is made of them: in turn, but for names that are added for
-- `import.meta`
pub data AllMade (R : ℕ → ℕ → Type 0) (meta : Option Ident) :
    List Occurrence → List Step → List Occurrence → Type 0 where
  done : AllMade R meta [] [] []
  made : {o u : Occurrence} {step : Step} {os us : List Occurrence} {steps : List Step} →
      MadeOf R o u step →
      AllMade R meta os steps us →
      AllMade R meta (o ∷ os) (step ∷ steps) (u ∷ us)
  added : {u : Occurrence} {os us : List Occurrence} {steps : List Step} →
      is_binding u.role ≡ false →
      meta ≡ Some (ident_of u) →
      AllMade R meta os steps us →
      AllMade R meta os steps (u ∷ us)

-- Statements.

-- the name of a default that has none of its own, where an item declares it
pub record IsFront (default : Ident) (u : Occurrence) : Type 0 where
  pub ident : ident_of u ≡ default
  pub role : u.role ≡ Binding
  pub way : Way
  pub way_is : way_of u.path ≡ Some way
  pub known : is_identified way ≡ true
  pub home : (all : List Declared) (place : ℕ) (name : Name) →
      home_of all (record { place = place; name = name; by = way; scopes = Top ∷ [] }) ≡ Top
  pub scopes : scopes_around Es u.path ≡ Top ∷ []

-- what stands in front of the names of a statement
pub data AreFront (default : Ident) (given : List Item) : List Occurrence → Type 0 where
  no_front : declares_default given ≡ false → AreFront default given []
  one_front : {u : Occurrence} →
      declares_default given ≡ true →
      IsFront default u →
      AreFront default given (u ∷ [])

-- the spot of a top item of a module
abbrev pub top_spot : ℕ → ℕ → Spot
top_spot place field =
    record {
      place = place;
      path = record { head = h.Module; begins = 0; field = field } ∷ [];
    }

-- a statement that stands at this spot, and what it becomes: its nodes, and its names
pub record StatedBeside (s : Spot) (steps : List Step) (meta : Option Ident) (default : Ident)
    (given item : List Item) (low high : ℕ) : Type 0 where
  pub pairs : Pairs
  pub rise : Rise s.place 1 pairs
  pub below : Below (s.place + length given) (1 + length item) pairs
  -- they are of what is stated
  pub tight : (a b : ℕ) → Paired pairs a b → (low ≤ a) × (a < high)
  pub front : List Occurrence
  pub are_front : AreFront default given front
  pub rest : List Occurrence
  pub are : occurrences_from first_spot item ≡ front ++ rest
  pub all : AllMade (Paired pairs) meta (occurrences_from s given) steps rest

-- Entries.

-- names with their steps and notes, the entries of these, and what is made of the names, one beside
-- the other
pub data Aligned (R : ℕ → ℕ → Type 0) (meta : Option Ident) (means : Option Meant) :
    List Occurrence → List Step → List Note → List MeantIdent → List Occurrence → Type 0 where
  al_done : Aligned R meta means [] [] [] [] []
  al_step : {o u : Occurrence} {step : Step} {note : Note} {os us : List Occurrence}
      {steps : List Step} {notes : List Note} {entries : List MeantIdent} →
      MadeOf R o u step →
      Aligned R meta means os steps notes entries us →
      Aligned R meta means (o ∷ os) (step ∷ steps) (note ∷ notes) (ByStep step note ∷ entries)
      (u ∷ us)
  al_meta : {u : Occurrence} {ident : Ident} {meant : Meant} {os us : List Occurrence}
      {steps : List Step} {notes : List Note} {entries : List MeantIdent} →
      is_binding u.role ≡ false →
      ident ≡ ident_of u →
      meta ≡ Some ident →
      means ≡ Some meant →
      Aligned R meta means os steps notes entries us →
      Aligned R meta means os steps notes (ByMeta ident meant ∷ entries) (u ∷ us)

-- no step leads to this identifier
abbrev pub NoStepLeads : Option Ident → List Step → Type 0
NoStepLeads meta [] = ⊤
NoStepLeads meta (step ∷ steps) = (meta ≡ Some step.ident → ⊥) × NoStepLeads meta steps
