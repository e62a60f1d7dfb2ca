-- What is promised of a whole call. These are statements, over the values that the call takes and
-- gives; its contract cites them.
use Rattle.std.specs.Prelude.{◌≡◌, ◌≢◌, ℕ, ◌<◌, ◌⊎◌, flat_map, true, List, [], ◌∷◌, ◌++◌, Some, None, slice_get, map, if◌then◌else◌}
use Rattle.std.specs.List.{AllZip}
use Rattle.bundle_syntax.specs.Item.{Item}
use Rattle.bundle_rules.specs.Scopes.{Es}
use Rattle.bundle_rules.specs.Declarations.{Reading, BySymbol, ByContext}
use Rattle.bundle_rules.specs.Doubled.{first_doubled}
use Rattle.bundle_tree_names.specs.FileName.{Name as FileName}
use Rattle.bundle_order_graph.specs.Walks.{Reaches}
use Rattle.bundle_rules.specs.Nodes.{Text}
use Rattle.bundle_rules.specs.Cleared.{cleared, tidied}
use Rattle.bundle_rules.specs.Entries.{Settings}
use Rattle.bundle_rules.specs.Program.{Program, file_of, IsReached, IsList, Requests}
use Rattle.bundle_rules.specs.Kept.{Kept, Stays}
use Rattle.bundle_rules.specs.Bundle.{Form, AsModule, AsCall, form_of, IsBundle, Cause, Helps, HoldsNamespace, Stars, Exports, IsDue, Chosen, import_causes, externals, module_causes, Pairing, IsLaidOut}
use Rattle.bundle_rules.specs.Faults.{Fault, ContextsUsedUp, Parties, IsFaultlessProgram, NeedsTooManyContexts, IsNamedForContexts, first_context}
use Rattle.bundle_rules.specs.Judging.{Entry, files_of, Grows, IsProgramOf, AcceptsProgram, Completes, Refuses, Stops}
use Rattle.bundle_rules.specs.Forms.{wrapped}
use Rattle.bundle_rules.specs.Callable.{CanBeCalled, StatesNoExports}
use Rattle.bundle_rules.specs.Merged.{HasRightNames}

-- what a bundle is made for: an entry, under the name that it was asked for; a module that is
-- loaded by a call of `import`; a module that several bundles share
pub data BundleKind : Type 0 where
  Named : (name : Text) → BundleKind
  Dynamic : BundleKind
  Lib : (name : Text) → BundleKind

-- a bundle that is handed out
pub record Bundled : Type 0 where
  pub kind : BundleKind
  pub id : ℕ
  pub tree : List Item

-- what a call answers: bundles; a fault; or that a growth was refused
pub data Answer : Type 0 where
  Bundles : List Bundled → Answer
  Refusal : Fault → Answer
  NoMemory : Answer

-- how names are told apart in a bundle: by symbol where it is renamed, else by symbol and context
abbrev pub reading_of : Settings → Reading
reading_of settings = if settings.renames then BySymbol else ByContext

-- nothing of the linker's own is left: no notes and, where it is renamed, no contexts; else none
-- but those of bindings and references
abbrev pub IsClean : Settings → List Item → Type 0
IsClean settings tree = tree ≡ (if settings.renames then cleared tree else tidied tree)

-- the bundle of an entry, over what is kept: of the kind that is named, with its name, the number
-- of its file, and a tree that is a bundle of the entry's program, which has no fault, with right
-- names; where it is renamed no name is declared twice
pub record IsBundleOf
    (parties : Parties) (settings : Settings) (kept : Kept) (bundled : Bundled)
    (entry : Entry) : Type 0 where
  pub its_kind : bundled.kind ≡ Named entry.name
  pub p : Program
  pub its_program : IsProgramOf kept settings entry p
  pub its_id : bundled.id ≡ p.entry
  pub accepted : AcceptsProgram p parties
  pub clean : IsClean settings bundled.tree
  pub undoubled : settings.renames ≡ true → first_doubled Es bundled.tree ≡ None
  pub is_bundle : IsBundle p parties.hooks (form_of settings) (reading_of settings) bundled.tree
  pub names : HasRightNames p parties.hooks bundled.tree

-- contexts do not suffice for one of the programs: all that the entries reach is kept, the programs
-- before are accepted, and so is this one; that may be told wherever the counted sum is above the
-- last context, and names some reached module that gets contexts of its own, or the entry
pub record IsContextsFault
    (parties : Parties) (settings : Settings) (entries : List Entry) (old kept : Kept)
    (fault : Fault) : Type 0 where
  pub completes : Completes parties settings entries old kept
  pub i : ℕ
  pub entry : Entry
  pub there : slice_get entries i ≡ Some entry
  pub accepted_before : (j : ℕ) (other : Entry) (its : Program) →
      j < i →
      slice_get entries j ≡ Some other →
      IsProgramOf kept settings other its →
      AcceptsProgram its parties
  pub p : Program
  pub its_program : IsProgramOf kept settings entry p
  pub accepted : AcceptsProgram p parties
  pub m : ℕ
  pub named : IsNamedForContexts p parties.hooks m
  pub file : FileName
  pub its_file : file_of p m ≡ Some file
  pub is : fault ≡ ContextsUsedUp file
  pub too_many : NeedsTooManyContexts p parties.hooks (first_context p)

-- what an answer says: bundles come one for each entry, in their order, and each is right; a
-- refusal tells of the first fault, or of contexts that do not suffice; where a growth is refused,
-- what is kept is what was kept on the way there
abbrev pub IsRight : Parties → Settings → List Entry → Kept → Answer → Kept → Type 0
IsRight parties settings entries old (Bundles bundles) new =
    Completes parties settings entries old new
    × AllZip (IsBundleOf parties settings new) bundles entries
IsRight parties settings entries old (Refusal fault) new =
    Refuses parties settings entries old fault new
    ⊎ IsContextsFault parties settings entries old new fault
IsRight parties settings entries old NoMemory new = Stops parties settings entries old new

-- THE HEADLINE: for each list of entries, settings and parties, what a call answers is right, and
-- what is kept only grows, by answers of the parties to requests of what was met, none of them
-- answered before
pub record IsHeadline
    (parties : Parties) (settings : Settings) (entries : List Entry) (old : Kept) (answer : Answer)
    (new : Kept) : Type 0 where
  pub right : IsRight parties settings entries old answer new
  pub grows : Grows parties.answers settings (files_of entries) old new
  pub stays : Stays old new

-- corollary: with no fault and no refused growth there are bundles; no fault need be excluded but
-- those for what is kept afterwards
abbrev pub AnswersWhereFaultless : Parties → Settings → List Entry → Kept → Answer → Kept → Type 0
AnswersWhereFaultless parties settings entries old answer new =
    ((fault : Fault) → Refuses parties settings entries old fault new → ⊥) →
    ((fault : Fault) → IsContextsFault parties settings entries old new fault → ⊥) →
    answer ≢ NoMemory →
    (bundles : List Bundled) × (answer ≡ Bundles bundles)

-- an empty list of entries is answered by no bundle, and nothing changes
pub record AnswersNothing (old : Kept) (answer : Answer) (new : Kept) : Type 0 where
  pub none : answer ≡ Bundles []
  pub same : new ≡ old

-- corollary: one function's call keeps bundles, where that form is asked for, the program has no
-- fault and no statement of its own that is a list of exports, and the bundle is a module that can
-- be called
abbrev pub CallingKeepsBundles : Parties → Program → Type 0
CallingKeepsBundles parties p =
    (reading : Reading) (tree : List Item) →
    form_of p.settings ≡ AsCall →
    IsFaultlessProgram p →
    StatesNoExports p →
    CanBeCalled reading tree →
    IsBundle p parties.hooks AsModule reading tree →
    IsBundle p parties.hooks AsCall reading (wrapped tree)

-- no two reached modules reach each other, and none requests itself
abbrev pub IsAcyclic : Program → Type 0
IsAcyclic p = (m n : ℕ) → IsReached p m → Requests p m n → Reaches (Requests p) n m → ⊥

-- what may stand in a bundle, with the modules in the order of a list
abbrev pub causes_in_order : Program → List ℕ → List Cause
causes_in_order p list =
    flat_map import_causes (externals p list)
    ++ Helps
    ∷ (flat_map (λ m. module_causes p m ++ HoldsNamespace m ∷ []) list
    ++ map Stars (externals p list) ++ Exports ∷ [])

-- corollary: without cycles, and with them where the standard's order is asked for, modules stand
-- in post-order of requests, and each module's items in their order
abbrev pub StandsInPostOrder : Program → Form → Reading → List Item → Type 0
StandsInPostOrder p form reading tree =
    (pairing : Pairing) (list : List ℕ) →
    IsAcyclic p ⊎ (p.settings.in_standard_order ≡ true) →
    IsList p list →
    IsLaidOut p form reading tree pairing →
    Chosen (IsDue p form) (causes_in_order p list) pairing.plan
