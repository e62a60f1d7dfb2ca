-- In which order one call judges its list of entries, what it asks of the loader and the resolver
-- on the way, and what is kept afterwards (ECMA-262, 16.2.1.5 Link and 16.2.1.7
-- HostResolveImportedModule; the order is this linker's own).
use Rattle.std.specs.Prelude.{◌≡◌, ℕ, suc, ◌<◌, ◌≤◌, ◌⊎◌, IsTrue, List, [], ◌∷◌, ◌++◌, Option, Some, None, Contains, length, map, slice_get}
use Rattle.bundle_syntax.specs.Item.{Item}
use Rattle.bundle_tree_names.specs.FileName.{Name}
use Rattle.bundle_rules.specs.Nodes.{Text}
use Rattle.bundle_rules.specs.Entries.{Settings, requests_of, has_import_meta}
use Rattle.bundle_rules.specs.Bound.{is_free}
use Rattle.bundle_rules.specs.Cleared.{cleared}
use Rattle.bundle_rules.specs.Program.{Loaded, Program, tree_of, IsList}
use Rattle.bundle_rules.specs.Kept.{Asked, Answers, Kept, number_in, kept_module, kept_file, program_of}
use Rattle.bundle_rules.specs.Faults.{Fault, LoadFails, ResolveFails, TooManyModules, ContextsUsedUp, DoubledEntry, Parties, IsFirstTreeFault, IsFaultless, IsFirstProgramFault, IsFaultlessProgram, HookFault, MayAnswer, Stands, NumbersUsedUp}

-- an entry: the name of its bundle, and its file
pub record Entry : Type 0 where
  pub name : Text
  pub file : Name

-- how a part of the judging ends: it goes on; it is refused by a fault; or a growth is refused on
-- the way, and nothing more is judged
pub data Outcome : Type 0 where
  GoesOn : Outcome
  Refused : Fault → Outcome
  Stopped : Outcome

-- The list of entries.

-- two entries have one name or one file; of the later ones this is the first
pub record IsDoubledEntry (entries : List Entry) (later : Entry) : Type 0 where
  pub i : ℕ
  pub j : ℕ
  pub earlier : Entry
  pub before : i < j
  pub first_there : slice_get entries i ≡ Some earlier
  pub later_there : slice_get entries j ≡ Some later
  pub same : (earlier.name ≡ later.name) ⊎ (earlier.file ≡ later.file)
  pub none_before : (k l : ℕ) (a b : Entry) →
      k < l →
      l < j →
      slice_get entries k ≡ Some a →
      slice_get entries l ≡ Some b →
      (a.name ≡ b.name) ⊎ (a.file ≡ b.file) →
      ⊥

-- no two entries have one name or one file
abbrev pub AreDistinct : List Entry → Type 0
AreDistinct entries = (later : Entry) → IsDoubledEntry entries later → ⊥

-- Numbers of files.

-- `Numbers old file outcome new`: a file that was met keeps its number; another one gets the next,
-- or is refused where there is none
pub data Numbers (old : Kept) (file : Name) : Outcome → Kept → Type 0 where
  known : {n : ℕ} → number_in old file ≡ Some n → Numbers old file GoesOn old
  next : number_in old file ≡ None →
      (NumbersUsedUp old → ⊥) →
      Numbers old file GoesOn (record old { names = old.names ++ file ∷ [] })
  none : number_in old file ≡ None →
      NumbersUsedUp old →
      Numbers old file (Refused (ContextsUsedUp file)) old

-- the same of each file in turn, up to a refusal, or until a growth is refused
pub data NumbersEach : Kept → List Name → Outcome → Kept → Type 0 where
  over : {kept : Kept} → NumbersEach kept [] GoesOn kept
  next : {old new last : Kept} {file : Name} {rest : List Name} {outcome : Outcome} →
      Numbers old file GoesOn new →
      NumbersEach new rest outcome last →
      NumbersEach old (file ∷ rest) outcome last
  refused : {old new : Kept} {file : Name} {rest : List Name} {fault : Fault} →
      Numbers old file (Refused fault) new →
      NumbersEach old (file ∷ rest) (Refused fault) new
  stopped : {kept : Kept} {files : List Name} → NumbersEach kept files Stopped kept

-- Loading: the list of files to load begins with those of the entries, and each file's requests are
-- put at its end.

-- `Loads parties settings old file outcome new`: a file is kept, or else it is loaded, if there is
-- room and the loader does not fail
pub data Loads (parties : Parties) (settings : Settings) (old : Kept) (file : Name) :
    Outcome → Kept → Type 0 where
  kept : {loaded : Loaded} →
      kept_module old file ≡ Some loaded →
      Loads parties settings old file GoesOn old
  no_room : kept_module old file ≡ None →
      settings.most_modules ≤ length old.trees →
      Loads parties settings old file (Refused (TooManyModules file)) old
  fails : kept_module old file ≡ None →
      length old.trees < settings.most_modules →
      parties.may_fail_to_load file →
      Loads parties settings old file (Refused (LoadFails file)) old
  loaded : (answer : Loaded) →
      kept_module old file ≡ None →
      length old.trees < settings.most_modules →
      parties.answers.may_load file answer →
      Loads parties settings old file GoesOn
      (record old
      { trees = old.trees ++ (file, record answer { items = cleared answer.items }) ∷ [] })

-- `Resolves parties old asked outcome file new`: a pair is kept, or else it is resolved, if the
-- resolver does not fail
pub data Resolves (parties : Parties) (old : Kept) (asked : Asked) :
    Option Name → Kept → Type 0 where
  kept : {file : Name} →
      kept_file old asked ≡ Some file →
      Resolves parties old asked (Some file) old
  resolved : (file : Name) →
      kept_file old asked ≡ None →
      parties.answers.may_resolve asked file →
      Resolves parties old asked (Some file)
      (record old { resolved = old.resolved ++ (asked, file) ∷ [] })
  fails : kept_file old asked ≡ None →
      parties.may_fail_to_resolve asked →
      Resolves parties old asked None old

-- `Asks parties file specifiers old list outcome new all`: the requests of a file are resolved in
-- order, and each file that is not on the list gets a number and goes on it
pub data Asks (parties : Parties) (file : Name) :
    List Text → Kept → List Name → Outcome → Kept → List Name → Type 0 where
  over : {kept : Kept} {list : List Name} → Asks parties file [] kept list GoesOn kept list
  fails : {s : Text} {rest : List Text} {old new : Kept} {list : List Name} →
      Resolves parties old (record { file = file; specifier = s }) None new →
      Asks parties file (s ∷ rest) old list (Refused (ResolveFails file s)) new list
  listed :
      {s : Text} {rest : List Text} {old new last : Kept} {list all : List Name} {outcome : Outcome}
      {found : Name} →
      Resolves parties old (record { file = file; specifier = s }) (Some found) new →
      Contains list found →
      Asks parties file rest new list outcome last all →
      Asks parties file (s ∷ rest) old list outcome last all
  numbered :
      {s : Text} {rest : List Text} {old new next last : Kept} {list all : List Name}
      {outcome : Outcome} {found : Name} →
      Resolves parties old (record { file = file; specifier = s }) (Some found) new →
      (Contains list found → ⊥) →
      Numbers new found GoesOn next →
      Asks parties file rest next (list ++ found ∷ []) outcome last all →
      Asks parties file (s ∷ rest) old list outcome last all
  used_up :
      {s : Text} {rest : List Text} {old new next : Kept} {list : List Name} {found : Name}
      {fault : Fault} →
      Resolves parties old (record { file = file; specifier = s }) (Some found) new →
      (Contains list found → ⊥) →
      Numbers new found (Refused fault) next →
      Asks parties file (s ∷ rest) old list (Refused fault) next list
  -- a growth is refused: before the next request is resolved, before its file gets a number, or
  -- before that goes on the list
  stopped : {kept : Kept} {specifiers : List Text} {list : List Name} →
      Asks parties file specifiers kept list Stopped kept list
  stopped_resolved :
      {s : Text} {rest : List Text} {old new : Kept} {list : List Name} {found : Name} →
      Resolves parties old (record { file = file; specifier = s }) (Some found) new →
      Asks parties file (s ∷ rest) old list Stopped new list
  stopped_numbered :
      {s : Text} {rest : List Text} {old new next : Kept} {list : List Name} {found : Name} →
      Resolves parties old (record { file = file; specifier = s }) (Some found) new →
      (Contains list found → ⊥) →
      Numbers new found GoesOn next →
      Asks parties file (s ∷ rest) old list Stopped next list

-- the requests of a kept file
abbrev pub requests_in : Settings → List Item → List Text
requests_in settings tree = requests_of settings (is_free tree) tree

-- `Grows answers settings entries old new`: what is kept grows from old to new by answers of the
-- parties, each to a request of what was met and that was not answered before; nothing that was
-- kept changes
pub data Grows (answers : Answers) (settings : Settings) (entries : List Name) :
    Kept → Kept → Type 0 where
  -- nothing is new
  same : {kept : Kept} → Grows answers settings entries kept kept
  -- a file of an entry, or one that a pair was resolved to, gets the next number at its first
  -- meeting, where numbers are left
  met : {old new : Kept} (file : Name) →
      number_in old file ≡ None →
      (NumbersUsedUp old → ⊥) →
      Contains entries file ⊎ ((asked : Asked) × (kept_file old asked ≡ Some file)) →
      Grows answers settings entries (record old { names = old.names ++ file ∷ [] }) new →
      Grows answers settings entries old new
  -- a file that was met and of which nothing is kept is loaded, where there is room
  loaded : {old new : Kept} (file : Name) (answer : Loaded) →
      Contains old.names file →
      kept_module old file ≡ None →
      length old.trees < settings.most_modules →
      answers.may_load file answer →
      Grows answers settings entries
      (record old
      { trees = old.trees ++ (file, record answer { items = cleared answer.items }) ∷ [] }) new
      →
      Grows answers settings entries old new
  -- a request of a kept file without a fault of its own, for which no file is kept, is resolved
  resolved : {old new : Kept} (asked : Asked) (asking : Loaded) (file : Name) →
      kept_module old asked.file ≡ Some asking →
      IsFaultless asked.file asking.items →
      Contains (requests_in settings asking.items) asked.specifier →
      kept_file old asked ≡ None →
      answers.may_resolve asked file →
      Grows answers settings entries (record old { resolved = old.resolved ++ (asked, file) ∷ [] })
      new →
      Grows answers settings entries old new

-- `LoadsAll parties settings list i old outcome new`: the files of the list from place i on, and
-- those that they request, are loaded; a file's own faults are judged before its requests
pub data LoadsAll (parties : Parties) (settings : Settings) :
    List Name → ℕ → Kept → Outcome → Kept → Type 0 where
  over : {list : List Name} {kept : Kept} →
      LoadsAll parties settings list (length list) kept GoesOn kept
  not_loaded : {list : List Name} {i : ℕ} {file : Name} {old new : Kept} {fault : Fault} →
      slice_get list i ≡ Some file →
      Loads parties settings old file (Refused fault) new →
      LoadsAll parties settings list i old (Refused fault) new
  faulty :
      {list : List Name} {i : ℕ} {file : Name} {old new : Kept} {loaded : Loaded} {fault : Fault} →
      slice_get list i ≡ Some file →
      Loads parties settings old file GoesOn new →
      kept_module new file ≡ Some loaded →
      IsFirstTreeFault file loaded.items fault →
      LoadsAll parties settings list i old (Refused fault) new
  not_resolved :
      {list all : List Name} {i : ℕ} {file : Name} {old new last : Kept} {loaded : Loaded}
      {fault : Fault} →
      slice_get list i ≡ Some file →
      Loads parties settings old file GoesOn new →
      kept_module new file ≡ Some loaded →
      IsFaultless file loaded.items →
      Asks parties file (requests_in settings loaded.items) new list (Refused fault) last all →
      LoadsAll parties settings list i old (Refused fault) last
  goes_on :
      {list all : List Name} {i : ℕ} {file : Name} {old new next last : Kept} {loaded : Loaded}
      {outcome : Outcome} →
      slice_get list i ≡ Some file →
      Loads parties settings old file GoesOn new →
      kept_module new file ≡ Some loaded →
      IsFaultless file loaded.items →
      Asks parties file (requests_in settings loaded.items) new list GoesOn next all →
      LoadsAll parties settings all (suc i) next outcome last →
      LoadsAll parties settings list i old outcome last
  -- a growth is refused: before the next file is loaded, or all are; before its requests are
  -- resolved; or among them
  stopped : {list : List Name} {i : ℕ} {kept : Kept} →
      LoadsAll parties settings list i kept Stopped kept
  stopped_loaded : {list : List Name} {i : ℕ} {file : Name} {old new : Kept} →
      slice_get list i ≡ Some file →
      Loads parties settings old file GoesOn new →
      LoadsAll parties settings list i old Stopped new
  stopped_asking :
      {list all : List Name} {i : ℕ} {file : Name} {old new last : Kept} {loaded : Loaded} →
      slice_get list i ≡ Some file →
      Loads parties settings old file GoesOn new →
      kept_module new file ≡ Some loaded →
      IsFaultless file loaded.items →
      Asks parties file (requests_in settings loaded.items) new list Stopped last all →
      LoadsAll parties settings list i old Stopped last

-- The entries, one after the other, over what is kept then.

-- the program of an entry
pub record IsProgramOf
    (kept : Kept) (settings : Settings) (entry : Entry) (p : Program) : Type 0 where
  pub number : ℕ
  pub its_number : number_in kept entry.file ≡ Some number
  pub is : p ≡ program_of kept settings number

-- the hook may answer without a fault for each module before place i of the list that has
-- `import.meta`
abbrev pub AnsweredBefore : Program → Parties → List ℕ → ℕ → Type 0
AnsweredBefore p parties list i =
    (j m : ℕ) (file : Name) →
    j < i →
    Stands p list j m file →
    IsTrue (has_import_meta (tree_of p m)) →
    MayAnswer p parties m

-- a program is refused: by its first fault or, where it has none, at the first module for which the
-- hook's answer is at fault
pub data RefusesProgram (p : Program) (parties : Parties) : Fault → Type 0 where
  by_program : {fault : Fault} → IsFirstProgramFault p fault → RefusesProgram p parties fault
  by_hook : {list : List ℕ} {i m : ℕ} {file : Name} {fault : Fault} →
      IsFaultlessProgram p →
      IsList p list →
      Stands p list i m file →
      AnsweredBefore p parties list i →
      IsTrue (has_import_meta (tree_of p m)) →
      HookFault p parties m file fault →
      RefusesProgram p parties fault

-- a program is accepted: it has no fault, and the hook may answer for each of its modules
pub record AcceptsProgram (p : Program) (parties : Parties) : Type 0 where
  pub faultless : IsFaultlessProgram p
  pub list : List ℕ
  pub is_list : IsList p list
  pub answered : AnsweredBefore p parties list (length list)

-- the first entry that is refused
pub record RefusesEntries
    (kept : Kept) (settings : Settings) (parties : Parties) (entries : List Entry)
    (fault : Fault) : Type 0 where
  pub i : ℕ
  pub entry : Entry
  pub p : Program
  pub there : slice_get entries i ≡ Some entry
  pub its_program : IsProgramOf kept settings entry p
  pub refused : RefusesProgram p parties fault
  pub accepted_before : (j : ℕ) (other : Entry) (its : Program) →
      j < i →
      slice_get entries j ≡ Some other →
      IsProgramOf kept settings other its →
      AcceptsProgram its parties

-- A whole call.

-- the files of the entries
abbrev pub files_of : List Entry → List Name
files_of entries = map (λ entry. entry.file) entries

-- `Refuses parties settings entries old fault new`: the call is refused by this fault, the first
-- that is judged for what is kept and for some answers of the parties; afterwards this is kept
pub data Refuses (parties : Parties) (settings : Settings) (entries : List Entry) (old : Kept) :
    Fault → Kept → Type 0 where
  by_list : (later : Entry) →
      IsDoubledEntry entries later →
      Refuses parties settings entries old (DoubledEntry later.file later.name) old
  by_number : {fault : Fault} {new : Kept} →
      AreDistinct entries →
      NumbersEach old (files_of entries) (Refused fault) new →
      Refuses parties settings entries old fault new
  by_loading : {fault : Fault} {next new : Kept} →
      AreDistinct entries →
      NumbersEach old (files_of entries) GoesOn next →
      LoadsAll parties settings (files_of entries) 0 next (Refused fault) new →
      Refuses parties settings entries old fault new
  by_entry : {fault : Fault} {next new : Kept} →
      AreDistinct entries →
      NumbersEach old (files_of entries) GoesOn next →
      LoadsAll parties settings (files_of entries) 0 next GoesOn new →
      RefusesEntries new settings parties entries fault →
      Refuses parties settings entries old fault new

-- `Stops parties settings entries old new`: so much is kept where a growth is refused, which can
-- come anywhere: at once; when some of the entries' files have numbers; or when some of what they
-- reach is loaded
pub data Stops (parties : Parties) (settings : Settings) (entries : List Entry) (old : Kept) :
    Kept → Type 0 where
  at_once : Stops parties settings entries old old
  by_number : {new : Kept} →
      AreDistinct entries →
      NumbersEach old (files_of entries) Stopped new →
      Stops parties settings entries old new
  by_loading : {next new : Kept} →
      AreDistinct entries →
      NumbersEach old (files_of entries) GoesOn next →
      LoadsAll parties settings (files_of entries) 0 next Stopped new →
      Stops parties settings entries old new

-- `Completes parties settings entries old new`: all that the entries reach is kept afterwards
pub record Completes
    (parties : Parties) (settings : Settings) (entries : List Entry) (old new : Kept) : Type 0 where
  pub distinct : AreDistinct entries
  pub next : Kept
  pub numbered : NumbersEach old (files_of entries) GoesOn next
  pub loaded : LoadsAll parties settings (files_of entries) 0 next GoesOn new
