-- What is wrong with a list of entries, one clause for each refusal, and in which order it is
-- judged (ECMA-262, 16.2.1.1 early errors of modules; 16.2.1.6.4 InitializeEnvironment, which
-- refuses imports that ResolveExport does not resolve).
use Rattle.std.specs.Prelude.{◌≡◌, ◌≢◌, ℕ, ◌+◌, ◌*◌, ◌<◌, ◌≤◌, ◌==◌, ◌⊎◌, Bool, true, false, IsTrue, List, [], ◌∷◌, ◌++◌, Option, Some, None, Contains, length, flat_map, slice_get, string_bytes, codes, filter}
use Rattle.bundle_syntax.specs.Item as h
use Rattle.bundle_syntax.specs.Item.{Item, Head}
use Rattle.bundle_rules.specs.Scopes.{ModuleKind, Es}
use Rattle.bundle_rules.specs.Doubled.{first_doubled}
use Rattle.bundle_rules.specs.Declarations.{Declared as Declaration}
use Rattle.bundle_rules.specs.Places.{start}
use Rattle.bundle_rules.specs.Counts.{scope_count, scope_count_from, binding_count}
use Rattle.bundle_tree_names.specs.FileName.{Name, name_of as file_name_of}
use Rattle.bundle_tree_names.specs.declared.error.Error.{Error}
use Rattle.bundle_tree_names.specs.declared.error.Error.TheVariants as e
use Rattle.bundle_rules.specs.Nodes.{Text, in_field, child, string_of, begins_with, has_text, has_head, name_of}
use Rattle.bundle_rules.specs.Statements.{top_items, default_name}
use Rattle.bundle_rules.specs.Entries.{Named, Whole, ImportEntry, ExportEntry, Local, Indirect, Star, RequireCall, imports_of, imports_of_item, exports_of, exports_of_item, declared_requests, has_import_meta, is_script}
use Rattle.bundle_rules.specs.Bound.{top_names, has_free}
use Rattle.bundle_rules.specs.Program.{Loaded, Program, file_of, module_of, tree_of, resolves, is_external, calls_of, IsReached, IsList}
use Rattle.bundle_rules.specs.Kept.{Asked, Kept, Answers}
use Rattle.bundle_rules.specs.Linking.{IsCommonJs, IsModule, IsAmbiguous, IsMissing, HasExternalStar, Namespace, exports, CommonJs}
use Rattle.bundle_rules.specs.Meaning.{HasKind, IsMeant, Of}
use Rattle.bundle_rules.specs.Awaits.{awaits_outside}
use Rattle.bundle_rules.specs.Bundle.{Hooks, Cause, ImportsNames, ImportsWhole, Helps, Defines, Loads, HoldsMeta, HoldsNamespace, IsDue, form_of, AreNames, MeansName, MayHold, properties_tree, is_with, AreFaultless}

-- a refusal: what is wrong, in which file, and with which name or specifier
pub data Fault : Type 0 where
  LoadFails : (file : Name) → Fault
  ResolveFails : (file : Name) (specifier : Text) → Fault
  HookFails : (file : Name) → Fault
  TooManyModules : (file : Name) → Fault
  ContextsUsedUp : (file : Name) → Fault
  DoubledDeclaration : (file : Name) (name : Text) → Fault
  DoubledExport : (file : Name) (name : Text) → Fault
  UndeclaredExport : (file : Name) (name : Text) → Fault
  MissingExport : (file : Name) (name : Text) → Fault
  AmbiguousExport : (file : Name) (name : Text) → Fault
  ExternalStarOnly : (file : Name) (name : Text) → Fault
  StarOfCommonJs : (file : Name) (specifier : Text) → Fault
  NamespaceOverExternalStar : (file : Name) → Fault
  WithStatement : (file : Name) → Fault
  RequiredEsModule : (file : Name) (specifier : Text) → Fault
  RequiredEntry : (file : Name) (specifier : Text) → Fault
  AwaitInCommonJs : (file : Name) → Fault
  DoubledEntry : (file : Name) (name : Text) → Fault
  ExternalUnderIife : (file : Name) (specifier : Text) → Fault
  ArgumentsUnderIife : (file : Name) → Fault

-- the fault that an error tells of; want of memory is none
abbrev pub fault_of : Error → Option Fault
fault_of (e.Load file) = Some (LoadFails (file_name_of file))
fault_of (e.Resolve file specifier) =
    Some (ResolveFails (file_name_of file) (string_bytes specifier))
fault_of (e.Hook file) = Some (HookFails (file_name_of file))
fault_of (e.TooManyModules file) = Some (TooManyModules (file_name_of file))
fault_of (e.ContextsUsedUp file) = Some (ContextsUsedUp (file_name_of file))
fault_of (e.DoubledDeclaration file name) =
    Some (DoubledDeclaration (file_name_of file) (string_bytes name))
fault_of (e.DoubledExport file name) = Some (DoubledExport (file_name_of file) (string_bytes name))
fault_of (e.UndeclaredExport file name) =
    Some (UndeclaredExport (file_name_of file) (string_bytes name))
fault_of (e.MissingExport file name) = Some (MissingExport (file_name_of file) (string_bytes name))
fault_of (e.AmbiguousExport file name) =
    Some (AmbiguousExport (file_name_of file) (string_bytes name))
fault_of (e.ExternalStarOnly file name) =
    Some (ExternalStarOnly (file_name_of file) (string_bytes name))
fault_of (e.StarOfCommonJs file specifier) =
    Some (StarOfCommonJs (file_name_of file) (string_bytes specifier))
fault_of (e.NamespaceOverExternalStar file) = Some (NamespaceOverExternalStar (file_name_of file))
fault_of (e.With file) = Some (WithStatement (file_name_of file))
fault_of (e.RequiredEsModule file specifier) =
    Some (RequiredEsModule (file_name_of file) (string_bytes specifier))
fault_of (e.RequiredEntry file specifier) =
    Some (RequiredEntry (file_name_of file) (string_bytes specifier))
fault_of (e.AwaitInCommonJs file) = Some (AwaitInCommonJs (file_name_of file))
fault_of (e.DoubledEntry file name) = Some (DoubledEntry (file_name_of file) (string_bytes name))
fault_of (e.ExternalUnderIife file specifier) =
    Some (ExternalUnderIife (file_name_of file) (string_bytes specifier))
fault_of (e.ArgumentsUnderIife file) = Some (ArgumentsUnderIife (file_name_of file))
fault_of e.OutOfMemory = None

-- what loaders, resolvers and hooks may answer, and where they may fail
pub record Parties : Type 1 where
  pub answers : Answers
  pub hooks : Hooks
  pub may_fail_to_load : Name → Type 0
  pub may_fail_to_resolve : Asked → Type 0
  pub may_fail_to_answer : Name → Bool → Type 0

-- Faults of a tree by itself. Each has a stage, in which it is judged, and a place; in a stage the
-- first place counts.

-- the entry's name
abbrev pub entry_name : ExportEntry → Option Text
entry_name (Local name of) = Some name
entry_name (Indirect name specifier taken) = Some name
entry_name (Star specifier) = None

-- a name in an export list without `from`: its text, and whether it is a string
pub record ListedName : Type 0 where
  pub text : Text
  pub is_string : Bool

-- whether such a node is a specifier of one name
abbrev pub is_named_specifier : Head → Bool
is_named_specifier h.ExportNamedSpecifier = true
is_named_specifier _ = false

-- whether such a node is a string
abbrev pub is_string_head : Head → Bool
is_string_head (h.Str value raw) = true
is_string_head _ = false

-- the name that a specifier lists, if it has a text
abbrev pub listed_text : List Item → Bool → Option Text → List ListedName
listed_text specifier string None = []
listed_text specifier string (Some x) = record { text = x; is_string = string } ∷ []

-- the name that a specifier lists
abbrev pub listed_name : List Item → List ListedName
listed_name specifier =
    listed_text specifier (begins_with is_string_head (child 0 specifier))
    (name_of (child 0 specifier))

-- the names that a list lists; one with `from` lists none of the module
abbrev pub names_in_list : Option Text → List Item → List ListedName
names_in_list (Some source) list = []
names_in_list None list =
    flat_map listed_name (filter (begins_with is_named_specifier) (in_field 0 list))

-- the names that a top item with this head lists
abbrev pub names_listed_by : Head → List Item → List ListedName
names_listed_by (h.NamedExport meta) item = names_in_list (string_of (child 1 item)) item
names_listed_by _ item = []

-- the names that a top item lists
abbrev pub names_listed : List Item → List ListedName
names_listed (h.Open field head ∷ rest) = names_listed_by head (h.Open field head ∷ rest)
names_listed _ = []

-- the names in the export lists of a module that have no `from`, in the order of the source
abbrev pub listed_names : List Item → List ListedName
listed_names tree = flat_map (λ top. names_listed top.items) (top_items tree)

-- `TreeFault file tree stage place fault`
pub data TreeFault (file : Name) (tree : List Item) : ℕ → ℕ → Fault → Type 0 where
  -- two entries have one name; the later one is the place
  doubled_export : {i j : ℕ} {x : Text} (first second : ExportEntry) →
      i < j →
      slice_get (exports_of tree) i ≡ Some first →
      slice_get (exports_of tree) j ≡ Some second →
      entry_name first ≡ Some x →
      entry_name second ≡ Some x →
      TreeFault file tree 0 j (DoubledExport file x)
  -- an export list without `from` has a string, or a name that the top does not bind
  undeclared_export : {j : ℕ} (listed : ListedName) →
      slice_get (listed_names tree) j ≡ Some listed →
      IsTrue listed.is_string ⊎ (has_text listed.text (top_names tree) ≡ false) →
      TreeFault file tree 1 j (UndeclaredExport file listed.text)
  -- a `with` statement
  with_statement : {place field : ℕ} →
      slice_get tree place ≡ Some (h.Open field h.WithStmt) →
      TreeFault file tree 2 place (WithStatement file)

-- one place is before another or the same
pub data NotAfter (stage place : ℕ) : ℕ → ℕ → Type 0 where
  earlier_stage : {other its : ℕ} → stage < other → NotAfter stage place other its
  same_stage : {its : ℕ} → place ≤ its → NotAfter stage place stage its

-- the tree's first fault
pub record IsFirstTreeFault (file : Name) (tree : List Item) (fault : Fault) : Type 0 where
  pub stage : ℕ
  pub place : ℕ
  pub there : TreeFault file tree stage place fault
  pub first : (other its : ℕ) (f : Fault) →
      TreeFault file tree other its f →
      NotAfter stage place other its

-- the tree has no fault by itself
abbrev pub IsFaultless : Name → List Item → Type 0
IsFaultless file tree = (stage place : ℕ) (f : Fault) → TreeFault file tree stage place f → ⊥

-- Faults of a program.

-- a name that is asked of another module
pub record AskedName : Type 0 where
  pub specifier : Text
  pub name : Text

-- the name that an import asks for, unless it takes the whole
abbrev pub asked_by_import : ImportEntry → List AskedName
asked_by_import entry =
    elim (entry.taken)
    [ Named x ↦ record { specifier = entry.specifier; name = x } ∷ [] | Whole ↦ [] ]

-- the name that an indirect export asks for, unless it takes the whole
abbrev pub asked_by_export : ExportEntry → List AskedName
asked_by_export (Indirect name specifier (Named x)) =
    record { specifier = specifier; name = x } ∷ []
asked_by_export (Indirect name specifier Whole) = []
asked_by_export (Local name of) = []
asked_by_export (Star specifier) = []

-- the names that a top item asks for
abbrev pub asked_by_item : List ImportEntry → List Item → List AskedName
asked_by_item imports item =
    flat_map asked_by_import (imports_of_item item)
    ++ flat_map asked_by_export (exports_of_item imports item)

-- the names that a module asks of others by imports and indirect exports, in the order of the
-- source
abbrev pub asked_names : List Item → List AskedName
asked_names tree = flat_map (λ top. asked_by_item (imports_of tree) top.items) (top_items tree)

-- some external is starred
abbrev pub StarsExternal : Program → ℕ → Type 0
StarsExternal p d = (s : Text) × HasExternalStar p d s

-- what is wrong with a name that is asked of an ES module d: two targets; none, where a star of an
-- external may hold it; none else
pub data NameFault (p : Program) (d : ℕ) (x : Text) (file : Name) : Fault → Type 0 where
  ambiguous : IsAmbiguous p d x → NameFault p d x file (AmbiguousExport file x)
  external_only : IsMissing p d x →
      x ≢ default_name →
      StarsExternal p d →
      NameFault p d x file (ExternalStarOnly file x)
  missing : IsMissing p d x →
      (x ≡ default_name) ⊎ (StarsExternal p d → ⊥) →
      NameFault p d x file (MissingExport file x)

-- `ProgramFault p file m stage place fault`: module m, which is this file, has the fault
pub data ProgramFault (p : Program) (file : Name) (m : ℕ) : ℕ → ℕ → Fault → Type 0 where
  -- a literal call of `require` is one of the entry
  required_entry : (call : RequireCall) →
      Contains (calls_of p m) call →
      resolves p m call.specifier ≡ Some p.entry →
      ProgramFault p file m 0 call.place (RequiredEntry file call.specifier)
  -- one is of a module with a module declaration or `import.meta`
  required_es_module : {c : ℕ} (call : RequireCall) →
      Contains (calls_of p m) call →
      resolves p m call.specifier ≡ Some c →
      is_script (tree_of p c) ≡ false →
      ProgramFault p file m 1 call.place (RequiredEsModule file call.specifier)
  -- a name is declared twice; the later declaration is the place
  doubled_declaration : {kind : ModuleKind} (d : Declaration) →
      HasKind p m kind →
      first_doubled kind (tree_of p m) ≡ Some d →
      ProgramFault p file m 2 d.place (DoubledDeclaration file d.name.sym)
  -- an `await` outside functions in a CommonJS module
  await_in_common_js : IsCommonJs p m →
      IsTrue (awaits_outside (tree_of p m)) →
      ProgramFault p file m 3 0 (AwaitInCommonJs file)
  -- a star of a CommonJS module
  star_of_common_js : {j c : ℕ} {s : Text} →
      slice_get (exports p m) j ≡ Some (Star s) →
      resolves p m s ≡ Some c →
      IsCommonJs p c →
      ProgramFault p file m 4 j (StarOfCommonJs file s)
  -- a name that an ES module does not give, or not once
  name : {j d : ℕ} {f : Fault} (asked : AskedName) →
      slice_get (asked_names (tree_of p m)) j ≡ Some asked →
      IsModule p m asked.specifier d →
      NameFault p d asked.name file f →
      ProgramFault p file m 5 j f
  -- the object of its namespace is meant, and it stars an external
  namespace_over_external_star : IsMeant p (Of (Namespace m)) →
      StarsExternal p m →
      ProgramFault p file m 6 0 (NamespaceOverExternalStar file)
  -- an import or re-export of an external, where the bundle is one function's call
  external_under_iife : {j : ℕ} {s : Text} →
      p.settings.iife ≡ true →
      slice_get (declared_requests (tree_of p m)) j ≡ Some s →
      IsTrue (is_external p s) →
      ProgramFault p file m 7 j (ExternalUnderIife file s)
  -- an `arguments` that nothing binds in an ES module, where the bundle is one function's call
  arguments_under_iife : p.settings.iife ≡ true →
      (IsCommonJs p m → ⊥) →
      IsTrue (has_free (tree_of p m) (codes "arguments")) →
      ProgramFault p file m 8 0 (ArgumentsUnderIife file)

-- a reached module, at its place in the list, with its file
pub record Stands (p : Program) (list : List ℕ) (i m : ℕ) (file : Name) : Type 0 where
  pub listed : slice_get list i ≡ Some m
  pub its_file : file_of p m ≡ Some file

-- one fault of a program is judged before another or is the same: by stages, then by the modules'
-- places in the list, then by places in the module
pub data JudgedNotAfter (stage i place : ℕ) : ℕ → ℕ → ℕ → Type 0 where
  earlier_stage : {other j its : ℕ} → stage < other → JudgedNotAfter stage i place other j its
  earlier_module : {j its : ℕ} → i < j → JudgedNotAfter stage i place stage j its
  same_module : {its : ℕ} → place ≤ its → JudgedNotAfter stage i place stage i its

-- the program's first fault
pub record IsFirstProgramFault (p : Program) (fault : Fault) : Type 0 where
  pub list : List ℕ
  pub is_list : IsList p list
  pub i : ℕ
  pub m : ℕ
  pub file : Name
  pub stands : Stands p list i m file
  pub stage : ℕ
  pub place : ℕ
  pub there : ProgramFault p file m stage place fault
  pub first : (j n other its : ℕ) (at : Name) (f : Fault) →
      Stands p list j n at →
      ProgramFault p at n other its f →
      JudgedNotAfter stage i place other j its

-- the program has no fault, whatever its files are called
abbrev pub IsFaultlessProgram : Program → Type 0
IsFaultlessProgram p =
    (m stage place : ℕ) (file : Name) (f : Fault) →
    IsReached p m →
    ProgramFault p file m stage place f →
    ⊥

-- Faults of a hook's answer: it fails, or what it answers has a doubled declaration, a `with`, or a
-- free `arguments` under one function's call.

-- what is wrong with properties that a hook answers
pub data PropertiesFault (p : Program) (file : Name) (properties : List Item) : Fault → Type 0 where
  doubled : (d : Declaration) →
      first_doubled Es (properties_tree properties) ≡ Some d →
      PropertiesFault p file properties (DoubledDeclaration file d.name.sym)
  with_statement : first_doubled Es (properties_tree properties) ≡ None →
      IsTrue (has_head is_with properties) →
      PropertiesFault p file properties (WithStatement file)
  arguments : first_doubled Es (properties_tree properties) ≡ None →
      has_head is_with properties ≡ false →
      p.settings.iife ≡ true →
      IsTrue (has_free (properties_tree properties) (codes "arguments")) →
      PropertiesFault p file properties (ArgumentsUnderIife file)

-- what may be wrong where the hook is asked for module m
pub data HookFault (p : Program) (parties : Parties) (m : ℕ) (file : Name) : Fault → Type 0 where
  fails : (loaded : Loaded) →
      module_of p m ≡ Some loaded →
      parties.may_fail_to_answer loaded.file_name (m == p.entry) →
      HookFault p parties m file (HookFails file)
  answers : {f : Fault} (properties : List Item) →
      MayHold p parties.hooks m properties →
      PropertiesFault p file properties f →
      HookFault p parties m file f

-- the hook may answer for module m without a fault
pub record MayAnswer (p : Program) (parties : Parties) (m : ℕ) : Type 0 where
  pub properties : List Item
  pub held : MayHold p parties.hooks m properties
  pub right : AreFaultless p properties

-- Where the number of contexts ends.

-- how many scopes and bindings an injected item may have; the statements of modules are counted
-- with their trees
pub data InjectedCount (p : Program) : Cause → ℕ → Type 0 where
  names : {s : Text} (names : List Text) →
      AreNames (MeansName p s) names →
      InjectedCount p (ImportsNames s) (length names)
  whole : {s : Text} → InjectedCount p (ImportsWhole s) 1
  -- the helper with its parameter, its variable and two `arguments`; two functions' parameters and
  -- bodies, and a block
  helper : InjectedCount p Helps 10
  -- the name of the function; its scopes and parameters are counted with the tree
  load_function : {c : ℕ} → InjectedCount p (Defines c) 1
  loads : {m c : ℕ} (names : List Text) →
      AreNames (λ x. IsMeant p (Of (CommonJs m c (Named x)))) names →
      (IsMeant p (Of (CommonJs m c Whole)) → ⊥) →
      InjectedCount p (Loads m c) (length names)
  loads_whole : {m c : ℕ} (names : List Text) →
      AreNames (λ x. IsMeant p (Of (CommonJs m c (Named x)))) names →
      IsMeant p (Of (CommonJs m c Whole)) →
      InjectedCount p (Loads m c) (length names + 1)
  meta : {m : ℕ} → InjectedCount p (HoldsMeta m) 1
  -- the object's name, its function's scopes and `arguments`
  namespace : {d : ℕ} → InjectedCount p (HoldsNamespace d) 4

-- the counts of causes, added
pub data CountsTo (p : Program) : List Cause → ℕ → Type 0 where
  nothing : CountsTo p [] 0
  counted : {cause : Cause} {rest : List Cause} {n more : ℕ} →
      InjectedCount p cause n →
      CountsTo p rest more →
      CountsTo p (cause ∷ rest) (n + more)
  other : {cause : Cause} {rest : List Cause} {more : ℕ} →
      ((n : ℕ) → InjectedCount p cause n → ⊥) →
      CountsTo p rest more →
      CountsTo p (cause ∷ rest) more

-- the scopes and bindings of a tree
abbrev pub tree_count : ModuleKind → List Item → ℕ
tree_count kind tree = scope_count kind tree + binding_count kind tree

-- those of properties that a hook answers; they have no top of their own
abbrev pub properties_count : List Item → ℕ
properties_count properties =
    scope_count_from start (properties_tree properties)
    + binding_count Es (properties_tree properties)

-- the scopes and bindings of the modules of a list, and of answers of the hook for those with
-- `import.meta`, added; where the hook was not asked the tree counts alone
pub data TreesCountTo (p : Program) (hooks : Hooks) : List ℕ → ℕ → Type 0 where
  nothing : TreesCountTo p hooks [] 0
  plain : {m more : ℕ} {rest : List ℕ} {kind : ModuleKind} →
      HasKind p m kind →
      has_import_meta (tree_of p m) ≡ false →
      TreesCountTo p hooks rest more →
      TreesCountTo p hooks (m ∷ rest) (tree_count kind (tree_of p m) + more)
  with_meta : {m more : ℕ} {rest : List ℕ} (properties : List Item) →
      has_import_meta (tree_of p m) ≡ true →
      MayHold p hooks m properties →
      TreesCountTo p hooks rest more →
      TreesCountTo p hooks (m ∷ rest)
      (tree_count Es (tree_of p m) + (properties_count properties + more))
  unanswered : {m more : ℕ} {rest : List ℕ} →
      has_import_meta (tree_of p m) ≡ true →
      TreesCountTo p hooks rest more →
      TreesCountTo p hooks (m ∷ rest) (tree_count Es (tree_of p m) + more)

-- a bundle may need contexts above the last: from the next one on, one for each scope and binding
pub record NeedsTooManyContexts (p : Program) (hooks : Hooks) (next : ℕ) : Type 0 where
  pub list : List ℕ
  pub is_list : IsList p list
  pub causes : List Cause
  pub due : (cause : Cause) → Contains causes cause → IsDue p (form_of p.settings) cause
  pub once : (i j : ℕ) (cause : Cause) →
      slice_get causes i ≡ Some cause →
      slice_get causes j ≡ Some cause →
      i ≡ j
  pub of_trees : ℕ
  pub trees : TreesCountTo p hooks list of_trees
  pub of_causes : ℕ
  pub injected : CountsTo p causes of_causes
  pub above : 4294967295 < next + of_trees + of_causes

-- a module gets contexts of its own: where a scope begins in its tree or in what the hook answers
-- for it, or where it is CommonJS, for the names that its function gives it
pub data GetsContexts (p : Program) (hooks : Hooks) (m : ℕ) : Type 0 where
  by_tree : 0 < scope_count_from start (tree_of p m) → GetsContexts p hooks m
  by_function : IsCommonJs p m → GetsContexts p hooks m
  by_answer : (properties : List Item) →
      IsTrue (has_import_meta (tree_of p m)) →
      MayHold p hooks m properties →
      0 < scope_count_from start (properties_tree properties) →
      GetsContexts p hooks m

-- whether an item for this cause has a name of the linker's own, or loads by one
abbrev pub has_own_name : Cause → Bool
has_own_name (ImportsNames s) = true
has_own_name (ImportsWhole s) = true
has_own_name Helps = true
has_own_name (Defines c) = true
has_own_name (Loads m c) = true
has_own_name (HoldsMeta m) = true
has_own_name (HoldsNamespace d) = true
has_own_name _ = false

-- the module whose file is named where contexts do not suffice: one that gets some; or else the
-- entry, where the linker has a name of its own to give
pub data IsNamedForContexts (p : Program) (hooks : Hooks) : ℕ → Type 0 where
  gets : {m : ℕ} → IsReached p m → GetsContexts p hooks m → IsNamedForContexts p hooks m
  own : (cause : Cause) →
      IsDue p (form_of p.settings) cause →
      has_own_name cause ≡ true →
      IsNamedForContexts p hooks p.entry

-- the first context above those of files: two for each number, and two more
abbrev pub first_context : Program → ℕ
first_context p = 2 * p.count + 2

-- the last number that a file can have
abbrev pub last_number : ℕ
last_number = 2147483646

-- a file that is not met can get no number
abbrev pub NumbersUsedUp : Kept → Type 0
NumbersUsedUp kept = last_number < length kept.names
