-- The files of a load list are those of the program of what is kept.
-- The files of the load list, one after the other.
use Rattle.std.proofs.Common.{◌≡◌, ℕ, List, [], length, get_or, slice_get, Some, sym, ap, ◌∙◌, suc, zero, ◌+◌, ◌<◌, ◌≤◌, ◌∷◌, Contains, Option, None, Result, subst, arith, length-append}
use Rattle.std.specs.Prelude.{string_bytes, IfSome}
use Rattle.std.specs.Option.{option_map, option_and_then, unwrap_or}
use Rattle.std.specs.declared.alloc.Global.{Global}
use Rattle.std.specs.declared.string.String.{String}
use Rattle.std.proofs.lemmas.List.{length-map}
use Rattle.std.proofs.lemmas.List.Quantifiers.{position-Some}
use Rattle.std.proofs.lemmas.Option.{slice_get-get_or, slice_get_within}
use Rattle.std.specs.Result.{IsErrAnd}
use Rattle.bundle_tree_names.specs.FileName.{Name, name_of, name_eq}
use Rattle.bundle_tree_names.specs.FileNameLaws.{name_eq-Decides}
use Rattle.bundle_tree_names.specs.ModuleIdGenerator.{IsDistinct}
use Rattle.bundle_tree_names.specs.declared.file_name.FileName.{FileName}
use Rattle.bundle_tree_names.specs.declared.error.Error.{Error}
use Rattle.bundle_rules.specs.Entries.{Settings}
use Rattle.bundle_rules.specs.Judging
use Rattle.bundle_rules.specs.Judging.{requests_in, Outcome, GoesOn, Stopped, Loads, Asks, LoadsAll}
use Rattle.bundle_rules.specs.Kept.{Kept, kept_file, kept_module, led_to, number_in, program_of}
use Rattle.bundle_rules.specs.Program.{Loaded, tree_of}
use Rattle.bundle_rules.specs.Nodes.{Text}
use Rattle.bundle_rules.specs.Faults.{Fault, Parties, IsFaultless, IsFirstTreeFault, fault_of}
use Rattle.bundle_link_index.specs.Numbered.{HasNoDoubles}
use Rattle.bundle_link.specs.Files.{AreFilesOf, IsLed}
use Rattle.bundler_call.specs.Loading.{files_on, ids_on, AreAsked, AreFilesNumbered, IsAsked, BeginsList, IsFileSound}
use Rattle.bundler_call.specs.declared.load.LoadList.{LoadList}
use Rattle.bundler_call.proofs.Leading.{item_at, read_at}
use Rattle.bundler_call.specs.Kept.{AreRequested, IsKept}
use Rattle.bundler_call.specs.Judged.{LeadsOn, refused_by}
use Rattle.bundler_call.proofs.Growing.{found, leads_told, told_by}

-- ---- programs

-- the file with a number
pub file_numbered : (kept : Kept) (file : Name) (n : ℕ) → number_in kept file ≡ Some n → slice_get kept.names n ≡ Some file
file_numbered kept file n is =
    let facts = position-Some (name_eq file) kept.names n file is in
    slice_get-get_or kept.names n file facts.0 ∙ ap Some (sym ((name_eq-Decides file (get_or kept.names n file)).0 facts.1))

module _ (settings : Settings) (kept : Kept) (entry : ℕ) where
  -- the tree of a file, by its number
  tree_numbered : (file : Name) (n : ℕ) (loaded : Loaded) → slice_get kept.names n ≡ Some file → kept_module kept file ≡ Some loaded → tree_of (program_of kept settings entry) n ≡ loaded.items
  tree_numbered file n loaded at is =
      ap (λ o. unwrap_or (option_map (λ (x : Loaded). x.items) (option_and_then (kept_module kept) o)) []) at ∙ ap (λ o. unwrap_or (option_map (λ (x : Loaded). x.items) o) []) is

  -- where a request leads
  leads_numbered : (file found : Name) (m n : ℕ) (s : List ℕ) → slice_get kept.names m ≡ Some file → kept_file kept (record { file = file; specifier = s }) ≡ Some found → number_in kept found ≡ Some n → led_to kept m s ≡ Some n
  leads_numbered file found m n s at is number =
      ap (λ o. option_and_then (λ (x : Name). option_and_then (number_in kept) (kept_file kept (record { file = x; specifier = s }))) o) at ∙ ap (λ o. option_and_then (number_in kept) o) is ∙ number

  -- the requests of a file
  led : (numbers : List ℕ) (file : Name) (m : ℕ) (deps : List (String Global × ℕ)) → slice_get kept.names m ≡ Some file → IsAsked settings kept numbers file deps → IsLed (program_of kept settings entry) numbers m deps
  led numbers file m deps at its = record {
    asked = its.asked.2 ∙ ap (requests_in settings) (sym (tree_numbered file m its.asked.0 at its.asked.1));
    leads = λ dep there. (let to = its.leads dep there in (leads_numbered file to.0 m dep.1 (string_bytes dep.0) at to.1 to.2, to.3));
  }

  module _ (list : LoadList) (distinct : IsDistinct (files_on list)) (numbered : AreFilesNumbered kept list) where
    -- the entry with the number at a place
    entry_at : (place m : ℕ) → slice_get (ids_on list) place ≡ Some m → (e : FileName × ℕ) × (slice_get list.files place ≡ Some e) × (e.1 ≡ m)
    entry_at place m at = item_at (λ (e : FileName × ℕ). e.1) list.files place m at

    -- the file with the number at a place
    place_named : (place m : ℕ) → slice_get (ids_on list) place ≡ Some m → (file : Name) × (slice_get (files_on list) place ≡ Some file) × (slice_get kept.names m ≡ Some file)
    place_named place m at =
        let its = entry_at place m at in
        (name_of its.0.0, read_at (λ (e : FileName × ℕ). name_of e.0) list.files place its.0 its.1, file_numbered kept (name_of its.0.0) m (numbered place its.0 its.1 ∙ ap Some its.2))

    -- numbers stand once
    once : HasNoDoubles (ids_on list)
    once = λ i j m at_i at_j.
        let a = place_named i m at_i in
        let b = place_named j m at_j in
        distinct.one_place i j b.0 (a.1 ∙ sym a.2 ∙ b.2) b.1

    pub are_files : AreAsked settings kept list → length list.deps.items ≡ length (files_on list) → AreFilesOf (program_of kept settings entry) list.files list.deps.items
    are_files asked long = record {
      once = once;
      named = λ place e at. file_numbered kept (name_of e.0) e.1 (numbered place e at);
      long = long ∙ length-map list.files (λ (e : FileName × ℕ). name_of e.0);
      led = λ place m its at there. (let file = place_named place m at in led (ids_on list) file.0 m its.items file.2 (asked place file.0 its file.1 there));
    }

-- ---- working

-- a growth is refused before a file is loaded, and nothing is another
pub work_unloaded : (parties : Parties) (settings : Settings) (list : List Name) (place : ℕ) (old new : Kept) → new ≡ old → LoadsAll parties settings list place old Stopped new
work_unloaded parties settings list place old new same =
    subst (λ x. LoadsAll parties settings list place old Stopped x) (sym same) Judging.LoadsAll.stopped

-- A file that was loaded.
module _ (parties : Parties) (settings : Settings) (list : List Name) (place : ℕ) (file : Name) (there : slice_get list place ≡ Some file) (old mid : Kept) (its : Loads parties settings old file GoesOn mid) (kept : IsKept mid file) where
  loaded : (x : Loaded) × (kept_module mid file ≡ Some x)
  loaded = found (kept_module mid file) kept

  -- it is at fault by itself, or a growth is refused
  pub work_faulty : {T : Type 0} (result : Result T Error) (e : Error) (rest : Outcome → Kept → Type 0) → IsErrAnd result (λ x. x ≡ e) → ((x : Loaded) → kept_module mid file ≡ Some x → IfSome (fault_of e) (IsFirstTreeFault file x.items)) → LeadsOn result (LoadsAll parties settings list place old) rest mid
  work_faulty result e rest is first =
      leads_told result e (IsFirstTreeFault file loaded.0.items) _ rest mid is (λ f its_first. Judging.faulty there its loaded.1 its_first) (Judging.stopped_loaded there its) (first loaded.0 loaded.1)

  module _ (texts : List Text) (faultless : (x : Loaded) → kept_module mid file ≡ Some x → IsFaultless file x.items × (texts ≡ requests_in settings x.items)) where
    -- one of its requests is refused, or a growth is among them
    pub work_stopped : (new : Kept) (all : List Name) (o : Option Fault) → Asks parties file texts mid list (refused_by o) new all → LoadsAll parties settings list place old (refused_by o) new
    work_stopped new all o asks =
        let facts = faultless loaded.0 loaded.1 in
        told_by o (λ x. Asks parties file (requests_in settings loaded.0.items) mid list x new all) (λ x. LoadsAll parties settings list place old (refused_by x) new)
        (λ f its_asks. Judging.not_resolved there its loaded.1 facts.0 its_asks) (λ its_asks. Judging.stopped_asking there its loaded.1 facts.0 its_asks)
        (subst (λ x. Asks parties file x mid list (refused_by o) new all) facts.1 asks)

    -- all of them are resolved
    pub work_done : (next : Kept) (all longer : List Name) → Asks parties file texts mid list GoesOn next all → longer ≡ all → (outcome : Outcome) (last : Kept) → LoadsAll parties settings longer (suc place) next outcome last → LoadsAll parties settings list place old outcome last
    work_done next all longer asks same outcome last more =
        let facts = faultless loaded.0 loaded.1 in
        Judging.goes_on there its loaded.1 facts.0 (subst (λ x. Asks parties file x mid list GoesOn next all) facts.1 asks) (subst (λ x. LoadsAll parties settings x (suc place) next outcome last) same more)

-- a file that is kept and was judged has no fault
pub sound : (kept : Kept) (file : Name) (texts : List Text) (settings : Settings) → IsKept kept file → ((x : Loaded) → kept_module kept file ≡ Some x → IsFaultless file x.items × (texts ≡ requests_in settings x.items)) → IsFileSound kept file
sound kept file texts settings there faultless = let its = found (kept_module kept file) there in (its.0, its.1, (faultless its.0 its.1).0)

-- and requests what it requests
pub requested : (kept : Kept) (file : Name) (texts : List Text) (settings : Settings) → IsKept kept file → ((x : Loaded) → kept_module kept file ≡ Some x → IsFaultless file x.items × (texts ≡ requests_in settings x.items)) → AreRequested settings kept file texts
requested kept file texts settings there faultless = λ specifier listed.
    let its = found (kept_module kept file) there in
    let facts = faultless its.0 its.1 in
    record { asking = its.0; there = its.1; faultless = facts.0; requested = subst (λ xs. Contains xs specifier) facts.1 listed }

-- From place to place.

-- what is judged from this place on, is judged of the whole
abbrev pub LoadsOn : Parties → Settings → (list longer : List Name) → ℕ → (old now : Kept) → Type 0
LoadsOn parties settings list longer place old now =
    (outcome : Outcome) (last : Kept) → LoadsAll parties settings longer place now outcome last → LoadsAll parties settings list 0 old outcome last

-- where a place is empty, the list has ended
pub none_past : {X : Type 0} (xs : List X) (n : ℕ) → slice_get xs n ≡ None → length xs ≤ n
none_past [] n none = omega arith
none_past (x ∷ xs) zero none = cc
none_past (x ∷ xs) (suc n) none = let le : length xs ≤ n = none_past xs n none in omega (arith, le)

module _ (parties : Parties) (settings : Settings) where
  -- one more
  pub loads_next : (list longer more : List Name) (place : ℕ) (old now new : Kept) → LoadsOn parties settings list longer place old now → ((outcome : Outcome) (last : Kept) → LoadsAll parties settings more (suc place) new outcome last → LoadsAll parties settings longer place now outcome last) → LoadsOn parties settings list more (place + 1) old new
  loads_next list longer more place old now new on step = λ outcome last all.
      on outcome last (step outcome last (subst (λ n. LoadsAll parties settings more n new outcome last) (next place) all))
    where
      next : (n : ℕ) → n + 1 ≡ suc n
      next n = omega arith

  -- the end
  pub loads_end : (list longer : List Name) (place : ℕ) (old now : Kept) → length longer ≤ place → place ≤ length longer → LoadsOn parties settings list longer place old now → LoadsAll parties settings list 0 old GoesOn now
  loads_end list longer place old now past within on =
      let is : length longer ≡ place = omega (arith, past, within) in
      on GoesOn now (subst (λ n. LoadsAll parties settings longer n now GoesOn now) is Judging.over)

  pub loads_over : (list longer : List Name) (place : ℕ) (old now : Kept) → slice_get longer place ≡ None → place ≤ length longer → LoadsOn parties settings list longer place old now → LoadsAll parties settings list 0 old GoesOn now
  loads_over list longer place old now none within on = loads_end list longer place old now (none_past longer place none) within on

-- the first place is within any list
pub none_before_all : (xs : List Name) → 0 ≤ length xs
none_before_all xs = omega arith

-- a list that begins with another is as long
pub begins_longer : (xs ys : List Name) → BeginsList xs ys → length xs ≤ length ys
begins_longer xs ys begins = let long : length ys ≡ length xs + length begins.0 = ap length begins.1 ∙ length-append xs begins.0 in omega (arith, long)

-- the next place is within a list that has grown
pub within_grown : (xs ys : List Name) (n : ℕ) (file : Name) → slice_get xs n ≡ Some file → length xs ≤ length ys → n + 1 ≤ length ys
within_grown xs ys n file there grown = let less : n < length xs = slice_get_within xs n file there in omega (arith, less, grown)
