-- What linking and the hook tell of the program of an entry, and what that says of all entries.
-- Bundles of entries that stand in turn, and why there may be none of one of them.
-- A loader that hands over its trees stands for the one that it was, for each file of which nothing is kept.
-- What a module says as it was handed in, it says as it is kept.
-- What is read of the files of a load list is that of the program of what is kept.
use Rattle.std.proofs.Common.{◌≡◌, ◌==◌, ℕ, suc, zero, ◌<◌, Bool, List, [], ◌∷◌, Some, length, slice_get, refl, sym, ap, subst, ◌∙◌, inl, inr, arith, ◌⊎◌, ◌++◌, Contains, map, append-nil, append_assoc, ◌≢◌, None, Result, Ok, Err, OnOk, true≢false, Bor, ◌+◌, ◌≤◌}
use Rattle.std.specs.Prelude.{IfSome, Option, IsSome as IsSome_reading, IfOk}
use Rattle.std.specs.List.{AllZip}
use Rattle.std.specs.declared.alloc.Global.{Global}
use Rattle.std.specs.declared.string.String.{String}
use Rattle.std.proofs.lemmas.Option.{same_Some}
use Rattle.std.proofs.lemmas.List.Elements.{Contains-append_left, Contains-append_right, Contains-push}
use Rattle.std.specs.Option.{IfSome as IfSome_handing, IsSome, option_map, option_and_then}
use Rattle.std.specs.declared.vec.Vec.{Vec}
use Rattle.std.proofs.lemmas.List.Quantifiers.{position-Some}
use Rattle.bundle_tree_names.specs.FileName.{Name, name_of, name_eq}
use Rattle.bundle_tree_names.specs.declared.file_name.FileName.{FileName}
use Rattle.bundle_tree_names.specs.declared.error.Error.{Error}
use Rattle.bundle_syntax.specs.Item.{Item}
use Rattle.bundle_tree_ast.specs.declared.expr.Expr.{Expr}
use Rattle.bundle_tree_ast.specs.declared.module.Module.{Module}
use Rattle.bundle_tree_ast.specs.declared.prop.KeyValueProp.{KeyValueProp}
use Rattle.bundle_rules.specs.Cleared.{cleared}
use Rattle.bundle_rules.specs.Entries.{Settings}
use Rattle.bundle_rules.specs.Faults as f
use Rattle.bundle_rules.specs.Faults.{Fault, HookFault, IsFaultlessProgram, IsFirstProgramFault, MayAnswer, Parties, fault_of, IsFaultless, IsFirstTreeFault, last_number}
use Rattle.bundle_rules.specs.Judging as j
use Rattle.bundle_rules.specs.Judging.{AcceptsProgram, AnsweredBefore, Entry, IsProgramOf, RefusesEntries, RefusesProgram, Asks, Grows, Loads, Outcome, requests_in}
use Rattle.bundle_rules.specs.Kept.{Kept, program_of, Answers, Stays, kept_module, number_in}
use Rattle.bundle_rules.specs.Program.{Loaded, Program, IsList, module_of}
use Rattle.bundle_rules.specs.Nodes.{Text}
use Rattle.bundle_rules.proofs.KeptLemmas.{stays}
use Rattle.bundle_rules.proofs.CallLemmas.{requests}
use Rattle.bundle_rules.proofs.FaultLemmas.{faultless, faultless_of_cleared, first_fault}
use Rattle.bundle_rules.specs.Tables as t
use Rattle.bundle_rules.specs.Tables.{IsRequestTable}
use Rattle.bundle_tree.specs.declared.load.ModuleData.{ModuleData}
use Rattle.bundle_tree_listed.specs.Tree.{module_items}
use Rattle.bundle_link.specs.Files.{AreFilesOf, numbers_of}
use Rattle.bundle_link.specs.Refusals.{IsTreeRefusal, Links}
use Rattle.bundler_entry.specs.Asked.{AreAnsweredBefore, AreAnswersBefore, IsAnsweredFor, IsRefusedAt}
use Rattle.bundler_entry.specs.Hook as h
use Rattle.bundler_entry.specs.Hook.{HoldsProperties, IsAskedFault}
use Rattle.bundler_entry.specs.Linked.{IsCallOf, IsLinkedEntry}
use Rattle.bundler_entry.specs.Made.{AreOfAnswers, IsContextsFaultOf, IsRefusedMaking}
use Rattle.bundler_entry.specs.Merged.{IsMergedIn}
use Rattle.bundler_entry.specs.Unlinked.{error_of}
use Rattle.bundler_entry.specs.declared.call.EntryCall.{EntryCall}
use Rattle.bundler_entry.specs.declared.call.OrderedConfig.{OrderedConfig}
use Rattle.bundler_entry.specs.declared.entry.MetaAnswer.{MetaAnswer}
use Rattle.bundler_entry.specs.declared.linked.LinkedEntry.{LinkedEntry}
use Rattle.bundler_entry.specs.declared.unlinked.EntryError.{EntryError}
use Rattle.bundler_entry.proofs.AskedLemmas.{answered-before}
use Rattle.bundler_entry.proofs.StatementLemmas.{answers-held, entry-bundle}
use Rattle.bundler_entry.proofs.PartsLemmas.{contexts-lack}
use Rattle.bundler_entry.specs.Source.{AreSourcesOf, IsReadProgram as IsProgramOf_sources, IsSourceOf}
use Rattle.bundler_entry.specs.declared.source.ReadFiles.{ReadFiles as Read}
use Rattle.bundler_entry.specs.declared.source.ReadFile.{ReadFile}
use Rattle.bundler_call.specs.Judged.{IsBundledFor, IsFinishedBundle, IsMergedBundle, parties_asked}
use Rattle.bundler_call.specs.Kept.{parties_of, entry_of, settings_of, answers_of, Advances, IsKept, Proceeds, LoadsAlike, kept_as}
use Rattle.bundler_call.specs.Linking.{answered_by, IsMergedFor, IsRefusalOfEntries, IsRefusalOfProgram, LacksEntryContexts, IsNumberedOn, IsFileOn, IsListLoaded, IsReadListOf}
use Rattle.bundler_call.specs.declared.bundle.Bundle.{Bundle}
use Rattle.bundler_call.proofs.Growing.{told_as, told_where, asks_as, loads_as, grows_along, grows_trans, still_kept}
use Rattle.bundler_call.specs.Answer.{kind_of}
use Rattle.bundler_call.specs.Bundler.{entry_files, HasFileNumber}
use Rattle.bundler_call.specs.Loading.{files_on, AreFilesNumbered, BeginsList, IsFileSound, ids_on}
use Rattle.bundler_call.specs.declared.bundle.BundleKind.TheVariants.{Named}
use Rattle.bundler_call.specs.declared.load.LoadList.{LoadList}
use Rattle.bundler_call.proofs.Leading.{number_listed, AreNumberedIn, item_of}
use Rattle.bundler_call.proofs.Programs.{are_files, file_numbered}

-- ---- linking

-- What the hook answers.

module _ (may_give : Name → Bool → List (KeyValueProp Expr) → Type 0) (may_fail : Name → Bool → Type 0) (p : Program) where
  answers : (m : ℕ) → IsAnsweredFor may_give p m → MayAnswer p (answered_by may_give may_fail) m
  answers m its = record {
    properties = cleared its.answer;
    held = record { loaded = its.loaded; kept = its.there; answer = its.answer; answered = its.right.held; cleared = refl };
    right = its.right.right p refl;
  }

  answers_before : (list : List ℕ) (i : ℕ) → AreAnsweredBefore may_give p list i → AnsweredBefore p (answered_by may_give may_fail) list i
  answers_before list i all = λ k m file less stands asked. answers m (all k m less stands.listed asked)

  -- the hook is asked for all, and a program without a fault is accepted
  pub accepts : (list : List ℕ) → IsFaultlessProgram p → IsList p list → AreAnsweredBefore may_give p list (length list) → AcceptsProgram p (answered_by may_give may_fail)
  accepts list faultless is_list all = record { faultless = faultless; list = list; is_list = is_list; answered = answers_before list (length list) all }

  hook_fault : (m : ℕ) (file : Name) (loaded : Loaded) (fault : Fault) → module_of p m ≡ Some loaded → IsAskedFault may_give may_fail loaded.file_name (m == p.entry) p.settings.iife file fault → HookFault p (answered_by may_give may_fail) m file fault
  hook_fault m file loaded fault there (h.fails may) = f.fails loaded there may
  hook_fault m file loaded fault there (h.answers answer holds wrong) =
      f.answers (cleared answer) (record { loaded = loaded; kept = there; answer = answer; answered = holds; cleared = refl }) (wrong p refl)

  -- what it is asked for has a fault
  refuses_hook : (list : List ℕ) (fault : Fault) → IsFaultlessProgram p → IsList p list → IsRefusedAt may_give may_fail p list fault → RefusesProgram p (answered_by may_give may_fail) fault
  refuses_hook list fault faultless is_list at =
      j.by_hook faultless is_list (record { listed = at.listed; its_file = at.its_file }) (answers_before list at.i at.before) at.asked (hook_fault at.m at.file at.loaded fault at.there at.wrong)

  -- The refusals of a program.

  pub refused_linking : (unlinked : EntryError) → IfSome (fault_of (error_of unlinked)) (IsFirstProgramFault p) → IsRefusalOfProgram (answered_by may_give may_fail) p unlinked
  refused_linking unlinked told = told_as (fault_of (error_of unlinked)) (IsFirstProgramFault p) _ (λ fault its. inl (j.by_program its)) told

  pub refused_hook : (list : List ℕ) (unlinked : EntryError) → IsFaultlessProgram p → IsList p list → IfSome (fault_of (error_of unlinked)) (IsRefusedAt may_give may_fail p list) → IsRefusalOfProgram (answered_by may_give may_fail) p unlinked
  refused_hook list unlinked faultless is_list told = told_as (fault_of (error_of unlinked)) (IsRefusedAt may_give may_fail p list) _ (λ fault at. inl (refuses_hook list fault faultless is_list at)) told

  -- What is made of it, or why nothing is.

  module _ (entry : ℕ) (call : EntryCall) (is_call : IsCallOf p entry call) (linked : LinkedEntry) (its : IsLinkedEntry p call linked)
      (given : List MetaAnswer) (asked : AreAnswersBefore may_give p linked.reached.list.items (length linked.reached.list.items) given) where
    pub accepted : AcceptsProgram p (answered_by may_give may_fail)
    accepted = accepts linked.reached.list.items its.links.faultless its.reached.is_list (answered-before may_give p linked.reached.list.items (length linked.reached.list.items) given asked)

    pub merged_right : (merged : Module) → (answers : ℕ → Option (List Item)) × AreOfAnswers given answers × IsMergedIn its.links.places linked answers merged → IsMergedFor (answered_by may_give may_fail) call.config.now p merged
    merged_right merged (answers, of, is_merged) = record {
      accepted = accepted;
      bundle = λ made finished.
          entry-bundle p entry call is_call linked its (record { may_answer = HoldsProperties may_give }) answers (answers-held p entry call is_call linked its may_give given asked answers of) made
          (record { merged = merged; is_merged = is_merged; finished = finished });
    }

    pub refused_merging : (unlinked : EntryError) → (answers : ℕ → Option (List Item)) × AreOfAnswers given answers × IsRefusedMaking its.links.places call linked answers unlinked → IsRefusalOfProgram (answered_by may_give may_fail) p unlinked
    refused_merging unlinked (answers, of, is_refused) =
        told_where (fault_of (error_of unlinked)) _ (λ fault is. inr (accepted, contexts-lack p entry call is_call linked its (record { may_answer = HoldsProperties may_give }) answers (answers-held p entry call is_call linked its may_give given asked answers of) unlinked fault is_refused is))

-- Entries.

module _ (kept : Kept) (settings : Settings) (parties : Parties) where
  -- a file has one number, and so an entry one program
  pub one_program : (entry : Entry) (p q : Program) → IsProgramOf kept settings entry p → IsProgramOf kept settings entry q → p ≡ q
  one_program entry p q a b = a.is ∙ ap (program_of kept settings) (same_Some a.number b.number (sym a.its_number ∙ b.its_number)) ∙ sym b.is

  -- the first entry is refused
  pub refuses_first : (entry : Entry) (rest : List Entry) (p : Program) (fault : Fault) → IsProgramOf kept settings entry p → RefusesProgram p parties fault → RefusesEntries kept settings parties (entry ∷ rest) fault
  refuses_first entry rest p fault its refused = record {
    i = 0;
    entry = entry;
    p = p;
    there = refl;
    its_program = its;
    refused = refused;
    accepted_before = λ k other q less at is. (let no : ⊥ = omega (arith, less) in absurd no);
  }

  -- the first is accepted, and one of the others refused
  pub refuses_later : (entry : Entry) (rest : List Entry) (p : Program) (fault : Fault) → IsProgramOf kept settings entry p → AcceptsProgram p parties → RefusesEntries kept settings parties rest fault → RefusesEntries kept settings parties (entry ∷ rest) fault
  refuses_later entry rest p fault its accepted later = record {
    i = suc later.i;
    entry = later.entry;
    p = later.p;
    there = later.there;
    its_program = later.its_program;
    refused = later.refused;
    accepted_before = before;
  }
    where
      before : (k : ℕ) (other : Entry) (q : Program) → k < suc later.i → slice_get (entry ∷ rest) k ≡ Some other → IsProgramOf kept settings other q → AcceptsProgram q parties
      before zero other q less at is =
          subst (λ x. AcceptsProgram x parties) (one_program entry p q its (subst (λ e. IsProgramOf kept settings e q) (sym (same_Some entry other at)) is)) accepted
      before (suc k) other q less at is = let fewer : k < later.i = omega (arith, less) in later.accepted_before k other q fewer at is

  -- contexts do not suffice for the first entry
  pub lacks_first : (entry : Entry) (rest : List Entry) (p : Program) (fault : Fault) → IsProgramOf kept settings entry p → AcceptsProgram p parties → IsContextsFaultOf p parties.hooks fault → LacksEntryContexts kept settings parties (entry ∷ rest) fault
  lacks_first entry rest p fault its accepted contexts = record {
    contexts = contexts;
    i = 0;
    entry = entry;
    p = p;
    there = refl;
    its_program = its;
    accepted = accepted;
    accepted_before = λ k other q less at is. (let no : ⊥ = omega (arith, less) in absurd no);
  }

  -- the first is accepted, and contexts do not suffice for one of the others
  pub lacks_later : (entry : Entry) (rest : List Entry) (p : Program) (fault : Fault) → IsProgramOf kept settings entry p → AcceptsProgram p parties → LacksEntryContexts kept settings parties rest fault → LacksEntryContexts kept settings parties (entry ∷ rest) fault
  lacks_later entry rest p fault its accepted later = record {
    contexts = later.contexts;
    i = suc later.i;
    entry = later.entry;
    p = later.p;
    there = later.there;
    its_program = later.its_program;
    accepted = later.accepted;
    accepted_before = before;
  }
    where
      before : (k : ℕ) (other : Entry) (q : Program) → k < suc later.i → slice_get (entry ∷ rest) k ≡ Some other → IsProgramOf kept settings other q → AcceptsProgram q parties
      before zero other q less at is =
          subst (λ x. AcceptsProgram x parties) (one_program entry p q its (subst (λ e. IsProgramOf kept settings e q) (sym (same_Some entry other at)) is)) accepted
      before (suc k) other q less at is = let fewer : k < later.i = omega (arith, less) in later.accepted_before k other q fewer at is

-- The same by parties with this hook, whatever loader and resolver may do.

module _ (a b : Parties) where
  abbrev pub AsMuch : Type 0
  AsMuch = (p : Program) (m : ℕ) → (MayAnswer p a m → MayAnswer p b m) × ((file : Name) (fault : Fault) → HookFault p a m file fault → HookFault p b m file fault)

  module _ (as_much : AsMuch) where
    pub accepts_as : (p : Program) → AcceptsProgram p a → AcceptsProgram p b
    accepts_as p its = record { faultless = its.faultless; list = its.list; is_list = its.is_list; answered = λ k m file less stands asked. (as_much p m).0 (its.answered k m file less stands asked) }

    refuses_as : (p : Program) (fault : Fault) → RefusesProgram p a fault → RefusesProgram p b fault
    refuses_as p fault (j.by_program first) = j.by_program first
    refuses_as p fault (j.by_hook faultless is_list stands before asked wrong) =
        j.by_hook faultless is_list stands (λ k m file less at needs. (as_much p m).0 (before k m file less at needs)) asked ((as_much p _).1 _ fault wrong)

    pub entries_as : (kept : Kept) (settings : Settings) (entries : List Entry) (fault : Fault) → RefusesEntries kept settings a entries fault → RefusesEntries kept settings b entries fault
    entries_as kept settings entries fault its = record {
      i = its.i;
      entry = its.entry;
      p = its.p;
      there = its.there;
      its_program = its.its_program;
      refused = refuses_as its.p fault its.refused;
      accepted_before = λ k other q less at is. accepts_as q (its.accepted_before k other q less at is);
    }

module _ (may_load : Name → ModuleData → Type 0) (may_fail_load : Name → Type 0) (may_resolve : Name → List ℕ → Name → Type 0) (may_fail_resolve : Name → List ℕ → Type 0) (may_give : Name → Bool → List (KeyValueProp Expr) → Type 0) (may_fail_hook : Name → Bool → Type 0) where
  -- the same hook
  hook_as : (p : Program) (m : ℕ) (file : Name) (fault : Fault) → HookFault p (answered_by may_give may_fail_hook) m file fault → HookFault p (parties_of may_load may_fail_load may_resolve may_fail_resolve may_give may_fail_hook) m file fault
  hook_as p m file fault (f.fails loaded there may) = f.fails loaded there may
  hook_as p m file fault (f.answers properties held wrong) = f.answers properties held wrong

  pub by_hook_alone : AsMuch (answered_by may_give may_fail_hook) (parties_of may_load may_fail_load may_resolve may_fail_resolve may_give may_fail_hook)
  by_hook_alone = λ p m. (λ its. record { properties = its.properties; held = its.held; right = its.right }, hook_as p m)

  -- why an entry lacks contexts does not depend on loader and resolver
  lacks_as : (kept : Kept) (settings : Settings) (entries : List Entry) (fault : Fault) → LacksEntryContexts kept settings (answered_by may_give may_fail_hook) entries fault → LacksEntryContexts kept settings (parties_of may_load may_fail_load may_resolve may_fail_resolve may_give may_fail_hook) entries fault
  lacks_as kept settings entries fault its = record {
    i = its.i;
    entry = its.entry;
    there = its.there;
    accepted_before = λ k other q less at is. accepts_as _ _ by_hook_alone q (its.accepted_before k other q less at is);
    p = its.p;
    its_program = its.its_program;
    accepted = accepts_as _ _ by_hook_alone its.p its.accepted;
    contexts = its.contexts;
  }

  pub refusal_as : (kept : Kept) (settings : Settings) (entries : List Entry) (unlinked : EntryError) → IsRefusalOfEntries (answered_by may_give may_fail_hook) settings kept entries unlinked → IsRefusalOfEntries (parties_of may_load may_fail_load may_resolve may_fail_resolve may_give may_fail_hook) settings kept entries unlinked
  refusal_as kept settings entries unlinked told =
      told_as (fault_of (error_of unlinked)) _ _ (λ fault why. elim why [ inl refuses ↦ inl (entries_as _ _ by_hook_alone kept settings entries fault refuses) | inr lacks ↦ inr (lacks_as kept settings entries fault lacks) ]) told

  -- nor does what a bundle of an entry is
  bundled_as : (settings : Settings) (kept : Kept) (entry : String Global × FileName) (bundle : Bundle) → IsBundledFor (answered_by may_give may_fail_hook) settings kept entry bundle → IsBundledFor (parties_of may_load may_fail_load may_resolve may_fail_resolve may_give may_fail_hook) settings kept entry bundle
  bundled_as settings kept entry bundle its = record {
    its_kind = its.its_kind;
    p = its.p;
    its_program = its.its_program;
    its_id = its.its_id;
    accepted = accepts_as _ _ by_hook_alone its.p its.accepted;
    clean = its.clean;
    undoubled = its.undoubled;
    is_bundle = its.is_bundle;
    names = its.names;
  }

  pub all_bundled_as : (settings : Settings) (kept : Kept) (entries : List (String Global × FileName)) (bundles : List Bundle) → AllZip (IsBundledFor (answered_by may_give may_fail_hook) settings kept) entries bundles
      → AllZip (IsBundledFor (parties_of may_load may_fail_load may_resolve may_fail_resolve may_give may_fail_hook) settings kept) entries bundles
  all_bundled_as settings kept [] [] all = tt
  all_bundled_as settings kept [] (bundle ∷ bundles) all = absurd all
  all_bundled_as settings kept (entry ∷ entries) [] all = absurd all
  all_bundled_as settings kept (entry ∷ entries) (bundle ∷ bundles) all = (bundled_as settings kept entry bundle all.0, all_bundled_as settings kept entries bundles all.1)

-- ---- bundling
module _ (parties : Parties) (config : OrderedConfig) (kept : Kept) (list : LoadList) where
  -- the program of an entry whose file has this number
  program_here : (entry : String Global × FileName) (id : ℕ) → HasFileNumber kept entry id → IsProgramOf kept (settings_of config) (entry_of entry) (program_of kept (settings_of config) id)
  program_here entry id number = record { number = id; its_number = number; is = refl }

  -- where no number is left, no entry is
  no_entry : (rest : List (String Global × FileName)) → AllZip (IsNumberedOn kept list) rest [] → rest ≡ []
  no_entry [] all = refl
  no_entry (entry ∷ rest) all = absurd all

  -- these are the bundles so far of entries of which these are left, with these numbers; what refuses one of those refuses all, and contexts that one of them lacks are lacked by all
  abbrev pub AreMadeSoFar : (entries rest : List (String Global × FileName)) → List ℕ → List Bundle → Type 0
  AreMadeSoFar entries rest ids bundles =
      AllZip (IsNumberedOn kept list) rest ids
      × ((more : List Bundle) → AllZip (IsMergedBundle parties config kept) rest more → AllZip (IsMergedBundle parties config kept) entries (bundles ++ more))
      × ((fault : Fault) → RefusesEntries kept (settings_of config) parties (map entry_of rest) fault → RefusesEntries kept (settings_of config) parties (map entry_of entries) fault)
      × ((fault : Fault) → LacksEntryContexts kept (settings_of config) parties (map entry_of rest) fault → LacksEntryContexts kept (settings_of config) parties (map entry_of entries) fault)

  -- where no entry or no number is left, no entry is
  pub made_over : (entries rest : List (String Global × FileName)) (ids : List ℕ) (bundles : List Bundle) → (rest ≡ []) ⊎ (ids ≡ []) → AreMadeSoFar entries rest ids bundles → rest ≡ []
  made_over entries rest ids bundles (inl is) so_far = is
  made_over entries rest ids bundles (inr is) so_far =
      no_entry rest (subst (λ xs. AllZip (IsNumberedOn kept list) rest xs) is so_far.0)

  -- where nothing is left, they are all
  pub made_all : (entries rest : List (String Global × FileName)) (ids : List ℕ) (bundles : List Bundle) → (rest ≡ []) ⊎ (ids ≡ []) → AreMadeSoFar entries rest ids bundles → AllZip (IsMergedBundle parties config kept) entries bundles
  made_all entries rest ids bundles over so_far =
      let none = made_over entries rest ids bundles over so_far in
      subst (λ xs. AllZip (IsMergedBundle parties config kept) entries xs) (append-nil bundles) (so_far.1 [] (subst (λ xs. AllZip (IsMergedBundle parties config kept) xs []) (sym none) tt))

  module _ (entries rest left : List (String Global × FileName)) (ids numbers : List ℕ) (bundles : List Bundle) (entry : String Global × FileName) (id : ℕ) (is_rest : rest ≡ entry ∷ left) (is_ids : ids ≡ id ∷ numbers) (so_far : AreMadeSoFar entries rest ids bundles) where
    -- the numbers of what is left
    all_left : AllZip (IsNumberedOn kept list) (entry ∷ left) (id ∷ numbers)
    all_left = subst (λ xs. AllZip (IsNumberedOn kept list) xs (id ∷ numbers)) is_rest (subst (λ xs. AllZip (IsNumberedOn kept list) rest xs) is_ids so_far.0)

    pub number_here : IsNumberedOn kept list entry id
    number_here = all_left.0

    -- what refuses one of the entries from here on refuses all
    refuses_on : (fault : Fault) → RefusesEntries kept (settings_of config) parties (entry_of entry ∷ map entry_of left) fault → RefusesEntries kept (settings_of config) parties (map entry_of entries) fault
    refuses_on fault refuses = so_far.2 fault (subst (λ xs. RefusesEntries kept (settings_of config) parties (map entry_of xs) fault) (sym is_rest) refuses)

    -- contexts that one of them lacks are lacked by all
    lacks_on : (fault : Fault) → LacksEntryContexts kept (settings_of config) parties (entry_of entry ∷ map entry_of left) fault → LacksEntryContexts kept (settings_of config) parties (map entry_of entries) fault
    lacks_on fault lacks = so_far.3 fault (subst (λ xs. LacksEntryContexts kept (settings_of config) parties (map entry_of xs) fault) (sym is_rest) lacks)

    -- one more
    pub made_more : (made : List Bundle) (bundle : Bundle) → made ≡ bundles ++ bundle ∷ [] → bundle.kind ≡ Named entry.0 → bundle.id ≡ id → IsMergedFor parties config (program_of kept (settings_of config) id) bundle.module → AreMadeSoFar entries left numbers made
    made_more made bundle is_made named numbered is_merged =
        let program : IsProgramOf kept (settings_of config) (entry_of entry) (program_of kept (settings_of config) id) = program_here entry id number_here.0 in
        let its : IsMergedBundle parties config kept entry bundle = λ whole finished.
        let right = is_merged.bundle whole.module finished.tree in record {
          its_kind = ap kind_of (finished.kind ∙ named);
          p = program_of kept (settings_of config) id;
          its_program = program;
          its_id = finished.id ∙ numbered;
          accepted = is_merged.accepted;
          clean = right.clean;
          undoubled = right.undoubled;
          is_bundle = right.is_bundle;
          names = right.names;
        } in (
          all_left.1,
          λ more are. subst (λ xs. AllZip (IsMergedBundle parties config kept) entries (xs ++ more)) (sym is_made) (subst (λ xs. AllZip (IsMergedBundle parties config kept) entries xs) (sym (append_assoc bundles (bundle ∷ []) more)) (so_far.1 (bundle ∷ more) (subst (λ xs. AllZip (IsMergedBundle parties config kept) xs (bundle ∷ more)) (sym is_rest) (its, are)))),
          λ fault refuses. refuses_on fault (refuses_later kept (settings_of config) parties (entry_of entry) (map entry_of left) (program_of kept (settings_of config) id) fault program is_merged.accepted refuses),
          λ fault lacks. lacks_on fault (lacks_later kept (settings_of config) parties (entry_of entry) (map entry_of left) (program_of kept (settings_of config) id) fault program is_merged.accepted lacks),
        )

    -- this one is refused
    pub refused_here : (unlinked : EntryError) → IsRefusalOfProgram parties (program_of kept (settings_of config) id) unlinked → IsRefusalOfEntries parties (settings_of config) kept (map entry_of entries) unlinked
    refused_here unlinked told =
        told_as (fault_of (error_of unlinked)) _ _ (λ fault why. elim why [
          | inl refuses ↦ inl (refuses_on fault (refuses_first kept (settings_of config) parties (entry_of entry) (map entry_of left) (program_of kept (settings_of config) id) fault (program_here entry id number_here.0) refuses))
          | inr (accepted, contexts) ↦ inr (lacks_on fault (lacks_first kept (settings_of config) parties (entry_of entry) (map entry_of left) (program_of kept (settings_of config) id) fault (program_here entry id number_here.0) accepted contexts))
        ]) told

-- What is finished.

module _ (config : OrderedConfig) where
  -- these are finished of bundles of which these are left
  abbrev pub AreFinishedSoFar : (merged rest made : List Bundle) → Type 0
  AreFinishedSoFar merged rest made =
      (more : List Bundle) → AllZip (IsFinishedBundle config) rest more → AllZip (IsFinishedBundle config) merged (made ++ more)

  pub finished_none : (merged rest made : List Bundle) → rest ≡ merged → made ≡ [] → AreFinishedSoFar merged rest made
  finished_none merged rest made same none = λ more are.
      subst (λ xs. AllZip (IsFinishedBundle config) merged (xs ++ more)) (sym none) (subst (λ xs. AllZip (IsFinishedBundle config) xs more) same are)

  pub finished_more : (merged rest left made all : List Bundle) (before after : Bundle) → rest ≡ before ∷ left → all ≡ made ++ after ∷ [] → IsFinishedBundle config before after → AreFinishedSoFar merged rest made → AreFinishedSoFar merged left all
  finished_more merged rest left made all before after is_rest is_all is so_far = λ more are.
      subst (λ xs. AllZip (IsFinishedBundle config) merged (xs ++ more)) (sym is_all)
      (subst (λ xs. AllZip (IsFinishedBundle config) merged xs) (sym (append_assoc made (after ∷ []) more))
      (so_far (after ∷ more) (subst (λ xs. AllZip (IsFinishedBundle config) xs (after ∷ more)) (sym is_rest) (is, are))))

  pub finished_all : (merged rest made : List Bundle) → rest ≡ [] → AreFinishedSoFar merged rest made → AllZip (IsFinishedBundle config) merged made
  finished_all merged rest made none so_far =
      subst (λ xs. AllZip (IsFinishedBundle config) merged xs) (append-nil made) (so_far [] (subst (λ xs. AllZip (IsFinishedBundle config) xs []) (sym none) tt))

  -- what is merged of entries is, finished, their bundles
  pub all_finished : (parties : Parties) (kept : Kept) (entries : List (String Global × FileName)) (merged made : List Bundle) → AllZip (IsMergedBundle parties config kept) entries merged → AllZip (IsFinishedBundle config) merged made → AllZip (IsBundledFor parties (settings_of config) kept) entries made
  all_finished parties kept [] [] [] all are = tt
  all_finished parties kept [] [] (bundle ∷ bundles) all are = absurd are
  all_finished parties kept [] (bundle ∷ bundles) made all are = absurd all
  all_finished parties kept (entry ∷ entries) [] made all are = absurd all
  all_finished parties kept (entry ∷ entries) (before ∷ merged) [] all are = absurd are
  all_finished parties kept (entry ∷ entries) (before ∷ merged) (after ∷ made) all are =
      (all.0 after are.0, all_finished parties kept entries merged made all.1 are.1)

-- The files of the entries stand on the list.
module _ (kept : Kept) (list : LoadList) (numbered : AreFilesNumbered kept list) where
  each_on : (entries : List (String Global × FileName)) (ids : List ℕ) → ((file : Name) → Contains (entry_files entries) file → Contains (files_on list) file) → AllZip (HasFileNumber kept) entries ids → AllZip (IsNumberedOn kept list) entries ids
  each_on [] [] there all = tt
  each_on [] (id ∷ ids) there all = absurd all
  each_on (entry ∷ entries) [] there all = absurd all
  each_on (entry ∷ entries) (id ∷ ids) there all =
      let first : Contains (entry_files (entry ∷ entries)) (name_of entry.1) = Contains-append_left (name_of entry.1 ∷ []) (entry_files entries) (name_of entry.1) (Contains-push [] (name_of entry.1)) in (
        (all.0, number_listed kept list.files (name_of entry.1) id numbered (there (name_of entry.1) first) all.0),
        each_on entries ids (λ file its. there file (Contains-append_right (name_of entry.1 ∷ []) (entry_files entries) file its)) all.1,
      )

  pub all_on : (entries : List (String Global × FileName)) (ids : List ℕ) (files : List Name) → BeginsList files (files_on list) → files ≡ entry_files entries → AllZip (HasFileNumber kept) entries ids → AllZip (IsNumberedOn kept list) entries ids
  all_on entries ids files begins same all =
      each_on entries ids (λ file there. subst (λ xs. Contains xs file) (sym begins.1) (Contains-append_left files begins.0 file (subst (λ xs. Contains xs file) (sym same) there))) all

-- what is so of a value is so of one that is the same
pub along : {A : Type 0} {a b : A} → a ≡ b → (P : A → Type 0) → P a → P b
along same P is = subst P same is

-- ---- handing

-- Files of which nothing is kept.

-- a file that is kept is none of those
kept_no : (kept : Kept) (file : Name) → IsKept kept file → kept_module kept file ≡ None → ⊥
kept_no kept file is none = by (kept_module kept file) none is
  where
    by : (o : Option Loaded) → o ≡ None → IsSome o → ⊥
    by None none some = true≢false (sym some)
    by (Some loaded) none some = cc

-- of a file of which nothing is kept in the end, nothing was kept
pub none_before : (old new : Kept) → Stays old new → (file : Name) → kept_module new file ≡ None → kept_module old file ≡ None
none_before old new its file none = by (kept_module old file) refl
  where
    by : (o : Option Loaded) → kept_module old file ≡ o → kept_module old file ≡ None
    by None is = is
    by (Some loaded) is = absurd (kept_no new file (still_kept old new its file (subst (λ o. IsSome o) (sym is) refl)) none)

module _ {L : Type 0} (may_load : L → Name → ModuleData → Type 0) (may_fail_load : L → Name → Type 0) where
  -- a loader stands for itself
  pub stands_refl : (loader : L) (kept : Kept) → LoadsAlike may_load may_fail_load loader loader kept
  stands_refl loader kept = record { gives = λ file given none may. may; fails = λ file none may. may }

  -- and for one that it is
  pub stands_as : (first later : L) (kept : Kept) → later ≡ first → LoadsAlike may_load may_fail_load first later kept
  stands_as first later kept same = subst (λ l. LoadsAlike may_load may_fail_load first l kept) (sym same) (stands_refl first kept)

  -- for fewer files too
  stands_fewer : (first later : L) (old new : Kept) → ((file : Name) → kept_module new file ≡ None → kept_module old file ≡ None) → LoadsAlike may_load may_fail_load first later old → LoadsAlike may_load may_fail_load first later new
  stands_fewer first later old new fewer its = record {
    gives = λ file given none may. its.gives file given (fewer file none) may;
    fails = λ file none may. its.fails file (fewer file none) may;
  }

  -- as more is kept it still does
  pub stands_on : (first later : L) (old new : Kept) → Stays old new → LoadsAlike may_load may_fail_load first later old → LoadsAlike may_load may_fail_load first later new
  stands_on first later old new its stands = stands_fewer first later old new (none_before old new its) stands

  -- nor where it stays what it is
  pub stands_kept : (first later last : L) (old new : Kept) → Stays old new → last ≡ later → LoadsAlike may_load may_fail_load first later old → LoadsAlike may_load may_fail_load first last new
  stands_kept first later last old new its same stands =
      subst (λ l. LoadsAlike may_load may_fail_load first l new) (sym same) (stands_on first later old new its stands)

  -- one that stands for one that stands for another stands for that
  pub stands_trans : (first later last : L) (old new : Kept) → Stays old new → LoadsAlike may_load may_fail_load first later old → LoadsAlike may_load may_fail_load later last new → LoadsAlike may_load may_fail_load first last new
  stands_trans first later last old new its before after = record {
    gives = λ file given none may. before.gives file given (none_before old new its file none) (after.gives file given none may);
    fails = λ file none may. before.fails file (none_before old new its file none) (after.fails file none may);
  }

  -- one that was asked for a file that is kept then
  pub stands_asked : (first later : L) (file : Name) (new : Kept)
      → ((other : Name) (given : ModuleData) → other ≢ file → may_load later other given → may_load first other given)
      → ((other : Name) → other ≢ file → may_fail_load later other → may_fail_load first other)
      → IsKept new file → LoadsAlike may_load may_fail_load first later new
  stands_asked first later file new gives fails kept = record {
    gives = λ other given none. gives other given (apart other none);
    fails = λ other none. fails other (apart other none);
  }
    where
      apart : (other : Name) → kept_module new other ≡ None → other ≢ file
      apart other none same = kept_no new file kept (subst (λ name. kept_module new name ≡ None) same none)

  -- on success
  pub stands_loaded : {T : Type 0} (result : Result T Error) (first later : L) (file : Name) (new : Kept)
      → ((other : Name) (given : ModuleData) → other ≢ file → may_load later other given → may_load first other given)
      → ((other : Name) → other ≢ file → may_fail_load later other → may_fail_load first other)
      → OnOk result (IsKept new file) → OnOk result (LoadsAlike may_load may_fail_load first later new)
  stands_loaded (Ok made) first later file new gives fails kept = stands_asked first later file new gives fails kept
  stands_loaded (Err refusal) first later file new gives fails kept = tt

-- What grows by the answers of a loader that stands for another, grows by those of the other.

module _ {L : Type 0} (may_load : L → Name → ModuleData → Type 0) (may_fail_load : L → Name → Type 0) (may_resolve : Name → List ℕ → Name → Type 0) (settings : Settings) (entries : List Name) (first later : L) where
  pub grows_for : (x y : Kept) → LoadsAlike may_load may_fail_load first later x → Grows (answers_of (may_load later) may_resolve) settings entries x y → Grows (answers_of (may_load first) may_resolve) settings entries x y
  grows_for x y its j.same = j.same
  grows_for x y its (j.met file none room due rest) = j.met file none room due (grows_for _ y (stands_fewer may_load may_fail_load first later x _ (λ other is. is) its) rest)
  grows_for x y its (j.Grows.loaded file answer there none room may rest) =
      j.Grows.loaded file answer there none room (record { given = may.given; may = its.gives file may.given none may.may; is = may.is })
      (grows_for _ y (stands_on may_load may_fail_load first later x _ (stays (answers_of (may_load later) may_resolve) settings entries x _ (j.Grows.loaded file answer there none room may j.same)) its) rest)
  grows_for x y its (j.Grows.resolved asked asking file there faultless requested none may rest) =
      j.Grows.resolved asked asking file there faultless requested none may (grows_for _ y (stands_fewer may_load may_fail_load first later x _ (λ other is. is) its) rest)

module _ {L R : Type 0} (may_load : L → Name → ModuleData → Type 0) (may_resolve : R → Name → List ℕ → Name → Type 0) (settings : Settings) (entries : List Name) where
  pub proceeds_refl : (l : L) (r : R) (c : Kept) → Proceeds may_load may_resolve settings entries l r r c c
  proceeds_refl l r c = record { resolver = refl; grows = j.same }

  pub proceeds_along : (l : L) (r : R) (c d : Kept) → d ≡ c → Proceeds may_load may_resolve settings entries l r r c d
  proceeds_along l r c d same = record { resolver = refl; grows = grows_along _ settings entries c d same }

  -- where nobody is asked to hand over
  pub proceeds_lent : (l l1 : L) (r r1 : R) (c c1 : Kept) → Advances may_load may_resolve settings entries l l1 r r1 c c1 → Proceeds may_load may_resolve settings entries l r r1 c c1
  proceeds_lent l l1 r r1 c c1 its = record { resolver = its.resolver; grows = its.grows }

  pub proceeds_stays : (l : L) (r r1 : R) (c c1 : Kept) → Proceeds may_load may_resolve settings entries l r r1 c c1 → Stays c c1
  proceeds_stays l r r1 c c1 its = stays _ settings entries c c1 its.grows

-- and goes on so
pub proceeds_trans : {L R : Type 0} (may_load : L → Name → ModuleData → Type 0) (may_fail_load : L → Name → Type 0) (may_resolve : R → Name → List ℕ → Name → Type 0) (settings : Settings) (entries : List Name)
    → (l l1 : L) (r r1 r2 : R) (c c1 c2 : Kept) → Proceeds may_load may_resolve settings entries l r r1 c c1 → LoadsAlike may_load may_fail_load l l1 c1 → Proceeds may_load may_resolve settings entries l1 r1 r2 c1 c2 → Proceeds may_load may_resolve settings entries l r r2 c c2
proceeds_trans {R = R} may_load may_fail_load may_resolve settings entries l l1 r r1 r2 c c1 c2 a stands b =
    let from_r : Grows (answers_of (may_load l1) (may_resolve r)) settings entries c1 c2 = subst (λ (x : R). Grows (answers_of (may_load l1) (may_resolve x)) settings entries c1 c2) a.resolver b.grows in
    record { resolver = b.resolver ∙ a.resolver; grows = grows_trans _ settings entries c c1 c2 a.grows (grows_for may_load may_fail_load (may_resolve r) settings entries l l1 c1 c2 stands from_r) }

-- the same of the same entries
pub grows_along_entries : (answers : Answers) (settings : Settings) (xs ys : List (String Global × FileName)) (c c1 : Kept) → xs ≡ ys → Grows answers settings (entry_files xs) c c1 → Grows answers settings (entry_files ys) c c1
grows_along_entries answers settings xs ys c c1 same grows = subst (λ entries. Grows answers settings (entry_files entries) c c1) same grows

-- What is judged by a loader that stands for another is judged by the other.

module _ {L R : Type 0} (may_load : L → Name → ModuleData → Type 0) (may_fail_load : L → Name → Type 0) (may_resolve : R → Name → List ℕ → Name → Type 0) (may_fail_resolve : R → Name → List ℕ → Type 0) (first later : L) where
  -- a file that is loaded
  pub loads_for : (settings : Settings) (r : R) (old new : Kept) (file : Name) (o : Outcome) → LoadsAlike may_load may_fail_load first later old
      → Loads (parties_asked may_load may_fail_load may_resolve may_fail_resolve later r) settings old file o new → Loads (parties_asked may_load may_fail_load may_resolve may_fail_resolve first r) settings old file o new
  loads_for settings r old new file o its loads =
      loads_as (parties_asked may_load may_fail_load may_resolve may_fail_resolve later r) (parties_asked may_load may_fail_load may_resolve may_fail_resolve first r) settings old
      (λ other answer none may. record { given = may.given; may = its.gives other may.given none may.may; is = may.is }) (λ other none may. its.fails other none may) new file o loads

  -- or the fault that is told of it
  pub told_for : (told : Option Fault) (settings : Settings) (r : R) (old new : Kept) (file : Name) → LoadsAlike may_load may_fail_load first later old
      → IfSome_handing told (λ fault. Loads (parties_asked may_load may_fail_load may_resolve may_fail_resolve later r) settings old file (j.Refused fault) new)
      → IfSome_handing told (λ fault. Loads (parties_asked may_load may_fail_load may_resolve may_fail_resolve first r) settings old file (j.Refused fault) new)
  told_for told settings r old new file its is = told_as told _ _ (λ fault loads. loads_for settings r old new file (j.Refused fault) its loads) is

  -- requests of a file, of which the loader has no part
  pub asks_for : (r r1 : R) (file : Name) (texts : List Text) (old new : Kept) (list all : List Name) (o : Outcome) → r1 ≡ r
      → Asks (parties_asked may_load may_fail_load may_resolve may_fail_resolve later r1) file texts old list o new all → Asks (parties_asked may_load may_fail_load may_resolve may_fail_resolve first r) file texts old list o new all
  asks_for r r1 file texts old new list all o same asks =
      asks_as (parties_asked may_load may_fail_load may_resolve may_fail_resolve later r) (parties_asked may_load may_fail_load may_resolve may_fail_resolve first r) (λ asked found may. may) (λ asked may. may) file texts old new list all o
      (subst (λ (x : R). Asks (parties_asked may_load may_fail_load may_resolve may_fail_resolve later x) file texts old list o new all) same asks)

-- ---- reading

-- what a look-up finds is what is kept
pub found_as : (o kept : Option Loaded) (loaded its : Loaded) → o ≡ kept → o ≡ Some its → kept ≡ Some loaded → its ≡ loaded
found_as o kept loaded its same is there = same_Some its loaded (sym is ∙ same ∙ there)

-- its first fault
pub read_faulty : (file : Name) (given : ModuleData) (refusal : Error) → IsTreeRefusal file (module_items 0 given.module) refusal → (loaded : Loaded) → kept_as given ≡ loaded → IfSome (fault_of refusal) (IsFirstTreeFault file loaded.items)
read_faulty file given refusal told loaded is =
    subst (λ (x : Loaded). IfSome (fault_of refusal) (IsFirstTreeFault file x.items)) is (told_as (fault_of refusal) _ _ (first_fault file (module_items 0 given.module)) told)

-- that it has none, and its requests
pub read_faultless : (config : OrderedConfig) (file : Name) (given : ModuleData) (texts : List Text) → ((settings : Settings) → Links config.base settings → IsRequestTable settings file (module_items 0 given.module) (t.Given texts)) → (loaded : Loaded) → kept_as given ≡ loaded → IsFaultless file loaded.items × (texts ≡ requests_in (settings_of config) loaded.items)
read_faultless config file given texts table loaded is =
    let its = table (settings_of config) (refl, refl) in
    subst (λ (x : Loaded). IsFaultless file x.items × (texts ≡ requests_in (settings_of config) x.items)) is (faultless file (module_items 0 given.module) its.0, its.1 ∙ sym (requests (settings_of config) (module_items 0 given.module)))

-- a module that has no fault as it is kept has none as it was handed in
pub read_sound : (kept : Kept) (file : Name) (given : ModuleData) → kept_module kept file ≡ Some (kept_as given) → IsFileSound kept file → (name : Name) × IsFaultless name (module_items 0 given.module)
read_sound kept file given there (loaded, is, none) =
    (file, faultless_of_cleared file (module_items 0 given.module) (subst (λ (x : Loaded). IsFaultless file x.items) (same_Some loaded (kept_as given) (sym is ∙ there)) none))

-- what was kept is found
pub is_there : (kept : Kept) (file : Name) (o : Option (Bor ModuleData)) → option_map (λ (x : Bor ModuleData). kept_as x.now) o ≡ kept_module kept file → IsFileSound kept file → IsSome_reading o
is_there kept file None same (loaded, is, none) = let no : ◌≡◌ {A = Option Loaded} None (Some loaded) = same ∙ is in cc
is_there kept file (Some x) same sound = refl

-- ---- sources
module _ (kept : Kept) (settings : Settings) where
  -- the module with the number of a file
  pub module_numbered : (entry : ℕ) (file : Name) (n : ℕ) (loaded : Loaded) → number_in kept file ≡ Some n → kept_module kept file ≡ Some loaded → module_of (program_of kept settings entry) n ≡ Some loaded
  module_numbered entry file n loaded number is = ap (option_and_then (kept_module kept)) (file_numbered kept file n number) ∙ is

  -- what was read of a file is its module in the program of each entry
  abbrev pub IsReadFor : FileName × ℕ → ReadFile → Type 0
  IsReadFor e source = (entry : ℕ) → IsSourceOf (program_of kept settings entry) e.1 source

  -- these are the sources so far, of files of which these are left
  abbrev pub AreReadSoFar : (all rest : List (FileName × ℕ)) → List ReadFile → Type 0
  AreReadSoFar all rest sources = AreNumberedIn kept rest × ((more : List ReadFile) → AllZip IsReadFor rest more → AllZip IsReadFor all (sources ++ more))

  pub read_none : (all rest : List (FileName × ℕ)) (sources : List ReadFile) → rest ≡ all → sources ≡ [] → AreNumberedIn kept all → AreReadSoFar all rest sources
  read_none all rest sources same none numbered =
      subst (λ x. AreReadSoFar all x sources) (sym same) (subst (AreReadSoFar all all) (sym none) (numbered, λ more are. are))

  -- the number of the first that is left
  pub first_numbered : (all rest left : List (FileName × ℕ)) (e : FileName × ℕ) (sources : List ReadFile) → rest ≡ e ∷ left → AreReadSoFar all rest sources → number_in kept (name_of e.0) ≡ Some e.1
  first_numbered all rest left e sources is so_far = subst (AreNumberedIn kept) is so_far.0 0 e refl

  -- one more
  pub read_more : (all rest left : List (FileName × ℕ)) (e : FileName × ℕ) (sources more : List ReadFile) (source : ReadFile) → rest ≡ e ∷ left → more ≡ sources ++ source ∷ [] → IsReadFor e source → AreReadSoFar all rest sources → AreReadSoFar all left more
  read_more all rest left e sources more source is is_more its so_far =
      let numbered : AreNumberedIn kept (e ∷ left) = subst (AreNumberedIn kept) is so_far.0 in (
        λ place entry at. numbered (suc place) entry at,
        λ others are. subst (λ xs. AllZip IsReadFor all (xs ++ others)) (sym is_more) (subst (λ xs. AllZip IsReadFor all xs) (sym (append_assoc sources (source ∷ []) others)) (so_far.1 (source ∷ others) (subst (λ xs. AllZip IsReadFor xs (source ∷ others)) (sym is) (its, are)))),
      )

  -- all
  pub read_all : (all rest : List (FileName × ℕ)) (sources : List ReadFile) → rest ≡ [] → AreReadSoFar all rest sources → AllZip IsReadFor all sources
  read_all all rest sources none so_far = subst (λ xs. AllZip IsReadFor all xs) (append-nil sources) (so_far.1 [] (subst (λ xs. AllZip IsReadFor xs []) (sym none) tt))

  as_many : (es : List (FileName × ℕ)) (sources : List ReadFile) → AllZip IsReadFor es sources → length sources ≡ length (map (λ (e : FileName × ℕ). e.1) es)
  as_many [] [] are = refl
  as_many [] (s ∷ sources) are = absurd are
  as_many (e ∷ es) [] are = absurd are
  as_many (e ∷ es) (s ∷ sources) are = ap suc (as_many es sources are.1)

  each_read : (es : List (FileName × ℕ)) (sources : List ReadFile) → AllZip IsReadFor es sources → (entry place m : ℕ) (source : ReadFile) → slice_get (map (λ (e : FileName × ℕ). e.1) es) place ≡ Some m → slice_get sources place ≡ Some source → IsSourceOf (program_of kept settings entry) m source
  each_read [] sources are entry place m source at there = cc
  each_read (e ∷ es) [] are entry place m source at there = absurd are
  each_read (e ∷ es) (s ∷ sources) are entry zero m source at there =
      subst (λ n. IsSourceOf (program_of kept settings entry) n source) (same_Some e.1 m at) (subst (IsSourceOf (program_of kept settings entry) e.1) (same_Some s source there) (are.0 entry))
  each_read (e ∷ es) (s ∷ sources) are entry (suc place) m source at there = each_read es sources are.1 entry place m source at there

  pub are_sources : (es : List (FileName × ℕ)) (sources : List ReadFile) → AllZip IsReadFor es sources → (entry : ℕ) → AreSourcesOf (program_of kept settings entry) (map (λ (e : FileName × ℕ). e.1) es) sources
  are_sources es sources are entry = record { long = as_many es sources are; each = λ place m source at there. each_read es sources are entry place m source at there }

-- what was read of a list is the program of each entry
pub read_of : {E : Type 0} (result : Result Read E) (settings : Settings) (kept : Kept) (list : LoadList) (files : Bor (List (FileName × ℕ))) (deps : List (Vec (String Global × ℕ) Global)) (sources : List ReadFile)
    → files.now ≡ list.files → deps ≡ list.deps.items → ((entry : ℕ) → AreFilesNumbered kept list → AreSourcesOf (program_of kept settings entry) (ids_on list) sources)
    → IfOk result (λ made. (p : Program) → AreFilesOf p files.now deps → AreSourcesOf p (numbers_of files.now) sources → IsProgramOf_sources p made) → IfOk result (λ made. made.files.files ≡ files)
    → IfOk result (λ made. IsListLoaded settings kept list → IsReadListOf settings kept list made)
read_of (Err e) settings kept list files deps sources same noted read program its = tt
read_of (Ok made) settings kept list files deps sources same noted read program its = λ loaded.
    let each : (entry : ℕ) → IsProgramOf_sources (program_of kept settings entry) made = λ entry. program (program_of kept settings entry)
    (subst (λ x. AreFilesOf (program_of kept settings entry) x deps) (sym same) (subst (λ x. AreFilesOf (program_of kept settings entry) list.files x) (sym noted) (are_files settings kept entry list loaded.once loaded.numbered loaded.asked loaded.long)))
    (subst (λ x. AreSourcesOf (program_of kept settings entry) (numbers_of x) sources) (sym same) (read entry loaded.numbered)) in
    record { loaded = loaded; program = each; ids = (each 0).files.ids ∙ ap (λ (b : Bor (List (FileName × ℕ))). numbers_of b.now) its ∙ ap numbers_of same }

-- a number on a list is one of those that were given
number_below : (kept : Kept) (list : LoadList) → AreFilesNumbered kept list → (m : ℕ) → Contains (ids_on list) m → m < length kept.names
number_below kept list numbered m there =
    let its = item_of (λ (e : FileName × ℕ). e.1) list.files m there in
    (position-Some (name_eq (name_of its.1.0)) kept.names m (name_of its.1.0) (numbered its.0 its.1 its.2 ∙ ap Some its.3)).0

-- a call whose files were read of a list is that of an entry on it
pub call_of : (kept : Kept) (list : LoadList) (call : EntryCall) (entry : ℕ) → IsReadListOf (settings_of call.config.now) kept list call.program.now → IsFileOn kept list (name_of call.entry.now) entry → IsCallOf (program_of kept (settings_of call.config.now) entry) entry call
call_of kept list call entry read its = record {
  program = read.program entry;
  links = (refl, refl);
  iife = refl;
  renames = refl;
  in_standard_order = refl;
  begins = refl;
  there = subst (λ ids. Contains ids entry) (sym read.ids) its.1;
  named = file_numbered kept (name_of call.entry.now) entry its.0;
  bounded = λ m there. (let below : m < length kept.names = number_below kept list read.loaded.numbered m (subst (λ ids. Contains ids m) read.ids there) in
      let most : length kept.names ≤ last_number + 1 = read.loaded.bounded in
      omega (arith, below, most));
  counted = (read.program entry).least (length kept.names) (λ m there. number_below kept list read.loaded.numbered m (subst (λ ids. Contains ids m) read.ids there));
}
