-- A number that is above all numbers of files, and the least that is.
-- What was read of the modules that an entry reaches is that of a program by places, which is alike.
use Rattle.std.proofs.Common.{◌≡◌, ℕ, zero, suc, ◌+◌, ◌<◌, ◌≤◌, List, [], ◌∷◌, Contains, drop, get_or, length, map, ap, refl, sym, subst, ◌∙◌, arith, ◌↔◌, ◌-◌, true, Option, Some, None}
use Rattle.std.proofs.lemmas.List.{drop_more, length-map}
use Rattle.std.specs.Prelude.{IfSome, option_map, slice_get, unwrap_or}
use Rattle.std.specs.Option.{option_and_then}
use Rattle.std.specs.declared.alloc.Global.{Global}
use Rattle.std.specs.declared.string.String.{String}
use Rattle.std.proofs.lemmas.Option.{none-some, same_Some, slice_get-map, slice_get_within}
use Rattle.std.specs.BTreeMap.{BTreeMap, get_by_text}
use Rattle.bundle_tree_names.specs.declared.file_name.FileName.{FileName}
use Rattle.bundle_tree_names.specs.FileName.{name_of}
use Rattle.bundle_syntax.specs.Item.{Item}
use Rattle.bundle_order_graph.specs.Walks.{along, itself}
use Rattle.bundle_order_graph.proofs.WalkLemmas.{Reaches-trans}
use Rattle.bundle_rules.specs.Nodes.{Text}
use Rattle.bundle_rules.specs.Judging.{requests_in}
use Rattle.bundle_rules.specs.Entries.{ExportEntry, exports_of, is_named}
use Rattle.bundle_rules.specs.Program.{Loaded, Program, file_of, tree_of, IsReached}
use Rattle.bundle_rules.specs.Faults.{IsFirstProgramFault, IsFaultlessProgram, fault_of}
use Rattle.bundle_link_index.specs.Leads.{leads_from as by_lead, required_of}
use Rattle.bundle_link_index.specs.Said.{HasEachOnce}
use Rattle.bundle_link_index.specs.declared.target.LinkModule.{LinkModule}
use Rattle.bundle_link_index.specs.declared.target.Setting.{Setting}
use Rattle.bundle_link_index.proofs.ProgramLemmas.{got}
use Rattle.bundle_link_index.specs.Programs
use Rattle.bundle_link_targets.specs.Linked.{HandsOver}
use Rattle.bundle_link_targets.specs.Meant.{IsModuleTree}
use Rattle.bundle_link_targets.specs.declared.linking.Linking.{Linking}
use Rattle.bundle_link_targets.proofs.StageLemmas.{map_at as mapped}
use Rattle.bundle_link.specs.Files.{file_number, numbers_of}
use Rattle.bundle_link.proofs.PlaceLemmas.{no-tree}
use Rattle.bundle_link.specs.Default.{DeclaresDefaultAlone}
use Rattle.bundle_link.specs.Alike.{IsAlike, IsModuleAt}
use Rattle.bundle_link.specs.First.{IsFirstOf, HasNoFault}
use Rattle.bundle_link.specs.Leads.{module_place}
use Rattle.bundle_link.proofs.AlikeLemmas.{flip, reached_on}
use Rattle.bundle_link.proofs.FaultLemmas.{first_of_program, faultless_of_program}
use Rattle.bundle_link.proofs.NumberLemmas.{held}
use Rattle.bundle_link.proofs.PlacedLemmas.{IsPlaced, is_alike, placed, same_tree}
use Rattle.bundle_link.proofs.NumberedModuleLemmas.{table_at}
use Rattle.bundle_link.proofs.RequestLemmas.{requests_to}
use Rattle.bundle_link.proofs.NumbersLemmas.{there_is}
use Rattle.bundle_link.proofs.ToldLemmas.{all_below, only_below}
use Rattle.bundle_link.specs.Judged.{AreLinkedAs, AreReadOf, IsNotedOf, AreTreesReadable, numbers_below, fault_place, says}
use Rattle.bundle_link.specs.declared.judging.DoubledNames.{DoubledNames}
use Rattle.bundle_link.specs.declared.judging.ModuleFault.{ModuleFault}
use Rattle.bundle_link.specs.declared.reached.Reached.{Reached}
use Rattle.bundler_entry.specs.Source.{IsSourceOf}
use Rattle.bundler_entry.specs.Linked.{AreByPlaces, AreEntryLinks, AreNotes, AreLinkModules, HasPlaces, IsCallOf, IsFileAt, IsReachedIn, TellsFileAt, ids_of, source_in}
use Rattle.bundler_entry.specs.Unlinked.{error_of}
use Rattle.bundler_entry.specs.declared.call.EntryCall.{EntryCall}
use Rattle.bundler_entry.specs.declared.source.ReadFile.{ReadFile}
use Rattle.bundler_entry.specs.declared.unlinked.EntryError.{EntryError}
use Rattle.bundler_entry.proofs.SourceLemmas.{noted_there, read_at}

-- ---- count

-- the files
abbrev pub Entries : Type 0
Entries = List (FileName × ℕ)

-- the first of the files that are left from a place on
pub one-left : (files : Entries) (i : ℕ) (e : FileName × ℕ) → i < length files →
    e ≡ get_or files i e → drop i files ≡ e ∷ drop (i + 1) files
one-left files i e within is =
    drop_more files i e within ∙ ap (λ y. y ∷ drop (i + 1) files) (sym is)

-- none is left behind the last
pub none-left : (files : Entries) (i : ℕ) → length files ≤ i → drop i files ≡ []
none-left [] zero past = refl
none-left [] (suc i) past = refl
none-left (x ∷ files) zero past = absurd (omega (arith, past))
none-left (x ∷ files) (suc i) past = none-left files i (omega (arith, past))

-- each number is below
abbrev pub AreBelow : ℕ → Entries → Type 0
AreBelow n files = (m : ℕ) → Contains (map file_number files) m → m < n

-- what is above the files that are left, and not below so many, is above all
abbrev pub IsAboveSoFar : (all rest : Entries) → ℕ → Type 0
IsAboveSoFar all rest count = (n : ℕ) → count ≤ n → AreBelow n rest → AreBelow n all

-- the first of them is below too
below-more : (n : ℕ) (e : FileName × ℕ) (rest : Entries) → e.1 < n → AreBelow n rest →
    AreBelow n (e ∷ rest)
below-more n e rest first others m (zero, within, at) =
    let same : e.1 ≡ m = at in omega (arith, first, same)
below-more n e rest first others m (suc i, within, at) = others m (i, omega (arith, within), at)

pub above-none : (all rest : Entries) (count : ℕ) → rest ≡ all → IsAboveSoFar all rest count
above-none all rest count same n enough below = subst (AreBelow n) same below

pub above-more : (all rest left : Entries) (count more : ℕ) (e : FileName × ℕ) → rest ≡ e ∷ left →
    count ≤ more → e.1 < more → IsAboveSoFar all rest count → IsAboveSoFar all left more
above-more all rest left count more e is grown first so_far n enough below =
    so_far n (omega (arith, enough, grown))
    (subst (AreBelow n) (sym is) (below-more n e left (omega (arith, enough, first)) below))

pub above-all : (all rest : Entries) (count : ℕ) → rest ≡ [] → IsAboveSoFar all rest count →
    AreBelow count all
above-all all rest count none so_far =
    so_far count (omega arith)
    (subst (AreBelow count) (sym none) (λ m there. absurd (omega (arith, there.1))))

-- what is above all is not below so many, and is above the files that are left
abbrev pub IsLeastSoFar : (all rest : Entries) → ℕ → Type 0
IsLeastSoFar all rest count = (n : ℕ) → AreBelow n all → (count ≤ n) × AreBelow n rest

-- the first is below, and so are the others
first-below : (n : ℕ) (e : FileName × ℕ) (rest : Entries) → AreBelow n (e ∷ rest) → e.1 < n
first-below n e rest below = below e.1 (zero, omega arith, refl)

others-below : (n : ℕ) (e : FileName × ℕ) (rest : Entries) → AreBelow n (e ∷ rest) →
    AreBelow n rest
others-below n e rest below m (i, within, at) = below m (suc i, omega (arith, within), at)

pub least-none : (all rest : Entries) → rest ≡ all → IsLeastSoFar all rest 0
least-none all rest same n below = (omega arith, subst (AreBelow n) (sym same) below)

pub least-more : (all rest left : Entries) (count more : ℕ) (e : FileName × ℕ) → rest ≡ e ∷ left →
    ((n : ℕ) → count ≤ n → e.1 < n → more ≤ n) → IsLeastSoFar all rest count →
    IsLeastSoFar all left more
least-more all rest left count more e is enough so_far n below =
    let its = so_far n below in
    let here : AreBelow n (e ∷ left) = subst (AreBelow n) is its.1 in
    (enough n its.0 (first-below n e left here), others-below n e left here)

pub least-all : (all rest : Entries) (count : ℕ) → IsLeastSoFar all rest count → (n : ℕ) →
    AreBelow n all → count ≤ n
least-all all rest count so_far n below = (so_far n below).0

-- ---- linked
module _ (p : Program) (entry : ℕ) (call : EntryCall) (w : IsCallOf p entry call) (reached : Reached) (r : IsReachedIn p call reached) where
  abbrev ids : List ℕ
  ids = ids_of call

  abbrev list : List ℕ
  list = reached.list.items

  abbrev places : List ℕ
  places = reached.places.items

  abbrev sources : List ReadFile
  sources = call.program.now.sources.items

  -- ---- places among the files
  pub long_places : length places ≡ length list
  long_places = sym (length-map places (slice_get ids)) ∙ ap length r.places ∙ length-map list (λ m. Some m)

  same_place : (k : ℕ) → option_map (slice_get ids) (slice_get places k) ≡ option_map (λ m. Some m) (slice_get list k)
  same_place k = sym (slice_get-map (slice_get ids) places k) ∙ ap (λ l. slice_get l k) r.places ∙ slice_get-map (λ m. Some m) list k

  -- the place among the files of a module of the list
  pub place_of : (k m : ℕ) → slice_get list k ≡ Some m → (place : ℕ) × (slice_get places k ≡ Some place) × (slice_get ids place ≡ Some m)
  place_of k m at =
      let it = there_is places k (let within = slice_get_within list k m at in omega (arith, within, long_places)) in
      (it.0, it.1, same_Some (slice_get ids it.0) (Some m) (sym (ap (option_map (slice_get ids)) it.1) ∙ same_place k ∙ ap (option_map (λ n. Some n)) at))

  -- what was read of it
  pub source_of : (place m : ℕ) → slice_get ids place ≡ Some m → (source : ReadFile) × (slice_get sources place ≡ Some source) × IsSourceOf p m source
  source_of place m at =
      let within = slice_get_within ids place m at in
      let it = there_is sources place (omega (arith, within, w.program.sources.long)) in
      (it.0, it.1, w.program.sources.each place m it.0 at it.1)

  pub has_places : (n : ℕ) → n ≡ length places → HasPlaces sources reached n
  has_places n is k within =
      let m = there_is list k (omega (arith, within, is, long_places)) in
      let place = place_of k m.0 m.1 in
      let source = source_of place.0 m.0 place.2 in
      record { place = place.0; source = source.0; its_place = place.1; its_source = source.1; within = omega (arith, within, is, long_places, r.long) }

  -- the file of a module of the list
  pub file_at : (k m : ℕ) → slice_get list k ≡ Some m → (file : FileName × ℕ) × IsFileAt call reached k file × (file_of p m ≡ Some (name_of file.0))
  file_at k m at =
      let place = place_of k m at in
      let number : slice_get (numbers_of call.program.now.files.files.now) place.0 ≡ Some m = ap (λ (l : List ℕ). slice_get l place.0) (sym w.program.files.ids) ∙ place.2 in
      let file = mapped (λ (e : FileName × ℕ). e.1) call.program.now.files.files.now place.0 m number in
      (file.0, (place.0, place.1, file.1), ap (file_of p) (sym file.2) ∙ w.program.files.files.named place.0 file.0 file.1)

  -- ---- the program by places
  module _ (n : ℕ) (is : n ≡ length places) (parts : List LinkModule) (are : AreLinkModules sources reached n parts) where
    abbrev end : ℕ
    end = length parts - 1

    abbrev pub by_place : Program
    by_place = placed p list (required_of parts) end

    abbrev q : Program
    q = placed p list (required_of parts) end

    long_parts : length parts ≡ length list
    long_parts = are.long ∙ is ∙ long_places

    part_of : (k m : ℕ) → slice_get list k ≡ Some m → (part : LinkModule) × (slice_get parts k ≡ Some part) × (slice_get reached.leads.items k ≡ Some part.leads.now)
    part_of k m at =
        let it = there_is parts k (let within = slice_get_within list k m at in omega (arith, within, long_parts)) in
        (it.0, it.1, (are.each k it.0 it.1).leads)

    leads_from : (k m : ℕ) (s : Text) → slice_get list k ≡ Some m → Contains (requests_in p.settings (tree_of p m)) s → required_of parts k s ≡ option_and_then (module_place list) (p.leads m s)
    leads_from k m s at asked =
        let part = part_of k m at in
        ap (λ o. by_lead o s) part.1 ∙ r.leads k m part.0.leads.now s at part.2 asked

    -- what a listed module requests is listed
    asked_listed : (m d : ℕ) (s : Text) → Contains list m → Contains (requests_in p.settings (tree_of p m)) s → p.leads m s ≡ Some d → Contains list d
    asked_listed m d s there asked leads = (r.reached d).1 (Reaches-trans ((r.reached m).0 there) (along (requests_to p m d s asked leads) itself))

    at_end : slice_get list end ≡ Some p.entry
    at_end =
        let it = got list p.entry ((r.reached p.entry).1 itself) in
        let last = r.last it.0 it.1 in
        ap (slice_get list) (omega (arith, last, long_parts)) ∙ it.1

    is_placed : IsPlaced p list (required_of parts) end
    is_placed = record { once = r.once; begins = at_end; there = asked_listed; leads_on = leads_from }

    pub alike : IsAlike p q (IsModuleAt list)
    alike = is_alike p list (required_of parts) end is_placed

    -- a place of the list has the tree of its module, and no other place has one
    tree_at : (k m : ℕ) → slice_get list k ≡ Some m → tree_of p m ≡ tree_of q k
    tree_at k m at = same_tree p list (required_of parts) end is_placed m k at

    no_tree_at : (k : ℕ) → slice_get list k ≡ None → tree_of q k ≡ []
    no_tree_at k none = ap (λ o. unwrap_or (option_map (λ (loaded : Loaded). loaded.items) (option_and_then p.modules o)) []) none

    -- what is so of the tree of each listed module, and of none, is so of each tree
    of_each : (P : List Item → Type 0) → P [] → ((m place : ℕ) (source : ReadFile) → slice_get ids place ≡ Some m → slice_get sources place ≡ Some source → IsSourceOf p m source → P (tree_of p m)) → (k : ℕ) → P (tree_of q k)
    of_each P none each k = by (slice_get list k) refl
      where
        by : (o : Option ℕ) → slice_get list k ≡ o → P (tree_of q k)
        by None at = subst P (sym (no_tree_at k at)) none
        by (Some m) at =
            let place = place_of k m at in
            let source = source_of place.0 m place.2 in
            subst P (tree_at k m at) (each m place.0 source.0 place.2 source.1 source.2)

    part_table : (k : ℕ) (part : LinkModule) → slice_get parts k ≡ Some part → Programs.IsTableOf q k part.tables.now
    part_table k part at =
        let m = there_is list k (let within = slice_get_within parts k part at in omega (arith, within, long_parts)) in
        let place = place_of k m.0 m.1 in
        let source = source_of place.0 m.0 place.2 in
        let its = are.each k part at in
        let same_place_is : its.place ≡ place.0 = same_Some its.place place.0 (sym its.its_place ∙ place.1) in
        let same_source : its.source ≡ source.0 = same_Some its.source source.0 (sym its.its_source ∙ ap (slice_get sources) same_place_is ∙ source.1) in
        subst (Programs.IsTableOf q k) (ap (λ (s : ReadFile). s.tables) (sym same_source) ∙ sym its.tables) (table_at p q m.0 k source.0.tables refl (tree_at k m.0 m.1) source.2.table)

    within_list : (k d : ℕ) (s : Text) → required_of parts k s ≡ Some d → d < length parts
    within_list k d s is = by (slice_get parts k) refl
      where
        by : (o : Option LinkModule) → slice_get parts k ≡ o → d < length parts
        by None at = absurd (none-some d (sym (ap (λ o. by_lead o s) at) ∙ is))
        by (Some part) at = let less = r.within k d part.leads.now s (are.each k part at).leads (sym (ap (λ o. by_lead o s) at) ∙ is) in omega (arith, less, long_parts)

    below_reached : (k : ℕ) → Contains (numbers_below (length parts)) k ↔ IsReached q k
    below_reached k = (forth, back)
      where
        forth : Contains (numbers_below (length parts)) k → IsReached q k
        forth there =
            let j = got (numbers_below (length parts)) k there in
            let low = only_below (length parts) j.0 k j.1 in
            let m = there_is list k (omega (arith, low.0, low.1, long_parts)) in
            let l = reached_on p q (IsModuleAt list) alike m.0 ((r.reached m.0).0 (held list m.0 k m.1)) in
            subst (IsReached q) (r.once l.0 k m.0 l.1 m.1) l.2

        back : IsReached q k → Contains (numbers_below (length parts)) k
        back is =
            let l = reached_on q p (λ a b. IsModuleAt list b a) (flip alike) k is in
            let within = slice_get_within list k l.0 l.1 in
            held (numbers_below (length parts)) k k (all_below (length parts) k (omega (arith, within, long_parts)))

    has_each_once : HasEachOnce q
    has_each_once k = of_each
        (λ tree. (x : Text) (a b : ExportEntry) → Contains (exports_of tree) a → Contains (exports_of tree) b → is_named x a ≡ true → is_named x b ≡ true → a ≡ b)
        (λ x a b in_a in_b named_a named_b. absurd (omega (arith, in_a.1)))
        (λ m place source at there its. its.once) k

    readable : AreTreesReadable q (length parts)
    readable = record {
      trees = of_each IsModuleTree no-tree (λ m place source at there its. its.tree);
      default = of_each DeclaresDefaultAlone (λ none statement e own there. absurd (omega (arith, own.1))) (λ m place source at there its. its.default);
      others = λ m past. no_tree_at m (past_list m (slice_get list m) refl past);
    }
      where
        past_list : (m : ℕ) (o : Option ℕ) → slice_get list m ≡ o → (m < length parts → ⊥) → slice_get list m ≡ None
        past_list m None at past = at
        past_list m (Some x) at past = let within = slice_get_within list m x at in absurd (past (omega (arith, within, long_parts)))

    -- what was read of the modules is that of the program by places
    pub is_read : (setting : Setting) (notes : List DoubledNames) → AreNotes sources reached n notes → setting.require ≡ p.settings.require → p.settings.iife ≡ setting.iife → AreReadOf q parts notes setting
    is_read setting notes are_notes require iife = record {
      program = record {
        tables = part_table;
        others = λ m none. no_tree_at m (past m none);
        leads = λ m s. refl;
        within = λ m d s is. within_list m d s is;
        begins = refl;
        requires = sym require;
        reached = below_reached;
        once = has_each_once;
      };
      iife = iife;
      readable = readable;
      long = are_notes.long ∙ sym are.long;
      noted = λ k noted at.
          let its = are_notes.each k noted at in
          let m = there_is list k (let within = slice_get_within notes k noted at in omega (arith, within, are_notes.long, is, long_places)) in
          let place = place_of k m.0 m.1 in
          let source = source_of place.0 m.0 place.2 in
          let same_place_is : its.place ≡ place.0 = same_Some its.place place.0 (sym its.its_place ∙ place.1) in
          let same_source : its.source ≡ source.0 = same_Some its.source source.0 (sym its.its_source ∙ ap (slice_get sources) same_place_is ∙ source.1) in
          let same : noted ≡ source.0.noted = its.same ∙ ap (λ (s : ReadFile). s.noted) same_source in
          subst (IsNotedOf q k) (sym same)
          (noted_there q k source.0 (read_at p q m.0 k source.0 refl (ap (option_and_then p.modules) (sym m.1)) source.2));
    }
      where
        past : (m : ℕ) → slice_get parts m ≡ None → slice_get list m ≡ None
        past m none = by (slice_get list m) refl
          where
            by : (o : Option ℕ) → slice_get list m ≡ o → slice_get list m ≡ None
            by None at = at
            by (Some x) at = let it = there_is parts m (let within = slice_get_within list m x at in omega (arith, within, long_parts)) in absurd (none-some it.0 (sym none ∙ it.1))

    -- where none of the modules by places has a fault, the program has none
    none_of_program : HasNoFault q (length parts) → IsFaultlessProgram p
    none_of_program none = faultless_of_program p q list alike r.is_list r.reached (subst (HasNoFault q) long_parts none)

    -- what was read of the module at a place is that of the program by places
    sources_at : (k : ℕ) (source : ReadFile) → source_in call reached k ≡ Some source →
        IsSourceOf q k source
    sources_at k source is = by (slice_get places k) refl
      where
        by : (o : Option ℕ) → slice_get places k ≡ o → IsSourceOf q k source
        by None none = absurd (none-some source (sym (ap (option_and_then (slice_get sources)) none) ∙ is))
        by (Some place) at =
            let m = there_is list k (let within = slice_get_within places k place at in omega (arith, within, long_places)) in
            let number = place_of k m.0 m.1 in
            let same : place ≡ number.0 = same_Some place number.0 (sym at ∙ number.1) in
            let its : slice_get sources number.0 ≡ Some source = ap (slice_get sources) (sym same) ∙ sym (ap (option_and_then (slice_get sources)) at) ∙ is in
            read_at p q m.0 k source refl (ap (option_and_then p.modules) (sym m.1))
            (w.program.sources.each number.0 m.0 source number.2 its)

    -- texts lead as it is noted
    leads_at : (k : ℕ) (its : BTreeMap (String Global) ℕ) (s : Text) →
        slice_get reached.leads.items k ≡ Some its → q.leads k s ≡ get_by_text its s
    leads_at k its s at =
        let part = there_is parts k (let within = slice_get_within reached.leads.items k its at in omega (arith, within, r.long, long_parts)) in
        let same = same_Some part.0.leads.now its (sym (are.each k part.0 part.1).leads ∙ at) in
        ap (λ o. by_lead o s) part.1 ∙ ap (λ (l : BTreeMap (String Global) ℕ). get_by_text l s) same

    by_places : AreByPlaces p q call reached
    by_places = record {
      alike = alike;
      modules = λ m k at. ap (option_and_then p.modules) (sym at);
      sources = sources_at;
      leads = leads_at;
    }

    -- what is linked by places is linked of the program
    pub linked_in : (linking : Linking) → AreLinkedAs q (length parts) linking → AreEntryLinks p call reached linking
    linked_in linking its = record {
      faultless = none_of_program its.faultless;
      places = q;
      by_places = by_places;
      modules = its.modules;
      linked = its.linked;
      handed = subst (λ (k : ℕ). HandsOver q (numbers_below k) linking) long_parts its.handed;
    }

    -- a refusal that tells of the first fault by places tells of the first of the program
    pub first_told : (told : ModuleFault) (refusal : EntryError) → IsFirstOf q (length parts) (fault_place told) (says told) → TellsFileAt call reached told refusal → IfSome (fault_of (error_of refusal)) (IsFirstProgramFault p)
    first_told told refusal first tells =
        let m = there_is list (fault_place told) (let within = first.within in omega (arith, within, long_parts)) in
        let file = file_at (fault_place told) m.0 m.1 in
        subst (λ o. IfSome o (IsFirstProgramFault p)) (sym (tells file.0 file.1))
        (first_of_program p q list alike r.is_list r.reached (fault_place told) m.0 (name_of file.0.0) (says told) (subst (λ (k : ℕ). IsFirstOf q k (fault_place told) (says told)) long_parts first) m.1 file.2)
