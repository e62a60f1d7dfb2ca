-- Where the modules of an entry make none since contexts are used up, the entry's bundle may need
-- too many.
-- One more module as it is merged, and what was found of it.
-- What is merged for an entry is what its modules, by their places, are.
use Rattle.std.proofs.Common.{◌≡◌, ℕ, zero, ◌+◌, ◌*◌, ◌≤◌, Bool, true, false, List, Option, Some, None, length, refl, sym, ap, ◌∙◌, subst, if◌then◌else◌, arith, [], ◌∷◌, ◌++◌, ◌↔◌, suc, ◌<◌, Contains, drop, map}
use Rattle.std.specs.Prelude.{slice_get, IfNone, IfSome, is_some, option_map, unwrap_or}
use Rattle.std.specs.Option.{option_and_then}
use Rattle.std.proofs.lemmas.Option.{none-some, same_Some, slice_get_within}
use Rattle.std.specs.List.{AllZip, flat_map}
use Rattle.bundle_tree_names.specs.FileName.{name_of}
use Rattle.bundle_tree_names.specs.declared.file_name.FileName.{FileName}
use Rattle.bundle_syntax.specs.Item as h
use Rattle.bundle_syntax.specs.Item.{Item, item_of}
use Rattle.bundle_rules.specs.Bundle.{AsCall, AsModule, Hooks, properties_tree}
use Rattle.bundle_rules.specs.Declarations.{BySymbol, Name}
use Rattle.bundle_rules.specs.Denotes.{Bound, denoted_as}
use Rattle.bundle_rules.specs.Entries.{has_import_meta}
use Rattle.bundle_rules.specs.Faults as f
use Rattle.bundle_rules.specs.Faults.{Fault, GetsContexts, IsNamedForContexts, NeedsTooManyContexts, fault_of, first_context}
use Rattle.bundle_rules.specs.Meaning.{HasKind, is_common_js, is_es}
use Rattle.bundle_rules.specs.Program.{Program, file_of, tree_of, IsReached, AreBlocks, IsList}
use Rattle.bundle_rules.specs.Scopes.{Inner, ModuleKind, ScopeKind, Cjs, Es}
use Rattle.bundle_rules.specs.Statements.{own_statements}
use Rattle.bundle_rules.specs.Tables.{TellsCommonJs}
use Rattle.bundle_order_sort.specs.declared.plan.Block.{Block}
use Rattle.bundle_rules.specs.Cleared.{cleared}
use Rattle.bundle_rules.specs.Kept.{local_context, export_context}
use Rattle.bundle_scope_denote.specs.declared.table.Denotations.{Denotations}
use Rattle.bundle_tree_listed.specs.Tree.{key_value_prop_items, module_item_items, node}
use Rattle.bundle_scope_denote.specs.Listed.{IsDenotationTable}
use Rattle.bundle_scope_names.proofs.Kept.{length-snoc as long_push}
use Rattle.bundle_link_tables.specs.declared.table.Tables.{Tables}
use Rattle.bundle_scope_names.specs.fit.Sorts.{AModule}
use Rattle.bundle_scope_names.specs.fit.Fits.{IsFit}
use Rattle.bundle_link_index.specs.Programs.{IsTableOf}
use Rattle.bundle_link_index.proofs.ProgramLemmas.{map_on as map-on}
use Rattle.bundle_link_targets.specs.Linked.{HandsOver, IsLinkingOf}
use Rattle.bundle_link.specs.Alike.{IsModuleAt}
use Rattle.bundle_link.proofs.ToldLemmas.{kind_false, one_kind}
use Rattle.bundle_link.specs.declared.reached.Reached.{Reached}
use Rattle.bundle_link.proofs.NumberLemmas.{held}
use Rattle.bundle_link.proofs.NumbersLemmas.{there_is}
use Rattle.bundle_merge_theory.specs.made.Alone.{IsHolder, answered_of, inside_of, AreTreesSound}
use Rattle.bundle_merge_theory.specs.made.Given.{AnsweredOf, InsideOf, all_fresh, Fresh}
use Rattle.bundle_merge_theory.specs.planned.Decided.{AreDecided, index_of, numbers_from, DecidedBlock}
use Rattle.bundle_merge_theory.specs.planned.Placed.{id_at}
use Rattle.bundle_merge_theory.proofs.answered.Meta.{are-fresh, fresh-told}
use Rattle.bundle_merge_theory.proofs.answered.Rewritten.{tree-fit}
use Rattle.bundle_merge_theory.proofs.planned.BundleLemmas.{for-call}
use Rattle.bundle_merge_theory.proofs.planned.TreeCountLemmas.{AreAnswers}
use Rattle.bundle_merge_theory.proofs.sound.Decided.{decided}
use Rattle.bundle_merge_theory.specs.planned.Blocks.{block_of}
use Rattle.bundle_merge_theory.specs.sound.Decided.{AreTablesTold}
use Rattle.bundle_merge_theory.proofs.moved.Requested.{blocks-in}
use Rattle.bundle_merge_theory.proofs.planned.RequestLemmas.{list-reached}
use Rattle.bundle_merge_theory.proofs.sound.Blocks.{planned-blocks}
use Rattle.bundle_merge_theory.proofs.sound.Found.{below-from, entry-at, from-there, there-from}
use Rattle.bundle_merge_theory.proofs.sound.Sound.{places-list, sound}
use Rattle.bundle_merge_names.specs.Refused
use Rattle.bundle_merge_names.specs.Refused.{RefusesNames, for_answer, for_labels, for_module, for_scopes}
use Rattle.bundle_merge_names.specs.declared.error.MergeError.{MergeError}
use Rattle.bundle_merge_names.specs.declared.part.BundleModule.{BundleModule}
use Rattle.bundle_merge_names.proofs.RefusedLemmas.{fresh-apart}
use Rattle.bundle_merge_names.specs.Bundle.{AreMetaAnswers as AreAnswers_parts, AreBundleParts, IsPartOf, list_of_part}
use Rattle.bundle_merge_names.specs.declared.part.Answered.{Answered}
use Rattle.bundle_merge_names.specs.declared.part.BundleInput.{BundleInput}
use Rattle.bundle_merge_names.specs.declared.error.MergeError.TheVariants as e
use Rattle.bundle_merge_items.proofs.LackLemmas.{refused-lacks}
use Rattle.bundle_merge_items.proofs.NeedsLemmas.{named-by, named-own, needs-by, needs-earlier}
use Rattle.bundle_merge_items.specs.Merged.{AreBlocksOnce}
use Rattle.bundle_merge_items.proofs.Once.{blocks-once}
use Rattle.bundler_entry.specs.Linked.{IsCallOf, IsFileAt, IsLinkedEntry, HasFiles, HasPlaces, ids_of}
use Rattle.bundler_entry.specs.Made as made
use Rattle.bundler_entry.specs.Made.{IsContextsFaultOf, IsRefusedMaking, answers_in, kept_properties}
use Rattle.bundler_entry.specs.Merged.{decided_in}
use Rattle.bundler_entry.specs.Unlinked.{error_of}
use Rattle.bundler_entry.specs.declared.call.EntryCall.{EntryCall}
use Rattle.bundler_entry.specs.declared.linked.LinkedEntry.{LinkedEntry}
use Rattle.bundler_entry.specs.declared.unlinked.EntryError.{EntryError}
use Rattle.bundler_entry.proofs.AskedLemmas.{its_file}
use Rattle.bundler_entry.proofs.StatementLemmas.{AreHeld, at-place, by-places}
use Rattle.bundler_entry.proofs.InnerLemmas.{scope-begins}
use Rattle.bundler_entry.specs.Parts.{AreBodies, AreEntryParts, IsBodyAt, IsEntryPart, IsAnswerRead, IsReadAsBody, found_at, names_by}
use Rattle.bundler_entry.proofs.SourceLemmas.{each_push}
use Rattle.bundler_entry.specs.Hook.{AreRead, IsMetaRead}
use Rattle.bundler_entry.specs.Source.{list_of_source}
use Rattle.bundler_entry.specs.declared.meta.ReadMeta.{ReadMeta}
use Rattle.bundler_entry.specs.declared.source.ReadFile.{ReadFile}
use Rattle.bundler_entry.proofs.LinkedLemmas.{file_at, has_places, long_places, place_of}
use Rattle.bundler_entry.proofs.Known as known

-- ---- lacking
module _ (p : Program) (entry : ℕ) (call : EntryCall) (w : IsCallOf p entry call) (linked : LinkedEntry)
    (l : IsLinkedEntry p call linked) where
  abbrev ids : List ℕ
  ids = linked.reached.list.items

  abbrev q : Program
  q = l.links.places

  abbrev places : List ℕ
  places = numbers_from zero (length linked.reached.list.items)

  are-decided : AreDecided q AsModule (decided_in q linked)
  are-decided =
      decided p q ids (known.graph p entry call w linked l)
      (known.are-places p entry call w linked l) linked.linking (λ k. has_import_meta (tree_of q k))
      (λ k. length (own_statements (tree_of q k)))
      (known.are-linked p entry call w linked l _ _ (known.are-told p entry call w linked l))
      linked.plan
      (known.is-planned p entry call w linked l)

  -- a module by its place is fit
  place-fit : (k : ℕ) → IsReached q k → IsFit AModule 0 (tree_of q k)
  place-fit k reached =
      (known.source-there p entry call w linked l k (id_at ids k)
      (at-place p entry call w linked l k reached)).2.fit

  -- the file of a module by its place
  pub place-file : (k m : ℕ) → slice_get ids k ≡ Some m → (file : FileName × ℕ) →
      IsFileAt call linked.reached k file → file_of p m ≡ Some (name_of file.0)
  place-file k m at file its =
      let found =
      its_file p entry call w linked.reached l.reached k m at (Some file)
      (sym
      (ap (option_and_then (slice_get call.program.now.files.files.now)) its.1 ∙ its.2)) in
      found.2
      ∙ ap (λ (f : FileName × ℕ). Some (name_of f.0)) (sym (same_Some file found.0 found.1))

  module _ (hooks : Hooks) (given : ℕ → Option (List Item))
      (held : AreHeld l.links.places hooks given) where
    asked : AreAnswers q hooks (all_fresh given)
    asked = record {
      asked = λ m properties is.
          let its = held m properties (fresh-told given m properties is) in (its.0, its.1);
      written = λ m ctxt notes properties is. absurd (are-fresh given m ctxt notes properties is);
    }

    -- the modules by their places need too many
    places-need : (next : ℕ) (k : Option ℕ) →
        RefusesNames q places (all_fresh given) next (e.ContextsUsedUp k) → NeedsTooManyContexts q hooks next
    places-need next k refuses = by q.settings.iife refl
      where
        by : (b : Bool) → q.settings.iife ≡ b → NeedsTooManyContexts q hooks next
        by false so =
            refused-lacks q hooks (decided_in q linked)
            (subst
            (λ b. AreDecided q (if b then AsCall else AsModule) (decided_in q linked))
            (sym so) are-decided)
            (all_fresh given) asked next k refuses
        by true so =
            refused-lacks q hooks (record (decided_in q linked) { exports = true })
            (subst
            (λ b. AreDecided q (if b then AsCall else AsModule)
            (record (decided_in q linked) { exports = true }))
            (sym so) (for-call q AsModule (decided_in q linked) are-decided))
            (all_fresh given) asked next k refuses

    -- and so the entry's do
    entry-needs : (next : ℕ) (k : Option ℕ) → next ≤ 2 * call.program.now.count + 2 →
        RefusesNames q places (all_fresh given) next (e.ContextsUsedUp k) →
        NeedsTooManyContexts p hooks (first_context p)
    entry-needs next k before refuses =
        let counted = w.counted in
        needs-earlier p hooks next (first_context p) (omega (arith, before, counted))
        (needs-by q p (λ k m. IsModuleAt ids m k) (id_at ids) (λ m. index_of m ids)
        (by-places p entry call w linked l) hooks next (places-need next k refuses))

    -- one to whose names or answer they are refused gets some
    by-kind : (k begins i : ℕ) (kind : ModuleKind) (its : ScopeKind) (name : Name) →
        IsReached q k → HasKind q k kind →
        denoted_as BySymbol kind (tree_of q k) i ≡ Some (Bound (Inner its begins) name) →
        GetsContexts q hooks k
    by-kind k begins i kind its name reached (is_common_js common) at = f.by_function common
    by-kind k begins i kind its name reached (is_es es) at =
        f.by_tree (scope-begins (tree_of q k) (place-fit k reached) i its begins name at)

    inside-gets : (k begins : ℕ) → IsHolder q (all_fresh given) (InsideOf k begins) →
        IsReached q k × GetsContexts q hooks k
    inside-gets k begins (inside_of kind its name i reached has at) =
        (reached, by-kind k begins i kind its name reached has at)

    answer-gets : (k begins : ℕ) → IsHolder q (all_fresh given) (AnsweredOf k begins) →
        IsReached q k × GetsContexts q hooks k
    answer-gets k begins (answered_of properties its name i reached is at) =
        let may = held k properties (fresh-told given k properties is) in (
          reached,
          f.by_answer properties may.0 may.1
              (scope-begins (properties_tree properties) (tree-fit properties may.2) i its begins
              name at),
        )

    refused-gets : (next k : ℕ) → RefusesNames q places (all_fresh given) next (e.ContextsUsedUp (Some k)) →
        IsReached q k × GetsContexts q hooks k
    refused-gets next k (for_scopes (for_module m begins holder lacks)) =
        inside-gets k begins holder
    refused-gets next k (for_scopes (for_answer m begins holder lacks)) =
        answer-gets k begins holder

    -- where a label of the linker's own gets none, the entry is named
    refused-own : (next : ℕ) (refusal : MergeError) → refusal ≡ e.ContextsUsedUp None →
        RefusesNames q places (all_fresh given) next refusal → IsNamedForContexts p hooks p.entry
    refused-own next _ none (for_scopes Refused.for_memory) = absurd cc
    refused-own next _ none (for_scopes (for_module m begins holder lacks)) = absurd cc
    refused-own next _ none (for_scopes (for_answer m begins holder lacks)) = absurd cc
    refused-own next _ none (for_labels label its lacks) =
        named-own q p (λ k m. IsModuleAt ids m k) (id_at ids) (λ m. index_of m ids)
        (by-places p entry call w linked l) hooks places are-decided.list label its.its

    -- LACKING
    pub contexts-lack : (unlinked : EntryError) (fault : Fault) →
        IsRefusedMaking l.links.places call linked given unlinked →
        fault_of (error_of unlinked) ≡ Some fault → IsContextsFaultOf p hooks fault
    contexts-lack unlinked fault made.for_memory is = absurd (none-some fault is)
    contexts-lack unlinked fault (made.for_module {k = k} next file told before refuses its same)
        is =
        let gets = refused-gets next k refuses in
        record {
          m = id_at ids k;
          named =
              named-by q p (λ k m. IsModuleAt ids m k) (id_at ids) (λ m. index_of m ids)
              (by-places p entry call w linked l) hooks k gets.0 gets.1;
          file = name_of file.0;
          its_file =
              place-file k (id_at ids k) (at-place p entry call w linked l k gets.0) file its;
          is =
              sym (same_Some (f.ContextsUsedUp (name_of told)) fault is)
              ∙ ap f.ContextsUsedUp same;
          too_many = entry-needs next (Some k) before refuses;
        }
    contexts-lack unlinked fault (made.for_entry next told before refuses same) is = record {
      m = p.entry;
      named = refused-own next (e.ContextsUsedUp None) refl refuses;
      file = name_of call.entry.now;
      its_file = ap (file_of p) w.begins ∙ w.named;
      is = sym (same_Some (f.ContextsUsedUp (name_of told)) fault is) ∙ ap f.ContextsUsedUp same;
      too_many = entry-needs next None before refuses;
    }

-- ---- made

-- what was read as the bodies of so many modules, and of one more
pub bodies-more : (q : Program) (call : EntryCall) (reached : Reached) (n : ℕ)
    (bodies more : List (Option Denotations)) (found : Option Denotations) →
    more ≡ bodies ++ found ∷ [] → IsBodyAt q call reached n found →
    AreBodies q call reached n bodies → AreBodies q call reached (n + 1) more
bodies-more q call reached n bodies more found is its are =
    subst (AreBodies q call reached (n + 1)) (sym is) (record {
      long = let long = long_push bodies found in omega (arith, long, are.long);
      each = each_push (IsBodyAt q call reached) bodies found n are.long are.each its;
    })

-- so many modules as they are merged, and one more
pub parts-more : (call : EntryCall) (reached : Reached) (bodies : List (Option Denotations)) (n : ℕ)
    (parts more : List BundleModule) (part : BundleModule) →
    more ≡ parts ++ part ∷ [] → IsEntryPart call reached bodies n part →
    AreEntryParts call reached bodies n parts → AreEntryParts call reached bodies (n + 1) more
parts-more call reached bodies n parts more part is its are =
    subst (AreEntryParts call reached bodies (n + 1)) (sym is) (record {
      long = let long = long_push parts part in omega (arith, long, are.long);
      each = each_push (IsEntryPart call reached bodies) parts part n are.long are.each its;
    })

-- nothing is read of a module as the body of a function where it is no CommonJS module
pub no-body : (q : Program) (call : EntryCall) (reached : Reached) (k : ℕ) (is_cjs : Bool) →
    TellsCommonJs q k is_cjs → is_cjs ≡ false → IsBodyAt q call reached k None
no-body q call reached k is_cjs tells off source Es there has = refl
no-body q call reached k is_cjs tells off source Cjs there has =
    let no : Cjs ≡ Es = one_kind q k Cjs Es has (kind_false q k is_cjs tells off) in cc

-- the file of a module
pub file-there : (call : EntryCall) (reached : Reached) (k : ℕ) (file : FileName × ℕ) →
    Some file ≡ option_and_then (slice_get call.program.now.files.files.now)
    (slice_get reached.places.items k) → IsFileAt call reached k file
file-there call reached k file is = by (slice_get reached.places.items k) refl is
  where
    by : (o : Option ℕ) → slice_get reached.places.items k ≡ o →
        Some file ≡ option_and_then (slice_get call.program.now.files.files.now) o →
        IsFileAt call reached k file
    by None at there = absurd (none-some file (sym there))
    by (Some place) at there = (place, at, sym there)

-- ---- parts

-- what a list of options has at a place below its length stands there
found-there : {A : Type 0} (list : List (Option A)) (k : ℕ) → k < length list →
    slice_get list k ≡ Some (found_at list k)
found-there [] k below = absurd (omega (arith, below))
found-there (x ∷ list) zero below = refl
found-there (x ∷ list) (suc k) below = found-there list k (omega (arith, below))

-- a module's names, read as the kind of module that it is
names-of : (kind : ModuleKind) (source : ReadFile) (found : Option Denotations) →
    IsDenotationTable BySymbol Es (list_of_source source) source.names →
    IsReadAsBody kind source found →
    IsDenotationTable BySymbol kind (list_of_source source) (names_by source found)
names-of Es source found es read =
    subst (λ o. IsDenotationTable BySymbol Es (list_of_source source) (names_by source o)) (sym read)
    es
names-of Cjs source None es read = absurd read
names-of Cjs source (Some names) es read = read

-- ---- what the hook answered
one-answer : (found : Option ReadMeta) (answered : Option Answered) → IsAnswerRead found answered →
    ((meta : ReadMeta) → found ≡ Some meta → IsMetaRead meta.properties.now meta) →
    (part : BundleModule) → part.written ≡ None →
    AreAnswers_parts (option_map Fresh (option_map (λ meta. kept_properties meta.properties.now) found))
    part answered
one-answer None answered handed read part none =
    subst (AreAnswers_parts None part) (sym handed) none
one-answer (Some meta) None handed read part none = absurd handed
one-answer (Some meta) (Some answered) handed read part none =
    let its = read meta refl in (
      none,
      record {
        told = ap (λ given. kept_properties given) (sym handed.0);
        listed = ap (map item_of) handed.1 ∙ its.list
            ∙ ap (λ given. properties_tree (flat_map (key_value_prop_items 0) given)) (sym handed.0);
        table = subst (IsDenotationTable BySymbol Es (map item_of answered.pieces.now)) (sym handed.2)
            (subst (λ list. IsDenotationTable BySymbol Es (map item_of list) meta.names) (sym handed.1) its.names);
      },
    )

-- each answer is handed on with what was read of it
answers-are : (metas : List (Option ReadMeta)) (answers : List (Option Answered)) →
    AllZip IsAnswerRead metas answers → AreRead metas → (k : ℕ) (part : BundleModule) →
    part.written ≡ None →
    AreAnswers_parts (all_fresh (answers_in metas) k) part (unwrap_or (slice_get answers k) None)
answers-are [] [] handed read k part none = none
answers-are [] (answered ∷ answers) handed read k part none = absurd handed
answers-are (found ∷ metas) [] handed read k part none = absurd handed
answers-are (found ∷ metas) (answered ∷ answers) handed read zero part none =
    one-answer found answered handed.0 (λ meta at. read zero meta (ap (λ o. Some o) at)) part none
answers-are (found ∷ metas) (answered ∷ answers) handed read (suc k) part none =
    answers-are metas answers handed.1 (λ j meta at. read (suc j) meta at) k part none

-- ---- contexts
-- a context of a file is below those that are free, which are above the last of so many files
below-free : (next : Option ℕ) (count m : ℕ) → IfSome next (λ n. n ≡ count * 2 + 2) → m < count →
    m ≤ 2147483646 → 2 * m + 2 < unwrap_or next 4294967296
below-free None count m above below bound = omega (arith, bound)
below-free (Some n) count m above below bound = omega (arith, above, below)

-- and so is that of what a file exports
export-free : (next : Option ℕ) (count m : ℕ) → IfSome next (λ n. n ≡ count * 2 + 2) → m < count →
    m ≤ 2147483646 → 2 * m + 3 < unwrap_or next 4294967296
export-free None count m above below bound = omega (arith, bound)
export-free (Some n) count m above below bound = omega (arith, above, below)

-- those are not far above
pub free-above : (next : Option ℕ) (count : ℕ) → IfSome next (λ n. n ≡ count * 2 + 2) →
    IfNone next (4294967295 < count * 2 + 2) → unwrap_or next 4294967296 ≤ 2 * count + 2
free-above None count above none = omega (arith, none)
free-above (Some n) count above none = omega (arith, above)

module _ (p : Program) (entry : ℕ) (call : EntryCall) (w : IsCallOf p entry call) (linked : LinkedEntry) (l : IsLinkedEntry p call linked) where
  abbrev ids_parts : List ℕ
  ids_parts = linked.reached.list.items

  abbrev n : ℕ
  n = length ids_parts

  abbrev q_parts : Program
  q_parts = l.links.places

  is-list : IsList q_parts (numbers_from zero n)
  is-list = places-list p q_parts ids_parts l.reached.is_list l.links.by_places.alike

  -- just the places of the list are reached
  pub below-reached : (k : ℕ) → IsReached q_parts k ↔ (k < n)
  below-reached k = (
    λ reached. (let below = from-there zero n k
        ((list-reached q_parts (numbers_from zero n) is-list k).1 reached) in omega (arith, below)),
    λ below. (let same : 0 + k ≡ k = omega arith in
        (list-reached q_parts (numbers_from zero n) is-list k).0
        (subst (Contains (numbers_from zero n)) same (there-from zero n k below))),
  )

  -- the modules by their places are sound
  pub are-sound : AreTreesSound q_parts (numbers_from zero n)
  are-sound = sound p q_parts ids_parts (known.are-known p entry call w linked l)

  -- ---- the blocks
  are-blocks : AreBlocks q_parts (numbers_from zero n)
      (map (λ (block : DecidedBlock). block.modules) (map block_of linked.plan.blocks.items))
  are-blocks =
      (planned-blocks p q_parts ids_parts call.program.now.files.graph (known.are-places p entry call w linked l)
      linked.plan l.planned).0

  -- each place in a block is one of the list
  block-below : (block : Block) → Contains linked.plan.blocks.items block → (k : ℕ) →
      Contains block.places.items k → k < n
  block-below block there k inside =
      let decided = map block_of linked.plan.blocks.items in
      let its = blocks-in are-blocks block.places.items
      (map-on (λ (it : DecidedBlock). it.modules) decided (block_of block)
      (map-on block_of linked.plan.blocks.items block there)) k inside in
      let below = from-there zero n k its in
      omega (arith, below)

  -- ---- what was read of each module is there, and its file
  pub has-places : HasPlaces call.program.now.sources.items linked.reached
      (length linked.reached.leads.items)
  has-places =
      has_places p entry call w linked.reached l.reached (length linked.reached.leads.items)
      (l.reached.long ∙ sym (long_places p entry call w linked.reached l.reached))

  pub has-files : HasFiles call linked.reached (length linked.reached.leads.items)
  has-files k below =
      let at = there_is ids_parts k (omega (arith, below, l.reached.long)) in
      let file = file_at p entry call w linked.reached l.reached k at.0 at.1 in
      (file.0, file.1)

  -- ---- the contexts of files
  -- the number of a module, which is below the count, and small
  number-of : (k m : ℕ) → slice_get ids_parts k ≡ Some m → m ≤ 2147483646
  number-of k m at =
      let place = place_of p entry call w linked.reached l.reached k m at in
      w.bounded m (held (ids_of call) m place.0 place.2)

  -- what a module exports has a context below those that are free
  pub export-below : (next : Option ℕ) →
      IfSome next (λ free. free ≡ call.program.now.count * 2 + 2) → (k m : ℕ) →
      slice_get ids_parts k ≡ Some m → export_context m < unwrap_or next 4294967296
  export-below next above k m at =
      export-free next call.program.now.count m above (known.below-count p entry call w linked l k m at)
      (number-of k m at)

  -- the context of a part is that of its file
  pub local-is : (bodies : List (Option Denotations)) (k m : ℕ) (part : BundleModule) →
      slice_get ids_parts k ≡ Some m → IsEntryPart call linked.reached bodies k part →
      part.local ≡ local_context m
  local-is bodies k m part at its =
      let number = known.number-there p entry call w linked l k m at its.file its.its_file in
      let bound = number-of k m at in
      its.local (omega (arith, number, bound)) ∙ ap local_context number

  module _ (bodies : List (Option Denotations)) (are-bodies : AreBodies q_parts call linked.reached (length linked.reached.places.items) bodies) where
    -- a part is that of the module at its place
    part-is : (k : ℕ) (part : BundleModule) → k < length linked.reached.places.items →
        IsEntryPart call linked.reached bodies k part → IsPartOf q_parts k part
    part-is k part below its =
        let source = l.links.by_places.sources k its.source its.there in
        let list : list_of_part part ≡ list_of_source its.source =
        ap (λ b. node 0 h.Module (flat_map (module_item_items 0) (drop (if b then 1 else 0) part.items.now)))
        (ap is_some its.written)
        ∙ ap (λ items. node 0 h.Module (flat_map (module_item_items 0) items)) its.items in
        let body = are-bodies.each k (found_at bodies k)
        (found-there bodies k (omega (arith, below, are-bodies.long))) its.source in
        record {
          tree = source.list ∙ ap cleared (sym list);
          table = λ kind has. subst (λ items. IsDenotationTable BySymbol kind items part.denotations.now)
              (sym list) (subst (IsDenotationTable BySymbol kind (list_of_source its.source))
              (sym its.denotations)
              (names-of kind its.source (found_at bodies k) source.names (body kind its.there has)));
          tables = subst (IsTableOf q_parts k) (sym its.tables) source.table;
          meta = ap (λ (t : Tables). t.has_import_meta) its.tables ∙ source.meta;
          leads = λ s. l.links.by_places.leads k part.leads.now s its.leads;
        }

    module _ (metas : List (Option ReadMeta)) (read : AreRead metas) (bundle : BundleInput) (parts : AreEntryParts call linked.reached bodies (length linked.reached.leads.items) bundle.parts.now) (answers : AllZip IsAnswerRead metas bundle.answers.now) (linking : bundle.linking.now ≡ linked.linking) (blocks : bundle.blocks.now ≡ linked.plan.blocks.items) (above : IfSome bundle.contexts.next (λ next. next ≡ call.program.now.count * 2 + 2)) where
      -- there are as many parts as modules
      long : length bundle.parts.now ≡ n
      long = parts.long ∙ l.reached.long

      module-at : (k : ℕ) (part : BundleModule) → slice_get bundle.parts.now k ≡ Some part →
          (m : ℕ) × (slice_get ids_parts k ≡ Some m)
      module-at k part at =
          let within = slice_get_within bundle.parts.now k part at in
          there_is ids_parts k (omega (arith, within, long))

      local-at : (k m : ℕ) (part : BundleModule) → slice_get bundle.parts.now k ≡ Some part →
          slice_get ids_parts k ≡ Some m → part.local ≡ 2 * m + 2
      local-at k m part at there = local-is bodies k m part there (parts.each k part at)

      -- what is merged is of the program by places
      pub are-parts : AreBundleParts q_parts (numbers_from zero n) (all_fresh (answers_in metas)) bundle
      are-parts = record {
        reached = λ k. (
          λ reached. (let below = (below-reached k).0 reached in omega (arith, below, long)),
          λ within. (below-reached k).1 (omega (arith, within, long)),
        );
        entry = entry-at q_parts n is-list ∙ sym long;
        places = ap (numbers_from zero) (sym long);
        linking = subst (IsLinkingOf q_parts) (sym linking) l.links.linked;
        handed = subst (HandsOver q_parts (numbers_from zero n)) (sym linking)
            (subst (λ (list : List ℕ). HandsOver q_parts list linked.linking) (below-from n) l.links.handed);
        modules = l.links.modules;
        parts = λ k part at.
            (let within = slice_get_within bundle.parts.now k part at in
            let same = long_places p entry call w linked.reached l.reached in
            part-is k part (omega (arith, within, long, same)) (parts.each k part at));
        answered = λ k part at.
            answers-are metas bundle.answers.now answers read k part (parts.each k part at).written;
        written = fresh-apart q_parts (all_fresh (answers_in metas)) (are-fresh (answers_in metas)) bundle;
        own = λ k part at.
            (let m = module-at k part at in
            let local = local-at k m.0 part at m.1 in omega (arith, local));
        free = λ k part at.
            (let m = module-at k part at in
            let local = local-at k m.0 part at m.1 in
            let free = below-free bundle.contexts.next call.program.now.count m.0 above
            (known.below-count p entry call w linked l k m.0 m.1) (number-of k m.0 m.1) in
            omega (arith, local, free));
        apart = λ k j part other at there same.
            (let m = module-at k part at in
            let i = module-at j other there in
            let one = local-at k m.0 part at m.1 in
            let two = local-at j i.0 other there i.1 in
            let numbers : i.0 ≡ m.0 = omega (arith, one, two, same) in
            l.reached.once k j m.0 m.1 (i.1 ∙ ap (λ (number : ℕ). Some number) numbers));
        blocks = λ block there k inside.
            (let below = block-below block
            (subst (λ list. Contains list block) blocks there) k inside in
            omega (arith, below, long));
      }

      -- no module stands twice in a block of it
      pub are-once : AreBlocksOnce bundle
      are-once =
          blocks-once q_parts (numbers_from zero n) n bundle refl
          (subst (λ (list : List Block). AreBlocks q_parts (numbers_from zero n)
          (map (λ (block : DecidedBlock). block.modules) (map block_of list))) (sym blocks)
          are-blocks)

      -- the trees tell of its modules what they say
      pub are-told : AreTablesTold q_parts (length bundle.parts.now) (λ k. has_import_meta (tree_of q_parts k))
          (λ k. length (own_statements (tree_of q_parts k)))
      are-told = record { meta_told = λ k below. refl; counted = λ k below. refl }
