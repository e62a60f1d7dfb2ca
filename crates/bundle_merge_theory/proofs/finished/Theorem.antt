-- Theorem of this folder (`made-ended`, `made-statements`): what is made of the modules of a
-- program, named in one go, is the end of the bundle of its entry; and where it is to be one
-- function's call, it is a module of statements that can be called.
-- Used by the crates `bundle_merge_names`, `bundler_entry`.
use Rattle.std.proofs.Common.{◌≡◌, ℕ, Bool, true, false, List, [], ◌∷◌, ◌++◌, Option, Some, None, Contains, length, append-nil, append_assoc, refl, ap, sym, ◌∙◌, subst, zero, ◌<◌, map, arith}
use Rattle.std.specs.List.{AllZip, AllByRecursion}
use Rattle.std.proofs.lemmas.Bool.{false≢true, true≢false}
use Rattle.std.specs.Prelude.{if◌then◌else◌, slice_get}
use Rattle.std.proofs.lemmas.List.{length-map}
use Rattle.std.proofs.lemmas.Option.{slice_get_within}
use Rattle.std.proofs.lemmas.List.Elements.{Contains-append_left, Contains-append_right}
use Rattle.bundle_syntax.specs.Item as h
use Rattle.bundle_syntax.specs.Item.{Item}
use Rattle.bundle_order_graph.specs.Modules.{Modules}
use Rattle.bundle_order_graph.specs.Walks.{itself}
use Rattle.bundle_rules.specs.Nodes.{Text}
use Rattle.bundle_rules.specs.Sorting.{flat}
use Rattle.bundle_rules.specs.Idents.{Ident, idents, ident_of}
use Rattle.bundle_rules.specs.Rebuilds.{changes_to, with_idents}
use Rattle.bundle_rules.specs.Callable.{IsBack, nothing}
use Rattle.bundle_rules.specs.Program.{Program, tree_of, IsReached}
use Rattle.bundle_rules.specs.Bundle as due
use Rattle.bundle_rules.specs.Bundle.{Cause, ImportsNames, ImportsWhole, ImportsNothing, Stars, Exports, AsModule, Hooks, IsDue, Own, Helps, Defines, Loads, HoldsMeta, HoldsNamespace, IsUsed}
use Rattle.bundle_rules.specs.Places.{Occurrence, occurrences}
use Rattle.bundle_rules.specs.Scopes.{Es}
use Rattle.bundle_rules.specs.Declarations.{ByContext, declared}
use Rattle.bundle_rules.specs.Denotes.{IsResolved}
use Rattle.bundle_rules.specs.Renamed.{HasNamesOnly, IsNamed}
use Rattle.bundle_rules.specs.Renaming.{Numbering}
use Rattle.bundle_rules.specs.Cleared.{tidied}
use Rattle.bundle_rules.specs.Entries.{Settings, declared_requests}
use Rattle.bundle_order_sort.specs.Plan.{IsPlanAsked}
use Rattle.bundle_order_sort.specs.declared.plan.Plan.{Plan}
use Rattle.bundle_rules.specs.Faults.{ExternalUnderIife, external_under_iife}
use Rattle.bundle_rules.specs.Kept.{local_context, export_context}
use Rattle.bundle_rules.specs.Merged.{IsJoined}
use Rattle.bundle_scope_names.specs.declared.names.ContextRule.TheVariants.{Keep, Clear}
use Rattle.bundle_merge_injected.specs.Listed as l
use Rattle.bundle_scope_names.specs.fit.Sorts.{AnItem, AStmt}
use Rattle.bundle_scope_names.specs.fit.Fits.{IsFit}
use Rattle.bundle_scope_names.proofs.fit.Rows.{last}
use Rattle.bundle_link_index.proofs.ProgramLemmas.{later, map_on as contains-map, got as contains-at}
use Rattle.bundle_scope_names.proofs.naming_rule.Clash.{HasPlainKeys}
use Rattle.bundle_scope_names.proofs.naming_rule.Theorem.{IsUndoubled}
use Rattle.bundle_scope_names.proofs.naming_rule.Transfer.{Calling, IsFaithful}
use Rattle.bundle_scope_names.proofs.naming_rule.Rebuilt.{ArePlain}
use Rattle.bundle_link_targets.proofs.ListLemmas.{first-there as here}
use Rattle.bundle_link_targets.specs.declared.linking.Linking.{Linking}
use Rattle.bundle_merge_theory.specs.joined.Joined.{joined_items}
use Rattle.bundle_merge_theory.proofs.joined.Paths.{flat-append, get-left as at-front}
use Rattle.bundle_merge_theory.specs.walked.Renaming.{KeepsText}
use Rattle.bundle_link.specs.Alike.{IsModuleAt}
use Rattle.bundle_merge_theory.specs.planned.Decided.{index_of, one_if, Decided, AreDecided, HandsOutNames, exported, numbers_from, front_plan, back_plan, blocks_plan, plan_of}
use Rattle.bundle_merge_theory.specs.made.Given.{HookAnswer, BundleContexts, AreFresh, TopOf}
use Rattle.bundle_merge_theory.specs.made.Made as in_made
use Rattle.bundle_merge_theory.specs.made.Made.{IsMade, linked_idents, AreMade}
use Rattle.bundle_merge_theory.specs.made.Alone.{AreTreesSound, IsItemAlone, TellApart}
use Rattle.bundle_merge_theory.specs.finished.Statements.{AreStatementNodes, IsOfStatements}
use Rattle.bundle_merge_theory.specs.together.Table.{HasItemNotes}
use Rattle.bundle_merge_theory.proofs.called.Theorem.{Split, zip-split}
use Rattle.bundle_merge_theory.proofs.composed.Naming.{changes-keep, module-names}
use Rattle.bundle_merge_theory.proofs.composed.Remade.{IsEdited, Renewed, renewed}
use Rattle.bundle_merge_theory.proofs.finished.Statements.{stmt_statements, all_edited, edited_exports}
use Rattle.bundle_merge_theory.proofs.own.Fit.{as_stmt, states_stmt}
use Rattle.bundle_merge_theory.proofs.function.Given.{fit_given, one_alone}
use Rattle.bundle_merge_theory.proofs.told.Tops.{top_fit}
use Rattle.bundle_merge_theory.proofs.together.Facts.{all-forms, no-lone, all-fit, all-single}
use Rattle.bundle_merge_theory.proofs.together.Tables.{notes-of}
use Rattle.bundle_merge_theory.specs.finished.Finished.{called_idents, recall}
use Rattle.bundle_merge_theory.specs.finished.Rules.{IsKeywordRule}
use Rattle.bundle_merge_theory.specs.finished.Numbers.{named_symbol, later_of}
use Rattle.bundle_merge_theory.specs.finished.Whole.{renamed_idents, named_at_once}
use Rattle.bundle_merge_theory.specs.finished.Twice.{IsEditable}
use Rattle.bundle_merge_theory.proofs.finished.Twice.{tidied-with_idents, cleared-tidied, with-idents-are}
use Rattle.bundle_merge_theory.proofs.finished.Numbers.{ready-editable, finished-same, as-many as called-long, final-numbering}
use Rattle.bundle_merge_theory.proofs.finished.Tidied.{rid-of-keywords, is-finished}
use Rattle.bundle_merge_theory.proofs.finished.Rules.{rule-faithful}
use Rattle.bundle_merge_theory.proofs.finished.Bundles.{IsEnded, IsMergedRight, ends-named, ends-unnamed}
use Rattle.bundle_merge_theory.specs.finished.Ended.{IsNamedAtOnce, IsNamedInTurn, idents_called}
use Rattle.bundle_merge_theory.specs.planned.Blocks.{block_of}
use Rattle.bundle_merge_theory.specs.planned.Placed.{id_at}
use Rattle.bundle_merge_theory.specs.moved.Renumbered.{cause_at}
use Rattle.bundle_merge_theory.specs.sound.Known.{AreKnown, IsByPlaces}
use Rattle.bundle_merge_theory.specs.sound.Decided.{AreTablesLinked, decided_by}
use Rattle.bundle_merge_theory.specs.together.Others.{AreOthersGiven}
use Rattle.bundle_merge_theory.specs.together.Together.{AreMergedTogether}
use Rattle.bundle_merge_theory.proofs.fit.Facts.{joined_keyless}
use Rattle.bundle_merge_theory.specs.composed.Noted.{pairing_of}
use Rattle.bundle_merge_theory.proofs.form.Carried.{CauseKeepsForms, all-forms-on, paired-keep, same-items}
use Rattle.bundle_merge_theory.proofs.form.Made.{made-keeps}
use Rattle.bundle_merge_theory.proofs.laid.Laid.{AreLaid, are-laid}
use Rattle.bundle_merge_theory.proofs.moved.Due.{due-named}
use Rattle.bundle_merge_theory.proofs.moved.Moved.{places-renamed}
use Rattle.bundle_merge_theory.proofs.planned.OrderLemmas.{contains-get}
use Rattle.bundle_merge_theory.proofs.moved.Owed.{AreMoved}
use Rattle.bundle_merge_theory.proofs.planned.RequestLemmas.{star-used}
use Rattle.bundle_merge_theory.proofs.sound.Sound.{sound}
use Rattle.bundle_merge_theory.proofs.sound.Decided.{decided}
use Rattle.bundle_merge_theory.proofs.tidy.Theorem.{joined-tidied}
use Rattle.bundle_merge_theory.proofs.together.End.{made-alone}
use Rattle.bundle_merge_theory.proofs.together.Theorem.{known-right}
use Rattle.bundle_merge_theory.proofs.undoubled.Theorem.{made-undoubled}
use Rattle.bundle_merge_theory.proofs.finished.AtOnce as n

-- ---- calls

-- whether an item takes from outside, or hands out
abbrev pub is_outside : Cause → Bool
is_outside (ImportsNames s) = true
is_outside (ImportsWhole s) = true
is_outside (ImportsNothing s) = true
is_outside (Stars s) = true
is_outside _ = false

abbrev pub is_exports : Cause → Bool
is_exports Exports = true
is_exports _ = false

-- the statement by which a module loads a CommonJS module begins as a statement
load_stmt : (load : Ident) (whole : Option Ident) (pairs : List (Text × Ident))
    (item : List Item) → IsFit AnItem 0 item → item ≡ l.load_statement load whole pairs →
    IsFit AStmt 0 item
load_stmt load None [] item it is = as_stmt it 0 h.ExprStmt _ is refl
load_stmt load None (pair ∷ pairs) item it is = as_stmt it 0 _ _ is refl
load_stmt load (Some w) [] item it is = as_stmt it 0 _ _ is refl
load_stmt load (Some w) (pair ∷ pairs) item it is = as_stmt it 0 _ _ is refl

module _ (p : Program) (hooks : Hooks) (list : List ℕ) (context : BundleContexts)
    (answers : ℕ → Option HookAnswer) (sound : AreTreesSound p list) where
  abbrev Made : Cause → List Item → Type 0
  Made cause item = IsMade p hooks list context answers cause item

  -- an item inside is a statement
  item_stmt : (cause : Cause) (item : List Item) → IsDue p AsModule cause → Made cause item →
      IsFit AnItem 0 item → is_outside cause ≡ false → is_exports cause ≡ false →
      IsFit AStmt 0 item
  item_stmt cause item (due.own {m = m} reached es within) (in_made.own statement at its) fit inside
      hands =
      states_stmt its.by
      (one_alone
      (fit_given (last (top_fit (sound.fit.each m reached) its.top its.there)) its.given
      its.is_given))
  item_stmt cause item its_due (in_made.helps is) fit inside hands = as_stmt fit 0 _ _ is refl
  item_stmt cause item its_due (in_made.defines bodies are is) fit inside hands =
      as_stmt fit 0 _ _ is refl
  item_stmt cause item its_due (in_made.loads whole names are is_whole whole_is is) fit inside hands =
      load_stmt _ _ _ item fit is
  item_stmt cause item its_due (in_made.holds_meta properties within answered its is) fit inside
      hands =
      as_stmt fit 0 _ _ is refl
  item_stmt cause item its_due (in_made.holds_written its answered written) fit inside hands =
      as_stmt fit 0 _ _ its.is refl
  item_stmt cause item its_due (in_made.holds_namespace pairs are is) fit inside hands =
      as_stmt fit 0 _ _ is refl
  item_stmt cause item its_due (in_made.imports_names names are is) fit inside hands =
      absurd (false≢true (sym inside))
  item_stmt cause item its_due (in_made.imports_whole is) fit inside hands =
      absurd (false≢true (sym inside))
  item_stmt cause item its_due (in_made.imports_nothing is) fit inside hands =
      absurd (false≢true (sym inside))
  item_stmt cause item its_due (in_made.stars is) fit inside hands = absurd (false≢true (sym inside))
  item_stmt cause item its_due (in_made.exports pairs are is) fit inside hands =
      absurd (false≢true (sym hands))

  -- what is so of the causes of a plan that take nothing from outside and hand out nothing
  abbrev AreInside : List Cause → Type 0
  AreInside plan =
      (cause : Cause) → Contains plan cause →
      IsDue p AsModule cause × (is_outside cause ≡ false) × (is_exports cause ≡ false)

  abbrev MadeFit : Cause → List Item → Type 0
  MadeFit cause item = Made cause item × IsFit AnItem 0 item

  all_statements : (plan : List Cause) (items : List (List Item)) → AreInside plan →
      AllZip MadeFit plan items → AllByRecursion AreStatementNodes items
  all_statements [] [] inside are = tt
  all_statements [] (item ∷ items) inside are = absurd are
  all_statements (cause ∷ plan) [] inside are = absurd are
  all_statements (cause ∷ plan) (item ∷ items) inside are =
      let its = inside cause (here cause plan) in (
        stmt_statements (item_stmt cause item its.0 are.0.0 are.0.1 its.1 its.2),
        all_statements plan items (λ other there. inside other (later cause plan other there))
            are.1,
      )

  -- what is handed out stands last
  last_back : (exports : Bool) (items others : List (List Item)) →
      AllZip MadeFit (one_if exports Exports) items → AllZip IsEdited items others →
      IsBack (flat others)
  last_back false [] [] are each = nothing
  last_back false [] (other ∷ others) are each = absurd each
  last_back false (item ∷ items) others are each = absurd are
  last_back true [] others are each = absurd are
  last_back true (item ∷ []) [] are each = absurd each
  last_back true (item ∷ []) (other ∷ []) are each = by are.0.0
    where
      by : Made Exports item → IsBack (other ++ [])
      by (in_made.exports pairs its is) =
          subst IsBack (sym (append-nil other))
          (edited_exports (linked_idents p list context pairs) other
          (subst (λ i. IsEdited i other) is each.0))
  last_back true (item ∷ []) (other ∷ more ∷ others) are each = absurd each.1
  last_back true (item ∷ more ∷ items) others are each = absurd are.1

  zip-fit : (plan : List Cause) (items : List (List Item)) →
      AllZip (IsMade p hooks list context answers) plan items →
      AllZip (IsItemAlone p hooks list context answers) plan items → AllZip MadeFit plan items
  zip-fit [] [] are alone = tt
  zip-fit [] (item ∷ items) are alone = absurd are
  zip-fit (cause ∷ plan) [] are alone = absurd are
  zip-fit (cause ∷ plan) (item ∷ items) are alone =
      ((are.0, alone.0.fit), zip-fit plan items are.1 alone.1)

  module _ (front : List Cause) (exports : Bool) (inside : AreInside front)
      (items : List (List Item))
      (are : AllZip (IsMade p hooks list context answers) (front ++ one_if exports Exports) items)
      (alone : AllZip (IsItemAlone p hooks list context answers) (front ++ one_if exports Exports)
      items)
    where
      abbrev plan : List Cause
      plan = front ++ one_if exports Exports

      -- OF STATEMENTS
      pub with-idents-statements : (news : List Ident) →
          length news ≡ length (idents (joined_items items)) →
          IsOfStatements (with_idents (joined_items items) news)
      with-idents-statements news long = record {
        stmts = flat its.first;
        back = flat its.second;
        is =
            all.is
            ∙ ap (λ (these : List (List Item)). joined_items these) its.is
            ∙ ap (λ these. h.Open 0 h.Module ∷ (these ++ h.Close ∷ []))
            (flat-append its.first its.second)
            ∙ ap (λ these. h.Open 0 h.Module ∷ these)
            (append_assoc (flat its.first) (flat its.second) (h.Close ∷ []));
        statements =
            all_edited parts.first its.first its.zip
            (all_statements front parts.first inside parts.zip);
        ends = last_back exports parts.second its.second parts.rest its.rest;
      }
        where
          notes : HasItemNotes p hooks list context answers plan items
          notes = notes-of p hooks list context answers plan items alone

          all : Renewed items notes.noted (changes_to (idents (joined_items items)) news)
          all =
              renewed items notes.noted (changes_to (idents (joined_items items)) news)
              (all-forms p hooks list context answers plan items notes.noted notes.each)
              (no-lone p hooks list context answers plan items notes.noted notes.each)
              (subst (AllZip KeepsText (changes_to (idents (joined_items items)) news))
              (module-names items)
              (changes-keep (idents (joined_items items)) news long))

          parts : Split MadeFit front (one_if exports Exports) items
          parts =
              zip-split MadeFit front (one_if exports Exports) items
              (zip-fit plan items are alone)

          its : Split IsEdited parts.first parts.second all.made
          its =
              zip-split IsEdited parts.first parts.second all.made
              (subst (λ these. AllZip IsEdited these all.made) parts.is all.each)

-- ---- ends
as-many : (tree : List Item) (call : Calling) (numbers : Numbering) →
    length (renamed_idents call tree numbers) ≡ length (idents tree)
as-many tree call numbers =
    length-map (occurrences tree)
    (λ (o : Occurrence). let i : Ident = (named_symbol call tree numbers o, 0) in i)
    ∙ sym (length-map (occurrences tree) ident_of)

-- a tidy tree with identifiers without contexts is cleared
cleared-already : (tree : List Item) → IsEditable tree → tidied tree ≡ tree → (call : Calling) →
    (numbers : Numbering) →
    named_at_once call tree numbers ≡ with_idents tree (renamed_idents call tree numbers)
cleared-already tree editable tidy call numbers =
    cleared-tidied (named_symbol call tree numbers) (occurrences tree)
    (with_idents tree (renamed_idents call tree numbers))
    (with-idents-are tree editable (renamed_idents call tree numbers) (as-many tree call numbers))
    ∙ tidied-with_idents tree editable (renamed_idents call tree numbers) (as-many tree call numbers)
    ∙ ap (λ t. with_idents t (renamed_idents call tree numbers)) tidy

-- Both renamings in turn.

module _ (renames : Bool) (merged : List Item) (editable : IsEditable merged) (resolved : IsResolved Es merged) (only : HasNamesOnly merged) (plain : ArePlain merged) (tidy : tidied merged ≡ merged) (after : List Item) (made : IsNamedAtOnce renames merged after) where
  abbrev its_call : Calling
  its_call = n.call merged only made.table made.denotes resolved made.right.keywords made.right.texts made.right.contexts

  rule : IsKeywordRule its_call merged
  rule = n.rule merged only made.table made.denotes resolved made.right.keywords made.right.texts made.right.contexts

  faithful : IsFaithful its_call (occurrences merged) (declared ByContext Es merged)
  faithful = rule-faithful its_call merged only rule

  is-recalled : renames ≡ false → after ≡ recall its_call merged
  is-recalled so =
      made.is
      ∙ ap (λ b. with_idents merged (idents_called made.table made.names (if b then Clear else Keep) merged)) so
      ∙ ap (λ names. with_idents merged (idents_called made.table names Keep merged)) (made.right.kept so)
      ∙ ap (with_idents merged) (n.kept-idents merged only made.table made.denotes resolved made.right.keywords made.right.texts made.right.contexts)

  is-named-so : (so : renames ≡ true) → IsNamed (recall its_call merged) after
  is-named-so so =
      let numbers : Numbering = n.numbers merged only made.table made.denotes resolved made.right.keywords made.right.texts made.right.contexts made.names (made.right.named so) in
      let final = final-numbering its_call merged only plain editable faithful numbers (n.right merged only made.table made.denotes resolved made.right.keywords made.right.texts made.right.contexts made.names (made.right.named so)) in
      subst (IsNamed (recall its_call merged))
      (finished-same its_call merged only plain editable rule numbers
      ∙ cleared-already merged editable tidy its_call numbers
      ∙ sym (made.is
      ∙ ap (λ b. with_idents merged (idents_called made.table made.names (if b then Clear else Keep) merged)) so
      ∙ ap (with_idents merged) (n.named-idents merged only made.table made.denotes resolved made.right.keywords made.right.texts made.right.contexts made.names (made.right.named so))))
      (is-finished its_call merged only plain editable faithful resolved rule.calling
      (later_of its_call merged numbers) final)

  -- one rebuild comes to both
  pub in-turn : IsNamedInTurn renames merged after
  in-turn = record {
    free = recall its_call merged;
    rid = rid-of-keywords its_call merged only plain editable faithful resolved rule.calling;
    named = is-named-so;
    kept = is-recalled;
  }

-- the tree with other identifiers, as many
pub record HasIdents (tree after : List Item) : Type 0 where
  pub news : List Ident
  pub long : length news ≡ length (idents tree)
  pub is : after ≡ with_idents tree news

pub with-its-idents : (renames : Bool) (merged : List Item) → IsResolved Es merged →
    HasNamesOnly merged → (after : List Item) → IsNamedAtOnce renames merged after →
    HasIdents merged after
with-its-idents renames merged resolved only after made = by renames refl
  where
    by : (b : Bool) → renames ≡ b → HasIdents merged after
    by false so = record {
      news = called_idents (n.call merged only made.table made.denotes resolved made.right.keywords made.right.texts made.right.contexts) merged;
      long = called-long (n.call merged only made.table made.denotes resolved made.right.keywords made.right.texts made.right.contexts) merged;
      is =
          made.is
          ∙ ap (λ b. with_idents merged (idents_called made.table made.names (if b then Clear else Keep) merged)) so
          ∙ ap (λ names. with_idents merged (idents_called made.table names Keep merged)) (made.right.kept so)
          ∙ ap (with_idents merged) (n.kept-idents merged only made.table made.denotes resolved made.right.keywords made.right.texts made.right.contexts);
    }
    by true so =
        let numbers : Numbering = n.numbers merged only made.table made.denotes resolved made.right.keywords made.right.texts made.right.contexts made.names (made.right.named so) in
        record {
          news = renamed_idents (n.call merged only made.table made.denotes resolved made.right.keywords made.right.texts made.right.contexts) merged numbers;
          long = as-many merged (n.call merged only made.table made.denotes resolved made.right.keywords made.right.texts made.right.contexts) numbers;
          is =
              made.is
              ∙ ap (λ b. with_idents merged (idents_called made.table made.names (if b then Clear else Keep) merged)) so
              ∙ ap (with_idents merged) (n.named-idents merged only made.table made.denotes resolved made.right.keywords made.right.texts made.right.contexts made.names (made.right.named so));
        }

-- The end of a bundle.

module _ (settings : Settings) (p : Program) (hooks : Hooks) (plan : List Cause) (merged : List Item) (first : ℕ) (its : IsMergedRight first p hooks plan merged) (is_joined : IsJoined p hooks merged) (tidy : tidied merged ≡ merged) (after : List Item) (made : IsNamedAtOnce settings.renames merged after) where
  abbrev call : Calling
  call = n.call merged its.whole.names made.table made.denotes its.whole.resolved made.right.keywords made.right.texts made.right.contexts

  -- without hygiene
  without : settings.renames ≡ false → IsEnded settings p hooks after
  without so =
      subst (IsEnded settings p hooks)
      (sym (made.is
      ∙ ap (λ b. with_idents merged (idents_called made.table made.names (if b then Clear else Keep) merged)) so
      ∙ ap (λ names. with_idents merged (idents_called made.table names Keep merged)) (made.right.kept so)
      ∙ ap (with_idents merged) (n.kept-idents merged its.whole.names made.table made.denotes its.whole.resolved made.right.keywords made.right.texts made.right.contexts)
      ∙ ap (λ t. with_idents t (called_idents call merged)) (sym tidy)))
      (ends-unnamed settings p hooks plan merged first its is_joined call (n.rule merged its.whole.names made.table made.denotes its.whole.resolved made.right.keywords made.right.texts made.right.contexts) so)

  -- with it
  with-names : settings.renames ≡ true → HasPlainKeys merged → IsUndoubled merged →
      IsEnded settings p hooks after
  with-names so keys undoubled =
      let numbers : Numbering = n.numbers merged its.whole.names made.table made.denotes its.whole.resolved made.right.keywords made.right.texts made.right.contexts made.names (made.right.named so) in
      subst (IsEnded settings p hooks)
      (cleared-already merged (ready-editable p hooks plan merged its.whole.ready) tidy call numbers
      ∙ sym (made.is
      ∙ ap (λ b. with_idents merged (idents_called made.table made.names (if b then Clear else Keep) merged)) so
      ∙ ap (with_idents merged) (n.named-idents merged its.whole.names made.table made.denotes its.whole.resolved made.right.keywords made.right.texts made.right.contexts made.names (made.right.named so))))
      (ends-named settings p hooks plan merged first its is_joined call (n.rule merged its.whole.names made.table made.denotes its.whole.resolved made.right.keywords made.right.texts made.right.contexts) so keys undoubled numbers
      (n.right merged its.whole.names made.table made.denotes its.whole.resolved made.right.keywords made.right.texts made.right.contexts made.names (made.right.named so)))

  -- the end of a bundle
  pub ends : HasPlainKeys merged → (settings.renames ≡ true → IsUndoubled merged) →
      IsEnded settings p hooks after
  ends keys undoubled = by settings.renames refl
    where
      by : (b : Bool) → settings.renames ≡ b → IsEnded settings p hooks after
      by true so = with-names so keys (undoubled so)
      by false so = without so

-- ---- made

-- a program that is to be one function's call and has no fault takes nothing from outside
none-used : (p q : Program) (ids : List ℕ) → AreKnown p q ids → p.settings.iife ≡ true →
    (s : Text) → IsUsed p s → ⊥
none-used p q ids known iife s used =
    let at = contains-at (declared_requests (tree_of p used.which)) s used.asks in
    let file = (known.trees used.which used.reached).0 in
    known.faultless used.which 7 at.0 file (ExternalUnderIife file s) used.reached
    (external_under_iife iife at.1 used.external)

-- what is due then is inside
due-inside : (p : Program) → ((s : Text) → IsUsed p s → ⊥) → (cause : Cause) →
    IsDue p AsModule cause → is_outside cause ≡ false
due-inside p never cause (due.imports_names used means) = absurd (never _ used)
due-inside p never cause (due.imports_whole used means) = absurd (never _ used)
due-inside p never cause (due.imports_nothing used none whole) = absurd (never _ used)
due-inside p never cause (due.stars star) = absurd (never _ (star-used p star itself))
due-inside p never cause (due.own reached es within) = refl
due-inside p never cause (due.helps reached its) = refl
due-inside p never cause (due.defines reached its) = refl
due-inside p never cause (due.loads reached es asks) = refl
due-inside p never cause (due.holds_meta reached its) = refl
due-inside p never cause (due.holds_namespace its) = refl
due-inside p never cause (due.exports is linked) = refl
due-inside p never cause (due.returns is) = refl

outside-at : (ids : List ℕ) (cause : Cause) → is_outside (cause_at ids cause) ≡ is_outside cause
outside-at ids (Own m k) = refl
outside-at ids (ImportsNames s) = refl
outside-at ids (ImportsWhole s) = refl
outside-at ids (ImportsNothing s) = refl
outside-at ids Helps = refl
outside-at ids (Defines c) = refl
outside-at ids (Loads m c) = refl
outside-at ids (HoldsMeta m) = refl
outside-at ids (HoldsNamespace d) = refl
outside-at ids (Stars s) = refl
outside-at ids Exports = refl

-- where the list of exports is due, a name is handed out
due-exports : (p : Program) (cause : Cause) → IsDue p AsModule cause → is_exports cause ≡ true →
    HandsOutNames p AsModule
due-exports p cause (due.exports is linked) e = exported linked
due-exports p cause (due.returns is) e = absurd cc
due-exports p cause (due.imports_names used means) e = absurd (true≢false (sym e))
due-exports p cause (due.imports_whole used means) e = absurd (true≢false (sym e))
due-exports p cause (due.imports_nothing used none whole) e = absurd (true≢false (sym e))
due-exports p cause (due.stars star) e = absurd (true≢false (sym e))
due-exports p cause (due.own reached es within) e = absurd (true≢false (sym e))
due-exports p cause (due.helps reached its) e = absurd (true≢false (sym e))
due-exports p cause (due.defines reached its) e = absurd (true≢false (sym e))
due-exports p cause (due.loads reached es asks) e = absurd (true≢false (sym e))
due-exports p cause (due.holds_meta reached its) e = absurd (true≢false (sym e))
due-exports p cause (due.holds_namespace its) e = absurd (true≢false (sym e))

the-exports : (cause : Cause) → is_exports cause ≡ true → cause ≡ Exports
the-exports Exports e = refl
the-exports _ e = absurd (true≢false (sym e))

pub at-end : {A : Type 0} (xs : List A) (x : A) → slice_get (xs ++ x ∷ []) (length xs) ≡ Some x
at-end [] x = refl
at-end (y ∷ xs) x = at-end xs x

module _ (p q : Program) (ids : List ℕ) (g : Modules) (places : IsByPlaces p q ids g)
    (known : AreKnown p q ids) (its_moved : AreMoved p q ids) (linking : Linking)
    (meta : ℕ → Bool) (count : ℕ → ℕ) (linked : AreTablesLinked q (length ids) linking meta count)
    (plan : Plan) (planned : IsPlanAsked p.settings.in_standard_order g p.entry ids plan)
    (hooks : Hooks) (context : BundleContexts)
    (answers : ℕ → Option HookAnswer) where
  -- modules by their places
  abbrev places_of : List ℕ
  places_of = numbers_from zero (length ids)

  -- what is decided of them
  abbrev d : Decided
  d = decided_by linking meta count (length ids) (map block_of plan.blocks.items)

  its_sound : AreTreesSound q places_of
  its_sound = sound p q ids known

  are_decided : AreDecided q AsModule d
  are_decided = decided p q ids g places linking meta count linked plan planned

  module _ (orders : List (List ℕ)) (items : List (List Item))
      (made : AreMade q hooks places_of context answers d orders items)
      (apart : TellApart q answers context)
      (locals : (k : ℕ) → IsReached q k → context (TopOf k) ≡ local_context (id_at ids k))
      (first : ℕ) (given : AreOthersGiven q answers context first)
      (over : (m : ℕ) → IsReached p m → export_context m < first) where
    abbrev its_plan : List Cause
    its_plan = plan_of d orders

    laid : AreLaid q hooks places_of context answers its_plan items
    laid =
        are-laid q hooks places_of context answers d orders items made are_decided apart
        (made-alone q hooks places_of context answers its_sound apart)

    together : AreMergedTogether q hooks places_of context answers its_plan items
    together = record {
      sound = its_sound;
      apart = apart;
      alone = laid.alone;
      due = laid.due;
      once = laid.once;
    }

    notes : HasItemNotes q hooks places_of context answers its_plan items
    notes = notes-of q hooks places_of context answers its_plan items laid.alone

    pub made-right : IsMergedRight first p hooks (map (cause_at ids) its_plan) (joined_items items)
    made-right =
        known-right p q ids g places known its_moved linking meta count linked plan planned hooks
        context answers orders items made apart locals first given

    tidy : AreFresh answers → tidied (joined_items items) ≡ joined_items items
    tidy are_fresh =
        joined-tidied q hooks places_of context answers its_sound are_fresh its_plan items
        (λ cause there. (laid.due cause).0 there) laid.made

    undoubled : IsUndoubled (joined_items items)
    undoubled =
        made-undoubled q hooks places_of context answers its_sound apart its_plan items together
        laid.made

    keyless : HasPlainKeys (joined_items items)
    keyless =
        joined_keyless items
        (all-fit q hooks places_of context answers its_plan items notes.noted notes.each)

    -- of what is made own statements keep their forms
    kept_forms : AllZip (CauseKeepsForms q) its_plan items
    kept_forms =
        by its_plan items laid.made (λ cause there. (laid.due cause).0 there)
      where
        by : (plan_part : List Cause) (parts : List (List Item)) →
            AllZip (IsMade q hooks places_of context answers) plan_part parts →
            ((cause : Cause) → Contains plan_part cause → IsDue q AsModule cause) →
            AllZip (CauseKeepsForms q) plan_part parts
        by [] [] all its_due = tt
        by [] (part ∷ parts) all its_due = absurd all
        by (cause ∷ plan_part) [] all its_due = absurd all
        by (cause ∷ plan_part) (part ∷ parts) all its_due = (
          made-keeps q places_of context its_sound hooks answers cause part
              (its_due cause (here cause plan_part)) all.0,
          by plan_part parts all.1 (λ other there. its_due other (later cause plan_part other there)),
        )

    -- in the items of the bundle, whose modules have their own numbers
    forms_there : AllZip (CauseKeepsForms p) (map (cause_at ids) its_plan) made-right.whole.ready.still.items
    forms_there =
        let still = made-right.whole.ready.still in
        let renamed = places-renamed p q ids its_moved in
        subst (λ these. AllZip (CauseKeepsForms p) (map (cause_at ids) its_plan) these)
        (same-items items still.items
        (all-single q hooks places_of context answers its_plan items together) still.bundle.single
        still.is)
        (all-forms-on (λ k m. IsModuleAt ids m k) (id_at ids) renamed.names q p renamed.alike
        its_plan items
        (λ i cause at. due-named q p (λ k m. IsModuleAt ids m k) (id_at ids) (λ m. index_of m ids)
        renamed ((laid.due cause).0 (contains-get its_plan i cause at)))
        kept_forms)

    -- JOINED
    joined : IsJoined p hooks (joined_items items)
    joined =
        let still = made-right.whole.ready.still in
        record {
          merged = record {
            is_bundle = record {
              pairing = pairing_of still.labels still.items (map (cause_at ids) its_plan);
              paired = still.paired;
              laid_out = made-right.whole.laid;
            };
            resolved = made-right.whole.resolved;
            named = made-right.whole.names;
            contexts = made-right.contexts;
            binds = made-right.binds;
            called = made-right.called;
          };
          forms =
              paired-keep p (map (cause_at ids) its_plan) still.items still.labels still.bundle.single
              forms_there;
          others = λ place o scope name m at denotes unlabelled reached.
              let from = made-right.others place o scope name at denotes unlabelled in
              let below = over m reached in
              omega (arith, from, below);
        }

    -- THE END of a bundle
    pub made-ended : AreFresh answers → (settings : Settings) (after : List Item) →
        IsNamedAtOnce settings.renames (joined_items items) after → IsEnded settings p hooks after
    made-ended are_fresh settings after named =
        ends settings p hooks (map (cause_at ids) its_plan) (joined_items items) first made-right joined
        (tidy are_fresh) after named keyless (λ renames. undoubled)

    -- Where it is one function's call.

    due_there : (cause : Cause) → Contains its_plan cause → IsDue p AsModule (cause_at ids cause)
    due_there cause there =
        (made-right.whole.ready.still.bundle.due (cause_at ids cause)).0
        (contains-map (cause_at ids) its_plan cause there)

    abbrev front : List Cause
    front = front_plan d ++ blocks_plan d d.blocks orders

    module _ (iife : p.settings.iife ≡ true) where
      inside : (cause : Cause) → Contains its_plan cause → is_outside cause ≡ false
      inside cause there =
          sym (outside-at ids cause)
          ∙ due-inside p (none-used p q ids known iife) (cause_at ids cause)
          (due_there cause there)

      no_stars : (stars : List Text) → ((cause : Cause) → Contains (map Stars stars) cause →
          is_outside cause ≡ false) → stars ≡ []
      no_stars [] none = refl
      no_stars (s ∷ stars) none =
          absurd (true≢false (none (Stars s) (here (Stars s) (map Stars stars))))

      plan_is : its_plan ≡ front ++ one_if d.exports Exports
      plan_is =
          ap
          (λ stars. front_plan d ++ (blocks_plan d d.blocks orders
          ++ (map Stars stars ++ one_if d.exports Exports)))
          (no_stars d.stars
          (λ cause there. inside cause
          (Contains-append_right (front_plan d) (blocks_plan d d.blocks orders ++ back_plan d)
          cause
          (Contains-append_right (blocks_plan d d.blocks orders) (back_plan d) cause
          (Contains-append_left (map Stars d.stars) (one_if d.exports Exports) cause there)))))
          ∙ sym
          (append_assoc (front_plan d) (blocks_plan d d.blocks orders)
          (one_if d.exports Exports))

      in_plan : (cause : Cause) → Contains front cause → Contains its_plan cause
      in_plan cause there =
          subst (λ causes. Contains causes cause) (sym plan_is)
          (Contains-append_left front (one_if d.exports Exports) cause there)

      -- the list of exports stands at the end alone
      not_before : (cause : Cause) → Contains front cause → is_exports cause ≡ true → ⊥
      not_before cause there e =
          let at = contains-at front cause there in
          let is : cause ≡ Exports = the-exports cause e in
          let hands : d.exports ≡ true =
          are_decided.exports.1
          (due-exports q cause ((laid.due cause).0 (in_plan cause there)) e) in
          let ended : its_plan ≡ front ++ Exports ∷ [] =
          plan_is ∙ ap (λ b. front ++ one_if b Exports) hands in
          let same : at.0 ≡ length front =
          laid.once at.0 (length front) Exports
          (ap (λ causes. slice_get causes at.0) ended
          ∙ at-front front (Exports ∷ []) at.0 Exports (at.1 ∙ ap Some is))
          (ap (λ causes. slice_get causes (length front)) ended ∙ at-end front Exports) in
          let less : at.0 < length front = slice_get_within front at.0 cause at.1 in
          absurd (omega (arith, same, less))

      no_exports : (cause : Cause) → Contains front cause → is_exports cause ≡ false
      no_exports cause there = by (is_exports cause) refl
        where
          by : (b : Bool) → is_exports cause ≡ b → b ≡ false
          by true e = absurd (not_before cause there e)
          by false e = refl

      -- A MODULE OF STATEMENTS
      pub made-statements : (renames : Bool) (after : List Item) →
          IsNamedAtOnce renames (joined_items items) after → IsOfStatements after
      made-statements renames after named =
          let its =
          with-its-idents renames (joined_items items) made-right.whole.resolved made-right.whole.names
          after named in
          subst IsOfStatements (sym its.is)
          (with-idents-statements q hooks places_of context answers its_sound front d.exports
          (λ cause there. (
            (laid.due cause).0 (in_plan cause there),
            inside cause (in_plan cause there),
            no_exports cause there,
          ))
          items
          (subst (λ causes. AllZip (IsMade q hooks places_of context answers) causes items)
          plan_is laid.made)
          (subst (λ causes. AllZip (IsItemAlone q hooks places_of context answers) causes items)
          plan_is laid.alone)
          its.news its.long)
