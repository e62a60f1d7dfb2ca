-- Where contexts are refused to the modules of a bundle or to the linker's own labels, the bundle
-- may need too many.
-- What the hook answered for a module is the object that holds its `import.meta`.
-- The own statements of a module of a bundle become what its items state in turn.
-- What a module adds is made for the causes that are planned of it.
use Rattle.std.proofs.Common.{◌≡◌, ◌↔◌, ℕ, ◌+◌, ◌≤◌, Bool, true, false, List, [], ◌∷◌, ◌++◌, Option, Some, None, Contains, length, map, length-append, refl, sym, ◌∙◌, subst, if◌then◌else◌, arith, unwrap_or, ap, ◌<◌, ◌&&◌, not, zero, suc, append-nil}
use Rattle.std.specs.Prelude.{IsTrue, option_map, slice_get, codes, flat_map, is_some}
use Rattle.std.specs.List.{list_any, AllZip}
use Rattle.std.proofs.lemmas.Bool.{and_parts, false≢true, true≢false, and_right}
use Rattle.std.proofs.lemmas.List.Elements.{Contains-append_left, Contains-append_right}
use Rattle.std.proofs.lemmas.Option.{slice_get_within}
use Rattle.std.proofs.Math.Bool.{and-true}
use Rattle.bundle_order_graph.proofs.OrderLemmas.{not-true as not-so}
use Rattle.bundle_syntax.specs.Item as h
use Rattle.bundle_syntax.specs.Item.{Item, item_of}
use Rattle.bundle_syntax.specs.declared.kind.ExportMetadata.{ExportMetadata}
use Rattle.bundle_rules.specs.Bundle.{Hooks, form_of, HoldsMeta, properties_tree, Cause, Defines, Loads, Own}
use Rattle.bundle_rules.specs.Entries.{has_import_meta}
use Rattle.bundle_rules.specs.Faults.{NeedsTooManyContexts, tree_count}
use Rattle.bundle_rules.specs.Linking.{IsCommonJs}
use Rattle.bundle_rules.specs.Meaning.{Helper, Label, is_common_js, is_es, Meta, HasKind, Load}
use Rattle.bundle_rules.specs.Program.{Program, tree_of, IsReached}
use Rattle.bundle_rules.specs.Scopes.{Cjs, Es, ModuleKind}
use Rattle.bundle_tree_ast.specs.declared.expr.Expr.{Expr}
use Rattle.bundle_tree_ast.specs.declared.module.Module.{Module}
use Rattle.bundle_rules.specs.Cleared.{cleared}
use Rattle.bundle_rules.specs.Declarations.{BySymbol, declared}
use Rattle.bundle_rules.specs.Denotes.{Denoted, denotations, denoted_of}
use Rattle.bundle_rules.specs.Idents.{Ident}
use Rattle.bundle_rules.specs.Places.{Occurrence, occurrences}
use Rattle.bundle_rules.specs.Statements.{no_notes, moved_to, Element, own_statements}
use Rattle.bundle_rules.proofs.DenotesLemmas.{denotations-cleared}
use Rattle.bundle_rules.proofs.PathLemmas.{cleared_occurrence, occurrences-cleared}
use Rattle.bundle_tree_ast.specs.declared.module.ModuleItem.{ModuleItem}
use Rattle.bundle_rules.specs.Nodes.{parts as parts_of, flat}
use Rattle.bundle_rules.specs.Merged.{meta_item}
use Rattle.bundle_rules.specs.Tables.{TellsCommonJs}
use Rattle.bundle_tree_listed.specs.Tree.{expr_items, module_item_items}
use Rattle.bundle_tree_places.specs.Edits.{InObject, node}
use Rattle.bundle_tree_places.specs.Marks.{ident_of}
use Rattle.bundle_tree_places.specs.declared.mark.Name.{Name}
use Rattle.bundle_scope_denote.specs.Listed.{IsDenotationTable}
use Rattle.bundle_scope_names.proofs.KnowsLemmas.{pigeons}
use Rattle.bundle_scope_names.proofs.Numbering.{Numbering, context_of}
use Rattle.bundle_tree_rebuild.specs.declared.rewrite.Rewrite.{Rewrite}
use Rattle.bundle_tree_rebuild.specs.declared.rewrite.Rewriting.{Rewriting}
use Rattle.bundle_tree_rebuild.specs.Becomes.{Becomes}
use Rattle.bundle_tree_rebuild.specs.Work.{Work, Step, rewrite_step, work_of}
use Rattle.bundle_tree_rebuild.specs.declared.rewrite.Whole.TheVariants as w
use Rattle.bundle_merge_injected.specs.Listed
use Rattle.bundle_link_index.proofs.ProgramLemmas.{map_on, later}
use Rattle.bundle_tree_rewrite.specs.Stated.{ReworkedObject}
use Rattle.bundle_link_targets.proofs.ListLemmas.{first-there as here}
use Rattle.bundle_link_targets.specs.Handed.{AreLoadsIn}
use Rattle.bundle_link_targets.specs.declared.target.Loaded.{Loaded}
use Rattle.bundle_link.proofs.ClearedNodes.{cleared-append}
use Rattle.bundle_merge_theory.specs.made.Given.{HookAnswer, Fresh, Written, Holder, HelperParameter, HelperVariable, NameOf, stands_written, BundleContexts, ident_of_label, numbers_answered, default_ident, TopOf}
use Rattle.bundle_merge_theory.specs.planned.Counted.{answer_count, count_if, injected_labels, sum_of, tree_total}
use Rattle.bundle_merge_theory.specs.planned.Decided.{AreDecided, Decided, es_plan, module_plan, numbers_from, one_if}
use Rattle.bundle_merge_theory.proofs.planned.CountLemmas.{helper-there, load-there, meta-there, target-there, passes-some}
use Rattle.bundle_merge_theory.proofs.planned.OrderLemmas.{contains-get, get-contains, length-mapped}
use Rattle.bundle_merge_theory.proofs.planned.RequestLemmas.{list-reached}
use Rattle.bundle_merge_theory.proofs.planned.TreeCountLemmas.{AreAnswers, lacks-contexts}
use Rattle.bundle_merge_theory.specs.made.Made as in_made
use Rattle.bundle_merge_theory.specs.made.Made.{IsMade, holds_meta, IsStatedAs}
use Rattle.bundle_merge_theory.specs.made.Steps.{IsStepTo, IsStepAnswered, meta_ident}
use Rattle.bundle_merge_theory.specs.sound.Decided.{AreTablesTold}
use Rattle.bundle_merge_theory.proofs.answered.Meta as in_meta
use Rattle.bundle_merge_names.specs.Added
use Rattle.bundle_merge_names.specs.Added.{IsOfHelper, IsOfLabels, IsOfModule}
use Rattle.bundle_merge_names.specs.Refused.{AreLabels, HasAtMost, LacksContexts, LacksForLabels, RefusesNames, answered_count, for_answer, for_labels, for_module, for_scopes}
use Rattle.bundle_merge_names.specs.Body.{AreOwnSteps, numbered_ident, AreModuleRewrites, IsModuleReadAs}
use Rattle.bundle_merge_names.specs.Bundle.{AreMetaAnswers as AreAnswers_meta, IsReadAnswer, answered_items, IsPartOf, list_of_part, own_items, written_items}
use Rattle.bundle_merge_names.specs.Idents.{label_ident}
use Rattle.bundle_merge_names.specs.Named.{answered_in}
use Rattle.bundle_merge_names.specs.Numbers.{AreNumbersOf}
use Rattle.bundle_merge_names.specs.declared.names.BundleNames.{BundleNames}
use Rattle.bundle_merge_names.specs.declared.part.Answered.{Answered}
use Rattle.bundle_merge_names.specs.declared.part.BundleInput.{BundleInput}
use Rattle.bundle_merge_names.specs.declared.part.BundleModule.{BundleModule}
use Rattle.bundle_merge_names.proofs.RefusedLemmas.{meta-ident, read-as, none-written, one-written, part-written, written-there}
use Rattle.bundle_merge_names.proofs.ScopeLemmas.{there-below}
use Rattle.bundle_merge_names.specs.Naming.{AreBundleNamesOf}
use Rattle.bundle_merge_names.proofs.Naming.{are-named}
use Rattle.bundle_merge_names.specs.declared.error.MergeError.TheVariants as e
use Rattle.bundle_merge_names.specs.declared.names.Label.TheVariants
use Rattle.bundle_merge_items.specs.Added as in_added
use Rattle.bundle_merge_items.specs.Added.{module_item_lists, local_ident, copied_item, definition_of}
use Rattle.bundle_merge_items.specs.Adds.{AddsMeta, IsNamedBundle, any_hooks, AddsItems, ArePlannedCauses, behind_plan, decided_of, meta_plan}
use Rattle.bundle_merge_items.proofs.Copies.{expr-moved}
use Rattle.bundle_merge_items.specs.Stated.{AreStatedAs, StateInTurn}
use Rattle.bundle_merge_items.proofs.NeedsLemmas.{own-stated}
use Rattle.bundle_merge_items.proofs.Adding.{adds-behind, adds-none, adds-on}
use Rattle.bundle_merge_items.proofs.Lifting.{common-js-told, loads-adds, meta-told}

-- ---- lack
answered-few : (o : Option HookAnswer) → answered_count o ≤ answer_count o
answered-few None = omega arith
answered-few (Some (Fresh properties)) = omega arith
answered-few (Some (Written ctxt notes properties)) = omega arith

-- a CommonJS module has no `import.meta`
pub none-asked : (p : Program) (m : ℕ) → IsCommonJs p m → has_import_meta (tree_of p m) ≡ false
none-asked p m common = not-so (has_import_meta (tree_of p m)) (and_parts _ _ common.script).1

-- the names of the helper, where there is one
abbrev helper_holders : Bool → List Holder
helper_holders true = HelperParameter ∷ HelperVariable ∷ []
helper_holders false = []

helper-length : (b : Bool) → length (helper_holders b) ≡ count_if b 2
helper-length true = refl
helper-length false = refl

module _ (q : Program) (hooks : Hooks) (d : Decided) (its : AreDecided q (form_of q.settings) d)
    (answers : ℕ → Option HookAnswer) (asked : AreAnswers q hooks answers) where
  -- Trees.

  none-answered : (m : ℕ) → IsCommonJs q m → answered_count (answers m) ≡ 0
  none-answered m common = by (answers m) refl
    where
      by : (o : Option HookAnswer) → answers m ≡ o → answered_count o ≡ 0
      by None is = refl
      by (Some (Written ctxt notes properties)) is = refl
      by (Some (Fresh properties)) is =
          absurd
          (false≢true (sym (none-asked q m common) ∙ (asked.asked m properties is).0))

  has-most : (m : ℕ) → IsReached q m →
      HasAtMost q answers m (tree_total q d.is_common_js answers m)
  has-most m reached =
      by (d.is_common_js m) (its.modules m ((list-reached q d.list its.list m).1 reached)).common_js
    where
      by : (b : Bool) → (IsTrue b ↔ IsCommonJs q m) →
          HasAtMost q answers m
          (if b then tree_count Cjs (tree_of q m) else tree_count Es (tree_of q m) +
          answer_count (answers m))
      by true says =
          let none = none-answered m (says.0 refl) in
          record {
            kind = Cjs;
            has_kind = is_common_js (says.0 refl);
            few = omega (arith, none);
          }
      by false says =
          let few = answered-few (answers m) in
          record {
            kind = Es;
            has_kind = is_es (λ common. false≢true (says.1 common));
            few = omega (arith, few);
          }

  -- Labels.

  abbrev has_helper : Bool
  has_helper = list_any d.is_common_js d.list

  abbrev all_holders : List Holder
  all_holders = map NameOf (injected_labels d) ++ helper_holders has_helper

  all-length : length all_holders ≡ length (injected_labels d) + count_if has_helper 2
  all-length =
      let both = length-append (map NameOf (injected_labels d)) (helper_holders has_helper) in
      let labels = length-mapped NameOf (injected_labels d) in
      let helpers = helper-length has_helper in omega (arith, both, labels, helpers)

  label-held : (label : Label) (holder : Holder) → holder ≡ NameOf label →
      Contains (injected_labels d) label → Contains all_holders holder
  label-held label holder is there =
      subst (Contains all_holders) (sym is)
      (Contains-append_left (map NameOf (injected_labels d)) (helper_holders has_helper)
      (NameOf label) (map_on NameOf (injected_labels d) label there))

  helper-some : (c : ℕ) → IsReached q c → IsCommonJs q c → has_helper ≡ true
  helper-some c reached common =
      let listed = (list-reached q d.list its.list c).1 reached in
      passes-some q (form_of q.settings) d.is_common_js d.list c listed
      ((its.modules c listed).common_js.1 common)

  helper-held : (c : ℕ) → IsReached q c → IsCommonJs q c → (holder : Holder) →
      IsOfHelper holder → Contains all_holders holder
  helper-held c reached common holder Added.its_name =
      label-held Helper (NameOf Helper) refl
      (helper-there q (form_of q.settings) d its c reached common)
  helper-held c reached common holder Added.its_parameter =
      Contains-append_right (map NameOf (injected_labels d)) (helper_holders has_helper)
      HelperParameter
      (subst (λ b. Contains (helper_holders b) HelperParameter)
      (sym (helper-some c reached common)) (here HelperParameter (HelperVariable ∷ [])))
  helper-held c reached common holder Added.its_variable =
      Contains-append_right (map NameOf (injected_labels d)) (helper_holders has_helper)
      HelperVariable
      (subst (λ b. Contains (helper_holders b) HelperVariable)
      (sym (helper-some c reached common))
      (later HelperParameter (HelperVariable ∷ []) HelperVariable (here HelperVariable [])))

  module-held : (k : ℕ) → IsReached q k → (holder : Holder) → IsOfModule q k holder →
      Contains all_holders holder
  module-held k reached holder (Added.its_load its_load) =
      label-held _ holder its_load.is
      (load-there q (form_of q.settings) d its k reached its_load.so)
  module-held k reached holder (Added.its_meta its_meta) =
      label-held _ holder its_meta.is
      (meta-there q (form_of q.settings) d its k reached
      (λ common. false≢true (sym (none-asked q k common) ∙ its_meta.so)) its_meta.so)
  module-held k reached holder (Added.its_loads loads) =
      label-held _ holder loads.is
      (target-there q (form_of q.settings) d its _ loads.meant (λ m x no. cc))
  module-held k reached holder (Added.its_namespace space) =
      label-held _ holder space.is
      (target-there q (form_of q.settings) d its _ space.so (λ m x no. cc))

  holder-there : (holder : Holder) → IsOfLabels q d.list holder → Contains all_holders holder
  holder-there holder (Added.of_externals its_external) =
      label-held _ holder its_external.is
      (target-there q (form_of q.settings) d its _ its_external.meant (λ m x no. cc))
  holder-there holder (Added.of_helpers helpers) =
      helper-held helpers.c helpers.reached helpers.common_js holder helpers.its
  holder-there holder (Added.of_modules modules) =
      module-held modules.k modules.reached holder modules.its

  labels-few : (holders : List Holder) → AreLabels q d.list answers holders →
      length holders ≤ length (injected_labels d) + count_if has_helper 2
  labels-few holders are =
      let few =
      pigeons (λ (a b : Holder). a ≡ b) (λ a b y x z. x ∙ sym z) holders all_holders are.once
      (λ i holder at.
      let there =
      get-contains all_holders holder
      (holder-there holder (are.each holder (contains-get holders i holder at)).its) in
      (there.0, holder, there.1, refl)) in
      let long = all-length in omega (arith, few, long)

  -- Refusals.

  scopes-lack : (next : ℕ) → LacksContexts q d.list answers next → NeedsTooManyContexts q hooks next
  scopes-lack next lacks =
      let above = lacks.above (tree_total q d.is_common_js answers) has-most in
      lacks-contexts q hooks d answers its asked next
      (sum_of (tree_total q d.is_common_js answers) d.list) 0 (omega arith) (omega arith)
      (omega (arith, above))

  pub labels-lack : (next : ℕ) → LacksForLabels q d.list answers next →
      NeedsTooManyContexts q hooks next
  labels-lack next lacks =
      let above = lacks.above (tree_total q d.is_common_js answers) has-most in
      lacks-contexts q hooks d answers its asked next
      (sum_of (tree_total q d.is_common_js answers) d.list) (length lacks.holders) (omega arith)
      (labels-few lacks.holders lacks.are) (omega (arith, above))

  -- LACKING: what is refused for contexts may need too many
  pub refused-lacks : (next : ℕ) (k : Option ℕ) →
      RefusesNames q d.list answers next (e.ContextsUsedUp k) → NeedsTooManyContexts q hooks next
  refused-lacks next k (for_scopes (for_module m begins holder lacks)) = scopes-lack next lacks
  refused-lacks next k (for_scopes (for_answer m begins holder lacks)) = scopes-lack next lacks
  refused-lacks next k (for_labels label given lacks) = labels-lack next lacks

-- ---- the names of a cleared list
-- the identifier of an occurrence that denotes this
abbrev kept_ident : Numbering → (Occurrence → Denoted) → Occurrence → Ident
kept_ident g denotes o = (o.sym, context_of g (denotes o))

zip-cleared : (g : Numbering) (denotes cleared_denotes : Occurrence → Denoted)
    (os : List Occurrence) (rewrites : List Rewrite) →
    map cleared_denotes (map cleared_occurrence os) ≡ map denotes os →
    AllZip (λ o rewrite. IsStepTo (kept_ident g denotes o) w.Alone (rewrite_step rewrite)) os
    rewrites →
    AllZip (λ o step. IsStepTo (kept_ident g cleared_denotes o) w.Alone step)
    (map cleared_occurrence os) (map rewrite_step rewrites)
zip-cleared g denotes cleared_denotes [] [] same all = tt
zip-cleared g denotes cleared_denotes [] (r ∷ rewrites) same all = absurd all
zip-cleared g denotes cleared_denotes (o ∷ os) [] same all = absurd all
zip-cleared g denotes cleared_denotes (o ∷ os) (r ∷ rewrites) same all =
    let its : cleared_denotes (cleared_occurrence o) ∷ map cleared_denotes (map cleared_occurrence os)
    ≡ denotes o ∷ map denotes os = same in
    let first : denotes o ≡ cleared_denotes (cleared_occurrence o) = cc in
    let more : map cleared_denotes (map cleared_occurrence os) ≡ map denotes os = cc in (
      subst (λ (d : Denoted). IsStepTo (o.sym, context_of g d) w.Alone (rewrite_step r)) first all.0,
      zip-cleared g denotes cleared_denotes os rewrites more all.1,
    )

-- steps of the occurrences of a list, each what it denotes
abbrev AreStepsOf : ModuleKind → Numbering → List Item → List Step → Type 0
AreStepsOf kind g items steps =
    AllZip (λ o step. IsStepTo (numbered_ident kind items g o) w.Alone step) (occurrences items)
    steps

steps-cleared : (kind : ModuleKind) (g : Numbering) (items : List Item) (rewrites : List Rewrite) →
    AreOwnSteps kind items g rewrites →
    AreStepsOf kind g (cleared items) (map rewrite_step rewrites)
steps-cleared kind g items rewrites all =
    let its = denoted_of BySymbol kind (declared BySymbol kind items) in
    let other = denoted_of BySymbol kind (declared BySymbol kind (cleared items)) in
    let same : map other (map cleared_occurrence (occurrences items)) ≡ map its (occurrences items) =
    ap (map other) (sym (occurrences-cleared items)) ∙ denotations-cleared kind items in
    subst
    (λ (os : List Occurrence). AllZip (λ o step. IsStepTo (kept_ident g other o) w.Alone step) os
    (map rewrite_step rewrites))
    (sym (occurrences-cleared items)) (zip-cleared g its other (occurrences items) rewrites same all)

tree-cleared : (items : List Item) → cleared (properties_tree items) ≡ properties_tree (cleared items)
tree-cleared items =
    ap (λ (rest : List Item). h.Open 0 h.Module ∷ h.Open 0 h.ExprStmt ∷ h.Open 0 h.ObjectLit ∷ rest)
    (cleared-append items (h.Close ∷ h.Close ∷ h.Close ∷ []))

answered-steps : (context : BundleContexts) (m : ℕ) (properties listed items : List Item)
    (rewrites : List Rewrite) → properties ≡ cleared items → listed ≡ properties_tree items →
    AreOwnSteps Es listed (numbers_answered context m) rewrites →
    AllZip (IsStepAnswered context m properties) (occurrences (properties_tree properties))
    (map rewrite_step rewrites)
answered-steps context m properties listed items rewrites told is own =
    let g = numbers_answered context m in
    subst (λ (tree : List Item). AreStepsOf Es g tree (map rewrite_step rewrites))
    (tree-cleared items ∙ ap properties_tree (sym told))
    (steps-cleared Es g (properties_tree items) rewrites
    (subst (λ (tree : List Item). AreOwnSteps Es tree g rewrites) is own))

-- ---- an object in another field

object-moved : (made : Expr) (inside : List Item) → expr_items 0 made ≡ node 0 h.ObjectLit inside →
    expr_items 1 made ≡ node 1 h.ObjectLit inside
object-moved made inside is =
    let its = expr-moved made in
    let whole : its.first ∷ its.more ≡ h.Open 0 h.ObjectLit ∷ (inside ++ h.Close ∷ []) =
    sym its.is ∙ is in
    let first : its.first ≡ h.Open 0 h.ObjectLit = cc in
    let more : its.more ≡ inside ++ h.Close ∷ [] = cc in
    its.moved ∙ ap (λ (x : Item). moved_to 1 x ∷ its.more) first
    ∙ ap (λ (rest : List Item). h.Open 1 h.ObjectLit ∷ rest) more

-- ---- what the hook answered
some-there : {A : Type 0} (found : Option (Option A)) (x : A) → unwrap_or found None ≡ Some x →
    found ≡ Some (Some x)
some-there None x is = cc
some-there (Some None) x is = cc
some-there (Some (Some y)) x is = ap (λ o. Some o) is

-- these become the occurrences of an answer in turn, where its scopes have these contexts
abbrev pub AreOwnNames : Answered → List (Option ℕ) → List Rewrite → Type 0
AreOwnNames answer scopes rewrites =
    (kind : ModuleKind) (g : Numbering) →
    IsDenotationTable BySymbol kind (map item_of answer.pieces.now) answer.denotations.now →
    AreNumbersOf kind (map item_of answer.pieces.now) answer.denotations.now g scopes →
    AreOwnSteps kind (map item_of answer.pieces.now) g rewrites

-- what was told of a module for which something was answered
pub record IsAnswered (answers : ℕ → Option HookAnswer) (m : ℕ) (its : Answered) : Type 0 where
  pub properties : List Item
  pub told : answers m ≡ Some (Fresh properties)
  pub is : IsReadAnswer properties its

module _ (q : Program) (list : List ℕ) (answers : ℕ → Option HookAnswer) (context : BundleContexts) (bundle : BundleInput) (names : BundleNames) (its : IsNamedBundle q list answers context bundle names) where
  pub is-answered : (m : ℕ) (answer : Answered) → IsReached q m →
      unwrap_or (slice_get bundle.answers.now m) None ≡ Some answer → IsAnswered answers m answer
  is-answered m answer reached found =
      let part = there-below bundle.parts.now m ((its.parts.reached m).0 reached) in
      by part.0 (answers m) refl
      (subst (AreAnswers_meta (answers m) part.0) found (its.parts.answered m part.0 part.1))
    where
      by : (part : BundleModule) (o : Option HookAnswer) → answers m ≡ o → AreAnswers_meta o part (Some answer) →
          IsAnswered answers m answer
      by part None told none = absurd none
      by part (Some (Fresh properties)) told is =
          record { properties = properties; told = told; is = is.1 }
      by part (Some (Written ctxt notes properties)) told none = absurd none

  -- the object that holds the `import.meta` of a module
  meta-by : (m : ℕ) (answer : Answered) → IsAnswered answers m answer → IsReached q m →
      unwrap_or (slice_get bundle.answers.now m) None ≡ Some answer →
      (scopes : List (Option ℕ)) → scopes ≡ answered_in names m →
      (rewrites : List Rewrite) →
      AreOwnNames answer scopes rewrites →
      (rewriting : Rewriting) → rewriting.rewrites.now ≡ rewrites → rewriting.meta ≡ None →
      (object : Expr) →
      ReworkedObject (work_of rewriting) (answered_items answer) (expr_items 0 object) →
      IsMade q any_hooks list context answers (HoldsMeta m)
      (Listed.constant no_notes (label_ident names (TheVariants.Meta m)) (expr_items 1 object))
  meta-by m answer a reached found scopes scoped rewrites own rewriting taken no_meta object made =
      holds_meta a.properties made.inside a.told
      (record {
        given = answered_items answer;
        is_given = sym a.is.told;
        held = its.answered.held m a.properties a.told;
        faultless = its.answered.faultless m a.properties a.told;
        fit = its.answered.fit m a.properties a.told;
        steps = map rewrite_step rewrites;
        each = answered-steps context m a.properties (map item_of answer.pieces.now)
            (answered_items answer) rewrites a.is.told a.is.listed
            (own Es (numbers_answered context m) a.is.table numbers);
        rest = made.rest;
        by = subst
            (λ (work : Work). Becomes InObject work (answered_items answer) made.inside made.rest)
            same_work made.by;
      })
      (ap (λ (ident : Ident). Listed.constant no_notes ident (expr_items 1 object))
      (meta-ident q list answers context bundle names its.parts its.named its.sound m reached
      (its.answered.asked m (Fresh a.properties) a.told) (ap stands_written a.told))
      ∙ ap (Listed.constant no_notes (ident_of_label q list context (Meta m)))
      (object-moved object made.inside made.is))
    where
      numbers : AreNumbersOf Es (map item_of answer.pieces.now) answer.denotations.now
          (numbers_answered context m) scopes
      numbers = subst
          (AreNumbersOf Es (map item_of answer.pieces.now) answer.denotations.now
          (numbers_answered context m)) (sym scoped)
          (its.named.answered m answer ((its.parts.reached m).0 reached)
          (some-there (slice_get bundle.answers.now m) answer found))

      same_work : work_of rewriting
          ≡ record { steps = map rewrite_step rewrites; meta = None; clears_notes = true }
      same_work =
          ap (λ (rs : List Rewrite). let work : Work = record {
            steps = map rewrite_step rs;
            meta = option_map ident_of rewriting.meta;
            clears_notes = true;
          } in work) taken
          ∙ ap (λ (meta : Option Name). let work : Work = record {
            steps = map rewrite_step rewrites;
            meta = option_map ident_of meta;
            clears_notes = true;
          } in work) no_meta

  pub meta-made : (m : ℕ) (answer : Answered) → IsReached q m →
      unwrap_or (slice_get bundle.answers.now m) None ≡ Some answer →
      (scopes : List (Option ℕ)) → scopes ≡ answered_in names m →
      (rewrites : List Rewrite) →
      AreOwnNames answer scopes rewrites →
      (rewriting : Rewriting) → rewriting.rewrites.now ≡ rewrites → rewriting.meta ≡ None →
      (object : Expr) →
      ReworkedObject (work_of rewriting) (answered_items answer) (expr_items 0 object) →
      IsMade q any_hooks list context answers (HoldsMeta m)
      (Listed.constant no_notes (label_ident names (TheVariants.Meta m)) (expr_items 1 object))
  meta-made m answer reached found =
      meta-by m answer (is-answered m answer reached found) reached found

-- it is added
pub meta-adds : (names : BundleNames) (m : ℕ) (answer : Answered) (scopes : List (Option ℕ)) →
    scopes ≡ answered_in names m → (rewrites : List Rewrite) → AreOwnNames answer scopes rewrites →
    (rewriting : Rewriting) → rewriting.rewrites.now ≡ rewrites → rewriting.meta ≡ None →
    (object : Expr) →
    ReworkedObject (work_of rewriting) (answered_items answer) (expr_items 0 object) →
    (item : List Item) →
    item ≡ Listed.constant no_notes (label_ident names (TheVariants.Meta m)) (expr_items 1 object) →
    (old new : Module) → module_item_lists new ≡ module_item_lists old ++ item ∷ [] → AddsMeta names m answer old new
meta-adds names m answer scopes scoped rewrites own rewriting taken no_meta object reworked item is old new added =
    λ q list answers context bundle its reached found. record {
      made = item ∷ [];
      each = (
        subst (IsMade q any_hooks list context answers (HoldsMeta m)) (sym is)
            (meta-made q list answers context bundle names its m answer reached found scopes scoped
            rewrites own rewriting taken no_meta object reworked),
        tt,
      );
      is = added;
    }

-- ---- owned

-- these become the occurrences of module k wherever it is read as a module with this part
abbrev pub TakeSteps : ℕ → BundleInput → BundleNames → BundleModule → List Rewrite → Type 0
TakeSteps k bundle names part rewrites =
    (p : Program) (list : List ℕ) (context : BundleContexts) (kind : ModuleKind) →
    IsModuleReadAs p list context k kind part bundle.linking.now names →
    AreModuleRewrites p list context k kind rewrites

-- and this becomes its `import.meta`
abbrev pub TakesMeta : ℕ → BundleInput → BundleNames → BundleModule → Option Ident → Type 0
TakesMeta k bundle names part meta =
    (p : Program) (list : List ℕ) (context : BundleContexts) (kind : ModuleKind) →
    IsModuleReadAs p list context k kind part bundle.linking.now names →
    meta ≡ meta_ident p list context k

pub statements-owned : (q : Program) (list : List ℕ) (answers : ℕ → Option HookAnswer)
    (context : BundleContexts) (bundle : BundleInput) (names : BundleNames) (m : ℕ) (part : BundleModule)
    (kind : ModuleKind) →
    IsNamedBundle q list answers context bundle names →
    slice_get bundle.parts.now m ≡ Some part →
    HasKind q m kind →
    (rewrites : List Rewrite) → TakeSteps m bundle names part rewrites →
    (meta : Option Ident) → TakesMeta m bundle names part meta →
    (default : Ident) → default ≡ local_ident names m (codes "default") →
    (items : List ModuleItem) → items ≡ own_items part →
    (nodes : List (List Item)) → nodes ≡ parts_of (list_of_part part) →
    (made : List (List Item)) → StateInTurn meta default items nodes rewrites made →
    AreStatedAs q list context m kind made
statements-owned q list answers context bundle names m part kind named at has rewrites steps meta metas default defaults items owned nodes noded made its =
    own-stated q list context m kind (own_items part) (list_of_part part) nodes rewrites made
    of.tree refl noded (steps q list context kind read)
    (subst (λ o. StateInTurn o (default_ident context m) (own_items part) nodes rewrites made)
    (metas q list context kind read)
    (subst (λ i. StateInTurn meta i (own_items part) nodes rewrites made) default-is
    (subst (λ l. StateInTurn meta default l nodes rewrites made) owned its)))
  where
    of : IsPartOf q m part
    of = named.parts.parts m part at

    read : IsModuleReadAs q list context m kind part bundle.linking.now names
    read =
        read-as q list answers context bundle names named.parts named.named
        named.sound m kind part at has

    default-is : default ≡ default_ident context m
    default-is =
        defaults
        ∙ ap (λ (o : Option ℕ). (codes "default", unwrap_or o 1))
        (named.named.locals m (slice_get_within bundle.parts.now m part at))

-- ---- planning

-- a load function of these identifiers and statements
pub definition-same : (a b c d : Ident) (xs : List Item) (a' b' c' d' : Ident) (ys : List Item) →
    a ≡ a' → b ≡ b' → c ≡ c' → d ≡ d' → xs ≡ ys →
    Listed.load_function a b c d xs ≡ Listed.load_function a' b' c' d' ys
definition-same a b c d xs a' b' c' d' ys one two three four five =
    ap (λ i. Listed.load_function i b c d xs) one
    ∙ ap (λ i. Listed.load_function a' i c d xs) two
    ∙ ap (λ i. Listed.load_function a' b' i d xs) three
    ∙ ap (λ i. Listed.load_function a' b' c' i xs) four
    ∙ ap (Listed.load_function a' b' c' d') five

-- lists that are made, one behind another
pub flat-made : {A : Type 0} (make : A → List Item) (xs : List A) →
    flat_map make xs ≡ flat (map make xs)
flat-made make [] = refl
flat-made make (x ∷ xs) = ap (λ l. make x ++ l) (flat-made make xs)

module _ (q : Program) (list : List ℕ) (answers : ℕ → Option HookAnswer) (context : BundleContexts) (bundle : BundleInput) (names : BundleNames) (its : IsNamedBundle q list answers context bundle names) where
  abbrev Made : Cause → List Item → Type 0
  Made = IsMade q any_hooks list context answers

  -- the own statements from one on
  owns-from : (k from : ℕ) (statements : List (List Element)) (made : List (List Item)) →
      AllZip (λ statement one. IsStatedAs q list context k Es statement one) statements made →
      ((i : ℕ) → slice_get (own_statements (tree_of q k)) (from + i) ≡ slice_get statements i) →
      AllZip Made (map (Own k) (numbers_from from (length statements))) made
  owns-from k from [] [] all there = tt
  owns-from k from [] (one ∷ made) all there = absurd all
  owns-from k from (statement ∷ statements) [] all there = absurd all
  owns-from k from (statement ∷ statements) (one ∷ made) all there = (
    in_made.own statement (subst (λ i. slice_get (own_statements (tree_of q k)) i ≡ Some statement)
        (let same : from + 0 ≡ from = omega arith in same) (there 0)) all.0,
    owns-from k (suc from) statements made all.1
        (λ i. ap (slice_get (own_statements (tree_of q k)))
        (let same : suc from + i ≡ from + suc i = omega arith in same)
        ∙ there (suc i)),
  )

  pub owns-made : (k : ℕ) (made : List (List Item)) → AreStatedAs q list context k Es made →
      AllZip Made (map (Own k) (numbers_from zero (length (own_statements (tree_of q k))))) made
  owns-made k made all =
      owns-from k zero (own_statements (tree_of q k)) made all
      (λ i. ap (slice_get (own_statements (tree_of q k)))
      (let same : 0 + i ≡ i = omega arith in same))

  -- the items of an ES module, but for an object that is written already
  pub es-adds : (meta : ℕ → Bool) (count : ℕ → ℕ) →
      AreTablesTold q (length bundle.parts.now) meta count →
      (k : ℕ) → IsReached q k →
      (own : List (List Item)) → AreStatedAs q list context k Es own →
      (found : List Loaded) → AreLoadsIn q k found →
      (old one two new : Module) →
      AddsItems q list answers context (meta_plan q answers k) old one →
      module_item_lists two ≡ module_item_lists one ++ map (in_added.load_item_of names k) found →
      module_item_lists new ≡ module_item_lists two ++ own →
      AddsItems q list answers context
      (meta_plan q answers k ++ behind_plan (decided_of bundle meta count) k) old new
  es-adds meta count told k reached own stated found are old one two new metas loads owns =
      (subst (λ (many : ℕ). AddsItems q list answers context (meta_plan q answers k ++ (loading ++ map (Own k) (numbers_from zero many))) old new)
      (sym (told.counted k below))
      (adds-on q list answers context (meta_plan q answers k)
      (loading ++ owning) old one new metas
      (adds-on q list answers context loading owning one two new
      (record {
        made = map (in_added.load_item_of names k) found;
        each = loads-adds q list answers context bundle names its k reached found are meta count;
        is = loads;
      })
      (record { made = own; each = owns-made k own stated; is = owns }))))
    where
      below : k < length bundle.parts.now
      below = (its.parts.reached k).0 reached

      loading : List Cause
      loading = map (λ load. Loads k load.which) ((decided_of bundle meta count).loads k)

      owning : List Cause
      owning = map (Own k) (numbers_from zero (length (own_statements (tree_of q k))))

  -- a module with no `import.meta` adds no object for it, nor does one of which it is written already
  pub meta-none : (k : ℕ) → IsReached q k →
      unwrap_or (slice_get bundle.answers.now k) None ≡ None →
      (items : Module) →
      AddsItems q list answers context (meta_plan q answers k) items items
  meta-none k reached none items =
      subst (λ has. AddsItems q list answers context (one_if has (HoldsMeta k)) items items)
      (sym (meta-told q list answers context bundle names its k reached
      ∙ ap (λ (o : Option Answered). is_some o) none))
      (adds-none q list answers context items)

  -- one that has an answer adds it
  pub meta-some : (k : ℕ) → IsReached q k → (answer : Answered) →
      unwrap_or (slice_get bundle.answers.now k) None ≡ Some answer →
      (old new : Module) → AddsItems q list answers context (HoldsMeta k ∷ []) old new →
      AddsItems q list answers context (meta_plan q answers k) old new
  meta-some k reached answer some old new adds =
      subst (λ has. AddsItems q list answers context (one_if has (HoldsMeta k)) old new)
      (sym (meta-told q list answers context bundle names its k reached
      ∙ ap (λ (o : Option Answered). is_some o) some))
      adds

  -- an object that is written already
  written-made : (k : ℕ) → IsReached q k → (ctxt : ℕ) (notes : ExportMetadata)
      (properties : List Item) → answers k ≡ Some (Written ctxt notes properties) →
      Made (HoldsMeta k) (meta_item notes ctxt properties)
  written-made k reached ctxt notes properties is_told =
      in_meta.written-made q any_hooks list context answers k ctxt notes properties
      (its.answered.written k ctxt notes properties is_told) is_told
      (record {
        fit = its.answered.written_fit k ctxt notes properties is_told;
        name = its.named.metas k ctxt notes properties ((its.parts.reached k).0 reached) is_told;
        inside = λ c. its.named.inside k c;
      })

  -- the load function of a CommonJS module
  pub definition-made : (c : ℕ) → IsReached q c → IsCommonJs q c →
      (own : List (List Item)) → AreStatedAs q list context c Cjs own →
      Made (Defines c) (definition_of names c own)
  definition-made c reached cjs own stated =
      in_made.defines own stated
      (definition-same (label_ident names (TheVariants.Load c)) (label_ident names TheVariants.Helper)
      (local_ident names c (codes "module")) (local_ident names c (codes "exports")) (flat own)
      (ident_of_label q list context (Load c)) (ident_of_label q list context Helper)
      (codes "module", context (TopOf c)) (codes "exports", context (TopOf c)) (flat own)
      (named.loads c reached cjs) (named.helper c reached cjs)
      (ap (λ (o : Option ℕ). (codes "module", unwrap_or o 1)) (named.locals c reached))
      (ap (λ (o : Option ℕ). (codes "exports", unwrap_or o 1)) (named.locals c reached)) refl)
    where
      named : AreBundleNamesOf q list context names
      named = are-named q list answers context bundle names its.parts its.named its.sound

  -- what the own statements of a module become, however it is read
  abbrev Owned : ℕ → List (List Item) → Type 0
  Owned k own = (kind : ModuleKind) → HasKind q k kind → AreStatedAs q list context k kind own

  -- the items of a module that is CommonJS
  pub script-adds : (causes : List Cause) (k : ℕ) (part : BundleModule) →
      slice_get bundle.parts.now k ≡ Some part →
      ArePlannedCauses bundle (λ d. module_plan d k) q causes →
      (answer : Bool) → TellsCommonJs q k answer → answer ≡ true →
      (own : List (List Item)) → Owned k own →
      (old one new : Module) → module_item_lists one ≡ module_item_lists old ++ flat_map copied_item (written_items part) →
      module_item_lists new ≡ module_item_lists one ++ definition_of names k own ∷ [] →
      AddsItems q list answers context causes old new
  script-adds causes k part at (meta, count, told, is) answer tells true' own owned old one new written adds =
      subst (λ l. AddsItems q list answers context l old new)
      (sym (is
      ∙ ap (λ b. if b then Defines k ∷ [] else es_plan (decided_of bundle meta count) k)
      (sym (common-js-told q list answers context bundle names its k answer tells meta count)
      ∙ true')))
      (adds-behind q list answers context (Defines k ∷ []) old one new
      (written ∙ ap (λ l. module_item_lists old ++ flat_map copied_item l) none ∙ append-nil (module_item_lists old))
      (record {
        made = definition_of names k own ∷ [];
        each = (definition-made k reached cjs own (owned Cjs (is_common_js cjs)), tt);
        is = adds;
      }))
    where
      reached : IsReached q k
      reached = (its.parts.reached k).1 (slice_get_within bundle.parts.now k part at)

      cjs : IsCommonJs q k
      cjs = tells.0 true'

      fresh : (answer : Option HookAnswer) → answers k ≡ answer → stands_written answer ≡ false
      fresh None is_told = refl
      fresh (Some (Fresh properties)) is_told = refl
      fresh (Some (Written ctxt notes properties)) is_told =
          absurd (true≢false
          (sym (its.answered.asked k (Written ctxt notes properties) is_told)
          ∙ none-asked q k cjs))

      none : written_items part ≡ []
      none =
          none-written part
          (part-written q list answers bundle its.parts k part at ∙ fresh (answers k) refl)

  -- and of one that is not
  pub module-adds : (causes : List Cause) (k : ℕ) (part : BundleModule) →
      slice_get bundle.parts.now k ≡ Some part →
      ArePlannedCauses bundle (λ d. module_plan d k) q causes →
      (answer : Bool) → TellsCommonJs q k answer → answer ≡ false →
      (own : List (List Item)) → Owned k own →
      (old one new : Module) → module_item_lists one ≡ module_item_lists old ++ flat_map copied_item (written_items part) →
      ((meta : ℕ → Bool) (count : ℕ → ℕ) →
      AreTablesTold q (length bundle.parts.now) meta count →
      IsReached q k →
      AreStatedAs q list context k Es own →
      AddsItems q list answers context
      (meta_plan q answers k ++ behind_plan (decided_of bundle meta count) k) one new) →
      AddsItems q list answers context causes old new
  module-adds causes k part at (meta, count, told, is) answer tells false' own owned old one new written adds =
      subst (λ l. AddsItems q list answers context l old new)
      (sym (is
      ∙ ap (λ b. if b then Defines k ∷ [] else es_plan (decided_of bundle meta count) k)
      (sym (common-js-told q list answers context bundle names its k answer tells meta count)
      ∙ false')))
      (subst
      (λ has. AddsItems q list answers context
      (one_if has (HoldsMeta k) ++ behind_plan (decided_of bundle meta count) k) old new)
      (sym (told.meta_told k ((its.parts.reached k).0 reached)))
      (by (answers k) refl (adds meta count told reached (owned Es (is_es not-script)))))
    where
      reached : IsReached q k
      reached = (its.parts.reached k).1 (slice_get_within bundle.parts.now k part at)

      not-script : IsCommonJs q k → ⊥
      not-script cjs = false≢true (sym false' ∙ tells.1 cjs)

      -- what stands behind the object
      rest : List Cause
      rest = behind_plan (decided_of bundle meta count) k

      Whole : Type 0
      Whole =
          AddsItems q list answers context
          (one_if (has_import_meta (tree_of q k)) (HoldsMeta k) ++ rest) old new

      not-written : stands_written (answers k) ≡ false →
          AddsItems q list answers context (meta_plan q answers k ++ rest) one new → Whole
      not-written fresh behind =
          adds-behind q list answers context
          (one_if (has_import_meta (tree_of q k)) (HoldsMeta k) ++ rest) old one new
          (written
          ∙ ap (λ l. module_item_lists old ++ flat_map copied_item l)
          (none-written part (part-written q list answers bundle its.parts k part at ∙ fresh))
          ∙ append-nil (module_item_lists old))
          (subst (λ b. AddsItems q list answers context (one_if b (HoldsMeta k) ++ rest) one new)
          (ap (λ b. has_import_meta (tree_of q k) && not b) fresh ∙ and-true (has_import_meta (tree_of q k)))
          behind)

      by : (answer : Option HookAnswer) → answers k ≡ answer →
          AddsItems q list answers context (meta_plan q answers k ++ rest) one new → Whole
      by None is_told behind = not-written (ap stands_written is_told) behind
      by (Some (Fresh properties)) is_told behind = not-written (ap stands_written is_told) behind
      by (Some (Written ctxt notes properties)) is_told behind =
          let has = its.answered.asked k (Written ctxt notes properties) is_told in
          let there = written-there q list answers bundle its.parts k part at ctxt notes properties is_told in
          subst (λ b. AddsItems q list answers context (one_if b (HoldsMeta k) ++ rest) old new) (sym has)
          (adds-on q list answers context (HoldsMeta k ∷ []) rest old one new
          (record {
            made = module_item_items 0 there.first ∷ [];
            each = (
              subst (Made (HoldsMeta k)) (sym there.is)
                  (written-made k reached ctxt notes properties is_told),
              tt,
            );
            is = written ∙ ap (λ l. module_item_lists old ++ flat_map copied_item l) (one-written part there);
          })
          (subst (λ b. AddsItems q list answers context (one_if b (HoldsMeta k) ++ rest) one new)
          (and_right (has_import_meta (tree_of q k)) (not (stands_written (answers k)))
          (ap (λ o. not (stands_written o)) is_told))
          behind))
