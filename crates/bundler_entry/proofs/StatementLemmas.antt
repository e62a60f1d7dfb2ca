-- Answers that the modules of an entry asked for are those that a bundle of them wants.
-- A tree whose list is one of statements, with perhaps a list of exports behind them, is such a
-- module: it can be wrapped, and can be called.
-- What is made of the modules of a program, and finished, is the bundle of its entry.
-- What is made of the modules of an entry is the entry's bundle, and what the hook answered for
-- them are answers to what it was asked.
use Rattle.std.proofs.Common.{◌≡◌, ℕ, ◌<◌, true, List, [], ◌∷◌, Option, Some, None, Contains, length, refl, sym, subst, arith, false, ◌++◌, map, append-nil, append_assoc, ap, ◌∙◌, zero, Bool}
use Rattle.std.specs.Prelude.{IsSome, option_map, unwrap_or, if◌then◌else◌, IsTrue, slice_get}
use Rattle.std.specs.List.{flat_map, All, AllByRecursion, list_all}
use Rattle.std.proofs.lemmas.Bool.{false≢true, true≢false, and_parts}
use Rattle.std.proofs.lemmas.Option.{slice_get_within}
use Rattle.std.proofs.lemmas.List.{append_cancel_right}
use Rattle.std.proofs.lemmas.List.Elements.{All-nil, All-cons, All-head, All-tail}
use Rattle.std.proofs.lemmas.List.Folds.{list_all-append}
use Rattle.bundle_tree_names.specs.declared.config.Config.{Config}
use Rattle.bundle_tree_names.specs.FileName.{Name}
use Rattle.bundle_syntax.specs.Item as h
use Rattle.bundle_syntax.specs.Item.{Item, Head}
use Rattle.bundle_syntax.specs.declared.kind.ExportMetadata.{ExportMetadata}
use Rattle.bundle_syntax.specs.declared.specifier.ExportSpecifier.{ExportSpecifier}
use Rattle.bundle_syntax.specs.declared.specifier.ModuleExportName.{ModuleExportName}
use Rattle.bundle_order_graph.proofs.OrderLemmas.{not-true as not_so}
use Rattle.bundle_order_graph.specs.Modules.{Modules}
use Rattle.bundle_syntax.specs.declared.lit.Str as v_str
use Rattle.bundle_syntax.specs.declared.specifier.ExportSpecifier.TheVariants as e
use Rattle.bundle_syntax.specs.declared.specifier.ModuleExportName.TheVariants
use Rattle.bundle_syntax.specs.declared.piece.Role.TheVariants as r
use Rattle.bundle_tree_ast.specs.declared.expr.Expr.{Expr}
use Rattle.bundle_tree_ast.specs.declared.prop.KeyValueProp.{KeyValueProp}
use Rattle.bundle_rules.specs.Bundle.{AreFaultless, MayHold, AsModule, AsCall, Hooks, IsBundle, form_of}
use Rattle.bundle_rules.specs.Entries.{has_import_meta}
use Rattle.bundle_rules.specs.Program.{Loaded, Program, module_of, tree_of, IsReached}
use Rattle.bundle_tree_ast.specs.declared.module.Module.{Module}
use Rattle.bundle_tree_ast.specs.declared.module.ModuleDecl.{ModuleDecl}
use Rattle.bundle_tree_ast.specs.declared.module.ModuleItem.{ModuleItem}
use Rattle.bundle_tree_ast.specs.declared.stmt.Stmt.{Stmt}
use Rattle.bundle_rules.specs.Declarations.{Reading, ByContext, BySymbol}
use Rattle.bundle_rules.specs.Callable.{is_module_head, ExportedName, word, text, Specifier, name_items, specifier_items, export_items, IsBack, nothing, exports, CanBeCalled, StatesNoExports}
use Rattle.bundle_order_sort.specs.Plan.{IsPlanAsked}
use Rattle.bundle_order_sort.specs.declared.plan.Plan.{Plan}
use Rattle.bundle_rules.specs.Cleared.{cleared, tidied}
use Rattle.bundle_rules.specs.Doubled.{first_doubled}
use Rattle.bundle_rules.specs.Faults.{IsFaultlessProgram}
use Rattle.bundle_rules.specs.Forms.{in_form, wrapped}
use Rattle.bundle_rules.specs.Headline.{reading_of}
use Rattle.bundle_rules.specs.Kept.{local_context, export_context}
use Rattle.bundle_rules.specs.Scopes.{Es}
use Rattle.bundle_rules.specs.Statements.{own_statements}
use Rattle.bundle_tree_ast.specs.declared.module.ModuleDecl.TheVariants as d
use Rattle.bundle_tree_ast.specs.declared.module.ModuleItem.TheVariants as i
use Rattle.bundle_tree_listed.specs.Tree.{key_value_prop_items, node, option_items, str_items, module_export_name_items, export_specifier_items, stmt_items, module_decl_items, module_item_items, module_items}
use Rattle.bundle_scope_names.specs.fit.Sorts.{AProperty, Many, slot, AStmt}
use Rattle.bundle_scope_names.specs.fit.Fits
use Rattle.bundle_scope_names.specs.fit.Fits.{AreEach, AreFit, ended, next, IsFit}
use Rattle.bundle_scope_names.proofs.fit.Rows.{last_each, own_head}
use Rattle.bundle_scope_names.proofs.grown.Grown.{key_value_prop_fit, stmt_fit}
use Rattle.bundle_merge_forms.specs.Wrapped
use Rattle.bundle_merge_forms.specs.Wrapped.{IsOfIdent, EndsInExports, CanBeWrapped}
use Rattle.bundle_link_targets.specs.declared.linking.Linking.{Linking}
use Rattle.bundle_link.specs.Alike.{IsModuleAt}
use Rattle.bundle_link.proofs.AlikeLemmas.{flip, reached_on}
use Rattle.bundle_merge_theory.specs.noted.Nodes as nodes
use Rattle.bundle_merge_theory.specs.noted.Nodes.{AreNodesInTurn}
use Rattle.bundle_merge_theory.proofs.noted.Shapes.{tail_same, same_nodes}
use Rattle.bundle_link.specs.Programs.{is_one_call}
use Rattle.bundle_merge_theory.specs.joined.Joined.{joined_items}
use Rattle.bundle_merge_theory.specs.made.Given
use Rattle.bundle_merge_theory.specs.made.Given.{all_fresh, HookAnswer as Answer_bundle, AreFresh, BundleContexts, TopOf}
use Rattle.bundle_merge_theory.proofs.answered.Meta.{are-fresh, fresh-told}
use Rattle.bundle_merge_theory.proofs.fit.Clearing.{fit_cleared}
use Rattle.bundle_merge_theory.specs.finished.Statements.{is_inner_item, IsOfStatements}
use Rattle.bundle_merge_theory.proofs.fit.Facts.{fit_nodes, program_listless}
use Rattle.bundle_merge_theory.proofs.grown.Theorem.{IsLocal, statements_called, exporting_called}
use Rattle.bundle_merge_theory.proofs.own.Fit.{stmt_names as no_names}
use Rattle.bundle_merge_theory.specs.planned.Blocks.{block_of}
use Rattle.bundle_merge_theory.specs.planned.Decided.{numbers_from, index_of}
use Rattle.bundle_merge_theory.specs.planned.Placed.{id_at}
use Rattle.bundle_merge_theory.specs.finished.Ended.{IsNamedAtOnce}
use Rattle.bundle_merge_theory.specs.made.Made.{AreMade}
use Rattle.bundle_merge_theory.specs.made.Alone.{TellApart}
use Rattle.bundle_merge_theory.specs.together.Others.{AreOthersGiven}
use Rattle.bundle_merge_theory.specs.sound.Known.{AreKnown, IsByPlaces}
use Rattle.bundle_merge_theory.specs.sound.Decided.{AreTablesLinked, decided_by}
use Rattle.bundle_merge_theory.proofs.called.Undoubled.{wrapped-cleared, wrapped-tidied, wrapped-undoubled}
use Rattle.bundle_merge_theory.proofs.called.LaidOut.{listless-tree}
use Rattle.bundle_merge_theory.proofs.called.HandedOut.{AreListless}
use Rattle.bundle_merge_theory.proofs.called.Theorem.{wrapping-keeps}
use Rattle.bundle_merge_theory.proofs.finished.Bundles.{IsEnded}
use Rattle.bundle_merge_theory.proofs.finished.Theorem.{made-ended, made-statements}
use Rattle.bundle_merge_theory.proofs.moved.Owed.{AreMoved, AreRenamed}
use Rattle.bundle_merge_theory.proofs.moved.Due.{reach-named, turned-round}
use Rattle.bundle_merge_theory.proofs.moved.Moved.{places-renamed}
use Rattle.bundle_merge_theory.proofs.moved.Places.{places-reached}
use Rattle.bundle_merge_theory.proofs.moved.Stand.{may-hold-by}
use Rattle.bundle_merge_theory.proofs.answered.Hooks.{all-held}
use Rattle.bundle_merge_items.specs.Adds.{AreAnswered, any_hooks}
use Rattle.bundler_entry.specs.Asked.{AreAskedAnswers, AreAnswersBefore, IsHookAnswer}
use Rattle.bundler_entry.specs.Hook.{AreRead, HoldsProperties}
use Rattle.bundler_entry.specs.Linked.{IsCallOf, IsLinkedEntry}
use Rattle.bundler_entry.specs.Made.{AreOfAnswers, answers_in, kept_properties, IsEntryBundle, IsMadeOf}
use Rattle.bundler_entry.specs.declared.call.EntryCall.{EntryCall}
use Rattle.bundler_entry.specs.declared.entry.MetaAnswer.{MetaAnswer}
use Rattle.bundler_entry.specs.declared.linked.LinkedEntry.{LinkedEntry}
use Rattle.bundler_entry.specs.declared.meta.ReadMeta.{ReadMeta}
use Rattle.bundler_entry.proofs.LinkedLemmas.{long_places}
use Rattle.bundler_entry.specs.Finished.{is_renaming, IsFinished}
use Rattle.bundler_entry.specs.Merged.{decided_in}
use Rattle.bundler_entry.proofs.Known

-- ---- answered

-- what is there
some-fresh : (o : Option (List Item)) → IsSome o →
    (answer : Given.HookAnswer) × (option_map Given.Fresh o ≡ Some answer)
some-fresh None there = absurd (false≢true there)
some-fresh (Some properties) there = (Given.Fresh properties, refl)

-- a module that has an `import.meta` is loaded
loaded-of : (o : Option Loaded) →
    has_import_meta (unwrap_or (option_map (λ loaded. loaded.items) o) []) ≡ true →
    (loaded : Loaded) × (o ≡ Some loaded)
loaded-of None has = absurd (false≢true has)
loaded-of (Some loaded) has = (loaded, refl)

-- properties stand where properties may, each by itself
each-fit : (given : List (KeyValueProp Expr)) →
    AreEach AProperty 0 (flat_map (key_value_prop_items 0) given)
each-fit [] = ended
each-fit (it ∷ rest) = next (key_value_prop_fit 0 it) (each-fit rest)

-- also as they are kept
pub properties-fit : (given : List (KeyValueProp Expr)) →
    AreFit (slot 0 Many AProperty ∷ []) (kept_properties given)
properties-fit given = fit_cleared (last_each (each-fit given))

module _ (p : Program) (entry : ℕ) (call : EntryCall) (w : IsCallOf p entry call) (linked : LinkedEntry) (l : IsLinkedEntry p call linked) where
  abbrev q_answered : Program
  q_answered = l.links.places

  abbrev list : List ℕ
  list = linked.reached.list.items

  abbrev places : List ℕ
  places = linked.reached.places.items

  -- a reached module stands at a place of the list
  pub reached-below : (k : ℕ) → IsReached q_answered k → k < length places
  reached-below k reached =
      let it = reached_on q_answered p (λ a b. IsModuleAt list b a) (flip l.links.by_places.alike) k reached in
      let within = slice_get_within list k it.0 it.1 in
      let long = long_places p entry call w linked.reached l.reached in
      omega (arith, within, long)

  module _ (answers : List MetaAnswer) (asked : AreAskedAnswers q_answered answers) (its : ℕ → Option (List Item)) (of : AreOfAnswers answers its) where
    -- what is so of each answer, at its module, is so of what stands at its number
    of-each : (P : ℕ → List Item → Type 0) →
        ((answer : MetaAnswer) → Contains answers answer →
        P answer.which (kept_properties answer.properties.items)) →
        (k : ℕ) (properties : List Item) → its k ≡ Some properties → P k properties
    of-each P each k properties is =
        let it = of k properties is in
        subst (P k) (sym it.3) (subst (λ n. P n (kept_properties it.0.properties.items)) it.2
        (each it.0 it.1))

    may-hold : (answer : MetaAnswer) → Contains answers answer →
        MayHold q_answered any_hooks answer.which (kept_properties answer.properties.items)
    may-hold answer there =
        let loaded = loaded-of (module_of q_answered answer.which) (asked.each answer there).1 in
        record {
          loaded = loaded.0;
          kept = loaded.1;
          answer = flat_map (key_value_prop_items 0) answer.properties.items;
          answered = tt;
          cleared = refl;
        }

    by-answer : (m : ℕ) (answer : Given.HookAnswer) → all_fresh its m ≡ Some answer →
        has_import_meta (tree_of q_answered m) ≡ true
    by-answer m (Given.Fresh properties) told =
        of-each (λ m properties. has_import_meta (tree_of q_answered m) ≡ true)
        (λ answer there. (asked.each answer there).1) m properties (fresh-told its m properties told)
    by-answer m (Given.Written ctxt notes properties) told =
        absurd (are-fresh its m ctxt notes properties told)

    pub are-answered : ((answer : MetaAnswer) → Contains answers answer →
        answer.which < length places → IsSome (its answer.which)) →
        AreAnswered q_answered (all_fresh its)
    are-answered all = record {
      there = λ m reached has.
          let found = asked.all m reached has in
          some-fresh (its m)
          (subst (λ n. IsSome (its n)) found.2
          (all found.0 found.1
          (subst (λ n. n < length places) (sym found.2) (reached-below m reached))));
      asked = λ m answer told. by-answer m answer told;
      held = λ m properties told. of-each (MayHold q_answered any_hooks) may-hold m properties
          (fresh-told its m properties told);
      faultless = λ m properties told. of-each (λ m properties. AreFaultless q_answered properties)
          (λ answer there. (asked.each answer there).2) m properties
          (fresh-told its m properties told);
      fit = λ m properties told.
          of-each (λ m properties. AreFit (slot 0 Many AProperty ∷ []) properties)
          (λ answer there. properties-fit answer.properties.items) m properties
          (fresh-told its m properties told);
      written = λ m ctxt notes properties told.
          absurd (are-fresh its m ctxt notes properties told);
      written_fit = λ m ctxt notes properties told.
          absurd (are-fresh its m ctxt notes properties told);
    }

  -- the same of what was read of them, as it is handed on
  module _ (answers : List MetaAnswer) (asked : AreAskedAnswers q_answered answers) (count : ℕ) (counted : count ≡ length places) (metas handed : List (Option ReadMeta)) (same : handed ≡ metas) where
    pub are-read : AreRead metas → AreOfAnswers answers (answers_in metas) →
        ((answer : MetaAnswer) → Contains answers answer → answer.which < count →
        IsSome (answers_in metas answer.which)) →
        AreRead handed × AreOfAnswers answers (answers_in handed)
        × AreAnswered q_answered (all_fresh (answers_in handed))
    are-read read of all =
        subst (λ those. AreRead those × AreOfAnswers answers (answers_in those)
        × AreAnswered q_answered (all_fresh (answers_in those))) (sym same) (
          read,
          of,
          are-answered answers asked (answers_in metas) of
              (λ answer there below. all answer there (omega (arith, below, counted))),
        )

-- ---- statement

-- Lists that begin with a node.

abbrev first_head : List Item → Head
first_head (h.Open field head ∷ rest) = head
first_head _ = h.Module

-- a statement is one node, which is none of a module
record IsStatementNode (items : List Item) : Type 0 where
  field : ℕ
  head : Head
  inside : List Item
  is : items ≡ h.Open field head ∷ (inside ++ h.Close ∷ [])
  inner : is_module_head head ≡ false
  all : AreNodesInTurn inside

fit_statement : {field : ℕ} {items : List Item} → IsFit AStmt field items → IsStatementNode items
fit_statement (Fits.name {role = role} it) = absurd (false≢true (sym (no_names role) ∙ it))
fit_statement (Fits.node {field = field} {head = head} {inside = inside} it in_it) = record {
  field = field;
  head = head;
  inside = inside;
  is = refl;
  inner = own_head head AStmt it refl;
  all = fit_nodes in_it;
}

-- an import or an export begins as a node of a module
record IsModuleNode (items : List Item) : Type 0 where
  head : Head
  behind : List Item
  is : items ≡ h.Open 0 head ∷ behind
  outer : is_module_head head ≡ true

decl_module : (it : ModuleDecl) → IsModuleNode (module_decl_items 0 it)
decl_module (d.ImportDecl specifiers src meta) =
    record { head = h.ImportDecl meta; behind = _; is = refl; outer = refl }
decl_module (d.ExportDecl decl) =
    record { head = h.ExportDecl; behind = _; is = refl; outer = refl }
decl_module (d.NamedExport specifiers src meta) =
    record { head = h.NamedExport meta; behind = _; is = refl; outer = refl }
decl_module (d.ExportDefaultDecl decl) =
    record { head = h.ExportDefaultDecl; behind = _; is = refl; outer = refl }
decl_module (d.ExportDefaultExpr expr) =
    record { head = h.ExportDefaultExpr; behind = _; is = refl; outer = refl }
decl_module (d.ExportAll src meta) =
    record { head = h.ExportAll meta; behind = _; is = refl; outer = refl }

-- the lists of items, one after another
abbrev all_items : List ModuleItem → List Item
all_items items = flat_map (module_item_items 0) items

-- where nothing is listed, there is no item
none_listed : (items : List ModuleItem) → all_items items ≡ [] → items ≡ []
none_listed [] same = refl
none_listed (i.Stmt it ∷ rest) same =
    let one = fit_statement (stmt_fit 0 it) in
    let same_again :
    h.Open one.field one.head ∷ ((one.inside ++ h.Close ∷ []) ++ all_items rest) ≡ [] =
    ap (λ items. items ++ all_items rest) (sym one.is) ∙ same in
    absurd cc
none_listed (i.ModuleDecl it ∷ rest) same =
    let one = decl_module it in
    let same_again : h.Open 0 one.head ∷ (one.behind ++ all_items rest) ≡ [] =
    ap (λ items. items ++ all_items rest) (sym one.is) ∙ same in
    absurd cc

-- Statements.

-- the statements that are left, with what stands behind them
record IsRest (rest : List ModuleItem) (back : List Item) : Type 0 where
  stmts : List Item
  all : AreNodesInTurn stmts
  inner : list_all is_inner_item stmts ≡ true
  same : all_items rest ≡ stmts ++ back

back_head : (back : List Item) → IsBack back → (field : ℕ) (head : Head) (more : List Item) →
    h.Open field head ∷ more ≡ back → is_module_head head ≡ true
back_head back nothing field head more same = absurd cc
back_head back (exports meta specifiers) field head more same =
    ap (λ items. is_module_head (first_head items)) same

module _ (back : List Item) (ends : IsBack back) where
  -- a statement is the first of them
  past_statement : (it : Stmt) (rest : List ModuleItem) {stmts : List Item} → AreNodesInTurn stmts →
      list_all is_inner_item stmts ≡ true → stmt_items 0 it ++ all_items rest ≡ stmts ++ back →
      IsRest rest back
  past_statement it rest all inner same =
      by all inner (ap (λ items. items ++ all_items rest) (sym one.is) ∙ same)
    where
      one : IsStatementNode (stmt_items 0 it)
      one = fit_statement (stmt_fit 0 it)

      by : {stmts : List Item} → AreNodesInTurn stmts → list_all is_inner_item stmts ≡ true →
          h.Open one.field one.head ∷ ((one.inside ++ h.Close ∷ []) ++ all_items rest)
          ≡ stmts ++ back →
          IsRest rest back
      by nodes.nothing inner e =
          absurd (false≢true (sym one.inner ∙ back_head back ends one.field one.head _ e))
      by (nodes.name more) inner e = absurd cc
      by (nodes.hole more) inner e = absurd cc
      by (nodes.node {field = field} {head = head} {inside = inside} {rest = behind} within more)
          inner e =
          let tails =
          same_nodes one.all within (all_items rest) (behind ++ back)
          (sym (append_assoc one.inside (h.Close ∷ []) (all_items rest))
          ∙ tail_same e
          ∙ append_assoc inside (h.Close ∷ behind) back) in
          let front =
          and_parts (is_inner_item (h.Open field head)) (list_all is_inner_item (inside ++ h.Close ∷ behind))
          inner in
          let parts =
          and_parts (list_all is_inner_item inside) (list_all is_inner_item (h.Close ∷ behind))
          (sym (list_all-append is_inner_item inside (h.Close ∷ behind)) ∙ front.1) in
          record { stmts = behind; all = more; inner = parts.1; same = tails.1 }

  -- no import or export is among them
  no_statement : (it : ModuleDecl) (rest : List ModuleItem) {stmts : List Item} →
      AreNodesInTurn stmts → list_all is_inner_item stmts ≡ true →
      module_decl_items 0 it ++ all_items rest ≡ stmts ++ back → stmts ≡ []
  no_statement it rest all inner same =
      by all inner (ap (λ items. items ++ all_items rest) (sym one.is) ∙ same)
    where
      one : IsModuleNode (module_decl_items 0 it)
      one = decl_module it

      by : {stmts : List Item} → AreNodesInTurn stmts → list_all is_inner_item stmts ≡ true →
          h.Open 0 one.head ∷ (one.behind ++ all_items rest) ≡ stmts ++ back →
          stmts ≡ []
      by nodes.nothing inner e = refl
      by (nodes.name more) inner e = absurd cc
      by (nodes.hole more) inner e = absurd cc
      by (nodes.node {field = field} {head = head} {inside = inside} {rest = behind} within more)
          inner e =
          let front =
          and_parts (is_inner_item (h.Open field head)) (list_all is_inner_item (inside ++ h.Close ∷ behind))
          inner in
          absurd
          (true≢false
          (sym one.outer
          ∙ ap (λ items. is_module_head (first_head items)) e
          ∙ not_so (is_module_head head) front.0))

-- A list of exports.

-- a list of specifiers of names, where this stands behind the list
record AreOfIdents (list : List ExportSpecifier) (more : List Item) : Type 0 where
  each : All IsOfIdent list
  none : more ≡ []

-- behind the first names of two specifiers stand the same names, and the same specifiers
exported_tail : (exported : Option ModuleExportName) (it : Specifier) (rest others : List Item) →
    (option_items (module_export_name_items r.Word 1) exported ++ h.Close ∷ []) ++ rest
    ≡ (name_items it.name ++ h.Close ∷ []) ++ others → rest ≡ others
exported_tail exported it rest others same = by exported it.name same
  where
    by : (exported : Option ModuleExportName) (name : Option ExportedName) →
        (option_items (module_export_name_items r.Word 1) exported ++ h.Close ∷ []) ++ rest
        ≡ (name_items name ++ h.Close ∷ []) ++ others → rest ≡ others
    by None None e = tail_same e
    by None (Some (word x ctxt)) e = absurd cc
    by None (Some (text x raw)) e = absurd cc
    by (Some (TheVariants.Ident name)) None e = absurd cc
    by (Some (TheVariants.Ident name)) (Some (word x ctxt)) e = tail_same (tail_same e)
    by (Some (TheVariants.Ident name)) (Some (text x raw)) e = absurd cc
    by (Some (TheVariants.Str name)) None e = absurd cc
    by (Some (TheVariants.Str name)) (Some (word x ctxt)) e = absurd cc
    by (Some (TheVariants.Str name)) (Some (text x raw)) e = tail_same (tail_same (tail_same e))

own_names : (list : List ExportSpecifier) (specifiers : List Specifier) (more : List Item) →
    flat_map (export_specifier_items r.Reference 0) list ++ h.Close ∷ more
    ≡ flat_map specifier_items specifiers ++ h.Close ∷ [] → AreOfIdents list more
own_names [] [] more same = record { each = All-nil IsOfIdent; none = tail_same same }
own_names [] (it ∷ specifiers) more same = absurd cc
own_names (e.ExportNamespaceSpecifier name ∷ list) [] more same = absurd cc
own_names (e.ExportNamespaceSpecifier name ∷ list) (it ∷ specifiers) more same = absurd cc
own_names (e.ExportNamedSpecifier orig exported ∷ list) [] more same = absurd cc
own_names (e.ExportNamedSpecifier (TheVariants.Str orig) exported ∷ list) (it ∷ specifiers) more same =
    let second = tail_same same in absurd cc
own_names (e.ExportNamedSpecifier (TheVariants.Ident ident) exported ∷ list) (it ∷ specifiers) more same =
    let behind =
    exported_tail exported it
    (flat_map (export_specifier_items r.Reference 0) list ++ h.Close ∷ more)
    (flat_map specifier_items specifiers ++ h.Close ∷ [])
    (sym
    (append_assoc (option_items (module_export_name_items r.Word 1) exported ++ h.Close ∷ [])
    (flat_map (export_specifier_items r.Reference 0) list) (h.Close ∷ more))
    ∙ tail_same (tail_same same)
    ∙ append_assoc (name_items it.name ++ h.Close ∷ []) (flat_map specifier_items specifiers)
    (h.Close ∷ [])) in
    let rest = own_names list specifiers more behind in
    record {
      each =
          All-cons IsOfIdent (e.ExportNamedSpecifier (TheVariants.Ident ident) exported) list
          (record { ident = ident; name = exported; is = refl }) rest.each;
      none = rest.none;
    }

-- names of another module stand in none
no_source : (list : List ExportSpecifier) (src : v_str.Str) (specifiers : List Specifier)
    (more : List Item) →
    (flat_map (export_specifier_items r.Word 0) list ++ str_items 1 src) ++ h.Close ∷ more
    ≡ flat_map specifier_items specifiers ++ h.Close ∷ [] → ⊥
no_source [] src [] more same = cc
no_source [] src (it ∷ specifiers) more same = cc
no_source (e.ExportNamespaceSpecifier name ∷ list) src [] more same = cc
no_source (e.ExportNamespaceSpecifier name ∷ list) src (it ∷ specifiers) more same = cc
no_source (e.ExportNamedSpecifier orig exported ∷ list) src [] more same = cc
no_source (e.ExportNamedSpecifier (TheVariants.Str orig) exported ∷ list) src (it ∷ specifiers) more same =
    let second = tail_same same in cc
no_source (e.ExportNamedSpecifier (TheVariants.Ident ident) exported ∷ list) src (it ∷ specifiers) more
    same =
    let second = tail_same same in cc

-- a list of exports is the last item
last_item : (it : ModuleDecl) (rest : List ModuleItem) (meta : ExportMetadata)
    (specifiers : List Specifier) →
    module_decl_items 0 it ++ all_items rest ≡ export_items meta specifiers →
    EndsInExports (i.ModuleDecl it ∷ rest)
last_item (d.NamedExport list None its) rest meta specifiers same =
    let all =
    own_names list.items specifiers (all_items rest)
    (sym
    (append_assoc (flat_map (export_specifier_items r.Reference 0) list.items) (h.Close ∷ [])
    (all_items rest))
    ∙ ap (λ l. (l ++ h.Close ∷ []) ++ all_items rest)
    (sym (append-nil (flat_map (export_specifier_items r.Reference 0) list.items)))
    ∙ tail_same same) in
    subst (λ l. EndsInExports (i.ModuleDecl (d.NamedExport list None its) ∷ l))
    (sym (none_listed rest all.none)) (Wrapped.exports list its all.each)
last_item (d.NamedExport list (Some src) its) rest meta specifiers same =
    absurd
    (no_source list.items src specifiers (all_items rest)
    (sym
    (append_assoc (flat_map (export_specifier_items r.Word 0) list.items ++ str_items 1 src)
    (h.Close ∷ []) (all_items rest))
    ∙ tail_same same))
last_item (d.ImportDecl list src its) rest meta specifiers same = absurd cc
last_item (d.ExportDecl decl) rest meta specifiers same = absurd cc
last_item (d.ExportDefaultDecl decl) rest meta specifiers same = absurd cc
last_item (d.ExportDefaultExpr expr) rest meta specifiers same = absurd cc
last_item (d.ExportAll src its) rest meta specifiers same = absurd cc

-- The items of the tree.

back_ends : (it : ModuleDecl) (rest : List ModuleItem) {back : List Item} → IsBack back →
    module_decl_items 0 it ++ all_items rest ≡ back → EndsInExports (i.ModuleDecl it ∷ rest)
back_ends it rest nothing same =
    let one = decl_module it in
    let same_again : h.Open 0 one.head ∷ (one.behind ++ all_items rest) ≡ [] =
    ap (λ items. items ++ all_items rest) (sym one.is) ∙ same in
    absurd cc
back_ends it rest (exports meta specifiers) same = last_item it rest meta specifiers same

wrapped_so : (items : List ModuleItem) (stmts back : List Item) → AreNodesInTurn stmts →
    list_all is_inner_item stmts ≡ true → IsBack back → all_items items ≡ stmts ++ back →
    CanBeWrapped items
wrapped_so [] stmts back all inner ends same =
    record { stmts = []; last = []; is = refl; ends = Wrapped.nothing }
wrapped_so (i.Stmt it ∷ rest) stmts back all inner ends same =
    let left = past_statement back ends it rest all inner same in
    let its = wrapped_so rest left.stmts back left.all left.inner ends left.same in
    record {
      stmts = it ∷ its.stmts;
      last = its.last;
      is = ap (λ items. i.Stmt it ∷ items) its.is;
      ends = its.ends;
    }
wrapped_so (i.ModuleDecl it ∷ rest) stmts back all inner ends same =
    let none = no_statement back ends it rest all inner same in
    record {
      stmts = [];
      last = i.ModuleDecl it ∷ rest;
      is = refl;
      ends = back_ends it rest ends (same ∙ ap (λ items. items ++ back) none);
    }

-- CAN BE WRAPPED
pub statements-wrapped : (it : Module) → IsOfStatements (module_items 0 it) →
    CanBeWrapped it.body.items
statements-wrapped it its =
    wrapped_so it.body.items its.stmts its.back its.statements.nodes its.statements.inner its.ends
    (append_cancel_right (all_items it.body.items) (its.stmts ++ its.back) (h.Close ∷ [])
    (tail_same its.is ∙ sym (append_assoc its.stmts its.back (h.Close ∷ []))))

-- CAN BE CALLED

statements_first : (stmts : List Stmt) (last : List ModuleItem) →
    all_items (map i.Stmt stmts ++ last) ≡ flat_map (stmt_items 0) stmts ++ all_items last
statements_first [] last = refl
statements_first (it ∷ stmts) last =
    ap (λ items. stmt_items 0 it ++ items) (statements_first stmts last)
    ∙ sym (append_assoc (stmt_items 0 it) (flat_map (stmt_items 0) stmts) (all_items last))

own_idents : (list : List ExportSpecifier) → All IsOfIdent list → AllByRecursion IsLocal list
own_idents [] all = tt
own_idents (it ∷ list) all =
    let one = All-head IsOfIdent it list all in
    (subst IsLocal (sym one.is) tt, own_idents list (All-tail IsOfIdent it list all))

pub wrapped-called : (reading : Reading) (it : Module) → CanBeWrapped it.body.items →
    CanBeCalled reading (module_items 0 it)
wrapped-called reading it can =
    subst (λ items. CanBeCalled reading (node 0 h.Module items))
    (sym (ap all_items can.is ∙ statements_first can.stmts can.last)) (by can.ends)
  where
    by : {last : List ModuleItem} → EndsInExports last →
        CanBeCalled reading (node 0 h.Module (flat_map (stmt_items 0) can.stmts ++ all_items last))
    by Wrapped.nothing =
        subst (λ items. CanBeCalled reading (node 0 h.Module items))
        (sym (append-nil (flat_map (stmt_items 0) can.stmts)))
        (statements_called reading can.stmts)
    by (Wrapped.exports list meta all) =
        subst (λ items. CanBeCalled reading (h.Open 0 h.Module ∷ items))
        (ap (λ items. flat_map (stmt_items 0) can.stmts ++ (items ++ h.Close ∷ []))
        (sym (append-nil (module_decl_items 0 (d.NamedExport list None meta))))
        ∙ sym
        (append_assoc (flat_map (stmt_items 0) can.stmts)
        (all_items (i.ModuleDecl (d.NamedExport list None meta) ∷ [])) (h.Close ∷ [])))
        (exporting_called reading can.stmts list meta (own_idents list.items all))

-- ---- bundle

-- The form.

clean-called : (b : Bool) (tree : List Item) →
    CanBeCalled (if b then BySymbol else ByContext) tree →
    tree ≡ (if b then cleared tree else tidied tree) →
    wrapped tree ≡ (if b then cleared (wrapped tree) else tidied (wrapped tree))
clean-called true tree can is = wrapped-cleared _ tree can is
clean-called false tree can is = wrapped-tidied _ tree can is

undoubled-called : (b : Bool) (tree : List Item) →
    CanBeCalled (if b then BySymbol else ByContext) tree →
    (b ≡ true → first_doubled Es tree ≡ None) → b ≡ true → first_doubled Es (wrapped tree) ≡ None
undoubled-called true tree can none is = wrapped-undoubled tree can (none is)
undoubled-called false tree can none is = absurd (false≢true is)

module _ (p : Program) (hooks : Hooks) (named : List Item)
    (end : IsEnded p.settings p hooks named) where
  -- as a module
  module-form : form_of p.settings ≡ AsModule → IsEntryBundle p hooks named
  module-form form = record {
    clean = end.clean;
    undoubled = end.undoubled;
    is_bundle =
        subst (λ f. IsBundle p hooks f (reading_of p.settings) named) (sym form) end.is_bundle;
    names = record {
      merged = end.free;
      comes = end.comes;
      is_merged = end.is_merged;
      named = named;
      names = end.names;
      whole = end.whole;
      form = ap (λ f. in_form f named) (sym form);
    };
  }

  -- as the call of one function
  call-form : form_of p.settings ≡ AsCall → IsFaultlessProgram p → AreListless p →
      CanBeCalled (reading_of p.settings) named → IsEntryBundle p hooks (wrapped named)
  call-form form faultless listless can = record {
    clean = clean-called p.settings.renames named can end.clean;
    undoubled = undoubled-called p.settings.renames named can end.undoubled;
    is_bundle =
        subst (λ f. IsBundle p hooks f (reading_of p.settings) (wrapped named)) (sym form)
        (wrapping-keeps p hooks (reading_of p.settings) named form faultless none can
        end.is_bundle);
    names = record {
      merged = end.free;
      comes = end.comes;
      is_merged = end.is_merged;
      named = named;
      names = end.names;
      whole = end.whole;
      form = ap (λ f. in_form f named) (sym form);
    };
  }
    where
      none : StatesNoExports p
      none m reached = listless-tree (tree_of p m) (listless m reached)

-- MADE: what is made of the modules of a program by their places, for what linking, the tables and
-- the plan decide of them, with contexts that tell apart what has one, and then finished by these
-- settings, is the bundle of the program
pub made-bundle : (p q : Program) (ids : List ℕ) (g : Modules) → IsByPlaces p q ids g →
    AreKnown p q ids → AreMoved p q ids → (linking : Linking) (meta : ℕ → Bool)
    (count : ℕ → ℕ) → AreTablesLinked q (length ids) linking meta count → (plan : Plan) →
    IsPlanAsked p.settings.in_standard_order g p.entry ids plan → (hooks : Hooks)
    (context : BundleContexts)
    (answers : ℕ → Option Answer_bundle) → AreFresh answers → (orders : List (List ℕ))
    (items : List (List Item)) →
    AreMade q hooks (numbers_from zero (length ids)) context answers
    (decided_by linking meta count (length ids) (map block_of plan.blocks.items)) orders items →
    TellApart q answers context →
    ((k : ℕ) → IsReached q k → context (TopOf k) ≡ local_context (id_at ids k)) →
    (first : ℕ) → AreOthersGiven q answers context first →
    ((k : ℕ) → IsReached q k → export_context (id_at ids k) < first) →
    (config : Config) → p.settings.renames ≡ is_renaming config →
    p.settings.iife ≡ is_one_call config.module → (handed : List Item) →
    IsFinished config (joined_items items) handed → IsEntryBundle p hooks handed
made-bundle p q ids g places known its_moved linking meta count linked plan planned hooks context
    answers are_fresh orders items made apart locals first given over config renames iife handed finished =
    by_form (is_one_call config.module) refl
  where
    named : IsNamedAtOnce p.settings.renames (joined_items items) (module_items 0 finished.named)
    named =
        subst (λ b. IsNamedAtOnce b (joined_items items) (module_items 0 finished.named)) (sym renames)
        finished.at_once

    all_over : (m : ℕ) → IsReached p m → export_context m < first
    all_over m reached =
        let on = reached_on p q (IsModuleAt ids) its_moved.alike m reached in
        subst (λ (o : Option ℕ). export_context (unwrap_or o zero) < first) on.1 (over on.0 on.2)

    end : IsEnded p.settings p hooks (module_items 0 finished.named)
    end =
        made-ended p q ids g places known its_moved linking meta count linked plan planned hooks
        context answers orders items made apart locals first given all_over are_fresh p.settings
        (module_items 0 finished.named) named

    can : is_one_call config.module ≡ true → CanBeWrapped finished.named.body.items
    can so =
        statements-wrapped finished.named
        (made-statements p q ids g places known its_moved linking meta count linked plan planned
        hooks context answers orders items made apart locals first given all_over (iife ∙ so)
        p.settings.renames
        (module_items 0 finished.named) named)

    by_form : (b : Bool) → is_one_call config.module ≡ b → IsEntryBundle p hooks handed
    by_form false so =
        subst (IsEntryBundle p hooks) (sym (finished.as_module so))
        (module-form p hooks (module_items 0 finished.named) end
        (ap (λ b. if b then AsCall else AsModule) (iife ∙ so)))
    by_form true so =
        subst (IsEntryBundle p hooks) (sym (finished.as_call so (can so)))
        (call-form p hooks (module_items 0 finished.named) end
        (ap (λ b. if b then AsCall else AsModule) (iife ∙ so)) known.faultless
        (program_listless p known.fit)
        (wrapped-called (reading_of p.settings) finished.named (can so)))

-- ---- bundled

-- what the hook may give
abbrev pub MayGive : Type 1
MayGive = Name → Bool → List (KeyValueProp Expr) → Type 0

-- each of these is of a module that has an `import.meta`, may be held for it, and is a list of
-- properties
abbrev pub AreHeld : Program → Hooks → (ℕ → Option (List Item)) → Type 0
AreHeld q hooks given =
    (k : ℕ) (properties : List Item) → given k ≡ Some properties →
    IsTrue (has_import_meta (tree_of q k)) × MayHold q hooks k properties
    × AreFit (slot 0 Many AProperty ∷ []) properties

module _ (p : Program) (entry : ℕ) (call : EntryCall) (w : IsCallOf p entry call) (linked : LinkedEntry)
    (l : IsLinkedEntry p call linked) where
  abbrev ids : List ℕ
  ids = linked.reached.list.items

  abbrev q : Program
  q = l.links.places

  -- the modules by their places, and back
  pub by-places : AreRenamed q p (λ k m. IsModuleAt ids m k) (id_at ids) (λ m. index_of m ids)
  by-places = places-renamed p q ids (Known.are-moved p entry call w linked l)

  pub by-numbers : AreRenamed p q (IsModuleAt ids) (λ m. index_of m ids) (id_at ids)
  by-numbers = turned-round by-places

  -- the module at a place
  pub at-place : (k : ℕ) → IsReached q k → slice_get ids k ≡ Some (id_at ids k)
  at-place k reached =
      reach-named q p (λ k m. IsModuleAt ids m k) (id_at ids) (λ m. index_of m ids) by-places k reached

  is-reached : (k : ℕ) → k < length ids → IsReached q k
  is-reached k within =
      (places-reached p q ids (Known.are-moved p entry call w linked l) l.reached.is_list k).1
      within

  is-within : (k : ℕ) → IsReached q k → k < length ids
  is-within k reached =
      (places-reached p q ids (Known.are-moved p entry call w linked l) l.reached.is_list k).0
      reached

  -- the tree at a place
  same-tree : (m k : ℕ) → slice_get ids k ≡ Some m → tree_of p m ≡ tree_of q k
  same-tree m k at = l.links.by_places.alike.tree m k at

  -- ASKED: answers for all that the hook was asked for are answers for the modules by their places
  pub asked-answers : (may_give : MayGive) (answers : List MetaAnswer) →
      AreAnswersBefore may_give p linked.reached.list.items (length linked.reached.list.items)
      answers → AreAskedAnswers l.links.places answers
  asked-answers may_give answers are = record {
    each = λ answer there.
        let its = are.each answer there in (
          is-reached answer.which its.0,
          sym (ap has_import_meta (same-tree its.1.0 answer.which its.1.1)) ∙ its.1.2.0,
          its.1.2.1.3 q (sym l.links.by_places.alike.iife),
        );
    all = λ k reached has.
        are.all k (id_at ids k) (is-within k reached) (at-place k reached)
        (ap has_import_meta (same-tree (id_at ids k) k (at-place k reached)) ∙ has);
  }

  -- what one of them hands on may be held
  one-held : (may_give : MayGive) (answer : MetaAnswer) (m k : ℕ) (properties : List Item) →
      slice_get ids k ≡ Some m → IsHookAnswer may_give p m (Some answer.properties.items) →
      properties ≡ kept_properties answer.properties.items →
      MayHold q (record { may_answer = HoldsProperties may_give }) k properties
  one-held may_give answer m k properties at its is =
      may-hold-by p q (IsModuleAt ids) (λ m. index_of m ids) (id_at ids) by-numbers
      (record { may_answer = HoldsProperties may_give }) m k properties at
      (record {
        loaded = its.1.0;
        kept = its.1.1;
        answer = flat_map (key_value_prop_items 0) answer.properties.items;
        answered = record { given = answer.properties.items; may = its.1.2; is = refl };
        cleared = is;
      })

  -- HELD: what they hand on for the modules may be held
  pub answers-held : (may_give : MayGive) (answers : List MetaAnswer) →
      AreAnswersBefore may_give p linked.reached.list.items (length linked.reached.list.items)
      answers → (given : ℕ → Option (List Item)) → AreOfAnswers answers given →
      AreHeld l.links.places (record { may_answer = HoldsProperties may_give }) given
  answers-held may_give answers are given of k properties is =
      let its = of k properties is in
      let asked = are.each its.0 its.1 in
      let at : slice_get ids k ≡ Some asked.1.0 = ap (slice_get ids) (sym its.2) ∙ asked.1.1 in (
        sym (ap has_import_meta (same-tree asked.1.0 k at)) ∙ asked.1.2.0,
        one-held may_give its.0 asked.1.0 k properties at asked.1.2 its.3,
        subst (AreFit (slot 0 Many AProperty ∷ [])) (sym its.3)
            (properties-fit its.0.properties.items),
      )

  -- BUNDLED: what is made is the bundle of the entry
  pub entry-bundle : (hooks : Hooks) (given : ℕ → Option (List Item)) →
      AreHeld l.links.places hooks given → (made : Module) →
      IsMadeOf l.links.places call linked given made → IsEntryBundle p hooks (module_items 0 made)
  entry-bundle hooks given held made its =
      let merged = its.is_merged in
      made-bundle p q ids (Known.graph p entry call w linked l)
      (Known.are-places p entry call w linked l) (Known.are-known p entry call w linked l)
      (Known.are-moved p entry call w linked l) linked.linking
      (λ k. has_import_meta (tree_of q k)) (λ k. length (own_statements (tree_of q k)))
      (Known.are-linked p entry call w linked l _ _ (Known.are-told p entry call w linked l))
      linked.plan (Known.is-planned p entry call w linked l) hooks merged.context
      (all_fresh given) (are-fresh given) merged.orders merged.items
      (all-held q any_hooks hooks _ merged.context (all_fresh given)
      (λ k properties is. (held k properties (fresh-told given k properties is)).1)
      (λ k ctxt notes properties is. absurd (are-fresh given k ctxt notes properties is))
      (decided_in q linked) merged.orders merged.items merged.are_made)
      merged.apart merged.tops merged.first merged.others merged.over call.config.now.base w.renames w.iife (module_items 0 made)
      (subst (λ before. IsFinished call.config.now.base before (module_items 0 made)) merged.is
      its.finished)
