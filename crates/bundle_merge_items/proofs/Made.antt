-- What a bundle adds is made for its causes, where its names hold what stands for each label.
use Rattle.std.proofs.Common.{◌≡◌, ℕ, Bool, true, false, List, [], ◌∷◌, ◌++◌, Option, Some, None, map, refl, ap, sym, subst, ◌∙◌, inl, inr}
use Rattle.std.specs.Prelude.{Contains, codes, if◌then◌else◌}
use Rattle.std.specs.Borrow.{Bor}
use Rattle.std.specs.List.{AllZip}
use Rattle.bundle_rules.specs.Nodes.{Text}
use Rattle.bundle_rules.specs.Statements.{no_notes}
use Rattle.bundle_rules.specs.Entries as e
use Rattle.bundle_rules.specs.Program.{Program, IsReached}
use Rattle.bundle_rules.specs.Linking as l
use Rattle.bundle_rules.specs.Linking.{IsCommonJs}
use Rattle.bundle_rules.specs.Meaning.{Of, Load, Helper, IsMeant, by_export, by_namespace}
use Rattle.bundle_rules.specs.Bundle.{ImportsWhole, Helps, Loads, HoldsNamespace, Exports, Hooks, AreNames, AreLinked}
use Rattle.bundle_link_tables.specs.declared.table.Taken.TheVariants as k
use Rattle.bundle_link_index.specs.Says.{target_of}
use Rattle.bundle_link_index.specs.declared.target.TargetRef.{TargetRef}
use Rattle.bundle_link_index.specs.declared.target.TargetRef.TheVariants as t
use Rattle.bundle_link_targets.specs.Names.{target_pair}
use Rattle.bundle_link_targets.specs.Handed.{IsExternalOf, IsLoadOf}
use Rattle.bundle_link_targets.specs.declared.target.External.{External}
use Rattle.bundle_link_targets.specs.declared.target.Loaded.{Loaded}
use Rattle.bundle_merge_injected.specs.Listed as f
use Rattle.bundle_merge_theory.proofs.joined.Bindings.{Contains-cons}
use Rattle.bundle_merge_theory.specs.made.Given.{HookAnswer, BundleContexts, HelperParameter, ident_of_label}
use Rattle.bundle_merge_names.specs.Idents.{label_ident, target_ident}
use Rattle.bundle_merge_names.specs.declared.names.Label.TheVariants as n
use Rattle.bundle_merge_names.specs.declared.names.BundleNames.{BundleNames}
use Rattle.bundle_merge_items.specs.Added as a
use Rattle.bundle_merge_theory.specs.planned.Decided.{external_plan, names_plan, bare_plan, one_if}
use Rattle.bundle_merge_theory.specs.sound.Decided.{external_of}
use Rattle.bundle_merge_theory.proofs.laid.Ready.{zip-join}
use Rattle.bundle_merge_theory.specs.made.Made as m
use Rattle.bundle_merge_theory.specs.made.Made.{IsMade, named_idents, linked_idents}
use Rattle.bundle_merge_names.specs.Naming.{AreBundleNamesOf}

module _ (p : Program) (hooks : Hooks) (list : List ℕ) (context : BundleContexts) (answers : ℕ → Option HookAnswer) (names : BundleNames) (named : AreBundleNamesOf p list context names) where
  -- names that are taken have the identifiers of their targets
  pub pairs-are : (code : Bor Text → TargetRef) (of : Text → l.Target) (its : List (Bor Text)) →
      ((x : Bor Text) → target_of (code x) ≡ of x.now) →
      ((x : Text) → Contains (map (λ name. name.now) its) x → IsMeant p (Of (of x))) →
      a.named_pairs names code its ≡ named_idents p list context of (map (λ name. name.now) its)
  pairs-are code of [] same meant = refl
  pairs-are code of (x ∷ more) same meant =
      let here = subst (λ to. IsMeant p (Of to)) (sym (same x)) (meant x.now ((Contains-cons x.now (map (λ name. name.now) more) x.now).1 (inl refl))) in
      let first = named.targets (code x) here ∙ ap (λ to. ident_of_label p list context (Of to)) (same x) in
      let rest = pairs-are code of more same (λ y there. meant y ((Contains-cons x.now (map (λ name. name.now) more) y).1 (inr there))) in
      ap (λ ident. (x.now, ident) ∷ a.named_pairs names code more) first
      ∙ ap (λ pairs. (x.now, ident_of_label p list context (Of (of x.now))) ∷ pairs) rest

  -- the same of linked names
  pub linked-are : (its : List (Bor Text × TargetRef)) →
      ((x : Text) (to : l.Target) → Contains (map target_pair its) (x, to) → IsMeant p (Of to)) →
      a.linked_pairs names its ≡ linked_idents p list context (map target_pair its)
  linked-are [] meant = refl
  linked-are (x ∷ more) meant =
      let first = named.targets x.1 (meant x.0.now (target_of x.1) ((Contains-cons (target_pair x) (map target_pair more) (target_pair x)).1 (inl refl))) in
      let rest = linked-are more (λ y to there. meant y to ((Contains-cons (target_pair x) (map target_pair more) (y, to)).1 (inr there))) in
      ap (λ ident. (x.0.now, ident) ∷ a.linked_pairs names more) first
      ∙ ap (λ pairs. (x.0.now, ident_of_label p list context (Of (target_of x.1))) ∷ pairs) rest

  -- the import of the names of an external
  names-made : (s : Bor Text) (its : List (Bor Text)) →
      AreNames (λ x. IsMeant p (Of (l.External s.now (e.Named x)))) (map (λ name. name.now) its) →
      AllZip (IsMade p hooks list context answers) (names_plan (map (λ name. name.now) its) s.now) (a.name_imports names s its)
  names-made s [] are = tt
  names-made s (x ∷ more) are = (
    m.imports_names (map (λ name. name.now) (x ∷ more)) are
        (ap (f.import_names s.now)
        (pairs-are (λ name. t.External s (k.Named name)) (λ y. l.External s.now (e.Named y)) (x ∷ more) (λ y. refl) (λ y. (are.all y).0))),
    tt,
  )

  -- and of its whole, or of nothing
  others-made : (s : Bor Text) (whole : Bool) (its : List (Bor Text)) →
      (whole ≡ true → IsMeant p (Of (l.External s.now e.Whole))) →
      AllZip (IsMade p hooks list context answers)
      (one_if whole (ImportsWhole s.now) ++ bare_plan (map (λ name. name.now) its) whole s.now)
      (a.other_imports names s whole its)
  others-made s true [] meant =
      (m.imports_whole (ap (f.import_whole s.now) (named.targets (t.External s k.Whole) (meant refl))), tt)
  others-made s true (x ∷ more) meant =
      (m.imports_whole (ap (f.import_whole s.now) (named.targets (t.External s k.Whole) (meant refl))), tt)
  others-made s false [] meant = (m.imports_nothing refl, tt)
  others-made s false (x ∷ more) meant = tt

  -- the imports of an external, where what of it is meant is held
  pub external-made : (external : External) → IsExternalOf p external →
      AllZip (IsMade p hooks list context answers) (external_plan (external_of external))
      (a.import_declarations_of names external)
  external-made external is =
      zip-join (IsMade p hooks list context answers)
      (names_plan (map (λ name. name.now) external.names.items) external.specifier.now)
      (one_if external.whole (ImportsWhole external.specifier.now)
      ++ bare_plan (map (λ name. name.now) external.names.items) external.whole external.specifier.now)
      (a.name_imports names external.specifier external.names.items)
      (a.other_imports names external.specifier external.whole external.names.items)
      (names-made external.specifier external.names.items is.names)
      (others-made external.specifier external.whole external.names.items is.whole.0)

  -- the helper
  pub helper-made : (c : ℕ) → IsReached p c → IsCommonJs p c →
      IsMade p hooks list context answers Helps (a.helper_of names)
  helper-made c reached cjs =
      m.helps
      (ap (λ i. f.helper_function i (label_ident names n.HelperParameter) (label_ident names n.HelperVariable)) (named.helper c reached cjs)
      ∙ ap (λ i. f.helper_function (ident_of_label p list context Helper) i (label_ident names n.HelperVariable)) (named.parameter c reached cjs)
      ∙ ap (λ i. f.helper_function (ident_of_label p list context Helper) (codes "fn", context HelperParameter) i) (named.variable c reached cjs))

  whole-is : (taker c : ℕ) (whole : Bool) →
      (whole ≡ true → IsMeant p (Of (l.CommonJs taker c e.Whole))) →
      a.loaded_whole names taker c whole
      ≡ (if whole then Some (ident_of_label p list context (Of (l.CommonJs taker c e.Whole))) else None)
  whole-is taker c true meant = ap Some (named.targets (t.CommonJs taker c k.Whole) (meant refl))
  whole-is taker c false meant = refl

  -- the statement by which a module loads a CommonJS module
  pub load-made : (taker : ℕ) (loaded : Loaded) →
      IsReached p loaded.which →
      IsCommonJs p loaded.which →
      IsLoadOf p taker loaded →
      IsMade p hooks list context answers (Loads taker loaded.which) (a.load_item_of names taker loaded)
  load-made taker loaded reached cjs is =
      m.loads loaded.whole (map (λ name. name.now) loaded.names.items) is.names is.whole.0 is.whole.1
      (ap (λ i. f.load_statement i (a.loaded_whole names taker loaded.which loaded.whole) (a.loaded_pairs names taker loaded)) (named.loads loaded.which reached cjs)
      ∙ ap (λ w. f.load_statement (ident_of_label p list context (Load loaded.which)) w (a.loaded_pairs names taker loaded)) (whole-is taker loaded.which loaded.whole is.whole.0)
      ∙ ap (f.load_statement (ident_of_label p list context (Load loaded.which))
      (if loaded.whole then Some (ident_of_label p list context (Of (l.CommonJs taker loaded.which e.Whole))) else None))
      (pairs-are (λ name. t.CommonJs taker loaded.which (k.Named name)) (λ y. l.CommonJs taker loaded.which (e.Named y)) loaded.names.items (λ y. refl) (λ y. (is.names.all y).0)))

  -- the object of a namespace that is meant
  pub object-made : (d : ℕ) (its : List (Bor Text × TargetRef)) →
      IsMeant p (Of (l.Namespace d)) →
      AreLinked p d (map target_pair its) →
      IsMade p hooks list context answers (HoldsNamespace d)
      (f.namespace_object no_notes (target_ident names (t.Namespace d)) (a.linked_pairs names its))
  object-made d its meant linked =
      m.holds_namespace (map target_pair its) linked
      (ap (λ i. f.namespace_object no_notes i (a.linked_pairs names its)) (named.targets (t.Namespace d) meant)
      ∙ ap (f.namespace_object no_notes (ident_of_label p list context (Of (l.Namespace d))))
      (linked-are its (λ x to there. by_namespace meant ((linked.all x to).0 there))))

  -- the export list
  pub exports-made : (its : List (Bor Text × TargetRef)) →
      AreLinked p p.entry (map target_pair its) →
      IsMade p hooks list context answers Exports (f.export_list (a.linked_pairs names its))
  exports-made its linked =
      m.exports (map target_pair its) linked
      (ap f.export_list (linked-are its (λ x to there. by_export ((linked.all x to).0 there))))
