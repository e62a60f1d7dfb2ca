-- What is made for a cause keeps the forms of the own statements for which it stands.
use Rattle.std.proofs.Common.{◌≡◌, ℕ, suc, List, [], ◌∷◌, Option, Some, refl, sym, ◌∙◌, subst}
use Rattle.std.specs.Prelude.{Contains, slice_get, codes}
use Rattle.std.specs.List.{AllZip}
use Rattle.std.proofs.lemmas.Option.{same_Some}
use Rattle.bundle_syntax.specs.Item.{Item}
use Rattle.bundle_rules.specs.Scopes.{ModuleKind, Cjs}
use Rattle.bundle_rules.specs.Statements.{Element, own_statements}
use Rattle.bundle_rules.specs.Sorting.{flat}
use Rattle.bundle_rules.specs.Program.{Program, tree_of, IsReached}
use Rattle.bundle_rules.specs.Linking.{IsCommonJs}
use Rattle.bundle_rules.specs.Meaning.{HasKind, is_es, is_common_js, Load, Helper}
use Rattle.bundle_rules.specs.Bundle as b
use Rattle.bundle_rules.specs.Bundle.{AsModule, Cause, Hooks, IsDue}
use Rattle.bundle_rules.specs.OwnForms.{KeepsForm}
use Rattle.bundle_scope_names.specs.fit.Sorts.{AnItem}
use Rattle.bundle_scope_names.specs.fit.Fits.{IsFit}
use Rattle.bundle_scope_names.proofs.fit.Rows.{last}
use Rattle.bundle_merge_theory.specs.joined.Joined.{AllOf}
use Rattle.bundle_merge_theory.specs.joined.Picked.{IsSingle}
use Rattle.bundle_merge_theory.specs.loaded.Item.{front_items, back_items}
use Rattle.bundle_merge_theory.specs.made.Given.{HookAnswer, BundleContexts, TopOf, ident_of_label}
use Rattle.bundle_merge_theory.specs.made.Made as m
use Rattle.bundle_merge_theory.specs.made.Made.{IsStatedAs, IsMade}
use Rattle.bundle_merge_theory.specs.made.Alone.{AreTreesSound}
use Rattle.bundle_merge_theory.proofs.composed.Unique.{beside-flat}
use Rattle.bundle_merge_theory.proofs.fit.Clearing.{beside}
use Rattle.bundle_merge_theory.proofs.form.Carried.{CauseKeepsForms}
use Rattle.bundle_merge_theory.proofs.function.Given.{fit_given, one_alone}
use Rattle.bundle_merge_theory.proofs.function.Strange.{load-listed}
use Rattle.bundle_merge_theory.proofs.own.Fit.{states_fit}
use Rattle.bundle_merge_theory.proofs.own.Tree.{top-fit}
use Rattle.bundle_merge_theory.proofs.planned.OrderLemmas.{contains-get}
use Rattle.bundle_merge_theory.proofs.told.Theorem.{told}

module _ (p : Program) (list : List ℕ) (context : BundleContexts) (sound : AreTreesSound p list) where
  -- a statement
  statement-keeps : {n : ℕ} {kind : ModuleKind} → IsReached p n → HasKind p n kind →
      (statement : List Element) (made : List Item) → Contains (own_statements (tree_of p n)) statement →
      IsStatedAs p list context n kind statement made → KeepsForm p n statement made
  statement-keeps reached has_kind statement made there its =
      let all = told p list context sound reached has_kind statement there its in all.kept_form

  -- what is made of it is one node
  made-single : {n : ℕ} {kind : ModuleKind} {statement : List Element} {made : List Item} → IsReached p n →
      IsStatedAs p list context n kind statement made → IsSingle made
  made-single {n = n} reached its =
      let given : IsFit AnItem 0 its.given =
      one_alone (fit_given (last (top-fit (tree_of p n) (sound.fit.each n reached) its.top its.there)) its.given its.is_given) in
      beside (states_fit its.by given)

  -- the statements of a CommonJS module
  module _ (c : ℕ) (reached : IsReached p c) (common : IsCommonJs p c) where
    bodies-keep : (statements : List (List Element)) (bodies : List (List Item)) →
        AllZip (λ statement made. IsStatedAs p list context c Cjs statement made) statements bodies →
        ((i : ℕ) (statement : List Element) → slice_get statements i ≡ Some statement →
        Contains (own_statements (tree_of p c)) statement) →
        AllZip (KeepsForm p c) statements bodies
    bodies-keep [] [] all there = tt
    bodies-keep [] (body ∷ bodies) all there = absurd all
    bodies-keep (statement ∷ statements) [] all there = absurd all
    bodies-keep (statement ∷ statements) (body ∷ bodies) all there = (
      statement-keeps reached (is_common_js common) statement body (there 0 statement refl) all.0,
      bodies-keep statements bodies all.1 (λ i other at. there (suc i) other at),
    )

    bodies-single : (statements : List (List Element)) (bodies : List (List Item)) →
        AllZip (λ statement made. IsStatedAs p list context c Cjs statement made) statements bodies →
        AllOf IsSingle bodies
    bodies-single [] [] all = tt
    bodies-single [] (body ∷ bodies) all = absurd all
    bodies-single (statement ∷ statements) [] all = absurd all
    bodies-single (statement ∷ statements) (body ∷ bodies) all =
        (made-single reached all.0, bodies-single statements bodies all.1)

  -- THEOREM: what is made for a cause that is due
  pub made-keeps : (hooks : Hooks) (answers : ℕ → Option HookAnswer) (cause : Cause) (item : List Item) →
      IsDue p AsModule cause → IsMade p hooks list context answers cause item → CauseKeepsForms p cause item
  made-keeps hooks answers _ item (b.own {m = n} {k = k} reached es within) (m.own statement at its) =
      λ other there.
      subst (λ s. KeepsForm p n s item) (same_Some statement other (sym at ∙ there))
      (statement-keeps reached (is_es es) statement item
      (contains-get (own_statements (tree_of p n)) k statement at) its)
  made-keeps hooks answers _ item (b.defines {c = c} reached common) (m.defines bodies stated is) = record {
    front =
        front_items (ident_of_label p list context (Load c)) (ident_of_label p list context Helper)
        (codes "module", context (TopOf c)) (codes "exports", context (TopOf c));
    inside = flat bodies;
    back = back_items;
    is =
        is
        ∙ load-listed (ident_of_label p list context (Load c)) (ident_of_label p list context Helper)
        (codes "module", context (TopOf c)) (codes "exports", context (TopOf c)) (flat bodies);
    front_length = refl;
    back_length = refl;
    statements =
        subst (AllZip (KeepsForm p c) (own_statements (tree_of p c)))
        (sym (beside-flat bodies (bodies-single c reached common (own_statements (tree_of p c)) bodies stated)))
        (bodies-keep c reached common (own_statements (tree_of p c)) bodies stated
        (λ i statement at. contains-get (own_statements (tree_of p c)) i statement at));
  }
  made-keeps hooks answers _ item (b.imports_names used means) made = tt
  made-keeps hooks answers _ item (b.imports_whole used means) made = tt
  made-keeps hooks answers _ item (b.imports_nothing used none not) made = tt
  made-keeps hooks answers _ item (b.helps reached common) made = tt
  made-keeps hooks answers _ item (b.loads reached es asks) made = tt
  made-keeps hooks answers _ item (b.holds_meta reached has) made = tt
  made-keeps hooks answers _ item (b.holds_namespace meant) made = tt
  made-keeps hooks answers _ item (b.stars star) made = tt
  made-keeps hooks answers _ item (b.exports form linked) made = tt
  made-keeps hooks answers _ item (b.returns form) made = tt
