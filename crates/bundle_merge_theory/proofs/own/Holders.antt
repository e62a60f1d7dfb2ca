-- What a literal call of a reached module leads to is a reached CommonJS module.
-- Which contexts the labels of a bundle have, and that no name of an ES module means a name inside
-- the function of a CommonJS module.
use Rattle.std.proofs.Common.{◌≡◌, inr, Bool, true, false, not, ℕ, Some, Contains, ap, ◌∙◌, refl, if◌then◌else◌, arith, filter, suc, ◌+◌, ◌-◌, List, Option}
use Rattle.std.specs.Prelude.{IsTrue, None, [], nat_lt}
use Rattle.std.proofs.lemmas.List.Elements.{Contains-append_right}
use Rattle.std.proofs.lemmas.Bool.{false_from_ne_true, leb-true}
use Rattle.bundle_tree_names.specs.FileName.{Name as FileName, real}
use Rattle.bundle_order_graph.specs.Walks.{itself, along}
use Rattle.bundle_order_graph.proofs.WalkLemmas.{Reaches-trans}
use Rattle.bundle_rules.specs.Nodes.{has_text, Text}
use Rattle.bundle_rules.specs.Entries.{RequireCall, requests_of, is_script, require_calls, Taken}
use Rattle.bundle_rules.specs.Bound.{is_free}
use Rattle.bundle_rules.specs.Program.{Program, tree_of, resolves, calls_of, Requests, IsReached}
use Rattle.bundle_rules.specs.Linking.{IsCommonJs, Target, Declared, Namespace, External, CommonJs, Takes, of_external, of_common_js, of_module, Gives, declaration, namespace_import, taken, given_on, starred, Origin, StandsFor, declared, imported, taken_whole}
use Rattle.bundle_rules.specs.Faults.{required_entry, required_es_module}
use Rattle.bundle_rules.specs.Tables.{IsChecked}
use Rattle.bundle_rules.specs.Meaning.{Label}
use Rattle.bundle_rules.specs.Bundle as u
use Rattle.bundle_rules.specs.Bundle.{Cause, AsModule, IsDue}
use Rattle.bundle_link_index.proofs.AskedLemmas.{none_there as none-there}
use Rattle.bundle_link_index.proofs.ProgramLemmas.{map_on, filter_map_on as some_on, once_on as texts-on}
use Rattle.bundle_link_targets.specs.Meant.{ReadsOn, done, on, WordsMean}
use Rattle.bundle_merge_theory.proofs.planned.OrderLemmas.{numbers-on}
use Rattle.bundle_merge_theory.specs.made.Given.{HookAnswer, BundleContexts, TopOf, InsideOf, NameOf, numbers_in, ident_of_label}
use Rattle.bundle_merge_theory.specs.made.Alone as a
use Rattle.bundle_merge_theory.specs.made.Alone.{AddsLabel, imports_name, imports_whole, helps, defines, loads, holds_meta, holds_namespace, DeclaresLabel, IsTopLabel, IsHolder, TellApart}

-- ---- called
module _ (p : Program) (checked : IsChecked p None) where
  call_settings : (m : ℕ) (call : RequireCall) → Contains (calls_of p m) call →
      IsTrue p.settings.require
  call_settings m call c = by p.settings.require refl c
    where
      by : (t : Bool) → p.settings.require ≡ t →
          Contains
          (if t then filter (λ (k : RequireCall). not (has_text k.specifier p.settings.external))
          (require_calls (is_free (tree_of p m)) (tree_of p m)) else [])
          call →
          p.settings.require ≡ true
      by true e c = e
      by false e c = none-there call c

  call_requests : (m c : ℕ) (call : RequireCall) → Contains (calls_of p m) call →
      resolves p m call.specifier ≡ Some c → Requests p m c
  call_requests m c call there leads =
      numbers-on _ c
      (some_on (resolves p m) (requests_of p.settings (is_free (tree_of p m))
      (tree_of p m)) call.specifier c
      (texts-on _ call.specifier
      (Contains-append_right _ _ call.specifier
      (map_on (λ (k : RequireCall). k.specifier) (calls_of p m) call there)))
      leads)

  pub call_given : (m c : ℕ) (call : RequireCall) → IsReached p m → Contains (calls_of p m) call →
      resolves p m call.specifier ≡ Some c → IsReached p c × IsCommonJs p c
  call_given m c call reached there leads = (
    Reaches-trans reached (along (call_requests m c call there leads) itself),
    record {
      linked = call_settings m call there;
      other =
          λ e. checked m 0 call.place file _ (λ k. omega (arith, k)) reached
          (required_entry call there (leads ∙ ap (λ n. Some n) e));
      script = by (is_script (tree_of p c)) refl;
      used = inr (m, reached, record { call = call; stands = there; resolved = leads });
    },
  )
    where
      file : FileName
      file = real []

      by : (t : Bool) → is_script (tree_of p c) ≡ t → is_script (tree_of p c) ≡ true
      by true e = e
      by false e =
          absurd
          (checked m 1 call.place file _ (λ k. omega (arith, k)) reached
          (required_es_module call there leads e))

-- ---- holders

-- numbers
pub number-inside : (context : BundleContexts) (m n : ℕ) (x : List ℕ) →
    numbers_in context m (n + 2) x ≡ context (InsideOf m n)
number-inside context m n x =
    ap (λ b. if b then context (TopOf m) else context (InsideOf m (n + 2 - 2)))
    (false_from_ne_true (nat_lt (n + 2) 2)
    (λ e. let lt = leb-true (suc (n + 2)) 2 e in omega (arith, lt)))
    ∙ (let same : n + 2 - 2 ≡ n = omega arith in ap (λ k. context (InsideOf m k)) same)

-- the holder of a label's context
pub data HoldsLabel (p : Program) (answers : ℕ → Option HookAnswer) (context : BundleContexts)
    (l : Label) (c : ℕ) : Type 0 where
  by_module : {m : ℕ} → IsReached p m → (IsCommonJs p m → ⊥) → c ≡ context (TopOf m) →
      HoldsLabel p answers context l c
  by_name : IsHolder p answers (NameOf l) → c ≡ context (NameOf l) → HoldsLabel p answers context l
      c

pub added-context : (p : Program) (list : List ℕ) (context : BundleContexts) {cause : Cause} {l : Label} →
    AddsLabel p cause l → (ident_of_label p list context l).1 ≡ context (NameOf l)
added-context p list context (imports_name means) = refl
added-context p list context imports_whole = refl
added-context p list context helps = refl
added-context p list context defines = refl
added-context p list context (loads means) = refl
added-context p list context holds_meta = refl
added-context p list context holds_namespace = refl

module _ (p : Program) (list : List ℕ) (context : BundleContexts) (answers : ℕ → Option HookAnswer)
    (apart : TellApart p answers context) where
  pub label-holder : (l : Label) → IsTopLabel p l →
      HoldsLabel p answers context l (ident_of_label p list context l).1
  label-holder l top = by top.cause top.due top.declares
    where
      by : (cause : Cause) → IsDue p AsModule cause → {l : Label} → DeclaresLabel p cause l →
          HoldsLabel p answers context l (ident_of_label p list context l).1
      by cause due (a.adds adds) = by_name (a.added cause due adds)
          (added-context p list context adds)
      by _ (u.own reached es lt) (a.own statement e there has declares) = by_module reached es refl

  -- no label of the top has the context of a scope inside a module
  pub label-strange : (l : Label) → IsTopLabel p l → (m n : ℕ) → IsHolder p answers (InsideOf m n) →
      context (InsideOf m n) ≡ (ident_of_label p list context l).1 → ⊥
  label-strange l top m n holder is = by (label-holder l top)
    where
      no_top : (k : ℕ) → InsideOf m n ≡ TopOf k → ⊥
      no_top k e = cc

      no_name : InsideOf m n ≡ NameOf l → ⊥
      no_name e = cc

      by : HoldsLabel p answers context l (ident_of_label p list context l).1 → ⊥
      by (by_module {m = k} reached es same) =
          no_top k (apart.apart (InsideOf m n) (TopOf k) holder (a.top_of reached) (is ∙ same))
      by (by_name holds same) =
          no_name (apart.apart (InsideOf m n) (NameOf l) holder holds (is ∙ same))

-- Names of an ES module mean no names inside functions.

-- a target is of no CommonJS module
abbrev pub IsOfEs : Program → Target → Type 0
IsOfEs p (Declared m x) = IsCommonJs p m → ⊥
IsOfEs p (Namespace m) = IsCommonJs p m → ⊥
IsOfEs p (External s its) = Unit {0}
IsOfEs p (CommonJs m c its) = Unit {0}

takes-es : (p : Program) (m : ℕ) {s : Text} {its : Taken} {t : Target} → Takes p m s its t → IsOfEs
    p t
takes-es p m (of_external is) = tt
takes-es p m (of_common_js is common) = tt
takes-es p m (of_module is) = is.es

gives-es : (p : Program) {m : ℕ} {x : Text} {t : Target} {origin : Option Origin} →
    Gives p m x t origin → (IsCommonJs p m → ⊥) → IsOfEs p t
gives-es p (declaration has own) es = es
gives-es p (namespace_import {m = m} entry has own takes) es = takes-es p m takes
gives-es p (taken {m = m} has takes) es = takes-es p m takes
gives-es p (given_on has is gives) es = gives-es p gives is.es
gives-es p (starred none other has is gives) es = gives-es p gives is.es

stands-es : (p : Program) (m : ℕ) {x : Text} {t : Target} → StandsFor p m x t →
    (IsCommonJs p m → ⊥) → IsOfEs p t
stands-es p m (declared has own) es = es
stands-es p m (imported entry has its is linked) es = gives-es p linked.given is.es
stands-es p m (taken_whole entry has takes) es = takes-es p m takes

reads-es : (p : Program) {t u : Target} {words : List Text} {n : ℕ} → ReadsOn p t words n u →
    IsOfEs p t → IsOfEs p u
reads-es p (done is) es = es
reads-es p (on linked more) es = reads-es p more (gives-es p linked.given es)

pub words-es : (p : Program) (m : ℕ) (x : Text) (words : List Text) (n : ℕ) (t : Target) →
    WordsMean p m x words n t → (IsCommonJs p m → ⊥) → IsOfEs p t
words-es p m x words n t means es = reads-es p means.reads (stands-es p m means.stands es)
