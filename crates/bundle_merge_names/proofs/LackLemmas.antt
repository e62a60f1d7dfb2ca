-- What gets a name is just what has a context of its own in a bundle and is a label.
-- Labels get no names where contexts are used up before each has one.
use Rattle.std.proofs.Common.{◌≡◌, ◌↔◌, ◌⊎◌, ◌+◌, inl, inr, ℕ, zero, Bool, List, Option, length, refl, sym, subst, ◌∙◌, arith, ◌≤◌, ◌<◌, ◌-◌, suc, [], ◌∷◌, Some, take, ap}
use Rattle.std.specs.Prelude.{Contains, slice_get}
use Rattle.std.specs.Borrow.{Bor}
use Rattle.std.proofs.lemmas.Option.{none-some, same_Some}
use Rattle.bundle_rules.specs.Bundle
use Rattle.bundle_rules.specs.Bundle.{Cause, AsModule, IsDue, IsUsed}
use Rattle.bundle_rules.specs.Entries.{Taken, Named, Whole}
use Rattle.bundle_rules.specs.Nodes.{Text}
use Rattle.bundle_rules.specs.Program.{Program, IsReached}
use Rattle.bundle_rules.specs.Idents.{Ident}
use Rattle.bundle_rules.specs.Linking as l
use Rattle.bundle_rules.specs.Meaning as m
use Rattle.bundle_link_index.proofs.ProgramLemmas.{got as there-place}
use Rattle.bundle_link_targets.proofs.CalledLemmas.{externals-used}
use Rattle.bundle_merge_theory.specs.planned.Decided.{numbers_from}
use Rattle.bundle_merge_theory.proofs.planned.CountLemmas.{due-helps, due-namespace, due-whole}
use Rattle.bundle_merge_theory.proofs.planned.RequestLemmas.{meant-reached}
use Rattle.bundle_merge_theory.proofs.planned.OrderLemmas.{script-asks}
use Rattle.bundle_merge_theory.proofs.sound.Found.{from-there, there-from}
use Rattle.bundle_merge_theory.specs.made.Given.{HookAnswer, stands_written, Holder, TopOf, InsideOf, AnsweredOf, WrittenIn, NameOf, HelperParameter, HelperVariable}
use Rattle.bundle_merge_theory.specs.made.Alone
use Rattle.bundle_merge_theory.specs.made.Alone.{AddsLabel, IsHolder}
use Rattle.bundle_merge_theory.specs.planned.Counted.{sum_of}
use Rattle.bundle_merge_names.specs.declared.names.Label.{Label}
use Rattle.bundle_merge_names.specs.declared.names.BundleNames.{BundleNames}
use Rattle.bundle_merge_names.specs.declared.part.BundleInput.{BundleInput}
use Rattle.bundle_merge_names.specs.Added.{GivesNames, IsOfExternals, IsOfHelper, IsOfHelpers, IsOfLabels, IsOfLoads, IsOfModule, IsOfModules, its_load, its_loads, its_meta, its_name, its_namespace, its_parameter, its_variable, of_externals, of_helpers, of_modules, IsNamedOf, IsWhere, RefusesLabels, for_contexts, for_memory, with_taken}
use Rattle.bundle_merge_names.specs.Bundle.{AreBundleParts}
use Rattle.bundle_merge_names.specs.Named.{IsGiven, holder_of, held}
use Rattle.bundle_merge_names.proofs.LabelLemmas.{adds-on, same-held}
use Rattle.bundle_merge_names.proofs.SomeLemmas.{adds-labels, IsOfSome}
use Rattle.bundle_merge_names.specs.declared.error.MergeError.{MergeError}
use Rattle.bundle_merge_names.specs.Held
use Rattle.bundle_merge_names.specs.Held.{AreTakenByLabels, GivesName, IsHeldAs, RefusesName}
use Rattle.bundle_merge_names.specs.Inside.{AreScopesNamed, HoldsNothing}
use Rattle.bundle_merge_names.specs.Numbers.{position}
use Rattle.bundle_merge_names.specs.Refused as r
use Rattle.bundle_merge_names.specs.Refused.{AreLabels, HasAtMost, RefusesNames, TakesFew, for_labels, for_scopes}
use Rattle.bundle_merge_names.proofs.NamesLemmas.{same-labels}
use Rattle.bundle_merge_names.proofs.RefusedLemmas.{up-few}
use Rattle.bundle_merge_names.proofs.ScopeLemmas.{taken-there}
use Rattle.bundle_merge_names.specs.declared.names.Label.TheVariants as n

-- ---- due

-- a holder that some label stands for
abbrev IsLabelled : Holder → Type 0
IsLabelled (TopOf k) = ⊥
IsLabelled (InsideOf k begins) = ⊥
IsLabelled (AnsweredOf k begins) = ⊥
IsLabelled (WrittenIn k ctxt) = ⊥
IsLabelled (NameOf label) = Unit {0}
IsLabelled HelperParameter = Unit {0}
IsLabelled HelperVariable = Unit {0}

labelled : (label : Label) → IsLabelled (holder_of label)
labelled (n.Of t) = tt
labelled (n.Load c) = tt
labelled (n.Meta k) = tt
labelled n.Helper = tt
labelled n.HelperParameter = tt
labelled n.HelperVariable = tt

-- the modules by their places are those that are reached
listed : (p : Program) (list : List ℕ) (answers : ℕ → Option HookAnswer) (bundle : BundleInput) → AreBundleParts p list answers bundle → (k : ℕ) → Contains list k ↔ IsReached p k
listed p list answers bundle parts k = (
  λ there.
      let below = from-there zero count k (subst (λ l. Contains l k) parts.places there) in
      (parts.reached k).1 (omega (arith, below)),
  λ reached.
      let below = (parts.reached k).0 reached in
      let same : zero + k ≡ k = omega arith in
      subst (λ l. Contains l k) (sym parts.places) (subst (Contains (numbers_from zero count)) same (there-from zero count k below)),
)
  where
    count : ℕ
    count = length bundle.parts.now

module _ (p : Program) (list : List ℕ) (answers : ℕ → Option HookAnswer) (has : (k : ℕ) → Contains list k ↔ IsReached p k) where
  -- ---- what gets a name has a context
  external-holder : (s : Text) (its : Taken) → IsUsed p s → m.IsMeant p (m.Of (l.External s its)) → IsHolder p answers (NameOf (m.Of (l.External s its)))
  external-holder s (Named x) used means = Alone.added (Bundle.ImportsNames s) (Bundle.imports_names used means) (Alone.imports_name means)
  external-holder s Whole used means = Alone.added (Bundle.ImportsWhole s) (Bundle.imports_whole used means) Alone.imports_whole

  helper-holder : (c : ℕ) {holder : Holder} → IsReached p c → l.IsCommonJs p c → IsOfHelper holder → IsHolder p answers holder
  helper-holder c reached cjs its_name = Alone.added Bundle.Helps (Bundle.helps reached cjs) Alone.helps
  helper-holder c reached cjs its_parameter = Alone.parameter c reached cjs
  helper-holder c reached cjs its_variable = Alone.variable c reached cjs

  loads-holder : (k : ℕ) (holder : Holder) → IsReached p k → IsOfLoads p k holder → IsHolder p answers holder
  loads-holder k holder reached is = subst (IsHolder p answers) (sym is.is) (Alone.added (Bundle.Loads k is.c) (Bundle.loads reached (λ cjs. script-asks p k cjs is.asked.specifier is.asked.asks) is.asked) (Alone.loads is.meant))

  module-holder : (k : ℕ) (holder : Holder) → IsReached p k → IsOfModule p k holder → IsHolder p answers holder
  module-holder k holder reached (its_load is) = subst (IsHolder p answers) (sym is.is) (Alone.added (Bundle.Defines k) (Bundle.defines reached is.so) Alone.defines)
  module-holder k holder reached (its_meta is) = subst (IsHolder p answers) (sym is.is) (Alone.added (Bundle.HoldsMeta k) (Bundle.holds_meta reached is.so) Alone.holds_meta)
  module-holder k holder reached (its_loads is) = loads-holder k holder reached is
  module-holder k holder reached (its_namespace is) = subst (IsHolder p answers) (sym is.is) (Alone.added (Bundle.HoldsNamespace k) (Bundle.holds_namespace is.so) Alone.holds_namespace)

  labels-to : (holder : Holder) → IsOfLabels p list holder → IsHolder p answers holder
  labels-to holder (of_externals is) = subst (IsHolder p answers) (sym is.is) (external-holder is.specifier is.its ((externals-used p list has is.specifier).0 is.asked) is.meant)
  labels-to holder (of_helpers is) = helper-holder is.c is.reached is.common_js is.its
  labels-to holder (of_modules is) = module-holder is.k holder is.reached is.its

  -- ---- what has a context gets a name, if it is a label
  external-from : (s : Text) (its : Taken) → m.IsMeant p (m.Of (l.External s its)) → IsOfLabels p list (NameOf (m.Of (l.External s its)))
  external-from s its means = of_externals (record {
    specifier = s;
    its = its;
    asked = (externals-used p list has s).1 (meant-reached p means);
    meant = means;
    is = refl;
  })

  module-from : (k : ℕ) (holder : Holder) → IsReached p k → IsOfModule p k holder → IsOfLabels p list holder
  module-from k holder reached its = of_modules (record { k = k; reached = reached; its = its })

  added-from : {cause : Cause} {label : m.Label} → AddsLabel p cause label → IsDue p AsModule cause → IsOfLabels p list (NameOf label)
  added-from (Alone.imports_name {s} {x} means) due = external-from s (Named x) means
  added-from (Alone.imports_whole {s}) due = external-from s Whole (due-whole due)
  added-from Alone.helps due = let its = due-helps due in of_helpers (record { c = its.0; reached = its.1; common_js = its.2; its = its_name })
  added-from (Alone.defines {c}) (Bundle.defines reached cjs) = module-from c (NameOf (m.Load c)) reached (its_load (record { so = cjs; is = refl }))
  added-from (Alone.loads {m = k} {c = c} {its = its} means) due =
      let asks = meant-reached p means in
      module-from k (NameOf (m.Of (l.CommonJs k c its))) asks.0 (its_loads (record { c = c; its = its; asked = asks.1; meant = means; is = refl }))
  added-from (Alone.holds_meta {m = k}) (Bundle.holds_meta reached has_meta) = module-from k (NameOf (m.Meta k)) reached (its_meta (record { so = has_meta; is = refl }))
  added-from (Alone.holds_namespace {d}) due =
      let means = due-namespace due in
      module-from d (NameOf (m.Of (l.Namespace d))) (meant-reached p means) (its_namespace (record { so = means; is = refl }))

  labels-from : (holder : Holder) → IsLabelled holder → IsHolder p answers holder → IsOfLabels p list holder
  labels-from holder is_label (Alone.top_of reached) = absurd is_label
  labels-from holder is_label (Alone.inside_of kind its name i reached has_kind at) = absurd is_label
  labels-from holder is_label (Alone.answered_of properties its name i reached answered at) = absurd is_label
  labels-from holder is_label (Alone.written_in own notes properties its begins name i o reached answered at denoted is) = absurd is_label
  labels-from holder is_label (Alone.added cause due adds) = added-from adds due
  labels-from holder is_label (Alone.parameter c reached cjs) = of_helpers (record { c = c; reached = reached; common_js = cjs; its = its_parameter })
  labels-from holder is_label (Alone.variable c reached cjs) = of_helpers (record { c = c; reached = reached; common_js = cjs; its = its_variable })

-- ---- one after another
abbrev Behind : Program → (ℕ → Bool) → Holder → Type 0
Behind p written holder = IsOfHelpers p holder ⊎ IsGiven written (IsOfModules p) holder

split : (p : Program) (list : List ℕ) (written : ℕ → Bool) (holder : Holder) → IsGiven written (IsOfLabels p list) holder → IsOfExternals p list holder ⊎ Behind p written holder
split p list written holder given = by given.its
  where
    by : IsOfLabels p list holder → IsOfExternals p list holder ⊎ Behind p written holder
    by (of_externals is) = inl is
    by (of_helpers is) = inr (inl is)
    by (of_modules is) = inr (inr (record { its = is; fresh = given.fresh }))

pub external-given : (p : Program) (list : List ℕ) (written : ℕ → Bool) (holder : Holder) → IsOfExternals p list holder → IsGiven written (IsOfLabels p list) holder
external-given p list written holder is = record {
  its = of_externals is;
  fresh = λ j same. let e : NameOf (m.Of (l.External is.specifier is.its)) ≡ NameOf (m.Meta j) = sym is.is ∙ same in absurd cc;
}

helper-other : {holder : Holder} → IsOfHelper holder → (j : ℕ) → holder ≡ NameOf (m.Meta j) → ⊥
helper-other its_name j same = cc
helper-other its_parameter j same = cc
helper-other its_variable j same = cc

pub helpers-given : (p : Program) (list : List ℕ) (written : ℕ → Bool) (holder : Holder) → IsOfHelpers p holder → IsGiven written (IsOfLabels p list) holder
helpers-given p list written holder is = record {
  its = of_helpers is;
  fresh = λ j same. absurd (helper-other is.its j same);
}

pub modules-given : (p : Program) (list : List ℕ) (written : ℕ → Bool) (holder : Holder) → IsGiven written (IsOfModules p) holder → IsGiven written (IsOfLabels p list) holder
modules-given p list written holder is = record { its = of_modules is.its; fresh = is.fresh }

behind : (p : Program) (list : List ℕ) (written : ℕ → Bool) (holder : Holder) → Behind p written holder → IsGiven written (IsOfLabels p list) holder
behind p list written holder (inl is) = helpers-given p list written holder is
behind p list written holder (inr is) = modules-given p list written holder is

-- a label that gets a name is one of those
pub label-given : (p : Program) (list : List ℕ) (answers : ℕ → Option HookAnswer) (bundle : BundleInput) → AreBundleParts p list answers bundle → (label : Label) → IsGiven (λ k. stands_written (answers k)) (IsHolder p answers) (holder_of label) → IsGiven (λ k. stands_written (answers k)) (IsOfLabels p list) (holder_of label)
label-given p list answers bundle parts label given = record {
  its = labels-from p list answers (listed p list answers bundle parts) (holder_of label) (labelled label) given.its;
  fresh = given.fresh;
}

-- names for externals, then the helper, then the modules are names for all labels that have a context
pub adds-all : (p : Program) (list : List ℕ) (answers : ℕ → Option HookAnswer) (bundle : BundleInput) → AreBundleParts p list answers bundle → (first second third fourth : BundleNames)
    → GivesNames p list (IsOfExternals p list) first second
    → GivesNames p list (IsOfHelpers p) second third
    → GivesNames p list (IsGiven (λ k. stands_written (answers k)) (IsOfModules p)) third fourth
    → GivesNames p list (IsGiven (λ k. stands_written (answers k)) (IsHolder p answers)) first fourth
adds-all p list answers bundle parts first second third fourth externals_too helpers_too modules_too =
    let has = listed p list answers bundle parts in
    let written : ℕ → Bool = λ k. stands_written (answers k) in
    adds-labels p list (IsGiven written (IsOfLabels p list)) (IsGiven written (IsHolder p answers)) first fourth
    (λ label given. record { its = labels-to p list answers has (holder_of label) given.its; fresh = given.fresh })
    (label-given p list answers bundle parts)
    (adds-on p list (IsOfExternals p list) (Behind p written) (IsGiven written (IsOfLabels p list)) first second fourth (split p list written) (external-given p list written) (behind p list written) externals_too
    (adds-on p list (IsOfHelpers p) (IsGiven written (IsOfModules p)) (Behind p written) second third fourth (λ holder its. its) (λ holder its. inl its) (λ holder its. inr its) helpers_too modules_too))

-- ---- lack

-- one label
pub refuses-one : (label : Label) (old : BundleNames) (refusal : MergeError) → RefusesName label old refusal → RefusesLabels (λ holder. holder ≡ holder_of label) old refusal
refuses-one label old _ Held.for_memory = for_memory
refuses-one label old _ (Held.for_contexts none full) = for_contexts old (record {
  label = label;
  due = refl;
  none = none;
  full = full;
  others = λ other ident at. inl at;
  later = omega arith;
  all_so = λ from are. are;
})

-- more labels than those
pub refuses-like : (These Those : Holder → Type 0) (old : BundleNames) (refusal : MergeError) → ((holder : Holder) → These holder → Those holder) → RefusesLabels These old refusal → RefusesLabels Those old refusal
refuses-like These Those old _ to for_memory = for_memory
refuses-like These Those old _ to (for_contexts last used) = for_contexts last (record {
  label = used.label;
  due = to (holder_of used.label) used.due;
  none = used.none;
  full = used.full;
  others = λ other ident at. elim (used.others other ident at) [ inl was ↦ inl was | inr its ↦ inr (to (holder_of other) its) ];
  later = used.later;
  all_so = used.all_so;
})

-- after names were given to some of them
refuses-later : (Those : Holder → Type 0) (a b : BundleNames) (refusal : MergeError)
    → ((other : Label) (ident : Ident) → held b other ≡ Some ident → (held a other ≡ Some ident) ⊎ Those (holder_of other))
    → position a.contexts ≤ position b.contexts
    → ((from : ℕ) → AreTakenByLabels from a → AreTakenByLabels from b)
    → RefusesLabels Those b refusal
    → RefusesLabels Those a refusal
refuses-later Those a b _ others later all_so for_memory = for_memory
refuses-later Those a b _ others later all_so (for_contexts last used) = for_contexts last (record {
  label = used.label;
  due = used.due;
  none = used.none;
  full = used.full;
  others = λ other ident at. elim (used.others other ident at) [ inl was ↦ others other ident was | inr its ↦ inr its ];
  later = let high = used.later in omega (arith, later, high);
  all_so = λ from are. used.all_so from (all_so from are);
})

-- after one label got its name
pub refuses-past : (Those : Holder → Type 0) (label : Label) (symbol : Text) (a b : BundleNames) (refusal : MergeError) → Those (holder_of label) → GivesName label symbol a b → RefusesLabels Those b refusal → RefusesLabels Those a refusal
refuses-past Those label symbol a b refusal its gives refuses = refuses-later Those a b refusal
    (λ other ident at. elim (gives.others other ident at) [ inl was ↦ inl was | inr same ↦ inr (subst Those (sym same.0) its) ])
    gives.later gives.all_so refuses

-- one label, where that is so
pub refuses-where : (So : Type 0) (its : Holder) (old : BundleNames) (refusal : MergeError) → So → RefusesLabels (λ holder. holder ≡ its) old refusal → RefusesLabels (IsWhere So its) old refusal
refuses-where So its old refusal so refuses = refuses-like (λ holder. holder ≡ its) (IsWhere So its) old refusal (λ holder is. record { so = so; is = is }) refuses

pub where-refused : (So : Type 0) (label : Label) (old : BundleNames) (refusal : MergeError) → So → RefusesName label old refusal → RefusesLabels (IsWhere So (holder_of label)) old refusal
where-refused So label old refusal so refuses = refuses-where So (holder_of label) old refusal so (refuses-one label old refusal refuses)

module _ (p : Program) (list : List ℕ) where
  -- after some of them got theirs
  pub refuses-after : (These Those : Holder → Type 0) (a b : BundleNames) (refusal : MergeError) → ((holder : Holder) → These holder → Those holder) → GivesNames p list These a b → RefusesLabels Those b refusal → RefusesLabels Those a refusal
  refuses-after These Those a b refusal to adds refuses = refuses-later Those a b refusal
      (λ other ident at. elim (adds.others other ident at) [ inl was ↦ inl was | inr its ↦ inr (to (holder_of other) its.0) ])
      adds.later adds.all_so refuses

  -- after those before one in a list got theirs
  pub some-refused : {A : Type 0} (Of : ℕ → A → Holder → Type 0) (xs : List A) (i : ℕ) (x : A) (a b : BundleNames) (refusal : MergeError)
      → slice_get xs i ≡ Some x
      → GivesNames p list (IsOfSome Of (take i xs)) a b
      → RefusesLabels (Of i x) b refusal
      → RefusesLabels (IsOfSome Of xs) a refusal
  some-refused Of xs i x a b refusal at adds refuses = refuses-after (IsOfSome Of (take i xs)) (IsOfSome Of xs) a b refusal
      (λ holder is. record { i = is.i; x = is.x; there = taken-there xs i is.i is.x is.there; is = is.is }) adds
      (refuses-like (Of i x) (IsOfSome Of xs) b refusal (λ holder is. record { i = i; x = x; there = at; is = is }) refuses)

  -- the same of names
  pub named-refused : (base : l.Target) (its : List (Bor Text)) (i : ℕ) (name : Bor Text) (t : l.Target) (a b : BundleNames) (refusal : MergeError)
      → slice_get its i ≡ Some name
      → t ≡ with_taken base (Named name.now)
      → GivesNames p list (IsNamedOf base (take i its)) a b
      → RefusesLabels (λ holder. holder ≡ NameOf (m.Of t)) b refusal
      → RefusesLabels (IsNamedOf base its) a refusal
  named-refused base its i name t a b refusal at same adds refuses = refuses-after (IsNamedOf base (take i its)) (IsNamedOf base its) a b refusal
      (λ holder is. record { name = is.name; i = is.i; there = taken-there its i is.i is.name is.there; is = is.is }) adds
      (refuses-like (λ holder. holder ≡ NameOf (m.Of t)) (IsNamedOf base its) b refusal (λ holder is. record { name = name; i = i; there = at; is = is ∙ ap (λ u. NameOf (m.Of u)) same }) refuses)

-- ---- the labels that have the contexts of a range
record HaveContexts (names : BundleNames) (from count : ℕ) : Type 0 where
  pub holders : List Holder
  pub long : length holders ≡ count
  pub at : (i : ℕ) (holder : Holder) →
      slice_get holders i ≡ Some holder →
      (one : IsHeldAs names (from + i)) × (holder_of one.label ≡ holder)

one-more : (names : BundleNames) (from count : ℕ) → IsHeldAs names from → HaveContexts names (suc from) count → HaveContexts names from (suc count)
one-more names from count first rest = record { holders = holder_of first.label ∷ rest.holders; long = ap suc rest.long; at = at }
  where
    at : (i : ℕ) (holder : Holder) → slice_get (holder_of first.label ∷ rest.holders) i ≡ Some holder → (one : IsHeldAs names (from + i)) × (holder_of one.label ≡ holder)
    at zero holder is =
        let here : from ≡ from + 0 = omega arith in
        (record { label = first.label; ident = first.ident; there = first.there; is = first.is ∙ here }, same_Some (holder_of first.label) holder is)
    at (suc i) holder is =
        let one = rest.at i holder is in
        let next : suc from + i ≡ from + suc i = omega arith in
        (record { label = one.0.label; ident = one.0.ident; there = one.0.there; is = one.0.is ∙ next }, one.1)

have-contexts : (names : BundleNames) (count from : ℕ) → ((c : ℕ) → from ≤ c → c < from + count → IsHeldAs names c) → HaveContexts names from count
have-contexts names zero from each = record { holders = []; long = refl; at = λ i holder is. absurd (none-some holder is) }
have-contexts names (suc count) from each =
    one-more names from count (each from (omega arith) (omega arith))
    (have-contexts names count (suc from) (λ c low high. each c (omega (arith, low)) (omega (arith, high))))

-- they are different
once : (names : BundleNames) (from count : ℕ) (have : HaveContexts names from count) (i j : ℕ) (holder : Holder) → slice_get have.holders i ≡ Some holder → slice_get have.holders j ≡ Some holder → i ≡ j
once names from count have i j holder at_i at_j =
    let a = have.at i holder at_i in
    let b = have.at j holder at_j in
    let ident : a.0.ident ≡ b.0.ident = same_Some a.0.ident b.0.ident (sym a.0.there ∙ same-held names a.0.label b.0.label (a.1 ∙ sym b.1) ∙ b.0.there) in
    let context : from + i ≡ from + j = sym a.0.is ∙ ap (λ (x : Ident). x.1) ident ∙ b.0.is in
    omega (arith, context)

module _ (p : Program) (list : List ℕ) (answers : ℕ → Option HookAnswer) (bundle : BundleInput) (parts : AreBundleParts p list answers bundle)
    (old before : BundleNames) (nothing : HoldsNothing bundle old) (named : AreScopesNamed bundle before (length bundle.parts.now)) (labels : before.labels ≡ old.labels) where
  none-held : (label : Label) (ident : Ident) → held before label ≡ Some ident → ⊥
  none-held label ident at = none-some ident (sym (same-labels before old labels label ∙ nothing.labels label) ∙ at)

  -- a label that gets a name
  abbrev Gets : Holder → Type 0
  Gets holder = IsGiven (λ j. stands_written (answers j)) (IsOfLabels p list) holder

  -- what was given since, each to a label
  module _ (last : BundleNames)
      (others : (other : Label) (ident : Ident) → held last other ≡ Some ident → (held before other ≡ Some ident) ⊎ Gets (holder_of other))
      (later : position before.contexts ≤ position last.contexts)
      (all_so : (from : ℕ) → AreTakenByLabels from before → AreTakenByLabels from last) where
    abbrev count : ℕ
    count = position last.contexts - position before.contexts

    all : AreTakenByLabels (position before.contexts) last
    all = all_so (position before.contexts) (record { each = λ c low high. absurd (omega (arith, low, high)) })

    have : HaveContexts last (position before.contexts) count
    have = have-contexts last count (position before.contexts) (λ c low high. all.each c low (omega (arith, high, later)))

    are-labels : AreLabels p list answers have.holders
    are-labels = record { each = each; once = once last (position before.contexts) count have }
      where
        each : (holder : Holder) → Contains have.holders holder → Gets holder
        each holder there =
            let at = there-place have.holders holder there in
            let one = have.at at.0 holder at.1 in
            subst Gets one.1 (elim (others one.0.label one.0.ident one.0.there) [ inl was ↦ absurd (none-held one.0.label one.0.ident was) | inr its ↦ its ])

    given-few : (most : ℕ → ℕ) → ((k : ℕ) → IsReached p k → HasAtMost p answers k (most k)) → position last.contexts ≤ position bundle.contexts + sum_of most list + length have.holders
    given-few most has =
        let few = up-few p list answers bundle parts most has (length bundle.parts.now) (position before.contexts) (omega arith) named.taken in
        let same : sum_of most list ≡ sum_of most (numbers_from 0 (length bundle.parts.now)) = ap (sum_of most) parts.places in
        let long = have.long in
        omega (arith, few, same, long, later)

    takes-few : TakesFew p list answers (position bundle.contexts) (position last.contexts)
    takes-few = record { holders = have.holders; are = are-labels; few = given-few }

  -- contexts are lacking for the labels
  pub names-refused : (refusal : MergeError) → RefusesLabels Gets before refusal → RefusesNames p list answers (position bundle.contexts) refusal
  names-refused _ for_memory = for_scopes r.for_memory
  names-refused _ (for_contexts last used) = for_labels (holder_of used.label) used.due (record {
    holders = (have last used.others used.later used.all_so).holders;
    are = are-labels last used.others used.later used.all_so;
    above = λ most has.
        let few = given-few last used.others used.later used.all_so most has in
        let full = used.full in
        omega (arith, few, full);
  })

  -- no more are given than there are bindings and labels
  pub names-few : (names : BundleNames) → GivesNames p list (IsGiven (λ j. stands_written (answers j)) (IsHolder p answers)) before names → TakesFew p list answers (position bundle.contexts) (position names.contexts)
  names-few names adds = takes-few names
      (λ other ident at. elim (adds.others other ident at) [ inl was ↦ inl was | inr its ↦ inr (label-given p list answers bundle parts other its.0) ])
      adds.later adds.all_so
