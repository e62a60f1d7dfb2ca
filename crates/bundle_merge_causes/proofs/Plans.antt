-- What is added is what a plan makes of what linking decides.
use Rattle.std.proofs.Common.{◌≡◌, ◌⊎◌, ◌↔◌, inl, ℕ, zero, suc, ◌+◌, ◌-◌, ◌<◌, Bool, true, false, ◌||◌, List, [], ◌∷◌, ◌++◌, Some, Contains, length, map, refl, sym, ap, ap₂, ◌∙◌, subst, append_assoc, append-nil, if◌then◌else◌, arith}
use Rattle.std.specs.Prelude.{IsTrue, flat_map, slice_get, unwrap_or}
use Rattle.std.specs.List.{list_any}
use Rattle.std.specs.Borrow.{Bor}
use Rattle.std.proofs.lemmas.Grind.{flat_map-append}
use Rattle.std.proofs.lemmas.List.{map-append}
use Rattle.bundle_rules.specs.Nodes.{Text}
use Rattle.bundle_rules.specs.Program.{Program, IsReached}
use Rattle.bundle_rules.specs.Linking.{IsCommonJs, HasExternalStar, Namespace}
use Rattle.bundle_rules.specs.Meaning.{Of, IsMeant}
use Rattle.bundle_rules.specs.Tables.{TellsCommonJs, TellsMeant}
use Rattle.bundle_rules.specs.Bundle.{AreLinked, Cause, Defines, Exports, Helps, HoldsMeta, HoldsNamespace, ImportsWhole, Loads, Own, Stars, externals}
use Rattle.bundle_link_index.specs.Leads.{flagged}
use Rattle.bundle_link_index.specs.declared.target.TargetRef.{TargetRef}
use Rattle.bundle_link_index.proofs.ProgramLemmas.{any_there, there_of_any}
use Rattle.bundle_link_targets.specs.Handed.{AreExternalsOf, AreLoadsIn}
use Rattle.bundle_link_targets.specs.Linked.{HandsOver, IsLinkingOf}
use Rattle.bundle_link_targets.specs.Meant.{AreModules}
use Rattle.bundle_link_targets.specs.Names.{target_pair}
use Rattle.bundle_link_targets.specs.Taken.{PicksThose}
use Rattle.bundle_link_targets.specs.declared.linking.Linking.{Linking}
use Rattle.bundle_link_targets.specs.declared.target.External.{External}
use Rattle.bundle_link_targets.specs.declared.target.Loaded.{Loaded}
use Rattle.bundle_merge_theory.specs.planned.Decided.{Decided, DecidedLoad, bare_plan, es_plan, external_plan, front_plan, module_plan, names_plan, numbers_from, object_plan, one_if}
use Rattle.bundle_merge_theory.specs.sound.Decided.{AreTablesLinked, decided_by, exports_some, external_of, has_some, load_of}
use Rattle.bundle_merge_theory.proofs.planned.RequestLemmas.{numbers-grow}
use Rattle.bundle_merge_theory.proofs.sound.Found.{common-js-same, entry-at, exports-same, externals-same, from-there, loads-same, object-same, one-answer, reached-below, stars-same, there-from}
use Rattle.bundle_merge_causes.specs.Shape.{count_in, meta_in, shape_at}
use Rattle.bundle_merge_causes.specs.Told.{es_causes, imports_of, names_import, other_import, own_causes}
use Rattle.bundle_merge_causes.specs.Planned.{Adds, decided_in, handed_plan, whole_plan}
use Rattle.bundle_merge_causes.specs.declared.shape.ModuleShape.{ModuleShape}

-- ---- externals
import-plan : (s : Text) (names : List (Bor Text)) (whole : Bool) →
    names_import s names ++ other_import s whole names
    ≡ names_plan (map (λ name. name.now) names) s
    ++ (one_if whole (ImportsWhole s) ++ bare_plan (map (λ name. name.now) names) whole s)
import-plan s [] true = refl
import-plan s [] false = refl
import-plan s (x ∷ names) true = refl
import-plan s (x ∷ names) false = refl

imports-plan : (found : List External) →
    flat_map imports_of found ≡ flat_map external_plan (map external_of found)
imports-plan [] = refl
imports-plan (e ∷ found) =
    ap₂ (λ (xs ys : List Cause). xs ++ ys) (import-plan e.specifier.now e.names.items e.whole)
    (imports-plan found)

-- ---- modules
loads-plan : (m : ℕ) (loads : List Loaded) →
    map (λ (load : Loaded). Loads m load.which) loads
    ≡ map (λ (load : DecidedLoad). Loads m load.which) (map load_of loads)
loads-plan m [] = refl
loads-plan m (load ∷ loads) = ap (λ more. Loads m load.which ∷ more) (loads-plan m loads)

-- what is added behind
behind : (old first second middle new : List Cause) → middle ≡ old ++ first → new ≡ middle ++ second →
    new ≡ old ++ (first ++ second)
behind old first second middle new one two =
    two ∙ (ap (λ xs. xs ++ second) one ∙ append_assoc old first second)

-- a statement more
pub statements-next : (m k : ℕ) (old middle new : List Cause) →
    middle ≡ old ++ map (Own m) (numbers_from zero k) → new ≡ middle ++ Own m k ∷ [] →
    new ≡ old ++ map (Own m) (numbers_from zero (k + 1))
statements-next m k old middle new one two =
    let same : k + 1 ≡ suc k = omega arith in
    let its : zero + k ≡ k = omega arith in
    behind old (map (Own m) (numbers_from zero k)) (Own m k ∷ []) middle new one two
    ∙ ap (λ xs. old ++ xs)
    (ap (λ i. map (Own m) (numbers_from zero k) ++ Own m i ∷ []) (sym its)
    ∙ sym (map-append (Own m) (numbers_from zero k) ((zero + k) ∷ []))
    ∙ ap (map (Own m)) (sym (numbers-grow zero k))
    ∙ ap (λ i. map (Own m) (numbers_from zero i)) (sym same))

module _ (linking : Linking) (shapes : List ModuleShape) where
  abbrev n : ℕ
  n = length shapes

  abbrev d : Decided
  d = decided_in linking shapes []

  abbrev Tells : Program → Type 0
  Tells q = AreTablesLinked q (length shapes) linking (meta_in shapes) (count_in shapes)

  -- whether some module is CommonJS
  helper-told : (q : Program) → Tells q → (has : Bool) →
      (IsTrue has ↔ ((m : ℕ) × (m < length shapes) × IsCommonJs q m)) →
      has ≡ list_any (decided_in linking shapes []).is_common_js (decided_in linking shapes []).list
  helper-told q w has tells = one-answer has (list_any d.is_common_js d.list) tells (forth, back)
    where
      forth : list_any d.is_common_js d.list ≡ true →
          (m : ℕ) × (m < length shapes) × IsCommonJs q m
      forth is =
          let some = there_of_any d.is_common_js d.list is in
          let below : some.0 < length shapes =
          omega (arith, from-there zero (length shapes) some.0 some.1) in
          (some.0, below, (w.linked.common_js some.0).0 some.2)

      back : (m : ℕ) × (m < length shapes) × IsCommonJs q m → list_any d.is_common_js d.list ≡ true
      back (m, below, cjs) =
          let same : 0 + m ≡ m = omega arith in
          any_there d.is_common_js d.list m
          (subst (Contains (numbers_from zero (length shapes))) same
          (there-from zero (length shapes) m below)) ((w.linked.common_js m).1 cjs)

  -- in front
  pub front-told : (found : List External) (has : Bool) (old middle new : List Cause) →
      ((p : Program) (list : List ℕ) → HandsOver p list linking → AreExternalsOf p list found) →
      ((p : Program) → IsLinkingOf p linking →
      IsTrue has ↔ ((m : ℕ) × (m < length shapes) × IsCommonJs p m)) →
      middle ≡ old ++ flat_map imports_of found → new ≡ middle ++ one_if has Helps →
      Adds linking shapes (λ d. front_plan d) old new
  front-told found has old middle new externals helper one two = λ q w.
      behind old (flat_map imports_of found) (one_if has Helps) middle new one two
      ∙ ap₂ (λ (xs ys : List Cause). old ++ (xs ++ ys))
      (imports-plan found
      ∙ ap (flat_map external_plan)
      (externals-same q (length shapes) linking (meta_in shapes) (count_in shapes) w [] found
      (externals q (numbers_from zero (length shapes)) w.handed)))
      (ap (λ b. one_if b Helps) (helper-told q w has (helper q w.linked)))

  -- a module by itself
  own-plan : (q : Program) → Tells q → (m : ℕ) (shape : ModuleShape) (common : Bool)
      (loads : List Loaded) → shape ≡ shape_at shapes m → common ≡ d.is_common_js m →
      map load_of loads ≡ d.loads m → own_causes m shape common loads ≡ module_plan d m
  own-plan q w m shape common loads is same led =
      by common ∙ ap (λ b. if b then Defines m ∷ [] else es_plan d m) same
    where
      es : es_causes m shape loads ≡ es_plan d m
      es =
          ap₂ (λ (xs ys : List Cause). xs ++ ys)
          (ap (λ (s : ModuleShape). one_if s.has_import_meta (HoldsMeta m)) is)
          (ap₂ (λ (xs ys : List Cause). xs ++ ys)
          (loads-plan m loads ∙ ap (map (λ (load : DecidedLoad). Loads m load.which)) led)
          (ap (λ (s : ModuleShape). map (Own m) (numbers_from zero s.statements)) is))

      by : (b : Bool) → own_causes m shape b loads ≡ (if b then Defines m ∷ [] else es_plan d m)
      by true = refl
      by false = es

  -- and with the object of its namespace
  pub module-told : (m : ℕ) (shape : ModuleShape) (common meant : Bool) (loads : List Loaded)
      (old middle new : List Cause) → m < length shapes → shape ≡ shape_at shapes m →
      ((p : Program) → IsLinkingOf p linking → TellsCommonJs p m common) →
      ((p : Program) (list : List ℕ) → HandsOver p list linking → IsReached p m →
      AreLoadsIn p m loads) →
      ((p : Program) → IsLinkingOf p linking → AreModules p → TellsMeant p m meant) →
      middle ≡ old ++ own_causes m shape common loads →
      new ≡ middle ++ one_if meant (HoldsNamespace m) →
      Adds linking shapes (λ d. whole_plan d m) old new
  module-told m shape common meant loads old middle new below is kind load object one two = λ q w.
      let reached =
      reached-below q (length shapes) linking (meta_in shapes) (count_in shapes) w [] m below in
      behind old (own_causes m shape common loads) (one_if meant (HoldsNamespace m)) middle new one
      two
      ∙ ap₂ (λ (xs ys : List Cause). old ++ (xs ++ ys))
      (own-plan q w m shape common loads is
      (common-js-same q (length shapes) linking (meta_in shapes) (count_in shapes) w [] m common
      (kind q w.linked))
      (loads-same q (length shapes) linking (meta_in shapes) (count_in shapes) w [] m reached loads
      (load q (numbers_from zero (length shapes)) w.handed reached)))
      (ap (λ b. one_if b (HoldsNamespace m))
      (object-same q (length shapes) linking (meta_in shapes) (count_in shapes) w [] m meant
      (object q w.linked w.modules)))

  -- one module more
  pub modules-next : (m : ℕ) (old middle new : List Cause) →
      Adds linking shapes (λ d. flat_map (whole_plan d) (numbers_from zero m)) old middle →
      Adds linking shapes (λ d. whole_plan d m) middle new →
      Adds linking shapes (λ d. flat_map (whole_plan d) (numbers_from zero (m + 1))) old new
  modules-next m old middle new one two = λ q w.
      let same : m + 1 ≡ suc m = omega arith in
      let its : zero + m ≡ m = omega arith in
      behind old (flat_map (whole_plan d) (numbers_from zero m)) (whole_plan d m) middle new (one q w)
      (two q w)
      ∙ ap (λ xs. old ++ xs)
      (ap (λ xs. flat_map (whole_plan d) (numbers_from zero m) ++ xs)
      (sym (append-nil (whole_plan d m)))
      ∙ sym (flat_map-append (whole_plan d) (numbers_from zero m) (m ∷ []))
      ∙ ap (λ k. flat_map (whole_plan d) (numbers_from zero m ++ k ∷ [])) (sym its)
      ∙ ap (flat_map (whole_plan d)) (sym (numbers-grow zero m))
      ∙ ap (λ k. flat_map (whole_plan d) (numbers_from zero k)) (sym same))

  -- behind
  pub back-told : (is_call : Bool) (stars : List (Bor Text)) (names : List (Bor Text × TargetRef))
      (k : ℕ) (handed : Bool) (old middle new : List Cause) → k ≡ length shapes - 1 →
      handed ≡ (is_call || has_some names) →
      ((p : Program) (list : List ℕ) → HandsOver p list linking →
      PicksThose (HasExternalStar p p.entry) (externals p list) (map (λ star. star.now) stars)) →
      ((p : Program) → IsLinkingOf p linking → AreModules p →
      (k ≡ p.entry) ⊎ IsMeant p (Of (Namespace k)) → AreLinked p k (map target_pair names)) →
      middle ≡ old ++ map (λ star. Stars star.now) stars → new ≡ middle ++ one_if handed Exports →
      Adds linking shapes (λ d. handed_plan is_call d) old new
  back-told is_call stars names k handed old middle new last is starred linked one two = λ q w.
      let at = entry-at q (length shapes) w.list in
      let entry : k ≡ q.entry = omega (arith, at, last) in
      let its =
      subst (λ m. AreLinked q m (map target_pair names)) entry
      (linked q w.linked w.modules (inl entry)) in
      behind old (map (λ star. Stars star.now) stars) (one_if handed Exports) middle new one two
      ∙ ap₂ (λ (xs ys : List Cause). old ++ (xs ++ ys))
      (stars-plan stars
      ∙ ap (map Stars)
      (stars-same q (length shapes) linking (meta_in shapes) (count_in shapes) w []
      (map (λ star. star.now) stars)
      (starred q (numbers_from zero (length shapes)) w.handed)))
      (ap (λ b. one_if b Exports) is
      ∙ ap (λ b. one_if (is_call || b) Exports)
      (exports-same q (length shapes) linking (meta_in shapes) (count_in shapes) w [] names its))
    where
      stars-plan : (xs : List (Bor Text)) →
          map (λ (star : Bor Text). Stars star.now) xs ≡ map Stars (map (λ star. star.now) xs)
      stars-plan [] = refl
      stars-plan (x ∷ xs) = ap (λ more. Stars x.now ∷ more) (stars-plan xs)
