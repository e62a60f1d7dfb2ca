-- The plan of what is decided is chosen of the candidates, block by block.
-- What the plan injects counts to a number, and is due, each once: so it tells when contexts may
-- run out.
-- Each label that is meant and is no declaration is injected by the plan; and the plan counts to
-- enough for all of them.
use Rattle.std.proofs.Common.{◌≡◌, ◌⊎◌, inl, inr, ◌↔◌, ℕ, zero, suc, ◌+◌, ◌<◌, Bool, true, false, not, List, [], ◌∷◌, ◌++◌, Contains, length, map, refl, sym, ap, ◌∙◌, subst, if◌then◌else◌, ◌||◌, arith, Some, ◌≤◌, length-append}
use Rattle.std.specs.Prelude.{IsTrue, flat_map}
use Rattle.std.specs.List.{AllZip, list_any}
use Rattle.std.proofs.lemmas.Bool.{false≢true, and_parts}
use Rattle.std.proofs.lemmas.List.Elements.{Contains-append_cases, Contains-append_left, Contains-append_right}
use Rattle.std.proofs.lemmas.Option.{same_Some}
use Rattle.bundle_order_graph.specs.Blocks.{Members}
use Rattle.bundle_order_graph.specs.Walks.{itself}
use Rattle.bundle_rules.specs.Nodes.{Text}
use Rattle.bundle_rules.specs.Statements.{own_statements}
use Rattle.bundle_rules.specs.Entries.{has_import_meta, Whole, Taken, Named}
use Rattle.bundle_rules.specs.Program.{Program, tree_of, requested, IsReached, SharesBlock}
use Rattle.bundle_rules.specs.Linking.{IsCommonJs, Namespace, HasExternalStar, CommonJs, Target, Declared, External}
use Rattle.bundle_rules.specs.Meaning.{Of, IsMeant, Label, Load, Meta, Helper}
use Rattle.bundle_rules.specs.Bundle as bundle
use Rattle.bundle_rules.specs.Bundle.{Form, Cause, Own, ImportsNames, ImportsWhole, ImportsNothing, Helps, Defines, Loads, HoldsMeta, HoldsNamespace, Stars, Exports, IsDue, IsUsed, MeansName, MeansWhole, AsksCommonJs, Chosen, nothing, chosen, left, externals, import_causes, counted, module_causes, Hooks, form_of}
use Rattle.bundle_rules.specs.Faults
use Rattle.bundle_rules.specs.Faults.{InjectedCount, CountsTo, TreesCountTo, NeedsTooManyContexts}
use Rattle.bundle_order_sort.proofs.OnceLemmas.{InSome, AreApart, AreOnce}
use Rattle.bundle_order_sort.proofs.BlockLemmas.{blocks-apart, blocks-in, blocks-once, blocks-has, Members-has}
use Rattle.bundle_link_index.proofs.ProgramLemmas.{later, first_or_later, map_on}
use Rattle.bundle_link_index.proofs.AskedLemmas.{flat_back, flat_on}
use Rattle.bundle_link_targets.specs.Taken as picks
use Rattle.bundle_link_targets.specs.Taken.{PicksThose}
use Rattle.bundle_link_targets.proofs.ListLemmas.{first-there as here}
use Rattle.bundle_merge_theory.specs.planned.Decided as decided
use Rattle.bundle_merge_theory.specs.planned.Decided.{Decided, DecidedExternal, DecidedLoad, IsExternalDecided, IsModuleDecided, HandsOutNames, AreDecided, one_if, external_plan, numbers_from, es_plan, module_plan, object_plan, block_plan, front_plan, back_plan, DecidedBlock, IsLoadDecided, names_plan, bare_plan, merged_blocks, merged_plan}
use Rattle.bundle_merge_theory.proofs.planned.OrderLemmas.{map_back, no_element, Once, once-join, once-places, length-mapped, shares-flip, shares-join, script-asks}
use Rattle.bundle_merge_theory.proofs.planned.RequestLemmas.{list-reached, listed-used, list-once, meant-reached, used-listed}
use Rattle.bundle_merge_theory.proofs.planned.CauseLemmas.{Chosen-join, back_causes, block_causes, chosen-all, chosen-none, chosen-nothing, chosen-one, front_causes, Chosen-in, Chosen-once, back-once, back-part, block-in, block-once, front-once, front-part, part_of, once-from}
use Rattle.bundle_merge_theory.specs.planned.Counted.{sum_of, count_if, external_count, load_count, module_count, object_count, block_count, front_count, injected_count, label_if, external_labels, load_labels, module_labels, object_labels, block_labels, front_labels, injected_labels}

-- ---- what a due cause says
module _ {p : Program} {form : Form} where
  pub due-names : {s : Text} → IsDue p form (ImportsNames s) → (x : Text) × MeansName p s x
  due-names (bundle.imports_names {s} {x} used means) = (x, means)

  pub due-whole : {s : Text} → IsDue p form (ImportsWhole s) → MeansWhole p s
  due-whole (bundle.imports_whole used means) = means

  pub due-nothing : {s : Text} → IsDue p form (ImportsNothing s) →
      ((x : Text) → MeansName p s x → ⊥) × (MeansWhole p s → ⊥)
  due-nothing (bundle.imports_nothing used names whole) = (names, whole)

  pub due-helps : IsDue p form Helps → (c : ℕ) × IsReached p c × IsCommonJs p c
  due-helps (bundle.helps {c} reached cjs) = (c, reached, cjs)

  pub due-defines : {c : ℕ} → IsDue p form (Defines c) → IsCommonJs p c
  due-defines (bundle.defines reached cjs) = cjs

  pub due-loads : {m c : ℕ} → IsDue p form (Loads m c) → (IsCommonJs p m → ⊥) × AsksCommonJs p m c
  due-loads (bundle.loads reached es asks) = (es, asks)

  pub due-own : {m k : ℕ} → IsDue p form (Own m k) → IsCommonJs p m → ⊥
  due-own (bundle.own reached es l) cjs = es cjs

  pub due-meta : {m : ℕ} → IsDue p form (HoldsMeta m) → IsTrue (has_import_meta (tree_of p m))
  due-meta (bundle.holds_meta reached has) = has

  pub due-namespace : {m : ℕ} → IsDue p form (HoldsNamespace m) → IsMeant p (Of (Namespace m))
  due-namespace (bundle.holds_namespace meant) = meant

  pub due-star : {s : Text} → IsDue p form (Stars s) → HasExternalStar p p.entry s
  due-star (bundle.stars star) = star

  pub due-exports : IsDue p form Exports → HandsOutNames p form
  due-exports (bundle.exports e linked) = subst (HandsOutNames p) (sym e) (decided.exported linked)
  due-exports (bundle.returns e) = subst (HandsOutNames p) (sym e) decided.returned

pub exports-due : {p : Program} {form : Form} → HandsOutNames p form → IsDue p form Exports
exports-due (decided.exported linked) = bundle.exports refl linked
exports-due decided.returned = bundle.returns refl

-- ---- one cause, where a test says so
pub chosen-if : {Has : Cause → Type 0} (t : Bool) (c : Cause) → (IsTrue t ↔ Has c) →
    Chosen Has (c ∷ []) (one_if t c)
chosen-if true c says = chosen-one c (says.0 refl)
chosen-if false c says = chosen-none c (λ has. false≢true (says.1 has))

-- ---- externals
module _ (p : Program) (form : Form) where
  abbrev Due : Cause → Type 0
  Due c = IsDue p form c

  names-chosen : (s : Text) (names : List Text) → IsUsed p s →
      ((x : Text) → Contains names x ↔ MeansName p s x) →
      Chosen Due (ImportsNames s ∷ []) (decided.names_plan names s)
  names-chosen s [] used all =
      chosen-none (ImportsNames s) (λ due. let r = due-names due in no_element ((all r.0).1 r.1))
  names-chosen s (x ∷ rest) used all =
      chosen-one (ImportsNames s) (bundle.imports_names used ((all x).0 (here x rest)))

  bare-chosen : (s : Text) (names : List Text) (whole : Bool) → IsUsed p s →
      ((x : Text) → Contains names x ↔ MeansName p s x) → (IsTrue whole ↔ MeansWhole p s) →
      Chosen Due (ImportsNothing s ∷ []) (decided.bare_plan names whole s)
  bare-chosen s [] false used all says =
      chosen-one (ImportsNothing s)
      (bundle.imports_nothing used (λ x means. no_element ((all x).1 means))
      (λ means. false≢true (says.1 means)))
  bare-chosen s [] true used all says =
      chosen-none (ImportsNothing s) (λ due. (due-nothing due).1 (says.0 refl))
  bare-chosen s (x ∷ rest) whole used all says =
      chosen-none (ImportsNothing s) (λ due. (due-nothing due).0 x ((all x).0 (here x rest)))

  external-chosen : (e : DecidedExternal) (s : Text) → IsUsed p s → IsExternalDecided p e s →
      Chosen Due (import_causes s) (external_plan e)
  external-chosen e s used its =
      subst
      (λ t. Chosen Due (import_causes s)
      (decided.names_plan e.names t ++
      (one_if e.whole (ImportsWhole t) ++ decided.bare_plan e.names e.whole t)))
      (sym its.same)
      (Chosen-join (names-chosen s e.names used its.names.all)
      (Chosen-join (chosen-if e.whole (ImportsWhole s) ((λ t. bundle.imports_whole used (its.whole.0 t)), λ due. its.whole.1 (due-whole due)))
      (bare-chosen s e.names e.whole used its.names.all its.whole)))

  externals-chosen : (es : List DecidedExternal) (texts : List Text) →
      AllZip (IsExternalDecided p) es texts → ((s : Text) → Contains texts s → IsUsed p s) →
      Chosen Due (flat_map import_causes texts) (flat_map external_plan es)
  externals-chosen [] [] z used = nothing
  externals-chosen [] (s ∷ texts) z used = absurd z
  externals-chosen (e ∷ es) [] z used = absurd z
  externals-chosen (e ∷ es) (s ∷ texts) z used =
      Chosen-join (external-chosen e s (used s (here s texts)) z.0)
      (externals-chosen es texts z.1 (λ t c. used t (later s texts t c)))

  -- ---- the helper
  some-passes : (test : ℕ → Bool) (list : List ℕ) → list_any test list ≡ true →
      (m : ℕ) × Contains list m × (test m ≡ true)
  some-passes test [] e = absurd (false≢true e)
  some-passes test (m ∷ list) e = by (test m) refl e (some-passes test list)
    where
      by : (t : Bool) → test m ≡ t → (t || list_any test list) ≡ true →
          (list_any test list ≡ true → (n : ℕ) × Contains list n × (test n ≡ true)) →
          (n : ℕ) × Contains (m ∷ list) n × (test n ≡ true)
      by true is e ih = (m, here m list, is)
      by false is e ih = let r = ih e in (r.0, later m list r.0 r.1, r.2)

  pub passes-some : (test : ℕ → Bool) (list : List ℕ) (m : ℕ) → Contains list m → test m ≡ true →
      list_any test list ≡ true
  passes-some test [] m c e = absurd (no_element c)
  passes-some test (n ∷ list) m c e =
      by (test n) refl (first_or_later n list m c) (λ k. passes-some test list m k e)
    where
      by : (t : Bool) → test n ≡ t → (n ≡ m) ⊎ Contains list m →
          (Contains list m → list_any test list ≡ true) → (t || list_any test list) ≡ true
      by true is c ih = refl
      by false is (inl same) ih = absurd (false≢true (sym is ∙ ap test same ∙ e))
      by false is (inr k) ih = ih k

  -- ---- modules
  no-meta : (m : ℕ) → IsCommonJs p m → IsTrue (has_import_meta (tree_of p m)) → ⊥
  no-meta m cjs has = by (has_import_meta (tree_of p m)) has (and_parts _ _ cjs.script).1
    where
      by : (t : Bool) → t ≡ true → not t ≡ true → ⊥
      by true is e = false≢true e
      by false is e = false≢true is

  loads-chosen : (m : ℕ) (xs ys : List ℕ) → (IsCommonJs p m → ⊥) → IsReached p m →
      Members (AsksCommonJs p m) xs ys → Chosen Due (map (Loads m) xs) (map (Loads m) ys)
  loads-chosen m [] [] es reached Members.nothing = nothing
  loads-chosen m [] (y ∷ ys) es reached its = elim its [ ]
  loads-chosen m (x ∷ xs) (y ∷ ys) es reached (Members.kept asks more) =
      chosen (bundle.loads reached es asks) (loads-chosen m xs ys es reached more)
  loads-chosen m (x ∷ xs) ys es reached (Members.left lacks more) =
      left (λ due. lacks (due-loads due).1) (loads-chosen m xs ys es reached more)

  counts : {A : Type 0} (n : ℕ) (xs : List A) → counted n xs ≡ numbers_from n (length xs)
  counts n [] = refl
  counts n (x ∷ xs) = ap (λ (l : List ℕ). n ∷ l) (counts (suc n) xs)

  mapped : {A B C : Type 0} (f : B → C) (g : A → B) (xs : List A) →
      map f (map g xs) ≡ map (λ x. f (g x)) xs
  mapped f g [] = refl
  mapped {C = C} f g (x ∷ xs) = ap (λ (l : List C). f (g x) ∷ l) (mapped f g xs)

  own-in : {A : Type 0} (m n : ℕ) (xs : List A) (c : Cause) →
      Contains (map (Own m) (counted n xs)) c → (k : ℕ) × (k < n + length xs) × (Own m k ≡ c)
  own-in m n [] c there = absurd (no_element there)
  own-in m n (x ∷ xs) c there = elim (first_or_later (Own m n) (map (Own m) (counted (suc n) xs)) c there) [
    | inl e ↦ (n, omega arith, e)
    | inr rest ↦ let r = own-in m (suc n) xs c rest in let l = r.1 in (r.0, omega (arith, l), r.2)
  ]

  module _ (d : Decided) (m : ℕ) (its : IsModuleDecided p d m) (reached : IsReached p m) where
    es-chosen : (IsCommonJs p m → ⊥) → Chosen Due (module_causes p m) (es_plan d m)
    es-chosen es =
        left (λ due. es (due-defines due))
        (Chosen-join (chosen-if (d.has_meta m) (HoldsMeta m) ((λ t. bundle.holds_meta reached (sym its.meta ∙ t)), λ due. its.meta ∙ due-meta due))
        (Chosen-join
        (subst (Chosen Due (map (Loads m) (requested p m)))
        (mapped (Loads m) (λ (load : DecidedLoad). load.which) (d.loads m))
        (loads-chosen m (requested p m)
        (map (λ (load : DecidedLoad). load.which) (d.loads m)) es reached
        (its.loads es)))
        (subst (λ (l : List ℕ). Chosen Due (map (Own m) (counted zero (own_statements (tree_of p m)))) (map (Own m) l)) (counts zero (own_statements (tree_of p m)) ∙ ap (numbers_from zero) (sym its.statements))
        (chosen-all (map (Own m) (counted zero (own_statements (tree_of p m)))) (λ c there. let r = own-in m zero (own_statements (tree_of p m)) c there in let l = r.1 in subst Due r.2 (bundle.own reached es (omega (arith, l))))))))

    cjs-chosen : IsCommonJs p m → Chosen Due (module_causes p m) (Defines m ∷ [])
    cjs-chosen cjs =
        chosen (bundle.defines reached cjs)
        (left (λ due. no-meta m cjs (due-meta due))
        (Chosen-join {ys = []} (chosen-nothing (map (Loads m) (requested p m)) (λ c there due. let r = map_back (Loads m) (requested p m) c there in (due-loads (subst Due (sym r.2) due)).0 cjs))
        (chosen-nothing (map (Own m) (counted zero (own_statements (tree_of p m)))) (λ c there due. let r = map_back (Own m) (counted zero (own_statements (tree_of p m))) c there in due-own (subst Due (sym r.2) due) cjs))))

    pub module-chosen : Chosen Due (module_causes p m) (module_plan d m)
    module-chosen = by (d.is_common_js m) its.common_js
      where
        by : (t : Bool) → (IsTrue t ↔ IsCommonJs p m) →
            Chosen Due (module_causes p m) (if t then Defines m ∷ [] else es_plan d m)
        by true says = cjs-chosen (says.0 refl)
        by false says = es-chosen (λ cjs. false≢true (says.1 cjs))

    pub object-chosen : Chosen Due (HoldsNamespace m ∷ []) (object_plan d m)
    object-chosen =
        chosen-if (d.is_object_meant m) (HoldsNamespace m)
        ((λ t. bundle.holds_namespace (its.object.0 t)), λ due. its.object.1 (due-namespace due))

  -- ---- blocks
  module _ (d : Decided) where
    abbrev Decides : List ℕ → Type 0
    Decides members = (m : ℕ) → Contains members m → IsModuleDecided p d m × IsReached p m

    modules-chosen : (members : List ℕ) → Decides members →
        Chosen Due (flat_map (module_causes p) members) (flat_map (module_plan d) members)
    modules-chosen [] all = nothing
    modules-chosen (m ∷ members) all =
        let its = all m (here m members) in
        Chosen-join (module-chosen d m its.0 its.1)
        (modules-chosen members (λ n c. all n (later m members n c)))

    objects-chosen : (members : List ℕ) → Decides members →
        Chosen Due (map HoldsNamespace members) (flat_map (object_plan d) members)
    objects-chosen [] all = nothing
    objects-chosen (m ∷ members) all =
        let its = all m (here m members) in
        Chosen-join (object-chosen d m its.0 its.1)
        (objects-chosen members (λ n c. all n (later m members n c)))

    -- a block has of its candidates those that are due
    pub block-chosen : (members : List ℕ) → Decides members →
        Chosen Due (block_causes p members) (block_plan d members)
    block-chosen members all = Chosen-join (modules-chosen members all) (objects-chosen members all)

  -- ---- the whole
  starred-chosen : (xs ys : List Text) → PicksThose (HasExternalStar p p.entry) xs ys →
      Chosen Due (map Stars xs) (map Stars ys)
  starred-chosen [] [] picks.nothing = nothing
  starred-chosen [] (y ∷ ys) its = elim its [ ]
  starred-chosen (x ∷ xs) (y ∷ ys) (picks.picked star more) =
      chosen (bundle.stars star) (starred-chosen xs ys more)
  starred-chosen (x ∷ xs) ys (picks.left lacks more) =
      left (λ due. lacks (due-star due)) (starred-chosen xs ys more)

  module _ (d : Decided) (its : AreDecided p form d) where
    -- in front and behind too
    pub front-chosen : Chosen Due (front_causes p d.list) (front_plan d)
    front-chosen =
        Chosen-join
        (externals-chosen d.externals (externals p d.list) its.outside
        (listed-used p d.list its.list))
        (chosen-if (list_any d.is_common_js d.list) Helps (
          λ t.
              (let r = some-passes d.is_common_js d.list t in
              bundle.helps ((list-reached p d.list its.list r.0).0 r.1)
              ((its.modules r.0 r.1).common_js.0 r.2)),
          λ due.
              (let r = due-helps due in
              let c = (list-reached p d.list its.list r.0).1 r.1 in
              passes-some d.is_common_js d.list r.0 c ((its.modules r.0 c).common_js.1 r.2)),
        ))

    pub back-chosen : Chosen Due (back_causes p d.list) (back_plan d)
    back-chosen =
        Chosen-join (starred-chosen (externals p d.list) d.stars its.starred)
        (chosen-if d.exports Exports
        ((λ t. exports-due (its.exports.0 t)), λ due. its.exports.1 (due-exports due)))

-- ---- counts
module _ (p : Program) where
  counts-same : {causes : List Cause} {a b : ℕ} → a ≡ b → CountsTo p causes a → CountsTo p causes b
  counts-same {causes = causes} e c = subst (CountsTo p causes) e c

  counts-join : {xs ys : List Cause} {a b : ℕ} → CountsTo p xs a → CountsTo p ys b →
      CountsTo p (xs ++ ys) (a + b)
  counts-join {b = b} Faults.nothing d = let e : b ≡ 0 + b = omega arith in counts-same e d
  counts-join {b = b} (Faults.counted {n = n} {more = more} one rest) d =
      let e : n + (more + b) ≡ n + more + b = omega arith in
      counts-same e (Faults.counted one (counts-join rest d))
  counts-join (Faults.other none rest) d = Faults.other none (counts-join rest d)

  counts-one : {cause : Cause} {n : ℕ} → InjectedCount p cause n → CountsTo p (cause ∷ []) n
  counts-one {n = n} c = let e : n + 0 ≡ n = omega arith in counts-same e (Faults.counted c Faults.nothing)

  counts-flat : {A : Type 0} (g : A → List Cause) (n : A → ℕ) (xs : List A) →
      ((x : A) → Contains xs x → CountsTo p (g x) (n x)) → CountsTo p (flat_map g xs) (sum_of n xs)
  counts-flat g n [] each = Faults.nothing
  counts-flat g n (x ∷ xs) each =
      counts-join (each x (here x xs)) (counts-flat g n xs (λ y c. each y (later x xs y c)))

  counts-none : (xs : List Cause) →
      ((c : Cause) (n : ℕ) → Contains xs c → InjectedCount p c n → ⊥) → CountsTo p xs 0
  counts-none [] none = Faults.nothing
  counts-none (x ∷ xs) none =
      Faults.other (λ n c. none x n (here x xs) c) (counts-none xs (λ c n d. none c n (later x xs c d)))

  counts-if : (t : Bool) {cause : Cause} {n : ℕ} → InjectedCount p cause n →
      CountsTo p (one_if t cause) (count_if t n)
  counts-if true c = counts-one c
  counts-if false c = Faults.nothing

  no-own : {m k n : ℕ} → InjectedCount p (Own m k) n → ⊥
  no-own c = elim c [ ]

  no-bare : {s : Text} {n : ℕ} → InjectedCount p (ImportsNothing s) n → ⊥
  no-bare c = elim c [ ]

  no-star : {s : Text} {n : ℕ} → InjectedCount p (Stars s) n → ⊥
  no-star c = elim c [ ]

  no-exports : {n : ℕ} → InjectedCount p Exports n → ⊥
  no-exports c = elim c [ ]

  bare-counts : (names : List Text) (whole : Bool) (s : Text) →
      CountsTo p (bare_plan names whole s) 0
  bare-counts [] false s = Faults.other (λ n c. no-bare c) Faults.nothing
  bare-counts [] true s = Faults.nothing
  bare-counts (x ∷ names) whole s = Faults.nothing

  names-counts : (names : List Text) (s : Text) →
      Rattle.bundle_rules.specs.Bundle.AreNames (Rattle.bundle_rules.specs.Bundle.MeansName p s)
      names → CountsTo p (names_plan names s) (length names)
  names-counts [] s are = Faults.nothing
  names-counts (x ∷ names) s are = counts-one (Faults.names (x ∷ names) are)

  external-counts : (e : DecidedExternal) (s : Text) → IsExternalDecided p e s →
      CountsTo p (external_plan e) (external_count e)
  external-counts e s its =
      let are =
      subst
      (λ t. Rattle.bundle_rules.specs.Bundle.AreNames
      (Rattle.bundle_rules.specs.Bundle.MeansName p t) e.names) (sym its.same)
      its.names in
      let zero_n : length e.names + (count_if e.whole 1 + 0) ≡ external_count e = omega arith in
      counts-same zero_n
      (counts-join (names-counts e.names e.specifier are)
      (counts-join (counts-if e.whole Faults.whole) (bare-counts e.names e.whole e.specifier)))

  externals-count : (es : List DecidedExternal) (texts : List Text) →
      AllZip (IsExternalDecided p) es texts →
      CountsTo p (flat_map external_plan es) (sum_of external_count es)
  externals-count [] texts z = Faults.nothing
  externals-count (e ∷ es) [] z = absurd z
  externals-count (e ∷ es) (s ∷ texts) z =
      counts-join (external-counts e s z.0) (externals-count es texts z.1)

  load-counts : (m : ℕ) (load : DecidedLoad) → IsLoadDecided p m load →
      CountsTo p (Loads m load.which ∷ []) (load_count load)
  load-counts m load its = by load.whole its.whole
    where
      by : (t : Bool) → (IsTrue t ↔ IsMeant p (Of (CommonJs m load.which Whole))) →
          CountsTo p (Loads m load.which ∷ []) (length load.names + count_if t 1)
      by true says = counts-one (Faults.loads_whole load.names its.names (says.0 refl))
      by false says =
          let e : length load.names ≡ length load.names + 0 = omega arith in
          counts-same e
          (counts-one (Faults.loads load.names its.names (λ means. false≢true (says.1 means))))

  loads-count : (m : ℕ) (loads : List DecidedLoad) →
      ((load : DecidedLoad) → Contains loads load → IsLoadDecided p m load) →
      CountsTo p (map (λ (load : DecidedLoad). Loads m load.which) loads)
      (sum_of load_count loads)
  loads-count m [] each = Faults.nothing
  loads-count m (load ∷ loads) each =
      counts-join (load-counts m load (each load (here load loads)))
      (loads-count m loads (λ l c. each l (later load loads l c)))

  module _ (d : Decided) where
    own-none : (m : ℕ) (ks : List ℕ) (c : Cause) (n : ℕ) → Contains (map (Own m) ks) c →
        InjectedCount p c n → ⊥
    own-none m [] c n there i = no_element there
    own-none m (k ∷ ks) c n there i = elim (first_or_later (Own m k) (map (Own m) ks) c there) [
      | inl e ↦ no-own (subst (λ c. InjectedCount p c n) (sym e) i)
      | inr rest ↦ own-none m ks c n rest i
    ]

    module-counts : (m : ℕ) → IsModuleDecided p d m →
        CountsTo p (module_plan d m) (module_count d m)
    module-counts m its = by (d.is_common_js m)
      where
        es : CountsTo p (es_plan d m) (count_if (d.has_meta m) 1 + sum_of load_count (d.loads m))
        es =
            let zero_n : count_if (d.has_meta m) 1 + (sum_of load_count (d.loads m) + 0) ≡ count_if
            (d.has_meta m) 1 + sum_of load_count (d.loads m) =
            omega arith in
            counts-same zero_n
            (counts-join (counts-if (d.has_meta m) Faults.meta)
            (counts-join (loads-count m (d.loads m) its.taken)
            (counts-none (map (Own m) (numbers_from zero (d.statements m)))
            (λ c n. own-none m (numbers_from zero (d.statements m)) c n))))

        by : (t : Bool) →
            CountsTo p (if t then Defines m ∷ [] else es_plan d m)
            (if t then 1 else count_if (d.has_meta m) 1 + sum_of load_count (d.loads m))
        by true = counts-one Faults.load_function
        by false = es

    object-counts : (m : ℕ) → CountsTo p (object_plan d m) (object_count d m)
    object-counts m = counts-if (d.is_object_meant m) Faults.namespace

    block-counts : (block : DecidedBlock) →
        ((m : ℕ) → Contains block.modules m → IsModuleDecided p d m) →
        CountsTo p (block_plan d block.modules) (block_count d block)
    block-counts block each =
        counts-join
        (counts-flat (module_plan d) (module_count d) block.modules
        (λ m c. module-counts m (each m c)))
        (counts-flat (object_plan d) (object_count d) block.modules (λ m c. object-counts m))

    stars-none : (stars : List Text) (c : Cause) (n : ℕ) → Contains (map Stars stars) c →
        InjectedCount p c n → ⊥
    stars-none [] c n there i = no_element there
    stars-none (s ∷ stars) c n there i = elim (first_or_later (Stars s) (map Stars stars) c there) [
      | inl e ↦ no-star (subst (λ c. InjectedCount p c n) (sym e) i)
      | inr rest ↦ stars-none stars c n rest i
    ]

    exports-none : (t : Bool) → CountsTo p (one_if t Exports) 0
    exports-none true = Faults.other (λ n c. no-exports c) Faults.nothing
    exports-none false = Faults.nothing

    back-counts : CountsTo p (back_plan d) 0
    back-counts =
        counts-join (counts-none (map Stars d.stars) (λ c n. stars-none d.stars c n))
        (exports-none d.exports)

-- ---- blocks of what is decided
module _ (p : Program) (form : Form) (d : Decided) (its : AreDecided p form d) where
  abbrev members_of : DecidedBlock → List ℕ
  members_of block = block.modules

  pub of-blocks : (blocks : List DecidedBlock) (block : DecidedBlock) → Contains blocks block →
      (m : ℕ) → Contains block.modules m → InSome (map members_of blocks) m
  of-blocks [] block c m e = absurd (no_element c)
  of-blocks (first ∷ blocks) block c m e = elim (first_or_later first blocks block c) [
    | inl k ↦ inl (subst (λ (b : DecidedBlock). Contains b.modules m) (sym k) e)
    | inr k ↦ inr (of-blocks blocks block k m e)
  ]

  pub block-listed : (block : DecidedBlock) → Contains d.blocks block → (m : ℕ) →
      Contains block.modules m → Contains d.list m
  block-listed block c m e =
      (blocks-in (SharesBlock p) (shares-flip p) (shares-join p) d.list d.list (map members_of d.blocks) its.blocks m (of-blocks d.blocks block c m e)).2

  -- the plan counts to what is told of it
  pub plan-counts : CountsTo p (merged_plan d) (injected_count d)
  plan-counts =
      let zero_n : front_count d + (sum_of (block_count d) d.blocks + 0) ≡ injected_count d =
      omega arith in
      counts-same p zero_n
      (counts-join p (counts-join p (externals-count p d.externals (externals p d.list) its.outside) (counts-if p (list_any d.is_common_js d.list) Faults.helper))
      (counts-join p (counts-flat p (λ (block : DecidedBlock). block_plan d block.modules) (block_count d) d.blocks (λ block c. block-counts p d block (λ m e. its.modules m (block-listed block c m e))))
      (back-counts p d)))

  -- ---- the candidates
  abbrev all_blocks : List DecidedBlock → List Cause
  all_blocks blocks = flat_map (λ (block : DecidedBlock). block_causes p block.modules) blocks

  blocks-chosen : (blocks : List DecidedBlock) →
      ((block : DecidedBlock) → Contains blocks block → (m : ℕ) → Contains block.modules m →
      IsModuleDecided p d m × IsReached p m) →
      Chosen (IsDue p form) (all_blocks blocks) (merged_blocks d blocks)
  blocks-chosen [] each = nothing
  blocks-chosen (block ∷ blocks) each =
      Chosen-join (block-chosen p form d block.modules (each block (here block blocks)))
      (blocks-chosen blocks (λ b c. each b (later block blocks b c)))

  pub merged-chosen : Chosen (IsDue p form)
      (front_causes p d.list ++ (all_blocks d.blocks ++ back_causes p d.list)) (merged_plan d)
  merged-chosen =
      Chosen-join (front-chosen p form d its)
      (Chosen-join
      (blocks-chosen d.blocks
      (λ block c m e. let l = block-listed block c m e in
      (its.modules m l, (list-reached p d.list its.list m).0 l)))
      (back-chosen p form d its))

  in-block : (blocks : List DecidedBlock) (c : Cause) → Contains (all_blocks blocks) c →
      (part_of c ≡ 1)
      × ((m : ℕ) × InSome (map members_of blocks) m ×
      (Rattle.bundle_merge_theory.proofs.planned.CauseLemmas.module_of_cause c ≡ Some m))
  in-block blocks c e =
      let r = flat_back (λ (block : DecidedBlock). block_causes p block.modules) blocks c e in
      let k = block-in p r.0.modules c r.2 in
      (k.0, (k.1.0, of-blocks blocks r.0 r.1 k.1.0 k.1.1, k.1.2))

  blocks-once-causes : (blocks : List DecidedBlock) → AreOnce (map members_of blocks) →
      AreApart (map members_of blocks) → Once (all_blocks blocks)
  blocks-once-causes [] once apart = tt
  blocks-once-causes (block ∷ blocks) once apart =
      once-join (block_causes p block.modules) (all_blocks blocks)
      (block-once p block.modules (once-from block.modules once.0))
      (blocks-once-causes blocks once.1 apart.1)
      (λ c a b. let mine = (block-in p block.modules c a).1 in let other = (in-block blocks c b).1 in
      apart.0 mine.0 mine.1 (subst (InSome (map members_of blocks)) (same_Some other.0 mine.0 (sym other.2 ∙ mine.2)) other.1))

  pub merged-once : Once (merged_plan d)
  merged-once = Chosen-once merged-chosen
      (once-join (front_causes p d.list) (all_blocks d.blocks ++ back_causes p d.list) (front-once p d.list)
      (once-join (all_blocks d.blocks) (back_causes p d.list)
      (blocks-once-causes d.blocks
      (blocks-once (SharesBlock p) (shares-flip p) (shares-join p) d.list
      (list-once p d.list its.list) d.list (map members_of d.blocks) its.blocks)
      (blocks-apart (SharesBlock p) (shares-flip p) (shares-join p) d.list d.list (map members_of d.blocks) its.blocks))
      (back-once p d.list)
      (λ c a b. let x = (in-block d.blocks c a).0 in let y = back-part p d.list c b in omega (arith, x, y)))
      (λ c a e. let x = front-part p d.list c a in elim (Contains-append_cases (all_blocks d.blocks) (back_causes p d.list) c e) [
        | inl k ↦ let y = (in-block d.blocks c k).0 in omega (arith, x, y)
        | inr k ↦ let y = back-part p d.list c k in omega (arith, x, y)
      ]))

-- contexts may run out where the trees and the plan count to too many
pub needs-too-many : (p : Program) (hooks : Hooks) (d : Decided) →
    AreDecided p (form_of p.settings) d → (next trees : ℕ) → TreesCountTo p hooks d.list trees →
    4294967295 < next + trees + injected_count d → NeedsTooManyContexts p hooks next
needs-too-many p hooks d its next trees counts above = record {
  list = d.list;
  is_list = its.list;
  causes = merged_plan d;
  due = λ cause c. (Chosen-in (merged-chosen p (form_of p.settings) d its) cause c).1;
  once =
      λ i j cause e g. once-places (merged_plan d) (merged-once p (form_of p.settings) d its) i j
      cause e g;
  of_trees = trees;
  trees = counts;
  of_causes = injected_count d;
  injected = plan-counts p (form_of p.settings) d its;
  above = above;
}

-- ---- label
if-there : (t : Bool) (l : Label) → t ≡ true → Contains (label_if t l) l
if-there true l e = here l []
if-there false l e = absurd (false≢true e)

module _ (p : Program) (form : Form) (d : Decided) (its : AreDecided p form d) where
  abbrev members_of_label : DecidedBlock → List ℕ
  members_of_label block = block.modules

  -- ---- externals
  external-there : (es : List DecidedExternal) (texts : List Text) →
      AllZip (IsExternalDecided p) es texts → (s : Text) → Contains texts s →
      (e : DecidedExternal) × Contains es e × IsExternalDecided p e s
  external-there [] [] z s c = absurd (no_element c)
  external-there [] (t ∷ texts) z s c = absurd z
  external-there (e ∷ es) [] z s c = absurd z
  external-there (e ∷ es) (t ∷ texts) z s c = elim (first_or_later t texts s c) [
    | inl same ↦ (e, here e es, subst (IsExternalDecided p e) same z.0)
    | inr rest ↦ let r = external-there es texts z.1 s rest in (r.0, later e es r.0 r.1, r.2)
  ]

  external-label : (e : DecidedExternal) (s : Text) → IsExternalDecided p e s → (what : Taken) →
      IsMeant p (Of (External s what)) → Contains (external_labels e) (Of (External s what))
  external-label e s it (Named x) means =
      subst (λ t. Contains (external_labels e) (Of (External t (Named x)))) it.same
      (Contains-append_left (map (λ x. Of (External e.specifier (Named x))) e.names)
      (label_if e.whole (Of (External e.specifier Whole)))
      (Of (External e.specifier (Named x)))
      (map_on (λ x. Of (External e.specifier (Named x))) e.names x ((it.names.all x).1 means)))
  external-label e s it Whole means =
      subst (λ t. Contains (external_labels e) (Of (External t Whole))) it.same
      (Contains-append_right (map (λ x. Of (External e.specifier (Named x))) e.names)
      (label_if e.whole (Of (External e.specifier Whole))) (Of (External e.specifier Whole))
      (if-there e.whole (Of (External e.specifier Whole)) (it.whole.1 means)))

  in-front : (l : Label) → Contains (front_labels d) l → Contains (injected_labels d) l
  in-front l c = Contains-append_left (front_labels d) (flat_map (block_labels d) d.blocks) l c

  of-external : (s : Text) (what : Taken) → IsMeant p (Of (External s what)) →
      Contains (injected_labels d) (Of (External s what))
  of-external s what means =
      let r =
      external-there d.externals (externals p d.list) its.outside s
      (used-listed p d.list its.list s (meant-reached p means)) in
      in-front (Of (External s what))
      (Contains-append_left (flat_map external_labels d.externals)
      (label_if (list_any d.is_common_js d.list) Helper) (Of (External s what))
      (flat_on external_labels d.externals r.0 (Of (External s what)) r.1
      (external-label r.0 s r.2 what means)))

  -- ---- modules
  has-block : (blocks : List DecidedBlock) (m : ℕ) → InSome (map members_of_label blocks) m →
      (block : DecidedBlock) × Contains blocks block × Contains block.modules m
  has-block [] m h = absurd h
  has-block (block ∷ blocks) m (inl c) = (block, here block blocks, c)
  has-block (block ∷ blocks) m (inr h) =
      let r = has-block blocks m h in (r.0, later block blocks r.0 r.1, r.2)

  block-there : (m : ℕ) → Contains d.list m →
      (block : DecidedBlock) × Contains d.blocks block × Contains block.modules m
  block-there m c =
      has-block d.blocks m
      (blocks-has (SharesBlock p) (shares-flip p) (shares-join p) d.list d.list
      (map members_of_label d.blocks) its.blocks m c (itself, itself, λ asked. refl) m c (itself, itself, λ asked. refl))

  of-module : (m : ℕ) (l : Label) → IsReached p m → Contains (module_labels d m) l →
      Contains (injected_labels d) l
  of-module m l reached there =
      let r = block-there m ((list-reached p d.list its.list m).1 reached) in
      Contains-append_right (front_labels d) (flat_map (block_labels d) d.blocks) l
      (flat_on (block_labels d) d.blocks r.0 l r.1
      (Contains-append_left (flat_map (module_labels d) r.0.modules)
      (flat_map (object_labels d) r.0.modules) l
      (flat_on (module_labels d) r.0.modules m l r.2 there)))

  of-namespace : (m : ℕ) → IsMeant p (Of (Namespace m)) →
      Contains (injected_labels d) (Of (Namespace m))
  of-namespace m means =
      let listed = (list-reached p d.list its.list m).1 (meant-reached p means) in
      let r = block-there m listed in
      Contains-append_right (front_labels d) (flat_map (block_labels d) d.blocks) (Of (Namespace m))
      (flat_on (block_labels d) d.blocks r.0 (Of (Namespace m)) r.1 (Contains-append_right (flat_map (module_labels d) r.0.modules) (flat_map (object_labels d) r.0.modules) (Of (Namespace m))
      (flat_on (object_labels d) r.0.modules m (Of (Namespace m)) r.2 (if-there (d.is_object_meant m) (Of (Namespace m)) ((its.modules m listed).object.1 means)))))

  load-label : (m c : ℕ) (load : DecidedLoad) → load.which ≡ c →
      Rattle.bundle_merge_theory.specs.planned.Decided.IsLoadDecided p m load → (what : Taken) →
      IsMeant p (Of (CommonJs m c what)) → Contains (load_labels m load) (Of (CommonJs m c what))
  load-label m c load same it (Named x) means =
      subst (λ k. Contains (load_labels m load) (Of (CommonJs m k (Named x)))) same
      (Contains-append_left (map (λ x. Of (CommonJs m load.which (Named x))) load.names) (label_if load.whole (Of (CommonJs m load.which Whole))) (Of (CommonJs m load.which (Named x)))
      (map_on (λ x. Of (CommonJs m load.which (Named x))) load.names x ((it.names.all x).1 (subst (λ k. IsMeant p (Of (CommonJs m k (Named x)))) (sym same) means))))
  load-label m c load same it Whole means =
      subst (λ k. Contains (load_labels m load) (Of (CommonJs m k Whole))) same
      (Contains-append_right (map (λ x. Of (CommonJs m load.which (Named x))) load.names) (label_if load.whole (Of (CommonJs m load.which Whole))) (Of (CommonJs m load.which Whole))
      (if-there load.whole (Of (CommonJs m load.which Whole)) (it.whole.1 (subst (λ k. IsMeant p (Of (CommonJs m k Whole))) (sym same) means))))

  of-common-js : (m c : ℕ) (what : Taken) → IsMeant p (Of (CommonJs m c what)) →
      Contains (injected_labels d) (Of (CommonJs m c what))
  of-common-js m c what means =
      let r = meant-reached p means in
      let it = its.modules m ((list-reached p d.list its.list m).1 r.0) in
      let es : IsCommonJs p m → ⊥ = λ cjs. script-asks p m cjs r.1.specifier r.1.asks in
      let requested =
      Rattle.bundle_merge_theory.proofs.planned.RequestLemmas.declared_leads p m c r.1.specifier
      r.1.asks r.1.resolved in
      let back =
      map_back (λ (load : DecidedLoad). load.which) (d.loads m) c
      (Members-has _ _ (it.loads es) c requested r.1) in
      let there =
      flat_on (load_labels m) (d.loads m) back.0 (Of (CommonJs m c what)) back.1
      (load-label m c back.0 back.2 (it.taken back.0 back.1) what means) in
      of-module m (Of (CommonJs m c what)) r.0 (by (d.is_common_js m) it.common_js es there)
    where
      by : (t : Bool) → (IsTrue t ↔ IsCommonJs p m) → (IsCommonJs p m → ⊥) →
          Contains (flat_map (load_labels m) (d.loads m)) (Of (CommonJs m c what)) →
          Contains
          (if t then Load m ∷ [] else label_if (d.has_meta m) (Meta m) ++ flat_map
          (load_labels m) (d.loads m)) (Of (CommonJs m c what))
      by true says es there = absurd (es (says.0 refl))
      by false says es there =
          Contains-append_right (label_if (d.has_meta m) (Meta m))
          (flat_map (load_labels m) (d.loads m)) (Of (CommonJs m c what)) there

  -- ---- all of them
  -- a target that is meant and is no declaration is injected
  pub target-there : (t : Target) → IsMeant p (Of t) → ((m : ℕ) (x : Text) → t ≡ Declared m x → ⊥) →
      Contains (injected_labels d) (Of t)
  target-there (Declared m x) means none = absurd (none m x refl)
  target-there (Namespace m) means none = of-namespace m means
  target-there (External s what) means none = of-external s what means
  target-there (CommonJs m c what) means none = of-common-js m c what means

  -- the function of a reached CommonJS module, what `import.meta` is in a reached module, and the
  -- helper where a CommonJS module is reached
  pub load-there : (c : ℕ) → IsReached p c → IsCommonJs p c → Contains (injected_labels d) (Load c)
  load-there c reached cjs =
      of-module c (Load c) reached
      (by (d.is_common_js c)
      ((its.modules c ((list-reached p d.list its.list c).1 reached)).common_js))
    where
      by : (t : Bool) → (IsTrue t ↔ IsCommonJs p c) →
          Contains
          (if t then Load c ∷ [] else label_if (d.has_meta c) (Meta c) ++ flat_map
          (load_labels c) (d.loads c)) (Load c)
      by true says = here (Load c) []
      by false says = absurd (false≢true (says.1 cjs))

  pub meta-there : (m : ℕ) → IsReached p m → (IsCommonJs p m → ⊥) →
      IsTrue (has_import_meta (tree_of p m)) → Contains (injected_labels d) (Meta m)
  meta-there m reached es has =
      let it = its.modules m ((list-reached p d.list its.list m).1 reached) in
      of-module m (Meta m) reached (by (d.is_common_js m) it.common_js (it.meta ∙ has))
    where
      by : (t : Bool) → (IsTrue t ↔ IsCommonJs p m) → d.has_meta m ≡ true →
          Contains
          (if t then Load m ∷ [] else label_if (d.has_meta m) (Meta m) ++ flat_map
          (load_labels m) (d.loads m)) (Meta m)
      by true says e = absurd (es (says.0 refl))
      by false says e =
          Contains-append_left (label_if (d.has_meta m) (Meta m))
          (flat_map (load_labels m) (d.loads m)) (Meta m) (if-there (d.has_meta m) (Meta m) e)

  pub helper-there : (c : ℕ) → IsReached p c → IsCommonJs p c → Contains (injected_labels d) Helper
  helper-there c reached cjs =
      let listed = (list-reached p d.list its.list c).1 reached in
      in-front Helper (Contains-append_right (flat_map external_labels d.externals) (label_if (list_any d.is_common_js d.list) Helper) Helper
      (if-there (list_any d.is_common_js d.list) Helper (passes-some p form d.is_common_js d.list c listed ((its.modules c listed).common_js.1 cjs))))

-- ---- how many
length-if : (t : Bool) (l : Label) → length (label_if t l) ≡ count_if t 1
length-if true l = refl
length-if false l = refl

length-flat : {A : Type 0} (g : A → List Label) (n : A → ℕ) → ((x : A) → length (g x) ≤ n x) →
    (xs : List A) → length (flat_map g xs) ≤ sum_of n xs
length-flat g n each [] = omega arith
length-flat g n each (x ∷ xs) =
    let one = each x in
    let rest = length-flat g n each xs in
    let both = length-append (g x) (flat_map g xs) in omega (arith, one, rest, both)

few : (t : Bool) (n : ℕ) → count_if t 1 ≤ count_if t (suc n)
few true n = omega arith
few false n = omega arith

external-few : (e : DecidedExternal) → length (external_labels e) ≤ external_count e
external-few e =
    let both =
    length-append (map (λ x. Of (External e.specifier (Named x))) e.names)
    (label_if e.whole (Of (External e.specifier Whole))) in
    let names = length-mapped (λ x. Of (External e.specifier (Named x))) e.names in
    let whole = length-if e.whole (Of (External e.specifier Whole)) in
    omega (arith, both, names, whole)

load-few : (m : ℕ) (load : DecidedLoad) → length (load_labels m load) ≤ load_count load
load-few m load =
    let both =
    length-append (map (λ x. Of (CommonJs m load.which (Named x))) load.names)
    (label_if load.whole (Of (CommonJs m load.which Whole))) in
    let names = length-mapped (λ x. Of (CommonJs m load.which (Named x))) load.names in
    let whole = length-if load.whole (Of (CommonJs m load.which Whole)) in
    omega (arith, both, names, whole)

module-few : (d : Decided) (m : ℕ) → length (module_labels d m) ≤ module_count d m
module-few d m = by (d.is_common_js m)
  where
    by : (t : Bool) →
        length
        (if t then Load m ∷ [] else label_if (d.has_meta m) (Meta m) ++ flat_map (load_labels m)
        (d.loads m)) ≤
        (if t then 1 else count_if (d.has_meta m) 1 + sum_of load_count (d.loads m))
    by true = omega arith
    by false =
        let both =
        length-append (label_if (d.has_meta m) (Meta m))
        (flat_map (load_labels m) (d.loads m)) in
        let meta = length-if (d.has_meta m) (Meta m) in
        let loads = length-flat (load_labels m) load_count (load-few m) (d.loads m) in
        omega (arith, both, meta, loads)

object-few : (d : Decided) (m : ℕ) → length (object_labels d m) ≤ object_count d m
object-few d m =
    let one = length-if (d.is_object_meant m) (Of (Namespace m)) in
    let more = few (d.is_object_meant m) 3 in omega (arith, one, more)

block-few : (d : Decided) (block : DecidedBlock) →
    length (block_labels d block) ≤ block_count d block
block-few d block =
    let both =
    length-append (flat_map (module_labels d) block.modules)
    (flat_map (object_labels d) block.modules) in
    let first = length-flat (module_labels d) (module_count d) (module-few d) block.modules in
    let second = length-flat (object_labels d) (object_count d) (object-few d) block.modules in
    omega (arith, both, first, second)

-- the plan counts to enough for a context of each label, and for those of the helper's parameter
-- and variable
pub labels-few : (d : Decided) →
    length (injected_labels d) + count_if (list_any d.is_common_js d.list) 2 ≤ injected_count d
labels-few d =
    let all = length-append (front_labels d) (flat_map (block_labels d) d.blocks) in
    let front =
    length-append (flat_map external_labels d.externals)
    (label_if (list_any d.is_common_js d.list) Helper) in
    let first = length-flat external_labels external_count external-few d.externals in
    let blocks = length-flat (block_labels d) (block_count d) (block-few d) d.blocks in
    let helper = by (list_any d.is_common_js d.list) in
    omega (arith, all, front, first, blocks, helper)
  where
    by : (t : Bool) → length (label_if t Helper) + count_if t 2 ≤ count_if t 10
    by true = omega arith
    by false = omega arith
