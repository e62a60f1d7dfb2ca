-- A module of a bundle is read as a module of the program whose bundle it is.
-- Where no context is left, the modules of a bundle have too many bindings.
-- Whether the object of an `import.meta` is written already is told alike of a part and of answers.
use Rattle.std.proofs.Common.{◌≡◌, ℕ, Bool, true, false, List, [], Option, None, Some, codes, option_map, unwrap_or, refl, ap, sym, subst, ◌∙◌, ◌≤◌, ◌<◌, ◌+◌, zero, suc, ◌∷◌, length, map, arith, take, if◌then◌else◌}
use Rattle.std.specs.Prelude.{IsTrue, slice_get, is_some}
use Rattle.std.proofs.lemmas.Option.{none-some, same_Some, slice_get_within}
use Rattle.std.proofs.lemmas.Bool.{false≢true}
use Rattle.bundle_syntax.specs.Item.{Item, item_of}
use Rattle.bundle_syntax.specs.declared.kind.ExportMetadata.{ExportMetadata}
use Rattle.bundle_rules.specs.Bundle.{Defines, HoldsMeta, defines, holds_meta, properties_tree}
use Rattle.bundle_rules.specs.Entries.{has_import_meta}
use Rattle.bundle_rules.specs.Idents.{Ident}
use Rattle.bundle_rules.specs.Meaning.{HasKind, IsMeant, Meta, Of, is_common_js, is_es}
use Rattle.bundle_rules.specs.Program.{Program, tree_of, IsReached}
use Rattle.bundle_rules.specs.Scopes
use Rattle.bundle_rules.specs.Scopes.{ModuleKind, Cjs, Es, scope_order}
use Rattle.bundle_rules.specs.Cleared.{cleared}
use Rattle.bundle_rules.specs.Counts.{binding_count}
use Rattle.bundle_rules.specs.Declarations.{BySymbol, Name as Name_refused}
use Rattle.bundle_rules.specs.Denotes as e
use Rattle.bundle_rules.specs.Denotes.{denotations, denoted_as}
use Rattle.bundle_rules.specs.Tables.{TellsCommonJs}
use Rattle.bundle_rules.proofs.CountLemmas.{binding_count-cleared}
use Rattle.bundle_rules.proofs.DenotesLemmas.{denotations-cleared}
use Rattle.bundle_link_index.proofs.SearchLemmas.{each_place as there-below}
use Rattle.bundle_rules.specs.Linking as l
use Rattle.bundle_tree_places.specs.Marks.{ident_of}
use Rattle.bundle_tree_places.specs.declared.mark.Name.{Name}
use Rattle.bundle_scope_denote.specs.declared.table.Binding.{Binding}
use Rattle.bundle_scope_denote.specs.declared.table.Denotations.{Denotations}
use Rattle.bundle_scope_denote.specs.declared.table.Scope.{Scope}
use Rattle.bundle_scope_denote.specs.Chains.{IsOnce}
use Rattle.bundle_scope_denote.specs.Listed.{IsDenotationTable, IsDenoted, TellsDenoted}
use Rattle.bundle_scope_denote.specs.Numbers.{numbered_scope}
use Rattle.bundle_scope_denote.proofs.OutwardLemmas.{entry-at, same-number}
use Rattle.bundle_scope_denote.proofs.ZipLemmas.{AllZip-at as zip-on}
use Rattle.bundle_scope_names.proofs.Counting.{Key, key_of, all_keys, all-length, counted}
use Rattle.bundle_scope_names.proofs.KnowsLemmas.{pigeons}
use Rattle.bundle_link_index.specs.Says.{target_of}
use Rattle.bundle_link_index.specs.declared.target.TargetRef.{TargetRef}
use Rattle.bundle_link_index.specs.Leads.{flagged}
use Rattle.bundle_merge_theory.specs.made.Alone.{AreTreesSound, IsHolder, added, defines as defines_label, holds_meta as holds_label, answered_of, inside_of, written_in}
use Rattle.bundle_merge_theory.specs.made.Given.{HookAnswer, Fresh, Written, stands_written, BundleContexts, Holder, NameOf, TopOf, WrittenIn, ident_of_label, AreFresh}
use Rattle.bundle_merge_theory.specs.planned.Counted.{sum_of}
use Rattle.bundle_merge_theory.specs.planned.Decided.{numbers_from}
use Rattle.bundle_merge_names.specs.declared.names.Label.{Label}
use Rattle.bundle_merge_names.specs.declared.names.BundleNames.{BundleNames}
use Rattle.bundle_merge_names.specs.declared.part.Answered.{Answered}
use Rattle.bundle_merge_names.specs.declared.part.BundleInput.{BundleInput}
use Rattle.bundle_merge_names.specs.declared.part.BundleModule.{BundleModule}
use Rattle.bundle_merge_names.specs.Body.{IsModuleReadAs}
use Rattle.bundle_merge_names.specs.Bundle.{AreMetaAnswers, AreBundleParts, AreNamesOf, GetsContext, IsPartOf, holder_symbol, IsReadAnswer, answered_items, list_of_part, AreWrittenApart, IsWrittenIn, StandsWritten, its_inside, its_name, written_items}
use Rattle.bundle_merge_names.specs.Idents.{label_ident, object_ident, ident_by}
use Rattle.bundle_merge_names.specs.Named.{IsGiven, holder_of}
use Rattle.bundle_merge_names.proofs.Rising.{AreHolders, are-holders}
use Rattle.bundle_merge_names.specs.declared.error.MergeError.{MergeError}
use Rattle.bundle_merge_names.specs.declared.error.MergeError.TheVariants.{ContextsUsedUp}
use Rattle.bundle_merge_names.specs.Inside
use Rattle.bundle_merge_names.specs.Inside.{AreTakenAt, AreTakenBy, AreTakenUpTo, RefusesScopes, answer_of, table_at}
use Rattle.bundle_merge_names.specs.Numbers.{is_at_top, position, scope_of}
use Rattle.bundle_merge_names.specs.Ranges.{AreContextsTaken, NeedsContext}
use Rattle.bundle_merge_names.specs.Refused.{HasAtMost, LacksContexts, RefusesContextsIn, answered_count, for_answer, for_memory, for_module}
use Rattle.bundle_merge_names.specs.Scoped.{AreFalling, scope_number}
use Rattle.bundle_merge_names.proofs.ScopeLemmas.{inner-scope, scope-there}
use Rattle.bundle_merge_names.proofs.NamesLemmas.{tree-cleared}
use Rattle.bundle_merge_names.specs.declared.names.Label.TheVariants

-- ---- reading

-- the identifier of an object that is written already
written-ident : (names : BundleNames) (k : ℕ) (name : Option Name) (ident : Ident) → option_map ident_of name ≡ Some ident → object_ident names name k ≡ ident
written-ident names k None ident is = absurd (none-some ident is)
written-ident names k (Some name) ident is = same_Some (ident_of name) ident is

is-true : (b : Bool) → b ≡ true → IsTrue b
is-true b is = is

module _ (p : Program) (list : List ℕ) (answers : ℕ → Option HookAnswer) (context : BundleContexts) (bundle : BundleInput) (names : BundleNames) (parts : AreBundleParts p list answers bundle) (are : AreNamesOf p list answers context bundle names) (sound : AreTreesSound p list) where
  holders : AreHolders p answers
  holders = are-holders p answers list sound

  pub held-ident : (label : Label) → IsGiven (λ k. stands_written (answers k)) (IsHolder p answers) (holder_of label) → label_ident names label ≡ (holder_symbol p list (holder_of label), context (holder_of label))
  held-ident label holder = ap (λ (o : Option Ident). unwrap_or o ([], 1)) (are.labels label holder)

  -- a label that is no object for an `import.meta`
  pub plain-ident : (label : Label) → IsHolder p answers (holder_of label) → ((k : ℕ) → holder_of label ≡ NameOf (Meta k) → ⊥) → label_ident names label ≡ (holder_symbol p list (holder_of label), context (holder_of label))
  plain-ident label holder other = held-ident label (record { its = holder; fresh = λ k same. absurd (other k same) })

  -- the object for the `import.meta` of a module, where it gets a name
  pub meta-ident : (k : ℕ) → IsReached p k → has_import_meta (tree_of p k) ≡ true → stands_written (answers k) ≡ false → label_ident names (TheVariants.Meta k) ≡ ident_of_label p list context (Meta k)
  meta-ident k reached has fresh = held-ident (TheVariants.Meta k) (record {
    its = added (HoldsMeta k) (holds_meta reached (is-true (has_import_meta (tree_of p k)) has)) holds_label;
    fresh = λ j same. let one : j ≡ k = cc in ap (λ i. stands_written (answers i)) one ∙ fresh;
  })

  pub target-ident : (t : TargetRef) (u : l.Target) → target_of t ≡ u → IsMeant p (Of u) → ident_by names (TheVariants.Of t) u ≡ ident_of_label p list context (Of u)
  target-ident t (l.Declared k x) is meant = ap (λ (o : Option ℕ). (x, unwrap_or o 1)) (are.locals k ((parts.reached k).0 (holders.declared k x meant)))
  target-ident t (l.Namespace d) is meant = plain-ident (TheVariants.Of t) (subst (λ u. IsHolder p answers (NameOf (Of u))) (sym is) (holders.shared (l.Namespace d) tt meant)) (λ j same. cc) ∙ ap (λ u. (holder_symbol p list (NameOf (Of u)), context (NameOf (Of u)))) is
  target-ident t (l.External s its) is meant = plain-ident (TheVariants.Of t) (subst (λ u. IsHolder p answers (NameOf (Of u))) (sym is) (holders.shared (l.External s its) tt meant)) (λ j same. cc) ∙ ap (λ u. (holder_symbol p list (NameOf (Of u)), context (NameOf (Of u)))) is
  target-ident t (l.CommonJs k c its) is meant = plain-ident (TheVariants.Of t) (subst (λ u. IsHolder p answers (NameOf (Of u))) (sym is) (holders.shared (l.CommonJs k c its) tt meant)) (λ j same. cc) ∙ ap (λ u. (holder_symbol p list (NameOf (Of u)), context (NameOf (Of u)))) is

  -- the object of the `import.meta` of a module has the identifier of its label
  object-ident : (k : ℕ) (part : BundleModule) → slice_get bundle.parts.now k ≡ Some part → IsReached p k → (answer : Option HookAnswer) → answers k ≡ answer → (its : Option Answered) → AreMetaAnswers answer part its → has_import_meta (tree_of p k) ≡ true → object_ident names part.written k ≡ ident_of_label p list context (Meta k)
  object-ident k part at reached None told None are has = ap (λ o. object_ident names o k) are ∙ meta-ident k reached has (ap stands_written told)
  object-ident k part at reached None told (Some its) are has = absurd are
  object-ident k part at reached (Some (Fresh properties)) told None are has = absurd are
  object-ident k part at reached (Some (Fresh properties)) told (Some its) are has = ap (λ o. object_ident names o k) are.0 ∙ meta-ident k reached has (ap stands_written told)
  object-ident k part at reached (Some (Written ctxt notes properties)) told None its has =
      written-ident names k part.written (codes "importMeta", ctxt) its.name
      ∙ ap (λ c. (codes "importMeta", c)) (sym (are.metas k ctxt notes properties (slice_get_within bundle.parts.now k part at) told))
  object-ident k part at reached (Some (Written ctxt notes properties)) told (Some its) are has = absurd are

  pub read-as : (k : ℕ) (kind : ModuleKind) (part : BundleModule) → slice_get bundle.parts.now k ≡ Some part → HasKind p k kind → IsModuleReadAs p list context k kind part bundle.linking.now names
  read-as k kind part at has = record {
    reached = there;
    modules = parts.modules;
    linked = parts.linking;
    tree = its.tree;
    table = its.table kind has;
    tables = its.tables;
    meta = its.meta;
    leads = its.leads;
    numbers = are.scopes k part kind at has;
    targets = λ t meant. target-ident t (target_of t) refl meant;
    loads = λ c call linked leads. let called = holders.called k c call there linked leads in plain-ident (TheVariants.Load c) (added (Defines c) (defines called.0 called.1) defines_label) (λ j same. cc);
    its_meta = λ is. object-ident k part at there (answers k) refl (unwrap_or (slice_get bundle.answers.now k) None) (parts.answered k part at) is;
  }
    where
      its : IsPartOf p k part
      its = parts.parts k part at

      there : IsReached p k
      there = (parts.reached k).1 (slice_get_within bundle.parts.now k part at)

-- ---- refused

-- what falls stands once, and each is one of those
falls-at : (Its : ℕ → Type 0) (above : ℕ) (numbers : List ℕ) (i n : ℕ) → AreFalling Its above numbers → slice_get numbers i ≡ Some n → Its n
falls-at Its above [] i n fall at = absurd (none-some n at)
falls-at Its above (m ∷ rest) zero n fall at = subst Its (same_Some m n at) fall.1
falls-at Its above (m ∷ rest) (suc i) n fall at = falls-at Its m rest i n fall.2 at

falls-below : (Its : ℕ → Type 0) (above : ℕ) (numbers : List ℕ) (i n : ℕ) → AreFalling Its above numbers → slice_get numbers i ≡ Some n → n < above
falls-below Its above [] i n fall at = absurd (none-some n at)
falls-below Its above (m ∷ rest) zero n fall at = subst (λ k. k < above) (same_Some m n at) fall.0
falls-below Its above (m ∷ rest) (suc i) n fall at = let first = fall.0 in let below = falls-below Its m rest i n fall.2 at in omega (arith, first, below)

falls-once : (Its : ℕ → Type 0) (above : ℕ) (numbers : List ℕ) → AreFalling Its above numbers → IsOnce numbers
falls-once Its above [] fall i j n at there = absurd (none-some n at)
falls-once Its above (m ∷ rest) fall zero zero n at there = refl
falls-once Its above (m ∷ rest) fall zero (suc j) n at there = let same = same_Some m n at in let below = falls-below Its m rest j n fall.2 there in absurd (omega (arith, same, below))
falls-once Its above (m ∷ rest) fall (suc i) zero n at there = let same = same_Some m n there in let below = falls-below Its m rest i n fall.2 at in absurd (omega (arith, same, below))
falls-once Its above (m ∷ rest) fall (suc i) (suc j) n at there = ap suc (falls-once Its m rest fall.2 i j n at there)

-- a name that occurs is one of the scope with this number
record OccursIn (kind : ModuleKind) (items : List Item) (table : Denotations) (n : ℕ) : Type 0 where
  pub i : ℕ
  pub scope : Scopes.Scope
  pub name : Name_refused
  pub denoted : denoted_as BySymbol kind items i ≡ Some (e.Bound scope name)
  pub at : scope_of table n ≡ Some scope

module _ (kind : ModuleKind) (items : List Item) (table : Denotations) (is : IsDenotationTable BySymbol kind items table) where
  occurs-in : (n : ℕ) → NeedsContext table n → OccursIn kind items table n
  occurs-in n needs =
      let z = zip-on (TellsDenoted (map numbered_scope table.scopes.items) table.bindings.items) table.occurrences.items (denotations BySymbol kind items) needs.binds.i needs.binds.entry is.denotes needs.binds.there in
      by needs.binds.entry.binding z.0 z.1 z.2 needs.binds.scope
    where
      by : (number : Option ℕ) (d : e.Denoted) → slice_get (denotations BySymbol kind items) needs.binds.i ≡ Some d → IsDenoted (map numbered_scope table.scopes.items) table.bindings.items number d → scope_number table.bindings.items number ≡ Some n → OccursIn kind items table n
      by None d at t its = absurd (none-some n its)
      by (Some number) (e.Global x) at t its = absurd t
      by (Some number) (e.Bound scope name) at t its =
          let same : t.binding.scope ≡ n = same_Some t.binding.scope n (sym (ap (option_map (λ (b : Binding). b.scope)) t.at) ∙ its) in
          record { i = needs.binds.i; scope = scope; name = name; denoted = at; at = ap (scope_of table) (sym same) ∙ t.in_scope }

  -- the key of a name of the scope
  record HasKey (n : ℕ) (key : Key) : Type 0 where
    pub its : OccursIn kind items table n
    pub is_key : key ≡ key_of its.scope its.name.sym

  one-number : (a b : ℕ) (key : Key) → HasKey a key → HasKey b key → a ≡ b
  one-number a b key x y =
      let order : scope_order x.its.scope ≡ scope_order y.its.scope = ap (λ (k : Key). k.0) (sym x.is_key ∙ y.is_key) in
      let v = entry-at (map numbered_scope table.scopes.items) a x.its.scope x.its.at in
      let w = entry-at (map numbered_scope table.scopes.items) b y.its.scope y.its.at in
      same-number (map numbered_scope table.scopes.items) is.order a b v.0 w.0 v.1 w.1 (ap scope_order v.2 ∙ order ∙ ap scope_order (sym w.2))

  -- no more are taken than bindings are counted
  pub taken-few : (from to : ℕ) → AreContextsTaken table from to → to ≤ from + binding_count kind items
  taken-few from to taken =
      let few = pigeons HasKey one-number taken.numbers (all_keys kind items) (falls-once (NeedsContext table) (length table.scopes.items) taken.numbers taken.fall) beside in
      let all = all-length kind items in
      let count = taken.count in
      omega (arith, few, all, count)
    where
      beside : (k n : ℕ) → slice_get taken.numbers k ≡ Some n → (j : ℕ) × (key : Key) × (slice_get (all_keys kind items) j ≡ Some key) × HasKey n key
      beside k n at =
          let its = occurs-in n (falls-at (NeedsContext table) (length table.scopes.items) taken.numbers k n taken.fall at) in
          let listed = counted kind items its.i its.scope its.name its.denoted in
          (listed.0, key_of its.scope its.name.sym, listed.1, record { its = its; is_key = refl })

  -- a scope that needs one is an inner scope of the tree
  pub inner-needs : (n : ℕ) → NeedsContext table n → (begins : ℕ) × (its : Scopes.ScopeKind) × (name : Name_refused) × (i : ℕ) × (denoted_as BySymbol kind items i ≡ Some (e.Bound (Scopes.Inner its begins) name))
  inner-needs n needs =
      let one = occurs-in n needs in
      let there = scope-there table n one.scope one.at in
      let same : there.0 ≡ needs.scope = same_Some there.0 needs.scope (sym there.1 ∙ needs.there) in
      let inner = inner-scope there.0.kind there.0.begins (ap (λ (x : Scope). is_at_top x.kind) same ∙ needs.inner) in
      (there.0.begins, inner.0, one.name, one.i, one.denoted ∙ ap (λ scope. Some (e.Bound scope one.name)) (sym there.2 ∙ inner.1))

-- sums over numbers from one on
sum-next : (f : ℕ → ℕ) (k m j : ℕ) → j ≡ m + k → sum_of f (numbers_from k (suc m)) ≡ sum_of f (numbers_from k m) + f j
sum-next f k zero j is = let same : f j ≡ f k = ap f (omega (arith, is)) in omega (arith, same)
sum-next f k (suc m) j is = let rest = sum-next f (suc k) m j (omega (arith, is)) in omega (arith, rest)

sum-more : (f : ℕ → ℕ) (k m n : ℕ) → m ≤ n → sum_of f (numbers_from k m) ≤ sum_of f (numbers_from k n)
sum-more f k zero n less = omega arith
sum-more f k (suc m) zero less = absurd (omega (arith, less))
sum-more f k (suc m) (suc n) less = let rest = sum-more f (suc k) m n (omega (arith, less)) in omega (arith, rest)

module _ (p : Program) (list : List ℕ) (answers : ℕ → Option HookAnswer) (bundle : BundleInput) (parts : AreBundleParts p list answers bundle) where
  abbrev first : ℕ
  first = position bundle.contexts

  list-table : (m : ℕ) (part : BundleModule) → slice_get bundle.parts.now m ≡ Some part → table_at bundle false m ≡ Some part.denotations.now
  list-table m part at = ap (option_map (λ (x : BundleModule). x.denotations.now)) at

  kind-of : (m : ℕ) → (kind : ModuleKind) × HasKind p m kind
  kind-of m = by (flagged bundle.linking.now.common_js.items m) (parts.linking.common_js m)
    where
      by : (b : Bool) → TellsCommonJs p m b → (kind : ModuleKind) × HasKind p m kind
      by true tells = (Cjs, is_common_js (tells.0 refl))
      by false tells = (Es, is_es (λ c. false≢true (tells.1 c)))

  -- what the hook answered, where that is told
  answer-told : (m : ℕ) (its : Answered) → m < length bundle.parts.now → answer_of bundle m ≡ Some its → (properties : List Item) × (answers m ≡ Some (Fresh properties)) × IsReadAnswer properties its
  answer-told m its within is =
      let part = there-below bundle.parts.now m within in
      by part.0 (answers m) refl (subst (AreMetaAnswers (answers m) part.0) is (parts.answered m part.0 part.1))
    where
      by : (part : BundleModule) (o : Option HookAnswer) → answers m ≡ o → AreMetaAnswers o part (Some its) → (properties : List Item) × (answers m ≡ Some (Fresh properties)) × IsReadAnswer properties its
      by part None told are = absurd are
      by part (Some (Fresh properties)) told are = (properties, told, are.1)
      by part (Some (Written ctxt notes properties)) told are = absurd are

  answer-tree : (properties : List Item) (its : Answered) → IsReadAnswer properties its → properties_tree properties ≡ cleared (map item_of its.pieces.now)
  answer-tree properties its is = ap properties_tree is.told ∙ tree-cleared (answered_items its) ∙ ap cleared (sym is.listed)

  module _ (most : ℕ → ℕ) (has : (m : ℕ) → IsReached p m → HasAtMost p answers m (most m)) where
    answer-few : (m from to : ℕ) → m < length bundle.parts.now → AreTakenBy (table_at bundle true m) from to → to ≤ from + answered_count (answers m)
    answer-few m from to within taken = by (answer_of bundle m) refl taken
      where
        by : (o : Option Answered) → answer_of bundle m ≡ o → AreTakenBy (option_map (λ (x : Answered). x.denotations.now) o) from to → to ≤ from + answered_count (answers m)
        by None is same = omega (arith, same)
        by (Some its) is taken =
            let told = answer-told m its within is in
            let few = taken-few Es (map item_of its.pieces.now) its.denotations.now told.2.table from to taken in
            let count : answered_count (answers m) ≡ binding_count Es (map item_of its.pieces.now) = ap answered_count told.1 ∙ ap (binding_count Es) (answer-tree told.0 its told.2) ∙ binding_count-cleared Es (map item_of its.pieces.now) in
            omega (arith, few, count)

    module-few : (m from to : ℕ) → m < length bundle.parts.now → AreTakenAt bundle m from to → to ≤ from + most m
    module-few m from to within taken =
        let part = there-below bundle.parts.now m within in
        let its = has m ((parts.reached m).1 within) in
        let is = parts.parts m part.0 part.1 in
        let few = taken-few its.kind (list_of_part part.0) part.0.denotations.now (is.table its.kind its.has_kind) from taken.middle (subst (λ o. AreTakenBy o from taken.middle) (list-table m part.0 part.1) taken.list) in
        let count : binding_count its.kind (tree_of p m) ≡ binding_count its.kind (list_of_part part.0) = ap (binding_count its.kind) is.tree ∙ binding_count-cleared its.kind (list_of_part part.0) in
        let answered = answer-few m taken.middle to within taken.answer in
        let all = its.few in
        omega (arith, few, count, answered, all)

    pub up-few : (m to : ℕ) → m ≤ length bundle.parts.now → AreTakenUpTo bundle first m to → to ≤ first + sum_of most (numbers_from 0 m)
    up-few zero to within taken = omega (arith, taken)
    up-few (suc m) to within taken =
        let before = up-few m taken.0 (omega (arith, within)) taken.1 in
        let here = module-few m taken.0 to (omega (arith, within)) taken.2 in
        let sum = sum-next most 0 m m (omega arith) in
        omega (arith, before, here, sum)

    too-many : (m from : ℕ) → m < length bundle.parts.now → AreTakenUpTo bundle first m from → AreTakenAt bundle m from 4294967296 → 4294967295 < first + sum_of most list
    too-many m from within before here =
        let all = up-few (suc m) 4294967296 (omega (arith, within)) (from, before, here) in
        let more = sum-more most 0 (suc m) (length bundle.parts.now) (omega (arith, within)) in
        let same : sum_of most list ≡ sum_of most (numbers_from 0 (length bundle.parts.now)) = ap (sum_of most) parts.places in
        omega (arith, all, more, same)

  lacks : (m from : ℕ) → m < length bundle.parts.now → AreTakenUpTo bundle first m from → AreTakenAt bundle m from 4294967296 → LacksContexts p list answers first
  lacks m from within before here = record { above = λ most has. too-many most has m from within before here }

  -- what needs a context is a scope inside the module, or inside what the hook answered for it
  module-refused : (answered : Bool) (m n : ℕ) (table : Denotations) → m < length bundle.parts.now → table_at bundle answered m ≡ Some table → NeedsContext table n → LacksContexts p list answers first → RefusesContextsIn p list answers first (ContextsUsedUp (Some m))
  module-refused false m n table within at needs lacking =
      let part = there-below bundle.parts.now m within in
      let kind = kind-of m in
      let is = parts.parts m part.0 part.1 in
      let same : table ≡ part.0.denotations.now = same_Some table part.0.denotations.now (sym at ∙ list-table m part.0 part.1) in
      let inner = inner-needs kind.0 (list_of_part part.0) part.0.denotations.now (is.table kind.0 kind.1) n (subst (λ t. NeedsContext t n) same needs) in
      let denoted = ap (λ ds. slice_get ds inner.3) (ap (denotations BySymbol kind.0) is.tree ∙ denotations-cleared kind.0 (list_of_part part.0)) ∙ inner.4 in
      for_module m inner.0 (inside_of kind.0 inner.1 inner.2 inner.3 ((parts.reached m).1 within) kind.1 denoted) lacking
  module-refused true m n table within at needs lacking = by (answer_of bundle m) refl at
    where
      by : (o : Option Answered) → answer_of bundle m ≡ o → option_map (λ (x : Answered). x.denotations.now) o ≡ Some table → RefusesContextsIn p list answers first (ContextsUsedUp (Some m))
      by None is at = absurd (none-some table at)
      by (Some its) is at =
          let told = answer-told m its within is in
          let same : table ≡ its.denotations.now = sym (same_Some its.denotations.now table at) in
          let inner = inner-needs Es (map item_of its.pieces.now) its.denotations.now told.2.table n (subst (λ t. NeedsContext t n) same needs) in
          let denoted = ap (λ ds. slice_get ds inner.3) (ap (denotations BySymbol Es) (answer-tree told.0 its told.2) ∙ denotations-cleared Es (map item_of its.pieces.now)) ∙ inner.4 in
          for_answer m inner.0 (answered_of told.0 inner.1 inner.2 inner.3 ((parts.reached m).1 within) told.1 denoted) lacking

  pub scopes-refused : (refusal : MergeError) → RefusesScopes bundle refusal → RefusesContextsIn p list answers first refusal
  scopes-refused _ Inside.for_memory = for_memory
  scopes-refused _ (Inside.for_contexts answered m i table from within at needs before here) = module-refused answered m i table within at needs (lacks m from within before here)

-- ---- written
is-there : (name : Option Name) (ident : Ident) → option_map ident_of name ≡ Some ident →
    is_some name ≡ true
is-there None ident is = absurd (none-some ident is)
is-there (Some name) ident is = refl

answers-written : (answer : Option HookAnswer) (part : BundleModule) (its : Option Answered) →
    AreMetaAnswers answer part its → is_some part.written ≡ stands_written answer
answers-written None part None are = ap is_some are
answers-written None part (Some its) are = absurd are
answers-written (Some (Fresh properties)) part None are = absurd are
answers-written (Some (Fresh properties)) part (Some its) are = ap is_some are.0
answers-written (Some (Written ctxt notes properties)) part None are =
    is-there part.written _ are.name
answers-written (Some (Written ctxt notes properties)) part (Some its) are = absurd are

module _ (p : Program) (list : List ℕ) (answers : ℕ → Option HookAnswer) (bundle : BundleInput)
    (are : AreBundleParts p list answers bundle) where
  pub part-written : (m : ℕ) (part : BundleModule) → slice_get bundle.parts.now m ≡ Some part →
      is_some part.written ≡ stands_written (answers m)
  part-written m part at =
      answers-written (answers m) part (unwrap_or (slice_get bundle.answers.now m) None)
      (are.answered m part at)

  -- the object stands first
  pub written-there : (m : ℕ) (part : BundleModule) → slice_get bundle.parts.now m ≡ Some part →
      (ctxt : ℕ) (notes : ExportMetadata) (properties : List Item) →
      answers m ≡ Some (Written ctxt notes properties) →
      IsWrittenIn part ctxt notes properties
  written-there m part at ctxt notes properties told =
      by (unwrap_or (slice_get bundle.answers.now m) None)
      (subst (λ answer. AreMetaAnswers answer part (unwrap_or (slice_get bundle.answers.now m) None))
      told (are.answered m part at))
    where
      by : (its : Option Answered) → AreMetaAnswers (Some (Written ctxt notes properties)) part its →
          IsWrittenIn part ctxt notes properties
      by None is = is
      by (Some its) is = absurd is

-- without it nothing is there already
pub none-written : (part : BundleModule) → is_some part.written ≡ false → written_items part ≡ []
none-written part none = ap (λ b. take (if b then 1 else 0) part.items.now) none

-- and else the object alone
pub one-written : (part : BundleModule) {ctxt : ℕ} {notes : ExportMetadata} {properties : List Item}
    (its : IsWrittenIn part ctxt notes properties) → written_items part ≡ its.first ∷ []
one-written part its =
    ap (λ b. take (if b then 1 else 0) part.items.now) (is-there part.written _ its.name)
    ∙ ap (take 1) its.items

-- where all answers are fresh, no object is written already
module _ (p : Program) (answers : ℕ → Option HookAnswer) (fresh : AreFresh answers) where
  none-stands : {m ctxt : ℕ} → StandsWritten p answers m ctxt → ⊥
  none-stands {m = m} {ctxt = ctxt} (its_name notes properties reached told) =
      fresh m ctxt notes properties told
  none-stands {m = m} (its_inside (written_in own notes properties its begins name i o reached told there denoted is)) =
      fresh m own notes properties told

  pub fresh-apart : (bundle : BundleInput) → AreWrittenApart p answers bundle
  fresh-apart bundle = record {
    own = λ m ctxt stands. absurd (none-stands stands);
    free = λ m ctxt stands. absurd (none-stands stands);
    tops = λ m n ctxt part stands at. absurd (none-stands stands);
    apart = λ m n ctxt stands other. absurd (none-stands stands);
    names = λ m ctxt its notes properties told holder. absurd (fresh m ctxt notes properties told);
  }

  told-unwritten : (m : ℕ) (answer : Option HookAnswer) → answers m ≡ answer → stands_written answer ≡ false
  told-unwritten m None told = refl
  told-unwritten m (Some (Fresh properties)) told = refl
  told-unwritten m (Some (Written ctxt notes properties)) told = absurd (fresh m ctxt notes properties told)

  -- and all but tops of modules get contexts
  pub others-get : (a : Holder) → IsHolder p answers a → ((m : ℕ) → a ≡ TopOf m → ⊥) → GetsContext answers a
  others-get a holder never = record {
    no_top = never;
    unwritten = λ m ctxt is.
        let inside : IsHolder p answers (WrittenIn m ctxt) = subst (IsHolder p answers) is holder in
        none-stands (its_inside inside);
    fresh = λ m is. told-unwritten m (answers m) refl;
  }
