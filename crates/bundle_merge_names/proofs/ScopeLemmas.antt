-- The scopes of a table are told apart by where their nodes begin, and so are the contexts that they have.
-- Contexts are given to the scopes of a list, one by one.
-- The names of a module are gone over in turn, with its uses and its calls.
use Rattle.std.proofs.Common.{◌≡◌, ◌<◌, ◌+◌, ℕ, zero, suc, Bool, true, false, cond, List, [], ◌∷◌, Option, Some, None, map, refl, ap, sym, subst, ◌∙◌, arith, eqb-true, eq-eqb, ◌≤◌, ◌⊎◌, inl, inr, ◌++◌, length, take, if◌then◌else◌}
use Rattle.std.specs.Prelude.{◌&&◌, ◌==◌, not, option_map, slice_get, Err, IfErr, Ok, Result, replicate, unwrap_or, Contains, filter}
use Rattle.std.proofs.lemmas.Bool.{false≢true}
use Rattle.std.proofs.lemmas.Option.{none-some, same_Some, slice_get-map, slice_get_within}
use Rattle.std.specs.Result.{IsErrAnd}
use Rattle.std.specs.List.{AllZip}
use Rattle.std.proofs.lemmas.Slice.Zip.{all_zipped_more}
use Rattle.std.specs.BTreeMap.{get_by_text}
use Rattle.bundle_syntax.specs.Item.{Item}
use Rattle.bundle_rules.specs.Nodes.{Text}
use Rattle.bundle_rules.specs.Scopes
use Rattle.bundle_rules.specs.Scopes.{ModuleKind, scope_order}
use Rattle.bundle_rules.specs.Declarations.{BySymbol, Name, declared}
use Rattle.bundle_rules.specs.Denotes
use Rattle.bundle_rules.specs.Denotes.{denotations, denoted_as, denoted_of}
use Rattle.bundle_link_index.proofs.SearchLemmas.{get_still as push-old}
pub use Rattle.bundle_link_index.proofs.SearchLemmas.{each_place as there-below}
use Rattle.bundle_rules.specs.Idents.{Ident}
use Rattle.bundle_rules.specs.Places.{start, Occurrence, occurrence_at, occurrences}
use Rattle.bundle_rules.specs.Meaning.{Of, IsMeant}
use Rattle.bundle_rules.specs.Program.{Program, tree_of, calls_of}
use Rattle.bundle_rules.proofs.DenotesLemmas.{denotations-cleared}
use Rattle.bundle_rules.proofs.PathLemmas.{cleared_occurrence, occurrences-cleared}
use Rattle.bundle_rules.proofs.PlacesLemmas.{occurrences-at, occurrence_at-listed}
use Rattle.bundle_rules.specs.Entries
use Rattle.bundle_rules.specs.Linking as in_linking
use Rattle.bundle_scope_denote.specs.declared.table.Binding.{Binding}
use Rattle.bundle_scope_denote.specs.declared.table.Denoted.{Denoted}
use Rattle.bundle_scope_denote.specs.declared.table.Denotations.{Denotations}
use Rattle.bundle_scope_denote.specs.declared.table.Scope.{Scope}
use Rattle.bundle_scope_denote.specs.declared.table.ScopeKind.{ScopeKind}
use Rattle.bundle_scope_denote.specs.Chains.{AreInOrder}
use Rattle.bundle_scope_denote.specs.Kinds.{scope_as}
use Rattle.bundle_scope_denote.specs.Listed.{IsDenotationTable, IsDenoted, TellsDenoted}
use Rattle.bundle_scope_denote.specs.Numbers.{NumberedScope, numbered_scope}
use Rattle.bundle_scope_denote.proofs.OutwardLemmas.{same-number}
use Rattle.bundle_scope_denote.proofs.ZipLemmas.{AllZip-at_second as zip-back}
use Rattle.bundle_scope_denote.proofs.LoopLemmas.{take-whole}
use Rattle.bundle_tree_places.proofs.ListLemmas.{take_at as take-next}
use Rattle.bundle_scope_denote.specs.declared.table.ScopeKind.TheVariants
use Rattle.bundle_scope_names.proofs.Numbering.{Numbering, context_of}
use Rattle.bundle_scope_names.proofs.Kept.{length-snoc as push-long}
use Rattle.bundle_scope_names.proofs.TreeLemmas.{denotation-at}
use Rattle.bundle_link_tables.specs.declared.table.RequireCall.{RequireCall}
use Rattle.bundle_link_tables.specs.declared.table.Use.{Use}
use Rattle.bundle_link_tables.specs.TablesOf.{call_entry_of}
use Rattle.bundle_link_tables.specs.Used.{UseEntry, is_use, use_of, use_entry_of, uses_of}
use Rattle.bundle_tree_rebuild.specs.declared.rewrite.Rewrite.{Rewrite}
use Rattle.bundle_tree_rebuild.specs.declared.rewrite.Whole.{Whole}
use Rattle.bundle_tree_rebuild.specs.Work.{rewrite_step}
use Rattle.bundle_scope_names.proofs.Told.{zip-length as zip-long}
use Rattle.bundle_scope_names.proofs.Counting.{length-map as map-long}
use Rattle.bundle_tree_rebuild.specs.declared.rewrite.Whole.TheVariants as in_variants
use Rattle.bundle_link_index.specs.Says.{target_of}
use Rattle.bundle_link_index.proofs.ProgramLemmas.{got_there as place-there, got as there-place, map_back as map-back, map_on as map-on, filter_back as filter-back, filter_on as filter-on}
use Rattle.bundle_link_targets.proofs.ListLemmas.{map-some as map-there, placed-at}
use Rattle.bundle_link_targets.specs.Meant.{by_use}
use Rattle.bundle_link_targets.specs.declared.linking.Linking.{Linking}
use Rattle.bundle_link_targets.specs.declared.target.Meaning.{Meaning}
use Rattle.bundle_link_targets.proofs.StageLemmas.{call_leads}
use Rattle.bundle_link_targets.proofs.MeantLemmas.{taken-meant}
use Rattle.bundle_merge_theory.proofs.finished.Theorem.{at-end as last-there}
use Rattle.bundle_merge_theory.specs.made.Given.{BundleContexts, numbers_in}
use Rattle.bundle_merge_theory.specs.made.Steps
use Rattle.bundle_merge_theory.specs.made.Steps.{IsStep, IsStepTo, IsTargetUsed, IsCalled, whole_of}
use Rattle.bundle_merge_names.specs.Inside.{HasScopeContext}
use Rattle.bundle_merge_names.specs.Numbers.{AreNumbersOf, is_at_top, scope_of, position}
use Rattle.bundle_merge_names.specs.Ranges.{HasScopeContexts, AreContextsTaken, GivesScopeContexts, NeedsContext, RefusesContexts, for_contexts}
use Rattle.bundle_merge_names.specs.Scoped.{Binds, scope_number, AreMarkedTaken, AreMarks, AreScoped, AreFalling, GivesScope, IsScopeMarked, KeepsBundleNames, RefusesScope, flag_in, context_for, next_after}
use Rattle.bundle_merge_names.specs.declared.error.MergeError.{MergeError}
use Rattle.bundle_merge_names.specs.declared.names.BundleNames.{BundleNames}
use Rattle.bundle_merge_names.specs.declared.part.BundleModule.{BundleModule}
use Rattle.bundle_merge_names.specs.Bundle.{list_of_part}
use Rattle.bundle_merge_names.specs.Body
use Rattle.bundle_merge_names.specs.Body.{IsModuleReadAs, IsRewritten, MeansNothing, IsUseFound, AreModuleRewrites, module_called, is_use_at, is_call_at, past_by}
use Rattle.bundle_merge_names.specs.Named.{scopes_in}
use Rattle.bundle_merge_names.specs.Own.{rewrite_told, own_told, binding_in, context_by}
use Rattle.bundle_merge_names.proofs.Rising.{Rises, rises-filter, occurrences-rise, place_of, name_place, linked-rise, linked-stands, entry-place, entry-symbol, entry-context}
use Rattle.bundle_merge_names.proofs.Passing.{SplitsAt, splits-first, passes, next-there, told-next}

-- ---- inside

-- the kind of a scope by its order: the first two stand at the top
inner-kind : (kind : ScopeKind) (b begins : ℕ) → scope_order (scope_as kind b) ≡ begins + 2 → (is_at_top kind ≡ false) × (b ≡ begins)
inner-kind TheVariants.Wrapper b begins e = absurd (omega (arith, e))
inner-kind TheVariants.Top b begins e = absurd (omega (arith, e))
inner-kind TheVariants.Parameters b begins e = (refl, omega (arith, e))
inner-kind TheVariants.ArrowParameters b begins e = (refl, omega (arith, e))
inner-kind TheVariants.FunctionBody b begins e = (refl, omega (arith, e))
inner-kind TheVariants.StaticBody b begins e = (refl, omega (arith, e))
inner-kind TheVariants.Block b begins e = (refl, omega (arith, e))
inner-kind TheVariants.CatchBlock b begins e = (refl, omega (arith, e))
inner-kind TheVariants.Loop b begins e = (refl, omega (arith, e))
inner-kind TheVariants.Catch b begins e = (refl, omega (arith, e))
inner-kind TheVariants.FunctionName b begins e = (refl, omega (arith, e))
inner-kind TheVariants.ClassName b begins e = (refl, omega (arith, e))

top-kind : (kind : ScopeKind) (b : ℕ) → scope_order (scope_as kind b) < 2 → is_at_top kind ≡ true
top-kind TheVariants.Wrapper b e = refl
top-kind TheVariants.Top b e = refl
top-kind TheVariants.Parameters b e = absurd (omega (arith, e))
top-kind TheVariants.ArrowParameters b e = absurd (omega (arith, e))
top-kind TheVariants.FunctionBody b e = absurd (omega (arith, e))
top-kind TheVariants.StaticBody b e = absurd (omega (arith, e))
top-kind TheVariants.Block b e = absurd (omega (arith, e))
top-kind TheVariants.CatchBlock b e = absurd (omega (arith, e))
top-kind TheVariants.Loop b e = absurd (omega (arith, e))
top-kind TheVariants.Catch b e = absurd (omega (arith, e))
top-kind TheVariants.FunctionName b e = absurd (omega (arith, e))
top-kind TheVariants.ClassName b e = absurd (omega (arith, e))

order-inner : (kind : ScopeKind) (b : ℕ) → is_at_top kind ≡ false → scope_order (scope_as kind b) ≡ b + 2
order-inner TheVariants.Wrapper b e = cc
order-inner TheVariants.Top b e = cc
order-inner TheVariants.Parameters b e = refl
order-inner TheVariants.ArrowParameters b e = refl
order-inner TheVariants.FunctionBody b e = refl
order-inner TheVariants.StaticBody b e = refl
order-inner TheVariants.Block b e = refl
order-inner TheVariants.CatchBlock b e = refl
order-inner TheVariants.Loop b e = refl
order-inner TheVariants.Catch b e = refl
order-inner TheVariants.FunctionName b e = refl
order-inner TheVariants.ClassName b e = refl

-- a scope that is not at the top is one inside
pub inner-scope : (kind : ScopeKind) (b : ℕ) → is_at_top kind ≡ false → (its : Scopes.ScopeKind) × (scope_as kind b ≡ Scopes.Inner its b)
inner-scope TheVariants.Wrapper b e = absurd (false≢true (sym e))
inner-scope TheVariants.Top b e = absurd (false≢true (sym e))
inner-scope TheVariants.Parameters b e = (Scopes.Parameters, refl)
inner-scope TheVariants.ArrowParameters b e = (Scopes.ArrowParameters, refl)
inner-scope TheVariants.FunctionBody b e = (Scopes.FunctionBody, refl)
inner-scope TheVariants.StaticBody b e = (Scopes.StaticBody, refl)
inner-scope TheVariants.Block b e = (Scopes.Block, refl)
inner-scope TheVariants.CatchBlock b e = (Scopes.CatchBlock, refl)
inner-scope TheVariants.Loop b e = (Scopes.Loop, refl)
inner-scope TheVariants.Catch b e = (Scopes.Catch, refl)
inner-scope TheVariants.FunctionName b e = (Scopes.FunctionName, refl)
inner-scope TheVariants.ClassName b e = (Scopes.ClassName, refl)

-- the scope of the table with this number
pub scope-there : (table : Denotations) (n : ℕ) (scope : Scopes.Scope) → scope_of table n ≡ Some scope → (s : Scope) × (slice_get table.scopes.items n ≡ Some s) × (scope_as s.kind s.begins ≡ scope)
scope-there table n scope at =
    let x = map-there (λ (y : NumberedScope). y.scope) (slice_get (map numbered_scope table.scopes.items) n) scope at in
    let s = map-there numbered_scope (slice_get table.scopes.items n) x.0 (sym (slice_get-map numbered_scope table.scopes.items n) ∙ x.1) in
    (s.0, s.1, ap (λ (y : NumberedScope). y.scope) s.2 ∙ x.2)

pub inner-there : (table : Denotations) (n begins : ℕ) (scope : Scopes.Scope) → scope_of table n ≡ Some scope → scope_order scope ≡ begins + 2 → (s : Scope) × (slice_get table.scopes.items n ≡ Some s) × (is_at_top s.kind ≡ false) × (s.begins ≡ begins)
inner-there table n begins scope at order =
    let s = scope-there table n scope at in
    let its = inner-kind s.0.kind s.0.begins begins (ap scope_order s.2 ∙ order) in
    (s.0, s.1, its.0, its.1)

pub top-there : (table : Denotations) (n : ℕ) (scope : Scopes.Scope) → scope_of table n ≡ Some scope → scope_order scope < 2 → (s : Scope) × (slice_get table.scopes.items n ≡ Some s) × (is_at_top s.kind ≡ true)
top-there table n scope at order =
    let s = scope-there table n scope at in
    (s.0, s.1, top-kind s.0.kind s.0.begins (subst (λ x. scope_order x < 2) (sym s.2) order))

-- no two scopes inside begin at one place
pub same-begin : (table : Denotations) → AreInOrder (map numbered_scope table.scopes.items) → (i j : ℕ) (s t : Scope) → slice_get table.scopes.items i ≡ Some s → slice_get table.scopes.items j ≡ Some t → is_at_top s.kind ≡ false → is_at_top t.kind ≡ false → s.begins ≡ t.begins → i ≡ j
same-begin table order i j s t at_i at_j inner_s inner_t same = same-number (map numbered_scope table.scopes.items) order i j (numbered_scope s) (numbered_scope t) (slice_get-map numbered_scope table.scopes.items i ∙ ap (option_map numbered_scope) at_i) (slice_get-map numbered_scope table.scopes.items j ∙ ap (option_map numbered_scope) at_j) (order-inner s.kind s.begins inner_s ∙ ap (λ n. n + 2) same ∙ sym (order-inner t.kind t.begins inner_t))

-- a name of a scope of which one occurs: the table tells the number of the scope, and that a name of it occurs
pub bound-number : (kind : ModuleKind) (items : List Item) (table : Denotations) → IsDenotationTable BySymbol kind items table → (i : ℕ) (scope : Scopes.Scope) (name : Name) → denoted_as BySymbol kind items i ≡ Some (Denotes.Bound scope name) → (n : ℕ) × (scope_of table n ≡ Some scope) × Binds table.bindings.items table.occurrences.items n
bound-number kind items table is i scope name at =
    let z = zip-back (TellsDenoted (map numbered_scope table.scopes.items) table.bindings.items) table.occurrences.items (denotations BySymbol kind items) i (Denotes.Bound scope name) is.denotes at in
    by z.0 z.1 z.0.binding refl z.2
  where
    by : (entry : Denoted) → slice_get table.occurrences.items i ≡ Some entry → (number : Option ℕ) → entry.binding ≡ number → IsDenoted (map numbered_scope table.scopes.items) table.bindings.items number (Denotes.Bound scope name) → (n : ℕ) × (scope_of table n ≡ Some scope) × Binds table.bindings.items table.occurrences.items n
    by entry there None e t = absurd t
    by entry there (Some number) e t = (
      t.binding.scope,
      t.in_scope,
      record {
        i = i;
        entry = entry;
        there = there;
        scope = ap (scope_number table.bindings.items) e ∙ ap (option_map (λ (b : Binding). b.scope)) t.at;
      },
    )

-- a scope of which a name occurs has a context
pub has-context : (table : Denotations) (local from to : ℕ) (contexts : List (Option ℕ)) → HasScopeContexts table local from to contexts → (n begins : ℕ) (scope : Scopes.Scope) → scope_of table n ≡ Some scope → scope_order scope ≡ begins + 2 → Binds table.bindings.items table.occurrences.items n → (c : ℕ) × (its : HasScopeContext table.scopes.items contexts n c) × (its.scope.begins ≡ begins)
has-context table local from to contexts has n begins scope at order binds =
    let s = inner-there table n begins scope at order in
    let c = has.all n (slice_get_within table.scopes.items n s.0 s.1) binds in
    (c.0, record { scope = s.0; there = s.1; inner = s.2; its = c.1 }, s.3)

-- a scope at the top has that of the top
pub top-context : (table : Denotations) (local from to : ℕ) (contexts : List (Option ℕ)) → HasScopeContexts table local from to contexts → (n : ℕ) (scope : Scopes.Scope) → scope_of table n ≡ Some scope → scope_order scope < 2 → slice_get contexts n ≡ Some (Some local)
top-context table local from to contexts has n scope at order = let s = top-there table n scope at order in has.given.top n s.0 s.1 s.2

-- whether a scope is one inside that begins at a place
abbrev pub begins_at : ℕ → Scope → Bool
begins_at b scope = not (is_at_top scope.kind) && (scope.begins == b)

abbrev or_none : Option ℕ → ℕ
or_none None = 1
or_none (Some c) = c

-- the context of the scope inside that begins at a place
abbrev pub context_at : List Scope → List (Option ℕ) → ℕ → ℕ
context_at [] contexts b = 1
context_at (scope ∷ scopes) [] b = 1
context_at (scope ∷ scopes) (c ∷ contexts) b = cond (begins_at b scope) (or_none c) (context_at scopes contexts b)

begins-is : (b : ℕ) (scope : Scope) → begins_at b scope ≡ true → (is_at_top scope.kind ≡ false) × (scope.begins ≡ b)
begins-is b scope e = by (is_at_top scope.kind) (scope.begins == b) refl refl e
  where
    by : (top same : Bool) → is_at_top scope.kind ≡ top → (scope.begins == b) ≡ same → (not top && same) ≡ true → (is_at_top scope.kind ≡ false) × (scope.begins ≡ b)
    by true same et es e = absurd (false≢true e)
    by false false et es e = absurd (false≢true e)
    by false true et es e = (et, eqb-true scope.begins b es)

is-begin : (b : ℕ) (scope : Scope) → is_at_top scope.kind ≡ false → scope.begins ≡ b → begins_at b scope ≡ true
is-begin b scope inner same = ap (λ top. not top && (scope.begins == b)) inner ∙ eq-eqb scope.begins b same

pub context-is : (scopes : List Scope) (contexts : List (Option ℕ)) (n c b : ℕ) (scope : Scope) → slice_get scopes n ≡ Some scope → is_at_top scope.kind ≡ false → scope.begins ≡ b → slice_get contexts n ≡ Some (Some c) → ((j : ℕ) (other : Scope) → slice_get scopes j ≡ Some other → is_at_top other.kind ≡ false → other.begins ≡ b → j ≡ n) → context_at scopes contexts b ≡ c
context-is [] contexts n c b scope at inner same its only = absurd (none-some scope at)
context-is (s ∷ scopes) [] n c b scope at inner same its only = absurd (none-some (Some c) its)
context-is (s ∷ scopes) (d ∷ contexts) zero c b scope at inner same its only = ap (λ yes. cond yes (or_none d) (context_at scopes contexts b)) (ap (begins_at b) (same_Some s scope at) ∙ is-begin b scope inner same) ∙ ap or_none (same_Some d (Some c) its)
context-is (s ∷ scopes) (d ∷ contexts) (suc n) c b scope at inner same its only = by (begins_at b s) refl (context-is scopes contexts n c b scope at inner same its (λ j other at_j inner_j same_j. let next = only (suc j) other at_j inner_j same_j in omega (arith, next)))
  where
    by : (yes : Bool) → begins_at b s ≡ yes → context_at scopes contexts b ≡ c → cond yes (or_none d) (context_at scopes contexts b) ≡ c
    by true e rest = let is = begins-is b s e in let no = only zero s refl is.0 is.1 in absurd (omega (arith, no))
    by false e rest = rest

module _ (kind : ModuleKind) (items : List Item) (table : Denotations) (is : IsDenotationTable BySymbol kind items table) (local from to : ℕ) (contexts : List (Option ℕ)) (has : HasScopeContexts table local from to contexts) where
  -- the scope that begins at a place, of which a name occurs, has the context that is looked up by the place
  looked-up : (n begins c : ℕ) (its : HasScopeContext table.scopes.items contexts n c) → its.scope.begins ≡ begins → context_at table.scopes.items contexts begins ≡ c
  looked-up n begins c its same = context-is table.scopes.items contexts n c begins its.scope its.there its.inner same its.its (λ j other at_j inner_j same_j. same-begin table is.order j n other its.scope at_j its.there inner_j its.inner (same_j ∙ sym same))

  pub inside-has : (i begins : ℕ) (its : Scopes.ScopeKind) (name : Name) → denoted_as BySymbol kind items i ≡ Some (Denotes.Bound (Scopes.Inner its begins) name) → (n c : ℕ) × (one : HasScopeContext table.scopes.items contexts n c) × (one.scope.begins ≡ begins) × (context_at table.scopes.items contexts begins ≡ c)
  inside-has i begins its name at =
      let number = bound-number kind items table is i (Scopes.Inner its begins) name at in
      let c = has-context table local from to contexts has number.0 begins (Scopes.Inner its begins) number.1 refl number.2 in
      (number.0, c.0, c.1, c.2, looked-up number.0 begins c.0 c.1 c.2)

  -- so the contexts are those of a numbering which looks them up
  pub numbers-are : (g : Numbering) → ((order : ℕ) (x : Text) → order < 2 → g order x ≡ local) → ((begins : ℕ) (x : Text) → g (begins + 2) x ≡ context_at table.scopes.items contexts begins) → AreNumbersOf kind items table g contexts
  numbers-are g tops insides = record { each = each }
    where
      each : (n : ℕ) (scope : Scopes.Scope) (name : Name) (i : ℕ) → scope_of table n ≡ Some scope → denoted_as BySymbol kind items i ≡ Some (Denotes.Bound scope name) → slice_get contexts n ≡ Some (Some (g (scope_order scope) name.sym))
      each n Scopes.Wrapper name i at denoted = top-context table local from to contexts has n Scopes.Wrapper at (omega arith) ∙ ap (λ c. Some (Some c)) (sym (tops 0 name.sym (omega arith)))
      each n Scopes.Top name i at denoted = top-context table local from to contexts has n Scopes.Top at (omega arith) ∙ ap (λ c. Some (Some c)) (sym (tops 1 name.sym (omega arith)))
      each n (Scopes.Inner its begins) name i at denoted =
          let one = inside-has i begins its name denoted in
          let s = inner-there table n begins (Scopes.Inner its begins) at refl in
          let same : n ≡ one.0 = same-begin table is.order n one.0 s.0 one.2.scope s.1 one.2.there s.2 one.2.inner (s.3 ∙ sym one.3) in
          ap (slice_get contexts) same ∙ one.2.its ∙ ap (λ c. Some (Some c)) (sym (insides begins name.sym ∙ one.4))

-- ---- scope

-- what stands in a list with one more
pub push-cases : {A : Type 0} (xs : List A) (x : A) (n : ℕ) (y : A) → slice_get (xs ++ x ∷ []) n ≡ Some y → (slice_get xs n ≡ Some y) ⊎ ((n ≡ length xs) × (x ≡ y))
push-cases [] x zero y e = inr (refl, same_Some x y e)
push-cases [] x (suc n) y e = absurd (none-some y e)
push-cases (a ∷ xs) x zero y e = inl e
push-cases (a ∷ xs) x (suc n) y e = elim (push-cases xs x n y e) [ inl there ↦ inl there | inr last ↦ inr (ap suc last.0, last.1) ]

pub push-last : {A : Type 0} (xs : List A) (x : A) (n : ℕ) → n ≡ length xs → slice_get (xs ++ x ∷ []) n ≡ Some x
push-last xs x n e = ap (slice_get (xs ++ x ∷ [])) e ∙ last-there xs x

-- an error that is handed on is what it was
pub handed-on : {T E : Type 0} (r : Result T E) (e : E) (Q : E → Type 0) → IsErrAnd r (λ x. x ≡ e) → Q e → IfErr r Q
handed-on (Ok x) e Q is q = tt
handed-on (Err x) e Q is q = subst Q (sym is) q

-- none of so many flags is set
pub unmarked : (marks : List Bool) (count : ℕ) → marks ≡ replicate count false → (n : ℕ) → slice_get marks n ≡ Some true → ⊥
unmarked marks count are n e = none-set count n (sym (ap (λ l. slice_get l n) are) ∙ e)
  where
    none-set : (count n : ℕ) → slice_get (replicate count false) n ≡ Some true → ⊥
    none-set zero n e = none-some true e
    none-set (suc count) zero e = false≢true (same_Some false true e)
    none-set (suc count) (suc n) e = none-set count n e

-- nothing binds among no entries
pub marks-first : (bindings : List Binding) (count : ℕ) (marks : List Bool) → length marks ≡ count → ((n : ℕ) → slice_get marks n ≡ Some true → ⊥) → AreMarks bindings [] count marks
marks-first bindings count marks long unmarked = record {
  long = long;
  marked = λ n less binds. absurd (none-some binds.entry binds.there);
  only = λ n is. absurd (unmarked n is);
}

-- one entry more
pub marks-next : (bindings : List Binding) (entries : List Denoted) (i after : ℕ) (entry : Denoted) (count : ℕ) (old new : List Bool) (found : Option ℕ)
    → slice_get entries i ≡ Some entry
    → found ≡ scope_number bindings entry.binding
    → length new ≡ length old
    → ((n : ℕ) → found ≡ Some n → n < length old → slice_get new n ≡ Some true)
    → ((n : ℕ) → slice_get old n ≡ Some true → slice_get new n ≡ Some true)
    → ((n : ℕ) → slice_get new n ≡ Some true → (slice_get old n ≡ Some true) ⊎ (found ≡ Some n))
    → after ≡ suc i
    → AreMarks bindings (take i entries) count old
    → AreMarks bindings (take after entries) count new
marks-next bindings entries i after entry count old new found at is long there kept no_more next marks = record {
  long = long ∙ marks.long;
  marked = λ n less binds. by n less binds (push-cases (take i entries) entry binds.i binds.entry (ap (λ l. slice_get l binds.i) (sym whole) ∙ binds.there));
  only = λ n marked. subst (λ l. Binds bindings l n) (sym whole) (only-by n (no_more n marked));
}
  where
    whole : take after entries ≡ take i entries ++ entry ∷ []
    whole = ap (λ k. take k entries) next ∙ take-next entries i entry at

    only-by : (n : ℕ) → (slice_get old n ≡ Some true) ⊎ (found ≡ Some n) → Binds bindings (take i entries ++ entry ∷ []) n
    only-by n (inl was) = let b = marks.only n was in record { i = b.i; entry = b.entry; there = push-old (take i entries) entry b.i b.entry b.there; scope = b.scope }
    only-by n (inr its) = record { i = length (take i entries); entry = entry; there = push-last (take i entries) entry (length (take i entries)) refl; scope = sym is ∙ its }

    by : (n : ℕ) → n < count → (binds : Binds bindings (take after entries) n) → (slice_get (take i entries) binds.i ≡ Some binds.entry) ⊎ ((binds.i ≡ length (take i entries)) × (entry ≡ binds.entry)) → slice_get new n ≡ Some true
    by n less binds (inl before) = kept n (marks.marked n less (record { i = binds.i; entry = binds.entry; there = before; scope = binds.scope }))
    by n less binds (inr last) = let same = marks.long in there n (is ∙ ap (λ (e : Denoted). scope_number bindings e.binding) last.1 ∙ binds.scope) (omega (arith, less, same))

-- numbers that fall from below one on fall from below a greater one, and so they do told otherwise
pub falls-up : (Its : ℕ → Type 0) (a b : ℕ) (numbers : List ℕ) → a ≤ b → AreFalling Its a numbers → AreFalling Its b numbers
falls-up Its a b [] less fall = tt
falls-up Its a b (n ∷ rest) less fall = let below = fall.0 in (omega (arith, below, less), fall.1, fall.2)

pub falls-so : (Its Those : ℕ → Type 0) (a : ℕ) (numbers : List ℕ) → ((n : ℕ) → Its n → Those n) → AreFalling Its a numbers → AreFalling Those a numbers
falls-so Its Those a [] so fall = tt
falls-so Its Those a (n ∷ rest) so fall = (fall.0, so n fall.1, falls-so Its Those n rest so fall.2)

-- no scopes
pub scoped-first : (marks : List Bool) (local from to : ℕ) (contexts : List (Option ℕ)) → contexts ≡ [] → from ≡ to → AreScoped [] marks local from to contexts
scoped-first marks local from to contexts none same = record {
  long = ap length none;
  later = omega (arith, same);
  taken = record { numbers = []; fall = tt; count = omega (arith, same) };
  top = λ n scope at is. absurd (none-some scope at);
  within = λ n c scope at is its. absurd (none-some scope at);
  apart = λ n m c scope other at at_m is is_m its its_m. absurd (none-some scope at);
  all = λ n scope at flag. absurd (none-some scope at);
}

-- one scope more
pub scoped-next : (scopes : List Scope) (i after : ℕ) (scope : Scope) (marks : List Bool) (local from : ℕ) (old new : BundleNames) (contexts more : List (Option ℕ)) (context : Option ℕ)
    → slice_get scopes i ≡ Some scope
    → length (take i scopes) ≡ i
    → GivesScope (is_at_top scope.kind) (flag_in marks i) local old new context
    → more ≡ contexts ++ context ∷ []
    → after ≡ suc i
    → AreScoped (take i scopes) marks local from (position old.contexts) contexts
    → AreScoped (take after scopes) marks local from (position new.contexts) more
scoped-next scopes i after scope marks local from old new contexts more context at whole gives pushed next are =
    subst (λ l. AreScoped l marks local from (position new.contexts) more) (sym (ap (λ k. take k scopes) next ∙ take-next scopes i scope at))
    (subst (AreScoped (take i scopes ++ scope ∷ []) marks local from (position new.contexts)) (sym pushed) one)
  where
    before : List Scope
    before = take i scopes

    -- the context that was given is a new one
    is-new : (top binds : Bool) (c : ℕ) → top ≡ false → context_for top binds local (position old.contexts) ≡ Some c → (c ≡ position old.contexts) × (next_after top binds (position old.contexts) ≡ suc (position old.contexts))
    is-new true binds c e is = absurd (false≢true (sym e))
    is-new false true c e is = (sym (same_Some (position old.contexts) c is), refl)
    is-new false false c e is = absurd (none-some c is)

    no-lower : (top binds : Bool) → position old.contexts ≤ next_after top binds (position old.contexts)
    no-lower true true = omega arith
    no-lower true false = omega arith
    no-lower false true = omega arith
    no-lower false false = omega arith

    later : position old.contexts ≤ position new.contexts
    later = let l = no-lower (is_at_top scope.kind) (flag_in marks i) in let e = gives.next in omega (arith, l, e)

    last-new : (c : ℕ) → is_at_top scope.kind ≡ false → context ≡ Some c → (c ≡ position old.contexts) × (position new.contexts ≡ suc (position old.contexts))
    last-new c inner is = let n = is-new (is_at_top scope.kind) (flag_in marks i) c inner (sym gives.its ∙ is) in (n.0, gives.next ∙ n.1)

    top-is : (top binds : Bool) → top ≡ true → context_for top binds local (position old.contexts) ≡ Some local
    top-is true binds e = refl
    top-is false binds e = absurd (false≢true e)

    marked-is : (top binds : Bool) → binds ≡ true → (c : ℕ) × (context_for top binds local (position old.contexts) ≡ Some c)
    marked-is true binds e = (local, refl)
    marked-is false true e = (position old.contexts, refl)
    marked-is false false e = absurd (false≢true e)

    one-more : (n : ℕ) → IsScopeMarked before marks n → IsScopeMarked (before ++ scope ∷ []) marks n
    one-more n its = record { scope = its.scope; there = push-old before scope n its.scope its.there; inner = its.inner; flag = its.flag }

    was : AreFalling (IsScopeMarked (before ++ scope ∷ []) marks) (length before) are.taken.numbers
    was = falls-so (IsScopeMarked before marks) (IsScopeMarked (before ++ scope ∷ []) marks) (length before) are.taken.numbers one-more are.taken.fall

    stays : position new.contexts ≡ position old.contexts → AreMarkedTaken (before ++ scope ∷ []) marks from (position new.contexts)
    stays same = record {
      numbers = are.taken.numbers;
      fall = falls-up (IsScopeMarked (before ++ scope ∷ []) marks) (length before) (length (before ++ scope ∷ [])) are.taken.numbers (let long = push-long before scope in omega (arith, long)) was;
      count = same ∙ are.taken.count;
    }

    -- one more is taken where one was given
    taken-by : (top binds : Bool) → is_at_top scope.kind ≡ top → flag_in marks i ≡ binds → position new.contexts ≡ next_after top binds (position old.contexts) → AreMarkedTaken (before ++ scope ∷ []) marks from (position new.contexts)
    taken-by true binds inner marked is = stays (is)
    taken-by false false inner marked is = stays (is)
    taken-by false true inner marked is = record {
      numbers = length before ∷ are.taken.numbers;
      fall = (let long = push-long before scope in omega (arith, long), record { scope = scope; there = push-last before scope (length before) refl; inner = inner; flag = ap (flag_in marks) whole ∙ marked }, was);
      count = let its = are.taken.count in omega (arith, its, is);
    }

    -- what stands in both lists is old, or the last
    Cases : ℕ → Scope → Type 0
    Cases n s = (slice_get before n ≡ Some s) ⊎ ((n ≡ length before) × (scope ≡ s))

    scope-cases : (n : ℕ) (s : Scope) → slice_get (before ++ scope ∷ []) n ≡ Some s → Cases n s
    scope-cases n s e = push-cases before scope n s e

    old-context : (n : ℕ) (s : Scope) (c : Option ℕ) → slice_get before n ≡ Some s → slice_get (contexts ++ context ∷ []) n ≡ Some c → slice_get contexts n ≡ Some c
    old-context n s c at_n e = elim (push-cases contexts context n c e) [ inl there ↦ there | inr last ↦ (let l = slice_get_within before n s at_n in let same = are.long in absurd (omega (arith, l, same, last.0))) ]

    new-context : (n : ℕ) (c : Option ℕ) → n ≡ length before → slice_get (contexts ++ context ∷ []) n ≡ Some c → context ≡ c
    new-context n c e its = same_Some context c (sym (push-last contexts context n (e ∙ sym are.long)) ∙ its)

    in-range : (n c : ℕ) (s : Scope) → Cases n s → is_at_top s.kind ≡ false → slice_get (contexts ++ context ∷ []) n ≡ Some (Some c) → (from ≤ c) × (c < position new.contexts)
    in-range n c s (inl there) inner its = let w = are.within n c s there inner (old-context n s (Some c) there its) in let low = w.0 in let high = w.1 in (omega (arith, low), omega (arith, high, later))
    in-range n c s (inr last) inner its = let w = last-new c (ap (λ (x : Scope). is_at_top x.kind) last.1 ∙ inner) (new-context n (Some c) last.0 its) in let a = w.0 in let b = w.1 in let low = are.later in (omega (arith, a, low), omega (arith, a, b))

    no-two : (n m c : ℕ) (s r : Scope) → Cases n s → Cases m r → is_at_top s.kind ≡ false → is_at_top r.kind ≡ false → slice_get (contexts ++ context ∷ []) n ≡ Some (Some c) → slice_get (contexts ++ context ∷ []) m ≡ Some (Some c) → n ≡ m
    no-two n m c s r (inl a) (inl b) inner_s inner_r its_n its_m = are.apart n m c s r a b inner_s inner_r (old-context n s (Some c) a its_n) (old-context m r (Some c) b its_m)
    no-two n m c s r (inr a) (inr b) inner_s inner_r its_n its_m = a.0 ∙ sym b.0
    no-two n m c s r (inl a) (inr b) inner_s inner_r its_n its_m = let w = are.within n c s a inner_s (old-context n s (Some c) a its_n) in let high = w.1 in let l = last-new c (ap (λ (x : Scope). is_at_top x.kind) b.1 ∙ inner_r) (new-context m (Some c) b.0 its_m) in let is = l.0 in absurd (omega (arith, high, is))
    no-two n m c s r (inr a) (inl b) inner_s inner_r its_n its_m = let w = are.within m c r b inner_r (old-context m r (Some c) b its_m) in let high = w.1 in let l = last-new c (ap (λ (x : Scope). is_at_top x.kind) a.1 ∙ inner_s) (new-context n (Some c) a.0 its_n) in let is = l.0 in absurd (omega (arith, high, is))

    at-top : (n : ℕ) (s : Scope) → Cases n s → is_at_top s.kind ≡ true → slice_get (contexts ++ context ∷ []) n ≡ Some (Some local)
    at-top n s (inl there) is = push-old contexts context n (Some local) (are.top n s there is)
    at-top n s (inr last) is = push-last contexts context n (last.0 ∙ sym are.long) ∙ ap (λ x. Some x) (gives.its ∙ top-is (is_at_top scope.kind) (flag_in marks i) (ap (λ (x : Scope). is_at_top x.kind) last.1 ∙ is))

    has-one : (n : ℕ) (s : Scope) → Cases n s → flag_in marks n ≡ true → (c : ℕ) × (slice_get (contexts ++ context ∷ []) n ≡ Some (Some c))
    has-one n s (inl there) flag = let a = are.all n s there flag in (a.0, push-old contexts context n (Some a.0) a.1)
    has-one n s (inr last) flag = let m = marked-is (is_at_top scope.kind) (flag_in marks i) (ap (flag_in marks) (sym (last.0 ∙ whole)) ∙ flag) in (m.0, push-last contexts context n (last.0 ∙ sym are.long) ∙ ap (λ x. Some x) (gives.its ∙ m.1))

    one : AreScoped (before ++ scope ∷ []) marks local from (position new.contexts) (contexts ++ context ∷ [])
    one = record {
      long = push-long contexts context ∙ ap suc are.long ∙ sym (push-long before scope);
      later = let low = are.later in omega (arith, low, later);
      taken = taken-by (is_at_top scope.kind) (flag_in marks i) refl refl gives.next;
      top = λ n s at_n is. at-top n s (scope-cases n s at_n) is;
      within = λ n c s at_n inner its. in-range n c s (scope-cases n s at_n) inner its;
      apart = λ n m c s r at_n at_m inner_s inner_r its_n its_m. no-two n m c s r (scope-cases n s at_n) (scope-cases m r at_m) inner_s inner_r its_n its_m;
      all = λ n s at_n flag. has-one n s (scope-cases n s at_n) flag;
    }

flag-there : (marks : List Bool) (n : ℕ) → flag_in marks n ≡ true → slice_get marks n ≡ Some true
flag-there [] n e = absurd (false≢true e)
flag-there (m ∷ marks) zero e = ap (λ b. Some b) e
flag-there (m ∷ marks) (suc n) e = flag-there marks n e

pub taken-there : {A : Type 0} (xs : List A) (i n : ℕ) (x : A) → slice_get (take i xs) n ≡ Some x → slice_get xs n ≡ Some x
taken-there xs zero n x e = absurd (none-some x e)
taken-there [] (suc i) n x e = absurd (none-some x e)
taken-there (y ∷ xs) (suc i) zero x e = e
taken-there (y ∷ xs) (suc i) (suc n) x e = taken-there xs i n x e

take-short : {A : Type 0} (xs : List A) (i : ℕ) → length (take i xs) ≤ length xs
take-short xs zero = omega arith
take-short [] (suc i) = omega arith
take-short (y ∷ xs) (suc i) = let rest = take-short xs i in omega (arith, rest)

-- as many are taken as scopes inside were gone over of which a name occurs
pub marked-needs : (table : Denotations) (marks : List Bool) (scopes : List Scope) → ((n : ℕ) (s : Scope) → slice_get scopes n ≡ Some s → slice_get table.scopes.items n ≡ Some s) → AreMarks table.bindings.items table.occurrences.items (length table.scopes.items) marks → (n : ℕ) → IsScopeMarked scopes marks n → NeedsContext table n
marked-needs table marks scopes part are_marks n its = record {
  scope = its.scope;
  there = part n its.scope its.there;
  inner = its.inner;
  binds = are_marks.only n (flag-there marks n its.flag);
}

pub marked-taken : (table : Denotations) (marks : List Bool) (from to i : ℕ) → AreMarks table.bindings.items table.occurrences.items (length table.scopes.items) marks → AreMarkedTaken (take i table.scopes.items) marks from to → AreContextsTaken table from to
marked-taken table marks from to i are_marks taken = record {
  numbers = taken.numbers;
  fall = falls-so (IsScopeMarked (take i table.scopes.items) marks) (NeedsContext table) (length table.scopes.items) taken.numbers (marked-needs table marks (take i table.scopes.items) (taken-there table.scopes.items i) are_marks) (falls-up (IsScopeMarked (take i table.scopes.items) marks) (length (take i table.scopes.items)) (length table.scopes.items) taken.numbers (take-short table.scopes.items i) taken.fall);
  count = taken.count;
}

-- all scopes
pub scoped-all : (table : Denotations) (marks : List Bool) (local from to i : ℕ) (contexts : List (Option ℕ)) → length table.scopes.items ≤ i → AreMarks table.bindings.items table.occurrences.items (length table.scopes.items) marks → AreScoped (take i table.scopes.items) marks local from to contexts → HasScopeContexts table local from to contexts
scoped-all table marks local from to i contexts past are_marks scoped = record {
  later = are.later;
  taken = marked-taken table marks from to i are_marks scoped.taken;
  given = record { top = are.top; within = are.within; apart = are.apart };
  all = λ n less binds. let s = there-below table.scopes.items n less in are.all n s.0 s.1 (ap (λ o. unwrap_or o false) (are_marks.marked n less binds));
}
  where
    are : AreScoped table.scopes.items marks local from to contexts
    are = subst (λ l. AreScoped l marks local from to contexts) (take-whole table.scopes.items i past) scoped

-- names keep what they hold
keeps-on : (a b c : BundleNames) → KeepsBundleNames a b → KeepsBundleNames b c → KeepsBundleNames a c
keeps-on a b c one two = record {
  locals = two.locals ∙ one.locals;
  scopes = two.scopes ∙ one.scopes;
  answered = two.answered ∙ one.answered;
  labels = two.labels ∙ one.labels;
}

-- so many scopes were gone over
pub record IsGoneOver (table : Denotations) (marks : List Bool) (local : ℕ) (old now : BundleNames) (contexts : List (Option ℕ)) (i : ℕ) : Type 0 where
  pub scoped : AreScoped (take i table.scopes.items) marks local (position old.contexts) (position now.contexts) contexts
  pub same : KeepsBundleNames old now

pub gone-first : (table : Denotations) (marks : List Bool) (local : ℕ) (names : BundleNames) (contexts : List (Option ℕ)) → contexts ≡ [] → IsGoneOver table marks local names names contexts 0
gone-first table marks local names contexts none = record {
  scoped = scoped-first marks local (position names.contexts) (position names.contexts) contexts none refl;
  same = record { locals = refl; scopes = refl; answered = refl; labels = refl };
}

pub take-long : {A : Type 0} (xs : List A) (i : ℕ) (x : A) → slice_get xs i ≡ Some x → length (take i xs) ≡ i
take-long [] i x e = absurd (none-some x e)
take-long (y ∷ xs) zero x e = refl
take-long (y ∷ xs) (suc i) x e = ap suc (take-long xs i x e)

pub gone-next : (table : Denotations) (marks : List Bool) (local : ℕ) (first old new : BundleNames) (contexts more : List (Option ℕ)) (context : Option ℕ) (scope : Scope) (i after number : ℕ)
    → slice_get table.scopes.items i ≡ Some scope
    → number ≡ length contexts
    → GivesScope (is_at_top scope.kind) (flag_in marks number) local old new context
    → more ≡ contexts ++ context ∷ []
    → after ≡ suc i
    → IsGoneOver table marks local first old contexts i
    → IsGoneOver table marks local first new more after
gone-next table marks local first old new contexts more context scope i after number at count gives pushed next is =
    let whole = take-long table.scopes.items i scope at in
    let its : number ≡ i = count ∙ is.scoped.long ∙ whole in
    record {
      scoped = scoped-next table.scopes.items i after scope marks local (position first.contexts) old new contexts more context at whole (subst (λ n. GivesScope (is_at_top scope.kind) (flag_in marks n) local old new context) its gives) pushed next is.scoped;
      same = keeps-on first old new is.same gives.same;
    }

pub gone-all : (table : Denotations) (marks : List Bool) (local : ℕ) (old new : BundleNames) (contexts : List (Option ℕ)) (i : ℕ) → length table.scopes.items ≤ i → AreMarks table.bindings.items table.occurrences.items (length table.scopes.items) marks → IsGoneOver table marks local old new contexts i → GivesScopeContexts table local old new contexts
gone-all table marks local old new contexts i past are_marks is = record {
  has = scoped-all table marks local (position old.contexts) (position new.contexts) i contexts past are_marks is.scoped;
  same = is.same;
}

-- no context is left for a scope
pub gone-refused : (table : Denotations) (marks : List Bool) (local : ℕ) (old now : BundleNames) (contexts : List (Option ℕ)) (i number m : ℕ) (scope : Scope) (refusal : MergeError)
    → slice_get table.scopes.items i ≡ Some scope
    → number ≡ length contexts
    → AreMarks table.bindings.items table.occurrences.items (length table.scopes.items) marks
    → RefusesScope (is_at_top scope.kind) (flag_in marks number) m now refusal
    → IsGoneOver table marks local old now contexts i
    → RefusesContexts table (position old.contexts) m refusal
gone-refused table marks local old now contexts i number m scope refusal at count are_marks refuses is =
    let its : number ≡ i = count ∙ is.scoped.long ∙ take-long table.scopes.items i scope at in
    let flag : flag_in marks i ≡ true = ap (flag_in marks) (sym its) ∙ refuses.marked in
    subst (RefusesContexts table (position old.contexts) m) (sym refuses.is)
    (for_contexts i (record { scope = scope; there = at; inner = refuses.inner; binds = are_marks.only i (flag-there marks i flag) })
    (subst (AreContextsTaken table (position old.contexts)) refuses.full (marked-taken table marks (position old.contexts) (position now.contexts) i are_marks is.scoped.taken)))

-- ---- walking

-- a rewrite is a step to what it tells
pub step-to : (rewrite : Rewrite) (ident : Ident) (whole : Whole) → rewrite_told rewrite ≡ (ident, whole) → IsStepTo ident whole (rewrite_step rewrite)
step-to rewrite ident whole is = record {
  its_ident = ap (λ (pair : Ident × Whole). pair.0) is;
  its_whole = ap (λ (pair : Ident × Whole). pair.1) is;
  spells = λ symbol x. refl;
}

-- the place of a use
abbrev pub use_place : UseEntry → ℕ
use_place its = its.place

module _ (p : Program) (list : List ℕ) (context : BundleContexts) (k : ℕ) (kind : ModuleKind) (part : BundleModule) (linking : Linking) (names : BundleNames) (read : IsModuleReadAs p list context k kind part linking names) where
  abbrev tree : List Item
  tree = tree_of p k

  abbrev items : List Item
  items = list_of_part part

  abbrev os : List Occurrence
  os = occurrences tree

  abbrev table : Denotations
  table = part.denotations.now

  pub os-cleared : os ≡ map cleared_occurrence (occurrences items)
  os-cleared = ap occurrences read.tree ∙ occurrences-cleared items

  -- an occurrence of the list is one of the tree
  pub os-there : (i : ℕ) (q : Occurrence) → slice_get (occurrences items) i ≡ Some q → slice_get os i ≡ Some (cleared_occurrence q)
  os-there i q at = ap (λ l. slice_get l i) os-cleared ∙ slice_get-map cleared_occurrence (occurrences items) i ∙ ap (option_map cleared_occurrence) at

  pub os-rise : Rises place_of 0 os
  os-rise = occurrences-rise start tree

  pub uses-rise : Rises use_place 0 (uses_of tree)
  uses-rise = mapped (filter (is_use tree) os) 0 (rises-filter place_of (is_use tree) 0 os os-rise)
    where
      mapped : (qs : List Occurrence) (from : ℕ) → Rises place_of from qs → Rises use_place from (map (use_of tree) qs)
      mapped [] from rises = tt
      mapped (q ∷ qs) from rises = (rises.0, mapped qs (suc q.place) rises.1)

  -- occurrences at one place are one
  one-there : (i j : ℕ) (o q : Occurrence) → slice_get os i ≡ Some o → slice_get os j ≡ Some q → o.place ≡ q.place → o ≡ q
  one-there i j o q at there same = same_Some o q (sym (occurrences-at tree i o at) ∙ ap (occurrence_at tree) same ∙ occurrences-at tree j q there)

  -- a use is that of an occurrence
  use-stands : (n : ℕ) (its : UseEntry) → slice_get (uses_of tree) n ≡ Some its → (j : ℕ) × (q : Occurrence) × (slice_get os j ≡ Some q) × (use_of tree q ≡ its) × (is_use tree q ≡ true)
  use-stands n its at =
      let m = map-back (use_of tree) (filter (is_use tree) os) its (place-there (uses_of tree) n its at) in
      let f = filter-back (is_use tree) os m.0 m.1 in
      let j = there-place os m.0 f.0 in
      (j.0, m.0, j.1, m.2, f.1)

  pub uses-first : SplitsAt use_place (uses_of tree) os 0 0
  uses-first = splits-first use_place (uses_of tree) os (λ n its at. let s = use-stands n its at in (s.0, s.1, s.2, sym (ap use_place s.3)))

  pub calls-first : SplitsAt name_place (calls_of p k) os 0 0
  calls-first = splits-first name_place (calls_of p k) os (λ n call at. let s = linked-stands p k call (place-there (calls_of p k) n call at) in let j = occurrence_at-listed tree (suc call.place) s.0 s.1 in (j.0, s.0, j.1, sym (placed-at tree (suc call.place) s.0 s.1)))

  module _ (i : ℕ) (o : Occurrence) (entry : Denoted) (at : slice_get os i ≡ Some o) (there : slice_get table.occurrences.items i ≡ Some entry) where
    back : (q : Occurrence) × (slice_get (occurrences items) i ≡ Some q) × (cleared_occurrence q ≡ o)
    back = map-there cleared_occurrence (slice_get (occurrences items) i) o (sym (slice_get-map cleared_occurrence (occurrences items) i) ∙ sym (ap (λ l. slice_get l i) os-cleared) ∙ at)

    pub same-place : entry.place ≡ o.place
    same-place = entry-place kind items table read.table i entry there back.0 back.1 ∙ ap place_of back.2

    abbrev denoted : Denotes.Denoted
    denoted = denoted_of BySymbol kind (declared BySymbol kind tree) o

    denoted-there : slice_get (denotations BySymbol kind items) i ≡ Some denoted
    denoted-there = sym (ap (λ l. slice_get l i) (ap (denotations BySymbol kind) read.tree ∙ denotations-cleared kind items)) ∙ denotation-at kind tree i o at

    own-there : own_told items table (scopes_in names k) entry ≡ ((o.sym, context_of (numbers_in context k) denoted), in_variants.Alone)
    own-there =
        ap (λ x. ((x, context_by (scopes_in names k) (binding_in table.bindings.items entry.binding)), in_variants.Alone)) (entry-symbol kind items table read.table i entry there back.0 back.1 ∙ ap (λ (q : Occurrence). q.sym) back.2)
        ∙ ap (λ c. ((o.sym, c), in_variants.Alone)) (entry-context kind items table read.table i entry there (numbers_in context k) (scopes_in names k) read.numbers denoted denoted-there)

    module _ (uses calls : ℕ) (uses_split : SplitsAt use_place (uses_of tree) os uses i) (calls_split : SplitsAt name_place (calls_of p k) os calls i) where
      abbrev use_found : Option Use
      use_found = slice_get part.tables.now.uses.items uses

      abbrev call_found : Option RequireCall
      call_found = slice_get part.tables.now.calls.items calls

      abbrev entry_of : Use → UseEntry
      entry_of = use_entry_of part.tables.now.reads.items

      pub uses-next : SplitsAt use_place (uses_of tree) os (past_by (is_use_at o.place use_found) uses) (suc i)
      uses-next = passes use_place entry_of part.tables.now.uses.items (uses_of tree) read.tables.uses os uses-rise os-rise uses i o at uses_split

      pub calls-next : SplitsAt name_place (calls_of p k) os (past_by (is_call_at o.place call_found) calls) (suc i)
      calls-next = passes name_place call_entry_of part.tables.now.calls.items (calls_of p k) read.tables.calls os (linked-rise p k) os-rise calls i o at calls_split

      use-told : (found : Option Use) → use_found ≡ found → slice_get (uses_of tree) uses ≡ option_map entry_of found
      use-told = told-next use_place entry_of part.tables.now.uses.items (uses_of tree) read.tables.uses os uses-rise os-rise uses i o at uses_split

      call-told : (found : Option RequireCall) → call_found ≡ found → slice_get (calls_of p k) calls ≡ option_map call_entry_of found
      call-told = told-next name_place call_entry_of part.tables.now.calls.items (calls_of p k) read.tables.calls os (linked-rise p k) os-rise calls i o at calls_split

      -- a use that stands there
      is-used : (meaning : Meaning) → is_use_at o.place use_found ≡ true → IsUseFound linking k uses (Some meaning) → IsTargetUsed p k o meaning.steps (target_of meaning.target)
      is-used meaning is found = by use_found refl is
        where
          by : (u : Option Use) → use_found ≡ u → is_use_at o.place u ≡ true → IsTargetUsed p k o meaning.steps (target_of meaning.target)
          by None rewrite_told is = absurd (false≢true is)
          by (Some u) rewrite_told is =
              let s = use-stands uses (entry_of u) (use-told (Some u) rewrite_told) in
              let same : s.1 ≡ o = one-there s.0 i s.1 o s.2 at (ap use_place s.3 ∙ eqb-true u.place o.place is) in
              let its : entry_of u ≡ use_of tree o = sym s.3 ∙ ap (use_of tree) same in
              record {
                used = subst (λ q. is_use tree q ≡ true) same s.4;
                means = found p read.linked read.reached (use_of tree o) (use-told (Some u) rewrite_told ∙ ap (λ x. Some x) its);
              }

      -- where none stands there that means something
      not-used : MeansNothing linking k uses (is_use_at o.place use_found) → (n : ℕ) (t : in_linking.Target) → IsTargetUsed p k o n t → ⊥
      not-used nothing n t used =
          let listed = there-place (uses_of tree) (use_of tree o) (map-on (use_of tree) (filter (is_use tree) os) o (filter-on (is_use tree) os o (place-there os i o at) used.used)) in
          let next = next-there use_place entry_of part.tables.now.uses.items (uses_of tree) read.tables.uses os uses-rise os-rise uses i o at uses_split listed.0 (use_of tree o) listed.1 refl in
          let stands : is_use_at o.place use_found ≡ true = ap (is_use_at o.place) next.1 ∙ eq-eqb next.0.place o.place (ap use_place next.2) in
          nothing stands p read.linked read.reached (use_of tree o) (use-told (Some next.0) next.1 ∙ ap (λ x. Some x) next.2) used.means.named used.means.stands

      -- a call whose name stands there
      is-called : (c : ℕ) → module_called (get_by_text part.leads.now) o.place call_found ≡ Some c → IsCalled p k o c
      is-called c is = by call_found refl is
        where
          listed : (call : RequireCall) → call_found ≡ Some call → Contains (calls_of p k) (call_entry_of call)
          listed call rewrite_told = place-there (calls_of p k) calls (call_entry_of call) (call-told (Some call) rewrite_told)

          by-place : (call : RequireCall) → call_found ≡ Some call → (here : Bool) → (suc call.place == o.place) ≡ here → (if here then get_by_text part.leads.now call.specifier.now else None) ≡ Some c → IsCalled p k o c
          by-place call rewrite_told true here is = record {
            call = call_entry_of call;
            linked = listed call rewrite_told;
            here = eqb-true (suc call.place) o.place here;
            leads = call_leads p k (call_entry_of call) (listed call rewrite_told) ∙ read.leads call.specifier.now ∙ is;
          }
          by-place call rewrite_told false here is = absurd (none-some c is)

          by : (found : Option RequireCall) → call_found ≡ found → module_called (get_by_text part.leads.now) o.place found ≡ Some c → IsCalled p k o c
          by None rewrite_told is = absurd (none-some c is)
          by (Some call) rewrite_told is = by-place call rewrite_told (suc call.place == o.place) refl is

      -- where none stands there that leads to a module
      not-called : module_called (get_by_text part.leads.now) o.place call_found ≡ None → (c : ℕ) → IsCalled p k o c → ⊥
      not-called none c called =
          let listed = there-place (calls_of p k) called.call called.linked in
          let next = next-there name_place call_entry_of part.tables.now.calls.items (calls_of p k) read.tables.calls os (linked-rise p k) os-rise calls i o at calls_split listed.0 called.call listed.1 called.here in
          let here : (suc next.0.place == o.place) ≡ true = eq-eqb (suc next.0.place) o.place (ap name_place next.2 ∙ called.here) in
          let says : module_called (get_by_text part.leads.now) o.place call_found ≡ get_by_text part.leads.now next.0.specifier.now = ap (module_called (get_by_text part.leads.now) o.place) next.1 ∙ ap (λ (yes : Bool). if yes then get_by_text part.leads.now next.0.specifier.now else None) here in
          let leads : get_by_text part.leads.now next.0.specifier.now ≡ Some c = ap (λ (call : Entries.RequireCall). get_by_text part.leads.now call.specifier) next.2 ∙ sym (read.leads called.call.specifier) ∙ sym (call_leads p k called.call called.linked) ∙ called.leads in
          none-some c (sym none ∙ says ∙ leads)

      pub step-there : (own rewrite : Rewrite) → rewrite_told own ≡ own_told items table (scopes_in names k) entry → IsRewritten part k linking names uses calls o.place own rewrite → IsStep p list context k kind o (rewrite_step rewrite)
      step-there own rewrite is (Body.by_use meaning stands found becomes) =
          let used = is-used meaning stands found in
          Steps.uses used (step-to rewrite _ _ (becomes ∙ ap (λ x. (x, whole_of meaning.steps)) (read.targets meaning.target (meant meaning used))))
        where
          meant : (meaning : Meaning) → IsTargetUsed p k o meaning.steps (target_of meaning.target) → IsMeant p (Of (target_of meaning.target))
          meant meaning used = taken-meant p read.modules (by_use read.reached (map-on (use_of tree) (filter (is_use tree) os) o (filter-on (is_use tree) os o (place-there os i o at) used.used)) used.means)
      step-there own rewrite is (Body.by_call c nothing leads becomes) =
          let called = is-called c leads in
          Steps.calls called (step-to rewrite _ _ (becomes ∙ ap (λ x. (x, in_variants.Call)) (read.loads c called.call called.linked called.leads)))
      step-there own rewrite is (Body.by_own nothing none becomes) =
          Steps.keeps (not-used nothing) (not-called none) (step-to rewrite _ _ (becomes ∙ is ∙ own-there))

-- what is told of so many names of a module that were gone over
pub record IsAt (p : Program) (list : List ℕ) (context : BundleContexts) (k : ℕ) (kind : ModuleKind) (rewrites : List Rewrite) (uses calls i : ℕ) : Type 0 where
  pub steps : AllZip (λ o rewrite. IsStep p list context k kind o (rewrite_step rewrite)) (take i (occurrences (tree_of p k))) rewrites
  pub uses_split : SplitsAt use_place (uses_of (tree_of p k)) (occurrences (tree_of p k)) uses i
  pub calls_split : SplitsAt name_place (calls_of p k) (occurrences (tree_of p k)) calls i

-- the same for any program that has the module
pub record IsWalked (part : BundleModule) (k : ℕ) (linking : Linking) (names : BundleNames) (rewrites : List Rewrite) (uses calls i : ℕ) : Type 0 where
  pub told_of : (p : Program) (list : List ℕ) (context : BundleContexts) (kind : ModuleKind) →
      IsModuleReadAs p list context k kind part linking names →
      IsAt p list context k kind rewrites uses calls i

zip-there : {A B : Type 0} (R : A → B → Type 0) (xs : List A) (ys : List B) (i : ℕ) (x : A) → AllZip R xs ys → slice_get xs i ≡ Some x → (y : B) × (slice_get ys i ≡ Some y)
zip-there R [] ys i x all ex = absurd (none-some x ex)
zip-there R (a ∷ xs) [] i x all ex = absurd all
zip-there R (a ∷ xs) (b ∷ ys) zero x all ex = (b, refl)
zip-there R (a ∷ xs) (b ∷ ys) (suc i) x all ex = zip-there R xs ys i x all.1 ex

-- at first nothing was gone over
pub walked-first : (part : BundleModule) (k : ℕ) (linking : Linking) (names : BundleNames) (rewrites : List Rewrite) → rewrites ≡ [] → IsWalked part k linking names rewrites 0 0 0
walked-first part k linking names rewrites none = record {
  told_of = λ p list context kind read. record {
    steps = subst (λ l. AllZip (λ o rewrite. IsStep p list context k kind o (rewrite_step rewrite)) [] l) (sym none) tt;
    uses_split = uses-first p list context k kind part linking names read;
    calls_split = calls-first p list context k kind part linking names read;
  };
}

-- one name more
pub walked-next : (part : BundleModule) (k : ℕ) (linking : Linking) (names : BundleNames) (rewrites more : List Rewrite) (uses calls uses_after calls_after i after : ℕ) (entry : Denoted) (own rewrite : Rewrite)
    → slice_get part.denotations.now.occurrences.items i ≡ Some entry
    → rewrite_told own ≡ own_told (list_of_part part) part.denotations.now (scopes_in names k) entry
    → IsRewritten part k linking names uses calls entry.place own rewrite
    → more ≡ rewrites ++ rewrite ∷ []
    → uses_after ≡ past_by (is_use_at entry.place (slice_get part.tables.now.uses.items uses)) uses
    → calls_after ≡ past_by (is_call_at entry.place (slice_get part.tables.now.calls.items calls)) calls
    → after ≡ suc i
    → IsWalked part k linking names rewrites uses calls i
    → IsWalked part k linking names more uses_after calls_after after
walked-next part k linking names rewrites more uses calls uses_after calls_after i after entry own rewrite there owns becomes pushed uses_are calls_are next walked = record {
  told_of = λ p list context kind read. at p list context kind read (walked.told_of p list context kind read);
}
  where
    at : (p : Program) (list : List ℕ) (context : BundleContexts) (kind : ModuleKind) → IsModuleReadAs p list context k kind part linking names → IsAt p list context k kind rewrites uses calls i → IsAt p list context k kind more uses_after calls_after after
    at p list context kind read is =
        let z = zip-there _ part.denotations.now.occurrences.items (occurrences (list_of_part part)) i entry read.table.occurrences there in
        let here = os-there p list context k kind part linking names read i z.0 z.1 in
        let o : Occurrence = cleared_occurrence z.0 in
        let place : entry.place ≡ o.place = same-place p list context k kind part linking names read i o entry here there in
        record {
          steps = subst (λ n. AllZip (λ q x. IsStep p list context k kind q (rewrite_step x)) (take n (occurrences (tree_of p k))) more) (sym next) (subst (λ l. AllZip (λ q x. IsStep p list context k kind q (rewrite_step x)) (take (suc i) (occurrences (tree_of p k))) l) (sym pushed) (subst (λ l. AllZip (λ q x. IsStep p list context k kind q (rewrite_step x)) l (rewrites ++ rewrite ∷ [])) (sym (take-next (occurrences (tree_of p k)) i o here)) (all_zipped_more (λ q x. IsStep p list context k kind q (rewrite_step x)) (take i (occurrences (tree_of p k))) rewrites o rewrite is.steps (step-there p list context k kind part linking names read i o entry here there uses calls is.uses_split is.calls_split own rewrite owns (subst (λ q. IsRewritten part k linking names uses calls q own rewrite) place becomes)))));
          uses_split = subst (λ n. SplitsAt use_place (uses_of (tree_of p k)) (occurrences (tree_of p k)) uses_after n) (sym next) (subst (λ n. SplitsAt use_place (uses_of (tree_of p k)) (occurrences (tree_of p k)) n (suc i)) (sym (uses_are ∙ ap (λ q. past_by (is_use_at q (slice_get part.tables.now.uses.items uses)) uses) place)) (uses-next p list context k kind part linking names read i o entry here there uses calls is.uses_split is.calls_split));
          calls_split = subst (λ n. SplitsAt name_place (calls_of p k) (occurrences (tree_of p k)) calls_after n) (sym next) (subst (λ n. SplitsAt name_place (calls_of p k) (occurrences (tree_of p k)) n (suc i)) (sym (calls_are ∙ ap (λ q. past_by (is_call_at q (slice_get part.tables.now.calls.items calls)) calls) place)) (calls-next p list context k kind part linking names read i o entry here there uses calls is.uses_split is.calls_split));
        }

-- all names were gone over
pub walked-all : (part : BundleModule) (k : ℕ) (linking : Linking) (names : BundleNames) (rewrites : List Rewrite) (uses calls i : ℕ) → length part.denotations.now.occurrences.items ≤ i → IsWalked part k linking names rewrites uses calls i
    → (p : Program) (list : List ℕ) (context : BundleContexts) (kind : ModuleKind) → IsModuleReadAs p list context k kind part linking names → AreModuleRewrites p list context k kind rewrites
walked-all part k linking names rewrites uses calls i past walked p list context kind read =
    let is = walked.told_of p list context kind read in
    let long = zip-long _ part.denotations.now.occurrences.items (occurrences (list_of_part part)) read.table.occurrences in
    let all = ap length (os-cleared p list context k kind part linking names read) ∙ map-long cleared_occurrence (occurrences (list_of_part part)) in
    subst (λ l. AllZip (λ o rewrite. IsStep p list context k kind o (rewrite_step rewrite)) l rewrites) (take-whole (occurrences (tree_of p k)) i (omega (arith, past, long, all))) is.steps
