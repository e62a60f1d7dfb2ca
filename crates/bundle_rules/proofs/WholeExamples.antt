-- The smallest program all the way, `f(1);`: what is prepared, merged, named, and handed out.
use Rattle.std.proofs.Common.{◌≡◌, ℕ, Bool, zero, suc, ◌<◌, true, false, List, [], ◌∷◌, Some, None, refl, sym, subst, ap, ◌∙◌, arith, true≢false}
use Rattle.std.specs.Prelude.{codes, Contains, slice_get, map, ◌==◌, ◌≢◌, cond}
use Rattle.std.proofs.lemmas.Option.{same_Some}
use Rattle.std.proofs.lemmas.Bool.Decides.{nat_tests}
use Rattle.bundle_syntax.specs.Item.{Item}
use Rattle.bundle_tree_names.specs.FileName.{Name as FileName}
use Rattle.bundle_rules.specs.Places.{Occurrence, occurrence_at, occurrences, is_binding}
use Rattle.bundle_rules.specs.Scopes.{Es, Scope}
use Rattle.bundle_rules.specs.Declarations.{BySymbol, ByContext, Name}
use Rattle.bundle_rules.specs.Denotes.{Bound, Global, denoted_at, denoted_as, IsResolved, IsResolutionOf}
use Rattle.bundle_rules.specs.Doubled.{first_doubled}
use Rattle.bundle_rules.specs.Keywords.{keyword_free}
use Rattle.bundle_order_graph.specs.Walks.{itself}
use Rattle.bundle_rules.specs.Statements.{TopItem, Element, taken_from, own_statements}
use Rattle.bundle_rules.specs.Renamed.{IsResolvedFrom, KeepsNames, IsNamed}
use Rattle.bundle_rules.specs.Entries.{declared_requests, has_import_meta}
use Rattle.bundle_rules.specs.Bound.{has_free}
use Rattle.bundle_rules.specs.Nodes.{Text}
use Rattle.bundle_rules.specs.Parts.{Owned, Parts, parts_of, in_order, items_in}
use Rattle.bundle_rules.specs.Program.{IsReached, tree_of, calls_of}
use Rattle.bundle_rules.specs.Kept.{local_context, export_context}
use Rattle.bundle_rules.specs.Meaning.{HasKind}
use Rattle.bundle_rules.specs.Bundle.{form_of, Hooks, Cause, Own, Defines, Helps, HoldsMeta, labelled, StandsFor}
use Rattle.bundle_rules.specs.OwnForms.{WithNames, over, stays, KeepsForm}
use Rattle.bundle_rules.specs.Forms.{in_form, wrapped}
use Rattle.bundle_rules.specs.Symbols.{AreCalled, CalledAlike}
use Rattle.bundle_rules.specs.Meaning.{own_view}
use Rattle.bundle_rules.specs.Faults.{Fault, Parties, AskedName, asked_names, ProgramFault, required_entry, required_es_module, doubled_declaration, await_in_common_js, star_of_common_js, name, namespace_over_external_star, external_under_iife, arguments_under_iife, IsFaultlessProgram}
use Rattle.bundle_rules.specs.Judging.{Entry, AcceptsProgram}
use Rattle.bundle_rules.specs.Merged.{Contexts, StandsIn, AreItemsOf, none, IsPrepared, HasContexts, BindsOwn, IsMerged, ComesOfJoined, HasRightNames}
use Rattle.bundle_rules.specs.Headline.{Bundled, Named, IsBundleOf}
use Rattle.bundle_rules.proofs.Programs.{main_js}
use Rattle.bundle_rules.proofs.CallExamples.{is_called_bundle}
use Rattle.bundle_rules.proofs.BundleExamples.{Setup, as_module, as_call, with_contexts, p, kept, settings, tree, tree_with, call, call_with, replaces_nothing, pairing, no_element, only_main, es, meant_nothing, is_es_kind, its_list, is_bundle, is_bundle_by_contexts}

-- The program has no fault.

not_there : {A : Type 0} (a : A) → None ≡ Some a → ⊥
not_there a e = cc

no_fault_of_main : (how : Setup) (file : FileName) (m stage place : ℕ) (fault : Fault) → m ≡ 0 → ProgramFault (p how) file m stage place fault → ⊥
no_fault_of_main how file m stage place fault is (required_entry call stands resolved) = no_element call (subst (λ n. Contains (calls_of (p how) n) call) is stands)
no_fault_of_main how file m stage place fault is (required_es_module call stands resolved script) = no_element call (subst (λ n. Contains (calls_of (p how) n) call) is stands)
no_fault_of_main how file m stage place fault is (doubled_declaration {kind = kind} d its doubled) =
    let its_kind : kind ≡ Es = is_es_kind how kind (subst (λ n. HasKind (p how) n kind) is its) in
    not_there d (subst (λ k. first_doubled k (tree_of (p how) 0) ≡ Some d) its_kind (subst (λ n. first_doubled kind (tree_of (p how) n) ≡ Some d) is doubled))
no_fault_of_main how file m stage place fault is (await_in_common_js c awaits) = es how m c
no_fault_of_main how file m stage place fault is (star_of_common_js {c = c} stands resolved common) = es how c common
no_fault_of_main how file m stage place fault is (name {j = j} asked there source wrong) = no_name j asked (subst (λ n. slice_get (asked_names (tree_of (p how) n)) j ≡ Some asked) is there)
  where
    no_name : (i : ℕ) (it : AskedName) → slice_get [] i ≡ Some it → ⊥
    no_name i it e = not_there it e
no_fault_of_main how file m stage place fault is (namespace_over_external_star meant stars) = meant_nothing how _ meant
no_fault_of_main how file m stage place fault is (external_under_iife {j = j} {s = s} called there external) = no_request_of j s (subst (λ n. slice_get (declared_requests (tree_of (p how) n)) j ≡ Some s) is there)
  where
    no_request_of : (i : ℕ) (it : Text) → slice_get [] i ≡ Some it → ⊥
    no_request_of i it e = not_there it e
no_fault_of_main how file m stage place fault is (arguments_under_iife called other free) = true≢false (sym (subst (λ n. has_free (tree_of (p how) n) (codes "arguments") ≡ true) is free))

pub faultless : (how : Setup) → IsFaultlessProgram (p how)
faultless how m stage place file fault reached there = no_fault_of_main how file m stage place fault (only_main how m reached) there

-- whatever the parties are, it is accepted: the hook need not be asked
pub accepted : (how : Setup) (parties : Parties) → AcceptsProgram (p how) parties
accepted how parties = record { faultless = faultless how; list = 0 ∷ []; is_list = its_list how; answered = λ j m file below stands meta. absurd (no_meta j m below stands.listed meta) }
  where
    no_meta : (j m : ℕ) → j < 1 → slice_get (0 ∷ []) j ≡ Some m → has_import_meta (tree_of (p how) m) ≡ true → ⊥
    no_meta zero m below listed meta = true≢false (sym (subst (λ n. has_import_meta (tree_of (p how) n) ≡ true) (sym (same_Some 0 m listed)) meta))
    no_meta (suc j) m below listed meta = not_there m listed

-- It is resolved: f has the context 1.

abbrev pub resolved_tree : List Item
resolved_tree = tree_with 1

abbrev IsF : ℕ → Occurrence → Type 0
IsF place o = (o.sym ≡ codes "f") × (o.ctxt ≡ 1) × (denoted_at ByContext Es resolved_tree place ≡ Some (Global (codes "f")))

each : (place : ℕ) (o : Occurrence) → occurrence_at resolved_tree place ≡ Some o → IsF place o
each zero o e = absurd (not_there o e)
each (suc zero) o e = absurd (not_there o e)
each (suc (suc zero)) o e = absurd (not_there o e)
each (suc (suc (suc zero))) o e = let same = same_Some _ o e in (ap (λ (x : Occurrence). x.sym) (sym same), ap (λ (x : Occurrence). x.ctxt) (sym same), refl)
each (suc (suc (suc (suc zero)))) o e = absurd (not_there o e)
each (suc (suc (suc (suc (suc zero))))) o e = absurd (not_there o e)
each (suc (suc (suc (suc (suc (suc zero)))))) o e = absurd (not_there o e)
each (suc (suc (suc (suc (suc (suc (suc zero))))))) o e = absurd (not_there o e)
each (suc (suc (suc (suc (suc (suc (suc (suc zero)))))))) o e = absurd (not_there o e)
each (suc (suc (suc (suc (suc (suc (suc (suc (suc zero))))))))) o e = absurd (not_there o e)
each (suc (suc (suc (suc (suc (suc (suc (suc (suc (suc zero)))))))))) o e = absurd (not_there o e)
each (suc (suc (suc (suc (suc (suc (suc (suc (suc (suc (suc place))))))))))) o e = absurd (not_there o e)

resolved : IsResolved Es resolved_tree
resolved = record {
  same = λ a b x y at_a at_b. let f = each a x at_a in let g = each b y at_b in (λ same. f.2 ∙ sym g.2, λ same. (f.0 ∙ sym g.0, f.1 ∙ sym g.1));
  own_arguments = λ a x at_a global. absurd (other_name (sym (each a x at_a).2 ∙ global));
}
  where
    other_name : Some (Global (codes "f")) ≡ Some (Global (codes "arguments")) → ⊥
    other_name e = grind (arith, e)

resolution : IsResolutionOf Es tree resolved_tree
resolution = record { resolved = resolved; same = refl; one = one_each }
  where
    one_each : (i j : ℕ) → denoted_as BySymbol Es tree i ≡ denoted_as BySymbol Es tree j → denoted_as ByContext Es resolved_tree i ≡ denoted_as ByContext Es resolved_tree j
    one_each zero zero e = refl
    one_each zero (suc j) e = absurd (not_there _ (sym e))
    one_each (suc i) zero e = absurd (not_there _ e)
    one_each (suc i) (suc j) e = refl

is_resolved_from : (local next : ℕ) → IsResolvedFrom Es local next next tree resolved_tree
is_resolved_from local next = record { same = refl; resolution = resolution; contexts = record { given = (refl, tt); enough = grind arith } }

-- So it is prepared.

abbrev prepared : Parts
prepared = parts_of 0 (call_with 1 ∷ [])

abbrev contexts_of : ℕ → Contexts
contexts_of m = record { local = local_context m; exported = export_context m }

not_zero : (m : ℕ) → m ≢ 0 → (0 == m) ≡ false
not_zero m other = grind (arith, nat_tests, other)

-- no other module has an item
none_of_others : (m : ℕ) (item : List Item) → m ≢ 0 → Contains (items_in (in_order prepared) m) item → ⊥
none_of_others m item other there = no_element item (subst (λ mine. Contains (map (λ (pair : Owned). pair.1) (cond mine ((0, call_with 1) ∷ []) [])) item) (not_zero m other) there)

its_context : (item : List Item) (o : Occurrence) → Contains (call_with 1 ∷ []) item → Contains (occurrences item) o → o.ctxt ≡ 1
its_context item o (zero, b, e) there = at (subst (λ it. Contains (occurrences it) o) (sym e) there)
  where
    at : Contains (occurrences (call_with 1)) o → o.ctxt ≡ 1
    at (zero, c, f) = ap (λ (x : Occurrence). x.ctxt) (sym f)
    at (suc k, c, f) = grind arith
its_context item o (suc k, b, e) there = grind arith

-- what stands in the items of a module is f of main
is_main : (m : ℕ) (o : Occurrence) → StandsIn prepared m o → (m ≡ 0) × (o.ctxt ≡ 1)
is_main zero o stands = (refl, its_context stands.item o stands.its stands.there)
is_main (suc m) o stands = absurd (none_of_others (suc m) stands.item (λ e. grind arith) stands.its)

items_of_main : (how : Setup) (hooks : Hooks) (m : ℕ) → m ≡ 0 → AreItemsOf (p how) hooks (local_context m) m (items_in (in_order prepared) m)
items_of_main how hooks m is = subst (λ n. AreItemsOf (p how) hooks (local_context n) n (items_in (in_order prepared) n)) (sym is) (record {
  front = [];
  is_front = none refl;
  tree = resolved_tree;
  next = 4;
  later = 4;
  resolved = λ kind its. subst (λ k. IsResolvedFrom k 2 4 4 (tree_of (p how) 0) resolved_tree) (sym (is_es_kind how kind its)) (is_resolved_from 2 4);
  is = refl;
  apart = λ item a b there in_a in_b same. absurd (no_element item there);
  outside = λ item o there within same. absurd (no_element item there);
})

pub is_prepared : (how : Setup) (hooks : Hooks) → IsPrepared (p how) hooks contexts_of 4 prepared
is_prepared how hooks = record {
  checked = λ m stage place file fault other reached there. faultless how m stage place file fault reached there;
  undoubled = λ m kind reached its.
      let is = only_main how m reached in
      let its_kind = is_es_kind how kind (subst (λ n. HasKind (p how) n kind) is its) in
      subst (λ n. first_doubled kind (tree_of (p how) n) ≡ None) (sym is) (subst (λ k. first_doubled k (tree_of (p how) 0) ≡ None) (sym its_kind) refl);
  items = λ m reached. items_of_main how hooks m (only_main how m reached);
  reached = λ m item there. subst (λ n. IsReached (p how) n) (owner m item there) itself;
  apart = λ m n a b differ in_m in_n same. (is_main m a in_m).1;
  strange = λ m n o differ stands its same. let a = (is_main m o stands).1 in let b = only_main how n its in grind (arith, a, b, same);
  locals = λ m n reached its same. only_main how m reached ∙ sym (only_main how n its);
  exports = λ m n reached its same. only_main how m reached ∙ sym (only_main how n its);
  differ = λ m n reached its same. let a = only_main how m reached in let b = only_main how n its in grind (arith, a, b, same);
  unused = λ m n o stands its same. let a = (is_main m o stands).1 in let b = only_main how n its in grind (arith, a, b, same);
  above_one = λ m reached. let a = only_main how m reached in (grind (arith, a), grind (arith, a));
  below_next = λ m reached. let a = only_main how m reached in (grind (arith, a), grind (arith, a));
  free = λ m o stands. let a = (is_main m o stands).1 in grind (arith, a);
}
  where
    owner : (m : ℕ) (item : List Item) → Contains (in_order prepared) (m, item) → 0 ≡ m
    owner m item (zero, b, e) = ap (λ (pair : Owned). pair.0) e
    owner m item (suc k, b, e) = grind arith

-- It is merged as it is.

-- nothing is declared, and the one name is a global
contexts : (spelled : Text → Text) → HasContexts spelled local_context (labelled resolved_tree ByContext (pairing 1))
contexts spelled = record { declared = λ scope name m x there kept. absurd (no_element _ there); stands = λ scope name m x there. absurd (no_element _ there); globals = λ place o x at global. (each place o at).1 }

-- each item stands for the one statement
own_alone : (m k : ℕ) (item : TopItem) → StandsFor (pairing 1) (Own m k) item → (m ≡ 0) × (k ≡ 0) × (item ≡ record { start = 1; items = call_with 1 })
own_alone m k item stands = at stands.at stands.cause_there stands.item_there
  where
    its_numbers : Some (Own 0 0) ≡ Some (Own m k) → (m ≡ 0) × (k ≡ 0)
    its_numbers e = (cc, cc)

    at : (i : ℕ) → slice_get (Own 0 0 ∷ []) i ≡ Some (Own m k) → slice_get (pairing 1).body i ≡ Some item → (m ≡ 0) × (k ≡ 0) × (item ≡ record { start = 1; items = call_with 1 })
    at zero cause there = let numbers = its_numbers cause in (numbers.0, numbers.1, sym (same_Some _ item there))
    at (suc i) cause there = absurd (not_there _ cause)

no_other_cause : (cause : Cause) (item : TopItem) → (Own 0 0 ≡ cause → ⊥) → StandsFor (pairing 1) cause item → ⊥
no_other_cause cause item differ stands = at stands.at stands.cause_there
  where
    at : (i : ℕ) → slice_get (Own 0 0 ∷ []) i ≡ Some cause → ⊥
    at zero e = differ (same_Some _ cause e)
    at (suc i) e = not_there cause e

called_own : (spelled : Text → Text) (how : Setup) (m k : ℕ) (item : TopItem) (statement : List Element) → m ≡ 0 → k ≡ 0 → item ≡ record { start = 1; items = call_with 1 } → slice_get (own_statements (tree_of (p how) m)) k ≡ Some statement → CalledAlike spelled (labelled resolved_tree ByContext (pairing 1)) (own_view (p how) m Es) item statement
called_own spelled how m k item statement is first its there =
    subst (λ n. CalledAlike spelled (labelled resolved_tree ByContext (pairing 1)) (own_view (p how) n Es) item statement) (sym is)
    (subst (λ it. CalledAlike spelled (labelled resolved_tree ByContext (pairing 1)) (own_view (p how) 0 Es) it statement) (sym its)
    (subst (λ it. CalledAlike spelled (labelled resolved_tree ByContext (pairing 1)) (own_view (p how) 0 Es) (record { start = 1; items = call_with 1 }) it)
    (same_Some _ statement (subst (λ i. slice_get (own_statements (tree_of (p how) 0)) i ≡ Some statement) first (subst (λ n. slice_get (own_statements (tree_of (p how) n)) k ≡ Some statement) is there))) refl))

called : (spelled : Text → Text) (how : Setup) (hooks : Hooks) → AreCalled spelled (p how) hooks (labelled resolved_tree ByContext (pairing 1)) (pairing 1)
called spelled how hooks = record {
  list = 0 ∷ [];
  is_list = its_list how;
  outer = λ scope name l there. absurd (no_element _ there);
  own = λ m k item statement stands there. let alone = own_alone m k item stands in called_own spelled how m k item statement alone.0 alone.1 alone.2 there;
  common_js = λ c item f stands. absurd (no_other_cause _ item (no_function c) stands);
  helper = λ item stands. absurd (no_other_cause _ item no_helper stands);
  metas = λ m item stands. absurd (no_other_cause _ item (no_meta m) stands);
}
  where
    no_function : (c : ℕ) → Own 0 0 ≡ Defines c → ⊥
    no_function c e = cc

    no_helper : Own 0 0 ≡ Helps → ⊥
    no_helper e = cc

    no_meta : (m : ℕ) → Own 0 0 ≡ HoldsMeta m → ⊥
    no_meta m e = cc

-- nothing is bound
binds_own : BindsOwn resolved_tree
binds_own zero o there is = absurd (true≢false (sym is ∙ ap (λ (x : Occurrence). is_binding x.role) (sym (same_Some _ o there))))
binds_own (suc n) o there is = absurd (not_there o there)

pub is_merged : (spelled : Text → Text) (how : Setup) (hooks : Hooks) → IsMerged spelled local_context (p how) hooks resolved_tree
is_merged spelled how hooks = record { is_bundle = is_bundle_by_contexts how hooks; resolved = resolved; named = λ d there. absurd (no_element d there); contexts = contexts spelled; binds = binds_own; called = called spelled how hooks }

-- The statement keeps its form, and there are no keywords.

call_named : (how : Setup) → WithNames (p how) 0 (taken_from 1 call) call
call_named how = stays (replaces_nothing how _) (stays (replaces_nothing how _) (stays tt (stays (replaces_nothing how _) (stays (replaces_nothing how _) (stays tt (stays tt (stays tt (stays tt over))))))))

keeps_form : (how : Setup) (m k : ℕ) (item : TopItem) (statement : List Element) → m ≡ 0 → k ≡ 0 → item ≡ record { start = 1; items = call_with 1 } → slice_get (own_statements (tree_of (p how) m)) k ≡ Some statement → KeepsForm (p how) m statement item.items
keeps_form how m k item statement is first its there =
    subst (λ n. KeepsForm (p how) n statement item.items) (sym is)
    (subst (λ (it : TopItem). KeepsForm (p how) 0 statement it.items) (sym its)
    (subst (λ it. KeepsForm (p how) 0 it (call_with 1))
    (same_Some _ statement (subst (λ i. slice_get (own_statements (tree_of (p how) 0)) i ≡ Some statement) first (subst (λ n. slice_get (own_statements (tree_of (p how) n)) k ≡ Some statement) is there)))
    (record { named = call; with_names = call_named how; same = refl })))

comes_of_joined : (how : Setup) (hooks : Hooks) → ComesOfJoined (p how) hooks resolved_tree
unfolding is_merged
comes_of_joined how hooks = record {
  joined = resolved_tree;
  is_joined = record {
    merged = is_merged (λ x. x) how hooks;
    forms = record {
      own = λ m k item statement stands there. let alone = own_alone m k item stands in keeps_form how m k item statement alone.0 alone.1 alone.2 there;
      common_js = λ c item stands. absurd (no_other_cause _ item (no_function c) stands);
    };
    others = λ place o scope its m at denotes unlabelled reached. absurd (no_binding scope its (sym (each place o at).2 ∙ denotes));
  };
  rid = record {
    same = refl;
    free = record {
      symbols = refl;
      contexts = (refl, tt);
      resolved = resolved;
      alike = record { len = refl; same = λ i j. (λ e. e, λ e. e); globals = λ i x. (λ e. e, λ e. e) };
    };
  };
}
  where
    no_function : (c : ℕ) → Own 0 0 ≡ Defines c → ⊥
    no_function c e = cc

    no_binding : (scope : Scope) (its : Name) → Some (Global (codes "f")) ≡ Some (Bound scope its) → ⊥
    no_binding scope its e = cc

-- It is named: f keeps its symbol, and its context is 0.

keeps : KeepsNames resolved_tree tree
keeps = record { same = refl; alike = record { len = refl; same = λ i j. (λ e. e, λ e. e); globals = λ i x. (λ e. e, λ e. e) } }

pub is_named : IsNamed resolved_tree tree
is_named = record { keeps = keeps; renamed = record { numbers = λ scope name. 0; right = refl; symbols = refl } }

-- so its names are right, renamed or not
right_names : (is_call : Bool) (hooks : Hooks) → HasRightNames (p (record { is_call = is_call; is_renamed = true })) hooks (in_form (form_of (settings (record { is_call = is_call; is_renamed = true }))) tree)
right_names is_call hooks = record { merged = resolved_tree; comes = comes_of_joined _ hooks; is_merged = is_merged keyword_free _ hooks; named = tree; names = is_named; whole = refl; form = refl }

right_contexts : (is_call : Bool) (hooks : Hooks) → HasRightNames (p (record { is_call = is_call; is_renamed = false })) hooks (in_form (form_of (settings (record { is_call = is_call; is_renamed = false }))) resolved_tree)
right_contexts is_call hooks = record { merged = resolved_tree; comes = comes_of_joined _ hooks; is_merged = is_merged keyword_free _ hooks; named = resolved_tree; names = refl; whole = refl; form = refl }

-- And it is handed out, as the bundle of the entry `("m", main.js)`.

abbrev pub bundled : List Item → Bundled
bundled its = record { kind = Named (codes "m"); id = 0; tree = its }

abbrev pub entry : Entry
entry = record { name = codes "m"; file = main_js }

pub is_bundle_of : (parties : Parties) → IsBundleOf parties (settings as_module) kept (bundled tree) entry
is_bundle_of parties = record {
  its_kind = refl;
  p = p as_module;
  its_program = record { number = 0; its_number = refl; is = refl };
  its_id = refl;
  accepted = accepted as_module parties;
  clean = refl;
  undoubled = λ is_renamed. refl;
  is_bundle = is_bundle as_module parties.hooks;
  names = right_names false parties.hooks;
}

-- the same where bundles are not renamed
pub is_bundle_of_contexts : (parties : Parties) → IsBundleOf parties (settings with_contexts) kept (bundled resolved_tree) entry
is_bundle_of_contexts parties = record {
  its_kind = refl;
  p = p with_contexts;
  its_program = record { number = 0; its_number = refl; is = refl };
  its_id = refl;
  accepted = accepted with_contexts parties;
  clean = refl;
  undoubled = λ is_renamed. absurd (true≢false (sym is_renamed));
  is_bundle = is_bundle_by_contexts with_contexts parties.hooks;
  names = right_contexts false parties.hooks;
}

-- and as one function's call: `(function () { f(1); return {}; })();`
pub is_bundle_of_a_call : (parties : Parties) → IsBundleOf parties (settings as_call) kept (bundled (wrapped tree)) entry
is_bundle_of_a_call parties = record {
  its_kind = refl;
  p = p as_call;
  its_program = record { number = 0; its_number = refl; is = refl };
  its_id = refl;
  accepted = accepted as_call parties;
  clean = refl;
  undoubled = λ is_renamed. refl;
  is_bundle = is_called_bundle parties.hooks;
  names = right_names true parties.hooks;
}
