-- The smallest example of a bundle: the program of one module `f(1);` has the bundle `f(1);`, read by symbols and, with a
-- context for f, by symbol and context.
use Rattle.std.proofs.Common.{◌≡◌, ℕ, Bool, zero, suc, ◌<◌, true, false, List, [], ◌∷◌, length, inr, Option, Some, None, refl, sym, subst, ap, ◌∙◌, arith, lit<, true≢false}
use Rattle.std.specs.Prelude.{codes, Contains, slice_get, slice_index_or}
use Rattle.std.specs.List.{AllZip}
use Rattle.bundle_syntax.specs.Item as h
use Rattle.bundle_syntax.specs.Item.{Item}
use Rattle.bundle_rules.specs.Scopes.{ModuleKind, Es, Cjs, Top}
use Rattle.bundle_rules.specs.Declarations.{Reading, BySymbol, ByContext}
use Rattle.bundle_rules.specs.Denotes.{Denoted, Global}
use Rattle.bundle_order_graph.specs.Walks.{Reaches, itself, along}
use Rattle.bundle_order_graph.specs.Order.{finished as no_more, listed}
use Rattle.bundle_order_graph.specs.Blocks.{over, ends, nothing as no_members, kept as member}
use Rattle.bundle_rules.specs.Nodes.{Text}
use Rattle.bundle_rules.specs.Statements.{Element, taken_from, own_statements, top_items}
use Rattle.bundle_rules.specs.Entries.{Settings, ImportEntry, ExportEntry, Local, Indirect, Star}
use Rattle.bundle_rules.specs.Program.{Program, tree_of, Requests, IsReached, IsList, AreBlocks}
use Rattle.bundle_rules.specs.Linking.{IsCommonJs, Target, Gives, declaration, namespace_import, taken, given_on, starred, Origin, HasExternalStar, own as own_star, through, StandsFor, declared, imported, taken_whole}
use Rattle.bundle_rules.specs.Meaning.{Mark, Begins, Ends, Name, Unbound, Label, Replacement, Replaced, OwnName, at_top, parameter, static_read, import_meta, require_call, ReadsAs, by_name, by_read, is_meta_at, OwnMeaning, is_es, is_common_js, HasKind, own_view, denoted, bundle_sense, StatementMeans, begun, ended, finished, named, unbound, SaysAt, says_name, says_node, IsMeant, by_statement, by_export, by_namespace}
use Rattle.bundle_rules.specs.Bundle.{Form, AsModule, AsCall, Cause, Own, Exports, Helps, HoldsNamespace, IsDue, own, imports_names, imports_whole, imports_nothing, helps, defines, loads, holds_meta, holds_namespace, stars, exports, returns, Hooks, Pairing, IsPaired, IsLaidOut, IsBundle, of_module, of_function, HasBody, Chosen, nothing, chosen, left, lone, next, over as no_blocks, IsUsed}
use Rattle.bundle_rules.specs.Bundle as bundle
use Rattle.bundle_syntax.specs.declared.piece.Role.TheVariants.{Reference}
use Rattle.bundle_rules.proofs.Trees.{node, module_of, runs, argument, calls}
use Rattle.bundle_rules.specs.Kept.{Kept, program_of}
use Rattle.bundle_rules.proofs.Programs.{main_js, loaded}
use Rattle.bundle_rules.proofs.LinkingExamples.{one}

abbrev pub call : List Item
call = calls (codes "f") one

-- main.js alone is kept
abbrev pub kept : Kept
kept = record { names = main_js ∷ []; trees = (main_js, loaded main_js call) ∷ []; resolved = [] }

-- how the bundle is wanted: whether as one function's call, and whether renamed
pub record Setup : Type 0 where
  pub is_call : Bool
  pub is_renamed : Bool

abbrev pub as_module : Setup
as_module = record { is_call = false; is_renamed = true }

abbrev pub as_call : Setup
as_call = record { is_call = true; is_renamed = true }

abbrev pub with_contexts : Setup
with_contexts = record { is_call = false; is_renamed = false }

-- the settings
abbrev pub settings : Setup → Settings
settings how = record { require = false; external = codes "ext" ∷ []; iife = how.is_call; renames = how.is_renamed; most_modules = 9; in_standard_order = false }

abbrev pub p : Setup → Program
p how = program_of kept (settings how) 0

abbrev pub tree : List Item
tree = module_of call

-- `f(1);`, where f has this context
abbrev pub call_with : ℕ → List Item
call_with ctxt = runs (node 0 h.CallExpr (h.Ident 0 (codes "f") ctxt Reference ∷ argument one))

abbrev pub tree_with : ℕ → List Item
tree_with ctxt = module_of (call_with ctxt)

-- No module but main is reached.

pub no_request : (how : Setup) (n : ℕ) → Requests (p how) 0 n → ⊥
no_request how n (k, h, e) = grind arith

only_main_from : (how : Setup) (m n : ℕ) → m ≡ 0 → Reaches (Requests (p how)) m n → n ≡ 0
only_main_from how m n is itself = is
only_main_from how m n is (along {b = b} first rest) = absurd (no_request how b (subst (λ i. Requests (p how) i b) is first))

pub only_main : (how : Setup) (n : ℕ) → IsReached (p how) n → n ≡ 0
only_main how n reached = only_main_from how 0 n refl reached

pub es : (how : Setup) (m : ℕ) → IsCommonJs (p how) m → ⊥
es how m c = true≢false (sym c.linked)

-- Main gives nothing, stars nothing, and binds nothing.

pub no_element : {A : Type 0} (x : A) → Contains [] x → ⊥
no_element x (k, h, e) = grind arith

pub gives_nothing : (how : Setup) (m : ℕ) (x : Text) (t : Target) (origin : Option Origin) → m ≡ 0 → Gives (p how) m x t origin → ⊥
gives_nothing how m x t origin is (declaration {y = y} stands none) = no_element (Local x y) (subst (λ n. Contains (Rattle.bundle_rules.specs.Linking.exports (p how) n) (Local x y)) is stands)
gives_nothing how m x t origin is (namespace_import {y = y} entry stands found takes) = no_element (Local x y) (subst (λ n. Contains (Rattle.bundle_rules.specs.Linking.exports (p how) n) (Local x y)) is stands)
gives_nothing how m x t origin is (taken {s = s} {what = what} stands takes) = no_element (Indirect x s what) (subst (λ n. Contains (Rattle.bundle_rules.specs.Linking.exports (p how) n) (Indirect x s what)) is stands)
gives_nothing how m x t origin is (given_on {s = s} {y = y} stands source gives) = no_element (Indirect x s (Rattle.bundle_rules.specs.Entries.Named y)) (subst (λ n. Contains (Rattle.bundle_rules.specs.Linking.exports (p how) n) (Indirect x s (Rattle.bundle_rules.specs.Entries.Named y))) is stands)
gives_nothing how m x t origin is (starred {s = s} no_own other stands source gives) = no_element (Star s) (subst (λ n. Contains (Rattle.bundle_rules.specs.Linking.exports (p how) n) (Star s)) is stands)

pub stars_nothing : (how : Setup) (s : Text) → HasExternalStar (p how) 0 s → ⊥
stars_nothing how s (own_star stands out) = no_element (Star s) stands
stars_nothing how s (through {r = r} stands found rest) = no_element (Star r) stands

nothing_found : (entry : ImportEntry) → None ≡ Some entry → ⊥
nothing_found entry e = cc

stands_for_nothing : (how : Setup) (x : Text) (t : Target) → StandsFor (p how) 0 x t → ⊥
stands_for_nothing how x t (declared stands none) = no_element x stands
stands_for_nothing how x t (imported entry found by source linked) = nothing_found entry found
stands_for_nothing how x t (taken_whole entry found takes) = nothing_found entry found

-- So nothing is replaced in it.

reads_nothing : (how : Setup) (place : ℕ) (t : Target) → ReadsAs (p how) 0 place t → ⊥
reads_nothing how place t (by_name {x = x} denotes stands) = stands_for_nothing how x t stands
reads_nothing how place t (by_read {d = d} word reads linked) = reads_nothing how (suc place) (Rattle.bundle_rules.specs.Linking.Namespace d) reads

no_meta : (how : Setup) (place : ℕ) → is_meta_at (slice_get tree place) ≡ true → ⊥
no_meta how zero e = true≢false (sym e)
no_meta how (suc zero) e = true≢false (sym e)
no_meta how (suc (suc zero)) e = true≢false (sym e)
no_meta how (suc (suc (suc zero))) e = true≢false (sym e)
no_meta how (suc (suc (suc (suc zero)))) e = true≢false (sym e)
no_meta how (suc (suc (suc (suc (suc zero))))) e = true≢false (sym e)
no_meta how (suc (suc (suc (suc (suc (suc zero)))))) e = true≢false (sym e)
no_meta how (suc (suc (suc (suc (suc (suc (suc zero))))))) e = true≢false (sym e)
no_meta how (suc (suc (suc (suc (suc (suc (suc (suc zero)))))))) e = true≢false (sym e)
no_meta how (suc (suc (suc (suc (suc (suc (suc (suc (suc zero))))))))) e = true≢false (sym e)
no_meta how (suc (suc (suc (suc (suc (suc (suc (suc (suc (suc zero)))))))))) e = true≢false (sym e)
no_meta how (suc (suc (suc (suc (suc (suc (suc (suc (suc (suc (suc n))))))))))) e = true≢false (sym e)

pub replaces_nothing : (how : Setup) (place : ℕ) (by : Replacement) → Replaced (p how) 0 place by → ⊥
replaces_nothing how place by (static_read {t = t} word reads) = reads_nothing how place t reads
replaces_nothing how place by (import_meta is) = no_meta how place is
replaces_nothing how place by (require_call its stands at resolved) = no_element its stands

-- The meaning of the statement.

abbrev pub marks : List Mark
marks = Begins 0 h.ExprStmt ∷ Begins 0 h.CallExpr ∷ Name 0 (Unbound (codes "f")) ∷ Begins 1 (h.ExprOrSpread false) ∷ Begins 1 (h.Number (codes "1")) ∷ Ends ∷ Ends ∷ Ends ∷ Ends ∷ []

pub call_means : (how : Setup) → OwnMeaning (p how) 0 (taken_from 1 call) marks
call_means how = record {
  kind = Es;
  has_kind = is_es (es how 0);
  means = begun (replaces_nothing how _) (begun (replaces_nothing how _) (named (Global (codes "f")) _ refl unbound (begun (replaces_nothing how _) (begun (replaces_nothing how _) (ended (ended (ended (ended finished))))))));
}

item_means : StatementMeans (bundle_sense tree BySymbol []) 1 (taken_from 1 call) marks
item_means = begun (λ by none. none) (begun (λ by none. none) (named (Global (codes "f")) _ refl unbound (begun (λ by none. none) (begun (λ by none. none) (ended (ended (ended (ended finished))))))))

-- Nothing is meant that a bundle would need: the one name of the statement is a global, and no node is replaced.

pub is_es_kind : (how : Setup) (kind : ModuleKind) → HasKind (p how) 0 kind → kind ≡ Es
is_es_kind how kind (is_es other) = refl
is_es_kind how kind (is_common_js c) = absurd (es how 0 c)

only_global : (how : Setup) (e : Element) (d : Denoted) → Contains (taken_from 1 call) e → denoted (own_view (p how) 0 Es) e ≡ Some d → d ≡ Global (codes "f")
only_global how e d (k, b, q) = at k b q
  where
    not_denoted : None ≡ Some d → d ≡ Global (codes "f")
    not_denoted is = cc

    same_denoted : Some (Global (codes "f")) ≡ Some d → d ≡ Global (codes "f")
    same_denoted is = cc

    here : (it : Element) → it ≡ e → denoted (own_view (p how) 0 Es) e ≡ Some d → denoted (own_view (p how) 0 Es) it ≡ Some d
    here it same is = subst (λ other. denoted (own_view (p how) 0 Es) other ≡ Some d) (sym same) is

    at : (i : ℕ) → i < 9 → slice_index_or (taken_from 1 call) i e ≡ e → denoted (own_view (p how) 0 Es) e ≡ Some d → d ≡ Global (codes "f")
    at zero b q is = not_denoted (here _ q is)
    at (suc zero) b q is = not_denoted (here _ q is)
    at (suc (suc zero)) b q is = same_denoted (here _ q is)
    at (suc (suc (suc zero))) b q is = not_denoted (here _ q is)
    at (suc (suc (suc (suc zero)))) b q is = not_denoted (here _ q is)
    at (suc (suc (suc (suc (suc zero))))) b q is = not_denoted (here _ q is)
    at (suc (suc (suc (suc (suc (suc zero)))))) b q is = not_denoted (here _ q is)
    at (suc (suc (suc (suc (suc (suc (suc zero))))))) b q is = not_denoted (here _ q is)
    at (suc (suc (suc (suc (suc (suc (suc (suc zero)))))))) b q is = not_denoted (here _ q is)
    at (suc (suc (suc (suc (suc (suc (suc (suc (suc n))))))))) b q is = grind arith

no_own_name : (how : Setup) (d : Denoted) (l : Label) → d ≡ Global (codes "f") → OwnName (p how) 0 d l → ⊥
no_own_name how d l is (at_top stands) = cc
no_own_name how d l is parameter = cc

says_nothing : (how : Setup) (e : Element) (l : Label) → Contains (taken_from 1 call) e → SaysAt (p how) 0 e l → ⊥
says_nothing how e l there (says_name {kind = kind} {d = d} its denotes stands) = no_own_name how d l (only_global how e d there (subst (λ k. denoted (own_view (p how) 0 k) e ≡ Some d) (is_es_kind how kind its) denotes)) stands
says_nothing how e l there (says_node {place = place} {by = by} is) = replaces_nothing how place by is

only_statement : (how : Setup) (statement : List Element) → Contains (own_statements (tree_of (p how) 0)) statement → taken_from 1 call ≡ statement
only_statement how statement (zero, h, e) = e
only_statement how statement (suc k, h, e) = grind arith

pub meant_nothing : (how : Setup) (l : Label) → IsMeant (p how) l → ⊥
meant_nothing how l (by_statement {m = m} {statement = statement} {e = e} reached stands there is_left says) =
    let is = only_main how m reached in
    let same = only_statement how statement (subst (λ n. Contains (own_statements (tree_of (p how) n)) statement) is stands) in
    (says_nothing how) e l (subst (λ s. Contains s e) (sym same) there) (subst (λ n. SaysAt (p how) n e l) is says)
meant_nothing how l (by_export {x = x} {t = t} linked) = gives_nothing how 0 x t linked.origin refl linked.given
meant_nothing how l (by_namespace {d = d} {x = x} meant linked) = meant_nothing how _ meant

-- What is due is the one statement.

pub no_external : (how : Setup) (s : Text) → IsUsed (p how) s → ⊥
no_external how s used = no_element s (subst (λ n. Contains (Rattle.bundle_rules.specs.Entries.declared_requests (tree_of (p how) n)) s) (only_main how used.which used.reached) used.asks)

pub below_one : (k : ℕ) → k < 1 → k ≡ 0
below_one k h = omega arith

due : (how : Setup) (cause : Cause) → IsDue (p how) AsModule cause → Contains (Own 0 0 ∷ []) cause
due how cause (own {m = m} {k = k} reached not_common below) =
    let is = only_main how m reached in
    let first = below_one k (subst (λ n. k < length (own_statements (tree_of (p how) n))) is below) in
    (0, lit< tt, ap (λ n. Own n 0) (sym is) ∙ ap (Own m) (sym first))
due how cause (imports_names used meant) = absurd (meant_nothing how _ meant)
due how cause (imports_whole used meant) = absurd (meant_nothing how _ meant)
due how cause (imports_nothing {s = s} used none whole) = absurd (no_external how s used)
due how cause (helps {c = c} reached common) = absurd (es how c common)
due how cause (defines {c = c} reached common) = absurd (es how c common)
due how cause (loads {m = m} reached other asks) = absurd (es how _ asks.common_js)
due how cause (holds_meta {m = m} reached has) = absurd (true≢false (sym (subst (λ n. Rattle.bundle_rules.specs.Entries.has_import_meta (tree_of (p how) n) ≡ true) (only_main how m reached) has)))
due how cause (holds_namespace meant) = absurd (meant_nothing how _ meant)
due how cause (stars {s = s} its) = absurd (stars_nothing how s its)
due how cause (exports {x = x} es_bundle linked) = absurd (gives_nothing how 0 x linked.0 linked.1.origin refl linked.1.given)
due how cause (returns called) = absurd (no_call called)
  where
    no_call : AsModule ≡ AsCall → ⊥
    no_call e = cc

one_due : (how : Setup) (cause : Cause) → Contains (Own 0 0 ∷ []) cause → IsDue (p how) AsModule cause
one_due how cause (zero, h, e) = subst (λ c. IsDue (p how) AsModule c) e (own itself (es how 0) (lit< tt))
one_due how cause (suc k, h, e) = grind arith

only_due : (how : Setup) (cause : Cause) → IsDue (p how) AsModule cause → Own 0 0 ≡ cause
only_due how cause its = first (due how cause its)
  where
    first : Contains (Own 0 0 ∷ []) cause → Own 0 0 ≡ cause
    first (zero, h, e) = e
    first (suc k, h, e) = grind arith

-- The bundle.

abbrev pub pairing : ℕ → Pairing
pairing ctxt = record { labels = []; top = Top; body = top_items (tree_with ctxt); plan = Own 0 0 ∷ [] }

-- the call means the same in the bundle
abbrev pub MeansTheSame : Reading → ℕ → Type 0
MeansTheSame reading ctxt = StatementMeans (bundle_sense (tree_with ctxt) reading []) 1 (taken_from 1 (call_with ctxt)) marks

pub paired : (how : Setup) (hooks : Hooks) (reading : Reading) (ctxt : ℕ) → MeansTheSame reading ctxt → IsPaired (p how) hooks AsModule reading (tree_with ctxt) (pairing ctxt)
paired how hooks reading ctxt means = record {
  labels = record { one_label = λ d l other a b. absurd (no_element (d, l) a); one_binding = λ d other l a b. absurd (no_element (d, l) a) };
  body = of_module;
  realised = (bundle.own _ refl (marks, call_means how, means), tt);
  due = λ cause. (one_due how cause, due how cause);
  once = once_each;
}
  where
    past : (n : ℕ) (cause : Cause) → slice_get (Own 0 0 ∷ []) (suc n) ≡ Some cause → ⊥
    past n cause e = cc

    once_each : (i j : ℕ) (cause : Cause) → slice_get (Own 0 0 ∷ []) i ≡ Some cause → slice_get (Own 0 0 ∷ []) j ≡ Some cause → i ≡ j
    once_each zero zero cause a b = refl
    once_each zero (suc j) cause a b = absurd (past j cause b)
    once_each (suc i) j cause a b = absurd (past i cause a)

pub its_list : (how : Setup) → IsList (p how) (0 ∷ [])
its_list how = listed {before = []} (λ there. no_element 0 there) no_more no_more

pub its_blocks : (how : Setup) → AreBlocks (p how) (0 ∷ []) ((0 ∷ []) ∷ [])
its_blocks how = ends (itself, itself, λ e. refl) (λ y there. absurd (no_element y there)) (member (itself, itself, λ e. refl) no_members) over

pub follows : (how : Setup) → bundle.FollowsRequests (p how) ((0 ∷ []) ∷ [])
follows how zero zero m n block other a b in_block in_other asks = inr refl
follows how zero (suc j) m n block other a b in_block in_other asks = cc
follows how (suc i) j m n block other a b in_block in_other asks = cc

in_front : (how : Setup) → Chosen (IsDue (p how) AsModule) (Helps ∷ []) []
in_front how = left (λ its. differ (only_due how Helps its)) nothing
  where
    differ : Own 0 0 ≡ Helps → ⊥
    differ e = cc

its_block : (how : Setup) (reading : Reading) (ctxt : ℕ) → bundle.IsBlockLaidOut (p how) AsModule (tree_with ctxt) reading (pairing ctxt) (0 ∷ []) (Own 0 0 ∷ [])
its_block how reading ctxt = lone (λ e. no_request how 0) (left (λ its. no_function (only_due how _ its)) (left (λ its. no_object (only_due how _ its)) (chosen (one_due how (Own 0 0) (0, lit< tt, refl)) (left (λ its. no_namespace (only_due how _ its)) nothing))))
  where
    no_function : Own 0 0 ≡ bundle.Defines 0 → ⊥
    no_function e = cc

    no_object : Own 0 0 ≡ bundle.HoldsMeta 0 → ⊥
    no_object e = cc

    no_namespace : Own 0 0 ≡ HoldsNamespace 0 → ⊥
    no_namespace e = cc

behind : (how : Setup) → Chosen (IsDue (p how) AsModule) (Exports ∷ []) []
behind how = left (λ its. differ (only_due how Exports its)) nothing
  where
    differ : Own 0 0 ≡ Exports → ⊥
    differ e = cc

pub laid_out : (how : Setup) (reading : Reading) (ctxt : ℕ) → IsLaidOut (p how) AsModule reading (tree_with ctxt) (pairing ctxt)
laid_out how reading ctxt = record {
  list = 0 ∷ [];
  is_list = its_list how;
  blocks = (0 ∷ []) ∷ [];
  are_blocks = its_blocks how;
  follows = λ e. follows how;
  front = [];
  middle = Own 0 0 ∷ [];
  back = [];
  plan = refl;
  in_front = in_front how;
  in_blocks = next (Own 0 0 ∷ []) (its_block how reading ctxt) no_blocks;
  behind = behind how;
}

-- `f(1);` is a bundle of the program `f(1);`, whatever the hook
pub is_bundle : (how : Setup) (hooks : Hooks) → IsBundle (p how) hooks AsModule BySymbol tree
is_bundle how hooks = record { pairing = pairing 0; paired = paired how hooks BySymbol 0 item_means; laid_out = laid_out how BySymbol 0 }

-- and `f#1(1);` is one by symbol and context
pub means_by_contexts : MeansTheSame ByContext 1
means_by_contexts = begun (λ by none. none) (begun (λ by none. none) (named (Global (codes "f")) _ refl unbound (begun (λ by none. none) (begun (λ by none. none) (ended (ended (ended (ended finished))))))))

abbrev pub is_bundle_by_contexts : (how : Setup) (hooks : Hooks) → IsBundle (p how) hooks AsModule ByContext (tree_with 1)
is_bundle_by_contexts how hooks = record { pairing = pairing 1; paired = paired how hooks ByContext 1 means_by_contexts; laid_out = laid_out how ByContext 1 }

-- The empty module is none.

empty_body : (form : Form) (items : List Item) (top : Rattle.bundle_rules.specs.Scopes.Scope) (body : List Rattle.bundle_rules.specs.Statements.TopItem) → form ≡ AsModule → items ≡ module_of [] → HasBody form items top body → body ≡ []
empty_body form items top body as_module is of_module = ap top_items is
empty_body form items top body as_module is (of_function its whole) = absurd (no_module as_module)
  where
    no_module : AsCall ≡ AsModule → ⊥
    no_module e = cc

no_plan : {A B : Type 0} (R : A → B → Type 0) (plan : List B) → AllZip R [] plan → plan ≡ []
no_plan R [] all = refl
no_plan R (y ∷ rest) all = absurd all

-- a bundle of `f(1);` has an item for it
pub empty_is_none : (how : Setup) (hooks : Hooks) → IsBundle (p how) hooks AsModule BySymbol (module_of []) → ⊥
empty_is_none how hooks b =
    let nothing_there = empty_body AsModule (module_of []) b.pairing.top b.pairing.body refl refl b.paired.body in
    let R = bundle.Realises (p how) hooks AsModule (bundle.labelled (module_of []) BySymbol b.pairing) in
    let no_cause = no_plan R b.pairing.plan (subst (λ body. AllZip R body b.pairing.plan) nothing_there b.paired.realised) in
    no_element (Own 0 0) (subst (λ plan. Contains plan (Own 0 0)) no_cause ((b.paired.due (Own 0 0)).1 (own itself (es how 0) (lit< tt))))
