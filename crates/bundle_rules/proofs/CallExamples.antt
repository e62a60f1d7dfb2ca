-- The smallest bundle that is one function's call: of `f(1);` it is `(function () { f(1); return {}; })();`.
use Rattle.std.proofs.Common.{◌≡◌, ℕ, Bool, zero, suc, ◌<◌, true, false, List, [], ◌∷◌, ◌++◌, Some, None, refl, sym, subst, ap, ◌∙◌, arith, lit<, true≢false}
use Rattle.std.specs.Prelude.{codes, Contains, slice_get, length, drop}
use Rattle.std.proofs.lemmas.List.{append_cancel_right}
use Rattle.std.proofs.lemmas.Option.{same_Some}
use Rattle.bundle_syntax.specs.declared.piece.Role.TheVariants.{Reference}
use Rattle.bundle_syntax.specs.Item as h
use Rattle.bundle_syntax.specs.Item.{Item}
use Rattle.bundle_rules.specs.Scopes.{Scope, Inner, FunctionBody}
use Rattle.bundle_rules.specs.Declarations.{BySymbol}
use Rattle.bundle_rules.specs.Denotes.{Global}
use Rattle.bundle_order_graph.specs.Walks.{itself}
use Rattle.bundle_rules.specs.Nodes.{side_by_side, StandsWhole}
use Rattle.bundle_rules.specs.Statements.{TopItem, placed, taken_from, own_statements}
use Rattle.bundle_rules.specs.Entries.{has_import_meta}
use Rattle.bundle_rules.specs.Program.{tree_of}
use Rattle.bundle_rules.specs.Meaning.{StatementMeans, bundle_sense, begun, ended, finished, named, unbound}
use Rattle.bundle_rules.specs.Injected.{return_object}
use Rattle.bundle_rules.specs.Forms.{called_function, wrapped, returned_object}
use Rattle.bundle_rules.specs.Bundle.{AsModule, AsCall, Cause, Own, Exports, Helps, Defines, HoldsMeta, HoldsNamespace, IsDue, own, imports_names, imports_whole, imports_nothing, helps, defines, loads, holds_meta, holds_namespace, stars, exports, returns, Hooks, AreLinked, Pairing, IsPaired, IsBlockLaidOut, IsLaidOut, IsBundle, of_function, Chosen, nothing, chosen, left, lone, next, over as no_blocks}
use Rattle.bundle_rules.specs.Bundle as bundle
use Rattle.bundle_rules.specs.Awaits.{awaits_outside}
use Rattle.bundle_rules.proofs.Trees.{runs}
use Rattle.bundle_rules.proofs.BundleExamples.{p, as_call, call, tree, marks, call_means, no_element, no_request, only_main, es, gives_nothing, stars_nothing, meant_nothing, no_external, below_one, its_list, its_blocks, follows}

-- the items of its body
abbrev body : List Item
body = call ++ returned_object []

abbrev pairing : Pairing
pairing = record { labels = []; top = Inner FunctionBody 6; body = placed 7 (side_by_side zero body); plan = Own 0 0 ∷ Exports ∷ [] }

-- the statement means what it meant, and the object has no names
call_in_body : StatementMeans (bundle_sense (wrapped tree) BySymbol []) 7 (taken_from 7 call) marks
call_in_body = begun (λ by none. none) (begun (λ by none. none) (named (Global (codes "f")) _ refl unbound (begun (λ by none. none) (begun (λ by none. none) (ended (ended (ended (ended finished))))))))

object_in_body : StatementMeans (bundle_sense (wrapped tree) BySymbol []) 16 (taken_from 16 (returned_object [])) (return_object [])
object_in_body = begun (λ by none. none) (begun (λ by none. none) (ended (ended finished)))

no_linked : AreLinked (p as_call) 0 []
no_linked = record { ascending = tt; all = λ x t. (λ there. absurd (no_element (x, t) there), λ linked. absurd (gives_nothing as_call 0 x t linked.origin refl linked.given)) }

-- What is due: the statement and the object.

due : (cause : Cause) → IsDue (p as_call) AsCall cause → Contains (Own 0 0 ∷ Exports ∷ []) cause
due cause (own {m = m} {k = k} reached not_common below) =
    let is = only_main as_call m reached in
    let first = below_one k (subst (λ n. k < length (own_statements (tree_of (p as_call) n))) is below) in
    (0, lit< tt, ap (λ n. Own n 0) (sym is) ∙ ap (Own m) (sym first))
due cause (imports_names used meant) = absurd (meant_nothing as_call _ meant)
due cause (imports_whole used meant) = absurd (meant_nothing as_call _ meant)
due cause (imports_nothing {s = s} used none whole) = absurd (no_external as_call s used)
due cause (helps {c = c} reached common) = absurd (es as_call c common)
due cause (defines {c = c} reached common) = absurd (es as_call c common)
due cause (loads {m = m} reached other asks) = absurd (es as_call _ asks.common_js)
due cause (holds_meta {m = m} reached has) = absurd (true≢false (sym (subst (λ n. has_import_meta (tree_of (p as_call) n) ≡ true) (only_main as_call m reached) has)))
due cause (holds_namespace meant) = absurd (meant_nothing as_call _ meant)
due cause (stars {s = s} its) = absurd (stars_nothing as_call s its)
due cause (exports as_module linked) = absurd (no_module as_module)
  where
    no_module : AsCall ≡ AsModule → ⊥
    no_module e = cc
due cause (returns called) = (1, lit< tt, refl)

two_due : (cause : Cause) → Contains (Own 0 0 ∷ Exports ∷ []) cause → IsDue (p as_call) AsCall cause
two_due cause (zero, h, e) = subst (λ c. IsDue (p as_call) AsCall c) e (own itself (es as_call 0) (lit< tt))
two_due cause (suc zero, h, e) = subst (λ c. IsDue (p as_call) AsCall c) e (returns refl)
two_due cause (suc (suc k), h, e) = grind arith

not_due : (cause : Cause) → (Own 0 0 ≡ cause → ⊥) → (Exports ≡ cause → ⊥) → IsDue (p as_call) AsCall cause → ⊥
not_due cause no_own no_exports its = at (due cause its)
  where
    at : Contains (Own 0 0 ∷ Exports ∷ []) cause → ⊥
    at (zero, h, e) = no_own e
    at (suc zero, h, e) = no_exports e
    at (suc (suc k), h, e) = grind arith

-- The bundle.

paired : (hooks : Hooks) → IsPaired (p as_call) hooks AsCall BySymbol (wrapped tree) pairing
paired hooks = record {
  labels = record { one_label = λ d l other a b. absurd (no_element (d, l) a); one_binding = λ d other l a b. absurd (no_element (d, l) a) };
  body = of_function body refl;
  realised = (bundle.own _ refl (marks, call_means as_call, call_in_body), (bundle.returns [] refl no_linked object_in_body, tt));
  due = λ cause. (two_due cause, due cause);
  once = once_each;
}
  where
    differ : Own 0 0 ≡ Exports → ⊥
    differ e = cc

    past : (n : ℕ) (cause : Cause) → slice_get pairing.plan (suc (suc n)) ≡ Some cause → ⊥
    past n cause e = cc

    once_each : (i j : ℕ) (cause : Cause) → slice_get pairing.plan i ≡ Some cause → slice_get pairing.plan j ≡ Some cause → i ≡ j
    once_each zero zero cause a b = refl
    once_each (suc zero) (suc zero) cause a b = refl
    once_each zero (suc zero) cause a b = absurd (differ (same_Some _ cause a ∙ sym (same_Some _ cause b)))
    once_each (suc zero) zero cause a b = absurd (differ (same_Some _ cause b ∙ sym (same_Some _ cause a)))
    once_each zero (suc (suc j)) cause a b = absurd (past j cause b)
    once_each (suc zero) (suc (suc j)) cause a b = absurd (past j cause b)
    once_each (suc (suc i)) j cause a b = absurd (past i cause a)

in_front : Chosen (IsDue (p as_call) AsCall) (Helps ∷ []) []
in_front = left (not_due Helps no_own no_exports) nothing
  where
    no_own : Own 0 0 ≡ Helps → ⊥
    no_own e = cc

    no_exports : Exports ≡ Helps → ⊥
    no_exports e = cc

its_block : IsBlockLaidOut (p as_call) AsCall (wrapped tree) BySymbol pairing (0 ∷ []) (Own 0 0 ∷ [])
its_block = lone (λ e. no_request as_call 0) (left (not_due _ a b) (left (not_due _ c d) (chosen (two_due (Own 0 0) (0, lit< tt, refl)) (left (not_due _ e f) nothing))))
  where
    a : Own 0 0 ≡ Defines 0 → ⊥
    a same = cc

    b : Exports ≡ Defines 0 → ⊥
    b same = cc

    c : Own 0 0 ≡ HoldsMeta 0 → ⊥
    c same = cc

    d : Exports ≡ HoldsMeta 0 → ⊥
    d same = cc

    e : Own 0 0 ≡ HoldsNamespace 0 → ⊥
    e same = cc

    f : Exports ≡ HoldsNamespace 0 → ⊥
    f same = cc

laid_out : IsLaidOut (p as_call) AsCall BySymbol (wrapped tree) pairing
laid_out = record {
  list = 0 ∷ [];
  is_list = its_list as_call;
  blocks = (0 ∷ []) ∷ [];
  are_blocks = its_blocks as_call;
  follows = λ e. follows as_call;
  front = [];
  middle = Own 0 0 ∷ [];
  back = Exports ∷ [];
  plan = refl;
  in_front = in_front;
  in_blocks = next (Own 0 0 ∷ []) its_block no_blocks;
  behind = chosen (returns refl) nothing;
}

-- it is a bundle of `f(1);` in the form of one function's call, whatever the hook
pub is_called_bundle : (hooks : Hooks) → IsBundle (p as_call) hooks AsCall BySymbol (wrapped tree)
is_called_bundle hooks = record { pairing = pairing; paired = paired hooks; laid_out = laid_out }

-- and the module as it is, without the call, is none in that form
no_module_in_a_call : (hooks : Hooks) → IsBundle (p as_call) hooks AsCall BySymbol tree → ⊥
no_module_in_a_call hooks b = at tree b.pairing.top b.pairing.body refl b.paired.body
  where
    at : (its : List Item) (top : Rattle.bundle_rules.specs.Scopes.Scope) (items : List Rattle.bundle_rules.specs.Statements.TopItem) → its ≡ tree → bundle.HasBody AsCall its top items → ⊥
    at its top items is (of_function inside whole) = cc is

-- what stands in the function cannot end it: with `(function () { evil;` behind the call it is none either

-- `} })(); (function () { evil;`
abbrev appended : List Item
appended =
    h.Close ∷ h.Close ∷ h.Close ∷ h.Close ∷ h.Close ∷ h.Close
    ∷ h.Open 0 h.ExprStmt ∷ h.Open 0 h.CallExpr ∷ h.Open 0 h.ParenExpr ∷ h.Open 0 h.FnExpr ∷ h.Open 1 (h.Function false false) ∷ h.Open 1 h.BlockStmt
    ∷ runs (h.Ident 0 (codes "evil") 0 Reference ∷ [])

abbrev appended_tree : List Item
appended_tree = called_function (body ++ appended)

-- the parts of a call, and what then stands whole in it
inside_of : (is_async : Bool) (inside other : List Item) → bundle.function_front is_async ++ (inside ++ bundle.function_back) ≡ called_function other → inside ≡ other
inside_of is_async inside other e = append_cancel_right inside other bundle.function_back (ap (drop 7) e)

stands_in_call : (its other : List Item) (top : Scope) (items : List TopItem) → its ≡ called_function other → bundle.HasBody AsCall its top items → StandsWhole other
stands_in_call its other top items is (of_function inside whole) = subst StandsWhole (inside_of (awaits_outside inside) inside other is) whole

no_more : (x : Item) → None ≡ Some x → ⊥
no_more x e = cc

pub nothing_is_appended : (hooks : Hooks) → IsBundle (p as_call) hooks AsCall BySymbol appended_tree → ⊥
nothing_is_appended hooks b = closes (stands_in_call appended_tree (body ++ appended) b.pairing.top b.pairing.body refl b.paired.body)
  where
    closes : StandsWhole (body ++ appended) → ⊥
    closes e = no_more _ (ap (λ l. slice_get l 20) e)

-- and none of its statements takes the function's end for its own: with `{` behind the object it is none

abbrev left_open : List Item
left_open = h.Open 0 h.BlockStmt ∷ []

pub nothing_stays_open : (hooks : Hooks) → IsBundle (p as_call) hooks AsCall BySymbol (called_function (body ++ left_open)) → ⊥
nothing_stays_open hooks b = closes (stands_in_call (called_function (body ++ left_open)) (body ++ left_open) b.pairing.top b.pairing.body refl b.paired.body)
  where
    closes : StandsWhole (body ++ left_open) → ⊥
    closes e = no_more _ (sym (ap (λ l. slice_get l 14) e))
