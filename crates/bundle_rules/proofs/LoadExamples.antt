-- The function of a CommonJS module: that of `f(1);` is `var load = __swcpack_require__(function (module, exports) { f(1); });`.
use Rattle.std.proofs.Common.{◌≡◌, ℕ, false, List, [], ◌∷◌, ◌++◌, Some, None, refl, sym, subst, ap, lit<}
use Rattle.std.specs.Prelude.{codes, slice_get, take, drop}
use Rattle.bundle_syntax.specs.declared.kind.VarDeclKind.TheVariants.{Var}
use Rattle.bundle_syntax.specs.Item as h
use Rattle.bundle_syntax.specs.Item.{Item}
use Rattle.bundle_rules.specs.Scopes.{Top, Inner, Parameters}
use Rattle.bundle_rules.specs.Declarations.{BySymbol}
use Rattle.bundle_rules.specs.Denotes.{Denoted, Bound, Global}
use Rattle.bundle_rules.specs.Nodes.{Text, StandsWhole}
use Rattle.bundle_rules.specs.Statements.{taken_from}
use Rattle.bundle_rules.specs.Program.{Program}
use Rattle.bundle_rules.specs.Meaning.{Load, Helper, Parameter, Known, plain, StatementMeans, begun, ended, finished, named, outside, unbound}
use Rattle.bundle_rules.specs.Bundle.{Labelled, sense_of, IsLoadFunction}
use Rattle.bundle_rules.proofs.Trees.{node, module_of, binds, uses, declares, argument, function, runs}
use Rattle.bundle_rules.proofs.BundleExamples.{p, as_module, call, marks, call_means}
use Rattle.bundle_rules.proofs.LoadLemmas.{inside_is}

abbrev helper : Text
helper = codes "__swcpack_require__"

-- `name` among the parameters
abbrev takes : Text → List Item
takes name = node 0 h.Param (node 0 h.BindingIdent (binds 0 name))

-- `var load = __swcpack_require__(function (module, exports) { .. });`, with these arguments behind the function
abbrev loads_with : List Item → List Item → List Item
loads_with stmts more =
    declares Var (codes "load") (node 1 h.CallExpr (uses 0 helper
    ++ argument (node 1 h.FnExpr (node 1 (h.Function false false) (takes (codes "module") ++ takes (codes "exports") ++ node 1 h.BlockStmt stmts)))
    ++ more))

abbrev load_tree : List Item
load_tree = loads_with call []

-- it stands in front, and the helper is declared behind it
abbrev parameter : Text → Denoted
parameter x = Bound (Inner Parameters 10) (plain x)

abbrev bundle : Labelled
bundle = record {
  tree = module_of (load_tree ++ declares Var helper []);
  reading = BySymbol;
  labels = (Bound Top (plain (codes "load")), Load 0) ∷ (Bound Top (plain helper), Helper)
      ∷ (parameter (codes "module"), Parameter 0 (codes "module")) ∷ (parameter (codes "exports"), Parameter 0 (codes "exports")) ∷ [];
}

-- it is the function of main, were that a CommonJS module
pub is_load_function : IsLoadFunction (p as_module) bundle 0 (record { start = 1; items = load_tree })
is_load_function = record {
  front = taken_from 1 (take 21 load_tree);
  inside = call;
  back = taken_from 31 (drop 30 load_tree);
  is = refl;
  front_means =
      begun (λ by none. none) (begun (λ by none. none) (begun (λ by none. none) (named (Bound Top (plain (codes "load"))) (Known (Load 0)) refl (outside refl (0, lit< tt, refl)) (ended
      (begun (λ by none. none) (named (Bound Top (plain helper)) (Known Helper) refl (outside refl (1, lit< tt, refl))
      (begun (λ by none. none) (begun (λ by none. none) (begun (λ by none. none)
      (begun (λ by none. none) (begun (λ by none. none) (named (parameter (codes "module")) (Known (Parameter 0 (codes "module"))) refl (outside refl (2, lit< tt, refl)) (ended (ended
      (begun (λ by none. none) (begun (λ by none. none) (named (parameter (codes "exports")) (Known (Parameter 0 (codes "exports"))) refl (outside refl (3, lit< tt, refl)) (ended (ended
      (begun (λ by none. none) finished))))))))))))))))))));
  front_length = refl;
  back_means = ended (ended (ended (ended (ended (ended (ended finished))))));
  back_length = refl;
  whole = refl;
  statements = ((marks, call_means as_module, call_in_function), tt);
}
  where
    call_in_function : StatementMeans (sense_of bundle) 22 (taken_from 22 call) marks
    call_in_function = begun (λ by none. none) (begun (λ by none. none) (named (Global (codes "f")) _ refl unbound (begun (λ by none. none) (begun (λ by none. none) (ended (ended (ended (ended finished))))))))

-- what stands in it cannot end it, however it is parted: `var load = __swcpack_require__(function (module, exports) { f(1); }, function () { evil; });` is none, of whatever module and program

-- `}, function () { evil;`, as the statements behind `f(1);` would have to be
abbrev smuggled : List Item
smuggled = h.Close ∷ h.Close ∷ h.Close ∷ h.Close ∷ h.Open 1 (h.ExprOrSpread false) ∷ h.Open 1 h.FnExpr ∷ h.Open 1 (h.Function false false) ∷ h.Open 1 h.BlockStmt ∷ runs (uses 0 (codes "evil"))

abbrev smuggled_tree : List Item
smuggled_tree = loads_with call (argument (node 1 h.FnExpr (function 1 (runs (uses 0 (codes "evil"))))))

pub nothing_is_smuggled : (program : Program) (b : Labelled) (c start : ℕ) → IsLoadFunction program b c (record { start = start; items = smuggled_tree }) → ⊥
nothing_is_smuggled program b c start f = closes (subst StandsWhole (inside_is f (take 21 smuggled_tree) (call ++ smuggled) (drop 41 smuggled_tree) refl refl refl) f.whole)
  where
    no_more : (x : Item) → None ≡ Some x → ⊥
    no_more x e = cc

    closes : StandsWhole (call ++ smuggled) → ⊥
    closes e = no_more _ (ap (λ l. slice_get l 9) e)

-- nor may its last statement take the function's end for its own: `var load = __swcpack_require__(function (module, exports) { f(1); { });` is none
abbrev open_tree : List Item
open_tree = take 30 load_tree ++ (h.Open 0 h.BlockStmt ∷ drop 30 load_tree)

pub nothing_is_left_open : (program : Program) (b : Labelled) (c start : ℕ) → IsLoadFunction program b c (record { start = start; items = open_tree }) → ⊥
nothing_is_left_open program b c start f = closes (subst StandsWhole (inside_is f (take 21 open_tree) (call ++ h.Open 0 h.BlockStmt ∷ []) (drop 31 open_tree) refl refl refl) f.whole)
  where
    no_more : (x : Item) → None ≡ Some x → ⊥
    no_more x e = cc

    closes : StandsWhole (call ++ h.Open 0 h.BlockStmt ∷ []) → ⊥
    closes e = no_more _ (sym (ap (λ l. slice_get l 10) e))
