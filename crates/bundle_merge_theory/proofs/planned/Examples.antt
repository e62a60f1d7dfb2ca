-- The smallest program is decided; and what borders of the definitions say of small programs.
use Rattle.std.proofs.Common.{◌≡◌, inl, inr, ℕ, ◌==◌, true, false, cond, List, [], ◌∷◌, ◌++◌, Option, Some, None, refl, sym, subst, true≢false}
use Rattle.std.specs.Prelude.{codes}
use Rattle.bundle_syntax.specs.Item.{Item}
use Rattle.bundle_order_graph.specs.Walks.{itself}
use Rattle.bundle_order_graph.specs.Order.{finished, listed}
use Rattle.bundle_order_graph.specs.Blocks as g
use Rattle.bundle_rules.specs.Program.{Loaded, Program, requested}
use Rattle.bundle_rules.specs.Bundle.{AsModule, Own, Helps, Defines, Loads, externals}
use Rattle.bundle_rules.proofs.Trees.{imports, imports_bare, requires}
use Rattle.bundle_rules.proofs.Programs.{main_js, loaded}
use Rattle.bundle_rules.proofs.BundleExamples as e
use Rattle.bundle_link_targets.specs.Taken as picks
use Rattle.bundle_merge_theory.specs.planned.Decided as d
use Rattle.bundle_merge_theory.specs.planned.Decided.{Decided, AreDecided, HandsOutNames, IsModuleDecided, IsBlockDecided, plan_of, taken_modules}
use Rattle.bundle_merge_theory.proofs.planned.OrderLemmas.{no_element}
use Rattle.bundle_link_index.proofs.ProgramLemmas.{first_or_later}

-- ---- `f(1);` alone
abbrev alone : Decided
alone = record {
  list = 0 ∷ [];
  is_common_js = λ m. false;
  loads = λ m. [];
  has_meta = λ m. false;
  statements = λ m. 1;
  is_object_meant = λ m. false;
  externals = [];
  stars = [];
  exports = false;
  blocks = record { modules = 0 ∷ []; is_sorted = false } ∷ [];
}

alone_plan : plan_of alone ([] ∷ []) ≡ Own 0 0 ∷ []
alone_plan = refl

no_exports : HandsOutNames (e.p e.as_module) AsModule → false ≡ true
no_exports (d.exported {x} linked) =
    absurd (e.gives_nothing e.as_module 0 x linked.0 linked.1.origin refl linked.1.given)

module_zero : IsModuleDecided (e.p e.as_module) alone 0
module_zero = record {
  common_js = (λ t. absurd (true≢false (sym t)), λ cjs. absurd (e.es e.as_module 0 cjs));
  loads = λ es. g.Members.nothing;
  taken = λ load c. absurd (no_element c);
  meta = refl;
  statements = refl;
  object =
      (λ t. absurd (true≢false (sym t)), λ means. absurd (e.meant_nothing e.as_module _ means));
}

block_zero : IsBlockDecided (e.p e.as_module) (record { modules = 0 ∷ []; is_sorted = false })
block_zero = record {
  lone = λ same. (0, refl, λ by_needs asks. e.no_request e.as_module 0 asks);
  sorted = λ t. absurd (true≢false (sym t));
}

is_decided : AreDecided (e.p e.as_module) AsModule alone
is_decided = record {
  list = listed (λ c. no_element c) finished finished;
  modules =
      λ m c. elim (first_or_later 0 [] m c)
      [ inl same ↦ subst (IsModuleDecided (e.p e.as_module) alone) same module_zero | inr none ↦ absurd (no_element none) ];
  outside = tt;
  starred = picks.nothing;
  exports = (λ t. absurd (true≢false (sym t)), no_exports);
  blocks =
      g.BlocksOf.ends (itself, itself, λ asked. refl) (λ y c s. no_element c)
      (g.Members.kept (itself, itself, λ asked. refl) g.Members.nothing) g.BlocksOf.over;
  kinds =
      λ block c. elim (first_or_later (record { modules = 0 ∷ []; is_sorted = false }) [] block c)
      [ inl same ↦ subst (IsBlockDecided (e.p e.as_module)) same block_zero | inr none ↦ absurd (no_element none) ];
}

-- ---- `import './x'; import d from './y';` where both are the script 7, which requires itself and
-- asks for an external
abbrev main : List Item
main = imports_bare (codes "./x") ++ imports (codes "default") (codes "d") (codes "./y")

abbrev script : List Item
script = requires (codes "./z") ++ requires (codes "ext")

abbrev module_at : ℕ → Option Loaded
module_at m =
    cond (m == 4) (Some (loaded main_js main)) (cond (m == 7) (Some (loaded main_js script)) None)

abbrev two : Program
two = record {
  settings = record {
    require = true;
    external = codes "ext" ∷ [];
    iife = false;
    renames = true;
    most_modules = 9;
    in_standard_order = false;
  };
  entry = 4;
  count = 8;
  files = λ m. Some main_js;
  modules = module_at;
  leads = λ m s. Some 7;
}

-- one request, and one module that is loaded
one_request : requested two 4 ≡ 7 ∷ []
one_request = refl

one_load : taken_modules two 4 (λ c. c == 7) ≡ 7 ∷ []
one_load = refl

-- the script requests itself, asks for nothing by declarations, and its external is none of the
-- bundle's
its_request : requested two 7 ≡ 7 ∷ []
its_request = refl

no_external : externals two (7 ∷ 4 ∷ []) ≡ []
no_external = refl

abbrev of_two : Decided
of_two = record {
  list = 7 ∷ 4 ∷ [];
  is_common_js = λ m. m == 7;
  loads =
      λ m. cond (m == 4) (record { which = 7; names = codes "default" ∷ []; whole = false } ∷ [])
      [];
  has_meta = λ m. false;
  statements = λ m. cond (m == 7) 2 0;
  is_object_meant = λ m. false;
  externals = [];
  stars = [];
  exports = false;
  blocks =
      record { modules = 7 ∷ []; is_sorted = true } ∷ record { modules = 4 ∷ []; is_sorted = false }
      ∷ [];
}

plan_of_two : plan_of of_two ((0 ∷ []) ∷ [] ∷ []) ≡ Helps ∷ Defines 7 ∷ Loads 4 7 ∷ []
plan_of_two = refl
