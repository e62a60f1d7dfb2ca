-- A module that declares `default` twice, by an import and by a default that has no name: what the definitions call meant,
-- and what uses of imported names mean, are two things there.
use Rattle.std.proofs.Common.{◌≡◌, ℕ, zero, suc, List, [], ◌∷◌, ◌++◌, Option, Some, refl, sym, subst, arith, lit<, true≢false}
use Rattle.std.specs.Prelude.{codes, Contains}
use Rattle.std.proofs.lemmas.Option.{none-some}
use Rattle.bundle_syntax.specs.Item.{Item}
use Rattle.bundle_order_graph.specs.Walks.{itself, along}
use Rattle.bundle_rules.specs.Places.{Around}
use Rattle.bundle_rules.specs.Nodes.{Text}
use Rattle.bundle_rules.specs.Scopes.{Es}
use Rattle.bundle_rules.specs.Declarations.{Declared}
use Rattle.bundle_rules.specs.Doubled.{first_doubled}
use Rattle.bundle_rules.specs.Statements.{default_name, default_binding, default_constant}
use Rattle.bundle_rules.specs.Entries.{ExportEntry, Local, Indirect, Star, Named}
use Rattle.bundle_rules.specs.Program.{Program, tree_of, resolves, IsReached}
use Rattle.bundle_rules.specs.Linking.{IsCommonJs, Target, Origin, Namespace, Gives, declaration, namespace_import, taken, given_on, starred, exports, StandsFor, taken_whole, of_module, HasExternalStar, own}
use Rattle.bundle_rules.specs.Meaning.{Of, is_es, IsMeant, IsLeft, by_statement, says_name, at_top}
use Rattle.bundle_rules.proofs.Trees.{exports_all, exports_default, imports_all, imports_bare, number}
use Rattle.bundle_rules.proofs.Programs.{program}
use Rattle.bundle_link_tables.specs.Used.{UseEntry, uses_of}
use Rattle.bundle_link_targets.specs.Meant.{IsTargetTaken, by_use, by_entry, by_names}

-- main: `import './a'; export * from 'ext';`    a: `import * as default from './main'; export default 1;`
abbrev one : List Item
one = number 0 (codes "1")

abbrev p : Program
p = program (imports_bare (codes "./a") ++ exports_all (codes "ext")) (imports_all default_name (codes "./main") ++ exports_default one) [] []

es : (m : ℕ) → IsCommonJs p m → ⊥
es m c = true≢false (sym c.linked)

-- by the definitions the own statement of a, `const default = 1`, means the namespace of main by the name that it declares
default_stands : StandsFor p 1 default_name (Namespace 0)
default_stands = taken_whole _ refl (of_module (record { resolved = refl; es = es 0 }))

nothing_around : (node : Around) → Contains [] node → ⊥
nothing_around node (k, b, e) = grind arith

default_is_left : IsLeft p 1 default_binding
default_is_left node by there is = nothing_around node there

a_is_reached : IsReached p 1
a_is_reached = along (0, lit< tt, refl) itself

pub is_meant : IsMeant p (Of (Namespace 0))
is_meant = by_statement {m = 1} {statement = default_constant 9 one} a_is_reached (0, lit< tt, refl) (3, lit< tt, refl) default_is_left (says_name (is_es (es 1)) refl (at_top default_stands))

-- main stars an external, so that by this its object cannot be made
pub stars_external : HasExternalStar p 0 (codes "ext")
stars_external = own (0, lit< tt, refl) refl

-- no module uses an imported name, and main gives nothing
no_use : (m : ℕ) → uses_of (tree_of p m) ≡ []
no_use zero = refl
no_use (suc zero) = refl
no_use (suc (suc zero)) = refl
no_use (suc (suc (suc zero))) = refl
no_use (suc (suc (suc (suc m)))) = refl

no_such : (its : UseEntry) → Contains [] its → ⊥
no_such its (k, b, e) = grind arith

only_star : (e : ExportEntry) → Contains (Star (codes "ext") ∷ []) e → e ≡ Star (codes "ext")
only_star e (zero, b, is) = sym is
only_star e (suc k, b, is) = grind arith

its_star : (e : ExportEntry) → Contains (exports p 0) e → e ≡ Star (codes "ext")
its_star e there = only_star e there

gives_nothing : (m : ℕ) (x : Text) (t : Target) (origin : Option Origin) → m ≡ 0 → Gives p m x t origin → ⊥
gives_nothing m x t origin is (declaration {y = y} stands none) = let e = its_star (Local x y) (subst (λ n. Contains (exports p n) (Local x y)) is stands) in cc
gives_nothing m x t origin is (namespace_import {y = y} entry stands found takes) = let e = its_star (Local x y) (subst (λ n. Contains (exports p n) (Local x y)) is stands) in cc
gives_nothing m x t origin is (taken {s = s} {what = what} stands takes) = let e = its_star (Indirect x s what) (subst (λ n. Contains (exports p n) (Indirect x s what)) is stands) in cc
gives_nothing m x t origin is (given_on {s = s} {y = y} stands source gives) = let e = its_star (Indirect x s (Named y)) (subst (λ n. Contains (exports p n) (Indirect x s (Named y))) is stands) in cc
gives_nothing m x t origin is (starred {d = d} {s = s} no_own other stands source gives) =
    let e = its_star (Star s) (subst (λ n. Contains (exports p n) (Star s)) is stands) in
    let same : s ≡ codes "ext" = cc in
    no_module d (subst (λ n. resolves p n (codes "ext") ≡ Some d) is (subst (λ text. resolves p m text ≡ Some d) same source.resolved))
  where
    no_module : (d : ℕ) → resolves p 0 (codes "ext") ≡ Some d → ⊥
    no_module d e = absurd (none-some d e)

pub is_not_taken : (t : Target) → IsTargetTaken p t → ⊥
is_not_taken t (by_use {m = m} {its = its} reached there means) = no_such its (subst (λ (l : List UseEntry). Contains l its) (no_use m) there)
is_not_taken t (by_entry {x = x} linked) = gives_nothing 0 x t linked.origin refl linked.given
is_not_taken t (by_names {d = d} more linked) = is_not_taken (Namespace d) more

-- a declares a name twice
pub is_doubled : (d : Declared) × (first_doubled Es (tree_of p 1) ≡ Some d)
is_doubled = (_, refl)
