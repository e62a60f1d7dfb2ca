-- Examples of what modules give: one for each clause, and one name of each kind.
use Rattle.std.proofs.Common.{◌≡◌, ℕ, zero, suc, List, [], ◌++◌, Option, Some, None, inl, inr, refl, sym, subst, arith, lit<, true≢false}
use Rattle.std.specs.Prelude.{codes, Contains}
use Rattle.bundle_syntax.specs.Item.{Item}
use Rattle.bundle_rules.specs.Nodes.{Text}
use Rattle.bundle_rules.specs.Entries.{import_of, ImportEntry, Named, ExportEntry, Local, Indirect, Star}
use Rattle.bundle_rules.specs.Program.{Program, requested, Requests, IsReached}
use Rattle.bundle_order_graph.specs.Walks.{itself}
use Rattle.bundle_rules.specs.Linking.{exports, imports as imports_of_module, taken_whole, Target, Declared, Namespace, External, CommonJs, Gives, declaration, namespace_import, taken, given_on, starred, Takes, of_external, of_common_js, of_module, IsModule, IsCommonJs, Linked, IsAmbiguous, IsMissing, HasExternalStar, own, through, StandsFor, imported, Origin}
use Rattle.bundle_rules.proofs.Trees.{number, exports_const, imports, imports_all, exports_all, exports_from, exports_all_as, exports_name, calls, requires}
use Rattle.bundle_rules.proofs.Programs.{program, program_with_require}

abbrev pub x : Text
x = codes "x"

abbrev pub one : List Item
one = number 1 (codes "1")

-- main: `export { x as y } from './a'; export * as n from './a'; export { x as e } from 'ext'; export * from './b';`
-- a: `export const x = 1;`    b: `import * as n from './a'; export { n as z };`    c: `export * from './c'; export * from 'ext';`
abbrev p : Program
p = program (exports_from x (codes "y") (codes "./a") ++ exports_all_as (codes "n") (codes "./a") ++ exports_from x (codes "e") (codes "ext") ++ exports_all (codes "./b"))
    (exports_const x one)
    (imports_all (codes "n") (codes "./a") ++ exports_name (codes "n") (codes "z"))
    (exports_all (codes "./c") ++ exports_all (codes "ext"))

-- where `require` is not linked, each module is an ES module
es : (m : ℕ) → IsCommonJs p m → ⊥
es m c = true≢false (sym c.linked)

a_from : (m : ℕ) → Rattle.bundle_rules.specs.Program.resolves p m (codes "./a") ≡ Some 1 → IsModule p m (codes "./a") 1
a_from m e = record { resolved = e; es = es 1 }

-- a gives its declaration
gives_declaration : Gives p 1 x (Declared 1 x) None
gives_declaration = declaration (0, lit< tt, refl) refl

-- main gives on what a gives
gives_on : Gives p 0 (codes "y") (Declared 1 x) None
gives_on = given_on (0, lit< tt, refl) (a_from 0 refl) gives_declaration

-- main gives the namespace of a, and a name of an external
gives_namespace : Gives p 0 (codes "n") (Namespace 1) None
gives_namespace = taken (1, lit< tt, refl) (of_module (a_from 0 refl))

gives_external : Gives p 0 (codes "e") (External (codes "ext") (Named x)) None
gives_external = taken (2, lit< tt, refl) (of_external refl)

-- b gives the namespace of a, which goes with b and its name n
gives_with_origin : Gives p 2 (codes "z") (Namespace 1) (Some (record { which = 2; local = codes "n" }))
gives_with_origin = namespace_import _ (0, lit< tt, refl) refl (of_module (a_from 2 refl))

-- main gives by its star what b gives, with the origin
gives_by_star : Gives p 0 (codes "z") (Namespace 1) (Some (record { which = 2; local = codes "n" }))
gives_by_star = starred refl (λ e. grind arith) (3, lit< tt, refl) (record { resolved = refl; es = es 2 }) gives_with_origin

-- c stars the external, beside itself
stars_external : HasExternalStar p 3 (codes "ext")
stars_external = own (1, lit< tt, refl) refl

-- an import of a star of a star counts
stars_by_itself : HasExternalStar p 3 (codes "ext")
stars_by_itself = through (0, lit< tt, refl) refl stars_external

-- main: `export * from './a'; export * from './b';`    a and b: `export const x = ..;`: two targets
abbrev pub two : Program
two = program (exports_all (codes "./a") ++ exports_all (codes "./b")) (exports_const x one) (exports_const x one) []

es_two : (m : ℕ) → IsCommonJs two m → ⊥
es_two m c = true≢false (sym c.linked)

gives_from_a : Gives two 0 x (Declared 1 x) None
gives_from_a = starred refl (λ e. grind arith) (0, lit< tt, refl) (record { resolved = refl; es = es_two 1 }) (declaration (0, lit< tt, refl) refl)

gives_from_b : Gives two 0 x (Declared 2 x) None
gives_from_b = starred refl (λ e. grind arith) (1, lit< tt, refl) (record { resolved = refl; es = es_two 2 }) (declaration (0, lit< tt, refl) refl)

pub ambiguous : IsAmbiguous two 0 x
ambiguous = record { first = Declared 1 x; second = Declared 2 x; first_origin = None; second_origin = None; gives_first = gives_from_a; gives_second = gives_from_b; differ = inl (λ e. grind arith) }

-- main: `require('./c');`    c: `f(1);`: c is CommonJS, and an import of it takes a property
abbrev with_require : Program
with_require = program_with_require (requires (codes "./c") ++ imports x x (codes "./c")) [] [] (calls (codes "f") one)

requires_c : Rattle.bundle_rules.specs.Linking.Requires with_require 0 3
requires_c = record { call = record { place = 2; specifier = codes "./c" }; stands = (0, lit< tt, refl); resolved = refl }

c_is_common_js : IsCommonJs with_require 3
c_is_common_js = record { linked = refl; other = λ e. grind arith; script = refl; used = inr (0, itself, requires_c) }

-- what main takes of c is a property as main takes it
takes_property : StandsFor with_require 0 x (CommonJs 0 3 (Named x))
takes_property = taken_whole _ refl (of_common_js refl c_is_common_js)

-- a: `export const x = 1;`, with any main
abbrev pub plain : List Item → Program
plain main = program main (exports_const x one) [] []

pub es_plain : (main : List Item) (m : ℕ) → IsCommonJs (plain main) m → ⊥
es_plain main m c = true≢false (sym c.linked)

-- the one entry of a
only_entry : (main : List Item) (e : ExportEntry) → Contains (exports (plain main) 1) e → Local x x ≡ e
only_entry main e (zero, h, same) = same
only_entry main e (suc k, h, same) = grind arith

nothing_found : (entry : ImportEntry) → None ≡ Some entry → ⊥
nothing_found entry e = cc

abbrev IsDeclared : Target → Option Origin → Type 0
IsDeclared t origin = (t ≡ Declared 1 x) × (origin ≡ None)

only_target : (main : List Item) (m : ℕ) (y : Text) (t : Target) (origin : Option Origin) → m ≡ 1 → y ≡ x → Gives (plain main) m y t origin → IsDeclared t origin
only_target main m y t origin e f (declaration {y = z} stands none) =
    let here : Contains (exports (plain main) 1) (Local y z) = subst (λ n. Contains (exports (plain main) n) (Local y z)) e stands in
    let same = only_entry main (Local y z) here in
    (cc, refl)
only_target main m y t origin e f (namespace_import {y = z} entry stands found takes) =
    absurd (nothing_found entry (subst (λ n. import_of (imports_of_module (plain main) n) z ≡ Some entry) e found))
only_target main m y t origin e f (taken {s = s} {what = what} stands takes) =
    let here : Contains (exports (plain main) 1) (Indirect y s what) = subst (λ n. Contains (exports (plain main) n) (Indirect y s what)) e stands in
    let same = only_entry main (Indirect y s what) here in
    cc
only_target main m y t origin e f (given_on {s = s} {y = z} stands source gives) =
    let here : Contains (exports (plain main) 1) (Indirect y s (Named z)) = subst (λ n. Contains (exports (plain main) n) (Indirect y s (Named z))) e stands in
    let same = only_entry main (Indirect y s (Named z)) here in
    cc
only_target main m y t origin e f (starred {s = s} no_own named stands source gives) =
    let here : Contains (exports (plain main) 1) (Star s) = subst (λ n. Contains (exports (plain main) n) (Star s)) e stands in
    let same = only_entry main (Star s) here in
    cc

-- so x of a is linked to the declaration
pub x_is_linked : (main : List Item) → Linked (plain main) 1 x (Declared 1 x)
x_is_linked main = record { origin = None; given = declaration (0, lit< tt, refl) refl; only = λ t origin gives. only_target main 1 x t origin refl refl gives }

-- and after `import { x as y } from './a';` y stands for it
abbrev imports_y : List Item
imports_y = imports x (codes "y") (codes "./a")

y_stands_for_x : StandsFor (plain imports_y) 0 (codes "y") (Declared 1 x)
y_stands_for_x = imported _ refl refl (record { resolved = refl; es = es_plain imports_y 1 }) (x_is_linked imports_y)
