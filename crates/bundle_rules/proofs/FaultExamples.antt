-- Examples of faults: one of each kind that the definitions decide by themselves.
use Rattle.std.proofs.Common.{◌≡◌, ℕ, zero, suc, true, false, List, [], ◌∷◌, ◌++◌, ◌⊎◌, inl, inr, Option, Some, None, refl, sym, subst, ◌∙◌, arith, lit<, lit≤, true≢false}
use Rattle.std.specs.Prelude.{◌<◌, codes, Contains, slice_index_or}
use Rattle.bundle_syntax.specs.declared.kind.VarDeclKind.TheVariants.{Let}
use Rattle.bundle_syntax.specs.declared.operator.AssignOp.TheVariants.{Assign}
use Rattle.bundle_syntax.specs.Item as h
use Rattle.bundle_syntax.specs.Item.{Item}
use Rattle.bundle_rules.specs.Nodes.{Text}
use Rattle.bundle_syntax.specs.declared.piece.Role.TheVariants.{Reference}
use Rattle.bundle_rules.specs.Places.{Around, path_at}
use Rattle.bundle_order_graph.specs.Walks.{itself}
use Rattle.bundle_rules.specs.Statements.{no_notes, taken_from, taken as element}
use Rattle.bundle_rules.specs.Entries.{ExportEntry, Local, Indirect, Star, Taken, Named}
use Rattle.bundle_rules.specs.Program.{Program, tree_of, resolves, is_external}
use Rattle.bundle_rules.specs.Kept.{nothing_kept, program_of}
use Rattle.bundle_rules.specs.Linking.{Namespace, taken_whole, IsCommonJs, Gives, declaration, namespace_import, taken, given_on, starred, HasExternalStar, own, through, Target, Origin, exports, of_module, Takes, of_external, of_common_js, StandsFor}
use Rattle.bundle_rules.specs.Meaning.{is_es, IsMeant, IsLeft, Replaced, by_statement, says_name, Of, at_top}
use Rattle.bundle_rules.specs.Faults.{NamespaceOverExternalStar, ExternalStarOnly, external_only, namespace_over_external_star, DoubledDeclaration, DoubledExport, UndeclaredExport, MissingExport, AmbiguousExport, StarOfCommonJs, WithStatement, RequiredEsModule, RequiredEntry, AwaitInCommonJs, ExternalUnderIife, ArgumentsUnderIife, TooManyModules, TreeFault, doubled_export, undeclared_export, with_statement, ProgramFault, required_entry, required_es_module, doubled_declaration, await_in_common_js, star_of_common_js, name, external_under_iife, arguments_under_iife, NameFault, ambiguous, missing, PropertiesFault, doubled, Parties}
use Rattle.bundle_rules.specs.Judging.{IsDoubledEntry, Loads, no_room, Refused}
use Rattle.bundle_rules.proofs.Trees.{node, module_of, binds, uses, names, word, string, number, declares, exports_const, imports, imports_all, imports_bare, exports_all, exports_from, exports_name, function, runs, calls, requires, member}
use Rattle.bundle_rules.proofs.Programs.{main_js, a_js, c_js, kept_of, program, program_with_require}
use Rattle.bundle_rules.proofs.LinkingExamples.{x, one, two, ambiguous as both_give_x}
use Rattle.bundle_rules.proofs.MeaningExamples.{not_replaced}

-- Faults of a tree.

-- `export const x = 1; export { x };`
two_exports : TreeFault main_js (module_of (exports_const x one ++ exports_name x x)) 0 1 (DoubledExport main_js x)
two_exports = doubled_export {i = 0} (Local x x) (Local x x) (lit< tt) refl refl refl refl

-- `export { x };`
no_declaration : TreeFault main_js (module_of (exports_name x x)) 1 0 (UndeclaredExport main_js x)
no_declaration = undeclared_export _ refl (inr refl)

-- `export { 'x' as b };`
string_listed : TreeFault main_js (module_of (node 0 (h.NamedExport no_notes) (node 0 h.ExportNamedSpecifier (string 0 x ++ names 1 (codes "b"))))) 1 0 (UndeclaredExport main_js x)
string_listed = undeclared_export _ refl (inl refl)

-- `with (o) ;`
with_there : TreeFault main_js (module_of (node 0 h.WithStmt (uses 0 (codes "o") ++ node 1 h.EmptyStmt []))) 2 1 (WithStatement main_js)
with_there = with_statement refl

-- Faults of a program.

-- main: `require('./a');` with a: `require('./main');`
abbrev circle : Program
circle = program_with_require (requires (codes "./a")) (requires (codes "./main")) [] []

entry_required : ProgramFault circle a_js 1 0 2 (RequiredEntry a_js (codes "./main"))
entry_required = required_entry (record { place = 2; specifier = codes "./main" }) (0, lit< tt, refl) refl

-- main: `require('./a');` with a: `export const x = 1;`
abbrev requires_es : Program
requires_es = program_with_require (requires (codes "./a")) (exports_const x one) [] []

es_module_required : ProgramFault requires_es main_js 0 1 2 (RequiredEsModule main_js (codes "./a"))
es_module_required = required_es_module (record { place = 2; specifier = codes "./a" }) (0, lit< tt, refl) refl refl

-- main: `function f() {} function f() {}`
abbrev twice : Program
twice = program (node 0 h.FnDecl (binds 0 (codes "f") ++ function 1 []) ++ node 0 h.FnDecl (binds 0 (codes "f") ++ function 1 [])) [] [] []

declared_twice : ProgramFault twice main_js 0 2 9 (DoubledDeclaration main_js (codes "f"))
declared_twice = doubled_declaration _ (is_es (λ c. c.other refl)) refl

-- main: `export * from './c';` with c: `await g(); exports.x = 1;`
abbrev stars_script : Program
stars_script = program_with_require (exports_all (codes "./c")) [] [] (runs (node 0 h.AwaitExpr (node 0 h.CallExpr (uses 0 (codes "g")))) ++ runs (node 0 (h.AssignExpr Assign) (member 1 (uses 0 (codes "exports")) x ++ number 2 (codes "1"))))

c_is_script : IsCommonJs stars_script 3
c_is_script = record { linked = refl; other = λ e. grind arith; script = refl; used = inl (inr (inr refl)) }

script_starred : ProgramFault stars_script main_js 0 4 0 (StarOfCommonJs main_js (codes "./c"))
script_starred = star_of_common_js refl refl c_is_script

awaits_in_script : ProgramFault stars_script c_js 3 3 0 (AwaitInCommonJs c_js)
awaits_in_script = await_in_common_js c_is_script refl

-- c: `export * from './a'; export * from './b';`, both of which give x; main imports x of it, as of the main above
two_given : NameFault two 0 x main_js (AmbiguousExport main_js x)
two_given = ambiguous both_give_x

-- main: `import { x } from './a';` with a: `export { x } from './b';` and b: `export { x } from './a';`: a gives nothing
abbrev pub ring : Program
ring = program (imports x x (codes "./a")) (exports_from x x (codes "./b")) (exports_from x x (codes "./a")) []

abbrev InRing : ℕ → Type 0
InRing m = (m ≡ 1) ⊎ (m ≡ 2)

-- an entry of a or of b is the indirect one, by which the other is asked
abbrev AsksOther : ℕ → ExportEntry → Type 0
AsksOther m e = (s : Text) × (e ≡ Indirect x s (Named x)) × (is_external ring s ≡ false) × ((d : ℕ) → resolves ring m s ≡ Some d → InRing d)

is_number : (n d : ℕ) → Some n ≡ Some d → d ≡ n
is_number n d e = cc

entry_of_a : (m : ℕ) (e : ExportEntry) → m ≡ 1 → Contains (exports ring 1) e → AsksOther m e
entry_of_a m e is (zero, h, same) = (codes "./b", sym same, refl, λ d found. inr (is_number 2 d (subst (λ n. resolves ring n (codes "./b") ≡ Some d) is found)))
entry_of_a m e is (suc k, h, same) = grind arith

entry_of_b : (m : ℕ) (e : ExportEntry) → m ≡ 2 → Contains (exports ring 2) e → AsksOther m e
entry_of_b m e is (zero, h, same) = (codes "./a", sym same, refl, λ d found. inl (is_number 1 d (subst (λ n. resolves ring n (codes "./a") ≡ Some d) is found)))
entry_of_b m e is (suc k, h, same) = grind arith

entry_in_ring : (m : ℕ) (e : ExportEntry) → InRing m → Contains (exports ring m) e → AsksOther m e
entry_in_ring m e (inl is) stands = entry_of_a m e is (subst (λ n. Contains (exports ring n) e) is stands)
entry_in_ring m e (inr is) stands = entry_of_b m e is (subst (λ n. Contains (exports ring n) e) is stands)

star_is_local : (a b c : Text) → Star a ≡ Local b c → ⊥
star_is_local a b c e = cc

star_is_other : (a b c : Text) (t : Taken) → Star a ≡ Indirect b c t → ⊥
star_is_other a b c t e = cc

local_is_indirect : (a b s : Text) → Local a b ≡ Indirect x s (Named x) → ⊥
local_is_indirect a b s e = cc

star_is_indirect : (a s : Text) → Star a ≡ Indirect x s (Named x) → ⊥
star_is_indirect a s e = cc

same_specifier : (a b s : Text) (t : Taken) → Indirect a b t ≡ Indirect x s (Named x) → b ≡ s
same_specifier a b s t e = cc

same_taken : (a b s : Text) (t : Taken) → Indirect a b t ≡ Indirect x s (Named x) → t ≡ Named x
same_taken a b s t e = cc

same_name : (y z : Text) → Named y ≡ Named z → y ≡ z
same_name y z e = cc

-- what is no external and is taken by name is taken of the exports of a module
not_taken : (m : ℕ) (s : Text) (what : Taken) (t : Target) → what ≡ Named x → is_external ring s ≡ false → Takes ring m s what t → ⊥
not_taken m s what t by_name inside (of_external out) = true≢false (sym out ∙ inside)
not_taken m s what t by_name inside (of_common_js found c) = true≢false (sym c.linked)
not_taken m s what t by_name inside (of_module source) = cc

nothing_given : (m : ℕ) (y : Text) (t : Target) (origin : Option Origin) → InRing m → Gives ring m y t origin → ⊥
nothing_given m y t origin here (declaration {y = z} stands none) =
    let e = entry_in_ring m (Local y z) here stands in local_is_indirect y z e.0 e.1
nothing_given m y t origin here (namespace_import {y = z} entry stands found takes) =
    let e = entry_in_ring m (Local y z) here stands in local_is_indirect y z e.0 e.1
nothing_given m y t origin here (taken {s = s} {what = what} stands takes) =
    let e = entry_in_ring m (Indirect y s what) here stands in
    not_taken m s what t (same_taken y s e.0 what e.1) (subst (λ u. is_external ring u ≡ false) (sym (same_specifier y s e.0 what e.1)) e.2) takes
nothing_given m y t origin here (given_on {d = d} {s = s} {y = z} stands source gives) =
    let e = entry_in_ring m (Indirect y s (Named z)) here stands in
    nothing_given d z t origin (e.3 d (subst (λ u. resolves ring m u ≡ Some d) (same_specifier y s e.0 (Named z) e.1) source.resolved)) gives
nothing_given m y t origin here (starred {s = s} no_own other stands source gives) =
    let e = entry_in_ring m (Star s) here stands in star_is_indirect s e.0 e.1

no_stars : (m : ℕ) (s : Text) → InRing m → HasExternalStar ring m s → ⊥
no_stars m s here (own stands out) = let e = entry_in_ring m (Star s) here stands in star_is_indirect s e.0 e.1
no_stars m s here (through {r = r} stands found stars) = let e = entry_in_ring m (Star r) here stands in star_is_indirect r e.0 e.1

-- so the x that main imports of a is missing
none_given : NameFault ring 1 x main_js (MissingExport main_js x)
none_given = missing (λ t origin gives. nothing_given 1 x t origin (inl refl) gives) (inr (λ stars. no_stars 1 stars.0 (inl refl) stars.1))

es_ring : (m : ℕ) → IsCommonJs ring m → ⊥
es_ring m c = true≢false (sym c.linked)

pub x_is_missing : ProgramFault ring main_js 0 5 0 (MissingExport main_js x)
x_is_missing = name _ refl (record { resolved = refl; es = es_ring 1 }) none_given

-- Under one function's call.

abbrev pub under_iife : List Item → Program
under_iife main = program_of (kept_of main [] [] []) (record { require = false; external = codes "ext" ∷ []; iife = true; renames = true; most_modules = 9; in_standard_order = false }) 0

-- `import 'ext';`
external_there : ProgramFault (under_iife (imports_bare (codes "ext"))) main_js 0 7 0 (ExternalUnderIife main_js (codes "ext"))
external_there = external_under_iife refl refl refl

-- `use(arguments);`
arguments_there : ProgramFault (under_iife (calls (codes "use") (uses 1 (codes "arguments")))) main_js 0 8 0 (ArgumentsUnderIife main_js)
arguments_there = arguments_under_iife refl (λ c. c.other refl) refl

-- Other faults.

-- a hook answers `f: function () { let q; let q; }`
properties_twice : PropertiesFault (under_iife []) main_js (node 0 h.KeyValueProp (word 0 (codes "f") ++ node 1 h.FnExpr (function 1 (declares Let (codes "q") [] ++ declares Let (codes "q") [])))) (DoubledDeclaration main_js (codes "q"))
properties_twice = doubled _ refl

-- entries `("a", main.js)` and `("b", main.js)`
entry_twice : IsDoubledEntry (record { name = codes "a"; file = main_js } ∷ record { name = codes "b"; file = main_js } ∷ []) (record { name = codes "b"; file = main_js })
entry_twice = record { i = 0; j = 1; earlier = record { name = codes "a"; file = main_js }; before = lit< tt; first_there = refl; later_there = refl; same = inr refl; none_before = λ k l a b h g e f same. grind arith }

-- no module may be kept
nothing_fits : (parties : Parties) → Loads parties (record { require = false; external = []; iife = false; renames = true; most_modules = 0; in_standard_order = false }) nothing_kept main_js (Refused (TooManyModules main_js)) nothing_kept
nothing_fits parties = no_room refl (lit≤ tt)

-- main: `import { x } from './c';` with c: `export * from 'ext';`: an external may hold x
abbrev open_star : Program
open_star = program (imports x x (codes "./c")) [] [] (exports_all (codes "ext"))

star_of_c : (e : ExportEntry) → Contains (exports open_star 3) e → Star (codes "ext") ≡ e
star_of_c e (zero, h, same) = same
star_of_c e (suc k, h, same) = grind arith

c_gives_nothing : (m : ℕ) (y : Text) (t : Target) (origin : Option Origin) → m ≡ 3 → Gives open_star m y t origin → ⊥
c_gives_nothing m y t origin is (declaration {y = z} stands none) = star_is_local (codes "ext") y z (star_of_c _ (subst (λ n. Contains (exports open_star n) (Local y z)) is stands))
c_gives_nothing m y t origin is (namespace_import {y = z} entry stands found takes) = star_is_local (codes "ext") y z (star_of_c _ (subst (λ n. Contains (exports open_star n) (Local y z)) is stands))
c_gives_nothing m y t origin is (taken {s = s} {what = what} stands takes) = star_is_other (codes "ext") y s what (star_of_c _ (subst (λ n. Contains (exports open_star n) (Indirect y s what)) is stands))
c_gives_nothing m y t origin is (given_on {s = s} {y = z} stands source gives) = star_is_other (codes "ext") y s (Named z) (star_of_c _ (subst (λ n. Contains (exports open_star n) (Indirect y s (Named z))) is stands))
c_gives_nothing m y t origin is (starred {d = d} {s = s} no_own other stands source gives) = not_resolved d (subst (λ u. resolves open_star 3 u ≡ Some d) (same_star s (star_of_c _ (subst (λ n. Contains (exports open_star n) (Star s)) is stands))) (subst (λ n. resolves open_star n s ≡ Some d) is source.resolved))
  where
    same_star : (r : Text) → Star (codes "ext") ≡ Star r → r ≡ codes "ext"
    same_star r e = cc

    not_resolved : (n : ℕ) → None ≡ Some n → ⊥
    not_resolved n e = cc

stars_external : HasExternalStar open_star 3 (codes "ext")
stars_external = own (0, lit< tt, refl) refl

maybe_external : NameFault open_star 3 x main_js (ExternalStarOnly main_js x)
maybe_external = external_only (λ t origin gives. c_gives_nothing 3 x t origin refl gives) (λ e. grind arith) (codes "ext", stars_external)

-- main: `import * as ns from './c'; use(ns);`: the object of c's namespace is meant
abbrev whole : Program
whole = program (imports_all (codes "ns") (codes "./c") ++ calls (codes "use") (uses 1 (codes "ns"))) [] [] (exports_all (codes "ext"))

es_whole : (m : ℕ) → IsCommonJs whole m → ⊥
es_whole m c = true≢false (sym c.linked)

abbrev use_ns : List Item
use_ns = calls (codes "use") (uses 1 (codes "ns"))

ns_stands : StandsFor whole 0 (codes "ns") (Namespace 3)
ns_stands = taken_whole _ refl (of_module (record { resolved = refl; es = es_whole 3 }))

-- no node around `ns` is replaced
ns_is_left : IsLeft whole 0 (element 12 (h.Ident 1 (codes "ns") 0 Reference))
ns_is_left node by (k, b, e) is = at k b e
  where
    at : (i : ℕ) → i < 4 → slice_index_or (path_at (tree_of whole 0) 12) i node ≡ node → ⊥
    at zero b q = not_replaced whole 0 11 refl refl refl refl by (subst (λ (n : Around). Replaced whole 0 n.begins by) (sym q) is)
    at (suc zero) b q = not_replaced whole 0 9 refl refl refl refl by (subst (λ (n : Around). Replaced whole 0 n.begins by) (sym q) is)
    at (suc (suc zero)) b q = not_replaced whole 0 8 refl refl refl refl by (subst (λ (n : Around). Replaced whole 0 n.begins by) (sym q) is)
    at (suc (suc (suc zero))) b q = not_replaced whole 0 0 refl refl refl refl by (subst (λ (n : Around). Replaced whole 0 n.begins by) (sym q) is)
    at (suc (suc (suc (suc i)))) b q = grind arith

ns_meant : IsMeant whole (Of (Namespace 3))
ns_meant = by_statement {m = 0} {statement = taken_from 8 use_ns} itself (0, lit< tt, refl) (4, lit< tt, refl) ns_is_left (says_name (is_es (es_whole 0)) refl (at_top ns_stands))

object_over_star : ProgramFault whole c_js 3 6 0 (NamespaceOverExternalStar c_js)
object_over_star = namespace_over_external_star ns_meant (codes "ext", own (0, lit< tt, refl) refl)
