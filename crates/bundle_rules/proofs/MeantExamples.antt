-- What is meant, place by place.
use Rattle.std.proofs.Common.{◌≡◌, ℕ, zero, suc, ◌<◌, List, [], ◌++◌, Option, refl, sym, subst, arith, lit<, true≢false}
use Rattle.std.specs.Prelude.{codes, Contains, slice_index_or}
use Rattle.bundle_syntax.specs.declared.piece.Role.TheVariants.{Reference}
use Rattle.bundle_syntax.specs.Item as h
use Rattle.bundle_syntax.specs.Item.{Item}
use Rattle.bundle_rules.specs.Places.{Around, path_at}
use Rattle.bundle_order_graph.specs.Walks.{itself}
use Rattle.bundle_rules.specs.Nodes.{Text}
use Rattle.bundle_rules.specs.Statements.{taken_from, taken as element}
use Rattle.bundle_rules.specs.Entries.{ExportEntry, Local, Indirect, Star, Named}
use Rattle.bundle_rules.specs.Program.{Program, tree_of}
use Rattle.bundle_rules.specs.Linking.{IsCommonJs, Target, Origin, Namespace, Gives, declaration, namespace_import, taken, given_on, starred, exports, IsMissing, StandsFor, taken_whole, of_module}
use Rattle.bundle_rules.specs.Meaning.{Of, is_es, IsMeant, IsLeft, Replaced, by_statement, says_name, at_top}
use Rattle.bundle_rules.proofs.Trees.{node, argument, imports, imports_all, uses, runs}
use Rattle.bundle_rules.proofs.Programs.{program}
use Rattle.bundle_rules.proofs.MeaningExamples.{not_replaced}

-- main: `import * as ns from './c'; import { nope } from './a'; use(ns, nope);` with an empty a and an empty c
abbrev nope : Text
nope = codes "nope"

abbrev use_both : List Item
use_both = runs (node 0 h.CallExpr (uses 0 (codes "use") ++ argument (uses 1 (codes "ns")) ++ argument (uses 1 nope)))

abbrev p : Program
p = program (imports_all (codes "ns") (codes "./c") ++ imports nope nope (codes "./a") ++ use_both) [] [] []

es : (m : ℕ) → IsCommonJs p m → ⊥
es m c = true≢false (sym c.linked)

-- a gives no `nope`, so that the statement as a whole means nothing
no_entry : (e : ExportEntry) → Contains [] e → ⊥
no_entry e (k, b, q) = grind arith

gives_nothing : (m : ℕ) (x : Text) (t : Target) (origin : Option Origin) → m ≡ 1 → Gives p m x t origin → ⊥
gives_nothing m x t origin is (declaration {y = y} stands none) = no_entry (Local x y) (subst (λ n. Contains (exports p n) (Local x y)) is stands)
gives_nothing m x t origin is (namespace_import {y = y} entry stands found takes) = no_entry (Local x y) (subst (λ n. Contains (exports p n) (Local x y)) is stands)
gives_nothing m x t origin is (taken {s = s} {what = what} stands takes) = no_entry (Indirect x s what) (subst (λ n. Contains (exports p n) (Indirect x s what)) is stands)
gives_nothing m x t origin is (given_on {s = s} {y = y} stands source gives) = no_entry (Indirect x s (Named y)) (subst (λ n. Contains (exports p n) (Indirect x s (Named y))) is stands)
gives_nothing m x t origin is (starred {s = s} no_own other stands source gives) = no_entry (Star s) (subst (λ n. Contains (exports p n) (Star s)) is stands)

nope_is_missing : IsMissing p 1 nope
nope_is_missing t origin gives = gives_nothing 1 nope t origin refl gives

-- yet the namespace is meant, at the place where it stands
ns_stands : StandsFor p 0 (codes "ns") (Namespace 3)
ns_stands = taken_whole _ refl (of_module (record { resolved = refl; es = es 3 }))

ns_is_left : IsLeft p 0 (element 20 (h.Ident 1 (codes "ns") 0 Reference))
ns_is_left node by (k, b, e) is = at k b e
  where
    at : (i : ℕ) → i < 4 → slice_index_or (path_at (tree_of p 0) 20) i node ≡ node → ⊥
    at zero b q = not_replaced p 0 19 refl refl refl refl by (subst (λ (n : Around). Replaced p 0 n.begins by) (sym q) is)
    at (suc zero) b q = not_replaced p 0 17 refl refl refl refl by (subst (λ (n : Around). Replaced p 0 n.begins by) (sym q) is)
    at (suc (suc zero)) b q = not_replaced p 0 16 refl refl refl refl by (subst (λ (n : Around). Replaced p 0 n.begins by) (sym q) is)
    at (suc (suc (suc zero))) b q = not_replaced p 0 0 refl refl refl refl by (subst (λ (n : Around). Replaced p 0 n.begins by) (sym q) is)
    at (suc (suc (suc (suc i)))) b q = grind arith

ns_is_meant : IsMeant p (Of (Namespace 3))
ns_is_meant = by_statement {m = 0} {statement = taken_from 16 use_both} itself (0, lit< tt, refl) (4, lit< tt, refl) ns_is_left (says_name (is_es (es 0)) refl (at_top ns_stands))
