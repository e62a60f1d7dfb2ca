use Rattle.std.proofs.Common.{◌≡◌, ◌<◌, ◌↔◌, ℕ, List, [], Contains, IsSome, nat_eq, map, length, get_or, refl, sym, ap, subst, ◌∙◌, arith, rules}
use Rattle.std.specs.Map.{lookup, keys_of}
use Rattle.std.specs.List.{IsDistinct}
use Rattle.std.proofs.lemmas.List.{length-map}
use Rattle.std.proofs.lemmas.List.Sorted.{Contains-permutation, IsPermutation-sym}
use Rattle.bundle_order_graph.specs.Nodes.{place}
use Rattle.bundle_order_graph.specs.Statements.{Statements, IsDependency}
use Rattle.bundle_order_graph.proofs.NodeLemmas.{position-Some_place, seen-read}
use Rattle.bundle_order_graph.proofs.ListLemmas.{ascending}
use Rattle.bundle_order_graph.proofs.StatementLemmas.{key_found}
use Rattle.bundle_order_graph.proofs.sort.StmtDepGraph.ends_from.Goals as goal

pub returns-in_ok-ends-in-Some-clause-neighbors : goal.returns-in_ok-ends-in-Some-clause-neighbors
returns-in_ok-ends-in-Some-clause-neighbors c =
    let keys = c.self.inside.nodes.keys in
    let items = c.self.inside.edges.items in
    let g : Statements = record { nodes = keys; edges = map (λ e. e.entries) items } in
    let es = c.index-edges.result.now.entries in
    let p = position-Some_place keys c.args.start c.in-Some.place (sym c.get_index_of.ensures.index ∙ c.in-Some.is) in
    let within : c.in-Some.place < length items = omega (arith, p.0, p.1, c.self.invariant.len, length-map items (λ e. e.entries)) in
    let row : es ≡ get_or g.edges (place keys c.args.start) [] = seen-read (λ e. e.entries) items items c.in-Some.place c.index-edges.result.now refl within c.index-edges.ensures ∙ ap (λ k. get_or g.edges k []) (sym p.0) in
    let ends = c.in_ok-ends-in-Some.ends.items in
    let all : ends ≡ keys_of es = search rules in
    let new = c.sort_unstable.new.self.items in
    let perm = c.sort_unstable.ensures.permutation in
    let found : (n : ℕ) → Contains new n ↔ IsDependency g c.args.start n = λ n. (
      λ h. subst (λ l. IsSome (lookup (nat_eq n) l)) row ((key_found es n).0 (subst (λ (l : List ℕ). Contains l n) all (Contains-permutation new ends n (IsPermutation-sym ends new perm) h))),
      λ d. Contains-permutation ends new n perm (subst (λ (l : List ℕ). Contains l n) (sym all) ((key_found es n).1 (subst (λ l. IsSome (lookup (nat_eq n) l)) (sym row) d))),
    ) in
    subst (λ x. (n : ℕ) → Contains new n ↔ IsDependency x c.args.start n) c.self.view_is found

pub returns-in_ok-ends-in-Some-clause-ascending : goal.returns-in_ok-ends-in-Some-clause-ascending
returns-in_ok-ends-in-Some-clause-ascending c =
    let ends = c.in_ok-ends-in-Some.ends.items in
    let all : ends ≡ keys_of c.index-edges.result.now.entries = search rules in
    ascending ends c.sort_unstable.new.self.items c.sort_unstable.ensures.permutation (subst (λ (l : List ℕ). IsDistinct nat_eq l) (sym all) c.keys.ensures.unique) c.sort_unstable.ensures.sorted
