use Rattle.std.proofs.Common.{◌≡◌, ◌<◌, ◌+◌, ◌++◌, ◌↔◌, ℕ, List, [], drop, Contains, nat_eq, map, length, get_or, refl, sym, ap, subst, ◌∙◌, is_some, arith}
use Rattle.std.specs.Map.{lookup}
use Rattle.std.specs.List.{IsDistinct}
use Rattle.std.proofs.lemmas.Bool.{false≢true}
use Rattle.std.proofs.lemmas.List.{length-map}
use Rattle.std.proofs.lemmas.List.Sorted.{Contains-permutation, IsPermutation-sym}
use Rattle.bundle_order_graph.specs.Nodes.{place}
use Rattle.bundle_order_graph.specs.Blocks.{Members}
use Rattle.bundle_order_graph.specs.Statements.{Statements, IsDependency}
use Rattle.bundle_order_graph.proofs.NodeLemmas.{seen-read}
use Rattle.bundle_order_graph.proofs.ListLemmas.{ascending, place-index}
use Rattle.bundle_order_graph.proofs.CycleLemmas.{member_kept, member_left, members_done}
use Rattle.bundle_order_graph.proofs.StatementLemmas.{Members-contains, Members-distinct, starts_at_node}
use Rattle.bundle_order_graph.proofs.sort.StmtDepGraph.starts_to.Goals as goal
use Rattle.bundle_order_graph.proofs.sort.StmtDepGraph.starts_to.Goals.{then-contains_key+in_ok-push, else-contains_key}

pub loop-place-init : goal.loop-place-init
loop-place-init c =
    let keys = c.self.inside.nodes.keys in
    let items = c.self.inside.edges.items in
    let g : Statements = record { nodes = keys; edges = map (λ e. e.entries) items } in
    let end = c.args.end in
    let Has : ℕ → Type 0 = λ n. IsDependency g n end in
    let nodes = c.as_slice-nodes.result.now in
    let same : nodes ≡ keys = c.as_slice-nodes.ensures.keys in
    let once : IsDistinct nat_eq keys = c.as_slice-nodes.ensures.unique in
    λ ys m. subst (λ (l : List ℕ). Members Has nodes (l ++ ys)) (sym c.new-starts.ensures.items) m

pub loop-place-preserved : goal.loop-place-preserved
loop-place-preserved c =
    let keys = c.self.inside.nodes.keys in
    let items = c.self.inside.edges.items in
    let g : Statements = record { nodes = keys; edges = map (λ e. e.entries) items } in
    let end = c.args.end in
    let Has : ℕ → Type 0 = λ n. IsDependency g n end in
    let nodes = c.as_slice-nodes.result.now in
    let same : nodes ≡ keys = c.as_slice-nodes.ensures.keys in
    let once : IsDistinct nat_eq keys = c.as_slice-nodes.ensures.unique in
    let at = c.loop-place.place in
    let done = c.loop-place.starts.items in
    let within : at < length nodes = c.loop-place-test.true in
    let x = get_or nodes at 0 in
    let in_keys : at < length keys = omega (arith, within, ap length same) in
    let where' : place keys x ≡ at = ap (λ (l : List ℕ). place keys (get_or l at 0)) same ∙ place-index keys once at in_keys in
    let es = c.index-edges.result.now.entries in
    let in_items : at < length items = omega (arith, in_keys, c.self.invariant.len, length-map items (λ e. e.entries)) in
    let row : es ≡ get_or g.edges (place keys x) [] = seen-read (λ e. e.entries) items items at c.index-edges.result.now refl in_items c.index-edges.ensures ∙ ap (λ k. get_or g.edges k []) (sym where') in
    let test : c.contains_key.result ≡ is_some (lookup (nat_eq end) (get_or g.edges (place keys x) [])) = c.contains_key.ensures ∙ ap (λ l. is_some (lookup (nat_eq end) l)) row in
    elim c.if-contains_key.branch [
      | then-contains_key+in_ok-push w ↦
          member_kept Has nodes at done within c.loop-place.invariant (sym test ∙ w.if-contains_key.true) c.if-contains_key.starts.items (ap (λ v. v.items) w.starts-is ∙ w.in_ok-push.ensures.items)
      | else-contains_key w ↦
          subst (λ (l : List ℕ). (ys : List ℕ) → Members Has (drop (at + 1) nodes) ys → Members Has nodes (l ++ ys)) (sym (ap (λ v. v.items) w.starts-is))
          (member_left Has nodes at done within c.loop-place.invariant (λ h. false≢true (sym w.if-contains_key.false ∙ (test ∙ h))))
    ]

pub returns-clause-neighbors : goal.returns-clause-neighbors
returns-clause-neighbors c =
    let keys = c.self.inside.nodes.keys in
    let items = c.self.inside.edges.items in
    let g : Statements = record { nodes = keys; edges = map (λ e. e.entries) items } in
    let end = c.args.end in
    let Has : ℕ → Type 0 = λ n. IsDependency g n end in
    let nodes = c.as_slice-nodes.result.now in
    let same : nodes ≡ keys = c.as_slice-nodes.ensures.keys in
    let once : IsDistinct nat_eq keys = c.as_slice-nodes.ensures.unique in
    let starts = c.loop-place.starts.items in
    let m = members_done Has nodes c.loop-place.place starts c.loop-place-test.false c.loop-place.invariant in
    let new = c.sort_unstable.new.self.items in
    let perm = c.sort_unstable.ensures.permutation in
    let found : (n : ℕ) → Contains new n ↔ IsDependency g n end = λ n. (
      λ h. ((Members-contains m n).0 (Contains-permutation new starts n (IsPermutation-sym starts new perm) h)).1,
      λ d. Contains-permutation starts new n perm ((Members-contains m n).1 (subst (λ (l : List ℕ). Contains l n) (sym same) (starts_at_node g c.self.inside.rows c.self.invariant n end d), d)),
    ) in
    subst (λ x. (n : ℕ) → Contains new n ↔ IsDependency x n end) c.self.view_is found

pub returns-clause-ascending : goal.returns-clause-ascending
returns-clause-ascending c =
    let keys = c.self.inside.nodes.keys in
    let items = c.self.inside.edges.items in
    let g : Statements = record { nodes = keys; edges = map (λ e. e.entries) items } in
    let end = c.args.end in
    let Has : ℕ → Type 0 = λ n. IsDependency g n end in
    let nodes = c.as_slice-nodes.result.now in
    let same : nodes ≡ keys = c.as_slice-nodes.ensures.keys in
    let once : IsDistinct nat_eq keys = c.as_slice-nodes.ensures.unique in
    let starts = c.loop-place.starts.items in
    let m = members_done Has nodes c.loop-place.place starts c.loop-place-test.false c.loop-place.invariant in
    ascending starts c.sort_unstable.new.self.items c.sort_unstable.ensures.permutation (Members-distinct m (subst (λ (l : List ℕ). IsDistinct nat_eq l) (sym same) once)) c.sort_unstable.ensures.sorted
