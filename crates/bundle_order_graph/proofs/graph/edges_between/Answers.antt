use Rattle.std.proofs.Common.{◌≡◌, ◌<◌, ◌+◌, ℕ, List, length, get_or, nat_eq, position, None, sym, ap, ◌∙◌, subst, arith, rules}
use Rattle.std.proofs.lemmas.List.{get_or_read, take_all}
use Rattle.bundle_order_graph.specs.Modules.{deps}
use Rattle.bundle_order_graph.proofs.CycleLemmas.{EdgesTo, EdgesTo-next, EdgesTo-found, EdgesTo-missing, EdgesTo-all, take_added}
use Rattle.bundle_order_graph.proofs.graph.edges_between.Goals as goal
use Rattle.bundle_order_graph.proofs.graph.edges_between.Goals.{in-Some+in_ok-push, in_default}

pub loop-module-preserved : goal.loop-module-preserved
loop-module-preserved c =
    let list = c.args.list.now in
    let i = c.loop-module.module-index in
    let within : i < length list = c.loop-module-test.true in
    let x = c.module-item.result in
    take_added list c.requires i x within (get_or_read list i x within c.module-item.is 0) c.loop-module.places.keys c.insert.new.self.keys c.loop-module.invariant c.in_ok-insert.ensures.keys

pub loop-dependency-preserved : goal.loop-dependency-preserved
loop-dependency-preserved c =
    let g = c.args.graph.now in
    let list = c.args.list.now in
    let from = c.loop-from.from in
    let k = c.loop-dependency.dependency-index in
    let edges = c.loop-dependency.edges.items in
    let keys : c.loop-module.places.keys ≡ list = c.loop-module.invariant ∙ take_all c.loop-module.module-index list c.loop-module-test.false in
    let module' : c.index-list-from.result ≡ get_or list from 0 = get_or_read list from c.index-list-from.result c.loop-from-test.true c.index-list-from.is 0 in
    let requested : c.deps_of-requested.result.now ≡ deps g (get_or list from 0) = c.deps_of-requested.ensures.value ∙ ap (λ x. deps g x) module' in
    let d = c.dependency-item.result in
    let read : d ≡ get_or (deps g (get_or list from 0)) k 0 = get_or_read c.deps_of-requested.result.now k d c.loop-dependency-test.true c.dependency-item.is 0 ∙ ap (λ (l : List ℕ). get_or l k 0) requested in
    let index = ap (λ (l : List ℕ). position (nat_eq d) l) (sym keys) ∙ sym c.get_index_of.ensures.index in
    elim c.match-get_index_of.branch [
      | in-Some+in_ok-push w ↦ EdgesTo-found g list from k edges c.loop-dependency.invariant d read w.in-Some.to (index ∙ w.in-Some.is) c.requires c.match-get_index_of.edges.items (ap (λ v. v.items) w.edges-is ∙ w.in_ok-push.ensures.items)
      | in_default w ↦ let none : c.get_index_of.result ≡ None = search rules in subst (λ (l : List (ℕ × ℕ)). EdgesTo g list from (k + 1) l) (sym (ap (λ v. v.items) w.edges-is)) (EdgesTo-missing g list from k edges c.loop-dependency.invariant d read (index ∙ none))
    ]

pub loop-from-preserved : goal.loop-from-preserved
loop-from-preserved c =
    let g = c.args.graph.now in
    let list = c.args.list.now in
    let from = c.loop-from.from in
    let k = c.loop-dependency.dependency-index in
    let module' : c.index-list-from.result ≡ get_or list from 0 = get_or_read list from c.index-list-from.result c.loop-from-test.true c.index-list-from.is 0 in
    let requested : c.deps_of-requested.result.now ≡ deps g (get_or list from 0) = c.deps_of-requested.ensures.value ∙ ap (λ x. deps g x) module' in
    let all : k ≡ length (deps g (get_or list from 0)) = omega (arith, ap length requested, c.loop-dependency-test.false, c.loop-dependency.auto.dependency-index-end) in
    EdgesTo-next g list from k c.loop-dependency.edges.items c.loop-dependency.invariant c.loop-from-test.true all

pub returns : goal.returns
returns c = EdgesTo-all c.args.graph.now c.args.list.now c.loop-from.from c.loop-from.edges.items c.loop-from.invariant c.loop-from-test.false
