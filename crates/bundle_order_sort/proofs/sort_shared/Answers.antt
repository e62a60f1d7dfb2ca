use Rattle.std.proofs.Common.{◌≡◌, ℕ, ◌↔◌, List, IfOk, map, length, take, sym, subst, arith}
use Rattle.std.proofs.lemmas.List.{length-map}
use Rattle.std.proofs.lemmas.Result.{IfOk-weaker}
use Rattle.bundle_order_graph.specs.Classes.{Leads, AreRanks, AreWithin}
use Rattle.bundle_order_sort.specs.Items.{IsListEdge, IsGoodItemOrder, NeedsByRank}
use Rattle.bundle_order_sort.specs.Numbers as numbers
use Rattle.bundle_order_sort.proofs.HubLemmas.{IsEdge-to, falls, back}
use Rattle.bundle_order_sort.proofs.ItemLemmas.{IsGoodOrder-from_numbers}
use Rattle.bundle_order_sort.proofs.sort_shared.Goals as goal

pub ranks_of-requires : goal.ranks_of-requires
ranks_of-requires c =
    let lists : List (List ℕ) = map (λ v. v.items) c.deref.result.now in
    let edges = c.in_ok-edges.edges.items in
    let within : AreWithin (map (λ v. v.items) edges) = λ s t l. omega (arith, IsEdge-to c.args.items.now lists s t ((c.in_ok-edges.ensures.each s t).0 l), c.in_ok-edges.ensures.len, length-map edges (λ v. v.items), length-map c.deref.result.now (λ v. v.items)) in
    record { within = subst (λ l. AreWithin (map (λ v. v.items) l)) (sym c.deref-2.ensures.value) within }

pub returns : goal.returns
returns c =
    let items = c.args.items.now in
    let lists : List (List ℕ) = map (λ v. v.items) c.args.lists.items in
    let edges : List (List ℕ) = map (λ v. v.items) c.in_ok-edges.edges.items in
    let all = c.in_ok-ranks.ranks.items in
    let ranks = c.truncate.new.self.items in
    let firsts = c.in_ok-firsts.firsts.items in
    let each : (s t : ℕ) → Leads edges s t ↔ IsListEdge items lists s t = subst (λ l. (s t : ℕ) → Leads edges s t ↔ IsListEdge items (map (λ v. v.items) l) s t) c.deref.ensures.value c.in_ok-edges.ensures.each in
    let ranked : AreRanks edges all = subst (λ l. AreRanks (map (λ v. v.items) l) all) c.deref-2.ensures.value c.in_ok-ranks.ensures in
    let own : ranks ≡ take (length items) all = c.truncate.ensures.items in
    let good : (order : List ℕ) → numbers.IsInOrder (NeedsByRank items lists ranks) (length items) ranks firsts order → IsGoodItemOrder items lists order = IsGoodOrder-from_numbers items lists ranks (falls items lists edges each all ranked ranks own) (back items lists edges each all ranked ranks own) firsts c.in_ok-firsts.ensures.each in
    let given : IfOk c.sort_numbers.result (λ order. numbers.IsInOrder (NeedsByRank items lists ranks) (length items) ranks firsts order.items) = subst (λ (f : List ℕ). IfOk c.sort_numbers.result (λ order. numbers.IsInOrder (NeedsByRank items lists ranks) (length items) ranks f order.items)) c.deref-6.ensures.value (subst (λ (r : List ℕ). IfOk c.sort_numbers.result (λ order. numbers.IsInOrder (NeedsByRank items lists r) (length items) r c.deref-6.result.now order.items)) c.deref-5.ensures.value (subst (λ l. IfOk c.sort_numbers.result (λ order. numbers.IsInOrder (NeedsByRank items (map (λ v. v.items) l) c.deref-5.result.now) (length items) c.deref-5.result.now c.deref-6.result.now order.items)) c.deref_mut.ensures.value c.sort_numbers.ensures)) in
    IfOk-weaker c.sort_numbers.result (λ order. numbers.IsInOrder (NeedsByRank items lists ranks) (length items) ranks firsts order.items) (λ order. IsGoodItemOrder items lists order.items) (λ order g. good order.items g) given
