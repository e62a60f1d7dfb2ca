use Rattle.std.proofs.Common.{◌≡◌, ◌++◌, ◌∷◌, [], ◌+◌, ◌<◌, ◌≤◌, ℕ, List, Contains, nat_eq, reverse, length, get_or, refl, sym, ap, subst, ◌∙◌, rules}
use Rattle.std.specs.List.{list_any}
use Rattle.std.proofs.lemmas.List.Elements.{Contains-get_or}
use Rattle.bundle_order_graph.specs.declared.graph.Visit.{Visit}
use Rattle.bundle_order_graph.specs.Nodes.{added}
use Rattle.bundle_order_graph.specs.Modules.{deps}
use Rattle.bundle_order_graph.proofs.NodeLemmas.{added-out}
use Rattle.bundle_order_graph.proofs.OrderLemmas.{IsOrder-from_lists, Walking, Walking-ends, order-starts, order-lists, order-passes, order-begins, not-true, not-false}
use Rattle.bundle_order_graph.proofs.WorkLemmas.{work, work-begins}
use Rattle.bundle_order_graph.proofs.graph.list_reached.Goals as goal

pub loop-visit-init : goal.loop-visit-init
loop-visit-init c =
    let first : Visit = record { id = c.args.entry; next = 0 } in
    let stack : c.push.new.self.items ≡ first ∷ [] = c.in_ok-push.ensures.items ∙ ap (λ l. l ++ first ∷ []) c.requires.begun in
    let seen : c.insert.new.self.keys ≡ c.args.entry ∷ [] = c.in_ok-insert.ensures.keys ∙ ap (λ l. added l c.args.entry) c.requires.seen in
    order-starts (deps c.args.graph.now) c.args.entry first refl c.push.new.self.items stack c.insert.new.self.keys seen c.args.listed.now.items c.requires.listed

pub loop-visit-preserved-in-Continue-branch-3 : goal.loop-visit-preserved-in-Continue-branch-3
loop-visit-preserved-in-Continue-branch-3 c =
    let g = c.args.graph.now in
    let r = deps g in
    let stack = c.loop-visit.begun.items in
    let rest = c.pop.new.self.items in
    let v = c.in-Some.visit in
    let top : stack ≡ rest ++ v ∷ [] = c.in-Some.ensures.items in
    let done = c.loop-visit.listed.items in
    let seen = c.loop-visit.seen.keys in
    let past : length (r v.id) ≤ v.next = search rules in
    order-lists r c.args.entry stack rest v done seen c.loop-visit.invariant top past c.push-in-None.new.self.items c.in_ok-push-in-None.ensures.items

pub loop-visit-preserved : goal.loop-visit-preserved
loop-visit-preserved c =
    let g = c.args.graph.now in
    let r = deps g in
    let stack = c.loop-visit.begun.items in
    let rest = c.pop.new.self.items in
    let v = c.in-Some.visit in
    let top : stack ≡ rest ++ v ∷ [] = c.in-Some.ensures.items in
    let done = c.loop-visit.listed.items in
    let seen = c.loop-visit.seen.keys in
    let d = c.in-Some-get.dependency.now in
    let within : v.next < length (r v.id) = search rules in
    let read : d ≡ get_or (r v.id) v.next 0 = search rules in
    let later : Visit = record { id = v.id; next = v.next + 1 } in
    let stack' = c.push-in-Some-get.new.self.items in
    let back : stack' ≡ rest ++ later ∷ [] = c.in_ok-push-in-Some-get.ensures.items in
    let now = c.insert-in-Some-get.new.self.keys in
    let wrote : now ≡ added seen d = c.in_ok-insert-in-Some-get.ensures.keys in
    let there = not-false (list_any (nat_eq d) seen) (sym c.in_ok-insert-in-Some-get.ensures.added ∙ c.if-branch.false) in
    order-passes r c.args.entry stack rest v done seen c.loop-visit.invariant top d within read later refl stack' back there now wrote

pub loop-visit-preserved-in-Continue-branch-6 : goal.loop-visit-preserved-in-Continue-branch-6
loop-visit-preserved-in-Continue-branch-6 c =
    let g = c.args.graph.now in
    let r = deps g in
    let stack = c.loop-visit.begun.items in
    let rest = c.pop.new.self.items in
    let v = c.in-Some.visit in
    let top : stack ≡ rest ++ v ∷ [] = c.in-Some.ensures.items in
    let done = c.loop-visit.listed.items in
    let seen = c.loop-visit.seen.keys in
    let d = c.in-Some-get.dependency.now in
    let within : v.next < length (r v.id) = search rules in
    let read : d ≡ get_or (r v.id) v.next 0 = search rules in
    let later : Visit = record { id = v.id; next = v.next + 1 } in
    let stack' = c.push-in-Some-get.new.self.items in
    let back : stack' ≡ rest ++ later ∷ [] = c.in_ok-push-in-Some-get.ensures.items in
    let now = c.insert-in-Some-get.new.self.keys in
    let wrote : now ≡ added seen d = c.in_ok-insert-in-Some-get.ensures.keys in
    let new = not-true (list_any (nat_eq d) seen) (sym c.in_ok-insert-in-Some-get.ensures.added ∙ c.if-branch.true) in
    let first : Visit = record { id = d; next = 0 } in
    let stack'' = c.push-then-branch.new.self.items in
    let push : stack'' ≡ stack' ++ first ∷ [] = c.in_ok-push-in-Some-get-2.ensures.items in
    order-begins r c.args.entry stack rest v done seen c.loop-visit.invariant top d within read later refl stack' back new first refl stack'' push now wrote

pub loop-visit-smaller-in-Continue-branch-6 : goal.loop-visit-smaller-in-Continue-branch-6
loop-visit-smaller-in-Continue-branch-6 c =
    let g = c.args.graph.now in
    let r = deps g in
    let stack = c.loop-visit.begun.items in
    let rest = c.pop.new.self.items in
    let v = c.in-Some.visit in
    let top : stack ≡ rest ++ v ∷ [] = c.in-Some.ensures.items in
    let done = c.loop-visit.listed.items in
    let seen = c.loop-visit.seen.keys in
    let d = c.in-Some-get.dependency.now in
    let within : v.next < length (r v.id) = search rules in
    let read : d ≡ get_or (r v.id) v.next 0 = search rules in
    let later : Visit = record { id = v.id; next = v.next + 1 } in
    let stack' = c.push-in-Some-get.new.self.items in
    let back : stack' ≡ rest ++ later ∷ [] = c.in_ok-push-in-Some-get.ensures.items in
    let now = c.insert-in-Some-get.new.self.keys in
    let wrote : now ≡ added seen d = c.in_ok-insert-in-Some-get.ensures.keys in
    let new = not-true (list_any (nat_eq d) seen) (sym c.in_ok-insert-in-Some-get.ensures.added ∙ c.if-branch.true) in
    let first : Visit = record { id = d; next = 0 } in
    let stack'' = c.push-then-branch.new.self.items in
    let push : stack'' ≡ stack' ++ first ∷ [] = c.in_ok-push-in-Some-get-2.ensures.items in
    let node : Contains g.nodes d = c.deps_of.ensures.nodes v.id d (subst (λ x. Contains (r v.id) x) (sym read) (Contains-get_or (r v.id) v.next 0 within)) in
    subst (λ (l : List Visit). work g now l < work g seen stack) (sym (push ∙ ap (λ (l : List Visit). l ++ first ∷ []) back))
    (subst (λ (s : List ℕ). work g s ((rest ++ later ∷ []) ++ first ∷ []) < work g seen stack) (sym (wrote ∙ added-out seen d new)) (work-begins g seen stack rest v top within later refl d node new first refl))

pub returns : goal.returns
returns c =
    let g = c.args.graph.now in
    let done = c.loop-visit.listed.items in
    let seen = c.loop-visit.seen.keys in
    let empty : c.loop-visit.begun.items ≡ [] = search rules in
    IsOrder-from_lists g c.args.entry done (Walking-ends (deps g) c.args.entry done seen (subst (λ (l : List Visit). Walking (deps g) c.args.entry (reverse l) done seen) empty c.loop-visit.invariant))
