use Rattle.std.proofs.Common.{arith, ◌≡◌, ℕ, ◌-◌, ◌<◌, ◌⊎◌, List, map, length, get_or, set, take, drop, ap, ◌∙◌, subst, Contains}
use Rattle.std.proofs.lemmas.List.{length-map, length-drop, length-set, take_all, get_or_default}
use Rattle.bundle_order_sort.proofs.ChainLemmas.{Falls-within, Running-goes, Running-within, Running-chain, AreChains-noted}
use Rattle.bundle_order_sort.proofs.stack.push_chain.Goals as goal

-- the rest of a list from a place on
rest-is : (xs ys : List ℕ) (n m : ℕ) → xs ≡ ys → n ≡ m → take (length xs - n) (drop n xs) ≡ drop m ys
rest-is xs ys n m e f = take_all (length xs - n) (drop n xs) (omega (arith, length-drop n xs)) ∙ (ap (λ (l : List ℕ). drop n l) e ∙ ap (λ k. drop k ys) f)

pub next_in_chain-requires-clause-item_in : goal.next_in_chain-requires-clause-item_in
next_in_chain-requires-clause-item_in c =
    let needs : List (List ℕ) = map (λ v. v.items) c.args.needs.now in
    let len : length needs ≡ length c.args.needs.now = length-map c.args.needs.now (λ v. v.items) in
    let r = c.loop-next.invariant.running in
    omega (arith, len, Running-within needs c.args.ranks.now c.args.progress.now c.args.item c.args.stack.now.items c.loop-next.stack.items c.loop-next.at r c.requires.chains.within (omega (arith, c.requires.item_in, len)))

pub loop-next-preserved : goal.loop-next-preserved
loop-next-preserved c =
    let needs : List (List ℕ) = map (λ v. v.items) c.args.needs.now in
    record {
      running = Running-goes needs c.args.ranks.now c.args.progress.now c.args.item c.args.stack.now.items c.loop-next.stack.items c.loop-next.at c.loop-next.invariant.running c.in-Some.next c.in-Some.ensures.falls c.in-Some.ensures.left c.push.new.self.items c.in_ok-push.ensures.items;
      chains = c.next_in_chain.ensures.chains;
    }

pub note_end-requires : goal.note_end-requires
note_end-requires c = λ t h.
    let needs : List (List ℕ) = map (λ v. v.items) c.args.needs.now in
    let base = c.args.stack.now.items in
    let stack = c.loop-next.stack.items in
    let r = c.loop-next.invariant.running in
    let before : c.len-before.result ≡ length base = omega (arith, c.len-before.ensures, c.args.stack.now.ok.0) in
    let in_chain : Contains r.chain t = subst (λ (l : List ℕ). Contains l t) (rest-is c.deref.result.now stack c.len-before.result (length base) c.deref.ensures.value before ∙ Running-chain needs c.args.ranks.now c.args.progress.now c.args.item base stack c.loop-next.at r) h in
    let is : get_or r.chain in_chain.0 0 ≡ t = get_or_default r.chain in_chain.0 0 t in_chain.1 ∙ in_chain.2 in
    let inside : t < length needs = subst (λ x. x < length needs) is (Falls-within needs c.args.ranks.now c.requires.chains.within c.args.item (get_or r.chain in_chain.0 0) (r.falls in_chain.0 in_chain.1)) in
    omega (arith, inside, c.requires.chains.ends_len, length-set c.args.ends.now c.args.item c.loop-next.at)

pub returns-clause-chains : goal.returns-clause-chains
returns-clause-chains c =
    let needs : List (List ℕ) = map (λ v. v.items) c.args.needs.now in
    let ranks = c.args.ranks.now in
    let ps = c.args.progress.now in
    let item = c.args.item in
    let base = c.args.stack.now.items in
    let stack = c.loop-next.stack.items in
    let at = c.loop-next.at in
    let ends = c.args.ends.now in
    let noted = c.note_end.new.ends in
    let before : c.len-before.result ≡ length base = omega (arith, c.len-before.ensures, c.args.stack.now.ok.0) in
    let rest = rest-is c.deref.result.now stack c.len-before.result (length base) c.deref.ensures.value before in
    let each : (s : ℕ) → (get_or noted s 0 ≡ get_or (set ends item at) s 0) ⊎ (Contains (drop (length base) stack) s × (get_or noted s 0 ≡ at)) = subst (λ (l : List ℕ). (s : ℕ) → (get_or noted s 0 ≡ get_or (set ends item at) s 0) ⊎ (Contains l s × (get_or noted s 0 ≡ at))) rest c.note_end.ensures in
    let h : item < length needs = omega (arith, c.requires.item_in, length-map c.args.needs.now (λ v. v.items)) in
    let len : length noted ≡ length ends = omega (arith, c.note_end.auto.ends, length-set ends item at) in
    AreChains-noted needs ranks ps item base stack at c.loop-next.invariant.running ends c.next_in_chain.new.cursors c.next_in_chain.ensures.chains h noted len each
