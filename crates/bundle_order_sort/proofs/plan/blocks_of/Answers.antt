use Rattle.std.proofs.Common.{◌≡◌, ◌<◌, ◌+◌, ◌++◌, ◌∷◌, [], ℕ, Bool, true, false, Vec, Global, List, length, get_or, map, drop, refl, sym, ap, ◌∙◌, subst, arith}
use Rattle.std.specs.List.{AllZip}
use Rattle.std.proofs.lemmas.List.{get_or_read, length-map}
use Rattle.bundle_order_graph.proofs.NodeLemmas.{seen-read}
use Rattle.bundle_order_sort.specs.Places.{is_in_some}
use Rattle.bundle_order_sort.specs.Merged.{ends_list_at, merged}
use Rattle.bundle_order_sort.specs.Plan.{IsBlock}
use Rattle.bundle_order_sort.proofs.PlanLemmas.{at-alone, at-ends, at-goes, ends-within, merged-over, slice-one, zip-more, zip-same}
use Rattle.bundle_order_sort.proofs.plan.blocks_of.Goals as goal
use Rattle.bundle_order_sort.proofs.plan.blocks_of.Goals.{then-not-contains+in_ok-block+in_ok-push, else-not-contains+then-ends_next+in_ok-block-2+in_ok-push-2, else-not-contains+else-ends_next}

abbrev modules_of : Vec ℕ Global → List ℕ
modules_of v = v.items

pub loop-at-preserved : goal.loop-at-preserved
loop-at-preserved c =
    let list = c.args.list.now in
    let cycles = c.args.cycles.now in
    let cs = map modules_of cycles in
    let is_on : ℕ → Bool = λ m. is_in_some m cs in
    let at = c.loop-at.at in
    let next = c.loop-at.next in
    let within = c.loop-at-test.true in
    let x = c.index-list-at.result in
    let here = get_or list at 0 in
    let read : x ≡ here = get_or_read list at x within c.index-list-at.is 0 in
    let on : is_on here ≡ c.contains.result = subst (λ m. is_on m ≡ c.contains.result) read (sym (c.in_ok-on_cycles.ensures x) ∙ sym c.contains.ensures) in
    elim c.if-not-contains.branch [
      | then-not-contains+in_ok-block+in_ok-push w ↦ record {
        within = omega (arith, w.next-is, c.loop-at.invariant.within);
        so_far = λ owners are rest z.
            zip-more (IsBlock owners) (merged is_on list cs) (merged is_on (drop at list) (drop next cs)) (merged is_on (drop (at + 1) list) (drop next cs)) (here ∷ [], false) c.loop-at.blocks.items c.if-not-contains.blocks.items w.in_ok-block.block
            (at-alone is_on list cs at next within (on ∙ w.if-not-contains.true))
            (subst (λ (l : List ℕ). IsBlock owners (l, false) w.in_ok-block.block) (slice-one list at 0 within) (w.in_ok-block.ensures owners are))
            (ap (λ v. v.items) w.blocks-is ∙ w.in_ok-push.ensures.items)
            (c.loop-at.invariant.so_far owners are) rest
            (subst (λ n. AllZip (IsBlock owners) (merged is_on (drop (at + 1) list) (drop n cs)) rest) w.next-is z);
      }
      | else-not-contains+then-ends_next+in_ok-block-2+in_ok-push-2 w ↦
          let ended : ends_list_at here cs next ≡ true = subst (λ m. ends_list_at m cs next ≡ true) read (sym w.ends_next.ensures ∙ w.if-ends_next.true) in
          let less : next < length cs = ends-within is_on list cs at next within ended in
          let within_cycles : next < length cycles = omega (arith, less, length-map cycles modules_of) in
          let cycle : w.deref.result.now ≡ get_or cs next [] = w.deref.ensures.value ∙ seen-read modules_of cycles cycles next w.index-cycles-next.result refl within_cycles w.index-cycles-next.is in
          record {
            within = omega (arith, w.next-is, within_cycles);
            so_far = λ owners are rest z.
                zip-more (IsBlock owners) (merged is_on list cs) (merged is_on (drop at list) (drop next cs)) (merged is_on (drop (at + 1) list) (drop (next + 1) cs)) (get_or cs next [], true) c.loop-at.blocks.items c.if-not-contains.blocks.items w.in_ok-block-2.block
                (at-ends is_on list cs at next within (on ∙ w.if-not-contains.false) ended)
                (subst (λ (l : List ℕ). IsBlock owners (l, true) w.in_ok-block-2.block) cycle (w.in_ok-block-2.ensures owners are))
                (ap (λ v. v.items) w.blocks-is ∙ w.in_ok-push-2.ensures.items)
                (c.loop-at.invariant.so_far owners are) rest
                (subst (λ n. AllZip (IsBlock owners) (merged is_on (drop (at + 1) list) (drop n cs)) rest) w.next-is z);
          }
      | else-not-contains+else-ends_next w ↦
          let passed : ends_list_at here cs next ≡ false = subst (λ m. ends_list_at m cs next ≡ false) read (sym w.ends_next.ensures ∙ w.if-ends_next.false) in
          record {
            within = omega (arith, w.next-is, c.loop-at.invariant.within);
            so_far = λ owners are rest z.
                subst (λ l. AllZip (IsBlock owners) (merged is_on list cs) (l ++ rest)) (sym (ap (λ v. v.items) w.blocks-is))
                (zip-same (IsBlock owners) (merged is_on list cs) (merged is_on (drop at list) (drop next cs)) (merged is_on (drop (at + 1) list) (drop next cs)) c.loop-at.blocks.items
                (at-goes is_on list cs at next within (on ∙ w.if-not-contains.false) passed)
                (c.loop-at.invariant.so_far owners are) rest
                (subst (λ n. AllZip (IsBlock owners) (merged is_on (drop (at + 1) list) (drop n cs)) rest) w.next-is z));
          }
    ]

pub returns : goal.returns
returns c = λ owners are.
    let list = c.args.list.now in
    let cs = map modules_of c.args.cycles.now in
    merged-over (IsBlock owners) (λ m. is_in_some m cs) list (drop c.loop-at.next cs) c.loop-at.at (merged (λ m. is_in_some m cs) list cs) c.loop-at.blocks.items c.loop-at-test.false (c.loop-at.invariant.so_far owners are)
