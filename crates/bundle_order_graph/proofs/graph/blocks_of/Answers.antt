use Rattle.std.proofs.Common.{◌≡◌, ◌++◌, ◌<◌, ◌+◌, drop, ℕ, Bool, List, [], length, get_or, map, MatchBool, refl, sym, ap, ◌∙◌, subst, arith}
use Rattle.std.proofs.lemmas.List.{get_or-map}
use Rattle.bundle_order_graph.specs.Blocks.{BlocksOf, Members}
use Rattle.bundle_order_graph.specs.Ranked.{AreAlike, EndsBlock, EndsNone, HasRank}
use Rattle.bundle_order_graph.proofs.NodeLemmas.{seen-push}
use Rattle.bundle_order_graph.proofs.CycleLemmas.{block_ends, block_goes_on, blocks_done}
use Rattle.bundle_order_graph.proofs.ClassLemmas.{block_here, block_later, block_members}
use Rattle.bundle_order_graph.proofs.graph.blocks_of.Goals as goal
use Rattle.bundle_order_graph.proofs.graph.blocks_of.Goals.{then-ends_block+in_ok-extend_from_slice+in_ok-push, else-ends_block}

pub loop-last-preserved : goal.loop-last-preserved
loop-last-preserved c =
    let E : List (List ℕ) = map (λ v. v.items) c.args.edges.now in
    let ranks = c.args.ranks.now in
    let list = c.args.list.now in
    let i = c.loop-last.last in
    let items = c.loop-last.blocks.items in
    let done = map (λ b. b.items) items in
    let classes = c.in_ok-classes.classes.items in
    let S : ℕ → ℕ → Type 0 = AreAlike E ranks list in
    let within : i < length list = c.loop-last-test.true in
    let rank = get_or ranks i 0 in
    let small : rank < length list = omega (arith, c.requires.ranks.small i (omega (arith, within, c.requires.len, c.requires.ranks.len)), c.requires.ranks.len, c.requires.len) in
    let told = λ (b : Bool). MatchBool b (EndsBlock E ranks i) (EndsNone E ranks i) in
    elim c.if-ends_block.branch [
      | then-ends_block+in_ok-extend_from_slice+in_ok-push w ↦
          let here : EndsBlock E ranks i = subst told w.if-ends_block.true c.ends_block.ensures in
          let is = block_here E ranks list c.requires.ranks c.requires.once c.requires.len i within here in
          let block = w.extend_from_slice.new.self.items in
          let read : get_or (map (λ b. b.items) classes) rank [] ≡ block = get_or-map (λ b. b.items) classes rank w.index-class.result.now [] (omega (arith, small, c.in_ok-classes.ensures.len)) ∙ (ap (λ b. b.items) (sym w.index-class.ensures) ∙ (sym w.deref-then-ends_block.ensures.value ∙ sym (w.in_ok-extend_from_slice.ensures.items ∙ ap (λ (l : List ℕ). l ++ w.deref-then-ends_block.result.now) w.new-block.ensures.items))) in
          let members : Members (S (get_or list i 0)) list block = block_members E ranks list c.requires.ranks c.requires.once c.requires.len i within here.round block (subst (λ (l : List ℕ). Members (HasRank ranks list rank) list l) read (c.in_ok-classes.ensures.each rank small)) in
          let pushed = seen-push (λ b. b.items) items items w.push.new.self.items w.extend_from_slice.new.self w.extend_from_slice.new.self.items w.in_ok-push.ensures.items refl refl in
          block_ends S list i done within c.loop-last.invariant is.0 is.1 block members (map (λ b. b.items) c.if-ends_block.blocks.items) (ap (λ v. map (λ b. b.items) v.items) w.blocks-is ∙ pushed)
      | else-ends_block w ↦
          let not = block_later E ranks list c.requires.ranks c.requires.once c.requires.len i within (subst told w.if-ends_block.false c.ends_block.ensures) in
          let same : map (λ b. b.items) c.if-ends_block.blocks.items ≡ done = ap (λ v. map (λ b. b.items) v.items) w.blocks-is in
          subst (λ (l : List (List ℕ)). (bs : List (List ℕ)) → BlocksOf S list (drop (i + 1) list) bs → BlocksOf S list list (l ++ bs)) (sym same)
          (block_goes_on S list i done within c.loop-last.invariant not)
    ]

pub returns : goal.returns
returns c =
    let list = c.args.list.now in
    blocks_done (AreAlike (map (λ v. v.items) c.args.edges.now) c.args.ranks.now list) list c.loop-last.last (map (λ b. b.items) c.loop-last.blocks.items) c.loop-last-test.false c.loop-last.invariant
