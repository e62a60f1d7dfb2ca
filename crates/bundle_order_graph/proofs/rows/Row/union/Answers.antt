use Rattle.std.proofs.Common.{◌≡◌, ◌≢◌, ◌↔◌, ◌⊎◌, ◌^◌, ◌<◌, true, length, get_or, bit_or, sym, subst, rules}
use Rattle.bundle_order_graph.specs.Bits.{Has}
use Rattle.bundle_order_graph.proofs.BitLemmas.{JoinedTo-more, Has-joined}
use Rattle.bundle_order_graph.proofs.rows.Row.union.Goals as goal
use Rattle.bundle_order_graph.proofs.rows.Row.union.Goals.{then-merged-word, else-merged-word}

pub loop-at-preserved : goal.loop-at-preserved
loop-at-preserved c =
    let old = c.self.inside.words.items in
    let others = c.deref-other-items.result.now in
    let k = c.loop-at.at in
    let w = c.index-word.result.now in
    let m = bit_or w (get_or others k 0) in
    let inside : k < length old = search rules in
    let fits : w < 2 ^ 64 = search rules in
    let fit : get_or others k 0 < 2 ^ 64 = search rules in
    let stays : w ≡ m → c.if-merged-word.grown ≡ c.loop-at.grown = λ e. elim c.if-merged-word.branch [ then-merged-word b ↦ absurd (b.if-merged-word.true (sym e)) | else-merged-word b ↦ b.grown-is ] in
    let grows : m ≢ w → c.if-merged-word.grown ≡ true = λ ne. elim c.if-merged-word.branch [ then-merged-word b ↦ b.grown-is | else-merged-word b ↦ absurd (ne b.if-merged-word.false) ] in
    JoinedTo-more old others k c.loop-at.grown c.loop-at.self-inside.words.items w c.loop-at.invariant inside c.index-word.ensures fits fit c.if-merged-word.grown stays grows

pub returns-clause-added : goal.returns-clause-added
returns-clause-added c =
    let j = Has-joined c.self.inside.words.items c.deref-other-items.result.now c.loop-at.at c.loop-at.grown c.loop-at.self-inside.words.items c.loop-at.invariant c.loop-at-test.false in
    let e = c.self.view_is in
    let f : c.deref-other-items.result.now ≡ c.args.others.now = search rules in
    λ p. subst (λ x. Has c.loop-at.self-inside.words.items p ↔ (Has x p ⊎ Has c.args.others.now p)) e (subst (λ x. Has c.loop-at.self-inside.words.items p ↔ (Has c.self.inside.words.items p ⊎ Has x p)) f (j p))
