use Rattle.std.proofs.Common.{◌≡◌, ◌<◌, true, false, length, get_or, ◌∙◌, rules}
use Rattle.bundle_order_graph.proofs.SweepLemmas.{room_told}
use Rattle.bundle_order_graph.proofs.rows.Rows.absorb.Goals as goal
use Rattle.bundle_order_graph.proofs.rows.Rows.absorb.Goals.{then-grown, else-grown}

pub returns-clause-grown : goal.returns-clause-grown
returns-clause-grown c =
    let rows = c.self.inside.rows.items in
    let within : c.args.at < length rows = search rules in
    let x = c.replace-reached.result in
    let taken : x ≡ get_or rows c.args.to x = search rules in
    let r0 = c.index_mut-row-2.result.now in
    let yes : c.union-grown.result ≡ true → c.if-grown.result ≡ true = λ e. elim c.if-grown.branch [ then-grown w ↦ w.result-is ∙ e | else-grown w ↦ cc ] in
    let no : c.union-grown.result ≡ false → c.if-grown.result ≡ c.insert-new.result = λ e. elim c.if-grown.branch [ then-grown w ↦ cc | else-grown w ↦ w.result-is ] in
    room_told rows c.args.at c.args.to c.replace-reached.new.dest r0 c.insert-new.new.self x c.if-at-to.false within taken c.index_mut-row-2.ensures.value c.args.self.now c.union-grown.result c.insert-new.result c.if-grown.result c.union-grown.new.self c.self.view_is yes no c.union-grown.ensures.grown c.insert-new.ensures.grown
