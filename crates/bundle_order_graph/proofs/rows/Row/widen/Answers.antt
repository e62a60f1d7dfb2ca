use Rattle.std.proofs.Common.{◌≡◌, ◌-◌, ◌≤◌, ◌++◌, ◌∙◌, replicate, length, sym, ap, subst, rules}
use Rattle.std.proofs.lemmas.List.{take_all}
use Rattle.bundle_order_graph.specs.Bits.{SameRow}
use Rattle.bundle_order_graph.proofs.BitLemmas.{Has-widened}
use Rattle.bundle_order_graph.proofs.rows.Row.widen.Goals as goal

pub returns-in_ok-resize-clause-same : goal.returns-in_ok-resize-clause-same
returns-in_ok-resize-clause-same c =
    let ws = c.args.self.now in
    let n = c.args.width - c.self.inside.words.len in
    let short : length c.self.inside.words.items ≤ c.args.width = search rules in
    let e : c.resize.new.self.items ≡ ws ++ replicate n 0 = c.in_ok-resize.ensures.items ∙ (ap (λ x. x ++ replicate n 0) (take_all c.args.width c.self.inside.words.items short) ∙ ap (λ x. x ++ replicate n 0) c.self.view_is) in
    subst (λ x. SameRow ws x) (sym e) (Has-widened ws n)
