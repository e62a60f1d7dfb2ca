use Rattle.std.proofs.Common.{◌≡◌, ◌⊎◌, ◌+◌, true, false, nat_eq, eq-eqb, inl, inr, sym, ap, ◌∙◌}
use Rattle.std.specs.List.{list_any}
use Rattle.std.proofs.lemmas.Bool.{false≢true}
use Rattle.bundle_order_graph.proofs.NodeLemmas.{position-None_place}
use Rattle.bundle_order_graph.proofs.StatementLemmas.{place_after_there, place_after_new}
use Rattle.bundle_order_graph.proofs.sort.place_after.Goals as goal
use Rattle.bundle_order_graph.proofs.sort.place_after.Goals.{then-a-b, else-a-b}

pub returns-in-None : goal.returns-in-None
returns-in-None c =
    let keys = c.args.nodes.now.keys in
    let out = position-None_place keys c.args.b (sym c.get_index_of.ensures.index ∙ c.in-None.is) in
    let there : (c.args.a ≡ c.args.b) ⊎ (list_any (nat_eq c.args.a) keys ≡ true) =
    elim c.if-a-b.branch [ then-a-b w ↦ inl w.if-a-b.true | else-a-b w ↦ inr (sym w.contains.ensures ∙ (sym w.value-is ∙ c.if-contains.true)) ] in
    c.len.ensures.len ∙ place_after_there keys c.args.a c.args.b out there

pub returns-in-None-2 : goal.returns-in-None-2
returns-in-None-2 c =
    let keys = c.args.nodes.now.keys in
    let out = position-None_place keys c.args.b (sym c.get_index_of.ensures.index ∙ c.in-None.is) in
    let apart : c.args.a ≡ c.args.b → ⊥ = elim c.if-a-b.branch [ then-a-b w ↦ absurd (false≢true (sym c.if-contains.false ∙ (w.value-is ∙ eq-eqb c.args.a c.args.b w.if-a-b.true))) | else-a-b w ↦ w.if-a-b.false ] in
    let new : list_any (nat_eq c.args.a) keys ≡ false = elim c.if-a-b.branch [ then-a-b w ↦ absurd (false≢true (sym c.if-contains.false ∙ (w.value-is ∙ eq-eqb c.args.a c.args.b w.if-a-b.true))) | else-a-b w ↦ sym w.contains.ensures ∙ (sym w.value-is ∙ c.if-contains.false) ] in
    ap (λ n. n + 1) c.len-in-None-2.ensures.len ∙ place_after_new keys c.args.a c.args.b out apart new
