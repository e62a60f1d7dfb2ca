-- One text more is in the set.
use Rattle.std.proofs.Common.{◌++◌, ◌∷◌, [], ap, ◌∙◌, map, take, string_bytes}
use Rattle.bundle_rules.specs.Nodes.{has_text}
use Rattle.bundle_link_tables.proofs.MarkLemmas.{one_more, texts_put}
use Rattle.bundle_link_tables.proofs.tables.external_texts.Goals as goal

pub loop-text-preserved : goal.loop-text-preserved
loop-text-preserved c = λ x.
    let before = map string_bytes (take c.loop-text.text-index c.args.list.now) in
    texts_put before c.loop-text.texts.keys c.insert.new.self.keys c.as_str.result c.in_ok-insert.ensures.keys c.loop-text.invariant x
    ∙ ap (has_text x) (ap (λ t. before ++ t ∷ []) (c.as_str.ensures.value ∙ ap string_bytes c.text-item.is) ∙ one_more string_bytes c.args.list.now c.loop-text.text-index _ c.loop-text-test.true)
