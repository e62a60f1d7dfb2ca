-- The list is that of the answer.
use Rattle.std.proofs.Common.{ap, ◌∙◌, map}
use Rattle.std.specs.List.{flat_map}
use Rattle.std.proofs.lemmas.Result.{IfErr-weaker, on_ok_weaker}
use Rattle.bundle_syntax.specs.Item.{item_of}
use Rattle.bundle_tree_listed.specs.Tree.{key_value_prop_items}
use Rattle.bundler_entry.proofs.meta.judge.Goals as goal

pub returns-clause-right : goal.returns-clause-right
returns-clause-right c =
    let answer = flat_map (key_value_prop_items 0) c.args.properties.now in
    on_ok_weaker c.judge_list.result (λ right. right answer (ap (map item_of) c.as_slice.ensures.value ∙ c.in_ok-meta.ensures.list)) c.judge_list.ensures.right

pub returns-clause-wrong : goal.returns-clause-wrong
returns-clause-wrong c =
    let answer = flat_map (key_value_prop_items 0) c.args.properties.now in
    IfErr-weaker c.judge_list.result _ _ (λ unlinked wrong. wrong answer (ap (map item_of) c.as_slice.ensures.value ∙ c.in_ok-meta.ensures.list)) c.judge_list.ensures.wrong
