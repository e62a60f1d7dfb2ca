-- What was merged is renamed with the names of its bindings, which comes to both renamings.
use Rattle.std.proofs.Common.{map, ap, ◌∙◌}
use Rattle.std.proofs.lemmas.Result.{IfOk-weaker}
use Rattle.bundle_tree_rename.proofs.Changing.{edited}
use Rattle.bundle_tree_rename.specs.Naming.{naming_of}
use Rattle.bundler_entry.specs.Finished.{is_renaming, naming_for}
use Rattle.bundler_entry.proofs.MergedLemmas.{named_so, editable_so, in_turn_so}
use Rattle.bundler_entry.proofs.finish.give_names.Goals as goal

pub returns-clause-at_once : goal.returns-clause-at_once
returns-clause-at_once c =
    IfOk-weaker c.module.result _ _
    (λ done one.
    named_so (is_renaming c.args.config.now) c.in_ok-ended.ended.names c.contexts_of.result c.in_ok-ended.ended.bindings.items _
    (c.new-rename.ensures ∙ ap (map naming_of) c.deref-2.ensures.value ∙ c.in_ok-names.ensures ∙ ap (map (naming_for c.in_ok-ended.ended.names c.contexts_of.result)) c.deref.ensures.value)
    c.contexts_of.ensures c.in_ok-ended.ensures (edited (one.in_field 0)))
    c.module.ensures

pub returns-clause-in_turn : goal.returns-clause-in_turn
returns-clause-in_turn c =
    IfOk-weaker c.module.result _ _
    (λ done one.
    in_turn_so (is_renaming c.args.config.now) c.args.merged.now (editable_so (edited (one.in_field 0)))
    (named_so (is_renaming c.args.config.now) c.in_ok-ended.ended.names c.contexts_of.result c.in_ok-ended.ended.bindings.items _
    (c.new-rename.ensures ∙ ap (map naming_of) c.deref-2.ensures.value ∙ c.in_ok-names.ensures ∙ ap (map (naming_for c.in_ok-ended.ended.names c.contexts_of.result)) c.deref.ensures.value)
    c.contexts_of.ensures c.in_ok-ended.ensures (edited (one.in_field 0))))
    c.module.ensures
