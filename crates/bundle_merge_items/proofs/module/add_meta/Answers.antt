-- The object for an `import.meta` is added where the hook answered something.
use Rattle.std.proofs.Common.{sym, ◌∙◌}
use Rattle.std.proofs.lemmas.Result.{on_ok_weaker}
use Rattle.bundle_merge_items.proofs.LackLemmas.{meta-none, meta-some}
use Rattle.bundle_merge_items.proofs.module.add_meta.Goals as goal

pub returns-in-None : goal.returns-in-None
returns-in-None c =
    λ q list answers context named reached.
    meta-none q list answers context c.args.bundle.now c.args.names.now named c.args.which reached
    (sym c.answer.ensures ∙ c.in-None.is) c.args.items.now

pub returns-in-Some : goal.returns-in-Some
returns-in-Some c =
    on_ok_weaker c.add_meta_object.result
    (λ adds q list answers context named reached.
    meta-some q list answers context c.args.bundle.now c.args.names.now named c.args.which reached
    c.in-Some.answer (sym c.answer.ensures ∙ c.in-Some.is) c.args.items.now
    c.add_meta_object.new.items
    (adds q list answers context c.args.bundle.now named reached (sym c.answer.ensures ∙ c.in-Some.is)))
    c.add_meta_object.ensures
