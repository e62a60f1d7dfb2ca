-- The items that are merged are those of the entry, as a module.
use Rattle.std.proofs.Common.{ℕ, List, ap, sym, ◌∙◌, subst}
use Rattle.std.proofs.lemmas.Result.{err_from_is_err_and}
use Rattle.bundle_syntax.specs.Item.{Item}
use Rattle.bundle_rules.specs.Merged.{IsMerged}
use Rattle.bundle_rules.specs.Nodes.{numbers_once}
use Rattle.bundle_rules.specs.Parts.{body_of}
use Rattle.bundle_merge_items.specs.Added.{module_item_lists}
use Rattle.bundle_merge.specs.Ready.{hooks_by}
use Rattle.bundle_merge.specs.Standing.{HasContextsBelow}
use Rattle.bundle_merge.proofs.Joining.{body-joined}
use Rattle.bundle_merge.proofs.joined.merge_into_entry.Goals as goal

pub returns-clause-bundle : goal.returns-clause-bundle
returns-clause-bundle c = λ p given its w ready.
    let its_module = c.in_ok-module.module in
    subst (λ (tree : List Item). IsMerged (λ x. x) (λ m. (its m).local) p (hooks_by given) tree)
    (sym (ap body_of c.in_ok-merged.ensures ∙ body-joined c.entry.result (module_item_lists its_module)))
    (c.in_ok-module.ensures.bundle p given its w ready
    (c.in_ok-places.ensures ∙ ap numbers_once c.list.ensures))

pub returns-clause-below : goal.returns-clause-below
returns-clause-below c = λ p given its w ready.
    let its_module = c.in_ok-module.module in
    subst (λ (n : ℕ). HasContextsBelow n (body_of c.in_ok-merged.merged))
    (sym (ap (λ held. held.next) c.go_to.ensures))
    (subst (HasContextsBelow c.in_ok-module.next)
    (sym (ap body_of c.in_ok-merged.ensures ∙ body-joined c.entry.result (module_item_lists its_module)))
    (c.in_ok-module.ensures.below p given its w ready
    (c.in_ok-places.ensures ∙ ap numbers_once c.list.ensures)))

pub returns-in_err-module-clause-told : goal.returns-in_err-module-clause-told
returns-in_err-module-clause-told c =
    let q = err_from_is_err_and c.from_residual-in_err-module.result c.from_residual-in_err-module.ensures.1 in
    rw (q.1, q.2) (λ p its w.
    c.in_err-module.ensures.told p its w
    (c.in_ok-places.ensures ∙ ap numbers_once c.list.ensures))

pub returns-in_err-module-clause-lacks : goal.returns-in_err-module-clause-lacks
returns-in_err-module-clause-lacks c =
    let q = err_from_is_err_and c.from_residual-in_err-module.result c.from_residual-in_err-module.ensures.1 in
    rw (q.1, q.2) (λ p given its w ready.
    c.in_err-module.ensures.lacks p given its w ready
    (c.in_ok-places.ensures ∙ ap numbers_once c.list.ensures))
