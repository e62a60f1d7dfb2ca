-- The items of a bundle whose names are given.
use Rattle.std.proofs.Common.{◌<◌, refl, sym, subst}
use Rattle.bundle_merge_names.specs.Numbers.{position}
use Rattle.bundle_merge_names.specs.Refused.{TakesFew, for_memory, for_scopes}
use Rattle.bundle_merge_names.specs.declared.error.MergeError.TheVariants.{OutOfMemory}
use Rattle.bundle_merge_names.proofs.ScopeLemmas.{handed-on}
use Rattle.bundle_merge_items.specs.Added.{module_item_lists}
use Rattle.bundle_merge_items.proofs.merge.merge_modules.Goals as goal

pub returns-clause-merged : goal.returns-clause-merged
returns-clause-merged c = λ q list answers meta count sound parts once answered told.
    let named = c.in_ok-names.ensures.named q list answers parts in
    let its = c.in_ok-tree.ensures once q list answers named.0 meta count
    (record { sound = sound; parts = parts; answered = answered; named = named.1 }) told in
    record {
      context = named.0;
      apart = named.1.apart;
      tops = named.1.tops;
      below = λ a holder. subst (λ contexts. named.0 a < position contexts) (sym c.contexts.ensures) (named.1.below a holder);
      from = named.1.from;
      orders = its.orders;
      items = module_item_lists c.in_ok-tree.tree;
      made = its.made;
      is = refl;
    }

pub returns-clause-few : goal.returns-clause-few
returns-clause-few c = λ q list answers parts.
    subst
    (λ contexts. TakesFew q list answers (position c.args.bundle.now.contexts) (position contexts))
    (sym c.contexts.ensures) (c.in_ok-names.ensures.few q list answers parts)

pub returns-in_err-names-clause-refused : goal.returns-in_err-names-clause-refused
returns-in_err-names-clause-refused c = handed-on _ _ _ c.from_residual.ensures.1 c.in_err-names.ensures.refused

pub returns-in_err-tree-clause-refused : goal.returns-in_err-tree-clause-refused
returns-in_err-tree-clause-refused c =
    handed-on _ OutOfMemory _ c.from_residual-in_err-tree.ensures.1
    (λ q list answers parts. for_scopes for_memory)
