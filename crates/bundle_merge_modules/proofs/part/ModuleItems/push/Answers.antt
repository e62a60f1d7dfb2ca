use Rattle.std.proofs.Common.{[], ◌∷◌, ◌++◌, nat_eq, ap, sym, ◌∙◌}
use Rattle.std.specs.Prelude.{map}
use Rattle.std.specs.Option.{option_copied_mut}
use Rattle.std.proofs.lemmas.Result.{err_from_is_err_and}
use Rattle.indexmap.specs.IndexMap.{IndexMap, insert_entry}
use Rattle.bundle_merge_modules.specs.Calls.{group_items}
use Rattle.bundle_merge_modules.proofs.AnswerLemmas.{written, unwritten, inserted}
use Rattle.bundle_merge_modules.proofs.part.ModuleItems.push.Goals as goal

pub returns-in_err-push-clause-refused : goal.returns-in_err-push-clause-refused
returns-in_err-push-clause-refused g c =
    let there = sym c.get_mut.ensures.value ∙ ap option_copied_mut c.in-Some.is in
    let same = ap (map group_items) (c.get_mut.follows.holds c.push.new.self).0 ∙ unwritten c.args.self.now.modules.entries c.args.id c.in-Some.items.now c.push.new.self there c.in_err-push.ensures.items in
    let p = err_from_is_err_and c.from_residual.result c.from_residual.ensures.1 in
    rw p.1 same

pub returns-in-Some-clause-put : goal.returns-in-Some-clause-put
returns-in-Some-clause-put g c =
    let there = sym c.get_mut.ensures.value ∙ ap option_copied_mut c.in-Some.is in
    ap (map group_items) (c.get_mut.follows.holds c.push.new.self).0 ∙ written c.args.self.now.modules.entries c.args.id c.in-Some.items.now c.push.new.self (c.args.item ∷ []) there c.in_ok-push.ensures.items

pub returns-clause-put : goal.returns-clause-put
returns-clause-put g c =
    let items = c.in_ok-push-2.ensures.items ∙ ap (λ l. l ++ c.args.item ∷ []) c.new-items.ensures.items in
    ap (map group_items) c.in_ok-insert.ensures.entries
    ∙ ap (λ (m : IndexMap _ _ _). map group_items (insert_entry nat_eq m.entries c.args.id c.push-2.new.self)) c.get_mut.follows.holds-at-none
    ∙ inserted c.args.self.now.modules.entries c.args.id c.push-2.new.self (c.args.item ∷ []) (sym c.in_default.ensures.value) items
