use Rattle.std.proofs.Common.{nat_eq, refl, ap, sym, ◌∙◌}
use Rattle.std.specs.Prelude.{map}
use Rattle.std.specs.Option.{option_copied_mut}
use Rattle.std.proofs.lemmas.Result.{err_from_is_err_and}
use Rattle.indexmap.specs.IndexMap.{IndexMap, insert_entry}
use Rattle.bundle_merge_modules.specs.Calls.{group_items}
use Rattle.bundle_merge_modules.proofs.AnswerLemmas.{nonempty, put_any-some, written, unwritten, inserted}
use Rattle.bundle_merge_modules.proofs.part.ModuleItems.extend.Goals as goal

pub returns-in_err-append-clause-refused : goal.returns-in_err-append-clause-refused
returns-in_err-append-clause-refused g c =
    let there = sym c.get_mut.ensures.value ∙ ap option_copied_mut c.in-Some.is in
    let same = ap (map group_items) (c.get_mut.follows.holds c.append.new.self).0 ∙ unwritten c.args.self.now.modules.entries c.args.id c.in-Some.items.now c.append.new.self there c.in_err-append.ensures.items in
    let p = err_from_is_err_and c.from_residual.result c.from_residual.ensures.1 in
    rw p.1 same

pub returns-in-Some-clause-put : goal.returns-in-Some-clause-put
returns-in-Some-clause-put g c =
    let there = sym c.get_mut.ensures.value ∙ ap option_copied_mut c.in-Some.is in
    let done = ap (map group_items) (c.get_mut.follows.holds c.append.new.self).0 ∙ written c.args.self.now.modules.entries c.args.id c.in-Some.items.now c.append.new.self c.args.items.items there c.in_ok-append.ensures.items in
    done ∙ sym (put_any-some (map group_items c.args.self.now.modules.entries) c.args.id c.args.items.items (nonempty c.args.items (sym c.is_empty.ensures ∙ c.if-is_empty.false)))

pub returns-clause-put : goal.returns-clause-put
returns-clause-put g c =
    let done = ap (map group_items) c.in_ok-insert.ensures.entries
    ∙ ap (λ (m : IndexMap _ _ _). map group_items (insert_entry nat_eq m.entries c.args.id c.args.items)) c.get_mut.follows.holds-at-none
    ∙ inserted c.args.self.now.modules.entries c.args.id c.args.items c.args.items.items (sym c.in_default.ensures.value) refl in
    done ∙ sym (put_any-some (map group_items c.args.self.now.modules.entries) c.args.id c.args.items.items (nonempty c.args.items (sym c.is_empty.ensures ∙ c.if-is_empty.false)))
