use Rattle.std.proofs.Common.{Option, ℕ, ap, sym, ◌∙◌}
use Rattle.std.specs.Prelude.{map}
use Rattle.std.specs.Option.{option_copied_mut}
use Rattle.indexmap.specs.IndexMap.{IndexMap}
use Rattle.bundle_merge_modules.specs.Calls.{group_items, groups_of}
use Rattle.bundle_merge_modules.specs.Groups.{cut}
use Rattle.bundle_merge_modules.proofs.AnswerLemmas.{shortened, unshortened, removed}
use Rattle.bundle_merge_modules.proofs.part.ModuleItems.cut.Goals as goal

pub returns-in-Some-get_mut : goal.returns-in-Some-get_mut
returns-in-Some-get_mut g c =
    let there = sym c.get_mut.ensures.value ∙ ap option_copied_mut c.in-Some-get_mut.is in
    ap (map group_items) (c.get_mut.follows.holds c.truncate.new.self).0
    ∙ shortened c.args.self.now.modules.entries c.args.id c.in-Some.count c.in-Some-get_mut.items.now c.truncate.new.self there c.truncate.ensures.items
    ∙ ap (λ (count : Option ℕ). cut (groups_of c.args.self.now) c.args.id count) (sym c.in-Some.is)

pub returns-in_default : goal.returns-in_default
returns-in_default g c =
    ap (λ (m : IndexMap _ _ _). map group_items m.entries) c.get_mut.follows.holds-at-none
    ∙ sym (unshortened c.args.self.now.modules.entries c.args.id c.args.count (sym c.in_default.ensures.value))

pub returns-in-None : goal.returns-in-None
returns-in-None g c =
    ap (map group_items) c.shift_remove.ensures.entries
    ∙ removed c.args.self.now.modules.entries c.args.id
    ∙ ap (λ (count : Option ℕ). cut (groups_of c.args.self.now) c.args.id count) (sym c.in-None.is)
