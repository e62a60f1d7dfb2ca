use Rattle.std.proofs.Common.{Option, ℕ, List, ap, ◌∙◌}
use Rattle.bundle_merge_modules.specs.Groups.{Groups, cut, put_any, undone}
use Rattle.bundle_merge_modules.specs.Calls.{groups_of}
use Rattle.bundle_merge_modules.proofs.PourLemmas.{either}
use Rattle.bundle_merge_modules.proofs.AnswerLemmas.{undone-push, cut-any, cut-same}
use Rattle.bundle_merge_modules.proofs.part.ModuleItems.extend_noted.Goals as goal

pub returns-clause-undone : goal.returns-clause-undone
returns-clause-undone g c =
    let id = c.args.id in
    let log = c.args.log.now.items in
    let before = groups_of c.args.self.now in
    let after = groups_of c.extend.new.self in
    let count = c.count_of.result in
    ap (λ (l : List (ℕ × Option ℕ)). undone l after) c.in_ok-push.ensures.items
    ∙ undone-push log id count after
    ∙ ap (λ (h : Groups _). undone log h)
    (either c.extend.result c.extend.ensures.put c.extend.ensures.refused
    (λ e. ap (λ (h : Groups _). cut h id count) e ∙ ap (λ (n : Option ℕ). cut (put_any before id c.args.items.items) id n) c.count_of.ensures ∙ cut-any before id c.args.items.items)
    (λ e. ap (λ (h : Groups _). cut h id count) e ∙ ap (λ (n : Option ℕ). cut before id n) c.count_of.ensures ∙ cut-same before id))
