use Rattle.std.proofs.Common.{Option, ℕ, List, ◌++◌, ap, sym, ◌∙◌}
use Rattle.std.specs.Option.{option_to_list}
use Rattle.bundle_merge_modules.specs.Groups.{undone}
use Rattle.bundle_merge_modules.specs.Calls.{groups_of}
use Rattle.bundle_merge_modules.proofs.AnswerLemmas.{undone-push}
use Rattle.bundle_merge_modules.proofs.part.ModuleItems.take_back.Goals as goal

pub loop-noted-preserved : goal.loop-noted-preserved
loop-noted-preserved g c =
    let left = c.pop.new.self.items in
    let now = groups_of c.loop-noted.self in
    let items = c.pop.ensures.items ∙ ap (λ (o : Option (ℕ × Option ℕ)). left ++ option_to_list o) c.in-Some.is in
    ap (undone left) c.cut.ensures
    ∙ sym (undone-push left c.in-Some.noted.0 c.in-Some.noted.1 now)
    ∙ ap (λ (l : List (ℕ × Option ℕ)). undone l now) (sym items)
    ∙ c.loop-noted.invariant
