use Rattle.std.proofs.Common.{rules}
use Rattle.bundle_merge_modules.specs.Calls.{AsksOf}
use Rattle.bundle_merge_modules.proofs.AnswerLemmas.{kept_of, said}
use Rattle.bundle_merge_modules.proofs.part.ModuleItems.retain.Goals as goal

pub returns : goal.returns
returns g c =
    kept_of _ _ _
    (λ m v b w f' k. let h = said (AsksOf (goal.F-post g c.args.f.now)) k.key.now m k.value.now v k.left.now w b k.shows.0 k.shows.1 k.leaves (search rules) (search rules) in (h.0, h.1, search rules))
    _ _ c.retain.ensures.filtered
