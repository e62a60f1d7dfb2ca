use Rattle.std.proofs.Common.{[], List, ap, subst, sym, ◌∙◌}
use Rattle.bundle_merge_modules.specs.Groups.{Groups, AreGroupsTidy, owned}
use Rattle.bundle_merge_modules.specs.Calls.{groups_of}
use Rattle.bundle_merge_modules.specs.Parts.{HeldOf, OwnedOf, nothing}
use Rattle.bundle_merge_modules.proofs.AnswerLemmas.{IsTidy-any, owned-one}
use Rattle.bundle_merge_modules.proofs.parts.Parts.fill.Goals as goal

pub invariant_of-self : goal.invariant_of-self
invariant_of-self g c =
    let tidy = c.self.invariant in
    (tidy.0, subst (λ (h : Groups _). AreGroupsTidy h) (sym c.fill.ensures) (IsTidy-any [] c.args.id c.args.items.items tt), tidy.2)

pub returns : goal.returns
returns g c =
    let e = c.self.view_is ∙ c.requires.none in
    ap (λ (h : HeldOf _). record h { bodies = owned (groups_of c.fill.new.self) }) e
    ∙ ap (λ (l : List (OwnedOf _)). record nothing { bodies = l }) (ap owned c.fill.ensures ∙ owned-one c.args.id c.args.items.items)
