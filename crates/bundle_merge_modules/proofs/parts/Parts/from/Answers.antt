use Rattle.std.proofs.Common.{List, ap, subst, sym, ◌∙◌}
use Rattle.bundle_merge_modules.specs.Groups.{Groups, AreGroupsTidy, owned, put_any}
use Rattle.bundle_merge_modules.specs.Calls.{groups_of}
use Rattle.bundle_merge_modules.specs.Parts.{HeldOf, OwnedOf, nothing}
use Rattle.bundle_merge_modules.proofs.AnswerLemmas.{IsTidy-any, owned-one, owned-none}
use Rattle.bundle_merge_modules.proofs.parts.Parts.from.Goals as goal

pub invariant_of-parts : goal.invariant_of-parts
invariant_of-parts g c =
    let tidy = c.parts.invariant in
    (tidy.0, subst (λ (h : Groups _). AreGroupsTidy h) (sym c.in_ok-extend.ensures.put) (IsTidy-any (groups_of c.parts.inside.bodies) c.args.id c.args.items.items tidy.1), tidy.2)

pub returns : goal.returns
returns g c =
    let e = c.parts.view_is ∙ c.empty-parts.ensures in
    let none = owned-none (groups_of c.parts.inside.bodies) c.parts.invariant.1 (ap (λ (h : HeldOf _). h.bodies) e) in
    ap (λ (h : HeldOf _). record h { bodies = owned (groups_of c.extend.new.self) }) e
    ∙ ap (λ (l : List (OwnedOf _)). record nothing { bodies = l })
    (ap owned (c.in_ok-extend.ensures.put ∙ ap (λ (h : Groups _). put_any h c.args.id c.args.items.items) none) ∙ owned-one c.args.id c.args.items.items)
