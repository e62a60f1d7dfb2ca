use Rattle.std.proofs.Common.{ap, subst, sym, ◌∙◌}
use Rattle.bundle_merge_modules.specs.Groups.{Groups, AreGroupsTidy}
use Rattle.bundle_merge_modules.specs.Calls.{groups_of}
use Rattle.bundle_merge_modules.specs.Parts.{HeldOf, held_joined}
use Rattle.bundle_merge_modules.proofs.AnswerLemmas.{IsTidy-all, held_of, joined-all}
use Rattle.bundle_merge_modules.proofs.parts.Parts.push_all.Goals as goal

pub invariant_of-self-in-Ok-1 : goal.invariant_of-self-in-Ok-1
invariant_of-self-in-Ok-1 g c =
    let old = c.self.inside in
    let more = c.other.inside in
    let tidy = c.self.invariant in (
      subst (λ (h : Groups _). AreGroupsTidy h) (sym c.in_ok-first.ensures.put) (IsTidy-all (groups_of old.prepended) (groups_of more.prepended) tidy.0),
      subst (λ (h : Groups _). AreGroupsTidy h) (sym c.in-Ok.ensures.first) (IsTidy-all (groups_of old.bodies) (groups_of more.bodies) tidy.1),
      subst (λ (h : Groups _). AreGroupsTidy h) (sym c.in-Ok.ensures.second) (IsTidy-all (groups_of old.appended) (groups_of more.appended) tidy.2),
    )

pub returns-in-Ok-clause-put : goal.returns-in-Ok-clause-put
returns-in-Ok-clause-put g c =
    let old = c.self.inside in
    let more = c.other.inside in
    let tidy = c.self.invariant in
    joined-all (groups_of old.prepended) (groups_of old.bodies) (groups_of old.appended)
    (groups_of more.prepended) (groups_of more.bodies) (groups_of more.appended)
    (groups_of c.append.new.self) (groups_of c.append_both.new.a) (groups_of c.append_both.new.b)
    tidy.0 tidy.1 tidy.2 c.in_ok-first.ensures.put c.in-Ok.ensures.first c.in-Ok.ensures.second
    ∙ ap (λ (h : HeldOf _). held_joined h (held_of (groups_of more.prepended) (groups_of more.bodies) (groups_of more.appended))) c.self.view_is
    ∙ ap (λ (h : HeldOf _). held_joined c.args.self.now h) c.other.view_is
