use Rattle.std.proofs.Common.{List, ap, subst, sym, ◌∙◌}
use Rattle.std.proofs.lemmas.Result.{on_ok_weaker}
use Rattle.bundle_merge_modules.specs.Groups.{Groups, AreGroupsTidy, owned}
use Rattle.bundle_merge_modules.specs.Calls.{groups_of}
use Rattle.bundle_merge_modules.specs.Parts.{HeldOf, OwnedOf, put_last}
use Rattle.bundle_merge_modules.proofs.PourLemmas.{either}
use Rattle.bundle_merge_modules.proofs.AnswerLemmas.{last-put, IsTidy-put}
use Rattle.bundle_merge_modules.proofs.parts.Parts.prepend.Goals as goal

pub invariant_of-self : goal.invariant_of-self
invariant_of-self g c =
    let before = groups_of c.self.inside.prepended in
    let tidy = c.self.invariant in (
      either c.push.result c.push.ensures.put c.push.ensures.refused
          (λ e. subst (λ (h : Groups _). AreGroupsTidy h) (sym e) (IsTidy-put before c.args.id c.args.item tidy.0))
          (λ e. subst (λ (h : Groups _). AreGroupsTidy h) (sym e) tidy.0),
      tidy.1,
      tidy.2,
    )

pub returns-clause-put : goal.returns-clause-put
returns-clause-put g c =
    on_ok_weaker c.push.result
    (λ e.
    ap (λ (h : HeldOf _). record h { prepended = owned (groups_of c.push.new.self) }) c.self.view_is
    ∙ ap (λ (l : List (OwnedOf _)). record c.args.self.now { prepended = l })
    (ap owned e
    ∙ sym (last-put (groups_of c.self.inside.prepended) c.args.id c.args.item c.self.invariant.0)
    ∙ ap (λ (h : HeldOf _). put_last h.prepended (c.args.id, c.args.item)) c.self.view_is))
    c.push.ensures.put
