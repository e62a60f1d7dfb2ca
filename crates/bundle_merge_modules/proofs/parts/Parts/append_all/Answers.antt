use Rattle.std.proofs.Common.{[], List, ap, subst, sym, ◌∙◌}
use Rattle.bundle_merge_modules.specs.Groups.{Groups, AreGroupsTidy, owned, put_all}
use Rattle.bundle_merge_modules.specs.Calls.{groups_of}
use Rattle.bundle_merge_modules.specs.Parts.{HeldOf, OwnedOf, put_in_turn}
use Rattle.bundle_merge_modules.proofs.AnswerLemmas.{IsTidy-all, turn-each, put_each-all}
use Rattle.bundle_merge_modules.proofs.parts.Parts.append_all.Goals as goal

pub invariant_of-self-2 : goal.invariant_of-self-2
invariant_of-self-2 g c =
    let tidy = c.self.invariant in
    (tidy.0, tidy.1, subst (λ (h : Groups _). AreGroupsTidy h) (sym c.in_ok-append.ensures.put) (IsTidy-all (groups_of c.self.inside.appended) (groups_of c.in_ok-more.more) tidy.2))

pub returns-clause-put : goal.returns-clause-put
returns-clause-put g c =
    let before = groups_of c.self.inside.appended in
    let items = c.args.items.items in
    let put = c.in_ok-append.ensures.put ∙ ap (put_all before) c.in_ok-more.ensures ∙ put_each-all before [] items tt in
    ap (λ (h : HeldOf _). record h { appended = owned (groups_of c.append.new.self) }) c.self.view_is
    ∙ ap (λ (l : List (OwnedOf _)). record c.args.self.now { appended = l })
    (ap owned put ∙ sym (turn-each before items c.self.invariant.2) ∙ ap (λ (h : HeldOf _). put_in_turn h.appended items) c.self.view_is)
