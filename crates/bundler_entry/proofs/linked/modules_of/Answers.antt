-- Each module is there, and goes last.
use Rattle.std.proofs.Common.{ap, ◌∙◌, subst, arith}
use Rattle.std.specs.Prelude.{IfSome, IsSome}
use Rattle.std.proofs.lemmas.Bool.{false≢true}
use Rattle.bundler_entry.specs.Linked.{IsPartAt}
use Rattle.bundler_entry.proofs.SourceLemmas.{parts_more}
use Rattle.bundler_entry.proofs.linked.modules_of.Goals as goal
use Rattle.bundler_entry.proofs.linked.modules_of.Goals.{in-Some+in_ok-push, in_default}

pub loop-which-preserved : goal.loop-which-preserved
loop-which-preserved c = λ places.
    let sources = c.args.sources.now in
    let reached = c.args.reached.now in
    let m = c.loop-which.which in
    elim c.match-part_at.branch [
      | in-Some+in_ok-push w ↦
          parts_more sources reached m c.loop-which.modules.items c.match-part_at.modules.items w.in-Some.part (ap (λ v. v.items) w.modules-is ∙ w.in_ok-push.ensures.items)
          (subst (λ o. IfSome o (IsPartAt sources reached m)) w.in-Some.is c.part_at.ensures.part)
          (c.loop-which.invariant places)
      | in_default w ↦ absurd (false≢true (subst (λ o. IsSome o) w.in_default.is (c.part_at.ensures.there (λ k within. places k (omega (arith, within, c.loop-which-test.true, c.len-which-end.ensures, reached.places.ok.0))))))
    ]
