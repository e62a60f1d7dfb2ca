use Rattle.std.proofs.Common.{subst}
use Rattle.bundle_merge_modules.specs.Groups.{owned}
use Rattle.bundle_merge_modules.specs.Calls.{AsksOf, groups_of}
use Rattle.bundle_merge_modules.specs.Parts.{HeldOf, RetainsOf}
use Rattle.bundle_merge_modules.proofs.AnswerLemmas.{IsTidy-kept, retained}
use Rattle.bundle_merge_modules.proofs.parts.Parts.retain_mut.Goals as goal

pub invariant_of-self : goal.invariant_of-self
invariant_of-self g c =
    let all = AsksOf (goal.F-post g c.args.f.now) in
    let old = c.self.inside in
    let tidy = c.self.invariant in (
      IsTidy-kept all (groups_of old.prepended) (groups_of c.retain.new.self) tidy.0 c.retain.ensures,
      IsTidy-kept all (groups_of old.bodies) (groups_of c.retain-2.new.self) tidy.1 c.retain-2.ensures,
      IsTidy-kept all (groups_of old.appended) (groups_of c.retain-3.new.self) tidy.2 c.retain-3.ensures,
    )

pub returns : goal.returns
returns g c =
    let all = AsksOf (goal.F-post g c.args.f.now) in
    let old = c.self.inside in
    let after : HeldOf _ = record { prepended = owned (groups_of c.retain.new.self); bodies = owned (groups_of c.retain-2.new.self); appended = owned (groups_of c.retain-3.new.self) } in
    subst (λ (h : HeldOf _). RetainsOf all h after) c.self.view_is
    (record {
      prepended = retained all (groups_of old.prepended) (groups_of c.retain.new.self) c.retain.ensures;
      bodies = retained all (groups_of old.bodies) (groups_of c.retain-2.new.self) c.retain-2.ensures;
      appended = retained all (groups_of old.appended) (groups_of c.retain-3.new.self) c.retain-3.ensures;
    })
