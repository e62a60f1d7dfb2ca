-- A path that is passed is in its state, and one that is told in another.
use Rattle.std.proofs.Common.{◌∙◌, ℕ, List, subst, sym}
use Rattle.gutsirava_watch.specs.States.{MayBeAs, IsInAnother}
use Rattle.gutsirava_watch.proofs.StateLemmas.{passed_more, passed_one}
use Rattle.gutsirava_watch.proofs.watching.changed_path.Goals as goal

pub returns-then-not-is_in : goal.returns-then-not-is_in
returns-then-not-is_in g c =
    let may_be = g.S.PathStamps.may_be c.args.stamps.now in
    let here = c.as_str-then-not-is_in.ensures.value in
    let other : List ℕ → Type 0 = λ path. IsInAnother may_be path c.in-Some.stamp.now in
    record {
      noted = (c.in-Some.path.now, c.in-Some.stamp.now);
      among = passed_one (MayBeAs may_be) c.args.paths.now.entries c.loop-path.path-iterator c.next.new.self
          (c.in-Some.path.now, c.in-Some.stamp.now) c.loop-path.invariant c.in-Some.ensures.steps;
      named = sym here;
      another = subst other (c.as_str.ensures.value ∙ sym here) (c.is_in.ensures.other c.if-not-is_in.true);
    }

pub loop-path-preserved : goal.loop-path-preserved
loop-path-preserved g c =
    let may_be = g.S.PathStamps.may_be c.args.stamps.now in
    let there : List ℕ → Type 0 = λ path. may_be path c.in-Some.stamp.now in
    passed_more (MayBeAs may_be) c.args.paths.now.entries c.loop-path.path-iterator c.next.new.self
    (c.in-Some.path.now, c.in-Some.stamp.now) c.loop-path.invariant c.in-Some.ensures.steps
    (subst there c.as_str.ensures.value (c.is_in.ensures.same c.if-not-is_in.false))
