-- The shape of each module goes last.
use Rattle.std.proofs.Common.{◌<◌, length, ap, sym, ◌∙◌, arith}
use Rattle.std.specs.Prelude.{option_copied}
use Rattle.bundler_entry.proofs.CausedLemmas.{shapes-more, source-found}
use Rattle.bundler_entry.proofs.causes.shapes_of.Goals as goal
use Rattle.bundler_entry.proofs.causes.shapes_of.Goals.{in-Some+in_ok-push, in_default}

pub loop-which-preserved : goal.loop-which-preserved
loop-which-preserved c = λ there.
    let call = c.args.call.now in
    let reached = c.args.reached.now in
    let k = c.loop-which.which in
    elim c.match-source_at.branch [
      | in-Some+in_ok-push w ↦
          shapes-more call reached k c.loop-which.shapes.items c.match-source_at.shapes.items
          w.shape_of.result (ap (λ v. v.items) w.shapes-is ∙ w.in_ok-push.ensures.items)
          (record {
            source = w.in-Some.source.now;
            there = sym c.source_at.ensures ∙ ap (λ o. option_copied o) w.in-Some.is;
            its = w.shape_of.ensures;
          })
          (c.loop-which.invariant there)
      | in_default w ↦
          let within : k < length reached.places.items =
          omega (arith, c.loop-which-test.true, c.len-which-end.ensures, reached.places.ok.0) in
          absurd (source-found call reached k (there k within) _ c.source_at.ensures
          (ap (λ o. option_copied o) w.in_default.is))
    ]
