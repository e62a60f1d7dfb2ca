-- The file of each module is there, and goes last.
use Rattle.std.proofs.Common.{◌<◌, length, ap, sym, ◌∙◌, arith}
use Rattle.std.specs.Option.{option_map}
use Rattle.std.specs.Map.Iter.{deref_pair}
use Rattle.std.proofs.lemmas.Option.{none-some}
use Rattle.bundler_entry.proofs.CausedLemmas.{files-more, file-there, file-found}
use Rattle.bundler_entry.proofs.causes.files_in.Goals as goal
use Rattle.bundler_entry.proofs.causes.files_in.Goals.{in-Some+in_ok-clone+in_ok-push, in_default}

pub loop-which-preserved : goal.loop-which-preserved
loop-which-preserved c = λ there.
    let call = c.args.call.now in
    let reached = c.args.reached.now in
    let k = c.loop-which.which in
    elim c.match-file_at.branch [
      | in-Some+in_ok-clone+in_ok-push w ↦
          files-more call reached k c.loop-which.files.items c.match-file_at.files.items
          w.in_ok-clone.field-0 (ap (λ v. v.items) w.files-is ∙ w.in_ok-push.ensures.items)
          (record {
            pair = (w.in-Some.file.now, w.in-Some.field-0-1.now);
            there = file-there call reached k _ _ c.file_at.ensures
                (ap (λ o. option_map deref_pair o) w.in-Some.is);
            named = w.in_ok-clone.ensures.cases;
          })
          (c.loop-which.invariant there)
      | in_default w ↦
          let within : k < length reached.places.items =
          omega (arith, c.loop-which-test.true, c.len-which-end.ensures, reached.places.ok.0) in
          let its = there k within in
          absurd (none-some its.0
          (sym (ap (λ o. option_map deref_pair o) w.in_default.is)
          ∙ file-found call reached k _ its.0 c.file_at.ensures its.1))
    ]
