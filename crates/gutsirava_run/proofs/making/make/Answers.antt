-- What was made is of these settings and entries.
use Rattle.std.proofs.Common.{List, subst}
use Rattle.std.specs.List.{AllZip}
use Rattle.gutsirava_words.specs.declared.options.EntryPoint.{EntryPoint}
use Rattle.gutsirava_run.specs.Making.{IsNamed}
use Rattle.gutsirava_run.proofs.making.make.Goals as goal

pub returns : goal.returns
returns g c =
    let entries = c.in_ok-entries.entries.items in
    let P : List EntryPoint → Type 0 = λ begins. AllZip (IsNamed g.F.FileSystem.is_real c.args.folder.now) begins entries in
    record {
      settings = c.in_ok-settings.settings;
      entries = entries;
      asked = c.in_ok-settings.ensures;
      named = subst P c.as_slice.ensures.value c.in_ok-entries.ensures;
      unfit = c.in_ok-made.ensures.none;
      answers = c.in_ok-made.ensures.answers;
    }
