-- Each module of the list has a source and a file.
use Rattle.std.proofs.Common.{ap, sym, ◌∙◌}
use Rattle.std.specs.Map.Iter.{deref_pair}
use Rattle.std.specs.Prelude.{option_copied, option_map}
use Rattle.std.proofs.lemmas.Option.{none-some}
use Rattle.bundler_entry.proofs.AskedLemmas.{asked_of, if_none, its_file, its_source, not_asked}
use Rattle.bundler_entry.proofs.entry.asked_at.Goals as goal

pub returns-in_err-source-clause-unasked : goal.returns-in_err-source-clause-unasked
returns-in_err-source-clause-unasked c = if_none c.from_residual.result
    (λ p entry m w r at.
    let it = its_source p entry c.args.call.now w c.args.reached.now r c.args.which m at (option_copied c.source_at.result) c.source_at.ensures in
    absurd (none-some it.0 (sym (ap option_copied c.in_err-source.was) ∙ it.1)))

pub returns-in_err-file-clause-unasked : goal.returns-in_err-file-clause-unasked
returns-in_err-file-clause-unasked c = if_none c.from_residual-in_err-file.result
    (λ p entry m w r at.
    let it = its_file p entry c.args.call.now w c.args.reached.now r c.args.which m at (option_map deref_pair c.file_at.result) c.file_at.ensures in
    absurd (none-some it.0 (sym (ap (option_map deref_pair) c.in_err-file.was) ∙ it.1)))

pub returns-in-true-clause-asked : goal.returns-in-true-clause-asked
returns-in-true-clause-asked c = λ p entry m w r at.
    asked_of p entry c.args.call.now w c.args.reached.now r c.args.which m at c.in_ok-source.source.now (c.in_ok-file.file.now, c.in_ok-file.field-0-1.now)
    (sym (ap option_copied c.in_ok-source.was) ∙ c.source_at.ensures)
    (sym (ap (option_map deref_pair) c.in_ok-file.was) ∙ c.file_at.ensures)
    c.in-true.is

pub returns-in-false-clause-unasked : goal.returns-in-false-clause-unasked
returns-in-false-clause-unasked c = λ p entry m w r at.
    not_asked p entry c.args.call.now w c.args.reached.now r c.args.which m at c.in_ok-source.source.now
    (sym (ap option_copied c.in_ok-source.was) ∙ c.source_at.ensures)
    c.in-false.is
