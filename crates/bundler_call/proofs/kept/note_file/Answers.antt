-- A file is among these where it has a number.
use Rattle.std.proofs.Common.{◌∙◌, ap, not, is_some, sym}
use Rattle.bundle_tree_names.specs.FileName.{name_of}
use Rattle.bundler_call.proofs.Holding.{file_any}
use Rattle.bundler_call.proofs.kept.note_file.Goals as goal

pub returns-in-Some-clause-added : goal.returns-in-Some-clause-added
returns-in-Some-clause-added c = sym (ap not (file_any (name_of c.args.file.now) c.args.files.now ∙ sym (ap is_some c.in-Some.ensures.number)))

pub returns-in_ok-put_file-in-None-clause-added : goal.returns-in_ok-put_file-in-None-clause-added
returns-in_ok-put_file-in-None-clause-added c = sym (ap not (file_any (name_of c.args.file.now) c.args.files.now ∙ sym (ap is_some c.in-None.ensures.number)))
