-- The file that is told is that of the module, or the entry's.
use Rattle.std.proofs.Common.{refl, ap, ◌∙◌}
use Rattle.bundle_tree_names.specs.FileName.{name_of}
use Rattle.bundler_entry.proofs.made.contexts_refusal.Goals as goal

pub returns : goal.returns
returns c =
    let same = c.in_ok-file.ensures.cases in
    record {
      told = c.in_ok-file.file;
      is = refl;
      of_module = λ k file is at. same ∙ ap name_of (c.file_told.ensures.of_module k file is at);
      of_entry = λ none. same ∙ ap name_of (c.file_told.ensures.of_entry none);
    }
