-- What was noted of the files is that of the program.
use Rattle.std.proofs.Common.{ℕ, List, Contains, ap, sym, ◌∙◌, length, subst}
use Rattle.std.specs.Borrow.{Bor}
use Rattle.bundle_tree_names.specs.declared.file_name.FileName.{FileName}
use Rattle.bundle_link.specs.Files.{numbers_of}
use Rattle.std.specs.Prelude.{slice_get}
use Rattle.bundler_entry.proofs.source.program_of.Goals as goal

pub returns-clause-program : goal.returns-clause-program
returns-clause-program c = λ p files sources.
    let noted = c.in_ok-files.ensures.noted p files in
    let ids = noted.ids ∙ ap (λ (f : Bor (List (FileName × ℕ))). numbers_of f.now) c.in_ok-files.ensures.files in
    record {
      files = noted;
      sources = record {
        long = sources.long ∙ sym (ap length ids);
        each = λ place m source at there. sources.each place m source (ap (λ l. slice_get l place) (sym ids) ∙ at) there;
      };
      count = λ m there. c.count_of_files-count.ensures.above m (subst (λ (numbers : List ℕ). Contains numbers m) ids there);
      least = λ n above. c.count_of_files-count.ensures.least n (λ m there. above m (subst (λ (numbers : List ℕ). Contains numbers m) (sym ids) there));
    }
