-- A file that has no number has no label among those with one.
use Rattle.std.proofs.Common.{◌∙◌, ap, map, position, string_bytes, sym, true, false}
use Rattle.bundle_tree_names.specs.FileName.{name_eq, name_of}
use Rattle.bundler_call.specs.Held.{file_named}
use Rattle.bundler_call.proofs.Holding.{name_found}
use Rattle.bundler_call.proofs.kept.put_file.Goals as goal

pub add-requires : goal.add-requires
add-requires c =
    sym (name_found c.args.files.now (true, string_bytes c.in-Real.path))
    ∙ ap (λ f. position (name_eq (name_of f)) (map file_named c.args.files.now)) (sym c.in-Real.is) ∙ c.requires

pub add-requires-in-Custom : goal.add-requires-in-Custom
add-requires-in-Custom c =
    sym (name_found c.args.files.now (false, string_bytes c.in-Custom.name))
    ∙ ap (λ f. position (name_eq (name_of f)) (map file_named c.args.files.now)) (sym c.in-Custom.is) ∙ c.requires
