-- The numbers of the files are those that are noted.
use Rattle.std.proofs.Common.{◌∙◌, ap, nat_eq}
use Rattle.std.specs.List.{list_any}
use Rattle.bundle_link.specs.Files.{numbers_of}
use Rattle.bundler_call.proofs.listed.NumberedFiles.has.Goals as goal

pub returns : goal.returns
returns c = c.contains.ensures ∙ ap (list_any (nat_eq c.args.id)) (c.self.invariant ∙ ap numbers_of c.self.view_is)
