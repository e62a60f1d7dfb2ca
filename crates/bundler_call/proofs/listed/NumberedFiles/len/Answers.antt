-- There are as many files as numbers, and each number stands once.
use Rattle.std.proofs.Common.{◌∙◌, ap, length, subst}
use Rattle.std.proofs.lemmas.List.{length-map}
use Rattle.bundle_link_index.specs.Numbered.{HasNoDoubles}
use Rattle.bundle_link.specs.Files.{file_number, numbers_of}
use Rattle.bundler_call.proofs.Unasked.{once_apart}
use Rattle.bundler_call.proofs.listed.NumberedFiles.len.Goals as goal

pub returns-clause-len : goal.returns-clause-len
returns-clause-len c = c.len.ensures.len ∙ ap length c.self.invariant ∙ length-map c.self.inside.files.items file_number ∙ ap length c.self.view_is

pub returns-clause-once : goal.returns-clause-once
returns-clause-once c = subst HasNoDoubles (c.self.invariant ∙ ap numbers_of c.self.view_is) (once_apart c.self.inside.ids.keys c.len.ensures.unique)
