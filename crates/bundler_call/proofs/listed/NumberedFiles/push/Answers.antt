-- A file goes last, and so does its number.
use Rattle.std.proofs.Common.{◌≡◌, ◌∙◌, ◌++◌, ◌∷◌, [], ap, false, if◌then◌else◌, nat_eq, sym}
use Rattle.std.specs.List.{list_any}
use Rattle.std.proofs.lemmas.List.{map_push}
use Rattle.bundle_link.specs.Files.{file_number, numbers_of}
use Rattle.bundler_call.proofs.listed.NumberedFiles.push.Goals as goal

pub invariant_of-self-2 : goal.invariant_of-self-2
invariant_of-self-2 c =
    let files = c.self.inside.files.items in
    let ids = c.self.inside.ids.keys in
    let none : list_any (nat_eq c.args.id) ids ≡ false = ap (list_any (nat_eq c.args.id)) (c.self.invariant ∙ ap numbers_of c.self.view_is) ∙ c.requires in
    c.in_ok-insert.ensures.keys ∙ ap (λ b. if b then ids else ids ++ c.args.id ∷ []) none ∙ ap (λ l. l ++ c.args.id ∷ []) c.self.invariant
    ∙ sym (map_push file_number files (c.args.file, c.args.id))
    ∙ ap numbers_of (sym (c.in_ok-push.ensures.items ∙ ap (λ l. l ++ (c.args.file, c.args.id) ∷ []) c.reserve.ensures.items))
