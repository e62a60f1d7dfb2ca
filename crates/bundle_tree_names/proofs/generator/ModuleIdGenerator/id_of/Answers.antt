-- A look-up among the files is one among their names.
use Rattle.std.proofs.Common.{◌≡◌, ◌∙◌, sym, subst, refl, true≢false, slice_get, Contains, Some}
use Rattle.bundle_tree_names.specs.FileName.{name_of}
use Rattle.bundle_tree_names.proofs.Names.{Contains-slice_get}
use Rattle.bundle_tree_names.proofs.Numbering.{file-from_Contains, slice_get-position}
use Rattle.bundle_tree_names.proofs.generator.ModuleIdGenerator.id_of.Goals as goal

pub returns-in_err-place-clause-known : goal.returns-in_err-place-clause-known
returns-in_err-place-clause-known c =
    let name = name_of c.args.file.now in (
      λ some. absurd (true≢false (sym (rw c.from_residual.ensures at some))),
      λ h.
          let known = file-from_Contains c.self.inside.files.keys c.args.file.now (subst (λ l. Contains l name) (sym c.self.view_is) h) in
          absurd (true≢false (sym known ∙ sym c.in_err-place.ensures.found)),
    )

pub returns-clause-numbered : goal.returns-clause-numbered
returns-clause-numbered c =
    let name = name_of c.args.file.now in
    let at = slice_get-position c.self.inside.files.keys c.args.file.now c.in_ok-place.place (sym c.get_index_of.ensures.index ∙ c.in_ok-place.was) in
    rw c.from_u32.ensures (subst (λ l. slice_get l c.in_ok-place.place ≡ Some name) c.self.view_is at)

pub returns-clause-known : goal.returns-clause-known
returns-clause-known c =
    let name = name_of c.args.file.now in
    let at = slice_get-position c.self.inside.files.keys c.args.file.now c.in_ok-place.place (sym c.get_index_of.ensures.index ∙ c.in_ok-place.was) in
    (λ _. Contains-slice_get c.args.self.now c.in_ok-place.place name (subst (λ l. slice_get l c.in_ok-place.place ≡ Some name) c.self.view_is at), λ _. refl)
