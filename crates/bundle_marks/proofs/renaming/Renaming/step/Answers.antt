-- The map is asked for the name.
use Rattle.std.proofs.Common.{ap, sym, ◌∙◌}
use Rattle.std.specs.Map.{lookup}
use Rattle.std.specs.Option.{option_map}
use Rattle.bundle_rules.specs.Rebuilds.{ident_eq}
use Rattle.bundle_marks.specs.Idents.{ident_named}
use Rattle.bundle_marks.specs.Renamings.{change_of_step}
use Rattle.bundle_marks.proofs.RenamingLemmas.{copied-map, lookup-step}
use Rattle.bundle_marks.proofs.renaming.Renaming.step.Goals as goal

pub returns : goal.returns
returns c =
    copied-map change_of_step c.get.result
    ∙ ap (option_map change_of_step) c.get.ensures.value
    ∙ sym (lookup-step c.self.inside.steps.entries c.args.id.now)
    ∙ ap (lookup (ident_eq (ident_named c.args.id.now))) c.self.view_is
