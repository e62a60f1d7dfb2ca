-- The renaming is asked for the name.
use Rattle.std.proofs.Common.{unwrap_or, ap, ◌∙◌}
use Rattle.bundle_tree_places.specs.Marks.{ident_of}
use Rattle.bundle_marks.specs.Renamings.{unchanged}
use Rattle.bundle_scope.proofs.RenameLemmas.{both}
use Rattle.bundle_scope.proofs.rename.change_by.Goals as goal

pub returns-in-Some : goal.returns-in-Some
returns-in-Some c =
    both c.sym.ensures (c.as_u32.ensures ∙ c.ctxt.ensures)
    ∙ ap (λ found. unwrap_or found (unchanged (ident_of c.args.ident))) c.in-Some.ensures

pub returns-in-None : goal.returns-in-None
returns-in-None c = ap (λ found. unwrap_or found (unchanged (ident_of c.args.ident))) c.in-None.ensures
