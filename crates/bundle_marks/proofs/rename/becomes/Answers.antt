-- The map is asked for the name.
use Rattle.std.proofs.Common.{◌≡◌, unwrap_or, ap, sym, ◌∙◌}
use Rattle.std.specs.Option.{option_map}
use Rattle.bundle_tree_places.specs.Marks.{ident_of}
use Rattle.bundle_marks.specs.Idents.{ident_named}
use Rattle.bundle_marks.proofs.RenameLemmas.{lookup-named, both}
use Rattle.bundle_marks.proofs.rename.becomes.Goals as goal

pub returns-in-Some : goal.returns-in-Some
returns-in-Some c =
    both c.sym.ensures (c.as_u32.ensures ∙ c.ctxt.ensures)
    ∙ sym (ap (λ found. unwrap_or found (ident_of c.args.ident)) (lookup-named c.args.renaming.now.entries c.args.id.now ∙ ap (option_map ident_named) (sym c.in-Some.ensures.value)))

pub returns-in-None : goal.returns-in-None
returns-in-None c = sym (ap (λ found. unwrap_or found (ident_of c.args.ident)) (lookup-named c.args.renaming.now.entries c.args.id.now ∙ ap (option_map ident_named) (sym c.in-None.ensures.value)))
