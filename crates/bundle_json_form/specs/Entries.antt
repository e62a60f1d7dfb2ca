-- The fields of a node as the code lists them.
use Rattle.std.specs.Prelude.{List, [], ◌∷◌}
use Rattle.bundle_json_form.specs.Form.{Field, single_node, optional, list, places}
use Rattle.bundle_json_form.specs.declared.layout.Entry as r_entry
use Rattle.bundle_json_form.specs.declared.layout.Entry.TheVariants as e
use Rattle.bundle_json_form.specs.declared.layout.Layout as r_layout
use Rattle.bundle_json_form.specs.declared.layout.Layout.TheVariants as l

abbrev pub entry_field : r_entry.Entry → Field
entry_field (e.One number key) = single_node number key.now
entry_field (e.Optional number key) = optional number key.now
entry_field (e.List number key) = list number key.now
entry_field (e.Places number key) = places number key.now

abbrev pub laid_out : r_layout.Layout → List Field
laid_out l.Nothing = []
laid_out (l.Single first) = entry_field first ∷ []
laid_out (l.Pair first second) = entry_field first ∷ entry_field second ∷ []
laid_out (l.Triple first second third) =
    entry_field first ∷ entry_field second ∷ entry_field third ∷ []
laid_out (l.Four first second third fourth) =
    entry_field first ∷ entry_field second ∷ entry_field third ∷ entry_field fourth ∷ []
