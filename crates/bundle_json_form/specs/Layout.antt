-- The fields of a node as the code sees them.
use Rattle.std.specs.Prelude.{List, [], ◌∷◌, Option, Some, None}
use Rattle.bundle_json_form.specs.Form.{Field}
use Rattle.bundle_json_form.specs.declared.layout.Field as r_field

abbrev pub layout_field : r_field.Field → Field
layout_field it = record { number = it.number; key = it.key.now; shape = it.shape }

-- those that there are
abbrev pub present_fields : List (Option r_field.Field) → List Field
present_fields [] = []
present_fields (None ∷ rest) = present_fields rest
present_fields (Some it ∷ rest) = layout_field it ∷ present_fields rest
