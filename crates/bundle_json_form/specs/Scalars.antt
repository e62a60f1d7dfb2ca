-- What stands in a node and is no node, as the code lists it.
use Rattle.std.specs.Prelude.{List, [], ◌∷◌, option_map}
use Rattle.bundle_json_form.specs.Form.{Scalar, text, optional_text, truth, given}
use Rattle.bundle_json_form.specs.declared.scalar.Scalar as r_scalar
use Rattle.bundle_json_form.specs.declared.scalar.Scalar.TheVariants as c
use Rattle.bundle_json_form.specs.declared.scalar.Scalars as r_scalars
use Rattle.bundle_json_form.specs.declared.scalar.Scalars.TheVariants as l

abbrev pub scalar_of : r_scalar.Scalar → Scalar
scalar_of (c.Text key it) = text key.now it.now
scalar_of (c.OptionalText key it) = optional_text key.now (option_map (λ x. x.now) it)
scalar_of (c.Truth key it) = truth key.now it
scalar_of (c.Given key it) = given key.now it

abbrev pub scalars_in : r_scalars.Scalars → List Scalar
scalars_in l.Nothing = []
scalars_in (l.Single only) = scalar_of only ∷ []
scalars_in (l.Pair first second) = scalar_of first ∷ scalar_of second ∷ []
