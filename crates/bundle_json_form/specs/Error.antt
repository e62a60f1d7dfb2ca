-- The texts of the reasons why a value could not be read.
use Rattle.std.specs.Prelude.{ℕ, List, codes}
use Rattle.bundle_json_form.specs.declared.error.FormError.{FormError}
use Rattle.bundle_json_form.specs.declared.error.FormError.TheVariants.{Form, OutOfMemory}

abbrev pub form_error_shown : FormError → List ℕ
form_error_shown Form = codes "not the form of a tree"
form_error_shown OutOfMemory = codes "out of memory"
