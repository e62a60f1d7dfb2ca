-- Why a document could not be read, where a part of it could not.
use Rattle.std.specs.Prelude.{◌≡◌}
use Rattle.bundle_json_form.specs.declared.error.FormError.{FormError}
use Rattle.bundle_json_form.specs.declared.error.FormError.TheVariants.{Form as NoForm, OutOfMemory as NoMemory}
use Rattle.bundle_tree_parse.specs.declared.build.BuildError.{BuildError}
use Rattle.bundle_tree_parse.specs.declared.build.BuildError.TheVariants.{Form as NoTree, OutOfMemory as NoRoom}
use Rattle.bundle_json_document.specs.declared.error.DocumentError.{DocumentError}
use Rattle.bundle_json_document.specs.declared.error.DocumentError.TheVariants.{Form, OutOfMemory}

-- where a value is not read as the list of a tree
abbrev pub of_form : FormError → DocumentError
of_form NoForm = Form
of_form NoMemory = OutOfMemory

-- where a list gives no tree
abbrev pub of_list : BuildError → DocumentError
of_list NoTree = Form
of_list NoRoom = OutOfMemory

-- where it is not for want of memory, this is the reason
abbrev pub RefusesFor : Type 0 → DocumentError → Type 0
RefusesFor reason refusal = refusal ≡ Form → reason

-- nothing is so
abbrev pub NoneIs : {X : Type 0} → (X → Type 0) → Type 0
NoneIs {X = X} P = (x : X) → ¬ P x
