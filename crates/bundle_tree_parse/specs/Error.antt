-- The texts of the reasons why a list gives no tree.
use Rattle.std.specs.Prelude.{ℕ, List, codes}
use Rattle.bundle_tree_parse.specs.declared.build.BuildError.{BuildError}
use Rattle.bundle_tree_parse.specs.declared.build.BuildError.TheVariants.{Form, OutOfMemory}

abbrev pub shown : BuildError → List ℕ
shown Form = codes "not the list of a tree"
shown OutOfMemory = codes "out of memory"
