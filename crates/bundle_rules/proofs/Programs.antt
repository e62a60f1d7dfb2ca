-- Small programs, from which the examples are built: `main.js` has the number 0, `a.js`, `b.js` and `c.js` have 1, 2 and 3.
use Rattle.std.specs.Prelude.{Bool, true, false, List, [], ◌∷◌, ◌++◌, codes}
use Rattle.bundle_syntax.specs.Item.{Item}
use Rattle.bundle_tree_names.specs.FileName.{Name, real}
use Rattle.bundle_rules.specs.Nodes.{Text}
use Rattle.bundle_rules.specs.Entries.{Settings}
use Rattle.bundle_rules.specs.Program.{Loaded, Program}
use Rattle.bundle_rules.specs.Kept.{Asked, Kept, program_of}
use Rattle.bundle_rules.proofs.Trees.{module_of}

abbrev pub main_js : Name
main_js = real (codes "main.js")

abbrev pub a_js : Name
a_js = real (codes "a.js")

abbrev pub b_js : Name
b_js = real (codes "b.js")

abbrev pub c_js : Name
c_js = real (codes "c.js")

abbrev pub from : Name → Text → Asked
from file specifier = record { file = file; specifier = specifier }

abbrev pub loaded : Name → List Item → Loaded
loaded file items = record { file_name = file; items = module_of items }

-- each of `./main`, `./a`, `./b` and `./c` is the file of that name
abbrev pub resolved_from : Name → List (Asked × Name)
resolved_from file = (from file (codes "./main"), main_js) ∷ (from file (codes "./a"), a_js) ∷ (from file (codes "./b"), b_js) ∷ (from file (codes "./c"), c_js) ∷ []

abbrev pub kept_of : List Item → List Item → List Item → List Item → Kept
kept_of main a b c = record {
  names = main_js ∷ a_js ∷ b_js ∷ c_js ∷ [];
  trees = (main_js, loaded main_js main) ∷ (a_js, loaded a_js a) ∷ (b_js, loaded b_js b) ∷ (c_js, loaded c_js c) ∷ [];
  resolved = resolved_from main_js ++ resolved_from a_js ++ resolved_from b_js ++ resolved_from c_js;
}

-- `ext` is external
abbrev pub settings_with : Bool → Settings
settings_with require = record { require = require; external = codes "ext" ∷ []; iife = false; renames = true; most_modules = 9; in_standard_order = false }

-- the program with these modules, with `require` not linked
abbrev pub program : List Item → List Item → List Item → List Item → Program
program main a b c = program_of (kept_of main a b c) (settings_with false) 0

-- the same, with `require` linked
abbrev pub program_with_require : List Item → List Item → List Item → List Item → Program
program_with_require main a b c = program_of (kept_of main a b c) (settings_with true) 0
