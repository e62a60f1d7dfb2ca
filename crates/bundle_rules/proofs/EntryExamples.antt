-- Examples of requests, imports and exports.
use Rattle.std.specs.Prelude.{◌≡◌, ℕ, Bool, true, false, [], ◌∷◌, ◌++◌, codes, refl}
use Rattle.bundle_syntax.specs.Item as h
use Rattle.bundle_rules.specs.Entries.{Named, Whole, Local, Indirect, Star, imports_of, exports_of, requests_of, Settings, is_script}
use Rattle.bundle_rules.proofs.Trees.{node, module_of, number, exports_const, imports, imports_all, exports_all, exports_from, exports_all_as, exports_name, exports_default, runs, calls, requires, uses, string, argument}

-- `require` is linked, and `ext` is external
abbrev linked : Settings
linked = record { require = true; external = codes "ext" ∷ []; iife = false; renames = true; most_modules = 9; in_standard_order = false }

-- nothing is bound
abbrev all_free : ℕ → Bool
all_free place = true

-- `import { x as y } from './a'; import * as n from './b';`
two_imports : imports_of (module_of (imports (codes "x") (codes "y") (codes "./a") ++ imports_all (codes "n") (codes "./b"))) ≡ record { local = codes "y"; specifier = codes "./a"; taken = Named (codes "x") } ∷ record { local = codes "n"; specifier = codes "./b"; taken = Whole } ∷ []
two_imports = refl

-- `export const x = 1;`, `export default 5;`, `export { p as q } from './a';`, `export * as n from './b';`, `export * from './c';`
five_exports : exports_of (module_of (exports_const (codes "x") (number 1 (codes "1")) ++ exports_default (number 0 (codes "5")) ++ exports_from (codes "p") (codes "q") (codes "./a") ++ exports_all_as (codes "n") (codes "./b") ++ exports_all (codes "./c"))) ≡ Local (codes "x") (codes "x") ∷ Local (codes "default") (codes "default") ∷ Indirect (codes "q") (codes "./a") (Named (codes "p")) ∷ Indirect (codes "n") (codes "./b") Whole ∷ Star (codes "./c") ∷ []
five_exports = refl

-- `import { x as d } from './a'; export { d as e };` gives on what it imports, as an indirect entry
given_on_by_name : exports_of (module_of (imports (codes "x") (codes "d") (codes "./a") ++ exports_name (codes "d") (codes "e"))) ≡ Indirect (codes "e") (codes "./a") (Named (codes "x")) ∷ []
given_on_by_name = refl

-- `import * as ns from './a'; export { ns as e };` is local
namespace_stays_local : exports_of (module_of (imports_all (codes "ns") (codes "./a") ++ exports_name (codes "ns") (codes "e"))) ≡ Local (codes "e") (codes "ns") ∷ []
namespace_stays_local = refl

-- `require('./b'); import './a'; export * from 'ext'; require('ext'); require('./b'); require('./b', 1); f('./c');`
requests_in_order : requests_of linked all_free (module_of (requires (codes "./b") ++ imports (codes "x") (codes "x") (codes "./a") ++ exports_all (codes "ext") ++ requires (codes "ext") ++ requires (codes "./b") ++ runs (node 0 h.CallExpr (uses 0 (codes "require") ++ argument (string 1 (codes "./z")) ++ argument (number 1 (codes "1")))) ++ calls (codes "f") (string 1 (codes "./c")))) ≡ codes "./a" ∷ codes "./b" ∷ []
requests_in_order = refl

-- where the name `require` is bound, its calls ask for nothing
bound_require : requests_of linked (λ place. false) (module_of (requires (codes "./b"))) ≡ []
bound_require = refl

-- `f(1);` is a script
script : is_script (module_of (calls (codes "f") (number 1 (codes "1")))) ≡ true
script = refl
