-- Bundles that are one function's call, and forms that are built.
use Rattle.std.proofs.Common.{◌≡◌, false, List, [], ◌++◌, refl}
use Rattle.std.specs.Prelude.{codes}
use Rattle.bundle_syntax.specs.Item as h
use Rattle.bundle_syntax.specs.Item.{Item}
use Rattle.bundle_rules.specs.Statements.{no_notes}
use Rattle.bundle_rules.specs.Bundle.{AsModule}
use Rattle.bundle_rules.specs.Forms.{wrapped, in_form, called_function}
use Rattle.bundle_rules.proofs.Trees.{node, module_of, uses, names, word, string, number, exports_name, runs, calls}

abbrev call : List Item
call = calls (codes "f") (number 1 (codes "1"))

-- `return { .. };`
abbrev returns : List Item → List Item
returns props = node 0 h.ReturnStmt (node 0 h.ObjectLit props)

-- `f(1);` is `(function () { f(1); return {}; })();`
without_exports : wrapped (module_of call) ≡ called_function (call ++ returns [])
without_exports = refl

its_text : wrapped (module_of call) ≡ module_of (runs (node 0 h.CallExpr (node 0 h.ParenExpr (node 0 h.FnExpr (node 1 (h.Function false false) (node 1 h.BlockStmt (call ++ returns [])))))))
its_text = refl

-- `export { p as __proto__ };`
abbrev exports_proto : List Item
exports_proto = exports_name (codes "p") (codes "__proto__")

proto_is_computed : wrapped (module_of (call ++ exports_proto)) ≡ called_function (call ++ returns (node 0 h.KeyValueProp (node 0 h.ComputedPropName (string 0 (codes "__proto__")) ++ uses 1 (codes "p"))))
proto_is_computed = refl

-- `export { p as b, q as a };`: keys stand in the order of their names
abbrev exports_two : List Item
exports_two = node 0 (h.NamedExport no_notes) (node 0 h.ExportNamedSpecifier (uses 0 (codes "p") ++ names 1 (codes "b")) ++ node 0 h.ExportNamedSpecifier (uses 0 (codes "q") ++ names 1 (codes "a")))

keys_ascend : wrapped (module_of (call ++ exports_two)) ≡ called_function (call ++ returns (node 0 h.KeyValueProp (word 0 (codes "a") ++ uses 1 (codes "q")) ++ node 0 h.KeyValueProp (word 0 (codes "b") ++ uses 1 (codes "p"))))
keys_ascend = refl

-- `export { p as "a-b" };` and `export { p };`
exports_string : wrapped (module_of (node 0 (h.NamedExport no_notes) (node 0 h.ExportNamedSpecifier (uses 0 (codes "p") ++ string 1 (codes "a-b"))))) ≡ called_function (returns (node 0 h.KeyValueProp (string 0 (codes "a-b") ++ uses 1 (codes "p"))))
exports_string = refl

exports_its_name : wrapped (module_of (node 0 (h.NamedExport no_notes) (node 0 h.ExportNamedSpecifier (uses 0 (codes "p"))))) ≡ called_function (returns (node 0 h.KeyValueProp (word 0 (codes "p") ++ uses 1 (codes "p"))))
exports_its_name = refl

-- a module stays as it is
as_module : in_form AsModule (module_of (call ++ exports_two)) ≡ module_of (call ++ exports_two)
as_module = refl
