-- Examples of marks, and of trees with other identifiers: one of each form that is spelled out, and of what is not.
use Rattle.std.specs.Prelude.{◌≡◌, true, false, List, [], ◌∷◌, ◌++◌, Some, None, codes}
use Rattle.std.proofs.Common.{refl}
use Rattle.bundle_syntax.specs.declared.kind.VarDeclKind.TheVariants.{Var}
use Rattle.bundle_syntax.specs.declared.piece.Role.TheVariants.{Binding, Reference}
use Rattle.bundle_syntax.specs.Item as h
use Rattle.bundle_syntax.specs.Item.{Item}
use Rattle.bundle_rules.specs.Nodes.{Text}
use Rattle.bundle_rules.specs.Statements.{no_notes}
use Rattle.bundle_rules.specs.Shape.{shape}
use Rattle.bundle_rules.specs.Idents.{Ident}
use Rattle.bundle_rules.specs.Rebuilds.{Begins, BeginsWord, Ends, Occurs, marks_of, listed, with_idents, renamed_by, with_pair, renamed_all, followed_by, found, Renaming, RenamingsCompose}
use Rattle.bundle_rules.proofs.Trees.{node, binds, uses, names, word, string, number, imports, exports_name, calls, runs}

abbrev x : Text
x = codes "x"

abbrev y : Text
y = codes "y"

abbrev proto : Text
proto = codes "__proto__"

-- an identifier with context 0
abbrev plain : Text → Ident
plain sym = (sym, 0)

-- Marks.

-- `f(x);`
marks_of_call : marks_of (calls (codes "f") (uses 1 x)) ≡ Begins 0 h.ExprStmt ∷ Begins 0 h.CallExpr ∷ Occurs (plain (codes "f")) false ∷ Begins 1 (h.ExprOrSpread false) ∷ Occurs (plain x) false ∷ Ends ∷ Ends ∷ Ends ∷ []
marks_of_call = refl

-- of `import { x as y } from './a';` the word x is a node, and y occurs and binds
marks_of_import : marks_of (imports x y (codes "./a")) ≡ Begins 0 (h.ImportDecl no_notes) ∷ Begins 0 h.ImportNamedSpecifier ∷ Occurs (plain y) true ∷ BeginsWord 1 x ∷ Ends ∷ Ends ∷ Begins 1 (h.Str (codes "./a") None) ∷ Ends ∷ Ends ∷ []
marks_of_import = refl

listed_of_import : listed (imports x y (codes "./a")) ≡ (plain y, true) ∷ []
listed_of_import = refl

-- Shorthands of object literals.

-- `({ y, .. });`
abbrev object_of : List Item → List Item
object_of props = runs (node 0 h.ParenExpr (node 0 h.ObjectLit props))

-- `({ x });` with y is `({ x: y });`
object_pair : with_idents (object_of (uses 0 x)) (plain y ∷ []) ≡ object_of (node 0 h.KeyValueProp (word 0 x ++ uses 1 y))
object_pair = refl

-- `({ __proto__ });` with y is `({ ["__proto__"]: y });`
computed_pair : with_idents (object_of (uses 0 proto)) (plain y ∷ []) ≡ object_of (node 0 h.KeyValueProp (node 0 h.ComputedPropName (string 0 proto) ++ uses 1 y))
computed_pair = refl

-- where the context alone changes the shorthand stays
object_stays : with_idents (object_of (uses 0 x)) ((x, 7) ∷ []) ≡ object_of (h.Ident 0 x 7 Reference ∷ [])
object_stays = refl

-- a pair keeps its key: `({ x: x });` with y is `({ x: y });`
key_stays : with_idents (object_of (node 0 h.KeyValueProp (word 0 x ++ uses 1 x))) (plain y ∷ []) ≡ object_of (node 0 h.KeyValueProp (word 0 x ++ uses 1 y))
key_stays = refl

-- Shorthands of patterns.

-- a shorthand in a pattern, perhaps with a default
abbrev short : Text → List Item → List Item
short name default = node 0 h.AssignPatProp (node 0 h.BindingIdent (binds 0 name) ++ default)

-- `var { .. } = o;`
abbrev pattern_of : List Item → List Item
pattern_of props = node 0 (h.VarDecl Var no_notes) (node 1 h.VarDeclarator (node 0 h.ObjectPat props ++ uses 1 (codes "o")))

-- `var { x } = o;` with y is `var { x: y } = o;`
pattern_pair : with_idents (pattern_of (short x [])) (plain y ∷ plain (codes "o") ∷ []) ≡ pattern_of (node 0 h.KeyValuePatProp (word 0 x ++ node 1 h.BindingIdent (binds 0 y)))
pattern_pair = refl

-- `var { x = 1 } = o;` with y is `var { x: y = 1 } = o;`
default_kept : with_idents (pattern_of (short x (number 1 (codes "1")))) (plain y ∷ plain (codes "o") ∷ []) ≡ pattern_of (node 0 h.KeyValuePatProp (word 0 x ++ node 1 h.AssignPat (node 0 h.BindingIdent (binds 0 y) ++ number 1 (codes "1"))))
default_kept = refl

-- in a pattern `__proto__` is a key like any other
proto_in_pattern : with_idents (pattern_of (short proto [])) (plain y ∷ plain (codes "o") ∷ []) ≡ pattern_of (node 0 h.KeyValuePatProp (word 0 proto ++ node 1 h.BindingIdent (binds 0 y)))
proto_in_pattern = refl

-- where the context alone changes it stays
pattern_stays : with_idents (pattern_of (short x (number 1 (codes "1")))) ((x, 7) ∷ plain (codes "o") ∷ []) ≡ pattern_of (node 0 h.AssignPatProp (node 0 h.BindingIdent (h.Ident 0 x 7 Binding ∷ []) ++ number 1 (codes "1")))
pattern_stays = refl

-- one in the other: `var { x = { y } } = o;` with y and x is `var { x: y = { y: x } } = o;`
both_spelled_out : with_idents (pattern_of (short x (node 1 h.ObjectLit (uses 0 y)))) (plain y ∷ plain x ∷ plain (codes "o") ∷ []) ≡ pattern_of (node 0 h.KeyValuePatProp (word 0 x ++ node 1 h.AssignPat (node 0 h.BindingIdent (binds 0 y) ++ node 1 h.ObjectLit (node 0 h.KeyValueProp (word 0 y ++ uses 1 x)))))
both_spelled_out = refl

-- two of them: `var { x = 1, y } = o;` with contexts for x and another symbol for y
second_spelled_out : with_idents (pattern_of (short x (number 1 (codes "1")) ++ short y [])) ((x, 7) ∷ plain proto ∷ plain (codes "o") ∷ []) ≡ pattern_of (node 0 h.AssignPatProp (node 0 h.BindingIdent (h.Ident 0 x 7 Binding ∷ []) ++ number 1 (codes "1")) ++ node 0 h.KeyValuePatProp (word 0 y ++ node 1 h.BindingIdent (binds 0 proto)))
second_spelled_out = refl

-- Specifiers.

-- `import { .. } from './a';` and `export { .. };`
abbrev import_of : List Item → List Item
import_of specifier = node 0 (h.ImportDecl no_notes) (node 0 h.ImportNamedSpecifier specifier ++ string 1 (codes "./a"))

abbrev export_of : List Item → List Item
export_of specifier = node 0 (h.NamedExport no_notes) (node 0 h.ExportNamedSpecifier specifier)

-- `import { x } from './a';` with y is `import { x as y } from './a';`
import_named : with_idents (import_of (binds 0 x)) (plain y ∷ []) ≡ imports x y (codes "./a")
import_named = refl

-- `export { x };` with y is `export { y as x };`
export_named : with_idents (export_of (uses 0 x)) (plain y ∷ []) ≡ exports_name y x
export_named = refl

-- a specifier of one name stays one where the context alone changes
import_stays : with_idents (import_of (binds 0 x)) ((x, 7) ∷ []) ≡ import_of (h.Ident 0 x 7 Binding ∷ [])
import_stays = refl

-- a name that is written stays: `import { x as x } from './a';` with y, and `export { x as "a-b" };` with y
name_stays : with_idents (imports x x (codes "./a")) (plain y ∷ []) ≡ imports x y (codes "./a")
name_stays = refl

string_stays : with_idents (export_of (uses 0 x ++ string 1 (codes "a-b"))) (plain y ∷ []) ≡ export_of (uses 0 y ++ string 1 (codes "a-b"))
string_stays = refl

-- `export { x } from './a';` has no occurrence, and stays
abbrev re_export : List Item
re_export = node 0 (h.NamedExport no_notes) (node 0 h.ExportNamedSpecifier (names 0 x) ++ string 1 (codes "./a"))

re_export_stays : renamed_by ((plain x, plain y) ∷ []) re_export ≡ re_export
re_export_stays = refl

-- Maps.

-- `x; ({ x });` by a map of x to y; an x of another context stays
mapped : renamed_by ((plain x, plain y) ∷ []) (runs (uses 0 x) ++ runs (h.Ident 0 x 7 Reference ∷ []) ++ object_of (uses 0 x)) ≡ runs (uses 0 y) ++ runs (h.Ident 0 x 7 Reference ∷ []) ++ object_of (node 0 h.KeyValueProp (word 0 x ++ uses 1 y))
mapped = refl

-- One renaming after the other.

-- `__default` becomes `default`, and that again `__default`
abbrev first : Renaming
first = with_pair [] (codes "__default", 2) (codes "default", 4)

abbrev second : Renaming
second = with_pair [] (codes "default", 4) (codes "__default", 4)

-- `use({ __default });` becomes `use({ __default: __default });`: a step changed the symbol, though both together do not
abbrev use_of : List Item → List Item
use_of prop = calls (codes "use") (node 1 h.ObjectLit prop)

spelled_out_by_both : renamed_all (followed_by first second) (use_of (h.Ident 0 (codes "__default") 2 Reference ∷ [])) ≡ use_of (node 0 h.KeyValueProp (word 0 (codes "__default") ++ h.Ident 1 (codes "__default") 4 Reference ∷ []))
spelled_out_by_both = refl

law_holds_there : RenamingsCompose first second (use_of (h.Ident 0 (codes "__default") 2 Reference ∷ []))
law_holds_there = refl

-- of a pattern with a default, and of a specifier
law_of_pattern : RenamingsCompose (with_pair [] (plain x) (plain y)) (with_pair (with_pair [] (plain y) (plain x)) (plain (codes "o")) (plain proto)) (pattern_of (short x (number 1 (codes "1"))))
law_of_pattern = refl

law_of_import : RenamingsCompose (with_pair [] (plain x) (x, 7)) (with_pair [] (x, 7) (plain y)) (import_of (binds 0 x))
law_of_import = refl

-- the later pair of an identifier counts
later_pair : found (with_pair (with_pair [] (plain x) (plain y)) (plain x) (plain proto)) (plain x) ≡ Some (plain proto)
later_pair = refl

-- What is spelled out keeps its shape.

shape_of_object : shape (with_idents (object_of (uses 0 proto)) (plain y ∷ [])) ≡ shape (object_of (uses 0 proto))
shape_of_object = refl

shape_of_pattern : shape (with_idents (pattern_of (short x (node 1 h.ObjectLit (uses 0 y)))) (plain y ∷ plain x ∷ plain (codes "o") ∷ [])) ≡ shape (pattern_of (short x (node 1 h.ObjectLit (uses 0 y))))
shape_of_pattern = refl

shape_of_import : shape (with_idents (import_of (binds 0 x)) (plain y ∷ [])) ≡ shape (import_of (binds 0 x))
shape_of_import = refl

shape_of_export : shape (with_idents (export_of (uses 0 x)) (plain y ∷ [])) ≡ shape (export_of (uses 0 x))
shape_of_export = refl
