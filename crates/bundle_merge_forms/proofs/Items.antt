-- The items that are added have their forms.
use Rattle.std.proofs.Common.{◌≡◌, ◌∙◌, ap, refl, List, [], ◌∷◌, ◌++◌, append_assoc, false, subst, sym}
use Rattle.bundle_syntax.specs.declared.kind.VarDeclKind.TheVariants.{Var}
use Rattle.bundle_syntax.specs.declared.piece.Role.TheVariants.{Binding, Reference}
use Rattle.bundle_syntax.specs.Item as h
use Rattle.bundle_syntax.specs.Item.{Item}
use Rattle.bundle_rules.specs.Nodes.{Text}
use Rattle.bundle_rules.specs.Idents.{Ident}
use Rattle.bundle_rules.specs.Statements.{no_notes}
use Rattle.bundle_rules.specs.Forms.{IsHelperItem, IsLoadItem, IsNamespaceItem}
use Rattle.bundle_merge_injected.specs.Listed.{helper_function, load_function, namespace_object, named, pattern_of, parameter}
use Rattle.bundle_merge_forms.specs.Named.{AreExportsApart, injected}
use Rattle.bundle_merge_forms.proofs.Objects.{namespace_is_built}

-- what stands in front of the statements of a load function
abbrev load_front : Ident → Ident → Ident → Ident → List Item
load_front load helper m e =
    h.Open 0 (h.VarDecl Var no_notes) ∷ h.Open 1 h.VarDeclarator ∷ (pattern_of 0 Binding load
    ++ h.Open 1 h.CallExpr ∷ (named 0 Reference helper
    ++ h.Open 1 (h.ExprOrSpread false) ∷ h.Open 1 h.FnExpr ∷ h.Open 1 (h.Function false false) ∷ (parameter m
    ++ parameter e ++ h.Open 1 h.BlockStmt ∷ [])))

pub helper_is_built : (helper fn its_module : Ident) → IsHelperItem helper fn its_module (helper_function helper fn its_module)
helper_is_built helper fn its_module = record { built = record { its_shape = refl; names = refl }; unnoted = refl }

pub load_is_built : (load helper its_module its_exports : Ident) (stmts : List Item) → IsLoadItem load helper its_module its_exports stmts (load_function load helper its_module its_exports stmts)
load_is_built load helper its_module its_exports stmts = record { front = load_front load helper its_module its_exports; back = h.Close ∷ h.Close ∷ h.Close ∷ h.Close ∷ h.Close ∷ h.Close ∷ h.Close ∷ []; is = simp append_assoc; built = record { its_shape = refl; names = refl }; unnoted = refl; ends = refl }

-- the same of a list that is known to be this one
pub helper_item : (helper fn its_module : Ident) (items : List Item) → items ≡ helper_function helper fn its_module → IsHelperItem helper fn its_module items
helper_item helper fn its_module items is = subst (IsHelperItem helper fn its_module) (sym is) (helper_is_built helper fn its_module)

pub load_item : (load helper its_module its_exports : Ident) (stmts items : List Item) → items ≡ load_function load helper its_module its_exports stmts → IsLoadItem load helper its_module its_exports stmts items
load_item load helper its_module its_exports stmts items is = subst (IsLoadItem load helper its_module its_exports stmts) (sym is) (load_is_built load helper its_module its_exports stmts)

pub namespace_item : (object : Ident) (pairs : List (Text × Ident)) (items : List Item) → items ≡ namespace_object injected object pairs → AreExportsApart pairs → IsNamespaceItem object pairs items
namespace_item object pairs items is apart = subst (IsNamespaceItem object pairs) (sym is) (namespace_is_built object pairs apart)

-- the same of names that stand for these identifiers
pub helper_named : (items : List Item) (a b d helper fn its_module : Ident) → items ≡ helper_function a b d → a ≡ helper → b ≡ fn → d ≡ its_module → items ≡ helper_function helper fn its_module
helper_named items a b d helper fn its_module is first second third =
    is ∙ ap (λ (l : Ident). helper_function l b d) first ∙ ap (λ (l : Ident). helper_function helper l d) second ∙ ap (λ (l : Ident). helper_function helper fn l) third

pub load_named : (stmts items : List Item) (a b d e load helper its_module its_exports : Ident) → items ≡ load_function a b d e stmts → a ≡ load → b ≡ helper → d ≡ its_module → e ≡ its_exports → items ≡ load_function load helper its_module its_exports stmts
load_named stmts items a b d e load helper its_module its_exports is first second third fourth =
    is ∙ ap (λ (l : Ident). load_function l b d e stmts) first ∙ ap (λ (l : Ident). load_function load l d e stmts) second
    ∙ ap (λ (l : Ident). load_function load helper l e stmts) third ∙ ap (λ (l : Ident). load_function load helper its_module l stmts) fourth

pub namespace_named : (items : List Item) (a object : Ident) (some pairs : List (Text × Ident)) → items ≡ namespace_object injected a some → a ≡ object → some ≡ pairs → items ≡ namespace_object injected object pairs
namespace_named items a object some pairs is first second =
    is ∙ ap (λ (l : Ident). namespace_object injected l some) first ∙ ap (namespace_object injected object) second
