-- What is owed by the calls that build what a linker adds: each item has its form, with the
-- identifiers that are handed in; and what a bundle is that is one function's call (ECMA-262,
-- 13.2.5, 15.8, 16.2.3).
use Rattle.std.specs.Prelude.{◌≡◌, zero, suc, Bool, true, false, IsTrue, List, [], ◌∷◌, ◌++◌, None, flat_map, map, bytes_eq, unwrap_or, codes, if◌then◌else◌}
use Rattle.std.specs.Map.{lookup}
use Rattle.std.specs.Cmp.Lexicographic.{slice_cmp}
use Rattle.std.specs.Ordering.{nat_cmp}
use Rattle.std.specs.declared.cmp.Ordering.{Ordering}
use Rattle.std.specs.declared.cmp.Ordering.TheVariants.{Less, Equal, Greater}
use Rattle.bundle_syntax.specs.declared.piece.Role.TheVariants.{Reference}
use Rattle.bundle_syntax.specs.Item as h
use Rattle.bundle_syntax.specs.Item.{Item, Head}
use Rattle.bundle_rules.specs.Nodes.{Text, begins_with, child, in_field, name_of, parts}
use Rattle.bundle_rules.specs.Cleared.{without_notes}
use Rattle.bundle_rules.specs.Idents.{Ident, idents}
use Rattle.bundle_rules.specs.Marks.{Begins, Ends, Empty, Name, Word}
use Rattle.bundle_rules.specs.Shape.{Outline, shape}
use Rattle.bundle_rules.specs.Rebuilds.{plain_key}
use Rattle.bundle_rules.specs.Awaits.{awaits_outside}
use Rattle.bundle_rules.specs.Sorting.{is_injected}
use Rattle.bundle_rules.specs.Linking.{Declared}
use Rattle.bundle_rules.specs.Meaning.{Of, Parameter, Helper, Meant, Inside, Known, Unbound, Mark}
use Rattle.bundle_rules.specs.Injected.{helper_function, namespace_object, load_front, is_ascii_identifier}
use Rattle.bundle_rules.specs.Bundle.{Form, AsModule, AsCall, function_front, function_back}

-- what the names of a form mean, in their order
abbrev pub names_in : List Mark → List Meant
names_in [] = []
names_in (Name field meant ∷ rest) = meant ∷ names_in rest
names_in (Begins field head ∷ rest) = names_in rest
names_in (Ends ∷ rest) = names_in rest
names_in (Empty field ∷ rest) = names_in rest
names_in (Word field x ∷ rest) = names_in rest

-- the form without its names
abbrev pub form_shape : List Mark → List Outline
form_shape [] = []
form_shape (Name field meant ∷ rest) = Name field tt ∷ form_shape rest
form_shape (Begins field head ∷ rest) = Begins field head ∷ form_shape rest
form_shape (Ends ∷ rest) = Ends ∷ form_shape rest
form_shape (Empty field ∷ rest) = Empty field ∷ form_shape rest
form_shape (Word field x ∷ rest) = Word field x ∷ form_shape rest

-- what is built has the form, with these identifiers for what its names mean
pub record IsBuilt (form : List Mark) (ident_for : Meant → Ident) (items : List Item) : Type 0 where
  pub its_shape : shape items ≡ form_shape form
  pub names : idents items ≡ map ident_for (names_in form)

-- the helper, with identifiers for itself, its parameter and its variable
abbrev pub helper_ident : Ident → Ident → Ident → Meant → Ident
helper_ident helper fn its_module (Inside zero) = fn
helper_ident helper fn its_module (Inside (suc n)) = its_module
helper_ident helper fn its_module (Known l) = helper
helper_ident helper fn its_module (Unbound x) = helper

-- the helper, with nothing noted
pub record IsHelperItem (helper fn its_module : Ident) (item : List Item) : Type 0 where
  pub built : IsBuilt helper_function (helper_ident helper fn its_module) item
  pub unnoted : item ≡ without_notes item

-- the identifier that stands for a name of a namespace; the object's own for all else
abbrev pub property_ident : Ident → List (Text × Ident) → Meant → Ident
property_ident object pairs (Known (Of (Declared m x))) =
    unwrap_or (lookup (bytes_eq x) pairs) object
property_ident object pairs _ = object

-- the object of a namespace, with these identifiers for its names; the linker notes it as its own
pub record IsNamespaceItem
    (object : Ident) (pairs : List (Text × Ident)) (item : List Item) : Type 0 where
  pub built :
      IsBuilt (namespace_object 0 (map (λ pair. (pair.0, Declared 0 pair.0)) pairs))
      (property_ident object pairs) item
  pub noted : IsTrue (is_injected item)

-- the identifiers in front of the statements of a load function
abbrev pub front_ident : Ident → Ident → Ident → Ident → Meant → Ident
front_ident load helper its_module its_exports (Known Helper) = helper
front_ident load helper its_module its_exports (Known (Parameter c x)) =
    if bytes_eq x (codes "module") then its_module else its_exports
front_ident load helper its_module its_exports _ = load

-- the load function of these statements, with nothing noted beside them: it is an item of its
-- module, and not free
pub record IsLoadItem
    (load helper its_module its_exports : Ident) (stmts item : List Item) : Type 0 where
  pub front : List Item
  pub back : List Item
  pub is : item ≡ front ++ (stmts ++ back)
  pub built : IsBuilt (load_front 0) (front_ident load helper its_module its_exports) front
  pub unnoted : front ≡ without_notes front
  pub ends : back ≡ h.Close ∷ h.Close ∷ h.Close ∷ h.Close ∷ h.Close ∷ h.Close ∷ h.Close ∷ []

-- One function's call.

-- whether such a node is a list of exports
abbrev pub is_export_list : Head → Bool
is_export_list (h.NamedExport meta) = true
is_export_list _ = false

-- the identifier that a list begins with
abbrev pub ident_in : List Item → Ident
ident_in (h.Ident field sym ctxt role ∷ rest) = (sym, ctxt)
ident_in _ = ([], 0)

-- `l as x`, as the name x with the identifier l; where it is `l` alone that is the name
abbrev pub exported_pair : List Item → Text × Ident
exported_pair specifier =
    let l : Ident = ident_in (child 0 specifier) in (unwrap_or (name_of (child 1 specifier)) l.0, l)

-- whether one comes before another
abbrev pub is_less : Ordering → Bool
is_less Less = true
is_less Equal = false
is_less Greater = false

-- a pair more, at its place by the name
abbrev pub put_by_name : Text × Ident → List (Text × Ident) → List (Text × Ident)
put_by_name pair [] = pair ∷ []
put_by_name pair (other ∷ rest) =
    if is_less (slice_cmp nat_cmp other.0 pair.0)
    then other ∷ put_by_name pair rest
    else pair ∷ other ∷ rest

-- the pairs with their names ascending, byte by byte
abbrev pub by_names : List (Text × Ident) → List (Text × Ident)
by_names [] = []
by_names (pair ∷ rest) = put_by_name pair (by_names rest)

-- the exports of a list of exports, with their names ascending
abbrev pub exported_pairs : List Item → List (Text × Ident)
exported_pairs list = by_names (map exported_pair (in_field 0 list))

-- a key of an object that is returned; `__proto__` is computed
abbrev pub returned_key : Text → List Item
returned_key x =
    if bytes_eq x (codes "__proto__")
    then h.Open 0 h.ComputedPropName ∷ h.Open 0 (h.Str x None) ∷ h.Close ∷ h.Close ∷ []
    else (if is_ascii_identifier x then plain_key x else h.Open 0 (h.Str x None) ∷ h.Close ∷ [])

-- `x: l`
abbrev pub returned_property : Text × Ident → List Item
returned_property pair =
    h.Open 0 h.KeyValueProp
    ∷ (returned_key pair.0 ++ h.Ident 1 pair.1.0 pair.1.1 Reference ∷ h.Close ∷ [])

-- `return { x: l, .. };`
abbrev pub returned_object : List (Text × Ident) → List Item
returned_object pairs =
    h.Open 0 h.ReturnStmt ∷ h.Open 0 h.ObjectLit
    ∷ (flat_map returned_property pairs ++ h.Close ∷ h.Close ∷ [])

-- the items of a module as the body of a function: in the place of the list of exports, which is
-- the last item, or else behind them, the object of the exports is returned
abbrev pub function_body : List (List Item) → List Item
function_body [] = returned_object []
function_body (item ∷ rest) =
    if begins_with is_export_list item
    then returned_object (exported_pairs item)
    else item ++ function_body rest

-- a body in one function that is called, async exactly where something in it awaits outside
-- functions
abbrev pub called_function : List Item → List Item
called_function body = function_front (awaits_outside body) ++ (body ++ function_back)

-- a module as one function's call. The caller sees to it that no import or export stands in it but
-- perhaps a list of exports without `from`, as the last item
abbrev pub wrapped : List Item → List Item
wrapped tree = called_function (function_body (parts tree))

-- a module in this form
abbrev pub in_form : Form → List Item → List Item
in_form AsModule tree = tree
in_form AsCall tree = wrapped tree
