-- Why the statement wants its premises, by the smallest examples.
use Rattle.std.proofs.Common.{◌≡◌, zero, true, List, [], ◌∷◌, Some, None, refl, codes}
use Rattle.bundle_syntax.specs.declared.piece.Role.TheVariants.{Binding, Reference}
use Rattle.bundle_syntax.specs.Item as h
use Rattle.bundle_syntax.specs.Item.{Item}
use Rattle.bundle_rules.specs.Scopes.{Es, Top, Inner, Parameters}
use Rattle.bundle_rules.specs.Declarations.{BySymbol}
use Rattle.bundle_rules.specs.Denotes.{Bound, Global, denoted_at}
use Rattle.bundle_rules.specs.Nodes.{side_by_side, parts}
use Rattle.bundle_rules.specs.Bound.{has_free}
use Rattle.bundle_rules.specs.Forms.{wrapped, function_body, returned_object}

-- `arguments;` has a free `arguments`, and in the call it is the function's
abbrev pub free_arguments : List Item
free_arguments =
    h.Open 0 h.Module ∷ h.Open 0 h.ExprStmt ∷ h.Ident 0 (codes "arguments") 0 Reference ∷ h.Close ∷
    h.Close ∷ []

arguments_are_free : has_free free_arguments (codes "arguments") ≡ true
arguments_are_free = refl

arguments_denote : denoted_at BySymbol Es free_arguments 2 ≡ Some (Global (codes "arguments"))
arguments_denote = refl

arguments_in_the_call : denoted_at BySymbol Es (wrapped free_arguments) 8 ≡
    Some (Bound (Inner Parameters 5) (record { sym = codes "arguments"; ctxt = None }))
arguments_in_the_call = refl

-- A list that is no tree: the object that is returned is no item of the body.

abbrev open_statement : List Item
open_statement = h.Open 0 h.Module ∷ h.Open 0 h.ExprStmt ∷ h.Ident 0 (codes "x") 0 Reference ∷ []

one_item : side_by_side zero (function_body (parts open_statement)) ≡
    (h.Open 0 h.ExprStmt ∷ h.Ident 0 (codes "x") 0 Reference ∷ returned_object []) ∷ []
one_item = refl

-- A parameter outside of functions belongs to the module's top, and in the call to the function's
-- parameters.

abbrev loose_parameter : List Item
loose_parameter =
    h.Open 0 h.Module ∷ h.Open 0 h.Param ∷ h.Open 0 h.BindingIdent ∷ h.Ident 0 (codes "x") 0 Binding
    ∷ h.Close ∷ h.Close ∷ h.Close ∷ []

parameter_of_the_top : denoted_at BySymbol Es loose_parameter 3 ≡
    Some (Bound Top (record { sym = codes "x"; ctxt = None }))
parameter_of_the_top = refl

parameter_of_the_call : denoted_at BySymbol Es (wrapped loose_parameter) 9 ≡
    Some (Bound (Inner Parameters 5) (record { sym = codes "x"; ctxt = None }))
parameter_of_the_call = refl

-- A nameless default belongs to the module's top, and in the call still to the top of the tree.

abbrev inner_default : List Item
inner_default =
    h.Open 0 h.Module ∷ h.Open 0 h.BlockStmt ∷ h.Open 0 h.ExportDefaultExpr ∷ h.Ident 0
    (codes "default") 0 Reference ∷ h.Close ∷ h.Close ∷ h.Close ∷ []

default_of_the_top : denoted_at BySymbol Es inner_default 3 ≡
    Some (Bound Top (record { sym = codes "default"; ctxt = None }))
default_of_the_top = refl

default_in_the_call : denoted_at BySymbol Es (wrapped inner_default) 9 ≡
    Some (Bound Top (record { sym = codes "default"; ctxt = None }))
default_in_the_call = refl
