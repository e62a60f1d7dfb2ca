-- Small lists, and what stands where in them.
use Rattle.std.specs.Prelude.{◌≡◌, false, List, [], ◌∷◌, codes}
use mathlib.Core.Path.{refl}
use Rattle.bundle_syntax.specs.declared.piece.Role.TheVariants as r
use Rattle.bundle_syntax.specs.Item as h
use Rattle.bundle_syntax.specs.Item.{Item, Head}
use Rattle.bundle_rules.specs.Places.{path_at}

-- the list of `f(x);`
abbrev call : List Item
call =
    h.Open 0 h.Module
    ∷ h.Open 0 h.ExprStmt
    ∷ h.Open 0 h.CallExpr
    ∷ h.Ident 0 (codes "f") 0 r.Reference
    ∷ h.Open 1 (h.ExprOrSpread false)
    ∷ h.Ident 1 (codes "x") 0 r.Reference
    ∷ h.Close
    ∷ h.Close
    ∷ h.Close
    ∷ h.Close
    ∷ []

-- at `x` four nodes are open, and it lies in the arguments of the call
path_of_the_argument : path_at call 5 ≡ record { head = h.ExprOrSpread false; begins = 4; field = 1 }
    ∷ record { head = h.CallExpr; begins = 2; field = 1 }
    ∷ record { head = h.ExprStmt; begins = 1; field = 0 }
    ∷ record { head = h.Module; begins = 0; field = 0 }
    ∷ []
path_of_the_argument = refl

-- at `f` the call is the innermost node, and `f` lies in its first field
path_of_the_callee : path_at call 3 ≡ record { head = h.CallExpr; begins = 2; field = 0 }
    ∷ record { head = h.ExprStmt; begins = 1; field = 0 }
    ∷ record { head = h.Module; begins = 0; field = 0 }
    ∷ []
path_of_the_callee = refl
