-- What is fit, and what is not.
use Rattle.std.proofs.Common.{false, List, [], ◌∷◌, codes, refl}
use Rattle.std.proofs.lemmas.Bool.{true≢false}
use Rattle.bundle_syntax.specs.declared.piece.Role.TheVariants as r
use Rattle.bundle_syntax.specs.Item as h
use Rattle.bundle_syntax.specs.Item.{Item}
use Rattle.bundle_rules.specs.Places.{start}
use Rattle.bundle_scope_names.specs.fit.Sorts.{AnItem, AStmt, AnArgument, AProperty}
use Rattle.bundle_scope_names.specs.fit.Fits.{IsFit, AreEach, ended, next}
use Rattle.bundle_scope_names.proofs.fit.Rows.{one, last, last_each, in_node, alone, are_plain}
use Rattle.bundle_scope_names.proofs.fit.Keys.{no_keys}

-- `use(x);`
call : List Item
call =
    h.Open 0 h.ExprStmt ∷ h.Open 0 h.CallExpr ∷ h.Ident 0 (codes "use") 0 r.Reference ∷ h.Open 1
    (h.ExprOrSpread false) ∷ h.Ident 1 (codes "x") 0 r.Reference ∷ h.Close ∷ h.Close ∷ h.Close ∷ []

argument : AreEach AnArgument 1
    (h.Open 1 (h.ExprOrSpread false) ∷ h.Ident 1 (codes "x") 0 r.Reference ∷ h.Close ∷ [])
argument =
    next (in_node 1 (h.ExprOrSpread false) refl (last (alone 1 (codes "x") 0 r.Reference refl)))
    ended

call_fits : IsFit AStmt 0 call
unfolding call
call_fits =
    in_node 0 h.ExprStmt refl
    (last (in_node 0 h.CallExpr refl (one (alone 0 (codes "use") 0 r.Reference refl) (last_each argument))))

-- a getter with a block as its key
getter : List Item
getter =
    h.Open 0 h.GetterProp ∷ h.Open 0 h.BlockStmt ∷ h.Close ∷ h.Open 1 h.BlockStmt ∷ h.Close ∷
    h.Close ∷ []

no_getter : IsFit AProperty 0 getter → ⊥
unfolding getter
no_getter it = true≢false (no_keys (last it) start refl).1.0

-- `export default { .. }` is no declaration
object_exported : List Item
object_exported = h.Open 0 h.ExportDefaultDecl ∷ h.Open 0 h.ObjectLit ∷ h.Close ∷ h.Close ∷ []

no_object_exported : IsFit AnItem 0 object_exported → ⊥
unfolding object_exported
no_object_exported it = true≢false (are_plain (last it)).0
