-- Small trees: what is spelled out twice, and where a symbol that comes back would be told
-- otherwise.
use Rattle.std.proofs.Common.{◌≡◌, List, [], ◌∷◌, codes, refl}
use Rattle.bundle_syntax.specs.declared.piece.Role.TheVariants as r
use Rattle.bundle_syntax.specs.Item as h
use Rattle.bundle_syntax.specs.Item.{Item}
use Rattle.bundle_rules.specs.Rebuilds.{with_idents}

-- `({ await })`
object : List Item
object =
    h.Open 0 h.Module ∷ h.Open 0 h.ExprStmt ∷ h.Open 0 h.ObjectLit ∷ h.Ident 0 (codes "await") 4
    r.Reference ∷ h.Close ∷ h.Close ∷ h.Close ∷ []

-- `export { await }`, where the specifier has one name
exported : List Item
exported =
    h.Open 0 h.Module ∷ h.Open 0 h.ExportNamedSpecifier ∷ h.Ident 0 (codes "await") 4 r.Reference ∷
    h.Close ∷ h.Close ∷ []

-- `({ await })` becomes `({ await: __await })`, and that `({ await: __await1 })`: the same at once
object_once : with_idents (with_idents object ((codes "__await", 4) ∷ []))
    ((codes "__await1", 0) ∷ []) ≡ with_idents object ((codes "__await1", 0) ∷ [])
unfolding object
object_once = refl

-- `export { await }` becomes `export { __await1 as await }` either way
exported_once : with_idents (with_idents exported ((codes "__await", 4) ∷ []))
    ((codes "__await1", 0) ∷ []) ≡ with_idents exported ((codes "__await1", 0) ∷ [])
unfolding exported
exported_once = refl

-- but a symbol that came back would be spelled out, `({ await: await })`, where at once it stays
-- short
comes_back : with_idents (with_idents object ((codes "__await", 4) ∷ [])) ((codes "await", 0) ∷ [])
    ≡ with_idents object ((codes "await", 0) ∷ []) →
    ⊥
unfolding object
comes_back e = cc
