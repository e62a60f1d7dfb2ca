-- What runs later in small trees.
use Rattle.std.specs.Prelude.{◌≡◌, Bool as Truth, true, false, List, [], ◌∷◌, ◌++◌, codes, map}
use mathlib.Core.Path.{refl}
use Rattle.bundle_syntax.specs.Item as h
use Rattle.bundle_syntax.specs.Item.{Item}
use Rattle.bundle_rules.specs.Places.{Occurrence, occurrences}
use Rattle.bundle_rules.specs.Deferred.{runs_later}
use Rattle.bundle_rules.proofs.SmallTrees.{node, binding, reference, pattern_of, reads, block_of}

-- for each occurrence, whether it runs later
abbrev later : List Item → List Truth
later items = map (λ (o : Occurrence). runs_later o.path) (occurrences items)

-- `class A { [k] = v; static [s] = w; constructor() { r; } static { t; } }`
abbrev class_with_members : List Item
class_with_members = node 0 h.ClassDecl (binding 0 (codes "A") 0
    ++ node 1 h.Class (node 1 (h.ClassProp false) (node 0 h.ComputedPropName (reference 0 (codes "k") 0) ++ reference 1 (codes "v") 0)
    ++ node 1 (h.ClassProp true) (node 0 h.ComputedPropName (reference 0 (codes "s") 0) ++ reference 1 (codes "w") 0)
    ++ node 1 h.Constructor (block_of 1 (reads (codes "r") 0))
    ++ node 1 h.StaticBlock (block_of 0 (reads (codes "t") 0))))

-- of these `v` and `r` run later
in_a_class : later class_with_members ≡ false ∷ false ∷ true ∷ false ∷ false ∷ true ∷ false ∷ []
in_a_class = refl

-- `({ get [k]() { g; } }); a => b; c;`
abbrev accessor_and_arrow : List Item
accessor_and_arrow = node 0 h.ExprStmt (node 0 h.ObjectLit (node 0 h.GetterProp (node 0 h.ComputedPropName (reference 0 (codes "k") 0) ++ block_of 1 (reads (codes "g") 0))))
    ++ node 0 h.ExprStmt (node 0 (h.ArrowExpr false) (pattern_of 0 (codes "a") 0 ++ reference 1 (codes "b") 0))
    ++ reads (codes "c") 0

-- the key and `c` run at once
in_functions : later accessor_and_arrow ≡ false ∷ true ∷ true ∷ true ∷ false ∷ []
in_functions = refl
