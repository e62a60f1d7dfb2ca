-- Worked examples: what the premises are for.
use Rattle.std.proofs.Common.{◌≡◌, refl, ℕ, List, [], ◌∷◌, ◌++◌, Bool, true, false, Option, Some, None, codes, map}
use Rattle.bundle_syntax.specs.declared.kind.VarDeclKind.TheVariants.{Const}
use Rattle.bundle_syntax.specs.Item as h
use Rattle.bundle_syntax.specs.Item.{Item}
use Rattle.bundle_syntax.specs.declared.piece.Role.TheVariants as r
use Rattle.bundle_rules.specs.Scopes.{Es, Top}
use Rattle.bundle_rules.specs.Declarations.{Reading, BySymbol, ByContext}
use Rattle.bundle_rules.specs.Denotes.{Global, denotations}
use Rattle.bundle_rules.specs.Statements.{TopItem, top_items, no_notes}
use Rattle.bundle_rules.specs.Order.{Mention, group_of}
use Rattle.bundle_tree_places.specs.Edits.{node}

abbrev member : ℕ → List ℕ → ℕ → List ℕ → List Item
member field x ctxt word =
    node field h.MemberExpr (h.Ident 0 x ctxt r.Reference ∷ node 1 (h.IdentName word) [])

-- `Object.assign(b.prototype);`, where `Object` has this context
abbrev call : ℕ → List Item
call ctxt =
    node 0 h.ExprStmt (node 0 h.CallExpr (member 0 (codes "Object") ctxt (codes "assign")
    ++ node 1 (h.ExprOrSpread false) (member 0 (codes "b") 1 (codes "prototype"))))

-- `const Object = b;`, with this context
abbrev declaration : ℕ → List Item
declaration ctxt =
    node 0 (h.VarDecl Const no_notes)
    (node 1 h.VarDeclarator
    (node 0 h.BindingIdent (h.Ident 0 (codes "Object") ctxt r.Binding ∷ [])
    ++ h.Ident 1 (codes "b") 1 r.Reference ∷ []))

abbrev in_module : List Item → List Item
in_module inside = node 0 h.Module inside

-- which identifiers are the `b` of a `b.prototype` in an argument of `Object.assign`
abbrev prototypes : Reading → List Item → List TopItem → List (List Bool)
prototypes reading tree items =
    map (λ (row : List Mention). map (λ (m : Mention). m.prototype) row)
    (group_of reading Top tree items []).items

-- the numbers of the top bindings that are denoted
abbrev numbers : Reading → List Item → List TopItem → List (List (Option ℕ))
numbers reading tree items =
    map (λ (row : List Mention). map (λ (m : Mention). m.top) row)
    (group_of reading Top tree items []).items

-- An `Object` that nothing binds but that has another context than 1: names denote alike, and yet
-- the groups differ before and after naming. So a tree that is named must have context 1 at
-- globals (`HasObjects`; `IsMerged.contexts.globals` has it).
global_before : denotations ByContext Es (in_module (call 5)) ≡ Global (codes "Object")
    ∷ Global (codes "b") ∷ []
global_before = refl

global_after : denotations BySymbol Es (in_module (call 0)) ≡ Global (codes "Object")
    ∷ Global (codes "b") ∷ []
global_after = refl

flag_before : prototypes ByContext (in_module (call 5)) (top_items (in_module (call 5)))
    ≡ (false ∷ false ∷ []) ∷ []
flag_before = refl

flag_after : prototypes BySymbol (in_module (call 0)) (top_items (in_module (call 0)))
    ≡ (false ∷ true ∷ []) ∷ []
flag_after = refl

-- An `Object` that another block binds with context 1: the item alone takes it for the global. So
-- nothing that binds may have context 1 (`BindsOwn`).
flag_alone : prototypes ByContext (in_module (call 1)) (top_items (in_module (call 1)))
    ≡ (false ∷ true ∷ []) ∷ []
flag_alone = refl

flag_beside : prototypes ByContext (in_module (call 1 ++ declaration 1))
    (record { start = 1; items = call 1 } ∷ []) ≡ (false ∷ false ∷ []) ∷ []
flag_beside = refl

-- What another block declares has no number in the block alone and has one in the whole: such
-- groups are alike, though not renumbered.
number_alone : numbers ByContext (in_module (call 7)) (top_items (in_module (call 7)))
    ≡ (None ∷ None ∷ []) ∷ []
number_alone = refl

number_beside : numbers ByContext (in_module (call 7 ++ declaration 7))
    (record { start = 1; items = call 7 } ∷ []) ≡ (Some 0 ∷ None ∷ []) ∷ []
number_beside = refl
