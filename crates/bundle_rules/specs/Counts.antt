-- How many scopes and bindings a tree has (ECMA-262, 8.2 and 9.1). A resolver takes a context for
-- each of them at most.
use Rattle.std.specs.Prelude.{ℕ, ◌+◌, Bool as Truth, true, false, cond, not, ◌&&◌, List, [], ◌∷◌, length, filter}
use Rattle.std.specs.List.{list_any}
use Rattle.bundle_syntax.specs.declared.kind.VarDeclKind.TheVariants as v
use Rattle.bundle_syntax.specs.Item as h
use Rattle.bundle_syntax.specs.Item.{Item, Head}
use Rattle.bundle_rules.specs.Places.{Around, Spot, past, start}
use Rattle.bundle_rules.specs.Scopes.{ModuleKind, Inner, Parameters, outermost, is_default}
use Rattle.bundle_rules.specs.Declarations.{BySymbol, is_loop_head, Declared, declared}
use Rattle.bundle_rules.specs.Homes.{home_of, is_declared_in, has_implicit_arguments}

-- whether an item is the `let` or `const` head of the loop that begins before it
abbrev pub is_lexical_head : Head → Item → Truth
is_lexical_head loop (h.Open field (h.VarDecl v.Let meta)) = is_loop_head loop field
is_lexical_head loop (h.Open field (h.VarDecl v.Const meta)) = is_loop_head loop field
is_lexical_head loop _ = false

-- whether the first of these items is such a head
abbrev pub has_lexical_head : Head → List Item → Truth
has_lexical_head loop [] = false
has_lexical_head loop (item ∷ rest) = is_lexical_head loop item

-- whether the first of these items is a name
abbrev pub has_name : List Item → Truth
has_name (h.Ident field sym ctxt role ∷ rest) = true
has_name _ = false

-- whether a node makes a scope, with the nodes around it and the items that follow its beginning
abbrev pub makes_scope : Head → List Around → List Item → Truth
makes_scope (h.Function is_generator is_async) outer rest = true
makes_scope h.Constructor outer rest = true
makes_scope h.GetterProp outer rest = true
makes_scope h.SetterProp outer rest = true
makes_scope (h.ArrowExpr is_async) outer rest = true
makes_scope h.BlockStmt outer rest = true
makes_scope h.SwitchStmt outer rest = true
makes_scope h.CatchClause outer rest = true
makes_scope h.Class outer rest = true
makes_scope h.FnExpr outer rest = has_name rest && not (is_default outer)
makes_scope h.ForStmt outer rest = has_lexical_head h.ForStmt rest
makes_scope h.ForInStmt outer rest = has_lexical_head h.ForInStmt rest
makes_scope (h.ForOfStmt is_await) outer rest = has_lexical_head (h.ForOfStmt is_await) rest
makes_scope _ outer rest = false

-- one if an item begins a node that makes a scope, else zero
abbrev pub scope_count_at : List Around → Item → List Item → ℕ
scope_count_at outer (h.Open field head) rest = cond (makes_scope head outer rest) 1 0
scope_count_at outer _ rest = 0

-- how many scopes begin in the items from a spot on
abbrev pub scope_count_from : Spot → List Item → ℕ
scope_count_from spot [] = 0
scope_count_from spot (item ∷ rest) =
    scope_count_at spot.path item rest + scope_count_from (past spot item) rest

-- how many scopes a tree has
abbrev pub scope_count : ModuleKind → List Item → ℕ
scope_count kind items = length (outermost kind) + scope_count_from start items

-- how many of these declarations are the first of their binding, where others stand before them
abbrev pub first_count : List Declared → List Declared → List Declared → ℕ
first_count all before [] = 0
first_count all before (d ∷ rest) =
    cond (list_any (is_declared_in all (home_of all d) d.name) before) 0 1
    + first_count all (d ∷ before) rest

-- whether such a node is a function that is no arrow
abbrev pub is_function_node : Head → Truth
is_function_node (h.Function is_generator is_async) = true
is_function_node h.Constructor = true
is_function_node h.GetterProp = true
is_function_node h.SetterProp = true
is_function_node _ = false

-- one if an item at a place begins a function that is no arrow and has an `arguments` that nothing
-- declares, else zero
abbrev pub arguments_count_at : List Declared → ℕ → Item → ℕ
arguments_count_at all place (h.Open field head) =
    cond (is_function_node head && has_implicit_arguments all (Inner Parameters place)) 1 0
arguments_count_at all place _ = 0

-- how many such functions begin in the items from a place on
abbrev pub arguments_count_from : List Declared → ℕ → List Item → ℕ
arguments_count_from all place [] = 0
arguments_count_from all place (item ∷ rest) =
    arguments_count_at all place item + arguments_count_from all (place + 1) rest

-- how many bindings a tree has: those that are declared, and each `arguments` that is not
abbrev pub binding_count : ModuleKind → List Item → ℕ
binding_count kind items =
    let all : List Declared = declared BySymbol kind items in
    first_count all [] all
    + (length (filter (has_implicit_arguments all) (outermost kind))
    + arguments_count_from all 0 items)
