-- How many scopes and bindings a cleared tree has: as many as the tree.
use Rattle.std.proofs.Common.{◌≡◌, ℕ, ◌+◌, cond, not, ◌&&◌, List, [], ◌∷◌, filter, length, refl, ◌∙◌}
use Rattle.bundle_syntax.specs.declared.kind.VarDeclKind.{VarDeclKind}
use Rattle.bundle_syntax.specs.declared.kind.VarDeclKind.TheVariants as v
use Rattle.bundle_syntax.specs.declared.kind.ExportMetadata.{ExportMetadata}
use Rattle.bundle_syntax.specs.Item as h
use Rattle.bundle_syntax.specs.Item.{Item, Head}
use Rattle.bundle_rules.specs.Places.{Around, Spot, past, start}
use Rattle.bundle_rules.specs.Scopes.{ModuleKind, Inner, Parameters, outermost}
use Rattle.bundle_rules.specs.Declarations.{Declared}
use Rattle.bundle_rules.specs.Homes.{has_implicit_arguments}
use Rattle.bundle_rules.specs.Counts.{is_lexical_head, has_lexical_head, has_name, makes_scope, scope_count_at, scope_count_from, scope_count, first_count, is_function_node, arguments_count_at, arguments_count_from, binding_count}
use Rattle.bundle_rules.specs.Statements.{no_notes}
use Rattle.bundle_rules.specs.Faults.{tree_count}
use Rattle.bundle_rules.specs.Cleared.{cleared_head, cleared_item, cleared}
use Rattle.bundle_rules.proofs.HeadLemmas.{of_head}
use Rattle.bundle_rules.proofs.PathLemmas.{cleared_path, cleared_spot, past-cleared}
use Rattle.bundle_rules.proofs.DenotesLemmas.{is_default-cleared, declared-cleared}

lexical_by_kind : (loop : Head) (field : ℕ) (kind : VarDeclKind) (meta : ExportMetadata) → is_lexical_head loop (h.Open field (h.VarDecl kind no_notes)) ≡ is_lexical_head loop (h.Open field (h.VarDecl kind meta))
lexical_by_kind loop field v.Var meta = refl
lexical_by_kind loop field v.Let meta = refl
lexical_by_kind loop field v.Const meta = refl

is_lexical_head-cleared : (loop : Head) (item : Item) → is_lexical_head loop (cleared_item item) ≡ is_lexical_head loop item
is_lexical_head-cleared loop (h.Open field head) = of_head (λ it. is_lexical_head loop (h.Open field it)) (λ meta. (refl, refl, refl, λ kind. lexical_by_kind loop field kind meta)) head
is_lexical_head-cleared loop (h.Ident field sym ctxt role) = refl
is_lexical_head-cleared loop (h.Hole field) = refl
is_lexical_head-cleared loop h.Close = refl

has_lexical_head-cleared : (loop : Head) (rest : List Item) → has_lexical_head loop (cleared rest) ≡ has_lexical_head loop rest
has_lexical_head-cleared loop [] = refl
has_lexical_head-cleared loop (item ∷ rest) = is_lexical_head-cleared loop item

has_name-cleared : (rest : List Item) → has_name (cleared rest) ≡ has_name rest
has_name-cleared [] = refl
has_name-cleared (h.Open field head ∷ rest) = refl
has_name-cleared (h.Ident field sym ctxt role ∷ rest) = refl
has_name-cleared (h.Hole field ∷ rest) = refl
has_name-cleared (h.Close ∷ rest) = refl

makes_scope-around : (head : Head) (outer : List Around) (rest : List Item) → makes_scope head (cleared_path outer) (cleared rest) ≡ makes_scope head outer rest
makes_scope-around h.FnExpr outer rest = λ i. has_name-cleared rest i && not (is_default-cleared outer i)
makes_scope-around h.ForStmt outer rest = has_lexical_head-cleared h.ForStmt rest
makes_scope-around h.ForInStmt outer rest = has_lexical_head-cleared h.ForInStmt rest
makes_scope-around (h.ForOfStmt is_await) outer rest = has_lexical_head-cleared (h.ForOfStmt is_await) rest
makes_scope-around _ outer rest = refl

makes_scope-cleared : (head : Head) (outer : List Around) (rest : List Item) → makes_scope (cleared_head head) (cleared_path outer) (cleared rest) ≡ makes_scope head outer rest
makes_scope-cleared head outer rest =
    of_head (λ it. makes_scope it (cleared_path outer) (cleared rest)) (λ meta. (refl, refl, refl, λ kind. refl)) head
    ∙ makes_scope-around head outer rest

scope_count_at-cleared : (outer : List Around) (item : Item) (rest : List Item) → scope_count_at (cleared_path outer) (cleared_item item) (cleared rest) ≡ scope_count_at outer item rest
scope_count_at-cleared outer (h.Open field head) rest = λ i. cond (makes_scope-cleared head outer rest i) 1 0
scope_count_at-cleared outer (h.Ident field sym ctxt role) rest = refl
scope_count_at-cleared outer (h.Hole field) rest = refl
scope_count_at-cleared outer h.Close rest = refl

scope_count_from-cleared : (spot : Spot) (items : List Item) → scope_count_from (cleared_spot spot) (cleared items) ≡ scope_count_from spot items
scope_count_from-cleared spot [] = refl
scope_count_from-cleared spot (x ∷ items) =
    (λ i. scope_count_at-cleared spot.path x items i + scope_count_from (past-cleared spot x i) (cleared items))
    ∙ (λ i. scope_count_at spot.path x items + scope_count_from-cleared (past spot x) items i)

-- the scopes
pub scope_count-cleared : (kind : ModuleKind) (items : List Item) → scope_count kind (cleared items) ≡ scope_count kind items
scope_count-cleared kind items = λ i. length (outermost kind) + scope_count_from-cleared start items i

is_function_node-cleared : (head : Head) → is_function_node (cleared_head head) ≡ is_function_node head
is_function_node-cleared head = of_head is_function_node (λ meta. (refl, refl, refl, λ kind. refl)) head

arguments_count_at-cleared : (all : List Declared) (place : ℕ) (item : Item) → arguments_count_at all place (cleared_item item) ≡ arguments_count_at all place item
arguments_count_at-cleared all place (h.Open field head) = λ i. cond (is_function_node-cleared head i && has_implicit_arguments all (Inner Parameters place)) 1 0
arguments_count_at-cleared all place (h.Ident field sym ctxt role) = refl
arguments_count_at-cleared all place (h.Hole field) = refl
arguments_count_at-cleared all place h.Close = refl

arguments_count_from-cleared : (all : List Declared) (place : ℕ) (items : List Item) → arguments_count_from all place (cleared items) ≡ arguments_count_from all place items
arguments_count_from-cleared all place [] = refl
arguments_count_from-cleared all place (x ∷ items) = λ i. arguments_count_at-cleared all place x i + arguments_count_from-cleared all (place + 1) items i

-- the bindings
pub binding_count-cleared : (kind : ModuleKind) (items : List Item) → binding_count kind (cleared items) ≡ binding_count kind items
binding_count-cleared kind items = λ i.
    let all : List Declared = declared-cleared kind items i in
    first_count all [] all + (length (filter (has_implicit_arguments all) (outermost kind)) + arguments_count_from-cleared all 0 items i)

-- both
pub tree_count-cleared : (kind : ModuleKind) (tree : List Item) → tree_count kind (cleared tree) ≡ tree_count kind tree
tree_count-cleared kind tree = λ i. scope_count-cleared kind tree i + binding_count-cleared kind tree i
