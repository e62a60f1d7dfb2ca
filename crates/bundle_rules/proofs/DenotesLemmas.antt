-- By symbol, each name of a cleared tree is declared and denotes as in the tree.
use Rattle.std.proofs.Common.{◌≡◌, ℕ, ◌||◌, cond, List, [], ◌∷◌, ◌++◌, Option, Some, None, option_map, option_and_then, filter, find, map, refl, ◌∙◌}
use Rattle.std.specs.List.{cons_option}
use Rattle.bundle_syntax.specs.declared.kind.VarDeclKind.{VarDeclKind}
use Rattle.bundle_syntax.specs.declared.kind.VarDeclKind.TheVariants as v
use Rattle.bundle_syntax.specs.Item as h
use Rattle.bundle_syntax.specs.Item.{Item, Head}
use Rattle.bundle_rules.specs.Places.{Around, Spot, past, start, Occurrence, occurrence_of, occurrence_at, occurrences, is_binding}
use Rattle.bundle_rules.specs.Scopes.{ModuleKind, FunctionName, ClassName, block_in, block_kind, exports_default, is_default, kind_of_scope, scope_at, scopes_around}
use Rattle.bundle_rules.specs.Declarations.{ByLet, ByConst, ByLoop, ByFunction, ByFunctionName, ByClass, ByClassName, is_pattern, is_loop_head, heads_loop, way_of_kind, way_of_variable, way_of_declarator, way_in, way_of, BySymbol, name_of, Declared, declared_by, declaration_of, is_nameless_default, nameless_default, declared_at, declared_from, wrapper_parameters, declared}
use Rattle.bundle_rules.specs.Homes.{home_of, is_top, is_wrapper, top_declared}
use Rattle.bundle_rules.specs.Denotes.{denoted_in, own_or_found, denoted_of, denoted_at, denotations}
use Rattle.bundle_rules.specs.Doubled.{is_doubled, first_doubled}
use Rattle.bundle_rules.specs.Cleared.{cleared_head, cleared_item, cleared}
use Rattle.bundle_rules.proofs.HeadLemmas.{of_head}
use Rattle.bundle_rules.proofs.PathLemmas.{cleared_path, cleared_spot, cleared_occurrence, past-cleared, occurrence_of-cleared, occurrence_at-cleared, occurrences-cleared}

-- Scopes.

block_kind-cleared : (path : List Around) → block_kind (cleared_path path) ≡ block_kind path
block_kind-cleared [] = refl
block_kind-cleared (node ∷ outer) = of_head block_in (λ meta. (refl, refl, refl, λ kind. refl)) node.head

pub is_default-cleared : (path : List Around) → is_default (cleared_path path) ≡ is_default path
is_default-cleared [] = refl
is_default-cleared (node ∷ outer) = of_head exports_default (λ meta. (refl, refl, refl, λ kind. refl)) node.head

kind_of_scope-outer : (head : Head) (field : ℕ) (outer : List Around) → kind_of_scope head field (cleared_path outer) ≡ kind_of_scope head field outer
kind_of_scope-outer h.BlockStmt field outer = λ i. Some (block_kind-cleared outer i)
kind_of_scope-outer h.FnExpr field outer = λ i. cond (is_default-cleared outer i) None (Some FunctionName)
kind_of_scope-outer h.ClassExpr field outer = λ i. cond (is_default-cleared outer i) None (Some ClassName)
kind_of_scope-outer _ field outer = refl

kind_of_scope-cleared : (head : Head) (field : ℕ) (outer : List Around) → kind_of_scope (cleared_head head) field (cleared_path outer) ≡ kind_of_scope head field outer
kind_of_scope-cleared head field outer =
    of_head (λ it. kind_of_scope it field (cleared_path outer)) (λ meta. (refl, refl, refl, λ kind. refl)) head
    ∙ kind_of_scope-outer head field outer

-- the scopes around a place
pub scopes_around-cleared : (kind : ModuleKind) (path : List Around) → scopes_around kind (cleared_path path) ≡ scopes_around kind path
scopes_around-cleared kind [] = refl
scopes_around-cleared kind (node ∷ outer) = λ i. scope_at node.begins (kind_of_scope-cleared node.head node.field outer i) ++ scopes_around-cleared kind outer i

-- Ways.

heads_loop-cleared : (path : List Around) → heads_loop (cleared_path path) ≡ heads_loop path
heads_loop-cleared [] = refl
heads_loop-cleared (node ∷ outer) = of_head (λ it. is_loop_head it node.field) (λ meta. (refl, refl, refl, λ kind. refl)) node.head

way_of_kind-cleared : (kind : VarDeclKind) (outer : List Around) → way_of_kind kind (cleared_path outer) ≡ way_of_kind kind outer
way_of_kind-cleared v.Var outer = refl
way_of_kind-cleared v.Let outer = λ i. cond (heads_loop-cleared outer i) ByLoop ByLet
way_of_kind-cleared v.Const outer = λ i. cond (heads_loop-cleared outer i) ByLoop ByConst

way_of_variable-outer : (head : Head) (outer : List Around) → way_of_variable head (cleared_path outer) ≡ way_of_variable head outer
way_of_variable-outer (h.VarDecl kind meta) outer = λ i. Some (way_of_kind-cleared kind outer i)
way_of_variable-outer _ outer = refl

way_of_declarator-cleared : (path : List Around) → way_of_declarator (cleared_path path) ≡ way_of_declarator path
way_of_declarator-cleared [] = refl
way_of_declarator-cleared (node ∷ outer) =
    of_head (λ it. way_of_variable it (cleared_path outer)) (λ meta. (refl, refl, refl, λ kind. refl)) node.head
    ∙ way_of_variable-outer node.head outer

way_in-outer : (head : Head) (outer : List Around) → way_in head (cleared_path outer) ≡ way_in head outer
way_in-outer h.VarDeclarator outer = way_of_declarator-cleared outer
way_in-outer h.FnExpr outer = λ i. Some (cond (is_default-cleared outer i) ByFunction ByFunctionName)
way_in-outer h.ClassExpr outer = λ i. Some (cond (is_default-cleared outer i) ByClass ByClassName)
way_in-outer _ outer = refl

way_in-cleared : (head : Head) (outer : List Around) → way_in (cleared_head head) (cleared_path outer) ≡ way_in head outer
way_in-cleared head outer =
    of_head (λ it. way_in it (cleared_path outer)) (λ meta. (refl, refl, refl, λ kind. refl)) head
    ∙ way_in-outer head outer

is_pattern-cleared : (head : Head) → is_pattern (cleared_head head) ≡ is_pattern head
is_pattern-cleared head = of_head is_pattern (λ meta. (refl, refl, refl, λ kind. refl)) head

way_of-cleared : (path : List Around) → way_of (cleared_path path) ≡ way_of path
way_of-cleared [] = refl
way_of-cleared (node ∷ outer) = λ i. cond (is_pattern-cleared node.head i) (way_of-cleared outer i) (way_in-cleared node.head outer i)

-- Declarations.

declaration_of-cleared : (kind : ModuleKind) (o : Occurrence) → declaration_of BySymbol kind (cleared_occurrence o) ≡ declaration_of BySymbol kind o
declaration_of-cleared kind o = λ i. cond (is_binding o.role) (declared_by o.place (name_of BySymbol o.sym o.ctxt) (scopes_around-cleared kind o.path i) (way_of-cleared o.path i)) None

declaration_of_option : (kind : ModuleKind) (o : Option Occurrence) → option_and_then (declaration_of BySymbol kind) (option_map cleared_occurrence o) ≡ option_and_then (declaration_of BySymbol kind) o
declaration_of_option kind None = refl
declaration_of_option kind (Some o) = declaration_of-cleared kind o

named_or_not : (field : ℕ) (rest : List Item) → is_nameless_default (h.Open field h.ExportDefaultDecl) (cleared rest) ≡ is_nameless_default (h.Open field h.ExportDefaultDecl) rest
named_or_not field [] = refl
named_or_not field (h.Open inner head ∷ []) = refl
named_or_not field (h.Open inner head ∷ h.Ident first sym ctxt role ∷ rest) = refl
named_or_not field (h.Open inner head ∷ _ ∷ rest) = refl
named_or_not field (_ ∷ rest) = refl

is_nameless_default-rest : (field : ℕ) (head : Head) (rest : List Item) → is_nameless_default (h.Open field head) (cleared rest) ≡ is_nameless_default (h.Open field head) rest
is_nameless_default-rest field h.ExportDefaultDecl rest = named_or_not field rest
is_nameless_default-rest field _ rest = refl

is_nameless_default-cleared : (item : Item) (rest : List Item) → is_nameless_default (cleared_item item) (cleared rest) ≡ is_nameless_default item rest
is_nameless_default-cleared (h.Open field head) rest =
    of_head (λ it. is_nameless_default (h.Open field it) (cleared rest)) (λ meta. (refl, refl, refl, λ kind. refl)) head
    ∙ is_nameless_default-rest field head rest
is_nameless_default-cleared (h.Ident field sym ctxt role) rest = refl
is_nameless_default-cleared (h.Hole field) rest = refl
is_nameless_default-cleared h.Close rest = refl

declared_at-cleared : (kind : ModuleKind) (spot : Spot) (item : Item) (rest : List Item) → declared_at BySymbol kind (cleared_spot spot) (cleared_item item) (cleared rest) ≡ declared_at BySymbol kind spot item rest
declared_at-cleared kind spot item rest =
    (λ i. cond (is_nameless_default-cleared item rest i) (Some (nameless_default kind spot.place)) (option_and_then (declaration_of BySymbol kind) (occurrence_of-cleared spot item i)))
    ∙ (λ i. cond (is_nameless_default item rest) (Some (nameless_default kind spot.place)) (declaration_of_option kind (occurrence_of spot item) i))

declared_from-cleared : (kind : ModuleKind) (spot : Spot) (items : List Item) → declared_from BySymbol kind (cleared_spot spot) (cleared items) ≡ declared_from BySymbol kind spot items
declared_from-cleared kind spot [] = refl
declared_from-cleared kind spot (x ∷ items) =
    (λ i. cons_option (declared_at-cleared kind spot x items i) (declared_from BySymbol kind (past-cleared spot x i) (cleared items)))
    ∙ (λ i. cons_option (declared_at BySymbol kind spot x items) (declared_from-cleared kind (past spot x) items i))

-- the declarations
pub declared-cleared : (kind : ModuleKind) (items : List Item) → declared BySymbol kind (cleared items) ≡ declared BySymbol kind items
declared-cleared kind items = λ i. wrapper_parameters kind ++ declared_from-cleared kind start items i

-- the first declaration that is doubled
pub first_doubled-cleared : (kind : ModuleKind) (items : List Item) → first_doubled kind (cleared items) ≡ first_doubled kind items
first_doubled-cleared kind items = λ i. find (is_doubled (declared-cleared kind items i)) (declared-cleared kind items i)

-- the declarations of the top
pub top_declared-cleared : (kind : ModuleKind) (items : List Item) → top_declared BySymbol kind (cleared items) ≡ top_declared BySymbol kind items
top_declared-cleared kind items = λ i. let all : List Declared = declared-cleared kind items i in filter (λ d. is_top (home_of all d) || is_wrapper (home_of all d)) all

-- Denotations.

denoted_of-cleared : (kind : ModuleKind) (all : List Declared) (o : Occurrence) → denoted_of BySymbol kind all (cleared_occurrence o) ≡ denoted_of BySymbol kind all o
denoted_of-cleared kind all o = λ i. own_or_found all (denoted_in BySymbol all (scopes_around-cleared kind o.path i) (name_of BySymbol o.sym o.ctxt)) (declaration_of-cleared kind o i)

denoted_of_option : (kind : ModuleKind) (all : List Declared) (o : Option Occurrence) → option_map (denoted_of BySymbol kind all) (option_map cleared_occurrence o) ≡ option_map (denoted_of BySymbol kind all) o
denoted_of_option kind all None = refl
denoted_of_option kind all (Some o) = λ i. Some (denoted_of-cleared kind all o i)

-- what stands at a place denotes
pub denoted_at-cleared : (kind : ModuleKind) (items : List Item) (place : ℕ) → denoted_at BySymbol kind (cleared items) place ≡ denoted_at BySymbol kind items place
denoted_at-cleared kind items place =
    (λ i. option_map (denoted_of BySymbol kind (declared-cleared kind items i)) (occurrence_at-cleared items place i))
    ∙ denoted_of_option kind (declared BySymbol kind items) (occurrence_at items place)

denoted_of_each : (kind : ModuleKind) (all : List Declared) (os : List Occurrence) → map (denoted_of BySymbol kind all) (map cleared_occurrence os) ≡ map (denoted_of BySymbol kind all) os
denoted_of_each kind all [] = refl
denoted_of_each kind all (o ∷ os) = λ i. denoted_of-cleared kind all o i ∷ denoted_of_each kind all os i

-- what each occurrence denotes
pub denotations-cleared : (kind : ModuleKind) (items : List Item) → denotations BySymbol kind (cleared items) ≡ denotations BySymbol kind items
denotations-cleared kind items =
    (λ i. map (denoted_of BySymbol kind (declared-cleared kind items i)) (occurrences-cleared items i))
    ∙ denoted_of_each kind (declared BySymbol kind items) (occurrences items)
