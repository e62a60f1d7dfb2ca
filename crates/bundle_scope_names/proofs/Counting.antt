-- The bindings that occurrences denote are no more than are counted.
-- The contexts by the numbers of bindings resolve the tree.
use Rattle.std.proofs.Common.{◌≡◌, ◌⊎◌, inl, inr, ℕ, zero, suc, ◌+◌, ◌==◌, ◌&&◌, ◌||◌, Bool, true, false, cond, List, [], ◌∷◌, ◌++◌, Option, Some, None, option_map, length, map, filter, find, codes, bytes_eq, refl, ap, ap₂, sym, ◌∙◌, subst, arith, ◌≤◌, ◌<◌, nat_le, nat_lt, le-leb, eq-eqb}
use Rattle.std.specs.Prelude.{⊤, slice_get, IsTrue}
use Rattle.std.specs.List.{list_any, AllZip}
use Rattle.std.proofs.lemmas.Bool.{and_parts, and_from, or_right}
use Rattle.std.proofs.lemmas.Option.{none-some, same_Some, slice_get-map, slice_get_within}
use Rattle.bundle_syntax.specs.Item as h
use Rattle.bundle_syntax.specs.Item.{Item, Head}
use Rattle.bundle_syntax.specs.declared.piece.Role.TheVariants as r
use Rattle.bundle_rules.specs.Places.{Around, Spot, past, start, in_field, outer_path, Occurrence, occurrence_of, occurrences_from, occurrences}
use Rattle.bundle_rules.specs.Scopes.{ModuleKind, Es, Cjs, ScopeKind, Parameters, ArrowParameters, FunctionBody, StaticBody, Block, CatchBlock, Loop, Catch, FunctionName, ClassName, Scope, Wrapper, Top, Inner, scope_order, same_scope, outermost, block_kind, has_function_body, is_default, kind_of_scope, scope_at, scopes_around}
use Rattle.bundle_rules.specs.Declarations.{BySymbol, Name, name_of, names_agree, contexts_agree, Declared, declared}
use Rattle.bundle_rules.specs.Homes.{home_of, is_declared_in, declares, is_arguments, has_implicit_arguments, binds}
use Rattle.bundle_rules.specs.Denotes.{Denoted, Bound, Global, bound_in, denoted_in, own_or_found, denoted_of, denotations, IsResolutionOf}
use Rattle.bundle_rules.specs.Counts.{first_count, is_function_node, arguments_count_at, arguments_count_from, binding_count, scope_count}
use Rattle.bundle_rules.specs.Contexts.{may_have_context, is_new}
use Rattle.bundle_rules.specs.Idents.{idents}
use Rattle.bundle_rules.specs.Rebuilds.{with_idents}
use Rattle.bundle_scope_denote.specs.declared.table.Denoted.{Denoted as Entry}
use Rattle.bundle_scope_denote.specs.declared.table.Denotations.{Denotations}
use Rattle.bundle_scope_denote.specs.Numbers.{numbered_scope}
use Rattle.bundle_scope_denote.specs.Listed.{IsBinding, IsDenoted, TellsDenoted, IsDenotationTable}
use Rattle.bundle_scope_denote.proofs.ZipLemmas.{AllZip-at}
use Rattle.bundle_scope_names.proofs.HomesLemmas.{Each, list_any-found, find-passes, same_order, bytes_same as same_symbol}
use Rattle.bundle_scope_names.proofs.FoundLemmas.{plain}
use Rattle.bundle_scope_names.proofs.TreeLemmas.{DeclaresOrNot, DoesNot, Does, declares_or_not, declaration_by_way, each-cons, each-occurrence, separation}
use Rattle.bundle_scope_names.specs.declared.contexts.ContextsGiven.{ContextsGiven}
use Rattle.bundle_scope_names.specs.Numbering.{binding_number, AreDenoted, AreContextsNumbered, LacksNumbers, AnswersNumbers, AreBindingsWithin}
use Rattle.bundle_scope_names.specs.Resolution.{with_contexts, tree_with, AreContextsFit, ResolvesTree, ResolvesFit}
use Rattle.bundle_scope_names.proofs.KnowsLemmas.{number-within, pigeons}
use Rattle.bundle_scope_names.proofs.Told as told
use Rattle.bundle_scope_names.proofs.Told.{sound-at, same-bound, context_beside, zip-from}
use Rattle.bundle_scope_names.proofs.Numbering as by
use Rattle.bundle_scope_names.proofs.Kept as kept

-- ---- counting

-- the order of a scope, and a symbol in it
abbrev pub Key : Type 0
Key = ℕ × List ℕ

abbrev pub key_of : Scope → List ℕ → Key
key_of s x = (scope_order s, x)

-- it stands in a list
abbrev pub IsListed : {X : Type 0} → List X → X → Type 0
IsListed xs x = (i : ℕ) × (slice_get xs i ≡ Some x)

listed-left : {X : Type 0} (xs ys : List X) (x : X) → IsListed xs x → IsListed (xs ++ ys) x
listed-left [] ys x at = absurd (none-some x at.1)
listed-left (z ∷ xs) ys x (zero, at) = (0, at)
listed-left (z ∷ xs) ys x (suc i, at) = let rest = listed-left xs ys x (i, at) in (suc rest.0, rest.1)

listed-right : {X : Type 0} (xs ys : List X) (x : X) → IsListed ys x → IsListed (xs ++ ys) x
listed-right [] ys x at = at
listed-right (z ∷ xs) ys x at = let rest = listed-right xs ys x at in (suc rest.0, rest.1)

length-both : {X : Type 0} (xs ys : List X) → length (xs ++ ys) ≡ length xs + length ys
length-both [] ys = omega arith
length-both (x ∷ xs) ys = let rest = length-both xs ys in omega (arith, rest)

-- Declared bindings.

-- the key of a declaration
abbrev declared_key : List Declared → Declared → Key
declared_key all d = key_of (home_of all d) d.name.sym

-- the keys of those that are the first of their binding
abbrev first_keys : List Declared → List Declared → List Declared → List Key
first_keys all before [] = []
first_keys all before (d ∷ rest) = cond (list_any (is_declared_in all (home_of all d) d.name) before) [] (declared_key all d ∷ []) ++ first_keys all (d ∷ before) rest

first-length : (all before rest : List Declared) → length (first_keys all before rest) ≡ first_count all before rest
first-length all before [] = refl
first-length all before (d ∷ rest) = by_test (list_any (is_declared_in all (home_of all d) d.name) before) (first-length all (d ∷ before) rest)
  where
    by_test : (t : Bool) → length (first_keys all (d ∷ before) rest) ≡ first_count all (d ∷ before) rest → length (cond t [] (declared_key all d ∷ []) ++ first_keys all (d ∷ before) rest) ≡ cond t 0 1 + first_count all (d ∷ before) rest
    by_test true same = same ∙ omega arith
    by_test false same = ap suc same ∙ omega arith

-- a declaration in the scope has its key
same-key : (all : List Declared) (s : Scope) (name : Name) (d : Declared) → is_declared_in all s name d ≡ true → declared_key all d ≡ key_of s name.sym
same-key all s name d is =
    let parts = and_parts (same_scope (home_of all d) s) (names_agree d.name name) is in
    let symbols = and_parts (bytes_eq d.name.sym name.sym) (contexts_agree d.name.ctxt name.ctxt) parts.1 in
    ap₂ (λ (x : ℕ) (y : List ℕ). let key : Key = (x, y) in key) (same_order (home_of all d) s parts.0) (same_symbol d.name.sym name.sym symbols.0)

-- one of those before has it
Seen : List Declared → List Declared → Key → Type 0
Seen all before key = (j : ℕ) × (e : Declared) × (slice_get before j ≡ Some e) × (declared_key all e ≡ key)

here-listed : (all before : List Declared) (d : Declared) (rest : List Declared) → Seen all before (declared_key all d) ⊎ IsListed (first_keys all before (d ∷ rest)) (declared_key all d)
unfolding Seen
here-listed all before d rest = by_test (list_any (is_declared_in all (home_of all d) d.name) before) refl
  where
    by_test : (t : Bool) → list_any (is_declared_in all (home_of all d) d.name) before ≡ t → Seen all before (declared_key all d) ⊎ IsListed (cond t [] (declared_key all d ∷ []) ++ first_keys all (d ∷ before) rest) (declared_key all d)
    by_test true is = let found = list_any-found (is_declared_in all (home_of all d) d.name) before is in inl (found.0, found.1, found.2, same-key all (home_of all d) d.name found.1 found.3)
    by_test false is = inr (0, refl)

first-listed : (all before rest : List Declared) (i : ℕ) (d : Declared) → slice_get rest i ≡ Some d → Seen all before (declared_key all d) ⊎ IsListed (first_keys all before rest) (declared_key all d)
unfolding Seen
first-listed all before [] i d at = absurd (none-some d at)
first-listed all before (first ∷ rest) zero d at = subst (λ e. Seen all before (declared_key all e) ⊎ IsListed (first_keys all before (first ∷ rest)) (declared_key all e)) (same_Some first d at) (here-listed all before first rest)
first-listed all before (first ∷ rest) (suc i) d at = by_rest (first-listed all (first ∷ before) rest i d at)
  where
    by_first : declared_key all first ≡ declared_key all d → Seen all before (declared_key all first) ⊎ IsListed (first_keys all before (first ∷ rest)) (declared_key all first) → Seen all before (declared_key all d) ⊎ IsListed (first_keys all before (first ∷ rest)) (declared_key all d)
    by_first same (inl seen) = inl (seen.0, seen.1, seen.2, seen.3 ∙ same)
    by_first same (inr listed) = inr (listed.0, listed.1 ∙ ap (λ k. Some k) same)

    by_place : (j : ℕ) (e : Declared) → slice_get (first ∷ before) j ≡ Some e → declared_key all e ≡ declared_key all d → Seen all before (declared_key all d) ⊎ IsListed (first_keys all before (first ∷ rest)) (declared_key all d)
    by_place zero e there same = by_first (ap (declared_key all) (same_Some first e there) ∙ same) (here-listed all before first rest)
    by_place (suc j) e there same = inl (j, e, there, same)

    by_rest : Seen all (first ∷ before) (declared_key all d) ⊎ IsListed (first_keys all (first ∷ before) rest) (declared_key all d) → Seen all before (declared_key all d) ⊎ IsListed (first_keys all before (first ∷ rest)) (declared_key all d)
    by_rest (inl seen) = by_place seen.0 seen.1 seen.2 seen.3
    by_rest (inr listed) = inr (listed-right (cond (list_any (is_declared_in all (home_of all first) first.name) before) [] (declared_key all first ∷ [])) (first_keys all (first ∷ before) rest) (declared_key all d) listed)

pub declared-listed : (all : List Declared) (i : ℕ) (d : Declared) → slice_get all i ≡ Some d → IsListed (first_keys all [] all) (declared_key all d)
unfolding Seen
declared-listed all i d at = by_first (first-listed all [] all i d at)
  where
    by_first : Seen all [] (declared_key all d) ⊎ IsListed (first_keys all [] all) (declared_key all d) → IsListed (first_keys all [] all) (declared_key all d)
    by_first (inl seen) = absurd (none-some seen.1 seen.2)
    by_first (inr listed) = listed

-- The `arguments` of functions.

abbrev arguments_key : Scope → Key
arguments_key s = key_of s (codes "arguments")

abbrev function_key : List Declared → ℕ → Item → List Key
function_key all place (h.Open field head) = cond (is_function_node head && has_implicit_arguments all (Inner Parameters place)) (arguments_key (Inner Parameters place) ∷ []) []
function_key all place _ = []

abbrev function_keys : List Declared → ℕ → List Item → List Key
function_keys all place [] = []
function_keys all place (item ∷ rest) = function_key all place item ++ function_keys all (place + 1) rest

key-length : (all : List Declared) (place : ℕ) (item : Item) → length (function_key all place item) ≡ arguments_count_at all place item
key-length all place (h.Open field head) = by_test (is_function_node head && has_implicit_arguments all (Inner Parameters place))
  where
    by_test : (t : Bool) → length (cond t (arguments_key (Inner Parameters place) ∷ []) []) ≡ cond t 1 0
    by_test true = refl
    by_test false = refl
key-length all place (h.Ident field x c role) = refl
key-length all place (h.Hole field) = refl
key-length all place h.Close = refl

function-length : (all : List Declared) (place : ℕ) (items : List Item) → length (function_keys all place items) ≡ arguments_count_from all place items
function-length all place [] = refl
function-length all place (item ∷ rest) = length-both (function_key all place item) (function_keys all (place + 1) rest) ∙ ap (λ n. n + length (function_keys all (place + 1) rest)) (key-length all place item) ∙ ap (λ n. arguments_count_at all place item + n) (function-length all (place + 1) rest)

function-listed : (all : List Declared) (place : ℕ) (items : List Item) (k field : ℕ) (head : Head) → slice_get items k ≡ Some (h.Open field head) → is_function_node head ≡ true → has_implicit_arguments all (Inner Parameters (place + k)) ≡ true → IsListed (function_keys all place items) (arguments_key (Inner Parameters (place + k)))
function-listed all place [] k field head at is has = absurd (none-some _ at)
function-listed all place (item ∷ rest) zero field head at is has =
    let begins : place + 0 ≡ place = omega arith in
    let tests : (is_function_node head && has_implicit_arguments all (Inner Parameters place)) ≡ true = ap (λ b. b && has_implicit_arguments all (Inner Parameters place)) is ∙ ap (λ n. has_implicit_arguments all (Inner Parameters n)) (sym begins) ∙ has in
    let here : function_key all place item ≡ arguments_key (Inner Parameters place) ∷ [] = ap (function_key all place) (same_Some item _ at) ∙ ap (λ b. cond b (arguments_key (Inner Parameters place) ∷ []) []) tests in
    listed-left (function_key all place item) (function_keys all (place + 1) rest) (arguments_key (Inner Parameters (place + 0))) (subst (λ l. IsListed l (arguments_key (Inner Parameters (place + 0)))) (sym here) (0, ap (λ n. Some (arguments_key (Inner Parameters n))) (sym begins)))
function-listed all place (item ∷ rest) (suc k) field head at is has =
    let further : place + suc k ≡ place + 1 + k = omega arith in
    listed-right (function_key all place item) (function_keys all (place + 1) rest) (arguments_key (Inner Parameters (place + suc k))) (subst (λ n. IsListed (function_keys all (place + 1) rest) (arguments_key (Inner Parameters n))) (sym further) (function-listed all (place + 1) rest k field head at is (ap (λ n. has_implicit_arguments all (Inner Parameters n)) (sym further) ∙ has)))

-- Which scopes are around an occurrence.

-- such a node makes the scope of a function's parameters only where it is a function
abbrev IsFunctionIf : Option ScopeKind → Head → Type 0
IsFunctionIf (Some Parameters) head = is_function_node head ≡ true
IsFunctionIf _ head = ⊤

cond-if : (b : Bool) (kind : ScopeKind) (head : Head) → IsFunctionIf (Some kind) head → IsFunctionIf (cond b None (Some kind)) head
cond-if true kind head is = tt
cond-if false kind head is = is

block-if : (outer : List Around) (head : Head) → IsFunctionIf (Some (block_kind outer)) head
block-if [] head = tt
block-if (node ∷ outer) head = by_head node.head
  where
    by_test : (b : Bool) → IsFunctionIf (Some (cond b FunctionBody Block)) head
    by_test true = tt
    by_test false = tt

    by_head : (inside : Head) → IsFunctionIf (Some (block_kind (record { head = inside; begins = node.begins; field = node.field } ∷ outer))) head
    by_head h.StaticBlock = tt
    by_head h.CatchClause = tt
    by_head inside = by_test (has_function_body inside)

function-if : (head : Head) (field : ℕ) (outer : List Around) → IsFunctionIf (kind_of_scope head field outer) head
function-if (h.Function is_generator is_async) field outer = refl
function-if h.Constructor field outer = refl
function-if h.GetterProp field outer = cond-if (field == 0) Parameters h.GetterProp refl
function-if h.SetterProp field outer = cond-if (field == 0) Parameters h.SetterProp refl
function-if (h.ArrowExpr is_async) field outer = tt
function-if h.BlockStmt field outer = block-if outer h.BlockStmt
function-if h.SwitchStmt field outer = cond-if (field == 0) Block h.SwitchStmt tt
function-if h.ForStmt field outer = tt
function-if h.ForInStmt field outer = tt
function-if (h.ForOfStmt is_await) field outer = tt
function-if h.CatchClause field outer = tt
function-if h.FnExpr field outer = cond-if (is_default outer) FunctionName h.FnExpr tt
function-if h.ClassExpr field outer = cond-if (is_default outer) ClassName h.ClassExpr tt
function-if _ field outer = tt

-- each open node begins in the tree
abbrev AreOpen : List Item → List Around → Type 0
AreOpen tree [] = ⊤
AreOpen tree (node ∷ outer) = ((field : ℕ) × (slice_get tree node.begins ≡ Some (h.Open field node.head))) × AreOpen tree outer

open-in_field : (tree : List Item) (field : ℕ) (path : List Around) → AreOpen tree path → AreOpen tree (in_field field path)
open-in_field tree field [] are = are
open-in_field tree field (node ∷ outer) are = are

open-past : (tree : List Item) (spot : Spot) (item : Item) → slice_get tree spot.place ≡ Some item → AreOpen tree spot.path → AreOpen tree (past spot item).path
open-past tree spot (h.Open field head) at are = ((field, at), open-in_field tree field spot.path are)
open-past tree spot (h.Ident field x c role) at are = are
open-past tree spot (h.Hole field) at are = are
open-past tree spot h.Close at are = outer spot.path are
  where
    outer : (path : List Around) → AreOpen tree path → AreOpen tree (outer_path path)
    outer [] it = it
    outer (node ∷ rest) it = it.1

open-here : (tree : List Item) (spot : Spot) (item : Item) → AreOpen tree spot.path → (o : Occurrence) → occurrence_of spot item ≡ Some o → AreOpen tree o.path
open-here tree spot (h.Open field head) are o e = absurd (none-some o e)
open-here tree spot (h.Hole field) are o e = absurd (none-some o e)
open-here tree spot h.Close are o e = absurd (none-some o e)
open-here tree spot (h.Ident field x c r.Word) are o e = absurd (none-some o e)
open-here tree spot (h.Ident field x c r.Binding) are o e = subst (λ (q : Occurrence). AreOpen tree q.path) (same_Some _ o e) (open-in_field tree field spot.path are)
open-here tree spot (h.Ident field x c r.Reference) are o e = subst (λ (q : Occurrence). AreOpen tree q.path) (same_Some _ o e) (open-in_field tree field spot.path are)

open-from : (tree : List Item) (spot : Spot) (rest : List Item) → ((k : ℕ) → slice_get tree (spot.place + k) ≡ slice_get rest k) → AreOpen tree spot.path → Each (λ (o : Occurrence). AreOpen tree o.path) (occurrences_from spot rest)
open-from tree spot [] same are = λ i o e. absurd (none-some o e)
open-from tree spot (item ∷ rest) same are =
    let here : slice_get tree spot.place ≡ Some item = ap (slice_get tree) (omega arith) ∙ same 0 in
    each-cons (λ (o : Occurrence). AreOpen tree o.path) (occurrence_of spot item) (occurrences_from (past spot item) rest) (open-here tree spot item are) (open-from tree (past spot item) rest (λ k. ap (slice_get tree) (omega arith) ∙ same (suc k)) (open-past tree spot item here are))

-- a scope that binds `arguments` by itself is that of a function of the tree, or of the CommonJS module
abbrev IsFunctionOf : ModuleKind → List Item → Scope → Type 0
IsFunctionOf kind tree Wrapper = kind ≡ Cjs
IsFunctionOf kind tree (Inner Parameters begins) = (field : ℕ) × (head : Head) × (slice_get tree begins ≡ Some (h.Open field head)) × (is_function_node head ≡ true)
IsFunctionOf kind tree _ = ⊤

abbrev AreFunctionsOf : ModuleKind → List Item → List Scope → Type 0
AreFunctionsOf kind tree [] = ⊤
AreFunctionsOf kind tree (s ∷ ss) = IsFunctionOf kind tree s × AreFunctionsOf kind tree ss

functions-around : (kind : ModuleKind) (tree : List Item) (path : List Around) → AreOpen tree path → AreFunctionsOf kind tree (scopes_around kind path)
functions-around Es tree [] are = (tt, tt)
functions-around Cjs tree [] are = (tt, (refl, tt))
functions-around kind tree (node ∷ outer) are = by_kind (kind_of_scope node.head node.field outer) (function-if node.head node.field outer) (functions-around kind tree outer are.1)
  where
    one : (made : ScopeKind) → IsFunctionIf (Some made) node.head → IsFunctionOf kind tree (Inner made node.begins)
    one Parameters is = (are.0.0, node.head, are.0.1, is)
    one ArrowParameters is = tt
    one FunctionBody is = tt
    one StaticBody is = tt
    one Block is = tt
    one CatchBlock is = tt
    one Loop is = tt
    one Catch is = tt
    one FunctionName is = tt
    one ClassName is = tt

    by_kind : (o : Option ScopeKind) → IsFunctionIf o node.head → AreFunctionsOf kind tree (scopes_around kind outer) → AreFunctionsOf kind tree (scope_at node.begins o ++ scopes_around kind outer)
    by_kind None is rest = rest
    by_kind (Some made) is rest = (one made is, rest)

found-function : (kind : ModuleKind) (tree : List Item) (p : Scope → Bool) (scopes : List Scope) (s : Scope) → AreFunctionsOf kind tree scopes → find p scopes ≡ Some s → IsFunctionOf kind tree s
found-function kind tree p [] s are e = absurd (none-some s e)
found-function kind tree p (first ∷ scopes) s are e = by_test (found-function kind tree p scopes s are.1) (p first) e
  where
    by_test : (find p scopes ≡ Some s → IsFunctionOf kind tree s) → (t : Bool) → cond t (Some first) (find p scopes) ≡ Some s → IsFunctionOf kind tree s
    by_test rest true is = subst (IsFunctionOf kind tree) (same_Some first s is) are.0
    by_test rest false is = rest is

-- All keys that are counted.

abbrev pub all_keys : ModuleKind → List Item → List Key
all_keys kind items = let all : List Declared = declared BySymbol kind items in first_keys all [] all ++ (map arguments_key (filter (has_implicit_arguments all) (outermost kind)) ++ function_keys all 0 items)

pub length-map : {A B : Type 0} (f : A → B) (xs : List A) → length (map f xs) ≡ length xs
length-map f [] = refl
length-map f (x ∷ xs) = ap suc (length-map f xs)

pub all-length : (kind : ModuleKind) (items : List Item) → length (all_keys kind items) ≡ binding_count kind items
all-length kind items =
    let all : List Declared = declared BySymbol kind items in
    let outer : List Key = map arguments_key (filter (has_implicit_arguments all) (outermost kind)) in
    length-both (first_keys all [] all) (outer ++ function_keys all 0 items)
    ∙ ap (λ n. n + length (outer ++ function_keys all 0 items)) (first-length all [] all)
    ∙ ap (λ n. first_count all [] all + n) (length-both outer (function_keys all 0 items) ∙ ap (λ n. n + length (function_keys all 0 items)) (length-map arguments_key (filter (has_implicit_arguments all) (outermost kind))) ∙ ap (λ n. length (filter (has_implicit_arguments all) (outermost kind)) + n) (function-length all 0 items))

module _ (kind : ModuleKind) (items : List Item) where
  abbrev all : List Declared
  all = declared BySymbol kind items

  by-declaration : (i : ℕ) (d : Declared) → slice_get (declared BySymbol kind items) i ≡ Some d → IsListed (all_keys kind items) (declared_key (declared BySymbol kind items) d)
  by-declaration i d at = listed-left (first_keys (declared BySymbol kind items) [] (declared BySymbol kind items)) _ (declared_key (declared BySymbol kind items) d) (declared-listed (declared BySymbol kind items) i d at)

  wrapper-listed : kind ≡ Cjs → has_implicit_arguments (declared BySymbol kind items) Wrapper ≡ true → IsListed (map arguments_key (filter (has_implicit_arguments (declared BySymbol kind items)) (outermost kind))) (arguments_key Wrapper)
  wrapper-listed is has = subst (λ k. IsListed (map arguments_key (filter (has_implicit_arguments (declared BySymbol kind items)) (outermost k))) (arguments_key Wrapper)) (sym is) (subst (λ b. IsListed (map arguments_key (cond b (Wrapper ∷ []) [])) (arguments_key Wrapper)) (sym has) (0, refl))

  by-arguments : (s : Scope) → IsFunctionOf kind items s → has_implicit_arguments (declared BySymbol kind items) s ≡ true → IsListed (all_keys kind items) (arguments_key s)
  by-arguments Wrapper is has = listed-right (first_keys (declared BySymbol kind items) [] (declared BySymbol kind items)) _ (arguments_key Wrapper) (listed-left (map arguments_key (filter (has_implicit_arguments (declared BySymbol kind items)) (outermost kind))) (function_keys (declared BySymbol kind items) 0 items) (arguments_key Wrapper) (wrapper-listed is has))
  by-arguments (Inner Parameters begins) is has = listed-right (first_keys (declared BySymbol kind items) [] (declared BySymbol kind items)) _ (arguments_key (Inner Parameters begins)) (listed-right (map arguments_key (filter (has_implicit_arguments (declared BySymbol kind items)) (outermost kind))) (function_keys (declared BySymbol kind items) 0 items) (arguments_key (Inner Parameters begins)) (let from_first : 0 + begins ≡ begins = omega arith in subst (λ n. IsListed (function_keys (declared BySymbol kind items) 0 items) (arguments_key (Inner Parameters n))) from_first (function-listed (declared BySymbol kind items) 0 items begins is.0 is.1 is.2 is.3 (ap (λ n. has_implicit_arguments (declared BySymbol kind items) (Inner Parameters n)) from_first ∙ has))))
  by-arguments Top is has = absurd cc
  by-arguments (Inner ArrowParameters begins) is has = absurd cc
  by-arguments (Inner FunctionBody begins) is has = absurd cc
  by-arguments (Inner StaticBody begins) is has = absurd cc
  by-arguments (Inner Block begins) is has = absurd cc
  by-arguments (Inner CatchBlock begins) is has = absurd cc
  by-arguments (Inner Loop begins) is has = absurd cc
  by-arguments (Inner Catch begins) is has = absurd cc
  by-arguments (Inner FunctionName begins) is has = absurd cc
  by-arguments (Inner ClassName begins) is has = absurd cc

  -- a scope that binds a symbol is counted with it
  by-binding : (s : Scope) (x : List ℕ) → IsFunctionOf kind items s → binds (declared BySymbol kind items) s (plain x) ≡ true → IsListed (all_keys kind items) (key_of s x)
  by-binding s x is it = by_tests (declares (declared BySymbol kind items) s (plain x)) refl it
    where
      by_tests : (t : Bool) → declares (declared BySymbol kind items) s (plain x) ≡ t → (t || (is_arguments x && has_implicit_arguments (declared BySymbol kind items) s)) ≡ true → IsListed (all_keys kind items) (key_of s x)
      by_tests true declared_there either =
          let found = list_any-found (is_declared_in (declared BySymbol kind items) s (plain x)) (declared BySymbol kind items) declared_there in
          subst (IsListed (all_keys kind items)) (same-key (declared BySymbol kind items) s (plain x) found.1 found.3) (by-declaration found.0 found.1 found.2)
      by_tests false declared_there either =
          let parts = and_parts (is_arguments x) (has_implicit_arguments (declared BySymbol kind items) s) either in
          subst (λ y. IsListed (all_keys kind items) (key_of s y)) (sym (same_symbol x (codes "arguments") parts.0)) (by-arguments s is parts.1)

  -- what an occurrence denotes is counted
  counted-as : (o : Occurrence) (i : ℕ) → slice_get (occurrences items) i ≡ Some o → (s : Scope) (m : Name) → denoted_of BySymbol kind (declared BySymbol kind items) o ≡ Bound s m → IsListed (all_keys kind items) (key_of s m.sym)
  counted-as o i at s m e = by_cases (declares_or_not kind o)
    where
      opened : AreOpen items o.path
      opened = open-from items start items (λ k. ap (slice_get items) (omega arith)) tt i o at

      key_in : Denoted → Key
      key_in (Bound r n) = key_of r n.sym
      key_in (Global x) = (0, [])

      by_found : (r : Option Scope) → find (λ z. binds (declared BySymbol kind items) z (plain o.sym)) (scopes_around kind o.path) ≡ r → bound_in (plain o.sym) r ≡ Bound s m → IsListed (all_keys kind items) (key_of s m.sym)
      by_found None found is = absurd cc
      by_found (Some z) found is = subst (IsListed (all_keys kind items)) (ap key_in is) (by-binding z o.sym (found-function kind items (λ z. binds (declared BySymbol kind items) z (plain o.sym)) (scopes_around kind o.path) z (functions-around kind items o.path opened) found) (find-passes (λ z. binds (declared BySymbol kind items) z (plain o.sym)) (scopes_around kind o.path) z found))

      by_cases : DeclaresOrNot kind o → IsListed (all_keys kind items) (key_of s m.sym)
      by_cases (Does way known is later) =
          let own : Bound (home_of (declared BySymbol kind items) (declaration_by_way kind o way)) (declaration_by_way kind o way).name ≡ Bound s m = sym (ap (own_or_found (declared BySymbol kind items) (denoted_in BySymbol (declared BySymbol kind items) (scopes_around kind o.path) (name_of BySymbol o.sym o.ctxt))) is) ∙ e in
          let listed = each-occurrence (λ d. IsListed (declared BySymbol kind items) d) BySymbol kind items (λ j d there. (j, there)) i o at (declaration_by_way kind o way) is in
          subst (IsListed (all_keys kind items)) (ap key_in own) (by-declaration listed.0 (declaration_by_way kind o way) listed.1)
      by_cases (DoesNot never) = by_found (find (λ z. binds (declared BySymbol kind items) z (plain o.sym)) (scopes_around kind o.path)) refl (sym (ap (own_or_found (declared BySymbol kind items) (denoted_in BySymbol (declared BySymbol kind items) (scopes_around kind o.path) (name_of BySymbol o.sym o.ctxt))) (never BySymbol o.ctxt)) ∙ e)

  pub counted : (i : ℕ) (s : Scope) (m : Name) → slice_get (denotations BySymbol kind items) i ≡ Some (Bound s m) → IsListed (all_keys kind items) (key_of s m.sym)
  counted i s m at = by_occurrence (slice_get (occurrences items) i) refl (sym (slice_get-map (denoted_of BySymbol kind (declared BySymbol kind items)) (occurrences items) i) ∙ at)
    where
      by_occurrence : (o : Option Occurrence) → slice_get (occurrences items) i ≡ o → option_map (denoted_of BySymbol kind (declared BySymbol kind items)) o ≡ Some (Bound s m) → IsListed (all_keys kind items) (key_of s m.sym)
      by_occurrence None there is = absurd (none-some _ is)
      by_occurrence (Some o) there is = counted-as o i there s m (same_Some _ _ is)

-- ---- resolved

-- what an entry with a binding denotes
record Denotes (kind : ModuleKind) (items : List Item) (table : Denotations) (b : ℕ) : Type 0 where
  pub at : ℕ
  pub scope : Scope
  pub name : Name
  pub denoted : slice_get (denotations BySymbol kind items) at ≡ Some (Bound scope name)
  pub is : IsBinding (map numbered_scope table.scopes.items) table.bindings.items b scope name

module _ (kind : ModuleKind) (items : List Item) (table : Denotations) (t : IsDenotationTable BySymbol kind items table) where
  entry-denotes : (i b : ℕ) (entry : Entry) → slice_get table.occurrences.items i ≡ Some entry → entry.binding ≡ Some b → Denotes kind items table b
  entry-denotes i b entry at is =
      let found = AllZip-at (TellsDenoted (map numbered_scope table.scopes.items) table.bindings.items) table.occurrences.items (denotations BySymbol kind items) i entry t.denotes at in
      by_denoted found.0 found.1 (subst (λ k. IsDenoted (map numbered_scope table.scopes.items) table.bindings.items k found.0) is found.2)
    where
      by_denoted : (d : Denoted) → slice_get (denotations BySymbol kind items) i ≡ Some d → IsDenoted (map numbered_scope table.scopes.items) table.bindings.items (Some b) d → Denotes kind items table b
      by_denoted (Global x) there denoted = absurd denoted
      by_denoted (Bound s m) there denoted = record { at = i; scope = s; name = m; denoted = there; is = denoted }

  -- bindings of entries are of the table
  pub table-within : AreBindingsWithin table
  table-within i b entry at is = let it = entry-denotes i b entry at is in slice_get_within table.bindings.items b it.is.binding it.is.at

  -- the key of a binding that is denoted
  HasKey : ℕ → Key → Type 0
  HasKey b key = (d : Denotes kind items table b) × (key ≡ key_of d.scope d.name.sym)

  -- those that are denoted are no more than are counted
  count : (given : List ℕ) → AreDenoted table given → length given ≤ binding_count kind items
  unfolding HasKey
  count given denoted = let fewer = pigeons HasKey one given (all_keys kind items) denoted.once beside in let len = all-length kind items in omega (arith, fewer, len)
    where
      one : (a b : ℕ) (key : Key) → HasKey a key → HasKey b key → a ≡ b
      one a b key x y =
          let keys : key_of x.0.scope x.0.name.sym ≡ key_of y.0.scope y.0.name.sym = sym x.1 ∙ y.1 in
          let same = same-bound kind items table t x.0.scope y.0.scope x.0.name y.0.name (sound-at kind items table t x.0.at (Bound x.0.scope x.0.name) x.0.denoted) (sound-at kind items table t y.0.at (Bound y.0.scope y.0.name) y.0.denoted) (ap (λ (k : Key). k.0) keys) (ap (λ (k : Key). k.1) keys) in
          t.one a b y.0.scope y.0.name (subst (λ m. IsBinding (map numbered_scope table.scopes.items) table.bindings.items a y.0.scope m) same.1 (subst (λ s. IsBinding (map numbered_scope table.scopes.items) table.bindings.items a s x.0.name) same.0 x.0.is)) y.0.is

      beside : (k b : ℕ) → slice_get given k ≡ Some b → (j : ℕ) × (key : Key) × (slice_get (all_keys kind items) j ≡ Some key) × HasKey b key
      beside k b at =
          let entry = denoted.denoted k b at in
          let it = entry-denotes entry.0 b entry.1 entry.2 entry.3 in
          let listed = counted kind items it.at it.scope it.name it.denoted in
          (listed.0, key_of it.scope it.name.sym, listed.1, (it, refl))

  module _ (local next : ℕ) (fit : AreContextsFit local next) where
    lacking : LacksNumbers table next → 4294967295 < next + scope_count kind items + binding_count kind items
    lacking lacks = let fewer = count lacks.wanted lacks.denoted in omega (arith, fewer, lacks.too_many)

    module _ (resolution : ContextsGiven) (n : AreContextsNumbered table local next resolution) where
      abbrev number : ℕ → List ℕ → ℕ
      number order x = context_beside (denotations BySymbol kind items) resolution.contexts.items order x

      contexts : resolution.contexts.items ≡ map (by.context_of number) (denotations BySymbol kind items)
      contexts = told.contexts-are kind items table t local next resolution.next n.given resolution.contexts.items fit n.contexts

      whole : by.IsNumbered number kind items (tree_with items resolution.contexts.items)
      whole = subst (by.IsNumbered number kind items) (sym (ap (λ cs. tree_with items cs) contexts)) (kept.numbered number kind items (told.own kind items table t local next resolution.next n.given resolution.contexts.items fit n.contexts) (told.apart kind items table t local next resolution.next n.given resolution.contexts.items fit n.contexts))

      resolution-of : IsResolutionOf kind items (tree_with items resolution.contexts.items)
      resolution-of = separation number kind items (tree_with items resolution.contexts.items) whole

      same : tree_with items resolution.contexts.items ≡ with_idents items (idents (tree_with items resolution.contexts.items))
      same = ap (λ cs. with_idents items (with_contexts (occurrences items) cs)) contexts ∙ ap (with_idents items) (sym (kept.same-idents number kind items (tree_with items resolution.contexts.items) whole))

      contexts-after : map (λ (o : Occurrence). o.ctxt) (occurrences (tree_with items resolution.contexts.items)) ≡ resolution.contexts.items
      contexts-after = whole.contexts ∙ sym contexts

      -- a number is one of the new ones
      new-number : (b c : ℕ) → binding_number next n.given b ≡ Some c → is_new next resolution.next c ≡ true
      new-number b c e =
          let within = number-within next n.given b c e in
          let below : suc c ≤ resolution.next = omega (arith, within.1, n.later) in
          and_from (nat_le next c) (nat_lt c resolution.next) (le-leb next c within.0) (le-leb (suc c) resolution.next below)

      may : (d : Denoted) (c : ℕ) → told.Follows kind items table t local next resolution.next n.given resolution.contexts.items fit n.contexts d c → may_have_context local next resolution.next d c ≡ true
      may (Global x) c follows = eq-eqb c 1 follows
      may (Bound Top m) c follows = eq-eqb c local (sym (same_Some local c follows.2))
      may (Bound Wrapper m) c follows = or_right (c == local) (is_new next resolution.next c) (new-number follows.0 c follows.2)
      may (Bound (Inner k b) m) c follows = new-number follows.0 c follows.2

      given : AllZip (λ (d : Denoted) (o : Occurrence). IsTrue (may_have_context local next resolution.next d o.ctxt)) (denotations BySymbol kind items) (occurrences (tree_with items resolution.contexts.items))
      given = zip-from (λ (d : Denoted) (o : Occurrence). IsTrue (may_have_context local next resolution.next d o.ctxt)) (denotations BySymbol kind items) (occurrences (tree_with items resolution.contexts.items)) len each
        where
          len : length (denotations BySymbol kind items) ≡ length (occurrences (tree_with items resolution.contexts.items))
          len = sym (told.as-many kind items table t local next resolution.next n.given resolution.contexts.items fit n.contexts) ∙ sym (ap length contexts-after) ∙ length-map (λ (o : Occurrence). o.ctxt) (occurrences (tree_with items resolution.contexts.items))

          each : (i : ℕ) (d : Denoted) (o : Occurrence) → slice_get (denotations BySymbol kind items) i ≡ Some d → slice_get (occurrences (tree_with items resolution.contexts.items)) i ≡ Some o → IsTrue (may_have_context local next resolution.next d o.ctxt)
          each i d o at there =
              let context : slice_get resolution.contexts.items i ≡ Some o.ctxt = ap (λ l. slice_get l i) (sym contexts-after) ∙ slice_get-map (λ (o : Occurrence). o.ctxt) (occurrences (tree_with items resolution.contexts.items)) i ∙ ap (option_map (λ (o : Occurrence). o.ctxt)) there in
              may d o.ctxt (told.follows-at kind items table t local next resolution.next n.given resolution.contexts.items fit n.contexts i d o.ctxt at context)

      all-resolved : ResolvesTree kind items local next (Some resolution)
      all-resolved = (
        told.as-many kind items table t local next resolution.next n.given resolution.contexts.items fit n.contexts ∙ length-map (denoted_of BySymbol kind (declared BySymbol kind items)) (occurrences items),
        record {
          same = same;
          resolution = resolution-of;
          contexts = record {
            given = given;
            enough = let fewer = count n.given n.denoted in omega (arith, fewer, n.later);
          };
        },
      )

  pub resolves : (local next : ℕ) (answer : Option ContextsGiven) → AnswersNumbers table local next answer → ResolvesFit kind items local next answer
  resolves local next None lacks = λ fit. lacking local next fit lacks
  resolves local next (Some resolution) n = λ fit. all-resolved local next fit resolution n
