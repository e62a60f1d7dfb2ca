-- Where a name of a tree is one of a scope inside, some scope begins in the tree.
use Rattle.std.proofs.Common.{◌≡◌, ◌⊎◌, inl, inr, ℕ, zero, suc, ◌+◌, ◌<◌, ◌&&◌, Bool, true, false, not, cond, List, [], ◌∷◌, ◌++◌, Option, Some, None, append_assoc, append-nil, find, option_map, refl, sym, ap, ◌∙◌, subst, arith}
use Rattle.std.specs.Prelude.{slice_get, unwrap_or}
use Rattle.std.proofs.lemmas.Bool.{and_parts, false≢true, or_cases, true≢false}
use Rattle.std.proofs.lemmas.Option.{none-some, same_Some, slice_get-map}
use Rattle.bundle_syntax.specs.declared.kind.VarDeclKind.TheVariants as v
use Rattle.bundle_syntax.specs.declared.piece.Role.{Role}
use Rattle.bundle_syntax.specs.declared.piece.Role.TheVariants as r
use Rattle.bundle_syntax.specs.Item as h
use Rattle.bundle_syntax.specs.Item.{Item, Head}
use Rattle.bundle_rules.specs.Counts.{has_lexical_head, makes_scope, scope_count_from}
use Rattle.bundle_rules.specs.Declarations.{BySymbol, ByLoop, Declared, Name, Way, declaration_of, declared, declared_by, heads_loop, is_pattern, name_of, names_agree, nameless_default, way_in, way_of, way_of_declarator, way_of_variable, wrapper_parameter}
use Rattle.bundle_rules.specs.Denotes.{Bound, Denoted, Global, bound_in, denoted_as, denoted_in, denoted_of, own_or_found}
use Rattle.bundle_rules.specs.Homes.{binds, declares, from_taker, has_implicit_arguments, home_beside, home_of, is_arguments, is_declared_in, is_function, joins_parameter, nearest, parameters_of, taker, takes as takes_name_of}
use Rattle.bundle_rules.specs.Places.{Around, Occurrence, Spot, in_field, occurrence_of, occurrences, occurrences_from, outer_path, past, start, is_binding}
use Rattle.bundle_rules.specs.Scopes.{Es, Inner, Loop, Scope, ScopeKind, Top, Wrapper, kind_of_scope, same_scope, scope_at, scope_order, scopes_around}
use Rattle.bundle_scope_names.proofs.HomesLemmas.{Each, find-passes, list_any-found, same_order}
use Rattle.bundle_scope_names.proofs.TreeLemmas.{each-cons, each-declared}
use Rattle.bundle_scope_names.specs.fit.Sorts.{AClass, AFunction, ALocal, AModule, NodeCount, Many, One, Optional, Places, NodeSlot, NodeSort, names_of_sort, slot, slots, takes_head, takes_name}
use Rattle.bundle_scope_names.specs.fit.Fits as fits
use Rattle.bundle_scope_names.specs.fit.Fits.{AreFit, IsFit, a_hole, a_name, a_node, fields_after, no_more, over}
use Rattle.bundle_scope_names.specs.fit.Seen.{around_node, each_slot}
use Rattle.bundle_scope_names.proofs.fit.Keys.{AreBeside, after_slot, field_twice, outer_in as outer-field}
use Rattle.bundle_order_graph.proofs.OrderLemmas.{not-true}
use Rattle.bundle_merge_theory.proofs.own.Fit.{local_head as none-local, no_function_names as no-function, no_class_names as no-class}

-- Nodes that make no scope.

-- whether such a node makes no scope of its own, or none but that of a loop, and holds no function
-- or class of its own
abbrev is_quiet : Head → Bool
is_quiet (h.Function is_generator is_async) = false
is_quiet h.Constructor = false
is_quiet h.GetterProp = false
is_quiet h.SetterProp = false
is_quiet (h.ArrowExpr is_async) = false
is_quiet h.BlockStmt = false
is_quiet h.SwitchStmt = false
is_quiet h.CatchClause = false
is_quiet h.Class = false
is_quiet h.FnExpr = false
is_quiet h.ClassExpr = false
is_quiet _ = true

-- each of these nodes is one, and none declares the names of a loop
abbrev QuietPath : List Around → Type 0
QuietPath [] = Unit {0}
QuietPath (top ∷ outer) =
    (is_quiet top.head ≡ true) × (way_of_variable top.head outer ≡ Some ByLoop → ⊥)
    × QuietPath outer

abbrev IsQuiet : Occurrence → Type 0
IsQuiet o = QuietPath o.path

quiet-field : (field : ℕ) (path : List Around) → QuietPath path → QuietPath (in_field field path)
quiet-field field [] quiet = tt
quiet-field field (top ∷ outer) quiet = quiet

quiet-back : (field : ℕ) (path : List Around) → QuietPath (in_field field path) → QuietPath path
quiet-back field [] quiet = tt
quiet-back field (top ∷ outer) quiet = quiet

quiet-outer : (path : List Around) → QuietPath path → QuietPath (outer_path path)
quiet-outer [] quiet = tt
quiet-outer (top ∷ outer) quiet = quiet.2

quiet-beside : (s t : Spot) → AreBeside s t → QuietPath s.path → QuietPath t.path
quiet-beside s t b quiet =
    quiet-back 0 t.path (subst QuietPath (sym (b.fields 0)) (quiet-field 0 s.path quiet))

-- A function expression or a class has a function or a class in it.

makes-function : (head : Head) → takes_head head AFunction ≡ true → (outer : List Around)
    (rest : List Item) → makes_scope head outer rest ≡ true
makes-function (h.Function is_generator is_async) is outer rest = refl
makes-function _ is outer rest = absurd (false≢true is)

makes-class : (head : Head) → takes_head head AClass ≡ true → (outer : List Around)
    (rest : List Item) → makes_scope head outer rest ≡ true
makes-class h.Class is outer rest = refl
makes-class _ is outer rest = absurd (false≢true is)

counts-if : (b : Bool) (more : ℕ) → b ≡ true → 0 < cond b 1 0 + more
counts-if true more is = omega arith
counts-if false more is = absurd (false≢true is)

module _ (sort : NodeSort) (local : (role : Role) → takes_name role sort ≡ false)
    (makes : (head : Head) → takes_head head sort ≡ true → (outer : List Around) (rest : List Item) →
    makes_scope head outer rest ≡ true) where
  one-inside : {items : List Item} → AreFit (slot 1 One sort ∷ []) items → (s : Spot)
      (rest : List Item) → 0 < scope_count_from s (items ++ rest)
  one-inside (over e fit) s rest = absurd (true≢false e)
  one-inside (a_name {role = role} it fit) s rest = absurd (false≢true (sym (local role) ∙ it))
  one-inside (a_node {head = head} {inside = inside} {rest = behind} it in_it fit) s rest =
      counts-if (makes_scope head s.path ((inside ++ h.Close ∷ behind) ++ rest)) _
      (makes head it s.path ((inside ++ h.Close ∷ behind) ++ rest))

  some-inside : {items : List Item} → AreFit (slot 0 Optional ALocal ∷ slot 1 One sort ∷ []) items →
      (s : Spot) (rest : List Item) → 0 < scope_count_from s (items ++ rest)
  some-inside (over e fit) s rest = one-inside fit s rest
  some-inside (a_name {x = x} {ctxt = ctxt} {role = role} it fit) s rest =
      let more = one-inside fit (past s (h.Ident 0 x ctxt role)) rest in omega (arith, more)
  some-inside (a_node {head = head} it in_it fit) s rest =
      absurd (false≢true (sym (none-local head) ∙ it))

-- where no scope begins, each node is quiet
quiet-node : (head : Head) (names : Role) (outer : List Around) (s : Spot)
    (inside rest : List Item) → AreFit (slots head names) inside →
    makes_scope head outer (inside ++ rest) ≡ false →
    scope_count_from s (inside ++ rest) ≡ 0 → is_quiet head ≡ true
quiet-node (h.Function is_generator is_async) names outer s inside rest fit none zero_of =
    absurd (true≢false none)
quiet-node h.Constructor names outer s inside rest fit none zero_of = absurd (true≢false none)
quiet-node h.GetterProp names outer s inside rest fit none zero_of = absurd (true≢false none)
quiet-node h.SetterProp names outer s inside rest fit none zero_of = absurd (true≢false none)
quiet-node (h.ArrowExpr is_async) names outer s inside rest fit none zero_of =
    absurd (true≢false none)
quiet-node h.BlockStmt names outer s inside rest fit none zero_of = absurd (true≢false none)
quiet-node h.SwitchStmt names outer s inside rest fit none zero_of = absurd (true≢false none)
quiet-node h.CatchClause names outer s inside rest fit none zero_of = absurd (true≢false none)
quiet-node h.Class names outer s inside rest fit none zero_of = absurd (true≢false none)
quiet-node h.FnExpr names outer s inside rest fit none zero_of =
    let some = some-inside AFunction no-function makes-function fit s rest in
    absurd (omega (arith, some, zero_of))
quiet-node h.ClassExpr names outer s inside rest fit none zero_of =
    let some = some-inside AClass no-class makes-class fit s rest in
    absurd (omega (arith, some, zero_of))
quiet-node _ names outer s inside rest fit none zero_of = refl

-- Heads of loops.

-- no field that is left is the head of a loop
abbrev no_heads : List Around → List NodeSlot → Bool
no_heads path list = each_slot (λ number sort. not (heads_loop (in_field number path))) list

-- whether the first item is a declaration that is the head of the loop around it
abbrev heads_first : List Around → List Item → Bool
heads_first [] items = false
heads_first (top ∷ outer) items = has_lexical_head top.head items

abbrev is_single : NodeCount → Bool
is_single One = true
is_single Optional = true
is_single _ = false

-- behind the first of these fields, which holds one at most, none is the head of a loop
abbrev heads_once : List Around → List NodeSlot → Bool
heads_once path [] = true
heads_once path (slot number count sort ∷ more) = is_single count && no_heads path more

-- in these fields stands no declaration that is the head of a loop
abbrev NoHead : List Around → List NodeSlot → List Item → Type 0
NoHead path list items =
    (no_heads path list ≡ true)
    ⊎ ((heads_first path items ≡ false) × (heads_once path list ≡ true))

-- at the beginning of a node that makes no scope
no-head : (head : Head) (names : Role) (begins : ℕ) (outer other : List Around)
    (items : List Item) → makes_scope head other items ≡ false →
    NoHead (around_node head begins 0 ∷ outer) (slots head names) items
no-head h.ForStmt names begins outer other items none = inr (none, refl)
no-head h.ForInStmt names begins outer other items none = inr (none, refl)
no-head (h.ForOfStmt is_await) names begins outer other items none = inr (none, refl)
no-head (h.NewExpr true) names begins outer other items none = inl refl
no-head (h.NewExpr false) names begins outer other items none = inl refl
no-head _ names begins outer other items none = inl refl

no-head-over : (path : List Around) (n : ℕ) (c : NodeCount) (k : NodeSort) (more : List NodeSlot)
    (items other : List Item) → NoHead path (slot n c k ∷ more) items → NoHead path more other
no-head-over path n c k more items other (inl none) =
    inl (and_parts (not (heads_loop (in_field n path))) (no_heads path more) none).1
no-head-over path n c k more items other (inr its) =
    inl (and_parts (is_single c) (no_heads path more) its.1).1

no-head-hole : (path : List Around) (n : ℕ) (k : NodeSort) (more : List NodeSlot)
    (items other : List Item) → NoHead path (slot n Places k ∷ more) items →
    NoHead path (slot n Places k ∷ more) other
no-head-hole path n k more items other (inl none) = inl none
no-head-hole path n k more items other (inr its) = absurd (false≢true its.1)

none-after : (path : List Around) (n : ℕ) (c : NodeCount) (k : NodeSort) (more : List NodeSlot)
    (items : List Item) → NoHead path (slot n c k ∷ more) items →
    no_heads path (fields_after n c k more) ≡ true
none-after path n c k more items (inl none) =
    after_slot (λ number sort. not (heads_loop (in_field number path))) n c k more none
none-after path n One k more items (inr its) = its.1
none-after path n Optional k more items (inr its) = its.1
none-after path n Many k more items (inr its) = absurd (false≢true its.1)
none-after path n Places k more items (inr its) = absurd (false≢true its.1)

-- whether names are declared so by the head of a loop
abbrev is_loop_way : Option Way → Bool
is_loop_way (Some ByLoop) = true
is_loop_way _ = false

-- a declaration with such fields around it is none
lexical-way : (path : List Around) (n : ℕ) (kind : _) (meta : _) (rest : List Item) →
    (heads_loop (in_field n path) ≡ false)
    ⊎ (heads_first path (h.Open n (h.VarDecl kind meta) ∷ rest) ≡ false) →
    way_of_variable (h.VarDecl kind meta) (in_field n path) ≡ Some ByLoop → ⊥
lexical-way path n v.Var meta rest either e = absurd cc
lexical-way [] n v.Let meta rest either e = absurd cc
lexical-way [] n v.Const meta rest either e = absurd cc
lexical-way (top ∷ outer) n v.Let meta rest (inl none) e =
    absurd cc
lexical-way (top ∷ outer) n v.Let meta rest (inr none) e = absurd cc
lexical-way (top ∷ outer) n v.Const meta rest (inl none) e = absurd cc
lexical-way (top ∷ outer) n v.Const meta rest (inr none) e = absurd cc

head-way : (head : Head) (path : List Around) (n : ℕ) (rest : List Item) →
    (heads_loop (in_field n path) ≡ false) ⊎ (heads_first path (h.Open n head ∷ rest) ≡ false) →
    way_of_variable head (in_field n path) ≡ Some ByLoop → ⊥
head-way (h.VarDecl kind meta) path n rest either e = lexical-way path n kind meta rest either e
head-way _ path n rest either e = none-some ByLoop e

here-way : (head : Head) (path : List Around) (n : ℕ) (c : NodeCount) (k : NodeSort) (more : List NodeSlot)
    (rest : List Item) → NoHead path (slot n c k ∷ more) (h.Open n head ∷ rest) →
    way_of_variable head (in_field n path) ≡ Some ByLoop → ⊥
here-way head path n c k more rest (inl none) =
    head-way head path n rest
    (inl
    (not-true (heads_loop (in_field n path))
    (and_parts (not (heads_loop (in_field n path))) (no_heads path more) none).0))
here-way head path n c k more rest (inr its) = head-way head path n rest (inr its.0)

-- The walk.

not-made : (b : Bool) (more : ℕ) → cond b 1 0 + more ≡ 0 → b ≡ false
not-made true more e = absurd (omega (arith, e))
not-made false more e = refl

no-more : (b : Bool) (more : ℕ) → cond b 1 0 + more ≡ 0 → more ≡ 0
no-more true more e = absurd (omega (arith, e))
no-more false more e = omega (arith, e)

plus-zero : (n : ℕ) → 0 + n ≡ 0 → n ≡ 0
plus-zero n e = omega (arith, e)

same-tests : (test other : ℕ → NodeSort → Bool) →
    ((number : ℕ) (sort : NodeSort) → test number sort ≡ other number sort) → (list : List NodeSlot) →
    each_slot test list ≡ each_slot other list
same-tests test other same [] = refl
same-tests test other same (slot number count sort ∷ more) =
    ap (λ b. b && each_slot test more) (same number sort)
    ∙ ap (λ b. other number sort && b) (same-tests test other same more)

quiet-name : (s : Spot) (n : ℕ) (x : List ℕ) (ctxt : ℕ) (role : Role) → QuietPath s.path →
    (o : Occurrence) → occurrence_of s (h.Ident n x ctxt role) ≡ Some o → IsQuiet o
quiet-name s n x ctxt r.Word quiet o e = absurd (none-some o e)
quiet-name s n x ctxt r.Binding quiet o e =
    subst IsQuiet (same_Some _ o e) (quiet-field n s.path quiet)
quiet-name s n x ctxt r.Reference quiet o e =
    subst IsQuiet (same_Some _ o e) (quiet-field n s.path quiet)

-- what follows is quiet, wherever among these nodes it begins
abbrev Follows : Spot → List Item → Type 0
Follows s rest =
    (t : Spot) → AreBeside s t → scope_count_from t rest ≡ 0 →
    Each IsQuiet (occurrences_from t rest)

walk : {list : List NodeSlot} {items : List Item} → AreFit list items → (s : Spot) →
    QuietPath s.path → (rest : List Item) → NoHead s.path list (items ++ rest) →
    scope_count_from s (items ++ rest) ≡ 0 → Follows s rest →
    Each IsQuiet (occurrences_from s (items ++ rest))
walk no_more s quiet rest none zero_of then =
    then s (record { fields = λ field. refl; outer = refl }) zero_of
walk (over {number = n} {count = c} {sort = k} {more = more} {items = items} e fit) s quiet rest
    none zero_of then =
    walk fit s quiet rest
    (no-head-over s.path n c k more (items ++ rest) (items ++ rest) none) zero_of then
walk (a_name {number = n} {count = c} {sort = k} {more = more} {x = x} {ctxt = t} {role = role}
    {rest = behind} it fit) s quiet rest none zero_of then =
    each-cons IsQuiet (occurrence_of s (h.Ident n x t role))
    (occurrences_from (past s (h.Ident n x t role)) (behind ++ rest))
    (quiet-name s n x t role quiet)
    (walk fit (past s (h.Ident n x t role)) quiet rest
    (inl (none-after s.path n c k more (h.Ident n x t role ∷ (behind ++ rest)) none))
    (plus-zero (scope_count_from (past s (h.Ident n x t role)) (behind ++ rest)) zero_of)
    (λ u b. then u (record { fields = b.fields; outer = b.outer })))
walk (a_hole {number = n} {sort = k} {more = more} {rest = behind} fit) s quiet rest none zero_of
    then =
    walk fit (past s (h.Hole n)) quiet rest
    (no-head-hole s.path n k more (h.Hole n ∷ (behind ++ rest)) (behind ++ rest) none)
    (plus-zero (scope_count_from (past s (h.Hole n)) (behind ++ rest)) zero_of)
    (λ u b. then u (record { fields = b.fields; outer = b.outer }))
walk (a_node {number = n} {count = c} {sort = k} {more = more} {head = hd} {inside = ins}
    {rest = behind} it in_it fit) s quiet rest none zero_of then =
    subst (λ items. Each IsQuiet (occurrences_from inner items)) (sym same)
    (walk in_it inner quiet_inner tail
    (no-head hd (names_of_sort k) s.place (in_field n s.path) s.path (ins ++ tail) makes) inside_zero
    (λ t b zero_t. walk fit (past t h.Close)
    (quiet-outer t.path (quiet-beside inner t b quiet_inner)) rest (inl (passes t b))
    (plus-zero (scope_count_from (past t h.Close) (behind ++ rest)) zero_t)
    (λ u b2. then u (beside t b u b2))))
  where
    inner : Spot
    inner = past s (h.Open n hd)

    tail : List Item
    tail = h.Close ∷ (behind ++ rest)

    same : (ins ++ h.Close ∷ behind) ++ rest ≡ ins ++ tail
    same = append_assoc ins (h.Close ∷ behind) rest

    makes : makes_scope hd s.path (ins ++ tail) ≡ false
    makes =
        ap (makes_scope hd s.path) (sym same)
        ∙ not-made (makes_scope hd s.path ((ins ++ h.Close ∷ behind) ++ rest)) _ zero_of

    inside_zero : scope_count_from inner (ins ++ tail) ≡ 0
    inside_zero =
        ap (scope_count_from inner) (sym same)
        ∙ no-more (makes_scope hd s.path ((ins ++ h.Close ∷ behind) ++ rest)) _ zero_of

    quiet_inner : QuietPath inner.path
    quiet_inner = (
      quiet-node hd (names_of_sort k) s.path inner ins tail in_it makes inside_zero,
      here-way hd s.path n c k more ((ins ++ h.Close ∷ behind) ++ rest) none,
      quiet-field n s.path quiet,
    )

    fields : (t : Spot) → AreBeside inner t → (field : ℕ) →
        in_field field (outer_path t.path) ≡ in_field field s.path
    fields t b field = ap (in_field field) b.outer ∙ field_twice field n s.path

    passes : (t : Spot) → AreBeside inner t →
        no_heads (outer_path t.path) (fields_after n c k more) ≡ true
    passes t b =
        same-tests (λ number sort. not (heads_loop (in_field number (outer_path t.path))))
        (λ number sort. not (heads_loop (in_field number s.path)))
        (λ number sort. ap (λ path. not (heads_loop path)) (fields t b number))
        (fields_after n c k more)
        ∙ none-after s.path n c k more
        (h.Open n hd ∷ ((ins ++ h.Close ∷ behind) ++ rest)) none

    beside : (t : Spot) → AreBeside inner t → (u : Spot) → AreBeside (past t h.Close) u →
        AreBeside s u
    beside t b u b2 = record {
      fields = λ field. b2.fields field ∙ fields t b field;
      outer = b2.outer ∙ (ap outer_path b.outer ∙ outer-field n s.path);
    }

-- in a module in which no scope begins
quiet-module : (items : List Item) → IsFit AModule 0 items → scope_count_from start items ≡ 0 →
    Each IsQuiet (occurrences items)
quiet-module items fit zero_of =
    subst (λ l. Each IsQuiet (occurrences l)) (append-nil items)
    (walk (as_list fit) start tt [] (inl refl)
    (ap (scope_count_from start) (append-nil items) ∙ zero_of)
    (λ t b zero_t i o e. absurd (none-some o e)))
  where
    as_list : {items : List Item} → IsFit AModule 0 items → AreFit (slot 0 One AModule ∷ []) items
    as_list (fits.name it) = a_name it no_more
    as_list (fits.node it in_it) = a_node it in_it no_more

-- Scopes.

-- loops, and then the top
abbrev OnlyLoops : List Scope → Type 0
OnlyLoops [] = Unit {0}
OnlyLoops (Top ∷ outer) = outer ≡ []
OnlyLoops (Inner Loop begins ∷ outer) = OnlyLoops outer
OnlyLoops _ = ⊥

loop-or-none : (head : Head) (field : ℕ) (outer : List Around) → is_quiet head ≡ true →
    (kind_of_scope head field outer ≡ None) ⊎ (kind_of_scope head field outer ≡ Some Loop)
loop-or-none h.ForStmt field outer is = inr refl
loop-or-none h.ForInStmt field outer is = inr refl
loop-or-none (h.ForOfStmt is_await) field outer is = inr refl
loop-or-none (h.Function is_generator is_async) field outer is = absurd (false≢true is)
loop-or-none h.Constructor field outer is = absurd (false≢true is)
loop-or-none h.GetterProp field outer is = absurd (false≢true is)
loop-or-none h.SetterProp field outer is = absurd (false≢true is)
loop-or-none (h.ArrowExpr is_async) field outer is = absurd (false≢true is)
loop-or-none h.BlockStmt field outer is = absurd (false≢true is)
loop-or-none h.SwitchStmt field outer is = absurd (false≢true is)
loop-or-none h.CatchClause field outer is = absurd (false≢true is)
loop-or-none h.FnExpr field outer is = absurd (false≢true is)
loop-or-none h.ClassExpr field outer is = absurd (false≢true is)
loop-or-none _ field outer is = inl refl

only-loops : (path : List Around) → QuietPath path → OnlyLoops (scopes_around Es path)
only-loops [] quiet = refl
only-loops (top ∷ outer) quiet =
    by (kind_of_scope top.head top.field outer)
    (loop-or-none top.head top.field outer quiet.0) (only-loops outer quiet.2)
  where
    by : (o : Option ScopeKind) → (o ≡ None) ⊎ (o ≡ Some Loop) →
        OnlyLoops (scopes_around Es outer) →
        OnlyLoops (scope_at top.begins o ++ scopes_around Es outer)
    by None either rest = rest
    by (Some kind) (inl e) rest = absurd (none-some kind (sym e))
    by (Some kind) (inr e) rest =
        subst (λ k. OnlyLoops (Inner k top.begins ∷ scopes_around Es outer))
        (sym (same_Some kind Loop e)) rest

not-loop : (o : Option Way) → (o ≡ Some ByLoop → ⊥) → is_loop_way o ≡ true → ⊥
not-loop (Some ByLoop) never e = never refl
not-loop None never e = false≢true e
not-loop (Some _) never e = false≢true e

not-loop-declarator : (outer : List Around) → QuietPath outer →
    is_loop_way (way_of_declarator outer) ≡ true → ⊥
not-loop-declarator [] quiet e = false≢true e
not-loop-declarator (top ∷ more) quiet e =
    not-loop (way_of_variable top.head more) quiet.1 e

not-loop-in : (head : Head) (outer : List Around) → is_quiet head ≡ true → QuietPath outer →
    (is_loop_way (way_of outer) ≡ true → ⊥) →
    is_loop_way (cond (is_pattern head) (way_of outer) (way_in head outer)) ≡ true → ⊥
not-loop-in h.BindingIdent outer is quiet never e = never e
not-loop-in h.ArrayPat outer is quiet never e = never e
not-loop-in h.ObjectPat outer is quiet never e = never e
not-loop-in h.RestPat outer is quiet never e = never e
not-loop-in h.AssignPat outer is quiet never e = never e
not-loop-in h.KeyValuePatProp outer is quiet never e = never e
not-loop-in h.AssignPatProp outer is quiet never e = never e
not-loop-in h.VarDeclarator outer is quiet never e = not-loop-declarator outer quiet e
not-loop-in h.FnExpr outer is quiet never e = false≢true is
not-loop-in h.ClassExpr outer is quiet never e = false≢true is
not-loop-in _ outer is quiet never e = false≢true e

not-loop-way : (path : List Around) → QuietPath path → is_loop_way (way_of path) ≡ true → ⊥
not-loop-way [] quiet e = false≢true e
not-loop-way (top ∷ outer) quiet e =
    not-loop-in top.head outer quiet.0 quiet.2 (not-loop-way outer quiet.2) e

-- Homes.

taken-by-loop : (way : Way) (begins : ℕ) → is_loop_way (Some way) ≡ false →
    takes_name_of way (Inner Loop begins) ≡ false
taken-by-loop ByLoop begins is = absurd (true≢false is)
taken-by-loop _ begins is = refl

from-top : (way : Way) → is_loop_way (Some way) ≡ false → (scopes : List Scope) →
    OnlyLoops scopes → (from_taker way scopes ≡ []) ⊎ (from_taker way scopes ≡ Top ∷ [])
from-top way is [] only = inl refl
from-top way is (Wrapper ∷ outer) only = absurd only
from-top way is (Top ∷ outer) only = by (takes_name_of way Top)
  where
    by : (b : Bool) →
        (cond b (Top ∷ outer) (from_taker way outer) ≡ [])
        ⊎ (cond b (Top ∷ outer) (from_taker way outer) ≡ Top ∷ [])
    by true = inr (ap (λ l. Top ∷ l) only)
    by false = inl (ap (from_taker way) only)
from-top way is (Inner Loop begins ∷ outer) only =
    subst
    (λ b. (cond b (Inner Loop begins ∷ outer) (from_taker way outer) ≡ [])
    ⊎ (cond b (Inner Loop begins ∷ outer) (from_taker way outer) ≡ Top ∷ []))
    (sym (taken-by-loop way begins is)) (from-top way is outer only)
from-top way is (Inner _ begins ∷ outer) only = absurd only

-- a declaration that belongs to no loop belongs to the top
home-top : (all : List Declared) (d : Declared) → is_loop_way (Some d.by) ≡ false →
    OnlyLoops d.scopes → home_of all d ≡ Top
home-top all d is only = by (joins_parameter d.by) (from-top d.by is d.scopes only)
  where
    taken : (scopes : List Scope) → (scopes ≡ []) ⊎ (scopes ≡ Top ∷ []) →
        unwrap_or (nearest scopes) Top ≡ Top
    taken scopes (inl e) = ap (λ l. unwrap_or (nearest l) Top) e
    taken scopes (inr e) = ap (λ l. unwrap_or (nearest l) Top) e

    alone : (scopes : List Scope) → (scopes ≡ []) ⊎ (scopes ≡ Top ∷ []) →
        parameters_of scopes ≡ None
    alone scopes (inl e) = ap parameters_of e
    alone scopes (inr e) = ap parameters_of e

    by : (b : Bool) →
        (from_taker d.by d.scopes ≡ []) ⊎ (from_taker d.by d.scopes ≡ Top ∷ []) →
        cond b (home_beside all d (parameters_of (from_taker d.by d.scopes))) (taker d) ≡ Top
    by true either =
        ap (home_beside all d) (alone (from_taker d.by d.scopes) either)
        ∙ taken (from_taker d.by d.scopes) either
    by false either = taken (from_taker d.by d.scopes) either

false-of : (b : Bool) → (b ≡ true → ⊥) → b ≡ false
false-of true never = absurd (never refl)
false-of false never = refl

-- what an occurrence declares then
declares-low : (all : List Declared) (o : Occurrence) (d : Declared) → IsQuiet o →
    declaration_of BySymbol Es o ≡ Some d → scope_order (home_of all d) < 2
declares-low all o d quiet e = by (is_binding o.role) (way_of o.path) refl e
  where
    by : (b : Bool) (way : Option Way) → way_of o.path ≡ way →
        cond b
        (declared_by o.place (name_of BySymbol o.sym o.ctxt) (scopes_around Es o.path) way) None
        ≡ Some d → scope_order (home_of all d) < 2
    by false way is e = absurd (none-some d e)
    by true None is e = absurd (none-some d e)
    by true (Some way) is e =
        let made : Declared =
        record {
          place = o.place;
          name = name_of BySymbol o.sym o.ctxt;
          by = way;
          scopes = scopes_around Es o.path;
        } in
        let same : made ≡ d = same_Some made d e in
        let not_loop : is_loop_way (Some way) ≡ false =
        false-of (is_loop_way (Some way))
        (λ loop. not-loop-way o.path quiet (ap is_loop_way is ∙ loop)) in
        subst (λ (other : Declared). scope_order (home_of all other) < 2) same
        (subst (λ scope. scope_order scope < 2)
        (sym (home-top all made not_loop (only-loops o.path quiet))) (omega arith))

wrapper-low : (all : List Declared) (x : List ℕ) →
    scope_order (home_of all (wrapper_parameter x)) < 2
wrapper-low all x = omega arith

default-low : (all : List Declared) (place : ℕ) →
    scope_order (home_of all (nameless_default Es place)) < 2
default-low all place = omega arith

-- What is denoted.

found-loop : (test : Scope → Bool) (scopes : List Scope) (s : Scope) → OnlyLoops scopes →
    find test scopes ≡ Some s → is_function s ≡ false
found-loop test [] s only e = absurd (none-some s e)
found-loop test (Wrapper ∷ outer) s only e = absurd only
found-loop test (Top ∷ outer) s only e = by (test Top) e
  where
    by : (b : Bool) → cond b (Some Top) (find test outer) ≡ Some s → is_function s ≡ false
    by true e = ap is_function (sym (same_Some Top s e))
    by false e = absurd (none-some s (sym (ap (find test) only) ∙ e))
found-loop test (Inner Loop begins ∷ outer) s only e =
    by (test (Inner Loop begins)) (found-loop test outer s only) e
  where
    by : (b : Bool) → (find test outer ≡ Some s → is_function s ≡ false) →
        cond b (Some (Inner Loop begins)) (find test outer) ≡ Some s → is_function s ≡ false
    by true further e = ap is_function (sym (same_Some (Inner Loop begins) s e))
    by false further e = further e
found-loop test (Inner _ begins ∷ outer) s only e = absurd only

module _ (all : List Declared)
    (low : Each (λ (d : Declared). scope_order (home_of all d) < 2) all) where
  none-declares : (kind : ScopeKind) (begins : ℕ) (name : Name) →
      declares all (Inner kind begins) name ≡ true → ⊥
  none-declares kind begins name e =
      let found = list_any-found (is_declared_in all (Inner kind begins) name) all e in
      let below = low found.0 found.1 found.2 in
      let order =
      same_order (home_of all found.1) (Inner kind begins)
      (and_parts (same_scope (home_of all found.1) (Inner kind begins))
      (names_agree found.1.name name) found.3).0 in
      omega (arith, below, order)

  none-binds : (kind : ScopeKind) (begins : ℕ) (name : Name) →
      is_function (Inner kind begins) ≡ false → binds all (Inner kind begins) name ≡ true → ⊥
  none-binds kind begins name other e =
      elim
      (or_cases (declares all (Inner kind begins) name)
      (is_arguments name.sym && has_implicit_arguments all (Inner kind begins)) e) [
        | inl declared_there ↦ none-declares kind begins name declared_there
        | inr implied ↦
            let its =
            (and_parts (is_arguments name.sym)
            (has_implicit_arguments all (Inner kind begins)) implied).1 in
            false≢true (sym other ∙ (and_parts (is_function (Inner kind begins)) _ its).0)
      ]

  abbrev its_name : Occurrence → Name
  its_name o = name_of BySymbol o.sym o.ctxt

  abbrev test : Occurrence → Scope → Bool
  test o scope = binds all scope (its_name o)

  abbrev scope_in : Denoted → Option Scope
  scope_in (Bound scope name) = Some scope
  scope_in (Global x) = None

  none-inner : (o : Occurrence) → IsQuiet o → (kind : ScopeKind) (begins : ℕ) (name : Name) →
      denoted_of BySymbol Es all o ≡ Bound (Inner kind begins) name → ⊥
  none-inner o quiet kind begins name e = by (declaration_of BySymbol Es o) refl e
    where
      found : (r : Option Scope) → find (test o) (scopes_around Es o.path) ≡ r →
          bound_in (its_name o) r ≡ Bound (Inner kind begins) name → ⊥
      found None at e = none-some (Inner kind begins) (ap scope_in e)
      found (Some scope) at e =
          let same : scope ≡ Inner kind begins =
          same_Some scope (Inner kind begins) (ap scope_in e) in
          let here : find (test o) (scopes_around Es o.path) ≡ Some (Inner kind begins) =
          at ∙ ap (λ s. Some s) same in
          none-binds kind begins (its_name o)
          (found-loop (test o) (scopes_around Es o.path) (Inner kind begins)
          (only-loops o.path quiet) here)
          (find-passes (test o) (scopes_around Es o.path) (Inner kind begins) here)

      by : (d : Option Declared) → declaration_of BySymbol Es o ≡ d →
          own_or_found all (denoted_in BySymbol all (scopes_around Es o.path) (its_name o)) d
          ≡ Bound (Inner kind begins) name → ⊥
      by None is e = found (find (test o) (scopes_around Es o.path)) refl e
      by (Some d) is e =
          let below = declares-low all o d quiet is in
          let same : home_of all d ≡ Inner kind begins =
          same_Some (home_of all d) (Inner kind begins) (ap scope_in e) in
          let order : scope_order (home_of all d) ≡ begins + 2 = ap scope_order same in
          omega (arith, below, order)

module _ (items : List Item) where
  abbrev its_declared : List Declared
  its_declared = declared BySymbol Es items

  abbrev in_tree : Occurrence → Denoted
  in_tree o = denoted_of BySymbol Es its_declared o

  -- where no scope begins, no name is one of a scope inside
  none-denoted : IsFit AModule 0 items → scope_count_from start items ≡ 0 → (i : ℕ)
      (kind : ScopeKind) (begins : ℕ) (name : Name) →
      denoted_as BySymbol Es items i ≡ Some (Bound (Inner kind begins) name) → ⊥
  none-denoted fit zero_of i kind begins name at =
      occurs (slice_get (occurrences items) i) refl
      (sym (slice_get-map in_tree (occurrences items) i) ∙ at)
    where
      quiet : Each IsQuiet (occurrences items)
      quiet = quiet-module items fit zero_of

      low : Each (λ (d : Declared). scope_order (home_of its_declared d) < 2) its_declared
      low =
          each-declared (λ (d : Declared). scope_order (home_of its_declared d) < 2) IsQuiet
          BySymbol Es (wrapper-low its_declared) (default-low its_declared)
          (λ o d quiet e. declares-low its_declared o d quiet e) items quiet

      occurs : (o : Option Occurrence) → slice_get (occurrences items) i ≡ o →
          option_map in_tree o ≡ Some (Bound (Inner kind begins) name) → ⊥
      occurs None there e = none-some (Bound (Inner kind begins) name) e
      occurs (Some o) there e =
          none-inner its_declared low o (quiet i o there) kind begins name
          (same_Some (in_tree o) (Bound (Inner kind begins) name) e)

-- A SCOPE BEGINS in a module in which a name is one of a scope inside
pub scope-begins : (items : List Item) → IsFit AModule 0 items → (i : ℕ) (kind : ScopeKind)
    (begins : ℕ) (name : Name) →
    denoted_as BySymbol Es items i ≡ Some (Bound (Inner kind begins) name) →
    0 < scope_count_from start items
scope-begins items fit i kind begins name at = by (scope_count_from start items) refl
  where
    by : (n : ℕ) → scope_count_from start items ≡ n → 0 < scope_count_from start items
    by zero e = absurd (none-denoted items fit e i kind begins name at)
    by (suc n) e = omega (arith, e)
