-- A place runs later exactly if the innermost node delays it or that node runs later.
-- The identifiers of an item that are seen, one after the other.
use Rattle.std.proofs.Common.{◌≡◌, ℕ, ◌==◌, ◌||◌, Bool, true, false, not, cond, List, [], ◌∷◌, ◌++◌, Option, Some, None, refl, ap, ◌∙◌, zero, suc, ◌+◌, ◌<◌, map, take, slice_get, fold, All, sym, arith}
use Rattle.std.specs.List.{list_any, cons_option, filter_map}
use Rattle.std.specs.Option.{option_map, option_to_list}
use Rattle.std.proofs.lemmas.Option.{none-some, same_Some}
use Rattle.std.proofs.lemmas.List.{map-append}
use Rattle.std.proofs.lemmas.List.Elements.{filter_map-append, All-nil, All-cons}
use Rattle.bundle_syntax.specs.Item as h
use Rattle.bundle_syntax.specs.Item.{Head, Item}
use Rattle.bundle_syntax.specs.declared.piece.Role.{Role}
use Rattle.bundle_syntax.specs.declared.piece.Role.TheVariants as r
use Rattle.bundle_rules.specs.Places.{Around, Spot, past, start, spot_before, in_field, Occurrence, occurrence_of, occurrences_from, occurrences}
use Rattle.bundle_rules.specs.Scopes.{Es, Scope, Inner, ScopeKind, Parameters, Block, FunctionName, ClassName, block_in, block_kind, is_default, kind_of_scope, scope_at, scopes_around}
use Rattle.bundle_rules.specs.Homes.{is_parameters}
use Rattle.bundle_rules.specs.Deferred.{is_in_function, is_in_initialiser, is_initialiser, runs_later}
use Rattle.bundle_order.specs.Known.{delays}
use Rattle.bundle_order.specs.declared.seen.Seen.{Seen}
use Rattle.bundle_order.specs.Seen.{seen_of, seen_as}
use Rattle.bundle_order.specs.declared.told.TopBinding.{TopBinding}
use Rattle.bundle_order.specs.Numbered.{numbered_mention}
use Rattle.bundle_order.specs.Cut.{top_in, seen_occurrence, seen_by, seen_among}

-- ---- later

-- no block is the parameters of a function
block_in-other : (begins : ℕ) (head : Head) → is_parameters (Inner (block_in head) begins) ≡ false
block_in-other begins h.StaticBlock = refl
block_in-other begins h.CatchClause = refl
block_in-other begins (h.Function is_generator is_async) = refl
block_in-other begins (h.ArrowExpr is_async) = refl
block_in-other begins h.Constructor = refl
block_in-other begins h.GetterProp = refl
block_in-other begins h.SetterProp = refl
block_in-other begins _ = refl

block_kind-other : (begins : ℕ) (outer : List Around) → is_parameters (Inner (block_kind outer) begins) ≡ false
block_kind-other begins [] = refl
block_kind-other begins (node ∷ outer) = block_in-other begins node.head

-- whether a node is a function at this field, or starts a field of an instance
by_node : (head : Head) (begins field : ℕ) (outer : List Around) → (list_any is_parameters (scope_at begins (kind_of_scope head field outer)) || is_initialiser head field) ≡ delays head field
by_node (h.Function is_generator is_async) begins field outer = refl
by_node h.Constructor begins field outer = refl
by_node (h.ArrowExpr is_async) begins field outer = refl
by_node h.GetterProp begins field outer = elim (field == 0) as (λ v. (list_any is_parameters (scope_at begins (cond v None (Some Parameters))) || false) ≡ not v) [ true ↦ refl | false ↦ refl ]
by_node h.SetterProp begins field outer = elim (field == 0) as (λ v. (list_any is_parameters (scope_at begins (cond v None (Some Parameters))) || false) ≡ not v) [ true ↦ refl | false ↦ refl ]
by_node h.SwitchStmt begins field outer = elim (field == 0) as (λ v. (list_any is_parameters (scope_at begins (cond v None (Some Block))) || false) ≡ false) [ true ↦ refl | false ↦ refl ]
by_node h.FnExpr begins field outer = elim (is_default outer) as (λ v. (list_any is_parameters (scope_at begins (cond v None (Some FunctionName))) || false) ≡ false) [ true ↦ refl | false ↦ refl ]
by_node h.ClassExpr begins field outer = elim (is_default outer) as (λ v. (list_any is_parameters (scope_at begins (cond v None (Some ClassName))) || false) ≡ false) [ true ↦ refl | false ↦ refl ]
by_node h.BlockStmt begins field outer = ap (λ v. (v || false) || false) (block_kind-other begins outer)
by_node (h.ClassProp true) begins field outer = refl
by_node (h.ClassProp false) begins field outer = refl
by_node (h.PrivateProp true) begins field outer = refl
by_node (h.PrivateProp false) begins field outer = refl
by_node _ begins field outer = refl

-- one of the scopes is that of a node or one further outside
of_both : (begins : ℕ) (kind : Option ScopeKind) (outer : List Scope) → list_any is_parameters (scope_at begins kind ++ outer) ≡ (list_any is_parameters (scope_at begins kind) || list_any is_parameters outer)
of_both begins None outer = refl
of_both begins (Some kind) outer = elim (is_parameters (Inner kind begins)) as (λ v. (v || list_any is_parameters outer) ≡ ((v || false) || list_any is_parameters outer)) [ true ↦ refl | false ↦ refl ]

-- one of four
of_four : (a b c d : Bool) → ((a || b) || (c || d)) ≡ ((a || c) || (b || d))
of_four true b c d = refl
of_four false true true d = refl
of_four false true false d = refl
of_four false false c d = refl

-- a node more around a place
pub later_inside : (node : Around) (outer : List Around) → runs_later (node ∷ outer) ≡ (delays node.head node.field || runs_later outer)
later_inside node outer =
    ap (λ v. v || is_in_initialiser (node ∷ outer)) (of_both node.begins (kind_of_scope node.head node.field outer) (scopes_around Es outer))
    ∙ of_four (list_any is_parameters (scope_at node.begins (kind_of_scope node.head node.field outer))) (is_in_function outer) (is_initialiser node.head node.field) (is_in_initialiser outer)
    ∙ ap (λ v. v || runs_later outer) (by_node node.head node.begins node.field outer)

-- ---- the occurrences of a list, one more
cons-nil : {X : Type 0} (o : Option X) → cons_option o [] ≡ option_to_list o
cons-nil None = refl
cons-nil (Some x) = refl

cons-append : {X : Type 0} (o : Option X) (xs ys : List X) → cons_option o (xs ++ ys) ≡ cons_option o xs ++ ys
cons-append None xs ys = refl
cons-append (Some x) xs ys = refl

occurrences_from-more : (s : Spot) (items : List Item) (k : ℕ) (item : Item) → slice_get items k ≡ Some item → occurrences_from s (take (suc k) items) ≡ occurrences_from s (take k items) ++ option_to_list (occurrence_of (fold past s (take k items)) item)
occurrences_from-more s [] k item e = absurd (none-some item e)
occurrences_from-more s (x ∷ xs) zero item e = cons-nil (occurrence_of s x) ∙ ap (λ (y : Item). option_to_list (occurrence_of s y)) (same_Some x item e)
occurrences_from-more s (x ∷ xs) (suc k) item e =
    ap (λ (l : List Occurrence). cons_option (occurrence_of s x) l) (occurrences_from-more (past s x) xs k item e)
    ∙ cons-append (occurrence_of s x) (occurrences_from (past s x) (take k xs)) (option_to_list (occurrence_of (fold past (past s x) (take k xs)) item))

module _ (number : ℕ) (told : ℕ → TopBinding) (item : List Item) where
  among-one : (o : Option Occurrence) → seen_among number told item (option_to_list o) ≡ option_to_list (seen_by number told item o)
  among-one None = refl
  among-one (Some o) = cons-nil (seen_occurrence number told item o)

  among-append : (xs ys : List Occurrence) → seen_among number told item (xs ++ ys) ≡ seen_among number told item xs ++ seen_among number told item ys
  among-append xs ys =
      ap (λ l. filter_map (seen_as number) l) (map-append (numbered_mention told item) xs ys)
      ∙ filter_map-append (seen_as number) (map (numbered_mention told item) xs) (map (numbered_mention told item) ys)

  -- those of one element more
  pub among-more : (k : ℕ) (x : Item) → slice_get item k ≡ Some x → seen_among number told item (occurrences (take (k + 1) item)) ≡ seen_among number told item (occurrences (take k item)) ++ option_to_list (seen_by number told item (occurrence_of (spot_before item k) x))
  among-more k x e =
      ap (λ n. seen_among number told item (occurrences (take n item))) (let same : k + 1 ≡ suc k = omega arith in same)
      ∙ (ap (λ (l : List Occurrence). seen_among number told item l) (occurrences_from-more start item k x e)
      ∙ (among-append (occurrences (take k item)) (option_to_list (occurrence_of (spot_before item k) x))
      ∙ ap (λ (l : List Seen). seen_among number told item (occurrences (take k item)) ++ l) (among-one (occurrence_of (spot_before item k) x))))

  -- ---- one identifier
  abbrev occurring : Spot → ℕ → List ℕ → ℕ → Role → Occurrence
  occurring at field symbol ctxt role = record { place = at.place; sym = symbol; ctxt = ctxt; role = role; path = in_field field at.path }

  abbrev seen_top : Occurrence → Option ℕ → Option Seen
  seen_top o top = option_map (seen_of number (numbered_mention told item o)) top

  top_here : (at : Spot) (place : ℕ) (top : Option ℕ) (o : Occurrence) → at.place ≡ place → top ≡ (told place).top → seen_top o top ≡ seen_top o (told at.place).top
  top_here at place top o q e = ap (λ t. seen_top o t) (e ∙ ap (λ p. (told p).top) (sym q))

  -- one that denotes a binding of the top
  pub seen_once : (at : Spot) (place field : ℕ) (symbol : List ℕ) (ctxt : ℕ) (role : Role) (binding : ℕ) (one : Seen)
      → at.place ≡ place
      → Some binding ≡ top_in role (told place)
      → ((o : Occurrence) → o.role ≡ role → o.path ≡ in_field field at.path → one ≡ seen_of number (numbered_mention told item o) binding)
      → Some one ≡ seen_by number told item (occurrence_of at (h.Ident field symbol ctxt role))
  seen_once at place field symbol ctxt r.Binding binding one q e is = ap (λ (s : Seen). Some s) (is (occurring at field symbol ctxt r.Binding) refl refl) ∙ top_here at place (Some binding) (occurring at field symbol ctxt r.Binding) q e
  seen_once at place field symbol ctxt r.Reference binding one q e is = ap (λ (s : Seen). Some s) (is (occurring at field symbol ctxt r.Reference) refl refl) ∙ top_here at place (Some binding) (occurring at field symbol ctxt r.Reference) q e
  seen_once at place field symbol ctxt r.Word binding one q e is = absurd (none-some binding (sym e))

  -- ---- the bindings that are seen
  module _ (count : ℕ) (within : (p n : ℕ) → (told p).top ≡ Some n → n < count) where
    pub all_within : (list : List Occurrence) → All (λ (one : Seen). one.binding < count) (seen_among number told item list)
    all_within [] = All-nil (λ (one : Seen). one.binding < count)
    all_within (o ∷ rest) = step (told o.place).top refl (all_within rest)
      where
        step : (top : Option ℕ) → (told o.place).top ≡ top → All (λ (one : Seen). one.binding < count) (seen_among number told item rest) → All (λ (one : Seen). one.binding < count) (cons_option (seen_top o top) (seen_among number told item rest))
        step None e ih = ih
        step (Some n) e ih = All-cons (λ (one : Seen). one.binding < count) (seen_of number (numbered_mention told item o) n) (seen_among number told item rest) (within o.place n e) ih
