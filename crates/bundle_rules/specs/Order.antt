-- In which order the statements of modules that reach each other may stand. What an item needs is
-- what must have run before it (ECMA-262, 9.1.1.1.6: a binding is read after it is initialised;
-- 14.2.2 and 14.7 statements run in their order; 15.2 to 15.7: the body of a function runs when it
-- is called, an instance field with its object).
use Rattle.std.specs.Prelude.{◌≡◌, ◌≢◌, ℕ, ◌+◌, ◌<◌, ◌≤◌, ◌==◌, ◌&&◌, ◌||◌, ◌⊎◌, ◌↔◌, nat_eq, Bool, true, false, not, List, [], ◌∷◌, Option, Some, None, Contains, length, slice_get, bytes_eq, codes, map, flat_map, filter, filter_map, position, option_and_then}
use Rattle.std.specs.List.{IsDistinct}
use Rattle.bundle_syntax.specs.Item as h
use Rattle.bundle_syntax.specs.Item.{Item, Head}
use Rattle.bundle_rules.specs.Places.{Around, Occurrence, occurrence_at, occurrences, is_binding}
use Rattle.bundle_rules.specs.Scopes.{Es, Scope, same_scope}
use Rattle.bundle_rules.specs.Declarations.{Reading, BySymbol, ByContext}
use Rattle.bundle_rules.specs.Denotes.{Denoted, Bound, Global, denoted_at}
use Rattle.bundle_rules.specs.Deferred.{runs_later}
use Rattle.bundle_order_graph.specs.Walks.{Path, IsSettled}
use Rattle.bundle_rules.specs.Nodes.{Text, in_field, node_at}
use Rattle.bundle_rules.specs.Statements.{TopItem}
use Rattle.bundle_rules.specs.Entries.{is_call_head}
use Rattle.bundle_rules.specs.Reads.{passes_writes, property_of}
use Rattle.bundle_rules.specs.Mentions.{same_denoted, each_denoted_once}

-- What is to be put in order. Nothing of it depends on what names are called, on where an item
-- stands, or on what is spelled out; so it is the same before names are changed and afterwards, and
-- in a module and in one function's call.

-- an identifier of an item, as far as order goes
pub record Mention : Type 0 where
  -- the number of the top binding that it denotes, in the order of first mention, if it denotes one
  pub top : Option ℕ
  -- whether it declares it; else it refers to it
  pub declares : Bool
  -- whether it runs later than its item
  pub later : Bool
  -- whether it is assigned, and whether it stands in an argument of a call
  pub assigned : Bool
  pub argument : Bool
  -- whether it is the root of a chain of members that is assigned to, and whether it is the `b` of
  -- a `b.prototype` in an argument of `Object.assign`
  pub chain : Bool
  pub prototype : Bool
  -- whether it is declared without a value
  pub valueless : Bool

-- items, each with its identifiers in turn and numbered by its place in the list; and the module of
-- each, or none for a free item
pub record Group : Type 0 where
  pub items : List (List Mention)
  pub owners : List (Option ℕ)

-- item s is one of module m
abbrev pub IsOf : Group → ℕ → ℕ → Type 0
IsOf g s m = slice_get g.owners s ≡ Some (Some m)

-- item s is free: of no module
abbrev pub IsFree : Group → ℕ → Type 0
IsFree g s = slice_get g.owners s ≡ Some None

-- What stands around an identifier in its item.

-- whether a target that stands in this field of such a node is one where the node is
abbrev pub passes_assignments : Head → ℕ → Bool
passes_assignments h.BindingIdent field = true
passes_assignments h.AssignPatProp field = field == 0
passes_assignments head field = passes_writes head field

-- whether such a node assigns to what stands in this field
abbrev pub assigns : Head → ℕ → Bool
assigns (h.AssignExpr op) field = field == 1
assigns _ field = false

-- whether what stands in these nodes is a target of an assignment, parentheses and patterns aside
abbrev pub is_assigned : List Around → Bool
is_assigned [] = false
is_assigned (node ∷ outer) =
    assigns node.head node.field || (passes_assignments node.head node.field && is_assigned outer)

-- whether such a node reads a member of what stands in this field
abbrev pub is_chain_step : Head → ℕ → Bool
is_chain_step h.MemberExpr field = field == 0
is_chain_step _ field = false

-- whether such a node is a pair of parentheses
abbrev pub is_parenthesis : Head → Bool
is_parenthesis h.ParenExpr = true
is_parenthesis _ = false

-- whether what stands in these nodes is the rest of a chain of members that is assigned to
abbrev pub ends_chain : List Around → Bool
ends_chain [] = false
ends_chain (node ∷ outer) =
    ((is_chain_step node.head node.field || is_parenthesis node.head) && ends_chain outer)
    || is_assigned (node ∷ outer)

-- whether what stands in these nodes is the root of a chain of at least one member that is assigned
-- to
abbrev pub roots_chain : List Around → Bool
roots_chain [] = false
roots_chain (node ∷ outer) =
    (is_chain_step node.head node.field && ends_chain outer)
    || (is_parenthesis node.head && roots_chain outer)

-- whether a text is there, and is x
abbrev pub is_text : Text → Option Text → Bool
is_text x None = false
is_text x (Some y) = bytes_eq x y

-- whether what stands in these nodes is the `b` of a read `b.prototype` in the item
abbrev pub is_prototype_read : List Item → List Around → Bool
is_prototype_read item [] = false
is_prototype_read item (node ∷ outer) =
    node.field == 0 && is_text (codes "prototype") (property_of (node_at item node.begins))

-- whether some of these nodes is a call in an argument of which the place lies, and which calls the
-- `assign` of what passes the test at its place
abbrev pub is_in_assign_of : (ℕ → Bool) → List Item → List Around → Bool
is_in_assign_of test item [] = false
is_in_assign_of test item (node ∷ outer) =
    (is_call_head node.head && node.field == 1
    && is_text (codes "assign") (property_of (node_at item (node.begins + 1)))
    && test (node.begins + 2))
    || is_in_assign_of test item outer

-- whether such a node calls what is in its first field with what is in its second
abbrev pub is_any_call : Head → Bool
is_any_call h.CallExpr = true
is_any_call h.OptCall = true
is_any_call _ = false

-- whether some of these nodes is a call in an argument of which the place lies
abbrev pub is_in_argument : List Around → Bool
is_in_argument [] = false
is_in_argument (node ∷ outer) = (is_any_call node.head && node.field == 1) || is_in_argument outer

-- whether such a node is a declarator
abbrev pub is_declarator : Head → Bool
is_declarator h.VarDeclarator = true
is_declarator _ = false

-- whether no node is there
abbrev pub is_nothing : List (List Item) → Bool
is_nothing [] = true
is_nothing (node ∷ more) = false

-- whether the nearest declarator around has no value
abbrev pub has_no_value : List Item → List Around → Bool
has_no_value tree [] = false
has_no_value tree (node ∷ outer) =
    (is_declarator node.head && is_nothing (in_field 1 (node_at tree node.begins)))
    || (not (is_declarator node.head) && has_no_value tree outer)

-- What identifiers denote.

-- whether this is the global x
abbrev pub is_global_named : Text → Option Denoted → Bool
is_global_named x (Some (Global y)) = bytes_eq x y
is_global_named x _ = false

-- whether an identifier has the context of what nothing binds, where contexts are read: items may
-- be part of a bundle, and a name that another part declares looks unbound in them
abbrev pub is_of_nothing : Reading → Option Occurrence → Bool
is_of_nothing BySymbol o = true
is_of_nothing ByContext None = false
is_of_nothing ByContext (Some o) = o.ctxt == 1

-- whether the global `Object` stands at a place of a tree
abbrev pub is_object_at : Reading → List Item → ℕ → Bool
is_object_at reading tree place =
    is_global_named (codes "Object") (denoted_at reading Es tree place)
    && is_of_nothing reading (occurrence_at tree place)

-- what an identifier of an item denotes in the tree
abbrev pub denoted_in : Reading → List Item → TopItem → Occurrence → Option Denoted
denoted_in reading tree item o = denoted_at reading Es tree (item.start + o.place)

-- whether it is a binding of this scope
abbrev pub is_of_scope : Scope → Denoted → Bool
is_of_scope top (Bound scope name) = same_scope scope top
is_of_scope top (Global x) = false

-- the bindings of a scope that items mention, in the order of first mention
abbrev pub mentioned : Reading → Scope → List Item → List TopItem → List Denoted
mentioned reading top tree items =
    each_denoted_once
    (filter (is_of_scope top)
    (flat_map (λ item. filter_map (denoted_in reading tree item) (occurrences item.items))
    items))

-- an identifier of an item, where these are the top bindings
abbrev pub mention_of : Reading → List Item → List Denoted → TopItem → Occurrence → Mention
mention_of reading tree tops item o = record {
  top = option_and_then (λ d. position (same_denoted d) tops) (denoted_in reading tree item o);
  declares = is_binding o.role;
  later = runs_later o.path;
  assigned = is_assigned o.path;
  argument = is_in_argument o.path;
  chain = roots_chain o.path;
  prototype =
      is_prototype_read item.items o.path
      && is_in_assign_of (λ place. is_object_at reading tree (item.start + place)) item.items
      o.path;
  valueless = is_binding o.role && has_no_value item.items o.path;
}

-- items of a tree with their modules as a group, where names are read so and this is the scope of
-- the top bindings
abbrev pub group_of : Reading → Scope → List Item → List TopItem → List (Option ℕ) → Group
group_of reading top tree items owners = record {
  items =
      map
      (λ item.
      map (mention_of reading tree (mentioned reading top tree items) item)
      (occurrences item.items)) items;
  owners = owners;
}

-- What items declare and refer to.

-- the identifier of item s with this number
abbrev pub mention_at : Group → ℕ → ℕ → Option Mention
mention_at g s i = option_and_then (λ mentions. slice_get mentions i) (slice_get g.items s)

-- item s refers to the top binding b, or assigns to it, by this identifier
pub record Refers (g : Group) (s b : ℕ) (by : Mention) : Type 0 where
  pub at : ℕ
  pub there : mention_at g s at ≡ Some by
  pub denotes : by.top ≡ Some b
  pub refers : by.declares ≡ false

-- the identifier of item t with this number declares b
pub record DeclaresAt (g : Group) (t b at : ℕ) (by : Mention) : Type 0 where
  pub there : mention_at g t at ≡ Some by
  pub denotes : by.top ≡ Some b
  pub declares : by.declares ≡ true

-- item t declares b
abbrev pub Declares : Group → ℕ → ℕ → Type 0
Declares g t b = (at : ℕ) × (by : Mention) × DeclaresAt g t b at by

-- What sets up a binding after its declaration.

-- item d is the first that declares b
pub record DeclaresFirst (g : Group) (d : ℕ) (b : ℕ) : Type 0 where
  pub declares : Declares g d b
  pub first : (u : ℕ) → Declares g u b → d ≤ u

-- b is declared without a value: the first declarator of it in item d has none
pub record IsWithoutValue (g : Group) (d b : ℕ) : Type 0 where
  pub at : ℕ
  pub by : Mention
  pub declares : DeclaresAt g d b at by
  pub first : (other : ℕ) (its : Mention) → DeclaresAt g d b other its → at ≤ other
  pub no_value : by.valueless ≡ true

-- item u gives b a value, perhaps in a function: it assigns b or has it in an argument of a call
pub record Fills (g : Group) (u b : ℕ) : Type 0 where
  pub by : Mention
  pub refers : Refers g u b by
  pub fills : (by.assigned ≡ true) ⊎ (by.argument ≡ true)

-- how a later item of a module sets up b
pub data SetsUpBy (g : Group) (m d t b : ℕ) : Type 0 where
  -- at once, it assigns to a member of b, or to a member of such a member and so on
  by_member : (by : Mention) →
      Refers g t b by →
      by.later ≡ false →
      by.chain ≡ true →
      SetsUpBy g m d t b
  -- at once, it calls `Object.assign` with `b.prototype` in an argument
  by_prototype : (by : Mention) →
      Refers g t b by →
      by.later ≡ false →
      by.prototype ≡ true →
      SetsUpBy g m d t b
  -- b is declared without a value, and it is the first later item of the module that gives it one
  by_value : IsWithoutValue g d b →
      Fills g t b →
      ((u : ℕ) → IsOf g u m → d < u → u < t → Fills g u b → ⊥) →
      SetsUpBy g m d t b

-- item t sets up b: it is a later item of the module that declares b first, and does so in one of
-- three ways
pub record SetsUp (g : Group) (t : ℕ) (b : ℕ) : Type 0 where
  pub which : ℕ
  pub first : ℕ
  pub declares : DeclaresFirst g first b
  pub its : IsOf g first which
  pub same : IsOf g t which
  pub later : first < t
  pub by : SetsUpBy g which first t b

-- item t declares b or sets it up
abbrev pub Provides : Group → ℕ → ℕ → Type 0
Provides g t b = Declares g t b ⊎ SetsUp g t b

-- Dependencies and needs.

-- item s depends on item t: it refers to a binding that t provides
pub record Depends (g : Group) (s t : ℕ) : Type 0 where
  pub other : s ≢ t
  pub binding : ℕ
  pub by : Mention
  pub refers : Refers g s binding by
  pub provides : Provides g t binding

-- item s refers at once to a binding that t provides
pub record DependsAtOnce (g : Group) (s t : ℕ) : Type 0 where
  pub binding : ℕ
  pub by : Mention
  pub refers : Refers g s binding by
  pub at_once : by.later ≡ false
  pub provides : Provides g t binding

-- the dependency is strong: s is free, or refers at once to a binding that t provides
pub record IsStrong (g : Group) (s t : ℕ) : Type 0 where
  pub depends : Depends g s t
  pub at_once : IsFree g s ⊎ DependsAtOnce g s t

-- the dependency is weak: it is not strong
pub record IsWeak (g : Group) (s t : ℕ) : Type 0 where
  pub depends : Depends g s t
  pub not_strong : IsStrong g s t → ⊥

-- two items are not of one module
pub record IsAcross (g : Group) (s t : ℕ) : Type 0 where
  pub apart : (m : ℕ) → IsOf g s m → IsOf g t m → ⊥

-- item s needs item t: it depends on it, they are not of one module, and no path of dependencies
-- leads back if the dependency is weak
pub record Needs (g : Group) (s t : ℕ) : Type 0 where
  pub depends : Depends g s t
  pub across : IsAcross g s t
  pub holds : IsWeak g s t → Path (Depends g) t s → ⊥

-- a step leads from an item to one that it needs, or to an earlier one of its module
pub data Step (g : Group) (s t : ℕ) : Type 0 where
  by_need : Needs g s t → Step g s t
  by_own_order : (m : ℕ) → IsOf g s m → IsOf g t m → t < s → Step g s t

-- What is promised of an order.

-- a stands before b
pub record StandsBefore (order : List ℕ) (a b : ℕ) : Type 0 where
  pub i : ℕ
  pub j : ℕ
  pub before : i < j
  pub first : slice_get order i ≡ Some a
  pub second : slice_get order j ≡ Some b

-- each item stands once
pub record IsOrderOf (g : Group) (order : List ℕ) : Type 0 where
  pub all : (s : ℕ) → (s < length g.items) ↔ Contains order s
  pub once : IsDistinct nat_eq order

-- the order that is promised. Own order: an item stands before an earlier one of its module only
-- where a path of steps leads from that one back to it. Needs: an item stands before one that it
-- needs only where a path of dependencies leads from that one back to it, and a path of steps from
-- it to itself. Numbers: the items below a bound stand as they are numbered, where from none of
-- them a path of steps leads to itself or to a later one of them. With the bound at all items none
-- is moved
pub record IsGoodOrder (g : Group) (order : List ℕ) : Type 0 where
  pub order_of : IsOrderOf g order
  pub own : (m s t : ℕ) →
      IsOf g s m →
      IsOf g t m →
      t < s →
      StandsBefore order s t →
      Path (Step g) t s
  pub needs : (s t : ℕ) →
      Needs g s t →
      StandsBefore order s t →
      Path (Depends g) t s × Path (Step g) s s
  pub as_numbered : (bound s t : ℕ) →
      bound ≤ length g.items →
      IsSettled (Step g) bound →
      s < bound →
      t < bound →
      StandsBefore order s t →
      s < t
