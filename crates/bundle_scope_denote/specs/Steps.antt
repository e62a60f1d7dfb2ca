-- A step of the walk over a list, by what it changes.
use Rattle.std.specs.Prelude.{◌≡◌, ℕ, zero, suc, ◌+◌, ◌⊎◌, Bool as Truth, false, cond, List, [], ◌∷◌, ◌++◌, Option, Some, None, map, length, reverse, option_map, slice_get}
use Rattle.std.specs.List.{AllZip}
use Rattle.std.specs.Option.{option_to_list}
use Rattle.bundle_syntax.specs.declared.piece.Role.{Role}
use Rattle.bundle_syntax.specs.Item.{Item, Head}
use Rattle.bundle_rules.specs.Places as p
use Rattle.bundle_rules.specs.Places.{is_binding}
use Rattle.bundle_rules.specs.Scopes as s
use Rattle.bundle_rules.specs.Declarations as d
use Rattle.bundle_scope_denote.specs.declared.table.ScopeKind.TheVariants as k
use Rattle.bundle_scope_denote.specs.declared.walk.Declaration.{Declaration}
use Rattle.bundle_scope_denote.specs.declared.walk.Nodes.{Nodes}
use Rattle.bundle_scope_denote.specs.declared.walk.Open.{Open}
use Rattle.bundle_scope_denote.specs.declared.walk.ScopeWalk.{ScopeWalk}
use Rattle.bundle_scope_denote.specs.Kinds.{kind_as, reading_as, kind_named, kind_made, is_in_field, leaves_first_out, head_way_in, variable_way}
use Rattle.bundle_scope_denote.specs.Numbers.{NumberedScope, AreAround, numbered_scope, in_scope, name_as, KeepsNumbers}
use Rattle.bundle_scope_denote.specs.Chains.{AreInOrder, IsOnce, top_number}
use Rattle.bundle_scope_denote.specs.Walked.{IsMetBefore, IsDeclared, IsSeen, IsDefault, scope_in, declared_as, AreTablesTidy, StaysOnce}

-- the scopes and the names of a walk
abbrev pub scopes_of : ScopeWalk → List NumberedScope
scopes_of walk = map numbered_scope walk.scopes.items

abbrev pub walk_names : ScopeWalk → List d.Name
walk_names walk = map name_as walk.names.keys

-- so many more nodes of which the same is known, in front of others
abbrev pub repeated : ℕ → Open → List Open → List Open
repeated zero node rest = rest
repeated (suc more) node rest = node ∷ repeated more node rest

-- nodes one by one
abbrev pub one_by_one : List Nodes → List Open
one_by_one [] = []
one_by_one (nodes ∷ outer) = repeated nodes.more nodes.node (nodes.node ∷ one_by_one outer)

-- what is known of the nodes that are open, innermost first, and at last of what is outside all
-- nodes
abbrev pub nodes_open : ScopeWalk → List Open
nodes_open walk = repeated walk.more walk.inner (walk.inner ∷ one_by_one (reverse walk.outer.items))

-- a walk has met what stands before a place
abbrev pub IsWalkAt : ScopeWalk → List Item → ℕ → Type 0
IsWalkAt walk items place =
    IsMetBefore (reading_as walk.reading) (kind_as walk.kind) items place (scopes_of walk)
    (walk_names walk) walk.declarations.items walk.occurrences.items (nodes_open walk) walk.top

-- and its tables are tidy
abbrev pub IsTidyAt : ScopeWalk → ℕ → Type 0
IsTidyAt walk place = AreTablesTidy (scopes_of walk) (walk_names walk) place

-- a walk that has met nothing, before its module begins
pub record IsBlank (walk : ScopeWalk) : Type 0 where
  pub scopes : walk.scopes.items ≡ []
  pub names : walk.names.keys ≡ []
  pub declarations : walk.declarations.items ≡ []
  pub occurrences : walk.occurrences.items ≡ []
  pub outer : walk.outer.items ≡ []
  pub more : walk.more ≡ 0
  pub way : walk.inner.way ≡ None
  pub variable : walk.inner.variable ≡ None
  pub around : walk.inner.around ≡ top_number (kind_as walk.kind)
  pub own : walk.inner.own ≡ None
  pub block : walk.inner.block ≡ k.Block
  pub default : walk.inner.is_default ≡ false
  pub head : walk.inner.head ≡ None
  pub left : walk.inner.leaves_first_out ≡ false
  pub top : walk.top ≡ top_number (kind_as walk.kind)

-- what no step changes
pub record StaysInWalk (old new : ScopeWalk) : Type 0 where
  pub top : new.top ≡ old.top
  pub reading : new.reading ≡ old.reading
  pub kind : new.kind ≡ old.kind

-- a walk goes on by what stands at a place
pub record WalksOn (old new : ScopeWalk) (items : List Item) (place : ℕ) : Type 0 where
  pub is_at : IsWalkAt new items (place + 1)
  pub stays : StaysInWalk old new

-- the module of a walk begins
pub record Starts (old new : ScopeWalk) : Type 0 where
  pub is_at : (items : List Item) → IsWalkAt new items 0
  pub tidy : IsTidyAt new 0
  pub stays : StaysInWalk old new

-- the scope that a node makes
abbrev pub scope_made : Open → (place field : ℕ) → Head → Option NumberedScope
scope_made inner place field head =
    option_map (in_scope place (scope_in inner field)) (kind_made head inner.block inner.is_default)

-- a node is the innermost one now, and nothing else has changed
pub record Opens (old new : ScopeWalk) (node : Open) : Type 0 where
  pub inner : new.inner ≡ node
  pub nodes : nodes_open new ≡ node ∷ nodes_open old
  pub names : walk_names new ≡ walk_names old
  pub scopes : scopes_of new ≡ scopes_of old
  pub declarations : new.declarations.items ≡ old.declarations.items
  pub occurrences : new.occurrences.items ≡ old.occurrences.items
  pub stays : StaysInWalk old new

-- a node begins at a place
pub record BeginsNode
    (old new : ScopeWalk) (place field : ℕ) (head : Head) (is_nameless : Truth) : Type 0 where
  pub default : Option Declaration
  pub is_default : IsDefault (walk_names new) place old.top is_nameless default
  pub declarations : new.declarations.items ≡ old.declarations.items ++ option_to_list default
  pub occurrences : new.occurrences.items ≡ old.occurrences.items
  pub keeps : KeepsNumbers (walk_names old) (walk_names new)
  pub once : StaysOnce (walk_names old) (walk_names new)
  pub scopes :
      scopes_of new ≡ scopes_of old ++ option_to_list (scope_made old.inner place field head)
  pub way :
      new.inner.way
      ≡ cond (d.is_pattern head) old.inner.way
      (head_way_in head old.inner.variable old.inner.is_default)
  pub variable : new.inner.variable ≡ variable_way head (is_in_field old.inner.head field)
  pub block : new.inner.block ≡ kind_named (s.block_in head)
  pub defaults : new.inner.is_default ≡ s.exports_default head
  pub heads : (place : ℕ) → is_in_field new.inner.head place ≡ d.is_loop_head head place
  pub left : new.inner.leaves_first_out ≡ leaves_first_out head
  pub around : new.inner.around ≡ scope_in old.inner field
  pub own :
      new.inner.own
      ≡ option_map (λ _. length (scopes_of old)) (scope_made old.inner place field head)
  pub nodes : nodes_open new ≡ new.inner ∷ nodes_open old
  pub stays : StaysInWalk old new

-- an identifier stands at a place that binds or refers
pub record Occurs
    (old new : ScopeWalk) (place field : ℕ) (sym : List ℕ) (ctxt : ℕ) (role : Role) : Type 0 where
  pub number : ℕ
  pub named : slice_get (walk_names new) number ≡ Some (d.name_of (reading_as old.reading) sym ctxt)
  pub keeps : KeepsNumbers (walk_names old) (walk_names new)
  pub once : StaysOnce (walk_names old) (walk_names new)
  pub scopes : scopes_of new ≡ scopes_of old
  pub declared : Option Declaration
  pub is_declared :
      declared
      ≡ option_map (declared_as place number (scope_in old.inner field))
      (cond (is_binding role) old.inner.way None)
  pub declarations : new.declarations.items ≡ old.declarations.items ++ option_to_list declared
  pub occurrences :
      new.occurrences.items
      ≡ old.occurrences.items
      ++ record {
        place = place;
        name = number;
        scope = scope_in old.inner field;
        declaration = option_map (λ _. length old.declarations.items) declared;
      } ∷ []
  pub nodes : nodes_open new ≡ nodes_open old
  pub stays : StaysInWalk old new

-- the innermost node ends, if one is open
pub record EndsNode (old new : ScopeWalk) : Type 0 where
  pub nodes :
      (nodes_open old ≡ old.inner ∷ nodes_open new)
      ⊎ ((nodes_open old ≡ old.inner ∷ []) × (nodes_open new ≡ nodes_open old))
  pub names : walk_names new ≡ walk_names old
  pub scopes : scopes_of new ≡ scopes_of old
  pub declarations : new.declarations.items ≡ old.declarations.items
  pub occurrences : new.occurrences.items ≡ old.occurrences.items
  pub stays : StaysInWalk old new

-- a whole list was gone over: its declarations and its occurrences were met, each with its name and
-- the scopes around it
pub record IsWholeWalk
    (walk : ScopeWalk) (reading : d.Reading) (kind : s.ModuleKind)
    (items : List Item) : Type 0 where
  pub declared :
      AllZip (IsDeclared (scopes_of walk) (walk_names walk)) walk.declarations.items
      (d.declared reading kind items)
  pub seen :
      AllZip
      (IsSeen (scopes_of walk) (walk_names walk) reading kind (d.declared reading kind items))
      walk.occurrences.items (p.occurrences items)
  pub outermost : AreAround (scopes_of walk) (Some walk.top) (s.outermost kind)
  pub top : walk.top ≡ top_number kind
  pub order : AreInOrder (scopes_of walk)
  pub once : IsOnce (walk_names walk)
