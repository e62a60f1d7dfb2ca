-- How far a list was gone over.
use Rattle.std.specs.Prelude.{◌≡◌, ◌<◌, ◌+◌, ℕ, Bool as Truth, true, false, cond, not, ◌==◌, ◌&&◌, List, [], ◌∷◌, ◌++◌, Option, Some, None, codes, drop, slice_get, option_map, is_some}
use Rattle.std.specs.List.{AllZip}
use Rattle.bundle_syntax.specs.declared.piece.Role.{Role}
use Rattle.bundle_syntax.specs.declared.piece.Role.TheVariants as o
use Rattle.bundle_syntax.specs.Item as h
use Rattle.bundle_syntax.specs.Item.{Item}
use Rattle.bundle_rules.specs.Places as p
use Rattle.bundle_rules.specs.Scopes as s
use Rattle.bundle_rules.specs.Declarations as d
use Rattle.bundle_scope_denote.specs.declared.table.ScopeKind.TheVariants as k
use Rattle.bundle_scope_denote.specs.declared.table.Way.{Way}
use Rattle.bundle_scope_denote.specs.declared.table.Way.TheVariants as w
use Rattle.bundle_scope_denote.specs.declared.walk.Declaration.{Declaration}
use Rattle.bundle_scope_denote.specs.declared.walk.NameOccurrence.{NameOccurrence}
use Rattle.bundle_scope_denote.specs.declared.walk.Open.{Open}
use Rattle.bundle_scope_denote.specs.Kinds.{way_named, kind_named, is_in_field}
use Rattle.bundle_scope_denote.specs.Numbers.{NumberedScope, AreAround}
use Rattle.bundle_scope_denote.specs.Chains.{AreInOrder, IsOnce}

-- the number of the innermost scope around the places in this field of an inner node
abbrev pub scope_within : Option ℕ → (around : ℕ) → (is_left_out : Truth) → ℕ
scope_within None around is_left_out = around
scope_within (Some own) around is_left_out = cond is_left_out around own

abbrev pub scope_in : Open → ℕ → ℕ
scope_in inner field = scope_within inner.own inner.around (inner.leaves_first_out && field == 0)

-- nothing is noted of a node but how it declares the names in it
pub record IsBare (inner : Open) : Type 0 where
  pub own : inner.own ≡ None
  pub variable : inner.variable ≡ None
  pub head : inner.head ≡ None
  pub block : inner.block ≡ k.Block
  pub default : inner.is_default ≡ false
  pub left : inner.leaves_first_out ≡ false

-- the same is known of a node for which nothing is to be noted as of the one around it
pub record InheritsOpen (head : h.Head) (inner : Open) : Type 0 where
  pub bare : IsBare inner
  pub way : cond (d.is_pattern head) inner.way None ≡ inner.way

-- what is known of the innermost node says what the path means for what stands in it
pub record IsInnermost
    (scopes : List NumberedScope) (kind : s.ModuleKind) (inner : Open)
    (path : List p.Around) : Type 0 where
  pub way : (field : ℕ) → inner.way ≡ option_map way_named (d.way_of (p.in_field field path))
  pub variable : (field : ℕ) →
      inner.variable ≡ option_map way_named (d.way_of_declarator (p.in_field field path))
  pub defaults : (field : ℕ) → inner.is_default ≡ s.is_default (p.in_field field path)
  pub heads : (field : ℕ) → is_in_field inner.head field ≡ d.heads_loop (p.in_field field path)
  pub block : (field : ℕ) → inner.block ≡ kind_named (s.block_kind (p.in_field field path))
  pub scope : (field : ℕ) →
      AreAround scopes (Some (scope_in inner field)) (s.scopes_around kind (p.in_field field path))

-- the nodes that are inner, innermost first, and at last what is known outside all nodes
abbrev pub AreOpenNodes : List NumberedScope → s.ModuleKind → List Open → List p.Around → Type 0
AreOpenNodes scopes kind [] path = ⊥
AreOpenNodes scopes kind (inner ∷ outer) [] = IsInnermost scopes kind inner [] × (outer ≡ [])
AreOpenNodes scopes kind (inner ∷ outer) (node ∷ path) =
    IsInnermost scopes kind inner (node ∷ path) × AreOpenNodes scopes kind outer path

-- a declaration of the code is that of the definitions
pub record IsDeclared
    (scopes : List NumberedScope) (names : List d.Name) (declaration : Declaration)
    (declared : d.Declared) : Type 0 where
  pub place : declaration.place ≡ declared.place
  pub name : slice_get names declaration.name ≡ Some declared.name
  pub by : declaration.way ≡ way_named declared.by
  pub around : AreAround scopes (Some declaration.scope) declared.scopes

-- the declaration with this number, where there is a number
abbrev pub at_number : List d.Declared → Option ℕ → Option d.Declared
at_number all None = None
at_number all (Some number) = slice_get all number

-- an occurrence of the code is that of the definitions
pub record IsSeen
    (scopes : List NumberedScope) (names : List d.Name) (reading : d.Reading) (kind : s.ModuleKind)
    (all : List d.Declared) (seen : NameOccurrence) (occurrence : p.Occurrence) : Type 0 where
  pub place : seen.place ≡ occurrence.place
  pub name : slice_get names seen.name ≡ Some (d.name_of reading occurrence.sym occurrence.ctxt)
  pub around : AreAround scopes (Some seen.scope) (s.scopes_around kind occurrence.path)
  pub declaration : at_number all seen.declaration ≡ d.declaration_of reading kind occurrence
  pub declares : is_some seen.declaration ≡ is_some (d.declaration_of reading kind occurrence)

-- the declarations before a place are these
pub record AreDeclaredTo
    (scopes : List NumberedScope) (names : List d.Name) (reading : d.Reading) (kind : s.ModuleKind)
    (items : List Item) (place : ℕ) (declarations : List Declaration) : Type 0 where
  pub before : List d.Declared
  pub each : AllZip (IsDeclared scopes names) declarations before
  pub rest :
      before ++ d.declared_from reading kind (p.spot_before items place) (drop place items)
      ≡ d.declared reading kind items

-- the occurrences before a place are these
pub record AreSeenTo
    (scopes : List NumberedScope) (names : List d.Name) (reading : d.Reading) (kind : s.ModuleKind)
    (items : List Item) (place : ℕ) (occurrences : List NameOccurrence) : Type 0 where
  pub before : List p.Occurrence
  pub each :
      AllZip (IsSeen scopes names reading kind (d.declared reading kind items)) occurrences before
  pub rest :
      before ++ p.occurrences_from (p.spot_before items place) (drop place items)
      ≡ p.occurrences items

-- what was met before a place
pub record IsMetBefore
    (reading : d.Reading) (kind : s.ModuleKind) (items : List Item) (place : ℕ)
    (scopes : List NumberedScope) (names : List d.Name) (declarations : List Declaration)
    (occurrences : List NameOccurrence) (nodes_open : List Open) (top : ℕ) : Type 0 where
  pub stands : (p.spot_before items place).place ≡ place
  pub nodes : AreOpenNodes scopes kind nodes_open (p.spot_before items place).path
  pub outermost : AreAround scopes (Some top) (s.outermost kind)
  pub declared : AreDeclaredTo scopes names reading kind items place declarations
  pub seen : AreSeenTo scopes names reading kind items place occurrences

-- a name for which no identifier stands is declared
pub record IsDeclaredAlone
    (names : List d.Name) (place top : ℕ) (way : Way) (sym : List ℕ)
    (declaration : Declaration) : Type 0 where
  pub stands : declaration.place ≡ place
  pub named : slice_get names declaration.name ≡ Some (record { sym = sym; ctxt = None })
  pub by : declaration.way ≡ way
  pub around : declaration.scope ≡ top

-- the `default` of a nameless export is declared where there is one
abbrev pub IsDefault :
    List d.Name → (place top : ℕ) → (is_nameless : Truth) → Option Declaration → Type 0
IsDefault names place top true (Some declaration) =
    IsDeclaredAlone names place top w.Default (codes "default") declaration
IsDefault names place top true None = ⊥
IsDefault names place top false (Some declaration) = ⊥
IsDefault names place top false None = Unit {0}

-- whether a node begins, or an identifier stands there
abbrev pub begins_node_by : Option Item → Truth
begins_node_by (Some (h.Open field head)) = true
begins_node_by _ = false

abbrev pub is_identifier_by : Option Item → Truth
is_identifier_by (Some (h.Ident field sym ctxt role)) = true
is_identifier_by _ = false

-- whether a default export without a name begins with the first of three items
abbrev pub is_nameless_by : Option Item → Option Item → Option Item → Truth
is_nameless_by (Some (h.Open field h.ExportDefaultExpr)) second third = true
is_nameless_by (Some (h.Open field h.ExportDefaultDecl)) second third =
    not (begins_node_by second && is_identifier_by third)
is_nameless_by _ second third = false

-- whether a default export without a name begins with the first of these items
abbrev pub begins_nameless : List Item → Truth
begins_nameless [] = false
begins_nameless (item ∷ rest) = d.is_nameless_default item rest

-- a declaration by a way
abbrev pub declared_as : (place name scope : ℕ) → Way → Declaration
declared_as place name scope way = record { place = place; name = name; way = way; scope = scope }

-- whether an identifier binds or refers
abbrev pub occurs_as : Role → Truth
occurs_as o.Word = false
occurs_as _ = true

-- the tables before a place: the scopes are in order, their nodes begin before the place, and each
-- name is there once
pub record AreTablesTidy (scopes : List NumberedScope) (names : List d.Name)
    (place : ℕ) : Type 0 where
  pub order : AreInOrder scopes
  pub before : (i : ℕ) (x : NumberedScope) →
      slice_get scopes i ≡ Some x →
      s.scope_order x.scope < place + 2
  pub once : IsOnce names

-- each name is still there once
abbrev pub StaysOnce : List d.Name → List d.Name → Type 0
StaysOnce old new = IsOnce old → IsOnce new
