-- What becomes of the statements of a CommonJS module in its load function: names get contexts,
-- literal calls of `require` become calls of load functions, and empty statements go.
use Rattle.std.specs.Prelude.{◌≡◌, ℕ, zero, suc, ◌+◌, ◌==◌, ◌⊎◌, true, false, cond, List, [], ◌∷◌, Option, ⊤}
use Rattle.bundle_syntax.specs.declared.kind.ExportMetadata.{ExportMetadata}
use Rattle.bundle_syntax.specs.declared.kind.VarDeclKind.{VarDeclKind}
use Rattle.bundle_syntax.specs.declared.piece.Role.{Role}
use Rattle.bundle_syntax.specs.declared.piece.Role.TheVariants as r
use Rattle.bundle_syntax.specs.Item as h
use Rattle.bundle_syntax.specs.Item.{Item, Head}
use Rattle.bundle_rules.specs.Places.{Spot, past, Occurrence, is_binding}
use Rattle.bundle_rules.specs.Scopes.{Cjs}
use Rattle.bundle_rules.specs.Declarations.{BySymbol, Declared}
use Rattle.bundle_rules.specs.Denotes.{denoted_of}
use Rattle.bundle_rules.specs.Nodes.{Text}
use Rattle.bundle_rules.specs.Idents.{Ident}
use Rattle.bundle_scope_names.proofs.Numbering.{Numbering, context_of}
use Rattle.bundle_rules.specs.Callable.{is_module_head}
use Rattle.bundle_tree_places.specs.Edits.{is_occurrence}
use Rattle.bundle_merge_theory.specs.noted.Spots.{occurrence_here}
use Rattle.bundle_merge_theory.specs.loaded.Kept.{StandsBeside, KeepsName}

-- `Turned L depth xs ys`, where `L` tells the names of load functions: whole nodes, of which
-- `depth` are open at first, and what becomes of them
pub data Turned (L : Ident → Type 0) : ℕ → List Item → List Item → Type 0 where
  over : Turned L zero [] []
  begun : {depth field : ℕ} {head : Head} {xs ys : List Item} → is_module_head head ≡ false →
      Turned L (suc depth) xs ys → Turned L depth (h.Open field head ∷ xs) (h.Open field head ∷ ys)
  -- notes may be cleared
  declares : {depth field : ℕ} {kind : VarDeclKind} {meta its : ExportMetadata} {xs ys : List Item}
      →
      Turned L (suc depth) xs ys →
      Turned L depth (h.Open field (h.VarDecl kind meta) ∷ xs) (h.Open field (h.VarDecl kind its)
      ∷ ys)
  ended : {depth : ℕ} {xs ys : List Item} → Turned L depth xs ys →
      Turned L (suc depth) (h.Close ∷ xs) (h.Close ∷ ys)
  -- a name keeps its symbol
  named : {depth field ctxt its : ℕ} {x : Text} {role : Role} {xs ys : List Item} →
      is_occurrence role ≡ true → Turned L depth xs ys →
      Turned L depth (h.Ident field x ctxt role ∷ xs) (h.Ident field x its role ∷ ys)
  word : {depth field ctxt its : ℕ} {x : Text} {xs ys : List Item} → Turned L depth xs ys →
      Turned L depth (h.Ident field x ctxt r.Word ∷ xs) (h.Ident field x its r.Word ∷ ys)
  empty : {depth field : ℕ} {xs ys : List Item} → Turned L depth xs ys →
      Turned L depth (h.Hole field ∷ xs) (h.Hole field ∷ ys)
  -- a literal call
  called : {depth field callee ctxt outer inner : ℕ} {x : Text} {load : Ident} {value : Text}
      {raw : Option Text} {xs ys : List Item} →
      L load → Turned L depth xs ys →
      Turned L depth (h.Open field h.CallExpr ∷ h.Ident callee x ctxt r.Reference
      ∷ h.Open outer (h.ExprOrSpread false) ∷ h.Open inner (h.Str value raw) ∷ h.Close
      ∷ h.Close ∷ h.Close ∷ xs) (h.Open field h.CallExpr ∷ h.Ident 0 load.0 load.1 r.Reference
      ∷ h.Close ∷ ys)
  -- an empty statement
  skipped : {field : ℕ} {xs ys : List Item} → Turned L zero xs ys →
      Turned L zero (h.Open field h.EmptyStmt ∷ h.Close ∷ xs) ys

-- which node goes to which, where these begin at these places
abbrev pub NodeGoes : {L : Ident → Type 0} {depth : ℕ} {xs ys : List Item} → Turned L depth xs ys →
    (from to : ℕ) → ℕ → ℕ → Type 0
NodeGoes over from to a b = ⊥
NodeGoes (begun own rest) from to a b =
    ((a ≡ from) × (b ≡ to)) ⊎ NodeGoes rest (from + 1) (to + 1) a b
NodeGoes (declares rest) from to a b =
    ((a ≡ from) × (b ≡ to)) ⊎ NodeGoes rest (from + 1) (to + 1) a b
NodeGoes (ended rest) from to a b = NodeGoes rest (from + 1) (to + 1) a b
NodeGoes (named is rest) from to a b = NodeGoes rest (from + 1) (to + 1) a b
NodeGoes (word rest) from to a b = NodeGoes rest (from + 1) (to + 1) a b
NodeGoes (empty rest) from to a b = NodeGoes rest (from + 1) (to + 1) a b
NodeGoes (called is rest) from to a b =
    ((a ≡ from) × (b ≡ to)) ⊎ NodeGoes rest (from + 7) (to + 3) a b
NodeGoes (skipped rest) from to a b = NodeGoes rest (from + 2) to a b

-- and back
abbrev pub turned_origin : {L : Ident → Type 0} {depth : ℕ} {xs ys : List Item} →
    Turned L depth xs ys →
    (from to : ℕ) → ℕ → ℕ
turned_origin over from to b = 0
turned_origin (begun own rest) from to b =
    cond (b == to) from (turned_origin rest (from + 1) (to + 1) b)
turned_origin (declares rest) from to b =
    cond (b == to) from (turned_origin rest (from + 1) (to + 1) b)
turned_origin (ended rest) from to b = turned_origin rest (from + 1) (to + 1) b
turned_origin (named is rest) from to b = turned_origin rest (from + 1) (to + 1) b
turned_origin (word rest) from to b = turned_origin rest (from + 1) (to + 1) b
turned_origin (empty rest) from to b = turned_origin rest (from + 1) (to + 1) b
turned_origin (called is rest) from to b =
    cond (b == to) from (turned_origin rest (from + 7) (to + 3) b)
turned_origin (skipped rest) from to b = turned_origin rest (from + 2) to b

-- a name becomes its symbol with the context of what it denotes by its symbol in the module; or,
-- where it refers, the name of a load function
abbrev pub FitsName : (L : Ident → Type 0) → Numbering → List Declared → Occurrence → Ident →
    Type 0
FitsName L g ds o name =
    ((name.0 ≡ o.sym) × (name.1 ≡ context_of g (denoted_of BySymbol Cjs ds o)))
    ⊎ ((is_binding o.role ≡ false) × L name)

-- so do these names in turn
abbrev pub FitNames : (L : Ident → Type 0) → Numbering → List Declared → List Occurrence →
    List Ident → Type 0
FitNames L g ds [] [] = ⊤
FitNames L g ds (o ∷ os) (name ∷ names) = FitsName L g ds o name × FitNames L g ds os names
FitNames L g ds _ _ = ⊥

-- each name that is kept has the context of what it denotes by its symbol in the module, of which
-- these are all declarations
abbrev pub HasTurnedContexts : {L : Ident → Type 0} → Numbering → List Declared →
    {depth : ℕ} {xs ys : List Item} → Turned L depth xs ys → Spot → Type 0
HasTurnedContexts g ds over s = ⊤
HasTurnedContexts g ds (begun {field = field} {head = head} own rest) s =
    HasTurnedContexts g ds rest (past s (h.Open field head))
HasTurnedContexts g ds (declares {field = field} {kind = kind} {meta = meta} rest) s =
    HasTurnedContexts g ds rest (past s (h.Open field (h.VarDecl kind meta)))
HasTurnedContexts g ds (ended rest) s = HasTurnedContexts g ds rest (past s h.Close)
HasTurnedContexts {L = L} g ds
    (named {field = field} {ctxt = ctxt} {its = its} {x = x} {role = role} is
    rest) s =
    FitsName L g ds (occurrence_here s field x ctxt role) (x, its)
    × HasTurnedContexts g ds rest (past s (h.Ident field x ctxt role))
HasTurnedContexts g ds (word {field = field} {ctxt = ctxt} {x = x} rest) s =
    HasTurnedContexts g ds rest (past s (h.Ident field x ctxt r.Word))
HasTurnedContexts g ds (empty {field = field} rest) s =
    HasTurnedContexts g ds rest (past s (h.Hole field))
HasTurnedContexts g ds (called {field = field} is rest) s =
    HasTurnedContexts g ds rest
    (record {
      place = s.place + 7;
      path = (past (past s (h.Open field h.CallExpr)) h.Close).path;
    })
HasTurnedContexts g ds (skipped {field = field} rest) s =
    HasTurnedContexts g ds rest (past (past s (h.Open field h.EmptyStmt)) h.Close)

-- occurrences of the module, and those of the body: a name is kept, or a reference gets another
-- name
pub data FollowsTurned (L : Ident → Type 0) (R : ℕ → ℕ → Type 0) (g : Numbering)
    (ds : List Declared) :
    List Occurrence → List Occurrence → Type 0 where
  done : FollowsTurned L R g ds [] []
  kept : {o u : Occurrence} {os us : List Occurrence} → StandsBeside R o u → KeepsName g ds o u →
      FollowsTurned L R g ds os us → FollowsTurned L R g ds (o ∷ os) (u ∷ us)
  changed : {o u : Occurrence} {os us : List Occurrence} → StandsBeside R o u →
      is_binding o.role ≡ false → L (u.sym, u.ctxt) → FollowsTurned L R g ds os us →
      FollowsTurned L R g ds (o ∷ os) (u ∷ us)
