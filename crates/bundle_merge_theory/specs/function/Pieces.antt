-- The statements of a CommonJS module one by one, with what is made of them.
use Rattle.std.specs.Prelude.{◌≡◌, ⊤, ℕ, zero, false, List, [], ◌∷◌, fold}
use Rattle.bundle_syntax.specs.Item as h
use Rattle.bundle_syntax.specs.Item.{Item}
use Rattle.bundle_rules.specs.Places.{Spot, Occurrence, past, occurrences_from, is_binding}
use Rattle.bundle_rules.specs.Scopes.{Cjs}
use Rattle.bundle_rules.specs.Declarations.{BySymbol, Declared}
use Rattle.bundle_rules.specs.Denotes.{Denoted, denoted_of}
use Rattle.bundle_rules.specs.Idents.{Ident}
use Rattle.bundle_rules.specs.Statements.{Element}
use Rattle.bundle_rules.specs.Program.{Program}
use Rattle.bundle_rules.specs.Meaning.{Load, Meant, Known, OwnMeaning, inner_bindings, is_inside, own_view}
use Rattle.bundle_scope_names.specs.fit.Sorts.{AStmt}
use Rattle.bundle_scope_names.specs.fit.Fits.{IsFit}
use Rattle.bundle_scope_names.proofs.Numbering.{context_of}
use Rattle.bundle_merge_theory.specs.walked.Names.{idents_among}
use Rattle.bundle_merge_theory.specs.walked.Renaming.{ItemMeaning, HasMarks, HasNoLoneName}
use Rattle.bundle_merge_theory.specs.loaded.Names.{NamedAs}
use Rattle.bundle_merge_theory.specs.loaded.Pieces.{inner_there}
use Rattle.bundle_merge_theory.specs.loaded.Turned.{Turned}
use Rattle.bundle_merge_theory.specs.made.Given.{BundleContexts, numbers_in}
use Rattle.bundle_merge_theory.specs.function.Calls.{IsLoadName}

module _ (p : Program) (list : List ℕ) (context : BundleContexts) (c : ℕ) (ds : List Declared) where
  -- which identifier a name of the module becomes, of which these are all declarations, and what
  -- it means, where these are the bindings inside its statement
  pub data NameFor (inner : List Denoted) (o : Occurrence) (name : Ident) : Meant → Type 0 where
    kept_name : {meant : Meant} →
        name ≡ (o.sym, context_of (numbers_in context c) (denoted_of BySymbol Cjs ds o)) →
        NamedAs c inner (denoted_of BySymbol Cjs ds o) meant →
        NameFor inner o name meant
    load_name : (load : IsLoadName p list context name) →
        is_binding o.role ≡ false →
        is_inside 0 (denoted_of BySymbol Cjs ds o) ≡ false →
        NameFor inner o name (Known (Load load.which))

  -- each in turn
  abbrev pub AllNamed : List Denoted → List Occurrence → List Ident → List Meant → Type 0
  AllNamed inner [] [] [] = ⊤
  AllNamed inner (o ∷ os) (name ∷ names) (meant ∷ meants) =
      NameFor inner o name meant × AllNamed inner os names meants
  AllNamed inner _ _ _ = ⊥

  -- a statement that stands at this spot as these elements, and what is made of it
  pub record IsPiece (s : Spot) (x : List Item) (statement : List Element) (made : List Item) :
      Type 0 where
    pub turned : Turned (IsLoadName p list context) zero x made
    pub told : ItemMeaning
    pub marked : HasMarks made told
    pub means : OwnMeaning p c statement told.1
    pub each : AllNamed (inner_there ds s x) (occurrences_from s x) (idents_among made) told.0
    pub called : inner_bindings (own_view p c Cjs) 0 statement ≡ inner_there ds s x
    pub lone : HasNoLoneName made
    pub fit : IsFit AStmt 0 made

  -- the parts of the module from a spot on, its statements, and what is made of them; empty ones
  -- go
  pub data Laid : Spot → List (List Item) → List (List Element) → List (List Item) → Type 0 where
    all_laid : {s : Spot} → Laid s [] [] []
    passed : {s : Spot} {parts : List (List Item)} {statements : List (List Element)}
        {bodies : List (List Item)} →
        Laid (past (past s (h.Open 0 h.EmptyStmt)) h.Close) parts statements bodies →
        Laid s ((h.Open 0 h.EmptyStmt ∷ h.Close ∷ []) ∷ parts) statements bodies
    laid : {s : Spot} {x made : List Item} {statement : List Element}
        {parts bodies : List (List Item)} {statements : List (List Element)} →
        IsPiece s x statement made →
        Laid (fold past s x) parts statements bodies →
        Laid s (x ∷ parts) (statement ∷ statements) (made ∷ bodies)
