-- What is told of a statement of a module: what each of its names means, and which identifier
-- stands for that.
use Rattle.std.specs.Prelude.{◌≡◌, ⊤, ℕ, true, false, List, [], ◌∷◌, Option, Some, None, filter, map, position, if◌then◌else◌}
use Rattle.bundle_syntax.specs.Item.{Item}
use Rattle.bundle_tree_rebuild.specs.declared.rewrite.Whole.TheVariants as w
use Rattle.bundle_tree_rebuild.specs.Work.{Step}
use Rattle.bundle_rules.specs.Places.{Occurrence, is_binding}
use Rattle.bundle_rules.specs.Scopes.{ModuleKind}
use Rattle.bundle_rules.specs.Declarations.{BySymbol, declared}
use Rattle.bundle_rules.specs.Denotes.{Denoted, Global, denoted_of}
use Rattle.bundle_rules.specs.Mentions.{same_denoted, each_denoted_once}
use Rattle.bundle_rules.specs.Idents.{Ident}
use Rattle.bundle_rules.specs.Statements.{TopItem, Element, default_name}
use Rattle.bundle_rules.specs.Entries.{has_import_meta}
use Rattle.bundle_rules.specs.Program.{Program, tree_of}
use Rattle.bundle_rules.specs.Linking.{Declared}
use Rattle.bundle_rules.specs.Meaning.{Label, Of, Load, Meta, OwnName, Meant, Inside, Known, Unbound, IsMeant, OwnMeaning, inner_bindings, is_inside, own_view}
use Rattle.bundle_rules.specs.OwnForms.{KeepsForm}
use Rattle.bundle_scope_names.proofs.Numbering.{context_of}
use Rattle.bundle_merge_theory.specs.noted.Marked.{Note}
use Rattle.bundle_merge_theory.specs.noted.Stated.{declares_default}
use Rattle.bundle_merge_theory.specs.walked.Stated.{SameStated}
use Rattle.bundle_merge_theory.specs.made.Given.{BundleContexts, numbers_in, ident_of_label, default_ident}
use Rattle.bundle_merge_theory.specs.made.Steps.{IsCalled, IsStepTo, meta_ident, occurrences_in}
use Rattle.bundle_merge_theory.specs.made.Made.{IsStatedAs}

-- what an occurrence denotes in its module by its symbol
abbrev pub denoted_in_module : Program → ℕ → ModuleKind → Occurrence → Denoted
denoted_in_module p m kind o = denoted_of BySymbol kind (declared BySymbol kind (tree_of p m)) o

-- the bindings inside a top item
abbrev pub inner_of : Program → ℕ → ModuleKind → TopItem → List Denoted
inner_of p m kind top =
    each_denoted_once
    (filter (is_inside 0) (map (denoted_in_module p m kind) (occurrences_in (tree_of p m) top)))

-- the identifier that an occurrence of its own module keeps: its symbol, with the context of what
-- it denotes
abbrev pub kept_ident : Program → BundleContexts → ℕ → ModuleKind → Occurrence → Ident
kept_ident p context m kind o =
    (o.sym, context_of (numbers_in context m) (denoted_in_module p m kind o))

-- what an occurrence means, where these are the bindings inside its statement, and the identifier
-- that it becomes
pub data IsNamedFor (p : Program) (list : List ℕ) (context : BundleContexts) (m : ℕ)
    (kind : ModuleKind)
    (inner : List Denoted) (o : Occurrence) : Meant → Ident → Type 0 where
  inside : {k : ℕ} →
      position (same_denoted (denoted_in_module p m kind o)) inner ≡ Some k →
      is_inside 0 (denoted_in_module p m kind o) ≡ true →
      IsNamedFor p list context m kind inner o (Inside k) (kept_ident p context m kind o)
  known : {l : Label} →
      is_inside 0 (denoted_in_module p m kind o) ≡ false →
      IsMeant p l →
      IsNamedFor p list context m kind inner o (Known l) (ident_of_label p list context l)
  unbound : denoted_in_module p m kind o ≡ Global o.sym →
      IsNamedFor p list context m kind inner o (Unbound o.sym) (o.sym, 1)

-- an occurrence with its step and its note
pub record IsNotedStep (p : Program) (list : List ℕ) (context : BundleContexts) (m : ℕ)
    (kind : ModuleKind) (inner : List Denoted) (o : Occurrence) (step : Step) (note : Note) : Type 0
  where
    pub is : IsStepTo step.ident note.whole step
    pub named : IsNamedFor p list context m kind inner o note.meant step.ident
    -- what declares keeps its name, and so does all that is inside
    pub binds : is_binding o.role ≡ true →
        IsStepTo (kept_ident p context m kind o) w.Alone step
    pub alone : is_inside 0 (denoted_in_module p m kind o) ≡ true → note.whole ≡ w.Alone
    -- a name that stands for itself alone means what it denotes stands for
    pub stands : (l : Label) → note.meant ≡ Known l → note.whole ≡ w.Alone →
        OwnName p m (denoted_in_module p m kind o) l
    -- the name of a literal call means the load function
    pub calls : (c : ℕ) → IsCalled p m o c → note.meant ≡ Known (Load c)

-- all in turn
abbrev pub AllNoted : Program → List ℕ → BundleContexts → ℕ → ModuleKind → List Denoted →
    List Occurrence → List Step → List Note → Type 0
AllNoted p list context m kind inner [] [] [] = ⊤
AllNoted p list context m kind inner (o ∷ os) (step ∷ steps) (note ∷ notes) =
    IsNotedStep p list context m kind inner o step note × AllNoted p list context m kind inner os
    steps notes
AllNoted p list context m kind inner _ _ _ = ⊥

-- what `import.meta` means in a module
abbrev pub meta_meant : Program → ℕ → Option Meant
meta_meant p m = if has_import_meta (tree_of p m) then Some (Known (Meta m)) else None

-- what the name of a default export means that has none of its own
abbrev pub default_meant : ℕ → Meant
default_meant m = Known (Of (Declared m default_name))

-- a statement and what is made of it have the same marks, which are what the statement means; and
-- what is made keeps its form
pub record IsStatementTold (p : Program) (list : List ℕ) (context : BundleContexts) (m : ℕ)
    (kind : ModuleKind)
    (statement : List Element) (made : List Item)
    (its : IsStatedAs p list context m kind statement made) : Type 0 where
  pub inner : inner_bindings (own_view p m kind) 0 statement ≡ inner_of p m kind its.top
  pub notes : List Note
  pub each : AllNoted p list context m kind (inner_of p m kind its.top)
      (occurrences_in (tree_of p m) its.top) its.steps notes
  pub same : SameStated (record {
    steps = its.steps;
    meta = meta_ident p list context m;
    clears_notes = true;
  }) (meta_meant p m) notes (default_ident context m) (default_meant m) its.given made
  pub means : OwnMeaning p m statement same.marks
  pub kept_form : KeepsForm p m statement made
  pub default : declares_default its.given ≡ true → IsMeant p (Of (Declared m default_name))
