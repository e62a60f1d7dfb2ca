-- What becomes of the names of a module in a bundle, one by one.
use Rattle.std.specs.Prelude.{◌≡◌, ℕ, zero, suc, ◌+◌, ◌&&◌, Bool, true, not, bytes_eq, nat_le, nat_lt, List, Option, Some, None, Contains, filter, length, if◌then◌else◌}
use Rattle.bundle_syntax.specs.Item.{Item}
use Rattle.bundle_tree_rebuild.specs.declared.rewrite.Whole.{Whole}
use Rattle.bundle_tree_rebuild.specs.declared.rewrite.Whole.TheVariants as w
use Rattle.bundle_tree_rebuild.specs.Work.{Step, is_spelled_out_by}
use Rattle.bundle_rules.specs.Places.{Occurrence, occurrences}
use Rattle.bundle_rules.specs.Scopes.{ModuleKind, Es}
use Rattle.bundle_rules.specs.Declarations.{BySymbol, declared}
use Rattle.bundle_rules.specs.Denotes.{denoted_of}
use Rattle.bundle_rules.specs.Idents.{Ident}
use Rattle.bundle_rules.specs.Nodes.{Text}
use Rattle.bundle_rules.specs.Entries.{RequireCall, has_import_meta}
use Rattle.bundle_rules.specs.Program.{Program, tree_of, resolves, calls_of}
use Rattle.bundle_rules.specs.Linking.{Target}
use Rattle.bundle_rules.specs.Meaning.{Of, Load, Meta}
use Rattle.bundle_rules.specs.Bundle.{properties_tree}
use Rattle.bundle_rules.specs.Statements.{TopItem}
use Rattle.bundle_link_tables.specs.Used.{is_use, use_of}
use Rattle.bundle_link_targets.specs.Meant.{UseMeans}
use Rattle.bundle_scope_names.proofs.Numbering.{context_of}
use Rattle.bundle_merge_theory.specs.made.Given.{BundleContexts, numbers_in, numbers_answered, ident_of_label}

-- a step by which a name, with so much of what is around it, becomes an identifier, and what is
-- short is spelled out where the symbol changes
pub record IsStepTo (ident : Ident) (whole : Whole) (step : Step) : Type 0 where
  pub its_ident : step.ident ≡ ident
  pub its_whole : step.whole ≡ whole
  pub spells : (sym x : Text) → is_spelled_out_by step.spelling sym x ≡ not (bytes_eq sym x)

-- so many reads around a name stand for what it means
abbrev pub whole_of : ℕ → Whole
whole_of zero = w.Alone
whole_of (suc n) = w.Reads (suc n)

-- the name of a literal call of `require` that leads to a module
pub record IsCalled (p : Program) (m : ℕ) (o : Occurrence) (c : ℕ) : Type 0 where
  pub call : RequireCall
  pub linked : Contains (calls_of p m) call
  pub here : suc call.place ≡ o.place
  pub leads : resolves p m call.specifier ≡ Some c

-- a use of an imported name that means a target, by so many of the reads around it
pub record IsTargetUsed (p : Program) (m : ℕ) (o : Occurrence) (n : ℕ) (t : Target) : Type 0 where
  pub used : is_use (tree_of p m) o ≡ true
  pub means : UseMeans p m (use_of (tree_of p m) o) n t

-- the step of an occurrence of module m, read as this kind
pub data IsStep (p : Program) (list : List ℕ) (context : BundleContexts) (m : ℕ) (kind : ModuleKind)
    (o : Occurrence) (step : Step) : Type 0 where
  -- what is a name of the module, or of none, keeps its symbol, and has the context of what it
  -- denotes
  keeps : ((n : ℕ) (t : Target) → IsTargetUsed p m o n t → ⊥) →
      ((c : ℕ) → IsCalled p m o c → ⊥) →
      IsStepTo (
        o.sym,
        context_of (numbers_in context m)
            (denoted_of BySymbol kind (declared BySymbol kind (tree_of p m)) o),
      )
      w.Alone step →
      IsStep p list context m kind o step
  -- a use becomes the name of what it means, in place of the reads by which it means that
  uses : {n : ℕ} {t : Target} →
      IsTargetUsed p m o n t →
      IsStepTo (ident_of_label p list context (Of t)) (whole_of n) step →
      IsStep p list context m kind o step
  -- a literal call becomes a call of the module's load function
  calls : {c : ℕ} →
      IsCalled p m o c →
      IsStepTo (ident_of_label p list context (Load c)) w.Call step →
      IsStep p list context m kind o step

-- the step of an occurrence of what the hook answered for a module, as it stands alone
abbrev pub IsStepAnswered : BundleContexts → ℕ → List Item → Occurrence → Step → Type 0
IsStepAnswered context m properties o step =
    IsStepTo (
      o.sym,
      context_of (numbers_answered context m)
          (denoted_of BySymbol Es (declared BySymbol Es (properties_tree properties)) o),
    )
    w.Alone step

-- whether an occurrence stands in a top item
abbrev pub is_in : TopItem → Occurrence → Bool
is_in top o = nat_le top.start o.place && nat_lt o.place (top.start + length top.items)

-- the occurrences of a tree that stand in a top item
abbrev pub occurrences_in : List Item → TopItem → List Occurrence
occurrences_in tree top = filter (is_in top) (occurrences tree)

-- what `import.meta` becomes in a module
abbrev pub meta_ident : Program → List ℕ → BundleContexts → ℕ → Option Ident
meta_ident p list context m =
    if has_import_meta (tree_of p m) then Some (ident_of_label p list context (Meta m)) else None
