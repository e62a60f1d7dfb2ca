-- What is told of a module whose names get their steps.
use Rattle.std.specs.Prelude.{◌≡◌, ℕ, suc, ◌==◌, Bool, true, false, List, Option, Some, None, Contains, slice_get, if◌then◌else◌}
use Rattle.std.specs.List.{AllZip}
use Rattle.std.specs.BTreeMap.{get_by_text}
use Rattle.bundle_syntax.specs.Item.{Item}
use Rattle.bundle_rules.specs.Cleared.{cleared}
use Rattle.bundle_rules.specs.Entries as e
use Rattle.bundle_rules.specs.Entries.{has_import_meta}
use Rattle.bundle_rules.specs.Denotes.{denoted_of}
use Rattle.bundle_rules.specs.Idents.{Ident}
use Rattle.bundle_rules.specs.Meaning as m
use Rattle.bundle_rules.specs.Nodes.{Text}
use Rattle.bundle_rules.specs.Program.{Program, tree_of, calls_of, resolves, IsReached}
use Rattle.bundle_rules.specs.Scopes.{ModuleKind}
use Rattle.bundle_rules.specs.Declarations.{BySymbol, declared}
use Rattle.bundle_scope_denote.specs.Listed.{IsDenotationTable}
use Rattle.bundle_scope_names.proofs.Numbering.{Numbering, context_of}
use Rattle.bundle_link_tables.specs.declared.table.RequireCall.{RequireCall}
use Rattle.bundle_link_tables.specs.declared.table.Use.{Use}
use Rattle.bundle_link_index.specs.Programs.{IsTableOf}
use Rattle.bundle_link_index.specs.Says.{target_of}
use Rattle.bundle_link_index.specs.declared.target.TargetRef.{TargetRef}
use Rattle.bundle_link_targets.specs.Handed.{IsMeaningAt}
use Rattle.bundle_link_targets.specs.Linked.{IsLinkingOf}
use Rattle.bundle_link_targets.specs.Meant.{AreModules}
use Rattle.bundle_link_targets.specs.declared.linking.Linking.{Linking}
use Rattle.bundle_link_targets.specs.declared.target.Meaning.{Meaning}
use Rattle.bundle_rules.specs.Places.{Occurrence, occurrences}
use Rattle.bundle_tree_rebuild.specs.Work.{rewrite_step}
use Rattle.bundle_tree_rebuild.specs.declared.rewrite.Rewrite.{Rewrite}
use Rattle.bundle_tree_rebuild.specs.declared.rewrite.Whole.TheVariants as w
use Rattle.bundle_merge_names.specs.declared.names.Label.TheVariants as n
use Rattle.bundle_merge_names.specs.declared.names.BundleNames.{BundleNames}
use Rattle.bundle_merge_names.specs.declared.part.BundleModule.{BundleModule}
use Rattle.bundle_merge_theory.specs.made.Given.{BundleContexts, ident_of_label, numbers_in}
use Rattle.bundle_merge_names.specs.Named.{scopes_in}
use Rattle.bundle_merge_names.specs.Idents.{label_ident, object_ident, target_ident}
use Rattle.bundle_merge_names.specs.Bundle.{list_of_part}
use Rattle.bundle_merge_names.specs.Numbers.{AreNumbersOf}
use Rattle.bundle_merge_names.specs.Own.{rewrite_told}
use Rattle.bundle_merge_theory.specs.made.Steps.{IsStep, IsStepTo, whole_of}

-- whether what is told stands at this place
abbrev pub is_at : {A : Type 0} → (A → ℕ) → ℕ → Option A → Bool
is_at of place None = false
is_at of place (Some x) = of x == place

-- whether the use that is told does
abbrev pub is_use_at : ℕ → Option Use → Bool
is_use_at place found = is_at (λ (used : Use). used.place) place found

-- whether the name of the call that is told does
abbrev pub is_call_at : ℕ → Option RequireCall → Bool
is_call_at place found = is_at (λ (call : RequireCall). suc call.place) place found

-- one more where that is so
abbrev pub past_by : Bool → ℕ → ℕ
past_by true number = suc number
past_by false number = number

-- the module to which the call that is told leads, where its name stands at this place
abbrev pub module_called : (Text → Option ℕ) → ℕ → Option RequireCall → Option ℕ
module_called leads place None = None
module_called leads place (Some call) =
    if suc call.place == place then leads call.specifier.now else None

-- what linking finds of the use of this number in a module
abbrev pub IsUseFound : Linking → ℕ → ℕ → Option Meaning → Type 0
IsUseFound linking k number found =
    (p : Program) → IsLinkingOf p linking → IsReached p k → IsMeaningAt p k number found

-- the next use, if it stands at the place, means nothing
abbrev pub MeansNothing : Linking → ℕ → ℕ → Bool → Type 0
MeansNothing linking k number is_use = is_use ≡ true → IsUseFound linking k number None

-- what becomes of the name at a place, behind so many uses and calls
pub data IsRewritten
    (part : BundleModule) (k : ℕ) (linking : Linking) (names : BundleNames) (uses calls place : ℕ)
    (own rewrite : Rewrite) : Type 0 where
  by_use : (meaning : Meaning) →
      is_use_at place (slice_get part.tables.now.uses.items uses) ≡ true →
      IsUseFound linking k uses (Some meaning) →
      rewrite_told rewrite ≡ (target_ident names meaning.target, whole_of meaning.steps) →
      IsRewritten part k linking names uses calls place own rewrite
  by_call : (c : ℕ) →
      MeansNothing linking k uses (is_use_at place (slice_get part.tables.now.uses.items uses)) →
      module_called (get_by_text part.leads.now) place (slice_get part.tables.now.calls.items calls)
      ≡ Some c →
      rewrite_told rewrite ≡ (label_ident names (n.Load c), w.Call) →
      IsRewritten part k linking names uses calls place own rewrite
  by_own :
      MeansNothing linking k uses (is_use_at place (slice_get part.tables.now.uses.items uses)) →
      module_called (get_by_text part.leads.now) place (slice_get part.tables.now.calls.items calls)
      ≡ None →
      rewrite_told rewrite ≡ rewrite_told own →
      IsRewritten part k linking names uses calls place own rewrite

-- a module of a program, read as this kind, with its list and its tables, linked, where names are
-- those of the contexts
pub record IsModuleReadAs (p : Program) (list : List ℕ) (context : BundleContexts) (k : ℕ)
    (kind : ModuleKind) (part : BundleModule)
    (linking : Linking) (names : BundleNames) : Type 0 where
  pub reached : IsReached p k
  pub modules : AreModules p
  pub linked : IsLinkingOf p linking
  pub tree : tree_of p k ≡ cleared (list_of_part part)
  pub table : IsDenotationTable BySymbol kind (list_of_part part) part.denotations.now
  pub tables : IsTableOf p k part.tables.now
  pub meta : part.tables.now.has_import_meta ≡ has_import_meta (tree_of p k)
  pub leads : (s : Text) → p.leads k s ≡ get_by_text part.leads.now s
  pub numbers :
      AreNumbersOf kind (list_of_part part) part.denotations.now (numbers_in context k)
      (scopes_in names k)
  pub targets : (t : TargetRef) →
      m.IsMeant p (m.Of (target_of t)) →
      target_ident names t ≡ ident_of_label p list context (m.Of (target_of t))
  pub loads : (c : ℕ) (call : e.RequireCall) →
      Contains (calls_of p k) call →
      resolves p k call.specifier ≡ Some c →
      label_ident names (n.Load c) ≡ ident_of_label p list context (m.Load c)
  pub its_meta : has_import_meta (tree_of p k) ≡ true →
      object_ident names part.written k ≡ ident_of_label p list context (m.Meta k)

-- these become the occurrences of the module in turn
abbrev pub AreModuleRewrites : Program → List ℕ → BundleContexts → ℕ → ModuleKind → List Rewrite →
    Type 0
AreModuleRewrites p list context k kind rewrites =
    AllZip (λ o rewrite. IsStep p list context k kind o (rewrite_step rewrite))
    (occurrences (tree_of p k)) rewrites

-- the identifier of an occurrence of a list, where its bindings have the contexts of a numbering
abbrev pub numbered_ident : ModuleKind → List Item → Numbering → Occurrence → Ident
numbered_ident kind items g o =
    (o.sym, context_of g (denoted_of BySymbol kind (declared BySymbol kind items) o))

-- these become the occurrences of a list in turn, each what it denotes
abbrev pub AreOwnSteps : ModuleKind → List Item → Numbering → List Rewrite → Type 0
AreOwnSteps kind items g rewrites =
    AllZip (λ o rewrite. IsStepTo (numbered_ident kind items g o) w.Alone (rewrite_step rewrite))
    (occurrences items) rewrites
