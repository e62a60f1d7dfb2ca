-- What is shown of the properties of the object of `import.meta`, whether its names get their
-- contexts in the bundle or have them already, by what the hook answered.
use Rattle.std.proofs.Common.{◌≡◌, ◌≤◌, ℕ, ◌+◌, List, [], ◌∷◌, Option, None, Some, slice_get}
use Rattle.std.specs.List.{AllZip}
use Rattle.bundle_syntax.specs.declared.kind.ExportMetadata.{ExportMetadata}
use Rattle.bundle_syntax.specs.Item.{Item}
use Rattle.bundle_rules.specs.Nodes.{Text}
use Rattle.bundle_rules.specs.Places.{occurrences, occurrences_from}
use Rattle.bundle_rules.specs.Scopes.{Es, ScopeKind, Inner}
use Rattle.bundle_rules.specs.Declarations.{BySymbol, Name, declared}
use Rattle.bundle_rules.specs.Denotes.{Bound, denotations}
use Rattle.bundle_rules.specs.Program.{Program}
use Rattle.bundle_rules.specs.Meaning.{Mark, Meta}
use Rattle.bundle_rules.specs.Bundle.{HoldsMeta, AsModule, Hooks, MayHold, AreFaultless, IsDue, properties_tree}
use Rattle.bundle_tree_places.specs.Edits.{InObject}
use Rattle.bundle_scope_names.proofs.Numbering.{Numbering}
use Rattle.bundle_scope_names.proofs.TreeLemmas.{its_context, set_by}
use Rattle.bundle_scope_names.specs.fit.Sorts.{AProperty, Many, slot}
use Rattle.bundle_scope_names.specs.fit.Fits.{AreFit}
use Rattle.bundle_merge_theory.specs.joined.Alike.{ArePlacesOneToOne}
use Rattle.bundle_merge_theory.specs.noted.Marked.{Marked}
use Rattle.bundle_merge_theory.specs.walked.Keeps.{notes_alone}
use Rattle.bundle_merge_theory.specs.made.Given.{HookAnswer, BundleContexts, Holder, NameOf}
use Rattle.bundle_merge_theory.specs.made.Alone.{IsHolder, OwnsHolder, TellApart}
use Rattle.bundle_merge_theory.proofs.answered.Inward.{IsMadeOf}
use Rattle.bundle_merge_theory.proofs.answered.Marks.{its_meants}
use Rattle.bundle_merge_theory.proofs.answered.Rewritten.{item_spot}

-- properties that stand in an object with these notes, as the hook answered them but for contexts,
-- which are those of a numbering of its bindings
pub record AreProperties (p : Program) (hooks : Hooks) (m : ℕ) (notes : ExportMetadata)
    (numbers : Numbering) (properties within : List Item) : Type 1 where
  pub held : MayHold p hooks m properties
  pub faultless : AreFaultless p properties
  pub fit : AreFit (slot 0 Many AProperty ∷ []) properties
  pub made_fit : AreFit (slot 0 Many AProperty ∷ []) within
  -- where its nodes stand in the object
  pub goes : ℕ → ℕ → Type 0
  pub one : ArePlacesOneToOne goes
  pub from_seven : (a b : ℕ) → goes a b → 7 ≤ b
  pub names : AllZip (λ o u. IsMadeOf goes (set_by (its_context numbers Es (declared BySymbol Es (properties_tree properties))) o) u)
      (occurrences (properties_tree properties))
      (occurrences_from (item_spot notes) within)
  -- the marks of both
  pub marks : List Mark
  pub source : Marked None InObject (notes_alone (its_meants properties)) properties marks []
  pub result : Marked None InObject (notes_alone (its_meants properties)) within marks []

-- a binding in a scope has a context that stands nowhere else
pub record HasHolder (p : Program) (answers : ℕ → Option HookAnswer) (context : BundleContexts) (m : ℕ)
    (holder : Holder) (number : ℕ) : Type 0 where
  pub is : IsHolder p answers holder
  pub owns : OwnsHolder p (HoldsMeta m) holder
  pub ctxt : number ≡ context holder
  pub other : NameOf (Meta m) ≡ holder → ⊥

-- they are the answer for a module, where contexts are told apart
pub record Answering (p : Program) (hooks : Hooks) (context : BundleContexts)
    (answers : ℕ → Option HookAnswer) (m : ℕ) (properties within : List Item) : Type 1 where
  pub notes : ExportMetadata
  pub numbers : Numbering
  pub its : AreProperties p hooks m notes numbers properties within
  pub apart : TellApart p answers context
  pub due : IsDue p AsModule (HoldsMeta m)
  -- what has the context of the binding of this name in the scope that begins there
  pub holder : ℕ → Text → Holder
  pub holds : (i : ℕ) (kind : ScopeKind) (begins : ℕ) (name : Name) →
      slice_get (denotations BySymbol Es (properties_tree properties)) i
      ≡ Some (Bound (Inner kind begins) name) →
      HasHolder p answers context m (holder begins name.sym) (numbers (begins + 2) name.sym)
  pub differ : (i j : ℕ) (kind other : ScopeKind) (a b : ℕ) (name its : Name) →
      slice_get (denotations BySymbol Es (properties_tree properties)) i
      ≡ Some (Bound (Inner kind a) name) →
      slice_get (denotations BySymbol Es (properties_tree properties)) j
      ≡ Some (Bound (Inner other b) its) →
      name.sym ≡ its.sym →
      holder a name.sym ≡ holder b its.sym →
      a ≡ b
