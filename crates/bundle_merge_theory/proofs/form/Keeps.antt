-- What a statement of a module becomes in a bundle keeps its form.
use Rattle.std.proofs.Common.{◌≡◌, ℕ, List, [], ◌∷◌, ◌++◌, Option, sym, ap, ap₂, ◌∙◌, subst}
use Rattle.std.specs.Prelude.{Contains}
use Rattle.bundle_syntax.specs.Item as h
use Rattle.bundle_syntax.specs.Item.{Item}
use Rattle.bundle_rules.specs.Idents.{Ident}
use Rattle.bundle_rules.specs.Cleared.{cleared}
use Rattle.bundle_rules.specs.Rebuilds.{changes_to, rebuilt}
use Rattle.bundle_rules.specs.Places.{spot_before, occurrences_from}
use Rattle.bundle_rules.specs.Scopes.{ModuleKind}
use Rattle.bundle_rules.specs.Denotes.{Denoted}
use Rattle.bundle_rules.specs.Statements.{TopItem, top_items, Element, stated}
use Rattle.bundle_rules.specs.Meaning.{Meant, own_sense}
use Rattle.bundle_rules.specs.Program.{Program, tree_of}
use Rattle.bundle_tree_places.proofs.EditsLemmas.{rebuilt_so}
use Rattle.bundle_tree_rebuild.specs.Work.{Work}
use Rattle.bundle_merge_theory.specs.noted.Nodes.{AreNodesInTurn}
use Rattle.bundle_merge_theory.specs.noted.Marked.{Note}
use Rattle.bundle_merge_theory.specs.noted.Agrees.{AgreeInTurn, IsListing, ReplacesNotable}
use Rattle.bundle_merge_theory.specs.walked.Rewrites.{AreOwn, Cover}
use Rattle.bundle_merge_theory.specs.walked.Keeps.{Agree, AgreeOnMeta}
use Rattle.bundle_merge_theory.specs.walked.Stated.{StatesList}
use Rattle.bundle_merge_theory.proofs.walked.NameLemmas.{idents-names}
use Rattle.bundle_merge_theory.specs.form.Bares.{BaresStated}
use Rattle.bundle_merge_theory.proofs.form.Bared.{AllSpell, BaredStated, states_bared}
use Rattle.bundle_merge_theory.proofs.form.Cleared.{stated_cleared}
use Rattle.bundle_merge_theory.proofs.form.Named.{top_named}
use Rattle.bundle_rules.specs.OwnForms.{KeepsForm}

-- THEOREM: what a top item states keeps its form, where the notes and the steps of its occurrences agree with what is
-- replaced in the module
pub keeps-form : (p : Program) (m : ℕ) (kind : ModuleKind) (inner : List Denoted) (meta : Option Meant) →
    IsListing (tree_of p m) → ReplacesNotable (own_sense p m kind) meta → (xs behind : List Item) →
    AreNodesInTurn xs → tree_of p m ≡ h.Open 0 h.Module ∷ (xs ++ h.Close ∷ behind) → (top : TopItem) →
    Contains (top_items (tree_of p m)) top → (notes : List Note) (work : Work) (name : Ident)
    (given made : List Item) → cleared given ≡ top.items → StatesList work name given made → AreOwn given →
    Cover work.steps given → Agree work.steps notes → AllSpell work.steps → AgreeOnMeta work.meta meta →
    (statement : List Element) → stated top.start top.items ≡ statement ∷ [] →
    AgreeInTurn (own_sense p m kind) inner (occurrences_from (spot_before (tree_of p m) top.start) top.items) notes →
    KeepsForm p m statement made
keeps-form p m kind inner meta listing replaces xs behind nodes tree top there notes work name given made is_given states own
    cover agree spell on_meta statement is agrees = record {
      named = its.bare;
      with_names =
          top_named p m kind inner meta listing replaces 0 xs behind nodes tree top there notes [] its.bare
          (subst (λ items. BaresStated meta notes items its.bare []) is_given (stated_cleared meta its.bares)) statement is
          agrees;
      same =
          rebuilt_so (record { rest = []; by = its.edits })
          ∙ ap (rebuilt its.bare) (sym (ap₂ changes_to (idents-names its.bare) (idents-names made)));
    }
  where
    its : BaredStated work meta notes given made
    its = states_bared states own cover meta notes agree spell on_meta
