-- Theorem of this folder (`added-alone`): each item that a linker adds is right by itself, but for
-- the functions of CommonJS modules and for what stands for `import.meta`.
-- Used by folder `together`.
use Rattle.std.proofs.Common.{◌≡◌, ℕ, Bool, true, false, List, Option, sym, subst}
use Rattle.std.proofs.lemmas.Bool.{false≢true}
use Rattle.bundle_syntax.specs.Item.{Item}
use Rattle.bundle_rules.specs.Nodes.{Text}
use Rattle.bundle_rules.specs.Program.{Program}
use Rattle.bundle_rules.specs.Linking.{Target, Namespace, Linked}
use Rattle.bundle_rules.specs.Meaning.{Of, IsMeant}
use Rattle.bundle_rules.specs.Bundle.{Cause, Own, ImportsNames, ImportsWhole, ImportsNothing, Helps, Defines, Loads, HoldsMeta, HoldsNamespace, Stars, Exports, AsModule, Hooks, IsDue, holds_namespace as namespace_due}
use Rattle.bundle_merge_theory.specs.made.Given.{HookAnswer, BundleContexts}
use Rattle.bundle_merge_theory.specs.made.Made.{IsMade, own, imports_names, imports_whole, imports_nothing, helps, defines, loads, holds_meta, holds_written, holds_namespace, stars, exports}
use Rattle.bundle_merge_theory.specs.made.Alone.{AreTreesSound, IsTopLabel, IsItemAlone}
use Rattle.bundle_merge_theory.proofs.added.Imports.{imports-names-alone, imports-whole-alone, imports-nothing-alone, stars-alone}
use Rattle.bundle_merge_theory.proofs.added.Helper.{exports-alone}
use Rattle.bundle_merge_theory.proofs.added.LoadForms.{loads-alone}
use Rattle.bundle_merge_theory.proofs.added.Namespaces.{namespace-alone}
use Rattle.bundle_merge_theory.proofs.added.Helps.{helps-alone}

-- whether the item of the cause is made of nothing but names
abbrev pub is_added : Cause → Bool
is_added (Own m k) = false
is_added (Defines c) = false
is_added (HoldsMeta m) = false
is_added _ = true

-- what the exports of the entry and the names of meant namespaces are linked to stands at the top
-- of the bundle
pub record AreLinkedTop (p : Program) : Type 0 where
  pub exports : (x : Text) (t : Target) → Linked p p.entry x t → IsTopLabel p (Of t)
  pub namespaces : (d : ℕ) (x : Text) (t : Target) → IsMeant p (Of (Namespace d)) →
      Linked p d x t → IsTopLabel p (Of t)

namespace-meant : {p : Program} {d : ℕ} → IsDue p AsModule (HoldsNamespace d) →
    IsMeant p (Of (Namespace d))
namespace-meant (namespace_due meant) = meant

pub added-alone : (p : Program) (hooks : Hooks) (list : List ℕ) (context : BundleContexts)
    (answers : ℕ → Option HookAnswer) → AreTreesSound p list → AreLinkedTop p →
    (cause : Cause) (item : List Item) → is_added cause ≡ true → IsDue p AsModule cause →
    IsMade p hooks list context answers cause item →
    IsItemAlone p hooks list context answers cause item
added-alone p hooks list context answers sound labels cause item is due (own statement at made) =
    absurd (false≢true is)
added-alone p hooks list context answers sound labels cause item is due
    (imports_names {s = s} names are made) =
    subst (IsItemAlone p hooks list context answers (ImportsNames s)) (sym made)
    (imports-names-alone p hooks list context answers s names due are)
added-alone p hooks list context answers sound labels cause item is due
    (imports_whole {s = s} made) =
    subst (IsItemAlone p hooks list context answers (ImportsWhole s)) (sym made)
    (imports-whole-alone p hooks list context answers s due)
added-alone p hooks list context answers sound labels cause item is due
    (imports_nothing {s = s} made) =
    subst (IsItemAlone p hooks list context answers (ImportsNothing s)) (sym made)
    (imports-nothing-alone p hooks list context answers s)
added-alone p hooks list context answers sound labels cause item is due (helps made) =
    subst (IsItemAlone p hooks list context answers Helps) (sym made)
    (helps-alone p hooks list context answers due)
added-alone p hooks list context answers sound labels cause item is due (defines bodies each made) =
    absurd (false≢true is)
added-alone p hooks list context answers sound labels cause item is due
    (loads {m = m} {c = c} whole names are meant whole_is made) =
    subst (IsItemAlone p hooks list context answers (Loads m c)) (sym made)
    (loads-alone p hooks list context answers m c due whole names are meant whole_is)
added-alone p hooks list context answers sound labels cause item is due
    (holds_meta properties made answered by its) =
    absurd (false≢true is)
added-alone p hooks list context answers sound labels cause item is due
    (holds_written its answered written) =
    absurd (false≢true is)
added-alone p hooks list context answers sound labels cause item is due
    (holds_namespace {d = d} pairs are made) =
    subst (IsItemAlone p hooks list context answers (HoldsNamespace d)) (sym made)
    (namespace-alone p hooks list context answers d pairs due
    (λ x t linked meant. labels.namespaces d x t (namespace-meant due) linked)
    are)
added-alone p hooks list context answers sound labels cause item is due (stars {s = s} made) =
    subst (IsItemAlone p hooks list context answers (Stars s)) (sym made)
    (stars-alone p hooks list context answers s)
added-alone p hooks list context answers sound labels cause item is due (exports pairs are made) =
    subst (IsItemAlone p hooks list context answers Exports) (sym made)
    (exports-alone p hooks list context answers pairs
    (λ x t linked meant. labels.exports x t linked)
    are)
