-- What the names of a bundle are to give, where its contexts are these.
use Rattle.std.specs.Prelude.{◌≡◌, ℕ, List, Some, codes}
use Rattle.bundle_rules.specs.Program.{Program, IsReached}
use Rattle.bundle_rules.specs.Linking.{IsCommonJs}
use Rattle.bundle_rules.specs.Meaning.{Of, Load, Helper, IsMeant}
use Rattle.bundle_link_index.specs.Says.{target_of}
use Rattle.bundle_link_index.specs.declared.target.TargetRef.{TargetRef}
use Rattle.bundle_merge_theory.specs.made.Given.{BundleContexts, TopOf, HelperParameter, HelperVariable, ident_of_label}
use Rattle.bundle_merge_names.specs.Idents.{label_ident, target_ident}
use Rattle.bundle_merge_names.specs.Named.{local_in}
use Rattle.bundle_merge_names.specs.declared.names.Label.TheVariants as n
use Rattle.bundle_merge_names.specs.declared.names.BundleNames.{BundleNames}

-- each label that is due has its identifier, but for objects of `import.meta`, and each module the
-- context of its top
pub record AreBundleNamesOf
    (p : Program) (list : List ℕ) (context : BundleContexts) (names : BundleNames) : Type 0 where
  pub targets : (t : TargetRef) →
      IsMeant p (Of (target_of t)) →
      target_ident names t ≡ ident_of_label p list context (Of (target_of t))
  pub helper : (c : ℕ) → IsReached p c → IsCommonJs p c →
      label_ident names n.Helper ≡ ident_of_label p list context Helper
  pub parameter : (c : ℕ) → IsReached p c → IsCommonJs p c →
      label_ident names n.HelperParameter ≡ (codes "fn", context HelperParameter)
  pub variable : (c : ℕ) → IsReached p c → IsCommonJs p c →
      label_ident names n.HelperVariable ≡ (codes "module", context HelperVariable)
  pub loads : (c : ℕ) → IsReached p c → IsCommonJs p c →
      label_ident names (n.Load c) ≡ ident_of_label p list context (Load c)
  pub locals : (m : ℕ) → IsReached p m → local_in names m ≡ Some (context (TopOf m))
