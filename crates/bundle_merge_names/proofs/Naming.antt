-- The names of a bundle give each label that is due its identifier.
use Rattle.std.proofs.Common.{◌≡◌, ℕ, List, Option, refl}
use Rattle.bundle_rules.specs.Bundle.{Defines, Helps, helps, defines}
use Rattle.bundle_rules.specs.Meaning.{Meta}
use Rattle.bundle_rules.specs.Program.{Program}
use Rattle.bundle_link_index.specs.Says.{target_of}
use Rattle.bundle_merge_theory.specs.made.Alone.{AreTreesSound, IsHolder}
use Rattle.bundle_merge_names.specs.declared.names.Label.{Label}
use Rattle.bundle_merge_names.specs.declared.names.Label.TheVariants as n
use Rattle.bundle_merge_names.specs.declared.names.BundleNames.{BundleNames}
use Rattle.bundle_merge_names.specs.declared.part.BundleInput.{BundleInput}
use Rattle.bundle_merge_names.specs.Bundle.{AreBundleParts, AreNamesOf, holder_symbol}
use Rattle.bundle_merge_theory.specs.made.Given.{HookAnswer, BundleContexts, NameOf}
use Rattle.bundle_merge_theory.specs.made.Alone as h
use Rattle.bundle_merge_names.specs.Idents.{label_ident}
use Rattle.bundle_merge_names.specs.Named.{holder_of}
use Rattle.bundle_merge_names.specs.Naming.{AreBundleNamesOf}
use Rattle.bundle_merge_names.proofs.RefusedLemmas.{plain-ident, target-ident}

pub are-named : (p : Program) (list : List ℕ) (answers : ℕ → Option HookAnswer) (context : BundleContexts) (bundle : BundleInput) (names : BundleNames)
    → AreBundleParts p list answers bundle
    → AreNamesOf p list answers context bundle names
    → AreTreesSound p list
    → AreBundleNamesOf p list context names
are-named p list answers context bundle names parts are sound = record {
  targets = λ t meant. target-ident p list answers context bundle names parts are sound t (target_of t) refl meant;
  helper = λ c reached cjs. its n.Helper (h.added Helps (helps reached cjs) h.helps) (λ k same. cc);
  parameter = λ c reached cjs. its n.HelperParameter (h.parameter c reached cjs) (λ k same. cc);
  variable = λ c reached cjs. its n.HelperVariable (h.variable c reached cjs) (λ k same. cc);
  loads = λ c reached cjs. its (n.Load c) (h.added (Defines c) (defines reached cjs) h.defines) (λ k same. cc);
  locals = λ m reached. are.locals m ((parts.reached m).0 reached);
}
  where
    its : (label : Label) → IsHolder p answers (holder_of label) → ((k : ℕ) → holder_of label ≡ NameOf (Meta k) → ⊥) → label_ident names label ≡ (holder_symbol p list (holder_of label), context (holder_of label))
    its = plain-ident p list answers context bundle names parts are sound
