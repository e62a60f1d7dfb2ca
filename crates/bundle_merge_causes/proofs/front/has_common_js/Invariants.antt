-- No module before is CommonJS.
use Rattle.std.proofs.Common.{◌<◌, ℕ}
use Rattle.bundle_rules.specs.Linking.{IsCommonJs}
use Rattle.bundle_rules.specs.Program.{Program}
use Rattle.bundle_link_targets.specs.Linked.{IsLinkingOf}
use Rattle.bundle_merge_causes.proofs.front.has_common_js.Given as goal

abbrev pub invariant-loop-which : goal.invariant-loop-which
invariant-loop-which l =
    (p : Program) → IsLinkingOf p l.linking → (k : ℕ) → k < l.which → IsCommonJs p k → ⊥
