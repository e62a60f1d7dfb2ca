-- What is so of the lists of syntax trees, since they are fit.
use Rattle.bundle_tree_ast.specs.declared.module.Module.{Module}
use Rattle.bundle_tree_listed.specs.Tree.{module_items}
use Rattle.bundle_rules.specs.Cleared.{cleared}
use Rattle.bundle_scope_names.specs.fit.Sorts.{AModule}
use Rattle.bundle_scope_names.specs.fit.Fits.{IsFit}
use Rattle.bundle_merge_theory.proofs.fit.Clearing.{one_cleared}
use Rattle.bundle_scope_names.proofs.grown.Grown.{module_fit}

-- Modules.

-- a module as it is kept
pub kept_fit : (it : Module) → IsFit AModule 0 (cleared (module_items 0 it))
kept_fit it = one_cleared (module_fit 0 it)
