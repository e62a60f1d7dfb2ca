-- What the names of a bundle hold.
use Rattle.std.specs.Prelude.{◌≡◌, ℕ, Bool, false, List, Option, option_map, slice_get}
use Rattle.indexmap.specs.IndexMap.{get_by}
use Rattle.bundle_rules.specs.Idents.{Ident}
use Rattle.bundle_rules.specs.Meaning as m
use Rattle.bundle_tree_places.specs.Marks.{ident_of}
use Rattle.bundle_link_index.specs.Says.{target_of}
use Rattle.bundle_link_targets.specs.Lists.{list_in}
use Rattle.bundle_merge_names.specs.declared.names.Label.{Label}
use Rattle.bundle_merge_names.specs.declared.names.Label.TheVariants as n
use Rattle.bundle_merge_names.specs.declared.names.BundleNames.{BundleNames}
use Rattle.bundle_merge_names.specs.contracts.names.LabelPartialEq.TheImpl as label_impl
use Rattle.bundle_merge_theory.specs.made.Given.{Holder, NameOf, HelperParameter, HelperVariable}

-- what a label of the code stands for
abbrev pub holder_of : Label → Holder
holder_of (n.Of target) = NameOf (m.Of (target_of target))
holder_of (n.Load c) = NameOf (m.Load c)
holder_of (n.Meta k) = NameOf (m.Meta k)
holder_of n.Helper = NameOf m.Helper
holder_of n.HelperParameter = HelperParameter
holder_of n.HelperVariable = HelperVariable

-- one of those, but for the object of an `import.meta` that is written already: that has its name
pub record IsGiven (written : ℕ → Bool) (Those : Holder → Type 0) (holder : Holder) : Type 0 where
  pub its : Those holder
  pub fresh : (k : ℕ) → holder ≡ NameOf (m.Meta k) → written k ≡ false

-- the identifier that is held for a label, if there is one
abbrev pub held : BundleNames → Label → Option Ident
held names label = option_map ident_of (get_by (label_impl.ghosts.eq label) names.labels)

-- the context of the top of a module
abbrev pub local_in : BundleNames → ℕ → Option ℕ
local_in names k = slice_get names.locals.items k

-- those of the scopes in its list, and in what the hook answered for it
abbrev pub scopes_in : BundleNames → ℕ → List (Option ℕ)
scopes_in names k = list_in names.scopes.items k

abbrev pub answered_in : BundleNames → ℕ → List (Option ℕ)
answered_in names k = list_in names.answered.items k
