-- The identifiers that the names of a bundle give.
use Rattle.std.specs.Prelude.{ℕ, [], Option, Some, None, unwrap_or}
use Rattle.bundle_rules.specs.Idents.{Ident}
use Rattle.bundle_rules.specs.Linking as l
use Rattle.bundle_link_index.specs.Says.{target_of}
use Rattle.bundle_link_index.specs.declared.target.TargetRef.{TargetRef}
use Rattle.bundle_merge_names.specs.declared.names.Label.{Label}
use Rattle.bundle_merge_names.specs.declared.names.Label.TheVariants as n
use Rattle.bundle_merge_names.specs.declared.names.BundleNames.{BundleNames}
use Rattle.bundle_merge_names.specs.Named.{held, local_in}
use Rattle.bundle_tree_places.specs.Marks.{ident_of}
use Rattle.bundle_tree_places.specs.declared.mark.Name.{Name}

-- the identifier that is held for a label, or that of nothing
abbrev pub label_ident : BundleNames → Label → Ident
label_ident names label = unwrap_or (held names label) ([], 1)

-- the identifier of the object for the `import.meta` of a module: of that which is written already,
-- or the one that is held for it
abbrev pub object_ident : BundleNames → Option Name → ℕ → Ident
object_ident names None k = label_ident names (n.Meta k)
object_ident names (Some name) k = ident_of name

-- what stands for a target, by what it is: a declaration keeps its name
abbrev pub ident_by : BundleNames → Label → l.Target → Ident
ident_by names label (l.Declared k x) = (x, unwrap_or (local_in names k) 1)
ident_by names label _ = label_ident names label

abbrev pub target_ident : BundleNames → TargetRef → Ident
target_ident names target = ident_by names (n.Of target) (target_of target)
