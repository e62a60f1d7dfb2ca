use Rattle.std.proofs.Common.{◌≡◌, List, map, take}
use Rattle.std.specs.Prelude.{filter}
use Rattle.bundle_rules.specs.Nodes.{Text, has_text}
use Rattle.bundle_link_tables.specs.Sources.{HasTexts}
use Rattle.bundle_link_targets.specs.Taken.{specifier_of}
use Rattle.bundle_link_targets.proofs.taken.starred_among.Given as goal

abbrev pub invariant-loop-external : goal.invariant-loop-external
invariant-loop-external l = (texts : List Text) → HasTexts l.starred texts → map (λ star. star.now) l.ordered.items ≡ filter (λ s. has_text s texts) (map specifier_of (take l.external-index l.externals))
