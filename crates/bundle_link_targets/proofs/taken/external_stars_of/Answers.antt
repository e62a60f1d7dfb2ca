use Rattle.std.proofs.Common.{map}
use Rattle.std.specs.List.{flat_map}
use Rattle.bundle_link_targets.specs.Taken.{specifier_of, starred_in}
use Rattle.bundle_link_targets.proofs.CalledLemmas.{stars-picked}
use Rattle.bundle_link_targets.proofs.TakenLemmas.{text-of}
use Rattle.bundle_link_targets.proofs.taken.external_stars_of.Goals as goal

pub returns : goal.returns
returns c = λ p is are.
    let kinds = c.args.kinds.now in
    let reach = c.in_ok-reach.reach.keys in
    stars-picked p kinds are reach (c.in_ok-reach.ensures p is) (map specifier_of c.args.externals.now) (map text-of c.in_ok-stars.stars.items)
    (c.in_ok-stars.ensures (flat_map (starred_in kinds) reach) c.in_ok-starred.ensures)
