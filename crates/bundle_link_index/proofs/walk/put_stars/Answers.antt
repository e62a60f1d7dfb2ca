use Rattle.bundle_link_index.proofs.SearchLemmas.{Adds-star, Adds-stars}
use Rattle.bundle_link_index.proofs.walk.put_stars.Goals as goal

pub loop-star-preserved : goal.loop-star-preserved
loop-star-preserved c = Adds-star c.args.met.now.keys c.loop-star.met.keys c.put.new.met.keys c.args.stars.now c.loop-star.star-index c.args.name c.loop-star-test.true c.loop-star.invariant c.in_ok-put.ensures

pub returns : goal.returns
returns c = Adds-stars c.args.met.now.keys c.loop-star.met.keys c.args.stars.now c.loop-star.star-index c.args.name c.loop-star-test.false c.loop-star.invariant
