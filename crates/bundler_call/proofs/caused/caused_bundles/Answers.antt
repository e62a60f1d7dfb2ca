-- What is told of what was read is told of the list.
use Rattle.std.proofs.lemmas.Result.{IfErr-weaker, IfOk-weaker}
use Rattle.bundler_call.specs.Kept.{kept_of}
use Rattle.bundler_call.proofs.caused.caused_bundles.Goals as goal

pub returns-clause-bundles : goal.returns-clause-bundles
returns-clause-bundles g c = IfOk-weaker c.caused_of.result _ _ (λ made its loaded all. its (kept_of c.args.kept.now) c.args.list.now (c.in_ok-program.ensures loaded) all) c.caused_of.ensures.bundles

pub returns-clause-causes : goal.returns-clause-causes
returns-clause-causes g c = IfOk-weaker c.caused_of.result _ _ (λ made its loaded all. its (kept_of c.args.kept.now) c.args.list.now (c.in_ok-program.ensures loaded) all) c.caused_of.ensures.causes

pub returns-clause-refused : goal.returns-clause-refused
returns-clause-refused g c = IfErr-weaker c.caused_of.result _ _ (λ unlinked told loaded all. told (kept_of c.args.kept.now) c.args.list.now (c.in_ok-program.ensures loaded) all) c.caused_of.ensures.refused
