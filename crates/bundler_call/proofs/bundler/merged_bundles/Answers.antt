-- What is told of what was read is told of the list.
use Rattle.std.proofs.lemmas.Result.{IfErr-weaker, IfOk-weaker}
use Rattle.bundler_call.specs.Kept.{kept_of}
use Rattle.bundler_call.proofs.bundler.merged_bundles.Goals as goal

pub returns-clause-bundles : goal.returns-clause-bundles
returns-clause-bundles g c = IfOk-weaker c.bundles_of.result _ _ (λ bundles made loaded all. made (kept_of c.args.kept.now) c.args.list.now (c.in_ok-program.ensures loaded) all) c.bundles_of.ensures.bundles

pub returns-clause-refused : goal.returns-clause-refused
returns-clause-refused g c = IfErr-weaker c.bundles_of.result _ _ (λ unlinked told loaded all. told (kept_of c.args.kept.now) c.args.list.now (c.in_ok-program.ensures loaded) all) c.bundles_of.ensures.refused
