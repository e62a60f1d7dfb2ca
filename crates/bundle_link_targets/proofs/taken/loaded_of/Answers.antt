use Rattle.bundle_rules.specs.Entries.{Whole}
use Rattle.bundle_rules.specs.Linking.{CommonJs}
use Rattle.bundle_link_targets.proofs.TakenLemmas.{told-held}
use Rattle.bundle_link_targets.proofs.taken.loaded_of.Goals as goal

pub returns-clause-taken : goal.returns-clause-taken
returns-clause-taken c = λ holds. record {
  names = c.in_ok-names.ensures _ (holds _);
  whole = told-held c.args.meant.now.keys c.target_from.result (CommonJs c.args.taker c.args.which Whole) c.contains-whole.result c.contains-whole.ensures c.target_from.ensures;
}
