use Rattle.std.proofs.Common.{None, ◌++◌, append-nil, ap, sym, ◌∙◌, subst}
use Rattle.std.proofs.lemmas.Result.{on_ok_weaker}
use Rattle.bundle_link_tables.specs.TablesOf.{taken_of}
use Rattle.bundle_link_targets.specs.Taken.{IsNameFrom, names_for, target_from_giver}
use Rattle.bundle_link_targets.proofs.TakenLemmas.{found-for, found-given, found-right, whole-none}
use Rattle.bundle_link_targets.proofs.taken.add_taken.Goals as goal

pub returns-in-Named : goal.returns-in-Named
returns-in-Named c = on_ok_weaker c.add_name.result
    (λ put other. (
      found-for c.args.giver other c.in-Named.name,
      subst (λ what. IsNameFrom other (target_from_giver c.args.giver (taken_of what)) (found-for c.args.giver other c.in-Named.name)) (sym c.in-Named.is) (found-right c.args.giver other c.in-Named.name),
      put other ∙ ap (λ l. names_for c.args.names.now other ++ l) (found-given c.args.giver other c.in-Named.name),
    ))
    c.add_name.ensures

pub returns-in-Whole : goal.returns-in-Whole
returns-in-Whole c = λ other. (
  None,
  subst (λ what. IsNameFrom other (target_from_giver c.args.giver (taken_of what)) None) (sym c.in-Whole.is) (whole-none c.args.giver other),
  sym (append-nil (names_for c.args.names.now other)),
)
