use Rattle.std.proofs.Common.{sym, subst}
use Rattle.bundle_link_tables.specs.TablesOf.{import_entry_of}
use Rattle.bundle_rules.specs.Linking.{imports}
use Rattle.bundle_link_index.specs.Outside.{IsIndexOf}
use Rattle.bundle_link_index.specs.Says.{target_of}
use Rattle.bundle_link_targets.proofs.HandedLemmas.{bound-as, bound-there, named-stands, none-stands}
use Rattle.bundle_link_targets.proofs.meant.used.Goals as goal

pub returns-in_ok-meaning-in-Some-2-clause-right : goal.returns-in_ok-meaning-in-Some-2-clause-right
returns-in_ok-meaning-in-Some-2-clause-right c = λ p is are x entry some bound.
    let its = import_entry_of c.in-Some.import in
    let named = bound-as p c.args.which x c.args.import c.in-Some.import entry c.in-Some.is some bound in
    record {
      named = target_of c.in-Some-2.target;
      stands = named-stands p c.args.which x its c.in_ok-target.field-0 c.in-Some-2.target named (c.in_ok-target.ensures.right p is are (bound-there (imports p c.args.which) x its named)) c.in-Some-2.is;
      reads = c.in_ok-meaning-in-Some-2.ensures.right p (subst (IsIndexOf p) (sym c.in_ok-target.ensures.same) is);
    }

pub returns-in-None-clause-right : goal.returns-in-None-clause-right
returns-in-None-clause-right c = λ p is are x entry some bound.
    let its = import_entry_of c.in-Some.import in
    let named = bound-as p c.args.which x c.args.import c.in-Some.import entry c.in-Some.is some bound in
    none-stands p c.args.which x its c.in_ok-target.field-0 named (c.in_ok-target.ensures.right p is are (bound-there (imports p c.args.which) x its named)) c.in-None.is
