-- A label that had no name has the next, if there is one.
use Rattle.std.proofs.Common.{rules, refl, ap, suc, sym, subst, ◌∙◌}
use Rattle.bundle_merge_names.specs.declared.error.MergeError.TheVariants.{OutOfMemory}
use Rattle.bundle_merge_names.specs.Held.{RefusesName, for_memory}
use Rattle.bundle_merge_names.proofs.LabelLemmas.{gives-none, gives-one, refuses-full}
use Rattle.bundle_merge_names.proofs.ScopeLemmas.{handed-on}
use Rattle.bundle_merge_names.proofs.names.BundleNames.give.Goals as goal

pub returns-then-contains_key-clause-given : goal.returns-then-contains_key-clause-given
returns-then-contains_key-clause-given c = gives-none c.args.self.now c.args.label c.args.sym.now (search rules)

pub returns-clause-given : goal.returns-clause-given
returns-clause-given c = gives-one c.args.self.now _ c.args.label _ c.args.sym.now (search rules) c.in_ok-insert.ensures.updates (ap (λ n. (c.args.sym.now, n)) c.in_ok-ctxt.ensures.taken) (c.in_ok-ctxt.ensures.next ∙ ap suc c.in_ok-ctxt.ensures.taken) refl refl refl

pub returns-in_err-ctxt-clause-refused : goal.returns-in_err-ctxt-clause-refused
returns-in_err-ctxt-clause-refused c = handed-on _ _ _ c.from_residual.ensures.1 (subst (RefusesName c.args.label c.args.self.now) (sym c.in_err-ctxt.ensures.refused) (refuses-full c.args.self.now c.args.label (search rules) c.in_err-ctxt.ensures.none))

pub returns-in_err-insert-clause-refused : goal.returns-in_err-insert-clause-refused
returns-in_err-insert-clause-refused c = handed-on _ OutOfMemory _ c.from_residual-in_err-insert.ensures.1 for_memory
