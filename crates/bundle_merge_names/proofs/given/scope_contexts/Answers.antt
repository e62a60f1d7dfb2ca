-- Each scope that is gone over gets its context.
use Rattle.std.proofs.Common.{rules, ◌≡◌, ◌<◌, ◌+◌, ℕ, Bool, List, Option, Some, length, get_or, sym, ap, subst, ◌∙◌, arith}
use Rattle.std.specs.Prelude.{slice_get}
use Rattle.std.proofs.lemmas.Option.{slice_get-get_or}
use Rattle.bundle_scope_denote.specs.declared.table.Scope.{Scope}
use Rattle.bundle_merge_names.specs.declared.error.MergeError.{MergeError}
use Rattle.bundle_merge_names.specs.declared.error.MergeError.TheVariants.{OutOfMemory}
use Rattle.bundle_merge_names.specs.declared.names.BundleNames.{BundleNames}
use Rattle.bundle_merge_names.specs.Scoped.{GivesScope, RefusesScope, flag_in}
use Rattle.bundle_merge_names.specs.Ranges.{for_memory}
use Rattle.bundle_merge_names.proofs.ScopeLemmas.{gone-all, gone-first, gone-next, gone-refused, handed-on}
use Rattle.bundle_merge_names.proofs.given.scope_contexts.Goals as goal

-- the scope that is gone over stands in the table
at-index : (entries lent : List Scope) (i : ℕ) (other : Scope) → lent ≡ entries → i < length lent → slice_get entries i ≡ Some (get_or lent i other)
at-index entries lent i other same within = ap (λ l. slice_get l i) (sym same) ∙ slice_get-get_or lent i other within

-- the flag is that of the marks
by-flag : (top : Bool) (flag : Bool) (marks lent : List Bool) (number local : ℕ) (old new : BundleNames) (context : Option ℕ) → flag ≡ flag_in lent number → lent ≡ marks → GivesScope top flag local old new context → GivesScope top (flag_in marks number) local old new context
by-flag top flag marks lent number local old new context is same gives = subst (λ b. GivesScope top b local old new context) (is ∙ ap (λ l. flag_in l number) same) gives

flag-refused : (top : Bool) (flag : Bool) (marks lent : List Bool) (number m : ℕ) (old : BundleNames) (refusal : MergeError) → flag ≡ flag_in lent number → lent ≡ marks → RefusesScope top flag m old refusal → RefusesScope top (flag_in marks number) m old refusal
flag-refused top flag marks lent number m old refusal is same refuses = subst (λ b. RefusesScope top b m old refusal) (is ∙ ap (λ l. flag_in l number) same) refuses

pub loop-scope-init : goal.loop-scope-init
loop-scope-init c = gone-first c.args.denotations.now c.in_ok-marks.marks.items c.args.local c.args.names.now c.new-contexts.result.items c.new-contexts.ensures.items

pub loop-scope-preserved : goal.loop-scope-preserved
loop-scope-preserved c =
    gone-next c.args.denotations.now c.in_ok-marks.marks.items c.args.local c.args.names.now c.loop-scope.names c.context_of.new.names c.loop-scope.contexts.items c.push.new.self.items c.in_ok-context_of.field-0
    (get_or c.deref-scope-items.result.now c.loop-scope.scope-index _) c.loop-scope.scope-index (c.loop-scope.scope-index + 1) c.len.result
    (at-index c.args.denotations.now.scopes.items c.deref-scope-items.result.now c.loop-scope.scope-index _ c.deref-scope-items.ensures.value c.loop-scope-test.true)
    (search rules)
    (by-flag _ c.flag_at-binds.result c.in_ok-marks.marks.items c.deref.result.now c.len.result c.args.local c.loop-scope.names c.context_of.new.names c.in_ok-context_of.field-0 c.flag_at-binds.ensures c.deref.ensures.value c.in_ok-context_of.ensures.given)
    c.in_ok-push.ensures.items (omega arith) c.loop-scope.invariant

pub returns-clause-given : goal.returns-clause-given
returns-clause-given c = gone-all c.args.denotations.now c.in_ok-marks.marks.items c.args.local c.args.names.now c.loop-scope.names c.loop-scope.contexts.items c.loop-scope.scope-index (let same = ap length c.deref-scope-items.ensures.value in omega (arith, same, c.loop-scope-test.false)) c.in_ok-marks.ensures c.loop-scope.invariant

pub returns-in_err-marks-clause-refused : goal.returns-in_err-marks-clause-refused
returns-in_err-marks-clause-refused c = handed-on _ OutOfMemory _ c.from_residual.ensures.1 for_memory

pub returns-in_err-context_of-clause-refused : goal.returns-in_err-context_of-clause-refused
returns-in_err-context_of-clause-refused c =
    handed-on _ _ _ c.from_residual-in_err-context_of.ensures.1
    (gone-refused c.args.denotations.now c.in_ok-marks.marks.items c.args.local c.args.names.now c.loop-scope.names c.loop-scope.contexts.items c.loop-scope.scope-index c.len.result c.args.which
    (get_or c.deref-scope-items.result.now c.loop-scope.scope-index _) c.in_err-context_of.field-0.0
    (at-index c.args.denotations.now.scopes.items c.deref-scope-items.result.now c.loop-scope.scope-index _ c.deref-scope-items.ensures.value c.loop-scope-test.true)
    (search rules)
    c.in_ok-marks.ensures
    (flag-refused _ c.flag_at-binds.result c.in_ok-marks.marks.items c.deref.result.now c.len.result c.args.which c.loop-scope.names c.in_err-context_of.field-0.0 c.flag_at-binds.ensures c.deref.ensures.value c.in_err-context_of.ensures.refused)
    c.loop-scope.invariant)

pub returns-in_err-push-clause-refused : goal.returns-in_err-push-clause-refused
returns-in_err-push-clause-refused c = handed-on _ OutOfMemory _ c.from_residual-in_err-push.ensures.1 for_memory
