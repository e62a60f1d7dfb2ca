-- First the names get names, and then the whole.
use Rattle.bundle_link_index.specs.Says.{target_of}
use Rattle.std.proofs.Common.{map}
use Rattle.bundle_merge_names.specs.Added.{IsNamedOf, IsTakenOf, IsWholeOf}
use Rattle.bundle_merge_names.proofs.LackLemmas.{refuses-after, refuses-like}
use Rattle.bundle_merge_names.proofs.ScopeLemmas.{handed-on}
use Rattle.bundle_merge_names.proofs.LabelLemmas.{adds-taken, named-taken, whole-taken}
use Rattle.bundle_merge_names.proofs.given.give_taken.Goals as goal

pub returns-clause-given : goal.returns-clause-given
returns-clause-given c = λ p list handed takable. adds-taken p list (target_of c.args.base) c.args.its.now c.args.whole c.args.names.now c.give_named.new.names c.give_whole.new.names (c.in_ok-give_named.ensures.given p list handed takable) (c.in_ok-give_whole.ensures.given p list handed takable)

pub returns-in_err-give_named-clause-refused : goal.returns-in_err-give_named-clause-refused
returns-in_err-give_named-clause-refused c = handed-on _ _ _ c.from_residual.ensures.1 (λ p list handed takable.
    let base = target_of c.args.base in
    let its = c.args.its.now in
    let whole = c.args.whole in
    refuses-like (IsNamedOf base its) (IsTakenOf base (map (λ name. name.now) its) whole) c.args.names.now c.in_err-give_named.field-0.0 (named-taken p list base its whole) (c.in_err-give_named.ensures.refused p list handed takable))

pub returns-in_err-give_whole-clause-refused : goal.returns-in_err-give_whole-clause-refused
returns-in_err-give_whole-clause-refused c = handed-on _ _ _ c.from_residual-in_err-give_whole.ensures.1 (λ p list handed takable.
    let base = target_of c.args.base in
    let its = c.args.its.now in
    let whole = c.args.whole in
    let refusal = c.in_err-give_whole.field-0.0 in
    let given = c.give_named.new.names in
    refuses-after p list (IsNamedOf base its) (IsTakenOf base (map (λ name. name.now) its) whole) c.args.names.now given refusal (named-taken p list base its whole) (c.in_ok-give_named.ensures.given p list handed takable)
    (refuses-like (IsWholeOf base whole) (IsTakenOf base (map (λ name. name.now) its) whole) given refusal (whole-taken p list base its whole) c.in_err-give_whole.ensures.refused))
