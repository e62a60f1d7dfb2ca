-- The hook fails, or its answer is judged.
use Rattle.std.proofs.Common.{subst}
use Rattle.std.specs.Prelude.{IfSome}
use Rattle.std.specs.List.{flat_map}
use Rattle.std.proofs.lemmas.Result.{err_from_is_err_and}
use Rattle.bundle_tree_names.specs.FileName.{name_of}
use Rattle.bundle_tree_listed.specs.Tree.{key_value_prop_items}
use Rattle.bundle_rules.specs.Faults.{fault_of}
use Rattle.bundler_entry.specs.Hook.{IsRightAnswer, IsFaultOfAnswer}
use Rattle.bundler_entry.specs.Unlinked.{error_of}
use Rattle.bundler_entry.proofs.AskedLemmas.{of_failure, of_answer}
use Rattle.bundler_entry.proofs.meta.ask.Goals as goal

pub returns-in_err-properties-clause-refused : goal.returns-in_err-properties-clause-refused
returns-in_err-properties-clause-refused g c =
    let p = err_from_is_err_and c.from_residual.result c.from_residual.ensures.1 in
    rw (p.1, p.2) (of_failure _ _ _ _ _ _ _ c.in_err-properties.ensures.failed)

pub returns-in_err-judge-clause-refused : goal.returns-in_err-judge-clause-refused
returns-in_err-judge-clause-refused g c =
    let p = err_from_is_err_and c.from_residual-in_err-judge.result c.from_residual-in_err-judge.ensures.1 in
    let wrong = subst (λ items. IfSome (fault_of (error_of c.in_err-judge.field-0.0)) (IsFaultOfAnswer c.args.is_iife (name_of c.args.file.now) (flat_map (key_value_prop_items 0) items))) c.as_slice.ensures.value c.in_err-judge.ensures.wrong in
    rw (p.1, p.2)
    (of_answer _ _ _ _ _ _ c.in_ok-properties.properties.items c.in_ok-properties.ensures.given _
    wrong)

pub returns-clause-right : goal.returns-clause-right
returns-clause-right g c =
    subst (λ items. IsRightAnswer c.args.is_iife (flat_map (key_value_prop_items 0) items))
    c.as_slice.ensures.value c.in_ok-judge.ensures.right
