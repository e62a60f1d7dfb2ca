-- What is wrong with the list is wrong with the cleared answer.
use Rattle.std.proofs.Common.{sym, subst, ◌∙◌, map}
use Rattle.std.specs.Prelude.{IfSome}
use Rattle.std.proofs.lemmas.Bool.{false≢true}
use Rattle.bundle_tree_names.specs.FileName.{name_of}
use Rattle.bundle_syntax.specs.Item.{item_of}
use Rattle.bundler_entry.specs.Hook.{IsFaultOfAnswer}
use Rattle.bundler_entry.proofs.AskedLemmas.{told_none, is_right, is_doubled, has_with, has_arguments}
use Rattle.bundler_entry.proofs.meta.judge_list.Goals as goal
use Rattle.bundler_entry.proofs.meta.judge_list.Goals.{else-is_iife-via-then-is_iife+else-has_free_arguments, else-is_iife-via-else-is_iife}

pub returns-in-Some-clause-wrong : goal.returns-in-Some-clause-wrong
returns-in-Some-clause-wrong c = λ answer is.
    let file = name_of c.args.file.now in
    let wrong = is_doubled c.args.is_iife file (map item_of c.args.pieces.now) answer is c.in_ok-doubled.field-0 c.in-Some.doubled c.in_ok-doubled.ensures c.in-Some.is in
    subst (λ told. IfSome told (IsFaultOfAnswer c.args.is_iife file answer)) (sym c.in_ok-doubled_refusal.ensures) wrong

pub returns-then-has_with-clause-wrong : goal.returns-then-has_with-clause-wrong
returns-then-has_with-clause-wrong c = λ answer is.
    has_with c.args.is_iife (name_of c.args.file.now) (map item_of c.args.pieces.now) answer is (name_of c.in_ok-clone.field-0) c.in_ok-clone.ensures.cases
    (told_none c.in_ok-doubled.field-0 _ c.in_ok-doubled.ensures c.in_default.is)
    (sym c.if-has_with.ensures)

pub returns-then-has_free_arguments-clause-wrong : goal.returns-then-has_free_arguments-clause-wrong
returns-then-has_free_arguments-clause-wrong c = λ answer is.
    has_arguments c.args.is_iife (name_of c.args.file.now) (map item_of c.args.pieces.now) answer is (name_of c.in_ok-clone-2.field-0) c.in_ok-clone-2.ensures.cases
    (told_none c.in_ok-doubled.field-0 _ c.in_ok-doubled.ensures c.in_default.is)
    (sym c.if-has_with.ensures)
    c.if-is_iife.true
    (sym (c.if-has_free_arguments.ensures c.requires))

pub returns-clause-right : goal.returns-clause-right
returns-clause-right c = λ answer is.
    let once = told_none c.in_ok-doubled.field-0 _ c.in_ok-doubled.ensures c.in_default.is in
    is_right c.args.is_iife (name_of c.args.file.now) (map item_of c.args.pieces.now) answer is once (sym c.if-has_with.ensures)
    (elim c.else-is_iife.branch [
      | else-is_iife-via-then-is_iife+else-has_free_arguments w ↦ λ under. sym (w.if-has_free_arguments.ensures c.requires)
      | else-is_iife-via-else-is_iife w ↦ λ under. absurd (false≢true (sym w.if-is_iife.false ∙ under))
    ])
