use Rattle.std.proofs.Common.{◌⊎◌, ◌++◌, Bool, List, codes, inl, inr, string_bytes, subst}
use Rattle.std.specs.Io.KnownBytes.{Appends}
use Rattle.bundle_tree_ast.specs.declared.expr.Expr.{Expr}
use Rattle.bundle_tree_ast.specs.declared.prop.KeyValueProp.{KeyValueProp}
use Rattle.bundle_tree_names.specs.FileName.{Name}
use Rattle.bundle_tree_names.specs.declared.error.Error.{Error}
use Rattle.bundle_tree_names.specs.declared.error.Error.TheVariants.{OutOfMemory}
use Rattle.bundle_json_document.specs.Answer.{IsDocumentRefusal}
use Rattle.bundle_json_document.specs.declared.document.Document.{Document}
use Rattle.bundle_json_document.proofs.Wanting.{wants_memory}
use Rattle.bundle_json_document.proofs.answering.answer.Goals as goal

-- a refusal stands where the line is its own, and the want of memory where it is that one's
the_one : {P : Error → Type 0} (may_give : Name → Bool → List (KeyValueProp Expr) → Type 0) (may_fail_hook : Name → Bool → Type 0) (document : Document) (refusal : Error)
    → IsDocumentRefusal may_give may_fail_hook document refusal → P refusal ⊎ P OutOfMemory → (told : Error) × IsDocumentRefusal may_give may_fail_hook document told × P told
the_one may_give may_fail_hook document refusal right (inl line) = (refusal, right, line)
the_one may_give may_fail_hook document refusal right (inr line) = (OutOfMemory, wants_memory may_give may_fail_hook document, line)

pub returns-clause-refused : goal.returns-clause-refused
returns-clause-refused g c = λ _. the_one _ _ c.args.document c.in-Err.refusal c.in-Err.ensures.refused c.report.ensures.line

pub returns-then-write_line-clause-written : goal.returns-then-write_line-clause-written
returns-then-write_line-clause-written g c = λ _. (
  string_bytes c.in-Ok.text,
  c.in-Ok.ensures.made,
  subst
      (λ it. Appends (g.W.Output.contents c.args.output.now) (g.W.Output.contents c.write_line.new.self) (it ++ codes "\n"))
      c.as_bytes.ensures.value
      (c.write_line.ensures.whole c.if-write_line.true),
)
