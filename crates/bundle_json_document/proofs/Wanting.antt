-- Of a call that keeps nothing, want of memory can always be told. Its line.
use Rattle.std.proofs.Common.{◌≡◌, ℕ, [], Bool, List, codes, refl, inl, inr, arith}
use Rattle.std.specs.Fmt.{digits}
use Rattle.bundle_tree_ast.specs.declared.expr.Expr.{Expr}
use Rattle.bundle_tree_ast.specs.declared.prop.KeyValueProp.{KeyValueProp}
use Rattle.bundle_tree_names.specs.FileName.{Name}
use Rattle.bundle_tree_names.specs.declared.error.Error.TheVariants.{OutOfMemory}
use Rattle.bundle_rules.specs.Judging.{at_once, same}
use Rattle.bundle_rules.specs.Kept.{nothing_kept}
use Rattle.bundle_json_document.specs.Answer.{line_of, IsDocumentRefusal}
use Rattle.bundle_json_document.specs.Document.{IsRefusalLine}
use Rattle.bundle_json_document.specs.declared.document.Document.{Document}

pub wants_memory : (may_give : Name → Bool → List (KeyValueProp Expr) → Type 0)
    (may_fail_hook : Name → Bool → Type 0) (document : Document) →
    IsDocumentRefusal may_give may_fail_hook document OutOfMemory
wants_memory may_give may_fail_hook document = record {
  kept = nothing_kept;
  headline = record {
    right = at_once;
    grows = same;
    stays = record { names = ([], refl); trees = ([], refl); resolved = ([], refl) };
  };
}

pub memory_line : codes "error 22: OutOfMemory\n" ≡ line_of OutOfMemory
unfolding line_of digits
memory_line = refl

-- of the lines that reading refuses with, the one of the status 1
pub line_of_memory : (may_fail no_document : Type 0) (status : ℕ) (line : List ℕ)
    → status ≡ 1 → IsRefusalLine may_fail no_document status line → line ≡ codes "error 22: OutOfMemory\n"
line_of_memory may_fail no_document status line one (inl input) = absurd (omega arith)
line_of_memory may_fail no_document status line one (inr (inl document)) = absurd (omega arith)
line_of_memory may_fail no_document status line one (inr (inr memory)) = memory.1
