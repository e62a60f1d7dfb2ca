use Rattle.std.proofs.Common.{◌++◌, ap, arith, inl, inr, refl, string_bytes, ◌∙◌}
use Rattle.gutsirava_c.proofs.Reading.{answers_all, refuses_all}
use Rattle.gutsirava_c.proofs.reply.reply_to.Goals as goal

pub returns-in_ok-push-in-Ok-bundles_of : goal.returns-in_ok-push-in-Ok-bundles_of
returns-in_ok-push-in-Ok-bundles_of c =
    let parsed = c.in-Ok.parsed in
    let pushed = c.in_ok-push-in-Ok-bundles_of.ensures in
    inl (
      refl,
      record {
        text = string_bytes c.in-Ok-bundles_of.text;
        is_right = answers_all c.args.input.now parsed.0 parsed.1 c.in-Ok.ensures.document _ c.in-Ok-bundles_of.ensures.made;
        is_whole = pushed.bytes ∙ ap (λ it. string_bytes c.in-Ok-bundles_of.text ++ it) (pushed.ascii (omega arith));
      },
    )

pub returns-in_ok-text-in-Err : goal.returns-in_ok-text-in-Err
returns-in_ok-text-in-Err c =
    let parsed = c.in-Ok.parsed in
    inr (inl (
      refl,
      record {
        refusal = c.in-Err.refusal;
        is_right = elim c.in-Err.ensures.refused [
          | inl memory ↦ inl memory
          | inr right ↦ inr (refuses_all c.args.input.now parsed.0 parsed.1 c.in-Ok.ensures.document _ right)
        ];
        is_told = c.in_ok-text-in-Err.ensures;
      },
    ))

pub returns-in-Err-Form : goal.returns-in-Err-Form
returns-in-Err-Form c =
    inr (inr (
      refl,
      record {
        no_document = c.in-Err-Form.ensures.refused c.in-Err-Form.field-0-is;
        is_line = c.in_ok-text-in-Err-Form.ensures.ok;
      },
    ))
