use Rattle.std.proofs.Common.{inl, inr, refl, sym, subst}
use Rattle.gutsirava_c.specs.Form.{IsErrorLine}
use Rattle.gutsirava_c.proofs.Forms.{not_utf8}
use Rattle.gutsirava_c.proofs.form.reply_to.Goals as goal

pub returns-in_default : goal.returns-in_default
returns-in_default c =
    inr (refl, inl (subst (IsErrorLine c.args.source.now) (sym c.in_ok-text.ensures.ok) (not_utf8 c.args.source.now)))
