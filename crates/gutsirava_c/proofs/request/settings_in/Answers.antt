use Rattle.std.proofs.Common.{subst}
use Rattle.gutsirava_c.specs.Request.{IsFormat, IsOrder, IsPlatform, IsTextOrNone}
use Rattle.gutsirava_c.proofs.request.settings_in.Goals as goal

pub returns-clause-are : goal.returns-clause-are
returns-clause-are c = record {
  format = subst (λ it. IsFormat it c.in_ok-format.format) c.under.ensures c.in_ok-format.ensures.is;
  order = subst (λ it. IsOrder it c.in_ok-in_standard_order.in_standard_order) c.under-2.ensures c.in_ok-in_standard_order.ensures.is;
  platform = subst (λ it. IsPlatform it c.in_ok-platform.platform) c.under-3.ensures c.in_ok-platform.ensures.is;
  global_name = subst (λ it. IsTextOrNone it c.in_ok-text_or_none.field-0) c.under-4.ensures c.in_ok-text_or_none.ensures.is;
}
