-- The names are those of keywords or, where bindings are renamed, those of the naming rule over them.
use Rattle.std.proofs.Common.{not, refl, ap, sym, ◌∙◌}
use Rattle.std.proofs.lemmas.Bool.{false≢true}
use Rattle.std.proofs.lemmas.Result.{IfOk-weaker}
use Rattle.bundler_entry.proofs.finish.names_of.Goals as goal

pub returns-then-config : goal.returns-then-config
returns-then-config c = record {
  keywords = c.in_ok-keywords.keywords;
  texts = c.in_ok-keywords.ensures.texts;
  contexts = c.in_ok-keywords.ensures.kept;
  kept = λ so. refl;
  named = λ so. absurd (false≢true (sym (ap not c.if-config.true) ∙ so));
}

pub returns : goal.returns
returns c =
    IfOk-weaker c.hygienic_names.result _ _
    (λ names named. record {
      keywords = c.in_ok-keywords.keywords;
      texts = c.in_ok-keywords.ensures.texts;
      contexts = c.in_ok-keywords.ensures.kept;
      kept = λ so. absurd (false≢true (sym so ∙ ap not c.if-config.false));
      named = λ so. named;
    })
    c.hygienic_names.ensures.named
