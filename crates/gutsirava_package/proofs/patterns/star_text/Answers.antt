-- The key is its parts round a `*`.
use Rattle.std.proofs.Common.{rules, sym}
use Rattle.gutsirava_package.proofs.PatternLemmas.{parts-key}
use Rattle.gutsirava_package.proofs.patterns.star_text.Goals as goal

pub returns-else-is_empty-clause-fits : goal.returns-else-is_empty-clause-fits
returns-else-is_empty-clause-fits c =
    let are = sym c.in_ok-base.ensures in
    record {
      base = c.in_ok-base.base.now;
      trailer = c.in_ok-base.trailer.now;
      key_is = parts-key _ _ _ are;
      parts_are = are;
      text_is = search rules;
      filled = search rules;
    }
