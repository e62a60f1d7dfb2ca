-- A line that no carriage return ends is whole.
use Rattle.std.proofs.Common.{[], ◌∷◌, false, refl, sym}
use Rattle.std.proofs.lemmas.Str.Pattern.{ends_text}
use Rattle.gutsirava_sources.proofs.text.without_return.Goals as goal

pub returns-in-None : goal.returns-in-None
returns-in-None c = rw (sym (ends_text false (13 ∷ []) c.args.line.now c.in-None.ensures.cases)) refl
