-- The line of the file, and the excerpt under it.
use Rattle.std.proofs.Common.{ℕ, List, [], ◌∷◌, subst}
use Rattle.gutsirava_report.specs.Excerpt.{at_text}
use Rattle.gutsirava_report.specs.Gains.{Gains}
use Rattle.gutsirava_report.specs.Gains.Gain.{Words, Ended}
use Rattle.gutsirava_report.specs.declared.style.Style.TheVariants.{Plain}
use Rattle.gutsirava_report.proofs.ResultLemmas.{OnOk-map}
use Rattle.gutsirava_report.proofs.GainLemmas.{gains_then}
use Rattle.gutsirava_report.proofs.excerpt.push_place.Goals as goal

pub returns-in_ok-push_bar-in-Some : goal.returns-in_ok-push_bar-in-Some
returns-in_ok-push_bar-in-Some c =
    let arrow = c.in_ok-push_arrow-in-Some.ensures in
    let bar = c.in_ok-push_bar-in-Some.ensures in
    rw c.in-Some.is (OnOk-map c.push_stretch.result (λ added. record {
      arrow = arrow.0;
      bar = bar.0;
      above = c.push_bar.new.sheet;
      head = gains_then _ _ _ _ _ arrow.1 (gains_then _ _ _ _ _
          (subst (λ (path : List ℕ). Gains c.push_arrow.new.sheet c.push_name.new.sheet
          (Words Plain path ∷ Words Plain (at_text c.in-Some.stretch) ∷ Ended ∷ []))
          c.as_str-in-Some.ensures.value c.in_ok-push_name-in-Some.ensures) bar.1);
      excerpt = added;
    }) c.push_stretch.ensures)
