use Rattle.std.proofs.Common.{◌-◌, ◌++◌, [], ◌∷◌, max, replicate, ap, ◌∙◌}
use Rattle.gutsirava_report.specs.Shown.{columns_of}
use Rattle.gutsirava_report.proofs.ExcerptLemmas.{excerpt_added}
use Rattle.gutsirava_report.proofs.excerpt.push_stretch.Goals as goal

pub returns : goal.returns
returns c =
    let marked = c.in_ok-marked.marked in
    excerpt_added c.end_line-2.result c.args.sheet.now c.push_shown.new.self c.push_shown-2.new.self c.push_shown-3.new.self
    c.push_shown-4.new.self c.end_line.new.self c.push_shown-5.new.self c.push_shown-6.new.self c.end_line-2.new.self c.args.style
    c.args.margin c.in_ok-before.before marked c.in_ok-after.after c.in_ok-bar.bar c.in_ok-marks.marks
    c.in_ok-push_shown.ensures c.in_ok-push_shown-2.ensures c.in_ok-push_shown-3.ensures c.in_ok-push_shown-4.ensures
    c.in_ok-end_line.ensures c.in_ok-push_shown-5.ensures c.in_ok-push_shown-6.ensures c.end_line-2.ensures
    (c.in_ok-bar.ensures ∙ ap (λ n. replicate (n - 2) 32 ++ (124 ∷ 32 ∷ [])) c.columns-room.ensures)
    (c.in_ok-marks.ensures
    ∙ ap (λ n. replicate n 32 ++ replicate (max 1 c.columns-width.result) 94) c.columns-indent.ensures
    ∙ ap (λ n. replicate (columns_of c.in_ok-before.before) 32 ++ replicate (max 1 n) 94) c.columns-width.ensures)
    c.args.stretch.now c.requires c.in_ok-before.ensures c.in_ok-marked.ensures c.in_ok-after.ensures
