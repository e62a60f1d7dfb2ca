use Rattle.std.proofs.Common.{◌++◌, append-nil, ap, sym, ◌∙◌}
use Rattle.bundle_rules.specs.Nodes.{has_text}
use Rattle.bundle_link_tables.proofs.MarkLemmas.{texts_put}
use Rattle.bundle_link_index.specs.Leads.{lead_told}
use Rattle.bundle_link_targets.specs.Taken.{starred_as}
use Rattle.bundle_link_targets.proofs.taken.add_star.Goals as goal

pub returns-in_ok-insert-in-External : goal.returns-in_ok-insert-in-External
returns-in_ok-insert-in-External c = λ before known x.
    texts_put before c.args.starred.now.keys c.insert.new.self.keys c.args.star c.in_ok-insert-in-External.ensures.keys known x
    ∙ ap (λ lead. has_text x (before ++ starred_as (lead_told lead) c.args.star.now)) (sym c.in-External.is)

pub returns-in-Module : goal.returns-in-Module
returns-in-Module c = λ before known x. known x ∙ ap (has_text x) (sym (append-nil before)) ∙ ap (λ lead. has_text x (before ++ starred_as (lead_told lead) c.args.star.now)) (sym c.in-Module.is)

pub returns-in-CommonJs : goal.returns-in-CommonJs
returns-in-CommonJs c = λ before known x. known x ∙ ap (has_text x) (sym (append-nil before)) ∙ ap (λ lead. has_text x (before ++ starred_as (lead_told lead) c.args.star.now)) (sym c.in-CommonJs.is)

pub returns-in-Nowhere : goal.returns-in-Nowhere
returns-in-Nowhere c = λ before known x. known x ∙ ap (has_text x) (sym (append-nil before)) ∙ ap (λ lead. has_text x (before ++ starred_as (lead_told lead) c.args.star.now)) (sym c.in-Nowhere.is)
