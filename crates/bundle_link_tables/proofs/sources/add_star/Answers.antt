-- A star asks for one text more.
use Rattle.std.proofs.Common.{◌++◌, ap, sym, ◌∙◌}
use Rattle.bundle_rules.specs.Nodes.{each_once}
use Rattle.bundle_link_tables.specs.Exported.{text_list}
use Rattle.bundle_link_tables.proofs.MarkLemmas.{once_put}
use Rattle.bundle_link_tables.proofs.sources.add_star.Goals as goal

pub returns-in_ok-insert : goal.returns-in_ok-insert
returns-in_ok-insert c = λ seen before.
    once_put seen c.args.stars.now.keys c.insert.new.self.keys c.in-Some.specifier c.in_ok-insert.ensures.keys before
    ∙ ap (λ l. each_once (seen ++ l)) (ap text_list (sym c.in-Some.is) ∙ c.star_at.ensures)
