-- One text more, or none.
use Rattle.std.proofs.Common.{◌++◌, append-nil, ap, sym, ◌∙◌, rules}
use Rattle.bundle_rules.specs.Nodes.{each_once}
use Rattle.bundle_link_tables.proofs.MarkLemmas.{once_put}
use Rattle.bundle_link_tables.proofs.SourceLemmas.{asked_here, asked_outside}
use Rattle.bundle_link_tables.proofs.tables.add_request.Goals as goal

pub returns-in_ok-insert : goal.returns-in_ok-insert
returns-in_ok-insert c = λ seen before.
    once_put seen c.args.texts.now.keys c.insert.new.self.keys c.args.source.specifier c.in_ok-insert.ensures.keys before
    ∙ ap (λ l. each_once (seen ++ l)) (sym (asked_here c.args.source (search rules)))

pub returns-else-not-source : goal.returns-else-not-source
returns-else-not-source c = λ seen before.
    before ∙ ap each_once (sym (append-nil seen) ∙ ap (λ l. seen ++ l) (sym (asked_outside c.args.source (search rules))))
