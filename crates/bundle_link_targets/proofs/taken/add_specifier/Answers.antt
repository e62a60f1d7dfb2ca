use Rattle.std.proofs.Common.{◌++◌, append-nil, ap, sym, ◌∙◌, rules}
use Rattle.bundle_rules.specs.Nodes.{each_once}
use Rattle.bundle_link_tables.proofs.MarkLemmas.{once_put}
use Rattle.bundle_link_index.proofs.ProgramLemmas.{external_here, external_none}
use Rattle.bundle_link_targets.proofs.taken.add_specifier.Goals as goal

pub returns-then-source : goal.returns-then-source
returns-then-source c = λ before known.
    once_put before c.args.specifiers.now.keys c.insert.new.self.keys c.args.source.specifier c.in_ok-insert.ensures.keys known
    ∙ ap (λ l. each_once (before ++ l)) (sym (external_here c.args.source (search rules)))

pub returns : goal.returns
returns c = λ before known.
    known ∙ ap each_once (sym (append-nil before) ∙ ap (λ l. before ++ l) (sym (external_none c.args.source (search rules))))
