-- One text more, or none.
use Rattle.std.proofs.Common.{◌++◌, append-nil, ap, sym, ◌∙◌, rules}
use Rattle.bundle_rules.specs.Nodes.{has_text}
use Rattle.bundle_link_tables.proofs.MarkLemmas.{texts_put}
use Rattle.bundle_link_index.proofs.ProgramLemmas.{external_here, external_none}
use Rattle.bundle_link_index.proofs.kinds.add_external.Goals as goal

pub returns-then-source : goal.returns-then-source
returns-then-source c = λ before known x.
    texts_put before c.args.texts.now.keys c.insert.new.self.keys c.args.source.specifier c.in_ok-insert.ensures.keys known x
    ∙ ap (λ l. has_text x (before ++ l)) (sym (external_here c.args.source (search rules)))

pub returns : goal.returns
returns c = λ before known x.
    known x ∙ ap (has_text x) (sym (append-nil before) ∙ ap (λ l. before ++ l) (sym (external_none c.args.source (search rules))))
