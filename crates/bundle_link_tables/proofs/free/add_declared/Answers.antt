-- An entry declares one text more, or none.
use Rattle.std.proofs.Common.{◌++◌, append-nil, ap, sym, ◌∙◌}
use Rattle.bundle_rules.specs.Nodes.{has_text}
use Rattle.bundle_link_tables.specs.Exported.{text_list}
use Rattle.bundle_link_tables.proofs.MarkLemmas.{texts_put}
use Rattle.bundle_link_tables.proofs.free.add_declared.Goals as goal

pub returns-in_ok-insert-in-Some : goal.returns-in_ok-insert-in-Some
returns-in_ok-insert-in-Some c = λ before known x.
    texts_put before c.args.names.now.keys c.insert.new.self.keys c.in-Some.name c.in_ok-insert-in-Some.ensures.keys known x
    ∙ ap (λ l. has_text x (before ++ l)) (ap text_list (sym c.in-Some.is) ∙ c.declared_name.ensures)

pub returns-in-None : goal.returns-in-None
returns-in-None c = λ before known x.
    known x ∙ ap (has_text x) (sym (append-nil before) ∙ ap (λ l. before ++ l) (ap text_list (sym c.in-None.is) ∙ c.declared_name.ensures))
