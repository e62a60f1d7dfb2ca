-- One text more.
use Rattle.bundle_link_tables.proofs.MarkLemmas.{once_put}
use Rattle.bundle_link_tables.proofs.tables.add_called.Goals as goal

pub returns : goal.returns
returns c = λ seen before. once_put seen c.args.texts.now.keys c.insert.new.self.keys c.args.call.specifier c.in_ok-insert.ensures.keys before
