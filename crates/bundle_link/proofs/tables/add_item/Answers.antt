-- An export with a new name goes last.
use Rattle.bundle_link.proofs.ProgramLemmas.{added}
use Rattle.bundle_link.proofs.tables.add_item.Goals as goal

pub returns : goal.returns
returns c = λ free.
    added c.args.items.now.entries c.insert.new.self.entries c.in_ok-name.name c.in_ok-entry.entry _ _ c.in_ok-insert.ensures.entries c.in_ok-name.ensures.ok (c.in_ok-entry.ensures _) free
