use Rattle.bundle_link_targets.specs.Names.{texts_in}
use Rattle.bundle_link_targets.proofs.CallPlaceLemmas.{gains-name, gains-put}
use Rattle.bundle_link_targets.proofs.names.add_name.Goals as goal

pub returns-then-is_own : goal.returns-then-is_own
returns-then-is_own c = gains-name (texts_in c.args.names.now) (texts_in c.insert.new.self) c.args.export c.args.is_own (gains-put c.args.names.now.keys c.insert.new.self.keys c.args.export.name c.in_ok-insert.ensures.keys)
