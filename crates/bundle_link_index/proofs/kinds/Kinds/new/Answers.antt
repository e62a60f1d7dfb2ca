use Rattle.bundle_link_index.specs.Handed.{required_by}
use Rattle.bundle_link_index.proofs.ProgramLemmas.{are_modules}
use Rattle.bundle_link_index.proofs.kinds.Kinds.new.Goals as goal

pub returns-clause-right : goal.returns-clause-right
returns-clause-right c = λ p w.
    are_modules p _ c.args.setting.require w c.in_ok-externals.ensures
    (c.in_ok-common_js.ensures (required_by c.args.modules.now c.args.list.now) c.in_ok-required.ensures)
