use Rattle.bundle_link.proofs.link.Linker.is_cjs.Goals as goal

pub returns-clause-told : goal.returns-clause-told
returns-clause-told c = λ p w. c.is_common_js.ensures.told p w.linked
