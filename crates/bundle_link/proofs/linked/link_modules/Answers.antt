use Rattle.std.proofs.Common.{◌≡◌, ◌⊎◌, length, inl, inr}
use Rattle.bundle_link_index.specs.declared.target.LinkModule.{LinkModule}
use Rattle.bundle_link.specs.declared.module.NumberedModule.{NumberedModule}
use Rattle.bundle_link.proofs.NumbersLemmas.{first_all, second_all}
use Rattle.bundle_link.proofs.linked.link_modules.Goals as goal

pub returns : goal.returns
returns c =
    let done = c.loop-module.linked.items in
    let rest = c.loop-module.module-iterator.a.rest.now in
    let more = c.loop-module.module-iterator.b.rest.now in
    let ended : (length rest ≡ 0) ⊎ (length more ≡ 0) = elim c.in-None.ensures.steps [ inl none ↦ inl none.1.0 | inr none ↦ inr none.1.0 ] in
    let all = c.args.modules.now in
    let every = c.args.leads.now in
    record {
      tables = λ long. first_all (λ (it : LinkModule). it.tables.now) (λ (its : NumberedModule). its.tables.now) (λ (it : LinkModule). it.leads.now) done rest all more every c.loop-module.invariant.0 c.loop-module.invariant.1 ended long;
      leads = λ long. second_all (λ (it : LinkModule). it.tables.now) (λ (its : NumberedModule). its.tables.now) (λ (it : LinkModule). it.leads.now) done rest all more every c.loop-module.invariant.0 c.loop-module.invariant.1 ended long;
    }
