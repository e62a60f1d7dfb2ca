use Rattle.std.proofs.Common.{◌≡◌, ◌⊎◌, inl, inr, length}
use Rattle.bundle_link.specs.declared.module.NumberedModule.{NumberedModule}
use Rattle.bundle_link.proofs.NumbersLemmas.{first_all, second_all}
use Rattle.bundle_link.specs.declared.transformed.TransformedModule.{TransformedModule}
use Rattle.bundle_link.proofs.link.numbered_modules.Goals as goal

pub returns : goal.returns
returns c =
    let done = c.loop-module.numbered.items in
    let rest = c.loop-module.module-iterator.a.rest.now in
    let more = c.loop-module.module-iterator.b.rest.now in
    let ended : (length rest ≡ 0) ⊎ (length more ≡ 0) = elim c.in-None.ensures.steps [ inl none ↦ inl none.1.0 | inr none ↦ inr none.1.0 ] in
    let all = c.args.modules.now in
    let every = c.args.tables.now in
    let known = c.loop-module.invariant in
    record {
      ids = λ long. first_all (λ (it : NumberedModule). it.id) (λ (its : TransformedModule). its.id) (λ (it : NumberedModule). it.tables.now) done rest all more every known.0 known.2 ended long;
      deps = λ long. first_all (λ (it : NumberedModule). it.deps.now) (λ (its : TransformedModule). its.deps.items) (λ (it : NumberedModule). it.tables.now) done rest all more every known.1 known.2 ended long;
      tables = λ long. second_all (λ (it : NumberedModule). it.id) (λ (its : TransformedModule). its.id) (λ (it : NumberedModule). it.tables.now) done rest all more every known.0 known.2 ended long;
    }
