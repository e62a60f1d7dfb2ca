-- A fault is one of the module that is read; where all modules are there, each is read in its turn.
use Rattle.std.proofs.Common.{◌≡◌, ◌<◌, ℕ, Option, Some, length, inl, inr, refl, ap, sym, ◌∙◌, arith}
use Rattle.std.specs.Prelude.{option_map, slice_get}
use Rattle.std.specs.Borrow.{Bor}
use Rattle.std.proofs.lemmas.Option.{slice_get-get_or, slice_get_within}
use Rattle.std.proofs.lemmas.Result.{err_from_is_err_and}
use Rattle.bundle_link.specs.declared.transformed.TransformedModule.{TransformedModule}
use Rattle.bundle_merge.specs.Read.{IsModuleKnown}
use Rattle.bundle_merge.proofs.HandedLemmas.{found-is, next-read, reads-more, some-found}
use Rattle.bundle_merge.proofs.joined.read_all.Goals as goal
use Rattle.bundle_merge.proofs.joined.read_all.Goals.{in-Some+in_ok-read_module+in_ok-push, in_default}

-- the module that is referred to
abbrev its_module : Option (Bor TransformedModule) → Option TransformedModule
its_module found = option_map (λ its. its.now) found

pub returns-in_err-read_module-clause-refused : goal.returns-in_err-read_module-clause-refused
returns-in_err-read_module-clause-refused c =
    let p = err_from_is_err_and c.from_residual-in_err-read_module.result c.from_residual-in_err-read_module.ensures.1 in
    rw (p.1, p.2)
    (inr (c.in-Some.known.now, _, c.in-Some.ensures.found, c.in_err-read_module.ensures.refused))

pub returns-in_err-read_module-clause-told : goal.returns-in_err-read_module-clause-told
returns-in_err-read_module-clause-told c =
    let p = err_from_is_err_and c.from_residual-in_err-read_module.result c.from_residual-in_err-read_module.ensures.1 in
    rw (p.1, p.2)
    (λ known long.
    (let linker = c.args.linker.now in
    let list = linker.linked.list.items in
    let copies = c.args.copies.now in
    let place = c.loop-place.place in
    let its = c.index-copies-place.result in
    let there : slice_get copies place ≡ Some its =
    slice_get-get_or copies place its c.loop-place-test.true
    ∙ ap (λ y. Some y) (sym c.index-copies-place.is) in
    let below = slice_get_within copies place its there in
    let within : place < length list = omega (arith, below, long) in
    let found =
    found-is linker list known place within (its_module c.module_at.result)
    (λ m it at is.
    c.module_at.ensures.known m it (ap (λ l. slice_get l place) c.list-list.ensures ∙ at) is)
    c.in-Some.known.now (ap its_module c.in-Some.is) in
    inr (record {
      place = place;
      number = found.0;
      items = its;
      known = c.in-Some.known.now;
      at = found.1;
      there = there;
      is_known = found.2;
      told = c.in_err-read_module.ensures.refused;
    })))

pub returns-in_err-external-clause-told : goal.returns-in_err-external-clause-told
returns-in_err-external-clause-told c =
    let p = err_from_is_err_and c.from_residual.result c.from_residual.ensures.1 in
    rw (p.1, p.2) (λ known long. inl refl)

pub returns-in_err-push-clause-told : goal.returns-in_err-push-clause-told
returns-in_err-push-clause-told c =
    let p = err_from_is_err_and c.from_residual-in_err-push.result
    c.from_residual-in_err-push.ensures.1 in
    rw (p.1, p.2) (λ known long. inl refl)

pub loop-place-preserved : goal.loop-place-preserved
loop-place-preserved c = λ known long.
    let linker = c.args.linker.now in
    let list = linker.linked.list.items in
    let copies = c.args.copies.now in
    let ids = c.args.places.now.keys in
    let place = c.loop-place.place in
    let its = c.index-copies-place.result in
    let there : slice_get copies place ≡ Some its =
    slice_get-get_or copies place its c.loop-place-test.true
    ∙ ap (λ y. Some y) (sym c.index-copies-place.is) in
    let below = slice_get_within copies place its there in
    let within : place < length list = omega (arith, below, long) in
    let finds : (m : ℕ) (it : TransformedModule) → slice_get list place ≡ Some m →
    IsModuleKnown linker m it → its_module c.module_at.result ≡ Some it =
    λ m it at is.
    c.module_at.ensures.known m it (ap (λ l. slice_get l place) c.list-list.ensures ∙ at) is in
    elim c.match-module_at.branch [
      | in-Some+in_ok-read_module+in_ok-push w ↦
          (let one = w.in-Some.known.now in
          let found =
          found-is linker list known place within (its_module c.module_at.result) finds one
          (ap its_module w.in-Some.is) in
          let read = w.in_ok-read_module.field-0 in
          let old = c.loop-place.reads.items in
          let new = c.match-module_at.reads.items in
          let more = ap (λ v. v.items) w.reads-is ∙ w.in_ok-push.ensures.items in
          reads-more linker ids list copies place old new read more
          (next-read linker ids list copies place old new read more found.0 its one found.1 there
          found.2 w.in_ok-read_module.ensures.read)
          (c.loop-place.invariant known long))
      | in_default w ↦
          absurd (some-found linker list known place within (its_module c.module_at.result) finds
          (ap its_module w.in_default.is))
    ]
