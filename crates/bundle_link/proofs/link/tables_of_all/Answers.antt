use Rattle.std.proofs.Common.{◌+◌, List, [], ◌∷◌, ◌++◌, ap, sym, ◌∙◌, subst, take, inr, length, refl, arith}
use Rattle.std.specs.List.{AllZip}
use Rattle.std.proofs.lemmas.List.{take_more}
use Rattle.std.proofs.lemmas.Slice.Zip.{all_zipped_more}
use Rattle.std.proofs.lemmas.Option.{slice_get_read}
use Rattle.std.proofs.lemmas.Result.{err_from_is_err_and}
use Rattle.bundle_link.specs.Programs.{HasTables}
use Rattle.bundle_link.specs.declared.transformed.TransformedModule.{TransformedModule}
use Rattle.bundle_link.proofs.ProgramLemmas.{are-faultless}
use Rattle.bundle_link.proofs.link.tables_of_all.Goals as goal

pub returns-in_err-read-clause-refused : goal.returns-in_err-read-clause-refused
returns-in_err-read-clause-refused c =
    let all = c.args.modules.now in
    let one = c.module-item.result in
    let there = slice_get_read all (length all) c.loop-module.module-index one refl (omega arith) c.module-item.is in
    let p = err_from_is_err_and c.from_residual-in_err-read.result c.from_residual-in_err-read.ensures.1 in
    rw (p.1, p.2) (inr (record {
      place = c.loop-module.module-index;
      its = one;
      there = there;
      told = c.in_err-read.ensures.refused;
      before =
          are-faultless c.args.config.now (take c.loop-module.module-index all)
          c.loop-module.tables.items c.loop-module.invariant;
    }))

pub loop-module-preserved : goal.loop-module-preserved
loop-module-preserved c =
    let modules = c.args.modules.now in
    let i = c.loop-module.module-index in
    let its = c.module-item.result in
    let done = c.loop-module.tables.items in
    let tables = c.in_ok-read.field-0 in
    let more = take_more modules i its c.loop-module-test.true ∙ ap (λ (y : TransformedModule). take i modules ++ y ∷ []) (sym c.module-item.is) in
    subst (λ all. AllZip (HasTables c.args.config.now) (take (i + 1) modules) all) (sym c.in_ok-push.ensures.items)
    (subst (λ (l : List TransformedModule). AllZip (HasTables c.args.config.now) l (done ++ tables ∷ [])) (sym more)
    (all_zipped_more (HasTables c.args.config.now) (take i modules) done its tables c.loop-module.invariant c.in_ok-read.ensures.given))
