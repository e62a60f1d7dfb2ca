-- Each one that is gone over goes last.
use Rattle.std.proofs.Common.{◌+◌, List, [], ◌∷◌, ◌++◌, ap, sym, ◌∙◌, subst, take}
use Rattle.std.specs.List.{AllZip}
use Rattle.std.proofs.lemmas.List.{take_more}
use Rattle.std.proofs.lemmas.Slice.Zip.{all_zipped_more}
use Rattle.bundle_merge.specs.Handed.{IsPartRead}
use Rattle.bundle_merge.specs.declared.read.ReadModule.{ReadModule}
use Rattle.bundle_merge.proofs.joined.parts_of.Goals as goal

pub loop-read-preserved : goal.loop-read-preserved
loop-read-preserved c =
    let reads = c.args.reads.now in
    let i = c.loop-read.read-index in
    let its = c.read-item.result in
    let done = c.loop-read.parts.items in
    let part = c.part.result in
    let more =
    take_more reads i its c.loop-read-test.true
    ∙ ap (λ (y : ReadModule). take i reads ++ y ∷ []) (sym c.read-item.is) in
    subst (λ all. AllZip IsPartRead (take (i + 1) reads) all) (sym c.in_ok-push.ensures.items)
    (subst (λ (l : List ReadModule). AllZip IsPartRead l (done ++ part ∷ [])) (sym more)
    (all_zipped_more IsPartRead (take i reads) done its part c.loop-read.invariant
    c.part.ensures))
