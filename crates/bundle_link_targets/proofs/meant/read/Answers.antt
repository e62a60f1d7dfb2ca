use Rattle.std.proofs.Common.{◌+◌, ap, map, sym, ◌∙◌, subst}
use Rattle.bundle_link_index.specs.Outside.{IsIndexOf}
use Rattle.bundle_link_index.specs.Says.{target_of}
use Rattle.bundle_link_tables.specs.Used.{name_read}
use Rattle.bundle_link_targets.specs.Meant.{ReadsOn}
use Rattle.bundle_link_targets.proofs.ListLemmas.{read-next, read-stops, read-ends}
use Rattle.bundle_link_targets.proofs.meant.read.Goals as goal

pub returns-in_default-clause-right : goal.returns-in_default-clause-right
returns-in_default-clause-right c = λ p is.
    let inv = c.loop-read.invariant in
    let reads = c.args.reads.now in
    subst (λ k. ReadsOn p (target_of c.args.target) (map name_read reads) k (target_of c.loop-read.meaning.target)) (sym inv.1)
    (read-stops p (target_of c.args.target) (target_of c.loop-read.meaning.target) reads c.loop-read.read-index _ c.loop-read-test.true c.in_ok-next.field-0
    (c.in_ok-next.ensures.right p (subst (IsIndexOf p) (sym inv.0) is)) (inv.2 p is) c.in_default.is)

pub loop-read-preserved : goal.loop-read-preserved
loop-read-preserved c =
    let inv = c.loop-read.invariant in
    let reads = c.args.reads.now in (
      c.in_ok-next.ensures.same ∙ inv.0,
      ap (λ n. n + 1) inv.1,
      λ p is. read-next p (target_of c.args.target) (target_of c.loop-read.meaning.target) reads c.loop-read.read-index _ c.loop-read-test.true c.in_ok-next.field-0
          (c.in_ok-next.ensures.right p (subst (IsIndexOf p) (sym inv.0) is)) (inv.2 p is) c.in-Some.next c.in-Some.is,
    )

pub returns-clause-right : goal.returns-clause-right
returns-clause-right c = λ p is.
    let inv = c.loop-read.invariant in
    let reads = c.args.reads.now in
    subst (λ k. ReadsOn p (target_of c.args.target) (map name_read reads) k (target_of c.loop-read.meaning.target)) (sym inv.1)
    (read-ends p (target_of c.args.target) (target_of c.loop-read.meaning.target) reads c.loop-read.read-index c.loop-read-test.false (inv.2 p is))
