-- The count is above each number, and not above what is.
use Rattle.std.proofs.Common.{◌+◌, arith, drop, refl}
use Rattle.bundler_entry.proofs.LinkedLemmas.{above-all, above-more, above-none, least-all, least-more, least-none, none-left, one-left}
use Rattle.bundler_entry.proofs.source.count_of_files.Goals as goal

pub loop-id-init : goal.loop-id-init
loop-id-init c = (
  above-none c.args.files.now c.args.files.now 0 refl,
  least-none c.args.files.now c.args.files.now refl,
)

pub loop-id-preserved : goal.loop-id-preserved
loop-id-preserved c =
    let files = c.args.files.now in
    let i = c.loop-id.id-index in
    let e = c.loop-id-item.result in
    let is = one-left files i e c.loop-id-test.true c.loop-id-item.is in (
      above-more files (drop i files) (drop (i + 1) files) c.loop-id.count c.max-count.result e is
          (omega (arith, c.max-count.ensures))
          (omega (arith, c.max-count.ensures, c.saturating_add.ensures, c.as_u32.ensures, c.as_u32.type_inv))
          c.loop-id.invariant.0,
      least-more files (drop i files) (drop (i + 1) files) c.loop-id.count c.max-count.result e is
          (λ n before here. omega (arith, before, here, c.max-count.ensures, c.saturating_add.ensures, c.as_u32.ensures, c.as_u32.type_inv))
          c.loop-id.invariant.1,
    )

pub returns-clause-above : goal.returns-clause-above
returns-clause-above c =
    above-all c.args.files.now _ c.loop-id.count (none-left c.args.files.now c.loop-id.id-index c.loop-id-test.false)
    c.loop-id.invariant.0

pub returns-clause-least : goal.returns-clause-least
returns-clause-least c = least-all c.args.files.now _ c.loop-id.count c.loop-id.invariant.1
