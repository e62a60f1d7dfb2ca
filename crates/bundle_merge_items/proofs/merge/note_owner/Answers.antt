-- One owner more.
use Rattle.std.proofs.Common.{◌≡◌, ◌≤◌, ◌<◌, ◌+◌, ◌-◌, ◌++◌, ◌∷◌, [], ℕ, List, Option, length, sym, ap, ◌∙◌, append_assoc, arith}
use Rattle.std.proofs.Math.ListN.{replicate}
use Rattle.std.proofs.lemmas.Grind.{replicate_next}
use Rattle.bundle_merge_items.proofs.merge.note_owner.Goals as goal

noted : (before old new : List (Option ℕ)) (owner : Option ℕ) (i count : ℕ) →
    new ≡ old ++ owner ∷ [] →
    old ≡ before ++ replicate (i - length before) owner → length before ≤ i → i < count →
    (new ≡ before ++ replicate (i + 1 - length before) owner) × (length before ≤ i + 1)
    × (i + 1 - length before ≤ count - length before)
noted before old new owner i count pushed was low below = (
  pushed
      ∙ (ap (λ l. l ++ owner ∷ []) was
      ∙ (append_assoc before (replicate (i - length before) owner) (owner ∷ [])
      ∙ ap (λ l. before ++ l)
      (sym (replicate_next (i - length before) owner)
      ∙ ap (λ n. replicate n owner)
      (let same : i - length before + 1 ≡ i + 1 - length before = omega arith in same)))),
  omega arith,
  omega arith,
)

pub loop-preserved : goal.loop-preserved
loop-preserved c =
    noted c.args.owners.now.items c.loop.owners.items c.push.new.self.items c.args.owner
    c.loop.counter c.args.count c.in_ok-push.ensures.items c.loop.invariant.0 c.loop.invariant.1
    c.loop-test.true
