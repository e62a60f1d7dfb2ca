-- A stable sort by names gives what putting each pair at its place gives.
use Rattle.std.proofs.Common.{rules}
use Rattle.std.proofs.lemmas.List.Sorted.{answers_always}
use Rattle.bundle_merge_injected.specs.Listed.{pair_of}
use Rattle.bundle_merge_forms.proofs.Objects.{sorted_is}
use Rattle.bundle_merge_forms.proofs.exports.by_name.Goals as goal

pub returns : goal.returns
returns c =
    sorted_is pair_of _ _ (c.in_ok-sort_by_key.ensures.sorted (λ p. p.name) (answers_always _ _ _ (λ f a r g h. search rules)))
    (c.sort_by_key.ensures.stable (λ p. p.name) (answers_always _ _ _ (λ f a r g h. search rules)))
