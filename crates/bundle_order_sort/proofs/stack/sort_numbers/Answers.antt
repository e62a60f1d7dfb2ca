use Rattle.std.proofs.Common.{ap, ◌∙◌, ℕ, List, length, get_or, map, subst}
use Rattle.bundle_order_sort.specs.Numbers.{NeedsNumber}
use Rattle.bundle_order_sort.proofs.stack.sort_numbers.Goals as goal

pub put_out-requires-clause-needs : goal.put_out-requires-clause-needs
put_out-requires-clause-needs c = λ s t n. c.in_ok-needs.ensures.none s t (subst (λ l. NeedsNumber (map (λ v. v.items) l) s t) c.deref_mut.ensures.value n)

pub put_out-requires-clause-ends_len : goal.put_out-requires-clause-ends_len
put_out-requires-clause-ends_len c = ap length c.deref_mut-4.ensures.value ∙ c.in_ok-ends.ensures.len

pub put_out-requires-clause-ends : goal.put_out-requires-clause-ends
put_out-requires-clause-ends c = λ t h. ap (λ (l : List ℕ). get_or l t 0) c.deref_mut-4.ensures.value ∙ c.in_ok-ends.ensures.each t h
