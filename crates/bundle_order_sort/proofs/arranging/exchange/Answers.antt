-- Two values are swapped.
use Rattle.std.proofs.Common.{rules}
use Rattle.std.proofs.lemmas.List.Sorted.{IsPermutation-swap}
use Rattle.bundle_order_sort.proofs.arranging.exchange.Goals as goal

pub returns-then-b-len-clause-moved : goal.returns-then-b-len-clause-moved
returns-then-b-len-clause-moved g c = IsPermutation-swap c.args.values.now.items c.swap.new.self.items c.args.a c.args.b (search rules) (search rules) c.swap.ensures.items
