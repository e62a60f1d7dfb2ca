use Rattle.std.proofs.Common.{nat_eq, [], subst, arith}
use Rattle.std.proofs.lemmas.Map.Keys.{IsDistinct-from_apart}
use Rattle.bundle_order_graph.specs.Modules.{IsWhole}
use Rattle.bundle_order_graph.proofs.graph.ModuleGraph.deps_of.Goals as goal

pub returns-in-Some-clause-nodes : goal.returns-in-Some-clause-nodes
returns-in-Some-clause-nodes c = (subst (λ g. IsWhole g) c.self.view_is c.self.invariant).closed

pub returns-in-None-clause-nodes : goal.returns-in-None-clause-nodes
returns-in-None-clause-nodes c = (subst (λ g. IsWhole g) c.self.view_is c.self.invariant).closed

pub returns-in-None-clause-once : goal.returns-in-None-clause-once
returns-in-None-clause-once c = IsDistinct-from_apart nat_eq [] (λ i j d h k. absurd (omega (arith, k)))
