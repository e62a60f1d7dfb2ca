-- The tables and the leads so far, and those of what is left of both lists, are all.
use Rattle.std.proofs.Common.{◌≡◌, ◌++◌, map}
use Rattle.bundle_link.proofs.linked.link_modules.Given as goal

abbrev pub invariant-loop-module : goal.invariant-loop-module
invariant-loop-module l =
    (map (λ it. it.tables.now) l.linked.items ++ map (λ its. its.tables.now) l.module-iterator.a.rest.now ≡ map (λ its. its.tables.now) l.modules)
    × (map (λ it. it.leads.now) l.linked.items ++ l.module-iterator.b.rest.now ≡ l.leads)
