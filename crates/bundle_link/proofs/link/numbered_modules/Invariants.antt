-- The numbers, texts and tables so far, and those of what is left of both lists, are all.
use Rattle.std.proofs.Common.{◌≡◌, ◌++◌, map}
use Rattle.bundle_link.proofs.link.numbered_modules.Given as goal

abbrev pub invariant-loop-module : goal.invariant-loop-module
invariant-loop-module l =
    (map (λ its. its.id) l.numbered.items ++ map (λ its. its.id) l.module-iterator.a.rest.now ≡ map (λ its. its.id) l.modules)
    × (map (λ its. its.deps.now) l.numbered.items ++ map (λ its. its.deps.items) l.module-iterator.a.rest.now ≡ map (λ its. its.deps.items) l.modules)
    × (map (λ its. its.tables.now) l.numbered.items ++ l.module-iterator.b.rest.now ≡ l.tables)
