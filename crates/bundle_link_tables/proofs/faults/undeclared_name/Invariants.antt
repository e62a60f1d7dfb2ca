-- What is found is found among the names that follow.
use Rattle.std.proofs.Common.{◌≡◌, drop, map, bytes_eq}
use Rattle.bundle_link_tables.specs.Judged.{undeclared_name}
use Rattle.bundle_link_tables.specs.Listed.{export_listed_as}
use Rattle.bundle_link_tables.proofs.faults.undeclared_name.Given as goal
use Rattle.indexmap.specs.IndexSet.{contains_by}

abbrev pub invariant-loop-name : goal.invariant-loop-name
invariant-loop-name l = undeclared_name (λ x. contains_by (λ k. bytes_eq x k.now) l.declared) (map export_listed_as l.listed) ≡ undeclared_name (λ x. contains_by (λ k. bytes_eq x k.now) l.declared) (map export_listed_as (drop l.name-index l.listed))
