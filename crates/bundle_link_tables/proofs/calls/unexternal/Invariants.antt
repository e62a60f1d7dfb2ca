-- Those of no external among the calls that were passed.
use Rattle.std.proofs.Common.{◌≡◌, not, map, take, bytes_eq}
use Rattle.std.specs.Prelude.{filter}
use Rattle.bundle_link_tables.specs.TablesOf.{call_entry_of}
use Rattle.bundle_link_tables.proofs.calls.unexternal.Given as goal
use Rattle.indexmap.specs.IndexSet.{contains_by}

abbrev pub invariant-loop-call : goal.invariant-loop-call
invariant-loop-call l = map call_entry_of l.kept.items ≡ filter (λ call. not (contains_by (λ k. bytes_eq call.specifier k.now) l.external)) (map call_entry_of (take l.call-index l.calls))
