use Rattle.std.proofs.Common.{ℕ, List, ◌++◌, map, take}
use Rattle.bundle_rules.specs.Entries.{ImportEntry}
use Rattle.bundle_link_tables.specs.Exported.{Finds}
use Rattle.bundle_link_index.specs.Leads.{lead_of}
use Rattle.bundle_link_index.specs.Numbered.{NotedEntry, HoldsAt, note}
use Rattle.bundle_link_index.proofs.index.add_entries.Given as goal

abbrev pub invariant-loop-export : goal.invariant-loop-export
invariant-loop-export l = (imports : List ImportEntry) → Finds l.locals imports → (noted : List NotedEntry) (stars : List (List ℕ)) → HoldsAt noted stars l.fn.numbers l.fn.links → HoldsAt (noted ++ map (note (lead_of l.kinds l.number) l.number imports) (take l.export-index l.exports)) stars l.numbers l.links
