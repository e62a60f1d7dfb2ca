-- Where specifiers lead, by the modules that are to be linked.
use Rattle.std.specs.Prelude.{ℕ, Bool, false, List, Option, Some, None, bytes_eq, slice_get, unwrap_or, if◌then◌else◌}
use Rattle.std.specs.BTreeMap.{get_by_text}
use Rattle.indexmap.specs.IndexSet.{contains_by}
use Rattle.bundle_rules.specs.Nodes.{Text}
use Rattle.bundle_link_index.specs.Said.{Lead, Outside, ToModule, ToCommonJs, Nowhere}
use Rattle.bundle_link_index.specs.declared.target.LinkModule.{LinkModule}
use Rattle.bundle_link_index.specs.declared.kinds.Kinds.{Kinds}
use Rattle.bundle_link_index.specs.declared.kinds.Lead.{Lead as Told}
use Rattle.bundle_link_index.specs.declared.kinds.Lead.TheVariants as k

-- where a specifier leads, as it is told
abbrev pub lead_told : Told → Lead
lead_told k.External = Outside
lead_told (k.Module d) = ToModule d
lead_told (k.CommonJs c) = ToCommonJs c
lead_told k.Nowhere = Nowhere

-- whether a number is flagged
abbrev pub flagged : List Bool → ℕ → Bool
flagged flags n = unwrap_or (slice_get flags n) false

-- the module to which a text leads in a module, if it is there
abbrev pub leads_from : Option LinkModule → Text → Option ℕ
leads_from None s = None
leads_from (Some m) s = get_by_text m.leads.now s

-- the same, by the number of the module
abbrev pub required_of : List LinkModule → ℕ → Text → Option ℕ
required_of modules m s = leads_from (slice_get modules m) s

-- that a specifier leads to a module, where these are CommonJS
abbrev pub lead_to : List Bool → ℕ → Lead
lead_to flags d = if flagged flags d then ToCommonJs d else ToModule d

-- the same, or that it leads nowhere
abbrev pub lead_found : List Bool → Option ℕ → Lead
lead_found flags None = Nowhere
lead_found flags (Some d) = lead_to flags d

-- where a specifier of a module leads
abbrev pub lead_of : Kinds → ℕ → Text → Lead
lead_of kinds m s =
    if contains_by (λ k. bytes_eq s k.now) kinds.externals
    then Outside
    else lead_found kinds.common_js.items (required_of kinds.modules.now m s)
