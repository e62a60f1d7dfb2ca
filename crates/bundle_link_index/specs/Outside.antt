-- Which modules star an external, and the graph in which they and those that star them are found.
use Rattle.std.specs.Prelude.{◌≡◌, ◌↔◌, ℕ, Bool, false, true, List, Option, Some, None}
use Rattle.std.specs.Borrow.{Bor}
use Rattle.std.specs.List.{list_any}
use Rattle.bundle_rules.specs.Nodes.{Text}
use Rattle.bundle_rules.specs.Program.{Program}
use Rattle.bundle_rules.specs.Faults.{StarsExternal}
use Rattle.bundle_link_index.specs.declared.links.OwnLink.{OwnLink}
use Rattle.bundle_link_index.specs.declared.links.OwnLink.TheVariants.{Gives}
use Rattle.bundle_link_index.specs.declared.links.Links.{Links}
use Rattle.bundle_link_index.specs.Graph.{Graph, graph_of, own_of}
use Rattle.bundle_link_index.specs.Given.{Given}
use Rattle.bundle_link_index.specs.declared.index.Index.{Index}
use Rattle.bundle_link_index.specs.declared.target.LinkModule.{LinkModule}
use Rattle.bundle_link_index.specs.Linked.{IsLinkGraph}
use Rattle.bundle_link_index.specs.Said.{Lead, Outside, ToModule, ToCommonJs, Nowhere}
use Rattle.bundle_link_index.specs.Leads.{flagged}
use Rattle.bundle_link_index.specs.Numbered.{all_starred, index_names, values_of}
use Rattle.bundle_link_index.specs.Handed.{modules_numbered}

-- whether a specifier leads to an external
abbrev pub is_outside : Lead → Bool
is_outside Outside = true
is_outside (ToModule d) = false
is_outside (ToCommonJs c) = false
is_outside Nowhere = false

-- whether one of these stars is of an external
abbrev pub stars_outside : (Text → Lead) → List (Bor Text) → Bool
stars_outside lead stars = list_any (λ star. is_outside (lead star.now)) stars

-- the same of a module with its number
abbrev pub starring : (ℕ → Text → Lead) → ℕ → LinkModule → Bool
starring lead m its = stars_outside (lead m) its.tables.now.stars.items

-- the own entry of a module that stars an external
abbrev pub outside_own : Bool → Option OwnLink
outside_own true = Some (Gives 0)
outside_own false = None

-- the one name 0 has an entry in just the modules that are flagged, and these are the stars
pub record IsOutsideGraph (flags : List Bool) (lists : List (List ℕ)) (g : Graph) : Type 0 where
  pub own : (m : ℕ) → own_of g (m, 0) ≡ outside_own (flagged flags m)
  pub starred : g.lists ≡ lists
  pub default : g.default ≡ 1

-- the same of links, of these modules
abbrev pub IsOutsideOf : (ℕ → Text → Lead) → List LinkModule → Links → Type 0
IsOutsideOf lead modules links =
    IsOutsideGraph (modules_numbered (starring lead) 0 modules) (all_starred lead 0 modules)
    (graph_of links)

-- what is noted is of the program: what names are given, and which modules star an external over
-- any chain
pub record IsIndexOf (p : Program) (index : Index) : Type 0 where
  pub names : IsLinkGraph p (index_names index.numbers) (values_of index.numbers) index.search
  pub outside : (m : ℕ) → ((v : ℕ) × Given index.outside (m, 0) v) ↔ StarsExternal p m
