-- When linked modules are those of a program.
use Rattle.std.specs.Prelude.{◌≡◌, ◌↔◌, ℕ, [], None, Some, Contains, filter_map, slice_get}
use Rattle.bundle_order_graph.specs.Modules.{deps}
use Rattle.bundle_rules.specs.Nodes.{Text}
use Rattle.bundle_rules.specs.Program.{Program, tree_of, requested, IsList, IsReached}
use Rattle.bundle_link_targets.specs.Linked.{HandsOver, IsJudgedBy, IsLinkingOf}
use Rattle.bundle_link.specs.Alike.{IsAlike, IsModuleAt}
use Rattle.bundle_link.specs.Leads.{module_place}
use Rattle.bundle_link.specs.declared.linked.LinkedModules.{LinkedModules}

-- the graph has their requests, the list is that of the program, and what is linked by places, the
-- faults of that, and what is handed on, are those of the program but for the numbers of its
-- modules; no other number has a tree, or is led to, and no other place has a tree
pub record IsLinkedOf (p : Program) (linked : LinkedModules) : Type 0 where
  pub places : Program
  pub alike : IsAlike p places (IsModuleAt linked.ids.keys)
  pub linking : IsLinkingOf places linked.linking
  pub judged :
      IsJudgedBy places (filter_map (module_place linked.ids.keys) linked.list.items) linked.linking
  pub handed :
      HandsOver places (filter_map (module_place linked.ids.keys) linked.list.items) linked.linking
  pub bare : (place : ℕ) → slice_get linked.ids.keys place ≡ None → tree_of places place ≡ []
  pub others : (m : ℕ) → (Contains linked.ids.keys m → ⊥) → tree_of p m ≡ []
  pub there : (m d : ℕ) (s : Text) → p.leads m s ≡ Some d → Contains linked.ids.keys d
  pub graph : (m : ℕ) → deps linked.graph m ≡ requested p m
  pub list : IsList p linked.list.items
  pub reached : (n : ℕ) → Contains linked.list.items n ↔ IsReached p n
  pub listed : (n : ℕ) → Contains linked.list.items n → Contains linked.ids.keys n
