use Rattle.std.proofs.Common.{inl, inr, ◌∙◌, List, Option, ap, refl, subst}
use Rattle.std.specs.Prelude.{option_map}
use Rattle.std.proofs.lemmas.Result.{IfErr-weaker, on_ok_weaker}
use Rattle.bundle_syntax.specs.Item.{Item}
use Rattle.bundle_tree_listed.specs.Tree.{module_item_items}
use Rattle.bundle_merge_modules.specs.Calls.{PicksOf}
use Rattle.bundle_rules.specs.Parts.{Parts, in_order}
use Rattle.bundle_merge_modules.specs.Held.{MapsSome, PicksItem, RefusesCall, RefusesPick, parts_held}
use Rattle.bundle_merge_modules.proofs.TreeLemmas.{MapsSome-made, made, order-made, stops-made}
use Rattle.bundle_merge_modules.proofs.modules.Modules.map_some_items.Goals as goal

pub returns-clause-answered : goal.returns-clause-answered
returns-clause-answered g c =
    let tree = module_item_items 0 in
    let may = PicksOf (goal.F-post g c.args.f.now) in
    let say = PicksItem (goal.F-post g c.args.f.now) in
    on_ok_weaker c.map_some_items.result
    (λ is.
    subst (λ (parts : Parts). MapsSome say parts (parts_held c.map_some_items.new.self)) c.self.view_is
    (MapsSome-made tree may say (λ m x y a. (a.0, y, ap tree a.1, a.2, refl)) c.self.inside.parts c.map_some_items.new.self is))
    c.map_some_items.ensures.answered

pub returns-clause-why : goal.returns-clause-why
returns-clause-why g c =
    let tree = module_item_items 0 in
    let calls = goal.F-post g c.args.f.now in
    let h = c.self.inside.parts in
    let is = order-made tree h ∙ ap (λ (parts : Parts). in_order parts) c.self.view_is in
    IfErr-weaker c.map_some_items.result _ _
    (λ refusal why. elim why [
      | inl memory ↦ inl memory
      | inr stops ↦
          inr (subst (λ l. RefusesPick calls refusal l) is
          (stops-made (made tree) (λ one. (answer : Option (List Item)) × PicksItem calls one.0 one.1 answer) (RefusesCall calls refusal) stops
          (λ one a. (option_map tree a.0, (a.1.0, a.0, ap tree a.1.1, a.1.2, refl)))
          (λ one r. (r.0, ap tree r.1, r.2))))
    ])
    c.map_some_items.ensures.why
