use Rattle.std.proofs.Common.{inl, inr, ◌∙◌, List, ap, subst}
use Rattle.std.specs.Prelude.{map}
use Rattle.std.proofs.lemmas.Result.{IfErr-weaker, on_ok_weaker}
use Rattle.bundle_syntax.specs.Item.{Item}
use Rattle.bundle_tree_listed.specs.Tree.{module_item_items}
use Rattle.bundle_merge_modules.specs.Calls.{AnswersOf}
use Rattle.bundle_rules.specs.Parts.{Parts, MapsLists}
use Rattle.bundle_merge_modules.specs.Held.{AnswersItems, RefusesAll, RefusesList, lists_in_order, parts_held}
use Rattle.bundle_merge_modules.proofs.TreeLemmas.{MapsLists-made, list_made, list_order-made, stops-made}
use Rattle.bundle_merge_modules.proofs.modules.Modules.map_any_items.Goals as goal

pub returns-clause-answered : goal.returns-clause-answered
returns-clause-answered g c =
    let tree = module_item_items 0 in
    let may = AnswersOf (goal.F-post g c.args.f.now) in
    let say = AnswersItems (goal.F-post g c.args.f.now) in
    on_ok_weaker c.map_any_items.result
    (λ is.
    subst (λ (parts : Parts). MapsLists say parts (parts_held c.map_any_items.new.self)) c.self.view_is
    (MapsLists-made tree may say (λ m xs ys a. (a.0, a.1, ap (map tree) a.2, a.3, ap (map tree) a.4)) c.self.inside.parts c.map_any_items.new.self is))
    c.map_any_items.ensures.answered

pub returns-clause-why : goal.returns-clause-why
returns-clause-why g c =
    let tree = module_item_items 0 in
    let calls = goal.F-post g c.args.f.now in
    let h = c.self.inside.parts in
    let is = list_order-made tree h ∙ ap (λ (parts : Parts). lists_in_order parts) c.self.view_is in
    IfErr-weaker c.map_any_items.result _ _
    (λ refusal why. elim why [
      | inl memory ↦ inl memory
      | inr stops ↦
          inr (subst (λ l. RefusesList calls refusal l) is
          (stops-made (list_made tree) (λ one. (answer : List (List Item)) × AnswersItems calls one.0 one.1 answer) (RefusesAll calls refusal) stops
          (λ one a. (map tree a.0, (a.1.0, a.1.1, ap (map tree) a.1.2, a.1.3, ap (map tree) a.1.4)))
          (λ one r. (r.0, ap (map tree) r.1, r.2))))
    ])
    c.map_any_items.ensures.why
