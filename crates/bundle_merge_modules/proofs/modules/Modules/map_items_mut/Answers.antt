use Rattle.std.proofs.Common.{inl, inr, ◌∙◌, List, ap, refl, subst}
use Rattle.std.proofs.lemmas.Result.{IfErr-weaker, on_ok_weaker}
use Rattle.bundle_syntax.specs.Item.{Item}
use Rattle.bundle_tree_listed.specs.Tree.{module_item_items}
use Rattle.bundle_merge_modules.specs.Calls.{RepliesOf}
use Rattle.bundle_rules.specs.Parts.{Parts, MapsItems, in_order}
use Rattle.bundle_merge_modules.specs.Held.{RefusesCall, RefusesItem, Replies, parts_held}
use Rattle.bundle_merge_modules.proofs.TreeLemmas.{MapsItems-made, made, order-made, stops-made}
use Rattle.bundle_merge_modules.proofs.modules.Modules.map_items_mut.Goals as goal

pub returns-clause-answered : goal.returns-clause-answered
returns-clause-answered g c =
    let tree = module_item_items 0 in
    let may = RepliesOf (goal.F-post g c.args.f.now) in
    let say = Replies (goal.F-post g c.args.f.now) in
    on_ok_weaker c.map_items_mut.result
    (λ is.
    subst (λ (parts : Parts). MapsItems say parts (parts_held c.map_items_mut.new.self)) c.self.view_is
    (MapsItems-made tree may say (λ m x y a. (a.0, y, ap tree a.1, a.2, refl)) c.self.inside.parts c.map_items_mut.new.self is))
    c.map_items_mut.ensures.answered

pub returns-clause-why : goal.returns-clause-why
returns-clause-why g c =
    let tree = module_item_items 0 in
    let calls = goal.F-post g c.args.f.now in
    let h = c.self.inside.parts in
    let is = order-made tree h ∙ ap (λ (parts : Parts). in_order parts) c.self.view_is in
    IfErr-weaker c.map_items_mut.result _ _
    (λ refusal why. elim why [
      | inl memory ↦ inl memory
      | inr stops ↦
          inr (subst (λ l. RefusesItem calls refusal l) is
          (stops-made (made tree) (λ one. (answer : List Item) × Replies calls one.0 one.1 answer) (RefusesCall calls refusal) stops
          (λ one a. (tree a.0, (a.1.0, a.0, ap tree a.1.1, a.1.2, refl)))
          (λ one r. (r.0, ap tree r.1, r.2))))
    ])
    c.map_items_mut.ensures.why
