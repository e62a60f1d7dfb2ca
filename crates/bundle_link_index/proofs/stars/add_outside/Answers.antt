use Rattle.std.proofs.Common.{◌≡◌, ◌++◌, ◌∷◌, [], ap, ◌∙◌, subst, false, true, rules}
use Rattle.bundle_link_index.specs.Graph.{graph_of}
use Rattle.bundle_link_index.specs.Leads.{lead_of}
use Rattle.bundle_link_index.specs.Numbered.{starred}
use Rattle.bundle_link_index.specs.Outside.{IsOutsideGraph, stars_outside}
use Rattle.bundle_link_index.proofs.OutsideLemmas.{outside_passed, outside_put}
use Rattle.bundle_link_index.proofs.stars.add_outside.Goals as goal

pub returns-then-stars_outside : goal.returns-then-stars_outside
returns-then-stars_outside c = λ flags lists long w.
    let lead = lead_of c.args.kinds.now c.args.number in
    let its = starred lead c.args.tables.now.stars.items in
    let more = c.in_ok-add_module.ensures.stars ∙ ap (λ l. (graph_of c.args.links.now).lists ++ l ∷ []) c.in_ok-starred_modules.ensures in
    let passed = outside_passed flags lists its c.args.number (graph_of c.args.links.now) (graph_of c.add_module.new.self) long w more c.in_ok-add_module.ensures.entries c.in_ok-add_module.ensures.default in
    let is : true ≡ stars_outside lead c.args.tables.now.stars.items = search rules in
    subst (λ b. IsOutsideGraph (flags ++ b ∷ []) (lists ++ its ∷ []) (graph_of c.add_own.new.self)) is
    (outside_put flags (lists ++ its ∷ []) c.args.number (graph_of c.add_module.new.self) (graph_of c.add_own.new.self) long passed c.in_ok-add_own.ensures.own c.in_ok-add_own.ensures.stars c.in_ok-add_own.ensures.default)

pub returns : goal.returns
returns c = λ flags lists long w.
    let lead = lead_of c.args.kinds.now c.args.number in
    let its = starred lead c.args.tables.now.stars.items in
    let more = c.in_ok-add_module.ensures.stars ∙ ap (λ l. (graph_of c.args.links.now).lists ++ l ∷ []) c.in_ok-starred_modules.ensures in
    let is : false ≡ stars_outside lead c.args.tables.now.stars.items = search rules in
    subst (λ b. IsOutsideGraph (flags ++ b ∷ []) (lists ++ its ∷ []) (graph_of c.add_module.new.self)) is
    (outside_passed flags lists its c.args.number (graph_of c.args.links.now) (graph_of c.add_module.new.self) long w more c.in_ok-add_module.ensures.entries c.in_ok-add_module.ensures.default)
