-- One star more.
use Rattle.std.proofs.Common.{◌++◌, ◌∷◌, [], ℕ, List, get_or, map, sym, ap, ◌∙◌, append-nil}
use Rattle.std.specs.Prelude.{flat_map}
use Rattle.std.specs.Borrow.{Bor}
use Rattle.std.proofs.lemmas.List.{get_or_default}
use Rattle.bundle_syntax.specs.Item.{Item}
use Rattle.bundle_rules.specs.Bundle.{Stars}
use Rattle.bundle_merge_injected.specs.Listed.{export_star}
use Rattle.bundle_merge_items.specs.Added.{module_item_lists}
use Rattle.bundle_merge_items.proofs.Behind.{behind-all, behind-next, plan-made, stars-made}
use Rattle.bundle_merge_items.proofs.merge.add_stars.Goals as goal

abbrev star_of : Bor (List ℕ) → List (List Item)
star_of star = export_star star.now ∷ []

pub loop-specifier-init : goal.loop-specifier-init
loop-specifier-init c = sym (append-nil (module_item_lists c.args.items.now))

pub loop-specifier-preserved : goal.loop-specifier-preserved
loop-specifier-preserved c =
    let found = c.external_stars-specifier-items.result.now in
    let i = c.loop-specifier.specifier-index in
    let none : Bor (List ℕ) = record { ref_ptr = (0, 0); now = [] } in
    let star : Bor (List ℕ) = get_or found i none in
    behind-next star_of found i star c.args.items.now c.loop-specifier.items
    c.add_item.new.items c.loop-specifier-test.true
    (get_or_default found i none star c.loop-specifier-test.true) c.loop-specifier.invariant
    (c.in_ok-add_item.ensures
    ∙ ap (λ (x : List Item). module_item_lists c.loop-specifier.items ++ x ∷ []) c.in_ok-export_star.ensures)

pub returns : goal.returns
returns c =
    let bundle = c.args.bundle.now in
    let names = c.args.names.now in
    let found = c.external_stars-specifier-items.result.now in
    plan-made bundle names (λ d. map Stars d.stars) (flat_map star_of found) c.args.items.now
    c.loop-specifier.items
    (stars-made bundle names found c.external_stars-specifier-items.ensures)
    (behind-all star_of found c.loop-specifier.specifier-index c.args.items.now
    c.loop-specifier.items c.loop-specifier-test.false c.loop-specifier.invariant)
