-- A name more was passed; all of them are the uses.
use Rattle.std.proofs.Common.{◌++◌, [], ℕ, List, All, map, take, sym, ap, ◌∙◌, subst, append-nil, arith}
use Rattle.std.specs.List.{flat_map}
use Rattle.std.proofs.lemmas.List.{take_all}
use Rattle.bundle_syntax.specs.Item.{item_of}
use Rattle.bundle_rules.specs.Nodes.{Text}
use Rattle.bundle_link_tables.specs.Used.{begin_in_turn, name_read, place_read, places_by, use_by}
use Rattle.bundle_link_tables.specs.Walked.{AreWordsRead, has_import, uses_of_name}
use Rattle.bundle_link_tables.specs.Within.{IsStated}
use Rattle.bundle_link_tables.specs.declared.walk.ImportedName.{ImportedName}
use Rattle.bundle_link_tables.proofs.MarkLemmas.{imports_found, named_within, names_used, says_next, use_at, uses_told}
use Rattle.bundle_link_tables.proofs.walk.found_in.Goals as goal

pub loop-name-init : goal.loop-name-init
loop-name-init c = (
  λ more. ap (map (use_by (map name_read c.new-2.result.items ++ more))) c.new.ensures.items,
  λ more. ap (map (places_by (map place_read c.new-2.result.items ++ more))) c.new.ensures.items ∙ sym (ap (map begin_in_turn) c.new.ensures.items),
)

pub loop-name-preserved : goal.loop-name-preserved
loop-name-preserved c =
    let stated = c.in_ok-stated.stated.items in
    let told = c.in_ok-told.told.items in
    let items = c.deref-name-items.result.now in
    let i = c.loop-name.name-index in
    let before = flat_map (uses_of_name stated told) (take i items) in (
      says_next stated _ told _ items i _ _ _ c.deref-in-loop-name.ensures.value c.deref-in-loop-name-2.ensures.value c.loop-name-test.true (c.in_ok-add_named.ensures.uses before c.loop-name.invariant.0),
      c.in_ok-add_named.ensures.places c.loop-name.invariant.1,
    )

pub returns-clause-places : goal.returns-clause-places
returns-clause-places c =
    let found = c.loop-name.found in
    ap (λ (places : List ℕ). map (places_by places) found.uses.items) (sym (append-nil (map place_read found.reads.items)))
    ∙ c.loop-name.invariant.1 []

pub returns-clause-uses : goal.returns-clause-uses
returns-clause-uses c = λ finds is.
    let table = c.args.denotations.now in
    let tree = map item_of c.args.pieces.now in
    let is_import = has_import c.args.imports.now in
    let names = c.in_ok-names.names.items in
    let stated = c.in_ok-stated.stated.items in
    let told = c.in_ok-told.told.items in
    let found = c.loop-name.found in
    ap (λ (words : List Text). map (use_by words) found.uses.items) (sym (append-nil (map name_read found.reads.items)))
    ∙ c.loop-name.invariant.0 []
    ∙ ap (λ (l : List ImportedName). flat_map (uses_of_name stated told) l) (take_all c.loop-name.name-index c.deref-name-items.result.now (omega (arith, c.loop-name-test.false)))
    ∙ ap (λ (l : List ImportedName). flat_map (uses_of_name stated told) l) c.deref-name-items.ensures.value
    ∙ names_used tree stated told names
    (named_within table is_import tree names c.in_ok-names.ensures)
    (subst (λ (l : List ImportedName). All (λ (name : ImportedName). IsStated tree stated name.place) l) c.deref.ensures.value c.in_ok-stated.ensures)
    (subst (λ (l : List ImportedName). All (λ (name : ImportedName). AreWordsRead tree told name.place) l) c.deref-2.ensures.value c.in_ok-told.ensures)
    ∙ ap (flat_map (use_at tree)) c.in_ok-names.ensures
    ∙ uses_told tree table is is_import (imports_found c.args.imports.now tree finds)
