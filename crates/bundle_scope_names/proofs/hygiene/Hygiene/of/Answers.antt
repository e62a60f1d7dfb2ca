-- One more occurrence was gone over.
use Rattle.std.proofs.Common.{◌≡◌, ◌≤◌, ◌+◌, length, suc, None, Some, List, false, get_or, map, take, refl, ap, ap₂, sym, ◌∙◌, subst, arith}
use Rattle.std.specs.Prelude.{slice_get}
use Rattle.std.specs.List.{list_any}
use Rattle.std.proofs.lemmas.Option.{slice_get-get_or}
use Rattle.bundle_syntax.specs.Item.{Item, item_of}
use Rattle.bundle_scope_denote.specs.declared.table.Denoted.{Denoted}
use Rattle.bundle_scope_denote.specs.declared.table.Scope.{Scope}
use Rattle.bundle_scope_denote.specs.Numbers.{NumberedScope, numbered_scope}
use Rattle.bundle_scope_denote.proofs.LoopLemmas.{take-whole}
use Rattle.bundle_scope_names.specs.Marks.{AddsNeed, is_called_in}
use Rattle.bundle_scope_names.proofs.SymbolLemmas.{HasGlobals, globals-first, globals-more, knows-first}
use Rattle.bundle_scope_names.proofs.hygiene.Hygiene.of.Goals as goal

pub loop-occurrence-preserved : goal.loop-occurrence-preserved
loop-occurrence-preserved c =
    let one : suc c.loop-occurrence.occurrence-index ≡ c.loop-occurrence.occurrence-index + 1 = omega arith in
    let o : Denoted = get_or c.deref-occurrence-items.result.now c.loop-occurrence.occurrence-index (record { place = 0; scope = 0; binding = None; declares = false }) in
    let same : c.deref-occurrence-items.result.now ≡ c.args.denotations.now.occurrences.items = c.deref-occurrence-items.ensures.value in
    let scopes : List NumberedScope = map numbered_scope c.args.denotations.now.scopes.items in
    let items : List Item = map item_of c.args.pieces.now in
    let all : List Denoted = c.args.denotations.now.occurrences.items in
    let adds : AddsNeed scopes items o c.loop-occurrence.hygiene c.add.new.self = subst (λ (l : List Scope). AddsNeed (map numbered_scope l) items o c.loop-occurrence.hygiene c.add.new.self) c.deref.ensures.value c.in_ok-add.ensures in
    let is_at : slice_get all c.loop-occurrence.occurrence-index ≡ Some o = ap (λ l. slice_get l c.loop-occurrence.occurrence-index) (sym same) ∙ slice_get-get_or c.deref-occurrence-items.result.now c.loop-occurrence.occurrence-index _ c.loop-occurrence-test.true in
    (λ texts before. subst (λ n. HasGlobals scopes items texts all (take n all) c.add.new.self) one (globals-more scopes items texts all c.loop-occurrence.occurrence-index o c.loop-occurrence.hygiene c.add.new.self is_at adds (c.loop-occurrence.invariant.0 texts before)), adds.symbols ∙ c.loop-occurrence.invariant.1)

pub loop-occurrence-init : goal.loop-occurrence-init
loop-occurrence-init c = (λ texts before. globals-first (map numbered_scope c.args.denotations.now.scopes.items) (map item_of c.args.pieces.now) texts c.args.denotations.now.occurrences.items _ before c.in_ok-with_capacity_and_hasher.ensures.empty c.in_ok-with_capacity_and_hasher-2.ensures.empty c.with_hasher.ensures.empty c.in_ok-zeros.ensures, refl)

pub returns-clause-knows : goal.returns-clause-knows
returns-clause-knows c = λ facts e_scopes e_occurrences e_items before.
    let same : c.deref-occurrence-items.result.now ≡ c.args.denotations.now.occurrences.items = c.deref-occurrence-items.ensures.value in
    let past : length c.args.denotations.now.occurrences.items ≤ c.loop-occurrence.occurrence-index = omega (arith, ap length same, c.loop-occurrence-test.false) in
    knows-first facts c.loop-occurrence.hygiene (rw (e_scopes, e_occurrences, e_items) (subst (λ l. HasGlobals (map numbered_scope c.args.denotations.now.scopes.items) (map item_of c.args.pieces.now) facts.symbols c.args.denotations.now.occurrences.items l c.loop-occurrence.hygiene) (take-whole c.args.denotations.now.occurrences.items c.loop-occurrence.occurrence-index past) (c.loop-occurrence.invariant.0 facts.symbols (λ text. before text ∙ ap₂ (λ (i : List Item) (o : List Denoted). list_any (is_called_in i facts.symbols text) o) e_items e_occurrences))))
