-- One more occurrence was gone over.
use Rattle.std.proofs.Common.{◌≡◌, ◌≤◌, ◌+◌, length, suc, None, List, Some, false, get_or, map, take, ap, sym, ◌∙◌, subst, arith}
use Rattle.std.specs.Borrow.{Bor}
use Rattle.std.specs.Prelude.{slice_get}
use Rattle.std.specs.List.{list_any}
use Rattle.std.proofs.lemmas.Bool.{false≢true}
use Rattle.std.proofs.lemmas.List.{length-map}
use Rattle.std.proofs.lemmas.Option.{slice_get-get_or}
use Rattle.bundle_syntax.specs.Item.{item_of}
use Rattle.bundle_rules.specs.Nodes.{Text}
use Rattle.bundle_scope_denote.specs.declared.table.Denoted.{Denoted}
use Rattle.bundle_scope_denote.proofs.LoopLemmas.{take-whole}
use Rattle.bundle_scope_names.specs.Marks.{is_among, is_called_in}
use Rattle.bundle_scope_names.specs.Symbols.{HaveSymbolNumbers}
use Rattle.bundle_scope_names.proofs.SymbolLemmas.{called-more, numbers-more}
use Rattle.bundle_scope_names.proofs.hygiene.symbols_before.Goals as goal

pub loop-occurrence-init : goal.loop-occurrence-init
loop-occurrence-init c = (λ text. ap (is_among text) c.with_hasher.ensures.empty, let counted : length c.in_ok-vec.field-0.items ≡ length c.args.symbols.now = omega (arith, c.in_ok-vec.ensures.len, c.in_ok-vec.field-0.ok.0) in counted, λ binding lt any. absurd (false≢true any))

pub loop-occurrence-preserved : goal.loop-occurrence-preserved
loop-occurrence-preserved c =
    let one : suc c.loop-occurrence.occurrence-index ≡ c.loop-occurrence.occurrence-index + 1 = omega arith in
    let o : Denoted = get_or c.deref-occurrence-items.result.now c.loop-occurrence.occurrence-index (record { place = 0; scope = 0; binding = None; declares = false }) in
    let same : c.deref-occurrence-items.result.now ≡ c.args.denotations.now.occurrences.items = c.deref-occurrence-items.ensures.value in
    let is_at : slice_get c.args.denotations.now.occurrences.items c.loop-occurrence.occurrence-index ≡ Some o = ap (λ l. slice_get l c.loop-occurrence.occurrence-index) (sym same) ∙ slice_get-get_or c.deref-occurrence-items.result.now c.loop-occurrence.occurrence-index _ c.loop-occurrence-test.true in
    let texts : List Text = map (λ (s : Bor Text). s.now) c.args.symbols.now in (
      λ text. subst (λ n. is_among text c.add.new.self.symbols.keys ≡ list_any (is_called_in (map item_of c.args.pieces.now) texts text) (take n c.args.denotations.now.occurrences.items)) one (called-more (map item_of c.args.pieces.now) texts c.args.denotations.now.occurrences.items c.loop-occurrence.occurrence-index o c.loop-occurrence.before.symbols.keys c.add.new.self.symbols.keys is_at c.in_ok-add.ensures.symbols c.loop-occurrence.invariant.0 text),
      c.in_ok-add.ensures.count ∙ c.loop-occurrence.invariant.1,
      subst (λ n. HaveSymbolNumbers texts (take n c.args.denotations.now.occurrences.items) c.add.new.self.symbols.keys c.add.new.self.numbers.items) one (numbers-more (map item_of c.args.pieces.now) texts c.args.denotations.now.occurrences.items c.loop-occurrence.occurrence-index o c.loop-occurrence.before c.add.new.self is_at (c.loop-occurrence.invariant.1 ∙ sym (length-map c.args.symbols.now (λ (s : Bor Text). s.now))) c.in_ok-add.ensures c.loop-occurrence.invariant.2),
    )

pub returns-clause-symbols : goal.returns-clause-symbols
returns-clause-symbols c =
    let same : c.deref-occurrence-items.result.now ≡ c.args.denotations.now.occurrences.items = c.deref-occurrence-items.ensures.value in
    let past : length c.args.denotations.now.occurrences.items ≤ c.loop-occurrence.occurrence-index = omega (arith, ap length same, c.loop-occurrence-test.false) in
    λ text. c.loop-occurrence.invariant.0 text ∙ ap (list_any (is_called_in (map item_of c.args.pieces.now) (map (λ (s : Bor Text). s.now) c.args.symbols.now) text)) (take-whole c.args.denotations.now.occurrences.items c.loop-occurrence.occurrence-index past)

pub returns-clause-numbers : goal.returns-clause-numbers
returns-clause-numbers c =
    let same : c.deref-occurrence-items.result.now ≡ c.args.denotations.now.occurrences.items = c.deref-occurrence-items.ensures.value in
    let past : length c.args.denotations.now.occurrences.items ≤ c.loop-occurrence.occurrence-index = omega (arith, ap length same, c.loop-occurrence-test.false) in
    subst (λ l. HaveSymbolNumbers (map (λ (s : Bor Text). s.now) c.args.symbols.now) l c.loop-occurrence.before.symbols.keys c.loop-occurrence.before.numbers.items) (take-whole c.args.denotations.now.occurrences.items c.loop-occurrence.occurrence-index past) c.loop-occurrence.invariant.2
