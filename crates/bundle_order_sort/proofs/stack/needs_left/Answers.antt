use Rattle.std.proofs.Common.{ℕ, ◌↔◌, false, List, Contains, map, length, get_or, refl, sym, ◌∙◌, subst, arith}
use Rattle.std.proofs.lemmas.Option.{slice_get_read}
use Rattle.std.proofs.lemmas.List.{length-map, take_all}
use Rattle.bundle_order_sort.specs.declared.Reference.{Reference}
use Rattle.bundle_order_sort.specs.declared.SharedItem.{SharedItem}
use Rattle.bundle_order_sort.proofs.LeftLemmas.{AreSoles-left, IsLeftOf, IsLeftOf-none, IsLeftOf-more, IsLeftOf-all, KeepsLeft-same, KeepsLeft-trans}
use Rattle.bundle_order_sort.proofs.stack.needs_left.Goals as goal

pub loop-reference-init : goal.loop-reference-init
loop-reference-init c =
    let lists : List (List ℕ) = map (λ v. v.items) c.args.lists.now in
    record {
      len = refl;
      keeps = KeepsLeft-same c.args.progress.now lists lists refl;
      each = IsLeftOf-none c.args.items.now lists c.args.ranks.now c.args.progress.now c.args.item c.new-needed.result.items c.new-needed.ensures.items;
    }

pub add_left-requires-clause-soles : goal.add_left-requires-clause-soles
add_left-requires-clause-soles c =
    let whole : List (List ℕ) = map (λ v. v.items) c.args.lists.now in
    let left : List (List ℕ) = map (λ v. v.items) c.loop-reference.lists in
    AreSoles-left c.args.items.now c.args.progress.now whole left c.args.soles.now (length-map c.loop-reference.lists (λ v. v.items) ∙ (c.loop-reference.invariant.len ∙ sym (length-map c.args.lists.now (λ v. v.items)))) c.loop-reference.invariant.keeps c.requires.soles

pub loop-reference-preserved : goal.loop-reference-preserved
loop-reference-preserved c =
    let whole : List (List ℕ) = map (λ v. v.items) c.args.lists.now in
    let left : List (List ℕ) = map (λ v. v.items) c.loop-reference.lists in
    let after : List (List ℕ) = map (λ v. v.items) c.add_left.new.lists in
    let ps = c.args.progress.now in
    let references = c.as_slice-references.result.now in
    let inv = c.loop-reference.invariant in
    record {
      len = c.add_left.ensures.len ∙ inv.len;
      keeps = KeepsLeft-trans ps whole left after inv.keeps c.in_ok-add_left.ensures.left;
      each = IsLeftOf-more c.args.items.now whole c.args.ranks.now ps c.args.item references c.loop-reference.reference-index (record { list = 0; is_weak = false }) c.loop-reference-test.true left inv.keeps c.loop-reference.needed.items c.add_left.new.needed.items inv.each c.in_ok-add_left.ensures.added;
    }

pub returns-clause-each : goal.returns-clause-each
returns-clause-each c = λ t.
    let items = c.args.items.now in
    let whole : List (List ℕ) = map (λ v. v.items) c.args.lists.now in
    let ranks = c.args.ranks.now in
    let ps = c.args.progress.now in
    let s = c.args.item in
    let item = c.index-items-item.result in
    let at = slice_get_read items (length items) s item refl c.requires.item_in c.index-items-item.is in
    let needed = c.loop-reference.needed.items in
    let references = c.as_slice-references.result.now in
    let all : Contains needed t ↔ IsLeftOf items whole ranks ps s references t = subst (λ (l : List Reference). Contains needed t ↔ IsLeftOf items whole ranks ps s l t) (take_all c.loop-reference.reference-index references (omega (arith, c.loop-reference-test.false))) (c.loop-reference.invariant.each t) in
    let read : Contains needed t ↔ IsLeftOf items whole ranks ps s (get_or items s item).references.items t = subst (λ (l : List Reference). Contains needed t ↔ IsLeftOf items whole ranks ps s l t) c.as_slice-references.ensures.value all in
    let its : Contains needed t ↔ IsLeftOf items whole ranks ps s item.references.items t = subst (λ (i : SharedItem). Contains needed t ↔ IsLeftOf items whole ranks ps s i.references.items t) (sym c.index-items-item.is) read in
    let both = IsLeftOf-all items whole ranks ps s item at t in
    let same = c.once.ensures.same t in
    (λ h. both.0 (its.0 (same.0 h)), λ p. same.1 (its.1 (both.1 p)))
