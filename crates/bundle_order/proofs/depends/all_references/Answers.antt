use Rattle.std.proofs.Common.{◌≡◌, ℕ, ◌+◌, [], List, length, get_or, map, sym, ap, ◌∙◌, subst, arith}
use Rattle.std.proofs.lemmas.List.{get_or-map, length_push}
use Rattle.bundle_order_sort.specs.declared.Reference.{Reference}
use Rattle.bundle_order.specs.Found.{IsReferred}
use Rattle.bundle_order.proofs.DependLemmas.{references-push}
use Rattle.bundle_order.proofs.depends.all_references.Goals as goal

pub loop-number-preserved : goal.loop-number-preserved
loop-number-preserved c =
    let n = c.loop-number.number in
    let all = c.args.all.now in
    let strong = c.args.strong.now in
    let all_row : get_or (map (λ v. v.items) all) n [] ≡ c.deref.result.now = get_or-map (λ v. v.items) all n c.index-all-number.result [] c.loop-number-test.true ∙ (ap (λ v. v.items) (sym c.index-all-number.is) ∙ sym c.deref.ensures.value) in
    let strong_row : get_or (map (λ v. v.items) strong) n [] ≡ c.deref-in-loop-number.result.now = get_or-map (λ v. v.items) strong n c.index-strong-number.result [] (omega (arith, c.loop-number-test.true, c.requires)) ∙ (ap (λ v. v.items) (sym c.index-strong-number.is) ∙ sym c.deref-in-loop-number.ensures.value) in
    let row = c.in_ok-row.row.items in
    let here : IsReferred (get_or (map (λ v. v.items) all) n []) (get_or (map (λ v. v.items) strong) n []) row =
    subst (λ (l : List ℕ). IsReferred l (get_or (map (λ v. v.items) strong) n []) row) (sym all_row) (subst (λ (l : List ℕ). IsReferred c.deref.result.now l row) (sym strong_row) c.in_ok-row.ensures) in
    record {
      len = ap length c.in_ok-push.ensures.items ∙ (length_push c.loop-number.found.items c.in_ok-row.row ∙ ap (λ k. k + 1) c.loop-number.invariant.len);
      each = references-push (λ s (found : List Reference). IsReferred (get_or (map (λ v. v.items) all) s []) (get_or (map (λ v. v.items) strong) s []) found) (λ v. v.items) c.loop-number.found.items c.push.new.self.items c.in_ok-row.row n c.in_ok-push.ensures.items c.loop-number.invariant.len c.loop-number.invariant.each here;
    }

pub returns-clause-each : goal.returns-clause-each
returns-clause-each c = λ s l. c.loop-number.invariant.each s (omega (arith, l, c.loop-number-test.false))
