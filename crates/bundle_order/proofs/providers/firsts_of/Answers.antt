use Rattle.std.proofs.Common.{◌≡◌, ◌<◌, Option, None, List, length, get_or, sym, ap, ◌∙◌, arith}
use Rattle.std.proofs.lemmas.List.{get_or_default, length-set}
use Rattle.bundle_order.specs.declared.seen.Seen.{Seen}
use Rattle.bundle_order.proofs.ProvideLemmas.{no_seen, none-from, some-from, firsts-puts, firsts-leaves}
use Rattle.bundle_order.proofs.providers.firsts_of.Goals as goal
use Rattle.bundle_order.proofs.providers.firsts_of.Goals.{then-one-len+then-is_none, else-one-len, else-one-len-via-then-one-len+else-is_none, else-one-len-via-else-one-len}

pub loop-one-preserved : goal.loop-one-preserved
loop-one-preserved c =
    let seen = c.args.seen.now in
    let i = c.loop-one.one-index in
    let firsts = c.loop-one.firsts.items in
    let inv = c.loop-one.invariant in
    elim c.if-one-len.branch [
      | then-one-len+then-is_none w ↦
          let items = ap (λ v. v.items) w.firsts-is in
          record {
            len = ap length items ∙ (length-set firsts _ _ ∙ inv.len);
            each = λ b l. ap (λ (list : List (Option Seen)). get_or list b None) items ∙ firsts-puts c.args.count seen i c.loop-one-test.true firsts inv.len inv.each (get_or_default firsts (get_or seen i no_seen).binding None w.index.result.now (let inside : (get_or seen i no_seen).binding < length firsts = omega (arith, w.if-one-len.true, c.len.ensures) in inside) ∙ (sym w.index.ensures ∙ none-from w.index.result.now w.is_none.result w.is_none.ensures w.if-is_none.true)) b l;
          }
      | else-one-len w ↦
          let items = ap (λ v. v.items) w.firsts-is in
          let out : (get_or seen i no_seen).binding < length firsts → get_or firsts (get_or seen i no_seen).binding None ≡ None → ⊥ = elim w.else-one-len.branch [
            | else-one-len-via-then-one-len+else-is_none w' ↦ λ l n. some-from w'.index.result.now w'.is_none.result w'.is_none.ensures w'.if-is_none.false (w'.index.ensures ∙ (get_or_default firsts (get_or seen i no_seen).binding w'.index.result.now None l ∙ n))
            | else-one-len-via-else-one-len w' ↦ λ l n. omega (arith, l, w'.if-one-len.false, c.len.ensures)
          ] in
          record {
            len = ap length items ∙ inv.len;
            each = λ b l. ap (λ (list : List (Option Seen)). get_or list b None) items ∙ firsts-leaves c.args.count seen i c.loop-one-test.true firsts inv.len inv.each out b l;
          }
    ]
