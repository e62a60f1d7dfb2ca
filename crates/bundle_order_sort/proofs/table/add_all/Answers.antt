use Rattle.std.proofs.Common.{ℕ, ◌||◌, ◌+◌, ◌∷◌, ◌++◌, [], nat_eq, List, take, sym, ap, ◌∙◌}
use Rattle.std.specs.List.{list_any}
use Rattle.std.proofs.Math.Bool.{or-false}
use Rattle.std.proofs.lemmas.List.{get_or_read, take_all, take_more}
use Rattle.bundle_order_sort.proofs.TableLemmas.{any-more}
use Rattle.bundle_order_sort.proofs.table.add_all.Goals as goal

pub loop-id-init : goal.loop-id-init
loop-id-init c = λ m. sym (or-false (list_any (nat_eq m) c.args.set.now.keys))

pub loop-id-preserved : goal.loop-id-preserved
loop-id-preserved c = λ m.
    let modules = c.args.modules.now in
    let i = c.loop-id.id-index in
    let x = c.id-item.result in
    let read = get_or_read modules i x c.loop-id-test.true c.id-item.is 0 in
    any-more m x c.args.set.now.keys c.loop-id.set.keys c.insert.new.self.keys (take i modules) (take (i + 1) modules) (c.loop-id.invariant m) c.in_ok-insert.ensures.keys
    (take_more modules i 0 c.loop-id-test.true ∙ ap (λ y. take i modules ++ y ∷ []) (sym read))

pub returns : goal.returns
returns c = λ m. c.loop-id.invariant m ∙ ap (λ (l : List ℕ). list_any (nat_eq m) c.args.set.now.keys || list_any (nat_eq m) l) (take_all c.loop-id.id-index c.args.modules.now c.loop-id-test.false)
