use Rattle.std.proofs.Common.{ℕ, ◌||◌, nat_eq, Vec, Global, List, get_or, map, take, sym, ap, ◌∙◌}
use Rattle.std.specs.List.{list_any}
use Rattle.std.proofs.lemmas.List.{map_push, take_all, take_more}
use Rattle.bundle_order_sort.specs.Places.{is_in_some}
use Rattle.bundle_order_sort.proofs.TableLemmas.{any-push}
use Rattle.bundle_order_sort.proofs.table.all_of.Goals as goal

pub loop-list-init : goal.loop-list-init
loop-list-init c = λ m. ap (λ (l : List ℕ). list_any (nat_eq m) l) c.new-set.ensures.empty

pub loop-list-preserved : goal.loop-list-preserved
loop-list-preserved c = λ m.
    let lists = c.args.lists.now in
    let i = c.loop-list.list-index in
    let x = c.list-item.result in
    let test = λ (l : List ℕ). list_any (nat_eq m) l in
    c.in_ok-add_all.ensures m
    ∙ (ap (λ b. b || test c.deref.result.now) (c.loop-list.invariant m)
    ∙ (ap (λ (l : List ℕ). is_in_some m (map (λ (v : Vec ℕ Global). v.items) (take i lists)) || test l) (c.deref.ensures.value ∙ ap (λ (v : Vec ℕ Global). v.items) c.list-item.is)
    ∙ (sym (any-push test (map (λ (v : Vec ℕ Global). v.items) (take i lists)) (get_or lists i x).items)
    ∙ ap (λ (l : List (List ℕ)). is_in_some m l)
    (sym (map_push (λ (v : Vec ℕ Global). v.items) (take i lists) (get_or lists i x))
    ∙ ap (map (λ (v : Vec ℕ Global). v.items)) (sym (take_more lists i x c.loop-list-test.true))))))

pub returns : goal.returns
returns c = λ m. c.loop-list.invariant m ∙ ap (λ (l : List (Vec ℕ Global)). is_in_some m (map (λ (v : Vec ℕ Global). v.items) l)) (take_all c.loop-list.list-index c.args.lists.now c.loop-list-test.false)
