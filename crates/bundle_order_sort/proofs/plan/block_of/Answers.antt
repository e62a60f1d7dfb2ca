use Rattle.std.proofs.Common.{◌≡◌, ◌+◌, ℕ, ◌∷◌, ◌++◌, [], List, length, get_or, map, take, refl, sym, ap, ◌∙◌, arith}
use Rattle.std.specs.List.{flat_map}
use Rattle.std.proofs.lemmas.List.{get_or_read, length-map, length-take-le, map_push, take_all, take_more}
use Rattle.bundle_order_sort.specs.Places.{module_numbers_from, places_of}
use Rattle.bundle_order_sort.proofs.PlanLemmas.{flat-push, numbers-push}
use Rattle.bundle_order_sort.proofs.plan.block_of.Goals as goal

pub loop-number-preserved : goal.loop-number-preserved
loop-number-preserved c =
    let members = c.args.members.now in
    let n = c.loop-number.number in
    let x = c.index-members-number.result in
    let within = c.loop-number-test.true in
    let read : x ≡ get_or members n 0 = get_or_read members n x within c.index-members-number.is 0 in
    let more : take (n + 1) members ≡ take n members ++ x ∷ [] = take_more members n 0 within ∙ ap (λ y. take n members ++ y ∷ []) (sym read) in
    record {
      places = λ owners are.
          c.in_ok-extend_from_slice.ensures.items
          ∙ (ap (λ (l : List ℕ). l ++ c.row-row.result.now) (c.loop-number.invariant.places owners are)
          ∙ (ap (λ (l : List ℕ). flat_map (places_of owners) (take n members) ++ l) (c.row-row.ensures owners are ∙ are.rows x)
          ∙ (sym (flat-push (places_of owners) (take n members) x)
          ∙ ap (flat_map (places_of owners)) (sym more))));
      numbers = λ owners are.
          let rows = map (places_of owners) (take n members) in
          let count : n ≡ 0 + length rows = omega (arith, length-map (take n members) (places_of owners), length-take-le n members (omega (arith, within))) in
          c.in_ok-add_number.ensures
          ∙ (ap (λ (l : List ℕ). l ++ map (λ (place : ℕ). n) c.row-row.result.now) (c.loop-number.invariant.numbers owners are)
          ∙ (ap (λ (l : List ℕ). module_numbers_from 0 rows ++ map (λ (place : ℕ). n) l) (c.row-row.ensures owners are ∙ are.rows x)
          ∙ (ap (λ k. module_numbers_from 0 rows ++ map (λ (place : ℕ). k) (places_of owners x)) count
          ∙ (sym (numbers-push 0 rows (places_of owners x))
          ∙ ap (λ (l : List (List ℕ)). module_numbers_from 0 l) (sym (map_push (places_of owners) (take n members) x) ∙ ap (map (places_of owners)) (sym more))))));
    }

pub returns : goal.returns
returns c = λ owners are.
    let all = take_all c.loop-number.number c.args.members.now c.loop-number-test.false in
    record {
      places = c.loop-number.invariant.places owners are ∙ ap (flat_map (places_of owners)) all;
      numbers = c.loop-number.invariant.numbers owners are ∙ ap (λ (l : List ℕ). module_numbers_from 0 (map (places_of owners) l)) all;
      cycle = refl;
    }
