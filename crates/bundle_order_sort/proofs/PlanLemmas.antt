-- How far the blocks of a list have come.
use Rattle.std.proofs.Common.{◌≡◌, ℕ, suc, zero, ◌+◌, ◌-◌, ◌<◌, ◌≤◌, Bool, true, false, not, cond, nat_eq, List, [], ◌∷◌, ◌++◌, length, get_or, map, take, drop, sym, ap, ◌∙◌, subst, inl, inr, arith}
use Rattle.std.specs.List.{AllZip, flat_map, list_any, slice_range}
use Rattle.std.proofs.lemmas.Bool.{cases_lt, false≢true}
use Rattle.std.proofs.lemmas.List.{append-nil, append_assoc, drop_more, drop_all, length-take-le, take_more}
use Rattle.std.proofs.lemmas.Option.{slice_get-get_or, slice_get_past}
use Rattle.bundle_order_graph.specs.Modules.{Modules}
use Rattle.bundle_order_graph.specs.Order.{IsOrder}
use Rattle.bundle_order_graph.specs.Blocks.{AreBlocks}
use Rattle.bundle_order_sort.specs.declared.plan.Block.{Block}
use Rattle.bundle_order_sort.specs.declared.plan.Plan.{Plan}
use Rattle.bundle_order_sort.specs.Places.{is_list_end, is_in_some, left_of, module_numbers_from}
use Rattle.bundle_order_sort.specs.Merged.{MergedMembers, ends_list_at, ends_some, merged}
use Rattle.bundle_order_sort.specs.Plan.{IsBlock, IsPlanned, IsPlanOf}
use Rattle.bundle_order_sort.proofs.PlaceLemmas.{places-push}
use Rattle.bundle_order_sort.proofs.MergeLemmas.{AreKinds, IsKind, first, merged-alone, merged-ends, merged-goes, merged-past, merged-order}

-- ---- one block more
pub zip-more : {M B : Type 0} (Fits : M → B → Type 0) (all now then : List M) (one : M) (done news : List B) (b : B) → now ≡ one ∷ then → Fits one b → news ≡ done ++ b ∷ [] → ((rest : List B) → AllZip Fits now rest → AllZip Fits all (done ++ rest)) → (rest : List B) → AllZip Fits then rest → AllZip Fits all (news ++ rest)
zip-more {M} {B} Fits all now then one done news b is fits put so_far rest z =
    subst (λ (l : List B). AllZip Fits all l) (sym (ap (λ (l : List B). l ++ rest) put ∙ append_assoc done (b ∷ []) rest))
    (so_far (b ∷ rest) (subst (λ (l : List M). AllZip Fits l (b ∷ rest)) (sym is) (fits, z)))

pub zip-same : {M B : Type 0} (Fits : M → B → Type 0) (all now then : List M) (done : List B) → now ≡ then → ((rest : List B) → AllZip Fits now rest → AllZip Fits all (done ++ rest)) → (rest : List B) → AllZip Fits then rest → AllZip Fits all (done ++ rest)
zip-same {M} Fits all now then done is so_far rest z = so_far rest (subst (λ (l : List M). AllZip Fits l rest) (sym is) z)

module _ (is_on : ℕ → Bool) (list : List ℕ) (cycles : List (List ℕ)) (at next : ℕ) (within : at < length list) where
  abbrev here : ℕ
  here = get_or list at 0

  split : (cs : List (List ℕ)) → merged is_on (drop at list) cs ≡ merged is_on (here ∷ drop (at + 1) list) cs
  split cs = ap (λ (l : List ℕ). merged is_on l cs) (drop_more list at 0 within)

  pub at-alone : is_on here ≡ false → merged is_on (drop at list) (drop next cycles) ≡ (here ∷ [], false) ∷ merged is_on (drop (at + 1) list) (drop next cycles)
  at-alone e = split (drop next cycles) ∙ merged-alone is_on here (drop (at + 1) list) (drop next cycles) e

  pub ends-within : ends_list_at here cycles next ≡ true → next < length cycles
  ends-within f = elim (cases_lt next (length cycles)) [
    | inl l ↦ l
    | inr g ↦ absurd (false≢true (sym (ap (ends_some here) (slice_get_past cycles next g)) ∙ f))
  ]

  reads : next < length cycles → ends_list_at here cycles next ≡ is_list_end here (get_or cycles next [])
  reads l = ap (ends_some here) (slice_get-get_or cycles next [] l)

  pub at-ends : is_on here ≡ true → ends_list_at here cycles next ≡ true → merged is_on (drop at list) (drop next cycles) ≡ (get_or cycles next [], true) ∷ merged is_on (drop (at + 1) list) (drop (next + 1) cycles)
  at-ends e f =
      let l = ends-within f in
      split (drop next cycles)
      ∙ (ap (λ (cs : List (List ℕ)). merged is_on (here ∷ drop (at + 1) list) cs) (drop_more cycles next [] l)
      ∙ merged-ends is_on here (drop (at + 1) list) (get_or cycles next []) (drop (next + 1) cycles) e (sym (reads l) ∙ f))

  pub at-goes : is_on here ≡ true → ends_list_at here cycles next ≡ false → merged is_on (drop at list) (drop next cycles) ≡ merged is_on (drop (at + 1) list) (drop next cycles)
  at-goes e f = split (drop next cycles) ∙ elim (cases_lt next (length cycles)) [
    | inl l ↦
        ap (λ (cs : List (List ℕ)). merged is_on (here ∷ drop (at + 1) list) cs) (drop_more cycles next [] l)
        ∙ (merged-goes is_on here (drop (at + 1) list) (get_or cycles next []) (drop (next + 1) cycles) e (sym (reads l) ∙ f)
        ∙ ap (λ (cs : List (List ℕ)). merged is_on (drop (at + 1) list) cs) (sym (drop_more cycles next [] l)))
    | inr g ↦
        ap (λ (cs : List (List ℕ)). merged is_on (here ∷ drop (at + 1) list) cs) (drop_all next cycles g)
        ∙ (merged-past is_on here (drop (at + 1) list) e
        ∙ ap (λ (cs : List (List ℕ)). merged is_on (drop (at + 1) list) cs) (sym (drop_all next cycles g)))
  ]

-- nothing of the list is left
pub merged-over : {B : Type 0} (Fits : MergedMembers → B → Type 0) (is_on : ℕ → Bool) (list : List ℕ) (cycles : List (List ℕ)) (at : ℕ) (all : List MergedMembers) (done : List B) → length list ≤ at → ((rest : List B) → AllZip Fits (merged is_on (drop at list) cycles) rest → AllZip Fits all (done ++ rest)) → AllZip Fits all done
merged-over {B} Fits is_on list cycles at all done past so_far =
    subst (λ (l : List B). AllZip Fits all l) (append-nil done)
    (so_far [] (subst (λ (l : List ℕ). AllZip Fits (merged is_on l cycles) []) (sym (drop_all at list past)) tt))

-- ---- the numbers of one module more
pub numbers-push : {X : Type 0} (k : ℕ) (modules : List (List X)) (items : List X) → module_numbers_from k (modules ++ items ∷ []) ≡ module_numbers_from k modules ++ map (λ item. k + length modules) items
numbers-push {X} k [] items = append-nil (map (λ (item : X). k) items) ∙ ap (λ j. map (λ (item : X). j) items) (let same : k ≡ k + 0 = omega arith in same)
numbers-push {X} k (first ∷ modules) items =
    ap (λ (l : List ℕ). map (λ (item : X). k) first ++ l) (numbers-push (k + 1) modules items ∙ ap (λ j. module_numbers_from (k + 1) modules ++ map (λ (item : X). j) items) (let same : k + 1 + length modules ≡ k + suc (length modules) = omega arith in same))
    ∙ sym (append_assoc (map (λ (item : X). k) first) (module_numbers_from (k + 1) modules) (map (λ (item : X). k + suc (length modules)) items))

pub flat-push : {X A : Type 0} (f : X → List A) (xs : List X) (x : X) → flat_map f (xs ++ x ∷ []) ≡ flat_map f xs ++ f x
flat-push f [] x = append-nil (f x)
flat-push f (y ∷ xs) x = ap (λ l. f y ++ l) (flat-push f xs x) ∙ sym (append_assoc (f y) (flat_map f xs) (f x))

-- the one at a place
pub slice-one : {X : Type 0} (xs : List X) (n : ℕ) (d : X) → n < length xs → slice_range xs n (n + 1) ≡ get_or xs n d ∷ []
slice-one xs n d l =
    ap (λ k. take k (drop n xs)) (let same : n + 1 - n ≡ suc zero = omega arith in same)
    ∙ ap (λ ys. take (suc zero) ys) (drop_more xs n d l)

-- ---- the places that are left
module _ (owners list : List ℕ) (i x : ℕ) (within : i < length owners) (read : x ≡ get_or owners i 0) where
  left-more : left_of (take (i + 1) owners) list ≡ left_of (take i owners) list ++ cond (not (list_any (nat_eq x) list)) (i ∷ []) []
  left-more =
      ap (λ (l : List ℕ). left_of l list) (take_more owners i 0 within ∙ ap (λ y. take i owners ++ y ∷ []) (sym read))
      ∙ (places-push (λ o. not (list_any (nat_eq o) list)) 0 (take i owners) x
      ∙ ap (λ k. left_of (take i owners) list ++ cond (not (list_any (nat_eq x) list)) (k ∷ []) []) (let same : 0 + length (take i owners) ≡ i = omega (arith, length-take-le i owners (omega (arith, within))) in same))

  pub left-kept : list_any (nat_eq x) list ≡ false → left_of (take (i + 1) owners) list ≡ left_of (take i owners) list ++ i ∷ []
  left-kept e = left-more ∙ ap (λ b. left_of (take i owners) list ++ cond (not b) (i ∷ []) []) e

  pub left-passed : list_any (nat_eq x) list ≡ true → left_of (take (i + 1) owners) list ≡ left_of (take i owners) list
  left-passed e = left-more ∙ (ap (λ b. left_of (take i owners) list ++ cond (not b) (i ∷ []) []) e ∙ append-nil (left_of (take i owners) list))

-- ---- in the end
planned-of : (g : Modules) (owners : List ℕ) (one : MergedMembers) (block : Block) → IsKind g one → IsBlock owners one block → IsPlanned g owners one.0 block
planned-of g owners (members, true) block kind b = record {
  places = b.places;
  numbers = b.numbers;
  lone = λ e. absurd (false≢true (sym e ∙ b.cycle));
  cycle = λ e. kind;
}
planned-of g owners (members, false) block kind b = record {
  places = b.places;
  numbers = b.numbers;
  lone = λ e. kind;
  cycle = λ e. absurd (false≢true (sym b.cycle ∙ e));
}

all-planned : (g : Modules) (owners : List ℕ) (all : List MergedMembers) (blocks : List Block) → AreKinds g all → AllZip (IsBlock owners) all blocks → AllZip (IsPlanned g owners) (map first all) blocks
all-planned g owners [] [] kinds z = tt
all-planned g owners [] (block ∷ blocks) kinds z = absurd z
all-planned g owners (one ∷ all) [] kinds z = absurd z
all-planned g owners (one ∷ all) (block ∷ blocks) kinds z = (planned-of g owners one block kinds.0 z.0, all-planned g owners all blocks kinds.1 z.1)

pub IsPlanOf-blocks : (g : Modules) (entry : ℕ) (owners list : List ℕ) (cycles : List (List ℕ)) (plan : Plan) → IsOrder g entry list → AreBlocks g entry cycles → AllZip (IsBlock owners) (merged (λ m. is_in_some m cycles) list cycles) plan.blocks.items → plan.left.items ≡ left_of owners list → IsPlanOf g entry owners plan
IsPlanOf-blocks g entry owners list cycles plan o are z left =
    let all = merged (λ m. is_in_some m cycles) list cycles in
    let r = merged-order g entry list cycles o are in
    record {
      list = list;
      is_list = o;
      blocks = map first all;
      are_blocks = r.0;
      planned = all-planned g owners all plan.blocks.items r.1 z;
      left = left;
    }
