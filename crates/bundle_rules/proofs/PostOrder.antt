-- Where no modules reach each other, and where the standard's order is asked for, those of a bundle stand in post-order
-- of requests, and the items of each in their order.
use Rattle.std.proofs.Common.{◌≡◌, ◌⊎◌, ℕ, zero, suc, true, false, List, [], ◌∷◌, ◌++◌, Some, Contains, map, slice_get, refl, sym, ap, subst, ◌∙◌, inl, inr, append_assoc, arith}
use Rattle.std.specs.List.{flat_map}
use Rattle.std.specs.Prelude.{nat_eq}
use Rattle.std.proofs.lemmas.Bool.{false≢true}
use Rattle.std.proofs.lemmas.List.Elements.{Contains-push_cases}
use Rattle.std.proofs.lemmas.Map.Keys.{IsDistinct-from_apart}
use Rattle.std.proofs.lemmas.Option.{get_or_from_slice_get, same_Some, slice_get-get_or, slice_get_within}
use Rattle.bundle_syntax.specs.Item.{Item}
use Rattle.bundle_order_graph.specs.Blocks as b
use Rattle.bundle_order_graph.specs.Blocks.{BlocksOf, Members}
use Rattle.bundle_order_graph.specs.Walks.{Reaches, along, itself}
use Rattle.bundle_order_graph.proofs.ListLemmas.{same_index}
use Rattle.bundle_order_graph.proofs.OrderLemmas.{Contains-cons_cases, Contains-head, Contains-tail, Lists-apart, Lists-only, Lists-sound}
use Rattle.bundle_order_graph.proofs.WalkLemmas.{Reaches-trans}
use Rattle.bundle_rules.specs.Bundle as w
use Rattle.bundle_rules.specs.Bundle.{AreBlocksLaidOut, Cause, Chosen, Exports, Form, Helps, HoldsNamespace, IsBlockLaidOut, IsDue, IsLaidOut, Pairing, Stars, externals, import_causes, module_causes}
use Rattle.bundle_rules.specs.Declarations.{Reading}
use Rattle.bundle_rules.specs.Headline.{IsAcyclic, StandsInPostOrder, causes_in_order}
use Rattle.bundle_rules.specs.Program.{Program, IsList, IsReached, Requests, SharesBlock}

-- Lists that have nothing twice.

abbrev IsOnce : List ℕ → Type 0
IsOnce xs = (i j m : ℕ) → slice_get xs i ≡ Some m → slice_get xs j ≡ Some m → i ≡ j

none_there : (x : ℕ) → Contains [] x → ⊥
none_there x (k, less, is) = omega (arith, less)

place_in : (xs : List ℕ) (x : ℕ) → Contains xs x → (k : ℕ) × (slice_get xs k ≡ Some x)
place_in xs x (k, less, is) = (k, slice_get-get_or xs k x less ∙ ap Some is)

once_rest : (x : ℕ) (xs : List ℕ) → IsOnce (x ∷ xs) → IsOnce xs
once_rest x xs once i j m at there = let same : suc i ≡ suc j = once (suc i) (suc j) m at there in omega (arith, same)

once_head : (x : ℕ) (xs : List ℕ) → IsOnce (x ∷ xs) → Contains xs x → ⊥
once_head x xs once there =
    let its = place_in xs x there in
    let same : zero ≡ suc its.0 = once zero (suc its.0) x refl its.1 in omega (arith, same)

-- Members of one block alone.

module _ (Has : ℕ → Type 0) where
  members_none : (xs ys : List ℕ) → ((y : ℕ) → Contains xs y → Has y → ⊥) → Members Has xs ys →
      ys ≡ []
  members_none xs ys none b.nothing = refl
  members_none xs ys none (b.kept {x = x} {xs = rest} its others) = absurd (none x (Contains-head rest x) its)
  members_none xs ys none (b.left {x = x} {xs = rest} not others) = members_none rest ys (λ y there. none y (Contains-tail rest x y there)) others

  members_one : (x : ℕ) (xs ys : List ℕ) → IsOnce xs → Contains xs x → Has x →
      ((y : ℕ) → Contains xs y → Has y → x ≡ y) → Members Has xs ys → ys ≡ x ∷ []
  members_one x xs ys once there has only b.nothing = absurd (none_there x there)
  members_one x xs ys once there has only (b.kept {x = y} {xs = rest} {ys = more} its others) =
      let same : x ≡ y = only y (Contains-head rest y) its in
      let none : more ≡ [] = members_none rest more (λ z later again. once_head y rest once (subst (Contains rest) (sym (only z (Contains-tail rest y z later) again) ∙ same) later)) others in
      ap (λ l. y ∷ l) none ∙ ap (λ n. n ∷ []) (sym same)
  members_one x xs ys once there has only (b.left {x = y} {xs = rest} not others) =
      elim (Contains-cons_cases rest y x there) [
        | inl same ↦ absurd (not (subst Has (sym same) has))
        | inr later ↦ members_one x rest ys (once_rest y rest once) later has (λ z at. only z (Contains-tail rest y z at)) others
      ]

-- What is chosen of one list and of another.
chosen_append : (Has : Cause → Type 0) (xs ys zs us : List Cause) → Chosen Has xs ys →
    Chosen Has zs us → Chosen Has (xs ++ zs) (ys ++ us)
chosen_append Has xs ys zs us w.Chosen.nothing others = others
chosen_append Has xs ys zs us (w.Chosen.chosen {xs = rest} {ys = more} its first) others = w.Chosen.chosen its (chosen_append Has rest more zs us first others)
chosen_append Has xs ys zs us (w.Chosen.left {xs = rest} not first) others = w.Chosen.left not (chosen_append Has rest ys zs us first others)

-- The blocks.

module _ (p : Program) (acyclic : IsAcyclic p) where
  pub one_alone : (m n : ℕ) → IsReached p m → Reaches (Requests p) m n → Reaches (Requests p) n m →
      m ≡ n
  one_alone m n reached itself back = refl
  one_alone m n reached (along {b = next} edge rest) back = absurd (acyclic m next reached edge (Reaches-trans rest back))

-- each module has a block of its own, where the program has no cycles and where the standard's order is asked for
module _ (p : Program) where
  pub alone : IsAcyclic p ⊎ (p.settings.in_standard_order ≡ true) → (m n : ℕ) → IsReached p m → SharesBlock p m n → m ≡ n
  alone (inl acyclic) m n reached both = one_alone p acyclic m n reached both.0 both.1
  alone (inr asked) m n reached both = both.2 asked

  pub unsorted : IsAcyclic p ⊎ (p.settings.in_standard_order ≡ true) → (m : ℕ) → IsReached p m → p.settings.in_standard_order ≡ false → Requests p m m → ⊥
  unsorted (inl acyclic) m reached not edge = acyclic m m reached edge itself
  unsorted (inr asked) m reached not edge = false≢true (sym not ∙ asked)

module _ (p : Program) (one_alone : (m n : ℕ) → IsReached p m → SharesBlock p m n → m ≡ n) (unsorted : (m : ℕ) → IsReached p m → p.settings.in_standard_order ≡ false → Requests p m m → ⊥) where
  -- the causes of a module, with the object of its namespace
  abbrev its_causes : ℕ → List Cause
  its_causes m = module_causes p m ++ HoldsNamespace m ∷ []

  module _ (form : Form) (reading : Reading) (tree : List Item) (pairing : Pairing) where
    lone_chosen : (m : ℕ) (members : List ℕ) (plan : List Cause) → members ≡ m ∷ [] →
        IsReached p m → IsBlockLaidOut p form tree reading pairing members plan →
        Chosen (IsDue p form) (its_causes m) plan
    lone_chosen m members plan same reached (w.IsBlockLaidOut.lone {m = n} not picked) =
        let its : n ≡ m = same_Some n m (ap (λ (l : List ℕ). slice_get l 0) same) in
        subst (λ k. Chosen (IsDue p form) (its_causes k) plan) its picked
    lone_chosen m members plan same reached (w.IsBlockLaidOut.cycle numbered items order not own picked stand good ordered) =
        absurd (unsorted m reached not (own m same))

    module _ (list : List ℕ) (once : IsOnce list) (reached : (m : ℕ) → Contains list m → IsReached p m) where
      blocks_chosen : (rest : List ℕ) (blocks : List (List ℕ)) (middle : List Cause) →
          IsOnce rest → ((m : ℕ) → Contains rest m → Contains list m) →
          BlocksOf (SharesBlock p) list rest blocks →
          AreBlocksLaidOut p form tree reading pairing blocks middle →
          Chosen (IsDue p form) (flat_map its_causes rest) middle
      blocks_chosen rest blocks middle apart within b.over w.AreBlocksLaidOut.over = w.Chosen.nothing
      blocks_chosen rest blocks middle apart within (b.ends {x = x} {rest = more} {block = block} {blocks = others} shares last members left) (w.AreBlocksLaidOut.next {rest = behind} plan its laid) =
          let here : Contains list x = within x (Contains-head more x) in
          let single : block ≡ x ∷ [] = members_one (SharesBlock p x) x list block once here shares (λ y there both. one_alone x y (reached x here) both) members in
          chosen_append (IsDue p form) (its_causes x) plan (flat_map its_causes more) behind (lone_chosen x block plan single (reached x here) its)
          (blocks_chosen more others behind (once_rest x more apart) (λ m there. within m (Contains-tail more x m there)) left laid)
      blocks_chosen rest blocks middle apart within (b.goes_on {x = x} {rest = more} (inl not) left) laid = absurd (not (itself, itself, λ e. refl))
      blocks_chosen rest blocks middle apart within (b.goes_on {x = x} {rest = more} (inr (y, later, both)) left) laid =
          let same : x ≡ y = one_alone x y (reached x (within x (Contains-head more x))) both in
          absurd (once_head x more apart (subst (Contains more) (sym same) later))

-- The list of a program has each module once, and each is reached.

list_once : (p : Program) (list : List ℕ) → IsList p list → IsOnce list
list_once p list is_list i j m at there =
    let apart = Lists-apart is_list (record { once = IsDistinct-from_apart nat_eq [] (λ k l d less within. absurd (omega (arith, within))); other = λ x begun done. none_there x done }) in
    same_index list apart.once i j (slice_get_within list i m at) (slice_get_within list j m there)
    (get_or_from_slice_get list i m 0 at ∙ sym (get_or_from_slice_get list j m 0 there))

list_reached : (p : Program) (list : List ℕ) → IsList p list → (m : ℕ) → Contains list m →
    IsReached p m
list_reached p list is_list m there =
    elim (Lists-sound is_list m there) [
      | inl none ↦ absurd (none_there m none)
      | inr from ↦ elim (Contains-push_cases [] p.entry from.0 from.1) [
        | inl none ↦ absurd (none_there from.0 none)
        | inr same ↦ subst (λ (t : ℕ). Reaches (Requests p) t m) (sym same) from.2
      ]
    ]

-- The whole plan.

laid_in_order : (p : Program) (form : Form) (reading : Reading) (tree : List Item) (pairing : Pairing) →
    IsAcyclic p ⊎ (p.settings.in_standard_order ≡ true) → (its : IsLaidOut p form reading tree pairing) →
    Chosen (IsDue p form) (causes_in_order p its.list) pairing.plan
laid_in_order p form reading tree pairing either its =
    let list = its.list in
    let imports : List Cause = flat_map import_causes (externals p list) in
    let bodies : List Cause = flat_map (λ m. module_causes p m ++ HoldsNamespace m ∷ []) list in
    let stars : List Cause = map Stars (externals p list) in
    let last : List Cause = Exports ∷ [] in
    let middle : Chosen (IsDue p form) bodies its.middle =
    blocks_chosen p (alone p either) (unsorted p either) form reading tree pairing list (list_once p list its.is_list) (list_reached p list its.is_list) list its.blocks its.middle (list_once p list its.is_list) (λ m there. there) its.are_blocks its.in_blocks in
    let all : Chosen (IsDue p form) ((imports ++ Helps ∷ []) ++ (bodies ++ (stars ++ last))) (its.front ++ (its.middle ++ its.back)) =
    chosen_append (IsDue p form) (imports ++ Helps ∷ []) its.front (bodies ++ (stars ++ last)) (its.middle ++ its.back) its.in_front (chosen_append (IsDue p form) bodies its.middle (stars ++ last) its.back middle its.behind) in
    let same : (imports ++ Helps ∷ []) ++ (bodies ++ (stars ++ last)) ≡ imports ++ (Helps ∷ ((bodies ++ stars) ++ last)) =
    append_assoc imports (Helps ∷ []) (bodies ++ (stars ++ last)) ∙ ap (λ (causes : List Cause). imports ++ (Helps ∷ causes)) (sym (append_assoc bodies stars last)) in
    subst (Chosen (IsDue p form) (imports ++ (Helps ∷ ((bodies ++ stars) ++ last)))) (sym its.plan)
    (subst (λ causes. Chosen (IsDue p form) causes (its.front ++ (its.middle ++ its.back))) same all)

-- without cycles, and with them where the standard's order is asked for, modules stand in post-order of requests, and each module's items in their order
pub stands_in_post_order : (p : Program) (form : Form) (reading : Reading) (tree : List Item) →
    StandsInPostOrder p form reading tree
stands_in_post_order p form reading tree pairing list either is_list its =
    subst (λ (l : List ℕ). Chosen (IsDue p form) (causes_in_order p l) pairing.plan) (Lists-only is_list its.is_list) (laid_in_order p form reading tree pairing either its)
