-- More numbers than there are values: two of them have the same value.
-- Items by module, and the same with something made of each item: what is said of the ones holds of the others.
use Rattle.std.proofs.Common.{◌≡◌, ◌≢◌, ℕ, zero, suc, ◌<◌, Bool, true, false, nat_eq, ◌⊎◌, refl, sym, ◌∙◌, inl, inr, eqb-true, eq-eqb, arith, if◌then◌else◌, ◌==◌, cond, List, [], ◌∷◌, ◌++◌, Option, Some, None, ap, subst}
use Rattle.std.proofs.lemmas.Bool.{cases_eq, false≢true}
use Rattle.std.specs.Prelude.{map, filter, flat_map, not, option_map}
use Rattle.std.specs.List.{AllZip}
use Rattle.std.proofs.lemmas.List.{map-append}
use Rattle.bundle_syntax.specs.Item.{Item}
use Rattle.bundle_rules.specs.Nodes.{numbers_once}
use Rattle.bundle_rules.specs.Parts.ListsAnswered.{over as tl_over, next as tl_next}
use Rattle.bundle_rules.specs.Parts.Retained.{over as tr_over, stays as tr_stays, goes as tr_goes}
use Rattle.bundle_rules.specs.Parts as t
use Rattle.bundle_merge_modules.specs.Parts as parts
use Rattle.bundle_merge_modules.specs.Parts.{OwnedOf, HeldOf}
use Rattle.bundle_merge_modules.specs.Parts.ListsAnsweredOf.{over as pl_over, next as pl_next}
use Rattle.bundle_merge_modules.specs.Parts.RetainedOf.{over as pr_over, stays as pr_stays, goes as pr_goes}
use Rattle.bundle_merge_modules.specs.Parts.Answered.{over as pa_over, goes as pa_goes, stays as pa_stays}
use Rattle.bundle_merge_modules.specs.Refused.{StopsAt}
use Rattle.bundle_merge_modules.specs.Refused.StopsAt.{here, further}
use Rattle.bundle_merge_modules.specs.Held.{MapsSome, PickedOwned, module_lists, lists_in_order}
use Rattle.bundle_merge_modules.specs.Held.PickedOwned.{over as pk_over, goes as pk_goes, stays as pk_stays}

-- ---- pigeon

-- a value is found among the first so many, or is not there
seek : (f : ℕ → ℕ) (v m : ℕ) → ((k : ℕ) × (k < m) × (f k ≡ v)) ⊎ ((k : ℕ) → k < m → f k ≢ v)
seek f v zero = inr (λ k l e. absurd (omega (arith, l)))
seek f v (suc m) =
    elim (seek f v m) [
      | inl w ↦ inl (w.0, omega (arith, w.1), w.2)
      | inr none ↦ elim (cases_eq (f m) v) [
        | inl e ↦ inl (m, omega arith, e)
        | inr x ↦ inr (λ k l e. last k l e none x)
      ]
    ]
  where
    last : (k : ℕ) → k < suc m → f k ≡ v → ((j : ℕ) → j < m → f j ≢ v) → f m ≢ v → ⊥
    last k l e none x = elim (cases_eq k m) [ inl same ↦ x (sym (apply same) ∙ e) | inr other ↦ none k (omega (arith, l, other)) e ]
      where
        apply : k ≡ m → f k ≡ f m
        apply same = λ i. f (same i)

-- the value m gives way to v
abbrev moved : (ℕ → ℕ) → ℕ → ℕ → ℕ → ℕ
moved f v m k = if nat_eq (f k) m then v else f k

moved-fits : (f : ℕ → ℕ) (v m k : ℕ) → f k < suc m → v < suc m → f k ≢ v → moved f v m k < m
moved-fits f v m k fits room apart = step (nat_eq (f k) m) refl
  where
    step : (b : Bool) → nat_eq (f k) m ≡ b → (if b then v else f k) < m
    step true is = let e = eqb-true (f k) m is in elim (cases_eq v m) [ inl same ↦ absurd (apart (e ∙ sym same)) | inr other ↦ omega (arith, room, other) ]
    step false is = let other : f k ≢ m = λ e. false≢true (sym is ∙ eq-eqb (f k) m e) in omega (arith, fits, other)

moved-same : (f : ℕ → ℕ) (v m a b : ℕ) → f a ≢ v → f b ≢ v → moved f v m a ≡ moved f v m b → f a ≡ f b
moved-same f v m a b one other = step (nat_eq (f a) m) (nat_eq (f b) m) refl refl
  where
    step : (c d : Bool) → nat_eq (f a) m ≡ c → nat_eq (f b) m ≡ d → (if c then v else f a) ≡ (if d then v else f b) → f a ≡ f b
    step true true p q e = eqb-true (f a) m p ∙ sym (eqb-true (f b) m q)
    step true false p q e = absurd (other (sym e))
    step false true p q e = absurd (one e)
    step false false p q e = e

pub pigeons : (n : ℕ) (f : ℕ → ℕ) → ((k : ℕ) → k < suc n → f k < n) → (a : ℕ) × (b : ℕ) × (a < b) × (b < suc n) × (f a ≡ f b)
pigeons zero f fits = absurd (omega (arith, fits 0 (omega arith)))
pigeons (suc m) f fits =
    elim (seek f (f (suc m)) (suc m)) [
      | inl w ↦ (w.0, suc m, w.1, omega arith, w.2)
      | inr none ↦ again (pigeons m (moved f (f (suc m)) m) (λ k l. moved-fits f (f (suc m)) m k (fits k (omega (arith, l))) (fits (suc m) (omega arith)) (none k l))) none
    ]
  where
    again : ((a : ℕ) × (b : ℕ) × (a < b) × (b < suc m) × (moved f (f (suc m)) m a ≡ moved f (f (suc m)) m b)) → ((k : ℕ) → k < suc m → f k ≢ f (suc m)) → (a : ℕ) × (b : ℕ) × (a < b) × (b < suc (suc m)) × (f a ≡ f b)
    again w none = (w.0, w.1, w.2, omega (arith, w.3), moved-same f (f (suc m)) m w.0 w.1 (none w.0 (omega (arith, w.2, w.3))) (none w.1 w.3) w.4)

-- ---- tree

-- numbers once
once-same : (ns : List ℕ) → parts.once ns ≡ numbers_once ns
once-same [] = refl
once-same (n ∷ ns) = ap (λ l. n ∷ filter (λ m. not (n == m)) l) (once-same ns)

-- what is answered up to the one that is refused, with something made of each
pub stops-made : {X Y : Type 0} (f : X → Y) {answered refused : X → Type 0} (says denies : Y → Type 0) {xs : List X} → StopsAt answered refused xs → ((x : X) → answered x → says (f x)) → ((x : X) → refused x → denies (f x)) → StopsAt says denies (map f xs)
stops-made f says denies (here {one = x} said) on off = here (off x said)
stops-made f says denies (further {one = x} said rest) on off = further (on x said) (stops-made f says denies rest on off)

module _ {A : Type 0} (tree : A → List Item) where
  abbrev pub made : OwnedOf A → t.Owned
  made o = (o.0, tree o.1)

  abbrev pub parts_made : HeldOf A → t.Parts
  parts_made h = record { prepended = map made h.prepended; bodies = map made h.bodies; appended = map made h.appended }

  -- the items of a module, and those of the others
  pub ours-made : (m : ℕ) (ps : List (OwnedOf A)) → filter (λ (o : t.Owned). nat_eq o.0 m) (map made ps) ≡ map made (filter (λ (o : OwnedOf A). nat_eq o.0 m) ps)
  ours-made m [] = refl
  ours-made m ((n, x) ∷ ps) = step (nat_eq n m) (ours-made m ps)
    where
      step : (b : Bool) → filter (λ (o : t.Owned). nat_eq o.0 m) (map made ps) ≡ map made (filter (λ (o : OwnedOf A). nat_eq o.0 m) ps)
          → cond b ((n, tree x) ∷ filter (λ (o : t.Owned). nat_eq o.0 m) (map made ps)) (filter (λ (o : t.Owned). nat_eq o.0 m) (map made ps)) ≡ map made (cond b ((n, x) ∷ filter (λ (o : OwnedOf A). nat_eq o.0 m) ps) (filter (λ (o : OwnedOf A). nat_eq o.0 m) ps))
      step true ih = ap (λ l. (n, tree x) ∷ l) ih
      step false ih = ih

  pub others-made : (m : ℕ) (ps : List (OwnedOf A)) → filter (λ (o : t.Owned). if nat_eq o.0 m then false else true) (map made ps) ≡ map made (parts.others m ps)
  others-made m [] = refl
  others-made m ((n, x) ∷ ps) = step (if nat_eq n m then false else true) (others-made m ps)
    where
      step : (b : Bool) → filter (λ (o : t.Owned). if nat_eq o.0 m then false else true) (map made ps) ≡ map made (parts.others m ps)
          → cond b ((n, tree x) ∷ filter (λ (o : t.Owned). if nat_eq o.0 m then false else true) (map made ps)) (filter (λ (o : t.Owned). if nat_eq o.0 m then false else true) (map made ps)) ≡ map made (cond b ((n, x) ∷ parts.others m ps) (parts.others m ps))
      step true ih = ap (λ l. (n, tree x) ∷ l) ih
      step false ih = ih

  -- by modules
  pub by_modules-made : (ps : List (OwnedOf A)) → t.by_modules (map made ps) ≡ map made (parts.by_modules_of ps)
  by_modules-made [] = refl
  by_modules-made ((m, x) ∷ ps) =
      ap (λ l. (m, tree x) ∷ (filter (λ (o : t.Owned). nat_eq o.0 m) (map made ps) ++ filter (λ (o : t.Owned). if nat_eq o.0 m then false else true) l)) (by_modules-made ps)
      ∙ ap (λ l. (m, tree x) ∷ (filter (λ (o : t.Owned). nat_eq o.0 m) (map made ps) ++ l)) (others-made m (parts.by_modules_of ps))
      ∙ ap (λ l. (m, tree x) ∷ (l ++ map made (parts.others m (parts.by_modules_of ps)))) (ours-made m ps)
      ∙ ap (λ l. (m, tree x) ∷ l) (sym (map-append made (filter (λ (o : OwnedOf A). nat_eq o.0 m) ps) (parts.others m (parts.by_modules_of ps))))

  pub join-made : (ps qs : List (OwnedOf A)) → map made (parts.by_modules_of (ps ++ qs)) ≡ t.by_modules (map made ps ++ map made qs)
  join-made ps qs = sym (by_modules-made (ps ++ qs)) ∙ ap t.by_modules (map-append made ps qs)

  -- one more item
  pub put-made : (ps : List (OwnedOf A)) (m : ℕ) (x : A) → map made (parts.put_last ps (m, x)) ≡ t.put (map made ps) (m, tree x)
  put-made ps m x = join-made ps ((m, x) ∷ [])

  -- items in turn
  pub turn-made : (h : HeldOf A) (xs : List (OwnedOf A)) → parts_made (record h { appended = parts.put_in_turn h.appended xs }) ≡ t.with_all_appended (parts_made h) (map made xs)
  turn-made h [] = refl
  turn-made h ((m, x) ∷ xs) =
      turn-made (record h { appended = parts.put_last h.appended (m, x) }) xs
      ∙ ap (λ (l : List t.Owned). t.with_all_appended (record (parts_made h) { appended = l }) (map made xs)) (put-made h.appended m x)

  -- each part behind the same part
  pub joined-made : (a b : HeldOf A) → parts_made (parts.held_joined a b) ≡ t.joined (parts_made a) (parts_made b)
  joined-made a b =
      ap (λ (l : List t.Owned). record (parts_made (parts.held_joined a b)) { prepended = l }) (join-made a.prepended b.prepended)
      ∙ ap (λ (l : List t.Owned). record (t.joined (parts_made a) (parts_made b)) { bodies = l; appended = map made (parts.by_modules_of (a.appended ++ b.appended)) }) (join-made a.bodies b.bodies)
      ∙ ap (λ (l : List t.Owned). record (t.joined (parts_made a) (parts_made b)) { appended = l }) (join-made a.appended b.appended)

  -- the items of one module
  pub owned_by-made : (m : ℕ) (xs : List A) → map made (parts.owned_by_module m xs) ≡ t.owned_by m (map tree xs)
  owned_by-made m [] = refl
  owned_by-made m (x ∷ xs) = ap (λ l. (m, tree x) ∷ l) (owned_by-made m xs)

  pub held_by-made : (m : ℕ) (xs : List A) → parts_made (parts.body_held m xs) ≡ t.parts_of m (map tree xs)
  held_by-made m xs = ap (λ (l : List t.Owned). record t.no_parts { bodies = l }) (owned_by-made m xs)

  pub seconds-made : (ps : List (OwnedOf A)) → map (λ (o : t.Owned). o.1) (map made ps) ≡ map tree (map (λ (o : OwnedOf A). o.1) ps)
  seconds-made [] = refl
  seconds-made (o ∷ ps) = ap (λ l. tree o.1 ∷ l) (seconds-made ps)

  pub items_in-made : (ps : List (OwnedOf A)) (m : ℕ) → t.items_in (map made ps) m ≡ map tree (parts.items_of_owner ps m)
  items_in-made ps m = ap (map (λ (o : t.Owned). o.1)) (ours-made m ps) ∙ seconds-made (filter (λ (o : OwnedOf A). nat_eq o.0 m) ps)

  -- all in order
  pub order-made : (h : HeldOf A) → map made (parts.all_in_order h) ≡ t.in_order (parts_made h)
  order-made h = map-append made h.prepended (h.bodies ++ h.appended) ∙ ap (λ l. map made h.prepended ++ l) (map-append made h.bodies h.appended)

  pub flat-made : (ps : List (OwnedOf A)) → flat_map tree (map (λ (o : OwnedOf A). o.1) ps) ≡ flat_map (λ (o : t.Owned). o.1) (map made ps)
  flat-made [] = refl
  flat-made (o ∷ ps) = ap (λ l. tree o.1 ++ l) (flat-made ps)

  pub body-made : (h : HeldOf A) → t.tree_of_items (flat_map tree (map (λ (o : OwnedOf A). o.1) (parts.all_in_order h))) ≡ t.body_of (parts_made h)
  body-made h = ap t.tree_of_items (flat-made (parts.all_in_order h) ∙ ap (flat_map (λ (o : t.Owned). o.1)) (order-made h))

  keys-made : (ps : List (OwnedOf A)) → map (λ (o : t.Owned). o.0) (map made ps) ≡ map (λ (o : OwnedOf A). o.0) ps
  keys-made [] = refl
  keys-made (o ∷ ps) = ap (λ l. o.0 ∷ l) (keys-made ps)

  -- the lists of modules
  abbrev pub list_made : ℕ × List A → ℕ × List (List Item)
  list_made one = (one.0, map tree one.1)

  lists-at : (ps : List (OwnedOf A)) (ms : List ℕ) → map list_made (map (λ m. (m, parts.items_of_owner ps m)) ms) ≡ map (λ m. (m, t.items_in (map made ps) m)) ms
  lists-at ps [] = refl
  lists-at ps (m ∷ ms) =
      ap (λ (l : List (List Item)). (m, l) ∷ map list_made (map (λ n. (n, parts.items_of_owner ps n)) ms)) (sym (items_in-made ps m))
      ∙ ap (λ (l : List (ℕ × List (List Item))). (m, t.items_in (map made ps) m) ∷ l) (lists-at ps ms)

  lists-made : (ps : List (OwnedOf A)) → map list_made (parts.lists_by_module ps) ≡ module_lists (map made ps)
  lists-made ps =
      lists-at ps (parts.modules_of_part ps)
      ∙ ap (map (λ m. (m, t.items_in (map made ps) m))) (once-same (map (λ (o : OwnedOf A). o.0) ps) ∙ ap numbers_once (sym (keys-made ps)))

  pub list_order-made : (h : HeldOf A) → map list_made (parts.lists_in_order_of h) ≡ lists_in_order (parts_made h)
  list_order-made h =
      map-append list_made (parts.lists_by_module h.prepended) (parts.lists_by_module h.bodies ++ parts.lists_by_module h.appended)
      ∙ ap (λ l. map list_made (parts.lists_by_module h.prepended) ++ l) (map-append list_made (parts.lists_by_module h.bodies) (parts.lists_by_module h.appended))
      ∙ ap (λ l. l ++ (map list_made (parts.lists_by_module h.bodies) ++ map list_made (parts.lists_by_module h.appended))) (lists-made h.prepended)
      ∙ ap (λ l. module_lists (map made h.prepended) ++ (l ++ map list_made (parts.lists_by_module h.appended))) (lists-made h.bodies)
      ∙ ap (λ l. module_lists (map made h.prepended) ++ (module_lists (map made h.bodies) ++ l)) (lists-made h.appended)

  -- lists that are answered
  module _ (May : ℕ → List A → List A → Type 0) (Say : ℕ → List (List Item) → List (List Item) → Type 0) (says : (m : ℕ) (xs ys : List A) → May m xs ys → Say m (map tree xs) (map tree ys)) where
    pub answered-made : (pairs : List (OwnedOf A)) (ms : List ℕ) (new : List (OwnedOf A)) → parts.ListsAnsweredOf May pairs ms new → t.ListsAnswered Say (map made pairs) ms (map made new)
    answered-made pairs [] new pl_over = tl_over
    answered-made pairs (m ∷ rest) new (pl_next {new = behind} answer said more) =
        subst (λ (l : List t.Owned). t.ListsAnswered Say (map made pairs) (m ∷ rest) l)
        (sym (map-append made (parts.owned_by_module m answer) behind ∙ ap (λ l. l ++ map made behind) (owned_by-made m answer)))
        (tl_next (map tree answer) (subst (λ (l : List (List Item)). Say m l (map tree answer)) (sym (items_in-made pairs m)) (says m (parts.items_of_owner pairs m) answer said)) (answered-made pairs rest behind more))

    part-made : (old new : List (OwnedOf A)) → parts.ListsAnsweredOf May old (parts.modules_of_part old) new → t.ListsAnswered Say (map made old) (t.modules_in (map made old)) (map made new)
    part-made old new is =
        subst (λ (ms : List ℕ). t.ListsAnswered Say (map made old) ms (map made new)) (once-same (map (λ (o : OwnedOf A). o.0) old) ∙ ap numbers_once (sym (keys-made old)))
        (answered-made old (parts.modules_of_part old) new is)

    pub MapsLists-made : (before after : HeldOf A) → parts.MapsListsOf May before after → t.MapsLists Say (parts_made before) (parts_made after)
    MapsLists-made before after is = record {
      prepended = part-made before.prepended after.prepended is.prepended;
      bodies = part-made before.bodies after.bodies is.bodies;
      appended = part-made before.appended after.appended is.appended;
    }

  -- items that are answered
  module _ (May : ℕ → A → A → Type 0) (Say : ℕ → List Item → List Item → Type 0) (says : (m : ℕ) (x y : A) → May m x y → Say m (tree x) (tree y)) where
    zip-made : (old new : List (OwnedOf A)) → AllZip (parts.ItemAnsweredOf May) old new → AllZip (t.ItemAnswered Say) (map made old) (map made new)
    zip-made [] [] is = tt
    zip-made [] (y ∷ ys) is = absurd is
    zip-made (x ∷ xs) [] is = absurd is
    zip-made (x ∷ xs) (y ∷ ys) is = (record { same = is.0.same; answered = says x.0 x.1 y.1 is.0.answered }, zip-made xs ys is.1)

    pub MapsItems-made : (before after : HeldOf A) → parts.MapsItemsOf May before after → t.MapsItems Say (parts_made before) (parts_made after)
    MapsItems-made before after is = record {
      prepended = zip-made before.prepended after.prepended is.prepended;
      bodies = zip-made before.bodies after.bodies is.bodies;
      appended = zip-made before.appended after.appended is.appended;
    }

  -- items that are kept
  module _ (May : ℕ → A → Bool → Type 0) (Say : ℕ → List Item → Bool → Type 0) (says : (m : ℕ) (x : A) (b : Bool) → May m x b → Say m (tree x) b) where
    kept-made : (old new : List (OwnedOf A)) → parts.RetainedOf May old new → t.Retained Say (map made old) (map made new)
    kept-made [] [] pr_over = tr_over
    kept-made [] (_ ∷ new) is = elim is [ ]
    kept-made (o ∷ old) (_ ∷ new) (pr_stays said rest) = tr_stays (says o.0 o.1 true said) (kept-made old new rest)
    kept-made (o ∷ old) new (pr_goes said rest) = tr_goes (says o.0 o.1 false said) (kept-made old new rest)

    pub Retains-made : (before after : HeldOf A) → parts.RetainsOf May before after → t.Retains Say (parts_made before) (parts_made after)
    Retains-made before after is = record {
      prepended = kept-made before.prepended after.prepended is.prepended;
      bodies = kept-made before.bodies after.bodies is.bodies;
      appended = kept-made before.appended after.appended is.appended;
    }

  -- items that are answered, or go
  module _ (May : ℕ → A → Option A → Type 0) (Say : ℕ → List Item → Option (List Item) → Type 0) (says : (m : ℕ) (x : A) (y : Option A) → May m x y → Say m (tree x) (option_map tree y)) where
    pick-made : {old new : List (OwnedOf A)} → parts.Answered May old new → PickedOwned Say (map made old) (map made new)
    pick-made pa_over = pk_over
    pick-made (pa_goes {m = m} {item = x} said rest) = pk_goes (says m x None said) (pick-made rest)
    pick-made (pa_stays {m = m} {item = x} {answer = y} said rest) = pk_stays (says m x (Some y) said) (pick-made rest)

    pub MapsSome-made : (before after : HeldOf A) → parts.MapsSomeOf May before after → MapsSome Say (parts_made before) (parts_made after)
    MapsSome-made before after is = record {
      prepended = pick-made is.prepended;
      bodies = pick-made is.bodies;
      appended = pick-made is.appended;
    }
