use Rattle.std.proofs.Common.{rules, arith, ◌≡◌, ℕ, ◌<◌, ◌≤◌, false, List, [], Option, Some, None, Bor, IfSome, IfNone, MatchOption, map, length, get_or, set, sym, ap, ◌∙◌, subst, Contains}
use Rattle.std.specs.List.{HoldsAt}
use Rattle.std.specs.Option.{option_copied}
use Rattle.std.proofs.lemmas.List.{length-map, get_or-map, get_or-set_same}
use Rattle.std.proofs.lemmas.List.Elements.{Contains-get_or}
use Rattle.bundle_order_sort.specs.Numbers.{is_awaited}
use Rattle.bundle_order_sort.specs.Chains.{Falls, WaitsForNone, AreChains}
use Rattle.bundle_order_sort.proofs.ChainLemmas.{awaited-begun, Falls-one, AreChains-within, AreChains-passed, WaitsForNone-from_passed}
use Rattle.bundle_order_sort.proofs.stack.next_in_chain.Goals as goal

-- what was found at a place of a list
abbrev IsAt : List ℕ → ℕ → Option ℕ → Type 0
IsAt xs i r = MatchOption r (length xs ≤ i) (λ x. (i < length xs) × (get_or xs i 0 ≡ x))

copied_at : (xs : List ℕ) (i : ℕ) (o : Option (Bor ℕ)) (r : Option ℕ) → r ≡ option_copied o → MatchOption o (length xs ≤ i) (λ x. (i < length xs) × HoldsAt (λ y. x.now ≡ y) xs i) → IsAt xs i r
copied_at xs i None r e h = subst (IsAt xs i) (sym e) h
copied_at xs i (Some x) r e h = subst (IsAt xs i) (sym e) (h.0, sym (h.1 0))

if_found : (xs : List ℕ) (i : ℕ) (r : Option ℕ) → IsAt xs i r → (P : ℕ → Type 0) → (i < length xs → P (get_or xs i 0)) → IfSome r P
if_found xs i None h P f = tt
if_found xs i (Some x) h P f = subst P h.1 (f h.0)

unless_found : (xs : List ℕ) (i : ℕ) (r : Option ℕ) → IsAt xs i r → (Q : Type 0) → (length xs ≤ i → Q) → IfNone r Q
unless_found xs i None h Q f = f h
unless_found xs i (Some x) h Q f = tt

pub offset_bounds-progress-end : goal.offset_bounds-progress-end
offset_bounds-progress-end c =
    let needs : List (List ℕ) = map (λ v. v.items) c.args.needs.now in
    let h : c.args.item < length needs = omega (arith, c.requires.item_in, length-map c.args.needs.now (λ v. v.items)) in
    let inside : get_or c.args.ends.now c.args.item 0 < length c.args.progress.now = omega (arith, AreChains-within needs c.args.ranks.now c.args.progress.now c.args.ends.now c.args.cursors.now c.requires.chains c.args.item h, c.requires.chains.progress_len) in
    search rules

pub bounds-progress-end : goal.bounds-progress-end
bounds-progress-end c =
    let needs : List (List ℕ) = map (λ v. v.items) c.args.needs.now in
    let h : c.args.item < length needs = omega (arith, c.requires.item_in, length-map c.args.needs.now (λ v. v.items)) in
    omega (arith, AreChains-within needs c.args.ranks.now c.args.progress.now c.args.ends.now c.args.cursors.now c.requires.chains c.args.item h, c.requires.chains.progress_len)

pub first_awaited-place-requires-clause-within : goal.first_awaited-place-requires-clause-within
first_awaited-place-requires-clause-within c = λ t h.
    let needs : List (List ℕ) = map (λ v. v.items) c.args.needs.now in
    let its : c.as_slice-needed.result.now ≡ get_or needs c.args.item [] = c.as_slice-needed.ensures.value ∙ (ap (λ v. v.items) c.index-needs-item.is ∙ sym (get_or-map (λ v. v.items) c.args.needs.now c.args.item c.index-needs-item.result [] c.requires.item_in)) in
    let inside : t < length needs = c.requires.chains.within c.args.item t (subst (λ (l : List ℕ). Contains l t) its h) in
    omega (arith, inside, c.requires.chains.ranks_len)

pub returns-clause-falls : goal.returns-clause-falls
returns-clause-falls c =
    let needs : List (List ℕ) = map (λ v. v.items) c.args.needs.now in
    let ranks = c.args.ranks.now in
    let ps = c.args.progress.now in
    let item = c.args.item in
    let place = c.first_awaited-place.result in
    let xs = c.as_slice-needed.result.now in
    let its : xs ≡ get_or needs item [] = c.as_slice-needed.ensures.value ∙ (ap (λ v. v.items) c.index-needs-item.is ∙ sym (get_or-map (λ v. v.items) c.args.needs.now item c.index-needs-item.result [] c.requires.item_in)) in
    let falls : place < length xs → Falls needs ranks item (get_or xs place 0) = λ h. Falls-one needs ranks item (get_or xs place 0) (subst (λ (l : List ℕ). Contains l (get_or xs place 0)) its (Contains-get_or xs place 0 h)) (awaited-begun ranks ps item (get_or xs place 0) c.if-not-progress-item.false (c.first_awaited-place.ensures.found h)).1 in
    if_found xs place c.copied.result (copied_at xs place c.get.result c.copied.result c.copied.ensures c.get.ensures.lookup.3) (Falls needs ranks item) falls

pub returns-clause-none : goal.returns-clause-none
returns-clause-none c = λ b.
    let needs : List (List ℕ) = map (λ v. v.items) c.args.needs.now in
    let ranks = c.args.ranks.now in
    let ps = c.args.progress.now in
    let item = c.args.item in
    let ends = c.args.ends.now in
    let cursors = c.args.cursors.now in
    let place = c.first_awaited-place.result in
    let xs = c.as_slice-needed.result.now in
    let its : xs ≡ get_or needs item [] = c.as_slice-needed.ensures.value ∙ (ap (λ v. v.items) c.index-needs-item.is ∙ sym (get_or-map (λ v. v.items) c.args.needs.now item c.index-needs-item.result [] c.requires.item_in)) in
    let h : item < length needs = omega (arith, c.requires.item_in, length-map c.args.needs.now (λ v. v.items)) in
    let passed : (k : ℕ) → get_or cursors item 0 ≤ k → k < place → k < length (get_or needs item []) → is_awaited ranks ps item (get_or (get_or needs item []) k 0) ≡ false = subst (λ (l : List ℕ). (k : ℕ) → get_or cursors item 0 ≤ k → k < place → k < length l → is_awaited ranks ps item (get_or l k 0) ≡ false) its c.first_awaited-place.ensures.passed in
    let noted : AreChains needs ranks ps ends (set cursors item place) = AreChains-passed needs ranks ps ends cursors c.requires.chains item place h passed in
    let same : get_or (set cursors item place) item 0 ≡ place = get_or-set_same cursors item place 0 (omega (arith, h, c.requires.chains.cursors_len)) in
    let none : length xs ≤ place → WaitsForNone needs ranks ps item = λ m. WaitsForNone-from_passed needs ranks ps ends (set cursors item place) noted item (omega (arith, m, same, ap length its)) in
    unless_found xs place c.copied.result (copied_at xs place c.get.result c.copied.result c.copied.ensures c.get.ensures.lookup.3) (WaitsForNone needs ranks ps item) none

pub returns-clause-chains : goal.returns-clause-chains
returns-clause-chains c =
    let needs : List (List ℕ) = map (λ v. v.items) c.args.needs.now in
    let ranks = c.args.ranks.now in
    let ps = c.args.progress.now in
    let item = c.args.item in
    let cursors = c.args.cursors.now in
    let place = c.first_awaited-place.result in
    let its : c.as_slice-needed.result.now ≡ get_or needs item [] = c.as_slice-needed.ensures.value ∙ (ap (λ v. v.items) c.index-needs-item.is ∙ sym (get_or-map (λ v. v.items) c.args.needs.now item c.index-needs-item.result [] c.requires.item_in)) in
    let h : item < length needs = omega (arith, c.requires.item_in, length-map c.args.needs.now (λ v. v.items)) in
    let passed : (k : ℕ) → get_or cursors item 0 ≤ k → k < place → k < length (get_or needs item []) → is_awaited ranks ps item (get_or (get_or needs item []) k 0) ≡ false = subst (λ (l : List ℕ). (k : ℕ) → get_or cursors item 0 ≤ k → k < place → k < length l → is_awaited ranks ps item (get_or l k 0) ≡ false) its c.first_awaited-place.ensures.passed in
    AreChains-passed needs ranks ps c.args.ends.now cursors c.requires.chains item place h passed
