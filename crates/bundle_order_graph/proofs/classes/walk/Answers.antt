use Rattle.std.proofs.Common.{rules, ◌≡◌, ℕ, ◌+◌, ◌<◌, ◌≤◌, [], Contains, map, length, true, false, List, ◌∷◌, ◌++◌, get_or, set, refl, sym, ap, ◌∙◌, subst, arith}
use Rattle.std.proofs.lemmas.Bool.{false≢true}
use Rattle.std.proofs.lemmas.List.{length-map, get_or-map}
use Rattle.std.proofs.lemmas.List.Elements.{Contains-get_or}
use Rattle.bundle_order_graph.specs.declared.classes.Visit.{Visit}
use Rattle.bundle_order_graph.specs.Classes.{IsBegun, Leads, Walking}
use Rattle.bundle_order_graph.proofs.WalkingLemmas.{begun_still, top_in, Walking-lists, Walking-passes, Walking-begins, walk_left, left-passes, left-begins}
use Rattle.bundle_order_graph.proofs.classes.walk.Goals as goal

pub loop-visit-preserved-in-Continue-1 : goal.loop-visit-preserved-in-Continue-1
loop-visit-preserved-in-Continue-1 c =
    let E : List (List ℕ) = map (λ v. v.items) c.args.edges.now in
    let rest = c.pop.new.self.items in
    let v = c.in-Some.visit in
    let begun = c.loop-visit.begun in
    let listed = c.loop-visit.listed.items in
    let walking : Walking E begun (rest ++ v ∷ []) listed = subst (λ (l : List Visit). Walking E begun l listed) c.in-Some.ensures.items c.loop-visit.invariant.walking in
    let inside : v.item < length c.args.edges.now = omega (arith, top_in E begun rest v listed walking, length-map c.args.edges.now (λ v. v.items)) in
    let row : get_or E v.item [] ≡ c.deref.result.now = get_or-map (λ v. v.items) c.args.edges.now v.item c.index-edges-visit.result [] inside ∙ (ap (λ v. v.items) (sym c.index-edges-visit.is) ∙ sym c.deref.ensures.value) in
    let past : length c.deref.result.now ≤ v.next = search rules in
    record {
      walking = subst (λ (l : List ℕ). Walking E begun rest l) (sym c.in_ok-push-in-None.ensures.items) (Walking-lists E begun rest v listed walking (omega (arith, ap length row, past)));
      kept = c.loop-visit.invariant.kept;
    }

pub bounds-begun-end : goal.bounds-begun-end
bounds-begun-end c =
    let E : List (List ℕ) = map (λ v. v.items) c.args.edges.now in
    let rest = c.pop.new.self.items in
    let v = c.in-Some.visit in
    let begun = c.loop-visit.begun in
    let listed = c.loop-visit.listed.items in
    let walking : Walking E begun (rest ++ v ∷ []) listed = subst (λ (l : List Visit). Walking E begun l listed) c.in-Some.ensures.items c.loop-visit.invariant.walking in
    let inside : v.item < length c.args.edges.now = omega (arith, top_in E begun rest v listed walking, length-map c.args.edges.now (λ v. v.items)) in
    let row : get_or E v.item [] ≡ c.deref.result.now = get_or-map (λ v. v.items) c.args.edges.now v.item c.index-edges-visit.result [] inside ∙ (ap (λ v. v.items) (sym c.index-edges-visit.is) ∙ sym c.deref.ensures.value) in
    let in_list : v.next < length c.deref.result.now = search rules in
    let read : c.in-Some-get.end.now ≡ get_or c.deref.result.now v.next 0 = search rules in
    let leads : Leads E v.item c.in-Some-get.end.now = subst (λ (l : List ℕ). Contains l c.in-Some-get.end.now) (sym row) (subst (λ x. Contains c.deref.result.now x) (sym read) (Contains-get_or c.deref.result.now v.next 0 in_list)) in
    omega (arith, c.requires.within v.item c.in-Some-get.end.now leads, walking.len)

pub bounds-begun-end-then-not-begun-end : goal.bounds-begun-end-then-not-begun-end
bounds-begun-end-then-not-begun-end c =
    let E : List (List ℕ) = map (λ v. v.items) c.args.edges.now in
    let rest = c.pop.new.self.items in
    let v = c.in-Some.visit in
    let begun = c.loop-visit.begun in
    let listed = c.loop-visit.listed.items in
    let walking : Walking E begun (rest ++ v ∷ []) listed = subst (λ (l : List Visit). Walking E begun l listed) c.in-Some.ensures.items c.loop-visit.invariant.walking in
    let inside : v.item < length c.args.edges.now = omega (arith, top_in E begun rest v listed walking, length-map c.args.edges.now (λ v. v.items)) in
    let row : get_or E v.item [] ≡ c.deref.result.now = get_or-map (λ v. v.items) c.args.edges.now v.item c.index-edges-visit.result [] inside ∙ (ap (λ v. v.items) (sym c.index-edges-visit.is) ∙ sym c.deref.ensures.value) in
    let in_list : v.next < length c.deref.result.now = search rules in
    let read : c.in-Some-get.end.now ≡ get_or c.deref.result.now v.next 0 = search rules in
    let leads : Leads E v.item c.in-Some-get.end.now = subst (λ (l : List ℕ). Contains l c.in-Some-get.end.now) (sym row) (subst (λ x. Contains c.deref.result.now x) (sym read) (Contains-get_or c.deref.result.now v.next 0 in_list)) in
    omega (arith, c.requires.within v.item c.in-Some-get.end.now leads, walking.len)

pub loop-visit-smaller-in-Continue-branch-3 : goal.loop-visit-smaller-in-Continue-branch-3
loop-visit-smaller-in-Continue-branch-3 c =
    let E : List (List ℕ) = map (λ v. v.items) c.args.edges.now in
    let rest = c.pop.new.self.items in
    let v = c.in-Some.visit in
    let begun = c.loop-visit.begun in
    let listed = c.loop-visit.listed.items in
    let walking : Walking E begun (rest ++ v ∷ []) listed = subst (λ (l : List Visit). Walking E begun l listed) c.in-Some.ensures.items c.loop-visit.invariant.walking in
    let inside : v.item < length c.args.edges.now = omega (arith, top_in E begun rest v listed walking, length-map c.args.edges.now (λ v. v.items)) in
    let row : get_or E v.item [] ≡ c.deref.result.now = get_or-map (λ v. v.items) c.args.edges.now v.item c.index-edges-visit.result [] inside ∙ (ap (λ v. v.items) (sym c.index-edges-visit.is) ∙ sym c.deref.ensures.value) in
    let in_list : v.next < length c.deref.result.now = search rules in
    let read : c.in-Some-get.end.now ≡ get_or c.deref.result.now v.next 0 = search rules in
    let end = c.in-Some-get.end.now in
    let leads : Leads E v.item end = subst (λ (l : List ℕ). Contains l end) (sym row) (subst (λ x. Contains c.deref.result.now x) (sym read) (Contains-get_or c.deref.result.now v.next 0 in_list)) in
    let known : end < length begun = omega (arith, c.requires.within v.item end leads, walking.len) in
    let later : Visit = record { item = v.item; next = v.next + 1 } in
    let first : Visit = record { item = end; next = 0 } in
    let new : get_or begun end false ≡ false = search rules in
    subst (λ (l : List Visit). walk_left E (set begun end true) l < walk_left E begun c.loop-visit.visits.items) (sym (c.in_ok-push-in-Some-get-2.ensures.items ∙ ap (λ (l : List Visit). l ++ first ∷ []) c.in_ok-push-in-Some-get.ensures.items))
    (subst (λ (l : List Visit). walk_left E (set begun end true) ((rest ++ later ∷ []) ++ first ∷ []) < walk_left E begun l) (sym c.in-Some.ensures.items) (left-begins E begun rest v (omega (arith, in_list, ap length row)) later refl end known new first refl))

pub loop-visit-preserved-in-Continue-branch-3 : goal.loop-visit-preserved-in-Continue-branch-3
loop-visit-preserved-in-Continue-branch-3 c =
    let E : List (List ℕ) = map (λ v. v.items) c.args.edges.now in
    let rest = c.pop.new.self.items in
    let v = c.in-Some.visit in
    let begun = c.loop-visit.begun in
    let listed = c.loop-visit.listed.items in
    let walking : Walking E begun (rest ++ v ∷ []) listed = subst (λ (l : List Visit). Walking E begun l listed) c.in-Some.ensures.items c.loop-visit.invariant.walking in
    let inside : v.item < length c.args.edges.now = omega (arith, top_in E begun rest v listed walking, length-map c.args.edges.now (λ v. v.items)) in
    let row : get_or E v.item [] ≡ c.deref.result.now = get_or-map (λ v. v.items) c.args.edges.now v.item c.index-edges-visit.result [] inside ∙ (ap (λ v. v.items) (sym c.index-edges-visit.is) ∙ sym c.deref.ensures.value) in
    let in_list : v.next < length c.deref.result.now = search rules in
    let read : c.in-Some-get.end.now ≡ get_or c.deref.result.now v.next 0 = search rules in
    let end = c.in-Some-get.end.now in
    let leads : Leads E v.item end = subst (λ (l : List ℕ). Contains l end) (sym row) (subst (λ x. Contains c.deref.result.now x) (sym read) (Contains-get_or c.deref.result.now v.next 0 in_list)) in
    let known : end < length E = c.requires.within v.item end leads in
    let later : Visit = record { item = v.item; next = v.next + 1 } in
    let first : Visit = record { item = end; next = 0 } in
    let unbegun : get_or begun end false ≡ false = search rules in
    let new : IsBegun begun end → ⊥ = λ b. false≢true (sym unbegun ∙ b) in
    record {
      walking = subst (λ (l : List Visit). Walking E (set begun end true) l listed) (sym (c.in_ok-push-in-Some-get-2.ensures.items ∙ ap (λ (l : List Visit). l ++ first ∷ []) c.in_ok-push-in-Some-get.ensures.items)) (Walking-begins E begun rest v listed walking end (omega (arith, in_list, ap length row)) (read ∙ ap (λ (l : List ℕ). get_or l v.next 0) (sym row)) first later refl known new refl);
      kept = λ t b. begun_still begun end (omega (arith, known, walking.len)) t (c.loop-visit.invariant.kept t b);
    }

pub loop-visit-smaller : goal.loop-visit-smaller
loop-visit-smaller c =
    let E : List (List ℕ) = map (λ v. v.items) c.args.edges.now in
    let rest = c.pop.new.self.items in
    let v = c.in-Some.visit in
    let begun = c.loop-visit.begun in
    let listed = c.loop-visit.listed.items in
    let walking : Walking E begun (rest ++ v ∷ []) listed = subst (λ (l : List Visit). Walking E begun l listed) c.in-Some.ensures.items c.loop-visit.invariant.walking in
    let inside : v.item < length c.args.edges.now = omega (arith, top_in E begun rest v listed walking, length-map c.args.edges.now (λ v. v.items)) in
    let row : get_or E v.item [] ≡ c.deref.result.now = get_or-map (λ v. v.items) c.args.edges.now v.item c.index-edges-visit.result [] inside ∙ (ap (λ v. v.items) (sym c.index-edges-visit.is) ∙ sym c.deref.ensures.value) in
    let in_list : v.next < length c.deref.result.now = search rules in
    let later : Visit = record { item = v.item; next = v.next + 1 } in
    subst (λ (l : List Visit). walk_left E begun l < walk_left E begun c.loop-visit.visits.items) (sym c.in_ok-push-in-Some-get.ensures.items)
    (subst (λ (l : List Visit). walk_left E begun (rest ++ later ∷ []) < walk_left E begun l) (sym c.in-Some.ensures.items) (left-passes E begun rest v (omega (arith, in_list, ap length row)) later refl))

pub loop-visit-preserved : goal.loop-visit-preserved
loop-visit-preserved c =
    let E : List (List ℕ) = map (λ v. v.items) c.args.edges.now in
    let rest = c.pop.new.self.items in
    let v = c.in-Some.visit in
    let begun = c.loop-visit.begun in
    let listed = c.loop-visit.listed.items in
    let walking : Walking E begun (rest ++ v ∷ []) listed = subst (λ (l : List Visit). Walking E begun l listed) c.in-Some.ensures.items c.loop-visit.invariant.walking in
    let inside : v.item < length c.args.edges.now = omega (arith, top_in E begun rest v listed walking, length-map c.args.edges.now (λ v. v.items)) in
    let row : get_or E v.item [] ≡ c.deref.result.now = get_or-map (λ v. v.items) c.args.edges.now v.item c.index-edges-visit.result [] inside ∙ (ap (λ v. v.items) (sym c.index-edges-visit.is) ∙ sym c.deref.ensures.value) in
    let in_list : v.next < length c.deref.result.now = search rules in
    let read : c.in-Some-get.end.now ≡ get_or c.deref.result.now v.next 0 = search rules in
    let end = c.in-Some-get.end.now in
    let later : Visit = record { item = v.item; next = v.next + 1 } in
    let there : IsBegun begun end = search rules in
    record {
      walking = subst (λ (l : List Visit). Walking E begun l listed) (sym c.in_ok-push-in-Some-get.ensures.items) (Walking-passes E begun rest v listed walking end (omega (arith, in_list, ap length row)) (read ∙ ap (λ (l : List ℕ). get_or l v.next 0) (sym row)) later refl there);
      kept = c.loop-visit.invariant.kept;
    }
