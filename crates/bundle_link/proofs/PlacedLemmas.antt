-- The first fault of modules by their places, from the faults that linking tells and from doubled declarations.
-- The fault that is told by places is told by numbers.
-- A program by the places of its modules is alike.
use Rattle.std.proofs.Common.{◌≡◌, ℕ, ◌<◌, ◌≤◌, ◌⊎◌, inl, inr, List, Some, None, refl, sym, ap, ◌∙◌, subst, arith, ◌≢◌, zero, suc, [], ◌∷◌, Option, Contains, filter_map, ◌↔◌, length}
use Rattle.std.specs.Prelude.{slice_get, option_map, unwrap_or}
use Rattle.std.proofs.lemmas.Option.{none-some, same_Some}
use Rattle.std.specs.List.{cons_option}
use Rattle.std.proofs.lemmas.Bool.{cases_lt}
use Rattle.std.specs.Option.{option_and_then}
use Rattle.bundle_tree_names.specs.FileName.{Name}
use Rattle.bundle_rules.specs.Scopes.{ModuleKind}
use Rattle.bundle_rules.specs.Declarations.{Declared}
use Rattle.bundle_rules.specs.Doubled.{first_doubled}
use Rattle.bundle_rules.specs.Program.{Program, tree_of, IsReached}
use Rattle.bundle_rules.specs.Meaning.{HasKind, is_es, is_common_js, IsMeant, Of}
use Rattle.bundle_rules.specs.Faults as g
use Rattle.bundle_rules.specs.Faults.{DoubledDeclaration, JudgedNotAfter, ProgramFault, earlier_stage, earlier_module, same_module}
use Rattle.bundle_rules.specs.Linking.{Namespace}
use Rattle.bundle_rules.specs.Nodes.{Text}
use Rattle.bundle_rules.specs.Judging.{requests_in}
use Rattle.bundle_link_index.proofs.ProgramLemmas.{got}
use Rattle.bundle_link_index.specs.Numbered.{HasNoDoubles}
use Rattle.bundle_link_targets.specs.Judged.{IsStageJudged, fault_says, IsFirst}
use Rattle.bundle_link_targets.specs.declared.target.LinkFault.{LinkFault}
use Rattle.bundle_link_targets.proofs.JudgedLemmas.{either as order}
use Rattle.bundle_link.specs.First.{IsFirstOf, HasNoFault}
use Rattle.bundle_link.specs.Alike.{IsAlike, IsModuleAt}
use Rattle.bundle_link.specs.Leads.{module_place}
use Rattle.bundle_link.specs.Told.{IsFirstTold, IsFaultTold}
use Rattle.bundle_link.proofs.AlikeLemmas.{flip, reached_on, some_back, some_on}
use Rattle.bundle_link.proofs.FaultLemmas.{fault_on}
use Rattle.bundle_link.proofs.NumberLemmas.{at-place, place-there, held, place-of}

-- ---- doubled declarations
-- a module has one kind
one_kind : {q : Program} {m : ℕ} {a b : ModuleKind} → HasKind q m a → HasKind q m b → a ≡ b
one_kind (is_es es) (is_es also) = refl
one_kind (is_es es) (is_common_js common) = absurd (es common)
one_kind (is_common_js common) (is_es es) = absurd (es common)
one_kind (is_common_js common) (is_common_js also) = refl

-- a name is declared twice in the module, the first time at this place
record IsDoubledAt (q : Program) (m place : ℕ) : Type 0 where
  kind : ModuleKind
  declared : Declared
  has_kind : HasKind q m kind
  doubled : first_doubled kind (tree_of q m) ≡ Some declared
  at : declared.place ≡ place

-- the stages: literal calls, doubled declarations, and what linking finds
data StageOf (q : Program) (m stage place : ℕ) : Type 0 where
  of_calls : stage < 2 → StageOf q m stage place
  of_doubled : stage ≡ 2 → IsDoubledAt q m place → StageOf q m stage place
  of_links : 3 ≤ stage → stage < 9 → StageOf q m stage place

stage_of : {q : Program} {file : Name} {m stage place : ℕ} {f : g.Fault} → ProgramFault q file m stage place f → StageOf q m stage place
stage_of (g.required_entry call stands leads) = of_calls (omega arith)
stage_of (g.required_es_module call stands leads es) = of_calls (omega arith)
stage_of (g.doubled_declaration {kind = kind} d is doubled) = of_doubled refl (record { kind = kind; declared = d; has_kind = is; doubled = doubled; at = refl })
stage_of (g.await_in_common_js common awaits) = of_links (omega arith) (omega arith)
stage_of (g.star_of_common_js at leads common) = of_links (omega arith) (omega arith)
stage_of (g.name asked at leads wrong) = of_links (omega arith) (omega arith)
stage_of (g.namespace_over_external_star meant stars) = of_links (omega arith) (omega arith)
stage_of (g.external_under_iife iife at outside) = of_links (omega arith) (omega arith)
stage_of (g.arguments_under_iife iife es free) = of_links (omega arith) (omega arith)

-- none of the first n modules declares a name twice
abbrev pub HasNoDoubled : Program → ℕ → Type 0
HasNoDoubled q n = (j : ℕ) (k : ModuleKind) → j < n → HasKind q j k → first_doubled k (tree_of q j) ≡ None

undoubled : {q : Program} {n : ℕ} → HasNoDoubled q n → (j place : ℕ) → j < n → IsDoubledAt q j place → ⊥
undoubled {q = q} none j place below is = none-some is.declared (sym (none j is.kind below is.has_kind) ∙ is.doubled)

-- ---- the first fault
module _ (q : Program) (n : ℕ) (list : List ℕ) (all : (j : ℕ) → j < n → slice_get list j ≡ Some j) (only : (j m : ℕ) → slice_get list j ≡ Some m → (m ≡ j) × (j < n)) where
  pub calls_first : (fault : LinkFault) → IsStageJudged q list 0 2 (Some fault) → IsFirstOf q n fault.which (λ file. fault_says file fault)
  calls_first fault first =
      let its = only first.i fault.which first.listed in
      record {
        within = omega (arith, its.0, its.1);
        stage = first.stage;
        place = first.place;
        there = first.there;
        first = λ j other its_place file f below there. elim (stage_of there) [
          | of_calls early ↦ subst (λ i. JudgedNotAfter first.stage i first.place other j its_place) (sym its.0) (first.first j j other its_place file f (omega arith) early (all j below) there)
          | of_doubled is doubled ↦ earlier_stage (let e = first.ended in omega (arith, e, is))
          | of_links late ended ↦ earlier_stage (let e = first.ended in omega (arith, e, late))
        ];
      }

  -- no call is at fault
  no_call : IsStageJudged q list 0 2 None → (j stage place : ℕ) (file : Name) (f : g.Fault) → j < n → stage < 2 → ProgramFault q file j stage place f → ⊥
  no_call none j stage place file f below early there = none j j stage place file f (omega arith) early (all j below) there

  pub doubled_first : IsStageJudged q list 0 2 None → (m : ℕ) (kind : ModuleKind) (d : Declared) → m < n → HasKind q m kind → first_doubled kind (tree_of q m) ≡ Some d → HasNoDoubled q m → IsFirstOf q n m (λ file. DoubledDeclaration file d.name.sym)
  doubled_first none m kind d within has_kind doubled before = record {
    within = within;
    stage = 2;
    place = d.place;
    there = λ file. g.doubled_declaration d has_kind doubled;
    first = λ j other its file f below there. elim (stage_of there) [
      | of_calls early ↦ absurd (no_call none j other its file f below early there)
      | of_doubled is its_doubled ↦ subst (λ stage. JudgedNotAfter 2 m d.place stage j its) (sym is) (by j its its_doubled (order j m))
      | of_links late ended ↦ earlier_stage (omega (arith, late))
    ];
  }
    where
      same_place : (its : ℕ) → IsDoubledAt q m its → d.place ≡ its
      same_place its is = ap (λ (x : Declared). x.place) (same_Some d is.declared (sym doubled ∙ ap (λ k. first_doubled k (tree_of q m)) (one_kind has_kind is.has_kind) ∙ is.doubled)) ∙ is.at

      by : (j its : ℕ) → IsDoubledAt q j its → (j < m) ⊎ ((j ≡ m) ⊎ (m < j)) → JudgedNotAfter 2 m d.place 2 j its
      by j its is (inl less) = absurd (undoubled before j its less is)
      by j its is (inr (inl same)) = subst (λ i. JudgedNotAfter 2 m d.place 2 i its) (sym same) (same_module (let e = same_place its (subst (λ i. IsDoubledAt q i its) same is) in omega (arith, e)))
      by j its is (inr (inr more)) = earlier_module more

  pub links_first : (fault : LinkFault) → IsStageJudged q list 0 2 None → HasNoDoubled q n → IsStageJudged q list 3 9 (Some fault) → IsFirstOf q n fault.which (λ file. fault_says file fault)
  links_first fault none undoubled_all first =
      let its = only first.i fault.which first.listed in
      record {
        within = omega (arith, its.0, its.1);
        stage = first.stage;
        place = first.place;
        there = first.there;
        first = λ j other its_place file f below there. elim (stage_of there) [
          | of_calls early ↦ absurd (no_call none j other its_place file f below early there)
          | of_doubled is doubled ↦ absurd (undoubled undoubled_all j its_place below doubled)
          | of_links late ended ↦ subst (λ i. JudgedNotAfter first.stage i first.place other j its_place) (sym its.0) (first.first j j other its_place file f late ended (all j below) there)
        ];
      }

  pub none_of_all : IsStageJudged q list 0 2 None → HasNoDoubled q n → IsStageJudged q list 3 9 None → HasNoFault q n
  none_of_all calls undoubled_all links = λ j stage place file f below there. elim (stage_of there) [
    | of_calls early ↦ no_call calls j stage place file f below early there
    | of_doubled is doubled ↦ undoubled undoubled_all j place below doubled
    | of_links late ended ↦ links j j stage place file f late ended (all j below) there
  ]

-- ---- stages
stage_below : {p : Program} {file : Name} {m stage place : ℕ} {f : g.Fault} → ProgramFault p file m stage place f → stage < 9
stage_below (g.required_entry call stands leads) = omega arith
stage_below (g.required_es_module call stands leads es) = omega arith
stage_below (g.doubled_declaration d kind doubled) = omega arith
stage_below (g.await_in_common_js common awaits) = omega arith
stage_below (g.star_of_common_js at leads common) = omega arith
stage_below (g.name asked at leads wrong) = omega arith
stage_below (g.namespace_over_external_star meant stars) = omega arith
stage_below (g.external_under_iife iife at outside) = omega arith
stage_below (g.arguments_under_iife iife es free) = omega arith

-- ---- the list by places
placed_on : (ids list : List ℕ) → ((n : ℕ) → Contains list n → Contains ids n) → (j n : ℕ) → slice_get list j ≡ Some n → (k : ℕ) × IsModuleAt ids n k × (slice_get (filter_map (module_place ids) list) j ≡ Some k)
placed_on ids [] inside j n at = absurd (none-some n at)
placed_on ids (m ∷ list) inside zero n at =
    let k = place-there ids m (inside m (0, omega arith, refl)) in
    (k.0, at-place ids n k.0 (ap (module_place ids) (sym (same_Some m n at)) ∙ k.1), ap (λ o. slice_get (cons_option o (filter_map (module_place ids) list)) 0) k.1)
placed_on ids (m ∷ list) inside (suc j) n at =
    let k = place-there ids m (inside m (0, omega arith, refl)) in
    let more = placed_on ids list (λ x there. inside x (suc there.0, omega (arith, there.1), there.2)) j n at in
    (more.0, more.1, ap (λ o. slice_get (cons_option o (filter_map (module_place ids) list)) (suc j)) k.1 ∙ more.2)

placed_back : (ids list : List ℕ) → ((n : ℕ) → Contains list n → Contains ids n) → (j k : ℕ) → slice_get (filter_map (module_place ids) list) j ≡ Some k → (n : ℕ) × IsModuleAt ids n k × (slice_get list j ≡ Some n)
placed_back ids [] inside j k at = absurd (none-some k at)
placed_back ids (m ∷ list) inside zero k at =
    let l = place-there ids m (inside m (0, omega arith, refl)) in
    let same : l.0 ≡ k = same_Some l.0 k (sym (ap (λ o. slice_get (cons_option o (filter_map (module_place ids) list)) 0) l.1) ∙ at) in
    (m, subst (IsModuleAt ids m) same (at-place ids m l.0 l.1), refl)
placed_back ids (m ∷ list) inside (suc j) k at =
    let l = place-there ids m (inside m (0, omega arith, refl)) in
    placed_back ids list (λ x there. inside x (suc there.0, omega (arith, there.1), there.2)) j k (sym (ap (λ o. slice_get (cons_option o (filter_map (module_place ids) list)) (suc j)) l.1) ∙ at)

-- ---- what is told
module _ (p q : Program) (ids : List ℕ) (w : IsAlike p q (IsModuleAt ids))
    (meant_on : (a b : ℕ) → IsModuleAt ids a b → IsMeant p (Of (Namespace a)) → IsMeant q (Of (Namespace b)))
    (meant_back : (a b : ℕ) → IsModuleAt ids b a → IsMeant q (Of (Namespace a)) → IsMeant p (Of (Namespace b)))
    (list : List ℕ) (inside : (n : ℕ) → Contains list n → Contains ids n) where
  abbrev places : List ℕ
  places = filter_map (module_place ids) list

  -- a fault by numbers is one by places, and one by places is one by numbers
  by_places : (j n stage place : ℕ) (file : Name) (f : g.Fault) → slice_get list j ≡ Some n → ProgramFault p file n stage place f → (k : ℕ) × (slice_get places j ≡ Some k) × ProgramFault q file k stage place f
  by_places j n stage place file f at there =
      let k = placed_on ids list inside j n at in
      (k.0, k.2, fault_on p q (IsModuleAt ids) w meant_on there k.0 k.1)

  by_numbers : (m k stage place : ℕ) (file : Name) (f : g.Fault) → IsModuleAt ids m k → ProgramFault q file k stage place f → ProgramFault p file m stage place f
  by_numbers m k stage place file f at there = fault_on q p (λ a b. IsModuleAt ids b a) (flip w) meant_back there m at

  told_first : (fault : LinkFault) (from below : ℕ) → IsFirst q places from below fault
      → ((stage : ℕ) → from ≤ stage → stage < below → stage ≢ 2)
      → ((j n other its : ℕ) (file : Name) (f : g.Fault) → other ≢ 2 → slice_get places j ≡ Some n → ProgramFault q file n other its f → (other < from → ⊥) × ((below ≤ other) ⊎ (other < below)))
      → IsFirstTold p ids list fault
  told_first fault from below first apart others =
      let m = placed_back ids list inside first.i fault.which first.listed in
      let checked = apart first.stage first.begun first.ended in
      record {
        m = m.0;
        at = m.1;
        i = first.i;
        listed = m.2;
        stage = first.stage;
        checked = checked;
        place = first.place;
        there = λ file. by_numbers m.0 fault.which first.stage first.place file (fault_says file fault) m.1 (first.there file);
        first = λ j n other its file f two at there.
            let r = by_places j n other its file f at there in
            let o = others j r.0 other its file f two r.1 r.2 in
            elim o.1 [
              | inl later ↦ earlier_stage (let e = first.ended in omega (arith, e, later))
              | inr less ↦ first.first j r.0 other its file f (at_least from other o.0) less r.1 r.2
            ];
      }
    where
      at_least : (a b : ℕ) → (b < a → ⊥) → a ≤ b
      at_least a b not_less = elim (cases_lt b a) [ inl less ↦ absurd (not_less less) | inr least ↦ least ]

  pub told_calls : (calls : Option LinkFault) (fault : LinkFault) → calls ≡ Some fault → IsStageJudged q places 0 2 calls → IsFaultTold p ids list (Some fault)
  told_calls calls fault is judged =
      told_first fault 0 2 (subst (IsStageJudged q places 0 2) is judged) (λ stage a b two. omega (arith, b, two))
      (λ j n other its file f two at there. ((λ less. omega (arith, less)), from_two other))
    where
      from_two : (other : ℕ) → (2 ≤ other) ⊎ (other < 2)
      from_two zero = inr (omega arith)
      from_two (suc zero) = inr (omega arith)
      from_two (suc (suc n)) = inl (omega arith)

  -- a fault that is found but for doubled declarations is of one of the two ranges
  in_range : (stage : ℕ) → stage ≢ 2 → stage < 9 → (stage < 2) ⊎ (3 ≤ stage)
  in_range zero two below = inl (omega arith)
  in_range (suc zero) two below = inl (omega arith)
  in_range (suc (suc zero)) two below = absurd (two refl)
  in_range (suc (suc (suc n))) two below = inr (omega arith)

  pub told_links : (calls links : Option LinkFault) → calls ≡ None → IsStageJudged q places 0 2 calls → IsStageJudged q places 3 9 links → IsFaultTold p ids list links
  told_links calls None none first judged = λ n stage place file f two there fault.
      let j = got list n there in
      let r = by_places j.0 n stage place file f j.1 fault in
      elim (in_range stage two (stage_below fault)) [
        | inl early ↦ subst (IsStageJudged q places 0 2) none first j.0 r.0 stage place file f (omega arith) early r.1 r.2
        | inr late ↦ judged j.0 r.0 stage place file f late (stage_below fault) r.1 r.2
      ]
  told_links calls (Some fault) none first judged =
      told_first fault 3 9 judged (λ stage a b two. omega (arith, a, two))
      (λ j n other its file f two at there. (
        (λ less. subst (IsStageJudged q places 0 2) none first j n other its file f (omega arith) (early other two less) at there),
        inr (stage_below there),
      ))
    where
      early : (other : ℕ) → other ≢ 2 → other < 3 → other < 2
      early zero two less = omega arith
      early (suc zero) two less = omega arith
      early (suc (suc zero)) two less = absurd (two refl)
      early (suc (suc (suc n))) two less = absurd (omega (arith, less))

-- ---- placed

-- the program, where its modules stand at the places of these numbers
abbrev pub placed : Program → List ℕ → (ℕ → Text → Option ℕ) → ℕ → Program
placed p ids leads entry = record {
  settings = p.settings;
  entry = entry;
  count = length ids;
  files = λ i. option_and_then p.files (slice_get ids i);
  modules = λ i. option_and_then p.modules (slice_get ids i);
  leads = leads;
}

-- what is known of it
pub record IsPlaced (p : Program) (ids : List ℕ) (leads : ℕ → Text → Option ℕ) (entry : ℕ) : Type 0 where
  pub once : HasNoDoubles ids
  pub begins : slice_get ids entry ≡ Some p.entry
  pub there : (m d : ℕ) (s : Text) → Contains ids m → Contains (requests_in p.settings (tree_of p m)) s → p.leads m s ≡ Some d → Contains ids d
  pub leads_on : (i m : ℕ) (s : Text) → slice_get ids i ≡ Some m → Contains (requests_in p.settings (tree_of p m)) s → leads i s ≡ option_and_then (module_place ids) (p.leads m s)

module _ (p : Program) (ids : List ℕ) (leads : ℕ → Text → Option ℕ) (entry : ℕ) (w : IsPlaced p ids leads entry) where
  pub same_tree : (m i : ℕ) → slice_get ids i ≡ Some m → tree_of p m ≡ tree_of (placed p ids leads entry) i
  same_tree m i at = ap (λ o. unwrap_or (option_map (λ loaded. loaded.items) (option_and_then p.modules o)) []) (sym at)

  pub lead_back : (o : Option ℕ) (d : ℕ) → option_and_then (module_place ids) o ≡ Some d → (c : ℕ) × (slice_get ids d ≡ Some c) × (o ≡ Some c)
  lead_back None d is = absurd (none-some d is)
  lead_back (Some c) d is = (c, at-place ids c d is, refl)

  pub is_alike : IsAlike p (placed p ids leads entry) (IsModuleAt ids)
  is_alike = record {
    one = λ m i j h k. w.once i j m h k;
    other = λ i m n h k. same_Some m n (sym h ∙ k);
    require = refl;
    external = refl;
    iife = refl;
    in_standard_order = refl;
    entry = w.begins;
    tree = same_tree;
    leads = λ m i n s at asked e. let k = place-there ids n (w.there m n s (held ids m i at) asked e) in (k.0, at-place ids n k.0 k.1, w.leads_on i m s at asked ∙ ap (option_and_then (module_place ids)) e ∙ k.1);
    back = λ m i d s at asked e. lead_back (p.leads m s) d (sym (w.leads_on i m s at asked) ∙ e);
  }

  pub placed_reached : (list : List ℕ) → ((n : ℕ) → Contains list n ↔ IsReached p n) → (n : ℕ) → Contains (filter_map (module_place ids) list) n ↔ IsReached (placed p ids leads entry) n
  placed_reached list reached n = (forth, back)
    where
      q : Program
      q = placed p ids leads entry

      forth : Contains (filter_map (module_place ids) list) n → IsReached q n
      forth there =
          let k = some_back (module_place ids) list n there in
          let l = reached_on p q (IsModuleAt ids) is_alike k.0 ((reached k.0).0 k.1) in
          subst (IsReached q) (w.once l.0 n k.0 l.1 (at-place ids k.0 n k.2)) l.2

      back : IsReached q n → Contains (filter_map (module_place ids) list) n
      back is =
          let l = reached_on q p (λ a b. IsModuleAt ids b a) (flip is_alike) n is in
          some_on (module_place ids) list l.0 n ((reached l.0).1 l.2) (place-of ids l.0 n w.once l.1)
