-- The requests of a module are of no external, and are told by places.
-- What is told by places is told by numbers.
use Rattle.std.proofs.Common.{◌≡◌, inl, inr, ℕ, Bool, true, false, not, List, [], ◌∷◌, Option, Some, None, Contains, refl, sym, ap, ◌∙◌, cond, map, filter, filter_map, arith, zero, suc, ◌||◌, ap₂, subst, nat_eq, eq-eqb}
use Rattle.std.specs.Prelude.{if◌then◌else◌, IsTrue, codes, option_map, slice_get}
use Rattle.std.specs.List.{cons_option, list_any}
use Rattle.std.proofs.lemmas.List.Elements.{Contains-append_cases}
use Rattle.std.proofs.lemmas.Bool.{false≢true}
use Rattle.std.proofs.lemmas.Option.{none-some}
use Rattle.bundle_syntax.specs.Item.{Item}
use Rattle.bundle_order_graph.proofs.OrderLemmas.{not-true as false-from}
use Rattle.bundle_rules.specs.Nodes.{Text, has_text, numbers_once}
use Rattle.bundle_rules.specs.Bound.{is_free, has_free}
use Rattle.bundle_rules.specs.Entries.{Settings, RequireCall, declared_requests, linked_calls, require_calls, requests_of, ExportEntry, exports_of}
use Rattle.bundle_rules.specs.Program.{Program, tree_of, resolves, requested, Requests, is_external}
use Rattle.bundle_rules.specs.Linking.{exports, IsCommonJs, Target, Declared, Namespace, External, CommonJs, Origin, Gives, declaration, namespace_import, taken, given_on, starred, HasExternalStar, own, through}
use Rattle.bundle_rules.specs.Tables.{IsResolution, Nothing, TellsCommonJs}
use Rattle.bundle_link_index.proofs.ProgramLemmas.{map_back, once_back}
use Rattle.bundle_link_index.specs.Says.{target_of}
use Rattle.bundle_link_index.specs.declared.target.TargetRef.{TargetRef as Place}
use Rattle.bundle_link_index.specs.declared.target.TargetRef.TheVariants as v
use Rattle.bundle_link_targets.proofs.CalledLemmas.{numbers-on as numbers_once_on}
use Rattle.bundle_link_targets.specs.Linked.{found_says}
use Rattle.bundle_link_targets.specs.declared.target.ResolvedTo.{ResolvedTo as Found}
use Rattle.bundle_link_targets.specs.declared.target.ResolvedTo.TheVariants
use Rattle.bundle_link.proofs.AlikeLemmas as k
use Rattle.bundle_link.proofs.AlikeLemmas.{later, first_or_later, some_on, AlikeTarget, flip, linked_on, missing_on, stars_on, two_on, common_js_on}
use Rattle.bundle_link.specs.Alike.{IsAlike, IsModuleAt}
use Rattle.bundle_link.specs.Resolutions.{common_js, single_target, resolution_read, target_read, two}

-- ---- request
pub passes : {A : Type 0} (test : A → Bool) (xs : List A) (x : A) → Contains (filter test xs) x → test x ≡ true
passes test [] x (i, h, e) = absurd (omega arith)
passes {A = A} test (a ∷ xs) x there = by (test a) refl there (passes test xs x)
  where
    by : (b : Bool) → test a ≡ b → Contains (cond b (a ∷ filter test xs) (filter test xs)) x → (Contains (filter test xs) x → test x ≡ true) → test x ≡ true
    by true is there ih = elim (first_or_later a (filter test xs) x there) [
      | inl e ↦ ap test (sym e) ∙ is
      | inr rest ↦ ih rest
    ]
    by false is there ih = ih there

no_external : (settings : Settings) (free : ℕ → Bool) (tree : List Item) (s : Text) → Contains (requests_of settings free tree) s → has_text s settings.external ≡ false
no_external settings free tree s there = elim (Contains-append_cases _ _ s (once_back _ s there)) [
  | inl declared ↦ false-from (has_text s settings.external) (passes (λ s. not (has_text s settings.external)) (declared_requests tree) s declared)
  | inr called ↦ let r = map_back (λ call. call.specifier) (linked_calls settings free tree) s called in
      ap (λ t. has_text t settings.external) (sym r.2) ∙ called_by settings.require r.0 r.1
]
  where
    called_by : (b : Bool) (call : RequireCall) → Contains (if b then filter (λ call. not (has_text call.specifier settings.external)) (require_calls free tree) else []) call → has_text call.specifier settings.external ≡ false
    called_by true call is = false-from (has_text call.specifier settings.external) (passes (λ call. not (has_text call.specifier settings.external)) (require_calls free tree) call is)
    called_by false call (i, h, e) = absurd (omega arith)

-- lists of what is told of each element
some_same : {A B : Type 0} (f g : A → Option B) (xs : List A) → ((x : A) → Contains xs x → f x ≡ g x) → filter_map f xs ≡ filter_map g xs
some_same f g [] same = refl
some_same f g (x ∷ xs) same = ap (λ o. cons_option o (filter_map f xs)) (same x (0, omega arith, refl)) ∙ ap (cons_option (g x)) (some_same f g xs (λ y there. same y (later x xs y there)))

some_map : {A B C : Type 0} (f : B → Option C) (g : A → B) (xs : List A) → filter_map (λ x. f (g x)) xs ≡ filter_map f (map g xs)
some_map f g [] = refl
some_map f g (x ∷ xs) = ap (cons_option (f (g x))) (some_map f g xs)

-- what a module requests, told otherwise
pub requested_by : {A : Type 0} (p : Program) (m : ℕ) (text : A → Text) (requests : List A) (tell : Text → Option ℕ) → map text requests ≡ requests_of p.settings (is_free (tree_of p m)) (tree_of p m)
    → ((s : Text) → tell s ≡ p.leads m s) → numbers_once (filter_map (λ r. tell (text r)) requests) ≡ requested p m
requested_by p m text requests tell all same = ap numbers_once (some_map tell text requests ∙ ap (filter_map tell) all ∙ some_same tell (resolves p m) _ single_target)
  where
    single_target : (s : Text) → Contains (requests_of p.settings (is_free (tree_of p m)) (tree_of p m)) s → tell s ≡ resolves p m s
    single_target s there = same s ∙ ap (λ b. if b then None else p.leads m s) (sym (no_external p.settings (is_free (tree_of p m)) (tree_of p m) s there))

-- where a request leads, the module there is requested
pub requests_to : (p : Program) (m d : ℕ) (s : Text) → Contains (requests_of p.settings (is_free (tree_of p m)) (tree_of p m)) s → p.leads m s ≡ Some d → Requests p m d
requests_to p m d s there leads =
    numbers_once_on _ d (some_on (resolves p m) (requests_of p.settings (is_free (tree_of p m)) (tree_of p m)) s d there (ap (λ b. if b then None else p.leads m s) (no_external p.settings (is_free (tree_of p m)) (tree_of p m) s there) ∙ leads))

-- ---- resolved

-- a target with places, as it is told with these numbers
abbrev among : List ℕ → Target → Option Target
among ids (Declared m x) = option_map (λ id. Declared id x) (slice_get ids m)
among ids (Namespace m) = option_map (λ id. Namespace id) (slice_get ids m)
among ids (External s what) = Some (External s what)
among ids (CommonJs taker m what) = common_js (slice_get ids taker) (slice_get ids m) what

target_read-among : (ids : List ℕ) (target : Place) → target_read ids target ≡ among ids (target_of target)
target_read-among ids (v.Declared m x) = refl
target_read-among ids (v.Namespace m) = refl
target_read-among ids (v.External s what) = refl
target_read-among ids (v.CommonJs taker m what) = refl

among-alike : (ids : List ℕ) {t u : Target} → AlikeTarget (λ a b. IsModuleAt ids b a) t u → among ids t ≡ Some u
among-alike ids (k.declared {x = x} r) = ap (option_map (λ id. Declared id x)) r
among-alike ids (k.namespace r) = ap (option_map (λ id. Namespace id)) r
among-alike ids k.external = refl
among-alike ids (k.common_js {what = what} r h) = ap₂ (λ a b. common_js a b what) r h

module _ (p q : Program) (ids : List ℕ) (w : IsAlike p q (IsModuleAt ids)) where
  back : IsAlike q p (λ a b. IsModuleAt ids b a)
  back = flip w

  pub resolved_on : (m place : ℕ) (x : Text) → IsModuleAt ids m place → (found : Found) → IsResolution q place x (found_says found) → IsResolution p m x (resolution_read ids found)
  resolved_on m place x at (TheVariants.One target) is =
      let l = linked_on q p (λ a b. IsModuleAt ids b a) back place m x (target_of target) at is in
      subst (λ o. IsResolution p m x (single_target o)) (sym (target_read-among ids target ∙ among-alike ids l.1)) l.2
  resolved_on m place x at TheVariants.None is = (
    missing_on q p (λ a b. IsModuleAt ids b a) back place m x at is.0,
    elim is.1 [ inl e ↦ inl e | inr bare ↦ inr (λ star. bare (stars_on p q (IsModuleAt ids) w m place at star)) ],
  )
  resolved_on m place x at (TheVariants.Two first second) is =
      let l = two_on q p (λ a b. IsModuleAt ids b a) back place m x (target_of first) (target_of second) at is in
      subst (λ o. IsResolution p m x (two o (target_read ids second))) (sym (target_read-among ids first ∙ among-alike ids l.2))
      (subst (λ o. IsResolution p m x (two (Some l.0) o)) (sym (target_read-among ids second ∙ among-alike ids l.3)) l.4)
  resolved_on m place x at TheVariants.ExternalStar is = (
    missing_on q p (λ a b. IsModuleAt ids b a) back place m x at is.0,
    is.1,
    stars_on q p (λ a b. IsModuleAt ids b a) back place m at is.2,
  )

  pub kind_on : (m place : ℕ) (answer : Bool) → IsModuleAt ids m place → TellsCommonJs q place answer → TellsCommonJs p m answer
  kind_on m place answer at tells = (
    λ is. common_js_on q p (λ a b. IsModuleAt ids b a) back place m at (tells.0 is),
    λ is. tells.1 (common_js_on p q (IsModuleAt ids) w m place at is),
  )

-- ---- a module that is not there
pub not_among : (ids : List ℕ) (m : ℕ) → list_any (nat_eq m) ids ≡ false → Contains ids m → ⊥
not_among [] m none (i, h, e) = absurd (omega arith)
not_among (n ∷ ids) m none (zero, h, e) = false≢true (sym none ∙ ap (λ b. b || list_any (nat_eq m) ids) (eq-eqb m n (sym e)))
not_among (n ∷ ids) m none (suc i, h, e) = by (nat_eq m n) none (not_among ids m)
  where
    by : (b : Bool) → (b || list_any (nat_eq m) ids) ≡ false → (list_any (nat_eq m) ids ≡ false → Contains ids m → ⊥) → ⊥
    by true none ih = false≢true (sym none)
    by false none ih = ih none (i, omega arith, e)

no_entry : (p : Program) (m : ℕ) (entry : ExportEntry) → tree_of p m ≡ [] → Contains (exports p m) entry → ⊥
no_entry p m entry none there = by (subst (λ (t : List Item). Contains (exports_of t) entry) none there)
  where
    by : Contains (exports_of []) entry → ⊥
    by (i, h, e) = absurd (omega arith)

none_given : {p : Program} {m : ℕ} {x : Text} {t : Target} {origin : Option Origin} → Gives p m x t origin → tree_of p m ≡ [] → ⊥
none_given {p = p} {m = m} (declaration stands none) bare = no_entry p m _ bare stands
none_given {p = p} {m = m} (namespace_import entry stands bound takes) bare = no_entry p m _ bare stands
none_given {p = p} {m = m} (taken stands takes) bare = no_entry p m _ bare stands
none_given {p = p} {m = m} (given_on stands leads more) bare = no_entry p m _ bare stands
none_given {p = p} {m = m} (starred none named stands leads more) bare = no_entry p m _ bare stands

none_starred : {p : Program} {m : ℕ} {s : Text} → HasExternalStar p m s → tree_of p m ≡ [] → ⊥
none_starred {p = p} {m = m} (own stands e) bare = no_entry p m _ bare stands
none_starred {p = p} {m = m} (through stands leads more) bare = no_entry p m _ bare stands

pub none_resolved : (p : Program) (m : ℕ) (x : Text) → tree_of p m ≡ [] → IsResolution p m x Nothing
none_resolved p m x bare = (λ t origin given. none_given given bare, inr (λ star. none_starred star.1 bare))

-- a tree of nothing uses no name of CommonJS
none_used : (tree : List Item) (name : Text) → tree ≡ [] → IsTrue (has_free tree name) → ⊥
none_used tree name none is = false≢true (subst (λ (t : List Item). IsTrue (has_free t name)) none is)

pub none_common_js : (p : Program) (m : ℕ) → tree_of p m ≡ [] → ((n : ℕ) (s : Text) → p.leads n s ≡ Some m → ⊥) → TellsCommonJs p m false
none_common_js p m bare none = (λ is. absurd (false≢true is), λ is. absurd (by is))
  where
    led_from : (n : ℕ) (s : Text) → resolves p n s ≡ Some m → ⊥
    led_from n s is = at (is_external p s) is
      where
        at : (b : Bool) → (if b then None else p.leads n s) ≡ Some m → ⊥
        at true is = none-some m is
        at false is = none n s is

    by : IsCommonJs p m → ⊥
    by is = elim is.used [
      | inl uses ↦ elim uses [
        | inl a ↦ none_used (tree_of p m) (codes "require") bare a
        | inr other ↦ elim other [ inl b ↦ none_used (tree_of p m) (codes "module") bare b | inr c ↦ none_used (tree_of p m) (codes "exports") bare c ]
      ]
      | inr required ↦ led_from required.0 required.2.call.specifier required.2.resolved
    ]
