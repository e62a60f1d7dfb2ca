-- Sets of targets that grow.
-- What is taken of externals and of CommonJS modules is found among the targets.
use lib.Pointwise.{bytes_decides}
use Rattle.std.proofs.Common.{◌≡◌, ◌⊎◌, inl, inr, ℕ, ◌+◌, ◌<◌, Bool, true, false, List, [], ◌∷◌, ◌++◌, length, take, get_or, refl, sym, ap, ◌∙◌, subst, if◌then◌else◌, arith, ◌&&◌, Decides, Option, Some, None, append-nil}
use Rattle.std.specs.Prelude.{Contains, map, ◌↔◌, slice_get, IsTrue}
use Rattle.std.specs.List.{list_any, All, IsDistinct, cons_option, filter, filter_map, flat_map}
use Rattle.std.proofs.lemmas.List.{map-append, take_more, get_or-take, get_or_default, length-take-le}
use Rattle.std.proofs.lemmas.List.Elements.{Contains-push, Contains-push_cases, Contains-append_left, All-push, filter_map-append}
use Rattle.std.specs.Borrow.{Bor}
use Rattle.std.specs.Cmp.{IsEquivalence}
use Rattle.std.specs.Cmp.Lexicographic.{on_texts_equal}
use Rattle.std.proofs.lemmas.Bool.{false≢true}
use Rattle.std.proofs.lemmas.Map.Keys.{IsDistinct-push, apart_from_distinct}
use Rattle.std.proofs.lemmas.Slice.Eq.{bytes_eq-Decides}
use Rattle.std.proofs.lemmas.Bool.Decides.{Decides-eqb, Decides-and, Decides-like}
use Rattle.std.specs.Global.{Global}
use Rattle.std.specs.Map.{lookup}
use Rattle.std.specs.Option.{option_copied}
use Rattle.std.specs.declared.vec.Vec.{Vec}
use Rattle.indexmap.specs.IndexSet.{insert_key}
use Rattle.indexmap.specs.IndexMap.{IndexMap}
use Rattle.bundle_link_index.specs.Given.{IsIn, AddsMissing}
use Rattle.bundle_link_index.proofs.SearchLemmas.{Adds-nothing, Adds-more, get_still as get-still, get_push as get-push, get_last as get-last}
use Rattle.bundle_rules.specs.Nodes.{Text, has_text, numbers_once}
use Rattle.bundle_rules.specs.Entries.{Whole, Named}
use Rattle.bundle_rules.specs.Linking as l
use Rattle.bundle_link_tables.proofs.MarkLemmas.{one_more}
use Rattle.bundle_link_tables.specs.Sources.{source_asked, told_external}
use Rattle.bundle_link_tables.specs.declared.table.Source.{Source}
use Rattle.bundle_link_index.specs.declared.target.TargetRef.{TargetRef}
use Rattle.bundle_link_index.specs.Says.{target_of}
use Rattle.bundle_link_index.proofs.ProgramLemmas.{there_of_any, any_there, map_on as map-on, map_back as map-back, got as there-place, got_there as place-there}
use Rattle.bundle_link_index.specs.Handed.{external_one}
use Rattle.bundle_link_index.specs.declared.kinds.Kinds.{Kinds}
use Rattle.bundle_link_index.proofs.AskedLemmas.{none_there as none-there}
use Rattle.bundle_link_index.specs.contracts.target.TargetRefPartialEq.TheImpl as target_impl
use Rattle.bundle_link_index.proofs.EqualLemmas as equal
use Rattle.bundle_link_targets.specs.Lists.{items_lent}
use Rattle.bundle_link_targets.specs.Taken.{HoldNames, given_to_giver, names_for, name_list, AreLoadsOf, IsLoad, IsNameFrom, loads_by, target_from_giver}
use Rattle.bundle_link_targets.specs.declared.taken.Giver.{Giver}
use Rattle.bundle_link_targets.proofs.AscendingLemmas.{text-eq}
use Rattle.bundle_link_targets.specs.contracts.taken.GiverPartialEq.TheImpl as giver_impl
use Rattle.bundle_link_targets.specs.declared.taken.Giver.TheVariants as g

-- ---- add
Adds-push : {A : Type 0} (ks : List A) (k : A) → AddsMissing ks (λ other. other ≡ k) (ks ++ k ∷ [])
Adds-push ks k = record {
  stays = λ i other h. get-still ks k i other h;
  there = λ other e. subst (IsIn (ks ++ k ∷ [])) (sym e) (get-last ks k);
  no_more = λ other h. get-push ks k h.0 other h.1;
}

-- a target that is put
pub Adds-target : (keys new : List TargetRef) (k : TargetRef) → new ≡ insert_key target_impl.ghosts.eq keys k → AddsMissing (map target_of keys) (λ other. other ≡ target_of k) (map target_of new)
Adds-target keys new k e = subst (λ ks. AddsMissing (map target_of keys) (λ (other : l.Target). other ≡ target_of k) (map target_of ks)) (sym e) (by (list_any (target_impl.ghosts.eq k) keys) refl)
  where
    by : (b : Bool) → list_any (target_impl.ghosts.eq k) keys ≡ b → AddsMissing (map target_of keys) (λ other. other ≡ target_of k) (map target_of (if b then keys else keys ++ k ∷ []))
    by true is = Adds-nothing (map target_of keys) (λ other. other ≡ target_of k) (λ other same.
        let r = there_of_any (target_impl.ghosts.eq k) keys is in
        let key : target_of k ≡ target_of r.0 = (equal.target k r.0).0 r.2 in
        subst (IsIn (map target_of keys)) (sym key ∙ sym same) (there-place (map target_of keys) (target_of r.0) (map-on target_of keys r.0 r.1)))
    by false is = subst (AddsMissing (map target_of keys) (λ (other : l.Target). other ≡ target_of k)) (sym (map-append target_of keys (k ∷ []))) (Adds-push (map target_of keys) (target_of k))

-- something of one of these
abbrev pub AnyOf : {A B : Type 0} → List B → (B → A → Type 0) → A → Type 0
AnyOf {B = B} ys Those t = (y : B) × Contains ys y × Those y t

pub Adds-none : {A B : Type 0} (Those : B → A → Type 0) (old : List A) → AddsMissing old (AnyOf [] Those) old
Adds-none Those old = Adds-nothing old (AnyOf [] Those) (λ at any. absurd (omega (arith, any.1.1)))

-- what is added for one more
pub Adds-step : {A B : Type 0} (Those : B → A → Type 0) (ys all : List B) (y : B) (old met new : List A) → all ≡ ys ++ y ∷ [] → AddsMissing old (AnyOf ys Those) met → AddsMissing met (Those y) new → AddsMissing old (AnyOf all Those) new
Adds-step {A = A} {B = B} Those ys all y old met new e first second = subst (λ zs. AddsMissing old (AnyOf zs Those) new) (sym e)
    (Adds-more old met new (AnyOf ys Those) (Those y) (AnyOf (ys ++ y ∷ []) Those) first second splits
    (λ at any. (any.0, Contains-append_left ys (y ∷ []) any.0 any.1, any.2))
    (λ at those. (y, Contains-push ys y, those)))
  where
    splits : (at : A) → AnyOf (ys ++ y ∷ []) Those at → AnyOf ys Those at ⊎ Those y at
    splits at any = elim (Contains-push_cases ys y any.0 any.1) [
      | inl there ↦ inl (any.0, there, any.2)
      | inr is ↦ inr (subst (λ z. Those z at) (sym is) any.2)
    ]

-- the same facts in other words
pub Adds-same : {A : Type 0} (old new : List A) (Those Others : A → Type 0) → ((at : A) → Those at → Others at) → ((at : A) → Others at → Those at) → AddsMissing old Those new → AddsMissing old Others new
Adds-same old new Those Others to from adds = record {
  stays = adds.stays;
  there = λ at h. adds.there at (from at h);
  no_more = λ at h. elim (adds.no_more at h) [ inl o ↦ inl o | inr t ↦ inr (to at t) ];
}

-- one more of what is seen of a list
pub map-more : {A B : Type 0} (f : A → B) (xs : List A) (i : ℕ) (d : A) → i < length xs → map f (take (i + 1) xs) ≡ map f (take i xs) ++ f (get_or xs i d) ∷ []
map-more f xs i d h = sym (one_more f xs i d h)

-- one more element is put behind those before it
pub push-more : {A : Type 0} (all put more : List A) (i : ℕ) (d : A) → more ≡ put ++ get_or all i d ∷ [] → put ≡ take i all → i < length all → more ≡ take (i + 1) all
push-more all put more i d pushed before h = pushed ∙ ap (λ l. l ++ get_or all i d ∷ []) before ∙ sym (take_more all i d h)

-- ---- what gives something
both : {P Q R : Type 0} (x y : Bool) → Decides x P → Decides y Q → (P × Q → R) → (R → P × Q) → Decides (x && y) R
both x y p q to from = Decides-like (x && y) to from (Decides-and x y p q)

never : {R : Type 0} → (R → ⊥) → Decides false R
never not = (λ so. absurd (false≢true so), λ is. absurd (not is))

pub giver-decides : (a b : Giver) → Decides (giver_impl.ghosts.eq a b) (target_from_giver a Whole ≡ target_from_giver b Whole)
giver-decides (g.External s) (g.External r) = Decides-like _ (ap (λ (x : Text). l.External x Whole)) (λ is. let one : s.now ≡ r.now = cc in one) (bytes_decides s.now r.now)
giver-decides (g.External s) (g.CommonJs b d) = never (λ is. cc)
giver-decides (g.CommonJs a c) (g.External r) = never (λ is. cc)
giver-decides (g.CommonJs a c) (g.CommonJs b d) = both _ _ (Decides-eqb a b) (Decides-eqb c d) (λ p. ap (λ (k : ℕ). l.CommonJs k c Whole) p.0 ∙ ap (λ (k : ℕ). l.CommonJs b k Whole) p.1) (λ is. let one : a ≡ b = cc in let two : c ≡ d = cc in (one, two))

-- the same giver gives the same
giver-same : (a b : Giver) (x : Text) → target_from_giver a Whole ≡ target_from_giver b Whole → target_from_giver a (Named x) ≡ target_from_giver b (Named x)
giver-same (g.External s) (g.External r) x e = let one : s.now ≡ r.now = cc in ap (λ (y : Text). l.External y (Named x)) one
giver-same (g.External s) (g.CommonJs b d) x e = cc
giver-same (g.CommonJs a c) (g.External r) x e = cc
giver-same (g.CommonJs a c) (g.CommonJs b d) x e = let one : a ≡ b = cc in let two : c ≡ d = cc in ap (λ (k : ℕ). l.CommonJs k c (Named x)) one ∙ ap (λ (k : ℕ). l.CommonJs b k (Named x)) two

giver-back : (a b : Giver) (x y : Text) → target_from_giver a (Named x) ≡ target_from_giver b (Named y) → target_from_giver a Whole ≡ target_from_giver b Whole
giver-back (g.External s) (g.External r) x y e = let one : s.now ≡ r.now = cc in ap (λ (z : Text). l.External z Whole) one
giver-back (g.External s) (g.CommonJs b d) x y e = cc
giver-back (g.CommonJs a c) (g.External r) x y e = cc
giver-back (g.CommonJs a c) (g.CommonJs b d) x y e = let one : a ≡ b = cc in let two : c ≡ d = cc in ap (λ (k : ℕ). l.CommonJs k c Whole) one ∙ ap (λ (k : ℕ). l.CommonJs b k Whole) two

-- the name that is found of another giver
abbrev pub found-for : Giver → Giver → Bor Text → Option (Bor Text)
found-for giver other name = if giver_impl.ghosts.eq giver other then Some name else None

pub found-right : (giver other : Giver) (name : Bor Text) → IsNameFrom other (target_from_giver giver (Named name.now)) (found-for giver other name)
found-right giver other name = by (giver_impl.ghosts.eq giver other) refl
  where
    by : (b : Bool) → giver_impl.ghosts.eq giver other ≡ b → IsNameFrom other (target_from_giver giver (Named name.now)) (if b then Some name else None)
    by true is = giver-same giver other name.now ((giver-decides giver other).0 is)
    by false is = λ x e. false≢true (sym is ∙ (giver-decides giver other).1 (giver-back giver other name.now x e))

pub found-given : (giver other : Giver) (name : Bor Text) → given_to_giver giver other name ≡ cons_option (found-for giver other name) []
found-given giver other name = by (giver_impl.ghosts.eq giver other)
  where
    by : (b : Bool) → (if b then name ∷ [] else []) ≡ cons_option (if b then Some name else None) []
    by true = refl
    by false = refl

pub whole-none : (giver other : Giver) → IsNameFrom other (target_from_giver giver Whole) None
whole-none (g.External s) (g.External r) = λ x e. cc
whole-none (g.External s) (g.CommonJs b d) = λ x e. cc
whole-none (g.CommonJs a c) (g.External r) = λ x e. cc
whole-none (g.CommonJs a c) (g.CommonJs b d) = λ x e. cc

pub declared-none : (other : Giver) (m : ℕ) (y : Text) → IsNameFrom other (l.Declared m y) None
declared-none (g.External r) m y = λ x e. cc
declared-none (g.CommonJs b d) m y = λ x e. cc

pub namespace-none : (other : Giver) (m : ℕ) → IsNameFrom other (l.Namespace m) None
namespace-none (g.External r) m = λ x e. cc
namespace-none (g.CommonJs b d) m = λ x e. cc

-- ---- the names among targets
distinct-none : IsDistinct text-eq []
unfolding IsDistinct
distinct-none = tt

pub names-none : (giver : Giver) (names : List (Bor Text)) → names ≡ [] → HoldNames giver [] names
names-none giver names none = subst (HoldNames giver []) (sym none) (record {
  there = λ x there. none-there (target_from_giver giver (Named x)) there;
  right = λ x there. none-there x there;
  once = distinct-none;
})

text-laws : IsEquivalence text-eq
text-laws = on_texts_equal (λ (name : Bor Text). name.now)

abbrev pub text-of : Bor Text → Text
text-of name = name.now

none-any : (ks : List (Bor Text)) (k : Bor Text) → (Contains (map text-of ks) k.now → ⊥) → list_any (text-eq k) ks ≡ false
none-any ks k none = by (list_any (text-eq k) ks) refl
  where
    by : (b : Bool) → list_any (text-eq k) ks ≡ b → list_any (text-eq k) ks ≡ false
    by true is = let r = there_of_any (text-eq k) ks is in absurd (none (subst (Contains (map text-of ks)) (sym ((bytes_eq-Decides k.now r.0.now).0 r.2)) (map-on text-of ks r.0 r.1)))
    by false is = is

-- an element stands at one place
not-before : (keys : List TargetRef) (i : ℕ) (d : TargetRef) → i < length keys → IsDistinct target_impl.ghosts.eq keys → Contains (map target_of (take i keys)) (target_of (get_or keys i d)) → ⊥
not-before keys i d h once there =
    let r = map-back target_of (take i keys) (target_of (get_or keys i d)) there in
    let j = r.1.0 in
    let long = length-take-le i keys (omega (arith, h)) in
    let within : j < i = omega (arith, r.1.1, long) in
    let here : get_or keys j d ≡ r.0 = sym (get_or-take i keys j d within) ∙ get_or_default (take i keys) j d r.0 r.1.1 ∙ r.1.2 in
    false≢true (sym (apart_from_distinct target_impl.ghosts.eq keys j i d once within h) ∙ (equal.target (get_or keys j d) (get_or keys i d)).1 (ap target_of here ∙ r.2))

pub names-step : (giver : Giver) (keys : List TargetRef) (i : ℕ) (d : TargetRef) (names new : List (Bor Text)) (found : Option (Bor Text)) → i < length keys → IsDistinct target_impl.ghosts.eq keys → IsNameFrom giver (target_of (get_or keys i d)) found → new ≡ names ++ cons_option found [] → HoldNames giver (map target_of (take i keys)) names → HoldNames giver (map target_of (take (i + 1) keys)) new
names-step giver keys i d names new found h once is put w = subst (λ ts. HoldNames giver ts new) (sym (map-more target_of keys i d h)) (by found is put)
  where
    its : l.Target
    its = target_of (get_or keys i d)

    before : List l.Target
    before = map target_of (take i keys)

    by : (found : Option (Bor Text)) → IsNameFrom giver (target_of (get_or keys i d)) found → new ≡ names ++ cons_option found [] → HoldNames giver (map target_of (take i keys) ++ target_of (get_or keys i d) ∷ []) new
    by None other put = subst (HoldNames giver (map target_of (take i keys) ++ target_of (get_or keys i d) ∷ [])) (sym (put ∙ append-nil names)) (record {
      there = λ x there. elim (Contains-push_cases (map target_of (take i keys)) (target_of (get_or keys i d)) (target_from_giver giver (Named x)) there) [
        | inl o ↦ w.there x o
        | inr e ↦ absurd (other x e)
      ];
      right = λ x there. Contains-append_left (map target_of (take i keys)) (target_of (get_or keys i d) ∷ []) (target_from_giver giver (Named x)) (w.right x there);
      once = w.once;
    })
    by (Some n) same put = subst (HoldNames giver (map target_of (take i keys) ++ target_of (get_or keys i d) ∷ [])) (sym put) (record {
      there = λ x there. subst (λ (ls : List Text). Contains ls x) (sym (map-append text-of names (n ∷ []))) (elim (Contains-push_cases (map target_of (take i keys)) (target_of (get_or keys i d)) (target_from_giver giver (Named x)) there) [
        | inl o ↦ Contains-append_left (map text-of names) (n.now ∷ []) x (w.there x o)
        | inr e ↦ subst (Contains (map text-of names ++ n.now ∷ [])) (one-name giver n.now x (sym same ∙ e)) (Contains-push (map text-of names) n.now)
      ]);
      right = λ x there. elim (Contains-push_cases (map text-of names) n.now x (subst (λ (ls : List Text). Contains ls x) (map-append text-of names (n ∷ [])) there)) [
        | inl o ↦ Contains-append_left (map target_of (take i keys)) (target_of (get_or keys i d) ∷ []) (target_from_giver giver (Named x)) (w.right x o)
        | inr e ↦ subst (Contains (map target_of (take i keys) ++ target_of (get_or keys i d) ∷ [])) (same ∙ ap (λ y. target_from_giver giver (Named y)) e) (Contains-push (map target_of (take i keys)) (target_of (get_or keys i d)))
      ];
      once = IsDistinct-push text-laws names n w.once (none-any names n (λ there. not-before keys i d h once (subst (Contains (map target_of (take i keys))) (sym same) (w.right n.now there))));
    })
      where
        one-name : (giver : Giver) (a b : Text) → target_from_giver giver (Named a) ≡ target_from_giver giver (Named b) → a ≡ b
        one-name (g.External s) a b e = let same : a ≡ b = cc in same
        one-name (g.CommonJs r c) a b e = let same : a ≡ b = cc in same

-- ---- the externals that modules ask for
pub asked-externals : (external : List Text) (sources : List Source) (requests : List Text) → map source_asked sources ≡ map (told_external external) requests → flat_map external_one sources ≡ filter (λ s. has_text s external) requests
asked-externals external [] [] e = refl
asked-externals external [] (r ∷ requests) e = cc
asked-externals external (source ∷ sources) [] e = cc
asked-externals external (source ∷ sources) (r ∷ requests) e =
    let first : source_asked source ≡ told_external external r = cc in
    let text : source.specifier.now ≡ r = ap (λ (pair : Text × Bool). pair.0) first in
    let out : source.is_external ≡ has_text r external = ap (λ (pair : Text × Bool). pair.1) first in
    let more : map source_asked sources ≡ map (told_external external) requests = cc in
    ap (λ b. (if b then source.specifier.now ∷ [] else []) ++ flat_map external_one sources) out
    ∙ ap (λ l. (if has_text r external then source.specifier.now ∷ [] else []) ++ l) (asked-externals external sources requests more)
    ∙ ap (λ x. (if has_text r external then x ∷ [] else []) ++ filter (λ s. has_text s external) requests) text
    ∙ by (has_text r external)
  where
    by : (b : Bool) → (if b then r ∷ [] else []) ++ filter (λ s. has_text s external) requests ≡ (if b then r ∷ filter (λ s. has_text s external) requests else filter (λ s. has_text s external) requests)
    by true = refl
    by false = refl

-- ---- whether a target is held
pub told-held : (keys : List TargetRef) (own : TargetRef) (target : l.Target) (answer : Bool) → answer ≡ list_any (target_impl.ghosts.eq own) keys → target_of own ≡ target → IsTrue answer ↔ IsIn (map target_of keys) target
told-held keys own target answer is of = (
  λ yes.
      let r = there_of_any (target_impl.ghosts.eq own) keys (sym is ∙ yes) in
      let same : target_of r.0 ≡ target = sym ((equal.target own r.0).0 r.2) ∙ of in
      there-place (map target_of keys) target (subst (Contains (map target_of keys)) same (map-on target_of keys r.0 r.1)),
  λ there.
      let r = map-back target_of keys target (place-there (map target_of keys) there.0 target there.1) in
      is ∙ any_there (target_impl.ghosts.eq own) keys r.0 r.1 ((equal.target own r.0).1 (of ∙ sym r.2)),
)

-- ---- one more of a list
pub all-none : {X : Type 0} (P : X → Type 0) (xs : List X) → xs ≡ [] → All P xs
all-none P xs none = subst (All P) (sym none) (λ k d h. absurd (omega (arith, h)))

pub all-push : {X : Type 0} (P : X → Type 0) (xs new : List X) (x : X) → new ≡ xs ++ x ∷ [] → All P xs → P x → All P new
all-push P xs new x put all one = subst (All P) (sym put) (All-push P xs x all one)

pub seen-push : {X Y Z : Type 0} (f : X → Y) (g : Z → Y) (xs new : List X) (x : X) (all : List Z) (i : ℕ) (d : Z) → new ≡ xs ++ x ∷ [] → map f xs ≡ map g (take i all) → f x ≡ g (get_or all i d) → i < length all → map f new ≡ map g (take (i + 1) all)
seen-push f g xs new x all i d put before one h = ap (map f) put ∙ map-append f xs (x ∷ []) ∙ ap (λ l. l ++ f x ∷ []) before ∙ ap (λ y. map g (take i all) ++ y ∷ []) one ∙ sym (map-more g all i d h)

pub filter-more : {X Y : Type 0} (h : X → Option Y) (xs : List X) (i : ℕ) (d : X) → i < length xs → filter_map h (take i xs) ++ cons_option (h (get_or xs i d)) [] ≡ filter_map h (take (i + 1) xs)
filter-more h xs i d inside = sym (ap (filter_map h) (take_more xs i d inside) ∙ filter_map-append h (take i xs) (get_or xs i d ∷ []))

-- a module that is not there loads none
pub no-loads : (kinds : Kinds) (targets : List l.Target) (m : ℕ) → slice_get kinds.modules.now m ≡ None → AreLoadsOf kinds targets m []
no-loads kinds targets m none = record {
  modules = sym (ap (λ o. numbers_once (loads_by kinds m o)) none);
  taken = all-none (IsLoad targets m) [] refl;
}

pub map-itself : {X : Type 0} (xs : List X) → map (λ x. x) xs ≡ xs
map-itself [] = refl
map-itself (x ∷ xs) = ap (λ l. x ∷ l) (map-itself xs)

pub names-nothing : {S : Type 0} (names : IndexMap Giver (Vec (Bor Text) Global) S) → names.entries ≡ [] → (giver : Giver) → names_for names giver ≡ []
names-nothing names none giver = ap (λ es. name_list (lookup (giver_impl.ghosts.eq giver) es)) none

pub lent-is : (found : Option (Bor (Vec (Bor Text) Global))) (kept : Option (Vec (Bor Text) Global)) → option_copied found ≡ kept → items_lent found ≡ name_list kept
lent-is None kept e = ap name_list e
lent-is (Some list) kept e = ap name_list e
