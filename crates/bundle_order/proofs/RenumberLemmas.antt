-- How the bindings of the top are numbered changes nothing.
use Rattle.std.proofs.Common.{◌≡◌, ℕ, zero, suc, Option, Some, None, List, [], ◌∷◌, slice_get, refl, sym, ap, ◌∙◌, subst, inl, inr}
use Rattle.std.specs.List.{AllZip}
use Rattle.std.specs.Option.{option_and_then}
use Rattle.std.proofs.lemmas.Option.{none-some, same_Some}
use Rattle.std.proofs.lemmas.List.Elements.{length_all_zip}
use Rattle.bundle_order_sort.specs.declared.Dependency.{Dependency}
use Rattle.bundle_order_sort.specs.declared.Reference.{Reference}
use Rattle.bundle_rules.specs.Order.{Mention, Group, IsOf, mention_at, Refers, DeclaresAt, Declares, DeclaresFirst, IsWithoutValue, Fills, SetsUpBy, by_member, by_prototype, by_value, Provides, Depends, DependsAtOnce, IsStrong}
use Rattle.bundle_order.specs.Found.{AreFound, AreReferences}
use Rattle.bundle_order.specs.Renumbered.{IsSameButTop, IsRenumbered}

-- ---- numbers that stand for each other
-- both are none, or they stand for each other
abbrev pub AreBoth : (ℕ → ℕ → Type 0) → Option ℕ → Option ℕ → Type 0
AreBoth R None None = Unit {0}
AreBoth R None (Some b) = ⊥
AreBoth R (Some a) None = ⊥
AreBoth R (Some a) (Some b) = R a b

abbrev pub Flipped : (ℕ → ℕ → Type 0) → ℕ → ℕ → Type 0
Flipped R a b = R b a

-- an identifier of the one group and the one that stands there in the other
pub record Twin (R : ℕ → ℕ → Type 0) (h : Group) (s i : ℕ) (m : Mention) : Type 0 where
  pub by : Mention
  pub there : mention_at h s i ≡ Some by
  pub top : AreBoth R m.top by.top
  pub same : IsSameButTop m by

-- ---- what one identifier says
module _ (R : ℕ → ℕ → Type 0) (g h : Group) (twin : (s i : ℕ) (m : Mention) → mention_at g s i ≡ Some m → Twin R h s i m) (to : (a b c : ℕ) → R a b → R a c → b ≡ c) where
  top-is : (b b' : ℕ) (o p : Option ℕ) → R b b' → o ≡ Some b → AreBoth R o p → p ≡ Some b'
  top-is b b' None p r e a = absurd (none-some b e)
  top-is b b' (Some c) None r e a = absurd a
  top-is b b' (Some c) (Some d) r e a = ap (λ k. Some k) (to b d b' (subst (λ k. R k d) (same_Some c b e) a) r)

  top-some : (b : ℕ) (o p : Option ℕ) → o ≡ Some b → AreBoth R o p → (b' : ℕ) × R b b'
  top-some b None p e a = absurd (none-some b e)
  top-some b (Some c) None e a = absurd a
  top-some b (Some c) (Some d) e a = (d, subst (λ k. R k d) (same_Some c b e) a)

  -- what an identifier refers to has a number in the other group
  pub number-of : (s b : ℕ) (by : Mention) → Refers g s b by → (b' : ℕ) × R b b'
  number-of s b by r = let t = twin s r.at by r.there in top-some b by.top t.by.top r.denotes t.top

  pub record Moved (s b : ℕ) (by : Mention) : Type 0 where
    pub its : Mention
    pub refers : Refers h s b its
    pub same : IsSameButTop by its

  pub refers-to : (s b b' : ℕ) (by : Mention) → R b b' → Refers g s b by → Moved s b' by
  refers-to s b b' by r x =
      let t = twin s x.at by x.there in
      record { its = t.by; refers = record { at = x.at; there = t.there; denotes = top-is b b' by.top t.by.top r x.denotes t.top; refers = sym t.same.declares ∙ x.refers }; same = t.same }

  pub record MovedAt (s b at : ℕ) (by : Mention) : Type 0 where
    pub its : Mention
    pub declares : DeclaresAt h s b at its
    pub same : IsSameButTop by its

  pub declares-to : (s b b' at : ℕ) (by : Mention) → R b b' → DeclaresAt g s b at by → MovedAt s b' at by
  declares-to s b b' at by r x =
      let t = twin s at by x.there in
      record { its = t.by; declares = record { there = t.there; denotes = top-is b b' by.top t.by.top r x.denotes t.top; declares = sym t.same.declares ∙ x.declares }; same = t.same }

  pub declared-to : (s b b' : ℕ) → R b b' → Declares g s b → Declares h s b'
  declared-to s b b' r (at, by, x) = let m = declares-to s b b' at by r x in (at, m.its, m.declares)

  pub fills-to : (s b b' : ℕ) → R b b' → Fills g s b → Fills h s b'
  fills-to s b b' r f =
      let m = refers-to s b b' f.by r f.refers in
      record { by = m.its; refers = m.refers; fills = elim f.fills [ inl a ↦ inl (sym m.same.assigned ∙ a) | inr a ↦ inr (sym m.same.argument ∙ a) ] }

-- ---- what both groups say
module _ (R : ℕ → ℕ → Type 0) (g h : Group) (owners : h.owners ≡ g.owners) (twin : (s i : ℕ) (m : Mention) → mention_at g s i ≡ Some m → Twin R h s i m) (twin_back : (s i : ℕ) (m : Mention) → mention_at h s i ≡ Some m → Twin (Flipped R) g s i m) (to : (a b c : ℕ) → R a b → R a c → b ≡ c) (from : (a b c : ℕ) → R b a → R c a → b ≡ c) where
  is_of : (s m : ℕ) → IsOf g s m → IsOf h s m
  is_of s m e = ap (λ (l : List (Option ℕ)). slice_get l s) owners ∙ e

  is_of-back : (s m : ℕ) → IsOf h s m → IsOf g s m
  is_of-back s m e = ap (λ (l : List (Option ℕ)). slice_get l s) (sym owners) ∙ e

  module _ (b b' : ℕ) (r : R b b') where
    first-to : (d : ℕ) → DeclaresFirst g d b → DeclaresFirst h d b'
    first-to d f = record {
      declares = declared-to R g h twin to d b b' r f.declares;
      first = λ u it. f.first u (declared-to (Flipped R) h g twin_back from u b' b r it);
    }

    without-to : (d : ℕ) → IsWithoutValue g d b → IsWithoutValue h d b'
    without-to d w =
        let m = declares-to R g h twin to d b b' w.at w.by r w.declares in
        record {
          at = w.at;
          by = m.its;
          declares = m.declares;
          first = λ other its it. let back = declares-to (Flipped R) h g twin_back from d b' b other its r it in w.first other back.its back.declares;
          no_value = sym m.same.valueless ∙ w.no_value;
        }

    by-to : (m d t : ℕ) → SetsUpBy g m d t b → SetsUpBy h m d t b'
    by-to m d t (by_member by x l c) = let k = refers-to R g h twin to t b b' by r x in by_member k.its k.refers (sym k.same.later ∙ l) (sym k.same.chain ∙ c)
    by-to m d t (by_prototype by x l c) = let k = refers-to R g h twin to t b b' by r x in by_prototype k.its k.refers (sym k.same.later ∙ l) (sym k.same.prototype ∙ c)
    by-to m d t (by_value w f none) = by_value (without-to d w) (fills-to R g h twin to t b b' r f) (λ u o after before fills. none u (is_of-back u m o) after before (fills-to (Flipped R) h g twin_back from u b' b r fills))

    pub provides-to : (t : ℕ) → Provides g t b → Provides h t b'
    provides-to t (inl x) = inl (declared-to R g h twin to t b b' r x)
    provides-to t (inr s) = inr (record {
      which = s.which;
      first = s.first;
      declares = first-to s.first s.declares;
      its = is_of s.first s.which s.its;
      same = is_of t s.which s.same;
      later = s.later;
      by = by-to s.which s.first t s.by;
    })

  pub depends-to : (s t : ℕ) → Depends g s t → Depends h s t
  depends-to s t d =
      let n = number-of R g h twin to s d.binding d.by d.refers in
      let m = refers-to R g h twin to s d.binding n.0 d.by n.1 d.refers in
      record { other = d.other; binding = n.0; by = m.its; refers = m.refers; provides = provides-to d.binding n.0 n.1 t d.provides }

  at_once-to : (s t : ℕ) → DependsAtOnce g s t → DependsAtOnce h s t
  at_once-to s t d =
      let n = number-of R g h twin to s d.binding d.by d.refers in
      let m = refers-to R g h twin to s d.binding n.0 d.by n.1 d.refers in
      record { binding = n.0; by = m.its; refers = m.refers; at_once = sym m.same.later ∙ d.at_once; provides = provides-to d.binding n.0 n.1 t d.provides }

  pub strong-to : (s t : ℕ) → IsStrong g s t → IsStrong h s t
  strong-to s t i = record {
    depends = depends-to s t i.depends;
    at_once = elim i.at_once [ inl f ↦ inl (ap (λ (l : List (Option ℕ)). slice_get l s) owners ∙ f) | inr o ↦ inr (at_once-to s t o) ];
  }

-- ---- groups that are renumbered
-- the element at the same place of the other list
module _ {X Y : Type 0} (R : X → Y → Type 0) where
  pub zip-at : (xs : List X) (ys : List Y) (k : ℕ) (x : X) → AllZip R xs ys → slice_get xs k ≡ Some x → (y : Y) × (slice_get ys k ≡ Some y) × R x y
  zip-at [] ys k x z e = absurd (none-some x e)
  zip-at (u ∷ xs) [] k x z e = absurd z
  zip-at (u ∷ xs) (v ∷ ys) zero x z e = (v, refl, subst (λ (w : X). R w v) (same_Some u x e) z.0)
  zip-at (u ∷ xs) (v ∷ ys) (suc k) x z e = zip-at xs ys k x z.1 e

  pub zip-back : (xs : List X) (ys : List Y) (k : ℕ) (y : Y) → AllZip R xs ys → slice_get ys k ≡ Some y → (x : X) × (slice_get xs k ≡ Some x) × R x y
  zip-back xs [] k y z e = absurd (none-some y e)
  zip-back [] (v ∷ ys) k y z e = absurd z
  zip-back (u ∷ xs) (v ∷ ys) zero y z e = (u, refl, subst (λ (w : Y). R u w) (same_Some v y e) z.0)
  zip-back (u ∷ xs) (v ∷ ys) (suc k) y z e = zip-back xs ys k y z.1 e

pub row-of : (rows : List (List Mention)) (s i : ℕ) (m : Mention) (o : Option (List Mention)) → slice_get rows s ≡ o → option_and_then (λ (row : List Mention). slice_get row i) o ≡ Some m → (row : List Mention) × (slice_get rows s ≡ Some row) × (slice_get row i ≡ Some m)
row-of rows s i m None e a = absurd (none-some m a)
row-of rows s i m (Some row) e a = (row, e, a)

pub same_but_top-sym : (a b : Mention) → IsSameButTop a b → IsSameButTop b a
same_but_top-sym a b s = record { declares = sym s.declares; later = sym s.later; assigned = sym s.assigned; argument = sym s.argument; chain = sym s.chain; prototype = sym s.prototype; valueless = sym s.valueless }

module _ (g h : Group) (re : IsRenumbered g h) where
  -- some identifier has the one number here and the other there
  pub record StandsFor (b b' : ℕ) : Type 0 where
    pub s : ℕ
    pub i : ℕ
    pub one : Mention
    pub other : Mention
    pub here : mention_at g s i ≡ Some one
    pub there : mention_at h s i ≡ Some other
    pub top : one.top ≡ Some b
    pub its : other.top ≡ Some b'

  stands_to : (a b c : ℕ) → StandsFor a b → StandsFor a c → b ≡ c
  stands_to a b c x y = same_Some b c (sym x.its ∙ ((re.same x.s x.i y.s y.i x.one y.one x.other y.other x.here y.here x.there y.there).0 (x.top ∙ sym y.top) ∙ y.its))

  stands_from : (a b c : ℕ) → StandsFor b a → StandsFor c a → b ≡ c
  stands_from a b c x y = same_Some b c (sym x.top ∙ ((re.same x.s x.i y.s y.i x.one y.one x.other y.other x.here y.here x.there y.there).1 (x.its ∙ sym y.its) ∙ y.top))

  both : (s i : ℕ) (one other : Mention) → mention_at g s i ≡ Some one → mention_at h s i ≡ Some other → (o p : Option ℕ) → one.top ≡ o → other.top ≡ p → AreBoth StandsFor o p
  both s i one other here there None None e f = tt
  both s i one other here there None (Some b) e f = none-some b (sym ((re.none s i one other here there).0 e) ∙ f)
  both s i one other here there (Some a) None e f = none-some a (sym ((re.none s i one other here there).1 f) ∙ e)
  both s i one other here there (Some a) (Some b) e f = record { s = s; i = i; one = one; other = other; here = here; there = there; top = e; its = f }

  both_back : (o p : Option ℕ) → AreBoth StandsFor o p → AreBoth (Flipped StandsFor) p o
  both_back None None a = tt
  both_back None (Some b) a = absurd a
  both_back (Some x) None a = absurd a
  both_back (Some x) (Some y) a = a

  twin-here : (s i : ℕ) (m : Mention) → mention_at g s i ≡ Some m → Twin StandsFor h s i m
  twin-here s i m e =
      let row = row-of g.items s i m (slice_get g.items s) refl e in
      let other = zip-at (AllZip IsSameButTop) g.items h.items s row.0 re.items row.1 in
      let its = zip-at IsSameButTop row.0 other.0 i m other.2 row.2 in
      let there : mention_at h s i ≡ Some its.0 = ap (λ (o : Option (List Mention)). option_and_then (λ (r : List Mention). slice_get r i) o) other.1 ∙ its.1 in
      record { by = its.0; there = there; top = both s i m its.0 e there m.top its.0.top refl refl; same = its.2 }

  twin-there : (s i : ℕ) (m : Mention) → mention_at h s i ≡ Some m → Twin (Flipped StandsFor) g s i m
  twin-there s i m e =
      let row = row-of h.items s i m (slice_get h.items s) refl e in
      let other = zip-back (AllZip IsSameButTop) g.items h.items s row.0 re.items row.1 in
      let its = zip-back IsSameButTop other.0 row.0 i m other.2 row.2 in
      let here : mention_at g s i ≡ Some its.0 = ap (λ (o : Option (List Mention)). option_and_then (λ (r : List Mention). slice_get r i) o) other.1 ∙ its.1 in
      record { by = its.0; there = here; top = both_back its.0.top m.top (both s i its.0 m here e its.0.top m.top refl refl); same = same_but_top-sym its.0 m its.2 }

  strong_there : (s t : ℕ) → IsStrong g s t → IsStrong h s t
  strong_there = strong-to StandsFor g h re.owners twin-here twin-there stands_to stands_from

  strong_here : (s t : ℕ) → IsStrong h s t → IsStrong g s t
  strong_here = strong-to (Flipped StandsFor) h g (sym re.owners) twin-there twin-here stands_from stands_to

  depends_there : (s t : ℕ) → Depends g s t → Depends h s t
  depends_there = depends-to StandsFor g h re.owners twin-here twin-there stands_to stands_from

  depends_here : (s t : ℕ) → Depends h s t → Depends g s t
  depends_here = depends-to (Flipped StandsFor) h g (sym re.owners) twin-there twin-here stands_from stands_to

  -- what is found of the one is found of the other
  pub AreFound-renumbered : (found : List (List Dependency)) → AreFound h found → AreFound g found
  AreFound-renumbered found f = record {
    len = f.len ∙ sym (length_all_zip (AllZip IsSameButTop) g.items h.items re.items);
    strong = λ s t. ((λ c. strong_here s t ((f.strong s t).0 c)), λ i. (f.strong s t).1 (strong_there s t i));
    weak = λ s t. (
      λ c. let w = (f.weak s t).0 c in record { depends = depends_here s t w.depends; not_strong = λ i. w.not_strong (strong_there s t i) },
      λ w. (f.weak s t).1 (record { depends = depends_there s t w.depends; not_strong = λ i. w.not_strong (strong_here s t i) }),
    );
    ascending = f.ascending;
  }

  pub AreReferences-renumbered : (references : List (List Reference)) (lists : List (List ℕ)) → AreReferences h references lists → AreReferences g references lists
  AreReferences-renumbered references lists f = record {
    len = f.len ∙ sym (length_all_zip (AllZip IsSameButTop) g.items h.items re.items);
    strong = λ s t. ((λ c. strong_here s t ((f.strong s t).0 c)), λ i. (f.strong s t).1 (strong_there s t i));
    depends = λ s t. ((λ c. depends_here s t ((f.depends s t).0 c)), λ d. (f.depends s t).1 (depends_there s t d));
  }
