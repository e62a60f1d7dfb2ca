-- The identifiers of a group in one list: which are there, and which is the first that passes a test.
-- The innermost open node, and what stands in it.
-- Where the table tells of the global `Object`, that is denoted.
-- The bindings of the top that are mentioned, each once.
-- The table numbers the bindings of the top one to one.
-- Whether a place lies in an argument of `Object.assign`, with one more node around it.
-- The items of a list, one range more.
use Rattle.std.proofs.Common.{◌≡◌, ℕ, zero, suc, ◌+◌, ◌<◌, ◌≤◌, ◌⊎◌, ◌↔◌, Bool, true, false, cond, Option, Some, None, List, [], ◌∷◌, slice_get, Contains, refl, sym, ap, ◌∙◌, subst, inl, inr, arith, ◌-◌, length, get_or, reverse, ◌&&◌, not, map, eqb, ◌||◌, ◌++◌, take, drop, All, append_assoc, append-nil}
use Rattle.std.specs.List.{filter_map, find, cons_option, filter, position, position_or_len, AllZip, flat_map, slice_range}
use Rattle.std.specs.Option.{option_map, option_and_then, option_or, is_some}
use Rattle.std.proofs.lemmas.Bool.{false≢true, and_parts, and_from, true≢false, cases_lt, eqb-true, eq-eqb, lt-ltb, le-ltb, not_from_false, ne_eqb}
use Rattle.std.proofs.lemmas.Option.{none-some, same_Some, slice_get-map, slice_get_within}
use Rattle.std.proofs.lemmas.List.Elements.{Contains-append_left, Contains-append_right, Contains-append_cases, Contains-get_or, All-nil, All-append}
use Rattle.std.proofs.lemmas.List.Folds.{find-append}
use Rattle.std.proofs.lemmas.List.{get_or-reverse, length-reverse, map-append, take_more, length-take-le, length-map, take-map, drop-map}
use Rattle.std.specs.Prelude.{codes}
use Rattle.std.specs.Str.{bytes_eq}
use Rattle.std.proofs.lemmas.Slice.Eq.{bytes_eq-Decides}
use Rattle.std.proofs.lemmas.List.Quantifiers.{position-Some}
use Rattle.std.proofs.lemmas.List.Sums.{fails_before_first, passes_at_first}
use Rattle.bundle_syntax.specs.Item as of_item
use Rattle.bundle_syntax.specs.Item.{Item, Head, head_of}
use Rattle.bundle_syntax.specs.declared.piece.Role.TheVariants
use Rattle.bundle_rules.specs.Order.{Mention, has_no_value, is_in_assign_of, is_global_named, is_of_nothing, is_object_at, is_of_scope, denoted_in, is_text, is_prototype_read, mention_of, mentioned, group_of}
use Rattle.bundle_order_sort.proofs.ElementLemmas.{Contains-cons, Contains-none}
use Rattle.bundle_rules.specs.Places.{Around, in_field, Spot as Spot_object, Occurrence, occurrence_of, occurrence_at, spot_before, occurrences}
use Rattle.bundle_rules.specs.Deferred.{runs_later}
use Rattle.bundle_rules.specs.Scopes.{Es, Scope, scopes_around, Wrapper, Top, Inner, scope_order, same_scope}
use Rattle.bundle_rules.specs.Declarations.{ByContext, Declared, Name, name_of, declared, declaration_of}
use Rattle.bundle_rules.specs.Denotes.{Denoted, Bound, Global, without_context, bound_in, is_written_in, is_implied_in, written_or_implied, denoted_by_context, own_or_found, denoted_of, denoted_at}
use Rattle.bundle_rules.specs.Mentions.{same_context, same_denoted, each_denoted_once}
pub use Rattle.bundle_order_sort.proofs.ElementLemmas.{Contains-filter}
use Rattle.bundle_rules.specs.Nodes.{node_at}
use Rattle.bundle_rules.specs.Entries.{is_call_head}
use Rattle.bundle_rules.specs.Reads.{property_of}
use Rattle.bundle_rules.specs.Statements.{TopItem}
use Rattle.bundle_scope_denote.specs.declared.table.Binding.{Binding}
use Rattle.bundle_scope_denote.specs.declared.table.Denotations.{Denotations}
use Rattle.bundle_scope_denote.specs.Numbers.{NumberedScope, numbered_scope}
use Rattle.bundle_scope_denote.specs.Listed.{IsDenoted, IsOnlyTop, IsDenotationTable, IsBinding}
use Rattle.bundle_scope_denote.specs.Ready.{binding_name}
use Rattle.bundle_order.specs.declared.seen.Seen.{Seen}
use Rattle.bundle_order.specs.Seen.{seen_of, seen_as, seen_from}
use Rattle.bundle_order.specs.declared.spot.ItemFrame.{ItemFrame}
use Rattle.bundle_order.specs.declared.spot.ItemSpot.{ItemSpot}
use Rattle.bundle_order.specs.declared.told.TopBinding.{TopBinding}
use Rattle.bundle_order.specs.Known.{IsKnown, path_in}
use Rattle.bundle_order.specs.Open.{AreItemFrames, IsItemFrame, IsItemSpot, calls_assign, no_value_at}
use Rattle.bundle_order.specs.Told.{no_binding_told, is_global_object, told_by, told_at, top_binding_number, top_by}
use Rattle.bundle_order.proofs.EntryLemmas.{stands_on, last_entry, Last, NoEntry, entry_at, no_occurrence, TopAt, top_at}
use Rattle.bundle_order.specs.Renumbered.{IsSameButTop, IsRenumbered}
use Rattle.bundle_order.specs.Numbered.{numbered_mention, numbered_group, numbered_row}
use Rattle.bundle_order.specs.declared.needs.ItemRange.{ItemRange}
use Rattle.bundle_order.specs.Cut.{cut_item, cut_items, seen_of_item}
use Rattle.bundle_order.proofs.LaterLemmas.{all_within}

-- ---- what a function gives of a list
module _ {X Y : Type 0} (h : X → Option Y) where
  -- h gives y of an element of the list
  pub record GivenOf (xs : List X) (y : Y) : Type 0 where
    pub at : ℕ
    pub x : X
    pub there : slice_get xs at ≡ Some x
    pub gives : h x ≡ Some y

  GivenOf-cons : (x : X) (xs : List X) (y : Y) → GivenOf xs y → GivenOf (x ∷ xs) y
  GivenOf-cons x xs y g = record { at = suc g.at; x = g.x; there = g.there; gives = g.gives }

  pub GivenOf-contained : (xs : List X) (y : Y) → Contains (filter_map h xs) y → GivenOf xs y
  GivenOf-contained [] y c = absurd (Contains-none y c)
  GivenOf-contained (x ∷ xs) y c = step (h x) refl (GivenOf-contained xs y) c
    where
      step : (o : Option Y) → h x ≡ o → (Contains (filter_map h xs) y → GivenOf xs y) → Contains (cons_option o (filter_map h xs)) y → GivenOf (x ∷ xs) y
      step None e ih d = GivenOf-cons x xs y (ih d)
      step (Some z) e ih d = elim ((Contains-cons z (filter_map h xs) y).0 d) [
        | inl s ↦ record { at = zero; x = x; there = refl; gives = e ∙ ap (λ (w : Y). Some w) s }
        | inr r ↦ GivenOf-cons x xs y (ih r)
      ]

  pub Contains-given : (xs : List X) (at : ℕ) (x : X) (y : Y) → slice_get xs at ≡ Some x → h x ≡ Some y → Contains (filter_map h xs) y
  Contains-given [] at x y a g = absurd (none-some x a)
  Contains-given (z ∷ xs) zero x y a g = subst (λ (o : Option Y). Contains (cons_option o (filter_map h xs)) y) (sym (ap h (same_Some z x a) ∙ g)) ((Contains-cons y (filter_map h xs) y).1 (inl refl))
  Contains-given (z ∷ xs) (suc at) x y a g = step (h z) (Contains-given xs at x y a g)
    where
      step : (o : Option Y) → Contains (filter_map h xs) y → Contains (cons_option o (filter_map h xs)) y
      step None c = c
      step (Some w) c = (Contains-cons w (filter_map h xs) y).1 (inr c)

  module _ (P : Y → Bool) where
    -- y is the first thing given that passes
    pub record FirstOf (xs : List X) (y : Y) : Type 0 where
      pub at : ℕ
      pub x : X
      pub there : slice_get xs at ≡ Some x
      pub gives : h x ≡ Some y
      pub passes : P y ≡ true
      pub first : (j : ℕ) (x' : X) (y' : Y) → slice_get xs j ≡ Some x' → h x' ≡ Some y' → P y' ≡ true → at ≤ j

    -- nothing that is given passes
    abbrev pub NoneOf : List X → Type 0
    NoneOf xs = (j : ℕ) (x : X) (y : Y) → slice_get xs j ≡ Some x → h x ≡ Some y → P y ≡ true → ⊥

    abbrev Fails : X → Type 0
    Fails x = (y : Y) → h x ≡ Some y → P y ≡ true → ⊥

    abbrev Both : List X → Option Y → Type 0
    Both zs o = (o ≡ None → NoneOf zs) × ((y : Y) → o ≡ Some y → FirstOf zs y)

    NoneOf-cons : (x : X) (xs : List X) → Fails x → NoneOf xs → NoneOf (x ∷ xs)
    NoneOf-cons x xs out none zero x' y' a g p = out y' (ap h (same_Some x x' a) ∙ g) p
    NoneOf-cons x xs out none (suc j) x' y' a g p = none j x' y' a g p

    FirstOf-cons : (x : X) (xs : List X) (y : Y) → Fails x → FirstOf xs y → FirstOf (x ∷ xs) y
    FirstOf-cons x xs y out f = record { at = suc f.at; x = f.x; there = f.there; gives = f.gives; passes = f.passes; first = first }
      where
        first : (j : ℕ) (x' : X) (y' : Y) → slice_get (x ∷ xs) j ≡ Some x' → h x' ≡ Some y' → P y' ≡ true → suc f.at ≤ j
        first zero x' y' a g p = absurd (out y' (ap h (same_Some x x' a) ∙ g) p)
        first (suc j) x' y' a g p = let le = f.first j x' y' a g p in omega (arith, le)

    pub found : (xs : List X) → (find P (filter_map h xs) ≡ None → NoneOf xs) × ((y : Y) → find P (filter_map h xs) ≡ Some y → FirstOf xs y)
    found [] = (λ n j x y a g p. none-some x a, λ y s. absurd (none-some y s))
    found (x ∷ xs) = step (h x) refl (found xs)
      where
        fails : Fails x → Both xs (find P (filter_map h xs)) → Both (x ∷ xs) (find P (filter_map h xs))
        fails out ih = (λ n. NoneOf-cons x xs out (ih.0 n), λ y s. FirstOf-cons x xs y out (ih.1 y s))

        test : (z : Y) → h x ≡ Some z → (v : Bool) → P z ≡ v → Both xs (find P (filter_map h xs)) → Both (x ∷ xs) (cond v (Some z) (find P (filter_map h xs)))
        test z e true t ih = (
          λ n. absurd (none-some z (sym n)),
          λ y s. record { at = zero; x = x; there = refl; gives = e ∙ s; passes = ap P (sym (same_Some z y s)) ∙ t; first = λ j x' y' a g p. omega arith },
        )
        test z e false t ih = fails (λ y g p. false≢true (sym t ∙ (ap P (same_Some z y (sym e ∙ g)) ∙ p))) ih

        step : (o : Option Y) → h x ≡ o → Both xs (find P (filter_map h xs)) → Both (x ∷ xs) (find P (cons_option o (filter_map h xs)))
        step None e ih = fails (λ y g p. none-some y (sym e ∙ g)) ih
        step (Some z) e ih = test z e (P z) refl ih

-- ---- items
-- item t of these, which are counted from s on, has this identifier at this number
abbrev pub IsAt : ℕ → List (List Mention) → ℕ → ℕ → Mention → Type 0
IsAt s [] t i m = ⊥
IsAt s (row ∷ rows) t i m = ((t ≡ s) × (slice_get row i ≡ Some m)) ⊎ IsAt (s + 1) rows t i m

pub IsAt-low : (s : ℕ) (rows : List (List Mention)) (t i : ℕ) (m : Mention) → IsAt s rows t i m → s ≤ t
IsAt-low s [] t i m a = absurd a
IsAt-low s (row ∷ rows) t i m (inl a) = omega (arith, a.0)
IsAt-low s (row ∷ rows) t i m (inr a) = let low = IsAt-low (s + 1) rows t i m a in omega (arith, low)

-- the identifier with this number in item k of these
abbrev pub mention_in : List (List Mention) → ℕ → ℕ → Option Mention
mention_in rows k i = option_and_then (λ (row : List Mention). slice_get row i) (slice_get rows k)

pub IsAt-from : (s : ℕ) (rows : List (List Mention)) (k t i : ℕ) (m : Mention) → t ≡ s + k → mention_in rows k i ≡ Some m → IsAt s rows t i m
IsAt-from s [] k t i m e a = absurd (none-some m a)
IsAt-from s (row ∷ rows) zero t i m e a = inl ((let same : t ≡ s = omega (arith, e) in same), a)
IsAt-from s (row ∷ rows) (suc k) t i m e a = inr (IsAt-from (s + 1) rows k t i m (let same : t ≡ s + 1 + k = omega (arith, e) in same) a)

pub IsAt-to : (s : ℕ) (rows : List (List Mention)) (t i : ℕ) (m : Mention) → IsAt s rows t i m → (k : ℕ) × (t ≡ s + k) × (mention_in rows k i ≡ Some m)
IsAt-to s [] t i m a = absurd a
IsAt-to s (row ∷ rows) t i m (inl a) = (zero, (let same : t ≡ s + 0 = omega (arith, a.0) in same), a.1)
IsAt-to s (row ∷ rows) t i m (inr a) = let r = IsAt-to (s + 1) rows t i m a in (suc r.0, (let same : t ≡ s + suc r.0 = omega (arith, r.1) in same), r.2)

pub IsAt-mention : (rows : List (List Mention)) (t i : ℕ) (m : Mention) → IsAt 0 rows t i m ↔ (mention_in rows t i ≡ Some m)
IsAt-mention rows t i m = (
  λ a. let r = IsAt-to 0 rows t i m a in subst (λ k. mention_in rows k i ≡ Some m) (let same : r.0 ≡ t = omega (arith, r.1) in same) r.2,
  λ e. IsAt-from 0 rows t t i m (let same : t ≡ 0 + t = omega arith in same) e,
)

-- ---- identifiers
seen_of-inverse : (s : ℕ) (m : Mention) (o : Option ℕ) (one : Seen) → m.top ≡ o → option_map (seen_of s m) o ≡ Some one → (m.top ≡ Some one.binding) × (one ≡ seen_of s m one.binding)
seen_of-inverse s m None one e g = absurd (none-some one g)
seen_of-inverse s m (Some b) one e g =
    let is : seen_of s m b ≡ one = same_Some (seen_of s m b) one g in
    let same : b ≡ one.binding = ap (λ (x : Seen). x.binding) is in
    (e ∙ ap (λ k. Some k) same, sym is ∙ ap (λ k. seen_of s m k) same)

-- what an identifier of an item is
pub seen_as-is : (s : ℕ) (m : Mention) (one : Seen) → seen_as s m ≡ Some one → (m.top ≡ Some one.binding) × (one ≡ seen_of s m one.binding)
seen_as-is s m one g = seen_of-inverse s m m.top one refl g

pub seen_as-from : (s : ℕ) (m : Mention) (b : ℕ) → m.top ≡ Some b → seen_as s m ≡ Some (seen_of s m b)
seen_as-from s m b e = ap (λ o. option_map (seen_of s m) o) e

pub seen_as-item : (s : ℕ) (m : Mention) (one : Seen) → seen_as s m ≡ Some one → one.item ≡ s
seen_as-item s m one g = ap (λ (x : Seen). x.item) (seen_as-is s m one g).1

-- one is what the group has at a place
pub record Stands (s : ℕ) (rows : List (List Mention)) (one : Seen) : Type 0 where
  pub at : ℕ
  pub by : Mention
  pub there : IsAt s rows one.item at by
  pub gives : seen_as one.item by ≡ Some one

pub Stands-contained : (s : ℕ) (rows : List (List Mention)) (one : Seen) → Contains (seen_from s rows) one → Stands s rows one
Stands-contained s [] one c = absurd (Contains-none one c)
Stands-contained s (row ∷ rows) one c = elim (Contains-append_cases (filter_map (seen_as s) row) (seen_from (s + 1) rows) one c) [
  | inl a ↦
      let g = GivenOf-contained (seen_as s) row one a in
      let same = seen_as-item s g.x one g.gives in
      record { at = g.at; by = g.x; there = inl (same, g.there); gives = subst (λ k. seen_as k g.x ≡ Some one) (sym same) g.gives }
  | inr b ↦ let r = Stands-contained (s + 1) rows one b in record { at = r.at; by = r.by; there = inr r.there; gives = r.gives }
]

pub Contains-at : (s : ℕ) (rows : List (List Mention)) (t i : ℕ) (m : Mention) (one : Seen) → IsAt s rows t i m → seen_as t m ≡ Some one → Contains (seen_from s rows) one
Contains-at s [] t i m one a g = absurd a
Contains-at s (row ∷ rows) t i m one (inl a) g = Contains-append_left (filter_map (seen_as s) row) (seen_from (s + 1) rows) one (Contains-given (seen_as s) row i m one a.1 (subst (λ k. seen_as k m ≡ Some one) a.0 g))
Contains-at s (row ∷ rows) t i m one (inr a) g = Contains-append_right (filter_map (seen_as s) row) (seen_from (s + 1) rows) one (Contains-at (s + 1) rows t i m one a g)

module _ (P : Seen → Bool) where
  -- one is the first identifier that passes
  pub record FirstSeen (s : ℕ) (rows : List (List Mention)) (one : Seen) : Type 0 where
    pub at : ℕ
    pub by : Mention
    pub there : IsAt s rows one.item at by
    pub gives : seen_as one.item by ≡ Some one
    pub passes : P one ≡ true
    pub first : (u j : ℕ) (m : Mention) (other : Seen) → IsAt s rows u j m → seen_as u m ≡ Some other → P other ≡ true → (one.item < u) ⊎ ((u ≡ one.item) × (at ≤ j))

  -- none passes
  abbrev pub NoneSeen : ℕ → List (List Mention) → Type 0
  NoneSeen s rows = (u j : ℕ) (m : Mention) (other : Seen) → IsAt s rows u j m → seen_as u m ≡ Some other → P other ≡ true → ⊥

  abbrev BothSeen : ℕ → List (List Mention) → Option Seen → Type 0
  BothSeen k lists o = (o ≡ None → NoneSeen k lists) × ((one : Seen) → o ≡ Some one → FirstSeen k lists one)

  pub seen_first : (s : ℕ) (rows : List (List Mention)) → (find P (seen_from s rows) ≡ None → NoneSeen s rows) × ((one : Seen) → find P (seen_from s rows) ≡ Some one → FirstSeen s rows one)
  seen_first s [] = (λ n u j m other a g p. absurd a, λ one f. absurd (none-some one f))
  seen_first s (row ∷ rows) = back (step (find P (filter_map (seen_as s) row)) (found (seen_as s) P row) (seen_first (s + 1) rows))
    where
      back : BothSeen s (row ∷ rows) (option_or (find P (filter_map (seen_as s) row)) (find P (seen_from (s + 1) rows))) → BothSeen s (row ∷ rows) (find P (seen_from s (row ∷ rows)))
      back b = subst (λ (o : Option Seen). BothSeen s (row ∷ rows) o) (sym (find-append P (filter_map (seen_as s) row) (seen_from (s + 1) rows))) b

      in_row : NoneOf (seen_as s) P row → (u j : ℕ) (m : Mention) (other : Seen) → u ≡ s → slice_get row j ≡ Some m → seen_as u m ≡ Some other → P other ≡ true → ⊥
      in_row none u j m other e a g p = none j m other a (subst (λ k. seen_as k m ≡ Some other) e g) p

      step : (o : Option Seen) → (o ≡ None → NoneOf (seen_as s) P row) × ((y : Seen) → o ≡ Some y → FirstOf (seen_as s) P row y) → BothSeen (s + 1) rows (find P (seen_from (s + 1) rows)) → BothSeen s (row ∷ rows) (option_or o (find P (seen_from (s + 1) rows)))
      step None here ih = (
        λ n u j m other a g p. elim a [ inl x ↦ in_row (here.0 refl) u j m other x.0 x.1 g p | inr y ↦ ih.0 n u j m other y g p ],
        λ one f. let r = ih.1 one f in record {
          at = r.at;
          by = r.by;
          there = inr r.there;
          gives = r.gives;
          passes = r.passes;
          first = λ u j m other a g p. elim a [ inl x ↦ absurd (in_row (here.0 refl) u j m other x.0 x.1 g p) | inr y ↦ r.first u j m other y g p ];
        },
      )
      step (Some y) here ih = (λ n. absurd (none-some y (sym n)), λ one f. one_is one (same_Some y one f) (here.1 y refl))
        where
          one_is : (one : Seen) → y ≡ one → FirstOf (seen_as s) P row y → FirstSeen s (row ∷ rows) one
          one_is one same r =
              let gives : seen_as s r.x ≡ Some one = r.gives ∙ ap (λ (z : Seen). Some z) same in
              let item = seen_as-item s r.x one gives in
              record {
                at = r.at;
                by = r.x;
                there = inl (item, r.there);
                gives = subst (λ k. seen_as k r.x ≡ Some one) (sym item) gives;
                passes = ap P (sym same) ∙ r.passes;
                first = λ u j m other a g p. elim a [
                  | inl x ↦ inr (x.0 ∙ sym item, r.first j m other x.1 (subst (λ k. seen_as k m ≡ Some other) x.0 g) p)
                  | inr z ↦ let low = IsAt-low (s + 1) rows u j m z in inl (omega (arith, low, item))
                ];
              }

-- ---- frame
module _ (item : List Item) (told : ℕ → TopBinding) where
  -- the innermost of the nodes around a place
  pub record Innermost (frame : ItemFrame) (path : List Around) : Type 0 where
    pub node : Around
    pub outer : List Around
    pub is : path ≡ node ∷ outer
    pub opened : IsItemFrame item told frame node outer

  pub innermost : (frames : List ItemFrame) (frame : ItemFrame) (path : List Around) → 0 < length frames → frame ≡ get_or frames (length frames - 1) frame → AreItemFrames item told (reverse frames) path → Innermost frame path
  innermost frames frame path some last all = by (reverse frames) path refl all
    where
      by : (l : List ItemFrame) (around : List Around) → reverse frames ≡ l → AreItemFrames item told l around → Innermost frame around
      by [] around e a = let len = length-reverse frames in absurd (omega (arith, some, len, ap length e))
      by (f ∷ fs) [] e a = absurd a
      by (f ∷ fs) (node ∷ outer) e a =
          let same : f ≡ frame = sym (ap (λ (l : List ItemFrame). get_or l 0 frame) e) ∙ (get_or-reverse frames 0 frame some ∙ (ap (λ k. get_or frames k frame) (let n : length frames - 1 - 0 ≡ length frames - 1 = omega arith in n) ∙ sym last)) in
          record { node = node; outer = outer; is = refl; opened = subst (λ (x : ItemFrame). IsItemFrame item told x node outer) same a.0 }

  -- no node is around a place where none is open
  pub outermost : (frames : List ItemFrame) (path : List Around) → length frames ≤ 0 → AreItemFrames item told (reverse frames) path → path ≡ []
  outermost [] [] none a = refl
  outermost [] (node ∷ outer) none a = absurd a
  outermost (f ∷ fs) path none a = absurd (omega (arith, none))

  module _ (frame : ItemFrame) (node : Around) (outer : List Around) (o : IsItemFrame item told frame node outer) (field : ℕ) where
    around : path_in frame field outer ≡ in_field field (node ∷ outer)
    around = ap (λ (h : Head). let n : Around = record { head = h; begins = frame.begins; field = field } in n ∷ outer) o.head ∙ ap (λ (b : ℕ). let n : Around = record { head = node.head; begins = b; field = field } in n ∷ outer) o.begins

    calls : frame.is_object_assign ≡ calls_assign item told (head_of frame.node) frame.begins
    calls = o.calls ∙ (ap (λ (h : Head). calls_assign item told h node.begins) (sym o.head) ∙ ap (λ (b : ℕ). calls_assign item told (head_of frame.node) b) (sym o.begins))

    pub spot_made : (spot : ItemSpot)
        → ((out : List Around) → IsKnown frame.spot out → IsKnown spot (path_in frame field out))
        → ((out : List Around) → frame.spot.is_later ≡ runs_later out → spot.is_later ≡ runs_later (path_in frame field out))
        → ((its : List Item) (tells : ℕ → TopBinding) (out : List Around) → frame.is_object_assign ≡ calls_assign its tells (head_of frame.node) frame.begins → frame.spot.is_in_assign ≡ is_in_assign_of (λ place. (tells place).is_object) its out → spot.is_in_assign ≡ is_in_assign_of (λ place. (tells place).is_object) its (path_in frame field out))
        → ((its : List Item) (out : List Around) → no_value_at its frame.spot.declarator ≡ has_no_value its out → no_value_at its spot.declarator ≡ has_no_value its (path_in frame field out))
        → IsItemSpot item told spot (in_field field (node ∷ outer))
    spot_made spot known later assign empty = subst (λ (p : List Around). IsItemSpot item told spot p) around (record {
      known = known outer o.spot.known;
      later = later outer o.spot.later;
      assign = assign item told outer calls o.spot.assign;
      empty = empty item outer o.spot.empty;
    })

-- ---- object
same_bool : (a b : Bool) → (a ≡ true → b ≡ true) → (b ≡ true → a ≡ true) → a ≡ b
same_bool true true f g = refl
same_bool true false f g = sym (f refl)
same_bool false true f g = g refl
same_bool false false f g = refl

and_swap : (s t : List ℕ) (c : Bool) → (bytes_eq s t && c) ≡ (c && bytes_eq t s)
and_swap s t c = same_bool (bytes_eq s t && c) (c && bytes_eq t s)
    (λ e. let p = and_parts (bytes_eq s t) c e in and_from c (bytes_eq t s) p.1 ((bytes_eq-Decides t s).1 (sym ((bytes_eq-Decides s t).0 p.0))))
    (λ e. let p = and_parts c (bytes_eq t s) e in and_from (bytes_eq s t) c ((bytes_eq-Decides s t).1 (sym ((bytes_eq-Decides t s).0 p.1))) p.0)

-- ---- the symbol of a global
global_same : (x y : List ℕ) → Global x ≡ Global y → y ≡ x
global_same x y e = cc

not_bound : (scope : Scope) (name : Name) (y : List ℕ) → Bound scope name ≡ Global y → ⊥
not_bound scope name y e = cc

module _ (all : List Declared) (scopes : List Scope) (symbol : List ℕ) (ctxt : ℕ) (y : List ℕ) where
  abbrev name : Name
  name = name_of ByContext symbol ctxt

  of_scope : (s : Option Scope) → bound_in (without_context name) s ≡ Global y → y ≡ symbol
  of_scope None e = global_same symbol y e
  of_scope (Some scope) e = absurd (not_bound scope (without_context name) y e)

  of_implied : (b : Bool) → cond b (Global symbol) (bound_in (without_context name) (find (λ scope. is_implied_in all scope name) scopes)) ≡ Global y → y ≡ symbol
  of_implied true e = global_same symbol y e
  of_implied false e = of_scope (find (λ scope. is_implied_in all scope name) scopes) e

  of_written : (s : Option Scope) → written_or_implied all scopes name s ≡ Global y → y ≡ symbol
  of_written None e = of_implied (eqb ctxt 1) e
  of_written (Some scope) e = absurd (not_bound scope name y e)

  of_own : (d : Option Declared) → own_or_found all (denoted_by_context all scopes name) d ≡ Global y → y ≡ symbol
  of_own None e = of_written (find (λ scope. is_written_in all scope name) scopes) e
  of_own (Some d) e = absurd (not_bound _ d.name y e)

symbol_of : (all : List Declared) (o : Occurrence) (y : List ℕ) → denoted_of ByContext Es all o ≡ Global y → y ≡ o.sym
symbol_of all o y e = of_own all (scopes_around Es o.path) o.sym o.ctxt y (declaration_of ByContext Es o) e

-- ---- the element of an occurrence
abbrev is_named : Occurrence → Bool
is_named o = eqb o.ctxt 1 && bytes_eq o.sym (codes "Object")

element-is : (s : Spot_object) (x : Item) (o : Occurrence) → occurrence_of s x ≡ Some o → is_global_object x ≡ is_named o
element-is s (of_item.Open field head) o e = absurd (none-some o e)
element-is s (of_item.Ident field symbol ctxt TheVariants.Binding) o e = ap (λ (w : Occurrence). is_named w) (same_Some _ o e)
element-is s (of_item.Ident field symbol ctxt TheVariants.Reference) o e = ap (λ (w : Occurrence). is_named w) (same_Some _ o e)
element-is s (of_item.Ident field symbol ctxt TheVariants.Word) o e = absurd (none-some o e)
element-is s (of_item.Hole field) o e = absurd (none-some o e)
element-is s of_item.Close o e = absurd (none-some o e)

by_denoted : (scopes : List NumberedScope) (bindings : List Binding) (b : Option ℕ) (d : Denoted) (o : Occurrence) → IsDenoted scopes bindings b d → ((y : List ℕ) → d ≡ Global y → y ≡ o.sym) → (is_global_named (codes "Object") (Some d) && eqb o.ctxt 1) ≡ (not (is_some b) && is_named o)
by_denoted scopes bindings None (Global y) o i f = and_swap (codes "Object") y (eqb o.ctxt 1) ∙ ap (λ (s : List ℕ). eqb o.ctxt 1 && bytes_eq s (codes "Object")) (f y refl)
by_denoted scopes bindings None (Bound scope name) o i f = absurd i
by_denoted scopes bindings (Some n) (Global y) o i f = absurd i
by_denoted scopes bindings (Some n) (Bound scope name) o i f = refl

-- ---- the place
module _ (tree : List Item) (table : Denotations) (top : ℕ) (is : IsDenotationTable ByContext Es tree table) (only : IsOnlyTop table top) where
  abbrev all : List Declared
  all = declared ByContext Es tree

  abbrev test : Option Occurrence → Bool
  test x = is_global_named (codes "Object") (option_map (denoted_of ByContext Es all) x) && is_of_nothing ByContext x

  none_there : (x : Option Occurrence) → ((o : Occurrence) → x ≡ Some o → ⊥) → test x ≡ false
  none_there None n = refl
  none_there (Some o) n = absurd (n o refl)

  pub object_at : (p : ℕ) → is_object_at ByContext tree p ≡ (told_at tree table top p).is_object
  object_at p = by (last_entry tree table top p table.occurrences.items no_binding_told)
    where
      by : (NoEntry tree table top p table.occurrences.items × (told_at tree table top p ≡ no_binding_told)) ⊎ Last tree table top p table.occurrences.items (told_at tree table top p) → test (occurrence_at tree p) ≡ (told_at tree table top p).is_object
      by (inl n) = none_there (occurrence_at tree p) (no_occurrence tree table top is only p n.0) ∙ ap (λ (t : TopBinding). t.is_object) (sym n.1)
      by (inr l) =
          let known = entry_at tree table top is only p l.i l.entry l.at l.place in
          let on = stands_on tree p known.o known.stands in
          ap test known.stands
          ∙ (by_denoted (map numbered_scope table.scopes.items) table.bindings.items l.entry.binding (denoted_of ByContext Es all known.o) known.o known.tells (symbol_of all known.o)
          ∙ (ap (λ b. not (is_some l.entry.binding) && b) (sym (element-is (spot_before tree p) on.item known.o on.is))
          ∙ ap (λ (t : TopBinding). t.is_object) (sym (l.is ∙ ap (λ (x : Option Item). told_by x table top l.entry) on.at))))

-- ---- what is of the top
scope-top : (scope : Scope) → scope_order scope ≡ 1 → scope ≡ Top
scope-top Wrapper e = absurd (omega (arith, e))
scope-top Top e = refl
scope-top (Inner kind begins) e = absurd (omega (arith, e))

pub is_top-of : (d : Denoted) → is_of_scope Top d ≡ true → (name : Name) × (d ≡ Bound Top name)
is_top-of (Bound scope name) e = (name, ap (λ s. Bound s name) (scope-top scope (eqb-true (scope_order scope) 1 e)))
is_top-of (Global x) e = absurd (false≢true e)

pub same_context-is : (a b : Option ℕ) → same_context a b ≡ true → a ≡ b
same_context-is None None e = refl
same_context-is None (Some b) e = absurd (false≢true e)
same_context-is (Some a) None e = absurd (false≢true e)
same_context-is (Some a) (Some b) e = ap (λ k. Some k) (eqb-true a b e)

pub same_context-refl : (a : Option ℕ) → same_context a a ≡ true
same_context-refl None = refl
same_context-refl (Some a) = eq-eqb a a refl

name_is : (a b : Name) → a.sym ≡ b.sym → a.ctxt ≡ b.ctxt → a ≡ b
name_is a b e f = ap (λ (s : List ℕ). let n : Name = record { sym = s; ctxt = a.ctxt } in n) e ∙ ap (λ (c : Option ℕ). let n : Name = record { sym = b.sym; ctxt = c } in n) f

pub same-top : (name : Name) (d : Denoted) → same_denoted d (Bound Top name) ≡ true → d ≡ Bound Top name
same-top name (Bound scope its) e =
    let p = and_parts (same_scope scope Top && bytes_eq its.sym name.sym) (same_context its.ctxt name.ctxt) e in
    let q = and_parts (same_scope scope Top) (bytes_eq its.sym name.sym) p.0 in
    ap (λ s. Bound s its) (scope-top scope (eqb-true (scope_order scope) 1 q.0)) ∙ ap (λ n. Bound Top n) (name_is its name ((bytes_eq-Decides its.sym name.sym).0 q.1) (same_context-is its.ctxt name.ctxt p.1))
same-top name (Global x) e = absurd (false≢true e)

pub same-refl : (name : Name) → same_denoted (Bound Top name) (Bound Top name) ≡ true
same-refl name = and_from (same_scope Top Top && bytes_eq name.sym name.sym) (same_context name.ctxt name.ctxt) (and_from (same_scope Top Top) (bytes_eq name.sym name.sym) refl ((bytes_eq-Decides name.sym name.sym).1 refl)) (same_context-refl name.ctxt)

-- ---- each once
pub once-from : (xs : List Denoted) (y : Denoted) → Contains (each_denoted_once xs) y → Contains xs y
once-from [] y c = c
once-from (x ∷ rest) y c = step (once-from rest y) ((Contains-cons x (filter (λ other. not (same_denoted x other)) (each_denoted_once rest)) y).0 c)
  where
    step : (Contains (each_denoted_once rest) y → Contains rest y) → (x ≡ y) ⊎ Contains (filter (λ other. not (same_denoted x other)) (each_denoted_once rest)) y → Contains (x ∷ rest) y
    step ih (inl e) = (Contains-cons x rest y).1 (inl e)
    step ih (inr r) = (Contains-cons x rest y).1 (inr (ih ((Contains-filter (λ other. not (same_denoted x other)) (each_denoted_once rest) y).0 r).0))

pub once-keeps : (xs : List Denoted) (name : Name) → Contains xs (Bound Top name) → Contains (each_denoted_once xs) (Bound Top name)
once-keeps [] name c = c
once-keeps (x ∷ rest) name c = step (once-keeps rest name) ((Contains-cons x rest (Bound Top name)).0 c)
  where
    later : (b : Bool) → same_denoted x (Bound Top name) ≡ b → Contains (each_denoted_once rest) (Bound Top name) → Contains (x ∷ filter (λ other. not (same_denoted x other)) (each_denoted_once rest)) (Bound Top name)
    later true e r = (Contains-cons x (filter (λ other. not (same_denoted x other)) (each_denoted_once rest)) (Bound Top name)).1 (inl (same-top name x e))
    later false e r = (Contains-cons x (filter (λ other. not (same_denoted x other)) (each_denoted_once rest)) (Bound Top name)).1 (inr ((Contains-filter (λ other. not (same_denoted x other)) (each_denoted_once rest) (Bound Top name)).1 (r, not_from_false (same_denoted x (Bound Top name)) e)))

    step : (Contains rest (Bound Top name) → Contains (each_denoted_once rest) (Bound Top name)) → (x ≡ Bound Top name) ⊎ Contains rest (Bound Top name) → Contains (x ∷ filter (λ other. not (same_denoted x other)) (each_denoted_once rest)) (Bound Top name)
    step ih (inl e) = (Contains-cons x (filter (λ other. not (same_denoted x other)) (each_denoted_once rest)) (Bound Top name)).1 (inl e)
    step ih (inr r) = later (same_denoted x (Bound Top name)) refl (ih r)

-- ---- places in a list
pub position-none : (p : Denoted → Bool) (xs : List Denoted) → ((x : Denoted) → Contains xs x → p x ≡ true → ⊥) → position p xs ≡ None
position-none p xs none = elim (cases_lt (position_or_len p xs) (length xs)) [
  | inl l ↦ absurd (none (get_or xs (position_or_len p xs) (Global [])) (Contains-get_or xs (position_or_len p xs) (Global []) l) (passes_at_first p xs (Global []) l))
  | inr g ↦ ap (λ b. cond b (Some (position_or_len p xs)) None) (le-ltb (position_or_len p xs) (length xs) g)
]

pub position-there : (p : Denoted → Bool) (xs : List Denoted) (x : Denoted) → Contains xs x → p x ≡ true → (k : ℕ) × (position p xs ≡ Some k)
position-there p xs x c t = elim (cases_lt (position_or_len p xs) (length xs)) [
  | inl l ↦ (position_or_len p xs, ap (λ b. cond b (Some (position_or_len p xs)) None) (lt-ltb (position_or_len p xs) (length xs) l))
  | inr g ↦ absurd (true≢false (sym t ∙ (ap p (sym c.2) ∙ fails_before_first p xs c.0 x (omega (arith, c.1, g)))))
]

-- the same place is that of one binding
pub position-one : (tops : List Denoted) → ((x : Denoted) → Contains tops x → is_of_scope Top x ≡ true) → (a b : Denoted) (k : ℕ) → position (same_denoted a) tops ≡ Some k → position (same_denoted b) tops ≡ Some k → a ≡ b
position-one tops all a b k e f =
    let x = get_or tops k (Global []) in
    let p = position-Some (same_denoted a) tops k (Global []) e in
    let q = position-Some (same_denoted b) tops k (Global []) f in
    let top = is_top-of x (all x (Contains-get_or tops k (Global []) p.0)) in
    same-top top.0 a (ap (same_denoted a) (sym top.1) ∙ p.1) ∙ sym (same-top top.0 b (ap (same_denoted b) (sym top.1) ∙ q.1))

-- ---- identifiers of items, by their numbers
module _ (f : TopItem → Occurrence → Mention) where
  -- the identifier with these numbers
  pub record Cell (items : List TopItem) (s i : ℕ) (m : Mention) : Type 0 where
    pub item : TopItem
    pub o : Occurrence
    pub at : slice_get items s ≡ Some item
    pub in_item : slice_get (occurrences item.items) i ≡ Some o
    pub is : m ≡ f item o

  abbrev pub rows : List TopItem → List (List Mention)
  rows items = map (λ item. map (f item) (occurrences item.items)) items

  in_row : (items : List TopItem) (s i : ℕ) (m : Mention) (item : TopItem) → slice_get items s ≡ Some item → (x : Option Occurrence) → slice_get (occurrences item.items) i ≡ x → option_map (f item) x ≡ Some m → Cell items s i m
  in_row items s i m item at None e g = absurd (none-some m g)
  in_row items s i m item at (Some o) e g = record { item = item; o = o; at = at; in_item = e; is = sym (same_Some (f item o) m g) }

  in_rows : (items : List TopItem) (s i : ℕ) (m : Mention) (x : Option TopItem) → slice_get items s ≡ x → option_and_then (λ (row : List Mention). slice_get row i) (option_map (λ (item : TopItem). map (f item) (occurrences item.items)) x) ≡ Some m → Cell items s i m
  in_rows items s i m None e g = absurd (none-some m g)
  in_rows items s i m (Some item) e g = in_row items s i m item e (slice_get (occurrences item.items) i) refl (sym (slice_get-map (f item) (occurrences item.items) i) ∙ g)

  pub cell : (items : List TopItem) (s i : ℕ) (m : Mention) → mention_in (rows items) s i ≡ Some m → Cell items s i m
  cell items s i m e = in_rows items s i m (slice_get items s) refl (ap (λ (x : Option (List Mention)). option_and_then (λ (row : List Mention). slice_get row i) x) (sym (slice_get-map (λ (item : TopItem). map (f item) (occurrences item.items)) items s)) ∙ e)

Contains-flat_map : {X Y : Type 0} (f : X → List Y) (xs : List X) (s : ℕ) (x : X) (y : Y) → slice_get xs s ≡ Some x → Contains (f x) y → Contains (flat_map f xs) y
Contains-flat_map f [] s x y e c = absurd (none-some x e)
Contains-flat_map {X} {Y} f (z ∷ xs) zero x y e c = Contains-append_left (f z) (flat_map f xs) y (subst (λ (w : X). Contains (f w) y) (sym (same_Some z x e)) c)
Contains-flat_map f (z ∷ xs) (suc s) x y e c = Contains-append_right (f z) (flat_map f xs) y (Contains-flat_map f xs s x y e c)

-- ---- an argument of `Object.assign`, by one test and by another that answers the same
same_in_assign : (test other : ℕ → Bool) → ((p : ℕ) → test p ≡ other p) → (item : List Item) (path : List Around) → is_in_assign_of test item path ≡ is_in_assign_of other item path
same_in_assign test other same item [] = refl
same_in_assign test other same item (node ∷ outer) =
    ap (λ b. (is_call_head node.head && eqb node.field 1 && is_text (codes "assign") (property_of (node_at item (node.begins + 1))) && b) || is_in_assign_of test item outer) (same (node.begins + 2))
    ∙ ap (λ b. (is_call_head node.head && eqb node.field 1 && is_text (codes "assign") (property_of (node_at item (node.begins + 1))) && other (node.begins + 2)) || b) (same_in_assign test other same item outer)

-- ---- numbers
module _ (tree : List Item) (table : Denotations) (top : ℕ) (is : IsDenotationTable ByContext Es tree table) (only : IsOnlyTop table top) (told : ℕ → TopBinding) (told_is : (p : ℕ) → told p ≡ told_at tree table top p) (items : List TopItem) where
  abbrev tops : List Denoted
  tops = mentioned ByContext Top tree items

  abbrev all_number : List Denoted
  all_number = flat_map (λ (item : TopItem). filter_map (denoted_in ByContext tree item) (occurrences item.items)) items

  tops_of : (x : Denoted) → Contains tops x → is_of_scope Top x ≡ true
  tops_of x c = ((Contains-filter (is_of_scope Top) all_number x).0 (once-from (filter (is_of_scope Top) all_number) x c)).1

  -- the number by first mention of what is denoted
  abbrev number : Option Denoted → Option ℕ
  number d = option_and_then (λ (x : Denoted). position (same_denoted x) tops) d

  no_number : (d : Option Denoted) → ((name : Name) → d ≡ Some (Bound Top name) → ⊥) → number d ≡ None
  no_number None n = refl
  no_number (Some d) n = position-none (same_denoted d) tops (λ x c t. let w = is_top-of x (tops_of x c) in n w.0 (ap (λ (y : Denoted). Some y) (same-top w.0 d (ap (same_denoted d) (sym w.1) ∙ t))))

  -- an identifier of an item
  module _ (s i : ℕ) (item : TopItem) (o : Occurrence) (at : slice_get items s ≡ Some item) (in_item : slice_get (occurrences item.items) i ≡ Some o) where
    there : (name : Name) → denoted_at ByContext Es tree (item.start + o.place) ≡ Some (Bound Top name) → (k : ℕ) × (number (Some (Bound Top name)) ≡ Some k)
    there name e = position-there (same_denoted (Bound Top name)) tops (Bound Top name)
        (once-keeps (filter (is_of_scope Top) all_number) name ((Contains-filter (is_of_scope Top) all_number (Bound Top name)).1 (Contains-flat_map (λ (it : TopItem). filter_map (denoted_in ByContext tree it) (occurrences it.items)) items s item (Bound Top name) at (Contains-given (denoted_in ByContext tree item) (occurrences item.items) i o (Bound Top name) in_item e), refl)))
        (same-refl name)

  -- what the two numbers of an identifier are
  data Numbers (p : ℕ) (m n : Option ℕ) : Type 0 where
    neither : m ≡ None → n ≡ None → Numbers p m n
    both : (k b : ℕ) (name : Name) → m ≡ Some k → n ≡ Some b → number (Some (Bound Top name)) ≡ Some k → IsBinding (map numbered_scope table.scopes.items) table.bindings.items b Top name → Numbers p m n

  numbers_of : (s i : ℕ) (item : TopItem) (o : Occurrence) → slice_get items s ≡ Some item → slice_get (occurrences item.items) i ≡ Some o → Numbers (item.start + o.place) (number (denoted_at ByContext Es tree (item.start + o.place))) (told (item.start + o.place)).top
  numbers_of s i item o at in_item = by (top_at tree table top is only (item.start + o.place))
    where
      by : TopAt tree table top (item.start + o.place) → Numbers (item.start + o.place) (number (denoted_at ByContext Es tree (item.start + o.place))) (told (item.start + o.place)).top
      by (inl n) = neither (no_number (denoted_at ByContext Es tree (item.start + o.place)) n.other) (ap (λ (t : TopBinding). t.top) (told_is (item.start + o.place)) ∙ n.told)
      by (inr (b, name, t)) =
          let k = there s i item o at in_item name t.denoted in
          both k.0 b name (ap number t.denoted ∙ k.1) (ap (λ (x : TopBinding). x.top) (told_is (item.start + o.place)) ∙ t.told) k.1 t.binding

  none_both : (p : ℕ) (m n : Option ℕ) → Numbers p m n → (m ≡ None) ↔ (n ≡ None)
  none_both p m n (neither a b) = ((λ e. b), λ e. a)
  none_both p m n (both k b name e f g h) = ((λ x. absurd (none-some k (sym x ∙ e))), λ x. absurd (none-some b (sym x ∙ f)))

  one_name : (b : ℕ) (x y : Name) → IsBinding (map numbered_scope table.scopes.items) table.bindings.items b Top x → IsBinding (map numbered_scope table.scopes.items) table.bindings.items b Top y → x ≡ y
  one_name b x y f g = sym f.named ∙ (ap (λ (z : Binding). binding_name z) (same_Some f.binding g.binding (sym f.at ∙ g.at)) ∙ g.named)

  same_number : (x y : Name) → Bound Top x ≡ Bound Top y → x ≡ y
  same_number x y e = cc

  same_both : (p q : ℕ) (m n m' n' : Option ℕ) → Numbers p m n → Numbers q m' n' → (m ≡ m') ↔ (n ≡ n')
  same_both p q m n m' n' (neither a b) (neither c d) = ((λ e. b ∙ sym d), λ e. a ∙ sym c)
  same_both p q m n m' n' (neither a b) (both k x name e f g h) = ((λ w. absurd (none-some k (sym a ∙ (w ∙ e)))), λ w. absurd (none-some x (sym b ∙ (w ∙ f))))
  same_both p q m n m' n' (both k x name e f g h) (neither a b) = ((λ w. absurd (none-some k (sym a ∙ (sym w ∙ e)))), λ w. absurd (none-some x (sym b ∙ (sym w ∙ f))))
  same_both p q m n m' n' (both k x name e f g h) (both k' x' name' e' f' g' h') = (
    λ w.
        let same : k ≡ k' = same_Some k k' (sym e ∙ (w ∙ e')) in
        let its = same_number name name' (position-one tops tops_of (Bound Top name) (Bound Top name') k' (g ∙ ap (λ j. Some j) same) g') in
        f ∙ (ap (λ j. Some j) (is.one x x' Top name' (subst (λ (z : Name). IsBinding (map numbered_scope table.scopes.items) table.bindings.items x Top z) its h) h') ∙ sym f'),
    λ w.
        let same : x ≡ x' = same_Some x x' (sym f ∙ (w ∙ f')) in
        let its = one_name x' name name' (subst (λ j. IsBinding (map numbered_scope table.scopes.items) table.bindings.items j Top name) same h) h' in
        e ∙ (sym g ∙ (ap (λ (z : Name). number (Some (Bound Top z))) its ∙ (g' ∙ sym e'))),
  )

  -- ---- the two groups
  abbrev by_mention : TopItem → Occurrence → Mention
  by_mention item o = mention_of ByContext tree tops item o

  abbrev by_table : TopItem → Occurrence → Mention
  by_table item o = numbered_mention (λ place. told (item.start + place)) item.items o

  but_top : (item : TopItem) (o : Occurrence) → IsSameButTop (by_mention item o) (by_table item o)
  but_top item o = record {
    declares = refl;
    later = refl;
    assigned = refl;
    argument = refl;
    chain = refl;
    prototype = ap (λ b. is_prototype_read item.items o.path && b) (same_in_assign (λ place. is_object_at ByContext tree (item.start + place)) (λ place. (told (item.start + place)).is_object) (λ place. object_at tree table top is only (item.start + place) ∙ ap (λ (t : TopBinding). t.is_object) (sym (told_is (item.start + place)))) item.items o.path);
    valueless = refl;
  }

  zip_maps : {X Y : Type 0} (R : Y → Y → Type 0) (f g : X → Y) → ((x : X) → R (f x) (g x)) → (xs : List X) → AllZip R (map f xs) (map g xs)
  zip_maps R f g each [] = tt
  zip_maps R f g each (x ∷ xs) = (each x, zip_maps R f g each xs)

  pair_of : (s i : ℕ) (a b : Mention) → mention_in (rows by_mention items) s i ≡ Some a → mention_in (rows by_table items) s i ≡ Some b → (p : ℕ) × Numbers p a.top b.top
  pair_of s i a b e f =
      let one = cell by_mention items s i a e in
      let other = cell by_table items s i b f in
      let item : other.item ≡ one.item = same_Some other.item one.item (sym other.at ∙ one.at) in
      let o : other.o ≡ one.o = same_Some other.o one.o (sym other.in_item ∙ (ap (λ (it : TopItem). slice_get (occurrences it.items) i) item ∙ one.in_item)) in
      let its : b ≡ by_table one.item one.o = other.is ∙ (ap (λ (it : TopItem). by_table it other.o) item ∙ ap (λ (x : Occurrence). by_table one.item x) o) in
      let numbers = numbers_of s i one.item one.o one.at one.in_item in
      (one.item.start + one.o.place, subst (λ (n : Option ℕ). Numbers (one.item.start + one.o.place) a.top n) (ap (λ (m : Mention). m.top) (sym its)) (subst (λ (n : Option ℕ). Numbers (one.item.start + one.o.place) n (told (one.item.start + one.o.place)).top) (ap (λ (m : Mention). m.top) (sym one.is)) numbers))

  pub numbered_alike : (owners : List (Option ℕ)) → IsRenumbered (group_of ByContext Top tree items owners) (numbered_group told items owners)
  numbered_alike owners = record {
    owners = refl;
    items = zip_maps (AllZip IsSameButTop) (λ (item : TopItem). map (by_mention item) (occurrences item.items)) (λ (item : TopItem). map (by_table item) (occurrences item.items)) (λ item. zip_maps IsSameButTop (by_mention item) (by_table item) (but_top item) (occurrences item.items)) items;
    none = λ s i a b e f. let p = pair_of s i a b e f in none_both p.0 a.top b.top p.1;
    same = λ s i t j a b c d e f g h. let p = pair_of s i a c e g in let q = pair_of t j b d f h in same_both p.0 q.0 a.top c.top b.top d.top p.1 q.1;
  }

-- ---- open
four_true : (a c d : Bool) → (a && (c && d)) ≡ (((a && true) && c) && d)
four_true true c d = refl
four_true false c d = refl

four_false : (a c d : Bool) → (((a && false) && c) && d) ≡ false
four_false true c d = refl
four_false false c d = refl

module _ (item : List Item) (told : ℕ → TopBinding) (node : Around) (outer : List Around) (calls rest : Bool) (e : calls ≡ calls_assign item told node.head node.begins) (f : rest ≡ is_in_assign_of (λ place. (told place).is_object) item outer) where
  abbrev text : Bool
  text = is_text (codes "assign") (property_of (node_at item (node.begins + 1)))

  abbrev test_open : Bool
  test_open = (told (node.begins + 2)).is_object

  abbrev behind : Bool
  behind = is_in_assign_of (λ place. (told place).is_object) item outer

  pub in_second : node.field ≡ 1 → (calls || rest) ≡ is_in_assign_of (λ place. (told place).is_object) item (node ∷ outer)
  in_second h = ap (λ b. b || rest) (e ∙ (four_true (is_call_head node.head) text test_open ∙ ap (λ b. (((is_call_head node.head && b) && text) && test_open)) (sym (eq-eqb node.field 1 h)))) ∙ ap (λ b. (((is_call_head node.head && eqb node.field 1) && text) && test_open) || b) f

  pub not_in_second : (node.field ≡ 1 → ⊥) → rest ≡ is_in_assign_of (λ place. (told place).is_object) item (node ∷ outer)
  not_in_second h = f ∙ ap (λ b. b || behind) (sym (ap (λ b. (((is_call_head node.head && b) && text) && test_open)) (ne_eqb node.field 1 h) ∙ four_false (is_call_head node.head) text test_open))

-- ---- a part of a list
pub range-map : {X Y : Type 0} (f : X → Y) (xs : List X) (from to : ℕ) → map f (slice_range xs from to) ≡ slice_range (map f xs) from to
range-map f xs from to = sym (ap (λ l. take (to - from) l) (drop-map f from xs) ∙ take-map f (to - from) (drop from xs))

-- ---- one item more
pub seen_from-push : (s : ℕ) (rows : List (List Mention)) (row : List Mention) → seen_from s (rows ++ row ∷ []) ≡ seen_from s rows ++ filter_map (seen_as (s + length rows)) row
seen_from-push s [] row = append-nil (filter_map (seen_as s) row) ∙ ap (λ n. filter_map (seen_as n) row) (let same : s ≡ s + 0 = omega arith in same)
seen_from-push s (first ∷ rows) row =
    ap (λ l. filter_map (seen_as s) first ++ l) (seen_from-push (s + 1) rows row ∙ ap (λ n. seen_from (s + 1) rows ++ filter_map (seen_as n) row) (let same : s + 1 + length rows ≡ s + suc (length rows) = omega arith in same))
    ∙ sym (append_assoc (filter_map (seen_as s) first) (seen_from (s + 1) rows) (filter_map (seen_as (s + suc (length rows))) row))

module _ (told : ℕ → TopBinding) (tree : List Item) (ranges : List ItemRange) where
  abbrev rows_of : List ItemRange → List (List Mention)
  rows_of its = map (numbered_row told) (cut_items tree its)

  pub ranges-more : (n : ℕ) (range : ItemRange) → n < length ranges → seen_from 0 (rows_of (take (n + 1) ranges)) ≡ seen_from 0 (rows_of (take n ranges)) ++ seen_of_item n (λ p. told ((get_or ranges n range).from + p)) (slice_range tree (get_or ranges n range).from (get_or ranges n range).to)
  ranges-more n range l =
      let last = get_or ranges n range in
      let count : 0 + length (rows_of (take n ranges)) ≡ n = omega (arith, length-map (cut_items tree (take n ranges)) (numbered_row told), length-map (take n ranges) (cut_item tree), length-take-le n ranges (omega (arith, l))) in
      ap (λ its. seen_from 0 (rows_of its)) (take_more ranges n range l)
      ∙ (ap (λ (its : List TopItem). seen_from 0 (map (numbered_row told) its)) (map-append (cut_item tree) (take n ranges) (last ∷ []))
      ∙ (ap (λ (rows : List (List Mention)). seen_from 0 rows) (map-append (numbered_row told) (cut_items tree (take n ranges)) (cut_item tree last ∷ []))
      ∙ (seen_from-push 0 (rows_of (take n ranges)) (numbered_row told (cut_item tree last))
      ∙ ap (λ k. seen_from 0 (rows_of (take n ranges)) ++ filter_map (seen_as k) (numbered_row told (cut_item tree last))) count)))

-- ---- the numbers of bindings
module _ (tree : List Item) (table : Denotations) (top : ℕ) where
  number_within : (n k : ℕ) (b : Option Binding) → slice_get table.bindings.items n ≡ b → top_binding_number top n b ≡ Some k → k < length table.bindings.items
  number_within n k None e t = absurd (none-some k t)
  number_within n k (Some b) e t = by (eqb b.scope top) t
    where
      by : (same : Bool) → cond same (Some n) None ≡ Some k → k < length table.bindings.items
      by true f = subst (λ m. m < length table.bindings.items) (same_Some n k f) (slice_get_within table.bindings.items n b e)
      by false f = absurd (none-some k f)

  by_within : (k : ℕ) (b : Option ℕ) → top_by table top b ≡ Some k → k < length table.bindings.items
  by_within k None t = absurd (none-some k t)
  by_within k (Some n) t = number_within n k (slice_get table.bindings.items n) refl t

  -- what is told is the number of a binding
  pub told_within : (p k : ℕ) → (told_at tree table top p).top ≡ Some k → k < length table.bindings.items
  told_within p k t = by (last_entry tree table top p table.occurrences.items no_binding_told)
    where
      item_within : (l : Last tree table top p table.occurrences.items (told_at tree table top p)) (x : Option Item) → (told_by x table top l.entry).top ≡ Some k → k < length table.bindings.items
      item_within l None f = absurd (none-some k f)
      item_within l (Some item) f = by_within k l.entry.binding f

      by : (NoEntry tree table top p table.occurrences.items × (told_at tree table top p ≡ no_binding_told)) ⊎ Last tree table top p table.occurrences.items (told_at tree table top p) → k < length table.bindings.items
      by (inl n) = absurd (none-some k (sym (ap (λ (x : TopBinding). x.top) n.1) ∙ t))
      by (inr l) = item_within l (slice_get tree p) (sym (ap (λ (x : TopBinding). x.top) l.is) ∙ t)

  seen_within : (s : ℕ) (items : List TopItem) → All (λ (one : Seen). one.binding < length table.bindings.items) (seen_from s (map (numbered_row (told_at tree table top)) items))
  seen_within s [] = All-nil (λ (one : Seen). one.binding < length table.bindings.items)
  seen_within s (item ∷ rest) = All-append (λ (one : Seen). one.binding < length table.bindings.items) (filter_map (seen_as s) (numbered_row (told_at tree table top) item)) (seen_from (s + 1) (map (numbered_row (told_at tree table top)) rest))
      (all_within s (λ place. told_at tree table top (item.start + place)) item.items (length table.bindings.items) (λ p k e. told_within (item.start + p) k e) (occurrences item.items))
      (seen_within (s + 1) rest)

  pub seen_all_within : (seen : List Seen) (items : List TopItem) → seen ≡ seen_from 0 (map (numbered_row (told_at tree table top)) items) → All (λ (one : Seen). one.binding < length table.bindings.items) seen
  seen_all_within seen items e = subst (λ (l : List Seen). All (λ (one : Seen). one.binding < length table.bindings.items) l) (sym e) (seen_within 0 items)
