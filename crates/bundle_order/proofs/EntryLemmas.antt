-- What the table tells of a place is what is denoted there.
-- The entries of the table, one more.
use Rattle.std.proofs.Common.{◌≡◌, ℕ, zero, suc, ◌+◌, ◌⊎◌, Bool, true, false, cond, Option, Some, None, List, [], ◌∷◌, take, map, slice_get, fold, refl, sym, ap, ◌∙◌, subst, inl, inr, eqb, arith, ◌<◌, ◌≤◌, ◌++◌, length, get_or, set}
use Rattle.std.specs.Option.{option_map, option_and_then}
use Rattle.std.proofs.lemmas.Bool.{cases_eq, eq-eqb, ne_eqb, cases_lt}
use Rattle.std.proofs.lemmas.Option.{none-some, same_Some, slice_get-map, slice_get_past}
use Rattle.std.proofs.lemmas.List.{get_or-set_same, get_or-set_other, get_or_past}
use Rattle.std.proofs.lemmas.List.Folds.{fold_stays}
use Rattle.std.proofs.lemmas.List.Sums.{fold_more}
use Rattle.bundle_syntax.specs.Item as in_item
use Rattle.bundle_syntax.specs.Item.{Item}
use Rattle.bundle_syntax.specs.declared.piece.Role.TheVariants as r
use Rattle.bundle_rules.specs.Places.{Spot, past, start, spot_before, Occurrence, occurrence_of, occurrence_at, occurrences}
use Rattle.bundle_rules.specs.Scopes.{Es, Scope, Top}
use Rattle.bundle_rules.specs.Declarations.{ByContext, Name, declared}
use Rattle.bundle_rules.proofs.PlacesLemmas.{occurrences-at, occurrence_at-listed}
use Rattle.bundle_rules.specs.Denotes
use Rattle.bundle_scope_denote.specs.declared.table.Binding.{Binding}
use Rattle.bundle_scope_denote.specs.declared.table.Denoted.{Denoted}
use Rattle.bundle_scope_denote.specs.declared.table.Denotations.{Denotations}
use Rattle.bundle_scope_denote.specs.Numbers.{numbered_scope}
use Rattle.bundle_scope_denote.specs.Listed.{IsBinding, IsDenoted, IsTableEntry, IsOnlyTop, IsDenotationTable, TellsDenoted}
use Rattle.bundle_order.proofs.RenumberLemmas.{zip-at, zip-back}
use Rattle.bundle_order.specs.declared.told.TopBinding.{TopBinding}
use Rattle.bundle_order.specs.Told.{no_binding_told, top_binding_number, top_by, told_by, told_at, told_of, told_in}

-- ---- an occurrence stands at its place
fold_past-place : (s : Spot) (items : List Item) (k : ℕ) (item : Item) → slice_get items k ≡ Some item → (fold past s (take k items)).place ≡ s.place + k
fold_past-place s [] k item e = absurd (none-some item e)
fold_past-place s (x ∷ xs) zero item e = omega arith
fold_past-place s (x ∷ xs) (suc k) item e = let rest = fold_past-place (past s x) xs k item e in omega (arith, rest)

pub occurrence_of-place : (s : Spot) (item : Item) (o : Occurrence) → occurrence_of s item ≡ Some o → o.place ≡ s.place
occurrence_of-place s (in_item.Open field head) o e = absurd (none-some o e)
occurrence_of-place s (in_item.Ident field symbol ctxt r.Binding) o e = sym (ap (λ (x : Occurrence). x.place) (same_Some _ o e))
occurrence_of-place s (in_item.Ident field symbol ctxt r.Reference) o e = sym (ap (λ (x : Occurrence). x.place) (same_Some _ o e))
occurrence_of-place s (in_item.Ident field symbol ctxt r.Word) o e = absurd (none-some o e)
occurrence_of-place s (in_item.Hole field) o e = absurd (none-some o e)
occurrence_of-place s in_item.Close o e = absurd (none-some o e)

-- the element at which an occurrence stands
pub record StandsOn (items : List Item) (p : ℕ) (o : Occurrence) : Type 0 where
  pub item : Item
  pub at : slice_get items p ≡ Some item
  pub is : occurrence_of (spot_before items p) item ≡ Some o
  pub place : o.place ≡ p

pub stands_on : (items : List Item) (p : ℕ) (o : Occurrence) → occurrence_at items p ≡ Some o → StandsOn items p o
stands_on items p o e = by (slice_get items p) refl e
  where
    by : (x : Option Item) → slice_get items p ≡ x → option_and_then (occurrence_of (spot_before items p)) x ≡ Some o → StandsOn items p o
    by None f g = absurd (none-some o g)
    by (Some item) f g =
        let one = occurrence_of-place (spot_before items p) item o g in
        let two = fold_past-place start items p item f in
        record { item = item; at = f; is = g; place = one ∙ (let same : (spot_before items p).place ≡ p = omega (arith, two) in same) }

-- ---- the last entry of a place
module _ (items : List Item) (table : Denotations) (top p : ℕ) where
  abbrev tells : TopBinding → Denoted → TopBinding
  tells told entry = cond (eqb entry.place p) (told_by (slice_get items p) table top entry) told

  -- an entry of this place, and what it tells
  pub record Last (entries : List Denoted) (told : TopBinding) : Type 0 where
    pub i : ℕ
    pub entry : Denoted
    pub at : slice_get entries i ≡ Some entry
    pub place : entry.place ≡ p
    pub is : told ≡ told_by (slice_get items p) table top entry

  -- no entry is of this place
  abbrev pub NoEntry : List Denoted → Type 0
  NoEntry entries = (i : ℕ) (entry : Denoted) → slice_get entries i ≡ Some entry → entry.place ≡ p → ⊥

  pub last_entry : (entries : List Denoted) (acc : TopBinding) → (NoEntry entries × (fold tells acc entries ≡ acc)) ⊎ Last entries (fold tells acc entries)
  last_entry [] acc = inl ((λ i entry a e. none-some entry a), refl)
  last_entry (x ∷ rest) acc = step (last_entry rest (tells acc x)) (cases_eq x.place p)
    where
      none : (x.place ≡ p → ⊥) → NoEntry rest → NoEntry (x ∷ rest)
      none ne n zero entry a e = ne (ap (λ (y : Denoted). y.place) (same_Some x entry a) ∙ e)
      none ne n (suc i) entry a e = n i entry a e

      step : (NoEntry rest × (fold tells (tells acc x) rest ≡ tells acc x)) ⊎ Last rest (fold tells (tells acc x) rest) → (x.place ≡ p) ⊎ (x.place ≡ p → ⊥) → (NoEntry (x ∷ rest) × (fold tells (tells acc x) rest ≡ acc)) ⊎ Last (x ∷ rest) (fold tells (tells acc x) rest)
      step (inr l) c = inr (record { i = suc l.i; entry = l.entry; at = l.at; place = l.place; is = l.is })
      step (inl n) (inl e) = inr (record { i = zero; entry = x; at = refl; place = e; is = n.1 ∙ ap (λ b. cond b (told_by (slice_get items p) table top x) acc) (eq-eqb x.place p e) })
      step (inl n) (inr ne) = inl (none ne n.0, n.1 ∙ ap (λ b. cond b (told_by (slice_get items p) table top x) acc) (ne_eqb x.place p ne))

-- ---- what is told of a place
-- the binding of the top that is denoted at a place has a number
pub record IsTopAt (tree : List Item) (table : Denotations) (top p n : ℕ) (name : Name) : Type 0 where
  pub told : (told_at tree table top p).top ≡ Some n
  pub denoted : Denotes.denoted_at ByContext Es tree p ≡ Some (Denotes.Bound Top name)
  pub binding : IsBinding (map numbered_scope table.scopes.items) table.bindings.items n Top name

-- no binding of the top is denoted at a place, and no number is told
pub record IsNoTopAt (tree : List Item) (table : Denotations) (top p : ℕ) : Type 0 where
  pub told : (told_at tree table top p).top ≡ None
  pub other : (name : Name) → Denotes.denoted_at ByContext Es tree p ≡ Some (Denotes.Bound Top name) → ⊥

abbrev pub TopAt : List Item → Denotations → ℕ → ℕ → Type 0
TopAt tree table top p = IsNoTopAt tree table top p ⊎ ((n : ℕ) × (name : Name) × IsTopAt tree table top p n name)

module _ (tree : List Item) (table : Denotations) (top : ℕ) (is : IsDenotationTable ByContext Es tree table) (only : IsOnlyTop table top) where
  -- an entry, its occurrence and what that denotes
  pub record Entry (p : ℕ) (entry : Denoted) : Type 0 where
    pub o : Occurrence
    pub stands : occurrence_at tree p ≡ Some o
    pub tells : TellsDenoted (map numbered_scope table.scopes.items) table.bindings.items entry (Denotes.denoted_of ByContext Es (declared ByContext Es tree) o)

  pub entry_at : (p i : ℕ) (entry : Denoted) → slice_get table.occurrences.items i ≡ Some entry → entry.place ≡ p → Entry p entry
  entry_at p i entry at place =
      let one = zip-at (IsTableEntry (map numbered_scope table.scopes.items) ByContext Es) table.occurrences.items (occurrences tree) i entry is.occurrences at in
      let two = zip-at (TellsDenoted (map numbered_scope table.scopes.items) table.bindings.items) table.occurrences.items (Denotes.denotations ByContext Es tree) i entry is.denotes at in
      let o = one.0 in
      let same : two.0 ≡ Denotes.denoted_of ByContext Es (declared ByContext Es tree) o = same_Some _ _ (sym two.1 ∙ (slice_get-map (Denotes.denoted_of ByContext Es (declared ByContext Es tree)) (occurrences tree) i ∙ ap (λ (x : Option Occurrence). option_map (Denotes.denoted_of ByContext Es (declared ByContext Es tree)) x) one.1)) in
      record {
        o = o;
        stands = ap (λ k. occurrence_at tree k) (sym place ∙ one.2.place) ∙ occurrences-at tree i o one.1;
        tells = subst (λ d. TellsDenoted (map numbered_scope table.scopes.items) table.bindings.items entry d) same two.2;
      }

  pub no_occurrence : (p : ℕ) → NoEntry tree table top p table.occurrences.items → (o : Occurrence) → occurrence_at tree p ≡ Some o → ⊥
  no_occurrence p none o f =
      let listed = occurrence_at-listed tree p o f in
      let entry = zip-back (IsTableEntry (map numbered_scope table.scopes.items) ByContext Es) table.occurrences.items (occurrences tree) listed.0 o is.occurrences listed.1 in
      none listed.0 entry.0 entry.1 (entry.2.place ∙ (stands_on tree p o f).place)

  -- what a binding's number says
  by_binding : (p : ℕ) (b : Option ℕ) (d : Denotes.Denoted) → IsDenoted (map numbered_scope table.scopes.items) table.bindings.items b d → (told_at tree table top p).top ≡ top_by table top b → Denotes.denoted_at ByContext Es tree p ≡ Some d → TopAt tree table top p
  by_binding p None (Denotes.Global x) i t f = inl (record { told = t; other = λ name g. bound_global (same_Some (Denotes.Global x) (Denotes.Bound Top name) (sym f ∙ g)) })
    where
      bound_global : {name : Name} → Denotes.Global x ≡ Denotes.Bound Top name → ⊥
      bound_global q = cc
  by_binding p None (Denotes.Bound scope name) i t f = absurd i
  by_binding p (Some n) (Denotes.Global x) i t f = absurd i
  by_binding p (Some n) (Denotes.Bound scope name) i t f = by (cases_eq i.binding.scope top)
    where
      number : (o : Option Binding) → o ≡ Some i.binding → (b : Bool) → eqb i.binding.scope top ≡ b → top_binding_number top n o ≡ cond b (Some n) None
      number o g b q = ap (λ (x : Option Binding). top_binding_number top n x) g ∙ ap (λ v. cond v (Some n) None) q

      by : (i.binding.scope ≡ top) ⊎ (i.binding.scope ≡ top → ⊥) → TopAt tree table top p
      by (inl g) =
          let is_top : scope ≡ Top = (only i.binding.scope scope i.in_scope).1 g in
          inr (
            n,
            name,
            record {
              told = t ∙ number (slice_get table.bindings.items n) i.at true (eq-eqb i.binding.scope top g);
              denoted = f ∙ ap (λ (s : Scope). Some (Denotes.Bound s name)) is_top;
              binding = record { binding = i.binding; at = i.at; in_scope = i.in_scope ∙ ap (λ (s : Scope). Some s) is_top; named = i.named };
            },
          )
      by (inr ng) = inl (record {
        told = t ∙ number (slice_get table.bindings.items n) i.at false (ne_eqb i.binding.scope top ng);
        other = λ its g. ng ((only i.binding.scope scope i.in_scope).0 (let q : Denotes.Bound scope name ≡ Denotes.Bound Top its = same_Some (Denotes.Bound scope name) (Denotes.Bound Top its) (sym f ∙ g) in cc));
      })

  pub top_at : (p : ℕ) → TopAt tree table top p
  top_at p = by (last_entry tree table top p table.occurrences.items no_binding_told)
    where
      nothing : (x : Option Occurrence) → ((o : Occurrence) → x ≡ Some o → ⊥) → (name : Name) → option_map (Denotes.denoted_of ByContext Es (declared ByContext Es tree)) x ≡ Some (Denotes.Bound Top name) → ⊥
      nothing None n name g = none-some _ g
      nothing (Some o) n name g = n o refl

      by : (NoEntry tree table top p table.occurrences.items × (told_at tree table top p ≡ no_binding_told)) ⊎ Last tree table top p table.occurrences.items (told_at tree table top p) → TopAt tree table top p
      by (inl n) = inl (record { told = ap (λ (t : TopBinding). t.top) n.1; other = nothing (occurrence_at tree p) (no_occurrence p n.0) })
      by (inr l) =
          let known = entry_at p l.i l.entry l.at l.place in
          let on = stands_on tree p known.o known.stands in
          by_binding p l.entry.binding (Denotes.denoted_of ByContext Es (declared ByContext Es tree) known.o) known.tells
          (ap (λ (t : TopBinding). t.top) (l.is ∙ ap (λ (x : Option Item). told_by x table top l.entry) on.at))
          (ap (λ (x : Option Occurrence). option_map (Denotes.denoted_of ByContext Es (declared ByContext Es tree)) x) known.stands)

-- ---- told
pub nothing_push : (told : List TopBinding) (p : ℕ) → get_or told p no_binding_told ≡ no_binding_told → get_or (told ++ no_binding_told ∷ []) p no_binding_told ≡ no_binding_told
nothing_push [] zero e = refl
nothing_push [] (suc p) e = refl
nothing_push (x ∷ told) zero e = e
nothing_push (x ∷ told) (suc p) e = nothing_push told p e

module _ (items : List Item) (table : Denotations) (top : ℕ) where
  cond_same : (b : Bool) → cond b no_binding_told no_binding_told ≡ no_binding_told
  cond_same true = refl
  cond_same false = refl

  -- nothing is told past the end
  pub told_past : (p : ℕ) → length items ≤ p → told_at items table top p ≡ no_binding_told
  told_past p past = fold_stays (λ told entry. cond (eqb entry.place p) (told_by (slice_get items p) table top entry) told) no_binding_told (λ entry. ap (λ (x : Option Item). cond (eqb entry.place p) (told_by x table top entry) no_binding_told) (slice_get_past items p past) ∙ cond_same (eqb entry.place p)) table.occurrences.items

  module _ (entries : List Denoted) (i : ℕ) (d : Denoted) (h : i < length entries) (told : List TopBinding) (len : length told ≡ length items) (each : (p : ℕ) → p < length items → get_or told p no_binding_told ≡ told_in (take i entries) items table top p) where
    told-more : (p : ℕ) → told_in (take (i + 1) entries) items table top p ≡ cond (eqb (get_or entries i d).place p) (told_by (slice_get items p) table top (get_or entries i d)) (told_in (take i entries) items table top p)
    told-more p = fold_more (λ told entry. cond (eqb entry.place p) (told_by (slice_get items p) table top entry) told) no_binding_told entries i d h

    pub told-puts : (x : Item) (t : TopBinding) → slice_get items (get_or entries i d).place ≡ Some x → t ≡ told_of x table top (get_or entries i d) → (p : ℕ) → p < length items → get_or (set told (get_or entries i d).place t) p no_binding_told ≡ told_in (take (i + 1) entries) items table top p
    told-puts x t at is p l = by (cases_eq (get_or entries i d).place p) ∙ sym (told-more p)
      where
        by : ((get_or entries i d).place ≡ p) ⊎ ((get_or entries i d).place ≡ p → ⊥) → get_or (set told (get_or entries i d).place t) p no_binding_told ≡ cond (eqb (get_or entries i d).place p) (told_by (slice_get items p) table top (get_or entries i d)) (told_in (take i entries) items table top p)
        by (inl e) =
            ap (λ k. get_or (set told (get_or entries i d).place t) k no_binding_told) (sym e)
            ∙ (get_or-set_same told (get_or entries i d).place t no_binding_told (omega (arith, e, l, len))
            ∙ (is ∙ (ap (λ (o : Option Item). told_by o table top (get_or entries i d)) (sym at ∙ ap (λ k. slice_get items k) e)
            ∙ ap (λ b. cond b (told_by (slice_get items p) table top (get_or entries i d)) (told_in (take i entries) items table top p)) (sym (eq-eqb (get_or entries i d).place p e)))))
        by (inr ne) =
            get_or-set_other told (get_or entries i d).place p t no_binding_told (λ q. ne (sym q))
            ∙ (each p l ∙ ap (λ b. cond b (told_by (slice_get items p) table top (get_or entries i d)) (told_in (take i entries) items table top p)) (sym (ne_eqb (get_or entries i d).place p ne)))

    pub told-leaves : length items ≤ (get_or entries i d).place → (p : ℕ) → p < length items → get_or told p no_binding_told ≡ told_in (take (i + 1) entries) items table top p
    told-leaves past p l =
        let ne : (get_or entries i d).place ≡ p → ⊥ = λ q. omega (arith, q, past, l) in
        each p l ∙ (ap (λ b. cond b (told_by (slice_get items p) table top (get_or entries i d)) (told_in (take i entries) items table top p)) (sym (ne_eqb (get_or entries i d).place p ne)) ∙ sym (told-more p))

  -- what is told of each place within is told of all
  pub told_all : (told : List TopBinding) → length told ≡ length items → ((p : ℕ) → p < length items → get_or told p no_binding_told ≡ told_at items table top p) → (p : ℕ) → get_or told p no_binding_told ≡ told_at items table top p
  told_all told len each p = elim (cases_lt p (length items)) [
    | inl l ↦ each p l
    | inr past ↦ get_or_past told p no_binding_told (omega (arith, past, len)) ∙ sym (told_past p past)
  ]
