-- Chains of pairs, by their numbers.
use Rattle.std.proofs.Common.{◌≡◌, ◌≢◌, ℕ, zero, suc, ◌+◌, ◌<◌, ◌≤◌, ◌==◌, ◌&&◌, ◌⊎◌, inl, inr, Bool, true, false, not, cond, List, [], ◌∷◌, Option, Some, None, length, map, unwrap_or, bytes_eq, refl, sym, ap, ap₂, subst, ◌∙◌, eqb-true, eq-eqb, arith}
use Rattle.std.specs.Prelude.{slice_get, slice_index}
use Rattle.std.specs.BTreeMap.{BTreeMap, get, Updates}
use Rattle.std.specs.Map.{lookup}
use Rattle.std.specs.Ordering.{is_eq}
use Rattle.std.proofs.lemmas.Bool.{and_parts, false≢true}
use Rattle.std.proofs.lemmas.List.{length-map}
use Rattle.std.proofs.lemmas.Option.{same_Some, slice_get_within}
use Rattle.std.proofs.lemmas.Slice.Eq.{bytes_eq-Decides}
use Rattle.bundle_rules.specs.Aliases.{Chain, ChainEnd, HasCycle}
use Rattle.bundle_rules.specs.Aliases.Chain.{one as one_alias, more as more_aliases}
use Rattle.bundle_rules.specs.Aliases.ChainEnd.{here as ends_here, further as ends_further}
use Rattle.bundle_rules.specs.Idents.{Ident}
use Rattle.bundle_rules.specs.Rebuilds.{Change, Renaming, change_by, change_to, ident_eq, with_pair}
use Rattle.bundle_tree.specs.IdName.{IdName, name_cmp}
use Rattle.bundle_tree.specs.IdNameLaws.{name_cmp-ties, id_name_eq-Decides}
use Rattle.bundle_marks.specs.Idents.{ident_named}
use Rattle.bundle_marks.specs.Renamings.{SaySame}
use Rattle.bundle_merge_modules.specs.Chains.{AreEnds, AreNumbersBelow, EndsIn, HasRing, LeadsNowhere, NumberLeads, ChainLeads, LeadsWithin}
use Rattle.bundle_merge_modules.specs.Chains.EndsIn.{here, further}
use Rattle.bundle_merge_modules.specs.Chains.ChainLeads.{one, more}
use Rattle.bundle_merge_modules.specs.Pairs.{AreAliasNumbers, AreOnceAliased, AreRenamingSteps, IsPair, IsAliasKept, LeadsToEnds, AliasPair, Stepped, next_by}
use Rattle.bundle_merge_modules.proofs.EndLemmas.{no_ring}
use Rattle.bundle_merge_modules.proofs.AliasLemmas.{none_some}

-- What is read in lists.

pub slice_get-mapped : {A B : Type 0} (f : A → B) (xs : List A) (i : ℕ) (y : B) → slice_get (map f xs) i ≡ Some y → (x : A) × (slice_get xs i ≡ Some x) × (f x ≡ y)
slice_get-mapped f [] i y e = absurd (none_some e)
slice_get-mapped f (x ∷ xs) zero y e = (x, refl, same_Some (f x) y e)
slice_get-mapped f (x ∷ xs) (suc i) y e = slice_get-mapped f xs i y e

pub mapped-slice_get : {A B : Type 0} (f : A → B) (xs : List A) (i : ℕ) (x : A) → slice_get xs i ≡ Some x → slice_get (map f xs) i ≡ Some (f x)
mapped-slice_get f [] i x e = absurd (none_some e)
mapped-slice_get f (y ∷ xs) zero x e = ap (λ z. Some (f z)) (same_Some y x e)
mapped-slice_get f (y ∷ xs) (suc i) x e = mapped-slice_get f xs i x e

-- Names and identifiers.

name_from : (a b : IdName) → ident_named a ≡ ident_named b → a ≡ b
name_from a b e = λ i. record { symbol = (e i).0; context = (e i).1 }

ident_same : (a b : Ident) → ident_eq a b ≡ true → a ≡ b
ident_same a b e =
    let parts = and_parts (bytes_eq a.0 b.0) (a.1 == b.1) e in
    let text = (bytes_eq-Decides a.0 b.0).0 parts.0 in
    let number : a.1 ≡ b.1 = eqb_same a.1 b.1 parts.1 in
    λ i. (text i, number i)
  where
    eqb_same : (m n : ℕ) → (m == n) ≡ true → m ≡ n
    eqb_same m n e = eqb-true m n e

bytes_self : (xs : List ℕ) → bytes_eq xs xs ≡ true
bytes_self xs = (bytes_eq-Decides xs xs).1 refl

-- Numbers of pairs.

pub AreNumbers-more : (pairs : List AliasPair) (count : ℕ) (old new : BTreeMap IdName ℕ) (pair : AliasPair) (key : IdName) → slice_get pairs count ≡ Some pair → key ≡ pair.0
    → Updates name_cmp old new key (Some count) → AreAliasNumbers pairs count old → AreAliasNumbers pairs (count + 1) new
AreNumbers-more pairs count old new pair key at same updates are = record {
  found = λ name i e. found name i (is_eq (name_cmp key name)) refl (sym (updates.0 name) ∙ e);
  none = λ name i other e l there. none name i other (is_eq (name_cmp key name)) refl (sym (updates.0 name) ∙ e) l there;
}
  where
    equal : (name : IdName) → is_eq (name_cmp key name) ≡ true → key ≡ name
    equal name e = (id_name_eq-Decides key name).0 (name_cmp-ties key name ∙ e)

    found : (name : IdName) (i : ℕ) (b : Bool) → is_eq (name_cmp key name) ≡ b → cond b (Some count) (get name_cmp old name) ≡ Some i → (p : AliasPair) × (slice_get pairs i ≡ Some p) × (p.0 ≡ name)
    found name i true is e = (pair, ap (slice_get pairs) (sym (same_Some count i e)) ∙ at, sym same ∙ equal name is)
    found name i false is e = are.found name i e

    none : (name : IdName) (i : ℕ) (other : AliasPair) (b : Bool) → is_eq (name_cmp key name) ≡ b → cond b (Some count) (get name_cmp old name) ≡ None → i < count + 1 → slice_get pairs i ≡ Some other → other.0 ≢ name
    none name i other true is e l there = absurd (none_some (sym e))
    none name i other false is e l there = by (i == count) refl
      where
        by : (b : Bool) → (i == count) ≡ b → other.0 ≢ name
        by true e2 = λ named.
            let last : i ≡ count = eqb-true i count e2 in
            let the : other ≡ pair = same_Some other pair (sym there ∙ ap (slice_get pairs) last ∙ at) in
            false≢true (sym is ∙ sym (name_cmp-ties key name) ∙ (id_name_eq-Decides key name).1 (same ∙ ap (λ (p : AliasPair). p.0) (sym the) ∙ named))
        by false e2 = are.none name i other e (omega (arith, l, apart)) there
          where
            apart : i ≢ count
            apart same = false≢true (sym e2 ∙ eq-eqb i count same)

pub AreNumbers-all : (pairs : List AliasPair) (count : ℕ) (numbers : BTreeMap IdName ℕ) → length pairs ≤ count → AreAliasNumbers pairs count numbers → AreAliasNumbers pairs (length pairs) numbers
AreNumbers-all pairs count numbers all are = record {
  found = are.found;
  none = λ name i pair e l at. are.none name i pair e (omega (arith, l, all)) at;
}

-- Chains.

module _ (pairs : List AliasPair) (numbers : BTreeMap IdName ℕ) (are : AreAliasNumbers pairs (length pairs) numbers) where
  -- a pair leads to one of which what it stands for is the alias
  leads_pair : (i j : ℕ) → NumberLeads (next_by numbers pairs) i j → (p : AliasPair) × (q : AliasPair) × (slice_get pairs i ≡ Some p) × (slice_get pairs j ≡ Some q) × (q.0 ≡ p.1)
  leads_pair i j lead =
      let p = slice_get-mapped (λ (pair : AliasPair). get name_cmp numbers pair.1) pairs i (Some j) lead in
      let q = are.found p.0.1 j p.2 in
      (p.0, q.0, p.1, q.1, q.2)

  pub within : LeadsWithin (next_by numbers pairs)
  within i j lead = let l = leads_pair i j lead in omega (arith, slice_get_within pairs j l.1 l.3, length-map pairs (λ (pair : AliasPair). get name_cmp numbers pair.1))

  -- what a pair that leads to none stands for is no alias
  last_pair : (i : ℕ) → LeadsNowhere (next_by numbers pairs) i → (p : AliasPair) × (slice_get pairs i ≡ Some p) × ((b : Ident) → IsPair pairs (ident_named p.1) b → ⊥)
  last_pair i last =
      let p = slice_get-mapped (λ (pair : AliasPair). get name_cmp numbers pair.1) pairs i None last in
      (p.0, p.1, λ b is. are.none p.0.1 is.0 is.1 p.2 (slice_get_within pairs is.0 is.1 is.2) is.2 (name_from is.1.0 p.0.1 is.3))

  -- a chain of pairs ends where a chain of aliases does
  pub end_of : {i e : ℕ} → EndsIn (next_by numbers pairs) i e → (p : AliasPair) × (q : AliasPair) × (slice_get pairs i ≡ Some p) × (slice_get pairs e ≡ Some q) × ChainEnd (IsPair pairs) (ident_named p.0) (ident_named q.1)
  end_of (here {i = i} last) =
      let p = last_pair i last in
      (p.0, p.0, p.1, p.1, ends_further (i, p.0, p.1, refl, refl) (ends_here p.2))
  end_of (further {i = i} {j = j} {e = e} lead rest) =
      let l = leads_pair i j lead in
      let r = end_of rest in
      let same : r.0 ≡ l.1 = same_Some r.0 l.1 (sym r.2 ∙ l.3) in
      (l.0, r.1, l.2, r.3, ends_further (i, l.0, l.2, refl, refl) (subst (λ (n : IdName). ChainEnd (IsPair pairs) (ident_named n) (ident_named r.1.1)) (ap (λ (p : AliasPair). p.0) same ∙ l.4) r.4))

  -- a ring is a cycle of aliases
  chain_of : {i j : ℕ} → ChainLeads (next_by numbers pairs) i j → (p : AliasPair) × (q : AliasPair) × (slice_get pairs i ≡ Some p) × (slice_get pairs j ≡ Some q) × Chain (IsPair pairs) (ident_named p.0) (ident_named q.0)
  chain_of (one {i = i} {j = j} lead) =
      let l = leads_pair i j lead in
      (l.0, l.1, l.2, l.3, one_alias (i, l.0, l.2, refl, ap ident_named (sym l.4)))
  chain_of (more {i = i} {j = j} {k = k} lead rest) =
      let l = leads_pair i j lead in
      let r = chain_of rest in
      let same : l.1 ≡ r.0 = same_Some l.1 r.0 (sym l.3 ∙ r.2) in
      (l.0, r.1, l.2, r.3, more_aliases (i, l.0, l.2, refl, ap ident_named (sym l.4 ∙ ap (λ (p : AliasPair). p.0) same)) r.4)

  pub cycle_of : HasRing (next_by numbers pairs) → HasCycle (IsPair pairs)
  cycle_of ring =
      let c = chain_of ring.1 in
      let same : c.1 ≡ c.0 = same_Some c.1 c.0 (sym c.3 ∙ c.2) in
      (ident_named c.0.0, subst (λ (p : AliasPair). Chain (IsPair pairs) (ident_named c.0.0) (ident_named p.0)) same c.4)

  -- a chain of aliases is one of pairs, where none is an alias of two
  module _ (once : AreOnceAliased pairs) where
    -- the pair that is found for an alias
    abbrev At : Ident → ℕ → Type 0
    At a i = (name : IdName) × (ident_named name ≡ a) × (get name_cmp numbers name ≡ Some i)

    begin : (a b : Ident) → IsPair pairs a b → (i : ℕ) × At a i
    begin a b is = by (get name_cmp numbers is.1.0) refl
      where
        by : (o : Option ℕ) → get name_cmp numbers is.1.0 ≡ o → (i : ℕ) × At a i
        by (Some i) e = (i, (is.1.0, is.3, e))
        by None e = absurd (are.none is.1.0 is.0 is.1 e (slice_get_within pairs is.0 is.1 is.2) is.2 refl)

    lead_of : (a b : Ident) (i j : ℕ) → IsPair pairs a b → At a i → At b j → NumberLeads (next_by numbers pairs) i j
    lead_of a b i j is at to =
        let p = are.found at.0 i at.2 in
        let b_is : ident_named p.0.1 ≡ b = once a (ident_named p.0.1) b (i, p.0, p.1, ap ident_named p.2 ∙ at.1, refl) is in
        mapped-slice_get (λ (pair : AliasPair). get name_cmp numbers pair.1) pairs i p.0 p.1
        ∙ ap (λ (n : IdName). Some (get name_cmp numbers n)) (name_from p.0.1 to.0 (b_is ∙ sym to.1))
        ∙ ap Some to.2

    leads_of : {a b : Ident} (i j : ℕ) → Chain (IsPair pairs) a b → At a i → At b j → ChainLeads (next_by numbers pairs) i j
    leads_of i j (one_alias {a = a} {b = b} is) at to = one (lead_of a b i j is at to)
    leads_of i j (more_aliases {a = a} {b = b} is rest) at to =
        let m = begins rest in
        more (lead_of a b i m.0 is at m.1) (leads_of m.0 j rest m.1 to)
      where
        begins : {x y : Ident} → Chain (IsPair pairs) x y → (i : ℕ) × At x i
        begins (one_alias {a = x} {b = y} is) = begin x y is
        begins (more_aliases {a = x} {b = y} is rest) = begin x y is

    first_of : {x y : Ident} → Chain (IsPair pairs) x y → (i : ℕ) × At x i
    first_of (one_alias {a = x} {b = y} is) = begin x y is
    first_of (more_aliases {a = x} {b = y} is rest) = begin x y is

    pub no_cycle : (ends : List ℕ) → AreEnds (next_by numbers pairs) ends → HasCycle (IsPair pairs) → ⊥
    no_cycle ends all cycle =
        let at = first_of cycle.1 in
        let p = are.found at.1.0 at.0 at.1.2 in
        let l = slice_get_within pairs at.0 p.0 p.1 in
        no_ring (next_by numbers pairs) (all.each at.0 (omega (arith, l, length-map pairs (λ (pair : AliasPair). get name_cmp numbers pair.1)))) (leads_of at.0 at.0 cycle.1 at.1 at.1)

-- Steps.

pub AreSteps-more : (pairs : List AliasPair) (ends : List ℕ) (count : ℕ) (old new : Renaming) (from to : AliasPair) (key end : IdName) → slice_get pairs count ≡ Some from → slice_get pairs (slice_index ends count) ≡ Some to
    → key ≡ from.0 → end ≡ to.1 → SaySame new (with_pair old (ident_named key) (ident_named end)) → AreRenamingSteps pairs ends count old → AreRenamingSteps pairs ends (count + 1) new
AreSteps-more pairs ends count old new from to key end from_is to_is same same_end says are ident = by (ident_eq ident (ident_named key)) refl (says ident) (are ident)
  where
    by : (b : Bool) → ident_eq ident (ident_named key) ≡ b → lookup (ident_eq ident) new ≡ cond b (Some (change_to (ident_named key) (ident_named end))) (lookup (ident_eq ident) old)
        → Stepped pairs ends old ident ⊎ IsAliasKept pairs count old ident → Stepped pairs ends new ident ⊎ IsAliasKept pairs (count + 1) new ident
    by true is said before =
        let it : ident ≡ ident_named key = ident_same ident (ident_named key) is in
        inl (record {
          i = count;
          from = from;
          to = to;
          from_is = from_is;
          to_is = to_is;
          named = ap ident_named (sym same) ∙ sym it;
          said = said ∙ ap₂ (λ (a : Ident) (n : IdName). Some (change_to a (ident_named n))) (sym it) same_end;
        })
    by false is said (inl before) = inl (record { i = before.i; from = before.from; to = before.to; from_is = before.from_is; to_is = before.to_is; named = before.named; said = said ∙ before.said })
    by false is said (inr before) = inr (record { said = said ∙ before.said; none = λ i pair l at. none i pair (i == count) refl l at })
      where
        none : (i : ℕ) (pair : AliasPair) (b : Bool) → (i == count) ≡ b → i < count + 1 → slice_get pairs i ≡ Some pair → ident_named pair.0 ≢ ident
        none i pair true e l at = λ named.
            let the : pair ≡ from = same_Some pair from (sym at ∙ ap (slice_get pairs) (eqb-true i count e) ∙ from_is) in
            let it : ident ≡ ident_named key = sym named ∙ ap (λ (p : AliasPair). ident_named p.0) the ∙ ap ident_named (sym same) in
            false≢true (sym is ∙ ap (λ x. ident_eq x (ident_named key)) it ∙ self (ident_named key))
          where
            self : (x : Ident) → ident_eq x x ≡ true
            self x = ap₂ (λ (b c : Bool). b && c) (bytes_self x.0) (eq-eqb x.1 x.1 refl)
        none i pair false e l at = before.none i pair (omega (arith, l, apart)) at
          where
            apart : i ≢ count
            apart same_i = false≢true (sym e ∙ eq-eqb i count same_i)

-- each identifier becomes the end of its chain
pub LeadsToEnds-steps : (pairs : List AliasPair) (numbers : BTreeMap IdName ℕ) (ends : List ℕ) (renaming : Renaming) → AreAliasNumbers pairs (length pairs) numbers → AreEnds (next_by numbers pairs) ends
    → AreRenamingSteps pairs ends (length pairs) renaming → LeadsToEnds (IsPair pairs) renaming
LeadsToEnds-steps pairs numbers ends renaming are all steps ident = by (steps ident)
  where
    unchanged : change_to ident ident ≡ record { ident = ident; is_spelled_out = false }
    unchanged = ap (λ (b : Bool). record { ident = ident; is_spelled_out = not b }) (bytes_self ident.0)

    by : Stepped pairs ends renaming ident ⊎ IsAliasKept pairs (length pairs) renaming ident → (end : Ident) × ChainEnd (IsPair pairs) ident end × (change_by renaming ident ≡ change_to ident end)
    by (inl at) =
        let l = slice_get_within pairs at.i at.from at.from_is in
        let e = end_of pairs numbers are (all.each at.i (omega (arith, l, length-map pairs (λ (pair : AliasPair). get name_cmp numbers pair.1)))) in
        let p : e.0 ≡ at.from = same_Some e.0 at.from (sym e.2 ∙ at.from_is) in
        let q : e.1 ≡ at.to = same_Some e.1 at.to (sym e.3 ∙ at.to_is) in (
          ident_named at.to.1,
          subst (λ (x : Ident). ChainEnd (IsPair pairs) x (ident_named at.to.1)) (ap (λ (p : AliasPair). ident_named p.0) p ∙ at.named) (subst (λ (x : AliasPair). ChainEnd (IsPair pairs) (ident_named e.0.0) (ident_named x.1)) q e.4),
          ap (λ (o : Option Change). unwrap_or o (record { ident = ident; is_spelled_out = false })) at.said,
        )
    by (inr at) = (
      ident,
      ends_here (λ b is. at.none is.0 is.1 (slice_get_within pairs is.0 is.1 is.2) is.2 is.3),
      ap (λ (o : Option Change). unwrap_or o (record { ident = ident; is_spelled_out = false })) at.said ∙ sym unchanged,
    )

-- the ends are numbers of pairs
pub ends-within : (next : List (Option ℕ)) (ends : List ℕ) → AreEnds next ends → AreNumbersBelow ends (length next)
ends-within next ends all i l = last (all.each i (omega (arith, l, all.len)))
  where
    last : {i e : ℕ} → EndsIn next i e → e < length next
    last (here {i = i} is) = slice_get_within next i None is
    last (further lead rest) = last rest
