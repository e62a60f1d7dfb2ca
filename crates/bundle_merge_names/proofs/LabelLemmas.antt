-- Labels are equal exactly where they stand for the same, and what is held for them changes so where one is given a name.
-- Names are added one by one.
-- What is taken of externals and CommonJS modules gets names, one by one.
use Rattle.std.proofs.Common.{◌≡◌, ◌≤◌, ◌<◌, ◌⊎◌, inl, inr, ℕ, suc, Bool, true, false, cond, List, [], ◌∷◌, Option, Some, None, option_map, unwrap_or, refl, ap, ap₂, sym, ◌∙◌, arith, ◌++◌, map, take, length, subst}
use Rattle.std.specs.Prelude.{is_some, Result, Ok, Err, OnOk, slice_get}
use Rattle.std.specs.Bool.{Decides}
use Rattle.std.specs.HashMap.{HashMap, UpdatesBy, get_by}
use Rattle.std.specs.Map.{lookup}
use Rattle.std.proofs.lemmas.Bool.{cases_order, false≢true}
use Rattle.std.proofs.lemmas.Bool.Decides.{Decides-eqb, Decides-like}
use Rattle.std.proofs.lemmas.Option.{none-some, same_Some}
use Rattle.std.specs.Borrow.{Bor}
use Rattle.bundle_rules.specs.Idents.{Ident}
use Rattle.bundle_rules.specs.Nodes.{Text}
use Rattle.bundle_rules.specs.Program.{Program}
use Rattle.bundle_rules.specs.Entries.{Taken, Named, Whole}
use Rattle.bundle_link_index.proofs.SearchLemmas.{get_still as push-old}
use Rattle.bundle_rules.specs.Meaning as m
use Rattle.bundle_rules.specs.Linking
use Rattle.bundle_tree_places.specs.Marks.{ident_of}
use Rattle.bundle_tree_places.specs.declared.mark.Name.{Name}
use Rattle.bundle_tree_places.proofs.ListLemmas.{take_at as take-next}
use Rattle.bundle_link_index.specs.Says.{target_of}
use Rattle.bundle_link_index.proofs.EqualLemmas as equal
use Rattle.bundle_link_index.proofs.EqualLemmas.{never}
use Rattle.bundle_link_index.proofs.ProgramLemmas.{got_there as place-there, got as there-place, map_back as map-back, map_on as map-on}
use Rattle.bundle_link_targets.proofs.SymbolLemmas.{not-some}
use Rattle.bundle_link_targets.specs.Symbols.{IsTakable}
use Rattle.bundle_merge_theory.specs.made.Given.{NameOf, Holder}
use Rattle.bundle_merge_names.specs.declared.error.MergeError.TheVariants.{ContextsUsedUp}
use Rattle.bundle_merge_names.specs.declared.names.Label.{Label}
use Rattle.bundle_merge_names.specs.declared.names.BundleNames.{BundleNames}
use Rattle.bundle_merge_names.specs.Held.{AreTakenByLabels, AreLabelContexts, GivesName, IsHeldAs, RefusesName, for_contexts}
use Rattle.bundle_merge_names.specs.Named.{held, holder_of}
use Rattle.bundle_merge_names.specs.Numbers.{position}
use Rattle.bundle_merge_names.specs.Added.{GivesNames, IsNamedOf, IsTakenOf, IsWholeOf, by_name, by_whole, with_taken}
use Rattle.bundle_merge_names.specs.Bundle.{holder_symbol}
use Rattle.bundle_merge_names.proofs.ScopeLemmas.{push-cases, push-last}
use Rattle.bundle_merge_names.specs.contracts.names.LabelPartialEq.TheImpl as label_impl
use Rattle.bundle_merge_names.specs.declared.names.Label.TheVariants

-- ---- label
pub label : (a b : Label) → Decides (label_impl.ghosts.eq a b) (holder_of a ≡ holder_of b)
label (TheVariants.Of s) (TheVariants.Of t) = Decides-like _ (ap (λ u. NameOf (m.Of u))) (λ is. let same : target_of s ≡ target_of t = cc in same) (equal.target s t)
label (TheVariants.Of s) (TheVariants.Load d) = never (λ is. cc)
label (TheVariants.Of s) (TheVariants.Meta d) = never (λ is. cc)
label (TheVariants.Of s) TheVariants.Helper = never (λ is. cc)
label (TheVariants.Of s) TheVariants.HelperParameter = never (λ is. cc)
label (TheVariants.Of s) TheVariants.HelperVariable = never (λ is. cc)
label (TheVariants.Load c) (TheVariants.Of t) = never (λ is. cc)
label (TheVariants.Load c) (TheVariants.Load d) = Decides-like _ (ap (λ u. NameOf (m.Load u))) (λ is. let same : c ≡ d = cc in same) (Decides-eqb c d)
label (TheVariants.Load c) (TheVariants.Meta d) = never (λ is. cc)
label (TheVariants.Load c) TheVariants.Helper = never (λ is. cc)
label (TheVariants.Load c) TheVariants.HelperParameter = never (λ is. cc)
label (TheVariants.Load c) TheVariants.HelperVariable = never (λ is. cc)
label (TheVariants.Meta c) (TheVariants.Of t) = never (λ is. cc)
label (TheVariants.Meta c) (TheVariants.Load d) = never (λ is. cc)
label (TheVariants.Meta c) (TheVariants.Meta d) = Decides-like _ (ap (λ u. NameOf (m.Meta u))) (λ is. let same : c ≡ d = cc in same) (Decides-eqb c d)
label (TheVariants.Meta c) TheVariants.Helper = never (λ is. cc)
label (TheVariants.Meta c) TheVariants.HelperParameter = never (λ is. cc)
label (TheVariants.Meta c) TheVariants.HelperVariable = never (λ is. cc)
label TheVariants.Helper (TheVariants.Of t) = never (λ is. cc)
label TheVariants.Helper (TheVariants.Load d) = never (λ is. cc)
label TheVariants.Helper (TheVariants.Meta d) = never (λ is. cc)
label TheVariants.Helper TheVariants.Helper = (λ so. refl, λ is. refl)
label TheVariants.Helper TheVariants.HelperParameter = never (λ is. cc)
label TheVariants.Helper TheVariants.HelperVariable = never (λ is. cc)
label TheVariants.HelperParameter (TheVariants.Of t) = never (λ is. cc)
label TheVariants.HelperParameter (TheVariants.Load d) = never (λ is. cc)
label TheVariants.HelperParameter (TheVariants.Meta d) = never (λ is. cc)
label TheVariants.HelperParameter TheVariants.Helper = never (λ is. cc)
label TheVariants.HelperParameter TheVariants.HelperParameter = (λ so. refl, λ is. refl)
label TheVariants.HelperParameter TheVariants.HelperVariable = never (λ is. cc)
label TheVariants.HelperVariable (TheVariants.Of t) = never (λ is. cc)
label TheVariants.HelperVariable (TheVariants.Load d) = never (λ is. cc)
label TheVariants.HelperVariable (TheVariants.Meta d) = never (λ is. cc)
label TheVariants.HelperVariable TheVariants.Helper = never (λ is. cc)
label TheVariants.HelperVariable TheVariants.HelperParameter = never (λ is. cc)
label TheVariants.HelperVariable TheVariants.HelperVariable = (λ so. refl, λ is. refl)

-- labels that stand for the same are held alike
alike : (x y k : Label) → holder_of x ≡ holder_of y → label_impl.ghosts.eq x k ≡ label_impl.ghosts.eq y k
alike x y k same = by (label_impl.ghosts.eq x k) (label_impl.ghosts.eq y k) refl refl
  where
    by : (a b : Bool) → label_impl.ghosts.eq x k ≡ a → label_impl.ghosts.eq y k ≡ b → a ≡ b
    by true true e f = refl
    by false false e f = refl
    by true false e f = absurd (false≢true (sym f ∙ (label y k).1 (sym same ∙ (label x k).0 e)))
    by false true e f = absurd (false≢true (sym e ∙ (label x k).1 (same ∙ (label y k).0 f)))

looked : {X : Type 0} (x y : Label) → holder_of x ≡ holder_of y → (es : List (Label × X)) → lookup (label_impl.ghosts.eq x) es ≡ lookup (label_impl.ghosts.eq y) es
looked x y same [] = refl
looked x y same (e ∷ es) = ap₂ (λ yes rest. cond yes (Some e.1) rest) (alike x y e.0 same) (looked x y same es)

pub same-held : (names : BundleNames) (x y : Label) → holder_of x ≡ holder_of y → held names x ≡ held names y
same-held names x y same = ap (option_map ident_of) (looked x y same names.labels.entries)

-- what is held for others once one has a name
held-put : {S : Type 0} (a b : HashMap Label Name S) (own : Label) (name : Name) → UpdatesBy label_impl.ghosts.eq (label_impl.ghosts.eq own) a b (Some name) → (other : Label) → option_map ident_of (get_by (label_impl.ghosts.eq other) b) ≡ cond (label_impl.ghosts.eq own other) (Some (ident_of name)) (option_map ident_of (get_by (label_impl.ghosts.eq other) a))
held-put a b own name put other = ap (option_map ident_of) (put.0 other) ∙ by (label_impl.ghosts.eq own other)
  where
    by : (yes : Bool) → option_map ident_of (cond yes (Some name) (get_by (label_impl.ghosts.eq other) a)) ≡ cond yes (Some (ident_of name)) (option_map ident_of (get_by (label_impl.ghosts.eq other) a))
    by true = refl
    by false = refl

some-of : {A B : Type 0} (f : A → B) (o : Option A) → is_some o ≡ true → (y : B) × (option_map f o ≡ Some y)
some-of f None e = absurd (false≢true e)
some-of f (Some x) e = (f x, refl)

-- a label that had a name keeps it
pub gives-none : (names : BundleNames) (own : Label) (symbol : Text) → is_some (get_by (label_impl.ghosts.eq own) names.labels) ≡ true → GivesName own symbol names names
gives-none names own symbol has = record {
  kept = λ other ident is. is;
  there = some-of ident_of (get_by (label_impl.ghosts.eq own) names.labels) has;
  others = λ other ident is. inl is;
  later = omega arith;
  held_so = λ from low are. are;
  all_so = λ from are. are;
  locals = refl;
  scopes = refl;
  answered = refl;
}

-- a label that has none gets none where no context is left
pub refuses-full : (names : BundleNames) (own : Label) → is_some (get_by (label_impl.ghosts.eq own) names.labels) ≡ false → names.contexts.next ≡ None → RefusesName own names (ContextsUsedUp None)
refuses-full names own free full = for_contexts (ap (option_map ident_of) (not-some (get_by (label_impl.ghosts.eq own) names.labels) free)) (ap (λ (o : Option ℕ). unwrap_or o 4294967296) full)

-- a label that had none has the next
module _ (old new : BundleNames) (own : Label) (name : Name) (symbol : Text) (free : is_some (get_by (label_impl.ghosts.eq own) old.labels) ≡ false) (put : UpdatesBy label_impl.ghosts.eq (label_impl.ghosts.eq own) old.labels new.labels (Some name)) (is : ident_of name ≡ (symbol, position old.contexts)) (next : position new.contexts ≡ suc (position old.contexts)) where
  none : held old own ≡ None
  none = ap (option_map ident_of) (not-some (get_by (label_impl.ghosts.eq own) old.labels) free)

  -- what is held afterwards was held, or is the new name
  cases : (other : Label) (ident : Ident) → held new other ≡ Some ident → ((holder_of own ≡ holder_of other) × (ident ≡ (symbol, position old.contexts))) ⊎ (held old other ≡ Some ident)
  cases other ident at = by (label_impl.ghosts.eq own other) refl (sym (held-put old.labels new.labels own name put other) ∙ at)
    where
      by : (yes : Bool) → label_impl.ghosts.eq own other ≡ yes → cond yes (Some (ident_of name)) (held old other) ≡ Some ident → ((holder_of own ≡ holder_of other) × (ident ≡ (symbol, position old.contexts))) ⊎ (held old other ≡ Some ident)
      by true agrees e = inl ((label own other).0 agrees, sym (same_Some (ident_of name) ident e) ∙ is)
      by false differ e = inr e

  pub gives-one : new.locals ≡ old.locals → new.scopes ≡ old.scopes → new.answered ≡ old.answered → GivesName own symbol old new
  gives-one l s a = record {
    kept = still;
    there = (ident_of name, its-own);
    others = λ other ident at. elim (cases other ident at) [ inl its ↦ inr (sym its.0, ap (λ (x : Ident). x.0) its.1) | inr was ↦ inl was ];
    later = omega (arith, next);
    held_so = λ from low are. record {
      within = λ other ident at. within from low are other ident (cases other ident at);
      apart = λ x y i j at_x at_y same. apart from low are x y i j (cases x i at_x) (cases y j at_y) same;
    };
    all_so = λ from are. record { each = λ c low high. all from are c low high (cases_order c (position old.contexts)) };
    locals = l;
    scopes = s;
    answered = a;
  }
    where
      kept : (other : Label) (ident : Ident) → held old other ≡ Some ident → (yes : Bool) → label_impl.ghosts.eq own other ≡ yes → cond yes (Some (ident_of name)) (held old other) ≡ Some ident
      kept other ident at true agrees = absurd (none-some ident (sym none ∙ same-held old own other ((label own other).0 agrees) ∙ at))
      kept other ident at false differ = at

      still : (other : Label) (ident : Ident) → held old other ≡ Some ident → held new other ≡ Some ident
      still other ident at = held-put old.labels new.labels own name put other ∙ kept other ident at (label_impl.ghosts.eq own other) refl

      its-own : held new own ≡ Some (ident_of name)
      its-own = held-put old.labels new.labels own name put own ∙ ap (λ yes. cond yes (Some (ident_of name)) (held old own)) ((label own own).1 refl)

      -- the context that was the next is now that of the label
      all : (from : ℕ) → AreTakenByLabels from old → (c : ℕ) → from ≤ c → c < position new.contexts → (c ≡ position old.contexts) ⊎ ((c < position old.contexts) ⊎ (position old.contexts < c)) → IsHeldAs new c
      all from are c low high (inl same) = record { label = own; ident = ident_of name; there = its-own; is = ap (λ (x : Ident). x.1) is ∙ sym same }
      all from are c low high (inr (inl below)) = let one = are.each c low below in record { label = one.label; ident = one.ident; there = still one.label one.ident one.there; is = one.is }
      all from are c low high (inr (inr above)) = absurd (omega (arith, high, next, above))

      within : (from : ℕ) → from ≤ position old.contexts → AreLabelContexts from old → (other : Label) (ident : Ident) → ((holder_of own ≡ holder_of other) × (ident ≡ (symbol, position old.contexts))) ⊎ (held old other ≡ Some ident) → (from ≤ ident.1) × (ident.1 < position new.contexts)
      within from low are other ident (inl its) = let e = ap (λ (x : Ident). x.1) its.1 in (omega (arith, e, low), omega (arith, e, next))
      within from low are other ident (inr was) = let w = are.within other ident was in let low_w = w.0 in let high_w = w.1 in (omega (arith, low_w), omega (arith, high_w, next))

      apart : (from : ℕ) → from ≤ position old.contexts → AreLabelContexts from old → (x y : Label) (i j : Ident) → ((holder_of own ≡ holder_of x) × (i ≡ (symbol, position old.contexts))) ⊎ (held old x ≡ Some i) → ((holder_of own ≡ holder_of y) × (j ≡ (symbol, position old.contexts))) ⊎ (held old y ≡ Some j) → i.1 ≡ j.1 → holder_of x ≡ holder_of y
      apart from low are x y i j (inl a) (inl b) same = sym a.0 ∙ b.0
      apart from low are x y i j (inl a) (inr b) same = let w = are.within y j b in let high = w.1 in let e = ap (λ (x : Ident). x.1) a.1 in absurd (omega (arith, high, e, same))
      apart from low are x y i j (inr a) (inl b) same = let w = are.within x i a in let high = w.1 in let e = ap (λ (x : Ident). x.1) b.1 in absurd (omega (arith, high, e, same))
      apart from low are x y i j (inr a) (inr b) same = are.apart x y i j a b same

-- ---- add

-- what holds where all went well
pub on-ok : {T E : Type 0} (result : Result T E) (P Q : Type 0) → (P → Q) → OnOk result P → OnOk result Q
on-ok (Ok x) P Q then is = then is
on-ok (Err x) P Q then is = tt

module _ (p : Program) (list : List ℕ) where
  -- a label that gets a name of its symbol is added
  pub adds-one : (label : Label) (symbol : Text) (old new : BundleNames) → symbol ≡ holder_symbol p list (holder_of label) → GivesName label symbol old new → GivesNames p list (λ holder. holder ≡ holder_of label) old new
  adds-one label symbol old new is gives = record {
    kept = gives.kept;
    there = λ other same. let t = gives.there in (t.0, same-held new other label same ∙ t.1);
    others = λ other ident at. elim (gives.others other ident at) [ inl was ↦ inl was | inr its ↦ inr (its.0, its.1 ∙ is ∙ ap (holder_symbol p list) (sym its.0)) ];
    later = gives.later;
    held_so = gives.held_so;
    all_so = gives.all_so;
    locals = gives.locals;
    scopes = gives.scopes;
    answered = gives.answered;
  }

  -- nothing is added
  pub adds-none : (Those : Holder → Type 0) (names : BundleNames) → ((holder : Holder) → Those holder → ⊥) → GivesNames p list Those names names
  adds-none Those names none = record {
    kept = λ other ident is. is;
    there = λ other its. absurd (none (holder_of other) its);
    others = λ other ident is. inl is;
    later = omega arith;
    held_so = λ from low are. are;
    all_so = λ from are. are;
    locals = refl;
    scopes = refl;
    answered = refl;
  }

  -- one after another
  pub adds-on : (These Those All : Holder → Type 0) (a b c : BundleNames)
      → ((holder : Holder) → All holder → These holder ⊎ Those holder)
      → ((holder : Holder) → These holder → All holder)
      → ((holder : Holder) → Those holder → All holder)
      → GivesNames p list These a b → GivesNames p list Those b c → GivesNames p list All a c
  adds-on These Those All a b c split first second one two = record {
    kept = λ other ident is. two.kept other ident (one.kept other ident is);
    there = λ other its. elim (split (holder_of other) its) [ inl x ↦ (let t = one.there other x in (t.0, two.kept other t.0 t.1)) | inr y ↦ two.there other y ];
    others = λ other ident at. elim (two.others other ident at) [ inl was ↦ (elim (one.others other ident was) [ inl before ↦ inl before | inr its ↦ inr (first (holder_of other) its.0, its.1) ]) | inr its ↦ inr (second (holder_of other) its.0, its.1) ];
    later = let x = one.later in let y = two.later in omega (arith, x, y);
    held_so = λ from low are. let x = one.later in two.held_so from (omega (arith, low, x)) (one.held_so from low are);
    all_so = λ from are. two.all_so from (one.all_so from are);
    locals = two.locals ∙ one.locals;
    scopes = two.scopes ∙ one.scopes;
    answered = two.answered ∙ one.answered;
  }

-- ---- taken

-- what is taken otherwise can be taken too
pub takable-with : (p : Program) (t : Linking.Target) (taken : Taken) → IsTakable p t → IsTakable p (with_taken t taken)
takable-with p (Linking.Declared k x) taken is = is
takable-with p (Linking.Namespace k) taken is = is
takable-with p (Linking.External s its) taken is = is
takable-with p (Linking.CommonJs k c its) taken is = is

module _ (p : Program) (list : List ℕ) where
  -- the same labels, told otherwise
  pub adds-like : (These Those : Holder → Type 0) (a b : BundleNames) → ((holder : Holder) → These holder → Those holder) → ((holder : Holder) → Those holder → These holder) → GivesNames p list These a b → GivesNames p list Those a b
  adds-like These Those a b to from adds = record {
    kept = adds.kept;
    there = λ other its. adds.there other (from _ its);
    others = λ other ident at. elim (adds.others other ident at) [ inl was ↦ inl was | inr its ↦ inr (to _ its.0, its.1) ];
    later = adds.later;
    held_so = adds.held_so;
    all_so = adds.all_so;
    locals = adds.locals;
    scopes = adds.scopes;
    answered = adds.answered;
  }

  module _ (base : Linking.Target) where
    -- the whole
    pub adds-whole : (t : Linking.Target) (a b : BundleNames) → t ≡ with_taken base Whole → GivesNames p list (λ holder. holder ≡ NameOf (m.Of t)) a b → GivesNames p list (IsWholeOf base true) a b
    adds-whole t a b same adds = adds-like (λ holder. holder ≡ NameOf (m.Of t)) (IsWholeOf base true) a b
        (λ holder is. record { taken = refl; is = is ∙ ap (λ u. NameOf (m.Of u)) same })
        (λ holder its. its.is ∙ ap (λ u. NameOf (m.Of u)) (sym same)) adds

    -- no names
    pub named-first : (names : List (Bor Text)) (a : BundleNames) → names ≡ [] → GivesNames p list (IsNamedOf base names) a a
    named-first names a none = adds-none p list (IsNamedOf base names) a (λ holder its. none-some its.name (sym (ap (λ l. slice_get l its.i) none) ∙ its.there))

    -- one name more
    pub named-next : (its : List (Bor Text)) (i after : ℕ) (name : Bor Text) (t : Linking.Target) (a b c : BundleNames)
        → slice_get its i ≡ Some name
        → t ≡ with_taken base (Named name.now)
        → after ≡ suc i
        → GivesNames p list (IsNamedOf base (take i its)) a b
        → GivesNames p list (λ holder. holder ≡ NameOf (m.Of t)) b c
        → GivesNames p list (IsNamedOf base (take after its)) a c
    named-next its i after name t a b c at same next one two = subst (λ names. GivesNames p list (IsNamedOf base names) a c) (sym (ap (λ n. take n its) next ∙ take-next its i name at))
        (adds-on p list (IsNamedOf base (take i its)) (λ holder. holder ≡ NameOf (m.Of t)) (IsNamedOf base (take i its ++ name ∷ [])) a b c
        (λ holder is. elim (push-cases (take i its) name is.i is.name is.there) [ inl old ↦ inl (record { name = is.name; i = is.i; there = old; is = is.is }) | inr last ↦ inr (is.is ∙ ap (λ (x : Bor Text). NameOf (m.Of (with_taken base (Named x.now)))) (sym last.1) ∙ ap (λ u. NameOf (m.Of u)) (sym same)) ])
        (λ holder is. record { name = is.name; i = is.i; there = push-old (take i its) name is.i is.name is.there; is = is.is })
        (λ holder is. record { name = name; i = length (take i its); there = push-last (take i its) name (length (take i its)) refl; is = is ∙ ap (λ u. NameOf (m.Of u)) same })
        one two)

    -- names, and the whole
    pub named-taken : (its : List (Bor Text)) (whole : Bool) (holder : Holder) → IsNamedOf base its holder → IsTakenOf base (map (λ (name : Bor Text). name.now) its) whole holder
    named-taken its whole holder is = by_name is.name.now (map-on (λ (name : Bor Text). name.now) its is.name (place-there its is.i is.name is.there)) is.is

    pub whole-taken : (its : List (Bor Text)) (whole : Bool) (holder : Holder) → IsWholeOf base whole holder → IsTakenOf base (map (λ (name : Bor Text). name.now) its) whole holder
    whole-taken its whole holder is = by_whole is.taken is.is

    pub adds-taken : (its : List (Bor Text)) (whole : Bool) (a b c : BundleNames) → GivesNames p list (IsNamedOf base its) a b → GivesNames p list (IsWholeOf base whole) b c → GivesNames p list (IsTakenOf base (map (λ (name : Bor Text). name.now) its) whole) a c
    adds-taken its whole a b c one two = adds-on p list (IsNamedOf base its) (IsWholeOf base whole) (IsTakenOf base (map (λ (name : Bor Text). name.now) its) whole) a b c split (named-taken its whole) (whole-taken its whole) one two
      where
        split : (holder : Holder) → IsTakenOf base (map (λ (name : Bor Text). name.now) its) whole holder → IsNamedOf base its holder ⊎ IsWholeOf base whole holder
        split holder (by_name x there is) =
            let back = map-back (λ (name : Bor Text). name.now) its x there in
            let at = there-place its back.0 back.1 in
            inl (record { name = back.0; i = at.0; there = at.1; is = is ∙ ap (λ (y : Text). NameOf (m.Of (with_taken base (Named y)))) (sym back.2) })
        split holder (by_whole taken is) = inr (record { taken = taken; is = is })
