-- What is kept while occurrences are passed.
use Rattle.std.proofs.Common.{◌≡◌, ◌<◌, ◌⊎◌, inl, inr, ℕ, ◌+◌, Bool, true, false, cond, List, [], ◌∷◌, ◌++◌, Option, Some, None, length, take, ap, sym, ◌∙◌, subst, arith}
use Rattle.std.specs.Prelude.{slice_get, IfSome}
use Rattle.std.specs.List.{AllZip}
use Rattle.std.proofs.lemmas.Option.{none-some, same_Some}
use Rattle.std.proofs.lemmas.List.{length_push}
use Rattle.std.proofs.lemmas.Slice.Zip.{all_zipped_more}
use Rattle.bundle_scope_denote.specs.declared.table.Denoted.{Denoted}
use Rattle.bundle_scope_denote.specs.declared.table.Denotations.{Denotations}
use Rattle.bundle_scope_denote.proofs.LoopLemmas.{take-next}
use Rattle.bundle_scope_names.specs.declared.contexts.ContextNumbers.{ContextNumbers}
use Rattle.bundle_scope_names.specs.Numbering.{AreBindingsWithin, is_of_top, binding_number, AreGiven, HasContext, AreDenoted, LacksNumbers, GrowsNumbers, Stays, Adds, HasBindingNumber, LacksNumber, GivesContext, IsNumberedTo}
use Rattle.bundle_scope_names.proofs.KnowsLemmas.{number-stays, where-in, once-more}

-- one more binding is denoted
denoted-more : (table : Denotations) (next : ℕ) (given : List ℕ) (b i : ℕ) (entry : Denoted) → slice_get table.occurrences.items i ≡ Some entry → entry.binding ≡ Some b → is_of_top table b ≡ false → binding_number next given b ≡ None → AreDenoted table given → AreDenoted table (given ++ b ∷ [])
denoted-more table next given b i entry at is inner none known = record {
  once = once-more next given b none known.once;
  denoted = λ k x there. by_place k x (where-in given b k x there);
  inner = λ k x there. inner_by k x (where-in given b k x there);
}
  where
    by_place : (k x : ℕ) → (slice_get given k ≡ Some x) ⊎ ((k ≡ length given) × (b ≡ x)) → (j : ℕ) × (e : Denoted) × (slice_get table.occurrences.items j ≡ Some e) × (e.binding ≡ Some x)
    by_place k x (inl among) = known.denoted k x among
    by_place k x (inr last) = (i, entry, at, is ∙ ap (λ y. Some y) last.1)

    inner_by : (k x : ℕ) → (slice_get given k ≡ Some x) ⊎ ((k ≡ length given) × (b ≡ x)) → is_of_top table x ≡ false
    inner_by k x (inl among) = known.inner k x among
    inner_by k x (inr last) = ap (is_of_top table) (sym last.1) ∙ inner

-- a context stays when one more has a number
context-stays : (table : Denotations) (local next : ℕ) (given : List ℕ) (b : ℕ) (binding : Option ℕ) (context : ℕ) → HasContext table local next given binding context → HasContext table local next (given ++ b ∷ []) binding context
context-stays table local next given b None context has = has
context-stays table local next given b (Some x) context has = by_top (is_of_top table x) has
  where
    by_top : (t : Bool) → cond t (Some local) (binding_number next given x) ≡ Some context → cond t (Some local) (binding_number next (given ++ b ∷ []) x) ≡ Some context
    by_top true is = is
    by_top false is = number-stays next given b x context is

contexts-stay : (table : Denotations) (local next : ℕ) (given : List ℕ) (b : ℕ) (entries : List Denoted) (contexts : List ℕ) → AllZip (λ (entry : Denoted) (context : ℕ). HasContext table local next given entry.binding context) entries contexts → AllZip (λ (entry : Denoted) (context : ℕ). HasContext table local next (given ++ b ∷ []) entry.binding context) entries contexts
contexts-stay table local next given b [] [] all = tt
contexts-stay table local next given b [] (c ∷ cs) all = all
contexts-stay table local next given b (e ∷ es) [] all = all
contexts-stay table local next given b (e ∷ es) (c ∷ cs) all = (context-stays table local next given b e.binding c all.0, contexts-stay table local next given b es cs all.1)

-- one more occurrence was passed
module _ (table : Denotations) (local next : ℕ) (old new : ContextNumbers) (contexts : List ℕ) (i : ℕ) (entry : Denoted) (at : slice_get table.occurrences.items i ≡ Some entry) where
  abbrev Has : List ℕ → Denoted → ℕ → Type 0
  Has given e context = HasContext table local next given e.binding context

  passed-with : (c : ℕ) (known : IsNumberedTo table local next old contexts (take i table.occurrences.items)) → new ≡ old → HasContext table local next known.given entry.binding c → IsNumberedTo table local next new (contexts ++ c ∷ []) (take (i + 1) table.occurrences.items)
  passed-with c known same has = record {
    len = ap (λ (n : ContextNumbers). length n.of.items) same ∙ known.len;
    given = known.given;
    holds = subst (AreGiven next known.given) (sym same) known.holds;
    denoted = known.denoted;
    contexts_are = subst (λ l. AllZip (Has known.given) l (contexts ++ c ∷ [])) (sym (take-next table.occurrences.items i entry at)) (all_zipped_more (Has known.given) (take i table.occurrences.items) contexts entry c known.contexts_are has);
  }

  passed-new : (b c : ℕ) (known : IsNumberedTo table local next old contexts (take i table.occurrences.items)) → entry.binding ≡ Some b → is_of_top table b ≡ false → length new.of.items ≡ length old.of.items → HasBindingNumber next known.given b c new → IsNumberedTo table local next new (contexts ++ c ∷ []) (take (i + 1) table.occurrences.items)
  passed-new b c known is inner len number = by_growth number.now_given number.grows number.holds number.has
    where
      has-now : (given : List ℕ) → binding_number next given b ≡ Some c → HasContext table local next given entry.binding c
      has-now given has = subst (λ x. HasContext table local next given x c) (sym is) (ap (λ t. cond t (Some local) (binding_number next given b)) inner ∙ has)

      by_growth : (given : List ℕ) → GrowsNumbers next known.given b given → AreGiven next given new → binding_number next given b ≡ Some c → IsNumberedTo table local next new (contexts ++ c ∷ []) (take (i + 1) table.occurrences.items)
      by_growth _ Stays holds has = record {
        len = len ∙ known.len;
        given = known.given;
        holds = holds;
        denoted = known.denoted;
        contexts_are = subst (λ l. AllZip (Has known.given) l (contexts ++ c ∷ [])) (sym (take-next table.occurrences.items i entry at)) (all_zipped_more (Has known.given) (take i table.occurrences.items) contexts entry c known.contexts_are (has-now known.given has));
      }
      by_growth _ (Adds none) holds has = record {
        len = len ∙ known.len;
        given = known.given ++ b ∷ [];
        holds = holds;
        denoted = denoted-more table next known.given b i entry at is inner none known.denoted;
        contexts_are = subst (λ l. AllZip (Has (known.given ++ b ∷ [])) l (contexts ++ c ∷ [])) (sym (take-next table.occurrences.items i entry at)) (all_zipped_more (Has (known.given ++ b ∷ [])) (take i table.occurrences.items) contexts entry c (contexts-stay table local next known.given b (take i table.occurrences.items) contexts known.contexts_are) (has-now (known.given ++ b ∷ []) has));
      }

  pub passed-one : (binding : Option ℕ) (c : ℕ) → entry.binding ≡ binding → IsNumberedTo table local next old contexts (take i table.occurrences.items) → GivesContext table local binding old new (Some c) → IsNumberedTo table local next new (contexts ++ c ∷ []) (take (i + 1) table.occurrences.items)
  passed-one None c is known gives = passed-with c known gives.0 (subst (λ x. HasContext table local next known.given x c) (sym is) (same_Some c 1 gives.1))
  passed-one (Some b) c is known (inl top) = passed-with c known top.1 (subst (λ x. HasContext table local next known.given x c) (sym is) (ap (λ t. cond t (Some local) (binding_number next known.given b)) top.0 ∙ sym top.2))
  passed-one (Some b) c is known (inr inner) = passed-new b c known is inner.0 inner.1.len (inner.1.gives next known.given known.holds)

  -- or no number is left
  pub lacks : (binding : Option ℕ) → entry.binding ≡ binding → IsNumberedTo table local next old contexts (take i table.occurrences.items) → GivesContext table local binding old new None → LacksNumbers table next
  lacks None is known gives = absurd (none-some 1 gives.1)
  lacks (Some b) is known (inl top) = absurd (none-some local top.2)
  lacks (Some b) is known (inr inner) =
      let none : LacksNumber next known.given b = inner.1.gives next known.given known.holds in
      record {
        wanted = known.given ++ b ∷ [];
        denoted = denoted-more table next known.given b i entry at is inner.0 none.has_none known.denoted;
        too_many = omega (arith, length_push known.given b, none.last);
      }

-- what has a binding has one of the table
pub is-within : (table : Denotations) (numbers : ContextNumbers) (i : ℕ) (entry : Denoted) → AreBindingsWithin table → length numbers.of.items ≡ length table.bindings.items → slice_get table.occurrences.items i ≡ Some entry → (binding : Option ℕ) → entry.binding ≡ binding → IfSome binding (λ number. number < length numbers.of.items)
is-within table numbers i entry within len at None is = tt
is-within table numbers i entry within len at (Some b) is = let less = within i b entry at is in omega (arith, len, less)
