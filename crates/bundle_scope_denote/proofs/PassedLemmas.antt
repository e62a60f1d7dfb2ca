-- The scopes that a name passes, from one on outwards.
use Rattle.std.proofs.Common.{◌≡◌, ℕ, suc, Bool, true, false, not, cond, List, [], ◌∷◌, ◌++◌, Option, Some, None, length, ap, sym, ◌∙◌, subst, append-nil}
use Rattle.std.specs.List.{AllZip, take_while}
use Rattle.std.proofs.lemmas.List.Sums.{take_while-cons}
use Rattle.std.proofs.lemmas.List.{append_assoc}
use Rattle.bundle_rules.specs.Scopes as s
use Rattle.bundle_scope_denote.specs.declared.table.Way.{Way}
use Rattle.bundle_scope_denote.specs.Kinds.{takes_by}
use Rattle.bundle_scope_denote.specs.Numbers.{NumberedScope, AreAround}
use Rattle.bundle_scope_denote.specs.Chains.{outer_at, passes, scopes_outwards, AreInOrder, AreScopesAt}
use Rattle.bundle_scope_denote.specs.Barred.{passed_of, passed_at}
use Rattle.bundle_scope_denote.proofs.OutwardLemmas.{IsScopeAt, outwards-none, outwards-around}
use Rattle.bundle_scope_denote.proofs.HomeLemmas.{passes-at, number-around}

-- outside all scopes nothing more is passed
pub passed-outside : (scopes : List NumberedScope) (way : Way) (more : ℕ) (at : Option ℕ) (passed goal : List ℕ) → at ≡ None → passed ++ passed_of scopes way (scopes_outwards scopes more at) ≡ goal → passed ≡ goal
passed-outside scopes way more at passed goal none is = sym (append-nil passed) ∙ sym (ap (λ l. passed ++ passed_of scopes way l) (ap (scopes_outwards scopes more) none ∙ outwards-none scopes more)) ∙ is

-- what is passed from a number on
passed-from : (scopes : List NumberedScope) (way : Way) (more rest number : ℕ) → more ≡ suc rest → passed_of scopes way (scopes_outwards scopes more (Some number)) ≡ cond (not (passes (takes_by way) scopes number)) (number ∷ passed_of scopes way (scopes_outwards scopes rest (outer_at scopes number))) []
passed-from scopes way more rest number one = ap (λ n. passed_of scopes way (scopes_outwards scopes n (Some number))) one ∙ take_while-cons (λ n. not (passes (takes_by way) scopes n)) number (scopes_outwards scopes rest (outer_at scopes number))

-- nor is more passed from the scope that takes the name
pub passed-taken : (scopes : List NumberedScope) (way : Way) (more rest number : ℕ) (at : Option ℕ) (passed goal : List ℕ) → at ≡ Some number → more ≡ suc rest → passes (takes_by way) scopes number ≡ true → passed ++ passed_of scopes way (scopes_outwards scopes more at) ≡ goal → passed ≡ goal
passed-taken scopes way more rest number at passed goal there one takes is = sym (append-nil passed) ∙ sym (ap (λ l. passed ++ l) (ap (λ n. passed_of scopes way (scopes_outwards scopes more n)) there ∙ passed-from scopes way more rest number one ∙ ap (λ t. cond (not t) (number ∷ passed_of scopes way (scopes_outwards scopes rest (outer_at scopes number))) []) takes)) ∙ is

-- a scope more is passed
pub passed-next : (scopes : List NumberedScope) (way : Way) (more rest number : ℕ) (at next : Option ℕ) (passed new goal : List ℕ) → at ≡ Some number → more ≡ suc rest → passes (takes_by way) scopes number ≡ false → outer_at scopes number ≡ next → new ≡ passed ++ number ∷ [] → passed ++ passed_of scopes way (scopes_outwards scopes more at) ≡ goal → new ++ passed_of scopes way (scopes_outwards scopes rest next) ≡ goal
passed-next scopes way more rest number at next passed new goal there one takes outer pushed is =
    ap (λ l. l ++ passed_of scopes way (scopes_outwards scopes rest next)) pushed ∙ append_assoc passed (number ∷ []) (passed_of scopes way (scopes_outwards scopes rest next)) ∙ ap (λ n. passed ++ number ∷ passed_of scopes way (scopes_outwards scopes rest n)) (sym outer) ∙ sym (ap (λ l. passed ++ l) (ap (λ n. passed_of scopes way (scopes_outwards scopes more n)) there ∙ passed-from scopes way more rest number one ∙ ap (λ t. cond (not t) (number ∷ passed_of scopes way (scopes_outwards scopes rest (outer_at scopes number))) []) takes)) ∙ is

-- the first that pass of two lists that agree in turn
take_while-zipped : {A B : Type 0} (R : A → B → Type 0) (p : A → Bool) (q : B → Bool) → ((a : A) (b : B) → R a b → p a ≡ q b) → (xs : List A) (ys : List B) → AllZip R xs ys → AllZip R (take_while p xs) (take_while q ys)
take_while-zipped R p q same [] [] all = tt
take_while-zipped R p q same [] (y ∷ ys) all = absurd all
take_while-zipped R p q same (x ∷ xs) [] all = absurd all
take_while-zipped {A = A} {B = B} R p q same (x ∷ xs) (y ∷ ys) all =
    subst (λ (l : List A). AllZip R l (take_while q (y ∷ ys))) (sym (take_while-cons p x xs)) (subst (λ (l : List B). AllZip R (cond (p x) (x ∷ take_while p xs) []) l) (sym (take_while-cons q y ys)) (subst (λ t. AllZip R (cond t (x ∷ take_while p xs) []) (cond (q y) (y ∷ take_while q ys) [])) (sym (same x y all.0)) (by (take_while-zipped R p q same xs ys all.1) (q y))))
  where
    by : AllZip R (take_while p xs) (take_while q ys) → (t : Bool) → AllZip R (cond t (x ∷ take_while p xs) []) (cond t (y ∷ take_while q ys) [])
    by later true = (all.0, later)
    by later false = tt

-- the numbers of the scopes passed are those of the scopes that the definition names
pub passed-around : (scopes : List NumberedScope) → AreInOrder scopes → (way : Way) (test : s.Scope → Bool) → ((scope : s.Scope) → takes_by way scope ≡ test scope) → (from : ℕ) (around : List s.Scope) → AreAround scopes (Some from) around → AreScopesAt scopes (passed_at scopes way from) (take_while (λ scope. not (test scope)) around)
passed-around scopes ordered way test same from around known = take_while-zipped (IsScopeAt scopes) (λ number. not (passes (takes_by way) scopes number)) (λ scope. not (test scope)) (λ number scope at. ap not (passes-at (takes_by way) scopes number scope at ∙ same scope)) (scopes_outwards scopes (length scopes) (Some from)) around (outwards-around scopes ordered (length scopes) from around (number-around scopes from around known) known)
