-- What was met tells which declarations may not stand beside it.
use Rattle.std.proofs.Common.{◌≡◌, ℕ, zero, suc, Bool, true, false, cond, ◌||◌, ◌&&◌, List, [], ◌∷◌, ◌++◌, Some, None, find, take, refl, ap, ap₂, sym, ◌∙◌, eqb-true, eq-eqb}
use Rattle.std.specs.Prelude.{slice_get}
use Rattle.std.specs.List.{list_any}
use Rattle.std.proofs.lemmas.Bool.Decides.{same_from_decides, Decides-eqb}
use Rattle.std.proofs.lemmas.Bool.{false≢true}
use Rattle.std.proofs.lemmas.Option.{none-some, same_Some}
use Rattle.bundle_rules.specs.Scopes as s
use Rattle.bundle_rules.specs.Declarations as d
use Rattle.bundle_rules.specs.Homes as o
use Rattle.bundle_rules.specs.Doubled as u
use Rattle.bundle_scope_denote.specs.declared.doubled.Met.{Met}
use Rattle.bundle_scope_denote.specs.declared.doubled.Reach.{Reach}
use Rattle.bundle_scope_denote.specs.Numbers.{NumberedScope}
use Rattle.bundle_scope_denote.specs.Chains.{numbered_scope_at, AreInOrder, IsOnce}
use Rattle.bundle_scope_denote.specs.Bound.{ScopeKey, same_key}
use Rattle.bundle_scope_denote.specs.Barred.{held_in, passed, barred_by, IsReachOf, has_any, is_key_in, is_taken_in, is_barred_in, HasMet}
use Rattle.bundle_scope_denote.proofs.ZipLemmas.{list_any-zipped}
use Rattle.bundle_scope_denote.proofs.KeyLemmas.{same_key-at, exactly-Decides, agree-plain}
use Rattle.bundle_scope_denote.proofs.ParameterLemmas.{list_any-or, list_any-same}
use Rattle.bundle_scope_denote.proofs.OutwardLemmas.{IsScopeAt}
use Rattle.bundle_scope_denote.proofs.OrderLemmas.{collide}

-- a `var` may stand twice
var-twice : (way : d.Way) (scopes : List s.Scope) → u.is_var way ≡ true → u.stands_once way scopes ≡ false
var-twice d.ByVar scopes is = refl
var-twice d.ByImport scopes is = absurd (false≢true is)
var-twice d.ByLet scopes is = absurd (false≢true is)
var-twice d.ByConst scopes is = absurd (false≢true is)
var-twice d.ByFunction scopes is = absurd (false≢true is)
var-twice d.ByClass scopes is = absurd (false≢true is)
var-twice d.ByDefault scopes is = absurd (false≢true is)
var-twice d.ByParameter scopes is = absurd (false≢true is)
var-twice d.ByCatch scopes is = absurd (false≢true is)
var-twice d.ByLoop scopes is = absurd (false≢true is)
var-twice d.ByFunctionName scopes is = absurd (false≢true is)
var-twice d.ByClassName scopes is = absurd (false≢true is)
var-twice d.ByWrapper scopes is = absurd (false≢true is)

-- what a declaration excludes stands in a scope that it bars
pub excludes-barred : (a b : d.Declared) → u.excludes a b ≡ list_any (s.same_scope (o.taker b)) (barred_by a)
excludes-barred a b = by (u.is_var a.by) refl
  where
    held : (l : Bool) (first second : s.Scope) → ((l && (s.same_scope (o.taker b) first || s.same_scope (o.taker b) second)) || false) ≡ list_any (s.same_scope (o.taker b)) (cond l (first ∷ second ∷ []) [])
    held false first second = refl
    held true first second = regroup (s.same_scope (o.taker b) first) (s.same_scope (o.taker b) second)
      where
        regroup : (x y : Bool) → ((x || y) || false) ≡ (x || (y || false))
        regroup true y = refl
        regroup false true = refl
        regroup false false = refl

    by : (t : Bool) → u.is_var a.by ≡ t → ((u.is_lexical a && u.stands_beside a b) || (t && list_any (s.same_scope (o.taker b)) (passed a))) ≡ list_any (s.same_scope (o.taker b)) (cond t (passed a) (held_in a.by (o.from_taker a.by a.scopes)))
    by true is = ap (λ l. (l && u.stands_beside a b) || list_any (s.same_scope (o.taker b)) (passed a)) (var-twice a.by (o.from_taker a.by a.scopes) is)
    by false is = held (u.is_lexical a) (o.taker a) (o.group_of (o.from_taker a.by a.scopes))

same_scope-sym : (a b : s.Scope) → s.same_scope a b ≡ s.same_scope b a
same_scope-sym a b = same_from_decides (s.same_scope a b) (s.same_scope b a) (Decides-eqb (s.scope_order a) (s.scope_order b)) (λ e. sym (eqb-true (s.scope_order b) (s.scope_order a) e), λ e. eq-eqb (s.scope_order b) (s.scope_order a) (sym e))

-- one test of all can be taken out
any-and : {X : Type 0} (q : X → Bool) (t : Bool) (xs : List X) → list_any (λ x. q x && t) xs ≡ (t && list_any q xs)
any-and q true [] = refl
any-and q false [] = refl
any-and q t (x ∷ xs) = ap (λ r. (q x && t) || r) (any-and q t xs) ∙ by (q x) t (list_any q xs)
  where
    by : (a t r : Bool) → ((a && t) || (t && r)) ≡ (t && (a || r))
    by true true r = refl
    by true false r = refl
    by false true r = refl
    by false false r = refl

-- two lists can be gone over in either order
any-swap : {X Y : Type 0} (p : X → Bool) (q : X → Y → Bool) (xs : List X) (ys : List Y) → list_any (λ y. list_any (λ x. p x && q x y) xs) ys ≡ list_any (λ x. p x && list_any (q x) ys) xs
any-swap p q xs [] = none xs
  where
    shut : (t : Bool) → (t && false) ≡ false
    shut true = refl
    shut false = refl

    none : (xs : List _) → false ≡ list_any (λ x. p x && false) xs
    none [] = refl
    none (x ∷ xs) = none xs ∙ ap (λ t. t || list_any (λ y. p y && false) xs) (sym (shut (p x)))
any-swap p q xs (y ∷ ys) = ap (λ t. list_any (λ x. p x && q x y) xs || t) (any-swap p q xs ys) ∙ list_any-or (λ x. p x && q x y) (λ x. p x && list_any (q x) ys) xs ∙ list_any-same (λ x. (p x && q x y) || (p x && list_any (q x) ys)) (λ x. p x && (q x y || list_any (q x) ys)) (λ x. spread (p x) (q x y) (list_any (q x) ys)) xs
  where
    spread : (a b c : Bool) → ((a && b) || (a && c)) ≡ (a && (b || c))
    spread true b c = refl
    spread false b c = refl

-- a name in a scope excludes what was met exactly if they collide
pub excluded-met : (scopes : List NumberedScope) (names : List d.Name) (often : ℕ → Bool) (before : List d.Declared) (met : Met) (reach : Reach) (x : d.Declared) (number : ℕ) → often number ≡ true → HasMet scopes names often before met → IsReachOf scopes reach x → slice_get names number ≡ Some x.name → x.name.ctxt ≡ None → (list_any (same_key (reach.taker, number)) met.barred.keys || has_any met.taken.keys number reach.barred.items) ≡ list_any (λ a. collide a x) before
excluded-met scopes names often before met reach x number twice known reaches named plain =
    ap₂ (λ (a : Bool) (b : Bool). a || b) first second ∙ list_any-or (is_barred_in (o.taker x) x.name) (λ a. agrees a && list_any (s.same_scope (o.taker a)) (barred_by x)) before ∙ list_any-same (λ a. is_barred_in (o.taker x) x.name a || (agrees a && list_any (s.same_scope (o.taker a)) (barred_by x))) (λ a. collide a x) each before
  where
    agrees : d.Declared → Bool
    agrees a = d.names_agree a.name x.name

    first : list_any (same_key (reach.taker, number)) met.barred.keys ≡ list_any (is_barred_in (o.taker x) x.name) before
    first = known.barred reach.taker number (o.taker x) x.name reaches.taker named plain twice

    second : has_any met.taken.keys number reach.barred.items ≡ list_any (λ a. agrees a && list_any (s.same_scope (o.taker a)) (barred_by x)) before
    second = list_any-zipped (IsScopeAt scopes) (λ n. list_any (same_key (n, number)) met.taken.keys) (λ scope. list_any (is_taken_in scope x.name) before) (λ n scope at. known.taken n number scope x.name at named plain twice) reach.barred.items (barred_by x) reaches.barred ∙ any-swap agrees (λ a scope. s.same_scope (o.taker a) scope) before (barred_by x)

    spread : (a b c : Bool) → ((a && b) || (a && c)) ≡ (a && (b || c))
    spread true b c = refl
    spread false b c = refl

    each : (a : d.Declared) → (is_barred_in (o.taker x) x.name a || (agrees a && list_any (s.same_scope (o.taker a)) (barred_by x))) ≡ collide a x
    each a = ap₂ (λ (b : Bool) (c : Bool). (agrees a && b) || (agrees a && c)) (sym (excludes-barred a x)) (sym (excludes-barred x a)) ∙ spread (agrees a) (u.excludes a x) (u.excludes x a)

-- one more passes
any-more : {X : Type 0} (p : X → Bool) (xs : List X) (x : X) → list_any p (xs ++ x ∷ []) ≡ (list_any p xs || p x)
any-more p [] x = one (p x)
  where
    one : (t : Bool) → (t || false) ≡ t
    one true = refl
    one false = refl
any-more p (y ∷ ys) x = ap (λ t. p y || t) (any-more p ys x) ∙ regroup (p y) (list_any p ys) (p x)
  where
    regroup : (a b c : Bool) → (a || (b || c)) ≡ ((a || b) || c)
    regroup true b c = refl
    regroup false b c = refl

-- the key of a name in a scope
key-told : (scopes : List NumberedScope) (names : List d.Name) → AreInOrder scopes → IsOnce names → (x : d.Declared) (own : ℕ) → slice_get names own ≡ Some x.name → x.name.ctxt ≡ None → (n number : ℕ) (scope : s.Scope) (name : d.Name) → numbered_scope_at scopes n ≡ Some scope → slice_get names number ≡ Some name → name.ctxt ≡ None → (m : ℕ) (other : s.Scope) → numbered_scope_at scopes m ≡ Some other → same_key (n, number) (m, own) ≡ (s.same_scope other scope && d.names_agree x.name name)
key-told scopes names ordered once x own named plain n number scope name at_n at_number bare m other at_m = same_key-at scopes names ordered once n number scope name at_n at_number (m, own) other x.name at_m named ∙ ap (λ t. s.same_scope other scope && t) (sym (agree-plain x.name name plain bare))

-- one more declaration was met
pub met-more : (scopes : List NumberedScope) (names : List d.Name) → AreInOrder scopes → IsOnce names → (often : ℕ → Bool) (before : List d.Declared) (old new : Met) (reach : Reach) (x : d.Declared) (own : ℕ) → IsReachOf scopes reach x → slice_get names own ≡ Some x.name → x.name.ctxt ≡ None → ((key : ScopeKey) → list_any (same_key key) new.taken.keys ≡ (list_any (same_key key) old.taken.keys || same_key key (reach.taker, own))) → ((key : ScopeKey) → list_any (same_key key) new.barred.keys ≡ (list_any (same_key key) old.barred.keys || is_key_in key own reach.barred.items)) → HasMet scopes names often before old → HasMet scopes names often (before ++ x ∷ []) new
met-more scopes names ordered once often before old new reach x own reaches named plain takes bars known = record {
  taken = λ n number scope name at_n at_number bare twice. takes (n, number) ∙ ap₂ (λ (a : Bool) (b : Bool). a || b) (known.taken n number scope name at_n at_number bare twice) (key-told scopes names ordered once x own named plain n number scope name at_n at_number bare reach.taker (o.taker x) reaches.taker ∙ turned (s.same_scope (o.taker x) scope) (d.names_agree x.name name)) ∙ sym (any-more (is_taken_in scope name) before x);
  barred = λ n number scope name at_n at_number bare twice. bars (n, number) ∙ ap₂ (λ (a : Bool) (b : Bool). a || b) (known.barred n number scope name at_n at_number bare twice) (barred_at n number scope name at_n at_number bare) ∙ sym (any-more (is_barred_in scope name) before x);
}
  where
    turned : (a b : Bool) → (a && b) ≡ (b && a)
    turned true true = refl
    turned true false = refl
    turned false true = refl
    turned false false = refl

    barred_at : (n number : ℕ) (scope : s.Scope) (name : d.Name) → numbered_scope_at scopes n ≡ Some scope → slice_get names number ≡ Some name → name.ctxt ≡ None → is_key_in (n, number) own reach.barred.items ≡ is_barred_in scope name x
    barred_at n number scope name at_n at_number bare = list_any-zipped (IsScopeAt scopes) (λ m. same_key (n, number) (m, own)) (λ other. s.same_scope scope other && d.names_agree x.name name) (λ m other at_m. key-told scopes names ordered once x own named plain n number scope name at_n at_number bare m other at_m ∙ ap (λ t. t && d.names_agree x.name name) (same_scope-sym other scope)) reach.barred.items (barred_by x) reaches.barred ∙ any-and (s.same_scope scope) (d.names_agree x.name name) (barred_by x)

-- nothing was met
pub met-none : (scopes : List NumberedScope) (names : List d.Name) (often : ℕ → Bool) (met : Met) → met.taken.keys ≡ [] → met.barred.keys ≡ [] → HasMet scopes names often [] met
met-none scopes names often met none_taken none_barred = record {
  taken = λ n number scope name at_n at_number bare twice. ap (list_any (same_key (n, number))) none_taken;
  barred = λ n number scope name at_n at_number bare twice. ap (list_any (same_key (n, number))) none_barred;
}

-- a name with another number does not agree
pub apart-names : (names : List d.Name) → IsOnce names → (own number : ℕ) (x name : d.Name) → slice_get names own ≡ Some x → slice_get names number ≡ Some name → x.ctxt ≡ None → name.ctxt ≡ None → (own ≡ number → ⊥) → d.names_agree x name ≡ false
apart-names names once own number x name at_own at_number plain bare apart = by (d.names_agree x name) refl
  where
    by : (t : Bool) → d.names_agree x name ≡ t → d.names_agree x name ≡ false
    by false is = is
    by true is = absurd (apart (once own number name (at_own ∙ ap (λ y. Some y) ((exactly-Decides x name).0 (sym (agree-plain x name plain bare) ∙ is))) at_number))

-- a declaration whose name is declared once is passed over
pub met-past : (scopes : List NumberedScope) (names : List d.Name) → IsOnce names → (often : ℕ → Bool) (before : List d.Declared) (met : Met) (x : d.Declared) (own : ℕ) → often own ≡ false → slice_get names own ≡ Some x.name → x.name.ctxt ≡ None → HasMet scopes names often before met → HasMet scopes names often (before ++ x ∷ []) met
met-past scopes names once often before met x own rare named plain known = record {
  taken = λ n number scope name at_n at_number bare twice. known.taken n number scope name at_n at_number bare twice ∙ sym (none (list_any (is_taken_in scope name) before) (s.same_scope (o.taker x) scope) (d.names_agree x.name name) (other number name at_number bare twice)) ∙ sym (any-more (is_taken_in scope name) before x);
  barred = λ n number scope name at_n at_number bare twice. known.barred n number scope name at_n at_number bare twice ∙ sym (none (list_any (is_barred_in scope name) before) (list_any (s.same_scope scope) (barred_by x)) (d.names_agree x.name name) (other number name at_number bare twice)) ∙ sym (any-more (is_barred_in scope name) before x);
}
  where
    none : (a b t : Bool) → t ≡ false → (a || (t && b)) ≡ a
    none true b t is = refl
    none false b true is = absurd (false≢true (sym is))
    none false b false is = refl

    other : (number : ℕ) (name : d.Name) → slice_get names number ≡ Some name → name.ctxt ≡ None → often number ≡ true → d.names_agree x.name name ≡ false
    other number name at bare twice = apart-names names once own number x.name name named at plain bare (λ same. false≢true (sym rare ∙ ap often same ∙ twice))

-- the first element that passes
pub find-first : {X : Type 0} (p : X → Bool) (xs : List X) (i : ℕ) (x : X) → slice_get xs i ≡ Some x → list_any p (take i xs) ≡ false → p x ≡ true → find p xs ≡ Some x
find-first p [] i x at none passes = absurd (none-some x at)
find-first p (y ∷ ys) zero x at none passes = ap (λ t. cond t (Some y) (find p ys)) (ap p (same_Some y x at) ∙ passes) ∙ ap (λ z. Some z) (same_Some y x at)
find-first {X = X} p (y ∷ ys) (suc i) x at none passes = by (find-first p ys i x at) (p y) none
  where
    by : (list_any p (take i ys) ≡ false → p x ≡ true → find p ys ≡ Some x) → (t : Bool) → (t || list_any p (take i ys)) ≡ false → cond t (Some y) (find p ys) ≡ Some x
    by later true is = absurd (false≢true (sym is))
    by later false is = later is passes

-- or none does
pub find-none : {X : Type 0} (p : X → Bool) (xs : List X) → list_any p xs ≡ false → find p xs ≡ None
find-none p [] none = refl
find-none p (y ∷ ys) none = by (find-none p ys) (p y) none
  where
    by : (list_any p ys ≡ false → find p ys ≡ None) → (t : Bool) → (t || list_any p ys) ≡ false → cond t (Some y) (find p ys) ≡ None
    by later true is = absurd (false≢true (sym is))
    by later false is = later is
