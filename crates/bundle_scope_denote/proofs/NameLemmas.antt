-- Names get numbers, and keep them.
use Rattle.std.proofs.Common.{◌≡◌, ℕ, true, false, Bool, List, [], ◌∷◌, ◌++◌, Option, Some, None, map, refl, ap, sym, ◌∙◌, if◌then◌else◌, subst, ◌&&◌, nat_eq, bytes_eq, eqb-true, ap₂, get_or}
use Rattle.std.proofs.lemmas.Slice.Eq.{bytes_eq-Decides}
use Rattle.bundle_rules.specs.Declarations as d
use Rattle.std.specs.Prelude.{slice_get, is_some, position}
use Rattle.std.specs.Option.{option_map, option_eq}
use Rattle.std.specs.List.{list_any}
use Rattle.std.proofs.lemmas.Option.{slice_get-map, slice_get-get_or, none-some, same_Some}
use Rattle.std.proofs.lemmas.List.Quantifiers.{position-Some}
use Rattle.bundle_scope_denote.specs.Bound.{alone}
use Rattle.bundle_scope_denote.specs.Ready.{FindsAlone}
use Rattle.std.proofs.lemmas.List.{map-append}
use Rattle.indexmap.specs.IndexSet.{insert_key}
use Rattle.bundle_scope_denote.specs.declared.walk.NameKey.{NameKey}
use Rattle.bundle_scope_denote.specs.Numbers.{name_as, KeepsNumbers}
use Rattle.bundle_scope_denote.specs.Chains.{IsOnce}
use Rattle.bundle_scope_denote.specs.Walked.{StaysOnce}
use Rattle.bundle_scope_denote.proofs.KeyLemmas.{exactly-Decides}
use Rattle.bundle_scope_denote.proofs.InsertLemmas.{list_any-here, once_more}
use Rattle.std.proofs.lemmas.Bool.{false≢true}
use Rattle.bundle_scope_denote.proofs.ChainLemmas.{Keeps-same, Keeps-append}

-- a name is added, or is there
keeps_either : (found : Bool) (names : List NameKey) (name : NameKey) → KeepsNumbers (map name_as names) (map name_as (if found then names else names ++ name ∷ []))
keeps_either true names name = Keeps-same (map name_as names) (map name_as names) refl
keeps_either false names name = let e : map name_as (names ++ name ∷ []) ≡ map name_as names ++ name_as name ∷ [] = map-append name_as names (name ∷ []) in
    subst (λ l. KeepsNumbers (map name_as names) l) (sym e) (Keeps-append (map name_as names) (name_as name ∷ []))

-- whether two names of the code are the same
abbrev same_name : NameKey → NameKey → Bool
same_name a b = bytes_eq a.sym.now b.sym.now && option_eq nat_eq a.ctxt b.ctxt

pub keeps_from_insert : (old new : List NameKey) (name : NameKey) → new ≡ insert_key same_name old name → KeepsNumbers (map name_as old) (map name_as new)
keeps_from_insert old new name e = subst (λ l. KeepsNumbers (map name_as old) (map name_as l)) (sym e) (keeps_either (list_any (same_name name) old) old name)

and-eq-true : (a b : Bool) → (a && b) ≡ true → (a ≡ true) × (b ≡ true)
and-eq-true true true e = (refl, refl)
and-eq-true true false e = cc
and-eq-true false b e = cc

option_same : (a b : Option ℕ) → option_eq nat_eq a b ≡ true → a ≡ b
option_same None None e = refl
option_same None (Some b) e = cc
option_same (Some a) None e = cc
option_same (Some a) (Some b) e = ap (λ x. Some x) (eqb-true a b e)

-- names that are the same have one symbol and one context
name_as-same : (a b : NameKey) → same_name a b ≡ true → name_as a ≡ name_as b
name_as-same a b e = let both = (and-eq-true (bytes_eq a.sym.now b.sym.now) (option_eq nat_eq a.ctxt b.ctxt) e) in
    ap₂ (λ (sym : List ℕ) (ctxt : Option ℕ). let name : d.Name = record { sym = sym; ctxt = ctxt } in name) ((bytes_eq-Decides a.sym.now b.sym.now).0 both.0) (option_same a.ctxt b.ctxt both.1)

-- the name with the number is this one
pub number_from_stored : (names : List NameKey) (number : ℕ) (name stored : NameKey) → slice_get names number ≡ Some stored → same_name name stored ≡ true → slice_get (map name_as names) number ≡ Some (name_as name)
number_from_stored names number name stored at is_same = let same = name_as-same name stored is_same in slice_get-map name_as names number ∙ ap (option_map name_as) at ∙ ap (λ x. Some x) (sym same)

-- a name that has one symbol and one context with another is the same
same_name-from : (a b : NameKey) → name_as a ≡ name_as b → same_name a b ≡ true
same_name-from a b e = (exactly-Decides (name_as a) (name_as b)).1 e

-- names that are added stay there once
pub once_from_insert : (old new : List NameKey) (name : NameKey) → new ≡ insert_key same_name old name → StaysOnce (map name_as old) (map name_as new)
once_from_insert old new name e once = subst (λ l. IsOnce (map name_as l)) (sym e) (by (list_any (same_name name) old) refl)
  where
    absent : list_any (same_name name) old ≡ false → (i : ℕ) → slice_get (map name_as old) i ≡ Some (name_as name) → ⊥
    absent is i at = found (slice_get old i) refl (sym (slice_get-map name_as old i) ∙ at)
      where
        found : (x : Option NameKey) → slice_get old i ≡ x → option_map name_as x ≡ Some (name_as name) → ⊥
        found None there same = none-some (name_as name) same
        found (Some x) there same = false≢true (sym is ∙ list_any-here (same_name name) old i x there (same_name-from name x (sym (same_Some (name_as x) (name_as name) same))))

    by : (t : Bool) → list_any (same_name name) old ≡ t → IsOnce (map name_as (if t then old else old ++ name ∷ []))
    by true is = once
    by false is = let more : map name_as (old ++ name ∷ []) ≡ map name_as old ++ name_as name ∷ [] = map-append name_as old (name ∷ []) in subst IsOnce (sym more) (once_more (map name_as old) (name_as name) once (absent is))

-- the number of a name without a context
pub finds-alone : (keys : List NameKey) (name : NameKey) (result : Option ℕ) → name.ctxt ≡ None → result ≡ position (same_name name) keys → is_some result ≡ list_any (same_name name) keys → FindsAlone (map name_as keys) name.sym.now result
finds-alone keys name None plain at found = λ number there. elsewhere (slice_get keys number) number refl (sym (slice_get-map name_as keys number) ∙ there)
  where
    is_alone : name_as name ≡ alone name.sym.now
    is_alone = ap (λ (ctxt : Option ℕ). let other : d.Name = record { sym = name.sym.now; ctxt = ctxt } in other) plain

    elsewhere : (x : Option NameKey) (number : ℕ) → slice_get keys number ≡ x → option_map name_as x ≡ Some (alone name.sym.now) → ⊥
    elsewhere None number there same = none-some (alone name.sym.now) same
    elsewhere (Some x) number there same = false≢true (found ∙ list_any-here (same_name name) keys number x there (same_name-from name x (is_alone ∙ sym (same_Some (name_as x) (alone name.sym.now) same))))
finds-alone keys name (Some number) plain at found =
    let known = position-Some (same_name name) keys number name (sym at) in
    slice_get-map name_as keys number ∙ ap (option_map name_as) (slice_get-get_or keys number name known.0) ∙ ap (λ x. Some x) (sym (name_as-same name (get_or keys number name) known.1) ∙ ap (λ (ctxt : Option ℕ). let other : d.Name = record { sym = name.sym.now; ctxt = ctxt } in other) plain)

-- a name without a context is found at its own number
pub finds-itself : (keys : List NameKey) (name : NameKey) (number : ℕ) → name.ctxt ≡ None → slice_get keys number ≡ Some name → FindsAlone (map name_as keys) name.sym.now (Some number)
finds-itself keys name number plain at = slice_get-map name_as keys number ∙ ap (option_map name_as) at ∙ ap (λ (ctxt : Option ℕ). let other : Option d.Name = Some (record { sym = name.sym.now; ctxt = ctxt }) in other) plain
