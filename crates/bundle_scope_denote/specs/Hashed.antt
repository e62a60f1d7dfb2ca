-- What is hashed of a name: its context, where it has one, and its symbol.
use Rattle.std.proofs.Common.{◌≡◌, ℕ, Bool, true, false, ◌&&◌, List, [], ◌∷◌, ◌++◌, Option, Some, None, refl, ap, ap₂, nat_eq, bytes_eq, eqb-true}
use Rattle.std.specs.Option.{option_eq}
use Rattle.std.specs.Hash as fed
use Rattle.std.proofs.lemmas.Slice.Eq.{bytes_eq-Decides}
use Rattle.bundle_scope_denote.specs.declared.walk.NameKey.{NameKey}

-- a context, as a number of eight bytes
abbrev pub hashed_context : Option ℕ → List (List ℕ)
hashed_context None = []
hashed_context (Some ctxt) = fed.u64 ctxt

-- a name
abbrev pub hashed : NameKey → List (List ℕ)
hashed name = hashed_context name.ctxt ++ name.sym.now ∷ []

both : (a b : Bool) → (a && b) ≡ true → (a ≡ true) × (b ≡ true)
both true true e = (refl, refl)
both true false e = cc
both false b e = cc

contexts-alike : (a b : Option ℕ) →
    option_eq nat_eq a b ≡ true →
    hashed_context a ≡ hashed_context b
contexts-alike None None e = refl
contexts-alike None (Some b) e = cc
contexts-alike (Some a) None e = cc
contexts-alike (Some a) (Some b) e = ap fed.u64 (eqb-true a b e)

-- of names that are the same, the same is hashed
pub hashed-alike : (a b : NameKey) →
    (bytes_eq a.sym.now b.sym.now && option_eq nat_eq a.ctxt b.ctxt) ≡ true →
    hashed a ≡ hashed b
hashed-alike a b e =
    let same = both (bytes_eq a.sym.now b.sym.now) (option_eq nat_eq a.ctxt b.ctxt) e in
    ap₂ (λ (context : List (List ℕ)) (sym : List ℕ). context ++ sym ∷ [])
    (contexts-alike a.ctxt b.ctxt same.1) ((bytes_eq-Decides a.sym.now b.sym.now).0 same.0)
