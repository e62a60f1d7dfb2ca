-- Texts that are found by their hash, or else by their order.
use Rattle.std.specs.Prelude.{◌≡◌, ℕ, Bool, false, cond, List, Option, Some, None, bytes_eq, position, slice_get, string_bytes, string_cmp}
use Rattle.std.specs.BTreeMap.{BTreeMap, get}
use Rattle.std.specs.Hash.FoldHasher.{finish, initial, write}
use Rattle.std.specs.Ordering.{nat_cmp}
use Rattle.std.specs.declared.alloc.Global.{Global}
use Rattle.std.specs.declared.cmp.Ordering.{Ordering}
use Rattle.std.specs.declared.string.String.{String}
use Rattle.bundle_rules.specs.Nodes.{Text}
use Rattle.bundler_call.specs.Placed.{StandOnce}

-- whether two strings have one text
abbrev pub same_text : String Global → String Global → Bool
same_text a b = bytes_eq (string_bytes a) (string_bytes b)

-- the hash of a text
abbrev pub hash_of : Text → ℕ
hash_of text = finish (write initial text)

-- whether what stands at a place is this key
abbrev pub is_there : {K : Type 0} → (K → K → Bool) → K → Option K → Bool
is_there eq key None = false
is_there eq key (Some own) = eq key own

-- the first of a hash, if it is this key
abbrev pub first_at : {K : Type 0} → (K → K → Bool) → K → List K → Option ℕ → Option ℕ
first_at eq key keys None = None
first_at eq key keys (Some place) = cond (is_there eq key (slice_get keys place)) (Some place) None

-- that, or what else is found
abbrev pub or_else : Option ℕ → Option ℕ → Option ℕ
or_else None other = other
or_else (Some place) other = Some place

-- no two of the keys are equal, and a key is found as the first of its hash or else by its order
pub record AreHashed {K : Type 0} (cmp : K → K → Ordering) (eq : K → K → Bool) (hash : K → ℕ)
    (keys : List K) (firsts : BTreeMap ℕ ℕ) (others : BTreeMap K ℕ) : Type 0 where
  pub once : StandOnce eq keys
  pub found : (key : K) →
      or_else (first_at eq key keys (get nat_cmp firsts (hash key))) (get cmp others key)
      ≡ position (eq key) keys

-- the same of texts
abbrev pub AreTexts : List (String Global) → BTreeMap ℕ ℕ → BTreeMap (String Global) ℕ → Type 0
AreTexts texts firsts others =
    AreHashed string_cmp same_text (λ text. hash_of (string_bytes text)) texts firsts others
