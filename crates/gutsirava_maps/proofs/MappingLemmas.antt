-- Numbers, one behind the other.
use Rattle.std.proofs.Common.{ℕ, List, [], ◌∷◌, ◌++◌, refl, ap, sym, ◌∙◌, append_assoc, append-nil}
use Rattle.gutsirava_maps.specs.Vlq.{Writes, numbers_in}

-- no number
pub writes_none : (old : List ℕ) → Writes old old []
writes_none old = record { digits = []; there = sym (append-nil old); read = λ rest. refl }

-- numbers behind numbers
pub writes_then : (old mid new : List ℕ) (some more : List ℕ) → Writes old mid some → Writes mid new more
    → Writes old new (some ++ more)
writes_then old mid new some more first second = record {
  digits = first.digits ++ second.digits;
  there = second.there ∙ ap (λ t. t ++ second.digits) first.there ∙ append_assoc old first.digits second.digits;
  read = λ rest.
      ap numbers_in (append_assoc first.digits second.digits rest)
      ∙ first.read (second.digits ++ rest)
      ∙ ap (λ t. some ++ t) (second.read rest)
      ∙ sym (append_assoc some more (numbers_in rest));
}

-- a number before others
pub writes_fields : (old mid new : List ℕ) (value : ℕ) (more : List ℕ) → Writes old mid (value ∷ []) → Writes mid new more
    → Writes old new (value ∷ more)
writes_fields old mid new value more first second = writes_then old mid new (value ∷ []) more first second
