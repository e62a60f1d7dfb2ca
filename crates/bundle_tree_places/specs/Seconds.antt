-- Where what stands in the second field of a node begins.
use Rattle.std.specs.Prelude.{◌≡◌, ℕ, Bool, false, zero, suc, ◌+◌, ◌<◌, nat_eq, List, [], ◌∷◌, Option, Some, None, cond, drop, length, option_map, slice_get, slice_index_or, reverse}
use Rattle.std.specs.Borrow.{Bor}
use Rattle.bundle_syntax.specs.Item as h
use Rattle.bundle_syntax.specs.Item.{Item}
use Rattle.bundle_rules.specs.Nodes.{Text}
use Rattle.bundle_rules.specs.Reads.{is_member, plain_word}

-- where the first element in the second field of a node begins, of what follows from a place on,
-- where so many nodes are still open in it
abbrev pub second_from : ℕ → ℕ → List Item → Option ℕ
second_from depth place [] = None
second_from zero place (h.Open field head ∷ rest) =
    cond (nat_eq field 1) (Some place) (second_from (suc zero) (place + 1) rest)
second_from zero place (h.Ident field sym ctxt role ∷ rest) =
    cond (nat_eq field 1) (Some place) (second_from zero (place + 1) rest)
second_from zero place (h.Hole field ∷ rest) =
    cond (nat_eq field 1) (Some place) (second_from zero (place + 1) rest)
second_from zero place (h.Close ∷ rest) = None
second_from (suc depth) place (h.Open field head ∷ rest) =
    second_from (suc (suc depth)) (place + 1) rest
second_from (suc depth) place (h.Ident field sym ctxt role ∷ rest) =
    second_from (suc depth) (place + 1) rest
second_from (suc depth) place (h.Hole field ∷ rest) = second_from (suc depth) (place + 1) rest
second_from (suc depth) place (h.Close ∷ rest) = second_from depth (place + 1) rest

-- where the first element in the second field of the node at a place begins
abbrev pub second_of : List Item → ℕ → Option ℕ
second_of items place = second_from zero (place + 1) (drop (place + 1) items)

-- for each place that is told
abbrev pub AreSeconds : List Item → List (Option ℕ) → Type 0
AreSeconds items seconds =
    (p : ℕ) → p < length items → slice_index_or seconds p None ≡ second_of items p

-- on a stack, the top first, stand these
abbrev pub AreTops : List (Option ℕ) → (ℕ → Option ℕ) → Type 0
AreTops stack f = (depth : ℕ) → slice_index_or (reverse stack) depth None ≡ f depth

-- the text of a plain word, if an element is one
abbrev pub word_of : Option Item → Option Text
word_of None = None
word_of (Some x) = plain_word (x ∷ [])

-- the text of the plain word that begins at a place
abbrev pub word_at : List Item → Option ℕ → Option Text
word_at items None = None
word_at items (Some place) = word_of (slice_get items place)

-- whether an element begins the read of a member
abbrev pub is_member_item : Item → Bool
is_member_item (h.Open field head) = is_member head
is_member_item _ = false

-- a place, if it is of the second field
abbrev pub noted : ℕ → ℕ → Option ℕ → Option ℕ
noted field place other = cond (nat_eq field 1) (Some place) other

-- the text of a word, if there is one
abbrev pub text_of : Option (Bor Text) → Option Text
text_of word = option_map (λ (text : Bor Text). text.now) word
