-- Places, the nodes around them and occurrences, of a tree and of it cleared.
use Rattle.std.proofs.Common.{◌≡◌, ℕ, zero, suc, ◌+◌, List, [], ◌∷◌, Option, Some, None, take, fold, slice_get, option_map, option_and_then, map, refl, ◌∙◌}
use Rattle.std.specs.List.{cons_option}
use Rattle.bundle_syntax.specs.declared.piece.Role.TheVariants.{Binding, Reference, Word}
use Rattle.bundle_syntax.specs.Item as h
use Rattle.bundle_syntax.specs.Item.{Item}
use Rattle.bundle_rules.specs.Places.{Around, Spot, Occurrence, in_field, outer_path, path_past, past, start, spot_before, path_to, path_to_option, path_at, occurrence_of, occurrence_at, occurrences_from, occurrences}
use Rattle.bundle_rules.specs.Cleared.{cleared_head, cleared_item, cleared}

-- an open node with nothing noted
abbrev pub cleared_around : Around → Around
cleared_around node = record { head = cleared_head node.head; begins = node.begins; field = node.field }

-- the open nodes with nothing noted
abbrev pub cleared_path : List Around → List Around
cleared_path [] = []
cleared_path (node ∷ outer) = cleared_around node ∷ cleared_path outer

-- a spot of a cleared tree
abbrev pub cleared_spot : Spot → Spot
cleared_spot spot = record { place = spot.place; path = cleared_path spot.path }

-- an occurrence of a cleared tree
abbrev pub cleared_occurrence : Occurrence → Occurrence
cleared_occurrence o = record { place = o.place; sym = o.sym; ctxt = 0; role = o.role; path = cleared_path o.path }

in_field-cleared_path : (field : ℕ) (path : List Around) → in_field field (cleared_path path) ≡ cleared_path (in_field field path)
in_field-cleared_path field [] = refl
in_field-cleared_path field (node ∷ outer) = refl

outer_path-cleared_path : (path : List Around) → outer_path (cleared_path path) ≡ cleared_path (outer_path path)
outer_path-cleared_path [] = refl
outer_path-cleared_path (node ∷ outer) = refl

path_past-cleared : (place : ℕ) (path : List Around) (item : Item) → path_past place (cleared_path path) (cleared_item item) ≡ cleared_path (path_past place path item)
path_past-cleared place path (h.Open field head) = λ i. record { head = cleared_head head; begins = place; field = 0 } ∷ in_field-cleared_path field path i
path_past-cleared place path (h.Ident field sym ctxt role) = refl
path_past-cleared place path (h.Hole field) = refl
path_past-cleared place path h.Close = outer_path-cleared_path path

pub past-cleared : (spot : Spot) (item : Item) → past (cleared_spot spot) (cleared_item item) ≡ cleared_spot (past spot item)
past-cleared spot item = λ i. record { place = spot.place + 1; path = path_past-cleared spot.place spot.path item i }

take-cleared : (n : ℕ) (items : List Item) → take n (cleared items) ≡ cleared (take n items)
take-cleared zero items = refl
take-cleared (suc n) [] = refl
take-cleared (suc n) (x ∷ items) = λ i. cleared_item x ∷ take-cleared n items i

pub slice_get-cleared : (items : List Item) (place : ℕ) → slice_get (cleared items) place ≡ option_map cleared_item (slice_get items place)
slice_get-cleared [] place = refl
slice_get-cleared (x ∷ items) zero = refl
slice_get-cleared (x ∷ items) (suc place) = slice_get-cleared items place

-- the spot behind all these items
behind-cleared : (spot : Spot) (items : List Item) → fold past (cleared_spot spot) (cleared items) ≡ cleared_spot (fold past spot items)
behind-cleared spot [] = refl
behind-cleared spot (x ∷ items) = (λ i. fold past (past-cleared spot x i) (cleared items)) ∙ behind-cleared (past spot x) items

spot_before-cleared : (items : List Item) (place : ℕ) → spot_before (cleared items) place ≡ cleared_spot (spot_before items place)
spot_before-cleared items place = (λ i. fold past start (take-cleared place items i)) ∙ behind-cleared start (take place items)

path_to-cleared : (path : List Around) (item : Item) → path_to (cleared_path path) (cleared_item item) ≡ cleared_path (path_to path item)
path_to-cleared path (h.Open field head) = in_field-cleared_path field path
path_to-cleared path (h.Ident field sym ctxt role) = in_field-cleared_path field path
path_to-cleared path (h.Hole field) = in_field-cleared_path field path
path_to-cleared path h.Close = refl

path_to_option-cleared : (path : List Around) (item : Option Item) → path_to_option (cleared_path path) (option_map cleared_item item) ≡ cleared_path (path_to_option path item)
path_to_option-cleared path None = refl
path_to_option-cleared path (Some item) = path_to-cleared path item

-- the nodes around a place
pub path_at-cleared : (items : List Item) (place : ℕ) → path_at (cleared items) place ≡ cleared_path (path_at items place)
path_at-cleared items place =
    (λ i. path_to_option (spot_before-cleared items place i).path (slice_get-cleared items place i))
    ∙ path_to_option-cleared (spot_before items place).path (slice_get items place)

pub occurrence_of-cleared : (spot : Spot) (item : Item) → occurrence_of (cleared_spot spot) (cleared_item item) ≡ option_map cleared_occurrence (occurrence_of spot item)
occurrence_of-cleared spot (h.Ident field sym ctxt Word) = refl
occurrence_of-cleared spot (h.Ident field sym ctxt Binding) = λ i. Some (record { place = spot.place; sym = sym; ctxt = 0; role = Binding; path = in_field-cleared_path field spot.path i })
occurrence_of-cleared spot (h.Ident field sym ctxt Reference) = λ i. Some (record { place = spot.place; sym = sym; ctxt = 0; role = Reference; path = in_field-cleared_path field spot.path i })
occurrence_of-cleared spot (h.Open field head) = refl
occurrence_of-cleared spot (h.Hole field) = refl
occurrence_of-cleared spot h.Close = refl

occurrence_of_option : (spot : Spot) (item : Option Item) → option_and_then (occurrence_of (cleared_spot spot)) (option_map cleared_item item) ≡ option_map cleared_occurrence (option_and_then (occurrence_of spot) item)
occurrence_of_option spot None = refl
occurrence_of_option spot (Some item) = occurrence_of-cleared spot item

-- the occurrence at a place
pub occurrence_at-cleared : (items : List Item) (place : ℕ) → occurrence_at (cleared items) place ≡ option_map cleared_occurrence (occurrence_at items place)
occurrence_at-cleared items place =
    (λ i. option_and_then (occurrence_of (spot_before-cleared items place i)) (slice_get-cleared items place i))
    ∙ occurrence_of_option (spot_before items place) (slice_get items place)

cons_option-map : (o : Option Occurrence) (more : List Occurrence) → cons_option (option_map cleared_occurrence o) (map cleared_occurrence more) ≡ map cleared_occurrence (cons_option o more)
cons_option-map None more = refl
cons_option-map (Some o) more = refl

occurrences_from-cleared : (spot : Spot) (items : List Item) → occurrences_from (cleared_spot spot) (cleared items) ≡ map cleared_occurrence (occurrences_from spot items)
occurrences_from-cleared spot [] = refl
occurrences_from-cleared spot (x ∷ items) =
    (λ i. cons_option (occurrence_of-cleared spot x i) (occurrences_from (past-cleared spot x i) (cleared items)))
    ∙ (λ i. cons_option (option_map cleared_occurrence (occurrence_of spot x)) (occurrences_from-cleared (past spot x) items i))
    ∙ cons_option-map (occurrence_of spot x) (occurrences_from (past spot x) items)

-- the occurrences
pub occurrences-cleared : (items : List Item) → occurrences (cleared items) ≡ map cleared_occurrence (occurrences items)
occurrences-cleared items = occurrences_from-cleared start items
