-- What is so of each element of a list, by the nodes around it and the sort as which it stands
-- there.
use Rattle.std.specs.Prelude.{◌≡◌, ℕ, ◌&&◌, Bool, true, List, [], ◌∷◌}
use Rattle.bundle_syntax.specs.Item as h
use Rattle.bundle_syntax.specs.Item.{Item, Head}
use Rattle.bundle_rules.specs.Places.{Around, Spot, past, path_to}
use Rattle.bundle_scope_names.specs.fit.Sorts.{NodeSort, NodeSlot, slot, takes_head, takes_name, names_of_sort, slots}

-- a node that is open
abbrev pub around_node : Head → ℕ → ℕ → Around
around_node head begins field = record { head = head; begins = begins; field = field }

-- whether each of these fields passes a test of its number and its sort
abbrev pub each_slot : (ℕ → NodeSort → Bool) → List NodeSlot → Bool
each_slot test [] = true
each_slot test (slot number count sort ∷ more) = test number sort && each_slot test more

-- an element stands as a sort that takes it and that passes the test with the nodes around it
abbrev pub Sees : (NodeSort → List Around → Bool) → Item → List Around → Type 0
Sees test (h.Open field head) path =
    (sort : NodeSort) × (takes_head head sort ≡ true) × (test sort path ≡ true)
Sees test (h.Ident field x ctxt role) path =
    (sort : NodeSort) × (takes_name role sort ≡ true) × (test sort path ≡ true)
Sees test (h.Hole field) path = Unit {0}
Sees test h.Close path = Unit {0}

-- each does, from a spot on
abbrev pub AreSeen : (NodeSort → List Around → Bool) → Spot → List Item → Type 0
AreSeen test spot [] = Unit {0}
AreSeen test spot (item ∷ rest) =
    Sees test item (path_to spot.path item) × AreSeen test (past spot item) rest

-- where a sort passes the test, the fields of each node that it takes do
abbrev pub SortSteps : (NodeSort → List Around → Bool) → Type 0
SortSteps test =
    (head : Head) (begins : ℕ) (sort : NodeSort) (path : List Around) →
    takes_head head sort ≡ true →
    test sort path ≡ true →
    each_slot (λ number inner. test inner (around_node head begins number ∷ path))
    (slots head (names_of_sort sort)) ≡ true
