-- What is fit is seen: each element of it stands as a sort that takes it and that passes the test.
-- No block stands as the key of an accessor.
use Rattle.std.proofs.Common.{◌≡◌, ℕ, ◌&&◌, Bool, true, List, [], ◌∷◌, ◌++◌, append_assoc, append-nil, refl, sym, ap, ◌∙◌, subst, false, not}
use Rattle.std.proofs.lemmas.Bool.{and_parts, false≢true}
use Rattle.bundle_syntax.specs.Item as h
use Rattle.bundle_syntax.specs.Item.{Item, Head}
use Rattle.bundle_syntax.specs.declared.piece.Role.{Role}
use Rattle.bundle_rules.specs.Places.{Around, Spot, past, in_field, outer_path}
use Rattle.bundle_scope_names.specs.fit.Sorts.{NodeSort, NodeCount, One, Optional, Many, Places, NodeSlot, slot, takes_head, takes_block, names_of_sort, slots}
use Rattle.bundle_scope_names.specs.fit.Fits.{fields_after, AreFit, no_more, over, a_name, a_hole, a_node}
use Rattle.bundle_scope_names.specs.fit.Seen.{each_slot, AreSeen, SortSteps, around_node}
use Rattle.bundle_scope_names.proofs.naming_rule.Clash.{is_key, begins_key, HasNoKeys}

-- ---- seeing
pub field_twice : (f g : ℕ) (path : List Around) → in_field f (in_field g path) ≡ in_field f path
field_twice f g [] = refl
field_twice f g (top ∷ outer) = refl

pub outer_in : (f : ℕ) (path : List Around) → outer_path (in_field f path) ≡ outer_path path
outer_in f [] = refl
outer_in f (top ∷ outer) = refl

-- the fields that are left pass as well
pub after_slot : (test : ℕ → NodeSort → Bool) (number : ℕ) (count : NodeCount) (sort : NodeSort) (more : List NodeSlot) → each_slot test (slot number count sort ∷ more) ≡ true → each_slot test (fields_after number count sort more) ≡ true
after_slot test number One sort more e = (and_parts (test number sort) (each_slot test more) e).1
after_slot test number Optional sort more e = (and_parts (test number sort) (each_slot test more) e).1
after_slot test number Many sort more e = e
after_slot test number Places sort more e = e

each_same : (test other : ℕ → NodeSort → Bool) → ((number : ℕ) (sort : NodeSort) → test number sort ≡ other number sort) → (list : List NodeSlot) → each_slot test list ≡ each_slot other list
each_same test other same [] = refl
each_same test other same (slot number count sort ∷ more) = ap (λ b. b && each_slot test more) (same number sort) ∙ ap (λ b. other number sort && b) (each_same test other same more)

-- two spots with the same nodes around them, perhaps in other fields of the innermost
pub record AreBeside (s t : Spot) : Type 0 where
  pub fields : (field : ℕ) → in_field field t.path ≡ in_field field s.path
  pub outer : outer_path t.path ≡ outer_path s.path

module _ (test : NodeSort → List Around → Bool) (steps : SortSteps test) where
  walk : {list : List NodeSlot} {items : List Item} → AreFit list items → (s : Spot) → each_slot (λ number sort. test sort (in_field number s.path)) list ≡ true → (rest : List Item) → ((t : Spot) → AreBeside s t → AreSeen test t rest) → AreSeen test s (items ++ rest)
  walk no_more s ok rest then = then s (record { fields = λ field. refl; outer = refl })
  walk (over {number = n} {count = c} {sort = k} {more = more} e fit) s ok rest then = walk fit s (and_parts (test k (in_field n s.path)) (each_slot (λ number sort. test sort (in_field number s.path)) more) ok).1 rest then
  walk (a_name {number = n} {count = c} {sort = k} {more = more} {x = x} {ctxt = t} {role = role} takes_it fit) s ok rest then = (
    (k, takes_it, (and_parts (test k (in_field n s.path)) (each_slot (λ number sort. test sort (in_field number s.path)) more) ok).0),
    walk fit (past s (h.Ident n x t role)) (after_slot (λ number sort. test sort (in_field number s.path)) n c k more ok) rest (λ u b. then u (record { fields = b.fields; outer = b.outer })),
  )
  walk (a_hole {number = n} {sort = k} {more = more} fit) s ok rest then = (tt, walk fit (past s (h.Hole n)) ok rest (λ u b. then u (record { fields = b.fields; outer = b.outer })))
  walk (a_node {number = n} {count = c} {sort = k} {more = more} {head = hd} {inside = ins} {rest = behind} takes_it in_it fit) s ok rest then =
      ((k, takes_it, here), subst (AreSeen test (past s (h.Open n hd))) (sym (append_assoc ins (h.Close ∷ behind) rest)) (walk in_it (past s (h.Open n hd)) (steps hd s.place k (in_field n s.path) takes_it here) (h.Close ∷ (behind ++ rest)) (λ t b. (tt, walk fit (past t h.Close) (passes t b) rest (λ u b2. then u (beside t b u b2))))))
    where
      here : test k (in_field n s.path) ≡ true
      here = (and_parts (test k (in_field n s.path)) (each_slot (λ number sort. test sort (in_field number s.path)) more) ok).0

      fields : (t : Spot) → AreBeside (past s (h.Open n hd)) t → (field : ℕ) → in_field field (outer_path t.path) ≡ in_field field s.path
      fields t b field = ap (in_field field) b.outer ∙ field_twice field n s.path

      passes : (t : Spot) → AreBeside (past s (h.Open n hd)) t → each_slot (λ number sort. test sort (in_field number (outer_path t.path))) (fields_after n c k more) ≡ true
      passes t b = each_same (λ number sort. test sort (in_field number (outer_path t.path))) (λ number sort. test sort (in_field number s.path)) (λ number sort. ap (test sort) (fields t b number)) (fields_after n c k more) ∙ after_slot (λ number sort. test sort (in_field number s.path)) n c k more ok

      beside : (t : Spot) → AreBeside (past s (h.Open n hd)) t → (u : Spot) → AreBeside (past t h.Close) u → AreBeside s u
      beside t b u b2 = record { fields = λ field. b2.fields field ∙ fields t b field; outer = b2.outer ∙ (ap outer_path b.outer ∙ outer_in n s.path) }

  -- in a list that is fit each element is seen
  pub seen : {list : List NodeSlot} {items : List Item} → AreFit list items → (s : Spot) → each_slot (λ number sort. test sort (in_field number s.path)) list ≡ true → AreSeen test s items
  seen {items = items} fit s ok = subst (AreSeen test s) (append-nil items) (walk fit s ok [] (λ t b. tt))

-- ---- keys

-- a sort that takes blocks stands in no key
abbrev keyless : NodeSort → List Around → Bool
keyless sort path = not (is_key path && takes_block sort)

keyless_slots : (head : Head) (begins : ℕ) (outer : List Around) (names : Role) → each_slot (λ number inner. keyless inner (around_node head begins number ∷ outer)) (slots head names) ≡ true
keyless_slots h.Module begins outer names = refl
keyless_slots (h.NewExpr true) begins outer names = refl
keyless_slots (h.NewExpr false) begins outer names = refl
keyless_slots _ begins outer names = refl

steps : SortSteps keyless
steps head begins sort path takes_it holds = keyless_slots head begins path (names_of_sort sort)

off : (a b : Bool) → b ≡ true → not (a && b) ≡ true → a ≡ false
off false b e is = refl
off true true e is = absurd (false≢true is)
off true false e is = absurd (false≢true e)

no_key : (head : Head) (sort : NodeSort) (path : List Around) → takes_head head sort ≡ true → keyless sort path ≡ true → begins_key head path ≡ false
no_key h.BlockStmt sort path takes_it holds = off (is_key path) (takes_block sort) takes_it holds
no_key _ sort path takes_it holds = refl

from_seen : (s : Spot) (items : List Item) → AreSeen keyless s items → HasNoKeys s items
from_seen s [] them = tt
from_seen s (h.Open field head ∷ rest) them = (no_key head them.0.0 (in_field field s.path) them.0.1 them.0.2, from_seen (past s (h.Open field head)) rest them.1)
from_seen s (h.Ident field x ctxt role ∷ rest) them = from_seen (past s (h.Ident field x ctxt role)) rest them.1
from_seen s (h.Hole field ∷ rest) them = from_seen (past s (h.Hole field)) rest them.1
from_seen s (h.Close ∷ rest) them = from_seen (past s h.Close) rest them.1

pub no_keys : {list : List NodeSlot} {items : List Item} → AreFit list items → (s : Spot) → each_slot (λ number sort. keyless sort (in_field number s.path)) list ≡ true → HasNoKeys s items
no_keys {items = items} fit s ok = from_seen s items (seen keyless steps fit s ok)
