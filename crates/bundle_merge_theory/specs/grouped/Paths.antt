-- The nodes around an identifier in an item before and after identifiers change and shorthands are
-- spelled out.
use Rattle.std.specs.Prelude.{◌≡◌, ℕ, ◌+◌, ◌&&◌, Bool, true, false, List, [], ◌∷◌, None, codes, drop}
use Rattle.bundle_syntax.specs.declared.piece.Role.TheVariants as r
use Rattle.bundle_syntax.specs.Item as h
use Rattle.bundle_syntax.specs.Item.{Item, Head}
use Rattle.bundle_rules.specs.Places.{Around, Occurrence}
use Rattle.bundle_rules.specs.Nodes.{in_field, node_at}
use Rattle.bundle_rules.specs.Entries.{is_call_head}
use Rattle.bundle_rules.specs.Reads.{property_of}
use Rattle.bundle_rules.specs.Order.{is_declarator, is_nothing, is_text}
use Rattle.bundle_merge_theory.specs.noted.Spots.{around_spot}

-- whether an element is an identifier that binds or refers
abbrev pub is_named_item : Item → Bool
is_named_item (h.Ident field sym ctxt r.Word) = false
is_named_item (h.Ident field sym ctxt role) = true
is_named_item (h.Open field head) = false
is_named_item (h.Hole field) = false
is_named_item h.Close = false

-- whether a node that begins at a place calls the `assign` of what passes the test at its place
abbrev pub calls_assign_of : List Item → (ℕ → Bool) → ℕ → Bool
calls_assign_of item test begins =
    is_text (codes "assign") (property_of (node_at item (begins + 1))) && test (begins + 2)

-- the test holds of identifiers alone
pub record OfNames (item : List Item) (test : ℕ → Bool) : Type 0 where
  pub none : (place : ℕ) (x : Item) (rest : List Item) → drop place item ≡ x ∷ rest →
      is_named_item x ≡ false → test place ≡ false

-- what is asked of a node with this head that begins at these places of two items is the same
pub record NodeAlike (before after : List Item) (test_before test_after : ℕ → Bool) (head : Head)
    (b a : ℕ) : Type 0 where
  pub word : property_of (node_at before b) ≡ property_of (node_at after a)
  pub empty : is_declarator head ≡ true →
      is_nothing (in_field 1 (node_at before b)) ≡ is_nothing (in_field 1 (node_at after a))
  pub assign : is_call_head head ≡ true →
      calls_assign_of before test_before b ≡ calls_assign_of after test_after a

-- the nodes around a place in the one item and around the place that corresponds to it in the
-- other
pub data PathAlike (before after : List Item) (test_before test_after : ℕ → Bool) : List Around →
    List Around → Type 0 where
  outside : PathAlike before after test_before test_after [] []
  -- the same node
  same : (head : Head) (b a field : ℕ) {p q : List Around} →
      NodeAlike before after test_before test_after head b a →
      PathAlike before after test_before test_after p q →
      PathAlike before after test_before test_after (around_spot head b field ∷ p)
      (around_spot head a field ∷ q)
  -- the pair that a shorthand of an object literal is spelled out with
  pair : (b a field : ℕ) {p q : List Around} → property_of (node_at before b) ≡ None →
      PathAlike before after test_before test_after (around_spot h.ObjectLit b field ∷ p) q →
      PathAlike before after test_before test_after (around_spot h.ObjectLit b field ∷ p)
      (around_spot h.KeyValueProp a 1 ∷ q)
  -- the pair that a shorthand property of a pattern is spelled out with, around the name: without
  -- a default value
  key : (b a : ℕ) {p q : List Around} → property_of (node_at before b) ≡ None →
      PathAlike before after test_before test_after p q →
      PathAlike before after test_before test_after (around_spot h.AssignPatProp b 0 ∷ p)
      (around_spot h.KeyValuePatProp a 1 ∷ q)
  -- with a default value, around the name and around the value
  defaulted : (b a outer field : ℕ) {p q : List Around} → property_of (node_at before b) ≡ None →
      property_of (node_at after a) ≡ None → PathAlike before after test_before test_after p q →
      PathAlike before after test_before test_after (around_spot h.AssignPatProp b field ∷ p)
      (around_spot h.AssignPat a field ∷ around_spot h.KeyValuePatProp outer 1 ∷ q)

-- two identifiers correspond: they both bind or both refer, and the nodes around them are alike
pub record NameAlike (before after : List Item) (test_before test_after : ℕ → Bool)
    (o its : Occurrence) : Type 0 where
  pub role : o.role ≡ its.role
  pub path : PathAlike before after test_before test_after o.path its.path
