-- What order asks of an identifier by the nodes around it is the same where these are alike.
use Rattle.std.proofs.Common.{◌≡◌, ℕ, ◌+◌, ◌&&◌, ◌||◌, ◌==◌, Bool, true, false, not, cond, List, [], ◌∷◌, Option, Some, None, codes, refl, sym, ap, ◌∙◌}
use Rattle.std.specs.List.{list_any}
use Rattle.std.proofs.lemmas.Bool.{and_right}
use Rattle.bundle_syntax.specs.Item as h
use Rattle.bundle_syntax.specs.Item.{Item, Head}
use Rattle.bundle_rules.specs.Places.{Around, Occurrence, is_binding}
use Rattle.bundle_rules.specs.Scopes.{Es, Inner, ScopeKind, Parameters, Block, FunctionName, ClassName, scopes_around, scope_at, kind_of_scope, block_kind, block_in, is_default}
use Rattle.bundle_rules.specs.Homes.{is_parameters}
use Rattle.bundle_rules.specs.Deferred.{runs_later, is_in_function, is_in_initialiser, is_initialiser}
use Rattle.bundle_rules.specs.Nodes.{Text, in_field, node_at}
use Rattle.bundle_rules.specs.Entries.{is_call_head}
use Rattle.bundle_rules.specs.Reads.{property_of}
use Rattle.bundle_rules.specs.Order.{passes_assignments, assigns, is_assigned, is_chain_step, is_parenthesis, ends_chain, roots_chain, is_text, is_prototype_read, is_in_assign_of, is_any_call, is_in_argument, is_declarator, is_nothing, has_no_value}
use Rattle.bundle_merge_theory.proofs.noted.Spots.{around_spot}
use Rattle.bundle_merge_theory.specs.grouped.Standing.{SameFlags}
use Rattle.bundle_merge_theory.specs.grouped.Paths.{PathAlike, outside, same, pair, key, defaulted, NameAlike}
use Rattle.bundle_merge_theory.proofs.joined.Paths.{any-append}

-- a test that is the same in both, or of which nothing is asked
and-agree : (c x y : Bool) → (c ≡ true → x ≡ y) → (c && x) ≡ (c && y)
and-agree true x y e = e refl
and-agree false x y e = refl

-- ---- what runs later
block_in-parameters : (head : Head) (b : ℕ) → is_parameters (Inner (block_in head) b) ≡ false
block_in-parameters h.StaticBlock b = refl
block_in-parameters h.CatchClause b = refl
block_in-parameters (h.Function is_generator is_async) b = refl
block_in-parameters (h.ArrowExpr is_async) b = refl
block_in-parameters h.Constructor b = refl
block_in-parameters h.GetterProp b = refl
block_in-parameters h.SetterProp b = refl
block_in-parameters _ b = refl

block-parameters : (p : List Around) (b : ℕ) → is_parameters (Inner (block_kind p) b) ≡ false
block-parameters [] b = refl
block-parameters (node ∷ outer) b = block_in-parameters node.head b

either-parameters : (c : Bool) (kind : ScopeKind) (b : ℕ) → is_parameters (Inner kind b) ≡ false →
    list_any is_parameters (scope_at b (cond c None (Some kind))) ≡ false
either-parameters true kind b e = refl
either-parameters false kind b e = ap (λ x. x || false) e

same-parameters : (c : Bool) (b a : ℕ) →
    list_any is_parameters (scope_at b (cond c None (Some Parameters)))
    ≡ list_any is_parameters (scope_at a (cond c None (Some Parameters)))
same-parameters true b a = refl
same-parameters false b a = refl

pub makes-parameters : (head : Head) (b a field : ℕ) (p q : List Around) →
    list_any is_parameters (scope_at b (kind_of_scope head field p))
    ≡ list_any is_parameters (scope_at a (kind_of_scope head field q))
makes-parameters h.BlockStmt b a field p q =
    ap (λ x. x || false) (block-parameters p b) ∙ sym (ap (λ x. x || false) (block-parameters q a))
makes-parameters h.GetterProp b a field p q = same-parameters (field == 0) b a
makes-parameters h.SetterProp b a field p q = same-parameters (field == 0) b a
makes-parameters h.SwitchStmt b a field p q =
    either-parameters (field == 0) Block b refl ∙ sym (either-parameters (field == 0) Block a refl)
makes-parameters h.FnExpr b a field p q =
    either-parameters (is_default p) FunctionName b refl
    ∙ sym (either-parameters (is_default q) FunctionName a refl)
makes-parameters h.ClassExpr b a field p q =
    either-parameters (is_default p) ClassName b refl
    ∙ sym (either-parameters (is_default q) ClassName a refl)
makes-parameters _ b a field p q = refl

module _ (before after : List Item) (test_before test_after : ℕ → Bool) where
  abbrev Alike : List Around → List Around → Type 0
  Alike p q = PathAlike before after test_before test_after p q

  pub assigned-alike : {p q : List Around} → Alike p q → is_assigned p ≡ is_assigned q
  assigned-alike outside = refl
  assigned-alike (same head b a field node outer) =
      ap (λ x. assigns head field || (passes_assignments head field && x)) (assigned-alike outer)
  assigned-alike (pair b a field word outer) = refl
  assigned-alike (key b a word outer) = assigned-alike outer
  assigned-alike (defaulted b a o field one two outer) =
      ap (λ x. (field == 0) && x) (assigned-alike outer)

  pub ends-alike : {p q : List Around} → Alike p q → ends_chain p ≡ ends_chain q
  ends-alike outside = refl
  ends-alike (same head b a field {p = p} {q = q} node outer) =
      ap (λ x. ((is_chain_step head field || is_parenthesis head) && x)
      || is_assigned (around_spot head b field ∷ p)) (ends-alike outer)
      ∙ ap (λ x. ((is_chain_step head field || is_parenthesis head) && ends_chain q) || x)
      (assigned-alike (same head b a field node outer))
  ends-alike (pair b a field word outer) = refl
  ends-alike (key b a word outer) = assigned-alike outer
  ends-alike (defaulted b a o field one two outer) =
      ap (λ x. (field == 0) && x) (assigned-alike outer)

  pub roots-alike : {p q : List Around} → Alike p q → roots_chain p ≡ roots_chain q
  roots-alike outside = refl
  roots-alike (same head b a field {p = p} {q = q} node outer) =
      ap (λ x. (is_chain_step head field && x) || (is_parenthesis head && roots_chain p))
      (ends-alike outer)
      ∙ ap (λ x. (is_chain_step head field && ends_chain q) || (is_parenthesis head && x))
      (roots-alike outer)
  roots-alike (pair b a field word outer) = refl
  roots-alike (key b a word outer) = refl
  roots-alike (defaulted b a o field one two outer) = refl

  pub argument-alike : {p q : List Around} → Alike p q → is_in_argument p ≡ is_in_argument q
  argument-alike outside = refl
  argument-alike (same head b a field node outer) =
      ap (λ x. (is_any_call head && (field == 1)) || x) (argument-alike outer)
  argument-alike (pair b a field word outer) = argument-alike outer
  argument-alike (key b a word outer) = argument-alike outer
  argument-alike (defaulted b a o field one two outer) = argument-alike outer

  pub function-alike : {p q : List Around} → Alike p q → is_in_function p ≡ is_in_function q
  function-alike outside = refl
  function-alike (same head b a field {p = p} {q = q} node outer) =
      any-append is_parameters (scope_at b (kind_of_scope head field p)) (scopes_around Es p)
      ∙ (ap (λ x. x || list_any is_parameters (scopes_around Es p))
      (makes-parameters head b a field p q)
      ∙ (ap (λ x. list_any is_parameters (scope_at a (kind_of_scope head field q)) || x)
      (function-alike outer)
      ∙ sym (any-append is_parameters (scope_at a (kind_of_scope head field q))
      (scopes_around Es q))))
  function-alike (pair b a field word outer) = function-alike outer
  function-alike (key b a word outer) = function-alike outer
  function-alike (defaulted b a o field one two outer) = function-alike outer

  pub initialiser-alike : {p q : List Around} → Alike p q →
      is_in_initialiser p ≡ is_in_initialiser q
  initialiser-alike outside = refl
  initialiser-alike (same head b a field node outer) =
      ap (λ x. is_initialiser head field || x) (initialiser-alike outer)
  initialiser-alike (pair b a field word outer) = initialiser-alike outer
  initialiser-alike (key b a word outer) = initialiser-alike outer
  initialiser-alike (defaulted b a o field one two outer) = initialiser-alike outer

  pub later-alike : {p q : List Around} → Alike p q → runs_later p ≡ runs_later q
  later-alike {p} {q} alike =
      ap (λ x. x || is_in_initialiser p) (function-alike alike)
      ∙ ap (λ x. is_in_function q || x) (initialiser-alike alike)

  pub empty-alike : {p q : List Around} → Alike p q → has_no_value before p ≡ has_no_value after q
  empty-alike outside = refl
  empty-alike (same head b a field {p = p} {q = q} node outer) =
      ap (λ x. x || (not (is_declarator head) && has_no_value before p))
      (and-agree (is_declarator head) _ _ node.empty)
      ∙ ap (λ x. (is_declarator head && is_nothing (in_field 1 (node_at after a)))
      || (not (is_declarator head) && x)) (empty-alike outer)
  empty-alike (pair b a field word outer) = empty-alike outer
  empty-alike (key b a word outer) = empty-alike outer
  empty-alike (defaulted b a o field one two outer) = empty-alike outer

  assign-agree : (c f x y z w : Bool) → (c ≡ true → (x && y) ≡ (z && w)) →
      (((c && f) && x) && y) ≡ (((c && f) && z) && w)
  assign-agree true true x y z w e = e refl
  assign-agree true false x y z w e = refl
  assign-agree false f x y z w e = refl

  pub in_assign-alike : {p q : List Around} → Alike p q →
      is_in_assign_of test_before before p ≡ is_in_assign_of test_after after q
  in_assign-alike outside = refl
  in_assign-alike (same head b a field {p = p} {q = q} node outer) =
      ap (λ x. x || is_in_assign_of test_before before p)
      (assign-agree (is_call_head head) (field == 1)
      (is_text (codes "assign") (property_of (node_at before (b + 1)))) (test_before (b + 2))
      (is_text (codes "assign") (property_of (node_at after (a + 1)))) (test_after (a + 2))
      node.assign)
      ∙ ap (λ x. (((is_call_head head && (field == 1))
      && is_text (codes "assign") (property_of (node_at after (a + 1)))) && test_after (a + 2))
      || x) (in_assign-alike outer)
  in_assign-alike (pair b a field word outer) = in_assign-alike outer
  in_assign-alike (key b a word outer) = in_assign-alike outer
  in_assign-alike (defaulted b a o field one two outer) = in_assign-alike outer

  -- no word, no read
  no_read : (f : Bool) (t : Option Text) → t ≡ None → (f && is_text (codes "prototype") t) ≡ false
  no_read f t e = ap (λ x. f && is_text (codes "prototype") x) e ∙ and_right f false refl

  pub prototype_read-alike : {p q : List Around} → Alike p q →
      is_prototype_read before p ≡ is_prototype_read after q
  prototype_read-alike outside = refl
  prototype_read-alike (same head b a field node outer) =
      ap (λ t. (field == 0) && is_text (codes "prototype") t) node.word
  prototype_read-alike (pair b a field word outer) = no_read (field == 0) _ word
  prototype_read-alike (key b a word outer) = no_read true _ word
  prototype_read-alike (defaulted b a o field one two outer) =
      no_read (field == 0) _ one ∙ sym (no_read (field == 0) _ two)

pub flags-alike : (before after : List Item) (test_before test_after : ℕ → Bool)
    (o its : Occurrence) →
    NameAlike before after test_before test_after o its →
    SameFlags before after test_before test_after o its
flags-alike before after test_before test_after o its name = record {
  declares = ap is_binding name.role;
  later = later-alike before after test_before test_after name.path;
  assigned = assigned-alike before after test_before test_after name.path;
  argument = argument-alike before after test_before test_after name.path;
  chain = roots-alike before after test_before test_after name.path;
  prototype =
      ap (λ x. x && is_in_assign_of test_before before o.path)
      (prototype_read-alike before after test_before test_after name.path)
      ∙ ap (λ x. is_prototype_read after its.path && x)
      (in_assign-alike before after test_before test_after name.path);
  valueless =
      ap (λ x. is_binding x && has_no_value before o.path) name.role
      ∙ ap (λ x. is_binding its.role && x)
      (empty-alike before after test_before test_after name.path);
}
