-- A condition on each node of statements, by its own head and that of the node around it, by which
-- a module of them can be called.
use Rattle.std.specs.Prelude.{◌≡◌, ℕ, Bool, true, false, cond, not, ◌==◌, List, [], ◌∷◌, ◌++◌}
use Rattle.bundle_syntax.specs.declared.piece.Role.{Role}
use Rattle.bundle_syntax.specs.declared.piece.Role.TheVariants as r
use Rattle.bundle_syntax.specs.Item as h
use Rattle.bundle_syntax.specs.Item.{Item, Head}
use Rattle.bundle_rules.specs.Declarations.{is_pattern}
use Rattle.bundle_rules.specs.Callable.{is_module_head, HasName}

-- whether a field of such a node is the key of a setter, in which nothing is bound
abbrev pub is_setter_key : Head → ℕ → Bool
is_setter_key h.SetterProp field = field == 0
is_setter_key _ field = false

-- whether such a node has parameters
abbrev pub head_has_parameters : Head → Bool
head_has_parameters (h.Function is_generator is_async) = true
head_has_parameters h.Constructor = true
head_has_parameters _ = false

-- whether such a node may hold, in this field, a node with the other head: parameters stand in
-- functions, and no pattern in the key of a setter
abbrev pub may_hold : Head → ℕ → Head → Bool
may_hold parent field h.Param = head_has_parameters parent
may_hold parent field head = cond (is_pattern head) (not (is_setter_key parent field)) true

-- whether it may hold a name of this role
abbrev pub may_name : Head → ℕ → Role → Bool
may_name parent field r.Binding = not (is_setter_key parent field)
may_name parent field _ = true

-- `AreIn parent items`: whole nodes of statements, which stand in such a node
pub data AreIn : Head → List Item → Type 0 where
  no_more : {parent : Head} → AreIn parent []
  a_name : {parent : Head} {field ctxt : ℕ} {x : List ℕ} {role : Role} {rest : List Item} →
      may_name parent field role ≡ true → AreIn parent rest →
      AreIn parent (h.Ident field x ctxt role ∷ rest)
  a_hole : {parent : Head} {field : ℕ} {rest : List Item} → AreIn parent rest →
      AreIn parent (h.Hole field ∷ rest)
  a_node : {parent : Head} {field : ℕ} {head : Head} {inside rest : List Item} →
      is_module_head head ≡ false → may_hold parent field head ≡ true → HasName head inside →
      AreIn head inside → AreIn parent rest →
      AreIn parent (h.Open field head ∷ (inside ++ h.Close ∷ rest))
