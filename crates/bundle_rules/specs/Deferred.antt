-- What runs later than the statement in which it stands: what is inside a function, and what a
-- field of an instance starts with (ECMA-262, 8.6 and 15; 15.7.14 for fields). Keys of methods and
-- fields run with the statement, and so do static fields and static blocks.
use Rattle.std.specs.Prelude.{ℕ, Bool as Truth, false, ◌||◌, ◌==◌, List}
use Rattle.std.specs.List.{list_any}
use Rattle.bundle_syntax.specs.Item as h
use Rattle.bundle_syntax.specs.Item.{Head}
use Rattle.bundle_rules.specs.Places.{Around}
use Rattle.bundle_rules.specs.Scopes.{Es, scopes_around}
use Rattle.bundle_rules.specs.Homes.{is_parameters}

-- whether a place lies in the parameters or the body of a function, method, accessor, constructor
-- or arrow
abbrev pub is_in_function : List Around → Truth
is_in_function path = list_any is_parameters (scopes_around Es path)

-- whether this field of such a node is what a field of an instance starts with
abbrev pub is_initialiser : Head → ℕ → Truth
is_initialiser (h.ClassProp false) field = field == 1
is_initialiser (h.PrivateProp false) field = field == 1
is_initialiser _ field = false

-- whether a place lies in what a field of an instance starts with
abbrev pub is_in_initialiser : List Around → Truth
is_in_initialiser path = list_any (λ (node : Around). is_initialiser node.head node.field) path

-- whether what stands at a place runs later than its statement
abbrev pub runs_later : List Around → Truth
runs_later path = is_in_function path || is_in_initialiser path
