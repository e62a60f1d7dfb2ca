-- Where an `await` stands that only an async function or the top of a module may have (ECMA-262,
-- 15.8 and 16.2: the top of a module is async). Functions are meant with their parameters and
-- without their keys; static blocks and values of fields are no functions.
use Rattle.std.specs.Prelude.{ℕ, suc, ◌&&◌, ◌||◌, Bool, true, false, not, List, [], ◌∷◌}
use Rattle.bundle_syntax.specs.Item as h
use Rattle.bundle_syntax.specs.Item.{Item, Head}
use Rattle.bundle_rules.specs.Places.{path_at}
use Rattle.bundle_rules.specs.Deferred.{is_in_function}

-- whether such a node is an `await` or a `for await`
abbrev pub awaits : Head → Bool
awaits h.AwaitExpr = true
awaits (h.ForOfStmt is_await) = is_await
awaits _ = false

-- whether such a node begins here
abbrev pub awaits_here : Item → Bool
awaits_here (h.Open field head) = awaits head
awaits_here _ = false

-- the same of the elements from this place on
abbrev pub awaits_from : List Item → ℕ → List Item → Bool
awaits_from tree place [] = false
awaits_from tree place (x ∷ rest) =
    (awaits_here x && not (is_in_function (path_at tree place)))
    || awaits_from tree (suc place) rest

-- whether an `await` or `for await` stands outside functions
abbrev pub awaits_outside : List Item → Bool
awaits_outside tree = awaits_from tree 0 tree
