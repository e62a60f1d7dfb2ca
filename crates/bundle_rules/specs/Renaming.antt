-- Names without contexts: which binding of a tree keeps its symbol, and what the others are called,
-- so that each name denotes by its symbol alone what it denoted by symbol and context (ECMA-262,
-- 9.1: an inner binding hides an outer one of its name). Whether a binding keeps its symbol depends
-- on bindings that come before it; they come in the order of their scopes' nodes, an outer scope
-- before those inside, and in a scope by their first identifier.
use Rattle.std.specs.Prelude.{◌≡◌, ℕ, zero, suc, Bool as Truth, true, false, cond, not, ◌&&◌, ◌||◌, ◌==◌, nat_lt, List, ◌++◌, IsTrue, is_some, bytes_eq, find, map, option_map, unwrap_or, decimal}
use Rattle.std.specs.List.{list_any, list_all}
use Rattle.bundle_syntax.specs.Item.{Item}
use Rattle.bundle_rules.specs.Places.{Occurrence, occurrences}
use Rattle.bundle_rules.specs.Scopes.{Es, Scope, scope_order, same_scope, scopes_around}
use Rattle.bundle_rules.specs.Declarations.{ByContext, Name, Declared, declared}
use Rattle.bundle_rules.specs.Homes.{home_of, from_taker, group_of, is_arguments, is_declared_in}
use Rattle.bundle_rules.specs.Denotes.{Denoted, Bound, Global, denoted_of}

-- a numbering gives each binding, which is a scope and a name there, a number: zero where it keeps
-- its symbol
abbrev pub Numbering : Type 0
Numbering = Scope → Name → ℕ

-- a symbol with its number: itself for zero, else with the number's digits behind it
abbrev pub numbered : List ℕ → ℕ → List ℕ
numbered sym zero = sym
numbered sym (suc n) = sym ++ decimal (suc n)

-- the number of the binding that a declaration is one of
abbrev pub number_of : Numbering → List Declared → Declared → ℕ
number_of numbers all d = numbers (home_of all d) d.name

-- the symbol that a declared name has afterwards
abbrev pub symbol_of : Numbering → List Declared → Declared → List ℕ
symbol_of numbers all d = numbered d.name.sym (number_of numbers all d)

-- whether a declared name keeps its symbol
abbrev pub keeps : Numbering → List Declared → Declared → Truth
keeps numbers all d = number_of numbers all d == 0

-- the place of the first identifier that declares a binding
abbrev pub first_place : List Declared → Declared → ℕ
first_place all d =
    unwrap_or
    (option_map (λ other. other.place) (find (is_declared_in all (home_of all d) d.name) all))
    d.place

-- whether the binding of a comes before that of b
abbrev pub comes_before : List Declared → Declared → Declared → Truth
comes_before all a b =
    nat_lt (scope_order (home_of all a)) (scope_order (home_of all b))
    || (same_scope (home_of all a) (home_of all b)
    && nat_lt (first_place all a) (first_place all b))

-- the scope group of a declared name
abbrev pub group : Declared → Scope
group d = group_of (from_taker d.by d.scopes)

-- whether the binding of a, which comes before that of d, has kept the same symbol in the same
-- group
abbrev pub is_kept_beside : Numbering → List Declared → Declared → Declared → Truth
is_kept_beside numbers all d a =
    same_scope (group a) (group d) && bytes_eq a.name.sym d.name.sym && comes_before all a d
    && keeps numbers all a

-- whether this is a global, or a binding of a scope outside the given one that kept its symbol
abbrev pub is_kept_outside : Numbering → Scope → Denoted → Truth
is_kept_outside numbers scope (Global sym) = true
is_kept_outside numbers scope (Bound other name) =
    nat_lt (scope_order other) (scope_order scope) && numbers other name == 0

-- whether an occurrence inside the scope has the symbol and denotes a global, or an outer binding
-- that kept it: a `var` that only passes through the scope is such an occurrence too
abbrev pub is_needed_by : Numbering → List Declared → Scope → List ℕ → Occurrence → Truth
is_needed_by numbers all scope sym o =
    bytes_eq o.sym sym && list_any (same_scope scope) (scopes_around Es o.path)
    && is_kept_outside numbers scope (denoted_of ByContext Es all o)

-- whether a declared name may keep its symbol: no declared `arguments` does, nor a name that is
-- kept before it in its group, nor one that is needed inside its scope
abbrev pub may_keep : Numbering → List Declared → List Occurrence → Declared → Truth
may_keep numbers all every d =
    not (is_arguments d.name.sym) && not (list_any (is_kept_beside numbers all d) all)
    && not (list_any (is_needed_by numbers all (home_of all d) d.name.sym) every)

-- whether a symbol is one that some occurrence has beforehand, or that a binding before this one
-- has afterwards
abbrev pub is_taken : Numbering → List Declared → List Occurrence → Declared → List ℕ → Truth
is_taken numbers all every d sym =
    list_any (λ o. bytes_eq o.sym sym) every
    || list_any (λ a. comes_before all a d && bytes_eq (symbol_of numbers all a) sym) all

-- whether each number from one up to this one makes a symbol that is taken
abbrev pub are_taken_to : Numbering → List Declared → List Occurrence → Declared → ℕ → Truth
are_taken_to numbers all every d zero = true
are_taken_to numbers all every d (suc n) =
    is_taken numbers all every d (numbered d.name.sym (suc n)) && are_taken_to numbers all every d n

-- whether a number is the least from one on that makes a symbol which is not taken
abbrev pub is_least_free : Numbering → List Declared → List Occurrence → Declared → ℕ → Truth
is_least_free numbers all every d zero = false
is_least_free numbers all every d (suc n) =
    not (is_taken numbers all every d (numbered d.name.sym (suc n)))
    && are_taken_to numbers all every d n

-- whether a declared name has the number that it is to have: zero exactly where it may keep its
-- symbol, else the least free one
abbrev pub is_named_right : Numbering → List Declared → List Occurrence → Declared → Truth
is_named_right numbers all every d =
    cond (may_keep numbers all every d) (keeps numbers all d)
    (is_least_free numbers all every d (number_of numbers all d))

-- whether each declared name of a tree has the number that it is to have
abbrev pub is_numbering : List Item → Numbering → Truth
is_numbering items numbers =
    let all : List Declared = declared ByContext Es items in
    list_all (is_named_right numbers all (occurrences items)) all

-- these are the numbers of the tree's bindings
abbrev pub IsNumbering : List Item → Numbering → Type 0
IsNumbering items numbers = IsTrue (is_numbering items numbers)

-- whether a name is one that an identifier declares, whose context is read
abbrev pub is_written : Name → Truth
is_written name = is_some name.ctxt

-- the symbol afterwards of an occurrence that denotes this: a global keeps its symbol, and so does
-- the implicit `arguments`
abbrev pub symbol_after : Numbering → Denoted → List ℕ
symbol_after numbers (Global sym) = sym
symbol_after numbers (Bound scope name) =
    cond (is_written name) (numbered name.sym (numbers scope name)) name.sym

-- the symbols of a tree's occurrences by these numbers
abbrev pub symbols_after : List Item → Numbering → List (List ℕ)
symbols_after items numbers =
    let all : List Declared = declared ByContext Es items in
    map (λ o. symbol_after numbers (denoted_of ByContext Es all o)) (occurrences items)

-- the tree after has the symbols that the naming rule gives to the one before: those by its numbers
pub record IsRenamed (before after : List Item) : Type 0 where
  pub numbers : Numbering
  pub right : IsNumbering before numbers
  pub symbols : map (λ o. o.sym) (occurrences after) ≡ symbols_after before numbers
