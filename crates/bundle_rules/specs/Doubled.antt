-- Doubled declarations: names that one piece of source may not declare twice (ECMA-262, the early
-- errors of 14.2.1 blocks, 14.7.4.1 and 14.7.5.1 loops, 14.12.1 switches, 14.15.1 catch, 15.2.1
-- functions, 15.7.1 static blocks and 16.2.1.1 modules; strict code, without Annex B). A doubled
-- parameter name, or a doubled name of one catch parameter, is one binding and no fault.
use Rattle.std.specs.Prelude.{Bool as Truth, true, false, not, ◌&&◌, ◌||◌, ◌==◌, nat_lt, List, ◌∷◌, Option, find, take_while}
use Rattle.std.specs.List.{list_any}
use Rattle.bundle_syntax.specs.Item.{Item}
use Rattle.bundle_rules.specs.Scopes.{ModuleKind, Scope, Wrapper, Top, Inner, FunctionBody, StaticBody, same_scope}
use Rattle.bundle_rules.specs.Declarations.{Way, ByImport, ByVar, ByLet, ByConst, ByFunction, ByClass, ByDefault, ByLoop, BySymbol, names_agree, Declared, declared}
use Rattle.bundle_rules.specs.Homes.{takes, taker, from_taker, group_of}

-- whether functions may be doubled in the first of these scopes, as a `var` may: at the top of a
-- body, and not in a block or at the top of a module
abbrev pub may_double_functions : List Scope → Truth
may_double_functions (Top ∷ Wrapper ∷ outer) = true
may_double_functions (Inner FunctionBody begins ∷ outer) = true
may_double_functions (Inner StaticBody begins ∷ outer) = true
may_double_functions _ = false

-- whether a name declared in this way, in the first of these scopes, may stand there only once
abbrev pub stands_once : Way → List Scope → Truth
stands_once ByImport scopes = true
stands_once ByLet scopes = true
stands_once ByConst scopes = true
stands_once ByClass scopes = true
stands_once ByDefault scopes = true
stands_once ByLoop scopes = true
stands_once ByFunction scopes = not (may_double_functions scopes)
stands_once _ scopes = false

-- whether a declaration is a lexical one, which stands once
abbrev pub is_lexical : Declared → Truth
is_lexical d = stands_once d.by (from_taker d.by d.scopes)

-- whether b is declared in the scope of a, or as a parameter beside it
abbrev pub stands_beside : Declared → Declared → Truth
stands_beside a b =
    same_scope (taker b) (taker a) || same_scope (taker b) (group_of (from_taker a.by a.scopes))

-- whether a name is declared by `var`
abbrev pub is_var : Way → Truth
is_var ByVar = true
is_var _ = false

-- whether a is a `var` on whose way up to its scope stands that of b: a block, a loop or a catch
abbrev pub passes_scope_of : Declared → Declared → Truth
passes_scope_of a b =
    is_var a.by
    && list_any (same_scope (taker b)) (take_while (λ scope. not (takes a.by scope)) a.scopes)

-- whether b may not have the name of a
abbrev pub excludes : Declared → Declared → Truth
excludes a b = is_lexical a && stands_beside a b || passes_scope_of a b

-- whether two declarations of a tree declare one name where only one may
abbrev pub clash : Declared → Declared → Truth
clash a b = names_agree a.name b.name && not (a.place == b.place) && (excludes a b || excludes b a)

-- whether a declaration clashes with one that stands before it
abbrev pub is_doubled : List Declared → Declared → Truth
is_doubled all d = list_any (λ earlier. nat_lt earlier.place d.place && clash earlier d) all

-- the first declaration of a tree that clashes with one before it
abbrev pub first_doubled : ModuleKind → List Item → Option Declared
first_doubled kind items =
    let all : List Declared = declared BySymbol kind items in find (is_doubled all) all
