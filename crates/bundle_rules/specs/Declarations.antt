-- Declarations: where names are declared, and how (ECMA-262, 8.2 on bound names; 14.3 `let`,
-- `const`, `var` and patterns, 14.7 loops, 14.15 catch, 15 functions and classes, 16.2.2 imports,
-- 16.2.3 default exports).
use Rattle.std.specs.Prelude.{ℕ, Bool as Truth, true, false, cond, ◌&&◌, ◌==◌, List, [], ◌∷◌, ◌++◌, Option, Some, None, codes, bytes_eq, option_and_then}
use Rattle.std.specs.List.{cons_option}
use Rattle.bundle_syntax.specs.declared.kind.VarDeclKind.{VarDeclKind}
use Rattle.bundle_syntax.specs.declared.kind.VarDeclKind.TheVariants as v
use Rattle.bundle_syntax.specs.Item as h
use Rattle.bundle_syntax.specs.Item.{Item, Head}
use Rattle.bundle_rules.specs.Places.{Around, Spot, past, start, Occurrence, occurrence_of, is_binding}
use Rattle.bundle_rules.specs.Scopes.{ModuleKind, Es, Cjs, Scope, Wrapper, scopes_around, outermost, is_default}

-- how a name is declared
pub data Way : Type 0 where
  -- by an import, by `var`, `let` or `const`, by a declaration of a function or a class
  ByImport : Way
  ByVar : Way
  ByLet : Way
  ByConst : Way
  ByFunction : Way
  ByClass : Way
  -- by a default export without a name, which declares `default`
  ByDefault : Way
  -- as a parameter, as the parameter of a catch, by the `let` or `const` of a loop's head
  ByParameter : Way
  ByCatch : Way
  ByLoop : Way
  -- as the own name of a function expression or a class expression
  ByFunctionName : Way
  ByClassName : Way
  -- as a parameter of a CommonJS module
  ByWrapper : Way

-- whether a name that stands in such a node is declared by what stands around it: the nodes of
-- patterns
abbrev pub is_pattern : Head → Truth
is_pattern h.BindingIdent = true
is_pattern h.ArrayPat = true
is_pattern h.ObjectPat = true
is_pattern h.RestPat = true
is_pattern h.AssignPat = true
is_pattern h.KeyValuePatProp = true
is_pattern h.AssignPatProp = true
is_pattern _ = false

-- whether this field of such a node is the head of a loop
abbrev pub is_loop_head : Head → ℕ → Truth
is_loop_head h.ForStmt field = field == 0
is_loop_head h.ForInStmt field = field == 0
is_loop_head (h.ForOfStmt is_await) field = field == 1
is_loop_head _ field = false

-- whether a declaration with these nodes around it is the head of a loop
abbrev pub heads_loop : List Around → Truth
heads_loop [] = false
heads_loop (node ∷ outer) = is_loop_head node.head node.field

-- how `var`, `let` and `const` declare
abbrev pub way_of_kind : VarDeclKind → List Around → Way
way_of_kind v.Var outer = ByVar
way_of_kind v.Let outer = cond (heads_loop outer) ByLoop ByLet
way_of_kind v.Const outer = cond (heads_loop outer) ByLoop ByConst

-- how such a node declares the names of the declarators in it
abbrev pub way_of_variable : Head → List Around → Option Way
way_of_variable (h.VarDecl kind meta) outer = Some (way_of_kind kind outer)
way_of_variable _ outer = None

-- how a declarator with these nodes around it declares its names
abbrev pub way_of_declarator : List Around → Option Way
way_of_declarator [] = None
way_of_declarator (node ∷ outer) = way_of_variable node.head outer

-- how such a node declares a name that stands in it, with these nodes around it
abbrev pub way_in : Head → List Around → Option Way
way_in h.ImportNamedSpecifier outer = Some ByImport
way_in h.ImportDefaultSpecifier outer = Some ByImport
way_in h.ImportStarAsSpecifier outer = Some ByImport
way_in h.VarDeclarator outer = way_of_declarator outer
way_in h.FnDecl outer = Some ByFunction
way_in h.ClassDecl outer = Some ByClass
way_in h.FnExpr outer = Some (cond (is_default outer) ByFunction ByFunctionName)
way_in h.ClassExpr outer = Some (cond (is_default outer) ByClass ByClassName)
way_in h.Param outer = Some ByParameter
way_in (h.ArrowExpr is_async) outer = Some ByParameter
way_in h.SetterProp outer = Some ByParameter
way_in h.CatchClause outer = Some ByCatch
way_in _ outer = None

-- how the name at a place is declared: by the nearest node around it that is no part of a pattern
abbrev pub way_of : List Around → Option Way
way_of [] = None
way_of (node ∷ outer) = cond (is_pattern node.head) (way_of outer) (way_in node.head outer)

-- how names are read: by the symbol alone, or by symbol and context
pub data Reading : Type 0 where
  BySymbol : Reading
  ByContext : Reading

-- a name: its symbol, and its context where names are read by symbol and context
pub record Name : Type 0 where
  pub sym : List ℕ
  pub ctxt : Option ℕ

-- the name that an identifier has in a reading
abbrev pub name_of : Reading → List ℕ → ℕ → Name
name_of BySymbol sym ctxt = record { sym = sym; ctxt = None }
name_of ByContext sym ctxt = record { sym = sym; ctxt = Some ctxt }

-- whether contexts agree: one that is not read agrees with each
abbrev pub contexts_agree : Option ℕ → Option ℕ → Truth
contexts_agree None b = true
contexts_agree (Some a) None = true
contexts_agree (Some a) (Some b) = a == b

-- whether two names agree
abbrev pub names_agree : Name → Name → Truth
names_agree a b = bytes_eq a.sym b.sym && contexts_agree a.ctxt b.ctxt

-- a name where it is declared: its place, the name, how it is declared, and the scopes around the
-- place, innermost first
pub record Declared : Type 0 where
  pub place : ℕ
  pub name : Name
  pub by : Way
  pub scopes : List Scope

-- a default export without a name declares `default` where it begins; what follows the item says
-- whether it has a name
abbrev pub is_nameless_default : Item → List Item → Truth
is_nameless_default (h.Open field h.ExportDefaultExpr) rest = true
is_nameless_default (h.Open field h.ExportDefaultDecl)
    (h.Open inner head ∷ h.Ident first sym ctxt role ∷ rest) =
    false
is_nameless_default (h.Open field h.ExportDefaultDecl) rest = true
is_nameless_default _ rest = false

-- the declaration by a name, where a way is known
abbrev pub declared_by : ℕ → Name → List Scope → Option Way → Option Declared
declared_by place name scopes None = None
declared_by place name scopes (Some way) =
    Some (record { place = place; name = name; by = way; scopes = scopes })

-- what an identifier declares where it stands
abbrev pub declaration_of : Reading → ModuleKind → Occurrence → Option Declared
declaration_of reading kind o =
    cond (is_binding o.role)
    (declared_by o.place (name_of reading o.sym o.ctxt) (scopes_around kind o.path)
    (way_of o.path)) None

-- the name `default` of an export that begins at a place
abbrev pub nameless_default : ModuleKind → ℕ → Declared
nameless_default kind place =
    record {
      place = place;
      name = record { sym = codes "default"; ctxt = None };
      by = ByDefault;
      scopes = outermost kind;
    }

-- what an item at a spot declares, with the items that follow it
abbrev pub declared_at : Reading → ModuleKind → Spot → Item → List Item → Option Declared
declared_at reading kind spot item rest =
    cond (is_nameless_default item rest) (Some (nameless_default kind spot.place))
    (option_and_then (declaration_of reading kind) (occurrence_of spot item))

-- what the items from a spot on declare
abbrev pub declared_from : Reading → ModuleKind → Spot → List Item → List Declared
declared_from reading kind spot [] = []
declared_from reading kind spot (item ∷ rest) =
    cons_option (declared_at reading kind spot item rest)
    (declared_from reading kind (past spot item) rest)

-- a parameter of a CommonJS module stands before all else
abbrev pub wrapper_parameter : List ℕ → Declared
wrapper_parameter sym =
    record
    { place = 0; name = record { sym = sym; ctxt = None }; by = ByWrapper; scopes = Wrapper ∷ [] }

-- the parameters of the function as which a tree is read
abbrev pub wrapper_parameters : ModuleKind → List Declared
wrapper_parameters Es = []
wrapper_parameters Cjs =
    wrapper_parameter (codes "module") ∷ wrapper_parameter (codes "exports") ∷ []

-- each declaration of a name in a tree, in the order of the source
abbrev pub declared : Reading → ModuleKind → List Item → List Declared
declared reading kind items = wrapper_parameters kind ++ declared_from reading kind start items
