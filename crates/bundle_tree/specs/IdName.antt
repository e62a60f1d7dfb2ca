-- The name of a binding: a symbol with its context.
use Rattle.std.specs.Prelude.{◌≡◌, ℕ, List, Bool, ◌∷◌, ◌++◌, nat_eq}
use Rattle.std.specs.Fmt.{decimal}
use Rattle.std.specs.Hash as fed
use Rattle.std.specs.Ordering.{eq_of_both, nat_cmp, on, then_cmp}
use Rattle.std.specs.Cmp.Lexicographic.{slice_cmp}
use Rattle.std.specs.Str.{bytes_eq}
use Rattle.std.specs.String.{string_bytes}
use Rattle.std.specs.declared.cmp.Ordering.{Ordering}
use Rattle.bundle_syntax.specs.declared.ident.Ident.{Ident}
use Rattle.bundle_tree_ast.specs.declared.expr.Expr.{Expr}
use Rattle.bundle_tree_ast.specs.declared.expr.Expr.TheVariants as expr

-- a name as plain data: the bytes of its symbol, and the number of its context
pub record IdName : Type 0 where
  pub symbol : List ℕ
  pub context : ℕ

-- the name that an identifier has
abbrev pub ident_name : Ident → IdName
ident_name ident = record { symbol = string_bytes ident.sym; context = ident.ctxt }

-- the expression is an identifier of this name
pub record IsIdentExpr (e : Expr) (name : IdName) : Type 0 where
  pub ident : Ident
  pub is : e ≡ expr.Ident ident
  pub named : ident_name ident ≡ name

-- whether two names have one symbol and one context, as a test; `name_eq-Decides` says that it
-- tests whether they are the same
abbrev pub id_name_eq : IdName → IdName → Bool
id_name_eq = eq_of_both (on (λ name. name.symbol) bytes_eq) (on (λ name. name.context) nat_eq)

-- names in order: by the bytes of the symbols, and where these are the same by the contexts
abbrev pub name_cmp : IdName → IdName → Ordering
name_cmp =
    then_cmp (on (λ name. name.symbol) (slice_cmp nat_cmp)) (on (λ name. name.context) nat_cmp)

-- what a hasher is given of a name: the symbol, and then the context
abbrev pub id_hash_input : IdName → fed.HashWrites
id_hash_input name = fed.str name.symbol ++ fed.u32 name.context

-- a name as it is shown: the symbol, a `#` and the context, as `x#2`
abbrev pub id_shown : IdName → List ℕ
id_shown name = name.symbol ++ 35 ∷ decimal name.context
