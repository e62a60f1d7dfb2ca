-- What names denote by symbol and context, and whether trees are resolved.
use Rattle.std.specs.Prelude.{◌≡◌, ℕ, zero, suc, List, [], ◌∷◌, ◌++◌, ◌-◌, Some, None, codes}
use mathlib.Core.Path.{refl, sym, ap, ◌∙◌}
use Rattle.std.proofs.lemmas.Option.{same_Some}
use Rattle.bundle_syntax.specs.declared.piece.Role.TheVariants as r
use native.Mathlib.Omega.{arith}
use Rattle.bundle_syntax.specs.declared.kind.VarDeclKind.TheVariants as v
use Rattle.bundle_syntax.specs.Item as h
use Rattle.bundle_syntax.specs.Item.{Item}
use Rattle.bundle_rules.specs.Places.{Occurrence, occurrence_at}
use Rattle.bundle_rules.specs.Scopes.{Es, Cjs, Parameters, Block, Top, Wrapper, Inner}
use Rattle.bundle_rules.specs.Declarations.{BySymbol, ByContext, Name}
use Rattle.bundle_rules.specs.Denotes.{Bound, Global, denotations, denoted_at, IsResolved}
use Rattle.bundle_rules.proofs.SmallTrees.{node, reads, declares_in, block_of, parameter, declares_function}

-- a symbol with a context, and one that no identifier declares
abbrev ident : List ℕ → ℕ → Name
ident sym ctxt = record { sym = sym; ctxt = Some ctxt }

abbrev implied : List ℕ → Name
implied sym = record { sym = sym; ctxt = None }

-- `let a; a; a;`, where the last `a` has a context that nothing declares
abbrev two_contexts : List Item
two_contexts = declares_in 0 v.Let (codes "a") 2 ++ reads (codes "a") 2 ++ reads (codes "a") 3

-- by symbol and context the last `a` is a global, and by symbol it is the `let`
by_context : denotations ByContext Es two_contexts ≡ Bound Top (ident (codes "a") 2) ∷ Bound Top (ident (codes "a") 2) ∷ Global (codes "a") ∷ []
by_context = refl

by_symbol : denoted_at BySymbol Es two_contexts 11 ≡ Some (Bound Top (implied (codes "a")))
by_symbol = refl

-- `let a; { let a; a; } a;`, where the innermost reference has the outer context
abbrev hidden : List Item
hidden = declares_in 0 v.Let (codes "a") 2 ++ block_of 0 (declares_in 0 v.Let (codes "a") 3 ++ reads (codes "a") 2) ++ reads (codes "a") 2

-- a context sees past an inner binding of the same symbol
past_an_inner_binding : denotations ByContext Es hidden ≡ Bound Top (ident (codes "a") 2) ∷ Bound (Inner Block 7) (ident (codes "a") 3) ∷ Bound Top (ident (codes "a") 2) ∷ Bound Top (ident (codes "a") 2) ∷ []
past_an_inner_binding = refl

-- `function f() { arguments; arguments; }`, where the second has the context of unbound names
abbrev two_arguments : List Item
two_arguments = declares_function (codes "f") 2 [] (reads (codes "arguments") 7 ++ reads (codes "arguments") 1)

arguments_by_context : denotations ByContext Es two_arguments ≡ Bound Top (ident (codes "f") 2) ∷ Bound (Inner Parameters 2) (implied (codes "arguments")) ∷ Global (codes "arguments") ∷ []
arguments_by_context = refl

-- `function f(arguments) { arguments; }` with contexts 2, 5 and 6: read with contexts the parameter is another name than `arguments` in the body
abbrev arguments_beside : List Item
arguments_beside = declares_function (codes "f") 2 (parameter (codes "arguments") 5) (reads (codes "arguments") 6)

arguments_beside_a_parameter : denotations ByContext Es arguments_beside ≡ Bound Top (ident (codes "f") 2) ∷ Bound (Inner Parameters 2) (ident (codes "arguments") 5) ∷ Bound (Inner Parameters 2) (implied (codes "arguments")) ∷ []
arguments_beside_a_parameter = refl

arguments_as_a_parameter : denotations BySymbol Es arguments_beside ≡ Bound Top (implied (codes "f")) ∷ Bound (Inner Parameters 2) (implied (codes "arguments")) ∷ Bound (Inner Parameters 2) (implied (codes "arguments")) ∷ []
arguments_as_a_parameter = refl

-- `module; module; var exports; exports; exports;` with contexts 7, 1, 8, 8 and 9
abbrev script : List Item
script = reads (codes "module") 7 ++ reads (codes "module") 1 ++ declares_in 0 v.Var (codes "exports") 8 ++ reads (codes "exports") 8 ++ reads (codes "exports") 9

-- a parameter of a CommonJS module has each context but that of unbound names, until an identifier declares it
parameters_by_context : denotations ByContext Cjs script ≡ Bound Wrapper (implied (codes "module"))
    ∷ Global (codes "module")
    ∷ Bound Wrapper (ident (codes "exports") 8)
    ∷ Bound Wrapper (ident (codes "exports") 8)
    ∷ Global (codes "exports")
    ∷ []
parameters_by_context = refl

-- `x; export default 1; default;`: only a tree made by hand refers to such a name
abbrev nameless : List Item
nameless = reads (codes "x") 1 ++ node 0 h.ExportDefaultExpr (node 0 (h.Number (codes "1")) []) ++ reads (codes "default") 2

a_nameless_default : denotations BySymbol Es nameless ≡ Global (codes "x") ∷ Bound Top (implied (codes "default")) ∷ []
a_nameless_default = refl

unbound : denoted_at BySymbol Es nameless 1 ≡ Some (Global (codes "x"))
unbound = refl

-- `a; a;` with these contexts
abbrev same_symbol : ℕ → ℕ → List Item
same_symbol first second = reads (codes "a") first ++ reads (codes "a") second

-- one global with two contexts is not resolved
not_resolved : IsResolved Es (same_symbol 1 2) → ⊥
not_resolved r = let e : ◌≡◌ {A = ℕ} 1 2 = ((r.same 1 4 _ _ refl refl).1 refl).1 in omega arith

-- `arguments;` in a function, with the context of unbound names
loose_arguments : IsResolved Es (declares_function (codes "f") 2 [] (reads (codes "arguments") 1)) → ⊥
loose_arguments r = let e : Some (Inner Parameters 2) ≡ None = r.own_arguments 5 _ refl refl in cc

-- the reference `a` at a place, with nothing around it but its statement
abbrev a_at : ℕ → Occurrence
a_at place = record { place = place; sym = codes "a"; ctxt = 1; role = r.Reference; path = record { head = h.ExprStmt; begins = place - 1; field = 0 } ∷ [] }

it_is_a : (p : ℕ) (a : Occurrence) → Some (a_at p) ≡ Some a → denoted_at ByContext Es (same_symbol 1 1) p ≡ Some (Global (codes "a")) → (a.sym ≡ codes "a") × (a.ctxt ≡ 1) × (denoted_at ByContext Es (same_symbol 1 1) p ≡ Some (Global (codes "a")))
it_is_a p a e d = let same : a_at p ≡ a = same_Some (a_at p) a e in (ap (λ (o : Occurrence). o.sym) (sym same), ap (λ (o : Occurrence). o.ctxt) (sym same), d)

-- each occurrence of `a; a;` with one context is `a` and denotes the global
each_is_a : (p : ℕ) (a : Occurrence) → occurrence_at (same_symbol 1 1) p ≡ Some a → (a.sym ≡ codes "a") × (a.ctxt ≡ 1) × (denoted_at ByContext Es (same_symbol 1 1) p ≡ Some (Global (codes "a")))
each_is_a zero a e = cc e
each_is_a (suc zero) a e = it_is_a 1 a e refl
each_is_a (suc (suc zero)) a e = cc e
each_is_a (suc (suc (suc zero))) a e = cc e
each_is_a (suc (suc (suc (suc zero)))) a e = it_is_a 4 a e refl
each_is_a (suc (suc (suc (suc (suc zero))))) a e = cc e
each_is_a (suc (suc (suc (suc (suc (suc p)))))) a e = cc e

-- one global with one context is resolved
resolved : IsResolved Es (same_symbol 1 1)
resolved = record {
  same = λ p q a b ea eb. let x = each_is_a p a ea in let y = each_is_a q b eb in (λ same. x.2 ∙ sym y.2, λ same. (x.0 ∙ sym y.0, x.1 ∙ sym y.1));
  own_arguments = λ p a ea global. let x = each_is_a p a ea in grind (arith, sym x.2 ∙ global);
}
