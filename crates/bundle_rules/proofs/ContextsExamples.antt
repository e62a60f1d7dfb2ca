-- Contexts of small trees: one for each binding, and which.
use Rattle.std.specs.Prelude.{◌≡◌, ℕ, ◌≤◌, zero, suc, List, ◌++◌, Option, Some, None, codes}
use native.Mathlib.Omega.{arith}
use mathlib.Core.Path.{refl, sym, ap, ◌∙◌}
use Rattle.std.proofs.lemmas.Option.{same_Some}
use Rattle.std.proofs.Common.{lit≤, true≢false}
use Rattle.bundle_syntax.specs.declared.kind.VarDeclKind.TheVariants as v
use Rattle.bundle_syntax.specs.Item.{Item}
use Rattle.bundle_rules.specs.Places.{Occurrence, occurrence_at}
use Rattle.bundle_rules.specs.Scopes.{Es, Cjs, Top}
use Rattle.bundle_rules.specs.Declarations.{BySymbol, ByContext, Name}
use Rattle.bundle_rules.specs.Denotes.{Denoted, Bound, denoted_at, denoted_as, IsResolved, IsResolutionOf}
use Rattle.bundle_rules.specs.Contexts.{GivesContexts}
use Rattle.bundle_rules.proofs.SmallTrees.{declares_in, block_of, reads}

-- `var x; var x;` with these contexts
abbrev twice : ℕ → ℕ → List Item
twice first second = declares_in 0 v.Var (codes "x") first ++ declares_in 0 v.Var (codes "x") second

-- One binding stays one.

abbrev x_with : ℕ → Name
x_with n = record { sym = codes "x"; ctxt = Some n }

-- what stands at a place is x with context 2
abbrev IsX : ℕ → Occurrence → Type 0
IsX p a = (a.sym ≡ codes "x") × (a.ctxt ≡ 2) × (denoted_at ByContext Es (twice 2 2) p ≡ Some (Bound Top (x_with 2)))

each : (p : ℕ) (a : Occurrence) → occurrence_at (twice 2 2) p ≡ Some a → IsX p a
each zero a e = cc
each (suc zero) a e = cc
each (suc (suc zero)) a e = cc
each (suc (suc (suc zero))) a e = let same = same_Some _ a e in (ap (λ (o : Occurrence). o.sym) (sym same), ap (λ (o : Occurrence). o.ctxt) (sym same), refl)
each (suc (suc (suc (suc zero)))) a e = cc
each (suc (suc (suc (suc (suc zero))))) a e = cc
each (suc (suc (suc (suc (suc (suc zero)))))) a e = cc
each (suc (suc (suc (suc (suc (suc (suc zero))))))) a e = cc
each (suc (suc (suc (suc (suc (suc (suc (suc zero)))))))) a e = cc
each (suc (suc (suc (suc (suc (suc (suc (suc (suc zero))))))))) a e = cc
each (suc (suc (suc (suc (suc (suc (suc (suc (suc (suc zero)))))))))) a e = let same = same_Some _ a e in (ap (λ (o : Occurrence). o.sym) (sym same), ap (λ (o : Occurrence). o.ctxt) (sym same), refl)
each (suc (suc (suc (suc (suc (suc (suc (suc (suc (suc (suc zero))))))))))) a e = cc
each (suc (suc (suc (suc (suc (suc (suc (suc (suc (suc (suc (suc zero)))))))))))) a e = cc
each (suc (suc (suc (suc (suc (suc (suc (suc (suc (suc (suc (suc (suc zero))))))))))))) a e = cc
each (suc (suc (suc (suc (suc (suc (suc (suc (suc (suc (suc (suc (suc (suc p)))))))))))))) a e = cc

is_resolved : IsResolved Es (twice 2 2)
is_resolved = record {
  same = λ p q a b ea eb. let x = each p a ea in let y = each q b eb in (λ same. x.2 ∙ sym y.2, λ same. (x.0 ∙ sym y.0, x.1 ∙ sym y.1));
  own_arguments = λ p a ea global. let x = each p a ea in cc (sym x.2 ∙ global);
}

-- `var x; var x;` has one binding, and so has `var x#2; var x#2;`
is_resolution : IsResolutionOf Es (twice 0 0) (twice 2 2)
is_resolution = record { resolved = is_resolved; same = refl; one = one_each }
  where
    one_each : (i j : ℕ) → denoted_as BySymbol Es (twice 0 0) i ≡ denoted_as BySymbol Es (twice 0 0) j → denoted_as ByContext Es (twice 2 2) i ≡ denoted_as ByContext Es (twice 2 2) j
    one_each zero zero e = refl
    one_each zero (suc zero) e = refl
    one_each zero (suc (suc j)) e = cc
    one_each (suc zero) zero e = refl
    one_each (suc zero) (suc zero) e = refl
    one_each (suc zero) (suc (suc j)) e = cc
    one_each (suc (suc i)) zero e = cc
    one_each (suc (suc i)) (suc zero) e = cc
    one_each (suc (suc i)) (suc (suc j)) e = refl

abbrev or_zero : Option ℕ → ℕ
or_zero None = 0
or_zero (Some n) = n

-- the context of what is denoted
abbrev context_of : Option Denoted → ℕ
context_of (Some (Bound scope name)) = or_zero name.ctxt
context_of _ = 0

-- `var x#2; var x#3;` is resolved and has two bindings, of which by symbol one was made: it is no resolution
split_is_none : IsResolutionOf Es (twice 0 0) (twice 2 3) → ⊥
split_is_none r = let e : ◌≡◌ {A = ℕ} 2 3 = ap context_of (r.one 0 1 refl) in omega arith

-- Which contexts.

-- `let a; { let b; } c;` with these contexts
abbrev three : ℕ → ℕ → ℕ → List Item
three a b c = declares_in 0 v.Let (codes "a") a ++ block_of 0 (declares_in 0 v.Let (codes "b") b) ++ reads (codes "c") c

-- where the local context is 2 and numbers from 4 on are free: a has 2, b has 4, and c, which nothing binds, has 1
right_contexts : GivesContexts Es 2 4 5 (three 0 0 0) (three 2 4 1)
right_contexts = record { given = (refl, (refl, (refl, tt))); enough = lit≤ tt }

-- a global has no other context, so that it is one in all modules
strange_global : (later : ℕ) → GivesContexts Es 2 4 later (reads (codes "d") 0) (reads (codes "d") 7777) → ⊥
strange_global later g = true≢false (sym g.given.0)

-- a name of the top has no number of its own, and no inner name the local one
strange_top : GivesContexts Es 2 4 9 (three 0 0 0) (three 4 5 1) → ⊥
strange_top g = true≢false (sym g.given.0)

strange_inner : GivesContexts Es 2 4 9 (three 0 0 0) (three 2 2 1) → ⊥
strange_inner g = true≢false (sym g.given.1.0)

-- a resolver does not take numbers without end: the tree has two scopes and two bindings
too_many : GivesContexts Es 2 4 9 (three 0 0 0) (three 2 8 1) → ⊥
too_many g = let e : 9 ≤ 8 = g.enough in omega (arith, e)

-- the parameters of a CommonJS module's function may have either
right_in_a_script : GivesContexts Cjs 2 4 5 (reads (codes "module") 0 ++ reads (codes "arguments") 0) (reads (codes "module") 2 ++ reads (codes "arguments") 4)
right_in_a_script = record { given = (refl, (refl, tt)); enough = lit≤ tt }
