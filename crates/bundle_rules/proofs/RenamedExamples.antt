-- Trees with other identifiers, and what else may not change in them; names that keep their meaning, and a needless change.
use Rattle.std.proofs.Common.{◌≡◌, ℕ, zero, suc, Bool, true, false, List, [], ◌∷◌, ◌++◌, length, Option, Some, None, refl, sym, ap, ◌∙◌, arith, lit<, true≢false}
use Rattle.std.specs.Prelude.{codes, ◌↔◌, ◌==◌, ◌&&◌}
use Rattle.std.proofs.lemmas.Bool.Decides.{nat_tests}
use Rattle.std.proofs.lemmas.Option.{same_Some}
use Rattle.bundle_syntax.specs.declared.kind.VarDeclKind.TheVariants.{Const, Let}
use Rattle.bundle_syntax.specs.declared.piece.Role.TheVariants.{Binding, Reference, Word}
use Rattle.bundle_syntax.specs.Item as h
use Rattle.bundle_syntax.specs.Item.{Item}
use Rattle.bundle_rules.specs.Places.{Occurrence, occurrence_at}
use Rattle.bundle_rules.specs.Scopes.{Es, Scope, Top}
use Rattle.bundle_rules.specs.Declarations.{BySymbol, ByContext, Name}
use Rattle.bundle_rules.specs.Denotes.{Denoted, Bound, Global, denoted_at, denoted_as, IsResolved}
use Rattle.bundle_rules.specs.Renaming.{numbered}
use Rattle.bundle_rules.specs.Statements.{no_notes}
use Rattle.bundle_rules.specs.Nodes.{Text}
use Rattle.bundle_rules.specs.Renamed.{IsRebuilt, IsRidOfKeywords, KeepsNames, IsNamed, MayLackContexts, HasNamesOnly}
use Rattle.bundle_rules.proofs.Trees.{node, module_of, uses, word, number, declares, runs, exports_default}

abbrev x : Text
x = codes "x"

-- The same tree but for identifiers.

-- `({ .. });`
abbrev object_of : List Item → List Item
object_of props = runs (node 0 h.ObjectLit props)

-- `({ x: x });` stays what it is, and does not become `({ x });`
pair_stays : IsRebuilt (object_of (node 0 h.KeyValueProp (word 0 x ++ uses 1 x))) (object_of (node 0 h.KeyValueProp (word 0 x ++ h.Ident 1 x 7 Reference ∷ [])))
pair_stays = refl

no_shorter_pair : IsRebuilt (object_of (node 0 h.KeyValueProp (word 0 x ++ uses 1 x))) (object_of (uses 0 x)) → ⊥
no_shorter_pair same = let e : ◌≡◌ {A = ℕ} 5 9 = ap length same in grind arith

-- `export { x as z };`, where the word z has this context
abbrev exports_as_z : ℕ → ℕ → List Item
exports_as_z its of_word = node 0 (h.NamedExport no_notes) (node 0 h.ExportNamedSpecifier (h.Ident 0 x its Reference ∷ h.Ident 1 (codes "z") of_word Word ∷ []))

-- a plain word gets no context
word_stays : IsRebuilt (exports_as_z 0 0) (exports_as_z 2 0)
word_stays = refl

abbrev contexts : List Item → List ℕ
contexts [] = []
contexts (h.Ident field name ctxt role ∷ rest) = ctxt ∷ contexts rest
contexts (h.Open field head ∷ rest) = contexts rest
contexts (h.Hole field ∷ rest) = contexts rest
contexts (h.Close ∷ rest) = contexts rest

abbrev second : List ℕ → ℕ
second (a ∷ b ∷ rest) = b
second _ = 0

no_context_for_a_word : IsRebuilt (exports_as_z 0 0) (exports_as_z 2 7) → ⊥
no_context_for_a_word same = let e : ◌≡◌ {A = ℕ} 7 0 = ap (λ tree. second (contexts tree)) same in grind arith

-- Names.

-- `const x = 1;` with this symbol and context
abbrev constant : Text → ℕ → List Item
constant name ctxt = node 0 (h.VarDecl Const no_notes) (node 1 h.VarDeclarator (node 0 h.BindingIdent (h.Ident 0 name ctxt Binding ∷ []) ++ number 1 (codes "1")))

-- where x is the only name, `const x1` for it keeps its meaning
abbrev before : ℕ → Option Denoted
before i = denoted_as ByContext Es (constant x 2) i

abbrev after : ℕ → Option Denoted
after i = denoted_as BySymbol Es (constant (codes "x1") 0) i

one_is_none : (d : Denoted) → Some d ≡ None → ⊥
one_is_none d e = cc

none_is_one : (d : Denoted) → None ≡ Some d → ⊥
none_is_one d e = cc

bound_is_global : (scope : Scope) (name : Name) (s : Text) → Some (Bound scope name) ≡ Some (Global s) → ⊥
bound_is_global scope name s e = cc

same_each : (i j : ℕ) → (before i ≡ before j) ↔ (after i ≡ after j)
same_each zero zero = (λ e. refl, λ e. refl)
same_each zero (suc j) = (λ e. absurd (one_is_none _ e), λ e. absurd (one_is_none _ e))
same_each (suc i) zero = (λ e. absurd (none_is_one _ e), λ e. absurd (none_is_one _ e))
same_each (suc i) (suc j) = (λ e. refl, λ e. refl)

no_global : (i : ℕ) (s : Text) → (before i ≡ Some (Global s)) ↔ (after i ≡ Some (Global s))
no_global zero s = (λ e. absurd (bound_is_global _ _ s e), λ e. absurd (bound_is_global _ _ s e))
no_global (suc i) s = (λ e. absurd (none_is_one _ e), λ e. absurd (none_is_one _ e))

needless : KeepsNames (constant x 2) (constant (codes "x1") 0)
needless = record { same = refl; alike = record { len = refl; same = same_each; globals = no_global } }

-- but it is not named right: x may keep its symbol, and so it must
abbrev first_length : List Text → ℕ
first_length [] = 0
first_length (a ∷ rest) = length a

kept_has_its_symbol : (n : ℕ) → n ≡ 0 → codes "x1" ∷ [] ≡ numbered x n ∷ [] → ⊥
kept_has_its_symbol n is symbols =
    let e : ◌≡◌ {A = ℕ} 2 1 = ap first_length (symbols ∙ ap (λ k. numbered x k ∷ []) is) in grind arith

is_zero : (n : ℕ) → (n == 0) ≡ true → n ≡ 0
is_zero n e = grind (arith, nat_tests)

left : (b : Bool) → (b && true) ≡ true → b ≡ true
left true e = refl
left false e = e

needless_is_wrong : IsNamed (constant x 2) (constant (codes "x1") 0) → ⊥
needless_is_wrong named = kept_has_its_symbol _ (is_zero _ (left _ named.renamed.right)) named.renamed.symbols

-- Keywords: `const int#2 = 1;` becomes `const __int#2 = 1;`

abbrev rid : List Item
rid = constant (codes "__int") 2

abbrev bound : Name
bound = record { sym = codes "__int"; ctxt = Some 2 }

abbrev IsInt : ℕ → Occurrence → Type 0
IsInt place o = (o.sym ≡ codes "__int") × (o.ctxt ≡ 2) × (denoted_at ByContext Es rid place ≡ Some (Bound Top bound))

no_occurrence : (o : Occurrence) → None ≡ Some o → ⊥
no_occurrence o e = cc

each : (place : ℕ) (o : Occurrence) → occurrence_at rid place ≡ Some o → IsInt place o
each zero o e = absurd (no_occurrence o e)
each (suc zero) o e = absurd (no_occurrence o e)
each (suc (suc zero)) o e = absurd (no_occurrence o e)
each (suc (suc (suc zero))) o e = let same = same_Some _ o e in (ap (λ (x : Occurrence). x.sym) (sym same), ap (λ (x : Occurrence). x.ctxt) (sym same), refl)
each (suc (suc (suc (suc zero)))) o e = absurd (no_occurrence o e)
each (suc (suc (suc (suc (suc zero))))) o e = absurd (no_occurrence o e)
each (suc (suc (suc (suc (suc (suc zero)))))) o e = absurd (no_occurrence o e)
each (suc (suc (suc (suc (suc (suc (suc zero))))))) o e = absurd (no_occurrence o e)
each (suc (suc (suc (suc (suc (suc (suc (suc zero)))))))) o e = absurd (no_occurrence o e)
each (suc (suc (suc (suc (suc (suc (suc (suc (suc n))))))))) o e = absurd (no_occurrence o e)

still_resolved : IsResolved Es rid
still_resolved = record {
  same = λ a b c d at_a at_b. let first = each a c at_a in let other = each b d at_b in (λ same. first.2 ∙ sym other.2, λ same. (first.0 ∙ sym other.0, first.1 ∙ sym other.1));
  own_arguments = λ a c at_a global. absurd (bound_is_global Top bound (codes "arguments") (sym (each a c at_a).2 ∙ global));
}

abbrev of_int : ℕ → Option Denoted
of_int i = denoted_as ByContext Es (constant (codes "int") 2) i

abbrev of_rid : ℕ → Option Denoted
of_rid i = denoted_as ByContext Es rid i

alike_each : (i j : ℕ) → (of_int i ≡ of_int j) ↔ (of_rid i ≡ of_rid j)
alike_each zero zero = (λ e. refl, λ e. refl)
alike_each zero (suc j) = (λ e. absurd (one_is_none _ e), λ e. absurd (one_is_none _ e))
alike_each (suc i) zero = (λ e. absurd (none_is_one _ e), λ e. absurd (none_is_one _ e))
alike_each (suc i) (suc j) = (λ e. refl, λ e. refl)

no_global_int : (i : ℕ) (s : Text) → (of_int i ≡ Some (Global s)) ↔ (of_rid i ≡ Some (Global s))
no_global_int zero s = (λ e. absurd (bound_is_global _ _ s e), λ e. absurd (bound_is_global _ _ s e))
no_global_int (suc i) s = (λ e. absurd (none_is_one _ e), λ e. absurd (none_is_one _ e))

rid_of_int : IsRidOfKeywords (constant (codes "int") 2) rid
rid_of_int = record {
  same = refl;
  free = record { symbols = refl; contexts = (refl, tt); resolved = still_resolved; alike = record { len = refl; same = alike_each; globals = no_global_int } };
}

-- to give the tree back is wrong
not_rid_of_int : IsRidOfKeywords (constant (codes "int") 2) (constant (codes "int") 2) → ⊥
not_rid_of_int keeps = let e : ◌≡◌ {A = ℕ} 3 5 = ap first_length keeps.free.symbols in grind arith

-- `export default 1;` has a declaration without an identifier: it is no tree for the naming
no_nameless_default : HasNamesOnly (module_of (exports_default (number 0 (codes "1")))) → ⊥
no_nameless_default named = true≢false (sym (named _ (0, lit< tt, refl)))

-- The resolver.

-- `let x; let x;`: the doubled declaration is told, and no want of contexts
doubled_first : (next : ℕ) → MayLackContexts Es (module_of (declares Let x [] ++ declares Let x [])) next → ⊥
doubled_first next lacks = cc lacks.undoubled

-- `let x;` with no number left
no_number_left : MayLackContexts Es (module_of (declares Let x [])) 4294967295
no_number_left = record { undoubled = refl; too_many = lit< tt }
