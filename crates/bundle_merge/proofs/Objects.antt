-- The object of an `import.meta` that is written already: its properties are some, and which contexts stand in it.
use Rattle.std.proofs.Common.{◌≡◌, ◌≢◌, ◌<◌, ℕ, zero, suc, Bool, true, List, [], ◌∷◌, ◌++◌, Some, Contains, codes, drop, option_map, slice_get, sym, ap, ◌∙◌, subst, append-nil, arith}
use Rattle.std.specs.Prelude.{nat_le, nat_lt}
use Rattle.std.specs.List.{AllZip}
use Rattle.std.proofs.lemmas.Bool.{and_parts, leb-true}
use Rattle.std.proofs.lemmas.List.{append_cancel_right}
use Rattle.std.proofs.lemmas.Option.{none-some, same_Some, slice_get-map}
use Rattle.bundle_tree_names.specs.FileName.{Name as FileName}
use Rattle.bundle_tree_ast.specs.declared.expr.Expr.{Expr}
use Rattle.bundle_tree_ast.specs.declared.prop.KeyValueProp.{KeyValueProp}
use Rattle.bundle_syntax.specs.Item as h
use Rattle.bundle_syntax.specs.Item.{Item}
use Rattle.bundle_rules.specs.Bundle.{Hooks, properties_tree}
use Rattle.bundle_rules.specs.Cleared.{cleared}
use Rattle.bundle_rules.specs.Contexts.{may_have_context}
use Rattle.bundle_rules.specs.Declarations.{BySymbol, ByContext, Name}
use Rattle.bundle_rules.specs.Denotes.{Bound, Denoted, by_symbol, denotations, denoted_as, without_context}
use Rattle.bundle_rules.specs.Idents.{Ident, ident_of}
use Rattle.bundle_rules.specs.Merged.{IsMetaItem}
use Rattle.bundle_rules.specs.Places.{Occurrence, occurrences, start}
use Rattle.bundle_rules.specs.Program.{Program}
use Rattle.bundle_rules.specs.Scopes.{Es, Inner, ScopeKind}
use Rattle.bundle_scope_names.specs.fit.Fits.{AreEach, AreFit, ended, next}
use Rattle.bundle_scope_names.specs.fit.Sorts.{AProperty, Many, slot}
use Rattle.bundle_scope_names.proofs.fit.Rows.{last_each}
use Rattle.bundle_scope_names.proofs.grown.Grown.{key_value_prop_fit}
use Rattle.bundle_scope_names.proofs.naming_rule.Theorem.{cleared-twice}
use Rattle.bundle_link_index.proofs.ProgramLemmas.{map_back}
use Rattle.bundle_link.proofs.NumberLemmas.{held}
use Rattle.bundle_link.proofs.NumberedModuleLemmas.{mapped}
use Rattle.bundle_merge_theory.specs.walked.Names.{idents_among}
use Rattle.bundle_merge_theory.proofs.walked.Clearing.{cleared-append}
use Rattle.bundle_merge_theory.proofs.walked.NameLemmas.{names_of-append}
use Rattle.bundle_merge_theory.proofs.answered.Resolving.{resolved-cleared}
use Rattle.bundle_merge_theory.proofs.answered.Rewritten.{idents_from}
use Rattle.bundle_merge_theory.proofs.fit.Clearing.{fit_cleared}
use Rattle.bundle_merge_theory.proofs.function.Given.{fit_given}
use Rattle.bundle_merge.specs.Ready.{Answering, hooks_by, listed_properties}

-- a hook answers properties
abbrev pub AnswersFit : Hooks → Type 0
AnswersFit hooks =
    (file : FileName) (is_entry : Bool) (answer : List Item) →
    hooks.may_answer file is_entry answer → AreFit (slot 0 Many AProperty ∷ []) answer

each-fit : (its : List (KeyValueProp Expr)) → AreEach AProperty 0 (listed_properties its)
each-fit [] = ended
each-fit (it ∷ rest) = next (key_value_prop_fit 0 it) (each-fit rest)

-- one that answers lists of them does
pub answers-fit : (given : Answering) → AnswersFit (hooks_by given)
answers-fit given file is_entry answer may =
    let its = map_back listed_properties (given file is_entry) answer may in
    subst (AreFit (slot 0 Many AProperty ∷ [])) its.2 (last_each (each-fit its.0))

-- ---- names
-- a name that is listed stands there
stands-named : (items : List Item) (i : ℕ) (ident : Ident) →
    slice_get (idents_among items) i ≡ Some ident →
    (o : Occurrence) × Contains (occurrences items) o × (ident_of o ≡ ident)
stands-named items i ident at =
    let it =
    mapped ident_of (occurrences items) i ident
    (ap (λ l. slice_get l i) (idents_from start items) ∙ at) in
    (it.0, held (occurrences items) it.0 i it.1, it.2)

-- and the other way round
named-stands : (items : List Item) (i : ℕ) (o : Occurrence) →
    slice_get (occurrences items) i ≡ Some o →
    slice_get (idents_among items) i ≡ Some (ident_of o)
named-stands items i o at =
    ap (λ l. slice_get l i) (sym (idents_from start items))
    ∙ slice_get-map ident_of (occurrences items) i ∙ ap (option_map ident_of) at

-- what stands beside an element of the second list
beside : {A B : Type 0} (R : A → B → Type 0) (xs : List A) (ys : List B) → AllZip R xs ys →
    (i : ℕ) (x : A) (y : B) → slice_get xs i ≡ Some x → slice_get ys i ≡ Some y → R x y
beside R [] ys all i x y at there = absurd (none-some x at)
beside R (a ∷ xs) [] all i x y at there = absurd (none-some y there)
beside R (a ∷ xs) (b ∷ ys) all zero x y at there =
    subst (R x) (same_Some b y there) (subst (λ z. R z b) (same_Some a x at) all.0)
beside R (a ∷ xs) (b ∷ ys) all (suc i) x y at there = beside R xs ys all.1 i x y at there

abbrev closing : List Item
closing = h.Close ∷ h.Close ∷ h.Close ∷ []

-- ---- the object
module _ {p : Program} {hooks : Hooks} {m : ℕ} {item : List Item} (its : IsMetaItem p hooks m item) where
  -- its properties are what was answered but for contexts
  answered-is : cleared its.properties ≡ its.answered
  answered-is =
      append_cancel_right (cleared its.properties) (cleared its.answered) closing
      (sym (cleared-append its.properties closing)
      ∙ ap (drop 3)
      (resolved-cleared Es its.local its.next its.later (properties_tree its.answered)
      (properties_tree its.properties) its.resolved)
      ∙ cleared-append its.answered closing)
      ∙ ap cleared its.held.cleared
      ∙ cleared-twice its.held.answer
      ∙ sym its.held.cleared

  -- so they stand where properties may
  pub object-fit : AnswersFit hooks → AreFit (slot 0 Many AProperty ∷ []) its.properties
  object-fit fits =
      fit_given
      (subst (AreFit (slot 0 Many AProperty ∷ [])) (sym its.held.cleared)
      (fit_cleared (fits its.held.loaded.file_name _ its.held.answer its.held.answered)))
      its.properties answered-is

  -- its names are its own and those in the properties
  names-are : idents_among item ≡ (codes "importMeta", its.ctxt) ∷ idents_among (its.properties ++ closing)
  names-are = ap idents_among its.is

  -- the context of its own stands in it
  pub name-stands : (o : Occurrence) × Contains (occurrences item) o × (o.ctxt ≡ its.ctxt)
  name-stands =
      let it =
      stands-named item 0 (codes "importMeta", its.ctxt) (ap (λ l. slice_get l 0) names-are) in
      (it.0, it.1, ap (λ (x : Ident). x.1) it.2)

  module _ (i : ℕ) (o : Occurrence) (at : slice_get (occurrences (properties_tree its.properties)) i ≡ Some o) where
    -- and so do those in the properties
    pub inside-stands : (u : Occurrence) × Contains (occurrences item) u × (u.ctxt ≡ o.ctxt)
    inside-stands =
        let it =
        stands-named item (suc i) (ident_of o)
        (ap (λ l. slice_get l (suc i)) names-are
        ∙ named-stands (properties_tree its.properties) i o at) in
        (it.0, it.1, ap (λ (x : Ident). x.1) it.2)

    -- which are none of its own
    pub inside-other : o.ctxt ≢ its.ctxt
    inside-other same =
        let listed : idents_among (its.properties ++ closing) ≡ idents_among its.properties =
        names_of-append its.properties closing ∙ append-nil (idents_among its.properties) in
        let it =
        stands-named its.properties i (ident_of o)
        (ap (λ l. slice_get l i) (sym listed)
        ∙ named-stands (properties_tree its.properties) i o at) in
        its.own it.0 it.1 (ap (λ (x : Ident). x.1) it.2 ∙ same)

    -- where it was resolved from a number above 1 on, a binding inside has a context above 1
    pub inside-above : 1 < its.next → (kind : ScopeKind) (begins : ℕ) (name : Name) →
        denoted_as ByContext Es (properties_tree its.properties) i
        ≡ Some (Bound (Inner kind begins) name) →
        1 < o.ctxt
    inside-above above kind begins name denoted =
        let before = properties_tree its.answered in
        let after = properties_tree its.properties in
        let was : slice_get (denotations BySymbol Es before) i
        ≡ Some (Bound (Inner kind begins) (without_context name)) =
        ap (λ ds. slice_get ds i) (sym its.resolved.resolution.same)
        ∙ slice_get-map by_symbol (denotations ByContext Es after) i
        ∙ ap (option_map by_symbol) denoted in
        let new =
        beside (λ (d : Denoted) (u : Occurrence). may_have_context its.local its.next its.later d u.ctxt ≡ true)
        (denotations BySymbol Es before) (occurrences after) its.resolved.contexts.given i
        (Bound (Inner kind begins) (without_context name)) o was at in
        let low =
        leb-true its.next o.ctxt (and_parts (nat_le its.next o.ctxt) (nat_lt o.ctxt its.later) new).0 in
        omega (arith, above, low)
