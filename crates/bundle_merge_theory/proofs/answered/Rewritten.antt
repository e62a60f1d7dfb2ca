-- What a hook answered, and what a walk makes of it: both are fit, the walk has a step for each
-- name, and each name is made of one.
-- The names of what a hook answered, by themselves: they denote bindings inside or globals, and
-- numbers that tell these apart are a numbering of it.
use Rattle.std.proofs.Common.{◌≡◌, ◌≤◌, ℕ, Bool, true, false, not, List, [], ◌∷◌, ◌++◌, None, length, append-nil, bytes_eq, refl, ap, sym, ◌∙◌, subst, arith, ◌≢◌, ◌+◌, cond, Option, Some, option_and_then, option_map, slice_get, append_assoc}
use Rattle.std.specs.List.{AllZip, cons_option}
use Rattle.std.proofs.lemmas.Bool.{false≢true, true≢false}
use Rattle.std.proofs.lemmas.Option.{none-some, same_Some, slice_get-map}
use Rattle.std.proofs.lemmas.List.{length-map}
use Rattle.std.proofs.lemmas.Slice.Eq.{bytes_eq-Decides}
use Rattle.bundle_syntax.specs.Item as h
use Rattle.bundle_syntax.specs.Item.{Item}
use Rattle.bundle_syntax.specs.declared.kind.ExportMetadata.{ExportMetadata}
use Rattle.bundle_syntax.specs.declared.kind.VarDeclKind.TheVariants.{Const}
use Rattle.bundle_rules.specs.Places.{Spot, Occurrence, occurrences, occurrences_from, past, start, occurrence_of}
use Rattle.bundle_rules.specs.Idents.{Ident, ident_of}
use Rattle.bundle_rules.specs.Statements.{no_notes}
use Rattle.bundle_rules.specs.Program.{Program}
use Rattle.bundle_rules.specs.Bundle.{Hooks, properties_tree}
use Rattle.bundle_rules.specs.Scopes.{Es, Scope, ScopeKind, Wrapper, Top, Inner, scope_order}
use Rattle.bundle_rules.specs.Declarations.{BySymbol, Name, Declared, declaration_of, nameless_default, declared_from, declared}
use Rattle.bundle_rules.specs.Denotes.{Denoted, Bound, denoted_of, denotations}
use Rattle.bundle_tree_places.specs.Edits.{InObject}
use Rattle.bundle_tree_rebuild.specs.declared.rewrite.Whole.{Whole}
use Rattle.bundle_tree_rebuild.specs.Work.{Step, Work}
use Rattle.bundle_scope_names.proofs.Kept.{occurrences-append as occurrences_append, resolved_by, numbered}
use Rattle.bundle_scope_names.proofs.Told.{zip-length as zip-long}
use Rattle.bundle_scope_names.proofs.Numbering.{Numbering, IsNumbered}
use Rattle.bundle_tree_rebuild.specs.declared.rewrite.Whole.TheVariants as w
use Rattle.bundle_scope_names.specs.fit.Sorts.{AProperty, Many, slot, AModule, NodeSlot}
use Rattle.bundle_scope_names.specs.fit.Fits.{AreFit, no_more, over, a_node, IsFit, node}
use Rattle.bundle_scope_names.specs.fit.Seen.{each_slot}
use Rattle.bundle_scope_names.proofs.fit.Keys.{seen}
use Rattle.bundle_scope_names.proofs.fit.Rows.{is_own, own_at, steps}
use Rattle.bundle_merge_theory.specs.joined.Alike.{ArePlacesOneToOne, tops}
use Rattle.bundle_merge_theory.specs.walked.Names.{idents_among}
use Rattle.bundle_merge_theory.specs.walked.Rewrites.{AreOwn, KeepsSymbol, Cover}
use Rattle.bundle_merge_theory.proofs.walked.Rewriting.{Fits, fits}
pub use Rattle.bundle_merge_theory.proofs.walked.NameLemmas.{idents_from}
use Rattle.bundle_merge_theory.specs.joined.Joined.{AllOf}
use Rattle.bundle_merge_theory.specs.grouped.Renaming.{HasWays}
use Rattle.bundle_merge_theory.proofs.joined.Declarations.{AreNamed, all-at}
use Rattle.bundle_merge_theory.proofs.fit.Facts.{are_own, one_ways}
use Rattle.bundle_merge_theory.specs.made.Given.{BundleContexts}
use Rattle.bundle_merge_theory.specs.made.Steps.{IsStepTo, IsStepAnswered}
use Rattle.bundle_merge_theory.specs.made.Made.{IsAnsweredAs}
use Rattle.bundle_merge_theory.specs.own.Beside.{Pairs, Paired, Rise, SpotsBeside, AllMade}
use Rattle.bundle_merge_theory.proofs.own.Fit.{walk, named_seen}
use Rattle.bundle_merge_theory.proofs.function.Given.{fit_given}
use Rattle.bundle_merge_theory.proofs.own.Pairs.{rises-from, one-to-one}
use Rattle.bundle_merge_theory.proofs.own.Walking.{pairs, walked}
use Rattle.bundle_merge_theory.proofs.own.Ranged.{pairs-rise}
use Rattle.bundle_merge_theory.proofs.own.Like.{LooksLike, cleared-like, made-like}
use Rattle.bundle_merge_theory.proofs.answered.Held.{IsHeld, all_held}
use Rattle.bundle_merge_theory.proofs.answered.Inward.{BelongsInward, IsInwardDenoted, all-inward-by_symbol, symbol-inward}
use Rattle.bundle_merge_theory.proofs.own.Alongside.{declared_names as declared_by_symbols}

-- ---- rewritten

-- where properties stand by themselves, and where they stand in an item
abbrev pub alone_spot : Spot
alone_spot = record {
  place = 3;
  path =
      record { head = h.ObjectLit; begins = 2; field = 0 }
      ∷ record { head = h.ExprStmt; begins = 1; field = 0 }
      ∷ record { head = h.Module; begins = 0; field = 0 }
      ∷ [];
}

abbrev pub item_spot : ExportMetadata → Spot
item_spot notes = record {
  place = 7;
  path =
      record { head = h.ObjectLit; begins = 6; field = 0 }
      ∷ record { head = h.VarDeclarator; begins = 2; field = 1 }
      ∷ record { head = h.VarDecl Const notes; begins = 1; field = 1 }
      ∷ record { head = h.Module; begins = 0; field = 0 }
      ∷ [];
}

-- the names of properties by themselves
pub occurrences-alone : (properties : List Item) →
    occurrences (properties_tree properties) ≡ occurrences_from alone_spot properties
occurrences-alone properties =
    occurrences_append alone_spot properties (h.Close ∷ h.Close ∷ h.Close ∷ [])
    ∙ append-nil (occurrences_from alone_spot properties)

-- the two make the same of what stands in them
pub spots-beside : (R : ℕ → ℕ → Type 0) (notes : ExportMetadata) →
    SpotsBeside R alone_spot (item_spot notes)
spots-beside R notes field = record {
  block = refl;
  default = refl;
  loop = refl;
  declarator = refl;
  way = λ w there. absurd (none-some w there);
  scopes = (tops, tt);
}

-- a step that spells out where the symbol changes
keeps-symbol : (ident other : Ident) (whole : Whole) (step : Step) → IsStepTo ident whole step →
    KeepsSymbol step other
keeps-symbol ident other whole step it none =
    (bytes_eq-Decides step.ident.0 other.0).0
    (unturned (bytes_eq step.ident.0 other.0) (sym (it.spells step.ident.0 other.0) ∙ none))
  where
    unturned : (b : Bool) → not b ≡ false → b ≡ true
    unturned true e = refl
    unturned false e = absurd (true≢false e)

covers : (context : BundleContexts) (m : ℕ) (properties : List Item) (os : List Occurrence)
    (steps : List Step) (idents : List Ident) →
    AllZip (IsStepAnswered context m properties) os steps → length os ≡ length idents →
    AllZip KeepsSymbol steps idents
covers context m properties [] [] [] all same = tt
covers context m properties [] [] (ident ∷ idents) all same = absurd (omega (arith, same))
covers context m properties [] (step ∷ steps) idents all same = absurd all
covers context m properties (o ∷ os) [] idents all same = absurd all
covers context m properties (o ∷ os) (step ∷ steps) [] all same = absurd (omega (arith, same))
covers context m properties (o ∷ os) (step ∷ steps) (ident ∷ idents) all same = (
  keeps-symbol _ ident w.Alone step all.0,
  covers context m properties os steps idents all.1 (let e = same in omega (arith, e)),
)

module _ {p : Program} {hooks : Hooks} {context : BundleContexts} {m : ℕ} {properties made : List Item}
    (its : IsAnsweredAs p hooks context m properties made) where
  abbrev pub work : Work
  work = record { steps = its.steps; meta = None; clears_notes = true }

  pub given-fit : AreFit (slot 0 Many AProperty ∷ []) its.given
  given-fit = fit_given its.fit its.given its.is_given

  pub given-own : AreOwn its.given
  given-own = are_own given-fit refl

  -- what is made is fit
  pub made-fit : AreFit (slot 0 Many AProperty ∷ []) made
  made-fit =
      let it =
      walk its.by given-fit [] (sym (append-nil its.given)) false refl (λ is. absurd
      (false≢true is))
      refl in
      subst (AreFit (slot 0 Many AProperty ∷ [])) (append-nil made) (it.again [] it.fits)

  -- the names of what was answered look as those of what was handed in
  pub given-like : AllZip LooksLike (occurrences (properties_tree properties))
      (occurrences_from alone_spot its.given)
  given-like =
      subst (λ os. AllZip LooksLike os (occurrences_from alone_spot its.given))
      (sym (occurrences-alone properties))
      (subst
      (λ items. AllZip LooksLike (occurrences_from alone_spot items)
      (occurrences_from alone_spot its.given))
      its.is_given (cleared-like alone_spot its.given))

  pub cover : Cover its.steps its.given
  cover =
      let same =
      zip-long LooksLike (occurrences (properties_tree properties))
      (occurrences_from alone_spot its.given) given-like in
      let names = ap length (sym (idents_from alone_spot its.given)) in
      let long = length-map (occurrences_from alone_spot its.given) ident_of in
      covers context m properties (occurrences (properties_tree properties)) its.steps
      (idents_among its.given) its.each (omega (arith, same, names, long))

  pub rewrites : Fits InObject work its.given made its.rest []
  rewrites = fits its.by refl given-own its.steps [] (sym (append-nil its.steps)) cover

  -- where its nodes go
  abbrev pub goes : Pairs
  goes = pairs rewrites.by 3 7

  pub rise : Rise 3 7 goes
  rise = pairs-rise rewrites.by 3 7

  pub one : ArePlacesOneToOne (Paired goes)
  one = one-to-one 3 7 goes rise

  pub from-seven : (a b : ℕ) → Paired goes a b → 7 ≤ b
  from-seven a b there = (rises-from 3 7 goes rise a b there).1

  -- its names are made one by one
  pub made-names : AllMade (Paired goes) None (occurrences (properties_tree properties)) its.steps
      (occurrences_from (item_spot no_notes) made)
  made-names =
      let it =
      walked rewrites.by alone_spot (item_spot no_notes) (Paired goes)
      (spots-beside (Paired goes) no_notes)
      (λ field. refl) (λ a b there. there) in
      let steps : it.steps ≡ its.steps =
      sym (append-nil it.steps) ∙ ap (λ l. it.steps ++ l) (sym rewrites.left) ∙ sym it.are in
      subst
      (λ steps. AllMade (Paired goes) None (occurrences (properties_tree properties)) steps
      (occurrences_from (item_spot no_notes) made))
      steps (made-like (Paired goes) None it.all given-like)

-- ---- numbered

-- No default export stands in an expression.

pub named-fit : {list : List NodeSlot} {items : List Item} → AreFit list items →
    each_slot (λ number sort. is_own sort) list ≡ true → (rest : List Item) → AreNamed rest →
    AreNamed (items ++ rest)
named-fit {items = items} fit ok rest named =
    named_seen start items rest (seen own_at steps fit start ok) named

-- it is identifiers that declare, by symbol
pub declared-symbols : (s : Spot) (xs : List Item) → AreNamed xs →
    declared_from BySymbol Es s xs ≡ declared_by_symbols (occurrences_from s xs)
declared-symbols s [] named = refl
declared-symbols s (x ∷ xs) named =
    ap (λ b. cons_option
    (cond b (Some (nameless_default Es s.place))
    (option_and_then (declaration_of BySymbol Es) (occurrence_of s x)))
    (declared_from BySymbol Es (past s x) xs)) named.0
    ∙ ap (cons_option (option_and_then (declaration_of BySymbol Es) (occurrence_of s x)))
    (declared-symbols (past s x) xs named.1)
    ∙ by_occurrence (occurrence_of s x) (occurrences_from (past s x) xs)
  where
    by_occurrence : (o : Option Occurrence) (os : List Occurrence) →
        cons_option (option_and_then (declaration_of BySymbol Es) o) (declared_by_symbols os)
        ≡ declared_by_symbols (cons_option o os)
    by_occurrence None os = refl
    by_occurrence (Some o) os = refl

-- What was answered.
module _ (properties : List Item) (fit : AreFit (slot 0 Many AProperty ∷ []) properties) where
  abbrev tree : List Item
  tree = properties_tree properties

  pub tree-named : AreNamed tree
  tree-named = (
    refl,
    (
      refl,
      (
        refl,
        named-fit fit refl (h.Close ∷ h.Close ∷ h.Close ∷ []) (refl, (refl, (refl, tt))),
      ),
    ),
  )

  pub tree-fit : IsFit AModule 0 tree
  tree-fit =
      subst (IsFit AModule 0)
      (ap (λ l. h.Open 0 h.Module ∷ h.Open 0 h.ExprStmt ∷ h.Open 0 h.ObjectLit ∷ l)
      (simp append_assoc))
      (node {inside = h.Open 0 h.ExprStmt ∷ ((h.Open 0 h.ObjectLit ∷ (properties ++ h.Close ∷ []))
      ++ h.Close ∷ [])} refl
      (a_node {inside = h.Open 0 h.ObjectLit ∷ (properties ++ h.Close ∷ [])} refl
      (a_node {inside = properties} refl fit no_more) (over refl no_more)))

  pub tree-ways : HasWays tree
  tree-ways = one_ways tree-fit refl

  pub tree-held : AllOf IsHeld (occurrences tree)
  tree-held = subst (AllOf IsHeld) (sym (occurrences-alone properties))
      (all_held fit alone_spot refl)

  abbrev pub its_declared : List Declared
  its_declared = declared BySymbol Es tree

  tree-inward : AllOf BelongsInward its_declared
  tree-inward =
      subst (AllOf BelongsInward) (sym (declared-symbols start tree tree-named))
      (all-inward-by_symbol (occurrences tree) tree-held)

  -- each name denotes a binding inside, or a global
  pub tree-denotes : (i : ℕ) (o : Occurrence) → slice_get (occurrences tree) i ≡ Some o →
      IsInwardDenoted (denoted_of BySymbol Es its_declared o)
  tree-denotes i o at =
      symbol-inward its_declared tree-inward o (all-at IsHeld (occurrences tree) i o tree-held at)

  pub denotation-inward : (i : ℕ) (d : Denoted) → slice_get (denotations BySymbol Es tree) i
      ≡ Some d →
      IsInwardDenoted d
  denotation-inward i d at =
      by_listed (slice_get (occurrences tree) i) refl
      (sym (slice_get-map (denoted_of BySymbol Es its_declared) (occurrences tree) i) ∙ at)
    where
      by_listed : (o : Option Occurrence) → slice_get (occurrences tree) i ≡ o →
          option_map (denoted_of BySymbol Es its_declared) o ≡ Some d → IsInwardDenoted d
      by_listed None there is = absurd (none-some d is)
      by_listed (Some o) there is =
          subst IsInwardDenoted (same_Some (denoted_of BySymbol Es its_declared o) d is)
          (tree-denotes i o there)

  -- numbers that tell its bindings apart, none of them that of globals
  module _ (f : Numbering)
      (own : (i : ℕ) (kind : ScopeKind) (begins : ℕ) (name : Name) →
      slice_get (denotations BySymbol Es tree) i ≡ Some (Bound (Inner kind begins) name) →
      f (begins + 2) name.sym ≢ 1)
      (apart : (i j : ℕ) (kind other : ScopeKind) (a b : ℕ) (name its : Name) →
      slice_get (denotations BySymbol Es tree) i ≡ Some (Bound (Inner kind a) name) →
      slice_get (denotations BySymbol Es tree) j ≡ Some (Bound (Inner other b) its) →
      name.sym ≡ its.sym → f (a + 2) name.sym ≡ f (b + 2) its.sym → a ≡ b) where
    own-number : (i : ℕ) (s : Scope) (name : Name) →
        slice_get (denotations BySymbol Es tree) i ≡ Some (Bound s name) →
        f (scope_order s) name.sym ≢ 1
    own-number i s name at = by_scope s (denotation-inward i (Bound s name) at) at
      where
        by_scope : (s : Scope) → IsInwardDenoted (Bound s name) →
            slice_get (denotations BySymbol Es tree) i ≡ Some (Bound s name) →
            f (scope_order s) name.sym ≢ 1
        by_scope Wrapper it there = elim it [ ]
        by_scope Top it there = elim it [ ]
        by_scope (Inner kind begins) it there = own i kind begins name there

    apart-number : (i j : ℕ) (s t : Scope) (name its : Name) →
        slice_get (denotations BySymbol Es tree) i ≡ Some (Bound s name) →
        slice_get (denotations BySymbol Es tree) j ≡ Some (Bound t its) → name.sym ≡ its.sym →
        f (scope_order s) name.sym ≡ f (scope_order t) its.sym →
        scope_order s ≡ scope_order t
    apart-number i j s t name its at there same numbers_same =
        by_scopes s t (denotation-inward i (Bound s name) at)
        (denotation-inward j (Bound t its) there) at there numbers_same
      where
        by_scopes : (s t : Scope) → IsInwardDenoted (Bound s name) → IsInwardDenoted (Bound t its) →
            slice_get (denotations BySymbol Es tree) i ≡ Some (Bound s name) →
            slice_get (denotations BySymbol Es tree) j ≡ Some (Bound t its) →
            f (scope_order s) name.sym ≡ f (scope_order t) its.sym →
            scope_order s ≡ scope_order t
        by_scopes Wrapper t one two at there e = elim one [ ]
        by_scopes Top t one two at there e = elim one [ ]
        by_scopes (Inner kind a) Wrapper one two at there e = elim two [ ]
        by_scopes (Inner kind a) Top one two at there e = elim two [ ]
        by_scopes (Inner kind a) (Inner other b) one two at there e =
            ap (λ n. n + 2) (apart i j kind other a b name its at there same e)

    pub tree-numbered : IsNumbered f Es tree (resolved_by f Es tree)
    tree-numbered = numbered f Es tree own-number apart-number
