-- What the names of the item that stands for `import.meta` denote in it by itself, by what they
-- denote in what the hook answered.
use Rattle.std.proofs.Common.{◌≡◌, ◌≢◌, ◌<◌, ℕ, ◌+◌, false, List, [], ◌∷◌, ◌++◌, Option, None, Some, option_map, map, slice_get, append_assoc, append-nil, refl, ap, sym, ◌∙◌, subst, arith}
use Rattle.std.specs.List.{AllZip, cons_option}
use Rattle.bundle_syntax.specs.declared.piece.Role.TheVariants.{Binding}
use Rattle.bundle_syntax.specs.Item as h
use Rattle.bundle_syntax.specs.Item.{Item}
use Rattle.bundle_syntax.specs.declared.kind.VarDeclKind.TheVariants.{Const}
use Rattle.bundle_rules.specs.Places.{Occurrence, start, occurrences, occurrences_from}
use Rattle.bundle_rules.specs.Scopes.{Es, ScopeKind, Top, Inner}
use Rattle.bundle_rules.specs.Declarations.{BySymbol, ByContext, Name, Declared, declaration_of, declared}
use Rattle.bundle_rules.specs.Denotes.{Denoted, Bound, is_written_in, denoted_of, denotations}
use Rattle.bundle_rules.specs.Idents.{Ident}
use Rattle.bundle_rules.specs.Program.{Program}
use Rattle.bundle_rules.specs.Meaning.{Meta}
use Rattle.bundle_rules.specs.Bundle.{Hooks, properties_tree}
use Rattle.bundle_tree_places.specs.Edits.{node}
use Rattle.bundle_merge_injected.specs.Listed as l
use Rattle.bundle_scope_names.proofs.Numbering.{Numbering, lifted, lift_all, given}
use Rattle.bundle_scope_names.proofs.Kept.{resolved_by, occurrences-append as occurrences_append}
use Rattle.bundle_scope_names.proofs.TreeLemmas.{set_by, its_context, declaration-given, denotation-at, denoted-given}
use Rattle.bundle_merge_theory.specs.joined.Joined.{AllOf, own_declared}
use Rattle.bundle_merge_theory.specs.joined.Alike.{tops, DeclaredAlike, DenotedAlike}
use Rattle.bundle_merge_theory.proofs.joined.Declarations.{AreNamed, IsNamed as HasNames, declared_by_names, declared-item}
use Rattle.bundle_merge_theory.proofs.joined.Denotes.{names-identified}
use Rattle.bundle_merge_theory.proofs.joined.Groups.{written-alike}
use Rattle.bundle_merge_theory.specs.composed.Noted.{first_spot}
use Rattle.bundle_merge_theory.specs.made.Given.{HookAnswer, BundleContexts, ident_of_label}
use Rattle.bundle_merge_theory.proofs.added.Rows.{occurrences-item}
use Rattle.bundle_merge_theory.proofs.answered.Held.{IsHeld}
use Rattle.bundle_merge_theory.proofs.answered.Inward.{IsInwardDenoted, all-inward, top-unwritten, IsMadeOf, made-declared, made-denotes, constant_at}
use Rattle.bundle_merge_theory.proofs.own.Alongside.{declared_names as declared_by_symbols}
use Rattle.bundle_merge_theory.proofs.answered.Rewritten.{item_spot, tree-named, tree-held, tree-denotes, named-fit, declared-symbols, tree-numbered}
use Rattle.bundle_merge_theory.proofs.answered.Properties.{Answering}
use Rattle.bundle_merge_theory.proofs.composed.Among.{all-in as all-of_each}

-- Lists.

pub zip-all : {A B : Type 0} (P : A → Type 0) (R : A → B → Type 0) (S : A → B → Type 0) →
    ((x : A) (y : B) → P x → R x y → S x y) → (xs : List A) (ys : List B) → AllOf P xs →
    AllZip R xs ys → AllZip S xs ys
zip-all P R S both [] [] all zip = tt
zip-all P R S both [] (y ∷ ys) all zip = absurd zip
zip-all P R S both (x ∷ xs) [] all zip = absurd zip
zip-all P R S both (x ∷ xs) (y ∷ ys) all zip =
    (both x y all.0 zip.0, zip-all P R S both xs ys all.1 zip.1)

zip-map : {A B C : Type 0} (R : C → B → Type 0) (f : A → C) (xs : List A) (ys : List B) →
    AllZip (λ x y. R (f x) y) xs ys → AllZip R (map f xs) ys
zip-map R f [] [] zip = tt
zip-map R f [] (y ∷ ys) zip = absurd zip
zip-map R f (x ∷ xs) [] zip = absurd zip
zip-map R f (x ∷ xs) (y ∷ ys) zip = (zip.0, zip-map R f xs ys zip.1)

-- what is declared by symbol, with contexts
lift-names : (f : Numbering) (all : List Declared) (os : List Occurrence) →
    map (lifted f all) (declared_by_symbols os)
    ≡ declared_by_names (map (set_by (its_context f Es all)) os)
lift-names f all [] = refl
lift-names f all (o ∷ os) =
    joins (declaration_of BySymbol Es o) (declared_by_symbols os)
    ∙ ap (λ ds. cons_option (option_map (lifted f all) (declaration_of BySymbol Es o)) ds)
    (lift-names f all os)
    ∙ ap (λ d. cons_option d (declared_by_names (map (set_by (its_context f Es all)) os)))
    (sym (declaration-given f Es all o))
  where
    joins : (d : Option Declared) (ds : List Declared) →
        map (lifted f all) (cons_option d ds)
        ≡ cons_option (option_map (lifted f all) d) (map (lifted f all) ds)
    joins None ds = refl
    joins (Some d) ds = refl

module _ (list : List ℕ) {p : Program} {hooks : Hooks} {context : BundleContexts}
    {answers : ℕ → Option HookAnswer} {m : ℕ} {properties within : List Item}
    (facts : Answering p hooks context answers m properties within) where
  abbrev pub os : List Occurrence
  os = occurrences (properties_tree properties)

  abbrev pub us : List Occurrence
  us = occurrences_from (item_spot facts.notes) within

  -- what is declared in what was answered
  abbrev pub ds : List Declared
  ds = declared BySymbol Es (properties_tree properties)

  abbrev pub f : Numbering
  f = facts.numbers

  -- what a name denotes there by its symbol
  abbrev pub denoted_there : Occurrence → Denoted
  denoted_there o = denoted_of BySymbol Es ds o

  abbrev pub with_context : Occurrence → Occurrence
  with_context o = set_by (its_context f Es ds) o

  abbrev pub R : ℕ → ℕ → Type 0
  R = facts.its.goes

  all-made : AllZip (λ o u. IsMadeOf R (with_context o) u) os us
  all-made = facts.its.names

  -- what is declared in the object
  abbrev pub es : List Declared
  es = declared_by_names us

  -- no binding has the context of globals, and those of one symbol have their own
  own : (i : ℕ) (kind : ScopeKind) (begins : ℕ) (name : Name) →
      slice_get (denotations BySymbol Es (properties_tree properties)) i
      ≡ Some (Bound (Inner kind begins) name) →
      f (begins + 2) name.sym ≢ 1
  own i kind begins name at = λ e.
      let it = facts.holds i kind begins name at in
      let above : 1 < context (facts.holder begins name.sym) =
      facts.apart.own (facts.holder begins name.sym) it.is in
      let is : context (facts.holder begins name.sym) ≡ 1 = sym it.ctxt ∙ e in
      absurd (omega (arith, above, is))

  apart : (i j : ℕ) (kind other : ScopeKind) (a b : ℕ) (name its : Name) →
      slice_get (denotations BySymbol Es (properties_tree properties)) i
      ≡ Some (Bound (Inner kind a) name) →
      slice_get (denotations BySymbol Es (properties_tree properties)) j
      ≡ Some (Bound (Inner other b) its) →
      name.sym ≡ its.sym → f (a + 2) name.sym ≡ f (b + 2) its.sym → a ≡ b
  apart i j kind other a b name its at there same numbers =
      let one = facts.holds i kind a name at in
      let two = facts.holds j other b its there in
      facts.differ i j kind other a b name its at there same
      (facts.apart.apart (facts.holder a name.sym) (facts.holder b its.sym) one.is two.is
      (sym one.ctxt ∙ numbers ∙ two.ctxt))

  pub lifted-are : lift_all f ds ≡ declared_by_names (map with_context os)
  lifted-are =
      ap (map (lifted f ds)) (declared-symbols start (properties_tree properties)
      (tree-named properties facts.its.fit))
      ∙ lift-names f ds os

  pub alike : AllZip (DeclaredAlike R) (lift_all f ds) es
  alike =
      subst (λ all. AllZip (DeclaredAlike R) all es) (sym lifted-are)
      (made-declared R (map with_context os) us (zip-map (IsMadeOf R) with_context os us all-made))

  -- a name of the object beside that of which it is made
  pub record IsBeside (o u : Occurrence) : Type 0 where
    pub made : IsMadeOf R (with_context o) u
    pub inward : IsInwardDenoted (denoted_there o)
    pub at : (i : ℕ) × (slice_get os i ≡ Some o)
    pub listed : (i : ℕ) × (slice_get (denotations BySymbol Es (properties_tree properties)) i
        ≡ Some (denoted_there o))
    pub denotes : DenotedAlike R (given f ds (denoted_there o)) (denoted_of ByContext Es es u)

  pub all-beside : AllZip IsBeside os us
  all-beside =
      zip-all
      (λ o. (i : ℕ) × (slice_get os i ≡ Some o))
      (λ o u. IsMadeOf R (with_context o) u) IsBeside
      (λ o u at made. record {
        made = made;
        inward = tree-denotes properties facts.its.fit at.0 o at.1;
        at = at;
        listed = (at.0, denotation-at Es (properties_tree properties) at.0 o at.1);
        denotes =
            subst (λ d. DenotedAlike R d (denoted_of ByContext Es es u))
            (denoted-given f Es (properties_tree properties)
            (resolved_by f Es (properties_tree properties))
            (tree-numbered properties facts.its.fit f own apart) at.0 o at.1)
            (made-denotes R facts.its.one (lift_all f ds) es alike
            (with_context o) u made);
      })
      os us (all-of_each (λ o. (i : ℕ) × (slice_get os i ≡ Some o)) os (λ i o at. (i, at))) all-made

  -- The item.

  abbrev pub meta_name : Ident
  meta_name = ident_of_label p list context (Meta m)

  abbrev pub item : List Item
  item = l.constant facts.notes meta_name (node 1 h.ObjectLit within)

  abbrev pub first : Occurrence
  first = record {
    place = 4;
    sym = meta_name.0;
    ctxt = meta_name.1;
    role = Binding;
    path =
        record { head = h.BindingIdent; begins = 3; field = 0 }
        ∷ record { head = h.VarDeclarator; begins = 2; field = 0 }
        ∷ record { head = h.VarDecl Const facts.notes; begins = 1; field = 1 }
        ∷ record { head = h.Module; begins = 0; field = 0 }
        ∷ [];
  }

  behind : ((within ++ h.Close ∷ []) ++ h.Close ∷ []) ++ h.Close ∷ []
      ≡ within ++ h.Close ∷ h.Close ∷ h.Close ∷ []
  behind = simp append_assoc

  pub item-occurrences : occurrences_from first_spot item ≡ first ∷ us
  item-occurrences =
      ap (λ its. first ∷ its)
      (ap (occurrences_from (item_spot facts.notes)) behind
      ∙ occurrences_append (item_spot facts.notes) within (h.Close ∷ h.Close ∷ h.Close ∷ [])
      ∙ append-nil us)

  pub item-named : HasNames item
  item-named = (
    refl,
    (
      refl,
      (
        refl,
        (
          refl,
          (
            refl,
            (
              refl,
              subst AreNamed (sym (ap (λ items. items ++ h.Close ∷ []) behind ∙ append_assoc within
                  (h.Close ∷ h.Close ∷ h.Close ∷ []) (h.Close ∷ [])))
                  (named-fit facts.its.made_fit refl
                  (h.Close ∷ h.Close ∷ h.Close ∷ h.Close ∷ []) (refl, (refl, (refl, (refl, tt))))),
            ),
          ),
        ),
      ),
    ),
  )

  pub item-declared : own_declared item ≡ constant_at 4 meta_name ∷ es
  item-declared =
      declared-item item item-named
      ∙ ap declared_by_names (occurrences-item item ∙ item-occurrences)

  -- nothing in it belongs to the top
  pub object-unwritten : (name : Name) → is_written_in es Top name ≡ false
  object-unwritten name =
      written-alike R facts.its.one (lift_all f ds) es alike tops name
      ∙ ap (λ all. is_written_in all Top name) lifted-are
      ∙ top-unwritten (declared_by_names (map with_context os))
      (all-inward (map with_context os) (held-again os (tree-held properties facts.its.fit)))
      (names-identified (map with_context os)) name
    where
      held-again : (xs : List Occurrence) → AllOf IsHeld xs → AllOf IsHeld (map with_context xs)
      held-again [] all = tt
      held-again (x ∷ xs) all = (all.0, held-again xs all.1)
