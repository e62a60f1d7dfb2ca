-- The names of a list, by its table, are steps to what they denote.
-- Each of some labels gets a name, one by one.
use Rattle.std.proofs.Common.{◌≡◌, ℕ, List, Option, Some, length, map, ap, sym, ◌∙◌, arith, ◌⊎◌, inl, inr, suc, [], ◌∷◌, ◌++◌, take, subst}
use Rattle.std.specs.Prelude.{option_map, slice_get}
use Rattle.std.proofs.lemmas.Option.{slice_get-map, none-some}
use Rattle.bundle_syntax.specs.Item.{Item}
use Rattle.bundle_rules.specs.Places.{Occurrence, occurrences}
use Rattle.bundle_rules.specs.Scopes.{ModuleKind}
use Rattle.bundle_rules.specs.Declarations.{BySymbol, declared}
use Rattle.bundle_rules.specs.Denotes.{denoted_of}
use Rattle.bundle_rules.specs.Program.{Program}
use Rattle.bundle_link_index.proofs.SearchLemmas.{get_still as push-old}
use Rattle.bundle_scope_denote.specs.declared.table.Denoted.{Denoted}
use Rattle.bundle_scope_denote.specs.declared.table.Denotations.{Denotations}
use Rattle.bundle_scope_denote.specs.Listed.{IsDenotationTable}
use Rattle.bundle_tree_places.proofs.ListLemmas.{take_at as take-next}
use Rattle.bundle_scope_names.proofs.TreeLemmas.{denotation-at}
use Rattle.bundle_scope_names.proofs.Numbering.{Numbering}
use Rattle.bundle_tree_rebuild.specs.declared.rewrite.Rewrite.{Rewrite}
use Rattle.bundle_tree_rebuild.specs.Work.{rewrite_step}
use Rattle.bundle_scope_names.proofs.Told.{zip-length as zip-long, zip-from as zip-build}
use Rattle.bundle_scope_names.proofs.Counting.{length-map as map-long}
use Rattle.bundle_tree_rebuild.specs.declared.rewrite.Whole.TheVariants as w
use Rattle.bundle_link_targets.proofs.ListLemmas.{map-some}
use Rattle.bundle_merge_theory.specs.made.Steps.{IsStepTo}
use Rattle.bundle_merge_theory.specs.made.Given.{Holder}
use Rattle.bundle_merge_names.specs.Numbers.{AreNumbersOf}
use Rattle.bundle_merge_names.specs.Own.{rewrite_told, own_told, binding_in, context_by}
use Rattle.bundle_merge_names.specs.Body.{AreOwnSteps, numbered_ident}
use Rattle.bundle_merge_names.proofs.Rising.{entry-symbol, entry-context}
use Rattle.bundle_merge_names.proofs.ScopeLemmas.{step-to, push-cases, push-last, take-long}
use Rattle.bundle_merge_names.specs.declared.names.Label.{Label}
use Rattle.bundle_merge_names.specs.declared.names.BundleNames.{BundleNames}
use Rattle.bundle_merge_names.specs.Added.{GivesNames, IsWhere}
use Rattle.bundle_merge_names.specs.Named.{holder_of}
use Rattle.bundle_merge_names.proofs.LabelLemmas.{adds-on, adds-none, adds-like}

-- ---- own
pub own-steps : (kind : ModuleKind) (items : List Item) (table : Denotations) (g : Numbering) (contexts : List (Option ℕ)) (rewrites : List Rewrite)
    → map rewrite_told rewrites ≡ map (own_told items table contexts) table.occurrences.items
    → IsDenotationTable BySymbol kind items table
    → AreNumbersOf kind items table g contexts
    → AreOwnSteps kind items g rewrites
own-steps kind items table g contexts rewrites same is numbers = zip-build (λ o rewrite. IsStepTo (numbered_ident kind items g o) w.Alone (rewrite_step rewrite)) (occurrences items) rewrites long each
  where
    long : length (occurrences items) ≡ length rewrites
    long =
        let one = zip-long _ table.occurrences.items (occurrences items) is.occurrences in
        let two = ap length same in
        let three = map-long rewrite_told rewrites in
        let four = map-long (own_told items table contexts) table.occurrences.items in
        omega (arith, one, two, three, four)

    each : (k : ℕ) (o : Occurrence) (rewrite : Rewrite) → slice_get (occurrences items) k ≡ Some o → slice_get rewrites k ≡ Some rewrite → IsStepTo (numbered_ident kind items g o) w.Alone (rewrite_step rewrite)
    each k o rewrite at there =
        let tells : option_map (own_told items table contexts) (slice_get table.occurrences.items k) ≡ Some (rewrite_told rewrite) = sym (slice_get-map (own_told items table contexts) table.occurrences.items k) ∙ sym (ap (λ l. slice_get l k) same) ∙ slice_get-map rewrite_told rewrites k ∙ ap (option_map rewrite_told) there in
        let back = map-some (own_told items table contexts) (slice_get table.occurrences.items k) (rewrite_told rewrite) tells in
        let entry : Denoted = back.0 in
        step-to rewrite (numbered_ident kind items g o) w.Alone
        (sym back.2
        ∙ ap (λ x. ((x, context_by contexts (binding_in table.bindings.items entry.binding)), w.Alone)) (entry-symbol kind items table is k entry back.1 o at)
        ∙ ap (λ c. ((o.sym, c), w.Alone)) (entry-context kind items table is k entry back.1 g contexts numbers (denoted_of BySymbol kind (declared BySymbol kind items) o) (denotation-at kind items k o at)))

-- ---- some

-- one of these gives it, by its number
pub record IsOfSome {A : Type 0} (Of : ℕ → A → Holder → Type 0) (xs : List A) (holder : Holder) : Type 0 where
  pub i : ℕ
  pub x : A
  pub there : slice_get xs i ≡ Some x
  pub is : Of i x holder

module _ (p : Program) (list : List ℕ) where
  -- the same labels, told otherwise of labels alone
  pub adds-labels : (These Those : Holder → Type 0) (a b : BundleNames)
      → ((label : Label) → These (holder_of label) → Those (holder_of label))
      → ((label : Label) → Those (holder_of label) → These (holder_of label))
      → GivesNames p list These a b → GivesNames p list Those a b
  adds-labels These Those a b to from adds = record {
    kept = adds.kept;
    there = λ other its. adds.there other (from other its);
    others = λ other ident at. elim (adds.others other ident at) [ inl was ↦ inl was | inr its ↦ inr (to other its.0, its.1) ];
    later = adds.later;
    held_so = adds.held_so;
    all_so = adds.all_so;
    locals = adds.locals;
    scopes = adds.scopes;
    answered = adds.answered;
  }

  -- one label, where that is so
  pub adds-where : (So : Type 0) (its : Holder) (a b : BundleNames) → So → GivesNames p list (λ holder. holder ≡ its) a b → GivesNames p list (IsWhere So its) a b
  adds-where So its a b so adds = adds-like p list (λ holder. holder ≡ its) (IsWhere So its) a b (λ holder is. record { so = so; is = is }) (λ holder found. found.is) adds

  -- none, where it is not
  pub adds-not : (So : Type 0) (its : Holder) (a : BundleNames) → (So → ⊥) → GivesNames p list (IsWhere So its) a a
  adds-not So its a not = adds-none p list (IsWhere So its) a (λ holder found. not found.so)

  module _ {A : Type 0} (Of : ℕ → A → Holder → Type 0) where
    -- none of them
    pub some-first : (xs : List A) (a : BundleNames) → xs ≡ [] → GivesNames p list (IsOfSome Of xs) a a
    some-first xs a none = adds-none p list (IsOfSome Of xs) a (λ holder its. none-some its.x (sym (ap (λ l. slice_get l its.i) none) ∙ its.there))

    -- one more
    pub some-next : (xs : List A) (i after : ℕ) (x : A) (a b c : BundleNames)
        → slice_get xs i ≡ Some x
        → after ≡ suc i
        → GivesNames p list (IsOfSome Of (take i xs)) a b
        → GivesNames p list (Of i x) b c
        → GivesNames p list (IsOfSome Of (take after xs)) a c
    some-next xs i after x a b c at next one two = subst (λ l. GivesNames p list (IsOfSome Of l) a c) (sym (ap (λ n. take n xs) next ∙ take-next xs i x at))
        (adds-on p list (IsOfSome Of (take i xs)) (Of i x) (IsOfSome Of (take i xs ++ x ∷ [])) a b c split first second one two)
      where
        split : (holder : Holder) → IsOfSome Of (take i xs ++ x ∷ []) holder → IsOfSome Of (take i xs) holder ⊎ Of i x holder
        split holder is = elim (push-cases (take i xs) x is.i is.x is.there) [
          | inl old ↦ inl (record { i = is.i; x = is.x; there = old; is = is.is })
          | inr last ↦ inr (subst (λ n. Of n x holder) (last.0 ∙ take-long xs i x at) (subst (λ y. Of is.i y holder) (sym last.1) is.is))
        ]

        first : (holder : Holder) → IsOfSome Of (take i xs) holder → IsOfSome Of (take i xs ++ x ∷ []) holder
        first holder is = record { i = is.i; x = is.x; there = push-old (take i xs) x is.i is.x is.there; is = is.is }

        second : (holder : Holder) → Of i x holder → IsOfSome Of (take i xs ++ x ∷ []) holder
        second holder is = record { i = i; x = x; there = push-last (take i xs) x i (sym (take-long xs i x at)); is = is }
