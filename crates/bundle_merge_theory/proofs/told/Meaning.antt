-- Where nothing is wrong with a program, each use of an imported name means a target.
use Rattle.std.proofs.Common.{◌≡◌, inl, inr, ℕ, ◌==◌, Bool, true, false, ◌&&◌, List, [], ◌∷◌, Option, Some, None, flat_map, bytes_eq, eqb-true, eq-eqb, refl, sym, ap, ap₂, ◌∙◌, subst, if◌then◌else◌, arith}
use Rattle.std.specs.Prelude.{Contains, is_some}
use Rattle.std.proofs.lemmas.Bool.{false≢true, true≢false, and_parts}
use Rattle.std.proofs.lemmas.Option.{none-some, same_Some}
use Rattle.std.proofs.lemmas.Slice.Eq.{bytes_eq-Decides}
use Rattle.std.proofs.lemmas.List.Elements.{Contains-append_left}
use Rattle.bundle_tree_names.specs.FileName.{Name, real}
use Rattle.bundle_syntax.specs.Item.{Item}
use Rattle.bundle_rules.specs.Places.{Occurrence, path_at}
use Rattle.bundle_rules.specs.Scopes.{Es}
use Rattle.bundle_rules.specs.Declarations.{BySymbol}
use Rattle.bundle_rules.specs.Denotes.{denoted_at}
use Rattle.bundle_rules.specs.Nodes.{Text}
use Rattle.bundle_rules.specs.Statements.{TopItem, top_items, default_name}
use Rattle.bundle_rules.specs.Entries.{Taken, Named, Whole, ImportEntry, imports_of_item, exports_of_item, imports_of, import_of}
use Rattle.bundle_rules.specs.Faults.{AskedName, asked_by_import, asked_by_export, asked_by_item, asked_names, NameFault, ambiguous, external_only, missing, Fault, MissingExport, AmbiguousExport, ExternalStarOnly}
use Rattle.bundle_rules.specs.Faults as f
use Rattle.bundle_rules.specs.Program.{Program, tree_of, is_external, resolves, IsReached}
use Rattle.bundle_rules.specs.Linking.{imports, IsModule, Target, Declared, Namespace, External, CommonJs, Takes, of_external, of_common_js, of_module, Origin, Gives, Linked, StandsFor, imported, taken_whole}
use Rattle.bundle_tree_places.specs.Stated.{is_in_statement}
use Rattle.bundle_link_index.proofs.AskedLemmas.{import_asks, flat_back as flat-back, found as found-there}
use Rattle.bundle_link_tables.specs.Used.{is_bound_at_top, is_use, words_around}
use Rattle.bundle_link_targets.specs.Meant.{EndsReads, ReadsOn, done, on}
use Rattle.bundle_link_targets.proofs.CalledLemmas.{flat-on}
use Rattle.bundle_link_targets.proofs.ListLemmas.{first-there}
use Rattle.bundle_link_index.proofs.ProgramLemmas.{got as there-place}
use Rattle.bundle_merge_theory.specs.made.Alone.{AreTreesSound}
use Rattle.bundle_merge_theory.specs.made.Steps.{IsTargetUsed}
use Rattle.bundle_link_targets.proofs.MeantLemmas.{is-some as some_there}

-- ---- what is not otherwise is the same
abbrev NotOther : {A : Type 0} → A → A → Type 0
NotOther a b = (a ≡ b → ⊥) → ⊥

same_number : (a b : ℕ) → NotOther a b → a ≡ b
same_number a b other = by (a == b) refl
  where
    by : (t : Bool) → (a == b) ≡ t → a ≡ b
    by true is = eqb-true a b is
    by false is = absurd (other (λ e. false≢true (sym is ∙ eq-eqb a b e)))

same_text : (a b : Text) → NotOther a b → a ≡ b
same_text a b other = by (bytes_eq a b) refl
  where
    by : (t : Bool) → bytes_eq a b ≡ t → a ≡ b
    by true is = (bytes_eq-Decides a b).0 is
    by false is = absurd (other (λ e. false≢true (sym is ∙ (bytes_eq-Decides a b).1 e)))

same_taken : (a b : Taken) → NotOther a b → a ≡ b
same_taken (Named x) (Named y) other = ap Named
    (same_text x y (λ not. other (λ e. not (let same : x ≡ y = cc in same))))
same_taken Whole Whole other = refl
same_taken (Named x) Whole other = absurd (other (λ e. cc))
same_taken Whole (Named y) other = absurd (other (λ e. cc))

same_target : (a b : Target) → NotOther a b → a ≡ b
same_target (Declared m x) (Declared n y) other =
    ap₂ Declared (same_number m n (λ not. other (λ e. not (let same : m ≡ n = cc in same))))
    (same_text x y (λ not. other (λ e. not (let same : x ≡ y = cc in same))))
same_target (Namespace m) (Namespace n) other =
    ap Namespace (same_number m n (λ not. other (λ e. not (let same : m ≡ n = cc in same))))
same_target (External s x) (External r y) other =
    ap₂ External (same_text s r (λ not. other (λ e. not (let same : s ≡ r = cc in same))))
    (same_taken x y (λ not. other (λ e. not (let same : x ≡ y = cc in same))))
same_target (CommonJs m c x) (CommonJs n d y) other =
    ap₂ (λ k z. CommonJs k c z) (same_number m n
    (λ not. other (λ e. not (let same : m ≡ n = cc in same))))
    (same_taken x y (λ not. other (λ e. not (let same : x ≡ y = cc in same))))
    ∙ ap (λ k. CommonJs n k y) (same_number c d
    (λ not. other (λ e. not (let same : c ≡ d = cc in same))))
same_target (Declared m x) (Namespace n) other = absurd (other (λ e. cc))
same_target (Declared m x) (External r y) other = absurd (other (λ e. cc))
same_target (Declared m x) (CommonJs n d y) other = absurd (other (λ e. cc))
same_target (Namespace m) (Declared n y) other = absurd (other (λ e. cc))
same_target (Namespace m) (External r y) other = absurd (other (λ e. cc))
same_target (Namespace m) (CommonJs n d y) other = absurd (other (λ e. cc))
same_target (External s x) (Declared n y) other = absurd (other (λ e. cc))
same_target (External s x) (Namespace n) other = absurd (other (λ e. cc))
same_target (External s x) (CommonJs n d y) other = absurd (other (λ e. cc))
same_target (CommonJs m c x) (Declared n y) other = absurd (other (λ e. cc))
same_target (CommonJs m c x) (Namespace n) other = absurd (other (λ e. cc))
same_target (CommonJs m c x) (External r y) other = absurd (other (λ e. cc))

same_origin : (a b : Origin) → NotOther a b → a ≡ b
same_origin a b other =
    ap₂ (λ (n : ℕ) (x : Text). record { which = n; local = x })
    (same_number a.which b.which (λ not. other
    (λ e. not (ap (λ (o : Origin). o.which) e))))
    (same_text a.local b.local (λ not. other (λ e. not (ap (λ (o : Origin). o.local) e))))

same_origins : (a b : Option Origin) → NotOther a b → a ≡ b
same_origins None None other = refl
same_origins (Some a) (Some b) other = ap Some
    (same_origin a b (λ not. other (λ e. not (same_Some a b e))))
same_origins None (Some b) other = absurd (other (λ e. none-some b e))
same_origins (Some a) None other = absurd (other (λ e. none-some a (sym e)))

-- ---- reads go on to an end
module _ (p : Program) where
  pub reads_end : (words : List Text) (t : Target) →
      ((n : ℕ) (u : Target) → ReadsOn p t words n u → ⊥) → ⊥
  reads_end [] t none = none 0 t (done (λ d x rest u is words linked. cc))
  reads_end (word ∷ words) t none = none 0 t (done (further (reads_end words)))
    where
      further : ((u : Target) → ((n : ℕ) (v : Target) → ReadsOn p u words n v → ⊥) → ⊥) →
          EndsReads p t (word ∷ words)
      further more d x rest u is same linked =
          let one : word ≡ x = cc in
          let others : words ≡ rest = cc in
          more u (λ n v reads.
          none (ℕ.suc n) v
          (subst (λ s. ReadsOn p s (word ∷ words) (ℕ.suc n) v) (sym is)
          (on (subst (λ y. Linked p d y u) (sym one) linked) reads)))

-- ---- names that are asked
-- the name y that is asked of a specifier
abbrev asked : Text → Text → AskedName
asked s y = record { specifier = s; name = y }

-- what is asked of a specifier where this is taken
abbrev asked_of : Text → Taken → List AskedName
asked_of s (Named x) = asked s x ∷ []
asked_of s Whole = []

asked_is : (entry : ImportEntry) (what : Taken) → entry.taken ≡ what →
    asked_by_import entry ≡ asked_of entry.specifier what
asked_is entry what is = by entry.local entry.specifier entry.taken what is
  where
    by : (x s : Text) (its what : Taken) → its ≡ what →
        asked_by_import (record { local = x; specifier = s; taken = its }) ≡ asked_of s what
    by x s (Named y) what is = ap (asked_of s) is
    by x s Whole what is = ap (asked_of s) is

asked_here : (entry : ImportEntry) (y : Text) → entry.taken ≡ Named y →
    Contains (asked_by_import entry) (asked entry.specifier y)
asked_here entry y is =
    subst (λ (l : List AskedName). Contains l (asked entry.specifier y))
    (sym (asked_is entry (Named y) is))
    (first-there (asked entry.specifier y) [])

asked_there : (tree : List Item) (entry : ImportEntry) (y : Text) →
    Contains (imports_of tree) entry → entry.taken ≡ Named y →
    Contains (asked_names tree) (asked entry.specifier y)
asked_there tree entry y there is =
    let back = flat-back (λ (top : TopItem). imports_of_item top.items) (top_items tree) entry
    there in
    flat-on (λ (top : TopItem). asked_by_item (imports_of tree) top.items) (top_items tree) back.0
    (asked entry.specifier y) back.1
    (Contains-append_left (flat_map asked_by_import (imports_of_item back.0.items))
    (flat_map asked_by_export (exports_of_item (imports_of tree) back.0.items))
    (asked entry.specifier y)
    (flat-on asked_by_import (imports_of_item back.0.items) entry (asked entry.specifier y) back.2
    (asked_here entry y is)))

module _ (p : Program) (list : List ℕ) (sound : AreTreesSound p list) (m : ℕ) (reached : IsReached p m)
  where
    file : Name
    file = real []

    -- no name that is asked of a module is at fault
    no_name_fault : (entry : ImportEntry) (y : Text) (d : ℕ) → Contains (imports p m) entry →
        entry.taken ≡ Named y →
        IsModule p m entry.specifier d → (fault : Fault) → NameFault p d y file fault → ⊥
    no_name_fault entry y d there is its fault wrong =
        let at = there-place (asked_names (tree_of p m)) (asked entry.specifier y)
        (asked_there (tree_of p m) entry y there is) in
        sound.checked m 5 at.0 file fault (λ e. let five : 5 ≡ 2 = e in omega (arith, five)) reached
        (f.name (asked entry.specifier y) at.1 its wrong)

    linked_there : (entry : ImportEntry) (y : Text) (d : ℕ) → Contains (imports p m) entry →
        entry.taken ≡ Named y →
        IsModule p m entry.specifier d → ((t : Target) → Linked p d y t → ⊥) → ⊥
    linked_there entry y d there is its none = by (bytes_eq y default_name) refl
      where
        given : (t : Target) (origin : Option Origin) → Gives p d y t origin → ⊥
        given t origin gives = none t (record {
          origin = origin;
          given = gives;
          only = λ other its_origin also. (
            same_target other t (λ not. no_name_fault entry y d there is its (AmbiguousExport file y)
                (ambiguous (record {
                  first = other;
                  second = t;
                  first_origin = its_origin;
                  second_origin = origin;
                  gives_first = also;
                  gives_second = gives;
                  differ = inl not;
                }))),
            same_origins its_origin origin (λ not. no_name_fault entry y d there is its
                (AmbiguousExport file y) (ambiguous (record {
                  first = other;
                  second = t;
                  first_origin = its_origin;
                  second_origin = origin;
                  gives_first = also;
                  gives_second = gives;
                  differ = inr not;
                }))),
          );
        })

        by : (b : Bool) → bytes_eq y default_name ≡ b → ⊥
        by true same = no_name_fault entry y d there is its (MissingExport file y)
            (missing given (inl ((bytes_eq-Decides y default_name).0 same)))
        by false other =
            no_name_fault entry y d there is its (MissingExport file y)
            (missing given (inr (λ stars. no_name_fault entry y d there is its
            (ExternalStarOnly file y)
            (external_only given (λ e. true≢false
            (sym ((bytes_eq-Decides y default_name).1 e) ∙ other)) stars))))

    resolves_to : (s : Text) (d : ℕ) → is_external p s ≡ false → p.leads m s ≡ Some d →
        resolves p m s ≡ Some d
    resolves_to s d out leads = ap (λ b. if b then None else p.leads m s) out ∙ leads

    -- an import stands for a target
    pub stands_there : (x : Text) (entry : ImportEntry) → import_of (imports p m) x ≡ Some entry →
        ((t : Target) → StandsFor p m x t → ⊥) → ⊥
    stands_there x entry bound none = by (is_external p entry.specifier) refl
      where
        there : Contains (imports p m) entry
        there = found-there (λ (e : ImportEntry). bytes_eq e.local x) (imports p m) entry bound

        takes : {t : Target} → Takes p m entry.specifier entry.taken t → ⊥
        takes {t = t} its = none t (taken_whole entry bound its)

        es : (d : ℕ) → IsModule p m entry.specifier d → (what : Taken) → entry.taken ≡ what → ⊥
        es d its Whole is =
            takes (subst (λ w. Takes p m entry.specifier w (Namespace d)) (sym is) (of_module its))
        es d its (Named y) is =
            linked_there entry y d there is its (λ t linked. none t
            (imported entry bound is its linked))

        by : (b : Bool) → is_external p entry.specifier ≡ b → ⊥
        by true out = takes (of_external out)
        by false inside =
            let leads = sound.resolved m entry.specifier reached
            (import_asks (tree_of p m) entry there) inside in
            let resolved = resolves_to entry.specifier leads.0 inside leads.1 in
            es leads.0 (record {
              resolved = resolved;
              es =
                  λ common. takes (of_common_js resolved common);
            }) entry.taken refl

    -- a use means a target
    pub use_means : (o : Occurrence) → is_use (tree_of p m) o ≡ true →
        ((n : ℕ) (t : Target) → IsTargetUsed p m o n t → ⊥) → ⊥
    use_means o used none =
        let parts = and_parts (is_bound_at_top (denoted_at BySymbol Es (tree_of p m) o.place))
        (is_some (import_of (imports_of (tree_of p m)) o.sym) && is_in_statement
        (path_at (tree_of p m) o.place)) used in
        let others = and_parts (is_some (import_of (imports_of (tree_of p m)) o.sym))
        (is_in_statement (path_at (tree_of p m) o.place)) parts.1 in
        let entry = some_there (import_of (imports_of (tree_of p m)) o.sym) others.0 in
        stands_there o.sym entry.0 entry.1
        (λ s stands.
        reads_end p (words_around (tree_of p m) o.place (path_at (tree_of p m) o.place)) s
        (λ n t reads. none n t (record {
          used = used;
          means =
              record { named = s; stands = stands; reads = reads };
        })))
