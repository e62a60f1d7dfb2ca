-- The linked names of modules are filled in.
-- What the uses of a table mean is added, one by one.
use Rattle.std.proofs.Common.{◌≡◌, ◌⊎◌, inl, inr, ℕ, ◌+◌, ◌<◌, ◌≤◌, List, [], ◌∷◌, length, Option, Some, None, Contains, sym, ap, ◌∙◌, arith, ◌++◌, take, get_or, map, subst}
use Rattle.std.specs.Prelude.{slice_get, bytes_eq, option_map}
use Rattle.std.specs.Global.{Global}
use Rattle.std.specs.Borrow.{Bor}
use Rattle.std.specs.declared.vec.Vec.{Vec}
use Rattle.std.proofs.lemmas.Bool.{cases_lt}
use Rattle.std.proofs.lemmas.Option.{same_Some, slice_get_within}
use Rattle.std.proofs.lemmas.List.Elements.{Contains-get_or}
use Rattle.indexmap.specs.IndexMap.{IndexMap, get_by}
use Rattle.bundle_rules.specs.Nodes.{Text}
use Rattle.bundle_rules.specs.Program.{Program, tree_of}
use Rattle.bundle_rules.specs.Linking.{exports, Gives, declaration, namespace_import, taken, given_on, starred, Origin, Target, Namespace, imports}
use Rattle.bundle_link_index.specs.Given.{IsIn, AddsMissing}
use Rattle.bundle_link_index.proofs.SearchLemmas.{each_place}
use Rattle.bundle_rules.specs.Entries.{ImportEntry, import_of}
use Rattle.bundle_link_tables.specs.Exported.{Finds}
use Rattle.bundle_link_tables.specs.TablesOf.{import_entry_of}
use Rattle.bundle_link_tables.specs.declared.table.ImportRef.{ImportRef}
use Rattle.bundle_link_tables.specs.declared.table.MemberRead.{MemberRead}
use Rattle.bundle_link_tables.specs.declared.table.Use.{Use}
use Rattle.bundle_link_tables.specs.declared.table.Tables.{Tables}
use Rattle.bundle_link_tables.specs.Used.{UseEntry, name_read, use_entry_of}
use Rattle.bundle_link_index.specs.declared.kinds.Kinds.{Kinds}
use Rattle.bundle_link_index.specs.declared.target.TargetRef.{TargetRef as Found}
use Rattle.bundle_link_index.specs.Programs.{AreModulesKnown, IsTableOf}
use Rattle.bundle_link_index.proofs.AskedLemmas.{none_there as none-there}
use Rattle.bundle_link_index.proofs.ProgramLemmas.{map_on as map-on}
use Rattle.bundle_link_targets.specs.Found.{HoldsMeant, IsMeaning, MeansSome, reads_by}
use Rattle.bundle_link_targets.specs.Handed.{AreLinkedIn, HoldsLinked, AreMeanings}
use Rattle.bundle_link_targets.specs.Lists.{list_in}
use Rattle.bundle_link_targets.specs.declared.target.Meaning.{Meaning}
use Rattle.bundle_link_targets.specs.Meant.{AnyMeans, UseMeans}
use Rattle.bundle_link_targets.proofs.CallPlaceLemmas.{zip-push}
use Rattle.bundle_link_targets.proofs.MeantLemmas.{use-at}
use Rattle.bundle_link_targets.proofs.TakenLemmas.{Adds-step, Adds-same, map-more}
use Rattle.bundle_link_targets.proofs.ListLemmas.{found-means, means-found, words-by}

-- ---- a module that is not there links no name
pub nothing-there : {A : Type 0} (xs : List A) (x : A) → xs ≡ [] → Contains xs x → ⊥
nothing-there [] x e there = none-there x there
nothing-there (y ∷ ys) x e there = cc

gives-nothing : {p : Program} {m : ℕ} {x : Text} {t : Target} {origin : Option Origin} → Gives p m x t origin → exports p m ≡ [] → ⊥
gives-nothing (declaration stands none) e = nothing-there _ _ e stands
gives-nothing (namespace_import entry stands bound takes) e = nothing-there _ _ e stands
gives-nothing (taken stands takes) e = nothing-there _ _ e stands
gives-nothing (given_on stands leads more) e = nothing-there _ _ e stands
gives-nothing (starred none other star leads more) e = nothing-there _ _ e star

pub linked-none : (p : Program) (kinds : Kinds) → AreModulesKnown p kinds → (m : ℕ) → slice_get kinds.modules.now m ≡ None → AreLinkedIn p m []
linked-none p kinds are m none = record {
  ascending = tt;
  all = λ x t. (λ there. none-there (x, t) there, λ linked. absurd (gives-nothing linked.given (are.others m none)));
}

-- ---- those of the targets that are met
-- the namespaces among the first targets
abbrev pub MetBefore : List Target → ℕ → ℕ → Type 0
MetBefore targets done d = (i : ℕ) × (i < done) × (slice_get targets i ≡ Some (Namespace d))

pub met-step : (met new : List Target) (done : ℕ) (t : Target) → slice_get met done ≡ Some t → ((i : ℕ) (at : Target) → slice_get met i ≡ Some at → slice_get new i ≡ Some at) → (d : ℕ) → MetBefore new (done + 1) d → MetBefore met done d ⊎ (t ≡ Namespace d)
met-step met new done t here stays d its = elim (cases_lt its.0 done) [
  | inl l ↦
      let at = each_place met its.0 (omega (arith, l, slice_get_within met done t here)) in
      let same : at.0 ≡ Namespace d = same_Some at.0 (Namespace d) (sym (stays its.0 at.0 at.1) ∙ its.2) in
      inl (its.0, l, at.1 ∙ ap (λ x. Some x) same)
  | inr ge ↦
      let is : its.0 ≡ done = omega (arith, its.1, ge) in
      inr (same_Some t (Namespace d) (sym (stays done t here) ∙ sym (ap (slice_get new) is) ∙ its.2))
]

pub met-end : (targets : List Target) (done : ℕ) → length targets ≤ done → (d : ℕ) → IsIn targets (Namespace d) → MetBefore targets done d
met-end targets done over d there = (there.0, omega (arith, over, slice_get_within targets there.0 (Namespace d) there.1), there.1)

-- ---- of all that are meant
pub holds-linked : (p : Program) (targets : List Target) (lists : List (Vec (Bor Text × Found) Global)) → HoldsMeant p targets → ((d : ℕ) → (d ≡ p.entry) ⊎ IsIn targets (Namespace d) → AreLinkedIn p d (list_in lists d)) → HoldsLinked p lists
holds-linked p targets lists holds found d (inl entry) = found d (inl entry)
holds-linked p targets lists holds found d (inr meant) = found d (inr (holds.all (Namespace d) tt meant))

pub one-namespace : (t : Target) (m : ℕ) → t ≡ Namespace m → (d : ℕ) → t ≡ Namespace d → d ≡ m
one-namespace t m same d is = let both : Namespace d ≡ Namespace m = sym is ∙ same in let one : d ≡ m = cc in one

-- ---- use
module _ (p : Program) (m : ℕ) (tables : Tables) (table : IsTableOf p m tables) where
  abbrev entry_of : Use → UseEntry
  entry_of = use_entry_of tables.reads.items

  -- the uses as they are gone over
  module _ (us : List Use) (same : us ≡ tables.uses.items) (i : ℕ) (d : Use) (h : i < length us) where
    abbrev its : Use
    its = get_or us i d

    bound : (entry : ImportEntry) × (import_of (imports p m) its.local.now ≡ Some entry)
    bound = (use-at (tree_of p m) (entry_of its) (subst (λ (l : List UseEntry). Contains l (entry_of its)) (ap (map entry_of) same ∙ table.uses) (map-on entry_of us its (Contains-get_or us i d h)))).1

    pub use-found : {S : Type 0} (locals : IndexMap (Bor Text) ImportRef S) (import : Option ImportRef) (source reads : List MemberRead) (meaning : Option Meaning)
        → Finds locals (map import_entry_of tables.imports.items)
        → import ≡ get_by (λ k. bytes_eq its.local.now k.now) locals
        → source ≡ tables.reads.items
        → reads ≡ reads_by source its
        → ((x : Text) (entry : ImportEntry) → option_map import_entry_of import ≡ Some entry → import_of (imports p m) x ≡ Some entry → IsMeaning p m x (map name_read reads) meaning)
        → IsMeaning p m its.local.now (entry_of its).words meaning
    use-found locals import source reads meaning finds found whole around right =
        let x : Text = its.local.now in
        let look : option_map import_entry_of import ≡ Some bound.0 = ap (option_map import_entry_of) found ∙ finds x ∙ ap (λ l. import_of l x) table.imports ∙ bound.1 in
        let words : map name_read reads ≡ (entry_of its).words = ap (map name_read) (around ∙ ap (λ l. reads_by l its) whole) ∙ words-by tables.reads.items its in
        subst (λ l. IsMeaning p m x l meaning) words (right x bound.0 look bound.1)

    pub use-step : {S : Type 0} (locals : IndexMap (Bor Text) ImportRef S) (import : Option ImportRef) (source reads : List MemberRead) (meaning : Option Meaning) (old met new : List Target)
        → Finds locals (map import_entry_of tables.imports.items)
        → import ≡ get_by (λ k. bytes_eq its.local.now k.now) locals
        → source ≡ tables.reads.items
        → reads ≡ reads_by source its
        → ((x : Text) (entry : ImportEntry) → option_map import_entry_of import ≡ Some entry → import_of (imports p m) x ≡ Some entry → IsMeaning p m x (map name_read reads) meaning)
        → AddsMissing old (AnyMeans p m (map entry_of (take i tables.uses.items))) met
        → AddsMissing met (MeansSome meaning) new
        → AddsMissing old (AnyMeans p m (map entry_of (take (i + 1) tables.uses.items))) new
    use-step locals import source reads meaning old met new finds found whole around right before adds =
        let x : Text = its.local.now in
        let is : IsMeaning p m x (entry_of its).words meaning = use-found locals import source reads meaning finds found whole around right in
        let Those : UseEntry → Target → Type 0 = λ u t. (n : ℕ) × UseMeans p m u n t in
        let one : AddsMissing met (Those (entry_of its)) new = Adds-same met new (MeansSome meaning) (Those (entry_of its)) (found-means p m x (entry_of its).words meaning is) (means-found p m x (entry_of its).words meaning is) adds in
        let first : AddsMissing old (AnyMeans p m (map entry_of (take i us))) met = subst (λ l. AddsMissing old (AnyMeans p m (map entry_of (take i l))) met) (sym same) before in
        subst (λ l. AddsMissing old (AnyMeans p m (map entry_of (take (i + 1) l))) new) same
        (Adds-step Those (map entry_of (take i us)) (map entry_of (take (i + 1) us)) (entry_of its) old met new (map-more entry_of us i d h) first one)

    -- what is found of one more
    pub found-step : (found : List (Option Meaning)) (meaning : Option Meaning) → IsMeaning p m its.local.now (entry_of its).words meaning → AreMeanings p m (map entry_of (take i tables.uses.items)) found → AreMeanings p m (map entry_of (take (i + 1) tables.uses.items)) (found ++ meaning ∷ [])
    found-step found meaning is before =
        let R : UseEntry → Option Meaning → Type 0 = λ u o. IsMeaning p m u.local u.words o in
        let first : AreMeanings p m (map entry_of (take i us)) found = subst (λ l. AreMeanings p m (map entry_of (take i l)) found) (sym same) before in
        subst (λ l. AreMeanings p m (map entry_of (take (i + 1) l)) (found ++ meaning ∷ [])) same
        (subst (λ l. AreMeanings p m l (found ++ meaning ∷ [])) (sym (map-more entry_of us i d h)) (zip-push R (map entry_of (take i us)) found (entry_of its) meaning first is))
