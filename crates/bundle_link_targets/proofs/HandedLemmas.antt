-- What is taken of externals and CommonJS modules, in the words of the program.
-- What imports stand for is found.
-- What is met from targets on, and the least set.
use Rattle.std.proofs.Common.{◌≡◌, ℕ, Bool, true, false, List, [], ◌∷◌, ◌++◌, get_or, map, Option, Some, None, refl, sym, ap, ◌∙◌, if◌then◌else◌, inl, inr, subst, ◌+◌, ◌≤◌, length, arith}
use Rattle.std.specs.Prelude.{◌↔◌, filter, filter_map, slice_get, Contains, bytes_eq, option_map}
use Rattle.std.specs.List.{All, cons_option, flat_map, list_any}
use Rattle.std.proofs.lemmas.List.Elements.{filter-append}
use Rattle.std.proofs.lemmas.Option.{none-some, same_Some, slice_get_within}
use Rattle.std.proofs.lemmas.Bool.{cases_lt}
use Rattle.indexmap.specs.IndexSet.{IndexSet}
use Rattle.bundle_rules.specs.Nodes.{Text, each_once, numbers_once}
use Rattle.bundle_rules.specs.Entries
use Rattle.bundle_rules.specs.Entries.{Named, Whole, declared_requests, Taken, ImportEntry, import_of}
use Rattle.bundle_rules.specs.Program.{Program, tree_of, is_external, resolves}
use Rattle.bundle_rules.specs.Meaning.{Of, IsMeant}
use Rattle.bundle_link_index.specs.Given.{IsIn, AddsMissing}
use Rattle.bundle_rules.specs.Linking
use Rattle.bundle_rules.specs.Linking.{imports, IsModule, Target, Takes, Origin, Linked, StandsFor, declared, imported, taken_whole, Namespace}
use Rattle.bundle_link_index.proofs.SearchLemmas.{each_place}
use Rattle.bundle_rules.specs.Tables.{TellsMeant}
use Rattle.bundle_link_tables.specs.Sources.{source_asked, told_external}
use Rattle.bundle_link_tables.specs.declared.table.Source.{Source}
use Rattle.bundle_link_tables.specs.declared.table.ImportRef.{ImportRef}
use Rattle.bundle_link_tables.specs.TablesOf.{import_entry_of}
use Rattle.bundle_link_index.specs.declared.kinds.Kinds.{Kinds}
use Rattle.bundle_link_index.specs.declared.target.LinkModule.{LinkModule}
use Rattle.bundle_link_index.specs.Leads.{flagged, required_of, lead_of}
use Rattle.bundle_link_index.specs.Programs.{AreModulesKnown, by_import}
use Rattle.bundle_link_index.specs.declared.target.TargetRef.{TargetRef as Found}
use Rattle.bundle_link_index.specs.Said.{Lead, Outside, ToModule, ToCommonJs, Nowhere, LeadsIn, It, On, Naught, said_by}
use Rattle.bundle_link_index.specs.Says.{GivenFor, Nought, Single, Double, TellsAnswer, linked_of, target_of}
use Rattle.bundle_link_index.proofs.ProgramLemmas.{takes_said, said_takes, said_leads, any_there, there_of_any, leads_right, same_lead, map_back as map-back, map_on as map-on, got_there as place-there, got as there-place}
use Rattle.bundle_link_index.proofs.AskedLemmas.{found as found-there}
use Rattle.bundle_link_index.specs.declared.target.TargetRef.TheVariants as v
use Rattle.bundle_link_index.specs.contracts.target.TargetRefPartialEq.TheImpl as target_impl
use Rattle.bundle_link_index.proofs.EqualLemmas as equal
use Rattle.bundle_link_targets.specs.declared.target.External.{External}
use Rattle.bundle_link_targets.specs.declared.target.Loaded.{Loaded}
use Rattle.bundle_link_targets.specs.Found.{HoldsMeant, Imports, by_name, by_taking, IsImported, UsedIn, IsNameOf, WithinTargets, itself, by_links, Meets, Closes, HoldsTaken, targets_in}
use Rattle.bundle_link_targets.specs.Handed.{AreExternalsOf, AreLoadsIn, IsExternalOf, IsLoadOf}
use Rattle.bundle_link_targets.specs.Meant.{AreModules, IsShared, IsTargetTaken, by_use, by_entry, by_names, LinksTo}
use Rattle.bundle_link_targets.specs.Taken.{AreLoadsOf, AreTaken, IsExternal, IsLoad, kept_if, module_loaded_by, loads_by, loads_in, outside_in, outside_of, specifier_of}
use Rattle.bundle_link_targets.proofs.TakenLemmas.{asked-externals}
use Rattle.bundle_link_targets.specs.Names.{IsLinkedTo}
use Rattle.bundle_link_targets.proofs.MeantLemmas.{taken-meant, meant-taken}

-- ---- what is held is what is meant
held-meant : (p : Program) (targets : List Linking.Target) → HoldsMeant p targets → (t : Linking.Target) → IsShared t → IsIn targets t ↔ IsMeant p (Of t)
held-meant p targets holds t shared = (holds.right t, holds.all t shared)

taken-same : (Has Other : Linking.Target → Type 0) (of : Entries.Taken → Linking.Target) (texts : List Text) (all : Bool) → ((taken : Entries.Taken) → Has (of taken) ↔ Other (of taken)) → AreTaken Has of texts all → AreTaken Other of texts all
taken-same Has Other of texts all same taken = record {
  names = record {
    ascending = taken.names.ascending;
    all = λ x. (λ there. (same (Named x)).0 ((taken.names.all x).0 there), λ has. (taken.names.all x).1 ((same (Named x)).1 has));
  };
  whole = (λ yes. (same Whole).0 (taken.whole.0 yes), λ has. taken.whole.1 ((same Whole).1 has));
}

each-external : (p : Program) (targets : List Linking.Target) → HoldsMeant p targets → (found : List External) → All (IsExternal targets) found → All (IsExternalOf p) found
each-external p targets holds found all = λ k d h.
    let external = get_or found k d in
    taken-same (IsIn targets) (λ t. IsMeant p (Of t)) (Linking.External external.specifier.now) (map (λ name. name.now) external.names.items) external.whole
    (λ taken. held-meant p targets holds (Linking.External external.specifier.now taken) tt) (all k d h)

each-load : (p : Program) (targets : List Linking.Target) → HoldsMeant p targets → (m : ℕ) (loads : List Loaded) → All (IsLoad targets m) loads → All (IsLoadOf p m) loads
each-load p targets holds m loads all = λ k d h.
    let loaded = get_or loads k d in
    taken-same (IsIn targets) (λ t. IsMeant p (Of t)) (Linking.CommonJs m loaded.which) (map (λ name. name.now) loaded.names.items) loaded.whole
    (λ taken. held-meant p targets holds (Linking.CommonJs m loaded.which taken) tt) (all k d h)

-- ---- what modules ask for
module _ (p : Program) (kinds : Kinds) (are : AreModulesKnown p kinds) where
  abbrev modules : List LinkModule
  modules = kinds.modules.now

  abbrev flags : ℕ → Bool
  flags = flagged kinds.common_js.items

  outside-is : (m : ℕ) → outside_in (slice_get modules m) ≡ filter (λ s. is_external p s) (declared_requests (tree_of p m))
  outside-is m = by (slice_get modules m) refl
    where
      by : (o : Option LinkModule) → slice_get modules m ≡ o → outside_in o ≡ filter (λ s. is_external p s) (declared_requests (tree_of p m))
      by None none = sym (ap (λ tree. filter (λ s. is_external p s) (declared_requests tree)) (are.trees m none))
      by (Some its) at = asked-externals p.settings.external its.tables.now.sources.items (declared_requests (tree_of p m)) (are.tables m its at).sources

  outside-all : (list : List ℕ) → outside_of modules list ≡ filter (λ s. is_external p s) (flat_map (λ m. declared_requests (tree_of p m)) list)
  outside-all [] = refl
  outside-all (m ∷ list) =
      ap (λ l. l ++ outside_of modules list) (outside-is m) ∙ ap (λ l. filter (λ s. is_external p s) (declared_requests (tree_of p m)) ++ l) (outside-all list)
      ∙ sym (filter-append (λ s. is_external p s) (declared_requests (tree_of p m)) (flat_map (λ m. declared_requests (tree_of p m)) list))

  pub are-externals : (list : List ℕ) (targets : List Linking.Target) (found : List External) → map specifier_of found ≡ each_once (outside_of modules list) → All (IsExternal targets) found → (AreModules p → HoldsMeant p targets) → AreExternalsOf p list found
  are-externals list targets found specifiers taken holds = record {
    specifiers = specifiers ∙ ap each_once (outside-all list);
    meant = λ ready. each-external p targets (holds ready) found taken;
  }

  one-load : (m : ℕ) (source : Source) (s : Text) → source_asked source ≡ told_external p.settings.external s → module_loaded_by kinds m source ≡ kept_if flags (resolves p m s)
  one-load m source s is =
      let text : source.specifier.now ≡ s = ap (λ (pair : Text × Bool). pair.0) is in
      let out : source.is_external ≡ is_external p s = ap (λ (pair : Text × Bool). pair.1) is in
      ap (λ b. if b then None else kept_if flags (required_of modules m source.specifier.now)) out
      ∙ ap (λ x. if is_external p s then None else kept_if flags (required_of modules m x)) text
      ∙ ap (λ o. if is_external p s then None else kept_if flags o) (sym (are.leads m s))
      ∙ by (is_external p s)
    where
      by : (b : Bool) → (if b then None else kept_if flags (p.leads m s)) ≡ kept_if flags (if b then None else p.leads m s)
      by true = refl
      by false = refl

  kept-one : (o : Option ℕ) (rest : List ℕ) → cons_option (kept_if flags o) (filter flags rest) ≡ filter flags (cons_option o rest)
  kept-one None rest = refl
  kept-one (Some c) rest = by (flags c)
    where
      by : (b : Bool) → cons_option (if b then Some c else None) (filter flags rest) ≡ (if b then c ∷ filter flags rest else filter flags rest)
      by true = refl
      by false = refl

  loads-asked : (m : ℕ) (sources : List Source) (requests : List Text) → map source_asked sources ≡ map (told_external p.settings.external) requests → filter_map (module_loaded_by kinds m) sources ≡ filter flags (filter_map (resolves p m) requests)
  loads-asked m [] [] e = refl
  loads-asked m [] (r ∷ requests) e = cc
  loads-asked m (source ∷ sources) [] e = cc
  loads-asked m (source ∷ sources) (r ∷ requests) e =
      let first : source_asked source ≡ told_external p.settings.external r = cc in
      let more : map source_asked sources ≡ map (told_external p.settings.external) requests = cc in
      ap (λ o. cons_option o (filter_map (module_loaded_by kinds m) sources)) (one-load m source r first)
      ∙ ap (λ l. cons_option (kept_if flags (resolves p m r)) l) (loads-asked m sources requests more)
      ∙ kept-one (resolves p m r) (filter_map (resolves p m) requests)

  loads-are : (m : ℕ) → loads_in kinds m ≡ filter flags (filter_map (resolves p m) (declared_requests (tree_of p m)))
  loads-are m = by (slice_get modules m) refl
    where
      by : (o : Option LinkModule) → slice_get modules m ≡ o → loads_by kinds m o ≡ filter flags (filter_map (resolves p m) (declared_requests (tree_of p m)))
      by None none = sym (ap (λ tree. filter flags (filter_map (resolves p m) (declared_requests tree))) (are.trees m none))
      by (Some its) at = loads-asked m its.tables.now.sources.items (declared_requests (tree_of p m)) (are.tables m its at).sources

  pub are-loads : (targets : List Linking.Target) → (AreModules p → HoldsMeant p targets) → (m : ℕ) (loads : List Loaded) → AreLoadsOf kinds targets m loads → AreLoadsIn p m loads
  are-loads targets holds m loads its = record {
    test = flags;
    tells = are.common_js;
    modules = its.modules ∙ ap numbers_once (loads-are m);
    meant = λ ready. each-load p targets (holds ready) m loads its.taken;
  }

-- ---- what an answer tells of a name
pub told-linked : (p : Program) (m : ℕ) (x : Text) (told : GivenFor) → TellsAnswer p m x told → IsLinkedTo p m x (linked_of told)
told-linked p m x Nought missing = λ t linked. missing t linked.origin linked.given
told-linked p m x (Single value) linked = linked
told-linked p m x (Double first second) two = λ t linked.
    let a = linked.only first.0 two.of_a two.gives_a in
    let b = linked.only second.0 two.of_b two.gives_b in
    elim two.differ [ inl d ↦ d (a.0 ∙ sym b.0) | inr d ↦ d (a.1 ∙ sym b.1) ]

-- ---- what a name of the top stands for
pub imports-stand : {p : Program} {m : ℕ} {x : Text} {entry : ImportEntry} {t : Target} → import_of (imports p m) x ≡ Some entry → Imports p m entry t → StandsFor p m x t
imports-stand {entry = entry} bound (by_name named is linked) = imported entry bound named is linked
imports-stand {entry = entry} bound (by_taking takes) = taken_whole entry bound takes

pub stands-imports : {p : Program} {m : ℕ} {x : Text} {t : Target} → StandsFor p m x t → (entry : ImportEntry) → import_of (imports p m) x ≡ Some entry → Imports p m entry t
stands-imports (declared there none) entry bound = absurd (none-some entry (sym none ∙ bound))
stands-imports {p = p} {m = m} {t = t} (imported {y = y} {d = d} its found named is linked) entry bound = subst (λ e. Imports p m e t) (same_Some its entry (sym found ∙ bound)) (by_name named is linked)
stands-imports {p = p} {m = m} {t = t} (taken_whole its found takes) entry bound = subst (λ e. Imports p m e t) (same_Some its entry (sym found ∙ bound)) (by_taking takes)

pub bound-there : (es : List ImportEntry) (x : Text) (entry : ImportEntry) → import_of es x ≡ Some entry → Contains es entry
bound-there es x entry bound = found-there (λ (e : ImportEntry). bytes_eq e.local x) es entry bound

-- ---- what is found of an import
module _ (p : Program) (kinds : Kinds) (are : AreModulesKnown p kinds) (m : ℕ) (entry : ImportEntry) (there : Contains (imports p m) entry) where
  abbrev lead : Lead
  lead = lead_of kinds m entry.specifier

  leads : LeadsIn p m entry.specifier lead
  leads = subst (LeadsIn p m entry.specifier) (sym (same_lead p kinds are m entry.specifier (by_import entry there))) (leads_right p kinds are m entry.specifier)

  pub import-gives : (t : Target) (origin : Option Origin) → said_by m entry.specifier None entry.taken lead ≡ It t origin → IsImported p m entry (Some t)
  import-gives t origin e = by_taking (said_takes p m entry.specifier lead entry.taken t None origin leads e).0

  takes-named : {s : Text} {what : Taken} {t : Target} {y : Text} {d : ℕ} → Takes p m s what t → what ≡ Named y → IsModule p m s d → ⊥
  takes-named {s = s} {d = d} takes named is = never (takes_said p m takes (ToModule d) None is) named
    where
      never : {what : Taken} {t : Target} {y : Text} → said_by m s None what (ToModule d) ≡ It t None → what ≡ Named y → ⊥
      never {t = t} {y = y} e n = let f : said_by m s None (Named y) (ToModule d) ≡ It t None = subst (λ w. said_by m s None w (ToModule d) ≡ It t None) n e in cc

  one-named : {y z : Text} → entry.taken ≡ Named y → entry.taken ≡ Named z → y ≡ z
  one-named {y = y} {z = z} a b = let both : Named y ≡ Named z = sym a ∙ b in let same : y ≡ z = cc in same

  pub import-leads : (d : ℕ) (y : Text) (found : Option Target) → said_by m entry.specifier None entry.taken lead ≡ On d y → IsLinkedTo p d y found → IsImported p m entry found
  import-leads d y found e told = by found told
    where
      on : IsModule p m entry.specifier d × (entry.taken ≡ Named y)
      on = said_leads p m entry.specifier lead entry.taken None d y leads e

      none : ((t : Target) → Linked p d y t → ⊥) → (t : Target) → Imports p m entry t → ⊥
      none missing t (by_name {d = k} {y = z} named is linked) =
          let module_is : k ≡ d = same_Some k d (sym is.resolved ∙ on.0.resolved) in
          missing t (subst (λ x. Linked p d x t) (one-named named on.1) (subst (λ n. Linked p n z t) module_is linked))
      none missing t (by_taking takes) = takes-named takes on.1 on.0

      by : (found : Option Target) → IsLinkedTo p d y found → IsImported p m entry found
      by None missing = none missing
      by (Some t) linked = by_name on.1 on.0 linked

  pub import-none : said_by m entry.specifier None entry.taken lead ≡ Naught → IsImported p m entry None
  import-none e t (by_name {d = d} {y = y} named is linked) = by lead refl leads (ap (λ w. said_by m entry.specifier None w lead) (sym named) ∙ e)
    where
      by : (l : Lead) → lead ≡ l → LeadsIn p m entry.specifier l → said_by m entry.specifier None (Named y) l ≡ Naught → ⊥
      by Outside at leads f = cc
      by (ToModule k) at leads f = cc
      by (ToCommonJs c) at leads f = cc
      by Nowhere at leads f = none-some d (sym leads.1 ∙ is.resolved)
  import-none e t (by_taking takes) = let f : It t None ≡ Naught = sym (takes_said p m takes lead None leads) ∙ e in cc

-- what a name means whose import this is
pub bound-as : (p : Program) (m : ℕ) (x : Text) (import : Option ImportRef) (its : ImportRef) (entry : ImportEntry) → import ≡ Some its → option_map import_entry_of import ≡ Some entry → import_of (imports p m) x ≡ Some entry → import_of (imports p m) x ≡ Some (import_entry_of its)
bound-as p m x import its entry is some bound = bound ∙ sym some ∙ ap (option_map import_entry_of) is

pub named-stands : (p : Program) (m : ℕ) (x : Text) (entry : ImportEntry) (found : Option Found) (t : Found) → import_of (imports p m) x ≡ Some entry → IsImported p m entry (option_map target_of found) → found ≡ Some t → StandsFor p m x (target_of t)
named-stands p m x entry found t bound right is = imports-stand bound (subst (λ o. IsImported p m entry (option_map target_of o)) is right)

pub none-stands : (p : Program) (m : ℕ) (x : Text) (entry : ImportEntry) (found : Option Found) → import_of (imports p m) x ≡ Some entry → IsImported p m entry (option_map target_of found) → found ≡ None → (t : Target) → StandsFor p m x t → ⊥
none-stands p m x entry found bound right is t stands = (subst (λ o. IsImported p m entry (option_map target_of o)) is right) t (stands-imports stands entry bound)

-- ---- meet
pub Meets-begins : (p : Program) (old : List Target) → Meets p old old 0
Meets-begins p old = record { kept = λ t there. there; past = λ i t u h. absurd (omega (arith, h)); within = λ t there. itself there }

pub Meets-steps : (p : Program) (old met new : List Target) (done : ℕ) (t : Target) → slice_get met done ≡ Some t → Meets p old met done → AddsMissing met (IsNameOf p t) new → Meets p old new (done + 1)
Meets-steps p old met new done t here w adds = record {
  kept = λ u there. grows u (w.kept u there);
  past = λ i u v h at name. elim (cases_lt i done) [
    | inl l ↦
        let its = each_place met i (omega (arith, l, slice_get_within met done t here)) in
        let same : its.0 ≡ u = same_Some its.0 u (sym (adds.stays i its.0 its.1) ∙ at) in
        grows v (w.past i u v l (its.1 ∙ ap (λ x. Some x) same) name)
    | inr ge ↦
        let is : i ≡ done = omega (arith, h, ge) in
        let same : u ≡ t = same_Some u t (sym at ∙ ap (slice_get new) is ∙ adds.stays done t here) in
        adds.there v (subst (λ x. IsNameOf p x v) same name)
  ];
  within = λ u there. elim (adds.no_more u there) [
    | inl o ↦ w.within u o
    | inr name ↦ by_links (w.within t (done, here)) name
  ];
}
  where
    grows : (u : Target) → IsIn met u → IsIn new u
    grows u there = (there.0, adds.stays there.0 u there.1)

pub Meets-ends : (p : Program) (old met : List Target) (done : ℕ) → length met ≤ done → Meets p old met done → Closes p old met
Meets-ends p old met done over w = record {
  kept = w.kept;
  closed = λ t u there name. w.past there.0 t u (omega (arith, over, slice_get_within met there.0 t there.1)) there.1 name;
  within = w.within;
}

-- ---- the least set
module _ (p : Program) (kinds : Kinds) (ready : AreModulesKnown p kinds) (entry : p.entry ≡ kinds.entry) (used linked all : List Target)
    (first : AddsMissing [] (UsedIn p kinds.list.now) used) (second : AddsMissing used (LinksTo p kinds.entry) linked) (third : Closes p linked all) where
  linked-taken : (t : Target) → IsIn linked t → IsTargetTaken p t
  linked-taken t there = elim (second.no_more t there) [
    | inl o ↦ elim (first.no_more t o) [
      | inl none ↦ absurd (none-some t none.1)
      | inr u ↦ by_use ((ready.reached u.0).0 u.1) u.2.1 u.2.2.1
    ]
    | inr l ↦ by_entry (subst (λ n. Linked p n l.name t) (sym entry) l.linked)
  ]

  within-taken : {t : Target} → WithinTargets p linked t → IsTargetTaken p t
  within-taken (itself {t = t} there) = linked-taken t there
  within-taken (by_links {t = t} {u = u} more name) = by_names (subst (IsTargetTaken p) name.is (within-taken more)) name.links.linked

  taken-within : {t : Target} → IsTargetTaken p t → IsIn all t
  taken-within (by_use {m = m} {n = n} {its = its} {t = t} reached there means) =
      let u = first.there t (m, (ready.reached m).1 reached, (its, there, (n, means))) in
      third.kept t (u.0, second.stays u.0 t u.1)
  taken-within (by_entry {x = x} {t = t} is) = third.kept t (second.there t (record { name = x; linked = subst (λ n. Linked p n x t) entry is }))
  taken-within (by_names {d = d} {x = x} {t = t} more is) = third.closed (Namespace d) t (taken-within more) (record { d = d; is = refl; links = record { name = x; linked = is } })

  pub holds-taken : HoldsTaken p all
  holds-taken t = (λ there. within-taken (third.within t there), λ taken. taken-within taken)

pub holds-meant : (p : Program) (all : List Target) → AreModules p → HoldsTaken p all → HoldsMeant p all
holds-meant p all are holds = record {
  all = λ t shared meant. (holds t).1 (meant-taken p are meant t refl shared);
  right = λ t there. taken-meant p are ((holds t).0 there);
}

-- ---- names of a namespace
pub links-name : (p : Program) (t : Target) (m : ℕ) → t ≡ Namespace m → (u : Target) → LinksTo p m u → IsNameOf p t u
links-name p t m same u links = record { d = m; is = same; links = links }

pub name-links : (p : Program) (t : Target) (m : ℕ) → t ≡ Namespace m → (u : Target) → IsNameOf p t u → LinksTo p m u
name-links p t m same u name =
    let both : Namespace name.d ≡ Namespace m = sym name.is ∙ same in
    let one : name.d ≡ m = cc in
    subst (λ k. LinksTo p k u) one name.links

-- ---- whether a namespace is held
pub object-told : {S : Type 0} (p : Program) (set : IndexSet Found S) → HoldsMeant p (targets_in set) → (m : ℕ) (answer : Bool) → answer ≡ list_any (target_impl.ghosts.eq (v.Namespace m)) set.keys → TellsMeant p m answer
object-told p set holds m answer is = (
  λ yes.
      let r = there_of_any (target_impl.ghosts.eq (v.Namespace m)) set.keys (sym is ∙ yes) in
      let same : Namespace m ≡ target_of r.0 = (equal.target (v.Namespace m) r.0).0 r.2 in
      holds.right (Namespace m) (subst (IsIn (targets_in set)) (sym same) (there-place (targets_in set) (target_of r.0) (map-on target_of set.keys r.0 r.1))),
  λ meant.
      let there = holds.all (Namespace m) tt meant in
      let r = map-back target_of set.keys (Namespace m) (place-there (targets_in set) there.0 (Namespace m) there.1) in
      is ∙ any_there (target_impl.ghosts.eq (v.Namespace m)) set.keys r.0 r.1 ((equal.target (v.Namespace m) r.0).1 (sym r.2)),
)
