-- A module is CommonJS exactly if the tests say so that a program makes of its table.
-- What entries say is what they give in the program, so numbers that stand for what they say are the program's.
-- Numbers that stand for what all modules say are those of the program.
-- Modules that are handed in, with what is made of them, are those of the program.
use Rattle.std.proofs.Common.{◌≡◌, ℕ, Bool, true, false, not, ◌==◌, ◌&&◌, ◌||◌, ◌⊎◌, ◌↔◌, inl, inr, refl, sym, ap, ◌∙◌, eqb-true, eq-eqb, zero, suc, List, [], ◌∷◌, Option, Some, None, Contains, subst, if◌then◌else◌, arith, ◌≢◌, ◌+◌, map, cond, ◌<◌, ◌++◌, length, take, get_or, nat_eq}
use Rattle.std.proofs.lemmas.Bool.{false≢true, and_from, and_parts, or_cases, or_left, or_right}
use Rattle.std.specs.Prelude.{IsTrue, slice_get, bytes_eq, filter, filter_map, slice_index_or, codes}
use Rattle.std.specs.List.{list_any, cons_option, flat_map}
use Rattle.std.proofs.lemmas.Option.{none-some, same_Some, slice_get_within, get_or_from_slice_get}
use Rattle.std.proofs.lemmas.Slice.Eq.{bytes_eq-Decides}
use Rattle.std.proofs.lemmas.List.Elements.{Contains-append_left, Contains-append_right, Contains-append_cases, filter_map-append}
use Rattle.std.specs.Borrow.{Bor}
use Rattle.std.proofs.lemmas.List.{take_more, length-take-le}
use Rattle.std.specs.BTreeMap.{get_by_text}
use Rattle.bundle_syntax.specs.Item.{Item}
use Rattle.bundle_rules.specs.Program.{Program, tree_of, resolves, is_external, calls_of, IsReached}
use Rattle.bundle_rules.specs.Entries
use Rattle.bundle_rules.specs.Entries.{is_script, Taken, Named, Whole, ImportEntry, ExportEntry, Local, Indirect, Star, import_of, is_named, has_own_entry, declared_requests, exports_of, require_calls}
use Rattle.bundle_rules.specs.Linking.{IsCommonJs, UsesCommonJs, IsRequired, exports, imports, Target, Declared, Namespace, External, CommonJs, Takes, of_external, of_common_js, of_module, IsModule, Origin}
use Rattle.bundle_rules.specs.Tables.{TellsCommonJs, is_star, star_of}
use Rattle.bundle_rules.specs.Nodes.{Text, each_once, has_text}
use Rattle.bundle_link_index.specs.declared.links.OwnLink.{OwnLink}
use Rattle.bundle_link_index.specs.declared.links.OwnLink.TheVariants.{Gives, Leads, Nothing}
use Rattle.bundle_link_index.specs.Graph.{Graph, own_of, stars_of}
use Rattle.bundle_rules.specs.Bound.{has_free, is_free}
use Rattle.bundle_link_tables.specs.TablesOf.{export_entry_of, entry_by_origin, import_entry_of, call_entry_of, uses_common_js}
use Rattle.bundle_link_tables.specs.declared.table.Export.{Export}
use Rattle.bundle_link_tables.specs.declared.table.Origin.{Origin as From}
use Rattle.bundle_link_tables.specs.Sources.{HasTexts, source_asked, told_external}
use Rattle.bundle_link_tables.specs.declared.table.RequireCall.{RequireCall}
use Rattle.bundle_link_tables.specs.declared.table.Source.{Source}
use Rattle.bundle_link_tables.proofs.CallLemmas.{same_truth as bool_same}
use Rattle.bundle_link_tables.specs.declared.table.Origin.TheVariants
use Rattle.bundle_link_index.specs.Linked.{Value, OwnGives, own_declaration, own_namespace, own_taken, OwnLeads, Stars, IsLinkGraph}
use Rattle.bundle_link_index.specs.Said.{Lead, Outside, ToModule, ToCommonJs, Nowhere, LeadsIn, Said, It, On, Naught, said_by, target_only, said_local, said_of, IsSaidNumber, AreNumbers, AreLeads, HasEachOnce, EntryAt}
use Rattle.bundle_link_index.specs.declared.target.LinkModule.{LinkModule}
use Rattle.bundle_link_index.specs.declared.kinds.Kinds.{Kinds}
use Rattle.bundle_link_index.specs.Leads.{flagged, lead_of, lead_found, required_of, leads_from}
use Rattle.bundle_link_index.specs.Numbered.{NotedEntry, note, notes_of, all_notes, module_in, starred, all_starred, IsGraphNumbered}
use Rattle.bundle_link_index.specs.Programs.{AsksFor, by_import, by_entry, by_star, AreModulesKnown, lead_in, IsLinkProgram}
use Rattle.bundle_link_index.proofs.AskedLemmas.{found as found_in, import_asks, entry_asks, star_asks, flat_back, flat_on, only_one}
use Rattle.bundle_link_index.specs.Handed.{modules_called, external_one, externals_by, externals_of, is_kind, kinds_of, modules_numbered, required_by, required_from}

-- ---- kind
not_same : (m n : ℕ) → not (m == n) ≡ true → m ≡ n → ⊥
not_same m n e is = false≢true (ap not (sym (eq-eqb m n is)) ∙ e)

apart : (m n : ℕ) → (m ≡ n → ⊥) → not (m == n) ≡ true
apart m n ne = by (m == n) refl
  where
    by : (b : Bool) → (m == n) ≡ b → not b ≡ true
    by true e = absurd (ne (eqb-true m n e))
    by false e = refl

module _ (p : Program) (m : ℕ) (script names required : Bool)
    (is_its : script ≡ is_script (tree_of p m))
    (uses : (names ≡ true) ↔ UsesCommonJs p m)
    (source_asked : (required ≡ true) ↔ IsRequired p m) where
  pub tells_common_js : TellsCommonJs p m (p.settings.require && (not (m == p.entry) && (script && (names || required))))
  tells_common_js = (told, tells)
    where
      told : p.settings.require && (not (m == p.entry) && (script && (names || required))) ≡ true → IsCommonJs p m
      told e =
          let first = and_parts p.settings.require (not (m == p.entry) && (script && (names || required))) e in
          let second = and_parts (not (m == p.entry)) (script && (names || required)) first.1 in
          let third = and_parts script (names || required) second.1 in
          record {
            linked = first.0;
            other = not_same m p.entry second.0;
            script = sym is_its ∙ third.0;
            used = elim (or_cases names required third.1) [ inl a ↦ inl (uses.0 a) | inr b ↦ inr (source_asked.0 b) ];
          }

      used : UsesCommonJs p m ⊎ IsRequired p m → (names || required) ≡ true
      used (inl a) = or_left names required (uses.1 a)
      used (inr b) = or_right names required (source_asked.1 b)

      tells : IsCommonJs p m → p.settings.require && (not (m == p.entry) && (script && (names || required))) ≡ true
      tells is = and_from p.settings.require (not (m == p.entry) && (script && (names || required))) is.linked (and_from (not (m == p.entry)) (script && (names || required)) (apart m p.entry is.other) (and_from script (names || required) (is_its ∙ is.script) (used is.used)))

-- ---- lists
pub any_there : {A : Type 0} (test : A → Bool) (xs : List A) (a : A) → Contains xs a → test a ≡ true → list_any test xs ≡ true
any_there test [] a (i, h, e) is = absurd (omega arith)
any_there test (x ∷ xs) a (zero, h, e) is = or_left (test x) (list_any test xs) (ap test e ∙ is)
any_there test (x ∷ xs) a (suc i, h, e) is = or_right (test x) (list_any test xs) (any_there test xs a (i, omega arith, e) is)

pub there_of_any : {A : Type 0} (test : A → Bool) (xs : List A) → list_any test xs ≡ true → (a : A) × Contains xs a × (test a ≡ true)
there_of_any {A = A} test [] e = absurd (false≢true e)
there_of_any {A = A} test (x ∷ xs) e = by (or_cases (test x) (list_any test xs) e) (there_of_any test xs)
  where
    by : (test x ≡ true) ⊎ (list_any test xs ≡ true) → (list_any test xs ≡ true → (a : A) × Contains xs a × (test a ≡ true)) → (a : A) × Contains (x ∷ xs) a × (test a ≡ true)
    by (inl here) ih = (x, (0, omega arith, refl), here)
    by (inr later) ih = let r = ih later in (r.0, (suc r.1.0, omega (arith, r.1.1), r.1.2), r.2)

-- ---- what is taken
module _ (p : Program) (m : ℕ) where
  outside_none : (s : Text) → IsTrue (is_external p s) → resolves p m s ≡ None
  outside_none s e = ap (λ b. if b then None else p.leads m s) e

  one_module : (s : Text) (a b : ℕ) → resolves p m s ≡ Some a → resolves p m s ≡ Some b → a ≡ b
  one_module s a b e f = same_Some a b (sym e ∙ f)

  pub takes_said : {s : Text} {taken : Taken} {t : Target} → Takes p m s taken t → (lead : Lead) (origin : Option Origin) → LeadsIn p m s lead → said_by m s origin taken lead ≡ It t origin
  takes_said (of_external e) Outside origin leads = refl
  takes_said {s = s} (of_external e) (ToModule d) origin leads = absurd (none-some d (sym (outside_none s e) ∙ leads.resolved))
  takes_said {s = s} (of_external e) (ToCommonJs c) origin leads = absurd (none-some c (sym (outside_none s e) ∙ leads.0))
  takes_said (of_external e) Nowhere origin leads = absurd (false≢true (sym leads.0 ∙ e))
  takes_said {s = s} (of_common_js {c = c} is common) Outside origin leads = absurd (none-some c (sym (outside_none s leads) ∙ is))
  takes_said {s = s} (of_common_js {c = c} is common) (ToModule d) origin leads = absurd (leads.es (subst (IsCommonJs p) (one_module s c d is leads.resolved) common))
  takes_said {s = s} {taken = taken} (of_common_js {c = c} is common) (ToCommonJs d) origin leads = ap (λ k. It (CommonJs m k taken) origin) (one_module s d c leads.0 is)
  takes_said (of_common_js {c = c} is common) Nowhere origin leads = absurd (none-some c (sym leads.1 ∙ is))
  takes_said {s = s} (of_module {d = d} is) Outside origin leads = absurd (none-some d (sym (outside_none s leads) ∙ is.resolved))
  takes_said {s = s} (of_module {d = d} is) (ToModule k) origin leads = ap (λ n. It (Namespace n) origin) (one_module s k d leads.resolved is.resolved)
  takes_said {s = s} (of_module {d = d} is) (ToCommonJs c) origin leads = absurd (is.es (subst (IsCommonJs p) (one_module s c d leads.0 is.resolved) leads.1))
  takes_said (of_module {d = d} is) Nowhere origin leads = absurd (none-some d (sym leads.1 ∙ is.resolved))

  pub said_takes : (s : Text) (lead : Lead) (taken : Taken) (t : Target) (origin its : Option Origin) → LeadsIn p m s lead → said_by m s origin taken lead ≡ It t its → Takes p m s taken t × (origin ≡ its)
  said_takes s Outside taken t origin its leads e = let same : External s taken ≡ t = cc in (subst (Takes p m s taken) same (of_external leads), cc)
  said_takes s (ToCommonJs c) taken t origin its leads e = let same : CommonJs m c taken ≡ t = cc in (subst (Takes p m s taken) same (of_common_js leads.0 leads.1), cc)
  said_takes s (ToModule d) Whole t origin its leads e = let same : Namespace d ≡ t = cc in (subst (Takes p m s Whole) same (of_module leads), cc)
  said_takes s (ToModule d) (Named y) t origin its leads e = cc
  said_takes s Nowhere taken t origin its leads e = cc

  pub said_leads : (s : Text) (lead : Lead) (taken : Taken) (origin : Option Origin) (d : ℕ) (y : Text) → LeadsIn p m s lead → said_by m s origin taken lead ≡ On d y → IsModule p m s d × (taken ≡ Named y)
  said_leads s Outside taken origin d y leads e = cc
  said_leads s (ToCommonJs c) taken origin d y leads e = cc
  said_leads s (ToModule k) Whole origin d y leads e = cc
  said_leads s (ToModule k) (Named z) origin d y leads e = let same : k ≡ d = cc in (subst (IsModule p m s) same leads, cc)
  said_leads s Nowhere taken origin d y leads e = cc

  leads_said : (s : Text) (lead : Lead) (origin : Option Origin) (d : ℕ) (y : Text) → LeadsIn p m s lead → IsModule p m s d → said_by m s origin (Named y) lead ≡ On d y
  leads_said s Outside origin d y leads is = absurd (none-some d (sym (outside_none s leads) ∙ is.resolved))
  leads_said s (ToCommonJs c) origin d y leads is = absurd (is.es (subst (IsCommonJs p) (one_module s c d leads.0 is.resolved) leads.1))
  leads_said s (ToModule k) origin d y leads is = ap (λ n. On n y) (one_module s k d leads.resolved is.resolved)
  leads_said s Nowhere origin d y leads is = absurd (none-some d (sym leads.1 ∙ is.resolved))

-- ---- entries
only_it : (said : Said) (t : Target) (origin : Option Origin) → target_only said ≡ It t origin → said ≡ It t origin
only_it (It a b) t origin e = e
only_it (On d y) t origin e = cc
only_it Naught t origin e = cc

only_never : (said : Said) (d : ℕ) (y : Text) → target_only said ≡ On d y → ⊥
only_never (It a b) d y e = cc
only_never (On k z) d y e = cc
only_never Naught d y e = cc

module _ (p : Program) (m : ℕ) (lead : Text → Lead) (leads : (s : Text) → LeadsIn p m s (lead s)) (x : Text) where
  -- an entry that says a target gives it
  pub gives_of_said : (entry : ExportEntry) (t : Target) (origin : Option Origin) → Contains (exports p m) entry → is_named x entry ≡ true → said_of lead m (imports p m) entry ≡ It t origin → OwnGives p m x t origin
  gives_of_said (Local name y) t origin stands named e = by (import_of (imports p m) y) refl e
    where
      its : Contains (exports p m) (Local x y)
      its = subst (λ n. Contains (exports p m) (Local n y)) (sym ((bytes_eq-Decides x name).0 named)) stands

      by : (o : Option ImportEntry) → import_of (imports p m) y ≡ o → said_local lead m y o ≡ It t origin → OwnGives p m x t origin
      by None none f =
          let first : Declared m y ≡ t = cc in
          let second : None ≡ origin = cc in
          subst (OwnGives p m x t) second (subst (λ a. OwnGives p m x a None) first (own_declaration its none))
      by (Some entry) bound f =
          let from : Option Origin = Some (record { which = m; local = y }) in
          let r = said_takes p m entry.specifier (lead entry.specifier) entry.taken t from origin (leads entry.specifier) (only_it (said_by m entry.specifier from entry.taken (lead entry.specifier)) t origin f) in
          subst (OwnGives p m x t) r.1 (own_namespace entry its bound r.0)
  gives_of_said (Indirect name s taken) t origin stands named e =
      let r = said_takes p m s (lead s) taken t None origin (leads s) e in
      subst (OwnGives p m x t) r.1 (own_taken (subst (λ n. Contains (exports p m) (Indirect n s taken)) (sym ((bytes_eq-Decides x name).0 named)) stands) r.0)
  gives_of_said (Star s) t origin stands named e = absurd (false≢true named)

  -- and one that says another name leads to it
  pub leads_of_said : (entry : ExportEntry) (d : ℕ) (y : Text) → Contains (exports p m) entry → is_named x entry ≡ true → said_of lead m (imports p m) entry ≡ On d y → OwnLeads p m x d y
  leads_of_said (Local name z) d y stands named e = by (import_of (imports p m) z) e
    where
      by : (o : Option ImportEntry) → said_local lead m z o ≡ On d y → OwnLeads p m x d y
      by None f = cc
      by (Some entry) f = absurd (only_never (said_by m entry.specifier (Some (record { which = m; local = z })) entry.taken (lead entry.specifier)) d y f)
  leads_of_said (Indirect name s taken) d y stands named e =
      let r = said_leads p m s (lead s) taken None d y (leads s) e in
      record {
        specifier = s;
        stands = subst (λ a. Contains (exports p m) (Indirect x s a)) r.1 (subst (λ n. Contains (exports p m) (Indirect n s taken)) (sym ((bytes_eq-Decides x name).0 named)) stands);
        leads = r.0;
      }
  leads_of_said (Star s) d y stands named e = absurd (false≢true named)

  -- the other way
  pub said_of_gives : (t : Target) (origin : Option Origin) → OwnGives p m x t origin → (entry : ExportEntry) × Contains (exports p m) entry × (is_named x entry ≡ true) × (said_of lead m (imports p m) entry ≡ It t origin)
  said_of_gives t origin (own_declaration {y = y} stands none) = (Local x y, stands, (bytes_eq-Decides x x).1 refl, ap (said_local lead m y) none)
  said_of_gives t origin (own_namespace {y = y} entry stands bound takes) = (Local x y, stands, (bytes_eq-Decides x x).1 refl, ap (said_local lead m y) bound ∙ ap target_only (takes_said p m takes (lead entry.specifier) (Some (record { which = m; local = y })) (leads entry.specifier)))
  said_of_gives t origin (own_taken {s = s} {what = what} stands takes) = (Indirect x s what, stands, (bytes_eq-Decides x x).1 refl, takes_said p m takes (lead s) None (leads s))

  pub said_of_leads : (d : ℕ) (y : Text) → OwnLeads p m x d y → (entry : ExportEntry) × Contains (exports p m) entry × (is_named x entry ≡ true) × (said_of lead m (imports p m) entry ≡ On d y)
  said_of_leads d y own = (Indirect x own.specifier (Named y), own.stands, (bytes_eq-Decides x x).1 refl, leads_said p m own.specifier (lead own.specifier) None d y (leads own.specifier) own.leads)

-- ---- numbers
number_gives : (names : List Text) (values : List Value) (said : Said) (v : ℕ) → IsSaidNumber names values said (Gives v) → (t : Target) × (origin : Option Origin) × (slice_get values v ≡ Some (t, origin)) × (said ≡ It t origin)
number_gives names values (It t origin) v is = (t, origin, is, refl)
number_gives names values (On d y) v is = absurd is
number_gives names values Naught v is = absurd is

number_leads : (names : List Text) (values : List Value) (said : Said) (d k : ℕ) → IsSaidNumber names values said (Leads (d, k)) → (y : Text) × (slice_get names k ≡ Some y) × (said ≡ On d y)
number_leads names values (It t origin) d k is = absurd is
number_leads names values (On e y) d k is = (y, is.1, ap (λ n. On n y) (sym is.0))
number_leads names values Naught d k is = absurd is

gives_number : (names : List Text) (values : List Value) (t : Target) (origin : Option Origin) (own : OwnLink) → IsSaidNumber names values (It t origin) own → (v : ℕ) × (slice_get values v ≡ Some (t, origin)) × (own ≡ Gives v)
gives_number names values t origin (Gives v) is = (v, is, refl)
gives_number names values t origin (Leads next) is = absurd is
gives_number names values t origin Nothing is = absurd is

leads_number : (names : List Text) (values : List Value) (d : ℕ) (y : Text) (own : OwnLink) → IsSaidNumber names values (On d y) own → (k : ℕ) × (slice_get names k ≡ Some y) × (own ≡ Leads (d, k))
leads_number names values d y (Gives v) is = absurd is
leads_number names values d y (Leads next) is = (next.1, is.1, ap (λ n. Leads (n, next.1)) is.0)
leads_number names values d y Nothing is = absurd is

module _ (p : Program) (lead : ℕ → Text → Lead) (names : List Text) (values : List Value) (g : Graph)
    (leads : AreLeads p lead) (once : HasEachOnce p) (w : AreNumbers p lead names values g) where
  -- the entry at a name that has one
  at_entry : (m n : ℕ) (x : Text) → slice_get names n ≡ Some x → (entry : ExportEntry) → Contains (exports p m) entry → is_named x entry ≡ true → (own : OwnLink) × (own_of g (m, n) ≡ Some own) × IsSaidNumber names values (said_of (lead m) m (imports p m) entry) own
  at_entry m n x at entry stands named = elim (w.entries m n x at) [
    | inl e ↦ (e.own, e.noted, subst (λ other. IsSaidNumber names values (said_of (lead m) m (imports p m) other) e.own) (once m x e.entry entry e.stands stands e.named named) e.number)
    | inr none ↦ absurd (none.1 entry stands named)
  ]

  -- the entry that stands behind a number
  behind : (m n : ℕ) (x : Text) (own : OwnLink) → slice_get names n ≡ Some x → own_of g (m, n) ≡ Some own → (entry : ExportEntry) × Contains (exports p m) entry × (is_named x entry ≡ true) × IsSaidNumber names values (said_of (lead m) m (imports p m) entry) own
  behind m n x own at noted = elim (w.entries m n x at) [
    | inl e ↦ (e.entry, e.stands, e.named, subst (IsSaidNumber names values (said_of (lead m) m (imports p m) e.entry)) (same_Some e.own own (sym e.noted ∙ noted)) e.number)
    | inr none ↦ absurd (none-some own (sym none.0 ∙ noted))
  ]

  pub is_graph : IsLinkGraph p names values g
  is_graph = record {
    gives = λ m n v x at noted.
        let b = behind m n x (Gives v) at noted in
        let r = number_gives names values (said_of (lead m) m (imports p m) b.0) v b.3 in
        (r.0, r.1, r.2, gives_of_said p m (lead m) (leads m) x b.0 r.0 r.1 b.1 b.2 r.3);
    gave = λ m n x t origin at own.
        let s = said_of_gives p m (lead m) (leads m) x t origin own in
        let e = at_entry m n x at s.0 s.1 s.2 in
        let r = gives_number names values t origin e.0 (subst (λ said. IsSaidNumber names values said e.0) s.3 e.2) in
        (r.0, r.1, e.1 ∙ ap (λ o. Some o) r.2);
    leads = λ m n d k x at noted.
        let b = behind m n x (Leads (d, k)) at noted in
        let r = number_leads names values (said_of (lead m) m (imports p m) b.0) d k b.3 in
        (r.0, r.1, leads_of_said p m (lead m) (leads m) x b.0 d r.0 b.1 b.2 r.2);
    led_on = λ m n d x y at own.
        let s = said_of_leads p m (lead m) (leads m) x d y own in
        let e = at_entry m n x at s.0 s.1 s.2 in
        let r = leads_number names values d y e.0 (subst (λ said. IsSaidNumber names values said e.0) s.3 e.2) in
        (r.0, r.1, e.1 ∙ ap (λ o. Some o) r.2);
    none = λ m n x at. (none_told m n x at, told_none m n x at);
    stars = λ m d. (star_told m d, told_star m d);
    default = w.default;
    one_name = w.one_name;
    one_value = w.one_value;
    all_names = λ m x has. let r = there_of_any (is_named x) (exports p m) has in w.all_names m r.0 x r.1 r.2;
  }
    where
      not_true : (b : Bool) → (b ≡ true → ⊥) → b ≡ false
      not_true true h = absurd (h refl)
      not_true false h = refl

      none_told : (m n : ℕ) (x : Text) → slice_get names n ≡ Some x → own_of g (m, n) ≡ None → has_own_entry (tree_of p m) x ≡ false
      none_told m n x at none = not_true (has_own_entry (tree_of p m) x) (λ has.
          let r = there_of_any (is_named x) (exports p m) has in
          let e = at_entry m n x at r.0 r.1 r.2 in
          none-some e.0 (sym none ∙ e.1))

      told_none : (m n : ℕ) (x : Text) → slice_get names n ≡ Some x → has_own_entry (tree_of p m) x ≡ false → own_of g (m, n) ≡ None
      told_none m n x at none = elim (w.entries m n x at) [
        | inl e ↦ absurd (false≢true (sym none ∙ any_there (is_named x) (exports p m) e.entry e.stands e.named))
        | inr other ↦ other.0
      ]

      star_told : (m d : ℕ) → Contains (stars_of g m) d → Stars p m d
      star_told m d there = let r = (w.stars m d).0 there in record { specifier = r.0; stands = r.1; leads = subst (LeadsIn p m r.0) r.2 (leads m r.0) }

      told_star : (m d : ℕ) → Stars p m d → Contains (stars_of g m) d
      told_star m d star = (w.stars m d).1 (star.specifier, star.stands, lead_is m d star.specifier (lead m star.specifier) refl (leads m star.specifier) star.leads)
        where
          lead_is : (m d : ℕ) (s : Text) (l : Lead) → lead m s ≡ l → LeadsIn p m s l → IsModule p m s d → lead m s ≡ ToModule d
          lead_is m d s Outside e in_p is = absurd (none-some d (sym (outside_none p m s in_p) ∙ is.resolved))
          lead_is m d s (ToModule k) e in_p is = e ∙ ap ToModule (one_module p m s k d in_p.resolved is.resolved)
          lead_is m d s (ToCommonJs c) e in_p is = absurd (is.es (subst (IsCommonJs p) (one_module p m s c d in_p.0 is.resolved) in_p.1))
          lead_is m d s Nowhere e in_p is = absurd (none-some d (sym in_p.1 ∙ is.resolved))

-- ---- elements of lists
pub map_back : {A B : Type 0} (f : A → B) (xs : List A) (y : B) → Contains (map f xs) y → (x : A) × Contains xs x × (f x ≡ y)
map_back f [] y (i, h, e) = absurd (omega arith)
map_back f (x ∷ xs) y (zero, h, e) = (x, (0, omega arith, refl), e)
map_back f (x ∷ xs) y (suc i, h, e) = let r = map_back f xs y (i, omega arith, e) in (r.0, (suc r.1.0, omega (arith, r.1.1), r.1.2), r.2)

pub map_on : {A B : Type 0} (f : A → B) (xs : List A) (x : A) → Contains xs x → Contains (map f xs) (f x)
map_on f [] x (i, h, e) = absurd (omega arith)
map_on f (a ∷ xs) x (zero, h, e) = (0, omega arith, ap f e)
map_on f (a ∷ xs) x (suc i, h, e) = let r = map_on f xs x (i, omega arith, e) in (suc r.0, omega (arith, r.1), r.2)

pub later : {A : Type 0} (a : A) (xs : List A) (x : A) → Contains xs x → Contains (a ∷ xs) x
later a xs x there = (suc there.0, omega (arith, there.1), there.2)

pub first_or_later : {A : Type 0} (a : A) (xs : List A) (x : A) → Contains (a ∷ xs) x → (a ≡ x) ⊎ Contains xs x
first_or_later a xs x (zero, h, e) = inl e
first_or_later a xs x (suc i, h, e) = inr (i, omega arith, e)

pub filter_back : {A : Type 0} (test : A → Bool) (xs : List A) (x : A) → Contains (filter test xs) x → Contains xs x × (test x ≡ true)
filter_back test [] x (i, h, e) = absurd (omega arith)
filter_back {A = A} test (a ∷ xs) x there = by (test a) refl there (filter_back test xs x)
  where
    by : (b : Bool) → test a ≡ b → Contains (cond b (a ∷ filter test xs) (filter test xs)) x → (Contains (filter test xs) x → Contains xs x × (test x ≡ true)) → Contains (a ∷ xs) x × (test x ≡ true)
    by true is there ih = elim (first_or_later a (filter test xs) x there) [
      | inl e ↦ ((0, omega arith, e), subst (λ (y : A). test y ≡ true) e is)
      | inr rest ↦ let r = ih rest in (later a xs x r.0, r.1)
    ]
    by false is there ih = let r = ih there in (later a xs x r.0, r.1)

pub filter_on : {A : Type 0} (test : A → Bool) (xs : List A) (x : A) → Contains xs x → test x ≡ true → Contains (filter test xs) x
filter_on test [] x (i, h, e) is = absurd (omega arith)
filter_on {A = A} test (a ∷ xs) x there is = by (test a) refl (first_or_later a xs x there) (λ rest. filter_on test xs x rest is)
  where
    by : (b : Bool) → test a ≡ b → (a ≡ x) ⊎ Contains xs x → (Contains xs x → Contains (filter test xs) x) → Contains (cond b (a ∷ filter test xs) (filter test xs)) x
    by true at (inl e) ih = (0, omega arith, e)
    by true at (inr rest) ih = later a (filter test xs) x (ih rest)
    by false at (inl e) ih = absurd (false≢true (sym at ∙ ap test e ∙ is))
    by false at (inr rest) ih = ih rest

pub filter_map_back : {A B : Type 0} (h : A → Option B) (xs : List A) (y : B) → Contains (filter_map h xs) y → (x : A) × Contains xs x × (h x ≡ Some y)
filter_map_back h [] y (i, l, e) = absurd (omega arith)
filter_map_back {A = A} {B = B} h (a ∷ xs) y there = by (h a) refl there (filter_map_back h xs y)
  where
    by : (o : Option B) → h a ≡ o → Contains (cons_option o (filter_map h xs)) y → (Contains (filter_map h xs) y → (x : A) × Contains xs x × (h x ≡ Some y)) → (x : A) × Contains (a ∷ xs) x × (h x ≡ Some y)
    by None is there ih = let r = ih there in (r.0, later a xs r.0 r.1, r.2)
    by (Some b) is there ih = elim (first_or_later b (filter_map h xs) y there) [
      | inl e ↦ (a, (0, omega arith, refl), is ∙ ap (λ z. Some z) e)
      | inr rest ↦ let r = ih rest in (r.0, later a xs r.0 r.1, r.2)
    ]

pub filter_map_on : {A B : Type 0} (h : A → Option B) (xs : List A) (x : A) (y : B) → Contains xs x → h x ≡ Some y → Contains (filter_map h xs) y
filter_map_on h [] x y (i, l, e) is = absurd (omega arith)
filter_map_on {A = A} {B = B} h (a ∷ xs) x y there is = by (h a) refl (first_or_later a xs x there) (λ rest. filter_map_on h xs x y rest is)
  where
    by : (o : Option B) → h a ≡ o → (a ≡ x) ⊎ Contains xs x → (Contains xs x → Contains (filter_map h xs) y) → Contains (cons_option o (filter_map h xs)) y
    by None at (inl e) ih = absurd (none-some y (sym at ∙ ap h e ∙ is))
    by None at (inr rest) ih = ih rest
    by (Some b) at (inl e) ih = (0, omega arith, same_Some b y (sym at ∙ ap h e ∙ is))
    by (Some b) at (inr rest) ih = later b (filter_map h xs) y (ih rest)

-- ---- each text once
pub once_back : (texts : List Text) (s : Text) → Contains (each_once texts) s → Contains texts s
once_back [] s (i, h, e) = absurd (omega arith)
once_back (x ∷ texts) s there = elim (first_or_later x (filter (λ y. not (bytes_eq x y)) (each_once texts)) s there) [
  | inl e ↦ (0, omega arith, e)
  | inr rest ↦ later x texts s (once_back texts s (filter_back (λ y. not (bytes_eq x y)) (each_once texts) s rest).0)
]

pub once_on : (texts : List Text) (s : Text) → Contains texts s → Contains (each_once texts) s
once_on [] s (i, h, e) = absurd (omega arith)
once_on (x ∷ texts) s there = by (bytes_eq x s) refl (first_or_later x texts s there) (once_on texts s)
  where
    by : (b : Bool) → bytes_eq x s ≡ b → (x ≡ s) ⊎ Contains texts s → (Contains texts s → Contains (each_once texts) s) → Contains (x ∷ filter (λ y. not (bytes_eq x y)) (each_once texts)) s
    by true is either ih = (0, omega arith, (bytes_eq-Decides x s).0 is)
    by false is (inl e) ih = (0, omega arith, e)
    by false is (inr rest) ih = later x (filter (λ y. not (bytes_eq x y)) (each_once texts)) s (filter_on (λ y. not (bytes_eq x y)) (each_once texts) s (ih rest) (ap not is))

-- ---- stars among entries
star_back : (entries : List ExportEntry) (s : Text) → Contains (flat_map star_of entries) s → Contains entries (Star s)
star_back [] s (i, h, e) = absurd (omega arith)
star_back (entry ∷ rest) s there = by entry (Contains-append_cases (star_of entry) (flat_map star_of rest) s there) (star_back rest s)
  where
    by : (entry : ExportEntry) → Contains (star_of entry) s ⊎ Contains (flat_map star_of rest) s → (Contains (flat_map star_of rest) s → Contains rest (Star s)) → Contains (entry ∷ rest) (Star s)
    by entry (inr more) ih = later entry rest (Star s) (ih more)
    by (Star r) (inl (zero, h, e)) ih = (0, omega arith, ap Star e)
    by (Star r) (inl (suc i, h, e)) ih = absurd (omega arith)
    by (Local x y) (inl (i, h, e)) ih = absurd (omega arith)
    by (Indirect x r taken) (inl (i, h, e)) ih = absurd (omega arith)

star_on : (entries : List ExportEntry) (s : Text) → Contains entries (Star s) → Contains (flat_map star_of entries) s
star_on [] s (i, h, e) = absurd (omega arith)
star_on (entry ∷ rest) s there = elim (first_or_later entry rest (Star s) there) [
  | inl e ↦ Contains-append_left (star_of entry) (flat_map star_of rest) s (subst (λ (it : ExportEntry). Contains (star_of it) s) (sym e) (0, omega arith, refl))
  | inr more ↦ Contains-append_right (star_of entry) (flat_map star_of rest) s (star_on rest s more)
]

-- the stars of a table are those of the exports
pub stars_back : (p : Program) (m : ℕ) (stars : List (Bor Text)) (star : Bor Text) → map (λ it. it.now) stars ≡ each_once (flat_map star_of (exports p m)) → Contains stars star → Contains (exports p m) (Star star.now)
stars_back p m stars star are there = star_back (exports p m) star.now (once_back (flat_map star_of (exports p m)) star.now (subst (λ l. Contains l star.now) are (map_on (λ (it : Bor Text). it.now) stars star there)))

pub stars_on : (p : Program) (m : ℕ) (stars : List (Bor Text)) (s : Text) → map (λ it. it.now) stars ≡ each_once (flat_map star_of (exports p m)) → Contains (exports p m) (Star s) → (star : Bor Text) × Contains stars star × (star.now ≡ s)
stars_on p m stars s are stands = map_back (λ (it : Bor Text). it.now) stars s (subst (λ l. Contains l s) (sym are) (once_on (flat_map star_of (exports p m)) s (star_on (exports p m) s stands)))

-- ---- what modules say
-- where something that is noted comes from
pub record NotedAt (lead : ℕ → Text → Lead) (m : ℕ) (modules : List LinkModule) (entry : NotedEntry) : Type 0 where
  pub place : ℕ
  pub n : ℕ
  pub is_n : n ≡ m + place
  pub its : LinkModule
  pub at : slice_get modules place ≡ Some its
  pub export : Export
  pub there : Contains its.tables.now.exports.items export
  pub same : note (lead n) n (map import_entry_of its.tables.now.imports.items) export ≡ entry

noted_at : (lead : ℕ → Text → Lead) (m : ℕ) (modules : List LinkModule) (entry : NotedEntry) → Contains (all_notes lead m modules) entry → NotedAt lead m modules entry
noted_at lead m [] entry (i, h, e) = absurd (omega arith)
noted_at lead m (its ∷ rest) entry there = elim (Contains-append_cases (notes_of (lead m) m its.tables.now) (all_notes lead (suc m) rest) entry there) [
  | inl here ↦
      let r = map_back (note (lead m) m (map import_entry_of its.tables.now.imports.items)) its.tables.now.exports.items entry here in
      record { place = 0; n = m; is_n = omega arith; its = its; at = refl; export = r.0; there = r.1; same = r.2 }
  | inr more ↦
      let r = noted_at lead (suc m) rest entry more in
      let is : r.n ≡ m + suc r.place = omega (arith, r.is_n) in
      record { place = suc r.place; n = r.n; is_n = is; its = r.its; at = r.at; export = r.export; there = r.there; same = r.same }
]

at_noted : (lead : ℕ → Text → Lead) (m place n : ℕ) (modules : List LinkModule) (its : LinkModule) (export : Export) → n ≡ m + place → slice_get modules place ≡ Some its → Contains its.tables.now.exports.items export → Contains (all_notes lead m modules) (note (lead n) n (map import_entry_of its.tables.now.imports.items) export)
at_noted lead m place n [] its export is at there = absurd (none-some its at)
at_noted lead m zero n (first ∷ rest) its export is at there =
    let one : m ≡ n = omega arith in
    let same : first ≡ its = same_Some first its at in
    Contains-append_left (notes_of (lead m) m first.tables.now) (all_notes lead (suc m) rest) _
    (subst (λ k. Contains (notes_of (lead m) m first.tables.now) (note (lead k) k (map import_entry_of its.tables.now.imports.items) export)) one
    (subst (λ (it : LinkModule). Contains (notes_of (lead m) m it.tables.now) (note (lead m) m (map import_entry_of its.tables.now.imports.items) export)) (sym same)
    (map_on (note (lead m) m (map import_entry_of its.tables.now.imports.items)) its.tables.now.exports.items export there)))
at_noted lead m (suc place) n (first ∷ rest) its export is at there =
    Contains-append_right (notes_of (lead m) m first.tables.now) (all_notes lead (suc m) rest) _ (at_noted lead (suc m) place n rest its export (omega arith) at there)

starred_at : (lead : ℕ → Text → Lead) (m place n : ℕ) (modules : List LinkModule) (its : LinkModule) → n ≡ m + place → slice_get modules place ≡ Some its → slice_index_or (all_starred lead m modules) place [] ≡ starred (lead n) its.tables.now.stars.items
starred_at lead m place n [] its is at = absurd (none-some its at)
starred_at lead m zero n (first ∷ rest) its is at =
    let one : m ≡ n = omega arith in
    ap (λ (it : LinkModule). starred (lead m) it.tables.now.stars.items) (same_Some first its at) ∙ ap (λ k. starred (lead k) its.tables.now.stars.items) one
starred_at lead m (suc place) n (first ∷ rest) its is at = starred_at lead (suc m) place n rest its (omega arith) at

starred_past : (lead : ℕ → Text → Lead) (m place : ℕ) (modules : List LinkModule) → slice_get modules place ≡ None → slice_index_or (all_starred lead m modules) place [] ≡ []
starred_past lead m place [] at = refl
starred_past lead m zero (first ∷ rest) at = absurd (none-some first (sym at))
starred_past lead m (suc place) (first ∷ rest) at = starred_past lead (suc m) place rest at

-- ---- names of entries
named_by : (name : Text) (origin : From) → is_named name (entry_by_origin name origin) ≡ true
named_by name (TheVariants.Local of) = (bytes_eq-Decides name name).1 refl
named_by name (TheVariants.Indirect specifier taken) = (bytes_eq-Decides name name).1 refl

name_is : (x name : Text) (origin : From) → is_named x (entry_by_origin name origin) ≡ true → x ≡ name
name_is x name (TheVariants.Local of) is = (bytes_eq-Decides x name).0 is
name_is x name (TheVariants.Indirect specifier taken) is = (bytes_eq-Decides x name).0 is

no_star : (x : Text) (entry : ExportEntry) → is_named x entry ≡ true → not (is_star entry) ≡ true
no_star x (Local name of) is = refl
no_star x (Indirect name specifier taken) is = refl
no_star x (Star specifier) is = absurd (false≢true is)

module_is : (lead : Lead) (d : ℕ) → module_in lead ≡ Some d → lead ≡ ToModule d
module_is Outside d e = absurd (none-some d e)
module_is (ToModule k) d e = ap ToModule (same_Some k d e)
module_is (ToCommonJs c) d e = absurd (none-some d e)
module_is Nowhere d e = absurd (none-some d e)

-- ---- the program
module _ (p : Program) (kinds : Kinds) (w : AreModulesKnown p kinds) where
  abbrev flags : List Bool
  flags = kinds.common_js.items

  pub leads_right : AreLeads p (lead_in p flags)
  leads_right m s = by (is_external p s) refl
    where
      inside : is_external p s ≡ false → (o : Option ℕ) → p.leads m s ≡ o → LeadsIn p m s (lead_found flags o)
      inside e None none = (e, ap (λ b. if b then None else p.leads m s) e ∙ none)
      inside e (Some d) is = kind (flagged flags d) refl
        where
          resolved : resolves p m s ≡ Some d
          resolved = ap (λ b. if b then None else p.leads m s) e ∙ is

          kind : (b : Bool) → flagged flags d ≡ b → LeadsIn p m s (if b then ToCommonJs d else ToModule d)
          kind true f = (resolved, (w.common_js d).0 f)
          kind false f = record { resolved = resolved; es = λ common. false≢true (sym f ∙ (w.common_js d).1 common) }

      by : (b : Bool) → is_external p s ≡ b → LeadsIn p m s (if b then Outside else lead_found flags (p.leads m s))
      by true e = e
      by false e = inside e (p.leads m s) refl

  pub same_lead : (m : ℕ) (s : Text) → AsksFor p m s → lead_of kinds m s ≡ lead_in p flags m s
  same_lead m s asks =
      ap (λ b. if b then Outside else lead_found flags (required_of kinds.modules.now m s)) (w.outside m s asks)
      ∙ ap (λ o. if is_external p s then Outside else lead_found flags o) (sym (w.leads m s))

  same_said : (m : ℕ) (entry : ExportEntry) → Contains (exports p m) entry → said_of (lead_of kinds m) m (imports p m) entry ≡ said_of (lead_in p flags m) m (imports p m) entry
  same_said m (Local x y) there = by (import_of (imports p m) y) refl
    where
      by : (o : Option ImportEntry) → import_of (imports p m) y ≡ o → said_local (lead_of kinds m) m y o ≡ said_local (lead_in p flags m) m y o
      by None none = refl
      by (Some entry) bound = ap (λ lead. target_only (said_by m entry.specifier (Some (record { which = m; local = y })) entry.taken lead)) (same_lead m entry.specifier (by_import entry (found_in (λ it. bytes_eq it.local y) (imports p m) entry bound)))
  same_said m (Indirect x s taken) there = ap (said_by m s None taken) (same_lead m s (by_entry there))
  same_said m (Star s) there = refl

  -- stars by numbers, where these are the lists of those that modules star
  module _ (g : Graph) (same_lists : g.lists ≡ all_starred (lead_of kinds) 0 kinds.modules.now) where
    its_stars : (m : ℕ) → stars_of g m ≡ slice_index_or (all_starred (lead_of kinds) 0 kinds.modules.now) m []
    its_stars m = ap (λ l. slice_index_or l m []) same_lists

    pub star_from : (m d : ℕ) → Contains (stars_of g m) d → (s : Text) × Contains (exports p m) (Star s) × (lead_in p flags m s ≡ ToModule d)
    star_from m d there = by (slice_get kinds.modules.now m) refl
      where
        by : (o : Option LinkModule) → slice_get kinds.modules.now m ≡ o → (s : Text) × Contains (exports p m) (Star s) × (lead_in p flags m s ≡ ToModule d)
        by None none = let r = subst (λ l. Contains l d) (its_stars m ∙ starred_past (lead_of kinds) 0 m kinds.modules.now none) there in absurd (omega (arith, r.1))
        by (Some its) at =
            let t = w.tables m its at in
            let r = filter_map_back (λ (star : Bor Text). module_in (lead_of kinds m star.now)) its.tables.now.stars.items d (subst (λ l. Contains l d) (its_stars m ∙ starred_at (lead_of kinds) 0 m m kinds.modules.now its (omega arith) at) there) in
            let s = r.0.now in
            let stands = star_back (exports p m) s (once_back (flat_map star_of (exports p m)) s (subst (λ l. Contains l s) t.stars (map_on (λ (star : Bor Text). star.now) its.tables.now.stars.items r.0 r.1))) in
            (s, stands, sym (same_lead m s (by_star stands)) ∙ module_is (lead_of kinds m s) d r.2)

    pub star_to : (m d : ℕ) → (s : Text) × Contains (exports p m) (Star s) × (lead_in p flags m s ≡ ToModule d) → Contains (stars_of g m) d
    star_to m d (s, stands, leads) = by (slice_get kinds.modules.now m) refl
      where
        by : (o : Option LinkModule) → slice_get kinds.modules.now m ≡ o → Contains (stars_of g m) d
        by None none = let r = subst (λ l. Contains l (Star s)) (w.others m none) stands in absurd (omega (arith, r.1))
        by (Some its) at =
            let t = w.tables m its at in
            let r = map_back (λ (star : Bor Text). star.now) its.tables.now.stars.items s (subst (λ l. Contains l s) (sym t.stars) (once_on (flat_map star_of (exports p m)) s (star_on (exports p m) s stands))) in
            let to : module_in (lead_of kinds m r.0.now) ≡ Some d = ap (λ y. module_in (lead_of kinds m y)) r.2 ∙ ap module_in (same_lead m s (by_star stands) ∙ leads) in
            subst (λ l. Contains l d) (sym (its_stars m ∙ starred_at (lead_of kinds) 0 m m kinds.modules.now its (omega arith) at))
            (filter_map_on (λ (star : Bor Text). module_in (lead_of kinds m star.now)) its.tables.now.stars.items r.0 d r.1 to)

  module _ (names : List Text) (values : List Value) (g : Graph) (h : IsGraphNumbered kinds names values g) where
    -- what stands in the program is noted
    noted_of : (m : ℕ) (entry : ExportEntry) (x : Text) → Contains (exports p m) entry → is_named x entry ≡ true → (n : ℕ) × (slice_get names n ≡ Some x) × (own_of g (m, n) ≢ None)
    noted_of m entry x there named = by (slice_get kinds.modules.now m) refl
      where
        by : (o : Option LinkModule) → slice_get kinds.modules.now m ≡ o → (n : ℕ) × (slice_get names n ≡ Some x) × (own_of g (m, n) ≢ None)
        by None none = let r = subst (λ l. Contains l entry) (w.others m none) there in absurd (omega (arith, r.1))
        by (Some its) at =
            let t = w.tables m its at in
            let kept = filter_on (λ it. not (is_star it)) (exports p m) entry there (no_star x entry named) in
            let r = map_back export_entry_of its.tables.now.exports.items entry (subst (λ l. Contains l entry) (sym t.named) kept) in
            let same : x ≡ r.0.name.now = name_is x r.0.name.now r.0.origin (subst (λ it. is_named x it ≡ true) (sym r.2) named) in
            let a = h.all (note (lead_of kinds m) m (map import_entry_of its.tables.now.imports.items) r.0) (at_noted (lead_of kinds) 0 m m kinds.modules.now its r.0 (omega arith) at r.1) in
            (a.0, a.1 ∙ ap (λ y. Some y) (sym same), a.2)

    entry_at : (m n : ℕ) (x : Text) (own : OwnLink) → slice_get names n ≡ Some x → own_of g (m, n) ≡ Some own → EntryAt p (lead_in p flags) names values g m n x
    entry_at m n x own at e =
        let r = h.own m n own e in
        let a = noted_at (lead_of kinds) 0 kinds.modules.now r.0 r.1 in
        let k : a.n ≡ m = ap (λ (it : NotedEntry). it.which) a.same ∙ r.2 in
        let place : a.place ≡ m = omega (arith, a.is_n, k) in
        let t = w.tables m a.its (sym (ap (slice_get kinds.modules.now) place) ∙ a.at) in
        let entry = export_entry_of a.export in
        let stands = (filter_back (λ it. not (is_star it)) (exports p m) entry (subst (λ l. Contains l entry) t.named (map_on export_entry_of a.its.tables.now.exports.items a.export a.there))).0 in
        let name : a.export.name.now ≡ x = ap (λ (it : NotedEntry). it.name) a.same ∙ same_Some r.0.name x (sym r.3 ∙ at) in
        let said : r.0.said ≡ said_of (lead_in p flags m) m (imports p m) entry =
        sym (ap (λ (it : NotedEntry). it.said) a.same)
        ∙ ap (λ i. said_of (lead_of kinds i) i (map import_entry_of a.its.tables.now.imports.items) entry) k
        ∙ ap (λ l. said_of (lead_of kinds m) m l entry) t.imports
        ∙ same_said m entry stands in
        record {
          entry = entry;
          stands = stands;
          named = subst (λ y. is_named y entry ≡ true) name (named_by a.export.name.now a.export.origin);
          own = own;
          noted = e;
          number = subst (λ its. IsSaidNumber names values its own) said r.4;
        }

    pub are_numbers : AreNumbers p (lead_in p flags) names values g
    are_numbers = record {
      entries = λ m n x at. either m n x at (own_of g (m, n)) refl;
      stars = λ m d. (star_from g h.stars m d, star_to g h.stars m d);
      default = h.default;
      one_name = h.one_name;
      one_value = h.one_value;
      all_names = λ m entry x there named. let r = noted_of m entry x there named in (r.0, r.1);
    }
      where
        either : (m n : ℕ) (x : Text) → slice_get names n ≡ Some x → (o : Option OwnLink) → own_of g (m, n) ≡ o → EntryAt p (lead_in p flags) names values g m n x ⊎ ((own_of g (m, n) ≡ None) × ((entry : ExportEntry) → Contains (exports p m) entry → is_named x entry ≡ true → ⊥))
        either m n x at (Some own) e = inl (entry_at m n x own at e)
        either m n x at None none = inr (
          none,
          λ entry there named.
              let r = noted_of m entry x there named in
              let one : r.0 ≡ n = h.one_name r.0 n x r.1 at in
              r.2 (ap (λ i. own_of g (m, i)) one ∙ none),
        )

    -- what is found by these numbers is what the definitions say
    pub is_graph_of : IsLinkGraph p names values g
    is_graph_of = is_graph p (lead_in p flags) names values g leads_right w.once are_numbers

-- ---- one element more

pub some_more : {A B : Type 0} (f : A → Option B) (xs : List A) (i : ℕ) (d : A) → i < length xs → filter_map f (take i xs) ++ cons_option (f (get_or xs i d)) [] ≡ filter_map f (take (i + 1) xs)
some_more f xs i d inside = sym (ap (filter_map f) (take_more xs i d inside) ∙ filter_map-append f (take i xs) (get_or xs i d ∷ []))

numbered_last : {B : Type 0} (f : ℕ → LinkModule → B) (m n : ℕ) (modules : List LinkModule) (its : LinkModule) → n ≡ m + length modules → modules_numbered f m (modules ++ its ∷ []) ≡ modules_numbered f m modules ++ f n its ∷ []
numbered_last f m n [] its is = let here : m ≡ n = omega arith in ap (λ k. f k its ∷ []) here
numbered_last f m n (first ∷ rest) its is = ap (λ l. f m first ∷ l) (numbered_last f (suc m) n rest its (omega arith))

pub numbered_more : {B : Type 0} (f : ℕ → LinkModule → B) (modules : List LinkModule) (n : ℕ) (its : LinkModule) → its ≡ get_or modules n its → n < length modules → modules_numbered f 0 (take n modules) ++ f n its ∷ [] ≡ modules_numbered f 0 (take (n + 1) modules)
numbered_more f modules n its is inside =
    let long : length (take n modules) ≡ n = length-take-le n modules (omega arith) in
    let next : take (n + 1) modules ≡ take n modules ++ its ∷ [] = take_more modules n its inside ∙ ap (λ one. take n modules ++ one ∷ []) (sym is) in
    sym (ap (modules_numbered f 0) next ∙ numbered_last f 0 n (take n modules) its (omega arith))

pub numbered_long : {B : Type 0} (f : ℕ → LinkModule → B) (m : ℕ) (modules : List LinkModule) → length (modules_numbered f m modules) ≡ length modules
numbered_long f m [] = refl
numbered_long f m (its ∷ rest) = ap suc (numbered_long f (suc m) rest)

pub flag_at : (f : ℕ → LinkModule → Bool) (m place n : ℕ) (modules : List LinkModule) (its : LinkModule) → n ≡ m + place → slice_get modules place ≡ Some its → flagged (modules_numbered f m modules) place ≡ f n its
flag_at f m place n [] its is at = absurd (none-some its at)
flag_at f m zero n (first ∷ rest) its is at = let one : m ≡ n = omega arith in ap (λ k. f k first) one ∙ ap (f n) (same_Some first its at)
flag_at f m (suc place) n (first ∷ rest) its is at = flag_at f (suc m) place n rest its (omega arith) at

pub flag_past : (f : ℕ → LinkModule → Bool) (m place : ℕ) (modules : List LinkModule) → slice_get modules place ≡ None → flagged (modules_numbered f m modules) place ≡ false
flag_past f m place [] at = refl
flag_past f m zero (first ∷ rest) at = absurd (none-some first (sym at))
flag_past f m (suc place) (first ∷ rest) at = flag_past f (suc m) place rest at

-- ---- elements by their places
pub got : {A : Type 0} (xs : List A) (x : A) → Contains xs x → (i : ℕ) × (slice_get xs i ≡ Some x)
got [] x (i, h, e) = absurd (omega arith)
got (a ∷ xs) x (zero, h, e) = (0, ap (λ y. Some y) e)
got (a ∷ xs) x (suc i, h, e) = let r = got xs x (i, omega arith, e) in (suc r.0, r.1)

pub got_there : {A : Type 0} (xs : List A) (i : ℕ) (x : A) → slice_get xs i ≡ Some x → Contains xs x
got_there xs i x e = (i, slice_get_within xs i x e, get_or_from_slice_get xs i x x e)

-- a tree uses a name of CommonJS
abbrev pub UsesNames : List Item → Type 0
UsesNames tree = IsTrue (has_free tree (codes "require")) ⊎ (IsTrue (has_free tree (codes "module")) ⊎ IsTrue (has_free tree (codes "exports")))

out_of_range : {A : Type 0} (xs : List A) (i : ℕ) → slice_get xs i ≡ None → i < length xs → ⊥
out_of_range [] i none inside = omega arith
out_of_range (x ∷ xs) zero none inside = none-some x (sym none)
out_of_range (x ∷ xs) (suc i) none inside = out_of_range xs i none (omega arith)

-- what is asked for by a source that is external, and by one that is not
pub external_here : (source : Source) → source.is_external ≡ true → external_one source ≡ source.specifier.now ∷ []
external_here source is = ap (λ b. if b then source.specifier.now ∷ [] else []) is

pub external_none : (source : Source) → source.is_external ≡ false → external_one source ≡ []
external_none source is = ap (λ b. if b then source.specifier.now ∷ [] else []) is

module _ (p : Program) (modules : List LinkModule) (list : List ℕ) (entry : ℕ) (require : Bool) (w : IsLinkProgram p modules list entry require) where
  -- ---- externals
  declared : (m : ℕ) (s : Text) → AsksFor p m s → Contains (declared_requests (tree_of p m)) s
  declared m s (by_import entry there) = import_asks (tree_of p m) entry there
  declared m s (by_entry {x = x} {taken = taken} there) = entry_asks (tree_of p m) x s taken there
  declared m s (by_star there) = star_asks (tree_of p m) s there

  outside_from : (s : Text) → has_text s (externals_of modules) ≡ true → is_external p s ≡ true
  outside_from s is =
      let a = there_of_any (bytes_eq s) (externals_of modules) is in
      let m = flat_back externals_by modules a.0 a.1 in
      let at = got modules m.0 m.1 in
      let r = flat_back external_one m.0.tables.now.sources.items a.0 m.2 in
      let t = w.tables at.0 m.0 at.1 in
      let k = map_back (told_external p.settings.external) (declared_requests (tree_of p at.0)) (source_asked r.0) (subst (λ l. Contains l (source_asked r.0)) t.sources (map_on source_asked m.0.tables.now.sources.items r.0 r.1)) in
      let one = external_is r.0 a.0 r.2 in
      let its : Text × Bool = source_asked r.0 in
      let told : k.0 ≡ its.0 = ap (λ (x : Text × Bool). x.0) k.2 in
      let text : s ≡ k.0 = (bytes_eq-Decides s a.0).0 a.2 ∙ sym one.1 ∙ sym told in
      ap (λ x. has_text x p.settings.external) text ∙ ap (λ (x : Text × Bool). x.1) k.2 ∙ one.0
    where
      external_is : (source : Source) (x : Text) → Contains (external_one source) x → (source.is_external ≡ true) × (source.specifier.now ≡ x)
      external_is source x there = by source.is_external refl there
        where
          by : (b : Bool) → source.is_external ≡ b → Contains (if b then source.specifier.now ∷ [] else []) x → (source.is_external ≡ true) × (source.specifier.now ≡ x)
          by true is there = (is, only_one source.specifier.now x there)
          by false is there = absurd (omega (arith, there.1))

  outside_to : (m : ℕ) (s : Text) → AsksFor p m s → is_external p s ≡ true → has_text s (externals_of modules) ≡ true
  outside_to m s asks is = by (slice_get modules m) refl
    where
      of_source : (source : Source) → source.is_external ≡ true → Contains (external_one source) source.specifier.now
      of_source source is = subst (λ b. Contains (if b then source.specifier.now ∷ [] else []) source.specifier.now) (sym is) (0, omega arith, refl)

      by : (o : Option LinkModule) → slice_get modules m ≡ o → has_text s (externals_of modules) ≡ true
      by None none = let r = subst (λ tree. Contains (declared_requests tree) s) (w.others m none) (declared m s asks) in absurd (omega (arith, r.1))
      by (Some its) at =
          let t = w.tables m its at in
          let k = map_back source_asked its.tables.now.sources.items (told_external p.settings.external s) (subst (λ l. Contains l (told_external p.settings.external s)) (sym t.sources) (map_on (told_external p.settings.external) (declared_requests (tree_of p m)) s (declared m s asks))) in
          let text : k.0.specifier.now ≡ s = ap (λ (x : Text × Bool). x.0) k.2 in
          let external : k.0.is_external ≡ true = ap (λ (x : Text × Bool). x.1) k.2 ∙ is in
          let there : Contains (externals_of modules) s = flat_on externals_by modules its s (got_there modules m its at)
          (flat_on external_one its.tables.now.sources.items k.0 s k.1 (subst (Contains (external_one k.0)) text (of_source k.0 external))) in
          any_there (bytes_eq s) (externals_of modules) s there ((bytes_eq-Decides s s).1 refl)

  pub outside_is : (m : ℕ) (s : Text) → AsksFor p m s → has_text s (externals_of modules) ≡ is_external p s
  outside_is m s asks = bool_same (has_text s (externals_of modules)) (is_external p s) (outside_from s) (outside_to m s asks)

  -- ---- modules that are required
  led : (n c : ℕ) (s : Text) → resolves p n s ≡ Some c → p.leads n s ≡ Some c
  led n c s e = by (is_external p s) e
    where
      by : (b : Bool) → (if b then None else p.leads n s) ≡ Some c → p.leads n s ≡ Some c
      by true e = absurd (none-some c e)
      by false e = e

  linked_inside : (m : ℕ) (call : Entries.RequireCall) → Contains (calls_of p m) call → is_external p call.specifier ≡ false
  linked_inside m call there = by p.settings.require there
    where
      not_true : (b : Bool) → not b ≡ true → b ≡ false
      not_true true h = absurd (false≢true h)
      not_true false h = refl

      by : (b : Bool) → Contains (if b then filter (λ (it : Entries.RequireCall). not (has_text it.specifier p.settings.external)) (require_calls (is_free (tree_of p m)) (tree_of p m)) else []) call → is_external p call.specifier ≡ false
      by true there = not_true (is_external p call.specifier) (filter_back (λ (it : Entries.RequireCall). not (has_text it.specifier p.settings.external)) (require_calls (is_free (tree_of p m)) (tree_of p m)) call there).1
      by false there = absurd (omega (arith, there.1))

  required_is : (c : ℕ) → list_any (nat_eq c) (required_by modules list) ≡ true → IsRequired p c
  required_is c is =
      let a = there_of_any (nat_eq c) (required_by modules list) is in
      let r = flat_back (λ m. required_from (slice_get modules m)) list a.0 a.1 in
      by r.0 ((w.reached r.0).0 r.1) (slice_get modules r.0) refl (subst (Contains (required_from (slice_get modules r.0))) (sym (eqb-true c a.0 a.2)) r.2)
    where
      by : (m : ℕ) → IsReached p m → (o : Option LinkModule) → slice_get modules m ≡ o → Contains (required_from o) c → IsRequired p c
      by m reached None at there = absurd (omega (arith, there.1))
      by m reached (Some its) at there =
          let t = w.tables m its at in
          let k = filter_map_back (modules_called its) its.tables.now.calls.items c there in
          let stands : Contains (calls_of p m) (call_entry_of k.0) = subst (λ l. Contains l (call_entry_of k.0)) t.calls (map_on call_entry_of its.tables.now.calls.items k.0 k.1) in
          let leads : p.leads m k.0.specifier.now ≡ Some c = w.leads m k.0.specifier.now ∙ ap (λ o. leads_from o k.0.specifier.now) at ∙ k.2 in
          (m, reached, record { call = call_entry_of k.0; stands = stands; resolved = ap (λ b. if b then None else p.leads m k.0.specifier.now) (linked_inside m (call_entry_of k.0) stands) ∙ leads })

  is_required : (c : ℕ) → IsRequired p c → list_any (nat_eq c) (required_by modules list) ≡ true
  is_required c (n, reached, requires) = by (slice_get modules n) refl
    where
      leads : required_of modules n requires.call.specifier ≡ Some c
      leads = sym (w.leads n requires.call.specifier) ∙ led n c requires.call.specifier requires.resolved

      by : (o : Option LinkModule) → slice_get modules n ≡ o → list_any (nat_eq c) (required_by modules list) ≡ true
      by None none = absurd (none-some c (sym (ap (λ o. leads_from o requires.call.specifier) none) ∙ leads))
      by (Some its) at =
          let t = w.tables n its at in
          let k = map_back call_entry_of its.tables.now.calls.items requires.call (subst (λ l. Contains l requires.call) (sym t.calls) requires.stands) in
          let its_text : k.0.specifier.now ≡ requires.call.specifier = ap (λ (it : Entries.RequireCall). it.specifier) k.2 in
          let to : modules_called its k.0 ≡ Some c = ap (get_by_text its.leads.now) its_text ∙ sym (ap (λ o. leads_from o requires.call.specifier) at) ∙ leads in
          let there = subst (λ o. Contains (required_from o) c) (sym at) (filter_map_on (modules_called its) its.tables.now.calls.items k.0 c k.1 to) in
          any_there (nat_eq c) (required_by modules list) c (flat_on (λ m. required_from (slice_get modules m)) list n c ((w.reached n).1 reached) there) (eq-eqb c c refl)

  -- ---- kinds
  uses_is : (m : ℕ) (names : Bool) → names ≡ uses_common_js (tree_of p m) → (names ≡ true) ↔ UsesCommonJs p m
  uses_is m names is = (
    λ e. elim (or_cases (has_free (tree_of p m) (codes "require")) (has_free (tree_of p m) (codes "module") || has_free (tree_of p m) (codes "exports")) (sym is ∙ e)) [ inl a ↦ inl a | inr b ↦ inr (or_cases (has_free (tree_of p m) (codes "module")) (has_free (tree_of p m) (codes "exports")) b) ],
    λ uses. is ∙ elim uses [
      | inl a ↦ or_left (has_free (tree_of p m) (codes "require")) (has_free (tree_of p m) (codes "module") || has_free (tree_of p m) (codes "exports")) a
      | inr b ↦ or_right (has_free (tree_of p m) (codes "require")) (has_free (tree_of p m) (codes "module") || has_free (tree_of p m) (codes "exports")) (elim b [ inl c ↦ or_left (has_free (tree_of p m) (codes "module")) (has_free (tree_of p m) (codes "exports")) c | inr d ↦ or_right (has_free (tree_of p m) (codes "module")) (has_free (tree_of p m) (codes "exports")) d ])
    ],
  )

  no_kind : (c : ℕ) → slice_get modules c ≡ None → IsCommonJs p c → ⊥
  no_kind c none is = elim is.used [
    | inl uses ↦ unused (subst UsesNames (w.others c none) uses)
    | inr required ↦
        let inside = w.within required.0 c required.2.call.specifier (led required.0 c required.2.call.specifier required.2.resolved) in
        out_of_range modules c none inside
  ]
    where
      unused : UsesNames [] → ⊥
      unused (inl a) = false≢true a
      unused (inr (inl b)) = false≢true b
      unused (inr (inr c)) = false≢true c

  pub kind_is : (c : ℕ) → TellsCommonJs p c (flagged (kinds_of modules list entry require) c)
  kind_is c = by (slice_get modules c) refl
    where
      by : (o : Option LinkModule) → slice_get modules c ≡ o → TellsCommonJs p c (flagged (kinds_of modules list entry require) c)
      by None none = (
        λ e. absurd (false≢true (sym (flag_past (is_kind require entry (required_by modules list)) 0 c modules none) ∙ e)),
        λ is. absurd (no_kind c none is),
      )
      by (Some its) at =
          let t = w.tables c its at in
          let names = its.tables.now.names_common_js in
          let required = list_any (nat_eq c) (required_by modules list) in
          let told = tells_common_js p c its.tables.now.is_script names required t.script (uses_is c names t.common_js) (required_is c, is_required c) in
          let same : is_kind require entry (required_by modules list) c its ≡ (p.settings.require && (not (c == p.entry) && (its.tables.now.is_script && (names || required)))) =
          ap (λ r. r && (not (c == entry) && (its.tables.now.is_script && (names || required)))) (sym w.requires)
          ∙ ap (λ n. p.settings.require && (not (c == n) && (its.tables.now.is_script && (names || required)))) (sym w.begins) in
          subst (TellsCommonJs p c) (sym (flag_at (is_kind require entry (required_by modules list)) 0 c c modules its (omega arith) at ∙ same)) told

-- what is handed in, and what is found of it, is the program's
pub are_modules : (p : Program) (kinds : Kinds) (require : Bool) → IsLinkProgram p kinds.modules.now kinds.list.now kinds.entry require → HasTexts kinds.externals (externals_of kinds.modules.now) → kinds.common_js.items ≡ kinds_of kinds.modules.now kinds.list.now kinds.entry require → AreModulesKnown p kinds
are_modules p kinds require w texts flags = record {
  tables = w.tables;
  others = λ m none. ap exports_of (w.others m none);
  trees = w.others;
  begins = w.begins;
  leads = w.leads;
  outside = λ m s asks. texts s ∙ outside_is p kinds.modules.now kinds.list.now kinds.entry require w m s asks;
  common_js = λ c. subst (λ l. TellsCommonJs p c (flagged l c)) (sym flags) (kind_is p kinds.modules.now kinds.list.now kinds.entry require w c);
  reached = w.reached;
  once = w.once;
}
