-- Numbers that are put into a set, one by one, are there once, in the order in which they came first.
-- What tables of symbols tell is what targets are called in the program.
-- The externals at the end of chains of stars are found.
-- What is handed over is what is due: which externals are used, which CommonJS modules are loaded, and that what is meant may be taken.
use Rattle.std.proofs.Common.{◌≡◌, ℕ, ◌==◌, Bool, true, false, List, [], ◌∷◌, ◌++◌, append-nil, eqb-true, eq-eqb, nat_eq, refl, ap, sym, ◌∙◌, ◌⊎◌, inl, inr, ◌&&◌, map, Option, Some, None, Contains, subst, option_map, unwrap_or, zero, suc, ◌+◌, ◌<◌, length, take, get_or, arith}
use Rattle.std.specs.Prelude.{◌||◌, filter, not, if◌then◌else◌, IsTrue, bytes_eq, codes, filter_map, find, slice_get, ◌↔◌, flat_map as flat_map_due}
use Rattle.std.specs.List.{list_any, cons_option, flat_map}
use Rattle.std.proofs.lemmas.List.Elements.{filter-append, Contains-append_left, Contains-append_right}
use Rattle.std.specs.Borrow.{Bor}
use Rattle.std.specs.Option.{option_or}
use Rattle.std.proofs.lemmas.Bool.{false≢true}
use Rattle.std.proofs.lemmas.List.Folds.{find-append}
use Rattle.std.proofs.lemmas.Option.{none-some}
use Rattle.std.proofs.lemmas.Slice.Eq.{bytes_eq-Decides}
use Rattle.indexmap.specs.IndexSet.{insert_key}
use Rattle.indexmap.specs.IndexMap.{IndexMap}
use Rattle.bundle_order_graph.specs.Walks.{Reaches, itself, along}
use Rattle.bundle_rules.specs.Nodes.{numbers_once, Text, has_text}
use Rattle.bundle_rules.specs.Entries
use Rattle.bundle_rules.specs.Entries.{ImportEntry, ExportEntry, Local, Indirect, Star, declared_requests}
use Rattle.bundle_rules.specs.Program.{Program, is_external, resolves, tree_of, IsReached}
use Rattle.bundle_rules.specs.Linking
use Rattle.bundle_rules.specs.Linking.{imports, exports, IsCommonJs, HasExternalStar, own, through}
use Rattle.bundle_rules.specs.Symbols.{same_taken, identifier_of, importing, exports_whole, exported_name, name_without_import, taken_name, is_number}
use Rattle.bundle_rules.specs.Tables.{is_star}
use Rattle.bundle_link_index.specs.Given.{IsIn}
use Rattle.bundle_rules.specs.Bundle.{AsksCommonJs, IsUsed, externals}
use Rattle.bundle_link_tables.proofs.MarkLemmas.{or_true, swapped as text-flips, and_false as and-false}
use Rattle.bundle_link_tables.specs.TablesOf.{taken_of, import_entry_of, export_entry_of, entry_by_origin}
use Rattle.bundle_link_tables.specs.declared.table.Export.{Export}
use Rattle.bundle_link_tables.specs.declared.table.ImportRef.{ImportRef}
use Rattle.bundle_link_tables.specs.declared.table.Origin.{Origin}
use Rattle.bundle_link_tables.specs.declared.table.Origin.TheVariants
use Rattle.bundle_link_tables.specs.declared.table.Taken.TheVariants as in_variants
use Rattle.bundle_link_index.specs.declared.kinds.Kinds.{Kinds}
use Rattle.bundle_link_index.specs.declared.target.LinkModule.{LinkModule}
use Rattle.bundle_link_index.specs.declared.target.TargetRef.{TargetRef}
use Rattle.bundle_link_index.specs.Said.{Lead, Outside, ToModule, ToCommonJs, Nowhere, LeadsIn}
use Rattle.bundle_link_index.specs.Leads.{lead_of, lead_found}
use Rattle.bundle_link_index.specs.Programs.{AreModulesKnown, AsksFor, by_import, by_entry, by_star}
use Rattle.bundle_link_index.proofs.ProgramLemmas.{leads_right, same_lead, filter_back as filter-back, later as later-there, map_on as map-on, first_or_later as there-cases, stars_back, stars_on, filter_map_back, filter_map_on, filter_on as filter-on, once_back as once-back, once_on as once-on, any_there, there_of_any, got_there as place-there, got as there-place}
use Rattle.bundle_link_index.proofs.AskedLemmas.{none_there as none-there, flat_back as flat-back, only_one as only-one}
use Rattle.bundle_link_index.specs.Linked.{Stars, StarReaches}
use Rattle.bundle_link_index.proofs.OutsideLemmas.{StarsOutside, common_js_has_none}
use Rattle.bundle_link_index.specs.declared.target.TargetRef.TheVariants as t
use Rattle.bundle_link_targets.specs.Symbols.{AreSymbols, Called, Calls, called_first, exported_by, exports_at, exports_called, imported_by, imports_at, imports_called, name_else, named_as, named_by, named_in, noted_text, same_target, taken_in}
use Rattle.bundle_link_targets.proofs.CallPlaceLemmas.{same-place}
use Rattle.bundle_link_targets.proofs.ListLemmas.{first-there}
use Rattle.bundle_link_targets.proofs.SymbolLemmas.{so-called}
use Rattle.bundle_link_targets.specs.Taken.{PicksThose, nothing, picked, left, starred_as, starred_one, starred_at, starred_in}
use Rattle.bundle_link_targets.proofs.TakenLemmas.{map-more}
use Rattle.bundle_link_targets.proofs.UseLemmas.{nothing-there}
use Rattle.bundle_link_targets.specs.declared.target.Loaded.{Loaded}
use Rattle.bundle_link_targets.specs.Handed.{AreLoadsIn}

-- ---- number
pub swapped : (x y : ℕ) → (x == y) ≡ (y == x)
swapped x y = both (x == y) (y == x) refl refl
  where
    both : (a b : Bool) → (x == y) ≡ a → (y == x) ≡ b → a ≡ b
    both true true one other = refl
    both false false one other = refl
    both true false one other = sym (eq-eqb y x (sym (eqb-true x y one))) ∙ other
    both false true one other = sym one ∙ eq-eqb x y (sym (eqb-true y x other))

numbers_behind : (xs : List ℕ) (y : ℕ) → numbers_once (xs ++ y ∷ []) ≡ (if list_any (nat_eq y) xs then numbers_once xs else numbers_once xs ++ y ∷ [])
numbers_behind [] y = refl
numbers_behind (x ∷ xs) y =
    ap (λ l. x ∷ filter (λ z. not (x == z)) l) (numbers_behind xs y) ∙ step (list_any (nat_eq y) xs) (nat_eq y x) (swapped x y)
  where
    others : ℕ → Bool
    others z = not (x == z)

    kept : List ℕ
    kept = filter others (numbers_once xs)

    last : (same : Bool) → ◌≡◌ {A = List ℕ} (x ∷ (kept ++ (if not same then y ∷ [] else []))) (if (same || false) then x ∷ kept else (x ∷ kept) ++ y ∷ [])
    last true = ap (λ l. x ∷ l) (append-nil kept)
    last false = refl

    step : (there same : Bool) → (x == y) ≡ same → ◌≡◌ {A = List ℕ} (x ∷ filter others (if there then numbers_once xs else numbers_once xs ++ y ∷ [])) (if (same || there) then x ∷ kept else (x ∷ kept) ++ y ∷ [])
    step true same is = ap (λ b. if b then x ∷ kept else (x ∷ kept) ++ y ∷ []) (sym (or_true same))
    step false same is = ap (λ l. x ∷ l) (filter-append others (numbers_once xs) (y ∷ []) ∙ ap (λ b. kept ++ (if not b then y ∷ [] else [])) is) ∙ last same

any_others : (x y : ℕ) (l : List ℕ) → (y == x) ≡ false → list_any (nat_eq y) (filter (λ z. not (x == z)) l) ≡ list_any (nat_eq y) l
any_others x y [] other = refl
any_others x y (z ∷ l) other = step (any_others x y l other) (x == z) refl
  where
    step : list_any (nat_eq y) (filter (λ z. not (x == z)) l) ≡ list_any (nat_eq y) l → (same : Bool) → (x == z) ≡ same → list_any (nat_eq y) (if not same then z ∷ filter (λ z. not (x == z)) l else filter (λ z. not (x == z)) l) ≡ list_any (nat_eq y) (z ∷ l)
    step rest true is = rest ∙ ap (λ b. b || list_any (nat_eq y) l) (sym (ap (nat_eq y) (sym (eqb-true x z is)) ∙ other))
    step rest false is = ap (λ b. nat_eq y z || b) rest

any_once : (y : ℕ) (xs : List ℕ) → list_any (nat_eq y) (numbers_once xs) ≡ list_any (nat_eq y) xs
any_once y [] = refl
any_once y (x ∷ xs) = step (any_once y xs) (y == x) refl
  where
    step : list_any (nat_eq y) (numbers_once xs) ≡ list_any (nat_eq y) xs → (same : Bool) → (y == x) ≡ same → (same || list_any (nat_eq y) (filter (λ z. not (x == z)) (numbers_once xs))) ≡ (same || list_any (nat_eq y) xs)
    step rest true is = refl
    step rest false is = any_others x y (numbers_once xs) is ∙ rest

pub numbers_put : (seen old new : List ℕ) (n : ℕ) → new ≡ insert_key nat_eq old n → old ≡ numbers_once seen → new ≡ numbers_once (seen ++ n ∷ [])
numbers_put seen old new n put before =
    put
    ∙ ap (λ ks. if list_any (nat_eq n) ks then ks else ks ++ n ∷ []) before
    ∙ ap (λ b. if b then numbers_once seen else numbers_once seen ++ n ∷ []) (any_once n seen)
    ∙ sym (numbers_behind seen n)

-- ---- one of a list
-- whether this is the target
abbrev pub matches : Linking.Target → Option Linking.Target → Bool
matches target None = false
matches target (Some u) = same_target target u

called-one : (target : Linking.Target) (o : Option Linking.Target) (s : Text) (rest : List Called) → called_first target (cons_option (option_map (so-called s) o) rest) ≡ (if matches target o then Some s else called_first target rest)
called-one target None s rest = refl
called-one target (Some u) s rest = by (same_target target u)
  where
    by : (b : Bool) → option_map (λ (p : Called). p.1) (if b then Some (u, s) else find (λ (p : Called). same_target target p.0) rest) ≡ (if b then Some s else called_first target rest)
    by true = refl
    by false = refl

or-map : {A B : Type 0} (f : A → B) (a b : Option A) → option_map f (option_or a b) ≡ option_or (option_map f a) (option_map f b)
or-map f None b = refl
or-map f (Some x) b = refl

called-append : (target : Linking.Target) (xs ys : List Called) → called_first target (xs ++ ys) ≡ option_or (called_first target xs) (called_first target ys)
called-append target xs ys = ap (option_map (λ (p : Called). p.1)) (find-append (λ (p : Called). same_target target p.0) xs ys) ∙ or-map (λ (p : Called). p.1) (find (λ (p : Called). same_target target p.0) xs) (find (λ (p : Called). same_target target p.0) ys)

find-if : {A B : Type 0} (f : A → B) (b : Bool) (x : A) (rest : Option A) → option_map f (if b then Some x else rest) ≡ (if b then Some (f x) else option_map f rest)
find-if f true x rest = refl
find-if f false x rest = refl

find-never : {A : Type 0} (test : A → Bool) (xs : List A) → ((x : A) → test x ≡ false) → find test xs ≡ None
find-never test [] never = refl
find-never test (x ∷ xs) never = ap (λ b. if b then Some x else find test xs) (never x) ∙ find-never test xs never

and-true : (b : Bool) → (b && true) ≡ b
and-true true = refl
and-true false = refl

taken-flips : (a b : Entries.Taken) → same_taken a b ≡ same_taken b a
taken-flips (Entries.Named x) (Entries.Named y) = text-flips x y
taken-flips (Entries.Named x) Entries.Whole = refl
taken-flips Entries.Whole (Entries.Named y) = refl
taken-flips Entries.Whole Entries.Whole = refl

-- what exports of the whole call what is taken
abbrev by-exports : (Text → Bool) → Entries.Taken → List ExportEntry → Option Text
by-exports asks Entries.Whole entries = option_map (λ entry. identifier_of (exported_name entry)) (find (exports_whole asks) entries)
by-exports asks (Entries.Named x) entries = None

final-name : (a b : Option Text) (asks : Text → Bool) (taken : Entries.Taken) (entries : List ExportEntry) → b ≡ by-exports asks taken entries → unwrap_or (option_or a b) (name_else taken) ≡ unwrap_or a (name_without_import asks taken entries)
final-name (Some x) b asks taken entries is = refl
final-name None b asks (Entries.Named x) entries is = ap (λ o. unwrap_or o (identifier_of x)) is
final-name None b asks Entries.Whole entries is = ap (λ o. unwrap_or o (codes "name")) is ∙ by (find (exports_whole asks) entries)
  where
    by : (found : Option ExportEntry) → unwrap_or (option_map (λ entry. identifier_of (exported_name entry)) found) (codes "name") ≡ identifier_of (unwrap_or (option_map exported_name found) [])
    by None = refl
    by (Some entry) = refl

star-passed : (asks : Text → Bool) (entries : List ExportEntry) → find (exports_whole asks) (filter (λ entry. not (is_star entry)) entries) ≡ find (exports_whole asks) entries
star-passed asks [] = refl
star-passed asks (Star s ∷ entries) = star-passed asks entries
star-passed asks (Local name of ∷ entries) = star-passed asks entries
star-passed asks (Indirect name s (Entries.Named y) ∷ entries) = star-passed asks entries
star-passed asks (Indirect name s Entries.Whole ∷ entries) = ap (λ o. if asks s then Some (Indirect name s Entries.Whole) else o) (star-passed asks entries)

module _ (p : Program) (kinds : Kinds) (are : AreModulesKnown p kinds) where
  leads : (m : ℕ) (s : Text) → AsksFor p m s → LeadsIn p m s (lead_of kinds m s)
  leads m s asks = subst (LeadsIn p m s) (sym (same_lead p kinds are m s asks)) (leads_right p kinds are m s)

  -- in m the test and what is taken tell the target
  pub record Tells (target : Linking.Target) (taken : Entries.Taken) (asks : Text → Bool) (m : ℕ) : Type 0 where
    pub step : (s : Text) (its : Entries.Taken) → AsksFor p m s → matches target (named_as kinds m s its) ≡ (asks s && same_taken its taken)

  -- ---- a module
  module _ (target : Linking.Target) (taken : Entries.Taken) (asks : Text → Bool) (m : ℕ) (tells : Tells target taken asks m) where
    each-import : (is : List ImportRef) → ((i : ImportRef) → Contains is i → AsksFor p m i.specifier.now) → called_first target (filter_map (imported_by kinds m) is) ≡ option_map (λ entry. entry.local) (importing asks taken (map import_entry_of is))
    each-import [] asked = refl
    each-import (i ∷ is) asked =
        called-one target (named_as kinds m i.specifier.now (taken_of i.taken)) i.local.now (filter_map (imported_by kinds m) is)
        ∙ ap (λ b. if b then Some i.local.now else called_first target (filter_map (imported_by kinds m) is)) (tells.step i.specifier.now (taken_of i.taken) (asked i (first-there i is)))
        ∙ ap (λ x. if asks i.specifier.now && same_taken (taken_of i.taken) taken then Some i.local.now else x) (each-import is (λ j there. asked j (later-there i is j there)))
        ∙ sym (find-if (λ (entry : ImportEntry). entry.local) (asks i.specifier.now && same_taken (taken_of i.taken) taken) (import_entry_of i) (importing asks taken (map import_entry_of is)))

    one-export : (taken ≡ Entries.Whole) ⊎ ((x : Text) × (taken ≡ Entries.Named x)) → (export : Export) (rest : List Called) (entries : List ExportEntry) → ((x s : Text) (its : Entries.Taken) → export_entry_of export ≡ Indirect x s its → AsksFor p m s) → called_first target rest ≡ by-exports asks taken entries → called_first target (cons_option (exported_by kinds m export) rest) ≡ by-exports asks taken (export_entry_of export ∷ entries)
    one-export which export rest entries asked before = by export.origin refl which
      where
        passed : (name : Text) (entry : ExportEntry) → exports_whole asks entry ≡ false → by-exports asks taken entries ≡ by-exports asks taken (entry ∷ entries)
        passed name entry none = over taken
          where
            over : (what : Entries.Taken) → by-exports asks what entries ≡ by-exports asks what (entry ∷ entries)
            over (Entries.Named x) = refl
            over Entries.Whole = ap (λ (b : Bool). option_map (λ (it : ExportEntry). identifier_of (exported_name it)) (if b then Some entry else find (exports_whole asks) entries)) (sym none)

        by : (origin : Origin) → export.origin ≡ origin → (taken ≡ Entries.Whole) ⊎ ((x : Text) × (taken ≡ Entries.Named x)) → called_first target (cons_option (option_map (so-called (identifier_of export.name.now)) (taken_in kinds m origin)) rest) ≡ by-exports asks taken (entry_by_origin export.name.now origin ∷ entries)
        by (TheVariants.Local of) at which = before ∙ passed export.name.now (Local export.name.now of.now) refl
        by (TheVariants.Indirect s (in_variants.Named y)) at which = before ∙ passed export.name.now (Indirect export.name.now s.now (Entries.Named y.now)) refl
        by (TheVariants.Indirect s in_variants.Whole) at which =
            called-one target (named_as kinds m s.now Entries.Whole) (identifier_of export.name.now) rest
            ∙ ap (λ b. if b then Some (identifier_of export.name.now) else called_first target rest) (tells.step s.now Entries.Whole (asked export.name.now s.now Entries.Whole (ap (entry_by_origin export.name.now) at)))
            ∙ ap (λ x. if asks s.now && same_taken Entries.Whole taken then Some (identifier_of export.name.now) else x) before
            ∙ ends which
          where
            ends : (taken ≡ Entries.Whole) ⊎ ((x : Text) × (taken ≡ Entries.Named x)) → (if asks s.now && same_taken Entries.Whole taken then Some (identifier_of export.name.now) else by-exports asks taken entries) ≡ by-exports asks taken (Indirect export.name.now s.now Entries.Whole ∷ entries)
            ends (inl whole) = subst (λ what. (if asks s.now && same_taken Entries.Whole what then Some (identifier_of export.name.now) else by-exports asks what entries) ≡ by-exports asks what (Indirect export.name.now s.now Entries.Whole ∷ entries)) (sym whole)
                (ap (λ (b : Bool). if b then Some (identifier_of export.name.now) else by-exports asks Entries.Whole entries) (and-true (asks s.now)) ∙ sym (find-if (λ (it : ExportEntry). identifier_of (exported_name it)) (asks s.now) (Indirect export.name.now s.now Entries.Whole) (find (exports_whole asks) entries)))
            ends (inr named) = subst (λ what. (if asks s.now && same_taken Entries.Whole what then Some (identifier_of export.name.now) else by-exports asks what entries) ≡ by-exports asks what (Indirect export.name.now s.now Entries.Whole ∷ entries)) (sym named.1)
                (ap (λ (b : Bool). if b then Some (identifier_of export.name.now) else None) (and-false (asks s.now)))

    which-taken : (what : Entries.Taken) → (what ≡ Entries.Whole) ⊎ ((x : Text) × (what ≡ Entries.Named x))
    which-taken Entries.Whole = inl refl
    which-taken (Entries.Named x) = inr (x, refl)

    nothing-exported : (what : Entries.Taken) → None ≡ by-exports asks what []
    nothing-exported Entries.Whole = refl
    nothing-exported (Entries.Named x) = refl

    each-export : (xs : List Export) → ((x : Export) → Contains xs x → (name s : Text) (its : Entries.Taken) → export_entry_of x ≡ Indirect name s its → AsksFor p m s) → called_first target (filter_map (exported_by kinds m) xs) ≡ by-exports asks taken (map export_entry_of xs)
    each-export [] asked = nothing-exported taken
    each-export (x ∷ xs) asked = one-export (which-taken taken) x (filter_map (exported_by kinds m) xs) (map export_entry_of xs) (asked x (first-there x xs)) (each-export xs (λ y there. asked y (later-there x xs y there)))

    pub imports-tell : called_first target (imports_called kinds m) ≡ option_map (λ entry. entry.local) (importing asks taken (imports p m))
    imports-tell = by (slice_get kinds.modules.now m) refl
      where
        by : (found : Option LinkModule) → slice_get kinds.modules.now m ≡ found → called_first target (imports_at kinds m found) ≡ option_map (λ entry. entry.local) (importing asks taken (imports p m))
        by None none = sym (ap (λ tree. option_map (λ (entry : ImportEntry). entry.local) (importing asks taken (Entries.imports_of tree))) (are.trees m none))
        by (Some its) at =
            let table = (are.tables m its at).imports in
            each-import its.tables.now.imports.items (λ i there. by_import (import_entry_of i) (subst (λ l. Contains l (import_entry_of i)) table (map-on import_entry_of its.tables.now.imports.items i there)))
            ∙ ap (λ l. option_map (λ (entry : ImportEntry). entry.local) (importing asks taken l)) table

    pub exports-tell : called_first target (exports_called kinds m) ≡ by-exports asks taken (exports p m)
    exports-tell = by (slice_get kinds.modules.now m) refl
      where
        stars-over : (what : Entries.Taken) → by-exports asks what (filter (λ entry. not (is_star entry)) (exports p m)) ≡ by-exports asks what (exports p m)
        stars-over Entries.Whole = ap (option_map (λ (it : ExportEntry). identifier_of (exported_name it))) (star-passed asks (exports p m))
        stars-over (Entries.Named x) = refl

        by : (found : Option LinkModule) → slice_get kinds.modules.now m ≡ found → called_first target (exports_at kinds m found) ≡ by-exports asks taken (exports p m)
        by None none = nothing-exported taken ∙ ap (by-exports asks taken) (sym (are.others m none))
        by (Some its) at =
            let table = (are.tables m its at).named in
            each-export its.tables.now.exports.items (λ x there name s taken is. by_entry (subst (Contains (exports p m)) is (filter-back (λ (entry : ExportEntry). not (is_star entry)) (exports p m) (export_entry_of x) (subst (λ l. Contains l (export_entry_of x)) table (map-on export_entry_of its.tables.now.exports.items x there))).0))
            ∙ ap (by-exports asks taken) table ∙ stars-over taken

  -- ---- of an external
  not-outside : (m d : ℕ) (s : Text) → IsTrue (is_external p s) → resolves p m s ≡ Some d → ⊥
  not-outside m d s external is = none-some d (sym (ap (λ b. if b then None else p.leads m s) external) ∙ is)

  not-asked : (s r : Text) → IsTrue (is_external p s) → (IsTrue (is_external p r) → ⊥) → bytes_eq s r ≡ false
  not-asked s r external never = by (bytes_eq s r) refl
    where
      by : (b : Bool) → bytes_eq s r ≡ b → bytes_eq s r ≡ false
      by true is = absurd (never (subst (λ x. IsTrue (is_external p x)) ((bytes_eq-Decides s r).0 is) external))
      by false is = is

  external-tells : (s : Text) (taken : Entries.Taken) → IsTrue (is_external p s) → (m : ℕ) → Tells (Linking.External s taken) taken (bytes_eq s) m
  external-tells s taken external m = record { step = λ r its asks. by r its (lead_of kinds m r) (leads m r asks) }
    where
      other : (r : Text) (its : Entries.Taken) → (IsTrue (is_external p r) → ⊥) → false ≡ (bytes_eq s r && same_taken its taken)
      other r its never = sym (ap (λ b. b && same_taken its taken) (not-asked s r external never))

      by : (r : Text) (its : Entries.Taken) (lead : Lead) → LeadsIn p m r lead → matches (Linking.External s taken) (named_by m r its lead) ≡ (bytes_eq s r && same_taken its taken)
      by r its Outside is = ap (λ b. bytes_eq s r && b) (taken-flips taken its)
      by r its (ToModule d) is = other r its (λ outside. not-outside m d r outside is.resolved)
      by r its (ToCommonJs d) is = other r its (λ outside. not-outside m d r outside is.0)
      by r its Nowhere is = other r its (λ outside. false≢true (sym is.0 ∙ outside))

  imports-of-all : (target : Linking.Target) (taken : Entries.Taken) (asks : Text → Bool) → ((m : ℕ) → Tells target taken asks m) → (list : List ℕ) → called_first target (flat_map (imports_called kinds) list) ≡ option_map (λ entry. entry.local) (importing asks taken (flat_map (imports p) list))
  imports-of-all target taken asks tells [] = refl
  imports-of-all target taken asks tells (m ∷ list) =
      called-append target (imports_called kinds m) (flat_map (imports_called kinds) list)
      ∙ ap (λ x. option_or x (called_first target (flat_map (imports_called kinds) list))) (imports-tell target taken asks m (tells m))
      ∙ ap (option_or (option_map (λ (entry : ImportEntry). entry.local) (importing asks taken (imports p m)))) (imports-of-all target taken asks tells list)
      ∙ sym (or-map (λ (entry : ImportEntry). entry.local) (importing asks taken (imports p m)) (importing asks taken (flat_map (imports p) list)))
      ∙ sym (ap (option_map (λ (entry : ImportEntry). entry.local)) (find-append (λ (entry : ImportEntry). asks entry.specifier && same_taken entry.taken taken) (imports p m) (flat_map (imports p) list)))

  exports-append : (asks : Text → Bool) (what : Entries.Taken) (xs ys : List ExportEntry) → by-exports asks what (xs ++ ys) ≡ option_or (by-exports asks what xs) (by-exports asks what ys)
  exports-append asks (Entries.Named x) xs ys = refl
  exports-append asks Entries.Whole xs ys = ap (option_map (λ (it : ExportEntry). identifier_of (exported_name it))) (find-append (exports_whole asks) xs ys) ∙ or-map (λ (it : ExportEntry). identifier_of (exported_name it)) (find (exports_whole asks) xs) (find (exports_whole asks) ys)

  exports-of-none : (asks : Text → Bool) (what : Entries.Taken) → None ≡ by-exports asks what []
  exports-of-none asks Entries.Whole = refl
  exports-of-none asks (Entries.Named x) = refl

  exports-of-all : (target : Linking.Target) (taken : Entries.Taken) (asks : Text → Bool) → ((m : ℕ) → Tells target taken asks m) → (list : List ℕ) → called_first target (flat_map (exports_called kinds) list) ≡ by-exports asks taken (flat_map (exports p) list)
  exports-of-all target taken asks tells [] = exports-of-none asks taken
  exports-of-all target taken asks tells (m ∷ list) =
      called-append target (exports_called kinds m) (flat_map (exports_called kinds) list)
      ∙ ap (λ x. option_or x (called_first target (flat_map (exports_called kinds) list))) (exports-tell target taken asks m (tells m))
      ∙ ap (option_or (by-exports asks taken (exports p m))) (exports-of-all target taken asks tells list)
      ∙ sym (exports-append asks taken (exports p m) (flat_map (exports p) list))

  -- ---- of a CommonJS module
  common-tells : (m c : ℕ) (taken : Entries.Taken) → IsCommonJs p c → Tells (Linking.CommonJs m c taken) taken (λ s. is_number (resolves p m s) c) m
  common-tells m c taken common = record { step = λ r its asks. by r its (lead_of kinds m r) (leads m r asks) }
    where
      nowhere : (r : Text) (its : Entries.Taken) → resolves p m r ≡ None → false ≡ (is_number (resolves p m r) c && same_taken its taken)
      nowhere r its none = sym (ap (λ o. is_number o c && same_taken its taken) none)

      another : (d : ℕ) → (IsCommonJs p d → ⊥) → (d == c) ≡ false
      another d es = go (d == c) refl
        where
          go : (b : Bool) → (d == c) ≡ b → (d == c) ≡ false
          go true is = absurd (es (subst (IsCommonJs p) (sym (eqb-true d c is)) common))
          go false is = is

      by : (r : Text) (its : Entries.Taken) (lead : Lead) → LeadsIn p m r lead → matches (Linking.CommonJs m c taken) (named_by m r its lead) ≡ (is_number (resolves p m r) c && same_taken its taken)
      by r its Outside is = nowhere r its (ap (λ b. if b then None else p.leads m r) is)
      by r its (ToModule d) is = sym (ap (λ o. is_number o c && same_taken its taken) is.resolved ∙ ap (λ b. b && same_taken its taken) (another d is.es))
      by r its (ToCommonJs d) is =
          ap (λ b. b && ((c == d) && same_taken taken its)) (eq-eqb m m refl)
          ∙ ap (λ b. b && same_taken taken its) (swapped c d) ∙ ap (λ b. (d == c) && b) (taken-flips taken its)
          ∙ sym (ap (λ o. is_number o c && same_taken its taken) is.0)
      by r its Nowhere is = nowhere r its is.1

  -- in another module nothing is the target
  other-tells : (m c n : ℕ) (taken : Entries.Taken) → (n ≡ m → ⊥) → Tells (Linking.CommonJs m c taken) taken (λ s. false) n
  other-tells m c n taken other = record { step = λ r its asks. by r its (lead_of kinds n r) }
    where
      apart : (m == n) ≡ false
      apart = go (m == n) refl
        where
          go : (b : Bool) → (m == n) ≡ b → (m == n) ≡ false
          go true is = absurd (other (sym (eqb-true m n is)))
          go false is = is

      by : (r : Text) (its : Entries.Taken) (lead : Lead) → matches (Linking.CommonJs m c taken) (named_by n r its lead) ≡ false
      by r its Outside = refl
      by r its (ToModule d) = refl
      by r its (ToCommonJs d) = ap (λ b. b && ((c == d) && same_taken taken its)) apart
      by r its Nowhere = refl

  no-imports : (m c n : ℕ) (taken : Entries.Taken) → (n ≡ m → ⊥) → called_first (Linking.CommonJs m c taken) (imports_called kinds n) ≡ None
  no-imports m c n taken other =
      imports-tell (Linking.CommonJs m c taken) taken (λ s. false) n (other-tells m c n taken other)
      ∙ ap (option_map (λ (entry : ImportEntry). entry.local)) (find-never (λ (entry : ImportEntry). false && same_taken entry.taken taken) (imports p n) (λ entry. refl))

  no-exports : (m c n : ℕ) (taken : Entries.Taken) → (n ≡ m → ⊥) → called_first (Linking.CommonJs m c taken) (exports_called kinds n) ≡ None
  no-exports m c n taken other = exports-tell (Linking.CommonJs m c taken) taken (λ s. false) n (other-tells m c n taken other) ∙ never taken
    where
      never-whole : (entry : ExportEntry) → exports_whole (λ s. false) entry ≡ false
      never-whole (Local name of) = refl
      never-whole (Indirect name s Entries.Whole) = refl
      never-whole (Indirect name s (Entries.Named x)) = refl
      never-whole (Star s) = refl

      never : (what : Entries.Taken) → by-exports (λ s. false) what (exports p n) ≡ None
      never (Entries.Named x) = refl
      never Entries.Whole = ap (option_map (λ (it : ExportEntry). identifier_of (exported_name it))) (find-never (exports_whole (λ s. false)) (exports p n) never-whole)

  -- only one of the modules calls the target
  module _ (target : Linking.Target) (f : ℕ → List Called) (m : ℕ) (x : Option Text) (here : called_first target (f m) ≡ x) (others : (n : ℕ) → (n ≡ m → ⊥) → called_first target (f n) ≡ None) where
    or-itself : (o : Option Text) → option_or o o ≡ o
    or-itself None = refl
    or-itself (Some y) = refl

    or-none : (o : Option Text) → option_or o None ≡ o
    or-none None = refl
    or-none (Some y) = refl

    first : (n : ℕ) (list : List ℕ) (y : Option Text) → called_first target (f n) ≡ y → called_first target (flat_map f (n ∷ list)) ≡ option_or y (called_first target (flat_map f list))
    first n list y is = called-append target (f n) (flat_map f list) ∙ ap (λ z. option_or z (called_first target (flat_map f list))) is

    at : (n : ℕ) → n ≡ m → called_first target (f n) ≡ x
    at n same = ap (λ k. called_first target (f k)) same ∙ here

    either : (list : List ℕ) → (called_first target (flat_map f list) ≡ x) ⊎ (called_first target (flat_map f list) ≡ None)
    either [] = inr refl
    either (n ∷ list) = by (same-place n m) (either list)
      where
        by : (n ≡ m) ⊎ (n ≡ m → ⊥) → (called_first target (flat_map f list) ≡ x) ⊎ (called_first target (flat_map f list) ≡ None) → (called_first target (flat_map f (n ∷ list)) ≡ x) ⊎ (called_first target (flat_map f (n ∷ list)) ≡ None)
        by (inl same) (inl more) = inl (first n list x (at n same) ∙ ap (option_or x) more ∙ or-itself x)
        by (inl same) (inr none) = inl (first n list x (at n same) ∙ ap (option_or x) none ∙ or-none x)
        by (inr other) (inl more) = inl (first n list None (others n other) ∙ more)
        by (inr other) (inr none) = inr (first n list None (others n other) ∙ none)

    one-of : (list : List ℕ) → Contains list m → called_first target (flat_map f list) ≡ x
    one-of [] there = none-there m there
    one-of (n ∷ list) there = by (same-place n m) (either list) (one-of list)
      where
        by : (n ≡ m) ⊎ (n ≡ m → ⊥) → (called_first target (flat_map f list) ≡ x) ⊎ (called_first target (flat_map f list) ≡ None) → (Contains list m → called_first target (flat_map f list) ≡ x) → called_first target (flat_map f (n ∷ list)) ≡ x
        by (inl same) (inl more) rest = first n list x (at n same) ∙ ap (option_or x) more ∙ or-itself x
        by (inl same) (inr none) rest = first n list x (at n same) ∙ ap (option_or x) none ∙ or-none x
        by (inr other) more rest = first n list None (others n other) ∙ elim (there-cases n list m there) [ inl same ↦ absurd (other same) | inr later ↦ rest later ]

  -- ---- all together
  symbol-is : (target : Linking.Target) (taken : Entries.Taken) (asks : Text → Bool) (is : List ImportEntry) (xs : List ExportEntry) (found : Option Text) → found ≡ called_first target (named_in kinds) → called_first target (flat_map (imports_called kinds) kinds.list.now) ≡ option_map (λ entry. entry.local) (importing asks taken is) → called_first target (flat_map (exports_called kinds) kinds.list.now) ≡ by-exports asks taken xs → unwrap_or found (name_else taken) ≡ taken_name asks taken is xs
  symbol-is target taken asks is xs found calls imported exported =
      ap (λ x. unwrap_or x (name_else taken)) (calls ∙ called-append target (flat_map (imports_called kinds) kinds.list.now) (flat_map (exports_called kinds) kinds.list.now) ∙ ap (λ x. option_or x (called_first target (flat_map (exports_called kinds) kinds.list.now))) imported)
      ∙ final-name (option_map (λ (entry : ImportEntry). entry.local) (importing asks taken is)) (called_first target (flat_map (exports_called kinds) kinds.list.now)) asks taken xs exported

  pub are-symbols : {S : Type 0} (symbols : IndexMap TargetRef (Bor Text) S) → Calls symbols (named_in kinds) → AreSymbols p kinds.list.now symbols
  are-symbols symbols calls (t.Declared m x) outside takable = absurd outside
  are-symbols symbols calls (t.Namespace m) outside takable = absurd outside
  are-symbols symbols calls (t.External s its) outside takable =
      let tells = external-tells s.now (taken_of its) takable in
      symbol-is (Linking.External s.now (taken_of its)) (taken_of its) (bytes_eq s.now) (flat_map (imports p) kinds.list.now) (flat_map (exports p) kinds.list.now) (noted_text symbols (t.External s its)) (calls (t.External s its))
      (imports-of-all (Linking.External s.now (taken_of its)) (taken_of its) (bytes_eq s.now) tells kinds.list.now)
      (exports-of-all (Linking.External s.now (taken_of its)) (taken_of its) (bytes_eq s.now) tells kinds.list.now)
  are-symbols symbols calls (t.CommonJs m c its) outside takable =
      let target : Linking.Target = Linking.CommonJs m c (taken_of its) in
      let asks : Text → Bool = λ s. is_number (resolves p m s) c in
      let listed = (are.reached m).1 takable.0 in
      let tells = common-tells m c (taken_of its) takable.1 in
      symbol-is target (taken_of its) asks (imports p m) (exports p m) (noted_text symbols (t.CommonJs m c its)) (calls (t.CommonJs m c its))
      (one-of target (imports_called kinds) m (option_map (λ (entry : ImportEntry). entry.local) (importing asks (taken_of its) (imports p m))) (imports-tell target (taken_of its) asks m tells) (λ n other. no-imports m c n (taken_of its) other) kinds.list.now listed)
      (one-of target (exports_called kinds) m (by-exports asks (taken_of its) (exports p m)) (exports-tell target (taken_of its) asks m tells) (λ n other. no-exports m c n (taken_of its) other) kinds.list.now listed)

-- ---- one more of what passes a test
pub filter-step : {X : Type 0} (test : Text → Bool) (f : X → Text) (xs : List X) (i : ℕ) (its : X) → its ≡ get_or xs i its → i < length xs → filter test (map f (take (i + 1) xs)) ≡ filter test (map f (take i xs)) ++ (if test (f its) then f its ∷ [] else [])
filter-step test f xs i its is h =
    ap (filter test) (map-more f xs i its h) ∙ filter-append test (map f (take i xs)) (f (get_or xs i its) ∷ [])
    ∙ ap (λ y. filter test (map f (take i xs)) ++ (if test (f y) then f y ∷ [] else [])) (sym is)

-- what passes is picked
pub picks-filter : {A : Type 0} (Has : A → Type 0) (test : A → Bool) → ((x : A) → (test x ≡ true) ↔ Has x) → (xs : List A) → PicksThose Has xs (filter test xs)
picks-filter Has test tells [] = nothing
picks-filter {A = A} Has test tells (x ∷ xs) = by (test x) refl (picks-filter Has test tells xs)
  where
    by : (b : Bool) → test x ≡ b → PicksThose Has xs (filter test xs) → PicksThose Has (x ∷ xs) (if b then x ∷ filter test xs else filter test xs)
    by true is more = picked ((tells x).0 is) more
    by false is more = left (λ has. false≢true (sym is ∙ (tells x).1 has)) more

pub flat-on : {A B : Type 0} (f : A → List B) (xs : List A) (x : A) (y : B) → Contains xs x → Contains (f x) y → Contains (flat_map f xs) y
flat-on f [] x y c there = none-there x c
flat-on f (a ∷ xs) x y (zero, l, e) there = Contains-append_left (f a) (flat_map f xs) y (subst (λ z. Contains (f z) y) (sym e) there)
flat-on f (a ∷ xs) x y (suc i, l, e) there = Contains-append_right (f a) (flat_map f xs) y (flat-on f xs x y (i, omega arith, e) there)

-- ---- chains of stars
-- such a chain begins in a module that exports something
has-star : {p : Program} {m : ℕ} {s : Text} → HasExternalStar p m s → exports p m ≡ [] → ⊥
has-star (own stands external) e = nothing-there _ _ e stands
has-star (through stands leads more) e = nothing-there _ _ e stands

pub external-reached : {p : Program} {m : ℕ} {s : Text} → HasExternalStar p m s → (d : ℕ) × StarReaches p m d × StarsOutside p d s
external-reached {m = m} (own stands external) = (m, itself, record { stands = stands; external = external })
external-reached {p = p} (through {d = d} {r = r} stands leads more) =
    let rest = external-reached more in
    (rest.0, along (record { specifier = r; stands = stands; leads = record { resolved = leads; es = λ common. has-star more (common_js_has_none p d common) } }) rest.1, rest.2)

pub reached-external : {p : Program} {m d : ℕ} {s : Text} → Reaches (Stars p) m d → StarsOutside p d s → HasExternalStar p m s
reached-external itself out = own out.stands out.external
reached-external (along star more) out = through star.stands star.leads.resolved (reached-external more out)

-- ---- the stars of a module
module _ (p : Program) (kinds : Kinds) (are : AreModulesKnown p kinds) where
  starred-back : (d : ℕ) (s : Text) → Contains (starred_in kinds d) s → StarsOutside p d s
  starred-back d s there = by (slice_get kinds.modules.now d) refl there
    where
      by : (o : Option LinkModule) → slice_get kinds.modules.now d ≡ o → Contains (starred_at (lead_of kinds d) o) s → StarsOutside p d s
      by None at there = none-there s there
      by (Some its) at there =
          let r = flat-back (starred_one (lead_of kinds d)) its.tables.now.stars.items s there in
          let stands : Contains (exports p d) (Star r.0.now) = stars_back p d its.tables.now.stars.items r.0 (are.tables d its at).stars r.1 in
          let leads = subst (LeadsIn p d r.0.now) (sym (same_lead p kinds are d r.0.now (by_star stands))) (leads_right p kinds are d r.0.now) in
          led r.0.now stands (lead_of kinds d r.0.now) leads r.2
        where
          led : (x : Text) → Contains (exports p d) (Star x) → (lead : Lead) → LeadsIn p d x lead → Contains (starred_as lead x) s → StarsOutside p d s
          led x stands Outside leads there = subst (StarsOutside p d) (only-one x s there) (record { stands = stands; external = leads })
          led x stands (ToModule k) leads there = none-there s there
          led x stands (ToCommonJs k) leads there = none-there s there
          led x stands Nowhere leads there = none-there s there

  starred-on : (d : ℕ) (s : Text) → StarsOutside p d s → Contains (starred_in kinds d) s
  starred-on d s out = by (slice_get kinds.modules.now d) refl
    where
      by : (o : Option LinkModule) → slice_get kinds.modules.now d ≡ o → Contains (starred_at (lead_of kinds d) o) s
      by None at = absurd (nothing-there _ _ (are.others d at) out.stands)
      by (Some its) at =
          let r = stars_on p d its.tables.now.stars.items s (are.tables d its at).stars out.stands in
          let lead : lead_of kinds d s ≡ Outside = same_lead p kinds are d s (by_star out.stands) ∙ ap (λ b. if b then Outside else lead_found kinds.common_js.items (p.leads d s)) out.external in
          let one : Contains (starred_as (lead_of kinds d s) s) s = subst (λ l. Contains (starred_as l s) s) (sym lead) (0, omega arith, refl) in
          flat-on (starred_one (lead_of kinds d)) its.tables.now.stars.items r.0 s r.1 (subst (λ x. Contains (starred_as (lead_of kinds d x) x) s) (sym r.2) one)

  module _ (reach : List ℕ) (reaches : (d : ℕ) → IsIn reach d ↔ StarReaches p kinds.entry d) where
    star-told : (s : Text) → (has_text s (flat_map (starred_in kinds) reach) ≡ true) ↔ HasExternalStar p p.entry s
    star-told s = (
      λ is.
          let a = there_of_any (bytes_eq s) (flat_map (starred_in kinds) reach) is in
          let r = flat-back (starred_in kinds) reach a.0 a.1 in
          let text : a.0 ≡ s = sym ((bytes_eq-Decides s a.0).0 a.2) in
          let out : StarsOutside p r.0 s = subst (StarsOutside p r.0) text (starred-back r.0 a.0 r.2) in
          subst (λ m. HasExternalStar p m s) (sym are.begins) (reached-external ((reaches r.0).0 (there-place reach r.0 r.1)) out),
      λ has.
          let r = external-reached (subst (λ m. HasExternalStar p m s) are.begins has) in
          let place = (reaches r.0).1 r.1 in
          any_there (bytes_eq s) (flat_map (starred_in kinds) reach) s (flat-on (starred_in kinds) reach r.0 s (place-there reach place.0 r.0 place.1) (starred-on r.0 s r.2)) ((bytes_eq-Decides s s).1 refl),
    )

    pub stars-picked : (specifiers stars : List Text) → stars ≡ filter (λ s. has_text s (flat_map (starred_in kinds) reach)) specifiers → PicksThose (HasExternalStar p p.entry) specifiers stars
    stars-picked specifiers stars is = subst (PicksThose (HasExternalStar p p.entry) specifiers) (sym is) (picks-filter (HasExternalStar p p.entry) (λ s. has_text s (flat_map (starred_in kinds) reach)) star-told specifiers)

-- ---- lists in which each stands once

pub numbers-back : (xs : List ℕ) (x : ℕ) → Contains (numbers_once xs) x → Contains xs x
numbers-back [] x there = none-there x there
numbers-back (y ∷ xs) x there = elim (there-cases y (filter (λ z. not (y == z)) (numbers_once xs)) x there) [
  | inl same ↦ subst (Contains (y ∷ xs)) same (first-there y xs)
  | inr more ↦ later-there y xs x (numbers-back xs x (filter-back (λ z. not (y == z)) (numbers_once xs) x more).0)
]

pub numbers-on : (xs : List ℕ) (x : ℕ) → Contains xs x → Contains (numbers_once xs) x
numbers-on [] x there = none-there x there
numbers-on (y ∷ xs) x there = by (y == x) refl (there-cases y xs x there) (numbers-on xs x)
  where
    by : (b : Bool) → (y == x) ≡ b → (y ≡ x) ⊎ Contains xs x → (Contains xs x → Contains (numbers_once xs) x) → Contains (y ∷ filter (λ z. not (y == z)) (numbers_once xs)) x
    by b is (inl same) rest = subst (Contains (y ∷ filter (λ z. not (y == z)) (numbers_once xs))) same (first-there y (filter (λ z. not (y == z)) (numbers_once xs)))
    by true is (inr later) rest = subst (Contains (y ∷ filter (λ z. not (y == z)) (numbers_once xs))) (eqb-true y x is) (first-there y (filter (λ z. not (y == z)) (numbers_once xs)))
    by false is (inr later) rest = later-there y (filter (λ z. not (y == z)) (numbers_once xs)) x (filter-on (λ z. not (y == z)) (numbers_once xs) x (rest later) (ap not is))

module _ (p : Program) where
  -- ---- externals
  -- those of a list of the reached modules are the used ones
  pub externals-used : (list : List ℕ) → ((n : ℕ) → Contains list n ↔ IsReached p n) → (s : Text) → Contains (externals p list) s ↔ IsUsed p s
  externals-used list reached s = (
    λ there.
        let kept = filter-back (λ x. is_external p x) (flat_map_due (λ m. declared_requests (tree_of p m)) list) s (once-back (filter (λ x. is_external p x) (flat_map_due (λ m. declared_requests (tree_of p m)) list)) s there) in
        let r = flat-back (λ m. declared_requests (tree_of p m)) list s kept.0 in
        record { which = r.0; reached = (reached r.0).0 r.1; asks = r.2; external = kept.1 },
    λ used.
        once-on (filter (λ x. is_external p x) (flat_map_due (λ m. declared_requests (tree_of p m)) list)) s
        (filter-on (λ x. is_external p x) (flat_map_due (λ m. declared_requests (tree_of p m)) list) s
        (flat-on (λ m. declared_requests (tree_of p m)) list used.which s ((reached used.which).1 used.reached) used.asks) used.external),
  )

  -- ---- CommonJS modules
  pub loads-asked : (m : ℕ) (loads : List Loaded) → AreLoadsIn p m loads → (c : ℕ) → Contains (map (λ loaded. loaded.which) loads) c ↔ AsksCommonJs p m c
  loads-asked m loads its c = (
    λ there.
        let kept = filter-back its.test (filter_map (resolves p m) (declared_requests (tree_of p m))) c (numbers-back (filter its.test (filter_map (resolves p m) (declared_requests (tree_of p m)))) c (subst (λ l. Contains l c) its.modules there)) in
        let r = filter_map_back (resolves p m) (declared_requests (tree_of p m)) c kept.0 in
        record { specifier = r.0; asks = r.1; resolved = r.2; common_js = (its.tells c).0 kept.1 },
    λ asks.
        subst (λ l. Contains l c) (sym its.modules)
        (numbers-on (filter its.test (filter_map (resolves p m) (declared_requests (tree_of p m)))) c
        (filter-on its.test (filter_map (resolves p m) (declared_requests (tree_of p m))) c (filter_map_on (resolves p m) (declared_requests (tree_of p m)) asks.specifier c asks.asks asks.resolved) ((its.tells c).1 asks.common_js))),
  )
