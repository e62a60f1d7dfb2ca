-- What linking hands over of externals and of loads is what is meant of them.
-- Modules get the contexts of their scopes one by one.
use Rattle.std.proofs.Common.{◌≡◌, ◌<◌, ◌⊎◌, inl, inr, ℕ, Bool, true, false, List, Some, length, map, refl, ap, sym, subst, ◌∙◌, ◌≤◌, zero, suc, [], ◌∷◌, ◌++◌, Option, None, option_map, arith}
use Rattle.std.specs.Prelude.{◌↔◌, Contains, IsTrue, codes, filter, flat_map, is_some, slice_get}
use Rattle.std.proofs.lemmas.Bool.{true≢false, cases_order}
use Rattle.std.proofs.lemmas.List.Elements.{All-contains}
use Rattle.std.proofs.lemmas.Option.{slice_get_within, none-some, same_Some}
use Rattle.std.specs.declared.vec.Vec.{Vec}
use Rattle.std.specs.Global.{Global}
use Rattle.bundle_rules.specs.Bundle.{AsksCommonJs, externals}
use Rattle.bundle_rules.specs.Entries.{Taken, Named, Whole, declared_requests, has_import_meta}
use Rattle.bundle_rules.specs.Linking
use Rattle.bundle_rules.specs.Linking.{IsCommonJs}
use Rattle.bundle_rules.specs.Nodes.{Text}
use Rattle.bundle_rules.specs.Program.{Program, tree_of, is_external, IsReached}
use Rattle.bundle_link_index.proofs.SearchLemmas.{each_place as there-below, get_still as push-old}
use Rattle.bundle_rules.specs.Meaning
use Rattle.bundle_scope_denote.specs.declared.table.Denotations.{Denotations}
use Rattle.bundle_scope_denote.specs.declared.table.Scope.{Scope}
use Rattle.bundle_scope_names.proofs.Kept.{length-snoc as push-long}
use Rattle.bundle_link_index.proofs.ProgramLemmas.{once_back as once-back, filter_back as filter-back, map_back as map-back, map_on as map-on, got_there as place-there, got as there-place}
use Rattle.bundle_link_targets.specs.Handed.{AreExternalsOf, AreLoadsIn, IsExternalOf, IsLoadOf}
use Rattle.bundle_link_targets.specs.Meant.{AreModules}
use Rattle.bundle_link_targets.specs.Symbols.{IsTakable}
use Rattle.bundle_link_targets.specs.Taken.{AreTaken, specifier_of}
use Rattle.bundle_link_targets.specs.declared.target.External.{External}
use Rattle.bundle_link_targets.specs.declared.target.Loaded.{Loaded}
use Rattle.bundle_link_targets.proofs.CalledLemmas.{loads-asked}
use Rattle.bundle_link_targets.specs.Lists.{list_items, list_in}
use Rattle.bundle_merge_theory.specs.made.Given.{Holder, NameOf}
use Rattle.bundle_merge_names.specs.declared.names.BundleNames.{BundleNames}
use Rattle.bundle_merge_names.specs.declared.part.BundleModule.{BundleModule}
use Rattle.bundle_merge_names.specs.Added.{GivesNames, IsOfExternals, IsOfLoads, IsOfModule, IsOfModules, IsTakenOf, IsWhere, by_name, by_whole, its_load, its_loads, its_meta, its_namespace, with_taken}
use Rattle.bundle_merge_names.specs.Bundle.{IsPartOf}
use Rattle.bundle_merge_names.specs.Held.{GivesName}
use Rattle.bundle_merge_names.proofs.LabelLemmas.{adds-none, adds-on, adds-one, adds-like}
use Rattle.bundle_merge_names.proofs.SomeLemmas.{IsOfSome, adds-where}
use Rattle.bundle_merge_names.specs.Named.{IsGiven, answered_in, local_in, scopes_in}
use Rattle.bundle_merge_names.specs.declared.error.MergeError.{MergeError}
use Rattle.bundle_merge_names.specs.declared.part.Answered.{Answered}
use Rattle.bundle_merge_names.specs.declared.part.BundleInput.{BundleInput}
use Rattle.bundle_merge_names.specs.Inside
use Rattle.bundle_merge_names.specs.Inside.{AreScopesApart, AreScopesNamed, AreTakenBy, AreTakenUpTo, AddsModule, HasAnswered, HasScopeContext, IsScoped, RefusesModule, RefusesScopes, answer_of, contexts_at, scopes_at, scopes_by, table_at}
use Rattle.bundle_merge_names.specs.Numbers.{position}
use Rattle.bundle_merge_names.specs.Ranges
use Rattle.bundle_merge_names.specs.Ranges.{AreContextsTaken as AreTaken_module, GivesAnswered, GivesScopeContexts, HasScopeContexts, RefusesAnswered, RefusesContexts}
use Rattle.bundle_merge_names.specs.Scoped.{KeepsBundleNames}
use Rattle.bundle_merge_names.proofs.ScopeLemmas.{push-last}
use Rattle.bundle_merge_names.specs.declared.names.Label.TheVariants

-- ---- given

-- the names of an external, and of what is loaded
abbrev pub names_in : External → List Text
names_in external = map (λ name. name.now) external.names.items

abbrev pub names_loaded : Loaded → List Text
names_loaded loaded = map (λ name. name.now) loaded.names.items

-- what is taken of an external that is handed over
abbrev pub OfExternal : ℕ → External → Holder → Type 0
OfExternal i external = IsTakenOf (Linking.External external.specifier.now Whole) (names_in external) external.whole

-- what module k takes of a CommonJS module that it loads
abbrev pub OfLoaded : ℕ → ℕ → Loaded → Holder → Type 0
OfLoaded k i loaded = IsTakenOf (Linking.CommonJs k loaded.which Whole) (names_loaded loaded) loaded.whole

-- what the modules of a list ask for as externals is external
external-listed : (p : Program) (list : List ℕ) (s : Text) → Contains (externals p list) s → IsTrue (is_external p s)
external-listed p list s there =
    let asked = flat_map (λ k. declared_requests (tree_of p k)) list in
    (filter-back (λ x. is_external p x) asked s (once-back (filter (λ x. is_external p x) asked) s there)).1

-- ---- what is taken of one giver is what is meant of it
-- a label of what is meant so
record IsMeantOf (p : Program) (of : Taken → Linking.Target) (holder : Holder) : Type 0 where
  pub its : Taken
  pub meant : Meaning.IsMeant p (Meaning.Of (of its))
  pub is : holder ≡ NameOf (Meaning.Of (of its))

-- the targets of a giver are all that is taken of it
abbrev Gives : Linking.Target → (Taken → Linking.Target) → Type 0
Gives base of = (its : Taken) → with_taken base its ≡ of its

taken-meant : (p : Program) (base : Linking.Target) (of : Taken → Linking.Target) (names : List Text) (whole : Bool) (holder : Holder) → Gives base of → AreTaken (λ t. Meaning.IsMeant p (Meaning.Of t)) of names whole → IsTakenOf base names whole holder → IsMeantOf p of holder
taken-meant p base of names whole holder gives are (by_name x there is) = record {
  its = Named x;
  meant = (are.names.all x).0 there;
  is = is ∙ ap (λ t. NameOf (Meaning.Of t)) (gives (Named x));
}
taken-meant p base of names whole holder gives are (by_whole taken is) = record {
  its = Whole;
  meant = are.whole.0 taken;
  is = is ∙ ap (λ t. NameOf (Meaning.Of t)) (gives Whole);
}

meant-taken : (p : Program) (base : Linking.Target) (of : Taken → Linking.Target) (names : List Text) (whole : Bool) (holder : Holder) (its : Taken) → Gives base of → AreTaken (λ t. Meaning.IsMeant p (Meaning.Of t)) of names whole → Meaning.IsMeant p (Meaning.Of (of its)) → holder ≡ NameOf (Meaning.Of (of its)) → IsTakenOf base names whole holder
meant-taken p base of names whole holder (Named x) gives are meant is = by_name x ((are.names.all x).1 meant) (is ∙ ap (λ t. NameOf (Meaning.Of t)) (sym (gives (Named x))))
meant-taken p base of names whole holder Whole gives are meant is = by_whole (are.whole.1 meant) (is ∙ ap (λ t. NameOf (Meaning.Of t)) (sym (gives Whole)))

module _ (p : Program) (modules : AreModules p) where
  -- ---- externals
  module _ (list : List ℕ) (found : List External) (are : AreExternalsOf p list found) where
    -- what is taken of an external may be taken
    pub external-takable : (i : ℕ) (external : External) → slice_get found i ≡ Some external → IsTakable p (Linking.External external.specifier.now Whole)
    external-takable i external at = external-listed p list external.specifier.now (subst (λ l. Contains l external.specifier.now) are.specifiers (map-on specifier_of found external (place-there found i external at)))

    pub externals-to : (holder : Holder) → IsOfSome OfExternal found holder → IsOfExternals p list holder
    externals-to holder some =
        let external = some.x in
        let s = external.specifier.now in
        let there = place-there found some.i external some.there in
        let one = taken-meant p (Linking.External s Whole) (Linking.External s) (names_in external) external.whole holder (λ its. refl) (All-contains (IsExternalOf p) found external (are.meant modules) there) some.is in
        record {
          specifier = s;
          its = one.its;
          asked = subst (λ l. Contains l s) are.specifiers (map-on specifier_of found external there);
          meant = one.meant;
          is = one.is;
        }

    pub externals-from : (holder : Holder) → IsOfExternals p list holder → IsOfSome OfExternal found holder
    externals-from holder its =
        let back = map-back specifier_of found its.specifier (subst (λ l. Contains l its.specifier) (sym are.specifiers) its.asked) in
        let external = back.0 in
        let s = external.specifier.now in
        let at = there-place found external back.1 in
        record {
          i = at.0;
          x = external;
          there = at.1;
          is = meant-taken p (Linking.External s Whole) (Linking.External s) (names_in external) external.whole holder its.its (λ taken. refl) (All-contains (IsExternalOf p) found external (are.meant modules) back.1)
              (subst (λ r. Meaning.IsMeant p (Meaning.Of (Linking.External r its.its))) (sym back.2) its.meant)
              (its.is ∙ ap (λ r. NameOf (Meaning.Of (Linking.External r its.its))) (sym back.2));
        }

  -- ---- loads
  module _ (k : ℕ) (loads : List Loaded) (are : AreLoadsIn p k loads) where
    asks-loaded : (i : ℕ) (loaded : Loaded) → slice_get loads i ≡ Some loaded → AsksCommonJs p k loaded.which
    asks-loaded i loaded at = (loads-asked p k loads are loaded.which).0 (map-on (λ (x : Loaded). x.which) loads loaded (place-there loads i loaded at))

    -- what is taken of a CommonJS module that is loaded may be taken
    pub loaded-takable : IsReached p k → (i : ℕ) (loaded : Loaded) → slice_get loads i ≡ Some loaded → IsTakable p (Linking.CommonJs k loaded.which Whole)
    loaded-takable reached i loaded at = (reached, (asks-loaded i loaded at).common_js)

    pub loads-to : (holder : Holder) → IsOfSome (OfLoaded k) loads holder → IsOfLoads p k holder
    loads-to holder some =
        let loaded = some.x in
        let c = loaded.which in
        let one = taken-meant p (Linking.CommonJs k c Whole) (Linking.CommonJs k c) (names_loaded loaded) loaded.whole holder (λ its. refl) (All-contains (IsLoadOf p k) loads loaded (are.meant modules) (place-there loads some.i loaded some.there)) some.is in
        record {
          c = c;
          its = one.its;
          asked = asks-loaded some.i loaded some.there;
          meant = one.meant;
          is = one.is;
        }

    pub loads-from : (holder : Holder) → IsOfLoads p k holder → IsOfSome (OfLoaded k) loads holder
    loads-from holder its =
        let back = map-back (λ (x : Loaded). x.which) loads its.c ((loads-asked p k loads are its.c).1 its.asked) in
        let loaded = back.0 in
        let c = loaded.which in
        let at = there-place loads loaded back.1 in
        record {
          i = at.0;
          x = loaded;
          there = at.1;
          is = meant-taken p (Linking.CommonJs k c Whole) (Linking.CommonJs k c) (names_loaded loaded) loaded.whole holder its.its (λ taken. refl) (All-contains (IsLoadOf p k) loads loaded (are.meant modules) back.1)
              (subst (λ d. Meaning.IsMeant p (Meaning.Of (Linking.CommonJs k d its.its))) (sym back.2) its.meant)
              (its.is ∙ ap (λ d. NameOf (Meaning.Of (Linking.CommonJs k d its.its))) (sym back.2));
        }

-- ---- modules
-- what a module needs: first its load function, then the object for its `import.meta`, what it loads, and the object of
-- its namespace
module _ (p : Program) (k : ℕ) where
  abbrev First : Holder → Type 0
  First = IsWhere (IsCommonJs p k) (NameOf (Meaning.Load k))

  abbrev Second : Holder → Type 0
  Second = IsWhere (has_import_meta (tree_of p k) ≡ true) (NameOf (Meaning.Meta k))

  abbrev Fourth : Holder → Type 0
  Fourth = IsWhere (Meaning.IsMeant p (Meaning.Of (Linking.Namespace k))) (NameOf (Meaning.Of (Linking.Namespace k)))

  -- the object for `import.meta` gets a name where none is written already
  module _ (written : ℕ → Bool) where
    abbrev GivenSecond : Holder → Type 0
    GivenSecond = IsGiven written Second

    abbrev LastTwo : Holder → Type 0
    LastTwo holder = IsOfLoads p k holder ⊎ Fourth holder

    abbrev LastThree : Holder → Type 0
    LastThree holder = GivenSecond holder ⊎ LastTwo holder

    split : (holder : Holder) → IsGiven written (IsOfModule p k) holder → First holder ⊎ LastThree holder
    split holder given = by given.its
      where
        by : IsOfModule p k holder → First holder ⊎ LastThree holder
        by (its_load is) = inl is
        by (its_meta is) = inr (inl (record { its = is; fresh = given.fresh }))
        by (its_loads is) = inr (inr (inl is))
        by (its_namespace is) = inr (inr (inr is))

    pub load-given : (holder : Holder) → First holder → IsGiven written (IsOfModule p k) holder
    load-given holder is = record {
      its = its_load is;
      fresh = λ j same. let e : NameOf (Meaning.Load k) ≡ NameOf (Meaning.Meta j) = sym is.is ∙ same in absurd cc;
    }

    pub meta-given : (holder : Holder) → GivenSecond holder → IsGiven written (IsOfModule p k) holder
    meta-given holder is = record { its = its_meta is.its; fresh = is.fresh }

    pub loads-given : (holder : Holder) → IsOfLoads p k holder → IsGiven written (IsOfModule p k) holder
    loads-given holder is = record {
      its = its_loads is;
      fresh = λ j same. let e : NameOf (Meaning.Of (Linking.CommonJs k is.c is.its)) ≡ NameOf (Meaning.Meta j) = sym is.is ∙ same in absurd cc;
    }

    pub namespace-given : (holder : Holder) → Fourth holder → IsGiven written (IsOfModule p k) holder
    namespace-given holder is = record {
      its = its_namespace is;
      fresh = λ j same. let e : NameOf (Meaning.Of (Linking.Namespace k)) ≡ NameOf (Meaning.Meta j) = sym is.is ∙ same in absurd cc;
    }

    behind : (holder : Holder) → LastThree holder → IsGiven written (IsOfModule p k) holder
    behind holder (inl is) = meta-given holder is
    behind holder (inr (inl is)) = loads-given holder is
    behind holder (inr (inr is)) = namespace-given holder is

    pub adds-module : (list : List ℕ) (a b c d e : BundleNames)
        → GivesNames p list First a b
        → GivesNames p list GivenSecond b c
        → GivesNames p list (IsOfLoads p k) c d
        → GivesNames p list Fourth d e
        → GivesNames p list (IsGiven written (IsOfModule p k)) a e
    adds-module list a b c d e one two three four =
        adds-on p list First LastThree (IsGiven written (IsOfModule p k)) a b e split load-given behind one
        (adds-on p list GivenSecond LastTwo LastThree b c e (λ holder is. is) (λ holder is. inl is) (λ holder is. inr is) two
        (adds-on p list (IsOfLoads p k) Fourth LastTwo c d e (λ holder is. is) (λ holder is. inl is) (λ holder is. inr is) three four))

    -- the object for `import.meta` gets a name where none is written
    pub second-given : (part : BundleModule) → is_some part.written ≡ written k → is_some part.written ≡ false → (holder : Holder) → Second holder → GivenSecond holder
    second-given part says none holder found = record {
      its = found;
      fresh = λ j same. let e : NameOf (Meaning.Meta k) ≡ NameOf (Meaning.Meta j) = sym found.is ∙ same in let one : j ≡ k = cc in ap written one ∙ sym says ∙ none;
    }

    pub meta-none : (list : List ℕ) (part : BundleModule) (a : BundleNames) → IsPartOf p k part → part.tables.now.has_import_meta ≡ false → GivesNames p list GivenSecond a a
    meta-none list part a is none = adds-none p list GivenSecond a (λ holder found. true≢false (sym (is.meta ∙ found.its.so) ∙ none))

    pub meta-written : (list : List ℕ) (part : BundleModule) (a : BundleNames) → is_some part.written ≡ written k → is_some part.written ≡ true → GivesNames p list GivenSecond a a
    meta-written list part a says some = adds-none p list GivenSecond a (λ holder found. true≢false (sym some ∙ says ∙ found.fresh k found.its.is))

    pub meta-one : (list : List ℕ) (part : BundleModule) (a b : BundleNames) → IsPartOf p k part → is_some part.written ≡ written k → is_some part.written ≡ false → part.tables.now.has_import_meta ≡ true → GivesName (TheVariants.Meta k) (codes "importMeta") a b → GivesNames p list GivenSecond a b
    meta-one list part a b is says none has gives =
        adds-like p list Second GivenSecond a b (second-given part says none) (λ holder found. found.its)
        (adds-where p list (has_import_meta (tree_of p k) ≡ true) (NameOf (Meaning.Meta k)) a b (sym is.meta ∙ has) (adds-one p list (TheVariants.Meta k) (codes "importMeta") a b refl gives))

-- what the module at this place needs and gets a name
abbrev pub OfPart : Program → (ℕ → Bool) → ℕ → BundleModule → Holder → Type 0
OfPart p written k part = IsGiven written (IsOfModule p k)

module _ (p : Program) (written : ℕ → Bool) (parts : List BundleModule) (reached : (k : ℕ) → IsReached p k ↔ (k < length parts)) where
  pub modules-to : (holder : Holder) → IsOfSome (OfPart p written) parts holder → IsGiven written (IsOfModules p) holder
  modules-to holder some = record {
    its = record { k = some.i; reached = (reached some.i).1 (slice_get_within parts some.i some.x some.there); its = some.is.its };
    fresh = some.is.fresh;
  }

  pub modules-from : (holder : Holder) → IsGiven written (IsOfModules p) holder → IsOfSome (OfPart p written) parts holder
  modules-from holder given =
      let its = given.its in
      let at = there-below parts its.k ((reached its.k).0 its.reached) in
      record { i = its.k; x = at.0; there = at.1; is = record { its = its.its; fresh = given.fresh } }

-- ---- module

-- the list of a number where there is one list more
list-old : {A : Type 0} (lists : List (Vec A Global)) (x : Vec A Global) (m : ℕ) → m < length lists → list_in (lists ++ x ∷ []) m ≡ list_in lists m
list-old [] x m less = absurd (omega (arith, less))
list-old (y ∷ lists) x zero less = refl
list-old (y ∷ lists) x (suc m) less = list-old lists x m (omega (arith, less))

list-last : {A : Type 0} (lists : List (Vec A Global)) (x : Vec A Global) (m : ℕ) → m ≡ length lists → list_in (lists ++ x ∷ []) m ≡ x.items
list-last lists x m is = ap list_items (push-last lists x m is)

list-cases : {A : Type 0} (lists : List (Vec A Global)) (x : Vec A Global) (m : ℕ) → (m ≡ length lists) ⊎ (list_in (lists ++ x ∷ []) m ≡ list_in lists m)
list-cases [] x zero = inl refl
list-cases [] x (suc m) = inr refl
list-cases (y ∷ lists) x zero = inr refl
list-cases (y ∷ lists) x (suc m) = elim (list-cases lists x m) [ inl last ↦ inl (ap suc last) | inr old ↦ inr old ]

-- the scopes of one more module and of what the hook answered for it have the next contexts
module _ (scopes : Bool → ℕ → List Scope) (old new : Bool → ℕ → List (Option ℕ)) (k first from middle to : ℕ)
    (cases : (a : Bool) (m : ℕ) → (m ≡ k) ⊎ (new a m ≡ old a m))
    (list : (n c : ℕ) → HasScopeContext (scopes false k) (new false k) n c → (from ≤ c) × (c < middle))
    (list_apart : (n i c : ℕ) → HasScopeContext (scopes false k) (new false k) n c → HasScopeContext (scopes false k) (new false k) i c → n ≡ i)
    (answer : (n c : ℕ) → HasScopeContext (scopes true k) (new true k) n c → (middle ≤ c) × (c < to))
    (answer_apart : (n i c : ℕ) → HasScopeContext (scopes true k) (new true k) n c → HasScopeContext (scopes true k) (new true k) i c → n ≡ i)
    (low : first ≤ from) (mid : from ≤ middle) (high : middle ≤ to) (are : AreScopesApart first from scopes old) where
  has-cases : (a : Bool) (m n c : ℕ) → HasScopeContext (scopes a m) (new a m) n c → (m ≡ k) ⊎ HasScopeContext (scopes a m) (old a m) n c
  has-cases a m n c has = elim (cases a m) [ inl last ↦ inl last | inr same ↦ inr (subst (λ l. HasScopeContext (scopes a m) l n c) same has) ]

  at-last : (a : Bool) (m n c : ℕ) → m ≡ k → HasScopeContext (scopes a m) (new a m) n c → HasScopeContext (scopes a k) (new a k) n c
  at-last a m n c is has = subst (λ j. HasScopeContext (scopes a j) (new a j) n c) is has

  above : (a : Bool) (n c : ℕ) → HasScopeContext (scopes a k) (new a k) n c → (from ≤ c) × (c < to)
  above false n c has = let w = list n c has in let l = w.0 in let h = w.1 in (omega (arith, l), omega (arith, h, high))
  above true n c has = let w = answer n c has in let l = w.0 in let h = w.1 in (omega (arith, l, mid), omega (arith, h))

  within : (a : Bool) (m n c : ℕ) → HasScopeContext (scopes a m) (new a m) n c → (m ≡ k) ⊎ HasScopeContext (scopes a m) (old a m) n c → (first ≤ c) × (c < to)
  within a m n c has (inl last) = let w = above a n c (at-last a m n c last has) in let l = w.0 in let h = w.1 in (omega (arith, l, low), omega (arith, h))
  within a m n c has (inr was) = let w = are.within a m n c was in let l = w.0 in let h = w.1 in (omega (arith, l), omega (arith, h, mid, high))

  both-last : (a b : Bool) (n i c : ℕ) → HasScopeContext (scopes a k) (new a k) n c → HasScopeContext (scopes b k) (new b k) i c → (a ≡ b) × (n ≡ i)
  both-last false false n i c x y = (refl, list_apart n i c x y)
  both-last true true n i c x y = (refl, answer_apart n i c x y)
  both-last false true n i c x y = let v = list n c x in let w = answer i c y in let h = v.1 in let l = w.0 in absurd (omega (arith, h, l))
  both-last true false n i c x y = let v = list i c y in let w = answer n c x in let h = v.1 in let l = w.0 in absurd (omega (arith, h, l))

  apart : (a b : Bool) (m j n i c : ℕ) → HasScopeContext (scopes a m) (new a m) n c → HasScopeContext (scopes b j) (new b j) i c → (m ≡ k) ⊎ HasScopeContext (scopes a m) (old a m) n c → (j ≡ k) ⊎ HasScopeContext (scopes b j) (old b j) i c → (a ≡ b) × (m ≡ j) × (n ≡ i)
  apart a b m j n i c x y (inr was) (inr were) = are.apart a b m j n i c was were
  apart a b m j n i c x y (inl is) (inl other) = let same = both-last a b n i c (at-last a m n c is x) (at-last b j i c other y) in (same.0, is ∙ sym other, same.1)
  apart a b m j n i c x y (inl is) (inr were) = let v = above a n c (at-last a m n c is x) in let w = are.within b j i c were in let l = v.0 in let h = w.1 in absurd (omega (arith, l, h))
  apart a b m j n i c x y (inr was) (inl other) = let v = above b i c (at-last b j i c other y) in let w = are.within a m n c was in let l = v.0 in let h = w.1 in absurd (omega (arith, l, h))

  apart-next : AreScopesApart first to scopes new
  apart-next = record {
    within = λ a m n c has. within a m n c has (has-cases a m n c has);
    apart = λ a b m j n i c x y. apart a b m j n i c x y (has-cases a m n c x) (has-cases b j i c y);
  }

-- the scopes inside have contexts of their range, no two one
range-within : (table : Denotations) (local from to : ℕ) (contexts : List (Option ℕ)) → HasScopeContexts table local from to contexts → (n c : ℕ) → HasScopeContext table.scopes.items contexts n c → (from ≤ c) × (c < to)
range-within table local from to contexts has n c its = has.given.within n c its.scope its.there its.inner its.its

range-apart : (table : Denotations) (local from to : ℕ) (contexts : List (Option ℕ)) → HasScopeContexts table local from to contexts → (n i c : ℕ) → HasScopeContext table.scopes.items contexts n c → HasScopeContext table.scopes.items contexts i c → n ≡ i
range-apart table local from to contexts has n i c x y = has.given.apart n i c x.scope y.scope x.there y.there x.inner y.inner x.its y.its

module _ (local from to : ℕ) (contexts : List (Option ℕ)) where
  answered-later : (answer : Option Answered) → HasAnswered answer local from to contexts → from ≤ to
  answered-later None has = let same = has.1 in omega (arith, same)
  answered-later (Some its) has = has.later

  answered-within : (answer : Option Answered) → HasAnswered answer local from to contexts → (n c : ℕ) → HasScopeContext (scopes_by (option_map (λ (its : Answered). its.denotations.now) answer)) contexts n c → (from ≤ c) × (c < to)
  answered-within None has n c its = absurd (none-some its.scope its.there)
  answered-within (Some answer) has n c its = range-within answer.denotations.now local from to contexts has n c its

  answered-apart : (answer : Option Answered) → HasAnswered answer local from to contexts → (n i c : ℕ) → HasScopeContext (scopes_by (option_map (λ (its : Answered). its.denotations.now) answer)) contexts n c → HasScopeContext (scopes_by (option_map (λ (its : Answered). its.denotations.now) answer)) contexts i c → n ≡ i
  answered-apart None has n i c x y = absurd (none-some x.scope x.there)
  answered-apart (Some answer) has n i c x y = range-apart answer.denotations.now local from to contexts has n i c x y

  answered-scoped : (answer : Option Answered) (its : Answered) → answer ≡ Some its → HasAnswered answer local from to contexts → IsScoped its.denotations.now local contexts
  answered-scoped None its is has = absurd (none-some its is)
  answered-scoped (Some answer) its is has = subst (λ (x : Answered). IsScoped x.denotations.now local contexts) (same_Some answer its is) (record { from = from; to = to; has = has })

-- what is taken for what the hook answered
answered-taken : (local from to : ℕ) (contexts : List (Option ℕ)) (answer : Option Answered) → HasAnswered answer local from to contexts → AreTakenBy (option_map (λ (its : Answered). its.denotations.now) answer) from to
answered-taken local from to contexts None has = has.1
answered-taken local from to contexts (Some its) has = has.taken

-- nothing is taken
nothing-taken : (table : Option Denotations) (n : ℕ) → AreTakenBy table n n
nothing-taken None n = refl
nothing-taken (Some table) n = record { numbers = []; fall = tt; count = omega arith }

-- no module has a context yet
pub modules-first : (bundle : BundleInput) (names : BundleNames) (count : ℕ) → names.locals.items ≡ [] → names.scopes.items ≡ [] → names.answered.items ≡ [] → names.contexts ≡ bundle.contexts → count ≡ 0 → AreScopesNamed bundle names count
modules-first bundle names count locals scopes answered contexts none = record {
  long = ap length locals ∙ sym none;
  scopes_long = ap length scopes ∙ sym none;
  answered_long = ap length answered ∙ sym none;
  locals = λ m part less at. absurd (omega (arith, less, none));
  scopes = λ m part less at. absurd (omega (arith, less, none));
  answered = λ m part its less at is. absurd (omega (arith, less, none));
  later = let same = ap position contexts in omega (arith, same);
  taken = subst (λ n. AreTakenUpTo bundle (position bundle.contexts) n (position names.contexts)) (sym none) (sym (ap position contexts));
  apart = record {
    within = λ a m n c has. absurd (never a m n c has);
    apart = λ a b m k n i c x y. absurd (never a m n c x);
  };
}
  where
    no-list : (a : Bool) (m : ℕ) → contexts_at names a m ≡ []
    no-list false m = ap (λ l. list_in l m) scopes
    no-list true m = ap (λ l. list_in l m) answered

    never : (a : Bool) (m n c : ℕ) → HasScopeContext (scopes_at bundle a m) (contexts_at names a m) n c → ⊥
    never a m n c has = none-some (Some c) (sym (ap (λ l. slice_get l n) (no-list a m)) ∙ has.its)

list-table : (bundle : BundleInput) (m : ℕ) (part : BundleModule) → slice_get bundle.parts.now m ≡ Some part → table_at bundle false m ≡ Some part.denotations.now
list-table bundle m part at = ap (option_map (λ (x : BundleModule). x.denotations.now)) at

-- one module more
pub modules-next : (bundle : BundleInput) (old new : BundleNames) (k count : ℕ) (part : BundleModule)
    → slice_get bundle.parts.now k ≡ Some part
    → AddsModule part.denotations.now (answer_of bundle k) part.local old new
    → count ≡ suc k
    → AreScopesNamed bundle old k
    → AreScopesNamed bundle new count
modules-next bundle old new k count part at gives next are = subst (AreScopesNamed bundle new) (sym next) (record {
  long = ap length gives.its_local ∙ push-long old.locals.items part.local ∙ ap suc are.long;
  scopes_long = ap length gives.its_scopes ∙ push-long old.scopes.items gives.scopes ∙ ap suc are.scopes_long;
  answered_long = ap length gives.its_answered ∙ push-long old.answered.items gives.answered ∙ ap suc are.answered_long;
  locals = λ m other less at_m. locals m other at_m (or-last m less);
  scopes = λ m other less at_m. scopes m other at_m (or-last m less);
  answered = λ m other its less at_m is. answers m other its at_m is (or-last m less);
  later = let l = are.later in let t = later in omega (arith, l, t);
  taken = (
    position old.contexts,
    are.taken,
    record {
      middle = gives.middle;
      list = subst (λ o. AreTakenBy o (position old.contexts) gives.middle) (sym (list-table bundle k part at)) gives.has.taken;
      answer = answered-taken part.local gives.middle (position new.contexts) gives.answered.items (answer_of bundle k) gives.has_answered;
    },
  );
  apart = apart-next (scopes_at bundle) (contexts_at old) (contexts_at new) k (position bundle.contexts) (position old.contexts) gives.middle (position new.contexts)
      cases
      (λ n c has. range-within part.denotations.now part.local (position old.contexts) gives.middle gives.scopes.items gives.has n c (in-list n c has))
      (λ n i c x y. range-apart part.denotations.now part.local (position old.contexts) gives.middle gives.scopes.items gives.has n i c (in-list n c x) (in-list i c y))
      (λ n c has. answered-within part.local gives.middle (position new.contexts) gives.answered.items (answer_of bundle k) gives.has_answered n c (in-answer n c has))
      (λ n i c x y. answered-apart part.local gives.middle (position new.contexts) gives.answered.items (answer_of bundle k) gives.has_answered n i c (in-answer n c x) (in-answer i c y))
      are.later gives.has.later (answered-later part.local gives.middle (position new.contexts) gives.answered.items (answer_of bundle k) gives.has_answered) are.apart;
})
  where
    later : position old.contexts ≤ position new.contexts
    later = let l = gives.has.later in let h = answered-later part.local gives.middle (position new.contexts) gives.answered.items (answer_of bundle k) gives.has_answered in omega (arith, l, h)

    or-last : (m : ℕ) → m < suc k → (m < k) ⊎ (m ≡ k)
    or-last m less = elim (cases_order m k) [ inl same ↦ inr same | inr apart ↦ elim apart [ inl below ↦ inl below | inr above ↦ absurd (omega (arith, less, above)) ] ]

    scopes-old : (m : ℕ) → m < k → scopes_in new m ≡ scopes_in old m
    scopes-old m less = let l = are.scopes_long in ap (λ l. list_in l m) gives.its_scopes ∙ list-old old.scopes.items gives.scopes m (omega (arith, less, l))

    answered-old : (m : ℕ) → m < k → answered_in new m ≡ answered_in old m
    answered-old m less = let l = are.answered_long in ap (λ l. list_in l m) gives.its_answered ∙ list-old old.answered.items gives.answered m (omega (arith, less, l))

    scopes-last : scopes_in new k ≡ gives.scopes.items
    scopes-last = ap (λ l. list_in l k) gives.its_scopes ∙ list-last old.scopes.items gives.scopes k (sym are.scopes_long)

    answered-last : answered_in new k ≡ gives.answered.items
    answered-last = ap (λ l. list_in l k) gives.its_answered ∙ list-last old.answered.items gives.answered k (sym are.answered_long)

    cases : (a : Bool) (m : ℕ) → (m ≡ k) ⊎ (contexts_at new a m ≡ contexts_at old a m)
    cases false m = elim (list-cases old.scopes.items gives.scopes m) [ inl last ↦ inl (last ∙ are.scopes_long) | inr same ↦ inr (ap (λ l. list_in l m) gives.its_scopes ∙ same) ]
    cases true m = elim (list-cases old.answered.items gives.answered m) [ inl last ↦ inl (last ∙ are.answered_long) | inr same ↦ inr (ap (λ l. list_in l m) gives.its_answered ∙ same) ]

    its-scopes : scopes_at bundle false k ≡ part.denotations.now.scopes.items
    its-scopes = ap (λ o. scopes_by (option_map (λ (x : BundleModule). x.denotations.now) o)) at

    in-list : (n c : ℕ) → HasScopeContext (scopes_at bundle false k) (contexts_at new false k) n c → HasScopeContext part.denotations.now.scopes.items gives.scopes.items n c
    in-list n c has = subst (λ l. HasScopeContext part.denotations.now.scopes.items l n c) scopes-last (subst (λ l. HasScopeContext l (contexts_at new false k) n c) its-scopes has)

    in-answer : (n c : ℕ) → HasScopeContext (scopes_at bundle true k) (contexts_at new true k) n c → HasScopeContext (scopes_by (option_map (λ (its : Answered). its.denotations.now) (answer_of bundle k))) gives.answered.items n c
    in-answer n c has = subst (λ l. HasScopeContext (scopes_by (option_map (λ (its : Answered). its.denotations.now) (answer_of bundle k))) l n c) answered-last has

    same-part : (m : ℕ) (other : BundleModule) → slice_get bundle.parts.now m ≡ Some other → m ≡ k → part ≡ other
    same-part m other at_m is = same_Some part other (sym at ∙ ap (slice_get bundle.parts.now) (sym is) ∙ at_m)

    locals : (m : ℕ) (other : BundleModule) → slice_get bundle.parts.now m ≡ Some other → (m < k) ⊎ (m ≡ k) → local_in new m ≡ Some other.local
    locals m other at_m (inl less) = ap (λ l. slice_get l m) gives.its_local ∙ push-old old.locals.items part.local m other.local (are.locals m other less at_m)
    locals m other at_m (inr is) = ap (λ l. slice_get l m) gives.its_local ∙ push-last old.locals.items part.local m (is ∙ sym are.long) ∙ ap (λ (x : BundleModule). Some x.local) (same-part m other at_m is)

    scopes : (m : ℕ) (other : BundleModule) → slice_get bundle.parts.now m ≡ Some other → (m < k) ⊎ (m ≡ k) → IsScoped other.denotations.now other.local (scopes_in new m)
    scopes m other at_m (inl less) = subst (IsScoped other.denotations.now other.local) (sym (scopes-old m less)) (are.scopes m other less at_m)
    scopes m other at_m (inr is) = subst (λ j. IsScoped other.denotations.now other.local (scopes_in new j)) (sym is) (subst (IsScoped other.denotations.now other.local) (sym scopes-last) (subst (λ (x : BundleModule). IsScoped x.denotations.now x.local gives.scopes.items) (same-part m other at_m is) (record { from = position old.contexts; to = gives.middle; has = gives.has })))

    answers : (m : ℕ) (other : BundleModule) (its : Answered) → slice_get bundle.parts.now m ≡ Some other → answer_of bundle m ≡ Some its → (m < k) ⊎ (m ≡ k) → IsScoped its.denotations.now other.local (answered_in new m)
    answers m other its at_m is (inl less) = subst (IsScoped its.denotations.now other.local) (sym (answered-old m less)) (are.answered m other its less at_m is)
    answers m other its at_m is (inr same) = subst (λ j. IsScoped its.denotations.now other.local (answered_in new j)) (sym same) (subst (IsScoped its.denotations.now other.local) (sym answered-last) (subst (λ (x : BundleModule). IsScoped its.denotations.now x.local gives.answered.items) (same-part m other at_m same) (answered-scoped part.local gives.middle (position new.contexts) gives.answered.items (answer_of bundle k) its (ap (answer_of bundle) (sym same) ∙ is) gives.has_answered)))

-- one module more is refused
pub modules-refused : (bundle : BundleInput) (names : BundleNames) (k : ℕ) (part : BundleModule) (refusal : MergeError)
    → slice_get bundle.parts.now k ≡ Some part
    → RefusesModule part.denotations.now (answer_of bundle k) (position names.contexts) k refusal
    → AreScopesNamed bundle names k
    → RefusesScopes bundle refusal
modules-refused bundle names k part refusal at refuses are = by refuses
  where
    within : k < length bundle.parts.now
    within = slice_get_within bundle.parts.now k part at

    in-list : (refusal : MergeError) → RefusesContexts part.denotations.now (position names.contexts) k refusal → RefusesScopes bundle refusal
    in-list _ Ranges.for_memory = Inside.for_memory
    in-list _ (Ranges.for_contexts i needs taken) = Inside.for_contexts false k i part.denotations.now (position names.contexts) within (list-table bundle k part at) needs are.taken (record {
      middle = 4294967296;
      list = subst (λ o. AreTakenBy o (position names.contexts) 4294967296) (sym (list-table bundle k part at)) taken;
      answer = nothing-taken (table_at bundle true k) 4294967296;
    })

    in-answer : (middle : ℕ) → AreTaken_module part.denotations.now (position names.contexts) middle → (its : Answered) → answer_of bundle k ≡ Some its → (refusal : MergeError) → RefusesContexts its.denotations.now middle k refusal → RefusesScopes bundle refusal
    in-answer middle before its is _ Ranges.for_memory = Inside.for_memory
    in-answer middle before its is _ (Ranges.for_contexts i needs taken) = Inside.for_contexts true k i its.denotations.now (position names.contexts) within (ap (option_map (λ (x : Answered). x.denotations.now)) is) needs are.taken (record {
      middle = middle;
      list = subst (λ o. AreTakenBy o (position names.contexts) middle) (sym (list-table bundle k part at)) before;
      answer = subst (λ o. AreTakenBy (option_map (λ (x : Answered). x.denotations.now) o) middle 4294967296) (sym is) taken;
    })

    by-answer : (middle : ℕ) → AreTaken_module part.denotations.now (position names.contexts) middle → (answer : Option Answered) → answer_of bundle k ≡ answer → RefusesAnswered answer middle k refusal → RefusesScopes bundle refusal
    by-answer middle before None is refuses = absurd refuses
    by-answer middle before (Some its) is refuses = in-answer middle before its is refusal refuses

    by : RefusesModule part.denotations.now (answer_of bundle k) (position names.contexts) k refusal → RefusesScopes bundle refusal
    by (Inside.memory is) = subst (RefusesScopes bundle) (sym is) Inside.for_memory
    by (Inside.in_list refuses) = in-list refusal refuses
    by (Inside.in_answer middle before refuses) = by-answer middle before (answer_of bundle k) refl refuses

-- a module's scopes have the next contexts, and then those of what the hook answered
pub gives-module : (table : Denotations) (answer : Option Answered) (local : ℕ) (old between last new : BundleNames) (scopes answered : Vec (Option ℕ) Global)
    → GivesScopeContexts table local old between scopes.items
    → GivesAnswered answer local between last answered.items
    → new.locals.items ≡ last.locals.items ++ local ∷ []
    → new.scopes.items ≡ last.scopes.items ++ scopes ∷ []
    → new.answered.items ≡ last.answered.items ++ answered ∷ []
    → new.labels ≡ last.labels
    → new.contexts ≡ last.contexts
    → AddsModule table answer local old new
gives-module table answer local old between last new scopes answered gives gives_answered l s a labels contexts =
    let keeps = both answer gives_answered in
    record {
      middle = position between.contexts;
      scopes = scopes;
      answered = answered;
      has = gives.has;
      has_answered = subst (λ n. HasAnswered answer local (position between.contexts) n answered.items) (sym (ap position contexts)) (has answer gives_answered);
      its_local = l ∙ ap (λ (x : Vec ℕ Global). x.items ++ local ∷ []) keeps.locals;
      its_scopes = s ∙ ap (λ (x : Vec (Vec (Option ℕ) Global) Global). x.items ++ scopes ∷ []) keeps.scopes;
      its_answered = a ∙ ap (λ (x : Vec (Vec (Option ℕ) Global) Global). x.items ++ answered ∷ []) keeps.answered;
      labels = labels ∙ keeps.labels;
    }
  where
    has : (answer : Option Answered) → GivesAnswered answer local between last answered.items → HasAnswered answer local (position between.contexts) (position last.contexts) answered.items
    has None its = (its.0, ap (λ (x : BundleNames). position x.contexts) (sym its.1))
    has (Some answer) its = its.has

    keeps-none : last ≡ between → KeepsBundleNames between last
    keeps-none same = record {
      locals = ap (λ (x : BundleNames). x.locals) same;
      scopes = ap (λ (x : BundleNames). x.scopes) same;
      answered = ap (λ (x : BundleNames). x.answered) same;
      labels = ap (λ (x : BundleNames). x.labels) same;
    }

    on : KeepsBundleNames between last → KeepsBundleNames old last
    on two = record {
      locals = two.locals ∙ gives.same.locals;
      scopes = two.scopes ∙ gives.same.scopes;
      answered = two.answered ∙ gives.same.answered;
      labels = two.labels ∙ gives.same.labels;
    }

    both : (answer : Option Answered) → GivesAnswered answer local between last answered.items → KeepsBundleNames old last
    both None its = on (keeps-none its.1)
    both (Some answer) its = on its.same
