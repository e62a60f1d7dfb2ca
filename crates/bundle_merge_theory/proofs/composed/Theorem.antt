-- Theorem of this folder (`keywords-keep-bundles`, `names-keep-bundles`): from the merged modules
-- to the named bundle each step keeps all that the next one asks; a tree with other identifiers
-- that tell its bindings apart as before denotes by symbol and context what corresponds.
-- Used by folders `finished`, `moved`, `together`.
use Rattle.std.proofs.Common.{◌≡◌, ℕ, suc, true, List, [], ◌∷◌, Option, Some, None, map, refl, ap, sym, ◌∙◌, subst}
use Rattle.std.specs.Prelude.{Contains, is_some}
use Rattle.std.proofs.lemmas.Bool.{false≢true}
use Rattle.std.specs.List.{AllZip}
use Rattle.bundle_syntax.specs.Item as h
use Rattle.bundle_syntax.specs.Item.{Item}
use Rattle.bundle_rules.specs.Places.{start, Occurrence, occurrences}
use Rattle.bundle_rules.specs.Scopes.{Es, Scope, scope_order, scopes_around, Top}
use Rattle.bundle_rules.specs.Declarations.{ByContext, Name, Declared, declared, BySymbol}
use Rattle.bundle_rules.specs.Denotes.{Denoted, Bound, Global, denoted_of, denotations, IsResolved}
use Rattle.bundle_rules.specs.Idents.{idents}
use Rattle.bundle_rules.specs.Rebuilds.{changes_to, with_idents}
use Rattle.bundle_rules.specs.Renamed.{HasNamesOnly, IsRebuilt, IsNamed, IsRidOfKeywords}
use Rattle.bundle_rules.specs.Mentions.{same_denoted}
use Rattle.bundle_rules.specs.Statements.{TopItem}
use Rattle.bundle_rules.specs.Order.{IsGoodOrder, group_of}
use Rattle.bundle_rules.specs.Program.{Program}
use Rattle.bundle_rules.specs.Bundle.{Cause, AsModule, Hooks, IsLaidOut, IsBundle}
use Rattle.bundle_tree_places.specs.Edits.{Inside, node}
use Rattle.bundle_tree_places.proofs.EditsLemmas.{rebuilt_so}
use Rattle.bundle_scope_names.proofs.TreeLemmas.{map-map as map-twice}
use Rattle.bundle_scope_names.proofs.HomesLemmas.{iff as same_bool}
use Rattle.bundle_scope_names.proofs.naming_rule.Tables.{IsIn, map-in, Table, table_in, declarations, declared-named, all-are}
use Rattle.bundle_scope_names.proofs.naming_rule.Clash.{moved, IsInjective}
use Rattle.bundle_scope_names.proofs.naming_rule.Rebuilt.{place_in, place-injective, ArePlain, named_after, zip, faithful-names, faithful-plain}
use Rattle.bundle_scope_names.proofs.naming_rule.Transfer.{Calling, recalled, recalled_as, recalled_denoted, Recalls, IsFaithful, IsRecalled, IsKnown, known, denoted-recalled, recalled-one, declarations-recalled}
use Rattle.bundle_merge_theory.proofs.grouped.TopLemmas.{same-refl as same-self}
use Rattle.bundle_merge_theory.specs.noted.Agrees.{IsListing}
use Rattle.bundle_merge_theory.specs.joined.Joined.{joined_items}
use Rattle.bundle_merge_theory.proofs.joined.Notes.{resolved}
use Rattle.bundle_merge_theory.specs.grouped.Renaming.{HasWays, HasObjects, AtOne}
use Rattle.bundle_merge_theory.proofs.grouped.AlikeLemmas.{owners-refl}
use Rattle.bundle_merge_theory.proofs.grouped.ClearedLemmas.{ways-edited, keyword-objects, keyword-good_order}
use Rattle.bundle_merge_theory.specs.composed.Becoming.{StandsInMoved, Becoming}
use Rattle.bundle_merge_theory.proofs.composed.Becomings.{contains-in, InTable, same-scopes, in-table, same-bound, same-is, placed-same, all-placed, orders-one}
use Rattle.bundle_merge_theory.proofs.composed.Among.{OfScope}
use Rattle.bundle_merge_theory.specs.composed.Noted.{pairing_of}
use Rattle.bundle_merge_theory.proofs.composed.Naming.{IsReady, items-edited, as-many, rebuilt-ready}
use Rattle.bundle_merge_theory.proofs.composed.Keywords.{LaidOut, layout-stays, body-length, naming-keeps-bundles, call, calls, faithful}

-- ---- recalling
stands-recalled : (call : Calling) (move : ℕ → ℕ) (os ps : List Occurrence) →
    AllZip (Recalls call move) os ps → AllZip (StandsInMoved move) os ps
stands-recalled call move [] [] all = tt
stands-recalled call move [] (p ∷ ps) all = absurd all
stands-recalled call move (o ∷ os) [] all = absurd all
stands-recalled call move (o ∷ os) (p ∷ ps) all =
    let one : Recalls call move o p = all.0 in (
      one.scopes ∙ sym (all-placed move (scopes_around Es o.path)),
      stands-recalled call move os ps all.1,
    )

module _ (call : Calling) (before after : List Item) (names : HasNamesOnly before)
    (plain : ArePlain before)
    (faithful : IsFaithful call (occurrences before) (declared ByContext Es before))
    (same : IsRebuilt before after)
    (calls : idents after ≡ map (λ (o : Occurrence). call o.sym o.ctxt) (occurrences before)) where
  abbrev os : List Occurrence
  os = occurrences before

  abbrev all : List Declared
  all = declared ByContext Es before

  abbrev every : List Declared
  every = declared ByContext Es after

  abbrev move : ℕ → ℕ
  move = place_in before (changes_to (idents before) (idents after))

  injective : IsInjective move
  injective = place-injective before (changes_to (idents before) (idents after))

  zipped : AllZip (Recalls call move) os (occurrences after)
  zipped = zip call before after names plain faithful same calls

  -- the next two stand inside the proof of `recalled-alike` too, which hands on neither
  zip_declared : AllZip (IsRecalled call move os) all every
  zip_declared =
      subst (λ l. AllZip (IsRecalled call move os) l every) (sym (all-are before names))
      (subst (AllZip (IsRecalled call move os) (declarations ByContext os))
      (sym
      (declared-named ByContext after
      (named_after call before after names plain faithful same calls)))
      (declarations-recalled call move os os (occurrences after) (λ o at. at) zipped))

  map-zip_in : (l ps : List Occurrence) → ((o : Occurrence) → IsIn l o → IsIn os o) →
      AllZip (Recalls call move) l ps →
      map (denoted_of ByContext Es every) ps ≡ map
      (λ o. recalled_denoted call move (denoted_of ByContext Es all o)) l
  map-zip_in [] [] among all_zip = refl
  map-zip_in [] (p ∷ ps) among all_zip = absurd all_zip
  map-zip_in (o ∷ l) [] among all_zip = absurd all_zip
  map-zip_in (o ∷ l) (p ∷ ps) among all_zip =
      ap (λ d. d ∷ map (denoted_of ByContext Es every) ps)
      (denoted-recalled call move injective os all every zip_declared faithful o p
      (among o (0, refl)) all_zip.0)
      ∙ ap (λ ds. recalled_denoted call move (denoted_of ByContext Es all o) ∷ ds)
      (map-zip_in l ps (λ q at. among q (suc at.0, at.1)) all_zip.1)

  known_one : (d : Denoted) → Contains (denotations ByContext Es before) d → IsKnown os d
  known_one d c =
      let from =
      map-in (denoted_of ByContext Es all) os d
      (contains-in (denotations ByContext Es before) d c) in
      subst (IsKnown os) (sym from.2)
      (known call move injective os all every zip_declared faithful from.0 from.1)

  abbrev named_denoted : Denoted → Denoted
  named_denoted d = recalled_denoted call move d

  abbrev K : Table
  K = table_in start before

  one : (d e : Denoted) → Contains (denotations ByContext Es before) d →
      Contains (denotations ByContext Es before) e → named_denoted d ≡ named_denoted e → d ≡ e
  one d e at there is =
      recalled-one call move injective os all every zip_declared faithful d e (known_one d at)
      (known_one e there) is

  same-after : (d e : Denoted) → OfScope (InTable K) ([], refl) d →
      OfScope (InTable K) ([], refl) e → same_denoted (named_denoted d) (named_denoted e) ≡ true →
      named_denoted d ≡ named_denoted e
  same-after (Bound s m) (Bound t n) at there is =
      let parts = same-bound (moved move s) (moved move t) (recalled call m) (recalled call n) is in
      let orders =
      orders-one move injective s t
      (ap scope_order (placed-same move s)
      ∙ parts.order
      ∙ sym (ap scope_order (placed-same move t))) in
      let scopes = same-scopes K s t at there orders in
      λ i. Bound (moved move (scopes i)) (parts.names i)
  same-after (Bound s m) (Global y) at there is = absurd cc
  same-after (Global x) (Bound t n) at there is = absurd cc
  same-after (Global x) (Global y) at there is = same-is K (Global x) (Global y) tt tt is

  -- what is denoted becomes what corresponds
  pub becoming_recalled : Becoming ByContext before ByContext after
  becoming_recalled = record {
    becomes = named_denoted;
    move = move;
    stands = stands-recalled call move os (occurrences after) zipped;
    are =
        map-zip_in os (occurrences after) (λ o at. at) zipped
        ∙ sym (map-twice named_denoted (denoted_of ByContext Es all) os);
    bindings =
        λ scope name. (
          recalled call name,
          ap (λ s. Bound s (recalled call name)) (sym (placed-same move scope)),
        );
    globals = λ x. refl;
    one = one;
    same =
        λ d e at there. same_bool (same_denoted d e)
        (same_denoted (named_denoted d) (named_denoted e))
        (λ is. ap (λ x. same_denoted (named_denoted d) (named_denoted x))
        (sym
        (same-is K d e (in-table ByContext before d at)
        (in-table ByContext before e there) is))
        ∙ same-self (named_denoted d))
        (λ is. ap (same_denoted d)
        (sym
        (one d e at there
        (same-after d e (in-table ByContext before d at)
        (in-table ByContext before e there) is)))
        ∙ same-self d);
  }

  -- what an identifier declares is so still
  pub recalled-written : (scope : Scope) (name : Name) → is_some name.ctxt ≡ true →
      is_some (becoming_recalled.bindings scope name).0.ctxt ≡ true
  unfolding becoming_recalled
  recalled-written scope name written = by_context name.ctxt written
    where
      by_context : (c : Option ℕ) → is_some c ≡ true → is_some (recalled_as call name c).ctxt ≡ true
      by_context None e = absurd (false≢true e)
      by_context (Some c) e = refl

-- ---- chain

-- a bundle by symbol and context, with all that renaming asks
pub record IsWholeBundle (p : Program) (hooks : Hooks) (plan : List Cause) (tree : List Item) : Type
    0 where
  pub ready : IsReady p hooks plan ByContext tree
  pub laid : LaidOut p hooks plan ByContext tree ready.still
  pub resolved : IsResolved Es tree
  pub names : HasNamesOnly tree
  pub plain : ArePlain tree
  pub ways : HasWays tree
  pub objects : HasObjects ByContext tree

-- without its keywords it is one still
pub keywords-keep-bundles : (p : Program) (hooks : Hooks) (plan : List Cause)
    (merged after : List Item) → IsWholeBundle p hooks plan merged →
    IsRidOfKeywords merged after → IsListing after → IsWholeBundle p hooks plan after
keywords-keep-bundles p hooks plan merged after its rid listing =
    let its_call = call merged after its.resolved its.names rid in
    let its_calls = calls merged after its.resolved its.names rid in
    let its_faithful = faithful merged after its.resolved its.names rid in
    let b : Becoming ByContext merged ByContext after =
    becoming_recalled its_call merged after its.names its.plain its_faithful rid.same
    its_calls in
    let again : IsReady p hooks plan ByContext after =
    rebuilt-ready p hooks plan ByContext ByContext merged after its.ready b rid.same listing in
    let still = its.ready.still in
    let is : merged ≡ joined_items still.items = still.is in
    let edited =
    items-edited still.items still.noted after its.ready.forms its.ready.lone
    (as-many ByContext ByContext (joined_items still.items) after
    (subst (λ t. Becoming ByContext t ByContext after) is b)) in
    let ways : HasWays (joined_items still.items) = subst HasWays is its.ways in
    let objects : HasObjects ByContext (joined_items still.items) =
    subst (HasObjects ByContext) is its.objects in
    let its_rid : IsRidOfKeywords (joined_items still.items) after =
    subst (λ t. IsRidOfKeywords t after) is rid in
    let ordered : (tops others : List TopItem) → AllZip (AtOne (joined_items still.items) after) tops
    others → (owners : List (Option ℕ)) (order : List ℕ) → IsGoodOrder
    (group_of ByContext Top (joined_items still.items) tops owners) order → IsGoodOrder
    (group_of ByContext Top after others owners) order =
    λ tops others at owners order good.
    (keyword-good_order 0 after edited.edits its_rid ways objects tops others at owners owners (owners-refl owners) order).0
    good in
    record {
      ready = again;
      laid =
          layout-stays p AsModule ByContext ByContext (joined_items still.items) after plan still.labels
          again.still.labels still.items again.still.items refl again.still.is
          (body-length p hooks plan ByContext merged still
          ∙ sym (body-length p hooks plan ByContext after again.still)) ordered
          (subst (λ t. IsLaidOut p AsModule ByContext t (pairing_of still.labels still.items plan))
          is its.laid);
      resolved = rid.free.resolved;
      names =
          faithful-names its_call merged after its.names its.plain its_faithful rid.same its_calls;
      plain =
          faithful-plain its_call merged after its.names its.plain its_faithful rid.same its_calls;
      ways =
          subst HasWays
          (rebuilt_so (record { rest = []; by = Inside 0 h.Module refl edited.edits })
          ∙ sym (rid.same ∙ ap (λ t. with_idents t (idents after)) is))
          (ways-edited (joined_items still.items) (node 0 h.Module edited.made)
          (Inside 0 h.Module refl edited.edits) ways);
      objects = keyword-objects merged after rid.free its.objects;
    }

-- named, it is a bundle by symbol
pub names-keep-bundles : (p : Program) (hooks : Hooks) (plan : List Cause)
    (tree named : List Item) → IsWholeBundle p hooks plan tree → IsNamed tree named →
    IsListing named → IsBundle p hooks AsModule BySymbol named
names-keep-bundles p hooks plan tree named its naming listing =
    naming-keeps-bundles p hooks plan tree named its.ready its.laid its.resolved its.names its.plain
    its.ways its.objects naming listing
