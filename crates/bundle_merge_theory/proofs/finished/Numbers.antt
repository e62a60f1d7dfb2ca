-- The naming rule by the numbers of the merged tree: they are right for the tree without keywords.
-- A merged bundle that is named in one go is a bundle by symbol, and its names are right.
use Rattle.std.proofs.Common.{◌≡◌, ℕ, zero, suc, ◌==◌, ◌&&◌, ◌||◌, nat_lt, Bool, true, cond, not, List, [], Option, Some, None, option_map, unwrap_or, bytes_eq, refl, ap, ap₂, sym, ◌∙◌, subst, false, length}
use Rattle.std.specs.Prelude.{Contains, is_some, if◌then◌else◌}
use Rattle.std.specs.List.{list_any}
use Rattle.std.proofs.lemmas.Option.{slice_get_within, get_or_from_slice_get}
use Rattle.std.proofs.lemmas.List.{length-map}
use Rattle.bundle_syntax.specs.Item as h
use Rattle.bundle_syntax.specs.Item.{Item}
use Rattle.bundle_rules.specs.Places.{start, Occurrence, occurrences}
use Rattle.bundle_rules.specs.Scopes.{Es, Scope, scope_order, same_scope, scopes_around}
use Rattle.bundle_rules.specs.Declarations.{ByContext, Name, Declared, declared, BySymbol}
use Rattle.bundle_rules.specs.Homes.{home_of, is_arguments}
use Rattle.bundle_rules.specs.Denotes.{Denoted, Bound, Global, denoted_by_context, own_or_found, denoted_of, denotations}
use Rattle.bundle_rules.specs.Renaming.{Numbering, numbered, number_of, group, comes_before, is_kept_outside, symbol_after}
use Rattle.bundle_rules.specs.Mentions.{same_denoted}
use Rattle.bundle_rules.specs.Renamed.{HasNamesOnly, IsRidOfKeywords, IsNamed}
use Rattle.bundle_rules.specs.Doubled.{first_doubled}
use Rattle.bundle_rules.specs.Nodes.{IsWholeModule}
use Rattle.bundle_rules.specs.Cleared.{cleared, tidied}
use Rattle.bundle_rules.specs.Idents.{Ident, ident_of, idents}
use Rattle.bundle_rules.specs.Rebuilds.{with_idents}
use Rattle.bundle_rules.specs.Merged.{IsNamedAs}
use Rattle.bundle_rules.specs.Entries.{Settings}
use Rattle.bundle_rules.specs.Headline.{IsClean}
use Rattle.bundle_rules.specs.Program.{Program}
use Rattle.bundle_rules.specs.Bundle.{Cause, Hooks, AsModule, IsBundle}
use Rattle.bundle_tree_places.specs.Edits.{Inside, node}
use Rattle.bundle_scope_names.proofs.HomesLemmas.{find-passes}
use Rattle.bundle_scope_names.proofs.naming_rule.Tables.{IsIn, map-in, in-map, find-in, find-some, map-congr, Table, table_in, all-are, declared-in}
use Rattle.bundle_scope_names.proofs.naming_rule.Clash.{moved, any-congr, HasPlainKeys}
use Rattle.bundle_scope_names.proofs.naming_rule.Rebuilt.{ArePlain}
use Rattle.bundle_scope_names.proofs.naming_rule.Transfer.{Calling, recalled, recalled_as, recalled_denoted, named, IsFaithful, IsKnown, known, recalled-one, called_symbol, beside_by, needed_by, may_keep_by, new_symbol, taken_by, taken_to_by, least_free_by, named_right_by}
use Rattle.bundle_scope_names.proofs.naming_rule.Theorem.{IsUndoubled}
use Rattle.bundle_merge_theory.specs.joined.Notes.{its_name}
use Rattle.bundle_merge_theory.proofs.grouped.TopLemmas.{same-refl as same-self}
use Rattle.bundle_merge_theory.specs.noted.Agrees.{IsListing}
use Rattle.bundle_merge_theory.specs.noted.Listed.{AreListed, Other}
use Rattle.bundle_merge_theory.proofs.noted.Listing.{is_listing}
use Rattle.bundle_merge_theory.specs.joined.Joined.{joined_items}
use Rattle.bundle_merge_theory.proofs.composed.Among.{OfScope}
use Rattle.bundle_merge_theory.proofs.composed.Becomings.{InTable, same-scopes, in-table, same-bound, same-is, placed-same, orders-one}
use Rattle.bundle_merge_theory.specs.finished.Twice.{IsEditable}
use Rattle.bundle_merge_theory.specs.finished.Finished.{denoted_by_table, recall, called_place, final_symbol, called_idents, final_idents, finished}
use Rattle.bundle_merge_theory.specs.finished.Numbers.{number_at, later_of, merged_symbol, named_symbol}
use Rattle.bundle_merge_theory.proofs.finished.Tidied.{injective, zip_declared, IsFinalNumbering, rid-of-keywords, clean-finished, is-finished, undoubled-finished}
use Rattle.bundle_merge_theory.proofs.composed.Naming.{IsReady, items-edited, naming-keeps}
use Rattle.bundle_merge_theory.proofs.composed.Theorem.{IsWholeBundle, keywords-keep-bundles, names-keep-bundles}
use Rattle.bundle_merge_theory.specs.finished.Rules.{IsKeywordRule}
use Rattle.bundle_merge_theory.specs.finished.Whole.{renamed_idents, named_at_once, AreRightNumbers}
use Rattle.bundle_merge_theory.proofs.finished.Twice.{with-idents-are, edits-with, tidied-twice, tidied-edits, tidied-idents, tidied-with_idents, cleared-tidied}
use Rattle.bundle_merge_theory.proofs.finished.Rules.{rule-faithful}
use Rattle.bundle_merge_theory.proofs.finished.Modules.{still-whole}
use Rattle.bundle_merge_theory.proofs.finished.Listing.{listed-again, listed-tidied, listing-again}

-- ---- numbers

-- The rule asks for no other numbers than these.

module _ (call : Calling) (all : List Declared) (os : List Occurrence) (f g : Numbering) (same : (a : Declared) → IsIn all a → number_of f all a ≡ number_of g all a) (outside : (o : Occurrence) → IsIn os o → (scope : Scope) → is_kept_outside f scope (denoted_of ByContext Es all o) ≡ is_kept_outside g scope (denoted_of ByContext Es all o)) (d : Declared) (there : IsIn all d) where
  same-beside : (a : Declared) → IsIn all a → beside_by f call all d a ≡ beside_by g call all d a
  same-beside a at =
      ap
      (λ n. same_scope (group a) (group d) && bytes_eq (called_symbol call a.name) (called_symbol call d.name) && comes_before all a d && n == 0)
      (same a at)

  same-needed : (o : Occurrence) → IsIn os o → needed_by f call all d o ≡ needed_by g call all d o
  same-needed o at =
      ap
      (λ b. bytes_eq (called_symbol call (named o)) (called_symbol call d.name) && list_any (same_scope (home_of all d)) (scopes_around Es o.path) && b)
      (outside o at (home_of all d))

  same-may : may_keep_by f call all os d ≡ may_keep_by g call all os d
  same-may =
      ap₂ (λ a b. not (is_arguments (called_symbol call d.name)) && not a && not b)
      (any-congr (beside_by f call all d) (beside_by g call all d) all same-beside)
      (any-congr (needed_by f call all d) (needed_by g call all d) os same-needed)

  same-taken : (x : List ℕ) → taken_by f call all os d x ≡ taken_by g call all os d x
  same-taken x =
      ap (λ b. list_any (λ o. bytes_eq (called_symbol call (named o)) x) os || b)
      (any-congr (λ a. comes_before all a d && bytes_eq (new_symbol f call all a) x) (λ a. comes_before all a d && bytes_eq (new_symbol g call all a) x) all (λ a at. ap (λ n. comes_before all a d && bytes_eq (numbered (called_symbol call a.name) n) x) (same a at)))

  same-taken_to : (n : ℕ) → taken_to_by f call all os d n ≡ taken_to_by g call all os d n
  same-taken_to zero = refl
  same-taken_to (suc n) =
      ap₂ (λ a b. a && b) (same-taken (numbered (called_symbol call d.name) (suc n)))
      (same-taken_to n)

  same-least : (n : ℕ) → least_free_by f call all os d n ≡ least_free_by g call all os d n
  same-least zero = refl
  same-least (suc n) =
      ap₂ (λ a b. not a && b) (same-taken (numbered (called_symbol call d.name) (suc n)))
      (same-taken_to n)

  pub same-right : named_right_by f call all os d ≡ named_right_by g call all os d
  same-right =
      ap (λ n. cond (may_keep_by f call all os d) (n == 0) (least_free_by f call all os d n)) (same d there)
      ∙ ap₂ (λ a b. cond a (number_of g all d == 0) b) same-may (same-least (number_of g all d))

-- The numbers of the merged tree.

module _ (call : Calling) (tree : List Item) (names : HasNamesOnly tree) (plain : ArePlain tree) (editable : IsEditable tree) (faithful : IsFaithful call (occurrences tree) (declared ByContext Es tree)) where
  abbrev os : List Occurrence
  os = occurrences tree

  abbrev all : List Declared
  all = declared ByContext Es tree

  abbrev every : List Declared
  every = declared ByContext Es (recall call tree)

  abbrev move : ℕ → ℕ
  move = called_place call tree

  abbrev K : Table
  K = table_in start tree

  contains : (d : Denoted) → IsIn (denotations ByContext Es tree) d →
      Contains (denotations ByContext Es tree) d
  contains d at =
      (at.0, slice_get_within (denotations ByContext Es tree) at.0 d at.1, get_or_from_slice_get (denotations ByContext Es tree) at.0 d d at.1)

  known_one : (d : Denoted) → IsIn (denotations ByContext Es tree) d → IsKnown os d
  known_one d at =
      let from = map-in (denoted_of ByContext Es all) os d at in
      subst (IsKnown os) (sym from.2) (known call move (injective call tree names plain editable faithful) os all every (zip_declared call tree names plain editable faithful) faithful from.0 from.1)

  one : (d e : Denoted) → IsIn (denotations ByContext Es tree) d →
      IsIn (denotations ByContext Es tree) e →
      recalled_denoted call move d ≡ recalled_denoted call move e → d ≡ e
  one d e at there is =
      recalled-one call move (injective call tree names plain editable faithful) os all every
      (zip_declared call tree names plain editable faithful) faithful d e (known_one d at)
      (known_one e there) is

  -- what is told to be the same in the tree without keywords is the same
  same-after : (d e : Denoted) → OfScope (InTable K) ([], refl) d →
      OfScope (InTable K) ([], refl) e →
      same_denoted (recalled_denoted call move d) (recalled_denoted call move e) ≡ true →
      recalled_denoted call move d ≡ recalled_denoted call move e
  same-after (Bound s m) (Bound t n) at there is =
      let parts = same-bound (moved move s) (moved move t) (recalled call m) (recalled call n) is in
      let orders = orders-one move (injective call tree names plain editable faithful) s t (ap scope_order (placed-same move s) ∙ parts.order ∙ sym (ap scope_order (placed-same move t))) in
      let scopes = same-scopes K s t at there orders in
      λ i. Bound (moved move (scopes i)) (parts.names i)
  same-after (Bound s m) (Global y) at there is = absurd cc
  same-after (Global x) (Bound t n) at there is = absurd cc
  same-after (Global x) (Global y) at there is = same-is K (Global x) (Global y) tt tt is

  -- what is denoted keeps its number
  pub later-is : (numbers : Numbering) (t : Scope) (n : Name) →
      IsIn (denotations ByContext Es tree) (Bound t n) →
      later_of call tree numbers (moved move t) (recalled call n) ≡ numbers t n
  later-is numbers t n at =
      let test : Denoted → Bool = λ d. same_denoted (recalled_denoted call (called_place call tree) d) (Bound (moved move t) (recalled call n)) in
      let found = find-some test (denotations ByContext Es tree) (Bound t n) at (same-self (Bound (moved move t) (recalled call n))) in
      let its = find-in test (denotations ByContext Es tree) found.0 found.1 in
      let is = find-passes test (denotations ByContext Es tree) found.0 found.1 in
      let same = one found.0 (Bound t n) its at (same-after found.0 (Bound t n) (in-table ByContext tree found.0 (contains found.0 its)) (in-table ByContext tree (Bound t n) (contains (Bound t n) at)) is) in
      ap (λ f. unwrap_or (option_map (number_at numbers) f) 0) found.1 ∙ ap (number_at numbers) same

  -- what is declared is denoted
  declared-denoted : (d : Declared) → IsIn all d →
      IsIn (denotations ByContext Es tree) (Bound (home_of all d) d.name)
  declared-denoted d at =
      let from = declared-in ByContext os d (subst (λ l. IsIn l d) (all-are tree names) at) in
      subst (IsIn (denotations ByContext Es tree)) (ap (own_or_found all (denoted_by_context all (scopes_around Es from.0.path) (its_name from.0))) from.2) (in-map (denoted_of ByContext Es all) os from.0 from.1)

  -- the numbers of the merged tree are right for the tree without keywords
  pub final-numbering : (numbers : Numbering) →
      ((d : Declared) → IsIn all d → named_right_by numbers call all os d ≡ true) →
      IsFinalNumbering call tree names plain editable faithful (later_of call tree numbers)
  final-numbering numbers right d at =
      same-right call all os (λ t n. later_of call tree numbers (moved move t) (recalled call n)) numbers
      (λ a its. later-is numbers (home_of all a) a.name (declared-denoted a its))
      (λ o its scope. by_denoted scope (denoted_of ByContext Es all o) (in-map (denoted_of ByContext Es all) os o its))
      d at ∙ right d at
    where
      by_denoted : (scope : Scope) (e : Denoted) → IsIn (denotations ByContext Es tree) e →
          is_kept_outside (λ t n. later_of call tree numbers (moved move t) (recalled call n)) scope
          e ≡
          is_kept_outside numbers scope e
      by_denoted scope (Global x) its = refl
      by_denoted scope (Bound t n) its =
          ap (λ k. nat_lt (scope_order t) (scope_order scope) && k == 0) (later-is numbers t n its)

  -- and so are the symbols
  pub final-symbol-is : (numbers : Numbering) (o : Occurrence) → IsIn os o →
      final_symbol call tree (later_of call tree numbers) o ≡ named_symbol call tree numbers o
  final-symbol-is numbers o at =
      by_denoted (denoted_by_table tree o) (in-map (denoted_of ByContext Es all) os o at)
    where
      by_context : (t : Scope) (n : Name) (c : Option ℕ) → n.ctxt ≡ c →
          IsIn (denotations ByContext Es tree) (Bound t n) →
          symbol_after (later_of call tree numbers) (Bound (moved move t) (recalled_as call n c)) ≡
          cond (is_some c) (numbered (recalled_as call n c).sym (numbers t n)) n.sym
      by_context t n None is its =
          ap
          (λ c. cond (is_some c) (numbered n.sym (later_of call tree numbers (moved move t) n)) n.sym)
          is
      by_context t n (Some c) is its =
          ap (numbered (call n.sym c).0)
          (ap (λ x. later_of call tree numbers (moved move t) (recalled_as call n x)) (sym is) ∙ later-is numbers t n its)

      by_denoted : (e : Denoted) → IsIn (denotations ByContext Es tree) e →
          symbol_after (later_of call tree numbers) (recalled_denoted call move e) ≡
          merged_symbol numbers call e
      by_denoted (Global x) its = refl
      by_denoted (Bound t n) its = by_context t n n.ctxt refl its

-- ---- whole

-- a bundle that can be renamed can be edited
pub ready-editable : (p : Program) (hooks : Hooks) (plan : List Cause) (tree : List Item) →
    IsReady p hooks plan ByContext tree → IsEditable tree
ready-editable p hooks plan tree ready =
    let still = ready.still in
    let edited = items-edited still.items still.noted (joined_items still.items) ready.forms ready.lone refl in
    subst IsEditable (sym still.is) (record { changes = _; after = node 0 h.Module edited.made; left = []; edits = Inside 0 h.Module refl edited.edits })

module _ (call : Calling) (tree : List Item) (names : HasNamesOnly tree) (plain : ArePlain tree) (editable : IsEditable tree) (rule : IsKeywordRule call tree) where
  faithful : IsFaithful call (occurrences tree) (declared ByContext Es tree)
  faithful = rule-faithful call tree names rule

  -- the two ways to say the identifiers of the named tree
  idents-same : (numbers : Numbering) →
      final_idents call tree (later_of call tree numbers) ≡ renamed_idents call tree numbers
  idents-same numbers =
      map-congr (λ (o : Occurrence). (final_symbol call tree (later_of call tree numbers) o, 0))
      (λ (o : Occurrence). (named_symbol call tree numbers o, 0)) (occurrences tree)
      (λ o at i. (final-symbol-is call tree names plain editable faithful numbers o at i, 0))

  pub finished-same : (numbers : Numbering) →
      finished call tree (later_of call tree numbers) ≡ named_at_once call tree numbers
  finished-same numbers = ap (λ l. cleared (with_idents tree l)) (idents-same numbers)

-- Without hygiene.

pub as-many : (call : Calling) (tree : List Item) →
    length (called_idents call tree) ≡ length (idents tree)
as-many call tree =
    length-map (occurrences tree) (λ (o : Occurrence). call o.sym o.ctxt)
    ∙ sym (length-map (occurrences tree) ident_of)

-- the tidy tree with the keywords' identifiers is the tidied tree without keywords
pub unnamed : (call : Calling) (tree : List Item) → IsEditable tree →
    IsNamedAs false (recall call tree) (with_idents (tidied tree) (called_idents call tree))
unnamed call tree editable =
    sym (tidied-with_idents tree editable (called_idents call tree) (as-many call tree))

pub unnamed-clean : (settings : Settings) → settings.renames ≡ false →
    (call : Calling) (tree : List Item) → IsEditable tree →
    IsClean settings (with_idents (tidied tree) (called_idents call tree))
unnamed-clean settings renames call tree editable =
    let is = unnamed call tree editable in
    let its : List Item = with_idents (tidied tree) (called_idents call tree) in
    subst (λ b. its ≡ (if b then cleared its else tidied its)) (sym renames) (is ∙ sym (tidied-twice (recall call tree)) ∙ ap tidied (sym is))

-- with hygiene the tidy tree is renamed too
pub named-tidy : (call : Calling) (tree : List Item) → IsEditable tree → (numbers : Numbering) →
    named_at_once call tree numbers ≡ with_idents (tidied tree) (renamed_idents call tree numbers)
named-tidy call tree editable numbers =
    let size : length (renamed_idents call tree numbers) ≡ length (idents tree) = length-map (occurrences tree) (λ (o : Occurrence). (named_symbol call tree numbers o, 0)) ∙ sym (length-map (occurrences tree) ident_of) in
    cleared-tidied (named_symbol call tree numbers) (occurrences tree) (with_idents tree (renamed_idents call tree numbers)) (with-idents-are tree editable (renamed_idents call tree numbers) size)
    ∙ tidied-with_idents tree editable (renamed_idents call tree numbers) size

-- Listings.

pub free-listed : (call : Calling) (tree : List Item) → IsEditable tree → AreListed Other tree →
    AreListed Other (recall call tree)
free-listed call tree editable listed =
    let it = edits-with tree editable (called_idents call tree) (as-many call tree) in
    subst (AreListed Other) it.is (listed-again listed it.edits)

pub free-listing : (call : Calling) (tree : List Item) → IsEditable tree → AreListed Other tree →
    IsListing (recall call tree)
free-listing call tree editable listed = is_listing (free-listed call tree editable listed)

named-listing : (call : Calling) (tree : List Item) → IsEditable tree → (numbers : Numbering) →
    AreListed Other tree → IsListing (named_at_once call tree numbers)
named-listing call tree editable numbers listed =
    let its : IsEditable (tidied tree) = record { changes = editable.changes; after = tidied editable.after; left = editable.left; edits = tidied-edits editable.edits } in
    let size : length (renamed_idents call tree numbers) ≡ length (idents (tidied tree)) = length-map (occurrences tree) (λ (o : Occurrence). (named_symbol call tree numbers o, 0)) ∙ sym (length-map (occurrences tree) ident_of) ∙ ap (λ (l : List Ident). length l) (sym (tidied-idents tree)) in
    let it = edits-with (tidied tree) its (renamed_idents call tree numbers) size in
    subst IsListing (it.is ∙ sym (named-tidy call tree editable numbers)) (listing-again (listed-tidied listed) it.edits)

-- a merged bundle, without keywords, and named
pub record IsFinished (p : Program) (hooks : Hooks) (plan : List Cause) (merged free named : List Item) : Type 0 where
  pub rid : IsRidOfKeywords merged free
  pub whole : IsWholeBundle p hooks plan free
  pub names : IsNamed free named
  pub clean : named ≡ cleared named
  pub is_bundle : IsBundle p hooks AsModule BySymbol named
  pub undoubled : first_doubled Es named ≡ None
  pub whole_module : IsWholeModule named

-- the merged tree without its keywords is a bundle still
pub free-whole : (p : Program) (hooks : Hooks) (plan : List Cause) (merged : List Item) →
    IsWholeBundle p hooks plan merged → (call : Calling) → IsKeywordRule call merged →
    AreListed Other merged → IsWholeBundle p hooks plan (recall call merged)
free-whole p hooks plan merged its call rule listed =
    let editable = ready-editable p hooks plan merged its.ready in
    let faithful = rule-faithful call merged its.names rule in
    keywords-keep-bundles p hooks plan merged (recall call merged) its
    (rid-of-keywords call merged its.names its.plain editable faithful its.resolved rule.calling)
    (free-listing call merged editable listed)

-- the end of a bundle
pub bundle-finished : (p : Program) (hooks : Hooks) (plan : List Cause) (merged : List Item) →
    IsWholeBundle p hooks plan merged → HasPlainKeys merged → IsUndoubled merged →
    (call : Calling) → IsKeywordRule call merged → (numbers : Numbering) →
    AreRightNumbers call merged numbers → AreListed Other merged →
    IsFinished p hooks plan merged (recall call merged) (named_at_once call merged numbers)
bundle-finished p hooks plan merged its keys undoubled call rule numbers right listed =
    let editable = ready-editable p hooks plan merged its.ready in
    let its_listing = named-listing call merged editable numbers listed in
    let faithful = rule-faithful call merged its.names rule in
    let is = finished-same call merged its.names its.plain editable rule numbers in
    let final = final-numbering call merged its.names its.plain editable faithful numbers right in
    let rid = rid-of-keywords call merged its.names its.plain editable faithful its.resolved rule.calling in
    let whole = free-whole p hooks plan merged its call rule listed in
    let named : IsNamed (recall call merged) (named_at_once call merged numbers) = subst (IsNamed (recall call merged)) is (is-finished call merged its.names its.plain editable faithful its.resolved rule.calling (later_of call merged numbers) final) in
    record {
      rid = rid;
      whole = whole;
      names = named;
      clean = subst (λ t. t ≡ cleared t) is (clean-finished call merged its.names its.plain editable faithful (later_of call merged numbers));
      is_bundle = names-keep-bundles p hooks plan (recall call merged) (named_at_once call merged numbers) whole named its_listing;
      undoubled = subst (λ t. first_doubled Es t ≡ None) is (undoubled-finished call merged its.names its.plain editable faithful its.resolved rule.calling keys undoubled (later_of call merged numbers) final);
      whole_module = still-whole p hooks plan BySymbol (named_at_once call merged numbers) (naming-keeps p hooks plan (recall call merged) (named_at_once call merged numbers) whole.ready whole.resolved whole.names whole.plain named its_listing);
    }
