-- An ES module's own statement, with the contexts of a bundle: what becomes of it is right by itself.
-- First what is so of the statement and of its names.
use Rattle.std.proofs.Common.{◌≡◌, ◌⊎◌, inl, inr, ℕ, zero, suc, ◌+◌, Bool, true, false, not, List, [], ◌∷◌, ◌++◌, Option, Some, None, filter, length, map, slice_get, bytes_eq, refl, ap, sym, ◌∙◌, subst, arith}
use Rattle.std.specs.Prelude.{Contains, if◌then◌else◌}
use Rattle.std.specs.List.{AllZip}
use Rattle.std.proofs.lemmas.Bool.{false≢true}
use Rattle.std.proofs.lemmas.Option.{none-some, same_Some}
use Rattle.std.proofs.lemmas.Slice.Eq.{bytes_eq-Decides}
use Rattle.bundle_syntax.specs.Item.{Item}
use Rattle.bundle_rules.specs.Places.{Spot, start, Occurrence, occurrences, occurrences_from}
use Rattle.bundle_rules.specs.Scopes.{Es, ScopeKind, Wrapper, Top, Inner}
use Rattle.bundle_rules.specs.Declarations.{BySymbol, Declared, declaration_of, declared}
use Rattle.bundle_rules.specs.Denotes.{Denoted, Bound, Global, denoted_of}
use Rattle.bundle_rules.specs.Cleared.{cleared}
use Rattle.bundle_rules.specs.Idents.{Ident, ident_of}
use Rattle.bundle_rules.specs.Statements.{Element}
use Rattle.bundle_rules.specs.Entries.{has_import_meta}
use Rattle.bundle_rules.specs.Program.{Program, tree_of, IsReached}
use Rattle.bundle_rules.specs.Linking as k
use Rattle.bundle_rules.specs.Linking.{IsCommonJs}
use Rattle.bundle_rules.specs.Meaning.{Label, Of, Parameter, Load, Meta, Meant, Known, IsMeant, is_es}
use Rattle.bundle_rules.specs.Bundle.{HoldsMeta}
use Rattle.bundle_rules.specs.Bundle as b
use Rattle.bundle_rules.proofs.PathLemmas.{cleared_occurrence}
use Rattle.bundle_tree_rebuild.specs.Work.{Step, is_spelled_out_by}
use Rattle.bundle_scope_names.proofs.Numbering.{Numbering, context_of}
use Rattle.bundle_scope_names.proofs.HomesLemmas.{Each}
use Rattle.bundle_scope_names.proofs.FoundLemmas.{plain}
use Rattle.bundle_scope_names.proofs.TreeLemmas.{denotation-at, DenotesOf, denoted-known, kind_in, occurrences-known, IsFor, denoted-for}
use Rattle.bundle_scope_names.specs.fit.Sorts.{AModule, AnItem, AStmt}
use Rattle.bundle_scope_names.specs.fit.Fits.{IsFit}
use Rattle.bundle_scope_names.proofs.fit.Rows.{last}
use Rattle.bundle_merge_theory.specs.joined.Joined.{AllOf}
use Rattle.bundle_merge_theory.proofs.grouped.ClearedLemmas.{length-cleared}
use Rattle.bundle_merge_theory.proofs.joined.Paths.{IsOccurrenceIn}
use Rattle.bundle_merge_theory.specs.noted.Marked.{Note}
use Rattle.bundle_merge_theory.specs.noted.Agrees.{IsSpotAt}
use Rattle.bundle_merge_theory.specs.noted.Nodes.{AreNodesInTurn}
use Rattle.bundle_merge_theory.specs.walked.Rewrites.{Cover, KeepsSymbol}
use Rattle.bundle_link_tables.specs.Used.{is_use, use_of}
use Rattle.bundle_link_targets.specs.Meant.{by_use}
use Rattle.bundle_link_index.proofs.ProgramLemmas.{map_on as map-on, filter_on as filter-on}
use Rattle.bundle_link_targets.proofs.MeantLemmas.{taken-meant}
use Rattle.bundle_merge_theory.proofs.fit.Facts.{one_ways}
use Rattle.bundle_merge_theory.specs.made.Given.{HookAnswer, BundleContexts, Holder, TopOf, InsideOf, NameOf, numbers_in, ident_of_label, default_ident}
use Rattle.bundle_merge_theory.specs.made.Steps.{IsStep, keeps, uses, calls, IsTargetUsed, occurrences_in, meta_ident}
use Rattle.bundle_merge_theory.specs.made.Made.{IsStatedAs}
use Rattle.bundle_merge_theory.specs.made.Alone.{AreTreesSound, TellApart, IsHolder, IsTopLabel, holds_meta}
use Rattle.bundle_merge_theory.specs.made.Alone as a
use Rattle.bundle_merge_theory.specs.made.Told.{IsStatementTold, AllNoted, IsNotedStep, IsNamedFor, inside, known, unbound, kept_ident, inner_of, meta_meant}
use Rattle.bundle_merge_theory.specs.own.Functions.{IsInFunction}
use Rattle.bundle_merge_theory.specs.own.Beside.{Pairs, Paired, Below, NoStepLeads, top_spot, StatedBeside}
use Rattle.bundle_merge_theory.proofs.own.Fit.{states_stmt, states_given_own}
use Rattle.bundle_merge_theory.proofs.function.Given.{fit_given, one_alone, occurrences-here}
use Rattle.bundle_merge_theory.proofs.own.Like.{LooksLike, made-like, occurrences_from-cleared, cleared-like}
use Rattle.bundle_merge_theory.proofs.own.Stated.{stated_low, stated_high, stated-beside, IsDeclaredAway}
use Rattle.bundle_merge_theory.proofs.own.Alongside.{HasWay, KeepsBinding, IsAlongside}
use Rattle.bundle_merge_theory.proofs.own.Tree.{AreTold, IsStrange, StandsAtTop, stands-at_top, top-fit, name-there, within, own-declared, all-declared, all-ways}
use Rattle.bundle_merge_theory.proofs.walked.NameLemmas.{idents_from}
use Rattle.bundle_merge_theory.proofs.own.Elements.{Has, has-contains}
use Rattle.bundle_merge_theory.proofs.own.Holders.{call_given, number-inside, HoldsLabel, by_module, by_name, label-holder, label-strange, IsOfEs, words-es}

-- what is so of names that stand in a part of a tree
record AreThere (tree : List Item) (low high : ℕ) (os : List Occurrence) : Type 0 where
  within : Each (IsOccurrenceIn low high) os
  declared_there : Each (λ o. (d : Declared) → declaration_of BySymbol Es o ≡ Some d →
      (i : ℕ) × (slice_get (declared BySymbol Es tree) i ≡ Some d)) os
  only : Each (λ d. IsDeclaredAway low high d
      ⊎ ((i : ℕ) × (o : Occurrence) × (slice_get os i ≡ Some o)
      × (declaration_of BySymbol Es o ≡ Some d))) (declared BySymbol Es tree)
  ways : AllOf HasWay os
  there : (i : ℕ) (o : Occurrence) → slice_get os i ≡ Some o →
      (j : ℕ) × (slice_get (occurrences tree) j ≡ Some o)

-- a step that keeps what is not spelled out
zip-cover : {P : Occurrence → Step → Type 0} → ((o : Occurrence) (step : Step) → P o step →
    (x y : List ℕ) → is_spelled_out_by step.spelling x y ≡ not (bytes_eq x y)) →
    (gs : List Occurrence) (steps : List Step) → AllZip P (map cleared_occurrence gs) steps →
    AllZip KeepsSymbol steps (map ident_of gs)
zip-cover spells [] [] all = tt
zip-cover spells [] (step ∷ steps) all = absurd all
zip-cover spells (o ∷ gs) [] all = absurd all
zip-cover spells (o ∷ gs) (step ∷ steps) all = (
  λ short. (bytes_eq-Decides step.ident.0 o.sym).0
      (by (bytes_eq step.ident.0 o.sym)
      (sym (spells (cleared_occurrence o) step all.0 step.ident.0 o.sym) ∙ short)),
  zip-cover spells gs steps all.1,
)
  where
    by : (t : Bool) → not t ≡ false → t ≡ true
    by true e = refl
    by false e = absurd (false≢true (sym e))

module _ (p : Program) (list : List ℕ) (context : BundleContexts) (answers : ℕ → Option HookAnswer)
    (sound : AreTreesSound p list) (apart : TellApart p answers context) (m : ℕ)
    (reached : IsReached p m) (es : IsCommonJs p m → ⊥) (statement : List Element)
    (item : List Item) (its : IsStatedAs p list context m Es statement item)
    (told : IsStatementTold p list context m Es statement item its)
    (labels : (l : Label) → IsMeant p l → IsTopLabel p l ⊎ IsInFunction p l) where
  abbrev pub tree : List Item
  tree = tree_of p m

  abbrev pub ds : List Declared
  ds = declared BySymbol Es tree

  abbrev pub g : Numbering
  g = numbers_in context m

  abbrev pub os : List Occurrence
  os = occurrences_in tree its.top

  abbrev pub meta : Option Ident
  meta = meta_ident p list context m

  abbrev pub default : Ident
  default = default_ident context m

  pub tree_fit : IsFit AModule 0 tree
  tree_fit = sound.fit.each m reached

  pub stand : StandsAtTop tree its.top
  stand = stands-at_top tree tree_fit its.top its.there

  abbrev pub place : ℕ
  place = its.top.start

  abbrev pub spot : Spot
  spot = top_spot place stand.field

  pub given_fit : IsFit AnItem 0 its.given
  given_fit =
      one_alone (fit_given (last (top-fit tree tree_fit its.top its.there)) its.given its.is_given)

  pub item_stmt : IsFit AStmt 0 item
  item_stmt = states_stmt its.by given_fit

  pub os-are : os ≡ occurrences_from spot (cleared its.given)
  os-are =
      occurrences-here its.top.items stand.tail stand.at its.top refl refl
      ∙ ap (occurrences_from spot) (sym its.is_given)

  spells-so : (o : Occurrence) (step : Step) → IsStep p list context m Es o step →
      (x y : List ℕ) → is_spelled_out_by step.spelling x y ≡ not (bytes_eq x y)
  spells-so o step (keeps no_use no_call to) = to.spells
  spells-so o step (uses is to) = to.spells
  spells-so o step (calls is to) = to.spells

  cover : Cover its.steps its.given
  cover =
      subst (AllZip KeepsSymbol its.steps) (idents_from spot its.given)
      (zip-cover spells-so (occurrences_from spot its.given) its.steps
      (subst (λ l. AllZip (IsStep p list context m Es) l its.steps)
      (os-are ∙ occurrences_from-cleared spot its.given) its.each))

  pub beside : StatedBeside spot its.steps meta default its.given item (stated_low its.by place)
      (stated_high its.by place)
  beside = stated-beside its.by (states_given_own its.by given_fit) its.steps its.behind refl cover
      place stand.field

  abbrev pub prs : Pairs
  prs = beside.pairs

  abbrev pub high : ℕ
  high = place + length (cleared its.given)

  abbrev pub last_place : ℕ
  last_place = 1 + length item

  abbrev pub front : List Occurrence
  front = beside.front

  abbrev pub rest : List Occurrence
  rest = beside.rest

  at-cleared : IsSpotAt tree spot (cleared its.given ++ stand.tail)
  at-cleared = subst (λ l. IsSpotAt tree spot (l ++ stand.tail)) (sym its.is_given) stand.at

  nodes-cleared : AreNodesInTurn (cleared its.given)
  nodes-cleared = subst AreNodesInTurn (sym its.is_given) stand.nodes

  are-there : AreThere tree place high os
  are-there =
      subst (AreThere tree place high) (sym os-are)
      (record {
        within = within tree spot (cleared its.given) stand.tail at-cleared nodes-cleared
            stand.field refl;
        declared_there = own-declared tree spot (cleared its.given) stand.tail at-cleared
            nodes-cleared stand.field refl;
        only = all-declared tree spot (cleared its.given) stand.tail at-cleared nodes-cleared
            stand.field refl;
        ways = all-ways tree spot (cleared its.given) stand.tail at-cleared nodes-cleared
            stand.field refl (one_ways tree_fit refl);
        there = name-there tree spot (cleared its.given) stand.tail at-cleared nodes-cleared
            stand.field refl;
      })

  pub in-tree : (i : ℕ) (o : Occurrence) → slice_get os i ≡ Some o →
      (j : ℕ) × (slice_get (occurrences tree) j ≡ Some o)
  in-tree = are-there.there

  -- names that bind keep their identifiers
  keeps-all : (inner : List Denoted) (some : List Occurrence) (by : List Step) (notes : List Note) →
      AllNoted p list context m Es inner some by notes → AllZip (KeepsBinding g ds) some by
  keeps-all inner [] [] [] all = tt
  keeps-all inner [] [] (note ∷ notes) all = absurd all
  keeps-all inner [] (step ∷ by) notes all = absurd all
  keeps-all inner (o ∷ some) [] notes all = absurd all
  keeps-all inner (o ∷ some) (step ∷ by) [] all = absurd all
  keeps-all inner (o ∷ some) (step ∷ by) (note ∷ notes) all =
      (λ binds. (all.0.binds binds).its_ident, keeps-all inner some by notes all.1)

  pub along : IsAlongside ds g place high last_place prs meta default its.given os its.steps front
      rest
  along = record {
    rise = beside.rise;
    below = subst (λ n. Below (place + n) last_place prs) (sym (length-cleared its.given))
        beside.below;
    within = are-there.within;
    declared = are-there.declared_there;
    only = are-there.only;
    ways = are-there.ways;
    all =
        made-like (Paired prs) meta beside.all
        (subst (λ l. AllZip LooksLike l (occurrences_from spot its.given)) (sym os-are)
        (cleared-like spot its.given));
    keeps = keeps-all (inner_of p m Es its.top) os its.steps told.notes told.each;
    are_front = beside.are_front;
    default_is = refl;
  }

  -- HOLDERS

  pub holder-inside : (i : ℕ) (o : Occurrence) (kind : ScopeKind) (c : ℕ) → slice_get os i ≡ Some
      o →
      denoted_of BySymbol Es ds o ≡ Bound (Inner kind c) (plain o.sym) → IsHolder p answers
      (InsideOf m c)
  holder-inside i o kind c at denotes =
      let there = in-tree i o at in
      a.inside_of Es kind (plain o.sym) there.0 reached (is_es es)
      (denotation-at Es tree there.0 o there.1 ∙ ap Some denotes)

  place_of : Holder → ℕ
  place_of (InsideOf n c) = c
  place_of other = 0

  kind-known : (i : ℕ) (o : Occurrence) (kind : ScopeKind) (c : ℕ) → slice_get os i ≡ Some o →
      denoted_of BySymbol Es ds o ≡ Bound (Inner kind c) (plain o.sym) → kind ≡ kind_in start tree c
  kind-known i o kind c at denotes =
      let there = in-tree i o at in
      subst (DenotesOf (kind_in start tree)) denotes
      (denoted-known (kind_in start tree) Es ds o (occurrences-known tree there.0 o there.1))

  pub are-told : AreTold ds g os
  unfolding place_of
  are-told = record {
    own = λ i o kind c at denotes x is.
        let above = apart.own (InsideOf m c) (holder-inside i o kind c at denotes) in
        let one = sym (number-inside context m c x) ∙ is in
        omega (arith, above, one);
    top = λ i o kind c at denotes x y is.
        no_top (apart.apart (InsideOf m c) (TopOf m) (holder-inside i o kind c at denotes)
        (a.top_of reached)
        (sym (number-inside context m c x) ∙ is));
    apart = λ i j o q kind other c d at there denotes its_denotes x y is.
        ap place_of
        (apart.apart (InsideOf m c) (InsideOf m d) (holder-inside i o kind c at denotes)
        (holder-inside j q other d there its_denotes)
        (sym (number-inside context m c x) ∙ is ∙ number-inside context m d y));
    kinds = λ i j o q kind other c at there denotes its_denotes.
        kind-known i o kind c at denotes ∙ sym (kind-known j q other c there its_denotes);
  }
    where
      no_top : {c : ℕ} → InsideOf m c ≡ TopOf m → ⊥
      no_top e = cc

  pub strange-label : (l : Label) → IsTopLabel p l → IsStrange ds g os
      (ident_of_label p list context l).1
  strange-label l top = λ i o kind c at denotes x is.
      label-strange p list context answers apart l top m c (holder-inside i o kind c at denotes)
      (sym (number-inside context m c x) ∙ is)

  -- STEPS: where the identifier of a step comes from
  data StepIdent (step : Step) : Type 0 where
    of_top : step.ident.1 ≡ context (TopOf m) → StepIdent step
    of_inside : {c : ℕ} → IsHolder p answers (InsideOf m c) → step.ident.1 ≡ context
        (InsideOf m c) → StepIdent step
    of_global : step.ident.1 ≡ 1 → StepIdent step
    of_label : (l : Label) → IsTopLabel p l → (l ≡ Meta m → ⊥) → step.ident ≡ ident_of_label p list
        context l → StepIdent step

  -- what is told of a name that means a label
  record MeansLabel (o : Occurrence) (ident : Ident) (l : Label) : Type 0 where
    meant : IsMeant p l
    ident_is : ident ≡ ident_of_label p list context l

  means-label : (inner : List Denoted) (o : Occurrence) {meant : Meant} {ident : Ident} →
      IsNamedFor p list context m Es inner o meant ident → (l : Label) → meant ≡ Known l →
      MeansLabel o ident l
  means-label inner o (inside found is) l same = absurd cc
  means-label inner o (unbound denotes) l same = absurd cc
  means-label inner o (known {l = other} out meant) l same =
      let labels_same : other ≡ l = ap label_of same in
      record {
        meant = subst (IsMeant p) labels_same meant;
        ident_is = ap (ident_of_label p list
            context) labels_same;
      }
    where
      label_of : Meant → Label
      label_of (Known z) = z
      label_of z = other

  kept-ident : (i : ℕ) (o : Occurrence) (step : Step) → slice_get os i ≡ Some o →
      step.ident ≡ kept_ident p context m Es o → StepIdent step
  kept-ident i o step at is =
      by (denoted_of BySymbol Es ds o) refl (ap (λ (i : Ident). i.1) is) (denoted-for Es ds o)
    where
      by : (d : Denoted) → denoted_of BySymbol Es ds o ≡ d → step.ident.1 ≡ context_of g
          (denoted_of BySymbol Es ds o) →
          IsFor o.sym (denoted_of BySymbol Es ds o) → StepIdent step
      by (Global x) denotes number symbol = of_global (number ∙ ap (context_of g) denotes)
      by (Bound Top name) denotes number symbol = of_top (number ∙ ap (context_of g) denotes)
      by (Bound Wrapper name) denotes number symbol = of_top (number ∙ ap (context_of g) denotes)
      by (Bound (Inner kind c) name) denotes number symbol =
          let its_name : name ≡ plain o.sym = subst (IsFor o.sym) denotes symbol in
          of_inside (holder-inside i o kind c at (denotes ∙ ap (Bound (Inner kind c)) its_name))
          (number ∙ ap (context_of g) denotes ∙ number-inside context m c name.sym)

  no_of : (t : k.Target) (l : Label) → IsInFunction p (Of t) → IsOfEs p t → ⊥
  no_of t l fn of_es = by fn.is
    where
      by : (Of t ≡ Of (k.Declared fn.c fn.x)) ⊎ (Of t ≡ Parameter fn.c fn.x) → ⊥
      by (inl e) =
          let same : t ≡ k.Declared fn.c fn.x = ap target_of e in
          (subst (IsOfEs p) same of_es) fn.common_js
        where
          target_of : Label → k.Target
          target_of (Of z) = z
          target_of z = t
      by (inr e) = cc

  contains-at : {A : Type 0} (xs : List A) (i : ℕ) (x : A) → slice_get xs i ≡ Some x → Contains xs x
  contains-at xs i x at = has-contains xs x (go xs i at)
    where
      go : (ys : List _) (j : ℕ) → slice_get ys j ≡ Some x → Has ys x
      go [] j is = absurd (none-some x is)
      go (y ∷ ys) zero is = inl (same_Some y x is)
      go (y ∷ ys) (suc j) is = inr (go ys j is)

  -- what a use means is meant
  used : (o : Occurrence) (c : ℕ) (t : k.Target) → Contains (occurrences tree) o →
      IsTargetUsed p m o c t → IsMeant p (Of t)
  used o c t there is =
      taken-meant p sound.modules
      (by_use reached
      (map-on (use_of tree) (filter (is_use tree) (occurrences tree)) o
      (filter-on (is_use tree) (occurrences tree) o there is.used))
      is.means)

  step-ident : (inner : List Denoted) (i : ℕ) (o : Occurrence) (step : Step) (note : Note) →
      slice_get os i ≡ Some o →
      IsStep p list context m Es o step → IsNotedStep p list context m Es inner o step note →
      StepIdent step
  step-ident inner i o step note at (keeps no_use no_call to) noted = kept-ident i o step at
      to.its_ident
  step-ident inner i o step note at (uses {n = n} {t = t} is to) noted =
      let there = in-tree i o at in
      let meant = used o n t (contains-at (occurrences tree) there.0 o there.1) is in
      by (labels (Of t) meant)
    where
      no_meta : Of t ≡ Meta m → ⊥
      no_meta e = cc

      by : IsTopLabel p (Of t) ⊎ IsInFunction p (Of t) → StepIdent step
      by (inl top) = of_label (Of t) top no_meta to.its_ident
      by (inr fn) = absurd (no_of t (Of t) fn (words-es p m _ _ n t is.means es))
  step-ident inner i o step note at (calls {c = c} is to) noted =
      let given = call_given p sound.checked m c is.call reached is.linked is.leads in
      of_label (Load c)
      (record { cause = b.Defines c; due = b.defines given.0 given.1; declares = a.adds a.defines })
      no_meta to.its_ident
    where
      no_meta : Load c ≡ Meta m → ⊥
      no_meta e = cc

  step-not : (step : Step) → StepIdent step → (h : Holder) → IsHolder p answers h →
      (h ≡ TopOf m → ⊥) →
      ((c : ℕ) → h ≡ InsideOf m c → ⊥) → ((l : Label) → h ≡ NameOf l → l ≡ Meta m) →
      ((c : ℕ) → IsReached p c → (IsCommonJs p c → ⊥) → h ≡ TopOf c → ⊥) → context h ≡
      step.ident.1 → ⊥
  step-not step (of_top number) h holds no_top no_inside no_name no_module same =
      no_top (apart.apart h (TopOf m) holds (a.top_of reached) (same ∙ number))
  step-not step (of_inside {c = c} its_holder number) h holds no_top no_inside no_name no_module
      same =
      no_inside c (apart.apart h (InsideOf m c) holds its_holder (same ∙ number))
  step-not step (of_global number) h holds no_top no_inside no_name no_module same =
      let above = apart.own h holds in let one = same ∙ number in omega (arith, above, one)
  step-not step (of_label l top no_meta is) h holds no_top no_inside no_name no_module same =
      by (label-holder p list context answers apart l top)
    where
      number : context h ≡ (ident_of_label p list context l).1
      number = same ∙ ap (λ (i : Ident). i.1) is

      by : HoldsLabel p answers context l (ident_of_label p list context l).1 → ⊥
      by (by_module {m = c} its_reached its_es at) = no_module c its_reached its_es
          (apart.apart h (TopOf c) holds (a.top_of its_reached) (number ∙ at))
      by (by_name its_holder at) = no_meta
          (no_name l (apart.apart h (NameOf l) holds its_holder (number ∙ at)))

  pub meta-top : has_import_meta tree ≡ true → IsTopLabel p (Meta m)
  meta-top is = record {
    cause = HoldsMeta m;
    due = b.holds_meta reached is;
    declares = a.adds holds_meta;
  }

  pub meta-is : (i : Ident) → meta ≡ Some i → (has_import_meta tree ≡ true) ×
      (i ≡ ident_of_label p list context (Meta m))
  meta-is i is = by (has_import_meta tree) refl is
    where
      by : (t : Bool) → has_import_meta tree ≡ t →
          (if t then Some (ident_of_label p list context (Meta m)) else None) ≡ Some i →
          (has_import_meta tree ≡ true) × (i ≡ ident_of_label p list context (Meta m))
      by true has e = (has, sym (same_Some _ _ e))
      by false has e = absurd (none-some i e)

  pub meta-means : (meant : Meant) → meta_meant p m ≡ Some meant →
      (has_import_meta tree ≡ true) × (meant ≡ Known (Meta m)) ×
      (meta ≡ Some (ident_of_label p list context (Meta m)))
  meta-means meant is = by (has_import_meta tree) refl is
    where
      by : (t : Bool) → has_import_meta tree ≡ t → (if t then Some (Known (Meta m)) else None) ≡
          Some meant →
          (has_import_meta tree ≡ true) × (meant ≡ Known (Meta m)) ×
          (meta ≡ Some (ident_of_label p list context (Meta m)))
      by true has e = (
        has,
        sym (same_Some _ _ e),
        ap
            (λ t. if t then Some (ident_of_label p list context (Meta m)) else None) has,
      )
      by false has e = absurd (none-some meant e)

  label_of_holder : Label → Holder → Label
  label_of_holder other (NameOf l) = l
  label_of_holder other h = other

  holder-name : (l other : Label) → NameOf l ≡ NameOf other → l ≡ other
  unfolding label_of_holder
  holder-name l other e = ap (label_of_holder l) e

  module_of_holder : Holder → ℕ
  module_of_holder (TopOf c) = c
  module_of_holder h = 0

  holder-top : (c d : ℕ) → TopOf c ≡ TopOf d → c ≡ d
  unfolding module_of_holder
  holder-top c d e = ap module_of_holder e

  name-top : (l : Label) (c : ℕ) → NameOf l ≡ TopOf c → ⊥
  name-top l c e = cc

  name-inside : (l : Label) (c : ℕ) → NameOf l ≡ InsideOf m c → ⊥
  name-inside l c e = cc

  top-inside : (d c : ℕ) → TopOf d ≡ InsideOf m c → ⊥
  top-inside d c e = cc

  meta-holder : has_import_meta tree ≡ true → IsHolder p answers (NameOf (Meta m))
  meta-holder has = a.added (HoldsMeta m) (b.holds_meta reached has) holds_meta

  none-here : (inner : List Denoted) (some : List Occurrence) (by : List Step) (notes : List Note) →
      ((i : ℕ) (o : Occurrence) → slice_get some i ≡ Some o → (j : ℕ) × (slice_get os j ≡ Some o)) →
      AllZip (IsStep p list context m Es) some by → AllNoted p list context m Es inner some by
      notes → NoStepLeads meta by
  none-here inner [] [] notes here each noted = tt
  none-here inner [] (step ∷ by) notes here each noted = absurd each
  none-here inner (o ∷ some) [] notes here each noted = absurd each
  none-here inner (o ∷ some) (step ∷ by) [] here each noted = absurd noted
  none-here inner (o ∷ some) (step ∷ by) (note ∷ notes) here each noted =
      let at = here 0 o refl in (
        λ is.
            let found = meta-is step.ident is in
            step-not step (step-ident inner at.0 o step note at.1 each.0 noted.0) (NameOf (Meta m))
            (meta-holder found.0)
            (name-top (Meta m) m) (name-inside (Meta m)) (λ l e. sym (holder-name (Meta m) l e))
            (λ c its_reached its_es. name-top (Meta m) c) (sym (ap (λ (i : Ident). i.1) found.1)),
        none-here inner some by notes (λ i q is. here (suc i) q is) each.1 noted.1,
      )

  pub none-meta : NoStepLeads meta its.steps
  none-meta = none-here (inner_of p m Es its.top) os its.steps told.notes (λ i o at. (i, at))
      its.each told.each

  pub default-not : meta ≡ Some default → ⊥
  default-not is =
      let found = meta-is default is in
      name-top (Meta m) m
      (apart.apart (NameOf (Meta m)) (TopOf m) (meta-holder found.0) (a.top_of reached)
      (sym (ap (λ (i : Ident). i.1) found.1)))

  -- LABELS that names mean
  pub record IsMeantTop (l : Label) : Type 0 where
    pub top : IsTopLabel p l

  pub label-top : (inner : List Denoted) (i : ℕ) (o : Occurrence) (step : Step) (note : Note) →
      slice_get os i ≡ Some o →
      IsStep p list context m Es o step → IsNotedStep p list context m Es inner o step note →
      (l : Label) →
      note.meant ≡ Known l → IsMeantTop l
  label-top inner i o step note at is noted l same =
      let means = means-label inner o noted.named l same in by means (labels l means.meant)
    where
      function : (fn : IsInFunction p l) → step.ident.1 ≡ context (TopOf fn.c) → ⊥
      function fn number =
          step-not step (step-ident inner i o step note at is noted) (TopOf fn.c)
          (a.top_of fn.reached)
          (λ e. es (subst (IsCommonJs p) (holder-top fn.c m e) fn.common_js))
          (top-inside fn.c)
          (λ z e. absurd (name-top z fn.c (sym e)))
          (λ c its_reached its_es e. its_es
          (subst (IsCommonJs p) (holder-top fn.c c e) fn.common_js))
          (sym number)

      of_function : (fn : IsInFunction p l) → step.ident ≡ ident_of_label p list context l →
          (l ≡ Of (k.Declared fn.c fn.x)) ⊎ (l ≡ Parameter fn.c fn.x) → ⊥
      of_function fn ident (inl e) = function fn
          (ap (λ (i : Ident). i.1) (ident ∙ ap (ident_of_label p list context) e))
      of_function fn ident (inr e) = function fn
          (ap (λ (i : Ident). i.1) (ident ∙ ap (ident_of_label p list context) e))

      by : MeansLabel o step.ident l → IsTopLabel p l ⊎ IsInFunction p l → IsMeantTop l
      by means (inl top) = record { top = top }
      by means (inr fn) = absurd (of_function fn means.ident_is fn.is)
