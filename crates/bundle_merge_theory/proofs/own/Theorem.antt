-- Theorem of this folder (`own-alone`, `own-made`): an ES module's own statement becomes an item
-- that is right by itself, where what is told of the statement is so.
-- Used by folder `together`.
use Rattle.std.proofs.Common.{◌≡◌, ◌⊎◌, inl, inr, ℕ, zero, suc, ◌==◌, Bool, true, false, ◌&&◌, List, [], ◌∷◌, ◌++◌, Option, Some, option_map, map, slice_get, bytes_eq, refl, ap, sym, ◌∙◌, subst, arith, eq-eqb, eqb-true}
use Rattle.std.specs.Prelude.{Contains}
use Rattle.std.specs.List.{AllZip}
use Rattle.std.proofs.lemmas.Bool.{false≢true, and_parts, and_from, le-leb}
use Rattle.std.proofs.lemmas.Option.{none-some, same_Some}
use Rattle.std.proofs.lemmas.Slice.Eq.{bytes_eq-Decides}
use Rattle.bundle_syntax.specs.declared.piece.Role.{Role}
use Rattle.bundle_syntax.specs.declared.piece.Role.TheVariants as r
use Rattle.bundle_syntax.specs.Item as h
use Rattle.bundle_syntax.specs.Item.{Item}
use Rattle.bundle_rules.specs.Places.{Occurrence, is_binding}
use Rattle.bundle_rules.specs.Scopes.{ModuleKind, Es, Scope, ScopeKind, Wrapper, Top, Inner, same_scope}
use Rattle.bundle_rules.specs.Declarations.{Way, BySymbol, ByContext, name_of, Declared, declaration_of}
use Rattle.bundle_rules.specs.Homes.{home_of}
use Rattle.bundle_rules.specs.Denotes.{Denoted, Bound, Global, denoted_of, denoted_at, is_written_in}
use Rattle.bundle_rules.specs.Mentions.{each_denoted_once}
use Rattle.bundle_rules.specs.Idents.{Ident, ident_of}
use Rattle.bundle_rules.specs.Symbols.{denoted_symbol, inner_symbols}
use Rattle.bundle_rules.specs.Statements.{Element, taken, stated, default_name, default_binding, own_statements}
use Rattle.bundle_rules.specs.Program.{Program, tree_of, IsReached}
use Rattle.bundle_rules.specs.Linking as k
use Rattle.bundle_rules.specs.Linking.{IsCommonJs}
use Rattle.bundle_rules.specs.Meaning.{Label, Of, Meta, Meant, Known, Unbound, IsMeant, HasKind, is_es, is_inside, own_view}
use Rattle.bundle_rules.specs.Bundle.{Own, AsModule, IsDue, Hooks}
use Rattle.bundle_rules.specs.Bundle as b
use Rattle.bundle_rules.proofs.PlacesLemmas.{occurrences-at}
use Rattle.bundle_tree_rebuild.specs.Work.{Step}
use Rattle.bundle_scope_names.proofs.Numbering.{Numbering, is_identified, is_written, given}
use Rattle.bundle_scope_names.proofs.HomesLemmas.{list_any-here, list_any-found, same_order, bytes_same as same_symbol}
use Rattle.bundle_scope_names.proofs.FoundLemmas.{plain, with, written-lifted}
use Rattle.bundle_scope_names.proofs.TreeLemmas.{declaration_by_way, way-identified}
use Rattle.bundle_scope_names.specs.fit.Sorts.{AnItem}
use Rattle.bundle_scope_names.specs.fit.Fits.{IsFit}
use Rattle.bundle_scope_names.specs.fit.Fits as f
use Rattle.bundle_merge_theory.specs.joined.Joined.{AllOf, own_declared}
use Rattle.bundle_merge_theory.specs.joined.Notes.{own_denoted, is_inner_denoted}
use Rattle.bundle_merge_theory.specs.joined.Alike.{ScopesAlike, tops, wrappers, inners}
use Rattle.bundle_merge_theory.proofs.joined.Declarations.{IsNamed}
use Rattle.bundle_merge_theory.proofs.joined.Paths.{get-right, get-append}
use Rattle.bundle_merge_theory.proofs.loaded.Noted.{picked}
use Rattle.bundle_merge_theory.specs.noted.Marked.{Note}
use Rattle.bundle_merge_theory.specs.noted.Stated.{declares_default}
use Rattle.bundle_merge_theory.specs.walked.Keeps.{meant_in}
use Rattle.bundle_merge_theory.specs.walked.Stated.{SameStated}
use Rattle.bundle_merge_theory.proofs.walked.Rewriting.{own_lone}
use Rattle.bundle_merge_theory.specs.composed.Noted.{AsWhole, first_spot}
use Rattle.bundle_merge_theory.specs.composed.Functions.{whole_form}
use Rattle.bundle_merge_theory.proofs.composed.Counting.{nodes_in}
use Rattle.bundle_merge_theory.proofs.composed.Naming.{node-count}
use Rattle.bundle_merge_theory.specs.composed.Names.{told_inside}
use Rattle.bundle_merge_theory.proofs.composed.Lone.{told_of, own-noted}
use Rattle.bundle_merge_theory.proofs.fit.Facts.{fit_nodes, one_own}
use Rattle.bundle_merge_theory.proofs.fit.Clearing.{beside as stands-beside}
use Rattle.bundle_merge_theory.specs.made.Given.{HookAnswer, BundleContexts, TopOf, InsideOf, ident_of_label}
use Rattle.bundle_merge_theory.specs.made.Steps.{IsStep}
use Rattle.bundle_merge_theory.specs.made.Made.{IsStatedAs, IsMade}
use Rattle.bundle_merge_theory.specs.made.Made as makes
use Rattle.bundle_merge_theory.specs.made.Alone.{AreTreesSound, TellApart, OwnsHolder, IsTopLabel, DeclaresLabel, DeclaresTop, NameAlone, inside, of_top, free, ItemAlone, symbols_whole, IsItemAlone}
use Rattle.bundle_merge_theory.specs.made.Alone as a
use Rattle.bundle_merge_theory.specs.made.Told.{IsStatementTold, AllNoted, inner_of, meta_meant, default_meant}
use Rattle.bundle_merge_theory.specs.own.Functions.{IsInFunction}
use Rattle.bundle_merge_theory.specs.own.Beside.{Pairs, StatedBeside, Paired, MadeOf, AllMade, done, made, added, AreFront, no_front, one_front}
use Rattle.bundle_merge_theory.proofs.own.Fit.{states_fit, stmt_named}
use Rattle.bundle_merge_theory.proofs.own.Stated.{stated_low, stated_high}
use Rattle.bundle_merge_theory.proofs.own.Pairs.{rises-from}
use Rattle.bundle_merge_theory.proofs.own.Holders.{number-inside}
use Rattle.bundle_merge_theory.proofs.own.Alongside.{declared_names, names-plain, told-at, IsAlongside, its_numbering, KeepsBinding, IsKnownName, known-names, home-made, declared-denotes, declares-it, refers-none}
use Rattle.bundle_merge_theory.proofs.own.Tree.{AreTold, own-lifted}
use Rattle.bundle_merge_theory.proofs.own.Like.{FrontAligned, align-all}
use Rattle.bundle_merge_theory.proofs.walked.NameLemmas.{idents_from}
use Rattle.bundle_merge_theory.proofs.own.Elements.{Has, has-contains, contains-has, HasElements, stated-elements}
use Rattle.bundle_merge_theory.proofs.own.Naming.{NameMade, made_in, made_out, made_free, IsTopName, AllTold, AllMadeNames, all-made, FrontTold, same-number, same-symbols, resolved-inside, Becomes, becomes, its_inner}
use Rattle.bundle_merge_theory.proofs.own.Setting as z

module _ (p : Program) (hooks : Hooks) (list : List ℕ) (context : BundleContexts)
    (answers : ℕ → Option HookAnswer) (sound : AreTreesSound p list)
    (apart : TellApart p answers context) (m n : ℕ) (reached : IsReached p m)
    (es : IsCommonJs p m → ⊥) (due : IsDue p AsModule (Own m n)) (statement : List Element)
    (there : slice_get (own_statements (tree_of p m)) n ≡ Some statement) (item : List Item)
    (its : IsStatedAs p list context m Es statement item)
    (told : IsStatementTold p list context m Es statement item its)
    (labels : (l : Label) → IsMeant p l → IsTopLabel p l ⊎ IsInFunction p l) where
  -- what was set out before

  abbrev ds : List Declared
  ds = z.ds p list context answers sound apart m reached es statement item its told labels

  abbrev g : Numbering
  g = z.g p list context answers sound apart m reached es statement item its told labels

  abbrev os : List Occurrence
  os = z.os p list context answers sound apart m reached es statement item its told labels

  abbrev meta : Option Ident
  meta = z.meta p list context answers sound apart m reached es statement item its told labels

  abbrev default : Ident
  default = z.default p list context answers sound apart m reached es statement item its told labels

  abbrev place : ℕ
  place = z.place p list context answers sound apart m reached es statement item its told labels

  abbrev high : ℕ
  high = z.high p list context answers sound apart m reached es statement item its told labels

  abbrev last_place : ℕ
  last_place = z.last_place p list context answers sound apart m reached es statement item its told
      labels

  abbrev beside : StatedBeside (z.spot p list context answers sound apart m reached es statement
      item its told labels) its.steps meta default its.given item (stated_low its.by place)
      (stated_high its.by place)
  beside = z.beside p list context answers sound apart m reached es statement item its told labels

  abbrev prs : Pairs
  prs = beside.pairs

  abbrev front : List Occurrence
  front = beside.front

  abbrev rest : List Occurrence
  rest = beside.rest

  abbrev along : IsAlongside ds g place high last_place prs meta default its.given os its.steps
      front rest
  along = z.along p list context answers sound apart m reached es statement item its told labels

  abbrev are-told : AreTold ds g os
  are-told = z.are-told p list context answers sound apart m reached es statement item its told
      labels

  item_named : IsNamed item
  item_named = stmt_named (z.item_stmt p list context answers sound apart m reached es statement
      item its told labels)

  abbrev IsKnownHere : Occurrence → Type 0
  IsKnownHere = IsKnownName ds g place high last_place prs meta default its.given os its.steps front
      rest along

  abbrev IsTop : Label → Type 0
  IsTop = IsTopName p list context m place high last_place prs meta default its.given os its.steps
      front rest along are-told item item_named beside.are

  abbrev FrontTop : Meant → Type 0
  FrontTop = FrontTold p list context m place high last_place prs meta default its.given os
      its.steps front rest along are-told item item_named beside.are

  abbrev ToldNames : List Occurrence → List Step → List Note → Type 0
  ToldNames = AllTold p list context m place high last_place prs meta default its.given os its.steps
      front rest along are-told item item_named beside.are

  abbrev MadeNames : List Meant → Type 0
  MadeNames = AllMadeNames p list context m place high last_place prs meta default its.given os
      its.steps front rest along are-told item item_named beside.are

  abbrev Made : Occurrence → Meant → Type 0
  Made = NameMade p list context m place high last_place prs meta default its.given os its.steps
      front rest along are-told item item_named beside.are

  abbrev Turns : Denoted → Denoted → Type 0
  Turns = Becomes p list context m place high last_place prs meta default its.given os its.steps
      front rest along are-told item item_named beside.are

  elements : HasElements os (declares_default its.given) (stated_low its.by place)
      (stated_high its.by place) statement
  elements =
      subst (λ l. HasElements l (declares_default its.given) (stated_low its.by place)
      (stated_high its.by place) statement)
      (sym (z.os-are p list context answers sound apart m reached es statement item its told
      labels))
      (stated-elements its.by place (z.stand p list context answers sound apart m reached es
      statement item its told labels).field statement
      (subst (λ l. stated place l ≡ statement ∷ []) (sym its.is_given) its.states))

  -- labels

  of-top : (l : Label) → (z.IsMeantTop p list context answers sound apart m reached es statement
      item its told labels) l → IsTop l
  of-top l it = record {
    top = it.top;
    strange = (z.strange-label p list context answers sound apart
        m reached es statement item its told labels) l it.top;
  }

  -- the default
  default-top : declares_default its.given ≡ true → IsTopLabel p (Of (k.Declared m default_name))
  default-top has = record {
    cause = Own m n;
    due = due;
    declares = a.own statement default_binding there
        (has-contains statement default_binding (elements.front has)) a.by_default;
  }

  default-told : (u : Occurrence) → front ≡ u ∷ [] → FrontTop (default_meant m)
  default-told u is = (Of (k.Declared m default_name), refl, by beside.are_front is, refl)
    where
      by : {some : List Occurrence} → AreFront default its.given some → some ≡ u ∷ [] →
          IsTop (Of (k.Declared m default_name))
      by (no_front none) e = absurd cc
      by (one_front has it) e =
          of-top (Of (k.Declared m default_name)) (record { top = default-top has })

  meta-told : (meant : Meant) → meta_meant p m ≡ Some meant →
      (lab : Label) × (meant ≡ Known lab) × IsTop lab ×
      (meta ≡ Some (ident_of_label p list context lab))
  meta-told meant is =
      let it = (z.meta-means p list context answers sound apart m reached es statement item its told
      labels) meant is in (
        Meta m,
        it.1,
        of-top (Meta m)
            (record {
              top = (z.meta-top p list context answers sound apart m reached es statement item its
                  told labels) it.0;
            }),
        it.2,
      )

  -- what is told of the names

  told-all : (some : List Occurrence) (by : List Step) (notes : List Note) →
      AllZip (IsStep p list context m Es) some by →
      AllNoted p list context m Es (inner_of p m Es its.top) some by notes →
      AllOf (IsKnownHere) some → ToldNames some by notes
  told-all [] [] [] each noted known = tt
  told-all [] [] (note ∷ notes) each noted known = absurd noted
  told-all [] (step ∷ by) notes each noted known = absurd each
  told-all (o ∷ some) [] notes each noted known = absurd each
  told-all (o ∷ some) (step ∷ by) [] each noted known = absurd noted
  told-all (o ∷ some) (step ∷ by) (note ∷ notes) each noted known = (
    record {
      noted = noted.0;
      known_name = known.0;
      label = λ l same.
          of-top l ((z.label-top p list context answers sound apart m reached es statement item its
          told labels) (inner_of p m Es its.top) known.0.at o step note known.0.there each.0 noted.0
          l same);
    },
    told-all some by notes each.1 noted.1 known.1,
  )

  all_told : ToldNames os its.steps told.notes
  all_told = told-all os its.steps told.notes its.each told.each
      (known-names ds g place high last_place prs meta default its.given os its.steps front rest
      along)

  abbrev same : SameStated (record { steps = its.steps; meta = meta; clears_notes = true })
      (meta_meant p m) told.notes default (default_meant m) its.given item
  same = told.same

  aligned : FrontAligned (Paired prs) meta (meta_meant p m) default (default_meant m) os its.steps
      told.notes front rest same.front same.entries
  aligned =
      align-all (Paired prs) meta (meta_meant p m) default (default_meant m) its.given
      beside.are_front along.all same.front same.front_is same.entries told.notes same.steps_are
      same.notes_are
      (ap (map ident_of) (sym beside.are) ∙ idents_from first_spot item ∙ same.names)
      same.of_meta (z.none-meta p list context answers sound apart m reached es statement item its
      told labels) (z.default-not p list context answers sound apart m reached es statement item its
      told labels)

  abbrev meants : List Meant
  meants = map (λ pair. pair.1) same.front ++ map meant_in same.entries

  all_names : MadeNames meants
  all_names =
      all-made p list context m place high last_place prs meta default its.given os its.steps front
      rest along are-told item item_named beside.are (meta_meant p m) (default_meant m) meta-told
      same.front aligned all_told default-told

  -- NAMES

  abbrev inner_here : List Denoted
  inner_here = its_inner p list context m place high last_place prs meta default its.given os
      its.steps front rest along are-told item item_named beside.are meants all_names

  owns : (i : ℕ) (o : Occurrence) (kind : ScopeKind) (c d : ℕ) → slice_get os i ≡ Some o →
      denoted_of BySymbol Es ds o ≡ Bound (Inner kind c) (plain o.sym) → Paired prs c d →
      OwnsHolder p (Own m n) (InsideOf m c)
  owns i o kind c d at denotes pair =
      let bounds = beside.tight c d pair in
      let element = elements.nodes c bounds.0 bounds.1 in
      a.own statement there (has-contains statement (taken c element.0) element.1)

  no_defines : (c : ℕ) → Own m n ≡ b.Defines c → ⊥
  no_defines c e = cc

  name-alone : (u : Occurrence) (meant : Meant) → Made u meant →
      NameAlone p list context answers (Own m n) item 1 inner_here u meant
  name-alone u _ (made_in i o kind c d at denotes pair symbol number its_own found) =
      inside (InsideOf m c)
      (ap is_inner_denoted its_own)
      (ap (is_inside 1) its_own ∙ le-leb 1 d (rises-from place 1 prs along.rise c d pair).1)
      (sym (same-number p list context m place high last_place prs meta default its.given os
      its.steps front rest along are-told item item_named beside.are meants all_names
      (denoted_of BySymbol Es ds o) (own_denoted item u)
      (subst (λ x. Turns x (own_denoted item u)) (sym denotes)
      (subst (Turns (Bound (Inner kind c) (plain o.sym)))
      (ap (λ x. given (its_numbering prs g) (declared_names (front ++ rest))
      (Bound (Inner kind d) (plain x))) (sym symbol) ∙ sym its_own)
      (becomes pair))))
      ∙ found)
      (owns i o kind c d at denotes pair)
      (λ k e. absurd (no_defines k e))
      ((z.holder-inside p list context answers sound apart m reached es statement item its told
      labels) i o kind c at denotes)
      (number ∙ number-inside context m c o.sym)
  name-alone u _ (made_out strange no_inner top ident) =
      of_top no_inner (λ c e. absurd (no_defines c e)) top
      ident
  name-alone u _ (made_free same_symbol strange outer no_inner first arg) =
      subst (λ x. NameAlone p list context answers (Own m n) item 1 inner_here u (Unbound x))
      (sym same_symbol)
      (free first no_inner arg)

  names-alone : (us : List Occurrence) (ms : List Meant) → AllZip (Made) us ms →
      AllZip (NameAlone p list context answers (Own m n) item 1 inner_here) us ms
  names-alone [] [] z = tt
  names-alone [] (meant ∷ ms) z = absurd z
  names-alone (u ∷ us) [] z = absurd z
  names-alone (u ∷ us) (meant ∷ ms) z = (name-alone u meant z.0, names-alone us ms z.1)

  item-alone : ItemAlone p list context answers (Own m n) item (AsWhole (told_of same))
  item-alone =
      subst (λ us. AllZip (NameAlone p list context answers (Own m n) item 1
      (each_denoted_once (told_inside (map (own_denoted item) us) meants))) us meants)
      (sym beside.are)
      (names-alone (front ++ rest) meants all_names.names)

  called-alone : (its_statement : List Element) → slice_get (own_statements (tree_of p m)) n ≡ Some
      its_statement →
      symbols_whole item (AsWhole (told_of same)) ≡ inner_symbols (own_view p m Es) 0 its_statement
  called-alone its_statement at =
      ap (λ us. map denoted_symbol (each_denoted_once
      (told_inside (map (own_denoted item) us) meants))) beside.are
      ∙ same-symbols p list context m place high last_place prs meta default its.given os its.steps
      front rest along are-told item item_named beside.are meants all_names
      ∙ sym (ap (map denoted_symbol) told.inner)
      ∙ ap (inner_symbols (own_view p m Es) 0) (same_Some statement its_statement (sym there ∙ at))

  -- DECLARED at the top

  abbrev its_declared : List Declared
  its_declared = declared_names (front ++ rest)

  abbrev f_numbers : Numbering
  f_numbers = its_numbering prs g

  written-top : (x : List ℕ) (c : ℕ) → is_written_in (own_declared item) Top (with x c) ≡
      (is_written its_declared Top x && (context (TopOf m) == c))
  written-top x c =
      ap (λ all. is_written_in all Top (with x c))
      (own-lifted ds g place high last_place prs meta default its.given os its.steps front rest
      along are-told item item_named beside.are)
      ∙ written-lifted f_numbers its_declared (names-plain (front ++ rest)) Top x c

  -- a name with its declaration that belongs to the top
  top-declares : (j : ℕ) (u : Occurrence) (w : Way) → slice_get (front ++ rest) j ≡ Some u →
      declaration_of BySymbol Es u ≡ Some (declaration_by_way Es u w) → is_identified w ≡ true →
      home_of its_declared (declaration_by_way Es u w) ≡ Top → is_written its_declared Top u.sym ≡
      true
  top-declares j u w at is known home =
      let here = told-at (declaration_of BySymbol Es) (front ++ rest) j u
      (declaration_by_way Es u w) at is in
      list_any-here (λ (d : Declared). is_identified d.by &&
      (same_scope (home_of its_declared d) Top && bytes_eq d.name.sym u.sym)) its_declared
      here.0 (declaration_by_way Es u w) here.1
      (and_from (is_identified w) _ known
      (and_from (same_scope (home_of its_declared (declaration_by_way Es u w)) Top) _
      (ap (λ z. same_scope z Top) home)
      ((bytes_eq-Decides u.sym u.sym).1 refl)))

  -- a name of the statement, and the one that is made of it
  record MadeAt (o : Occurrence) : Type 0 where
    j : ℕ
    u : Occurrence
    step : Step
    at : slice_get (front ++ rest) j ≡ Some u
    it : MadeOf (Paired prs) o u step
    keeps : KeepsBinding g ds o step

  made-at : {some us : List Occurrence} {by : List Step} → AllMade (Paired prs) meta some by us →
      AllZip (KeepsBinding g ds) some by →
      ((j : ℕ) (u : Occurrence) → slice_get us j ≡ Some u → (l : ℕ) ×
      (slice_get (front ++ rest) l ≡ Some u)) →
      (i : ℕ) (o : Occurrence) → slice_get some i ≡ Some o → MadeAt o
  made-at done keeps here i o at = absurd (none-some o at)
  made-at (added refers is more) keeps here i o at = made-at more keeps
      (λ j u is. here (suc j) u is) i o at
  made-at (made {o = q} {u = u} {step = step} it more) keeps here zero o at =
      let place_here = here 0 u refl in
      subst MadeAt (same_Some q o at)
      (record { j = place_here.0; u = u; step = step; at = place_here.1; it = it; keeps = keeps.0 })
  made-at (made it more) keeps here (suc i) o at = made-at more keeps.1
      (λ j u is. here (suc j) u is) i o at

  made-here : (i : ℕ) (o : Occurrence) → slice_get os i ≡ Some o → MadeAt o
  made-here i o at =
      made-at along.all along.keeps (λ j u is. get-right front rest j u is) i o at

  known-at : (i : ℕ) (o : Occurrence) → slice_get os i ≡ Some o → IsKnownHere o
  known-at i o at = go os (known-names ds g place high last_place prs meta default its.given os
      its.steps front rest along) i at
    where
      go : (some : List Occurrence) → AllOf (IsKnownHere) some → (i : ℕ) → slice_get some i ≡ Some
          o → IsKnownHere o
      go [] all i at = absurd (none-some o at)
      go (q ∷ some) all zero at = subst (IsKnownHere) (same_Some q o at) all.0
      go (q ∷ some) all (suc i) at = go some all.1 i at

  has-at : {A : Type 0} (xs : List A) (x : A) → Has xs x → (i : ℕ) × (slice_get xs i ≡ Some x)
  has-at [] x has = absurd has
  has-at (y ∷ xs) x (inl e) = (0, ap Some e)
  has-at (y ∷ xs) x (inr later) = let it = has-at xs x later in (suc it.0, it.1)

  at-has : {A : Type 0} (xs : List A) (x : A) (i : ℕ) → slice_get xs i ≡ Some x → Has xs x
  at-has [] x i at = absurd (none-some x at)
  at-has (y ∷ xs) x zero at = inl (same_Some y x at)
  at-has (y ∷ xs) x (suc i) at = inr (at-has xs x i at)

  -- what stands at the place of a name
  denoted-here : (i : ℕ) (o : Occurrence) → slice_get os i ≡ Some o →
      denoted_at BySymbol Es (tree_of p m) o.place ≡ Some (denoted_of BySymbol Es ds o)
  denoted-here i o at =
      let it = (z.in-tree p list context answers sound apart m reached es statement item its told
      labels) i o at in
      ap (option_map (denoted_of BySymbol Es ds)) (occurrences-at (tree_of p m) it.0 o it.1)

  scope_in : Denoted → Scope
  scope_in (Bound s name) = s
  scope_in (Global x) = Top

  alike-top : {s t : Scope} → ScopesAlike (Paired prs) s t → s ≡ Top → t ≡ Top
  alike-top tops e = refl
  alike-top wrappers e = absurd cc
  alike-top (inners r) e = absurd cc

  top-alike : {s t : Scope} → ScopesAlike (Paired prs) s t → t ≡ Top → s ≡ Top
  top-alike tops e = refl
  top-alike wrappers e = absurd cc
  top-alike (inners r) e = absurd cc

  -- an identifier that binds a name of the top of the module declares it at the top of the item
  own-declares : (i : ℕ) (o : Occurrence) → slice_get os i ≡ Some o → is_binding o.role ≡ true →
      denoted_of BySymbol Es ds o ≡ Bound Top (plain o.sym) → is_written its_declared Top o.sym ≡
      true
  unfolding scope_in
  own-declares i o at binds denotes =
      let known = known-at i o at in
      let way = known.way binds in
      let it = made-here i o at in
      let symbol : it.u.sym ≡ o.sym = ap (λ (i : Ident). i.0) (it.it.ident ∙ it.keeps binds) in
      let home : home_of ds (declaration_by_way Es o way.0) ≡ Top =
      ap scope_in (sym (declared-denotes ds g place high last_place prs meta default its.given os
      its.steps front rest along ds o way.0 binds way.1) ∙ denotes) in
      let its_home = alike-top (home-made ds g place high last_place prs meta default its.given os
      its.steps front rest along o it.u it.step way.0 it.it symbol known.within) home in
      ap (is_written its_declared Top) (sym symbol)
      ∙ top-declares it.j it.u way.0 it.at
      (declares-it it.u way.0 (ap is_binding it.it.role ∙ binds) (it.it.way way.0 binds way.1))
      (way-identified o.path way.0 way.1) its_home

  front-declares-top : declares_default its.given ≡ true → is_written its_declared Top default_name
      ≡ true
  front-declares-top has = by beside.are_front (λ j u at. at)
    where
      by : {some : List Occurrence} → AreFront default its.given some →
          ((j : ℕ) (u : Occurrence) → slice_get (some ++ rest) j ≡ Some u → slice_get
          (front ++ rest) j ≡ Some u) →
          is_written its_declared Top default_name ≡ true
      by (no_front none) here = absurd (false≢true (sym none ∙ has))
      by (one_front {u = u} its_has it) here =
          ap (is_written its_declared Top) (sym (ap (λ (i : Ident). i.0) it.ident))
          ∙ top-declares 0 u it.way (here 0 u refl)
          (declares-it u it.way (ap is_binding it.role) it.way_is) it.known
          (subst (λ scopes. home_of its_declared
          (record { place = u.place; name = plain u.sym; by = it.way; scopes = scopes }) ≡ Top)
          (sym it.scopes) (it.home its_declared u.place (plain u.sym)))

  declares-top : (e : Element) (x : List ℕ) → Has statement e → DeclaresTop p m e x →
      is_written its_declared Top x ≡ true
  declares-top _ _ has (a.by_name {place = q} {field = field} {ctxt = ctxt} {x = x} denotes) =
      let it = elements.back q field ctxt x has in
      let at = has-at os it.0 it.1 in
      ap (is_written its_declared Top) (sym it.3)
      ∙ own-declares at.0 it.0 at.1 (ap is_binding it.4)
      (same_Some _ _ (sym (denoted-here at.0 it.0 at.1) ∙ ap (denoted_at BySymbol Es (tree_of p m))
      it.2 ∙ denotes) ∙ ap (λ y. Bound Top (plain y)) (sym it.3))
  declares-top _ _ has (a.by_default {field = field} {ctxt = ctxt} {x = x} {role = role}) =
      let it = elements.front_back (h.Ident field x ctxt role) field ctxt x role refl has in
      ap (is_written its_declared Top) it.1 ∙ front-declares-top it.0

  declares-alone : (l : Label) → DeclaresLabel p (Own m n) l →
      is_written_in (own_declared item) Top
      (name_of ByContext (ident_of_label p list context l).0 (ident_of_label p list context l).1) ≡
      true
  declares-alone _ (a.own {x = x} its_statement e at has declares) =
      let same_statement = same_Some its_statement statement (sym at ∙ there) in
      written-top x (context (TopOf m))
      ∙ and_from (is_written its_declared Top x) _
      (declares-top e x (contains-has statement e
      (subst (λ list. Contains list e) same_statement has)) declares)
      (eq-eqb (context (TopOf m)) (context (TopOf m)) refl)
  declares-alone l (a.adds adds) = elim adds [ ]

  -- and what the item declares at its top the statement does

  order-top : (s : Scope) → same_scope s Top ≡ true → s ≡ Top
  order-top Wrapper e = absurd cc
  order-top Top e = refl
  order-top (Inner kind c) e = let same = same_order (Inner kind c) Top e in absurd
      (omega (arith, same))

  record MadeFrom (u : Occurrence) : Type 0 where
    i : ℕ
    o : Occurrence
    step : Step
    at : slice_get os i ≡ Some o
    it : MadeOf (Paired prs) o u step
    keeps : KeepsBinding g ds o step

  made-from : {some us : List Occurrence} {by : List Step} → AllMade (Paired prs) meta some by us →
      AllZip (KeepsBinding g ds) some by →
      ((i : ℕ) (o : Occurrence) → slice_get some i ≡ Some o → (l : ℕ) × (slice_get os l ≡ Some o)) →
      (j : ℕ) (u : Occurrence) → slice_get us j ≡ Some u → is_binding u.role ≡ true → MadeFrom u
  made-from done keeps here j u at binds = absurd (none-some u at)
  made-from (added {u = v} refers is more) keeps here zero u at binds =
      absurd (false≢true (sym refers ∙ ap (λ (o : Occurrence). is_binding o.role) (same_Some v u at)
      ∙ binds))
  made-from (added refers is more) keeps here (suc j) u at binds = made-from more keeps here j u at
      binds
  made-from (made {o = o} {u = v} {step = step} it more) keeps here zero u at binds =
      let place_here = here 0 o refl in
      subst MadeFrom (same_Some v u at)
      (record { i = place_here.0; o = o; step = step; at = place_here.1; it = it; keeps = keeps.0 })
  made-from (made it more) keeps here (suc j) u at binds = made-from more keeps.1
      (λ i o is. here (suc i) o is) j u at binds

  record DeclaredFrom (x : List ℕ) (c : ℕ) : Type 0 where
    l : Label
    declares : DeclaresLabel p (Own m n) l
    is : (x, c) ≡ ident_of_label p list context l

  -- what an identifier declares
  binds-it : (u : Occurrence) (d : Declared) → declaration_of BySymbol Es u ≡ Some d → is_binding
      u.role ≡ true
  binds-it u d is = by (is_binding u.role) refl
    where
      by : (t : Bool) → is_binding u.role ≡ t → is_binding u.role ≡ true
      by true e = e
      by false e = absurd (none-some d (sym (refers-none u e) ∙ is))

  role-binding : (role : Role) → is_binding role ≡ true → role ≡ r.Binding
  role-binding r.Binding is = refl
  role-binding r.Reference is = absurd (false≢true is)
  role-binding r.Word is = absurd (false≢true is)

  from-name : (x : List ℕ) (c : ℕ) → context (TopOf m) ≡ c → (d : Declared) (u : Occurrence) →
      declaration_of BySymbol Es u ≡ Some d → d.name.sym ≡ x → home_of its_declared d ≡ Top →
      (j : ℕ) →
      slice_get (front ++ rest) j ≡ Some u → DeclaredFrom x c
  from-name x c number d u is symbol home j at = by (get-append front rest j u at)
    where
      its_symbol : (w : Way) → declaration_of BySymbol Es u ≡ Some (declaration_by_way Es u w) →
          u.sym ≡ x
      its_symbol w has = ap (λ (e : Declared). e.name.sym) (same_Some _ d (sym has ∙ is)) ∙ symbol

      in_front : {some : List Occurrence} → AreFront default its.given some → (j : ℕ) →
          slice_get some j ≡ Some u → DeclaredFrom x c
      in_front (no_front none) j here = absurd (none-some u here)
      in_front (one_front {u = v} has it) (suc j) here = absurd (none-some u here)
      in_front (one_front {u = v} has it) zero here =
          let v_is : v ≡ u = same_Some v u here in
          let symbols : v.sym ≡ x =
          ap (λ (o : Occurrence). o.sym) v_is
          ∙ its_symbol it.way (subst (λ (o : Occurrence). declaration_of BySymbol Es o ≡ Some
          (declaration_by_way Es o it.way)) v_is
          (declares-it v it.way (ap is_binding it.role) it.way_is)) in
          record {
            l = Of (k.Declared m default_name);
            declares = a.own statement default_binding there
                (has-contains statement default_binding (elements.front has)) a.by_default;
            is = λ i. ((sym symbols ∙ ap (λ (i : Ident). i.0) it.ident) i, sym number i);
          }

      in_rest : MadeFrom u → DeclaredFrom x c
      in_rest it =
          let binds : is_binding it.o.role ≡ true = sym (ap is_binding it.it.role) ∙ binds-it u d
          is in
          let known = known-at it.i it.o it.at in
          let way = known.way binds in
          let has = declares-it u way.0 (ap is_binding it.it.role ∙ binds)
          (it.it.way way.0 binds way.1) in
          let symbols : u.sym ≡ it.o.sym = ap (λ (i : Ident). i.0) (it.it.ident ∙ it.keeps binds) in
          let its_home : home_of its_declared (declaration_by_way Es u way.0) ≡ Top =
          ap (home_of its_declared) (same_Some _ d (sym has ∙ is)) ∙ home in
          let top = top-alike (home-made ds g place high last_place prs meta default its.given os
          its.steps front rest along it.o u it.step way.0 it.it symbols known.within) its_home in
          let denotes : denoted_of BySymbol Es ds it.o ≡ Bound Top (plain it.o.sym) =
          declared-denotes ds g place high last_place prs meta default its.given os its.steps front
          rest along ds it.o way.0 binds way.1 ∙ ap (λ z. Bound z (plain it.o.sym)) top in
          let element = elements.names it.o (at-has os it.o it.i it.at) in
          record {
            l = Of (k.Declared m it.o.sym);
            declares =
                a.own statement (taken it.o.place (h.Ident element.0 it.o.sym it.o.ctxt r.Binding))
                there
                (has-contains statement (taken it.o.place
                (h.Ident element.0 it.o.sym it.o.ctxt r.Binding))
                (subst (λ role. Has statement (taken it.o.place
                (h.Ident element.0 it.o.sym it.o.ctxt role))) (role-binding it.o.role binds)
                element.1))
                (a.by_name (denoted-here it.i it.o it.at ∙ ap Some denotes));
            is = λ i. ((sym (its_symbol way.0 has) ∙ symbols) i, sym number i);
          }

      by : (slice_get front j ≡ Some u) ⊎ ((i : ℕ) × (slice_get rest i ≡ Some u)) → DeclaredFrom x c
      by (inl here) = in_front beside.are_front j here
      by (inr later) =
          in_rest (made-from along.all along.keeps (λ i o is. (i, is)) later.0 u later.1
          (binds-it u d is))

  declared-from : (x : List ℕ) (c : ℕ) → is_written_in (own_declared item) Top (with x c) ≡ true →
      DeclaredFrom x c
  declared-from x c is =
      let parts = and_parts (is_written its_declared Top x) (context (TopOf m) == c)
      (sym (written-top x c) ∙ is) in
      let found = list_any-found (λ (d : Declared). is_identified d.by &&
      (same_scope (home_of its_declared d) Top && bytes_eq d.name.sym x)) its_declared parts.0 in
      let first = and_parts (is_identified found.1.by) _ found.3 in
      let second = and_parts (same_scope (home_of its_declared found.1) Top)
      (bytes_eq found.1.name.sym x) first.1 in
      let it = picked (declaration_of BySymbol Es) (front ++ rest) found.0 found.1 found.2 in
      from-name x c (eqb-true (context (TopOf m)) c parts.1) found.1 it.1 it.3
      ((bytes_eq-Decides found.1.name.sym x).0 second.1)
      (order-top (home_of its_declared found.1) second.0) it.0 it.2

  item_fit : IsFit AnItem 0 item
  item_fit = states_fit its.by (z.given_fit p list context answers sound apart m reached es
      statement item its told labels)

  one-node : {field : ℕ} {items : List Item} → IsFit AnItem field items → nodes_in 0 items ≡ 1
  one-node (f.name it) = refl
  one-node (f.node {field = c} {head = head} {inside = within} it in_it) = node-count c head within
      (fit_nodes in_it)

  -- ALONE
  pub stated-alone : IsItemAlone p hooks list context answers (Own m n) item
  stated-alone = record {
    noted = AsWhole (told_of same);
    stands = own-noted p hooks AsModule m n same statement there told.means;
    names = item-alone;
    called = called-alone;
    form = whole_form same.result;
    one = one-node item_fit;
    lone = own_lone item (one_own (z.item_stmt p list context answers sound apart m reached es
        statement item its told labels) refl);
    named = item_named;
    single = stands-beside item_fit;
    fit = item_fit;
    inner = resolved-inside p list context m place high last_place prs meta default its.given os
        its.steps front rest along are-told item item_named beside.are meants all_names;
    declares = declares-alone;
    declared = λ x c is. let it = declared-from x c is in (it.l, it.declares, it.is);
  }

-- THEOREM: what is made for an own statement of an ES module is right by itself, where what is told
-- of the statement is so, and what is meant is declared at the top of the bundle or in the function
-- of a CommonJS module
pub own-alone : (p : Program) (hooks : Hooks) (list : List ℕ) (context : BundleContexts)
    (answers : ℕ → Option HookAnswer) → AreTreesSound p list → TellApart p answers context →
    (m n : ℕ) → IsDue p AsModule (Own m n) → (statement : List Element) →
    slice_get (own_statements (tree_of p m)) n ≡ Some statement → (item : List Item) →
    (its : IsStatedAs p list context m Es statement item) →
    IsStatementTold p list context m Es statement item its →
    ((l : Label) → IsMeant p l → IsTopLabel p l ⊎ IsInFunction p l) →
    IsItemAlone p hooks list context answers (Own m n) item
own-alone p hooks list context answers sound apart m n due statement there item its told labels = by
    due
  where
    by : IsDue p AsModule (Own m n) → IsItemAlone p hooks list context answers (Own m n) item
    by (b.own reached es lt) =
        stated-alone p hooks list context answers sound apart m n reached es due statement there
        item its told labels

-- the same of what is made for the cause
pub own-made : (p : Program) (hooks : Hooks) (list : List ℕ) (context : BundleContexts)
    (answers : ℕ → Option HookAnswer) → AreTreesSound p list → TellApart p answers context →
    (m n : ℕ) (item : List Item) → IsDue p AsModule (Own m n) →
    ((m : ℕ) (kind : ModuleKind) (statement : List Element) (made : List Item) → IsReached p m →
    HasKind p m kind → Contains (own_statements (tree_of p m)) statement →
    (its : IsStatedAs p list context m kind statement made) →
    IsStatementTold p list context m kind statement made its) →
    ((l : Label) → IsMeant p l → IsTopLabel p l ⊎ IsInFunction p l) →
    IsMade p hooks list context answers (Own m n) item →
    IsItemAlone p hooks list context answers (Own m n) item
own-made p hooks list context answers sound apart m n item due told labels
    (makes.own statement there its) =
    own-alone p hooks list context answers sound apart m n due statement there item its (by due)
    labels
  where
    at : (xs : List (List Element)) (i : ℕ) → slice_get xs i ≡ Some statement → Has xs statement
    at [] i is = absurd (none-some statement is)
    at (x ∷ xs) zero is = inl (same_Some x statement is)
    at (x ∷ xs) (suc i) is = inr (at xs i is)

    by : IsDue p AsModule (Own m n) → IsStatementTold p list context m Es statement item its
    by (b.own reached es lt) =
        told m Es statement item reached (is_es es)
        (has-contains (own_statements (tree_of p m)) statement
        (at (own_statements (tree_of p m)) n there)) its
