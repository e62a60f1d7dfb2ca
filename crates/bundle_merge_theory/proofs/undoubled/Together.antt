-- Items that are right each by itself: what two of them declare at their tops may stand together,
-- so no name of the bundle is declared twice.
-- Names at the top of an item that bind identifiers of which no two are one do not clash.
-- What takes names of an external or of a CommonJS module declares no name twice, as no two labels
-- have one identifier.
use Rattle.std.proofs.Common.{◌≡◌, ◌≢◌, ◌⊎◌, inl, inr, ℕ, ◌+◌, ◌==◌, ◌&&◌, Bool, true, false, cond, List, [], ◌∷◌, Option, Some, None, is_some, length, slice_get, bytes_eq, refl, ap, ap₂, sym, ◌∙◌, subst, arith, eqb-true, eq-eqb, zero, suc, ◌||◌, ◌++◌, map}
use Rattle.std.specs.Prelude.{Contains, if◌then◌else◌}
use Rattle.std.proofs.lemmas.Bool.{false≢true, and_parts, and_from, or_left, false_from_ne_true}
use Rattle.std.proofs.lemmas.Option.{none-some, same_Some}
use Rattle.std.proofs.lemmas.Slice.Eq.{bytes_eq-Decides}
use Rattle.std.specs.List.{AllZip, list_any}
use Rattle.bundle_syntax.specs.Item.{Item}
use Rattle.bundle_rules.specs.Places.{Occurrence, Around, occurrences, is_binding, occurrences_from}
use Rattle.bundle_rules.specs.Scopes.{Es, Scope, ScopeKind, Wrapper, Top, Inner, kind_of_scope, scope_at, same_scope, scopes_around}
use Rattle.bundle_rules.specs.Declarations.{BySymbol, ByContext, Name, name_of, names_agree, contexts_agree, Declared, declared, declaration_of, declared_by, Way, way_of}
use Rattle.bundle_rules.specs.Denotes.{Bound, has_identifier, is_written_in, denoted_in, own_or_found}
use Rattle.bundle_rules.specs.Doubled.{is_lexical, stands_beside, passes_scope_of, excludes}
use Rattle.bundle_rules.specs.Homes.{taker, home_of, is_declared_in}
use Rattle.bundle_rules.specs.Parts.{tree_of_items}
use Rattle.bundle_rules.specs.Program.{Program, tree_of, IsReached}
use Rattle.bundle_rules.specs.Linking as k
use Rattle.bundle_rules.specs.Linking.{IsCommonJs, Target, External, CommonJs}
use Rattle.bundle_rules.specs.Meaning.{Label, Of, is_es, Load, IsMeant}
use Rattle.bundle_rules.specs.Bundle.{Cause, Own, AsModule, Hooks, IsDue, IsAscending, ImportsNames, Loads, AreNames, MeansName}
use Rattle.bundle_rules.specs.Statements.{Element, TopItem, top_items, stated, own_statements}
use Rattle.bundle_rules.specs.Idents.{Ident, ident_of}
use Rattle.bundle_rules.specs.Nodes.{Text}
use Rattle.bundle_rules.specs.Rebuilds.{Listed}
use Rattle.bundle_rules.specs.Entries.{Taken, Named, Whole}
use Rattle.bundle_merge_injected.specs.Listed as in_listed
use Rattle.bundle_scope_names.specs.Undoubled.{IsUndoubled}
use Rattle.bundle_scope_names.proofs.naming_rule.Tables.{any-here}
use Rattle.bundle_merge_theory.specs.joined.Joined.{joined_items, AllOf, own_declared, is_global_written}
use Rattle.bundle_merge_theory.specs.joined.Notes.{own_denoted, is_inner_denoted, IsListedIn, AreItemsApart, its_name}
use Rattle.bundle_merge_theory.proofs.joined.Declarations.{declared-item, IsNamed as HasNames, declared_by_names}
use Rattle.bundle_merge_theory.proofs.joined.Denotes.{home-in}
use Rattle.bundle_merge_theory.proofs.joined.Paths.{all-append, any-append}
use Rattle.bundle_merge_theory.proofs.loaded.Noted.{picked}
use Rattle.bundle_merge_theory.proofs.joined.Bindings.{Contains-cons}
use Rattle.bundle_merge_theory.proofs.walked.Loading.{Import as Pair}
use Rattle.bundle_merge_theory.specs.made.Given.{HookAnswer, BundleContexts, ident_of_label}
use Rattle.bundle_merge_theory.specs.made.Alone
use Rattle.bundle_merge_theory.specs.made.Alone.{AddsLabel, imports_name, imports_whole, helps, defines, loads, holds_meta, holds_namespace, DeclaresLabel, adds, IsTopLabel, TellApart}
use Rattle.bundle_merge_theory.specs.together.Together.{AreMergedTogether}
use Rattle.bundle_merge_theory.specs.undoubled.Clashing.{IsAmong, NoneClash, TellsScopes, Corresponds, ComesFrom, TopsStandTogether, IsDeclaredFor, of_statement, of_another}
use Rattle.bundle_merge_theory.proofs.told.Tops.{top_fit}
use Rattle.bundle_merge_theory.proofs.together.Apart.{are-apart}
use Rattle.bundle_merge_theory.proofs.together.Facts.{whole-items}
use Rattle.bundle_merge_theory.proofs.together.Tables.{due-own, labels-apart, notes-of}
use Rattle.bundle_merge_theory.proofs.together.Statements.{StandsAt, of-item}
use Rattle.bundle_merge_theory.proofs.undoubled.Clash.{agree_turned, none_from}
use Rattle.bundle_merge_theory.proofs.undoubled.Joined.{source_of, none_alike, joined-undoubled}
use Rattle.bundle_merge_theory.proofs.undoubled.Statements.{one_stated}
use Rattle.bundle_merge_theory.proofs.told.Cleared.{taker_top as home_taker}
use Rattle.bundle_merge_theory.specs.composed.Noted.{first_spot}
use Rattle.bundle_merge_theory.specs.made.Made as made
use Rattle.bundle_merge_theory.specs.made.Made.{named_idents, IsMade}
use Rattle.bundle_merge_theory.proofs.added.Rows.{binds-same, bound_name, bound-name, IsTopped, occurrences-item, binds_it}
use Rattle.bundle_merge_theory.proofs.sound.Found.{ascending-once}
use Rattle.bundle_merge_theory.proofs.added.LoadForms.{load_names, load-topped, load-named}
use Rattle.bundle_merge_theory.proofs.added.Imports

-- ---- together

-- Where a name belongs.

-- in an ES module none belongs to a wrapper
abbrev NoWrapper : Scope → Type 0
NoWrapper Wrapper = ⊥
NoWrapper Top = Unit {0}
NoWrapper (Inner kind begins) = Unit {0}

around_no_wrapper : (path : List Around) → AllOf NoWrapper (scopes_around Es path)
around_no_wrapper [] = (tt, tt)
around_no_wrapper (node ∷ outer) =
    all-append NoWrapper (scope_at node.begins (kind_of_scope node.head node.field outer))
    (scopes_around Es outer) (by (kind_of_scope node.head node.field outer))
    (around_no_wrapper outer)
  where
    by : (kind : Option ScopeKind) → AllOf NoWrapper (scope_at node.begins kind)
    by None = tt
    by (Some kind) = (tt, tt)

-- Names of an item.

-- a declaration of an item with the name that declares
record IsNameOf (item : List Item) (d : Declared) : Type 0 where
  o : Occurrence
  listed : IsListedIn item o
  declares : declaration_of ByContext Es o ≡ Some d
  name_is : d.name ≡ name_of ByContext o.sym o.ctxt
  scopes_are : d.scopes ≡ scopes_around Es o.path

name_by : (o : Occurrence) (d : Declared) → declaration_of ByContext Es o ≡ Some d →
    (d.name ≡ name_of ByContext o.sym o.ctxt) × (d.scopes ≡ scopes_around Es o.path)
name_by o d is = by (is_binding o.role) _ is
  where
    by : (b : Bool) (way : Option _) →
        cond b (declared_by o.place (name_of ByContext o.sym o.ctxt) (scopes_around Es o.path) way) None ≡ Some d →
        (d.name ≡ name_of ByContext o.sym o.ctxt) × (d.scopes ≡ scopes_around Es o.path)
    by false way e = absurd (none-some d e)
    by true None e = absurd (none-some d e)
    by true (Some way) e = (
      ap (λ (c : Declared). c.name) (sym (same_Some _ d e)),
      ap (λ (c : Declared). c.scopes) (sym (same_Some _ d e)),
    )

name_of_declared : (item : List Item) → HasNames item → (d : Declared) →
    IsAmong (own_declared item) d → IsNameOf item d
name_of_declared item named d there =
    let it =
    picked (declaration_of ByContext Es) (occurrences (tree_of_items item)) there.0 d
    (ap (λ l. slice_get l there.0) (sym (declared-item item named)) ∙ there.1) in
    let its = name_by it.1 d it.3 in
    record {
      o = it.1;
      listed = (it.0, it.2);
      declares = it.3;
      name_is = its.0;
      scopes_are = its.1;
    }

-- names that agree are of one identifier
pub same_ident : (x y : List ℕ) (c d : ℕ) →
    names_agree (name_of ByContext x c) (name_of ByContext y d) ≡ true → (x ≡ y) × (c ≡ d)
same_ident x y c d agree =
    let parts = and_parts (bytes_eq x y) (c == d) agree in
    ((bytes_eq-Decides x y).0 parts.0, eqb-true c d parts.1)

-- what it denotes
denotes_own : (item : List Item) (o : Occurrence) (d : Declared) →
    declaration_of ByContext Es o ≡ Some d →
    own_denoted item o ≡ Bound (home_of (own_declared item) d) d.name
denotes_own item o d is =
    ap
    (own_or_found (own_declared item) (denoted_in ByContext (own_declared item) (scopes_around Es o.path) (name_of ByContext o.sym o.ctxt)))
    is

inner_or_top : (s : Scope) (name : Name) → NoWrapper s →
    (s ≡ Top) ⊎ (is_inner_denoted (Bound s name) ≡ true)
inner_or_top Wrapper name never = absurd never
inner_or_top Top name never = inl refl
inner_or_top (Inner kind begins) name never = inr refl

-- at the top it is written there
written_top : (all : List Declared) (d : Declared) (x : List ℕ) (c : ℕ) →
    d.name ≡ name_of ByContext x c → IsAmong all d → home_of all d ≡ Top →
    is_written_in all Top (name_of ByContext x c) ≡ true
written_top all d x c name there top =
    any-here
    (λ e. has_identifier e && is_declared_in all Top (name_of ByContext x c) e) all d there
    (and_from (has_identifier d) (is_declared_in all Top (name_of ByContext x c) d)
    (ap (λ (n : Name). is_some n.ctxt) name)
    (and_from (same_scope (home_of all d) Top) (names_agree d.name (name_of ByContext x c))
    (ap (λ s. same_scope s Top) top)
    (ap (λ n. names_agree n (name_of ByContext x c)) name
    ∙ and_from (bytes_eq x x) (c == c) ((bytes_eq-Decides x x).1 refl) (eq-eqb c c refl))))

-- Labels.

-- what is added for a label is added for one cause
adds_one : (p : Program) {c other : Cause} {l : Label} → AddsLabel p c l → AddsLabel p other l →
    c ≡ other
adds_one p first second = by first second refl
  where
    by : {c other : Cause} {l its : Label} → AddsLabel p c l → AddsLabel p other its → l ≡ its →
        c ≡ other
    by (imports_name x) (imports_name y) e = cc
    by (imports_name x) imports_whole e = cc
    by (imports_name x) helps e = cc
    by (imports_name x) defines e = cc
    by (imports_name x) (loads y) e = cc
    by (imports_name x) holds_meta e = cc
    by (imports_name x) holds_namespace e = cc
    by imports_whole (imports_name y) e = cc
    by imports_whole imports_whole e = cc
    by imports_whole helps e = cc
    by imports_whole defines e = cc
    by imports_whole (loads y) e = cc
    by imports_whole holds_meta e = cc
    by imports_whole holds_namespace e = cc
    by helps (imports_name y) e = cc
    by helps imports_whole e = cc
    by helps helps e = refl
    by helps defines e = cc
    by helps (loads y) e = cc
    by helps holds_meta e = cc
    by helps holds_namespace e = cc
    by defines (imports_name y) e = cc
    by defines imports_whole e = cc
    by defines helps e = cc
    by defines defines e = cc
    by defines (loads y) e = cc
    by defines holds_meta e = cc
    by defines holds_namespace e = cc
    by (loads x) (imports_name y) e = cc
    by (loads x) imports_whole e = cc
    by (loads x) helps e = cc
    by (loads x) defines e = cc
    by (loads x) (loads y) e = cc
    by (loads x) holds_meta e = cc
    by (loads x) holds_namespace e = cc
    by holds_meta (imports_name y) e = cc
    by holds_meta imports_whole e = cc
    by holds_meta helps e = cc
    by holds_meta defines e = cc
    by holds_meta (loads y) e = cc
    by holds_meta holds_meta e = cc
    by holds_meta holds_namespace e = cc
    by holds_namespace (imports_name y) e = cc
    by holds_namespace imports_whole e = cc
    by holds_namespace helps e = cc
    by holds_namespace defines e = cc
    by holds_namespace (loads y) e = cc
    by holds_namespace holds_meta e = cc
    by holds_namespace holds_namespace e = cc

-- nothing is added for a name that a module declares
adds_none : (p : Program) {c : Cause} {l : Label} → AddsLabel p c l → (m : ℕ) (x : List ℕ) →
    l ≡ Of (k.Declared m x) → ⊥
adds_none p (imports_name y) m x e = cc
adds_none p imports_whole m x e = cc
adds_none p helps m x e = cc
adds_none p defines m x e = cc
adds_none p (loads y) m x e = cc
adds_none p holds_meta m x e = cc
adds_none p holds_namespace m x e = cc

-- two causes for one label are one, or own statements of one module
data OneLabel : Cause → Cause → Type 0 where
  same_cause : {c : Cause} → OneLabel c c
  same_module : {m i j : ℕ} → OneLabel (Own m i) (Own m j)

one_label : (p : Program) {c other : Cause} {l its : Label} → DeclaresLabel p c l →
    DeclaresLabel p other its → l ≡ its → OneLabel c other
one_label p (Alone.own {m = m} {k = i} statement e at there declares)
    (Alone.own {m = n} {k = j} its f its_at its_there too) same =
    let modules : m ≡ n = cc in
    subst (λ q. OneLabel (Own m i) (Own q j)) modules same_module
one_label p (Alone.own {m = m} {x = x} statement e at there declares) (adds y) same =
    absurd (adds_none p y m x (sym same))
one_label p (adds y) (Alone.own {m = m} {x = x} statement e at there declares) same =
    absurd (adds_none p y m x same)
one_label p {c = c} {other = other} (adds x) (adds y) same =
    subst (λ d. OneLabel c d) (adds_one p (subst (AddsLabel p c) same x) y) same_cause

-- What is told of an own statement.

record OwnParts (p : Program) (m i : ℕ) (item : List Item) : Type 1 where
  S : Scope → Scope → Type 0
  statement : List Element
  top : TopItem
  tells : TellsScopes S
  tops : (s : Scope) → S s Top → s ≡ Top
  at : slice_get (own_statements (tree_of p m)) i ≡ Some statement
  there : Contains (top_items (tree_of p m)) top
  states : stated top.start top.items ≡ statement ∷ []
  comes : ComesFrom S (declared BySymbol Es (tree_of p m)) top.start (top.start + length top.items)
      (own_declared item)

own_parts : (p : Program) (m i : ℕ) {cause : Cause} {item : List Item} →
    IsDeclaredFor p cause item → cause ≡ Own m i → OwnParts p m i item
own_parts p m i {item = item} (of_statement {m = n} {k = j} S statement top tells tops at there states comes) same =
    let modules : n ≡ m = cc in
    let numbers : j ≡ i = cc in
    subst (λ q. OwnParts p q i item) modules
    (subst (λ q. OwnParts p n q item) numbers
    (record {
      S = S;
      statement = statement;
      top = top;
      tells = tells;
      tops = tops;
      at = at;
      there = there;
      states = states;
      comes = comes;
    }))
own_parts p m i (of_another other none) same = absurd (other m i same)

module _ (p : Program) (hooks : Hooks) (list : List ℕ) (context : BundleContexts)
    (answers : ℕ → Option HookAnswer) (plan : List Cause) (items : List (List Item))
    (its : AreMergedTogether p hooks list context answers plan items)
    (each : (n : ℕ) (cause : Cause) (item : List Item) → slice_get plan n ≡ Some cause →
    slice_get items n ≡ Some item → IsDeclaredFor p cause item) where
  abbrev Stands : ℕ → Cause → List Item → Type 0
  Stands n cause item = StandsAt p hooks list context answers plan items its n cause item

  apart : AreItemsApart items
  apart = are-apart p hooks list context answers plan items its

  -- names that agree in two items belong to the top
  home_top : (m n : ℕ) (item other : List Item) (d e : Declared) → m ≢ n →
      slice_get items m ≡ Some item → slice_get items n ≡ Some other → HasNames item →
      HasNames other → IsAmong (own_declared item) d → IsAmong (own_declared other) e →
      names_agree d.name e.name ≡ true → home_of (own_declared item) d ≡ Top
  home_top m n item other d e differ at there named its_named one two agree =
      by (inner_or_top (home_of (own_declared item) d) d.name
      (home-in NoWrapper tt (own_declared item) d
      (subst (AllOf NoWrapper) (sym mine.scopes_are) (around_no_wrapper mine.o.path))))
    where
      mine : IsNameOf item d
      mine = name_of_declared item named d one

      yours : IsNameOf other e
      yours = name_of_declared other its_named e two

      written : is_global_written (own_denoted item mine.o) ≡ true
      written =
          ap is_global_written (denotes_own item mine.o d mine.declares)
          ∙ ap (λ (n : Name). is_some n.ctxt) mine.name_is

      by : (home_of (own_declared item) d ≡ Top)
          ⊎ (is_inner_denoted (Bound (home_of (own_declared item) d) d.name) ≡ true) →
          home_of (own_declared item) d ≡ Top
      by (inl top) = top
      by (inr inner) =
          absurd
          (apart.others m n item other mine.o yours.o differ at there mine.listed yours.listed
          (record {
            is = ap is_inner_denoted (denotes_own item mine.o d mine.declares) ∙ inner;
            unless = λ without. absurd (false≢true (sym without ∙ written));
          })
          (same_ident mine.o.sym yours.o.sym mine.o.ctxt yours.o.ctxt
          (ap₂ (λ x y. names_agree x y) (sym mine.name_is) (sym yours.name_is) ∙ agree)))

  -- OFTEN
  lexical_never : (m n : ℕ) (cause its_cause : Cause) (item other : List Item)
      (d e : Declared) → m ≢ n → Stands m cause item → Stands n its_cause other →
      IsAmong (own_declared item) d → IsAmong (own_declared other) e →
      home_of (own_declared item) d ≡ Top → home_of (own_declared other) e ≡ Top →
      names_agree d.name e.name ≡ true → is_lexical d ≡ true → ⊥
  lexical_never m n cause its_cause item other d e differ stands also one two top its_top agree
      lexical =
      by cause its_cause (one_label p first.1 second.1 labels) refl refl
    where
      mine : IsNameOf item d
      mine = name_of_declared item stands.alone.named d one

      yours : IsNameOf other e
      yours = name_of_declared other also.alone.named e two

      idents : (mine.o.sym ≡ yours.o.sym) × (mine.o.ctxt ≡ yours.o.ctxt)
      idents =
          same_ident mine.o.sym yours.o.sym mine.o.ctxt yours.o.ctxt
          (ap₂ (λ x y. names_agree x y) (sym mine.name_is) (sym yours.name_is) ∙ agree)

      first : (l : Label) × DeclaresLabel p cause l
          × ((mine.o.sym, mine.o.ctxt) ≡ ident_of_label p list context l)
      first =
          stands.alone.declared mine.o.sym mine.o.ctxt
          (written_top (own_declared item) d mine.o.sym mine.o.ctxt mine.name_is one top)

      second : (l : Label) × DeclaresLabel p its_cause l
          × ((yours.o.sym, yours.o.ctxt) ≡ ident_of_label p list context l)
      second =
          also.alone.declared yours.o.sym yours.o.ctxt
          (written_top (own_declared other) e yours.o.sym yours.o.ctxt yours.name_is two its_top)

      labels : first.0 ≡ second.0
      labels =
          labels-apart p list context answers its.apart first.0 second.0
          (record { cause = cause; due = stands.due; declares = first.1 })
          (record { cause = its_cause; due = also.due; declares = second.1 })
          (sym first.2 ∙ (λ i. (idents.0 i, idents.1 i)) ∙ second.2)

      same_causes : (c : Cause) → c ≡ cause → c ≡ its_cause → ⊥
      same_causes c x y =
          differ
          (its.once m n cause stands.cause_there
          (also.cause_there ∙ ap Some (sym y ∙ x)))

      of_module : (q i j : ℕ) → Own q i ≡ cause → Own q j ≡ its_cause → ⊥
      of_module q i j x y =
          none_from (declared BySymbol Es (tree_of p q))
          (its.sound.undoubled q Es reached.0 (is_es reached.1)) c.0 f.0
          (mine_parts.comes.there c.0 c.1) (your_parts.comes.there f.0 f.1)
          (record { agree = agrees; apart = places; excluded = inl excluded })
        where
          reached : IsReached p q × (IsCommonJs p q → ⊥)
          reached = due-own p AsModule stands.due (sym x)

          mine_parts : OwnParts p q i item
          mine_parts = own_parts p q i (each m cause item stands.cause_there stands.item_there) (sym x)

          your_parts : OwnParts p q j other
          your_parts =
              own_parts p q j (each n its_cause other also.cause_there also.item_there) (sym y)

          c : (c : Declared) × IsAmong mine_parts.comes.source c × Corresponds mine_parts.S c d
          c =
              source_of mine_parts.S mine_parts.tells (declared BySymbol Es (tree_of p q))
              mine_parts.top.start (mine_parts.top.start + length mine_parts.top.items)
              (own_declared item) mine_parts.comes d one

          f : (c : Declared) × IsAmong your_parts.comes.source c × Corresponds your_parts.S c e
          f =
              source_of your_parts.S your_parts.tells (declared BySymbol Es (tree_of p q))
              your_parts.top.start (your_parts.top.start + length your_parts.top.items)
              (own_declared other) your_parts.comes e two

          agrees : names_agree c.0.name f.0.name ≡ true
          agrees =
              and_from (bytes_eq c.0.name.sym f.0.name.sym)
              (contexts_agree c.0.name.ctxt f.0.name.ctxt)
              (ap₂ (λ x y. bytes_eq x y) (sym c.2.symbol) (sym f.2.symbol)
              ∙ (and_parts (bytes_eq d.name.sym e.name.sym)
              (contexts_agree d.name.ctxt e.name.ctxt) agree).0)
              (ap (λ z. contexts_agree z f.0.name.ctxt) c.2.plainly)

          places : c.0.place ≢ f.0.place
          places place =
              let low = (your_parts.comes.within f.0 f.1).0 in
              let high = (your_parts.comes.within f.0 f.1).1 in
              same_causes (Own q i) x
              (ap (Own q)
              (one_stated (tree_of p q) i j mine_parts.statement your_parts.statement
              mine_parts.top your_parts.top mine_parts.at your_parts.at mine_parts.there
              your_parts.there
              (top_fit (its.sound.fit.each q reached.0) mine_parts.top mine_parts.there)
              mine_parts.states your_parts.states c.0.place
              (mine_parts.comes.within c.0 c.1).0 (mine_parts.comes.within c.0 c.1).1
              (omega (arith, low, place)) (omega (arith, high, place)))
              ∙ y)

          top_there : taker c.0 ≡ Top
          top_there =
              mine_parts.tops (taker c.0)
              (subst (mine_parts.S (taker c.0)) (home_taker (own_declared item) d top)
              c.2.goes.taken)

          its_top_there : taker f.0 ≡ Top
          its_top_there =
              your_parts.tops (taker f.0)
              (subst (your_parts.S (taker f.0)) (home_taker (own_declared other) e its_top)
              f.2.goes.taken)

          excluded : excludes c.0 f.0 ≡ true
          excluded =
              or_left (is_lexical c.0 && stands_beside c.0 f.0) (passes_scope_of c.0 f.0)
              (and_from (is_lexical c.0) (stands_beside c.0 f.0) (sym c.2.goes.lexical ∙ lexical)
              (or_left (same_scope (taker f.0) (taker c.0)) _
              (ap₂ (λ s t. same_scope s t) its_top_there top_there)))

      by : (c other_c : Cause) → OneLabel c other_c → c ≡ cause → other_c ≡ its_cause → ⊥
      by c other_c same_cause x y = same_causes c x y
      by c other_c (same_module {m = q} {i = i} {j = j}) x y = of_module q i j x y

  together : TopsStandTogether items
  together = record {
    tops = λ m n item other d e differ at there one two agree.
        let stands = of-item p hooks list context answers plan items its m item at in
        let also = of-item p hooks list context answers plan items its n other there in
        home_taker (own_declared item) d
        (home_top m n item other d e differ at there stands.1.alone.named also.1.alone.named one two
        agree);
    often = λ m n item other d e differ at there one two agree.
        let stands = of-item p hooks list context answers plan items its m item at in
        let also = of-item p hooks list context answers plan items its n other there in
        false_from_ne_true (is_lexical d)
        (lexical_never m n stands.0 also.0 item other d e differ stands.1 also.1 one two
        (home_top m n item other d e differ at there stands.1.alone.named also.1.alone.named one two
        agree)
        (home_top n m other item e d (λ same. differ (sym same)) there at also.1.alone.named
        stands.1.alone.named two one (agree_turned d.name e.name agree)) agree);
  }

  -- each by itself
  by_itself : (m : ℕ) (item : List Item) → slice_get items m ≡ Some item →
      NoneClash (own_declared item)
  by_itself m item at =
      let stands = of-item p hooks list context answers plan items its m item at in
      by stands.0 stands.1.due (each m stands.0 item stands.1.cause_there at)
    where
      by : (cause : Cause) → IsDue p AsModule cause → IsDeclaredFor p cause item →
          NoneClash (own_declared item)
      by cause due (of_another other none) = none
      by (Own q i) due (of_statement S statement top tells tops at there states comes) =
          let reached = due-own p AsModule due refl in
          none_alike S tells (declared BySymbol Es (tree_of p q)) top.start
          (top.start + length top.items) (own_declared item) comes
          (none_from (declared BySymbol Es (tree_of p q))
          (its.sound.undoubled q Es reached.0 (is_es reached.1)))

  -- UNDOUBLED
  pub together-undoubled : IsUndoubled (joined_items items)
  together-undoubled =
      joined-undoubled items
      (whole-items p hooks list context answers plan items its
      (notes-of p hooks list context answers plan items its.alone))
      by_itself together

-- ---- once

-- Identifiers that are bound.

-- each identifier that is bound is bound once
abbrev pub BindOnce : List Listed → Type 0
BindOnce [] = Unit {0}
BindOnce (its ∷ more) = (its.1 ≡ true → list_any (binds_it its.0.0 its.0.1) more ≡ false)
    × BindOnce more

bound_there : (names : List Listed) (i : ℕ) (id : Ident) → slice_get names i ≡ Some (id, true) →
    list_any (binds_it id.0 id.1) names ≡ true
bound_there names i id at =
    any-here (binds_it id.0 id.1) names (id, true) (i, at) (binds-same (id, true) id refl refl)

first_once : (its : Listed) (more : List Listed) → BindOnce (its ∷ more) → (id : Ident) →
    its ≡ (id, true) → list_any (binds_it id.0 id.1) more ≡ false
first_once its more once id is =
    subst (λ (x : Listed). list_any (binds_it x.0.0 x.0.1) more ≡ false) is
    (once.0 (ap (λ (x : Listed). x.1) is))

-- at one place
bound_once : (names : List Listed) → BindOnce names → (i j : ℕ) (id : Ident) →
    slice_get names i ≡ Some (id, true) → slice_get names j ≡ Some (id, true) → i ≡ j
bound_once [] once i j id at there = absurd (none-some (id, true) at)
bound_once (its ∷ more) once zero zero id at there = refl
bound_once (its ∷ more) once zero (suc j) id at there =
    absurd
    (false≢true
    (sym (first_once its more once id (same_Some its (id, true) at))
    ∙ bound_there more j id there))
bound_once (its ∷ more) once (suc i) zero id at there =
    absurd
    (false≢true
    (sym (first_once its more once id (same_Some its (id, true) there))
    ∙ bound_there more i id at))
bound_once (its ∷ more) once (suc i) (suc j) id at there =
    ap suc (bound_once more once.1 i j id at there)

-- with a name behind that binds none
pub any-behind : (names : List Listed) (x : Text) (c : ℕ) (id : Ident) →
    list_any (binds_it x c) names ≡ false →
    list_any (binds_it x c) (names ++ (id, false) ∷ []) ≡ false
any-behind names x c id none =
    any-append (binds_it x c) names ((id, false) ∷ []) ∙ ap (λ b. b || (false || false)) none

pub once-behind : (names : List Listed) (id : Ident) → BindOnce names →
    BindOnce (names ++ (id, false) ∷ [])
once-behind [] id once = (λ binds. absurd (false≢true binds), tt)
once-behind (its ∷ more) id once =
    (λ binds. any-behind more its.0.0 its.0.1 id (once.0 binds), once-behind more id once.1)

-- names in their order, where no two identifiers of them are one
pub names-once : (p : Program) (list : List ℕ) (context : BundleContexts) (of : Text → Target)
    (names : List Text) → IsAscending names →
    ((x y : Text) → Contains names x → Contains names y →
    ident_of_label p list context (Of (of x)) ≡ ident_of_label p list context (Of (of y)) →
    x ≡ y) →
    BindOnce (map bound_name (named_idents p list context of names))
names-once p list context of [] up apart = tt
names-once p list context of (x ∷ names) up apart = (
  λ binds. false_from_ne_true _ again,
  names-once p list context of names its.1
      (λ y z one two same. apart y z (later y one) (later z two) same),
)
  where
    its : (Contains names x → ⊥) × IsAscending names
    its = ascending-once x names up

    later : (y : Text) → Contains names y → Contains (x ∷ names) y
    later y there = (Contains-cons x names y).1 (inr there)

    again : list_any
        (binds_it (ident_of_label p list context (Of (of x))).0
        (ident_of_label p list context (Of (of x))).1)
        (map bound_name (named_idents p list context of names))
        ≡ true → ⊥
    again is =
        let it = bound-name p list context of names _ _ is in
        its.0
        (subst (Contains names)
        (sym (apart x it.0 ((Contains-cons x names x).1 (inl refl)) (later it.0 it.1) it.2)) it.1)

-- What is declared.

-- a name that declares binds, and is declared by its identifier
binds_by : (o : Occurrence) (d : Declared) → declaration_of ByContext Es o ≡ Some d →
    (is_binding o.role ≡ true) × (d.name ≡ its_name o)
binds_by o d is = by (is_binding o.role) (way_of o.path) is
  where
    by : (b : Bool) (way : Option Way) →
        cond b (declared_by o.place (its_name o) (scopes_around Es o.path) way) None ≡ Some d →
        (b ≡ true) × (d.name ≡ its_name o)
    by false way e = absurd (none-some d e)
    by true None e = absurd (none-some d e)
    by true (Some way) e = (refl, ap (λ (c : Declared). c.name) (sym (same_Some _ d e)))

-- what stands beside an occurrence
beside : (os : List Occurrence) (names : List Listed) → AllZip IsTopped os names → (i : ℕ)
    (o : Occurrence) → slice_get os i ≡ Some o → is_binding o.role ≡ true →
    slice_get names i ≡ Some (ident_of o, true)
beside [] names all i o at binds = absurd (none-some o at)
beside (u ∷ os) [] all i o at binds = absurd all
beside (u ∷ os) (its ∷ names) all zero o at binds =
    let one : IsTopped o its = subst (λ v. IsTopped v its) (same_Some u o at) all.0 in
    let ident : its.0 ≡ ident_of o = sym one.ident in
    let is : its.1 ≡ true = sym one.binds ∙ binds in
    ap Some (λ i. (ident i, is i))
beside (u ∷ os) (its ∷ names) all (suc i) o at binds = beside os names all.1 i o at binds

-- one of these names declares it
abbrev IsNamedIn : List Occurrence → Declared → Type 0
IsNamedIn os d =
    (i : ℕ) × (o : Occurrence) × (slice_get os i ≡ Some o)
    × (declaration_of ByContext Es o ≡ Some d)

-- NONE CLASH
pub topped-once : (item : List Item) (names : List Listed) → HasNames item →
    AllZip IsTopped (occurrences_from first_spot item) names → BindOnce names →
    NoneClash (own_declared item)
topped-once item names named topped once a b first second clash =
    clash.apart
    (ap (λ (d : Declared). d.place)
    (same_Some a b
    (sym mine.3
    ∙ ap (declaration_of ByContext Es)
    (same_Some mine.1 yours.1 (sym mine.2 ∙ ap (slice_get os) places ∙ yours.2))
    ∙ yours.3)))
  where
    os : List Occurrence
    os = occurrences_from first_spot item

    are : own_declared item ≡ declared_by_names os
    are = declared-item item named ∙ ap declared_by_names (occurrences-item item)

    name_of_it : (d : Declared) → IsAmong (own_declared item) d → IsNamedIn os d
    name_of_it d there =
        picked (declaration_of ByContext Es) os there.0 d
        (ap (λ l. slice_get l there.0) (sym are) ∙ there.1)

    mine : IsNamedIn os a
    mine = name_of_it a first

    yours : IsNamedIn os b
    yours = name_of_it b second

    idents : ident_of yours.1 ≡ ident_of mine.1
    idents =
        let one = binds_by mine.1 a mine.3 in
        let two = binds_by yours.1 b yours.3 in
        let same =
        same_ident mine.1.sym yours.1.sym mine.1.ctxt yours.1.ctxt
        (ap₂ (λ x y. names_agree x y) (sym one.1) (sym two.1) ∙ clash.agree) in
        let symbols : yours.1.sym ≡ mine.1.sym = sym same.0 in
        let contexts : yours.1.ctxt ≡ mine.1.ctxt = sym same.1 in
        λ i. (symbols i, contexts i)

    places : mine.0 ≡ yours.0
    places =
        bound_once names once mine.0 yours.0 (ident_of mine.1)
        (beside os names topped mine.0 mine.1 mine.2 (binds_by mine.1 a mine.3).0)
        (beside os names topped yours.0 yours.1 yours.2 (binds_by yours.1 b yours.3).0
        ∙ ap (λ (id : Ident). Some (id, true)) idents)

-- ---- taken
module _ (p : Program) (hooks : Hooks) (list : List ℕ) (context : BundleContexts)
    (answers : ℕ → Option HookAnswer) (apart : TellApart p answers context) where
  -- what takes names of an external
  pub imports-none : (s : Text) (item : List Item) → IsDue p AsModule (ImportsNames s) →
      IsMade p hooks list context answers (ImportsNames s) item → NoneClash (own_declared item)
  imports-none s item due (made.imports_names names are is) =
      subst (λ items. NoneClash (own_declared items)) (sym is)
      (topped-once (in_listed.import_names s (named_idents p list context of names))
      (map bound_name (named_idents p list context of names))
      (Imports.named p hooks list context answers s names due are)
      (Imports.topped p hooks list context answers s names due are)
      (names-once p list context of names are.ascending
      (λ x y one two same.
      let labels = labels-apart p list context answers apart (Of (of x)) (Of (of y))
      (top x ((are.all x).0 one)) (top y ((are.all y).0 two)) same in
      cc)))
    where
      of : Text → Target
      of x = External s (Named x)

      top : (x : Text) → MeansName p s x → IsTopLabel p (Of (of x))
      top x means = record {
        cause = ImportsNames s;
        due = due;
        declares = adds (imports_name means);
      }

  -- Loading.

  module _ (m c : ℕ) (due : IsDue p AsModule (Loads m c)) where
    abbrev of_name : Text → Target
    of_name x = CommonJs m c (Named x)

    top_of : (its : Taken) → IsMeant p (Of (CommonJs m c its)) →
        IsTopLabel p (Of (CommonJs m c its))
    top_of its meant = record { cause = Loads m c; due = due; declares = adds (loads meant) }

    abbrev whole_ident : Ident
    whole_ident = ident_of_label p list context (Of (CommonJs m c Whole))

    abbrev pairs_of : List Text → List Pair
    pairs_of names = named_idents p list context of_name names

    -- the name of the whole is none of a part
    whole_other : (names : List Text) → IsMeant p (Of (CommonJs m c Whole)) →
        ((x : Text) → Contains names x → IsMeant p (Of (of_name x))) →
        list_any (binds_it whole_ident.0 whole_ident.1) (map bound_name (pairs_of names)) ≡ false
    whole_other names whole meant =
        false_from_ne_true _
        (λ is.
        let it = bound-name p list context of_name names whole_ident.0 whole_ident.1 is in
        let labels = labels-apart p list context answers apart (Of (CommonJs m c Whole))
        (Of (of_name it.0)) (top_of Whole whole) (top_of (Named it.0) (meant it.0 it.1)) it.2 in
        cc)

    load_once : (load : Ident) (whole : Bool) (names : List Text) →
        AreNames (λ x. IsMeant p (Of (of_name x))) names →
        (whole ≡ true → IsMeant p (Of (CommonJs m c Whole))) →
        BindOnce (load_names load (if whole then Some whole_ident else None) (pairs_of names))
    load_once load whole names are is = by whole names is once apart_of_whole
      where
        once : BindOnce (map bound_name (pairs_of names))
        once =
            names-once p list context of_name names are.ascending
            (λ x y one two same.
            let labels =
            labels-apart p list context answers apart (Of (of_name x)) (Of (of_name y))
            (top_of (Named x) ((are.all x).0 one)) (top_of (Named y) ((are.all y).0 two)) same in
            cc)

        apart_of_whole : IsMeant p (Of (CommonJs m c Whole)) →
            list_any (binds_it whole_ident.0 whole_ident.1) (map bound_name (pairs_of names))
            ≡ false
        apart_of_whole meant = whole_other names meant (λ x there. (are.all x).0 there)

        by : (whole : Bool) (names : List Text) →
            (whole ≡ true → IsMeant p (Of (CommonJs m c Whole))) →
            BindOnce (map bound_name (pairs_of names)) →
            (IsMeant p (Of (CommonJs m c Whole)) →
            list_any (binds_it whole_ident.0 whole_ident.1) (map bound_name (pairs_of names))
            ≡ false) →
            BindOnce (load_names load (if whole then Some whole_ident else None) (pairs_of names))
        by false [] means each other = (λ binds. absurd (false≢true binds), tt)
        by false (x ∷ names) means each other =
            once-behind (map bound_name (pairs_of (x ∷ names))) load each
        by true [] means each other =
            (λ binds. refl, (λ binds. absurd (false≢true binds), tt))
        by true (x ∷ names) means each other = (
          λ binds.
              any-behind (map bound_name (pairs_of (x ∷ names))) whole_ident.0 whole_ident.1
              whole_ident (other (means refl)),
          (
            λ binds. absurd (false≢true binds),
            once-behind (map bound_name (pairs_of (x ∷ names))) whole_ident each,
          ),
        )

    -- the statement by which a module loads a CommonJS module
    pub loads-none : (item : List Item) →
        IsMade p hooks list context answers (Loads m c) item → NoneClash (own_declared item)
    loads-none item (made.loads whole names are is_whole whole_is is) =
        subst (λ items. NoneClash (own_declared items)) (sym is)
        (topped-once
        (in_listed.load_statement load (if whole then Some whole_ident else None) (pairs_of names))
        (load_names load (if whole then Some whole_ident else None) (pairs_of names))
        (load-named load (if whole then Some whole_ident else None) (pairs_of names))
        (load-topped load (if whole then Some whole_ident else None) (pairs_of names))
        (load_once load whole names are is_whole))
      where
        load : Ident
        load = ident_of_label p list context (Load c)
