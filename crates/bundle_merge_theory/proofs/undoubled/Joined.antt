-- What comes from declarations of a tree in which none clash does not clash by itself.
-- The object of `import.meta` declares no name twice, as what the hook answered does not.
-- Where no item by itself declares a name twice, and what two declare at their tops may stand
-- together, nothing is declared twice in all of them.
use Rattle.std.proofs.Common.{◌≡◌, ◌⊎◌, inl, inr, ℕ, zero, suc, ◌&&◌, ◌||◌, Bool, true, false, List, [], ◌∷◌, Some, slice_get, bytes_eq, refl, ap, ap₂, sym, ◌∙◌, subst, ◌+◌, Option, length, ◌≢◌, ◌==◌, not, cond, take, arith, eqb-true, eq-eqb}
use Rattle.std.proofs.lemmas.Bool.{false≢true, and_parts, and_from, or_cases}
use Rattle.std.proofs.lemmas.Option.{none-some, same_Some}
use Rattle.std.specs.List.{list_any, AllZip}
use Rattle.std.specs.Prelude.{map, take_while}
use Rattle.std.proofs.lemmas.List.{length-append}
use Rattle.std.proofs.lemmas.List.Sums.{take_while-cons}
use Rattle.bundle_syntax.specs.Item.{Item}
use Rattle.bundle_rules.specs.Scopes.{Scope, same_scope, Es, Wrapper, Top, Inner}
use Rattle.bundle_rules.specs.Declarations.{names_agree, contexts_agree, Declared, BySymbol, Name, ByVar}
use Rattle.bundle_rules.specs.Homes.{from_taker, taker, group_of, takes, is_body}
use Rattle.bundle_rules.specs.Doubled.{stands_beside, passes_scope_of, excludes, is_lexical, is_var}
use Rattle.bundle_rules.specs.Places.{start}
use Rattle.bundle_rules.specs.Program.{Program}
use Rattle.bundle_rules.specs.Bundle.{HoldsMeta, AsModule, Hooks, IsDue, properties_tree}
use Rattle.bundle_rules.specs.Sorting.{flat}
use Rattle.bundle_scope_names.proofs.Numbering.{Numbering, lifted}
use Rattle.bundle_scope_names.proofs.HomesLemmas.{Each, each-rest, IsBySymbol}
use Rattle.bundle_scope_names.proofs.TreeLemmas.{declared-by_symbol}
use Rattle.bundle_scope_names.specs.Undoubled.{IsUndoubled}
use Rattle.bundle_scope_names.proofs.naming_rule.Clash.{var-is as var_is}
use Rattle.bundle_merge_theory.specs.joined.Alike.{ScopesAlike, DeclaredAlike}
use Rattle.bundle_merge_theory.specs.joined.Joined.{own_declared, joined_items, AllOf, IsWholeItem, moved_scope, moved_declared, offset, each_moved}
use Rattle.bundle_merge_theory.proofs.joined.Declarations.{all-at, declared-joined}
use Rattle.bundle_merge_theory.proofs.joined.Denotes.{taker-moved}
use Rattle.bundle_merge_theory.proofs.joined.Paths.{get-append}
use Rattle.bundle_merge_theory.specs.undoubled.Clashing.{IsAmong, NoneClash, TellsScopes, scopes_passed, ExcludesAlike, Corresponds, ComesFrom, IsClash, TopsStandTogether}
use Rattle.bundle_merge_theory.specs.made.Given.{HookAnswer, BundleContexts}
use Rattle.bundle_merge_theory.specs.made.Made.{IsMade}
use Rattle.bundle_merge_theory.specs.made.Alone.{TellApart}
use Rattle.bundle_merge_theory.proofs.answered.Inward.{constant_at}
use Rattle.bundle_merge_theory.proofs.answered.Answered.{IsOther, others}
use Rattle.bundle_merge_theory.proofs.answered.Properties.{Answering}
use Rattle.bundle_merge_theory.proofs.answered.Meta.{by-answer}
use Rattle.bundle_merge_theory.proofs.answered.Rewritten.{tree-named, declared-symbols}
use Rattle.bundle_merge_theory.proofs.undoubled.Added.{none_named}
use Rattle.bundle_merge_theory.proofs.undoubled.Clash.{none_from, agree_turned, undoubled_from, tells_alike, goes_alike, Moved, moved_one, goes_moved, Rises, rises_within, rises_once, names_rise}
use Rattle.bundle_merge_theory.proofs.answered.Denoting

-- ---- alike
module _ (S : Scope → Scope → Type 0) (tells : TellsScopes S) where
  among_alike : {s t : Scope} → S s t → (ss ts : List Scope) → AllZip S ss ts →
      list_any (same_scope t) ts ≡ list_any (same_scope s) ss
  among_alike its [] [] z = refl
  among_alike its [] (t ∷ ts) z = absurd z
  among_alike its (s ∷ ss) [] z = absurd z
  among_alike {s = s} {t = t} its (x ∷ ss) (y ∷ ts) z =
      ap₂ (λ (a : Bool) (b : Bool). a || b) (tells s t x y its z.0) (among_alike its ss ts z.1)

  pub excludes_alike : (a b c d : Declared) → ExcludesAlike S a b → ExcludesAlike S c d →
      excludes b d ≡ excludes a c
  excludes_alike a b c d one two =
      let beside : stands_beside b d ≡ stands_beside a c =
      ap₂ (λ (x : Bool) (y : Bool). x || y) (tells (taker c) (taker d) (taker a) (taker b) two.taken one.taken)
      (tells (taker c) (taker d) (group_of (from_taker a.by a.scopes)) (group_of (from_taker b.by b.scopes)) two.taken one.grouped) in
      let passes : passes_scope_of b d ≡ passes_scope_of a c =
      ap₂ (λ (x : Bool) (y : Bool). x && y) one.is_var
      (among_alike two.taken (scopes_passed a) (scopes_passed b) one.passes) in
      λ i. (one.lexical i && beside i) || passes i

  -- partners in turn
  partner : (ds es : List Declared) → AllZip (Corresponds S) ds es → (i : ℕ) (e : Declared) →
      slice_get es i ≡ Some e → (d : Declared) × (slice_get ds i ≡ Some d) × Corresponds S d e
  partner [] [] z i e at = absurd (none-some e at)
  partner [] (x ∷ es) z i e at = absurd z
  partner (d ∷ ds) [] z i e at = absurd z
  partner (d ∷ ds) (x ∷ es) z zero e at =
      (d, refl, subst (Corresponds S d) (same_Some x e at) z.0)
  partner (d ∷ ds) (x ∷ es) z (suc i) e at =
      let it = partner ds es z.1 i e at in (it.0, it.1, it.2)

  module _ (all : List Declared) (low high : ℕ) (its : List Declared)
      (comes : ComesFrom S all low high its) where
    -- the source of one
    pub source_of : (e : Declared) → IsAmong its e →
        (d : Declared) × IsAmong comes.source d × Corresponds S d e
    source_of e at =
        let it = partner comes.source its comes.alike at.0 e at.1 in
        (it.0, (at.0, it.1), it.2)

    pub agree_before : (d e : Declared) (a b : Declared) → Corresponds S d a → Corresponds S e b →
        names_agree a.name b.name ≡ true → names_agree d.name e.name ≡ true
    agree_before d e a b one two agree =
        let symbols = (and_parts (bytes_eq a.name.sym b.name.sym)
        (contexts_agree a.name.ctxt b.name.ctxt) agree).0 in
        and_from (bytes_eq d.name.sym e.name.sym) (contexts_agree d.name.ctxt e.name.ctxt)
        (ap₂ (λ x y. bytes_eq x y) (sym one.symbol) (sym two.symbol) ∙ symbols)
        (ap (λ c. contexts_agree c e.name.ctxt) one.plainly)

    -- NONE CLASH
    pub none_alike : NoneClash all → NoneClash its
    none_alike none a b first second it =
        none d.0 e.0 (comes.there d.0 (first.0, d.1)) (comes.there e.0 (second.0, e.1))
        (record {
          agree = agree;
          apart = λ same. by (comes.once first.0 second.0 d.0 e.0 d.1 e.1 same);
          excluded = excluded it.excluded;
        })
      where
        d : (d : Declared) × (slice_get comes.source first.0 ≡ Some d) × Corresponds S d a
        d = partner comes.source its comes.alike first.0 a first.1

        e : (d : Declared) × (slice_get comes.source second.0 ≡ Some d) × Corresponds S d b
        e = partner comes.source its comes.alike second.0 b second.1

        agree : names_agree d.0.name e.0.name ≡ true
        agree = agree_before d.0 e.0 a b d.2 e.2 it.agree

        by : (first.0 ≡ second.0) ⊎ (names_agree d.0.name e.0.name ≡ false) → ⊥
        by (inl same) =
            it.apart
            (ap (λ (c : Declared). c.place)
            (same_Some a b (sym first.1 ∙ ap (slice_get its) same ∙ second.1)))
        by (inr never) = false≢true (sym never ∙ agree)

        excluded : (excludes a b ≡ true) ⊎ (excludes b a ≡ true) →
            (excludes d.0 e.0 ≡ true) ⊎ (excludes e.0 d.0 ≡ true)
        excluded (inl one) = inl (sym (excludes_alike d.0 a e.0 b d.2.goes e.2.goes) ∙ one)
        excluded (inr other) = inr (sym (excludes_alike e.0 b d.0 a e.2.goes d.2.goes) ∙ other)

-- ---- answered

-- what is declared like others, once these have contexts, corresponds to them
lifted_correspond : (R : ℕ → ℕ → Type 0) (f : Numbering) (all ds es : List Declared) →
    Each IsBySymbol ds → AllZip (DeclaredAlike R) (map (lifted f all) ds) es →
    AllZip (Corresponds (ScopesAlike R)) ds es
lifted_correspond R f all [] [] plain alike = tt
lifted_correspond R f all [] (e ∷ es) plain alike = absurd alike
lifted_correspond R f all (c ∷ ds) [] plain alike = absurd alike
lifted_correspond R f all (c ∷ ds) (e ∷ es) plain alike = (
  record {
    goes = goes_alike R c e alike.0.by alike.0.scopes;
    symbol = ap (λ (n : Name). n.sym) alike.0.name;
    plainly = plain 0 c refl;
  },
  lifted_correspond R f all ds es (each-rest IsBySymbol c ds plain) alike.1,
)

module _ (list : List ℕ) {p : Program} {hooks : Hooks} {context : BundleContexts}
    {answers : ℕ → Option HookAnswer} {m : ℕ} {properties within : List Item}
    (facts : Answering p hooks context answers m properties within) where
  abbrev R : ℕ → ℕ → Type 0
  R = Denoting.R list facts

  abbrev tree : List Item
  tree = properties_tree properties

  abbrev its_ds : List Declared
  its_ds = Denoting.ds list facts

  abbrev its_es : List Declared
  its_es = Denoting.es list facts

  rise : Rises 0 (0 + length tree) its_ds
  rise =
      subst (Rises 0 (0 + length tree))
      (sym (declared-symbols start tree (tree-named properties facts.its.fit)))
      (names_rise BySymbol Es start tree)

  comes : ComesFrom (ScopesAlike R) its_ds 0 (0 + length tree) its_es
  comes = record {
    source = its_ds;
    there = λ c there. there;
    within = rises_within 0 (0 + length tree) its_ds rise;
    once = λ i j a b first second same.
        inl (rises_once 0 (0 + length tree) its_ds rise i j a b first second same);
    alike =
        lifted_correspond R (Denoting.f list facts) its_ds its_ds its_es (declared-by_symbol Es tree)
        (Denoting.alike list facts);
  }

  -- the object
  pub object-none : NoneClash (own_declared (Denoting.item list facts))
  object-none =
      subst NoneClash (sym (Denoting.item-declared list facts))
      (none_named (constant_at 4 (Denoting.meta_name list facts)) its_es
      (λ e there.
      all-at (IsOther list facts) its_es there.0 e
      (others list facts (Denoting.os list facts) (Denoting.us list facts) (Denoting.all-beside list facts)) there.1)
      (none_alike (ScopesAlike R) (tells_alike R facts.its.one) its_ds 0 (0 + length tree) its_es
      comes (none_from its_ds facts.its.faultless.undoubled)))

-- what is made for the `import.meta` of a module
pub meta-none : (p : Program) (hooks : Hooks) (list : List ℕ) (context : BundleContexts)
    (answers : ℕ → Option HookAnswer) → TellApart p answers context → (m : ℕ)
    (item : List Item) → IsDue p AsModule (HoldsMeta m) →
    IsMade p hooks list context answers (HoldsMeta m) item → NoneClash (own_declared item)
meta-none p hooks list context answers apart m item due made =
    let it = by-answer p hooks list context answers apart m item due made in
    subst (λ items. NoneClash (own_declared items)) (sym it.is) (object-none list it.facts)

-- ---- joined

-- What is declared in turn.

pub record IsOfItem {A : Type 0} (move : ℕ → A → A) (tell : List Item → List A) (k : ℕ)
    (items : List (List Item)) (x : A) : Type 0 where
  pub number : ℕ
  pub item : List Item
  pub at : slice_get items number ≡ Some item
  pub own : A
  pub among : IsAmong (tell item) own
  pub shift : ℕ
  pub shift_is : shift ≡ k + offset items number
  pub is : x ≡ move shift own

of_item : {A : Type 0} (move : ℕ → A → A) (tell : List Item → List A) (k : ℕ)
    (items : List (List Item)) (i : ℕ) (x : A) →
    slice_get (each_moved move tell k items) i ≡ Some x → IsOfItem move tell k items x
of_item move tell k [] i x at = absurd (none-some x at)
of_item {A = A} move tell k (item ∷ more) i x at =
    by (get-append (map (move k) (tell item)) (each_moved move tell (k + length item) more) i x at)
    (λ j there. of_item move tell (k + length item) more j x there)
  where
    mapped : (xs : List A) (j : ℕ) → slice_get (map (move k) xs) j ≡ Some x →
        (y : A) × (slice_get xs j ≡ Some y) × (x ≡ move k y)
    mapped [] j there = absurd (none-some x there)
    mapped (y ∷ ys) zero there = (y, refl, sym (same_Some (move k y) x there))
    mapped (y ∷ ys) (suc j) there = mapped ys j there

    by : (slice_get (map (move k) (tell item)) i ≡ Some x)
        ⊎ ((j : ℕ) × (slice_get (each_moved move tell (k + length item) more) j ≡ Some x)) →
        ((j : ℕ) → slice_get (each_moved move tell (k + length item) more) j ≡ Some x →
        IsOfItem move tell (k + length item) more x) →
        IsOfItem move tell k (item ∷ more) x
    by (inl here) behind =
        let it = mapped (tell item) i here in
        record {
          number = 0;
          item = item;
          at = refl;
          own = it.0;
          among = (i, it.1);
          shift = k;
          shift_is = omega arith;
          is = it.2;
        }
    by (inr later) behind =
        let it = behind later.0 later.1 in
        let long = length-append item (flat (take it.number more)) in
        let far = it.shift_is in
        record {
          number = suc it.number;
          item = it.item;
          at = it.at;
          own = it.own;
          among = it.among;
          shift = it.shift;
          shift_is = omega (arith, long, far);
          is = it.is;
        }

-- Scopes.

top_scope : (s : Scope) → same_scope Top s ≡ true → s ≡ Top
top_scope Wrapper is = absurd (false≢true is)
top_scope Top is = refl
top_scope (Inner kind begins) is =
    let same = eqb-true 1 (begins + 2) is in absurd (omega (arith, same))

-- no `var` passes the top on its way up
top_passed : (ss : List Scope) →
    list_any (same_scope Top) (take_while (λ scope. not (takes ByVar scope)) ss) ≡ true → ⊥
top_passed [] is = false≢true is
top_passed (s ∷ ss) is =
    by s (not (is_body s)) refl
    (sym (ap (list_any (same_scope Top)) (take_while-cons (λ scope. not (takes ByVar scope)) s ss))
    ∙ is)
    (top_passed ss)
  where
    by : (s : Scope) (b : Bool) → not (is_body s) ≡ b →
        list_any (same_scope Top) (cond b (s ∷ take_while (λ scope. not (takes ByVar scope)) ss) []) ≡ true →
        (list_any (same_scope Top) (take_while (λ scope. not (takes ByVar scope)) ss) ≡ true → ⊥) →
        ⊥
    by s false body is rest = false≢true is
    by s true body is rest = first (or_cases (same_scope Top s) (list_any (same_scope Top) (take_while (λ scope. not (takes ByVar scope)) ss)) is)
      where
        first : (same_scope Top s ≡ true)
            ⊎ (list_any (same_scope Top) (take_while (λ scope. not (takes ByVar scope)) ss) ≡ true) →
            ⊥
        first (inl here) =
            false≢true (ap (λ t. not (is_body t)) (sym (top_scope s here)) ∙ body)
        first (inr later) = rest later

-- at the top only what stands once excludes
excludes_top : (a b : Declared) → taker b ≡ Top → is_lexical a ≡ false → excludes a b ≡ true → ⊥
excludes_top a b top often is =
    by (or_cases (is_lexical a && stands_beside a b) (passes_scope_of a b) is)
  where
    passes : is_var a.by ≡ true →
        list_any (same_scope (taker b)) (take_while (λ scope. not (takes a.by scope)) a.scopes)
        ≡ true → ⊥
    passes var its =
        top_passed a.scopes
        (ap (λ w. list_any (same_scope Top) (take_while (λ scope. not (takes w scope)) a.scopes))
        (sym (var_is a.by var))
        ∙ ap (λ t. list_any (same_scope t) (take_while (λ scope. not (takes a.by scope)) a.scopes))
        (sym top)
        ∙ its)

    by : ((is_lexical a && stands_beside a b) ≡ true) ⊎ (passes_scope_of a b ≡ true) → ⊥
    by (inl lexical) =
        false≢true (sym often ∙ (and_parts (is_lexical a) (stands_beside a b) lexical).0)
    by (inr its) =
        let parts =
        and_parts (is_var a.by)
        (list_any (same_scope (taker b)) (take_while (λ scope. not (takes a.by scope)) a.scopes))
        its in
        passes parts.0 parts.1

-- ALL TOGETHER
module _ (items : List (List Item)) (whole : AllOf IsWholeItem items)
    (each : (m : ℕ) (item : List Item) → slice_get items m ≡ Some item →
    NoneClash (own_declared item))
    (together : TopsStandTogether items) where
  abbrev Own : Declared → Type 0
  Own d = IsOfItem moved_declared own_declared 0 items d

  -- of one item
  within : (k : ℕ) (a b : Declared) → IsClash (moved_declared k a) (moved_declared k b) → IsClash a b
  within k a b its = record {
    agree = its.agree;
    apart = λ same. its.apart (ap (λ n. n + k) same);
    excluded = by its.excluded;
  }
    where
      alike : (c d : Declared) →
          excludes (moved_declared k c) (moved_declared k d) ≡ excludes c d
      alike c d =
          excludes_alike (ScopesAlike (Moved k)) (tells_alike (Moved k) (moved_one k)) c
          (moved_declared k c) d (moved_declared k d) (goes_moved k c) (goes_moved k d)

      by : (excludes (moved_declared k a) (moved_declared k b) ≡ true)
          ⊎ (excludes (moved_declared k b) (moved_declared k a) ≡ true) →
          (excludes a b ≡ true) ⊎ (excludes b a ≡ true)
      by (inl one) = inl (sym (alike a b) ∙ one)
      by (inr other) = inr (sym (alike b a) ∙ other)

  -- of two
  moved_top : (k : ℕ) (d : Declared) → taker d ≡ Top → taker (moved_declared k d) ≡ Top
  moved_top k d top = taker-moved k d ∙ ap (moved_scope k) top

  across : (m n : ℕ) (item other : List Item) (a b : Declared) (j k : ℕ) → m ≢ n →
      slice_get items m ≡ Some item → slice_get items n ≡ Some other →
      IsAmong (own_declared item) a → IsAmong (own_declared other) b →
      IsClash (moved_declared j a) (moved_declared k b) → ⊥
  across m n item other a b j k differ first second one two its = by its.excluded
    where
      back : names_agree b.name a.name ≡ true
      back = agree_turned a.name b.name its.agree

      top : taker a ≡ Top
      top = together.tops m n item other a b differ first second one two its.agree

      top_other : taker b ≡ Top
      top_other =
          together.tops n m other item b a (λ same. differ (sym same)) second first two one back

      often : is_lexical (moved_declared j a) ≡ false
      often =
          (goes_moved j a).lexical
          ∙ together.often m n item other a b differ first second one two its.agree

      often_other : is_lexical (moved_declared k b) ≡ false
      often_other =
          (goes_moved k b).lexical
          ∙ together.often n m other item b a (λ same. differ (sym same)) second first two one
          back

      by : (excludes (moved_declared j a) (moved_declared k b) ≡ true)
          ⊎ (excludes (moved_declared k b) (moved_declared j a) ≡ true) → ⊥
      by (inl x) =
          excludes_top (moved_declared j a) (moved_declared k b) (moved_top k b top_other) often x
      by (inr y) =
          excludes_top (moved_declared k b) (moved_declared j a) (moved_top j a top) often_other y

  clashes : (a b : Declared) → Own a → Own b → IsClash a b → ⊥
  clashes a b one two its = by (one.number == two.number) refl
    where
      clash : IsClash (moved_declared one.shift one.own) (moved_declared two.shift two.own)
      clash = subst (λ c. IsClash c (moved_declared two.shift two.own)) one.is
          (subst (IsClash a) two.is its)

      same_item : one.number ≡ two.number → two.item ≡ one.item
      same_item same =
          same_Some two.item one.item
          (sym two.at ∙ ap (slice_get items) (sym same) ∙ one.at)

      same_shift : one.number ≡ two.number → two.shift ≡ one.shift
      same_shift same =
          two.shift_is ∙ ap (λ n. 0 + offset items n) (sym same) ∙ sym one.shift_is

      by : (b : Bool) → (one.number == two.number) ≡ b → ⊥
      by true is =
          let same = eqb-true one.number two.number is in
          each one.number one.item one.at one.own two.own one.among
          (subst (λ l. IsAmong (own_declared l) two.own) (same_item same) two.among)
          (within one.shift one.own two.own
          (subst (λ k. IsClash (moved_declared one.shift one.own) (moved_declared k two.own))
          (same_shift same) clash))
      by false is =
          across one.number two.number one.item two.item one.own two.own one.shift two.shift
          (λ same. false≢true (sym is ∙ eq-eqb one.number two.number same)) one.at two.at one.among
          two.among clash

  pub joined-undoubled : IsUndoubled (joined_items items)
  joined-undoubled =
      undoubled_from (own_declared (flat items))
      (λ a b first second its.
      clashes a b (own_of a first) (own_of b second) its)
    where
      own_of : (d : Declared) → IsAmong (own_declared (flat items)) d → Own d
      own_of d there =
          of_item moved_declared own_declared 0 items there.0 d
          (ap (λ l. slice_get l there.0) (sym (declared-joined items whole)) ∙ there.1)
