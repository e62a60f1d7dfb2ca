-- The object of `import.meta` whose names get their contexts in the bundle, by itself.
-- A tree that was resolved is the tree before it but for contexts, so that cleared the two are one.
use Rattle.std.proofs.Common.{◌≡◌, ◌<◌, ℕ, ◌+◌, ◌-◌, Bool, true, false, nat_lt, List, [], ◌∷◌, Option, None, Some, map, refl, ap, sym, ◌∙◌, subst, arith, if◌then◌else◌, suc, cond, find, length, ap₂}
use Rattle.std.specs.List.{AllZip}
use Rattle.std.proofs.lemmas.Bool.{ltb-true}
use Rattle.std.proofs.lemmas.Option.{none-some, same_Some}
use Rattle.bundle_syntax.specs.Item.{Item}
use Rattle.bundle_rules.specs.Places.{Occurrence, is_binding, occurrences}
use Rattle.bundle_rules.specs.Scopes.{Es, ModuleKind, Scope, scopes_around}
use Rattle.bundle_rules.specs.Declarations.{Way, BySymbol, declared, way_of, Reading, ByContext, Declared, Name, declared_by, declaration_of, name_of}
use Rattle.bundle_rules.specs.Denotes.{Denoted, denoted_of, Bound, Global, bound_in, by_symbol, denoted_in, denotations, implied, is_implied_in, is_unresolved, is_written_in, own_or_found, without_context, written_or_implied}
use Rattle.bundle_rules.specs.Idents.{ident_of}
use Rattle.bundle_rules.specs.Meaning.{Meant}
use Rattle.bundle_rules.specs.Program.{Program, IsReached}
use Rattle.bundle_rules.specs.Statements.{no_notes}
use Rattle.bundle_rules.specs.Bundle.{HoldsMeta, AsModule, Hooks, IsDue, properties_tree}
use Rattle.bundle_rules.specs.Nodes.{Text}
use Rattle.bundle_rules.specs.Homes.{binds}
use Rattle.bundle_rules.specs.Rebuilds.{with_idents}
use Rattle.bundle_rules.specs.Renamed.{IsResolvedFrom}
use Rattle.bundle_rules.specs.Cleared.{cleared}
use Rattle.bundle_rules.specs.Symbols.{denoted_symbol}
use Rattle.bundle_tree_places.specs.Edits.{InObject}
use Rattle.bundle_tree_rebuild.specs.Work.{Step}
use Rattle.bundle_scope_names.proofs.TreeLemmas.{its_context, set_by, AreLike, Done, More, Same as Same_resolving, Named, ctxts}
use Rattle.bundle_scope_names.specs.Resolution.{with_contexts}
use Rattle.bundle_scope_names.proofs.Kept.{with_contexts-like}
use Rattle.bundle_merge_theory.specs.joined.Joined.{AllOf}
use Rattle.bundle_merge_theory.specs.noted.Marked.{Note, Marked}
use Rattle.bundle_merge_theory.specs.walked.Keeps.{MeantIdent, ByStep, ByMeta, meant_in, notes_in, AreOfMeta, Agree, notes_alone, Same}
use Rattle.bundle_merge_theory.proofs.walked.Clearing.{marked-cleared}
use Rattle.bundle_merge_theory.proofs.walked.Renaming.{alone_alone}
use Rattle.bundle_merge_theory.proofs.walked.Rewriting.{becomes_same}
use Rattle.bundle_merge_theory.specs.made.Given.{HookAnswer, Fresh, BundleContexts, Holder, TopOf, AnsweredOf, context_in_order, numbers_answered}
use Rattle.bundle_merge_theory.specs.made.Steps.{IsStepAnswered}
use Rattle.bundle_merge_theory.specs.made.Made.{IsAnsweredAs}
use Rattle.bundle_merge_theory.specs.made.Alone.{answered_of, TellApart, holds_meta as owns_answered}
use Rattle.bundle_merge_theory.specs.own.Beside.{Paired, AllMade, done, made, added as added_name}
use Rattle.bundle_merge_theory.proofs.answered.Inward.{IsMadeOf}
use Rattle.bundle_merge_theory.proofs.composed.Among.{all-in as all-of_each}
use Rattle.bundle_merge_theory.proofs.answered.Marks.{meant_of, its_meants}
use Rattle.bundle_merge_theory.proofs.answered.Rewritten.{tree-ways, work, given-own, cover, made-fit, goes, one, from-seven, made-names}
use Rattle.bundle_merge_theory.proofs.answered.Properties.{AreProperties, Answering}

-- ---- fresh

-- Contexts.

pub inner_order : (top : ℕ) (inside : ℕ → ℕ) (begins : ℕ) → context_in_order top inside (begins + 2)
    ≡ inside begins
inner_order top inside begins =
    by_test (nat_lt (begins + 2) 2) refl
  where
    by_test : (b : Bool) → nat_lt (begins + 2) 2 ≡ b →
        (if b then top else inside (begins + 2 - 2)) ≡ inside begins
    by_test true is = let e : begins + 2 < 2 = ltb-true (begins + 2) 2 is in absurd (omega
        (arith, e))
    by_test false is = let e : begins + 2 - 2 ≡ begins = omega arith in ap inside e

-- the context of a binding inside
context-inner : (context : BundleContexts) (m : ℕ) (begins : ℕ) (x : List ℕ) →
    numbers_answered context m (begins + 2) x ≡ context (AnsweredOf m begins)
context-inner context m begins x =
    inner_order (context (TopOf m)) (λ b. context (AnsweredOf m b)) begins

-- one place
place_of : Holder → ℕ
place_of (AnsweredOf m begins) = begins
place_of _ = 0

same-place : {m n a b : ℕ} → AnsweredOf m a ≡ AnsweredOf n b → a ≡ b
unfolding place_of
same-place e = ap place_of e

-- Names.

-- a name that has a way where it binds
abbrev pub HasWay : Occurrence → Type 0
HasWay o = is_binding o.role ≡ true → (way : Way) × (way_of o.path ≡ Some way)

-- names that are made of others by their steps have the identifiers of these
made-of : (R : ℕ → ℕ → Type 0) (context : BundleContexts) (m : ℕ) (properties : List Item)
    (os : List Occurrence) (steps : List Step) (us : List Occurrence) → AllMade R None os steps us →
    AllZip (IsStepAnswered context m properties) os steps → AllOf HasWay os →
    AllZip
    (λ o u. IsMadeOf R
    (set_by (its_context (numbers_answered context m) Es (declared BySymbol Es
    (properties_tree properties))) o)
    u)
    os us
made-of R context m properties [] [] [] done each ways = tt
made-of R context m properties [] (step ∷ steps) [] it each ways = elim it [ ]
made-of R context m properties (o ∷ os) steps [] it each ways = elim it [ ]
made-of R context m properties os steps (u ∷ us) (added_name refers is rest) each ways =
    absurd (none-some (ident_of u) is)
made-of R context m properties (o ∷ os) (step ∷ steps) (u ∷ us) (made it rest) each ways = (
  record {
    ident = it.ident ∙ each.0.its_ident;
    role = it.role;
    ways = λ binds. let way = ways.0 binds in (way.0, way.1, it.way way.0 binds way.1);
    scopes = it.scopes;
  },
  made-of R context m properties os steps us rest each.1 ways.1,
)

-- Marks.

-- what is told of an `import.meta` that stands for nothing, is of its notes
all-steps : (entries : List MeantIdent) → AreOfMeta None None entries →
    map meant_in entries ≡ map (λ (note : Note). note.meant) (notes_in entries)
all-steps [] it = refl
all-steps (ByStep step note ∷ entries) it = ap (λ l. note.meant ∷ l) (all-steps entries it)
all-steps (ByMeta ident meant ∷ entries) it = absurd (none-some ident it.0)

alone-again : (meants : List Meant) → map (λ (note : Note). note.meant) (notes_alone meants) ≡ meants
alone-again [] = refl
alone-again (meant ∷ meants) = ap (λ l. meant ∷ l) (alone-again meants)

module _ {p : Program} {hooks : Hooks} {context : BundleContexts} {m : ℕ} {properties within : List Item}
    (its : IsAnsweredAs p hooks context m properties within) where
  abbrev notes : List Note
  notes = notes_alone (its_meants properties)

  agree-with : (os : List Occurrence) (steps : List Step) (g : Occurrence → Denoted) →
      AllZip (IsStepAnswered context m properties) os steps →
      Agree steps (notes_alone (map (meant_of properties) (map g os)))
  agree-with [] [] g each = tt
  agree-with [] (step ∷ steps) g each = absurd each
  agree-with (o ∷ os) [] g each = absurd each
  agree-with (o ∷ os) (step ∷ steps) g each = (each.0.its_whole, agree-with os steps g each.1)

  same : Same InObject (work its) None notes its.given within
  same =
      becomes_same its.by refl (given-own its)
      (cover its) None notes
      (agree-with (occurrences (properties_tree properties)) its.steps
      (denoted_of BySymbol Es (declared BySymbol Es (properties_tree properties))) its.each)
      tt

  meants-are : map meant_in same.entries ≡ its_meants properties
  meants-are =
      all-steps same.entries same.of_meta
      ∙ ap (map (λ (note : Note). note.meant)) (sym same.notes_are)
      ∙ alone-again (its_meants properties)

  are-properties : AreProperties p hooks m no_notes (numbers_answered context m) properties within
  are-properties = record {
    held = its.held;
    faultless = its.faultless;
    fit = its.fit;
    made_fit = made-fit its;
    goes = Paired (goes its);
    one = one its;
    from_seven = from-seven its;
    names =
        made-of (Paired (goes its)) context m properties (occurrences (properties_tree properties))
        its.steps _ (made-names its) its.each
        (all-of_each HasWay (occurrences (properties_tree properties))
        (λ i o at. (tree-ways properties its.fit).way i o at));
    marks = same.marks;
    source =
        subst (λ items. Marked None InObject notes items same.marks []) its.is_given
        (marked-cleared same.source (alone_alone (its_meants properties)));
    result =
        subst (λ meants. Marked None InObject (notes_alone meants) within same.marks []) meants-are
        same.result;
  }

  -- THE FRESH ANSWER
  pub fresh : (answers : ℕ → Option HookAnswer) → IsReached p m →
      answers m ≡ Some (Fresh properties) → TellApart p answers context →
      IsDue p AsModule (HoldsMeta m) → Answering p hooks context answers m properties within
  fresh answers reached answered apart due = record {
    notes = no_notes;
    numbers = numbers_answered context m;
    its = are-properties;
    apart = apart;
    due = due;
    holder = λ begins x. AnsweredOf m begins;
    holds = λ i kind begins name at. record {
      is = answered_of properties kind name i reached answered at;
      owns = owns_answered;
      ctxt = context-inner context m begins name.sym;
      other = λ e. cc;
    };
    differ = λ i j kind other a b name other_name at there symbols e. same-place e;
  }

  pub fresh-notes : (answers : ℕ → Option HookAnswer) (reached : IsReached p m)
      (answered : answers m ≡ Some (Fresh properties)) (apart : TellApart p answers context)
      (due : IsDue p AsModule (HoldsMeta m)) →
      (fresh answers reached answered apart due).notes ≡ no_notes
  unfolding fresh
  fresh-notes answers reached answered apart due = refl

-- ---- resolving

-- The symbol of what is denoted.

name-symbol : (reading : Reading) (sym : Text) (ctxt : ℕ) → (name_of reading sym ctxt).sym ≡ sym
name-symbol BySymbol sym ctxt = refl
name-symbol ByContext sym ctxt = refl

declared-symbol : (reading : Reading) (kind : ModuleKind) (o : Occurrence) (d : Declared) →
    declaration_of reading kind o ≡ Some d → d.name.sym ≡ o.sym
declared-symbol reading kind o d is = by_role (is_binding o.role) (way_of o.path) is
  where
    by_role : (b : Bool) (way : Option Way) →
        cond b (declared_by o.place (name_of reading o.sym o.ctxt) (scopes_around kind o.path) way)
        None ≡ Some d → d.name.sym ≡ o.sym
    by_role true None e = absurd (none-some d e)
    by_role true (Some way) e =
        ap (λ (x : Declared). x.name.sym) (sym (same_Some _ d e)) ∙ name-symbol reading o.sym o.ctxt
    by_role false way e = absurd (none-some d e)

pub bound-symbol : (name : Name) (scope : Option Scope) →
    denoted_symbol (bound_in name scope) ≡ name.sym
bound-symbol name None = refl
bound-symbol name (Some scope) = refl

pub implied-symbol : (all : List Declared) (scopes : List Scope) (name : Name) →
    denoted_symbol (implied all scopes name) ≡ name.sym
implied-symbol all scopes name = by_context (is_unresolved name.ctxt)
  where
    by_context : (b : Bool) →
        denoted_symbol
        (cond b (Global name.sym)
        (bound_in (without_context name)
        (find (λ scope. is_implied_in all scope name) scopes))) ≡ name.sym
    by_context true = refl
    by_context false =
        bound-symbol (without_context name)
        (find (λ scope. is_implied_in all scope name) scopes)

pub written-symbol : (all : List Declared) (scopes : List Scope) (name : Name) (scope : Option Scope) →
    denoted_symbol (written_or_implied all scopes name scope) ≡ name.sym
written-symbol all scopes name None = implied-symbol all scopes name
written-symbol all scopes name (Some scope) = refl

found-symbol : (reading : Reading) (all : List Declared) (scopes : List Scope) (name : Name) →
    denoted_symbol (denoted_in reading all scopes name) ≡ name.sym
found-symbol BySymbol all scopes name =
    bound-symbol name (find (λ scope. binds all scope name) scopes)
found-symbol ByContext all scopes name =
    written-symbol all scopes name (find (λ scope. is_written_in all scope name) scopes)

-- what an occurrence denotes has its symbol
pub its-symbol : (reading : Reading) (kind : ModuleKind) (all : List Declared) (o : Occurrence) →
    denoted_symbol (denoted_of reading kind all o) ≡ o.sym
its-symbol reading kind all o = by_declared (declaration_of reading kind o) refl
  where
    by_declared : (d : Option Declared) → declaration_of reading kind o ≡ d →
        denoted_symbol
        (own_or_found all
        (denoted_in reading all (scopes_around kind o.path) (name_of reading o.sym o.ctxt)) d)
        ≡ o.sym
    by_declared None is =
        found-symbol reading all (scopes_around kind o.path) (name_of reading o.sym o.ctxt)
        ∙ name-symbol reading o.sym o.ctxt
    by_declared (Some d) is = declared-symbol reading kind o d is

-- the symbols of occurrences
abbrev symbols-of : List Occurrence → List Text
symbols-of os = map (λ (o : Occurrence). o.sym) os

symbols-denoted : (reading : Reading) (kind : ModuleKind) (all : List Declared)
    (os : List Occurrence) →
    map denoted_symbol (map (denoted_of reading kind all) os) ≡ symbols-of os
symbols-denoted reading kind all [] = refl
symbols-denoted reading kind all (o ∷ os) =
    ap (λ x. x ∷ map denoted_symbol (map (denoted_of reading kind all) os))
    (its-symbol reading kind all o)
    ∙ ap (λ xs. o.sym ∷ xs) (symbols-denoted reading kind all os)

-- which is the same by symbol alone
pub by-symbol : (d : Denoted) → denoted_symbol (by_symbol d) ≡ denoted_symbol d
by-symbol (Bound scope name) = refl
by-symbol (Global x) = refl

symbols-alone : (ds : List Denoted) →
    map denoted_symbol (map by_symbol ds) ≡ map denoted_symbol ds
symbols-alone [] = refl
symbols-alone (d ∷ ds) =
    ap (λ x. x ∷ map denoted_symbol (map by_symbol ds)) (by-symbol d)
    ∙ ap (λ xs. denoted_symbol d ∷ xs) (symbols-alone ds)

-- identifiers with these symbols have the contexts of the others
idents-with : (os others : List Occurrence) → symbols-of others ≡ symbols-of os →
    map ident_of others ≡ with_contexts os (ctxts others)
idents-with [] [] e = refl
idents-with [] (b ∷ others) e = absurd cc
idents-with (o ∷ os) [] e = absurd cc
idents-with (o ∷ os) (b ∷ others) e =
    let first : b.sym ≡ o.sym = cc in
    let later : symbols-of others ≡ symbols-of os = cc in
    ap (λ x. (x, b.ctxt) ∷ map ident_of others) first
    ∙ ap (λ l. (o.sym, b.ctxt) ∷ l) (idents-with os others later)

same-long : (os others : List Occurrence) → symbols-of others ≡ symbols-of os →
    length (ctxts others) ≡ length os
same-long [] [] e = refl
same-long [] (b ∷ others) e = absurd cc
same-long (o ∷ os) [] e = absurd cc
same-long (o ∷ os) (b ∷ others) e =
    let later : symbols-of others ≡ symbols-of os = cc in ap suc (same-long os others later)

pub cleared-alike : {xs ys : List Item} → AreLike xs ys → cleared xs ≡ cleared ys
cleared-alike Done = refl
cleared-alike (More {xs = xs} {ys = ys} (Same_resolving item) rest) =
    ap (λ l. l) (ap₂ (λ a b. a ∷ b) refl (cleared-alike rest))
cleared-alike (More {xs = xs} {ys = ys} (Named field x c c2 role) rest) =
    ap₂ (λ a b. a ∷ b) refl (cleared-alike rest)

-- a tree that was resolved
module _ (kind : ModuleKind) (local next later : ℕ) (before after : List Item) (its : IsResolvedFrom kind local next later before after) where
  same-symbols : symbols-of (occurrences after) ≡ symbols-of (occurrences before)
  same-symbols =
      sym (symbols-denoted ByContext kind (declared ByContext kind after) (occurrences after))
      ∙ sym (symbols-alone (denotations ByContext kind after))
      ∙ ap (map denoted_symbol) its.resolution.same
      ∙ symbols-denoted BySymbol kind (declared BySymbol kind before) (occurrences before)

  pub resolved-alike : AreLike before after
  resolved-alike =
      subst (AreLike before)
      (sym (its.same ∙ ap (with_idents before) (idents-with (occurrences before) (occurrences after) same-symbols)))
      (with_contexts-like before (ctxts (occurrences after))
      (same-long (occurrences before) (occurrences after) same-symbols)).0

  -- is the tree before, when both are cleared
  pub resolved-cleared : cleared after ≡ cleared before
  resolved-cleared = sym (cleared-alike resolved-alike)
