-- The contexts of a bundle tell the names of a load function apart.
-- A CommonJS module whose statements are laid out is turned into its load function, with the
-- contexts of a bundle.
-- What becomes of a statement of a CommonJS module: it is turned into one of its load function, and
-- each of its names is kept or is that of a load function.
use Rattle.std.proofs.Common.{◌≡◌, ◌≢◌, ℕ, zero, suc, ◌+◌, ◌-◌, Bool, true, false, ◌&&◌, List, Option, Some, slice_get, refl, ap, sym, ◌∙◌, arith, ne_eqb, bytes_eq, inl, inr, [], ◌∷◌, ◌++◌, None, subst, codes, not, map}
use Rattle.std.specs.Prelude.{if◌then◌else◌, nat_lt, fold, is_some}
use Rattle.std.proofs.lemmas.Bool.{false_from_ne_true, leb-true, false≢true, true≢false, and_parts}
use Rattle.std.specs.List.{AllByRecursion, AllZip}
use Rattle.std.proofs.lemmas.Option.{none-some, same_Some}
use Rattle.std.proofs.lemmas.Slice.Eq.{bytes_eq-Decides}
use Rattle.bundle_syntax.specs.Item as h
use Rattle.bundle_syntax.specs.Item.{Item}
use Rattle.bundle_rules.specs.Places.{Occurrence, Spot, past, occurrences_from, is_binding}
use Rattle.bundle_rules.specs.Scopes.{Cjs, Scope, ScopeKind, Wrapper, Top, Inner, scope_order}
use Rattle.bundle_rules.specs.Declarations.{BySymbol, Name, names_agree, Declared, declared}
use Rattle.bundle_rules.specs.Denotes.{Denoted, Bound, denoted_of, denotations}
use Rattle.bundle_rules.specs.Idents.{Ident}
use Rattle.bundle_rules.specs.Parts.{tree_of_items}
use Rattle.bundle_rules.specs.Program.{Program, tree_of, IsReached}
use Rattle.bundle_rules.specs.Linking.{IsCommonJs}
use Rattle.bundle_rules.specs.Meaning
use Rattle.bundle_rules.specs.Meaning.{Label, Load, Helper, is_common_js, Meant, Of, Inside, Known, Unbound, OwnName, plain, is_inside}
use Rattle.bundle_rules.specs.Nodes.{flat, Text}
use Rattle.bundle_rules.specs.Doubled.{first_doubled}
use Rattle.bundle_rules.specs.Callable as callable
use Rattle.bundle_rules.specs.Callable.{Every, none, more, IsTaken}
use Rattle.bundle_rules.specs.Statements.{Element}
use Rattle.bundle_rules.specs.Entries.{import_of, imports_of, is_script}
use Rattle.bundle_rules.specs.Bundle
use Rattle.bundle_scope_names.proofs.Numbering.{Numbering}
use Rattle.bundle_scope_names.proofs.FoundLemmas.{with}
use Rattle.bundle_scope_names.proofs.TreeLemmas.{denotation-at}
use Rattle.bundle_scope_names.proofs.HomesLemmas.{Each}
use Rattle.bundle_scope_names.proofs.Kept.{occurrences-append as occurrences_append}
use Rattle.bundle_tree_rebuild.specs.Work.{Step, is_spelled_out_by}
use Rattle.bundle_link_tables.specs.Used.{is_use}
use Rattle.bundle_tree_rebuild.specs.declared.rewrite.Whole.TheVariants
use Rattle.bundle_scope_names.specs.fit.Sorts.{AStmt, Many, slot}
use Rattle.bundle_scope_names.specs.fit.Fits.{AreFit, IsFit, AreEach, ended, next}
use Rattle.bundle_scope_names.proofs.fit.Rows.{last_each}
use Rattle.bundle_merge_theory.proofs.joined.Paths.{item-occurrences}
use Rattle.bundle_merge_theory.specs.loaded.Turned.{Turned, over, skipped, FitsName, FitNames}
use Rattle.bundle_merge_theory.specs.loaded.Loaded.{module_declared, module_names, IsLoadedItem}
use Rattle.bundle_merge_theory.specs.loaded.Contexts.{GivesLocal}
use Rattle.bundle_merge_theory.proofs.loaded.Noted.{IsStrange, taken-by-es}
use Rattle.bundle_merge_theory.specs.walked.Names.{idents_among}
use Rattle.bundle_merge_theory.proofs.walked.NameLemmas.{names_of-append, idents_from}
use Rattle.bundle_merge_theory.specs.loaded.Kept.{IsDeclarationTaken as HasTaker}
use Rattle.bundle_merge_theory.specs.loaded.Item.{module_start, body_start}
use Rattle.bundle_merge_theory.specs.loaded.Pieces.{inner_there}
use Rattle.bundle_merge_theory.proofs.loaded.Parts.{turned-append, fit-names}
use Rattle.bundle_merge_theory.proofs.loaded.Parameters.{tells-apart}
use Rattle.bundle_merge_theory.specs.noted.Marked.{Note}
use Rattle.bundle_merge_theory.specs.walked.Keeps.{MeantIdent, ByStep, ByMeta, meant_ident, meant_in, steps_in, notes_in, AreOfMeta}
use Rattle.bundle_merge_theory.specs.loaded.Names.{NamedAs, one_inside, of_top, of_wrapper, unbound}
use Rattle.bundle_merge_theory.specs.loaded.Walk.{KeepsIt}
use Rattle.bundle_merge_theory.proofs.loaded.Theorem.{script-imports, stands-declared}
use Rattle.bundle_merge_theory.specs.made.Given.{HookAnswer, BundleContexts, TopOf, InsideOf, NameOf, numbers_in, ident_of_label}
use Rattle.bundle_merge_theory.specs.made.Alone as a
use Rattle.bundle_merge_theory.specs.made.Alone.{IsHolder, TellApart}
use Rattle.bundle_merge_theory.proofs.called.Seated.{can-be-called}
use Rattle.bundle_merge_theory.proofs.fit.Clearing.{are_in}
use Rattle.bundle_merge_theory.specs.function.Calls.{IsLoadName, StepFor, keeps_it, calls_it}
use Rattle.bundle_merge_theory.specs.function.Pieces.{NameFor, kept_name, load_name, AllNamed, Laid, all_laid, passed, laid}
use Rattle.bundle_merge_theory.proofs.function.Parts.{IsOwnPart}
use Rattle.bundle_merge_theory.specs.made.Steps.{IsStepTo, IsCalled, IsStep, keeps, uses, calls}
use Rattle.bundle_merge_theory.specs.made.Told
use Rattle.bundle_merge_theory.specs.made.Told.{denoted_in_module, kept_ident, IsNamedFor, inside, known, IsNotedStep, AllNoted}

-- ---- contexts

-- names with different contexts do not agree
pub other_context : (x y : List ℕ) (m n : ℕ) → m ≢ n →
    names_agree (with x m) (with y n) ≡ false
other_context x y m n other = ap (λ q. bytes_eq x y && q) (ne_eqb m n other) ∙ and_false
    (bytes_eq x y)
  where
    and_false : (q : Bool) → (q && false) ≡ false
    and_false true = refl
    and_false false = refl

-- what stands at a number
pub denotes_listed : (xs : List Item) (i : ℕ) (o : Occurrence) (d : Denoted) →
    slice_get (module_names xs) i ≡ Some o →
    denoted_of BySymbol Cjs (module_declared xs) o ≡ d →
    slice_get (denotations BySymbol Cjs (tree_of_items xs)) i ≡ Some d
denotes_listed xs i o d at is =
    denotation-at Cjs (tree_of_items xs) i o (ap (λ os. slice_get os i) (item-occurrences xs) ∙ at)
    ∙ ap Some is

module _ (p : Program) (context : BundleContexts) (answers : ℕ → Option HookAnswer)
    (apart : TellApart p answers context) where
  -- a context that none of the module's own bindings has
  pub record IsForeign (c n : ℕ) : Type 0 where
    pub top : n ≢ context (TopOf c)
    pub inner : (begins : ℕ) → IsHolder p answers (InsideOf c begins) →
        n ≢ context (InsideOf c begins)

  pub load_holder : (c : ℕ) → IsReached p c → IsCommonJs p c → IsHolder p answers (NameOf (Load c))
  load_holder c reached common = a.added (Bundle.Defines c) (Bundle.defines reached common) a.defines

  pub helper_holder : (c : ℕ) → IsReached p c → IsCommonJs p c → IsHolder p answers (NameOf Helper)
  helper_holder c reached common = a.added Bundle.Helps (Bundle.helps reached common) a.helps

  pub label_foreign : (c : ℕ) → IsReached p c → (l : Label) → IsHolder p answers (NameOf l) →
      IsForeign c (context (NameOf l))
  label_foreign c reached l its = record {
    top = λ same. let e = apart.apart (NameOf l) (TopOf c) its (a.top_of reached) same in cc;
    inner =
        λ begins there same. let e = apart.apart (NameOf l)
        (InsideOf c begins) its there same in cc;
  }

  pub global_foreign : (c : ℕ) → IsReached p c → IsForeign c 1
  global_foreign c reached = record {
    top =
        λ same. let own = apart.own (TopOf c) (a.top_of reached) in omega (arith, own, same);
    inner =
        λ begins there same. let own = apart.own (InsideOf c begins) there in
        omega (arith, own, same);
  }

  -- the context of an inner scope
  pub number_inner : (c begins : ℕ) (x : List ℕ) →
      numbers_in context c (begins + 2) x ≡ context (InsideOf c begins)
  number_inner c begins x =
      ap (λ q. if q then context (TopOf c) else context (InsideOf c (begins + 2 - 2)))
      (false_from_ne_true (nat_lt (begins + 2) 2) (λ is. let lt = leb-true (suc
      (begins + 2)) 2 is in
      omega (arith, lt)))
      ∙ ap (λ k. context (InsideOf c k)) (omega arith)

  module _ (c : ℕ) (reached : IsReached p c) (common : IsCommonJs p c) (xs : List Item)
      (tree_is : tree_of p c ≡ tree_of_items xs) where
    abbrev g : Numbering
    g = numbers_in context c

    -- an inner scope in which something is denoted
    pub inner_holder : (i : ℕ) (kind : ScopeKind) (begins : ℕ) (m : Name) →
        slice_get (denotations BySymbol Cjs (tree_of_items xs)) i ≡ Some (Bound
        (Inner kind begins) m) →
        IsHolder p answers (InsideOf c begins)
    inner_holder i kind begins m at =
        a.inside_of Cjs kind m i reached (is_common_js common)
        (ap (λ t. slice_get (denotations BySymbol Cjs t) i) tree_is ∙ at)

    -- bindings of the module have other contexts
    pub scope_other : (n : ℕ) → IsForeign c n → (i : ℕ) (s : Scope) (m : Name) →
        slice_get (denotations BySymbol Cjs (tree_of_items xs)) i ≡ Some (Bound s m) →
        n ≢ g (scope_order s) m.sym
    scope_other n foreign i Top m at same = foreign.top same
    scope_other n foreign i Wrapper m at same = foreign.top same
    scope_other n foreign i (Inner kind begins) m at same =
        foreign.inner begins (inner_holder i kind begins m at) (same ∙ number_inner c begins m.sym)

    -- the contexts are local for the top and the wrapper, and one for each inner scope
    pub gives_local : (x : List ℕ) (n : ℕ) → IsForeign c n → n ≢ 1 →
        GivesLocal (context (TopOf c)) g (tree_of_items xs) (with x n)
    gives_local x n foreign other = record {
      top = λ y. refl;
      wrapper = λ y. refl;
      local_own =
          λ same. let own = apart.own (TopOf c) (a.top_of reached) in omega (arith, own, same);
      inner_own =
          λ i kind begins m at. let holder = inner_holder i kind begins m at in (
            λ same. let own = apart.own (InsideOf c begins) holder in
                let number = sym (number_inner c begins m.sym) ∙ same in
                omega (arith, own, number),
            λ same. let e =
                apart.apart (InsideOf c begins) (TopOf c) holder (a.top_of reached)
                (sym (number_inner c begins m.sym) ∙ same) in cc,
          );
      inner_one =
          λ i j kind its begins there m k at its_at same.
          let e : InsideOf c begins ≡ InsideOf c there =
          apart.apart (InsideOf c begins) (InsideOf c there) (inner_holder i kind begins m at)
          (inner_holder j its there k its_at)
          (sym (number_inner c begins m.sym) ∙ (same ∙ number_inner c there k.sym)) in cc;
      not_load =
          λ i s m at. other_context x m.sym n (g (scope_order s) m.sym)
          (scope_other n foreign i s m at);
      load_other = λ y. other_context x y n 1 other;
    }

    -- a foreign context is strange
    pub strange : {L : Ident → Type 0} {ys : List Item} (w : Turned L zero xs ys)
        (load helper m e : Ident) (its : IsLoadedItem g w load m e) (x : List ℕ) (n : ℕ) →
        IsForeign c n → IsStrange w g load helper m e its x n
    strange w load helper m e its x n foreign = record {
      bindings =
          λ i o s k at is. other_context k.sym x (g (scope_order s) k.sym) n
          (λ same. scope_other n foreign i s k (denotes_listed xs i o (Bound s k) at is)
          (sym same));
      its_module =
          other_context m.0 x m.1 n
          (λ same. foreign.top (sym same ∙ ap (λ (i : Ident). i.1) its.its_module));
      its_exports =
          other_context e.0 x e.1 n
          (λ same. foreign.top (sym same ∙ ap (λ (i : Ident). i.1) its.its_exports));
    }

-- ---- loading

-- Statements that are fit.

pub all_fit : (xs : List (List Item)) → AllByRecursion (IsFit AStmt 0) xs →
    AreFit (slot 0 Many AStmt ∷ []) (flat xs)
all_fit xs fits = last_each (each xs fits)
  where
    each : (xs : List (List Item)) → AllByRecursion (IsFit AStmt 0) xs → AreEach AStmt 0 (flat xs)
    each [] fits = ended
    each (x ∷ xs) fits = next fits.0 (each xs fits.1)

parts_fit : (xs : List (List Item)) → AllByRecursion IsOwnPart xs →
    AllByRecursion (IsFit AStmt 0) xs
parts_fit [] own = tt
parts_fit (x ∷ xs) own = (own.0.fit, parts_fit xs own.1)

each_of : {xs : List Declared} → Every IsTaken xs → Each HasTaker xs
each_of none i d at = absurd (none-some d at)
each_of (more its rest) zero d at = subst HasTaker (same_Some _ d at) its.taken
each_of (more its rest) (suc i) d at = each_of rest i d at

-- each declaration has a scope that takes it
pub all_taken : (xs : List (List Item)) → AllByRecursion IsOwnPart xs →
    Each HasTaker (module_declared (flat xs))
all_taken xs own =
    taken-by-es (flat xs)
    (each_of
    (can-be-called BySymbol (flat xs) []
    (are_in (all_fit xs (parts_fit xs own)) h.Module refl refl) callable.nothing).taken)

module _ (p : Program) (list : List ℕ) (context : BundleContexts) (c : ℕ) (ds : List Declared) where
  abbrev pub Loads : Ident → Type 0
  Loads = IsLoadName p list context

  -- all statements are turned
  abbrev pub laid_turned : {s : Spot} {parts : List (List Item)} {statements : List (List Element)}
      {bodies : List (List Item)} → Laid p list context c ds s parts statements bodies →
      Turned Loads zero (flat parts) (flat bodies)
  laid_turned all_laid = over
  laid_turned (passed rest) = skipped (laid_turned rest)
  laid_turned (laid one rest) = turned-append one.turned (laid_turned rest)

  -- their names fit
  abbrev Fit : List Occurrence → List Ident → Type 0
  Fit = FitNames Loads (numbers_in context c) ds

  named_fit : (inner : List _) (os : List Occurrence) (names : List Ident) (meants : List Meant) →
      AllNamed p list context c ds inner os names meants → Fit os names
  named_fit inner [] [] [] its = tt
  named_fit inner [] [] (meant ∷ meants) its = absurd its
  named_fit inner [] (name ∷ names) meants its = absurd its
  named_fit inner (o ∷ os) [] meants its = absurd its
  named_fit inner (o ∷ os) (name ∷ names) [] its = absurd its
  named_fit inner (o ∷ os) (name ∷ names) (meant ∷ meants) its =
      (one meant its.0, named_fit inner os names meants its.1)
    where
      one : (meant : Meant) → NameFor p list context c ds inner o name meant →
          FitsName Loads (numbers_in context c) ds o name
      one meant (kept_name is its) =
          inl (ap (λ (i : Ident). i.0) is, ap (λ (i : Ident). i.1) is)
      one meant (load_name load refers out) = inr (refers, load)

  fit_append : (os behind : List Occurrence) (names others : List Ident) → Fit os names →
      Fit behind others → Fit (os ++ behind) (names ++ others)
  fit_append [] behind [] others one two = two
  fit_append [] behind (name ∷ names) others one two = absurd one
  fit_append (o ∷ os) behind [] others one two = absurd one
  fit_append (o ∷ os) behind (name ∷ names) others one two =
      (one.0, fit_append os behind names others one.1 two)

  laid_fit : {s : Spot} {parts : List (List Item)} {statements : List (List Element)}
      {bodies : List (List Item)} → Laid p list context c ds s parts statements bodies →
      Fit (occurrences_from s (flat parts)) (idents_among (flat bodies))
  laid_fit all_laid = tt
  laid_fit (passed rest) = laid_fit rest
  laid_fit {s = s} (laid {x = x} {made = made} {parts = parts} {bodies = bodies} one rest) =
      subst (λ os. Fit os (idents_among (made ++ flat bodies)))
      (sym (occurrences_append s x (flat parts)))
      (subst (Fit (occurrences_from s x ++ occurrences_from (fold past s x) (flat parts)))
      (sym (names_of-append made (flat bodies)))
      (fit_append (occurrences_from s x) (occurrences_from (fold past s x) (flat parts))
      (idents_among made) (idents_among (flat bodies))
      (named_fit (inner_there ds s x) (occurrences_from s x) (idents_among made) one.told.0 one.each)
      (laid_fit rest)))

-- THE MODULE
pub loaded : (p : Program) (list : List ℕ) (context : BundleContexts) (answers : ℕ → Option HookAnswer)
    (apart : TellApart p answers context) (c : ℕ) (reached : IsReached p c)
    (common : IsCommonJs p c) (parts : List (List Item)) →
    AllByRecursion IsOwnPart parts →
    (tree_is : tree_of p c ≡ tree_of_items (flat parts)) →
    first_doubled Cjs (tree_of_items (flat parts)) ≡ None →
    {statements : List (List Element)} {bodies : List (List Item)}
    (its : Laid p list context c (module_declared (flat parts)) module_start parts statements
    bodies) →
    IsLoadedItem (numbers_in context c)
    (laid_turned p list context c (module_declared (flat parts)) its)
    (ident_of_label p list context (Load c)) (codes "module", context (TopOf c))
    (codes "exports", context (TopOf c))
loaded p list context answers apart c reached common parts own tree_is undoubled {bodies =
    bodies} its = record {
      has =
          fit-names (IsLoadName p list context) (numbers_in context c) (module_declared (flat parts)) w
          module_start body_start
          (subst
          (FitNames (IsLoadName p list context) (numbers_in context c)
          (module_declared (flat parts)) (occurrences_from module_start (flat parts)))
          (sym (idents_from body_start (flat bodies)))
          (laid_fit p list context c (module_declared (flat parts)) its));
      taken = taken;
      its_module = refl;
      its_exports = refl;
      apart =
          tells-apart w taken undoubled (context (TopOf c)) (numbers_in context c)
          (with (codes "load") (context (NameOf (Load c))))
          (gives_local p context answers apart c reached common (flat parts) tree_is (codes "load")
          (context (NameOf (Load c)))
          (label_foreign p context answers apart c reached (Load c) holder)
          (λ same. let one = apart.own (NameOf (Load c)) holder in omega (arith, one, same)));
    }
  where
    w : Turned (IsLoadName p list context) zero (flat parts) (flat bodies)
    w = laid_turned p list context c (module_declared (flat parts)) its

    taken : Each HasTaker (module_declared (flat parts))
    taken = all_taken parts own

    holder : IsHolder p answers (NameOf (Load c))
    holder = load_holder p context answers apart c reached common

-- ---- statement

-- A name of a CommonJS module is no use of an imported name.
pub no_use : (tree : List Item) → is_script tree ≡ true → (o : Occurrence) →
    is_use tree o ≡ true → ⊥
no_use tree script o used =
    let parts = and_parts _ _ used in
    let its = and_parts (is_some (import_of (imports_of tree) o.sym)) _ parts.1 in
    false≢true (ap (λ l. is_some (import_of l o.sym)) (sym (script-imports tree script)) ∙ its.0)

-- what keeps its symbol is not spelled out
same_short : (ident : Ident) (whole : _) (step : Step) → IsStepTo ident whole step → (x : Text) →
    ident.0 ≡ x → KeepsIt step x
same_short ident whole step it x same =
    let symbol : step.ident.0 ≡ x = ap (λ (i : Ident). i.0) it.its_ident ∙ same in
    record {
      symbol = symbol;
      short =
          it.spells step.ident.0 x ∙ ap not ((bytes_eq-Decides step.ident.0 x).1 symbol);
    }

spelled_same : (ident : Ident) (whole : _) (step : Step) → IsStepTo ident whole step → (x : Text) →
    is_spelled_out_by step.spelling step.ident.0 x ≡ false → step.ident.0 ≡ x
spelled_same ident whole step it x short =
    (bytes_eq-Decides step.ident.0 x).0 (not_false (bytes_eq step.ident.0 x) (sym
    (it.spells step.ident.0 x) ∙ short))
  where
    not_false : (b : Bool) → not b ≡ false → b ≡ true
    not_false true is = refl
    not_false false is = absurd (true≢false is)

module _ (p : Program) (list : List ℕ) (context : BundleContexts) (c : ℕ) (reached : IsReached p c)
    (common : IsCommonJs p c)
    (loads : (o : Occurrence) (d : ℕ) → IsCalled p c o d → IsReached p d × IsCommonJs p d) where
  abbrev pub ds : List Declared
  ds = declared BySymbol Cjs (tree_of p c)

  named_for : (inner : List Denoted) (o : Occurrence) (meant : Meant) (name : Ident) →
      IsNamedFor p list context c Cjs inner o meant name →
      name ≡ kept_ident p context c Cjs o →
      ((l : Label) → meant ≡ Known l → OwnName p c (denoted_in_module p c Cjs o) l) →
      NameFor p list context c ds inner o name meant
  named_for inner o (Inside k) name (inside found within) is stands =
      kept_name is (one_inside found within)
  named_for inner o (Known l) name (known out meant) is stands =
      kept_name is (by (denoted_in_module p c Cjs o) l (stands l refl))
    where
      by : (d : Denoted) (l : Label) → OwnName p c d l → NamedAs c inner d (Known l)
      by d l (Meaning.at_top {x = x} {t = target} its) =
          subst (λ q. NamedAs c inner (Bound Top (plain x)) (Known (Of q)))
          (sym (stands-declared p c x target (script-imports (tree_of p c) common.script) its))
          of_top
      by d l Meaning.parameter = of_wrapper
  named_for inner o (Unbound x) name (Told.unbound global) is stands =
      kept_name is (subst (λ d. NamedAs c inner d (Unbound x)) (sym global) unbound)

  -- ONE NAME
  pub one_name : (inner : List Denoted) (o : Occurrence) (step : Step) (note : Note) →
      IsStep p list context c Cjs o step →
      IsNotedStep p list context c Cjs inner o step note →
      StepFor p list context c o step
      × NameFor p list context c ds inner o step.ident note.meant
  one_name inner o step note (uses used to) noted =
      absurd (no_use (tree_of p c) common.script o used.used)
  one_name inner o step note (keeps unused uncalled to) noted =
      let alone : note.whole ≡ TheVariants.Alone = sym noted.is.its_whole ∙ to.its_whole in (
        keeps_it uncalled (same_short _ _ step to o.sym refl) to.its_whole,
        named_for inner o note.meant step.ident noted.named to.its_ident
            (λ l is. noted.stands l is alone),
      )
  one_name inner o step note (calls {c = d} called to) noted =
      let whole : note.whole ≡ TheVariants.Call = sym noted.is.its_whole ∙ to.its_whole in
      let there = loads o d called in
      let load : IsLoadName p list context step.ident =
      record {
        which = d;
        reached = there.0;
        common_js = there.1;
        is = to.its_ident;
      } in
      let refers : is_binding o.role ≡ false =
      not_so (is_binding o.role) (λ is. let other : TheVariants.Call ≡ TheVariants.Alone =
      sym to.its_whole ∙ (noted.binds is).its_whole in cc) in
      let out : is_inside 0 (denoted_in_module p c Cjs o) ≡ false =
      not_so (is_inside 0 (denoted_in_module p c Cjs o)) (λ is. let other : TheVariants.Call ≡ TheVariants.Alone =
      sym whole ∙ noted.alone is in cc) in (
        calls_it called refers load to.its_whole (spelled_same _ _ step to o.sym),
        subst (NameFor p list context c ds inner o step.ident) (sym (noted.calls d called))
            (load_name load refers out),
      )
    where
      not_so : (b : Bool) → (b ≡ true → ⊥) → b ≡ false
      not_so true never = absurd (never refl)
      not_so false never = refl

  abbrev step_ident : Step → Ident
  step_ident step = step.ident

  abbrev note_meant : Note → Meant
  note_meant note = note.meant

  -- ALL NAMES
  pub all_names : (inner : List Denoted) (os : List Occurrence) (steps : List Step)
      (notes : List Note) → AllZip (IsStep p list context c Cjs) os steps →
      AllNoted p list context c Cjs inner os steps notes →
      AllZip (StepFor p list context c) os steps
      × AllNamed p list context c ds inner os (map step_ident steps) (map note_meant notes)
  all_names inner [] [] [] each noted = (tt, tt)
  all_names inner [] [] (note ∷ notes) each noted = absurd noted
  all_names inner [] (step ∷ steps) notes each noted = absurd each
  all_names inner (o ∷ os) [] notes each noted = absurd each
  all_names inner (o ∷ os) (step ∷ steps) [] each noted = absurd noted
  all_names inner (o ∷ os) (step ∷ steps) (note ∷ notes) each noted =
      let one = one_name inner o step note each.0 noted.0 in
      let rest = all_names inner os steps notes each.1 noted.1 in
      ((one.0, rest.0), (one.1, rest.1))

-- No `import.meta` stands in it.

pub no_meta : (meta : Option Meant) (entries : List MeantIdent) → AreOfMeta None meta entries →
    (map meant_ident entries ≡ map (λ (step : Step). step.ident) (steps_in entries))
    × (map meant_in entries ≡ map (λ (note : Note). note.meant) (notes_in entries))
no_meta meta [] its = (refl, refl)
no_meta meta (ByStep step note ∷ entries) its =
    let rest = no_meta meta entries its in
    (ap (λ l. step.ident ∷ l) rest.0, ap (λ l. note.meant ∷ l) rest.1)
no_meta meta (ByMeta ident meant ∷ entries) its = absurd (none-some ident its.0)
