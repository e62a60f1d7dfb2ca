-- What stands in front of the statements in a load function, by itself.
-- Symbols and contexts tell the inner bindings of a load function's item apart, whatever stands
-- beside it.
use Rattle.std.proofs.Common.{◌≡◌, ℕ, zero, false, List, Option, inl, inr, refl, sym, subst, codes, ◌↔◌, suc, ◌⊎◌, true, cond, ◌∷◌, Some, None, slice_get, ap, ◌∙◌, eq-eqb, eqb-true}
use Rattle.std.specs.List.{AllZip}
use Rattle.std.proofs.lemmas.Bool.{false≢true}
use Rattle.std.proofs.lemmas.Option.{same_Some}
use Rattle.std.proofs.lemmas.Slice.Eq.{bytes_eq-Decides}
use Rattle.bundle_syntax.specs.Item.{Item}
use Rattle.bundle_rules.specs.Places.{occurrences_from, start, Occurrence, is_binding}
use Rattle.bundle_rules.specs.Homes.{is_arguments, is_declared_in, declares}
use Rattle.bundle_rules.specs.Idents.{Ident}
use Rattle.bundle_rules.specs.Parts.{tree_of_items}
use Rattle.bundle_rules.specs.Program.{Program, tree_of, IsReached}
use Rattle.bundle_rules.specs.Linking.{IsCommonJs}
use Rattle.bundle_rules.specs.Meaning.{Label, Load, Helper}
use Rattle.bundle_rules.specs.Scopes.{Cjs, Scope, Wrapper, Inner, Parameters, scope_order}
use Rattle.bundle_rules.specs.Declarations.{BySymbol, Name, names_agree, Declared}
use Rattle.bundle_rules.specs.Denotes.{Denoted, Bound, denoted_of, denotations, SameIdent}
use Rattle.bundle_rules.specs.Symbols.{denoted_symbol}
use Rattle.bundle_rules.specs.Bundle
use Rattle.bundle_scope_names.proofs.Numbering.{Numbering, context_of}
use Rattle.bundle_scope_names.proofs.HomesLemmas.{list_any-here, names_agree-by_symbol}
use Rattle.bundle_scope_names.proofs.FoundLemmas.{plain, with}
use Rattle.bundle_scope_names.proofs.TreeLemmas.{denotation-at, IsFor, denoted-for, DenotesOf, denoted-known, same-of, kind_in, occurrences-known}
use Rattle.bundle_merge_theory.specs.joined.Notes.{own_denoted, is_inner_denoted, IsListedIn, IsResolvedInside}
use Rattle.bundle_merge_theory.specs.loaded.Turned.{Turned, NodeGoes}
use Rattle.bundle_merge_theory.specs.loaded.Item.{front_items, load_item, helper_name, load_name, parameter_name}
use Rattle.bundle_merge_theory.specs.loaded.Loaded.{IsLoadedItem, module_declared, module_names, body_names}
use Rattle.bundle_merge_theory.specs.loaded.Contexts.{parameter_entry}
use Rattle.bundle_merge_theory.proofs.loaded.Noted.{IsStrange, strange-outside, strange-own, NamedHere, of_kept, of_changed, named-here, occurrences-item, declared-module}
use Rattle.bundle_merge_theory.proofs.joined.Paths.{item-occurrences}
use Rattle.bundle_merge_theory.specs.loaded.Framed.{IsFrame, Beside, top, wrapper, inner}
use Rattle.bundle_merge_theory.specs.loaded.Kept.{DenotedBeside, globals, bindings, KeepsName}
use Rattle.bundle_merge_theory.proofs.loaded.Pieces.{turned-frame}
use Rattle.bundle_merge_theory.proofs.loaded.Beside.{same-beside}
use Rattle.bundle_merge_theory.proofs.joined.Bindings.{scope_in}
use Rattle.bundle_merge_theory.proofs.joined.Notes.{agrees-itself}
use Rattle.bundle_merge_theory.specs.composed.Noted.{first_spot}
use Rattle.bundle_merge_theory.specs.composed.Functions.{function_names}
use Rattle.bundle_merge_theory.specs.made.Given.{HookAnswer, BundleContexts, TopOf, NameOf, numbers_in, ident_of_label}
use Rattle.bundle_merge_theory.specs.made.Alone
use Rattle.bundle_merge_theory.specs.made.Alone.{IsTopLabel, TellApart, FrontAlone}
use Rattle.bundle_merge_theory.specs.function.Calls.{IsLoadName}
use Rattle.bundle_merge_theory.proofs.function.Statement.{load_holder, helper_holder, label_foreign, global_foreign, strange}
use Rattle.bundle_merge_theory.proofs.function.Strange.{AreStrange}
use Rattle.bundle_merge_theory.proofs.function.Naming.{load_top}

-- ---- front
module _ (p : Program) (list : List ℕ) (context : BundleContexts) (answers : ℕ → Option HookAnswer)
    (apart : TellApart p answers context) (c : ℕ) (reached : IsReached p c)
    (common : IsCommonJs p c) {xs ys : List Item} (tree_is : tree_of p c ≡ tree_of_items xs)
    (w : Turned (IsLoadName p list context) zero xs ys) where
  abbrev pub load : Ident
  load = ident_of_label p list context (Load c)

  abbrev pub helper : Ident
  helper = ident_of_label p list context Helper

  abbrev pub own_module_name : Ident
  own_module_name = (codes "module", context (TopOf c))

  abbrev pub own_exports_name : Ident
  own_exports_name = (codes "exports", context (TopOf c))

  module _ (its : IsLoadedItem (numbers_in context c) w load own_module_name own_exports_name) where
    strange_label : (l : Label) → Alone.IsHolder p answers (NameOf l) → (x : List ℕ) →
        IsStrange w (numbers_in context c) load helper own_module_name own_exports_name its x
        (context (NameOf l))
    strange_label l holder x =
        strange p context answers apart c reached common xs tree_is w load helper own_module_name
        own_exports_name its x (context (NameOf l))
        (label_foreign p context answers apart c reached l holder)

    -- the names that are none of the module's have other contexts
    pub are_strange : AreStrange w (numbers_in context c) load helper own_module_name
        own_exports_name its
    are_strange = record {
      load_strange =
          strange_label (Load c) (load_holder p context answers apart c reached common)
          (codes "load");
      helper_strange =
          strange_label Helper (helper_holder p context answers apart c reached common) helper.0;
      helper_other = refl;
      called_known =
          λ name calls. subst
          (λ (i : Ident).
          IsStrange w (numbers_in context c) load helper own_module_name own_exports_name its i.0
          i.1 × (is_arguments i.0 ≡ false))
          (sym calls.is) (
            strange_label (Load calls.which)
                (load_holder p context answers apart calls.which calls.reached calls.common_js)
                (codes "load"),
            refl,
          );
      global_strange =
          λ x. strange p context answers apart c reached common xs tree_is w load helper
          own_module_name own_exports_name its x 1
          (global_foreign p context answers apart c reached);
    }

    helper_top : IsTopLabel p Helper
    helper_top = record {
      cause = Bundle.Helps;
      due = Bundle.helps reached common;
      declares = Alone.adds Alone.helps;
    }

    helper_outside : is_inner_denoted (own_denoted (load_item load helper own_module_name own_exports_name
        ys)
        (helper_name helper)) ≡ false
    helper_outside =
        strange-own w (numbers_in context c) load helper own_module_name own_exports_name its
        helper.0
        helper.1 are_strange.helper_strange are_strange.helper_other (helper_name helper) refl refl
        refl

    -- IN FRONT
    pub front-alone : AllZip
        (FrontAlone p list context answers (Bundle.Defines c)
        (load_item load helper own_module_name own_exports_name ys))
        (occurrences_from first_spot (front_items load helper own_module_name own_exports_name))
        (function_names c)
    front-alone = (
      Alone.of_top
          (strange-outside w (numbers_in context c) load helper own_module_name own_exports_name its
          load.0 load.1 are_strange.load_strange) (λ d same. refl) (load_top p c reached common)
          refl,
      (
        Alone.of_top
            (strange-outside w (numbers_in context c) load helper own_module_name own_exports_name
            its helper.0 helper.1 are_strange.helper_strange) (λ d same. helper_outside)
            helper_top refl,
        (
          Alone.of_function refl refl refl (λ d x same. cc) (parameter_entry (codes "module")
              (inl refl)),
          (
            Alone.of_function refl refl refl (λ d x same. cc)
                (parameter_entry (codes "exports") (inr refl)),
            tt,
          ),
        ),
      ),
    )

-- ---- resolving

-- the scope beside another is one
beside-one : {R : ℕ → ℕ → Type 0} → IsFrame R → {s t u : Scope} → Beside R s t → Beside R s u →
    t ≡ u
beside-one frame top top = refl
beside-one frame wrapper wrapper = refl
beside-one frame (inner {kind = kind} {a = a} {b = b} r) (inner {b = c} q) =
    ap (Inner kind) (frame.one a b c r q)

module _ {L : Ident → Type 0} {xs ys : List Item} (w : Turned L zero xs ys) (g : Numbering)
    (load helper m e : Ident) (its : IsLoadedItem g w load m e)
    (known : AreStrange w g load helper m e its) where
  abbrev ds : List Declared
  ds = module_declared xs

  abbrev R : ℕ → ℕ → Type 0
  R = NodeGoes w 1 22

  abbrev item : List Item
  item = load_item load helper m e ys

  abbrev its_context : Scope → List ℕ → Option ℕ
  its_context s x = cond (declares ds s (plain x)) (Some (g (scope_order s) x)) None

  -- where an inner binding comes from
  data Origin (s : Scope) (x : List ℕ) : Type 0 where
    by_name : (i : ℕ) (o : Occurrence) → slice_get (module_names xs) i ≡ Some o →
        denoted_of BySymbol Cjs ds o ≡ Bound s (plain x) → Origin s x
    by_parameter : s ≡ Wrapper → (x ≡ codes "module") ⊎ (x ≡ codes "exports") → Origin s x

  record InnerHere (a : Occurrence) : Type 0 where
    s : Scope
    t : Scope
    beside : Beside R s t
    denotes : own_denoted item a ≡ Bound t (record { sym = a.sym; ctxt = its_context s a.sym })
    number : a.ctxt ≡ g (scope_order s) a.sym
    origin : Origin s a.sym

  data Kind (a : Occurrence) : Type 0 where
    is_inside : InnerHere a → Kind a
    is_outside : is_inner_denoted (own_denoted item a) ≡ false →
        IsStrange w g load helper m e its a.sym a.ctxt → Kind a

  parameter-declared : (x : List ℕ) → (x ≡ codes "module") ⊎ (x ≡ codes "exports") →
      declares ds Wrapper (plain x) ≡ true
  parameter-declared x which = elim which [
    | inl is ↦ list_any-here (is_declared_in ds Wrapper (plain x)) ds 0 _
        (ap (λ list. slice_get list 0) (declared-module w))
        (names_agree-by_symbol (plain (codes "module")) (plain x) refl
        ∙ (bytes_eq-Decides (codes "module") x).1 (sym is))
    | inr is ↦ list_any-here (is_declared_in ds Wrapper (plain x)) ds 1 _
        (ap (λ list. slice_get list 1) (declared-module w))
        (names_agree-by_symbol (plain (codes "exports")) (plain x) refl
        ∙ (bytes_eq-Decides (codes "exports") x).1 (sym is))
  ]

  kind-parameter : (place pattern begins : ℕ) (name : Ident) (x : List ℕ) →
      (x ≡ codes "module") ⊎ (x ≡ codes "exports") → name ≡ (x, g 0 x) →
      Kind (parameter_name place pattern begins name)
  kind-parameter place pattern begins name x which is =
      let symbol : name.0 ≡ x = ap (λ (i : Ident). i.0) is in
      let number : name.1 ≡ g 0 name.0 = ap (λ (i : Ident). i.1) is ∙ ap (g 0) (sym symbol) in
      let which_name : (name.0 ≡ codes "module") ⊎ (name.0 ≡ codes "exports") =
      subst (λ y. (y ≡ codes "module") ⊎ (y ≡ codes "exports")) (sym symbol) which in
      is_inside (record {
        s = Wrapper;
        t = Inner Parameters 10;
        beside = wrapper;
        denotes =
            λ k. Bound (Inner Parameters 10)
            (record {
              sym = name.0;
              ctxt = (ap Some number
                  ∙ sym (ap (λ b. cond b (Some (g 0 name.0)) None)
                  (parameter-declared name.0 which_name))) k;
            });
        number = number;
        origin = by_parameter refl which_name;
      })

  kind-kept : (i : ℕ) (o u : Occurrence) → slice_get (module_names xs) i ≡ Some o →
      KeepsName g ds o u → (d v : Denoted) → denoted_of BySymbol Cjs ds o ≡ d →
      own_denoted item u ≡ v → DenotedBeside R g ds d v → IsFor o.sym d → Kind u
  kind-kept i o u at keeps d v is there globals its_for =
      let one : u.ctxt ≡ 1 = keeps.ctxt ∙ ap (context_of g) is in
      is_outside (ap is_inner_denoted there)
      (subst (IsStrange w g load helper m e its u.sym) (sym one) (known.global_strange u.sym))
  kind-kept i o u at keeps d v is there (bindings {s = s} {t = t} {x = y} beside) its_for =
      let symbol : y ≡ u.sym = ap (λ (k : Name). k.sym) its_for ∙ sym keeps.symbol in
      is_inside (record {
        s = s;
        t = t;
        beside = beside;
        denotes = there ∙ ap (λ z. Bound t (record { sym = z; ctxt = its_context s z })) symbol;
        number = keeps.ctxt ∙ (ap (context_of g) is ∙ ap (g (scope_order s)) symbol);
        origin = by_name i o at (is ∙ ap (λ z. Bound s (plain z)) symbol);
      })

  kind-of : (a : Occurrence) → IsListedIn item a → Kind a
  kind-of a (i, at) =
      by i (sym (ap (λ os. slice_get os i) (occurrences-item w g load helper m e its)) ∙ at)
    where
      by : (i : ℕ) →
          slice_get (load_name load ∷ helper_name helper ∷ parameter_name 13 12 11 m
          ∷ parameter_name 18 17 16 e ∷ body_names ys) i ≡ Some a →
          Kind a
      by zero at =
          subst Kind (same_Some (load_name load) a at) (is_outside refl known.load_strange)
      by (suc zero) at =
          subst Kind (same_Some (helper_name helper) a at)
          (is_outside (strange-own w g load helper m e its helper.0 helper.1
          known.helper_strange known.helper_other (helper_name helper) refl refl refl)
          known.helper_strange)
      by (suc (suc zero)) at =
          subst Kind (same_Some (parameter_name 13 12 11 m) a at)
          (kind-parameter 13 12 11 m (codes "module") (inl refl) its.its_module)
      by (suc (suc (suc zero))) at =
          subst Kind (same_Some (parameter_name 18 17 16 e) a at)
          (kind-parameter 18 17 16 e (codes "exports") (inr refl) its.its_exports)
      by (suc (suc (suc (suc j)))) at = of_name (named-here w g load helper m e its j a at)
        where
          of_name : NamedHere w g load helper m e its a → Kind a
          of_name (of_kept i o there stands keeps beside) =
              kind-kept i o a there keeps (denoted_of BySymbol Cjs ds o) (own_denoted item a) refl
              refl beside (denoted-for Cjs ds o)
          of_name (of_changed o stands refers calls) =
              let facts = known.called_known (a.sym, a.ctxt) calls in
              is_outside (strange-own w g load helper m e its a.sym a.ctxt facts.0 facts.1 a
              refl refl (ap is_binding stands.role ∙ refers)) facts.0

  denotes-listed : (i : ℕ) (o : Occurrence) (d : Denoted) →
      slice_get (module_names xs) i ≡ Some o → denoted_of BySymbol Cjs ds o ≡ d →
      slice_get (denotations BySymbol Cjs (tree_of_items xs)) i ≡ Some d
  denotes-listed i o d at is =
      denotation-at Cjs (tree_of_items xs) i o (ap (λ os. slice_get os i) (item-occurrences xs)
      ∙ at)
      ∙ ap Some is

  scope-known : (i : ℕ) (o : Occurrence) (d : Denoted) → slice_get (module_names xs) i ≡ Some o →
      denoted_of BySymbol Cjs ds o ≡ d → DenotesOf (kind_in start (tree_of_items xs)) d
  scope-known i o d at is =
      subst (DenotesOf (kind_in start (tree_of_items xs))) is
      (denoted-known (kind_in start (tree_of_items xs)) Cjs ds o
      (occurrences-known (tree_of_items xs) i o
      (ap (λ os. slice_get os i) (item-occurrences xs) ∙ at)))

  same-origin : (s t : Scope) (x y : List ℕ) → Origin s x → Origin t y → x ≡ y →
      g (scope_order s) x ≡ g (scope_order t) y → s ≡ t
  same-origin s t x y (by_name i o at is) (by_name j q there its_is) same numbers =
      same-of (kind_in start (tree_of_items xs)) s t (scope-known i o (Bound s (plain x)) at is)
      (scope-known j q (Bound t (plain y)) there its_is)
      (its.apart.apart i j s t (plain x) (plain y) (denotes-listed i o (Bound s (plain x)) at is)
      (denotes-listed j q (Bound t (plain y)) there its_is) same numbers)
  same-origin s t x y (by_name i o at is) (by_parameter wrapped which) same numbers =
      its.apart.parameters i s (plain x) (denotes-listed i o (Bound s (plain x)) at is)
      (subst (λ z. (z ≡ codes "module") ⊎ (z ≡ codes "exports")) (sym same) which)
      (ap (g 0) same ∙ (ap (λ z. g (scope_order z) y) (sym wrapped) ∙ sym numbers))
      ∙ sym wrapped
  same-origin s t x y (by_parameter wrapped which) (by_name j q there its_is) same numbers =
      wrapped
      ∙ sym (its.apart.parameters j t (plain y)
      (denotes-listed j q (Bound t (plain y)) there its_is)
      (subst (λ z. (z ≡ codes "module") ⊎ (z ≡ codes "exports")) same which)
      (ap (g 0) (sym same) ∙ (ap (λ z. g (scope_order z) x) (sym wrapped) ∙ numbers)))
  same-origin s t x y (by_parameter wrapped which) (by_parameter other its_which) same numbers =
      wrapped ∙ sym other

  -- what is inside has no strange name
  not-strange : (x : List ℕ) (c : ℕ) (s : Scope) → Origin s x → c ≡ g (scope_order s) x →
      IsStrange w g load helper m e its x c → ⊥
  not-strange x c s (by_name i o at is) number strange =
      false≢true (sym (strange.bindings i o s (plain x) at is)
      ∙ (ap (λ k. names_agree (with x k) (with x c)) (sym number) ∙ agrees-itself x c))
  not-strange x c s (by_parameter wrapped (inl which)) number strange =
      let name : (x, c) ≡ m =
      (λ k. (which k, (number ∙ (ap (λ z. g (scope_order z) x) wrapped ∙ ap (g 0) which)) k))
      ∙ sym its.its_module in
      false≢true (sym strange.its_module
      ∙ (ap (λ (i : Ident). names_agree (with i.0 i.1) (with x c)) (sym name)
      ∙ agrees-itself x c))
  not-strange x c s (by_parameter wrapped (inr which)) number strange =
      let name : (x, c) ≡ e =
      (λ k. (which k, (number ∙ (ap (λ z. g (scope_order z) x) wrapped ∙ ap (g 0) which)) k))
      ∙ sym its.its_exports in
      false≢true (sym strange.its_exports
      ∙ (ap (λ (i : Ident). names_agree (with i.0 i.1) (with x c)) (sym name)
      ∙ agrees-itself x c))

  -- TOLD APART inside
  pub resolved-inside : IsResolvedInside item
  resolved-inside =
      record { same = λ a b first second is. by a b (kind-of a first) (kind-of b second) is }
    where
      by : (a b : Occurrence) → Kind a → Kind b → is_inner_denoted (own_denoted item a) ≡ true →
          SameIdent a b ↔ (own_denoted item a ≡ own_denoted item b)
      by a b (is_outside out strange) second is = absurd (false≢true (sym out ∙ is))
      by a b (is_inside i) (is_outside out strange) is = (
        λ same. absurd (not-strange a.sym a.ctxt (i.s) (i.origin) (i.number)
            ((subst (IsStrange w g load helper m e its a.sym) (sym same.1))
            ((subst (λ y. IsStrange w g load helper m e its y b.ctxt)) (sym same.0) strange))),
        λ same. absurd (false≢true (sym out ∙ (ap is_inner_denoted (sym same) ∙ is))),
      )
      by a b (is_inside i) (is_inside j) is = (
        λ same. let scopes : i.s
            ≡ j.s = same-origin (i.s) (j.s) a.sym b.sym (i.origin) (j.origin) same.0
            (sym (i.number) ∙ (same.1 ∙ j.number)) in
            let there : i.t ≡ j.t =
            beside-one (turned-frame w) (subst (λ z. Beside R z (i.t)) scopes (i.beside))
            (j.beside) in
            i.denotes
            ∙ ((λ k. Bound (there k)
            (record { sym = same.0 k; ctxt = its_context (scopes k) (same.0 k) }))
            ∙ sym (j.denotes)),
        λ same. let both : Bound (i.t) (record { sym = a.sym; ctxt = its_context (i.s) a.sym })
            ≡ Bound (j.t) (record { sym = b.sym; ctxt = its_context (j.s) b.sym }) =
            sym (i.denotes) ∙ (same ∙ j.denotes) in
            let there : i.t ≡ j.t = ap scope_in both in
            let symbol : a.sym ≡ b.sym = ap denoted_symbol both in
            let order : scope_order (i.s) ≡ scope_order (j.s) =
            eqb-true (scope_order (i.s)) (scope_order (j.s))
            (sym (same-beside R (turned-frame w) (i.beside) (j.beside))
            ∙ eq-eqb (scope_order (i.t)) (scope_order (j.t)) (ap scope_order there)) in
            (symbol, i.number ∙ ((λ k. g (order k) (symbol k)) ∙ sym (j.number))),
      )
