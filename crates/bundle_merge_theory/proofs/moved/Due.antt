-- What a name stands for, and what is replaced, in programs that are one but for the numbers of
-- their modules.
-- What is due in programs that are one but for the numbers of their modules.
use Rattle.std.proofs.Common.{◌≡◌, ℕ, suc, true, List, Some, None, Contains, refl, sym, ap, ap₂, subst, ◌↔◌, length, map, ◌∙◌}
use Rattle.std.specs.Prelude.{slice_get, ◌<◌, IsTrue}
use Rattle.bundle_syntax.specs.Item.{Item}
use Rattle.bundle_rules.specs.Scopes.{ModuleKind, Es, Top, Wrapper}
use Rattle.bundle_rules.specs.Declarations.{BySymbol}
use Rattle.bundle_rules.specs.Denotes.{Denoted, Bound, denoted_at}
use Rattle.bundle_rules.specs.Nodes.{Text}
use Rattle.bundle_rules.specs.Bound.{top_names}
use Rattle.bundle_rules.specs.Entries.{RequireCall, Named, Whole, declared_requests, has_import_meta}
use Rattle.bundle_rules.specs.Program.{Program, tree_of, IsReached}
use Rattle.bundle_rules.specs.Linking as l
use Rattle.bundle_rules.specs.Linking.{Target, Declared, Namespace, CommonJs, StandsFor, Linked, IsCommonJs, External, IsLinked}
use Rattle.bundle_rules.specs.Reads.{read_word}
use Rattle.bundle_rules.specs.Meaning
use Rattle.bundle_rules.specs.Meaning.{Label, Of, Parameter, Load, Meta, Replacement, ReadsAs, Replaced, OwnName, HasKind, IsMeant, is_meta_at, plain}
use Rattle.bundle_rules.specs.Statements.{own_statements}
use Rattle.bundle_rules.specs.Bundle
use Rattle.bundle_rules.specs.Bundle.{Cause, Own, ImportsNames, ImportsWhole, ImportsNothing, Helps, Defines, Loads, HoldsMeta, HoldsNamespace, Stars, Exports, Form, IsUsed, AsksCommonJs, IsDue}
use Rattle.bundle_link_index.proofs.ProgramLemmas.{map_back, map_on}
use Rattle.bundle_link_targets.proofs.StageLemmas.{map_at as mapped-at}
use Rattle.bundle_link.specs.Alike.{IsAlike}
use Rattle.bundle_link.proofs.AlikeLemmas
use Rattle.bundle_link.proofs.AlikeLemmas.{AlikeTarget, flip, binds_on, called_on, common_js_on, linked_on, module_on, same_calls, takes_on, declared_on, reached_on, same_outside}
use Rattle.bundle_link.proofs.LeadLemmas.{bound_asks}
use Rattle.bundle_link.proofs.MeantLemmas
use Rattle.bundle_link.proofs.MeantLemmas.{AlikeLabel, meant_on, target_namespace as target-space, namespace_there}
use Rattle.bundle_merge_theory.specs.moved.Renumbered.{target_by, label_by, replacement_by, cause_by}
use Rattle.bundle_merge_theory.proofs.planned.RequestLemmas.{outside_on}
use Rattle.bundle_merge_theory.proofs.planned.OrderLemmas.{contains-get}
use Rattle.bundle_merge_theory.proofs.moved.Owed.{AreRenamed, EachModule}

-- ---- targets
module _ (p q : Program) (R : ℕ → ℕ → Type 0) (w : IsAlike p q R) where
  stands-on : {c : ℕ} {x : Text} {t : Target} → StandsFor p c x t → (d : ℕ) → R c d →
      (u : Target) × AlikeTarget R t u × StandsFor q d x u
  stands-on {c = c} {x = x} (l.declared there none) d r = (
    Declared d x,
    AlikeLemmas.declared r,
    l.declared
        (subst (λ (tree : List Item). Contains (top_names tree) x) (w.tree c d r) there)
        (binds_on p q R w c d x None r none),
  )
  stands-on {c = c} {x = x} {t = t} (l.imported {y = y} {d = e} entry bound taken leads linked)
      d r =
      let its =
      module_on p q R w c d e entry.specifier r (bound_asks (tree_of p c) x entry bound) leads in
      let on = linked_on p q R w e its.0 y t its.1 linked in (
        on.0,
        on.1,
        l.imported entry (binds_on p q R w c d x (Some entry) r bound) taken its.2 on.2,
      )
  stands-on {c = c} {x = x} (l.taken_whole entry bound takes) d r =
      let on = takes_on p q R w takes d r (bound_asks (tree_of p c) x entry bound) in
      (on.0, on.1, l.taken_whole entry (binds_on p q R w c d x (Some entry) r bound) on.2)

  -- what is read; here the relation is needed, as the module of a namespace is gone on with
  reads-on : {c place : ℕ} {t : Target} → ReadsAs p c place t → (d : ℕ) → R c d →
      (u : Target) × AlikeTarget R t u × ReadsAs q d place u
  reads-on {c = c} {place = place} (Meaning.by_name {x = x} {t = t} denotes stands) d r =
      let on = stands-on stands d r in (
        on.0,
        on.1,
        Meaning.by_name
            (subst
            (λ (tree : List Item). denoted_at BySymbol Es tree place ≡ Some (Bound Top (plain x)))
            (w.tree c d r) denotes) on.2,
      )
  reads-on {c = c} {place = place} (Meaning.by_read {d = e} {x = x} {t = t} word reads linked) d r =
      let its = reads-on reads d r in
      let space = target-space its.1 e refl in
      let on = linked_on p q R w e space.0 x t space.2 linked in (
        on.0,
        on.1,
        Meaning.by_read
            (subst (λ (tree : List Item). read_word tree place ≡ Some x) (w.tree c d r) word)
            (subst (ReadsAs q d (suc place)) space.1 its.2) on.2,
      )

module _ (R : ℕ → ℕ → Type 0) (name : ℕ → ℕ) (names : (a b : ℕ) → R a b → name a ≡ b) where
  -- what is alike is renumbered
  pub target-is : {t u : Target} → AlikeTarget R t u → u ≡ target_by name t
  target-is (AlikeLemmas.declared {a = a} {b = b} {x = x} r) = ap (λ m. Declared m x) (sym (names a b r))
  target-is (AlikeLemmas.namespace {a = a} {b = b} r) = ap Namespace (sym (names a b r))
  target-is AlikeLemmas.external = refl
  target-is (AlikeLemmas.common_js {a = a} {b = b} {c = c} {d = d} {what = what} r h) =
      ap₂ (λ m n. CommonJs m n what) (sym (names a b r)) (sym (names c d h))

  pub label-is : {n o : Label} → AlikeLabel R n o → o ≡ label_by name n
  label-is (MeantLemmas.of alike) = ap Of (target-is alike)
  label-is (MeantLemmas.parameter {a = c} {b = d} {x = x} r) = ap (λ m. Parameter m x) (sym (names c d r))
  label-is (MeantLemmas.load {a = c} {b = d} r) = ap Load (sym (names c d r))
  label-is (MeantLemmas.meta {a = c} {b = d} r) = ap Meta (sym (names c d r))
  label-is MeantLemmas.helper = refl

  module _ (p q : Program) (w : IsAlike p q R) where
    pub linked-by : (c d : ℕ) (x : Text) (t : Target) → R c d → Linked p c x t →
        Linked q d x (target_by name t)
    linked-by c d x t r linked =
        let on = linked_on p q R w c d x t r linked in
        subst (Linked q d x) (target-is on.1) on.2

    -- what a name of the top stands for
    pub stands-by : {c : ℕ} {x : Text} {t : Target} → StandsFor p c x t → (d : ℕ) → R c d →
        StandsFor q d x (target_by name t)
    stands-by {x = x} stands d r =
        let on = stands-on p q R w stands d r in subst (StandsFor q d x) (target-is on.1) on.2

    pub replaced-by : {c place : ℕ} {by : Replacement} → Replaced p c place by → (d : ℕ) →
        R c d → Replaced q d place (replacement_by name by)
    replaced-by {c = c} {place = place} (Meaning.static_read {x = x} {t = t} word reads) d r =
        let on = reads-on p q R w reads d r in
        Meaning.static_read
        (subst (λ (tree : List Item). read_word tree place ≡ Some x) (w.tree c d r) word)
        (subst (ReadsAs q d place) (target-is on.1) on.2)
    replaced-by {c = c} {place = place} (Meaning.import_meta is) d r =
        subst (λ n. Replaced q d place (Meaning.ByName (Meta n))) (sym (names c d r))
        (Meaning.import_meta
        (subst (λ (tree : List Item). is_meta_at (slice_get tree place) ≡ true) (w.tree c d r)
        is))
    replaced-by {c = c} {place = place} (Meaning.require_call {c = e} call stands at leads) d r =
        let on = called_on p q R w c d e call r stands leads in
        subst (λ n. Replaced q d place (Meaning.ByCall (Load n))) (sym (names e on.0 on.1))
        (Meaning.require_call call
        (subst (λ (calls : List RequireCall). Contains calls call) (same_calls p q R w c d r)
        stands) at on.2)

    -- what a binding stands for
    pub own-by : {c : ℕ} {e : Denoted} {n : Label} → OwnName p c e n → (d : ℕ) → R c d →
        OwnName q d e (label_by name n)
    own-by (Meaning.at_top stands) d r = Meaning.at_top (stands-by stands d r)
    own-by {c = c} (Meaning.parameter {x = x}) d r =
        subst (λ n. OwnName q d (Bound Wrapper (plain x)) (Parameter n x)) (sym (names c d r))
        Meaning.parameter

    pub kind-by : {c : ℕ} {kind : ModuleKind} → HasKind p c kind → (d : ℕ) → R c d →
        HasKind q d kind
    kind-by {c = c} (Meaning.is_es es) d r =
        Meaning.is_es (λ common. es (common_js_on q p (λ a b. R b a) (flip w) d c r common))
    kind-by {c = c} (Meaning.is_common_js common) d r =
        Meaning.is_common_js (common_js_on p q R w c d r common)

    -- what is meant
    pub meant-by : (n : Label) → IsMeant p n → IsMeant q (label_by name n)
    meant-by n meant =
        let on = meant_on p q R w meant in
        subst (IsMeant q) (label-is on.1) on.2

-- what is replaced on the one side is replaced on the other by something
module _ (p q : Program) (R : ℕ → ℕ → Type 0) (w : IsAlike p q R) where
  pub replaced_there : {c place : ℕ} {by : Replacement} → Replaced p c place by → (d : ℕ) →
      R c d → (its : Replacement) × Replaced q d place its
  replaced_there {c = c} {place = place} (Meaning.static_read {x = x} {t = t} word reads) d r =
      let on = reads-on p q R w reads d r in (
        Meaning.ByName (Of on.0),
        Meaning.static_read
            (subst (λ (tree : List Item). read_word tree place ≡ Some x) (w.tree c d r) word) on.2,
      )
  replaced_there {c = c} {place = place} (Meaning.import_meta is) d r = (
    Meaning.ByName (Meta d),
    Meaning.import_meta
        (subst (λ (tree : List Item). is_meta_at (slice_get tree place) ≡ true) (w.tree c d r)
        is),
  )
  replaced_there {c = c} (Meaning.require_call {c = e} call stands at leads) d r =
      let on = called_on p q R w c d e call r stands leads in (
        Meaning.ByCall (Load on.0),
        Meaning.require_call call
            (subst (λ (calls : List RequireCall). Contains calls call) (same_calls p q R w c d r)
            stands) at on.2,
      )

-- ---- due

-- the other way round
pub turned-round : {p q : Program} {R : ℕ → ℕ → Type 0} {name back : ℕ → ℕ} →
    AreRenamed p q R name back → AreRenamed q p (λ a b. R b a) back name
turned-round its = record {
  alike = flip its.alike;
  names = λ a b r. its.backs b a r;
  backs = λ a b r. its.names b a r;
  modules = λ a b r. sym (its.modules b a r);
}

module _ (p q : Program) (R : ℕ → ℕ → Type 0) (name back : ℕ → ℕ)
    (its : AreRenamed p q R name back) where
  abbrev w : IsAlike p q R
  w = its.alike

  -- the module has the number that it is given
  abbrev pub HasName : ℕ → Type 0
  HasName m = R m (name m)

  pub named-so : (a b : ℕ) → R a b → HasName a
  named-so a b r = subst (R a) (sym (its.names a b r)) r

  pub named-back : (m : ℕ) → HasName m → back (name m) ≡ m
  named-back m r = its.backs m (name m) r

  -- reached modules are reached
  pub reach-named : (m : ℕ) → IsReached p m → HasName m
  reach-named m reached =
      let on = reached_on p q R w m reached in named-so m on.0 on.1

  pub reach-by : (m : ℕ) → IsReached p m → IsReached q (name m)
  reach-by m reached =
      let on = reached_on p q R w m reached in
      subst (IsReached q) (sym (its.names m on.0 on.1)) on.2

  pub common-by : (m : ℕ) → HasName m → IsCommonJs p m → IsCommonJs q (name m)
  common-by m r common = common_js_on p q R w m (name m) r common

  pub common-back : (m : ℕ) → HasName m → IsCommonJs q (name m) → IsCommonJs p m
  common-back m r common = common_js_on q p (λ a b. R b a) (flip w) (name m) m r common

  -- a CommonJS module that is asked for
  pub asks-named : (m c : ℕ) → HasName m → AsksCommonJs p m c → HasName c
  asks-named m c r asks =
      let on = declared_on p q R w m (name m) c asks.specifier r asks.asks asks.resolved in
      named-so c on.0 on.1

  asks-by : (m c : ℕ) → HasName m → AsksCommonJs p m c → AsksCommonJs q (name m) (name c)
  asks-by m c r asks =
      let on = declared_on p q R w m (name m) c asks.specifier r asks.asks asks.resolved in
      record {
        specifier = asks.specifier;
        asks =
            subst (λ (tree : List Item). Contains (declared_requests tree) asks.specifier)
            (w.tree m (name m) r) asks.asks;
        resolved = on.2 ∙ ap (λ d. Some d) (sym (its.names c on.0 on.1));
        common_js = common-by c (named-so c on.0 on.1) asks.common_js;
      }

  used-by : (s : Text) → IsUsed p s → IsUsed q s
  used-by s used = record {
    which = name used.which;
    reached = reach-by used.which used.reached;
    asks =
        subst (λ (tree : List Item). Contains (declared_requests tree) s)
        (w.tree used.which (name used.which) (reach-named used.which used.reached))
        used.asks;
    external = sym (same_outside p q R w s) ∙ used.external;
  }

  external-back : (s : Text) (what : _) → IsMeant q (Of (External s what)) →
      IsMeant p (Of (External s what))
  external-back s what meant =
      meant-by (λ a b. R b a) back (λ a b r. its.backs b a r) q p (flip w) (Of (External s what))
      meant

  external-on : (s : Text) (what : _) → IsMeant p (Of (External s what)) →
      IsMeant q (Of (External s what))
  external-on s what meant = meant-by R name its.names p q w (Of (External s what)) meant

  pub linked-there : (x : Text) → IsLinked p p.entry x → IsLinked q q.entry x
  linked-there x linked =
      let on = linked_on p q R w p.entry q.entry x linked.0 w.entry linked.1 in (on.0, on.2)

  -- what is due of the one is due of the other
  pub due-by : {form : Form} {cause : Cause} → IsDue p form cause →
      IsDue q form (cause_by name cause)
  due-by (Bundle.own {m = m} {k = k} reached es inside) =
      Bundle.own (reach-by m reached) (λ common. es (common-back m (reach-named m reached) common))
      (subst (λ (tree : List Item). k < length (own_statements tree))
      (w.tree m (name m) (reach-named m reached)) inside)
  due-by (Bundle.imports_names {s = s} {x = x} used means) =
      Bundle.imports_names (used-by s used) (external-on s (Named x) means)
  due-by (Bundle.imports_whole {s = s} used means) =
      Bundle.imports_whole (used-by s used) (external-on s Whole means)
  due-by (Bundle.imports_nothing {s = s} used none not) =
      Bundle.imports_nothing (used-by s used) (λ x means. none x (external-back s (Named x) means))
      (λ means. not (external-back s Whole means))
  due-by (Bundle.helps {c = m} reached common) =
      Bundle.helps (reach-by m reached) (common-by m (reach-named m reached) common)
  due-by (Bundle.defines {c = m} reached common) =
      Bundle.defines (reach-by m reached) (common-by m (reach-named m reached) common)
  due-by (Bundle.loads {m = m} {c = d} reached es asks) =
      Bundle.loads (reach-by m reached) (λ common. es (common-back m (reach-named m reached) common))
      (asks-by m d (reach-named m reached) asks)
  due-by (Bundle.holds_meta {m = m} reached has) =
      Bundle.holds_meta (reach-by m reached)
      (subst (λ (tree : List Item). IsTrue (has_import_meta tree))
      (w.tree m (name m) (reach-named m reached)) has)
  due-by (Bundle.holds_namespace {d = d} meant) =
      Bundle.holds_namespace (meant-by R name its.names p q w (Of (Namespace d)) meant)
  due-by (Bundle.stars {s = s} star) = Bundle.stars (outside_on p q R w star q.entry w.entry)
  due-by (Bundle.exports {x = x} form linked) = Bundle.exports form (linked-there x linked)
  due-by (Bundle.returns form) = Bundle.returns form

  -- and speaks of modules that have numbers there
  pub due-named : {form : Form} {cause : Cause} → IsDue p form cause → EachModule HasName cause
  due-named (Bundle.own {m = m} reached es inside) = reach-named m reached
  due-named (Bundle.imports_names used means) = tt
  due-named (Bundle.imports_whole used means) = tt
  due-named (Bundle.imports_nothing used none not) = tt
  due-named (Bundle.helps reached common) = tt
  due-named (Bundle.defines {c = m} reached common) = reach-named m reached
  due-named (Bundle.loads {m = m} {c = d} reached es asks) =
      (reach-named m reached, asks-named m d (reach-named m reached) asks)
  due-named (Bundle.holds_meta {m = m} reached has) = reach-named m reached
  due-named (Bundle.holds_namespace {d = d} meant) =
      let on = namespace_there p q R w d meant in named-so d on.0 on.1
  due-named (Bundle.stars star) = tt
  due-named (Bundle.exports form linked) = tt
  due-named (Bundle.returns form) = tt

  -- there and back
  pub cause-back : (cause : Cause) → EachModule HasName cause →
      cause_by back (cause_by name cause) ≡ cause
  cause-back (Own m k) r = ap (λ n. Own n k) (named-back m r)
  cause-back (ImportsNames s) r = refl
  cause-back (ImportsWhole s) r = refl
  cause-back (ImportsNothing s) r = refl
  cause-back Helps r = refl
  cause-back (Defines c) r = ap Defines (named-back c r)
  cause-back (Loads m c) r = ap₂ Loads (named-back m r.0) (named-back c r.1)
  cause-back (HoldsMeta m) r = ap HoldsMeta (named-back m r)
  cause-back (HoldsNamespace d) r = ap HoldsNamespace (named-back d r)
  cause-back (Stars s) r = refl
  cause-back Exports r = refl

-- Plans.

module _ (p q : Program) (R : ℕ → ℕ → Type 0) (name back : ℕ → ℕ)
    (its : AreRenamed p q R name back) (form : Form) (plan : List Cause)
    (due : (cause : Cause) → Contains plan cause ↔ IsDue p form cause) where
  -- a plan of what is due
  pub plan-due : (cause : Cause) →
      Contains (map (cause_by name) plan) cause ↔ IsDue q form cause
  plan-due cause = (forth, from)
    where
      forth : Contains (map (cause_by name) plan) cause → IsDue q form cause
      forth there =
          let was = map_back (cause_by name) plan cause there in
          subst (IsDue q form) was.2 (due-by p q R name back its ((due was.0).0 was.1))

      from : IsDue q form cause → Contains (map (cause_by name) plan) cause
      from is =
          let round = turned-round its in
          subst (Contains (map (cause_by name) plan))
          (cause-back q p (λ a b. R b a) back name round cause
          (due-named q p (λ a b. R b a) back name round is))
          (map_on (cause_by name) plan (cause_by back cause)
          ((due (cause_by back cause)).1 (due-by q p (λ a b. R b a) back name round is)))

  pub plan-named : (cause : Cause) → Contains plan cause → EachModule (λ m. R m (name m)) cause
  plan-named cause there = due-named p q R name back its ((due cause).0 there)

  pub plan-back : (cause : Cause) → Contains plan cause →
      cause_by back (cause_by name cause) ≡ cause
  plan-back cause there = cause-back p q R name back its cause (plan-named cause there)

  -- each once
  pub plan-once : ((i j : ℕ) (cause : Cause) → slice_get plan i ≡ Some cause →
      slice_get plan j ≡ Some cause → i ≡ j) → (i j : ℕ) (cause : Cause) →
      slice_get (map (cause_by name) plan) i ≡ Some cause →
      slice_get (map (cause_by name) plan) j ≡ Some cause → i ≡ j
  plan-once once i j cause at to =
      let one = mapped-at (cause_by name) plan i cause at in
      let two = mapped-at (cause_by name) plan j cause to in
      let same : one.0 ≡ two.0 =
      sym (plan-back one.0 (contains-get plan i one.0 one.1))
      ∙ ap (cause_by back) (one.2 ∙ sym two.2)
      ∙ plan-back two.0 (contains-get plan j two.0 two.1) in
      once i j one.0 one.1 (two.1 ∙ ap (λ x. Some x) (sym same))
