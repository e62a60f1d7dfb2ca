-- The bindings of a bundle are called right, and have the right contexts, in a program that is one
-- but for the numbers of its modules.
-- MOVED: what a merge owes for a program in which modules are numbered by their places in a list,
-- it owes for the program itself.
use Rattle.std.proofs.Common.{◌≡◌, ◌↔◌, ℕ, ◌+◌, List, [], ◌∷◌, Some, Contains, length, map, refl, sym, ap, ◌∙◌, subst}
use Rattle.std.specs.Prelude.{slice_get, zero, unwrap_or}
use Rattle.std.specs.List.{AllZip}
use Rattle.bundle_syntax.specs.Item.{Item}
use Rattle.bundle_rules.specs.Nodes.{Text, side_by_side}
use Rattle.bundle_rules.specs.Scopes.{Es, Cjs}
use Rattle.bundle_rules.specs.Declarations.{Reading, BySymbol, ByContext}
use Rattle.bundle_rules.specs.Denotes.{Denoted, Bound}
use Rattle.bundle_rules.specs.Statements.{TopItem, Element, own_statements, placed}
use Rattle.bundle_rules.specs.Program.{Program, tree_of, IsReached}
use Rattle.bundle_rules.specs.Linking.{Declared, Namespace, External, CommonJs}
use Rattle.bundle_rules.specs.Meaning.{Label, Of, Parameter, Load, Meta, Helper, Labelling, Mark, Means, View, inner_bindings}
use Rattle.bundle_rules.specs.Injected.{load_front, load_back, meta_object}
use Rattle.bundle_rules.specs.Bundle.{Cause, Own, Defines, Helps, HoldsMeta, AsModule, Hooks, IsDue, ItemMeans, Labelled, labelled, sense_of, elements_of, SameMeaning, IsLoadFunction, Pairing, StandsFor}
use Rattle.bundle_rules.specs.Symbols.{symbol_of_label, item_symbols, inner_symbols, CalledAlike, AreCalled}
use Rattle.bundle_rules.specs.Merged.{HasContexts, is_module_name}
use Rattle.bundle_rules.specs.Kept.{local_context}
use Rattle.bundle_link_targets.proofs.StageLemmas.{map_at as mapped-at}
use Rattle.bundle_link.specs.Alike.{IsAlike, IsModuleAt}
use Rattle.bundle_link.proofs.AlikeLemmas.{flip}
use Rattle.bundle_merge_theory.specs.composed.Noted.{pairing_of}
use Rattle.bundle_merge_theory.proofs.planned.OrderLemmas.{contains-get}
use Rattle.bundle_merge_theory.specs.moved.Renumbered.{label_by, marks_by, cause_by, labelled_by, cause_at}
use Rattle.bundle_merge_theory.proofs.moved.Owed.{AreRenamed, EachModule, IsLabelReached, AreLabelsReached, IsMergedBy, AreMoved}
use Rattle.bundle_merge_theory.proofs.moved.Due.{turned-round, due-named, plan-due, plan-back}
use Rattle.bundle_merge_theory.proofs.moved.Forms.{means-by, own-meaning, meta-map}
use Rattle.bundle_merge_theory.proofs.moved.Stand.{may-hold-by, properties-by, was-labelled, is-labelled, label-back, ready-by, still-by}
use Rattle.bundle_merge_theory.proofs.moved.Requested.{list-by, list-named, symbol-by}
use Rattle.bundle_merge_theory.specs.planned.Decided.{index_of}
use Rattle.bundle_merge_theory.specs.planned.Placed.{id_at}
use Rattle.bundle_merge_theory.proofs.composed.Theorem.{IsWholeBundle}
use Rattle.bundle_merge_theory.proofs.finished.Bundles.{IsMergedRight}
use Rattle.bundle_merge_theory.proofs.planned.BundleLemmas.{index-there}
use Rattle.bundle_merge_theory.proofs.moved.Layout.{laid-by}

-- ---- called

-- the module of such a label
abbrev declared_number : Label → ℕ
declared_number (Of (Declared m x)) = m
declared_number _ = zero

module _ (p q : Program) (R : ℕ → ℕ → Type 0) (name back : ℕ → ℕ)
    (its : AreRenamed p q R name back) (hooks : Hooks) (plan : List Cause) (reading : Reading)
    (tree : List Item) (labels : Labelling) (items : List (List Item))
    (reached : AreLabelsReached p labels)
    (due : (cause : Cause) → Contains plan cause ↔ IsDue p AsModule cause) where
  abbrev w : IsAlike p q R
  w = its.alike

  abbrev others : Labelling
  others = labelled_by name labels

  abbrev one : Pairing
  one = pairing_of labels items plan

  abbrev two : Pairing
  two = pairing_of others items (map (cause_by name) plan)

  abbrev b : Labelled
  b = labelled tree reading one

  abbrev c : Labelled
  c = labelled tree reading two

  -- of what item and cause it comes
  record Stood (cause : Cause) (item : TopItem) : Type 0 where
    stands : StandsFor one (cause_by back cause) item
    named : EachModule (λ m. R (back m) m) cause

  stood : (cause : Cause) (item : TopItem) → StandsFor two cause item → Stood cause item
  stood cause item stands =
      let was = mapped-at (cause_by name) plan stands.at cause stands.cause_there in
      let there = contains-get plan stands.at was.0 was.1 in
      let same : cause_by back cause ≡ was.0 =
      ap (cause_by back) (sym was.2)
      ∙ plan-back p q R name back its AsModule plan due was.0 there in
      record {
        stands = record {
          at = stands.at;
          cause_there = was.1 ∙ ap (λ x. Some x) (sym same);
          item_there = stands.item_there;
        };
        named =
            due-named q p (λ a b. R b a) back name (turned-round its)
            ((plan-due p q R name back its AsModule plan due cause).0
            (contains-get (map (cause_by name) plan) stands.at cause stands.cause_there));
      }

  -- what a part of the bundle means
  back-labelled : (d : Denoted) (l : Label) → Contains others (d, l) →
      Contains labels (d, label_by back l)
  back-labelled d l there =
      let was = was-labelled name labels d l there in
      subst (λ n. Contains labels (d, n))
      (sym (label-back p q R name back its was.old (reached d was.old was.there))
      ∙ ap (label_by back) was.is) was.there

  means-back : (inner : List Denoted) (elements : List Element) (marks : List Mark) →
      Means (sense_of c) inner elements marks →
      Means (sense_of b) inner elements (marks_by back marks)
  means-back inner elements marks means =
      let view : View = record { tree = tree; kind = Es; reading = reading } in
      means-by back view (λ place by. ⊥) (λ place by. ⊥) (λ d l. Contains others (d, l))
      (λ d l. Contains labels (d, l)) (λ place by is. is) (λ place by is none. is) back-labelled
      inner means

  means-forth : (inner : List Denoted) (elements : List Element) (marks : List Mark) →
      Means (sense_of b) inner elements marks →
      Means (sense_of c) inner elements (marks_by name marks)
  means-forth inner elements marks means =
      let view : View = record { tree = tree; kind = Es; reading = reading } in
      means-by name view (λ place by. ⊥) (λ place by. ⊥) (λ d l. Contains labels (d, l))
      (λ d l. Contains others (d, l)) (λ place by is. is) (λ place by is none. is)
      (is-labelled name labels) inner means

  same-back : (m : ℕ) → R (back m) m → (tops : List TopItem) (statements : List (List Element)) →
      AllZip (SameMeaning q c m) tops statements → AllZip (SameMeaning p b (back m)) tops statements
  same-back m r [] [] all = tt
  same-back m r [] (statement ∷ statements) all = absurd all
  same-back m r (top ∷ tops) [] all = absurd all
  same-back m r (top ∷ tops) (statement ∷ statements) all = (
    (
      marks_by back all.0.0,
      own-meaning (λ a b. R b a) back (λ a b k. its.backs b a k) q p (flip w) m (back m) r statement
          all.0.0 all.0.1,
      means-back (inner_bindings (sense_of c).view top.start (elements_of top)) (elements_of top)
          all.0.0 all.0.2,
    ),
    same-back m r tops statements all.1,
  )

  function-back : (m : ℕ) (item : TopItem) → R (back m) m → IsLoadFunction q c m item →
      IsLoadFunction p b (back m) item
  function-back m item r f = record {
    front = f.front;
    inside = f.inside;
    back = f.back;
    is = f.is;
    front_means = means-back [] f.front (load_front m) f.front_means;
    front_length = f.front_length;
    back_means = means-back [] f.back load_back f.back_means;
    back_length = f.back_length;
    whole = f.whole;
    statements =
        subst
        (λ (its_tree : List Item). AllZip (SameMeaning p b (back m))
        (placed (item.start + length f.front) (side_by_side zero f.inside))
        (own_statements its_tree)) (sym (w.tree (back m) m r))
        (same-back m r (placed (item.start + length f.front) (side_by_side zero f.inside))
        (own_statements (tree_of q m)) f.statements);
  }

  -- CALLED right
  pub called-by : (spelled : Text → Text) → AreCalled spelled p hooks b one →
      AreCalled spelled q hooks c two
  unfolding function-back
  called-by spelled called = record {
    list = map name called.list;
    is_list = list-by p q R name back its called.list called.is_list;
    outer = λ scope x l there.
        let was = was-labelled name labels (Bound scope x) l there in
        called.outer scope x was.old was.there
        ∙ ap spelled
        (symbol-by p q R name back its called.list
        (list-named p q R name back its called.list called.is_list) was.old
        (reached (Bound scope x) was.old was.there)
        ∙ ap (symbol_of_label q (map name called.list)) was.is);
    own = λ m k item statement stands there.
        let was = stood (Own m k) item stands in
        subst
        (λ (its_tree : List Item). item_symbols b item
        ≡ map spelled
        (inner_symbols (record { tree = its_tree; kind = Es; reading = BySymbol }) 0 statement))
        (w.tree (back m) m was.named)
        (called.own (back m) k item statement was.stands
        (subst (λ (its_tree : List Item). slice_get (own_statements its_tree) k ≡ Some statement)
        (sym (w.tree (back m) m was.named)) there));
    common_js = λ m item f stands.
        let was = stood (Defines m) item stands in
        subst
        (λ (its_tree : List Item). AllZip
        (CalledAlike spelled b (record { tree = its_tree; kind = Cjs; reading = BySymbol }))
        (placed (item.start + length f.front) (side_by_side zero f.inside))
        (own_statements its_tree)) (w.tree (back m) m was.named)
        (called.common_js (back m) item (function-back m item was.named f) was.stands);
    helper = λ item stands. called.helper item (stood Helps item stands).stands;
    metas = λ m item stands.
        let was = stood (HoldsMeta m) item stands in
        let answered = called.metas (back m) item was.stands in
        record {
          properties = answered.properties;
          held =
              may-hold-by p q R name back its hooks (back m) m answered.properties was.named
              answered.held;
          marks = marks_by name answered.marks;
          means = properties-by name answered.properties answered.marks answered.means;
          object =
              subst (λ marks. ItemMeans c item marks)
              (meta-map name (back m) answered.marks
              ∙ ap (λ n. meta_object n (marks_by name answered.marks))
              (its.names (back m) m was.named))
              (means-forth (inner_bindings (sense_of b).view item.start (elements_of item))
              (elements_of item) (meta_object (back m) answered.marks) answered.object);
          alike = answered.alike;
        };
  }

  -- CONTEXTS
  pub contexts-by : (spelled : Text → Text) (local other : ℕ → ℕ) →
      ((m : ℕ) → IsReached p m → local m ≡ other (name m)) → HasContexts spelled local b →
      HasContexts spelled other c
  contexts-by spelled local other locals has = record {
    declared = λ scope x m y there plain.
        let was = was-labelled name labels (Bound scope x) (Of (Declared m y)) there in
        let same : was.old ≡ Of (Declared (back m) y) =
        sym (label-back p q R name back its was.old (reached (Bound scope x) was.old was.there))
        ∙ ap (label_by back) was.is in
        let r : IsReached p (back m) =
        subst (IsLabelReached p) same (reached (Bound scope x) was.old was.there) in
        let number : name (back m) ≡ m =
        ap (λ l. declared_number (label_by name l)) (sym same) ∙ ap declared_number was.is in
        has.declared scope x (back m) y
        (subst (λ l. Contains labels (Bound scope x, l)) same was.there) plain
        ∙ ap (λ n. Some n) (locals (back m) r ∙ ap other number);
    stands = λ scope x m y there.
        let was = was-labelled name labels (Bound scope x) (Of (Declared m y)) there in
        let same : was.old ≡ Of (Declared (back m) y) =
        sym (label-back p q R name back its was.old (reached (Bound scope x) was.old was.there))
        ∙ ap (label_by back) was.is in
        let r : IsReached p (back m) =
        subst (IsLabelReached p) same (reached (Bound scope x) was.old was.there) in
        let number : name (back m) ≡ m =
        ap (λ l. declared_number (label_by name l)) (sym same) ∙ ap declared_number was.is in
        let it =
        has.stands scope x (back m) y
        (subst (λ l. Contains labels (Bound scope x, l)) same was.there) in
        (it.0, it.1, it.2, it.3 ∙ locals (back m) r ∙ ap other number);
    globals = has.globals;
  }

-- whether a label is a module's name is not of numbers
same-name : (name : ℕ → ℕ) (l : Label) → is_module_name (label_by name l) ≡ is_module_name l
same-name name (Of (Declared m x)) = refl
same-name name (Of (Namespace m)) = refl
same-name name (Of (External s its)) = refl
same-name name (Of (CommonJs m c its)) = refl
same-name name (Parameter c x) = refl
same-name name (Load c) = refl
same-name name (Meta m) = refl
same-name name Helper = refl

-- ---- moved
pub right-by : (first : ℕ) (p : Program) (hooks : Hooks) (plan : List Cause) (merged : List Item) →
    IsMergedBy first local_context p hooks plan merged → IsMergedRight first p hooks plan merged
right-by first p hooks plan merged its = record {
  whole = its.whole;
  listed = its.listed;
  called = its.called;
  contexts = its.contexts;
  others = its.others;
  binds = its.binds;
}

module _ (p q : Program) (R : ℕ → ℕ → Type 0) (name back : ℕ → ℕ)
    (its : AreRenamed p q R name back) (hooks : Hooks) (plan : List Cause)
    (merged : List Item) where
  -- a bundle of the one is a bundle of the other
  unfoldable pub whole-by : (whole : IsWholeBundle p hooks plan merged) →
      AreLabelsReached p whole.ready.still.labels →
      IsWholeBundle q hooks (map (cause_by name) plan) merged
  unfolding ready-by still-by
  whole-by whole reached =
      let still = whole.ready.still in
      record {
        ready = ready-by p q R name back its hooks plan ByContext merged whole.ready reached;
        laid =
            laid-by p q R name back its AsModule ByContext merged plan still.labels
            (labelled_by name still.labels) still.items whole.laid;
        resolved = whole.resolved;
        names = whole.names;
        plain = whole.plain;
        ways = whole.ways;
        objects = whole.objects;
      }

  pub merged-by : (first : ℕ) (local other : ℕ → ℕ) (owed : IsMergedBy first local p hooks plan merged) →
      AreLabelsReached p owed.whole.ready.still.labels →
      ((m : ℕ) → IsReached p m → local m ≡ other (name m)) →
      IsMergedBy first other q hooks (map (cause_by name) plan) merged
  unfolding whole-by ready-by still-by
  merged-by first local other owed reached locals =
      let still = owed.whole.ready.still in
      record {
        whole = whole-by owed.whole reached;
        listed = owed.listed;
        called =
            called-by p q R name back its hooks plan ByContext merged still.labels still.items
            reached still.bundle.due (λ x. x) owed.called;
        contexts =
            contexts-by p q R name back its hooks plan ByContext merged still.labels still.items
            reached still.bundle.due (λ x. x) local other locals owed.contexts;
        others = λ place o scope x at denotes unlabelled.
            owed.others place o scope x at denotes
            (λ l there. sym (same-name name l)
            ∙ unlabelled (label_by name l) (is-labelled name still.labels (Bound scope x) l there));
        binds = owed.binds;
      }

-- places in a list, and what stands there
pub places-renamed : (p q : Program) (list : List ℕ) → AreMoved p q list →
    AreRenamed q p (λ k m. IsModuleAt list m k) (id_at list) (λ m. index_of m list)
places-renamed p q list its = record {
  alike = flip its.alike;
  names = λ k m at. ap (λ o. unwrap_or o zero) at;
  backs = λ k m at.
      its.alike.one m (index_of m list) k (index-there m list (contains-get list k m at)) at;
  modules = λ k m at. sym (its.modules m k at);
}

-- MOVED
pub moved : (p q : Program) (list : List ℕ) → AreMoved p q list → (hooks : Hooks)
    (plan : List Cause) (merged : List Item) (first : ℕ) (local : ℕ → ℕ) →
    (owed : IsMergedBy first local q hooks plan merged) →
    AreLabelsReached q owed.whole.ready.still.labels →
    ((k : ℕ) → IsReached q k → local k ≡ local_context (id_at list k)) →
    IsMergedRight first p hooks (map (cause_at list) plan) merged
moved p q list its hooks plan merged first local owed reached locals =
    right-by first p hooks (map (cause_at list) plan) merged
    (merged-by q p (λ k m. IsModuleAt list m k) (id_at list) (λ m. index_of m list)
    (places-renamed p q list its) hooks plan merged first local local_context owed reached locals)
