-- Each occurrence of a statement, with its step, has its note.
use Rattle.std.proofs.Common.{◌≡◌, ℕ, zero, suc, ◌+◌, ◌<◌, Bool, true, false, ◌&&◌, List, ◌++◌, length, Some, None, refl, sym, ap, ◌∙◌, subst, arith}
use Rattle.std.specs.Prelude.{Contains, drop, filter, is_some, slice_get}
use Rattle.std.proofs.lemmas.Bool.{false≢true, and_parts}
use Rattle.std.proofs.lemmas.Option.{same_Some}
use Rattle.bundle_syntax.specs.Item as h
use Rattle.bundle_syntax.specs.Item.{Item, Head}
use Rattle.bundle_tree_rebuild.specs.declared.rewrite.Whole.{Whole}
use Rattle.bundle_tree_rebuild.specs.declared.rewrite.Whole.TheVariants as w
use Rattle.bundle_tree_rebuild.specs.Work.{Step}
use Rattle.bundle_rules.specs.Places.{Occurrence, path_at, occurrence_at, occurrences, is_binding}
use Rattle.bundle_rules.proofs.PlacesLemmas.{occurrence_at-listed}
use Rattle.bundle_rules.specs.Scopes.{ModuleKind, Es, Cjs, Wrapper, Top, Inner}
use Rattle.bundle_rules.specs.Declarations.{BySymbol, Way, way_of, Name, declared}
use Rattle.bundle_rules.specs.Denotes.{Denoted, Bound, Global, denoted_of, denoted_at}
use Rattle.bundle_rules.specs.Doubled.{first_doubled}
use Rattle.bundle_rules.specs.Idents.{Ident}
use Rattle.bundle_rules.specs.Nodes.{Text}
use Rattle.bundle_rules.specs.Statements.{TopItem, Element, taken}
use Rattle.bundle_rules.specs.Entries.{ImportEntry, imports_of, import_of, required_at}
use Rattle.bundle_rules.specs.Bound.{is_free, is_global}
use Rattle.bundle_rules.specs.Program.{Program, tree_of, resolves}
use Rattle.bundle_rules.specs.Linking.{imports, Target, StandsFor}
use Rattle.bundle_rules.specs.Meaning.{Label, Of, Load, Known, OwnName, at_top, HasKind, is_es, is_common_js, plain, is_inside, own_sense, Meant, NameMeans, ByCall, Replaced, require_call, says_node, IsMeant, by_statement}
use Rattle.bundle_rules.specs.Meaning as n
use Rattle.bundle_tree_places.specs.Stated.{is_in_statement}
use Rattle.bundle_link_tables.specs.Used.{is_bound_at_top, is_use, use_of}
use Rattle.bundle_link_targets.specs.Meant.{by_use}
use Rattle.bundle_link_targets.proofs.ListLemmas.{not-open, one-stands, imports-es}
use Rattle.bundle_link_index.proofs.ProgramLemmas.{got_there as place-there, map_on as map-on, filter_on as filter-on}
use Rattle.bundle_link_targets.proofs.MeantLemmas.{taken-meant, is-some as some_there}
use Rattle.bundle_merge_theory.specs.grouped.Renaming.{HasWays}
use Rattle.bundle_merge_theory.proofs.fit.Facts.{program_ways}
use Rattle.bundle_merge_theory.specs.noted.Marked.{Note}
use Rattle.bundle_merge_theory.specs.noted.Agrees.{Agrees, IsReplacedAround, StandsForCall}
use Rattle.bundle_merge_theory.proofs.noted.Agreements.{call_head}
use Rattle.bundle_merge_theory.proofs.noted.Theorem.{call_agrees}
use Rattle.bundle_link.proofs.NodePaths.{get-front}
use Rattle.bundle_merge_theory.proofs.noted.Replaces.{linked_there}
use Rattle.bundle_merge_theory.proofs.noted.Spots.{at-get}
use Rattle.bundle_merge_theory.proofs.noted.UsesAgree.{use_agrees, get-within}
use Rattle.bundle_merge_theory.specs.made.Given.{BundleContexts, ident_of_label}
use Rattle.bundle_merge_theory.specs.made.Steps.{IsStepTo, whole_of, IsCalled, IsTargetUsed}
use Rattle.bundle_merge_theory.specs.made.Told.{denoted_in_module, kept_ident, IsNamedFor, known, IsNotedStep}
use Rattle.bundle_merge_theory.proofs.told.Calls.{linked_free, refers_in, read_begins, read_none, outer_left, top_left, left_alone, IsCalledSo, called_so, free_outside}
use Rattle.bundle_merge_theory.proofs.told.Cleared.{no_bound_import}
use Rattle.bundle_merge_theory.proofs.told.Meant.{inner_here, kept_left, KeptName, kept_name, own_means}
use Rattle.bundle_merge_theory.proofs.told.Defaults.{IsSet, IsOf, form, here, listing, whole, all_nodes, fit_begins, item_fit, call_element}
use Rattle.bundle_merge_theory.proofs.told.Tops.{HasForm, is_plain_item}

-- a step of an identifier, by what it is
to_itself : (ident : Ident) (much : Whole) (step : Step) → IsStepTo ident much step →
    IsStepTo step.ident much step
to_itself ident much step its = record {
  its_ident = refl;
  its_whole = its.its_whole;
  spells =
      its.spells;
}

get-less : {A : Type 0} (xs : List A) (k : ℕ) (x : A) → slice_get xs (suc k) ≡ Some x →
    k < length xs
get-less xs k x e = let l = get-within xs (suc k) x e in omega (arith, l)

-- what means a label stands for it
known_stands : (p : Program) (m : ℕ) (kind : ModuleKind) (bindings : List Denoted) (d : Denoted)
    (meant : Meant) → NameMeans (own_sense p m kind) bindings d meant →
    (l : Label) → meant ≡ Known l → OwnName p m d l
known_stands p m kind bindings d meant (n.inside found) l e = absurd cc
known_stands p m kind bindings d meant (n.outside {scope = scope} {name = name} {l = other} found stands) l e =
    let same : other ≡ l = cc in
    subst (OwnName p m (Bound scope name)) same stands
known_stands p m kind bindings d meant n.unbound l e = absurd cc

-- two literal calls with one name are one
one_call : (p : Program) (m : ℕ) (o : Occurrence) (c other : ℕ) → IsCalled p m o c →
    IsCalled p m o other → c ≡ other
one_call p m o c other its too =
    let free : ℕ → Bool = is_free (tree_of p m) in
    let e1 = its.here in
    let e2 = too.here in
    let at : its.call.place ≡ too.call.place = omega (arith, e1, e2) in
    let word : its.call.specifier ≡ too.call.specifier =
    same_Some its.call.specifier too.call.specifier
    (sym (linked_there p.settings free (tree_of p m) its.call its.linked)
    ∙ ap (λ k. required_at (drop k (tree_of p m))) at
    ∙ linked_there p.settings free (tree_of p m) too.call too.linked) in
    same_Some c other (sym its.leads ∙ ap (resolves p m) word ∙ too.leads)

-- what is called is free
called_free : (p : Program) (m : ℕ) (o : Occurrence) (c : ℕ) → IsCalled p m o c →
    is_free (tree_of p m) o.place ≡ true
called_free p m o c its = ap (is_free (tree_of p m)) (sym its.here)
    ∙ linked_free p m its.call its.linked

-- of a tree of such a form
no_import_bound : {tree : List Item} → HasForm tree → first_doubled Es tree ≡ None →
    (o : Occurrence) →
    occurrence_at tree o.place ≡ Some o → is_in_statement o.path ≡ true → is_binding o.role ≡ true →
    (way : Way) →
    way_of o.path ≡ Some way → (name : Name) → denoted_of BySymbol Es (declared BySymbol Es tree) o
    ≡ Bound Top name →
    (entry : ImportEntry) → import_of (imports_of tree) o.sym ≡ Some entry → ⊥
no_import_bound form once o at inside role way way_is name denotes entry bound =
    no_bound_import form.xs form.are (subst (λ l. first_doubled Es l ≡ None) form.is once) o
    (subst (λ l. occurrence_at l o.place ≡ Some o) form.is at) inside role way way_is name
    (subst (λ l. denoted_of BySymbol Es (declared BySymbol Es l) o ≡ Bound Top name) form.is
    denotes) entry
    (subst (λ l. import_of (imports_of l) o.sym ≡ Some entry) form.is bound)

module _ (p : Program) (list : List ℕ) (m : ℕ) (kind : ModuleKind) (statement : List Element)
    (top : TopItem)
    (set : IsSet p list m kind statement top) (context : BundleContexts) where
  abbrev pub inner : List Denoted
  inner = inner_here p list m kind statement top set

  abbrev IsOne : Occurrence → Type 0
  IsOne o = IsOf p list m kind statement top set o

  -- its note, which agrees
  pub record HasNote (o : Occurrence) (step : Step) : Type 0 where
    pub note : Note
    pub is : IsNotedStep p list context m kind (inner_here p list m kind statement top set) o step
        note
    pub agrees : Agrees (own_sense p m kind) (inner_here p list m kind statement top set) o
        note.meant note.whole

  -- ---- what keeps its name
  pub kept : (o : Occurrence) (step : Step) → IsOne o →
      ((n : ℕ) (t : Target) → IsTargetUsed p m o n t → ⊥) →
      ((c : ℕ) → IsCalled p m o c → ⊥) → IsStepTo (kept_ident p context m kind o) w.Alone step →
      HasNote o step
  kept o step one unused uncalled to =
      let left = kept_left p list m kind statement top set o one unused uncalled in
      let its : KeptName p list m kind statement top set context o =
      kept_name p list m kind statement top set context o one unused left in
      record {
        note = record { meant = its.meant; whole = w.Alone };
        is = record {
          is = to_itself (kept_ident p context m kind o) w.Alone step to;
          named = subst (λ i. IsNamedFor p list context m kind inner o its.meant i)
              (sym to.its_ident) its.named;
          binds = λ role. to;
          alone = λ is. refl;
          stands = λ l meant whole. known_stands p m kind inner (denoted_in_module p m kind o)
              its.meant its.means l meant;
          calls = λ c is. absurd (uncalled c is);
        };
        agrees =
            left_alone p m (whole p list m kind statement top set)
            (all_nodes p list m kind statement top set) kind inner o
            one.there left one.item (denoted_in_module p m kind o) its.meant (one.denotes kind)
            its.means;
      }

  -- ---- what is used
  is_top_bound : (d : Denoted) → is_bound_at_top (Some d) ≡ true →
      (name : Name) × (d ≡ Bound Top name)
  is_top_bound (Bound Wrapper name) e = absurd (false≢true e)
  is_top_bound (Bound Top name) e = (name, refl)
  is_top_bound (Bound (Inner its begins) name) e = absurd (false≢true e)
  is_top_bound (Global x) e = absurd (false≢true e)

  -- what a use is
  record UseFacts (o : Occurrence) : Type 0 where
    entry : ImportEntry
    bound : import_of (imports p m) o.sym ≡ Some entry
    top_is : denoted_in_module p m Es o ≡ Bound Top (plain o.sym)

  use_facts : (o : Occurrence) → IsOne o → is_use (tree_of p m) o ≡ true → UseFacts o
  use_facts o one used =
      let parts = and_parts (is_bound_at_top (denoted_at BySymbol Es (tree_of p m) o.place))
      (is_some (import_of (imports_of (tree_of p m)) o.sym) && is_in_statement
      (path_at (tree_of p m) o.place)) used in
      let others = and_parts (is_some (import_of (imports_of (tree_of p m)) o.sym))
      (is_in_statement (path_at (tree_of p m) o.place)) parts.1 in
      let entry = some_there (import_of (imports_of (tree_of p m)) o.sym) others.0 in
      let its = is_top_bound (denoted_in_module p m Es o)
      (ap is_bound_at_top (sym (one.denotes Es)) ∙ parts.0) in
      let same : its.0 ≡ plain o.sym = subst (λ d. IsCalledSo d o.sym) its.1
      (called_so Es (tree_of p m) o) in
      record { entry = entry.0; bound = entry.1; top_is = its.1 ∙ ap (Bound Top) same }

  -- in a module with imports, which is ES code
  es_kind : (its : ModuleKind) → HasKind p m its → (x : Text) (entry : ImportEntry) →
      import_of (imports p m) x ≡ Some entry → its ≡ Es
  es_kind Es (is_es es) x entry bound = refl
  es_kind Cjs (is_common_js common) x entry bound = absurd (imports-es p m x entry bound common)

  use_meant : (o : Occurrence) → IsOne o → (n : ℕ) (t : Target) → IsTargetUsed p m o n t →
      IsMeant p (Of t)
  use_meant o one n t its =
      let listed = occurrence_at-listed (tree_of p m) o.place o one.at in
      taken-meant p set.sound.modules
      (by_use set.reached
      (map-on (use_of (tree_of p m)) (filter (is_use (tree_of p m)) (occurrences (tree_of p m))) o
      (filter-on (is_use (tree_of p m)) (occurrences (tree_of p m)) o
      (place-there (occurrences (tree_of p m)) listed.0 o listed.1) its.used))
      its.means)

  no_declared : (o : Occurrence) → IsOne o → UseFacts o → is_binding o.role ≡ true → ⊥
  no_declared o one facts role =
      let listed = occurrence_at-listed (tree_of p m) o.place o one.at in
      let ways : HasWays (tree_of p m) = program_ways p set.sound.fit m set.reached in
      let way = ways.way listed.0 o listed.1 role in
      let is_kind = es_kind kind set.has_kind o.sym facts.entry facts.bound in
      no_import_bound (form p list m kind statement top set)
      (set.sound.undoubled m Es set.reached (subst (HasKind p m) is_kind set.has_kind)) o one.at
      (ap is_in_statement one.there.path_is ∙ one.inside) role way.0 way.1 (plain o.sym)
      facts.top_is facts.entry facts.bound

  use_note : (o : Occurrence) (step : Step) (much : Whole) → IsOne o → UseFacts o → (t : Target) →
      IsMeant p (Of t) → IsStepTo (ident_of_label p list context (Of t)) much step →
      (is_binding o.role ≡ true → ⊥) →
      (much ≡ w.Alone → StandsFor p m o.sym t) →
      Agrees (own_sense p m kind) (inner_here p list m kind statement top set) o (Known (Of t)) much
      → HasNote o step
  use_note o step much one facts t meant to unbound alone_stands agrees =
      let is_kind = es_kind kind set.has_kind o.sym facts.entry facts.bound in
      let top_is : denoted_in_module p m kind o ≡ Bound Top (plain o.sym) =
      ap (λ k. denoted_in_module p m k o) is_kind ∙ facts.top_is in
      let out : is_inside 0 (denoted_in_module p m kind o) ≡ false = ap (is_inside 0) top_is in
      record {
        note = record { meant = Known (Of t); whole = much };
        is = record {
          is = to_itself (ident_of_label p list context (Of t)) much step to;
          named = subst (λ i. IsNamedFor p list context m kind inner o (Known (Of t)) i)
              (sym to.its_ident) (known out meant);
          binds = λ role. absurd (unbound role);
          alone = λ is. absurd (false≢true (sym out ∙ is));
          stands = λ l same whole. subst (λ d. OwnName p m d l) (sym top_is)
              (subst (OwnName p m (Bound Top (plain o.sym))) (same_label l same)
              (at_top (alone_stands whole)));
          calls = λ c is. absurd (uncalled c is);
        };
        agrees = agrees;
      }
    where
      same_label : (l : Label) → Known (Of t) ≡ Known l → Of t ≡ l
      same_label l e = cc

      uncalled : (c : ℕ) → IsCalled p m o c → ⊥
      uncalled c is =
          let free : is_global (Some (denoted_in_module p m Es o)) ≡ true =
          ap is_global (sym (one.denotes Es)) ∙ called_free p m o c is in
          false≢true (ap (λ d. is_global (Some d)) (sym facts.top_is) ∙ free)

  pub used : (o : Occurrence) (step : Step) → IsOne o → (n : ℕ) (t : Target) → IsTargetUsed p m o n t →
      IsStepTo (ident_of_label p list context (Of t)) (whole_of n) step → HasNote o step
  used o step one zero t its to =
      let facts = use_facts o one its.used in
      let is_kind = es_kind kind set.has_kind o.sym facts.entry facts.bound in
      let top_is : denoted_in_module p m kind o ≡ Bound Top (plain o.sym) =
      ap (λ k. denoted_in_module p m k o) is_kind ∙ facts.top_is in
      let stands : StandsFor p m o.sym t = subst (StandsFor p m o.sym) (read_none its.means.reads)
      its.means.stands in
      let left =
      top_left p m (whole p list m kind statement top set) o one.at o.sym
      (one.denotes Es ∙ ap Some facts.top_is) t its.means in
      use_note o step w.Alone one facts t (use_meant o one zero t its) to (no_declared o one facts)
      (λ alone. stands)
      (left_alone p m (whole p list m kind statement top set)
      (all_nodes p list m kind statement top set) kind inner o
      one.there left one.item (denoted_in_module p m kind o) (Known (Of t)) (one.denotes kind)
      (own_means p list m kind statement top set (denoted_in_module p m kind o) Top (plain o.sym) (Of t)
      top_is (ap (is_inside 0) top_is)
      (subst (λ d. OwnName p m d (Of t)) (sym top_is) (at_top stands))))
  used o step one (suc n) t its to =
      let facts = use_facts o one its.used in
      let read = read_begins its.means.reads (tree_of p m) o.place refl in
      let refers : is_binding o.role ≡ false =
      refers_in (tree_of p m) (listing p list m kind statement top set) o one.at read.0 read.1
      h.MemberExpr read.2 read.3 refl in
      use_note o step (w.Reads (suc n)) one facts t (use_meant o one (suc n) t its) to
      (λ role. false≢true (sym refers ∙ role))
      (λ alone. absurd (not_alone alone))
      (use_agrees p m (all_nodes p list m kind statement top set) (λ x t u a b. one-stands p m a b)
      kind o one.there o.sym
      (one.denotes Es ∙ ap Some facts.top_is) n t its.means)
    where
      not_alone : w.Reads (suc n) ≡ w.Alone → ⊥
      not_alone e = cc

  -- ---- what is called
  pub called : (o : Occurrence) (step : Step) → IsOne o → (c : ℕ) → IsCalled p m o c →
      IsStepTo (ident_of_label p list context (Load c)) w.Call step → HasNote o step
  called o step one c its to = record {
    note = record { meant = Known (Load c); whole = w.Call };
    is = record {
      is = to_itself (ident_of_label p list context (Load c)) w.Call step to;
      named = subst (λ i. IsNamedFor p list context m kind inner o (Known (Load c)) i)
          (sym to.its_ident) (known out meant);
      binds = λ role. absurd (false≢true (sym refers ∙ role));
      alone = λ is. absurd (false≢true (sym out ∙ is));
      stands = λ l same whole. absurd (not_alone whole);
      calls = λ other is. ap (λ k. Known (Load k)) (one_call p m o c other its is);
    };
    agrees = agrees;
  }
    where
      not_alone : w.Call ≡ w.Alone → ⊥
      not_alone e = cc

      replaced : Replaced p m its.call.place (ByCall (Load c))
      replaced = require_call its.call its.linked refl its.leads

      opens : (f : ℕ) × (slice_get (tree_of p m) its.call.place ≡ Some (h.Open f h.CallExpr))
      opens = call_head p m (all_nodes p list m kind statement top set) replaced

      refers : is_binding o.role ≡ false
      refers =
          refers_in (tree_of p m) (listing p list m kind statement top set) o one.at its.call.place
          opens.0 h.CallExpr its.here opens.1 refl

      agrees : StandsForCall (own_sense p m kind) o (Known (Load c))
      agrees = call_agrees p m (all_nodes p list m kind statement top set) kind o one.there
          its.call.place c (sym its.here) replaced

      free : is_global (Some (denoted_in_module p m Es o)) ≡ true
      free =
          ap is_global (sym (one.denotes Es)) ∙ called_free p m o c its

      out : is_inside 0 (denoted_in_module p m kind o) ≡ false
      out = by (denoted_in_module p m Es o) refl free
        where
          by : (d : Denoted) → denoted_in_module p m Es o ≡ d → is_global (Some d) ≡ true →
              is_inside 0 (denoted_in_module p m kind o) ≡ false
          by (Global x) is global = free_outside kind (tree_of p m) o x refers is
          by (Bound scope name) is global = absurd (false≢true global)

      -- the call is an element of the statement
      element : (k : ℕ) (x : Item) → slice_get top.items k ≡ Some x → is_plain_item x ≡ true →
          o.place ≡ top.start + k →
          slice_get (tree_of p m) o.place ≡ Some x →
          (f : ℕ) × (other : Head) × Contains statement (taken its.call.place (h.Open f other))
      element zero x at plain place is =
          let begins = fit_begins (item_fit p list m kind statement top set) x at in
          absurd (not_open begins.0 (is ∙ ap Some begins.1))
        where
          not_open : (head : Head) → slice_get (tree_of p m) o.place ≡ Some (h.Open 0 head) → ⊥
          not_open head opened = not-open (tree_of p m) o.place o one.at 0 head opened
      element (suc k) x at plain place is =
          let standing = here p list m kind statement top set in
          let s = standing.place in
          let h1 = its.here in
          let call_place : its.call.place ≡ top.start + k = omega (arith, h1, place) in
          let there : slice_get (tree_of p m) its.call.place
          ≡ slice_get (top.items ++ standing.tail) k =
          at-get standing.at its.call.place k (omega (arith, call_place, s)) in
          let inside : slice_get top.items k ≡ Some (h.Open opens.0 h.CallExpr) =
          sym (get-front top.items standing.tail k (get-less top.items k x at)) ∙ sym there
          ∙ opens.1 in
          subst
          (λ q. (f : ℕ) × (other : Head) × Contains statement (taken q (h.Open f other)))
          (sym call_place)
          (call_element (item_fit p list m kind statement top set) top.start statement set.states k
          opens.0 inside)

      item : slice_get (tree_of p m) o.place ≡ Some one.x
      item =
          let standing = here p list m kind statement top set in
          let s = standing.place in
          let q = one.place in
          at-get standing.at o.place one.k (omega (arith, q, s))
          ∙ get-front top.items standing.tail one.k (get-within top.items one.k one.x one.at_item)
          ∙ one.at_item

      found : (f : ℕ) × (other : Head) × Contains statement (taken its.call.place (h.Open f other))
      found = element one.k one.x one.at_item one.plain one.place item

      same_begins : suc agrees.begins ≡ o.place → agrees.begins ≡ its.call.place
      same_begins far = let h1 = its.here in omega (arith, far, h1)

      same_label : (l : Label) → Known (Load c) ≡ Known l → l ≡ Load c
      same_label l e = cc

      outermost : IsReplacedAround (Replaced p m) o.path its.call.place (ByCall (Load c))
      outermost =
          subst (λ b. IsReplacedAround (Replaced p m) o.path b (ByCall (Load c)))
          (same_begins agrees.far)
          (subst (λ l. IsReplacedAround (Replaced p m) o.path agrees.begins (ByCall l))
          (same_label agrees.label agrees.meant_is) agrees.replaced)

      meant : IsMeant p (Load c)
      meant =
          by_statement {e = taken its.call.place (h.Open found.0 found.1)} set.reached set.own
          found.2
          (outer_left p m its.call.place opens.0 h.CallExpr o.place o.path (ByCall (Load c)) opens.1
          its.here one.there.path_is outermost (h.Open found.0 found.1))
          (says_node replaced)
