-- What names of a statement mean by what they denote: a binding inside, what the top or the wrapper
-- stands for, a
-- global; and that it is meant.
use Rattle.std.proofs.Common.{◌≡◌, ℕ, suc, true, false, ◌&&◌, List, [], ◌∷◌, Option, Some, None, map, filter, refl, sym, ap, ◌∙◌, subst, arith}
use Rattle.std.specs.Prelude.{Contains, filter_map, is_some, position}
use Rattle.std.specs.List.{list_any}
use Rattle.std.proofs.lemmas.Bool.{and_from, le-leb}
use Rattle.std.proofs.lemmas.Option.{same_Some}
use Rattle.bundle_syntax.specs.Item as h
use Rattle.bundle_syntax.specs.Item.{Item}
use Rattle.bundle_rules.specs.Places.{Occurrence, path_at, occurrences_from}
use Rattle.bundle_rules.specs.Scopes.{ModuleKind, Es, Cjs, Scope, Wrapper, Top, Inner}
use Rattle.bundle_rules.specs.Declarations.{BySymbol, Name}
use Rattle.bundle_rules.specs.Denotes.{Denoted, Bound, Global, denoted_at}
use Rattle.bundle_rules.specs.Mentions.{same_denoted, each_denoted_once}
use Rattle.bundle_rules.specs.Nodes.{Text}
use Rattle.bundle_rules.specs.Statements.{TopItem, Element, taken, taken_from}
use Rattle.bundle_rules.specs.Entries.{ImportEntry, imports_of, import_of}
use Rattle.bundle_rules.specs.Program.{Program, tree_of}
use Rattle.bundle_rules.specs.Linking.{imports, IsCommonJs, Target, Declared, declared as is_declared}
use Rattle.bundle_rules.specs.Meaning.{Label, Of, Parameter, Meant, Inside, Known, Unbound, NameMeans, OwnName, at_top, parameter, HasKind, is_es, is_common_js, plain, is_inside, denoted, own_view, own_sense, IsLeft, Replaced, ByCall, Load, says_name, IsMeant, by_statement}
use Rattle.bundle_rules.specs.Meaning as n
use Rattle.bundle_tree_places.specs.Stated.{is_in_statement}
use Rattle.bundle_link_tables.specs.Used.{is_bound_at_top, is_use}
use Rattle.bundle_link_targets.specs.Meant.{done}
use Rattle.bundle_link_targets.proofs.ListLemmas.{imports-es}
use Rattle.bundle_scope_names.proofs.Numbering.{context_of}
use Rattle.bundle_merge_theory.proofs.noted.Statements.{denoted_elements}
use Rattle.bundle_merge_theory.proofs.noted.Spots.{around_spot}
use Rattle.bundle_merge_theory.proofs.noted.Names.{StandsThere}
use Rattle.bundle_merge_theory.proofs.noted.Inner.{position-outside, inside-position, any-there}
use Rattle.bundle_merge_theory.specs.made.Given.{BundleContexts, numbers_in, ident_of_label}
use Rattle.bundle_merge_theory.specs.made.Steps.{IsTargetUsed, IsCalled}
use Rattle.bundle_merge_theory.specs.made.Told.{denoted_in_module, kept_ident, IsNamedFor}
use Rattle.bundle_merge_theory.specs.made.Told as t
use Rattle.bundle_merge_theory.proofs.told.Calls.{called_by, top_left, other_left, IsCalledSo, called_so, top_named}
use Rattle.bundle_merge_theory.proofs.told.Meaning.{use_means}
use Rattle.bundle_merge_theory.proofs.told.Defaults.{IsSet, IsOf, here, whole, all_nodes}

module _ (p : Program) (list : List ℕ) (m : ℕ) (kind : ModuleKind) (statement : List Element)
    (top : TopItem)
    (set : IsSet p list m kind statement top) where
  -- what the occurrences of the top item denote
  abbrev pub denoted_in : List Denoted
  denoted_in = map (denoted_in_module p m kind) (occurrences_from
      (here p list m kind statement top set).s top.items)

  abbrev pub inner_here : List Denoted
  inner_here = each_denoted_once (filter (is_inside 0) denoted_in)

  abbrev its : StandsThere (tree_of p m) (around_spot h.Module 0 0 ∷ []) top
  its = here p list m kind statement top set

  abbrev pub IsOne : Occurrence → Type 0
  IsOne o = IsOf p list m kind statement top set o

  -- a binding inside has a number
  pub inside_found : (d : Denoted) → is_inside 0 d ≡ true → Contains denoted_in d →
      (k : ℕ) × (position (same_denoted d) inner_here ≡ Some k)
  inside_found d is there =
      let elements : filter_map (denoted (own_view p m kind)) (taken_from its.s.place top.items)
      ≡ denoted_in =
      denoted_elements (own_view p m kind) its.s top.items its.tail its.at in
      subst (λ (ds : List Denoted). (k : ℕ) × (position (same_denoted d)
      (each_denoted_once (filter (is_inside 0) ds)) ≡ Some k))
      elements
      (inside-position (own_view p m kind) 0 (taken_from its.s.place top.items) d
      (subst (λ (ds : List Denoted). list_any (same_denoted d) (filter (is_inside 0) ds) ≡ true)
      (sym elements)
      (any-there 0 d denoted_in is there)))

  -- a name that is left and stands for a label means it
  pub name_meant : (o : Occurrence) → IsOne o → (d : Denoted) → denoted_in_module p m kind o ≡ d →
      (l : Label) → OwnName p m d l →
      ((e : Item) → IsLeft p m (taken o.place e)) → IsMeant p l
  name_meant o one d is l stands left =
      by_statement {e = taken o.place one.item} set.reached set.own one.element (left one.item)
      (says_name set.has_kind (one.denotes kind ∙ ap Some is) stands)

  -- ---- imports
  script_none : IsCommonJs p m → (x : Text) → import_of (imports p m) x ≡ None
  script_none common x = by (import_of (imports p m) x) refl
    where
      by : (o : Option ImportEntry) → import_of (imports p m) x ≡ o → o ≡ None
      by None is = refl
      by (Some entry) is = absurd (imports-es p m x entry is common)

  used : (o : Occurrence) → IsOne o → (name : Name) → denoted_in_module p m Es o ≡ Bound Top name →
      (entry : ImportEntry) →
      import_of (imports p m) o.sym ≡ Some entry → is_use (tree_of p m) o ≡ true
  used o one name is entry bound =
      and_from (is_bound_at_top (denoted_at BySymbol Es (tree_of p m) o.place))
      (is_some (import_of (imports_of (tree_of p m)) o.sym) && is_in_statement
      (path_at (tree_of p m) o.place))
      (ap is_bound_at_top (one.denotes Es ∙ ap Some is))
      (and_from (is_some (import_of (imports_of (tree_of p m)) o.sym))
      (is_in_statement (path_at (tree_of p m) o.place)) (ap is_some bound) one.inside)

  -- what is no use is not imported
  import_none : (o : Occurrence) → IsOne o → ((n : ℕ) (t : Target) → IsTargetUsed p m o n t → ⊥) →
      (name : Name) →
      denoted_in_module p m Es o ≡ Bound Top name → import_of (imports p m) o.sym ≡ None
  import_none o one unused name is = by (import_of (imports p m) o.sym) refl
    where
      by : (e : Option ImportEntry) → import_of (imports p m) o.sym ≡ e → e ≡ None
      by None bound = refl
      by (Some entry) bound =
          absurd (use_means p list set.sound m set.reached o (used o one name is entry bound)
          unused)

  called : (its : ModuleKind) (o : Occurrence) (scope : Scope) (name : Name) →
      denoted_in_module p m its o ≡ Bound scope name → name ≡ plain o.sym
  called its o scope name is =
      subst (λ d. IsCalledSo d o.sym) is (called_so its (tree_of p m) o)

  -- what keeps its name is left
  pub kept_left : (o : Occurrence) → IsOne o → ((n : ℕ) (t : Target) → IsTargetUsed p m o n t → ⊥) →
      ((c : ℕ) → IsCalled p m o c → ⊥) → (e : Item) → IsLeft p m (taken o.place e)
  kept_left o one unused uncalled = by (denoted_in_module p m Es o) refl
    where
      no_call : (begins c : ℕ) → suc begins ≡ o.place → Replaced p m begins (ByCall (Load c)) → ⊥
      no_call begins c far is = uncalled c (called_by p m o begins c far is)

      other : (d : Denoted) → denoted_in_module p m Es o ≡ d →
          ((x : Text) → d ≡ Bound Top (plain x) → ⊥) → (e : Item) → IsLeft p m (taken o.place e)
      other d is apart =
          other_left p m (whole p list m kind statement top set)
          (all_nodes p list m kind statement top set) o one.at one.there
          (λ x denotes t stands. apart x (sym is ∙ same_Some (denoted_in_module p m Es o)
          (Bound Top (plain x)) (sym (one.denotes Es) ∙ denotes)))
          no_call

      by : (d : Denoted) → denoted_in_module p m Es o ≡ d → (e : Item) → IsLeft p m (taken o.place e)
      by (Bound Top name) is =
          top_left p m (whole p list m kind statement top set) o one.at o.sym
          (one.denotes Es ∙ ap Some is ∙ ap (λ n. Some (Bound Top n)) (called Es o Top name is))
          (Declared m o.sym)
          (record {
            named = Declared m o.sym;
            stands = is_declared (top_named Es (tree_of p m) o name one.at is)
                (import_none o one unused name is);
            reads = done (λ d x rest u e words linked. cc);
          })
      by (Bound Wrapper name) is = other (Bound Wrapper name) is (λ x e. cc)
      by (Bound (Inner k b) name) is = other (Bound (Inner k b) name) is (λ x e. cc)
      by (Global x) is = other (Global x) is (λ y e. cc)

  -- ---- what keeps its name means
  pub record KeptName (context : BundleContexts) (o : Occurrence) : Type 0 where
    pub meant : Meant
    pub means : NameMeans (own_sense p m kind) inner_here (denoted_in_module p m kind o) meant
    pub named : IsNamedFor p list context m kind inner_here o meant (kept_ident p context m kind o)

  outside_none : (d : Denoted) → is_inside 0 d ≡ false → position (same_denoted d) inner_here ≡ None
  outside_none d out = position-outside 0 d denoted_in out

  pub own_means : (d : Denoted) (scope : Scope) (name : Name) (l : Label) → d ≡ Bound scope name →
      is_inside 0 d ≡ false → OwnName p m d l →
      NameMeans (own_sense p m kind) inner_here d (Known l)
  own_means d scope name l is out stands =
      subst (λ e. NameMeans (own_sense p m kind) inner_here e (Known l)) (sym is)
      (n.outside (outside_none (Bound scope name) (ap (is_inside 0) (sym is) ∙ out))
      (subst (λ e. OwnName p m e l) is stands))

  kept_import : (its : ModuleKind) → HasKind p m its → (o : Occurrence) → IsOne o →
      ((n : ℕ) (t : Target) → IsTargetUsed p m o n t → ⊥) →
      (name : Name) → denoted_in_module p m its o ≡ Bound Top name →
      import_of (imports p m) o.sym ≡ None
  kept_import Es (is_es es) o one unused name is = import_none o one unused name is
  kept_import Cjs (is_common_js common) o one unused name is = script_none common o.sym

  pub kept_name : (context : BundleContexts) (o : Occurrence) → IsOne o →
      ((n : ℕ) (t : Target) → IsTargetUsed p m o n t → ⊥) →
      ((e : Item) → IsLeft p m (taken o.place e)) → KeptName context o
  kept_name context o one unused left = by (denoted_in_module p m kind o) refl
    where
      known : (d : Denoted) (scope : Scope) (name : Name) (l : Label) →
          denoted_in_module p m kind o ≡ d → d ≡ Bound scope name →
          is_inside 0 d ≡ false → OwnName p m d l → ident_of_label p list context l
          ≡ kept_ident p context m kind o → KeptName context o
      known d scope name l is bound out stands ident = record {
        meant = Known l;
        means =
            subst (λ e. NameMeans (own_sense p m kind) inner_here e (Known l)) (sym is)
            (own_means d scope name l bound out stands);
        named =
            subst (λ i. IsNamedFor p list context m kind inner_here o (Known l) i) ident
            (t.known (ap (is_inside 0) is ∙ out) (name_meant o one d is l stands left));
      }

      by : (d : Denoted) → denoted_in_module p m kind o ≡ d → KeptName context o
      by (Bound Top name) is =
          let same : name ≡ plain o.sym = called kind o Top name is in
          let there : denoted_in_module p m kind o ≡ Bound Top (plain o.sym) =
          is ∙ ap (Bound Top) same in
          known (Bound Top (plain o.sym)) Top (plain o.sym) (Of (Declared m o.sym)) there refl refl
          (at_top (is_declared (top_named kind (tree_of p m) o name one.at is)
          (kept_import kind set.has_kind o one unused name is)))
          (ap (λ d. (o.sym, context_of (numbers_in context m) d)) (sym there))
      by (Bound Wrapper name) is =
          let same : name ≡ plain o.sym = called kind o Wrapper name is in
          let there : denoted_in_module p m kind o ≡ Bound Wrapper (plain o.sym) =
          is ∙ ap (Bound Wrapper) same in
          known (Bound Wrapper (plain o.sym)) Wrapper (plain o.sym) (Parameter m o.sym) there refl
          refl parameter
          (ap (λ d. (o.sym, context_of (numbers_in context m) d)) (sym there))
      by (Bound (Inner k b) name) is =
          let inner : is_inside 0 (denoted_in_module p m kind o) ≡ true =
          ap (is_inside 0) is ∙ le-leb 0 b (omega arith) in
          let found = inside_found (denoted_in_module p m kind o) inner one.listed in
          record {
            meant = Inside found.0;
            means = n.inside found.1;
            named =
                t.inside found.1 inner;
          }
      by (Global x) is =
          let same : x ≡ o.sym = subst (λ d. IsCalledSo d o.sym) is
          (called_so kind (tree_of p m) o) in
          let there : denoted_in_module p m kind o ≡ Global o.sym = is ∙ ap Global same in
          record {
            meant = Unbound o.sym;
            means = subst (λ e. NameMeans (own_sense p m kind) inner_here e (Unbound o.sym))
                (sym there) n.unbound;
            named =
                subst (λ i. IsNamedFor p list context m kind inner_here o (Unbound o.sym) i)
                (ap (λ d. (o.sym, context_of (numbers_in context m) d)) (sym there))
                (t.unbound there);
          }
