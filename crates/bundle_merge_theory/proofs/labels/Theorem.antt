-- Theorem of this folder (`export-top`, `namespace-top` and the like): each label that is meant is
-- declared at the top of the item of a due cause, or is one of the function of a CommonJS module.
-- Used by folders `together`, `undoubled` and by the crate `bundle_merge_names`.
use Rattle.std.proofs.Common.{◌≡◌, ◌⊎◌, inl, inr, ℕ, List, Option, Some, Contains, refl, subst, zero, suc, Bool, true, false, not, [], ◌∷◌, None, sym, ap, ◌∙◌, cond, if◌then◌else◌, arith}
use Rattle.std.specs.Prelude.{IsTrue, find, filter, slice_get}
use Rattle.std.proofs.lemmas.Bool.{false≢true, true≢false}
use Rattle.std.proofs.lemmas.List.Elements.{Contains-append_right}
use Rattle.std.proofs.lemmas.Option.{none-some, slice_get_within}
use Rattle.bundle_tree_names.specs.FileName.{Name as FileName, real}
use Rattle.bundle_order_graph.specs.Walks.{itself, along}
use Rattle.bundle_order_graph.proofs.WalkLemmas.{Reaches-trans}
use Rattle.bundle_syntax.specs.Item as h
use Rattle.bundle_syntax.specs.Item.{Item}
use Rattle.bundle_rules.specs.Nodes.{Text, has_text, has_head}
use Rattle.bundle_rules.specs.Scopes.{ModuleKind, Top, Es, Scope, Wrapper, scopes_around}
use Rattle.bundle_rules.specs.Denotes.{Bound, Denoted, Global, bound_in, own_or_found, denoted_of, denoted_at}
use Rattle.bundle_rules.specs.Places.{occurrence_at, Occurrence}
use Rattle.bundle_rules.specs.Entries.{Taken, Named, declared_requests, Whole, RequireCall, requests_of, has_import_meta, is_import_meta, is_script, require_calls}
use Rattle.bundle_rules.specs.Program.{Program, tree_of, IsReached, resolves, calls_of, Requests}
use Rattle.bundle_rules.specs.Linking.{IsCommonJs, Target, Declared, Namespace, External, CommonJs, IsModule, Takes, of_external, of_common_js, of_module, Origin, Gives, declaration, namespace_import, taken, given_on, starred, Linked, StandsFor, declared, imported, taken_whole}
use Rattle.bundle_rules.specs.Meaning.{plain, Of, HasKind, is_es, is_common_js, ReadsAs, by_name, by_read, Label, Parameter, Load, Meta, Helper, denoted, own_view, is_meta_at, Replacement, Replaced, static_read, import_meta, require_call, OwnName, at_top, parameter, label_of, SaysAt, says_name, says_node, IsMeant, by_statement, by_export, by_namespace}
use Rattle.bundle_rules.specs.Reads.{read_word}
use Rattle.bundle_rules.specs.Declarations.{BySymbol, Name, Declared as Declaration, declared as declared_labels, declaration_of}
use Rattle.bundle_rules.specs.Homes.{binds, is_wrapper}
use Rattle.bundle_rules.specs.Statements.{Element, taken as taken_labels, written, own_statements}
use Rattle.bundle_rules.specs.Bound.{is_free}
use Rattle.bundle_rules.specs.Faults.{required_entry, required_es_module}
use Rattle.bundle_rules.specs.Bundle as b
use Rattle.bundle_link_index.proofs.AskedLemmas.{entry_asks, star_asks, none_there as none-there}
use Rattle.bundle_link_index.proofs.ProgramLemmas.{got as there-place, map_on, filter_map_on as some_on, once_on as texts-on}
use Rattle.bundle_link_targets.proofs.ListLemmas.{read-opens, map-some, not-open}
use Rattle.bundle_link.proofs.LeadLemmas.{bound_asks}
use Rattle.bundle_merge_theory.proofs.planned.RequestLemmas.{declared_leads, meant-reached}
use Rattle.bundle_merge_theory.specs.made.Alone.{AreTreesSound, IsTopLabel, own, adds, imports_name, imports_whole, defines, loads, holds_meta, holds_namespace}
use Rattle.bundle_merge_theory.specs.labels.Functions.{IsOfFunction, a_name, a_parameter}
use Rattle.bundle_merge_theory.proofs.labels.Tops.{IsOwnTop, top-declares, NoWrapper, over, next, around-none, home-none, declares-so}
use Rattle.bundle_merge_theory.proofs.labels.Locals.{local-top}
use Rattle.bundle_merge_theory.proofs.planned.OrderLemmas.{numbers-on, script-asks}

-- ---- given

-- a declaration is one of the top of a reached ES module, in an own statement, and a namespace is
-- that of a reached ES module
abbrev pub IsGiven : Program → Target → Type 0
IsGiven p (Declared m x) = IsReached p m × (IsCommonJs p m → ⊥) × IsOwnTop p m x
IsGiven p (Namespace d) = IsReached p d × (IsCommonJs p d → ⊥)
IsGiven p (External s its) = Unit {0}
IsGiven p (CommonJs m c its) = Unit {0}

pub given-space : (p : Program) (t : Target) (d : ℕ) → t ≡ Namespace d → IsGiven p t →
    IsReached p d × (IsCommonJs p d → ⊥)
given-space p t d e its = subst (IsGiven p) e its

module _ (p : Program) (list : List ℕ) (sound : AreTreesSound p list) where
  module-reached : {m d : ℕ} {s : Text} → IsModule p m s d → IsReached p m →
      Contains (declared_requests (tree_of p m)) s → IsReached p d
  module-reached {m = m} {d = d} {s = s} it reached asks =
      Reaches-trans reached (along (declared_leads p m d s asks it.resolved) itself)

  takes-given : {m : ℕ} {s : Text} {its : Taken} {t : Target} → Takes p m s its t → IsReached p m →
      Contains (declared_requests (tree_of p m)) s → IsGiven p t
  takes-given (of_external outside) reached asks = tt
  takes-given (of_common_js leads cjs) reached asks = tt
  takes-given (of_module it) reached asks = (module-reached it reached asks, it.es)

  -- what an ES module gives by its exports
  pub gives-given : {m : ℕ} {x : Text} {t : Target} {origin : Option Origin} →
      Gives p m x t origin →
      IsReached p m → (IsCommonJs p m → ⊥) → IsGiven p t
  gives-given (declaration {m} {x} {y} there none) reached es =
      let faultless = sound.faultless m reached in
      let fit = sound.fit.each m reached in (
        reached,
        es,
        top-declares p m fit y (local-top (tree_of p m) fit faultless.0 faultless.1 x y there) none,
      )
  gives-given (namespace_import {m} {x} {y} {t} entry there found takes) reached es =
      takes-given takes reached (bound_asks (tree_of p m) y entry found)
  gives-given (taken {m} {x} {s} {what} {t} there takes) reached es =
      takes-given takes reached (entry_asks (tree_of p m) x s what there)
  gives-given (given_on {m} {d} {x} {s} {y} {t} {origin} there its gives) reached es =
      gives-given gives (module-reached its reached (entry_asks (tree_of p m) x s (Named y) there))
      its.es
  gives-given (starred {m} {d} {x} {s} {t} {origin} none other there its gives) reached es =
      gives-given gives (module-reached its reached (star_asks (tree_of p m) s there)) its.es

  pub linked-given : {m : ℕ} {x : Text} {t : Target} → Linked p m x t → IsReached p m →
      (IsCommonJs p m → ⊥) → IsGiven p t
  linked-given linked reached es = gives-given linked.given reached es

  -- what a name of the top of an ES module stands for
  pub stands-given : {m : ℕ} {x : Text} {t : Target} → StandsFor p m x t → IsReached p m →
      (IsCommonJs p m → ⊥) → IsGiven p t
  stands-given {m = m} (declared {x} there none) reached es =
      (reached, es, top-declares p m (sound.fit.each m reached) x there none)
  stands-given {m = m} (imported {x} {y} {d} {t} entry found name its linked) reached es =
      linked-given linked (module-reached its reached (bound_asks (tree_of p m) x entry found))
      its.es
  stands-given {m = m} (taken_whole {x} {t} entry found takes) reached es =
      takes-given takes reached (bound_asks (tree_of p m) x entry found)

  -- of a module of any kind: a name that a CommonJS module declares is one of its function
  pub stands-so : {m : ℕ} {x : Text} {t : Target} {kind : ModuleKind} → StandsFor p m x t →
      IsReached p m → HasKind p m kind → IsGiven p t ⊎ IsOfFunction p (Of t)
  stands-so stands reached (is_es es) = inl (stands-given stands reached es)
  stands-so (declared there none) reached (is_common_js cjs) = inr (a_name reached cjs)
  stands-so {m = m} (imported {x} {y} {d} {t} entry found name its linked) reached
      (is_common_js cjs) =
      inl
      (linked-given linked (module-reached its reached (bound_asks (tree_of p m) x entry found))
      its.es)
  stands-so {m = m} (taken_whole {x} {t} entry found takes) reached (is_common_js cjs) =
      inl (takes-given takes reached (bound_asks (tree_of p m) x entry found))

  -- ---- reads
  -- a namespace that is read is that of a reached ES module
  stands-space : {m : ℕ} {x : Text} {t : Target} → StandsFor p m x t → IsReached p m → (d : ℕ) →
      t ≡ Namespace d → IsReached p d × (IsCommonJs p d → ⊥)
  stands-space (declared there none) reached d e = cc
  stands-space {m = m} (imported {x = x} {y = y} {d = k} {t = t} entry found name its linked)
      reached d e =
      given-space p t d e
      (linked-given linked (module-reached its reached (bound_asks (tree_of p m) x entry found))
      its.es)
  stands-space {m = m} (taken_whole {x} {t} entry found takes) reached d e =
      given-space p t d e (takes-given takes reached (bound_asks (tree_of p m) x entry found))

  reads-space : {m place : ℕ} {t : Target} → ReadsAs p m place t → IsReached p m → (d : ℕ) →
      t ≡ Namespace d → IsReached p d × (IsCommonJs p d → ⊥)
  reads-space (by_name denotes stands) reached d e = stands-space stands reached d e
  reads-space (by_read {place = q} {d = k} {x = x} {t = t} word reads linked) reached d e =
      let space = reads-space reads reached k refl in
      given-space p t d e (linked-given linked space.0 space.1)

  -- what a static read means
  pub reads-given : {m place : ℕ} {x : Text} {t : Target} → read_word (tree_of p m) place ≡ Some x →
      ReadsAs p m place t → IsReached p m → IsGiven p t
  reads-given {m = m} {place = place} {x = y} word (by_name {x = x} denotes stands) reached =
      let opens = read-opens (tree_of p m) place y word in
      let there = map-some _ (occurrence_at (tree_of p m) place) (Bound Top (plain x)) denotes in
      absurd (not-open (tree_of p m) place there.0 there.1 opens.0 h.MemberExpr opens.1)
  reads-given word (by_read {place = q} {d = k} {x = x} {t = t} other reads linked) reached =
      let space = reads-space reads reached k refl in linked-given linked space.0 space.1

-- ---- in an ES module no name denotes a parameter of it
bound-scope : Denoted → Scope
bound-scope (Bound scope name) = scope
bound-scope (Global x) = Top

found-none : (test : Scope → Bool) (scopes : List Scope) → NoWrapper scopes → (name : Name) →
    is_wrapper (bound-scope (bound_in name (find test scopes))) ≡ false
unfolding bound-scope
found-none test [] over name = refl
found-none test (scope ∷ outer) (next e them) name =
    by (test scope) (found-none test outer them name)
  where
    by : (t : Bool) → is_wrapper (bound-scope (bound_in name (find test outer))) ≡ false →
        is_wrapper (bound-scope (bound_in name (cond t (Some scope) (find test outer)))) ≡ false
    by true ih = e
    by false ih = ih

occurrence-none : (all : List Declaration) (o : Occurrence) →
    is_wrapper (bound-scope (denoted_of BySymbol Es all o)) ≡ false
unfolding bound-scope
occurrence-none all o = by (declaration_of BySymbol Es o) refl
  where
    by : (d : Option Declaration) → declaration_of BySymbol Es o ≡ d →
        is_wrapper
        (bound-scope
        (own_or_found all
        (bound_in (plain o.sym)
        (find (λ s. binds all s (plain o.sym)) (scopes_around Es o.path))) d)) ≡ false
    by None e =
        found-none (λ s. binds all s (plain o.sym)) (scopes_around Es o.path) (around-none o.path)
        (plain o.sym)
    by (Some d) e = home-none all d o.path (declares-so o d e).scopes

pub es-none : (tree : List Item) (place : ℕ) (name : Name) →
    denoted_at BySymbol Es tree place ≡ Some (Bound Wrapper name) → ⊥
unfolding bound-scope
es-none tree place name e =
    let all = declared_labels BySymbol Es tree in
    let r =
    map-some (denoted_of BySymbol Es all) (occurrence_at tree place) (Bound Wrapper name) e in
    true≢false (sym (ap (λ d. is_wrapper (bound-scope d)) r.2) ∙ occurrence-none all r.0)

-- ---- where `import.meta` stands
meta-head : (items : List Item) (place : ℕ) → is_meta_at (slice_get items place) ≡ true →
    has_head is_import_meta items ≡ true
meta-head [] place e = absurd (false≢true e)
meta-head (h.Open field head ∷ rest) zero e =
    ap (λ t. elim t [ true ↦ true | false ↦ has_head is_import_meta rest ]) e
meta-head (h.Ident field x ctxt role ∷ rest) zero e = absurd (false≢true e)
meta-head (h.Hole field ∷ rest) zero e = absurd (false≢true e)
meta-head (h.Close ∷ rest) zero e = absurd (false≢true e)
meta-head (h.Open field head ∷ rest) (suc place) e =
    by (is_import_meta head) (meta-head rest place e)
  where
    by : (t : Bool) → has_head is_import_meta rest ≡ true →
        (elim t [ true ↦ true | false ↦ has_head is_import_meta rest ]) ≡ true
    by true ih = refl
    by false ih = ih
meta-head (h.Ident field x ctxt role ∷ rest) (suc place) e = meta-head rest place e
meta-head (h.Hole field ∷ rest) (suc place) e = meta-head rest place e
meta-head (h.Close ∷ rest) (suc place) e = meta-head rest place e

-- ---- what each label that is meant is
-- of a target what it is given as, or that it is of a function; of the function of a CommonJS module
-- that it is reached; of `import.meta` that it stands there
abbrev IsSaid : Program → Label → Type 0
IsSaid p (Of t) = IsGiven p t ⊎ IsOfFunction p (Of t)
IsSaid p (Parameter c x) = IsOfFunction p (Parameter c x)
IsSaid p (Load c) = IsReached p c × IsCommonJs p c
IsSaid p (Meta m) = IsReached p m × IsTrue (has_import_meta (tree_of p m))
IsSaid p Helper = ⊥

-- of a function only where it is a declaration
shared-of : (p : Program) {l : Label} → IsOfFunction p l → (d : ℕ) → l ≡ Of (Namespace d) → ⊥
shared-of p (a_name reached cjs) d e = cc
shared-of p (a_parameter reached cjs) d e = cc

module _ (p : Program) (list : List ℕ) (sound : AreTreesSound p list) where
  -- ---- literal calls
  call-settings : (m : ℕ) (call : RequireCall) → Contains (calls_of p m) call →
      IsTrue p.settings.require
  call-settings m call c = by p.settings.require refl c
    where
      by : (t : Bool) → p.settings.require ≡ t →
          Contains
          (if t then filter (λ k. not (has_text k.specifier p.settings.external))
          (require_calls (is_free (tree_of p m)) (tree_of p m)) else []) call →
          p.settings.require ≡ true
      by true e c = e
      by false e c = none-there call c

  call-requests : (m c : ℕ) (call : RequireCall) → Contains (calls_of p m) call →
      resolves p m call.specifier ≡ Some c → Requests p m c
  call-requests m c call there leads =
      numbers-on _ c
      (some_on (resolves p m) (requests_of p.settings (is_free (tree_of p m)) (tree_of p m))
      call.specifier c
      (texts-on _ call.specifier
      (Contains-append_right _ _ call.specifier
      (map_on (λ (k : RequireCall). k.specifier) (calls_of p m) call there)))
      leads)

  -- what a literal call of a reached module leads to is a reached CommonJS module
  pub call-given : (m c : ℕ) (call : RequireCall) → IsReached p m → Contains (calls_of p m) call →
      resolves p m call.specifier ≡ Some c → IsReached p c × IsCommonJs p c
  call-given m c call reached there leads = (
    Reaches-trans reached (along (call-requests m c call there leads) itself),
    record {
      linked = call-settings m call there;
      other = λ e. sound.checked m 0 call.place file _ (λ k. omega (arith, k)) reached
          (required_entry call there (leads ∙ ap (λ n. Some n) e));
      script = by (is_script (tree_of p c)) refl;
      used = inr (m, reached, record { call = call; stands = there; resolved = leads });
    },
  )
    where
      file : FileName
      file = real []

      by : (t : Bool) → is_script (tree_of p c) ≡ t → is_script (tree_of p c) ≡ true
      by true e = e
      by false e =
          absurd
          (sound.checked m 1 call.place file _ (λ k. omega (arith, k)) reached
          (required_es_module call there leads e))

  -- ---- what is said in a statement
  replaced-said : {m place : ℕ} {by : Replacement} → Replaced p m place by → IsReached p m →
      IsSaid p (label_of by)
  replaced-said (static_read word reads) reached = inl (reads-given p list sound word reads reached)
  replaced-said {m = m} {place = place} (import_meta is) reached =
      (reached, meta-head (tree_of p m) place is)
  replaced-said {m = m} (require_call {c = c} call there at leads) reached =
      call-given m c call reached there leads

  owns-said : {m : ℕ} {d : Denoted} {l : Label} (kind : ModuleKind) (e : Element) →
      OwnName p m d l →
      HasKind p m kind → denoted (own_view p m kind) e ≡ Some d → IsReached p m → IsSaid p l
  owns-said kind e (at_top stands) has denotes reached = stands-so p list sound stands reached has
  owns-said kind e (parameter {x = x}) (is_common_js cjs) denotes reached = a_parameter reached cjs
  owns-said {m = m} kind e (parameter {x = x}) (is_es es) denotes reached = absurd (by e denotes)
    where
      by : (e : Element) → denoted (own_view p m Es) e ≡ Some (Bound Wrapper (plain x)) → ⊥
      by (taken_labels place item) is = es-none (tree_of p m) place (plain x) is
      by (written (h.Open field head)) is = none-some _ is
      by (written (h.Ident field y ctxt role)) is = cc
      by (written (h.Hole field)) is = none-some _ is
      by (written h.Close) is = none-some _ is

  says-said : {m : ℕ} {e : Element} {l : Label} → SaysAt p m e l → IsReached p m → IsSaid p l
  says-said (says_name {kind = kind} {e = e} has denotes owns) reached =
      owns-said kind e owns has denotes reached
  says-said (says_node replaced) reached = replaced-said replaced reached

  -- the module of a namespace that is said
  said-space : (d : ℕ) → IsSaid p (Of (Namespace d)) → IsReached p d × (IsCommonJs p d → ⊥)
  said-space d (inl given) = given
  said-space d (inr of_function) = absurd (shared-of p of_function d refl)

  entry-es : IsCommonJs p p.entry → ⊥
  entry-es cjs = cjs.other refl

  -- what is meant is said
  meant-said : {l : Label} → IsMeant p l → IsSaid p l
  meant-said (by_statement reached stands there left says) = says-said says reached
  meant-said (by_export linked) = inl (linked-given p list sound linked itself entry-es)
  meant-said (by_namespace {d = d} means linked) =
      let space = said-space d (meant-said means) in
      inl (linked-given p list sound linked space.0 space.1)

  -- the module whose namespace is meant is a reached ES module
  pub meant-space : (d : ℕ) → IsMeant p (Of (Namespace d)) → IsReached p d × (IsCommonJs p d → ⊥)
  meant-space d means = said-space d (meant-said means)

  -- ---- what declares it
  -- a target that is given, and meant, is declared at the top of the item of a due cause
  pub given-top : (t : Target) → IsGiven p t → IsMeant p (Of t) → IsTopLabel p (Of t)
  given-top (Declared m x) its means =
      let top = its.2 in
      let at = there-place (own_statements (tree_of p m)) top.statement top.own in
      record {
        cause = b.Own m at.0;
        due =
            b.own its.0 its.1
            (slice_get_within (own_statements (tree_of p m)) at.0 top.statement at.1);
        declares = own top.statement top.element at.1 top.there top.declares;
      }
  given-top (Namespace d) its means = record {
    cause = b.HoldsNamespace d;
    due = b.holds_namespace means;
    declares = adds holds_namespace;
  }
  given-top (External s (Named x)) its means = record {
    cause = b.ImportsNames s;
    due = b.imports_names (meant-reached p means) means;
    declares = adds (imports_name means);
  }
  given-top (External s Whole) its means = record {
    cause = b.ImportsWhole s;
    due = b.imports_whole (meant-reached p means) means;
    declares = adds imports_whole;
  }
  given-top (CommonJs m c what) its means =
      let asked = meant-reached p means in
      record {
        cause = b.Loads m c;
        due = b.loads asked.0 (λ cjs. script-asks p m cjs asked.1.specifier asked.1.asks) asked.1;
        declares = adds (loads means);
      }

  -- the function of a reached CommonJS module, and the helper of those functions
  pub load-top : (c : ℕ) → IsReached p c → IsCommonJs p c → IsTopLabel p (Load c)
  load-top c reached cjs = record {
    cause = b.Defines c;
    due = b.defines reached cjs;
    declares = adds defines;
  }

  -- `import.meta` of a reached module in which it stands
  pub meta-top : (m : ℕ) → IsReached p m → IsTrue (has_import_meta (tree_of p m)) →
      IsTopLabel p (Meta m)
  meta-top m reached has = record {
    cause = b.HoldsMeta m;
    due = b.holds_meta reached has;
    declares = adds holds_meta;
  }

  said-top : (l : Label) → IsMeant p l → IsSaid p l → IsTopLabel p l ⊎ IsOfFunction p l
  said-top (Of t) means (inl given) = inl (given-top t given means)
  said-top (Of t) means (inr of_function) = inr of_function
  said-top (Parameter c x) means its = inr its
  said-top (Load c) means its = inl (load-top c its.0 its.1)
  said-top (Meta m) means its = inl (meta-top m its.0 its.1)
  said-top Helper means its = absurd its

  -- each label that is meant is declared at the top of the item of a due cause, or is a name or a
  -- parameter of a reached CommonJS module
  pub meant-top : {l : Label} → IsMeant p l → IsTopLabel p l ⊎ IsOfFunction p l
  meant-top {l = l} means = said-top l means (meant-said means)

  -- what is linked is declared at the top
  pub linked-top : {d : ℕ} {x : Text} {t : Target} → IsReached p d → (IsCommonJs p d → ⊥) →
      Linked p d x t → IsMeant p (Of t) → IsTopLabel p (Of t)
  linked-top {t = t} reached es linked means =
      given-top t (linked-given p list sound linked reached es) means

  pub export-top : {x : Text} {t : Target} → Linked p p.entry x t → IsTopLabel p (Of t)
  export-top linked = linked-top itself entry-es linked (by_export linked)

  pub namespace-top : {d : ℕ} {x : Text} {t : Target} → IsMeant p (Of (Namespace d)) →
      Linked p d x t →
      IsTopLabel p (Of t)
  namespace-top {d = d} means linked =
      let space = meant-space d means in
      linked-top space.0 space.1 linked (by_namespace means linked)
