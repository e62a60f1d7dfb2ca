-- Two programs that are one but for the numbers of their modules link alike.
use Rattle.std.proofs.Common.{◌≡◌, inl, inr, ℕ, Bool, true, false, not, List, [], ◌++◌, Option, Some, None, Contains, refl, sym, ap, ap₂, ◌∙◌, subst, if◌then◌else◌}
use Rattle.std.specs.Prelude.{filter, map}
use Rattle.std.proofs.lemmas.Option.{none-some}
use Rattle.bundle_syntax.specs.Item.{Item}
use Rattle.bundle_order_graph.specs.Walks.{Reaches, itself, along}
use Rattle.bundle_rules.specs.Nodes.{Text, has_text, each_once}
use Rattle.bundle_rules.specs.Bound.{is_free}
use Rattle.bundle_rules.specs.Entries.{Taken, Named, ImportEntry, ExportEntry, Local, Indirect, Star, RequireCall, declared_requests, require_calls, requests_of, import_of, is_script, imports_of, exports_of, has_own_entry}
use Rattle.bundle_rules.specs.Program.{Program, tree_of, resolves, is_external, calls_of, Requests, IsReached}
use Rattle.bundle_rules.specs.Faults.{StarsExternal}
use Rattle.bundle_rules.specs.Judging.{requests_in}
use Rattle.bundle_rules.specs.Linking.{exports, imports, IsRequired, IsCommonJs, Target, Declared, Namespace, External, CommonJs, IsModule, Takes, of_external, of_common_js, of_module, Origin, Gives, declaration, namespace_import, taken, given_on, starred, Linked, IsMissing, HasExternalStar, own, through}
use Rattle.bundle_link.specs.Alike.{IsAlike}
use Rattle.bundle_rules.specs.Tables.{AreTwo}
use Rattle.bundle_link_index.proofs.AskedLemmas.{entry_asks, star_asks}
use Rattle.bundle_link.proofs.LeadLemmas.{declared_requested, called_requested, resolved_inside, bound_asks}
pub use Rattle.bundle_link.proofs.GraphLemmas.{later, first_or_later, filter_back, some_back, some_on}
use Rattle.bundle_link_index.proofs.ProgramLemmas.{UsesNames as Uses}
use Rattle.bundle_link_targets.proofs.CalledLemmas.{numbers-back as once_back}
pub use Rattle.bundle_link_targets.proofs.CalledLemmas.{numbers-on as once_on}

-- ---- one program with two numberings
abbrev asks : Bool → List Text → List Item → List Text
asks require external tree = each_once (filter (λ s. not (has_text s external)) (declared_requests tree)
    ++ map (λ call. call.specifier) (if require then filter (λ call. not (has_text call.specifier external)) (require_calls (is_free tree) tree) else []))

-- modules that stand for each other request the same
pub same_asked : (p q : Program) (R : ℕ → ℕ → Type 0) (w : IsAlike p q R) (a b : ℕ) → R a b → requests_in p.settings (tree_of p a) ≡ requests_in q.settings (tree_of q b)
same_asked p q R w a b r = ap (λ x. asks x p.settings.external (tree_of p a)) w.require ∙ ap (λ x. asks q.settings.require x (tree_of p a)) w.external ∙ ap (asks q.settings.require q.settings.external) (w.tree a b r)

pub flip : {p q : Program} {R : ℕ → ℕ → Type 0} → IsAlike p q R → IsAlike q p (λ a b. R b a)
flip {p = p} {q = q} {R = R} w = record {
  one = λ a b c h k. w.other a b c h k;
  other = λ a b c h k. w.one a b c h k;
  require = sym w.require;
  external = sym w.external;
  iife = sym w.iife;
  in_standard_order = sym w.in_standard_order;
  entry = w.entry;
  tree = λ a b r. sym (w.tree b a r);
  leads = λ a b c s r asked e. w.back b a c s r (asked_back b a s r asked) e;
  back = λ a b d s r asked e. w.leads b a d s r (asked_back b a s r asked) e;
}
  where
    asked_back : (a b : ℕ) (s : Text) → R a b → Contains (requests_in q.settings (tree_of q b)) s → Contains (requests_in p.settings (tree_of p a)) s
    asked_back a b s r = subst (λ texts. Contains texts s) (sym (same_asked p q R w a b r))

abbrev calls : Bool → List Text → List Item → List RequireCall
calls require external tree = if require then filter (λ call. not (has_text call.specifier external)) (require_calls (is_free tree) tree) else []

module _ (p q : Program) (R : ℕ → ℕ → Type 0) (w : IsAlike p q R) where
  pub same_outside : (s : Text) → is_external p s ≡ is_external q s
  same_outside s = ap (has_text s) w.external

  -- where a request leads
  pub resolves_on : (a b c : ℕ) (s : Text) → R a b → Contains (requests_in p.settings (tree_of p a)) s → resolves p a s ≡ Some c → (d : ℕ) × R c d × (resolves q b s ≡ Some d)
  resolves_on a b c s r asked e = by (is_external p s) refl e
    where
      by : (t : Bool) → is_external p s ≡ t → (if t then None else p.leads a s) ≡ Some c → (d : ℕ) × R c d × (resolves q b s ≡ Some d)
      by true is e = absurd (none-some c e)
      by false is e = let l = w.leads a b c s r asked e in (l.0, l.1, ap (λ t. if t then None else q.leads b s) (sym (same_outside s) ∙ is) ∙ l.2)

  -- where what a declaration asks for leads
  pub declared_on : (a b c : ℕ) (s : Text) → R a b → Contains (declared_requests (tree_of p a)) s → resolves p a s ≡ Some c → (d : ℕ) × R c d × (resolves q b s ≡ Some d)
  declared_on a b c s r asked e = resolves_on a b c s r (declared_requested p.settings (tree_of p a) s asked (resolved_inside p a c s e)) e

  -- where a linked call leads
  pub called_on : (a b c : ℕ) (call : RequireCall) → R a b → Contains (calls_of p a) call → resolves p a call.specifier ≡ Some c → (d : ℕ) × R c d × (resolves q b call.specifier ≡ Some d)
  called_on a b c call r stands e = resolves_on a b c call.specifier r (called_requested p a call stands) e

  pub same_calls : (a b : ℕ) → R a b → calls_of p a ≡ calls_of q b
  same_calls a b r = ap (λ x. calls x p.settings.external (tree_of p a)) w.require ∙ ap (λ x. calls q.settings.require x (tree_of p a)) w.external ∙ ap (calls q.settings.require q.settings.external) (w.tree a b r)

  requests_on : (a b c : ℕ) → R a b → Requests p a c → (d : ℕ) × R c d × Requests q b d
  requests_on a b c r there =
      let k = some_back (resolves p a) (requests_of p.settings (is_free (tree_of p a)) (tree_of p a)) c (once_back _ c there) in
      let l = resolves_on a b c k.0 r k.1 k.2 in
      (l.0, l.1, once_on _ l.0 (some_on (resolves q b) (requests_of q.settings (is_free (tree_of q b)) (tree_of q b)) k.0 l.0 (subst (λ texts. Contains texts k.0) (same_asked p q R w a b r) k.1) l.2))

  reaches_on : (a c : ℕ) → Reaches (Requests p) a c → (b : ℕ) → R a b → (d : ℕ) × R c d × Reaches (Requests q) b d
  reaches_on a c (itself) b r = (b, r, itself)
  reaches_on a c (along {b = m} edge more) b r =
      let k = requests_on a b m r edge in
      let l = reaches_on m c more k.0 k.1 in
      (l.0, l.1, along k.2 l.2)

  pub reached_on : (a : ℕ) → IsReached p a → (b : ℕ) × R a b × IsReached q b
  reached_on a is = reaches_on p.entry a is q.entry w.entry

  required_on : (a b : ℕ) → R a b → IsRequired p a → IsRequired q b
  required_on a b r (n, reached, requires) =
      let k = reached_on n reached in
      let l = called_on n k.0 a requires.call k.1 requires.stands requires.resolved in
      (k.0, k.2, record { call = requires.call; stands = subst (λ l. Contains l requires.call) (same_calls n k.0 k.1) requires.stands; resolved = l.2 ∙ ap (λ d. Some d) (w.one a l.0 b l.1 r) })

  pub common_js_on : (a b : ℕ) → R a b → IsCommonJs p a → IsCommonJs q b
  common_js_on a b r is = record {
    linked = sym w.require ∙ is.linked;
    other = λ e. is.other (w.other b a p.entry r (subst (R p.entry) (sym e) w.entry));
    script = ap is_script (sym (w.tree a b r)) ∙ is.script;
    used = elim is.used [
      | inl uses ↦ inl (subst Uses (w.tree a b r) uses)
      | inr required ↦ inr (required_on a b r required)
    ];
  }

-- ---- targets
pub data AlikeTarget (R : ℕ → ℕ → Type 0) : Target → Target → Type 0 where
  declared : {a b : ℕ} {x : Text} → R a b → AlikeTarget R (Declared a x) (Declared b x)
  namespace : {a b : ℕ} → R a b → AlikeTarget R (Namespace a) (Namespace b)
  external : {s : Text} {what : Taken} → AlikeTarget R (External s what) (External s what)
  common_js : {a b c d : ℕ} {what : Taken} → R a b → R c d → AlikeTarget R (CommonJs a c what) (CommonJs b d what)

-- origins
abbrev pub AlikeOrigin : (ℕ → ℕ → Type 0) → Option Origin → Option Origin → Type 0
AlikeOrigin R None None = Unit {0}
AlikeOrigin R (Some a) (Some b) = R a.which b.which × (a.local ≡ b.local)
AlikeOrigin R _ _ = ⊥

pub turned : {R : ℕ → ℕ → Type 0} {t u : Target} → AlikeTarget (λ a b. R b a) t u → AlikeTarget R u t
turned (declared r) = declared r
turned (namespace r) = namespace r
turned external = external
turned (common_js r k) = common_js r k

turned_origin : (R : ℕ → ℕ → Type 0) (a b : Option Origin) → AlikeOrigin (λ a b. R b a) a b → AlikeOrigin R b a
turned_origin R None None is = is
turned_origin R None (Some b) is = absurd is
turned_origin R (Some a) None is = absurd is
turned_origin R (Some a) (Some b) is = (is.0, sym is.1)

one_target : {R : ℕ → ℕ → Type 0} → ((a b c : ℕ) → R a b → R a c → b ≡ c) → {t u v : Target} → AlikeTarget R t u → AlikeTarget R t v → u ≡ v
one_target one (declared {a = a} {b = b} {x = x} r) (declared {b = c} k) = ap (λ m. Declared m x) (one a b c r k)
one_target one (namespace {a = a} {b = b} r) (namespace {b = c} k) = ap Namespace (one a b c r k)
one_target one external external = refl
one_target one (common_js {a = a} {b = b} {c = c} {d = d} {what = what} r k) (common_js {b = m} {d = n} h l) = ap₂ (λ x y. CommonJs x y what) (one a b m r h) (one c d n k l)

one_origin : (R : ℕ → ℕ → Type 0) → ((a b c : ℕ) → R a b → R a c → b ≡ c) → (o u v : Option Origin) → AlikeOrigin R o u → AlikeOrigin R o v → u ≡ v
one_origin R one None None None h k = refl
one_origin R one None None (Some c) h k = absurd k
one_origin R one None (Some b) v h k = absurd h
one_origin R one (Some a) None v h k = absurd h
one_origin R one (Some a) (Some b) None h k = absurd k
one_origin R one (Some a) (Some b) (Some c) h k = ap₂ (λ m x. let o : Origin = record { which = m; local = x } in Some o) (one a.which b.which c.which h.0 k.0) (sym h.1 ∙ k.1)

-- ---- what is given
pub record AlikeGives (q : Program) (R : ℕ → ℕ → Type 0) (b : ℕ) (x : Text) (t : Target) (origin : Option Origin) : Type 0 where
  pub target : Target
  pub its : Option Origin
  pub alike : AlikeTarget R t target
  pub from : AlikeOrigin R origin its
  pub given : Gives q b x target its

module _ (p q : Program) (R : ℕ → ℕ → Type 0) (w : IsAlike p q R) where
  exports_on : (a b : ℕ) (entry : ExportEntry) → R a b → Contains (exports p a) entry → Contains (exports q b) entry
  exports_on a b entry r = subst (λ tree. Contains (exports_of tree) entry) (w.tree a b r)

  pub binds_on : (a b : ℕ) (y : Text) (o : Option ImportEntry) → R a b → import_of (imports p a) y ≡ o → import_of (imports q b) y ≡ o
  binds_on a b y o r = subst (λ tree. import_of (imports_of tree) y ≡ o) (w.tree a b r)

  -- what a declaration asks for
  pub module_on : (a b d : ℕ) (s : Text) → R a b → Contains (declared_requests (tree_of p a)) s → IsModule p a s d → (k : ℕ) × R d k × IsModule q b s k
  module_on a b d s r asked is =
      let l = declared_on p q R w a b d s r asked is.resolved in
      (l.0, l.1, record { resolved = l.2; es = λ common. is.es (common_js_on q p (λ a b. R b a) (flip w) l.0 d l.1 common) })

  pub takes_on : {a : ℕ} {s : Text} {what : Taken} {t : Target} → Takes p a s what t → (b : ℕ) → R a b → Contains (declared_requests (tree_of p a)) s → (u : Target) × AlikeTarget R t u × Takes q b s what u
  takes_on {s = s} {what = what} (of_external e) b r asked = (External s what, external, of_external (sym (same_outside p q R w s) ∙ e))
  takes_on {a = a} {s = s} {what = what} (of_common_js {c = c} is common) b r asked =
      let l = declared_on p q R w a b c s r asked is in
      (CommonJs b l.0 what, common_js r l.1, of_common_js l.2 (common_js_on p q R w c l.0 l.1 common))
  takes_on {a = a} {s = s} (of_module {d = d} is) b r asked =
      let l = module_on a b d s r asked is in
      (Namespace l.0, namespace l.1, of_module l.2)

  pub gives_on : {a : ℕ} {x : Text} {t : Target} {origin : Option Origin} → Gives p a x t origin → (b : ℕ) → R a b → AlikeGives q R b x t origin
  gives_on {a = a} {x = x} (declaration {y = y} stands none) b r =
      record { target = Declared b y; its = None; alike = declared r; from = tt; given = declaration (exports_on a b (Local x y) r stands) (binds_on a b y None r none) }
  gives_on {a = a} {x = x} (namespace_import {y = y} entry stands bound takes) b r =
      let k = takes_on takes b r (bound_asks (tree_of p a) y entry bound) in
      record { target = k.0; its = Some (record { which = b; local = y }); alike = k.1; from = (r, refl); given = namespace_import entry (exports_on a b (Local x y) r stands) (binds_on a b y (Some entry) r bound) k.2 }
  gives_on {a = a} {x = x} (taken {s = s} {what = what} stands takes) b r =
      let k = takes_on takes b r (entry_asks (tree_of p a) x s what stands) in
      record { target = k.0; its = None; alike = k.1; from = tt; given = taken (exports_on a b (Indirect x s what) r stands) k.2 }
  gives_on {a = a} {x = x} (given_on {d = d} {s = s} {y = y} stands leads more) b r =
      let l = module_on a b d s r (entry_asks (tree_of p a) x s (Named y) stands) leads in
      let k = gives_on more l.0 l.1 in
      record { target = k.target; its = k.its; alike = k.alike; from = k.from; given = given_on (exports_on a b (Indirect x s (Named y)) r stands) l.2 k.given }
  gives_on {a = a} {x = x} (starred {d = d} {s = s} none named stands leads more) b r =
      let l = module_on a b d s r (star_asks (tree_of p a) s stands) leads in
      let k = gives_on more l.0 l.1 in
      record { target = k.target; its = k.its; alike = k.alike; from = k.from; given = starred (subst (λ tree. has_own_entry tree x ≡ false) (w.tree a b r) none) named (exports_on a b (Star s) r stands) l.2 k.given }

  outside_on : {a : ℕ} {s : Text} → HasExternalStar p a s → (b : ℕ) → R a b → HasExternalStar q b s
  outside_on {a = a} {s = s} (own stands e) b r = own (exports_on a b (Star s) r stands) (sym (same_outside p q R w s) ∙ e)
  outside_on {a = a} (through {d = d} {r = t} stands leads more) b r =
      let l = declared_on p q R w a b d t r (star_asks (tree_of p a) t stands) leads in
      through (exports_on a b (Star t) r stands) l.2 (outside_on more l.0 l.1)

  pub stars_on : (a b : ℕ) → R a b → StarsExternal p a → StarsExternal q b
  stars_on a b r (s, star) = (s, outside_on star b r)

module _ (p q : Program) (R : ℕ → ℕ → Type 0) (w : IsAlike p q R) where
  -- what is given on the other side is given on this one
  gives_back : (a b : ℕ) → R a b → {x : Text} {u : Target} {its : Option Origin} → Gives q b x u its → (t : Target) × (origin : Option Origin) × AlikeTarget R t u × AlikeOrigin R origin its × Gives p a x t origin
  gives_back a b r {u = u} {its = its} given =
      let k = gives_on q p (λ a b. R b a) (flip w) given a r in
      (k.target, k.its, turned k.alike, turned_origin R its k.its k.from, k.given)

  pub missing_on : (a b : ℕ) (x : Text) → R a b → IsMissing p a x → IsMissing q b x
  missing_on a b x r missing u its given = let k = gives_back a b r given in missing k.0 k.1 k.4

  pub linked_on : (a b : ℕ) (x : Text) (t : Target) → R a b → Linked p a x t → (u : Target) × AlikeTarget R t u × Linked q b x u
  linked_on a b x t r linked =
      let k = gives_on p q R w linked.given b r in (
        k.target,
        k.alike,
        record {
          origin = k.its;
          given = k.given;
          only = λ other its given.
              let l = gives_back a b r given in
              let same = linked.only l.0 l.1 l.4 in (
                one_target w.one (subst (λ y. AlikeTarget R y other) same.0 l.2) k.alike,
                one_origin R w.one linked.origin its k.its (subst (λ y. AlikeOrigin R y its) same.1 l.3) k.from,
              );
        },
      )

  pub two_on : (a b : ℕ) (x : Text) (first second : Target) → R a b → AreTwo p a x first second → (u : Target) × (v : Target) × AlikeTarget R first u × AlikeTarget R second v × AreTwo q b x u v
  two_on a b x first second r two =
      let k = gives_on p q R w two.gives_a b r in
      let l = gives_on p q R w two.gives_b b r in (
        k.target,
        l.target,
        k.alike,
        l.alike,
        record {
          of_a = k.its;
          of_b = l.its;
          gives_a = k.given;
          gives_b = l.given;
          differ = elim two.differ [
            | inl apart ↦ inl (λ same. apart (one_target {R = λ a b. R b a} (λ a b c h i. w.other a b c h i) (turned {R = λ a b. R b a} k.alike) (turned {R = λ a b. R b a} (subst (λ y. AlikeTarget R second y) (sym same) l.alike))))
            | inr apart ↦ inr (λ same. apart (one_origin (λ a b. R b a) (λ a b c h i. w.other a b c h i) k.its two.of_a two.of_b (turned_origin (λ a b. R b a) two.of_a k.its k.from) (turned_origin (λ a b. R b a) two.of_b k.its (subst (λ y. AlikeOrigin R two.of_b y) (sym same) l.from))))
          ];
        },
      )
