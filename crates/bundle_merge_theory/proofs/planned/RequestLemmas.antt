-- Targets and starred externals of programs that are one but for the numbers of their modules.
-- (Beside `linked_on` and
-- `stars_on` these three are proved too, but not handed on, so they stand here once more.)
-- What modules request, what the list has, and which modules, externals and targets are reached.
-- The order told by the sorted blocks alone is that of all items.
use Rattle.std.proofs.Common.{ℕ, sym, subst, ◌∙◌, ◌≡◌, inl, inr, ◌↔◌, not, nat_eq, List, [], Option, Some, ap, arith, zero, suc, ◌+◌, ◌∷◌, ◌++◌}
use Rattle.std.specs.Prelude.{Contains, flat_map}
use Rattle.std.proofs.lemmas.List.Elements.{Contains-append_left, Contains-append_cases}
use Rattle.std.proofs.lemmas.Map.Keys.{IsDistinct-from_apart}
use Rattle.bundle_order_graph.specs.Walks.{Reaches, itself, along}
use Rattle.bundle_order_graph.proofs.WalkLemmas.{Reaches-trans}
use Rattle.bundle_order_graph.proofs.OrderLemmas.{Lists-takes, Lists-closed, Lists-sound, Lists-apart}
use Rattle.bundle_rules.specs.Nodes.{Text, has_text}
use Rattle.bundle_rules.specs.Entries.{ExportEntry, Star, exports_of, Taken, Named, declared_requests, requests_of}
use Rattle.bundle_rules.specs.Program.{Program, tree_of, resolves, is_external, Requests, IsReached, IsList}
use Rattle.bundle_rules.specs.Linking.{exports, HasExternalStar, own, through, Target, Declared, Namespace, External, CommonJs, IsModule, Takes, of_external, of_common_js, of_module, Gives, declaration, namespace_import, taken, given_on, starred, Origin, Linked, StandsFor, declared, imported, taken_whole}
use Rattle.bundle_rules.specs.Bound.{is_free}
use Rattle.bundle_rules.specs.Meaning.{Label, Of, Replacement, ReadsAs, by_name, by_read, Replaced, static_read, import_meta, require_call, OwnName, at_top, parameter, label_of, SaysAt, says_name, says_node, IsMeant, by_statement, by_export, by_namespace}
use Rattle.bundle_rules.specs.Denotes.{Denoted}
use Rattle.bundle_rules.specs.Statements.{Element}
use Rattle.bundle_rules.specs.Bundle.{IsUsed, AsksCommonJs, externals}
use Rattle.bundle_order_sort.proofs.OnceLemmas.{IsOnce, IsOnce-from_distinct}
use Rattle.bundle_link_index.proofs.AskedLemmas.{star_asks, found, flat_back, flat_on, entry_asks}
use Rattle.bundle_link_index.proofs.ProgramLemmas.{first_or_later, filter_on, filter_map_on as some_on, once_back as texts-back, once_on as texts-on}
use Rattle.bundle_link_targets.proofs.ListLemmas.{first-there as here}
use Rattle.bundle_link.specs.Alike.{IsAlike}
use Rattle.bundle_link.proofs.AlikeLemmas.{declared_on, same_outside}
use Rattle.bundle_link.proofs.GraphLemmas.{filter_back}
use Rattle.bundle_link.proofs.LeadLemmas.{bound_asks, resolved_inside}
use Rattle.bundle_link.proofs.RequestLemmas.{passes}
use Rattle.bundle_merge_theory.proofs.planned.OrderLemmas.{no_element, numbers-on}
use Rattle.bundle_merge_theory.specs.planned.Decided.{numbers_from}

-- ---- alike
module _ (p q : Program) (R : ℕ → ℕ → Type 0) (w : IsAlike p q R) where
  exports_on : (a b : ℕ) (entry : ExportEntry) → R a b → Contains (exports p a) entry →
      Contains (exports q b) entry
  exports_on a b entry r = subst (λ tree. Contains (exports_of tree) entry) (w.tree a b r)

  -- what is starred on one side is starred on the other
  pub outside_on : {a : ℕ} {s : Text} → HasExternalStar p a s → (b : ℕ) → R a b →
      HasExternalStar q b s
  outside_on {a = a} {s = s} (own stands e) b r =
      own (exports_on a b (Star s) r stands) (sym (same_outside p q R w s) ∙ e)
  outside_on {a = a} (through {d = d} {r = t} stands leads more) b r =
      let l = declared_on p q R w a b d t r (star_asks (tree_of p a) t stands) leads in
      through (exports_on a b (Star t) r stands) l.2 (outside_on more l.0 l.1)

-- ---- requests
-- the module to which what a declaration asks for leads is requested
pub declared_leads : (p : Program) (m d : ℕ) (s : Text) →
    Contains (declared_requests (tree_of p m)) s → resolves p m s ≡ Some d → Requests p m d
declared_leads p m d s there leads =
    numbers-on _ d (some_on (resolves p m) (requests_of p.settings (is_free (tree_of p m)) (tree_of p m)) s d
    (texts-on _ s
    (Contains-append_left _ _ s
    (filter_on (λ s. not (has_text s p.settings.external))
    (declared_requests (tree_of p m)) s there
    (ap not (resolved_inside p m d s leads)))))
    leads)

-- ---- the list
pub list-reached : (p : Program) (list : List ℕ) → IsList p list → (m : ℕ) →
    Contains list m ↔ IsReached p m
list-reached p list is m = (
  forth,
  λ w. back w
      (elim (Contains-append_cases [] list p.entry (Lists-takes is p.entry (here p.entry [])))
      [ inl none ↦ absurd (no_element none) | inr c ↦ c ]),
)
  where
    forth : Contains list m → IsReached p m
    forth c = elim (Lists-sound is m c) [
      | inl none ↦ absurd (no_element none)
      | inr t ↦ elim (first_or_later p.entry [] t.0 t.1) [
        | inl e ↦ subst (λ k. Reaches (Requests p) k m) (sym e) t.2
        | inr none ↦ absurd (no_element none)
      ]
    ]

    back : {a : ℕ} → Reaches (Requests p) a m → Contains list a → Contains list m
    back itself c = c
    back {a = a} (along {b} e w) c =
        back w (Lists-closed is (λ x y d f. absurd (no_element d)) a b c e)

pub list-once : (p : Program) (list : List ℕ) → IsList p list → IsOnce list
list-once p list is =
    IsOnce-from_distinct list
    (Lists-apart is (record { once = IsDistinct-from_apart nat_eq [] (λ i j d h k. absurd (omega (arith, k))); other = λ x c d. no_element c })).once

-- ---- externals
pub used-listed : (p : Program) (list : List ℕ) → IsList p list → (s : Text) → IsUsed p s →
    Contains (externals p list) s
used-listed p list is s used =
    texts-on _ s (filter_on (λ s. is_external p s) (flat_map (λ m. declared_requests (tree_of p m)) list) s
    (flat_on (λ m. declared_requests (tree_of p m)) list used.which s
    ((list-reached p list is used.which).1 used.reached) used.asks)
    used.external)

pub listed-used : (p : Program) (list : List ℕ) → IsList p list → (s : Text) →
    Contains (externals p list) s → IsUsed p s
listed-used p list is s c =
    let kept = texts-back _ s c in
    let r =
    flat_back (λ m. declared_requests (tree_of p m)) list s
    (filter_back (λ s. is_external p s)
    (flat_map (λ m. declared_requests (tree_of p m)) list) s kept) in
    record {
      which = r.0;
      reached = (list-reached p list is r.0).0 r.1;
      asks = r.2;
      external =
          passes (λ s. is_external p s) (flat_map (λ m. declared_requests (tree_of p m)) list) s
          kept;
    }

pub star-used : (p : Program) {m : ℕ} {s : Text} → HasExternalStar p m s → IsReached p m →
    IsUsed p s
star-used p (own {m} {s} there outside) reached = record {
  which = m;
  reached = reached;
  asks = star_asks (tree_of p m) s there;
  external = outside;
}
star-used p (through {m} {d} {r} {s} there leads more) reached =
    star-used p more
    (Reaches-trans reached
    (along (declared_leads p m d r (star_asks (tree_of p m) r there) leads) itself))

-- ---- targets
-- a namespace is that of a reached module, an external is asked for by one, and a CommonJS module
-- is asked for by the one that takes of it
abbrev pub IsReachedTarget : Program → Target → Type 0
IsReachedTarget p (Declared m x) = Unit {0}
IsReachedTarget p (Namespace d) = IsReached p d
IsReachedTarget p (External s its) = IsUsed p s
IsReachedTarget p (CommonJs m c its) = IsReached p m × AsksCommonJs p m c

abbrev pub IsReachedLabel : Program → Label → Type 0
IsReachedLabel p (Of t) = IsReachedTarget p t
IsReachedLabel p _ = Unit {0}

module _ (p : Program) where
  takes-reached : {m : ℕ} {s : Text} {its : Taken} {t : Target} → Takes p m s its t →
      IsReached p m → Contains (declared_requests (tree_of p m)) s → IsReachedTarget p t
  takes-reached {m = m} (of_external outside) reached asks = record {
    which = m;
    reached = reached;
    asks = asks;
    external = outside;
  }
  takes-reached (of_common_js {s} {taken} {c} leads cjs) reached asks =
      (reached, record { specifier = s; asks = asks; resolved = leads; common_js = cjs })
  takes-reached {m = m} (of_module {s} {d} it) reached asks =
      Reaches-trans reached (along (declared_leads p m d s asks it.resolved) itself)

  module-reached : {m d : ℕ} {s : Text} → IsModule p m s d → IsReached p m →
      Contains (declared_requests (tree_of p m)) s → IsReached p d
  module-reached {m = m} {d = d} {s = s} it reached asks =
      Reaches-trans reached (along (declared_leads p m d s asks it.resolved) itself)

  gives-reached : {m : ℕ} {x : Text} {t : Target} {origin : Option Origin} → Gives p m x t origin →
      IsReached p m → IsReachedTarget p t
  gives-reached (declaration there none) reached = tt
  gives-reached (namespace_import {m} {x} {y} {t} entry there found takes) reached =
      takes-reached takes reached (bound_asks (tree_of p m) y entry found)
  gives-reached (taken {m} {x} {s} {what} {t} there takes) reached =
      takes-reached takes reached (entry_asks (tree_of p m) x s what there)
  gives-reached (given_on {m} {d} {x} {s} {y} {t} {origin} there its gives) reached =
      gives-reached gives
      (module-reached its reached (entry_asks (tree_of p m) x s (Named y) there))
  gives-reached (starred {m} {d} {x} {s} {t} {origin} none other there its gives) reached =
      gives-reached gives (module-reached its reached (star_asks (tree_of p m) s there))

  pub linked-reached : {m : ℕ} {x : Text} {t : Target} → Linked p m x t → IsReached p m →
      IsReachedTarget p t
  linked-reached linked reached = gives-reached linked.given reached

  stands-reached : {m : ℕ} {x : Text} {t : Target} → StandsFor p m x t → IsReached p m →
      IsReachedTarget p t
  stands-reached (declared there none) reached = tt
  stands-reached {m = m} (imported {x} {y} {d} {t} entry found name its linked) reached =
      linked-reached linked (module-reached its reached (bound_asks (tree_of p m) x entry found))
  stands-reached {m = m} (taken_whole {x} {t} entry found takes) reached =
      takes-reached takes reached (bound_asks (tree_of p m) x entry found)

  reads-reached : {m place : ℕ} {t : Target} → ReadsAs p m place t → IsReached p m →
      IsReachedTarget p t
  reads-reached (by_name denotes stands) reached = stands-reached stands reached
  reads-reached (by_read {place} {d} {x} {t} word reads linked) reached =
      linked-reached linked (reads-reached reads reached)

  replaced-reached : {m place : ℕ} {by : Replacement} → Replaced p m place by → IsReached p m →
      IsReachedLabel p (label_of by)
  replaced-reached (static_read word reads) reached = reads-reached reads reached
  replaced-reached (import_meta is) reached = tt
  replaced-reached (require_call call there at leads) reached = tt

  owns-reached : {m : ℕ} {d : Denoted} {l : Label} → OwnName p m d l → IsReached p m →
      IsReachedLabel p l
  owns-reached (at_top stands) reached = stands-reached stands reached
  owns-reached parameter reached = tt

  says-reached : {m : ℕ} {e : Element} {l : Label} → SaysAt p m e l → IsReached p m →
      IsReachedLabel p l
  says-reached (says_name kind denotes owns) reached = owns-reached owns reached
  says-reached (says_node replaced) reached = replaced-reached replaced reached

  -- the module whose namespace is meant is reached
  pub meant-reached : {l : Label} → IsMeant p l → IsReachedLabel p l
  meant-reached (by_statement reached stated there left says) = says-reached says reached
  meant-reached (by_export linked) = linked-reached linked itself
  meant-reached (by_namespace {d} {x} {t} meant linked) =
      linked-reached linked (meant-reached meant)

-- ---- sorted
pub numbers-split : (i a b : ℕ) →
    numbers_from i (a + b) ≡ numbers_from i a ++ numbers_from (i + a) b
numbers-split i zero b =
    let zero_i : i ≡ i + 0 = omega arith in
    let zero_b : 0 + b ≡ b = omega arith in ap (numbers_from i) zero_b
    ∙ ap (λ k. numbers_from k b) zero_i
numbers-split i (suc a) b =
    let one : suc a + b ≡ suc (a + b) = omega arith in
    let next : suc i + a ≡ i + suc a = omega arith in
    ap (numbers_from i) one
    ∙ ap (λ (l : List ℕ). i ∷ l)
    (numbers-split (suc i) a b ∙ ap (λ k. numbers_from (suc i) a ++ numbers_from k b) next)

-- one number more, as `numbers_below` of `bundle_reached` grows
pub numbers-grow : (i n : ℕ) → numbers_from i (suc n) ≡ numbers_from i n ++ (i + n) ∷ []
numbers-grow i n =
    let more : suc n ≡ n + 1 = omega arith in ap (numbers_from i) more ∙ numbers-split i n 1
