-- What is given in a program is what is given by numbers, and so an answer by numbers tells what a name is linked to.
-- Where chains of stars lead, by numbers and in the program.
use Rattle.std.proofs.Common.{◌⊎◌, ◌≡◌, ◌≢◌, ℕ, true, List, Option, Some, sym, ap, ◌∙◌, subst, ◌↔◌}
use Rattle.std.specs.Prelude.{slice_get}
use Rattle.std.proofs.lemmas.Option.{same_Some}
use Rattle.bundle_order_graph.specs.Walks.{Reaches, itself as itself_starred, along}
use Rattle.bundle_rules.specs.Nodes.{Text}
use Rattle.bundle_rules.specs.Statements.{default_name}
use Rattle.bundle_rules.specs.Entries.{has_own_entry}
use Rattle.bundle_rules.specs.Program.{Program, tree_of}
use Rattle.bundle_rules.specs.Linking.{Target, Origin, Gives, declaration, namespace_import, taken, given_on, starred, Linked, IsMissing}
use Rattle.bundle_link_index.specs.declared.answer.Candidates.TheVariants.{Missing, One, Two}
use Rattle.bundle_link_index.specs.Graph.{NameSpot, Graph}
use Rattle.bundle_rules.specs.Tables.{AreTwo}
use Rattle.bundle_link_index.specs.Given.{Given, itself, led, starred as by_star, IsCandidates, IsIn}
use Rattle.bundle_link_index.specs.Reached.{Starring, IsReach}
use Rattle.bundle_link_index.specs.Linked.{Value, OwnGives, own_declaration, own_namespace, own_taken, OwnLeads, IsLinkGraph, Stars, StarReaches}
use Rattle.bundle_link_index.specs.declared.index.Index.{Index}
use Rattle.bundle_link_index.specs.Outside.{IsIndexOf}

-- ---- linked

-- what is given for a name of the graph, in the program
pub record GivenAs (p : Program) (values : List Value) (m : ℕ) (x : Text) (v : ℕ) : Type 0 where
  pub t : Target
  pub origin : Option Origin
  pub is : slice_get values v ≡ Some (t, origin)
  pub given : Gives p m x t origin

-- and the other way
pub record GivenBy (g : Graph) (values : List Value) (m n : ℕ) (t : Target) (origin : Option Origin) : Type 0 where
  pub v : ℕ
  pub is : slice_get values v ≡ Some (t, origin)
  pub given : Given g (m, n) v

-- an own entry that gives does so in the program
from_own : {p : Program} {m : ℕ} {x : Text} {t : Target} {origin : Option Origin} → OwnGives p m x t origin → Gives p m x t origin
from_own (own_declaration stands none) = declaration stands none
from_own (own_namespace entry stands bound takes) = namespace_import entry stands bound takes
from_own (own_taken stands takes) = taken stands takes

module _ (p : Program) (names : List Text) (values : List Value) (g : Graph) (w : IsLinkGraph p names values g) where
  not_default : (n : ℕ) (x : Text) → slice_get names n ≡ Some x → x ≢ default_name → n ≢ g.default
  not_default n x at named is = named (same_Some x default_name (sym at ∙ ap (slice_get names) is ∙ w.default))

  is_named : (n : ℕ) (x : Text) → slice_get names n ≡ Some x → n ≢ g.default → x ≢ default_name
  is_named n x at other is = other (w.one_name n g.default x at (w.default ∙ ap (λ y. Some y) (sym is)))

  -- ---- a path by numbers is one of the program
  pub given_as : {at : NameSpot} {v : ℕ} → Given g at v → (x : Text) → slice_get names at.1 ≡ Some x → GivenAs p values at.0 x v
  given_as {at = at} {v = v} (itself e) x named = let r = w.gives at.0 at.1 v x named e in record { t = r.0; origin = r.1; is = r.2; given = from_own r.3 }
  given_as {at = at} {v = v} (led {next = next} e more) x named =
      let l = w.leads at.0 at.1 next.0 next.1 x named e in
      let r = given_as more l.0 l.1 in
      record { t = r.t; origin = r.origin; is = r.is; given = given_on l.2.stands l.2.leads r.given }
  given_as {at = at} {v = v} (by_star {d = d} none other star more) x named =
      let s = (w.stars at.0 d).0 star in
      let r = given_as more x named in
      record { t = r.t; origin = r.origin; is = r.is; given = starred ((w.none at.0 at.1 x named).0 none) (is_named at.1 x named other) s.stands s.leads r.given }

  -- ---- and one of the program is one by numbers
  own_by : (m n : ℕ) (x : Text) (t : Target) (origin : Option Origin) → slice_get names n ≡ Some x → OwnGives p m x t origin → GivenBy g values m n t origin
  own_by m n x t origin named own = let r = w.gave m n x t origin named own in record { v = r.0; is = r.1; given = itself r.2 }

  pub given_by : {m : ℕ} {x : Text} {t : Target} {origin : Option Origin} → Gives p m x t origin → (n : ℕ) → slice_get names n ≡ Some x → GivenBy g values m n t origin
  given_by {m = m} {x = x} {t = t} {origin = origin} (declaration stands none) n named = own_by m n x t origin named (own_declaration stands none)
  given_by {m = m} {x = x} {t = t} {origin = origin} (namespace_import entry stands bound takes) n named = own_by m n x t origin named (own_namespace entry stands bound takes)
  given_by {m = m} {x = x} {t = t} {origin = origin} (taken stands takes) n named = own_by m n x t origin named (own_taken stands takes)
  given_by {m = m} {x = x} {t = t} {origin = origin} (given_on {d = d} {s = s} {y = y} stands leads more) n named =
      let l = w.led_on m n d x y named (record { specifier = s; stands = stands; leads = leads }) in
      let r = given_by more l.0 l.1 in
      record { v = r.v; is = r.is; given = led l.2 r.given }
  given_by {m = m} {x = x} {t = t} {origin = origin} (starred {d = d} {s = s} none other star leads more) n named =
      let r = given_by more n named in
      record { v = r.v; is = r.is; given = by_star ((w.none m n x named).1 none) (not_default n x named other) ((w.stars m d).1 (record { specifier = s; stands = star; leads = leads })) r.given }

  -- ---- a name of which no module has an entry is given nowhere
  pub own_has : {m : ℕ} {x : Text} {t : Target} {origin : Option Origin} → Gives p m x t origin → ((k : ℕ) → has_own_entry (tree_of p k) x ≡ true → ⊥) → ((k : ℕ) (y : Text) (d : ℕ) → OwnLeads p k x d y → ⊥) → ((k : ℕ) (y : Target) (its : Option Origin) → OwnGives p k x y its → ⊥) → ⊥
  own_has {m = m} {x = x} {t = t} {origin = origin} (declaration stands none) entries leads gives = gives m t origin (own_declaration stands none)
  own_has {m = m} {x = x} {t = t} {origin = origin} (namespace_import entry stands bound takes) entries leads gives = gives m t origin (own_namespace entry stands bound takes)
  own_has {m = m} {x = x} {t = t} {origin = origin} (taken stands takes) entries leads gives = gives m t origin (own_taken stands takes)
  own_has {m = m} {x = x} (given_on {d = d} {s = s} {y = y} stands is more) entries leads gives = leads m y d (record { specifier = s; stands = stands; leads = is })
  own_has (starred none other star is more) entries leads gives = own_has more entries leads gives

  -- ---- answers
  module _ (m n : ℕ) (x : Text) (named : slice_get names n ≡ Some x) where
    pub is_missing : IsCandidates g (m, n) Missing → IsMissing p m x
    is_missing right t origin given = let r = given_by given n named in right.all r.v r.given

    pub is_linked : (v : ℕ) (t : Target) (origin : Option Origin) → slice_get values v ≡ Some (t, origin) → IsCandidates g (m, n) (One v) → Linked p m x t
    is_linked v t origin at right =
        let r = given_as right.kept x named in
        let same : (r.t, r.origin) ≡ (t, origin) = same_Some (r.t, r.origin) (t, origin) (sym r.is ∙ at) in
        record {
          origin = origin;
          given = subst (λ (value : Value). Gives p m x value.0 value.1) same r.given;
          only = λ other its given. let b = given_by given n named in
              let equal : (other, its) ≡ (t, origin) = same_Some (other, its) (t, origin) (sym b.is ∙ ap (slice_get values) (right.all b.v b.given) ∙ at) in
              (ap (λ (value : Value). value.0) equal, ap (λ (value : Value). value.1) equal);
        }

    -- values of two numbers differ in the target or in the origin
    pub are_two : (a b : ℕ) (first second : Value) → slice_get values a ≡ Some first → slice_get values b ≡ Some second → ((first.0 ≢ second.0) ⊎ (first.1 ≢ second.1)) → IsCandidates g (m, n) (Two a b) → AreTwo p m x first.0 second.0
    are_two a b first second at_a at_b differ right =
        let r = given_as right.kept.0 x named in
        let s = given_as right.kept.1 x named in
        let same_a : (r.t, r.origin) ≡ first = same_Some (r.t, r.origin) first (sym r.is ∙ at_a) in
        let same_b : (s.t, s.origin) ≡ second = same_Some (s.t, s.origin) second (sym s.is ∙ at_b) in
        record {
          of_a = first.1;
          of_b = second.1;
          gives_a = subst (λ (value : Value). Gives p m x value.0 value.1) same_a r.given;
          gives_b = subst (λ (value : Value). Gives p m x value.0 value.1) same_b s.given;
          differ = differ;
        }

-- ---- starred
moved : {E F : ℕ → ℕ → Type 0} → ((a b : ℕ) → E a b → F a b) → {a c : ℕ} → Reaches E a c → Reaches F a c
moved onto itself_starred = itself_starred
moved onto (along {a = a} {b = b} edge more) = along (onto a b edge) (moved onto more)

pub reach_is : (p : Program) (index : Index) → IsIndexOf p index → (start : ℕ) (list : List ℕ) → IsReach index.search start list → (d : ℕ) → IsIn list d ↔ StarReaches p start d
reach_is p index is start list reach d = (
  λ there. moved {E = Starring index.search} {F = Stars p} (λ a b. (is.names.stars a b).0) (reach.reached d there),
  λ star. reach.all d (moved {E = Stars p} {F = Starring index.search} (λ a b. (is.names.stars a b).1) star),
)
