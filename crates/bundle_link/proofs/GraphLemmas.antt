-- Elements of lists.
-- One more module in a graph.
use Rattle.std.proofs.Common.{inl, inr, Bool, true, false, List, [], ◌∷◌, Contains, cond, arith, ◌≡◌, ◌≢◌, ℕ, ◌+◌, Some, None, map, sym, ap, ◌∙◌}
use Rattle.std.specs.Prelude.{filter, slice_get}
use Rattle.std.specs.declared.alloc.Global.{Global}
use Rattle.std.specs.declared.string.String.{String}
use Rattle.std.specs.declared.vec.Vec.{Vec}
use Rattle.std.proofs.lemmas.Bool.{cases_lt}
use Rattle.std.proofs.lemmas.Option.{none-some, same_Some}
use Rattle.bundle_order_graph.specs.Modules.{Modules, deps as noted}
use Rattle.bundle_rules.specs.Nodes.{numbers_once}
pub use Rattle.bundle_link_index.proofs.ProgramLemmas.{later, first_or_later, filter_map_back as some_back, filter_map_on as some_on}
use Rattle.bundle_link_index.specs.Numbered.{HasNoDoubles}
use Rattle.bundle_link.specs.Files.{IsFileGraph, module_led_to}

-- ---- element
pub filter_back : {A : Type 0} (test : A → Bool) (xs : List A) (x : A) → Contains (filter test xs) x → Contains xs x
filter_back test [] x (i, h, e) = absurd (omega arith)
filter_back {A = A} test (a ∷ xs) x there = by (test a) there (filter_back test xs x)
  where
    by : (b : Bool) → Contains (cond b (a ∷ filter test xs) (filter test xs)) x → (Contains (filter test xs) x → Contains xs x) → Contains (a ∷ xs) x
    by true there ih = elim (first_or_later a (filter test xs) x there) [
      | inl e ↦ (0, omega arith, e)
      | inr rest ↦ later a xs x (ih rest)
    ]
    by false there ih = later a xs x (ih there)

-- ---- graph
module _ (ids : List ℕ) (deps : List (Vec (String Global × ℕ) Global)) (n : ℕ) where
  pub graph-more : (g h : Modules) (m : ℕ) (its : Vec (String Global × ℕ) Global) → HasNoDoubles ids → slice_get ids n ≡ Some m → slice_get deps n ≡ Some its → IsFileGraph ids deps n g
      → (noted g m ≡ [] → noted h m ≡ numbers_once (map module_led_to its.items)) → ((k : ℕ) → k ≢ m → noted h k ≡ noted g k) → IsFileGraph ids deps (n + 1) h
  graph-more g h m its once at_ids at_deps is own others = record {
    own = λ i k other within at there. elim (cases_lt i n) [
      | inl before ↦ others k (λ e. absurd (omega (arith, before, once i n m (at ∙ ap (λ y. Some y) e) at_ids))) ∙ is.own i k other before at there
      | inr after ↦
          let e : n ≡ i = omega arith in
          let same_m : m ≡ k = same_Some m k (sym at_ids ∙ ap (slice_get ids) e ∙ at) in
          let same_its : its ≡ other = same_Some its other (sym at_deps ∙ ap (slice_get deps) e ∙ there) in
          ap (noted h) (sym same_m)
          ∙ own (is.others m (λ j before at_j. absurd (omega (arith, before, once j n m at_j at_ids))))
          ∙ ap (λ (it : Vec (String Global × ℕ) Global). numbers_once (map module_led_to it.items)) same_its
    ];
    others = λ k none.
        others k (λ e. none n (omega arith) (at_ids ∙ ap (λ y. Some y) (sym e)))
        ∙ is.others k (λ i before at. none i (omega arith) at);
  }

  -- a place with no number
  pub graph-none : (g : Modules) → slice_get ids n ≡ None → IsFileGraph ids deps n g → IsFileGraph ids deps (n + 1) g
  graph-none g none is = record {
    own = λ i k other within at there. elim (cases_lt i n) [
      | inl before ↦ is.own i k other before at there
      | inr after ↦ let e : i ≡ n = omega arith in absurd (none-some k (sym none ∙ ap (slice_get ids) (sym e) ∙ at))
    ];
    others = λ k no. is.others k (λ i before at. no i (omega arith) at);
  }
