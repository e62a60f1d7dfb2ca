-- What is wrong with a name that is asked for.
-- The first of a list for which something holds.
-- The literal calls of a module stand in the order of their places.
-- The faults of one stage in one module, by its table.
use Rattle.std.proofs.Common.{◌≡◌, inl, inr, ℕ, Option, Some, None, refl, sym, ap, ◌∙◌, subst, if◌then◌else◌, ◌⊎◌, zero, suc, ◌+◌, ◌<◌, ◌≤◌, Bool, true, false, not, List, [], ◌∷◌, length, map, get_or, cond, arith, ◌++◌, Contains, ◌↔◌}
use Rattle.std.specs.Prelude.{IsTrue, bytes_eq, filter, find, slice_get, option_map}
use Rattle.std.proofs.lemmas.Option.{none-some, same_Some, slice_get_within, get_or_from_slice_get}
use Rattle.std.specs.List.{flat_map}
use Rattle.std.proofs.lemmas.Bool.{false≢true}
use Rattle.std.proofs.lemmas.Slice.Eq.{bytes_eq-Decides}
use Rattle.std.specs.Borrow.{Bor}
use Rattle.bundle_tree_names.specs.FileName.{Name}
use Rattle.bundle_syntax.specs.Item.{Item}
use Rattle.bundle_rules.specs.Nodes.{Text, each_once, has_text}
use Rattle.bundle_rules.specs.Entries.{Named, ExportEntry, Local, Indirect, Star, RequireCall, call_at, require_calls, require_calls_from, required_at, declared_requests, is_script}
use Rattle.bundle_rules.specs.Program.{Program, is_external, calls_of, resolves, tree_of}
use Rattle.bundle_rules.specs.Linking.{IsCommonJs, IsModule, Linked, Origin, Target, Namespace, exports}
use Rattle.bundle_rules.specs.Tables.{AreTwo, star_of}
use Rattle.bundle_rules.specs.Faults as g
use Rattle.bundle_rules.specs.Faults.{NameFault, ambiguous, external_only, missing, StarsExternal, required_entry, required_es_module, await_in_common_js, star_of_common_js, namespace_over_external_star, external_under_iife, arguments_under_iife}
use Rattle.bundle_rules.specs.Bound.{is_free}
use Rattle.bundle_rules.specs.Meaning.{IsMeant, Of}
use Rattle.bundle_link_tables.specs.Sources.{source_asked, told_external}
use Rattle.bundle_link_tables.specs.TablesOf.{call_entry_of}
use Rattle.bundle_link_tables.specs.declared.table.RequireCall.{RequireCall as RequireCall_stage}
use Rattle.bundle_link_tables.specs.declared.table.Source.{Source}
use Rattle.bundle_link_tables.specs.declared.table.Tables.{Tables}
use Rattle.bundle_link_index.specs.declared.kinds.Kinds.{Kinds}
use Rattle.bundle_link_index.specs.Leads.{lead_of, flagged, lead_told, required_of}
use Rattle.bundle_link_index.specs.Programs.{AreModulesKnown, AsksFor, IsTableOf, by_star}
use Rattle.bundle_link_index.specs.Said.{Lead, LeadsIn, Outside, ToModule, ToCommonJs, Nowhere, It, On, Naught, said_by}
use Rattle.bundle_link_index.proofs.ProgramLemmas.{leads_right, same_lead, filter_back, first_or_later, stars_on, got, got_there}
use Rattle.bundle_link_index.specs.declared.kinds.Lead.{Lead as Told}
use Rattle.bundle_link_index.specs.declared.target.LinkModule.{LinkModule}
use Rattle.bundle_link_index.specs.declared.kinds.Lead.TheVariants
use Rattle.bundle_link_targets.specs.declared.target.LinkFault.{LinkFault}
use Rattle.bundle_link_targets.specs.Stages.{IsWrongBy, IsWrongIn, LeadsToEs}
use Rattle.bundle_link_targets.specs.Judged.{IsFoundIn}
use Rattle.bundle_link_targets.proofs.AscendingLemmas.{arguments_there, await_there, entry_call, es_call, external_there, object_there, star_there}
use Rattle.bundle_link_targets.specs.declared.target.FaultKind.TheVariants as in_variants

-- ---- a name of an ES module
-- nothing is wrong with one that is linked
pub linked_right : (p : Program) (d : ℕ) (x : Text) (t : Target) (file : Name) (f : g.Fault) → Linked p d x t → NameFault p d x file f → ⊥
linked_right p d x t file f linked (ambiguous two) = elim two.differ [
  | inl apart ↦ apart ((linked.only two.first two.first_origin two.gives_first).0 ∙ sym (linked.only two.second two.second_origin two.gives_second).0)
  | inr apart ↦ apart ((linked.only two.first two.first_origin two.gives_first).1 ∙ sym (linked.only two.second two.second_origin two.gives_second).1)
]
linked_right p d x t file f linked (external_only none other stars) = none t linked.origin linked.given
linked_right p d x t file f linked (missing none either) = none t linked.origin linked.given

pub two_wrong : (p : Program) (d : ℕ) (x : Text) (a b : Target) (file : Name) → AreTwo p d x a b → NameFault p d x file (g.AmbiguousExport file x)
two_wrong p d x a b file two = ambiguous (record { first = a; second = b; first_origin = two.of_a; second_origin = two.of_b; gives_first = two.gives_a; gives_second = two.gives_b; differ = two.differ })

-- ---- what is taken
outside_no : (p : Program) (m d : ℕ) (s : Text) → IsTrue (is_external p s) → IsModule p m s d → ⊥
outside_no p m d s is to = none-some d (sym (ap (λ b. if b then None else p.leads m s) is) ∙ to.resolved)

module _ (p : Program) (kinds : Kinds) (w : AreModulesKnown p kinds) (m : ℕ) (s : Text) (asks : AsksFor p m s) (x : Text) where
  lead : LeadsIn p m s (lead_of kinds m s)
  lead = subst (LeadsIn p m s) (sym (same_lead p kinds w m s asks)) (leads_right p kinds w m s)

  -- a target is taken, or nothing, so no name of an ES module is asked for
  no_name : (its : Lead) → LeadsIn p m s its → ((d : ℕ) (y : Text) → said_by m s None (Named x) its ≡ On d y → ⊥) → IsWrongBy p m s x None
  no_name Outside leads other = λ d to. absurd (outside_no p m d s leads to)
  no_name (ToCommonJs c) leads other = λ d to. absurd (to.es (subst (IsCommonJs p) (same_Some c d (sym leads.0 ∙ to.resolved)) leads.1))
  no_name Nowhere leads other = λ d to. absurd (none-some d (sym leads.1 ∙ to.resolved))
  no_name (ToModule d) leads other = absurd (other d x refl)

  pub gives_right : (target : Target) (origin : Option Origin) → It target origin ≡ said_by m s None (Named x) (lead_of kinds m s) → IsWrongBy p m s x None
  gives_right target origin is = no_name (lead_of kinds m s) lead (λ d y on. let both = is ∙ on in cc)

  pub nothing_right : Naught ≡ said_by m s None (Named x) (lead_of kinds m s) → IsWrongBy p m s x None
  nothing_right is = no_name (lead_of kinds m s) lead (λ d y on. let both = is ∙ on in cc)

  pub leads_wrong : (d : ℕ) (y : Text) (found : Option LinkFault) → On d y ≡ said_by m s None (Named x) (lead_of kinds m s) → IsWrongIn p m d y found → IsWrongBy p m s x found
  leads_wrong d y found is wrong = by (lead_of kinds m s) lead is
    where
      at_module : (found : Option LinkFault) → IsModule p m s d → IsWrongIn p m d x found → IsWrongBy p m s x found
      at_module None leads right = λ k to file f wrong. right file f (subst (λ n. NameFault p n x file f) (same_Some k d (sym to.resolved ∙ leads.resolved)) wrong)
      at_module (Some fault) leads wrong = (d, leads, wrong)

      by : (its : Lead) → LeadsIn p m s its → On d y ≡ said_by m s None (Named x) its → IsWrongBy p m s x found
      by Outside leads is = cc
      by (ToCommonJs c) leads is = cc
      by Nowhere leads is = cc
      by (ToModule k) leads is =
          let same : d ≡ k = cc in
          let text : y ≡ x = cc in
          at_module found (subst (IsModule p m s) (sym same) leads) (subst (λ z. IsWrongIn p m d z found) text wrong)

-- ---- first

-- it holds of the first ones, as many as these
abbrev pub HoldsBelow : {A : Type 0} → (A → Type 0) → List A → ℕ → Type 0
HoldsBelow {A = A} P xs i = (k : ℕ) (x : A) → k < i → slice_get xs k ≡ Some x → P x

pub holds_more : {A : Type 0} (P : A → Type 0) (xs : List A) (i : ℕ) (d : A) → HoldsBelow P xs i → P (get_or xs i d) → HoldsBelow P xs (i + 1)
holds_more {A = A} P xs i d below here k y under at = by (nat_cases k i under)
  where
    nat_cases : (k i : ℕ) → k < i + 1 → (k < i) ⊎ (k ≡ i)
    nat_cases zero zero less = inr refl
    nat_cases zero (suc i) less = inl (omega arith)
    nat_cases (suc k) zero less = absurd (omega arith)
    nat_cases (suc k) (suc i) less = elim (nat_cases k i (omega arith)) [ inl l ↦ inl (omega arith) | inr e ↦ inr (ap suc e) ]

    by : (k < i) ⊎ (k ≡ i) → P y
    by (inl less) = below k y less at
    by (inr same) = subst P (get_or_from_slice_get xs i y d (sym (ap (slice_get xs) same) ∙ at)) here

pub holds_all : {A : Type 0} (P : A → Type 0) (xs : List A) (i : ℕ) → HoldsBelow P xs i → (i < length xs → ⊥) → (k : ℕ) (x : A) → slice_get xs k ≡ Some x → P x
holds_all P xs i below ended k x at = below k x (let inside = slice_get_within xs k x at in omega arith) at

-- what is no `Some` is none
pub is_none : {A : Type 0} (o : Option A) → ((x : A) → o ≡ Some x → ⊥) → o ≡ None
is_none None other = refl
is_none (Some x) other = absurd (other x refl)

-- what holds of the first ones and not of one stands later
pub not_before : {A : Type 0} (P : A → Type 0) (xs : List A) (i k : ℕ) (x : A) → HoldsBelow P xs i → slice_get xs k ≡ Some x → (P x → ⊥) → i ≤ k
not_before P xs i k x below at fails = by (either i k)
  where
    either : (i k : ℕ) → (i ≤ k) ⊎ (k < i)
    either zero k = inl (omega arith)
    either (suc i) zero = inr (omega arith)
    either (suc i) (suc k) = elim (either i k) [ inl l ↦ inl (omega arith) | inr l ↦ inr (omega arith) ]

    by : (i ≤ k) ⊎ (k < i) → i ≤ k
    by (inl less) = less
    by (inr less) = absurd (fails (below k x less at))

-- ---- the place in a list whose elements are told by a map
pub at_map : {A B : Type 0} (f : A → B) (xs : List A) (i : ℕ) (x : A) → slice_get xs i ≡ Some x → slice_get (map f xs) i ≡ Some (f x)
at_map f [] i x at = absurd (none-some x at)
at_map f (a ∷ xs) zero x at = ap (λ y. Some y) (ap f (same_Some a x at))
at_map f (a ∷ xs) (suc i) x at = at_map f xs i x at

pub map_at : {A B : Type 0} (f : A → B) (xs : List A) (i : ℕ) (y : B) → slice_get (map f xs) i ≡ Some y → (x : A) × (slice_get xs i ≡ Some x) × (f x ≡ y)
map_at f [] i y at = absurd (none-some y at)
map_at f (a ∷ xs) zero y at = (a, refl, same_Some (f a) y at)
map_at f (a ∷ xs) (suc i) y at = map_at f xs i y at

-- ---- the first of texts that each stand once
pub find_from : {A : Type 0} (test : A → Bool) (xs : List A) (i : ℕ) (x : A) → slice_get xs i ≡ Some x → test x ≡ true → HoldsBelow (λ y. test y ≡ false) xs i → find test xs ≡ Some x
find_from test [] i x at is below = absurd (none-some x at)
find_from test (a ∷ xs) zero x at is below = ap (λ b. cond b (Some a) (find test xs)) (ap test (same_Some a x at) ∙ is) ∙ at
find_from test (a ∷ xs) (suc i) x at is below =
    ap (λ b. cond b (Some a) (find test xs)) (below 0 a (omega arith) refl)
    ∙ find_from test xs i x at is (λ k y under there. below (suc k) y (omega arith) there)

find_filter : (test keep : Text → Bool) (xs : List Text) → ((x : Text) → keep x ≡ false → test x ≡ false) → find test (filter keep xs) ≡ find test xs
find_filter test keep [] drops = refl
find_filter test keep (x ∷ xs) drops = by (keep x) refl (find_filter test keep xs drops)
  where
    by : (b : Bool) → keep x ≡ b → find test (filter keep xs) ≡ find test xs → find test (cond b (x ∷ filter keep xs) (filter keep xs)) ≡ cond (test x) (Some x) (find test xs)
    by true is ih = ap (cond (test x) (Some x)) ih
    by false is ih = ih ∙ sym (ap (λ b. cond b (Some x) (find test xs)) (drops x is))

find_once : (test : Text → Bool) (xs : List Text) → find test (each_once xs) ≡ find test xs
find_once test [] = refl
find_once test (x ∷ xs) = by (test x) refl (find_once test xs)
  where
    keep : Text → Bool
    keep y = not (bytes_eq x y)

    drops : test x ≡ false → (y : Text) → not (bytes_eq x y) ≡ false → test y ≡ false
    drops is y same = sym (ap test ((bytes_eq-Decides x y).0 (not_false (bytes_eq x y) same))) ∙ is
      where
        not_false : (b : Bool) → not b ≡ false → b ≡ true
        not_false true e = refl
        not_false false e = absurd (false≢true (sym e))

    by : (b : Bool) → test x ≡ b → find test (each_once xs) ≡ find test xs → cond b (Some x) (find test (filter (λ y. not (bytes_eq x y)) (each_once xs))) ≡ cond b (Some x) (find test xs)
    by true is ih = refl
    by false is ih = find_filter test (λ y. not (bytes_eq x y)) (each_once xs) (drops is) ∙ ih

-- ---- the first star for which something holds
pub record FirstStar (test : Text → Bool) (entries : List ExportEntry) (s : Text) : Type 0 where
  pub place : ℕ
  pub at : slice_get entries place ≡ Some (Star s)
  pub least : (k : ℕ) (t : Text) → slice_get entries k ≡ Some (Star t) → test t ≡ true → place ≤ k

later_star : (test : Text → Bool) (entry : ExportEntry) (entries : List ExportEntry) (s : Text) → ((t : Text) → entry ≡ Star t → test t ≡ false) → FirstStar test entries s → FirstStar test (entry ∷ entries) s
later_star test entry entries s fails first = record {
  place = suc first.place;
  at = first.at;
  least = λ k t at is. by k t at is;
}
  where
    by : (k : ℕ) (t : Text) → slice_get (entry ∷ entries) k ≡ Some (Star t) → test t ≡ true → suc first.place ≤ k
    by zero t at is = absurd (false≢true (sym (fails t (same_Some entry (Star t) at)) ∙ is))
    by (suc k) t at is = let less = first.least k t at is in omega arith

star_found : (test : Text → Bool) (entries : List ExportEntry) (s : Text) → find test (flat_map star_of entries) ≡ Some s → FirstStar test entries s
star_found test [] s e = absurd (none-some s e)
star_found test (Local x y ∷ entries) s e = later_star test (Local x y) entries s (λ t same. cc) (star_found test entries s e)
star_found test (Indirect x r taken ∷ entries) s e = later_star test (Indirect x r taken) entries s (λ t same. cc) (star_found test entries s e)
star_found test (Star r ∷ entries) s e = by (test r) refl e (star_found test entries s)
  where
    by : (b : Bool) → test r ≡ b → cond b (Some r) (find test (flat_map star_of entries)) ≡ Some s → (find test (flat_map star_of entries) ≡ Some s → FirstStar test entries s) → FirstStar test (Star r ∷ entries) s
    by true is e ih = record { place = 0; at = ap (λ t. Some (Star t)) (same_Some r s e); least = λ k t at holds. omega arith }
    by false is e ih = later_star test (Star r) entries s (λ t same. let one : r ≡ t = cc in sym (ap test one) ∙ is) (ih e)

-- of the stars, each once, the first for which it holds is the first of the entries
pub first_star : (test : Text → Bool) (entries : List ExportEntry) (i : ℕ) (s : Text) → slice_get (each_once (flat_map star_of entries)) i ≡ Some s → test s ≡ true → HoldsBelow (λ t. test t ≡ false) (each_once (flat_map star_of entries)) i → FirstStar test entries s
first_star test entries i s at is below = star_found test entries s (sym (find_once test (flat_map star_of entries)) ∙ find_from test (each_once (flat_map star_of entries)) i s at is below)

-- ---- call

-- none stands before this place
abbrev IsFrom : ℕ → List RequireCall → Type 0
IsFrom n calls = (call : RequireCall) → Contains calls call → n ≤ call.place

-- each stands before the later ones
abbrev Rises : List RequireCall → Type 0
Rises [] = Unit {0}
Rises (call ∷ rest) = IsFrom call.place rest × Rises rest

at_place : (free : ℕ → Bool) (place : ℕ) (text : Option Text) (more : List RequireCall) → IsFrom (suc place) more → Rises more → IsFrom place (call_at free place text ++ more) × Rises (call_at free place text ++ more)
at_place free place None more from rises = (λ call there. let less = from call there in omega arith, rises)
at_place free place (Some text) more from rises = by (free (suc place))
  where
    weaker : IsFrom place more
    weaker call there = let less = from call there in omega arith

    by : (b : Bool) → IsFrom place ((if b then record { place = place; specifier = text } ∷ [] else []) ++ more) × Rises ((if b then record { place = place; specifier = text } ∷ [] else []) ++ more)
    by true = (
      (λ call there. elim (first_or_later (record { place = place; specifier = text }) more call there) [ inl same ↦ subst (λ (c : RequireCall). place ≤ c.place) same (omega arith) | inr rest ↦ weaker call rest ]),
      (weaker, rises),
    )
    by false = (weaker, rises)

calls_rise : (free : ℕ → Bool) (place : ℕ) (items : List Item) → IsFrom place (require_calls_from free place items) × Rises (require_calls_from free place items)
calls_rise free place [] = ((λ call there. absurd (omega (arith, there.1))), tt)
calls_rise free place (x ∷ rest) = let r = calls_rise free (suc place) rest in at_place free place (required_at (x ∷ rest)) (require_calls_from free (suc place) rest) r.0 r.1

kept_rise : (test : RequireCall → Bool) (calls : List RequireCall) → Rises calls → Rises (filter test calls)
kept_rise test [] rises = tt
kept_rise test (call ∷ rest) rises = by (test call) (kept_rise test rest rises.1)
  where
    by : (b : Bool) → Rises (filter test rest) → Rises (cond b (call ∷ filter test rest) (filter test rest))
    by true ih = ((λ other there. rises.0 other (filter_back test rest other there).0), ih)
    by false ih = ih

in_order : (calls : List RequireCall) (k l : ℕ) (a b : RequireCall) → Rises calls → slice_get calls k ≡ Some a → slice_get calls l ≡ Some b → k ≤ l → a.place ≤ b.place
in_order [] k l a b rises at_a at_b less = absurd (none-some a at_a)
in_order (call ∷ rest) zero zero a b rises at_a at_b less = subst (λ (c : RequireCall). c.place ≤ b.place) (same_Some call a at_a) (subst (λ (c : RequireCall). call.place ≤ c.place) (same_Some call b at_b) (omega arith))
in_order (call ∷ rest) zero (suc l) a b rises at_a at_b less = subst (λ (c : RequireCall). c.place ≤ b.place) (same_Some call a at_a) (rises.0 b (got_there rest l b at_b))
in_order (call ∷ rest) (suc k) zero a b rises at_a at_b less = absurd (omega arith)
in_order (call ∷ rest) (suc k) (suc l) a b rises at_a at_b less = in_order rest k l a b rises.1 at_a at_b (omega arith)

module _ (p : Program) (m : ℕ) where
  linked_rise : Rises (calls_of p m)
  linked_rise = by p.settings.require
    where
      by : (b : Bool) → Rises (if b then filter (λ (it : RequireCall). not (has_text it.specifier p.settings.external)) (require_calls (is_free (tree_of p m)) (tree_of p m)) else [])
      by true = kept_rise (λ it. not (has_text it.specifier p.settings.external)) (require_calls (is_free (tree_of p m)) (tree_of p m)) (calls_rise (is_free (tree_of p m)) 0 (tree_of p m)).1
      by false = tt

  -- a linked call is of no external
  linked_inside : (call : RequireCall) → Contains (calls_of p m) call → is_external p call.specifier ≡ false
  linked_inside call there = by p.settings.require there
    where
      not_true : (b : Bool) → not b ≡ true → b ≡ false
      not_true true h = absurd (false≢true h)
      not_true false h = refl

      by : (b : Bool) → Contains (if b then filter (λ (it : RequireCall). not (has_text it.specifier p.settings.external)) (require_calls (is_free (tree_of p m)) (tree_of p m)) else []) call → is_external p call.specifier ≡ false
      by true there = not_true (is_external p call.specifier) (filter_back (λ (it : RequireCall). not (has_text it.specifier p.settings.external)) (require_calls (is_free (tree_of p m)) (tree_of p m)) call there).1
      by false there = absurd (omega (arith, there.1))

  pub call_leads : (call : RequireCall) → Contains (calls_of p m) call → resolves p m call.specifier ≡ p.leads m call.specifier
  call_leads call there = ap (λ b. if b then None else p.leads m call.specifier) (linked_inside call there)

  -- of calls that stand for those of the module, the first that is wrong stands before each other that is
  pub first_call : {A : Type 0} (says : A → RequireCall) (calls : List A) (Wrong : Text → Type 0) → map says calls ≡ calls_of p m
      → (i : ℕ) (call : A) → slice_get calls i ≡ Some call → HoldsBelow (λ (c : A). Wrong (says c).specifier → ⊥) calls i
      → (other : RequireCall) → Contains (calls_of p m) other → Wrong other.specifier → (says call).place ≤ other.place
  first_call {A = A} says calls Wrong same i call at below other there wrong =
      let r = got (calls_of p m) other there in
      let k = map_at says calls r.0 other (subst (λ l. slice_get l r.0 ≡ Some other) (sym same) r.1) in
      let less = not_before (λ (c : A). Wrong (says c).specifier → ⊥) calls i r.0 k.0 below k.1 (λ none. none (subst (λ (c : RequireCall). Wrong c.specifier) (sym k.2) wrong)) in
      in_order (calls_of p m) i r.0 (says call) other linked_rise (subst (λ l. slice_get l i ≡ Some (says call)) same (at_map says calls i call at)) r.1 less

  -- where none of them is wrong, no call of the module is
  pub no_call : {A : Type 0} (says : A → RequireCall) (calls : List A) (Wrong : Text → Type 0) → map says calls ≡ calls_of p m
      → ((k : ℕ) (c : A) → slice_get calls k ≡ Some c → Wrong (says c).specifier → ⊥)
      → (other : RequireCall) → Contains (calls_of p m) other → Wrong other.specifier → ⊥
  no_call says calls Wrong same none other there wrong =
      let r = got (calls_of p m) other there in
      let k = map_at says calls r.0 other (subst (λ l. slice_get l r.0 ≡ Some other) (sym same) r.1) in
      none r.0 k.0 k.1 (subst (λ (c : RequireCall). Wrong c.specifier) (sym k.2) wrong)

  pub call_stands : {A : Type 0} (says : A → RequireCall) (calls : List A) (i : ℕ) (call : A) → map says calls ≡ calls_of p m → slice_get calls i ≡ Some call → Contains (calls_of p m) (says call)
  call_stands says calls i call same at = got_there (calls_of p m) i (says call) (subst (λ l. slice_get l i ≡ Some (says call)) same (at_map says calls i call at))

-- ---- stage

-- whether a specifier leads to a CommonJS module
abbrev pub is_common : Lead → Bool
is_common Outside = false
is_common (ToModule d) = false
is_common (ToCommonJs c) = true
is_common Nowhere = false

-- a lead that is told to be no CommonJS module
pub not_common : (told : Told) → ((c : ℕ) → told ≡ TheVariants.CommonJs c → ⊥) → is_common (lead_told told) ≡ false
not_common TheVariants.External other = refl
not_common (TheVariants.Module d) other = refl
not_common (TheVariants.CommonJs c) other = absurd (other c refl)
not_common TheVariants.Nowhere other = refl

-- a lead to a CommonJS module
common_lead : (p : Program) (m : ℕ) (s : Text) (lead : Lead) → LeadsIn p m s lead → is_common lead ≡ true → (c : ℕ) × (resolves p m s ≡ Some c) × IsCommonJs p c
common_lead p m s Outside leads is = absurd (false≢true is)
common_lead p m s (ToModule d) leads is = absurd (false≢true is)
common_lead p m s (ToCommonJs c) leads is = (c, leads.0, leads.1)
common_lead p m s Nowhere leads is = absurd (false≢true is)

lead_common : (p : Program) (m c : ℕ) (s : Text) (lead : Lead) → LeadsIn p m s lead → resolves p m s ≡ Some c → IsCommonJs p c → is_common lead ≡ true
lead_common p m c s Outside leads is common = absurd (none-some c (sym (ap (λ b. if b then None else p.leads m s) leads) ∙ is))
lead_common p m c s (ToModule d) leads is common = absurd (leads.es (subst (IsCommonJs p) (sym (same_Some d c (sym leads.resolved ∙ is))) common))
lead_common p m c s (ToCommonJs d) leads is common = refl
lead_common p m c s Nowhere leads is common = absurd (none-some c (sym leads.1 ∙ is))

-- the table of a module, as it is told
pub table_of : (p : Program) (kinds : Kinds) → AreModulesKnown p kinds → (m : ℕ) (tables : Bor Tables) (told : Option (Bor Tables)) → told ≡ option_map (λ (its : LinkModule). its.tables) (slice_get kinds.modules.now m) → told ≡ Some tables → IsTableOf p m tables.now
table_of p kinds w m tables told is here = by (slice_get kinds.modules.now m) refl (sym here ∙ is)
  where
    by : (o : Option LinkModule) → slice_get kinds.modules.now m ≡ o → Some tables ≡ option_map (λ (its : LinkModule). its.tables) o → IsTableOf p m tables.now
    by None at e = absurd (none-some tables (sym e))
    by (Some its) at e = subst (λ (t : Bor Tables). IsTableOf p m t.now) (sym (same_Some tables its.tables e)) (w.tables m its at)

-- whether a text leads to a module that is no script
module _ (p : Program) (kinds : Kinds) (w : AreModulesKnown p kinds) (m : ℕ) (s : Text) where
  pub es_told : (d : ℕ) (tables : Tables) → IsTableOf p d tables → required_of kinds.modules.now m s ≡ Some d → IsTrue (not tables.is_script) ↔ LeadsToEs p m s
  es_told d tables t leads = (
    (λ is. record { other = d; leads = w.leads m s ∙ leads; es = sym t.script ∙ not_true tables.is_script is }),
    (λ to.
        let same : to.other ≡ d = same_Some to.other d (sym to.leads ∙ (w.leads m s ∙ leads)) in
        ap not (t.script ∙ ap (λ n. is_script (tree_of p n)) (sym same) ∙ to.es)),
  )
    where
      not_true : (b : Bool) → not b ≡ true → b ≡ false
      not_true true h = absurd (false≢true h)
      not_true false h = refl

module _ (p : Program) (kinds : Kinds) (w : AreModulesKnown p kinds) (m : ℕ) where
  module _ (calls : List RequireCall_stage) (are : map call_entry_of calls ≡ calls_of p m) where
    -- ---- literal calls
    pub entry_first : (i : ℕ) (call : RequireCall_stage) → slice_get calls i ≡ Some call → HoldsBelow (λ (c : RequireCall_stage). required_of kinds.modules.now m c.specifier.now ≡ Some kinds.entry → ⊥) calls i → required_of kinds.modules.now m call.specifier.now ≡ Some kinds.entry → IsFoundIn p 0 m (Some (record { kind = in_variants.RequiredEntry; which = m; name = call.specifier }))
    entry_first i call there below leads =
        let stands = call_stands p m call_entry_of calls i call are there in
        record {
          here = refl;
          place = call.place;
          there = λ file. (required_entry (call_entry_of call) stands (call_leads p m (call_entry_of call) stands ∙ to call.specifier.now leads));
          least = λ file other f finds.
              let r = entry_call finds refl in
              let less = first_call p m call_entry_of calls (λ s. p.leads m s ≡ Some p.entry) are i call there (λ k c under at wrong. below k c under at (from c.specifier.now wrong)) r.0 r.1 (sym (call_leads p m r.0 r.1) ∙ r.2) in
              subst (λ n. call.place ≤ n) r.3 less;
        }
      where
        to : (s : Text) → required_of kinds.modules.now m s ≡ Some kinds.entry → p.leads m s ≡ Some p.entry
        to s is = w.leads m s ∙ is ∙ ap (λ n. Some n) (sym w.begins)

        from : (s : Text) → p.leads m s ≡ Some p.entry → required_of kinds.modules.now m s ≡ Some kinds.entry
        from s is = sym (w.leads m s) ∙ is ∙ ap (λ n. Some n) w.begins

    pub entry_none : ((i : ℕ) (call : RequireCall_stage) → slice_get calls i ≡ Some call → required_of kinds.modules.now m call.specifier.now ≡ Some kinds.entry → ⊥) → IsFoundIn p 0 m None
    entry_none none = λ file place f finds.
        let r = entry_call finds refl in
        no_call p m call_entry_of calls (λ s. p.leads m s ≡ Some p.entry) are (λ k c there wrong. none k c there (sym (w.leads m c.specifier.now) ∙ wrong ∙ ap (λ n. Some n) w.begins)) r.0 r.1 (sym (call_leads p m r.0 r.1) ∙ r.2)

    pub es_first : (i : ℕ) (call : RequireCall_stage) → slice_get calls i ≡ Some call → HoldsBelow (λ (c : RequireCall_stage). LeadsToEs p m c.specifier.now → ⊥) calls i → LeadsToEs p m call.specifier.now → IsFoundIn p 1 m (Some (record { kind = in_variants.RequiredEsModule; which = m; name = call.specifier }))
    es_first i call there below leads =
        let stands = call_stands p m call_entry_of calls i call are there in
        record {
          here = refl;
          place = call.place;
          there = λ file. (required_es_module (call_entry_of call) stands (call_leads p m (call_entry_of call) stands ∙ leads.leads) leads.es);
          least = λ file other f finds.
              let r = es_call finds refl in
              let to : LeadsToEs p m r.0.specifier = record { other = r.2.0; leads = sym (call_leads p m r.0 r.1) ∙ r.2.1; es = r.2.2 } in
              let less = first_call p m call_entry_of calls (LeadsToEs p m) are i call there below r.0 r.1 to in
              subst (λ n. call.place ≤ n) r.3 less;
        }

    pub es_none : ((i : ℕ) (call : RequireCall_stage) → slice_get calls i ≡ Some call → LeadsToEs p m call.specifier.now → ⊥) → IsFoundIn p 1 m None
    es_none none = λ file place f finds.
        let r = es_call finds refl in
        no_call p m call_entry_of calls (LeadsToEs p m) are none r.0 r.1 (record { other = r.2.0; leads = sym (call_leads p m r.0 r.1) ∙ r.2.1; es = r.2.2 })

  module _ (tables : Tables) (table : IsTableOf p m tables) where
    -- ---- awaits
    pub await_first : (text : Bor Text) → flagged kinds.common_js.items m ≡ true → tables.awaits ≡ true → IsFoundIn p 3 m (Some (record { kind = in_variants.AwaitInCommonJs; which = m; name = text }))
    await_first text common awaits = record {
      here = refl;
      place = 0;
      there = λ file. (await_in_common_js ((w.common_js m).0 common) (sym table.awaits ∙ awaits));
      least = λ file other f finds. omega arith;
    }

    pub await_none : (flagged kinds.common_js.items m ≡ true → tables.awaits ≡ true → ⊥) → IsFoundIn p 3 m None
    await_none not_both = λ file place f finds.
        let r = await_there finds refl in
        not_both ((w.common_js m).1 r.0) (table.awaits ∙ r.1)

    -- ---- `arguments`
    pub arguments_first : (text : Bor Text) → p.settings.iife ≡ true → flagged kinds.common_js.items m ≡ false → tables.has_free_arguments ≡ true → IsFoundIn p 8 m (Some (record { kind = in_variants.ArgumentsUnderIife; which = m; name = text }))
    arguments_first text iife es free = record {
      here = refl;
      place = 0;
      there = λ file. (arguments_under_iife iife (λ common. false≢true (sym es ∙ (w.common_js m).1 common)) (sym table.arguments ∙ free));
      least = λ file other f finds. omega arith;
    }

    pub arguments_none : (flagged kinds.common_js.items m ≡ false → tables.has_free_arguments ≡ true → ⊥) → IsFoundIn p 8 m None
    arguments_none not_both = λ file place f finds.
        let r = arguments_there finds refl in
        not_both (not_true (flagged kinds.common_js.items m) (λ common. r.1 ((w.common_js m).0 common))) (table.arguments ∙ r.2)
      where
        not_true : (b : Bool) → (b ≡ true → ⊥) → b ≡ false
        not_true true h = absurd (h refl)
        not_true false h = refl

  -- ---- stars
  module _ (stars : List (Bor Text)) (are : map (λ (s : Bor Text). s.now) stars ≡ each_once (flat_map star_of (exports p m))) where
    star_lead : (s : Text) → Contains (exports p m) (Star s) → LeadsIn p m s (lead_of kinds m s)
    star_lead s there = subst (LeadsIn p m s) (sym (same_lead p kinds w m s (by_star there))) (leads_right p kinds w m s)

    star_test : (place c : ℕ) (s : Text) → slice_get (exports p m) place ≡ Some (Star s) → resolves p m s ≡ Some c → IsCommonJs p c → is_common (lead_of kinds m s) ≡ true
    star_test place c s there leads common = lead_common p m c s (lead_of kinds m s) (star_lead s (got_there (exports p m) place (Star s) there)) leads common

    pub star_first : (i : ℕ) (star : Bor Text) → slice_get stars i ≡ Some star → HoldsBelow (λ (s : Bor Text). is_common (lead_of kinds m s.now) ≡ false) stars i → is_common (lead_of kinds m star.now) ≡ true → IsFoundIn p 4 m (Some (record { kind = in_variants.StarOfCommonJs; which = m; name = star }))
    star_first i star there below is =
        let test = λ (s : Text). is_common (lead_of kinds m s) in
        let once = each_once (flat_map star_of (exports p m)) in
        let stands : slice_get once i ≡ Some star.now = subst (λ l. slice_get l i ≡ Some star.now) are (at_map (λ (s : Bor Text). s.now) stars i star there) in
        let first = first_star test (exports p m) i star.now stands is before in
        let to = common_lead p m star.now (lead_of kinds m star.now) (star_lead star.now (got_there (exports p m) first.place (Star star.now) first.at)) is in
        record {
          here = refl;
          place = first.place;
          there = λ file. (star_of_common_js first.at to.1 to.2);
          least = λ file other f finds.
              let r = star_there finds refl in
              first.least other r.0 r.2 (star_test other r.1 r.0 r.2 r.3 r.4);
        }
      where
        before : HoldsBelow (λ (s : Text). is_common (lead_of kinds m s) ≡ false) (each_once (flat_map star_of (exports p m))) i
        before k s under at =
            let r = map_at (λ (s : Bor Text). s.now) stars k s (subst (λ l. slice_get l k ≡ Some s) (sym are) at) in
            subst (λ (s : Text). is_common (lead_of kinds m s) ≡ false) r.2 (below k r.0 under r.1)

    pub star_none : ((i : ℕ) (star : Bor Text) → slice_get stars i ≡ Some star → is_common (lead_of kinds m star.now) ≡ false) → IsFoundIn p 4 m None
    star_none none = λ file place f finds.
        let r = star_there finds refl in
        let at = stars_on p m stars r.0 are (got_there (exports p m) place (Star r.0) r.2) in
        let here = got stars at.0 at.1 in
        false≢true (sym (none here.0 at.0 here.1) ∙ ap (λ s. is_common (lead_of kinds m s)) at.2 ∙ star_test place r.1 r.0 r.2 r.3 r.4)

  -- ---- what is external
  module _ (sources : List Source) (are : map source_asked sources ≡ map (told_external p.settings.external) (declared_requests (tree_of p m))) where
    external_at : (i : ℕ) (source : Source) → slice_get sources i ≡ Some source → source.is_external ≡ true → (slice_get (declared_requests (tree_of p m)) i ≡ Some source.specifier.now) × IsTrue (is_external p source.specifier.now)
    external_at i source there is =
        let r = map_at (told_external p.settings.external) (declared_requests (tree_of p m)) i (source_asked source) (subst (λ l. slice_get l i ≡ Some (source_asked source)) are (at_map source_asked sources i source there)) in
        let text : r.0 ≡ source.specifier.now = ap (λ (x : Text × Bool). x.0) r.2 in
        (r.1 ∙ ap (λ s. Some s) text, ap (is_external p) (sym text) ∙ ap (λ (x : Text × Bool). x.1) r.2 ∙ is)

    at_external : (place : ℕ) (s : Text) → slice_get (declared_requests (tree_of p m)) place ≡ Some s → IsTrue (is_external p s) → (source : Source) × (slice_get sources place ≡ Some source) × (source.is_external ≡ true)
    at_external place s there is =
        let r = map_at source_asked sources place (told_external p.settings.external s) (subst (λ l. slice_get l place ≡ Some (told_external p.settings.external s)) (sym are) (at_map (told_external p.settings.external) (declared_requests (tree_of p m)) place s there)) in
        (r.0, r.1, ap (λ (x : Text × Bool). x.1) r.2 ∙ is)

    pub external_first : (i : ℕ) (source : Source) → p.settings.iife ≡ true → slice_get sources i ≡ Some source → HoldsBelow (λ (s : Source). s.is_external ≡ false) sources i → source.is_external ≡ true → IsFoundIn p 7 m (Some (record { kind = in_variants.ExternalUnderIife; which = m; name = source.specifier }))
    external_first i source iife there below is =
        let stands = external_at i source there is in
        record {
          here = refl;
          place = i;
          there = λ file. (external_under_iife iife stands.0 stands.1);
          least = λ file other f finds.
              let r = external_there finds refl in
              let at = at_external other r.0 r.2 r.3 in
              not_before (λ (s : Source). s.is_external ≡ false) sources i other at.0 below at.1 (λ inside. false≢true (sym inside ∙ at.2));
        }

    pub external_none : ((i : ℕ) (source : Source) → slice_get sources i ≡ Some source → source.is_external ≡ false) → IsFoundIn p 7 m None
    external_none none = λ file place f finds.
        let r = external_there finds refl in
        let at = at_external place r.0 r.2 r.3 in
        false≢true (sym (none place at.0 at.1) ∙ at.2)

module _ (p : Program) (m : ℕ) where
  -- ---- objects of namespaces
  pub object_first : (text : Bor Text) → IsMeant p (Of (Namespace m)) → StarsExternal p m → IsFoundIn p 6 m (Some (record { kind = in_variants.NamespaceOverExternalStar; which = m; name = text }))
  object_first text meant stars = record {
    here = refl;
    place = 0;
    there = λ file. (namespace_over_external_star meant stars);
    least = λ file other f finds. omega arith;
  }

  pub object_unmeant : (IsMeant p (Of (Namespace m)) → ⊥) → IsFoundIn p 6 m None
  object_unmeant none = λ file place f finds. none (object_there finds refl).0

  pub object_closed : (StarsExternal p m → ⊥) → IsFoundIn p 6 m None
  object_closed none = λ file place f finds. none (object_there finds refl).1
