-- Texts in their order.
-- What a fault of a stage is.
use Rattle.std.proofs.Common.{◌≡◌, suc, ◌+◌, Bool, true, false, List, [], ◌∷◌, ◌++◌, get_or, map, refl, sym, ap, ◌∙◌, subst, arith, ℕ, Some, Contains}
use Rattle.std.specs.Prelude.{bytes_eq, IsTrue, codes, slice_get}
use Rattle.std.specs.Borrow.{Bor}
use Rattle.std.specs.Cmp.Lexicographic.{slice_cmp}
use Rattle.std.specs.List.{IsDistinct}
use Rattle.std.specs.List.Sorted.{IsPermutation, IsSortedBy}
use Rattle.std.specs.Ordering.{is_eq, is_lt, nat_cmp, ordering_reverse}
use Rattle.std.specs.declared.cmp.Ordering.{Ordering}
use Rattle.std.specs.declared.cmp.Ordering.TheVariants.{Less, Equal, Greater}
use Rattle.std.proofs.lemmas.Bool.{false≢true}
use Rattle.std.proofs.lemmas.Cmp.{nat_list_cmp_total}
use Rattle.std.proofs.lemmas.Map.Keys.{IsDistinct-IsPermutation, IsDistinct-tail, IsDistinct-head}
use Rattle.std.proofs.lemmas.Map.Text.{is_eq-slice_cmp}
use Rattle.std.proofs.lemmas.Slice.Eq.{bytes_eq-Decides}
use Rattle.bundle_tree_names.specs.FileName.{Name}
use Rattle.bundle_rules.specs.Nodes.{Text}
use Rattle.bundle_rules.specs.Bundle.{IsAscending}
use Rattle.bundle_rules.specs.Bound.{has_free}
use Rattle.bundle_rules.specs.Awaits.{awaits_outside}
use Rattle.bundle_rules.specs.Entries.{RequireCall, Star, declared_requests, is_script}
use Rattle.bundle_rules.specs.Program.{Program, calls_of, is_external, resolves, tree_of}
use Rattle.bundle_rules.specs.Linking.{IsCommonJs, IsModule, Namespace, exports}
use Rattle.bundle_rules.specs.Meaning.{IsMeant, Of}
use Rattle.bundle_rules.specs.Faults as g
use Rattle.bundle_rules.specs.Faults.{AskedName, NameFault, ProgramFault, StarsExternal, asked_names, required_entry, required_es_module, doubled_declaration, await_in_common_js, star_of_common_js, name, namespace_over_external_star, external_under_iife, arguments_under_iife}

-- ---- the order
abbrev cmp : Text → Text → Ordering
cmp = slice_cmp nat_cmp

-- ---- of a part in the same order
pub data Among {A : Type 0} : List A → List A → Type 0 where
  none : Among [] []
  there : {x : A} {xs ys : List A} → Among xs ys → Among (x ∷ xs) (x ∷ ys)
  past : {y : A} {xs ys : List A} → Among xs ys → Among xs (y ∷ ys)

pub among-nothing : {A : Type 0} (ys : List A) → Among [] ys
among-nothing [] = none
among-nothing (y ∷ ys) = past (among-nothing ys)

pub among-both : {A : Type 0} {xs ys : List A} (z : A) → Among xs ys → Among (xs ++ z ∷ []) (ys ++ z ∷ [])
among-both z none = there none
among-both z (there more) = there (among-both z more)
among-both z (past more) = past (among-both z more)

pub among-past : {A : Type 0} {xs ys : List A} (z : A) → Among xs ys → Among xs (ys ++ z ∷ [])
among-past z none = past none
among-past z (there more) = there (among-past z more)
among-past z (past more) = past (among-past z more)

-- each is above
abbrev Above : Text → List Text → Type 0
Above x [] = Unit {0}
Above x (y ∷ ys) = (cmp x y ≡ Less) × Above x ys

abbrev Rises : List Text → Type 0
Rises [] = Unit {0}
Rises (x ∷ xs) = Above x xs × Rises xs

above-more : (x y : Text) (ys : List Text) → cmp x y ≡ Less → Above y ys → Above x ys
above-more x y [] less above = tt
above-more x y (z ∷ zs) less above = (nat_list_cmp_total.trans x y z less above.0, above-more x y zs less above.1)

rises-of : (xs : List Text) → IsAscending xs → Rises xs
rises-of [] up = tt
rises-of (x ∷ []) up = (tt, tt)
rises-of (x ∷ y ∷ rest) up = let more = rises-of (y ∷ rest) up.1 in ((up.0, above-more x y rest up.0 more.0), more)

ascends : (xs : List Text) → Rises xs → IsAscending xs
ascends [] up = tt
ascends (x ∷ []) up = tt
ascends (x ∷ y ∷ rest) up = (up.0.0, ascends (y ∷ rest) up.1)

above-among : (x : Text) {xs ys : List Text} → Among xs ys → Above x ys → Above x xs
above-among x none above = tt
above-among x (there more) above = (above.0, above-among x more above.1)
above-among x (past more) above = above-among x more above.1

rises-among : {xs ys : List Text} → Among xs ys → Rises ys → Rises xs
rises-among none up = tt
rises-among (there {x = x} more) up = (above-among x more up.0, rises-among more up.1)
rises-among (past more) up = rises-among more up.1

pub ascending-among : {xs ys : List Text} → Among xs ys → IsAscending ys → IsAscending xs
ascending-among {xs = xs} {ys = ys} part up = ascends xs (rises-among part (rises-of ys up))

-- ---- after a sort of texts that differ
abbrev pub text-cmp : Bor Text → Bor Text → Ordering
text-cmp x y = slice_cmp nat_cmp x.now y.now

abbrev pub text-eq : Bor Text → Bor Text → Bool
text-eq x y = bytes_eq x.now y.now

less-from : (x y : Text) → is_lt (cmp y x) ≡ false → bytes_eq x y ≡ false → cmp x y ≡ Less
less-from x y upward differ = by (cmp x y) refl
  where
    by : (o : Ordering) → cmp x y ≡ o → cmp x y ≡ Less
    by Less e = e
    by Equal e = absurd (false≢true (sym differ ∙ sym (is_eq-slice_cmp x y) ∙ ap is_eq e))
    by Greater e = absurd (false≢true (sym upward ∙ ap is_lt (nat_list_cmp_total.antisymm y x ∙ ap ordering_reverse e)))

sorted-tail : {X : Type 0} (lt : X → X → Bool) (x : X) (xs : List X) → IsSortedBy lt (x ∷ xs) → IsSortedBy lt xs
sorted-tail lt x xs sorted = λ k d from below.
    let one : suc k + 1 ≡ suc (k + 1) = omega arith in
    subst (λ i. lt (get_or (x ∷ xs) i d) (get_or xs k d) ≡ false) one (sorted (suc k) d (omega arith) (omega (arith, below)))

pub sorted-ascends : (ys : List (Bor Text)) → IsSortedBy (λ x y. is_lt (text-cmp x y)) ys → IsDistinct text-eq ys → IsAscending (map (λ y. y.now) ys)
sorted-ascends [] sorted once = tt
sorted-ascends (x ∷ []) sorted once = tt
sorted-ascends (x ∷ y ∷ rest) sorted once = (
  less-from x.now y.now (sorted 0 x (omega arith) (omega arith)) (IsDistinct-head text-eq x (y ∷ rest) once).0,
  sorted-ascends (y ∷ rest) (sorted-tail (λ a b. is_lt (text-cmp a b)) x (y ∷ rest) sorted) (IsDistinct-tail text-eq x (y ∷ rest) once),
)

flips : (x y : Bor Text) → text-eq x y ≡ text-eq y x
flips x y = by (text-eq x y) (text-eq y x) refl refl
  where
    by : (a b : Bool) → text-eq x y ≡ a → text-eq y x ≡ b → a ≡ b
    by true true e f = refl
    by false false e f = refl
    by true false e f = sym ((bytes_eq-Decides y.now x.now).1 (sym ((bytes_eq-Decides x.now y.now).0 e))) ∙ f
    by false true e f = sym e ∙ (bytes_eq-Decides x.now y.now).1 (sym ((bytes_eq-Decides y.now x.now).0 f))

pub texts-ascend : (old new : List (Bor Text)) → IsPermutation old new → IsDistinct text-eq old → IsSortedBy (λ x y. is_lt (text-cmp x y)) new → IsAscending (map (λ y. y.now) new)
texts-ascend old new moved once sorted = sorted-ascends new sorted (IsDistinct-IsPermutation text-eq flips old new moved once)

-- ---- program fault
module _ {p : Program} {file : Name} {m : ℕ} where
  pub entry_call : {stage place : ℕ} {f : g.Fault} → ProgramFault p file m stage place f → stage ≡ 0 → (call : RequireCall) × Contains (calls_of p m) call × (resolves p m call.specifier ≡ Some p.entry) × (call.place ≡ place)
  entry_call (required_entry call stands leads) is = (call, stands, leads, refl)
  entry_call (required_es_module call stands leads es) is = absurd (omega arith)
  entry_call (doubled_declaration d kind doubled) is = absurd (omega arith)
  entry_call (await_in_common_js common awaits) is = absurd (omega arith)
  entry_call (star_of_common_js at leads common) is = absurd (omega arith)
  entry_call (name asked at leads wrong) is = absurd (omega arith)
  entry_call (namespace_over_external_star meant stars) is = absurd (omega arith)
  entry_call (external_under_iife iife at outside) is = absurd (omega arith)
  entry_call (arguments_under_iife iife es free) is = absurd (omega arith)

  pub es_call : {stage place : ℕ} {f : g.Fault} → ProgramFault p file m stage place f → stage ≡ 1 → (call : RequireCall) × Contains (calls_of p m) call × ((c : ℕ) × (resolves p m call.specifier ≡ Some c) × (is_script (tree_of p c) ≡ false)) × (call.place ≡ place)
  es_call (required_es_module {c = c} call stands leads es) is = (call, stands, (c, leads, es), refl)
  es_call _ is = absurd (omega arith)

  pub await_there : {stage place : ℕ} {f : g.Fault} → ProgramFault p file m stage place f → stage ≡ 3 → IsCommonJs p m × IsTrue (awaits_outside (tree_of p m))
  await_there (await_in_common_js common awaits) is = (common, awaits)
  await_there _ is = absurd (omega arith)

  pub star_there : {stage place : ℕ} {f : g.Fault} → ProgramFault p file m stage place f → stage ≡ 4 → (s : Text) × (c : ℕ) × (slice_get (exports p m) place ≡ Some (Star s)) × (resolves p m s ≡ Some c) × IsCommonJs p c
  star_there (star_of_common_js {c = c} {s = s} at leads common) is = (s, c, at, leads, common)
  star_there _ is = absurd (omega arith)

  pub name_there : {stage place : ℕ} {f : g.Fault} → ProgramFault p file m stage place f → stage ≡ 5 → (asked : AskedName) × (d : ℕ) × (slice_get (asked_names (tree_of p m)) place ≡ Some asked) × IsModule p m asked.specifier d × NameFault p d asked.name file f
  name_there (name {d = d} asked at leads wrong) is = (asked, d, at, leads, wrong)
  name_there _ is = absurd (omega arith)

  pub object_there : {stage place : ℕ} {f : g.Fault} → ProgramFault p file m stage place f → stage ≡ 6 → IsMeant p (Of (Namespace m)) × StarsExternal p m
  object_there (namespace_over_external_star meant stars) is = (meant, stars)
  object_there _ is = absurd (omega arith)

  pub external_there : {stage place : ℕ} {f : g.Fault} → ProgramFault p file m stage place f → stage ≡ 7 → (s : Text) × (p.settings.iife ≡ true) × (slice_get (declared_requests (tree_of p m)) place ≡ Some s) × IsTrue (is_external p s)
  external_there (external_under_iife {s = s} iife at outside) is = (s, iife, at, outside)
  external_there _ is = absurd (omega arith)

  pub arguments_there : {stage place : ℕ} {f : g.Fault} → ProgramFault p file m stage place f → stage ≡ 8 → (p.settings.iife ≡ true) × (IsCommonJs p m → ⊥) × IsTrue (has_free (tree_of p m) (codes "arguments"))
  arguments_there (arguments_under_iife iife es free) is = (iife, es, free)
  arguments_there _ is = absurd (omega arith)
