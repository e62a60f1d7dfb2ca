-- All statements of a CommonJS module are noted in the item of its load function, and so is what
-- stands in front of them.
-- What the names of a statement of a CommonJS module mean in the item of its load function.
-- Nodes of the statements go to nodes of the body, one to one.
use Rattle.std.proofs.Common.{zero, List, ◌≡◌, ℕ, ◌+◌, ◌≤◌, Some, fold, length, slice_get, ap, ◌∙◌, subst, arith, ◌<◌, ◌==◌, ◌⊎◌, inl, inr, cond, sym, eq-eqb, ne_eqb}
use Rattle.bundle_syntax.specs.Item.{Item}
use Rattle.bundle_rules.specs.Idents.{Ident}
use Rattle.bundle_rules.specs.Sorting.{flat}
use Rattle.bundle_rules.specs.Places.{Spot, past, Occurrence, occurrences_from}
use Rattle.bundle_scope_names.proofs.Numbering.{Numbering}
use Rattle.bundle_merge_theory.specs.loaded.Turned.{Turned, over, NodeGoes, HasTurnedContexts, begun, declares, ended, named, word, empty, called, skipped, turned_origin}
use Rattle.bundle_merge_theory.specs.loaded.Pieces.{Pieced, no_more, one_more}
use Rattle.bundle_merge_theory.proofs.loaded.Parts.{turned-append, goes-first, goes-second, has-first, has-second, path-behind}
use Rattle.bundle_merge_theory.proofs.joined.Paths.{occurrences-append, fold-place, get-left, get-right}
use Rattle.bundle_merge_theory.specs.loaded.Item.{body_start, module_start}
use Rattle.bundle_merge_theory.specs.loaded.Paths.{PathBeside, at_top}
use Rattle.bundle_merge_theory.specs.loaded.Loaded.{module_declared, module_names, IsLoadedItem}
use Rattle.bundle_merge_theory.specs.loaded.Framed.{IsFrame}

-- ---- pieces

-- the statements together
abbrev pub together : {L : Ident → Type 0} {xs ys : List (List Item)} → Pieced L xs ys →
    Turned L zero (flat xs) (flat ys)
together no_more = over
together (one_more w rest) = turned-append w (together rest)

-- ---- stating

-- What holds of the scopes around a name holds of the one that it denotes.

-- some of the statements: where they stand, and that they are some of the module's
pub record IsPart {L : Ident → Type 0} {xs ys : List Item} (w : Turned L zero xs ys)
    (g : Numbering) {x y : List Item} (wx : Turned L zero x y) (s t : Spot) : Type 0 where
  pub path : PathBeside (NodeGoes w 1 22) zero s.path t.path
  pub goes : (a b : ℕ) → NodeGoes wx s.place t.place a b → NodeGoes w 1 22 a b
  pub has : HasTurnedContexts g (module_declared xs) wx s
  pub listed : (j : ℕ) (o : Occurrence) → slice_get (occurrences_from s x) j ≡ Some o →
      (i : ℕ) × (slice_get (module_names xs) i ≡ Some o)
  pub far : 22 ≤ t.place

-- all of them
pub whole-part : {L : Ident → Type 0} {xs ys : List Item} (w : Turned L zero xs ys) (g : Numbering)
    (load m e : Ident) →
    IsLoadedItem g w load m e → IsPart w g w module_start body_start
whole-part w g load m e its = record {
  path = at_top 0 0;
  goes = λ a b there. there;
  has = its.has;
  listed = λ j o at. (j, at);
  far = omega arith;
}

-- the first of them, and the rest
pub first-part : {L : Ident → Type 0} {xs ys : List Item} (w : Turned L zero xs ys) (g : Numbering)
    {x y more after : List Item} (wx : Turned L zero x y) (rest : Turned L zero more after)
    (s t : Spot) →
    IsPart w g (turned-append wx rest) s t → IsPart w g wx s t
first-part {xs = xs} w g {x = x} {more = more} wx rest s t part = record {
  path = part.path;
  goes = λ a b there. part.goes a b (goes-first wx rest s.place t.place a b there);
  has = has-first g (module_declared xs) wx rest s part.has;
  listed =
      λ j o at. part.listed j o (ap (λ os. slice_get os j) (occurrences-append s x more)
      ∙ get-left (occurrences_from s x) (occurrences_from (fold past s x) more) j o at);
  far = part.far;
}

pub next-part : {L : Ident → Type 0} {xs ys : List Item} (w : Turned L zero xs ys) (g : Numbering)
    {x y more after : List Item} (wx : Turned L zero x y) (rest : Turned L zero more after)
    (s t : Spot) →
    IsPart w g (turned-append wx rest) s t → IsPart w g rest (fold past s x) (fold past t y)
next-part {xs = xs} w g {x = x} {y = y} {more = more} wx rest s t part = record {
  path =
      path-behind (NodeGoes w 1 22) wx s t part.path
      (λ a b there. part.goes a b (goes-first wx rest s.place t.place a b there));
  goes =
      λ a b there. part.goes a b
      (goes-second wx rest s.place t.place a b
      (subst (λ n. NodeGoes rest n (t.place + length y) a b) (fold-place s x)
      (subst (λ n. NodeGoes rest (fold past s x).place n a b) (fold-place t y) there)));
  has = has-second g (module_declared xs) wx rest s part.has;
  listed =
      λ j o at. let it = get-right (occurrences_from s x) (occurrences_from (fold past s x) more) j
      o at in part.listed it.0 o (ap (λ os. slice_get os it.0) (occurrences-append s x more)
      ∙ it.1);
  far = let place = fold-place t y in let before = part.far in omega (arith, place, before);
}

-- ---- turning

-- nodes stand at or behind the first places
pub goes-from : {L : Ident → Type 0} {depth : ℕ} {xs ys : List Item} (w : Turned L depth xs ys)
    (from to a b : ℕ) →
    NodeGoes w from to a b → (from ≤ a) × (to ≤ b)
goes-from over from to a b goes = absurd goes
goes-from (begun own rest) from to a b (inl is) = (omega (arith, is.0), omega (arith, is.1))
goes-from (begun own rest) from to a b (inr goes) =
    let ih = goes-from rest (from + 1) (to + 1) a b goes in
    (omega (arith, ih.0), omega (arith, ih.1))
goes-from (declares rest) from to a b (inl is) = (omega (arith, is.0), omega (arith, is.1))
goes-from (declares rest) from to a b (inr goes) =
    let ih = goes-from rest (from + 1) (to + 1) a b goes in
    (omega (arith, ih.0), omega (arith, ih.1))
goes-from (ended rest) from to a b goes =
    let ih = goes-from rest (from + 1) (to + 1) a b goes in
    (omega (arith, ih.0), omega (arith, ih.1))
goes-from (named is rest) from to a b goes =
    let ih = goes-from rest (from + 1) (to + 1) a b goes in
    (omega (arith, ih.0), omega (arith, ih.1))
goes-from (word rest) from to a b goes =
    let ih = goes-from rest (from + 1) (to + 1) a b goes in
    (omega (arith, ih.0), omega (arith, ih.1))
goes-from (empty rest) from to a b goes =
    let ih = goes-from rest (from + 1) (to + 1) a b goes in
    (omega (arith, ih.0), omega (arith, ih.1))
goes-from (called load rest) from to a b (inl is) = (omega (arith, is.0), omega (arith, is.1))
goes-from (called load rest) from to a b (inr goes) =
    let ih = goes-from rest (from + 7) (to + 3) a b goes in
    (omega (arith, ih.0), omega (arith, ih.1))
goes-from (skipped rest) from to a b goes =
    let ih = goes-from rest (from + 2) to a b goes in (omega (arith, ih.0), ih.1)

-- one step
back-step : (b to from later : ℕ) (a : ℕ) → ((a ≡ from) × (b ≡ to)) ⊎ ((to < b) × (later ≡ a)) →
    cond (b == to) from later ≡ a
back-step b to from later a (inl is) = ap (λ t. cond t from later) (eq-eqb b to is.1) ∙ sym is.0
back-step b to from later a (inr is) =
    let far = is.0 in ap (λ t. cond t from later) (ne_eqb b to (λ e. omega (arith, e, far))) ∙ is.1

pub goes-back : {L : Ident → Type 0} {depth : ℕ} {xs ys : List Item} (w : Turned L depth xs ys)
    (from to a b : ℕ) →
    NodeGoes w from to a b → turned_origin w from to b ≡ a
goes-back over from to a b goes = absurd goes
goes-back (begun own rest) from to a b (inl is) =
    back-step b to from (turned_origin rest (from + 1) (to + 1) b) a (inl is)
goes-back (begun own rest) from to a b (inr goes) =
    let far = goes-from rest (from + 1) (to + 1) a b goes in
    back-step b to from (turned_origin rest (from + 1) (to + 1) b) a
    (inr (omega (arith, far.1), goes-back rest (from + 1) (to + 1) a b goes))
goes-back (declares rest) from to a b (inl is) =
    back-step b to from (turned_origin rest (from + 1) (to + 1) b) a (inl is)
goes-back (declares rest) from to a b (inr goes) =
    let far = goes-from rest (from + 1) (to + 1) a b goes in
    back-step b to from (turned_origin rest (from + 1) (to + 1) b) a
    (inr (omega (arith, far.1), goes-back rest (from + 1) (to + 1) a b goes))
goes-back (ended rest) from to a b goes = goes-back rest (from + 1) (to + 1) a b goes
goes-back (named is rest) from to a b goes = goes-back rest (from + 1) (to + 1) a b goes
goes-back (word rest) from to a b goes = goes-back rest (from + 1) (to + 1) a b goes
goes-back (empty rest) from to a b goes = goes-back rest (from + 1) (to + 1) a b goes
goes-back (called load rest) from to a b (inl is) =
    back-step b to from (turned_origin rest (from + 7) (to + 3) b) a (inl is)
goes-back (called load rest) from to a b (inr goes) =
    let far = goes-from rest (from + 7) (to + 3) a b goes in
    back-step b to from (turned_origin rest (from + 7) (to + 3) b) a
    (inr (omega (arith, far.1), goes-back rest (from + 7) (to + 3) a b goes))
goes-back (skipped rest) from to a b goes = goes-back rest (from + 2) to a b goes

one-step : (a b c from to : ℕ) (L : ℕ → ℕ → Type 0) → ((x y : ℕ) → L x y → from < x) →
    ((y z : ℕ) → L a y → L a z → y ≡ z) → ((a ≡ from) × (b ≡ to)) ⊎ L a b →
    ((a ≡ from) × (c ≡ to)) ⊎ L a c → b ≡ c
one-step a b c from to L far one (inl x) (inl y) = x.1 ∙ sym y.1
one-step a b c from to L far one (inl x) (inr y) =
    let l = far a c y in let e = x.0 in omega (arith, l, e)
one-step a b c from to L far one (inr x) (inl y) =
    let l = far a b x in let e = y.0 in omega (arith, l, e)
one-step a b c from to L far one (inr x) (inr y) = one b c x y

pub goes-one : {L : Ident → Type 0} {depth : ℕ} {xs ys : List Item} (w : Turned L depth xs ys)
    (from to a b c : ℕ) →
    NodeGoes w from to a b → NodeGoes w from to a c → b ≡ c
goes-one over from to a b c x y = absurd x
goes-one (begun own rest) from to a b c x y =
    one-step a b c from to (NodeGoes rest (from + 1) (to + 1))
    (λ m n goes. let far = goes-from rest (from + 1) (to + 1) m n goes in omega (arith, far.0))
    (λ m n. goes-one rest (from + 1) (to + 1) a m n) x y
goes-one (declares rest) from to a b c x y =
    one-step a b c from to (NodeGoes rest (from + 1) (to + 1))
    (λ m n goes. let far = goes-from rest (from + 1) (to + 1) m n goes in omega (arith, far.0))
    (λ m n. goes-one rest (from + 1) (to + 1) a m n) x y
goes-one (ended rest) from to a b c x y = goes-one rest (from + 1) (to + 1) a b c x y
goes-one (named is rest) from to a b c x y = goes-one rest (from + 1) (to + 1) a b c x y
goes-one (word rest) from to a b c x y = goes-one rest (from + 1) (to + 1) a b c x y
goes-one (empty rest) from to a b c x y = goes-one rest (from + 1) (to + 1) a b c x y
goes-one (called load rest) from to a b c x y =
    one-step a b c from to (NodeGoes rest (from + 7) (to + 3))
    (λ m n goes. let far = goes-from rest (from + 7) (to + 3) m n goes in omega (arith, far.0))
    (λ m n. goes-one rest (from + 7) (to + 3) a m n) x y
goes-one (skipped rest) from to a b c x y = goes-one rest (from + 2) to a b c x y

-- THE FRAME of the statements of a module, which begin at 1, and in the body at 22
pub turned-frame : {L : Ident → Type 0} {xs ys : List Item} (w : Turned L zero xs ys) →
    IsFrame (NodeGoes w 1 22)
turned-frame w = record {
  one = λ a b c. goes-one w 1 22 a b c;
  from = turned_origin w 1 22;
  back = λ a b goes. goes-back w 1 22 a b goes;
  inside = λ a b goes. let far = goes-from w 1 22 a b goes in omega (arith, far.1);
}
