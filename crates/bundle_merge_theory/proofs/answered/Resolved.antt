-- The bindings inside the object of `import.meta` are told apart, and are called as in what the
-- hook answered.
use Rattle.std.proofs.Common.{◌≡◌, ◌↔◌, ◌<◌, ◌⊎◌, inl, inr, ℕ, zero, suc, ◌+◌, true, List, [], ◌∷◌, Option, Some, filter, map, slice_get, refl, ap, sym, ◌∙◌, subst, arith}
use Rattle.std.specs.List.{AllZip}
use Rattle.std.proofs.lemmas.Bool.{false≢true}
use Rattle.std.proofs.lemmas.Option.{none-some, same_Some}
use Rattle.bundle_syntax.specs.Item.{Item}
use Rattle.bundle_rules.specs.Places.{Occurrence, start, occurrences}
use Rattle.bundle_rules.specs.Scopes.{Es, Scope, ScopeKind, Inner, Block}
use Rattle.bundle_rules.specs.Declarations.{Name}
use Rattle.bundle_rules.specs.Denotes.{Denoted, Bound, SameIdent}
use Rattle.bundle_rules.specs.Idents.{Ident}
use Rattle.bundle_rules.specs.Mentions.{each_denoted_once}
use Rattle.bundle_rules.specs.Parts.{tree_of_items}
use Rattle.bundle_rules.specs.Program.{Program}
use Rattle.bundle_rules.specs.Meaning.{plain, is_inside}
use Rattle.bundle_rules.specs.Symbols.{denoted_symbol}
use Rattle.bundle_rules.specs.Bundle.{Hooks, properties_tree}
use Rattle.bundle_scope_names.proofs.TreeLemmas.{DenotesOf, denoted-known, same-of, kind_in, occurrences-known}
use Rattle.bundle_merge_theory.specs.joined.Notes.{own_denoted, is_inner_denoted, IsResolvedInside}
use Rattle.bundle_merge_theory.specs.joined.Alike.{ArePlacesOneToOne}
use Rattle.bundle_merge_theory.proofs.loaded.Theorem.{inside_zip}
use Rattle.bundle_merge_theory.proofs.walked.NameLemmas.{both_once}
use Rattle.bundle_merge_theory.specs.composed.Noted.{first_spot}
use Rattle.bundle_merge_theory.specs.composed.Names.{own_from}
use Rattle.bundle_merge_theory.specs.made.Given.{HookAnswer, BundleContexts}
use Rattle.bundle_merge_theory.proofs.added.Rows.{occurrences-item}
use Rattle.bundle_merge_theory.proofs.answered.Properties.{Answering}
use Rattle.bundle_merge_theory.proofs.answered.Denoting as d
use Rattle.bundle_merge_theory.proofs.answered.Naming as n
use Rattle.bundle_merge_theory.proofs.answered.Naming.{Becomes, becomes, InsideAt, FreeAt, classify, one-to-one, differs, all-inside}

zip-second : {A B : Type 0} (Q : A → B → Type 0) (xs : List A) (ys : List B) → AllZip Q xs ys →
    (i : ℕ) (y : B) → slice_get ys i ≡ Some y → (x : A) × Q x y
zip-second Q [] [] all i y at = absurd (none-some y at)
zip-second Q [] (b ∷ ys) all i y at = absurd all
zip-second Q (a ∷ xs) [] all i y at = absurd all
zip-second Q (a ∷ xs) (b ∷ ys) all zero y at = (a, subst (λ z. Q a z) (same_Some b y at) all.0)
zip-second Q (a ∷ xs) (b ∷ ys) all (suc i) y at = zip-second Q xs ys all.1 i y at

kind_of : Scope → ScopeKind
kind_of (Inner kind begins) = kind
kind_of _ = Block

place_in : Denoted → ℕ
place_in (Bound (Inner kind begins) name) = begins
place_in _ = 0

same-kind : {k l : ScopeKind} {a b : ℕ} → Inner k a ≡ Inner l b → k ≡ l
unfolding kind_of
same-kind e = ap kind_of e

module _ (list : List ℕ) {p : Program} {hooks : Hooks} {context : BundleContexts}
    {answers : ℕ → Option HookAnswer} {m : ℕ} {properties within : List Item}
    (facts : Answering p hooks context answers m properties within) where
  abbrev Beside : Occurrence → Occurrence → Type 0
  Beside o u = d.IsBeside list facts o u

  abbrev the_item : List Item
  the_item = d.item list facts

  abbrev its_os : List Occurrence
  its_os = d.os list facts

  abbrev its_us : List Occurrence
  its_us = d.us list facts

  abbrev the_first : Occurrence
  the_first = d.first list facts

  abbrev there : Occurrence → Denoted
  there o = d.denoted_there list facts o

  abbrev Within : Occurrence → Occurrence → Type 0
  Within o u = InsideAt list facts o u

  abbrev Without : Occurrence → Occurrence → Type 0
  Without o u = FreeAt list facts o u

  all-beside : AllZip Beside its_os its_us
  all-beside = d.all-beside list facts

  sorted : (o u : Occurrence) → Beside o u → Within o u ⊎ Without o u
  sorted o u it = classify list facts o u it

  symbols : (o u : Occurrence) → Beside o u → u.sym ≡ o.sym
  symbols o u it = ap (λ (i : Ident). i.0) it.made.ident

  abbrev Rel : ℕ → ℕ → Type 0
  Rel = d.R list facts

  abbrev named : ScopeKind → ℕ → List ℕ → Name
  named kind a x = n.named_there list facts kind a x

  frame : ArePlacesOneToOne Rel
  frame = facts.its.one

  -- two names with one context of a binding inside
  same-scopes : (o q u v : Occurrence) (x : Beside o u) (y : Beside q v) (a : Within o u)
      (b : Within q v) → a.from ≡ b.from → Inner a.kind a.from ≡ Inner b.kind b.from
  same-scopes o q u v x y a b same =
      let tree : List Item = properties_tree properties in
      let known = occurrences-known tree in
      let all = d.ds list facts in
      same-of (kind_in start tree) (Inner a.kind a.from) (Inner b.kind b.from)
      (subst (DenotesOf (kind_in start tree)) a.before
      (denoted-known (kind_in start tree) Es all o (known x.at.0 o x.at.1)))
      (subst (DenotesOf (kind_in start tree)) b.before
      (denoted-known (kind_in start tree) Es all q (known y.at.0 q y.at.1)))
      (ap (λ n. n + 2) same)

  both-ways : (o q u v : Occurrence) → Beside o u → Beside q v →
      is_inner_denoted (own_denoted the_item u) ≡ true →
      SameIdent u v ↔ (own_denoted the_item u ≡ own_denoted the_item v)
  unfolding place_in
  both-ways o q u v x y inner = by (sorted o u x) (sorted q v y)
    where
      by : Within o u ⊎ Without o u → Within q v ⊎ Without q v →
          SameIdent u v ↔ (own_denoted the_item u ≡ own_denoted the_item v)
      by (inr a) two = absurd (false≢true (sym (ap is_inner_denoted a.after) ∙ inner))
      by (inl a) (inr b) = (
        λ same.
            let above : 1 < context (facts.holder a.from o.sym) = facts.apart.own
            (facts.holder a.from o.sym) a.holds in
            let is : context (facts.holder a.from o.sym) ≡ 1 = sym a.ctxt ∙ same.1 ∙ b.ctxt in
            absurd (omega (arith, above, is)),
        λ e. let one_is = sym a.after ∙ e ∙ b.after in absurd cc,
      )
      by (inl a) (inl b) = (
        λ same.
            let names : o.sym ≡ q.sym = sym (symbols o u x) ∙ same.0 ∙ symbols q v y in
            let from : a.from ≡ b.from =
            facts.differ a.listed.0 b.listed.0 a.kind b.kind a.from b.from (plain o.sym)
            (plain q.sym) a.listed.1 b.listed.1 names
            (facts.apart.apart (facts.holder a.from o.sym) (facts.holder b.from q.sym) a.holds
            b.holds (sym a.ctxt ∙ same.1 ∙ b.ctxt)) in
            let kinds : a.kind ≡ b.kind = same-kind (same-scopes o q u v x y a b from) in
            let to : a.to ≡ b.to =
            frame.one a.from a.to b.to a.goes (subst (λ k. Rel k b.to) (sym from) b.goes) in
            a.after
            ∙ (λ t. Bound (Inner (kinds t) (to t)) (named (kinds t) (from t) (names t)))
            ∙ sym b.after,
        λ e.
            let both : Bound (Inner a.kind a.to) (named a.kind a.from o.sym)
            ≡ Bound (Inner b.kind b.to) (named b.kind b.from q.sym) = sym a.after ∙ e ∙ b.after in
            let names : o.sym ≡ q.sym = ap denoted_symbol both in
            let to : a.to ≡ b.to = ap place_in both in
            let from : a.from ≡ b.from =
            frame.other a.from b.from b.to (subst (λ k. Rel a.from k) to a.goes) b.goes in (
              symbols o u x ∙ names ∙ sym (symbols q v y),
              a.ctxt ∙ (λ t. context (facts.holder (from t) (names t))) ∙ sym b.ctxt,
            ),
      )

  pub object-resolved : IsResolvedInside the_item
  object-resolved = record {
    same = λ a b la lb inner.
        by la.0 lb.0 a b
        (ap (λ os. slice_get os la.0) (sym its-occurrences) ∙ la.1)
        (ap (λ os. slice_get os lb.0) (sym its-occurrences) ∙ lb.1) inner;
  }
    where
      its-occurrences : occurrences (tree_of_items the_item) ≡ the_first ∷ its_us
      its-occurrences =
          occurrences-item the_item
          ∙ d.item-occurrences list facts

      by_second : (i j : ℕ) (a b : Occurrence) → slice_get its_us i ≡ Some a →
          slice_get (the_first ∷ its_us) j ≡ Some b → is_inner_denoted (own_denoted the_item a) ≡ true →
          SameIdent a b ↔ (own_denoted the_item a ≡ own_denoted the_item b)
      by_second i zero a b at there inner =
          let one_is = zip-second Beside its_os its_us all-beside i a at in (
            λ same. absurd (differs list facts one_is.0 a one_is.1
                (ap (λ (o : Occurrence). o.ctxt) (same_Some the_first b there) ∙ sym same.1)),
            λ e. absurd (false≢true
                (ap (λ o. is_inner_denoted (own_denoted the_item o)) (same_Some the_first b there)
                ∙ sym (ap is_inner_denoted e)
                ∙ inner)),
          )
      by_second i (suc j) a b at there inner =
          let one_is = zip-second Beside its_os its_us all-beside i a at in
          let two = zip-second Beside its_os its_us all-beside j b there in
          both-ways one_is.0 two.0 a b one_is.1 two.1 inner

      by : (i j : ℕ) (a b : Occurrence) → slice_get (the_first ∷ its_us) i ≡ Some a →
          slice_get (the_first ∷ its_us) j ≡ Some b → is_inner_denoted (own_denoted the_item a) ≡ true →
          SameIdent a b ↔ (own_denoted the_item a ≡ own_denoted the_item b)
      by zero j a b at there inner =
          absurd (false≢true
          (ap (λ o. is_inner_denoted (own_denoted the_item o)) (same_Some the_first a at) ∙ inner))
      by (suc i) j a b at there inner = by_second i j a b at there inner

  -- What bindings inside are called.

  -- all that is denoted in it
  pub object-denotes : own_from the_item first_spot the_item
      ≡ own_denoted the_item the_first ∷ map (own_denoted the_item) its_us
  object-denotes =
      ap (map (own_denoted the_item))
      (d.item-occurrences list facts)

  pub object-inner : filter (is_inside 1) (own_from the_item first_spot the_item)
      ≡ filter (is_inside 1) (map (own_denoted the_item) its_us)
  object-inner = ap (filter (is_inside 1)) object-denotes

  abbrev Turns : Denoted → Denoted → Type 0
  Turns a b = Becomes list facts a b

  pub inner-turn : AllZip Turns (filter (is_inside 0) (map there its_os))
      (filter (is_inside 1) (map (own_denoted the_item) its_us))
  inner-turn =
      inside_zip Turns (is_inside 0) (is_inside 1) (map there its_os) (map
      (own_denoted the_item) its_us)
      (all-inside list facts its_os its_us all-beside)

  turn-symbols : (xs ys : List Denoted) → AllZip Turns xs ys →
      map denoted_symbol ys ≡ map denoted_symbol xs
  turn-symbols [] [] all = refl
  turn-symbols [] (y ∷ ys) all = absurd all
  turn-symbols (x ∷ xs) [] all = absurd all
  turn-symbols (x ∷ xs) (y ∷ ys) all =
      ap (λ s. s ∷ map denoted_symbol ys) (one_symbol all.0)
      ∙ ap (λ l. denoted_symbol x ∷ l) (turn-symbols xs ys all.1)
    where
      one_symbol : {a b : Denoted} → Turns a b → denoted_symbol b ≡ denoted_symbol a
      one_symbol (becomes r) = refl

  pub object-called : map denoted_symbol (each_denoted_once (filter (is_inside 1)
      (own_from the_item first_spot the_item)))
      ≡ map denoted_symbol (each_denoted_once (filter (is_inside 0) (map there its_os)))
  object-called =
      ap (λ l. map denoted_symbol (each_denoted_once l)) object-inner
      ∙ turn-symbols (each_denoted_once (filter (is_inside 0) (map there its_os)))
      (each_denoted_once (filter (is_inside 1) (map (own_denoted the_item) its_us)))
      (both_once Turns
      (one-to-one list facts)
      (filter (is_inside 0) (map there its_os))
      (filter (is_inside 1) (map (own_denoted the_item) its_us)) inner-turn)
