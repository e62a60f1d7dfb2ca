-- The names of whole nodes in two places that make the same of what stands in them.
use Rattle.std.proofs.Common.{◌≡◌, ◌≤◌, ℕ, ◌+◌, List, ◌∷◌, ◌++◌, Some, fold, refl, ap, sym, ◌∙◌, subst, arith}
use Rattle.std.specs.List.{AllZip}
use Rattle.bundle_syntax.specs.declared.piece.Role.{Role}
use Rattle.bundle_syntax.specs.declared.piece.Role.TheVariants as r
use Rattle.bundle_syntax.specs.Item as h
use Rattle.bundle_syntax.specs.Item.{Item, Head}
use Rattle.bundle_rules.specs.Places.{Spot, past, in_field, Occurrence, occurrences_from}
use Rattle.bundle_rules.specs.Scopes.{Es, scopes_around}
use Rattle.bundle_rules.specs.Declarations.{Way, way_of}
use Rattle.bundle_rules.specs.Idents.{ident_of}
use Rattle.bundle_merge_theory.specs.joined.Alike.{ScopesAlike}
use Rattle.bundle_merge_theory.specs.noted.Nodes.{AreNodesInTurn, nothing, name, hole, node}
use Rattle.bundle_scope_names.proofs.Kept.{occurrences-append as occurrences_append}
use Rattle.bundle_merge_theory.proofs.noted.Spots.{path-behind}
use Rattle.bundle_link.proofs.NodePaths.{place-behind, spot-behind, spot-in, field-twice}
use Rattle.bundle_merge_theory.specs.own.Beside.{PathsBeside, SpotsBeside}
use Rattle.bundle_merge_theory.proofs.own.Slots.{same, spots-in}
use Rattle.bundle_merge_theory.proofs.laid.Ready.{zip-join as zip-append}

-- a node goes so many places on
abbrev pub GoesOn : (from far : ℕ) → ℕ → ℕ → Type 0
GoesOn from far a b = (from ≤ a) × (b ≡ a + far)

-- a name that stands elsewhere
pub record StandsElsewhere (R : ℕ → ℕ → Type 0) (o u : Occurrence) : Type 0 where
  pub ident : ident_of u ≡ ident_of o
  pub role : u.role ≡ o.role
  pub way : (w : Way) → way_of o.path ≡ Some w → way_of u.path ≡ Some w
  pub scopes : AllZip (ScopesAlike R) (scopes_around Es o.path) (scopes_around Es u.path)

module _ (from far : ℕ) where
  abbrev R : ℕ → ℕ → Type 0
  R = GoesOn from far

  behind : (inside : List Item) → AreNodesInTurn inside → (s t : Spot) (field : ℕ) (head : Head) →
      SpotsBeside R s t → SpotsBeside R (spot-behind s field head inside)
      (spot-behind t field head inside)
  behind inside nodes s t field head beside = λ f.
      subst (λ path. PathsBeside R path (in_field f (spot-behind t field head inside).path))
      (sym (ap (in_field f) (path-behind nodes s field head) ∙ field-twice f field s.path))
      (subst (λ path. PathsBeside R (in_field f s.path) path)
      (sym (ap (in_field f) (path-behind nodes t field head) ∙ field-twice f field t.path))
      (beside f))

  pub stand : {items : List Item} → AreNodesInTurn items → (s t : Spot) → SpotsBeside R s t →
      from ≤ s.place → t.place ≡ s.place + far →
      AllZip (StandsElsewhere R) (occurrences_from s items) (occurrences_from t items)
  stand nothing s t beside low on = tt
  stand (name {field = f} {ctxt = c} {sym = x} {role = role} {rest = rest} more) s t beside low
      on =
      by_role role
      (stand more (past s (h.Ident f x c role)) (past t (h.Ident f x c role)) beside
      (omega (arith, low)) (omega (arith, on)))
    where
      by_role : (role : Role) →
          AllZip (StandsElsewhere R) (occurrences_from (past s (h.Ident f x c role)) rest)
          (occurrences_from (past t (h.Ident f x c role)) rest) →
          AllZip (StandsElsewhere R) (occurrences_from s (h.Ident f x c role ∷ rest))
          (occurrences_from t (h.Ident f x c role ∷ rest))
      by_role r.Word later = later
      by_role r.Binding later = (
        record {
          ident = refl;
          role = refl;
          way = λ w there. (beside f).way w there;
          scopes = (beside f).scopes;
        },
        later,
      )
      by_role r.Reference later = (
        record {
          ident = refl;
          role = refl;
          way = λ w there. (beside f).way w there;
          scopes = (beside f).scopes;
        },
        later,
      )
  stand (hole {field = f} {rest = rest} more) s t beside low on =
      stand more (past s (h.Hole f)) (past t (h.Hole f)) beside (omega (arith, low))
      (omega (arith, on))
  stand (node {field = f} {head = head} {inside = inside} {rest = rest} in_it more) s t beside low
      on =
      let one =
      stand in_it (spot-in s f head) (spot-in t f head)
      (spots-in R s t beside f same (low, on)) (omega (arith, low)) (omega (arith, on)) in
      let first = place-behind inside s f head in
      let second = place-behind inside t f head in
      let two =
      stand more (spot-behind s f head inside) (spot-behind t f head inside)
      (behind inside in_it s t f head beside) (omega (arith, low, first))
      (omega (arith, on, first, second)) in
      subst
      (λ os. AllZip (StandsElsewhere R) os
      (occurrences_from t (h.Open f head ∷ (inside ++ h.Close ∷ rest))))
      (sym (occurrences_append (spot-in s f head) inside (h.Close ∷ rest)))
      (subst
      (λ us. AllZip (StandsElsewhere R)
      (occurrences_from (spot-in s f head) inside
      ++ occurrences_from (fold past (spot-in s f head) inside) (h.Close ∷ rest)) us)
      (sym (occurrences_append (spot-in t f head) inside (h.Close ∷ rest)))
      (zip-append (StandsElsewhere R) (occurrences_from (spot-in s f head) inside)
      (occurrences_from (fold past (spot-in s f head) inside) (h.Close ∷ rest))
      (occurrences_from (spot-in t f head) inside)
      (occurrences_from (fold past (spot-in t f head) inside) (h.Close ∷ rest)) one two))
