-- What stands in whole nodes sees, of the nodes that are open, those of the list around it and
-- those around the list. (bundle_link has the like for its own lemmas alone: its module of this
-- name is not handed on.)
use Rattle.std.proofs.Common.{◌≡◌, ◌⊎◌, inl, inr, ℕ, zero, suc, ◌+◌, ◌<◌, ◌≤◌, List, ◌∷◌, ◌++◌, append_assoc, length-append, length, Some, drop, refl, sym, ap, ◌∙◌, subst, arith}
use Rattle.std.specs.Prelude.{Contains, slice_get}
use Rattle.std.proofs.lemmas.Option.{none-some}
use Rattle.bundle_syntax.specs.declared.piece.Role.{Role}
use Rattle.bundle_syntax.specs.Item as h
use Rattle.bundle_syntax.specs.Item.{Item, Head}
use Rattle.bundle_rules.specs.Places.{Around, Spot, in_field, past}
use Rattle.bundle_link.specs.Nested.{AreNodes, nothing, name, hole, node, HasParts}
use Rattle.bundle_merge_theory.proofs.noted.Spots.{around_spot, path-behind}
use Rattle.bundle_link.proofs.NodePaths.{place-behind, spot-behind, spot-in, seen, IsName, Was, seen-front, seen-behind, was-field, was-in_field, was-cases, drop-next, drop-past, get-front, get-behind, split}
use Rattle.bundle_merge_theory.proofs.noted.StaticReads.{plain_nodes}

-- ---- where names stand in whole nodes
pub data NameAt : List Item → ℕ → Type 0 where
  here : {field ctxt : ℕ} {sym : List ℕ} {role : Role} {rest : List Item} →
      NameAt (h.Ident field sym ctxt role ∷ rest) zero
  past_name : {field ctxt : ℕ} {sym : List ℕ} {role : Role} {rest : List Item} {k : ℕ} →
      NameAt rest k → NameAt (h.Ident field sym ctxt role ∷ rest) (suc k)
  past_hole : {field : ℕ} {rest : List Item} {k : ℕ} → NameAt rest k →
      NameAt (h.Hole field ∷ rest) (suc k)
  within : {field : ℕ} {head : Head} {inside : List Item} (rest : List Item) {k : ℕ} →
      AreNodes inside → HasParts head inside → NameAt inside k →
      NameAt (h.Open field head ∷ (inside ++ h.Close ∷ rest)) (suc k)
  behind : {field : ℕ} {head : Head} {inside rest : List Item} {j k : ℕ} → AreNodes inside →
      j ≡ length inside + suc k → NameAt rest k →
      NameAt (h.Open field head ∷ (inside ++ h.Close ∷ rest)) (suc j)

pub name-within : {xs : List Item} {k : ℕ} → NameAt xs k → k < length xs
name-within here = omega arith
name-within (past_name at) = let ih = name-within at in omega (arith, ih)
name-within (past_hole at) = let ih = name-within at in omega (arith, ih)
name-within (within {inside = ins} rest are parts at) =
    let ih = name-within at in let n = length-append ins (h.Close ∷ rest) in omega (arith, ih, n)
name-within (behind {inside = ins} {rest = rest} are e at) =
    let ih = name-within at in
    let n = length-append ins (h.Close ∷ rest) in omega (arith, ih, n, e)

pub name-at : {xs : List Item} → AreNodes xs → (k : ℕ) → IsName (slice_get xs k) → NameAt xs k
name-at nothing k is = absurd (none-some _ is.4)
name-at (name are) zero is = here
name-at (name are) (suc k) is = past_name (name-at are k is)
name-at (hole {field = f} are) zero is = absurd (no-hole f is)
  where
    no-hole : (f : ℕ) → IsName (Some (h.Hole f)) → ⊥
    no-hole f is = let e = is.4 in cc
name-at (hole are) (suc k) is = past_hole (name-at are k is)
name-at (node {field = f} {head = hd} in_it parts are) zero is = absurd (no-node f hd is)
  where
    no-node : (f : ℕ) (hd : Head) → IsName (Some (h.Open f hd)) → ⊥
    no-node f hd is = let e = is.4 in cc
name-at (node {field = f} {head = hd} {inside = ins} {rest = rest} in_it parts are) (suc k) is =
    by (split ins k) (λ at. name-at in_it k at) (λ j at. name-at are j at)
  where
    no-end : IsName (Some h.Close) → ⊥
    no-end is = let e = is.4 in cc

    later : (j : ℕ) → k ≡ length ins + j → ((j : ℕ) → IsName (slice_get rest j) → NameAt rest j) →
        NameAt (h.Open f hd ∷ (ins ++ h.Close ∷ rest)) (suc k)
    later zero e ih = absurd (no-end (subst IsName (get-behind ins (h.Close ∷ rest) k zero e) is))
    later (suc j) e ih =
        behind in_it e (ih j (subst IsName (get-behind ins (h.Close ∷ rest) k (suc j) e) is))

    by : (k < length ins) ⊎ ((j : ℕ) × (k ≡ length ins + j)) →
        (IsName (slice_get ins k) → NameAt ins k) →
        ((j : ℕ) → IsName (slice_get rest j) → NameAt rest j) →
        NameAt (h.Open f hd ∷ (ins ++ h.Close ∷ rest)) (suc k)
    by (inl l) in_ins in_rest =
        within rest in_it parts (in_ins (subst IsName (get-front ins (h.Close ∷ rest) k l) is))
    by (inr more) in_ins in_rest = later more.0 more.1 in_rest

-- ---- the nodes around a name

module _ (tree : List Item) where
  -- a node around a name, and where the name stands in it
  pub record Holds (place : ℕ) (path : List Around) (n : Around) : Type 0 where
    pub field : ℕ
    pub inside : List Item
    pub rest : List Item
    pub at : drop n.begins tree ≡ h.Open field n.head ∷ (inside ++ h.Close ∷ rest)
    pub nodes : AreNodes inside
    pub parts : HasParts n.head inside
    pub k : ℕ
    pub name : NameAt inside k
    pub far : place ≡ suc n.begins + k
    pub spot : Spot
    pub begins : spot.place ≡ suc n.begins
    pub same : path ≡ seen spot inside k

  -- a node that is open there: it was before, or it begins from b on
  abbrev pub Opened : List Around → ℕ → ℕ → List Around → Around → Type 0
  Opened before b place path n = Was before n ⊎ ((b ≤ n.begins) × Holds place path n)

  opened-as : (before old : List Around) (b c place p : ℕ) (path seen_there : List Around)
      (n : Around) → (Was old n → Was before n) → b ≤ c → p ≡ place → path ≡ seen_there →
      Opened old c p seen_there n → Opened before b place path n
  opened-as before old b c place p path seen_there n back le ep es (inl was) = inl (back was)
  opened-as before old b c place p path seen_there n back le ep es (inr (l, holds)) =
      inr (
        omega (arith, le, l),
        subst (λ x. Holds x path n) ep
            (subst (λ x. Holds p x n) (sym es) holds),
      )

  pub one-more : (s : Spot) (x : Item) (rest : List Item) → drop s.place tree ≡ x ∷ rest →
      drop (s.place + 1) tree ≡ rest
  one-more s x rest e =
      let n : s.place + 1 ≡ suc s.place = omega arith in
      ap (λ k. drop k tree) n ∙ drop-next tree s.place x rest e

  pub behind-node : (s : Spot) (f : ℕ) (hd : Head) (ins rest : List Item) →
      drop s.place tree ≡ h.Open f hd ∷ (ins ++ h.Close ∷ rest) →
      drop (spot-behind s f hd ins).place tree ≡ rest
  behind-node s f hd ins rest e =
      let in_it =
      drop-past tree (s.place + 1) ins (h.Close ∷ rest)
      (one-more s (h.Open f hd) (ins ++ h.Close ∷ rest) e) in
      let next = drop-next tree (s.place + 1 + length ins) h.Close rest in_it in
      let place = place-behind ins s f hd in
      let n : (spot-behind s f hd ins).place ≡ suc (s.place + 1 + length ins) =
      omega (arith, place) in
      ap (λ k. drop k tree) n ∙ next

  pub around-name : {xs : List Item} {k : ℕ} → NameAt xs k → (s : Spot) (ys : List Item) →
      drop s.place tree ≡ xs ++ ys → (n : Around) → Contains (seen s xs k) n →
      Opened s.path s.place (s.place + k) (seen s xs k) n
  around-name (here {field = f}) s ys e n c = inl (was-field f s.path n c)
  around-name (past_name {field = f} {ctxt = t} {sym = y} {role = r} {rest = rest} {k = k} at) s ys
      e n c =
      let x : Item = h.Ident f y t r in
      opened-as s.path s.path s.place (s.place + 1) (s.place + suc k) (s.place + 1 + k)
      (seen s (x ∷ rest) (suc k)) (seen s (x ∷ rest) (suc k)) n (λ was. was) (omega arith)
      (omega arith) refl (around-name at (past s x) ys (one-more s x (rest ++ ys) e) n c)
  around-name (past_hole {field = f} {rest = rest} {k = k} at) s ys e n c =
      let x : Item = h.Hole f in
      opened-as s.path s.path s.place (s.place + 1) (s.place + suc k) (s.place + 1 + k)
      (seen s (x ∷ rest) (suc k)) (seen s (x ∷ rest) (suc k)) n (λ was. was) (omega arith)
      (omega arith) refl (around-name at (past s x) ys (one-more s x (rest ++ ys) e) n c)
  around-name (within {field = f} {head = hd} {inside = ins} rest {k = k} are parts at) s ys e n c =
      by
      (around-name at t (h.Close ∷ (rest ++ ys))
      (one-more s (h.Open f hd) (ins ++ h.Close ∷ (rest ++ ys)) whole) n
      (subst (λ l. Contains l n) front c))
    where
      t : Spot
      t = spot-in s f hd

      whole : drop s.place tree ≡ h.Open f hd ∷ (ins ++ h.Close ∷ (rest ++ ys))
      whole = e ∙ ap (λ l. h.Open f hd ∷ l) (append_assoc ins (h.Close ∷ rest) ys)

      front : seen t (ins ++ h.Close ∷ rest) k ≡ seen t ins k
      front = seen-front t ins (h.Close ∷ rest) k (name-within at)

      this : (hd ≡ n.head) → (s.place ≡ n.begins) →
          Holds (s.place + suc k) (seen t (ins ++ h.Close ∷ rest) k) n
      this eh eb = record {
        field = f;
        inside = ins;
        rest = rest ++ ys;
        at =
            ap (λ b. drop b tree) (sym eb)
            ∙ whole
            ∙ ap (λ z. h.Open f z ∷ (ins ++ h.Close ∷ (rest ++ ys))) eh;
        nodes = are;
        parts = subst (λ z. HasParts z ins) eh parts;
        k = k;
        name = at;
        far = omega (arith, eb);
        spot = t;
        begins = omega (arith, eb);
        same = front;
      }

      by : Opened t.path (s.place + 1) (s.place + 1 + k) (seen t ins k) n →
          Opened s.path s.place (s.place + suc k) (seen t (ins ++ h.Close ∷ rest) k) n
      by (inl was) = elim (was-cases (around_spot hd s.place 0) (in_field f s.path) n was) [
        | inl both ↦ inr (omega (arith, both.1), this both.0 both.1)
        | inr outer ↦ inl (was-in_field f s.path n outer)
      ]
      by (inr (l, holds)) =
          opened-as s.path s.path s.place (s.place + 1) (s.place + suc k) (s.place + 1 + k)
          (seen t (ins ++ h.Close ∷ rest) k) (seen t ins k) n (λ was. was) (omega arith)
          (omega arith) front (inr (l, holds))
  around-name
      (behind {field = f} {head = hd} {inside = ins} {rest = rest} {j = j} {k = k} are ej at) s ys
      e n c =
      opened-as s.path t.path s.place t.place (s.place + suc j) (t.place + k)
      (seen s (h.Open f hd ∷ (ins ++ h.Close ∷ rest)) (suc j)) (seen t rest k) n
      (λ was.
      was-in_field f s.path n
      (subst (λ l. Was l n) (path-behind (plain_nodes are) s f hd) was))
      (omega (arith, place)) (omega (arith, place, ej)) back
      (around-name at t ys (behind-node s f hd ins (rest ++ ys) whole) n
      (subst (λ l. Contains l n) back c))
    where
      t : Spot
      t = spot-behind s f hd ins

      place : (spot-behind s f hd ins).place ≡ s.place + length ins + 2
      place = place-behind ins s f hd

      whole : drop s.place tree ≡ h.Open f hd ∷ (ins ++ h.Close ∷ (rest ++ ys))
      whole = e ∙ ap (λ l. h.Open f hd ∷ l) (append_assoc ins (h.Close ∷ rest) ys)

      back : seen s (h.Open f hd ∷ (ins ++ h.Close ∷ rest)) (suc j)
          ≡ seen (spot-behind s f hd ins) rest k
      back = seen-behind (spot-in s f hd) ins (h.Close ∷ rest) j (suc k) ej
