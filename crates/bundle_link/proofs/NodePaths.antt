-- Elements of lists, and what is left of a list from a place on.
-- What stands in whole nodes sees, of the nodes that are open, those of the list around it and those around the list.
use Rattle.std.proofs.Common.{◌≡◌, ◌⊎◌, inl, inr, ℕ, zero, suc, ◌+◌, ◌<◌, List, [], ◌∷◌, ◌++◌, length, drop, refl, ap, ◌∙◌, arith, ◌≤◌, append_assoc, length-append, Option, Some, take, sym, subst}
use Rattle.std.specs.Prelude.{slice_get, Contains, fold}
use Rattle.std.proofs.lemmas.Option.{none-some}
use Rattle.bundle_syntax.specs.declared.piece.Role.{Role}
use Rattle.bundle_syntax.specs.Item as h
use Rattle.bundle_syntax.specs.Item.{Item, Head}
use Rattle.bundle_rules.specs.Places.{Around, Spot, in_field, outer_path, past, path_to_option}
use Rattle.bundle_link_index.proofs.AskedLemmas.{none_there as none-there}
use Rattle.bundle_link_index.proofs.ProgramLemmas.{later as later-there, first_or_later as there-cases}
use Rattle.bundle_link_targets.proofs.ListLemmas.{first-there, around}
use Rattle.bundle_link.specs.Nested.{AreNodes, nothing, name, hole, node, HasParts}

-- ---- what is left of a list
pub drop-next : {A : Type 0} (xs : List A) (b : ℕ) (x : A) (rest : List A) → drop b xs ≡ x ∷ rest → drop (suc b) xs ≡ rest
drop-next [] zero x rest e = cc
drop-next [] (suc b) x rest e = cc
drop-next (y ∷ xs) zero x rest e = cc
drop-next (y ∷ xs) (suc b) x rest e = drop-next xs b x rest e

pub drop-past : {A : Type 0} (all : List A) (b : ℕ) (xs ys : List A) → drop b all ≡ xs ++ ys → drop (b + length xs) all ≡ ys
drop-past {A = A} all b [] ys e = let n : b + length {A = A} [] ≡ b = omega arith in ap (λ k. drop k all) n ∙ e
drop-past all b (x ∷ xs) ys e =
    let next = drop-past all (suc b) xs ys (drop-next all b x (xs ++ ys) e) in
    let n : b + length (x ∷ xs) ≡ suc b + length xs = omega arith in
    ap (λ k. drop k all) n ∙ next

pub get-drop : {A : Type 0} (xs : List A) (b j : ℕ) → slice_get xs (b + j) ≡ slice_get (drop b xs) j
get-drop xs zero j = let n : zero + j ≡ j = omega arith in ap (slice_get xs) n
get-drop [] (suc b) j = refl
get-drop (x ∷ xs) (suc b) j = let n : suc b + j ≡ suc (b + j) = omega arith in ap (slice_get (x ∷ xs)) n ∙ get-drop xs b j

pub get-front : {A : Type 0} (xs ys : List A) (k : ℕ) → k < length xs → slice_get (xs ++ ys) k ≡ slice_get xs k
get-front [] ys k l = absurd (omega arith)
get-front (x ∷ xs) ys zero l = refl
get-front (x ∷ xs) ys (suc k) l = get-front xs ys k (omega arith)

pub get-behind : {A : Type 0} (xs ys : List A) (j k : ℕ) → j ≡ length xs + k → slice_get (xs ++ ys) j ≡ slice_get ys k
get-behind [] ys j k e = let n : j ≡ k = omega arith in ap (slice_get ys) n
get-behind (x ∷ xs) ys zero k e = absurd (omega arith)
get-behind (x ∷ xs) ys (suc j) k e = get-behind xs ys j k (omega arith)

-- a place in a list: in its front, or so many places behind it
pub split : {A : Type 0} (ins : List A) (k : ℕ) → (k < length ins) ⊎ ((j : ℕ) × (k ≡ length ins + j))
split [] k = inr (k, omega arith)
split (x ∷ ins) zero = inl (omega arith)
split (x ∷ ins) (suc k) = elim (split ins k) [ inl l ↦ inl (omega (arith, l)) | inr more ↦ inr (more.0, omega (arith, more.1)) ]

-- ---- node paths

-- what the item so many places behind a spot sees
abbrev pub seen : Spot → List Item → ℕ → List Around
seen s xs k = path_to_option (fold past s (take k xs)).path (slice_get xs k)

pub seen-front : (s : Spot) (xs ys : List Item) (k : ℕ) → k < length xs → seen s (xs ++ ys) k ≡ seen s xs k
seen-front s [] ys k l = absurd (omega arith)
seen-front s (x ∷ xs) ys zero l = refl
seen-front s (x ∷ xs) ys (suc k) l = seen-front (past s x) xs ys k (omega arith)

pub seen-behind : (s : Spot) (xs ys : List Item) (j k : ℕ) → j ≡ length xs + k → seen s (xs ++ ys) j ≡ seen (fold past s xs) ys k
seen-behind s [] ys j k e = let n : j ≡ k = omega arith in ap (seen s ys) n
seen-behind s (x ∷ xs) ys zero k e = absurd (omega arith)
seen-behind s (x ∷ xs) ys (suc j) k e = seen-behind (past s x) xs ys j k (omega arith)

-- ---- behind whole nodes the path is as before them, but for a field
pub fold-append : (s : Spot) (xs ys : List Item) → fold past s (xs ++ ys) ≡ fold past (fold past s xs) ys
fold-append s [] ys = refl
fold-append s (x ∷ xs) ys = fold-append (past s x) xs ys

pub fold-place : (s : Spot) (xs : List Item) → (fold past s xs).place ≡ s.place + length xs
fold-place s [] = omega arith
fold-place s (x ∷ xs) = let rest = fold-place (past s x) xs in omega (arith, rest)

pub same-field : (path : List Around) → (f : ℕ) × (path ≡ in_field f path)
same-field [] = (0, refl)
same-field (top ∷ outer) = (top.field, refl)

pub field-twice : (f g : ℕ) (path : List Around) → in_field f (in_field g path) ≡ in_field f path
field-twice f g [] = refl
field-twice f g (top ∷ outer) = refl

-- the spot in a node that begins, and the one behind it
abbrev pub spot-in : Spot → ℕ → Head → Spot
spot-in s field head = past s (h.Open field head)

abbrev pub spot-behind : Spot → ℕ → Head → List Item → Spot
spot-behind s field head inside = past (fold past (spot-in s field head) inside) h.Close

pub fold-path : {xs : List Item} → AreNodes xs → (s : Spot) → (f : ℕ) × ((fold past s xs).path ≡ in_field f s.path)
fold-path nothing s = same-field s.path
fold-path (name {field = f} {ctxt = c} {sym = y} {role = r} are) s = fold-path are (past s (h.Ident f y c r))
fold-path (hole {field = f} are) s = fold-path are (past s (h.Hole f))
fold-path (node {field = f} {head = hd} {inside = ins} {rest = rest} in_it parts are) s =
    let inner = fold-path in_it (spot-in s f hd) in
    let more = fold-path are (spot-behind s f hd ins) in (
      more.0,
      ap (λ (t : Spot). t.path) (fold-append (spot-in s f hd) ins (h.Close ∷ rest))
          ∙ more.1
          ∙ ap (λ (l : List Around). in_field more.0 (outer_path l)) inner.1
          ∙ field-twice more.0 f s.path,
    )

pub path-behind : {inside : List Item} → AreNodes inside → (s : Spot) (field : ℕ) (head : Head) → (spot-behind s field head inside).path ≡ in_field field s.path
path-behind are s field head = ap outer_path (fold-path are (spot-in s field head)).1

pub place-behind : (inside : List Item) (s : Spot) (field : ℕ) (head : Head) → (spot-behind s field head inside).place ≡ s.place + length inside + 2
place-behind inside s field head = let n = fold-place (spot-in s field head) inside in omega (arith, n)

-- ---- where names stand in whole nodes
pub data NameAt : List Item → ℕ → Type 0 where
  here : {field ctxt : ℕ} {sym : List ℕ} {role : Role} {rest : List Item} → NameAt (h.Ident field sym ctxt role ∷ rest) zero
  past_name : {field ctxt : ℕ} {sym : List ℕ} {role : Role} {rest : List Item} {k : ℕ} → NameAt rest k → NameAt (h.Ident field sym ctxt role ∷ rest) (suc k)
  past_hole : {field : ℕ} {rest : List Item} {k : ℕ} → NameAt rest k → NameAt (h.Hole field ∷ rest) (suc k)
  within : {field : ℕ} {head : Head} {inside : List Item} (rest : List Item) {k : ℕ} → AreNodes inside → HasParts head inside → NameAt inside k → NameAt (h.Open field head ∷ (inside ++ h.Close ∷ rest)) (suc k)
  behind : {field : ℕ} {head : Head} {inside rest : List Item} {j k : ℕ} → AreNodes inside → j ≡ length inside + suc k → NameAt rest k → NameAt (h.Open field head ∷ (inside ++ h.Close ∷ rest)) (suc j)

pub name-within : {xs : List Item} {k : ℕ} → NameAt xs k → k < length xs
name-within here = omega arith
name-within (past_name at) = let ih = name-within at in omega (arith, ih)
name-within (past_hole at) = let ih = name-within at in omega (arith, ih)
name-within (within {inside = ins} rest are parts at) = let ih = name-within at in let n = length-append ins (h.Close ∷ rest) in omega (arith, ih, n)
name-within (behind {inside = ins} {rest = rest} are e at) = let ih = name-within at in let n = length-append ins (h.Close ∷ rest) in omega (arith, ih, n, e)

-- an item is a name
abbrev pub IsName : Option Item → Type 0
IsName o = (field : ℕ) × (sym : List ℕ) × (ctxt : ℕ) × (role : Role) × (o ≡ Some (h.Ident field sym ctxt role))

pub name-at : {xs : List Item} → AreNodes xs → (k : ℕ) → IsName (slice_get xs k) → NameAt xs k
name-at nothing k is = absurd (none-some _ is.4)
name-at (name are) zero is = here
name-at (name are) (suc k) is = past_name (name-at are k is)
name-at (hole {field = f} are) zero is = absurd (no-hole f is)
  where
    no-hole : (f : ℕ) → IsName (Some (h.Hole f)) → ⊥
    no-hole f is = let e = is.4 in cc
name-at (hole are) (suc k) is = past_hole (name-at are k is)
name-at (node {field = f} {head = hd} in_it parts are) zero is = absurd (no-node f hd is)
  where
    no-node : (f : ℕ) (hd : Head) → IsName (Some (h.Open f hd)) → ⊥
    no-node f hd is = let e = is.4 in cc
name-at (node {field = f} {head = hd} {inside = ins} {rest = rest} in_it parts are) (suc k) is = by (split ins k) (λ at. name-at in_it k at) (λ j at. name-at are j at)
  where
    no-end : IsName (Some h.Close) → ⊥
    no-end is = let e = is.4 in cc

    later : (j : ℕ) → k ≡ length ins + j → ((j : ℕ) → IsName (slice_get rest j) → NameAt rest j) → NameAt (h.Open f hd ∷ (ins ++ h.Close ∷ rest)) (suc k)
    later zero e ih = absurd (no-end (subst IsName (get-behind ins (h.Close ∷ rest) k zero e) is))
    later (suc j) e ih = behind in_it e (ih j (subst IsName (get-behind ins (h.Close ∷ rest) k (suc j) e) is))

    by : (k < length ins) ⊎ ((j : ℕ) × (k ≡ length ins + j)) → (IsName (slice_get ins k) → NameAt ins k) → ((j : ℕ) → IsName (slice_get rest j) → NameAt rest j) → NameAt (h.Open f hd ∷ (ins ++ h.Close ∷ rest)) (suc k)
    by (inl l) in_ins in_rest = within rest in_it parts (in_ins (subst IsName (get-front ins (h.Close ∷ rest) k l) is))
    by (inr more) in_ins in_rest = later more.0 more.1 in_rest

-- ---- the nodes around a name
-- a node with this head that begins there is among these
abbrev pub Was : List Around → Around → Type 0
Was path n = (m : Around) × Contains path m × (m.head ≡ n.head) × (m.begins ≡ n.begins)

pub was-field : (f : ℕ) (path : List Around) (n : Around) → Contains (in_field f path) n → Was path n
was-field f [] n c = none-there n c
was-field f (top ∷ outer) n c = elim (there-cases (record top { field = f }) outer n c) [
  | inl e ↦ (top, first-there top outer, ap (λ (m : Around). m.head) e, ap (λ (m : Around). m.begins) e)
  | inr more ↦ (n, later-there top outer n more, refl, refl)
]

pub was-in_field : (f : ℕ) (path : List Around) (n : Around) → Was (in_field f path) n → Was path n
was-in_field f path n (m, c, eh, eb) = let back = was-field f path m c in (back.0, back.1, back.2 ∙ eh, back.3 ∙ eb)

pub was-cases : (top : Around) (outer : List Around) (n : Around) → Was (top ∷ outer) n → ((top.head ≡ n.head) × (top.begins ≡ n.begins)) ⊎ Was outer n
was-cases top outer n (m, c, eh, eb) = elim (there-cases top outer m c) [
  | inl e ↦ inl (ap (λ (x : Around). x.head) e ∙ eh, ap (λ (x : Around). x.begins) e ∙ eb)
  | inr more ↦ inr (m, more, eh, eb)
]

module _ (tree : List Item) where
  -- a node around a name, and where the name stands in it
  pub record Holds (place : ℕ) (path : List Around) (n : Around) : Type 0 where
    pub field : ℕ
    pub inside : List Item
    pub rest : List Item
    pub at : drop n.begins tree ≡ h.Open field n.head ∷ (inside ++ h.Close ∷ rest)
    pub nodes : AreNodes inside
    pub parts : HasParts n.head inside
    pub k : ℕ
    pub name : NameAt inside k
    pub far : place ≡ suc n.begins + k
    pub spot : Spot
    pub begins : spot.place ≡ suc n.begins
    pub same : path ≡ seen spot inside k

  -- a node that is open there: it was before, or it begins from b on
  abbrev pub Opened : List Around → ℕ → ℕ → List Around → Around → Type 0
  Opened before b place path n = Was before n ⊎ ((b ≤ n.begins) × Holds place path n)

  opened-as : (before old : List Around) (b c place p : ℕ) (path seen_there : List Around) (n : Around) → (Was old n → Was before n) → b ≤ c → p ≡ place → path ≡ seen_there → Opened old c p seen_there n → Opened before b place path n
  opened-as before old b c place p path seen_there n back le ep es (inl was) = inl (back was)
  opened-as before old b c place p path seen_there n back le ep es (inr (l, holds)) = inr (omega (arith, le, l), subst (λ x. Holds x path n) ep (subst (λ x. Holds p x n) (sym es) holds))

  pub one-more : (s : Spot) (x : Item) (rest : List Item) → drop s.place tree ≡ x ∷ rest → drop (s.place + 1) tree ≡ rest
  one-more s x rest e = let n : s.place + 1 ≡ suc s.place = omega arith in ap (λ k. drop k tree) n ∙ drop-next tree s.place x rest e

  pub behind-node : (s : Spot) (f : ℕ) (hd : Head) (ins rest : List Item) → drop s.place tree ≡ h.Open f hd ∷ (ins ++ h.Close ∷ rest) → drop (spot-behind s f hd ins).place tree ≡ rest
  behind-node s f hd ins rest e =
      let in_it = drop-past tree (s.place + 1) ins (h.Close ∷ rest) (one-more s (h.Open f hd) (ins ++ h.Close ∷ rest) e) in
      let next = drop-next tree (s.place + 1 + length ins) h.Close rest in_it in
      let place = place-behind ins s f hd in
      let n : (spot-behind s f hd ins).place ≡ suc (s.place + 1 + length ins) = omega (arith, place) in
      ap (λ k. drop k tree) n ∙ next

  pub around-name : {xs : List Item} {k : ℕ} → NameAt xs k → (s : Spot) (ys : List Item) → drop s.place tree ≡ xs ++ ys → (n : Around) → Contains (seen s xs k) n → Opened s.path s.place (s.place + k) (seen s xs k) n
  around-name (here {field = f}) s ys e n c = inl (was-field f s.path n c)
  around-name (past_name {field = f} {ctxt = t} {sym = y} {role = r} {rest = rest} {k = k} at) s ys e n c =
      let x : Item = h.Ident f y t r in
      opened-as s.path s.path s.place (s.place + 1) (s.place + suc k) (s.place + 1 + k) (seen s (x ∷ rest) (suc k)) (seen s (x ∷ rest) (suc k)) n (λ was. was) (omega arith) (omega arith) refl (around-name at (past s x) ys (one-more s x (rest ++ ys) e) n c)
  around-name (past_hole {field = f} {rest = rest} {k = k} at) s ys e n c =
      let x : Item = h.Hole f in
      opened-as s.path s.path s.place (s.place + 1) (s.place + suc k) (s.place + 1 + k) (seen s (x ∷ rest) (suc k)) (seen s (x ∷ rest) (suc k)) n (λ was. was) (omega arith) (omega arith) refl (around-name at (past s x) ys (one-more s x (rest ++ ys) e) n c)
  around-name (within {field = f} {head = hd} {inside = ins} rest {k = k} are parts at) s ys e n c =
      by (around-name at t (h.Close ∷ (rest ++ ys)) (one-more s (h.Open f hd) (ins ++ h.Close ∷ (rest ++ ys)) whole) n (subst (λ l. Contains l n) front c))
    where
      t : Spot
      t = spot-in s f hd

      whole : drop s.place tree ≡ h.Open f hd ∷ (ins ++ h.Close ∷ (rest ++ ys))
      whole = e ∙ ap (λ l. h.Open f hd ∷ l) (append_assoc ins (h.Close ∷ rest) ys)

      front : seen t (ins ++ h.Close ∷ rest) k ≡ seen t ins k
      front = seen-front t ins (h.Close ∷ rest) k (name-within at)

      this : (hd ≡ n.head) → (s.place ≡ n.begins) → Holds (s.place + suc k) (seen t (ins ++ h.Close ∷ rest) k) n
      this eh eb = record {
        field = f;
        inside = ins;
        rest = rest ++ ys;
        at = ap (λ b. drop b tree) (sym eb) ∙ whole ∙ ap (λ z. h.Open f z ∷ (ins ++ h.Close ∷ (rest ++ ys))) eh;
        nodes = are;
        parts = subst (λ z. HasParts z ins) eh parts;
        k = k;
        name = at;
        far = omega (arith, eb);
        spot = t;
        begins = omega (arith, eb);
        same = front;
      }

      by : Opened t.path (s.place + 1) (s.place + 1 + k) (seen t ins k) n → Opened s.path s.place (s.place + suc k) (seen t (ins ++ h.Close ∷ rest) k) n
      by (inl was) = elim (was-cases (around hd s.place 0) (in_field f s.path) n was) [
        | inl both ↦ inr (omega (arith, both.1), this both.0 both.1)
        | inr outer ↦ inl (was-in_field f s.path n outer)
      ]
      by (inr (l, holds)) = opened-as s.path s.path s.place (s.place + 1) (s.place + suc k) (s.place + 1 + k) (seen t (ins ++ h.Close ∷ rest) k) (seen t ins k) n (λ was. was) (omega arith) (omega arith) front (inr (l, holds))
  around-name (behind {field = f} {head = hd} {inside = ins} {rest = rest} {j = j} {k = k} are ej at) s ys e n c =
      opened-as s.path t.path s.place t.place (s.place + suc j) (t.place + k) (seen s (h.Open f hd ∷ (ins ++ h.Close ∷ rest)) (suc j)) (seen t rest k) n (λ was. was-in_field f s.path n (subst (λ l. Was l n) (path-behind are s f hd) was)) (omega (arith, place)) (omega (arith, place, ej)) back (around-name at t ys (behind-node s f hd ins (rest ++ ys) whole) n (subst (λ l. Contains l n) back c))
    where
      t : Spot
      t = spot-behind s f hd ins

      place : (spot-behind s f hd ins).place ≡ s.place + length ins + 2
      place = place-behind ins s f hd

      whole : drop s.place tree ≡ h.Open f hd ∷ (ins ++ h.Close ∷ (rest ++ ys))
      whole = e ∙ ap (λ l. h.Open f hd ∷ l) (append_assoc ins (h.Close ∷ rest) ys)

      back : seen s (h.Open f hd ∷ (ins ++ h.Close ∷ rest)) (suc j) ≡ seen (spot-behind s f hd ins) rest k
      back = seen-behind (spot-in s f hd) ins (h.Close ∷ rest) j (suc k) ej
