-- The way from a folder to a file.
use Rattle.std.proofs.Common.{◌≡◌, ℕ, zero, suc, ◌+◌, ◌-◌, ◌<◌, ◌≤◌, ◌++◌, List, [], ◌∷◌, Bool, true, false, eqb, not, length, get_or, take, drop, fold, cond, refl, ap, sym, subst, ◌∙◌, arith, length-append, length-drop, length-take, ◌||◌, Bor, map, inl, inr}
use Rattle.std.proofs.Math.ListN.{replicate}
use Rattle.std.proofs.Math.Nat.{eq-zero-or-pos}
use Rattle.std.proofs.Math.Seq.{take-length}
use Rattle.std.proofs.lemmas.Bool.{cases_Bool, both_ways, and_from, lt-ltb, ne_eqb, not-false}
use Rattle.std.proofs.lemmas.List.{take-append-drop, take-map, take_more, map-append}
use Rattle.std.proofs.lemmas.List.Elements.{All-append, All-cons, All-drop, All-nil, All-replicate}
use Rattle.std.proofs.lemmas.List.Sums.{fold-append}
use Rattle.std.proofs.lemmas.List.Splits.{slice_split-cons_yes, slice_split-cons_no}
use Rattle.std.specs.List.{All, onto_first, join_with_byte}
use Rattle.std.specs.Str.{bytes_eq}
use Rattle.gutsirava_path.specs.Normal.{is_rooted, up, IsPlain, AreNormal, path_text, parts_of, ends_in_name, step, normal_parts, normal_text, joined_text, first_parts, way_parts}
use Rattle.gutsirava_path.proofs.NormalParts.{IsPlain-up, AreNormal-normal_parts, AreNormal-take, fold-normal, parts_of-join, same_text}

-- whether a byte is `/`
abbrev is_slash : ℕ → Bool
is_slash b = eqb b 47

-- that a byte is no `/`
abbrev is_other : ℕ → Type 0
is_other b = is_slash b ≡ false

-- a part more in front
onto_first-append : (b : ℕ) (xs ys : List (List ℕ)) → 0 < length xs → onto_first b (xs ++ ys) ≡ onto_first b xs ++ ys
onto_first-append b [] ys some = absurd (omega arith)
onto_first-append b (x ∷ xs) ys some = refl

onto_first-some : (b : ℕ) (xs : List (List ℕ)) → 0 < length (onto_first b xs)
onto_first-some b [] = omega arith
onto_first-some b (x ∷ xs) = omega arith

-- a path has parts
parts_are_some : (path : List ℕ) → 0 < length (parts_of path)
parts_are_some [] = omega arith
parts_are_some (b ∷ path) = elim (cases_Bool (is_slash b)) [
  | inl yea ↦ subst (λ ps. 0 < length ps) (sym (slice_split-cons_yes is_slash b path yea)) (omega arith)
  | inr nay ↦ subst (λ ps. 0 < length ps) (sym (slice_split-cons_no is_slash b path nay)) (onto_first-some b (parts_of path))
]

-- the parts of a path behind another
parts_of-behind : (folder path : List ℕ) → parts_of (folder ++ 47 ∷ path) ≡ parts_of folder ++ parts_of path
parts_of-behind [] path = slice_split-cons_yes is_slash 47 path refl
parts_of-behind (b ∷ folder) path = elim (cases_Bool (is_slash b)) [
  | inl yea ↦
      slice_split-cons_yes is_slash b (folder ++ 47 ∷ path) yea
      ∙ ap (λ ps. [] ∷ ps) (parts_of-behind folder path)
      ∙ ap (λ ps. ps ++ parts_of path) (sym (slice_split-cons_yes is_slash b folder yea))
  | inr nay ↦
      slice_split-cons_no is_slash b (folder ++ 47 ∷ path) nay
      ∙ ap (onto_first b) (parts_of-behind folder path)
      ∙ onto_first-append b (parts_of folder) (parts_of path) (parts_are_some folder)
      ∙ ap (λ ps. ps ++ parts_of path) (sym (slice_split-cons_no is_slash b folder nay))
]

-- `..` takes the last name away
step-up : (parts : List (List ℕ)) → 0 < length parts → AreNormal true parts → step true parts up ≡ take (length parts - 1) parts
unfolding step ends_in_name
step-up parts some normal =
    let last = get_or parts (length parts - 1) [] in
    let name : bytes_eq last up ≡ false = elim (cases_Bool (bytes_eq last up)) [
      | inl yea ↦ absurd (normal.names refl (length parts - 1) [] (omega arith) (same_text last up yea))
      | inr nay ↦ nay
    ] in
    let ends : ends_in_name parts ≡ true = and_from _ _ (lt-ltb 0 (length parts) some) (ap not name) in
    ap (λ b. cond b (take (length parts - 1) parts) parts) ends

-- the first of the first
take_of-take : {X : Type 0} (m n : ℕ) (xs : List X) → m ≤ n → take m (take n xs) ≡ take m xs
take_of-take zero n xs less = refl
take_of-take (suc m) zero xs less = absurd (omega arith)
take_of-take (suc m) (suc n) [] less = refl
take_of-take (suc m) (suc n) (x ∷ xs) less = ap (λ ys. x ∷ ys) (take_of-take m n xs (omega arith))

-- so many `..` take so many names away
fold-up : (k : ℕ) (parts : List (List ℕ)) → k ≤ length parts → AreNormal true parts
    → fold (step true) parts (replicate k up) ≡ take (length parts - k) parts
fold-up zero parts within normal = sym (take-length parts) ∙ ap (λ n. take n parts) (omega arith)
fold-up (suc k) parts within normal =
    let fewer = take (length parts - 1) parts in
    let many : length fewer ≡ length parts - 1 = omega (arith, length-take (length parts - 1) parts) in
    ap (λ from. fold (step true) from (replicate k up)) (step-up parts (omega arith) normal)
    ∙ fold-up k fewer (omega arith) (AreNormal-take true parts (length parts - 1) normal)
    ∙ ap (λ n. take (n - k) fewer) many
    ∙ take_of-take (length parts - 1 - k) (length parts - 1) parts (omega arith)
    ∙ ap (λ n. take n parts) (omega arith)

-- so many `..`
pub first_parts-some : (n : ℕ) → 0 < n → first_parts n ≡ replicate n up
first_parts-some zero some = absurd (omega arith)
first_parts-some (suc n) some = refl

first_parts-length : (n : ℕ) → 0 < length (first_parts n)
first_parts-length zero = omega arith
first_parts-length (suc n) = omega arith

-- a way's first parts have no `/`
IsPlain-first_parts : (n : ℕ) → All IsPlain (first_parts n)
IsPlain-first_parts zero = All-cons IsPlain (46 ∷ []) [] (All-cons is_other 46 [] refl (All-nil is_other)) (All-nil IsPlain)
IsPlain-first_parts (suc n) = All-replicate IsPlain (suc n) up IsPlain-up

-- the way's first parts lead from a folder to what it shares with the file
fold-way : (from : List (List ℕ)) (shared : ℕ) → shared ≤ length from → AreNormal true from
    → fold (step true) from (first_parts (length from - shared)) ≡ take shared from
unfolding step
fold-way from shared within normal = elim (eq-zero-or-pos (length from - shared)) [
  | inl none ↦
      ap (λ n. fold (step true) from (first_parts n)) none
      ∙ sym (take-length from) ∙ ap (λ n. take n from) (omega arith)
  | inr some ↦
      ap (fold (step true) from) (first_parts-some (length from - shared) some)
      ∙ fold-up (length from - shared) from (omega arith) normal
      ∙ ap (λ n. take n from) (omega arith)
]

-- the way leads from the folder to the file
fold-way_parts : (from to : List (List ℕ)) (shared : ℕ)
    → shared ≤ length from → take shared from ≡ take shared to
    → AreNormal true from → AreNormal true to
    → fold (step true) from (way_parts (length from) shared to) ≡ to
fold-way_parts from to shared within same from_normal to_normal =
    fold-append (step true) from (first_parts (length from - shared)) (drop shared to)
    ∙ ap (λ here. fold (step true) here (drop shared to)) (fold-way from shared within from_normal ∙ same)
    ∙ fold-normal true (take shared to) (drop shared to) (subst (AreNormal true) (sym (take-append-drop shared to)) to_normal)
    ∙ take-append-drop shared to

-- the parts of a way have no `/`, and there are some
IsPlain-way_parts : (from shared : ℕ) (to : List (List ℕ)) → All IsPlain to → All IsPlain (way_parts from shared to)
IsPlain-way_parts from shared to plain =
    All-append IsPlain (first_parts (from - shared)) (drop shared to)
    (IsPlain-first_parts (from - shared)) (All-drop IsPlain shared to plain)

-- a way has parts
way_parts-some : (from shared : ℕ) (to : List (List ℕ)) → 0 < length (way_parts from shared to)
way_parts-some from shared to = omega (arith, length-append (first_parts (from - shared)) (drop shared to), first_parts-length (from - shared))

-- a path that begins with `/` is joined to nothing
joined-rooted : (folder way : List ℕ) → is_rooted folder ≡ true → is_rooted way ≡ false → joined_text folder way ≡ folder ++ 47 ∷ way
joined-rooted [] way root free = absurd (both_ways false refl root)
joined-rooted (b ∷ folder) way root free =
    ap (λ r. cond (r || eqb (length (b ∷ folder)) 0) way (b ∷ (folder ++ 47 ∷ way))) free
    ∙ ap (λ r. cond (false || r) way (b ∷ (folder ++ 47 ∷ way))) (ne_eqb (length (b ∷ folder)) 0 (λ e. omega arith))

-- the parts of a path that is joined to a folder
normal_parts-joined : (folder way : List ℕ) → is_rooted folder ≡ true
    → fold (step true) [] (parts_of (folder ++ 47 ∷ way)) ≡ fold (step true) (normal_parts folder) (parts_of way)
normal_parts-joined folder way root =
    ap (fold (step true) []) (parts_of-behind folder way)
    ∙ fold-append (step true) [] (parts_of folder) (parts_of way)
    ∙ ap (λ r. fold (step true) (fold (step r) [] (parts_of folder)) (parts_of way)) (sym root)

-- what begins with `/` still does with more behind it
rooted-append : (folder more : List ℕ) → is_rooted folder ≡ true → is_rooted (folder ++ more) ≡ true
rooted-append [] more root = absurd (both_ways false refl root)
rooted-append (b ∷ folder) more root = root

-- what a path begins with is what its first part does
is_rooted-join : (b : ℕ) (part : List ℕ) (parts : List (List ℕ)) → is_rooted (join_with_byte 47 ((b ∷ part) ∷ parts)) ≡ is_slash b
is_rooted-join b part [] = refl
is_rooted-join b part (next ∷ parts) = refl

-- a way does not begin with `/`
pub is_rooted-way : (count : ℕ) (rest : List (List ℕ)) → is_rooted (join_with_byte 47 (first_parts count ++ rest)) ≡ false
is_rooted-way zero rest = is_rooted-join 46 [] rest
is_rooted-way (suc n) rest = is_rooted-join 46 (46 ∷ []) (replicate n up ++ rest)

-- the file's path is that of the way, joined to the folder
pub normal_text-way : (folder path way : List ℕ) (shared : ℕ)
    → is_rooted folder ≡ true → is_rooted path ≡ true
    → shared ≤ length (normal_parts folder) → take shared (normal_parts folder) ≡ take shared (normal_parts path)
    → way ≡ join_with_byte 47 (way_parts (length (normal_parts folder)) shared (normal_parts path))
    → normal_text (joined_text folder way) ≡ normal_text path
normal_text-way folder path way shared root path_root within same is_way =
    let from = normal_parts folder in
    let to = normal_parts path in
    let from_normal : AreNormal true from = subst (λ r. AreNormal r from) root (AreNormal-normal_parts folder) in
    let to_normal : AreNormal true to = subst (λ r. AreNormal r to) path_root (AreNormal-normal_parts path) in
    let free : is_rooted way ≡ false =
    ap is_rooted is_way ∙ is_rooted-way (length from - shared) (drop shared to) in
    let plain : All IsPlain to = λ k d inside. (to_normal.all k d inside).plain in
    let ways : parts_of way ≡ way_parts (length from) shared to =
    ap parts_of is_way
    ∙ parts_of-join (way_parts (length from) shared to) (way_parts-some (length from) shared to)
    (IsPlain-way_parts (length from) shared to plain) in
    let both : fold (step true) [] (parts_of (folder ++ 47 ∷ way)) ≡ to =
    normal_parts-joined folder way root
    ∙ ap (fold (step true) from) ways
    ∙ fold-way_parts from to shared within same from_normal to_normal in
    ap normal_text (joined-rooted folder way root free)
    ∙ ap (λ r. path_text r (fold (step r) [] (parts_of (folder ++ 47 ∷ way)))) (rooted-append folder (47 ∷ way) root)
    ∙ ap (path_text true) both
    ∙ ap (λ r. path_text r to) (sym path_root)

-- the first texts of a list, and the next one
take_now-more : (xs : List (Bor (List ℕ))) (i : ℕ) (d : Bor (List ℕ)) → i < length xs
    → take (i + 1) (map (λ p. p.now) xs) ≡ take i (map (λ p. p.now) xs) ++ (get_or xs i d).now ∷ []
take_now-more xs i d within =
    let now : Bor (List ℕ) → List ℕ = λ p. p.now in
    take-map now (i + 1) xs
    ∙ ap (map now) (take_more xs i d within)
    ∙ map-append now (take i xs) (get_or xs i d ∷ [])
    ∙ ap (λ ys. ys ++ (get_or xs i d).now ∷ []) (sym (take-map now i xs))

-- what two lists of texts share, with one more
pub take_shared-more : (a b : List (Bor (List ℕ))) (i : ℕ) (d e : Bor (List ℕ))
    → i < length a → i < length b → not (bytes_eq (get_or a i d).now (get_or b i e).now) ≡ false
    → take i (map (λ p. p.now) a) ≡ take i (map (λ p. p.now) b)
    → take (i + 1) (map (λ p. p.now) a) ≡ take (i + 1) (map (λ p. p.now) b)
take_shared-more a b i d e in_a in_b alike shared =
    let same : (get_or a i d).now ≡ (get_or b i e).now
    = same_text (get_or a i d).now (get_or b i e).now (not-false (bytes_eq (get_or a i d).now (get_or b i e).now) alike) in
    take_now-more a i d in_a
    ∙ ap (λ xs. xs ++ (get_or a i d).now ∷ []) shared
    ∙ ap (λ t. take i (map {A = Bor (List ℕ)} {B = List ℕ} (λ p. p.now) b) ++ t ∷ []) same
    ∙ sym (take_now-more b i e in_b)

-- the same text so many times
pub map-replicate : {X Y : Type 0} (f : X → Y) (n : ℕ) (x : X) → map f (replicate n x) ≡ replicate n (f x)
map-replicate f zero x = refl
map-replicate f (suc n) x = ap (λ ys. f x ∷ ys) (map-replicate f n x)

-- all that is left
pub take-drop_all : {X : Type 0} (n : ℕ) (xs : List X) → take (length xs - n) (drop n xs) ≡ drop n xs
take-drop_all n xs = ap (λ k. take k (drop n xs)) (sym (length-drop n xs)) ∙ take-length (drop n xs)
