-- Normal parts: one more, the first of them, their text, and where a path of them leads.
use Rattle.std.proofs.Common.{◌≡◌, ◌≢◌, ℕ, ◌+◌, ◌-◌, ◌<◌, ◌≤◌, ◌++◌, List, [], ◌∷◌, Bool, true, false, not, eqb, ltb, Bor, length, get_or, map, take, fold, cond, ◌&&◌, ◌||◌, refl, ap, sym, subst, ◌∙◌, arith, append_assoc, length-append, length-take, suc, inl, inr}
use Rattle.std.proofs.Math.ListN.{get_or-append}
use Rattle.std.proofs.Math.Nat.{eq-or-lt_of_le, eq-zero-or-pos}
use Rattle.std.proofs.Math.Seq.{get_or-append_seam}
use Rattle.std.proofs.lemmas.Bool.{cases_Bool, both_ways, eqb-true, eqb-false, and_from, and_right, lt-ltb}
use Rattle.std.proofs.lemmas.List.{append-nil, get_or-map, get_or-take, length-map, map-append, take_more}
use Rattle.std.proofs.lemmas.List.Elements.{All-append, All-cons, All-nil, All-take}
use Rattle.std.proofs.lemmas.List.Splits.{slice_split-cons_yes, slice_split-cons_no, slice_split_none, slice_split_at}
use Rattle.std.proofs.lemmas.Slice.Eq.{bytes_eq-Decides}
use Rattle.std.specs.List.{All, onto_first, join_with_byte}
use Rattle.std.specs.Str.{bytes_eq}
use Rattle.gutsirava_path.specs.Normal.{is_rooted, up, IsPlain, IsPart, AreNormal, path_text, IsNormalPath, parts_of, is_still, ends_in_name, step, normal_parts, normal_text}

-- whether a byte is `/`
abbrev is_slash : ℕ → Bool
is_slash b = eqb b 47

-- that a byte is no `/`
abbrev is_other : ℕ → Type 0
is_other b = is_slash b ≡ false

-- that a part is no `..`
abbrev is_name : List ℕ → Type 0
is_name part = part ≢ up

-- a list of no length
pub empty_of_length : {A : Type 0} (xs : List A) → length xs ≡ 0 → xs ≡ []
empty_of_length [] none = refl
empty_of_length (x ∷ xs) none = absurd (omega arith)

-- a text that is another's, by its test
pub same_text : (a b : List ℕ) → bytes_eq a b ≡ true → a ≡ b
same_text a b told = (bytes_eq-Decides a b).0 told

-- a test that says no
pub other_text : (a b : List ℕ) → bytes_eq a b ≡ false → a ≢ b
other_text a b told same = both_ways (bytes_eq a b) told ((bytes_eq-Decides a b).1 same)

-- a test of what is not so
not_same : (a b : List ℕ) → a ≢ b → bytes_eq a b ≡ false
not_same a b other = elim (cases_Bool (bytes_eq a b)) [ inl yea ↦ absurd (other (same_text a b yea)) | inr nay ↦ nay ]

-- `..` has no `/`
pub IsPlain-up : IsPlain up
IsPlain-up = All-cons is_other 46 (46 ∷ []) refl (All-cons is_other 46 [] refl (All-nil is_other))

-- one part more, which is `..` only behind `..` and in no path that begins with `/`
pub AreNormal-push : (rooted : Bool) (parts : List (List ℕ)) (x : List ℕ)
    → AreNormal rooted parts → IsPart x
    → (x ≡ up → (k : ℕ) → k + 1 ≡ length parts → get_or parts k [] ≡ up)
    → (rooted ≡ true → x ≢ up)
    → AreNormal rooted (parts ++ x ∷ [])
AreNormal-push rooted parts x normal part behind free = record {
  all = All-append IsPart parts (x ∷ []) normal.all (All-cons IsPart x [] part (All-nil IsPart));
  front = λ k within is_up.
      let in_old : k + 1 ≤ length parts = omega (arith, length-append parts (x ∷ [])) in
      elim (eq-or-lt_of_le in_old) [
        | inl at_end ↦
            let seam : get_or (parts ++ x ∷ []) (k + 1) [] ≡ x
            = ap (λ i. get_or (parts ++ x ∷ []) i []) at_end ∙ get_or-append_seam parts x [] [] in
            get_or-append parts (x ∷ []) [] k (omega arith) ∙ behind (sym seam ∙ is_up) k at_end
        | inr before ↦
            get_or-append parts (x ∷ []) [] k (omega arith)
            ∙ normal.front k before (sym (get_or-append parts (x ∷ []) [] (k + 1) before) ∙ is_up)
      ];
  names = λ is_rooted. All-append is_name parts (x ∷ []) (normal.names is_rooted)
      (All-cons is_name x [] (free is_rooted) (All-nil is_name));
}

-- the first of them
pub AreNormal-take : (rooted : Bool) (parts : List (List ℕ)) (n : ℕ)
    → AreNormal rooted parts → AreNormal rooted (take n parts)
AreNormal-take rooted parts n normal = record {
  all = All-take IsPart n parts normal.all;
  front = λ k within is_up.
      let below : k + 1 < n = omega (arith, length-take n parts) in
      let in_old : k + 1 < length parts = omega (arith, length-take n parts) in
      get_or-take n parts k [] (omega arith)
      ∙ normal.front k in_old (sym (get_or-take n parts (k + 1) [] below) ∙ is_up);
  names = λ is_rooted. All-take is_name n parts (normal.names is_rooted);
}

-- no parts
pub AreNormal-nil : (rooted : Bool) → AreNormal rooted []
AreNormal-nil rooted = record {
  all = All-nil IsPart;
  front = λ k within is_up. absurd (omega arith);
  names = λ _. All-nil is_name;
}

-- where no name is last, `..` is, or there are no parts
up_is_last : (parts : List (List ℕ)) (k : ℕ) → ends_in_name parts ≡ false → k + 1 ≡ length parts → get_or parts k [] ≡ up
unfolding ends_in_name
up_is_last parts k nameless at_end =
    let some : ltb 0 (length parts) ≡ true = lt-ltb 0 (length parts) (omega arith) in
    let place : length parts - 1 ≡ k = omega arith in
    elim (cases_Bool (bytes_eq (get_or parts (length parts - 1) []) up)) [
      | inl yea ↦ ap (λ i. get_or parts i []) (sym place) ∙ same_text _ up yea
      | inr other ↦ absurd (both_ways _ nameless (and_from _ _ some (ap not other)))
    ]

-- a part that leads on is one
IsPart-from_moves : (part : List ℕ) → is_still part ≡ false → IsPlain part → IsPart part
IsPart-from_moves part moves plain = record {
  filled = λ e. both_ways (is_still part) moves (ap is_still e);
  moves = λ e. both_ways (is_still part) moves (ap is_still e);
  plain = plain;
}

-- one step further
pub AreNormal-step : (rooted : Bool) (parts : List (List ℕ)) (part : List ℕ)
    → AreNormal rooted parts → IsPlain part → AreNormal rooted (step rooted parts part)
unfolding step
AreNormal-step rooted parts part normal plain = elim (cases_Bool (is_still part)) [
  | inl still ↦ rw still normal
  | inr moves ↦
      let is_part : IsPart part = IsPart-from_moves part moves plain in
      elim (cases_Bool (bytes_eq part up)) [
        | inl leaves ↦ elim (cases_Bool (ends_in_name parts)) [
          | inl name ↦ rw (moves, leaves, name) (AreNormal-take rooted parts (length parts - 1) normal)
          | inr none ↦ elim (cases_Bool rooted) [
            | inl root ↦ rw (moves, leaves, none) (subst (λ r. AreNormal rooted (cond r parts (parts ++ part ∷ []))) (sym root) normal)
            | inr free ↦ rw (moves, leaves, none) (subst (λ r. AreNormal rooted (cond r parts (parts ++ part ∷ []))) (sym free)
                (AreNormal-push rooted parts part normal is_part (λ _ k at_end. up_is_last parts k none at_end) (λ root. absurd (both_ways rooted free root))))
          ]
        ]
        | inr enters ↦ rw (moves, enters) (AreNormal-push rooted parts part normal is_part
            (λ is_up. absurd (other_text part up enters is_up)) (λ _. other_text part up enters))
      ]
]

-- one step after another
pub AreNormal-fold : (rooted : Bool) (from : List (List ℕ)) (parts : List (List ℕ))
    → AreNormal rooted from → All IsPlain parts → AreNormal rooted (fold (step rooted) from parts)
AreNormal-fold rooted from [] normal plain = normal
AreNormal-fold rooted from (part ∷ parts) normal plain =
    AreNormal-fold rooted (step rooted from part) parts
    (AreNormal-step rooted from part normal (plain 0 part (omega arith)))
    (λ k d within. plain (suc k) d (omega arith))

-- a byte before the first part
All-onto_first : (b : ℕ) (parts : List (List ℕ)) → is_slash b ≡ false → All IsPlain parts → All IsPlain (onto_first b parts)
All-onto_first b [] other plain = All-cons IsPlain (b ∷ []) [] (All-cons is_other b [] other (All-nil is_other)) (All-nil IsPlain)
All-onto_first b (part ∷ parts) other plain =
    All-cons IsPlain (b ∷ part) parts
    (All-cons is_other b part other (plain 0 part (omega arith)))
    (λ k d within. plain (suc k) d (omega arith))

-- what stands between the `/` of a path has none
pub parts_are_plain : (path : List ℕ) → All IsPlain (parts_of path)
parts_are_plain [] = All-cons IsPlain [] [] (All-nil is_other) (All-nil IsPlain)
parts_are_plain (b ∷ path) = elim (cases_Bool (is_slash b)) [
  | inl yea ↦ subst (All IsPlain) (sym (slice_split-cons_yes is_slash b path yea))
      (All-cons IsPlain [] (parts_of path) (All-nil is_other) (parts_are_plain path))
  | inr nay ↦ subst (All IsPlain) (sym (slice_split-cons_no is_slash b path nay))
      (All-onto_first b (parts_of path) nay (parts_are_plain path))
]

-- where a path leads is normal
pub AreNormal-normal_parts : (path : List ℕ) → AreNormal (is_rooted path) (normal_parts path)
AreNormal-normal_parts path =
    AreNormal-fold (is_rooted path) [] (parts_of path) (AreNormal-nil (is_rooted path)) (parts_are_plain path)

-- a normal path leads where a path does
pub IsNormalPath-normal_text : (path : List ℕ) → IsNormalPath (is_rooted path) (normal_text path)
IsNormalPath-normal_text path = record {
  parts = normal_parts path;
  normal = AreNormal-normal_parts path;
  is_text = refl;
}

-- the parts of parts' text
pub parts_of-join : (parts : List (List ℕ)) → 0 < length parts → All IsPlain parts → parts_of (join_with_byte 47 parts) ≡ parts
parts_of-join [] some plain = absurd (omega arith)
parts_of-join (x ∷ []) some plain = slice_split_none is_slash x (plain 0 x (omega arith))
parts_of-join (x ∷ y ∷ parts) some plain =
    slice_split_at is_slash x 47 (join_with_byte 47 (y ∷ parts)) (plain 0 x (omega arith)) refl
    ∙ ap (λ ps. x ∷ ps) (parts_of-join (y ∷ parts) (omega arith) (λ k d within. plain (suc k) d (omega arith)))

-- one step along normal parts
step-normal : (rooted : Bool) (pre : List (List ℕ)) (x : List ℕ) (post : List (List ℕ))
    → AreNormal rooted (pre ++ x ∷ post) → step rooted pre x ≡ pre ++ x ∷ []
unfolding step ends_in_name
step-normal rooted pre x post normal =
    let at_x : get_or (pre ++ x ∷ post) (length pre) x ≡ x = get_or-append_seam pre x post x in
    let within : length pre < length (pre ++ x ∷ post) = omega (arith, length-append pre (x ∷ post)) in
    let part : IsPart x = subst IsPart at_x (normal.all (length pre) x within) in
    let not_empty : eqb (length x) 0 ≡ false = elim (cases_Bool (eqb (length x) 0)) [
      | inl empty ↦ absurd (part.filled (empty_of_length x (eqb-true (length x) 0 empty)))
      | inr nay ↦ nay
    ] in
    let moves : is_still x ≡ false = rw not_empty (not_same x (46 ∷ []) part.moves) in
    elim (cases_Bool (bytes_eq x up)) [
      | inr name ↦ rw (moves, name) refl
      | inl leaves ↦
          let is_up : x ≡ up = same_text x up leaves in
          let free : rooted ≡ false = elim (cases_Bool rooted) [
            | inl root ↦ absurd (normal.names root (length pre) x within (at_x ∙ is_up))
            | inr free ↦ free
          ] in
          let no_name : ends_in_name pre ≡ false = elim (eq-zero-or-pos (length pre)) [
            | inl none ↦ ap (λ n. ltb 0 n && not (bytes_eq (get_or pre (n - 1) []) up)) none
            | inr some ↦
                let before : get_or (pre ++ x ∷ post) (length pre - 1) [] ≡ up =
                normal.front (length pre - 1) (omega (arith, length-append pre (x ∷ post)))
                (ap (λ k. get_or (pre ++ x ∷ post) k []) (omega arith) ∙ get_or-append_seam pre x post [] ∙ is_up) in
                let last : get_or pre (length pre - 1) [] ≡ up =
                sym (get_or-append pre (x ∷ post) [] (length pre - 1) (omega arith)) ∙ before in
                rw last (and_right (ltb 0 (length pre)) false refl)
          ] in
          rw (moves, leaves, no_name, free) refl
    ]

-- normal parts lead where they say
pub fold-normal : (rooted : Bool) (pre post : List (List ℕ)) → AreNormal rooted (pre ++ post)
    → fold (step rooted) pre post ≡ pre ++ post
fold-normal rooted pre [] normal = sym (append-nil pre)
fold-normal rooted pre (x ∷ post) normal =
    ap (λ from. fold (step rooted) from post) (step-normal rooted pre x post normal)
    ∙ fold-normal rooted (pre ++ x ∷ []) post (subst (AreNormal rooted) (sym (append_assoc pre (x ∷ []) post)) normal)
    ∙ append_assoc pre (x ∷ []) post

-- the parts of a text that begins with `/`
parts_of-root : (text : List ℕ) → parts_of (47 ∷ text) ≡ [] ∷ parts_of text
parts_of-root text = slice_split-cons_yes is_slash 47 text refl

-- no first step leads anywhere
step-empty : (rooted : Bool) (parts : List (List ℕ)) → step rooted parts [] ≡ parts
unfolding step
step-empty rooted parts = refl

-- the text of normal parts leads where they say
fold-join : (rooted : Bool) (parts : List (List ℕ)) → AreNormal rooted parts
    → fold (step rooted) [] (parts_of (join_with_byte 47 parts)) ≡ parts
fold-join rooted [] normal = step-empty rooted []
fold-join rooted (x ∷ parts) normal =
    ap (fold (step rooted) []) (parts_of-join (x ∷ parts) (omega arith) (λ k d within. (normal.all k d within).plain))
    ∙ fold-normal rooted [] (x ∷ parts) normal

-- the parts of a normal path are where it leads
same_parts : (rooted : Bool) (path : List ℕ) → (normal : IsNormalPath rooted path)
    → fold (step rooted) [] (parts_of path) ≡ normal.parts
same_parts true path normal =
    ap (λ text. fold (step true) [] (parts_of text)) normal.is_text
    ∙ ap (fold (step true) []) (parts_of-root (join_with_byte 47 normal.parts))
    ∙ ap (λ from. fold (step true) from (parts_of (join_with_byte 47 normal.parts))) (step-empty true [])
    ∙ fold-join true normal.parts normal.normal
same_parts false path normal =
    ap (λ text. fold (step false) [] (parts_of text)) normal.is_text
    ∙ fold-join false normal.parts normal.normal

-- a normal path stays as it is
pub normal_text-same : (path : List ℕ) → IsNormalPath (is_rooted path) path → normal_text path ≡ path
normal_text-same path normal =
    ap (λ parts. path_text (is_rooted path) parts) (same_parts (is_rooted path) path normal) ∙ sym normal.is_text

-- pieces with a byte between, and one more behind them
join-push : (xs : List (List ℕ)) (y : List ℕ) → 0 < length xs
    → join_with_byte 47 (xs ++ y ∷ []) ≡ join_with_byte 47 xs ++ (47 ∷ y)
join-push [] y some = absurd (omega arith)
join-push (x ∷ []) y some = refl
join-push (x ∷ z ∷ xs) y some =
    ap (λ t. x ++ (47 ∷ t)) (join-push (z ∷ xs) y (omega arith))
    ∙ sym (append_assoc x (47 ∷ join_with_byte 47 (z ∷ xs)) (47 ∷ y))

-- the text of parts and one more
path_text-push : (rooted : Bool) (xs : List (List ℕ)) (y : List ℕ) → 0 < length xs
    → path_text rooted (xs ++ y ∷ []) ≡ (path_text rooted xs ++ 47 ∷ []) ++ y
path_text-push true xs y some =
    ap (λ t. 47 ∷ t) (join-push xs y some) ∙ sym (append_assoc (path_text true xs) (47 ∷ []) y)
path_text-push false xs y some =
    join-push xs y some ∙ sym (append_assoc (path_text false xs) (47 ∷ []) y)

-- the text of one part
path_text-one : (rooted : Bool) (y : List ℕ) → path_text rooted (y ∷ []) ≡ path_text rooted [] ++ y
path_text-one true y = refl
path_text-one false y = refl

-- the text of the first parts, with the next one behind it
pub path_text-step : (rooted : Bool) (items : List (Bor (List ℕ))) (i : ℕ) (d : Bor (List ℕ)) (old between new : List ℕ)
    → i < length items
    → old ≡ path_text rooted (map (λ p. p.now) (take i items))
    → (0 < i → between ≡ old ++ 47 ∷ [])
    → (i ≡ 0 → between ≡ old)
    → new ≡ between ++ (get_or items i d).now
    → new ≡ path_text rooted (map (λ p. p.now) (take (i + 1) items))
path_text-step rooted items i d old between new within is_old later first is_new =
    let now : Bor (List ℕ) → List ℕ = λ p. p.now in
    let item : List ℕ = (get_or items i d).now in
    let more : map now (take (i + 1) items) ≡ map now (take i items) ++ item ∷ []
    = ap (map now) (take_more items i d within) ∙ map-append now (take i items) (get_or items i d ∷ []) in
    let front : List (List ℕ) = map now (take i items) in
    let long : length front ≡ i = length-map (take i items) now ∙ omega (arith, length-take i items) in
    elim (eq-zero-or-pos i) [
      | inl none ↦
          is_new
          ∙ ap (λ t. t ++ item) (first none ∙ is_old ∙ ap (path_text rooted) (empty_of_length front (long ∙ none)))
          ∙ sym (path_text-one rooted item)
          ∙ sym (ap (path_text rooted) (more ∙ ap (λ f. f ++ item ∷ []) (empty_of_length front (long ∙ none))))
      | inr some ↦
          is_new
          ∙ ap (λ t. t ++ item) (later some)
          ∙ ap (λ t. (t ++ 47 ∷ []) ++ item) is_old
          ∙ sym (path_text-push rooted front item (omega arith))
          ∙ sym (ap (path_text rooted) more)
    ]

-- whether parts end in a name, by their last one
pub ends_in_name-last : (parts : List (Bor (List ℕ))) (d : Bor (List ℕ)) → 0 < length parts
    → ends_in_name (map (λ p. p.now) parts) ≡ not (bytes_eq (get_or parts (length parts - 1) d).now up)
unfolding ends_in_name
ends_in_name-last parts d some =
    let texts : List (List ℕ) = map (λ p. p.now) parts in
    let long : length texts ≡ length parts = length-map parts (λ (p : Bor (List ℕ)). p.now) in
    ap (λ b. b && not (bytes_eq (get_or texts (length texts - 1) []) up)) (lt-ltb 0 (length texts) (omega arith))
    ∙ ap (λ n. not (bytes_eq (get_or texts (n - 1) []) up)) long
    ∙ ap (λ t. not (bytes_eq t up))
    (get_or-map {X = Bor (List ℕ)} {Y = List ℕ} (λ p. p.now) parts (length parts - 1) d [] (omega arith))

-- a length that is not 0
pub filled_some : (n : ℕ) → eqb n 0 ≡ false → 0 < n
filled_some n filled = elim (eq-zero-or-pos n) [ inl none ↦ absurd (eqb-false n 0 filled none) | inr some ↦ some ]

-- no parts end in no name
pub ends_in_name-none : (parts : List (Bor (List ℕ))) → length parts ≡ 0 → ends_in_name (map (λ p. p.now) parts) ≡ false
unfolding ends_in_name
ends_in_name-none [] none = refl
ends_in_name-none (x ∷ parts) none = absurd (omega arith)

-- a part that leads nowhere
pub is_still-empty : (part : List ℕ) → eqb (length part) 0 ≡ true → is_still part ≡ true
is_still-empty part empty = ap (λ b. b || bytes_eq part (46 ∷ [])) empty

pub is_still-dot : (part : List ℕ) → bytes_eq part (46 ∷ []) ≡ true → is_still part ≡ true
is_still-dot part dot = elim (cases_Bool (eqb (length part) 0)) [
  | inl yea ↦ is_still-empty part yea
  | inr nay ↦ ap (λ b. b || bytes_eq part (46 ∷ [])) nay ∙ dot
]

pub is_still-not : (part : List ℕ) → eqb (length part) 0 ≡ false → bytes_eq part (46 ∷ []) ≡ false → is_still part ≡ false
is_still-not part filled other = ap (λ b. b || bytes_eq part (46 ∷ [])) filled ∙ other

-- the step that each kind of part is
pub step-still : (rooted : Bool) (parts : List (List ℕ)) (part : List ℕ) → is_still part ≡ true → step rooted parts part ≡ parts
unfolding step
step-still rooted parts part still = rw still refl

pub step-on : (rooted : Bool) (parts : List (List ℕ)) (part : List ℕ)
    → is_still part ≡ false → bytes_eq part up ≡ false → step rooted parts part ≡ parts ++ part ∷ []
unfolding step
step-on rooted parts part moves enters = rw (moves, enters) refl

pub step-leave : (rooted : Bool) (parts : List (List ℕ)) (part : List ℕ)
    → is_still part ≡ false → bytes_eq part up ≡ true → ends_in_name parts ≡ true
    → step rooted parts part ≡ take (length parts - 1) parts
unfolding step
step-leave rooted parts part moves leaves name = rw (moves, leaves, name) refl

pub step-root : (rooted : Bool) (parts : List (List ℕ)) (part : List ℕ)
    → is_still part ≡ false → bytes_eq part up ≡ true → ends_in_name parts ≡ false → rooted ≡ true
    → step rooted parts part ≡ parts
unfolding step
step-root rooted parts part moves leaves nameless root = rw (moves, leaves, nameless, root) refl

pub step-free : (rooted : Bool) (parts : List (List ℕ)) (part : List ℕ)
    → is_still part ≡ false → bytes_eq part up ≡ true → ends_in_name parts ≡ false → rooted ≡ false
    → step rooted parts part ≡ parts ++ part ∷ []
unfolding step
step-free rooted parts part moves leaves nameless free = rw (moves, leaves, nameless, free) refl
