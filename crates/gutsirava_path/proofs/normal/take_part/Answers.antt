-- One step further.
use Rattle.std.proofs.Common.{◌≡◌, [], ◌∷◌, ℕ, List, Bor, true, false, not, eqb, length, map, take, vec_len, ◌-◌, ap, sym, ◌∙◌, arith}
use Rattle.std.proofs.lemmas.Bool.{not-true, not-false}
use Rattle.std.proofs.lemmas.List.{length-map, map-append, take-map}
use Rattle.std.specs.Str.{bytes_eq}
use Rattle.gutsirava_path.specs.Normal.{ends_in_name, up}
use Rattle.gutsirava_path.proofs.NormalParts.{is_still-empty, is_still-dot, is_still-not, step-still, step-on, step-leave, step-root, step-free}
use Rattle.gutsirava_path.proofs.normal.take_part.Goals as goal
use Rattle.gutsirava_path.proofs.normal.take_part.Goals.{then-is_empty-via-then-is_empty, then-is_empty-via-else-is_empty+then-eq}

pub returns-then-is_empty : goal.returns-then-is_empty
returns-then-is_empty c =
    let part = c.args.part.now in
    let texts : List (List ℕ) = map (λ p. p.now) c.args.kept.now.items in
    elim c.then-is_empty.branch [
      | then-is_empty-via-then-is_empty w ↦
          let empty : eqb (length part) 0 ≡ true = cc in
          sym (step-still c.args.rooted texts part (is_still-empty part empty))
      | then-is_empty-via-else-is_empty+then-eq w ↦
          let dot : bytes_eq part (46 ∷ []) ≡ true = cc in
          sym (step-still c.args.rooted texts part (is_still-dot part dot))
    ]

pub returns-then-ne : goal.returns-then-ne
returns-then-ne c =
    let part = c.args.part.now in
    let old = c.args.kept.now.items in
    let filled : eqb (length part) 0 ≡ false = cc in
    let other : bytes_eq part (46 ∷ []) ≡ false = cc in
    let differs : not (bytes_eq part up) ≡ true = cc in
    ap (map {A = Bor (List ℕ)} {B = List ℕ} (λ p. p.now)) c.in_ok-push.ensures.items
    ∙ map-append {A = Bor (List ℕ)} {B = List ℕ} (λ p. p.now) old (c.args.part ∷ [])
    ∙ sym (step-on c.args.rooted (map (λ p. p.now) old) part (is_still-not part filled other) (not-true (bytes_eq part up) differs))

pub returns-then-ends_in_name : goal.returns-then-ends_in_name
returns-then-ends_in_name c =
    let now : Bor (List ℕ) → List ℕ = λ p. p.now in
    let part = c.args.part.now in
    let old = c.args.kept.now.items in
    let texts : List (List ℕ) = map now old in
    let filled : eqb (length part) 0 ≡ false = cc in
    let other : bytes_eq part (46 ∷ []) ≡ false = cc in
    let alike : not (bytes_eq part up) ≡ false = cc in
    let name : ends_in_name texts ≡ true = cc in
    let long : vec_len c.args.kept.now ≡ length old = omega (arith, c.args.kept.now.ok.0) in
    ap (map now) c.pop.ensures.rest
    ∙ ap (λ n. map now (take (n - 1) old)) long
    ∙ sym (take-map now (length old - 1) old)
    ∙ ap (λ n. take (n - 1) texts) (sym (length-map old now))
    ∙ sym (step-leave c.args.rooted texts part (is_still-not part filled other) (not-false (bytes_eq part up) alike) name)

pub returns-in_ok-push-2 : goal.returns-in_ok-push-2
returns-in_ok-push-2 c =
    let part = c.args.part.now in
    let old = c.args.kept.now.items in
    let texts : List (List ℕ) = map (λ p. p.now) old in
    let filled : eqb (length part) 0 ≡ false = cc in
    let other : bytes_eq part (46 ∷ []) ≡ false = cc in
    let alike : not (bytes_eq part up) ≡ false = cc in
    let nameless : ends_in_name texts ≡ false = cc in
    ap (map {A = Bor (List ℕ)} {B = List ℕ} (λ p. p.now)) c.in_ok-push-2.ensures.items
    ∙ map-append {A = Bor (List ℕ)} {B = List ℕ} (λ p. p.now) old (c.args.part ∷ [])
    ∙ sym (step-free c.args.rooted texts part (is_still-not part filled other) (not-false (bytes_eq part up) alike)
    nameless c.if-not-rooted.true)

pub returns-else-not-rooted : goal.returns-else-not-rooted
returns-else-not-rooted c =
    let part = c.args.part.now in
    let texts : List (List ℕ) = map (λ p. p.now) c.args.kept.now.items in
    let filled : eqb (length part) 0 ≡ false = cc in
    let other : bytes_eq part (46 ∷ []) ≡ false = cc in
    let alike : not (bytes_eq part up) ≡ false = cc in
    let nameless : ends_in_name texts ≡ false = cc in
    sym (step-root c.args.rooted texts part (is_still-not part filled other) (not-false (bytes_eq part up) alike)
    nameless c.if-not-rooted.false)
