-- Up to the byte, or the first of its character.
use Rattle.std.proofs.Common.{ℕ, subst, sym, arith}
use Rattle.std.specs.Str.{IsCharBoundary}
use Rattle.std.proofs.lemmas.List.{take-append-drop}
use Rattle.gutsirava_report.proofs.place.split.Goals as goal

pub returns-clause-front : goal.returns-clause-front
returns-clause-front c =
    let text = c.args.text.now in
    let floor = c.floor_char_boundary in
    let parts = c.split_at.ensures in
    record {
      rest = c.split_at.result.1.now;
      whole = rw (parts.front, parts.back) (take-append-drop floor.result text);
      within = omega (arith, parts.front_len, floor.ensures.bound);
      boundary = subst (λ (n : ℕ). IsCharBoundary text n) (sym parts.front_len) floor.ensures.boundary;
      nearest = λ i low high. floor.ensures.nearest i (omega (arith, parts.front_len, low)) high;
    }
