-- One step of each definition that goes over places or lists.
use Rattle.std.proofs.Common.{◌≡◌, ◌≢◌, ◌+◌, ◌-◌, ◌<◌, ◌≤◌, ◌||◌, ℕ, suc, false, cond, List, [], ◌∷◌, length, get_or, drop, refl, ap, sym, ◌∙◌, ne_eqb, arith}
use Rattle.std.proofs.lemmas.List.{at_drop_all, at_drop_more}
use Rattle.bundle_syntax.specs.declared.piece.Piece as d
use Rattle.bundle_syntax.specs.declared.piece.Piece.TheVariants as p
use Rattle.gutsirava_sources.specs.declared.outline.SourceRequest.{SourceRequest}
use Rattle.gutsirava_sources.specs.declared.parts.RequestPart.{RequestPart}
use Rattle.gutsirava_sources.specs.declared.stand.Stand.{Stand}
use Rattle.gutsirava_sources.specs.Parts.{asks_at, asks_from, is_value, reads_from}
use Rattle.gutsirava_sources.specs.Places.{depth_behind, span}
use Rattle.gutsirava_sources.specs.Written.{Written}
use Rattle.gutsirava_sources.specs.Rewritten.{Reached, Source, copied_on, next_if, put_if, requested_all, specified_if, specified_on}

-- so many are left from a place on, and one less from the next
pub left : (n at : ℕ) → at < n → n - at ≡ suc (n - (at + 1))
left n at lt = omega arith

pub reads_from_step : (pieces : List d.Piece) (local : List ℕ) (n at : ℕ) → at < n → is_value pieces local at ≡ false → reads_from pieces local (n - at) at ≡ reads_from pieces local (n - (at + 1)) (at + 1)
reads_from_step pieces local n at lt passes =
    ap (λ m. reads_from pieces local m at) (left n at lt)
    ∙ ap (λ b. cond b false (reads_from pieces local (n - (at + 1)) (at + 1))) passes

pub asks_from_step : (pieces : List d.Piece) (part : RequestPart) (n at : ℕ) → at < n → asks_at pieces part at ≡ false → asks_from pieces part (n - at) at ≡ asks_from pieces part (n - (at + 1)) (at + 1)
asks_from_step pieces part n at lt passes =
    ap (λ m. asks_from pieces part m at) (left n at lt)
    ∙ ap (λ b. b || asks_from pieces part (n - (at + 1)) (at + 1)) passes

pub copied_on_step : (it : Source) (n at next : ℕ) (done : Written) → at < n → copied_on it (n - at) at next done ≡ copied_on it (n - (at + 1)) (at + 1) (next_if it at next) (put_if it at next done)
copied_on_step it n at next done lt = ap (λ m. copied_on it m at next done) (left n at lt)

pub specified_on_step : (it : Source) (part : RequestPart) (n at : ℕ) (done : Written) → at < n → specified_on it part (n - at) at done ≡ specified_on it part (n - (at + 1)) (at + 1) (specified_if it part at done)
specified_on_step it part n at done lt = ap (λ m. specified_on it part m at done) (left n at lt)

-- where no more is told, no request is left
stopped : (it : Source) (requests : List SourceRequest) (reached : Reached) → requested_all it requests [] reached ≡ reached
stopped it [] reached = refl
stopped it (request ∷ requests) reached = refl

pub requested_all_stop : (it : Source) (requests : List SourceRequest) (stands : List Stand) (k : ℕ) (reached : Reached) → length stands ≤ k → requested_all it (drop k requests) (drop k stands) reached ≡ reached
requested_all_stop it requests stands k reached le =
    at_drop_all (λ ys. requested_all it (drop k requests) ys reached) stands k le
    ∙ stopped it (drop k requests) reached

-- one more node at most is open behind a piece
pub depth_behind_le : (depth : ℕ) (piece : d.Piece) → depth_behind depth piece ≤ depth + 1
unfolding depth_behind
depth_behind_le depth (p.Open field node) = omega arith
depth_behind_le depth p.Close = omega arith
depth_behind_le depth (p.Ident field sym ctxt role) = omega arith
depth_behind_le depth (p.Hole field) = omega arith

-- where nodes are open behind a piece, one more is gone over
pub span_step : (pieces : List d.Piece) (at depth : ℕ) (piece : d.Piece) → at < length pieces → piece ≡ get_or pieces at piece → depth_behind depth piece ≢ 0 → span depth (drop at pieces) ≡ suc (span (depth_behind depth piece) (drop (at + 1) pieces))
span_step pieces at depth piece lt e deep =
    at_drop_more (span depth) pieces at piece lt
    ∙ ap (λ it. span depth (it ∷ drop (at + 1) pieces)) (sym e)
    ∙ ap (λ b. cond b 1 (suc (span (depth_behind depth piece) (drop (at + 1) pieces)))) (ne_eqb (depth_behind depth piece) 0 deep)
