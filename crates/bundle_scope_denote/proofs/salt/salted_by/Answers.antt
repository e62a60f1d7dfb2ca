-- One identifier more is told.
use Rattle.std.proofs.Common.{◌≡◌, ◌+◌, ◌<◌, ◌++◌, ◌∷◌, [], ℕ, List, get_or, length, map, take, refl, ap, sym, ◌∙◌, subst}
use Rattle.std.proofs.lemmas.List.{map-append, take_all, take_more}
use Rattle.std.proofs.lemmas.Grind.{flat_map-append}
use Rattle.sha2.specs.Hashers.{Holds512}
use Rattle.bundle_syntax.specs.Item.{item_of}
use Rattle.bundle_syntax.specs.declared.piece.Piece.{Piece}
use Rattle.bundle_scope_denote.specs.Salted.{message_of, salted, salt_bytes}
use Rattle.bundle_scope_denote.proofs.salt.salted_by.Goals as goal

-- the message of one element more
message-more : (pieces : List Piece) (i : ℕ) (piece : Piece) → i < length pieces → piece ≡ get_or pieces i piece →
    message_of (map item_of (take i pieces)) ++ salt_bytes (item_of piece) ≡ message_of (map item_of (take (i + 1) pieces))
message-more pieces i piece within is =
    ap (λ (its : List ℕ). message_of (map item_of (take i pieces)) ++ its) (sym (nothing-more (salt_bytes (item_of piece))))
    ∙ sym (flat_map-append salt_bytes (map item_of (take i pieces)) (item_of piece ∷ []))
    ∙ ap message_of (sym (map-append item_of (take i pieces) (piece ∷ [])))
    ∙ ap (λ p. message_of (map item_of (take i pieces ++ p ∷ []))) is
    ∙ ap (λ l. message_of (map item_of l)) (sym (take_more pieces i piece within))
  where
    nothing-more : (l : List ℕ) → l ++ [] ≡ l
    nothing-more [] = refl
    nothing-more (x ∷ l) = ap (λ r. x ∷ r) (nothing-more l)

pub loop-piece-init : goal.loop-piece-init
loop-piece-init c = c.new-digest.ensures

pub loop-piece-preserved : goal.loop-piece-preserved
loop-piece-preserved c =
    subst (Holds512 c.tell.new.digest) (message-more c.args.pieces.now c.loop-piece.piece-index c.piece-item.result c.loop-piece-test.true c.piece-item.is)
    (c.tell.ensures (message_of (map item_of (take c.loop-piece.piece-index c.args.pieces.now))) c.loop-piece.invariant)

pub returns : goal.returns
returns c =
    c.begun_with.ensures
    ∙ ap salted (c.finalize.ensures (message_of (map item_of c.args.pieces.now))
    (subst (λ l. Holds512 c.loop-piece.digest (message_of (map item_of l))) (take_all c.loop-piece.piece-index c.args.pieces.now c.loop-piece-test.false) c.loop-piece.invariant))
