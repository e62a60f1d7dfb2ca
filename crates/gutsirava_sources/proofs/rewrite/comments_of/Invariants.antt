-- The comments so far have their texts, and lie within the list.
use Rattle.std.proofs.Common.{◌≡◌, ◌≤◌, ◌-◌, length, map, take}
use Rattle.std.specs.Prelude.{All}
use Rattle.gutsirava_sources.proofs.rewrite.comments_of.Given as goal

abbrev pub invariant-loop-remark : goal.invariant-loop-remark
invariant-loop-remark l =
    (map (λ comment. comment.text.now) l.comments.items ≡ map (λ remark. remark.text.now) (take l.remark-index l.remarks))
    × All (λ comment. comment.place ≤ length l.pieces - 1) l.comments.items
