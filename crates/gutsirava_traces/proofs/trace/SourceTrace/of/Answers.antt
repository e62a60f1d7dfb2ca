-- One more piece is taken in.
use Rattle.std.proofs.Common.{◌≡◌, ◌+◌, ◌++◌, ℕ, List, ap, append_assoc, drop, sym, ◌∙◌, arith}
use Rattle.gutsirava_traces.specs.Ends.{depth_behind}
use Rattle.gutsirava_traces.specs.Statements.{stated, statements_on}
use Rattle.gutsirava_traces.proofs.EndLemmas.{depth_behind_le}
use Rattle.gutsirava_traces.proofs.StatementLemmas.{statements_step}
use Rattle.gutsirava_traces.proofs.trace.SourceTrace.of.Goals as goal

pub loop-at-preserved : goal.loop-at-preserved
loop-at-preserved c =
    let places = c.args.places.items in
    let pieces = c.args.pieces.now in
    let at = c.loop-at.at in
    let depth = c.loop-at.depth in
    let piece = c.index-pieces-at.result in
    let before = c.loop-at.trace.statements.items in
    let own = stated places pieces at depth piece in
    let rest = statements_on places pieces (at + 1) (depth_behind depth piece) (drop (at + 1) pieces) in
    let taken : c.take.new.self.statements.items ≡ before ++ own =
    c.in_ok-take.ensures.statements ∙ ap (λ (it : List ℕ). before ++ stated it pieces at depth piece) (ap (λ it. it.items) c.loop-at.invariant.places) in
    record {
      depth = omega (arith, depth_behind_le depth piece, c.depth_behind-depth.ensures, c.loop-at.invariant.depth);
      shapes = omega (arith, c.in_ok-take.ensures.shapes, c.loop-at.invariant.shapes);
      places = c.in_ok-take.ensures.places ∙ c.loop-at.invariant.places;
      statements =
          ap (λ (n : ℕ). c.take.new.self.statements.items ++ statements_on places pieces (at + 1) n (drop (at + 1) pieces)) c.depth_behind-depth.ensures
          ∙ ap (λ it. it ++ rest) taken
          ∙ append_assoc before own rest
          ∙ ap (λ it. before ++ it) (sym (statements_step places pieces at depth piece (omega arith) c.index-pieces-at.is))
          ∙ c.loop-at.invariant.statements;
    }
