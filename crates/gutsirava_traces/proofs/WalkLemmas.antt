-- A walk goes on.
use Rattle.std.proofs.Common.{ℕ, ◌≤◌, refl, ◌∙◌, subst, arith}
use Rattle.gutsirava_traces.specs.declared.maker.MapMaker.{MapMaker}
use Rattle.gutsirava_traces.specs.declared.maker.PrintedList.{PrintedList}
use Rattle.gutsirava_traces.specs.declared.source.SourceFile.{SourceFile}
use Rattle.gutsirava_traces.specs.declared.walk.StatementWalk.{StatementWalk}
use Rattle.gutsirava_traces.specs.Told.{Tells, TellsFrom}
use Rattle.gutsirava_traces.specs.Walks.{GoesOn, IsMoved}
use Rattle.gutsirava_traces.proofs.ToldLemmas.{tells_none, tells_then, tells_wider}

-- a walk moves, and nothing is told
pub goes_quietly : (own : ℕ) (old new : StatementWalk) (source : SourceFile) (maker : MapMaker) → IsMoved old new
    → own ≤ old.from → GoesOn own old new source source maker maker
goes_quietly own old new source maker moved low = record {
  moved = moved;
  tells = tells_none old.list old.to new.to own new.from source maker moved.to (omega (arith, moved.from, low));
}

-- a walk stays
pub goes_nowhere : (walk : StatementWalk) (source : SourceFile) (maker : MapMaker) (own : ℕ) → own ≤ walk.from
    → GoesOn own walk walk source source maker maker
goes_nowhere walk source maker own low =
    goes_quietly own walk walk source maker (record { list = refl; from = omega arith; to = omega arith }) low

-- what is told of one stretch, where a walk moves over it
pub goes_telling : (own : ℕ) (old new : StatementWalk) (first last own' own_last : ℕ) (s0 s1 : SourceFile) (m0 m1 : MapMaker)
    → Tells old.list (record { first = first; last = last; own = own'; own_last = own_last }) s0 s1 m0 m1 → IsMoved old new
    → old.to ≤ first → last ≤ new.to → own ≤ own' → own_last ≤ new.from → GoesOn own old new s0 s1 m0 m1
goes_telling own old new first last own' own_last s0 s1 m0 m1 tells moved low high own_low own_high = record {
  moved = moved;
  tells = tells_wider old.list old.to new.to own new.from first last own' own_last s0 s1 m0 m1 tells low high own_low own_high;
}

-- a walk goes on twice
pub goes_then : (own : ℕ) (a b c : StatementWalk) (s0 s1 s2 : SourceFile) (m0 m1 m2 : MapMaker)
    → GoesOn own a b s0 s1 m0 m1 → GoesOn b.from b c s1 s2 m1 m2 → GoesOn own a c s0 s2 m0 m2
goes_then own a b c s0 s1 s2 m0 m1 m2 first second =
    let P : PrintedList → Type 0 =
    λ it. Tells it (record { first = b.to; last = c.to; own = b.from; own_last = c.from }) s1 s2 m1 m2 in
    record {
      moved = record {
        list = second.moved.list ∙ first.moved.list;
        from = omega (arith, first.moved.from, second.moved.from);
        to = omega (arith, first.moved.to, second.moved.to);
      };
      tells = tells_then a.list a.to b.to own b.from b.to c.to b.from c.from s0 s1 s2 m0 m1 m2 first.tells
          (subst P first.moved.list second.tells) (omega arith) (omega arith);
    }

-- what is told on the whole of a walk
pub walk_tells : (own last : ℕ) (old new : StatementWalk) (s0 s1 : SourceFile) (m0 m1 : MapMaker)
    → GoesOn own old new s0 s1 m0 m1 → new.to ≤ last → TellsFrom old.list old.to last own s0 s1 m0 m1
walk_tells own last old new s0 s1 m0 m1 goes high = record {
  own_last = new.from;
  tells = tells_wider old.list old.to last own new.from old.to new.to own new.from s0 s1 m0 m1 goes.tells
      (omega arith) high (omega arith) (omega arith);
}
