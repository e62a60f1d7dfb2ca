-- A walk over a statement of a module and what stands for it in a bundle.
use Rattle.std.specs.Prelude.{◌≡◌, ◌≤◌, ℕ}
use Rattle.gutsirava_traces.specs.declared.maker.MapMaker.{MapMaker}
use Rattle.gutsirava_traces.specs.declared.source.SourceFile.{SourceFile}
use Rattle.gutsirava_traces.specs.declared.walk.StatementWalk.{StatementWalk}
use Rattle.gutsirava_traces.specs.Told.{Tells}

-- a walk goes on, and neither place goes back
pub record IsMoved (old new : StatementWalk) : Type 0 where
  pub list : new.list ≡ old.list
  pub from : old.from ≤ new.from
  pub to : old.to ≤ new.to

-- the same, and marks are told of what is between, from this piece of the module's list on
pub record GoesOn
    (own : ℕ) (old new : StatementWalk) (source new_source : SourceFile)
    (maker new_maker : MapMaker) : Type 0 where
  pub moved : IsMoved old new
  pub tells : Tells old.list
      (record { first = old.to; last = new.to; own = own; own_last = new.from })
      source new_source maker new_maker
