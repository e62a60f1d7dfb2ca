-- In which column a block stands.
use Rattle.std.specs.Prelude.{◌<◌, ℕ, List, All, Vec, length, slice_index, slice_index_or}
use Rattle.std.specs.declared.alloc.Global.{Global}

-- a block stands behind those before it that ask for it
abbrev pub StandsBehind : List ℕ → ℕ → Vec ℕ Global → Type 0
StandsBehind layers block askers =
    All (λ asker. asker < block → slice_index layers asker < slice_index layers block) askers.items

-- each block does
abbrev pub AreBehind : List (Vec ℕ Global) → List ℕ → Type 0
AreBehind askers layers =
    (block : ℕ) (d : Vec ℕ Global) → block < length layers →
    StandsBehind layers block (slice_index_or askers block d)
