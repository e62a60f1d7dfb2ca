-- States of paths.
use Rattle.std.specs.Prelude.{◌≡◌, ◌≢◌, ℕ, List, string_bytes, String}
use Rattle.std.specs.List.{Contains}
use Rattle.std.specs.declared.alloc.Global.{Global}
use Rattle.gutsirava_watch.specs.declared.stamp.PathStamp.{PathStamp}

-- a path may be in the state that is noted
abbrev pub MayBeAs : (List ℕ → PathStamp → Type 0) → String Global × PathStamp → Type 0
MayBeAs may_be noted = may_be (string_bytes noted.0) noted.1

-- a path may be in another state than this one
pub record IsInAnother (may_be : List ℕ → PathStamp → Type 0) (path : List ℕ) (noted : PathStamp)
    : Type 0 where
  pub state : PathStamp
  pub is : may_be path state
  pub differs : state ≢ noted

-- a path is noted, and may be in another state
pub record HasChanged (may_be : List ℕ → PathStamp → Type 0) (path : List ℕ)
    (paths : List (String Global × PathStamp)) : Type 0 where
  pub noted : String Global × PathStamp
  pub among : Contains paths noted
  pub named : string_bytes noted.0 ≡ path
  pub another : IsInAnother may_be path noted.1
