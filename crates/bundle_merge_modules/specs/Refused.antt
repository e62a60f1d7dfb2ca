-- How far one gets with some things in turn, until one of them is refused.
use Rattle.std.specs.Prelude.{List, ◌∷◌}

-- `StopsAt Answered Refused all`: of these one is refused, and all in front of it are answered
pub data StopsAt {X : Type 0} (Answered Refused : X → Type 0) : List X → Type 0 where
  here : {one : X} {rest : List X} → Refused one → StopsAt Answered Refused (one ∷ rest)
  further : {one : X} {rest : List X} →
      Answered one →
      StopsAt Answered Refused rest →
      StopsAt Answered Refused (one ∷ rest)
