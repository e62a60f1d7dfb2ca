-- How many bytes of a bundle were made for which input.
use Rattle.std.specs.Prelude.{ℕ, ◌==◌, ◌+◌, ◌-◌, List, [], ◌∷◌, max, min, nat_lt, if◌then◌else◌}
use Rattle.gutsirava_views.specs.declared.overview.OutputPart.{OutputPart}

-- what a part has of the bytes from `done` on, before `bytes`
abbrev pub part_bytes : ℕ → ℕ → OutputPart → ℕ
part_bytes done bytes part = min part.end bytes - max part.begin done

-- up to where bytes are counted behind it
abbrev pub done_behind : ℕ → ℕ → OutputPart → ℕ
done_behind done bytes part =
    if nat_lt (max part.begin done) (min part.end bytes) then min part.end bytes else done

-- what an input has of these parts, of which none counts what one before it did
abbrev pub share_from : ℕ → ℕ → ℕ → List OutputPart → ℕ
share_from done bytes input [] = 0
share_from done bytes input (part ∷ parts) =
    (if part.input == input then part_bytes done bytes part else 0)
    + share_from (done_behind done bytes part) bytes input parts

-- what an input has of a bundle of so many bytes
abbrev pub share_of : List OutputPart → ℕ → ℕ → ℕ
share_of parts bytes input = share_from 0 bytes input parts
