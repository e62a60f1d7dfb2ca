-- Texts with their marks.
use Rattle.std.specs.Prelude.{◌≡◌, ℕ, ◌<◌, ◌&&◌, Bool, List, [], Some, bytes_eq, get_or, length, map, slice_get, string_bytes}
use Rattle.std.specs.declared.alloc.Global.{Global}
use Rattle.std.specs.declared.string.String.{String}
use Rattle.bundle_rules.specs.Nodes.{Text}

-- the text at a place
abbrev pub text_marked : List (String Global) → ℕ → Text
text_marked texts place = get_or (map string_bytes texts) place []

-- the marks with their texts
abbrev pub marked_in : {T : Type 0} → List (String Global) → List (T × ℕ) → List (T × Text)
marked_in texts marks = map (λ e. (e.0, text_marked texts e.1)) marks

-- whether this is the mark, and the text
abbrev pub is_same_mark : {T : Type 0} → (T → T → Bool) → T × Text → T × Text → Bool
is_same_mark eq sought its = eq sought.0 its.0 && bytes_eq sought.1 its.1

-- each mark is of a text that is there
abbrev pub AreMarksWithin : {T : Type 0} → List (String Global) → List (T × ℕ) → Type 0
AreMarksWithin {T} texts marks = (i : ℕ) (its : T × ℕ) → slice_get marks i ≡ Some its →
    its.1 < length texts
