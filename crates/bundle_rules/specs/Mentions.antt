-- What is denoted in some places, each once, in the order of first mention.
use Rattle.std.specs.Prelude.{ℕ, ◌==◌, ◌&&◌, Bool, true, false, not, List, [], ◌∷◌, Option, Some, None, filter, bytes_eq}
use Rattle.bundle_rules.specs.Scopes.{same_scope}
use Rattle.bundle_rules.specs.Denotes.{Denoted, Bound, Global}

-- whether two contexts are the same, or both are not read
abbrev pub same_context : Option ℕ → Option ℕ → Bool
same_context None None = true
same_context (Some a) (Some b) = a == b
same_context _ _ = false

-- whether two names denote the same
abbrev pub same_denoted : Denoted → Denoted → Bool
same_denoted (Bound scope name) (Bound other its) =
    same_scope scope other && bytes_eq name.sym its.sym && same_context name.ctxt its.ctxt
same_denoted (Global x) (Global y) = bytes_eq x y
same_denoted _ _ = false

-- what is denoted, each once, where it stands first
abbrev pub each_denoted_once : List Denoted → List Denoted
each_denoted_once [] = []
each_denoted_once (d ∷ rest) =
    d ∷ filter (λ other. not (same_denoted d other)) (each_denoted_once rest)
