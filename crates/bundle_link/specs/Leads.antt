-- Where the texts of a module lead.
use Rattle.std.specs.Prelude.{ℕ, List, [], ◌∷◌, Option, Some, None, String, string_bytes, bytes_eq, nat_eq, position, if◌then◌else◌}
use Rattle.std.specs.declared.alloc.Global.{Global}
use Rattle.std.specs.Option.{option_or}
use Rattle.bundle_rules.specs.Nodes.{Text}

-- the texts of a module, each with the number of the module to which it leads
abbrev pub Deps : Type 0
Deps = List (String Global × ℕ)

-- what is told of the number to which a text leads by one of these
abbrev pub told_of_text : (ℕ → Option ℕ) → Text → String Global × ℕ → Option ℕ
told_of_text tell s dep = if bytes_eq (string_bytes dep.0) s then tell dep.1 else None

-- the same by all: the last of which something is told
abbrev pub last_told : (ℕ → Option ℕ) → Deps → Text → Option ℕ
last_told tell [] s = None
last_told tell (dep ∷ rest) s = option_or (last_told tell rest s) (told_of_text tell s dep)

-- the number of the module to which a text leads
abbrev pub led : Deps → Text → Option ℕ
led deps s = last_told (λ n. Some n) deps s

-- the place of a module among these numbers
abbrev pub module_place : List ℕ → ℕ → Option ℕ
module_place ids m = position (nat_eq m) ids
