-- What a linker answers, with texts of its own, in the words of the definitions.
use Rattle.std.specs.Prelude.{Option, Some, None, string_bytes}
use Rattle.std.specs.declared.string.String.{String}
use Rattle.std.specs.declared.alloc.Global.{Global}
use Rattle.bundle_rules.specs.Entries as e
use Rattle.bundle_rules.specs.Linking as l
use Rattle.bundle_rules.specs.Tables as r
use Rattle.bundle_link.specs.declared.target.Target.{Target}
use Rattle.bundle_link.specs.declared.target.Target.TheVariants as t
use Rattle.bundle_link.specs.declared.target.Resolution.{Resolution}
use Rattle.bundle_link.specs.declared.target.Resolution.TheVariants as a

-- what is taken, as it is answered: a name, or the whole
abbrev pub taken_says : Option (String Global) → e.Taken
taken_says None = e.Whole
taken_says (Some name) = e.Named (string_bytes name)

-- a target, as it is answered
abbrev pub target_says : Target → l.Target
target_says (t.Decl id name) = l.Declared id (string_bytes name)
target_says (t.Namespace id) = l.Namespace id
target_says (t.External specifier name) = l.External (string_bytes specifier) (taken_says name)
target_says (t.Cjs taker id name) = l.CommonJs taker id (taken_says name)

-- a resolution, as it is answered
abbrev pub resolution_says : Resolution → r.Resolution
resolution_says (a.One target) = r.One (target_says target)
resolution_says a.None = r.Nothing
resolution_says (a.Two first second) = r.Two (target_says first) (target_says second)
resolution_says a.ExternalStar = r.ExternalStar
