-- The symbols that occurrences get where bindings are called otherwise first, as keywords are.
use Rattle.std.proofs.Common.{ℕ, cond, List}
use Rattle.std.specs.Prelude.{is_some}
use Rattle.bundle_rules.specs.Denotes.{Denoted, Bound, Global}
use Rattle.bundle_rules.specs.Renaming.{Numbering, numbered}
use Rattle.bundle_scope_names.proofs.naming_rule.Transfer.{Calling, called_symbol}

-- the symbol afterwards of what denotes this: a global keeps its symbol, and so does the implicit `arguments`
abbrev pub called_after : Numbering → Calling → Denoted → List ℕ
called_after numbers call (Global x) = x
called_after numbers call (Bound scope name) = cond (is_some name.ctxt) (numbered (called_symbol call name) (numbers scope name)) name.sym
