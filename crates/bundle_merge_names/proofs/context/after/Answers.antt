-- The next context is one more, or the number past the last.
use Rattle.std.proofs.Common.{rules, ◌≡◌, ◌+◌, ◌<◌, ℕ, suc, Option, Some, None, unwrap_or, arith}
use Rattle.std.specs.Option.{SomeIff}
use Rattle.bundle_merge_names.proofs.context.after.Goals as goal

next-is : (next : Option ℕ) (n : ℕ) → n < 4294967296 →
    SomeIff next (n + 1 < 4294967296) (n + 1) → unwrap_or next 4294967296 ≡ suc n
next-is None n below told = omega (arith, below, told)
next-is (Some m) n below told = omega (arith, told)

pub returns : goal.returns
returns c = next-is c.checked_add.result c.args.context (search rules) c.checked_add.ensures
