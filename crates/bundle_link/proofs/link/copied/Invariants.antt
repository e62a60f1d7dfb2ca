-- The texts so far are those that were passed.
use Rattle.std.proofs.Common.{◌≡◌, map, take}
use Rattle.std.specs.Prelude.{string_bytes}
use Rattle.bundle_link.proofs.link.copied.Given as goal

abbrev pub invariant-loop-specifier : goal.invariant-loop-specifier
invariant-loop-specifier l =
    map (λ text. string_bytes text) l.external_modules.items
    ≡ map (λ text. string_bytes text) (take l.specifier-index l.config.external_modules.items)
