-- The texts so far are those of the bindings passed.
use Rattle.std.proofs.Common.{◌≡◌, map, take, string_bytes}
use Rattle.std.specs.Option.{option_map}
use Rattle.bundle_scope_names.specs.Called.{keyword_text}
use Rattle.bundle_scope_names.proofs.keywords.texts_of.Given as goal

abbrev pub invariant-loop-binding : goal.invariant-loop-binding
invariant-loop-binding l = map (option_map string_bytes) l.texts.items ≡ map (λ binding. keyword_text binding.sym.now) (take l.binding-index l.bindings)
