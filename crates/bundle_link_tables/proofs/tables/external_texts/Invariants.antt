-- The texts that were passed are in the set.
use Rattle.std.proofs.Common.{map, take, string_bytes}
use Rattle.bundle_link_tables.specs.Sources.{HasTexts}
use Rattle.bundle_link_tables.proofs.tables.external_texts.Given as goal

abbrev pub invariant-loop-text : goal.invariant-loop-text
invariant-loop-text l = HasTexts l.texts (map string_bytes (take l.text-index l.list))
