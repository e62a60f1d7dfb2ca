-- Numbers of the bindings of a merged tree, for the tree without keywords.
use Rattle.std.specs.Prelude.{ℕ, List, find, option_map, unwrap_or, cond}
use Rattle.bundle_syntax.specs.Item.{Item}
use Rattle.bundle_rules.specs.Places.{Occurrence}
use Rattle.bundle_rules.specs.Scopes.{Es}
use Rattle.bundle_rules.specs.Declarations.{ByContext}
use Rattle.bundle_rules.specs.Denotes.{Denoted, Bound, Global, denotations}
use Rattle.bundle_rules.specs.Renaming.{Numbering, numbered, is_written}
use Rattle.bundle_rules.specs.Mentions.{same_denoted}
use Rattle.bundle_scope_names.proofs.naming_rule.Transfer.{Calling, recalled, recalled_denoted}
use Rattle.bundle_merge_theory.specs.finished.Finished.{denoted_by_table, called_place}

-- the number of what is denoted
abbrev pub number_at : Numbering → Denoted → ℕ
number_at numbers (Bound scope name) = numbers scope name
number_at numbers (Global x) = 0

-- the numbers of the tree without keywords: those of what was denoted
abbrev pub later_of : Calling → List Item → Numbering → Numbering
later_of call tree numbers scope name =
    unwrap_or
    (option_map (number_at numbers)
    (find
    (λ d. same_denoted (recalled_denoted call (called_place call tree) d) (Bound scope name))
    (denotations ByContext Es tree)))
    0

-- the symbol of what is denoted by the numbers of the merged tree
abbrev pub merged_symbol : Numbering → Calling → Denoted → List ℕ
merged_symbol numbers call (Global x) = x
merged_symbol numbers call (Bound scope name) =
    cond (is_written name) (numbered (recalled call name).sym (numbers scope name)) name.sym

-- the symbol of an occurrence by the numbers of the merged tree
abbrev pub named_symbol : Calling → List Item → Numbering → Occurrence → List ℕ
named_symbol call tree numbers o = merged_symbol numbers call (denoted_by_table tree o)
