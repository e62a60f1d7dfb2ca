-- What is found by places, in the words of the definitions, with the numbers of modules.
use Rattle.std.specs.Prelude.{ℕ, List, Option, Some, None, option_map, slice_get}
use Rattle.bundle_rules.specs.Entries as e
use Rattle.bundle_rules.specs.Linking as l
use Rattle.bundle_rules.specs.Tables as r
use Rattle.bundle_link_index.specs.declared.target.TargetRef.{TargetRef as Place}
use Rattle.bundle_link_index.specs.declared.target.TargetRef.TheVariants as p
use Rattle.bundle_link_targets.specs.declared.target.ResolvedTo.{ResolvedTo as Found}
use Rattle.bundle_link_targets.specs.declared.target.ResolvedTo.TheVariants as f
use Rattle.bundle_link_tables.specs.TablesOf.{taken_of}

-- what one takes of another CommonJS module, where both are there
abbrev pub common_js : Option ℕ → Option ℕ → e.Taken → Option l.Target
common_js (Some taker) (Some id) taken = Some (l.CommonJs taker id taken)
common_js _ _ taken = None

-- a target, as it was found by places among these numbers of modules
abbrev pub target_read : List ℕ → Place → Option l.Target
target_read ids (p.Declared m x) = option_map (λ id. l.Declared id x.now) (slice_get ids m)
target_read ids (p.Namespace m) = option_map (λ id. l.Namespace id) (slice_get ids m)
target_read ids (p.External specifier taken) = Some (l.External specifier.now (taken_of taken))
target_read ids (p.CommonJs taker m taken) =
    common_js (slice_get ids taker) (slice_get ids m) (taken_of taken)

-- one target, where it is there
abbrev pub single_target : Option l.Target → r.Resolution
single_target (Some target) = r.One target
single_target None = r.Nothing

-- two targets, where they are there
abbrev pub two : Option l.Target → Option l.Target → r.Resolution
two (Some first) (Some second) = r.Two first second
two _ _ = r.Nothing

-- a resolution, as it was found by places
abbrev pub resolution_read : List ℕ → Found → r.Resolution
resolution_read ids (f.One target) = single_target (target_read ids target)
resolution_read ids f.None = r.Nothing
resolution_read ids (f.Two first second) = two (target_read ids first) (target_read ids second)
resolution_read ids f.ExternalStar = r.ExternalStar
