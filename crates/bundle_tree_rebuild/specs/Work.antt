-- What is asked of a walk that makes a part of a tree anew.
use Rattle.std.specs.Prelude.{Bool, true, false, not, List, Option, None, drop, map, slice_get, option_map, bytes_eq}
use Rattle.bundle_rules.specs.Nodes.{Text}
use Rattle.bundle_rules.specs.Idents.{Ident}
use Rattle.bundle_rules.specs.Rebuilds.{Change}
use Rattle.bundle_tree_places.specs.Marks.{ident_of}
use Rattle.bundle_tree_places.specs.declared.change.Change as r_change
use Rattle.bundle_tree_rebuild.specs.declared.rewrite.Whole.{Whole}
use Rattle.bundle_tree_rebuild.specs.declared.rewrite.Whole.TheVariants as w
use Rattle.bundle_tree_rebuild.specs.declared.rewrite.Rewrite as r_rewrite
use Rattle.bundle_tree_rebuild.specs.declared.rewrite.Rewriting as r_rewriting
use Rattle.bundle_tree_rebuild.specs.declared.work.Spelling.{Spelling}
use Rattle.bundle_tree_rebuild.specs.declared.work.Spelling.TheVariants as s
use Rattle.bundle_tree_rebuild.specs.declared.work.Step as r_step
use Rattle.bundle_tree_rebuild.specs.declared.work.Steps.{Steps}
use Rattle.bundle_tree_rebuild.specs.declared.work.Steps.TheVariants as m

-- what becomes of an occurrence: the identifier that is to stand there, when what is short is
-- spelled out there, and how much of what is around it the identifier stands for
pub record Step : Type 0 where
  pub ident : Ident
  pub spelling : Spelling
  pub whole : Whole

-- what becomes of the occurrences in turn; the identifier that `import.meta` becomes, if it becomes
-- one; and whether the notes of declarations are cleared
pub record Work : Type 0 where
  pub steps : List Step
  pub meta : Option Ident
  pub clears_notes : Bool

-- what becomes of the next occurrence, if anything is asked of it
abbrev pub upcoming : Work → Option Step
upcoming work = slice_get work.steps 0

-- what is left behind the next occurrence
abbrev pub after : Work → Work
after work =
    record { steps = drop 1 work.steps; meta = work.meta; clears_notes = work.clears_notes }

-- whether what is short is spelled out where an identifier of this symbol is to stand in the place
-- of one of the symbol `x`
abbrev pub is_spelled_out_by : Spelling → (sym x : Text) → Bool
is_spelled_out_by (s.Fixed is_spelled_out) sym x = is_spelled_out
is_spelled_out_by s.BySymbol sym x = not (bytes_eq sym x)

-- the change of an occurrence of the symbol `x`
abbrev pub change_at : Text → Step → Change
change_at x step =
    record { ident = step.ident; is_spelled_out = is_spelled_out_by step.spelling step.ident.0 x }

-- the change of the next occurrence, which is one of `x`
abbrev pub next : Work → Text → Option Change
next work x = option_map (change_at x) (upcoming work)

-- just these changes of the occurrences in turn, and all else stays
abbrev pub plain_step : Change → Step
plain_step change =
    record { ident = change.ident; spelling = s.Fixed change.is_spelled_out; whole = w.Alone }

abbrev pub plain : List Change → Work
plain changes = record { steps = map plain_step changes; meta = None; clears_notes = false }

-- What the values of the code stand for.

-- a rewrite: what is short is spelled out where the symbol changes
abbrev pub rewrite_step : r_rewrite.Rewrite → Step
rewrite_step rewrite =
    record { ident = ident_of rewrite.name; spelling = s.BySymbol; whole = rewrite.whole }

-- what a `Rewriting` asks for
abbrev pub work_of : r_rewriting.Rewriting → Work
work_of rewriting =
    record {
      steps = map rewrite_step rewriting.rewrites.now;
      meta = option_map ident_of rewriting.meta;
      clears_notes = true;
    }

-- a change
abbrev pub change_step : r_change.Change → Step
change_step change =
    record
    { ident = ident_of change.ident; spelling = s.Fixed change.is_spelled_out; whole = w.Alone }

-- what the code takes of either
abbrev pub step_of : r_step.Step → Step
step_of step = record { ident = ident_of step.name; spelling = step.spelling; whole = step.whole }

abbrev pub steps_of : Steps → List Step
steps_of (m.Changes changes) = map change_step changes.now
steps_of (m.Rewrites rewrites) = map rewrite_step rewrites.now
