-- What is said of modules by their numbers, where each number becomes another.
use Rattle.std.specs.Prelude.{ℕ, List, map}
use Rattle.bundle_rules.specs.Linking.{Target, Declared, Namespace, External, CommonJs}
use Rattle.bundle_rules.specs.Marks.{MarkOf, Begins, Ends, Empty, Name, Word}
use Rattle.bundle_rules.specs.Meaning.{Label, Of, Parameter, Load, Meta, Helper, Meant, Inside, Known, Unbound, Mark, Replacement, ByName, ByCall, Labelling}
use Rattle.bundle_rules.specs.Injected.{NamedTarget}
use Rattle.bundle_rules.specs.Bundle.{Cause, Own, ImportsNames, ImportsWhole, ImportsNothing, Helps, Defines, Loads, HoldsMeta, HoldsNamespace, Stars, Exports}
use Rattle.bundle_merge_theory.specs.walked.Renaming.{ItemMeaning}
use Rattle.bundle_merge_theory.specs.composed.Noted.{NotedItem, AsWhole, AsFunction}
use Rattle.bundle_merge_theory.specs.planned.Placed.{id_at}

-- a target
abbrev pub target_by : (ℕ → ℕ) → Target → Target
target_by name (Declared m x) = Declared (name m) x
target_by name (Namespace m) = Namespace (name m)
target_by name (External s its) = External s its
target_by name (CommonJs m c its) = CommonJs (name m) (name c) its

-- a label
abbrev pub label_by : (ℕ → ℕ) → Label → Label
label_by name (Of t) = Of (target_by name t)
label_by name (Parameter c x) = Parameter (name c) x
label_by name (Load c) = Load (name c)
label_by name (Meta m) = Meta (name m)
label_by name Helper = Helper

-- what a name means
abbrev pub meant_by : (ℕ → ℕ) → Meant → Meant
meant_by name (Inside n) = Inside n
meant_by name (Known l) = Known (label_by name l)
meant_by name (Unbound x) = Unbound x

-- a mark with something else in the place of a name
abbrev pub mark_with : {N M : Type 0} → (N → M) → MarkOf N → MarkOf M
mark_with f (Begins field head) = Begins field head
mark_with f Ends = Ends
mark_with f (Empty field) = Empty field
mark_with f (Name field n) = Name field (f n)
mark_with f (Word field x) = Word field x

-- marks
abbrev pub marks_by : (ℕ → ℕ) → List Mark → List Mark
marks_by name marks = map (mark_with (meant_by name)) marks

-- what a node is replaced by
abbrev pub replacement_by : (ℕ → ℕ) → Replacement → Replacement
replacement_by name (ByName l) = ByName (label_by name l)
replacement_by name (ByCall l) = ByCall (label_by name l)

-- which binding stands for what
abbrev pub labelled_by : (ℕ → ℕ) → Labelling → Labelling
labelled_by name labels = map (λ pair. (pair.0, label_by name pair.1)) labels

-- a name with what it is to stand for
abbrev pub pair_by : (ℕ → ℕ) → NamedTarget → NamedTarget
pair_by name pair = (pair.0, target_by name pair.1)

-- a cause
abbrev pub cause_by : (ℕ → ℕ) → Cause → Cause
cause_by name (Own m k) = Own (name m) k
cause_by name (ImportsNames s) = ImportsNames s
cause_by name (ImportsWhole s) = ImportsWhole s
cause_by name (ImportsNothing s) = ImportsNothing s
cause_by name Helps = Helps
cause_by name (Defines c) = Defines (name c)
cause_by name (Loads m c) = Loads (name m) (name c)
cause_by name (HoldsMeta m) = HoldsMeta (name m)
cause_by name (HoldsNamespace d) = HoldsNamespace (name d)
cause_by name (Stars s) = Stars s
cause_by name Exports = Exports

-- what is told of a statement
abbrev pub told_renumbered : (ℕ → ℕ) → ItemMeaning → ItemMeaning
told_renumbered name told = (map (meant_by name) told.0, marks_by name told.1)

-- what is told of an item
abbrev pub noted_by : (ℕ → ℕ) → NotedItem → NotedItem
noted_by name (AsWhole told) = AsWhole (told_renumbered name told)
noted_by name (AsFunction front names insides tolds) =
    AsFunction front (map (label_by name) names) insides (map (told_renumbered name) tolds)

-- a cause, where each number is a place in a list and becomes what stands there
abbrev pub cause_at : List ℕ → Cause → Cause
cause_at list = cause_by (id_at list)
